-- A plan's files, fetched one after the other.
use Rattle.std.proofs.Common.{◌≡◌, ℕ, ◌+◌, ◌<◌, ◌≤◌, inl, inr, List, [], ◌∷◌, ◌++◌, length, drop, get_or, Option, Some, None, Result, Ok, Err, IsErrAnd, refl, sym, ◌∙◌, ap, subst, append-nil, append_assoc, arith}
use Rattle.std.proofs.lemmas.List.{drop_more}
use Rattle.lego_base.specs.declared.report.FileOut.{FileOut}
use Rattle.host_io.specs.Depots.{Files, DepotState, Has}
use Rattle.host_io.proofs.CountLaws.{Rose-earlier}
use Rattle.desc_read.specs.declared.plan.FileFrom.{FileFrom}
use Rattle.lego_top.specs.declared.depot_file.FetchFault.{FetchFault}
use Rattle.lego_top.specs.declared.depot_file.FetchFault.TheVariants as fetch
use Rattle.lego_top.specs.Inputs.{AreThere, ComesNext}
use Rattle.lego_top.specs.Stages.{Unfetched, Fetched, FetchedAll}

-- The first n of the sources gave these files. Files that the others give make all of them together with these, and what comes
-- next among the others comes next among all.
pub record FetchedSoFar (old now : DepotState) (sources : List FileFrom) (n : ℕ) (files : List FileOut) : Type 0 where
  pub later : old.faults ≤ now.faults
  pub same : now.files ≡ old.files
  pub there : (rest : List FileOut) → AreThere old.files (drop n sources) rest → AreThere old.files sources (files ++ rest)
  pub next : (name : List ℕ) → ComesNext old.files name (drop n sources) → ComesNext old.files name sources

pub none_fetched : (state : DepotState) (sources : List FileFrom) → FetchedSoFar state state sources 0 []
none_fetched state sources = record { later = omega arith; same = refl; there = λ rest there. there; next = λ name comes. comes }

module _ (old now : DepotState) (sources : List FileFrom) (n : ℕ) (files : List FileOut) (so : FetchedSoFar old now sources n files) where
  module _ (source : FileFrom) (some : n < length sources) (is : source ≡ get_or sources n source) (new : DepotState) (later : now.faults ≤ new.faults) where
    rest_is : drop n sources ≡ source ∷ drop (n + 1) sources
    rest_is = drop_more sources n source some ∙ ap (λ (s : FileFrom). s ∷ drop (n + 1) sources) (sym is)

    there_before : (name : List ℕ) (entry : Option (List ℕ)) → Has now.files name entry → Has old.files name entry
    there_before name entry has = subst (λ (told : Option Files). Has told name entry) so.same has

    abbrev comes_next : (name : List ℕ) → ComesNext old.files name (source ∷ drop (n + 1) sources) → ComesNext old.files name sources
    comes_next name comes = so.next name (subst (λ (sources : List FileFrom). ComesNext old.files name sources) (sym rest_is) comes)

    pub one_fetched : (bytes : List ℕ) → new.files ≡ now.files → Fetched now new source.from (Ok bytes) → FetchedSoFar old new sources (n + 1) (files ++ record { name = source.path; bytes = bytes } ∷ [])
    one_fetched bytes same fetched =
        let file : FileOut = record { name = source.path; bytes = bytes } in
        let has : Has old.files source.from (Some bytes) = there_before source.from (Some bytes) fetched.0 in
        record {
          later = omega (arith, so.later, later);
          same = same ∙ so.same;
          there = λ rest there.
              subst (λ (files : List FileOut). AreThere old.files sources files) (sym (append_assoc files (file ∷ []) rest))
              (so.there (file ∷ rest) (subst (λ (sources : List FileFrom). AreThere old.files sources (file ∷ rest)) (sym rest_is) (refl, has, fetched.1, there)));
          next = λ name comes. comes_next name (inr ((bytes, has, fetched.1), comes));
        }

    pub not_fetched_next : (fault : FetchFault) → Unfetched now new source.from fault → FetchedAll old new sources (Err fault)
    not_fetched_next (fetch.Missing missing) cause = (
      comes_next missing (inl (sym cause.0)),
      subst (λ (name : List ℕ). Has old.files name None) (sym cause.0) (there_before source.from None cause.1),
    )
    not_fetched_next (fetch.Long long) cause = (
      cause.0,
      comes_next long (inl (sym cause.1)),
      subst (λ (name : List ℕ). Has old.files name (Some cause.0)) (sym cause.1) (there_before source.from (Some cause.0) cause.2),
      cause.3,
    )
    not_fetched_next fetch.Depot cause = Rose-earlier old.faults now.faults new.faults so.later cause
    not_fetched_next fetch.NoMemory cause = tt

  pub all_fetched : drop n sources ≡ [] → FetchedAll old now sources (Ok files)
  all_fetched all =
      subst (λ (files : List FileOut). AreThere old.files sources files) (append-nil files)
      (so.there [] (subst (λ (sources : List FileFrom). AreThere old.files sources []) (sym all) tt))

pub fetched_with : (old new : DepotState) (sources : List FileFrom) (result : Result (List FileOut) FetchFault) (fault : FetchFault) → IsErrAnd result (λ e. e ≡ fault) → FetchedAll old new sources (Err fault) → FetchedAll old new sources result
fetched_with old new sources (Ok files) fault is cause = absurd is
fetched_with old new sources (Err e) fault is cause = subst (λ (e : FetchFault). FetchedAll old new sources (Err e)) (sym is) cause
