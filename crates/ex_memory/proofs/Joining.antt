-- Runs of areas that rise are joined by putting one after the other.
use Rattle.std.proofs.Common.{◌≡◌, ◌∙◌, ◌⊎◌, ◌+◌, ◌<◌, ◌≤◌, ◌&&◌, [], ◌∷◌, ◌++◌, ℕ, Bool, List, None, Option, Some, ap, arith, cond, drop, false, inl, inr, le-ltb, le-leb, leb, length, lt-ltb, ltb, refl, subst, suc, sym, true, zero}
use Rattle.std.proofs.lemmas.List.{drop_more}
use Rattle.std.specs.Prelude.{slice_index_or}
use Rattle.std.proofs.lemmas.Bool.{cond-false, cond-true, lt-leb}
use Rattle.lego_base.specs.Space.{perms_of}
use Rattle.lego_base.specs.declared.perms.Perms.{Perms}
use Rattle.lego_base.specs.declared.records.Area.{Area}
use Rattle.lego_base.specs.declared.sizes.TheConstants.{PAGES_END}
use Rattle.area_list.proofs.Canonical.{IsWithin, canonical-extended, within-extended, within-le, within-upper}
use Rattle.area_list.proofs.Lengths.{length-joined}
use Rattle.area_list.proofs.Pages.{either, either-none, page_cases, perms-append, perms-extended, perms-hit, perms-miss}
use Rattle.area_list.proofs.Unique.{put-sets, unique}
use Rattle.area_list.specs.Runs.{IsCanonical, end_of, extended, in_range, joined, put_runs}

-- at or above rising runs nothing is mapped
past : (low high : ℕ) (runs : List Area) (page : ℕ) → IsWithin low high runs → high ≤ page → perms_of runs page ≡ None
past low high [] page h k = refl
past low high (area ∷ runs) page h k =
    let top = within-le (end_of area) high runs h.2 in
    perms-miss area runs page (inr (omega (arith, top, k))) ∙ past (end_of area) high runs page h.2 k

range-in : (first pages page : ℕ) (x y : Option Perms) → first ≤ page → page < first + pages → in_range first pages page x y ≡ x
range-in first pages page x y lo hi = cond-true (leb first page && ltb page (first + pages)) x y (ap (λ (b : Bool). b && ltb page (first + pages)) (le-leb first page lo) ∙ lt-ltb page (first + pages) hi)

and-false : (a : Bool) {b : Bool} → b ≡ false → (a && b) ≡ false
and-false true e = e
and-false false e = refl

range-out : (first pages page : ℕ) (x y : Option Perms) → (page < first) ⊎ (first + pages ≤ page) → in_range first pages page x y ≡ y
range-out first pages page x y (inl below) = cond-false (leb first page && ltb page (first + pages)) x y (ap (λ (b : Bool). b && ltb page (first + pages)) (lt-leb first page below))
range-out first pages page x y (inr above) = cond-false (leb first page && ltb page (first + pages)) x y (and-false (leb first page) (le-ltb page (first + pages) above))

-- the run after them is joined to them
pub put-last : (areas : List Area) (a : Area) → IsCanonical areas → IsWithin 0 a.first.0 areas → 0 < a.pages → end_of a ≤ PAGES_END → put_runs a.first.0 a.pages a.perms areas ≡ extended areas a
put-last areas a canonical within some ends =
    let put = put-sets a.first.0 a.pages a.perms areas ends canonical in
    unique (put_runs a.first.0 a.pages a.perms areas) (extended areas a) put.0 (canonical-extended 0 areas a canonical within some ends)
    (λ page. put.1 page ∙ by page (page_cases a page) ∙ sym (perms-extended areas a page ∙ perms-append areas (a ∷ []) page))
  where
    by : (page : ℕ) → ((a.first.0 ≤ page) × (page < end_of a)) ⊎ ((page < a.first.0) ⊎ (end_of a ≤ page)) → in_range a.first.0 a.pages page (Some a.perms) (perms_of areas page) ≡ either (perms_of areas page) (perms_of (a ∷ []) page)
    by page (inl (lo, hi)) =
        range-in a.first.0 a.pages page (Some a.perms) (perms_of areas page) lo hi
        ∙ sym (ap (λ (o : Option Perms). either o (perms_of (a ∷ []) page)) (past 0 a.first.0 areas page within lo) ∙ perms-hit a [] page lo hi)
    by page (inr miss) =
        range-out a.first.0 a.pages page (Some a.perms) (perms_of areas page) miss
        ∙ sym (ap (either (perms_of areas page)) (perms-miss a [] page miss) ∙ either-none (perms_of areas page))

-- WHAT IS LEFT: joined to what there is, it makes the whole
pub record Going (areas rest all : List Area) : Type 0 where
  pub canonical : IsCanonical areas
  pub end : ℕ
  pub before : IsWithin 0 end areas
  pub after : IsWithin end PAGES_END rest
  pub whole : joined areas rest ≡ joined [] all

-- an element of runs that rise, with those after it
pub goes-on : (areas rest all : List Area) (a : Area) → Going areas (a ∷ rest) all → Going (put_runs a.first.0 a.pages a.perms areas) rest all
goes-on areas rest all a going =
    let within : IsWithin 0 a.first.0 areas = within-upper 0 going.end a.first.0 areas going.after.0 going.before in
    let ends : end_of a ≤ PAGES_END = within-le (end_of a) PAGES_END rest going.after.2 in
    let put = put-last areas a going.canonical within going.after.1 ends in
    record {
      canonical = subst IsCanonical (sym put) (canonical-extended 0 areas a going.canonical within going.after.1 ends);
      end = end_of a;
      before = subst (IsWithin 0 (end_of a)) (sym put) (within-extended 0 areas a within going.after.1);
      after = going.after.2;
      whole = ap (λ (runs : List Area). joined runs rest) put ∙ going.whole;
    }

pub begins : (all : List Area) → IsWithin 0 PAGES_END all → Going [] all all
begins all within = record { canonical = tt; end = 0; before = omega arith; after = within; whole = refl }

-- none of them is one too many, where the whole isn't
pub fits : (areas rest all : List Area) (a : Area) (most : ℕ) → Going areas (a ∷ rest) all → length (joined [] all) ≤ most → length (put_runs a.first.0 a.pages a.perms areas) ≤ most
fits areas rest all a most going few =
    let next = goes-on areas rest all a going in
    let longer = length-joined (put_runs a.first.0 a.pages a.perms areas) rest in
    let whole = ap length next.whole in
    omega (arith, longer, whole, few)

-- RUN BY RUN
abbrev pub run_at : List Area → ℕ → Area
run_at runs i = slice_index_or runs i (record { first = record { 0 = 0 }; pages = 0; perms = record { 0 = 0 } })

module _ (areas runs all : List Area) (i : ℕ) (below : i < length runs) (going : Going areas (drop i runs) all) where
  here : Going areas (run_at runs i ∷ drop (i + 1) runs) all
  here = subst (λ (rest : List Area). Going areas rest all) (drop_more runs i (record { first = record { 0 = 0 }; pages = 0; perms = record { 0 = 0 } }) below) going

  pub run_ends : end_of (run_at runs i) ≤ PAGES_END
  run_ends = within-le (end_of (run_at runs i)) PAGES_END (drop (i + 1) runs) here.after.2

  pub run_goes_on : (new : List Area) → new ≡ put_runs (run_at runs i).first.0 (run_at runs i).pages (run_at runs i).perms areas → Going new (drop (i + 1) runs) all
  run_goes_on new is = subst (λ (areas : List Area). Going areas (drop (i + 1) runs) all) (sym is) (goes-on areas (drop (i + 1) runs) all (run_at runs i) here)

  pub run_fits : (most : ℕ) → length (joined [] all) ≤ most → most < length (put_runs (run_at runs i).first.0 (run_at runs i).pages (run_at runs i).perms areas) → ⊥
  run_fits most few many = let fit = fits areas (drop (i + 1) runs) all (run_at runs i) most here few in omega (arith, fit, many)
