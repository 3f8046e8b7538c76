use Rattle.std.proofs.Common.{◌≡◌, ◌<◌, ◌≤◌, length, List, refl, sym, ◌∙◌, ap, subst, arith}
use Rattle.std.proofs.lemmas.Bool.{false≢true}
use Rattle.std.proofs.lemmas.Result.{err_from_is_err_and}
use Rattle.lego_base.specs.declared.records.Area.{Area}
use Rattle.area_list.specs.declared.TheConstants.{MOST_RUNS}
use Rattle.area_list.specs.Runs.{IsCanonical, cut_runs}
use Rattle.area_list.proofs.Unique.{cut-clears}
use Rattle.area_list.proofs.areas.Areas.cut.Goals as goal
use Rattle.area_list.proofs.areas.Areas.cut.Goals.{After-swap}

-- the runs that are read are those that the areas have, and canonical
canonical : (c : After-swap) → IsCanonical c.args.self.now
canonical c = let P : List Area → Type 0 = IsCanonical in subst P c.self.view_is c.self.invariant

-- the runs that were built take their place
built : (c : After-swap) → c.swap.new.self ≡ cut_runs c.args.first.0 c.args.pages c.args.self.now
built c = c.swap.ensures.own ∙ c.in_ok-build_cut.ensures.ok ∙ ap (λ runs. cut_runs c.args.first.0 c.args.pages runs) (c.as_slice.ensures.items ∙ c.self.view_is)

canonical-after : (c : After-swap) → IsCanonical c.swap.new.self
canonical-after c = let P : List Area → Type 0 = IsCanonical in subst P (sym (built c)) (cut-clears c.args.first.0 c.args.pages c.args.self.now c.requires (canonical c)).0

pub returns-in_err-build_cut-clause-too_many : goal.returns-in_err-build_cut-clause-too_many
returns-in_err-build_cut-clause-too_many c =
    let over : MOST_RUNS < length (cut_runs c.args.first.0 c.args.pages c.args.self.now) = let P : List Area → Type 0 = λ runs. MOST_RUNS < length (cut_runs c.args.first.0 c.args.pages runs) in subst P (c.as_slice.ensures.items ∙ c.self.view_is) c.in_err-build_cut.ensures.err in
    let p = err_from_is_err_and c.from_residual.result c.from_residual.ensures.1 in
    rw p.1 (λ _. over, λ _. refl)

pub invariant_of-self-2 : goal.invariant_of-self-2
invariant_of-self-2 c = canonical-after c

pub returns-clause-ok : goal.returns-clause-ok
returns-clause-ok c = built c

pub returns-clause-pages : goal.returns-clause-pages
returns-clause-pages c page = rw (built c) ((cut-clears c.args.first.0 c.args.pages c.args.self.now c.requires (canonical c)).1 page)

pub returns-clause-canonical : goal.returns-clause-canonical
returns-clause-canonical c = canonical-after c

pub returns-clause-too_many : goal.returns-clause-too_many
returns-clause-too_many c =
    let most : length (cut_runs c.args.first.0 c.args.pages c.args.self.now) ≤ MOST_RUNS = let P : List Area → Type 0 = λ runs. length runs ≤ MOST_RUNS in subst P (built c) c.swap.ensures.few in
    (λ e. absurd (false≢true e), λ h. absurd (omega arith))
