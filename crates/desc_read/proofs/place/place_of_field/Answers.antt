use Rattle.std.proofs.Common.{◌≡◌, ℕ, List, ◌∷◌, ◌++◌, IfOk, codes, decimal, append_assoc, sym, ap, subst, ◌∙◌}
use Rattle.desc_read.specs.Faults.{list_name}
use Rattle.desc_read.proofs.place.place_of_field.Goals as goal

regrouped : (list index name : List ℕ) → list ++ 91 ∷ (index ++ 93 ∷ 46 ∷ name) ≡ list ++ codes "[" ++ index ++ codes "]." ++ name
regrouped list index name = sym (simp append_assoc)

pub returns-in_ok-place-in-Some : goal.returns-in_ok-place-in-Some
returns-in_ok-place-in-Some c =
    let index = decimal c.in-Some.entry.index in
    let name = c.args.name.now in
    let place : c.as_bytes-in-Some.result.now ≡ list_name c.in-Some.entry.list ++ codes "[" ++ index ++ codes "]." ++ name =
    c.as_bytes-in-Some.ensures.value ∙ c.in_ok-place-in-Some.ensures.ok ∙ regrouped c.name-list.result.now index name ∙ ap (λ (list : List ℕ). list ++ codes "[" ++ index ++ codes "]." ++ name) c.name-list.ensures in
    rw (c.in-Some.is) (subst (λ (want : List ℕ). IfOk c.from_slice-in-Some.result (λ b. b ≡ want)) place c.from_slice-in-Some.ensures)
