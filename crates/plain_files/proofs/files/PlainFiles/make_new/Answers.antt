use Rattle.std.proofs.Common.{◌≡◌, [], ◌∷◌, ◌++◌, ◌∙◌, List, ap, subst, sym, refl}
use Rattle.lego_base.specs.Files.{File, without_file}
use Rattle.file_table.specs.Numbers.{NumbersBelow}
use Rattle.file_table.proofs.Numbered.{below_push, without_new}
use Rattle.plain_files.proofs.files.PlainFiles.make_new.Goals as goal
use Rattle.plain_files.proofs.files.PlainFiles.make_new.Goals.{After-remove}

-- the new file is taken out again
undone : (c : After-remove) → c.remove.new.self ≡ c.self.inside.contents
undone c =
    c.remove.ensures ∙ ap (without_file c.self.inside.next) c.in_ok-add.ensures.ok
    ∙ without_new (record { file = c.self.inside.next; bytes = [] }) c.self.inside.contents c.self.invariant

pub invariant_of-self-in-Err : goal.invariant_of-self-in-Err
invariant_of-self-in-Err c = let P : List File → Type 0 = NumbersBelow c.self.inside.next in subst P (sym (undone c)) c.self.invariant

pub returns-in-Err-clause-err : goal.returns-in-Err-clause-err
returns-in-Err-clause-err c =
    let names : c.add-2.new.self ≡ c.self.inside.names = c.in-Err.ensures.err in
    (λ i. record { files = undone c i; names = names i; next = c.self.inside.next }) ∙ c.self.view_is

pub invariant_of-self-2 : goal.invariant_of-self-2
invariant_of-self-2 c =
    let P : List File → Type 0 = NumbersBelow c.in-Some.next in
    let pushed = below_push c.self.inside.next c.self.inside.contents (record { file = c.self.inside.next; bytes = [] }) refl c.self.invariant in
    subst P (sym c.in_ok-add.ensures.ok) (subst (λ n. NumbersBelow n (c.self.inside.contents ++ record { file = c.self.inside.next; bytes = [] } ∷ [])) (sym c.in-Some.ensures.1) pushed)
