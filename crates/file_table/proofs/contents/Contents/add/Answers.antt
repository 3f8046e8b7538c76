use Rattle.std.proofs.Common.{◌≡◌, [], ◌∷◌, ◌++◌, ◌∙◌, List, ap, map, subst, sym}
use Rattle.std.proofs.lemmas.List.{map-append}
use Rattle.std.specs.Cmp.{nat_eq_equiv}
use Rattle.indexmap.proofs.CallerLemmas.{insert_entry-new}
use Rattle.lego_base.specs.Files.{File}
use Rattle.file_table.specs.Entries.{file_of}
use Rattle.file_table.specs.Numbers.{NumbersBelow, NumbersRise}
use Rattle.file_table.proofs.Numbered.{not_found, rise_push}
use Rattle.file_table.proofs.contents.Contents.add.Goals as goal
use Rattle.file_table.proofs.contents.Contents.add.Goals.{Joined-branch-2}

below : (c : Joined-branch-2) → NumbersBelow c.args.file.0 (map file_of c.self.inside.files.entries)
below c = let P : List File → Type 0 = NumbersBelow c.args.file.0 in subst P (sym c.self.view_is) c.requires

added : (c : Joined-branch-2) → map file_of c.insert.new.self.entries ≡ map file_of c.self.inside.files.entries ++ record { file = c.args.file.0; bytes = [] } ∷ []
added c =
    ap (map file_of) (c.in_ok-insert.ensures.entries ∙ insert_entry-new _ c.self.inside.files c.args.file c.new.result (not_found _ c.args.file.0 (λ k. nat_eq_equiv.symm c.args.file.0 k.0) c.self.inside.files.entries (below c)))
    ∙ map-append file_of c.self.inside.files.entries ((c.args.file, c.new.result) ∷ [])
    ∙ ap (λ bytes. map file_of c.self.inside.files.entries ++ record { file = c.args.file.0; bytes = bytes } ∷ []) c.new.ensures.items

pub invariant_of-self-2 : goal.invariant_of-self-2
invariant_of-self-2 c =
    let P : List File → Type 0 = NumbersRise in
    subst P (sym (added c)) (rise_push (map file_of c.self.inside.files.entries) (record { file = c.args.file.0; bytes = [] }) c.self.invariant (below c))

pub returns-clause-ok : goal.returns-clause-ok
returns-clause-ok c = added c ∙ ap (λ files. files ++ record { file = c.args.file.0; bytes = [] } ∷ []) c.self.view_is
