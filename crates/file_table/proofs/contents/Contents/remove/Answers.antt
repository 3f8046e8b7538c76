use Rattle.std.proofs.Common.{◌≡◌, ◌∙◌, List, ap, map, subst, sym}
use Rattle.std.specs.Cmp.{nat_eq_equiv}
use Rattle.lego_base.specs.Files.{File, without_file}
use Rattle.file_table.specs.Entries.{file_of}
use Rattle.file_table.specs.Numbers.{NumbersRise}
use Rattle.file_table.proofs.Numbered.{removed, rise_without}
use Rattle.file_table.proofs.contents.Contents.remove.Goals as goal
use Rattle.file_table.proofs.contents.Contents.remove.Goals.{Joined-shift_remove}

left : (c : Joined-shift_remove) → map file_of c.shift_remove.new.self.entries ≡ without_file c.args.file.0 (map file_of c.self.inside.files.entries)
left c = ap (map file_of) c.shift_remove.ensures.entries ∙ removed _ c.args.file.0 (λ k. nat_eq_equiv.symm c.args.file.0 k.0) c.self.inside.files.entries c.self.invariant

pub invariant_of-self : goal.invariant_of-self
invariant_of-self c = let P : List File → Type 0 = NumbersRise in subst P (sym (left c)) (rise_without c.args.file.0 (map file_of c.self.inside.files.entries) c.self.invariant)

pub returns : goal.returns
returns c = left c ∙ ap (without_file c.args.file.0) c.self.view_is
