use Rattle.std.proofs.Common.{List, sym, subst}
use Rattle.lego_base.specs.Files.{File}
use Rattle.file_table.specs.Numbers.{NumbersBelow}
use Rattle.file_table.proofs.Numbered.{below_without}
use Rattle.plain_files.proofs.files.PlainFiles.free.Goals as goal

pub invariant_of-self : goal.invariant_of-self
invariant_of-self c =
    let P : List File → Type 0 = NumbersBelow c.self.inside.next in
    subst P (sym c.remove.ensures) (below_without c.self.inside.next c.args.file.0 c.self.inside.contents c.self.invariant)
