use Rattle.lego_base.specs.Files.{file_bytes}
use Rattle.lego_base.specs.Pieces.{of_size}
use Rattle.plain_files.proofs.Below.{below_either}
use Rattle.plain_files.proofs.files.PlainFiles.cut.Goals as goal

pub invariant_of-self : goal.invariant_of-self
invariant_of-self c =
    let files = c.self.inside.contents in
    below_either c.self.inside.next c.args.file.0 (of_size c.args.size (file_bytes files c.args.file.0)) files c.set_size.new.self c.set_size.result c.set_size.ensures.ok c.set_size.ensures.err c.self.invariant
