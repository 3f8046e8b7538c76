use Rattle.lego_base.specs.Files.{file_bytes}
use Rattle.lego_base.specs.Pieces.{written_at}
use Rattle.plain_files.proofs.Below.{below_either}
use Rattle.plain_files.proofs.files.PlainFiles.write.Goals as goal

pub invariant_of-self : goal.invariant_of-self
invariant_of-self c =
    let files = c.self.inside.contents in
    below_either c.self.inside.next c.args.file.0 (written_at (file_bytes files c.args.file.0) c.args.off c.args.bytes.now) files c.write_at.new.self c.write_at.result c.write_at.ensures.ok c.write_at.ensures.err c.self.invariant
