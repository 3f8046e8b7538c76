use Rattle.std.proofs.Common.{◌∙◌, ap}
use Rattle.std.specs.Cmp.{nat_eq_equiv}
use Rattle.lego_base.specs.Files.{is_file}
use Rattle.file_table.proofs.Numbered.{found}
use Rattle.file_table.proofs.contents.Contents.has.Goals as goal

pub returns : goal.returns
returns c =
    c.contains_key.ensures ∙ found _ c.args.file.0 (λ k. nat_eq_equiv.symm c.args.file.0 k.0) c.self.inside.files.entries
    ∙ ap (λ files. is_file files c.args.file.0) c.self.view_is
