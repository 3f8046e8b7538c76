use Rattle.std.proofs.Common.{◌∙◌, ap, is_some, sym}
use Rattle.std.proofs.lemmas.Bool.{false≢true}
use Rattle.std.specs.Cmp.{nat_eq_equiv}
use Rattle.lego_base.specs.Files.{file_bytes, is_file}
use Rattle.file_table.proofs.Numbered.{bytes_found, found}
use Rattle.file_table.proofs.contents.Contents.get.Goals as goal

pub unreachable-requires : goal.unreachable-requires
unreachable-requires c =
    absurd (false≢true (ap is_some c.in-None.ensures.value ∙ found _ c.args.file.0 (λ k. nat_eq_equiv.symm c.args.file.0 k.0) c.self.inside.files.entries
    ∙ ap (λ files. is_file files c.args.file.0) c.self.view_is ∙ c.requires))

pub returns-clause-bytes : goal.returns-clause-bytes
returns-clause-bytes c =
    c.as_slice.ensures.value ∙ sym (bytes_found _ c.args.file.0 (λ k. nat_eq_equiv.symm c.args.file.0 k.0) c.self.inside.files.entries c.in-Some.bytes.now (sym c.in-Some.ensures.value))
    ∙ ap (λ files. file_bytes files c.args.file.0) c.self.view_is
