use Rattle.std.proofs.Common.{◌∙◌, ap, eqb}
use Rattle.std.specs.List.{list_any}
use Rattle.lego_base.specs.Files.{has_name}
use Rattle.lego_base.specs.declared.ids.FileNo.{FileNo}
use Rattle.file_table.proofs.Named.{file_named}
use Rattle.file_table.proofs.names.Names.has.Goals as goal

pub returns : goal.returns
returns c =
    c.contains.ensures.value ∙ ap (list_any (λ (f : FileNo). eqb f.0 c.args.file.0)) (c.as_slice.ensures ∙ c.values.ensures.rest)
    ∙ file_named c.args.file c.self.inside.entries.entries ∙ ap (λ names. has_name names c.args.file.0) c.self.view_is
