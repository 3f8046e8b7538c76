use Rattle.std.proofs.Common.{◌∙◌, ap}
use Rattle.lego_base.specs.Files.{named}
use Rattle.file_table.proofs.Named.{name_found}
use Rattle.file_table.proofs.names.Names.find.Goals as goal

pub returns : goal.returns
returns c = c.copied.ensures ∙ c.get.ensures.value ∙ name_found c.args.name.now c.self.inside.entries.entries ∙ ap (λ names. named names c.args.name.now) c.self.view_is
