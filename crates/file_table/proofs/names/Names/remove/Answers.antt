use Rattle.std.proofs.Common.{◌∙◌, ap, map}
use Rattle.lego_base.specs.Files.{without_name}
use Rattle.file_table.specs.Entries.{name_of}
use Rattle.file_table.proofs.Named.{name_removed}
use Rattle.file_table.proofs.names.Names.remove.Goals as goal

pub returns : goal.returns
returns c =
    ap (map name_of) c.shift_remove.ensures.entries ∙ name_removed c.args.name.now c.self.inside.entries.entries c.self.invariant
    ∙ ap (without_name c.args.name.now) c.self.view_is
