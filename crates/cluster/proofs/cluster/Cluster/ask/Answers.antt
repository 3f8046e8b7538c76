use Rattle.std.proofs.Common.{[], refl}
use Rattle.cluster.proofs.cluster.Cluster.ask.Goals as goal

pub ask_with-requires : goal.ask_with-requires
ask_with-requires g c none = record { new = []; before = c.args.self.now; brings = record { same = refl; owned = refl }; may = c.requires none }

pub returns : goal.returns
returns g c = c.ask_with.ensures [] c.args.self.now (record { same = refl; owned = refl }) c.requires
