use Rattle.flat_memory.specs.Spaces.{spaces_of}
use Rattle.space_loading.proofs.Tried.{maps_bare}
use Rattle.space_loading.proofs.tests.FreshMachine.map.Goals as goal

pub returns-in-Ok-clause-does : goal.returns-in-Ok-clause-does
returns-in-Ok-clause-does c = maps_bare c.args.pid.0 c.args.areas (spaces_of c.args.self.now.memory) (spaces_of c.create.new.self) (c.args.self.now.bare c.if-self.false) c.in-Ok.ensures
