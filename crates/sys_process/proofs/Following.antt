-- What follows a call.
use Rattle.std.proofs.Common.{◌≡◌, refl, ◌++◌, ap, List}
use Rattle.linux_model.specs.Effects.{Effect, applies}
use Rattle.linux_model.specs.State.{Kernel, Process}
use Rattle.linux_model.specs.Calls.{called}
use Rattle.linux_model.specs.Managed.{Managed, with_managed}
use Rattle.linux_model.proofs.Managing.{managed_goes_alone}
use Rattle.call_machine.specs.declared.end.CallEnd.{CallEnd}
use Rattle.call_machine.specs.declared.end.CallEnd.TheVariants.{Value, Goes, Waits, Dies}
use Rattle.call_machine.specs.Lent.{ended}
use Rattle.sys_process.specs.Ends.{EndFollows, end_effects}

turn_is : (p : Process) (end : CallEnd) (effects : List Effect) (k : Kernel) → called p (ended end effects) k ≡ effects ++ end_effects p.pid p.cpu end (applies effects k)
turn_is p (Value value) effects k = refl
turn_is p (Goes cpu) effects k = refl
turn_is p (Waits w) effects k = refl
turn_is p (Dies status) effects k = refl

pub end_follows : EndFollows
end_follows = record {
  turn = turn_is;
  managed = λ effects man k. ap (λ (m : Managed). with_managed m (applies effects (with_managed man k))) (managed_goes_alone effects (with_managed man k));
}
