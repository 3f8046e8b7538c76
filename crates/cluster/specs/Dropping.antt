-- A space goes: the logs of all memories are drained first, in rising order, so that no patch of it is laid over images later.
use Rattle.std.specs.Prelude.{[], ◌∷◌, ◌+◌, ℕ, List, suc, zero}
use Rattle.lego_base.specs.declared.ids.Pid.{Pid}
use Rattle.lego_msg.specs.declared.operation.Operation.{Operation}
use Rattle.lego_msg.specs.declared.operation.Operation.TheVariants.{Drains, Drops}

-- each of n memories starting at one, then others
abbrev pub drains_from : ℕ → ℕ → List Operation → List Operation
drains_from zero number rest = rest
drains_from (suc n) number rest = Drains (record { 0 = number }) ∷ drains_from n (number + 1) rest

abbrev pub drops_of : ℕ → Pid → List Operation
drops_of n pid = drains_from n 0 (Drops pid ∷ [])
