-- What contracts see of a healing.
use Rattle.std.specs.Prelude.{Bool, List}
use Rattle.lego_msg.specs.declared.healing.Move.{Move}

pub record Healing : Type 0 where
  -- whether a message went out that has no answer yet
  pub waits : Bool
  -- the moves that haven't begun
  pub moves : List Move
