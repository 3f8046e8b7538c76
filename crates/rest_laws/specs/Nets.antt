-- Laws of pending messages: what is said of all of them, or asked of any, once one is delivered.
use Rattle.std.specs.List.{list_any}
use Rattle.std.specs.Prelude.{◌≡◌, ◌||◌, [], ◌∷◌, ◌++◌, ℕ, Bool, List, Some, false, length, true}
use Rattle.lego_msg.specs.Track.{picked, taken_out}
use Rattle.lego_msg.specs.declared.message.Message.{Message}
use Rattle.lego_rest.specs.Fits.{background, is_background}

-- a list without one of its messages
pub record Split (net net' : List Message) (m : Message) : Type 0 where
  pub front : List Message
  pub back : List Message
  pub whole : net ≡ front ++ m ∷ back
  pub rest : net' ≡ front ++ back

-- the delivery list takes one message out
abbrev pub TakesOne : Type 0
TakesOne = (deliveries : List ℕ) (number : ℕ) (net : List Message) (m : Message) →
    picked deliveries number net ≡ Some m → Split net (taken_out deliveries number net) m

-- what is asked of any message was asked of the one that is taken out, or is asked of the others
abbrev pub AnyTaken : Type 0
AnyTaken = (test : Message → Bool) (net net' : List Message) (m : Message) → Split net net' m →
    list_any test net ≡ (test m || list_any test net')

-- a memory's batch and receipt stay as they are where the message is none of them, and go where it is the only one
abbrev pub BackgroundTaken : Type 0
BackgroundTaken = (k : ℕ) (net net' : List Message) (m : Message) → Split net net' m →
    (is_background k m ≡ false → background k net' ≡ background k net)
    × (is_background k m ≡ true → length (background k net) ≡ 1 → background k net' ≡ [])
