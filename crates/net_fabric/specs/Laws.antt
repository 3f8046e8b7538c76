-- What a reader may ask of the network.
use Rattle.std.specs.Prelude.{◌≡◌, ◌%◌, ◌==◌, [], ◌∷◌, ℕ, List, count_by, length, nat_lt, slice_index}
use Rattle.lego_msg.specs.Track.{is_pending, picked, taken_out}
use Rattle.lego_msg.specs.declared.message.Message.{Message}

-- the choice that a delivery list has for the delivery with a number, from 0
abbrev pub choice_of : List ℕ → ℕ → ℕ
choice_of deliveries number = slice_index deliveries (number % length deliveries)

-- The delivery list picks what its choice picks, and leaves what that leaves.
pub record IsByChoice (deliveries : List ℕ) (number : ℕ) (pending : List Message) : Type 0 where
  pub picks : picked deliveries number pending ≡ picked (choice_of deliveries number ∷ []) 0 pending
  pub leaves : taken_out deliveries number pending ≡ taken_out (choice_of deliveries number ∷ []) 0 pending

abbrev pub ChoicesFollowTheList : Type 0
ChoicesFollowTheList = (deliveries : List ℕ) (number : ℕ) (pending : List Message) → IsByChoice deliveries number pending

-- A message of an operation is pending exactly where their count isn't 0.
abbrev pub CountsTellWhatIsPending : Type 0
CountsTellWhatIsPending = (number : ℕ) (pending : List Message) → is_pending number pending ≡ nat_lt 0 (count_by (λ (m : Message). m.op.0 == number) pending)
