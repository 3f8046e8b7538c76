-- A log of patches, of which the first ones may be in a batch that is on its way to storage.
use Rattle.std.specs.Prelude.{◌≡◌, ◌==◌, ◌&&◌, ◌+◌, ◌/◌, [], ◌++◌, ◌∷◌, ℕ, Bool, List, None, Option, Some, drop, false, length, nat_le, nat_lt, true}
use Rattle.lego_base.specs.declared.records.Patch.{Patch}

pub record LogState : Type 0 where
  -- how many patches it may hold
  pub room : ℕ
  -- the patches, oldest first
  pub patches : List Patch
  -- how many first patches are in the batch: 0 where none is out
  pub out : ℕ

abbrev pub empty_log : ℕ → LogState
empty_log room = record { room = room; patches = []; out = 0 }

abbrev pub is_full : LogState → Bool
is_full log = nat_le log.room (length log.patches)

abbrev pub with_patch : Patch → LogState → LogState
with_patch patch log = record log { patches = log.patches ++ patch ∷ [] }

-- whether a batch can be sent: none is out, and there is a patch
abbrev pub is_idle : LogState → Bool
is_idle log = log.out == 0 && nat_lt 0 (length log.patches)

-- the whole log is in the batch
abbrev pub all_out : LogState → LogState
all_out log = record log { out = length log.patches }

-- what the start of a batch gives: the whole log, where a batch can be sent; else nothing, and the log stays
abbrev pub Started : LogState → LogState → Option (List Patch) → Type 0
Started old new None = (is_idle old ≡ false) × (new ≡ old)
Started old new (Some batch) = (is_idle old ≡ true) × (batch ≡ old.patches) × (new ≡ all_out old)

-- the batch is at storage
abbrev pub without_batch : LogState → LogState
without_batch log = record log { patches = drop log.out log.patches; out = 0 }

-- whether half of the room, rounded up, is filled
abbrev pub is_half_full : LogState → Bool
is_half_full log = nat_le ((log.room + 1) / 2) (length log.patches)
