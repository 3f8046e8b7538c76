-- Accesses to the space of a process, as effects of the plain kernel: bytes that are read or written where each byte is
-- permitted, and else a refusal.
use Rattle.std.specs.Prelude.{if◌then◌else◌, [], ◌∷◌, ℕ, Err, List, None, Ok, Option, Result, Some, length}
use Rattle.lego_base.specs.Space.{Space, bytes_at, permits}
use Rattle.lego_base.specs.declared.stops.Halt.{Halt}
use Rattle.lego_base.specs.declared.stops.MemStop.{MemStop}
use Rattle.lego_base.specs.declared.stops.MemStop.TheVariants.{Halt as Halts, Segv}
use Rattle.linux_model.specs.Effects.{Effect, Kind, Reads, Refused, Writes}
use Rattle.split_script.specs.Touches.{need_of}

abbrev pub reading : Kind → Space → ℕ → ℕ → ℕ → List Effect
reading kind space pid at n = if permits space (need_of kind) at n then Reads kind pid at (bytes_at space at n) ∷ [] else Refused kind pid at n ∷ []

abbrev pub writing : Kind → Space → ℕ → ℕ → List ℕ → List Effect
writing kind space pid at bytes = if permits space (need_of kind) at (length bytes) then Writes kind pid at bytes ∷ [] else Refused kind pid at (length bytes) ∷ []

-- the bytes that a reading gives
abbrev pub read_from : Kind → Space → ℕ → ℕ → Option (List ℕ)
read_from kind space at n = if permits space (need_of kind) at n then Some (bytes_at space at n) else None

-- that an access isn't permitted is an answer
abbrev pub answered : {X : Type 0} → Result X MemStop → Result (Option X) Halt
answered (Ok x) = Ok (Some x)
answered (Err Segv) = Ok None
answered (Err (Halts halt)) = Err halt
