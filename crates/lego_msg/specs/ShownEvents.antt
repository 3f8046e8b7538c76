-- Events that marks show: a turn begins, a processor accesses a line, the loader fills bytes, a line is dropped, bytes go
-- out. Each comes where it is the next mark and nothing is open.
use Rattle.std.specs.Prelude.{◌≡◌, ◌+◌, ◌/◌, ◌%◌, ◌==◌, ◌&&◌, if◌then◌else◌, [], ◌∷◌, ℕ, Bool, List, None, Option, Some, drop, false, length, nat_le, take, true}
use Rattle.lego_base.specs.Pieces.{laid_over}
use Rattle.lego_base.specs.declared.shape.Shape.{Shape}
use Rattle.lego_msg.specs.Marks.{Call, Mark, Show}
use Rattle.lego_msg.specs.Track.{Caches, Quiet, Track, entries_below}
use Rattle.lego_msg.specs.declared.clock.Clock.{Clock}
use Rattle.lego_msg.specs.declared.event.Event.{Event}
use Rattle.lego_msg.specs.declared.event.Kind.{Kind}
use Rattle.lego_msg.specs.declared.event.Kind.TheVariants.{CopyIn, CopyOut, Fetch, Load, Probe, Store}

abbrev pub IsNext : Event → List Mark → Type 0
IsNext e [] = ⊥
IsNext e (Call o ∷ due) = ⊥
IsNext e (Show x ∷ due) = x ≡ e

abbrev pub MayShow : Track → Event → Type 0
MayShow t e = Quiet t × IsNext e t.due

-- TURNS: a crash of the turn before is not left. Entries of the crash list of earlier turns don't happen any more.

abbrev pub turned : Shape → ℕ → Clock
turned shape number = record { begun = true; turn = number; since = 0; passed = entries_below number shape.crashes }

-- ACCESSES: each lies in a line that its processor has. What is read is what the line has.

-- the piece of a line is these bytes, all of them in the line
abbrev pub Carries : Option (List ℕ) → ℕ → List ℕ → Type 0
Carries None address bytes = ⊥
Carries (Some line) address bytes = (nat_le (address % 64 + length bytes) 64 ≡ true) × (bytes ≡ take (length bytes) (drop (address % 64) line))

-- the bytes would lie in the line
abbrev pub Meets : Option (List ℕ) → ℕ → List ℕ → Type 0
Meets None address bytes = ⊥
Meets (Some line) address bytes = nat_le (address % 64 + length bytes) 64 ≡ true

-- an access lies in a line that its processor has; what is read is what the line has
abbrev pub InLine : Option (List ℕ) → ℕ → Kind → List ℕ → Type 0
InLine line address Load bytes = Carries line address bytes
InLine line address Store bytes = Meets line address bytes
InLine line address Fetch bytes = Carries line address bytes
InLine line address CopyIn bytes = Carries line address bytes
InLine line address CopyOut bytes = Meets line address bytes
InLine line address Probe bytes = bytes ≡ []

-- the line of a processor's cache
abbrev pub with_line : ℕ → ℕ → ℕ → Option (List ℕ) → Caches → Caches
with_line c p l bytes caches = record caches { line = λ cpu pid line. if cpu == c && pid == p && line == l then bytes else caches.line cpu pid line }

-- a line with bytes in place of those starting at an address
abbrev pub line_with : Option (List ℕ) → ℕ → List ℕ → Option (List ℕ)
line_with None address bytes = None
line_with (Some line) address bytes = Some (laid_over line (address % 64) bytes)

abbrev pub writes : Kind → Bool
writes Load = false
writes Store = true
writes Fetch = false
writes CopyIn = false
writes CopyOut = true
writes Probe = false

abbrev pub accessed : Caches → ℕ → ℕ → ℕ → Kind → List ℕ → Caches
accessed caches cpu pid address kind bytes = if writes kind then with_line cpu pid (address / 64) (line_with (caches.line cpu pid (address / 64)) address bytes) caches else caches

-- FILLS

abbrev pub filled_with : Caches → ℕ → ℕ → List ℕ → Caches
filled_with caches pid address bytes = record caches { filled = Some (record { pid = pid; address = address; bytes = bytes }) }
