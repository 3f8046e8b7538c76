-- The line of the last fetch at hand: it is the newest of its set, and may be executed.
use Rattle.std.specs.Prelude.{◌≡◌, ◌+◌, ◌-◌, ◌/◌, ◌%◌, ◌^◌, ◌<◌, ◌≤◌, ℕ, List, Option, None, Some, length, slice_index_or, true}
use Rattle.cache_tags.specs.Lists.{empty_set, newest_slot}
use Rattle.cache_tags.specs.Sets.{SetLines}
use Rattle.cache_tags.specs.Tags.{slot_of_line}
use Rattle.lego_base.specs.Pieces.{piece}
use Rattle.lego_base.specs.Space.{allows, number_of}
use Rattle.lego_base.specs.declared.ids.LineNo.{LineNo}
use Rattle.lego_base.specs.declared.ids.Pid.{Pid}
use Rattle.line_cache.specs.Cached.{Cached, line_in, looked_up, no_line}
use Rattle.line_cache.specs.Fits.{SetsFit}
use Rattle.line_cache.specs.declared.hand.Hand.{Hand}
use Rattle.line_cache.specs.declared.line.Line.{Line}

-- the line of an address
abbrev pub line_at : ℕ → LineNo
line_at address = record { 0 = address / 64 }

pub record IsHandAt (pid : Pid) (address slot : ℕ) (h : Hand) : Type 0 where
  pub start : h.start ≡ address - address % 64
  pub room : h.room ≡ 61
  pub pid_is : h.pid ≡ pid
  pub slot_is : h.slot ≡ slot

-- a word of a process starts at this offset of the line at hand, and ends within it where there is room for 61 starts
pub record IsWordAt (pid : Pid) (address off : ℕ) (h : Hand) : Type 0 where
  pub room : off < h.room
  pub place : address ≡ (h.start + off) % 2 ^ 64
  pub pid_is : h.pid.0 ≡ pid.0

-- what holds of a line at hand
pub record IsReady (h : Hand) (sets : List SetLines) (lines : List Line) : Type 0 where
  pub room : h.room ≤ 61
  pub start : h.start % 64 ≡ 0
  pub end : h.start < 2 ^ 64
  pub newest : newest_slot h.pid (line_at h.start) (slice_index_or sets (h.start / 64 % length sets) (empty_set 0 0)).lines ≡ Some h.slot
  pub within : h.slot < length lines
  pub may : allows (Some (slice_index_or lines h.slot no_line).perms) 4 ≡ true

-- what holds of a cache's fields: slots are within bounds, and where a line is at hand it is ready
pub record Holds (h : Hand) (sets : List SetLines) (lines : List Line) : Type 0 where
  pub fits : SetsFit (length lines) sets
  pub hand : 0 < h.room → IsReady h sets lines

-- a word that was fetched: its line is there and may be executed, and it was looked up
pub record IsFetch (pid : Pid) (address word : ℕ) (c new : Cached) : Type 0 where
  pub slot : ℕ
  pub there : slot_of_line pid (line_at address) c.tags ≡ Some slot
  pub may : allows (Some (line_in slot c).perms) 4 ≡ true
  pub within : address % 64 + 4 ≤ 64
  pub word_is : word ≡ number_of (piece (line_in slot c).bytes (address % 64) 4)
  pub after : new ≡ looked_up pid (line_at address) c

abbrev pub FetchedAtHand : Pid → ℕ → Cached → Cached → Option ℕ → Type 0
FetchedAtHand pid address c new None = new ≡ c
FetchedAtHand pid address c new (Some word) = IsFetch pid address word c new
