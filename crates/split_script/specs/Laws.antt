-- What a reader may ask of the script.
use Rattle.std.specs.Prelude.{◌≡◌, ◌==◌, ◌<◌, ◌≤◌, ◌+◌, ◌*◌, ◌/◌, ◌%◌, ◌||◌, ℕ, Bool, false, true, List, [], ◌∷◌, ◌++◌, Some, is_some, length, map}
use Rattle.lego_base.specs.declared.perms.Perms.{Perms}
use Rattle.lego_base.specs.declared.records.Area.{Area}
use Rattle.lego_base.specs.declared.shape.Shape.{Shape}
use Rattle.lego_base.specs.declared.sizes.TheConstants.{PAGES_END}
use Rattle.lego_base.specs.Files.{file_bytes, with_file_bytes}
use Rattle.lego_base.specs.Pieces.{piece, written_at}
use Rattle.lego_base.specs.Space.{Space, bytes_at, perms_of}
use Rattle.area_list.specs.Runs.{IsCanonical, joined}
use Rattle.lego_msg.specs.Files.{block_of}
use Rattle.lego_msg.specs.Plain.{Plain, effect, with_files}
use Rattle.placement.specs.Owners.{Placing, Inherits, Drops as Ends, placed_all}
use Rattle.lego_msg.specs.Laws.{shows}
use Rattle.lego_msg.specs.Marks.{Mark}
use Rattle.linux_model.specs.Effects.{Effect, Kind, Store, CopyOut, Writes, Maps, Protects, Copies, Drops, applies}
use Rattle.linux_model.specs.State.{Kernel}
use Rattle.linux_model.specs.Held.{held_in, held_after}
use Rattle.split_script.specs.Cuts.{BLOCK, LINE, Chunk, Span, chunks, spans}
use Rattle.split_script.specs.Now.{Now, at_start, pid_no, page_owner, space_of}
use Rattle.split_script.specs.Touches.{Part, line_parts, shown_kind, write_parts, refused_parts, walked}
use Rattle.split_script.specs.Regions.{part_in, placings}
use Rattle.split_script.specs.Script.{script, passed, all_passed, writes_block}
use Rattle.split_script.specs.Seen.{undropped, all_seen}

-- the script of effects and then of others is the one and then the other
pub record ScriptsJoin : Type 0 where
  pub marks : (n : Now) (es fs : List Effect) (rest : List Mark) → script n (es ++ fs) rest ≡ script n es (script (all_passed n es) fs rest)
  pub left : (n : Now) (es fs : List Effect) → all_passed n (es ++ fs) ≡ all_passed (all_passed n es) fs

-- what the script depends on goes with the plain kernel
abbrev pub ScriptGoesWithTheKernel : Type 0
ScriptGoesWithTheKernel = (n : Now) (es : List Effect) (k : Kernel) → held_in k ≡ n.held → held_in (applies es k) ≡ (all_passed n es).held

-- Drops of lines aside, the script shows exactly what the plain kernel's run shows, whatever the caches, the owners and the
-- placement are.
abbrev pub ScriptShowsTheFlatRun : Type 0
ScriptShowsTheFlatRun = (n : Now) (es : List Effect) → undropped (shows (script n es [])) ≡ all_seen n.shape.processors n.held es

-- ---- parts and wholes

-- a part of a read: the bytes that the space has there
abbrev pub read_part : Kind → ℕ → Space → Span → Part
read_part kind pid space x = record { pid = pid; at = x.at; kind = shown_kind kind; bytes = bytes_at space x.at x.size }

-- A read is that of its pieces, line by line. What the parts of an access make of spaces, one after the other, is what the
-- access makes of them: a store or a copy to the space writes its bytes, and what is read or refused changes nothing.
pub record PartsMakeTheWhole : Type 0 where
  pub reads : (kind : Kind) (pid at size : ℕ) (space : Space) → line_parts (shown_kind kind) pid at (bytes_at space at size) ≡ map (read_part kind pid space) (spans LINE at size)
  pub stores : (n : Now) (pid at : ℕ) (bytes : List ℕ) → (walked n (write_parts Store pid at bytes)).held ≡ held_after (Writes Store pid at bytes) n.held
  pub copies : (n : Now) (pid at : ℕ) (bytes : List ℕ) → (walked n (write_parts CopyOut pid at bytes)).held ≡ held_after (Writes CopyOut pid at bytes) n.held
  pub refusals : (n : Now) (kind : Kind) (pid at size : ℕ) (space : Space) → (walked n (refused_parts kind pid at size space)).held ≡ n.held

-- writes of blocks on the plain map, one after the other
abbrev pub blocks_put : ℕ → List Chunk → Plain → Plain
blocks_put file [] f = f
blocks_put file (c ∷ blocks) f = blocks_put file blocks (effect (writes_block file c) f)

-- The blocks of a write make of a file what the write makes.
abbrev pub BlocksMakeTheFile : Type 0
BlocksMakeTheFile =
    (file off : ℕ) (bytes : List ℕ) (f : Plain) → 0 < length bytes
    → blocks_put file (chunks BLOCK off bytes) f ≡ with_files (record f.files { files = with_file_bytes f.files.files file (written_at (file_bytes f.files.files file) off bytes) }) f

-- what the blocks of a read answer, one after the other
abbrev pub blocks_read : List ℕ → List Span → List ℕ
blocks_read bytes [] = []
blocks_read bytes (x ∷ cut) = piece (block_of bytes (x.at / BLOCK)) (x.at % BLOCK) x.size ++ blocks_read bytes cut

-- The blocks of a read that lies within its file give what the read gives.
abbrev pub BlocksGiveTheRead : Type 0
BlocksGiveTheRead = (bytes : List ℕ) (off n : ℕ) → off + n ≤ length bytes → blocks_read bytes (spans BLOCK off n) ≡ piece bytes off n

-- ---- owners

-- what an effect makes of owners: those of a mapping by turns, those of a child, and the end of a space
abbrev pub placings_of : Now → Effect → List Placing
placings_of n (Maps pid areas) = placings n pid areas
placings_of n (Protects pid first pages areas) = placings n pid areas
placings_of n (Copies parent child) = Inherits (pid_no parent) (pid_no child) ∷ []
placings_of n (Drops pid) = Ends (pid_no pid) ∷ []
placings_of n other = []

abbrev pub all_placings : Now → List Effect → List Placing
all_placings n [] = []
all_placings n (e ∷ es) = placings_of n e ++ all_placings (passed n e) es

-- Owners are those of the rule: the k-th assignment of the run takes its turn of the placement list, and nothing but a
-- mapping, a fork and the end of a space changes them.
abbrev pub OwnersGoByTurns : Type 0
OwnersGoByTurns = (n : Now) (es : List Effect) → (all_passed n es).owned ≡ placed_all (all_placings n es) n.owned

-- ---- areas

-- what the owners of regions answer, one after the other
abbrev pub answered : List ℕ → List Area → List Area
answered [] areas = []
answered (region ∷ regions) areas = part_in region areas ++ answered regions areas

abbrev pub has_number : ℕ → List ℕ → Bool
has_number n [] = false
has_number n (m ∷ numbers) = m == n || has_number n numbers

-- regions of user addresses, starting at one or above, that rise
abbrev pub RegionsRise : ℕ → List ℕ → Type 0
RegionsRise from_ [] = Unit {0}
RegionsRise from_ (region ∷ regions) = (from_ ≤ region) × ((region + 1) * 512 ≤ PAGES_END) × RegionsRise (region + 1) regions

-- each mapped page lies in one of the regions
abbrev pub HoldsAll : List ℕ → List Area → Type 0
HoldsAll regions areas = (page : ℕ) (perms : Perms) → perms_of areas page ≡ Some perms → has_number (page / 512) regions ≡ true

-- Where all regions with a mapped page are asked, in rising order, their answers make the areas of the process.
abbrev pub AskedAreasAreAll : Type 0
AskedAreasAreAll = (regions : List ℕ) (areas : List Area) → IsCanonical areas → RegionsRise 0 regions → HoldsAll regions areas → joined [] (answered regions areas) ≡ areas

-- ---- every mapped page has an owner

-- After whatever effects from the start, the region of each page that a process has mapped has an owner. So a touch of a
-- mapped page names whom to read from, and a fill whom to write to.
abbrev pub MappedIsOwned : Type 0
MappedIsOwned =
    (shape : Shape) (es : List Effect) (pid page : ℕ)
    → is_some (perms_of (space_of (all_passed (at_start shape) es) pid).areas page) ≡ true
    → is_some (page_owner (all_passed (at_start shape) es) pid page) ≡ true
