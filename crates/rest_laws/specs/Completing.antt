-- The completion of an operation keeps the relation with nothing lost, by a law of its kind: what isn't at a target is the
-- same before the operation and after it.
use Rattle.std.specs.Prelude.{◌≡◌, ◌⊎◌, ◌/◌, if◌then◌else◌, [], ℕ, List, None, Some, false, true}
use Rattle.lego_base.specs.declared.ids.MemId.{MemId}
use Rattle.lego_base.specs.declared.records.HomeEntry.{HomeEntry}
use Rattle.lego_base.specs.declared.records.Patch.{Patch}
use Rattle.lego_msg.specs.Completions.{finished, owners_after}
use Rattle.lego_msg.specs.Granted.{asks_clear}
use Rattle.lego_msg.specs.Maps.{owner_of}
use Rattle.lego_msg.specs.Operations.{is_write, targets_of}
use Rattle.lego_msg.specs.Places.{is_among, memory, secondary_of}
use Rattle.lego_msg.specs.Plain.{Plain, effect}
use Rattle.lego_msg.specs.Track.{Track, is_complete, memory_count}
use Rattle.lego_msg.specs.declared.operation.Open.{Open}
use Rattle.lego_msg.specs.declared.operation.Operation.{Operation}
use Rattle.lego_msg.specs.declared.place.Place.{Place}
use Rattle.lego_rest.specs.Fits.{PlainFits}
use Rattle.lego_rest.specs.Parts.{Areas, Cell, Home, Page, share}
use Rattle.lego_rest.specs.Rest.{Middle}
use Rattle.lego_msg.specs.declared.place.Place.TheVariants as place

-- the table of owners once an operation is complete: it may only shrink, where nothing is kept any more
pub record OwnersEnd (n : ℕ) (owners after : List HomeEntry) (g : Plain) (o : Operation) : Type 0 where
  pub shares : (j : ℕ) (c : Cell) → share n owners g j c ≡ share n after g j c
  pub shrink : (pid region : ℕ) (x : MemId) → owner_of after pid region ≡ Some x → owner_of owners pid region ≡ Some x
  -- the regions of patches that the operation leaves in logs keep their owners
  pub logs : (p : Patch) (x : MemId) → asks_clear o p.pid.0 p.vpn.0 ≡ false → owner_of owners p.pid.0 (p.vpn.0 / 512) ≡ Some x → owner_of after p.pid.0 (p.vpn.0 / 512) ≡ Some x
  pub plain : PlainFits n after g

-- who must answer before the pages that a secondary and storage have of memory j are new: in a write the secondary, else
-- storage
abbrev pub pages_at : ℕ → Operation → ℕ → Place
pages_at n o j = if is_write o then memory (secondary_of n j) else place.Storage

abbrev pub SameEntries : ℕ → List HomeEntry → Plain → Plain → ℕ → Type 0
SameEntries n owners f g j =
    ((pid region : ℕ) → share n owners f j (Home pid region) ≡ share n owners g j (Home pid region))
    × ((pid region : ℕ) → share n owners f j (Areas pid region) ≡ share n owners g j (Areas pid region))

abbrev pub SamePages : ℕ → List HomeEntry → Plain → Plain → ℕ → Type 0
SamePages n owners f g j = (pid vpn : ℕ) → share n owners f j (Page pid vpn) ≡ share n owners g j (Page pid vpn)

-- THE LAW OF A KIND: each memory, secondary and storage is a target, or what it keeps is the same on both sides
pub record KindEnds (n : ℕ) (owners : List HomeEntry) (f : Plain) (o : Operation) : Type 0 where
  pub main : (j : ℕ) → (is_among (memory j) (targets_of n o) ≡ true) ⊎ ((c : Cell) → share n owners f j c ≡ share n owners (effect o f) j c)
  pub second : (j : ℕ) → (is_among (memory (secondary_of n j)) (targets_of n o) ≡ true) ⊎ SameEntries n owners f (effect o f) j
  pub pages : (j : ℕ) → (is_among (pages_at n o j) (targets_of n o) ≡ true) ⊎ SamePages n owners f (effect o f) j
  pub files : (is_among place.Storage (targets_of n o) ≡ true) ⊎ (f.files ≡ (effect o f).files)
  pub owners_end : OwnersEnd n owners (owners_after o owners) (effect o f) o

abbrev pub OperationEnds : Type 0
OperationEnds = (t : Track) (o : Open) → t.current ≡ Some o → t.healing ≡ None → t.owed ≡ [] → is_complete t.net o ≡ true →
    KindEnds (memory_count t.shape) t.owners t.plain o.operation → Middle None t → Middle None (finished t (Some o))
