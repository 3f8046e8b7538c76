-- Operations that change what one memory h keeps: its secondary gets a message, and it gets one itself.
use Rattle.std.proofs.Common.{◌≡◌, ◌<◌, ◌≤◌, ◌==◌, ◌||◌, ◌∷◌, ◌∙◌, ℕ, Bool, List, Option, Some, ap, false, refl, sym, true}
use Rattle.std.proofs.lemmas.Bool.{eq-eqb}
use Rattle.lego_msg.specs.Places.{is_among, memory, secondary_of}
use Rattle.lego_msg.specs.Plain.{effect}
use Rattle.lego_msg.specs.State.{Mem}
use Rattle.lego_msg.specs.Track.{Track, memory_count}
use Rattle.lego_msg.specs.declared.message.Message.{Message}
use Rattle.lego_msg.specs.declared.operation.Open.{Open}
use Rattle.lego_msg.specs.declared.place.Place.{Place}
use Rattle.lego_rest.specs.Parts.{Cell, main_part, new_share, old_share, second_part, share, sides_of}
use Rattle.rest_laws.proofs.Around.{secondaries-differ}
use Rattle.rest_laws.proofs.Meeting.{Met, met_main, met_second}
use Rattle.rest_laws.proofs.kinds.Cells.{agreed}

-- the secondary and the memory itself are the first two targets
pub first_two : (n h : ℕ) (rest : List Place) → (is_among (memory (secondary_of n h)) (memory (secondary_of n h) ∷ memory h ∷ rest) ≡ true) × (is_among (memory h) (memory (secondary_of n h) ∷ memory h ∷ rest) ≡ true)
first_two n h rest = (ap (λ (b : Bool). b || is_among (memory (secondary_of n h)) (memory h ∷ rest)) (eq-eqb (secondary_of n h) (secondary_of n h) refl), second (h == secondary_of n h) (eq-eqb h h refl))
  where
    second : (a : Bool) → (h == h) ≡ true → (a || ((h == h) || is_among (memory h) rest)) ≡ true
    second true e = refl
    second false e = ap (λ (b : Bool). b || is_among (memory h) rest) e

module _ (lost : Option ℕ) (t : Track) (o : Open) (h : ℕ) (below : h < memory_count t.shape) (elsewhere : (j : ℕ) → (j ≡ h → ⊥) → (c : Cell) → share (memory_count t.shape) t.owners t.plain j c ≡ share (memory_count t.shape) t.owners (effect o.operation t.plain) j c) where
  -- as a secondary h keeps the same as before
  pub seconds_stay : (s : Mem) (m : Message) → Met lost t o h s m → (j : ℕ) → j < memory_count t.shape → secondary_of (memory_count t.shape) j ≡ h → (c : Cell) → second_part t.owners t.disk.images j s c ≡ new_share (sides_of (record t { current = Some o })) j c
  seconds_stay s m met j less is c = agreed (second_part t.owners t.disk.images j s c) (old_share (sides_of (record t { current = Some o })) j c) (new_share (sides_of (record t { current = Some o })) j c) (elsewhere j differ c) (met_second lost t o h s m met j less is c)
    where
      differ : j ≡ h → ⊥
      differ same = (secondaries-differ (memory_count t.shape) h h met.middle.machine.two below below).0 (ap (secondary_of (memory_count t.shape)) (sym same) ∙ is)

  -- and the secondary of h keeps the same for its own sake
  pub own_stays : (s : Mem) (m : Message) → Met lost t o (secondary_of (memory_count t.shape) h) s m → (c : Cell) → main_part s c ≡ new_share (sides_of (record t { current = Some o })) (secondary_of (memory_count t.shape) h) c
  own_stays s m met c = agreed (main_part s c) (old_share (sides_of (record t { current = Some o })) (secondary_of (memory_count t.shape) h) c) (new_share (sides_of (record t { current = Some o })) (secondary_of (memory_count t.shape) h) c) (elsewhere (secondary_of (memory_count t.shape) h) (secondaries-differ (memory_count t.shape) h h met.middle.machine.two below below).0 c) (met_main lost t o (secondary_of (memory_count t.shape) h) s m met c)

  -- whose secondary it is is h
  pub is_guarded : 2 ≤ memory_count t.shape → (j : ℕ) → j < memory_count t.shape → secondary_of (memory_count t.shape) j ≡ secondary_of (memory_count t.shape) h → h ≡ j
  is_guarded two_ j less is = sym ((secondaries-differ (memory_count t.shape) j h two_ less below).2 is)
