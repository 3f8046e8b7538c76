-- Memories stay in place: no message and no crash changes a memory's number, nor its log's room.
use Rattle.std.proofs.Common.{◌≡◌, ◌+◌, ◌<◌, [], ◌∷◌, ◌++◌, ◌∙◌, ℕ, Bool, List, None, Option, Some, ap, arith, cond, drop, eqb, false, length, map, refl, slice_get, subst, suc, sym, true, zero}
use Rattle.std.proofs.lemmas.List.{places}
use Rattle.std.specs.Prelude.{slice_set}
use Rattle.lego_base.specs.declared.ids.FileNo.{FileNo}
use Rattle.lego_base.specs.declared.ids.Pid.{Pid}
use Rattle.lego_base.specs.declared.ids.RegionNo.{RegionNo}
use Rattle.lego_base.specs.declared.records.Area.{Area}
use Rattle.lego_base.specs.declared.shape.Shape.{Shape}
use Rattle.lego_msg.proofs.Flow.{completed_same, issuer_same, send_sent}
use Rattle.lego_msg.proofs.Rows.{region}
use Rattle.lego_msg.proofs.Senders.{same_some}
use Rattle.lego_msg.specs.Crashes.{memory_lost}
use Rattle.lego_msg.specs.Deliveries.{comes, memory_handles, taken}
use Rattle.lego_msg.specs.Legal.{May}
use Rattle.lego_msg.specs.Run.{after}
use Rattle.lego_msg.specs.State.{Kept, Mem, kept, lost, with_kept}
use Rattle.lego_msg.specs.Table.{batch_gone, batched, block_in, copy_row, drained, handled, handled_body, is_batch_due, read_block, unmap_row}
use Rattle.lego_msg.specs.Track.{Track, empty_mems}
use Rattle.lego_msg.specs.declared.body.Body.{Body}
use Rattle.lego_msg.specs.declared.body.Body.TheVariants.{BackedUp, CopySpace, Drain, FileRead, LogWrite, PushImages, PushMeta, SetAreas, SetHome, Unmap, Write}
use Rattle.lego_msg.specs.declared.event.Event.{Event}
use Rattle.lego_msg.specs.declared.event.Event.TheVariants.{Access, Complete, Crash, Deliver, Drop, Fill, Out, Send, Turn}
use Rattle.lego_msg.specs.declared.message.Message.{Message}
use Rattle.lego_msg.specs.declared.place.Place.{Place}
use Rattle.lego_msg.specs.declared.place.Place.TheVariants.{Manager, Memory, Processor, Storage}
use Rattle.lego_msg.specs.declared.place.Role.{Role}
use Rattle.lego_msg.specs.declared.place.Role.TheVariants.{Main, Spare}
use Rattle.lego_waits.specs.Laws.{AreInPlace, PlacesStay, StartInPlace}

pub in_place : (k : ℕ) (mems : List Mem) (i : ℕ) (s : Mem) → AreInPlace k mems → slice_get mems i ≡ Some s → (s.id ≡ k + i) × (0 < s.log_room)
in_place k [] i s places at = cc at
in_place k (x ∷ mems) zero s places at =
    let same : x ≡ s = same_some x s at in
    (sym (ap (λ (s : Mem). s.id) same) ∙ places.0 ∙ omega arith, subst (λ (s : Mem). 0 < s.log_room) same places.1)
in_place k (x ∷ mems) (suc i) s places at =
    let rest = in_place (k + 1) mems i s places.2 at in
    (rest.0 ∙ omega arith, rest.1)

pub record SamePlace (s s' : Mem) : Type 0 where
  pub id : s'.id ≡ s.id
  pub room : s'.log_room ≡ s.log_room

set_in_place : (k : ℕ) (mems : List Mem) (i : ℕ) (s s' : Mem) → slice_get mems i ≡ Some s → SamePlace s s' → AreInPlace k mems → AreInPlace k (slice_set mems i s')
set_in_place k [] i s s' at same places = tt
set_in_place k (x ∷ mems) zero s s' at same places =
    let is : x ≡ s = same_some x s at in
    let room : s'.log_room ≡ x.log_room = same.room ∙ sym (ap (λ (s : Mem). s.log_room) is) in
    (same.id ∙ sym (ap (λ (s : Mem). s.id) is) ∙ places.0, subst (λ (n : ℕ). 0 < n) (sym room) places.1, places.2)
set_in_place k (x ∷ mems) (suc i) s s' at same places = (places.0, places.1, set_in_place (k + 1) mems i s s' at same places.2)

-- THE ROWS

same_either : (s : Mem) (x : Bool) (y z : Mem × List Message) → SamePlace s y.0 → SamePlace s z.0 → SamePlace s (cond x y z).0
same_either s true y z p q = p
same_either s false y z p q = q

module _ (s : Mem) (m : Message) where
  with_role : (role : Role) (kept : Kept) → SamePlace s (with_kept s role kept)
  with_role Main kept = record { id = refl; room = refl }
  with_role Spare kept = record { id = refl; room = refl }

  unmapped : (role : Role) (pid : Pid) (region : RegionNo) (first pages : ℕ) (areas : List Area) → SamePlace s (unmap_row s m pid region first pages areas role).0
  unmapped Main pid region first pages areas = record { id = refl; room = refl }
  unmapped Spare pid region first pages areas = record { id = refl; room = refl }

  copied : (role : Role) (parent child : Pid) (regions : List RegionNo) → SamePlace s (copy_row s m parent child regions role).0
  copied Main parent child regions = same_either s _ _ _ (record { id = refl; room = refl }) (record { id = refl; room = refl })
  copied Spare parent child regions = record { id = refl; room = refl }

  read : (cached : Option (List ℕ)) (file : FileNo) (block off len : ℕ) → SamePlace s (read_block cached s m file block off len).0
  read (Some bytes) file block off len = record { id = refl; room = refl }
  read None file block off len = record { id = refl; room = refl }

  same_batched : (s1 : Mem) (after : List Message) → SamePlace s s1 → SamePlace s (batched s1 after).0
  same_batched s1 after same = same_either s (is_batch_due s1) _ _ (record { id = same.id; room = same.room }) same

  kept_in_place : (b : Body) → SamePlace s (handled_body s m b).0
  kept_in_place (Write patch) = same_either s _ _ _ (record { id = refl; room = refl }) (record { id = refl; room = refl })
  kept_in_place (LogWrite patch) = same_either s _ _ _ (same_batched (record s { log = s.log ++ patch ∷ [] }) _ (record { id = refl; room = refl })) (record { id = refl; room = refl })
  kept_in_place Drain = same_either s _ _ _ (record { id = refl; room = refl }) (same_batched (record s { drains = s.drains ++ record { place = m.from; op = m.op.0 } ∷ [] }) [] (record { id = refl; room = refl }))
  kept_in_place BackedUp =
      same_either s (eqb s.out 0) (s, []) (batch_gone (record s { log = drop s.out s.log; out = 0 })) (record { id = refl; room = refl })
      (same_either s (eqb (length (drop s.out s.log)) 0) (record s { log = drop s.out s.log; out = 0; drains = [] }, map (drained s.id) s.drains) (batched (record s { log = drop s.out s.log; out = 0 }) []) (record { id = refl; room = refl })
      (same_batched (record s { log = drop s.out s.log; out = 0 }) [] (record { id = refl; room = refl })))
  kept_in_place (SetHome pid region owner role) = with_role role _
  kept_in_place (SetAreas pid region areas role) = with_role role _
  kept_in_place (Unmap pid region first pages areas role) = unmapped role pid region first.0 pages areas
  kept_in_place (CopySpace parent child regions role) = copied role parent child regions
  kept_in_place (FileRead file block off len) = read (block_in file.0 block s.blocks) file block off len
  kept_in_place (PushMeta role homes areas) = with_role role _
  kept_in_place (PushImages pid region pages) = same_either s _ _ _ (record { id = refl; room = refl }) (record { id = refl; room = refl })
  kept_in_place other = record { id = refl; room = refl }

-- EVENTS

handles_in_place : (t : Track) (i : ℕ) (m : Message) (o : Option Mem) → slice_get t.mems i ≡ o → AreInPlace 0 t.mems → AreInPlace 0 (memory_handles t i m o).mems
handles_in_place t i m None at places = places
handles_in_place t i m (Some s) at places = set_in_place 0 t.mems i s (handled s m).0 at (kept_in_place s m m.body) places

comes_in_place : (t : Track) (m : Message) (to : Place) → AreInPlace 0 t.mems → AreInPlace 0 (comes t m to).mems
comes_in_place t m (Processor cpu) places = subst (AreInPlace 0) (sym (issuer_same t m).mems) places
comes_in_place t m (Memory number) places = handles_in_place t number.0 m (slice_get t.mems number.0) refl places
comes_in_place t m Storage places = places
comes_in_place t m Manager places = subst (AreInPlace 0) (sym (issuer_same t m).mems) places

lost_in_place : (mems : List Mem) (i : ℕ) (o : Option Mem) → slice_get mems i ≡ o → AreInPlace 0 mems → AreInPlace 0 (memory_lost mems i o)
lost_in_place mems i None at places = places
lost_in_place mems i (Some s) at places = set_in_place 0 mems i s (lost s) at (record { id = refl; room = refl }) places

pub after_in_place : (t : Track) (e : Event) → May t e → AreInPlace 0 t.mems → AreInPlace 0 (after t e).mems
after_in_place t (Turn number pid) may places = places
after_in_place t (Access cpu pid address kind bytes) may places = places
after_in_place t (Fill pid address bytes) may places = places
after_in_place t (Drop cpu pid line) may places = places
after_in_place t (Send m) may places = subst (AreInPlace 0) (sym (send_sent t m t.owed t.healing t.current may).mems) places
after_in_place t (Deliver m) may places = comes_in_place (taken t) m m.to places
after_in_place t (Crash number inc) may places = lost_in_place t.mems number.0 (slice_get t.mems number.0) refl places
after_in_place t (Complete op) may places = subst (AreInPlace 0) (sym (completed_same t op.0 t.healing).mems) places
after_in_place t (Out stream bytes) may places = places

pub places-stay : PlacesStay
places-stay t [] places legal = places
places-stay t (e ∷ es) places legal = places-stay (after t e) es (after_in_place t e legal.0 places) legal.1

empty_in_place : (shape : Shape) (k : ℕ) (frames : List ℕ) → 0 < shape.log → AreInPlace k (empty_mems shape k frames)
empty_in_place shape k [] some = tt
empty_in_place shape k (room ∷ frames) some = (refl, some, empty_in_place shape (k + 1) frames some)

pub start-in-place : StartInPlace
start-in-place shape due some = empty_in_place shape 0 shape.frames some
