-- What components hold along a list is the table's fold, and what they send stands directly after its delivery.
use Rattle.std.proofs.Common.{◌≡◌, [], ◌∷◌, ◌∙◌, ℕ, Bool, List, None, Option, Some, ap, cond, eqb, false, refl, slice_get, subst, suc, sym, true, zero}
use Rattle.std.proofs.lemmas.Bool.{eq-eqb, eqb-true}
use Rattle.std.specs.Prelude.{slice_set}
use Rattle.lego_base.specs.declared.ids.MemId.{MemId}
use Rattle.lego_msg.proofs.Flow.{completed_same, issuer_same, send_sent}
use Rattle.lego_msg.proofs.Lists.{Legal-back, Legal-front}
use Rattle.lego_msg.specs.Crashes.{memory_lost}
use Rattle.lego_msg.specs.Deliveries.{comes, memory_handles, taken}
use Rattle.lego_msg.specs.Laws.{BeginsWith, SendsFollow, memory_along, memory_given, storage_along, storage_given}
use Rattle.lego_msg.specs.Legal.{Legal}
use Rattle.lego_msg.specs.Run.{after, run}
use Rattle.lego_msg.specs.Sends.{MaySend, sent}
use Rattle.lego_msg.specs.State.{Disk, Mem, lost}
use Rattle.lego_msg.specs.Table.{handled, stored}
use Rattle.lego_msg.specs.Track.{Track, start}
use Rattle.lego_msg.specs.declared.event.Event.{Event}
use Rattle.lego_msg.specs.declared.event.Event.TheVariants.{Access, Complete, Crash, Deliver, Drop, Fill, Out, Send, Turn}
use Rattle.lego_msg.specs.declared.healing.Healing.{Healing}
use Rattle.lego_msg.specs.declared.message.Message.{Message}
use Rattle.lego_msg.specs.declared.operation.Open.{Open}
use Rattle.lego_msg.specs.declared.place.Place.{Place}
use Rattle.lego_msg.specs.declared.place.Place.TheVariants.{Manager, Memory, Processor, Storage}

-- one place of a list is set, and the others stay
pub get_set : {X : Type 0} (xs : List X) (i : ℕ) (old new : X) → slice_get xs i ≡ Some old → slice_get (slice_set xs i new) i ≡ Some new
get_set [] i old new e = cc e
get_set (x ∷ xs) zero old new e = refl
get_set (x ∷ xs) (suc i) old new e = get_set xs i old new e

pub get_set_other : {X : Type 0} (xs : List X) (i j : ℕ) (new : X) → (i ≡ j → ⊥) → slice_get (slice_set xs i new) j ≡ slice_get xs j
get_set_other [] i j new differ = refl
get_set_other (x ∷ xs) zero zero new differ = absurd (differ refl)
get_set_other (x ∷ xs) zero (suc j) new differ = refl
get_set_other (x ∷ xs) (suc i) zero new differ = refl
get_set_other (x ∷ xs) (suc i) (suc j) new differ = get_set_other xs i j new (λ same. differ (ap suc same))

none_some : {X : Type 0} (x : X) → None ≡ Some x → ⊥
none_some x e = cc e

pub same_some : {X : Type 0} (x y : X) → Some x ≡ Some y → x ≡ y
same_some x y e = cc e

differ : (i j : ℕ) → eqb i j ≡ false → i ≡ j → ⊥
differ i j e same = let both : true ≡ false = sym (eq-eqb i j same) ∙ e in cc both

-- a place that is set by a function of what it held, for a place that may be another
at_place : (mems : List Mem) (i c : ℕ) (f : Mem → Mem) (x s : Mem) (b : Bool) → eqb i c ≡ b → slice_get mems i ≡ Some x → slice_get mems c ≡ Some s → slice_get (slice_set mems i (f x)) c ≡ Some (cond b (f s) s)
at_place mems i c f x s true e at_i at_c =
    let same : i ≡ c = eqb-true i c e in
    let both : x ≡ s = same_some x s (sym at_i ∙ ap (slice_get mems) same ∙ at_c) in
    subst (λ (j : ℕ). slice_get (slice_set mems i (f x)) j ≡ Some (f s)) same (get_set mems i x (f x) at_i ∙ ap (λ (x : Mem). Some (f x)) both)
at_place mems i c f x s false e at_i at_c = get_set_other mems i c (f x) (differ i c e) ∙ at_c

no_place : (mems : List Mem) (i c : ℕ) (f : Mem → Mem) (s : Mem) (b : Bool) → eqb i c ≡ b → slice_get mems i ≡ None → slice_get mems c ≡ Some s → slice_get mems c ≡ Some (cond b (f s) s)
no_place mems i c f s true e at_i at_c = absurd (none_some s (sym at_i ∙ ap (slice_get mems) (eqb-true i c e) ∙ at_c))
no_place mems i c f s false e at_i at_c = at_c

handles_at : (t : Track) (i c : ℕ) (m : Message) (o : Option Mem) (s : Mem) → slice_get t.mems i ≡ o → slice_get t.mems c ≡ Some s → slice_get (memory_handles t i m o).mems c ≡ Some (cond (eqb i c) (handled s m).0 s)
handles_at t i c m None s at_i at_c = no_place t.mems i c (λ s. (handled s m).0) s (eqb i c) refl at_i at_c
handles_at t i c m (Some x) s at_i at_c = at_place t.mems i c (λ s. (handled s m).0) x s (eqb i c) refl at_i at_c

lost_at : (mems : List Mem) (i c : ℕ) (o : Option Mem) (s : Mem) → slice_get mems i ≡ o → slice_get mems c ≡ Some s → slice_get (memory_lost mems i o) c ≡ Some (cond (eqb i c) (lost s) s)
lost_at mems i c None s at_i at_c = no_place mems i c lost s (eqb i c) refl at_i at_c
lost_at mems i c (Some x) s at_i at_c = at_place mems i c lost x s (eqb i c) refl at_i at_c

comes_at : (t : Track) (m : Message) (to : Place) (c : ℕ) (s : Mem) → slice_get t.mems c ≡ Some s → slice_get (comes t m to).mems c ≡ Some (memory_given c s m to)
comes_at t m (Processor cpu) c s at = ap (λ (ms : List Mem). slice_get ms c) (issuer_same t m).mems ∙ at
comes_at t m (Memory number) c s at = handles_at t number.0 c m (slice_get t.mems number.0) s refl at
comes_at t m Storage c s at = at
comes_at t m Manager c s at = ap (λ (ms : List Mem). slice_get ms c) (issuer_same t m).mems ∙ at

handles_disk : (t : Track) (i : ℕ) (m : Message) (o : Option Mem) → (memory_handles t i m o).disk ≡ t.disk
handles_disk t i m None = refl
handles_disk t i m (Some s) = refl

comes_disk : (t : Track) (m : Message) (to : Place) → (comes t m to).disk ≡ storage_given t.disk m to
comes_disk t m (Processor cpu) = (issuer_same t m).disk
comes_disk t m (Memory number) = handles_disk t number.0 m (slice_get t.mems number.0)
comes_disk t m Storage = refl
comes_disk t m Manager = (issuer_same t m).disk

pub mem_along : (c : ℕ) (s : Mem) (t : Track) (es : List Event) → Legal t es → slice_get t.mems c ≡ Some s → slice_get (run t es).mems c ≡ Some (memory_along c s es)
mem_along c s t [] legal at = at
mem_along c s t (Turn number pid ∷ es) legal at = mem_along c s (after t (Turn number pid)) es legal.1 at
mem_along c s t (Access cpu pid address kind bytes ∷ es) legal at = mem_along c s (after t (Access cpu pid address kind bytes)) es legal.1 at
mem_along c s t (Fill pid address bytes ∷ es) legal at = mem_along c s (after t (Fill pid address bytes)) es legal.1 at
mem_along c s t (Drop cpu pid line ∷ es) legal at = mem_along c s (after t (Drop cpu pid line)) es legal.1 at
mem_along c s t (Send m ∷ es) legal at = mem_along c s (after t (Send m)) es legal.1 (ap (λ (ms : List Mem). slice_get ms c) (send_sent t m t.owed t.healing t.current legal.0).mems ∙ at)
mem_along c s t (Deliver m ∷ es) legal at = mem_along c (memory_given c s m m.to) (after t (Deliver m)) es legal.1 (comes_at (taken t) m m.to c s at)
mem_along c s t (Crash number inc ∷ es) legal at = mem_along c (cond (eqb number.0 c) (lost s) s) (after t (Crash number inc)) es legal.1 (lost_at t.mems number.0 c (slice_get t.mems number.0) s refl at)
mem_along c s t (Complete op ∷ es) legal at = mem_along c s (after t (Complete op)) es legal.1 (ap (λ (ms : List Mem). slice_get ms c) (completed_same t op.0 t.healing).mems ∙ at)
mem_along c s t (Out stream bytes ∷ es) legal at = mem_along c s (after t (Out stream bytes)) es legal.1 at

pub disk_along : (t : Track) (es : List Event) → Legal t es → (run t es).disk ≡ storage_along t.disk es
disk_along t [] legal = refl
disk_along t (Turn number pid ∷ es) legal = disk_along (after t (Turn number pid)) es legal.1
disk_along t (Access cpu pid address kind bytes ∷ es) legal = disk_along (after t (Access cpu pid address kind bytes)) es legal.1
disk_along t (Fill pid address bytes ∷ es) legal = disk_along (after t (Fill pid address bytes)) es legal.1
disk_along t (Drop cpu pid line ∷ es) legal = disk_along (after t (Drop cpu pid line)) es legal.1
disk_along t (Send m ∷ es) legal = disk_along (after t (Send m)) es legal.1 ∙ ap (λ (d : Disk). storage_along d es) (send_sent t m t.owed t.healing t.current legal.0).disk
disk_along t (Deliver m ∷ es) legal = disk_along (after t (Deliver m)) es legal.1 ∙ ap (λ (d : Disk). storage_along d es) (comes_disk (taken t) m m.to)
disk_along t (Crash number inc ∷ es) legal = disk_along (after t (Crash number inc)) es legal.1
disk_along t (Complete op ∷ es) legal = disk_along (after t (Complete op)) es legal.1 ∙ ap (λ (d : Disk). storage_along d es) (completed_same t op.0 t.healing).disk
disk_along t (Out stream bytes ∷ es) legal = disk_along (after t (Out stream bytes)) es legal.1

-- WHAT IS OWED COMES NEXT

owes : (m : Message) (ms : List Message) → m ∷ ms ≡ [] → ⊥
owes m ms e = cc e

-- a message that may be sent while some are owed is the first of them
is_owed : (t : Track) (x m : Message) (ms owed : List Message) (h : Option Healing) (o : Option Open) → owed ≡ m ∷ ms → MaySend t x owed h o → x ≡ m
is_owed t x m ms owed h o e may = subst (λ (owed : List Message). MaySend t x owed h o) e may

then_owed : (t : Track) (x m : Message) (ms owed : List Message) (h : Option Healing) (o : Option Open) → owed ≡ m ∷ ms → (sent t x owed h o).owed ≡ ms
then_owed t x m ms owed h o e = subst (λ (owed : List Message). (sent t x owed h o).owed ≡ ms) (sym e) refl

pub owed_along : (owed : List Message) (t : Track) (es : List Event) → t.owed ≡ owed → Legal t es → BeginsWith owed es
owed_along [] t es e legal = tt
owed_along (m ∷ ms) t [] e legal = tt
owed_along (m ∷ ms) t (Turn number pid ∷ es) e legal = absurd (owes m ms (sym e ∙ legal.0.0.0.owed))
owed_along (m ∷ ms) t (Access cpu pid address kind bytes ∷ es) e legal = absurd (owes m ms (sym e ∙ legal.0.0.0.owed))
owed_along (m ∷ ms) t (Fill pid address bytes ∷ es) e legal = absurd (owes m ms (sym e ∙ legal.0.0.owed))
owed_along (m ∷ ms) t (Drop cpu pid line ∷ es) e legal = absurd (owes m ms (sym e ∙ legal.0.0.0.owed))
owed_along (m ∷ ms) t (Send x ∷ es) e legal = (ap Send (is_owed t x m ms t.owed t.healing t.current e legal.0), owed_along ms (after t (Send x)) es (then_owed t x m ms t.owed t.healing t.current e) legal.1)
owed_along (m ∷ ms) t (Deliver x ∷ es) e legal = absurd (owes m ms (sym e ∙ legal.0.owed))
owed_along (m ∷ ms) t (Crash number inc ∷ es) e legal = absurd (owes m ms (sym e ∙ legal.0.owed))
owed_along (m ∷ ms) t (Complete op ∷ es) e legal = absurd (owes m ms (sym e ∙ legal.0.owed))
owed_along (m ∷ ms) t (Out stream bytes ∷ es) e legal = absurd (owes m ms (sym e ∙ legal.0.0.owed))

memory_owes : (t : Track) (m : Message) (c : MemId) (s : Mem) (to : Place) → to ≡ Memory c → slice_get t.mems c.0 ≡ Some s → (comes t m to).owed ≡ (handled s m).1
memory_owes t m c s to e at =
    let here : (memory_handles t c.0 m (slice_get t.mems c.0)).owed ≡ (handled s m).1 = subst (λ (o : Option Mem). (memory_handles t c.0 m o).owed ≡ (handled s m).1) (sym at) refl in
    subst (λ (to : Place). (comes t m to).owed ≡ (handled s m).1) (sym e) here

storage_owes : (t : Track) (m : Message) (to : Place) → to ≡ Storage → (comes t m to).owed ≡ (stored t.disk m).1
storage_owes t m to e = subst (λ (to : Place). (comes t m to).owed ≡ (stored t.disk m).1) (sym e) refl

pub sends-follow : SendsFollow
sends-follow shape due es fs m legal =
    let t : Track = start shape due in
    let front : Legal t es = Legal-front t es (Deliver m ∷ fs) legal in
    let back : Legal (run t es) (Deliver m ∷ fs) = Legal-back t es (Deliver m ∷ fs) legal in (
      λ c s to at. owed_along _ (after (run t es) (Deliver m)) fs (memory_owes (taken (run t es)) m c (memory_along c.0 s es) m.to to (mem_along c.0 s t es front at)) back.1,
      λ to. owed_along _ (after (run t es) (Deliver m)) fs (storage_owes (taken (run t es)) m m.to to ∙ ap (λ (d : Disk). (stored d m).1) (disk_along t es front)) back.1,
    )
