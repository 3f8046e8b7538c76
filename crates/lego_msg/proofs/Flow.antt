-- What each event leaves as it is, and what it does to what is pending.
use Rattle.std.proofs.Common.{◌≡◌, ◌+◌, [], ◌∷◌, ◌++◌, ◌∙◌, ℕ, Bool, List, None, Option, Some, ap, arith, cond, false, refl, slice_get, subst, true}
use Rattle.lego_base.specs.declared.shape.Shape.{Shape}
use Rattle.lego_msg.proofs.Lists.{Legal-back, Legal-front}
use Rattle.lego_msg.specs.Completions.{completed, completed_beside, finished, move_finished}
use Rattle.lego_msg.specs.Deliveries.{comes, issuer_gets, memory_handles, noted, noted_by_move, noted_with, reaction_of, reacts, stops, taken}
use Rattle.lego_msg.specs.Laws.{DeliveriesArePicked, deliveries_in, pending_along, pending_of}
use Rattle.lego_msg.specs.Legal.{Legal}
use Rattle.lego_msg.specs.Marks.{Call, Mark, Show}
use Rattle.lego_msg.specs.Operations.{patch_of}
use Rattle.lego_msg.specs.Run.{after, run}
use Rattle.lego_msg.specs.Sends.{IsMove, MayBegin, MaySend, begins, move_begins, sent}
use Rattle.lego_msg.specs.State.{Mem}
use Rattle.lego_msg.specs.Track.{Track, picked, start}
use Rattle.lego_msg.specs.declared.body.Body.{Body}
use Rattle.lego_msg.specs.declared.event.Event.{Event}
use Rattle.lego_msg.specs.declared.event.Event.TheVariants.{Access, Complete, Crash, Deliver, Drop, Fill, Out, Send, Turn}
use Rattle.lego_msg.specs.declared.healing.Healing.{Healing}
use Rattle.lego_msg.specs.declared.healing.Move.{Move}
use Rattle.lego_msg.specs.declared.message.Message.{Message}
use Rattle.lego_msg.specs.declared.operation.Open.{Open}
use Rattle.lego_msg.specs.declared.place.Place.{Place}
use Rattle.lego_msg.specs.declared.place.Place.TheVariants.{Manager, Memory, Processor, Storage}

-- the components, the net and the clock stay as they are
pub record Same (t t' : Track) : Type 0 where
  pub shape : t'.shape ≡ t.shape
  pub mems : t'.mems ≡ t.mems
  pub disk : t'.disk ≡ t.disk
  pub net : t'.net ≡ t.net
  pub delivered : t'.delivered ≡ t.delivered
  pub clock : t'.clock ≡ t.clock
  pub due : t'.due ≡ t.due

same_none : (t : Track) → Same t t
same_none t = record { shape = refl; mems = refl; disk = refl; net = refl; delivered = refl; clock = refl; due = refl }

same_either : (t x y : Track) (b : Bool) → Same t x → Same t y → Same t (cond b x y)
same_either t x y true p q = p
same_either t x y false p q = q

-- DELIVERIES to an issuer

reacts_same : (t : Track) (o : Open) (m : Message) (b : Option Body) → Same t (reacts t o m b)
reacts_same t o m None = record { shape = refl; mems = refl; disk = refl; net = refl; delivered = refl; clock = refl; due = refl }
reacts_same t o m (Some b) = record { shape = refl; mems = refl; disk = refl; net = refl; delivered = refl; clock = refl; due = refl }

noted_same : (t : Track) (m : Message) (o : Option Open) → Same t (noted t m o)
noted_same t m None = same_none t
noted_same t m (Some o) = same_either t _ _ _ (reacts_same t o m (reaction_of (patch_of o.operation) m.body)) (same_none t)

noted_by_move_same : (t : Track) (m : Message) (h : Healing) (o : Option Open) → Same t (noted_by_move t m h o)
noted_by_move_same t m h None = noted_same t m t.current
noted_by_move_same t m h (Some o) = same_either t _ _ _ (record { shape = refl; mems = refl; disk = refl; net = refl; delivered = refl; clock = refl; due = refl }) (noted_same t m t.current)

noted_with_same : (t : Track) (m : Message) (h : Option Healing) → Same t (noted_with t m h)
noted_with_same t m None = noted_same t m t.current
noted_with_same t m (Some h) = noted_by_move_same t m h h.current

pub issuer_same : (t : Track) (m : Message) → Same t (issuer_gets t m)
issuer_same t m = same_either t _ _ (stops m.body) (record { shape = refl; mems = refl; disk = refl; net = refl; delivered = refl; clock = refl; due = refl }) (noted_with_same t m t.healing)

-- COMPLETIONS

finished_same : (t : Track) (o : Option Open) → Same t (finished t o)
finished_same t None = same_none t
finished_same t (Some o) = record { shape = refl; mems = refl; disk = refl; net = refl; delivered = refl; clock = refl; due = refl }

move_finished_same : (t : Track) (h : Healing) (o : Open) (moves : List Move) → Same t (move_finished t h o moves)
move_finished_same t h o [] = record { shape = refl; mems = refl; disk = refl; net = refl; delivered = refl; clock = refl; due = refl }
move_finished_same t h o (move ∷ moves) = record { shape = refl; mems = refl; disk = refl; net = refl; delivered = refl; clock = refl; due = refl }

beside_same : (t : Track) (number : ℕ) (h : Healing) (o : Option Open) → Same t (completed_beside t number h o)
beside_same t number h None = finished_same t t.current
beside_same t number h (Some o) = same_either t _ _ _ (move_finished_same t h o h.moves) (finished_same t t.current)

pub completed_same : (t : Track) (number : ℕ) (h : Option Healing) → Same t (completed t number h)
completed_same t number None = finished_same t t.current
completed_same t number (Some h) = beside_same t number h h.current

-- SENDS add their message to what is pending

pub record Sent (t t' : Track) (m : Message) : Type 0 where
  pub shape : t'.shape ≡ t.shape
  pub mems : t'.mems ≡ t.mems
  pub disk : t'.disk ≡ t.disk
  pub net : t'.net ≡ t.net ++ m ∷ []
  pub delivered : t'.delivered ≡ t.delivered
  pub clock : t'.clock ≡ t.clock

begins_sent : (t : Track) (m : Message) (due : List Mark) → MayBegin t m due → Sent t (begins t m due) m
begins_sent t m [] may = absurd may
begins_sent t m (Show e ∷ due) may = absurd may
begins_sent t m (Call o ∷ due) may = record { shape = refl; mems = refl; disk = refl; net = refl; delivered = refl; clock = refl }

move_sent : (t : Track) (m : Message) (h : Healing) (o : Option Open) (moves : List Move) → IsMove t m h o moves → Sent t (move_begins t m h moves) m
move_sent t m h (Some o) moves may = absurd may
move_sent t m h None [] may = absurd may
move_sent t m h None (move ∷ moves) may = record { shape = refl; mems = refl; disk = refl; net = refl; delivered = refl; clock = refl }

pub send_sent : (t : Track) (m : Message) (owed : List Message) (h : Option Healing) (o : Option Open) → MaySend t m owed h o → Sent t (sent t m owed h o) m
send_sent t m (x ∷ owed) h o may = record { shape = refl; mems = refl; disk = refl; net = refl; delivered = refl; clock = refl }
send_sent t m [] (Some h) o may = move_sent t m h h.current h.moves may.1
send_sent t m [] None (Some o) may = record { shape = refl; mems = refl; disk = refl; net = refl; delivered = refl; clock = refl }
send_sent t m [] None None may = begins_sent t m t.due may.1

-- DELIVERIES take one out, and count

handles_net : (t : Track) (number : ℕ) (m : Message) (s : Option Mem) → (memory_handles t number m s).net ≡ t.net
handles_net t number m None = refl
handles_net t number m (Some s) = refl

handles_delivered : (t : Track) (number : ℕ) (m : Message) (s : Option Mem) → (memory_handles t number m s).delivered ≡ t.delivered
handles_delivered t number m None = refl
handles_delivered t number m (Some s) = refl

handles_shape : (t : Track) (number : ℕ) (m : Message) (s : Option Mem) → (memory_handles t number m s).shape ≡ t.shape
handles_shape t number m None = refl
handles_shape t number m (Some s) = refl

handles_clock : (t : Track) (number : ℕ) (m : Message) (s : Option Mem) → (memory_handles t number m s).clock ≡ t.clock
handles_clock t number m None = refl
handles_clock t number m (Some s) = refl

handles_due : (t : Track) (number : ℕ) (m : Message) (s : Option Mem) → (memory_handles t number m s).due ≡ t.due
handles_due t number m None = refl
handles_due t number m (Some s) = refl

pub record Arrived (t t' : Track) : Type 0 where
  pub shape : t'.shape ≡ t.shape
  pub net : t'.net ≡ t.net
  pub delivered : t'.delivered ≡ t.delivered
  pub clock : t'.clock ≡ t.clock
  pub due : t'.due ≡ t.due

issuer_arrived : (t t' : Track) → Same t t' → Arrived t t'
issuer_arrived t t' same = record { shape = same.shape; net = same.net; delivered = same.delivered; clock = same.clock; due = same.due }

pub comes_arrived : (t : Track) (m : Message) (to : Place) → Arrived t (comes t m to)
comes_arrived t m (Processor cpu) = issuer_arrived t _ (issuer_same t m)
comes_arrived t m (Memory number) = record {
  shape = handles_shape t number.0 m (slice_get t.mems number.0);
  net = handles_net t number.0 m (slice_get t.mems number.0);
  delivered = handles_delivered t number.0 m (slice_get t.mems number.0);
  clock = handles_clock t number.0 m (slice_get t.mems number.0);
  due = handles_due t number.0 m (slice_get t.mems number.0);
}
comes_arrived t m Storage = record { shape = refl; net = refl; delivered = refl; clock = refl; due = refl }
comes_arrived t m Manager = issuer_arrived t _ (issuer_same t m)

-- ALONG A LIST

pub shape_along : (t : Track) (es : List Event) → Legal t es → (run t es).shape ≡ t.shape
shape_along t [] legal = refl
shape_along t (Turn number pid ∷ es) legal = shape_along (after t (Turn number pid)) es legal.1
shape_along t (Access cpu pid address kind bytes ∷ es) legal = shape_along (after t (Access cpu pid address kind bytes)) es legal.1
shape_along t (Fill pid address bytes ∷ es) legal = shape_along (after t (Fill pid address bytes)) es legal.1
shape_along t (Drop cpu pid line ∷ es) legal = shape_along (after t (Drop cpu pid line)) es legal.1
shape_along t (Send m ∷ es) legal = shape_along (after t (Send m)) es legal.1 ∙ (send_sent t m t.owed t.healing t.current legal.0).shape
shape_along t (Deliver m ∷ es) legal = shape_along (after t (Deliver m)) es legal.1 ∙ (comes_arrived (taken t) m m.to).shape
shape_along t (Crash number inc ∷ es) legal = shape_along (after t (Crash number inc)) es legal.1
shape_along t (Complete op ∷ es) legal = shape_along (after t (Complete op)) es legal.1 ∙ (completed_same t op.0 t.healing).shape
shape_along t (Out stream bytes ∷ es) legal = shape_along (after t (Out stream bytes)) es legal.1

add_one : (a b c : ℕ) → b ≡ a + 1 → b + c ≡ a + (c + 1)
add_one a b c e = omega (arith, e)

pub delivered_along : (t : Track) (es : List Event) → Legal t es → (run t es).delivered ≡ t.delivered + deliveries_in es
delivered_along t [] legal = omega arith
delivered_along t (Turn number pid ∷ es) legal = delivered_along (after t (Turn number pid)) es legal.1
delivered_along t (Access cpu pid address kind bytes ∷ es) legal = delivered_along (after t (Access cpu pid address kind bytes)) es legal.1
delivered_along t (Fill pid address bytes ∷ es) legal = delivered_along (after t (Fill pid address bytes)) es legal.1
delivered_along t (Drop cpu pid line ∷ es) legal = delivered_along (after t (Drop cpu pid line)) es legal.1
delivered_along t (Send m ∷ es) legal = delivered_along (after t (Send m)) es legal.1 ∙ ap (λ n. n + deliveries_in es) (send_sent t m t.owed t.healing t.current legal.0).delivered
delivered_along t (Deliver m ∷ es) legal = delivered_along (after t (Deliver m)) es legal.1 ∙ add_one t.delivered _ (deliveries_in es) (comes_arrived (taken t) m m.to).delivered
delivered_along t (Crash number inc ∷ es) legal = delivered_along (after t (Crash number inc)) es legal.1
delivered_along t (Complete op ∷ es) legal = delivered_along (after t (Complete op)) es legal.1 ∙ ap (λ n. n + deliveries_in es) (completed_same t op.0 t.healing).delivered
delivered_along t (Out stream bytes ∷ es) legal = delivered_along (after t (Out stream bytes)) es legal.1

-- what is pending from a track on
abbrev flow : Track → List Event → List Message
flow t es = pending_along t.shape.deliveries t.delivered t.net es

flow_of : (s s' : Shape) (n n' : ℕ) (net net' : List Message) (es : List Event) → s ≡ s' → n ≡ n' → net ≡ net' → pending_along s.deliveries n net es ≡ pending_along s'.deliveries n' net' es
flow_of s s' n n' net net' es e f g = λ i. pending_along (e i).deliveries (f i) (g i) es

pub net_along : (t : Track) (es : List Event) → Legal t es → (run t es).net ≡ flow t es
net_along t [] legal = refl
net_along t (Turn number pid ∷ es) legal = net_along (after t (Turn number pid)) es legal.1
net_along t (Access cpu pid address kind bytes ∷ es) legal = net_along (after t (Access cpu pid address kind bytes)) es legal.1
net_along t (Fill pid address bytes ∷ es) legal = net_along (after t (Fill pid address bytes)) es legal.1
net_along t (Drop cpu pid line ∷ es) legal = net_along (after t (Drop cpu pid line)) es legal.1
net_along t (Send m ∷ es) legal =
    let s = send_sent t m t.owed t.healing t.current legal.0 in
    net_along (after t (Send m)) es legal.1 ∙ flow_of _ _ _ _ _ _ es s.shape s.delivered s.net
net_along t (Deliver m ∷ es) legal =
    let s = comes_arrived (taken t) m m.to in
    net_along (after t (Deliver m)) es legal.1 ∙ flow_of _ _ _ _ _ _ es s.shape s.delivered s.net
net_along t (Crash number inc ∷ es) legal = net_along (after t (Crash number inc)) es legal.1
net_along t (Complete op ∷ es) legal =
    let s = completed_same t op.0 t.healing in
    net_along (after t (Complete op)) es legal.1 ∙ flow_of _ _ _ _ _ _ es s.shape s.delivered s.net
net_along t (Out stream bytes ∷ es) legal = net_along (after t (Out stream bytes)) es legal.1

pub deliveries-are-picked : DeliveriesArePicked
deliveries-are-picked shape due es fs m legal =
    let t : Track = start shape due in
    let front : Legal t es = Legal-front t es (Deliver m ∷ fs) legal in
    let back : Legal (run t es) (Deliver m ∷ fs) = Legal-back t es (Deliver m ∷ fs) legal in
    let s : (run t es).shape ≡ shape = shape_along t es front in
    let d : (run t es).delivered ≡ deliveries_in es = delivered_along t es front ∙ omega arith in
    let n : (run t es).net ≡ pending_of shape.deliveries es = net_along t es front in
    subst (λ (p : Shape × ℕ × List Message). picked p.0.deliveries p.1 p.2 ≡ Some m) (λ i. (s i, d i, n i)) back.0.chosen
