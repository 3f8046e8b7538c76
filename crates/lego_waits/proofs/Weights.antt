-- Weights of messages: bounds, and what they depend on.
use Rattle.std.proofs.Common.{◌≡◌, ◌+◌, ◌*◌, ◌≤◌, ◌∙◌, ℕ, Bool, List, Some, ap, arith, eqb, false, refl, slice_get, subst, sym, true}
use Rattle.std.proofs.lemmas.Bool.{eq-eqb, eqb-true}
use Rattle.std.specs.Prelude.{slice_set}
use Rattle.lego_msg.proofs.Senders.{get_set, get_set_other}
use Rattle.lego_msg.specs.State.{Mem}
use Rattle.lego_msg.specs.declared.body.Body.{Body}
use Rattle.lego_msg.specs.declared.body.Body.TheVariants.{Drain, Drained, LogFull, LogWrite}
use Rattle.lego_msg.specs.declared.message.Message.{Message}
use Rattle.lego_msg.specs.declared.place.Place.{Place}
use Rattle.lego_msg.specs.declared.place.Place.TheVariants.{Manager, Memory, Processor, Storage}
use Rattle.lego_waits.specs.Measure.{is_full, log_full, pick, way_of, weight_of}

-- WEIGHTS of messages, whatever the memories hold: none is 0, and only those of patches that go round depend on them
pub pick_from : (x : Bool) (k a b : ℕ) → k ≤ a → k ≤ b → k ≤ pick x a b
pick_from true k a b e f = e
pick_from false k a b e f = f

pub pick_to : (x : Bool) (a b k : ℕ) → a ≤ k → b ≤ k → pick x a b ≤ k
pick_to true a b k e f = e
pick_to false a b k e f = f

pub weighs : (mems : List Mem) (m : Message) (b : Body) → 1 ≤ weight_of mems m b
weighs mems m (LogWrite patch) = pick_from (is_full mems m.to) 1 4 2 (omega arith) (omega arith)
weighs mems m LogFull = pick_from (is_full mems m.from) 1 3 6 (omega arith) (omega arith)
weighs mems m Drain = pick_from (is_full mems m.to) 1 2 5 (omega arith) (omega arith)
weighs mems m Drained = pick_from (is_full mems m.from) 1 5 3 (omega arith) (omega arith)
weighs mems m other = omega arith

pick_most : (x y : Bool) (a b k : ℕ) → a ≤ b + k → b ≤ a + k → pick x a b ≤ pick y a b + k
pick_most true true a b k e f = omega arith
pick_most true false a b k e f = e
pick_most false true a b k e f = f
pick_most false false a b k e f = omega arith

-- with other memories a weight rises by 3 at most, and only that of a patch that goes round
pub weight_most : (mems mems' : List Mem) (m : Message) (b : Body) → weight_of mems' m b ≤ weight_of mems m b + 3 * way_of b
weight_most mems mems' m (LogWrite patch) = pick_most (is_full mems' m.to) (is_full mems m.to) 4 2 3 (omega arith) (omega arith)
weight_most mems mems' m LogFull = pick_most (is_full mems' m.from) (is_full mems m.from) 3 6 3 (omega arith) (omega arith)
weight_most mems mems' m Drain = pick_most (is_full mems' m.to) (is_full mems m.to) 2 5 3 (omega arith) (omega arith)
weight_most mems mems' m Drained = pick_most (is_full mems' m.from) (is_full mems m.from) 5 3 3 (omega arith) (omega arith)
weight_most mems mems' m other = omega arith

-- with memories of which the same ones are full it stays
pub weight_same : (mems mems' : List Mem) (m : Message) (b : Body) → ((p : Place) → is_full mems' p ≡ is_full mems p) → weight_of mems' m b ≡ weight_of mems m b
weight_same mems mems' m (LogWrite patch) same = ap (λ (x : Bool). pick x 4 2) (same m.to)
weight_same mems mems' m LogFull same = ap (λ (x : Bool). pick x 3 6) (same m.from)
weight_same mems mems' m Drain same = ap (λ (x : Bool). pick x 2 5) (same m.to)
weight_same mems mems' m Drained same = ap (λ (x : Bool). pick x 5 3) (same m.from)
weight_same mems mems' m other same = refl

-- at most 6
pub weight_least : (mems : List Mem) (m : Message) (b : Body) → weight_of mems m b ≤ 6
weight_least mems m (LogWrite patch) = pick_to (is_full mems m.to) 4 2 6 (omega arith) (omega arith)
weight_least mems m LogFull = pick_to (is_full mems m.from) 3 6 6 (omega arith) (omega arith)
weight_least mems m Drain = pick_to (is_full mems m.to) 2 5 6 (omega arith) (omega arith)
weight_least mems m Drained = pick_to (is_full mems m.from) 5 3 6 (omega arith) (omega arith)
weight_least mems m other = omega arith

-- FULLNESS, once memory i holds something else

full_if : (mems : List Mem) (i : ℕ) (s s' : Mem) (k : ℕ) (x : Bool) → eqb i k ≡ x → slice_get mems i ≡ Some s → log_full (Some s') ≡ log_full (Some s) → log_full (slice_get (slice_set mems i s') k) ≡ log_full (slice_get mems k)
full_if mems i s s' k true same at full =
    let e : i ≡ k = eqb-true i k same in
    subst (λ (j : ℕ). log_full (slice_get (slice_set mems i s') j) ≡ log_full (slice_get mems j)) e
    (ap log_full (get_set mems i s s' at) ∙ full ∙ sym (ap log_full at))
full_if mems i s s' k false same at full = ap log_full (get_set_other mems i k s' (λ e. differ (sym (eq-eqb i k e) ∙ same)))
  where
    differ : true ≡ false → ⊥
    differ e = cc e

pub full_kept : (mems : List Mem) (i : ℕ) (s s' : Mem) → slice_get mems i ≡ Some s → log_full (Some s') ≡ log_full (Some s) → (p : Place) → is_full (slice_set mems i s') p ≡ is_full mems p
full_kept mems i s s' at full (Memory m) = full_if mems i s s' m.0 (eqb i m.0) refl at full
full_kept mems i s s' at full (Processor cpu) = refl
full_kept mems i s s' at full Storage = refl
full_kept mems i s s' at full Manager = refl
