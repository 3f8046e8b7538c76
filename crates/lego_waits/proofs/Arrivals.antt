-- Deliveries lower the load.
use Rattle.std.proofs.Common.{◌≡◌, ◌+◌, ◌-◌, ◌*◌, ◌<◌, ◌≤◌, [], ◌∙◌, ℕ, Bool, List, None, Option, Some, ap, arith, cond, eqb, false, length, refl, slice_get, sym, true}
use Rattle.std.proofs.lemmas.List.{places}
use Rattle.std.specs.Prelude.{slice_set}
use Rattle.lego_base.specs.declared.records.Patch.{Patch}
use Rattle.lego_msg.specs.Deliveries.{MayDeliver, answered, comes, issuer_gets, memory_handles, noted, noted_by_move, noted_with, reaction_of, reacts, stops, taken}
use Rattle.lego_msg.specs.Operations.{patch_of}
use Rattle.lego_msg.specs.Places.{memory}
use Rattle.lego_msg.specs.Run.{after}
use Rattle.lego_msg.specs.State.{Mem}
use Rattle.lego_msg.specs.Table.{handled, stored}
use Rattle.lego_msg.specs.Track.{Track, memory_count, pick_of, picked}
use Rattle.lego_msg.specs.declared.body.Body.{Body}
use Rattle.lego_msg.specs.declared.body.Body.TheVariants.{Drained, LogFull}
use Rattle.lego_msg.specs.declared.event.Event.TheVariants.{Deliver}
use Rattle.lego_msg.specs.declared.healing.Healing.{Healing}
use Rattle.lego_msg.specs.declared.message.Message.{Message}
use Rattle.lego_msg.specs.declared.operation.Open.{Open}
use Rattle.lego_msg.specs.declared.place.Place.{Place}
use Rattle.lego_msg.specs.declared.place.Place.TheVariants.{Manager, Memory, Processor, Storage}
use Rattle.lego_waits.proofs.Falls.{Held, Lowers, Ways, Weights}
use Rattle.lego_waits.proofs.Handles.{Handles, Lighter, Shorter, Stays, handles, stores}
use Rattle.lego_waits.proofs.InPlace.{in_place}
use Rattle.lego_waits.proofs.Totals.{total-least, total-most, total-out, total-same, total-set, total-times}
use Rattle.lego_waits.proofs.Weights.{full_kept, weighs, weight_most, weight_same}
use Rattle.lego_waits.specs.Laws.{AreInPlace}
use Rattle.lego_waits.specs.Measure.{healings_left, held, is_full, is_open, log_length, mem_weight, moves_left, pending_weight, pick, total, unsent_of, unsent_weight, waiting, way, way_of, weight_of}

-- the weights of a list, with other memories
list_same : (mems mems' : List Mem) (k : ℕ) (ms : List Message) → ((p : Place) → is_full mems' p ≡ is_full mems p) → total (λ (m : Message). 2 * weight_of mems' m m.body + k) ms ≡ total (λ (m : Message). 2 * weight_of mems m m.body + k) ms
list_same mems mems' k ms same = total-same (λ (m : Message). 2 * weight_of mems' m m.body + k) (λ (m : Message). 2 * weight_of mems m m.body + k) ms (λ m. ap (λ (w : ℕ). 2 * w + k) (weight_same mems mems' m m.body same))

pub pending_same : (mems mems' : List Mem) (ms : List Message) → ((p : Place) → is_full mems' p ≡ is_full mems p) → total (pending_weight mems') ms ≡ total (pending_weight mems) ms
pending_same mems mems' ms same = total-same (pending_weight mems') (pending_weight mems) ms (λ m. ap (λ (w : ℕ). 2 * w) (weight_same mems mems' m m.body same))

pub pending_most : (mems mems' : List Mem) (ms : List Message) → total (pending_weight mems') ms ≤ total (pending_weight mems) ms + 6 * total way ms
pending_most mems mems' ms =
    let most = total-most (pending_weight mems') (pending_weight mems) (λ (m : Message). 6 * way m) ms (λ m. let one = weight_most mems mems' m m.body in omega (arith, one)) in
    let times = total-times 6 way ms in
    omega (arith, most, times)

pub unsent_most : (mems mems' : List Mem) (ms : List Message) → total (unsent_weight mems') ms ≤ total (unsent_weight mems) ms + 6 * total way ms
unsent_most mems mems' ms =
    let most = total-most (unsent_weight mems') (unsent_weight mems) (λ (m : Message). 6 * way m) ms (λ m. let one = weight_most mems mems' m m.body in omega (arith, one)) in
    let times = total-times 6 way ms in
    omega (arith, most, times)

-- what is pending once the picked message is taken out
taken_total : (f : Message → ℕ) (t : Track) (m : Message) → picked t.shape.deliveries t.delivered t.net ≡ Some m → total f t.net ≡ total f (taken t).net + f m
taken_total f t m chosen = total-out f t.net (pick_of t.shape.deliveries t.delivered (length t.net)) m chosen

-- TO A MEMORY

module _ (t : Track) (m : Message) (owed : t.owed ≡ []) (chosen : picked t.shape.deliveries t.delivered t.net ≡ Some m) where
  none_owed : (f : Message → ℕ) → total f t.owed ≡ 0
  none_owed f = ap (total f) owed

  -- the memory's new state, and what it sends
  memory_lowers : (i : ℕ) (s s' : Mem) (out : List Message) → slice_get t.mems i ≡ Some s → Handles t.mems i s (weight_of t.mems m m.body) (way_of m.body) s' out → Lowers t (record (taken t) { mems = slice_set t.mems i s'; owed = out })
  memory_lowers i s s' out at (Lighter full log ways_ less) =
      let mems' : List Mem = slice_set t.mems i s' in
      let kept : (p : Place) → is_full mems' p ≡ is_full t.mems p = full_kept t.mems i s s' at full in
      let a = taken_total way t m chosen in
      let b = total-set waiting t.mems i s s' at in
      let c = total-set log_length t.mems i s s' at in
      let d = total-set mem_weight t.mems i s s' at in
      let e = taken_total (pending_weight t.mems) t m chosen in
      let f = pending_same t.mems mems' (taken t).net kept in
      let g : total (unsent_weight mems') out ≡ total (unsent_weight t.mems) out = list_same t.mems mems' 1 out kept in
      let h : total (unsent_weight mems') (unsent_of t.current) ≡ total (unsent_weight t.mems) (unsent_of t.current) = list_same t.mems mems' 1 (unsent_of t.current) kept in
      let z = none_owed way in
      let y = none_owed (unsent_weight t.mems) in
      record { count = refl; falls = Weights (omega (arith, a, b, ways_, z)) (omega (arith, c, log)) (omega (arith, d, e, f, g, h, y, less)) }
  memory_lowers i s s' out at (Shorter log ways_ less) =
      let mems' : List Mem = slice_set t.mems i s' in
      let a = taken_total way t m chosen in
      let b = total-set waiting t.mems i s s' at in
      let c = total-set log_length t.mems i s s' at in
      let d = total-set mem_weight t.mems i s s' at in
      let e = taken_total (pending_weight t.mems) t m chosen in
      let f = pending_most t.mems mems' (taken t).net in
      let h = unsent_most t.mems mems' (unsent_of t.current) in
      let least = total-least waiting t.mems i s at in
      let z = none_owed way in
      let y = none_owed (unsent_weight t.mems) in
      record { count = refl; falls = Held (omega (arith, a, b, ways_, z)) (omega (arith, c, log)) (omega (arith, a, d, e, f, h, y, z, less, least)) }
  memory_lowers i s s' out at (Stays log ways_ less) =
      let mems' : List Mem = slice_set t.mems i s' in
      let a = taken_total way t m chosen in
      let b = total-set waiting t.mems i s s' at in
      let c = total-set log_length t.mems i s s' at in
      let d = total-set mem_weight t.mems i s s' at in
      let e = taken_total (pending_weight t.mems) t m chosen in
      let f = pending_most t.mems mems' (taken t).net in
      let h = unsent_most t.mems mems' (unsent_of t.current) in
      let least = total-least waiting t.mems i s at in
      let z = none_owed way in
      let y = none_owed (unsent_weight t.mems) in
      record { count = refl; falls = Ways (omega (arith, a, b, ways_, z)) (omega (arith, c, log)) (omega (arith, a, d, e, f, h, y, z, less, least)) }

  -- nothing is done with it
  dropped : Lowers t (taken t)
  dropped =
      let a = taken_total way t m chosen in
      let e = taken_total (pending_weight t.mems) t m chosen in
      let one = weighs t.mems m m.body in
      record { count = refl; falls = Weights (omega (arith, a)) (omega arith) (omega (arith, e, one)) }

  at_memory : (i : ℕ) (o : Option Mem) → AreInPlace 0 t.mems → m.to ≡ memory i → slice_get t.mems i ≡ o → Lowers t (memory_handles (taken t) i m o)
  at_memory i None places to at = dropped
  at_memory i (Some s) places to at =
      let place = in_place 0 t.mems i s places at in
      memory_lowers i s (handled s m).0 (handled s m).1 at (handles t.mems i s m at (place.0 ∙ omega arith) place.1 to m.body)

  -- TO STORAGE

  storage_lowers : Lowers t (record (taken t) { disk = (stored t.disk m).0; owed = (stored t.disk m).1 })
  storage_lowers =
      let s = stores t.mems t.disk m m.body in
      let a = taken_total way t m chosen in
      let e = taken_total (pending_weight t.mems) t m chosen in
      let z = none_owed way in
      let y = none_owed (unsent_weight t.mems) in
      let none : total way (stored t.disk m).1 ≡ 0 = s.none in
      let less : total (unsent_weight t.mems) (stored t.disk m).1 < 2 * weight_of t.mems m m.body = s.less in
      record { count = refl; falls = Weights (omega (arith, a, z, none)) (omega arith) (omega (arith, e, y, less)) }

-- TO AN ISSUER: it notes an answer, or owes one message, which weighs less

pub record Gets (t t' : Track) (m : Message) : Type 0 where
  pub shape : t'.shape ≡ t.shape
  pub mems : t'.mems ≡ t.mems
  pub net : t'.net ≡ t.net
  pub owners : t'.owners ≡ t.owners
  pub clock : t'.clock ≡ t.clock
  pub moves : moves_left t'.healing ≡ moves_left t.healing
  pub unsent : unsent_of t'.current ≡ unsent_of t.current
  pub open_ : is_open t'.current ≡ is_open t.current
  pub ways_ : total way t'.owed ≤ way_of m.body
  pub weights_ : total (unsent_weight t.mems) t'.owed < 2 * weight_of t.mems m m.body

gets_lowers : (t t' : Track) (m : Message) → t.owed ≡ [] → picked t.shape.deliveries t.delivered t.net ≡ Some m → Gets (taken t) t' m → Lowers t t'
gets_lowers t t' m owed chosen g =
    let a = taken_total way t m chosen in
    let e = taken_total (pending_weight t.mems) t m chosen in
    let z : total way t.owed ≡ 0 = ap (total way) owed in
    let y : total (unsent_weight t.mems) t.owed ≡ 0 = ap (total (unsent_weight t.mems)) owed in
    let n1 : total way t'.net ≡ total way (taken t).net = ap (total way) g.net in
    let n2 : total way (unsent_of t'.current) ≡ total way (unsent_of t.current) = ap (total way) g.unsent in
    let n3 : total waiting t'.mems ≡ total waiting t.mems = ap (total waiting) g.mems in
    let n4 : healings_left t' ≡ healings_left t = λ i. (length (g.shape i).crashes - (g.clock i).passed) * (12 + 8 * length (g.owners i)) + g.moves i in
    let n5 : held t' ≡ held t = ap (total log_length) g.mems in
    let n6 : total (pending_weight t'.mems) t'.net ≡ total (pending_weight t.mems) (taken t).net = λ i. total (pending_weight (g.mems i)) (g.net i) in
    let n7 : total (unsent_weight t'.mems) t'.owed ≡ total (unsent_weight t.mems) t'.owed = λ i. total (unsent_weight (g.mems i)) t'.owed in
    let n8 : total (unsent_weight t'.mems) (unsent_of t'.current) ≡ total (unsent_weight t.mems) (unsent_of t.current) = λ i. total (unsent_weight (g.mems i)) (g.unsent i) in
    let n9 : total mem_weight t'.mems ≡ total mem_weight t.mems = ap (total mem_weight) g.mems in
    let w = g.ways_ in
    let v = g.weights_ in
    let o = g.open_ in
    record {
      count = ap memory_count g.shape;
      falls = Weights (omega (arith, a, z, n1, n2, n3, n4, w)) (omega (arith, n5)) (omega (arith, e, y, n6, n7, n8, n9, v, o));
    }

-- nothing comes of it
gets_none : (t : Track) (m : Message) → t.owed ≡ [] → Gets t t m
gets_none t m owed =
    let z : total way t.owed ≡ 0 = ap (total way) owed in
    let y : total (unsent_weight t.mems) t.owed ≡ 0 = ap (total (unsent_weight t.mems)) owed in
    let one = weighs t.mems m m.body in
    record { shape = refl; mems = refl; net = refl; owners = refl; clock = refl; moves = refl; unsent = refl; open_ = refl; ways_ = omega (arith, z); weights_ = omega (arith, y, one) }

gets_either : (t x y : Track) (m : Message) (b : Bool) → Gets t x m → Gets t y m → Gets t (cond b x y) m
gets_either t x y m true p q = p
gets_either t x y m false p q = q

-- an answer is noted
answer_gets : (t : Track) (m : Message) (o : Open) → t.owed ≡ [] → t.current ≡ Some o → Gets t (record t { current = Some (answered o m) }) m
answer_gets t m o owed e =
    let g = gets_none t m owed in
    record { shape = refl; mems = refl; net = refl; owners = refl; clock = refl; moves = refl; unsent = sym (ap unsent_of e); open_ = sym (ap is_open e); ways_ = g.ways_; weights_ = g.weights_ }

-- a full log, or a drained one: what is owed goes to where the message came from
reacts_gets : (t : Track) (m : Message) (o : Open) (p : Option Patch) (b : Body) → t.owed ≡ [] → t.current ≡ Some o → m.body ≡ b → Gets t (reacts t o m (reaction_of p b)) m
reacts_gets t m o None b owed e is = answer_gets t m o owed e
reacts_gets t m o (Some patch) LogFull owed e is =
    let mine : weight_of t.mems m m.body ≡ pick (is_full t.mems m.from) 3 6 = ap (weight_of t.mems m) is in
    let go : way_of m.body ≡ 1 = ap way_of is in
    record { shape = refl; mems = refl; net = refl; owners = refl; clock = refl; moves = refl; unsent = refl; open_ = refl; ways_ = omega (arith, go); weights_ = by (is_full t.mems m.from) (weight_of t.mems m m.body) mine }
  where
    by : (x : Bool) (w : ℕ) → w ≡ pick x 3 6 → 2 * pick x 2 5 + 1 + 0 < 2 * w
    by true w e = omega (arith, e)
    by false w e = omega (arith, e)
reacts_gets t m o (Some patch) Drained owed e is =
    let mine : weight_of t.mems m m.body ≡ pick (is_full t.mems m.from) 5 3 = ap (weight_of t.mems m) is in
    let go : way_of m.body ≡ 1 = ap way_of is in
    record { shape = refl; mems = refl; net = refl; owners = refl; clock = refl; moves = refl; unsent = refl; open_ = refl; ways_ = omega (arith, go); weights_ = by (is_full t.mems m.from) (weight_of t.mems m m.body) mine }
  where
    by : (x : Bool) (w : ℕ) → w ≡ pick x 5 3 → 2 * pick x 4 2 + 1 + 0 < 2 * w
    by true w e = omega (arith, e)
    by false w e = omega (arith, e)
reacts_gets t m o (Some patch) other owed e is = answer_gets t m o owed e

noted_gets : (t : Track) (m : Message) (c : Option Open) → t.owed ≡ [] → t.current ≡ c → Gets t (noted t m c) m
noted_gets t m None owed e = gets_none t m owed
noted_gets t m (Some o) owed e = gets_either t _ _ m (eqb m.op.0 o.number.0) (reacts_gets t m o (patch_of o.operation) m.body owed e refl) (gets_none t m owed)

-- a move's answer
move_gets : (t : Track) (m : Message) (h : Healing) (c : Option Open) → t.owed ≡ [] → t.healing ≡ Some h → h.current ≡ c → Gets t (noted_by_move t m h c) m
move_gets t m h None owed e is = noted_gets t m t.current owed refl
move_gets t m h (Some o) owed e is =
    let g = gets_none t m owed in
    let same : moves_left (Some (record h { current = Some (answered o m) })) ≡ moves_left t.healing = sym (ap moves_left e ∙ ap (λ (o : Option Open). 1 + 2 * length h.moves + is_open o) is) in
    gets_either t _ _ m (eqb m.op.0 o.number.0)
    (record { shape = refl; mems = refl; net = refl; owners = refl; clock = refl; moves = same; unsent = refl; open_ = refl; ways_ = g.ways_; weights_ = g.weights_ })
    (noted_gets t m t.current owed refl)

with_gets : (t : Track) (m : Message) (h : Option Healing) → t.owed ≡ [] → t.healing ≡ h → Gets t (noted_with t m h) m
with_gets t m None owed e = noted_gets t m t.current owed refl
with_gets t m (Some h) owed e = move_gets t m h h.current owed e refl

issuer_gets_less : (t : Track) (m : Message) → t.owed ≡ [] → Gets t (issuer_gets t m) m
issuer_gets_less t m owed =
    let g = gets_none t m owed in
    gets_either t _ _ m (stops m.body)
    (record { shape = refl; mems = refl; net = refl; owners = refl; clock = refl; moves = refl; unsent = refl; open_ = refl; ways_ = g.ways_; weights_ = g.weights_ })
    (with_gets t m t.healing owed refl)

-- EVERY DELIVERY

comes_lowers : (t : Track) (m : Message) (to : Place) → AreInPlace 0 t.mems → t.owed ≡ [] → picked t.shape.deliveries t.delivered t.net ≡ Some m → m.to ≡ to → Lowers t (comes (taken t) m to)
comes_lowers t m (Processor cpu) places owed chosen to = gets_lowers t _ m owed chosen (issuer_gets_less (taken t) m owed)
comes_lowers t m (Memory number) places owed chosen to = at_memory t m owed chosen number.0 (slice_get t.mems number.0) places to refl
comes_lowers t m Storage places owed chosen to = storage_lowers t m owed chosen
comes_lowers t m Manager places owed chosen to = gets_lowers t _ m owed chosen (issuer_gets_less (taken t) m owed)

pub deliver_lowers : (t : Track) (m : Message) → AreInPlace 0 t.mems → MayDeliver t m → Lowers t (after t (Deliver m))
deliver_lowers t m places may = comes_lowers t m m.to places may.owed may.chosen refl
