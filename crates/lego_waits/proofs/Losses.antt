-- A crash lowers the load: it takes one entry of the crash list away, and its healing has a bounded number of moves.
use Rattle.std.proofs.Common.{◌≡◌, ◌+◌, ◌-◌, ◌*◌, ◌<◌, ◌≤◌, ◌||◌, [], ◌∷◌, ◌∙◌, ℕ, Bool, List, None, Option, Some, ap, arith, cond, eqb, false, length, length-append, refl, slice_get, suc, true, zero}
use Rattle.lego_base.specs.declared.ids.MemId.{MemId}
use Rattle.lego_base.specs.declared.records.HomeEntry.{HomeEntry}
use Rattle.lego_base.specs.declared.shape.CrashAt.{CrashAt}
use Rattle.lego_msg.specs.Crashes.{IsEntry, MayCrash, crashed, forgotten, memory_lost}
use Rattle.lego_msg.specs.Healing.{images_anew, images_back, moves_of}
use Rattle.lego_msg.specs.Maps.{owned_by}
use Rattle.lego_msg.specs.Places.{guarded_by, lose, memory, same_place, secondary_of}
use Rattle.lego_msg.specs.State.{Mem, lost}
use Rattle.lego_msg.specs.Track.{Track, memory_count, next_crash}
use Rattle.lego_msg.specs.declared.body.Body.TheVariants.{Drain, PullMeta}
use Rattle.lego_msg.specs.declared.healing.Move.TheVariants.{Asks, HandsMeta}
use Rattle.lego_msg.specs.declared.message.Message.{Message}
use Rattle.lego_msg.specs.declared.operation.Open.{Open}
use Rattle.lego_msg.specs.declared.place.Place.{Place}
use Rattle.lego_msg.specs.declared.place.Role.TheVariants.{Main, Spare}
use Rattle.lego_waits.proofs.Arrivals.{pending_most, unsent_most}
use Rattle.lego_waits.proofs.Falls.{Lowers, Ways}
use Rattle.lego_waits.proofs.Totals.{total-set}
use Rattle.lego_waits.specs.Measure.{crashes_left, is_open, log_full, log_length, mem_weight, pending_weight, pick, total, unsent_of, unsent_weight, waiting, way}

lost_least : (f : Message → ℕ) (p : Place) (ms : List Message) → total f (lose p ms) ≤ total f ms
lost_least f p [] = omega arith
lost_least f p (m ∷ ms) = by (same_place m.from p || same_place m.to p) (lost_least f p ms)
  where
    by : (b : Bool) → total f (lose p ms) ≤ total f ms → total f (cond b (lose p ms) (m ∷ lose p ms)) ≤ total f (m ∷ ms)
    by true rest = omega (arith, rest)
    by false rest = omega (arith, rest)

-- MOVES of a healing

owned_least : (c : ℕ) (owners : List HomeEntry) → length (owned_by c owners) ≤ length owners
owned_least c [] = omega arith
owned_least c (e ∷ owners) = by (eqb e.owner.0 c) (owned_least c owners)
  where
    by : (b : Bool) → length (owned_by c owners) ≤ length owners → length (cond b (e ∷ owned_by c owners) (owned_by c owners)) ≤ length (e ∷ owners)
    by true rest = omega (arith, rest)
    by false rest = omega (arith, rest)

back_length : (c : ℕ) (owned : List HomeEntry) → length (images_back c owned) ≡ 2 * length owned
back_length c [] = refl
back_length c (e ∷ owned) = let rest : length (images_back c owned) ≡ 2 * length owned = back_length c owned in omega (arith, rest)

anew_length : (q : ℕ) (owned : List HomeEntry) → length (images_anew q owned) ≡ 2 * length owned
anew_length q [] = refl
anew_length q (e ∷ owned) = let rest : length (images_anew q owned) ≡ 2 * length owned = anew_length q owned in omega (arith, rest)

moves_length : (n c : ℕ) (owners : List HomeEntry) → length (moves_of n c owners) ≤ 5 + 4 * length owners
moves_length n c owners =
    let a = owned_least c owners in
    let b = owned_least (guarded_by n c) owners in
    let d = back_length c (owned_by c owners) in
    let e = anew_length (guarded_by n c) (owned_by (guarded_by n c) owners) in
    let whole : length (moves_of n c owners) ≡ (3 + length (images_back c (owned_by c owners))) + (2 + length (images_anew (guarded_by n c) (owned_by (guarded_by n c) owners))) =
    length-append (Asks (memory (secondary_of n c)) Drain ∷ Asks (memory (secondary_of n c)) (PullMeta (record { 0 = c }) Spare) ∷ HandsMeta (memory c) Main ∷ images_back c (owned_by c owners)) (Asks (memory (guarded_by n c)) (PullMeta (record { 0 = guarded_by n c }) Main) ∷ HandsMeta (memory c) Spare ∷ images_anew (guarded_by n c) (owned_by (guarded_by n c) owners)) ∙ omega arith in
    omega (arith, a, b, d, e, whole)

-- WHAT MEMORIES HOLD

lost_waiting : (mems : List Mem) (i : ℕ) (o : Option Mem) → slice_get mems i ≡ o → total waiting (memory_lost mems i o) ≤ total waiting mems
lost_waiting mems i None at = omega arith
lost_waiting mems i (Some s) at = let set = total-set waiting mems i s (lost s) at in omega (arith, set)

lost_held : (mems : List Mem) (i : ℕ) (o : Option Mem) → slice_get mems i ≡ o → total log_length (memory_lost mems i o) ≤ total log_length mems
lost_held mems i None at = omega arith
lost_held mems i (Some s) at = let set = total-set log_length mems i s (lost s) at in omega (arith, set)

lost_weight : (mems : List Mem) (i : ℕ) (o : Option Mem) → slice_get mems i ≡ o → total mem_weight (memory_lost mems i o) ≤ total mem_weight mems + 5
lost_weight mems i None at = omega arith
lost_weight mems i (Some s) at =
    let set = total-set mem_weight mems i s (lost s) at in
    let five : mem_weight (lost s) ≡ 5 = by (log_full (Some (lost s))) in
    omega (arith, set, five)
  where
    by : (b : Bool) → 0 * pick b 1 8 + 5 ≡ 5
    by true = omega arith
    by false = omega arith

-- THE CRASH LIST

got_below : {X : Type 0} (xs : List X) (i : ℕ) (x : X) → slice_get xs i ≡ Some x → i < length xs
got_below [] i x at = cc at
got_below (y ∷ ys) zero x at = omega arith
got_below (y ∷ ys) (suc i) x at = let rest : i < length ys = got_below ys i x at in omega (arith, rest)

entry_left : (t : Track) (o : Option CrashAt) (number : ℕ) → next_crash t.shape t.clock ≡ o → IsEntry o number → t.clock.passed < length t.shape.crashes
entry_left t None number at entry = absurd entry
entry_left t (Some e) number at entry = got_below t.shape.crashes t.clock.passed e at

forgotten_unsent : (p : Place) (c : Option Open) → unsent_of (forgotten p c) ≡ unsent_of c
forgotten_unsent p None = refl
forgotten_unsent p (Some o) = refl

forgotten_open : (p : Place) (c : Option Open) → is_open (forgotten p c) ≡ is_open c
forgotten_open p None = refl
forgotten_open p (Some o) = refl

pub crash_lowers : (t : Track) (c : MemId) (inc : ℕ) → MayCrash t c.0 inc → Lowers t (crashed t c.0)
crash_lowers t c inc may =
    let mems' : List Mem = memory_lost t.mems c.0 (slice_get t.mems c.0) in
    let left = entry_left t (next_crash t.shape t.clock) c.0 refl may.entry in
    let one : crashes_left t ≡ length t.shape.crashes - (t.clock.passed + 1) + 1 = omega (arith, left) in
    let each : crashes_left t * (12 + 8 * length t.owners) ≡ (length t.shape.crashes - (t.clock.passed + 1)) * (12 + 8 * length t.owners) + (12 + 8 * length t.owners) =
    ap (λ (n : ℕ). n * (12 + 8 * length t.owners)) one ∙ one_more (length t.shape.crashes - (t.clock.passed + 1)) (12 + 8 * length t.owners) in
    let moves = moves_length (memory_count t.shape) c.0 t.owners in
    let a = lost_least way (memory c.0) t.net in
    let b = lost_waiting t.mems c.0 (slice_get t.mems c.0) refl in
    let d = lost_held t.mems c.0 (slice_get t.mems c.0) refl in
    let e = lost_weight t.mems c.0 (slice_get t.mems c.0) refl in
    let f = lost_least (pending_weight t.mems) (memory c.0) t.net in
    let g = pending_most t.mems mems' (lose (memory c.0) t.net) in
    let h = unsent_most t.mems mems' (unsent_of t.current) in
    let u : unsent_of (forgotten (memory c.0) t.current) ≡ unsent_of t.current = forgotten_unsent (memory c.0) t.current in
    let u1 : total way (unsent_of (forgotten (memory c.0) t.current)) ≡ total way (unsent_of t.current) = ap (total way) u in
    let u2 : total (unsent_weight mems') (unsent_of (forgotten (memory c.0) t.current)) ≡ total (unsent_weight mems') (unsent_of t.current) = ap (total (unsent_weight mems')) u in
    let o = forgotten_open (memory c.0) t.current in
    let y : total (unsent_weight mems') t.owed ≡ 0 = ap (total (unsent_weight mems')) may.owed in
    let z : total (unsent_weight t.mems) t.owed ≡ 0 = ap (total (unsent_weight t.mems)) may.owed in
    record {
      count = refl;
      falls = Ways (omega (arith, each, moves, a, b, u1)) (omega (arith, d)) (omega (arith, a, e, f, g, h, u2, o, y, z));
    }
  where
    one_more : (a k : ℕ) → (a + 1) * k ≡ a * k + k
    one_more a k = omega arith
