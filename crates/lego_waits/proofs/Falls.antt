-- An event lowers the load in one of three ways; and what sends, completions and shown events do.
use Rattle.std.proofs.Common.{◌≡◌, ◌⊎◌, ◌+◌, ◌*◌, ◌<◌, ◌≤◌, ◌&&◌, ◌||◌, [], ◌∷◌, ◌++◌, ◌∙◌, ℕ, Bool, List, None, Option, Some, ap, arith, cond, drop, eqb, false, inl, inr, is_some, length, not, refl, subst, suc, sym, true, zero}
use Rattle.std.proofs.lemmas.Bool.{eq-eqb}
use Rattle.std.proofs.lemmas.Nat.{mul-le}
use Rattle.lego_base.specs.Keys.{Key, is_of, without}
use Rattle.lego_base.specs.declared.ids.OpNo.{OpNo}
use Rattle.lego_base.specs.declared.ids.Pid.{Pid}
use Rattle.lego_base.specs.declared.records.HomeEntry.{HomeEntry}
use Rattle.lego_msg.proofs.Moments.{due_from}
use Rattle.lego_msg.proofs.Senders.{same_some}
use Rattle.lego_msg.specs.Completions.{MayComplete, completed, completed_beside, finished, move_finished, owners_after, sent_again}
use Rattle.lego_msg.specs.Maps.{home_key}
use Rattle.lego_msg.specs.Operations.{Ask, asks_of, each_from, messages_of}
use Rattle.lego_msg.specs.Sends.{IsFirst, IsMove, move_begins}
use Rattle.lego_msg.specs.State.{Mem}
use Rattle.lego_msg.specs.Track.{Quiet, Track, healing_move, is_calm, memory_count}
use Rattle.lego_msg.specs.declared.body.Body.{Body}
use Rattle.lego_msg.specs.declared.body.Body.TheVariants.{Drain, Drained, LogFull, LogWrite}
use Rattle.lego_msg.specs.declared.healing.Healing.{Healing}
use Rattle.lego_msg.specs.declared.healing.Move.{Move}
use Rattle.lego_msg.specs.declared.message.Message.{Message}
use Rattle.lego_msg.specs.declared.operation.Open.{Open}
use Rattle.lego_msg.specs.declared.operation.Operation.{Operation}
use Rattle.lego_msg.specs.declared.operation.Operation.TheVariants.{Drops, Heals, ReadsFile}
use Rattle.lego_msg.specs.declared.place.Place.{Place}
use Rattle.lego_waits.proofs.Ranks.{held_falls, ways_fall, weights_fall}
use Rattle.lego_waits.proofs.Totals.{total-append}
use Rattle.lego_waits.proofs.Weights.{weight_least}
use Rattle.lego_waits.specs.Laws.{is_busy, is_still}
use Rattle.lego_waits.specs.Measure.{crashes_left, held, is_open, load, moves_left, pending_weight, rank, total, unsent_of, unsent_weight, way, way_of, ways, weight_of, weights}
use Rattle.lego_msg.specs.declared.body.Body.TheVariants as body

pub data Falls (n p l w p' l' w' : ℕ) : Type 0 where
  Weights : p' ≤ p → l' ≤ l → w' < w → Falls n p l w p' l' w'
  Held : p' ≤ p → l' < l → w' ≤ w + (29 * p + (20 * n + 99)) → Falls n p l w p' l' w'
  Ways : p' < p → l' ≤ l + 1 → w' ≤ w + (29 * p + (20 * n + 99)) → Falls n p l w p' l' w'

falls : (n p l w p' l' w' : ℕ) → Falls n p l w p' l' w' → rank n p' l' w' < rank n p l w
falls n p l w p' l' w' (Weights a b c) = weights_fall n p p' l l' w w' a b c
falls n p l w p' l' w' (Held a b c) = held_falls n p p' l l' w w' a b c
falls n p l w p' l' w' (Ways a b c) = ways_fall n p p' l l' w w' a b c

pub record Lowers (t t' : Track) : Type 0 where
  pub count : memory_count t'.shape ≡ memory_count t.shape
  pub falls : Falls (memory_count t.shape) (ways t) (held t) (weights t) (ways t') (held t') (weights t')

pub lowers : (t t' : Track) → Lowers t t' → load t' < load t
lowers t t' l = subst (λ (n : ℕ). rank n (ways t') (held t') (weights t') < load t) (sym l.count) (falls (memory_count t.shape) (ways t) (held t) (weights t) (ways t') (held t') (weights t') l.falls)

way_most : (b : Body) → way_of b ≤ 1
way_most (LogWrite patch) = omega arith
way_most LogFull = omega arith
way_most Drain = omega arith
way_most Drained = omega arith
way_most other = omega arith

total-end : (f : Message → ℕ) (net : List Message) (m : Message) → total f (net ++ m ∷ []) ≡ total f net + f m
total-end f net m = total-append f net (m ∷ []) ∙ omega arith

-- SENDS

pub owed_sent : (t : Track) (m : Message) (more : List Message) → t.owed ≡ m ∷ more → Lowers t (record t { net = t.net ++ m ∷ []; owed = more })
owed_sent t m more e =
    let a : total way t.owed ≡ way m + total way more = ap (total way) e in
    let b = total-end way t.net m in
    let c : total (unsent_weight t.mems) t.owed ≡ unsent_weight t.mems m + total (unsent_weight t.mems) more = ap (total (unsent_weight t.mems)) e in
    let d = total-end (pending_weight t.mems) t.net m in
    record { count = refl; falls = Weights (omega (arith, a, b)) (omega arith) (omega (arith, c, d)) }

first_out : (f : Message → ℕ) (m : Message) (ms : List Message) → IsFirst m ms → total f ms ≡ f m + total f (drop 1 ms)
first_out f m [] first = absurd first
first_out f m (x ∷ ms) first = ap (λ (x : Message). f x + total f ms) (sym first)

pub first_sent : (t : Track) (m : Message) (o : Open) → t.current ≡ Some o → IsFirst m o.unsent → Lowers t (record t { net = t.net ++ m ∷ []; current = Some (record o { unsent = drop 1 o.unsent }) })
first_sent t m o e first =
    let a : total way (unsent_of t.current) ≡ way m + total way (drop 1 o.unsent) = ap (λ (o : Option Open). total way (unsent_of o)) e ∙ first_out way m o.unsent first in
    let b = total-end way t.net m in
    let c : total (unsent_weight t.mems) (unsent_of t.current) ≡ unsent_weight t.mems m + total (unsent_weight t.mems) (drop 1 o.unsent) = ap (λ (o : Option Open). total (unsent_weight t.mems) (unsent_of o)) e ∙ first_out (unsent_weight t.mems) m o.unsent first in
    let d = total-end (pending_weight t.mems) t.net m in
    let open_ : is_open t.current ≡ 1 = ap is_open e in
    record { count = refl; falls = Weights (omega (arith, a, b)) (omega arith) (omega (arith, c, d, open_)) }

pub move_sent : (t : Track) (m : Message) (h : Healing) (o : Option Open) (moves : List Move) → t.healing ≡ Some h → h.current ≡ o → h.moves ≡ moves → IsMove t m h o moves → Lowers t (move_begins t m h moves)
move_sent t m h (Some o) moves e current is may = absurd may
move_sent t m h None [] e current is may = absurd may
move_sent t m h None (move ∷ moves) e current is may =
    let left : moves_left t.healing ≡ 3 + 2 * length moves = ap moves_left e ∙ (λ i. 1 + 2 * length (is i) + is_open (current i)) ∙ omega arith in
    let b = total-end way t.net m in
    let d = total-end (pending_weight t.mems) t.net m in
    let one : way m ≤ 1 = way_most m.body in
    let six : weight_of t.mems m m.body ≤ 6 = weight_least t.mems m m.body in
    record { count = refl; falls = Ways (omega (arith, left, b, one)) (omega arith) (omega (arith, d, six)) }

-- WHERE NOTHING IS BUSY AND ALL IS CALM nothing is to be lowered

pub still : (t : Track) → t.owed ≡ [] → t.current ≡ None → t.healing ≡ None → is_calm t ≡ true → is_still t ≡ true
still t owed closed healed calm =
    let busy : is_busy t ≡ false = λ i. not (eqb (length (owed i)) 0) || is_some (closed i) || is_some (healed i) in
    λ i. not (busy i) && calm i

pub not_both : (b : Bool) → b ≡ true → b ≡ false → ⊥
not_both true e f = cc f
not_both false e f = cc e

pub quiet_still : (t : Track) → Quiet t → is_still t ≡ false → ⊥
quiet_still t q busy = not_both (is_still t) (still t q.owed q.closed q.healed q.calm) busy

-- COMPLETIONS

without_least : (test : Key → Bool) (xs : List HomeEntry) → length (without home_key test xs) ≤ length xs
without_least test [] = omega arith
without_least test (x ∷ xs) = by (not (test (home_key x))) (without_least test xs)
  where
    by : (b : Bool) → length (without home_key test xs) ≤ length xs → length (cond b (x ∷ without home_key test xs) (without home_key test xs)) ≤ length (x ∷ xs)
    by true rest = omega (arith, rest)
    by false rest = omega (arith, rest)

owners_least : (o : Operation) (owners : List HomeEntry) → length (owners_after o owners) ≤ length owners
owners_least (Drops pid) owners = without_least (is_of pid.0) owners
owners_least other owners = omega arith

times_least : (k a b : ℕ) → a ≤ b → k * (12 + 8 * a) ≤ k * (12 + 8 * b)
times_least k a b le = mul-le k (12 + 8 * a) k (12 + 8 * b) (omega arith) (omega (arith, le))

pub finished_lowers : (t : Track) (o : Open) → t.current ≡ Some o → Lowers t (finished t (Some o))
finished_lowers t o e =
    let less = times_least (crashes_left t) (length (owners_after o.operation t.owners)) (length t.owners) (owners_least o.operation t.owners) in
    let open_ : is_open t.current ≡ 1 = ap is_open e in
    record { count = refl; falls = Weights (omega (arith, less)) (omega arith) (omega (arith, open_)) }

finished_some : (t : Track) (c : Option Open) (o : Open) → t.current ≡ c → c ≡ Some o → Lowers t (finished t c)
finished_some t None o e is = cc is
finished_some t (Some x) o e is = finished_lowers t x e

-- an operation that is sent again

asks_ways : (n : ℕ) (number : OpNo) (by : Place) (o : Operation) → total way (messages_of by number (asks_of n o)) ≤ 1
asks_ways n number by (Drops pid) = subst (λ (k : ℕ). k ≤ 1) (sym (each n 0)) (omega arith)
  where
    each : (k first : ℕ) → total way (messages_of by number (each_from k first (body.DropSpace pid) (body.ImageFree pid))) ≡ 0
    each zero first = refl
    each (suc k) first = let rest : total way (messages_of by number (each_from k (first + 1) (body.DropSpace pid) (body.ImageFree pid))) ≡ 0 = each k (first + 1) in omega (arith, rest)
asks_ways n number by (Heals to what) = let one : way_of what ≤ 1 = way_most what in omega (arith, one)
asks_ways n number by (ReadsFile file block off len) = omega arith
asks_ways n number by other = omega arith

asks_weights : (mems : List Mem) (n : ℕ) (number : OpNo) (by : Place) (o : Operation) → total (unsent_weight mems) (messages_of by number (asks_of n o)) ≤ 5 * n + 39
asks_weights mems n number by o = of_list (asks_of n o) o
  where
    one_weight : (m : Message) → unsent_weight mems m ≤ 13
    one_weight m = let six : weight_of mems m m.body ≤ 6 = weight_least mems m m.body in omega (arith, six)

    each : (pid : Pid) (k first : ℕ) → total (unsent_weight mems) (messages_of by number (each_from k first (body.DropSpace pid) (body.ImageFree pid))) ≡ 5 * k + 5
    each pid zero first = refl
    each pid (suc k) first = let rest : total (unsent_weight mems) (messages_of by number (each_from k (first + 1) (body.DropSpace pid) (body.ImageFree pid))) ≡ 5 * k + 5 = each pid k (first + 1) in omega (arith, rest)

    up_to_three : (ms : List Message) → length ms ≤ 3 → total (unsent_weight mems) ms ≤ 39
    up_to_three [] short = omega arith
    up_to_three (a ∷ []) short = let x = one_weight a in omega (arith, x)
    up_to_three (a ∷ b ∷ []) short = let x = one_weight a in let y = one_weight b in omega (arith, x, y)
    up_to_three (a ∷ b ∷ c ∷ []) short = let x = one_weight a in let y = one_weight b in let z = one_weight c in omega (arith, x, y, z)
    up_to_three (a ∷ b ∷ c ∷ d ∷ ms) short = absurd (omega (arith, short))

    few : (o : Operation) → length (messages_of by number (asks_of n o)) ≤ 3 → total (unsent_weight mems) (messages_of by number (asks_of n o)) ≤ 5 * n + 39
    few o short = let most = up_to_three (messages_of by number (asks_of n o)) short in omega (arith, most)

    of_list : List Ask → (o : Operation) → total (unsent_weight mems) (messages_of by number (asks_of n o)) ≤ 5 * n + 39
    of_list asks (Drops pid) = let all = each pid n 0 in omega (arith, all)
    of_list asks (ReadsFile file block off len) = few (ReadsFile file block off len) (omega arith)
    of_list asks other = few other (omega arith)

-- the open operation, sent again
again_ways : (t : Track) (c : Option Open) → total way (unsent_of (sent_again t c)) ≤ 1
again_ways t None = omega arith
again_ways t (Some o) = asks_ways (memory_count t.shape) o.number o.by o.operation

again_weights : (t : Track) (c : Option Open) → total (unsent_weight t.mems) (unsent_of (sent_again t c)) ≤ 5 * memory_count t.shape + 39
again_weights t None = omega arith
again_weights t (Some o) = asks_weights t.mems (memory_count t.shape) o.number o.by o.operation

again_open : (t : Track) (c : Option Open) → is_open (sent_again t c) ≡ is_open c
again_open t None = refl
again_open t (Some o) = refl

pub move_lowers : (t : Track) (h : Healing) (o : Open) (moves : List Move) → t.healing ≡ Some h → h.current ≡ Some o → h.moves ≡ moves → Lowers t (move_finished t h o moves)
move_lowers t h o [] e current is =
    let left : moves_left t.healing ≡ 2 = ap moves_left e ∙ (λ i. 1 + 2 * length (is i) + is_open (current i)) in
    let ways_ = again_ways t t.current in
    let weights_ = again_weights t t.current in
    let open_ = again_open t t.current in
    record { count = refl; falls = Ways (omega (arith, left, ways_)) (omega arith) (omega (arith, weights_, open_)) }
move_lowers t h o (move ∷ moves) e current is =
    let left : moves_left t.healing ≡ 2 + 2 * length h.moves = ap moves_left e ∙ (λ i. 1 + 2 * length h.moves + is_open (current i)) ∙ omega arith in
    record { count = refl; falls = Ways (omega (arith, left)) (omega arith) (omega arith) }

beside_lowers : (t : Track) (number : ℕ) (h : Healing) (c : Option Open) (o : Open) → t.healing ≡ Some h → h.current ≡ c → ((t.current ≡ Some o) ⊎ ((c ≡ Some o) × (o.number.0 ≡ number))) → Lowers t (completed_beside t number h c)
beside_lowers t number h None o e current (inl is) = finished_some t t.current o refl is
beside_lowers t number h None o e current (inr is) = cc is.0
beside_lowers t number h (Some x) o e current (inl is) = by (eqb x.number.0 number)
  where
    by : (b : Bool) → Lowers t (cond b (move_finished t h x h.moves) (finished t t.current))
    by true = move_lowers t h x h.moves e current refl
    by false = finished_some t t.current o refl is
beside_lowers t number h (Some x) o e current (inr is) =
    let same : eqb x.number.0 number ≡ true = eq-eqb x.number.0 number (ap (λ (o : Open). o.number.0) (same_some x o is.0) ∙ is.1) in
    subst (λ (b : Bool). Lowers t (cond b (move_finished t h x h.moves) (finished t t.current))) (sym same) (move_lowers t h x h.moves e current refl)

completed_lowers : (t : Track) (op : OpNo) (h : Option Healing) (o : Open) → t.healing ≡ h → (healing_move h ≡ Some o) ⊎ (t.current ≡ Some o) → o.number ≡ op → Lowers t (completed t op.0 h)
completed_lowers t op None o e (inl move) number = cc move
completed_lowers t op None o e (inr is) number = finished_some t t.current o refl is
completed_lowers t op (Some h) o e (inl move) number = beside_lowers t op.0 h h.current o e refl (inr (move, ap (λ (n : OpNo). n.0) number))
completed_lowers t op (Some h) o e (inr is) number = beside_lowers t op.0 h h.current o e refl (inl is)

pub complete_lowers : (t : Track) (op : OpNo) → MayComplete t op → Lowers t (completed t op.0 t.healing)
complete_lowers t op may =
    let due = due_from t op may.complete in
    completed_lowers t op t.healing due.0 refl due.1 due.2
