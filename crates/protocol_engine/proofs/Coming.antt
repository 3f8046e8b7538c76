-- Each event that the engine plays may come, and leads where it says.
use Rattle.std.proofs.Common.{◌≡◌, ◌+◌, ◌<◌, ◌∙◌, ◌&&◌, ◌==◌, [], ◌∷◌, ◌++◌, ℕ, Bool, List, None, Option, Some, ap, arith, cond, drop, eq-eqb, eqb, false, length, refl, subst, suc, sym, true, zero}
use Rattle.std.proofs.lemmas.Bool.{eqb-true}
use Rattle.lego_base.specs.Keys.{put_all}
use Rattle.lego_base.specs.declared.ids.OpNo.{OpNo}
use Rattle.lego_base.specs.declared.records.HomeEntry.{HomeEntry}
use Rattle.lego_msg.proofs.ShownLaws.{shown-none}
use Rattle.lego_msg.specs.Completions.{brought, completed, completed_beside, done_or, finished, move_finished, owners_after, sent_again}
use Rattle.lego_msg.specs.Maps.{home_key}
use Rattle.lego_msg.specs.Marks.{Call, Mark, Order}
use Rattle.lego_msg.specs.Operations.{asks_of, each_from, messages_of}
use Rattle.lego_msg.specs.Places.{is_issuer}
use Rattle.lego_msg.specs.Plain.{effect}
use Rattle.lego_msg.specs.Sends.{FitsCaches, IsFirst, IsMove, MaySend, move_begins, sent}
use Rattle.lego_msg.specs.Track.{Track, all_answered, healing_move, is_calm, is_complete, is_crash_left, is_done, memory_count}
use Rattle.lego_msg.specs.Watching.{ShownTo}
use Rattle.lego_msg.specs.Went.{Came, Halted, Stopped}
use Rattle.lego_msg.specs.declared.event.Event.{Event}
use Rattle.lego_msg.specs.declared.event.Event.TheVariants.{Complete, Send}
use Rattle.lego_msg.specs.declared.healing.Healing.{Healing}
use Rattle.lego_msg.specs.declared.healing.Move.{Move}
use Rattle.lego_msg.specs.declared.message.Message.{Message}
use Rattle.lego_msg.specs.declared.body.Body.{Body}
use Rattle.lego_msg.specs.declared.body.Body.TheVariants.{DropSpace, ImageFree}
use Rattle.lego_msg.specs.declared.operation.Answer.{Answer}
use Rattle.lego_msg.specs.declared.operation.Open.{Open}
use Rattle.lego_msg.specs.declared.operation.Operation.{Operation}
use Rattle.lego_msg.specs.declared.operation.Operation.TheVariants.{Drops}
use Rattle.lego_msg.specs.declared.place.Place.{Place}
use Rattle.protocol_engine.specs.Healings.{HasAnswer, HasNumber, IsMoveMessage, IsNextMessage, ended, is_last_move, left_after, move_ended, next_moved, with_move}
use Rattle.healing_laws.specs.Playing.{HealingGoesOn, MoveGoesOn, OtherNumber}
use Rattle.protocol_engine.specs.Later.{BetweenMoves}
use Rattle.protocol_engine.specs.Messages.{Takes}
use Rattle.protocol_engine.specs.Opening.{again_in, opened_by}
use Rattle.lego_base.specs.declared.stops.Halt.TheVariants as halt

-- FIRST MESSAGES: every operation has one
each_some : (n number : ℕ) (by : Place) (op : OpNo) (body last : Body) → 0 < length (messages_of by op (each_from n number body last))
each_some zero number by op body last = omega arith
each_some (suc n) number by op body last = omega arith

pub some_message : (n : ℕ) (by : Place) (number : OpNo) (operation : Operation) → 0 < length (messages_of by number (asks_of n operation))
some_message n by number (Drops pid) = each_some n 0 by number (DropSpace pid) (ImageFree pid)
some_message n by number other = omega arith

-- COMPLETIONS
pub skips : (pending : List Message) (move : Option Open) (e : Option OpNo) → is_done pending move ≡ false → done_or pending move e ≡ e
skips pending None e none = refl
skips pending (Some o) e none = ap (λ (b : Bool). cond b (Some o.number) e) none

pub takes : (pending : List Message) (o : Open) (e : Option OpNo) → is_complete pending o ≡ true → done_or pending (Some o) e ≡ Some o.number
takes pending o e all = ap (λ (b : Bool). cond b (Some o.number) e) all

beside : (t : Track) (h : Healing) (number : ℕ) (o : Open) (move : Option Open) → o.number.0 ≡ number → OtherNumber (Some o) move → completed_beside t number h move ≡ finished t t.current
beside t h number o None is other = refl
beside t h number o (Some p) is other =
    ap (λ (n : ℕ). cond (eqb p.number.0 n) (move_finished t h p h.moves) (finished t t.current)) (sym is)
    ∙ ap (λ (b : Bool). cond b (move_finished t h p h.moves) (finished t t.current)) other

current_completes : (t : Track) (o : Open) (h : Option Healing) → OtherNumber (Some o) (healing_move h) → completed t o.number.0 h ≡ finished t t.current
current_completes t o None other = refl
current_completes t o (Some h) other = beside t h o.number.0 o h.current refl other

move_completes : (t : Track) (h : Healing) (o : Open) → completed_beside t o.number.0 h (Some o) ≡ move_finished t h o h.moves
move_completes t h o = ap (λ (b : Bool). cond b (move_finished t h o h.moves) (finished t t.current)) (eq-eqb o.number.0 o.number.0 refl)

again_is : (t : Track) (current : Option Open) → sent_again t current ≡ again_in (memory_count t.shape) current
again_is t None = refl
again_is t (Some o) = refl

pub no_moves : (moves : List Move) → (length moves == 0) ≡ true → moves ≡ []
no_moves [] none = refl
no_moves (move ∷ moves) none = let zero_ : length (move ∷ moves) ≡ 0 = eqb-true (length (move ∷ moves)) 0 none in absurd (omega arith)

pub and_left : (a b : Bool) → (a && b) ≡ true → a ≡ true
and_left true b e = refl
and_left false b e = e

pub some_answer : (targets : List Place) (answers : List Answer) → all_answered targets answers ≡ true → 0 < length targets → 0 < length answers
some_answer [] answers all some = absurd (omega arith)
some_answer (p ∷ targets) [] all some = cc all
some_answer (p ∷ targets) (a ∷ answers) all some = omega arith

pub has_answer : (pending : List Message) (move : Option Open) (moves : List Move) → is_done pending move ≡ true → MoveGoesOn move moves → HasAnswer move
has_answer pending None moves done goes = cc done
has_answer pending (Some o) moves done goes = some_answer o.targets o.answers (and_left (all_answered o.targets o.answers) _ done) goes.1

pub answer_in : (pending : List Message) (healing : Option Healing) → is_done pending (healing_move healing) ≡ true → HealingGoesOn healing → HasAnswer (healing_move healing)
answer_in pending None done goes = cc done
answer_in pending (Some h) done goes = has_answer pending h.current h.moves done goes

pub nothing_came : {W : Type 0} (told : W → Option (List Event)) (faults : W → ℕ) (w : W) (t : Track) → Stopped told faults w w t
nothing_came told faults w t = record { events = []; shown = shown-none (told w) (faults w); legal = tt }

pub nothing_halted : {W : Type 0} (told : W → Option (List Event)) (faults : W → ℕ) (w : W) (t : Track) → Halted told faults w w halt.NoMemory t
nothing_halted told faults w t = record { events = []; shown = shown-none (told w) (faults w); legal = tt; cause = tt }

module _ {W : Type 0} (told : W → Option (List Event)) (faults : W → ℕ) (w w' : W) where
  -- one event that came, as far as it went
  pub happened : (t t' : Track) → Came told faults w w' t t' → Stopped told faults w w' t
  happened t t' came = record { events = came.event ∷ []; shown = came.shown; legal = (came.may, tt) }

  -- A FIRST MESSAGE of the open operation
  unsent_by : (t : Track) (m : Message) (net : List Message) (new current : Option Open) → ShownTo told faults w w' (Send m ∷ []) → t.owed ≡ [] → t.healing ≡ None → is_calm t ≡ true →
      t.current ≡ current → Takes m current new → net ≡ t.net ++ m ∷ [] → Came told faults w w' t (record t { net = net; current = new })
  unsent_by t m net new None shown owed healed calm is takes sends = absurd takes
  unsent_by t m net new (Some o) shown owed healed calm is takes sends = record {
    event = Send m;
    shown = shown;
    may = subst (λ (a : List Message). MaySend t m a t.healing t.current) (sym owed) (subst (λ (h : Option Healing). MaySend t m [] h t.current) (sym healed) (subst (λ (c : Option Open). MaySend t m [] None c) (sym is) (calm, takes.0)));
    ends = (λ i. sent t m (owed i) (healed i) (is i)) ∙ (λ i. record t { net = sym sends i; current = sym takes.1 i });
  }

  pub unsent_came : (t : Track) (m : Message) (net : List Message) (new : Option Open) → ShownTo told faults w w' (Send m ∷ []) → t.owed ≡ [] → t.healing ≡ None → is_calm t ≡ true →
      Takes m t.current new → net ≡ t.net ++ m ∷ [] → Came told faults w w' t (record t { net = net; current = new })
  unsent_came t m net new shown owed healed calm takes sends = unsent_by t m net new t.current shown owed healed calm refl takes sends

  -- AN OPERATION that is called for
  pub call_came : (t : Track) (o : Order) (rest : List Mark) (m : Message) (net : List Message) (owners : List HomeEntry) (n next : ℕ) (new : Option Open) →
      ShownTo told faults w w' (Send m ∷ []) → t.owed ≡ [] → t.healing ≡ None → t.current ≡ None → is_calm t ≡ true → n ≡ memory_count t.shape →
      IsFirst m (opened_by n (record { 0 = t.next }) o.by o.operation).unsent → FitsCaches t.caches o.by o.operation → (o.late && is_crash_left t) ≡ false → is_issuer o.by ≡ true →
      new ≡ Some (record (opened_by n (record { 0 = t.next }) o.by o.operation) { unsent = drop 1 (opened_by n (record { 0 = t.next }) o.by o.operation).unsent }) →
      net ≡ t.net ++ m ∷ [] → next ≡ t.next + 1 → put_all home_key o.owners t.owners ≡ owners →
      Came told faults w w' (record t { due = Call o ∷ rest }) (record t { net = net; next = next; current = new; owners = owners; caches = record t.caches { filled = None }; due = rest })
  call_came t o rest m net owners n next new shown owed healed closed calm count first fits late issuer is sends more owned =
      let s : Track = record t { due = Call o ∷ rest } in
      let first' : IsFirst m (opened_by (memory_count t.shape) (record { 0 = t.next }) o.by o.operation).unsent = subst (λ (k : ℕ). IsFirst m (opened_by k (record { 0 = t.next }) o.by o.operation).unsent) count first in
      let opens : Option Open → Type 0 = λ c. new ≡ c in
      let is' : new ≡ Some (record (opened_by (memory_count t.shape) (record { 0 = t.next }) o.by o.operation) { unsent = drop 1 (opened_by (memory_count t.shape) (record { 0 = t.next }) o.by o.operation).unsent }) =
      subst (λ (k : ℕ). opens (Some (record (opened_by k (record { 0 = t.next }) o.by o.operation) { unsent = drop 1 (opened_by k (record { 0 = t.next }) o.by o.operation).unsent }))) count is in
      record {
        event = Send m;
        shown = shown;
        may = subst (λ (a : List Message). MaySend s m a t.healing t.current) (sym owed) (subst (λ (h : Option Healing). MaySend s m [] h t.current) (sym healed) (subst (λ (c : Option Open). MaySend s m [] None c) (sym closed) (calm, (first', fits, late, issuer))));
        ends = (λ i. sent s m (owed i) (healed i) (closed i)) ∙ (λ i. record t { net = sym sends i; next = sym more i; current = sym is' i; owners = owned i; caches = record t.caches { filled = None }; due = rest });
      }

  -- A MOVE of a healing begins
  move_by : (t : Track) (h : Healing) (m : Message) (net : List Message) (next : ℕ) (new : Healing) (moves : List Move) →
      ShownTo told faults w w' (Send m ∷ []) → t.owed ≡ [] → t.healing ≡ Some h → is_calm t ≡ true → h.current ≡ None → h.moves ≡ moves →
      IsMoveMessage (memory_count t.shape) (record { 0 = t.next }) m h.got moves → new ≡ with_move (memory_count t.shape) (record { 0 = t.next }) h moves →
      net ≡ t.net ++ m ∷ [] → next ≡ t.next + 1 → Came told faults w w' t (record t { net = net; next = next; healing = Some new })
  move_by t h m net next new [] shown owed heals calm between left first is sends more = absurd first
  move_by t h m net next new (move ∷ moves) shown owed heals calm between left first is sends more = record {
    event = Send m;
    shown = shown;
    may = subst (λ (a : List Message). MaySend t m a t.healing t.current) (sym owed) (subst (λ (x : Option Healing). MaySend t m [] x t.current) (sym heals)
        (calm, subst (λ (c : Option Open). IsMove t m h c h.moves) (sym between) (subst (λ (ms : List Move). IsMove t m h None ms) (sym left) first)));
    ends = (λ i. sent t m (owed i) (heals i) t.current) ∙ (λ i. move_begins t m h (left i)) ∙ (λ i. record t { net = sym sends i; next = sym more i; healing = Some (sym is i) });
  }

  pub move_came : (t : Track) (h : Healing) (m : Message) (net : List Message) (new : Healing) (n next : ℕ) →
      ShownTo told faults w w' (Send m ∷ []) → t.owed ≡ [] → t.healing ≡ Some h → is_calm t ≡ true → h.current ≡ None → n ≡ memory_count t.shape →
      IsMoveMessage n (record { 0 = t.next }) m h.got h.moves → new ≡ with_move n (record { 0 = t.next }) h h.moves →
      net ≡ t.net ++ m ∷ [] → next ≡ t.next + 1 → Came told faults w w' t (record t { net = net; next = next; healing = Some new })
  move_came t h m net new n next shown owed heals calm between count first is sends more =
      move_by t h m net next new h.moves shown owed heals calm between refl
      (subst (λ (k : ℕ). IsMoveMessage k (record { 0 = t.next }) m h.got h.moves) count first)
      (subst (λ (k : ℕ). new ≡ with_move k (record { 0 = t.next }) h h.moves) count is)
      sends more

  -- THE OPERATION is complete
  pub done_came : (t : Track) (o : Open) (owners : List HomeEntry) (new : Option Open) → new ≡ None → ShownTo told faults w w' (Complete o.number ∷ []) → t.owed ≡ [] → t.stopped ≡ false → t.current ≡ Some o →
      is_done t.net (healing_move t.healing) ≡ false → is_complete t.net o ≡ true → OtherNumber (Some o) (healing_move t.healing) → owners ≡ owners_after o.operation t.owners →
      Came told faults w w' t (record t { current = new; plain = effect o.operation t.plain; caches = brought o o.operation t.caches; owners = owners })
  done_came t o owners new closed shown owed goes is none all other owned = record {
    event = Complete o.number;
    shown = shown;
    may = record { owed = owed; goes_on = goes; complete = skips t.net (healing_move t.healing) (done_or t.net t.current None) none ∙ ap (λ (c : Option Open). done_or t.net c None) is ∙ takes t.net o None all };
    ends = current_completes t o t.healing other ∙ ap (finished t) is ∙ (λ i. record t { current = sym closed i; plain = effect o.operation t.plain; caches = brought o o.operation t.caches; owners = sym owned i });
  }

  -- A MOVE is complete, the last one or another
  move_done : (t : Track) (h : Healing) (o : Open) (t' : Track) → ShownTo told faults w w' (Complete o.number ∷ []) → t.owed ≡ [] → t.stopped ≡ false → t.healing ≡ Some h → h.current ≡ Some o →
      is_complete t.net o ≡ true → move_finished t h o h.moves ≡ t' → Came told faults w w' t t'
  move_done t h o t' shown owed goes heals is all leads = record {
    event = Complete o.number;
    shown = shown;
    may = record { owed = owed; goes_on = goes; complete = (λ i. done_or t.net (healing_move (heals i)) (done_or t.net t.current None)) ∙ (λ i. done_or t.net (is i) (done_or t.net t.current None)) ∙ takes t.net o (done_or t.net t.current None) all };
    ends = (λ i. completed t o.number.0 (heals i)) ∙ (λ i. completed_beside t o.number.0 h (is i)) ∙ move_completes t h o ∙ leads;
  }

  pub last_came : (t : Track) (h : Healing) (o : Open) (new : Option Open) (n : ℕ) → ShownTo told faults w w' (Complete o.number ∷ []) → t.owed ≡ [] → t.stopped ≡ false → t.healing ≡ Some h → h.current ≡ Some o →
      is_complete t.net o ≡ true → (length h.moves == 0) ≡ true → n ≡ memory_count t.shape → new ≡ again_in n t.current → Came told faults w w' t (record t { healing = None; current = new })
  last_came t h o new n shown owed goes heals is all last count again =
      move_done t h o (record t { healing = None; current = new }) shown owed goes heals is all
      ((λ i. move_finished t h o (no_moves h.moves last i)) ∙ (λ i. record t { healing = None; current = (again_is t t.current ∙ ap (λ (k : ℕ). again_in k t.current) (sym count) ∙ sym again) i }))

  ended_by : (t : Track) (h : Healing) (o : Open) (new : Healing) (moves : List Move) → (length moves == 0) ≡ false → new ≡ ended h (Some o) → move_finished t h o moves ≡ record t { healing = Some new }
  ended_by t h o new [] more is = cc more
  ended_by t h o new (move ∷ moves) more is = λ i. record t { healing = Some (sym is i) }

  pub ended_came : (t : Track) (h : Healing) (o : Open) (new : Healing) → ShownTo told faults w w' (Complete o.number ∷ []) → t.owed ≡ [] → t.stopped ≡ false → t.healing ≡ Some h → h.current ≡ Some o →
      is_complete t.net o ≡ true → (length h.moves == 0) ≡ false → new ≡ ended h (Some o) → Came told faults w w' t (record t { healing = Some new })
  ended_came t h o new shown owed goes heals is all more ends =
      move_done t h o (record t { healing = Some new }) shown owed goes heals is all (ended_by t h o new h.moves more ends)

  -- whatever heals: with the last move the open operation is to be sent again
  last_by : (t : Track) (h : Healing) (move : Option Open) (number : OpNo) (new : Option Open) (left : Option Healing) (n : ℕ) → ShownTo told faults w w' (Complete number ∷ []) → t.owed ≡ [] → t.stopped ≡ false → t.healing ≡ Some h → h.current ≡ move →
      is_done t.net move ≡ true → HasNumber move number → (length h.moves == 0) ≡ true → left ≡ left_after h h.moves → n ≡ memory_count t.shape → new ≡ again_in n t.current → Came told faults w w' t (record t { healing = left; current = new })
  last_by t h None number new left n shown owed goes heals is all same last ends count again = absurd same
  last_by t h (Some o) number new left n shown owed goes heals is all same last ends count again =
      let closed : left ≡ None = ends ∙ ap (left_after h) (no_moves h.moves last) in
      subst (λ (x : Option Healing). Came told faults w w' t (record t { healing = x; current = new })) (sym closed)
      (last_came t h o new n (subst (λ (k : OpNo). ShownTo told faults w w' (Complete k ∷ [])) (sym same) shown) owed goes heals is all last count again)

  last_in : (t : Track) (healing : Option Healing) (number : OpNo) (new : Option Open) (left : Option Healing) (n : ℕ) → t.healing ≡ healing → ShownTo told faults w w' (Complete number ∷ []) → t.owed ≡ [] → t.stopped ≡ false →
      is_done t.net (healing_move healing) ≡ true → HasNumber (healing_move healing) number → is_last_move healing ≡ true → left ≡ move_ended healing → n ≡ memory_count t.shape → new ≡ again_in n t.current →
      Came told faults w w' t (record t { healing = left; current = new })
  last_in t None number new left n heals shown owed goes all same last ends count again = absurd same
  last_in t (Some h) number new left n heals shown owed goes all same last ends count again = last_by t h h.current number new left n shown owed goes heals refl all same last ends count again

  pub last_comes : (t : Track) (number : OpNo) (new : Option Open) (left : Option Healing) (n : ℕ) → ShownTo told faults w w' (Complete number ∷ []) → t.owed ≡ [] → t.stopped ≡ false →
      is_done t.net (healing_move t.healing) ≡ true → HasNumber (healing_move t.healing) number → is_last_move t.healing ≡ true → left ≡ move_ended t.healing → n ≡ memory_count t.shape → new ≡ again_in n t.current →
      Came told faults w w' t (record t { healing = left; current = new })
  last_comes t number new left n shown owed goes all same last ends count again = last_in t t.healing number new left n refl shown owed goes all same last ends count again

  more_by : (t : Track) (h : Healing) (move : Option Open) (moves : List Move) (number : OpNo) (left : Option Healing) → ShownTo told faults w w' (Complete number ∷ []) → t.owed ≡ [] → t.stopped ≡ false → t.healing ≡ Some h → h.current ≡ move → h.moves ≡ moves →
      is_done t.net move ≡ true → HasNumber move number → (length moves == 0) ≡ false → left ≡ left_after h moves → Came told faults w w' t (record t { healing = left })
  more_by t h None moves number left shown owed goes heals is ahead all same more ends = absurd same
  more_by t h (Some o) [] number left shown owed goes heals is ahead all same more ends = cc more
  more_by t h (Some o) (move ∷ moves) number left shown owed goes heals is ahead all same more ends =
      subst (λ (x : Option Healing). Came told faults w w' t (record t { healing = x })) (sym ends)
      (ended_came t h o (ended h h.current) (subst (λ (k : OpNo). ShownTo told faults w w' (Complete k ∷ [])) (sym same) shown) owed goes heals is all
      (ap (λ (ms : List Move). length ms == 0) ahead ∙ more) (ap (ended h) is))

  more_in : (t : Track) (healing : Option Healing) (number : OpNo) (left : Option Healing) → t.healing ≡ healing → ShownTo told faults w w' (Complete number ∷ []) → t.owed ≡ [] → t.stopped ≡ false →
      is_done t.net (healing_move healing) ≡ true → HasNumber (healing_move healing) number → is_last_move healing ≡ false → left ≡ move_ended healing → Came told faults w w' t (record t { healing = left })
  more_in t None number left heals shown owed goes all same more ends = absurd same
  more_in t (Some h) number left heals shown owed goes all same more ends = more_by t h h.current h.moves number left shown owed goes heals refl refl all same more ends

  pub more_comes : (t : Track) (number : OpNo) (left : Option Healing) → ShownTo told faults w w' (Complete number ∷ []) → t.owed ≡ [] → t.stopped ≡ false →
      is_done t.net (healing_move t.healing) ≡ true → HasNumber (healing_move t.healing) number → is_last_move t.healing ≡ false → left ≡ move_ended t.healing → Came told faults w w' t (record t { healing = left })
  more_comes t number left shown owed goes all same more ends = more_in t t.healing number left refl shown owed goes all same more ends

  -- the next move
  next_in : (t : Track) (healing : Option Healing) (m : Message) (net : List Message) (left : Option Healing) (n next : ℕ) → t.healing ≡ healing →
      ShownTo told faults w w' (Send m ∷ []) → t.owed ≡ [] → is_calm t ≡ true → BetweenMoves healing → n ≡ memory_count t.shape →
      IsNextMessage n (record { 0 = t.next }) m healing → left ≡ next_moved n (record { 0 = t.next }) healing →
      net ≡ t.net ++ m ∷ [] → next ≡ t.next + 1 → Came told faults w w' t (record t { net = net; next = next; healing = left })
  next_in t None m net left n next heals shown owed calm between count first is sends more = absurd first
  next_in t (Some h) m net left n next heals shown owed calm between count first is sends more =
      subst (λ (x : Option Healing). Came told faults w w' t (record t { net = net; next = next; healing = x })) (sym is)
      (move_came t h m net (with_move n (record { 0 = t.next }) h h.moves) n next shown owed heals calm between.0 count first refl sends more)

  pub next_comes : (t : Track) (m : Message) (net : List Message) (left : Option Healing) (n next : ℕ) →
      ShownTo told faults w w' (Send m ∷ []) → t.owed ≡ [] → is_calm t ≡ true → BetweenMoves t.healing → n ≡ memory_count t.shape →
      IsNextMessage n (record { 0 = t.next }) m t.healing → left ≡ next_moved n (record { 0 = t.next }) t.healing →
      net ≡ t.net ++ m ∷ [] → next ≡ t.next + 1 → Came told faults w w' t (record t { net = net; next = next; healing = left })
  next_comes t m net left n next shown owed calm between count first is sends more = next_in t t.healing m net left n next refl shown owed calm between count first is sends more

pub more_left : (h : Healing) (moves : List Move) → (length moves == 0) ≡ false → left_after h moves ≡ Some (ended h h.current)
more_left h [] more = cc more
more_left h (move ∷ moves) more = refl
