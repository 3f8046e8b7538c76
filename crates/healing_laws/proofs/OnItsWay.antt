-- The move that is on its way, and that none of its messages changes a block.
use Rattle.std.proofs.Common.{◌≡◌, ◌<◌, [], ◌∷◌, ◌++◌, ◌∙◌, ℕ, List, None, Option, Some, ap, false, inl, inr, refl, subst, sym}
use Rattle.std.specs.List.{AllByRecursion}
use Rattle.lego_base.specs.declared.records.HomeEntry.{HomeEntry}
use Rattle.lego_base.specs.declared.records.PageImage.{PageImage}
use Rattle.lego_base.specs.declared.records.SpaceAreas.{SpaceAreas}
use Rattle.lego_msg.specs.Operations.{asks_of, messages_of}
use Rattle.lego_msg.specs.State.{Block}
use Rattle.lego_msg.specs.Track.{Track, healing_move, memory_count}
use Rattle.lego_msg.specs.declared.body.Body.{Body}
use Rattle.lego_msg.specs.declared.healing.Healing.{Healing}
use Rattle.lego_msg.specs.declared.healing.Move.{Move}
use Rattle.lego_msg.specs.declared.healing.Move.TheVariants.{Asks, HandsImages, HandsMeta, HandsPages}
use Rattle.lego_msg.specs.declared.message.Message.{Message}
use Rattle.lego_msg.specs.declared.operation.Open.{Open}
use Rattle.lego_msg.specs.declared.operation.Operation.{Operation}
use Rattle.lego_msg.specs.declared.place.Place.{Place}
use Rattle.lego_rest.specs.Answers.{all_pending}
use Rattle.lego_rest.specs.Fits.{changes_block}
use Rattle.lego_rest.specs.Heals.{Ahead, Between, HandsOver, HasDone, HealFits, HealHolds, MoveFits, MoveGot, Scene, is_undone, scene_of}
use Rattle.lego_rest.specs.Parts.{Sides}
use Rattle.lego_rest.specs.Pending.{Among, IsOfMove}
use Rattle.lego_rest.specs.Rest.{Middle}
use Rattle.rest_laws.proofs.Opened.{every}
use Rattle.healing_laws.proofs.MovesAre.{AskIs, MoveIs, OfImages, OfLog, OfMain, OfPages, OfSpare}
use Rattle.healing_laws.proofs.Passing.{all_are}
use Rattle.lego_msg.specs.declared.body.Body.TheVariants as body
use Rattle.lego_msg.specs.declared.place.Place.TheVariants as place
use Rattle.lego_msg.specs.declared.place.Why.TheVariants as why

-- where a move o of the healing h of c is on its way
pub record OnItsWay (t : Track) (c : ℕ) (h : Healing) (holds : HealHolds t c h) (o : Open) : Type 0 where
  pub move : Move
  pub ahead : List Move
  pub of : MoveIs (memory_count t.shape) c t.owners move
  pub fits : MoveFits (scene_of t) c (all_pending t) t.next o move
  pub first : holds.stands.ahead ≡ move ∷ ahead
  pub rest : h.moves ≡ ahead
  pub did : AllByRecursion (HasDone (scene_of t) c holds.stands.x) holds.stands.done
  pub now : is_undone o.number.0 (all_pending t) t.mems ≡ false → HasDone (scene_of t) c holds.stands.x move

pub on_its_way : (lost : Option ℕ) (t : Track) (c : ℕ) (h : Healing) (holds : HealHolds t c h) (o : Open) → Middle lost t → h.current ≡ Some o → OnItsWay t c h holds o
on_its_way lost t c h holds o middle is =
    by holds.stands.ahead refl (subst (λ (q : Option Open). Ahead q h.moves holds.stands.ahead) is holds.stands.rest) (subst (λ (q : Option Open). Between (scene_of t) c (all_pending t) t.next holds.stands.x holds.stands.done q h.got holds.stands.ahead) is holds.between)
  where
    are : (done : List Move) (move : Move) (ahead : List Move) → AllByRecursion (MoveIs (memory_count t.shape) c t.owners) (done ++ move ∷ ahead) → MoveIs (memory_count t.shape) c t.owners move
    are [] move ahead all = all.0
    are (x ∷ done) move ahead all = are done move ahead all.1

    by : (ahead : List Move) → holds.stands.ahead ≡ ahead → Ahead (Some o) h.moves ahead → Between (scene_of t) c (all_pending t) t.next holds.stands.x holds.stands.done (Some o) h.got ahead → OnItsWay t c h holds o
    by [] e rest between = absurd between
    by (move ∷ ahead) e rest between = record {
      move = move;
      ahead = ahead;
      of = are holds.stands.done move ahead (all_are t lost c middle (holds.stands.done ++ move ∷ ahead) (ap (λ (moves : List Move). holds.stands.done ++ moves) (sym e) ∙ holds.stands.all));
      fits = between.1;
      first = e;
      rest = rest;
      did = between.0;
      now = between.2;
    }

-- NO MESSAGE OF A MOVE changes a block

asked_still : (n c : ℕ) (owners : List HomeEntry) (to : Place) (what : Body) → AskIs n c owners to what → (b : Block) → changes_block b what ≡ false
asked_still n c owners to what (OfLog e at) b = ap (changes_block b) e
asked_still n c owners to what (OfSpare who e at) b = ap (changes_block b) e
asked_still n c owners to what (OfMain who e at) b = ap (changes_block b) e
asked_still n c owners to what (OfImages pid region e at mine) b = ap (changes_block b) e
asked_still n c owners to what (OfPages pid region e at mine) b = ap (changes_block b) e

pub told_still : (w : Sides) (n c : ℕ) (owners : List HomeEntry) (move : Move) (told : Body) → MoveIs n c owners move → HandsOver w c move told → (b : Block) → changes_block b told ≡ false
told_still w n c owners (Asks to what) told is hands b = ap (changes_block b) hands ∙ asked_still n c owners to what is b
told_still w n c owners (HandsMeta to role) told is hands b = ap (changes_block b) hands.1
told_still w n c owners (HandsImages to pid region) told is hands b = ap (changes_block b) hands.1
told_still w n c owners (HandsPages pid region) told is hands b = ap (changes_block b) hands.1

-- what an answer to a move is, and is not
pub got_is : (P : Body → Type 0) → (w : Scene) (n c : ℕ) (owners : List HomeEntry) (move : Move) (got : Body) → MoveIs n c owners move → MoveGot w c move got →
    P body.Drained → P body.Done → P (body.Refused why.Full) → ((k : List HomeEntry) (l : List SpaceAreas) → P (body.Meta k l)) → ((pages : List PageImage) → P (body.Images pages)) → P got
got_is P w n c owners (Asks to what) got is it drained done full meta images = by is
  where
    by : AskIs n c owners to what → P got
    by (OfLog e at) = subst P (sym (subst (λ (b : Body). MoveGot w c (Asks to b) got) e it).0) drained
    by (OfSpare who e at) = let k = subst (λ (b : Body). MoveGot w c (Asks to b) got) e it in subst P (sym k.1) (meta k.0.homes k.0.areas)
    by (OfMain who e at) = let k = subst (λ (b : Body). MoveGot w c (Asks to b) got) e it in subst P (sym k.1) (meta k.0.homes k.0.areas)
    by (OfImages pid region e at mine) = let k = subst (λ (b : Body). MoveGot w c (Asks to b) got) e it in subst P (sym k.1) (images k.0)
    by (OfPages pid region e at mine) = let k = subst (λ (b : Body). MoveGot w c (Asks to b) got) e it in subst P (sym k.1) (images k.0)
got_is P w n c owners (HandsMeta to role) got is it drained done full meta images = subst P (sym it) done
got_is P w n c owners (HandsImages to pid region) got is (inl it) drained done full meta images = subst P (sym it) done
got_is P w n c owners (HandsImages to pid region) got is (inr (inl it)) drained done full meta images = subst P (sym it) full
got_is P w n c owners (HandsImages to pid region) got is (inr (inr none)) drained done full meta images = absurd none
got_is P w n c owners (HandsPages pid region) got is it drained done full meta images = subst P (sym it) done

pub moves_still : (lost : Option ℕ) (t : Track) → t.stopped ≡ false → Middle lost t → (b : Block) → AllByRecursion (λ (x : Message). IsOfMove x (healing_move t.healing) → changes_block b x.body ≡ false) (all_pending t)
moves_still lost t goes_on middle b = by t.healing middle.healing
  where
    none : (xs : List Message) → AllByRecursion (λ (x : Message). IsOfMove x None → changes_block b x.body ≡ false) xs
    none [] = tt
    none (x ∷ xs) = (λ of. absurd of, none xs)

    by : (h : Option Healing) → HealFits lost t h → AllByRecursion (λ (x : Message). IsOfMove x (healing_move h) → changes_block b x.body ≡ false) (all_pending t)
    by None fits = none (all_pending t)
    by (Some h) fits = under h.current refl
      where
        under : (current : Option Open) → h.current ≡ current → AllByRecursion (λ (x : Message). IsOfMove x current → changes_block b x.body ≡ false) (all_pending t)
        under None is = none (all_pending t)
        under (Some o) is =
            let way = on_its_way lost t h.memory.0 h (fits.1 goes_on) o middle is in
            every (each way.move way.of way.fits) (all_pending t) way.fits.answering
          where
            each : (move : Move) → MoveIs (memory_count t.shape) h.memory.0 t.owners move → (fit : MoveFits (scene_of t) h.memory.0 (all_pending t) t.next o move) → (x : Message) → (x.op.0 ≡ o.number.0 → x.to ≡ place.Manager → (x.from ≡ fit.to) × MoveGot (scene_of t) h.memory.0 move x.body) → IsOfMove x (Some o) → changes_block b x.body ≡ false
            each move of fit x heard it = elim it.1 [
              | inl first ↦ first_still (subst (λ (p : Operation). Among x (messages_of o.by o.number (asks_of 0 p))) fit.is first)
              | inr answer ↦ got_is (λ (told : Body). changes_block b told ≡ false) (scene_of t) (memory_count t.shape) h.memory.0 t.owners move x.body of (heard it.0 answer.0).1 refl refl refl (λ k l. refl) (λ pages. refl)
            ]
              where
                first_still : Among x (record { from = o.by; to = fit.to; op = o.number; body = fit.told } ∷ []) → changes_block b x.body ≡ false
                first_still (inl e) = ap (λ (y : Message). changes_block b y.body) e ∙ told_still (scene_of t).sides (memory_count t.shape) h.memory.0 t.owners move fit.told of fit.hands b
                first_still (inr e) = absurd e

-- a move's number is positive
pub move_some : (lost : Option ℕ) (t : Track) (m : Message) → t.stopped ≡ false → Middle lost t → IsOfMove m (healing_move t.healing) → 0 < m.op.0
move_some lost t m goes_on middle of = by t.healing middle.healing of
  where
    by : (h : Option Healing) → HealFits lost t h → IsOfMove m (healing_move h) → 0 < m.op.0
    by None fits of = absurd of
    by (Some h) fits of = under h.current refl of
      where
        under : (current : Option Open) → h.current ≡ current → IsOfMove m current → 0 < m.op.0
        under None is of = absurd of
        under (Some o) is of = subst (λ (n : ℕ). 0 < n) (sym of.0) (on_its_way lost t h.memory.0 h (fits.1 goes_on) o middle is).fits.some
