-- A component that is up gets a message that isn't the move's: what it must leave alone so that the healing goes on.
use Rattle.std.proofs.Common.{◌≡◌, ◌⊎◌, ◌+◌, ◌==◌, ◌&&◌, ◌||◌, [], ◌∷◌, ◌++◌, ◌∙◌, ℕ, Bool, List, None, Option, Some, ap, arith, cond, false, inl, inr, length, not, refl, slice_get, subst, sym, true}
use Rattle.std.proofs.lemmas.Bool.{eqb-false}
use Rattle.std.specs.Prelude.{nat_lt}
use Rattle.std.specs.List.{AllByRecursion, list_any}
use Rattle.lego_base.specs.declared.records.PageImage.{PageImage}
use Rattle.lego_msg.specs.Deliveries.{MayDeliver, stops, taken}
use Rattle.lego_msg.specs.Healing.{moves_of}
use Rattle.lego_msg.specs.Maps.{home_key}
use Rattle.lego_msg.specs.Places.{memory, same_place}
use Rattle.lego_msg.specs.State.{Disk, Mem}
use Rattle.lego_msg.specs.Track.{Track, healing_move, is_done, memory_count}
use Rattle.lego_msg.specs.declared.healing.Healing.{Healing}
use Rattle.lego_msg.specs.declared.healing.Move.{Move}
use Rattle.lego_msg.specs.declared.message.Message.{Message}
use Rattle.lego_msg.specs.declared.operation.Open.{Open}
use Rattle.lego_msg.specs.declared.place.Place.{Place}
use Rattle.lego_rest.specs.Answers.{all_pending, gave_answer}
use Rattle.lego_rest.specs.Fits.{background}
use Rattle.lego_rest.specs.Heals.{HasDone, HealFits, MoveFits, MoveGot, count_drains, count_number, is_undone, is_unheard, scene_of}
use Rattle.lego_rest.specs.Pending.{IsNot}
use Rattle.lego_rest.specs.Rest.{Middle}
use Rattle.rest_laws.proofs.Delivered.{gave_other, left_all, left_of, of_first}
use Rattle.rest_laws.proofs.Opened.{all_both, every}
use Rattle.rest_laws.proofs.Taken.{all_taken, any_same, count_both, count_same, done_same, split, whole}
use Rattle.rest_laws.proofs.Truth.{back_false}
use Rattle.healing_laws.proofs.MovesAre.{MoveIs, moves_are}
use Rattle.healing_laws.proofs.Onward.{ScenesAgree, between_kept, done_kept, fits_kept, got_kept, in_scene}
use Rattle.healing_laws.proofs.Rising.{each_found}
use Rattle.lego_msg.specs.declared.place.Place.TheVariants as place

-- of the move on its way
pub record MoveStays (t : Track) (c : ℕ) (mems : List Mem) (images : List PageImage) (out : List Message) (x : Mem) (o : Open) (move : Move) (to : Place) : Type 0 where
  pub count : count_number o.number.0 out + count_drains o.number.0 mems ≡ count_drains o.number.0 t.mems
  pub heard : AllByRecursion (λ (r : Message). r.op.0 ≡ o.number.0 → r.to ≡ place.Manager → (r.from ≡ to) × MoveGot (in_scene (scene_of t) mems images) c move r.body) out
  pub undone : is_undone o.number.0 (left_of t ++ out) mems ≡ false → (is_undone o.number.0 (all_pending t) t.mems ≡ false) ⊎ HasDone (in_scene (scene_of t) mems images) c x move

-- of the healing of c: the memories and images become these, and `out` is sent
pub record Passes (t : Track) (m : Message) (c : ℕ) (mems : List Mem) (images : List PageImage) (out : List Message) : Type 0 where
  pub agree : ScenesAgree (scene_of t) mems images c
  pub at : (x : Mem) → slice_get t.mems c ≡ Some x → slice_get mems c ≡ Some x
  pub background : background c (left_of t ++ out) ≡ background c (all_pending t)
  pub move : (o : Open) (move : Move) (x : Mem) → healing_move t.healing ≡ Some o → (m.op.0 == o.number.0) ≡ false → MoveIs (memory_count t.shape) c t.owners move → (fits : MoveFits (scene_of t) c (all_pending t) t.next o move) → MoveStays t c mems images out x o move fits.to

-- all moves are of their places and regions
pub all_are : (t : Track) (lost : Option ℕ) (c : ℕ) → Middle lost t → (moves : List Move) → moves ≡ moves_of (memory_count t.shape) c t.owners → AllByRecursion (MoveIs (memory_count t.shape) c t.owners) moves
all_are t lost c middle moves is = subst (AllByRecursion (MoveIs (memory_count t.shape) c t.owners)) (sym is) (moves_are (memory_count t.shape) c t.owners (each_found home_key t.owners middle.plain.rise))

module _ (lost : Option ℕ) (t : Track) (mems : List Mem) (d : Disk) (m : Message) (out : List Message) (p : Place) (may : MayDeliver t m) (from : AllByRecursion (λ (r : Message). r.from ≡ p) out) (middle : Middle lost t) where
  abbrev later_track : Track
  later_track = record (taken t) { mems = mems; disk = d; owed = out }

  module _ (c : ℕ) (apart : same_place p (memory c) ≡ false) (passes : Passes t m c mems d.images out) where
    goes : (current : Option Open) → healing_move t.healing ≡ current → IsNot current m.op.0 → (x : Mem) (o : Open) (move : Move) → current ≡ Some o → MoveIs (memory_count t.shape) c t.owners move → MoveFits (scene_of t) c (all_pending t) t.next o move → (is_undone o.number.0 (all_pending t) t.mems ≡ false → HasDone (scene_of t) c x move) →
        MoveFits (in_scene (scene_of t) mems d.images) c (left_of t ++ out) t.next o move × (is_undone o.number.0 (left_of t ++ out) mems ≡ false → HasDone (in_scene (scene_of t) mems d.images) c x move)
    goes current now not_it x o move is of fits did =
        let stays = passes.move o move x (now ∙ is) none of fits in (
          fits_kept (scene_of t) mems d.images c passes.agree (all_pending t) (left_of t ++ out) t.next o move fits (once stays) (all_both _ (left_of t) out left_heard stays.heard),
          λ e. elim (stays.undone e) [
            | inl before ↦ done_kept (scene_of t) mems d.images c passes.agree x move of (did before)
            | inr now ↦ now
          ],
        )
      where
        none : (m.op.0 == o.number.0) ≡ false
        none = subst (λ (q : Option Open). IsNot q m.op.0) is not_it

        once : MoveStays t c mems d.images out x o move fits.to → count_number o.number.0 (left_of t ++ out) + length o.answers + count_drains o.number.0 mems ≡ 1
        once stays =
            let both : count_number o.number.0 (left_of t ++ out) ≡ count_number o.number.0 (left_of t) + count_number o.number.0 out = count_both o.number.0 (left_of t) out in
            let same : count_number o.number.0 (all_pending t) ≡ count_number o.number.0 (left_of t) = count_same o.number.0 (all_pending t) (all_pending (taken t)) m (whole t m may) none ∙ ap (count_number o.number.0) (sym (left_all t m may)) in
            let drains = stays.count in
            let was = fits.once in
            omega (arith, both, same, drains, was)

        left_heard : AllByRecursion (λ (r : Message). r.op.0 ≡ o.number.0 → r.to ≡ place.Manager → (r.from ≡ fits.to) × MoveGot (in_scene (scene_of t) mems d.images) c move r.body) (left_of t)
        left_heard = every (λ r heard number to. let it = heard number to in (it.0, got_kept (scene_of t) mems d.images c passes.agree move r.body it.1)) (left_of t)
            (subst (AllByRecursion (λ (r : Message). r.op.0 ≡ o.number.0 → r.to ≡ place.Manager → (r.from ≡ fits.to) × MoveGot (scene_of t) c move r.body)) (sym (left_all t m may)) (all_taken _ (all_pending t) (all_pending (taken t)) m (whole t m may) fits.answering).1)

  pub passing_heals : (h : Option Healing) → t.healing ≡ h → ((g : Healing) → h ≡ Some g → (same_place p (memory g.memory.0) ≡ false) × Passes t m g.memory.0 mems d.images out) → IsNot (healing_move h) m.op.0 → is_done t.net (healing_move h) ≡ false → HealFits lost t h → HealFits lost later_track h
  passing_heals None heals stays not_it undone fits = fits
  passing_heals (Some h) heals stays not_it undone fits =
      let it = stays h refl in
      let passes = it.1 in (
        fits.0,
        λ goes_on.
            let holds = fits.1 goes_on in
            record {
              stands = record {
                x = holds.stands.x;
                at = passes.at holds.stands.x holds.stands.at;
                done = holds.stands.done;
                ahead = holds.stands.ahead;
                all = holds.stands.all;
                rest = holds.stands.rest;
                log = holds.stands.log;
                out = holds.stands.out;
                drains = holds.stands.drains;
                blocks = holds.stands.blocks;
              };
              between = between_kept (scene_of t) mems d.images h.memory.0 passes.agree (all_pending t) (left_of t ++ out) t.next holds.stands.x holds.stands.x holds.stands.done h.current h.got holds.stands.ahead
                  (done_kept (scene_of t) mems d.images h.memory.0 passes.agree holds.stands.x) (goes h.memory.0 it.0 passes h.current (ap healing_move heals) not_it holds.stands.x)
                  (all_are t lost h.memory.0 middle (holds.stands.done ++ holds.stands.ahead) holds.stands.all) holds.between;
              background = passes.background ∙ holds.background;
              pages = holds.pages;
              clear = λ pid vpn clear mine. passes.agree.anew pid vpn mine (holds.clear pid vpn clear mine);
              forgotten = back_false (gave_answer (memory h.memory.0) (all_pending t) t.current) (gave_answer (memory h.memory.0) (left_of t ++ out) t.current) (gave_other t m may p out from t.current (memory h.memory.0) it.0) holds.forgotten;
              one_done = λ done. let both : true ≡ false = sym done ∙ sym (done_same t.net (left_of t) m (split t m may) h.current not_it) ∙ undone in cc both;
              no_second = holds.no_second;
              apart = holds.apart;
            },
      )

-- WHAT ISN'T OF THE MOVE leaves it as it is

pub none_numbered : (number : ℕ) (out : List Message) → AllByRecursion (λ (r : Message). (r.op.0 == number) ≡ false) out → count_number number out ≡ 0
none_numbered number [] none = refl
none_numbered number (r ∷ out) none = (λ i. cond (none.0 i) 1 0 + none_numbered number out none.1 i)

pub none_unheard : (number : ℕ) (out : List Message) → AllByRecursion (λ (r : Message). (r.op.0 == number) ≡ false) out → list_any (is_unheard number) out ≡ false
none_unheard number [] none = refl
none_unheard number (r ∷ out) none = (λ i. (none.0 i && (not (same_place r.to place.Manager) || stops r.body)) || none_unheard number out none.1 i)

pub quiet_stays : (t : Track) (m : Message) → MayDeliver t m → (c : ℕ) (mems : List Mem) (images : List PageImage) (out : List Message) (x : Mem) (o : Open) (move : Move) (to : Place) →
    count_drains o.number.0 mems ≡ count_drains o.number.0 t.mems → AllByRecursion (λ (r : Message). (r.op.0 == o.number.0) ≡ false) out → (m.op.0 == o.number.0) ≡ false → MoveStays t c mems images out x o move to
quiet_stays t m may c mems images out x o move to drains none none_m = record {
  count = let zero = none_numbered o.number.0 out none in omega (arith, drains, zero);
  heard = every (λ r differs number. absurd (eqb-false r.op.0 o.number.0 differs number)) out none;
  undone = λ e. inl (was ∙ e);
}
  where
    was : is_undone o.number.0 (all_pending t) t.mems ≡ is_undone o.number.0 (left_of t ++ out) mems
    was =
        (λ i. any_same (is_unheard o.number.0) (all_pending t) (all_pending (taken t)) m (whole t m may) (ap (λ (b : Bool). b && (not (same_place m.to place.Manager) || stops m.body)) none_m) i || nat_lt 0 (sym drains i))
        ∙ ap (λ (b : Bool). b || nat_lt 0 (count_drains o.number.0 mems)) (ap (list_any (is_unheard o.number.0)) (sym (left_all t m may)) ∙ sym (of_first (is_unheard o.number.0) (left_of t) out (none_unheard o.number.0 out none)))
