-- A component gets the message of the move that is on its way: what is known then, and what must hold after it.
use Rattle.std.proofs.Common.{◌≡◌, ◌⊎◌, ◌+◌, ◌==◌, ◌&&◌, ◌||◌, [], ◌∷◌, ◌++◌, ◌∙◌, ℕ, Bool, List, None, Option, Some, ap, arith, cond, false, inl, inr, length, not, refl, slice_get, subst, sym, true}
use Rattle.std.proofs.lemmas.Bool.{eq-eqb, eqb-false, ne_eqb}
use Rattle.std.specs.List.{AllByRecursion, list_any}
use Rattle.std.specs.Prelude.{nat_lt}
use Rattle.lego_msg.specs.Deliveries.{MayDeliver, stops, taken}
use Rattle.lego_msg.specs.Maps.{page_in}
use Rattle.lego_msg.specs.Operations.{asks_of, messages_of, patch_of}
use Rattle.lego_msg.specs.Places.{is_among, is_issuer, memory, same_place}
use Rattle.lego_msg.specs.State.{Disk, Mem}
use Rattle.lego_msg.specs.Track.{Track, all_answered, healing_move, is_done, is_pending, memory_count}
use Rattle.lego_msg.specs.declared.healing.Healing.{Healing}
use Rattle.lego_msg.specs.declared.healing.Move.{Move}
use Rattle.lego_msg.specs.declared.message.Message.{Message}
use Rattle.lego_msg.specs.declared.operation.Answer.{Answer}
use Rattle.lego_msg.specs.declared.operation.Open.{Open}
use Rattle.lego_msg.specs.declared.operation.Operation.{Operation}
use Rattle.lego_msg.specs.declared.place.Place.{Place}
use Rattle.lego_rest.specs.Answers.{all_pending, answers_to, gave_answer, is_answer_from}
use Rattle.lego_rest.specs.Fits.{background}
use Rattle.lego_rest.specs.Heals.{Between, HasDone, HealFits, HealHolds, MoveGot, NumbersDiffer, count_drains, count_number, is_undone, is_unheard, scene_of}
use Rattle.lego_rest.specs.Parts.{Page, new_share, old_share, sides_of}
use Rattle.lego_rest.specs.Pending.{Among, IsNot, IsOf, IsOfMove, IsPlace, Left, MayPend, OfBackground, OfMove, OfOperation, Pends}
use Rattle.lego_rest.specs.Rest.{Middle}
use Rattle.rest_laws.proofs.Bare.{calm_on}
use Rattle.rest_laws.proofs.Delivered.{answers_at, gave_then, left_all, left_of, none_of}
use Rattle.rest_laws.proofs.Opened.{all_both, every}
use Rattle.rest_laws.proofs.Taken.{all_taken, count_both, split, whole}
use Rattle.rest_laws.specs.Nets.{Split}
use Rattle.healing_laws.proofs.MovesAre.{MoveIs}
use Rattle.healing_laws.proofs.OnItsWay.{OnItsWay, on_its_way}
use Rattle.healing_laws.proofs.Onward.{ScenesAgree, fits_kept, in_scene}
use Rattle.healing_laws.proofs.Passing.{all_are}
use Rattle.lego_msg.specs.declared.place.Place.TheVariants as place

-- what has another number than the open operation doesn't answer it
pub answers_none : (p : Place) (c : Option Open) (out : List Message) → AllByRecursion (λ (r : Message). IsNot c r.op.0) out → answers_at p c out ≡ false
answers_none p None out none = refl
answers_none p (Some o) out none = none_of (is_answer_from o p) out (every (λ r differs. ap (λ (b : Bool). b && same_place r.from p && same_place r.to o.by && answers_to (patch_of o.operation) r.body) differs) out none)

-- one message of a number is taken out
count_taken : (number : ℕ) (net net' : List Message) (m : Message) → Split net net' m → (m.op.0 == number) ≡ true → count_number number net ≡ 1 + count_number number net'
count_taken number net net' m split is =
    let whole_ : count_number number net ≡ count_number number split.front + (cond (m.op.0 == number) 1 0 + count_number number split.back) = ap (count_number number) split.whole ∙ count_both number split.front (m ∷ split.back) in
    let rest : count_number number net' ≡ count_number number split.front + count_number number split.back = ap (count_number number) split.rest ∙ count_both number split.front split.back in
    let one : cond (m.op.0 == number) 1 0 ≡ 1 = ap (λ (b : Bool). cond b 1 0) is in
    by (cond (m.op.0 == number) 1 0) whole_ one rest
  where
    by : (k : ℕ) → count_number number net ≡ count_number number split.front + (k + count_number number split.back) → k ≡ 1 → count_number number net' ≡ count_number number split.front + count_number number split.back → count_number number net ≡ 1 + count_number number net'
    by k whole_ one rest = omega (arith, whole_, one, rest)

none_counted : (number : ℕ) (xs : List Message) → count_number number xs ≡ 0 → AllByRecursion (λ (r : Message). (r.op.0 == number) ≡ false) xs
none_counted number [] zero_ = tt
none_counted number (r ∷ xs) zero_ = by (r.op.0 == number) refl zero_ (none_counted number xs)
  where
    by : (b : Bool) → (r.op.0 == number) ≡ b → cond b 1 0 + count_number number xs ≡ 0 → (count_number number xs ≡ 0 → AllByRecursion (λ (r : Message). (r.op.0 == number) ≡ false) xs) → ((r.op.0 == number) ≡ false) × AllByRecursion (λ (r : Message). (r.op.0 == number) ≡ false) xs
    by true e zero_ rest = absurd (omega (arith, zero_))
    by false e zero_ rest = (e, rest (omega (arith, zero_)))

no_answers : (answers : List Answer) → length answers ≡ 0 → answers ≡ []
no_answers [] e = refl
no_answers (a ∷ answers) e = absurd (omega (arith, e))

-- the open operation has another number
pub other_number : (current move : Option Open) (o : Open) (number : ℕ) → move ≡ Some o → NumbersDiffer current move → number ≡ o.number.0 → IsNot current number
other_number None move o number is differ same = tt
other_number (Some p) move o number is differ same = ne_eqb number p.number.0 (λ e. eqb-false p.number.0 o.number.0 (subst (λ (q : Option Open). IsNot q p.number.0) is differ) (sym e ∙ same))

module _ (lost : Option ℕ) (t : Track) (m : Message) (may : MayDeliver t m) (middle : Middle lost t) (h : Healing) (heals : t.healing ≡ Some h) (o : Open) (now : h.current ≡ Some o) (number : m.op.0 ≡ o.number.0) where
  pub heal_goes_on : t.stopped ≡ false
  heal_goes_on = calm_on t may.calm

  pub heal_holds : HealHolds t h.memory.0 h
  heal_holds = (subst (HealFits lost t) heals middle.healing).1 (calm_on t may.calm)

  pub the_way : OnItsWay t h.memory.0 h heal_holds o
  the_way = on_its_way lost t h.memory.0 h heal_holds o middle now

  pub the_move : healing_move t.healing ≡ Some o
  the_move = ap healing_move heals ∙ now

  is_it : (m.op.0 == o.number.0) ≡ true
  is_it = eq-eqb m.op.0 o.number.0 number

  -- the message is all that there is of the move
  alone : (count_number o.number.0 (left_of t) ≡ 0) × (length o.answers ≡ 0) × (count_drains o.number.0 t.mems ≡ 0)
  alone =
      let one : count_number o.number.0 (all_pending t) ≡ 1 + count_number o.number.0 (left_of t) = count_taken o.number.0 (all_pending t) (all_pending (taken t)) m (whole t m may) is_it ∙ ap (λ (k : ℕ). 1 + k) (ap (count_number o.number.0) (sym (left_all t m may))) in
      let once = the_way.fits.once in
      (omega (arith, one, once), omega (arith, one, once), omega (arith, one, once))

  pub move_alone : (count_number o.number.0 (all_pending (taken t)) ≡ 0) × (length o.answers ≡ 0) × (count_drains o.number.0 t.mems ≡ 0)
  move_alone = (ap (count_number o.number.0) (sym (left_all t m may)) ∙ alone.0, alone.1, alone.2)

  pub none_left : AllByRecursion (λ (r : Message). (r.op.0 == o.number.0) ≡ false) (left_of t)
  none_left = none_counted o.number.0 (left_of t) alone.0

  pub none_wait : count_drains o.number.0 t.mems ≡ 0
  none_wait = alone.2

  pub not_answered : o.answers ≡ []
  not_answered = no_answers o.answers alone.1

  pub not_current : (k : ℕ) → k ≡ o.number.0 → IsNot t.current k
  not_current k same = other_number t.current h.current o k now heal_holds.apart same

  pub its_kind : MayPend lost (memory_count t.shape) t.plain t.current (healing_move t.healing) t.next m
  its_kind = (all_taken (MayPend lost (memory_count t.shape) t.plain t.current (healing_move t.healing) t.next) (all_pending t) (all_pending (taken t)) m (whole t m may) middle.pending).0

  -- it is of the move
  pub it_is_of_move : (m.op.0 ≡ o.number.0) × (Among m (messages_of o.by o.number (asks_of 0 o.operation)) ⊎ ((m.to ≡ place.Manager) × (is_among m.from o.targets ≡ true)))
  it_is_of_move = subst (IsOfMove m) the_move (by its_kind.kind)
    where
      not_of_it : (c : Option Open) → IsNot c m.op.0 → IsOf lost (memory_count t.shape) t.plain m c → ⊥
      not_of_it None none of = of
      not_of_it (Some p) none of = eqb-false m.op.0 p.number.0 none of.0

      by : Pends lost (memory_count t.shape) t.plain t.current (healing_move t.healing) t.next m → IsOfMove m (healing_move t.healing)
      by (OfOperation of) = absurd (not_of_it t.current (not_current m.op.0 number) of)
      by (OfMove of) = of
      by (OfBackground of) = let zero_ = of.number in let some = the_way.fits.some in absurd (omega (arith, zero_, some, number))
      by (Left old) = absurd (eqb-false m.op.0 o.number.0 (subst (λ (q : Option Open). IsNot q m.op.0) the_move old.not_move) number)

  -- at a component: its message
  pub its_message : is_issuer m.to ≡ false → (m.from ≡ place.Manager) × (m.to ≡ the_way.fits.to) × (m.body ≡ the_way.fits.told)
  its_message component = elim it_is_of_move.1 [
    | inl first ↦ first_is (subst (λ (p : Operation). Among m (messages_of o.by o.number (asks_of 0 p))) the_way.fits.is first)
    | inr answer ↦ let both : true ≡ false = ap is_issuer (sym answer.0) ∙ component in cc both
  ]
    where
      first_is : Among m (record { from = o.by; to = the_way.fits.to; op = o.number; body = the_way.fits.told } ∷ []) → (m.from ≡ place.Manager) × (m.to ≡ the_way.fits.to) × (m.body ≡ the_way.fits.told)
      first_is (inl e) = (ap (λ (x : Message). x.from) e ∙ the_way.fits.by, ap (λ (x : Message). x.to) e, ap (λ (x : Message). x.body) e)
      first_is (inr none) = absurd none

  -- what its receiver answers is of the move
  pub answer_pends : (r : Message) → r.op ≡ m.op → r.to ≡ place.Manager → r.from ≡ the_way.fits.to → IsPlace (memory_count t.shape) r.from → MayPend lost (memory_count t.shape) t.plain t.current (healing_move t.healing) t.next r
  answer_pends r op to from there = record {
    from = there;
    to = subst (IsPlace (memory_count t.shape)) (sym to) tt;
    kind = OfMove (subst (IsOfMove r) (sym the_move) (ap (λ (n : _). n.0) op ∙ number, inr (to, ap (is_among r.from) (the_way.fits.targets ∙ ap (λ (p : Place). p ∷ []) (sym from)) ∙ same r.from)));
  }
    where
      same : (p : Place) → is_among p (p ∷ []) ≡ true
      same (place.Processor a) = ap (λ (b : Bool). b || false) (eq-eqb a.0 a.0 refl)
      same (place.Memory a) = ap (λ (b : Bool). b || false) (eq-eqb a.0 a.0 refl)
      same place.Storage = refl
      same place.Manager = refl

  -- THE HEALING GOES ON: c, which held x, holds x' then
  pub heal_step : (mems : List Mem) (d : Disk) (out : List Message) (x' : Mem) → slice_get mems h.memory.0 ≡ Some x' → x'.log ≡ [] → x'.out ≡ 0 → x'.drains ≡ [] → x'.blocks ≡ [] →
      ScenesAgree (scene_of t) mems d.images h.memory.0 →
      ((move : Move) → MoveIs (memory_count t.shape) h.memory.0 t.owners move → HasDone (scene_of t) h.memory.0 heal_holds.stands.x move → HasDone (in_scene (scene_of t) mems d.images) h.memory.0 x' move) →
      background h.memory.0 (left_of t ++ out) ≡ background h.memory.0 (all_pending t) →
      ((pid vpn : ℕ) → old_share (sides_of t) h.memory.0 (Page pid vpn) ≡ None → new_share (sides_of t) h.memory.0 (Page pid vpn) ≡ None → page_in x'.pages pid vpn ≡ None) →
      AllByRecursion (λ (r : Message). IsNot t.current r.op.0) out → count_number o.number.0 out + count_drains o.number.0 mems ≡ 1 →
      AllByRecursion (λ (r : Message). r.op.0 ≡ o.number.0 → r.to ≡ place.Manager → (r.from ≡ the_way.fits.to) × MoveGot (in_scene (scene_of t) mems d.images) h.memory.0 the_way.move r.body) out →
      (is_undone o.number.0 out mems ≡ false → HasDone (in_scene (scene_of t) mems d.images) h.memory.0 x' the_way.move) →
      HealFits lost (record (taken t) { mems = mems; disk = d; owed = out }) t.healing
  heal_step mems d out x' at log out_ drains blocks agree has same_background pages none count heard did = subst (HealFits lost (record (taken t) { mems = mems; disk = d; owed = out })) (sym heals) (
    (subst (HealFits lost t) heals middle.healing).0,
    λ goes. record {
      stands = record {
        x = x';
        at = at;
        done = heal_holds.stands.done;
        ahead = heal_holds.stands.ahead;
        all = heal_holds.stands.all;
        rest = heal_holds.stands.rest;
        log = log;
        out = out_;
        drains = drains;
        blocks = blocks;
      };
      between = subst (λ (p : Option Open × List Move). Between (in_scene (scene_of t) mems d.images) h.memory.0 (left_of t ++ out) t.next x' heal_holds.stands.done p.0 h.got p.1) (λ i. (sym now i, sym the_way.first i)) (
        all_did heal_holds.stands.done (front heal_holds.stands.done (all_are t lost h.memory.0 middle (heal_holds.stands.done ++ heal_holds.stands.ahead) heal_holds.stands.all)) the_way.did,
        fits_kept (scene_of t) mems d.images h.memory.0 agree (all_pending t) (left_of t ++ out) t.next o the_way.move the_way.fits once (all_both _ (left_of t) out (every (λ r differs same. absurd (eqb-false r.op.0 o.number.0 differs same)) (left_of t) none_left) heard),
        λ e. did (sym undone_same ∙ e),
      );
      background = same_background ∙ heal_holds.background;
      pages = pages;
      clear = λ pid vpn clear mine. agree.anew pid vpn mine (heal_holds.clear pid vpn clear mine);
      forgotten = not_forgotten (gave_then t m may out t.current (memory h.memory.0));
      one_done = λ done. let both : true ≡ false = sym done ∙ undone_yet in cc both;
      no_second = heal_holds.no_second;
      apart = heal_holds.apart;
    },
  )
    where
      front : (done : List Move) → AllByRecursion (MoveIs (memory_count t.shape) h.memory.0 t.owners) (done ++ heal_holds.stands.ahead) → AllByRecursion (MoveIs (memory_count t.shape) h.memory.0 t.owners) done
      front [] all = tt
      front (x ∷ done) all = (all.0, front done all.1)

      all_did : (done : List Move) → AllByRecursion (MoveIs (memory_count t.shape) h.memory.0 t.owners) done → AllByRecursion (HasDone (scene_of t) h.memory.0 heal_holds.stands.x) done → AllByRecursion (HasDone (in_scene (scene_of t) mems d.images) h.memory.0 x') done
      all_did [] are all = tt
      all_did (move ∷ done) are all = (has move are.0 all.0, all_did done are.1 all.1)

      once : count_number o.number.0 (left_of t ++ out) + length o.answers + count_drains o.number.0 mems ≡ 1
      once =
          let both : count_number o.number.0 (left_of t ++ out) ≡ count_number o.number.0 (left_of t) + count_number o.number.0 out = count_both o.number.0 (left_of t) out in
          let zero_ = alone.0 in
          let none_ = alone.1 in
          omega (arith, both, zero_, none_, count)

      -- nothing that is left is of the move
      undone_same : is_undone o.number.0 (left_of t ++ out) mems ≡ is_undone o.number.0 out mems
      undone_same = ap (λ (b : Bool). b || nat_lt 0 (count_drains o.number.0 mems)) (among_out (left_of t) none_left)
        where
          among_out : (xs : List Message) → AllByRecursion (λ (r : Message). (r.op.0 == o.number.0) ≡ false) xs → list_any (is_unheard o.number.0) (xs ++ out) ≡ list_any (is_unheard o.number.0) out
          among_out [] none = refl
          among_out (r ∷ xs) none = (λ i. (none.0 i && (not (same_place r.to place.Manager) || stops r.body)) || among_out xs none.1 i)

      not_forgotten : (gave_answer (memory h.memory.0) (left_of t ++ out) t.current ≡ true → (gave_answer (memory h.memory.0) (all_pending t) t.current ≡ true) ⊎ (answers_at (memory h.memory.0) t.current out ≡ true)) → gave_answer (memory h.memory.0) (left_of t ++ out) t.current ≡ false
      not_forgotten back = by (gave_answer (memory h.memory.0) (left_of t ++ out) t.current) back
        where
          by : (b : Bool) → (b ≡ true → (gave_answer (memory h.memory.0) (all_pending t) t.current ≡ true) ⊎ (answers_at (memory h.memory.0) t.current out ≡ true)) → b ≡ false
          by false back = refl
          by true back = elim (back refl) [
            | inl before ↦ let both : true ≡ false = sym before ∙ heal_holds.forgotten in cc both
            | inr answers ↦ let both : true ≡ false = sym answers ∙ answers_none (memory h.memory.0) t.current out none in cc both
          ]

      -- its receiver hasn't answered yet
      undone_yet : is_done (left_of t) h.current ≡ false
      undone_yet = ap (is_done (left_of t)) now ∙ (λ i. all_answered (the_way.fits.targets i) (not_answered i) && not (is_pending o.number.0 (left_of t)))
