-- Why a component refuses, crashes and healing included.
use Rattle.std.proofs.Common.{◌≡◌, ◌||◌, [], ◌∷◌, ◌∙◌, ℕ, Bool, List, None, Option, Some, ap, false, inl, inr, refl, slice_get, subst, sym, true}
use Rattle.std.proofs.lemmas.Bool.{eq-eqb}
use Rattle.std.specs.List.{AllByRecursion}
use Rattle.lego_msg.specs.Deliveries.{MayDeliver, stops, taken}
use Rattle.lego_msg.specs.Files.{is_room}
use Rattle.lego_msg.specs.Healing.{ask_of}
use Rattle.lego_msg.specs.Maps.{with_pages}
use Rattle.lego_msg.specs.Operations.{asks_of, messages_of}
use Rattle.lego_msg.specs.Places.{is_issuer, memory, same_place}
use Rattle.lego_msg.specs.Plain.{effect}
use Rattle.lego_msg.specs.Run.{run}
use Rattle.lego_msg.specs.State.{Mem}
use Rattle.lego_msg.specs.Table.{handled, stored}
use Rattle.lego_msg.specs.Track.{Track, healing_move, memory_count}
use Rattle.lego_msg.specs.declared.body.Body.{Body}
use Rattle.lego_msg.specs.declared.healing.Healing.{Healing}
use Rattle.lego_msg.specs.declared.healing.Move.{Move}
use Rattle.lego_msg.specs.declared.healing.Move.TheVariants.{Asks, HandsImages, HandsMeta, HandsPages}
use Rattle.lego_msg.specs.declared.message.Message.{Message}
use Rattle.lego_msg.specs.declared.operation.Open.{Open}
use Rattle.lego_msg.specs.declared.place.Place.{Place}
use Rattle.lego_rest.proofs.Resting.{rest-is-middle}
use Rattle.lego_rest.specs.Answers.{all_pending}
use Rattle.lego_rest.specs.Fits.{OpenFits}
use Rattle.lego_rest.specs.Heals.{HandsOver}
use Rattle.lego_rest.specs.Parts.{plain_with, sides_of}
use Rattle.lego_rest.specs.Pending.{AnAnswer, First, Goes, HandedOn, IsAway, IsBatch, IsOf, IsOfMove, IsUp, Left, MayPend, OfBackground, OfMove, OfOpen, OfOperation, Pends, Reaction, Returns}
use Rattle.lego_rest.specs.Rest.{Middle}
use Rattle.rest_laws.proofs.Caused.{first_dry, overflow, reacted_dry}
use Rattle.rest_laws.proofs.Exceeding.{excess, handed_small, reacted_small}
use Rattle.rest_laws.proofs.Goes.{called_of}
use Rattle.rest_laws.proofs.Meeting.{memory_same}
use Rattle.rest_laws.proofs.Opened.{all_among}
use Rattle.rest_laws.proofs.Taken.{all_taken, whole}
use Rattle.rest_laws.specs.Causes.{IsTooMuch}
use Rattle.rest_laws.proofs.Refusing.{Exceeds, Overflows, any_stops, file_refuses, row_refuses}
use Rattle.healing_laws.proofs.Causing.{Roomy, rest_roomy, roomy_list}
use Rattle.healing_laws.proofs.Events.{every-list-keeps, in_relation}
use Rattle.healing_laws.proofs.Growing.{new_too_much}
use Rattle.healing_laws.proofs.Handed.{fit_with}
use Rattle.healing_laws.proofs.LostRows.{new_pages}
use Rattle.healing_laws.proofs.MovesAre.{AskIs, MoveIs, OfImages, OfLog, OfMain, OfPages, OfSpare}
use Rattle.healing_laws.proofs.MoveSteps.{its_message, the_way}
use Rattle.healing_laws.proofs.TooMuch.{IsTooMuchOf, after_too_much, too_much_of}
use Rattle.healing_laws.specs.Refusals.{CrashesAloneRefuseNothing, GoesOn, MemoryCauses, RefusalsHaveCausesThere, StorageCauses}
use Rattle.healing_laws.specs.Running.{lost_in}
use Rattle.lego_msg.specs.declared.place.Place.TheVariants as place

-- of what is sent, what stops the run does so for a cause
all_goes : (P : Type 0) (out : List Message) → any_stops out ≡ false → AllByRecursion (λ (r : Message). stops r.body ≡ true → P) out
all_goes P [] none = tt
all_goes P (r ∷ out) none = by (stops r.body) refl none (all_goes P out)
  where
    by : (b : Bool) → stops r.body ≡ b → (b || any_stops out) ≡ false → (any_stops out ≡ false → AllByRecursion (λ (x : Message). stops x.body ≡ true → P) out) → (stops r.body ≡ true → P) × AllByRecursion (λ (x : Message). stops x.body ≡ true → P) out
    by true e none more = cc none
    by false e none more = (λ stop. absurd (never e stop), more none)
      where
        never : stops r.body ≡ false → stops r.body ≡ true → ⊥
        never e stop = let both : false ≡ true = sym e ∙ stop in cc both

all_caused : (P : Type 0) (out : List Message) → P → AllByRecursion (λ (r : Message). stops r.body ≡ true → P) out
all_caused P [] p = tt
all_caused P (r ∷ out) p = (λ stop. p, all_caused P out p)

without_cause : (P : Type 0) (out : List Message) → (P → ⊥) → AllByRecursion (λ (r : Message). stops r.body ≡ true → P) out → GoesOn out
without_cause P [] none all = tt
without_cause P (r ∷ out) none all = (by (stops r.body) refl, without_cause P out none all.1)
  where
    by : (b : Bool) → stops r.body ≡ b → stops r.body ≡ false
    by true e = absurd (none (all.0 e))
    by false e = e

module _ (lost : Option ℕ) (t : Track) (m : Message) (may : MayDeliver t m) (middle : Middle lost t) where
  pend : MayPend lost (memory_count t.shape) t.plain t.current (healing_move t.healing) t.next m
  pend = (all_taken (MayPend lost (memory_count t.shape) t.plain t.current (healing_move t.healing) t.next) (all_pending t) (all_pending (taken t)) m (whole t m may) middle.pending).0

  -- a message of the open operation, with what is known of it
  abbrev Stands : Open → Type 0
  Stands one = Middle lost (record t { current = Some one })

  stands_one : (one : Open) → t.current ≡ Some one → Stands one
  stands_one one is = subst (λ (c : Option Open). Middle lost (record t { current = c })) is middle

  fits_one : (one : Open) → Stands one → OpenFits (memory_count t.shape) t.owners t.plain t.next one
  fits_one one stands = stands.current.0

  of_current : (c : Option Open) → t.current ≡ c → IsOf lost (memory_count t.shape) t.plain m c → (one : Open) × (t.current ≡ Some one) × IsAway lost m × OfOpen (memory_count t.shape) t.plain m one
  of_current None is of = absurd of
  of_current (Some one) is of = (one, is, of.1, of.2)

  -- a message of the move of a healing
  record OfHealing : Type 0 where
    h : Healing
    heals : t.healing ≡ Some h
    o : Open
    now : h.current ≡ Some o
    number : m.op.0 ≡ o.number.0

  of_healing : IsOfMove m (healing_move t.healing) → OfHealing
  of_healing of = by t.healing refl of
    where
      by : (g : Option Healing) → t.healing ≡ g → IsOfMove m (healing_move g) → OfHealing
      by None heals of = absurd of
      by (Some h) heals of = under h.current refl of
        where
          under : (q : Option Open) → h.current ≡ q → IsOfMove m q → OfHealing
          under None now of = absurd of
          under (Some o) now of = record { h = h; heals = heals; o = o; now = now; number = of.0 }

  -- A MEMORY
  module _ (k : ℕ) (s : Mem) (to : m.to ≡ memory k) (at : slice_get t.mems k ≡ Some s) where
    abbrev Full : Type 0
    Full = IsTooMuchOf t.owners t.plain (plain_with t.current t.plain) k s.frames

    up_at : (l : Option ℕ) → IsAway l m → IsUp l k
    up_at None away = tt
    up_at (Some c) away = λ same. let both : true ≡ false = sym (eq-eqb k c (sym same)) ∙ ap (λ (p : Place). same_place p (memory c)) (sym to) ∙ away.1 in cc both

    full_open : (one : Open) → t.current ≡ Some one → IsAway lost m → OfOpen (memory_count t.shape) t.plain m one → Exceeds s m.body → Full
    full_open one is away of more = subst (λ (c : Option Open). IsTooMuchOf t.owners t.plain (plain_with c t.plain) k s.frames) (sym is) (by of)
      where
        by : OfOpen (memory_count t.shape) t.plain m one → IsTooMuchOf t.owners t.plain (effect one.operation t.plain) k s.frames
        by (First among) = after_too_much t.owners t.plain (effect one.operation t.plain) k s.frames (excess lost t one k s at (up_at lost away) one.operation (stands_one one is) m to among more)
        by (Reaction from how) = absurd (reacted_small (memory_count t.shape) one.operation m.to m.body s how more)
        by (HandedOn how) = absurd (handed_small (memory_count t.shape) t.plain one.by one.operation m s how more)
        by (AnAnswer back target says) = let both : false ≡ true = ap is_issuer (sym to ∙ back) ∙ (fits_one one (stands_one one is)).by in cc both

    asked_small : (receiver : Place) (what : Body) (c : ℕ) → AskIs (memory_count t.shape) c t.owners receiver what → Exceeds s what → ⊥
    asked_small receiver what c (OfLog e there) more = subst (Exceeds s) e more
    asked_small receiver what c (OfSpare who e there) more = subst (Exceeds s) e more
    asked_small receiver what c (OfMain who e there) more = subst (Exceeds s) e more
    asked_small receiver what c (OfImages pid region e there mine) more = subst (Exceeds s) e more
    asked_small receiver what c (OfPages pid region e there mine) more = subst (Exceeds s) e more

    full_move : OfHealing → Exceeds s m.body → Full
    full_move it more = by (the_way lost t m may middle it.h it.heals it.o it.now it.number).move refl (the_way lost t m may middle it.h it.heals it.o it.now it.number).of (subst (HandsOver (sides_of t) it.h.memory.0 (the_way lost t m may middle it.h it.heals it.o it.now it.number).move) (sym its.2) (the_way lost t m may middle it.h it.heals it.o it.now it.number).fits.hands) (sym to ∙ its.1 ∙ (the_way lost t m may middle it.h it.heals it.o it.now it.number).fits.receiver)
      where
        its : (m.from ≡ place.Manager) × (m.to ≡ (the_way lost t m may middle it.h it.heals it.o it.now it.number).fits.to) × (m.body ≡ (the_way lost t m may middle it.h it.heals it.o it.now it.number).fits.told)
        its = its_message lost t m may middle it.h it.heals it.o it.now it.number (ap is_issuer to)

        by : (move : Move) → (the_way lost t m may middle it.h it.heals it.o it.now it.number).move ≡ move → MoveIs (memory_count t.shape) it.h.memory.0 t.owners move → HandsOver (sides_of t) it.h.memory.0 move m.body → memory k ≡ (ask_of move None).to → Full
        by (Asks receiver what) is of hands there = absurd (asked_small receiver what it.h.memory.0 of (subst (Exceeds s) hands more))
        by (HandsMeta receiver role) is of hands there = absurd (subst (Exceeds s) hands.1 more)
        by (HandsPages pid region) is of hands there = absurd (subst (Exceeds s) hands.1 more)
        by (HandsImages receiver pid region) is of hands there =
            let same : k ≡ it.h.memory.0 = memory_same k it.h.memory.0 (there ∙ of.0) in
            let here : slice_get t.mems it.h.memory.0 ≡ Some s = ap (slice_get t.mems) (sym same) ∙ at in
            subst (λ (j : ℕ). IsTooMuchOf t.owners t.plain (plain_with t.current t.plain) j s.frames) (sym same) (too_much_of (memory_count t.shape) t.owners t.plain (plain_with t.current t.plain) it.h.memory.0 s.frames (with_pages pid.0 region.0 hands.0 s.pages) (fit_with (sides_of t) it.h.memory.0 pid region hands.0 s.pages hands.2 (middle.forms it.h.memory.0 s here).pages) (new_pages lost t m may middle it.h it.heals it.o it.now it.number s (to ∙ there ∙ of.0) here pid region hands.0 hands.2 receiver is) (subst (Exceeds s) hands.1 more))

    full : Exceeds s m.body → Full
    full more = by pend.kind
      where
        batch : (j : ℕ) → IsBatch m j → ⊥
        batch j (Goes from to' patches is) = subst (Exceeds s) is more
        batch j (Returns from to' is) = subst (Exceeds s) is more

        by : Pends lost (memory_count t.shape) t.plain t.current (healing_move t.healing) t.next m → Full
        by (OfOperation of) = let one = of_current t.current refl of in full_open one.0 one.1 one.2 one.3 more
        by (OfMove of) = full_move (of_healing of) more
        by (OfBackground of) = absurd (batch of.of of.batch)
        by (Left old) = absurd (subst (Exceeds s) old.drained more)

    pub memory_causes : Roomy t → MemoryCauses t k s (handled s m).1
    memory_causes roomy = elim (row_refuses s m m.body) [
      | inl none ↦ all_goes (IsTooMuch t.owners (plain_with t.current t.plain) k s.frames) (handled s m).1 none
      | inr more ↦ all_caused (IsTooMuch t.owners (plain_with t.current t.plain) k s.frames) (handled s m).1 (new_too_much lost t middle roomy k s at (full more))
    ]

  -- STORAGE, which refuses only while an operation is open
  module _ (to : m.to ≡ place.Storage) where
    abbrev NoRoom : Type 0
    NoRoom = (one : Open) × (t.current ≡ Some one) × (is_room t.plain.files (effect one.operation t.plain).files.files ≡ false)

    abbrev OverRoom : Type 0
    OverRoom = is_room t.plain.files (plain_with t.current t.plain).files.files ≡ false

    no_room_open : (one : Open) → t.current ≡ Some one → OfOpen (memory_count t.shape) t.plain m one → Overflows t.disk m.body → NoRoom
    no_room_open one is of more = (one, is, by of)
      where
        fits : OpenFits (memory_count t.shape) t.owners t.plain t.next one
        fits = fits_one one (stands_one one is)

        by : OfOpen (memory_count t.shape) t.plain m one → is_room t.plain.files (effect one.operation t.plain).files.files ≡ false
        by (First among) = absurd (all_among (λ (y : Message). Overflows t.disk y.body → ⊥) (messages_of one.by one.number (asks_of (memory_count t.shape) one.operation)) m among (first_dry t.disk (memory_count t.shape) one.by one.number one.operation (called_of t.owners t.plain one.operation fits.fits)) more)
        by (Reaction from how) = absurd (reacted_dry t.disk (memory_count t.shape) one.operation m.to m.body how more)
        by (HandedOn how) = overflow t.disk (memory_count t.shape) t.owners t.plain one.by one.operation m fits.fits (stands_one one is).disk.files how more
        by (AnAnswer back target says) = let both : false ≡ true = ap is_issuer (sym to ∙ back) ∙ fits.by in cc both

    asked_dry : (receiver : Place) (what : Body) (c : ℕ) → AskIs (memory_count t.shape) c t.owners receiver what → Overflows t.disk what → ⊥
    asked_dry receiver what c (OfLog e there) more = subst (Overflows t.disk) e more
    asked_dry receiver what c (OfSpare who e there) more = subst (Overflows t.disk) e more
    asked_dry receiver what c (OfMain who e there) more = subst (Overflows t.disk) e more
    asked_dry receiver what c (OfImages pid region e there mine) more = subst (Overflows t.disk) e more
    asked_dry receiver what c (OfPages pid region e there mine) more = subst (Overflows t.disk) e more

    move_dry : OfHealing → Overflows t.disk m.body → ⊥
    move_dry it more = by (the_way lost t m may middle it.h it.heals it.o it.now it.number).move (the_way lost t m may middle it.h it.heals it.o it.now it.number).of (subst (HandsOver (sides_of t) it.h.memory.0 (the_way lost t m may middle it.h it.heals it.o it.now it.number).move) (sym its.2) (the_way lost t m may middle it.h it.heals it.o it.now it.number).fits.hands)
      where
        its : (m.from ≡ place.Manager) × (m.to ≡ (the_way lost t m may middle it.h it.heals it.o it.now it.number).fits.to) × (m.body ≡ (the_way lost t m may middle it.h it.heals it.o it.now it.number).fits.told)
        its = its_message lost t m may middle it.h it.heals it.o it.now it.number (ap is_issuer to)

        by : (move : Move) → MoveIs (memory_count t.shape) it.h.memory.0 t.owners move → HandsOver (sides_of t) it.h.memory.0 move m.body → ⊥
        by (Asks receiver what) of hands = asked_dry receiver what it.h.memory.0 of (subst (Overflows t.disk) hands more)
        by (HandsMeta receiver role) of hands = subst (Overflows t.disk) hands.1 more
        by (HandsImages receiver pid region) of hands = subst (Overflows t.disk) hands.1 more
        by (HandsPages pid region) of hands = subst (Overflows t.disk) hands.1 more

    no_room : Overflows t.disk m.body → NoRoom
    no_room more = by pend.kind
      where
        batch : (j : ℕ) → IsBatch m j → ⊥
        batch j (Goes from to' patches is) = subst (Overflows t.disk) is more
        batch j (Returns from to' is) = subst (Overflows t.disk) is more

        by : Pends lost (memory_count t.shape) t.plain t.current (healing_move t.healing) t.next m → NoRoom
        by (OfOperation of) = let one = of_current t.current refl of in no_room_open one.0 one.1 one.3 more
        by (OfMove of) = absurd (move_dry (of_healing of) more)
        by (OfBackground of) = absurd (batch of.of of.batch)
        by (Left old) = absurd (subst (Overflows t.disk) old.drained more)

    pub storage_none : AllByRecursion (λ (r : Message). stops r.body ≡ true → NoRoom) (stored t.disk m).1
    storage_none = elim (file_refuses t.disk m m.body) [
      | inl none ↦ all_goes NoRoom (stored t.disk m).1 none
      | inr more ↦ all_caused NoRoom (stored t.disk m).1 (no_room more)
    ]

    pub storage_causes : StorageCauses t (stored t.disk m).1
    storage_causes = elim (file_refuses t.disk m m.body) [
      | inl none ↦ all_goes OverRoom (stored t.disk m).1 none
      | inr more ↦ let it = no_room more in all_caused OverRoom (stored t.disk m).1 (ap (λ (c : Option Open). is_room t.plain.files (plain_with c t.plain).files.files) it.1 ∙ it.2)
    ]

pub refusals-have-causes-there : RefusalsHaveCausesThere
refusals-have-causes-there t events m rest legal granted may =
    let middle = every-list-keeps t events rest legal granted in (
      λ k s to at. memory_causes (lost_in (run t events).healing) (run t events) m may middle k s to at (roomy_list t events (in_relation None t (rest-is-middle t rest)) (rest_roomy t rest) legal granted),
      storage_causes (lost_in (run t events).healing) (run t events) m may middle,
    )

pub crashes-alone-refuse-nothing : CrashesAloneRefuseNothing
crashes-alone-refuse-nothing t events m rest legal granted may closed = (in_memory, in_storage)
  where
    middle : Middle (lost_in (run t events).healing) (run t events)
    middle = every-list-keeps t events rest legal granted

    in_memory : (k : ℕ) (s : Mem) → m.to ≡ memory k → slice_get (run t events).mems k ≡ Some s → GoesOn (handled s m).1
    in_memory k s to at = without_cause (IsTooMuch (run t events).owners (plain_with (run t events).current (run t events).plain) k s.frames) (handled s m).1 none (memory_causes (lost_in (run t events).healing) (run t events) m may middle k s to at roomy)
      where
        roomy : Roomy (run t events)
        roomy = roomy_list t events (in_relation None t (rest-is-middle t rest)) (rest_roomy t rest) legal granted

        none : IsTooMuch (run t events).owners (plain_with (run t events).current (run t events).plain) k s.frames → ⊥
        none too = roomy k s at (subst (λ (c : Option Open). IsTooMuch (run t events).owners (plain_with c (run t events).plain) k s.frames) closed too)

    in_storage : m.to ≡ place.Storage → GoesOn (stored (run t events).disk m).1
    in_storage to = without_cause ((one : Open) × ((run t events).current ≡ Some one) × (is_room (run t events).plain.files (effect one.operation (run t events).plain).files.files ≡ false)) (stored (run t events).disk m).1 (λ no. never no.0 no.1) (storage_none (lost_in (run t events).healing) (run t events) m may middle to)
      where
        never : (one : Open) → (run t events).current ≡ Some one → ⊥
        never one is = let both : None ≡ Some one = sym closed ∙ is in cc both
