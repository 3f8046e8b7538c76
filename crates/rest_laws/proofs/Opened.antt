-- The open operation with other messages unsent or other answers: what is pending or waits fits it as before.
use Rattle.std.proofs.Common.{◌≡◌, ◌<◌, ◌&&◌, ◌||◌, [], ◌∷◌, ◌++◌, ℕ, Bool, List, Option, Some, ap, false, inl, inr, refl, subst, sym, true}
use Rattle.std.specs.List.{AllByRecursion}
use Rattle.lego_base.specs.declared.ids.OpNo.{OpNo}
use Rattle.lego_msg.specs.Operations.{Ask, messages_of}
use Rattle.lego_msg.specs.Places.{is_issuer, memory, same_place}
use Rattle.lego_msg.specs.Plain.{Plain}
use Rattle.lego_msg.specs.State.{Waiter}
use Rattle.lego_msg.specs.declared.message.Message.{Message}
use Rattle.lego_msg.specs.declared.operation.Answer.{Answer}
use Rattle.lego_msg.specs.declared.operation.Open.{Open}
use Rattle.lego_msg.specs.declared.place.Place.{Place}
use Rattle.lego_msg.specs.declared.place.Place.TheVariants.{Manager, Memory, Processor, Storage}
use Rattle.lego_rest.specs.Fits.{AnswerFits, WaiterFits, is_background}
use Rattle.rest_laws.proofs.Truth.{not_zero}
use Rattle.lego_rest.specs.Pending.{Among, AnAnswer, First, HandedOn, IsPlace, Left, MayPend, OfBackground, OfMove, OfOpen, OfOperation, Pends, Reaction}

-- LISTS of which all fit

pub every : {X : Type 0} {P Q : X → Type 0} → ((x : X) → P x → Q x) → (xs : List X) → AllByRecursion P xs → AllByRecursion Q xs
every f [] all = tt
every f (x ∷ xs) all = (f x all.0, every f xs all.1)

pub all_both : {X : Type 0} (P : X → Type 0) → (xs ys : List X) → AllByRecursion P xs → AllByRecursion P ys → AllByRecursion P (xs ++ ys)
all_both P [] ys first second = second
all_both P (x ∷ xs) ys first second = (first.0, all_both P xs ys first.1 second)

-- AN OPERATION with other messages unsent and other answers

module _ (o : Open) (unsent : List Message) (answers : List Answer) where
  pub of_open : (n : ℕ) (f : Plain) (m : Message) → OfOpen n f m o → OfOpen n f m (record o { unsent = unsent; answers = answers })
  of_open n f m (First among) = First among
  of_open n f m (Reaction from what) = Reaction from what
  of_open n f m (HandedOn how) = HandedOn how
  of_open n f m (AnAnswer to of says) = AnAnswer to of says

  pends : (lost : Option ℕ) (n : ℕ) (f : Plain) (move : Option Open) (next : ℕ) (m : Message) → Pends lost n f (Some o) move next m → Pends lost n f (Some (record o { unsent = unsent; answers = answers })) move next m
  pends lost n f move next m (OfOperation of) = OfOperation (of.0, of.1, of_open n f m of.2)
  pends lost n f move next m (OfMove of) = OfMove of
  pends lost n f move next m (OfBackground of) = OfBackground of
  pends lost n f move next m (Left old) = Left (record {
    some = old.some;
    below = old.below;
    not_current = old.not_current;
    not_move = old.not_move;
    drained = old.drained;
    to = old.to;
    from_up = old.from_up;
  })

  pub pends_as_before : (lost : Option ℕ) (n : ℕ) (f : Plain) (move : Option Open) (next : ℕ) (m : Message) → MayPend lost n f (Some o) move next m → MayPend lost n f (Some (record o { unsent = unsent; answers = answers })) move next m
  pends_as_before lost n f move next m may = record { from = may.from; to = may.to; kind = pends lost n f move next m may.kind }

  pub waits_as_before : (n k next : ℕ) (move : Option Open) (w : Waiter) → WaiterFits n k next (Some o) move w → WaiterFits n k next (Some (record o { unsent = unsent; answers = answers })) move w
  waits_as_before n k next move w fits = record { some = fits.some; below = fits.below; by = fits.by; of_open = fits.of_open; of_move = fits.of_move }

  pub answers_as_before : (n : ℕ) (f : Plain) (a : Answer) → AnswerFits n f o a → AnswerFits n f (record o { unsent = unsent; answers = answers }) a
  answers_as_before n f a fits = record { target = fits.target; says = fits.says; goes_on = fits.goes_on; wrote = fits.wrote }

-- ITS FIRST MESSAGES

pub among_middle : {X : Type 0} (x : X) (front back : List X) → Among x (front ++ x ∷ back)
among_middle x [] back = inl refl
among_middle x (y ∷ front) back = inr (among_middle x front back)

-- and what is said of all is said of each
pub all_among : {X : Type 0} (P : X → Type 0) → (xs : List X) (x : X) → Among x xs → AllByRecursion P xs → P x
all_among P [] x among all = absurd among
all_among P (y ∷ ys) x (inl e) all = subst P (sym e) all.0
all_among P (y ∷ ys) x (inr among) all = all_among P ys x among all.1

-- each is from the issuer, and has the number
pub first_from : (by : Place) (number : OpNo) (asks : List Ask) (m : Message) → Among m (messages_of by number asks) → (m.from ≡ by) × (m.op ≡ number)
first_from by number [] m among = absurd among
first_from by number (a ∷ asks) m (inl e) = (ap (λ (m : Message). m.from) e, ap (λ (m : Message). m.op) e)
first_from by number (a ∷ asks) m (inr among) = first_from by number asks m among

pub issuer_there : (n : ℕ) (by : Place) → is_issuer by ≡ true → IsPlace n by
issuer_there n (Processor cpu) e = tt
issuer_there n (Memory m) e = cc e
issuer_there n Storage e = tt
issuer_there n Manager e = tt

pub issuer_apart : (to by : Place) → is_issuer to ≡ false → is_issuer by ≡ true → same_place to by ≡ false
issuer_apart (Processor cpu) by e f = cc e
issuer_apart (Memory m) (Processor cpu) e f = refl
issuer_apart (Memory m) (Memory k) e f = cc f
issuer_apart (Memory m) Storage e f = cc f
issuer_apart (Memory m) Manager e f = refl
issuer_apart Storage (Processor cpu) e f = refl
issuer_apart Storage (Memory k) e f = cc f
issuer_apart Storage Storage e f = cc f
issuer_apart Storage Manager e f = refl
issuer_apart Manager by e f = cc e

-- a message with an operation's number is no batch and no receipt
pub numbered_is_no_batch : (m : Message) → 0 < m.op.0 → (k : ℕ) → is_background k m ≡ false
numbered_is_no_batch m some k = ap (λ (b : Bool). b && (same_place m.from (memory k) || same_place m.to (memory k))) (not_zero m.op.0 some)
