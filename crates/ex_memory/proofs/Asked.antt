-- Operations that make no difference to caches: they are asked for one after the other, and the plain map becomes what they
-- make of it.
use Rattle.std.proofs.Common.{◌≡◌, ◌∙◌, [], ◌∷◌, ℕ, Bool, Err, List, None, Ok, Option, Result, Some, ap, false, refl, subst, sym, true}
use Rattle.std.proofs.lemmas.Bool.{false≢true}
use Rattle.lego_base.specs.declared.records.HomeEntry.{HomeEntry}
use Rattle.lego_base.specs.declared.stops.Halt.{Halt}
use Rattle.lego_msg.proofs.Going.{ends_at}
use Rattle.lego_msg.specs.Marks.{Mark}
use Rattle.lego_msg.specs.Plain.{Plain, effect}
use Rattle.lego_msg.specs.Sends.{FitsCaches}
use Rattle.lego_msg.specs.Track.{Caches, Filled, Track}
use Rattle.lego_msg.specs.Went.{Halted, Went}
use Rattle.lego_msg.specs.declared.body.Body.{Body}
use Rattle.lego_msg.specs.declared.body.Body.TheVariants.{Done}
use Rattle.lego_msg.specs.declared.event.Event.{Event}
use Rattle.lego_msg.specs.declared.operation.Operation.{Operation}
use Rattle.lego_msg.specs.declared.operation.Operation.TheVariants.{Reads, Writes}
use Rattle.lego_msg.specs.declared.place.Place.{Place}
use Rattle.placement.specs.Owners.{Owned}
use Rattle.protocol_engine.specs.Beyond.{Beyond}
use Rattle.cluster.proofs.Progress.{first_ends, first_halts}
use Rattle.cluster.specs.Calls.{Calls, caches_after, served}
use Rattle.cluster.specs.Sequences.{AllGranted, Asking, CachesFit, CallsEach, MayComeAll, ReadsNoLine, ServesEach, all_asked_at, called_for, effects_of, free, served_each}
use Rattle.cluster.specs.Standing.{StandsFor}
use Rattle.cluster.specs.Whole.{Whole, track_at}
use Rattle.split_script.specs.Now.{Now}
use Rattle.ex_memory.proofs.Standing.{one_plain}
use Rattle.ex_memory.specs.Did.{Ends, Goes, Halts, Is}
use Rattle.ex_memory.specs.Seen.{caches_of, world}
use Rattle.ex_memory.specs.Sound.{Sound}
use Rattle.ex_memory.specs.Split.{Split, plain_of}

-- whether an operation neither reads nor writes bytes of pages
abbrev pub is_apart : Operation → Bool
is_apart (Reads pid line owner) = false
is_apart (Writes origin patch owner) = false
is_apart other = true

abbrev pub AllApart : List Asking → Type 0
AllApart [] = Unit {0}
AllApart (a ∷ asks) = (is_apart a.operation ≡ true) × AllApart asks

apart-fits : (by : Place) (caches : Caches) (o : Operation) → is_apart o ≡ true → FitsCaches caches by o
apart-fits by caches (Reads pid line owner) e = absurd (false≢true e)
apart-fits by caches (Writes origin patch owner) e = absurd (false≢true e)
apart-fits by caches other e = tt

apart-stays : (by : Place) (o : Operation) (caches : Caches) → is_apart o ≡ true → caches_after by o Done caches ≡ caches
apart-stays by (Reads pid line owner) caches e = absurd (false≢true e)
apart-stays by (Writes origin patch owner) caches e = absurd (false≢true e)
apart-stays by other caches e = refl

pub apart-reads-none : (o : Operation) → is_apart o ≡ true → ReadsNoLine o
apart-reads-none (Reads pid line owner) e = absurd (false≢true e)
apart-reads-none (Writes origin patch owner) e = absurd (false≢true e)
apart-reads-none other e = tt

pub apart-cached : (by : Place) (asks : List Asking) (caches : Caches) → AllApart asks → CachesFit caches by asks
apart-cached by [] caches all = tt
apart-cached by (a ∷ asks) caches (one, all) = (apart-fits by caches a.operation one, apart-cached by asks (caches_after by a.operation Done (record caches { filled = None })) all)

pub apart-served : (by : Place) (asks : List Asking) (g : Beyond) → g.caches.filled ≡ None → AllApart asks → served_each by asks g ≡ record g { plain = effects_of asks g.plain }
apart-served by [] g none all = refl
apart-served by (a ∷ asks) g none (one, all) =
    let caches : caches_after by a.operation Done (record g.caches { filled = None }) ≡ g.caches =
    apart-stays by a.operation (record g.caches { filled = None }) one ∙ (λ i. record g.caches { filled = sym none i }) in
    let first : served by a.operation Done g ≡ record g { plain = effect a.operation g.plain } = λ i. record g { plain = effect a.operation g.plain; caches = caches i } in
    ap (served_each by asks) first ∙ apart-served by asks (record g { plain = effect a.operation g.plain }) none all

module _ {W : Type 0} (told : W → Option (List Event)) (faults : W → ℕ) where
  -- a call of one operation is one of a list
  pub one_call : {X : Type 0} (w w' : W) (c d : Whole) (by : Place) (o : Operation) (body : X → Body) (result : Result X Halt) → ReadsNoLine o → Calls told faults w w' c d by o body result → CallsEach c.table told faults w w' c d by (free o ∷ []) (λ (x : X). served_each by (free o ∷ [])) result
  one_call w w' c d by o body (Ok x) none calls =
      let so = first_ends told faults c.table w w' c d by (free o) body x none calls in
      record { serves = so.serves; turns = so.turns; halted = tt; kept = λ h is. absurd (kept_is h ((calls.kept h is).0)); keeps = tt; goes = calls.goes }
    where
      kept_is : (h : Halt) → Ok x ≡ Err h → ⊥
      kept_is h e = cc e
  one_call w w' c d by o body (Err h) none calls = first_halts told faults c.table w w' c d by (free o) [] body _ h calls

  -- where the operations are asked for, and where they are complete
  module _ (w w' : W) (m : Split) (d : Whole) (asks : List Asking) (apart : AllApart asks) where
    abbrev at : List Mark → Beyond
    at rest = record { plain = plain_of m.whole; caches = caches_of m.caches; due = rest }

    may : (rest : List Mark) → MayComeAll m.whole m.by asks (at rest) false
    may rest = record { caches = apart-cached m.by asks (caches_of m.caches) apart; late_enough = refl }

    pub asked_went : ServesEach told faults w w' m.whole d m.by asks (served_each m.by asks) → effects_of asks (plain_of m.whole) ≡ plain_of d → (rest : List Mark) →
        Went told faults w w' (world m (called_for m.by false asks rest)) (world (record m { whole = d }) rest)
    asked_went serves is rest =
        let there : served_each m.by asks (at rest) ≡ record { plain = plain_of d; caches = caches_of m.caches; due = rest } =
        apart-served m.by asks (at rest) refl apart ∙ (λ i. record (at rest) { plain = is i }) in
        ends_at told faults w w' (world m (called_for m.by false asks rest)) (track_at d (served_each m.by asks (at rest))) (world (record m { whole = d }) rest) (ap (track_at d) there)
        (serves.went (at rest) false (may rest))

    pub asked_halts : (h : Halt) → ((g : Beyond) → MayComeAll m.whole m.by asks g false → Halted told faults w w' h (all_asked_at m.whole m.by asks g false)) → (rest : List Mark) → Halted told faults w w' h (world m (called_for m.by false asks rest))
    asked_halts h halts rest = halts (at rest) (may rest)

    -- the plain map then
    pub asked_plain : ServesEach told faults w w' m.whole d m.by asks (served_each m.by asks) → AllGranted m.whole (plain_of m.whole) m.by asks → effects_of asks (plain_of m.whole) ≡ plain_of d
    asked_plain serves granted = one_plain d (effects_of asks (plain_of m.whole)) (serves.stands (plain_of m.whole) granted)

    pub asked_stands : ServesEach told faults w w' m.whole d m.by asks (served_each m.by asks) → AllGranted m.whole (plain_of m.whole) m.by asks → StandsFor d (plain_of d)
    asked_stands serves granted = subst (StandsFor d) (asked_plain serves granted) (serves.stands (plain_of m.whole) granted)
