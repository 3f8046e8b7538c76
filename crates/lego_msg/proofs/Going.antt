-- What was shown by one step and then by another was shown by both.
use Rattle.std.proofs.Common.{◌≡◌, [], ◌∷◌, ◌++◌, ◌∙◌, ℕ, List, Option, ap, refl, subst, sym}
use Rattle.lego_base.specs.declared.shape.Shape.{Shape}
use Rattle.lego_base.specs.declared.stops.Halt.{Halt}
use Rattle.lego_msg.proofs.Flow.{shape_along}
use Rattle.lego_msg.proofs.Lists.{Legal-append, run-append}
use Rattle.lego_msg.proofs.ShownLaws.{shown-none, shown-then}
use Rattle.lego_msg.specs.Legal.{Legal, May}
use Rattle.lego_msg.specs.Run.{after, run}
use Rattle.lego_msg.specs.Track.{Track}
use Rattle.lego_msg.specs.Watching.{ShownTo}
use Rattle.lego_msg.specs.Went.{Came, Delivers, EndsIn, Halted, HasCause, StepsCompose, Stopped, Went}
use Rattle.lego_msg.specs.declared.event.Event.{Event}
use Rattle.lego_base.specs.declared.stops.Halt.TheVariants as halt

ends_later : (P : Event → Type 0) (es fs : List Event) → EndsIn P fs → EndsIn P (es ++ fs)
ends_later P [] fs ends = ends
ends_later P (e ∷ []) [] ends = absurd ends
ends_later P (e ∷ []) (f ∷ fs) ends = ends
ends_later P (e ∷ x ∷ es) fs ends = ends_later P (x ∷ es) fs ends

cause_later : (shape : Shape) (h : Halt) (es fs : List Event) → HasCause shape h fs → HasCause shape h (es ++ fs)
cause_later shape (halt.Full number frames) es fs cause = ends_later (Delivers shape (halt.Full number frames)) es fs cause
cause_later shape (halt.StoreFull blocks) es fs cause = ends_later (Delivers shape (halt.StoreFull blocks)) es fs cause
cause_later shape halt.NoMemory es fs cause = tt

module _ {W : Type 0} (told : W → Option (List Event)) (faults : W → ℕ) where
  -- nothing happened
  pub stays : (w : W) (t : Track) → Went told faults w w t t
  stays w t = record { events = []; shown = shown-none (told w) (faults w); legal = tt; ends = refl }

  -- one event
  pub one_event : (w w' : W) (t : Track) (e : Event) → ShownTo told faults w w' (e ∷ []) → May t e → Went told faults w w' t (after t e)
  one_event w w' t e shown may = record { events = e ∷ []; shown = shown; legal = (may, tt); ends = refl }

  pub came_went : (w w' : W) (t t' : Track) → Came told faults w w' t t' → Went told faults w w' t t'
  came_went w w' t t' came = record { events = came.event ∷ []; shown = came.shown; legal = (came.may, tt); ends = came.ends }

  -- one step and then another
  pub went-then : (w w' w'' : W) (t t' t'' : Track) → Went told faults w w' t t' → Went told faults w' w'' t' t'' → Went told faults w w'' t t''
  went-then w w' w'' t t' t'' first second = record {
    events = first.events ++ second.events;
    shown = shown-then (told w) (told w') (told w'') (faults w) (faults w') (faults w'') first.events second.events first.shown second.shown;
    legal = Legal-append t first.events second.events first.legal (subst (λ (t : Track). Legal t second.events) (sym first.ends) second.legal);
    ends = run-append t first.events second.events ∙ ap (λ (t : Track). run t second.events) first.ends ∙ second.ends;
  }

  -- a step, and then one that stopped
  pub went_stopped : (w w' w'' : W) (t t' : Track) → Went told faults w w' t t' → Stopped told faults w' w'' t' → Stopped told faults w w'' t
  went_stopped w w' w'' t t' first second = record {
    events = first.events ++ second.events;
    shown = shown-then (told w) (told w') (told w'') (faults w) (faults w') (faults w'') first.events second.events first.shown second.shown;
    legal = Legal-append t first.events second.events first.legal (subst (λ (t : Track). Legal t second.events) (sym first.ends) second.legal);
  }

  -- a step, and then one that halted
  pub went_halted : (w w' w'' : W) (h : Halt) (t t' : Track) → Went told faults w w' t t' → Halted told faults w' w'' h t' → Halted told faults w w'' h t
  went_halted w w' w'' h t t' first second =
      let shape : t'.shape ≡ t.shape = ap (λ (t : Track). t.shape) (sym first.ends) ∙ shape_along t first.events first.legal in
      record {
        events = first.events ++ second.events;
        shown = shown-then (told w) (told w') (told w'') (faults w) (faults w') (faults w'') first.events second.events first.shown second.shown;
        legal = Legal-append t first.events second.events first.legal (subst (λ (t : Track). Legal t second.events) (sym first.ends) second.legal);
        cause = cause_later t.shape h first.events second.events (subst (λ (s : Shape). HasCause s h second.events) shape second.cause);
      }

  pub halted_stopped : (w w' : W) (h : Halt) (t : Track) → Halted told faults w w' h t → Stopped told faults w w' t
  halted_stopped w w' h t halted = record { events = halted.events; shown = halted.shown; legal = halted.legal }

  pub stopped_halted : (w w' : W) (t : Track) → Stopped told faults w w' t → Halted told faults w w' halt.NoMemory t
  stopped_halted w w' t stopped = record { events = stopped.events; shown = stopped.shown; legal = stopped.legal; cause = tt }

  -- a step, as far as it went
  pub went_happened : (w w' : W) (t t' : Track) → Went told faults w w' t t' → Stopped told faults w w' t
  went_happened w w' t t' went = record { events = went.events; shown = went.shown; legal = went.legal }

  -- the tracks of a step, by equations
  pub ends_at : (w w' : W) (t t' t'' : Track) → t' ≡ t'' → Went told faults w w' t t' → Went told faults w w' t t''
  ends_at w w' t t' t'' e went = record { events = went.events; shown = went.shown; legal = went.legal; ends = went.ends ∙ e }

  pub starts_at : (w w' : W) (s t t' : Track) → s ≡ t → Went told faults w w' s t' → Went told faults w w' t t'
  starts_at w w' s t t' e went = subst (λ (t : Track). Went told faults w w' t t') e went

  pub steps-compose : StepsCompose told faults
  steps-compose = record {
    none = stays;
    one = came_went;
    way = went-then;
    stop = went_stopped;
    halting = went_halted;
    halts = halted_stopped;
    lacks = stopped_halted;
  }
