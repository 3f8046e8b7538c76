-- A turn begins and ends at rest.
use Rattle.std.proofs.Common.{◌≡◌, ◌∙◌, [], ◌∷◌, ℕ, List, None, Option, ap, refl, subst, sym, true}
use Rattle.healing_laws.proofs.Calling.{marks-are-playable, none_all}
use Rattle.healing_laws.proofs.Events.{every-list-ends-at-rest}
use Rattle.healing_laws.specs.Playing.{CallsNone}
use Rattle.healing_laws.specs.Running.{IsOver}
use Rattle.lego_base.specs.declared.stops.Halt.{Halt}
use Rattle.lego_msg.specs.Marks.{Show}
use Rattle.lego_msg.specs.Files.{no_files}
use Rattle.lego_msg.specs.Plain.{Plain, no_plain}
use Rattle.lego_msg.specs.Track.{Track, is_calm}
use Rattle.lego_msg.specs.Went.{Went}
use Rattle.lego_msg.specs.declared.event.Event.{Event}
use Rattle.lego_rest.proofs.Resting.{rest-is-of-components}
use Rattle.lego_rest.specs.Rest.{AtRest}
use Rattle.protocol_engine.specs.Beyond.{Beyond, nothing_cached}
use Rattle.protocol_engine.specs.Sound.{Sound}
use Rattle.protocol_engine.specs.Steps.{Rests}
use Rattle.protocol_engine.specs.Tracks.{SameMachine, track_of}
use Rattle.protocol_engine.specs.Turns.{IsSoundEnd, IsSoundShow, shown_track}
use Rattle.protocol_engine.specs.Ways.{Ends, Shows}
use Rattle.protocol_engine.specs.declared.engine.Engine.{Engine}
use Rattle.cluster.proofs.Idle.{idle_along}
use Rattle.cluster.proofs.Wholes.{same_track}
use Rattle.cluster.specs.InOrder.{whole_of}
use Rattle.cluster.specs.Standing.{IsAtRest, StandsFor, alone}
use Rattle.cluster.specs.Whole.{Whole, shown_at, track_at}

shown_rests : (w : Whole) (e : Event) (f : Plain) → StandsFor w f → AtRest (shown_at w e (alone f))
shown_rests w e f stands = rest-is-of-components (track_at w (alone f)) (Show e ∷ []) nothing_cached stands

same_shown : (c : Engine) (h : Option Halt) (e : Event) (g : Beyond) → Rests c → shown_at (whole_of c h) e g ≡ shown_track c e g
same_shown c h e g rests = λ i. record (same_track c h g rests i) { due = Show e ∷ g.due }

pub sound_show : (c : Engine) (h : Option Halt) (e : Event) → Rests c → IsAtRest (whole_of c h) → IsSoundShow c e
sound_show c h e rests at = record {
  beyond = alone at.0;
  sound = subst Sound (same_shown c h e (alone at.0) rests) (λ es legal. marks-are-playable (shown_at (whole_of c h) e (alone at.0)) es (shown_rests (whole_of c h) e at.0 at.1) tt legal);
}

pub calm_at : (c : Engine) (h : Option Halt) → Rests c → (g : Beyond) → is_calm (track_at (whole_of c h) g) ≡ true
calm_at c h rests g = ap is_calm (same_track c h g rests) ∙ rests.1 g

pub sound_end : (c : Engine) (h : Option Halt) → Rests c → IsAtRest (whole_of c h) → IsSoundEnd c
sound_end c h rests at = record {
  beyond = alone at.0;
  over = refl;
  sound = subst Sound (same_track c h (alone at.0) rests) (λ es legal. marks-are-playable (track_at (whole_of c h) (alone at.0)) es at.1 tt legal);
}

module _ {W : Type 0} (told : W → Option (List Event)) (faults : W → ℕ) (w w' : W) where
  ends_at_rest : (t : Track) (d : Whole) (f : Plain) → AtRest t → CallsNone t.due → Went told faults w w' t (track_at d (alone f)) → StandsFor d f
  ends_at_rest t d f rests none went = subst AtRest went.ends
      (every-list-ends-at-rest t went.events rests went.legal (none_all t went.events none) (subst IsOver (sym went.ends) (record { closed = refl; healed = refl; goes_on = refl })))

  pub show_stands : (c d : Engine) (h k : Option Halt) (e : Event) → Rests c → Rests d → Shows told faults w w' c d e → (f : Plain) → StandsFor (whole_of c h) f → StandsFor (whole_of d k) f
  show_stands c d h k e before after_ shows f stands =
      ends_at_rest (shown_at (whole_of c h) e (alone f)) (whole_of d k) f (shown_rests (whole_of c h) e f stands) tt
      (subst (λ (t : Track). Went told faults w w' t (track_at (whole_of d k) (alone f))) (sym (same_shown c h e (alone f) before))
      (subst (λ (t : Track). Went told faults w w' (shown_track c e (alone f)) t) (sym (same_track d k (alone f) after_)) (shows (alone f))))

  pub end_stands : (c d : Engine) (h k : Option Halt) → Rests c → Rests d → Ends told faults w w' c d → (f : Plain) → StandsFor (whole_of c h) f → StandsFor (whole_of d k) f
  end_stands c d h k before after_ ends f stands =
      ends_at_rest (track_at (whole_of c h) (alone f)) (whole_of d k) f stands tt
      (subst (λ (t : Track). Went told faults w w' t (track_at (whole_of d k) (alone f))) (sym (same_track c h (alone f) before))
      (subst (λ (t : Track). Went told faults w w' (track_of c (alone f)) t) (sym (same_track d k (alone f) after_)) (ends (alone f) refl)))

  -- the table of owners stays
  kept_table : (c d : Engine) (t : Track) (h k : Option Halt) → t.owners ≡ c.table.owners → t.current ≡ None → CallsNone t.due → (f : Plain) → Went told faults w w' t (track_of d (alone f)) → SameMachine c d → d.table ≡ c.table
  kept_table c d t h k same closed none f went machine =
      let idle = idle_along c.table.owners t went.events went.legal (record { same = same; closed = closed; none = none }) in
      let owners : d.table.owners ≡ c.table.owners = ap (λ (x : Track). x.owners) (sym went.ends) ∙ idle.same in
      λ i. record { owners = owners i; memories = machine.count i; placement = machine.placement i; given = machine.given i }

  pub show_table : (c d : Engine) (h k : Option Halt) (e : Event) → Rests c → Shows told faults w w' c d e → SameMachine c d → d.table ≡ c.table
  show_table c d h k e before shows machine =
      let f : Plain = no_plain (no_files 0) in
      kept_table c d (shown_at (whole_of c h) e (alone f)) h k refl refl tt f
      (subst (λ (t : Track). Went told faults w w' t (track_of d (alone f))) (sym (same_shown c h e (alone f) before)) (shows (alone f))) machine

  pub end_table : (c d : Engine) (h k : Option Halt) → Rests c → Ends told faults w w' c d → SameMachine c d → d.table ≡ c.table
  end_table c d h k before ends machine =
      let f : Plain = no_plain (no_files 0) in
      kept_table c d (track_at (whole_of c h) (alone f)) h k refl refl tt f
      (subst (λ (t : Track). Went told faults w w' t (track_of d (alone f))) (sym (same_track c h (alone f) before)) (ends (alone f) refl)) machine
