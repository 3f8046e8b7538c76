-- A turn begins and ends.
use Rattle.std.proofs.Common.{◌≡◌, ◌∙◌, [], ◌∷◌, ℕ, Bool, Err, List, None, Ok, Option, Result, Some, ap, cond, eqb, false, refl, subst, sym, true}
use Rattle.lego_base.specs.declared.ids.CpuId.{CpuId}
use Rattle.lego_base.specs.declared.ids.Pid.{Pid}
use Rattle.lego_base.specs.declared.shape.Shape.{Shape}
use Rattle.lego_base.specs.declared.stops.Halt.{Halt}
use Rattle.lego_msg.proofs.Going.{ends_at}
use Rattle.lego_msg.specs.Marks.{Mark, Show, is_turn_end}
use Rattle.lego_msg.specs.Places.{is_issuer}
use Rattle.lego_msg.specs.Plain.{Plain}
use Rattle.lego_msg.specs.Track.{Track}
use Rattle.lego_msg.specs.Went.{Halted, Went}
use Rattle.lego_msg.specs.declared.event.Event.{Event}
use Rattle.lego_msg.specs.declared.event.Event.TheVariants.{Turn}
use Rattle.lego_msg.specs.declared.place.Place.{Place}
use Rattle.lego_msg.specs.declared.place.Place.TheVariants.{Manager, Processor}
use Rattle.linux_model.specs.Effects.{Begins}
use Rattle.placement.specs.Processors.{processor_with}
use Rattle.protocol_engine.specs.Beyond.{Beyond}
use Rattle.cluster.proofs.Calling.{not_kept}
use Rattle.cluster.specs.Performing.{TurnBegins, TurnEndHalts, TurnEnds as ClusterEnds, TurnHalts}
use Rattle.cluster.specs.Standing.{StandsFor}
use Rattle.cluster.specs.Whole.{Whole, track_at}
use Rattle.split_script.specs.Now.{Now}
use Rattle.ex_memory.proofs.Spaces.{SameSpaces, sound_same, space_same}
use Rattle.ex_memory.proofs.Standing.{one_plain}
use Rattle.ex_memory.specs.Did.{Does, Is}
use Rattle.ex_memory.specs.Seen.{caches_of, held_of, world}
use Rattle.ex_memory.specs.Sound.{FilesFit, InOrder, Sound}
use Rattle.ex_memory.specs.Split.{Split, plain_of}
use Rattle.ex_memory.specs.Turns.{TurnEnds}

-- a cluster that stands for the same plain map, with the same machine and owners
module _ (m : Split) (d : Whole) (stands : (f : Plain) → StandsFor m.whole f → StandsFor d f) (shape : d.shape ≡ m.whole.shape) (table : d.table ≡ m.whole.table) (sound : Sound m) where
  plain : plain_of d ≡ plain_of m.whole
  plain = sym (one_plain d (plain_of m.whole) (stands (plain_of m.whole) sound.rests))

  abbrev turned : Split
  turned = record m { whole = d }

  same : SameSpaces m turned
  same = record { caches = refl; table = table; shape = shape; homes = ap (λ (p : Plain). p.homes) plain; areas = ap (λ (p : Plain). p.areas) plain; page = ap (λ (p : Plain). p.page) plain }

  pub turned_held : held_of turned ≡ held_of m
  turned_held = λ i. record { space = space_same m turned same i; files = (plain i).files.files; names = (plain i).files.names; next = (plain i).files.next }

  pub turned_sound : Sound turned
  turned_sound = sound_same m turned same (subst (λ (p : Plain). FilesFit p.files.files) (sym plain) sound.files)
      (subst (StandsFor d) (sym plain) (stands (plain_of m.whole) sound.rests)) sound

  pub turned_is : (n : Now) → d.halt ≡ None → Is n m → Is n turned
  turned_is n goes is = record {
    goes = goes;
    shape = is.shape ∙ sym shape;
    held = is.held ∙ sym turned_held;
    by = is.by;
    owned = is.owned ∙ sym table;
    caches = is.caches;
  }

  -- the track there
  pub turned_ends : {W : Type 0} (told : W → Option (List Event)) (faults : W → ℕ) (w w' : W) (t : Track) (rest : List Mark) → Went told faults w w' t (track_at d (record { plain = plain_of m.whole; caches = caches_of m.caches; due = rest })) → Went told faults w w' t (world turned rest)
  turned_ends told faults w w' t rest went = ends_at told faults w w' t _ (world turned rest) (λ i. track_at d (record { plain = sym plain i; caches = caches_of m.caches; due = rest })) went

-- who issues makes no difference to what is sound
pub issued : (m : Split) (by : Place) → Sound m → Sound (record m { by = by })
issued m by sound = record {
  rests = sound.rests;
  homes = sound.homes;
  placed = sound.placed;
  user = sound.user;
  runs = sound.runs;
  files = sound.files;
  some = sound.some;
  count = sound.count;
  caches = λ cpu c at. record {
    tidy = (sound.caches cpu c at).tidy;
    counts = (sound.caches cpu c at).counts;
    lines = λ x line there. let fits = (sound.caches cpu c at).lines x line there in
        record { here = fits.here; user = fits.user; owned = fits.owned; mapped = fits.mapped; whole = fits.whole; clean = fits.clean };
  };
}

-- A TURN BEGINS
abbrev pub issuer_of : ℕ → CpuId → Place
issuer_of number cpu = cond (eqb number 0) Manager (Processor cpu)

pub issues : (number : ℕ) (cpu : CpuId) (by : Place) → by ≡ issuer_of number cpu → is_issuer by ≡ true
issues number cpu by is = ap is_issuer is ∙ either (eqb number 0)
  where
    either : (b : Bool) → is_issuer (cond b Manager (Processor cpu)) ≡ true
    either true = refl
    either false = refl

module _ {W : Type 0} (told : W → Option (List Event)) (faults : W → ℕ) (w w' : W) (m : Split) (d : Whole) where
  pub began : (number : ℕ) (pid : Pid) (cpu : CpuId) (by : Place) → InOrder m → ((f : Plain) → StandsFor m.whole f → StandsFor d f) → d.shape ≡ m.whole.shape → d.table ≡ m.whole.table → TurnBegins told faults w w' m.whole d (Turn number pid) →
      (m.whole.halt ≡ None) × (d.halt ≡ None) → by ≡ issuer_of number cpu → cpu.0 ≡ processor_with d.shape.processors pid.0 → Does {X = Unit {0}} told faults w w' m (record m { whole = d; by = by }) (Begins number pid.0 ∷ []) (Ok tt)
  began number pid cpu by order stands shape table went (on, goes) issuer is_cpu = record {
    ends = record {
      goes = record {
        went = λ n is rest. turned_ends m d stands shape table sound told faults w w' (world m (Show (Turn number pid) ∷ rest)) rest (went (record { plain = plain_of m.whole; caches = caches_of m.caches; due = rest }));
        is_then = λ n is. let then = turned_is m d stands shape table sound n goes is in record {
          goes = then.goes;
          shape = then.shape;
          held = then.held;
          by = ap (λ (k : ℕ). issuer_of number (record { 0 = k })) (ap (λ (s : Shape). processor_with s.processors pid.0) then.shape ∙ sym is_cpu) ∙ sym issuer;
          owned = then.owned;
          caches = then.caches;
        };
      };
      halts = tt;
      keeps = tt;
      kept = λ h kept. absurd (not_kept m.whole.halt h on kept);
      on = on;
    };
    led = turned_held m d stands shape table sound;
  }
    where
      sound : Sound m
      sound = order.sound on

  pub began_not : {X : Type 0} (number : ℕ) (pid : Pid) (h : Halt) → TurnHalts told faults w w' m.whole (Turn number pid) h → d.halt ≡ Some h → ((k : Halt) → m.whole.halt ≡ Some k → (◌≡◌ {A = Result X Halt} (Err h) (Err k)) × (d.halt ≡ Some k) × (w' ≡ w)) → Does {X = X} told faults w w' m (record m { whole = d }) (Begins number pid.0 ∷ []) (Err h)
  began_not number pid h halts keeps kept = record {
    ends = record {
      goes = tt;
      halts = λ n is rest. halts is.goes (record { plain = plain_of m.whole; caches = caches_of m.caches; due = rest });
      keeps = keeps;
      kept = kept;
      on = tt;
    };
    led = tt;
  }

  -- and ends
  pub ended : InOrder m → ((f : Plain) → StandsFor m.whole f → StandsFor d f) → d.shape ≡ m.whole.shape → d.table ≡ m.whole.table → ClusterEnds told faults w w' m.whole d → (m.whole.halt ≡ None) × (d.halt ≡ None) → TurnEnds {X = Unit {0}} told faults w w' m (record m { whole = d }) (Ok tt)
  ended order stands shape table went (on, goes) = record {
    went = λ rest last. turned_ends m d stands shape table (order.sound on) told faults w w' (world m rest) rest (went (record { plain = plain_of m.whole; caches = caches_of m.caches; due = rest }) last);
    is_then = λ n is. turned_is m d stands shape table (order.sound on) n goes is;
    halts = tt;
    keeps = tt;
    kept = λ h kept. absurd (not_kept m.whole.halt h on kept);
  }

  pub ended_not : {X : Type 0} (h : Halt) → TurnEndHalts told faults w w' m.whole h → d.halt ≡ Some h → ((k : Halt) → m.whole.halt ≡ Some k → (◌≡◌ {A = Result X Halt} (Err h) (Err k)) × (d.halt ≡ Some k) × (w' ≡ w)) → TurnEnds {X = X} told faults w w' m (record m { whole = d }) (Err h)
  ended_not h halts keeps kept = record {
    went = tt;
    is_then = tt;
    halts = λ on rest last. halts on (record { plain = plain_of m.whole; caches = caches_of m.caches; due = rest }) last;
    keeps = keeps;
    kept = kept;
  }

-- the cluster is in order in either case
pub turned_order : (m : Split) (d : Whole) (by : Place) → is_issuer by ≡ true → InOrder m → ((f : Plain) → StandsFor m.whole f → StandsFor d f) → d.shape ≡ m.whole.shape → d.table ≡ m.whole.table → m.whole.halt ≡ None → InOrder (record m { whole = d; by = by })
turned_order m d by issuer order stands shape table on = record {
  issuer = issuer;
  sound = λ none. issued (record m { whole = d }) by (turned_sound m d stands shape table (order.sound on));
}

-- as a caller sees it
pub ended_at : {W X : Type 0} (told : W → Option (List Event)) (faults : W → ℕ) (w w' : W) (m k m' : Split) (result : Result X Halt) → m ≡ k → TurnEnds told faults w w' m m' result → TurnEnds told faults w w' k m' result
ended_at told faults w w' m k m' result same ends = subst (λ (x : Split). TurnEnds told faults w w' x m' result) same ends
