-- How calls end whose operations leave spaces as they are.
use Rattle.std.proofs.Common.{◌≡◌, ◌∙◌, ◌⊎◌, [], ◌∷◌, ℕ, Bool, Err, List, None, Ok, Option, Result, Some, ap, false, inl, inr, refl, subst, sym, true}
use Rattle.lego_base.specs.declared.records.HomeEntry.{HomeEntry}
use Rattle.lego_base.specs.declared.stops.Halt.{Halt}
use Rattle.lego_base.specs.declared.stops.Halt.TheVariants as halt
use Rattle.lego_msg.proofs.Going.{stays, stopped_halted, went_happened}
use Rattle.lego_msg.specs.Files.{Files}
use Rattle.lego_msg.specs.Marks.{Mark}
use Rattle.lego_msg.specs.Plain.{Plain, with_files}
use Rattle.lego_msg.specs.Track.{Track}
use Rattle.lego_msg.specs.Went.{Halted, Went}
use Rattle.lego_msg.specs.declared.event.Event.{Event}
use Rattle.linux_model.specs.Effects.{Effect}
use Rattle.linux_model.specs.Held.{Held, held_after}
use Rattle.placement.specs.Owners.{Owned}
use Rattle.cluster.proofs.Calling.{not_kept}
use Rattle.cluster.proofs.Progress.{same_halt}
use Rattle.cluster.specs.Sequences.{AllGranted, Asking, CallsEach, ServesEach, called_for, effects_of, owners_after_all, served_each}
use Rattle.cluster.specs.Whole.{SameTurns, Whole, or_out_of_memory}
use Rattle.split_script.specs.Now.{Now}
use Rattle.split_script.specs.Script.{all_passed, marks, passed, script}
use Rattle.ex_memory.proofs.Asked.{AllApart, asked_halts, asked_plain, asked_stands, asked_went}
use Rattle.ex_memory.proofs.Spaces.{SameSpaces, sound_same, space_same}
use Rattle.ex_memory.specs.Did.{Does, Ends, Goes, Halts, Is}
use Rattle.ex_memory.specs.FileCalls.{Lacks, filed}
use Rattle.ex_memory.specs.Seen.{held_of, world}
use Rattle.ex_memory.specs.Sound.{FilesFit, InOrder, Sound}
use Rattle.ex_memory.specs.Split.{Split, plain_of}

table_same : (t t' : Owned) → SameTurns t t' → t'.owners ≡ t.owners → t' ≡ t
table_same t t' turns owners = λ i. record { owners = owners i; memories = turns.memories i; placement = turns.placement i; given = turns.given i }

-- a call that isn't an error of the same
not_error : {X : Type 0} (x : X) (h : Halt) → Ok x ≡ Err h → ⊥
not_error x h e = cc e

-- what the effect is of what is held and of the script
pub record IsOfFiles (m : Split) (asks : List Asking) (e : Effect) (f : Files) : Type 0 where
  pub apart : AllApart asks
  pub plain : effects_of asks (plain_of m.whole) ≡ with_files f (plain_of m.whole)
  pub owners : owners_after_all asks m.whole.table.owners ≡ m.whole.table.owners
  pub beside : (n : Now) → passed n e ≡ record n { held = held_after e n.held }
  pub marks_are : (n : Now) → Is n m → (rest : List Mark) → marks n e rest ≡ called_for m.by false asks rest
  pub held : held_after e (held_of m) ≡ filed f (held_of m)
  pub form : FilesFit m.whole.disk.files.files → FilesFit f.files

-- the effect was done, and the cluster that is left is sound
pub record Filed {W X : Type 0} (told : W → Option (List Event)) (faults : W → ℕ) (w w' : W) (m : Split) (d : Whole) (e : Effect) (result : Result X Halt) : Type 0 where
  pub does : Does told faults w w' m (record m { whole = d }) (e ∷ []) result
  pub fits : d.halt ≡ None → Sound (record m { whole = d })

-- as a caller sees it, whose value is the same
pub filed_at : {W X : Type 0} (told : W → Option (List Event)) (faults : W → ℕ) (w w' : W) (m k : Split) (d : Whole) (e : Effect) (result : Result X Halt) → m ≡ k → Filed told faults w w' m d e result → Does told faults w w' k (record m { whole = d }) (e ∷ []) result
filed_at told faults w w' m k d e result same filed = subst (λ (x : Split). Does told faults w w' x (record m { whole = d }) (e ∷ []) result) same filed.does

-- and whose effect is
pub filed_as : {W X : Type 0} (told : W → Option (List Event)) (faults : W → ℕ) (w w' : W) (m k : Split) (d : Whole) (e e' : Effect) (result : Result X Halt) → m ≡ k → e ≡ e' → Filed told faults w w' m d e result → Does told faults w w' k (record m { whole = d }) (e' ∷ []) result
filed_as told faults w w' m k d e e' result same is filed = subst (λ (x : Effect). Does told faults w w' k (record m { whole = d }) (x ∷ []) result) is (filed_at told faults w w' m k d e result same filed)

pub filed_order : {W X : Type 0} (told : W → Option (List Event)) (faults : W → ℕ) (w w' : W) (m : Split) (d : Whole) (e : Effect) (result : Result X Halt) → InOrder m → Filed told faults w w' m d e result → InOrder (record m { whole = d })
filed_order told faults w w' m d e result order filed = record { issuer = order.issuer; sound = filed.fits }

module _ {W : Type 0} (told : W → Option (List Event)) (faults : W → ℕ) (w w' : W) (m : Split) (d : Whole) (asks : List Asking) (e : Effect) (f : Files) where
  abbrev then_ : Split
  then_ = record m { whole = d }

  module _ (of : m.whole.halt ≡ None → IsOfFiles m asks e f) (sound : m.whole.halt ≡ None → Sound m) (granted : m.whole.halt ≡ None → AllGranted m.whole (plain_of m.whole) m.by asks) where
    module _ (serves : ServesEach told faults w w' m.whole d m.by asks (served_each m.by asks)) (turns : SameTurns m.whole.table d.table) (goes : m.whole.halt ≡ None) (on : d.halt ≡ None) where
      plain : plain_of d ≡ with_files f (plain_of m.whole)
      plain = sym (asked_plain told faults w w' m d asks (of goes).apart serves (granted goes)) ∙ (of goes).plain

      same : SameSpaces m then_
      same = record {
        caches = refl;
        table = table_same m.whole.table d.table turns (serves.owners ∙ (of goes).owners);
        shape = serves.shape;
        homes = ap (λ (p : Plain). p.homes) plain;
        areas = ap (λ (p : Plain). p.areas) plain;
        page = ap (λ (p : Plain). p.page) plain;
      }

      held_then : held_of then_ ≡ filed f (held_of m)
      held_then = λ i. record { space = space_same m then_ same i; files = (plain i).files.files; names = (plain i).files.names; next = (plain i).files.next }

      sound_then : Sound then_
      sound_then = sound_same m then_ same (subst (λ (p : Plain). FilesFit p.files.files) (sym plain) ((of goes).form (sound goes).files)) (asked_stands told faults w w' m d asks (of goes).apart serves (granted goes)) (sound goes)

      goes_over : Goes told faults w w' m then_ (λ n rest. marks n e rest) (λ n. passed n e)
      goes_over = record {
        went = λ n is rest. subst (λ (due : List Mark). Went told faults w w' (world m due) (world then_ rest)) (sym ((of goes).marks_are n is rest))
            (asked_went told faults w w' m d asks (of goes).apart serves (asked_plain told faults w w' m d asks (of goes).apart serves (granted goes)) rest);
        is_then = λ n is. subst (λ (k : Now). Is k then_) (sym ((of goes).beside n)) (record {
          goes = on;
          shape = is.shape ∙ sym serves.shape;
          held = ap (held_after e) is.held ∙ (of goes).held ∙ sym held_then;
          by = is.by;
          owned = is.owned ∙ sym same.table;
          caches = is.caches;
        });
      }

    pub files_end : {X : Type 0} (result : Result X Halt) → CallsEach m.whole.table told faults w w' m.whole d m.by asks (λ (x : X). served_each m.by asks) result → Filed told faults w w' m d e result
    files_end (Ok x) calls = record {
      does = record {
        ends = record {
          goes = goes_over calls.serves calls.turns calls.goes.0 calls.goes.1;
          halts = tt;
          keeps = tt;
          kept = λ h is. absurd (not_error x h (calls.kept h is).0);
          on = calls.goes.0;
        };
        led = held_then calls.serves calls.turns calls.goes.0 calls.goes.1 ∙ sym (of calls.goes.0).held;
      };
      fits = λ none. sound_then calls.serves calls.turns calls.goes.0 calls.goes.1;
    }
    files_end (Err h) calls = record {
      does = record {
        ends = record {
          goes = tt;
          halts = λ n is rest. subst (λ (due : List Mark). Halted told faults w w' h (world m due)) (sym ((of is.goes).marks_are n is rest))
              (asked_halts told faults w w' m d asks (of is.goes).apart h (λ g may. calls.halted is.goes g false may) rest);
          keeps = calls.keeps;
          kept = calls.kept;
          on = tt;
        };
        led = tt;
      };
      fits = λ none. absurd (not_kept d.halt h none calls.keeps);
    }

    -- once they are complete memory runs out for the answer
    pub then_lacks : {X Y : Type 0} (x : X) (m'' : Split) → CallsEach m.whole.table told faults w w' m.whole d m.by asks (λ (x : X). served_each m.by asks) (Ok x) → m'' ≡ record m { whole = record d { halt = or_out_of_memory d.halt } } → Does {X = Y} told faults w w' m m'' (e ∷ []) (Err halt.NoMemory)
    then_lacks x m'' calls is = record {
      ends = record {
        goes = tt;
        halts = λ n at rest. stopped_halted told faults w w' (world m (marks n e rest))
            (went_happened told faults w w' (world m (marks n e rest)) (world then_ rest) ((goes_over calls.serves calls.turns calls.goes.0 calls.goes.1).went n at rest));
        keeps = ap (λ (k : Split). k.whole.halt) is ∙ ap or_out_of_memory calls.goes.1;
        kept = λ h at. absurd (not_kept m.whole.halt h calls.goes.0 at);
        on = tt;
      };
      led = tt;
    }

-- NOTHING WAS DONE: memory ran out, or a halt was kept
module _ {W : Type 0} (told : W → Option (List Event)) (faults : W → ℕ) where
  pub lacks_end : {X : Type 0} (w : W) (m m' : Split) (marks : Now → List Mark → List Mark) (passes : Now → Now) (h : Halt) → Lacks m m' h → Ends {X = X} told faults w w m m' marks passes (Err h)
  lacks_end w m m' marks passes h lacks = record {
    goes = tt;
    halts = λ n is rest. by lacks.why is.goes (world m (marks n rest));
    keeps = ap (λ (x : Split). x.whole.halt) lacks.same;
    kept = λ k at. (ap (λ (x : Halt). Err x) (again lacks.why k at), ap (λ (x : Split). x.whole.halt) lacks.same ∙ ap Some (again lacks.why k at), refl);
    on = tt;
  }
    where
      by : (m.whole.halt ≡ Some h) ⊎ ((m.whole.halt ≡ None) × (h ≡ halt.NoMemory)) → m.whole.halt ≡ None → (t : Track) → Halted told faults w w h t
      by (inl kept) none t = absurd (not_kept m.whole.halt h none kept)
      by (inr (none, is)) goes t = subst (λ (k : Halt). Halted told faults w w k t) (sym is) (stopped_halted told faults w w t (went_happened told faults w w t t (stays told faults w t)))

      again : (m.whole.halt ≡ Some h) ⊎ ((m.whole.halt ≡ None) × (h ≡ halt.NoMemory)) → (k : Halt) → m.whole.halt ≡ Some k → h ≡ k
      again (inl kept) k at = same_halt h k (sym kept ∙ at)
      again (inr (none, is)) k at = absurd (not_kept m.whole.halt k none at)

  pub lacks_does : {X : Type 0} (w : W) (m m' : Split) (es : List Effect) (h : Halt) → Lacks m m' h → Does {X = X} told faults w w m m' es (Err h)
  lacks_does w m m' es h lacks = record { ends = lacks_end w m m' (λ n. script n es) (λ n. all_passed n es) h lacks; led = tt }

-- THE SAME, with another value
pub valued : {W X Y : Type 0} (told : W → Option (List Event)) (faults : W → ℕ) (w w' : W) (m m' : Split) (es : List Effect) (x : X) (y : Y) → Does {X = X} told faults w w' m m' es (Ok x) → Does {X = Y} told faults w w' m m' es (Ok y)
valued told faults w w' m m' es x y does = record {
  ends = record { goes = does.ends.goes; halts = tt; keeps = tt; kept = λ h at. absurd (not_error x h (does.ends.kept h at).0); on = does.ends.on };
  led = does.led;
}
