-- A line is read once the owner of its region is known.
use Rattle.std.proofs.Common.{◌≡◌, [], ◌∷◌, ℕ, Err, List, None, Ok, Option, Some, refl, subst, sym}
use Rattle.lego_base.specs.declared.ids.LineNo.{LineNo}
use Rattle.lego_base.specs.declared.ids.MemId.{MemId}
use Rattle.lego_base.specs.declared.ids.Pid.{Pid}
use Rattle.lego_base.specs.declared.stops.Halt.{Halt}
use Rattle.lego_msg.specs.declared.body.Body.TheVariants.{Done, OwnerIs, Refused}
use Rattle.lego_msg.specs.declared.event.Event.{Event}
use Rattle.lego_msg.specs.declared.operation.Operation.TheVariants.{Reads}
use Rattle.lego_msg.specs.declared.place.Place.{Place}
use Rattle.lego_msg.specs.declared.place.Place.TheVariants.{Manager, Memory, Processor, Storage}
use Rattle.protocol_engine.specs.Beyond.{Beyond}
use Rattle.cluster.specs.Answers.{line_body}
use Rattle.cluster.specs.Calls.{Calls, served}
use Rattle.cluster.specs.LineCalls.{finds_line, line_asked, line_beyond, read_in}
use Rattle.cluster.specs.Sequences.{CallsAll, free}
use Rattle.cluster.specs.Whole.{Whole}
use Rattle.cluster.specs.declared.reads.LineIn.{LineIn}
use Rattle.cluster.proofs.Progress.{SoFar, ends_here, first_ends, first_halts, then_ends, then_halts}
use Rattle.lego_msg.specs.declared.place.Why.TheVariants as why

-- a refusal brings no line in
refused_same : (by : Place) (pid : Pid) (line : LineNo) (owner : MemId) (g : Beyond) → served by (Reads pid line owner) (Refused why.NoArea) (served by (finds_line pid line) Done g) ≡ served by (finds_line pid line) Done g
refused_same (Processor cpu) pid line owner g = refl
refused_same (Memory m) pid line owner g = refl
refused_same Storage pid line owner g = refl
refused_same Manager pid line owner g = refl

module _ {W : Type 0} (told : W → Option (List Event)) (faults : W → ℕ) (w w' : W) (c d : Whole) (by : Place) (pid : Pid) (line : LineNo) where
  pub find_halts : (owner : Option MemId) (h : Halt) → Calls told faults w w' c d by (finds_line pid line) OwnerIs (Err h) → CallsAll told faults w w' c d by (line_asked pid line owner) (line_beyond by pid line) (Err h)
  find_halts None h calls = first_halts told faults c.table w w' c d by (free (finds_line pid line)) [] OwnerIs (line_beyond by pid line) h calls
  find_halts (Some o) h calls = first_halts told faults c.table w w' c d by (free (finds_line pid line)) (free (Reads pid line o) ∷ []) OwnerIs (line_beyond by pid line) h calls

  found : (owner : Option MemId) → Calls told faults w w' c d by (finds_line pid line) OwnerIs (Ok owner) → SoFar c.table told faults w w' c d by (free (finds_line pid line) ∷ [])
  found owner calls = first_ends told faults c.table w w' c d by (free (finds_line pid line)) OwnerIs owner tt calls

  pub found_none : (owner : Option MemId) → owner ≡ None → Calls told faults w w' c d by (finds_line pid line) OwnerIs (Ok None) → CallsAll told faults w w' c d by (line_asked pid line owner) (line_beyond by pid line) (Ok None)
  found_none owner is calls = subst (λ (x : Option MemId). CallsAll told faults w w' c d by (line_asked pid line x) (line_beyond by pid line) (Ok None)) (sym is)
      (ends_here told faults c.table w w' c d by (free (finds_line pid line) ∷ []) (found None calls) (line_beyond by pid line) None (λ g. refl))

  module _ (owner : Option MemId) (o : MemId) (is : owner ≡ Some o) (first : Calls told faults w w' c d by (finds_line pid line) OwnerIs (Ok (Some o))) (w'' : W) (e : Whole) where
    pub read_halts : (h : Halt) → Calls told faults w' w'' d e by (Reads pid line o) line_body (Err h) → CallsAll told faults w w'' c e by (line_asked pid line owner) (line_beyond by pid line) (Err h)
    read_halts h calls = subst (λ (x : Option MemId). CallsAll told faults w w'' c e by (line_asked pid line x) (line_beyond by pid line) (Err h)) (sym is)
        (then_halts told faults c.table w w' c d by (free (finds_line pid line) ∷ []) (found (Some o) first) d.table c.table w'' e (free (Reads pid line o)) [] line_body (line_beyond by pid line) h calls)

    pub read_none : Calls told faults w' w'' d e by (Reads pid line o) line_body (Ok None) → CallsAll told faults w w'' c e by (line_asked pid line owner) (line_beyond by pid line) (Ok None)
    read_none calls = subst (λ (x : Option MemId). CallsAll told faults w w'' c e by (line_asked pid line x) (line_beyond by pid line) (Ok None)) (sym is)
        (then_ends told faults c.table w w' c d by (free (finds_line pid line) ∷ []) (found (Some o) first) w'' e (Reads pid line o) line_body None (line_beyond by pid line) None (refused_same by pid line o) calls)

    pub read_some : (got : LineIn) → got.owner ≡ o → Calls told faults w' w'' d e by (Reads pid line o) line_body (Ok (read_in (Some got))) → CallsAll told faults w w'' c e by (line_asked pid line owner) (line_beyond by pid line) (Ok (Some got))
    read_some got same calls = subst (λ (x : Option MemId). CallsAll told faults w w'' c e by (line_asked pid line x) (line_beyond by pid line) (Ok (Some got))) (sym is)
        (then_ends told faults c.table w w' c d by (free (finds_line pid line) ∷ []) (found (Some o) first) w'' e (Reads pid line o) line_body (read_in (Some got)) (line_beyond by pid line) (Some got)
        (λ g i. served by (Reads pid line (sym same i)) (line_body (read_in (Some got))) (served by (finds_line pid line) Done g)) calls)
