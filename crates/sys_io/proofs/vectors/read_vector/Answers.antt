use Rattle.std.proofs.Common.{rules, ◌≡◌, ℕ, ◌*◌, ◌≤◌, ltb, min, refl, sym, ◌∙◌, ap, subst, List, [], ◌∷◌, ◌++◌, Some, length, true, false, arith}
use Rattle.std.proofs.lemmas.Bool.{le-ltb, lt-ltb}
use Rattle.lego_base.specs.declared.sizes.TheConstants.{LONGEST_FILE}
use Rattle.lego_base.specs.Space.{bytes_at, permits}
use Rattle.linux_model.specs.Buffers.{pieces_of, total}
use Rattle.linux_model.specs.Effects.{AsksSpan, CopyIn, Reads}
use Rattle.linux_model.specs.Held.{Held}
use Rattle.linux_model.specs.Limits.{VECTOR_PIECES}
use Rattle.call_machine.specs.Effects.{copied, copied_in}
use Rattle.call_machine.proofs.Stops.{stops_follow}
use Rattle.call_parts.proofs.Reading.{copied_some}
use Rattle.sys_io.specs.Vectors.{vector_looks}
use Rattle.sys_io.proofs.Entries.{fault_total, looks_asks, looks_good, of_some, total_same}
use Rattle.sys_io.proofs.Sending.{length_at}
use Rattle.sys_io.proofs.vectors.read_vector.Goals as goal

pub returns-in_err-check_span-clause-stops : goal.returns-in_err-check_span-clause-stops
returns-in_err-check_span-clause-stops g c =
    let laws = g.met.M.Machine.lawful in
    let held = g.M.Machine.held c.args.machine.now in
    let pid = c.args.pid.0 in
    let space = held.space pid in
    let at = c.args.address in
    let count = c.args.count in
    let few : ltb VECTOR_PIECES count ≡ false = search rules in
    let asks = AsksSpan pid at (16 * count) ∷ [] in
    subst (g.M.Machine.stops c.args.machine.now c.check_span.new.self) (sym (looks_asks pid space at count few)) (laws.stops_front _ _ asks _ c.check_span.ensures.stops)

pub returns-in_err-bytes-clause-stops : goal.returns-in_err-bytes-clause-stops
returns-in_err-bytes-clause-stops g c =
    let laws = g.met.M.Machine.lawful in
    let held = g.M.Machine.held c.args.machine.now in
    let pid = c.args.pid.0 in
    let space = held.space pid in
    let at = c.args.address in
    let count = c.args.count in
    let few : ltb VECTOR_PIECES count ≡ false = search rules in
    let asks = AsksSpan pid at (16 * count) ∷ [] in
    let good : permits space 1 at (16 * count) ≡ true = search rules in
    let list = bytes_at space at (16 * count) in
    let reads = Reads CopyIn pid at list ∷ [] in
    let looks : vector_looks pid space at count ≡ asks ++ reads = looks_good pid space at count few good in
    let held1 : g.M.Machine.held c.check_span.new.self ≡ held = laws.holds _ _ _ c.in_ok-check_span.ensures.does in
    let copies = ap (λ (h : Held). copied_in (h.space pid) pid at (16 * count)) held1 ∙ (copied_some space pid at (16 * count) _ refl good).0 in
    let stop = subst (g.M.Machine.stops c.check_span.new.self c.copy_in.new.self) copies c.copy_in.ensures.stops in
    subst (g.M.Machine.stops c.args.machine.now c.copy_in.new.self) (sym looks) (laws.stops_then _ _ _ asks reads c.in_ok-check_span.ensures.does stop)

pub returns-in_err-pieces-clause-stops : goal.returns-in_err-pieces-clause-stops
returns-in_err-pieces-clause-stops g c =
    let laws = g.met.M.Machine.lawful in
    let held = g.M.Machine.held c.args.machine.now in
    let pid = c.args.pid.0 in
    let space = held.space pid in
    let at = c.args.address in
    let count = c.args.count in
    let few : ltb VECTOR_PIECES count ≡ false = search rules in
    let asks = AsksSpan pid at (16 * count) ∷ [] in
    let good : permits space 1 at (16 * count) ≡ true = search rules in
    let list = bytes_at space at (16 * count) in
    let reads = Reads CopyIn pid at list ∷ [] in
    let looks : vector_looks pid space at count ≡ asks ++ reads = looks_good pid space at count few good in
    let held1 : g.M.Machine.held c.check_span.new.self ≡ held = laws.holds _ _ _ c.in_ok-check_span.ensures.does in
    let copies = ap (λ (h : Held). copied_in (h.space pid) pid at (16 * count)) held1 ∙ (copied_some space pid at (16 * count) _ refl good).0 in
    let read = subst (g.M.Machine.does c.check_span.new.self c.copy_in.new.self) copies c.in_ok-bytes.ensures.does in
    let did = subst (g.M.Machine.does c.args.machine.now c.copy_in.new.self) (sym looks) (laws.both _ _ _ asks reads c.in_ok-check_span.ensures.does read) in
    (stops_follow g.M.Machine.held g.M.Machine.does g.M.Machine.stops g.met.M.Machine.lawful).did _ _ _ did

pub returns-then-total-clause-does : goal.returns-then-total-clause-does
returns-then-total-clause-does g c =
    let laws = g.met.M.Machine.lawful in
    let held = g.M.Machine.held c.args.machine.now in
    let pid = c.args.pid.0 in
    let space = held.space pid in
    let at = c.args.address in
    let count = c.args.count in
    let few : ltb VECTOR_PIECES count ≡ false = search rules in
    let asks = AsksSpan pid at (16 * count) ∷ [] in
    let good : permits space 1 at (16 * count) ≡ true = search rules in
    let list = bytes_at space at (16 * count) in
    let reads = Reads CopyIn pid at list ∷ [] in
    let looks : vector_looks pid space at count ≡ asks ++ reads = looks_good pid space at count few good in
    let held1 : g.M.Machine.held c.check_span.new.self ≡ held = laws.holds _ _ _ c.in_ok-check_span.ensures.does in
    let copies = ap (λ (h : Held). copied_in (h.space pid) pid at (16 * count)) held1 ∙ (copied_some space pid at (16 * count) _ refl good).0 in
    let read = subst (g.M.Machine.does c.check_span.new.self c.copy_in.new.self) copies c.in_ok-bytes.ensures.does in
    let did = subst (g.M.Machine.does c.args.machine.now c.copy_in.new.self) (sym looks) (laws.both _ _ _ asks reads c.in_ok-check_span.ensures.does read) in
    did

pub returns-then-total-clause-stops : goal.returns-then-total-clause-stops
returns-then-total-clause-stops g c = (stops_follow g.M.Machine.held g.M.Machine.does g.M.Machine.stops g.met.M.Machine.lawful).did _ _ _ (returns-then-total-clause-does g c)

pub returns-clause-does : goal.returns-clause-does
returns-clause-does g c =
    let laws = g.met.M.Machine.lawful in
    let held = g.M.Machine.held c.args.machine.now in
    let pid = c.args.pid.0 in
    let space = held.space pid in
    let at = c.args.address in
    let count = c.args.count in
    let few : ltb VECTOR_PIECES count ≡ false = search rules in
    let asks = AsksSpan pid at (16 * count) ∷ [] in
    let good : permits space 1 at (16 * count) ≡ true = search rules in
    let list = bytes_at space at (16 * count) in
    let reads = Reads CopyIn pid at list ∷ [] in
    let looks : vector_looks pid space at count ≡ asks ++ reads = looks_good pid space at count few good in
    let held1 : g.M.Machine.held c.check_span.new.self ≡ held = laws.holds _ _ _ c.in_ok-check_span.ensures.does in
    let copies = ap (λ (h : Held). copied_in (h.space pid) pid at (16 * count)) held1 ∙ (copied_some space pid at (16 * count) _ refl good).0 in
    let read = subst (g.M.Machine.does c.check_span.new.self c.copy_in.new.self) copies c.in_ok-bytes.ensures.does in
    let did = subst (g.M.Machine.does c.args.machine.now c.copy_in.new.self) (sym looks) (laws.both _ _ _ asks reads c.in_ok-check_span.ensures.does read) in
    did

pub returns-clause-stops : goal.returns-clause-stops
returns-clause-stops g c = (stops_follow g.M.Machine.held g.M.Machine.does g.M.Machine.stops g.met.M.Machine.lawful).did _ _ _ (returns-clause-does g c)

pub returns-then-total-clause-is : goal.returns-then-total-clause-is
returns-then-total-clause-is g c ok =
    let laws = g.met.M.Machine.lawful in
    let held = g.M.Machine.held c.args.machine.now in
    let pid = c.args.pid.0 in
    let space = held.space pid in
    let at = c.args.address in
    let count = c.args.count in
    let few : ltb VECTOR_PIECES count ≡ false = search rules in
    let asks = AsksSpan pid at (16 * count) ∷ [] in
    let good : permits space 1 at (16 * count) ≡ true = search rules in
    let list = bytes_at space at (16 * count) in
    let reads = Reads CopyIn pid at list ∷ [] in
    let looks : vector_looks pid space at count ≡ asks ++ reads = looks_good pid space at count few good in
    let held1 : g.M.Machine.held c.check_span.new.self ≡ held = laws.holds _ _ _ c.in_ok-check_span.ensures.does in
    let copies = ap (λ (h : Held). copied_in (h.space pid) pid at (16 * count)) held1 ∙ (copied_some space pid at (16 * count) _ refl good).0 in
    let copied_is = ap (λ (h : Held). copied (h.space pid) at (16 * count)) held1 ∙ (copied_some space pid at (16 * count) _ refl good).1 in
    let answer1 : Some c.as_slice.result.now ≡ copied ((g.M.Machine.held c.check_span.new.self).space pid) at (16 * count) = search rules in
    let bytes_are : c.as_slice.result.now ≡ list = ap (of_some c.as_slice.result.now) (answer1 ∙ copied_is) in
    let size : length c.as_slice.result.now ≡ 16 * count = ap (λ (l : List ℕ). length l) bytes_are ∙ length_at space at (16 * count) in
    let items = c.in_ok-pieces.ensures count size ∙ ap (λ (l : List ℕ). pieces_of count l) bytes_are in
    let sum : c.total_of-total.result ≡ min (total c.in_ok-pieces.pieces.items) 18446744073709551615 = search rules in
    let all = ap total items in
    let large = c.if-total.true in
    fault_total space at count ok few good (lt-ltb LONGEST_FILE (total (pieces_of count list)) (omega (arith, sum, all, large)))

pub returns-clause-is : goal.returns-clause-is
returns-clause-is g c =
    let laws = g.met.M.Machine.lawful in
    let held = g.M.Machine.held c.args.machine.now in
    let pid = c.args.pid.0 in
    let space = held.space pid in
    let at = c.args.address in
    let count = c.args.count in
    let few : ltb VECTOR_PIECES count ≡ false = search rules in
    let asks = AsksSpan pid at (16 * count) ∷ [] in
    let good : permits space 1 at (16 * count) ≡ true = search rules in
    let list = bytes_at space at (16 * count) in
    let reads = Reads CopyIn pid at list ∷ [] in
    let looks : vector_looks pid space at count ≡ asks ++ reads = looks_good pid space at count few good in
    let held1 : g.M.Machine.held c.check_span.new.self ≡ held = laws.holds _ _ _ c.in_ok-check_span.ensures.does in
    let copies = ap (λ (h : Held). copied_in (h.space pid) pid at (16 * count)) held1 ∙ (copied_some space pid at (16 * count) _ refl good).0 in
    let copied_is = ap (λ (h : Held). copied (h.space pid) at (16 * count)) held1 ∙ (copied_some space pid at (16 * count) _ refl good).1 in
    let answer1 : Some c.as_slice.result.now ≡ copied ((g.M.Machine.held c.check_span.new.self).space pid) at (16 * count) = search rules in
    let bytes_are : c.as_slice.result.now ≡ list = ap (of_some c.as_slice.result.now) (answer1 ∙ copied_is) in
    let size : length c.as_slice.result.now ≡ 16 * count = ap (λ (l : List ℕ). length l) bytes_are ∙ length_at space at (16 * count) in
    let items = c.in_ok-pieces.ensures count size ∙ ap (λ (l : List ℕ). pieces_of count l) bytes_are in
    let sum : c.total_of-total.result ≡ min (total c.in_ok-pieces.pieces.items) 18446744073709551615 = search rules in
    let all = ap total items in
    let short = c.if-total.false in
    let whole : total (pieces_of count list) ≤ 16777216 = omega (arith, sum, all, short) in
    record {
      few = few;
      good = good;
      pieces = items;
      total_is = total_same c.total_of-total.result (total c.in_ok-pieces.pieces.items) (total (pieces_of count list)) sum all short;
      short = le-ltb LONGEST_FILE (total (pieces_of count list)) whole;
    }
