use Rattle.std.proofs.Common.{rules, ◌≡◌, ℕ, refl, sym, ◌∙◌, ap, subst, List, [], ◌∷◌, ◌++◌, length, true, false, IfOk}
use Rattle.lego_base.specs.Files.{file_bytes, is_file}
use Rattle.linux_model.specs.Buffers.{are_good, asks_pieces}
use Rattle.linux_model.specs.Called.{following}
use Rattle.linux_model.specs.Effects.{Effect, AsksSize}
use Rattle.linux_model.specs.FileCalls.{writes_at, writes_file}
use Rattle.linux_model.specs.Held.{Held, with_held}
use Rattle.linux_model.specs.Limits.{O_APPEND, has}
use Rattle.call_machine.specs.Laws.{effects_of}
use Rattle.call_machine.proofs.Rows.{stops_following, stops_in}
use Rattle.call_machine.proofs.Stops.{stops_follow}
use Rattle.sys_io.specs.Moving.{WroteOr}
use Rattle.sys_io.proofs.Moving.{refused_stops, refused_stops, refused_stops, refused_stops, asks_still, both_still}
use Rattle.sys_io.proofs.Sending.{appends, at_offset, bad_then, good_then, where_good_asks, wrote_past}
use Rattle.sys_io.proofs.files.write_at.Goals as goal

pub returns-in_err-check_pieces-clause-stops : goal.returns-in_err-check_pieces-clause-stops
returns-in_err-check_pieces-clause-stops g c p k after own =
    let laws = g.met.M.Machine.lawful in
    let held = g.M.Machine.held c.args.machine.now in
    let pid = c.args.pid.0 in
    let pieces = c.args.pieces.now in
    let n = c.args.n in
    let file = c.args.file.0 in
    let K = with_held held k in
    stops_in g.M.Machine.held g.M.Machine.does g.M.Machine.stops g.met.M.Machine.lawful _ _ (asks_pieces pid (held.space pid) 1 pieces) _ _ (where_good_asks p K pid 1 pieces (writes_file p K file c.args.flags c.args.off pieces n after) own) c.check_pieces.ensures.stops

pub returns-then-not-branch-clause-writes : goal.returns-then-not-branch-clause-writes
returns-then-not-branch-clause-writes g c p k own =
    let laws = g.met.M.Machine.lawful in
    let held = g.M.Machine.held c.args.machine.now in
    let pid = c.args.pid.0 in
    let pieces = c.args.pieces.now in
    let n = c.args.n in
    let file = c.args.file.0 in
    let K = with_held held k in
    let asks = asks_pieces pid (held.space pid) 1 pieces in
    let bad : are_good (held.space pid) 1 pieces ≡ false = search rules in
    record {
      effects = asks ++ [];
      row_is = λ after. bad_then p K pid 1 pieces (writes_file p K file c.args.flags c.args.off pieces n after) own bad;
      apart = record {
        did = laws.both _ _ _ asks [] c.in_ok-check_pieces.ensures.does (laws.none _);
        still = λ man. both_still asks [] man (asks_still pid (held.space pid) 1 pieces man) refl;
      };
    }

pub returns-then-not-branch-clause-stops : goal.returns-then-not-branch-clause-stops
returns-then-not-branch-clause-stops g c p k after own = refused_stops g.M.Machine.held g.M.Machine.does g.M.Machine.stops g.met.M.Machine.lawful _ _ _ _ (returns-then-not-branch-clause-writes g c p k own) after

pub put_at-requires-clause-there : goal.put_at-requires-clause-there
put_at-requires-clause-there g c =
    ap (λ (h : Held). is_file h.files c.args.file.0) (g.met.M.Machine.lawful.holds _ _ _ c.in_ok-size.ensures.does ∙ c.in_ok-check_pieces.ensures.held) ∙ c.requires.there

pub returns-in_err-size-clause-stops : goal.returns-in_err-size-clause-stops
returns-in_err-size-clause-stops g c p k after own =
    let laws = g.met.M.Machine.lawful in
    let held = g.M.Machine.held c.args.machine.now in
    let pid = c.args.pid.0 in
    let pieces = c.args.pieces.now in
    let n = c.args.n in
    let file = c.args.file.0 in
    let K = with_held held k in
    let asks = asks_pieces pid (held.space pid) 1 pieces in
    let good : are_good (held.space pid) 1 pieces ≡ true = search rules in
    let asked = c.in_ok-check_pieces.ensures.does in
    let held1 = c.in_ok-check_pieces.ensures.held in
    let row = λ (after : ℕ → List Effect). good_then p K pid 1 pieces (writes_file p K file c.args.flags c.args.off pieces n after) own good in
    let flag : has c.args.flags O_APPEND ≡ true = search rules in
    stops_following g.M.Machine.held g.M.Machine.does g.M.Machine.stops g.met.M.Machine.lawful _ _ _ asks _ _ (row after) asked (stops_in g.M.Machine.held g.M.Machine.does g.M.Machine.stops g.met.M.Machine.lawful _ _ (AsksSize file ∷ []) _ _ (appends p K file c.args.flags c.args.off pieces n after flag) c.size.ensures.stops)

pub returns-in_ok-size-clause-writes : goal.returns-in_ok-size-clause-writes
returns-in_ok-size-clause-writes g c p k own =
    let laws = g.met.M.Machine.lawful in
    let held = g.M.Machine.held c.args.machine.now in
    let pid = c.args.pid.0 in
    let pieces = c.args.pieces.now in
    let n = c.args.n in
    let file = c.args.file.0 in
    let K = with_held held k in
    let asks = asks_pieces pid (held.space pid) 1 pieces in
    let good : are_good (held.space pid) 1 pieces ≡ true = search rules in
    let asked = c.in_ok-check_pieces.ensures.does in
    let held1 = c.in_ok-check_pieces.ensures.held in
    let row = λ (after : ℕ → List Effect). good_then p K pid 1 pieces (writes_file p K file c.args.flags c.args.off pieces n after) own good in
    let flag : has c.args.flags O_APPEND ≡ true = search rules in
    let asks_size = AsksSize file ∷ [] in
    let held2 : g.M.Machine.held c.size.new.self ≡ held = laws.holds _ _ _ c.in_ok-size.ensures.does ∙ held1 in
    let size : c.in_ok-size.size ≡ length (file_bytes held.files file) = c.in_ok-size.ensures.answer ∙ ap (λ (h : Held). length (file_bytes h.files file)) held1 in
    let rest = λ (after : ℕ → List Effect). appends p K file c.args.flags c.args.off pieces n after flag ∙ ap (λ m. following asks_size (writes_at p K file m pieces n after)) (sym size) in
    let put = subst (λ (h : Held). IfOk c.put_at.result (WroteOr g.M.Machine.does c.size.new.self c.put_at.new.machine (λ after. writes_at p (with_held h k) file c.in_ok-size.size pieces n after) n)) held2 (c.put_at.ensures.writes p k own) in
    wrote_past g.M.Machine.held g.M.Machine.does g.M.Machine.stops g.met.M.Machine.lawful _ _ _ asks _ _ n _ row asked (asks_still pid (held.space pid) 1 pieces)
    (wrote_past g.M.Machine.held g.M.Machine.does g.M.Machine.stops g.met.M.Machine.lawful _ _ _ asks_size _ _ n _ rest c.in_ok-size.ensures.does (λ man. refl) put)

pub returns-in_ok-size-clause-stops : goal.returns-in_ok-size-clause-stops
returns-in_ok-size-clause-stops g c p k after own =
    let laws = g.met.M.Machine.lawful in
    let held = g.M.Machine.held c.args.machine.now in
    let pid = c.args.pid.0 in
    let pieces = c.args.pieces.now in
    let n = c.args.n in
    let file = c.args.file.0 in
    let K = with_held held k in
    let asks = asks_pieces pid (held.space pid) 1 pieces in
    let good : are_good (held.space pid) 1 pieces ≡ true = search rules in
    let asked = c.in_ok-check_pieces.ensures.does in
    let held1 = c.in_ok-check_pieces.ensures.held in
    let row = λ (after : ℕ → List Effect). good_then p K pid 1 pieces (writes_file p K file c.args.flags c.args.off pieces n after) own good in
    let flag : has c.args.flags O_APPEND ≡ true = search rules in
    let asks_size = AsksSize file ∷ [] in
    let held2 : g.M.Machine.held c.size.new.self ≡ held = laws.holds _ _ _ c.in_ok-size.ensures.does ∙ held1 in
    let size : c.in_ok-size.size ≡ length (file_bytes held.files file) = c.in_ok-size.ensures.answer ∙ ap (λ (h : Held). length (file_bytes h.files file)) held1 in
    let rest = λ (after : ℕ → List Effect). appends p K file c.args.flags c.args.off pieces n after flag ∙ ap (λ m. following asks_size (writes_at p K file m pieces n after)) (sym size) in
    let put = subst (λ (h : Held). g.M.Machine.stops c.size.new.self c.put_at.new.machine (effects_of (writes_at p (with_held h k) file c.in_ok-size.size pieces n after))) held2 (c.put_at.ensures.stops p k after own) in
    stops_following g.M.Machine.held g.M.Machine.does g.M.Machine.stops g.met.M.Machine.lawful _ _ _ asks _ _ (row after) asked (stops_following g.M.Machine.held g.M.Machine.does g.M.Machine.stops g.met.M.Machine.lawful _ _ _ asks_size _ _ (rest after) c.in_ok-size.ensures.does put)

pub returns-else-flags-eq-O_APPEND-clause-writes : goal.returns-else-flags-eq-O_APPEND-clause-writes
returns-else-flags-eq-O_APPEND-clause-writes g c p k own =
    let laws = g.met.M.Machine.lawful in
    let held = g.M.Machine.held c.args.machine.now in
    let pid = c.args.pid.0 in
    let pieces = c.args.pieces.now in
    let n = c.args.n in
    let file = c.args.file.0 in
    let K = with_held held k in
    let asks = asks_pieces pid (held.space pid) 1 pieces in
    let good : are_good (held.space pid) 1 pieces ≡ true = search rules in
    let asked = c.in_ok-check_pieces.ensures.does in
    let held1 = c.in_ok-check_pieces.ensures.held in
    let row = λ (after : ℕ → List Effect). good_then p K pid 1 pieces (writes_file p K file c.args.flags c.args.off pieces n after) own good in
    let flag : has c.args.flags O_APPEND ≡ false = search rules in
    let rest = λ (after : ℕ → List Effect). row after ∙ ap (following asks) (at_offset p K file c.args.flags c.args.off pieces n after flag) in
    let put = subst (λ (h : Held). IfOk c.put_at-else-flags-eq-O_APPEND.result (WroteOr g.M.Machine.does c.check_pieces.new.machine c.put_at-else-flags-eq-O_APPEND.new.machine (λ after. writes_at p (with_held h k) file c.args.off pieces n after) n)) held1 (c.put_at-else-flags-eq-O_APPEND.ensures.writes p k own) in
    wrote_past g.M.Machine.held g.M.Machine.does g.M.Machine.stops g.met.M.Machine.lawful _ _ _ asks _ _ n _ rest asked (asks_still pid (held.space pid) 1 pieces) put

pub returns-else-flags-eq-O_APPEND-clause-stops : goal.returns-else-flags-eq-O_APPEND-clause-stops
returns-else-flags-eq-O_APPEND-clause-stops g c p k after own =
    let laws = g.met.M.Machine.lawful in
    let held = g.M.Machine.held c.args.machine.now in
    let pid = c.args.pid.0 in
    let pieces = c.args.pieces.now in
    let n = c.args.n in
    let file = c.args.file.0 in
    let K = with_held held k in
    let asks = asks_pieces pid (held.space pid) 1 pieces in
    let good : are_good (held.space pid) 1 pieces ≡ true = search rules in
    let asked = c.in_ok-check_pieces.ensures.does in
    let held1 = c.in_ok-check_pieces.ensures.held in
    let row = λ (after : ℕ → List Effect). good_then p K pid 1 pieces (writes_file p K file c.args.flags c.args.off pieces n after) own good in
    let flag : has c.args.flags O_APPEND ≡ false = search rules in
    let rest = λ (after : ℕ → List Effect). row after ∙ ap (following asks) (at_offset p K file c.args.flags c.args.off pieces n after flag) in
    let put = subst (λ (h : Held). g.M.Machine.stops c.check_pieces.new.machine c.put_at-else-flags-eq-O_APPEND.new.machine (effects_of (writes_at p (with_held h k) file c.args.off pieces n after))) held1 (c.put_at-else-flags-eq-O_APPEND.ensures.stops p k after own) in
    stops_following g.M.Machine.held g.M.Machine.does g.M.Machine.stops g.met.M.Machine.lawful _ _ _ asks _ _ (rest after) asked put
