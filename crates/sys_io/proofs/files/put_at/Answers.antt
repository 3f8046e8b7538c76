use Rattle.std.proofs.Common.{rules, ◌≡◌, ℕ, ◌+◌, ltb, refl, sym, ◌∙◌, ap, subst, List, [], ◌∷◌, ◌++◌, length, false, arith}
use Rattle.lego_base.specs.declared.sizes.TheConstants.{LONGEST_FILE}
use Rattle.lego_base.specs.Files.{is_file}
use Rattle.linux_model.specs.Buffers.{bytes_in, copies_in}
use Rattle.linux_model.specs.Called.{Gives}
use Rattle.linux_model.specs.Effects.{WritesFile}
use Rattle.linux_model.specs.Held.{Held, with_held}
use Rattle.call_machine.proofs.Rows.{stops_as, stops_end}
use Rattle.sys_io.proofs.Moving.{wrote_stops, wrote_stops, wrote_stops, wrote_stops, both_still, copies_in_still}
use Rattle.sys_io.proofs.Sending.{length_in, writes_at_is}
use Rattle.sys_io.proofs.files.put_at.Goals as goal

pub write-requires-clause-there : goal.write-requires-clause-there
write-requires-clause-there g c =
    ap (λ (h : Held). is_file h.files c.args.file.0) c.in_ok-bytes.ensures.held ∙ c.requires.there

pub write-requires-clause-within : goal.write-requires-clause-within
write-requires-clause-within g c =
    let laws = g.met.M.Machine.lawful in
    let held = g.M.Machine.held c.args.machine.now in
    let pid = c.args.pid.0 in
    let pieces = c.args.pieces.now in
    let n = c.args.n in
    let bytes_are : c.as_slice.result.now ≡ bytes_in (held.space pid) pieces = search rules in
    let size = ap (λ (l : List ℕ). length l) bytes_are ∙ length_in (held.space pid) pieces ∙ c.requires.all in
    let end = c.saturating_add-end.ensures in
    let small = c.if-end.false in
    omega (arith, size, end, small)

pub returns-in_err-write-clause-stops : goal.returns-in_err-write-clause-stops
returns-in_err-write-clause-stops g c p k after own =
    let laws = g.met.M.Machine.lawful in
    let held = g.M.Machine.held c.args.machine.now in
    let pid = c.args.pid.0 in
    let pieces = c.args.pieces.now in
    let n = c.args.n in
    let file = c.args.file.0 in
    let at = c.args.at in
    let K = with_held held k in
    let small : ltb LONGEST_FILE (at + n) ≡ false = search rules in
    let end : c.saturating_add-end.result ≡ at + n = search rules in
    let copies = copies_in pid (held.space pid) pieces in
    let bytes = bytes_in (held.space pid) pieces in
    let bytes_are : c.as_slice.result.now ≡ bytes = search rules in
    let writes = WritesFile file at bytes ∷ [] in
    let stop = subst (λ (l : List ℕ). g.M.Machine.stops c.read_pieces.new.machine c.write.new.self (WritesFile file at l ∷ [])) bytes_are c.write.ensures.stops in
    stops_as g.M.Machine.held g.M.Machine.does g.M.Machine.stops g.met.M.Machine.lawful _ _ _ _ (writes_at_is p K pid file at pieces n after own small) (laws.stops_front _ _ (copies ++ writes) (after (at + n)) (laws.stops_then _ _ _ copies writes c.in_ok-bytes.ensures.does stop))

pub returns-clause-writes : goal.returns-clause-writes
returns-clause-writes g c p k own =
    let laws = g.met.M.Machine.lawful in
    let held = g.M.Machine.held c.args.machine.now in
    let pid = c.args.pid.0 in
    let pieces = c.args.pieces.now in
    let n = c.args.n in
    let file = c.args.file.0 in
    let at = c.args.at in
    let K = with_held held k in
    let small : ltb LONGEST_FILE (at + n) ≡ false = search rules in
    let end : c.saturating_add-end.result ≡ at + n = search rules in
    let copies = copies_in pid (held.space pid) pieces in
    let bytes = bytes_in (held.space pid) pieces in
    let bytes_are : c.as_slice.result.now ≡ bytes = search rules in
    let writes = WritesFile file at bytes ∷ [] in
    let wrote = subst (λ (l : List ℕ). g.M.Machine.does c.read_pieces.new.machine c.write.new.self (WritesFile file at l ∷ [])) bytes_are c.in_ok-write.ensures.does in
    let did = laws.both _ _ _ copies writes c.in_ok-bytes.ensures.does wrote in
    record {
      effects = copies ++ writes;
      row_is = λ after. writes_at_is p K pid file at pieces n after own small ∙ ap (λ e. Gives ((copies ++ writes) ++ after e) n) (sym end);
      apart = record { did = did; still = λ man. both_still copies writes man (copies_in_still pid (held.space pid) pieces man) refl };
    }

pub returns-clause-stops : goal.returns-clause-stops
returns-clause-stops g c p k after own = wrote_stops g.M.Machine.held g.M.Machine.does g.M.Machine.stops g.met.M.Machine.lawful _ _ _ _ _ (returns-clause-writes g c p k own) after

pub returns-in_err-bytes-clause-stops : goal.returns-in_err-bytes-clause-stops
returns-in_err-bytes-clause-stops g c p k after own =
    let laws = g.met.M.Machine.lawful in
    let held = g.M.Machine.held c.args.machine.now in
    let pid = c.args.pid.0 in
    let pieces = c.args.pieces.now in
    let n = c.args.n in
    let file = c.args.file.0 in
    let at = c.args.at in
    let K = with_held held k in
    let small : ltb LONGEST_FILE (at + n) ≡ false = search rules in
    let copies = copies_in pid (held.space pid) pieces in
    stops_as g.M.Machine.held g.M.Machine.does g.M.Machine.stops g.met.M.Machine.lawful _ _ _ _ (writes_at_is p K pid file at pieces n after own small) (laws.stops_front _ _ (copies ++ (WritesFile file at (bytes_in (held.space pid) pieces) ∷ [])) (after (at + n)) (laws.stops_front _ _ copies _ c.read_pieces.ensures.stops))
