use Rattle.std.proofs.Common.{rules, ◌≡◌, ◌+◌, ◌-◌, ◌≤◌, min, refl, sym, ◌∙◌, ap, subst, List, [], ◌∷◌, ◌++◌, length, true, false, arith}
use Rattle.lego_base.specs.Files.{file_bytes, is_file}
use Rattle.lego_base.specs.Pieces.{piece}
use Rattle.kernel_objects.specs.declared.piece.Piece.{Piece}
use Rattle.linux_model.specs.Buffers.{are_good, asks_pieces, copies_out, part}
use Rattle.linux_model.specs.Called.{Gives, following}
use Rattle.linux_model.specs.Effects.{AsksSize, ReadsFile}
use Rattle.linux_model.specs.Held.{Held, with_held}
use Rattle.call_machine.proofs.Rows.{stops_as, stops_end, stops_in, stops_second}
use Rattle.call_machine.proofs.Stops.{stops_follow}
use Rattle.sys_io.proofs.Moving.{wrote_stops, refused_stops, wrote_stops, refused_stops, wrote_stops, refused_stops, wrote_stops, refused_stops, asks_still, both_still, checked_bad, checked_good, copies_out_still, counted_piece, reads_file_is, regroup}
use Rattle.sys_io.proofs.files.read_at.Goals as goal

pub returns-in_err-size-clause-stops : goal.returns-in_err-size-clause-stops
returns-in_err-size-clause-stops g c p k after own =
    let laws = g.met.M.Machine.lawful in
    let held = g.M.Machine.held c.args.machine.now in
    let pid = c.args.pid.0 in
    let file = c.args.file.0 in
    let pieces = c.args.pieces.now in
    let bytes = file_bytes held.files file in
    stops_in g.M.Machine.held g.M.Machine.does g.M.Machine.stops g.met.M.Machine.lawful _ _ (AsksSize file ∷ []) _ _ (reads_file_is p (with_held held k) pid file c.args.off _ pieces c.args.n after own refl) c.size.ensures.stops

pub returns-in_err-parts-clause-stops : goal.returns-in_err-parts-clause-stops
returns-in_err-parts-clause-stops g c p k after own =
    let laws = g.met.M.Machine.lawful in
    let held = g.M.Machine.held c.args.machine.now in
    let pid = c.args.pid.0 in
    let file = c.args.file.0 in
    let pieces = c.args.pieces.now in
    let bytes = file_bytes held.files file in
    let count = c.min-count.result in
    let count_is : count ≡ min c.args.n (length bytes - c.args.off) = search rules in
    let held1 : g.M.Machine.held c.size.new.self ≡ held = laws.holds _ _ _ c.in_ok-size.ensures.does in
    let read = counted_piece bytes c.args.off c.args.n count count_is in
    let row = reads_file_is p (with_held held k) pid file c.args.off count pieces c.args.n after own read.0 in
    let asks = asks_pieces pid (held.space pid) 2 (part 0 count pieces) in
    let stop = subst (λ (h : Held). g.M.Machine.stops c.size.new.self c.writable_part.new.machine (asks_pieces pid (h.space pid) 2 (part 0 count pieces))) held1 c.writable_part.ensures.stops in
    stops_second g.M.Machine.held g.M.Machine.does g.M.Machine.stops g.met.M.Machine.lawful _ _ _ (AsksSize file ∷ []) asks _ _ row c.in_ok-size.ensures.does stop

pub returns-in_default-clause-moves : goal.returns-in_default-clause-moves
returns-in_default-clause-moves g c p k own =
    let laws = g.met.M.Machine.lawful in
    let held = g.M.Machine.held c.args.machine.now in
    let pid = c.args.pid.0 in
    let file = c.args.file.0 in
    let pieces = c.args.pieces.now in
    let bytes = file_bytes held.files file in
    let count = c.min-count.result in
    let count_is : count ≡ min c.args.n (length bytes - c.args.off) = search rules in
    let held1 : g.M.Machine.held c.size.new.self ≡ held = laws.holds _ _ _ c.in_ok-size.ensures.does in
    let held2 : g.M.Machine.held c.writable_part.new.machine ≡ held = c.in_ok-parts.ensures.held ∙ held1 in
    let asked = subst (λ (h : Held). g.M.Machine.does c.size.new.self c.writable_part.new.machine (asks_pieces pid (h.space pid) 2 (part 0 count pieces))) held1 c.in_ok-parts.ensures.does in
    let bad1 : are_good ((g.M.Machine.held c.size.new.self).space pid) 2 (part 0 count pieces) ≡ false = search rules in
    let bad = ap (λ (h : Held). are_good (h.space pid) 2 (part 0 count pieces)) (sym held1) ∙ bad1 in
    let asks = asks_pieces pid (held.space pid) 2 (part 0 count pieces) in
    record {
      effects = (AsksSize file ∷ []) ++ (asks ++ []);
      row_is = λ after. reads_file_is p (with_held held k) pid file c.args.off count pieces c.args.n after own (counted_piece bytes c.args.off c.args.n count count_is).0 ∙ ap (following (AsksSize file ∷ [])) (checked_bad pid (held.space pid) (part 0 count pieces) _ bad);
      apart = record {
        did = laws.both _ _ _ (AsksSize file ∷ []) (asks ++ []) c.in_ok-size.ensures.does (laws.both _ _ _ asks [] asked (laws.none _));
        still = λ man. both_still (AsksSize file ∷ []) (asks ++ []) man refl (both_still asks [] man (asks_still pid (held.space pid) 2 (part 0 count pieces) man) refl);
      };
    }

pub returns-in_default-clause-stops : goal.returns-in_default-clause-stops
returns-in_default-clause-stops g c p k after own = refused_stops g.M.Machine.held g.M.Machine.does g.M.Machine.stops g.met.M.Machine.lawful _ _ _ _ (returns-in_default-clause-moves g c p k own) after

pub read-requires-clause-there : goal.read-requires-clause-there
read-requires-clause-there g c =
    let laws = g.met.M.Machine.lawful in
    let held = g.M.Machine.held c.args.machine.now in
    let pid = c.args.pid.0 in
    let file = c.args.file.0 in
    let pieces = c.args.pieces.now in
    let bytes = file_bytes held.files file in
    let count = c.min-count.result in
    let count_is : count ≡ min c.args.n (length bytes - c.args.off) = search rules in
    let held1 : g.M.Machine.held c.size.new.self ≡ held = laws.holds _ _ _ c.in_ok-size.ensures.does in
    let held2 : g.M.Machine.held c.writable_part.new.machine ≡ held = c.in_ok-parts.ensures.held ∙ held1 in
    ap (λ (h : Held). is_file h.files file) held2 ∙ c.requires.there

pub read-requires-clause-within : goal.read-requires-clause-within
read-requires-clause-within g c =
    let laws = g.met.M.Machine.lawful in
    let held = g.M.Machine.held c.args.machine.now in
    let pid = c.args.pid.0 in
    let file = c.args.file.0 in
    let pieces = c.args.pieces.now in
    let bytes = file_bytes held.files file in
    let count = c.min-count.result in
    let count_is : count ≡ min c.args.n (length bytes - c.args.off) = search rules in
    let held1 : g.M.Machine.held c.size.new.self ≡ held = laws.holds _ _ _ c.in_ok-size.ensures.does in
    let held2 : g.M.Machine.held c.writable_part.new.machine ≡ held = c.in_ok-parts.ensures.held ∙ held1 in
    λ some. subst (λ (h : Held). c.args.off + count ≤ length (file_bytes h.files file)) (sym held2) (omega (arith, some, count_is))

pub returns-in_err-bytes-clause-stops : goal.returns-in_err-bytes-clause-stops
returns-in_err-bytes-clause-stops g c p k after own =
    let laws = g.met.M.Machine.lawful in
    let held = g.M.Machine.held c.args.machine.now in
    let pid = c.args.pid.0 in
    let file = c.args.file.0 in
    let pieces = c.args.pieces.now in
    let bytes = file_bytes held.files file in
    let count = c.min-count.result in
    let count_is : count ≡ min c.args.n (length bytes - c.args.off) = search rules in
    let held1 : g.M.Machine.held c.size.new.self ≡ held = laws.holds _ _ _ c.in_ok-size.ensures.does in
    let read = counted_piece bytes c.args.off c.args.n count count_is in
    let row = reads_file_is p (with_held held k) pid file c.args.off count pieces c.args.n after own read.0 in
    let held2 : g.M.Machine.held c.writable_part.new.machine ≡ held = c.in_ok-parts.ensures.held ∙ held1 in
    let asked = subst (λ (h : Held). g.M.Machine.does c.size.new.self c.writable_part.new.machine (asks_pieces pid (h.space pid) 2 (part 0 count pieces))) held1 c.in_ok-parts.ensures.does in
    let asks = asks_pieces pid (held.space pid) 2 (part 0 count pieces) in
    let good1 : are_good ((g.M.Machine.held c.size.new.self).space pid) 2 (part 0 count pieces) ≡ true = search rules in
    let good = ap (λ (h : Held). are_good (h.space pid) 2 (part 0 count pieces)) (sym held1) ∙ good1 in
    let is = row ∙ ap (following (AsksSize file ∷ [])) (checked_good pid (held.space pid) (part 0 count pieces) _ good) in
    let reads = ReadsFile file c.args.off count ∷ [] in
    stops_as g.M.Machine.held g.M.Machine.does g.M.Machine.stops g.met.M.Machine.lawful _ _ _ _ is (laws.stops_then _ _ _ (AsksSize file ∷ []) _ c.in_ok-size.ensures.does (laws.stops_then _ _ _ asks _ asked (laws.stops_front _ _ reads _ c.read.ensures.stops)))

pub write_pieces-requires : goal.write_pieces-requires
write_pieces-requires g c =
    let laws = g.met.M.Machine.lawful in
    let held = g.M.Machine.held c.args.machine.now in
    let pid = c.args.pid.0 in
    let file = c.args.file.0 in
    let pieces = c.args.pieces.now in
    let bytes = file_bytes held.files file in
    let count = c.min-count.result in
    let count_is : count ≡ min c.args.n (length bytes - c.args.off) = search rules in
    let held1 : g.M.Machine.held c.size.new.self ≡ held = laws.holds _ _ _ c.in_ok-size.ensures.does in
    let held2 : g.M.Machine.held c.writable_part.new.machine ≡ held = c.in_ok-parts.ensures.held ∙ held1 in
    let asked = subst (λ (h : Held). g.M.Machine.does c.size.new.self c.writable_part.new.machine (asks_pieces pid (h.space pid) 2 (part 0 count pieces))) held1 c.in_ok-parts.ensures.does in
    let good1 : are_good ((g.M.Machine.held c.size.new.self).space pid) 2 (part 0 count pieces) ≡ true = search rules in
    let good = ap (λ (h : Held). are_good (h.space pid) 2 (part 0 count pieces)) (sym held1) ∙ good1 in
    let parts_are : c.as_slice.result.now ≡ part 0 count pieces = search rules in
    let reads = ReadsFile file c.args.off count ∷ [] in
    let held3 : g.M.Machine.held c.read.new.self ≡ held = laws.holds _ _ _ c.in_ok-bytes.ensures.does ∙ held2 in
    let got1 : c.as_slice-2.result.now ≡ piece (file_bytes (g.M.Machine.held c.writable_part.new.machine).files file) c.args.off count = search rules in
    let got = got1 ∙ ap (λ (h : Held). piece (file_bytes h.files file) c.args.off count) held2 ∙ (counted_piece bytes c.args.off c.args.n count count_is).1 in
    record {
      good = ap (λ (h : Held). are_good (h.space pid) 2 c.as_slice.result.now) held3 ∙ ap (λ (l : List Piece). are_good (held.space pid) 2 l) parts_are ∙ good;
    }

pub returns-in_err-write_pieces-clause-stops : goal.returns-in_err-write_pieces-clause-stops
returns-in_err-write_pieces-clause-stops g c p k after own =
    let laws = g.met.M.Machine.lawful in
    let held = g.M.Machine.held c.args.machine.now in
    let pid = c.args.pid.0 in
    let file = c.args.file.0 in
    let pieces = c.args.pieces.now in
    let bytes = file_bytes held.files file in
    let count = c.min-count.result in
    let count_is : count ≡ min c.args.n (length bytes - c.args.off) = search rules in
    let held1 : g.M.Machine.held c.size.new.self ≡ held = laws.holds _ _ _ c.in_ok-size.ensures.does in
    let read = counted_piece bytes c.args.off c.args.n count count_is in
    let row = reads_file_is p (with_held held k) pid file c.args.off count pieces c.args.n after own read.0 in
    let held2 : g.M.Machine.held c.writable_part.new.machine ≡ held = c.in_ok-parts.ensures.held ∙ held1 in
    let asked = subst (λ (h : Held). g.M.Machine.does c.size.new.self c.writable_part.new.machine (asks_pieces pid (h.space pid) 2 (part 0 count pieces))) held1 c.in_ok-parts.ensures.does in
    let asks = asks_pieces pid (held.space pid) 2 (part 0 count pieces) in
    let good1 : are_good ((g.M.Machine.held c.size.new.self).space pid) 2 (part 0 count pieces) ≡ true = search rules in
    let good = ap (λ (h : Held). are_good (h.space pid) 2 (part 0 count pieces)) (sym held1) ∙ good1 in
    let parts_are : c.as_slice.result.now ≡ part 0 count pieces = search rules in
    let reads = ReadsFile file c.args.off count ∷ [] in
    let held3 : g.M.Machine.held c.read.new.self ≡ held = laws.holds _ _ _ c.in_ok-bytes.ensures.does ∙ held2 in
    let got1 : c.as_slice-2.result.now ≡ piece (file_bytes (g.M.Machine.held c.writable_part.new.machine).files file) c.args.off count = search rules in
    let got = got1 ∙ ap (λ (h : Held). piece (file_bytes h.files file) c.args.off count) held2 ∙ (counted_piece bytes c.args.off c.args.n count count_is).1 in
    let is = row ∙ ap (following (AsksSize file ∷ [])) (checked_good pid (held.space pid) (part 0 count pieces) _ good) in
    let copies = copies_out pid (part 0 count pieces) (piece bytes c.args.off c.args.n) in
    let copies_are : copies_out pid c.as_slice.result.now c.as_slice-2.result.now ≡ copies = λ i. copies_out pid (parts_are i) (got i) in
    let stop = subst (g.M.Machine.stops c.read.new.self c.write_pieces.new.machine) copies_are c.write_pieces.ensures.stops in
    stops_as g.M.Machine.held g.M.Machine.does g.M.Machine.stops g.met.M.Machine.lawful _ _ _ _ is (laws.stops_then _ _ _ (AsksSize file ∷ []) _ c.in_ok-size.ensures.does (laws.stops_then _ _ _ asks _ asked (laws.stops_then _ _ _ reads _ c.in_ok-bytes.ensures.does (laws.stops_front _ _ copies _ stop))))

pub returns-clause-moves : goal.returns-clause-moves
returns-clause-moves g c p k own =
    let laws = g.met.M.Machine.lawful in
    let held = g.M.Machine.held c.args.machine.now in
    let pid = c.args.pid.0 in
    let file = c.args.file.0 in
    let pieces = c.args.pieces.now in
    let bytes = file_bytes held.files file in
    let count = c.min-count.result in
    let count_is : count ≡ min c.args.n (length bytes - c.args.off) = search rules in
    let held1 : g.M.Machine.held c.size.new.self ≡ held = laws.holds _ _ _ c.in_ok-size.ensures.does in
    let held2 : g.M.Machine.held c.writable_part.new.machine ≡ held = c.in_ok-parts.ensures.held ∙ held1 in
    let asked = subst (λ (h : Held). g.M.Machine.does c.size.new.self c.writable_part.new.machine (asks_pieces pid (h.space pid) 2 (part 0 count pieces))) held1 c.in_ok-parts.ensures.does in
    let asks = asks_pieces pid (held.space pid) 2 (part 0 count pieces) in
    let good1 : are_good ((g.M.Machine.held c.size.new.self).space pid) 2 (part 0 count pieces) ≡ true = search rules in
    let good = ap (λ (h : Held). are_good (h.space pid) 2 (part 0 count pieces)) (sym held1) ∙ good1 in
    let parts_are : c.as_slice.result.now ≡ part 0 count pieces = search rules in
    let reads = ReadsFile file c.args.off count ∷ [] in
    let held3 : g.M.Machine.held c.read.new.self ≡ held = laws.holds _ _ _ c.in_ok-bytes.ensures.does ∙ held2 in
    let got1 : c.as_slice-2.result.now ≡ piece (file_bytes (g.M.Machine.held c.writable_part.new.machine).files file) c.args.off count = search rules in
    let got = got1 ∙ ap (λ (h : Held). piece (file_bytes h.files file) c.args.off count) held2 ∙ (counted_piece bytes c.args.off c.args.n count count_is).1 in
    let copies = copies_out pid (part 0 count pieces) (piece bytes c.args.off c.args.n) in
    let copies_are : copies_out pid c.as_slice.result.now c.as_slice-2.result.now ≡ copies = λ i. copies_out pid (parts_are i) (got i) in
    let wrote = subst (g.M.Machine.does c.read.new.self c.write_pieces.new.machine) copies_are c.in_ok-write_pieces.ensures.does in
    let did = laws.both _ _ _ (AsksSize file ∷ []) (asks ++ (reads ++ copies)) c.in_ok-size.ensures.does (laws.both _ _ _ asks (reads ++ copies) asked (laws.both _ _ _ reads copies c.in_ok-bytes.ensures.does wrote)) in
    record {
      effects = (AsksSize file ∷ []) ++ (asks ++ (reads ++ copies));
      row_is = λ after.
          reads_file_is p (with_held held k) pid file c.args.off count pieces c.args.n after own (counted_piece bytes c.args.off c.args.n count count_is).0
          ∙ ap (following (AsksSize file ∷ [])) (checked_good pid (held.space pid) (part 0 count pieces) _ good)
          ∙ ap (λ es. Gives es count) (regroup (AsksSize file ∷ []) asks reads copies (after count));
      apart = record {
        did = did;
        still = λ man. both_still (AsksSize file ∷ []) (asks ++ (reads ++ copies)) man refl (both_still asks (reads ++ copies) man (asks_still pid (held.space pid) 2 (part 0 count pieces) man) (both_still reads copies man refl (copies_out_still pid (part 0 count pieces) (piece bytes c.args.off c.args.n) man)));
      };
    }

pub returns-clause-stops : goal.returns-clause-stops
returns-clause-stops g c p k after own = wrote_stops g.M.Machine.held g.M.Machine.does g.M.Machine.stops g.met.M.Machine.lawful _ _ _ _ _ (returns-clause-moves g c p k own) after
