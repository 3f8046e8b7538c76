use Rattle.std.proofs.Common.{rules, ◌≡◌, false, ltb, length, subst, List, ℕ, [], ◌∷◌}
use Rattle.lego_base.specs.Pieces.{piece}
use Rattle.linux_model.specs.Effects.{LooksUp}
use Rattle.linux_model.specs.Held.{with_held}
use Rattle.linux_model.specs.Limits.{NAME_BYTES}
use Rattle.linux_model.specs.Paths.{parts_of, without_root_parts}
use Rattle.call_machine.proofs.Rows.{stops_in}
use Rattle.sys_paths.proofs.Walking.{looks_up}
use Rattle.sys_paths.proofs.walk.find_name.Goals as goal

pub returns-in_err-file-clause-stops : goal.returns-in_err-file-clause-stops
returns-in_err-file-clause-stops g c f k =
    let bytes = piece c.args.path.now c.args.name.start c.args.name.len in
    let short : ltb NAME_BYTES (length bytes) ≡ false = search rules in
    let looks = looks_up c.args.name.is_last (without_root_parts (parts_of c.args.path.now)) bytes (with_held (g.M.Machine.held c.args.machine.now) k) f c.requires.way short in
    stops_in g.M.Machine.held g.M.Machine.does g.M.Machine.stops g.met.M.Machine.lawful _ _ (LooksUp bytes ∷ []) _ looks.0 looks.1 (subst (λ (n : List ℕ). g.M.Machine.stops c.args.machine.now c.find.new.self (LooksUp n ∷ [])) c.piece-bytes.ensures c.find.ensures.stops)

pub returns-in_err-named-clause-stops : goal.returns-in_err-named-clause-stops
returns-in_err-named-clause-stops g c f k =
    let bytes = piece c.args.path.now c.args.name.start c.args.name.len in
    let short : ltb NAME_BYTES (length bytes) ≡ false = search rules in
    let looks = looks_up c.args.name.is_last (without_root_parts (parts_of c.args.path.now)) bytes (with_held (g.M.Machine.held c.args.machine.now) k) f c.requires.way short in
    stops_in g.M.Machine.held g.M.Machine.does g.M.Machine.stops g.met.M.Machine.lawful _ _ (LooksUp bytes ∷ []) _ looks.0 looks.1 (subst (λ (n : List ℕ). g.M.Machine.stops c.args.machine.now c.find.new.self (LooksUp n ∷ [])) c.piece-bytes.ensures c.find.ensures.stops)

pub returns-then-name-2-clause-stops : goal.returns-then-name-2-clause-stops
returns-then-name-2-clause-stops g c f k =
    let bytes = piece c.args.path.now c.args.name.start c.args.name.len in
    let short : ltb NAME_BYTES (length bytes) ≡ false = search rules in
    let looks = looks_up c.args.name.is_last (without_root_parts (parts_of c.args.path.now)) bytes (with_held (g.M.Machine.held c.args.machine.now) k) f c.requires.way short in
    stops_in g.M.Machine.held g.M.Machine.does g.M.Machine.stops g.met.M.Machine.lawful _ _ (LooksUp bytes ∷ []) _ looks.0 looks.1 (subst (λ (n : List ℕ). g.M.Machine.stops c.args.machine.now c.find.new.self (LooksUp n ∷ [])) c.piece-bytes.ensures c.find.ensures.stops)
