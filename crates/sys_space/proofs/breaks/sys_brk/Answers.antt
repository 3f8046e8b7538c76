use Rattle.std.proofs.Common.{rules, ◌≡◌, refl, [], ◌∷◌}
use Rattle.space_rules.specs.Place.{pages_for}
use Rattle.linux_model.specs.Effects.{Breaks}
use Rattle.linux_model.specs.Called.{Gives}
use Rattle.linux_model.specs.SpaceCalls.{brk_between, brk_row}
use Rattle.sys_space.specs.Calls.{kernel_with, with_break, with_pid}
use Rattle.sys_space.proofs.Row.{answered_as, break_answered, done, stopped_as}
use Rattle.sys_space.proofs.breaks.sys_brk.Goals as goal

pub returns-then-was-to-clause-answers : goal.returns-then-was-to-clause-answers
returns-then-was-to-clause-answers g c p k =
    let P = with_break c.args.brk.now (with_pid c.args.pid.0 p) in
    let K = kernel_with c.args.pid.0 c.args.brk.now (g.M.Machine.held c.args.machine.now) k in
    let row : brk_row P K c.args.address ≡ brk_between P K c.args.address (pages_for c.args.brk.now.now) (pages_for c.args.address) = search rules in
    answered_as g.M.Machine.held g.M.Machine.does g.M.Machine.stops g.met.M.Machine.lawful _ _ _ _ _ _ c.grow.result row (c.grow.ensures.answers p k)

pub returns-then-was-to-clause-stops : goal.returns-then-was-to-clause-stops
returns-then-was-to-clause-stops g c p k =
    let P = with_break c.args.brk.now (with_pid c.args.pid.0 p) in
    let K = kernel_with c.args.pid.0 c.args.brk.now (g.M.Machine.held c.args.machine.now) k in
    let row : brk_row P K c.args.address ≡ brk_between P K c.args.address (pages_for c.args.brk.now.now) (pages_for c.args.address) = search rules in
    stopped_as g.M.Machine.held g.M.Machine.does g.M.Machine.stops g.met.M.Machine.lawful _ _ _ _ row (c.grow.ensures.stops p k)

pub returns-then-to-was-clause-answers : goal.returns-then-to-was-clause-answers
returns-then-to-was-clause-answers g c p k =
    let P = with_break c.args.brk.now (with_pid c.args.pid.0 p) in
    let K = kernel_with c.args.pid.0 c.args.brk.now (g.M.Machine.held c.args.machine.now) k in
    let row : brk_row P K c.args.address ≡ brk_between P K c.args.address (pages_for c.args.brk.now.now) (pages_for c.args.address) = search rules in
    answered_as g.M.Machine.held g.M.Machine.does g.M.Machine.stops g.met.M.Machine.lawful _ _ _ _ _ _ c.shrink.result row (c.shrink.ensures.answers p k)

pub returns-then-to-was-clause-stops : goal.returns-then-to-was-clause-stops
returns-then-to-was-clause-stops g c p k =
    let P = with_break c.args.brk.now (with_pid c.args.pid.0 p) in
    let K = kernel_with c.args.pid.0 c.args.brk.now (g.M.Machine.held c.args.machine.now) k in
    let row : brk_row P K c.args.address ≡ brk_between P K c.args.address (pages_for c.args.brk.now.now) (pages_for c.args.address) = search rules in
    stopped_as g.M.Machine.held g.M.Machine.does g.M.Machine.stops g.met.M.Machine.lawful _ _ _ _ row (c.shrink.ensures.stops p k)

pub returns-else-to-was-clause-answers : goal.returns-else-to-was-clause-answers
returns-else-to-was-clause-answers g c p k =
    let P = with_break c.args.brk.now (with_pid c.args.pid.0 p) in
    let K = kernel_with c.args.pid.0 c.args.brk.now (g.M.Machine.held c.args.machine.now) k in
    let moves = Breaks c.args.pid.0 c.args.brk.now.base c.args.address in
    let row : brk_row P K c.args.address ≡ Gives (moves ∷ []) c.args.address = search rules in
    break_answered g.M.Machine.held g.M.Machine.does g.M.Machine.stops g.met.M.Machine.lawful _ _ [] _ c.args.pid.0 c.args.address c.args.brk.now k row (g.met.M.Machine.lawful.none _) refl

pub returns-else-to-was-clause-stops : goal.returns-else-to-was-clause-stops
returns-else-to-was-clause-stops g c p k =
    let P = with_break c.args.brk.now (with_pid c.args.pid.0 p) in
    let K = kernel_with c.args.pid.0 c.args.brk.now (g.M.Machine.held c.args.machine.now) k in
    let moves = Breaks c.args.pid.0 c.args.brk.now.base c.args.address in
    let row : brk_row P K c.args.address ≡ Gives (moves ∷ []) c.args.address = search rules in
    done g.M.Machine.held g.M.Machine.does g.M.Machine.stops g.met.M.Machine.lawful _ _ [] (moves ∷ []) _ _ row (g.met.M.Machine.lawful.none _)
