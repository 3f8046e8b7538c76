use Rattle.std.proofs.Common.{◌≡◌, ◌∙◌, ap, sym, subst, refl, List, [], ◌∷◌}
use Rattle.linux_model.specs.Descriptors.{closing}
use Rattle.linux_model.specs.Effects.{Effect, Closes, FreesFile}
use Rattle.linux_model.specs.Managed.{managed_after, managed_after_all, with_managed}
use Rattle.linux_model.proofs.Managing.{others_stay}
use Rattle.call_machine.proofs.Stops.{stops_follow}
use Rattle.call_parts.proofs.closing.close_open.Goals as goal

pub returns-in_err-free-clause-stops : goal.returns-in_err-free-clause-stops
returns-in_err-free-clause-stops g c k =
    let laws = g.met.M.Machine.lawful in
    let old = c.args.machine.now in
    let closes = Closes c.args.pid.0 c.args.fd in
    let freed = FreesFile c.in-Some.file.0 in
    let is : closing c.args.pid.0 c.args.fd (with_managed c.args.man.now k) ≡ closes ∷ freed ∷ [] = c.in-Some.ensures.frees k in
    subst (g.M.Machine.stops old c.free.new.self) (sym is) (laws.stops_then old old _ (closes ∷ []) (freed ∷ []) (laws.apart old closes refl) c.free.ensures.stops)

pub returns-in_ok-free-clause-closes : goal.returns-in_ok-free-clause-closes
returns-in_ok-free-clause-closes g c k =
    let laws = g.met.M.Machine.lawful in
    let old = c.args.machine.now in
    let closes = Closes c.args.pid.0 c.args.fd in
    let freed = FreesFile c.in-Some.file.0 in
    let is : closing c.args.pid.0 c.args.fd (with_managed c.args.man.now k) ≡ closes ∷ freed ∷ [] = c.in-Some.ensures.frees k in
    subst (g.M.Machine.does old c.free.new.self) (sym is) (laws.both old old _ (closes ∷ []) (freed ∷ []) (laws.apart old closes refl) c.in_ok-free.ensures.does)

pub returns-in_ok-free-clause-stops : goal.returns-in_ok-free-clause-stops
returns-in_ok-free-clause-stops g c k =
    (stops_follow g.M.Machine.held g.M.Machine.does g.M.Machine.stops g.met.M.Machine.lawful).did _ _ _ (returns-in_ok-free-clause-closes g c k)

pub returns-in_default-clause-closes : goal.returns-in_default-clause-closes
returns-in_default-clause-closes g c k =
    let old = c.args.machine.now in
    let closes = Closes c.args.pid.0 c.args.fd in
    let is : closing c.args.pid.0 c.args.fd (with_managed c.args.man.now k) ≡ closes ∷ [] = c.in_default.ensures.frees k in
    subst (g.M.Machine.does old old) (sym is) (g.met.M.Machine.lawful.apart old closes refl)

pub returns-in_default-clause-stops : goal.returns-in_default-clause-stops
returns-in_default-clause-stops g c k =
    (stops_follow g.M.Machine.held g.M.Machine.does g.M.Machine.stops g.met.M.Machine.lawful).did _ _ _ (returns-in_default-clause-closes g c k)

pub returns-in_err-free-clause-managed : goal.returns-in_err-free-clause-managed
returns-in_err-free-clause-managed g c k =
    let man = c.args.man.now in
    let freed = FreesFile c.in-Some.file.0 in
    ap (λ (es : List Effect). managed_after_all es man) (c.in-Some.ensures.frees k)
    ∙ others_stay freed (managed_after (Closes c.args.pid.0 c.args.fd) man) refl
    ∙ sym c.in-Some.ensures.closed

pub returns-in_ok-free-clause-managed : goal.returns-in_ok-free-clause-managed
returns-in_ok-free-clause-managed g c k =
    let man = c.args.man.now in
    let freed = FreesFile c.in-Some.file.0 in
    ap (λ (es : List Effect). managed_after_all es man) (c.in-Some.ensures.frees k)
    ∙ others_stay freed (managed_after (Closes c.args.pid.0 c.args.fd) man) refl
    ∙ sym c.in-Some.ensures.closed

pub returns-in_default-clause-managed : goal.returns-in_default-clause-managed
returns-in_default-clause-managed g c k =
    ap (λ (es : List Effect). managed_after_all es c.args.man.now) (c.in_default.ensures.frees k)
    ∙ sym c.in_default.ensures.closed
