use Rattle.std.proofs.Common.{◌≡◌, ap, [], ◌∷◌, Option, Some}
use Rattle.lego_base.specs.declared.ids.FileNo.{FileNo}
use Rattle.linux_model.specs.Called.{Gives}
use Rattle.linux_model.specs.Descriptors.{freeing}
use Rattle.linux_model.specs.Effects.{Unlinks}
use Rattle.linux_model.specs.FileCalls.{unlinked}
use Rattle.linux_model.specs.Held.{with_held}
use Rattle.linux_model.specs.Paths.{Named}
use Rattle.call_machine.specs.Lent.{kernel_of}
use Rattle.call_machine.proofs.Rows.{each_process, stops_as}
use Rattle.call_machine.proofs.Stops.{stops_follow}
use Rattle.sys_files.proofs.Naming.{frees_stay}
use Rattle.sys_files.proofs.names.unlink_named.Goals as goal

pub returns-in_err-unlink-clause-stops : goal.returns-in_err-unlink-clause-stops
returns-in_err-unlink-clause-stops g c pid k = each_process c.args.man.now pid _ (λ p own there.
    let man = c.args.man.now in
    let file = c.in-Some.file in
    let K = kernel_of man (g.M.Machine.held c.args.machine.now) k in
    let gone = Unlinks c.args.name.now in
    let frees = freeing (Some file.0) K in
    let row : unlinked K (Named c.args.name.now c.args.file) ≡ Gives (gone ∷ frees) 0 = ap (λ (o : Option FileNo). unlinked K (Named c.args.name.now o)) c.in-Some.is in
    stops_as g.M.Machine.held g.M.Machine.does g.M.Machine.stops g.met.M.Machine.lawful _ _ _ _ row (g.met.M.Machine.lawful.stops_front _ _ (gone ∷ []) frees c.unlink.ensures.stops))

pub returns-in_err-free_unopened-clause-stops : goal.returns-in_err-free_unopened-clause-stops
returns-in_err-free_unopened-clause-stops g c pid k = each_process c.args.man.now pid _ (λ p own there.
    let man = c.args.man.now in
    let file = c.in-Some.file in
    let K = kernel_of man (g.M.Machine.held c.args.machine.now) k in
    let gone = Unlinks c.args.name.now in
    let frees = freeing (Some file.0) K in
    let row : unlinked K (Named c.args.name.now c.args.file) ≡ Gives (gone ∷ frees) 0 = ap (λ (o : Option FileNo). unlinked K (Named c.args.name.now o)) c.in-Some.is in
    stops_as g.M.Machine.held g.M.Machine.does g.M.Machine.stops g.met.M.Machine.lawful _ _ _ _ row (g.met.M.Machine.lawful.stops_then _ _ _ (gone ∷ []) frees c.in_ok-unlink.ensures.does (c.free_unopened.ensures.stops (with_held (g.M.Machine.held c.args.machine.now) k))))

pub returns-clause-answers : goal.returns-clause-answers
returns-clause-answers g c pid k = each_process c.args.man.now pid _ (λ p own there.
    let man = c.args.man.now in
    let file = c.in-Some.file in
    let K = kernel_of man (g.M.Machine.held c.args.machine.now) k in
    let gone = Unlinks c.args.name.now in
    let frees = freeing (Some file.0) K in
    let row : unlinked K (Named c.args.name.now c.args.file) ≡ Gives (gone ∷ frees) 0 = ap (λ (o : Option FileNo). unlinked K (Named c.args.name.now o)) c.in-Some.is in
    record { effects = gone ∷ frees; row_is = row; did = g.met.M.Machine.lawful.both _ _ _ (gone ∷ []) frees c.in_ok-unlink.ensures.does (c.in_ok-free_unopened.ensures.does (with_held (g.M.Machine.held c.args.machine.now) k)); managed = frees_stay file.0 K man })

pub returns-clause-stops : goal.returns-clause-stops
returns-clause-stops g c pid k = each_process c.args.man.now pid _ (λ p own there.
    let man = c.args.man.now in
    let file = c.in-Some.file in
    let K = kernel_of man (g.M.Machine.held c.args.machine.now) k in
    let gone = Unlinks c.args.name.now in
    let frees = freeing (Some file.0) K in
    let row : unlinked K (Named c.args.name.now c.args.file) ≡ Gives (gone ∷ frees) 0 = ap (λ (o : Option FileNo). unlinked K (Named c.args.name.now o)) c.in-Some.is in
    stops_as g.M.Machine.held g.M.Machine.does g.M.Machine.stops g.met.M.Machine.lawful _ _ _ _ row ((stops_follow g.M.Machine.held g.M.Machine.does g.M.Machine.stops g.met.M.Machine.lawful).did _ _ (gone ∷ frees) (g.met.M.Machine.lawful.both _ _ _ (gone ∷ []) frees c.in_ok-unlink.ensures.does (c.in_ok-free_unopened.ensures.does (with_held (g.M.Machine.held c.args.machine.now) k)))))
