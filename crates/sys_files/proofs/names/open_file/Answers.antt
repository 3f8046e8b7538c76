use Rattle.std.proofs.Common.{◌≡◌, ◌++◌, sym, ◌∙◌, ap, refl, [], ◌∷◌, ℕ}
use Rattle.kernel_objects.specs.declared.descriptor.Object.TheVariants.{Regular}
use Rattle.linux_model.specs.Called.{Gives}
use Rattle.linux_model.specs.Effects.{Opens}
use Rattle.linux_model.specs.FileCalls.{opens_file}
use Rattle.linux_model.specs.Limits.{has, O_CLOEXEC}
use Rattle.linux_model.specs.Managed.{managed_after}
use Rattle.linux_model.proofs.Managing.{managed-append}
use Rattle.call_machine.proofs.Rows.{each_process, stops_as, stops_end}
use Rattle.sys_files.specs.Names.{cuts}
use Rattle.sys_files.proofs.Naming.{cuts_stay}
use Rattle.sys_files.proofs.names.open_file.Goals as goal

pub returns-in_err-cut_as_asked-clause-stops : goal.returns-in_err-cut_as_asked-clause-stops
returns-in_err-cut_as_asked-clause-stops g c k = each_process c.args.man.now c.args.pid.0 _ (λ p own there.
    let es = cuts c.args.file.0 c.args.flags in
    let opens = Opens c.args.pid.0 c.args.fd (Regular c.args.file) c.args.flags (has c.args.flags O_CLOEXEC) in
    let row : opens_file p c.args.fd c.args.file.0 c.args.flags ≡ Gives (es ++ opens ∷ []) c.args.fd = ap (λ (n : ℕ). Gives (es ++ Opens n c.args.fd (Regular c.args.file) c.args.flags (has c.args.flags O_CLOEXEC) ∷ []) c.args.fd) own in
    stops_as g.M.Machine.held g.M.Machine.does g.M.Machine.stops g.met.M.Machine.lawful _ _ _ _ row (g.met.M.Machine.lawful.stops_front _ _ es (opens ∷ []) c.cut_as_asked.ensures.stops))

pub returns-clause-answers : goal.returns-clause-answers
returns-clause-answers g c k = each_process c.args.man.now c.args.pid.0 _ (λ p own there.
    let man = c.args.man.now in
    let es = cuts c.args.file.0 c.args.flags in
    let opens = Opens c.args.pid.0 c.args.fd (Regular c.args.file) c.args.flags (has c.args.flags O_CLOEXEC) in
    let row : opens_file p c.args.fd c.args.file.0 c.args.flags ≡ Gives (es ++ opens ∷ []) c.from.result = ap (λ (n : ℕ). Gives (es ++ Opens n c.args.fd (Regular c.args.file) c.args.flags (has c.args.flags O_CLOEXEC) ∷ []) c.args.fd) own ∙ ap (λ (n : ℕ). Gives (es ++ opens ∷ []) n) (sym c.from.ensures) in
    record {
      effects = es ++ opens ∷ [];
      row_is = row;
      did = g.met.M.Machine.lawful.both _ _ _ es (opens ∷ []) c.in_ok-cut_as_asked.ensures.does (g.met.M.Machine.lawful.apart _ opens refl);
      managed = managed-append es (opens ∷ []) man ∙ ap (managed_after opens) (cuts_stay c.args.file.0 c.args.flags man) ∙ sym c.open.ensures;
    })

pub returns-clause-stops : goal.returns-clause-stops
returns-clause-stops g c k = each_process c.args.man.now c.args.pid.0 _ (λ p own there.
    let es = cuts c.args.file.0 c.args.flags in
    let opens = Opens c.args.pid.0 c.args.fd (Regular c.args.file) c.args.flags (has c.args.flags O_CLOEXEC) in
    let row : opens_file p c.args.fd c.args.file.0 c.args.flags ≡ Gives (es ++ opens ∷ []) c.args.fd = ap (λ (n : ℕ). Gives (es ++ Opens n c.args.fd (Regular c.args.file) c.args.flags (has c.args.flags O_CLOEXEC) ∷ []) c.args.fd) own in
    stops_as g.M.Machine.held g.M.Machine.does g.M.Machine.stops g.met.M.Machine.lawful _ _ _ _ row (stops_end g.M.Machine.held g.M.Machine.does g.M.Machine.stops g.met.M.Machine.lawful _ _ es (opens ∷ []) c.in_ok-cut_as_asked.ensures.does))
