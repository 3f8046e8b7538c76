use Rattle.std.proofs.Common.{rules, ◌≡◌, ◌/◌, not, refl, [], ◌∷◌}
use Rattle.area_list.specs.Runs.{put_runs}
use Rattle.area_list.specs.Cover.{covered}
use Rattle.space_rules.specs.Place.{pages_for}
use Rattle.linux_model.specs.Limits.{ENOMEM}
use Rattle.linux_model.specs.Effects.{AsksSpace, Protects}
use Rattle.linux_model.specs.Called.{Gives, first, following}
use Rattle.linux_model.specs.Held.{with_held}
use Rattle.linux_model.specs.SpaceCalls.{areas_of, has_many_runs, mprotect_row, perms}
use Rattle.sys_space.specs.Calls.{with_pid}
use Rattle.sys_space.proofs.Row.{answered, asked, done, stopped}
use Rattle.sys_space.proofs.mappings.sys_mprotect.Goals as goal

pub returns-in_err-areas-clause-stops : goal.returns-in_err-areas-clause-stops
returns-in_err-areas-clause-stops g c p k =
    let P = with_pid c.args.pid.0 p in
    let K = with_held (g.M.Machine.held c.args.machine.now) k in
    let row : mprotect_row P K c.args.address c.args.len c.args.prot ≡ following (AsksSpace c.args.pid.0 ∷ []) (first ((not (covered (areas_of P K) (c.args.address / 4096) (pages_for c.args.len) (perms 0)), ENOMEM) ∷ (has_many_runs (put_runs (c.args.address / 4096) (pages_for c.args.len) (perms c.args.prot) (areas_of P K)), ENOMEM) ∷ []) (Gives (Protects c.args.pid.0 (c.args.address / 4096) (pages_for c.args.len) (put_runs (c.args.address / 4096) (pages_for c.args.len) (perms c.args.prot) (areas_of P K)) ∷ []) 0)) = search rules in
    asked g.M.Machine.held g.M.Machine.does g.M.Machine.stops g.met.M.Machine.lawful _ _ (AsksSpace c.args.pid.0 ∷ []) _ _ row c.areas.ensures.stops

pub returns-in_err-protect-clause-stops : goal.returns-in_err-protect-clause-stops
returns-in_err-protect-clause-stops g c p k =
    let P = with_pid c.args.pid.0 p in
    let K = with_held (g.M.Machine.held c.args.machine.now) k in
    let protects = Protects c.args.pid.0 (c.args.address / 4096) c.pages_for-pages.result c.put_few.new.areas in
    let row : mprotect_row P K c.args.address c.args.len c.args.prot ≡ Gives (AsksSpace c.args.pid.0 ∷ protects ∷ []) 0 = search rules in
    stopped g.M.Machine.held g.M.Machine.does g.M.Machine.stops g.met.M.Machine.lawful _ _ _ (AsksSpace c.args.pid.0 ∷ []) (protects ∷ []) [] _ 0 row c.in_ok-areas.ensures.does c.protect.ensures.stops

pub returns-clause-answers : goal.returns-clause-answers
returns-clause-answers g c p k =
    let P = with_pid c.args.pid.0 p in
    let K = with_held (g.M.Machine.held c.args.machine.now) k in
    let protects = Protects c.args.pid.0 (c.args.address / 4096) c.pages_for-pages.result c.put_few.new.areas in
    let row : mprotect_row P K c.args.address c.args.len c.args.prot ≡ Gives (AsksSpace c.args.pid.0 ∷ protects ∷ []) 0 = search rules in
    let did = g.met.M.Machine.lawful.both _ _ _ (AsksSpace c.args.pid.0 ∷ []) (protects ∷ []) c.in_ok-areas.ensures.does c.in_ok-protect.ensures.does in
    answered g.M.Machine.held g.M.Machine.does g.M.Machine.stops g.met.M.Machine.lawful _ _ (AsksSpace c.args.pid.0 ∷ protects ∷ []) _ k 0 row did refl

pub returns-clause-stops : goal.returns-clause-stops
returns-clause-stops g c p k =
    let P = with_pid c.args.pid.0 p in
    let K = with_held (g.M.Machine.held c.args.machine.now) k in
    let protects = Protects c.args.pid.0 (c.args.address / 4096) c.pages_for-pages.result c.put_few.new.areas in
    let row : mprotect_row P K c.args.address c.args.len c.args.prot ≡ Gives (AsksSpace c.args.pid.0 ∷ protects ∷ []) 0 = search rules in
    let did = g.met.M.Machine.lawful.both _ _ _ (AsksSpace c.args.pid.0 ∷ []) (protects ∷ []) c.in_ok-areas.ensures.does c.in_ok-protect.ensures.does in
    done g.M.Machine.held g.M.Machine.does g.M.Machine.stops g.met.M.Machine.lawful _ _ (AsksSpace c.args.pid.0 ∷ protects ∷ []) [] _ 0 row did
