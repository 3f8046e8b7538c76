use Rattle.std.proofs.Common.{rules, ◌≡◌, ◌*◌, ◌/◌, ◌||◌, refl, [], ◌∷◌, arith}
use Rattle.area_list.specs.Runs.{cut_runs, put_runs}
use Rattle.space_rules.specs.Place.{pages_for}
use Rattle.linux_model.specs.Limits.{ENOMEM}
use Rattle.linux_model.specs.Effects.{AsksSpace, Maps, Unmaps}
use Rattle.linux_model.specs.Called.{Gives, first, following}
use Rattle.linux_model.specs.Held.{with_held}
use Rattle.linux_model.specs.SpaceCalls.{areas_of, is_past_limits}
use Rattle.sys_space.specs.Calls.{fixed_row, with_pid}
use Rattle.sys_space.proofs.Row.{answered, asked, done, stopped}
use Rattle.sys_space.proofs.mappings.map_fixed.Goals as goal

pub returns-in_err-areas-clause-stops : goal.returns-in_err-areas-clause-stops
returns-in_err-areas-clause-stops g c p k =
    let P = with_pid c.args.pid.0 p in
    let K = with_held (g.M.Machine.held c.args.machine.now) k in
    let cut = cut_runs (c.args.address / 4096) (pages_for c.args.len) (areas_of P K) in
    let put = put_runs (c.args.address / 4096) (pages_for c.args.len) c.args.perms cut in
    let row : fixed_row c.args.address c.args.len c.args.perms P K ≡ following (AsksSpace c.args.pid.0 ∷ []) (first ((is_past_limits cut || is_past_limits put, ENOMEM) ∷ []) (Gives (Unmaps c.args.pid.0 (c.args.address / 4096) (pages_for c.args.len) ∷ Maps c.args.pid.0 put ∷ []) (c.args.address / 4096 * 4096))) = search rules in
    asked g.M.Machine.held g.M.Machine.does g.M.Machine.stops g.met.M.Machine.lawful _ _ (AsksSpace c.args.pid.0 ∷ []) _ _ row c.areas.ensures.stops

pub returns-in_err-unmap-clause-stops : goal.returns-in_err-unmap-clause-stops
returns-in_err-unmap-clause-stops g c p k =
    let P = with_pid c.args.pid.0 p in
    let K = with_held (g.M.Machine.held c.args.machine.now) k in
    let unmaps = Unmaps c.args.pid.0 (c.args.address / 4096) c.pages_for-pages.result in
    let maps = Maps c.args.pid.0 c.put_within.new.areas in
    let back : c.args.address / 4096 * 4096 ≡ c.args.address = omega arith in
    let row : fixed_row c.args.address c.args.len c.args.perms P K ≡ Gives (AsksSpace c.args.pid.0 ∷ unmaps ∷ maps ∷ []) c.args.address = search (rules, back) in
    stopped g.M.Machine.held g.M.Machine.does g.M.Machine.stops g.met.M.Machine.lawful _ _ _ (AsksSpace c.args.pid.0 ∷ []) (unmaps ∷ []) (maps ∷ []) _ _ row c.in_ok-areas.ensures.does c.unmap.ensures.stops

pub returns-in_err-map-clause-stops : goal.returns-in_err-map-clause-stops
returns-in_err-map-clause-stops g c p k =
    let P = with_pid c.args.pid.0 p in
    let K = with_held (g.M.Machine.held c.args.machine.now) k in
    let unmaps = Unmaps c.args.pid.0 (c.args.address / 4096) c.pages_for-pages.result in
    let maps = Maps c.args.pid.0 c.put_within.new.areas in
    let back : c.args.address / 4096 * 4096 ≡ c.args.address = omega arith in
    let row : fixed_row c.args.address c.args.len c.args.perms P K ≡ Gives (AsksSpace c.args.pid.0 ∷ unmaps ∷ maps ∷ []) c.args.address = search (rules, back) in
    let did = g.met.M.Machine.lawful.both _ _ _ (AsksSpace c.args.pid.0 ∷ []) (unmaps ∷ []) c.in_ok-areas.ensures.does c.in_ok-unmap.ensures.does in
    stopped g.M.Machine.held g.M.Machine.does g.M.Machine.stops g.met.M.Machine.lawful _ _ _ (AsksSpace c.args.pid.0 ∷ unmaps ∷ []) (maps ∷ []) [] _ _ row did c.map.ensures.stops

pub returns-clause-answers : goal.returns-clause-answers
returns-clause-answers g c p k =
    let P = with_pid c.args.pid.0 p in
    let K = with_held (g.M.Machine.held c.args.machine.now) k in
    let unmaps = Unmaps c.args.pid.0 (c.args.address / 4096) c.pages_for-pages.result in
    let maps = Maps c.args.pid.0 c.put_within.new.areas in
    let back : c.args.address / 4096 * 4096 ≡ c.args.address = omega arith in
    let row : fixed_row c.args.address c.args.len c.args.perms P K ≡ Gives (AsksSpace c.args.pid.0 ∷ unmaps ∷ maps ∷ []) c.args.address = search (rules, back) in
    let did = g.met.M.Machine.lawful.both _ _ _ (AsksSpace c.args.pid.0 ∷ []) (unmaps ∷ []) c.in_ok-areas.ensures.does c.in_ok-unmap.ensures.does in
    let all = g.met.M.Machine.lawful.both _ _ _ (AsksSpace c.args.pid.0 ∷ unmaps ∷ []) (maps ∷ []) did c.in_ok-map.ensures.does in
    answered g.M.Machine.held g.M.Machine.does g.M.Machine.stops g.met.M.Machine.lawful _ _ (AsksSpace c.args.pid.0 ∷ unmaps ∷ maps ∷ []) _ k _ row all refl

pub returns-clause-stops : goal.returns-clause-stops
returns-clause-stops g c p k =
    let P = with_pid c.args.pid.0 p in
    let K = with_held (g.M.Machine.held c.args.machine.now) k in
    let unmaps = Unmaps c.args.pid.0 (c.args.address / 4096) c.pages_for-pages.result in
    let maps = Maps c.args.pid.0 c.put_within.new.areas in
    let back : c.args.address / 4096 * 4096 ≡ c.args.address = omega arith in
    let row : fixed_row c.args.address c.args.len c.args.perms P K ≡ Gives (AsksSpace c.args.pid.0 ∷ unmaps ∷ maps ∷ []) c.args.address = search (rules, back) in
    let did = g.met.M.Machine.lawful.both _ _ _ (AsksSpace c.args.pid.0 ∷ []) (unmaps ∷ []) c.in_ok-areas.ensures.does c.in_ok-unmap.ensures.does in
    let all = g.met.M.Machine.lawful.both _ _ _ (AsksSpace c.args.pid.0 ∷ unmaps ∷ []) (maps ∷ []) did c.in_ok-map.ensures.does in
    done g.M.Machine.held g.M.Machine.does g.M.Machine.stops g.met.M.Machine.lawful _ _ (AsksSpace c.args.pid.0 ∷ unmaps ∷ maps ∷ []) [] _ _ row all
