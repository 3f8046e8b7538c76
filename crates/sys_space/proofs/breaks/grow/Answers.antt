use Rattle.std.proofs.Common.{rules, ◌≡◌, ◌∙◌, ◌-◌, List, ap, refl, subst, sym, [], ◌∷◌}
use Rattle.lego_base.specs.declared.records.Area.{Area}
use Rattle.call_machine.specs.Effects.{KeepsPages}
use Rattle.linux_model.specs.Held.{Held}
use Rattle.space_rules.specs.Place.{pages_for}
use Rattle.linux_model.specs.Effects.{AsksSpace, Breaks, Maps}
use Rattle.linux_model.specs.Called.{Gives, following}
use Rattle.linux_model.specs.SpaceCalls.{brk_between, grows}
use Rattle.sys_space.specs.Calls.{kernel_with, with_break, with_pid}
use Rattle.sys_space.proofs.Row.{asked, break_answered, done, stopped}
use Rattle.sys_space.proofs.Free.{put_keeps}
use Rattle.sys_space.proofs.breaks.grow.Goals as goal

pub map-requires : goal.map-requires
map-requires g c =
    let same = c.in_ok-areas.ensures.answer ∙ sym (ap (λ (h : Held). (h.space c.args.pid.0).areas) (g.met.M.Machine.lawful.holds _ _ (AsksSpace c.args.pid.0 ∷ []) c.in_ok-areas.ensures.does)) in
    record { keeps = subst (λ (areas : List Area). KeepsPages areas c.put_within.new.areas) same (put_keeps _ _ _ c.in_ok-areas.areas c.put_within.new.areas (c.if-not-put_within.ensures.sets refl) (sym c.if-not-is_free.ensures)) }

pub returns-in_err-areas-clause-stops : goal.returns-in_err-areas-clause-stops
returns-in_err-areas-clause-stops g c p k =
    let P = with_break c.args.brk.now (with_pid c.args.pid.0 p) in
    let K = kernel_with c.args.pid.0 c.args.brk.now (g.M.Machine.held c.args.machine.now) k in
    let row : brk_between P K c.args.address (pages_for c.args.brk.now.now) (pages_for c.args.address) ≡ following (AsksSpace c.args.pid.0 ∷ []) (grows P K c.args.address (pages_for c.args.brk.now.now) (pages_for c.args.address - pages_for c.args.brk.now.now)) = search rules in
    asked g.M.Machine.held g.M.Machine.does g.M.Machine.stops g.met.M.Machine.lawful _ _ (AsksSpace c.args.pid.0 ∷ []) _ _ row c.areas.ensures.stops

pub returns-in_err-map-clause-stops : goal.returns-in_err-map-clause-stops
returns-in_err-map-clause-stops g c p k =
    let P = with_break c.args.brk.now (with_pid c.args.pid.0 p) in
    let K = kernel_with c.args.pid.0 c.args.brk.now (g.M.Machine.held c.args.machine.now) k in
    let maps = Maps c.args.pid.0 c.put_within.new.areas in
    let moves = Breaks c.args.pid.0 c.args.brk.now.base c.args.address in
    let row : brk_between P K c.args.address (pages_for c.args.brk.now.now) (pages_for c.args.address) ≡ Gives (AsksSpace c.args.pid.0 ∷ maps ∷ moves ∷ []) c.args.address = search rules in
    stopped g.M.Machine.held g.M.Machine.does g.M.Machine.stops g.met.M.Machine.lawful _ _ _ (AsksSpace c.args.pid.0 ∷ []) (maps ∷ []) (moves ∷ []) _ c.args.address row c.in_ok-areas.ensures.does c.map.ensures.stops

pub returns-clause-answers : goal.returns-clause-answers
returns-clause-answers g c p k =
    let P = with_break c.args.brk.now (with_pid c.args.pid.0 p) in
    let K = kernel_with c.args.pid.0 c.args.brk.now (g.M.Machine.held c.args.machine.now) k in
    let maps = Maps c.args.pid.0 c.put_within.new.areas in
    let moves = Breaks c.args.pid.0 c.args.brk.now.base c.args.address in
    let row : brk_between P K c.args.address (pages_for c.args.brk.now.now) (pages_for c.args.address) ≡ Gives (AsksSpace c.args.pid.0 ∷ maps ∷ moves ∷ []) c.args.address = search rules in
    let did = g.met.M.Machine.lawful.both _ _ _ (AsksSpace c.args.pid.0 ∷ []) (maps ∷ []) c.in_ok-areas.ensures.does c.in_ok-map.ensures.does in
    break_answered g.M.Machine.held g.M.Machine.does g.M.Machine.stops g.met.M.Machine.lawful _ _ (AsksSpace c.args.pid.0 ∷ maps ∷ []) _ c.args.pid.0 c.args.address c.args.brk.now k row did refl

pub returns-clause-stops : goal.returns-clause-stops
returns-clause-stops g c p k =
    let P = with_break c.args.brk.now (with_pid c.args.pid.0 p) in
    let K = kernel_with c.args.pid.0 c.args.brk.now (g.M.Machine.held c.args.machine.now) k in
    let maps = Maps c.args.pid.0 c.put_within.new.areas in
    let moves = Breaks c.args.pid.0 c.args.brk.now.base c.args.address in
    let row : brk_between P K c.args.address (pages_for c.args.brk.now.now) (pages_for c.args.address) ≡ Gives (AsksSpace c.args.pid.0 ∷ maps ∷ moves ∷ []) c.args.address = search rules in
    let did = g.met.M.Machine.lawful.both _ _ _ (AsksSpace c.args.pid.0 ∷ []) (maps ∷ []) c.in_ok-areas.ensures.does c.in_ok-map.ensures.does in
    done g.M.Machine.held g.M.Machine.does g.M.Machine.stops g.met.M.Machine.lawful _ _ (AsksSpace c.args.pid.0 ∷ maps ∷ []) (moves ∷ []) _ c.args.address row did
