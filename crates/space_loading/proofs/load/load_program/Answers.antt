use Rattle.std.proofs.Common.{refl, sym, ◌∙◌, ap, subst, [], All}
use Rattle.elf_image.specs.Image.{IsBoundedSegment}
use Rattle.space_rules.specs.Start.{stack_bytes}
use Rattle.linux_model.specs.Loading.{loads_program}
use Rattle.call_machine.proofs.Stops.{stops_follow}
use Rattle.space_loading.proofs.Loaded.{image_mapped, loaded, stack_there, stopped_loading, stopped_mapping, stopped_stacking}
use Rattle.space_loading.proofs.load.load_program.Goals as goal

pub returns-in_err-stack-clause-stops : goal.returns-in_err-stack-clause-stops
returns-in_err-stack-clause-stops g c =
    g.met.M.Machine.lawful.stops_front _ _ [] (loads_program c.args.pid.0 c.args.image.now c.args.args.now c.args.env.now) (g.met.M.Machine.lawful.not_begun _)

pub returns-in_err-areas-clause-stops : goal.returns-in_err-areas-clause-stops
returns-in_err-areas-clause-stops g c =
    g.met.M.Machine.lawful.stops_front _ _ [] (loads_program c.args.pid.0 c.args.image.now c.args.args.now c.args.env.now) (g.met.M.Machine.lawful.not_begun _)

pub returns-in_err-map-clause-stops : goal.returns-in_err-map-clause-stops
returns-in_err-map-clause-stops g c =
    let stack = c.in_ok-stack.ensures.bytes ∙ ap (stack_bytes c.args.args.now c.args.env.now) c.entry.ensures.value in
    stopped_mapping g.M.Machine.held g.M.Machine.does g.M.Machine.stops g.met.M.Machine.lawful c.args.pid.0 c.args.image.now c.args.args.now c.args.env.now c.in_ok-areas.areas c.args.image.now.segments c.in_ok-stack.stack.sp c.in_ok-stack.stack.bytes c.in_ok-areas.ensures refl c.in_ok-stack.ensures.sp stack _ _ c.map.ensures.stops

pub returns-in_err-fill_loads-clause-stops : goal.returns-in_err-fill_loads-clause-stops
returns-in_err-fill_loads-clause-stops g c =
    let stack = c.in_ok-stack.ensures.bytes ∙ ap (stack_bytes c.args.args.now c.args.env.now) c.entry.ensures.value in
    stopped_loading g.M.Machine.held g.M.Machine.does g.M.Machine.stops g.met.M.Machine.lawful c.args.pid.0 c.args.image.now c.args.args.now c.args.env.now c.in_ok-areas.areas c.segments.result.now c.in_ok-stack.stack.sp c.in_ok-stack.stack.bytes c.in_ok-areas.ensures c.segments.ensures.value c.in_ok-stack.ensures.sp stack _ _ _ c.in_ok-map.ensures.does c.fill_loads.ensures.stops

pub fill_stack-requires-clause-mapped : goal.fill_stack-requires-clause-mapped
fill_stack-requires-clause-mapped g c =
    let mapped = image_mapped g.M.Machine.held g.M.Machine.does g.M.Machine.stops g.met.M.Machine.lawful c.args.pid.0 c.args.image.now _ _ c.in_ok-areas.areas c.segments.result.now c.in_ok-areas.ensures c.segments.ensures.value c.in_ok-map.ensures.does in
    stack_there g.M.Machine.held g.M.Machine.does g.M.Machine.stops g.met.M.Machine.lawful c.args.pid.0 c.args.image.now _ _ c.segments.result.now (subst (All IsBoundedSegment) (sym c.segments.ensures.value) c.segments.ensures.bounded.each) mapped c.in_ok-fill_loads.ensures.does

pub returns-in_err-fill_stack-clause-stops : goal.returns-in_err-fill_stack-clause-stops
returns-in_err-fill_stack-clause-stops g c =
    let stack = c.as_slice.ensures ∙ c.in_ok-stack.ensures.bytes ∙ ap (stack_bytes c.args.args.now c.args.env.now) c.entry.ensures.value in
    stopped_stacking g.M.Machine.held g.M.Machine.does g.M.Machine.stops g.met.M.Machine.lawful c.args.pid.0 c.args.image.now c.args.args.now c.args.env.now c.in_ok-areas.areas c.segments.result.now c.in_ok-stack.stack.sp c.as_slice.result.now c.in_ok-areas.ensures c.segments.ensures.value c.in_ok-stack.ensures.sp stack _ _ _ _ c.in_ok-map.ensures.does c.in_ok-fill_loads.ensures.does c.fill_stack.ensures.stops

pub returns-clause-does : goal.returns-clause-does
returns-clause-does g c =
    let stack = c.as_slice.ensures ∙ c.in_ok-stack.ensures.bytes ∙ ap (stack_bytes c.args.args.now c.args.env.now) c.entry.ensures.value in
    loaded g.M.Machine.held g.M.Machine.does g.M.Machine.stops g.met.M.Machine.lawful c.args.pid.0 c.args.image.now c.args.args.now c.args.env.now c.in_ok-areas.areas c.segments.result.now c.in_ok-stack.stack.sp c.as_slice.result.now c.in_ok-areas.ensures c.segments.ensures.value c.in_ok-stack.ensures.sp stack _ _ _ _ c.in_ok-map.ensures.does c.in_ok-fill_loads.ensures.does c.in_ok-fill_stack.ensures.does

pub returns-clause-stops : goal.returns-clause-stops
returns-clause-stops g c =
    let stack = c.as_slice.ensures ∙ c.in_ok-stack.ensures.bytes ∙ ap (stack_bytes c.args.args.now c.args.env.now) c.entry.ensures.value in
    (stops_follow g.M.Machine.held g.M.Machine.does g.M.Machine.stops g.met.M.Machine.lawful).did _ _ _
    (loaded g.M.Machine.held g.M.Machine.does g.M.Machine.stops g.met.M.Machine.lawful c.args.pid.0 c.args.image.now c.args.args.now c.args.env.now c.in_ok-areas.areas c.segments.result.now c.in_ok-stack.stack.sp c.as_slice.result.now c.in_ok-areas.ensures c.segments.ensures.value c.in_ok-stack.ensures.sp stack _ _ _ _ c.in_ok-map.ensures.does c.in_ok-fill_loads.ensures.does c.in_ok-fill_stack.ensures.does)
