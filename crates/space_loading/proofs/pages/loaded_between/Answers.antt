use Rattle.std.proofs.Common.{◌≡◌, ◌-◌, sym, ◌∙◌, ap, List, [], length, drop, replicate, arith, rules}
use Rattle.std.proofs.Math.Seq.{drop-length}
use Rattle.lego_base.specs.Space.{bytes_at}
use Rattle.elf_image.specs.declared.image.Segment.{Segment}
use Rattle.space_rules.specs.Pages.{loaded}
use Rattle.space_loading.proofs.Laid.{lays, length_is, zeros_are}
use Rattle.space_loading.proofs.Stepping.{drop_step}
use Rattle.space_loading.proofs.pages.loaded_between.Goals as goal

pub loop-i-init : goal.loop-i-init
loop-i-init c =
    let zeros : c.in_ok-bytes.bytes.items ≡ replicate (c.args.end - c.args.first) 0 = search rules in
    zeros
    ∙ zeros_are (c.args.end - c.args.first) c.args.first
    ∙ ap (λ (segments : List Segment). bytes_at (record { areas = []; byte = loaded segments }) c.args.first (c.args.end - c.args.first)) (sym (drop-length c.args.segments.now))

pub lay-requires-clause-low : goal.lay-requires-clause-low
lay-requires-clause-low c =
    let size : length c.as_mut_slice.result.now ≡ c.args.end - c.args.first = ap length (c.as_mut_slice.ensures.value ∙ c.loop-i.invariant) ∙ length_is (record { areas = []; byte = loaded (drop c.loop-i.i c.args.segments.now) }) c.args.first (c.args.end - c.args.first) in
    omega (arith, size, c.requires.ordered, c.requires.low)

pub loop-i-preserved : goal.loop-i-preserved
loop-i-preserved c =
    lays c.args.segments.now c.index-segments-i.result c.loop-i.i c.args.first (c.args.end - c.args.first) c.loop-i.bytes.len c.loop-i.bytes.items c.as_mut_slice.result.now c.lay.new.bytes
    (drop_step c.args.segments.now c.loop-i.i c.index-segments-i.result c.loop-i-test.true c.loop-i.auto.i (sym c.index-segments-i.is))
    c.loop-i.invariant c.as_mut_slice.ensures.value c.loop-i.bytes.ok.0 c.lay.auto.bytes c.lay.ensures
