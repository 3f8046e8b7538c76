use Rattle.std.proofs.Common.{◌≡◌, ◌+◌, ◌-◌, take, drop, ap, ◌∙◌, arith, rules}
use Rattle.lego_base.specs.Space.{with_bytes}
use Rattle.flat_memory.specs.Spaces.{space_of}
use Rattle.flat_memory.proofs.Stores.{fill-more}
use Rattle.flat_memory.proofs.space.FlatSpace.fill.Goals as goal

pub loop-done-preserved : goal.loop-done-preserved
loop-done-preserved c =
    let done = c.loop-done.done in
    let more = c.min.result in
    let bytes = c.args.bytes.now in
    let width : done + more - done ≡ more = omega arith in
    let page : space_of c.fill_page.new.self ≡ with_bytes (space_of c.loop-done.self) (c.args.addr + done) (take (done + more - done) (drop done bytes)) = search rules in
    record {
      within = omega arith;
      filled = page
          ∙ ap (λ n. with_bytes (space_of c.loop-done.self) (c.args.addr + done) (take n (drop done bytes))) width
          ∙ ap (λ s. with_bytes s (c.args.addr + done) (take more (drop done bytes))) c.loop-done.invariant.filled
          ∙ fill-more (space_of c.args.self.now) c.args.addr done more bytes c.loop-done.invariant.within;
    }
