use Rattle.std.proofs.Common.{◌≡◌, ◌+◌, ◌-◌, arith, leb, length}
use Rattle.lego_msg.specs.Maps.{copied_pages}
use Rattle.mem_monitor.proofs.Copying.{length_copies}
use Rattle.mem_monitor.proofs.copies.copy_fits.Goals as goal

pub returns : goal.returns
returns c =
    let pages = c.args.pages.now.pages in
    let all = length_copies c.args.parent c.args.child c.requires.0 c.args.regions.now pages (c.used.ensures.form c.args.parent.0) c.requires.1 in
    let lost = c.count_all-lost.ensures.count in
    let gained = c.count_all-gained.ensures.count in
    let used = c.used.ensures.used in
    let few = c.count_all-lost.ensures.few in
    let total : c.used.result - c.count_all-lost.result + c.count_all-gained.result ≡ length (copied_pages c.args.parent.0 c.args.child c.args.regions.now pages) = omega (arith, all, lost, gained, used, few) in
    λ i. leb (total i) (c.frames.ensures i)
