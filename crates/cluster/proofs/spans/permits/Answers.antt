use Rattle.std.proofs.Common.{◌≡◌, ◌+◌, ◌-◌, ◌/◌, ◌%◌, ◌<◌, ◌≤◌, ◌∙◌, arith, rules, sym, true}
use Rattle.lego_base.specs.Space.{allows, perms_of}
use Rattle.cluster.specs.Permitted.{bare}
use Rattle.cluster.proofs.Reaching.{permits-first, permits-room, permits-within}
use Rattle.cluster.proofs.spans.permits.Goals as goal

pub returns-then-not-page_allows : goal.returns-then-not-page_allows
returns-then-not-page_allows c =
    sym (permits-first (bare c.args.areas.now) c.args.need.0 c.loop-left.at c.loop-left.left c.loop-left-test.true (search rules)) ∙ c.loop-left.invariant.same

pub returns-then-left-room : goal.returns-then-left-room
returns-then-left-room c =
    let at = c.loop-left.at in
    let ok : allows (perms_of c.args.areas.now (at / 4096)) c.args.need.0 ≡ true = search rules in
    let some : 0 < c.loop-left.left = c.loop-left-test.true in
    let within : at % 4096 + c.loop-left.left ≤ 4096 = omega arith in
    sym (permits-within (bare c.args.areas.now) c.args.need.0 at c.loop-left.left some within ∙ ok) ∙ c.loop-left.invariant.same

pub loop-left-preserved : goal.loop-left-preserved
loop-left-preserved c =
    let at = c.loop-left.at in
    let ok : allows (perms_of c.args.areas.now (at / 4096)) c.args.need.0 ≡ true = search rules in
    record {
      same = permits-room (bare c.args.areas.now) c.args.need.0 at (4096 - at % 4096) c.loop-left.left (omega arith) (omega arith) (omega arith) ok ∙ c.loop-left.invariant.same;
      end = omega arith;
    }
