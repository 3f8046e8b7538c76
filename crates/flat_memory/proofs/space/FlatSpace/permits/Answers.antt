use Rattle.std.proofs.Common.{◌≡◌, ◌+◌, ◌-◌, ◌/◌, ◌%◌, ◌<◌, ◌≤◌, true, sym, ◌∙◌, arith, rules}
use Rattle.lego_base.specs.Space.{allows, perms_of}
use Rattle.flat_memory.specs.Spaces.{space_of}
use Rattle.flat_memory.proofs.Accesses.{permits-within, permits-room, permits-first}
use Rattle.flat_memory.proofs.space.FlatSpace.permits.Goals as goal

pub returns-then-not-page_permits-clause-permits : goal.returns-then-not-page_permits-clause-permits
returns-then-not-page_permits-clause-permits c =
    let s = c.args.self.now in
    sym (permits-first (space_of s) c.args.need c.loop-left.at c.loop-left.left c.loop-left-test.true (search rules)) ∙ c.loop-left.invariant.same

pub returns-then-left-room-clause-permits : goal.returns-then-left-room-clause-permits
returns-then-left-room-clause-permits c =
    let s = c.args.self.now in
    let at = c.loop-left.at in
    let ok : allows (perms_of s.areas (at / 4096)) c.args.need ≡ true = search rules in
    let some : 0 < c.loop-left.left = c.loop-left-test.true in
    let within : at % 4096 + c.loop-left.left ≤ 4096 = omega arith in
    sym (permits-within (space_of s) c.args.need at c.loop-left.left some within ∙ ok) ∙ c.loop-left.invariant.same

pub loop-left-preserved : goal.loop-left-preserved
loop-left-preserved c =
    let s = c.args.self.now in
    let at = c.loop-left.at in
    let ok : allows (perms_of s.areas (at / 4096)) c.args.need ≡ true = search rules in
    record {
      same = permits-room (space_of s) c.args.need at (4096 - at % 4096) c.loop-left.left (omega arith) (omega arith) (omega arith) ok ∙ c.loop-left.invariant.same;
      end = omega arith;
      some = λ h. omega arith;
    }
