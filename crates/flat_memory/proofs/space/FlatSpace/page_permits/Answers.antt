use Rattle.std.proofs.Common.{◌≡◌, ◌/◌, ◌^◌, ◌<◌, true, sym, ap, ◌∙◌, arith}
use Rattle.lego_base.specs.Space.{allows, perms_of}
use Rattle.area_list.specs.Runs.{IsCanonical}
use Rattle.flat_memory.proofs.Accesses.{permits-end}
use Rattle.flat_memory.proofs.space.FlatSpace.page_permits.Goals as goal

pub returns-clause-ends : goal.returns-clause-ends
returns-clause-ends c = λ h.
    let canonical : IsCanonical c.args.self.now.areas = c.runs-runs.ensures.canonical in
    let ok : allows (perms_of c.args.self.now.areas (c.args.addr / 4096)) c.args.need ≡ true = ap (λ p. allows p c.args.need) (sym c.perms_at.ensures) ∙ sym c.allows.ensures ∙ h in
    let below : c.args.addr / 4096 < 2 ^ 26 = permits-end c.args.self.now.areas (c.args.addr / 4096) c.args.need canonical ok in
    omega arith
