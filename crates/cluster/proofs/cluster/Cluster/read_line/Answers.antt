use Rattle.std.proofs.Common.{◌∙◌, ◌/◌, refl, sym}
use Rattle.lego_msg.specs.Maps.{owner_of}
use Rattle.cluster.specs.LineCalls.{finds_line}
use Rattle.cluster.proofs.Granting.{granted_plain}
use Rattle.cluster.proofs.Touching.{find_halts, found_none, read_halts, read_none, read_some}
use Rattle.cluster.proofs.cluster.Cluster.read_line.Goals as goal

pub returns-in-Err-clause-call : goal.returns-in-Err-clause-call
returns-in-Err-clause-call g c =
    find_halts g.W.Watch.told g.W.Watch.faults c.args.watch.now c.find.new.watch c.args.self.now c.find.new.self c.args.by c.args.pid c.args.line
    (owner_of c.args.self.now.table.owners c.args.pid.0 (c.args.line.0 / 32768)) c.in-Err.halt c.in-Err.ensures.call

pub returns-in-Ok-None-clause-call : goal.returns-in-Ok-None-clause-call
returns-in-Ok-None-clause-call g c =
    let rests = c.requires.rests c.in-Ok-None.ensures.call.goes.0 in
    let said = rw c.in-Ok-None.field-0-is at c.in-Ok-None.ensures.call in
    found_none g.W.Watch.told g.W.Watch.faults c.args.watch.now c.find.new.watch c.args.self.now c.find.new.self c.args.by c.args.pid c.args.line
    (owner_of c.args.self.now.table.owners c.args.pid.0 (c.args.line.0 / 32768)) (sym rests.2 ∙ sym (c.in-Ok-None.ensures.owner rests.0 rests.1) ∙ c.in-Ok-None.field-0-is) said

pub read_from-requires-clause-rests : goal.read_from-requires-clause-rests
read_from-requires-clause-rests g c none =
    let rests = c.requires.rests c.in-Ok-Some.ensures.call.goes.0 in
    (rests.0, c.in-Ok-Some.ensures.call.serves.stands rests.0 (granted_plain c.args.self.now rests.0 c.args.by (finds_line c.args.pid c.args.line) rests.1 c.requires.issuer tt tt (λ pid vpn. refl)))

pub returns-in-Err-read_from-clause-call : goal.returns-in-Err-read_from-clause-call
returns-in-Err-read_from-clause-call g c =
    let rests = c.requires.rests c.in-Ok-Some.ensures.call.goes.0 in
    let first = rw c.in-Ok-Some.field-0-is at c.in-Ok-Some.ensures.call in
    read_halts g.W.Watch.told g.W.Watch.faults c.args.watch.now c.find.new.watch c.args.self.now c.find.new.self c.args.by c.args.pid c.args.line
    (owner_of c.args.self.now.table.owners c.args.pid.0 (c.args.line.0 / 32768)) c.in-Ok-Some.owner (sym rests.2 ∙ sym (c.in-Ok-Some.ensures.owner rests.0 rests.1) ∙ c.in-Ok-Some.field-0-is) first
    c.read_from.new.watch c.read_from.new.self c.in-Err-read_from.halt c.in-Err-read_from.ensures.call

pub returns-in-Ok-None-read_from-clause-call : goal.returns-in-Ok-None-read_from-clause-call
returns-in-Ok-None-read_from-clause-call g c =
    let rests = c.requires.rests c.in-Ok-Some.ensures.call.goes.0 in
    let first = rw c.in-Ok-Some.field-0-is at c.in-Ok-Some.ensures.call in
    read_none g.W.Watch.told g.W.Watch.faults c.args.watch.now c.find.new.watch c.args.self.now c.find.new.self c.args.by c.args.pid c.args.line
    (owner_of c.args.self.now.table.owners c.args.pid.0 (c.args.line.0 / 32768)) c.in-Ok-Some.owner (sym rests.2 ∙ sym (c.in-Ok-Some.ensures.owner rests.0 rests.1) ∙ c.in-Ok-Some.field-0-is) first
    c.read_from.new.watch c.read_from.new.self (rw c.in-Ok-None-read_from.field-0-is at c.in-Ok-None-read_from.ensures.call)

pub returns-in-Ok-None-read_from-clause-line : goal.returns-in-Ok-None-read_from-clause-line
returns-in-Ok-None-read_from-clause-line g c =
    let got = rw c.in-Ok-None-read_from.field-0-is at c.in-Ok-None-read_from.ensures.got in
    λ f stands. got f (c.in-Ok-Some.ensures.call.serves.stands f (granted_plain c.args.self.now f c.args.by (finds_line c.args.pid c.args.line) stands c.requires.issuer tt tt (λ pid vpn. refl)))

pub returns-in-Ok-Some-read_from-clause-call : goal.returns-in-Ok-Some-read_from-clause-call
returns-in-Ok-Some-read_from-clause-call g c =
    let rests = c.requires.rests c.in-Ok-Some.ensures.call.goes.0 in
    let first = rw c.in-Ok-Some.field-0-is at c.in-Ok-Some.ensures.call in
    let said = rw c.in-Ok-Some-read_from.field-0-is at c.in-Ok-Some-read_from.ensures.call in
    read_some g.W.Watch.told g.W.Watch.faults c.args.watch.now c.find.new.watch c.args.self.now c.find.new.self c.args.by c.args.pid c.args.line
    (owner_of c.args.self.now.table.owners c.args.pid.0 (c.args.line.0 / 32768)) c.in-Ok-Some.owner (sym rests.2 ∙ sym (c.in-Ok-Some.ensures.owner rests.0 rests.1) ∙ c.in-Ok-Some.field-0-is) first
    c.read_from.new.watch c.read_from.new.self (record { owner = c.in-Ok-Some.owner; perms = c.in-Ok-Some-read_from.field-0-0.perms; bytes = c.in-Ok-Some-read_from.field-0-0.bytes }) refl said

pub returns-in-Ok-Some-read_from-clause-line : goal.returns-in-Ok-Some-read_from-clause-line
returns-in-Ok-Some-read_from-clause-line g c =
    let got = rw c.in-Ok-Some-read_from.field-0-is at c.in-Ok-Some-read_from.ensures.got in
    λ f stands. got f (c.in-Ok-Some.ensures.call.serves.stands f (granted_plain c.args.self.now f c.args.by (finds_line c.args.pid c.args.line) stands c.requires.issuer tt tt (λ pid vpn. refl)))
