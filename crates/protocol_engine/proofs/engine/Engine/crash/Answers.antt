use Rattle.std.proofs.Common.{◌≡◌, ◌+◌, Some, ap, length, refl, rules, slice_get, subst}
use Rattle.std.proofs.lemmas.Option.{slice_get_read}
use Rattle.std.specs.Prelude.{slice_set}
use Rattle.lego_msg.specs.Track.{next_crash}
use Rattle.protocol_engine.specs.Later.{HasEntry}
use Rattle.protocol_engine.specs.Tracks.{track_of}
use Rattle.protocol_engine.proofs.Coming.{happened, nothing_came}
use Rattle.protocol_engine.proofs.Crashing.{crash_came}
use Rattle.protocol_engine.proofs.engine.Engine.crash.Goals as goal

pub returns-in_default-checked_add-clause-stopped : goal.returns-in_default-checked_add-clause-stopped
returns-in_default-checked_add-clause-stopped g c = λ b moment. nothing_came g.W.Watch.told g.W.Watch.faults _ _

pub returns-in_default-checked_add-2-clause-stopped : goal.returns-in_default-checked_add-2-clause-stopped
returns-in_default-checked_add-2-clause-stopped g c = λ b moment. nothing_came g.W.Watch.told g.W.Watch.faults _ _

pub returns-in_err-begin_healing-clause-stopped : goal.returns-in_err-begin_healing-clause-stopped
returns-in_err-begin_healing-clause-stopped g c = λ b moment. nothing_came g.W.Watch.told g.W.Watch.faults _ _

pub returns-clause-came : goal.returns-clause-came
returns-clause-came g c =
    let is : next_crash c.args.self.now.shape c.args.self.now.clock ≡ Some c.in-Some.entry = search rules in
    let at : slice_get c.args.self.now.memories.items c.in-Some.entry.memory.0 ≡ Some c.index_mut-memory.result.now = slice_get_read c.args.self.now.memories.items (length c.args.self.now.memories.items) c.in-Some.entry.memory.0 c.index_mut-memory.result.now refl (subst (HasEntry c.args.self.now.memories.items) is c.requires.entry) c.index_mut-memory.ensures.value in
    let raised : c.in-Some-checked_add.inc ≡ c.index_mut-memory.result.now.inc + 1 = search rules in
    let counts : c.in-Some-checked_add-2.passed ≡ c.args.self.now.clock.passed + 1 = search rules in
    let sets = ap (slice_set c.args.self.now.memories.items c.in-Some.entry.memory.0) c.reset.ensures in
    λ b moment. (crash_came g.W.Watch.told g.W.Watch.faults _ _ (track_of c.args.self.now b) c.in-Some.entry c.index_mut-memory.result.now c.in-Some-checked_add.inc c.in-Some-checked_add-2.passed c.args.self.now.table.memories
    _ c.lose.new.self c.forget.new.current c.begin_healing.new.current c.show.ensures c.requires.owed refl (c.requires.done b) moment is at raised sets c.lose.ensures c.forget.ensures.forgets counts c.requires.count c.in_ok-begin_healing.ensures).0

pub returns-clause-lower : goal.returns-clause-lower
returns-clause-lower g c =
    let is : next_crash c.args.self.now.shape c.args.self.now.clock ≡ Some c.in-Some.entry = search rules in
    let at : slice_get c.args.self.now.memories.items c.in-Some.entry.memory.0 ≡ Some c.index_mut-memory.result.now = slice_get_read c.args.self.now.memories.items (length c.args.self.now.memories.items) c.in-Some.entry.memory.0 c.index_mut-memory.result.now refl (subst (HasEntry c.args.self.now.memories.items) is c.requires.entry) c.index_mut-memory.ensures.value in
    let raised : c.in-Some-checked_add.inc ≡ c.index_mut-memory.result.now.inc + 1 = search rules in
    let counts : c.in-Some-checked_add-2.passed ≡ c.args.self.now.clock.passed + 1 = search rules in
    let sets = ap (slice_set c.args.self.now.memories.items c.in-Some.entry.memory.0) c.reset.ensures in
    λ b moment. (crash_came g.W.Watch.told g.W.Watch.faults _ _ (track_of c.args.self.now b) c.in-Some.entry c.index_mut-memory.result.now c.in-Some-checked_add.inc c.in-Some-checked_add-2.passed c.args.self.now.table.memories
    _ c.lose.new.self c.forget.new.current c.begin_healing.new.current c.show.ensures c.requires.owed refl (c.requires.done b) moment is at raised sets c.lose.ensures c.forget.ensures.forgets counts c.requires.count c.in_ok-begin_healing.ensures).1

pub returns-clause-stopped : goal.returns-clause-stopped
returns-clause-stopped g c =
    let is : next_crash c.args.self.now.shape c.args.self.now.clock ≡ Some c.in-Some.entry = search rules in
    let at : slice_get c.args.self.now.memories.items c.in-Some.entry.memory.0 ≡ Some c.index_mut-memory.result.now = slice_get_read c.args.self.now.memories.items (length c.args.self.now.memories.items) c.in-Some.entry.memory.0 c.index_mut-memory.result.now refl (subst (HasEntry c.args.self.now.memories.items) is c.requires.entry) c.index_mut-memory.ensures.value in
    let raised : c.in-Some-checked_add.inc ≡ c.index_mut-memory.result.now.inc + 1 = search rules in
    let counts : c.in-Some-checked_add-2.passed ≡ c.args.self.now.clock.passed + 1 = search rules in
    let sets = ap (slice_set c.args.self.now.memories.items c.in-Some.entry.memory.0) c.reset.ensures in
    λ b moment. happened g.W.Watch.told g.W.Watch.faults _ _ (track_of c.args.self.now b) _
    ((crash_came g.W.Watch.told g.W.Watch.faults _ _ (track_of c.args.self.now b) c.in-Some.entry c.index_mut-memory.result.now c.in-Some-checked_add.inc c.in-Some-checked_add-2.passed c.args.self.now.table.memories
    _ c.lose.new.self c.forget.new.current c.begin_healing.new.current c.show.ensures c.requires.owed refl (c.requires.done b) moment is at raised sets c.lose.ensures c.forget.ensures.forgets counts c.requires.count c.in_ok-begin_healing.ensures).0)
