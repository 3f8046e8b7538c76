use Rattle.std.proofs.Common.{rules, ◌≡◌, ◌∙◌, ◌++◌, [], ◌∷◌, List, ap, append_assoc, arith, length, refl, subst, sym}
use Rattle.std.specs.Vec.Iter.{into_iter_items, into_iter_len}
use Rattle.lego_msg.specs.declared.body.Body.{Body}
use Rattle.lego_msg.specs.declared.operation.Operation.{Operation}
use Rattle.cluster.specs.Sequences.{AreReplies, MayAskAll, ReadNoLine, ReadsNoLine, effects, free}
use Rattle.cluster.proofs.Following.{line_at, one_granted, replies_then}
use Rattle.cluster.proofs.Progress.{free_back, free_front, free_goes_on, halts_in, lacks_in, may_next, starts}
use Rattle.cluster.proofs.cluster.Cluster.ask_all.Goals as goal

pub loop-operation-init : goal.loop-operation-init
loop-operation-init g c =
    let len : into_iter_len c.into_iter-operation-iterator.result ≡ length (into_iter_items c.into_iter-operation-iterator.result) = search rules in (
      refl,
      starts g.W.Watch.told g.W.Watch.faults c.args.watch.now c.args.self.now c.args.by (sym c.halted.ensures ∙ c.in-None.is),
      λ f at. subst (AreReplies f []) (sym c.new-answers.ensures.items) tt,
      len,
    )

pub ask-requires : goal.ask-requires
ask-requires g c none =
    let now = c.loop-operation in
    let x = c.in-Some-operation.operation in
    let rest = into_iter_items c.next.new.self in
    let steps : into_iter_items now.operation-iterator ≡ x ∷ into_iter_items c.next.new.self = c.in-Some-operation.ensures.steps.0 in
    let whole : now.yielded ++ x ∷ into_iter_items c.next.new.self ≡ c.args.operations.items = ap (λ (l : List Operation). now.yielded ++ l) (sym steps) ∙ now.invariant.0 ∙ c.into_iter-operation-iterator.ensures.into_iter_gives.0 in
    may_next g.W.Watch.told g.W.Watch.faults c.args.watch.now now.watch c.args.self.now now.self c.args.by now.yielded now.invariant.1 x rest
    (subst (MayAskAll c.args.self.now c.args.by) (sym whole) (c.requires.may now.invariant.1.before))

pub returns-in-Err-clause-call : goal.returns-in-Err-clause-call
returns-in-Err-clause-call g c =
    let now = c.loop-operation in
    let x = c.in-Some-operation.operation in
    let rest = into_iter_items c.next.new.self in
    let steps : into_iter_items now.operation-iterator ≡ x ∷ into_iter_items c.next.new.self = c.in-Some-operation.ensures.steps.0 in
    let whole : now.yielded ++ x ∷ into_iter_items c.next.new.self ≡ c.args.operations.items = ap (λ (l : List Operation). now.yielded ++ l) (sym steps) ∙ now.invariant.0 ∙ c.into_iter-operation-iterator.ensures.into_iter_gives.0 in
    halts_in g.W.Watch.told g.W.Watch.faults c.args.watch.now now.watch c.args.self.now now.self c.args.by now.yielded now.invariant.1
    c.ask.new.watch c.ask.new.self x rest c.args.operations.items (λ (b : Body). b) c.in-Err.halt whole c.in-Err.ensures

pub returns-in-Err-push-clause-call : goal.returns-in-Err-push-clause-call
returns-in-Err-push-clause-call g c =
    let now = c.loop-operation in
    let x = c.in-Some-operation.operation in
    let rest = into_iter_items c.next.new.self in
    let steps : into_iter_items now.operation-iterator ≡ x ∷ into_iter_items c.next.new.self = c.in-Some-operation.ensures.steps.0 in
    let whole : now.yielded ++ x ∷ into_iter_items c.next.new.self ≡ c.args.operations.items = ap (λ (l : List Operation). now.yielded ++ l) (sym steps) ∙ now.invariant.0 ∙ c.into_iter-operation-iterator.ensures.into_iter_gives.0 in
    let lines : ReadsNoLine x = line_at now.yielded x rest (subst ReadNoLine (sym whole) c.requires.lines) in
    let so = free_goes_on g.W.Watch.told g.W.Watch.faults c.args.watch.now now.watch c.args.self.now now.self c.args.by now.yielded now.invariant.1 c.ask.new.watch c.ask.new.self x (λ (b : Body). b) c.in-Ok.body lines c.in-Ok.ensures in
    lacks_in g.W.Watch.told g.W.Watch.faults c.args.watch.now c.ask.new.watch c.args.self.now c.ask.new.self c.args.by (now.yielded ++ x ∷ []) so
    c.out_of_memory.new.self rest c.args.operations.items (append_assoc now.yielded (x ∷ []) rest ∙ whole) c.out_of_memory.ensures

pub loop-operation-preserved : goal.loop-operation-preserved
loop-operation-preserved g c =
    let now = c.loop-operation in
    let x = c.in-Some-operation.operation in
    let rest = into_iter_items c.next.new.self in
    let steps : into_iter_items now.operation-iterator ≡ x ∷ into_iter_items c.next.new.self = c.in-Some-operation.ensures.steps.0 in
    let whole : now.yielded ++ x ∷ into_iter_items c.next.new.self ≡ c.args.operations.items = ap (λ (l : List Operation). now.yielded ++ l) (sym steps) ∙ now.invariant.0 ∙ c.into_iter-operation-iterator.ensures.into_iter_gives.0 in
    let lines : ReadsNoLine x = line_at now.yielded x rest (subst ReadNoLine (sym whole) c.requires.lines) in
    let so = free_goes_on g.W.Watch.told g.W.Watch.faults c.args.watch.now now.watch c.args.self.now now.self c.args.by now.yielded now.invariant.1 c.ask.new.watch c.ask.new.self x (λ (b : Body). b) c.in-Ok.body lines c.in-Ok.ensures in
    let items : c.push.new.self.items ≡ now.answers.items ++ c.in-Ok.body ∷ [] = search rules in (
      append_assoc now.yielded (x ∷ []) rest ∙ ap (λ (l : List Operation). now.yielded ++ l) (sym steps) ∙ now.invariant.0,
      so,
      λ f at.
          let front = free_front g.W.Watch.told g.W.Watch.faults c.args.watch.now now.watch c.args.self.now now.self c.args.by now.yielded now.invariant.1 f (x ∷ []) at in
          let back = free_back g.W.Watch.told g.W.Watch.faults c.args.watch.now now.watch c.args.self.now now.self c.args.by now.yielded now.invariant.1 f (x ∷ []) at in
          let one = one_granted g.W.Watch.told g.W.Watch.faults now.self (effects now.yielded f) c.args.by (free x) [] back in
          subst (AreReplies f (now.yielded ++ x ∷ [])) (sym items)
          (replies_then f now.yielded x now.answers.items c.in-Ok.body (now.invariant.2 f front) (c.in-Ok.ensures.serves.reply (effects now.yielded f) one)),
      let was = now.invariant.3 in
          let gone = c.in-Some-operation.ensures.steps.1 in
          let short = ap (λ (l : List Operation). length l) steps in
          omega (arith, was, gone, short),
    )
