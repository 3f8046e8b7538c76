use Rattle.std.proofs.Common.{◌≡◌, List, [], ◌∷◌, ◌++◌, sym, arith, length-append}
use Rattle.lego_base.specs.declared.shape.CrashAt.{CrashAt}
use Rattle.serde_json.specs.Data.{Data}
use Rattle.desc_read.specs.declared.place.EntryList.TheVariants.{Crashes}
use Rattle.desc_read.specs.Objects.{entry_after}
use Rattle.desc_read.specs.Plans.{crashes_of, crash_of, turn_after}
use Rattle.desc_read.proofs.Fields.{leaves}
use Rattle.desc_read.proofs.Entries.{entry_more, entry_fails, no_entry, turn_after-push}
use Rattle.desc_read.proofs.schedule_fields.read_crashes.Goals as goal

pub returns-in_err-values : goal.returns-in_err-values
unfolding crashes_of
returns-in_err-values c = leaves c.from_residual.result _ _ _ c.from_residual.ensures.1 c.in_err-values.ensures

pub returns-in_err-crash : goal.returns-in_err-crash
unfolding crashes_of
returns-in_err-crash c =
    let check = λ (before : List CrashAt) (e : Data). crash_of (entry_after Crashes before) e (turn_after before) c.args.max_turns c.args.last_memory in
    let refused = rw (← c.loop-index.invariant.2, c.loop-index.invariant.1) at c.in_err-crash.ensures.gives in
    rw c.in_ok-values.ensures
    (entry_fails check c.in_ok-values.values.now c.loop-index.index c.loop-index.crashes.items _ c.loop-index.invariant.0 c.from_residual-in_err-crash.result _ c.index-values-index.result c.loop-index-test.true c.index-values-index.is c.from_residual-in_err-crash.ensures.1 refused)

pub loop-index-preserved : goal.loop-index-preserved
loop-index-preserved c =
    let check = λ (before : List CrashAt) (e : Data). crash_of (entry_after Crashes before) e (turn_after before) c.args.max_turns c.args.last_memory in
    let found = c.loop-index.crashes.items in
    let given = rw (← c.loop-index.invariant.2, c.loop-index.invariant.1) at c.in_ok-crash.ensures.gives in
    let pushed : c.push.new.self.items ≡ found ++ c.in_ok-crash.crash ∷ [] = c.in_ok-push.ensures.items in (
      rw pushed (entry_more check c.in_ok-values.values.now c.loop-index.index found _ c.loop-index.invariant.0 c.index-values-index.result c.in_ok-crash.crash c.loop-index-test.true c.index-values-index.is given),
      rw pushed (sym (turn_after-push found c.in_ok-crash.crash)),
      rw pushed (omega (arith, length-append found (c.in_ok-crash.crash ∷ []), c.loop-index.invariant.2)),
    )

pub returns : goal.returns
unfolding crashes_of
returns c =
    let check = λ (before : List CrashAt) (e : Data). crash_of (entry_after Crashes before) e (turn_after before) c.args.max_turns c.args.last_memory in
    rw (c.in_ok-values.ensures, c.from_vec.ensures) (no_entry check c.in_ok-values.values.now c.loop-index.index c.loop-index.crashes.items _ c.loop-index.invariant.0 c.loop-index-test.false)
