use Rattle.std.proofs.Common.{rules, ◌≡◌, ◌-◌, suc, sym, ◌∙◌, ap, arith}
use Rattle.sys_paths.proofs.Reading.{closed, denied, goes_on, stopped}
use Rattle.sys_paths.specs.declared.text.Text.TheVariants.{Whole}
use Rattle.sys_paths.proofs.text.read_text.Goals as goal

pub returns-in_err-byte-clause-stops : goal.returns-in_err-byte-clause-stops
returns-in_err-byte-clause-stops g c =
    let some : c.loop-left.left ≡ suc (c.loop-left.left - 1) = omega (arith, c.loop-left-test.true) in
    stopped g.M.Machine.held g.M.Machine.does g.M.Machine.stops g.met.M.Machine.lawful _ _ _ _ _ _ _ _ some c.loop-left.invariant _ c.read_byte.ensures.stops

pub returns-in_default-clause-does : goal.returns-in_default-clause-does
returns-in_default-clause-does g c =
    let some : c.loop-left.left ≡ suc (c.loop-left.left - 1) = omega (arith, c.loop-left-test.true) in
    (denied g.M.Machine.held g.M.Machine.does g.M.Machine.stops g.met.M.Machine.lawful _ _ _ _ _ _ _ _ some c.loop-left.invariant _ c.in_ok-byte.ensures.does (sym c.in_default.is ∙ c.in_ok-byte.ensures.byte)).0

pub returns-in_default-clause-stops : goal.returns-in_default-clause-stops
returns-in_default-clause-stops g c =
    let some : c.loop-left.left ≡ suc (c.loop-left.left - 1) = omega (arith, c.loop-left-test.true) in
    stopped g.M.Machine.held g.M.Machine.does g.M.Machine.stops g.met.M.Machine.lawful _ _ _ _ _ _ _ _ some c.loop-left.invariant _ c.read_byte.ensures.stops

pub returns-in_err-from_vec-clause-stops : goal.returns-in_err-from_vec-clause-stops
returns-in_err-from_vec-clause-stops g c =
    let some : c.loop-left.left ≡ suc (c.loop-left.left - 1) = omega (arith, c.loop-left-test.true) in
    stopped g.M.Machine.held g.M.Machine.does g.M.Machine.stops g.met.M.Machine.lawful _ _ _ _ _ _ _ _ some c.loop-left.invariant _ c.read_byte.ensures.stops

pub returns-then-byte-eq0-clause-does : goal.returns-then-byte-eq0-clause-does
returns-then-byte-eq0-clause-does g c =
    let some : c.loop-left.left ≡ suc (c.loop-left.left - 1) = omega (arith, c.loop-left-test.true) in
    (closed g.M.Machine.held g.M.Machine.does g.M.Machine.stops g.met.M.Machine.lawful _ _ _ _ _ _ _ _ some c.loop-left.invariant _ _ c.in_ok-byte.ensures.does (sym c.in-Some.is ∙ c.in_ok-byte.ensures.byte) c.if-byte-eq0.true).0

pub returns-then-byte-eq0-clause-text : goal.returns-then-byte-eq0-clause-text
returns-then-byte-eq0-clause-text g c =
    let some : c.loop-left.left ≡ suc (c.loop-left.left - 1) = omega (arith, c.loop-left-test.true) in
    ap Whole (c.in_ok-from_vec.ensures ∙ c.into_vec.ensures)
    ∙ (closed g.M.Machine.held g.M.Machine.does g.M.Machine.stops g.met.M.Machine.lawful _ _ _ _ _ _ _ _ some c.loop-left.invariant _ _ c.in_ok-byte.ensures.does (sym c.in-Some.is ∙ c.in_ok-byte.ensures.byte) c.if-byte-eq0.true).1

pub returns-then-byte-eq0-clause-stops : goal.returns-then-byte-eq0-clause-stops
returns-then-byte-eq0-clause-stops g c =
    let some : c.loop-left.left ≡ suc (c.loop-left.left - 1) = omega (arith, c.loop-left-test.true) in
    stopped g.M.Machine.held g.M.Machine.does g.M.Machine.stops g.met.M.Machine.lawful _ _ _ _ _ _ _ _ some c.loop-left.invariant _ c.read_byte.ensures.stops

pub returns-in_err-push-clause-stops : goal.returns-in_err-push-clause-stops
returns-in_err-push-clause-stops g c =
    let some : c.loop-left.left ≡ suc (c.loop-left.left - 1) = omega (arith, c.loop-left-test.true) in
    stopped g.M.Machine.held g.M.Machine.does g.M.Machine.stops g.met.M.Machine.lawful _ _ _ _ _ _ _ _ some c.loop-left.invariant _ c.read_byte.ensures.stops

pub loop-left-preserved : goal.loop-left-preserved
loop-left-preserved g c =
    let some : c.loop-left.left ≡ suc (c.loop-left.left - 1) = omega (arith, c.loop-left-test.true) in
    let next = goes_on g.M.Machine.held g.M.Machine.does g.M.Machine.stops g.met.M.Machine.lawful _ _ _ _ _ _ _ _ some c.loop-left.invariant _ _ c.in_ok-byte.ensures.does (sym c.in-Some.is ∙ c.in_ok-byte.ensures.byte) c.if-byte-eq0.false in
    search (rules, next)
