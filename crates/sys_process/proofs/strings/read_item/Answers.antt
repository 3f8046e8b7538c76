use Rattle.std.proofs.Common.{rules, ◌+◌, ◌-◌, ◌≤◌, sym, ◌∙◌, arith}
use Rattle.lego_base.specs.declared.sizes.TheConstants.{USER_END}
use Rattle.sys_process.proofs.Listing.{address_denied, address_ends, address_stops, denied_is, long_is, string_is, text_still, text_stops}
use Rattle.sys_process.proofs.strings.read_item.Goals as goal

pub returns-in_err-address-clause-stops : goal.returns-in_err-address-clause-stops
returns-in_err-address-clause-stops g c =
    address_stops g.M.Machine.held g.M.Machine.does g.M.Machine.stops g.met.M.Machine.lawful c.args.pid.0 c.args.left c.args.at c.args.room c.args.machine.now c.read_address.new.machine c.read_address.ensures.stops

pub returns-in_default-clause-item : goal.returns-in_default-clause-item
returns-in_default-clause-item g c =
    address_denied g.M.Machine.held g.M.Machine.does g.M.Machine.stops g.met.M.Machine.lawful c.args.pid.0 c.args.left c.args.at c.args.room c.args.machine.now c.read_address.new.machine c.in_ok-address.ensures.does (sym c.in_default.is ∙ c.in_ok-address.ensures.address)

pub returns-in_default-clause-stops : goal.returns-in_default-clause-stops
returns-in_default-clause-stops g c =
    address_stops g.M.Machine.held g.M.Machine.does g.M.Machine.stops g.met.M.Machine.lawful c.args.pid.0 c.args.left c.args.at c.args.room c.args.machine.now c.read_address.new.machine c.read_address.ensures.stops

pub returns-then-address-eq0-clause-item : goal.returns-then-address-eq0-clause-item
returns-then-address-eq0-clause-item g c =
    address_ends g.M.Machine.held g.M.Machine.does g.M.Machine.stops g.met.M.Machine.lawful c.args.pid.0 c.args.left c.args.at c.args.room c.args.machine.now c.read_address.new.machine c.in_ok-address.ensures.does c.in-Some.address (sym c.in-Some.is ∙ c.in_ok-address.ensures.address) c.if-address-eq0.true

pub returns-in_err-string-clause-stops : goal.returns-in_err-string-clause-stops
returns-in_err-string-clause-stops g c =
    let low : c.args.at + 8 ≤ USER_END = search rules in
    text_stops g.M.Machine.held g.M.Machine.does g.M.Machine.stops g.met.M.Machine.lawful c.args.pid.0 c.args.left c.args.at c.args.room c.args.machine.now c.read_address.new.machine c.in_ok-address.ensures.does c.in-Some.address (sym c.in-Some.is ∙ c.in_ok-address.ensures.address) c.if-address-eq0.false (c.args.left - 1) (omega (arith, c.if-left-eq0.false)) low c.read_text.new.machine c.read_text.ensures.stops

pub returns-in-Whole-clause-item : goal.returns-in-Whole-clause-item
returns-in-Whole-clause-item g c =
    let low : c.args.at + 8 ≤ USER_END = search rules in
    string_is g.M.Machine.held g.M.Machine.does g.M.Machine.stops g.met.M.Machine.lawful c.args.pid.0 c.args.left c.args.at c.args.room c.args.machine.now c.read_address.new.machine c.in_ok-address.ensures.does c.in-Some.address (sym c.in-Some.is ∙ c.in_ok-address.ensures.address) c.if-address-eq0.false (c.args.left - 1) (omega (arith, c.if-left-eq0.false)) low c.read_text.new.machine c.in_ok-string.ensures.does c.in-Whole.string (sym c.in-Whole.is ∙ c.in_ok-string.ensures.text)

pub returns-in-Whole-clause-still : goal.returns-in-Whole-clause-still
returns-in-Whole-clause-still g c =
    let low : c.args.at + 8 ≤ USER_END = search rules in
    text_still g.M.Machine.held g.M.Machine.does g.M.Machine.stops g.met.M.Machine.lawful c.args.pid.0 c.args.left c.args.at c.args.room c.args.machine.now c.read_address.new.machine c.in_ok-address.ensures.does c.in-Some.address (sym c.in-Some.is ∙ c.in_ok-address.ensures.address) c.if-address-eq0.false (c.args.left - 1) (omega (arith, c.if-left-eq0.false)) low c.read_text.new.machine c.in_ok-string.ensures.does

pub returns-in-Whole-clause-stops : goal.returns-in-Whole-clause-stops
returns-in-Whole-clause-stops g c =
    let low : c.args.at + 8 ≤ USER_END = search rules in
    text_stops g.M.Machine.held g.M.Machine.does g.M.Machine.stops g.met.M.Machine.lawful c.args.pid.0 c.args.left c.args.at c.args.room c.args.machine.now c.read_address.new.machine c.in_ok-address.ensures.does c.in-Some.address (sym c.in-Some.is ∙ c.in_ok-address.ensures.address) c.if-address-eq0.false (c.args.left - 1) (omega (arith, c.if-left-eq0.false)) low c.read_text.new.machine c.read_text.ensures.stops

pub returns-in-Denied-clause-item : goal.returns-in-Denied-clause-item
returns-in-Denied-clause-item g c =
    let low : c.args.at + 8 ≤ USER_END = search rules in
    denied_is g.M.Machine.held g.M.Machine.does g.M.Machine.stops g.met.M.Machine.lawful c.args.pid.0 c.args.left c.args.at c.args.room c.args.machine.now c.read_address.new.machine c.in_ok-address.ensures.does c.in-Some.address (sym c.in-Some.is ∙ c.in_ok-address.ensures.address) c.if-address-eq0.false (c.args.left - 1) (omega (arith, c.if-left-eq0.false)) low c.read_text.new.machine c.in_ok-string.ensures.does (sym c.in-Denied.is ∙ c.in_ok-string.ensures.text)

pub returns-in-Denied-clause-still : goal.returns-in-Denied-clause-still
returns-in-Denied-clause-still g c =
    let low : c.args.at + 8 ≤ USER_END = search rules in
    text_still g.M.Machine.held g.M.Machine.does g.M.Machine.stops g.met.M.Machine.lawful c.args.pid.0 c.args.left c.args.at c.args.room c.args.machine.now c.read_address.new.machine c.in_ok-address.ensures.does c.in-Some.address (sym c.in-Some.is ∙ c.in_ok-address.ensures.address) c.if-address-eq0.false (c.args.left - 1) (omega (arith, c.if-left-eq0.false)) low c.read_text.new.machine c.in_ok-string.ensures.does

pub returns-in-Denied-clause-stops : goal.returns-in-Denied-clause-stops
returns-in-Denied-clause-stops g c =
    let low : c.args.at + 8 ≤ USER_END = search rules in
    text_stops g.M.Machine.held g.M.Machine.does g.M.Machine.stops g.met.M.Machine.lawful c.args.pid.0 c.args.left c.args.at c.args.room c.args.machine.now c.read_address.new.machine c.in_ok-address.ensures.does c.in-Some.address (sym c.in-Some.is ∙ c.in_ok-address.ensures.address) c.if-address-eq0.false (c.args.left - 1) (omega (arith, c.if-left-eq0.false)) low c.read_text.new.machine c.read_text.ensures.stops

pub returns-in-Long-clause-item : goal.returns-in-Long-clause-item
returns-in-Long-clause-item g c =
    let low : c.args.at + 8 ≤ USER_END = search rules in
    long_is g.M.Machine.held g.M.Machine.does g.M.Machine.stops g.met.M.Machine.lawful c.args.pid.0 c.args.left c.args.at c.args.room c.args.machine.now c.read_address.new.machine c.in_ok-address.ensures.does c.in-Some.address (sym c.in-Some.is ∙ c.in_ok-address.ensures.address) c.if-address-eq0.false (c.args.left - 1) (omega (arith, c.if-left-eq0.false)) low c.read_text.new.machine c.in_ok-string.ensures.does (sym c.in-Long.is ∙ c.in_ok-string.ensures.text)

pub returns-in-Long-clause-still : goal.returns-in-Long-clause-still
returns-in-Long-clause-still g c =
    let low : c.args.at + 8 ≤ USER_END = search rules in
    text_still g.M.Machine.held g.M.Machine.does g.M.Machine.stops g.met.M.Machine.lawful c.args.pid.0 c.args.left c.args.at c.args.room c.args.machine.now c.read_address.new.machine c.in_ok-address.ensures.does c.in-Some.address (sym c.in-Some.is ∙ c.in_ok-address.ensures.address) c.if-address-eq0.false (c.args.left - 1) (omega (arith, c.if-left-eq0.false)) low c.read_text.new.machine c.in_ok-string.ensures.does

pub returns-in-Long-clause-stops : goal.returns-in-Long-clause-stops
returns-in-Long-clause-stops g c =
    let low : c.args.at + 8 ≤ USER_END = search rules in
    text_stops g.M.Machine.held g.M.Machine.does g.M.Machine.stops g.met.M.Machine.lawful c.args.pid.0 c.args.left c.args.at c.args.room c.args.machine.now c.read_address.new.machine c.in_ok-address.ensures.does c.in-Some.address (sym c.in-Some.is ∙ c.in_ok-address.ensures.address) c.if-address-eq0.false (c.args.left - 1) (omega (arith, c.if-left-eq0.false)) low c.read_text.new.machine c.read_text.ensures.stops
