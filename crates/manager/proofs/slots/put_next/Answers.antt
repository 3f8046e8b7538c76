use Rattle.std.proofs.Common.{arith, ◌≡◌, ◌∙◌, sym, ap, rules, length, ℕ, slice_set, Some, length-append}
use Rattle.kernel_objects.specs.Slots.{next_slot}
use Rattle.manager.proofs.Held.{next_set, next_push, next_all}
use Rattle.manager.proofs.slots.put_next.Goals as goal

pub push_reserved-requires : goal.push_reserved-requires
push_reserved-requires g c =
    let slot : c.next_slot-slot.result ≡ next_slot c.args.slots.now.items = search rules in
    let all = next_all c.args.slots.now.items (omega (arith, slot)) in
    omega (arith, all)

pub returns-then-slot-len-clause-items : goal.returns-then-slot-len-clause-items
returns-then-slot-len-clause-items g c =
    let slot : c.next_slot-slot.result ≡ next_slot c.args.slots.now.items = search rules in
    ap (λ (n : ℕ). slice_set c.args.slots.now.items n (Some c.args.thing)) slot ∙ sym (next_set c.args.thing c.args.slots.now.items (omega (arith, slot)))

pub returns-else-slot-len-clause-within : goal.returns-else-slot-len-clause-within
returns-else-slot-len-clause-within g c =
    let slot : c.next_slot-slot.result ≡ next_slot c.args.slots.now.items = search rules in
    let all = next_all c.args.slots.now.items (omega (arith, slot)) in
    let within = c.next_slot-slot.ensures.within in
    omega (arith, all, ap length c.as_slice.ensures.value)

pub returns-else-slot-len-clause-items : goal.returns-else-slot-len-clause-items
returns-else-slot-len-clause-items g c =
    let slot : c.next_slot-slot.result ≡ next_slot c.args.slots.now.items = search rules in
    c.push_reserved.ensures.items ∙ sym (next_push c.args.thing c.args.slots.now.items (omega (arith, slot)))

pub returns-else-slot-len-clause-length : goal.returns-else-slot-len-clause-length
returns-else-slot-len-clause-length g c =
    let slot : c.next_slot-slot.result ≡ next_slot c.args.slots.now.items = search rules in
    let all = next_all c.args.slots.now.items (omega (arith, slot)) in
    let long = ap length c.push_reserved.ensures.items in
    omega (arith, all, simp length-append at long)
