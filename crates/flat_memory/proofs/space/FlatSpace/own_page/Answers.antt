use Rattle.std.proofs.Common.{◌≡◌, ◌%◌, ◌<◌, ◌^◌, set, sym, subst, ◌∙◌, rules}
use Rattle.lego_base.specs.Space.{perms_of}
use Rattle.flat_memory.specs.declared.slot.Slot.{Slot}
use Rattle.flat_memory.specs.Pieces.{start_in}
use Rattle.flat_memory.specs.FastPath.{slot_of, IsFast}
use Rattle.flat_memory.proofs.FastPath.{same-fast, set-fast}
use Rattle.flat_memory.proofs.space.FlatSpace.own_page.Goals as goal

pub invariant_of-self : goal.invariant_of-self
invariant_of-self c =
    let s = c.args.self.now in
    record {
      pieces = c.own_piece.ensures.pieces;
      fast = same-fast s.areas (start_in s.starts) (start_in c.own_piece.new.starts) s.slots.items c.in_err-start.ensures.err s.fast;
    }

pub invariant_of-self-2 : goal.invariant_of-self-2
invariant_of-self-2 c =
    let s = c.args.self.now in
    let page = c.args.page in
    let start = start_in c.own_piece.new.starts in
    let slot : c.new-slot.result ≡ slot_of page (perms_of s.areas page) (start page) = c.new-slot.ensures ∙ (λ i. slot_of page (c.perms_at.ensures i) (c.in_ok-start.ensures.own.1 i)) in
    let fits : start page < 2 ^ 64 = subst (λ n. n < 2 ^ 64) c.in_ok-start.ensures.own.1 (search rules) in
    let fast : IsFast s.areas start (set s.slots.items (page % 1024) (slot_of page (perms_of s.areas page) (start page))) = set-fast s.areas (start_in s.starts) start s.slots.items page s.fast c.requires fits c.own_piece.ensures.others in
    record {
      pieces = c.own_piece.ensures.pieces;
      fast = subst (λ (x : Slot). IsFast s.areas start (set s.slots.items (page % 1024) x)) (sym slot) fast;
    }
