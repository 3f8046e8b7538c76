use Rattle.std.proofs.Common.{◌≡◌, ◌+◌, ◌/◌, ◌%◌, ◌≤◌, ◌<◌, ◌^◌, true, set, refl, sym, subst, ap, ◌∙◌, arith, rules}
use Rattle.lego_base.specs.Space.{allows, perms_of, number_of}
use Rattle.rv64_step.specs.Access.{bytes_in}
use Rattle.flat_memory.specs.declared.slot.Slot.{Slot}
use Rattle.flat_memory.specs.Spaces.{space_of}
use Rattle.flat_memory.specs.Pieces.{start_in, window}
use Rattle.flat_memory.specs.FastPath.{needed, slot_of, IsFast}
use Rattle.flat_memory.proofs.Accesses.{permits-within, permits-first, bytes-within, width-some}
use Rattle.flat_memory.proofs.FastPath.{set-fast}
use Rattle.flat_memory.proofs.space.FlatSpace.read_slowly.Goals as goal

pub returns-then-not-page_permits-clause-read : goal.returns-then-not-page_permits-clause-read
returns-then-not-page_permits-clause-read c =
    let s = c.args.self.now in
    permits-first (space_of s) (needed c.args.access) c.args.addr (bytes_in c.args.width) (width-some c.args.width).0 (search rules)

pub invariant_of-self : goal.invariant_of-self
invariant_of-self c =
    let s = c.args.self.now in
    let page = c.args.addr / 4096 in
    let start = start_in s.starts in
    let slot : c.new-slot.result ≡ slot_of page (perms_of s.areas page) (start page) = c.new-slot.ensures ∙ (λ i. slot_of page (c.perms_at.ensures i) (c.start_of-start.ensures i)) in
    let fits : start page < 2 ^ 64 = omega (arith, s.pieces.ends page, s.bytes.ok.0, s.bytes.small) in
    let fast : IsFast s.areas start (set s.slots.items (page % 1024) (slot_of page (perms_of s.areas page) (start page))) = set-fast s.areas start start s.slots.items page s.fast (omega arith) fits (λ p ne. refl) in
    record {
      pieces = s.pieces;
      fast = subst (λ i. IsFast s.areas start (set s.slots.items i c.new-slot.result)) (sym c.slot_index.ensures) (subst (λ (x : Slot). IsFast s.areas start (set s.slots.items (page % 1024) x)) (sym slot) fast);
    }

pub returns-clause-read : goal.returns-clause-read
returns-clause-read c =
    let s = c.args.self.now in
    let addr = c.args.addr in
    let n = bytes_in c.args.width in
    let ok : allows (perms_of s.areas (addr / 4096)) (needed c.args.access) ≡ true = search rules in
    let within : addr % 4096 + n ≤ 4096 = omega (arith, c.bytes.ensures) in (
      permits-within (space_of s) (needed c.args.access) addr n (width-some c.args.width).0 within ∙ ok,
      c.number_at.ensures.number
          ∙ ap (λ k. number_of (window s.bytes.items (k + addr % 4096) n)) c.start_of-start.ensures
          ∙ ap number_of (sym (bytes-within (start_in s.starts) s.areas s.bytes.items addr n within)),
      c.number_at.ensures.fits,
    )
