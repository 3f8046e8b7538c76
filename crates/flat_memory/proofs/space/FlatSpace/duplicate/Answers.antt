use Rattle.std.proofs.Common.{◌≡◌, sym, ◌∙◌, nat_eq, subst}
use Rattle.std.specs.Map.{count_at, lookup}
use Rattle.std.proofs.lemmas.Map.Entries.{entries_from_clone}
use Rattle.flat_memory.specs.Pieces.{start_in, byte_in, IsPieces}
use Rattle.flat_memory.specs.FastPath.{IsFast}
use Rattle.flat_memory.proofs.space.FlatSpace.duplicate.Goals as goal

pub invariant_of-result : goal.invariant_of-result
invariant_of-result c =
    let s = c.args.self.now in
    let entries : c.in_ok-starts.starts.entries ≡ s.starts.entries = entries_from_clone (λ x y. y ≡ x) (λ x y. y ≡ x) (λ x y h. h) (λ v w h. h) s.starts.entries c.in_ok-starts.starts.entries c.in_ok-starts.ensures.cases in
    let start : start_in c.in_ok-starts.starts ≡ start_in s.starts = (λ i page. count_at (λ k. lookup (λ q. nat_eq k q) (entries i)) page) in
    let bytes : c.in_ok-bytes.bytes.items ≡ s.bytes.items = c.in_ok-bytes.ensures.items ∙ c.deref.ensures.value in
    let slots : c.in_ok-slots.slots.items ≡ s.slots.items = c.in_ok-slots.ensures.items ∙ c.deref-2.ensures.value in
    record {
      pieces = subst (λ bs. IsPieces (start_in c.in_ok-starts.starts) bs) (sym bytes) (subst (λ f. IsPieces f s.bytes.items) (sym start) s.pieces);
      fast = subst (λ areas. IsFast areas (start_in c.in_ok-starts.starts) c.in_ok-slots.slots.items) (sym c.copy_from.ensures) (subst (λ ss. IsFast s.areas (start_in c.in_ok-starts.starts) ss) (sym slots) (subst (λ f. IsFast s.areas f s.slots.items) (sym start) s.fast));
    }

pub returns : goal.returns
returns c =
    let s = c.args.self.now in
    let entries : c.in_ok-starts.starts.entries ≡ s.starts.entries = entries_from_clone (λ x y. y ≡ x) (λ x y. y ≡ x) (λ x y h. h) (λ v w h. h) s.starts.entries c.in_ok-starts.starts.entries c.in_ok-starts.ensures.cases in
    let start : start_in c.in_ok-starts.starts ≡ start_in s.starts = (λ i page. count_at (λ k. lookup (λ q. nat_eq k q) (entries i)) page) in
    let bytes : c.in_ok-bytes.bytes.items ≡ s.bytes.items = c.in_ok-bytes.ensures.items ∙ c.deref.ensures.value in
    λ i. record { areas = c.copy_from.ensures i; byte = byte_in (start i) (bytes i) }
