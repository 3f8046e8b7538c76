use Rattle.std.proofs.Common.{◌≡◌, ap, sym, subst, ◌∙◌}
use Rattle.std.specs.Vec.{with_items}
use Rattle.flat_memory.specs.Pieces.{start_in, byte_in, cleared, IsPieces}
use Rattle.flat_memory.proofs.Clearing.{forgotten-in, stays-in}
use Rattle.flat_memory.proofs.space.FlatSpace.unmap.Goals as goal

pub invariant_of-self : goal.invariant_of-self
invariant_of-self c =
    let s = c.args.self.now in
    let start = start_in s.starts in
    let stays : (with_items s.bytes c.clear_pages.new.bytes).items ≡ c.clear_pages.new.bytes = stays-in s.bytes c.deref_mut-2.result.now c.clear_pages.new.bytes s.bytes.ok.0 c.deref_mut-2.ensures.value c.clear_pages.ensures.length in
    record {
      pieces = subst (IsPieces start) (sym stays) c.clear_pages.ensures.pieces;
      fast = forgotten-in s.areas c.cut.new.self start start s.slots c.deref_mut.result.now c.forget.new.slots s.slots.ok.0 c.deref_mut.ensures.value c.forget.ensures s.fast;
    }

pub returns : goal.returns
returns c =
    let s = c.args.self.now in
    let start = start_in s.starts in
    let stays : (with_items s.bytes c.clear_pages.new.bytes).items ≡ c.clear_pages.new.bytes = stays-in s.bytes c.deref_mut-2.result.now c.clear_pages.new.bytes s.bytes.ok.0 c.deref_mut-2.ensures.value c.clear_pages.ensures.length in
    let bytes : byte_in start (with_items s.bytes c.clear_pages.new.bytes).items ≡ cleared c.args.first.0 c.args.pages (byte_in start s.bytes.items) =
    ap (byte_in start) stays ∙ c.clear_pages.ensures.cleared ∙ ap (λ bs. cleared c.args.first.0 c.args.pages (byte_in start bs)) c.deref_mut-2.ensures.value
    in
    λ i. record { areas = c.in-Ok.ensures.ok i; byte = bytes i }
