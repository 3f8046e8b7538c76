use Rattle.std.proofs.Common.{◌≡◌, ◌+◌, ◌-◌, ◌/◌, ◌%◌, ◌≤◌, ◌++◌, length, take, drop, sym, ap, ◌∙◌, arith, rules}
use Rattle.lego_base.specs.Space.{bytes_at}
use Rattle.flat_memory.specs.Spaces.{space_of}
use Rattle.flat_memory.specs.Pieces.{start_in, window, place_in}
use Rattle.flat_memory.proofs.Accesses.{bytes-within, bytes_at-append, window-part}
use Rattle.flat_memory.proofs.space.FlatSpace.pages.Goals as goal

pub loop-done-preserved : goal.loop-done-preserved
loop-done-preserved c =
    let s = c.args.self.now in
    let at = c.args.addr + c.loop-done.done in
    let more = c.min-more.result in
    let place = c.start_of.result + at % 4096 in
    let start : place ≡ place_in (start_in s.starts) at = ap (λ n. n + at % 4096) c.start_of.ensures in
    let inside : at % 4096 + more ≤ 4096 = omega arith in
    let ends : place + more ≤ length s.bytes.items = omega (arith, s.pieces.ends (at / 4096)) in
    let width : place + more - place ≡ more = omega arith in
    let copied : c.extend_from_slice.new.self.items ≡ c.loop-done.copy.items ++ take (place + more - place) (drop place s.bytes.items) = search rules in
    record {
      within = omega arith;
      copied = copied
          ∙ ap (λ xs. xs ++ take (place + more - place) (drop place s.bytes.items)) c.loop-done.invariant.copied
          ∙ ap (λ n. bytes_at (space_of s) c.args.addr c.loop-done.done ++ take n (drop place s.bytes.items)) width
          ∙ ap (λ xs. bytes_at (space_of s) c.args.addr c.loop-done.done ++ xs) (sym (bytes-within (start_in s.starts) s.areas s.bytes.items at more inside ∙ ap (λ n. window s.bytes.items n more) (sym start) ∙ window-part s.bytes.items place more ends))
          ∙ sym (bytes_at-append (space_of s) c.args.addr c.loop-done.done more);
    }
