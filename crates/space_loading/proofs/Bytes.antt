-- The bytes of the loads in a page.
use Rattle.std.proofs.Common.{◌≡◌, ℕ, ◌+◌, ◌-◌, ◌*◌, ◌/◌, ◌≤◌, ◌<◌, sym, ◌∙◌, ap, subst, List, length, IsSome, All, arith}
use Rattle.lego_base.specs.declared.records.Area.{Area}
use Rattle.lego_base.specs.Space.{Space, bytes_at, perms_of}
use Rattle.elf_image.specs.declared.image.Segment.{Segment}
use Rattle.elf_image.specs.Image.{IsBoundedSegment}
use Rattle.space_rules.specs.Mapped.{image_areas_of}
use Rattle.space_rules.specs.Pages.{first_byte, last_end}
use Rattle.call_machine.specs.Effects.{FillsPage}
use Rattle.space_loading.specs.Pages.{HasPart}
use Rattle.space_loading.proofs.Laid.{length_is}
use Rattle.space_loading.proofs.Parts.{first_above, has_bytes, last_below, part_mapped}

-- the loader may write them
pub fills_page : (space loads : Space) (segments : List Segment) (page first last : ℕ) (bytes : List ℕ) → All IsBoundedSegment segments → HasPart segments page → space.areas ≡ image_areas_of segments → first ≡ first_byte segments page → last ≡ last_end segments page → bytes ≡ bytes_at loads first (last - first) → FillsPage space first bytes
fills_page space loads segments page first last bytes all part mapped starts ends is =
    let size : length bytes ≡ last - first = ap length is ∙ length_is loads first (last - first) in
    let low : page * 4096 ≤ first_byte segments page = first_above segments page in
    let high : last_end segments page ≤ (page + 1) * 4096 = last_below segments page in
    let some : first_byte segments page < last_end segments page = has_bytes segments page part in
    let at : page ≡ first / 4096 = omega (arith, starts, ends, low, high, some) in
    let there : IsSome (perms_of space.areas page) = subst (λ (areas : List Area). IsSome (perms_of areas page)) (sym mapped) (part_mapped segments page all part) in
    record {
      some = omega (arith, starts, ends, size, some);
      within = omega (arith, starts, ends, size, low, high, some);
      mapped = subst (λ (q : ℕ). IsSome (perms_of space.areas q)) at there;
    }
