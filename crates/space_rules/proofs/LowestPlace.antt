-- The place of a mapping is the lowest one, in addresses.
use Rattle.std.proofs.Common.{◌≡◌, ℕ, ◌+◌, ◌*◌, ◌/◌, ◌%◌, ◌^◌, ◌<◌, ◌≤◌, ◌⊎◌, inl, inr, subst, List, Option, Some, None, arith}
use Rattle.std.specs.Prelude.{MatchOption}
use Rattle.std.proofs.lemmas.Bool.{cases_lt}
use Rattle.std.specs.Option.{option_map}
use Rattle.lego_base.specs.declared.records.Area.{Area}
use Rattle.lego_base.specs.Space.{perms_of}
use Rattle.area_list.specs.Runs.{IsCanonical}
use Rattle.area_list.specs.Gap.{lowest_gap, IsGap, IsLowestGap}
use Rattle.area_list.proofs.Gaps.{gap-lowest}
use Rattle.space_rules.specs.Place.{pages_for, place_of, IsPlace, IsLowestPlace}

-- a gap in pages is a place in addresses
place_of_gap : (areas : List Area) (len page : ℕ) → 0x2000000 ≤ page → IsGap areas page (pages_for len) → IsPlace areas len (page * 4096)
place_of_gap areas len page start gap = let ends : page + (len + 4095) / 4096 ≤ 2 ^ 26 = gap.ends in record {
  aligned = omega arith;
  start = omega arith;
  ends = omega arith;
  free = λ address low high. gap.free (address / 4096) (omega arith) (omega arith);
}

-- and the other way round
gap_of_place : (areas : List Area) (len at : ℕ) → IsPlace areas len at → IsGap areas (at / 4096) (pages_for len)
gap_of_place areas len at place =
    let aligned : at % 4096 ≡ 0 = place.aligned in
    let ends : at + len ≤ 2 ^ 38 = place.ends in
    record {
      ends = omega arith;
      free = λ page low high. let same : page * 4096 / 4096 ≡ page = omega arith in subst (λ (p : ℕ). perms_of areas p ≡ None) same (place.free (page * 4096) (omega arith) (omega arith));
    }

-- a lowest gap in pages is a lowest place in addresses
pub lowest_of : (areas : List Area) (len : ℕ) (gap : Option ℕ) → MatchOption gap ((page : ℕ) → 0x2000000 ≤ page → IsGap areas page (pages_for len) → ⊥) (IsLowestGap areas 0x2000000 (pages_for len)) → MatchOption (option_map (λ page. page * 4096) gap) ((at : ℕ) → IsPlace areas len at → ⊥) (IsLowestPlace areas len)
lowest_of areas len None none = λ at place. let start : 0x2000000000 ≤ at = place.start in none (at / 4096) (omega arith) (gap_of_place areas len at place)
lowest_of areas len (Some page) lowest = record {
  place = place_of_gap areas len page lowest.from_first lowest.gap;
  lowest = λ other place. below other place (cases_lt other (page * 4096));
}
  where
    below : (other : ℕ) → IsPlace areas len other → ((other < page * 4096) ⊎ (page * 4096 ≤ other)) → page * 4096 ≤ other
    below other place (inl less) =
        let start : 0x2000000000 ≤ other = place.start in
        absurd (lowest.lowest (other / 4096) (omega arith) (omega arith) (gap_of_place areas len other place))
    below other place (inr le) = le

pub lowest_place : (areas : List Area) (len : ℕ) → IsCanonical areas → MatchOption (place_of areas len) ((at : ℕ) → IsPlace areas len at → ⊥) (IsLowestPlace areas len)
lowest_place areas len canonical = lowest_of areas len (lowest_gap areas 0x2000000 (pages_for len)) (gap-lowest areas 0x2000000 (pages_for len) canonical)
