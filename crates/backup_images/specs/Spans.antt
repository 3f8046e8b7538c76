-- Pages that a test picks, where they stand together in a list that rises.
use Rattle.std.specs.Prelude.{◌≡◌, ◌-◌, ◌/◌, ◌==◌, ◌++◌, ◌≤◌, ℕ, Bool, List, drop, if◌then◌else◌, length, nat_lt, take}
use Rattle.lego_base.specs.Keys.{Key, those, without}
use Rattle.lego_base.specs.declared.records.PageImage.{PageImage}
use Rattle.lego_msg.specs.Maps.{page_key}

-- whether a page's region comes before a region
abbrev pub is_before_region : ℕ → ℕ → Key → Bool
is_before_region pid region k = if k.pid == pid then nat_lt (k.number / 512) region else nat_lt k.pid pid

-- they are those from one place to before another
pub record IsSpan (test : Key → Bool) (pages : List PageImage) (start end : ℕ) : Type 0 where
  pub order : start ≤ end
  pub within : end ≤ length pages
  pub picked : those page_key test pages ≡ take (end - start) (drop start pages)
  pub others : without page_key test pages ≡ take start pages ++ drop end pages
