-- What a copying does to the pages: how many there are then, and that the child's may go before.
use Rattle.std.proofs.Common.{◌≡◌, ◌+◌, ◌<◌, ◌≤◌, [], ◌∷◌, ◌∙◌, ℕ, List, ap, arith, eqb, false, length, refl, subst, sym}
use Rattle.std.specs.List.{AllByRecursion}
use Rattle.std.specs.Prelude.{map}
use Rattle.keyed_list.proofs.Listed.{Rises-without}
use Rattle.lego_base.specs.Keys.{Rises, is_page_of, put_all, without}
use Rattle.lego_base.specs.declared.ids.Pid.{Pid}
use Rattle.lego_base.specs.declared.ids.RegionNo.{RegionNo}
use Rattle.lego_base.specs.declared.records.PageImage.{PageImage}
use Rattle.lego_msg.specs.Form.{ArePages, RegionsRise}
use Rattle.lego_msg.specs.Maps.{copied_pages, for_child, page_key, pages_of}
use Rattle.mem_monitor.proofs.Cleared.{AreOutside, Rises-put_all, all_stay, none_cleared, none_left, put_all-cleared}
use Rattle.mem_monitor.specs.Counted.{cleared, counts}
use Rattle.page_store.proofs.Copied.{all_out, are_copies, differ, length-copied, other_page, other_region, those_without}
use Rattle.page_store.proofs.Replaced.{parts_of}
use Rattle.page_store.specs.Store.{copied}

above_differs : (r s : RegionNo) → r.0 < s.0 → s.0 ≡ r.0 → ⊥
above_differs r s less same = omega (arith, less, same)

-- HOW MANY pages of some regions there are
counts_rest : (pid : ℕ) (r : RegionNo) (regions : List RegionNo) (pages : List PageImage) → AllByRecursion (λ (s : RegionNo). r.0 < s.0) regions → counts pid regions (without page_key (is_page_of pid r.0) pages) ≡ counts pid regions pages
counts_rest pid r [] pages above = refl
counts_rest pid r (s ∷ regions) pages above =
    let same = those_without page_key (is_page_of pid s.0) (is_page_of pid r.0) pages (λ k here. other_page pid s.0 pid r.0 k (λ e f. above_differs r s above.0 f) here) in
    λ i. length (same i) + counts_rest pid r regions pages above.1 i

pub counts_few : (pid : ℕ) (regions : List RegionNo) (pages : List PageImage) → RegionsRise regions → counts pid regions pages ≤ length pages
counts_few pid [] pages rise = omega arith
counts_few pid (r ∷ regions) pages rise =
    let rest = counts_few pid regions (without page_key (is_page_of pid r.0) pages) rise.1 in
    let same = counts_rest pid r regions pages rise.0 in
    let parts = parts_of page_key (is_page_of pid r.0) pages in
    omega (arith, rest, same, parts)

-- ONE REGION that is copied
abbrev pub AreFormed : ℕ → List PageImage → Type 0
AreFormed parent pages = (region : ℕ) → ArePages parent region (pages_of parent region pages)

module _ (parent child : Pid) (apart : eqb parent.0 child.0 ≡ false) where
  step_parent : (r : RegionNo) (region : ℕ) (pages : List PageImage) → AreFormed parent.0 pages → pages_of parent.0 region (copied parent child r pages) ≡ pages_of parent.0 region pages
  step_parent r region pages form = other_region parent.0 region child.0 r.0 (map (for_child child) (pages_of parent.0 r.0 pages)) pages (λ e f. differ parent.0 child.0 apart e) (are_copies parent.0 r.0 child (pages_of parent.0 r.0 pages) (form r.0))

  pub step_formed : (r : RegionNo) (pages : List PageImage) → AreFormed parent.0 pages → AreFormed parent.0 (copied parent child r pages)
  step_formed r pages form region = subst (ArePages parent.0 region) (sym (step_parent r region pages form)) (form region)

  counts_parent : (r : RegionNo) (regions : List RegionNo) (pages : List PageImage) → AreFormed parent.0 pages → counts parent.0 regions (copied parent child r pages) ≡ counts parent.0 regions pages
  counts_parent r [] pages form = refl
  counts_parent r (s ∷ regions) pages form = λ i. length (step_parent r s.0 pages form i) + counts_parent r regions pages form i

  pub counts_child : (r : RegionNo) (regions : List RegionNo) (pages : List PageImage) → AreFormed parent.0 pages → AllByRecursion (λ (s : RegionNo). r.0 < s.0) regions → counts child.0 regions (copied parent child r pages) ≡ counts child.0 regions pages
  counts_child r [] pages form above = refl
  counts_child r (s ∷ regions) pages form above =
      let same = other_region child.0 s.0 child.0 r.0 (map (for_child child) (pages_of parent.0 r.0 pages)) pages (λ e f. above_differs r s above.0 f) (are_copies parent.0 r.0 child (pages_of parent.0 r.0 pages) (form r.0)) in
      λ i. length (same i) + counts_child r regions pages form above.1 i

  -- ALL REGIONS
  pub length_copies : (regions : List RegionNo) (pages : List PageImage) → AreFormed parent.0 pages → RegionsRise regions → length (copied_pages parent.0 child regions pages) + counts child.0 regions pages ≡ length pages + counts parent.0 regions pages
  length_copies [] pages form rise = refl
  length_copies (r ∷ regions) pages form rise =
      let rest = length_copies regions (copied parent child r pages) (step_formed r pages form) rise.1 in
      let one = length-copied parent child r pages (form r.0) in
      let theirs = counts_parent r regions pages form in
      let mine = counts_child r regions pages form rise.0 in
      omega (arith, rest, one, theirs, mine)

  -- where the child has no pages there, each step leaves no more than the whole
  pub step_fits : (r : RegionNo) (regions : List RegionNo) (pages : List PageImage) (frames : ℕ) → AreFormed parent.0 pages → RegionsRise (r ∷ regions) → counts child.0 (r ∷ regions) pages ≡ 0 → length (copied_pages parent.0 child (r ∷ regions) pages) ≤ frames → length (copied parent child r pages) ≤ frames
  step_fits r regions pages frames form rise none fits =
      let rest = length_copies regions (copied parent child r pages) (step_formed r pages form) rise.1 in
      let mine = counts_child r regions pages form rise.0 in
      omega (arith, rest, mine, none, fits)

  -- THE CHILD'S PAGES MAY GO BEFORE
  parent_cleared : (regions : List RegionNo) (region : ℕ) (pages : List PageImage) → pages_of parent.0 region (cleared child.0 regions pages) ≡ pages_of parent.0 region pages
  parent_cleared [] region pages = refl
  parent_cleared (r ∷ regions) region pages =
      parent_cleared regions region (without page_key (is_page_of child.0 r.0) pages)
      ∙ those_without page_key (is_page_of parent.0 region) (is_page_of child.0 r.0) pages (λ k here. other_page parent.0 region child.0 r.0 k (λ e f. differ parent.0 child.0 apart e) here)

  outside : (r : RegionNo) (regions : List RegionNo) (pages : List PageImage) → AreFormed parent.0 pages → AllByRecursion (λ (s : RegionNo). r.0 < s.0) regions → AreOutside child.0 regions (map (for_child child) (pages_of parent.0 r.0 pages))
  outside r [] pages form above = tt
  outside r (s ∷ regions) pages form above =
      (all_out child.0 s.0 child.0 r.0 (map (for_child child) (pages_of parent.0 r.0 pages)) (λ e f. above_differs r s above.0 f) (are_copies parent.0 r.0 child (pages_of parent.0 r.0 pages) (form r.0)).1, outside r regions pages form above.1)

  step_cleared : (r : RegionNo) (regions : List RegionNo) (pages : List PageImage) → AreFormed parent.0 pages → Rises page_key pages → AllByRecursion (λ (s : RegionNo). r.0 < s.0) regions → copied parent child r (cleared child.0 (r ∷ regions) pages) ≡ cleared child.0 regions (copied parent child r pages)
  step_cleared r regions pages form order above =
      let now = without page_key (is_page_of child.0 r.0) pages in
      let gone = all_stay page_key (is_page_of child.0 r.0) (cleared child.0 regions now) (none_cleared child.0 (is_page_of child.0 r.0) regions now (none_left page_key (is_page_of child.0 r.0) pages)) in
      let same = parent_cleared (r ∷ regions) r.0 pages in
      (λ i. put_all page_key (map (for_child child) (same i)) (gone i))
      ∙ put_all-cleared child.0 regions (map (for_child child) (pages_of parent.0 r.0 pages)) now (outside r regions pages form above) (Rises-without page_key (is_page_of child.0 r.0) pages order)

  pub copied_cleared : (regions : List RegionNo) (pages : List PageImage) → AreFormed parent.0 pages → Rises page_key pages → RegionsRise regions → copied_pages parent.0 child regions (cleared child.0 regions pages) ≡ copied_pages parent.0 child regions pages
  copied_cleared [] pages form order rise = refl
  copied_cleared (r ∷ regions) pages form order rise =
      ap (copied_pages parent.0 child regions) (step_cleared r regions pages form order rise.0)
      ∙ copied_cleared regions (copied parent child r pages) (step_formed r pages form) (Rises-put_all page_key (map (for_child child) (pages_of parent.0 r.0 pages)) (without page_key (is_page_of child.0 r.0) pages) (Rises-without page_key (is_page_of child.0 r.0) pages order)) rise.1
