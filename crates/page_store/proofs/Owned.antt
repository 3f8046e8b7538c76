-- A frame with a page is that of the page's place.
use Rattle.std.proofs.Common.{◌≡◌, ◌⊎◌, ◌+◌, ◌≤◌, ◌&&◌, [], ◌∷◌, ◌∙◌, ℕ, Bool, List, None, Option, Some, ap, arith, cond, count_by, eqb, false, get_or, inl, inr, is_some, refl, set, subst, sym, true}
use Rattle.std.specs.List.{AllByRecursion}
use Rattle.std.proofs.lemmas.Bool.{eq-eqb, eqb-true}
use Rattle.std.proofs.lemmas.List.Sums.{sum_by-set}
use Rattle.keyed_list.proofs.Found.{above_differs, none_above}
use Rattle.keyed_list.proofs.Order.{same_is, same_self}
use Rattle.lego_base.specs.Keys.{Key, Rises, find, is_below, key_at, same_key}
use Rattle.page_store.proofs.Freed.{all_apart, freed_count, freed_stays}
use Rattle.page_store.proofs.Laid.{within}
use Rattle.page_store.specs.Spots.{AreHeld, IsHeld, IsPageOf, IsTied, frame_in, freed, is_page, spot_key}
use Rattle.page_store.specs.declared.frames.Page.{Page}
use Rattle.page_store.specs.declared.spot.Spot.{Spot}

both : (a b : Bool) → (a && b) ≡ true → (a ≡ true) × (b ≡ true)
both true b e = (refl, e)
both false b e = cc e

-- what is found after the first isn't the first
first_differs : (s t : Spot) (spots : List Spot) (k : Key) → Rises spot_key (s ∷ spots) → find spot_key k spots ≡ Some t → same_key (spot_key s) k ≡ false
first_differs s t [] k rise found = cc found
first_differs s t (u ∷ us) k rise found = by (same_key (spot_key s) k) refl
  where
    by : (b : Bool) → same_key (spot_key s) k ≡ b → b ≡ false
    by true same =
        let below : is_below k (spot_key u) ≡ true = ap (λ (q : Key). is_below q (spot_key u)) (sym (same_is (spot_key s) k same)) ∙ rise.0 in
        let gone : find spot_key k (u ∷ us) ≡ None = rw (above_differs k (spot_key u) below) (none_above spot_key k u us rise.1 below) in
        let wrong : ◌≡◌ {A = Option Spot} None (Some t) = sym gone ∙ found in
        cc wrong
    by false other = refl

-- a place with a frame, or none has it
abbrev HasPlace : List (Option Page) → List Spot → ℕ → Type 0
HasPlace frames spots n = (s : Spot) × (find spot_key (spot_key s) spots ≡ Some s) × IsHeld frames s × (s.frame ≡ n)

place_or_none : (frames : List (Option Page)) (n : ℕ) (spots : List Spot) → Rises spot_key spots → AreHeld frames spots → HasPlace frames spots n ⊎ AllByRecursion (λ (s : Spot). n ≡ s.frame → ⊥) spots
place_or_none frames n [] rise held = inr tt
place_or_none frames n (s ∷ spots) rise held = by (eqb n s.frame) refl (place_or_none frames n spots rise.1 held.1)
  where
    differ : eqb n s.frame ≡ false → n ≡ s.frame → ⊥
    differ other same = let wrong = sym (eq-eqb n s.frame same) ∙ other in cc wrong

    by : (b : Bool) → eqb n s.frame ≡ b → HasPlace frames spots n ⊎ AllByRecursion (λ (t : Spot). n ≡ t.frame → ⊥) spots → HasPlace frames (s ∷ spots) n ⊎ AllByRecursion (λ (t : Spot). n ≡ t.frame → ⊥) (s ∷ spots)
    by true is rest = inl (s, rw (same_self (spot_key s)) refl, held.0, sym (eqb-true n s.frame is))
    by false other (inl there) = inl (there.0, rw (first_differs s there.0 spots (spot_key there.0) rise there.1) there.1, there.2, there.3)
    by false other (inr none) = inr (differ other, none)

count_one : (frames : List (Option Page)) (n : ℕ) (page : Page) → get_or frames n None ≡ Some page → 1 ≤ count_by is_some frames
count_one frames n page is =
    let fewer = less in
    omega (arith, fewer)
  where
    less : count_by is_some (set frames n None) + 1 ≡ count_by is_some frames
    less =
        let sum = sum_by-set (λ (o : Option Page). cond (is_some o) 1 0) frames n None None (within frames n there) in
        let one : ◌≡◌ {A = ℕ} (cond (is_some (get_or frames n None)) 1 0) 1 = ap (λ (o : Option Page). cond (is_some o) 1 0) is in
        omega (arith, sum, one)
      where
        there : get_or frames n None ≡ None → ⊥
        there none = let wrong : ◌≡◌ {A = Option Page} None (Some page) = sym none ∙ is in cc wrong

-- frames and places are as many, so that no frame with a page is without a place
pub place_of : (frames : List (Option Page)) (spots : List Spot) (n : ℕ) (page : Page) → IsTied spots frames → get_or frames n None ≡ Some page → HasPlace frames spots n
place_of frames spots n page tied is = elim (place_or_none frames n spots tied.rises tied.held) [ inl there ↦ there | inr none ↦ absurd (too_many none) ]
  where
    too_many : AllByRecursion (λ (s : Spot). n ≡ s.frame → ⊥) spots → ⊥
    too_many none =
        let t : Spot = record { pid = page.pid; vpn = page.vpn; frame = n } in
        let left = count_one (freed frames spots) n page (freed_stays frames spots t none ∙ is) in
        let count = freed_count frames spots tied.held (all_apart frames spots tied.rises tied.held) in
        let each = tied.each in
        omega (arith, left, count, each)

-- the place of the page that a frame holds has the frame
pub frame_is : (frames : List (Option Page)) (spots : List Spot) (pid vpn n : ℕ) → IsTied spots frames → is_page pid vpn (get_or frames n None) ≡ true → frame_in (find spot_key (key_at pid vpn) spots) ≡ Some n
frame_is frames spots pid vpn n tied is = by (get_or frames n None) refl is
  where
    by : (o : Option Page) → get_or frames n None ≡ o → is_page pid vpn o ≡ true → frame_in (find spot_key (key_at pid vpn) spots) ≡ Some n
    by None none e = cc e
    by (Some page) some e =
        let there = place_of frames spots n page tied some in
        let s = there.0 in
        let held : IsPageOf s (Some page) = subst (IsPageOf s) (ap (λ (m : ℕ). get_or frames m None) there.3 ∙ some) there.2 in
        let two_ = both (eqb page.pid.0 pid) (eqb page.vpn.0 vpn) e in
        let key : spot_key s ≡ key_at pid vpn = λ i. record { pid = (sym held.0 ∙ eqb-true page.pid.0 pid two_.0) i; number = (sym held.1 ∙ eqb-true page.vpn.0 vpn two_.1) i } in
        ap frame_in (ap (λ (k : Key). find spot_key k spots) (sym key) ∙ there.1) ∙ ap (λ (m : ℕ). Some m) there.3

-- a frame that is found is that of a place
pub from_frame : (o : Option Spot) (n : ℕ) → frame_in o ≡ Some n → (s : Spot) × (o ≡ Some s) × (s.frame ≡ n)
from_frame None n e = cc e
from_frame (Some s) n e = (s, refl, cc e)

pub from_none : (o : Option Spot) → frame_in o ≡ None → o ≡ None
from_none None e = refl
from_none (Some s) e = cc e
