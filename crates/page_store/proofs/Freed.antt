-- Frames that are freed, and pages that go.
use Rattle.std.proofs.Common.{◌≡◌, ◌+◌, ◌*◌, ◌<◌, ◌^◌, [], ◌∷◌, ◌∙◌, ℕ, Bool, List, None, Option, Some, ap, arith, cond, count_by, false, get_or, is_some, length, not, refl, set, subst, suc, sym, true}
use Rattle.std.specs.List.{AllByRecursion}
use Rattle.std.proofs.lemmas.Bool.Decides.{nat_tests}
use Rattle.std.proofs.lemmas.List.{get_or-set_other}
use Rattle.std.proofs.lemmas.List.Sums.{sum_by-set}
use Rattle.keyed_list.proofs.Found.{below_differs}
use Rattle.keyed_list.proofs.Listed.{Rises-without}
use Rattle.keyed_list.proofs.Order.{below-trans, same_is}
use Rattle.keyed_list.specs.Below.{is_within}
use Rattle.lego_base.specs.Keys.{IsAbove, Key, Rises, is_page_from, is_page_of, key_at, same_key, those, without}
use Rattle.lego_base.specs.declared.records.PageImage.{PageImage}
use Rattle.lego_msg.specs.Maps.{page_key}
use Rattle.page_store.proofs.Changes.{held-without, images-without}
use Rattle.page_store.proofs.Laid.{within}
use Rattle.page_store.proofs.Places.{frames_differ, held_some, not_both, those-images}
use Rattle.page_store.specs.Spots.{AreHeld, IsHeld, IsPageOf, IsTied, SaysWithin, freed, image, images, spot_key}
use Rattle.page_store.specs.declared.frames.Page.{Page}
use Rattle.page_store.specs.declared.spot.Spot.{Spot}

-- frames that aren't among those freed stay
abbrev pub Apart : Spot → List Spot → Type 0
Apart t gone = AllByRecursion (λ (s : Spot). t.frame ≡ s.frame → ⊥) gone

pub freed_stays : (frames : List (Option Page)) (gone : List Spot) (t : Spot) → Apart t gone → get_or (freed frames gone) t.frame None ≡ get_or frames t.frame None
freed_stays frames [] t apart = refl
freed_stays frames (s ∷ gone) t apart = freed_stays (set frames s.frame None) gone t apart.1 ∙ get_or-set_other frames s.frame t.frame None None apart.0

-- a place that stays is apart from those that go
pub apart_those : (frames : List (Option Page)) (test : Key → Bool) (spots : List Spot) (t : Spot) → AreHeld frames spots → IsHeld frames t → test (spot_key t) ≡ false → Apart t (those spot_key test spots)
apart_those frames test [] t held here out = tt
apart_those frames test (s ∷ spots) t held here out = by (test (spot_key s)) refl (apart_those frames test spots t held.1 here out)
  where
    differ : test (spot_key s) ≡ true → same_key (spot_key t) (spot_key s) ≡ false
    differ goes = pick (same_key (spot_key t) (spot_key s)) refl
      where
        pick : (b : Bool) → same_key (spot_key t) (spot_key s) ≡ b → b ≡ false
        pick true same = absurd (not_both (test (spot_key s)) goes (ap test (sym (same_is (spot_key t) (spot_key s) same)) ∙ out))
        pick false other = refl

    by : (b : Bool) → test (spot_key s) ≡ b → Apart t (those spot_key test spots) → Apart t (cond b (s ∷ those spot_key test spots) (those spot_key test spots))
    by true goes rest = (frames_differ frames t s here held.0 (differ goes), rest)
    by false stays rest = rest

-- each place of a list that rises is apart from the later ones
abbrev pub AllApart : List Spot → Type 0
AllApart [] = Unit {0}
AllApart (s ∷ spots) = Apart s spots × AllApart spots

skip_one : (s t : Spot) (us : List Spot) → Rises spot_key (s ∷ t ∷ us) → IsAbove spot_key s us
skip_one s t [] rise = tt
skip_one s t (u ∷ us) rise = below-trans (spot_key s) (spot_key t) (spot_key u) rise.0 rise.1.0

apart_above : (frames : List (Option Page)) (s : Spot) (spots : List Spot) → Rises spot_key (s ∷ spots) → AreHeld frames (s ∷ spots) → Apart s spots
apart_above frames s [] rise held = tt
apart_above frames s (t ∷ spots) rise held =
    (frames_differ frames s t held.0 held.1.0 (below_differs (spot_key s) (spot_key t) rise.0), apart_above frames s spots (skip_one s t spots rise, rise.1.1) (held.0, held.1.1))

pub all_apart : (frames : List (Option Page)) (spots : List Spot) → Rises spot_key spots → AreHeld frames spots → AllApart spots
all_apart frames [] rise held = tt
all_apart frames (s ∷ spots) rise held = (apart_above frames s spots rise held, all_apart frames spots rise.1 held.1)

apart_fewer : (test : Key → Bool) (t : Spot) (spots : List Spot) → Apart t spots → Apart t (those spot_key test spots)
apart_fewer test t [] apart = tt
apart_fewer test t (s ∷ spots) apart = by (test (spot_key s)) (apart_fewer test t spots apart.1)
  where
    by : (b : Bool) → Apart t (those spot_key test spots) → Apart t (cond b (s ∷ those spot_key test spots) (those spot_key test spots))
    by true rest = (apart.0, rest)
    by false rest = rest

pub all_apart_those : (test : Key → Bool) (spots : List Spot) → AllApart spots → AllApart (those spot_key test spots)
all_apart_those test [] apart = tt
all_apart_those test (s ∷ spots) apart = by (test (spot_key s)) (all_apart_those test spots apart.1)
  where
    by : (b : Bool) → AllApart (those spot_key test spots) → AllApart (cond b (s ∷ those spot_key test spots) (those spot_key test spots))
    by true rest = (apart_fewer test s spots apart.0, rest)
    by false rest = rest

pub held_those : (frames : List (Option Page)) (test : Key → Bool) (spots : List Spot) → AreHeld frames spots → AreHeld frames (those spot_key test spots)
held_those frames test [] held = tt
held_those frames test (s ∷ spots) held = by (test (spot_key s)) (held_those frames test spots held.1)
  where
    by : (b : Bool) → AreHeld frames (those spot_key test spots) → AreHeld frames (cond b (s ∷ those spot_key test spots) (those spot_key test spots))
    by true rest = (held.0, rest)
    by false rest = rest

-- each that goes frees a frame
pub freed_count : (frames : List (Option Page)) (gone : List Spot) → AreHeld frames gone → AllApart gone → count_by is_some (freed frames gone) + length gone ≡ count_by is_some frames
freed_count frames [] held apart = omega arith
freed_count frames (s ∷ gone) held apart =
    let rest = freed_count (set frames s.frame None) gone (still gone held.1 apart.0) apart.1 in
    let one = fewer in
    omega (arith, rest, one)
  where
    still : (ts : List Spot) → AreHeld frames ts → Apart s ts → AreHeld (set frames s.frame None) ts
    still [] held_ apart_ = tt
    still (t ∷ ts) held_ apart_ = (subst (IsPageOf t) (sym (get_or-set_other frames s.frame t.frame None None (λ e. apart_.0 (sym e)))) held_.0, still ts held_.1 apart_.1)

    some_one : (o : Option Page) → (o ≡ None → ⊥) → ◌≡◌ {A = ℕ} (cond (is_some o) 1 0) 1
    some_one None there = absurd (there refl)
    some_one (Some page) there = refl

    fewer : count_by is_some (set frames s.frame None) + 1 ≡ count_by is_some frames
    fewer =
        let sum = sum_by-set (λ (o : Option Page). cond (is_some o) 1 0) frames s.frame None None (within frames s.frame (held_some frames s held.0)) in
        let one = some_one (get_or frames s.frame None) (held_some frames s held.0) in
        omega (arith, sum, one)

pub parts : (test : Key → Bool) (spots : List Spot) → length (those spot_key test spots) + length (without spot_key test spots) ≡ length spots
parts test [] = refl
parts test (s ∷ spots) = by (test (spot_key s)) (parts test spots)
  where
    by : (b : Bool) → length (those spot_key test spots) + length (without spot_key test spots) ≡ length spots → length (cond b (s ∷ those spot_key test spots) (those spot_key test spots)) + length (cond (not b) (s ∷ without spot_key test spots) (without spot_key test spots)) ≡ suc (length spots)
    by true rest = omega (arith, rest)
    by false rest = omega (arith, rest)

-- tests that agree on the places pick the same
pub those_agree : (test other : Key → Bool) (spots : List Spot) → AllByRecursion (λ (s : Spot). s.vpn.0 < 2 ^ 64) spots → ((p n : ℕ) → n < 2 ^ 64 → test (key_at p n) ≡ other (key_at p n)) → those spot_key test spots ≡ those spot_key other spots
those_agree test other [] fit same = refl
those_agree test other (s ∷ spots) fit same = λ i. cond (same s.pid.0 s.vpn.0 fit.0 i) (s ∷ those_agree test other spots fit.1 same i) (those_agree test other spots fit.1 same i)

pub all-those : (P : Spot → Type 0) (test : Key → Bool) (spots : List Spot) → AllByRecursion P spots → AllByRecursion P (those spot_key test spots)
all-those P test [] all = tt
all-those P test (s ∷ spots) all = by (test (spot_key s)) (all-those P test spots all.1)
  where
    by : (b : Bool) → AllByRecursion P (those spot_key test spots) → AllByRecursion P (cond b (s ∷ those spot_key test spots) (those spot_key test spots))
    by true rest = (all.0, rest)
    by false rest = rest

pub none_those : (test : Key → Bool) (spots : List Spot) → AllByRecursion (λ (s : Spot). s.vpn.0 < 2 ^ 64) spots → ((p n : ℕ) → n < 2 ^ 64 → test (key_at p n) ≡ false) → those spot_key test spots ≡ []
none_those test [] fit out = refl
none_those test (s ∷ spots) fit out = rw (out s.pid.0 s.vpn.0 fit.0) (none_those test spots fit.1 out)

-- REGIONS
pub past_end : (pid region p n : ℕ) → n < 2 ^ 64 → 36028797018963967 < region → is_page_of pid region (key_at p n) ≡ false
past_end pid region p n fits past = grind (arith, nat_tests)

pub region_within : (pid region p n : ℕ) → is_page_of pid region (key_at p n) ≡ is_within pid (region * 512) (region * 512 + 511) (key_at p n)
region_within pid region p n = grind (arith, nat_tests)

-- no page is in an empty range
pub without_none : (pid first : ℕ) (pages : List PageImage) → without page_key (is_page_from pid first 0) pages ≡ pages
without_none pid first [] = refl
without_none pid first (p ∷ pages) = rw (out p.pid.0 p.vpn.0) (ap (λ (l : List PageImage). p ∷ l) (without_none pid first pages))
  where
    out : (q n : ℕ) → is_page_from pid first 0 (key_at q n) ≡ false
    out q n = grind (arith, nat_tests)

-- PAGES OF A RANGE go
module _ (frames : List (Option Page)) (spots : List Spot) (pid first last : ℕ) (tied : IsTied spots frames) where
  stays : (t : Spot) → IsHeld frames t → is_within pid first last (spot_key t) ≡ false → get_or (freed frames (those spot_key (is_within pid first last) spots)) t.frame None ≡ get_or frames t.frame None
  stays t here out = freed_stays frames (those spot_key (is_within pid first last) spots) t (apart_those frames (is_within pid first last) spots t tied.held here out)

  pub images_gone : (test : Key → Bool) → SaysWithin pid first last test → images (freed frames (those spot_key (is_within pid first last) spots)) (without spot_key (is_within pid first last) spots) ≡ without page_key test (images frames spots)
  images_gone test says =
      images-without frames (freed frames (those spot_key (is_within pid first last) spots)) (is_within pid first last) stays spots tied.held
      ∙ (those-images frames (λ (k : Key). not (is_within pid first last k)) spots
      ∙ (ap (images frames) (those_agree (λ (k : Key). not (is_within pid first last k)) (λ (k : Key). not (test k)) spots tied.fit (λ p n fits. ap not (sym (says p n fits))))
      ∙ sym (those-images frames (λ (k : Key). not (test k)) spots)))

  pub tied_gone : IsTied (without spot_key (is_within pid first last) spots) (freed frames (those spot_key (is_within pid first last) spots))
  tied_gone = record {
    rises = Rises-without spot_key (is_within pid first last) spots tied.rises;
    held = held-without frames (freed frames (those spot_key (is_within pid first last) spots)) (is_within pid first last) stays spots tied.held;
    each =
        let fewer = freed_count frames (those spot_key (is_within pid first last) spots) (held_those frames (is_within pid first last) spots tied.held) (all_apart_those (is_within pid first last) spots (all_apart frames spots tied.rises tied.held)) in
        let all = parts (is_within pid first last) spots in
        let each = tied.each in
        omega (arith, fewer, all, each);
    fit = all-those (λ (s : Spot). s.vpn.0 < 2 ^ 64) (λ (k : Key). not (is_within pid first last k)) spots tied.fit;
  }

-- where a test picks no page, all stay
pub none_goes : (frames : List (Option Page)) (test : Key → Bool) (spots : List Spot) → AllByRecursion (λ (s : Spot). s.vpn.0 < 2 ^ 64) spots → ((p n : ℕ) → n < 2 ^ 64 → test (key_at p n) ≡ false) → images frames spots ≡ without page_key test (images frames spots)
none_goes frames test [] fit out = refl
none_goes frames test (s ∷ spots) fit out = rw (out s.pid.0 s.vpn.0 fit.0) (λ i. image frames s ∷ none_goes frames test spots fit.1 out i)
