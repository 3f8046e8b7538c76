-- What the list of pages becomes where a frame, a place or both change.
use Rattle.std.proofs.Common.{◌≡◌, [], ◌∷◌, ◌∙◌, Bool, List, None, Option, Some, ap, cond, false, get_or, not, refl, subst, sym, true}
use Rattle.lego_base.specs.Keys.{Key, Rises, find, is_below, put, same_key, without}
use Rattle.lego_base.specs.declared.records.PageImage.{PageImage}
use Rattle.keyed_list.proofs.Found.{above_differs, none_above, other_turned, same_not_below, same_turned}
use Rattle.keyed_list.proofs.Order.{below-trans, same_is}
use Rattle.lego_msg.specs.Maps.{page_key}
use Rattle.page_store.specs.Spots.{AreHeld, IsHeld, IsPageOf, bytes_in, image, images, spot_key}
use Rattle.page_store.specs.declared.frames.Page.{Page}
use Rattle.page_store.specs.declared.spot.Spot.{Spot}

-- a frame is as it was
abbrev pub Stays : List (Option Page) → List (Option Page) → Spot → Type 0
Stays old new t = get_or new t.frame None ≡ get_or old t.frame None

image_stays : (old new : List (Option Page)) (t : Spot) → Stays old new t → image new t ≡ image old t
image_stays old new t stays = ap (λ (o : Option Page). let p : PageImage = record { pid = t.pid; vpn = t.vpn; bytes = bytes_in o } in p) stays

held_stays : (old new : List (Option Page)) (t : Spot) → Stays old new t → IsHeld old t → IsHeld new t
held_stays old new t stays held = subst (IsPageOf t) (sym stays) held

-- all places as they were
pub images_stay : (old new : List (Option Page)) (spots : List Spot) → AreHeld old spots → ((t : Spot) → IsHeld old t → Stays old new t) → images new spots ≡ images old spots
images_stay old new [] held stays = refl
images_stay old new (s ∷ spots) held stays = λ i. image_stays old new s (stays s held.0) i ∷ images_stay old new spots held.1 stays i

pub held_stay : (old new : List (Option Page)) (spots : List Spot) → AreHeld old spots → ((t : Spot) → IsHeld old t → Stays old new t) → AreHeld new spots
held_stay old new [] held stays = tt
held_stay old new (s ∷ spots) held stays = (held_stays old new s (stays s held.0) held.0, held_stay old new spots held.1 stays)

-- A NEW PLACE
module _ (frames : List (Option Page)) where
  pub images-put : (s : Spot) (spots : List Spot) → images frames (put spot_key s spots) ≡ put page_key (image frames s) (images frames spots)
  images-put s [] = refl
  images-put s (t ∷ spots) = by (is_below (spot_key s) (spot_key t)) (same_key (spot_key s) (spot_key t)) (images-put s spots)
    where
      by : (b c : Bool) → images frames (put spot_key s spots) ≡ put page_key (image frames s) (images frames spots) → images frames (cond b (s ∷ t ∷ spots) (cond c (s ∷ spots) (t ∷ put spot_key s spots))) ≡ cond b (image frames s ∷ image frames t ∷ images frames spots) (cond c (image frames s ∷ images frames spots) (image frames t ∷ put page_key (image frames s) (images frames spots)))
      by true c rest = refl
      by false true rest = refl
      by false false rest = ap (λ (l : List PageImage). image frames t ∷ l) rest

  pub held-put : (s : Spot) (spots : List Spot) → IsHeld frames s → AreHeld frames spots → AreHeld frames (put spot_key s spots)
  held-put s [] here held = (here, tt)
  held-put s (t ∷ spots) here held = by (is_below (spot_key s) (spot_key t)) (same_key (spot_key s) (spot_key t)) (held-put s spots here held.1)
    where
      by : (b c : Bool) → AreHeld frames (put spot_key s spots) → AreHeld frames (cond b (s ∷ t ∷ spots) (cond c (s ∷ spots) (t ∷ put spot_key s spots)))
      by true c rest = (here, held)
      by false true rest = (here, held.1)
      by false false rest = (held.0, rest)

-- ONE FRAME CHANGES
module _ (old new : List (Option Page)) (s : Spot) (stays : (t : Spot) → IsHeld old t → same_key (spot_key t) (spot_key s) ≡ false → Stays old new t) where
  -- the places above it are as they were
  rest_stays : (t : Spot) (spots : List Spot) → Rises spot_key (t ∷ spots) → same_key (spot_key t) (spot_key s) ≡ true → AreHeld old spots → images new spots ≡ images old spots
  rest_stays t [] rise same held = refl
  rest_stays t (u ∷ spots) rise same held =
      let above_ : is_below (spot_key s) (spot_key u) ≡ true = ap (λ (k : Key). is_below k (spot_key u)) (sym (same_is (spot_key t) (spot_key s) same)) ∙ rise.0 in
      λ i. image_stays old new u (stays u held.0 (above_differs (spot_key s) (spot_key u) above_)) i ∷ later u spots rise.1 above_ held.1 i
    where
      later : (v : Spot) (vs : List Spot) → Rises spot_key (v ∷ vs) → is_below (spot_key s) (spot_key v) ≡ true → AreHeld old vs → images new vs ≡ images old vs
      later v [] rise_ below held_ = refl
      later v (w ∷ vs) rise_ below held_ =
          let next : is_below (spot_key s) (spot_key w) ≡ true = below-trans (spot_key s) (spot_key v) (spot_key w) below rise_.0 in
          λ i. image_stays old new w (stays w held_.0 (above_differs (spot_key s) (spot_key w) next)) i ∷ later w vs rise_.1 next held_.1 i

  rest_held : (t : Spot) (spots : List Spot) → Rises spot_key (t ∷ spots) → is_below (spot_key s) (spot_key t) ≡ true → AreHeld old spots → AreHeld new spots
  rest_held t [] rise below held = tt
  rest_held t (u ∷ spots) rise below held =
      let next : is_below (spot_key s) (spot_key u) ≡ true = below-trans (spot_key s) (spot_key t) (spot_key u) below rise.0 in
      (held_stays old new u (stays u held.0 (above_differs (spot_key s) (spot_key u) next)) held.0, rest_held u spots rise.1 next held.1)

  -- a place that is found further on is above the first
  found_later : (t : Spot) (spots : List Spot) → Rises spot_key (t ∷ spots) → same_key (spot_key t) (spot_key s) ≡ false → find spot_key (spot_key s) spots ≡ Some s → is_below (spot_key s) (spot_key t) ≡ false
  found_later t spots rise other found = by (is_below (spot_key s) (spot_key t)) refl
    where
      by : (b : Bool) → is_below (spot_key s) (spot_key t) ≡ b → b ≡ false
      by true below = let wrong : ◌≡◌ {A = Option Spot} None (Some s) = sym (none_above spot_key (spot_key s) t spots rise below) ∙ found in cc wrong
      by false not_below = refl

  pub images-written : (spots : List Spot) → Rises spot_key spots → AreHeld old spots → find spot_key (spot_key s) spots ≡ Some s → images new spots ≡ put page_key (image new s) (images old spots)
  images-written [] rise held found = cc found
  images-written (t ∷ spots) rise held found = by (same_key (spot_key t) (spot_key s)) refl found (images-written spots rise.1 held.1)
    where
      by : (b : Bool) → same_key (spot_key t) (spot_key s) ≡ b → cond b (Some t) (find spot_key (spot_key s) spots) ≡ Some s → (find spot_key (spot_key s) spots ≡ Some s → images new spots ≡ put page_key (image new s) (images old spots)) → image new t ∷ images new spots ≡ put page_key (image new s) (image old t ∷ images old spots)
      by true same here rest =
          let is : t ≡ s = cc here in
          rw (same_not_below (spot_key t) (spot_key s) same, same_turned (spot_key t) (spot_key s) same) (λ i. image new (is i) ∷ rest_stays t spots rise same held.1 i)
      by false other there rest =
          rw (found_later t spots rise other there, other_turned (spot_key t) (spot_key s) other) (λ i. image_stays old new t (stays t held.0 other) i ∷ rest there i)

  pub held-written : (spots : List Spot) → Rises spot_key spots → AreHeld old spots → IsHeld new s → find spot_key (spot_key s) spots ≡ Some s → AreHeld new spots
  held-written [] rise held here found = cc found
  held-written (t ∷ spots) rise held here found = by (same_key (spot_key t) (spot_key s)) refl found (held-written spots rise.1 held.1 here)
    where
      rest_of : same_key (spot_key t) (spot_key s) ≡ true → (us : List Spot) → Rises spot_key (t ∷ us) → AreHeld old us → AreHeld new us
      rest_of same [] rise_ held_ = tt
      rest_of same (u ∷ us) rise_ held_ =
          let above_ : is_below (spot_key s) (spot_key u) ≡ true = ap (λ (k : Key). is_below k (spot_key u)) (sym (same_is (spot_key t) (spot_key s) same)) ∙ rise_.0 in
          (held_stays old new u (stays u held_.0 (above_differs (spot_key s) (spot_key u) above_)) held_.0, rest_held u us rise_.1 above_ held_.1)

      by : (b : Bool) → same_key (spot_key t) (spot_key s) ≡ b → cond b (Some t) (find spot_key (spot_key s) spots) ≡ Some s → (find spot_key (spot_key s) spots ≡ Some s → AreHeld new spots) → AreHeld new (t ∷ spots)
      by true same at rest = let is : t ≡ s = cc at in (subst (IsHeld new) (sym is) here, rest_of same spots rise held.1)
      by false other there rest = (held_stays old new t (stays t held.0 other) held.0, rest there)

-- PLACES GO
module _ (old new : List (Option Page)) (test : Key → Bool) (stays : (t : Spot) → IsHeld old t → test (spot_key t) ≡ false → Stays old new t) where
  pub images-without : (spots : List Spot) → AreHeld old spots → images new (without spot_key test spots) ≡ without page_key test (images old spots)
  images-without [] held = refl
  images-without (s ∷ spots) held = by (test (spot_key s)) refl (images-without spots held.1)
    where
      by : (b : Bool) → test (spot_key s) ≡ b → images new (without spot_key test spots) ≡ without page_key test (images old spots) → images new (cond (not b) (s ∷ without spot_key test spots) (without spot_key test spots)) ≡ cond (not b) (image old s ∷ without page_key test (images old spots)) (without page_key test (images old spots))
      by true is rest = rest
      by false is rest = λ i. image_stays old new s (stays s held.0 is) i ∷ rest i

  pub held-without : (spots : List Spot) → AreHeld old spots → AreHeld new (without spot_key test spots)
  held-without [] held = tt
  held-without (s ∷ spots) held = by (test (spot_key s)) refl (held-without spots held.1)
    where
      by : (b : Bool) → test (spot_key s) ≡ b → AreHeld new (without spot_key test spots) → AreHeld new (cond (not b) (s ∷ without spot_key test spots) (without spot_key test spots))
      by true is rest = rest
      by false is rest = (held_stays old new s (stays s held.0 is) held.0, rest)
