-- What a list of places and the list of the pages there have to do with each other.
use Rattle.std.proofs.Common.{◌≡◌, ◌&&◌, [], ◌∷◌, ◌∙◌, ℕ, Bool, List, None, Option, Some, ap, cond, false, get_or, length, refl, suc, sym, true}
use Rattle.std.specs.Option.{option_map}
use Rattle.std.proofs.lemmas.Bool.{eq-eqb}
use Rattle.lego_base.specs.Keys.{Key, Rises, find, is_below, put, same_key, those}
use Rattle.lego_base.specs.declared.records.PageImage.{PageImage}
use Rattle.keyed_list.proofs.Found.{none_above, above_differs, same_turned, other_turned}
use Rattle.lego_msg.specs.Maps.{page_key}
use Rattle.page_store.specs.Spots.{IsHeld, IsPageOf, image, images, spot_key}
use Rattle.page_store.specs.declared.frames.Page.{Page}
use Rattle.page_store.specs.declared.spot.Spot.{Spot}

-- FRAMES: two places with different keys have different frames
same_page : (s t : Spot) (o p : Option Page) → o ≡ p → IsPageOf s o → IsPageOf t p → same_key (spot_key s) (spot_key t) ≡ true
same_page s t None p e here there = absurd here
same_page s t (Some page) None e here there = absurd there
same_page s t (Some page) (Some other) e here there =
    let pid : s.pid.0 ≡ t.pid.0 = sym here.0 ∙ (ap (λ (o : Option Page). pid_of o) e ∙ there.0) in
    let vpn : s.vpn.0 ≡ t.vpn.0 = sym here.1 ∙ (ap (λ (o : Option Page). vpn_of o) e ∙ there.1) in
    λ i. eq-eqb s.pid.0 t.pid.0 pid i && eq-eqb s.vpn.0 t.vpn.0 vpn i
  where
    pid_of : Option Page → ℕ
    pid_of None = 0
    pid_of (Some x) = x.pid.0

    vpn_of : Option Page → ℕ
    vpn_of None = 0
    vpn_of (Some x) = x.vpn.0

pub not_both : (b : Bool) → b ≡ true → b ≡ false → ⊥
not_both true e f = cc f
not_both false e f = cc e

pub frames_differ : (frames : List (Option Page)) (s t : Spot) → IsHeld frames s → IsHeld frames t → same_key (spot_key s) (spot_key t) ≡ false → s.frame ≡ t.frame → ⊥
frames_differ frames s t here there differ same =
    not_both (same_key (spot_key s) (spot_key t)) (same_page s t (get_or frames s.frame None) (get_or frames t.frame None) (ap (λ (n : ℕ). get_or frames n None) same) here there) differ

-- A held place has a frame with a page.
pub held_some : (frames : List (Option Page)) (s : Spot) → IsHeld frames s → get_or frames s.frame None ≡ None → ⊥
held_some frames s held none = by (get_or frames s.frame None) none held
  where
    by : (o : Option Page) → o ≡ None → IsPageOf s o → ⊥
    by None e h = h
    by (Some page) e h = cc e

-- THE LIST OF PAGES: finding, choosing and counting
pub find-images : (frames : List (Option Page)) (spots : List Spot) (k : Key) → find page_key k (images frames spots) ≡ option_map (image frames) (find spot_key k spots)
find-images frames [] k = refl
find-images frames (s ∷ spots) k = by (same_key (spot_key s) k) (find-images frames spots k)
  where
    by : (b : Bool) → find page_key k (images frames spots) ≡ option_map (image frames) (find spot_key k spots) → cond b (Some (image frames s)) (find page_key k (images frames spots)) ≡ option_map (image frames) (cond b (Some s) (find spot_key k spots))
    by true rest = refl
    by false rest = rest

pub those-images : (frames : List (Option Page)) (test : Key → Bool) (spots : List Spot) → those page_key test (images frames spots) ≡ images frames (those spot_key test spots)
those-images frames test [] = refl
those-images frames test (s ∷ spots) = by (test (spot_key s)) (those-images frames test spots)
  where
    by : (b : Bool) → those page_key test (images frames spots) ≡ images frames (those spot_key test spots) → cond b (image frames s ∷ those page_key test (images frames spots)) (those page_key test (images frames spots)) ≡ images frames (cond b (s ∷ those spot_key test spots) (those spot_key test spots))
    by true rest = ap (λ (l : List PageImage). image frames s ∷ l) rest
    by false rest = rest

pub length-images : (frames : List (Option Page)) (spots : List Spot) → length (images frames spots) ≡ length spots
length-images frames [] = refl
length-images frames (s ∷ spots) = ap suc (length-images frames spots)

-- A page that isn't there is one more; one that is there isn't.
module _ {X : Type 0} (key : X → Key) where
  pub length-put_new : (x : X) (xs : List X) → find key (key x) xs ≡ None → length (put key x xs) ≡ suc (length xs)
  length-put_new x [] absent = refl
  length-put_new x (y ∷ ys) absent = by (is_below (key x) (key y)) (same_key (key x) (key y)) refl (λ e. length-put_new x ys (rest e))
    where
      rest : same_key (key y) (key x) ≡ false → find key (key x) ys ≡ None
      rest other = ap (λ (b : Bool). cond b (Some y) (find key (key x) ys)) (sym other) ∙ absent

      none : (b : Bool) → b ≡ true → cond b (Some y) (find key (key x) ys) ≡ None → ⊥
      none true e f = cc f
      none false e f = cc e

      by : (b c : Bool) → same_key (key x) (key y) ≡ c → (same_key (key y) (key x) ≡ false → length (put key x ys) ≡ suc (length ys)) → length (cond b (x ∷ y ∷ ys) (cond c (x ∷ ys) (y ∷ put key x ys))) ≡ suc (suc (length ys))
      by true c e more = refl
      by false true e more = absurd (none (same_key (key y) (key x)) (same_turned (key x) (key y) e) absent)
      by false false e more = ap suc (more (other_turned (key x) (key y) e))

  pub length-put_old : (x y : X) (xs : List X) → Rises key xs → find key (key x) xs ≡ Some y → length (put key x xs) ≡ length xs
  length-put_old x y [] rise found = cc found
  length-put_old x y (z ∷ zs) rise found = by (is_below (key x) (key z)) (same_key (key x) (key z)) refl refl (λ e. length-put_old x y zs rise.1 (rest e))
    where
      rest : same_key (key z) (key x) ≡ false → find key (key x) zs ≡ Some y
      rest other = ap (λ (b : Bool). cond b (Some z) (find key (key x) zs)) (sym other) ∙ found

      below : is_below (key x) (key z) ≡ true → ◌≡◌ {A = Option X} None (Some y)
      below e = sym (none_above key (key x) z zs rise e) ∙ rest (above_differs (key x) (key z) e)

      by : (b c : Bool) → is_below (key x) (key z) ≡ b → same_key (key x) (key z) ≡ c → (same_key (key z) (key x) ≡ false → length (put key x zs) ≡ length zs) → length (cond b (x ∷ z ∷ zs) (cond c (x ∷ zs) (z ∷ put key x zs))) ≡ suc (length zs)
      by true c e f more = let wrong = below e in cc wrong
      by false true e f more = refl
      by false false e f more = ap suc (more (other_turned (key x) (key z) f))
