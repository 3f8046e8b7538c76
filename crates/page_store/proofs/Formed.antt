-- The pages of a region, as a store has them, are in form.
use Rattle.std.proofs.Common.{◌≡◌, ◌/◌, ◌&&◌, [], ◌∷◌, ℕ, Bool, List, None, Option, Some, cond, eqb, false, get_or, length, refl, true}
use Rattle.std.specs.List.{AllByRecursion}
use Rattle.std.proofs.lemmas.Bool.{eqb-true}
use Rattle.keyed_list.proofs.Found.{above_differs}
use Rattle.keyed_list.proofs.Order.{below-trans}
use Rattle.lego_base.specs.Keys.{IsAbove, Key, Rises, is_below, is_page_of, those}
use Rattle.lego_base.specs.declared.records.PageImage.{PageImage}
use Rattle.lego_msg.specs.Form.{ArePages, EachOnce, IsNone}
use Rattle.lego_msg.specs.Maps.{page_key, pages_of}
use Rattle.page_store.specs.Spots.{AreHeld, IsPageOf, bytes_in, image, images, spot_key}
use Rattle.page_store.specs.declared.frames.Page.{Page}
use Rattle.page_store.specs.declared.spot.Spot.{Spot}

above_one : (s t : Spot) (us : List Spot) → is_below (spot_key s) (spot_key t) ≡ true → IsAbove spot_key t us → IsAbove spot_key s us
above_one s t [] below rise = tt
above_one s t (u ∷ us) below rise = below-trans (spot_key s) (spot_key t) (spot_key u) below rise

none_above : (frames : List (Option Page)) (test : Key → Bool) (s : Spot) (spots : List Spot) → IsAbove spot_key s spots → Rises spot_key spots → IsNone page_key (spot_key s) (those page_key test (images frames spots))
none_above frames test s [] above rise = tt
none_above frames test s (t ∷ spots) above rise = by (test (spot_key t)) (none_above frames test s spots (above_one s t spots above rise.0) rise.1)
  where
    by : (b : Bool) → IsNone page_key (spot_key s) (those page_key test (images frames spots)) → IsNone page_key (spot_key s) (cond b (image frames t ∷ those page_key test (images frames spots)) (those page_key test (images frames spots)))
    by true rest = (above_differs (spot_key s) (spot_key t) above, rest)
    by false rest = rest

once : (frames : List (Option Page)) (test : Key → Bool) (spots : List Spot) → Rises spot_key spots → EachOnce page_key (those page_key test (images frames spots))
once frames test [] rise = tt
once frames test (s ∷ spots) rise = by (test (spot_key s)) (once frames test spots rise.1)
  where
    by : (b : Bool) → EachOnce page_key (those page_key test (images frames spots)) → EachOnce page_key (cond b (image frames s ∷ those page_key test (images frames spots)) (those page_key test (images frames spots)))
    by true rest = (none_above frames test s spots rise.0 rise.1, rest)
    by false rest = rest

both : (a b : Bool) → (a && b) ≡ true → (a ≡ true) × (b ≡ true)
both true b e = (refl, e)
both false b e = cc e

whole : (s : Spot) (o : Option Page) → IsPageOf s o → length (bytes_in o) ≡ 4096
whole s None held = absurd held
whole s (Some page) held = held.2

all_in : (frames : List (Option Page)) (pid region : ℕ) (spots : List Spot) → AreHeld frames spots → AllByRecursion (λ (p : PageImage). (p.pid.0 ≡ pid) × (p.vpn.0 / 512 ≡ region) × (length p.bytes ≡ 4096)) (pages_of pid region (images frames spots))
all_in frames pid region [] held = tt
all_in frames pid region (s ∷ spots) held = by (is_page_of pid region (spot_key s)) refl (all_in frames pid region spots held.1)
  where
    by : (b : Bool) → is_page_of pid region (spot_key s) ≡ b → AllByRecursion (λ (p : PageImage). (p.pid.0 ≡ pid) × (p.vpn.0 / 512 ≡ region) × (length p.bytes ≡ 4096)) (pages_of pid region (images frames spots)) → AllByRecursion (λ (p : PageImage). (p.pid.0 ≡ pid) × (p.vpn.0 / 512 ≡ region) × (length p.bytes ≡ 4096)) (cond b (image frames s ∷ pages_of pid region (images frames spots)) (pages_of pid region (images frames spots)))
    by true is rest =
        let two_ = both (eqb s.pid.0 pid) (eqb (s.vpn.0 / 512) region) is in
        ((eqb-true s.pid.0 pid two_.0, eqb-true (s.vpn.0 / 512) region two_.1, whole s (get_or frames s.frame None) held.0), rest)
    by false out rest = rest

pub are_pages : (frames : List (Option Page)) (pid region : ℕ) (spots : List Spot) → Rises spot_key spots → AreHeld frames spots → ArePages pid region (pages_of pid region (images frames spots))
are_pages frames pid region spots rise held = (once frames (is_page_of pid region) spots rise, all_in frames pid region spots held)

-- the pages rise as their places do
pub rises_images : (frames : List (Option Page)) (spots : List Spot) → Rises spot_key spots → Rises page_key (images frames spots)
rises_images frames [] rise = tt
rises_images frames (s ∷ spots) rise = (first spots rise.0, rises_images frames spots rise.1)
  where
    first : (ts : List Spot) → IsAbove spot_key s ts → IsAbove page_key (image frames s) (images frames ts)
    first [] above = tt
    first (t ∷ ts) above = above
