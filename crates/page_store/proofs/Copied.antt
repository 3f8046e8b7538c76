-- Pages of a region that are copied for a child.
use Rattle.std.proofs.Common.{◌≡◌, ◌+◌, ◌/◌, ◌<◌, ◌&&◌, [], ◌∷◌, ◌∙◌, ℕ, Bool, List, None, Option, Some, ap, arith, cond, drop, eqb, false, get_or, length, not, refl, subst, suc, sym, true, zero}
use Rattle.std.specs.List.{AllByRecursion}
use Rattle.std.specs.Option.{option_map}
use Rattle.std.specs.Prelude.{map}
use Rattle.std.proofs.lemmas.Bool.{eq-eqb, eqb-true}
use Rattle.std.proofs.lemmas.List.{drop_more, length-map}
use Rattle.keyed_list.proofs.Found.{other_turned}
use Rattle.keyed_list.proofs.Listed.{find-put, find-without}
use Rattle.keyed_list.proofs.Order.{same_is}
use Rattle.lego_base.specs.Keys.{Key, find, is_below, is_page_of, key_at, put, put_all, same_key, those, without}
use Rattle.lego_base.specs.declared.ids.Pid.{Pid}
use Rattle.lego_base.specs.declared.ids.RegionNo.{RegionNo}
use Rattle.lego_base.specs.declared.records.PageImage.{PageImage}
use Rattle.lego_msg.specs.Form.{ArePages, IsNone}
use Rattle.lego_msg.specs.Maps.{for_child, page_key, pages_of, with_pages}
use Rattle.page_store.proofs.Freed.{held_those}
use Rattle.page_store.proofs.Places.{find-images, length-images, those-images}
use Rattle.page_store.proofs.Replaced.{AreAbsent, length-with_pages}
use Rattle.page_store.specs.Spots.{AreHeld, IsHeld, image, images, spot_key}
use Rattle.page_store.specs.Store.{copied}
use Rattle.page_store.specs.declared.frames.Page.{Page}
use Rattle.page_store.specs.declared.spot.Spot.{Spot}

-- LISTS: what a test picks, where others change
module _ {X : Type 0} (key : X → Key) (test : Key → Bool) where
  pub those_put : (x : X) (ys : List X) → test (key x) ≡ false → those key test (put key x ys) ≡ those key test ys
  those_put x [] out = rw out refl
  those_put x (y ∷ ys) out = by (is_below (key x) (key y)) (same_key (key x) (key y)) refl (those_put x ys out)
    where
      by : (b c : Bool) → same_key (key x) (key y) ≡ c → those key test (put key x ys) ≡ those key test ys → those key test (cond b (x ∷ y ∷ ys) (cond c (x ∷ ys) (y ∷ put key x ys))) ≡ cond (test (key y)) (y ∷ those key test ys) (those key test ys)
      by true c same rest = rw out refl
      by false true same rest = rw (out, sym (ap test (same_is (key x) (key y) same)) ∙ out) refl
      by false false same rest = λ i. cond (test (key y)) (y ∷ rest i) (rest i)

  those_put_all : (xs ys : List X) → AllByRecursion (λ (x : X). test (key x) ≡ false) xs → those key test (put_all key xs ys) ≡ those key test ys
  those_put_all [] ys out = refl
  those_put_all (x ∷ xs) ys out = those_put_all xs (put key x ys) out.1 ∙ those_put x ys out.0

  pub those_without : (gone : Key → Bool) (ys : List X) → ((k : Key) → test k ≡ true → gone k ≡ false) → those key test (without key gone ys) ≡ those key test ys
  those_without gone [] apart = refl
  those_without gone (y ∷ ys) apart = by (gone (key y)) (test (key y)) refl refl (those_without gone ys apart)
    where
      by : (b c : Bool) → gone (key y) ≡ b → test (key y) ≡ c → those key test (without key gone ys) ≡ those key test ys → those key test (cond (not b) (y ∷ without key gone ys) (without key gone ys)) ≡ cond c (y ∷ those key test ys) (those key test ys)
      by true true e f rest = let wrong = sym e ∙ apart (key y) f in cc wrong
      by true false e f rest = rest
      by false c e f rest = (λ i. cond (f i) (y ∷ those key test (without key gone ys)) (those key test (without key gone ys))) ∙ (λ i. cond c (y ∷ rest i) (rest i))

module _ {X : Type 0} (key : X → Key) where
  -- items that are absent stay so where another one is put
  pub still_absent : (x : X) (xs ys : List X) → IsNone key (key x) xs → AreAbsent key xs ys → AreAbsent key xs (put key x ys)
  still_absent x [] ys none absent = tt
  still_absent x (z ∷ zs) ys none absent = (find-put key x ys (key z) ∙ rw (other_turned (key z) (key x) none.0) absent.0, still_absent x zs ys none.1 absent.1)

pub all_at : {X : Type 0} (P : X → Type 0) (xs : List X) (i : ℕ) (d : X) → AllByRecursion P xs → i < length xs → P (get_or xs i d)
all_at P [] i d all within = absurd (omega (arith, within))
all_at P (x ∷ xs) zero d all within = all.0
all_at P (x ∷ xs) (suc i) d all within = all_at P xs i d all.1 (omega (arith, within))

pub get_or-map : {X Y : Type 0} (f : X → Y) (xs : List X) (i : ℕ) (d : X) (e : Y) → i < length xs → get_or (map f xs) i e ≡ f (get_or xs i d)
get_or-map f [] i d e within = absurd (omega (arith, within))
get_or-map f (x ∷ xs) zero d e within = refl
get_or-map f (x ∷ xs) (suc i) d e within = get_or-map f xs i d e (omega (arith, within))

-- ANOTHER REGION keeps its pages
both : (a b : Bool) → (a && b) ≡ true → (a ≡ true) × (b ≡ true)
both true b e = (refl, e)
both false b e = cc e

pub other_page : (p r child region : ℕ) (k : Key) → (p ≡ child → r ≡ region → ⊥) → is_page_of p r k ≡ true → is_page_of child region k ≡ false
other_page p r child region k apart here = by (is_page_of child region k) refl
  where
    by : (b : Bool) → is_page_of child region k ≡ b → b ≡ false
    by true there =
        let one = both (eqb k.pid p) (eqb (k.number / 512) r) here in
        let two_ = both (eqb k.pid child) (eqb (k.number / 512) region) there in
        absurd (apart (sym (eqb-true k.pid p one.0) ∙ eqb-true k.pid child two_.0) (sym (eqb-true (k.number / 512) r one.1) ∙ eqb-true (k.number / 512) region two_.1))
    by false out = refl

pub all_out : (p r child region : ℕ) (new : List PageImage) → (p ≡ child → r ≡ region → ⊥) → AllByRecursion (λ (x : PageImage). (x.pid.0 ≡ child) × (x.vpn.0 / 512 ≡ region) × (length x.bytes ≡ 4096)) new → AllByRecursion (λ (x : PageImage). is_page_of p r (page_key x) ≡ false) new
all_out p r child region [] apart all = tt
all_out p r child region (x ∷ new) apart all = (by (is_page_of p r (page_key x)) refl, all_out p r child region new apart all.1)
  where
    here : is_page_of child region (page_key x) ≡ true
    here = λ i. eq-eqb x.pid.0 child all.0.0 i && eq-eqb (x.vpn.0 / 512) region all.0.1 i

    by : (b : Bool) → is_page_of p r (page_key x) ≡ b → b ≡ false
    by true there = let wrong = sym here ∙ other_page p r child region (page_key x) apart there in cc wrong
    by false out = refl

pub other_region : (p r child region : ℕ) (new pages : List PageImage) → (p ≡ child → r ≡ region → ⊥) → ArePages child region new → pages_of p r (with_pages child region new pages) ≡ pages_of p r pages
other_region p r child region new pages apart form =
    those_put_all page_key (is_page_of p r) new (without page_key (is_page_of child region) pages) (all_out p r child region new apart form.1)
    ∙ those_without page_key (is_page_of p r) (is_page_of child region) pages (λ k here. other_page p r child region k apart here)

-- tests of numbers that differ
not_both : (b : Bool) → b ≡ true → b ≡ false → ⊥
not_both true e f = cc f
not_both false e f = cc e

pub differ : (a b : ℕ) → eqb a b ≡ false → a ≡ b → ⊥
differ a b other same = not_both (eqb a b) (eq-eqb a b same) other

-- THE COPIES are in form
none_copy : (parent : ℕ) (child : Pid) (x : PageImage) (xs : List PageImage) → x.pid.0 ≡ parent → AllByRecursion (λ (y : PageImage). y.pid.0 ≡ parent) xs → IsNone page_key (page_key x) xs → IsNone page_key (page_key (for_child child x)) (map (for_child child) xs)
none_copy parent child x [] is all none = tt
none_copy parent child x (y ∷ ys) is all none = (rw (eq-eqb child.0 child.0 refl) (number none.0), none_copy parent child x ys is all.1 none.1)
  where
    number : (eqb y.pid.0 x.pid.0 && eqb y.vpn.0 x.vpn.0) ≡ false → eqb y.vpn.0 x.vpn.0 ≡ false
    number e = sym (λ i. eq-eqb y.pid.0 x.pid.0 (all.0 ∙ sym is) i && eqb y.vpn.0 x.vpn.0) ∙ e

pub are_copies : (parent region : ℕ) (child : Pid) (pages : List PageImage) → ArePages parent region pages → ArePages child.0 region (map (for_child child) pages)
are_copies parent region child [] form = (tt, tt)
are_copies parent region child (p ∷ pages) form =
    let rest = are_copies parent region child pages (form.0.1, form.1.1) in
    ((none_copy parent child p pages form.1.0.0 (pids pages form.1.1) form.0.0, rest.0), ((refl, form.1.0.1, form.1.0.2), rest.1))
  where
    pids : (xs : List PageImage) → AllByRecursion (λ (x : PageImage). (x.pid.0 ≡ parent) × (x.vpn.0 / 512 ≡ region) × (length x.bytes ≡ 4096)) xs → AllByRecursion (λ (x : PageImage). x.pid.0 ≡ parent) xs
    pids [] all = tt
    pids (x ∷ xs) all = (all.0.0, pids xs all.1)

-- how many pages there are then
pub length-copied : (parent child : Pid) (region : RegionNo) (pages : List PageImage) → ArePages parent.0 region.0 (pages_of parent.0 region.0 pages) → length (copied parent child region pages) + length (pages_of child.0 region.0 pages) ≡ length (pages_of parent.0 region.0 pages) + length pages
length-copied parent child region pages form =
    let all = length-with_pages child.0 region.0 (map (for_child child) (pages_of parent.0 region.0 pages)) pages (are_copies parent.0 region.0 child (pages_of parent.0 region.0 pages) form) in
    let same = length-map (pages_of parent.0 region.0 pages) (for_child child) in
    omega (arith, all, same)

-- ONE AFTER THE OTHER
-- where no page of the region is the child's, no copy is there
pub copies_absent : (parent region : ℕ) (child : Pid) (new pages : List PageImage) → AllByRecursion (λ (x : PageImage). (x.pid.0 ≡ parent) × (x.vpn.0 / 512 ≡ region) × (length x.bytes ≡ 4096)) new → ((n : ℕ) → n / 512 ≡ region → find page_key (key_at child.0 n) pages ≡ None) → AreAbsent page_key (map (for_child child) new) pages
copies_absent parent region child [] pages all none = tt
copies_absent parent region child (x ∷ new) pages all none = (none x.vpn.0 all.0.1, copies_absent parent region child new pages all.1 none)

-- the child has no page in a region that was dropped
pub none_left : (child region n : ℕ) (pages : List PageImage) → n / 512 ≡ region → find page_key (key_at child n) (without page_key (is_page_of child region) pages) ≡ None
none_left child region n pages is = find-without page_key (is_page_of child region) pages (key_at child n) ∙ rw (here) refl
  where
    here : is_page_of child region (key_at child n) ≡ true
    here = λ i. eq-eqb child child refl i && eq-eqb (n / 512) region is i

-- what isn't among the pages isn't among the places
pub place_absent : (frames : List (Option Page)) (spots : List Spot) (k : Key) → find page_key k (images frames spots) ≡ None → find spot_key k spots ≡ None
place_absent frames spots k absent = by (find spot_key k spots) (sym (find-images frames spots k) ∙ absent)
  where
    by : (o : Option Spot) → option_map (image frames) o ≡ None → o ≡ None
    by None e = refl
    by (Some s) e = cc e

-- a copy is of another process than the parent's pages
pub copy_out : (parent region : ℕ) (child : Pid) (n : ℕ) → eqb parent child.0 ≡ false → is_page_of parent region (key_at child.0 n) ≡ false
copy_out parent region child n apart = by (eqb child.0 parent) refl
  where
    by : (b : Bool) → eqb child.0 parent ≡ b → (b && eqb (n / 512) region) ≡ false
    by true same = absurd (differ parent child.0 apart (sym (eqb-true child.0 parent same)))
    by false other = refl

-- the place with a number among those of a region
pub place_within : (frames : List (Option Page)) (spots view : List Spot) (parent region i : ℕ) (there : List PageImage) → view ≡ spots → pages_of parent region (images frames spots) ≡ there → i < length there → i < length (those spot_key (is_page_of parent region) view)
place_within frames spots view parent region i there is same within =
    let long : length (those spot_key (is_page_of parent region) view) ≡ length there =
    sym (length-images frames (those spot_key (is_page_of parent region) view))
    ∙ (ap length (sym (those-images frames (is_page_of parent region) view))
    ∙ (ap (λ (l : List Spot). length (pages_of parent region (images frames l))) is ∙ ap length same)) in
    omega (arith, long, within)

-- its page is the next that is copied
pub next_copy : (frames : List (Option Page)) (spots view : List Spot) (parent region i : ℕ) (child : Pid) (spot : Spot) (there : List PageImage) → view ≡ spots → pages_of parent region (images frames spots) ≡ there → i < length there → ((d : Spot) → spot ≡ get_or (those spot_key (is_page_of parent region) view) i d) → drop i (map (for_child child) there) ≡ for_child child (image frames spot) ∷ drop (i + 1) (map (for_child child) there)
next_copy frames spots view parent region i child spot there is same within at =
    let copy : PageImage = for_child child (image frames spot) in
    let inside = place_within frames spots view parent region i there is same within in
    let all : there ≡ images frames (those spot_key (is_page_of parent region) view) = sym (sym (those-images frames (is_page_of parent region) view) ∙ (ap (λ (l : List Spot). pages_of parent region (images frames l)) is ∙ same)) in
    let here : get_or there i (image frames spot) ≡ image frames spot =
    ap (λ (l : List PageImage). get_or l i (image frames spot)) all
    ∙ (get_or-map (image frames) (those spot_key (is_page_of parent region) view) i spot (image frames spot) inside
    ∙ ap (image frames) (sym (at spot))) in
    let long = length-map there (for_child child) in
    drop_more (map (for_child child) there) i copy (omega (arith, long, within))
    ∙ ap (λ (p : PageImage). p ∷ drop (i + 1) (map (for_child child) there)) (get_or-map (for_child child) there i (image frames spot) copy within ∙ ap (for_child child) here)

-- and it is in a frame
pub held_at : (frames : List (Option Page)) (spots view : List Spot) (parent region i : ℕ) (spot : Spot) → view ≡ spots → AreHeld frames spots → i < length (those spot_key (is_page_of parent region) view) → ((d : Spot) → spot ≡ get_or (those spot_key (is_page_of parent region) view) i d) → IsHeld frames spot
held_at frames spots view parent region i spot is held within at =
    subst (IsHeld frames) (sym (at spot)) (all_at (IsHeld frames) (those spot_key (is_page_of parent region) view) i spot (held_those frames (is_page_of parent region) view (subst (AreHeld frames) (sym is) held)) within)
