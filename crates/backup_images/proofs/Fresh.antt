-- Pages that are put over others: what is found then, and how many there are.
use Rattle.std.proofs.Common.{◌≡◌, ◌+◌, ◌*◌, ◌≤◌, [], ◌∷◌, ◌∙◌, ℕ, Bool, List, None, Option, Some, ap, arith, cond, false, length, refl, suc, sym, true}
use Rattle.std.proofs.lemmas.Bool.{le-ltb, ltb-false}
use Rattle.lego_base.specs.Keys.{Key, Rises, find, is_below, key_at, put, put_all, same_key}
use Rattle.lego_base.specs.declared.records.PageImage.{PageImage}
use Rattle.lego_msg.specs.Maps.{bytes_or_zeros, image_bytes, page_at, page_in, page_key}
use Rattle.keyed_list.proofs.Found.{above_differs, none_above}
use Rattle.keyed_list.proofs.Listed.{find-put}
use Rattle.keyed_list.proofs.Order.{same_is}
use Rattle.backup_images.specs.Segments.{is_heavy}
use Rattle.backup_images.proofs.Rising.{put_all_rises, put_rises}
use Rattle.backup_images.proofs.Twice.{same_pages}

-- what is found in pages that are put over others: theirs, or else what was there
abbrev either : {X : Type 0} → Option X → Option X → Option X
either None under = under
either (Some x) under = Some x

none_later : (x : PageImage) (xs : List PageImage) (k : Key) → Rises page_key (x ∷ xs) → same_key (page_key x) k ≡ true → find page_key k xs ≡ None
none_later x [] k r same = refl
none_later x (y ∷ ys) k r same =
    let below : is_below k (page_key y) ≡ true = ap (λ q. is_below q (page_key y)) (sym (same_is (page_key x) k same)) ∙ r.0 in
    ap (λ b. cond b (Some y) (find page_key k ys)) (above_differs k (page_key y) below) ∙ none_above page_key k y ys r.1 below

found_over : (fresh pages : List PageImage) (k : Key) → Rises page_key fresh → find page_key k (put_all page_key fresh pages) ≡ either (find page_key k fresh) (find page_key k pages)
found_over [] pages k r = refl
found_over (x ∷ xs) pages k r =
    found_over xs (put page_key x pages) k r.1 ∙ ap (either (find page_key k xs)) (find-put page_key x pages k) ∙ by (same_key (page_key x) k) refl
  where
    by : (b : Bool) → same_key (page_key x) k ≡ b → either (find page_key k xs) (cond b (Some x) (find page_key k pages)) ≡ either (cond b (Some x) (find page_key k xs)) (find page_key k pages)
    by true e = ap (λ o. either o (Some x)) (none_later x xs k r e)
    by false e = refl

-- one page more, put over those that are put over others
pub put_over : (x : PageImage) (fresh pages : List PageImage) → Rises page_key fresh → Rises page_key pages → put_all page_key (put page_key x fresh) pages ≡ put page_key x (put_all page_key fresh pages)
put_over x fresh pages f r =
    same_pages (put_all page_key (put page_key x fresh) pages) (put page_key x (put_all page_key fresh pages)) (put_all_rises page_key (put page_key x fresh) pages r)
    (put_rises page_key x (put_all page_key fresh pages) (put_all_rises page_key fresh pages r)) (λ pid vpn. ap image_bytes (at (key_at pid vpn)))
  where
    at : (k : Key) → find page_key k (put_all page_key (put page_key x fresh) pages) ≡ find page_key k (put page_key x (put_all page_key fresh pages))
    at k =
        found_over (put page_key x fresh) pages k (put_rises page_key x fresh f) ∙ ap (λ o. either o (find page_key k pages)) (find-put page_key x fresh k)
        ∙ by (same_key (page_key x) k) ∙ ap (cond (same_key (page_key x) k) (Some x)) (sym (found_over fresh pages k f)) ∙ sym (find-put page_key x (put_all page_key fresh pages) k)
      where
        by : (b : Bool) → either (cond b (Some x) (find page_key k fresh)) (find page_key k pages) ≡ cond b (Some x) (either (find page_key k fresh) (find page_key k pages))
        by true = refl
        by false = refl

-- the bytes of a page: of those on top, or else of those below
pub bytes_on_top : (fresh pages : List PageImage) (pid vpn : ℕ) (b : List ℕ) → Rises page_key fresh → page_in fresh pid vpn ≡ Some b → page_at (put_all page_key fresh pages) pid vpn ≡ b
bytes_on_top fresh pages pid vpn b r e = ap (λ o. bytes_or_zeros (image_bytes o)) (found_over fresh pages (key_at pid vpn) r) ∙ by (find page_key (key_at pid vpn) fresh) e
  where
    by : (o : Option PageImage) → image_bytes o ≡ Some b → bytes_or_zeros (image_bytes (either o (find page_key (key_at pid vpn) pages))) ≡ b
    by None f = cc f
    by (Some p) f = ap bytes_or_zeros f

pub bytes_below : (fresh pages : List PageImage) (pid vpn : ℕ) → Rises page_key fresh → page_in fresh pid vpn ≡ None → page_at (put_all page_key fresh pages) pid vpn ≡ page_at pages pid vpn
bytes_below fresh pages pid vpn r e = ap (λ o. bytes_or_zeros (image_bytes o)) (found_over fresh pages (key_at pid vpn) r) ∙ by (find page_key (key_at pid vpn) fresh) e
  where
    by : (o : Option PageImage) → image_bytes o ≡ None → bytes_or_zeros (image_bytes (either o (find page_key (key_at pid vpn) pages))) ≡ page_at pages pid vpn
    by None f = refl
    by (Some p) f = cc f

-- HOW MANY: a page that is put is one more at most, and none goes
pub put_fewest : (x : PageImage) (ys : List PageImage) → length ys ≤ length (put page_key x ys)
put_fewest x [] = omega arith
put_fewest x (y ∷ ys) = by (is_below (page_key x) (page_key y)) (same_key (page_key x) (page_key y)) (put_fewest x ys)
  where
    by : (b c : Bool) → length ys ≤ length (put page_key x ys) → suc (length ys) ≤ length (cond b (x ∷ y ∷ ys) (cond c (x ∷ ys) (y ∷ put page_key x ys)))
    by true c rest = omega arith
    by false true rest = omega arith
    by false false rest = omega (arith, rest)

pub put_most : (x : PageImage) (ys : List PageImage) → length (put page_key x ys) ≤ suc (length ys)
put_most x [] = omega arith
put_most x (y ∷ ys) = by (is_below (page_key x) (page_key y)) (same_key (page_key x) (page_key y)) (put_most x ys)
  where
    by : (b c : Bool) → length (put page_key x ys) ≤ suc (length ys) → length (cond b (x ∷ y ∷ ys) (cond c (x ∷ ys) (y ∷ put page_key x ys))) ≤ suc (suc (length ys))
    by true c rest = omega arith
    by false true rest = omega arith
    by false false rest = omega (arith, rest)

pub put_all_fewest : (xs ys : List PageImage) → length ys ≤ length (put_all page_key xs ys)
put_all_fewest [] ys = omega arith
put_all_fewest (x ∷ xs) ys = omega (arith, put_fewest x ys, put_all_fewest xs (put page_key x ys))

-- a weight that isn't too much for some images isn't for more
pub light_for_more : (weight n more : ℕ) → n ≤ more → is_heavy weight n ≡ false → is_heavy weight more ≡ false
light_for_more weight n more le e = let most = ltb-false (8192 * n + 1048576) weight e in le-ltb (8192 * more + 1048576) weight (omega (arith, le, most))
