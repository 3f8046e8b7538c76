-- How many pages there are once those of a region are others.
use Rattle.std.proofs.Common.{◌≡◌, ◌+◌, ◌/◌, ◌≤◌, ◌&&◌, [], ◌∷◌, ◌∙◌, ℕ, Bool, List, None, arith, cond, false, length, ltb, not, refl, suc, sym, true}
use Rattle.std.specs.List.{AllByRecursion}
use Rattle.std.proofs.lemmas.Bool.{eq-eqb, ltb-true}
use Rattle.keyed_list.proofs.Listed.{find-put, find-without}
use Rattle.keyed_list.proofs.Found.{other_turned}
use Rattle.lego_base.specs.Keys.{Key, find, is_below, is_page_of, put, put_all, same_key, those, without}
use Rattle.lego_base.specs.declared.records.PageImage.{PageImage}
use Rattle.lego_msg.specs.Form.{ArePages, EachOnce, IsNone}
use Rattle.lego_msg.specs.Maps.{page_key, pages_of, with_pages}
use Rattle.page_store.proofs.Places.{length-put_new}

module _ {X : Type 0} (key : X → Key) where
  -- a put adds one at most, and takes none away
  put_more : (x : X) (ys : List X) → length ys ≤ length (put key x ys)
  put_more x [] = omega arith
  put_more x (y ∷ ys) = by (is_below (key x) (key y)) (same_key (key x) (key y)) (put_more x ys)
    where
      by : (b c : Bool) → length ys ≤ length (put key x ys) → suc (length ys) ≤ length (cond b (x ∷ y ∷ ys) (cond c (x ∷ ys) (y ∷ put key x ys)))
      by true c rest = omega arith
      by false true rest = omega arith
      by false false rest = omega (arith, rest)

  pub put_all_more : (xs ys : List X) → length ys ≤ length (put_all key xs ys)
  put_all_more [] ys = omega arith
  put_all_more (x ∷ xs) ys = let one = put_more x ys in let rest = put_all_more xs (put key x ys) in omega (arith, one, rest)

  abbrev pub AreAbsent : List X → List X → Type 0
  AreAbsent xs ys = AllByRecursion (λ (x : X). find key (key x) ys ≡ None) xs

  -- items that aren't there, each once, are as many more
  pub length-put_all : (xs ys : List X) → EachOnce key xs → AreAbsent xs ys → length (put_all key xs ys) ≡ length xs + length ys
  length-put_all [] ys once absent = omega arith
  length-put_all (x ∷ xs) ys once absent =
      let one = length-put_new key x ys absent.0 in
      let rest = length-put_all xs (put key x ys) once.1 (still xs once.0 absent.1) in
      omega (arith, one, rest)
    where
      still : (zs : List X) → IsNone key (key x) zs → AreAbsent zs ys → AreAbsent zs (put key x ys)
      still [] none absent_ = tt
      still (z ∷ zs) none absent_ = (find-put key x ys (key z) ∙ rw (other_turned (key z) (key x) none.0) absent_.0, still zs none.1 absent_.1)

  pub parts_of : (test : Key → Bool) (xs : List X) → length (those key test xs) + length (without key test xs) ≡ length xs
  parts_of test [] = refl
  parts_of test (x ∷ xs) = by (test (key x)) (parts_of test xs)
    where
      by : (b : Bool) → length (those key test xs) + length (without key test xs) ≡ length xs → length (cond b (x ∷ those key test xs) (those key test xs)) + length (cond (not b) (x ∷ without key test xs) (without key test xs)) ≡ suc (length xs)
      by true rest = omega (arith, rest)
      by false rest = omega (arith, rest)

  -- what goes isn't there then
  pub gone_absent : (test : Key → Bool) (xs ys : List X) → AllByRecursion (λ (x : X). test (key x) ≡ true) xs → AreAbsent xs (without key test ys)
  gone_absent test [] ys all = tt
  gone_absent test (x ∷ xs) ys all = (find-without key test ys (key x) ∙ rw all.0 refl, gone_absent test xs ys all.1)

all_there : (pid region : ℕ) (pages : List PageImage) → AllByRecursion (λ (p : PageImage). (p.pid.0 ≡ pid) × (p.vpn.0 / 512 ≡ region) × (length p.bytes ≡ 4096)) pages → AllByRecursion (λ (p : PageImage). is_page_of pid region (page_key p) ≡ true) pages
all_there pid region [] all = tt
all_there pid region (p ∷ pages) all = (λ i. eq-eqb p.pid.0 pid all.0.0 i && eq-eqb (p.vpn.0 / 512) region all.0.1 i, all_there pid region pages all.1)

pub all_whole : (pid region : ℕ) (pages : List PageImage) → AllByRecursion (λ (p : PageImage). (p.pid.0 ≡ pid) × (p.vpn.0 / 512 ≡ region) × (length p.bytes ≡ 4096)) pages → AllByRecursion (λ (p : PageImage). length p.bytes ≡ 4096) pages
all_whole pid region [] all = tt
all_whole pid region (p ∷ pages) all = (all.0.2, all_whole pid region pages all.1)

-- how many pages there are then
pub length-with_pages : (pid region : ℕ) (new pages : List PageImage) → ArePages pid region new → length (with_pages pid region new pages) + length (pages_of pid region pages) ≡ length new + length pages
length-with_pages pid region new pages form =
    let more = length-put_all page_key new (without page_key (is_page_of pid region) pages) form.0 (gone_absent page_key (is_page_of pid region) new pages (all_there pid region new form.1)) in
    let all = parts_of page_key (is_page_of pid region) pages in
    omega (arith, more, all)

-- a page is put where the last of them still has a frame
pub not_full : (page : PageImage) (rest pages : List PageImage) (most : ℕ) → length (put_all page_key (page ∷ rest) pages) ≤ most → true ≡ ltb most (length (put page_key page pages)) → ⊥
not_full page rest pages most room full =
    let over = ltb-true most (length (put page_key page pages)) (sym full) in
    let more = put_all_more page_key rest (put page_key page pages) in
    omega (arith, room, over, more)
