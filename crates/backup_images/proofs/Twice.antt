-- A batch that is laid over pages twice makes what it makes once: at each position of a page a batch either leaves every byte
-- as it is, or makes the same of each.
use Rattle.std.proofs.Common.{◌≡◌, ◌⊎◌, ◌+◌, ◌-◌, ◌<◌, ◌≤◌, ◌&&◌, [], ◌∷◌, ◌++◌, ◌∙◌, ℕ, Bool, List, None, Option, Some, ap, arith, cond, drop, eqb, false, get_or, inl, inr, length, refl, sym, take, true}
use Rattle.std.proofs.lemmas.Bool.{and_parts, cases_lt, eqb-true}
use Rattle.std.proofs.lemmas.List.{ext_get_or, get_or-append_right, get_or-drop, get_or-take, get_or_append_left, length-append, length-drop, length-replicate, length-take}
use Rattle.std.specs.List.{AllByRecursion}
use Rattle.lego_base.specs.Keys.{Key, Rises, find, is_below, key_at, same_key}
use Rattle.lego_base.specs.Pieces.{laid_over, zeros}
use Rattle.lego_base.specs.declared.records.PageImage.{PageImage}
use Rattle.lego_base.specs.declared.records.Patch.{Patch}
use Rattle.lego_msg.specs.Maps.{bytes_or_zeros, image_bytes, laid_on, overlaid, page_at, page_in, page_key, patched}
use Rattle.keyed_list.proofs.Found.{above_differs, none_above}
use Rattle.keyed_list.proofs.Listed.{find-put}
use Rattle.keyed_list.proofs.Order.{same_is as keys_same, same_self}
use Rattle.backup_images.specs.Laws.{ABatchTwice}
use Rattle.backup_images.specs.Segments.{images_in}
use Rattle.backup_images.proofs.Groups.{images_rise, overlaid_rise}
use Rattle.backup_images.proofs.Order.{same_is, three}

-- BYTES of a page with a piece that ends within it
whole : (b : List ℕ) (off : ℕ) (new : List ℕ) → length b ≡ 4096 → off + length new ≤ 4096 → length (laid_over b off new) ≡ 4096
whole b off new size within =
    let all : length (laid_over b off new) ≡ length (take off b) + length new + length (drop (off + length new) b) =
    length-append (take off b ++ new) (drop (off + length new) b) ∙ ap (λ n. n + length (drop (off + length new) b)) (length-append (take off b) new) in
    let first = length-take off b in
    let rest = length-drop (off + length new) b in
    omega (arith, all, first, rest)

-- a position before the piece, one in it, and one after it
outside : (b : List ℕ) (off : ℕ) (new : List ℕ) (x : ℕ) → length b ≡ 4096 → off + length new ≤ 4096 → (x < off) ⊎ (off + length new ≤ x) → get_or (laid_over b off new) x 0 ≡ get_or b x 0
outside b off new x size within (inl before) =
    let first = length-take off b in
    let front = length-append (take off b) new in
    get_or_append_left (take off b ++ new) (drop (off + length new) b) 0 x (omega (arith, front, first))
    ∙ get_or_append_left (take off b) new 0 x (omega (arith, first)) ∙ get_or-take off b x 0 before
outside b off new x size within (inr after) =
    let first = length-take off b in
    let front = length-append (take off b) new in
    get_or-append_right (take off b ++ new) (drop (off + length new) b) (off + length new) x 0 (omega (arith, front, first)) after
    ∙ get_or-drop (off + length new) b (x - (off + length new)) 0 ∙ ap (λ n. get_or b n 0) (omega arith)

inside : (b : List ℕ) (off : ℕ) (new : List ℕ) (x : ℕ) → length b ≡ 4096 → off + length new ≤ 4096 → off ≤ x → x < off + length new → get_or (laid_over b off new) x 0 ≡ get_or new (x - off) 0
inside b off new x size within from before =
    let first = length-take off b in
    let front = length-append (take off b) new in
    get_or_append_left (take off b ++ new) (drop (off + length new) b) 0 x (omega (arith, front, first))
    ∙ get_or-append_right (take off b) new off x 0 (omega (arith, first)) from

-- A PAGE with those patches of a batch that are of it
abbrev IsOf : Patch → ℕ → ℕ → Bool
IsOf p pid vpn = eqb p.pid.0 pid && eqb p.vpn.0 vpn

abbrev laid : List Patch → ℕ → ℕ → List ℕ → List ℕ
laid [] pid vpn b = b
laid (p ∷ batch) pid vpn b = laid batch pid vpn (cond (IsOf p pid vpn) (laid_over b p.off p.bytes) b)

abbrev Within : List Patch → Type 0
Within batch = AllByRecursion (λ (p : Patch). p.off + length p.bytes ≤ 4096) batch

one_whole : (p : Patch) (hit : Bool) (b : List ℕ) → length b ≡ 4096 → p.off + length p.bytes ≤ 4096 → length (cond hit (laid_over b p.off p.bytes) b) ≡ 4096
one_whole p true b size within = whole b p.off p.bytes size within
one_whole p false b size within = size

laid_whole : (batch : List Patch) (pid vpn : ℕ) (b : List ℕ) → Within batch → length b ≡ 4096 → length (laid batch pid vpn b) ≡ 4096
laid_whole [] pid vpn b within size = size
laid_whole (p ∷ batch) pid vpn b within size =
    laid_whole batch pid vpn (cond (IsOf p pid vpn) (laid_over b p.off p.bytes) b) within.1 (one_whole p (IsOf p pid vpn) b size within.0)

-- at a position a batch keeps each byte, or makes the same of all
abbrev Keeps : List Patch → ℕ → ℕ → ℕ → Type 0
Keeps batch pid vpn x = (b : List ℕ) → length b ≡ 4096 → get_or (laid batch pid vpn b) x 0 ≡ get_or b x 0

abbrev Sets : List Patch → ℕ → ℕ → ℕ → Type 0
Sets batch pid vpn x = (b c : List ℕ) → length b ≡ 4096 → length c ≡ 4096 → get_or (laid batch pid vpn b) x 0 ≡ get_or (laid batch pid vpn c) x 0

keeps_or_sets : (batch : List Patch) (pid vpn x : ℕ) → Within batch → Keeps batch pid vpn x ⊎ Sets batch pid vpn x
keeps_or_sets [] pid vpn x within = inl (λ b size. refl)
keeps_or_sets (p ∷ batch) pid vpn x within = by (IsOf p pid vpn) refl (keeps_or_sets batch pid vpn x within.1) (cases_lt x p.off) (cases_lt x (p.off + length p.bytes))
  where
    page : List ℕ → List ℕ
    page b = cond (IsOf p pid vpn) (laid_over b p.off p.bytes) b

    size : (b : List ℕ) → length b ≡ 4096 → length (page b) ≡ 4096
    size b s = one_whole p (IsOf p pid vpn) b s within.0

    -- the page with this patch, where it is of the page and where it isn't
    laid_it : IsOf p pid vpn ≡ true → (b : List ℕ) → page b ≡ laid_over b p.off p.bytes
    laid_it e b = ap (λ h. cond h (laid_over b p.off p.bytes) b) e

    passes : IsOf p pid vpn ≡ false → (b : List ℕ) → page b ≡ b
    passes e b = ap (λ h. cond h (laid_over b p.off p.bytes) b) e

    by : (hit : Bool) → IsOf p pid vpn ≡ hit → Keeps batch pid vpn x ⊎ Sets batch pid vpn x → (x < p.off) ⊎ (p.off ≤ x) → (x < p.off + length p.bytes) ⊎ (p.off + length p.bytes ≤ x) →
        Keeps (p ∷ batch) pid vpn x ⊎ Sets (p ∷ batch) pid vpn x
    by hit e (inr sets) from to = inr (λ b c s t. sets (page b) (page c) (size b s) (size c t))
    by false e (inl keeps) from to = inl (λ b s. keeps (page b) (size b s) ∙ ap (λ l. get_or l x 0) (passes e b))
    by true e (inl keeps) (inl before) to = inl (λ b s. keeps (page b) (size b s) ∙ ap (λ l. get_or l x 0) (laid_it e b) ∙ outside b p.off p.bytes x s within.0 (inl before))
    by true e (inl keeps) (inr from) (inr after) = inl (λ b s. keeps (page b) (size b s) ∙ ap (λ l. get_or l x 0) (laid_it e b) ∙ outside b p.off p.bytes x s within.0 (inr after))
    by true e (inl keeps) (inr from) (inl to) =
        inr (λ b c s t. new b s from to ∙ sym (new c t from to))
      where
        new : (b : List ℕ) → length b ≡ 4096 → p.off ≤ x → x < p.off + length p.bytes → get_or (laid batch pid vpn (page b)) x 0 ≡ get_or p.bytes (x - p.off) 0
        new b s from to = keeps (page b) (size b s) ∙ ap (λ l. get_or l x 0) (laid_it e b) ∙ inside b p.off p.bytes x s within.0 from to

laid_twice : (batch : List Patch) (pid vpn : ℕ) (b : List ℕ) → Within batch → length b ≡ 4096 → laid batch pid vpn (laid batch pid vpn b) ≡ laid batch pid vpn b
laid_twice batch pid vpn b within size =
    ext_get_or 0 (laid batch pid vpn (laid batch pid vpn b)) (laid batch pid vpn b) (laid_whole batch pid vpn (laid batch pid vpn b) within once ∙ sym once) (λ x l. by x (keeps_or_sets batch pid vpn x within))
  where
    once : length (laid batch pid vpn b) ≡ 4096
    once = laid_whole batch pid vpn b within size

    by : (x : ℕ) → Keeps batch pid vpn x ⊎ Sets batch pid vpn x → get_or (laid batch pid vpn (laid batch pid vpn b)) x 0 ≡ get_or (laid batch pid vpn b) x 0
    by x (inl keeps) = keeps (laid batch pid vpn b) once
    by x (inr sets) = sets (laid batch pid vpn b) b once size

-- A page that may be absent, with the patches of a batch laid over it
abbrev over : List Patch → ℕ → ℕ → Option (List ℕ) → Option (List ℕ)
over [] pid vpn page = page
over (p ∷ batch) pid vpn page = over batch pid vpn (laid_on p pid vpn page)

over_present : (batch : List Patch) (pid vpn : ℕ) (b : List ℕ) → over batch pid vpn (Some b) ≡ Some (laid batch pid vpn b)
over_present [] pid vpn b = refl
over_present (p ∷ batch) pid vpn b = by (IsOf p pid vpn) (over_present batch pid vpn)
  where
    by : (hit : Bool) → ((c : List ℕ) → over batch pid vpn (Some c) ≡ Some (laid batch pid vpn c)) →
        over batch pid vpn (cond hit (Some (laid_over b p.off p.bytes)) (Some b)) ≡ Some (laid batch pid vpn (cond hit (laid_over b p.off p.bytes) b))
    by true rest = rest (laid_over b p.off p.bytes)
    by false rest = rest b

abbrev Stays : List Patch → ℕ → ℕ → Type 0
Stays batch pid vpn = (over batch pid vpn None ≡ None) ⊎ (over batch pid vpn None ≡ Some (laid batch pid vpn (zeros 4096)))

over_absent : (batch : List Patch) (pid vpn : ℕ) → Stays batch pid vpn
over_absent [] pid vpn = inl refl
over_absent (p ∷ batch) pid vpn = by (IsOf p pid vpn) (over_absent batch pid vpn)
  where
    by : (hit : Bool) → Stays batch pid vpn →
        (over batch pid vpn (cond hit (Some (laid_over (zeros 4096) p.off p.bytes)) None) ≡ None)
        ⊎ (over batch pid vpn (cond hit (Some (laid_over (zeros 4096) p.off p.bytes)) None) ≡ Some (laid batch pid vpn (cond hit (laid_over (zeros 4096) p.off p.bytes) (zeros 4096))))
    by true rest = inr (over_present batch pid vpn (laid_over (zeros 4096) p.off p.bytes))
    by false rest = rest

over_twice : (batch : List Patch) (pid vpn : ℕ) (page : Option (List ℕ)) → Within batch → ((b : List ℕ) → page ≡ Some b → length b ≡ 4096) →
    over batch pid vpn (over batch pid vpn page) ≡ over batch pid vpn page
over_twice batch pid vpn (Some b) within size =
    ap (over batch pid vpn) (over_present batch pid vpn b) ∙ over_present batch pid vpn (laid batch pid vpn b)
    ∙ ap (λ (l : List ℕ). Some l) (laid_twice batch pid vpn b within (size b refl)) ∙ sym (over_present batch pid vpn b)
over_twice batch pid vpn None within size = by (over_absent batch pid vpn)
  where
    by : Stays batch pid vpn → over batch pid vpn (over batch pid vpn None) ≡ over batch pid vpn None
    by (inl e) = ap (over batch pid vpn) e
    by (inr e) =
        ap (over batch pid vpn) e ∙ over_present batch pid vpn (laid batch pid vpn (zeros 4096))
        ∙ ap (λ (l : List ℕ). Some l) (laid_twice batch pid vpn (zeros 4096) within (length-replicate {A = ℕ} 4096 0)) ∙ sym e

-- THE LISTS: what is found under a page's key
found_either : (b : Bool) (x : PageImage) (o : Option PageImage) → image_bytes (cond b (Some x) o) ≡ cond b (Some x.bytes) (image_bytes o)
found_either true x o = refl
found_either false x o = refl

this_page : (p : Patch) (pages : List PageImage) (pid vpn : ℕ) (b : Bool) → IsOf p pid vpn ≡ b →
    cond b (Some (laid_over (page_at pages p.pid.0 p.vpn.0) p.off p.bytes)) (page_in pages pid vpn) ≡ cond b (Some (laid_over (bytes_or_zeros (page_in pages pid vpn)) p.off p.bytes)) (page_in pages pid vpn)
this_page p pages pid vpn true e =
    let parts = and_parts (eqb p.pid.0 pid) (eqb p.vpn.0 vpn) e in
    let is : p.pid.0 ≡ pid = eqb-true p.pid.0 pid parts.0 in
    let at : p.vpn.0 ≡ vpn = eqb-true p.vpn.0 vpn parts.1 in
    λ i. Some (laid_over (page_at pages (is i) (at i)) p.off p.bytes)
this_page p pages pid vpn false e = refl

page_patched : (p : Patch) (pages : List PageImage) (pid vpn : ℕ) → page_in (patched p pages) pid vpn ≡ laid_on p pid vpn (page_in pages pid vpn)
page_patched p pages pid vpn =
    let new : PageImage = record { pid = p.pid; vpn = p.vpn; bytes = laid_over (page_at pages p.pid.0 p.vpn.0) p.off p.bytes } in
    ap image_bytes (find-put page_key new pages (key_at pid vpn)) ∙ found_either (IsOf p pid vpn) new (find page_key (key_at pid vpn) pages) ∙ this_page p pages pid vpn (IsOf p pid vpn) refl

page_overlaid : (batch : List Patch) (pages : List PageImage) (pid vpn : ℕ) → page_in (overlaid batch pages) pid vpn ≡ over batch pid vpn (page_in pages pid vpn)
page_overlaid [] pages pid vpn = refl
page_overlaid (p ∷ batch) pages pid vpn = page_overlaid batch (patched p pages) pid vpn ∙ ap (over batch pid vpn) (page_patched p pages pid vpn)

found_whole : (pages : List PageImage) (pid vpn : ℕ) → AllByRecursion (λ (p : PageImage). length p.bytes ≡ 4096) pages → (b : List ℕ) → page_in pages pid vpn ≡ Some b → length b ≡ 4096
found_whole [] pid vpn sizes b e = cc e
found_whole (p ∷ pages) pid vpn sizes b e = by (same_key (page_key p) (key_at pid vpn)) e (found_whole pages pid vpn sizes.1 b)
  where
    by : (hit : Bool) → image_bytes (cond hit (Some p) (find page_key (key_at pid vpn) pages)) ≡ Some b → (page_in pages pid vpn ≡ Some b → length b ≡ 4096) → length b ≡ 4096
    by true f rest = ap (λ o. length (bytes_or_zeros o)) (sym f) ∙ sizes.0
    by false f rest = rest f

-- two lists that rise are the same where the same is found in them
first_found : (x : PageImage) (xs : List PageImage) → page_in (x ∷ xs) x.pid.0 x.vpn.0 ≡ Some x.bytes
first_found x xs = ap (λ b. image_bytes (cond b (Some x) (find page_key (page_key x) xs))) (same_self (page_key x))

not_later : (k : Key) (x : PageImage) (xs : List PageImage) → Rises page_key (x ∷ xs) → k ≡ page_key x → page_in xs k.pid k.number ≡ None
not_later k x [] r e = refl
not_later k x (y ∷ ys) r e =
    let below : is_below k (page_key y) ≡ true = ap (λ q. is_below q (page_key y)) e ∙ r.0 in
    ap image_bytes (ap (λ b. cond b (Some y) (find page_key k ys)) (above_differs k (page_key y) below) ∙ none_above page_key k y ys r.1 below)

not_below : (k : Key) (x : PageImage) (xs : List PageImage) → Rises page_key (x ∷ xs) → is_below k (page_key x) ≡ true → page_in (x ∷ xs) k.pid k.number ≡ None
not_below k x xs r below = ap image_bytes (ap (λ b. cond b (Some x) (find page_key k xs)) (above_differs k (page_key x) below) ∙ none_above page_key k x xs r below)

pub same_pages : (xs ys : List PageImage) → Rises page_key xs → Rises page_key ys → ((pid vpn : ℕ) → page_in xs pid vpn ≡ page_in ys pid vpn) → xs ≡ ys
same_pages [] [] r s same = refl
same_pages [] (y ∷ ys) r s same = let e : ◌≡◌ {A = Option (List ℕ)} None (Some y.bytes) = same y.pid.0 y.vpn.0 ∙ first_found y ys in cc e
same_pages (x ∷ xs) [] r s same = let e : ◌≡◌ {A = Option (List ℕ)} (Some x.bytes) None = sym (first_found x xs) ∙ same x.pid.0 x.vpn.0 in cc e
same_pages (x ∷ xs) (y ∷ ys) r s same = by (three (page_key x) (page_key y)) (same_pages xs ys r.1 s.1)
  where
    by : (is_below (page_key x) (page_key y) ≡ true) ⊎ ((same_key (page_key x) (page_key y) ≡ true) ⊎ (is_below (page_key y) (page_key x) ≡ true)) →
        (((pid vpn : ℕ) → page_in xs pid vpn ≡ page_in ys pid vpn) → xs ≡ ys) → x ∷ xs ≡ y ∷ ys
    by (inl below) rest = let e : ◌≡◌ {A = Option (List ℕ)} (Some x.bytes) None = sym (first_found x xs) ∙ same x.pid.0 x.vpn.0 ∙ not_below (page_key x) y ys s below in cc e
    by (inr (inr above)) rest = let e : ◌≡◌ {A = Option (List ℕ)} None (Some y.bytes) = sym (not_below (page_key y) x xs r above) ∙ same y.pid.0 y.vpn.0 ∙ first_found y ys in cc e
    by (inr (inl key)) rest = (λ i. record { pid = record { 0 = is.0 i }; vpn = record { 0 = is.1 i }; bytes = bytes i } ∷ rest later i)
      where
        is : (x.pid.0 ≡ y.pid.0) × (x.vpn.0 ≡ y.vpn.0)
        is = same_is (page_key x) (page_key y) key

        equal : page_key x ≡ page_key y
        equal = λ i. key_at (is.0 i) (is.1 i)

        bytes : x.bytes ≡ y.bytes
        bytes = ap bytes_or_zeros (sym (first_found x xs) ∙ same x.pid.0 x.vpn.0 ∙ (λ i. page_in (y ∷ ys) (is.0 i) (is.1 i)) ∙ first_found y ys)

        later : (pid vpn : ℕ) → page_in xs pid vpn ≡ page_in ys pid vpn
        later pid vpn = at (same_key (page_key x) (key_at pid vpn)) refl (same pid vpn)
          where
            at : (hit : Bool) → same_key (page_key x) (key_at pid vpn) ≡ hit → page_in (x ∷ xs) pid vpn ≡ page_in (y ∷ ys) pid vpn → page_in xs pid vpn ≡ page_in ys pid vpn
            at true here e = let k : key_at pid vpn ≡ page_key x = sym (keys_same (page_key x) (key_at pid vpn) here) in not_later (key_at pid vpn) x xs r k ∙ sym (not_later (key_at pid vpn) y ys s (k ∙ equal))
            at false here e =
                sym (ap (λ b. image_bytes (cond b (Some x) (find page_key (key_at pid vpn) xs))) here) ∙ e
                ∙ ap (λ b. image_bytes (cond b (Some y) (find page_key (key_at pid vpn) ys))) (ap (λ k. same_key k (key_at pid vpn)) (sym equal) ∙ here)

pub twice : ABatchTwice
twice segments batch within sizes =
    same_pages (overlaid batch (overlaid batch images)) (overlaid batch images) (overlaid_rise batch (overlaid batch images) once) once
    (λ pid vpn. page_overlaid batch (overlaid batch images) pid vpn ∙ ap (over batch pid vpn) (page_overlaid batch images pid vpn)
    ∙ over_twice batch pid vpn (page_in images pid vpn) within (found_whole images pid vpn sizes) ∙ sym (page_overlaid batch images pid vpn))
  where
    images : List PageImage
    images = images_in segments

    once : Rises page_key (overlaid batch images)
    once = overlaid_rise batch images (images_rise segments [] tt)
