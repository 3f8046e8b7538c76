-- A patch laid over a page that is present, and a page that is added.
use Rattle.std.proofs.Common.{◌≡◌, ◌≢◌, ◌+◌, ◌-◌, ◌<◌, ◌≤◌, ◌++◌, [], ◌∷◌, ◌∙◌, ℕ, Bool, List, None, Option, Some, ap, arith, cond, drop, false, get_or, inl, inr, length, refl, replicate, set, subst, suc, sym, take, true}
use Rattle.std.specs.List.{AllByRecursion}
use Rattle.std.specs.Option.{option_map}
use Rattle.std.proofs.lemmas.Bool.{cases_lt}
use Rattle.std.proofs.lemmas.List.{append-nil, drop-replicate, drop_all, get_or-set_other, get_or-set_same, get_or_past, length-append, length-drop, length-replicate, length-take, take-replicate}
use Rattle.lego_base.specs.Keys.{Key, find, is_below, key_at, put, same_key}
use Rattle.lego_base.specs.Pieces.{laid_over, zeros}
use Rattle.lego_base.specs.declared.ids.Pid.{Pid}
use Rattle.lego_base.specs.declared.ids.Vpn.{Vpn}
use Rattle.lego_base.specs.declared.records.PageImage.{PageImage}
use Rattle.lego_base.specs.declared.records.Patch.{Patch}
use Rattle.keyed_list.proofs.Order.{same_is}
use Rattle.lego_msg.specs.Form.{IsWithinPage}
use Rattle.lego_msg.specs.Maps.{bytes_or_zeros, image_bytes, page_at, page_in, page_key, patched}
use Rattle.page_store.proofs.Changes.{held-put, held-written, held_stay, images-put, images-written, images_stay}
use Rattle.page_store.proofs.Places.{find-images, frames_differ, held_some, length-images, length-put_new}
use Rattle.page_store.specs.Spots.{AreHeld, IsHeld, IsPageOf, IsTied, bytes_in, image, images, laid, page_image, spot_key}
use Rattle.page_store.specs.Store.{patch_of}
use Rattle.page_store.specs.declared.frames.Page.{Page}
use Rattle.page_store.specs.declared.spot.Spot.{Spot}

-- what is found is held, and has the key
pub found_held : (frames : List (Option Page)) (spots : List Spot) (k : Key) (s : Spot) → AreHeld frames spots → find spot_key k spots ≡ Some s → IsHeld frames s × (same_key (spot_key s) k ≡ true)
found_held frames [] k s held found = cc found
found_held frames (t ∷ spots) k s held found = by (same_key (spot_key t) k) refl found (found_held frames spots k s held.1)
  where
    by : (b : Bool) → same_key (spot_key t) k ≡ b → cond b (Some t) (find spot_key k spots) ≡ Some s → (find spot_key k spots ≡ Some s → IsHeld frames s × (same_key (spot_key s) k ≡ true)) → IsHeld frames s × (same_key (spot_key s) k ≡ true)
    by true same here rest = let is : t ≡ s = cc here in (subst (IsHeld frames) is held.0, ap (λ (u : Spot). same_key (spot_key u) k) (sym is) ∙ same)
    by false other there rest = rest there

-- the bytes of a page that is present
pub page_there : (frames : List (Option Page)) (spots : List Spot) (pid vpn : ℕ) (s : Spot) → find spot_key (key_at pid vpn) spots ≡ Some s → page_at (images frames spots) pid vpn ≡ bytes_in (get_or frames s.frame None)
page_there frames spots pid vpn s found = ap (λ (o : Option PageImage). bytes_or_zeros (image_bytes o)) (find-images frames spots (key_at pid vpn) ∙ ap (option_map (image frames)) found)

pub page_absent : (frames : List (Option Page)) (spots : List Spot) (pid vpn : ℕ) → find spot_key (key_at pid vpn) spots ≡ None → page_at (images frames spots) pid vpn ≡ zeros 4096
page_absent frames spots pid vpn absent = ap (λ (o : Option PageImage). bytes_or_zeros (image_bytes o)) (find-images frames spots (key_at pid vpn) ∙ ap (option_map (image frames)) absent)

-- a frame with a page is one of the frames
pub within : (frames : List (Option Page)) (n : ℕ) → (get_or frames n None ≡ None → ⊥) → n < length frames
within frames n there = elim (cases_lt n (length frames)) [ inl less ↦ less | inr more ↦ absurd (there (get_or_past frames n None more)) ]

length-laid_over : (old : List ℕ) (off : ℕ) (bytes : List ℕ) → length old ≡ 4096 → off + length bytes ≤ 4096 → length (laid_over old off bytes) ≡ 4096
length-laid_over old off bytes long fits = grind (arith, length-append, length-take, length-drop)

laid_page : (s : Spot) (off : ℕ) (bytes : List ℕ) (o : Option Page) → off + length bytes ≤ 4096 → IsPageOf s o → IsPageOf s (laid off bytes o)
laid_page s off bytes None fits held = held
laid_page s off bytes (Some page) fits held = (held.0, held.1, length-laid_over page.bytes off bytes held.2 fits)

laid_bytes : (off : ℕ) (bytes : List ℕ) (s : Spot) (o : Option Page) → IsPageOf s o → bytes_in (laid off bytes o) ≡ laid_over (bytes_in o) off bytes
laid_bytes off bytes s None held = absurd held
laid_bytes off bytes s (Some page) held = refl

-- OVER A PAGE THAT IS PRESENT
module _ (p : Patch) (frames : List (Option Page)) (spots : List Spot) (s : Spot) (tied : IsTied spots frames) (found : find spot_key (key_at p.pid.0 p.vpn.0) spots ≡ Some s) (fits : IsWithinPage p) where
  now : List (Option Page)
  now = set frames s.frame (laid p.off p.bytes (get_or frames s.frame None))

  key_is : spot_key s ≡ key_at p.pid.0 p.vpn.0
  key_is = same_is (spot_key s) (key_at p.pid.0 p.vpn.0) (found_held frames spots (key_at p.pid.0 p.vpn.0) s tied.held found).1

  found_itself : find spot_key (spot_key s) spots ≡ Some s
  found_itself = ap (λ (k : Key). find spot_key k spots) key_is ∙ found

  held_s : IsHeld frames s
  held_s = (found_held frames spots (key_at p.pid.0 p.vpn.0) s tied.held found).0

  other_frames : (t : Spot) → IsHeld frames t → same_key (spot_key t) (spot_key s) ≡ false → get_or (set frames s.frame (laid p.off p.bytes (get_or frames s.frame None))) t.frame None ≡ get_or frames t.frame None
  other_frames t held differ = get_or-set_other frames s.frame t.frame (laid p.off p.bytes (get_or frames s.frame None)) None (frames_differ frames t s held held_s differ)

  this_frame : get_or (set frames s.frame (laid p.off p.bytes (get_or frames s.frame None))) s.frame None ≡ laid p.off p.bytes (get_or frames s.frame None)
  this_frame = get_or-set_same frames s.frame (laid p.off p.bytes (get_or frames s.frame None)) None (within frames s.frame (held_some frames s held_s))

  pub held_over : AreHeld (set frames s.frame (laid p.off p.bytes (get_or frames s.frame None))) spots
  held_over = held-written frames (set frames s.frame (laid p.off p.bytes (get_or frames s.frame None))) s other_frames spots tied.rises tied.held (subst (IsPageOf s) (sym this_frame) (laid_page s p.off p.bytes (get_or frames s.frame None) fits held_s)) found_itself

  pub images_over : images (set frames s.frame (laid p.off p.bytes (get_or frames s.frame None))) spots ≡ patched p (images frames spots)
  images_over =
      images-written frames (set frames s.frame (laid p.off p.bytes (get_or frames s.frame None))) s other_frames spots tied.rises tied.held found_itself
      ∙ ap (λ (i : PageImage). put page_key i (images frames spots)) same_image
    where
      bytes_are : bytes_in (get_or (set frames s.frame (laid p.off p.bytes (get_or frames s.frame None))) s.frame None) ≡ laid_over (page_at (images frames spots) p.pid.0 p.vpn.0) p.off p.bytes
      bytes_are = ap bytes_in this_frame ∙ (laid_bytes p.off p.bytes s (get_or frames s.frame None) held_s ∙ ap (λ (b : List ℕ). laid_over b p.off p.bytes) (sym (page_there frames spots p.pid.0 p.vpn.0 s found)))

      same_image : ◌≡◌ {A = PageImage} (image (set frames s.frame (laid p.off p.bytes (get_or frames s.frame None))) s) (record { pid = p.pid; vpn = p.vpn; bytes = laid_over (page_at (images frames spots) p.pid.0 p.vpn.0) p.off p.bytes })
      same_image = λ i. record { pid = record { 0 = ap (λ (k : Key). k.pid) key_is i }; vpn = record { 0 = ap (λ (k : Key). k.number) key_is i }; bytes = bytes_are i }

  pub length_over : length (patched p (images frames spots)) ≡ length spots
  length_over = ap length (sym images_over) ∙ length-images (set frames s.frame (laid p.off p.bytes (get_or frames s.frame None))) spots

-- A PAGE THAT IS ADDED
module _ (old new : List (Option Page)) (spots : List Spot) (s : Spot) (page : Page) (held : AreHeld old spots) (was : get_or old s.frame None ≡ None) (here : get_or new s.frame None ≡ Some page) (others : (n : ℕ) → n ≢ s.frame → get_or new n None ≡ get_or old n None) where
  free_frames : (t : Spot) → IsHeld old t → get_or new t.frame None ≡ get_or old t.frame None
  free_frames t held_ = others t.frame (λ same. held_some old t held_ (ap (λ (n : ℕ). get_or old n None) same ∙ was))

  pub images_added : images new (put spot_key s spots) ≡ put page_key (record { pid = s.pid; vpn = s.vpn; bytes = page.bytes }) (images old spots)
  images_added =
      images-put new s spots
      ∙ λ i. put page_key (record { pid = s.pid; vpn = s.vpn; bytes = bytes_in (here i) }) (images_stay old new spots held free_frames i)

  pub held_added : page.pid.0 ≡ s.pid.0 → page.vpn.0 ≡ s.vpn.0 → length page.bytes ≡ 4096 → AreHeld new (put spot_key s spots)
  held_added pid vpn long = held-put new s spots (subst (IsPageOf s) (sym here) (pid, vpn, long)) (held_stay old new spots held free_frames)

pub length_added : (p : Patch) (frames : List (Option Page)) (spots : List Spot) → find spot_key (key_at p.pid.0 p.vpn.0) spots ≡ None → length (patched p (images frames spots)) ≡ suc (length spots)
length_added p frames spots absent =
    length-put_new page_key (record { pid = p.pid; vpn = p.vpn; bytes = laid_over (page_at (images frames spots) p.pid.0 p.vpn.0) p.off p.bytes }) (images frames spots)
    (find-images frames spots (key_at p.pid.0 p.vpn.0) ∙ ap (option_map (image frames)) absent)
    ∙ ap suc (length-images frames spots)

-- a frame with a page holds some page
pub slot_of : (frames : List (Option Page)) (s : Spot) → IsHeld frames s → (page : Page) × (get_or frames s.frame None ≡ Some page) × (bytes_in (get_or frames s.frame None) ≡ page.bytes)
slot_of frames s held = by (get_or frames s.frame None) refl held
  where
    by : (o : Option Page) → get_or frames s.frame None ≡ o → IsPageOf s o → (page : Page) × (get_or frames s.frame None ≡ Some page) × (bytes_in (get_or frames s.frame None) ≡ page.bytes)
    by None e h = absurd h
    by (Some page) e h = (page, e, ap bytes_in e)

pub zeros_piece : (off n : ℕ) → off + n ≤ 4096 → replicate n 0 ≡ take n (drop off (zeros 4096))
zeros_piece off n fits = sym (ap (take n) (drop-replicate off 4096 0) ∙ take-replicate n (4096 - off) 0 (omega (arith, fits)))

pub all-put : (P : Spot → Type 0) (s : Spot) (spots : List Spot) → P s → AllByRecursion P spots → AllByRecursion P (put spot_key s spots)
all-put P s [] here all = (here, tt)
all-put P s (t ∷ spots) here all = by (is_below (spot_key s) (spot_key t)) (same_key (spot_key s) (spot_key t)) (all-put P s spots here all.1)
  where
    by : (b c : Bool) → AllByRecursion P (put spot_key s spots) → AllByRecursion P (cond b (s ∷ t ∷ spots) (cond c (s ∷ spots) (t ∷ put spot_key s spots)))
    by true c rest = (here, all)
    by false true rest = (here, all.1)
    by false false rest = (all.0, rest)

-- a whole page
length_page : (frames : List (Option Page)) (spots : List Spot) (pid vpn : ℕ) → AreHeld frames spots → length (page_at (images frames spots) pid vpn) ≡ 4096
length_page frames spots pid vpn held = by (find spot_key (key_at pid vpn) spots) refl
  where
    by : (o : Option Spot) → find spot_key (key_at pid vpn) spots ≡ o → length (page_at (images frames spots) pid vpn) ≡ 4096
    by None absent = ap length (page_absent frames spots pid vpn absent) ∙ (let zero_ : ℕ = 0 in length-replicate 4096 zero_)
    by (Some s) found = ap length (page_there frames spots pid vpn s found) ∙ long (get_or frames s.frame None) s (found_held frames spots (key_at pid vpn) s held found).0
      where
        long : (o : Option Page) (t : Spot) → IsPageOf t o → length (bytes_in o) ≡ 4096
        long None t h = absurd h
        long (Some page) t h = h.2

whole_over : (old bytes : List ℕ) → length old ≡ 4096 → length bytes ≡ 4096 → laid_over old 0 bytes ≡ bytes
whole_over old bytes long all =
    let past : length old ≤ 0 + length bytes = omega (arith, long, all) in
    ap (λ (d : List ℕ). take 0 old ++ bytes ++ d) (drop_all (0 + length bytes) old past) ∙ append-nil bytes

pub whole_is : (frames : List (Option Page)) (spots : List Spot) (pid : Pid) (vpn : Vpn) (bytes : List ℕ) → AreHeld frames spots → length bytes ≡ 4096 → patched (patch_of pid vpn 0 bytes) (images frames spots) ≡ put page_key (page_image pid vpn bytes) (images frames spots)
whole_is frames spots pid vpn bytes held all = ap (λ (b : List ℕ). put page_key (page_image pid vpn b) (images frames spots)) (whole_over (page_at (images frames spots) pid.0 vpn.0) bytes (length_page frames spots pid.0 vpn.0 held) all)

-- the bytes of a page, where it is present
pub page_in_frame : (frames : List (Option Page)) (spots : List Spot) (pid vpn : ℕ) (s : Spot) → find spot_key (key_at pid vpn) spots ≡ Some s → page_in (images frames spots) pid vpn ≡ Some (bytes_in (get_or frames s.frame None))
page_in_frame frames spots pid vpn s found = ap image_bytes (find-images frames spots (key_at pid vpn) ∙ ap (option_map (image frames)) found)

pub page_in_none : (frames : List (Option Page)) (spots : List Spot) (pid vpn : ℕ) → find spot_key (key_at pid vpn) spots ≡ None → page_in (images frames spots) pid vpn ≡ None
page_in_none frames spots pid vpn absent = ap image_bytes (find-images frames spots (key_at pid vpn) ∙ ap (option_map (image frames)) absent)

pub held_whole : (s : Spot) (o : Option Page) → IsPageOf s o → length (bytes_in o) ≡ 4096
held_whole s None held = absurd held
held_whole s (Some page) held = held.2
