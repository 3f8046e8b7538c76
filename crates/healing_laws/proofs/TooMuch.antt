-- More pages than frames.
use Rattle.std.proofs.Common.{◌≡◌, ◌⊎◌, ◌/◌, ◌<◌, ◌≤◌, [], ◌∷◌, ◌∙◌, ℕ, Bool, List, None, Option, Some, ap, arith, cond, false, inl, inr, is_some, length, refl, sym, true}
use Rattle.std.specs.List.{AllByRecursion}
use Rattle.lego_base.specs.Keys.{Key, Rises, find, is_below, same_key}
use Rattle.lego_base.specs.declared.records.HomeEntry.{HomeEntry}
use Rattle.lego_base.specs.declared.records.PageImage.{PageImage}
use Rattle.keyed_list.proofs.Found.{below_differs}
use Rattle.keyed_list.proofs.Order.{below-trans, same_is}
use Rattle.lego_msg.specs.Maps.{image_bytes, page_in, page_key}
use Rattle.lego_msg.specs.Plain.{Plain, touched}
use Rattle.lego_rest.specs.Fits.{PagesFit}
use Rattle.lego_rest.specs.Parts.{Page, owns, share}
use Rattle.rest_laws.proofs.Exceeding.{listed_found}
use Rattle.rest_laws.proofs.Opened.{every}
use Rattle.rest_laws.specs.Causes.{IsTooMuch}
use Rattle.healing_laws.proofs.Rising.{below_all}

-- of the plain map f before the open operation, and g once it is complete: more pages that memory k owns are there, before or
-- after, than it has frames
pub record IsTooMuchOf (owners : List HomeEntry) (f g : Plain) (k frames : ℕ) : Type 0 where
  pub pages : List PageImage
  pub rise : Rises page_key pages
  pub more : frames < length pages
  pub there : AllByRecursion (λ (p : PageImage). (owns owners k p.pid.0 (p.vpn.0 / 512) ≡ true) × ((touched f p.pid.0 p.vpn.0 ≡ true) ⊎ (touched g p.pid.0 p.vpn.0 ≡ true))) pages

-- a list of pages that memory k should have before or after, longer than its frames
pub too_much_of : (n : ℕ) (owners : List HomeEntry) (f g : Plain) (k frames : ℕ) (pages : List PageImage) → PagesFit pages → ((p v : ℕ) → share n owners f k (Page p v) ≡ None → share n owners g k (Page p v) ≡ None → page_in pages p v ≡ None) → frames < length pages → IsTooMuchOf owners f g k frames
too_much_of n owners f g k frames pages fits none more = record { pages = pages; rise = fits.rise; more = more; there = every each pages (listed_found pages fits.rise) }
  where
    each : (p : PageImage) → page_in pages p.pid.0 p.vpn.0 ≡ Some p.bytes → (owns owners k p.pid.0 (p.vpn.0 / 512) ≡ true) × ((touched f p.pid.0 p.vpn.0 ≡ true) ⊎ (touched g p.pid.0 p.vpn.0 ≡ true))
    each p found = by (owns owners k p.pid.0 (p.vpn.0 / 512)) (f.page p.pid.0 p.vpn.0) (g.page p.pid.0 p.vpn.0) refl refl refl (none p.pid.0 p.vpn.0)
      where
        absent : page_in pages p.pid.0 p.vpn.0 ≡ None → ⊥
        absent e = let both : Some p.bytes ≡ None = sym found ∙ e in cc both

        by : (b : Bool) (x y : Option (List ℕ)) → owns owners k p.pid.0 (p.vpn.0 / 512) ≡ b → f.page p.pid.0 p.vpn.0 ≡ x → g.page p.pid.0 p.vpn.0 ≡ y → (cond (owns owners k p.pid.0 (p.vpn.0 / 512)) (f.page p.pid.0 p.vpn.0) None ≡ None → cond (owns owners k p.pid.0 (p.vpn.0 / 512)) (g.page p.pid.0 p.vpn.0) None ≡ None → page_in pages p.pid.0 p.vpn.0 ≡ None) → (owns owners k p.pid.0 (p.vpn.0 / 512) ≡ true) × ((touched f p.pid.0 p.vpn.0 ≡ true) ⊎ (touched g p.pid.0 p.vpn.0 ≡ true))
        by false x y mine old new_ none = absurd (absent (none (ap (λ (b : Bool). cond b (f.page p.pid.0 p.vpn.0) None) mine) (ap (λ (b : Bool). cond b (g.page p.pid.0 p.vpn.0) None) mine)))
        by true (Some x) y mine old new_ none = (mine, inl (ap is_some old))
        by true None (Some y) mine old new_ none = (mine, inr (ap is_some new_))
        by true None None mine old new_ none = absurd (absent (none (ap (λ (b : Bool). cond b (f.page p.pid.0 p.vpn.0) None) mine ∙ old) (ap (λ (b : Bool). cond b (g.page p.pid.0 p.vpn.0) None) mine ∙ new_)))

pub after_too_much : (owners : List HomeEntry) (f g : Plain) (k frames : ℕ) → IsTooMuch owners g k frames → IsTooMuchOf owners f g k frames
after_too_much owners f g k frames too = record { pages = too.pages; rise = too.rise; more = too.more; there = every (λ p it. (it.0, inr it.1)) too.pages too.there }

pub same_too_much : (owners : List HomeEntry) (f : Plain) (k frames : ℕ) → IsTooMuchOf owners f f k frames → IsTooMuch owners f k frames
same_too_much owners f k frames too = record {
  pages = too.pages;
  rise = too.rise;
  more = too.more;
  there = every (λ p it. (
    it.0,
    elim it.1 [
      | inl e ↦ e
      | inr e ↦ e
    ],
  )) too.pages too.there;
}

-- AS MANY AS ARE FOUND: a rising list of which each entry is found in another rising list is no longer than that one
abbrev AllFound : List PageImage → List PageImage → Type 0
AllFound ps qs = AllByRecursion (λ (q : PageImage). is_some (find page_key (page_key q) ps) ≡ true) qs

no_longer : (ps qs : List PageImage) → Rises page_key ps → Rises page_key qs → AllFound ps qs → length qs ≤ length ps
no_longer [] [] rise rise' found = omega arith
no_longer [] (q ∷ qs) rise rise' found = let e = found.0 in cc e
no_longer (p ∷ ps) [] rise rise' found = omega arith
no_longer (p ∷ ps) (q ∷ qs) rise rise' found = by (same_key (page_key p) (page_key q)) refl found.0 (no_longer ps qs rise.1 rise'.1) (no_longer ps (q ∷ qs) rise.1 rise')
  where
    above_q : AllByRecursion (λ (r : PageImage). is_below (page_key q) (page_key r) ≡ true) qs
    above_q = below_all page_key q qs rise'.0 rise'.1

    above_p : AllByRecursion (λ (r : PageImage). is_below (page_key p) (page_key r) ≡ true) ps
    above_p = below_all page_key p ps rise.0 rise.1

    -- an entry with another key than the first is found among the others
    skip : (r : PageImage) → same_key (page_key p) (page_key r) ≡ false → is_some (find page_key (page_key r) (p ∷ ps)) ≡ true → is_some (find page_key (page_key r) ps) ≡ true
    skip r differs there = sym (ap (λ (b : Bool). is_some (cond b (Some p) (find page_key (page_key r) ps))) differs) ∙ there

    skip_all : (rs : List PageImage) → AllByRecursion (λ (r : PageImage). same_key (page_key p) (page_key r) ≡ false) rs → AllFound (p ∷ ps) rs → AllFound ps rs
    skip_all [] differ all = tt
    skip_all (r ∷ rs) differ all = (skip r differ.0 all.0, skip_all rs differ.1 all.1)

    -- what is found among the others is above the first
    found_above : (xs : List PageImage) (k : Key) → AllByRecursion (λ (r : PageImage). is_below (page_key p) (page_key r) ≡ true) xs → is_some (find page_key k xs) ≡ true → is_below (page_key p) k ≡ true
    found_above [] k all there = cc there
    found_above (x ∷ xs) k all there = under (same_key (page_key x) k) refl there (found_above xs k all.1)
      where
        under : (b : Bool) → same_key (page_key x) k ≡ b → is_some (cond b (Some x) (find page_key k xs)) ≡ true → (is_some (find page_key k xs) ≡ true → is_below (page_key p) k ≡ true) → is_below (page_key p) k ≡ true
        under true e there rest = ap (is_below (page_key p)) (sym (same_is (page_key x) k e)) ∙ all.0
        under false e there rest = rest there

    by : (b : Bool) → same_key (page_key p) (page_key q) ≡ b → is_some (find page_key (page_key q) (p ∷ ps)) ≡ true → (AllFound ps qs → length qs ≤ length ps) → (AllFound ps (q ∷ qs) → length (q ∷ qs) ≤ length ps) → length (q ∷ qs) ≤ length (p ∷ ps)
    by true same there without with_ =
        let less = without (skip_all qs (every (λ r above. below_differs (page_key p) (page_key r) (ap (λ (k : Key). is_below k (page_key r)) (same_is (page_key p) (page_key q) same) ∙ above)) qs above_q) found.1) in
        omega (arith, less)
    by false differs there without with_ =
        let here = skip q differs there in
        let over = found_above ps (page_key q) above_p here in
        let less = with_ (here, skip_all qs (every (λ r above. below_differs (page_key p) (page_key r) (below-trans (page_key p) (page_key q) (page_key r) over above)) qs above_q) found.1) in
        omega (arith, less)

-- a memory that holds its share of the plain map has room for it
pub share_fits : (n : ℕ) (owners : List HomeEntry) (f : Plain) (k frames : ℕ) (pages : List PageImage) → PagesFit pages → ((p v : ℕ) → page_in pages p v ≡ share n owners f k (Page p v)) → length pages ≤ frames → IsTooMuch owners f k frames → ⊥
share_fits n owners f k frames pages fits is room too =
    let less = no_longer pages too.pages fits.rise too.rise (every each too.pages too.there) in
    let more = too.more in
    omega (arith, less, more, room)
  where
    each : (q : PageImage) → (owns owners k q.pid.0 (q.vpn.0 / 512) ≡ true) × (touched f q.pid.0 q.vpn.0 ≡ true) → is_some (find page_key (page_key q) pages) ≡ true
    each q it = some_image (find page_key (page_key q) pages) (ap is_some (is q.pid.0 q.vpn.0) ∙ ap (λ (b : Bool). is_some (cond b (f.page q.pid.0 q.vpn.0) None)) it.0 ∙ it.1)
      where
        some_image : (o : Option PageImage) → is_some (image_bytes o) ≡ true → is_some o ≡ true
        some_image None e = e
        some_image (Some x) e = refl
