-- An operation adds pages to the plain map, or takes some away, but never both. So where pages of before and after it are
-- together too many for a memory that has room for those before, those after it are too many.
use Rattle.std.proofs.Common.{◌≡◌, ◌⊎◌, ◌/◌, ◌==◌, ◌&&◌, ◌∙◌, ℕ, Bool, List, None, Option, Some, ap, cond, false, inl, inr, is_some, refl, slice_get, sym, true}
use Rattle.std.proofs.lemmas.Bool.{eqb-true}
use Rattle.lego_base.specs.Keys.{is_of, is_page_from, key_at}
use Rattle.lego_base.specs.declared.records.HomeEntry.{HomeEntry}
use Rattle.lego_base.specs.declared.records.PageImage.{PageImage}
use Rattle.lego_msg.specs.Granted.{OpFits, is_region_in}
use Rattle.lego_msg.specs.Plain.{Plain, effect, touched}
use Rattle.lego_msg.specs.State.{Mem}
use Rattle.lego_msg.specs.Track.{Track}
use Rattle.lego_msg.specs.declared.operation.Open.{Open}
use Rattle.lego_msg.specs.declared.operation.Operation.{Operation}
use Rattle.lego_msg.specs.declared.operation.Operation.TheVariants as op
use Rattle.lego_rest.specs.Parts.{owns, plain_with}
use Rattle.lego_rest.specs.Rest.{CurrentFits, Middle}
use Rattle.rest_laws.proofs.Noted.{eqb_sym}
use Rattle.rest_laws.proofs.Opened.{every}
use Rattle.rest_laws.proofs.Truth.{both_true}
use Rattle.rest_laws.proofs.kinds.Copied.{plain_pages_in}
use Rattle.rest_laws.specs.Causes.{IsTooMuch}
use Rattle.healing_laws.proofs.Causing.{Roomy}
use Rattle.healing_laws.proofs.TooMuch.{IsTooMuchOf, same_too_much}

-- each page that is there is there later
abbrev pub Grows : Plain → Plain → Type 0
Grows f g = (pid vpn : ℕ) → touched f pid vpn ≡ true → touched g pid vpn ≡ true

abbrev Either : Plain → Operation → Type 0
Either f o = Grows f (effect o f) ⊎ Grows (effect o f) f

-- a page that goes isn't there
without : (b : Bool) (page : Option (List ℕ)) → is_some (cond b None page) ≡ true → is_some page ≡ true
without true page e = cc e
without false page e = e

pub grows_or_shrinks : (owners : List HomeEntry) (f : Plain) (o : Operation) → OpFits owners f o → Either f o
grows_or_shrinks owners f (op.Finds pid region) fits = inl (λ p v e. e)
grows_or_shrinks owners f (op.Reads pid line owner) fits = inl (λ p v e. e)
grows_or_shrinks owners f (op.Writes origin patch owner) fits = inl (λ p v e. laid (patch.pid.0 == p && patch.vpn.0 == v) (f.page p v) _ e)
  where
    laid : (b : Bool) (page : Option (List ℕ)) (bytes : List ℕ) → is_some page ≡ true → is_some (cond b (Some bytes) page) ≡ true
    laid true page bytes e = refl
    laid false page bytes e = e
grows_or_shrinks owners f (op.SetsHome pid region owner) fits = inl (λ p v e. e)
grows_or_shrinks owners f (op.SetsAreas pid region areas owner) fits = inl (λ p v e. e)
grows_or_shrinks owners f (op.AsksAreas pid region owner) fits = inl (λ p v e. e)
grows_or_shrinks owners f (op.Drains m) fits = inl (λ p v e. e)
grows_or_shrinks owners f (op.Unmaps pid region first pages areas owner) fits = inr (λ p v e. without (is_page_from pid.0 first.0 pages (key_at p v)) (f.page p v) e)
grows_or_shrinks owners f (op.Copies parent child regions owner) fits = inl (λ p v e. ap is_some (plain_pages_in parent.0 child.0 (eqb_sym child.0 parent.0 ∙ fits.0.0) regions f p v) ∙ by p v (child.0 == p && is_region_in (v / 512) regions) refl e)
  where
    -- a page of the child's regions wasn't there
    by : (p v : ℕ) (b : Bool) → (child.0 == p && is_region_in (v / 512) regions) ≡ b → touched f p v ≡ true → is_some (cond b (f.page parent.0 v) (f.page p v)) ≡ true
    by p v true it e =
        let both = both_true (child.0 == p) (is_region_in (v / 512) regions) it in
        let none : f.page p v ≡ None = ap (λ (q : ℕ). f.page q v) (sym (eqb-true child.0 p both.0)) ∙ fits.2 v both.1 in
        let never : true ≡ false = sym e ∙ ap is_some none in
        cc never
    by p v false it e = e
grows_or_shrinks owners f (op.Drops pid) fits = inr (λ p v e. without (is_of pid.0 (key_at p v)) (f.page p v) e)
grows_or_shrinks owners f (op.ReadsFile file block off len) fits = inl (λ p v e. e)
grows_or_shrinks owners f (op.WritesFile file block off bytes) fits = inl (λ p v e. e)
grows_or_shrinks owners f (op.CutsFile file size) fits = inl (λ p v e. e)
grows_or_shrinks owners f (op.AsksSize file) fits = inl (λ p v e. e)
grows_or_shrinks owners f (op.GetsName name) fits = inl (λ p v e. e)
grows_or_shrinks owners f (op.MakesName name) fits = inl (λ p v e. e)
grows_or_shrinks owners f (op.CutsName name) fits = inl (λ p v e. e)
grows_or_shrinks owners f op.ListsNames fits = inl (λ p v e. e)
grows_or_shrinks owners f (op.FreesFile file) fits = inl (λ p v e. e)
grows_or_shrinks owners f (op.Heals to what) fits = inl (λ p v e. e)

-- pages of both that are all of one
all_of : (owners : List HomeEntry) (f g h : Plain) (k frames : ℕ) → Grows f h → Grows g h → IsTooMuchOf owners f g k frames → IsTooMuch owners h k frames
all_of owners f g h k frames old new_ too = record { pages = too.pages; rise = too.rise; more = too.more; there = every each too.pages too.there }
  where
    each : (p : PageImage) → (owns owners k p.pid.0 (p.vpn.0 / 512) ≡ true) × ((touched f p.pid.0 p.vpn.0 ≡ true) ⊎ (touched g p.pid.0 p.vpn.0 ≡ true)) → (owns owners k p.pid.0 (p.vpn.0 / 512) ≡ true) × (touched h p.pid.0 p.vpn.0 ≡ true)
    each p it = (
      it.0,
      elim it.1 [
        | inl e ↦ old p.pid.0 p.vpn.0 e
        | inr e ↦ new_ p.pid.0 p.vpn.0 e
      ],
    )

pub new_too_much : (lost : Option ℕ) (t : Track) → Middle lost t → Roomy t → (k : ℕ) (s : Mem) → slice_get t.mems k ≡ Some s → IsTooMuchOf t.owners t.plain (plain_with t.current t.plain) k s.frames → IsTooMuch t.owners (plain_with t.current t.plain) k s.frames
new_too_much lost t middle roomy k s at = by t.current middle.current
  where
    by : (c : Option Open) → CurrentFits t c → IsTooMuchOf t.owners t.plain (plain_with c t.plain) k s.frames → IsTooMuch t.owners (plain_with c t.plain) k s.frames
    by None fits too = same_too_much t.owners t.plain k s.frames too
    by (Some o) fits too = elim (grows_or_shrinks t.owners t.plain o.operation fits.0.fits) [
      | inl grows ↦ all_of t.owners t.plain (effect o.operation t.plain) (effect o.operation t.plain) k s.frames grows (λ p v e. e) too
      | inr shrinks ↦ absurd (roomy k s at (all_of t.owners t.plain (effect o.operation t.plain) t.plain k s.frames (λ p v e. e) shrinks too))
    ]
