-- Whatever happens to a line, the slots of the sets stay those in which lines are kept.
use Rattle.std.proofs.Common.{◌≡◌, ◌+◌, ◌*◌, ◌<◌, ◌≤◌, [], ◌∷◌, ℕ, List, None, Option, Some, arith, get_or, length, refl, set, subst, suc, sym, zero}
use Rattle.std.proofs.lemmas.List.{length-set}
use Rattle.std.proofs.lemmas.List.Quantifiers.{position-Some}
use Rattle.std.specs.Option.{IfSome}
use Rattle.std.specs.List.{range_with_len, remove}
use Rattle.lego_base.specs.declared.ids.LineNo.{LineNo}
use Rattle.lego_base.specs.declared.ids.Pid.{Pid}
use Rattle.cache_tags.proofs.Made.{length-empty_sets}
use Rattle.cache_tags.specs.Lists.{brought, coming, coming_to, empty_set, free_entry, is_line, line_at, oldest, released, younger}
use Rattle.cache_tags.specs.Sets.{SetLines, Tagged}
use Rattle.cache_tags.specs.Tags.{after_look_up, after_removal, after_touch, answer_to_touch, empty_sets, looked_up, place_of, removed, set_of, set_place, slot_at, slot_of_line, touch_of, touched}
use Rattle.cache_tags.specs.declared.set.Held.{Held}
use Rattle.line_cache.specs.Cached.{slot_of_touch}
use Rattle.line_cache.specs.Fits.{EachFits, LinesBelow, SetFits, SetsFit, SlotsBelow}

-- ONE SET

below-at : (n : ℕ) (lines : List Held) (p : ℕ) → p < length lines → LinesBelow n lines → (line_at lines p).slot < n
below-at n [] p less below = absurd (omega (arith, less))
below-at n (h ∷ lines) zero less below = below.0
below-at n (h ∷ lines) (suc p) less below = below-at n lines p (omega (arith, less)) below.1

below-remove : (n : ℕ) (lines : List Held) (p : ℕ) → p < length lines → LinesBelow n lines → LinesBelow n (remove lines p)
below-remove n [] p less below = absurd (omega (arith, less))
below-remove n (h ∷ lines) zero less below = below.1
below-remove n (h ∷ lines) (suc p) less below = (below.0, below-remove n lines p (omega (arith, less)) below.1)

below-oldest : (n : ℕ) (h : Held) (lines : List Held) → LinesBelow n (h ∷ lines) → (oldest h lines).slot < n
below-oldest n h [] below = below.0
below-oldest n h (x ∷ lines) below = below-oldest n x lines below.1

below-younger : (n : ℕ) (h : Held) (lines : List Held) → LinesBelow n (h ∷ lines) → LinesBelow n (younger h lines)
below-younger n h [] below = tt
below-younger n h (x ∷ lines) below = (below.0, below-younger n x lines below.1)

brought-fits : (n : ℕ) (s : SetLines) (p : ℕ) → p < length s.lines → SetFits n s → SetFits n (brought p s)
brought-fits n s p less fits = record {
  some = omega arith;
  lines = (below-at n s.lines p less fits.lines, below-remove n s.lines p less fits.lines);
  free = fits.free;
}

released-fits : (n : ℕ) (s : SetLines) (p : ℕ) → p < length s.lines → SetFits n s → SetFits n (released p s)
released-fits n s p less fits = record {
  some = omega arith;
  lines = below-remove n s.lines p less fits.lines;
  free = (below-at n s.lines p less fits.lines, fits.free);
}

coming-fits : (n : ℕ) (pid : Pid) (line : LineNo) (free : List ℕ) (lines : List Held) → SetFits n (record { lines = lines; free = free }) → ((coming_to pid line free lines).slot < n) × SetFits n (coming_to pid line free lines).set
coming-fits n pid line (slot ∷ free) lines fits = (fits.free.0, record { some = omega arith; lines = (fits.free.0, fits.lines); free = fits.free.1 })
coming-fits n pid line [] (h ∷ lines) fits =
    let below = below-oldest n h lines fits.lines in
    (below, record { some = omega arith; lines = (below, below-younger n h lines fits.lines); free = tt })
coming-fits n pid line [] [] fits = absurd (let some = fits.some in omega (arith, some))

-- ALL SETS

fits-at : (n : ℕ) (sets : List SetLines) (i : ℕ) → i < length sets → EachFits n sets → SetFits n (get_or sets i (empty_set 0 0))
fits-at n [] i less each = absurd (omega (arith, less))
fits-at n (s ∷ sets) zero less each = each.0
fits-at n (s ∷ sets) (suc i) less each = fits-at n sets i (omega (arith, less)) each.1

fits-set : (n : ℕ) (sets : List SetLines) (i : ℕ) (s : SetLines) → SetFits n s → EachFits n sets → EachFits n (set sets i s)
fits-set n [] i s fits each = tt
fits-set n (r ∷ sets) zero s fits each = (fits, each.1)
fits-set n (r ∷ sets) (suc i) s fits each = (each.0, fits-set n sets i s fits each.1)

with-fits : (n : ℕ) (sets : List SetLines) (i : ℕ) (s : SetLines) → SetFits n s → SetsFit n sets → SetsFit n (set sets i s)
with-fits n sets i s fits all = record {
  some = (let e = length-set sets i s in let some = all.some in omega (arith, e, some));
  each = fits-set n sets i s fits all.each;
}

set-fits : (n : ℕ) (line : LineNo) (t : Tagged) → SetsFit n t.sets → SetFits n (set_of line t)
set-fits n line t all = fits-at n t.sets (set_place line t) (let some = all.some in omega (arith, some)) all.each

found : (pid : Pid) (line : LineNo) (t : Tagged) (p : ℕ) → place_of pid line t ≡ Some p → p < length (set_of line t).lines
found pid line t p e = (position-Some (is_line pid line) (set_of line t).lines p (free_entry 0) e).0

-- CALLS

pub slot-fits : (n : ℕ) (pid : Pid) (line : LineNo) (t : Tagged) (slot : ℕ) → SetsFit n t.sets → slot_of_line pid line t ≡ Some slot → slot < n
slot-fits n pid line t slot all e = by (place_of pid line t) refl e
  where
    by : (o : Option ℕ) → place_of pid line t ≡ o → slot_at (set_of line t).lines o ≡ Some slot → slot < n
    by None at e = cc e
    by (Some p) at e =
        let is : (line_at (set_of line t).lines p).slot ≡ slot = cc e in
        subst (λ (k : ℕ). k < n) is (below-at n (set_of line t).lines p (found pid line t p at) (set-fits n line t all).lines)

pub some-fits : (n : ℕ) (pid : Pid) (line : LineNo) (t : Tagged) (o : Option ℕ) → SetsFit n t.sets → o ≡ slot_of_line pid line t → IfSome o (λ slot. slot < n)
some-fits n pid line t None all e = tt
some-fits n pid line t (Some slot) all e = slot-fits n pid line t slot all (sym e)

pub looked-fits : (n : ℕ) (pid : Pid) (line : LineNo) (t : Tagged) → SetsFit n t.sets → SetsFit n (looked_up pid line t).sets
looked-fits n pid line t all = by (place_of pid line t) refl
  where
    by : (o : Option ℕ) → place_of pid line t ≡ o → SetsFit n (after_look_up line t o).sets
    by None at = all
    by (Some p) at = with-fits n t.sets (set_place line t) (brought p (set_of line t)) (brought-fits n (set_of line t) p (found pid line t p at) (set-fits n line t all)) all

pub touched-fits : (n : ℕ) (pid : Pid) (line : LineNo) (t : Tagged) → SetsFit n t.sets → SetsFit n (touched pid line t).sets
touched-fits n pid line t all = by (place_of pid line t) refl
  where
    by : (o : Option ℕ) → place_of pid line t ≡ o → SetsFit n (after_touch pid line t o).sets
    by None at = with-fits n t.sets (set_place line t) (coming pid line (set_of line t)).set (coming-fits n pid line (set_of line t).free (set_of line t).lines (set-fits n line t all)).1 all
    by (Some p) at = with-fits n t.sets (set_place line t) (brought p (set_of line t)) (brought-fits n (set_of line t) p (found pid line t p at) (set-fits n line t all)) all

pub touch-fits : (n : ℕ) (pid : Pid) (line : LineNo) (t : Tagged) → SetsFit n t.sets → slot_of_touch (touch_of pid line t) < n
touch-fits n pid line t all = by (place_of pid line t) refl
  where
    by : (o : Option ℕ) → place_of pid line t ≡ o → slot_of_touch (answer_to_touch pid line t o) < n
    by None at = (coming-fits n pid line (set_of line t).free (set_of line t).lines (set-fits n line t all)).0
    by (Some p) at = below-at n (set_of line t).lines p (found pid line t p at) (set-fits n line t all).lines

pub removed-fits : (n : ℕ) (pid : Pid) (line : LineNo) (t : Tagged) → SetsFit n t.sets → SetsFit n (removed pid line t).sets
removed-fits n pid line t all = by (place_of pid line t) refl
  where
    by : (o : Option ℕ) → place_of pid line t ≡ o → SetsFit n (after_removal line t o).sets
    by None at = all
    by (Some p) at = with-fits n t.sets (set_place line t) (released p (set_of line t)) (released-fits n (set_of line t) p (found pid line t p at) (set-fits n line t all)) all

-- AT FIRST

range-below : (n first ways : ℕ) → first + ways ≤ n → SlotsBelow n (range_with_len first ways)
range-below n first zero le = tt
range-below n first (suc ways) le = (omega (arith, le), range-below n (first + 1) ways (omega (arith, le)))

each-empty : (n ways sets first : ℕ) → 0 < ways → first + sets * ways ≤ n → EachFits n (empty_sets sets ways first)
each-empty n ways zero first some le = tt
each-empty n ways (suc sets) first some le =
    let more : suc sets * ways ≡ ways + sets * ways = omega arith in
    (record { some = long ways first some; lines = tt; free = range-below n first ways (omega (arith, le, more)) }, each-empty n ways sets (first + ways) some (omega (arith, le, more)))
  where
    long : (ways first : ℕ) → 0 < ways → 0 < 0 + length (range_with_len first ways)
    long zero first some = absurd (omega (arith, some))
    long (suc ways) first some = omega arith

pub empty-fits : (n sets ways : ℕ) → 0 < sets → 0 < ways → sets * ways ≤ n → SetsFit n (empty_sets sets ways 0)
empty-fits n sets ways many some le = record {
  some = (let e = length-empty_sets sets ways 0 in omega (arith, e, many));
  each = each-empty n ways sets 0 some (omega (arith, le));
}
