-- Where the lines of a cache are after a call, and which of them are dirty.
use Rattle.std.proofs.Common.{◌≡◌, ◌⊎◌, ◌+◌, ◌*◌, ◌%◌, ◌<◌, ◌++◌, ◌||◌, [], ◌∷◌, ◌∙◌, ℕ, Bool, List, None, Option, Some, ap, arith, cond, false, get_or, inl, inr, length, refl, set, subst, sym, true}
use Rattle.std.proofs.lemmas.Bool.{cases_eq, cond-false, cond-true}
use Rattle.std.proofs.lemmas.List.{get_or-set_other, get_or-set_same, length-replicate, length-set}
use Rattle.std.specs.List.{position, remove}
use Rattle.lego_base.specs.Keys.{Key, same_key}
use Rattle.cache_tags.proofs.Changes.{IsGood, found_drops}
use Rattle.cache_tags.proofs.Flags.{flagged}
use Rattle.cache_tags.proofs.Follows.{at_set, follows, off_set, same_set_for, set_for}
use Rattle.cache_tags.proofs.Lines.{Distinct, clash, last-absent, same_is, same_self, same_turned}
use Rattle.cache_tags.proofs.Shown.{IsFound, found, is_of, keys, keys-split, missed}
use Rattle.cache_tags.proofs.Slots.{Sound, apart, below, found_slot, slot-remove, slot_in}
use Rattle.cache_tags.specs.CacheRule.{Cleaned, Past, Removed, Size, Stored, Touched, has_line}
use Rattle.cache_tags.specs.Following.{after_past, along, held_key, line_of, lists_after, marked_where, pid_of, slot_for, victim_in, victim_key}
use Rattle.cache_tags.specs.Lists.{brought, coming, coming_to, line_at, oldest, released, younger}
use Rattle.cache_tags.specs.Sets.{SetLines, Tagged}
use Rattle.cache_tags.specs.Tags.{after_removal, after_touch, answer_to_touch, is_dirty_slot, no_lines, place_of, slot_at, victim_of}
use Rattle.cache_tags.specs.declared.set.Held.{Held}
use Rattle.split_script.specs.Now.{is_dirty_at}
use Rattle.ex_memory.specs.Kept.{if_same, is_victim}

-- WHAT HOLDS of lists after a past

pub record Lists (c : Size) (t : Tagged) : Type 0 where
  pub some : 0 < c.sets
  pub ways : 0 < c.ways
  pub count : length t.sets ≡ c.sets
  pub good : (x : Key) → IsGood c x (set_for x t)
  pub sound : Sound t
  pub room : length t.dirty ≡ c.sets * c.ways

marked-length : (b : Bool) (o : Option ℕ) (t : Tagged) → length (marked_where b o t).dirty ≡ length t.dirty
marked-length b None t = refl
marked-length b (Some slot) t = length-set t.dirty slot b

touched-length : (x : Key) (t : Tagged) (o : Option ℕ) → length (after_touch (pid_of x) (line_of x) t o).dirty ≡ length t.dirty
touched-length x t None = length-set t.dirty (coming (pid_of x) (line_of x) (set_for x t)).slot false
touched-length x t (Some p) = refl

pub removed-dirty : (x : Key) (t : Tagged) (o : Option ℕ) → (after_removal (line_of x) t o).dirty ≡ t.dirty
removed-dirty x t None = refl
removed-dirty x t (Some p) = refl

past-length : (e : Past) (t : Tagged) → length (after_past e t).dirty ≡ length t.dirty
past-length (Touched x) t = touched-length x t (place_of (pid_of x) (line_of x) t)
past-length (Removed x) t = ap (λ (d : List Bool). length d) (removed-dirty x t (place_of (pid_of x) (line_of x) t))
past-length (Stored x) t = marked-length true (slot_for x t) t
past-length (Cleaned x) t = marked-length false (slot_for x t) t

along-length : (past : List Past) (t : Tagged) → length (along past t).dirty ≡ length t.dirty
along-length [] t = refl
along-length (e ∷ past) t = along-length past (after_past e t) ∙ past-length e t

pub lists : (c : Size) (past : List Past) → 0 < c.sets → 0 < c.ways → Lists c (lists_after c past)
lists c past some ways =
    let all = follows c past some ways in
    record {
      some = some;
      ways = ways;
      count = all.count;
      good = all.good;
      sound = (flagged c past some ways).sound;
      room = along-length past (no_lines c.sets c.ways) ∙ length-replicate (c.sets * c.ways) false;
    }

-- THE SLOT of a line, in the list of its set

pub slot_none : (x : Key) (lines : List Held) → has_line x (keys lines) ≡ false → slot_in x lines ≡ None
slot_none x [] e = refl
slot_none x (h ∷ lines) e = by (is_of x h) e (slot_none x lines)
  where
    by : (b : Bool) → (b || has_line x (keys lines)) ≡ false → (has_line x (keys lines) ≡ false → slot_in x lines ≡ None) → cond b (Some h.slot) (slot_in x lines) ≡ None
    by true e rest = cc e
    by false e rest = rest e

pub slot_is_in : (x : Key) (t : Tagged) → slot_for x t ≡ slot_in x (set_for x t).lines
slot_is_in x t = by (place_of (pid_of x) (line_of x) t) refl
  where
    by : (o : Option ℕ) → place_of (pid_of x) (line_of x) t ≡ o → slot_at (set_for x t).lines o ≡ slot_in x (set_for x t).lines
    by (Some p) e = sym (found_slot x (set_for x t).lines p e)
    by None e = sym (slot_none x (set_for x t).lines (missed x (set_for x t).lines e))

pub slot_below : (c : Size) (t : Tagged) (x : Key) (k : ℕ) → Lists c t → slot_for x t ≡ Some k → k < length t.dirty
slot_below c t x k all at = below t x k all.sound (sym (slot_is_in x t) ∙ at)

pub slots_apart : (c : Size) (t : Tagged) (x y : Key) (j k : ℕ) → Lists c t → same_key x y ≡ false → slot_for x t ≡ Some j → slot_for y t ≡ Some k → j ≡ k → ⊥
slots_apart c t x y j k all other at there = apart t x y j k all.sound other (sym (slot_is_in x t) ∙ at) (sym (slot_is_in y t) ∙ there)

-- A SET CHANGES: what holds of a line of that set, and of all others, holds of where the lines are
moved : (c : Size) (t t' : Tagged) (x : Key) (s : SetLines) → Lists c t → t'.sets ≡ set t.sets (x.number % length t.sets) s → (P : Option ℕ → Option ℕ → Type 0) (y : Key)
    → (y.number % c.sets ≡ x.number % c.sets → P (slot_in y s.lines) (slot_in y (set_for x t).lines))
    → ((y.number % c.sets ≡ x.number % c.sets → ⊥) → P (slot_in y (set_for y t).lines) (slot_in y (set_for y t).lines))
    → P (slot_for y t') (slot_for y t)
moved c t t' x s all e P y near far =
    subst (λ (o : Option ℕ). P o (slot_for y t)) (sym (slot_is_in y t'))
    (subst (λ (o : Option ℕ). P (slot_in y (set_for y t').lines) o) (sym (slot_is_in y t)) (by (cases_eq (y.number % c.sets) (x.number % c.sets))))
  where
    by : (y.number % c.sets ≡ x.number % c.sets) ⊎ (y.number % c.sets ≡ x.number % c.sets → ⊥) → P (slot_in y (set_for y t').lines) (slot_in y (set_for y t).lines)
    by (inl same) = subst (λ (r : SetLines). P (slot_in y r.lines) (slot_in y (set_for y t).lines)) (sym (at_set c t t' y x s all.count all.some e same)) (subst (λ (r : SetLines). P (slot_in y s.lines) (slot_in y r.lines)) (same_set_for c t y x all.count same) (near same))
    by (inr differ) = subst (λ (r : SetLines). P (slot_in y r.lines) (slot_in y (set_for y t).lines)) (sym (off_set c t t' y x s all.count e differ)) (far differ)

differ_far : (c : Size) (x y : Key) → (y.number % c.sets ≡ x.number % c.sets → ⊥) → same_key x y ≡ false
differ_far c x y far = by (same_key x y) refl
  where
    by : (b : Bool) → same_key x y ≡ b → b ≡ false
    by true e = absurd (far (ap (λ (k : Key). k.number % c.sets) (sym (same_is x y e))))
    by false e = refl

-- A HIT leaves all lines in their slots

brought_slots : (y x : Key) (s : SetLines) (p : ℕ) → position (is_of x) s.lines ≡ Some p → slot_in y (brought p s).lines ≡ slot_in y s.lines
brought_slots y x s p e = let f = found x s.lines p e in by f (same_key y x) refl
  where
    by : IsFound x s.lines p → (b : Bool) → same_key y x ≡ b → slot_in y (brought p s).lines ≡ slot_in y s.lines
    by f true at =
        subst (λ (z : Key). slot_in z (brought p s).lines ≡ slot_in z s.lines) (sym (same_is y x at))
        (cond-true (is_of x (line_at s.lines p)) (Some (line_at s.lines p).slot) (slot_in x (remove s.lines p)) f.is ∙ sym (found_slot x s.lines p e))
    by f false other = cond-false (is_of y (line_at s.lines p)) (Some (line_at s.lines p).slot) (slot_in y (remove s.lines p)) (differ (is_of y (line_at s.lines p)) refl) ∙ slot-remove y x s.lines p other f.within f.is
      where
        differ : (b : Bool) → is_of y (line_at s.lines p) ≡ b → b ≡ false
        differ true e = absurd (clash (same_key y x) (ap (λ (z : Key). same_key z x) (sym (same_is (held_key (line_at s.lines p)) y e)) ∙ f.is) other)
        differ false e = refl

pub hit_slots : (c : Size) (t t' : Tagged) (x : Key) (p : ℕ) → Lists c t → place_of (pid_of x) (line_of x) t ≡ Some p → t'.sets ≡ set t.sets (x.number % length t.sets) (brought p (set_for x t)) → (y : Key) → slot_for y t' ≡ slot_for y t
hit_slots c t t' x p all at e y = moved c t t' x (brought p (set_for x t)) all e (λ a b. a ≡ b) y (λ near. brought_slots y x (set_for x t) p at) (λ far. refl)

-- A REMOVAL takes one line out

released_slots : (c : Size) (x y : Key) (s : SetLines) (p : ℕ) → IsGood c x s → position (is_of x) s.lines ≡ Some p → slot_in y (released p s).lines ≡ if_same x y None (slot_in y s.lines)
released_slots c x y s p good e = let f = found x s.lines p e in by f (same_key x y) refl
  where
    by : IsFound x s.lines p → (b : Bool) → same_key x y ≡ b → slot_in y (released p s).lines ≡ cond b None (slot_in y s.lines)
    by f true at = subst (λ (z : Key). slot_in z (released p s).lines ≡ None) (same_is x y at) (slot_none x (released p s).lines (found_drops c x s p good f).gone)
    by f false other = slot-remove y x s.lines p (same_turned y x ∙ other) f.within f.is

pub removal_slots : (c : Size) (t : Tagged) (x : Key) → Lists c t → (y : Key) → slot_for y (after_past (Removed x) t) ≡ if_same x y None (slot_for y t)
removal_slots c t x all y = by (place_of (pid_of x) (line_of x) t) refl
  where
    here : place_of (pid_of x) (line_of x) t ≡ None → (b : Bool) → same_key x y ≡ b → slot_for y t ≡ cond b None (slot_for y t)
    here none true at = subst (λ (z : Key). slot_for z t ≡ None) (same_is x y at) (ap (slot_at (set_for x t).lines) none)
    here none false other = refl

    by : (o : Option ℕ) → place_of (pid_of x) (line_of x) t ≡ o → slot_for y (after_removal (line_of x) t o) ≡ if_same x y None (slot_for y t)
    by None e = here e (same_key x y) refl
    by (Some p) e = moved c t (after_removal (line_of x) t (Some p)) x (released p (set_for x t)) all refl (λ a b. a ≡ if_same x y None b) y
        (λ near. released_slots c x y (set_for x t) p (all.good x) e)
        (λ far. sym (cond-false (same_key x y) None (slot_in y (set_for y t).lines) (differ_far c x y far)))

-- A LINE COMES IN, and the oldest leaves a full set

younger_slots : (y : Key) (h : Held) (lines : List Held) → same_key (held_key (oldest h lines)) y ≡ false → slot_in y (younger h lines) ≡ slot_in y (h ∷ lines)
younger_slots y h [] other = sym (cond-false (is_of y h) (Some h.slot) None other)
younger_slots y h (g ∷ lines) other = ap (λ (o : Option ℕ). cond (is_of y h) (Some h.slot) o) (younger_slots y g lines other)

oldest_gone : (h : Held) (lines : List Held) → Distinct (keys (h ∷ lines)) → slot_in (held_key (oldest h lines)) (younger h lines) ≡ None
oldest_gone h lines distinct = slot_none (held_key (oldest h lines)) (younger h lines) (last-absent (keys (younger h lines)) (held_key (oldest h lines)) (subst Distinct (keys-split h lines) distinct))

left_slots : (y : Key) (h : Held) (lines : List Held) → Distinct (keys (h ∷ lines)) → slot_in y (younger h lines) ≡ cond (same_key (held_key (oldest h lines)) y) None (slot_in y (h ∷ lines))
left_slots y h lines distinct = by (same_key (held_key (oldest h lines)) y) refl
  where
    by : (b : Bool) → same_key (held_key (oldest h lines)) y ≡ b → slot_in y (younger h lines) ≡ cond b None (slot_in y (h ∷ lines))
    by true at = subst (λ (z : Key). slot_in z (younger h lines) ≡ None) (same_is (held_key (oldest h lines)) y at) (oldest_gone h lines distinct)
    by false other = younger_slots y h lines other

coming_slots : (c : Size) (t : Tagged) (x y : Key) (free : List ℕ) (lines : List Held) → 0 < c.ways → IsGood c x (record { lines = lines; free = free })
    → slot_in y (coming_to (pid_of x) (line_of x) free lines).set.lines ≡ if_same x y (Some (coming_to (pid_of x) (line_of x) free lines).slot) (cond (is_victim (victim_key (victim_of t (coming_to (pid_of x) (line_of x) free lines).leaves)) y) None (slot_in y lines))
coming_slots c t x y (slot ∷ free) lines some good = refl
coming_slots c t x y [] (h ∷ lines) some good = ap (λ (o : Option ℕ). cond (same_key x y) (Some (oldest h lines).slot) o) (left_slots y h lines good.distinct)
coming_slots c t x y [] [] some good = absurd (let w = good.ways in omega (arith, w, some))

-- the line that leaves
oldest_there : (h : Held) (lines : List Held) → Distinct (keys (h ∷ lines)) → slot_in (held_key (oldest h lines)) (h ∷ lines) ≡ Some (oldest h lines).slot
oldest_there h [] distinct = cond-true (is_of (held_key h) h) (Some h.slot) None (same_self (held_key h))
oldest_there h (g ∷ lines) distinct = later (oldest_there g lines distinct.1)
  where
    no : ◌≡◌ {A = Option ℕ} None (Some (oldest g lines).slot) → ⊥
    no e = cc e

    differ : slot_in (held_key (oldest g lines)) (g ∷ lines) ≡ Some (oldest g lines).slot → (b : Bool) → same_key (held_key h) (held_key (oldest g lines)) ≡ b → b ≡ false
    differ there true e = absurd (no (sym (slot_none (held_key h) (g ∷ lines) distinct.0) ∙ ap (λ (z : Key). slot_in z (g ∷ lines)) (same_is (held_key h) (held_key (oldest g lines)) e) ∙ there))
    differ there false e = refl

    later : slot_in (held_key (oldest g lines)) (g ∷ lines) ≡ Some (oldest g lines).slot → slot_in (held_key (oldest g lines)) (h ∷ g ∷ lines) ≡ Some (oldest g lines).slot
    later there = cond-false (is_of (held_key (oldest g lines)) h) (Some h.slot) (slot_in (held_key (oldest g lines)) (g ∷ lines)) (differ there (same_key (held_key h) (held_key (oldest g lines))) refl) ∙ there

pub record IsLeaving (c : Size) (x : Key) (v : Held) (t : Tagged) : Type 0 where
  pub there : slot_for (held_key v) t ≡ Some v.slot
  pub differs : same_key x (held_key v) ≡ false
  pub near : v.line.0 % c.sets ≡ x.number % c.sets

leaving_in : (c : Size) (t : Tagged) (x : Key) (v : Held) (free : List ℕ) (lines : List Held) → Lists c t → IsGood c x (record { lines = lines; free = free }) → has_line x (keys lines) ≡ false → set_for x t ≡ record { lines = lines; free = free } → (coming_to (pid_of x) (line_of x) free lines).leaves ≡ Some v → IsLeaving c x v t
leaving_in c t x v (slot ∷ free) lines all good absent is e = cc e
leaving_in c t x v [] [] all good absent is e = cc e
leaving_in c t x v [] (h ∷ lines) all good absent is e =
    let one : oldest h lines ≡ v = cc e in
    subst (λ (w : Held). IsLeaving c x w t) one (record {
      there = slot_is_in old t ∙ ap (λ (s : SetLines). slot_in old s.lines) (same_set_for c t x old all.count (sym near) ∙ is) ∙ oldest_there h lines good.distinct;
      differs = differ (same_key x old) refl;
      near = near;
    })
  where
    old : Key
    old = held_key (oldest h lines)

    has : (b : Bool) → has_line old (keys (h ∷ lines)) ≡ b → b ≡ true
    has true e = refl
    has false e = absurd (no (sym (slot_none old (h ∷ lines) e) ∙ oldest_there h lines good.distinct))
      where
        no : ◌≡◌ {A = Option ℕ} None (Some (oldest h lines).slot) → ⊥
        no e = cc e

    here : has_line old (keys (h ∷ lines)) ≡ true
    here = has (has_line old (keys (h ∷ lines))) refl

    near : old.number % c.sets ≡ x.number % c.sets
    near = good.own old here

    differ : (b : Bool) → same_key x old ≡ b → b ≡ false
    differ true e = absurd (clash (has_line x (keys (h ∷ lines))) (ap (λ (z : Key). has_line z (keys (h ∷ lines))) (same_is x old e) ∙ here) absent)
    differ false e = refl

pub place_none : (x : Key) (t : Tagged) → slot_for x t ≡ None → place_of (pid_of x) (line_of x) t ≡ None
place_none x t e = by (place_of (pid_of x) (line_of x) t) e
  where
    by : (o : Option ℕ) → slot_at (set_for x t).lines o ≡ None → o ≡ None
    by None e = refl
    by (Some p) e = cc e

pub leaving : (c : Size) (t : Tagged) (x : Key) (v : Held) → Lists c t → slot_for x t ≡ None → (coming (pid_of x) (line_of x) (set_for x t)).leaves ≡ Some v → IsLeaving c x v t
leaving c t x v all away e = leaving_in c t x v (set_for x t).free (set_for x t).lines all (all.good x) (missed x (set_for x t).lines (place_none x t away)) refl e

pub miss_slots : (c : Size) (t : Tagged) (x : Key) → Lists c t → slot_for x t ≡ None → (y : Key)
    → slot_for y (after_touch (pid_of x) (line_of x) t None) ≡ if_same x y (Some (coming (pid_of x) (line_of x) (set_for x t)).slot) (cond (is_victim (victim_in (answer_to_touch (pid_of x) (line_of x) t None)) y) None (slot_for y t))
miss_slots c t x all away y =
    moved c t (after_touch (pid_of x) (line_of x) t None) x (coming (pid_of x) (line_of x) (set_for x t)).set all refl
    (λ a b. a ≡ if_same x y (Some (coming (pid_of x) (line_of x) (set_for x t)).slot) (cond (is_victim (victim_in (answer_to_touch (pid_of x) (line_of x) t None)) y) None b)) y
    (λ near. coming_slots c t x y (set_for x t).free (set_for x t).lines all.ways (all.good x))
    (λ far. sym (cond-false (same_key x y) (Some (coming (pid_of x) (line_of x) (set_for x t)).slot) _ (differ_far c x y far) ∙ cond-false (is_victim (victim_in (answer_to_touch (pid_of x) (line_of x) t None)) y) None (slot_in y (set_for y t).lines) (no_victim (coming (pid_of x) (line_of x) (set_for x t)).leaves refl far)))
  where
    no_victim : (o : Option Held) → (coming (pid_of x) (line_of x) (set_for x t)).leaves ≡ o → (y.number % c.sets ≡ x.number % c.sets → ⊥) → is_victim (victim_key (victim_of t o)) y ≡ false
    no_victim None e far = refl
    no_victim (Some v) e far = by (same_key (held_key v) y) refl
      where
        by : (b : Bool) → same_key (held_key v) y ≡ b → b ≡ false
        by true at = absurd (far (ap (λ (k : Key). k.number % c.sets) (sym (same_is (held_key v) y at)) ∙ (leaving c t x v all away e).near))
        by false other = refl
