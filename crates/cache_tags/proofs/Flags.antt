-- Dirty flags are those of the rule.
use Rattle.std.proofs.Common.{◌≡◌, ◌*◌, ◌%◌, ◌<◌, ◌&&◌, ◌||◌, ◌++◌, [], ◌∷◌, ◌∙◌, ℕ, Bool, List, None, Option, Some, ap, append-nil, append_assoc, arith, cond, false, get_or, inl, inr, length, not, refl, set, subst, suc, sym, true, zero}
use Rattle.std.proofs.lemmas.Bool.{cases_eq, cond-false, cond-true}
use Rattle.std.proofs.lemmas.List.{get_or-set_other, get_or-set_same, length-replicate, length-set}
use Rattle.std.specs.List.{position}
use Rattle.lego_base.specs.Keys.{Key, same_key}
use Rattle.cache_tags.proofs.Changes.{IsGood, found_drops}
use Rattle.cache_tags.proofs.Follows.{Follows, at_set, empty_lines, follows, off_set, presence, same_set_for, set_for}
use Rattle.cache_tags.proofs.Lines.{clash, same_is, same_self, same_turned}
use Rattle.cache_tags.proofs.Shown.{IsFound, found, is_of, keys, missed}
use Rattle.cache_tags.proofs.Slots.{Sound, apart, below, found_slot, in_empty_sets, in_set, in_set-brought, in_set-coming, in_set-released, in_sets, in_sets-set, slot-remove, slot-younger, slot_in}
use Rattle.cache_tags.proofs.Victims.{along-last}
use Rattle.cache_tags.specs.CacheRule.{Cleaned, Past, Removed, Size, Stored, Touched, dirty_after, dirty_along, has_line, is_dirty, is_there, since_touch}
use Rattle.cache_tags.specs.Following.{after_past, held_key, line_of, lists_after, marked_where, pid_of}
use Rattle.cache_tags.specs.Lists.{brought, coming, coming_to, empty_set, line_at, oldest, released, younger}
use Rattle.cache_tags.specs.Sets.{SetLines, Tagged}
use Rattle.cache_tags.specs.Tags.{after_removal, after_touch, empty_sets, no_lines, place_of, slot_at}
use Rattle.cache_tags.specs.declared.set.Held.{Held}

pub record Flagged (c : Size) (past : List Past) (t : Tagged) : Type 0 where
  pub sound : Sound t
  pub flags : (x : Key) (k : ℕ) → slot_in x (set_for x t).lines ≡ Some k → get_or t.dirty k false ≡ is_dirty c past x

dirty-last : (c : Size) (before : List Past) (x : Key) (past : List Past) (e : Past) (d : Bool) → dirty_along c before x (past ++ e ∷ []) d ≡ dirty_after c (before ++ past) x e (dirty_along c before x past d)
dirty-last c before x [] e d = ap (λ (b : List Past). dirty_after c b x e d) (sym (append-nil before))
dirty-last c before x (f ∷ past) e d =
    dirty-last c (before ++ f ∷ []) x past e (dirty_after c before x f d)
    ∙ ap (λ (b : List Past). dirty_after c b x e (dirty_along c (before ++ f ∷ []) x past (dirty_after c before x f d))) (append_assoc before (f ∷ []) past)

same_slot : (a b : ℕ) → Some a ≡ Some b → a ≡ b
same_slot a b e = cc e

-- a slot says that the line is in the list
slot_has : (x : Key) (lines : List Held) (k : ℕ) → slot_in x lines ≡ Some k → has_line x (keys lines) ≡ true
slot_has x [] k e = cc e
slot_has x (h ∷ lines) k e = by (is_of x h) e (slot_has x lines k)
  where
    by : (b : Bool) → cond b (Some h.slot) (slot_in x lines) ≡ Some k → (slot_in x lines ≡ Some k → has_line x (keys lines) ≡ true) → (b || has_line x (keys lines)) ≡ true
    by true e rest = refl
    by false e rest = rest e

-- the same lines at the same slots
same_flags : (c : Size) (past : List Past) (e : Past) (t t' : Tagged) → Flagged c past t → Sound t' → t'.dirty ≡ t.dirty
    → ((x : Key) (k : ℕ) → slot_in x (set_for x t').lines ≡ Some k → (slot_in x (set_for x t).lines ≡ Some k) × (dirty_after c past x e (is_dirty c past x) ≡ is_dirty c past x))
    → Flagged c (past ++ e ∷ []) t'
same_flags c past e t t' f sound same slots = record {
  sound = sound;
  flags = λ x k at. let s = slots x k at in ap (λ (d : List Bool). get_or d k false) same ∙ f.flags x k s.0 ∙ sym (dirty-last c [] x past e false ∙ s.1);
}

set_sound : (t t' : Tagged) (i : ℕ) (s : SetLines) → Sound t → t'.sets ≡ set t.sets i s → length t'.dirty ≡ length t.dirty → ((k : ℕ) → in_set k s ≡ in_set k (get_or t.sets i (empty_set 0 0))) → Sound t'
set_sound t t' i s sound e long same = record {
  once = λ k. let n = count k in let m = sound.once k in omega (arith, n, m);
  room = λ k some. let n = count k in let m = sound.room k (omega (arith, n, some)) in omega (arith, m, long);
}
  where
    count : (k : ℕ) → in_sets k t'.sets ≡ in_sets k t.sets
    count k = ap (in_sets k) e ∙ in_sets-set k t.sets i s (same k)

-- where a line is once a set changed
moved : (c : Size) (t t' : Tagged) (y : Key) (s : SetLines) → length t.sets ≡ c.sets → 0 < c.sets → t'.sets ≡ set t.sets (y.number % length t.sets) s → (P : Option ℕ → Option ℕ → Type 0) → (x : Key)
    → P (slot_in x s.lines) (slot_in x (set_for y t).lines) → P (slot_in x (set_for x t).lines) (slot_in x (set_for x t).lines) → P (slot_in x (set_for x t').lines) (slot_in x (set_for x t).lines)
moved c t t' y s count some e P x near far = elim (cases_eq (x.number % c.sets) (y.number % c.sets)) [
  | inl same ↦ subst (λ (r : SetLines). P (slot_in x r.lines) (slot_in x (set_for x t).lines)) (sym (at_set c t t' x y s count some e same)) (subst (λ (r : SetLines). P (slot_in x s.lines) (slot_in x r.lines)) (same_set_for c t x y count same) near)
  | inr differ ↦ subst (λ (r : SetLines). P (slot_in x r.lines) (slot_in x (set_for x t).lines)) (sym (off_set c t t' x y s count e differ)) far
]

-- TOUCHES

hit_slots : (x y : Key) (s : SetLines) (p : ℕ) → position (is_of y) s.lines ≡ Some p → slot_in x (brought p s).lines ≡ slot_in x s.lines
hit_slots x y s p e = let f = found y s.lines p e in by f (same_key x y) refl
  where
    by : IsFound y s.lines p → (b : Bool) → same_key x y ≡ b → slot_in x (brought p s).lines ≡ slot_in x s.lines
    by f true at =
        subst (λ (z : Key). slot_in z (brought p s).lines ≡ slot_in z s.lines) (sym (same_is x y at))
        (cond-true (is_of y (line_at s.lines p)) (Some (line_at s.lines p).slot) _ f.is ∙ sym (found_slot y s.lines p e))
    by f false other = cond-false (is_of x (line_at s.lines p)) (Some (line_at s.lines p).slot) _ (differ (is_of x (line_at s.lines p)) refl) ∙ slot-remove x y s.lines p other f.within f.is
      where
        differ : (b : Bool) → is_of x (line_at s.lines p) ≡ b → b ≡ false
        differ true e = absurd (clash (same_key x y) (ap (λ (z : Key). same_key z y) (sym (same_is (held_key (line_at s.lines p)) x e)) ∙ f.is) other)
        differ false e = refl

hit_dirty : (c : Size) (past : List Past) (x y : Key) (d : Bool) → is_there c past y ≡ true → dirty_after c past x (Touched y) d ≡ d
hit_dirty c past x y d there = by (same_key x y) refl
  where
    by : (b : Bool) → same_key x y ≡ b → cond (b && not (is_there c past x)) false d ≡ d
    by true e = cond-false (not (is_there c past x)) false d (ap not (ap (is_there c past) (same_is x y e) ∙ there))
    by false e = refl

hit_flags : (c : Size) (past : List Past) (y : Key) (t t' : Tagged) (p : ℕ) → 0 < c.sets → length t.sets ≡ c.sets → t'.sets ≡ set t.sets (y.number % length t.sets) (brought p (set_for y t)) → t'.dirty ≡ t.dirty → Flagged c past t → is_there c past y ≡ true → position (is_of y) (set_for y t).lines ≡ Some p → Flagged c (past ++ Touched y ∷ []) t'
hit_flags c past y t t' p some count e same f there at =
    same_flags c past (Touched y) t t' f
    (set_sound t t' (y.number % length t.sets) (brought p (set_for y t)) f.sound e (ap (λ (d : List Bool). length d) same) (λ k. in_set-brought k (set_for y t) p (found y (set_for y t).lines p at).within))
    same
    (λ x k s. (sym (moved c t t' y (brought p (set_for y t)) count some e (λ a b. a ≡ b) x (hit_slots x y (set_for y t) p at) refl) ∙ s, hit_dirty c past x y (is_dirty c past x) there))

coming_first : (c : Size) (y : Key) (free : List ℕ) (lines : List Held) → IsGood c y (record { lines = lines; free = free }) → 0 < c.ways → slot_in y (coming_to (pid_of y) (line_of y) free lines).set.lines ≡ Some (coming_to (pid_of y) (line_of y) free lines).slot
coming_first c y (slot ∷ free) lines good some = cond-true (same_key y y) (Some slot) (slot_in y lines) (same_self y)
coming_first c y [] (h ∷ lines) good some = cond-true (same_key y y) (Some (oldest h lines).slot) (slot_in y (younger h lines)) (same_self y)
coming_first c y [] [] good some = absurd (let w = good.ways in omega (arith, w, some))

coming_others : (x y : Key) (free : List ℕ) (lines : List Held) (k : ℕ) → same_key x y ≡ false → slot_in x (coming_to (pid_of y) (line_of y) free lines).set.lines ≡ Some k → slot_in x lines ≡ Some k
coming_others x y (slot ∷ free) lines k other e = sym (cond-false (same_key y x) (Some slot) (slot_in x lines) (same_turned y x ∙ other)) ∙ e
coming_others x y [] (h ∷ lines) k other e = slot-younger x h lines k (sym (cond-false (same_key y x) (Some (oldest h lines).slot) (slot_in x (younger h lines)) (same_turned y x ∙ other)) ∙ e)
coming_others x y [] [] k other e = cc e

set_reads : (flags : List Bool) (i : ℕ) (v : Bool) → get_or (set flags i v) i v ≡ v
set_reads [] i v = refl
set_reads (f ∷ flags) zero v = refl
set_reads (f ∷ flags) (suc i) v = set_reads flags i v

miss_flags : (c : Size) (past : List Past) (y : Key) (t : Tagged) → 0 < c.sets → 0 < c.ways → Follows c t (λ x. since_touch x past None) → Flagged c past t → is_there c past y ≡ false → Flagged c (past ++ Touched y ∷ []) (after_touch (pid_of y) (line_of y) t None)
miss_flags c past y t some ways follows f away = record { sound = sound; flags = flags }
  where
    s : SetLines
    s = set_for y t

    new : SetLines
    new = (coming (pid_of y) (line_of y) (set_for y t)).set

    slot : ℕ
    slot = (coming (pid_of y) (line_of y) (set_for y t)).slot

    t' : Tagged
    t' = after_touch (pid_of y) (line_of y) t None

    sound : Sound (after_touch (pid_of y) (line_of y) t None)
    sound = set_sound t t' (y.number % length t.sets) new f.sound refl (length-set t.dirty slot false) (λ k. in_set-coming k y (set_for y t).free (set_for y t).lines)

    first : slot_in y (set_for y t').lines ≡ Some slot
    first = ap (λ (r : SetLines). slot_in y r.lines) (at_set c t t' y y new follows.count some refl refl) ∙ coming_first c y (set_for y t).free (set_for y t).lines (follows.good y) ways

    flags : (x : Key) (k : ℕ) → slot_in x (set_for x (after_touch (pid_of y) (line_of y) t None)).lines ≡ Some k → get_or (after_touch (pid_of y) (line_of y) t None).dirty k false ≡ is_dirty c (past ++ Touched y ∷ []) x
    flags x k at = by (same_key x y) refl
      where
        by : (b : Bool) → same_key x y ≡ b → get_or (after_touch (pid_of y) (line_of y) t None).dirty k false ≡ is_dirty c (past ++ Touched y ∷ []) x
        by true e =
            let is : x ≡ y = same_is x y e in
            let k_is : slot ≡ k = same_slot slot k (sym first ∙ ap (λ (z : Key). slot_in z (set_for z t').lines) (sym is) ∙ at) in
            ap (λ (j : ℕ). get_or (set t.dirty slot false) j false) (sym k_is) ∙ set_reads t.dirty slot false
            ∙ sym (dirty-last c [] x past (Touched y) false ∙ cond-true (same_key x y && not (is_there c past x)) false (is_dirty c past x) (λ i. e i && not ((ap (is_there c past) is ∙ away) i)))
        by false e =
            let old : slot_in x (set_for x t).lines ≡ Some k = moved c t t' y new follows.count some refl (λ a b. a ≡ Some k → b ≡ Some k) x (coming_others x y (set_for y t).free (set_for y t).lines k e) (λ same. same) at in
            get_or-set_other t.dirty slot k false false (apart t' x y k slot sound e at first)
            ∙ f.flags x k old
            ∙ sym (dirty-last c [] x past (Touched y) false ∙ cond-false (same_key x y && not (is_there c past x)) false (is_dirty c past x) (λ i. e i && not (is_there c past x)))

touch_flags : (c : Size) (past : List Past) (y : Key) (t : Tagged) → 0 < c.sets → 0 < c.ways → Follows c t (λ x. since_touch x past None) → Flagged c past t → has_line y (keys (set_for y t).lines) ≡ is_there c past y → (o : Option ℕ) → position (is_of y) (set_for y t).lines ≡ o → Flagged c (past ++ Touched y ∷ []) (after_touch (pid_of y) (line_of y) t o)
touch_flags c past y t some ways follows f here (Some p) e = hit_flags c past y t (after_touch (pid_of y) (line_of y) t (Some p)) p some follows.count refl refl f (sym here ∙ (found y (set_for y t).lines p e).has) e
touch_flags c past y t some ways follows f here None e = miss_flags c past y t some ways follows f (sym here ∙ missed y (set_for y t).lines e)

-- REMOVALS

removal_flags : (c : Size) (past : List Past) (y : Key) (t : Tagged) → 0 < c.sets → Follows c t (λ x. since_touch x past None) → Flagged c past t → (o : Option ℕ) → position (is_of y) (set_for y t).lines ≡ o → Flagged c (past ++ Removed y ∷ []) (after_removal (line_of y) t o)
removal_flags c past y t some follows f (Some p) e =
    let at = found y (set_for y t).lines p e in
    same_flags c past (Removed y) t (after_removal (line_of y) t (Some p)) f
    (set_sound t (after_removal (line_of y) t (Some p)) (y.number % length t.sets) (released p (set_for y t)) f.sound refl refl (λ k. in_set-released k (set_for y t) p at.within))
    refl
    (λ x k s. (moved c t (after_removal (line_of y) t (Some p)) y (released p (set_for y t)) follows.count some refl (λ a b. a ≡ Some k → b ≡ Some k) x (near x k at (same_key x y) refl) (λ same. same) s, refl))
  where
    near : (x : Key) (k : ℕ) → IsFound y (set_for y t).lines p → (b : Bool) → same_key x y ≡ b → slot_in x (released p (set_for y t)).lines ≡ Some k → slot_in x (set_for y t).lines ≡ Some k
    near x k at true same s = absurd (clash (has_line x (keys (released p (set_for y t)).lines)) (slot_has x (released p (set_for y t)).lines k s) (ap (λ (z : Key). has_line z (keys (released p (set_for y t)).lines)) (same_is x y same) ∙ (found_drops c y (set_for y t) p (follows.good y) at).gone))
    near x k at false other s = sym (slot-remove x y (set_for y t).lines p other at.within at.is) ∙ s
removal_flags c past y t some follows f None e = same_flags c past (Removed y) t t f f.sound refl (λ x k s. (s, refl))

-- MARKS

mark_flags : (c : Size) (past : List Past) (y : Key) (e : Past) (b : Bool) (t : Tagged) → ((x : Key) (d : Bool) → dirty_after c past x e d ≡ cond (same_key x y) b d) → Flagged c past t → (o : Option ℕ) → position (is_of y) (set_for y t).lines ≡ o → Flagged c (past ++ e ∷ []) (marked_where b (slot_at (set_for y t).lines o) t)
mark_flags c past y e b t after f None none = record {
  sound = f.sound;
  flags = λ x k at. f.flags x k at ∙ sym (dirty-last c [] x past e false ∙ after x (is_dirty c past x) ∙ cond-false (same_key x y) b (is_dirty c past x) (differ x k at (same_key x y) refl));
}
  where
    differ : (x : Key) (k : ℕ) → slot_in x (set_for x t).lines ≡ Some k → (d : Bool) → same_key x y ≡ d → d ≡ false
    differ x k at true same = absurd (clash (has_line y (keys (set_for y t).lines)) (ap (λ (z : Key). has_line z (keys (set_for z t).lines)) (sym (same_is x y same)) ∙ slot_has x (set_for x t).lines k at) (missed y (set_for y t).lines none))
    differ x k at false other = refl
mark_flags c past y e b t after f (Some p) at_p = record {
  sound = record { once = f.sound.once; room = λ k some. let m = f.sound.room k some in let n = length-set t.dirty slot b in omega (arith, m, n) };
  flags = λ x k at. by x k at (same_key x y) refl;
}
  where
    slot : ℕ
    slot = (line_at (set_for y t).lines p).slot

    here : slot_in y (set_for y t).lines ≡ Some slot
    here = found_slot y (set_for y t).lines p at_p

    by : (x : Key) (k : ℕ) → slot_in x (set_for x t).lines ≡ Some k → (d : Bool) → same_key x y ≡ d → get_or (set t.dirty slot b) k false ≡ is_dirty c (past ++ e ∷ []) x
    by x k at true same =
        let k_is : slot ≡ k = same_slot slot k (sym here ∙ ap (λ (z : Key). slot_in z (set_for z t).lines) (sym (same_is x y same)) ∙ at) in
        ap (λ (j : ℕ). get_or (set t.dirty slot b) j false) (sym k_is)
        ∙ get_or-set_same t.dirty slot b false (below t y slot f.sound here)
        ∙ sym (dirty-last c [] x past e false ∙ after x (is_dirty c past x) ∙ cond-true (same_key x y) b (is_dirty c past x) same)
    by x k at false other =
        get_or-set_other t.dirty slot k b false (apart t x y k slot f.sound other at here)
        ∙ f.flags x k at
        ∙ sym (dirty-last c [] x past e false ∙ after x (is_dirty c past x) ∙ cond-false (same_key x y) b (is_dirty c past x) other)

-- THE WHOLE PAST

one_more : (c : Size) (past : List Past) (e : Past) → 0 < c.sets → 0 < c.ways → Flagged c past (lists_after c past) → Flagged c (past ++ e ∷ []) (after_past e (lists_after c past))
one_more c past (Touched y) some ways f = touch_flags c past y (lists_after c past) some ways (follows c past some ways) f (presence c past y some ways) (place_of (pid_of y) (line_of y) (lists_after c past)) refl
one_more c past (Removed y) some ways f = removal_flags c past y (lists_after c past) some (follows c past some ways) f (place_of (pid_of y) (line_of y) (lists_after c past)) refl
one_more c past (Stored y) some ways f = mark_flags c past y (Stored y) true (lists_after c past) (λ x d. refl) f (place_of (pid_of y) (line_of y) (lists_after c past)) refl
one_more c past (Cleaned y) some ways f = mark_flags c past y (Cleaned y) false (lists_after c past) (λ x d. refl) f (place_of (pid_of y) (line_of y) (lists_after c past)) refl

goes_on : (c : Size) (before past : List Past) → 0 < c.sets → 0 < c.ways → Flagged c before (lists_after c before) → Flagged c (before ++ past) (lists_after c (before ++ past))
goes_on c before [] some ways f = subst (λ (p : List Past). Flagged c p (lists_after c p)) (sym (append-nil before)) f
goes_on c before (e ∷ past) some ways f =
    subst (λ (p : List Past). Flagged c p (lists_after c p)) (append_assoc before (e ∷ []) past)
    (goes_on c (before ++ e ∷ []) past some ways (subst (Flagged c (before ++ e ∷ [])) (sym (along-last before e (no_lines c.sets c.ways))) (one_more c before e some ways f)))

at_first : (c : Size) → Flagged c [] (no_lines c.sets c.ways)
at_first c = record {
  sound = record {
    once = λ k. (in_empty_sets k c.ways c.sets 0).0;
    room = λ k some. let m = ((in_empty_sets k c.ways c.sets 0).1 some).1 in let n = length-replicate (c.sets * c.ways) false in omega (arith, m, n);
  };
  flags = λ x k at. absurd (none k (sym (ap (slot_in x) (empty_lines c.ways c.sets 0 (x.number % length (empty_sets c.sets c.ways 0)))) ∙ at));
}
  where
    none : (k : ℕ) → ◌≡◌ {A = Option ℕ} None (Some k) → ⊥
    none k e = cc e

pub flagged : (c : Size) (past : List Past) → 0 < c.sets → 0 < c.ways → Flagged c past (lists_after c past)
flagged c past some ways = goes_on c [] past some ways (at_first c)
