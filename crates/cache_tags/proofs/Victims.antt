-- Hits and victims are those of the rule.
use Rattle.std.proofs.Common.{◌≡◌, ◌%◌, ◌<◌, ◌&&◌, ◌||◌, ◌++◌, [], ◌∷◌, ◌∙◌, ℕ, Bool, List, None, Option, Some, ap, cond, false, inl, inr, is_some, length, not, refl, set, subst, sym, true}
use Rattle.std.proofs.lemmas.Bool.{cases_eq, cond-false}
use Rattle.std.specs.List.{position}
use Rattle.lego_base.specs.Keys.{Key, same_key}
use Rattle.cache_tags.proofs.Changes.{IsGood}
use Rattle.cache_tags.proofs.Follows.{Follows, follows, off_set, presence, set_for, at_set, same_set_for}
use Rattle.cache_tags.proofs.Lines.{Distinct, clash, has-append, has-new, has-without, last-absent, same_is, same_self, same_turned}
use Rattle.cache_tags.proofs.Shown.{found, is_of, key_there, keys, keys-remove, keys-split, missed}
use Rattle.cache_tags.specs.CacheRule.{Cleaned, Past, Removed, Size, Stored, Touched, has_line, is_hit, is_there, is_uncrowded, leaving, since_after, since_touch, touched_lines, victim, with_new, without_line}
use Rattle.cache_tags.specs.Following.{after_past, along, held_key, is_hit_answer, line_of, lists_after, pid_of, slot_for, touch_for, victim_in, victim_key}
use Rattle.cache_tags.specs.Lists.{brought, coming, coming_to, free_entry, oldest, younger}
use Rattle.cache_tags.specs.Sets.{SetLines, Tagged}
use Rattle.cache_tags.specs.Tags.{after_touch, answer_to_touch, no_lines, place_of, slot_at, victim_of}
use Rattle.cache_tags.specs.declared.set.Held.{Held}

-- PRESENCE, by the slot

slot_is : (x : Key) (lines : List Held) (o : Option ℕ) → position (is_of x) lines ≡ o → is_some (slot_at lines o) ≡ has_line x (keys lines)
slot_is x lines (Some p) e = let f = found x lines p e in sym f.has
slot_is x lines None e = sym (missed x lines e)

pub slot_presence : (c : Size) (past : List Past) (x : Key) → 0 < c.sets → 0 < c.ways → is_some (slot_for x (lists_after c past)) ≡ is_there c past x
slot_presence c past x some ways = slot_is x (set_for x (lists_after c past)).lines (place_of (pid_of x) (line_of x) (lists_after c past)) refl ∙ presence c past x some ways

-- ONE MORE TOUCH

pub along-last : (past : List Past) (e : Past) (t : Tagged) → along (past ++ e ∷ []) t ≡ after_past e (along past t)
along-last [] e t = refl
along-last (f ∷ past) e t = along-last past e (after_past f t)

-- WHO LEAVES

none_leaves : (c : Size) (past : List Past) (x : Key) (lines : List Key) → ((y : Key) → is_there c past y ≡ true → is_there c (past ++ Touched x ∷ []) y ≡ true) → leaving c past x lines ≡ None
none_leaves c past x [] stay = refl
none_leaves c past x (y ∷ lines) stay = cond-false (is_there c past y && not (is_there c (past ++ Touched x ∷ []) y)) (Some y) (leaving c past x lines) (by (is_there c past y) refl) ∙ none_leaves c past x lines stay
  where
    by : (b : Bool) → is_there c past y ≡ b → (b && not (is_there c (past ++ Touched x ∷ []) y)) ≡ false
    by true e = ap not (stay y e)
    by false e = refl

one_leaves : (c : Size) (past : List Past) (x v : Key) (lines : List Key) → is_there c past v ≡ true → is_there c (past ++ Touched x ∷ []) v ≡ false → ((y : Key) → is_there c past y ≡ true → is_there c (past ++ Touched x ∷ []) y ≡ false → y ≡ v) → has_line v lines ≡ true → leaving c past x lines ≡ Some v
one_leaves c past x v [] here away only listed = cc listed
one_leaves c past x v (y ∷ lines) here away only listed = by (is_there c past y) refl (is_there c (past ++ Touched x ∷ []) y) refl (one_leaves c past x v lines here away only)
  where
    later : (b : Bool) → same_key y v ≡ b → (b || has_line v lines) ≡ true → (same_key y v ≡ true → ⊥) → has_line v lines ≡ true
    later true e f no_ = absurd (no_ e)
    later false e f no_ = f

    by : (b : Bool) → is_there c past y ≡ b → (d : Bool) → is_there c (past ++ Touched x ∷ []) y ≡ d → (has_line v lines ≡ true → leaving c past x lines ≡ Some v) → cond (b && not d) (Some y) (leaving c past x lines) ≡ Some v
    by true e false f rest = ap Some (only y e f)
    by true e true f rest = rest (later (same_key y v) refl listed (λ at. clash (is_there c (past ++ Touched x ∷ []) y) f (ap (is_there c (past ++ Touched x ∷ [])) (same_is y v at) ∙ away)))
    by false e d f rest = rest (later (same_key y v) refl listed (λ at. clash (is_there c past y) (ap (is_there c past) (same_is y v at) ∙ here) e))

no_end : false ≡ true → ⊥
no_end e = cc e

-- what is there was touched
was_touched : (v : Key) (past : List Past) (lines : List Key) (so : Option (List Past)) → (is_some so ≡ true → has_line v lines ≡ true) → is_some (since_touch v past so) ≡ true → has_line v (touched_lines past lines) ≡ true
was_touched v [] lines so listed some = listed some
was_touched v (Touched y ∷ past) lines so listed some = was_touched v past (with_new y lines) (since_after v (Touched y) so) (λ e. has-new v y lines ∙ by so (same_key v y) refl listed e) some
  where
    left : (a b : Bool) → a ≡ true → (a || b) ≡ true
    left true b e = refl
    left false b e = cc e

    right : (a b : Bool) → b ≡ true → (a || b) ≡ true
    right true b e = refl
    right false b e = e

    by : (o : Option (List Past)) (b : Bool) → same_key v y ≡ b → (is_some o ≡ true → has_line v lines ≡ true) → is_some (since_after v (Touched y) o) ≡ true → (same_key y v || has_line v lines) ≡ true
    by o true e listed some = left (same_key y v) (has_line v lines) (same_turned y v ∙ e)
    by None false e listed some = absurd (no_end (sym (ap is_some (cond-false (same_key v y) (Some []) None e)) ∙ some))
    by (Some past) false e listed some = right (same_key y v) (has_line v lines) (listed refl)
was_touched v (Removed y ∷ past) lines so listed some = was_touched v past lines (since_after v (Removed y) so) (λ e. listed (by so (same_key v y) refl e)) some
  where
    by : (o : Option (List Past)) (b : Bool) → same_key v y ≡ b → is_some (since_after v (Removed y) o) ≡ true → is_some o ≡ true
    by None b e some = some
    by (Some past) b e some = refl
was_touched v (Stored y ∷ past) lines None listed some = was_touched v past lines None listed some
was_touched v (Stored y ∷ past) lines (Some w) listed some = was_touched v past lines (Some (w ++ Stored y ∷ [])) listed some
was_touched v (Cleaned y ∷ past) lines None listed some = was_touched v past lines None listed some
was_touched v (Cleaned y ∷ past) lines (Some w) listed some = was_touched v past lines (Some (w ++ Cleaned y ∷ [])) listed some

there_touched : (c : Size) (past : List Past) (v : Key) → is_there c past v ≡ true → has_line v (touched_lines past []) ≡ true
there_touched c past v e = was_touched v past [] None (λ f. cc f) (by (since_touch v past None) refl)
  where
    by : (o : Option (List Past)) → since_touch v past None ≡ o → is_some o ≡ true
    by (Some w) f = refl
    by None f = absurd (clash (is_there c past v) e (ap (λ (o : Option (List Past)). is_uncrowded c v o) f))

-- the set of a line once another line was touched
record Leaves (c : Size) (x : Key) (t t' : Tagged) (left : Option Key) : Type 0 where
  stay : (y : Key) → has_line y (keys (set_for y t).lines) ≡ true → ((v : Key) → left ≡ Some v → y ≡ v → ⊥) → has_line y (keys (set_for y t').lines) ≡ true
  leave : (v : Key) → left ≡ Some v → (has_line v (keys (set_for v t).lines) ≡ true) × (has_line v (keys (set_for v t').lines) ≡ false)

by_leaving : (c : Size) (past : List Past) (x : Key) → 0 < c.sets → 0 < c.ways → (left : Option Key) → Leaves c x (lists_after c past) (lists_after c (past ++ Touched x ∷ [])) left → left ≡ victim c past x
by_leaving c past x some ways None leaves = sym (none_leaves c past x (touched_lines past []) (λ y e. sym (presence c (past ++ Touched x ∷ []) y some ways) ∙ leaves.stay y (presence c past y some ways ∙ e) (λ v none. cc none)))
by_leaving c past x some ways (Some v) leaves =
    let here : is_there c past v ≡ true = sym (presence c past v some ways) ∙ (leaves.leave v refl).0 in
    let away : is_there c (past ++ Touched x ∷ []) v ≡ false = sym (presence c (past ++ Touched x ∷ []) v some ways) ∙ (leaves.leave v refl).1 in
    sym (one_leaves c past x v (touched_lines past []) here away only (there_touched c past v here))
  where
    only : (y : Key) → is_there c past y ≡ true → is_there c (past ++ Touched x ∷ []) y ≡ false → y ≡ v
    only y e f = by (same_key y v) refl
      where
        by : (b : Bool) → same_key y v ≡ b → y ≡ v
        by true at = same_is y v at
        by false other = absurd (clash (is_there c (past ++ Touched x ∷ []) y) (sym (presence c (past ++ Touched x ∷ []) y some ways) ∙ leaves.stay y (presence c past y some ways ∙ e) (λ w is same. differ w is same)) f)
          where
            differ : (w : Key) → Some v ≡ Some w → y ≡ w → ⊥
            differ w is same = clash (same_key y v) (ap (same_key y) (same_value v w is ∙ sym same) ∙ same_self y) other
              where
                same_value : (a b : Key) → Some a ≡ Some b → a ≡ b
                same_value a b e = cc e

-- the list of a line's set, before and after
record Local (lines new : List Key) (left : Option Key) : Type 0 where
  stay : (y : Key) → has_line y lines ≡ true → ((v : Key) → left ≡ Some v → y ≡ v → ⊥) → has_line y new ≡ true
  leave : (v : Key) → left ≡ Some v → (has_line v lines ≡ true) × (has_line v new ≡ false)

lift : (c : Size) (x : Key) (t t' : Tagged) (s : SetLines) (left : Option Key) → length t.sets ≡ c.sets → 0 < c.sets → IsGood c x (set_for x t) → t'.sets ≡ set t.sets (x.number % length t.sets) s → Local (keys (set_for x t).lines) (keys s.lines) left → Leaves c x t t' left
lift c x t t' s left count some good e local = record {
  stay = λ y here differ. elim (cases_eq (y.number % c.sets) (x.number % c.sets)) [
    | inl near ↦ ap (λ (r : SetLines). has_line y (keys r.lines)) (at_set c t t' y x s count some e near) ∙ local.stay y (ap (λ (r : SetLines). has_line y (keys r.lines)) (same_set_for c t y x count near) ∙ here) differ
    | inr far ↦ ap (λ (r : SetLines). has_line y (keys r.lines)) (off_set c t t' y x s count e far) ∙ here
  ];
  leave = λ v is.
      let both = local.leave v is in
      let near : v.number % c.sets ≡ x.number % c.sets = good.own v both.0 in
      (ap (λ (r : SetLines). has_line v (keys r.lines)) (sym (same_set_for c t v x count near)) ∙ both.0, ap (λ (r : SetLines). has_line v (keys r.lines)) (at_set c t t' v x s count some e near) ∙ both.1);
}

or_true : (a b : Bool) → b ≡ true → (a || b) ≡ true
or_true true b e = refl
or_true false b e = e

hit_local : (c : Size) (x : Key) (s : SetLines) (p : ℕ) → IsGood c x s → position (is_of x) s.lines ≡ Some p → Local (keys s.lines) (keys (brought p s).lines) None
hit_local c x s p good e =
    let f = found x s.lines p e in
    let is : keys (brought p s).lines ≡ x ∷ without_line x (keys s.lines) = (λ i. key_there x s.lines p f.is i ∷ keys-remove x s.lines p (free_entry 0) good.distinct f.within f.is i) in
    record {
      stay = λ y here differ. ap (has_line y) is ∙ ap (λ (b : Bool). same_key x y || b) (has-without y x (keys s.lines)) ∙ by (same_key x y) (has_line y (keys s.lines)) here;
      leave = λ v none. cc none;
    }
  where
    by : (a b : Bool) → b ≡ true → (a || (not a && b)) ≡ true
    by true b e = refl
    by false b e = e

miss_local : (c : Size) (x : Key) (t : Tagged) (lines : List Held) (free : List ℕ) → Distinct (keys lines) → has_line x (keys lines) ≡ false → Local (keys lines) (keys (coming_to (pid_of x) (line_of x) free lines).set.lines) (victim_key (victim_of t (coming_to (pid_of x) (line_of x) free lines).leaves))
miss_local c x t lines (slot ∷ free) distinct absent = record { stay = λ y here differ. or_true (same_key x y) (has_line y (keys lines)) here; leave = λ v none. cc none }
miss_local c x t [] [] distinct absent = record { stay = λ y here differ. here; leave = λ v none. cc none }
miss_local c x t (h ∷ lines) [] distinct absent =
    let left : List Key = keys (younger h lines) in
    let v : Key = held_key (oldest h lines) in
    let split : keys (h ∷ lines) ≡ left ++ v ∷ [] = keys-split h lines in
    let there : has_line v (keys (h ∷ lines)) ≡ true = ap (has_line v) split ∙ has-append v left (v ∷ []) ∙ or_true (has_line v left) (same_key v v || false) (λ i. same_self v i || false) in
    record {
      stay = λ y here differ. or_true (same_key x y) (has_line y left) (first (has_line y left) (same_key v y) (sym (has-append y left (v ∷ [])) ∙ ap (has_line y) (sym split) ∙ here) (λ at. differ v refl (sym (same_is v y at))));
      leave = λ w is. subst (λ (k : Key). (has_line k (keys (h ∷ lines)) ≡ true) × (has_line k (x ∷ left) ≡ false)) (same_value v w is)
          (there, λ i. none (same_key x v) refl there i || last-absent left v (subst Distinct split distinct) i);
    }
  where
    first : (a b : Bool) → (a || (b || false)) ≡ true → (b ≡ true → ⊥) → a ≡ true
    first true b e f = refl
    first false true e f = absurd (f refl)
    first false false e f = cc e

    same_value : (a b : Key) → Some a ≡ Some b → a ≡ b
    same_value a b e = cc e

    none : (b : Bool) → same_key x (held_key (oldest h lines)) ≡ b → has_line (held_key (oldest h lines)) (keys (h ∷ lines)) ≡ true → b ≡ false
    none true e there = absurd (clash (has_line x (keys (h ∷ lines))) (ap (λ (k : Key). has_line k (keys (h ∷ lines))) (same_is x (held_key (oldest h lines)) e) ∙ there) absent)
    none false e there = refl

leaves_by : (c : Size) (t : Tagged) (x : Key) (so : Key → Option (List Past)) → Follows c t so → 0 < c.sets → (o : Option ℕ) → position (is_of x) (set_for x t).lines ≡ o → Leaves c x t (after_touch (pid_of x) (line_of x) t o) (victim_in (answer_to_touch (pid_of x) (line_of x) t o))
leaves_by c t x so f some (Some p) e = lift c x t _ (brought p (set_for x t)) None f.count some (f.good x) refl (hit_local c x (set_for x t) p (f.good x) e)
leaves_by c t x so f some None e = lift c x t _ (coming (pid_of x) (line_of x) (set_for x t)).set _ f.count some (f.good x) refl (miss_local c x t (set_for x t).lines (set_for x t).free (f.good x).distinct (missed x (set_for x t).lines e))

hit_is : (x : Key) (t : Tagged) (o : Option ℕ) → position (is_of x) (set_for x t).lines ≡ o → is_hit_answer (answer_to_touch (pid_of x) (line_of x) t o) ≡ has_line x (keys (set_for x t).lines)
hit_is x t (Some p) e = let f = found x (set_for x t).lines p e in sym f.has
hit_is x t None e = sym (missed x (set_for x t).lines e)

-- presence, hits and victims
pub record TouchesFollow (c : Size) (past : List Past) (x : Key) : Type 0 where
  pub presence : is_some (slot_for x (lists_after c past)) ≡ is_there c past x
  pub hits : is_hit_answer (touch_for x (lists_after c past)) ≡ is_hit c past x
  pub victims : victim_in (touch_for x (lists_after c past)) ≡ victim c past x

pub touches-follow : (c : Size) (past : List Past) (x : Key) → 0 < c.sets → 0 < c.ways → TouchesFollow c past x
touches-follow c past x some ways =
    let t : Tagged = lists_after c past in
    let leaves : Leaves c x t (lists_after c (past ++ Touched x ∷ [])) (victim_in (touch_for x t)) =
    subst (λ (t' : Tagged). Leaves c x t t' (victim_in (touch_for x t))) (sym (along-last past (Touched x) (no_lines c.sets c.ways))) (leaves_by c t x (λ y. since_touch y past None) (follows c past some ways) some (place_of (pid_of x) (line_of x) t) refl) in
    record {
      presence = slot_presence c past x some ways;
      hits = hit_is x t (place_of (pid_of x) (line_of x) t) refl ∙ presence c past x some ways;
      victims = by_leaving c past x some ways (victim_in (touch_for x t)) leaves;
    }
