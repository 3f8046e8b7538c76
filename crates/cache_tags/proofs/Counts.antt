-- The lists follow the rule, counts included.
use Rattle.std.proofs.Common.{◌≡◌, ◌+◌, ◌%◌, ◌<◌, ◌||◌, ◌++◌, [], ◌∷◌, ◌∙◌, ℕ, Bool, List, None, Option, Some, ap, cond, false, refl, subst, sym, true}
use Rattle.std.proofs.lemmas.Bool.{cond-false, cond-true}
use Rattle.std.specs.List.{position}
use Rattle.lego_base.specs.Keys.{Key, same_key}
use Rattle.cache_tags.proofs.Flags.{Flagged, flagged}
use Rattle.cache_tags.proofs.Follows.{Follows, follows, same_set_for, set_for}
use Rattle.cache_tags.proofs.Lines.{Distinct, clash, has-append, same_is, same_self}
use Rattle.cache_tags.proofs.Shown.{is_of, keys, keys-split}
use Rattle.cache_tags.proofs.Slots.{found_slot, slot_in}
use Rattle.cache_tags.proofs.Victims.{along-last, touches-follow}
use Rattle.cache_tags.specs.CacheRule.{Cleaned, Past, Removed, Size, Stored, Tally, Touched, evicted, has_line, is_dirty, is_hit, no_tally, since_touch, tally_after, tally_along, victim}
use Rattle.cache_tags.specs.Following.{counted, counted_along, counted_touch, counted_victim, held_key, is_hit_answer, line_of, lists_after, pid_of, victim_in, victim_key}
use Rattle.cache_tags.specs.Laws.{ListsFollowTheRule}
use Rattle.cache_tags.specs.Lists.{coming, coming_to, oldest}
use Rattle.cache_tags.specs.Sets.{SetLines, Tagged}
use Rattle.cache_tags.specs.Tags.{answer_to_touch, is_dirty_slot, no_lines, place_of, slot_at, victim_of}
use Rattle.cache_tags.specs.declared.set.Held.{Held}

-- DIRTINESS of a line that is there

dirty_at : (c : Size) (past : List Past) (x : Key) (t : Tagged) → Flagged c past t → (o : Option ℕ) → position (is_of x) (set_for x t).lines ≡ o → (slot : ℕ) → slot_at (set_for x t).lines o ≡ Some slot → is_dirty_slot slot t ≡ is_dirty c past x
dirty_at c past x t f None e slot at = cc at
dirty_at c past x t f (Some p) e slot at = f.flags x slot (found_slot x (set_for x t).lines p e ∙ at)

-- and of a victim: the oldest of its set

oldest_in : (h : Held) (lines : List Held) → has_line (held_key (oldest h lines)) (keys (h ∷ lines)) ≡ true
oldest_in h lines = ap (has_line (held_key (oldest h lines))) (keys-split h lines) ∙ has-append (held_key (oldest h lines)) _ (held_key (oldest h lines) ∷ []) ∙ any _ (same_key (held_key (oldest h lines)) (held_key (oldest h lines)) || false) (λ i. same_self (held_key (oldest h lines)) i || false)
  where
    any : (a b : Bool) → b ≡ true → (a || b) ≡ true
    any true b e = refl
    any false b e = e

slot_oldest : (h : Held) (lines : List Held) → Distinct (keys (h ∷ lines)) → slot_in (held_key (oldest h lines)) (h ∷ lines) ≡ Some (oldest h lines).slot
slot_oldest h [] d = cond-true (same_key (held_key h) (held_key h)) (Some h.slot) None (same_self (held_key h))
slot_oldest h (g ∷ lines) d = cond-false (same_key (held_key h) (held_key (oldest g lines))) (Some h.slot) (slot_in (held_key (oldest g lines)) (g ∷ lines)) (differ (same_key (held_key h) (held_key (oldest g lines))) refl) ∙ slot_oldest g lines d.1
  where
    differ : (b : Bool) → same_key (held_key h) (held_key (oldest g lines)) ≡ b → b ≡ false
    differ true e = absurd (clash (has_line (held_key h) (keys (g ∷ lines))) (ap (λ (k : Key). has_line k (keys (g ∷ lines))) (same_is (held_key h) (held_key (oldest g lines)) e) ∙ oldest_in g lines) d.0)
    differ false e = refl

victim_flag : (c : Size) (past : List Past) (x : Key) (t : Tagged) (so : Key → Option (List Past)) → Follows c t so → Flagged c past t → (free : List ℕ) (lines : List Held) → (set_for x t).lines ≡ lines → (h : Held) → (coming_to (pid_of x) (line_of x) free lines).leaves ≡ Some h → is_dirty_slot h.slot t ≡ is_dirty c past (held_key h)
victim_flag c past x t so follows f (slot ∷ free) lines is h e = cc e
victim_flag c past x t so follows f [] [] is h e = cc e
victim_flag c past x t so follows f [] (g ∷ lines) is h e = subst (λ (v : Held). is_dirty_slot v.slot t ≡ is_dirty c past (held_key v)) (same_held (oldest g lines) h e) (f.flags v (oldest g lines).slot at)
  where
    same_held : (a b : Held) → Some a ≡ Some b → a ≡ b
    same_held a b e = cc e

    v : Key
    v = held_key (oldest g lines)

    near : v.number % c.sets ≡ x.number % c.sets
    near = (follows.good x).own v (ap (λ (ls : List Held). has_line v (keys ls)) is ∙ oldest_in g lines)

    at : slot_in v (set_for v t).lines ≡ Some (oldest g lines).slot
    at =
        sym (ap (λ (s : SetLines). slot_in v s.lines) (same_set_for c t v x follows.count near))
        ∙ ap (slot_in v) is
        ∙ slot_oldest g lines (subst (λ (ls : List Held). Distinct (keys ls)) is (follows.good x).distinct)

-- COUNTS

counted_by : (c : Size) (past : List Past) (x : Key) (n : Tally) → 0 < c.sets → 0 < c.ways → (o : Option ℕ) → place_of (pid_of x) (line_of x) (lists_after c past) ≡ o → counted_touch (answer_to_touch (pid_of x) (line_of x) (lists_after c past) o) n ≡ tally_after c past (Touched x) n
counted_by c past x n some ways (Some p) e =
    let t : Tagged = lists_after c past in
    let hit : is_hit c past x ≡ true = sym (touches-follow c past x some ways).hits ∙ ap (λ (o : Option ℕ). is_hit_answer (answer_to_touch (pid_of x) (line_of x) t o)) e in
    sym (cond-true (is_hit c past x) (record n { hits = n.hits + 1 }) (evicted c past (victim c past x) (record n { misses = n.misses + 1 })) hit)
counted_by c past x n some ways None e = by (coming (pid_of x) (line_of x) (set_for x (lists_after c past))).leaves refl
  where
    t : Tagged
    t = lists_after c past

    m : Tally
    m = record n { misses = n.misses + 1 }

    missed : is_hit c past x ≡ false
    missed = sym (touches-follow c past x some ways).hits ∙ ap (λ (o : Option ℕ). is_hit_answer (answer_to_touch (pid_of x) (line_of x) (lists_after c past) o)) e

    leaves : victim_in (answer_to_touch (pid_of x) (line_of x) (lists_after c past) None) ≡ victim c past x
    leaves = ap (λ (o : Option ℕ). victim_in (answer_to_touch (pid_of x) (line_of x) (lists_after c past) o)) (sym e) ∙ (touches-follow c past x some ways).victims

    whole : evicted c past (victim c past x) (record n { misses = n.misses + 1 }) ≡ tally_after c past (Touched x) n
    whole = sym (cond-false (is_hit c past x) (record n { hits = n.hits + 1 }) (evicted c past (victim c past x) (record n { misses = n.misses + 1 })) missed)

    by : (l : Option Held) → (coming (pid_of x) (line_of x) (set_for x (lists_after c past))).leaves ≡ l → counted_victim (victim_of (lists_after c past) (coming (pid_of x) (line_of x) (set_for x (lists_after c past))).leaves) (record n { misses = n.misses + 1 }) ≡ tally_after c past (Touched x) n
    by None is =
        ap (λ (l : Option Held). counted_victim (victim_of t l) m) is
        ∙ ap (λ (v : Option Key). evicted c past v m) (sym (ap (λ (l : Option Held). victim_key (victim_of t l)) is) ∙ leaves)
        ∙ whole
    by (Some h) is =
        ap (λ (l : Option Held). counted_victim (victim_of t l) m) is
        ∙ ap (λ (b : Bool). record m { evictions = m.evictions + 1; writebacks = cond b (m.writebacks + 1) m.writebacks }) (victim_flag c past x t (λ y. since_touch y past None) (follows c past some ways) (flagged c past some ways) (set_for x t).free (set_for x t).lines refl h is)
        ∙ ap (λ (v : Option Key). evicted c past v m) (sym (ap (λ (l : Option Held). victim_key (victim_of t l)) is) ∙ leaves)
        ∙ whole

counted_one : (c : Size) (past : List Past) (e : Past) (n : Tally) → 0 < c.sets → 0 < c.ways → counted e (lists_after c past) n ≡ tally_after c past e n
counted_one c past (Touched x) n some ways = counted_by c past x n some ways (place_of (pid_of x) (line_of x) (lists_after c past)) refl
counted_one c past (Removed x) n some ways = refl
counted_one c past (Stored x) n some ways = refl
counted_one c past (Cleaned x) n some ways = refl

counted_from : (c : Size) (before past : List Past) (n : Tally) → 0 < c.sets → 0 < c.ways → counted_along past (lists_after c before) n ≡ tally_along c before past n
counted_from c before [] n some ways = refl
counted_from c before (e ∷ past) n some ways =
    (λ i. counted_along past (sym (along-last before e (no_lines c.sets c.ways)) i) (counted_one c before e n some ways i))
    ∙ counted_from c (before ++ e ∷ []) past (tally_after c before e n) some ways

pub lists-follow : ListsFollowTheRule
lists-follow c past x some ways =
    let touches = touches-follow c past x some ways in
    record {
      presence = touches.presence;
      hits = touches.hits;
      victims = touches.victims;
      dirtiness = dirty_at c past x (lists_after c past) (flagged c past some ways) (place_of (pid_of x) (line_of x) (lists_after c past)) refl;
      counts = counted_from c [] past no_tally some ways;
    }
