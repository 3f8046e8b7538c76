-- The lists follow the rule: a line is in its set's list just where it is there by the whole past.
use Rattle.std.proofs.Common.{◌≡◌, ◌+◌, ◌%◌, ◌<◌, ◌≤◌, ◌&&◌, ◌++◌, [], ◌∷◌, ◌∙◌, ℕ, Bool, List, None, Option, Some, ap, arith, cond, false, get_or, inl, inr, length, not, refl, set, subst, suc, sym, true, zero}
use Rattle.std.proofs.lemmas.Bool.{cases_eq, cond-false, eq-eqb, ne_eqb}
use Rattle.std.proofs.lemmas.List.{get_or-set_other, get_or-set_same, length-set}
use native.Mathlib.Nat.{mod-lt}
use Rattle.std.specs.List.{position, range_with_len}
use Rattle.lego_base.specs.Keys.{Key, same_key}
use Rattle.cache_tags.proofs.Changes.{Drops, IsGood, Takes, found_drops, hit_takes, long, miss_takes}
use Rattle.cache_tags.proofs.Crowds.{Tied, crowd_along, tied-presence, unchanged}
use Rattle.cache_tags.proofs.Made.{length-empty_sets}
use Rattle.cache_tags.proofs.Lines.{before, before-in, clash, same_is, without-absent}
use Rattle.cache_tags.proofs.Shown.{found, is_of, keys, missed}
use Rattle.cache_tags.specs.CacheRule.{Cleaned, Past, Removed, Size, Stored, Touched, crowd_after, has_line, is_there, same_set, since_after, since_touch, with_new}
use Rattle.cache_tags.specs.Following.{after_past, along, line_of, lists_after, marked_where, pid_of, slot_for}
use Rattle.cache_tags.specs.Lists.{brought, coming, empty_set, released}
use Rattle.cache_tags.specs.Sets.{SetLines, Tagged}
use Rattle.cache_tags.specs.declared.set.Held.{Held}
use Rattle.cache_tags.specs.Tags.{after_removal, after_touch, empty_sets, no_lines, place_of, set_of}

abbrev pub set_for : Key → Tagged → SetLines
set_for x t = set_of (line_of x) t

pub record Follows (c : Size) (t : Tagged) (so : Key → Option (List Past)) : Type 0 where
  pub count : length t.sets ≡ c.sets
  pub good : (x : Key) → IsGood c x (set_for x t)
  pub tied : (x : Key) → Tied c (keys (set_for x t).lines) x (so x)

-- A SET CHANGES

pub at_set : (c : Size) (t t' : Tagged) (x y : Key) (s : SetLines) → length t.sets ≡ c.sets → 0 < c.sets → t'.sets ≡ set t.sets (y.number % length t.sets) s → x.number % c.sets ≡ y.number % c.sets → set_for x t' ≡ s
at_set c t t' x y s count some e near =
    let n : length t'.sets ≡ length t.sets = ap (λ (ss : List SetLines). length ss) e ∙ length-set t.sets (y.number % length t.sets) s in
    let same : x.number % length t'.sets ≡ y.number % length t.sets = ap (λ (k : ℕ). x.number % k) (n ∙ count) ∙ near ∙ ap (λ (k : ℕ). y.number % k) (sym count) in
    let less : y.number % length t.sets < length t.sets = mod-lt y.number (let p : 0 < length t.sets = omega (arith, count, some) in p) in
    (λ i. get_or (e i) (same i) (empty_set 0 0)) ∙ get_or-set_same t.sets (y.number % length t.sets) s (empty_set 0 0) less

pub off_set : (c : Size) (t t' : Tagged) (x y : Key) (s : SetLines) → length t.sets ≡ c.sets → t'.sets ≡ set t.sets (y.number % length t.sets) s → (x.number % c.sets ≡ y.number % c.sets → ⊥) → set_for x t' ≡ set_for x t
off_set c t t' x y s count e far =
    let n : length t'.sets ≡ length t.sets = ap (λ (ss : List SetLines). length ss) e ∙ length-set t.sets (y.number % length t.sets) s in
    let differ : x.number % length t.sets ≡ y.number % length t.sets → ⊥ = (λ same. far (ap (λ (k : ℕ). x.number % k) (sym count) ∙ same ∙ ap (λ (k : ℕ). y.number % k) count)) in
    (λ i. get_or (e i) (x.number % n i) (empty_set 0 0)) ∙ get_or-set_other t.sets (y.number % length t.sets) (x.number % length t.sets) s (empty_set 0 0) differ

pub same_set_for : (c : Size) (t : Tagged) (x y : Key) → length t.sets ≡ c.sets → x.number % c.sets ≡ y.number % c.sets → set_for y t ≡ set_for x t
same_set_for c t x y count near = ap (λ (k : ℕ). get_or t.sets k (empty_set 0 0)) (ap (λ (k : ℕ). y.number % k) count ∙ sym near ∙ ap (λ (k : ℕ). x.number % k) (sym count))

good_for : (c : Size) (x y : Key) (s : SetLines) → x.number % c.sets ≡ y.number % c.sets → IsGood c y s → IsGood c x s
good_for c x y s near good = record { ways = good.ways; distinct = good.distinct; own = λ z e. good.own z e ∙ sym near }

step : (c : Size) (t t' : Tagged) (y : Key) (s : SetLines) (so later : Key → Option (List Past)) → Follows c t so → 0 < c.sets → t'.sets ≡ set t.sets (y.number % length t.sets) s → IsGood c y s
    → ((x : Key) → x.number % c.sets ≡ y.number % c.sets → Tied c (keys (set_for y t).lines) x (so x) → Tied c (keys s.lines) x (later x))
    → ((x : Key) → (x.number % c.sets ≡ y.number % c.sets → ⊥) → Tied c (keys (set_for x t).lines) x (so x) → Tied c (keys (set_for x t).lines) x (later x))
    → Follows c t' later
step c t t' y s so later follows some e good near far = record {
  count = ap (λ (ss : List SetLines). length ss) e ∙ length-set t.sets (y.number % length t.sets) s ∙ follows.count;
  good = λ x. elim (cases_eq (x.number % c.sets) (y.number % c.sets)) [
    | inl same ↦ subst (IsGood c x) (sym (at_set c t t' x y s follows.count some e same)) (good_for c x y s same good)
    | inr differ ↦ subst (IsGood c x) (sym (off_set c t t' x y s follows.count e differ)) (follows.good x)
  ];
  tied = λ x. elim (cases_eq (x.number % c.sets) (y.number % c.sets)) [
    | inl same ↦ subst (λ (r : SetLines). Tied c (keys r.lines) x (later x)) (sym (at_set c t t' x y s follows.count some e same)) (near x same (subst (λ (r : SetLines). Tied c (keys r.lines) x (so x)) (sym (same_set_for c t x y follows.count same)) (follows.tied x)))
    | inr differ ↦ subst (λ (r : SetLines). Tied c (keys r.lines) x (later x)) (sym (off_set c t t' x y s follows.count e differ)) (far x differ (follows.tied x))
  ];
}

-- WHAT CAME SINCE A TOUCH, after one more thing

later_touch : (c : Size) (x y : Key) (lines new : List Key) (so : Option (List Past)) → (same_key x y ≡ true → Tied c new x (Some [])) → (same_key x y ≡ false → has_line x lines ≡ false → has_line x new ≡ false) → ((past : List Past) → same_key x y ≡ false → Tied c lines x (Some past) → Tied c new x (Some (past ++ Touched y ∷ [])))
    → Tied c lines x so → Tied c new x (since_after x (Touched y) so)
later_touch c x y lines new None itself none others tied = by (same_key x y) refl
  where
    by : (b : Bool) → same_key x y ≡ b → Tied c new x (cond b (Some []) None)
    by true e = itself e
    by false e = none e tied
later_touch c x y lines new (Some past) itself none others tied = by (same_key x y) refl
  where
    by : (b : Bool) → same_key x y ≡ b → Tied c new x (cond b (Some []) (Some (past ++ Touched y ∷ [])))
    by true e = itself e
    by false e = others past e tied

later_removal : (c : Size) (x y : Key) (lines new : List Key) (so : Option (List Past)) → (same_key x y ≡ true → has_line x new ≡ false) → (same_key x y ≡ false → has_line x lines ≡ false → has_line x new ≡ false) → ((past : List Past) → same_key x y ≡ false → Tied c lines x (Some past) → Tied c new x (Some (past ++ Removed y ∷ [])))
    → Tied c lines x so → Tied c new x (since_after x (Removed y) so)
later_removal c x y lines new None itself none others tied = by (same_key x y) refl
  where
    by : (b : Bool) → same_key x y ≡ b → has_line x new ≡ false
    by true e = itself e
    by false e = none e tied
later_removal c x y lines new (Some past) itself none others tied = by (same_key x y) refl
  where
    by : (b : Bool) → same_key x y ≡ b → Tied c new x (cond b None (Some (past ++ Removed y ∷ [])))
    by true e = itself e
    by false e = others past e tied

not_same_far : (c : Size) (x y : Key) → (x.number % c.sets ≡ y.number % c.sets → ⊥) → same_key x y ≡ false
not_same_far c x y far = by (same_key x y) refl
  where
    by : (b : Bool) → same_key x y ≡ b → b ≡ false
    by true e = absurd (far (ap (λ (k : Key). k.number % c.sets) (same_is x y e)))
    by false e = refl

short_set : (c : Size) (x : Key) (s : SetLines) → IsGood c x s → length (keys s.lines) ≤ c.ways
short_set c x s good = let n = long s.lines in let w = good.ways in omega (arith, n, w)

-- what happens in another set changes nothing
far_touch : (c : Size) (x y : Key) (s : SetLines) (so : Option (List Past)) → IsGood c x s → (x.number % c.sets ≡ y.number % c.sets → ⊥) → Tied c (keys s.lines) x so → Tied c (keys s.lines) x (since_after x (Touched y) so)
far_touch c x y s so good far tied =
    later_touch c x y (keys s.lines) (keys s.lines) so (λ e. absurd (clash (same_key x y) e (not_same_far c x y far))) (λ e none. none)
    (λ past e tied. unchanged c (keys s.lines) x past (Touched y) (short_set c x s good) good.distinct
    (λ here un. cond-false (same_set c x y && not (same_key x y)) (with_new y (crowd_along c x past [])) (crowd_along c x past []) (λ i. ne_eqb (x.number % c.sets) (y.number % c.sets) far i && not (same_key x y)))
    tied)
    tied

far_removal : (c : Size) (x y : Key) (s : SetLines) (so : Option (List Past)) → IsGood c x s → (x.number % c.sets ≡ y.number % c.sets → ⊥) → Tied c (keys s.lines) x so → Tied c (keys s.lines) x (since_after x (Removed y) so)
far_removal c x y s so good far tied =
    later_removal c x y (keys s.lines) (keys s.lines) so (λ e. absurd (clash (same_key x y) e (not_same_far c x y far))) (λ e none. none)
    (λ past e tied. unchanged c (keys s.lines) x past (Removed y) (short_set c x s good) good.distinct
    (λ here un. without-absent y (crowd_along c x past []) (un.members y ∙ absent))
    tied)
    tied
  where
    absent : has_line y (before x (keys s.lines)) ≡ false
    absent = by (has_line y (before x (keys s.lines))) refl
      where
        by : (b : Bool) → has_line y (before x (keys s.lines)) ≡ b → b ≡ false
        by true e = absurd (far (sym (good.own y (before-in y x (keys s.lines) e))))
        by false e = refl

-- STEPS

touch_step : (c : Size) (t t' : Tagged) (y : Key) (s : SetLines) (so : Key → Option (List Past)) → Follows c t so → 0 < c.sets → t'.sets ≡ set t.sets (y.number % length t.sets) s → Takes c y (set_for y t) s → Follows c t' (λ x. since_after x (Touched y) (so x))
touch_step c t t' y s so follows some e takes =
    step c t t' y s so (λ x. since_after x (Touched y) (so x)) follows some e takes.good
    (λ x near tied. later_touch c x y (keys (set_for y t).lines) (keys s.lines) (so x)
    (λ same. subst (λ (k : Key). Tied c (keys s.lines) k (Some [])) (sym (same_is x y same)) takes.front)
    (λ other none. takes.none x other none)
    (λ past other tied. takes.others x past (eq-eqb (x.number % c.sets) (y.number % c.sets) near) other tied) tied)
    (λ x far tied. far_touch c x y (set_for x t) (so x) (follows.good x) far tied)

touched_by : (c : Size) (t : Tagged) (y : Key) (so : Key → Option (List Past)) → Follows c t so → 0 < c.sets → 0 < c.ways → (o : Option ℕ) → position (is_of y) (set_for y t).lines ≡ o → Follows c (after_touch (pid_of y) (line_of y) t o) (λ x. since_after x (Touched y) (so x))
touched_by c t y so follows some ways (Some p) e = touch_step c t _ y (brought p (set_for y t)) so follows some refl (hit_takes c y (set_for y t) p (follows.good y) ways (found y (set_for y t).lines p e))
touched_by c t y so follows some ways None e = touch_step c t _ y (coming (pid_of y) (line_of y) (set_for y t)).set so follows some refl (miss_takes c y (set_for y t).lines (set_for y t).free (follows.good y) ways (missed y (set_for y t).lines e))

drop_step : (c : Size) (t t' : Tagged) (y : Key) (s : SetLines) (so : Key → Option (List Past)) → Follows c t so → 0 < c.sets → t'.sets ≡ set t.sets (y.number % length t.sets) s → Drops c y (set_for y t) s → Follows c t' (λ x. since_after x (Removed y) (so x))
drop_step c t t' y s so follows some e drops =
    step c t t' y s so (λ x. since_after x (Removed y) (so x)) follows some e drops.good
    (λ x near tied. later_removal c x y (keys (set_for y t).lines) (keys s.lines) (so x)
    (λ same. ap (λ (k : Key). has_line k (keys s.lines)) (same_is x y same) ∙ drops.gone)
    (λ other none. drops.none x other none)
    (λ past other tied. drops.others x past other tied) tied)
    (λ x far tied. far_removal c x y (set_for x t) (so x) (follows.good x) far tied)

-- a line that isn't there
absent_drop : (c : Size) (x y : Key) (s : SetLines) (so : Option (List Past)) → IsGood c x s → has_line y (keys s.lines) ≡ false → Tied c (keys s.lines) x so → Tied c (keys s.lines) x (since_after x (Removed y) so)
absent_drop c x y s so good gone tied =
    later_removal c x y (keys s.lines) (keys s.lines) so (λ e. ap (λ (k : Key). has_line k (keys s.lines)) (same_is x y e) ∙ gone) (λ e none. none)
    (λ past e tied. unchanged c (keys s.lines) x past (Removed y) (short_set c x s good) good.distinct
    (λ here un. without-absent y (crowd_along c x past []) (un.members y ∙ absent))
    tied)
    tied
  where
    absent : has_line y (before x (keys s.lines)) ≡ false
    absent = by (has_line y (before x (keys s.lines))) refl
      where
        by : (b : Bool) → has_line y (before x (keys s.lines)) ≡ b → b ≡ false
        by true e = absurd (clash (has_line y (keys s.lines)) (before-in y x (keys s.lines) e) gone)
        by false e = refl

removed_by : (c : Size) (t : Tagged) (y : Key) (so : Key → Option (List Past)) → Follows c t so → 0 < c.sets → (o : Option ℕ) → position (is_of y) (set_for y t).lines ≡ o → Follows c (after_removal (line_of y) t o) (λ x. since_after x (Removed y) (so x))
removed_by c t y so follows some (Some p) e = drop_step c t _ y (released p (set_for y t)) so follows some refl (found_drops c y (set_for y t) p (follows.good y) (found y (set_for y t).lines p e))
removed_by c t y so follows some None e = record {
  count = follows.count;
  good = follows.good;
  tied = λ x. elim (cases_eq (x.number % c.sets) (y.number % c.sets)) [
    | inl near ↦ absent_drop c x y (set_for x t) (so x) (follows.good x) (ap (λ (s : SetLines). has_line y (keys s.lines)) (sym (same_set_for c t x y follows.count near)) ∙ missed y (set_for y t).lines e) (follows.tied x)
    | inr far ↦ far_removal c x y (set_for x t) (so x) (follows.good x) far (follows.tied x)
  ];
}

-- marks change no list
mark_step : (c : Size) (t t' : Tagged) (e : Past) (so : Key → Option (List Past)) → ((x : Key) (crowd : List Key) → crowd_after c x e crowd ≡ crowd) → ((x : Key) (past : List Past) → since_after x e (Some past) ≡ Some (past ++ e ∷ [])) → ((x : Key) → since_after x e None ≡ None) → t'.sets ≡ t.sets → Follows c t so → Follows c t' (λ x. since_after x e (so x))
mark_step c t t' e so crowd later none same follows = record {
  count = ap (λ (ss : List SetLines). length ss) same ∙ follows.count;
  good = λ x. subst (IsGood c x) (sym (sets x)) (follows.good x);
  tied = λ x. subst (λ (s : SetLines). Tied c (keys s.lines) x (since_after x e (so x))) (sym (sets x)) (by x (so x) (follows.tied x));
}
  where
    sets : (x : Key) → set_for x t' ≡ set_for x t
    sets x = λ i. get_or (same i) (x.number % length (same i)) (empty_set 0 0)

    by : (x : Key) (o : Option (List Past)) → Tied c (keys (set_for x t).lines) x o → Tied c (keys (set_for x t).lines) x (since_after x e o)
    by x None tied = subst (Tied c (keys (set_for x t).lines) x) (sym (none x)) tied
    by x (Some past) tied = subst (Tied c (keys (set_for x t).lines) x) (sym (later x past)) (unchanged c (keys (set_for x t).lines) x past e (short_set c x (set_for x t) (follows.good x)) (follows.good x).distinct (λ here un. crowd x (crowd_along c x past [])) tied)

marked_sets : (dirty : Bool) (o : Option ℕ) (t : Tagged) → (marked_where dirty o t).sets ≡ t.sets
marked_sets dirty None t = refl
marked_sets dirty (Some slot) t = refl

one_more : (c : Size) (t : Tagged) (e : Past) (so : Key → Option (List Past)) → 0 < c.sets → 0 < c.ways → Follows c t so → Follows c (after_past e t) (λ x. since_after x e (so x))
one_more c t (Touched y) so some ways follows = touched_by c t y so follows some ways (place_of (pid_of y) (line_of y) t) refl
one_more c t (Removed y) so some ways follows = removed_by c t y so follows some (place_of (pid_of y) (line_of y) t) refl
one_more c t (Stored y) so some ways follows = mark_step c t _ (Stored y) so (λ x crowd. refl) (λ x past. refl) (λ x. refl) (marked_sets true (slot_for y t) t) follows
one_more c t (Cleaned y) so some ways follows = mark_step c t _ (Cleaned y) so (λ x crowd. refl) (λ x past. refl) (λ x. refl) (marked_sets false (slot_for y t) t) follows

-- THE WHOLE PAST

all_along : (c : Size) (past : List Past) (t : Tagged) (so : Key → Option (List Past)) → 0 < c.sets → 0 < c.ways → Follows c t so → Follows c (along past t) (λ x. since_touch x past (so x))
all_along c [] t so some ways follows = follows
all_along c (e ∷ past) t so some ways follows = all_along c past (after_past e t) (λ x. since_after x e (so x)) some ways (one_more c t e so some ways follows)

length_range : (first n : ℕ) → length (range_with_len first n) ≡ n
length_range first zero = refl
length_range first (suc n) = ap suc (length_range (first + 1) n)

empty_good : (c : Size) (x : Key) (n first i : ℕ) → i < n → IsGood c x (get_or (empty_sets n c.ways first) i (empty_set 0 0))
empty_good c x zero first i less = absurd (omega (arith, less))
empty_good c x (suc n) first zero less = record { ways = (let e = length_range first c.ways in omega (arith, e)); distinct = tt; own = λ z e. cc e }
empty_good c x (suc n) first (suc i) less = empty_good c x n (first + c.ways) i (omega (arith, less))

pub empty_lines : (ways n first i : ℕ) → (get_or (empty_sets n ways first) i (empty_set 0 0)).lines ≡ []
empty_lines ways zero first i = refl
empty_lines ways (suc n) first zero = refl
empty_lines ways (suc n) first (suc i) = empty_lines ways n (first + ways) i

at_first : (c : Size) → 0 < c.sets → Follows c (no_lines c.sets c.ways) (λ x. None)
at_first c some = record {
  count = length-empty_sets c.sets c.ways 0;
  good = λ x. empty_good c x c.sets 0 (x.number % length (empty_sets c.sets c.ways 0)) (subst (λ (n : ℕ). x.number % n < c.sets) (sym (length-empty_sets c.sets c.ways 0)) (mod-lt x.number some));
  tied = λ x. ap (λ (ls : List Held). has_line x (keys ls)) (empty_lines c.ways c.sets 0 (x.number % length (empty_sets c.sets c.ways 0)));
}

pub follows : (c : Size) (past : List Past) → 0 < c.sets → 0 < c.ways → Follows c (lists_after c past) (λ x. since_touch x past None)
follows c past some ways = all_along c past (no_lines c.sets c.ways) (λ x. None) some ways (at_first c some)

pub presence : (c : Size) (past : List Past) (x : Key) → 0 < c.sets → 0 < c.ways → has_line x (keys (set_for x (lists_after c past)).lines) ≡ is_there c past x
presence c past x some ways = let f = follows c past some ways in tied-presence c (keys (set_for x (lists_after c past)).lines) x (since_touch x past None) (f.tied x)
