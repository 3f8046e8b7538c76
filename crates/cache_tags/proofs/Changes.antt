-- What a touch and a removal make of a line's set.
use Rattle.std.proofs.Common.{◌≡◌, ◌+◌, ◌%◌, ◌<◌, ◌≤◌, ◌&&◌, ◌||◌, ◌++◌, [], ◌∷◌, ◌∙◌, ℕ, Bool, List, Some, ap, arith, false, length, length-append, not, refl, subst, suc, sym, true}
use Rattle.std.proofs.lemmas.List.{length-map}
use Rattle.std.proofs.lemmas.List.Edits.{length-remove}
use Rattle.std.specs.List.{remove}
use Rattle.lego_base.specs.Keys.{Key, same_key}
use Rattle.cache_tags.proofs.Crowds.{Tied, removal, touch_full, touch_hit, touch_room, touched_itself}
use Rattle.cache_tags.proofs.Lines.{Distinct, distinct-front, distinct-without, has-append, has-without, same_is, same_self, same_turned}
use Rattle.cache_tags.proofs.Shown.{IsFound, key_there, keys, keys-remove, keys-split, split-oldest}
use Rattle.cache_tags.specs.CacheRule.{Past, Removed, Size, Touched, has_line, same_set, without_line}
use Rattle.cache_tags.specs.Following.{held_key, line_of, pid_of}
use Rattle.cache_tags.specs.Lists.{brought, coming_to, free_entry, oldest, released, younger}
use Rattle.cache_tags.specs.Sets.{SetLines}
use Rattle.cache_tags.specs.declared.set.Held.{Held}

-- what holds of the set of a line
pub record IsGood (c : Size) (x : Key) (s : SetLines) : Type 0 where
  pub ways : length s.lines + length s.free ≡ c.ways
  pub distinct : Distinct (keys s.lines)
  pub own : (z : Key) → has_line z (keys s.lines) ≡ true → z.number % c.sets ≡ x.number % c.sets

-- a set once a line of it was touched
pub record Takes (c : Size) (y : Key) (s new : SetLines) : Type 0 where
  pub good : IsGood c y new
  pub front : Tied c (keys new.lines) y (Some [])
  pub none : (x : Key) → same_key x y ≡ false → has_line x (keys s.lines) ≡ false → has_line x (keys new.lines) ≡ false
  pub others : (x : Key) (past : List Past) → same_set c x y ≡ true → same_key x y ≡ false → Tied c (keys s.lines) x (Some past) → Tied c (keys new.lines) x (Some (past ++ Touched y ∷ []))

-- and once a line of it was removed
pub record Drops (c : Size) (y : Key) (s new : SetLines) : Type 0 where
  pub good : IsGood c y new
  pub gone : has_line y (keys new.lines) ≡ false
  pub none : (x : Key) → same_key x y ≡ false → has_line x (keys s.lines) ≡ false → has_line x (keys new.lines) ≡ false
  pub others : (x : Key) (past : List Past) → same_key x y ≡ false → Tied c (keys s.lines) x (Some past) → Tied c (keys new.lines) x (Some (past ++ Removed y ∷ []))

-- MEMBERS of a list with a new front

front_own : (c : Size) (y z : Key) (lines : List Key) → ((z : Key) → has_line z lines ≡ true → z.number % c.sets ≡ y.number % c.sets) → has_line z (y ∷ lines) ≡ true → z.number % c.sets ≡ y.number % c.sets
front_own c y z lines own e = by (same_key y z) refl e
  where
    by : (b : Bool) → same_key y z ≡ b → (b || has_line z lines) ≡ true → z.number % c.sets ≡ y.number % c.sets
    by true at e = ap (λ (k : Key). k.number % c.sets) (sym (same_is y z at))
    by false at e = own z e

front_none : (x y : Key) (lines : List Key) → same_key x y ≡ false → has_line x lines ≡ false → has_line x (y ∷ lines) ≡ false
front_none x y lines other e = λ i. (same_turned y x ∙ other) i || e i

without_own : (z y : Key) (lines : List Key) → has_line z (without_line y lines) ≡ true → has_line z lines ≡ true
without_own z y lines e = second (not (same_key y z)) (has_line z lines) (sym (has-without z y lines) ∙ e)
  where
    second : (a b : Bool) → (a && b) ≡ true → b ≡ true
    second true b e = e
    second false b e = cc e

without_none : (x y : Key) (lines : List Key) → has_line x lines ≡ false → has_line x (without_line y lines) ≡ false
without_none x y lines e = has-without x y lines ∙ none (not (same_key y x)) (has_line x lines) e
  where
    none : (a b : Bool) → b ≡ false → (a && b) ≡ false
    none true b e = e
    none false b e = refl

without_itself : (y : Key) (lines : List Key) → has_line y (without_line y lines) ≡ false
without_itself y lines = has-without y y lines ∙ (λ i. not (same_self y i) && has_line y lines)

pub long : (lines : List Held) → length (keys lines) ≡ length lines
long lines = length-map lines held_key

-- the same said of keys that are equal
taken : (c : Size) (y : Key) (s new : SetLines) (left : List Key) → keys new.lines ≡ y ∷ left → length new.lines + length new.free ≡ c.ways → Distinct (y ∷ left) → ((z : Key) → has_line z left ≡ true → z.number % c.sets ≡ y.number % c.sets) → 0 < c.ways
    → ((x : Key) → same_key x y ≡ false → has_line x (keys s.lines) ≡ false → has_line x left ≡ false)
    → ((x : Key) (past : List Past) → same_set c x y ≡ true → same_key x y ≡ false → Tied c (keys s.lines) x (Some past) → Tied c (y ∷ left) x (Some (past ++ Touched y ∷ [])))
    → Takes c y s new
taken c y s new left is ways distinct own some none others = record {
  good = record {
    ways = ways;
    distinct = subst Distinct (sym is) distinct;
    own = λ z e. front_own c y z left own (ap (has_line z) (sym is) ∙ e);
  };
  front = subst (λ (ks : List Key). Tied c ks y (Some [])) (sym is) (touched_itself c y left some);
  none = λ x other e. ap (has_line x) is ∙ front_none x y left other (none x other e);
  others = λ x past set other tied. subst (λ (ks : List Key). Tied c ks x (Some (past ++ Touched y ∷ []))) (sym is) (others x past set other tied);
}

pub hit_takes : (c : Size) (y : Key) (s : SetLines) (p : ℕ) → IsGood c y s → 0 < c.ways → IsFound y s.lines p → Takes c y s (brought p s)
hit_takes c y s p good some f =
    let is : keys (brought p s).lines ≡ y ∷ without_line y (keys s.lines) = (λ i. key_there y s.lines p f.is i ∷ keys-remove y s.lines p (free_entry 0) good.distinct f.within f.is i) in
    let ways : length (brought p s).lines + length s.free ≡ c.ways = (let m = length-remove s.lines p f.within in let w = good.ways in omega (arith, m, w)) in
    let distinct : Distinct (y ∷ without_line y (keys s.lines)) = (without_itself y (keys s.lines), distinct-without y (keys s.lines) good.distinct) in
    let short : length (y ∷ without_line y (keys s.lines)) ≤ c.ways = (let n = ap length is in let m = long (brought p s).lines in omega (arith, n, m, ways)) in
    taken c y s (brought p s) (without_line y (keys s.lines)) is ways distinct (λ z e. good.own z (without_own z y (keys s.lines) e)) some
    (λ x other e. without_none x y (keys s.lines) e)
    (λ x past set other tied. touch_hit c x y past (keys s.lines) set other short distinct tied)

pub miss_takes : (c : Size) (y : Key) (lines : List Held) (free : List ℕ) → IsGood c y (record { lines = lines; free = free }) → 0 < c.ways → has_line y (keys lines) ≡ false → Takes c y (record { lines = lines; free = free }) (coming_to (pid_of y) (line_of y) free lines).set
miss_takes c y lines (slot ∷ free) good some absent =
    let ways : suc (length lines) + length free ≡ c.ways = (let w = good.ways in omega (arith, w)) in
    let short : length (y ∷ keys lines) ≤ c.ways = (let n = long lines in omega (arith, n, ways)) in
    taken c y (record { lines = lines; free = slot ∷ free }) _ (keys lines) refl ways (absent, good.distinct) good.own some
    (λ x other e. e)
    (λ x past set other tied. touch_room c x y past (keys lines) set other short (absent, good.distinct) tied)
miss_takes c y [] [] good some absent = absurd (let w = good.ways in omega (arith, w, some))
miss_takes c y (h ∷ lines) [] good some absent =
    let left : List Key = keys (younger h lines) in
    let v : Key = held_key (oldest h lines) in
    let split : keys (h ∷ lines) ≡ left ++ v ∷ [] = keys-split h lines in
    let distinct : Distinct (left ++ v ∷ []) = subst Distinct split good.distinct in
    let y_left : has_line y left ≡ false = first (has_line y left) (has_line y (v ∷ [])) (sym (has-append y left (v ∷ [])) ∙ ap (has_line y) (sym split) ∙ absent) in
    let n : length left ≡ length (younger h lines) = long (younger h lines) in
    let m : suc (length lines) ≡ length (younger h lines) + 1 = ap length (split-oldest h lines) ∙ length-append (younger h lines) (oldest h lines ∷ []) in
    let ways : suc (length (younger h lines)) + 0 ≡ c.ways = (let w = good.ways in omega (arith, w, m)) in
    let full : length (left ++ v ∷ []) ≡ c.ways = (let k = length-append left (v ∷ []) in omega (arith, k, n, ways)) in
    taken c y (record { lines = h ∷ lines; free = [] }) _ left refl ways (y_left, distinct-front left (v ∷ []) distinct)
    (λ z e. good.own z (ap (has_line z) split ∙ has-append z left (v ∷ []) ∙ any (has_line z left) (has_line z (v ∷ [])) e)) some
    (λ x other e. first (has_line x left) (has_line x (v ∷ [])) (sym (has-append x left (v ∷ [])) ∙ ap (has_line x) (sym split) ∙ e))
    (λ x past set other tied. touch_full c x y v past left set other full distinct (ap (has_line y) (sym split) ∙ absent) (subst (λ (ks : List Key). Tied c ks x (Some past)) split tied))
  where
    first : (a b : Bool) → (a || b) ≡ false → a ≡ false
    first true b e = cc e
    first false b e = refl

    any : (a b : Bool) → a ≡ true → (a || b) ≡ true
    any true b e = refl
    any false b e = cc e

pub found_drops : (c : Size) (y : Key) (s : SetLines) (p : ℕ) → IsGood c y s → IsFound y s.lines p → Drops c y s (released p s)
found_drops c y s p good f =
    let is : keys (remove s.lines p) ≡ without_line y (keys s.lines) = keys-remove y s.lines p (free_entry 0) good.distinct f.within f.is in
    let ways : length (remove s.lines p) + suc (length s.free) ≡ c.ways = (let m = length-remove s.lines p f.within in let w = good.ways in omega (arith, m, w)) in
    let short : length (without_line y (keys s.lines)) ≤ c.ways = (let n = ap length is in let m = long (remove s.lines p) in omega (arith, n, m, ways)) in
    let distinct : Distinct (without_line y (keys s.lines)) = distinct-without y (keys s.lines) good.distinct in
    record {
      good = record {
        ways = ways;
        distinct = subst Distinct (sym is) distinct;
        own = λ z e. good.own z (without_own z y (keys s.lines) (ap (has_line z) (sym is) ∙ e));
      };
      gone = ap (has_line y) is ∙ without_itself y (keys s.lines);
      none = λ x other e. ap (has_line x) is ∙ without_none x y (keys s.lines) e;
      others = λ x past other tied. subst (λ (ks : List Key). Tied c ks x (Some (past ++ Removed y ∷ []))) (sym is) (removal c x y past (keys s.lines) other short distinct tied);
    }
