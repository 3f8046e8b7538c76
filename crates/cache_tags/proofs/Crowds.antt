-- The crowd of a line that is there: the lines before it in its set's list.
use Rattle.std.proofs.Common.{◌≡◌, ◌⊎◌, ◌+◌, ◌<◌, ◌≤◌, ◌&&◌, ◌||◌, ◌++◌, [], ◌∷◌, ◌∙◌, Bool, List, None, Option, Some, ap, arith, false, inl, inr, leb, length, length-append, not, refl, suc, subst, sym, true}
use Rattle.std.proofs.lemmas.Bool.{cond-false, cond-true, le-leb, lt-leb}
use Rattle.lego_base.specs.Keys.{Key, same_key}
use Rattle.cache_tags.proofs.Lines.{Distinct, before, before-front, before-last, before-short, before-without, distinct-before, distinct-front, distinct-new, distinct-without, has-append, has-new, has-without, same-length, same_is, same_self, same_turned}
use Rattle.cache_tags.specs.CacheRule.{Past, Removed, Size, Touched, crowd_after, has_line, is_uncrowded, same_set, was_crowded, with_new, without_line}

abbrev pub crowd_along : Size → Key → List Past → List Key → List Key
crowd_along c x [] lines = lines
crowd_along c x (e ∷ past) lines = crowd_along c x past (crowd_after c x e lines)

crowd-last : (c : Size) (x : Key) (e : Past) (past : List Past) (lines : List Key) → crowd_along c x (past ++ e ∷ []) lines ≡ crowd_after c x e (crowd_along c x past lines)
crowd-last c x e [] lines = refl
crowd-last c x e (f ∷ past) lines = crowd-last c x e past (crowd_after c x f lines)

crowded-last : (c : Size) (x : Key) (e : Past) (past : List Past) (lines : List Key) → was_crowded c x (past ++ e ∷ []) lines ≡ (was_crowded c x past lines || leb c.ways (length (crowd_after c x e (crowd_along c x past lines))))
crowded-last c x e [] lines = refl
crowded-last c x e (f ∷ past) lines =
    ap (λ (b : Bool). leb c.ways (length lines) || b) (crowded-last c x e past (crowd_after c x f lines))
    ∙ grouped (leb c.ways (length lines)) (was_crowded c x past (crowd_after c x f lines)) (leb c.ways (length (crowd_after c x e (crowd_along c x past (crowd_after c x f lines)))))
  where
    grouped : (a b d : Bool) → (a || (b || d)) ≡ ((a || b) || d)
    grouped true b d = refl
    grouped false b d = refl

-- what holds of a line that is there, by what came since its touch: its crowd is what stands before it
pub record Uncrowded (c : Size) (lines : List Key) (x : Key) (past : List Past) : Type 0 where
  pub quiet : was_crowded c x past [] ≡ false
  pub distinct : Distinct (crowd_along c x past [])
  pub members : (z : Key) → has_line z (crowd_along c x past []) ≡ has_line z (before x lines)

-- a line's set lists it just where it is there by the rule
abbrev pub Tied : Size → List Key → Key → Option (List Past) → Type 0
Tied c lines x None = has_line x lines ≡ false
Tied c lines x (Some past) = ((has_line x lines ≡ true) × Uncrowded c lines x past) ⊎ ((has_line x lines ≡ false) × (was_crowded c x past [] ≡ true))

pub tied-presence : (c : Size) (lines : List Key) (x : Key) (so : Option (List Past)) → Tied c lines x so → has_line x lines ≡ is_uncrowded c x so
tied-presence c lines x None tied = tied
tied-presence c lines x (Some past) (inl here) = here.0 ∙ ap not (sym (here.1).quiet)
tied-presence c lines x (Some past) (inr away) = away.0 ∙ ap not (sym away.1)

-- ONE MORE THING HAPPENS

or_false : (a b : Bool) → a ≡ false → b ≡ false → (a || b) ≡ false
or_false true b e f = cc e
or_false false b e f = f

or_left : (a b : Bool) → a ≡ true → (a || b) ≡ true
or_left true b e = refl
or_left false b e = cc e

or_right : (a b : Bool) → b ≡ true → (a || b) ≡ true
or_right true b e = refl
or_right false b e = e

pub stays : (c : Size) (lines new : List Key) (x : Key) (past : List Past) (e : Past) → Uncrowded c lines x past → has_line x new ≡ true → length new ≤ c.ways → Distinct new
    → Distinct (crowd_after c x e (crowd_along c x past [])) → ((z : Key) → has_line z (crowd_after c x e (crowd_along c x past [])) ≡ has_line z (before x new))
    → Tied c new x (Some (past ++ e ∷ []))
stays c lines new x past e un here short d dc members =
    let crowd : List Key = crowd_after c x e (crowd_along c x past []) in
    let n : length crowd ≡ length (before x new) = same-length crowd (before x new) dc (distinct-before x new d) members in
    let less : length crowd < c.ways = (let m = before-short x new here in omega (arith, n, m, short)) in
    inl (
      here,
      record {
        quiet = crowded-last c x e past [] ∙ or_false (was_crowded c x past []) (leb c.ways (length crowd)) un.quiet (lt-leb c.ways (length crowd) less);
        distinct = subst Distinct (sym (crowd-last c x e past [])) dc;
        members = λ z. ap (has_line z) (crowd-last c x e past []) ∙ members z;
      },
    )

pub stays_away : (c : Size) (new : List Key) (x : Key) (past : List Past) (e : Past) → was_crowded c x past [] ≡ true → has_line x new ≡ false → Tied c new x (Some (past ++ e ∷ []))
stays_away c new x past e crowded away = inr (away, crowded-last c x e past [] ∙ or_left (was_crowded c x past []) (leb c.ways (length (crowd_after c x e (crowd_along c x past [])))) crowded)

pub goes_away : (c : Size) (new : List Key) (x : Key) (past : List Past) (e : Past) → c.ways ≤ length (crowd_after c x e (crowd_along c x past [])) → has_line x new ≡ false → Tied c new x (Some (past ++ e ∷ []))
goes_away c new x past e many away = inr (away, crowded-last c x e past [] ∙ or_right (was_crowded c x past []) (leb c.ways (length (crowd_after c x e (crowd_along c x past [])))) (le-leb c.ways (length (crowd_after c x e (crowd_along c x past []))) many))

-- what leaves the crowd as it is, and the list
pub unchanged : (c : Size) (lines : List Key) (x : Key) (past : List Past) (e : Past) → length lines ≤ c.ways → Distinct lines → (has_line x lines ≡ true → Uncrowded c lines x past → crowd_after c x e (crowd_along c x past []) ≡ crowd_along c x past [])
    → Tied c lines x (Some past) → Tied c lines x (Some (past ++ e ∷ []))
unchanged c lines x past e short d same (inl here) =
    let is = same here.0 here.1 in
    stays c lines lines x past e here.1 here.0 short d (subst Distinct (sym is) (here.1).distinct) (λ z. ap (has_line z) is ∙ (here.1).members z)
unchanged c lines x past e short d same (inr away) = stays_away c lines x past e away.1 away.0

-- TOUCHES

-- a line that was just touched has no crowd
pub touched_itself : (c : Size) (x : Key) (lines : List Key) → 0 < c.ways → Tied c (x ∷ lines) x (Some [])
touched_itself c x lines some =
    inl (
      ap (λ (b : Bool). b || has_line x lines) (same_self x),
      record {
        quiet = lt-leb c.ways 0 some;
        distinct = tt;
        members = λ z. ap (has_line z) (sym (cond-true (same_key x x) [] (x ∷ before x lines) (same_self x)));
      },
    )

crowd_touched : (c : Size) (x y : Key) (crowd : List Key) → same_set c x y ≡ true → same_key x y ≡ false → crowd_after c x (Touched y) crowd ≡ with_new y crowd
crowd_touched c x y crowd set other = cond-true (same_set c x y && not (same_key x y)) (with_new y crowd) crowd (λ i. set i && not (other i))

-- another line of the set comes to the front
front_has : (x y : Key) (lines : List Key) → same_key x y ≡ false → has_line x (y ∷ lines) ≡ has_line x lines
front_has x y lines other = ap (λ (b : Bool). b || has_line x lines) (same_turned y x ∙ other)

front_before : (x y : Key) (lines : List Key) → same_key x y ≡ false → before x (y ∷ lines) ≡ y ∷ before x lines
front_before x y lines other = cond-false (same_key y x) [] (y ∷ before x lines) (same_turned y x ∙ other)

pub touch_stays : (c : Size) (x y : Key) (past : List Past) (lines left : List Key) → same_set c x y ≡ true → same_key x y ≡ false → Uncrowded c lines x past → has_line x left ≡ true → length (y ∷ left) ≤ c.ways → Distinct (y ∷ left)
    → ((z : Key) → (same_key y z || has_line z (before x lines)) ≡ (same_key y z || has_line z (before x left)))
    → Tied c (y ∷ left) x (Some (past ++ Touched y ∷ []))
touch_stays c x y past lines left set other un here short d members =
    let crowd : List Key = crowd_along c x past [] in
    let is : crowd_after c x (Touched y) crowd ≡ with_new y crowd = crowd_touched c x y crowd set other in
    stays c lines (y ∷ left) x past (Touched y) un (front_has x y left other ∙ here) short d
    (subst Distinct (sym is) (distinct-new y crowd un.distinct))
    (λ z. ap (has_line z) is ∙ has-new z y crowd ∙ ap (λ (b : Bool). same_key y z || b) (un.members z) ∙ members z ∙ ap (has_line z) (sym (front_before x y left other)))

-- a line that is there comes to the front
without_same : (z y : Key) (lines : List Key) → (same_key y z || has_line z lines) ≡ (same_key y z || has_line z (without_line y lines))
without_same z y lines = by (same_key y z) (has_line z lines) ∙ ap (λ (b : Bool). same_key y z || b) (sym (has-without z y lines))
  where
    by : (a b : Bool) → (a || b) ≡ (a || (not a && b))
    by true b = refl
    by false b = refl

pub touch_hit : (c : Size) (x y : Key) (past : List Past) (lines : List Key) → same_set c x y ≡ true → same_key x y ≡ false → length (y ∷ without_line y lines) ≤ c.ways → Distinct (y ∷ without_line y lines)
    → Tied c lines x (Some past) → Tied c (y ∷ without_line y lines) x (Some (past ++ Touched y ∷ []))
touch_hit c x y past lines set other short d (inl here) =
    touch_stays c x y past lines (without_line y lines) set other here.1 (has-without x y lines ∙ (λ i. not ((same_turned y x ∙ other) i) && here.0 i)) short d
    (λ z. without_same z y (before x lines) ∙ ap (λ (l : List Key). same_key y z || has_line z l) (sym (before-without x y lines (same_turned y x ∙ other))))
touch_hit c x y past lines set other short d (inr away) =
    stays_away c (y ∷ without_line y lines) x past (Touched y) away.1 (front_has x y (without_line y lines) other ∙ has-without x y lines ∙ (λ i. not ((same_turned y x ∙ other) i) && away.0 i))

-- an absent line comes in where there is room
pub touch_room : (c : Size) (x y : Key) (past : List Past) (lines : List Key) → same_set c x y ≡ true → same_key x y ≡ false → length (y ∷ lines) ≤ c.ways → Distinct (y ∷ lines)
    → Tied c lines x (Some past) → Tied c (y ∷ lines) x (Some (past ++ Touched y ∷ []))
touch_room c x y past lines set other short d (inl here) = touch_stays c x y past lines lines set other here.1 here.0 short d (λ z. refl)
touch_room c x y past lines set other short d (inr away) = stays_away c (y ∷ lines) x past (Touched y) away.1 (front_has x y lines other ∙ away.0)

-- an absent line comes in, and the oldest leaves
pub touch_full : (c : Size) (x y v : Key) (past : List Past) (left : List Key) → same_set c x y ≡ true → same_key x y ≡ false → length (left ++ v ∷ []) ≡ c.ways → Distinct (left ++ v ∷ []) → has_line y (left ++ v ∷ []) ≡ false
    → Tied c (left ++ v ∷ []) x (Some past) → Tied c (y ∷ left) x (Some (past ++ Touched y ∷ []))
touch_full c x y v past left set other full d absent (inr away) = stays_away c (y ∷ left) x past (Touched y) away.1 (front_has x y left other ∙ first (has_line x left) (has_line x (v ∷ [])) (sym (has-append x left (v ∷ [])) ∙ away.0))
  where
    first : (a b : Bool) → (a || b) ≡ false → a ≡ false
    first true b e = cc e
    first false b e = refl
touch_full c x y v past left set other full d absent (inl here) = by (has_line x left) refl
  where
    first : (a b : Bool) → (a || b) ≡ false → a ≡ false
    first true b e = cc e
    first false b e = refl

    second : (a b : Bool) → (a || b) ≡ true → a ≡ false → b ≡ true
    second true b e f = cc f
    second false b e f = e

    y_left : has_line y left ≡ false
    y_left = first (has_line y left) (has_line y (v ∷ [])) (sym (has-append y left (v ∷ [])) ∙ absent)

    many : length left + 1 ≡ c.ways
    many = sym (length-append left (v ∷ [])) ∙ full

    stay : has_line x left ≡ true → Tied c (y ∷ left) x (Some (past ++ Touched y ∷ []))
    stay at =
        touch_stays c x y past (left ++ v ∷ []) left set other here.1 at (omega (arith, many)) (y_left, distinct-front left (v ∷ []) d)
        (λ z. ap (λ (l : List Key). same_key y z || has_line z l) (before-front x left (v ∷ []) at))

    leave : has_line x left ≡ false → Tied c (y ∷ left) x (Some (past ++ Touched y ∷ []))
    leave at =
        let in_last : (same_key v x || false) ≡ true = second (has_line x left) (has_line x (v ∷ [])) (sym (has-append x left (v ∷ [])) ∙ here.0) at in
        let is : v ≡ x = same_is v x (or_nothing (same_key v x) in_last) in
        let stood : before x (left ++ v ∷ []) ≡ left = ap (λ (k : Key). before x (left ++ k ∷ [])) is ∙ before-last x left at in
        let crowd : List Key = crowd_along c x past [] in
        let members : (z : Key) → has_line z crowd ≡ has_line z left = (λ z. (here.1).members z ∙ ap (has_line z) stood) in
        let n : length crowd ≡ length left = same-length crowd left (here.1).distinct (distinct-front left (v ∷ []) d) members in
        let longer : crowd_after c x (Touched y) crowd ≡ y ∷ crowd = crowd_touched c x y crowd set other ∙ cond-false (has_line y crowd) crowd (y ∷ crowd) (members y ∙ y_left) in
        let m : length (crowd_after c x (Touched y) crowd) ≡ suc (length crowd) = ap length longer in
        goes_away c (y ∷ left) x past (Touched y) (omega (arith, m, n, many)) (front_has x y left other ∙ at)
      where
        or_nothing : (a : Bool) → (a || false) ≡ true → a ≡ true
        or_nothing true e = refl
        or_nothing false e = e

    by : (b : Bool) → has_line x left ≡ b → Tied c (y ∷ left) x (Some (past ++ Touched y ∷ []))
    by true at = stay at
    by false at = leave at

-- REMOVALS

pub removal : (c : Size) (x y : Key) (past : List Past) (lines : List Key) → same_key x y ≡ false → length (without_line y lines) ≤ c.ways → Distinct (without_line y lines)
    → Tied c lines x (Some past) → Tied c (without_line y lines) x (Some (past ++ Removed y ∷ []))
removal c x y past lines other short d (inl here) =
    stays c lines (without_line y lines) x past (Removed y) here.1 (has-without x y lines ∙ (λ i. not ((same_turned y x ∙ other) i) && here.0 i)) short d
    (distinct-without y (crowd_along c x past []) (here.1).distinct)
    (λ z. has-without z y (crowd_along c x past []) ∙ ap (λ (b : Bool). not (same_key y z) && b) ((here.1).members z) ∙ sym (has-without z y (before x lines)) ∙ ap (has_line z) (sym (before-without x y lines (same_turned y x ∙ other))))
removal c x y past lines other short d (inr away) =
    stays_away c (without_line y lines) x past (Removed y) away.1 (has-without x y lines ∙ (λ i. not ((same_turned y x ∙ other) i) && away.0 i))
