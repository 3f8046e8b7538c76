-- Lists of distinct lines.
use Rattle.std.proofs.Common.{◌≡◌, ◌<◌, ◌&&◌, ◌||◌, ◌++◌, [], ◌∷◌, ◌∙◌, Bool, List, ap, arith, cond, eqb, false, length, not, refl, suc, sym, true}
use Rattle.std.proofs.lemmas.Bool.{and_parts, cond-false, cond-true, eq-eqb, eqb-true}
use Rattle.lego_base.specs.Keys.{Key, same_key}
use Rattle.cache_tags.specs.CacheRule.{has_line, with_new, without_line}

-- KEYS

pub same_is : (a b : Key) → same_key a b ≡ true → a ≡ b
same_is a b e =
    let two_ = and_parts (eqb a.pid b.pid) (eqb a.number b.number) e in
    let pid : a.pid ≡ b.pid = eqb-true a.pid b.pid two_.0 in
    let number : a.number ≡ b.number = eqb-true a.number b.number two_.1 in
    λ i. record { pid = pid i; number = number i }

pub same_self : (a : Key) → same_key a a ≡ true
same_self a = λ i. eq-eqb a.pid a.pid refl i && eq-eqb a.number a.number refl i

pub clash : (b : Bool) → b ≡ true → b ≡ false → ⊥
clash true e f = cc f
clash false e f = cc e

pub same_turned : (a b : Key) → same_key a b ≡ same_key b a
same_turned a b = by (same_key a b) (same_key b a) refl refl
  where
    by : (x y : Bool) → same_key a b ≡ x → same_key b a ≡ y → x ≡ y
    by true true e f = refl
    by false false e f = refl
    by true false e f = absurd (clash (same_key b a) (ap (λ (k : Key). same_key b k) (same_is a b e) ∙ same_self b) f)
    by false true e f = absurd (clash (same_key a b) (ap (λ (k : Key). same_key a k) (same_is b a f) ∙ same_self a) e)

-- MEMBERS

abbrev pub Distinct : List Key → Type 0
Distinct [] = Unit {0}
Distinct (x ∷ lines) = (has_line x lines ≡ false) × Distinct lines

-- the lines before one
abbrev pub before : Key → List Key → List Key
before x [] = []
before x (y ∷ lines) = cond (same_key y x) [] (y ∷ before x lines)

pub has-without : (z y : Key) (lines : List Key) → has_line z (without_line y lines) ≡ (not (same_key y z) && has_line z lines)
has-without z y [] = none (same_key y z)
  where
    none : (b : Bool) → false ≡ (not b && false)
    none true = refl
    none false = refl
has-without z y (u ∷ lines) = by (same_key u y) refl (has-without z y lines)
  where
    gone : (b c rest kept : Bool) → b ≡ c → kept ≡ (not b && rest) → kept ≡ (not b && (c || rest))
    gone true true rest kept e f = f
    gone true false rest kept e f = cc e
    gone false true rest kept e f = cc e
    gone false false rest kept e f = f

    stays : (b c rest kept : Bool) → (b ≡ true → c ≡ false) → kept ≡ (not b && rest) → (c || kept) ≡ (not b && (c || rest))
    stays true true rest kept e f = cc (e refl)
    stays true false rest kept e f = f
    stays false true rest kept e f = refl
    stays false false rest kept e f = f

    by : (b : Bool) → same_key u y ≡ b → has_line z (without_line y lines) ≡ (not (same_key y z) && has_line z lines) → has_line z (cond b (without_line y lines) (u ∷ without_line y lines)) ≡ (not (same_key y z) && (same_key u z || has_line z lines))
    by true e rest = gone (same_key y z) (same_key u z) (has_line z lines) (has_line z (without_line y lines)) (ap (λ (k : Key). same_key k z) (sym (same_is u y e))) rest
    by false e rest = stays (same_key y z) (same_key u z) (has_line z lines) (has_line z (without_line y lines)) (λ at. by_value (same_key u z) refl at) rest
      where
        by_value : (b : Bool) → same_key u z ≡ b → same_key y z ≡ true → b ≡ false
        by_value true here at = absurd (clash (same_key u y) (ap (same_key u) (sym (same_is u z here ∙ sym (same_is y z at))) ∙ same_self u) e)
        by_value false here at = refl

pub has-new : (z y : Key) (lines : List Key) → has_line z (with_new y lines) ≡ (same_key y z || has_line z lines)
has-new z y lines = by (has_line y lines) refl (same_key y z) refl
  where
    by : (b : Bool) → has_line y lines ≡ b → (c : Bool) → same_key y z ≡ c → has_line z (cond b lines (y ∷ lines)) ≡ (same_key y z || has_line z lines)
    by true e true at = ap (λ (k : Key). has_line k lines) (sym (same_is y z at)) ∙ e ∙ sym (ap (λ (d : Bool). d || has_line z lines) at)
    by true e false at = sym (ap (λ (d : Bool). d || has_line z lines) at)
    by false e c at = refl

pub distinct-without : (y : Key) (lines : List Key) → Distinct lines → Distinct (without_line y lines)
distinct-without y [] d = tt
distinct-without y (u ∷ lines) d = by (same_key u y) (distinct-without y lines d.1)
  where
    no_more : (b c : Bool) → c ≡ false → (b && c) ≡ false
    no_more true c e = e
    no_more false c e = refl

    by : (b : Bool) → Distinct (without_line y lines) → Distinct (cond b (without_line y lines) (u ∷ without_line y lines))
    by true rest = rest
    by false rest = (has-without u y lines ∙ no_more (not (same_key y u)) (has_line u lines) d.0, rest)

pub distinct-new : (y : Key) (lines : List Key) → Distinct lines → Distinct (with_new y lines)
distinct-new y lines d = by (has_line y lines) refl
  where
    by : (b : Bool) → has_line y lines ≡ b → Distinct (cond b lines (y ∷ lines))
    by true e = d
    by false e = (e, d)

pub without-absent : (y : Key) (lines : List Key) → has_line y lines ≡ false → without_line y lines ≡ lines
without-absent y [] e = refl
without-absent y (u ∷ lines) e = by (same_key u y) (without-absent y lines) e
  where
    by : (b : Bool) → (has_line y lines ≡ false → without_line y lines ≡ lines) → (b || has_line y lines) ≡ false → cond b (without_line y lines) (u ∷ without_line y lines) ≡ u ∷ lines
    by true rest e = cc e
    by false rest e = ap (λ (l : List Key). u ∷ l) (rest e)

pub length-without : (y : Key) (lines : List Key) → Distinct lines → has_line y lines ≡ true → length lines ≡ suc (length (without_line y lines))
length-without y [] d e = cc e
length-without y (u ∷ lines) d e = by (same_key u y) refl (length-without y lines d.1) e
  where
    by : (b : Bool) → same_key u y ≡ b → (has_line y lines ≡ true → length lines ≡ suc (length (without_line y lines))) → (b || has_line y lines) ≡ true → suc (length lines) ≡ suc (length (cond b (without_line y lines) (u ∷ without_line y lines)))
    by true at rest e = ap (λ (l : List Key). suc (length l)) (sym (without-absent y lines (ap (λ (k : Key). has_line k lines) (sym (same_is u y at)) ∙ d.0)))
    by false at rest e = ap suc (rest e)

-- distinct lists with the same members are equally long
pub same-length : (xs ys : List Key) → Distinct xs → Distinct ys → ((z : Key) → has_line z xs ≡ has_line z ys) → length xs ≡ length ys
same-length [] [] d f e = refl
same-length [] (y ∷ ys) d f e = absurd (clash (has_line y (y ∷ ys)) (ap (λ (b : Bool). b || has_line y ys) (same_self y)) (sym (e y)))
same-length (x ∷ xs) ys d f e =
    ap suc (same-length xs (without_line x ys) d.1 (distinct-without x ys f) (λ z. rest z ∙ sym (has-without z x ys)))
    ∙ sym (length-without x ys f (sym (e x) ∙ ap (λ (b : Bool). b || has_line x xs) (same_self x)))
  where
    rest : (z : Key) → has_line z xs ≡ (not (same_key x z) && has_line z ys)
    rest z = by (same_key x z) refl (e z)
      where
        by : (b : Bool) → same_key x z ≡ b → (same_key x z || has_line z xs) ≡ has_line z ys → has_line z xs ≡ (not b && has_line z ys)
        by true at so = ap (λ (k : Key). has_line k xs) (sym (same_is x z at)) ∙ d.0
        by false at so = ap (λ (b : Bool). b || has_line z xs) (sym at) ∙ so

-- BEFORE A LINE

pub before-short : (x : Key) (lines : List Key) → has_line x lines ≡ true → length (before x lines) < length lines
before-short x [] e = cc e
before-short x (y ∷ lines) e = by (same_key y x) (before-short x lines) e
  where
    by : (b : Bool) → (has_line x lines ≡ true → length (before x lines) < length lines) → (b || has_line x lines) ≡ true → length (cond b [] (y ∷ before x lines)) < suc (length lines)
    by true rest e = omega arith
    by false rest e = let n = rest e in omega (arith, n)

pub before-in : (z x : Key) (lines : List Key) → has_line z (before x lines) ≡ true → has_line z lines ≡ true
before-in z x [] e = e
before-in z x (y ∷ lines) e = by (same_key y x) (before-in z x lines) e
  where
    more : (b c d : Bool) → (c ≡ true → d ≡ true) → (b || c) ≡ true → (b || d) ≡ true
    more true c d f e = refl
    more false c d f e = f e

    by : (b : Bool) → (has_line z (before x lines) ≡ true → has_line z lines ≡ true) → has_line z (cond b [] (y ∷ before x lines)) ≡ true → (same_key y z || has_line z lines) ≡ true
    by true rest e = cc e
    by false rest e = more (same_key y z) (has_line z (before x lines)) (has_line z lines) rest e

pub distinct-before : (x : Key) (lines : List Key) → Distinct lines → Distinct (before x lines)
distinct-before x [] d = tt
distinct-before x (y ∷ lines) d = by (same_key y x) (distinct-before x lines d.1)
  where
    absent : has_line y (before x lines) ≡ false
    absent = val (has_line y (before x lines)) refl
      where
        val : (b : Bool) → has_line y (before x lines) ≡ b → b ≡ false
        val true e = absurd (clash (has_line y lines) (before-in y x lines e) d.0)
        val false e = refl

    by : (b : Bool) → Distinct (before x lines) → Distinct (cond b [] (y ∷ before x lines))
    by true rest = tt
    by false rest = (absent, rest)

pub before-without : (x y : Key) (lines : List Key) → same_key y x ≡ false → before x (without_line y lines) ≡ without_line y (before x lines)
before-without x y [] other = refl
before-without x y (u ∷ lines) other = by (before-without x y lines other) (same_key u y) refl (same_key u x) refl
  where
    by : before x (without_line y lines) ≡ without_line y (before x lines) → (b : Bool) → same_key u y ≡ b → (c : Bool) → same_key u x ≡ c → before x (cond b (without_line y lines) (u ∷ without_line y lines)) ≡ without_line y (cond c [] (u ∷ before x lines))
    by rest true e true at = absurd (clash (same_key y x) (ap (λ (k : Key). same_key k x) (sym (same_is u y e)) ∙ at) other)
    by rest true e false at = rest ∙ sym (cond-true (same_key u y) (without_line y (before x lines)) (u ∷ without_line y (before x lines)) e)
    by rest false e true at = cond-true (same_key u x) [] (u ∷ before x (without_line y lines)) at
    by rest false e false at =
        cond-false (same_key u x) [] (u ∷ before x (without_line y lines)) at
        ∙ ap (λ (l : List Key). u ∷ l) rest
        ∙ sym (cond-false (same_key u y) (without_line y (before x lines)) (u ∷ without_line y (before x lines)) e)

-- A LIST AND ITS LAST

pub has-append : (z : Key) (xs ys : List Key) → has_line z (xs ++ ys) ≡ (has_line z xs || has_line z ys)
has-append z [] ys = refl
has-append z (x ∷ xs) ys = ap (λ (b : Bool). same_key x z || b) (has-append z xs ys) ∙ grouped (same_key x z) (has_line z xs) (has_line z ys)
  where
    grouped : (a b c : Bool) → (a || (b || c)) ≡ ((a || b) || c)
    grouped true b c = refl
    grouped false b c = refl

pub distinct-front : (xs ys : List Key) → Distinct (xs ++ ys) → Distinct xs
distinct-front [] ys d = tt
distinct-front (x ∷ xs) ys d = (left (has_line x xs) (has_line x ys) (sym (has-append x xs ys) ∙ d.0), distinct-front xs ys d.1)
  where
    left : (a b : Bool) → (a || b) ≡ false → a ≡ false
    left true b e = cc e
    left false b e = refl

pub last-absent : (xs : List Key) (v : Key) → Distinct (xs ++ v ∷ []) → has_line v xs ≡ false
last-absent [] v d = refl
last-absent (x ∷ xs) v d = by (same_key x v) refl (last-absent xs v d.1)
  where
    by : (b : Bool) → same_key x v ≡ b → has_line v xs ≡ false → (b || has_line v xs) ≡ false
    by true e rest = absurd (clash (has_line x (xs ++ v ∷ [])) (ap (λ (k : Key). has_line k (xs ++ v ∷ [])) (same_is x v e) ∙ has-append v xs (v ∷ []) ∙ (λ i. has_line v xs || (same_self v i || false)) ∙ any (has_line v xs)) d.0)
      where
        any : (a : Bool) → (a || true) ≡ true
        any true = refl
        any false = refl
    by false e rest = rest

pub before-front : (x : Key) (xs ys : List Key) → has_line x xs ≡ true → before x (xs ++ ys) ≡ before x xs
before-front x [] ys e = cc e
before-front x (u ∷ xs) ys e = by (same_key u x) (before-front x xs ys) e
  where
    by : (b : Bool) → (has_line x xs ≡ true → before x (xs ++ ys) ≡ before x xs) → (b || has_line x xs) ≡ true → cond b [] (u ∷ before x (xs ++ ys)) ≡ cond b [] (u ∷ before x xs)
    by true rest e = refl
    by false rest e = ap (λ (l : List Key). u ∷ l) (rest e)

pub before-last : (x : Key) (xs : List Key) → has_line x xs ≡ false → before x (xs ++ x ∷ []) ≡ xs
before-last x [] e = cond-true (same_key x x) [] (x ∷ []) (same_self x)
before-last x (u ∷ xs) e = by (same_key u x) (before-last x xs) e
  where
    by : (b : Bool) → (has_line x xs ≡ false → before x (xs ++ x ∷ []) ≡ xs) → (b || has_line x xs) ≡ false → cond b [] (u ∷ before x (xs ++ x ∷ [])) ≡ u ∷ xs
    by true rest e = cc e
    by false rest e = ap (λ (l : List Key). u ∷ l) (rest e)
