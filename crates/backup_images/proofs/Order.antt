-- The order of keys, in numbers.
use Rattle.std.proofs.Common.{◌≡◌, ◌⊎◌, ◌<◌, ◌&&◌, ◌∙◌, Bool, ap, arith, cond, eqb, false, inl, inr, ltb, refl, sym, true}
use Rattle.std.proofs.lemmas.Bool.{and_parts, cases_order, eq-eqb, eqb-true, le-ltb, lt-ltb, ltb-true, ne_eqb}
use Rattle.lego_base.specs.Keys.{Key, is_below, same_key}

-- a key is below another one by its process, or else by its number
abbrev pub Below : Key → Key → Type 0
Below a b = (a.pid < b.pid) ⊎ ((a.pid ≡ b.pid) × (a.number < b.number))

pub below_is : (a b : Key) → is_below a b ≡ true → Below a b
below_is a b e = by (eqb a.pid b.pid) refl e
  where
    by : (x : Bool) → eqb a.pid b.pid ≡ x → cond x (ltb a.number b.number) (ltb a.pid b.pid) ≡ true → Below a b
    by true same less = inr (eqb-true a.pid b.pid same, ltb-true a.number b.number less)
    by false other less = inl (ltb-true a.pid b.pid less)

pub is_below_so : (a b : Key) → Below a b → is_below a b ≡ true
is_below_so a b (inl less) = ap (λ x. cond x (ltb a.number b.number) (ltb a.pid b.pid)) (ne_eqb a.pid b.pid (λ e. omega (arith, e, less))) ∙ lt-ltb a.pid b.pid less
is_below_so a b (inr less) = ap (λ x. cond x (ltb a.number b.number) (ltb a.pid b.pid)) (eq-eqb a.pid b.pid less.0) ∙ lt-ltb a.number b.number less.1

pub between : (a b c : Key) → is_below a b ≡ true → is_below b c ≡ true → is_below a c ≡ true
between a b c x y = is_below_so a c (by (below_is a b x) (below_is b c y))
  where
    by : Below a b → Below b c → Below a c
    by (inl e) (inl f) = inl (omega (arith, e, f))
    by (inl e) (inr f) = let g = f.0 in inl (omega (arith, e, g))
    by (inr e) (inl f) = let g = e.0 in inl (omega (arith, f, g))
    by (inr e) (inr f) = let g = e.1 in let h = f.1 in inr (e.0 ∙ f.0, omega (arith, g, h))

-- a key that is below another one isn't above it
pub not_above : (a b : Key) → is_below a b ≡ true → is_below b a ≡ false
not_above a b x = by (below_is a b x)
  where
    by : Below a b → is_below b a ≡ false
    by (inl less) = ap (λ e. cond e (ltb b.number a.number) (ltb b.pid a.pid)) (ne_eqb b.pid a.pid (λ e. omega (arith, e, less))) ∙ le-ltb b.pid a.pid (omega arith)
    by (inr less) = let more = less.1 in ap (λ e. cond e (ltb b.number a.number) (ltb b.pid a.pid)) (eq-eqb b.pid a.pid (sym less.0)) ∙ le-ltb b.number a.number (omega (arith, more))

-- of two keys one is below the other, or they are the same
pub same_is : (a b : Key) → same_key a b ≡ true → (a.pid ≡ b.pid) × (a.number ≡ b.number)
same_is a b e = let p = and_parts (eqb a.pid b.pid) (eqb a.number b.number) e in (eqb-true a.pid b.pid p.0, eqb-true a.number b.number p.1)

pub three : (a b : Key) → (is_below a b ≡ true) ⊎ ((same_key a b ≡ true) ⊎ (is_below b a ≡ true))
three a b = by (cases_order a.pid b.pid) (cases_order a.number b.number)
  where
    by : (a.pid ≡ b.pid) ⊎ ((a.pid < b.pid) ⊎ (b.pid < a.pid)) → (a.number ≡ b.number) ⊎ ((a.number < b.number) ⊎ (b.number < a.number)) → (is_below a b ≡ true) ⊎ ((same_key a b ≡ true) ⊎ (is_below b a ≡ true))
    by (inl e) (inl f) = inr (inl (ap (λ x. x && eqb a.number b.number) (eq-eqb a.pid b.pid e) ∙ eq-eqb a.number b.number f))
    by (inl e) (inr (inl f)) = inl (is_below_so a b (inr (e, f)))
    by (inl e) (inr (inr f)) = inr (inr (is_below_so b a (inr (sym e, f))))
    by (inr (inl e)) f = inl (is_below_so a b (inl e))
    by (inr (inr e)) f = inr (inr (is_below_so b a (inl e)))

-- an order among three by the same key
pub below_same : (a b c : Key) → same_key a b ≡ true → is_below b c ≡ true → is_below a c ≡ true
below_same a b c s x = is_below_so a c (by (same_is a b s) (below_is b c x))
  where
    by : (a.pid ≡ b.pid) × (a.number ≡ b.number) → Below b c → Below a c
    by e (inl f) = let g = e.0 in inl (omega (arith, f, g))
    by e (inr f) = let g = e.1 in let h = f.1 in inr (e.0 ∙ f.0, omega (arith, g, h))

pub not_same_above : (a b : Key) → is_below b a ≡ true → same_key a b ≡ false
not_same_above a b x = by (below_is b a x)
  where
    none : (e : Bool) → (e && false) ≡ false
    none true = refl
    none false = refl

    by : Below b a → same_key a b ≡ false
    by (inl less) = ap (λ e. e && eqb a.number b.number) (ne_eqb a.pid b.pid (λ e. omega (arith, e, less)))
    by (inr less) = let more = less.1 in ap (λ e. eqb a.pid b.pid && e) (ne_eqb a.number b.number (λ e. omega (arith, e, more))) ∙ none (eqb a.pid b.pid)

pub same_not_below : (a b : Key) → same_key a b ≡ true → is_below a b ≡ false
same_not_below a b s =
    let e = same_is a b s in
    let f = e.1 in
    ap (λ x. cond x (ltb a.number b.number) (ltb a.pid b.pid)) (eq-eqb a.pid b.pid e.0) ∙ le-ltb a.number b.number (omega (arith, f))
