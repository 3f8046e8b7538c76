-- The order of keys: by process, then by number.
use Rattle.std.proofs.Common.{◌≡◌, ◌⊎◌, ◌<◌, ◌≤◌, ◌&&◌, ◌∙◌, ℕ, Bool, arith, cond, eqb, false, inl, inr, ltb, refl, sym, true}
use Rattle.std.proofs.lemmas.Bool.{cases_lt, eq-eqb, eqb-true, lt-ltb, ltb-false, ltb-true}
use Rattle.lego_base.specs.Keys.{Key, is_below, same_key}

both : (a b : Bool) → (a && b) ≡ true → (a ≡ true) × (b ≡ true)
both true b e = (refl, e)
both false b e = cc e

pub same_is : (a b : Key) → same_key a b ≡ true → a ≡ b
same_is a b e =
    let two_ = both (eqb a.pid b.pid) (eqb a.number b.number) e in
    let pid : a.pid ≡ b.pid = eqb-true a.pid b.pid two_.0 in
    let number : a.number ≡ b.number = eqb-true a.number b.number two_.1 in
    λ i. record { pid = pid i; number = number i }

pub same_self : (a : Key) → same_key a a ≡ true
same_self a = λ i. eq-eqb a.pid a.pid refl i && eq-eqb a.number a.number refl i

-- THE ORDER of keys, in numbers
pub below_is : (a b : Key) → is_below a b ≡ true → (a.pid < b.pid) ⊎ ((a.pid ≡ b.pid) × (a.number < b.number))
below_is a b e = by (eqb a.pid b.pid) refl e
  where
    by : (x : Bool) → eqb a.pid b.pid ≡ x → cond x (ltb a.number b.number) (ltb a.pid b.pid) ≡ true → (a.pid < b.pid) ⊎ ((a.pid ≡ b.pid) × (a.number < b.number))
    by true same less = inr (eqb-true a.pid b.pid same, ltb-true a.number b.number less)
    by false other less = inl (ltb-true a.pid b.pid less)

pub is_below_so : (a b : Key) → (a.pid < b.pid) ⊎ ((a.pid ≡ b.pid) × (a.number < b.number)) → is_below a b ≡ true
is_below_so a b (inl less) = by (eqb a.pid b.pid) refl
  where
    by : (x : Bool) → eqb a.pid b.pid ≡ x → cond x (ltb a.number b.number) (ltb a.pid b.pid) ≡ true
    by true same = let e : a.pid ≡ b.pid = eqb-true a.pid b.pid same in absurd (omega (arith, e, less))
    by false other = lt-ltb a.pid b.pid less
is_below_so a b (inr less) = λ i. cond (eq-eqb a.pid b.pid less.0 i) (lt-ltb a.number b.number less.1 i) (ltb a.pid b.pid)

pub below-trans : (a b c : Key) → is_below a b ≡ true → is_below b c ≡ true → is_below a c ≡ true
below-trans a b c x y = is_below_so a c (by (below_is a b x) (below_is b c y))
  where
    by : (a.pid < b.pid) ⊎ ((a.pid ≡ b.pid) × (a.number < b.number)) → (b.pid < c.pid) ⊎ ((b.pid ≡ c.pid) × (b.number < c.number)) → (a.pid < c.pid) ⊎ ((a.pid ≡ c.pid) × (a.number < c.number))
    by (inl e) (inl f) = inl (omega (arith, e, f))
    by (inl e) (inr f) = let g = f.0 in inl (omega (arith, e, g))
    by (inr e) (inl f) = let g = e.0 in inl (omega (arith, f, g))
    by (inr e) (inr f) = let g = e.1 in let h = f.1 in inr (e.0 ∙ f.0, omega (arith, g, h))

-- a number that is neither below another one nor equal is above it
more : (x y : ℕ) → y ≤ x → eqb x y ≡ false → y < x
more x y le other = elim (cases_lt y x) [
  | inl less ↦ less
  | inr most ↦ let same : x ≡ y = omega (arith, le, most) in absurd (differ (eqb x y) (eq-eqb x y same) other)
]
  where
    differ : (b : Bool) → b ≡ true → b ≡ false → ⊥
    differ true e f = cc f
    differ false e f = cc e

-- and so are keys
pub above : (a b : Key) → is_below a b ≡ false → same_key a b ≡ false → is_below b a ≡ true
above a b x y = is_below_so b a (by (eqb a.pid b.pid) refl x y)
  where
    by : (p : Bool) → eqb a.pid b.pid ≡ p → cond p (ltb a.number b.number) (ltb a.pid b.pid) ≡ false → (p && eqb a.number b.number) ≡ false → (b.pid < a.pid) ⊎ ((b.pid ≡ a.pid) × (b.number < a.number))
    by true same e f = inr (sym (eqb-true a.pid b.pid same), more a.number b.number (ltb-false a.number b.number e) f)
    by false other e f = inl (more a.pid b.pid (ltb-false a.pid b.pid e) other)
