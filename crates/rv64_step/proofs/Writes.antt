-- Bytes that are written one after the other.
use Rattle.std.proofs.Common.{◌≡◌, ℕ, ◌+◌, ◌-◌, ◌≤◌, ◌<◌, List, [], ◌++◌, length, get_or, Bool, true, false, cond, eqb, leb, ltb, ◌&&◌, inl, inr, refl, sym, ◌∙◌, ap, arith}
use Rattle.std.proofs.lemmas.Bool.{cases_lt, eqb-true, cond-true, cond-false, le-leb, lt-leb, lt-ltb, le-ltb, and_from, and_left, and_right}
use Rattle.std.proofs.lemmas.List.{length-append, get_or_append_left, get_or-append_right}
use Rattle.lego_base.specs.Space.{Space, with_bytes, with_space}

-- a byte within what is written, and one outside
pub in-bytes : (address a n new old : ℕ) → address ≤ a → a < address + n → cond (leb address a && ltb a (address + n)) new old ≡ new
in-bytes address a n new old low high =
    cond-true (leb address a && ltb a (address + n)) new old (and_from (leb address a) (ltb a (address + n)) (le-leb address a low) (lt-ltb a (address + n) high))

pub below-bytes : (address a n new old : ℕ) → a < address → cond (leb address a && ltb a (address + n)) new old ≡ old
below-bytes address a n new old low =
    cond-false (leb address a && ltb a (address + n)) new old (and_left (leb address a) (ltb a (address + n)) (lt-leb address a low))

pub above-bytes : (address a n new old : ℕ) → address + n ≤ a → cond (leb address a && ltb a (address + n)) new old ≡ old
above-bytes address a n new old high =
    cond-false (leb address a && ltb a (address + n)) new old (and_right (leb address a) (ltb a (address + n)) (le-ltb a (address + n) high))

append-at : (address : ℕ) (xs ys : List ℕ) (a old : ℕ) → cond (leb (address + length xs) a && ltb a (address + length xs + length ys)) (get_or ys (a - (address + length xs)) 0) (cond (leb address a && ltb a (address + length xs)) (get_or xs (a - address) 0) old) ≡ cond (leb address a && ltb a (address + length (xs ++ ys))) (get_or (xs ++ ys) (a - address) 0) old
append-at address xs ys a old =
    let n : length (xs ++ ys) ≡ length xs + length ys = length-append xs ys in
    let first = cond (leb address a && ltb a (address + length xs)) (get_or xs (a - address) 0) old in
    elim (cases_lt a address) [
      | inl low ↦
          below-bytes (address + length xs) a (length ys) _ first (omega arith)
          ∙ below-bytes address a (length xs) _ old low
          ∙ sym (below-bytes address a (length (xs ++ ys)) _ old low)
      | inr low ↦ elim (cases_lt a (address + length xs)) [
        | inl middle ↦
            below-bytes (address + length xs) a (length ys) _ first middle
            ∙ in-bytes address a (length xs) _ old low middle
            ∙ sym (in-bytes address a (length (xs ++ ys)) _ old low (omega arith) ∙ get_or_append_left xs ys 0 (a - address) (omega arith))
        | inr middle ↦ elim (cases_lt a (address + length xs + length ys)) [
          | inl high ↦
              let rest : a - address - length xs ≡ a - (address + length xs) = omega arith in
              in-bytes (address + length xs) a (length ys) _ first middle high
              ∙ sym (in-bytes address a (length (xs ++ ys)) _ old low (omega arith) ∙ get_or-append_right xs ys (length xs) (a - address) 0 refl (omega arith) ∙ ap (λ k. get_or ys k 0) rest)
          | inr high ↦
              above-bytes (address + length xs) a (length ys) _ first high
              ∙ above-bytes address a (length xs) _ old middle
              ∙ sym (above-bytes address a (length (xs ++ ys)) _ old (omega arith))
        ]
      ]
    ]

pub with_bytes-append : (space : Space) (address : ℕ) (xs ys : List ℕ) → with_bytes (with_bytes space address xs) (address + length xs) ys ≡ with_bytes space address (xs ++ ys)
with_bytes-append space address xs ys = λ i. record { areas = space.areas; byte = λ a. append-at address xs ys a (space.byte a) i }

-- ---- writing nothing
none_at : (address a new old : ℕ) → cond (leb address a && ltb a (address + 0)) new old ≡ old
none_at address a new old = elim (cases_lt a address) [
  | inl low ↦ below-bytes address a 0 new old low
  | inr high ↦ above-bytes address a 0 new old (let h : address + 0 ≤ a = omega arith in h)
]

pub with_bytes-none : (space : Space) (address : ℕ) → with_bytes space address [] ≡ space
with_bytes-none space address = λ i. record space { byte = λ a. none_at address a (get_or [] (a - address) 0) (space.byte a) i }

-- a space set to what it is
same_at : (spaces : ℕ → Space) (pid q : ℕ) (b : Bool) → eqb q pid ≡ b → cond b (spaces pid) (spaces q) ≡ spaces q
same_at spaces pid q true e = ap spaces (sym (eqb-true q pid e))
same_at spaces pid q false e = refl

pub with_space-same : (spaces : ℕ → Space) (pid : ℕ) → with_space spaces pid (spaces pid) ≡ spaces
with_space-same spaces pid = λ i q. same_at spaces pid q (eqb q pid) refl i
