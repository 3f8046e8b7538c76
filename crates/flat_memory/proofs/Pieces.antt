-- The bytes of a space by where those of its pages begin.
use Rattle.std.proofs.Common.{◌≡◌, ℕ, ◌+◌, ◌-◌, ◌/◌, ◌%◌, ◌≤◌, ◌<◌, List, ◌++◌, length, get_or, replicate, cond, leb, ltb, ◌&&◌, inl, inr, sym, ◌∙◌, ap, arith}
use Rattle.std.proofs.lemmas.Bool.{cases_lt, cases_eq, le-leb, lt-leb, lt-ltb, le-ltb, cond-true, cond-false, and_from, and_left, and_right}
use Rattle.std.proofs.lemmas.List.{get_or_past, length-append, length-replicate}
use Rattle.lego_base.specs.declared.records.Area.{Area}
use Rattle.lego_base.specs.Space.{Space, with_bytes}
use Rattle.flat_memory.specs.Pieces.{place_in, byte_in, IsPieces, Written}
use Rattle.flat_memory.proofs.Zeros.{get_or-append_zeros}

-- no page has bytes of its own, and there is one piece of zeros
pub fresh-pieces : (start : ℕ → ℕ) (bytes : List ℕ) → ((page : ℕ) → start page ≡ 0) → length bytes ≡ 4096 → ((k : ℕ) → get_or bytes k 0 ≡ 0) → IsPieces start bytes
fresh-pieces start bytes none n z = record {
  whole = ap (λ k. k % 4096) n;
  starts = λ page. ap (λ k. k % 4096) (none page);
  ends = λ page. let s : start page ≡ 0 = none page in omega arith;
  apart = λ page other h q. absurd (let s : start page ≡ 0 = none page in omega arith);
  zeros = λ k h. z k;
}

pub fresh-byte : (start : ℕ → ℕ) (bytes : List ℕ) → ((k : ℕ) → get_or bytes k 0 ≡ 0) → byte_in start bytes ≡ (λ a. 0)
unfolding byte_in
fresh-byte start bytes z = λ i a. z (place_in start a) i

more-length : (bytes : List ℕ) → length (bytes ++ replicate 4096 0) ≡ length bytes + 4096
more-length bytes = length-append bytes (replicate 4096 0) ∙ ap (λ k. length bytes + k) (length-replicate {A = ℕ} 4096 0)

-- the same where pages begin in the same places
pub same-pieces : (start start' : ℕ → ℕ) (bytes : List ℕ) → ((page : ℕ) → start' page ≡ start page) → IsPieces start bytes → IsPieces start' bytes
same-pieces start start' bytes e s = record {
  whole = s.whole;
  starts = λ page. ap (λ k. k % 4096) (e page) ∙ s.starts page;
  ends = λ page. let b : start page + 4096 ≤ length bytes = s.ends page in let f : start' page ≡ start page = e page in omega arith;
  apart = λ page other some same. s.apart page other (let f : start' page ≡ start page = e page in omega arith) (sym (e page) ∙ same ∙ e other);
  zeros = s.zeros;
}

pub same-byte : (start start' : ℕ → ℕ) (bytes : List ℕ) → ((page : ℕ) → start' page ≡ start page) → byte_in start' bytes ≡ byte_in start bytes
unfolding byte_in
same-byte start start' bytes e = λ i a. get_or bytes (e (a / 4096) i + a % 4096) 0

-- zeros after the bytes change nothing
pub more-pieces : (start : ℕ → ℕ) (bytes : List ℕ) → IsPieces start bytes → IsPieces start (bytes ++ replicate 4096 0)
more-pieces start bytes s =
    let n : length (bytes ++ replicate 4096 0) ≡ length bytes + 4096 = more-length bytes in
    record {
      whole = let w : length bytes % 4096 ≡ 0 = s.whole in omega arith;
      starts = s.starts;
      ends = λ page. let e : start page + 4096 ≤ length bytes = s.ends page in omega arith;
      apart = s.apart;
      zeros = λ k h. get_or-append_zeros bytes 4096 k ∙ s.zeros k h;
    }

pub more-byte : (start : ℕ → ℕ) (bytes : List ℕ) → byte_in start (bytes ++ replicate 4096 0) ≡ byte_in start bytes
unfolding byte_in
more-byte start bytes = λ i a. get_or-append_zeros bytes 4096 (place_in start a) i

-- ---- a page gets a piece of its own
module _ (start start' : ℕ → ℕ) (bytes : List ℕ) (page : ℕ) (s : IsPieces start bytes) (none : start page ≡ 0) (here : start' page ≡ length bytes) (there : (p : ℕ) → (p ≡ page → ⊥) → start' p ≡ start p) where
  pub own-some : 0 < start' page
  own-some =
      let e : start page + 4096 ≤ length bytes = s.ends page in
      let h : start' page ≡ length bytes = here in
      omega arith

  own-starts : (p : ℕ) → start' p % 4096 ≡ 0
  own-starts p = elim (cases_eq p page) [
    | inl e ↦ ap (λ q. start' q % 4096) e ∙ ap (λ k. k % 4096) here ∙ s.whole
    | inr ne ↦ ap (λ k. k % 4096) (there p ne) ∙ s.starts p
  ]

  own-ends : (p : ℕ) → start' p + 4096 ≤ length (bytes ++ replicate 4096 0)
  own-ends p = elim (cases_eq p page) [
    | inl e ↦ let h : start' p ≡ length bytes = ap start' e ∙ here in let n : length (bytes ++ replicate 4096 0) ≡ length bytes + 4096 = more-length bytes in omega arith
    | inr ne ↦ let h : start' p ≡ start p = there p ne in let b : start p + 4096 ≤ length bytes = s.ends p in let n : length (bytes ++ replicate 4096 0) ≡ length bytes + 4096 = more-length bytes in omega arith
  ]

  own-apart : (p q : ℕ) → 0 < start' p → start' p ≡ start' q → p ≡ q
  own-apart p q some same = elim (cases_eq p page) [
    | inl e ↦ elim (cases_eq q page) [
      | inl f ↦ e ∙ sym f
      | inr nf ↦ absurd (let a : start' p ≡ length bytes = ap start' e ∙ here in let b : start' q ≡ start q = there q nf in let c : start q + 4096 ≤ length bytes = s.ends q in omega arith)
    ]
    | inr ne ↦ elim (cases_eq q page) [
      | inl f ↦ absurd (let a : start' q ≡ length bytes = ap start' f ∙ here in let b : start' p ≡ start p = there p ne in let c : start p + 4096 ≤ length bytes = s.ends p in omega arith)
      | inr nf ↦ s.apart p q (let b : start' p ≡ start p = there p ne in omega arith) (sym (there p ne) ∙ same ∙ there q nf)
    ]
  ]

  pub own-pieces : IsPieces start' (bytes ++ replicate 4096 0)
  own-pieces = record {
    whole = let w : length bytes % 4096 ≡ 0 = s.whole in let n : length (bytes ++ replicate 4096 0) ≡ length bytes + 4096 = more-length bytes in omega arith;
    starts = own-starts;
    ends = own-ends;
    apart = own-apart;
    zeros = λ k h. get_or-append_zeros bytes 4096 k ∙ s.zeros k h;
  }

  own-byte_at : (a : ℕ) → get_or bytes (place_in start' a) 0 ≡ get_or bytes (place_in start a) 0
  own-byte_at a = elim (cases_eq (a / 4096) page) [
    | inl e ↦
        let own : start' (a / 4096) ≡ length bytes = ap start' e ∙ here in
        let zero_of : start (a / 4096) ≡ 0 = ap start e ∙ none in
        let past : length bytes ≤ start' (a / 4096) + a % 4096 = omega arith in
        let place : start (a / 4096) + a % 4096 ≡ a % 4096 = omega arith in
        get_or_past bytes (place_in start' a) 0 past ∙ sym (ap (λ k. get_or bytes k 0) place ∙ s.zeros (a % 4096) (omega arith))
    | inr ne ↦ ap (λ k. get_or bytes (k + a % 4096) 0) (there (a / 4096) ne)
  ]

  pub own-byte : byte_in start' (bytes ++ replicate 4096 0) ≡ byte_in start bytes
  unfolding byte_in
  own-byte = λ i a. (get_or-append_zeros bytes 4096 (place_in start' a) ∙ own-byte_at a) i

-- ---- bytes are written in a page's own piece
module _ (start : ℕ → ℕ) (areas : List Area) (bytes : List ℕ) (address : ℕ) (piece new : List ℕ) (s : IsPieces start bytes) (own : 0 < start (address / 4096)) (fits : address % 4096 + length piece ≤ 4096) (w : Written bytes (place_in start address) piece new) where
  -- the byte at an address of the piece
  written-in : (a : ℕ) → address ≤ a → a < address + length piece → get_or new (place_in start a) 0 ≡ get_or piece (a - address) 0
  written-in a low high =
      let page : a / 4096 ≡ address / 4096 = omega arith in
      let rest : a % 4096 ≡ address % 4096 + (a - address) = omega arith in
      let same : start (a / 4096) ≡ start (address / 4096) = ap start page in
      let place : place_in start a ≡ place_in start address + (a - address) = omega arith in
      ap (λ k. get_or new k 0) place ∙ w.inside (a - address) (omega arith)

  -- the byte at any other address
  written-out : (a : ℕ) → (address ≤ a → a < address + length piece → ⊥) → get_or new (place_in start a) 0 ≡ get_or bytes (place_in start a) 0
  written-out a out = elim (cases_eq (a / 4096) (address / 4096)) [
    | inl page ↦
        let same : start (a / 4096) ≡ start (address / 4096) = ap start page in
        elim (cases_lt a address) [
          | inl low ↦ w.below (place_in start a) (omega arith)
          | inr low ↦ elim (cases_lt a (address + length piece)) [
            | inl high ↦ absurd (out low high)
            | inr high ↦ w.above (place_in start a) (omega arith)
          ]
        ]
    | inr page ↦
        let here : start (address / 4096) % 4096 ≡ 0 = s.starts (address / 4096) in
        let there : start (a / 4096) % 4096 ≡ 0 = s.starts (a / 4096) in
        elim (cases_lt (start (a / 4096)) (start (address / 4096))) [
          | inl below ↦ w.below (place_in start a) (omega arith)
          | inr above ↦
              let other : start (address / 4096) ≡ start (a / 4096) → ⊥ = λ e. page (sym (s.apart (address / 4096) (a / 4096) own e)) in
              let more : start (address / 4096) < start (a / 4096) = omega arith in
              w.above (place_in start a) (omega arith)
        ]
  ]

  written-at : (a : ℕ) → get_or new (place_in start a) 0 ≡ cond (leb address a && ltb a (address + length piece)) (get_or piece (a - address) 0) (get_or bytes (place_in start a) 0)
  written-at a = elim (cases_lt a address) [
    | inl low ↦
        written-out a (λ h k. omega arith)
        ∙ sym (cond-false (leb address a && ltb a (address + length piece)) _ _ (and_left (leb address a) _ (lt-leb address a low)))
    | inr low ↦ elim (cases_lt a (address + length piece)) [
      | inl high ↦
          written-in a low high
          ∙ sym (cond-true (leb address a && ltb a (address + length piece)) _ _ (and_from (leb address a) _ (le-leb address a low) (lt-ltb a (address + length piece) high)))
      | inr high ↦
          written-out a (λ h k. omega arith)
          ∙ sym (cond-false (leb address a && ltb a (address + length piece)) _ _ (and_right (leb address a) _ (le-ltb a (address + length piece) high)))
    ]
  ]

  pub written-is : ◌≡◌ {A = Space} (record { areas = areas; byte = byte_in start new }) (with_bytes (record { areas = areas; byte = byte_in start bytes }) address piece)
  unfolding byte_in
  written-is = λ i. record { areas = areas; byte = λ a. written-at a i }

  -- and the pieces stay
  pub written-pieces : IsPieces start new
  written-pieces = record {
    whole = ap (λ n. n % 4096) w.length_stays ∙ s.whole;
    starts = s.starts;
    ends = λ page. let e : start page + 4096 ≤ length bytes = s.ends page in let n : length new ≡ length bytes = w.length_stays in omega arith;
    apart = s.apart;
    zeros = λ k h.
        let e : 4096 ≤ start (address / 4096) = own-page in
        w.below k (omega arith) ∙ s.zeros k h;
  }
    where
      own-page : 4096 ≤ start (address / 4096)
      own-page = let m : start (address / 4096) % 4096 ≡ 0 = s.starts (address / 4096) in omega arith
