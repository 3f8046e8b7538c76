-- The bytes of a load, laid over bytes of a space.
use Rattle.std.proofs.Common.{◌≡◌, ℕ, zero, suc, ◌+◌, ◌-◌, ◌≤◌, ◌<◌, inl, inr, min, max, refl, sym, ◌∙◌, ap, List, [], ◌∷◌, ◌++◌, length, take, drop, get_or, replicate, arith}
use Rattle.std.proofs.lemmas.Bool.{cases_lt}
use Rattle.std.proofs.lemmas.List.{append-nil, drop_all, ext_get_or, get_or-append_right, get_or-drop, get_or-take, get_or_append_left, length-append, length-drop, length-take-le, take_all}
use Rattle.lego_base.specs.Pieces.{laid_over}
use Rattle.lego_base.specs.Space.{Space, bytes_at, with_bytes}
use Rattle.elf_image.specs.declared.image.Segment.{Segment}
use Rattle.space_rules.specs.Pages.{loaded}
use Rattle.rv64_step.proofs.Writes.{above-bytes, below-bytes, in-bytes}

pub length_is : (space : Space) (a n : ℕ) → length (bytes_at space a n) ≡ n
length_is space a zero = refl
length_is space a (suc n) = ap suc (length_is space (a + 1) n)

get_is : (space : Space) (a n i : ℕ) → i < n → get_or (bytes_at space a n) i 0 ≡ space.byte (a + i)
get_is space a zero i h = absurd (omega arith)
get_is space a (suc n) zero h =
    let e : a ≡ a + 0 = omega arith in
    ap space.byte e
get_is space a (suc n) (suc i) h =
    let e : a + 1 + i ≡ a + suc i = omega arith in
    get_is space (a + 1) n i (omega arith) ∙ ap space.byte e

append_past : (xs ys : List ℕ) (n i : ℕ) → length xs ≡ n → n ≤ i → get_or (xs ++ ys) i 0 ≡ get_or ys (i - n) 0
append_past xs ys n i e h = get_or-append_right xs ys n i 0 e h

bytes_ext : (s t : Space) (a n : ℕ) → ((b : ℕ) → a ≤ b → b < a + n → s.byte b ≡ t.byte b) → bytes_at s a n ≡ bytes_at t a n
bytes_ext s t a zero same = refl
bytes_ext s t a (suc n) same = λ i. same a (omega arith) (omega arith) i ∷ bytes_ext s t (a + 1) n (λ b low high. same b (omega (arith, low)) (omega (arith, high))) i

-- where no load has a byte
pub zeros_are : (n a : ℕ) → replicate n 0 ≡ bytes_at (record { areas = []; byte = loaded [] }) a n
zeros_are zero a = refl
zeros_are (suc n) a = ap (λ (bytes : List ℕ). 0 ∷ bytes) (zeros_are n (a + 1))

-- a load laid over the bytes of those after it
pub lays : (segments : List Segment) (s : Segment) (i first n len : ℕ) (items old new : List ℕ) → drop (i - 1) segments ≡ s ∷ drop i segments → items ≡ bytes_at (record { areas = []; byte = loaded (drop i segments) }) first n → old ≡ items → len ≡ length items → length new ≡ length old → ((space : Space) → old ≡ bytes_at space first (length old) → new ≡ bytes_at (with_bytes space s.vaddr s.bytes) first (length old)) → take len (new ++ drop (length new) items) ≡ bytes_at (record { areas = []; byte = loaded (drop (i - 1) segments) }) first n
lays segments s i first n len items old new next so same size kept lay =
    let later : Space = record { areas = []; byte = loaded (drop i segments) } in
    let long : length old ≡ n = ap length (same ∙ so) ∙ length_is later first n in
    let all : length items ≡ length old = sym (ap length same) in
    let is : new ≡ bytes_at (with_bytes later s.vaddr s.bytes) first n = lay later (same ∙ so ∙ ap (bytes_at later first) (sym long)) ∙ ap (bytes_at (with_bytes later s.vaddr s.bytes) first) long in
    ap (λ (t : List ℕ). take len (new ++ t)) (drop_all (length new) items (omega (arith, all, kept)))
    ∙ ap (take len) (append-nil new)
    ∙ take_all len new (omega (arith, size, all, kept))
    ∙ is
    ∙ ap (λ (more : List Segment). bytes_at (record { areas = []; byte = loaded more }) first n) (sym next)

module _ (s : Space) (first n v : ℕ) (bs : List ℕ) (from to : ℕ) (from_is : from ≡ max first v) (to_is : to ≡ min (first + n) (v + length bs)) where
  -- none of them is the load's
  pub not_laid : to ≤ from → bytes_at s first n ≡ bytes_at (with_bytes s v bs) first n
  not_laid none =
      bytes_ext s (with_bytes s v bs) first n (λ b low high. elim (cases_lt b v) [
        | inl below ↦ sym (below-bytes v b (length bs) (get_or bs (b - v) 0) (s.byte b) below)
        | inr above ↦ sym (above-bytes v b (length bs) (get_or bs (b - v) 0) (s.byte b) (omega (arith, from_is, to_is, none, low, high, above)))
      ])

  module _ (old : List ℕ) (some : from < to) (is : old ≡ bytes_at s first n) where
    abbrev piece : List ℕ
    piece = take (to - from) (drop (from - v) bs)

    abbrev front : List ℕ
    front = take (from - first) old

    abbrev rest : List ℕ
    rest = drop (from - first + length piece) old

    long : length old ≡ n
    long = ap length is ∙ length_is s first n

    old_at : (i : ℕ) → i < n → get_or old i 0 ≡ s.byte (first + i)
    old_at i h = ap (λ (xs : List ℕ). get_or xs i 0) is ∙ get_is s first n i h

    piece_long : length piece ≡ to - from
    piece_long =
        let room : length (drop (from - v) bs) ≡ length bs - (from - v) = length-drop (from - v) bs in
        length-take-le (to - from) (drop (from - v) bs) (omega (arith, from_is, to_is, some, room))

    front_long : length front ≡ from - first
    front_long = length-take-le (from - first) old (omega (arith, from_is, to_is, some, long))

    both_long : length (front ++ piece) ≡ to - first
    both_long =
        let sum : length (front ++ piece) ≡ length front + length piece = length-append front piece in
        omega (arith, sum, front_long, piece_long, from_is, some)

    at : (i : ℕ) → i < n → get_or (front ++ piece ++ rest) i 0 ≡ (with_bytes s v bs).byte (first + i)
    at i h = elim (cases_lt i (to - first)) [
      | inl high ↦
          get_or_append_left (front ++ piece) rest 0 i (omega (arith, both_long, high))
          ∙ elim (cases_lt i (from - first)) [
            | inl low ↦
                get_or_append_left front piece 0 i (omega (arith, front_long, low))
                ∙ get_or-take (from - first) old i 0 low
                ∙ old_at i h
                ∙ sym (below-bytes v (first + i) (length bs) (get_or bs (first + i - v) 0) (s.byte (first + i)) (omega (arith, from_is, low)))
            | inr low ↦
                let same : from - v + (i - (from - first)) ≡ first + i - v = omega (arith, from_is, low) in
                append_past front piece (from - first) i front_long low
                ∙ get_or-take (to - from) (drop (from - v) bs) (i - (from - first)) 0 (omega (arith, from_is, low, high))
                ∙ get_or-drop (from - v) bs (i - (from - first)) 0
                ∙ ap (λ (j : ℕ). get_or bs j 0) same
                ∙ sym (in-bytes v (first + i) (length bs) (get_or bs (first + i - v) 0) (s.byte (first + i)) (omega (arith, from_is, low)) (omega (arith, to_is, from_is, high, some)))
          ]
      | inr high ↦
          let same : from - first + length piece + (i - (to - first)) ≡ i = omega (arith, piece_long, from_is, some, high) in
          append_past (front ++ piece) rest (to - first) i both_long high
          ∙ get_or-drop (from - first + length piece) old (i - (to - first)) 0
          ∙ ap (λ (j : ℕ). get_or old j 0) same
          ∙ old_at i h
          ∙ sym (above-bytes v (first + i) (length bs) (get_or bs (first + i - v) 0) (s.byte (first + i)) (omega (arith, to_is, high, h)))
    ]

    whole_long : length (front ++ piece ++ rest) ≡ n
    whole_long =
        let sum : length (front ++ piece ++ rest) ≡ length (front ++ piece) + length rest = length-append (front ++ piece) rest in
        let left : length rest ≡ length old - (from - first + length piece) = length-drop (from - first + length piece) old in
        omega (arith, sum, left, both_long, piece_long, long, from_is, to_is, some)

    -- those that are the load's become the load's
    pub laid : laid_over old (from - first) piece ≡ bytes_at (with_bytes s v bs) first n
    laid =
        ext_get_or 0 (front ++ piece ++ rest) (bytes_at (with_bytes s v bs) first n) (whole_long ∙ sym (length_is (with_bytes s v bs) first n))
        (λ i h. at i (omega (arith, h, whole_long)) ∙ sym (get_is (with_bytes s v bs) first n i (omega (arith, h, whole_long))))
