-- A row's fields are its mask and its match.
use Rattle.std.proofs.Common.{ℕ, ◌≡◌, ◌<◌, ◌+◌, ◌-◌, ◌*◌, ◌/◌, ◌%◌, ◌^◌, ◌==◌, ◌&&◌, Bool, true, List, [], ◌∷◌, refl, ap, sym, ◌∙◌, arith, lit<, nat_lt, add-zero}
use Rattle.std.specs.Prelude.{All, ◌↔◌, bit_and}
use Rattle.std.specs.List.{list_all}
use Rattle.std.proofs.lemmas.Bool.{and_parts, and_from, eqb-true, eq-eqb, ltb-true}
use Rattle.std.proofs.lemmas.Nat.{and_block, and_mask}
use Rattle.std.proofs.lemmas.List.Elements.{All-cons, All-nil}
use Rattle.rv64_decode.specs.Encoding.{field}
use Rattle.rv64_decode.specs.Table.{Fixed, nothing, funct3, funct6, funct7, others, Row, table, fits, has, mask_of_fixed, match_of_fixed, mask_of, match_of}
use Rattle.rv64_decode.specs.Laws.{FitsByMask, MatchesLieUnderMasks}

-- what a test says of each element of a list holds of each
pub all_from : {X : Type 0} (P : X → Type 0) (p : X → Bool) → ((x : X) → p x ≡ true → P x) → (xs : List X) → list_all p xs ≡ true → All P xs
all_from P p holds [] e = All-nil P
all_from P p holds (x ∷ xs) e =
    let parts = and_parts (p x) (list_all p xs) e in
    All-cons P x xs (holds x parts.0) (all_from P p holds xs parts.1)

-- the mask of a field above other masks
field_mask : (w from width low : ℕ) → low < 2 ^ from → bit_and w ((2 ^ width - 1) * 2 ^ from + low) ≡ field from width w * 2 ^ from + bit_and (w % 2 ^ from) low
field_mask w from width low below =
    let some : 0 < 2 ^ from = omega arith in
    let split : w / 2 ^ from * 2 ^ from + w % 2 ^ from ≡ w = omega arith in
    let rest : w % 2 ^ from < 2 ^ from = omega arith in
    ap (λ v. bit_and v ((2 ^ width - 1) * 2 ^ from + low)) (sym split)
    ∙ and_block from (w / 2 ^ from) (2 ^ width - 1) (w % 2 ^ from) low rest below
    ∙ ap (λ v. v * 2 ^ from + bit_and (w % 2 ^ from) low) (and_mask (w / 2 ^ from) width)

nothing_mask : (w : ℕ) → bit_and w 0x7f ≡ field 0 7 w
nothing_mask w = and_mask w 7 ∙ (omega arith)

funct3_mask : (w : ℕ) → bit_and w 0x707f ≡ field 12 3 w * 2 ^ 12 + field 0 7 w
funct3_mask w = field_mask w 12 3 0x7f (lit< tt) ∙ ap (λ v. field 12 3 w * 2 ^ 12 + v) (and_mask (w % 2 ^ 12) 7 ∙ (omega arith))

funct6_mask : (w : ℕ) → bit_and w 0xfc00707f ≡ field 26 6 w * 2 ^ 26 + (field 12 3 w * 2 ^ 12 + field 0 7 w)
funct6_mask w = field_mask w 26 6 0x707f (lit< tt) ∙ ap (λ v. field 26 6 w * 2 ^ 26 + v) (funct3_mask (w % 2 ^ 26) ∙ (omega arith))

funct7_mask : (w : ℕ) → bit_and w 0xfe00707f ≡ field 25 7 w * 2 ^ 25 + (field 12 3 w * 2 ^ 12 + field 0 7 w)
funct7_mask w = field_mask w 25 7 0x707f (lit< tt) ∙ ap (λ v. field 25 7 w * 2 ^ 25 + v) (funct3_mask (w % 2 ^ 25) ∙ (omega arith))

others_mask : (w : ℕ) → bit_and w 0xffffffff ≡ field 7 25 w * 2 ^ 7 + field 0 7 w
others_mask w = and_mask w 32 ∙ (omega arith)

-- the numbers of a row fit their fields
abbrev pub is_narrow_fixed : Fixed → Bool
is_narrow_fixed nothing = true
is_narrow_fixed (funct3 f3) = nat_lt f3 (2 ^ 3)
is_narrow_fixed (funct6 f3 f6) = nat_lt f3 (2 ^ 3) && nat_lt f6 (2 ^ 6)
is_narrow_fixed (funct7 f3 f7) = nat_lt f3 (2 ^ 3) && nat_lt f7 (2 ^ 7)
is_narrow_fixed (others n) = nat_lt n (2 ^ 25)

abbrev pub is_narrow : Row → Bool
is_narrow row = nat_lt row.opcode (2 ^ 7) && is_narrow_fixed row.fixed

-- two tests of numbers, as one fact
both : (a b c d : ℕ) → ((a == b && c == d) ≡ true) ↔ ((a ≡ b) × (c ≡ d))
both a b c d = (
  λ e. let parts = and_parts (a == b) (c == d) e in (eqb-true a b parts.0, eqb-true c d parts.1),
  λ e. and_from (a == b) (c == d) (eq-eqb a b e.0) (eq-eqb c d e.1),
)

all_three : (a b c d m n : ℕ) → ((a == b && (c == d && m == n)) ≡ true) ↔ ((a ≡ b) × (c ≡ d) × (m ≡ n))
all_three a b c d m n = (
  λ e.
      let parts = and_parts (a == b) (c == d && m == n) e in
      let inner = (both c d m n).0 parts.1 in
      (eqb-true a b parts.0, inner.0, inner.1),
  λ e. and_from (a == b) (c == d && m == n) (eq-eqb a b e.0) ((both c d m n).1 (e.1, e.2)),
)

row_by_mask : (w o : ℕ) (fixed : Fixed) → o < 2 ^ 7 → is_narrow_fixed fixed ≡ true
    → ((field 0 7 w == o && has w fixed) ≡ true) ↔ (bit_and w (0x7f + mask_of_fixed fixed) ≡ o + match_of_fixed fixed)
row_by_mask w o nothing small narrow = (
  λ e. let same = eqb-true (field 0 7 w) o (and_parts (field 0 7 w == o) true e).0 in nothing_mask w ∙ same ∙ sym (add-zero o),
  λ e.
      let same : field 0 7 w ≡ o = omega (arith, sym (nothing_mask w) ∙ e) in
      and_from (field 0 7 w == o) true (eq-eqb (field 0 7 w) o same) refl,
)
row_by_mask w o (funct3 a) small narrow =
    let low : a < 2 ^ 3 = ltb-true a (2 ^ 3) narrow in
    let tests = both (field 0 7 w) o (field 12 3 w) a in (
      λ e. let same = tests.0 e in funct3_mask w ∙ omega (arith, same.0, same.1),
      λ e.
          let masked : field 12 3 w * 2 ^ 12 + field 0 7 w ≡ o + a * 2 ^ 12 = sym (funct3_mask w) ∙ e in
          tests.1 (omega (arith, masked), omega (arith, masked)),
    )
row_by_mask w o (funct6 a b) small narrow =
    let parts = and_parts (nat_lt a (2 ^ 3)) (nat_lt b (2 ^ 6)) narrow in
    let low : a < 2 ^ 3 = ltb-true a (2 ^ 3) parts.0 in
    let high : b < 2 ^ 6 = ltb-true b (2 ^ 6) parts.1 in
    let tests = all_three (field 0 7 w) o (field 12 3 w) a (field 26 6 w) b in (
      λ e. let same = tests.0 e in funct6_mask w ∙ omega (arith, same.0, same.1, same.2),
      λ e.
          let masked : field 26 6 w * 2 ^ 26 + (field 12 3 w * 2 ^ 12 + field 0 7 w) ≡ o + (a * 2 ^ 12 + b * 2 ^ 26) = sym (funct6_mask w) ∙ e in
          tests.1 (omega (arith, masked), omega (arith, masked), omega (arith, masked)),
    )
row_by_mask w o (funct7 a b) small narrow =
    let parts = and_parts (nat_lt a (2 ^ 3)) (nat_lt b (2 ^ 7)) narrow in
    let low : a < 2 ^ 3 = ltb-true a (2 ^ 3) parts.0 in
    let high : b < 2 ^ 7 = ltb-true b (2 ^ 7) parts.1 in
    let tests = all_three (field 0 7 w) o (field 12 3 w) a (field 25 7 w) b in (
      λ e. let same = tests.0 e in funct7_mask w ∙ omega (arith, same.0, same.1, same.2),
      λ e.
          let masked : field 25 7 w * 2 ^ 25 + (field 12 3 w * 2 ^ 12 + field 0 7 w) ≡ o + (a * 2 ^ 12 + b * 2 ^ 25) = sym (funct7_mask w) ∙ e in
          tests.1 (omega (arith, masked), omega (arith, masked), omega (arith, masked)),
    )
row_by_mask w o (others n) small narrow =
    let high : n < 2 ^ 25 = ltb-true n (2 ^ 25) narrow in
    let tests = both (field 0 7 w) o (field 7 25 w) n in (
      λ e. let same = tests.0 e in others_mask w ∙ omega (arith, same.0, same.1),
      λ e.
          let masked : field 7 25 w * 2 ^ 7 + field 0 7 w ≡ o + n * 2 ^ 7 = sym (others_mask w) ∙ e in
          tests.1 (omega (arith, masked), omega (arith, masked)),
    )

-- a word belongs to a row exactly where it has the row's match under the row's mask
pub fits_by_mask : (w : ℕ) (r : Row) → is_narrow r ≡ true → (fits w r ≡ true) ↔ (bit_and w (mask_of r) ≡ match_of r)
fits_by_mask w r narrow =
    let parts = and_parts (nat_lt r.opcode (2 ^ 7)) (is_narrow_fixed r.fixed) narrow in
    row_by_mask w r.opcode r.fixed (ltb-true r.opcode (2 ^ 7) parts.0) parts.1

pub table_by_mask : FitsByMask
unfolding table
table_by_mask w = all_from (λ r. (fits w r ≡ true) ↔ (bit_and w (mask_of r) ≡ match_of r)) is_narrow (fits_by_mask w) table refl

pub table_under_masks : MatchesLieUnderMasks
unfolding table
table_under_masks =
    all_from (λ r. bit_and (match_of r) (mask_of r) ≡ match_of r) (λ r. bit_and (match_of r) (mask_of r) == match_of r) (λ r e. eqb-true _ _ e) table refl
