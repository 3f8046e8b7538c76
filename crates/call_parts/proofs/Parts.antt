-- The part of joined pieces, piece by piece.
use Rattle.std.proofs.Common.{◌≡◌, ℕ, zero, suc, ◌+◌, ◌-◌, ◌/◌, ◌<◌, ◌≤◌, ◌^◌, ◌&&◌, true, min, refl, ◌∙◌, ap, List, [], ◌∷◌, ◌++◌, append_assoc, arith}
use Rattle.lego_base.specs.declared.sizes.TheConstants.{USER_END}
use Rattle.lego_base.specs.Space.{Space, allows, perms_of, permits}
use Rattle.kernel_objects.specs.declared.piece.Piece.{Piece}
use Rattle.linux_model.specs.Buffers.{are_good, part}
use Rattle.call_parts.proofs.Reading.{both_true}
use Rattle.call_parts.proofs.Writing.{permits_fewer}
use Rattle.call_parts.specs.Pieces.{Each, PastFits, Within}

-- a part that stands after fewer bytes has its addresses below the greatest, too
pub fits_fewer : (s t : ℕ) (pieces : List Piece) → t ≤ s → Each (PastFits s) pieces → Each (PastFits t) pieces
fits_fewer s t [] h e = tt
fits_fewer s t (x ∷ pieces) h e = ((λ some. let first : x.at + min s x.size < 2 ^ 64 = e.0 (omega (arith, h, some)) in omega (arith, h, first)), fits_fewer s t pieces h e.1)

-- so does one that stands at the start
pub starts_fit : (pieces : List Piece) → Each (PastFits 0) pieces
starts_fit [] = tt
starts_fit (x ∷ pieces) = ((λ some. absurd (omega (arith, some))), starts_fit pieces)

-- and one of pieces in user space
pub within_fits : (s : ℕ) (pieces : List Piece) → Each Within pieces → Each (PastFits s) pieces
within_fits s [] e = tt
within_fits s (x ∷ pieces) e = ((λ some. let ends : x.at + x.size ≤ USER_END = e.0 (omega (arith, some)) in omega (arith, ends)), within_fits s pieces e.1)

-- later bytes of those that a space permits
permits_later : (space : Space) (need at k m n : ℕ) → k + m ≤ n → permits space need at n ≡ true → permits space need (at + k) m ≡ true
permits_later space need at zero m n h good = let same : at + zero ≡ at = omega arith in ap (λ a. permits space need a m) same ∙ permits_fewer space need at n m (omega (arith, h)) good
permits_later space need at (suc k) m zero h good = absurd (omega (arith, h))
permits_later space need at (suc k) m (suc n) h good =
    let parts = both_true (allows (perms_of space.areas (at / 4096)) need) (permits space need (at + 1) n) good in
    let same : at + suc k ≡ at + 1 + k = omega arith in
    ap (λ a. permits space need a m) same ∙ permits_later space need (at + 1) k m n (omega (arith, h)) parts.1

-- a part of good pieces is good
pub part_good : (space : Space) (need s n : ℕ) (pieces : List Piece) → are_good space need pieces ≡ true → are_good space need (part s n pieces) ≡ true
part_good space need s n [] good = refl
part_good space need s n (x ∷ pieces) good =
    let both = both_true (permits space need x.at x.size) (are_good space need pieces) good in
    let here = permits_later space need x.at (min s x.size) (min n (x.size - s)) x.size (omega arith) both.0 in
    ap (λ b. b && are_good space need (part (s - x.size) (n - min n (x.size - s)) pieces)) here ∙ part_good space need (s - x.size) (n - min n (x.size - s)) pieces both.1

-- one piece more
pub part_on : (items items' : List Piece) (s n : ℕ) (x : Piece) (rest all : List Piece) (S N past size : ℕ) → past ≡ min s x.size → size ≡ min n (x.size - past) → items' ≡ items ++ record { at = x.at + past; size = size } ∷ []
    → items ++ part s n (x ∷ rest) ≡ part S N all → items' ++ part (s - past) (n - size) rest ≡ part S N all
part_on items items' s n x rest all S N past size past_is size_is items_are so_far =
    let y : Piece = record { at = x.at + past; size = size } in
    let skips : s - past ≡ s - x.size = omega (arith, past_is) in
    let sizes : size ≡ min n (x.size - s) = omega (arith, past_is, size_is) in
    let same : y ∷ part (s - past) (n - size) rest ≡ part s n (x ∷ rest) = λ i. record { at = x.at + past_is i; size = sizes i } ∷ part (skips i) (n - sizes i) rest in
    ap (λ (l : List Piece). l ++ part (s - past) (n - size) rest) items_are
    ∙ append_assoc items (y ∷ []) (part (s - past) (n - size) rest)
    ∙ ap (λ (l : List Piece). items ++ l) same
    ∙ so_far
