-- Parts of a read have the bytes of its pieces.
use Rattle.std.proofs.Common.{◌≡◌, ℕ, zero, suc, ◌+◌, ◌-◌, ◌%◌, refl, ◌∙◌, ap, List, ◌∷◌, map, length, min, take, drop, arith}
use Rattle.lego_base.specs.Space.{Space, bytes_at}
use Rattle.linux_model.specs.Effects.{Kind}
use Rattle.split_script.specs.Cuts.{LINE, chunks_in, spans, spans_in, units_met}
use Rattle.split_script.specs.Touches.{Part, line_parts, part_of, shown_kind}
use Rattle.split_script.specs.Laws.{read_part}

length-bytes_at : (space : Space) (at n : ℕ) → length (bytes_at space at n) ≡ n
length-bytes_at space at zero = refl
length-bytes_at space at (suc n) = ap suc (length-bytes_at space (at + 1) n)

take-bytes_at : (space : Space) (k at n : ℕ) → take k (bytes_at space at n) ≡ bytes_at space at (min n k)
take-bytes_at space zero at n = let none : 0 ≡ min n 0 = omega arith in ap (bytes_at space at) none
take-bytes_at space (suc k) at zero = let none : 0 ≡ min 0 (suc k) = omega arith in ap (bytes_at space at) none
take-bytes_at space (suc k) at (suc n) =
    let one_more : suc (min n k) ≡ min (suc n) (suc k) = omega arith in
    ap (λ (bytes : List ℕ). space.byte at ∷ bytes) (take-bytes_at space k (at + 1) n) ∙ ap (bytes_at space at) one_more

drop-bytes_at : (space : Space) (k at n : ℕ) → drop k (bytes_at space at n) ≡ bytes_at space (at + k) (n - k)
drop-bytes_at space zero at n =
    let place : at ≡ at + 0 = omega arith in
    let size : n ≡ n - 0 = omega arith in
    λ i. bytes_at space (place i) (size i)
drop-bytes_at space (suc k) at zero = let none : 0 ≡ 0 - suc k = omega arith in ap (bytes_at space (at + suc k)) none
drop-bytes_at space (suc k) at (suc n) =
    let place : at + 1 + k ≡ at + suc k = omega arith in
    let size : n - k ≡ suc n - suc k = omega arith in
    drop-bytes_at space k (at + 1) n ∙ (λ i. bytes_at space (place i) (size i))

pieces : (kind : Kind) (pid : ℕ) (space : Space) (units at n : ℕ) → map (part_of pid (shown_kind kind)) (chunks_in 64 units at (bytes_at space at n)) ≡ map (read_part kind pid space) (spans_in 64 units at n)
pieces kind pid space zero at n = refl
pieces kind pid space (suc units) at n =
    (λ i. record { pid = pid; at = at; kind = shown_kind kind; bytes = take-bytes_at space (64 - at % 64) at n i }
    ∷ map (part_of pid (shown_kind kind)) (chunks_in 64 units (at + (64 - at % 64)) (drop-bytes_at space (64 - at % 64) at n i)))
    ∙ ap (λ (parts : List Part). read_part kind pid space (record { at = at; size = min n (64 - at % 64) }) ∷ parts) (pieces kind pid space units (at + (64 - at % 64)) (n - (64 - at % 64)))

pub reading_parts : (kind : Kind) (pid at n : ℕ) (space : Space) → line_parts (shown_kind kind) pid at (bytes_at space at n) ≡ map (read_part kind pid space) (spans LINE at n)
reading_parts kind pid at n space =
    ap (λ (m : ℕ). map (part_of pid (shown_kind kind)) (chunks_in 64 (units_met 64 at m) at (bytes_at space at n))) (length-bytes_at space at n)
    ∙ pieces kind pid space (units_met 64 at n) at n
