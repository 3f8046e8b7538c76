-- The list of pieces, entry by entry.
use Rattle.std.proofs.Common.{◌≡◌, ℕ, zero, suc, ◌*◌, ◌≤◌, refl, sym, ◌∙◌, ap, List, [], ◌∷◌, ◌++◌, append_assoc, append-nil, length, take, drop, Bool, true, false, not, ◌&&◌, cond, ltb, min, Option, Some, None, arith}
use Rattle.std.proofs.lemmas.List.{take-take, drop-take, length-drop}
use Rattle.lego_base.specs.declared.sizes.TheConstants.{LONGEST_FILE}
use Rattle.lego_base.specs.Space.{Space, bytes_at, number_of, permits}
use Rattle.kernel_objects.specs.declared.piece.Piece.{Piece}
use Rattle.linux_model.specs.Buffers.{pieces_of, total}
use Rattle.linux_model.specs.Effects.{Effect, AsksSpan, CopyIn, Reads}
use Rattle.linux_model.specs.Limits.{EFAULT, EINVAL, VECTOR_PIECES}
use Rattle.sys_io.specs.Vectors.{Whole, vector_fault, vector_looks}
use Rattle.linux_model.specs.State.{Kernel, Process}
use Rattle.linux_model.specs.Called.{Called, Gives, first, following}
use Rattle.linux_model.specs.FileCalls.{with_vector}
use Rattle.linux_model.specs.Laws.{Still}
use Rattle.call_machine.proofs.Rows.{following_both, following_has}
use Rattle.call_machine.specs.Laws.{effects_of}
use Rattle.sys_io.specs.declared.vectors.Vector.{Vector}

-- what is left of entries, after the pieces that were made of the first ones
abbrev pub Left : List ℕ → List Piece → List ℕ → Type 0
Left bytes items rest = (n : ℕ) → length bytes ≡ 16 * n → (m : ℕ) × (length rest ≡ 16 * m) × (items ++ pieces_of m rest ≡ pieces_of n bytes)

-- the first eight of the first sixteen bytes
front : (l : List ℕ) → take 8 (take 16 l) ≡ take 8 l
front l = take-take 8 16 l (omega arith)

pub entry_on : (bytes rest : List ℕ) (items items' : List Piece) (at size : ℕ) → 16 ≤ length rest → at ≡ number_of (take 8 (take 16 rest)) → size ≡ number_of (drop 8 (take 16 rest)) → items' ≡ items ++ record { at = at; size = size } ∷ []
    → Left bytes items rest → Left bytes items' (drop 16 rest)
entry_on bytes rest items items' at size some at_is size_is items_are left n is = by (left n is)
  where
    by : (m : ℕ) × (length rest ≡ 16 * m) × (items ++ pieces_of m rest ≡ pieces_of n bytes) → (m : ℕ) × (length (drop 16 rest) ≡ 16 * m) × (items' ++ pieces_of m (drop 16 rest) ≡ pieces_of n bytes)
    by (zero, count, so_far) = absurd (omega (arith, some, count))
    by (suc m, count, so_far) =
        let dropped = length-drop 16 rest in
        let fewer : length (drop 16 rest) ≡ 16 * m = omega (arith, dropped, count) in
        let first : number_of (take 8 (take 16 rest)) ≡ number_of (take 8 rest) = ap number_of (front rest) in
        let second : number_of (drop 8 (take 16 rest)) ≡ number_of (take 8 (drop 8 rest)) = ap number_of (drop-take 8 8 rest) in (
          m,
          fewer,
          ap (λ (l : List Piece). l ++ pieces_of m (drop 16 rest)) items_are
              ∙ append_assoc items (record { at = at; size = size } ∷ []) (pieces_of m (drop 16 rest))
              ∙ (λ i. items ++ record { at = (at_is ∙ first) i; size = (size_is ∙ second) i } ∷ pieces_of m (drop 16 rest))
              ∙ so_far,
        )

pub entries_end : (bytes rest : List ℕ) (items : List Piece) (n : ℕ) → length rest ≤ 15 → length bytes ≡ 16 * n → Left bytes items rest → items ≡ pieces_of n bytes
entries_end bytes rest items n few is left = by (left n is)
  where
    by : (m : ℕ) × (length rest ≡ 16 * m) × (items ++ pieces_of m rest ≡ pieces_of n bytes) → items ≡ pieces_of n bytes
    by (zero, count, so_far) = sym (append-nil items) ∙ so_far
    by (suc m, count, so_far) = absurd (omega (arith, few, count))

-- ---- what is looked at

pub looks_asks : (pid : ℕ) (space : Space) (at count : ℕ) → ltb VECTOR_PIECES count ≡ false
    → vector_looks pid space at count ≡ (AsksSpan pid at (16 * count) ∷ []) ++ cond (permits space 1 at (16 * count)) (Reads CopyIn pid at (bytes_at space at (16 * count)) ∷ []) []
looks_asks pid space at count few = ap (λ b. cond b [] (AsksSpan pid at (16 * count) ∷ cond (permits space 1 at (16 * count)) (Reads CopyIn pid at (bytes_at space at (16 * count)) ∷ []) [])) few

pub looks_good : (pid : ℕ) (space : Space) (at count : ℕ) → ltb VECTOR_PIECES count ≡ false → permits space 1 at (16 * count) ≡ true
    → vector_looks pid space at count ≡ (AsksSpan pid at (16 * count) ∷ []) ++ (Reads CopyIn pid at (bytes_at space at (16 * count)) ∷ [])
looks_good pid space at count few good = looks_asks pid space at count few ∙ ap (λ b. (AsksSpan pid at (16 * count) ∷ []) ++ cond b (Reads CopyIn pid at (bytes_at space at (16 * count)) ∷ []) []) good

-- too many bytes
pub fault_total : (space : Space) (at count ok : ℕ) → ltb VECTOR_PIECES count ≡ false → permits space 1 at (16 * count) ≡ true → ltb LONGEST_FILE (total (pieces_of count (bytes_at space at (16 * count)))) ≡ true
    → vector_fault space at count ok ≡ EINVAL
fault_total space at count ok few good large =
    ap (λ b. cond b EINVAL (cond (permits space 1 at (16 * count)) (cond (ltb LONGEST_FILE (total (pieces_of count (bytes_at space at (16 * count))))) EINVAL ok) EFAULT)) few
    ∙ ap (λ b. cond b (cond (ltb LONGEST_FILE (total (pieces_of count (bytes_at space at (16 * count))))) EINVAL ok) EFAULT) good
    ∙ ap (λ b. cond b EINVAL ok) large

abbrev pub of_some : List ℕ → Option (List ℕ) → List ℕ
of_some l None = l
of_some l (Some m) = m

pub total_same : (sum size whole : ℕ) → sum ≡ min size 18446744073709551615 → size ≡ whole → sum ≤ 16777216 → sum ≡ whole
total_same sum size whole is same short = omega (arith, is, same, short)

-- ---- the row of a list of pieces

-- what comes of it, by whether there are too many pieces, it may be read, and there are too many bytes
abbrev row_by : Bool → Bool → Bool → ℕ → ℕ → ℕ → List ℕ → Called → Called
row_by many good large pid at n bytes rest =
    first ((many, EINVAL) ∷ [])
    (following (AsksSpan pid at n ∷ cond good [] [])
    (first ((not (good && true), EFAULT) ∷ [])
    (following (Reads CopyIn pid at bytes ∷ []) (first ((large, EINVAL) ∷ []) rest))))

abbrev looks_by : Bool → Bool → ℕ → ℕ → ℕ → List ℕ → List Effect
looks_by many good pid at n bytes = cond many [] (AsksSpan pid at n ∷ cond good (Reads CopyIn pid at bytes ∷ []) [])

abbrev fault_by : Bool → Bool → Bool → ℕ → ℕ
fault_by many good large ok = cond many EINVAL (cond good (cond large EINVAL ok) EFAULT)

bad_by : (many good large : Bool) (pid at n : ℕ) (bytes : List ℕ) (rest : Called) (errno : ℕ) → ((ok : ℕ) → fault_by many good large ok ≡ errno) → row_by many good large pid at n bytes rest ≡ following (looks_by many good pid at n bytes) (Gives [] errno)
bad_by true good large pid at n bytes rest errno is = ap (Gives []) (is 0)
bad_by false false large pid at n bytes rest errno is = ap (Gives (AsksSpan pid at n ∷ [])) (is 0)
bad_by false true true pid at n bytes rest errno is = ap (Gives (AsksSpan pid at n ∷ Reads CopyIn pid at bytes ∷ [])) (is 0)
bad_by false true false pid at n bytes rest errno is = let none : 0 ≡ errno = is 0 in let one : 1 ≡ errno = is 1 in absurd (omega (arith, none, one))

good_by : (many good large : Bool) (pid at n : ℕ) (bytes : List ℕ) (rest : Called) → many ≡ false → good ≡ true → large ≡ false → row_by many good large pid at n bytes rest ≡ following (looks_by many good pid at n bytes) rest
good_by true good large pid at n bytes rest e f h = cc e
good_by false false large pid at n bytes rest e f h = cc f
good_by false true true pid at n bytes rest e f h = cc h
good_by false true false pid at n bytes rest e f h = following_both (AsksSpan pid at n ∷ []) (Reads CopyIn pid at bytes ∷ []) rest

-- a list that is refused
pub vector_bad : (p : Process) (k : Kernel) (pid at count errno : ℕ) (f : List Piece → ℕ → Called) → p.pid ≡ pid → ((ok : ℕ) → vector_fault (k.space pid) at count ok ≡ errno)
    → with_vector p k at count f ≡ following (vector_looks pid (k.space pid) at count) (Gives [] errno)
vector_bad p k pid at count errno f own is =
    (λ i. row_by (ltb VECTOR_PIECES count) (permits (k.space (own i)) 1 at (16 * count)) (ltb LONGEST_FILE (total (pieces_of count (bytes_at (k.space (own i)) at (16 * count))))) (own i) at (16 * count) (bytes_at (k.space (own i)) at (16 * count)) (f (pieces_of count (bytes_at (k.space (own i)) at (16 * count))) (total (pieces_of count (bytes_at (k.space (own i)) at (16 * count))))))
    ∙ bad_by (ltb VECTOR_PIECES count) (permits (k.space pid) 1 at (16 * count)) (ltb LONGEST_FILE (total (pieces_of count (bytes_at (k.space pid) at (16 * count))))) pid at (16 * count) (bytes_at (k.space pid) at (16 * count)) (f (pieces_of count (bytes_at (k.space pid) at (16 * count))) (total (pieces_of count (bytes_at (k.space pid) at (16 * count))))) errno is

-- and what comes of its pieces
pub vector_good : (p : Process) (k : Kernel) (pid at count : ℕ) (v : Vector) (f : List Piece → ℕ → Called) → p.pid ≡ pid → Whole (k.space pid) at count v
    → with_vector p k at count f ≡ following (vector_looks pid (k.space pid) at count) (f v.pieces.items v.total)
vector_good p k pid at count v f own w =
    (λ i. row_by (ltb VECTOR_PIECES count) (permits (k.space (own i)) 1 at (16 * count)) (ltb LONGEST_FILE (total (pieces_of count (bytes_at (k.space (own i)) at (16 * count))))) (own i) at (16 * count) (bytes_at (k.space (own i)) at (16 * count)) (f (pieces_of count (bytes_at (k.space (own i)) at (16 * count))) (total (pieces_of count (bytes_at (k.space (own i)) at (16 * count))))))
    ∙ good_by (ltb VECTOR_PIECES count) (permits (k.space pid) 1 at (16 * count)) (ltb LONGEST_FILE (total (pieces_of count (bytes_at (k.space pid) at (16 * count))))) pid at (16 * count) (bytes_at (k.space pid) at (16 * count)) (f (pieces_of count (bytes_at (k.space pid) at (16 * count))) (total (pieces_of count (bytes_at (k.space pid) at (16 * count))))) w.few w.good w.short
    ∙ (λ i. following (vector_looks pid (k.space pid) at count) (f (sym w.pieces i) (sym w.total_is i)))

looks_still_by : (many good : Bool) (pid at n : ℕ) (bytes : List ℕ) → Still (looks_by many good pid at n bytes)
looks_still_by true good pid at n bytes k = refl
looks_still_by false true pid at n bytes k = refl
looks_still_by false false pid at n bytes k = refl

pub looks_still : (pid : ℕ) (space : Space) (at count : ℕ) → Still (vector_looks pid space at count)
looks_still pid space at count = looks_still_by (ltb VECTOR_PIECES count) (permits space 1 at (16 * count)) pid at (16 * count) (bytes_at space at (16 * count))

-- what is looked at are the first effects, whatever the list is
rest_by : (many good large : Bool) (pid at n : ℕ) (bytes : List ℕ) (rest : Called) → (es : List Effect) × (effects_of (row_by many good large pid at n bytes rest) ≡ looks_by many good pid at n bytes ++ es)
rest_by true good large pid at n bytes rest = ([], refl)
rest_by false false large pid at n bytes rest = ([], refl)
rest_by false true true pid at n bytes rest = ([], refl)
rest_by false true false pid at n bytes rest = (effects_of rest, ap effects_of (following_both (AsksSpan pid at n ∷ []) (Reads CopyIn pid at bytes ∷ []) rest) ∙ following_has (AsksSpan pid at n ∷ Reads CopyIn pid at bytes ∷ []) rest)

pub vector_some : (p : Process) (k : Kernel) (pid at count : ℕ) (f : List Piece → ℕ → Called) → p.pid ≡ pid → (es : List Effect) × (effects_of (with_vector p k at count f) ≡ vector_looks pid (k.space pid) at count ++ es)
vector_some p k pid at count f own =
    let same : with_vector p k at count f ≡ row_by (ltb VECTOR_PIECES count) (permits (k.space pid) 1 at (16 * count)) (ltb LONGEST_FILE (total (pieces_of count (bytes_at (k.space pid) at (16 * count))))) pid at (16 * count) (bytes_at (k.space pid) at (16 * count)) (f (pieces_of count (bytes_at (k.space pid) at (16 * count))) (total (pieces_of count (bytes_at (k.space pid) at (16 * count))))) =
    λ i. row_by (ltb VECTOR_PIECES count) (permits (k.space (own i)) 1 at (16 * count)) (ltb LONGEST_FILE (total (pieces_of count (bytes_at (k.space (own i)) at (16 * count))))) (own i) at (16 * count) (bytes_at (k.space (own i)) at (16 * count)) (f (pieces_of count (bytes_at (k.space (own i)) at (16 * count))) (total (pieces_of count (bytes_at (k.space (own i)) at (16 * count))))) in
    let rest = rest_by (ltb VECTOR_PIECES count) (permits (k.space pid) 1 at (16 * count)) (ltb LONGEST_FILE (total (pieces_of count (bytes_at (k.space pid) at (16 * count))))) pid at (16 * count) (bytes_at (k.space pid) at (16 * count)) (f (pieces_of count (bytes_at (k.space pid) at (16 * count))) (total (pieces_of count (bytes_at (k.space pid) at (16 * count))))) in
    (rest.0, ap effects_of same ∙ rest.1)
