-- Blocks of a write, one after the other, are the write.
use Rattle.std.proofs.Common.{◌≡◌, ℕ, zero, suc, ◌+◌, ◌-◌, ◌*◌, ◌/◌, ◌%◌, ◌≤◌, ◌<◌, inl, inr, Bool, true, false, cond, eqb, ◌||◌, refl, sym, ◌∙◌, ap, List, [], ◌∷◌, ◌++◌, length, take, drop, append_assoc, append-nil, add-zero, arith}
use Rattle.std.proofs.Math.Seq.{take-append_seam}
use Rattle.std.proofs.lemmas.Bool.{cases_lt}
use Rattle.std.proofs.lemmas.List.{length-take-le, take-append-drop, length-drop, length-append, drop-drop}
use Rattle.lego_base.specs.Files.{File, file_bytes, is_file, with_file_bytes}
use Rattle.lego_base.specs.Pieces.{of_size, written_at, zeros}
use Rattle.lego_msg.specs.Plain.{Plain, effect, with_files}
use Rattle.split_script.specs.Cuts.{Chunk, chunks_in}
use Rattle.split_script.specs.Script.{writes_block}
use Rattle.split_script.specs.Laws.{blocks_put, BlocksMakeTheFile}
use Rattle.split_script.proofs.Wholes.{take_all, drop_all}

-- ---- bytes of one file

length-zeros : (n : ℕ) → length (zeros n) ≡ n
length-zeros zero = refl
length-zeros (suc n) = ap suc (length-zeros n)

-- of a size is of this size
length-of_size : (n : ℕ) (xs : List ℕ) → length (of_size n xs) ≡ n
length-of_size n xs =
    let none : length (zeros (n - length xs)) ≡ n - length xs = length-zeros (n - length xs) in
    elim (cases_lt n (length xs)) [
      | inl more ↦
          let size : length (take n xs) ≡ n = length-take-le n xs (omega arith) in
          let sum : length (take n xs ++ zeros (n - length xs)) ≡ length (take n xs) + length (zeros (n - length xs)) = length-append (take n xs) (zeros (n - length xs)) in
          omega arith
      | inr all ↦
          let size : length (take n xs) ≡ length xs = ap (λ (xs : List ℕ). length xs) (take_all n xs all) in
          let sum : length (take n xs ++ zeros (n - length xs)) ≡ length (take n xs) + length (zeros (n - length xs)) = length-append (take n xs) (zeros (n - length xs)) in
          omega arith
    ]

-- a front and what follows it
front_of : (xs ys : List ℕ) → of_size (length xs) (xs ++ ys) ≡ xs
front_of xs ys =
    let sum : length (xs ++ ys) ≡ length xs + length ys = length-append xs ys in
    let none : length xs - length (xs ++ ys) ≡ 0 = omega arith in
    (λ i. take-append_seam xs ys i ++ zeros (none i)) ∙ append-nil xs

drop_past : (xs ys : List ℕ) (n : ℕ) → drop (length xs + n) (xs ++ ys) ≡ drop n ys
drop_past [] ys n = let e : 0 + n ≡ n = omega arith in ap (λ (m : ℕ). drop m ys) e
drop_past (x ∷ xs) ys n = let e : suc (length xs) + n ≡ suc (length xs + n) = omega arith in ap (λ (m : ℕ). drop m (x ∷ (xs ++ ys))) e ∙ drop_past xs ys n

-- bytes that are written after bytes
written_more : (old : List ℕ) (off : ℕ) (xs ys : List ℕ) → written_at (written_at old off xs) (off + length xs) ys ≡ written_at old off (xs ++ ys)
written_more old off [] ys = ap (λ (n : ℕ). written_at old n ys) (add-zero off)
written_more old off (x ∷ xs) [] = ap (λ (zs : List ℕ). written_at old off zs) (sym (append-nil (x ∷ xs)))
written_more old off (x ∷ xs) (y ∷ ys) =
    let before : List ℕ = of_size off old in
    let first : List ℕ = of_size off old ++ x ∷ xs in
    let more : List ℕ = drop (off + length (x ∷ xs)) old in
    let size : length (of_size off old ++ x ∷ xs) ≡ off + length (x ∷ xs) = length-append (of_size off old) (x ∷ xs) ∙ ap (λ (n : ℕ). n + length (x ∷ xs)) (length-of_size off old) in
    let front : of_size (off + length (x ∷ xs)) (first ++ more) ≡ first = ap (λ (n : ℕ). of_size n (first ++ more)) (sym size) ∙ front_of first more in
    let back : drop (off + length (x ∷ xs) + length (y ∷ ys)) (first ++ more) ≡ drop (off + length (x ∷ xs) + length (y ∷ ys)) old =
    ap (λ (n : ℕ). drop (n + length (y ∷ ys)) (first ++ more)) (sym size) ∙ drop_past first more (length (y ∷ ys)) ∙ drop-drop (length (y ∷ ys)) (off + length (x ∷ xs)) old in
    let joined : length ((x ∷ xs) ++ y ∷ ys) ≡ length (x ∷ xs) + length (y ∷ ys) = length-append (x ∷ xs) (y ∷ ys) in
    let sum : off + length (x ∷ xs) + length (y ∷ ys) ≡ off + length ((x ∷ xs) ++ y ∷ ys) = omega arith in
    (λ i. (front i ++ y ∷ ys) ++ back i)
    ∙ (λ i. append_assoc before (x ∷ xs) (y ∷ ys) i ++ drop (sum i) old)

split : (old : List ℕ) (n off : ℕ) (bytes : List ℕ) → written_at (written_at old off (take n bytes)) (off + n) (drop n bytes) ≡ written_at old off bytes
split old n off bytes = elim (cases_lt n (length bytes)) [
  | inl more ↦
      let size : length (take n bytes) ≡ n = length-take-le n bytes (omega arith) in
      ap (λ (m : ℕ). written_at (written_at old off (take n bytes)) (off + m) (drop n bytes)) (sym size)
      ∙ written_more old off (take n bytes) (drop n bytes)
      ∙ ap (λ (bytes : List ℕ). written_at old off bytes) (take-append-drop n bytes)
  | inr all ↦ λ i. written_at (written_at old off (take_all n bytes all i)) (off + n) (drop_all n bytes all i)
]

-- blocks of one file, one after the other
abbrev all_written : List Chunk → List ℕ → List ℕ
all_written [] xs = xs
all_written (c ∷ cut) xs = all_written cut (written_at xs (c.at / 4096 * 4096 + c.at % 4096) c.bytes)

blocks_write : (units off : ℕ) (bytes old : List ℕ) → (0 < length bytes → off % 4096 + length bytes ≤ units * 4096) → all_written (chunks_in 4096 units off bytes) old ≡ written_at old off bytes
blocks_write zero off [] old enough = refl
blocks_write zero off (byte ∷ bytes) old enough = let some : off % 4096 + length (byte ∷ bytes) ≤ 0 = enough (omega arith) in absurd (omega arith)
blocks_write (suc units) off bytes old enough =
    let place : off / 4096 * 4096 + off % 4096 ≡ off = omega arith in
    let left : length (drop (4096 - off % 4096) bytes) ≡ length bytes - (4096 - off % 4096) = length-drop (4096 - off % 4096) bytes in
    ap (λ (n : ℕ). all_written (chunks_in 4096 units (off + (4096 - off % 4096)) (drop (4096 - off % 4096) bytes)) (written_at old n (take (4096 - off % 4096) bytes))) place
    ∙ blocks_write units (off + (4096 - off % 4096)) (drop (4096 - off % 4096) bytes) (written_at old off (take (4096 - off % 4096) bytes))
    (λ some. let all : off % 4096 + length bytes ≤ suc units * 4096 = enough (omega arith) in omega arith)
    ∙ split old (4096 - off % 4096) off bytes

-- ---- all files

there_at : (b : Bool) (f : File) (rest : List ℕ) (file : ℕ) (xs : List ℕ) (there : Bool) → eqb f.file file ≡ b → (b || there) ≡ true → (there ≡ true → rest ≡ xs) → cond (eqb (cond b (record f { bytes = xs }) f).file file) (cond b (record f { bytes = xs }) f).bytes rest ≡ xs
there_at true f rest file xs there e is more = ap (λ (b : Bool). cond b xs rest) e
there_at false f rest file xs there e is more = ap (λ (b : Bool). cond b f.bytes rest) e ∙ more is

bytes_there : (files : List File) (file : ℕ) (xs : List ℕ) → is_file files file ≡ true → file_bytes (with_file_bytes files file xs) file ≡ xs
bytes_there [] file xs is = cc is
bytes_there (f ∷ files) file xs is = there_at (eqb f.file file) f (file_bytes (with_file_bytes files file xs) file) file xs (is_file files file) refl is (bytes_there files file xs)

absent_at : (b there : Bool) (f g : File) → (b || there) ≡ false → (cond b g f ≡ f) × (there ≡ false)
absent_at true there f g e = cc e
absent_at false there f g e = (refl, e)

bytes_absent : (files : List File) (file : ℕ) (xs : List ℕ) → is_file files file ≡ false → with_file_bytes files file xs ≡ files
bytes_absent [] file xs none = refl
bytes_absent (f ∷ files) file xs none =
    let here = absent_at (eqb f.file file) (is_file files file) f (record f { bytes = xs }) none in
    λ i. here.0 i ∷ bytes_absent files file xs here.1 i

twice_at : (b : Bool) (f : File) (file : ℕ) (xs ys : List ℕ) → eqb f.file file ≡ b → cond (eqb (cond b (record f { bytes = xs }) f).file file) (record (cond b (record f { bytes = xs }) f) { bytes = ys }) (cond b (record f { bytes = xs }) f) ≡ cond b (record f { bytes = ys }) f
twice_at true f file xs ys e = ap (λ (b : Bool). cond b (record f { bytes = ys }) (record f { bytes = xs })) e
twice_at false f file xs ys e = ap (λ (b : Bool). cond b (record f { bytes = ys }) f) e

bytes_twice : (files : List File) (file : ℕ) (xs ys : List ℕ) → with_file_bytes (with_file_bytes files file xs) file ys ≡ with_file_bytes files file ys
bytes_twice [] file xs ys = refl
bytes_twice (f ∷ files) file xs ys = λ i. twice_at (eqb f.file file) f file xs ys refl i ∷ bytes_twice files file xs ys i

-- ---- the plain map

-- with these bytes of a file
abbrev set : ℕ → List ℕ → Plain → Plain
set file xs f = with_files (record f.files { files = with_file_bytes f.files.files file xs }) f

one_block : (file : ℕ) (c : Chunk) (xs : List ℕ) (f : Plain) → is_file f.files.files file ≡ true → effect (writes_block file c) (set file xs f) ≡ set file (written_at xs (c.at / 4096 * 4096 + c.at % 4096) c.bytes) f
one_block file c xs f is =
    (λ i. with_files (record f.files { files = with_file_bytes (with_file_bytes f.files.files file xs) file (written_at (bytes_there f.files.files file xs is i) (c.at / 4096 * 4096 + c.at % 4096) c.bytes) }) f)
    ∙ (λ i. with_files (record f.files { files = bytes_twice f.files.files file xs (written_at xs (c.at / 4096 * 4096 + c.at % 4096) c.bytes) i }) f)

putting : (file : ℕ) (cut : List Chunk) (xs : List ℕ) (f : Plain) → is_file f.files.files file ≡ true → blocks_put file cut (set file xs f) ≡ set file (all_written cut xs) f
putting file [] xs f is = refl
putting file (c ∷ cut) xs f is =
    ap (blocks_put file cut) (one_block file c xs f is)
    ∙ putting file cut (written_at xs (c.at / 4096 * 4096 + c.at % 4096) c.bytes) f is

unchanged : (file : ℕ) (xs : List ℕ) (f : Plain) → is_file f.files.files file ≡ false → set file xs f ≡ f
unchanged file xs f none = λ i. with_files (record f.files { files = bytes_absent f.files.files file xs none i }) f

passing : (file : ℕ) (cut : List Chunk) (f : Plain) → is_file f.files.files file ≡ false → blocks_put file cut f ≡ f
passing file [] f none = refl
passing file (c ∷ cut) f none = ap (blocks_put file cut) (unchanged file (written_at (file_bytes f.files.files file) (c.at / 4096 * 4096 + c.at % 4096) c.bytes) f none) ∙ passing file cut f none

either_way : (there : Bool) (file units off : ℕ) (bytes : List ℕ) (f : Plain) → is_file f.files.files file ≡ there → off % 4096 + length bytes ≤ suc units * 4096 → blocks_put file (chunks_in 4096 (suc units) off bytes) f ≡ set file (written_at (file_bytes f.files.files file) off bytes) f
either_way true file units off bytes f is enough =
    let old : List ℕ = file_bytes f.files.files file in
    let first : Chunk = record { at = off; bytes = take (4096 - off % 4096) bytes } in
    putting file (chunks_in 4096 units (off + (4096 - off % 4096)) (drop (4096 - off % 4096) bytes)) (written_at old (off / 4096 * 4096 + off % 4096) (take (4096 - off % 4096) bytes)) f is
    ∙ ap (λ (xs : List ℕ). set file xs f) (blocks_write (suc units) off bytes old (λ some. enough))
either_way false file units off bytes f none enough =
    passing file (chunks_in 4096 (suc units) off bytes) f none
    ∙ sym (unchanged file (written_at (file_bytes f.files.files file) off bytes) f none)

pub blocks : BlocksMakeTheFile
blocks file off [] f some = absurd (omega arith)
blocks file off (byte ∷ bytes) f some =
    let one_more : (off + length bytes) / 4096 - off / 4096 + 1 ≡ suc ((off + length bytes) / 4096 - off / 4096) = omega arith in
    ap (λ (n : ℕ). blocks_put file (chunks_in 4096 n off (byte ∷ bytes)) f) one_more
    ∙ either_way (is_file f.files.files file) file ((off + length bytes) / 4096 - off / 4096) off (byte ∷ bytes) f refl (omega arith)
