-- Bytes of a file, block by block.
use Rattle.std.proofs.Common.{None, ◌≡◌, ℕ, zero, suc, ◌+◌, ◌-◌, ◌*◌, ◌/◌, ◌%◌, ◌≤◌, ◌<◌, inl, inr, Bool, true, false, cond, eqb, ◌||◌, refl, sym, ◌∙◌, ap, List, [], ◌∷◌, ◌++◌, length, min, take, drop, append_assoc, append-nil, add-zero, arith}
use Rattle.std.proofs.Math.Seq.{take-append_seam}
use Rattle.std.proofs.lemmas.Bool.{cases_lt}
use Rattle.std.proofs.lemmas.List.{length-take-le, take-append-drop, length-drop, length-append, drop-drop}
use Rattle.lego_base.specs.Files.{File, file_bytes, is_file, with_file_bytes}
use Rattle.lego_base.specs.Pieces.{of_size, piece, written_at, zeros}
use Rattle.lego_base.specs.declared.ids.FileNo.{FileNo}
use Rattle.lego_base.specs.declared.records.HomeEntry.{HomeEntry}
use Rattle.lego_msg.specs.Files.{block_of}
use Rattle.lego_msg.specs.Plain.{Plain, effect, with_files}
use Rattle.lego_msg.specs.declared.body.Body.{Body}
use Rattle.lego_msg.specs.declared.operation.Operation.{Operation}
use Rattle.lego_msg.specs.declared.operation.Operation.TheVariants.{ReadsFile, WritesFile}
use Rattle.cluster.specs.Blocks.{all_bytes, blocks_met, bytes_told, reads_in, reads_of, with_written, writes_in, writes_of}
use Rattle.cluster.specs.Sequences.{AreReplies, FitAll, FitEach, ReadNoLine, effects}
use Rattle.lego_msg.specs.Track.{Caches}
use Rattle.lego_msg.specs.declared.place.Place.{Place}

-- ---- how many blocks are met

one_met : (at n : ℕ) → 0 < n → n ≤ 4096 - at % 4096 → blocks_met at n ≡ 1
one_met at zero some all = absurd (omega (arith, some))
one_met at (suc n) some all = omega (arith, all)

more_met : (at n m : ℕ) → 4096 - at % 4096 < n → n - (4096 - at % 4096) ≡ m → blocks_met at n ≡ suc (blocks_met (at + (4096 - at % 4096)) m)
more_met at zero m more is = absurd (omega (arith, more))
more_met at (suc n) zero more is = absurd (omega (arith, more, is))
more_met at (suc n) (suc m) more is = omega (arith, more, is)

next_met : (at n blocks : ℕ) → suc blocks ≡ blocks_met at n → blocks ≡ blocks_met (at + (4096 - at % 4096)) (n - (4096 - at % 4096))
next_met at zero blocks is = absurd (omega (arith, is))
next_met at (suc n) blocks is = elim (cases_lt (4096 - at % 4096) (suc n)) [
  | inl more ↦ let next = more_met at (suc n) (suc n - (4096 - at % 4096)) more refl in omega (arith, is, next)
  | inr all ↦
      let one = one_met at (suc n) (omega arith) all in
      let none : suc n - (4096 - at % 4096) ≡ 0 = omega (arith, all) in
      let no_block : blocks ≡ 0 = omega (arith, is, one) in
      no_block ∙ ap (blocks_met (at + (4096 - at % 4096))) (sym none)
]

suffice : (at n : ℕ) → 0 < n → at % 4096 + n ≤ blocks_met at n * 4096
suffice at zero some = absurd (omega (arith, some))
suffice at (suc n) some = omega arith

-- ---- one block, and then the others

take_all : (n : ℕ) (xs : List ℕ) → length xs ≤ n → take n xs ≡ xs
take_all zero [] h = refl
take_all zero (x ∷ xs) h = absurd (omega arith)
take_all (suc n) [] h = refl
take_all (suc n) (x ∷ xs) h = ap (λ (xs : List ℕ). x ∷ xs) (take_all n xs (omega arith))

drop_all : (n : ℕ) (xs : List ℕ) → length xs ≤ n → drop n xs ≡ []
drop_all zero [] h = refl
drop_all zero (x ∷ xs) h = absurd (omega arith)
drop_all (suc n) [] h = refl
drop_all (suc n) (x ∷ xs) h = drop_all n xs (omega arith)

pub reads_step : (file : FileNo) (at n : ℕ) → 0 < n → reads_of file at n ≡ ReadsFile file (at / 4096) (at % 4096) (min n (4096 - at % 4096)) ∷ reads_of file (at + min n (4096 - at % 4096)) (n - min n (4096 - at % 4096))
reads_step file at n some = elim (cases_lt (4096 - at % 4096) n) [
  | inl more ↦
      let met = more_met at n (n - (4096 - at % 4096)) more refl in
      let size : min n (4096 - at % 4096) ≡ 4096 - at % 4096 = omega (arith, more) in
      ap (λ (b : ℕ). reads_in b file at n) met
      ∙ ap (λ (k : ℕ). ReadsFile file (at / 4096) (at % 4096) (min n (4096 - at % 4096)) ∷ reads_of file (at + k) (n - k)) (sym size)
  | inr all ↦
      let met = one_met at n some all in
      let none : n - min n (4096 - at % 4096) ≡ 0 = omega (arith, all) in
      ap (λ (b : ℕ). reads_in b file at n) met
      ∙ ap (λ (k : ℕ). ReadsFile file (at / 4096) (at % 4096) (min n (4096 - at % 4096)) ∷ reads_of file (at + min n (4096 - at % 4096)) k) (sym none)
]

pub writes_step : (file : FileNo) (at : ℕ) (bytes : List ℕ) → 0 < length bytes →
    writes_of file at bytes ≡ WritesFile file (at / 4096) (at % 4096) (take (min (length bytes) (4096 - at % 4096)) bytes) ∷ writes_of file (at + min (length bytes) (4096 - at % 4096)) (drop (min (length bytes) (4096 - at % 4096)) bytes)
writes_step file at bytes some = elim (cases_lt (4096 - at % 4096) (length bytes)) [
  | inl more ↦
      let left : length (drop (4096 - at % 4096) bytes) ≡ length bytes - (4096 - at % 4096) = length-drop (4096 - at % 4096) bytes in
      let met = more_met at (length bytes) (length (drop (4096 - at % 4096) bytes)) more (sym left) in
      let size : min (length bytes) (4096 - at % 4096) ≡ 4096 - at % 4096 = omega (arith, more) in
      ap (λ (b : ℕ). writes_in b file at bytes) met
      ∙ ap (λ (k : ℕ). WritesFile file (at / 4096) (at % 4096) (take k bytes) ∷ writes_of file (at + k) (drop k bytes)) (sym size)
  | inr all ↦
      let met = one_met at (length bytes) some all in
      let size : min (length bytes) (4096 - at % 4096) ≡ length bytes = omega (arith, all) in
      let whole : take (4096 - at % 4096) bytes ≡ take (length bytes) bytes = take_all (4096 - at % 4096) bytes all ∙ sym (take_all (length bytes) bytes (omega arith)) in
      let none : drop (length bytes) bytes ≡ [] = drop_all (length bytes) bytes (omega arith) in
      ap (λ (b : ℕ). writes_in b file at bytes) met
      ∙ (λ i. WritesFile file (at / 4096) (at % 4096) (whole i) ∷ writes_of file (at + length bytes) (sym none i))
      ∙ ap (λ (k : ℕ). WritesFile file (at / 4096) (at % 4096) (take k bytes) ∷ writes_of file (at + k) (drop k bytes)) (sym size)
]

-- a read, and a write, more
pub reads_on : (file : FileNo) (at left count : ℕ) (items items' all : List Operation) → 0 < left → count ≡ min left (4096 - at % 4096) → items' ≡ items ++ ReadsFile file (at / 4096) (at % 4096) count ∷ [] → items ++ reads_of file at left ≡ all → items' ++ reads_of file (at + count) (left - count) ≡ all
reads_on file at left count items items' all some size is so =
    let step : reads_of file at left ≡ ReadsFile file (at / 4096) (at % 4096) count ∷ reads_of file (at + count) (left - count)
    = reads_step file at left some ∙ ap (λ (k : ℕ). ReadsFile file (at / 4096) (at % 4096) k ∷ reads_of file (at + k) (left - k)) (sym size) in
    ap (λ (l : List Operation). l ++ reads_of file (at + count) (left - count)) is
    ∙ append_assoc items (ReadsFile file (at / 4096) (at % 4096) count ∷ []) (reads_of file (at + count) (left - count))
    ∙ ap (λ (l : List Operation). items ++ l) (sym step) ∙ so

pub writes_on : (file : FileNo) (at : ℕ) (rest : List ℕ) (count : ℕ) (first later : List ℕ) (items items' all : List Operation) → 0 < length rest → count ≡ min (length rest) (4096 - at % 4096) → first ≡ take count rest → later ≡ drop count rest →
    items' ≡ items ++ WritesFile file (at / 4096) (at % 4096) first ∷ [] → items ++ writes_of file at rest ≡ all → items' ++ writes_of file (at + count) later ≡ all
writes_on file at rest count first later items items' all some size first_is later_is is so =
    let step : writes_of file at rest ≡ WritesFile file (at / 4096) (at % 4096) first ∷ writes_of file (at + count) later
    = writes_step file at rest some ∙ ap (λ (k : ℕ). WritesFile file (at / 4096) (at % 4096) (take k rest) ∷ writes_of file (at + k) (drop k rest)) (sym size)
    ∙ (λ i. WritesFile file (at / 4096) (at % 4096) (sym first_is i) ∷ writes_of file (at + count) (sym later_is i)) in
    ap (λ (l : List Operation). l ++ writes_of file (at + count) later) is
    ∙ append_assoc items (WritesFile file (at / 4096) (at % 4096) first ∷ []) (writes_of file (at + count) later)
    ∙ ap (λ (l : List Operation). items ++ l) (sym step) ∙ so

-- ---- what is owed of them

reads_no_line : (blocks : ℕ) (file : FileNo) (at n : ℕ) → ReadNoLine (reads_in blocks file at n)
reads_no_line zero file at n = tt
reads_no_line (suc blocks) file at n = (tt, reads_no_line blocks file (at + (4096 - at % 4096)) (n - (4096 - at % 4096)))

pub reads_lines : (file : FileNo) (at n : ℕ) → ReadNoLine (reads_of file at n)
reads_lines file at n = reads_no_line (blocks_met at n) file at n

reads_cached : (blocks : ℕ) (file : FileNo) (at n : ℕ) (by : Place) (caches : Caches) → FitEach caches by (reads_in blocks file at n)
reads_cached zero file at n by caches = tt
reads_cached (suc blocks) file at n by caches = (tt, reads_cached blocks file (at + (4096 - at % 4096)) (n - (4096 - at % 4096)) by (record caches { filled = None }))

pub reads_caches : (file : FileNo) (at n : ℕ) (by : Place) (caches : Caches) → FitEach caches by (reads_of file at n)
reads_caches file at n by caches = reads_cached (blocks_met at n) file at n by caches

reads_granted : (blocks : ℕ) (file : FileNo) (at n m : ℕ) (owners : List HomeEntry) (f : Plain) → blocks ≡ blocks_met at n → at + n ≤ 16777216 → is_file f.files.files file.0 ≡ true → FitAll m owners f [] (reads_in blocks file at n)
reads_granted zero file at n m owners f is most there = tt
reads_granted (suc blocks) file at zero m owners f is most there = absurd (omega (arith, is))
reads_granted (suc blocks) file at (suc n) m owners f is most there =
    let low : at / 4096 < 4096 = omega (arith, most) in
    let room : at % 4096 + min (suc n) (4096 - at % 4096) ≤ 4096 = omega arith in (
      tt,
      tt,
      (there, (low, room)),
      tt,
      reads_granted blocks file (at + (4096 - at % 4096)) (suc n - (4096 - at % 4096)) m owners f (next_met at (suc n) blocks is) (omega (arith, most)) there,
    )

pub reads_fit : (file : FileNo) (at n m : ℕ) (owners : List HomeEntry) (f : Plain) → at + n ≤ 16777216 → is_file f.files.files file.0 ≡ true → FitAll m owners f [] (reads_of file at n)
reads_fit file at n m owners f most there = reads_granted (blocks_met at n) file at n m owners f refl most there

writes_no_line : (blocks : ℕ) (file : FileNo) (at : ℕ) (bytes : List ℕ) → ReadNoLine (writes_in blocks file at bytes)
writes_no_line zero file at bytes = tt
writes_no_line (suc blocks) file at bytes = (tt, writes_no_line blocks file (at + (4096 - at % 4096)) (drop (4096 - at % 4096) bytes))

pub writes_lines : (file : FileNo) (at : ℕ) (bytes : List ℕ) → ReadNoLine (writes_of file at bytes)
writes_lines file at bytes = writes_no_line (blocks_met at (length bytes)) file at bytes

writes_cached : (blocks : ℕ) (file : FileNo) (at : ℕ) (bytes : List ℕ) (by : Place) (caches : Caches) → FitEach caches by (writes_in blocks file at bytes)
writes_cached zero file at bytes by caches = tt
writes_cached (suc blocks) file at bytes by caches = (tt, writes_cached blocks file (at + (4096 - at % 4096)) (drop (4096 - at % 4096) bytes) by (record caches { filled = None }))

pub writes_caches : (file : FileNo) (at : ℕ) (bytes : List ℕ) (by : Place) (caches : Caches) → FitEach caches by (writes_of file at bytes)
writes_caches file at bytes by caches = writes_cached (blocks_met at (length bytes)) file at bytes by caches

-- a file that is there stays there
same_number : (b : Bool) (f : File) (xs : List ℕ) → (cond b (record f { bytes = xs }) f).file ≡ f.file
same_number true f xs = refl
same_number false f xs = refl

stays_there : (files : List File) (file number : ℕ) (xs : List ℕ) → is_file (with_file_bytes files file xs) number ≡ is_file files number
stays_there [] file number xs = refl
stays_there (f ∷ files) file number xs = λ i. eqb (same_number (eqb f.file file) f xs i) number || stays_there files file number xs i

writes_granted : (blocks : ℕ) (file : FileNo) (at : ℕ) (bytes : List ℕ) (m : ℕ) (owners : List HomeEntry) (f : Plain) → blocks ≡ blocks_met at (length bytes) → at + length bytes ≤ 16777216 → is_file f.files.files file.0 ≡ true → FitAll m owners f [] (writes_in blocks file at bytes)
writes_granted zero file at bytes m owners f is most there = tt
writes_granted (suc blocks) file at [] m owners f is most there = absurd (omega (arith, is))
writes_granted (suc blocks) file at (byte ∷ bytes) m owners f is most there =
    let room : ℕ = 4096 - at % 4096 in
    let size : length (drop (4096 - at % 4096) (byte ∷ bytes)) ≡ length (byte ∷ bytes) - (4096 - at % 4096) = length-drop (4096 - at % 4096) (byte ∷ bytes) in
    let low : at / 4096 < 4096 = omega (arith, most) in
    let few : length (take (4096 - at % 4096) (byte ∷ bytes)) ≤ 4096 - at % 4096 = short (4096 - at % 4096) (byte ∷ bytes) in
    let fits : at % 4096 + length (take (4096 - at % 4096) (byte ∷ bytes)) ≤ 4096 = omega (arith, few) in (
      tt,
      tt,
      (there, (low, fits)),
      tt,
      writes_granted blocks file (at + (4096 - at % 4096)) (drop (4096 - at % 4096) (byte ∷ bytes)) m owners _
          (next_met at (length (byte ∷ bytes)) blocks is ∙ ap (blocks_met (at + (4096 - at % 4096))) (sym size))
          (omega (arith, most, size))
          (stays_there f.files.files file.0 file.0 _ ∙ there),
    )
  where
    short : (n : ℕ) (xs : List ℕ) → length (take n xs) ≤ n
    short zero xs = omega arith
    short (suc n) [] = omega arith
    short (suc n) (x ∷ xs) = let less = short n xs in omega (arith, less)

pub writes_fit : (file : FileNo) (at : ℕ) (bytes : List ℕ) (m : ℕ) (owners : List HomeEntry) (f : Plain) → at + length bytes ≤ 16777216 → is_file f.files.files file.0 ≡ true → FitAll m owners f [] (writes_of file at bytes)
writes_fit file at bytes m owners f most there = writes_granted (blocks_met at (length bytes)) file at bytes m owners f refl most there

-- ---- what reads say

-- a piece that ends before the padding, and within what is taken
inside : (ys more : List ℕ) (m off n : ℕ) → off + n ≤ m → off + n ≤ length ys → take n (drop off (take m (ys ++ more))) ≡ take n (drop off ys)
inside ys more m off zero low short = refl
inside [] more m off (suc n) low short = absurd (omega arith)
inside (y ∷ ys) more zero off (suc n) low short = absurd (omega arith)
inside (y ∷ ys) more (suc m) zero (suc n) low short = ap (λ (ys : List ℕ). y ∷ ys) (inside ys more m zero n (omega arith) (omega arith))
inside (y ∷ ys) more (suc m) (suc off) (suc n) low short = inside ys more m off (suc n) (omega arith) (omega arith)

one_read : (bytes : List ℕ) (off n : ℕ) → off % 4096 + n ≤ 4096 → (0 < n → off + n ≤ length bytes) → piece (block_of bytes (off / 4096)) (off % 4096) n ≡ take n (drop off bytes)
one_read bytes off zero room within = refl
one_read bytes off (suc n) room within =
    let all : off + suc n ≤ length bytes = within (omega arith) in
    let left : length (drop (off / 4096 * 4096) bytes) ≡ length bytes - off / 4096 * 4096 = length-drop (off / 4096 * 4096) bytes in
    let place : off / 4096 * 4096 + off % 4096 ≡ off = omega arith in
    inside (drop (off / 4096 * 4096) bytes) (zeros 4096) 4096 (off % 4096) (suc n) room (omega arith)
    ∙ ap (λ (ys : List ℕ). take (suc n) ys) (drop-drop (off % 4096) (off / 4096 * 4096) bytes)
    ∙ ap (λ (m : ℕ). take (suc n) (drop m bytes)) place

none_taken : (n : ℕ) → take {A = ℕ} n [] ≡ []
none_taken zero = refl
none_taken (suc n) = refl

take_more : (k n : ℕ) (ys : List ℕ) → take k ys ++ take n (drop k ys) ≡ take (k + n) ys
take_more zero n ys = let e : 0 + n ≡ n = omega arith in ap (λ (m : ℕ). take m ys) (sym e)
take_more (suc k) n [] = none_taken n ∙ sym (none_taken (suc k + n))
take_more (suc k) n (y ∷ ys) =
    let e : suc k + n ≡ suc (k + n) = omega arith in
    ap (λ (ys : List ℕ). y ∷ ys) (take_more k n ys) ∙ ap (λ (m : ℕ). take m (y ∷ ys)) (sym e)

-- the bytes up to a block's end, then the others where there are any
first_then : (bytes : List ℕ) (off n room : ℕ) → take (min n room) (drop off bytes) ++ take (n - room) (drop (off + room) bytes) ≡ take n (drop off bytes)
first_then bytes off n room = elim (cases_lt room n) [
  | inl more ↦
      let size : min n room ≡ room = omega arith in
      let sum : room + (n - room) ≡ n = omega arith in
      ap (λ (m : ℕ). take m (drop off bytes) ++ take (n - room) (drop (off + room) bytes)) size
      ∙ ap (λ (ys : List ℕ). take room (drop off bytes) ++ take (n - room) ys) (sym (drop-drop room off bytes))
      ∙ take_more room (n - room) (drop off bytes)
      ∙ ap (λ (m : ℕ). take m (drop off bytes)) sum
  | inr all ↦
      let size : min n room ≡ n = omega arith in
      let none : n - room ≡ 0 = omega arith in
      (λ i. take (size i) (drop off bytes) ++ take (none i) (drop (off + room) bytes)) ∙ append-nil (take n (drop off bytes))
]

module _ (f : Plain) (file : FileNo) where
  abbrev bytes : List ℕ
  bytes = file_bytes f.files.files file.0

  reads_say : (blocks at n : ℕ) (answers : List Body) → AreReplies f (reads_in blocks file at n) answers → (0 < n → at + n ≤ length bytes) → (0 < n → at % 4096 + n ≤ blocks * 4096) → all_bytes answers ≡ take n (drop at bytes)
  reads_say zero at zero [] replies within enough = refl
  reads_say zero at (suc n) [] replies within enough = let some : at % 4096 + suc n ≤ 0 = enough (omega arith) in absurd (omega arith)
  reads_say zero at n (body ∷ answers) replies within enough = absurd replies
  reads_say (suc blocks) at n [] replies within enough = absurd replies
  reads_say (suc blocks) at n (body ∷ answers) replies within enough =
      ap (λ (b : Body). bytes_told b ++ all_bytes answers) replies.0
      ∙ ap (λ (ys : List ℕ). ys ++ all_bytes answers)
      (one_read bytes at (min n (4096 - at % 4096)) (omega arith) (λ some. let all : at + n ≤ length bytes = within (omega arith) in omega arith))
      ∙ ap (λ (ys : List ℕ). take (min n (4096 - at % 4096)) (drop at bytes) ++ ys)
      (reads_say blocks (at + (4096 - at % 4096)) (n - (4096 - at % 4096)) answers replies.1
      (λ some. let all : at + n ≤ length bytes = within (omega arith) in omega arith)
      (λ some. let all : at % 4096 + n ≤ suc blocks * 4096 = enough (omega arith) in omega arith))
      ∙ first_then bytes at n (4096 - at % 4096)

  pub reads_give : (at n : ℕ) (answers : List Body) → AreReplies f (reads_of file at n) answers → at + n ≤ length bytes → all_bytes answers ≡ piece bytes at n
  reads_give at n answers replies within = reads_say (blocks_met at n) at n answers replies (λ some. within) (suffice at n)

-- ---- what writes make

length-zeros : (n : ℕ) → length (zeros n) ≡ n
length-zeros zero = refl
length-zeros (suc n) = ap suc (length-zeros n)

length-of_size : (n : ℕ) (xs : List ℕ) → length (of_size n xs) ≡ n
length-of_size n xs =
    let none : length (zeros (n - length xs)) ≡ n - length xs = length-zeros (n - length xs) in
    elim (cases_lt n (length xs)) [
      | inl more ↦
          let size : length (take n xs) ≡ n = length-take-le n xs (omega arith) in
          let sum : length (take n xs ++ zeros (n - length xs)) ≡ length (take n xs) + length (zeros (n - length xs)) = length-append (take n xs) (zeros (n - length xs)) in
          omega arith
      | inr all ↦
          let size : length (take n xs) ≡ length xs = ap (λ (xs : List ℕ). length xs) (take_all n xs all) in
          let sum : length (take n xs ++ zeros (n - length xs)) ≡ length (take n xs) + length (zeros (n - length xs)) = length-append (take n xs) (zeros (n - length xs)) in
          omega arith
    ]

front_of : (xs ys : List ℕ) → of_size (length xs) (xs ++ ys) ≡ xs
front_of xs ys =
    let sum : length (xs ++ ys) ≡ length xs + length ys = length-append xs ys in
    let none : length xs - length (xs ++ ys) ≡ 0 = omega arith in
    (λ i. take-append_seam xs ys i ++ zeros (none i)) ∙ append-nil xs

drop_past : (xs ys : List ℕ) (n : ℕ) → drop (length xs + n) (xs ++ ys) ≡ drop n ys
drop_past [] ys n = let e : 0 + n ≡ n = omega arith in ap (λ (m : ℕ). drop m ys) e
drop_past (x ∷ xs) ys n = let e : suc (length xs) + n ≡ suc (length xs + n) = omega arith in ap (λ (m : ℕ). drop m (x ∷ (xs ++ ys))) e ∙ drop_past xs ys n

-- bytes that are written after bytes
written_more : (old : List ℕ) (off : ℕ) (xs ys : List ℕ) → written_at (written_at old off xs) (off + length xs) ys ≡ written_at old off (xs ++ ys)
written_more old off [] ys = ap (λ (n : ℕ). written_at old n ys) (add-zero off)
written_more old off (x ∷ xs) [] = ap (λ (zs : List ℕ). written_at old off zs) (sym (append-nil (x ∷ xs)))
written_more old off (x ∷ xs) (y ∷ ys) =
    let before : List ℕ = of_size off old in
    let first : List ℕ = of_size off old ++ x ∷ xs in
    let more : List ℕ = drop (off + length (x ∷ xs)) old in
    let size : length (of_size off old ++ x ∷ xs) ≡ off + length (x ∷ xs) = length-append (of_size off old) (x ∷ xs) ∙ ap (λ (n : ℕ). n + length (x ∷ xs)) (length-of_size off old) in
    let front : of_size (off + length (x ∷ xs)) (first ++ more) ≡ first = ap (λ (n : ℕ). of_size n (first ++ more)) (sym size) ∙ front_of first more in
    let back : drop (off + length (x ∷ xs) + length (y ∷ ys)) (first ++ more) ≡ drop (off + length (x ∷ xs) + length (y ∷ ys)) old =
    ap (λ (n : ℕ). drop (n + length (y ∷ ys)) (first ++ more)) (sym size) ∙ drop_past first more (length (y ∷ ys)) ∙ drop-drop (length (y ∷ ys)) (off + length (x ∷ xs)) old in
    let joined : length ((x ∷ xs) ++ y ∷ ys) ≡ length (x ∷ xs) + length (y ∷ ys) = length-append (x ∷ xs) (y ∷ ys) in
    let sum : off + length (x ∷ xs) + length (y ∷ ys) ≡ off + length ((x ∷ xs) ++ y ∷ ys) = omega arith in
    (λ i. (front i ++ y ∷ ys) ++ back i)
    ∙ (λ i. append_assoc before (x ∷ xs) (y ∷ ys) i ++ drop (sum i) old)

split : (old : List ℕ) (n off : ℕ) (bytes : List ℕ) → written_at (written_at old off (take n bytes)) (off + n) (drop n bytes) ≡ written_at old off bytes
split old n off bytes = elim (cases_lt n (length bytes)) [
  | inl more ↦
      let size : length (take n bytes) ≡ n = length-take-le n bytes (omega arith) in
      ap (λ (m : ℕ). written_at (written_at old off (take n bytes)) (off + m) (drop n bytes)) (sym size)
      ∙ written_more old off (take n bytes) (drop n bytes)
      ∙ ap (λ (bytes : List ℕ). written_at old off bytes) (take-append-drop n bytes)
  | inr all ↦ λ i. written_at (written_at old off (take_all n bytes all i)) (off + n) (drop_all n bytes all i)
]

there_at : (b : Bool) (f : File) (rest : List ℕ) (file : ℕ) (xs : List ℕ) (there : Bool) → eqb f.file file ≡ b → (b || there) ≡ true → (there ≡ true → rest ≡ xs) → cond (eqb (cond b (record f { bytes = xs }) f).file file) (cond b (record f { bytes = xs }) f).bytes rest ≡ xs
there_at true f rest file xs there e is more = ap (λ (b : Bool). cond b xs rest) e
there_at false f rest file xs there e is more = ap (λ (b : Bool). cond b f.bytes rest) e ∙ more is

bytes_there : (files : List File) (file : ℕ) (xs : List ℕ) → is_file files file ≡ true → file_bytes (with_file_bytes files file xs) file ≡ xs
bytes_there [] file xs is = cc is
bytes_there (f ∷ files) file xs is = there_at (eqb f.file file) f (file_bytes (with_file_bytes files file xs) file) file xs (is_file files file) refl is (bytes_there files file xs)

twice_at : (b : Bool) (f : File) (file : ℕ) (xs ys : List ℕ) → eqb f.file file ≡ b → cond (eqb (cond b (record f { bytes = xs }) f).file file) (record (cond b (record f { bytes = xs }) f) { bytes = ys }) (cond b (record f { bytes = xs }) f) ≡ cond b (record f { bytes = ys }) f
twice_at true f file xs ys e = ap (λ (b : Bool). cond b (record f { bytes = ys }) (record f { bytes = xs })) e
twice_at false f file xs ys e = ap (λ (b : Bool). cond b (record f { bytes = ys }) f) e

bytes_twice : (files : List File) (file : ℕ) (xs ys : List ℕ) → with_file_bytes (with_file_bytes files file xs) file ys ≡ with_file_bytes files file ys
bytes_twice [] file xs ys = refl
bytes_twice (f ∷ files) file xs ys = λ i. twice_at (eqb f.file file) f file xs ys refl i ∷ bytes_twice files file xs ys i

-- the plain map with these bytes of a file
abbrev set : ℕ → List ℕ → Plain → Plain
set file xs f = with_files (record f.files { files = with_file_bytes f.files.files file xs }) f

one_written : (file : FileNo) (block off : ℕ) (bytes xs : List ℕ) (f : Plain) → is_file f.files.files file.0 ≡ true → effect (WritesFile file block off bytes) (set file.0 xs f) ≡ set file.0 (written_at xs (block * 4096 + off) bytes) f
one_written file block off bytes xs f is =
    (λ i. with_files (record f.files { files = with_file_bytes (with_file_bytes f.files.files file.0 xs) file.0 (written_at (bytes_there f.files.files file.0 xs is i) (block * 4096 + off) bytes) }) f)
    ∙ (λ i. with_files (record f.files { files = bytes_twice f.files.files file.0 xs (written_at xs (block * 4096 + off) bytes) i }) f)

writes_put : (blocks : ℕ) (file : FileNo) (at : ℕ) (bytes xs : List ℕ) (f : Plain) → is_file f.files.files file.0 ≡ true → (0 < length bytes → at % 4096 + length bytes ≤ blocks * 4096) → effects (writes_in blocks file at bytes) (set file.0 xs f) ≡ set file.0 (written_at xs at bytes) f
writes_put zero file at [] xs f is enough = refl
writes_put zero file at (byte ∷ bytes) xs f is enough = let some : at % 4096 + length (byte ∷ bytes) ≤ 0 = enough (omega arith) in absurd (omega arith)
writes_put (suc blocks) file at bytes xs f is enough =
    let place : at / 4096 * 4096 + at % 4096 ≡ at = omega arith in
    let left : length (drop (4096 - at % 4096) bytes) ≡ length bytes - (4096 - at % 4096) = length-drop (4096 - at % 4096) bytes in
    ap (effects (writes_in blocks file (at + (4096 - at % 4096)) (drop (4096 - at % 4096) bytes)))
    (one_written file (at / 4096) (at % 4096) (take (4096 - at % 4096) bytes) xs f is ∙ ap (λ (n : ℕ). set file.0 (written_at xs n (take (4096 - at % 4096) bytes)) f) place)
    ∙ writes_put blocks file (at + (4096 - at % 4096)) (drop (4096 - at % 4096) bytes) (written_at xs at (take (4096 - at % 4096) bytes)) f is
    (λ some. let all : at % 4096 + length bytes ≤ suc blocks * 4096 = enough (omega arith) in omega arith)
    ∙ ap (λ (ys : List ℕ). set file.0 ys f) (split xs (4096 - at % 4096) at bytes)

-- the first block, on the files as they are
writes_from : (blocks : ℕ) (file : FileNo) (at : ℕ) (byte : ℕ) (bytes : List ℕ) (f : Plain) → is_file f.files.files file.0 ≡ true → at % 4096 + length (byte ∷ bytes) ≤ suc blocks * 4096 → effects (writes_in (suc blocks) file at (byte ∷ bytes)) f ≡ with_written file at (byte ∷ bytes) f
writes_from blocks file at byte bytes f is enough =
    let old : List ℕ = file_bytes f.files.files file.0 in
    let place : at / 4096 * 4096 + at % 4096 ≡ at = omega arith in
    let left : length (drop (4096 - at % 4096) (byte ∷ bytes)) ≡ length (byte ∷ bytes) - (4096 - at % 4096) = length-drop (4096 - at % 4096) (byte ∷ bytes) in
    ap (λ (n : ℕ). effects (writes_in blocks file (at + (4096 - at % 4096)) (drop (4096 - at % 4096) (byte ∷ bytes))) (set file.0 (written_at old n (take (4096 - at % 4096) (byte ∷ bytes))) f)) place
    ∙ writes_put blocks file (at + (4096 - at % 4096)) (drop (4096 - at % 4096) (byte ∷ bytes)) (written_at old at (take (4096 - at % 4096) (byte ∷ bytes))) f is (λ some. omega (arith, enough, left, some))
    ∙ ap (λ (ys : List ℕ). set file.0 ys f) (split old (4096 - at % 4096) at (byte ∷ bytes))

pub writes_make : (file : FileNo) (at : ℕ) (bytes : List ℕ) (f : Plain) → is_file f.files.files file.0 ≡ true → effects (writes_of file at bytes) f ≡ with_written file at bytes f
writes_make file at [] f is = refl
writes_make file at (byte ∷ bytes) f is =
    let one_more : (at + length bytes) / 4096 - at / 4096 + 1 ≡ suc ((at + length bytes) / 4096 - at / 4096) = omega arith in
    ap (λ (n : ℕ). effects (writes_in n file at (byte ∷ bytes)) f) one_more
    ∙ writes_from ((at + length bytes) / 4096 - at / 4096) file at byte bytes f is (omega arith)
