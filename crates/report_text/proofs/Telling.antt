-- An archive tells its files: those of which it is made, by name, are the only ones of which it can be made.
use Rattle.std.proofs.Common.{◌≡◌, ℕ, zero, suc, ◌/◌, ◌%◌, ◌^◌, ◌<◌, ◌≤◌, refl, sym, ◌∙◌, ap, List, [], ◌∷◌, ◌++◌, length, take, drop, arith}
use Rattle.std.specs.Prelude.{All, flat_map, codes}
use Rattle.std.proofs.lemmas.List.{append_assoc, take_at, drop_at}
use Rattle.std.proofs.lemmas.List.Elements.{All-head, All-tail}
use Rattle.std.proofs.lemmas.List.Sorted.{All-permutation, length_permutation}
use Rattle.lego_base.specs.declared.report.FileOut.{FileOut}
use Rattle.lego_base.specs.Space.{bytes_of}
use Rattle.report_text.specs.Archive.{by_name, file_record, archive_of, CanBeArchived}
use Rattle.report_text.proofs.ByName.{by_name_permutes}

-- parts that are as long are equal where the wholes are
front_same : (a b c d : List ℕ) → length a ≡ length c → a ++ b ≡ c ++ d → a ≡ c
front_same a b c d n e = sym (take_at a b (length a) refl) ∙ ap (λ (l : List ℕ). take (length a) l) e ∙ take_at c d (length a) (sym n)

back_same : (a b c d : List ℕ) → length a ≡ length c → a ++ b ≡ c ++ d → b ≡ d
back_same a b c d n e = sym (drop_at a b (length a) refl) ∙ ap (λ (l : List ℕ). drop (length a) l) e ∙ drop_at c d (length a) (sym n)

-- a number without its lowest bytes
abbrev without : ℕ → ℕ → ℕ
without zero number = number
without (suc n) number = without n (number / 256)

same_number : (n a b : ℕ) → bytes_of n a ≡ bytes_of n b → without n a ≡ without n b → a ≡ b
same_number zero a b e f = f
same_number (suc n) a b e f =
    let high : a / 256 ≡ b / 256 = same_number n (a / 256) (b / 256) (ap (λ (l : List ℕ). drop 1 l) e) f in
    let low : a % 256 ≡ b % 256 = ap (λ (l : List ℕ). first_of l) e in
    omega arith
  where
    first_of : List ℕ → ℕ
    first_of [] = 0
    first_of (x ∷ xs) = x

two_back : (a b : ℕ) → a ≤ 65535 → b ≤ 65535 → bytes_of 2 a ≡ bytes_of 2 b → a ≡ b
two_back a b h k e = same_number 2 a b e (omega arith)

four_back : (a b : ℕ) → a < 2 ^ 32 → b < 2 ^ 32 → bytes_of 4 a ≡ bytes_of 4 b → a ≡ b
four_back a b h k e = same_number 4 a b e (omega arith)

eight_back : (a b : ℕ) → a < 2 ^ 64 → b < 2 ^ 64 → bytes_of 8 a ≡ bytes_of 8 b → a ≡ b
eight_back a b h k e = same_number 8 a b e (omega arith)

-- the first file, and what comes after it
entry_apart : (file : FileOut) (rest : List ℕ) → file_record file ++ rest ≡ bytes_of 2 (length file.name) ++ (file.name ++ (bytes_of 8 (length file.bytes) ++ (file.bytes ++ rest)))
entry_apart file rest =
    append_assoc (bytes_of 2 (length file.name) ++ file.name ++ bytes_of 8 (length file.bytes)) file.bytes rest
    ∙ append_assoc (bytes_of 2 (length file.name) ++ file.name) (bytes_of 8 (length file.bytes)) (file.bytes ++ rest)
    ∙ append_assoc (bytes_of 2 (length file.name)) file.name (bytes_of 8 (length file.bytes) ++ (file.bytes ++ rest))

abbrev Fits : FileOut → Type 0
Fits file = (length file.name ≤ 65535) × (length file.bytes < 2 ^ 64)

first_back : (file other : FileOut) (rest more : List ℕ) → Fits file → Fits other → file_record file ++ rest ≡ file_record other ++ more → (file ≡ other) × (rest ≡ more)
first_back file other rest more h k e =
    let whole = sym (entry_apart file rest) ∙ e ∙ entry_apart other more in
    let size : length file.name ≡ length other.name = two_back (length file.name) (length other.name) h.0 k.0 (front_same (bytes_of 2 (length file.name)) _ (bytes_of 2 (length other.name)) _ refl whole) in
    let behind_size = back_same (bytes_of 2 (length file.name)) _ (bytes_of 2 (length other.name)) _ refl whole in
    let name : file.name ≡ other.name = front_same file.name _ other.name _ size behind_size in
    let behind_name = back_same file.name _ other.name _ size behind_size in
    let count : length file.bytes ≡ length other.bytes = eight_back (length file.bytes) (length other.bytes) h.1 k.1 (front_same (bytes_of 8 (length file.bytes)) _ (bytes_of 8 (length other.bytes)) _ refl behind_name) in
    let behind_count = back_same (bytes_of 8 (length file.bytes)) _ (bytes_of 8 (length other.bytes)) _ refl behind_name in
    let bytes : file.bytes ≡ other.bytes = front_same file.bytes rest other.bytes more count behind_count in
    ((λ i. record { name = name i; bytes = bytes i }), back_same file.bytes rest other.bytes more count behind_count)

files_back : (files others : List FileOut) → length files ≡ length others → All Fits files → All Fits others → flat_map file_record files ≡ flat_map file_record others → files ≡ others
files_back [] [] n h k e = refl
files_back [] (other ∷ others) n h k e = absurd (omega arith)
files_back (file ∷ files) [] n h k e = absurd (omega arith)
files_back (file ∷ files) (other ∷ others) n h k e =
    let both = first_back file other (flat_map file_record files) (flat_map file_record others) (All-head Fits file files h) (All-head Fits other others k) e in
    let rest : files ≡ others = files_back files others (omega arith) (All-tail Fits file files h) (All-tail Fits other others k) both.1 in
    λ i. both.0 i ∷ rest i

pub archive_back : (files others : List FileOut) → CanBeArchived files → CanBeArchived others → archive_of files ≡ archive_of others → by_name files ≡ by_name others
unfolding archive_of
archive_back files others h k e =
    let mark : List ℕ = codes "LEGOARC1" in
    let front : mark ++ bytes_of 4 (length files) ≡ mark ++ bytes_of 4 (length others) = front_same (mark ++ bytes_of 4 (length files)) (flat_map file_record (by_name files)) (mark ++ bytes_of 4 (length others)) (flat_map file_record (by_name others)) refl e in
    let count : length files ≡ length others = four_back (length files) (length others) h.few k.few (back_same mark (bytes_of 4 (length files)) mark (bytes_of 4 (length others)) refl front) in
    let size : length (by_name files) ≡ length (by_name others) = length_permutation files (by_name files) (by_name_permutes files) ∙ count ∙ sym (length_permutation others (by_name others) (by_name_permutes others)) in
    files_back (by_name files) (by_name others) size (All-permutation Fits files (by_name files) (by_name_permutes files) (λ n d l. (h.names n d l, h.sizes n d l))) (All-permutation Fits others (by_name others) (by_name_permutes others) (λ n d l. (k.names n d l, k.sizes n d l)))
    (back_same (mark ++ bytes_of 4 (length files)) (flat_map file_record (by_name files)) (mark ++ bytes_of 4 (length others)) (flat_map file_record (by_name others)) refl e)
