-- Pieces that are written one after the other.
use Rattle.std.proofs.Common.{◌≡◌, ℕ, ◌≤◌, sym, ◌∙◌, ap, subst, List, [], ◌∷◌, ◌++◌, length, map, arith}
use Rattle.std.specs.Prelude.{All, flat_map, codes}
use Rattle.std.specs.Int.{w16, w32, w64, to_le_bytes}
use Rattle.std.proofs.lemmas.List.{append_assoc}
use Rattle.std.proofs.lemmas.List.Elements.{All-nil, All-cons, All-head, All-tail}
use Rattle.std.proofs.lemmas.List.Sorted.{All-permutation}
use Rattle.lego_base.specs.declared.report.FileOut.{FileOut}
use Rattle.lego_base.specs.Space.{bytes_of}
use Rattle.lego_base.specs.declared.report.Ended.{Ended}
use Rattle.lego_base.specs.declared.report.Exit.{Exit}
use Rattle.lego_base.specs.declared.report.Counts.{Counts}
use Rattle.report_text.specs.Report.{ending_line, turns_line, exit_line, cpu_lines, report_of}
use Rattle.report_text.specs.Archive.{by_name, file_record, archive_of}
use Rattle.report_text.proofs.ByName.{by_name_permutes}

pub four : (old a b c d s t u v : List ℕ) → s ≡ old ++ a → t ≡ s ++ b → u ≡ t ++ c → v ≡ u ++ d → v ≡ old ++ (a ++ b ++ c ++ d)
four old a b c d s t u v e f g h =
    h ∙ ap (λ (x : List ℕ). x ++ d) (g ∙ ap (λ (x : List ℕ). x ++ c) (f ∙ ap (λ (x : List ℕ). x ++ b) e ∙ append_assoc old a b) ∙ append_assoc old (a ++ b) c) ∙ append_assoc old (a ++ b ++ c) d

pub six : (old a b c d e z s t u v w x : List ℕ) → s ≡ old ++ a → t ≡ s ++ b → u ≡ t ++ c → v ≡ u ++ d → w ≡ v ++ e → x ≡ w ++ z → x ≡ old ++ (a ++ b ++ c ++ d ++ e ++ z)
six old a b c d e z s t u v w x p q r k l m =
    m ∙ ap (λ (y : List ℕ). y ++ z) (l ∙ ap (λ (y : List ℕ). y ++ e) (four old a b c d s t u v p q r k) ∙ append_assoc old (a ++ b ++ c ++ d) e) ∙ append_assoc old (a ++ b ++ c ++ d ++ e) z

-- words with their numbers, in a line
pub in_line : (a b c d e f g h i j z : List ℕ) → (a ++ b) ++ (c ++ d) ++ (e ++ f) ++ (g ++ h) ++ (i ++ j) ++ z ≡ a ++ b ++ c ++ d ++ e ++ f ++ g ++ h ++ i ++ j ++ z
in_line a b c d e f g h i j z =
    ap (λ (x : List ℕ). x ++ z) (
    sym (append_assoc ((a ++ b) ++ (c ++ d) ++ (e ++ f) ++ (g ++ h)) i j)
    ∙ ap (λ (x : List ℕ). x ++ i ++ j) (
    sym (append_assoc ((a ++ b) ++ (c ++ d) ++ (e ++ f)) g h)
    ∙ ap (λ (x : List ℕ). x ++ g ++ h) (
    sym (append_assoc ((a ++ b) ++ (c ++ d)) e f)
    ∙ ap (λ (x : List ℕ). x ++ e ++ f) (sym (append_assoc (a ++ b) c d))))
    )

-- numbers with their lowest byte first
pub two_bytes : (n : ℕ) → to_le_bytes w16 n ≡ bytes_of 2 n
two_bytes n = grind arith

pub four_bytes : (n : ℕ) → to_le_bytes w32 n ≡ bytes_of 4 n
four_bytes n = grind arith

pub eight_bytes : (n : ℕ) → to_le_bytes w64 n ≡ bytes_of 8 n
eight_bytes n = grind arith

-- what holds of each thing of a list holds of each of which the list was made
pub all_of_map : {X Y : Type 0} (P : X → Type 0) (f : Y → X) (ys : List Y) → All P (map f ys) → All (λ y. P (f y)) ys
all_of_map P f [] all = All-nil (λ y. P (f y))
all_of_map P f (y ∷ ys) all = All-cons (λ z. P (f z)) y ys (All-head P (f y) (map f ys) all) (all_of_map P f ys (All-tail P (f y) (map f ys) all))

pub names_fit : {Y : Type 0} (f : Y → FileOut) (files : List FileOut) (ys : List Y) → map f ys ≡ by_name files → All (λ file. length file.name ≤ 65535) files → All (λ y. length (f y).name ≤ 65535) ys
names_fit f files ys is all = all_of_map (λ file. length file.name ≤ 65535) f ys (subst (λ (l : List FileOut). All (λ file. length file.name ≤ 65535) l) (sym is) (All-permutation (λ file. length file.name ≤ 65535) files (by_name files) (by_name_permutes files) all))

pub archive_is : (files sorted : List FileOut) (mark count first second all : List ℕ) → mark ≡ codes "LEGOARC1" → count ≡ bytes_of 4 (length files) → sorted ≡ by_name files → first ≡ mark → second ≡ first ++ count → all ≡ second ++ flat_map file_record sorted → all ≡ archive_of files
unfolding archive_of
archive_is files sorted mark count first second all is_mark is_count is_sorted e f g =
    g ∙ (λ i. (f ∙ (λ j. (e ∙ is_mark) j ++ is_count j)) i ++ flat_map file_record (is_sorted i))

pub report_is : (ending : Ended) (exits : List Exit) (counts : List Counts) (none first second all : List ℕ) → none ≡ [] → first ≡ none ++ ending_line ending.word ++ turns_line ending.turns → second ≡ first ++ flat_map exit_line exits → all ≡ second ++ cpu_lines 0 counts → all ≡ report_of ending exits counts
unfolding report_of
report_is ending exits counts none first second all empty e f g =
    g ∙ (λ i. (f ∙ (λ j. (e ∙ (λ k. empty k ++ ending_line ending.word ++ turns_line ending.turns)) j ++ flat_map exit_line exits)) i ++ cpu_lines 0 counts)
