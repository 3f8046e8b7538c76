-- Worked rows of the definitions.
use Rattle.std.proofs.Common.{◌≡◌, ℕ, List, [], ◌∷◌, ◌++◌, refl}
use Rattle.std.specs.Prelude.{codes}
use Rattle.std.specs.Fmt.{digits}
use Rattle.lego_base.specs.declared.report.Ended.{Ended}
use Rattle.lego_base.specs.declared.report.EndWord.{EndWord}
use Rattle.lego_base.specs.declared.report.EndWord.TheVariants.{Done, Stuck, Spent}
use Rattle.lego_base.specs.declared.report.Exit.{Exit}
use Rattle.lego_base.specs.declared.report.Counts.{Counts}
use Rattle.lego_base.specs.declared.report.FileOut.{FileOut}
use Rattle.report_text.specs.Report.{report_of}
use Rattle.report_text.specs.Archive.{archive_of}

abbrev ended : EndWord → ℕ → Ended
ended word turns = record { word = word; turns = turns }

abbrev exit : ℕ → ℕ → Exit
exit pid status = record { pid = record { 0 = pid }; status = status }

abbrev counts : ℕ → ℕ → Counts
counts hits misses = record { hits = hits; misses = misses; evictions = 0; writebacks = 0 }

-- a program that writes two bytes and exits, on two processors
report_of_two : report_of (ended Done 2) (exit 1 0 ∷ []) (counts 8 2 ∷ counts 0 0 ∷ []) ≡ codes "ending done\nturns 2\nexit 1 0\ncpu 0 hits 8 misses 2 evictions 0 writebacks 0\ncpu 1 hits 0 misses 0 evictions 0 writebacks 0\n"
unfolding report_of digits
report_of_two = refl

-- without processors
report_of_none : report_of (ended Done 2) (exit 1 0 ∷ []) [] ≡ codes "ending done\nturns 2\nexit 1 0\n"
unfolding report_of digits
report_of_none = refl

exits_in_order : report_of (ended Stuck 0) (exit 2 13 ∷ exit 1 256 ∷ []) [] ≡ codes "ending stuck\nturns 0\nexit 2 13\nexit 1 256\n"
unfolding report_of digits
exits_in_order = refl

spent : report_of (ended Spent 3) [] (record { hits = 2999; misses = 1; evictions = 0; writebacks = 0 } ∷ []) ≡ codes "ending spent\nturns 3\ncpu 0 hits 2999 misses 1 evictions 0 writebacks 0\n"
unfolding report_of digits
spent = refl

abbrev file : List ℕ → List ℕ → FileOut
file name bytes = record { name = name; bytes = bytes }

no_file : archive_of [] ≡ codes "LEGOARC1" ++ 0 ∷ 0 ∷ 0 ∷ 0 ∷ []
unfolding archive_of
no_file = refl

one_file : archive_of (file (codes "out") (codes "hi") ∷ []) ≡ codes "LEGOARC1" ++ 1 ∷ 0 ∷ 0 ∷ 0 ∷ 3 ∷ 0 ∷ [] ++ codes "out" ++ 2 ∷ 0 ∷ 0 ∷ 0 ∷ 0 ∷ 0 ∷ 0 ∷ 0 ∷ [] ++ codes "hi"
unfolding archive_of
one_file = refl

-- a name comes before a longer one that it begins
three_files : archive_of (file (codes "b") [] ∷ file (codes "ab") (7 ∷ []) ∷ file (codes "a") (8 ∷ 9 ∷ []) ∷ []) ≡ codes "LEGOARC1" ++ 3 ∷ 0 ∷ 0 ∷ 0 ∷ [] ++ 1 ∷ 0 ∷ 0x61 ∷ 2 ∷ 0 ∷ 0 ∷ 0 ∷ 0 ∷ 0 ∷ 0 ∷ 0 ∷ 8 ∷ 9 ∷ [] ++ 2 ∷ 0 ∷ 0x61 ∷ 0x62 ∷ 1 ∷ 0 ∷ 0 ∷ 0 ∷ 0 ∷ 0 ∷ 0 ∷ 0 ∷ 7 ∷ [] ++ 1 ∷ 0 ∷ 0x62 ∷ 0 ∷ 0 ∷ 0 ∷ 0 ∷ 0 ∷ 0 ∷ 0 ∷ 0 ∷ []
unfolding archive_of
three_files = refl
