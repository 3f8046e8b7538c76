-- The report of a run, line by line. Numbers are decimal.
use Rattle.std.specs.Prelude.{ℕ, ◌+◌, List, [], ◌∷◌, ◌++◌, flat_map, codes, decimal}
use Rattle.lego_base.specs.declared.report.Ended.{Ended}
use Rattle.lego_base.specs.declared.report.EndWord.{EndWord}
use Rattle.lego_base.specs.declared.report.EndWord.TheVariants.{Done, Stuck, Spent}
use Rattle.lego_base.specs.declared.report.Exit.{Exit}
use Rattle.lego_base.specs.declared.report.Counts.{Counts}

-- a text as a line
abbrev pub line : List ℕ → List ℕ
line text = text ++ 10 ∷ []

abbrev pub word_of : EndWord → List ℕ
word_of Done = codes "done"
word_of Stuck = codes "stuck"
word_of Spent = codes "spent"

-- ending done
abbrev pub ending_line : EndWord → List ℕ
ending_line word = line (codes "ending " ++ word_of word)

-- turns N
abbrev pub turns_line : ℕ → List ℕ
turns_line turns = line (codes "turns " ++ decimal turns)

-- exit PID STATUS
abbrev pub exit_line : Exit → List ℕ
exit_line exit = line (codes "exit " ++ decimal exit.pid.0 ++ codes " " ++ decimal exit.status)

-- cpu K hits H misses M evictions E writebacks W
abbrev pub cpu_line : ℕ → Counts → List ℕ
cpu_line number counts =
    line (codes "cpu " ++ decimal number
    ++ codes " hits " ++ decimal counts.hits
    ++ codes " misses " ++ decimal counts.misses
    ++ codes " evictions " ++ decimal counts.evictions
    ++ codes " writebacks " ++ decimal counts.writebacks)

-- a line for each processor, the first with this number
abbrev pub cpu_lines : ℕ → List Counts → List ℕ
cpu_lines number [] = []
cpu_lines number (counts ∷ more) = cpu_line number counts ++ cpu_lines (number + 1) more

-- the report of a run with this ending, these exits in their order and these counts of processors
unfoldable pub report_of : Ended → List Exit → List Counts → List ℕ
report_of ending exits counts = ending_line ending.word ++ turns_line ending.turns ++ flat_map exit_line exits ++ cpu_lines 0 counts
