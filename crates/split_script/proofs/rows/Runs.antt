-- The scripts of whole runs, by computation: how many marks there are, and what the caches count.
use Rattle.std.specs.Prelude.{◌≡◌, ℕ, ◌++◌, List, [], ◌∷◌, length, refl}
use Rattle.lego_base.specs.declared.shape.Shape.{Shape}
use Rattle.area_list.specs.Runs.{put_runs}
use Rattle.rv64_decode.specs.Table.{decoded, row_of, table}
use Rattle.elf_image.specs.Image.{Program}
use Rattle.cache_tags.specs.CacheRule.{Tally}
use Rattle.linux_model.specs.Effects.{Effect}
use Rattle.linux_model.specs.Boot.{boot_effects, boot_of}
use Rattle.linux_model.specs.Turns.{Schedule, flat, flat_effects}
use Rattle.split_script.specs.Now.{Now, at_start, mem_no}
use Rattle.split_script.specs.Script.{script, all_passed}
use Rattle.split_script.proofs.rows.Marks.{small, shape_of}
use Rattle.split_script.proofs.rows.Programs.{hi, stores}

abbrev schedule : Schedule
schedule = record { turns = 0 ∷ []; quantum = 1000; max_turns = 1000 }

-- the effects of booting with one argument and of n turns
abbrev effects_of : Program → List ℕ → ℕ → List Effect
effects_of program arg n = boot_effects program (arg ∷ []) [] [] ++ flat_effects schedule (boot_of program (arg ∷ []) [] [] []) n

abbrev counts : Now → ℕ → Tally
counts n cpu = (n.caches cpu).counts

-- the machine of a description that says nothing of it
abbrev usual : Shape
usual = shape_of (4096 ∷ 4096 ∷ 4096 ∷ []) 2 64 4 (mem_no 0 ∷ mem_no 1 ∷ mem_no 2 ∷ [])

abbrev hi_name : List ℕ
hi_name = 0x68 ∷ 0x69 ∷ 0x2e ∷ 0x65 ∷ 0x6c ∷ 0x66 ∷ []

two_lines_are_all_that_it_needs : counts (all_passed (at_start usual) (effects_of hi hi_name 2)) 0 ≡ record { hits = 8; misses = 2; evictions = 0; writebacks = 0 }
unfolding decoded row_of table flat flat_effects put_runs
two_lines_are_all_that_it_needs = refl

marks_in_all : length (script (at_start usual) (effects_of hi hi_name 2) []) ≡ 33
unfolding decoded row_of table flat flat_effects put_runs
marks_in_all = refl

-- each of the two stores and the load needs the one line that the next fetch needs, too
one_line_is_too_few : counts (all_passed (at_start small) (effects_of stores hi_name 1)) 0 ≡ record { hits = 2; misses = 7; evictions = 6; writebacks = 2 }
unfolding decoded row_of table flat flat_effects put_runs
one_line_is_too_few = refl

marks_of_one_line : length (script (at_start small) (effects_of stores hi_name 1) []) ≡ 45
unfolding decoded row_of table flat flat_effects put_runs
marks_of_one_line = refl
