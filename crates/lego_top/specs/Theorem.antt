-- What `lego_main` promises: `Answered`, at the end of this file, where `asked` is the description that the command line
-- names, `before` and `after` are the outside world before and after the call, and `result` is the ending.
use Rattle.std.specs.Prelude.{◌≡◌, ℕ, ◌≤◌, ◌⊎◌, ◌↔◌, List, length, Option, Some, None, Ok}
use Rattle.lego_base.specs.Counts.{Calm}
use Rattle.lego_base.specs.declared.report.EndWord.{EndWord}
use Rattle.lego_base.specs.declared.report.FileOut.{FileOut}
use Rattle.lego_base.specs.declared.sizes.TheConstants.{LONGEST_FILE}
use Rattle.host_io.specs.Depots.{Files}
use Rattle.host_io.specs.Sinks.{SinkState}
use Rattle.desc_read.specs.declared.plan.Plan.{Plan}
use Rattle.desc_read.specs.Plans.{described}
use Rattle.elf_image.specs.Image.{first_fault}
use Rattle.plain_kernel.specs.Runs.{EndsAfter}
use Rattle.plain_kernel.specs.Turns.{schedule_of}
use Rattle.lego_top.specs.declared.ending.Ending.{Ending}
use Rattle.lego_top.specs.declared.ending.Ending.TheVariants.{Usage, InputFault, DepotFault, NoMemory}
use Rattle.lego_top.specs.Outside.{Outside, with_err}
use Rattle.lego_top.specs.Inputs.{AreThere, booted}
use Rattle.lego_top.specs.Causes.{Caused}
use Rattle.lego_top.specs.Refusals.{refusal}
use Rattle.lego_top.specs.Endings.{ending_of}
use Rattle.lego_top.specs.Line.{line_of, Says}

-- The ending has its cause and leaves what that cause says; then standard error, which was `err`, has the ending's line.
pub record CausedAndSaid (asked : Option (List ℕ)) (before after : Outside) (result : Ending) : Type 0 where
  pub err : SinkState
  pub caused : Caused asked before (with_err after err) result
  pub said : Says err after.err (line_of result)

-- What is to be refused is refused so, unless the depot or the input fails or memory runs out.
abbrev pub Refused : Option (List ℕ) → Outside → Ending → Type 0
Refused asked before result =
    (files : Files) → before.depot.files ≡ Some files → (input : List ℕ) → before.input.left ≡ Some input →
    (first : Ending) → refusal asked files input ≡ Some first →
    (result ≡ first) ⊎ ((result ≡ DepotFault) ⊎ ((result ≡ InputFault) ⊎ (result ≡ NoMemory)))

-- The command line, the depot and the input are accepted, and no object of the outside world failed.
pub record IsFine (asked : Option (List ℕ)) (before after : Outside) : Type 0 where
  pub files : Files
  pub input : List ℕ
  pub name : List ℕ
  pub desc : List ℕ
  pub plan : Plan
  pub image : List ℕ
  pub plan_files : List FileOut
  pub tells : before.depot.files ≡ Some files
  pub tells_input : before.input.left ≡ Some input
  pub is_asked : asked ≡ Some name
  pub desc_there : files name ≡ Some desc
  pub desc_fits : length desc ≤ LONGEST_FILE
  pub reads : described desc ≡ Ok plan
  pub image_there : files plan.init ≡ Some image
  pub image_fits : length image ≤ LONGEST_FILE
  pub files_there : AreThere (Some files) plan.files plan_files
  pub input_fits : length input ≤ LONGEST_FILE
  pub good : first_fault image ≡ None
  pub depot_calm : Calm before.depot.faults after.depot.faults
  pub input_calm : Calm before.input.faults after.input.faults
  pub out_calm : Calm before.out.faults after.out.faults
  pub err_calm : Calm before.err.faults after.err.faults

-- Then the answer is the flat run's, or memory ran out.
abbrev pub Complete : Option (List ℕ) → Outside → Outside → Ending → Type 0
Complete asked before after result =
    (fine : IsFine asked before after) (turns : ℕ) (word : EndWord) →
    EndsAfter (schedule_of fine.plan) (booted fine.plan fine.image fine.plan_files fine.input) turns word →
    (result ≡ ending_of word) ⊎ (result ≡ NoMemory)

-- the theorem
pub record Answered (asked : Option (List ℕ)) (before after : Outside) (result : Ending) : Type 0 where
  -- each ending has its cause, and the depot and the streams hold what the flat run left and the ending's line
  pub caused : CausedAndSaid asked before after result
  -- a command line that names no description, and no other, is a usage error
  pub usage : (result ≡ Usage) ↔ (asked ≡ None)
  -- what is to be refused is refused
  pub refused : Refused asked before result
  -- a program that ends is answered so
  pub complete : Complete asked before after result
