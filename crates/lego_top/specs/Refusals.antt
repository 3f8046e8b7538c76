-- What is refused, in the order in which it is looked at.
use Rattle.std.specs.Prelude.{ℕ, nat_lt, if◌then◌else◌, List, [], ◌∷◌, length, Option, Some, None, Result, Ok, Err}
use Rattle.std.specs.Option.{option_map}
use Rattle.lego_base.specs.declared.sizes.TheConstants.{LONGEST_FILE}
use Rattle.host_io.specs.Depots.{Files}
use Rattle.desc_read.specs.declared.plan.FileFrom.{FileFrom}
use Rattle.desc_read.specs.declared.plan.Plan.{Plan}
use Rattle.desc_read.specs.Faults.{Refusal}
use Rattle.desc_read.specs.Plans.{described}
use Rattle.elf_image.specs.Image.{first_fault}
use Rattle.lego_top.specs.declared.ending.Ending.{Ending}
use Rattle.lego_top.specs.declared.ending.Ending.TheVariants.{Usage, Missing, FileLong, BadDesc, BadImage, InputLong}

-- of a file, by what the depot has under its name; then of what follows from its bytes
abbrev pub file_refusal : List ℕ → Option (List ℕ) → (List ℕ → Option Ending) → Option Ending
file_refusal name None next = Some (Missing name)
file_refusal name (Some bytes) next = if nat_lt LONGEST_FILE (length bytes) then Some (FileLong name) else next bytes

-- of a plan's files in their order, then of what follows
abbrev pub files_refusal : Files → List FileFrom → Option Ending → Option Ending
files_refusal files [] next = next
files_refusal files (source ∷ sources) next = file_refusal source.from (files source.from) (λ bytes. files_refusal files sources next)

abbrev pub image_refusal : List ℕ → List ℕ → Option Ending
image_refusal image input = if nat_lt LONGEST_FILE (length input) then Some InputLong else option_map BadImage (first_fault image)

-- of the program, of the files, of the input, of the image
abbrev pub plan_refusal : Files → List ℕ → Plan → Option Ending
plan_refusal files input plan = file_refusal plan.init (files plan.init) (λ image. files_refusal files plan.files (image_refusal image input))

abbrev pub read_refusal : Files → List ℕ → Result Plan Refusal → Option Ending
read_refusal files input (Err refusal) = Some (BadDesc refusal.kind refusal.place)
read_refusal files input (Ok plan) = plan_refusal files input plan

-- the first refusal of the name that the command line gives
abbrev pub refusal : Option (List ℕ) → Files → List ℕ → Option Ending
refusal None files input = Some Usage
refusal (Some name) files input = file_refusal name (files name) (λ desc. read_refusal files input (described desc))
