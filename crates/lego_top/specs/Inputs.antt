-- What the command line leads to, step by step: a description in the depot, its plan, the image and the files that the plan
-- names, all of standard input.
use Rattle.std.specs.Prelude.{◌≡◌, ℕ, ◌≤◌, ◌⊎◌, List, [], ◌∷◌, length, Option, Some, None, Ok}
use Rattle.lego_base.specs.declared.report.FileOut.{FileOut}
use Rattle.lego_base.specs.declared.sizes.TheConstants.{LONGEST_FILE}
use Rattle.host_io.specs.Depots.{Files, Has}
use Rattle.host_io.specs.Sources.{ReadWhole}
use Rattle.desc_read.specs.declared.plan.Plan.{Plan}
use Rattle.desc_read.specs.declared.plan.FileFrom.{FileFrom}
use Rattle.desc_read.specs.Plans.{described}
use Rattle.elf_image.specs.Image.{first_fault, program_of}
use Rattle.linux_model.specs.State.{Kernel}
use Rattle.linux_model.specs.Boot.{boot_of}
use Rattle.lego_top.specs.Outside.{Outside}

-- the command line asks for this description, and the depot has it
pub record Found (asked : Option (List ℕ)) (before : Outside) : Type 0 where
  pub name : List ℕ
  pub bytes : List ℕ
  pub is_asked : asked ≡ Some name
  pub there : Has before.depot.files name (Some bytes)
  pub fits : length bytes ≤ LONGEST_FILE

-- it is a plan
pub record Planned (asked : Option (List ℕ)) (before : Outside) : Type 0 where
  pub found : Found asked before
  pub plan : Plan
  pub reads : described found.bytes ≡ Ok plan

-- the depot has the program
pub record Loaded (asked : Option (List ℕ)) (before : Outside) : Type 0 where
  pub planned : Planned asked before
  pub image : List ℕ
  pub there : Has before.depot.files planned.plan.init (Some image)
  pub fits : length image ≤ LONGEST_FILE

-- the depot has a file of this name that isn't too long
abbrev pub IsThere : Option Files → List ℕ → Type 0
IsThere told name = (bytes : List ℕ) × Has told name (Some bytes) × (length bytes ≤ LONGEST_FILE)

-- one of a plan's files comes from this name, and the depot has those before it
abbrev pub ComesNext : Option Files → List ℕ → List FileFrom → Type 0
ComesNext told name [] = ⊥
ComesNext told name (source ∷ sources) = (source.from ≡ name) ⊎ (IsThere told source.from × ComesNext told name sources)

-- This is the name of the description, of the program, or of one of the files, and what comes before it is there.
abbrev pub Names : Option (List ℕ) → Outside → List ℕ → Type 0
Names asked before name =
    (asked ≡ Some name) ⊎ (((p : Planned asked before) × (p.plan.init ≡ name))
    ⊎ ((l : Loaded asked before) × ComesNext before.depot.files name l.planned.plan.files))

-- the depot has a plan's files, each with the bytes of the name that it comes from
abbrev pub AreThere : Option Files → List FileFrom → List FileOut → Type 0
AreThere told [] [] = Unit {0}
AreThere told (source ∷ sources) (file ∷ files) =
    (file.name ≡ source.path) × Has told source.from (Some file.bytes) × (length file.bytes ≤ LONGEST_FILE) × AreThere told sources files
AreThere told sources files = ⊥

pub record Filed (asked : Option (List ℕ)) (before : Outside) : Type 0 where
  pub loaded : Loaded asked before
  pub files : List FileOut
  pub are_there : AreThere before.depot.files loaded.planned.plan.files files

-- standard input was read to its end
pub record Fed (asked : Option (List ℕ)) (before after : Outside) : Type 0 where
  pub filed : Filed asked before
  pub input : List ℕ
  pub whole : ReadWhole LONGEST_FILE before.input.left after.input.left input

abbrev pub plan_in : (asked : Option (List ℕ)) (before after : Outside) → Fed asked before after → Plan
plan_in asked before after fed = fed.filed.loaded.planned.plan

-- the kernel that is booted with an image and files as a plan asks
abbrev pub booted : Plan → List ℕ → List FileOut → List ℕ → Kernel
booted plan image files input = boot_of (program_of image) plan.args plan.env files input

-- It is an image, and this was done with the plan and the kernel that was booted.
pub record Ran (asked : Option (List ℕ)) (before after : Outside) (Did : Plan → Kernel → Type 0) : Type 0 where
  pub fed : Fed asked before after
  pub good : first_fault fed.filed.loaded.image ≡ None
  pub did : Did (plan_in asked before after fed) (booted (plan_in asked before after fed) fed.filed.loaded.image fed.filed.files fed.input)
