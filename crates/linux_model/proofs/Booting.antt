-- What turn 0 comes to.
use Rattle.std.proofs.Common.{◌≡◌, ℕ, ◌+◌, Bool, true, false, cond, ◌||◌, leb, refl, ◌∙◌, ap, List, [], ◌∷◌, ◌++◌, length, is_some}
use Rattle.lego_base.specs.declared.report.FileOut.{FileOut}
use Rattle.lego_base.specs.Files.{named}
use Rattle.lego_base.specs.Space.{Space, no_space, with_space}
use Rattle.elf_image.specs.Image.{Program}
use Rattle.linux_model.specs.Limits.{FILES}
use Rattle.linux_model.specs.State.{Kernel, unbooted}
use Rattle.linux_model.specs.Effects.{Effect, Begins, WritesFile, Starts, apply, applies, with_new_file}
use Rattle.linux_model.specs.Loading.{start_of, loads_program, break_of, start_space}
use Rattle.linux_model.specs.Boot.{file_effects, standard_streams, boot_of, booted_process, streams}
use Rattle.linux_model.proofs.Folds.{applies-append}
use Rattle.linux_model.proofs.Loading.{loading}

-- a kernel before any process
pub record Bare (k : Kernel) : Type 0 where
  pub procs : k.procs ≡ []
  pub space : k.space ≡ (λ (pid : ℕ). no_space)
  pub descs : k.descs ≡ []
  pub last : k.last ≡ 0

bare_either : (b : Bool) (k l : Kernel) → Bare k → Bare l → Bare (cond b k l)
bare_either true k l g h = g
bare_either false k l g h = h

-- files leave it bare
pub files_bare : (number : ℕ) (files : List FileOut) (k : Kernel) → Bare k → Bare (applies (file_effects number files) k)
files_bare number [] k bare = bare
files_bare number (f ∷ files) k bare =
    let made : Bare (with_new_file f.name k) = bare_either (is_some (named k.names f.name) || leb FILES (length k.files)) k _ bare (record { procs = bare.procs; space = bare.space; descs = bare.descs; last = bare.last }) in
    files_bare (number + 1) files (apply (WritesFile number 0 f.bytes) (with_new_file f.name k)) (record { procs = made.procs; space = made.space; descs = made.descs; last = made.last })

-- what starts the process makes of a kernel without one
starts : (program : Program) (args env : List (List ℕ)) (k : Kernel) → Bare k → applies (Starts 1 (start_of program args env) (break_of program) ∷ standard_streams) (record k { space = with_space k.space 1 (start_space program args env) }) ≡ record k { procs = booted_process program args env ∷ []; last = 1; space = with_space (λ pid. no_space) 1 (start_space program args env); descs = streams }
starts program args env k bare = λ i. applies (Starts 1 (start_of program args env) (break_of program) ∷ standard_streams) (record k { procs = bare.procs i; space = with_space (bare.space i) 1 (start_space program args env); descs = bare.descs i })

module _ (program : Program) (args env : List (List ℕ)) (files : List FileOut) (input : List ℕ) where
  abbrev made : Kernel
  made = applies (file_effects 0 files) (unbooted input)

  abbrev loads : List Effect
  loads = loads_program 1 program args env

  bare : Bare made
  bare = files_bare 0 files (unbooted input) (record { procs = refl; space = refl; descs = refl; last = refl })

  pub booting : boot_of program args env files input ≡ record made { procs = booted_process program args env ∷ []; last = 1; space = with_space (λ pid. no_space) 1 (start_space program args env); descs = streams }
  booting =
      applies-append ((Begins 0 0 ∷ file_effects 0 files) ++ loads) (Starts 1 (start_of program args env) (break_of program) ∷ standard_streams) (unbooted input)
      ∙ ap (applies (Starts 1 (start_of program args env) (break_of program) ∷ standard_streams)) (
      applies-append (Begins 0 0 ∷ file_effects 0 files) loads (unbooted input)
      ∙ loading 1 program args env made (ap (λ (spaces : ℕ → Space). spaces 1) bare.space)
      )
      ∙ starts program args env made bare
