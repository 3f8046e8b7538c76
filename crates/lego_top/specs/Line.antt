-- The line of an ending on standard error.
use Rattle.std.specs.Prelude.{ℕ, ◌≤◌, List, [], ◌∷◌, ◌++◌, codes, ◌⊎◌}
use Rattle.std.specs.List.{concat}
use Rattle.lego_base.specs.Counts.{Rose}
use Rattle.host_io.specs.Sinks.{SinkState, TookAll, TookFront}
use Rattle.desc_read.specs.Faults.{word_of}
use Rattle.elf_image.specs.Image.{name_of}
use Rattle.lego_top.specs.declared.ending.Ending.{Ending}
use Rattle.lego_top.specs.declared.ending.Ending.TheVariants.{Done, Spent, Stuck, Usage, Missing, FileLong, BadDesc, BadImage, InputFault, InputLong, DepotFault, OutFault, ErrFault, NoMemory}

-- the line of these pieces
abbrev pub line : List (List ℕ) → List ℕ
line pieces = concat pieces ++ (10 ∷ [])

-- the line of a description that is invalid at a place
abbrev pub place_line : List ℕ → List ℕ → List ℕ
place_line kind place = line (codes "lego: description: " ∷ kind ∷ codes " at " ∷ place ∷ [])

-- the line of an ending; one that went as the program wanted has none, nor has a failure of standard error
abbrev pub line_of : Ending → List ℕ
line_of Done = []
line_of Spent = []
line_of Stuck = []
line_of Usage = line (codes "lego: usage: run DESC | plain DESC | trace DESC NAME | gen NUMBER PREFIX" ∷ [])
line_of (Missing name) = line (codes "lego: missing " ∷ name ∷ [])
line_of (FileLong name) = line (codes "lego: file " ∷ name ∷ codes " is longer than 16777216 bytes" ∷ [])
line_of (BadDesc flaw place) = place_line (word_of flaw) place
line_of (BadImage fault) = line (codes "lego: image: " ∷ name_of fault ∷ [])
line_of InputFault = line (codes "lego: input failed" ∷ [])
line_of InputLong = line (codes "lego: input is longer than 16777216 bytes" ∷ [])
line_of DepotFault = line (codes "lego: depot failed" ∷ [])
line_of OutFault = line (codes "lego: output failed" ∷ [])
line_of ErrFault = []
line_of NoMemory = line (codes "lego: out of memory" ∷ [])

-- the sink took the line; or it failed, and took a proper prefix of the line
pub record Says (before after : SinkState) (line : List ℕ) : Type 0 where
  pub later : before.faults ≤ after.faults
  pub took : TookAll before.held after.held line ⊎ (Rose before.faults after.faults × TookFront before.held after.held line)
