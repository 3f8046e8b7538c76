-- What the calls that may be refused answer, and what they leave. After a refusal, and where memory ran out, everything is
-- as before.
use Rattle.std.specs.Prelude.{◌≡◌, ◌||◌, ℕ, List, Err, Ok, Result, false, is_some, true, unwrap_or}
use Rattle.lego_base.specs.Files.{File, named}
use Rattle.lego_base.specs.declared.ids.FileNo.{FileNo}
use Rattle.lego_msg.specs.Files.{Files, is_file_room, is_room, made}
use Rattle.file_table.specs.declared.fault.FileFault.{FileFault}
use Rattle.file_table.specs.declared.fault.FileFault.TheVariants.{NoMemory, NoRoom, StoreFull}

-- A name is made: it is there, or there is room for another file. It is refused exactly where neither is so.
abbrev pub IsMade : Files → Files → List ℕ → Result FileNo FileFault → Type 0
IsMade old new name (Ok file) =
    (is_some (named old.names name) || is_file_room old ≡ true)
    × (new ≡ made old name)
    × (file ≡ unwrap_or (named old.names name) (record { 0 = old.next }))
IsMade old new name (Err NoRoom) = (is_some (named old.names name) || is_file_room old ≡ false) × (new ≡ old)
IsMade old new name (Err StoreFull) = ⊥
IsMade old new name (Err NoMemory) = new ≡ old

-- The files become others, as they do exactly where these need no more blocks than there are.
abbrev pub IsChanged : Files → Files → List File → Result (Unit {0}) FileFault → Type 0
IsChanged old new files (Ok done) = (is_room old files ≡ true) × (new ≡ record old { files = files })
IsChanged old new files (Err StoreFull) = (is_room old files ≡ false) × (new ≡ old)
IsChanged old new files (Err NoRoom) = ⊥
IsChanged old new files (Err NoMemory) = new ≡ old
