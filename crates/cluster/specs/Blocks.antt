-- Bytes of a file, cut at its blocks of 4096 bytes.
use Rattle.std.specs.Prelude.{ℕ, zero, suc, ◌+◌, ◌-◌, ◌/◌, ◌%◌, List, [], ◌∷◌, ◌++◌, length, min, take, drop}
use Rattle.lego_base.specs.Files.{file_bytes, with_file_bytes}
use Rattle.lego_base.specs.Pieces.{written_at}
use Rattle.lego_base.specs.declared.ids.FileNo.{FileNo}
use Rattle.lego_msg.specs.Plain.{Plain, with_files}
use Rattle.lego_msg.specs.declared.body.Body.{Body}
use Rattle.lego_msg.specs.declared.body.Body.TheVariants.{FileBytes}
use Rattle.lego_msg.specs.declared.operation.Operation.{Operation}
use Rattle.lego_msg.specs.declared.operation.Operation.TheVariants.{ReadsFile, WritesFile}

-- how many blocks n bytes meet that start at an offset: none where there is no byte
abbrev pub blocks_met : ℕ → ℕ → ℕ
blocks_met at zero = 0
blocks_met at (suc n) = (at + n) / 4096 - at / 4096 + 1

-- what is left of a block starting at an offset
abbrev pub room_at : ℕ → ℕ
room_at at = 4096 - at % 4096

-- one operation a block
abbrev pub reads_in : ℕ → FileNo → ℕ → ℕ → List Operation
reads_in zero file at n = []
reads_in (suc blocks) file at n = ReadsFile file (at / 4096) (at % 4096) (min n (room_at at)) ∷ reads_in blocks file (at + room_at at) (n - room_at at)

abbrev pub reads_of : FileNo → ℕ → ℕ → List Operation
reads_of file at n = reads_in (blocks_met at n) file at n

abbrev pub writes_in : ℕ → FileNo → ℕ → List ℕ → List Operation
writes_in zero file at bytes = []
writes_in (suc blocks) file at bytes = WritesFile file (at / 4096) (at % 4096) (take (room_at at) bytes) ∷ writes_in blocks file (at + room_at at) (drop (room_at at) bytes)

abbrev pub writes_of : FileNo → ℕ → List ℕ → List Operation
writes_of file at bytes = writes_in (blocks_met at (length bytes)) file at bytes

-- the bytes of answers, one after the other
abbrev pub bytes_told : Body → List ℕ
bytes_told (FileBytes bytes) = bytes
bytes_told other = []

abbrev pub all_bytes : List Body → List ℕ
all_bytes [] = []
all_bytes (body ∷ bodies) = bytes_told body ++ all_bytes bodies

-- the plain map with bytes written into a file
abbrev pub with_written : FileNo → ℕ → List ℕ → Plain → Plain
with_written file off [] f = f
with_written file off (byte ∷ bytes) f =
    with_files (record f.files { files = with_file_bytes f.files.files file.0 (written_at (file_bytes f.files.files file.0) off (byte ∷ bytes)) }) f
