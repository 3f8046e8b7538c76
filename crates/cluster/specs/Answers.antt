-- Which answer an operation gets.
use Rattle.std.specs.Prelude.{◌≡◌, ℕ, List, None, Option, Some}
use Rattle.lego_base.specs.Files.{file_bytes}
use Rattle.lego_base.specs.Pieces.{piece}
use Rattle.lego_base.specs.declared.ids.FileNo.{FileNo}
use Rattle.lego_base.specs.declared.ids.MemId.{MemId}
use Rattle.lego_base.specs.declared.records.Area.{Area}
use Rattle.lego_base.specs.declared.records.NameEntry.{NameEntry}
use Rattle.lego_msg.specs.Files.{block_of}
use Rattle.lego_msg.specs.Plain.{Plain}
use Rattle.lego_msg.specs.declared.body.Body.{Body}
use Rattle.lego_msg.specs.declared.body.Body.TheVariants.{AreasAre, FileBytes, Line, NameIs, Names, OwnerIs, Refused, SizeIs}
use Rattle.cluster.specs.declared.reads.LineRead.{LineRead}
use Rattle.lego_msg.specs.declared.place.Why.TheVariants as why

abbrev pub IsOwner : Body → Type 0
IsOwner body = (owner : Option MemId) × (body ≡ OwnerIs owner)

abbrev pub IsAreas : Body → Type 0
IsAreas body = (areas : List Area) × (body ≡ AreasAre areas)

abbrev pub IsSize : Body → Type 0
IsSize body = (size : ℕ) × (body ≡ SizeIs size)

abbrev pub IsBytes : Body → Type 0
IsBytes body = (bytes : List ℕ) × (body ≡ FileBytes bytes)

abbrev pub IsName : Body → Type 0
IsName body = (file : Option FileNo) × (body ≡ NameIs file)

abbrev pub IsNames : Body → Type 0
IsNames body = (names : List NameEntry) × (body ≡ Names names)

-- bytes of one block of a file
abbrev pub bytes_at : Plain → ℕ → ℕ → ℕ → ℕ → List ℕ
bytes_at f file block off len = piece (block_of (file_bytes f.files.files file) block) off len

-- a line that was read, or a page that no area has
abbrev pub line_body : Option LineRead → Body
line_body None = Refused why.NoArea
line_body (Some line) = Line line.perms line.bytes

abbrev pub IsLine : Body → Type 0
IsLine body = (line : Option LineRead) × (body ≡ line_body line)

-- the file of a name that was made, or no room for it
abbrev pub made_body : Option FileNo → Body
made_body None = Refused why.NoRoom
made_body (Some file) = NameIs (Some file)

abbrev pub IsMade : Body → Type 0
IsMade body = (file : Option FileNo) × (body ≡ made_body file)
