-- What an answer tells its caller, of the plain map before the operation.
use Rattle.std.specs.Prelude.{◌≡◌, ◌/◌, if◌then◌else◌, None, Option, Some, length}
use Rattle.lego_base.specs.Files.{file_bytes, named}
use Rattle.lego_base.specs.Pieces.{piece}
use Rattle.lego_base.specs.Space.{perms_of}
use Rattle.lego_base.specs.declared.ids.FileNo.{FileNo}
use Rattle.lego_msg.specs.Files.{Files, block_of, is_file_room}
use Rattle.lego_msg.specs.Maps.{bytes_or_zeros}
use Rattle.lego_msg.specs.Plain.{Plain}
use Rattle.lego_msg.specs.Table.{line_answer}
use Rattle.lego_msg.specs.declared.body.Body.{Body}
use Rattle.lego_msg.specs.declared.body.Body.TheVariants.{AreasAre, FileBytes, NameIs, Names, OwnerIs, Refused, SizeIs}
use Rattle.lego_msg.specs.declared.operation.Operation.{Operation}
use Rattle.lego_msg.specs.declared.operation.Operation.TheVariants.{AsksAreas, AsksSize, Finds, GetsName, ListsNames, MakesName, Reads, ReadsFile}
use Rattle.lego_msg.specs.declared.place.Why.TheVariants as why

-- making a name: the file that has it then, or a refusal where there are as many files as there may be
abbrev pub made_reply : Option FileNo → Files → Body
made_reply (Some file) f = NameIs (Some file)
made_reply None f = if is_file_room f then NameIs (Some (record { 0 = f.next })) else Refused why.NoRoom

abbrev pub IsReply : Plain → Operation → Body → Type 0
IsReply f (Finds pid region) told = told ≡ OwnerIs (f.homes pid.0 region.0)
IsReply f (Reads pid line owner) told = told ≡ line_answer (perms_of (f.areas pid.0 (line.0 / 32768)) (line.0 / 64)) (bytes_or_zeros (f.page pid.0 (line.0 / 64))) line.0
IsReply f (AsksAreas pid region owner) told = told ≡ AreasAre (f.areas pid.0 region.0)
IsReply f (ReadsFile file block off len) told = told ≡ FileBytes (piece (block_of (file_bytes f.files.files file.0) block) off len)
IsReply f (AsksSize file) told = told ≡ SizeIs (length (file_bytes f.files.files file.0))
IsReply f (GetsName name) told = told ≡ NameIs (named f.files.names name)
IsReply f (MakesName name) told = told ≡ made_reply (named f.files.names name) f.files
IsReply f ListsNames told = told ≡ Names f.files.names
IsReply f other told = Unit {0}
