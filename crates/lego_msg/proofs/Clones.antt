-- A clone of a message's body is equal to it.
use Rattle.std.proofs.Common.{rules, ◌≡◌}
use Rattle.lego_msg.specs.declared.body.Body.{Body}
use Rattle.lego_msg.specs.declared.body.Body.TheVariants.{Find, Read, Write, LogWrite, Drain, SetHome, SetAreas, GetAreas, Unmap, CopySpace, DropSpace, FileRead, FileWrite, FileCut, PullMeta, PushMeta, PullPages, PushImages, ImageDrop, ImageCopy, ImageFree, PullImages, ResetImages, FileSize, NameGet, NameMake, NameCut, NameAll, FileFree, Backup, BackedUp, BlockGet, BlockIs, BlockPut, BlockCut, OwnerIs, Line, Refused, Wrote, LogFull, Drained, Done, AreasAre, FileBytes, SizeIs, NameIs, Names, Meta, Images}
use Rattle.lego_msg.specs.contracts.body.BodyClone.TheImpl.{by_variants}

pub same_body : (x y : Body) → by_variants x y → y ≡ x
same_body (Find a b) y h = search rules
same_body (Read a b) y h = search rules
same_body (Write a) y h = search rules
same_body (LogWrite a) y h = search rules
same_body Drain y h = search rules
same_body (SetHome a b c d) y h = search rules
same_body (SetAreas a b c d) y h = search rules
same_body (GetAreas a b) y h = search rules
same_body (Unmap a b c d e f) y h = search rules
same_body (CopySpace a b c d) y h = search rules
same_body (DropSpace a) y h = search rules
same_body (FileRead a b c d) y h = search rules
same_body (FileWrite a b c d) y h = search rules
same_body (FileCut a b) y h = search rules
same_body (PullMeta a b) y h = search rules
same_body (PushMeta a b c) y h = search rules
same_body (PullPages a b) y h = search rules
same_body (PushImages a b c) y h = search rules
same_body (ImageDrop a b c) y h = search rules
same_body (ImageCopy a b c) y h = search rules
same_body (ImageFree a) y h = search rules
same_body (PullImages a b) y h = search rules
same_body (ResetImages a b c) y h = search rules
same_body (FileSize a) y h = search rules
same_body (NameGet a) y h = search rules
same_body (NameMake a) y h = search rules
same_body (NameCut a) y h = search rules
same_body NameAll y h = search rules
same_body (FileFree a) y h = search rules
same_body (Backup a) y h = search rules
same_body BackedUp y h = search rules
same_body (BlockGet a b c d e) y h = search rules
same_body (BlockIs a b c d e f) y h = search rules
same_body (BlockPut a b c d e) y h = search rules
same_body (BlockCut a b c) y h = search rules
same_body (OwnerIs a) y h = search rules
same_body (Line a b) y h = search rules
same_body (Refused a) y h = search rules
same_body Wrote y h = search rules
same_body LogFull y h = search rules
same_body Drained y h = search rules
same_body Done y h = search rules
same_body (AreasAre a) y h = search rules
same_body (FileBytes a) y h = search rules
same_body (SizeIs a) y h = search rules
same_body (NameIs a) y h = search rules
same_body (Names a) y h = search rules
same_body (Meta a b) y h = search rules
same_body (Images a) y h = search rules
