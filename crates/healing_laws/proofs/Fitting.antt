-- A message on its way that refuses so that the run stops is of a memory that is there, or of storage.
use Rattle.std.proofs.Common.{◌≡◌, ◌⊎◌, ◌∙◌, inl, inr, arith, refl, subst, sym, true}
use Rattle.lego_msg.specs.Deliveries.{stops}
use Rattle.lego_msg.specs.Track.{Track}
use Rattle.lego_msg.specs.declared.body.Body.{Body}
use Rattle.lego_msg.specs.declared.body.Body.TheVariants.{AreasAre, BackedUp, Backup, BlockCut, BlockGet, BlockIs, BlockPut, CopySpace, Done, Drain, Drained, DropSpace, FileBytes, FileCut, FileFree, FileRead, FileSize, FileWrite, Find, GetAreas, ImageCopy, ImageDrop, ImageFree, Images, Line, LogFull, LogWrite, Meta, NameAll, NameCut, NameGet, NameIs, NameMake, Names, OwnerIs, PullImages, PullMeta, PullPages, PushImages, PushMeta, Read, Refused, ResetImages, SetAreas, SetHome, SizeIs, Unmap, Write, Wrote}
use Rattle.lego_msg.specs.declared.message.Message.{Message}
use Rattle.lego_msg.specs.declared.place.Why.{Why}
use Rattle.rest_laws.proofs.Bare.{get_below}
use Rattle.healing_laws.specs.Playing.{FitsRefusal, RefusesFor, RefusesFull}
use Rattle.healing_laws.specs.Refusals.{HasCauseNow, IsMemoryRefusal, IsStorageRefusal}
use Rattle.healing_laws.specs.Running.{InRelation}
use Rattle.lego_msg.specs.declared.place.Place.TheVariants as place
use Rattle.lego_msg.specs.declared.place.Why.TheVariants as why

module _ (t : Track) (middle : InRelation t) (x : Message) (cause : HasCauseNow t x) where
  full : x.body ≡ Refused why.Full → IsMemoryRefusal t x ⊎ IsStorageRefusal t x → RefusesFull t.shape x.from
  full is (inl it) = subst (RefusesFull t.shape) (sym it.from) (let below = get_below t.mems it.k it.s it.at in let count = middle.count in omega (arith, below, count))
  full is (inr it) = let both : Refused why.Full ≡ Refused why.StoreFull = sym is ∙ it.told in cc both

  store_full : x.body ≡ Refused why.StoreFull → IsMemoryRefusal t x ⊎ IsStorageRefusal t x → x.from ≡ place.Storage
  store_full is (inl it) = let both : Refused why.StoreFull ≡ Refused why.Full = sym is ∙ it.told in cc both
  store_full is (inr it) = it.from

  for_reason : (reason : Why) → x.body ≡ Refused reason → (stops (Refused reason) ≡ true → IsMemoryRefusal t x ⊎ IsStorageRefusal t x) → RefusesFor t.shape x.from reason
  for_reason why.NoArea is caused = tt
  for_reason why.Full is caused = full is (caused refl)
  for_reason why.StoreFull is caused = store_full is (caused refl)
  for_reason why.NoRoom is caused = tt

  by_body : (told : Body) → x.body ≡ told → (stops told ≡ true → IsMemoryRefusal t x ⊎ IsStorageRefusal t x) → FitsRefusal t.shape x.from told
  by_body (Find pid region) is caused = tt
  by_body (Read pid line) is caused = tt
  by_body (Write patch) is caused = tt
  by_body (LogWrite patch) is caused = tt
  by_body Drain is caused = tt
  by_body BackedUp is caused = tt
  by_body (SetHome pid region owner role) is caused = tt
  by_body (SetAreas pid region areas role) is caused = tt
  by_body (GetAreas pid region) is caused = tt
  by_body (Unmap pid region first pages areas role) is caused = tt
  by_body (CopySpace parent child regions role) is caused = tt
  by_body (DropSpace pid) is caused = tt
  by_body (FileRead file block off len) is caused = tt
  by_body (BlockIs file block off len asker bytes) is caused = tt
  by_body (FileWrite file block off bytes) is caused = tt
  by_body (FileCut file size) is caused = tt
  by_body (PullMeta of role) is caused = tt
  by_body (PushMeta role homes areas) is caused = tt
  by_body (PullPages pid region) is caused = tt
  by_body (PushImages pid region pages) is caused = tt
  by_body (ImageDrop pid first pages) is caused = tt
  by_body (ImageCopy parent child regions) is caused = tt
  by_body (ImageFree pid) is caused = tt
  by_body (PullImages pid region) is caused = tt
  by_body (ResetImages pid region pages) is caused = tt
  by_body (FileSize file) is caused = tt
  by_body (NameGet name) is caused = tt
  by_body (NameMake name) is caused = tt
  by_body (NameCut name) is caused = tt
  by_body NameAll is caused = tt
  by_body (FileFree file) is caused = tt
  by_body (Backup patches) is caused = tt
  by_body (BlockGet file block off len asker) is caused = tt
  by_body (BlockPut file block off bytes asker) is caused = tt
  by_body (BlockCut file size asker) is caused = tt
  by_body (OwnerIs owner) is caused = tt
  by_body (Line perms bytes) is caused = tt
  by_body LogFull is caused = tt
  by_body Drained is caused = tt
  by_body Wrote is caused = tt
  by_body Done is caused = tt
  by_body (AreasAre areas) is caused = tt
  by_body (FileBytes bytes) is caused = tt
  by_body (SizeIs size) is caused = tt
  by_body (NameIs file) is caused = tt
  by_body (Names names) is caused = tt
  by_body (Meta homes areas) is caused = tt
  by_body (Images pages) is caused = tt
  by_body (Refused reason) is caused = for_reason reason is caused

  pub fits_refusal : FitsRefusal t.shape x.from x.body
  fits_refusal = by_body x.body refl cause
