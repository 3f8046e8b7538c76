-- What the message table sends for each message of an operation: something with its number, or its drain waits.
use Rattle.std.proofs.Common.{◌≡◌, ◌⊎◌, ◌+◌, ◌==◌, ◌&&◌, ◌||◌, [], ◌∷◌, ◌++◌, ◌∙◌, ℕ, Bool, List, None, Option, Some, ap, cond, drop, false, inl, inr, leb, length, ltb, map, refl, suc, sym, true, zero}
use Rattle.std.proofs.lemmas.Bool.{eq-eqb}
use Rattle.std.proofs.lemmas.List.Folds.{list_any-append}
use Rattle.std.specs.List.{AllByRecursion, list_any}
use Rattle.lego_base.specs.Files.{named}
use Rattle.lego_base.specs.declared.ids.FileNo.{FileNo}
use Rattle.lego_base.specs.declared.ids.OpNo.{OpNo}
use Rattle.lego_base.specs.declared.ids.Pid.{Pid}
use Rattle.lego_base.specs.declared.records.PageImage.{PageImage}
use Rattle.lego_msg.specs.Files.{file_cut, file_written, is_file_room, is_room, made}
use Rattle.lego_msg.specs.Maps.{copied_areas, copied_pages, patched, with_pages}
use Rattle.lego_msg.specs.Operations.{asks_of, each_from, messages_of}
use Rattle.lego_msg.specs.Places.{is_issuer, memory, same_place}
use Rattle.lego_msg.specs.State.{Disk, Kept, Mem, Waiter}
use Rattle.lego_msg.specs.Table.{answers, backup, batch_gone, batched, block_in, drained, handled_body, made_name, read_block, reply, says, stored_body, tells, within_frames}
use Rattle.lego_msg.specs.declared.body.Body.{Body}
use Rattle.lego_msg.specs.declared.body.Body.TheVariants.{AreasAre, BackedUp, Backup, BlockCut, BlockGet, BlockIs, BlockPut, CopySpace, Done, Drain, Drained, DropSpace, FileBytes, FileCut, FileFree, FileRead, FileSize, FileWrite, Find, GetAreas, ImageCopy, ImageDrop, ImageFree, Images, Line, LogFull, LogWrite, Meta, NameAll, NameCut, NameGet, NameIs, NameMake, Names, OwnerIs, PullImages, PullMeta, PullPages, PushImages, PushMeta, Read, Refused, ResetImages, SetAreas, SetHome, SizeIs, Unmap, Write, Wrote}
use Rattle.lego_msg.specs.declared.message.Message.{Message}
use Rattle.lego_msg.specs.declared.operation.Operation.{Operation}
use Rattle.lego_msg.specs.declared.operation.Operation.TheVariants as op
use Rattle.lego_msg.specs.declared.place.Place.{Place}
use Rattle.lego_msg.specs.declared.place.Role.TheVariants.{Main, Spare}
use Rattle.rest_laws.proofs.Replied.{keeping}
use Rattle.rest_laws.proofs.kinds.Logging.{by_rule, logging}
use Rattle.rest_laws.specs.KindsEnding.{IsCalled}
use Rattle.lego_msg.specs.declared.place.Place.TheVariants as place
use Rattle.lego_msg.specs.declared.place.Why.TheVariants as why

-- a message with a number, from a place
abbrev pub sent_by : ℕ → Place → Message → Bool
sent_by number p r = r.op.0 == number && same_place r.from p

abbrev pub waits_for : ℕ → List Waiter → Bool
waits_for number drains = list_any (λ (w : Waiter). w.op == number) drains

-- what a memory makes of a message: it sends something with its number, or a drain with it waits
abbrev pub Follows : ℕ → ℕ → Mem × List Message → Type 0
Follows number id p = (list_any (sent_by number (memory id)) p.1 ≡ true) ⊎ (waits_for number p.0.drains ≡ true)

own : (number id : ℕ) → (number == number && same_place (memory id) (memory id)) ≡ true
own number id = ap (λ (b : Bool). b && same_place (memory id) (memory id)) (eq-eqb number number refl) ∙ eq-eqb id id refl

one_sent : (number id : ℕ) (s : Mem) (to : Place) (op_ : OpNo) (told : Body) → op_.0 ≡ number → Follows number id (s, record { from = memory id; to = to; op = op_; body = told } ∷ [])
one_sent number id s to op_ told is = inl (ap (λ (b : Bool). b || false) (ap (λ (n : ℕ). n == number && same_place (memory id) (memory id)) is ∙ own number id))

pub later_any : (a b : Bool) → b ≡ true → (a || b) ≡ true
later_any true b e = refl
later_any false b e = e

pub first_any : (a b : Bool) → a ≡ true → (a || b) ≡ true
first_any true b e = refl
first_any false b e = cc e

-- whether a memory has a row for it that answers or hands on
abbrev pub is_asked : Body → Bool
is_asked (Find pid region) = true
is_asked (Read pid line) = true
is_asked (Write patch) = true
is_asked (LogWrite patch) = true
is_asked Drain = true
is_asked (SetHome pid region owner role) = true
is_asked (SetAreas pid region areas role) = true
is_asked (GetAreas pid region) = true
is_asked (Unmap pid region first pages areas role) = true
is_asked (CopySpace parent child regions role) = true
is_asked (DropSpace pid) = true
is_asked (FileRead file block off len) = true
is_asked (BlockIs file block off len asker bytes) = true
is_asked (FileWrite file block off bytes) = true
is_asked (FileCut file size) = true
is_asked other = false

batched_follows : (number id : ℕ) (s : Mem) (sent : List Message) → (list_any (sent_by number (memory id)) sent ≡ true) ⊎ (waits_for number s.drains ≡ true) → Follows number id (batched s sent)
batched_follows number id s sent is = by_rule (Follows number id) s sent (λ due. more is) (λ waits. is)
  where
    more : (list_any (sent_by number (memory id)) sent ≡ true) ⊎ (waits_for number s.drains ≡ true) → Follows number id (record s { out = length s.log }, backup s ∷ sent)
    more (inl e) = inl (later_any (sent_by number (memory id) (backup s)) (list_any (sent_by number (memory id)) sent) e)
    more (inr e) = inr e

-- A ROW FOLLOWS its message
sent_own : (number id : ℕ) → ((number == number && same_place (memory id) (memory id)) || false) ≡ true
sent_own number id = ap (λ (b : Bool). b || false) (own number id)

within_own : (s : Mem) (main spare : Kept) (pages : List PageImage) (m : Message) (told : Body) → Follows m.op.0 s.id (within_frames s (keeping s main spare pages) m told)
within_own s main spare pages m told = by (leb (length pages) s.frames)
  where
    by : (b : Bool) → Follows m.op.0 s.id (cond b (answers (keeping s main spare pages) m told) (answers s m (Refused why.Full)))
    by true = inl (sent_own m.op.0 s.id)
    by false = inl (sent_own m.op.0 s.id)

within_waits : (number : ℕ) (s : Mem) (main spare : Kept) (pages : List PageImage) (m : Message) (told : Body) → waits_for number s.drains ≡ true → Follows number s.id (within_frames s (keeping s main spare pages) m told)
within_waits number s main spare pages m told waits = by (leb (length pages) s.frames)
  where
    by : (b : Bool) → Follows number s.id (cond b (answers (keeping s main spare pages) m told) (answers s m (Refused why.Full)))
    by true = inr waits
    by false = inr waits

pub row_follows : (s : Mem) (m : Message) (told : Body) → is_asked told ≡ true → Follows m.op.0 s.id (handled_body s m told)
row_follows s m (Find pid region) is = inl (sent_own m.op.0 s.id)
row_follows s m (Read pid line) is = inl (sent_own m.op.0 s.id)
row_follows s m (Write patch) is = within_own s s.main s.spare (patched patch s.pages) m Wrote
row_follows s m (LogWrite patch) is = by (ltb (length s.log) s.log_room)
  where
    by : (b : Bool) → Follows m.op.0 s.id (cond b (batched (logging s (s.log ++ patch ∷ []) s.out s.drains) (reply (memory s.id) m Wrote ∷ [])) (answers s m LogFull))
    by true = batched_follows m.op.0 s.id (logging s (s.log ++ patch ∷ []) s.out s.drains) (reply (memory s.id) m Wrote ∷ []) (one_sent m.op.0 s.id s m.from m.op Wrote refl)
    by false = one_sent m.op.0 s.id s m.from m.op LogFull refl
row_follows s m Drain is = by (length s.log == 0)
  where
    w : Waiter
    w = record { place = m.from; op = m.op.0 }

    by : (b : Bool) → Follows m.op.0 s.id (cond b (answers s m Drained) (batched (logging s s.log s.out (s.drains ++ record { place = m.from; op = m.op.0 } ∷ [])) []))
    by true = one_sent m.op.0 s.id s m.from m.op Drained refl
    by false = batched_follows m.op.0 s.id (logging s s.log s.out (s.drains ++ record { place = m.from; op = m.op.0 } ∷ [])) [] (inr (list_any-append (λ (w : Waiter). w.op == m.op.0) s.drains (record { place = m.from; op = m.op.0 } ∷ []) ∙ later_any (waits_for m.op.0 s.drains) ((m.op.0 == m.op.0) || false) (ap (λ (b : Bool). b || false) (eq-eqb m.op.0 m.op.0 refl))))
row_follows s m BackedUp is = cc is
row_follows s m (SetHome pid region owner Main) is = inl (sent_own m.op.0 s.id)
row_follows s m (SetHome pid region owner Spare) is = inl (sent_own m.op.0 s.id)
row_follows s m (SetAreas pid region areas Main) is = inl (sent_own m.op.0 s.id)
row_follows s m (SetAreas pid region areas Spare) is = inl (sent_own m.op.0 s.id)
row_follows s m (GetAreas pid region) is = inl (sent_own m.op.0 s.id)
row_follows s m (Unmap pid region first pages areas Main) is = inl (sent_own m.op.0 s.id)
row_follows s m (Unmap pid region first pages areas Spare) is = inl (sent_own m.op.0 s.id)
row_follows s m (CopySpace parent child regions Main) is = within_own s (record { homes = s.main.homes; areas = copied_areas parent.0 child regions s.main.areas }) s.spare (copied_pages parent.0 child regions s.pages) m Done
row_follows s m (CopySpace parent child regions Spare) is = inl (sent_own m.op.0 s.id)
row_follows s m (DropSpace pid) is = inl (sent_own m.op.0 s.id)
row_follows s m (FileRead file block off len) is = by (block_in file.0 block s.blocks)
  where
    by : (c : Option (List ℕ)) → Follows m.op.0 s.id (read_block c s m file block off len)
    by None = one_sent m.op.0 s.id s place.Storage m.op (BlockGet file block off len m.from) refl
    by (Some bytes) = inl (ap (λ (b : Bool). b || false) (own m.op.0 s.id))
row_follows s m (BlockIs file block off len asker bytes) is = inl (sent_own m.op.0 s.id)
row_follows s m (FileWrite file block off bytes) is = inl (sent_own m.op.0 s.id)
row_follows s m (FileCut file size) is = inl (sent_own m.op.0 s.id)
row_follows s m (PullMeta of role) is = cc is
row_follows s m (PushMeta Main homes areas) is = cc is
row_follows s m (PushMeta Spare homes areas) is = cc is
row_follows s m (PullPages pid region) is = cc is
row_follows s m (PushImages pid region pages) is = cc is
row_follows s m (ImageDrop pid first pages) is = cc is
row_follows s m (ImageCopy parent child regions) is = cc is
row_follows s m (ImageFree pid) is = cc is
row_follows s m (PullImages pid region) is = cc is
row_follows s m (ResetImages pid region pages) is = cc is
row_follows s m (FileSize file) is = cc is
row_follows s m (NameGet name) is = cc is
row_follows s m (NameMake name) is = cc is
row_follows s m (NameCut name) is = cc is
row_follows s m NameAll is = cc is
row_follows s m (FileFree file) is = cc is
row_follows s m (Backup patches) is = cc is
row_follows s m (BlockGet file block off len asker) is = cc is
row_follows s m (BlockPut file block off bytes asker) is = cc is
row_follows s m (BlockCut file size asker) is = cc is
row_follows s m (OwnerIs owner) is = cc is
row_follows s m (Line perms bytes) is = cc is
row_follows s m (Refused why) is = cc is
row_follows s m Wrote is = cc is
row_follows s m LogFull is = cc is
row_follows s m Drained is = cc is
row_follows s m Done is = cc is
row_follows s m (AreasAre areas) is = cc is
row_follows s m (FileBytes bytes) is = cc is
row_follows s m (SizeIs size) is = cc is
row_follows s m (NameIs file) is = cc is
row_follows s m (Names list) is = cc is
row_follows s m (Meta homes areas) is = cc is
row_follows s m (Images pages) is = cc is

-- A DRAIN THAT WAITS still waits once another message came, or is answered
pub drains_follow : (number : ℕ) (s : Mem) (m : Message) (told : Body) → waits_for number s.drains ≡ true → Follows number s.id (handled_body s m told)
drains_follow number s m (Find pid region) waits = inr waits
drains_follow number s m (Read pid line) waits = inr waits
drains_follow number s m (Write patch) waits = within_waits number s s.main s.spare (patched patch s.pages) m Wrote waits
drains_follow number s m (LogWrite patch) waits = by (ltb (length s.log) s.log_room)
  where
    by : (b : Bool) → Follows number s.id (cond b (batched (logging s (s.log ++ patch ∷ []) s.out s.drains) (reply (memory s.id) m Wrote ∷ [])) (answers s m LogFull))
    by true = batched_follows number s.id (logging s (s.log ++ patch ∷ []) s.out s.drains) (reply (memory s.id) m Wrote ∷ []) (inr waits)
    by false = inr waits
drains_follow number s m Drain waits = by (length s.log == 0)
  where
    by : (b : Bool) → Follows number s.id (cond b (answers s m Drained) (batched (logging s s.log s.out (s.drains ++ record { place = m.from; op = m.op.0 } ∷ [])) []))
    by true = inr waits
    by false = batched_follows number s.id (logging s s.log s.out (s.drains ++ record { place = m.from; op = m.op.0 } ∷ [])) [] (inr (list_any-append (λ (w : Waiter). w.op == number) s.drains (record { place = m.from; op = m.op.0 } ∷ []) ∙ first_any (waits_for number s.drains) ((m.op.0 == number) || false) waits))
drains_follow number s m BackedUp waits = by (s.out == 0)
  where
    answered : (drains : List Waiter) → waits_for number drains ≡ true → list_any (sent_by number (memory s.id)) (map (drained s.id) drains) ≡ true
    answered [] e = cc e
    answered (w ∷ drains) e = one (w.op == number) e (answered drains)
      where
        one : (a : Bool) → (a || waits_for number drains) ≡ true → (waits_for number drains ≡ true → list_any (sent_by number (memory s.id)) (map (drained s.id) drains) ≡ true) → ((a && same_place (memory s.id) (memory s.id)) || list_any (sent_by number (memory s.id)) (map (drained s.id) drains)) ≡ true
        one true e rest = first_any (same_place (memory s.id) (memory s.id)) (list_any (sent_by number (memory s.id)) (map (drained s.id) drains)) (eq-eqb s.id s.id refl)
        one false e rest = rest e

    under : (b : Bool) → Follows number s.id (cond b (logging s (drop s.out s.log) 0 [], map (drained s.id) s.drains) (batched (logging s (drop s.out s.log) 0 s.drains) []))
    under true = inl (answered s.drains waits)
    under false = batched_follows number s.id (logging s (drop s.out s.log) 0 s.drains) [] (inr waits)

    by : (b : Bool) → Follows number s.id (cond b (s, []) (batch_gone (logging s (drop s.out s.log) 0 s.drains)))
    by true = inr waits
    by false = under (length (drop s.out s.log) == 0)
drains_follow number s m (SetHome pid region owner Main) waits = inr waits
drains_follow number s m (SetHome pid region owner Spare) waits = inr waits
drains_follow number s m (SetAreas pid region areas Main) waits = inr waits
drains_follow number s m (SetAreas pid region areas Spare) waits = inr waits
drains_follow number s m (GetAreas pid region) waits = inr waits
drains_follow number s m (Unmap pid region first pages areas Main) waits = inr waits
drains_follow number s m (Unmap pid region first pages areas Spare) waits = inr waits
drains_follow number s m (CopySpace parent child regions Main) waits = within_waits number s (record { homes = s.main.homes; areas = copied_areas parent.0 child regions s.main.areas }) s.spare (copied_pages parent.0 child regions s.pages) m Done waits
drains_follow number s m (CopySpace parent child regions Spare) waits = inr waits
drains_follow number s m (DropSpace pid) waits = inr waits
drains_follow number s m (FileRead file block off len) waits = by (block_in file.0 block s.blocks)
  where
    by : (c : Option (List ℕ)) → Follows number s.id (read_block c s m file block off len)
    by None = inr waits
    by (Some bytes) = inr waits
drains_follow number s m (BlockIs file block off len asker bytes) waits = inr waits
drains_follow number s m (FileWrite file block off bytes) waits = inr waits
drains_follow number s m (FileCut file size) waits = inr waits
drains_follow number s m (PullMeta of role) waits = inr waits
drains_follow number s m (PushMeta Main homes areas) waits = inr waits
drains_follow number s m (PushMeta Spare homes areas) waits = inr waits
drains_follow number s m (PullPages pid region) waits = inr waits
drains_follow number s m (PushImages pid region pages) waits = within_waits number s s.main s.spare (with_pages pid.0 region.0 pages s.pages) m Done waits
drains_follow number s m (ImageDrop pid first pages) waits = inr waits
drains_follow number s m (ImageCopy parent child regions) waits = inr waits
drains_follow number s m (ImageFree pid) waits = inr waits
drains_follow number s m (PullImages pid region) waits = inr waits
drains_follow number s m (ResetImages pid region pages) waits = inr waits
drains_follow number s m (FileSize file) waits = inr waits
drains_follow number s m (NameGet name) waits = inr waits
drains_follow number s m (NameMake name) waits = inr waits
drains_follow number s m (NameCut name) waits = inr waits
drains_follow number s m NameAll waits = inr waits
drains_follow number s m (FileFree file) waits = inr waits
drains_follow number s m (Backup patches) waits = inr waits
drains_follow number s m (BlockGet file block off len asker) waits = inr waits
drains_follow number s m (BlockPut file block off bytes asker) waits = inr waits
drains_follow number s m (BlockCut file size asker) waits = inr waits
drains_follow number s m (OwnerIs owner) waits = inr waits
drains_follow number s m (Line perms bytes) waits = inr waits
drains_follow number s m (Refused why) waits = inr waits
drains_follow number s m Wrote waits = inr waits
drains_follow number s m LogFull waits = inr waits
drains_follow number s m Drained waits = inr waits
drains_follow number s m Done waits = inr waits
drains_follow number s m (AreasAre areas) waits = inr waits
drains_follow number s m (FileBytes bytes) waits = inr waits
drains_follow number s m (SizeIs size) waits = inr waits
drains_follow number s m (NameIs file) waits = inr waits
drains_follow number s m (Names list) waits = inr waits
drains_follow number s m (Meta homes areas) waits = inr waits
drains_follow number s m (Images pages) waits = inr waits

-- STORAGE answers, or tells who asked
abbrev pub is_filed : Body → Bool
is_filed (ImageDrop pid first pages) = true
is_filed (ImageCopy parent child regions) = true
is_filed (ImageFree pid) = true
is_filed (BlockGet file block off len asker) = true
is_filed (BlockPut file block off bytes asker) = true
is_filed (BlockCut file size asker) = true
is_filed (FileSize file) = true
is_filed (NameGet name) = true
is_filed (NameMake name) = true
is_filed (NameCut name) = true
is_filed NameAll = true
is_filed (FileFree file) = true
is_filed other = false

abbrev pub Files_ : ℕ → Disk × List Message → Type 0
Files_ number p = list_any (sent_by number place.Storage) p.1 ≡ true

one_filed : (number : ℕ) (d : Disk) (to : Place) (op_ : OpNo) (told : Body) → op_.0 ≡ number → Files_ number (d, record { from = place.Storage; to = to; op = op_; body = told } ∷ [])
one_filed number d to op_ told is = ap (λ (b : Bool). (b && true) || false) (ap (λ (n : ℕ). n == number) is ∙ eq-eqb number number refl)

filed_own : (number : ℕ) → ((number == number && true) || false) ≡ true
filed_own number = ap (λ (b : Bool). (b && true) || false) (eq-eqb number number refl)

pub file_follows : (d : Disk) (m : Message) (told : Body) → is_filed told ≡ true → Files_ m.op.0 (stored_body d m told)
file_follows d m (Find pid region) is = cc is
file_follows d m (Read pid line) is = cc is
file_follows d m (Write patch) is = cc is
file_follows d m (LogWrite patch) is = cc is
file_follows d m Drain is = cc is
file_follows d m BackedUp is = cc is
file_follows d m (SetHome pid region owner role) is = cc is
file_follows d m (SetAreas pid region areas role) is = cc is
file_follows d m (GetAreas pid region) is = cc is
file_follows d m (Unmap pid region first pages areas role) is = cc is
file_follows d m (CopySpace parent child regions role) is = cc is
file_follows d m (DropSpace pid) is = cc is
file_follows d m (FileRead file block off len) is = cc is
file_follows d m (BlockIs file block off len asker bytes) is = cc is
file_follows d m (FileWrite file block off bytes) is = cc is
file_follows d m (FileCut file size) is = cc is
file_follows d m (PullMeta of role) is = cc is
file_follows d m (PushMeta Main homes areas) is = cc is
file_follows d m (PushMeta Spare homes areas) is = cc is
file_follows d m (PullPages pid region) is = cc is
file_follows d m (PushImages pid region pages) is = cc is
file_follows d m (ImageDrop pid first pages) is = filed_own m.op.0
file_follows d m (ImageCopy parent child regions) is = filed_own m.op.0
file_follows d m (ImageFree pid) is = filed_own m.op.0
file_follows d m (PullImages pid region) is = cc is
file_follows d m (ResetImages pid region pages) is = cc is
file_follows d m (FileSize file) is = filed_own m.op.0
file_follows d m (NameGet name) is = filed_own m.op.0
file_follows d m (NameMake name) is = by (named d.files.names name) (is_file_room d.files)
  where
    room : (b : Bool) → Files_ m.op.0 (cond b (says (record d { files = made d.files name }) m (NameIs (Some (record { 0 = d.files.next })))) (says d m (Refused why.NoRoom)))
    room true = one_filed m.op.0 d m.from m.op (NameIs (Some (record { 0 = d.files.next }))) refl
    room false = one_filed m.op.0 d m.from m.op (Refused why.NoRoom) refl

    by : (c : Option FileNo) (b : Bool) → Files_ m.op.0 (made_name c d m name)
    by (Some file) b = one_filed m.op.0 d m.from m.op (NameIs (Some file)) refl
    by None b = room (is_file_room d.files)
file_follows d m (NameCut name) is = filed_own m.op.0
file_follows d m NameAll is = filed_own m.op.0
file_follows d m (FileFree file) is = filed_own m.op.0
file_follows d m (Backup patches) is = cc is
file_follows d m (BlockGet file block off len asker) is = filed_own m.op.0
file_follows d m (BlockPut file block off bytes asker) is = by (is_room d.files (file_written d.files file.0 block off bytes))
  where
    by : (b : Bool) → Files_ m.op.0 (cond b (tells (record d { files = record d.files { files = file_written d.files file.0 block off bytes } }) m asker Wrote) (tells d m asker (Refused why.StoreFull)))
    by true = one_filed m.op.0 d asker m.op Wrote refl
    by false = one_filed m.op.0 d asker m.op (Refused why.StoreFull) refl
file_follows d m (BlockCut file size asker) is = by (is_room d.files (file_cut d.files file.0 size))
  where
    by : (b : Bool) → Files_ m.op.0 (cond b (tells (record d { files = record d.files { files = file_cut d.files file.0 size } }) m asker Done) (tells d m asker (Refused why.StoreFull)))
    by true = one_filed m.op.0 d asker m.op Done refl
    by false = one_filed m.op.0 d asker m.op (Refused why.StoreFull) refl
file_follows d m (OwnerIs owner) is = cc is
file_follows d m (Line perms bytes) is = cc is
file_follows d m (Refused why) is = cc is
file_follows d m Wrote is = cc is
file_follows d m LogFull is = cc is
file_follows d m Drained is = cc is
file_follows d m Done is = cc is
file_follows d m (AreasAre areas) is = cc is
file_follows d m (FileBytes bytes) is = cc is
file_follows d m (SizeIs size) is = cc is
file_follows d m (NameIs file) is = cc is
file_follows d m (Names list) is = cc is
file_follows d m (Meta homes areas) is = cc is
file_follows d m (Images pages) is = cc is

-- FIRST MESSAGES are of such kinds
pub record IsServed (x : Message) : Type 0 where
  pub component : is_issuer x.to ≡ false
  pub asked : (k : ℕ) → x.to ≡ memory k → is_asked x.body ≡ true
  pub filed : x.to ≡ place.Storage → is_filed x.body ≡ true

storage_no_memory : {X : Type 0} (k : ℕ) → memory k ≡ place.Storage → X
storage_no_memory k e = cc e

to_memory : (by : Place) (number : OpNo) (k : ℕ) (what : Body) → is_asked what ≡ true → IsServed (record { from = by; to = memory k; op = number; body = what })
to_memory by number k what asked = record { component = refl; asked = λ j is. asked; filed = λ is. storage_no_memory k is }

to_storage : (by : Place) (number : OpNo) (what : Body) → is_filed what ≡ true → IsServed (record { from = by; to = place.Storage; op = number; body = what })
to_storage by number what filed = record { component = refl; asked = λ j is. storage_no_memory j (sym is); filed = λ is. filed }

each_served : (by : Place) (number : OpNo) (pid : Pid) (count k : ℕ) → AllByRecursion IsServed (messages_of by number (each_from count k (DropSpace pid) (ImageFree pid)))
each_served by number pid zero k = (to_storage by number (ImageFree pid) refl, tt)
each_served by number pid (suc count) k = (to_memory by number k (DropSpace pid) refl, each_served by number pid count (k + 1))

pub all_served : (n : ℕ) (by : Place) (number : OpNo) (o : Operation) → IsCalled o → AllByRecursion IsServed (messages_of by number (asks_of n o))
all_served n by number (op.Finds pid region) called = (to_memory by number _ _ refl, tt)
all_served n by number (op.Reads pid line owner) called = (to_memory by number _ _ refl, tt)
all_served n by number (op.Writes origin patch owner) called = (to_memory by number _ _ refl, (to_memory by number _ _ refl, tt))
all_served n by number (op.SetsHome pid region owner) called = (to_memory by number _ _ refl, (to_memory by number _ _ refl, tt))
all_served n by number (op.SetsAreas pid region areas owner) called = (to_memory by number _ _ refl, (to_memory by number _ _ refl, tt))
all_served n by number (op.AsksAreas pid region owner) called = (to_memory by number _ _ refl, tt)
all_served n by number (op.Drains mem) called = (to_memory by number _ _ refl, tt)
all_served n by number (op.Unmaps pid region first pages areas owner) called = (to_memory by number _ _ refl, (to_memory by number _ _ refl, (to_storage by number _ refl, tt)))
all_served n by number (op.Copies parent child regions owner) called = (to_memory by number _ _ refl, (to_memory by number _ _ refl, (to_storage by number _ refl, tt)))
all_served n by number (op.Drops pid) called = each_served by number pid n 0
all_served n by number (op.ReadsFile file block off len) called = (to_memory by number _ _ refl, tt)
all_served n by number (op.WritesFile file block off bytes) called = (to_memory by number _ _ refl, tt)
all_served n by number (op.CutsFile file size) called = (to_memory by number _ _ refl, tt)
all_served n by number (op.AsksSize file) called = (to_storage by number _ refl, tt)
all_served n by number (op.GetsName name) called = (to_storage by number _ refl, tt)
all_served n by number (op.MakesName name) called = (to_storage by number _ refl, tt)
all_served n by number (op.CutsName name) called = (to_storage by number _ refl, tt)
all_served n by number op.ListsNames called = (to_storage by number _ refl, tt)
all_served n by number (op.FreesFile file) called = (to_storage by number _ refl, tt)
all_served n by number (op.Heals to_ what_) called = absurd called
