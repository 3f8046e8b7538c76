-- What a memory's row of the message table leaves of its log and its drains, and the numbers of what it sends.
use Rattle.std.proofs.Common.{◌≡◌, ◌⊎◌, ◌+◌, ◌==◌, [], ◌∷◌, ◌++◌, ℕ, Bool, List, None, Option, Some, ap, arith, cond, false, inl, inr, leb, length, ltb, refl, slice_get, subst, suc, sym, true, zero}
use Rattle.std.specs.List.{AllByRecursion}
use Rattle.std.specs.Prelude.{slice_set}
use Rattle.lego_base.specs.declared.records.Patch.{Patch}
use Rattle.lego_msg.specs.State.{Mem, Waiter}
use Rattle.lego_msg.specs.Maps.{copied_pages, patched, with_pages}
use Rattle.lego_msg.specs.Places.{memory}
use Rattle.lego_msg.specs.Table.{answers, areas_copied, batched, block_in, handled_body, read_block, reply, within_frames}
use Rattle.lego_msg.specs.declared.body.Body.{Body}
use Rattle.lego_msg.specs.declared.body.Body.TheVariants.{AreasAre, BackedUp, Backup, BlockCut, BlockGet, BlockIs, BlockPut, CopySpace, Done, Drain, Drained, DropSpace, FileBytes, FileCut, FileFree, FileRead, FileSize, FileWrite, Find, GetAreas, ImageCopy, ImageDrop, ImageFree, Images, Line, LogFull, LogWrite, Meta, NameAll, NameCut, NameGet, NameIs, NameMake, Names, OwnerIs, PullImages, PullMeta, PullPages, PushImages, PushMeta, Read, Refused, ResetImages, SetAreas, SetHome, SizeIs, Unmap, Write, Wrote}
use Rattle.lego_msg.specs.declared.message.Message.{Message}
use Rattle.lego_msg.specs.declared.place.Why.TheVariants as why
use Rattle.lego_msg.specs.declared.place.Role.TheVariants.{Main, Spare}
use Rattle.lego_rest.specs.Heals.{count_drains, count_waiting}
use Rattle.rest_laws.proofs.Opened.{all_both}
use Rattle.rest_laws.proofs.kinds.Logging.{by_rule, logging}

-- DRAINS THAT WAIT for a number

pub one_more : (number : ℕ) (drains : List Waiter) (w : Waiter) → (w.op == number) ≡ false → count_waiting number (drains ++ w ∷ []) ≡ count_waiting number drains
one_more number [] w none = by (cond (w.op == number) 1 0) (ap (λ (b : Bool). cond b 1 0) none)
  where
    by : (one : ℕ) → one ≡ 0 → one + 0 ≡ 0
    by one e = omega (arith, e)
one_more number (v ∷ drains) w none = ap (λ (k : ℕ). cond (v.op == number) 1 0 + k) (one_more number drains w none)

-- a memory is set
pub set_drains : (number : ℕ) (mems : List Mem) (k : ℕ) (s s' : Mem) → slice_get mems k ≡ Some s → count_drains number (slice_set mems k s') + count_waiting number s.drains ≡ count_drains number mems + count_waiting number s'.drains
set_drains number [] k s s' at = cc at
set_drains number (y ∷ mems) zero s s' at =
    let same : count_waiting number y.drains ≡ count_waiting number s.drains = ap (λ (z : Mem). count_waiting number z.drains) (one_mem y s at) in
    by (count_waiting number y.drains) (count_waiting number s.drains) (count_waiting number s'.drains) (count_drains number mems) same
  where
    one_mem : (a b : Mem) → Some a ≡ Some b → a ≡ b
    one_mem a b e = cc e

    by : (a b c d : ℕ) → a ≡ b → (c + d) + b ≡ (a + d) + c
    by a b c d e = omega (arith, e)
set_drains number (y ∷ mems) (suc k) s s' at = by (count_waiting number y.drains) (count_drains number (slice_set mems k s')) (count_waiting number s.drains) (count_drains number mems) (count_waiting number s'.drains) (set_drains number mems k s s' at)
  where
    by : (a b c d e : ℕ) → b + c ≡ d + e → (a + b) + c ≡ (a + d) + e
    by a b c d e is = omega (arith, is)

-- WHAT A ROW LEAVES

-- what is sent has the number of the message, or none
abbrev pub NumberedBy : Message → Message → Type 0
NumberedBy m x = (x.op.0 ≡ m.op.0) ⊎ (x.op.0 ≡ 0)

pub record Leaves (s : Mem) (m : Message) (r : Mem × List Message) : Type 0 where
  pub numbers : AllByRecursion (NumberedBy m) r.1
  -- drains of other numbers wait as before
  pub drains : (number : ℕ) → (m.op.0 == number) ≡ false → count_waiting number r.0.drains ≡ count_waiting number s.drains
  -- the log gets at most the patch that is written to it
  pub log : (only : Option Patch) → ((patch : Patch) → m.body ≡ LogWrite patch → only ≡ Some patch) → AllByRecursion (λ (p : Patch). only ≡ Some p) s.log → AllByRecursion (λ (p : Patch). only ≡ Some p) r.0.log

at_once : (s s' : Mem) (m r : Message) → NumberedBy m r → s'.log ≡ s.log → s'.drains ≡ s.drains → Leaves s m (s', r ∷ [])
at_once s s' m r number log drains = record {
  numbers = (number, tt);
  drains = λ n none. ap (count_waiting n) drains;
  log = λ only more all. subst (AllByRecursion (λ (p : Patch). only ≡ Some p)) (sym log) all;
}

nothing : (s : Mem) (m : Message) → Leaves s m (s, [])
nothing s m = record { numbers = tt; drains = λ n none. refl; log = λ only more all. all }

either_leaves : (s : Mem) (m : Message) (b : Bool) (x y : Mem × List Message) → Leaves s m x → Leaves s m y → Leaves s m (cond b x y)
either_leaves s m true x y one other = one
either_leaves s m false x y one other = other

batched_leaves : (s s' : Mem) (m : Message) (after : List Message) → Leaves s m (s', after) → Leaves s m (batched s' after)
batched_leaves s s' m after leaves = by_rule (λ (p : Mem × List Message). Leaves s m p) s' after (λ due. record { numbers = (inr refl, leaves.numbers); drains = leaves.drains; log = leaves.log }) (λ waits. leaves)

framed : (s changed : Mem) (m : Message) (told : Body) → changed.log ≡ s.log → changed.drains ≡ s.drains → Leaves s m (within_frames s changed m told)
framed s changed m told log drains = by (leb (length changed.pages) s.frames)
  where
    by : (b : Bool) → Leaves s m (cond b (answers changed m told) (answers s m (Refused why.Full)))
    by true = at_once s changed m (reply (memory changed.id) m told) (inl refl) log drains
    by false = at_once s s m (reply (memory s.id) m (Refused why.Full)) (inl refl) refl refl

leaves_body : (s : Mem) (m : Message) (told : Body) → m.body ≡ told → (told ≡ BackedUp) ⊎ Leaves s m (handled_body s m told)
leaves_body s m (Find pid region) is = inr (at_once s s m _ (inl refl) refl refl)
leaves_body s m (Read pid line) is = inr (at_once s s m _ (inl refl) refl refl)
leaves_body s m (Write patch) is = inr (framed s (record s { pages = patched patch s.pages }) m Wrote refl refl)
leaves_body s m (LogWrite patch) is = inr (either_leaves s m (ltb (length s.log) s.log_room) (batched (logging s (s.log ++ patch ∷ []) s.out s.drains) (reply (memory s.id) m Wrote ∷ [])) (answers s m LogFull) (batched_leaves s (logging s (s.log ++ patch ∷ []) s.out s.drains) m _ (record { numbers = (inl refl, tt); drains = λ number none. refl; log = λ only more all. all_both (λ (p : Patch). only ≡ Some p) s.log (patch ∷ []) all (more patch is, tt) })) (at_once s s m _ (inl refl) refl refl))
leaves_body s m Drain is = inr (either_leaves s m (length s.log == 0) (answers s m Drained) (batched (logging s s.log s.out (s.drains ++ record { place = m.from; op = m.op.0 } ∷ [])) []) (at_once s s m _ (inl refl) refl refl) (batched_leaves s (logging s s.log s.out (s.drains ++ record { place = m.from; op = m.op.0 } ∷ [])) m [] (record { numbers = tt; drains = λ number none. one_more number s.drains (record { place = m.from; op = m.op.0 }) none; log = λ only more all. all })))
leaves_body s m BackedUp is = inl refl
leaves_body s m (SetHome pid region owner Main) is = inr (at_once s _ m _ (inl refl) refl refl)
leaves_body s m (SetHome pid region owner Spare) is = inr (at_once s _ m _ (inl refl) refl refl)
leaves_body s m (SetAreas pid region areas Main) is = inr (at_once s _ m _ (inl refl) refl refl)
leaves_body s m (SetAreas pid region areas Spare) is = inr (at_once s _ m _ (inl refl) refl refl)
leaves_body s m (GetAreas pid region) is = inr (at_once s s m _ (inl refl) refl refl)
leaves_body s m (Unmap pid region first pages areas Main) is = inr (at_once s _ m _ (inl refl) refl refl)
leaves_body s m (Unmap pid region first pages areas Spare) is = inr (at_once s _ m _ (inl refl) refl refl)
leaves_body s m (CopySpace parent child regions Main) is = inr (framed s (record (areas_copied s Main parent child regions) { pages = copied_pages parent.0 child regions s.pages }) m Done refl refl)
leaves_body s m (CopySpace parent child regions Spare) is = inr (at_once s _ m _ (inl refl) refl refl)
leaves_body s m (DropSpace pid) is = inr (at_once s _ m _ (inl refl) refl refl)
leaves_body s m (FileRead file block off len) is = inr (by (block_in file.0 block s.blocks))
  where
    by : (c : Option (List ℕ)) → Leaves s m (read_block c s m file block off len)
    by None = at_once s s m _ (inl refl) refl refl
    by (Some bytes) = at_once s _ m _ (inl refl) refl refl
leaves_body s m (BlockIs file block off len asker bytes) is = inr (at_once s _ m _ (inl refl) refl refl)
leaves_body s m (FileWrite file block off bytes) is = inr (at_once s _ m _ (inl refl) refl refl)
leaves_body s m (FileCut file size) is = inr (at_once s _ m _ (inl refl) refl refl)
leaves_body s m (PullMeta of role) is = inr (at_once s s m _ (inl refl) refl refl)
leaves_body s m (PushMeta Main homes areas) is = inr (at_once s _ m _ (inl refl) refl refl)
leaves_body s m (PushMeta Spare homes areas) is = inr (at_once s _ m _ (inl refl) refl refl)
leaves_body s m (PullPages pid region) is = inr (at_once s s m _ (inl refl) refl refl)
leaves_body s m (PushImages pid region pages) is = inr (framed s (record s { pages = with_pages pid.0 region.0 pages s.pages }) m Done refl refl)
leaves_body s m (ImageDrop pid first pages) is = inr (nothing s m)
leaves_body s m (ImageCopy parent child regions) is = inr (nothing s m)
leaves_body s m (ImageFree pid) is = inr (nothing s m)
leaves_body s m (PullImages pid region) is = inr (nothing s m)
leaves_body s m (ResetImages pid region pages) is = inr (nothing s m)
leaves_body s m (FileSize file) is = inr (nothing s m)
leaves_body s m (NameGet name) is = inr (nothing s m)
leaves_body s m (NameMake name) is = inr (nothing s m)
leaves_body s m (NameCut name) is = inr (nothing s m)
leaves_body s m NameAll is = inr (nothing s m)
leaves_body s m (FileFree file) is = inr (nothing s m)
leaves_body s m (Backup patches) is = inr (nothing s m)
leaves_body s m (BlockGet file block off len asker) is = inr (nothing s m)
leaves_body s m (BlockPut file block off bytes asker) is = inr (nothing s m)
leaves_body s m (BlockCut file size asker) is = inr (nothing s m)
leaves_body s m (OwnerIs owner) is = inr (nothing s m)
leaves_body s m (Line perms bytes) is = inr (nothing s m)
leaves_body s m (Refused why) is = inr (nothing s m)
leaves_body s m Wrote is = inr (nothing s m)
leaves_body s m LogFull is = inr (nothing s m)
leaves_body s m Drained is = inr (nothing s m)
leaves_body s m Done is = inr (nothing s m)
leaves_body s m (AreasAre areas) is = inr (nothing s m)
leaves_body s m (FileBytes bytes) is = inr (nothing s m)
leaves_body s m (SizeIs size) is = inr (nothing s m)
leaves_body s m (NameIs file) is = inr (nothing s m)
leaves_body s m (Names list) is = inr (nothing s m)
leaves_body s m (Meta homes areas) is = inr (nothing s m)
leaves_body s m (Images pages) is = inr (nothing s m)

pub leaves : (s : Mem) (m : Message) → (m.body ≡ BackedUp) ⊎ Leaves s m (handled_body s m m.body)
leaves s m = leaves_body s m m.body refl
