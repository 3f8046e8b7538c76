-- Logs grow by the writes of lines alone; a drain leaves the log of its memory empty.
use Rattle.std.proofs.Common.{◌≡◌, ◌+◌, ◌==◌, [], ◌∷◌, ◌++◌, ◌∙◌, ℕ, Bool, List, None, Option, Some, ap, cond, drop, false, inl, inr, length, map, refl, slice_get, subst, suc, sym, take, true, zero}
use Rattle.std.proofs.lemmas.Bool.Decides.{eqb_tells}
use Rattle.std.proofs.lemmas.List.{take-append-drop}
use Rattle.std.specs.List.{AllByRecursion}
use Rattle.std.specs.Prelude.{slice_set}
use Rattle.lego_base.specs.declared.ids.OpNo.{OpNo}
use Rattle.lego_base.specs.declared.records.Patch.{Patch}
use Rattle.lego_msg.proofs.Lists.{Legal-back, Legal-front, run-append}
use Rattle.lego_msg.specs.Completions.{completed, finished}
use Rattle.lego_msg.specs.Deliveries.{MayDeliver, comes, issuer_gets, memory_handles, noted, noted_with, reaction_of, reacts, stops, taken}
use Rattle.lego_msg.specs.Granted.{Granted}
use Rattle.lego_msg.specs.Legal.{Legal, May}
use Rattle.lego_msg.specs.Marks.{Call, Mark, Order, Show}
use Rattle.lego_msg.specs.Operations.{asks_of, each_from, is_write, messages_of, patch_of}
use Rattle.lego_msg.specs.Places.{is_issuer, memory}
use Rattle.lego_msg.specs.Plain.{Plain}
use Rattle.lego_msg.specs.Run.{after, run}
use Rattle.lego_msg.specs.Sends.{begins, move_begins, sent}
use Rattle.lego_msg.specs.State.{Mem}
use Rattle.lego_msg.specs.Table.{batch_gone, batched, block_in, drained, handled, handled_body, read_block}
use Rattle.lego_msg.specs.Track.{Track, healing_move, memory_count}
use Rattle.lego_msg.specs.declared.body.Body.{Body}
use Rattle.lego_msg.specs.declared.body.Body.TheVariants.{AreasAre, BackedUp, Backup, BlockCut, BlockGet, BlockIs, BlockPut, CopySpace, Done, Drain, Drained, DropSpace, FileBytes, FileCut, FileFree, FileRead, FileSize, FileWrite, Find, GetAreas, ImageCopy, ImageDrop, ImageFree, Images, Line, LogFull, LogWrite, Meta, NameAll, NameCut, NameGet, NameIs, NameMake, Names, OwnerIs, PullImages, PullMeta, PullPages, PushImages, PushMeta, Read, Refused, ResetImages, SetAreas, SetHome, SizeIs, Unmap, Write, Wrote}
use Rattle.lego_msg.specs.declared.event.Event.{Event}
use Rattle.lego_msg.specs.declared.event.Event.TheVariants.{Access, Complete, Crash, Deliver, Drop, Fill, Out, Send, Turn}
use Rattle.lego_msg.specs.declared.healing.Healing.{Healing}
use Rattle.lego_msg.specs.declared.healing.Move.{Move}
use Rattle.lego_msg.specs.declared.message.Message.{Message}
use Rattle.lego_msg.specs.declared.operation.Open.{Open}
use Rattle.lego_msg.specs.declared.operation.Operation.{Operation}
use Rattle.lego_msg.specs.declared.operation.Operation.TheVariants as op
use Rattle.lego_msg.specs.declared.place.Place.{Place}
use Rattle.lego_msg.specs.declared.place.Place.TheVariants.{Manager, Memory, Processor, Storage}
use Rattle.lego_msg.specs.declared.place.Role.TheVariants.{Main, Spare}
use Rattle.lego_msg.proofs.Senders.{get_set, get_set_other, same_some}
use Rattle.lego_rest.specs.Answers.{all_pending}
use Rattle.lego_rest.specs.Fits.{OpenFits}
use Rattle.lego_rest.specs.Pending.{AnAnswer, First, Goes, HandedOn, HandsOn, IsBatch, Left, MayPend, OfBackground, OfMove, OfOpen, OfOperation, Pends, Reaction, Reacts, Returns}
use Rattle.lego_rest.specs.Rest.{AtRest, CurrentFits, Middle}
use Rattle.rest_laws.proofs.Goes.{called_of}
use Rattle.rest_laws.proofs.Leads.{Way, goes, goes_on, nothing_delivered, nothing_done, sets_out}
use Rattle.rest_laws.proofs.Opened.{all_among}
use Rattle.rest_laws.proofs.Taken.{all_taken, whole}
use Rattle.rest_laws.specs.GoingOn.{IsOfMessages, owners_with}
use Rattle.rest_laws.specs.KindsEnding.{IsCalled}
use Rattle.rest_laws.proofs.kinds.Logging.{by_rule, logging}
use Rattle.rest_laws.specs.Logs.{EmptyLogsStay, IsEmptyAt, IsEndOf, LogsGrowByWrites}

same_log : (s : Mem) → IsEndOf s.log s.log
same_log s = ([], refl)

either_log : (b : Bool) (x y : Mem × List Message) (log : List Patch) → IsEndOf x.0.log log → IsEndOf y.0.log log → IsEndOf (cond b x y).0.log log
either_log true x y log one other = one
either_log false x y log one other = other

batched_log : (s : Mem) (sent : List Message) (log : List Patch) → IsEndOf s.log log → IsEndOf (batched s sent).0.log log
batched_log s sent log is = by_rule (λ (p : Mem × List Message). IsEndOf p.0.log log) s sent (λ due. is) (λ waits. is)

body_log : (s : Mem) (m : Message) (told : Body) → ((patch : Patch) → told ≡ LogWrite patch → ⊥) → IsEndOf (handled_body s m told).0.log s.log
body_log s m (Find pid region) none = same_log s
body_log s m (Read pid line) none = same_log s
body_log s m (Write patch) none = either_log _ _ _ s.log (same_log s) (same_log s)
body_log s m (LogWrite patch) none = absurd (none patch refl)
body_log s m Drain none = either_log _ _ _ s.log (same_log s) (batched_log (logging s s.log s.out (s.drains ++ record { place = m.from; op = m.op.0 } ∷ [])) [] s.log (same_log s))
body_log s m BackedUp none = gone (s.out == 0)
  where
    under : (b : Bool) → IsEndOf (cond b (logging s (drop s.out s.log) 0 [], map (drained s.id) s.drains) (batched (logging s (drop s.out s.log) 0 s.drains) [])).0.log s.log
    under true = (take s.out s.log, take-append-drop s.out s.log)
    under false = batched_log (logging s (drop s.out s.log) 0 s.drains) [] s.log (take s.out s.log, take-append-drop s.out s.log)

    gone : (b : Bool) → IsEndOf (cond b (s, []) (batch_gone (logging s (drop s.out s.log) 0 s.drains))).0.log s.log
    gone true = same_log s
    gone false = under (length (drop s.out s.log) == 0)
body_log s m (SetHome pid region owner Main) none = same_log s
body_log s m (SetHome pid region owner Spare) none = same_log s
body_log s m (SetAreas pid region areas Main) none = same_log s
body_log s m (SetAreas pid region areas Spare) none = same_log s
body_log s m (GetAreas pid region) none = same_log s
body_log s m (Unmap pid region first pages areas Main) none = same_log s
body_log s m (Unmap pid region first pages areas Spare) none = same_log s
body_log s m (CopySpace parent child regions Main) none = either_log _ _ _ s.log (same_log s) (same_log s)
body_log s m (CopySpace parent child regions Spare) none = same_log s
body_log s m (DropSpace pid) none = same_log s
body_log s m (FileRead file block off len) none = by (block_in file.0 block s.blocks)
  where
    by : (c : Option (List ℕ)) → IsEndOf (read_block c s m file block off len).0.log s.log
    by None = same_log s
    by (Some bytes) = same_log s
body_log s m (BlockIs file block off len asker bytes) none = same_log s
body_log s m (FileWrite file block off bytes) none = same_log s
body_log s m (FileCut file size) none = same_log s
body_log s m (PullMeta of role) none = same_log s
body_log s m (PushMeta Main homes areas) none = same_log s
body_log s m (PushMeta Spare homes areas) none = same_log s
body_log s m (PullPages pid region) none = same_log s
body_log s m (PushImages pid region pages) none = either_log _ _ _ s.log (same_log s) (same_log s)
body_log s m (ImageDrop pid first pages) none = same_log s
body_log s m (ImageCopy parent child regions) none = same_log s
body_log s m (ImageFree pid) none = same_log s
body_log s m (PullImages pid region) none = same_log s
body_log s m (ResetImages pid region pages) none = same_log s
body_log s m (FileSize file) none = same_log s
body_log s m (NameGet name) none = same_log s
body_log s m (NameMake name) none = same_log s
body_log s m (NameCut name) none = same_log s
body_log s m NameAll none = same_log s
body_log s m (FileFree file) none = same_log s
body_log s m (Backup patches) none = same_log s
body_log s m (BlockGet file block off len asker) none = same_log s
body_log s m (BlockPut file block off bytes asker) none = same_log s
body_log s m (BlockCut file size asker) none = same_log s
body_log s m (OwnerIs owner) none = same_log s
body_log s m (Line perms bytes) none = same_log s
body_log s m (Refused why) none = same_log s
body_log s m Wrote none = same_log s
body_log s m LogFull none = same_log s
body_log s m Drained none = same_log s
body_log s m Done none = same_log s
body_log s m (AreasAre areas) none = same_log s
body_log s m (FileBytes bytes) none = same_log s
body_log s m (SizeIs size) none = same_log s
body_log s m (NameIs file) none = same_log s
body_log s m (Names list) none = same_log s
body_log s m (Meta homes areas) none = same_log s
body_log s m (Images pages) none = same_log s

pub logs-grow-by-writes : LogsGrowByWrites
logs-grow-by-writes s m none = body_log s m m.body none

-- NO MESSAGE of an operation that doesn't write goes to a log
abbrev pub is_log_write : Body → Bool
is_log_write (LogWrite patch) = true
is_log_write other = false

each_quiet : (by : Place) (number : OpNo) (count k : ℕ) (what last : Body) → is_log_write what ≡ false → is_log_write last ≡ false → AllByRecursion (λ (x : Message). is_log_write x.body ≡ false) (messages_of by number (each_from count k what last))
each_quiet by number zero k what last quiet quiet' = (quiet', tt)
each_quiet by number (suc count) k what last quiet quiet' = (quiet, each_quiet by number count (k + 1) what last quiet quiet')

pub first_quiet : (n : ℕ) (by : Place) (number : OpNo) (o : Operation) → is_write o ≡ false → IsCalled o → AllByRecursion (λ (x : Message). is_log_write x.body ≡ false) (messages_of by number (asks_of n o))
first_quiet n by number (op.Finds pid region) none called = (refl, tt)
first_quiet n by number (op.Reads pid line owner) none called = (refl, tt)
first_quiet n by number (op.Writes origin patch owner) none called = cc none
first_quiet n by number (op.SetsHome pid region owner) none called = (refl, (refl, tt))
first_quiet n by number (op.SetsAreas pid region areas owner) none called = (refl, (refl, tt))
first_quiet n by number (op.AsksAreas pid region owner) none called = (refl, tt)
first_quiet n by number (op.Drains m) none called = (refl, tt)
first_quiet n by number (op.Unmaps pid region first pages areas owner) none called = (refl, (refl, (refl, tt)))
first_quiet n by number (op.Copies parent child regions owner) none called = (refl, (refl, (refl, tt)))
first_quiet n by number (op.Drops pid) none called = each_quiet by number n 0 (DropSpace pid) (ImageFree pid) refl refl
first_quiet n by number (op.ReadsFile file block off len) none called = (refl, tt)
first_quiet n by number (op.WritesFile file block off bytes) none called = (refl, tt)
first_quiet n by number (op.CutsFile file size) none called = (refl, tt)
first_quiet n by number (op.AsksSize file) none called = (refl, tt)
first_quiet n by number (op.GetsName name) none called = (refl, tt)
first_quiet n by number (op.MakesName name) none called = (refl, tt)
first_quiet n by number (op.CutsName name) none called = (refl, tt)
first_quiet n by number op.ListsNames none called = (refl, tt)
first_quiet n by number (op.FreesFile file) none called = (refl, tt)
first_quiet n by number (op.Heals to what) none called = absurd called

pub no_reaction : (n : ℕ) (o : Operation) (to : Place) (told : Body) → is_write o ≡ false → Reacts n o to told → ⊥
no_reaction n (op.Finds pid region) to told none how = how
no_reaction n (op.Reads pid line owner) to told none how = how
no_reaction n (op.Writes origin patch owner) to told none how = cc none
no_reaction n (op.SetsHome pid region owner) to told none how = how
no_reaction n (op.SetsAreas pid region areas owner) to told none how = how
no_reaction n (op.AsksAreas pid region owner) to told none how = how
no_reaction n (op.Drains m) to told none how = how
no_reaction n (op.Unmaps pid region first pages areas owner) to told none how = how
no_reaction n (op.Copies parent child regions owner) to told none how = how
no_reaction n (op.Drops pid) to told none how = how
no_reaction n (op.ReadsFile file block off len) to told none how = how
no_reaction n (op.WritesFile file block off bytes) to told none how = how
no_reaction n (op.CutsFile file size) to told none how = how
no_reaction n (op.AsksSize file) to told none how = how
no_reaction n (op.GetsName name) to told none how = how
no_reaction n (op.MakesName name) to told none how = how
no_reaction n (op.CutsName name) to told none how = how
no_reaction n op.ListsNames to told none how = how
no_reaction n (op.FreesFile file) to told none how = how
no_reaction n (op.Heals to_ what_) to told none how = how

pub hands_quiet : (n : ℕ) (f : Plain) (by : Place) (o : Operation) (m : Message) → HandsOn n f by o m → is_log_write m.body ≡ false
hands_quiet n f by (op.Finds pid region) m how = absurd how
hands_quiet n f by (op.Reads pid line owner) m how = absurd how
hands_quiet n f by (op.Writes origin patch owner) m how = absurd how
hands_quiet n f by (op.SetsHome pid region owner) m how = absurd how
hands_quiet n f by (op.SetsAreas pid region areas owner) m how = absurd how
hands_quiet n f by (op.AsksAreas pid region owner) m how = absurd how
hands_quiet n f by (op.Drains mem) m how = absurd how
hands_quiet n f by (op.Unmaps pid region first pages areas owner) m how = absurd how
hands_quiet n f by (op.Copies parent child regions owner) m how = absurd how
hands_quiet n f by (op.Drops pid) m how = absurd how
hands_quiet n f by (op.ReadsFile file block off len) m (inl how) = ap is_log_write how.2
hands_quiet n f by (op.ReadsFile file block off len) m (inr how) = ap is_log_write how.2
hands_quiet n f by (op.WritesFile file block off bytes) m how = ap is_log_write how.2
hands_quiet n f by (op.CutsFile file size) m how = ap is_log_write how.2
hands_quiet n f by (op.AsksSize file) m how = absurd how
hands_quiet n f by (op.GetsName name) m how = absurd how
hands_quiet n f by (op.MakesName name) m how = absurd how
hands_quiet n f by (op.CutsName name) m how = absurd how
hands_quiet n f by op.ListsNames m how = absurd how
hands_quiet n f by (op.FreesFile file) m how = absurd how
hands_quiet n f by (op.Heals to_ what_) m how = absurd how

-- a message on its way to a memory
module _ (now : Track) (one : Open) (m : Message) (may : MayDeliver now m) (healed : now.healing ≡ None) (current : now.current ≡ Some one) (middle : Middle None now) where
  abbrev still : Track
  still = record now { healing = None; current = Some one }

  fits : OpenFits (memory_count now.shape) now.owners now.plain now.next one
  fits = (subst (CurrentFits now) current middle.current).0

  pub on_its_way : MayPend None (memory_count now.shape) now.plain (Some one) None now.next m
  on_its_way = subst (λ (p : Option Open × Option Healing). MayPend None (memory_count now.shape) now.plain p.0 (healing_move p.1) now.next m) (λ i. (current i, healed i))
      (all_taken (MayPend None (memory_count now.shape) now.plain now.current (healing_move now.healing) now.next) (all_pending now) (all_pending (taken now)) m (whole now m may) middle.pending).0

  quiet_kind : (k : ℕ) → m.to ≡ memory k → is_write one.operation ≡ false → Pends None (memory_count now.shape) now.plain (Some one) None now.next m → is_log_write m.body ≡ false
  quiet_kind k to none (OfOperation of) = by of.2
    where
      by : OfOpen (memory_count now.shape) now.plain m one → is_log_write m.body ≡ false
      by (First among) = all_among (λ (x : Message). is_log_write x.body ≡ false) (messages_of one.by one.number (asks_of (memory_count now.shape) one.operation)) m among (first_quiet (memory_count now.shape) one.by one.number one.operation none (called_of now.owners now.plain one.operation fits.fits))
      by (Reaction from how) = absurd (no_reaction (memory_count now.shape) one.operation m.to m.body none how)
      by (HandedOn how) = hands_quiet (memory_count now.shape) now.plain one.by one.operation m how
      by (AnAnswer back target says) = let both : false ≡ true = ap is_issuer (sym to ∙ back) ∙ fits.by in cc both
  quiet_kind k to none (OfMove of) = absurd of
  quiet_kind k to none (OfBackground of) = by of.batch
    where
      by : IsBatch m of.of → is_log_write m.body ≡ false
      by (Goes from to patches is) = ap is_log_write is
      by (Returns from to is) = ap is_log_write is
  quiet_kind k to none (Left old) = ap is_log_write old.drained

  pub quiet : (k : ℕ) → m.to ≡ memory k → is_write one.operation ≡ false → (patch : Patch) → m.body ≡ LogWrite patch → ⊥
  quiet k to none patch is = let both : false ≡ true = sym (quiet_kind k to none on_its_way.kind) ∙ ap is_log_write is in cc both

-- EMPTY LOGS STAY EMPTY
pub end_of_none : (log : List Patch) → IsEndOf log [] → log ≡ []
end_of_none log ([], is) = is
end_of_none log (p ∷ front, is) = cc is

begins_mems : (t : Track) (m : Message) (due : List Mark) → (begins t m due).mems ≡ t.mems
begins_mems t m [] = refl
begins_mems t m (Show e ∷ due) = refl
begins_mems t m (Call o ∷ due) = refl

pub sent_mems : (t : Track) (m : Message) (owed : List Message) (h : Option Healing) (c : Option Open) → (sent t m owed h c).mems ≡ t.mems
sent_mems t m (x ∷ more) h c = refl
sent_mems t m [] (Some h) c = moves h.moves
  where
    moves : (moves : List Move) → (move_begins t m h moves).mems ≡ t.mems
    moves [] = refl
    moves (x ∷ rest) = refl
sent_mems t m [] None (Some o) = refl
sent_mems t m [] None None = begins_mems t m t.due

noted_mems : (t : Track) (m : Message) (c : Option Open) → (noted t m c).mems ≡ t.mems
noted_mems t m None = refl
noted_mems t m (Some o) = by (m.op.0 == o.number.0) (reaction_of (patch_of o.operation) m.body)
  where
    by : (b : Bool) (r : Option Body) → (cond b (reacts t o m r) t).mems ≡ t.mems
    by true None = refl
    by true (Some what) = refl
    by false r = refl

pub issuer_mems : (t : Track) (m : Message) → t.healing ≡ None → (issuer_gets t m).mems ≡ t.mems
issuer_mems t m healed = by (stops m.body)
  where
    by : (b : Bool) → (cond b (record t { stopped = true }) (noted_with t m t.healing)).mems ≡ t.mems
    by true = refl
    by false = ap (λ (h : Option Healing). (noted_with t m h).mems) healed ∙ noted_mems t m t.current

-- what a delivery does to memory k: nothing, or its row
pub delivered_at : (now : Track) (m : Message) (k : ℕ) (P : Mem → Type 0) → now.healing ≡ None → ((s : Mem) → slice_get now.mems k ≡ Some s → P s) → ((s : Mem) → slice_get now.mems k ≡ Some s → m.to ≡ memory k → P (handled s m).0) → (s : Mem) → slice_get (comes (taken now) m m.to).mems k ≡ Some s → P s
delivered_at now m k P healed was row s at = by m.to refl at
  where
    at_memory : (number : ℕ) → m.to ≡ memory number → (x : Option Mem) → slice_get now.mems number ≡ x → slice_get (memory_handles (taken now) number m x).mems k ≡ Some s → P s
    at_memory number to None none at = was s at
    at_memory number to (Some x) there at = elim (eqb_tells number k) [
      | inl same ↦
          let here : slice_get now.mems k ≡ Some x = ap (slice_get now.mems) (sym same.1) ∙ there in
          let is : (handled x m).0 ≡ s = same_some (handled x m).0 s (sym (get_set now.mems number x (handled x m).0 there) ∙ ap (slice_get (slice_set now.mems number (handled x m).0)) same.1 ∙ at) in
          subst P is (row x here (to ∙ ap memory same.1))
      | inr differ ↦ was s (sym (get_set_other now.mems number k (handled x m).0 differ.1) ∙ at)
    ]

    by : (to : Place) → m.to ≡ to → slice_get (comes (taken now) m to).mems k ≡ Some s → P s
    by (Processor cpu) is at = was s (ap (λ (mems : List Mem). slice_get mems k) (sym (issuer_mems (taken now) m healed)) ∙ at)
    by (Memory number) is at = at_memory number.0 is (slice_get now.mems number.0) refl at
    by Storage is at = was s at
    by Manager is at = was s (ap (λ (mems : List Mem). slice_get mems k) (sym (issuer_mems (taken now) m healed)) ∙ at)

module _ (t : Track) (o : Order) (rest : List Mark) (k : ℕ) (none : is_write o.operation ≡ false) where
  empty_goes : (now : Track) (e : Event) → May now e → IsOfMessages e → Way t o rest now → IsEmptyAt now k → IsEmptyAt (after now e) k
  empty_goes now (Send m) may of way empty s at = empty s (ap (λ (mems : List Mem). slice_get mems k) (sym (sent_mems now m now.owed now.healing now.current)) ∙ at)
  empty_goes now (Deliver m) may of way empty s at = delivered_at now m k (λ (x : Mem). x.log ≡ []) way.healed empty row s at
    where
      row : (x : Mem) → slice_get now.mems k ≡ Some x → m.to ≡ memory k → (handled x m).0.log ≡ []
      row x at to =
          let grows = logs-grow-by-writes x m (quiet now way.stands.one m may way.healed way.stands.current way.middle k to (ap is_write way.stands.operation ∙ none)) in
          end_of_none (handled x m).0.log (grows.0, grows.1 ∙ empty x at)
  empty_goes now (Turn number pid) may of way empty s at = absurd of
  empty_goes now (Access cpu pid address kind bytes) may of way empty s at = absurd of
  empty_goes now (Fill pid address bytes) may of way empty s at = absurd of
  empty_goes now (Drop cpu pid line) may of way empty s at = absurd of
  empty_goes now (Crash number inc) may of way empty s at = absurd of
  empty_goes now (Complete number) may of way empty s at = absurd of
  empty_goes now (Out stream bytes) may of way empty s at = absurd of

-- WHAT EACH EVENT KEEPS holds where the operation is complete
pub along : (t : Track) (o : Order) (rest : List Mark) (P : Track → Type 0) → AtRest t → t.due ≡ Call o ∷ rest → Granted t o.by o.operation (owners_with o t.owners) →
    ((m : Message) → May t (Send m) → P (after t (Send m))) → ((now : Track) (e : Event) → May now e → IsOfMessages e → Way t o rest now → P now → P (after now e)) →
    (events : List Event) (op : OpNo) → Legal t (events ++ Complete op ∷ []) → AllByRecursion IsOfMessages events → (last : Track) × Way t o rest last × P last × May last (Complete op) × (run t (events ++ Complete op ∷ []) ≡ after last (Complete op))
along t o rest P at_rest due granted base step [] op legal all = absurd (nothing_done t o rest at_rest due granted op legal.0)
along t o rest P at_rest due granted base step (Send m ∷ events) op legal all =
    let start = sets_out t o rest at_rest due granted m legal.0 in
    let front = Legal-front (after t (Send m)) events (Complete op ∷ []) legal.1 in
    let back = Legal-back (after t (Send m)) events (Complete op ∷ []) legal.1 in
    (run (after t (Send m)) events, goes_on t o rest (after t (Send m)) events front all.1 start, keeps (after t (Send m)) events front all.1 start (base m legal.0), back.0, run-append (after t (Send m)) events (Complete op ∷ []))
  where
    keeps : (now : Track) (events : List Event) → Legal now events → AllByRecursion IsOfMessages events → Way t o rest now → P now → P (run now events)
    keeps now [] legal all way holds = holds
    keeps now (e ∷ events) legal all way holds = keeps (after now e) events legal.1 all.1 (goes t o rest now e legal.0 all.0 way) (step now e legal.0 all.0 way holds)
along t o rest P at_rest due granted base step (Deliver m ∷ events) op legal all = absurd (nothing_delivered t o rest at_rest due granted m legal.0)
along t o rest P at_rest due granted base step (Turn number pid ∷ events) op legal all = absurd all.0
along t o rest P at_rest due granted base step (Access cpu pid address kind bytes ∷ events) op legal all = absurd all.0
along t o rest P at_rest due granted base step (Fill pid address bytes ∷ events) op legal all = absurd all.0
along t o rest P at_rest due granted base step (Drop cpu pid line ∷ events) op legal all = absurd all.0
along t o rest P at_rest due granted base step (Crash number inc ∷ events) op legal all = absurd all.0
along t o rest P at_rest due granted base step (Complete number ∷ events) op legal all = absurd all.0
along t o rest P at_rest due granted base step (Out stream bytes ∷ events) op legal all = absurd all.0

-- a completion changes no memory
pub ended_mems : (now : Track) (op : OpNo) → now.healing ≡ None → (after now (Complete op)).mems ≡ now.mems
ended_mems now op healed = ap (λ (h : Option Healing). (completed now op.0 h).mems) healed ∙ by now.current
  where
    by : (c : Option Open) → (finished now c).mems ≡ now.mems
    by None = refl
    by (Some o) = refl

pub empty-logs-stay : EmptyLogsStay
empty-logs-stay t o rest events op k is legal all none empty =
    let end = along t o rest (λ (now : Track). IsEmptyAt now k) is.rests is.due is.granted (λ m may s at. empty s (ap (λ (mems : List Mem). slice_get mems k) (sym (sent_mems t m t.owed t.healing t.current)) ∙ at)) (empty_goes t o rest k none) events op legal all in
    subst (λ (x : Track). IsEmptyAt x k) (sym end.4) (λ s at. end.2 s (ap (λ (mems : List Mem). slice_get mems k) (sym (ended_mems end.0 op end.1.healed)) ∙ at))
