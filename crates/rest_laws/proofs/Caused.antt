-- A refusal that is pending has its cause, along the way of an operation with nothing lost.
use Rattle.std.proofs.Common.{◌≡◌, ◌⊎◌, ◌+◌, ◌*◌, ◌==◌, ◌||◌, [], ◌∷◌, ◌++◌, ◌∙◌, ℕ, Bool, List, None, Option, Some, ap, append-nil, append_assoc, cond, drop, false, inl, inr, refl, slice_get, subst, suc, sym, true, zero}
use Rattle.std.specs.List.{AllByRecursion}
use Rattle.lego_base.specs.Pieces.{of_size, written_at}
use Rattle.lego_base.specs.declared.ids.OpNo.{OpNo}
use Rattle.lego_base.specs.declared.records.HomeEntry.{HomeEntry}
use Rattle.lego_msg.specs.Deliveries.{MayDeliver, comes, issuer_gets, memory_handles, noted, noted_with, reaction_of, reacts, stops, taken}
use Rattle.lego_msg.specs.Files.{Files, is_room}
use Rattle.lego_msg.specs.Granted.{Granted, OpFits}
use Rattle.lego_msg.specs.Legal.{Legal, May}
use Rattle.lego_msg.specs.Marks.{Call, Mark, Order}
use Rattle.lego_msg.specs.Operations.{asks_of, each_from, messages_of, patch_of}
use Rattle.lego_msg.specs.Places.{is_issuer, memory}
use Rattle.lego_msg.specs.Plain.{Plain, effect}
use Rattle.lego_msg.specs.Run.{after, run}
use Rattle.lego_msg.specs.Sends.{IsFirst, MayBegin, MaySend, begins, sent}
use Rattle.lego_msg.specs.State.{Disk, Mem}
use Rattle.lego_msg.specs.Table.{handled, stored}
use Rattle.lego_msg.specs.Track.{Track, memory_count}
use Rattle.lego_msg.specs.declared.body.Body.{Body}
use Rattle.lego_msg.specs.declared.event.Event.{Event}
use Rattle.lego_msg.specs.declared.event.Event.TheVariants.{Access, Complete, Crash, Deliver, Drop, Fill, Out, Send, Turn}
use Rattle.lego_msg.specs.declared.healing.Healing.{Healing}
use Rattle.lego_msg.specs.declared.message.Message.{Message}
use Rattle.lego_msg.specs.declared.operation.Open.{Open}
use Rattle.lego_msg.specs.declared.operation.Operation.{Operation}
use Rattle.lego_msg.specs.declared.operation.Operation.TheVariants as op
use Rattle.lego_msg.specs.declared.place.Place.{Place}
use Rattle.lego_msg.specs.declared.place.Place.TheVariants.{Manager, Memory, Processor, Storage}
use Rattle.lego_rest.specs.Answers.{all_pending}
use Rattle.lego_rest.specs.Fits.{OpenFits}
use Rattle.lego_rest.specs.Pending.{Among, AnAnswer, First, Goes, HandedOn, HandsOn, IsBatch, Left, MayPend, OfBackground, OfMove, OfOpen, OfOperation, Pends, Reaction, Reacts, Returns}
use Rattle.lego_rest.specs.Rest.{AtRest, CurrentFits, Middle}
use Rattle.rest_laws.proofs.Blocks.{sized_twice, written_twice}
use Rattle.rest_laws.proofs.Comes.{file_comes, row_comes}
use Rattle.rest_laws.proofs.Delivered.{left_of}
use Rattle.rest_laws.proofs.Emptied.{delivered_at, on_its_way}
use Rattle.rest_laws.proofs.Exceeding.{excess, handed_small, reacted_small}
use Rattle.rest_laws.proofs.Following.{IsServed, all_served}
use Rattle.rest_laws.proofs.Goes.{called_of}
use Rattle.rest_laws.proofs.Leads.{Way, goes, sets_out}
use Rattle.rest_laws.proofs.Opened.{all_among, all_both, among_middle, every}
use Rattle.rest_laws.proofs.Refusing.{Exceeds, Overflows, any_stops, asked_goes, file_refuses, filed_goes, reaction_goes, row_frames, row_refuses}
use Rattle.rest_laws.proofs.Taken.{all_taken, whole}
use Rattle.rest_laws.proofs.kinds.FilesChanged.{changed_new}
use Rattle.rest_laws.specs.Causes.{HasCause, IsTooMuch, RefusalsHaveCauses}
use Rattle.rest_laws.specs.KindsEnding.{IsCalled}
use Rattle.rest_laws.specs.GoingOn.{IsOfMessages, owners_with}
use Rattle.lego_msg.specs.declared.body.Body.TheVariants as body
use Rattle.lego_msg.specs.declared.place.Place.TheVariants as place

-- what is served doesn't refuse
pub served_goes : (x : Message) → IsServed x → stops x.body ≡ false
served_goes x served = by x.to refl
  where
    by : (to : Place) → x.to ≡ to → stops x.body ≡ false
    by (Processor cpu) is = let both : true ≡ false = sym (ap is_issuer is) ∙ served.component in cc both
    by (Memory k) is = asked_goes x.body (served.asked k.0 is)
    by Storage is = filed_goes x.body (served.filed is)
    by Manager is = let both : true ≡ false = sym (ap is_issuer is) ∙ served.component in cc both

-- only what changes a file makes storage overflow
each_dry : (d : Disk) (by : Place) (number : OpNo) (count k : ℕ) (what last : Body) → (Overflows d what → ⊥) → (Overflows d last → ⊥) → AllByRecursion (λ (x : Message). Overflows d x.body → ⊥) (messages_of by number (each_from count k what last))
each_dry d by number zero k what last one end = (end, tt)
each_dry d by number (suc count) k what last one end = (one, each_dry d by number count (k + 1) what last one end)

pub first_dry : (d : Disk) (n : ℕ) (by : Place) (number : OpNo) (o : Operation) → IsCalled o → AllByRecursion (λ (x : Message). Overflows d x.body → ⊥) (messages_of by number (asks_of n o))
first_dry d n by number (op.Finds pid region) called = ((λ e. e), tt)
first_dry d n by number (op.Reads pid line owner) called = ((λ e. e), tt)
first_dry d n by number (op.Writes origin patch owner) called = ((λ e. e), ((λ e. e), tt))
first_dry d n by number (op.SetsHome pid region owner) called = ((λ e. e), ((λ e. e), tt))
first_dry d n by number (op.SetsAreas pid region areas owner) called = ((λ e. e), ((λ e. e), tt))
first_dry d n by number (op.AsksAreas pid region owner) called = ((λ e. e), tt)
first_dry d n by number (op.Drains mem) called = ((λ e. e), tt)
first_dry d n by number (op.Unmaps pid region first pages areas owner) called = ((λ e. e), ((λ e. e), ((λ e. e), tt)))
first_dry d n by number (op.Copies parent child regions owner) called = ((λ e. e), ((λ e. e), ((λ e. e), tt)))
first_dry d n by number (op.Drops pid) called = each_dry d by number n 0 (body.DropSpace pid) (body.ImageFree pid) (λ e. e) (λ e. e)
first_dry d n by number (op.ReadsFile file block off len) called = ((λ e. e), tt)
first_dry d n by number (op.WritesFile file block off bytes) called = ((λ e. e), tt)
first_dry d n by number (op.CutsFile file size) called = ((λ e. e), tt)
first_dry d n by number (op.AsksSize file) called = ((λ e. e), tt)
first_dry d n by number (op.GetsName name) called = ((λ e. e), tt)
first_dry d n by number (op.MakesName name) called = ((λ e. e), tt)
first_dry d n by number (op.CutsName name) called = ((λ e. e), tt)
first_dry d n by number op.ListsNames called = ((λ e. e), tt)
first_dry d n by number (op.FreesFile file) called = ((λ e. e), tt)
first_dry d n by number (op.Heals to_ what_) called = absurd called

pub reacted_dry : (d : Disk) (n : ℕ) (o : Operation) (to : Place) (told : Body) → Reacts n o to told → Overflows d told → ⊥
reacted_dry d n (op.Finds pid region) to told how more = absurd how
reacted_dry d n (op.Reads pid line owner) to told how more = absurd how
reacted_dry d n (op.Writes origin patch owner) to told (where_, inl e) more = subst (Overflows d) e more
reacted_dry d n (op.Writes origin patch owner) to told (where_, inr (inl e)) more = subst (Overflows d) e more
reacted_dry d n (op.Writes origin patch owner) to told (where_, inr (inr nobody)) more = nobody
reacted_dry d n (op.SetsHome pid region owner) to told how more = absurd how
reacted_dry d n (op.SetsAreas pid region areas owner) to told how more = absurd how
reacted_dry d n (op.AsksAreas pid region owner) to told how more = absurd how
reacted_dry d n (op.Drains mem) to told how more = absurd how
reacted_dry d n (op.Unmaps pid region first pages areas owner) to told how more = absurd how
reacted_dry d n (op.Copies parent child regions owner) to told how more = absurd how
reacted_dry d n (op.Drops pid) to told how more = absurd how
reacted_dry d n (op.ReadsFile file block off len) to told how more = absurd how
reacted_dry d n (op.WritesFile file block off bytes) to told how more = absurd how
reacted_dry d n (op.CutsFile file size) to told how more = absurd how
reacted_dry d n (op.AsksSize file) to told how more = absurd how
reacted_dry d n (op.GetsName name) to told how more = absurd how
reacted_dry d n (op.MakesName name) to told how more = absurd how
reacted_dry d n (op.CutsName name) to told how more = absurd how
reacted_dry d n op.ListsNames to told how more = absurd how
reacted_dry d n (op.FreesFile file) to told how more = absurd how
reacted_dry d n (op.Heals to_ what_) to told how more = absurd how

-- then the files would need too many blocks once the operation is complete
pub overflow : (d : Disk) (n : ℕ) (owners : List HomeEntry) (f : Plain) (by : Place) (o : Operation) (x : Message) → OpFits owners f o → (d.files ≡ f.files) ⊎ (d.files ≡ (effect o f).files) → HandsOn n f by o x → Overflows d x.body → is_room f.files (effect o f).files.files ≡ false
overflow d n owners f by (op.Finds pid region) x fits disk how more = absurd how
overflow d n owners f by (op.Reads pid line owner) x fits disk how more = absurd how
overflow d n owners f by (op.Writes origin patch owner) x fits disk how more = absurd how
overflow d n owners f by (op.SetsHome pid region owner) x fits disk how more = absurd how
overflow d n owners f by (op.SetsAreas pid region areas owner) x fits disk how more = absurd how
overflow d n owners f by (op.AsksAreas pid region owner) x fits disk how more = absurd how
overflow d n owners f by (op.Drains mem) x fits disk how more = absurd how
overflow d n owners f by (op.Unmaps pid region first pages areas owner) x fits disk how more = absurd how
overflow d n owners f by (op.Copies parent child regions owner) x fits disk how more = absurd how
overflow d n owners f by (op.Drops pid) x fits disk how more = absurd how
overflow d n owners f by (op.ReadsFile file block off len) x fits disk (inl how) more = absurd (subst (Overflows d) how.2 more)
overflow d n owners f by (op.ReadsFile file block off len) x fits disk (inr how) more = absurd (subst (Overflows d) how.2 more)
overflow d n owners f by (op.WritesFile file block off bytes) x fits disk how more = sym (ap (λ (g : Files). is_room g g.files) (changed_new (λ (old : List ℕ). written_at old (block * 4096 + off) bytes) (λ old. written_twice old (block * 4096 + off) bytes) file.0 d.files f.files fits.0 disk)) ∙ subst (Overflows d) how.2 more
overflow d n owners f by (op.CutsFile file size) x fits disk how more = sym (ap (λ (g : Files). is_room g g.files) (changed_new (of_size size) (sized_twice size) file.0 d.files f.files fits.0 disk)) ∙ subst (Overflows d) how.2 more
overflow d n owners f by (op.AsksSize file) x fits disk how more = absurd how
overflow d n owners f by (op.GetsName name) x fits disk how more = absurd how
overflow d n owners f by (op.MakesName name) x fits disk how more = absurd how
overflow d n owners f by (op.CutsName name) x fits disk how more = absurd how
overflow d n owners f by op.ListsNames x fits disk how more = absurd how
overflow d n owners f by (op.FreesFile file) x fits disk how more = absurd how
overflow d n owners f by (op.Heals to_ what_) x fits disk how more = absurd how

module _ (t : Track) (o : Order) (rest : List Mark) where
  abbrev Causes : Message → Type 0
  Causes x = stops x.body ≡ true → HasCause t o x

  pub record Caused (now : Track) : Type 0 where
    pub causes : AllByRecursion Causes (all_pending now)
    pub frames : (k : ℕ) (s : Mem) → slice_get now.mems k ≡ Some s → (s0 : Mem) × (slice_get t.mems k ≡ Some s0) × (s.frames ≡ s0.frames)

  quiet : (x : Message) → stops x.body ≡ false → Causes x
  quiet x goes stop = let both : false ≡ true = sym goes ∙ stop in cc both

  all_quiet : (out : List Message) → any_stops out ≡ false → AllByRecursion Causes out
  all_quiet [] none = tt
  all_quiet (r ∷ out) none = by (stops r.body) refl none (all_quiet out)
    where
      by : (b : Bool) → stops r.body ≡ b → (b || any_stops out) ≡ false → (any_stops out ≡ false → AllByRecursion Causes out) → Causes r × AllByRecursion Causes out
      by true e none more = cc none
      by false e none more = (quiet r e, more none)

  module _ (now : Track) (way : Way t o rest now) (caused : Caused now) where
    fits : OpenFits (memory_count now.shape) now.owners now.plain now.next way.stands.one
    fits = (subst (CurrentFits now) way.stands.current way.middle.current).0

    calm_middle : Middle None (record now { healing = None; current = Some way.stands.one })
    calm_middle = subst (λ (p : Option Healing × Option Open). Middle None (record now { healing = p.0; current = p.1 })) (λ i. (way.healed i, way.stands.current i)) way.middle

    -- SENDS
    first_goes : (x : Message) → IsFirst x way.stands.one.unsent → stops x.body ≡ false
    first_goes x first = served_goes x (all_among IsServed (messages_of way.stands.one.by way.stands.one.number (asks_of (memory_count now.shape) way.stands.one.operation)) x among (all_served (memory_count now.shape) way.stands.one.by way.stands.one.number way.stands.one.operation (called_of now.owners now.plain way.stands.one.operation fits.fits)))
      where
        unsent : (ms : List Message) → IsFirst x ms → ms ≡ x ∷ drop 1 ms
        unsent [] is = absurd is
        unsent (y ∷ more) is = ap (λ (z : Message). z ∷ more) (sym is)

        among : Among x (messages_of way.stands.one.by way.stands.one.number (asks_of (memory_count now.shape) way.stands.one.operation))
        among = subst (Among x) (ap (λ (ms : List Message). fits.sent.0 ++ ms) (sym (unsent way.stands.one.unsent first)) ∙ fits.sent.1) (among_middle x fits.sent.0 (drop 1 way.stands.one.unsent))

    send_caused : (x : Message) → MaySend now x now.owed now.healing now.current → Caused (sent now x now.owed now.healing now.current)
    send_caused x may = subst Caused (sym (λ i. sent now x now.owed (way.healed i) (way.stands.current i))) (by now.owed refl (subst (λ (p : Option Healing × Option Open). MaySend now x now.owed p.0 p.1) (λ i. (way.healed i, way.stands.current i)) may))
      where
        by : (owed : List Message) → now.owed ≡ owed → MaySend now x owed None (Some way.stands.one) → Caused (sent now x owed None (Some way.stands.one))
        by (y ∷ more) owing may = record {
          causes = subst (AllByRecursion Causes) (sym (append_assoc now.net (x ∷ []) more ∙ ap (λ (z : Message). now.net ++ z ∷ more) may ∙ ap (λ (ms : List Message). now.net ++ ms) (sym owing))) caused.causes;
          frames = caused.frames;
        }
        by [] owing may = record {
          causes = subst (λ (ms : List Message). AllByRecursion Causes ((now.net ++ x ∷ []) ++ ms)) (sym owing) (subst (AllByRecursion Causes) (sym (append-nil (now.net ++ x ∷ []))) (all_both Causes now.net (x ∷ []) (subst (AllByRecursion Causes) (ap (λ (ms : List Message). now.net ++ ms) owing ∙ append-nil now.net) caused.causes) (quiet x (first_goes x may.1), tt)));
          frames = caused.frames;
        }

    -- DELIVERIES
    module _ (x : Message) (may : MayDeliver now x) where
      pend : MayPend None (memory_count now.shape) now.plain (Some way.stands.one) None now.next x
      pend = on_its_way now way.stands.one x may way.healed way.stands.current way.middle

      left : AllByRecursion Causes (left_of now)
      left = subst (AllByRecursion Causes) (ap (λ (ms : List Message). left_of now ++ ms) may.owed ∙ append-nil (left_of now)) (all_taken Causes (all_pending now) (all_pending (taken now)) x (whole now x may) caused.causes).1

      calm_may : MayDeliver (record now { healing = None; current = Some way.stands.one }) x
      calm_may = subst (λ (p : Option Healing × Option Open). MayDeliver (record now { healing = p.0; current = p.1 }) x) (λ i. (way.healed i, way.stands.current i)) may

      -- a memory that would hold too much
      too_much : (k : ℕ) (s : Mem) → x.to ≡ memory k → slice_get now.mems k ≡ Some s → Exceeds s x.body → IsTooMuch now.owners (effect way.stands.one.operation now.plain) k s.frames
      too_much k s to at more = by pend.kind
        where
          of_open : OfOpen (memory_count now.shape) now.plain x way.stands.one → IsTooMuch now.owners (effect way.stands.one.operation now.plain) k s.frames
          of_open (First among) = excess None (record now { healing = None }) way.stands.one k s at tt way.stands.one.operation calm_middle x to among more
          of_open (Reaction from how) = absurd (reacted_small (memory_count now.shape) way.stands.one.operation x.to x.body s how more)
          of_open (HandedOn how) = absurd (handed_small (memory_count now.shape) now.plain way.stands.one.by way.stands.one.operation x s how more)
          of_open (AnAnswer back target says) = let both : false ≡ true = ap is_issuer (sym to ∙ back) ∙ fits.by in cc both

          batch : (j : ℕ) → IsBatch x j → ⊥
          batch j (Goes from to' patches is) = subst (Exceeds s) is more
          batch j (Returns from to' is) = subst (Exceeds s) is more

          by : Pends None (memory_count now.shape) now.plain (Some way.stands.one) None now.next x → IsTooMuch now.owners (effect way.stands.one.operation now.plain) k s.frames
          by (OfOperation of) = of_open of.2
          by (OfMove of) = absurd of
          by (OfBackground of) = absurd (batch of.of of.batch)
          by (Left old) = absurd (subst (Exceeds s) old.drained more)

      memory_causes : (k : ℕ) (s : Mem) → x.to ≡ memory k → slice_get now.mems k ≡ Some s → AllByRecursion Causes (handled s x).1
      memory_causes k s to at = elim (row_refuses s x x.body) [
        | inl none ↦ all_quiet (handled s x).1 none
        | inr more ↦ every (λ r from stop. inl (record {
          k = k;
          s = (caused.frames k s at).0;
          from = from;
          at = (caused.frames k s at).1;
          full = subst (λ (p : List HomeEntry × Plain × ℕ). IsTooMuch p.0 p.1 k p.2) (λ i. (way.stands.owners i, effect (way.stands.operation i) (way.stands.plain i), (caused.frames k s at).2 i)) (too_much k s to at more);
        })) (handled s x).1 (row_comes now way.stands.one x calm_may calm_middle k s to at).from
      ]

      frames_after : (k : ℕ) (s : Mem) → slice_get (comes (taken now) x x.to).mems k ≡ Some s → (s0 : Mem) × (slice_get t.mems k ≡ Some s0) × (s.frames ≡ s0.frames)
      frames_after k = delivered_at now x k (λ (s : Mem). (s0 : Mem) × (slice_get t.mems k ≡ Some s0) × (s.frames ≡ s0.frames)) way.healed (caused.frames k) (λ s at to. ((caused.frames k s at).0, (caused.frames k s at).1, row_frames s x x.body ∙ (caused.frames k s at).2))

      -- storage that would need too many blocks
      too_many : x.to ≡ place.Storage → Overflows now.disk x.body → is_room now.plain.files (effect way.stands.one.operation now.plain).files.files ≡ false
      too_many to more = by pend.kind
        where
          of_open : OfOpen (memory_count now.shape) now.plain x way.stands.one → is_room now.plain.files (effect way.stands.one.operation now.plain).files.files ≡ false
          of_open (First among) = absurd (all_among (λ (y : Message). Overflows now.disk y.body → ⊥) (messages_of way.stands.one.by way.stands.one.number (asks_of (memory_count now.shape) way.stands.one.operation)) x among (first_dry now.disk (memory_count now.shape) way.stands.one.by way.stands.one.number way.stands.one.operation (called_of now.owners now.plain way.stands.one.operation fits.fits)) more)
          of_open (Reaction from how) = absurd (reacted_dry now.disk (memory_count now.shape) way.stands.one.operation x.to x.body how more)
          of_open (HandedOn how) = overflow now.disk (memory_count now.shape) now.owners now.plain way.stands.one.by way.stands.one.operation x fits.fits calm_middle.disk.files how more
          of_open (AnAnswer back target says) = let both : false ≡ true = ap is_issuer (sym to ∙ back) ∙ fits.by in cc both

          batch : (j : ℕ) → IsBatch x j → ⊥
          batch j (Goes from to' patches is) = subst (Overflows now.disk) is more
          batch j (Returns from to' is) = subst (Overflows now.disk) is more

          by : Pends None (memory_count now.shape) now.plain (Some way.stands.one) None now.next x → is_room now.plain.files (effect way.stands.one.operation now.plain).files.files ≡ false
          by (OfOperation of) = of_open of.2
          by (OfMove of) = absurd of
          by (OfBackground of) = absurd (batch of.of of.batch)
          by (Left old) = absurd (subst (Overflows now.disk) old.drained more)

      storage_causes : AtRest t → x.to ≡ place.Storage → AllByRecursion Causes (stored now.disk x).1
      storage_causes at_rest to = elim (file_refuses now.disk x x.body) [
        | inl none ↦ all_quiet (stored now.disk x).1 none
        | inr more ↦ every (λ r from stop. inr (
          from,
          ap (λ (f : Files). is_room f (effect o.operation t.plain).files.files) at_rest.disk.files
              ∙ sym (λ i. is_room (way.stands.plain i).files (effect (way.stands.operation i) (way.stands.plain i)).files.files)
              ∙ too_many to more,
        )) (stored now.disk x).1 (file_comes now way.stands.one x calm_may calm_middle to).from
      ]

      -- an issuer reacts with what doesn't refuse
      with_left : (out : List Message) → AllByRecursion Causes out → AllByRecursion Causes (left_of now ++ out)
      with_left out all = all_both Causes (left_of now) out left all

      taken_caused : AllByRecursion Causes (left_of now ++ now.owed)
      taken_caused = subst (λ (ms : List Message). AllByRecursion Causes (left_of now ++ ms)) (sym may.owed) (with_left [] tt)

      issuer_caused : Caused (issuer_gets (taken now) x)
      issuer_caused = by (stops x.body)
        where
          reacts_caused : (r : Option Body) → reaction_of (patch_of way.stands.one.operation) x.body ≡ r → Caused (reacts (taken now) way.stands.one x r)
          reacts_caused None is = record { causes = taken_caused; frames = caused.frames }
          reacts_caused (Some what) is = record { causes = with_left (record { from = x.to; to = x.from; op = x.op; body = what } ∷ []) (quiet (record { from = x.to; to = x.from; op = x.op; body = what }) (reaction_goes (patch_of way.stands.one.operation) x.body what is), tt); frames = caused.frames }

          of_number : (b : Bool) → Caused (cond b (reacts (taken now) way.stands.one x (reaction_of (patch_of way.stands.one.operation) x.body)) (taken now))
          of_number true = reacts_caused (reaction_of (patch_of way.stands.one.operation) x.body) refl
          of_number false = record { causes = taken_caused; frames = caused.frames }

          by : (b : Bool) → Caused (cond b (record (taken now) { stopped = true }) (noted_with (taken now) x now.healing))
          by true = record { causes = taken_caused; frames = caused.frames }
          by false = subst Caused (sym (ap (noted_with (taken now) x) way.healed ∙ ap (noted (taken now) x) way.stands.current)) (of_number (x.op.0 == way.stands.one.number.0))

      memory_caused : (k : ℕ) → x.to ≡ memory k → ((j : ℕ) (s : Mem) → slice_get (memory_handles (taken now) k x (slice_get now.mems k)).mems j ≡ Some s → (s0 : Mem) × (slice_get t.mems j ≡ Some s0) × (s.frames ≡ s0.frames)) → Caused (memory_handles (taken now) k x (slice_get now.mems k))
      memory_caused k to = by (slice_get now.mems k) refl
        where
          by : (c : Option Mem) → slice_get now.mems k ≡ c → ((j : ℕ) (s : Mem) → slice_get (memory_handles (taken now) k x c).mems j ≡ Some s → (s0 : Mem) × (slice_get t.mems j ≡ Some s0) × (s.frames ≡ s0.frames)) → Caused (memory_handles (taken now) k x c)
          by None at same = record { causes = taken_caused; frames = same }
          by (Some s) at same = record { causes = with_left (handled s x).1 (memory_causes k s to at); frames = same }

      deliver_caused : AtRest t → Caused (comes (taken now) x x.to)
      deliver_caused at_rest = by x.to refl frames_after
        where
          by : (to : Place) → x.to ≡ to → ((j : ℕ) (s : Mem) → slice_get (comes (taken now) x to).mems j ≡ Some s → (s0 : Mem) × (slice_get t.mems j ≡ Some s0) × (s.frames ≡ s0.frames)) → Caused (comes (taken now) x to)
          by (Processor cpu) is same = issuer_caused
          by (Memory k) is same = memory_caused k.0 is same
          by Storage is same = record { causes = with_left (stored now.disk x).1 (storage_causes at_rest is); frames = same }
          by Manager is same = issuer_caused

  module _ (at_rest : AtRest t) (due : t.due ≡ Call o ∷ rest) (granted : Granted t o.by o.operation (owners_with o t.owners)) where
    step : (now : Track) (e : Event) → May now e → IsOfMessages e → Way t o rest now → Caused now → Caused (after now e)
    step now (Send x) may of way caused = send_caused now way caused x may
    step now (Deliver x) may of way caused = deliver_caused now way caused x may at_rest
    step now (Turn turn pid) may of way caused = absurd of
    step now (Access cpu pid address kind bytes) may of way caused = absurd of
    step now (Fill pid address bytes) may of way caused = absurd of
    step now (Drop cpu pid line) may of way caused = absurd of
    step now (Crash memory_ inc) may of way caused = absurd of
    step now (Complete op_) may of way caused = absurd of
    step now (Out stream bytes) may of way caused = absurd of

    caused_on : (now : Track) (events : List Event) → Legal now events → AllByRecursion IsOfMessages events → Way t o rest now → Caused now → Caused (run now events)
    caused_on now [] legal all way caused = caused
    caused_on now (e ∷ events) legal all way caused = caused_on (after now e) events legal.1 all.1 (goes t o rest now e legal.0 all.0 way) (step now e legal.0 all.0 way caused)

    -- at rest nothing that is pending refuses, and neither does the first message
    base : (x : Message) → May t (Send x) → Caused (after t (Send x))
    base x may = subst Caused (sym begun) (record {
      causes = subst (λ (ms : List Message). AllByRecursion Causes ((t.net ++ x ∷ []) ++ ms)) (sym at_rest.owed) (subst (AllByRecursion Causes) (sym (append-nil (t.net ++ x ∷ []))) (all_both Causes t.net (x ∷ []) (every old t.net at_rest.pending) (quiet x first, tt)));
      frames = λ k s at. (s, at, refl);
    })
      where
        begun : sent t x t.owed t.healing t.current ≡ begins t x (Call o ∷ rest)
        begun = (λ i. sent t x (at_rest.owed i) (at_rest.healed i) (at_rest.closed i)) ∙ ap (begins t x) due

        is_first : IsFirst x (messages_of o.by (record { 0 = t.next }) (asks_of (memory_count t.shape) o.operation))
        is_first = (subst (λ (d : List Mark). MayBegin t x d) due (subst (λ (p : List Message × Option Healing × Option Open). MaySend t x p.0 p.1 p.2) (λ i. (at_rest.owed i, at_rest.healed i, at_rest.closed i)) may).1).0

        first : stops x.body ≡ false
        first = by (messages_of o.by (record { 0 = t.next }) (asks_of (memory_count t.shape) o.operation)) is_first (all_served (memory_count t.shape) o.by (record { 0 = t.next }) o.operation (called_of (owners_with o t.owners) t.plain o.operation granted.fits))
          where
            by : (ms : List Message) → IsFirst x ms → AllByRecursion IsServed ms → stops x.body ≡ false
            by [] is served = absurd is
            by (y ∷ more) is served = served_goes x (subst IsServed (sym is) served.0)

        old : (y : Message) → MayPend None (memory_count t.shape) t.plain None None t.next y → Causes y
        old y pend = by pend.kind
          where
            batch : (j : ℕ) → IsBatch y j → stops y.body ≡ false
            batch j (Goes from to patches is) = ap stops is
            batch j (Returns from to is) = ap stops is

            by : Pends None (memory_count t.shape) t.plain None None t.next y → Causes y
            by (OfOperation of) = absurd of
            by (OfMove of) = absurd of
            by (OfBackground of) = quiet y (batch of.of of.batch)
            by (Left old_) = quiet y (ap stops old_.drained)

    pub have_causes : (m : Message) (events : List Event) → Legal t (Send m ∷ events) → AllByRecursion IsOfMessages events → AllByRecursion Causes (run t (Send m ∷ events)).net
    have_causes m events legal all = front (run t (Send m ∷ events)).net (run t (Send m ∷ events)).owed (caused_on (after t (Send m)) events legal.1 all (sets_out t o rest at_rest due granted m legal.0) (base m legal.0)).causes
      where
        front : (net out : List Message) → AllByRecursion Causes (net ++ out) → AllByRecursion Causes net
        front [] out all = tt
        front (x ∷ net) out all = (all.0, front net out all.1)

pub refusals-have-causes : RefusalsHaveCauses
refusals-have-causes t o rest m events is legal all = have_causes t o rest is.rests is.due is.granted m events legal all
