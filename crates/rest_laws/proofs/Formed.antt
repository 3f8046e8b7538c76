-- Messages on their way to memories and to storage are in form.
use Rattle.std.proofs.Common.{◌≡◌, ◌⊎◌, ◌+◌, ◌<◌, ◌==◌, ◌&&◌, ◌||◌, [], ◌∷◌, ◌++◌, ◌∙◌, ℕ, Bool, List, None, Option, Some, ap, arith, cond, false, inl, inr, refl, slice_get, subst, suc, sym, take, true, zero}
use Rattle.std.proofs.lemmas.Bool.{eq-eqb}
use Rattle.std.proofs.lemmas.Bool.Decides.{eqb_tells}
use Rattle.std.specs.List.{AllByRecursion}
use Rattle.lego_base.specs.Files.{file_bytes, is_file}
use Rattle.lego_base.specs.declared.ids.OpNo.{OpNo}
use Rattle.lego_base.specs.declared.records.HomeEntry.{HomeEntry}
use Rattle.lego_base.specs.declared.records.Patch.{Patch}
use Rattle.lego_msg.specs.Files.{Files}
use Rattle.lego_msg.specs.Form.{HasFile, InForm, IsWithinPage}
use Rattle.lego_msg.specs.Granted.{OpFits, PatchFits}
use Rattle.lego_msg.specs.Operations.{asks_of, each_from, messages_of}
use Rattle.lego_msg.specs.Places.{is_issuer, memory, same_place}
use Rattle.lego_msg.specs.Plain.{Plain, effect}
use Rattle.lego_msg.specs.State.{Disk, Mem}
use Rattle.lego_msg.specs.Track.{Track, healing_move, memory_count}
use Rattle.lego_msg.specs.declared.body.Body.{Body}
use Rattle.lego_msg.specs.declared.healing.Healing.{Healing}
use Rattle.lego_msg.specs.declared.message.Message.{Message}
use Rattle.lego_msg.specs.declared.operation.Open.{Open}
use Rattle.lego_msg.specs.declared.operation.Operation.{Operation}
use Rattle.lego_msg.specs.declared.operation.Operation.TheVariants as op
use Rattle.lego_msg.specs.declared.place.Place.{Place}
use Rattle.lego_rest.specs.Answers.{all_pending}
use Rattle.lego_rest.specs.Fits.{HasBatch, MemFits, background, batch_message, is_background, receipt}
use Rattle.lego_rest.specs.Parts.{plain_with}
use Rattle.lego_rest.specs.Pending.{Among, AnAnswer, First, Goes, HandedOn, HandsOn, IsBatch, IsOfMove, IsPlace, IsUp, Left, MayPend, OfBackground, OfMove, OfOpen, OfOperation, Pends, Reaction, Reacts, Returns}
use Rattle.lego_rest.specs.Rest.{CurrentFits, MemHolds, Middle}
use Rattle.rest_laws.proofs.Blocks.{block_length}
use Rattle.rest_laws.proofs.Ended.{get_within}
use Rattle.rest_laws.proofs.FileLists.{with_there}
use Rattle.rest_laws.proofs.Opened.{all_among}
use Rattle.rest_laws.proofs.kinds.Images.{all_front as log_front}
use Rattle.rest_laws.specs.Forms.{IsFormed, MessagesAreInForm}
use Rattle.lego_msg.specs.declared.body.Body.TheVariants as body

abbrev Formed : Disk → Body → Type 0
Formed d told = InForm told × HasFile d told

all_front : (P : Message → Type 0) (net out : List Message) → AllByRecursion P (net ++ out) → AllByRecursion P net
all_front P [] out all = tt
all_front P (x ∷ net) out all = (all.0, all_front P net out all.1)

each_formed : (d : Disk) (by : Place) (number : OpNo) (count k : ℕ) (what last : Body) → Formed d what → Formed d last → AllByRecursion (λ (x : Message). Formed d x.body) (messages_of by number (each_from count k what last))
each_formed d by number zero k what last one end = (end, tt)
each_formed d by number (suc count) k what last one end = (one, each_formed d by number count (k + 1) what last one end)

module _ (d : Disk) (owners : List HomeEntry) (f : Plain) where
  -- storage has the files of the plain map before the operation or after it
  abbrev IsDisk : Operation → Type 0
  IsDisk o = (d.files ≡ f.files) ⊎ (d.files ≡ (effect o f).files)

  there : (file : ℕ) (o : Operation) → is_file f.files.files file ≡ true → ((effect o f).files ≡ f.files) ⊎ (is_file (effect o f).files.files file ≡ is_file f.files.files file) → IsDisk o → is_file d.files.files file ≡ true
  there file o is after (inl e) = ap (λ (g : Files). is_file g.files file) e ∙ is
  there file o is (inl same) (inr e) = ap (λ (g : Files). is_file g.files file) (e ∙ same) ∙ is
  there file o is (inr same) (inr e) = ap (λ (g : Files). is_file g.files file) e ∙ same ∙ is

  first_formed : (n : ℕ) (by : Place) (number : OpNo) (o : Operation) → OpFits owners f o → IsDisk o → AllByRecursion (λ (x : Message). Formed d x.body) (messages_of by number (asks_of n o))
  first_formed n by number (op.Finds pid region) fits disk = ((tt, tt), tt)
  first_formed n by number (op.Reads pid line owner) fits disk = ((tt, tt), tt)
  first_formed n by number (op.Writes origin patch owner) fits disk = ((fits.patch.1, tt), ((fits.patch.1, tt), tt))
  first_formed n by number (op.SetsHome pid region owner) fits disk = ((tt, tt), ((tt, tt), tt))
  first_formed n by number (op.SetsAreas pid region areas owner) fits disk = ((fits.form, tt), ((fits.form, tt), tt))
  first_formed n by number (op.AsksAreas pid region owner) fits disk = ((tt, tt), tt)
  first_formed n by number (op.Drains mem) fits disk = ((tt, tt), tt)
  first_formed n by number (op.Unmaps pid region first pages areas owner) fits disk = ((fits.form, tt), ((fits.form, tt), ((tt, tt), tt)))
  first_formed n by number (op.Copies parent child regions owner) fits disk = ((fits.0, tt), ((fits.0, tt), ((fits.0, tt), tt)))
  first_formed n by number (op.Drops pid) fits disk = each_formed d by number n 0 (body.DropSpace pid) (body.ImageFree pid) (tt, tt) (tt, tt)
  first_formed n by number (op.ReadsFile file block off len) fits disk = ((fits.1, tt), tt)
  first_formed n by number (op.WritesFile file block off bytes) fits disk = ((fits.1, tt), tt)
  first_formed n by number (op.CutsFile file size) fits disk = ((fits.1, tt), tt)
  first_formed n by number (op.AsksSize file) fits disk = ((tt, there file.0 (op.AsksSize file) fits (inl refl) disk), tt)
  first_formed n by number (op.GetsName name) fits disk = ((tt, tt), tt)
  first_formed n by number (op.MakesName name) fits disk = ((tt, tt), tt)
  first_formed n by number (op.CutsName name) fits disk = ((tt, tt), tt)
  first_formed n by number op.ListsNames fits disk = ((tt, tt), tt)
  first_formed n by number (op.FreesFile file) fits disk = ((tt, tt), tt)
  first_formed n by number (op.Heals to_ what_) fits disk = absurd fits

  reaction_formed : (n : ℕ) (o : Operation) (to : Place) (told : Body) → OpFits owners f o → Reacts n o to told → Formed d told
  reaction_formed n (op.Finds pid region) to told fits how = absurd how
  reaction_formed n (op.Reads pid line owner) to told fits how = absurd how
  reaction_formed n (op.Writes origin patch owner) to told fits (where_, inl e) = subst (Formed d) (sym e) (tt, tt)
  reaction_formed n (op.Writes origin patch owner) to told fits (where_, inr (inl e)) = subst (Formed d) (sym e) (fits.patch.1, tt)
  reaction_formed n (op.Writes origin patch owner) to told fits (where_, inr (inr nobody)) = absurd nobody
  reaction_formed n (op.SetsHome pid region owner) to told fits how = absurd how
  reaction_formed n (op.SetsAreas pid region areas owner) to told fits how = absurd how
  reaction_formed n (op.AsksAreas pid region owner) to told fits how = absurd how
  reaction_formed n (op.Drains mem) to told fits how = absurd how
  reaction_formed n (op.Unmaps pid region first pages areas owner) to told fits how = absurd how
  reaction_formed n (op.Copies parent child regions owner) to told fits how = absurd how
  reaction_formed n (op.Drops pid) to told fits how = absurd how
  reaction_formed n (op.ReadsFile file block off len) to told fits how = absurd how
  reaction_formed n (op.WritesFile file block off bytes) to told fits how = absurd how
  reaction_formed n (op.CutsFile file size) to told fits how = absurd how
  reaction_formed n (op.AsksSize file) to told fits how = absurd how
  reaction_formed n (op.GetsName name) to told fits how = absurd how
  reaction_formed n (op.MakesName name) to told fits how = absurd how
  reaction_formed n (op.CutsName name) to told fits how = absurd how
  reaction_formed n op.ListsNames to told fits how = absurd how
  reaction_formed n (op.FreesFile file) to told fits how = absurd how
  reaction_formed n (op.Heals to_ what_) to told fits how = absurd how

  handed_formed : (n : ℕ) (by : Place) (o : Operation) (m : Message) → OpFits owners f o → IsDisk o → HandsOn n f by o m → Formed d m.body
  handed_formed n by (op.Finds pid region) m fits disk how = absurd how
  handed_formed n by (op.Reads pid line owner) m fits disk how = absurd how
  handed_formed n by (op.Writes origin patch owner) m fits disk how = absurd how
  handed_formed n by (op.SetsHome pid region owner) m fits disk how = absurd how
  handed_formed n by (op.SetsAreas pid region areas owner) m fits disk how = absurd how
  handed_formed n by (op.AsksAreas pid region owner) m fits disk how = absurd how
  handed_formed n by (op.Drains mem) m fits disk how = absurd how
  handed_formed n by (op.Unmaps pid region first pages areas owner) m fits disk how = absurd how
  handed_formed n by (op.Copies parent child regions owner) m fits disk how = absurd how
  handed_formed n by (op.Drops pid) m fits disk how = absurd how
  handed_formed n by (op.ReadsFile file block off len) m fits disk (inl how) = subst (Formed d) (sym how.2) (fits.1, there file.0 (op.ReadsFile file block off len) fits.0 (inl refl) disk)
  handed_formed n by (op.ReadsFile file block off len) m fits disk (inr how) = subst (Formed d) (sym how.2) ((fits.1, block_length (file_bytes f.files.files file.0) block), tt)
  handed_formed n by (op.WritesFile file block off bytes) m fits disk how = subst (Formed d) (sym how.2) (fits.1, there file.0 (op.WritesFile file block off bytes) fits.0 (inr (with_there file.0 _ f.files.files file.0)) disk)
  handed_formed n by (op.CutsFile file size) m fits disk how = subst (Formed d) (sym how.2) (fits.1, there file.0 (op.CutsFile file size) fits.0 (inr (with_there file.0 _ f.files.files file.0)) disk)
  handed_formed n by (op.AsksSize file) m fits disk how = absurd how
  handed_formed n by (op.GetsName name) m fits disk how = absurd how
  handed_formed n by (op.MakesName name) m fits disk how = absurd how
  handed_formed n by (op.CutsName name) m fits disk how = absurd how
  handed_formed n by op.ListsNames m fits disk how = absurd how
  handed_formed n by (op.FreesFile file) m fits disk how = absurd how
  handed_formed n by (op.Heals to_ what_) m fits disk how = absurd how

-- what holds of each element that is among a list's
each_among : {X : Type 0} (P : X → Type 0) (xs : List X) → ((x : X) → Among x xs → P x) → AllByRecursion P xs
each_among P [] holds = tt
each_among P (x ∷ xs) holds = (holds x (inl refl), each_among P xs (λ y among. holds y (inr among)))

among_background : (k : ℕ) (net : List Message) (m : Message) → Among m net → is_background k m ≡ true → Among m (background k net)
among_background k [] m among is = absurd among
among_background k (x ∷ net) m (inl e) is = subst (λ (b : Bool). Among m (cond b (x ∷ background k net) (background k net))) (sym (sym (ap (is_background k) e) ∙ is)) (inl e)
among_background k (x ∷ net) m (inr among) is = by (is_background k x) (among_background k net m among is)
  where
    by : (b : Bool) → Among m (background k net) → Among m (cond b (x ∷ background k net) (background k net))
    by true there = inr there
    by false there = there

lie_within : (patches : List Patch) → AllByRecursion PatchFits patches → AllByRecursion IsWithinPage patches
lie_within [] all = tt
lie_within (p ∷ patches) all = (all.0.1, lie_within patches all.1)

-- A BATCH ON ITS WAY

module _ (lost : Option ℕ) (t : Track) (middle : Middle lost t) (m : Message) (k : ℕ) (up : IsUp lost k) (below : k < memory_count t.shape) (number : m.op.0 ≡ 0) (from : m.from ≡ memory k) (among : Among m (all_pending t)) (patches : List Patch) (what : m.body ≡ body.Backup patches) where
  sender : (x : Mem) × (slice_get t.mems k ≡ Some x)
  sender = let count = middle.count in get_within t.mems k (omega (arith, below, count))

  holds : MemHolds t k sender.0
  holds = middle.memories k sender.0 up sender.1

  fits : MemFits t.shape k sender.0
  fits = middle.forms k sender.0 sender.1

  own : is_background sender.0.id m ≡ true
  own = both (m.op.0 == 0) (same_place m.from (memory sender.0.id)) (same_place m.to (memory sender.0.id)) (eq-eqb m.op.0 0 number) (ap (λ (p : Place). same_place p (memory sender.0.id)) from ∙ eq-eqb k sender.0.id (sym fits.id))
    where
      both : (a b c : Bool) → a ≡ true → b ≡ true → (a && (b || c)) ≡ true
      both true true c e f = refl
      both true false c e f = cc f
      both false b c e f = cc e

  one : Among m (background sender.0.id (all_pending t))
  one = among_background sender.0.id (all_pending t) m among own

  is_batch : m ≡ batch_message sender.0
  is_batch = elim (eqb_tells sender.0.out 0) [
    | inl none ↦ absurd (subst (Among m) (holds.batch.none none.1) one)
    | inr some ↦ let differ = some.1 in by (holds.batch.once (omega (arith, differ)))
  ]
    where
      is : (x : Message) → background sender.0.id (all_pending t) ≡ x ∷ [] → m ≡ x
      is x e = only (subst (Among m) e one)
        where
          only : Among m (x ∷ []) → m ≡ x
          only (inl same) = same
          only (inr nobody) = absurd nobody

      by : (background sender.0.id (all_pending t) ≡ batch_message sender.0 ∷ []) ⊎ ((background sender.0.id (all_pending t) ≡ receipt sender.0 ∷ []) × HasBatch t.disk.images (take sender.0.out sender.0.log)) → m ≡ batch_message sender.0
      by (inl e) = is (batch_message sender.0) e
      by (inr e) = absurd (apart (sym what ∙ ap (λ (y : Message). y.body) (is (receipt sender.0) e.0)))
        where
          apart : body.Backup patches ≡ body.BackedUp → ⊥
          apart e = cc e

  batch : patches ≡ take sender.0.out sender.0.log
  batch = same patches (take sender.0.out sender.0.log) (sym what ∙ ap (λ (y : Message). y.body) is_batch)
    where
      same : (a b : List Patch) → body.Backup a ≡ body.Backup b → a ≡ b
      same a b e = cc e

  batch_formed : Formed t.disk m.body
  batch_formed = subst (Formed t.disk) (sym what) (subst (AllByRecursion IsWithinPage) (sym batch) (lie_within (take sender.0.out sender.0.log) (log_front PatchFits sender.0.out sender.0.log fits.log)), tt)

module _ (lost : Option ℕ) (t : Track) (middle : Middle lost t) (of_move : (x : Message) → IsOfMove x (healing_move t.healing) → IsFormed t.disk x) where
  formed : (c : Option Open) → t.current ≡ c → CurrentFits t c → (x : Message) → Among x (all_pending t) → IsPlace (memory_count t.shape) x.from → Pends lost (memory_count t.shape) t.plain c (healing_move t.healing) t.next x → IsFormed t.disk x
  formed None is fits x among place (OfOperation of) component = absurd of
  formed (Some o) is fits x among place (OfOperation of) component = by of.2
    where
      disk : (t.disk.files ≡ t.plain.files) ⊎ (t.disk.files ≡ (effect o.operation t.plain).files)
      disk = subst (λ (c : Option Open). (t.disk.files ≡ t.plain.files) ⊎ (t.disk.files ≡ (plain_with c t.plain).files)) is middle.disk.files

      by : OfOpen (memory_count t.shape) t.plain x o → Formed t.disk x.body
      by (First among) = all_among (λ (y : Message). Formed t.disk y.body) (messages_of o.by o.number (asks_of (memory_count t.shape) o.operation)) x among (first_formed t.disk t.owners t.plain (memory_count t.shape) o.by o.number o.operation fits.0.fits disk)
      by (Reaction from how) = reaction_formed t.disk t.owners t.plain (memory_count t.shape) o.operation x.to x.body fits.0.fits how
      by (HandedOn how) = handed_formed t.disk t.owners t.plain (memory_count t.shape) o.by o.operation x fits.0.fits disk how
      by (AnAnswer to target says) = let both : false ≡ true = sym component ∙ ap is_issuer to ∙ fits.0.by in cc both
  formed c is fits x among place (OfMove of) component = of_move x of component
  formed c is fits x among place (OfBackground of) component = by of.batch
    where
      by : IsBatch x of.of → Formed t.disk x.body
      by (Goes from to patches what) = batch_formed lost t middle x of.of of.up (subst (IsPlace (memory_count t.shape)) from place) of.number from among patches what
      by (Returns from to what) = subst (Formed t.disk) (sym what) (tt, tt)
  formed c is fits x among place (Left old) component = let both : false ≡ true = sym component ∙ old.to in cc both

  pub all_formed : AllByRecursion (IsFormed t.disk) t.net
  all_formed = all_front (IsFormed t.disk) t.net t.owed (each_among (IsFormed t.disk) (all_pending t) each)
    where
      each : (x : Message) → Among x (all_pending t) → IsFormed t.disk x
      each x among = let pends = all_among (MayPend lost (memory_count t.shape) t.plain t.current (healing_move t.healing) t.next) (all_pending t) x among middle.pending in formed t.current refl middle.current x among pends.from pends.kind

pub messages-are-in-form : MessagesAreInForm
messages-are-in-form t healed middle = all_formed None t middle (λ x of. absurd (subst (λ (h : Option Healing). IsOfMove x (healing_move h)) healed of))
