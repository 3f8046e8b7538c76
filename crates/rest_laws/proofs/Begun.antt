-- An operation begins with its first message.
use Rattle.std.proofs.Common.{◌≡◌, ◌⊎◌, ◌+◌, ◌/◌, ◌<◌, ◌==◌, ◌&&◌, ◌||◌, [], ◌∷◌, ◌++◌, ◌∙◌, ℕ, Bool, List, None, Option, Some, ap, append-nil, arith, cond, false, inl, inr, not, refl, slice_get, subst, sym, true}
use Rattle.std.proofs.lemmas.Bool.{eq-eqb, eqb-true, ne_eqb}
use Rattle.std.proofs.lemmas.List.Folds.{list_any-append}
use Rattle.std.specs.List.{AllByRecursion, list_any}
use Rattle.lego_base.specs.declared.ids.MemId.{MemId}
use Rattle.lego_base.specs.declared.ids.OpNo.{OpNo}
use Rattle.lego_base.specs.declared.records.HomeEntry.{HomeEntry}
use Rattle.lego_base.specs.declared.records.Patch.{Patch}
use Rattle.lego_msg.specs.Granted.{Granted}
use Rattle.lego_base.specs.Pieces.{laid_over}
use Rattle.lego_msg.specs.Maps.{bytes_or_zeros, laid_on, overlaid, owner_of, page_in}
use Rattle.lego_msg.specs.Marks.{Mark}
use Rattle.lego_msg.specs.Operations.{asks_of, is_write, messages_of, patch_of}
use Rattle.lego_msg.specs.Places.{memory, same_place, secondary_of}
use Rattle.lego_msg.specs.State.{Block, Mem, Waiter}
use Rattle.lego_msg.specs.Track.{Caches, Track, all_answered, is_complete, is_crash_due, is_pending, memory_count, opened}
use Rattle.lego_msg.specs.declared.healing.Healing.{Healing}
use Rattle.lego_msg.specs.declared.message.Message.{Message}
use Rattle.lego_msg.specs.declared.operation.Open.{Open}
use Rattle.lego_msg.specs.declared.operation.Operation.{Operation}
use Rattle.lego_msg.specs.declared.place.Place.{Place}
use Rattle.lego_rest.specs.Answers.{all_pending, answers_to, gave_answer, is_answer_from, is_storage_true, second_due}
use Rattle.lego_rest.specs.Fits.{IsRequest, LogFits, OpenFits, PlainFits, WaiterFits, background, changes_block, over}
use Rattle.lego_rest.specs.Parts.{Areas, Cell, Held, Home, Page, is_owner, main_part, new_share, old_share, owns, second_part, share, sides_of}
use Rattle.lego_rest.specs.Pending.{Among, First, IsPlace, Left, MayPend, OfBackground, OfMove, OfOperation, Pends}
use Rattle.lego_rest.specs.Rest.{DiskHolds, MemHolds, Middle, SecondHolds}
use Rattle.rest_laws.proofs.Lookup.{page-overlaid}
use Rattle.rest_laws.proofs.Opened.{all_both, every, first_from, issuer_apart, issuer_there}
use Rattle.rest_laws.proofs.Stepping.{batch_stays}
use Rattle.rest_laws.proofs.Truth.{some_none, third_false}
use Rattle.rest_laws.proofs.Taken.{any_more, background_more}
use Rattle.rest_laws.specs.Beginning.{OperationBegins}
use Rattle.lego_msg.specs.declared.place.Place.TheVariants as place

none_any : (test : Message → Bool) (pending : List Message) → AllByRecursion (λ (m : Message). test m ≡ false) pending → list_any test pending ≡ false
none_any test [] all = refl
none_any test (m ∷ pending) all = ap (λ (b : Bool). b || list_any test pending) all.0 ∙ none_any test pending all.1

cond_nothing : {X : Type 0} (a b : Bool) (x y : X) → x ≡ y → cond a x y ≡ cond b x y
cond_nothing true true x y e = refl
cond_nothing true false x y e = e
cond_nothing false true x y e = sym e
cond_nothing false false x y e = refl

-- a log has no patch of a page whose region has no owner
over_none : (n k : ℕ) (owners : List HomeEntry) (pid vpn : ℕ) → owner_of owners pid (vpn / 512) ≡ None → (log : List Patch) (page : Option (List ℕ)) → AllByRecursion (LogFits n owners k) log → over log pid vpn page ≡ page
over_none n k owners pid vpn none [] page fits = refl
over_none n k owners pid vpn none (p ∷ log) page fits = ap (over log pid vpn) (stays (p.pid.0 == pid) (p.vpn.0 == vpn) refl refl) ∙ over_none n k owners pid vpn none log page fits.1
  where
    owned : p.pid.0 ≡ pid → p.vpn.0 ≡ vpn → ⊥
    owned same same' =
        let owner = fits.0.1 in
        some_none fits.0.0 (sym owner ∙ (λ i. owner_of owners (same i) (same' i / 512)) ∙ none)

    stays : (a b : Bool) → (p.pid.0 == pid) ≡ a → (p.vpn.0 == vpn) ≡ b → laid_on p pid vpn page ≡ page
    stays true true e f = absurd (owned (eqb-true p.pid.0 pid e) (eqb-true p.vpn.0 vpn f))
    stays true false e f = (λ i. cond (e i && f i) (Some (laid_over (bytes_or_zeros page) p.off p.bytes)) page)
    stays false b e f = (λ i. cond (e i && (p.vpn.0 == vpn)) (Some (laid_over (bytes_or_zeros page) p.off p.bytes)) page)

module _ (t : Track) (issuer : Place) (operation : Operation) (owners : List HomeEntry) (m : Message) (more : List Message) (caches : Caches) (due : List Mark) (calm : is_crash_due t ≡ false) (first : (opened t.shape t.next issuer operation).unsent ≡ m ∷ more) (requests : AllByRecursion (IsRequest (memory_count t.shape)) (m ∷ more)) (granted : Granted t issuer operation owners) (middle : Middle None (record t { owed = []; current = None; healing = None })) where
  abbrev resting : Track
  resting = record t { owed = []; current = None; healing = None }

  abbrev begun : Open
  begun = record (opened t.shape t.next issuer operation) { unsent = more }

  abbrev begun_track : Track
  begun_track = record t {
    net = t.net ++ m ∷ [];
    owed = [];
    next = t.next + 1;
    current = Some (record (opened t.shape t.next issuer operation) { unsent = more });
    healing = None;
    owners = owners;
    caches = caches;
    due = due;
  }

  -- OWNERS: who had one has the same, and a region that had none holds nothing
  no_owner_before : (pid region : ℕ) → owner_of owners pid region ≡ None → owner_of t.owners pid region ≡ None
  no_owner_before pid region none = by (owner_of t.owners pid region) refl
    where
      by : (c : Option MemId) → owner_of t.owners pid region ≡ c → c ≡ None
      by None e = refl
      by (Some o) e = absurd (some_none o (sym (granted.grow pid region o e) ∙ none))

  -- of a cell that is nothing where its region has no owner
  owned_alike : {X : Type 0} (k pid region : ℕ) (held nothing : X) → (owner_of t.owners pid region ≡ None → held ≡ nothing) → cond (owns owners k pid region) held nothing ≡ cond (owns t.owners k pid region) held nothing
  owned_alike k pid region held nothing empty = by (owner_of t.owners pid region) refl
    where
      by : (c : Option MemId) → owner_of t.owners pid region ≡ c → cond (owns owners k pid region) held nothing ≡ cond (owns t.owners k pid region) held nothing
      by None e = cond_nothing (owns owners k pid region) (owns t.owners k pid region) held nothing (empty e)
      by (Some o) e = ap (λ (c : Option MemId). cond (is_owner k c) held nothing) (granted.grow pid region o e ∙ sym e)

  same_share : (k : ℕ) (c : Cell) → share (memory_count t.shape) owners t.plain k c ≡ share (memory_count t.shape) t.owners t.plain k c
  same_share k (Home pid region) = refl
  same_share k (Areas pid region) = owned_alike k pid region (t.plain.areas pid region) [] (middle.plain.areas pid region)
  same_share k (Page pid vpn) = owned_alike k pid (vpn / 512) (t.plain.page pid vpn) None (middle.plain.pages pid vpn)

  same_second : (j k : ℕ) (x : Mem) → AllByRecursion (LogFits (memory_count t.shape) t.owners k) x.log → (c : Cell) → second_part owners t.disk.images j x c ≡ second_part t.owners t.disk.images j x c
  same_second j k x log (Home pid region) = refl
  same_second j k x log (Areas pid region) = refl
  same_second j k x log (Page pid vpn) = owned_alike j pid (vpn / 512) (page_in (overlaid x.log t.disk.images) pid vpn) None absent
    where
      absent : owner_of t.owners pid (vpn / 512) ≡ None → page_in (overlaid x.log t.disk.images) pid vpn ≡ None
      absent none = page-overlaid x.log t.disk.images pid vpn ∙ over_none (memory_count t.shape) k t.owners pid vpn none x.log (page_in t.disk.images pid vpn) log ∙ middle.disk.images pid vpn none

  one_side : (k : ℕ) (c : Cell) (held : Held c) → (held ≡ old_share (sides_of resting) k c) ⊎ (held ≡ new_share (sides_of resting) k c) → held ≡ share (memory_count t.shape) owners t.plain k c
  one_side k c held (inl e) = e ∙ sym (same_share k c)
  one_side k c held (inr e) = e ∙ sym (same_share k c)

  -- NOBODY HAS ANSWERED: what was pending has an earlier number
  is_earlier : (x : Message) → MayPend None (memory_count t.shape) t.plain None None t.next x → x.op.0 < t.next
  is_earlier x may = by may.kind
    where
      by : Pends None (memory_count t.shape) t.plain None None t.next x → x.op.0 < t.next
      by (OfOperation of) = absurd of
      by (OfMove of) = absurd of
      by (OfBackground of) = let zero : x.op.0 ≡ 0 = of.number in let some = middle.next in omega (arith, zero, some)
      by (Left old) = old.below

  later_number : (x : Message) → x.op.0 < t.next → (x.op.0 == t.next) ≡ false
  later_number x less = ne_eqb x.op.0 t.next (λ same. omega (arith, less, same))

  whole : messages_of issuer (record { 0 = t.next }) (asks_of (memory_count t.shape) operation) ≡ m ∷ more
  whole = first

  is_first : Among m (messages_of begun.by begun.number (asks_of (memory_count t.shape) operation))
  is_first = subst (Among m) (sym first) (inl refl)

  from_issuer : (m.from ≡ issuer) × (m.op ≡ record { 0 = t.next })
  from_issuer = first_from issuer (record { 0 = t.next }) (asks_of (memory_count t.shape) operation) m is_first

  no_answer : (p : Place) → gave_answer p (all_pending begun_track) (Some begun) ≡ false
  no_answer p =
      ap (list_any (is_answer_from begun p)) (append-nil (t.net ++ m ∷ []))
      ∙ any_more t.net m (is_answer_from begun p) (third_false (m.op.0 == t.next) (same_place m.from p) (same_place m.to issuer) (answers_to (patch_of operation) m.body) (issuer_apart m.to issuer requests.0.component granted.issuer))
      ∙ none_any (is_answer_from begun p) t.net (every none_of t.net (subst (AllByRecursion (MayPend None (memory_count t.shape) t.plain None None t.next)) (append-nil t.net) middle.pending))
    where
      none_of : (x : Message) → MayPend None (memory_count t.shape) t.plain None None t.next x → is_answer_from begun p x ≡ false
      none_of x may = ap (λ (b : Bool). b && same_place x.from p && same_place x.to issuer && answers_to (patch_of operation) x.body) (later_number x (is_earlier x may))

  never : {X : Type 0} (b : Bool) → b ≡ false → b ≡ true → X
  never b e f = let both : false ≡ true = sym e ∙ f in cc both

  none_due : (k : ℕ) (c : Cell) → second_due begun_track k c ≡ false
  none_due k (Home pid region) = no_answer (memory k)
  none_due k (Areas pid region) = no_answer (memory k)
  none_due k (Page pid vpn) = by (is_write operation) (is_storage_true (t.net ++ m ∷ []) None (Some begun))
    where
      by : (b s : Bool) → cond b (gave_answer (memory k) (all_pending begun_track) (Some begun)) (s && gave_answer place.Storage (all_pending begun_track) (Some begun)) ≡ false
      by true s = no_answer (memory k)
      by false true = no_answer place.Storage
      by false false = refl

  -- COMPONENTS
  pending_more : all_pending begun_track ≡ t.net ++ m ∷ []
  pending_more = append-nil (t.net ++ m ∷ [])

  some : 0 < m.op.0
  some = let next_ = middle.next in subst (λ (n : OpNo). 0 < n.0) (sym from_issuer.1) next_

  batches : (k : ℕ) → background k (all_pending begun_track) ≡ background k (all_pending resting)
  batches k = ap (background k) pending_more ∙ background_more t.net m some k ∙ ap (background k) (sym (append-nil t.net))

  changes : (b : Block) → list_any (λ (m : Message). changes_block b m.body) (all_pending resting) ≡ false → list_any (λ (m : Message). changes_block b m.body) (all_pending begun_track) ≡ false
  changes b none = ap (list_any (λ (m : Message). changes_block b m.body)) pending_more ∙ any_more t.net m (λ (m : Message). changes_block b m.body) (requests.0.changes b) ∙ ap (list_any (λ (m : Message). changes_block b m.body)) (sym (append-nil t.net)) ∙ none

  log_grows : (k : ℕ) (p : Patch) → LogFits (memory_count t.shape) t.owners k p → LogFits (memory_count t.shape) owners k p
  log_grows k p fits = (fits.0, granted.grow p.pid.0 (p.vpn.0 / 512) fits.0 fits.1, fits.2)

  mem_holds : (k : ℕ) (s : Mem) → MemHolds resting k s → MemHolds begun_track k s
  mem_holds k s holds = record {
    part = record { either = λ c. inl (one_side k c (main_part s c) (holds.part.either c)); told = λ c due. never (gave_answer (memory k) (all_pending begun_track) (Some begun)) (no_answer (memory k)) due };
    batch = batch_stays (all_pending resting) (all_pending begun_track) t.disk.images s (batches s.id) holds.batch;
    blocks = every (λ b fit. record { place = fit.place; below = fit.below; same = fit.same; still = changes b fit.still }) s.blocks holds.blocks;
    log = every (log_grows k) s.log holds.log;
  }

  second_holds : (j : ℕ) (x : Mem) → slice_get t.mems (secondary_of (memory_count t.shape) j) ≡ Some x → SecondHolds resting j x → SecondHolds begun_track j x
  second_holds j x at holds =
      let log = (middle.memories (secondary_of (memory_count t.shape) j) x tt at).log in
      record {
        part = record {
          either = λ c. inl (same_second j (secondary_of (memory_count t.shape) j) x log c ∙ one_side j c (second_part t.owners t.disk.images j x c) (holds.part.either c));
          told = λ c due. never (second_due begun_track (secondary_of (memory_count t.shape) j) c) (none_due (secondary_of (memory_count t.shape) j) c) due;
        };
      }

  files_old : (t.disk.files ≡ t.plain.files) ⊎ (t.disk.files ≡ (sides_of resting).new.files) → t.disk.files ≡ t.plain.files
  files_old (inl e) = e
  files_old (inr e) = e

  disk_holds : DiskHolds begun_track
  disk_holds = record {
    files = inl (files_old middle.disk.files);
    told = λ has. never (gave_answer place.Storage (all_pending begun_track) (Some begun)) (no_answer place.Storage) has;
    images = λ pid vpn none. middle.disk.images pid vpn (no_owner_before pid (vpn / 512) none);
    form = middle.disk.form;
  }

  -- WHAT IS OPEN AND PENDING
  plain_fits : PlainFits (memory_count t.shape) owners t.plain
  plain_fits = record {
    rise = granted.rise;
    within = granted.within;
    areas = λ pid region none. middle.plain.areas pid region (no_owner_before pid region none);
    pages = λ pid vpn none. middle.plain.pages pid vpn (no_owner_before pid (vpn / 512) none);
    homes = λ pid region o home. granted.grow pid region o (middle.plain.homes pid region o home);
    mapped = middle.plain.mapped;
    whole = middle.plain.whole;
    lists = middle.plain.lists;
    numbers = middle.plain.numbers;
  }

  open_fits : OpenFits (memory_count t.shape) owners t.plain (t.next + 1) begun
  open_fits = record {
    some = middle.next;
    below = omega arith;
    by = granted.issuer;
    targets = refl;
    sent = (m ∷ [], sym first);
    requests = subst (AllByRecursion (IsRequest (memory_count t.shape))) (sym first) requests;
    fits = granted.fits;
    answers = tt;
  }

  is_open : is_complete (t.net ++ m ∷ []) begun ≡ false
  is_open = off (all_answered begun.targets []) (is_pending t.next (t.net ++ m ∷ [])) pends_still
    where
      off : (a b : Bool) → b ≡ true → (a && not b) ≡ false
      off true b e = ap not e
      off false b e = refl

      own : (m.op.0 == t.next) ≡ true
      own = eq-eqb m.op.0 t.next (ap (λ (n : OpNo). n.0) from_issuer.1)

      last : (a : Bool) → (a || ((m.op.0 == t.next) || false)) ≡ true
      last true = refl
      last false = ap (λ (b : Bool). b || false) own

      pends_still : is_pending t.next (t.net ++ m ∷ []) ≡ true
      pends_still = list_any-append (λ (m : Message). m.op.0 == t.next) t.net (m ∷ []) ∙ last (list_any (λ (m : Message). m.op.0 == t.next) t.net)

  pends_on : (x : Message) → MayPend None (memory_count t.shape) t.plain None None t.next x → MayPend None (memory_count t.shape) t.plain (Some begun) None (t.next + 1) x
  pends_on x may = record { from = may.from; to = may.to; kind = by may.kind }
    where
      by : Pends None (memory_count t.shape) t.plain None None t.next x → Pends None (memory_count t.shape) t.plain (Some begun) None (t.next + 1) x
      by (OfOperation of) = absurd of
      by (OfMove of) = absurd of
      by (OfBackground of) = OfBackground of
      by (Left old) =
          let below = old.below in
          Left (record {
            some = old.some;
            below = omega (arith, below);
            not_current = later_number x below;
            not_move = tt;
            drained = old.drained;
            to = old.to;
            from_up = old.from_up;
          })

  first_pends : MayPend None (memory_count t.shape) t.plain (Some begun) None (t.next + 1) m
  first_pends = record {
    from = subst (IsPlace (memory_count t.shape)) (sym from_issuer.0) (issuer_there (memory_count t.shape) issuer granted.issuer);
    to = requests.0.there;
    kind = OfOperation (ap (λ (n : OpNo). n.0) from_issuer.1, tt, First is_first);
  }

  waits_on : (k : ℕ) (w : Waiter) → WaiterFits (memory_count t.shape) k t.next None None w → WaiterFits (memory_count t.shape) k (t.next + 1) (Some begun) None w
  waits_on k w fits =
      let below = fits.below in
      record { some = fits.some; below = omega (arith, below); by = fits.by; of_open = λ same. absurd (omega (arith, below, same)); of_move = fits.of_move }

  begin_keeps : Middle None begun_track
  begin_keeps = record {
    machine = middle.machine;
    count = middle.count;
    next = omega arith;
    plain = plain_fits;
    forms = middle.forms;
    current = (open_fits, granted.clear, inr (is_open, calm, refl));
    memories = λ k s up at. mem_holds k s (middle.memories k s up at);
    seconds = λ j x below up at. second_holds j x at (middle.seconds j x below up at);
    disk = disk_holds;
    pending = subst (AllByRecursion (MayPend None (memory_count t.shape) t.plain (Some begun) None (t.next + 1))) (sym pending_more) (all_both _ t.net (m ∷ []) (every pends_on t.net (subst (AllByRecursion (MayPend None (memory_count t.shape) t.plain None None t.next)) (append-nil t.net) middle.pending)) (first_pends, tt));
    waiting = λ k s at. every (waits_on k) s.drains (middle.waiting k s at);
    healing = refl;
    idle = λ closed quiet. refl;
  }

pub operation-begins : OperationBegins
operation-begins t by operation owners m more caches due settled closed healed calm first requests granted middle =
    subst (λ (p : List Message × Option Healing). Middle None (record t {
      net = t.net ++ m ∷ [];
      owed = p.0;
      next = t.next + 1;
      current = Some (record (opened t.shape t.next by operation) { unsent = more });
      healing = p.1;
      owners = owners;
      caches = caches;
      due = due;
    })) (λ i. (sym settled i, sym healed i))
    (begin_keeps t by operation owners m more caches due calm first requests granted
    (subst (λ (p : List Message × Option Open × Option Healing). Middle None (record t { owed = p.0; current = p.1; healing = p.2 })) (λ i. (settled i, closed i, healed i)) middle))
