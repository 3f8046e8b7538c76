-- The write of a patch: to the owner's page, and to the log of the owner's secondary; a full log is drained first.
use Rattle.std.proofs.Common.{◌≡◌, ◌⊎◌, ◌+◌, ◌/◌, ◌<◌, ◌==◌, ◌&&◌, [], ◌∷◌, ◌++◌, ◌∙◌, ℕ, Bool, List, None, Option, Some, ap, arith, cond, false, inl, inr, leb, length, length-append, ltb, refl, subst, sym, true}
use Rattle.std.proofs.lemmas.Bool.{eq-eqb, eqb-true, leb-true, ltb-true}
use Rattle.lego_base.specs.Pieces.{laid_over}
use Rattle.lego_base.specs.declared.ids.MemId.{MemId}
use Rattle.lego_base.specs.declared.records.HomeEntry.{HomeEntry}
use Rattle.lego_base.specs.declared.records.Patch.{Patch}
use Rattle.lego_msg.specs.Granted.{IsClear, PatchFits, WriteFits}
use Rattle.lego_msg.specs.Maps.{bytes_or_zeros, laid_on, overlaid, page_in, patched}
use Rattle.lego_msg.specs.Places.{is_among, memory, secondary_of}
use Rattle.lego_msg.specs.Plain.{Plain, with_patch}
use Rattle.lego_msg.specs.State.{Mem}
use Rattle.lego_msg.specs.Table.{answers, batched, reply}
use Rattle.lego_msg.specs.Track.{Track, memory_count}
use Rattle.lego_msg.specs.declared.message.Message.{Message}
use Rattle.lego_msg.specs.declared.operation.Open.{Open}
use Rattle.lego_msg.specs.declared.operation.Operation.TheVariants.{Writes}
use Rattle.lego_msg.specs.declared.operation.Origin.{Origin}
use Rattle.lego_msg.specs.declared.place.Place.{Place}
use Rattle.lego_rest.specs.Fits.{LogFits, MemFits, PlainFits}
use Rattle.lego_rest.specs.Parts.{Areas, Cell, Home, Page, new_share, owns, part_of, second_part, share, sides_of}
use Rattle.lego_rest.specs.Pending.{AnAnswer, First, HandedOn, OfOpen, Reaction, Says}
use Rattle.rest_laws.proofs.Changed.{same_patched}
use Rattle.rest_laws.proofs.Delivered.{RowGives, answers_for}
use Rattle.rest_laws.proofs.Lookup.{page-overlaid, page-patched}
use Rattle.rest_laws.proofs.Meeting.{met_fits, met_holds, met_main, met_open, met_second, met_some}
use Rattle.rest_laws.proofs.Opened.{all_both}
use Rattle.rest_laws.proofs.Pages.{over_append, over_twice}
use Rattle.rest_laws.proofs.Replied.{Change, all_new, answer_pends, keeping, none_changes, replied}
use Rattle.rest_laws.proofs.Truth.{both_true}
use Rattle.rest_laws.proofs.kinds.Cells.{agreed, owns_this, patched_fit}
use Rattle.rest_laws.proofs.kinds.Draining.{drain_gives}
use Rattle.rest_laws.proofs.kinds.Kind.{KindRows, MemoryGives, StorageGives, here, no_answer_here, no_answer_there, storage_apart}
use Rattle.rest_laws.proofs.kinds.Logging.{carries_on, logging, ruled}
use Rattle.rest_laws.proofs.kinds.Twice.{first_two, is_guarded, own_stays, seconds_stay}
use Rattle.lego_msg.specs.declared.body.Body.TheVariants as body
use Rattle.lego_msg.specs.declared.place.Why.TheVariants as why

-- a page that is the old or the new one is the new one with the patch laid over it
pub laid_new : (n : ℕ) (owners : List HomeEntry) (f : Plain) (patch : Patch) (m pid vpn : ℕ) (page : Option (List ℕ)) → PatchFits patch → PlainFits n owners f → ((patch.pid.0 == pid && patch.vpn.0 == vpn) ≡ true → owns owners m pid (vpn / 512) ≡ true) →
    (page ≡ cond (owns owners m pid (vpn / 512)) (f.page pid vpn) None) ⊎ (page ≡ cond (owns owners m pid (vpn / 512)) (laid_on patch pid vpn (f.page pid vpn)) None) →
    laid_on patch pid vpn page ≡ cond (owns owners m pid (vpn / 512)) (laid_on patch pid vpn (f.page pid vpn)) None
laid_new n owners f patch m pid vpn page fits plain kept either = by (owns owners m pid (vpn / 512)) (patch.pid.0 == pid && patch.vpn.0 == vpn) refl kept either
  where
    twice : laid_on patch pid vpn (laid_on patch pid vpn (f.page pid vpn)) ≡ laid_on patch pid vpn (f.page pid vpn)
    twice = over_twice (patch ∷ []) pid vpn (f.page pid vpn) (fits, tt) (plain.whole pid vpn)

    by : (keep this : Bool) → (patch.pid.0 == pid && patch.vpn.0 == vpn) ≡ this → (this ≡ true → keep ≡ true) → (page ≡ cond keep (f.page pid vpn) None) ⊎ (page ≡ cond keep (laid_on patch pid vpn (f.page pid vpn)) None) → laid_on patch pid vpn page ≡ cond keep (laid_on patch pid vpn (f.page pid vpn)) None
    by true this e kept (inl old) = ap (laid_on patch pid vpn) old
    by true this e kept (inr new) = ap (laid_on patch pid vpn) new ∙ twice
    by false true e kept either = let both : false ≡ true = kept refl in cc both
    by false false e kept (inl old) = ap (λ (b : Bool). cond b (Some (laid_over (bytes_or_zeros page) patch.off patch.bytes)) page) e ∙ old
    by false false e kept (inr new) = ap (λ (b : Bool). cond b (Some (laid_over (bytes_or_zeros page) patch.off patch.bytes)) page) e ∙ new

module _ (lost : Option ℕ) (t : Track) (o : Open) (origin : Origin) (patch : Patch) (owner : MemId) where
  abbrev writing : Open
  writing = record o { operation = Writes origin patch owner }

  abbrev second : ℕ
  second = secondary_of (memory_count t.shape) owner.0

  abbrev write_message : Message
  write_message = record { from = o.by; to = memory owner.0; op = o.number; body = body.Write patch }

  abbrev log_message : Place → Message
  log_message from = record { from = from; to = memory second; op = o.number; body = body.LogWrite patch }

  module _ (fits : WriteFits t.owners t.plain patch owner) (there : owner.0 < memory_count t.shape) where
    other : (j : ℕ) → (j ≡ owner.0 → ⊥) → (c : Cell) → share (memory_count t.shape) t.owners t.plain j c ≡ share (memory_count t.shape) t.owners (with_patch patch t.plain) j c
    other j differ c = same_patched (memory_count t.shape) t.owners t.plain patch owner j fits.owned differ c

    -- the page's region is owned by whom the operation names
    pub owned : (j pid vpn : ℕ) → owner.0 ≡ j → (patch.pid.0 == pid && patch.vpn.0 == vpn) ≡ true → owns t.owners j pid (vpn / 512) ≡ true
    owned j pid vpn is this =
        let same = both_true (patch.pid.0 == pid) (patch.vpn.0 == vpn) this in
        ap (λ (q : ℕ). owns t.owners q pid (vpn / 512)) (sym is)
        ∙ owns_this t.owners patch.pid.0 (patch.vpn.0 / 512) pid (vpn / 512) owner fits.owned (agree (eqb-true patch.pid.0 pid same.0) (eqb-true patch.vpn.0 vpn same.1))
      where
        agree : patch.pid.0 ≡ pid → patch.vpn.0 ≡ vpn → (patch.pid.0 == pid && patch.vpn.0 / 512 == vpn / 512) ≡ true
        agree p v = ap (λ (b : Bool). b && patch.vpn.0 / 512 == vpn / 512) (eq-eqb patch.pid.0 pid p) ∙ eq-eqb (patch.vpn.0 / 512) (vpn / 512) (ap (λ (q : ℕ). q / 512) v)

    -- AT THE OWNER
    written : (s : Mem) → MemoryGives lost t writing owner.0 s write_message
    written s met = by (leb (length (patched patch s.pages)) s.frames) refl
      where
        was : MemFits t.shape owner.0 s
        was = met_fits lost t writing owner.0 s write_message met

        target : is_among (memory owner.0) o.targets ≡ true
        target = ap (is_among (memory owner.0)) (met_open lost t writing owner.0 s write_message met).targets ∙ (first_two (memory_count t.shape) owner.0 []).1

        own : (c : Cell) → part_of s.main (patched patch s.pages) c ≡ new_share (sides_of (record t { current = Some writing })) owner.0 c
        own (Home p r) = agreed _ _ _ refl (met_main lost t writing owner.0 s write_message met (Home p r))
        own (Areas p r) = agreed _ _ _ refl (met_main lost t writing owner.0 s write_message met (Areas p r))
        own (Page p vpn) = page-patched patch s.pages p vpn ∙ laid_new (memory_count t.shape) t.owners t.plain patch owner.0 p vpn (page_in s.pages p vpn) fits.patch met.middle.plain (owned owner.0 p vpn refl) (met_main lost t writing owner.0 s write_message met (Page p vpn))

        by : (b : Bool) → leb (length (patched patch s.pages)) s.frames ≡ b → RowGives lost t writing owner.0 s (cond b (answers (keeping s s.main s.spare (patched patch s.pages)) write_message body.Wrote) (answers s write_message (body.Refused why.Full))).0 (cond b (answers (keeping s s.main s.spare (patched patch s.pages)) write_message body.Wrote) (answers s write_message (body.Refused why.Full))).1
        by true room = replied lost t writing owner.0 s write_message met s.main s.spare (patched patch s.pages) body.Wrote refl target (inr (refl, inl refl)) (λ b. refl) was.main was.spare (patched_fit patch s.pages fits.patch was.pages) (leb-true (length (patched patch s.pages)) s.frames room)
            (all_new t writing true owner.0 s s.main s.spare (patched patch s.pages) own (λ j below is c speaks. seconds_same j below is c))
          where
            seconds_same : (j : ℕ) → j < memory_count t.shape → secondary_of (memory_count t.shape) j ≡ owner.0 → (c : Cell) → second_part t.owners t.disk.images j (keeping s s.main s.spare (patched patch s.pages)) c ≡ new_share (sides_of (record t { current = Some writing })) j c
            seconds_same j below is (Home p r) = seconds_stay lost t writing owner.0 there other s write_message met j below is (Home p r)
            seconds_same j below is (Areas p r) = seconds_stay lost t writing owner.0 there other s write_message met j below is (Areas p r)
            seconds_same j below is (Page p vpn) = seconds_stay lost t writing owner.0 there other s write_message met j below is (Page p vpn)
        by false full = replied lost t writing owner.0 s write_message met s.main s.spare s.pages (body.Refused why.Full) refl target (inr (refl, inr (inl refl))) (λ b. refl) was.main was.spare was.pages was.frames (none_changes t writing false owner.0 s refl)

    -- AT THE SECONDARY
    unclear : (log : List Patch) → IsClear (Writes origin patch owner) log
    unclear [] = tt
    unclear (p ∷ log) = (refl, unclear log)

    logged : (from : Place) → from ≡ o.by → (s : Mem) → MemoryGives lost t writing second s (log_message from)
    logged from issued s met = by (ltb (length s.log) s.log_room) refl
      where
        was : MemFits t.shape second s
        was = met_fits lost t writing second s (log_message from) met

        target : is_among (memory second) o.targets ≡ true
        target = ap (is_among (memory second)) (met_open lost t writing second s (log_message from) met).targets ∙ (first_two (memory_count t.shape) owner.0 []).0

        longer : length (s.log ++ patch ∷ []) ≡ length s.log + 1
        longer = length-append s.log (patch ∷ [])

        said : Says (memory_count t.shape) t.plain (Writes origin patch owner) (memory second) body.Wrote
        said = inl (refl, inl refl)

        new_pages : (j : ℕ) → j < memory_count t.shape → secondary_of (memory_count t.shape) j ≡ second → (c : Cell) → second_part t.owners t.disk.images j (logging s (s.log ++ patch ∷ []) s.out s.drains) c ≡ new_share (sides_of (record t { current = Some writing })) j c
        new_pages j below is (Home p r) = agreed _ _ _ refl (met_second lost t writing second s (log_message from) met j below is (Home p r))
        new_pages j below is (Areas p r) = agreed _ _ _ refl (met_second lost t writing second s (log_message from) met j below is (Areas p r))
        new_pages j below is (Page p vpn) =
            ap (λ (page : Option (List ℕ)). cond (owns t.owners j p (vpn / 512)) page None) (page-overlaid (s.log ++ patch ∷ []) t.disk.images p vpn ∙ over_append s.log (patch ∷ []) p vpn (page_in t.disk.images p vpn) ∙ ap (laid_on patch p vpn) (sym (page-overlaid s.log t.disk.images p vpn)))
            ∙ under (owns t.owners j p (vpn / 512)) (owned j p vpn (is_guarded lost t writing owner.0 there other met.middle.machine.two j below is)) (met_second lost t writing second s (log_message from) met j below is (Page p vpn))
          where
            under : (keep : Bool) → ((patch.pid.0 == p && patch.vpn.0 == vpn) ≡ true → keep ≡ true) → (cond keep (page_in (overlaid s.log t.disk.images) p vpn) None ≡ cond keep (t.plain.page p vpn) None) ⊎ (cond keep (page_in (overlaid s.log t.disk.images) p vpn) None ≡ cond keep (laid_on patch p vpn (t.plain.page p vpn)) None) → cond keep (laid_on patch p vpn (page_in (overlaid s.log t.disk.images) p vpn)) None ≡ cond keep (laid_on patch p vpn (t.plain.page p vpn)) None
            under true kept (inl old) = ap (laid_on patch p vpn) old
            under true kept (inr new) = ap (laid_on patch p vpn) new ∙ over_twice (patch ∷ []) p vpn (t.plain.page p vpn) (fits.patch, tt) (met.middle.plain.whole p vpn)
            under false kept either = refl

        change : Change t writing (answers_for writing second (reply (memory s.id) (log_message from) body.Wrote ∷ [])) second s (logging s (s.log ++ patch ∷ []) s.out s.drains)
        change = record {
          main = λ c. inr (own_stays lost t writing owner.0 there other s (log_message from) met c);
          main_told = λ now c. own_stays lost t writing owner.0 there other s (log_message from) met c;
          second = λ j below is c. inr (new_pages j below is c);
          second_told = λ j below is now c speaks. new_pages j below is c;
        }

        by : (b : Bool) → ltb (length s.log) s.log_room ≡ b → RowGives lost t writing second s (cond b (batched (logging s (s.log ++ patch ∷ []) s.out s.drains) (reply (memory s.id) (log_message from) body.Wrote ∷ [])) (answers s (log_message from) body.LogFull)).0 (cond b (batched (logging s (s.log ++ patch ∷ []) s.out s.drains) (reply (memory s.id) (log_message from) body.Wrote ∷ [])) (answers s (log_message from) body.LogFull)).1
        by true room = ruled lost t writing second s (log_message from) met (s.log ++ patch ∷ []) s.drains (reply (memory s.id) (log_message from) body.Wrote ∷ [])
            (all_both PatchFits s.log (patch ∷ []) was.log (fits.patch, tt)) (let less = ltb-true (length s.log) s.log_room room in omega (arith, longer, less)) (met.middle.waiting second s met.at) (unclear (s.log ++ patch ∷ [])) (omega (arith, longer))
            (carries_on lost t writing second s (log_message from) met (s.log ++ patch ∷ []) (patch ∷ []) s.drains refl)
            (answer_pends lost t writing second s (log_message from) met body.Wrote issued target said, tt) (ap memory was.id, tt) (met_some lost t writing second s (log_message from) met, tt) (λ b. refl)
            (all_both (LogFits (memory_count t.shape) t.owners second) s.log (patch ∷ []) (met_holds lost t writing second s (log_message from) met).log ((owner, fits.owned, refl), tt)) change
        by false full = replied lost t writing second s (log_message from) met s.main s.spare s.pages body.LogFull issued target (inl (refl, inr (inl refl))) (λ b. refl) was.main was.spare was.pages was.frames (none_changes t writing false second s refl)

    drained : (from : Place) → from ≡ o.by → (s : Mem) → MemoryGives lost t writing second s (record { from = from; to = memory second; op = o.number; body = body.Drain })
    drained from issued s met = drain_gives lost t writing second s (record { from = from; to = memory second; op = o.number; body = body.Drain }) met issued
        (ap (is_among (memory second)) (met_open lost t writing second s (record { from = from; to = memory second; op = o.number; body = body.Drain }) met).targets ∙ (first_two (memory_count t.shape) owner.0 []).0) refl (inl (refl, inr (inr (inl refl)))) (none_changes t writing false second s refl)

    pub writes_rows : KindRows lost t writing
    writes_rows = record { at_memory = memories; at_storage = storage }
      where
        -- what the issuer sends after a full log is for the secondary
        reacted : (k : ℕ) (s : Mem) (m r : Message) → m ≡ r → r.to ≡ memory second → ((s : Mem) → MemoryGives lost t writing second s r) → MemoryGives lost t writing k s m
        reacted k s m r is to gives met = subst (λ (x : Message). MemoryGives lost t writing k s x) (sym is) ((here lost t writing r second to gives).0 k s) met

        same_message : (m r : Message) → m.from ≡ r.from → m.to ≡ r.to → m.op.0 ≡ r.op.0 → m.body ≡ r.body → m ≡ r
        same_message m r from to op what = λ i. record { from = from i; to = to i; op = record { 0 = op i }; body = what i }

        memories : (k : ℕ) (s : Mem) (m : Message) → OfOpen (memory_count t.shape) t.plain m writing → MemoryGives lost t writing k s m
        memories k s m (First (inl e)) = reacted k s m (log_message o.by) e refl (logged o.by refl)
        memories k s m (First (inr (inl e))) = λ met. subst (λ (x : Message). MemoryGives lost t writing k s x) (sym e) ((here lost t writing write_message owner.0 refl written).0 k s) met
        memories k s m (First (inr (inr nobody))) = absurd nobody
        memories k s m (Reaction from (to, inl e)) = λ met. reacted k s m (record { from = o.by; to = memory second; op = o.number; body = body.Drain }) (same_message m (record { from = o.by; to = memory second; op = o.number; body = body.Drain }) from to met.number e) refl (drained o.by refl) met
        memories k s m (Reaction from (to, inr (inl e))) = λ met. reacted k s m (log_message o.by) (same_message m (log_message o.by) from to met.number e) refl (logged o.by refl) met
        memories k s m (Reaction from (to, inr (inr nobody))) = absurd nobody
        memories k s m (HandedOn how) = absurd how
        memories k s m (AnAnswer to target says) = λ met. absurd (no_answer_here lost t writing k s m met to)

        storage : (m : Message) → OfOpen (memory_count t.shape) t.plain m writing → StorageGives lost t writing m
        storage m (First (inl e)) = λ reaches. absurd (storage_apart second (sym (ap (λ (x : Message). x.to) e) ∙ reaches.to))
        storage m (First (inr (inl e))) = λ reaches. absurd (storage_apart owner.0 (sym (ap (λ (x : Message). x.to) e) ∙ reaches.to))
        storage m (First (inr (inr nobody))) = absurd nobody
        storage m (Reaction from how) = λ reaches. absurd (storage_apart second (sym how.0 ∙ reaches.to))
        storage m (HandedOn how) = absurd how
        storage m (AnAnswer to target says) = λ reaches. absurd (no_answer_there lost t writing m reaches to)
