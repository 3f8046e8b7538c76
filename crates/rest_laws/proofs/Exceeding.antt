-- Why a memory refuses: it would hold too many pages of the plain map.
use Rattle.std.proofs.Common.{◌≡◌, ◌+◌, ◌/◌, ◌<◌, [], ◌∷◌, ◌∙◌, ℕ, Bool, List, None, Option, Some, ap, cond, false, inl, inr, is_some, length, refl, slice_get, subst, suc, sym, true, zero}
use Rattle.std.specs.List.{AllByRecursion}
use Rattle.keyed_list.proofs.Order.{same_self}
use Rattle.lego_base.specs.Keys.{Rises, find, same_key}
use Rattle.lego_base.specs.declared.ids.OpNo.{OpNo}
use Rattle.lego_base.specs.declared.records.HomeEntry.{HomeEntry}
use Rattle.lego_base.specs.declared.records.PageImage.{PageImage}
use Rattle.lego_msg.specs.Granted.{WriteFits}
use Rattle.lego_msg.specs.Maps.{copied_pages, image_bytes, page_in, page_key, patched}
use Rattle.lego_msg.specs.Operations.{asks_of, each_from, messages_of}
use Rattle.lego_msg.specs.Places.{memory}
use Rattle.lego_msg.specs.Plain.{Plain, effect, touched}
use Rattle.lego_msg.specs.State.{Mem}
use Rattle.lego_msg.specs.Track.{Track, memory_count}
use Rattle.lego_msg.specs.declared.body.Body.{Body}
use Rattle.lego_msg.specs.declared.message.Message.{Message}
use Rattle.lego_msg.specs.declared.operation.Open.{Open}
use Rattle.lego_msg.specs.declared.operation.Operation.{Operation}
use Rattle.lego_msg.specs.declared.operation.Operation.TheVariants as op
use Rattle.lego_msg.specs.declared.place.Place.{Place}
use Rattle.lego_rest.specs.Fits.{PagesFit}
use Rattle.lego_rest.specs.Parts.{Page, owns}
use Rattle.lego_rest.specs.Pending.{Among, HandsOn, IsUp, Reacts}
use Rattle.lego_rest.specs.Rest.{Middle}
use Rattle.rest_laws.proofs.Lookup.{page-patched}
use Rattle.rest_laws.proofs.Meeting.{memory_same}
use Rattle.rest_laws.proofs.Noted.{eqb_sym}
use Rattle.rest_laws.proofs.Opened.{all_among, every}
use Rattle.rest_laws.proofs.Refusing.{Exceeds}
use Rattle.rest_laws.proofs.kinds.Cells.{patched_fit}
use Rattle.rest_laws.proofs.kinds.Copied.{copied_fit, only_one, pages_copied_in}
use Rattle.rest_laws.proofs.kinds.Copies.{pages_new}
use Rattle.rest_laws.proofs.kinds.Writing.{laid_new, owned}
use Rattle.rest_laws.specs.Causes.{IsTooMuch}
use Rattle.lego_msg.specs.declared.body.Body.TheVariants as body

-- each entry of a rising list is found under its key
pub listed_found : (pages : List PageImage) → Rises page_key pages → AllByRecursion (λ (p : PageImage). page_in pages p.pid.0 p.vpn.0 ≡ Some p.bytes) pages
listed_found [] rise = tt
listed_found (x ∷ pages) rise = (ap (λ (b : Bool). image_bytes (cond b (Some x) (find page_key (page_key x) pages))) (same_self (page_key x)), every later pages (listed_found pages rise.1))
  where
    later : (p : PageImage) → page_in pages p.pid.0 p.vpn.0 ≡ Some p.bytes → page_in (x ∷ pages) p.pid.0 p.vpn.0 ≡ Some p.bytes
    later p found = by (same_key (page_key x) (page_key p)) refl
      where
        by : (b : Bool) → same_key (page_key x) (page_key p) ≡ b → image_bytes (cond b (Some x) (find page_key (page_key p) pages)) ≡ Some p.bytes
        by true same = let both : None ≡ Some p.bytes = sym (ap image_bytes (only_one x pages (page_key p) rise.0 rise.1 same)) ∙ found in cc both
        by false other = found

-- pages that are those of memory k in the plain map are too many where they are more than its frames
too_much : (owners : List HomeEntry) (g : Plain) (k frames : ℕ) (pages : List PageImage) → PagesFit pages → ((p v : ℕ) → page_in pages p v ≡ cond (owns owners k p (v / 512)) (g.page p v) None) → frames < length pages → IsTooMuch owners g k frames
too_much owners g k frames pages fits is more = record { pages = pages; rise = fits.rise; more = more; there = every each pages (listed_found pages fits.rise) }
  where
    each : (p : PageImage) → page_in pages p.pid.0 p.vpn.0 ≡ Some p.bytes → (owns owners k p.pid.0 (p.vpn.0 / 512) ≡ true) × (touched g p.pid.0 p.vpn.0 ≡ true)
    each p found = by (owns owners k p.pid.0 (p.vpn.0 / 512)) (g.page p.pid.0 p.vpn.0) refl (sym (is p.pid.0 p.vpn.0) ∙ found)
      where
        by : (b : Bool) (page : Option (List ℕ)) → g.page p.pid.0 p.vpn.0 ≡ page → cond b (g.page p.pid.0 p.vpn.0) None ≡ Some p.bytes → (b ≡ true) × (is_some (g.page p.pid.0 p.vpn.0) ≡ true)
        by true page e there = (refl, ap is_some there)
        by false page e there = cc there

-- NO OTHER MESSAGE to a memory makes it hold more pages
each_small : (s : Mem) (by : Place) (number : OpNo) (count k : ℕ) (what last : Body) → (Exceeds s what → ⊥) → (Exceeds s last → ⊥) → AllByRecursion (λ (x : Message). Exceeds s x.body → ⊥) (messages_of by number (each_from count k what last))
each_small s by number zero k what last one end = (end, tt)
each_small s by number (suc count) k what last one end = (one, each_small s by number count (k + 1) what last one end)

module _ (lost : Option ℕ) (t : Track) (one : Open) (k : ℕ) (s : Mem) (at : slice_get t.mems k ≡ Some s) (up : IsUp lost k) where
  -- a first message by which a memory would hold too much
  pub excess : (o : Operation) → Middle lost (record t { current = Some (record one { operation = o }) }) → (x : Message) → x.to ≡ memory k → Among x (messages_of one.by one.number (asks_of (memory_count t.shape) o)) → Exceeds s x.body → IsTooMuch t.owners (effect o t.plain) k s.frames
  excess (op.Finds pid region) middle x to among more = absurd (all_among (λ (y : Message). Exceeds s y.body → ⊥) (messages_of one.by one.number (asks_of (memory_count t.shape) (op.Finds pid region))) x among ((λ e. e), tt) more)
  excess (op.Reads pid line owner) middle x to among more = absurd (all_among (λ (y : Message). Exceeds s y.body → ⊥) (messages_of one.by one.number (asks_of (memory_count t.shape) (op.Reads pid line owner))) x among ((λ e. e), tt) more)
  excess (op.Writes origin patch owner) middle x to (inl e) more = absurd (subst (Exceeds s) (ap (λ (y : Message). y.body) e) more)
  excess (op.Writes origin patch owner) middle x to (inr (inl e)) more = subst (λ (j : ℕ). IsTooMuch t.owners (effect (op.Writes origin patch owner) t.plain) j s.frames) (sym here) (too_much t.owners (effect (op.Writes origin patch owner) t.plain) owner.0 s.frames (patched patch s.pages) (patched_fit patch s.pages fits.patch (middle.forms k s at).pages) page (subst (Exceeds s) (ap (λ (y : Message). y.body) e) more))
    where
      here : k ≡ owner.0
      here = memory_same k owner.0 (sym to ∙ ap (λ (y : Message). y.to) e)

      fits : WriteFits t.owners t.plain patch owner
      fits = middle.current.0.fits

      page : (p v : ℕ) → page_in (patched patch s.pages) p v ≡ cond (owns t.owners owner.0 p (v / 512)) ((effect (op.Writes origin patch owner) t.plain).page p v) None
      page p v = page-patched patch s.pages p v ∙ laid_new (memory_count t.shape) t.owners t.plain patch owner.0 p v (page_in s.pages p v) fits.patch middle.plain (owned lost t one origin patch owner fits middle.current.0.requests.1.0.there owner.0 p v refl) ((middle.memories owner.0 s (subst (IsUp lost) here up) (ap (slice_get t.mems) (sym here) ∙ at)).part.either (Page p v))
  excess (op.Writes origin patch owner) middle x to (inr (inr nobody)) more = absurd nobody
  excess (op.SetsHome pid region owner) middle x to among more = absurd (all_among (λ (y : Message). Exceeds s y.body → ⊥) (messages_of one.by one.number (asks_of (memory_count t.shape) (op.SetsHome pid region owner))) x among ((λ e. e), ((λ e. e), tt)) more)
  excess (op.SetsAreas pid region areas owner) middle x to among more = absurd (all_among (λ (y : Message). Exceeds s y.body → ⊥) (messages_of one.by one.number (asks_of (memory_count t.shape) (op.SetsAreas pid region areas owner))) x among ((λ e. e), ((λ e. e), tt)) more)
  excess (op.AsksAreas pid region owner) middle x to among more = absurd (all_among (λ (y : Message). Exceeds s y.body → ⊥) (messages_of one.by one.number (asks_of (memory_count t.shape) (op.AsksAreas pid region owner))) x among ((λ e. e), tt) more)
  excess (op.Drains mem) middle x to among more = absurd (all_among (λ (y : Message). Exceeds s y.body → ⊥) (messages_of one.by one.number (asks_of (memory_count t.shape) (op.Drains mem))) x among ((λ e. e), tt) more)
  excess (op.Unmaps pid region first pages areas owner) middle x to among more = absurd (all_among (λ (y : Message). Exceeds s y.body → ⊥) (messages_of one.by one.number (asks_of (memory_count t.shape) (op.Unmaps pid region first pages areas owner))) x among ((λ e. e), ((λ e. e), ((λ e. e), tt))) more)
  excess (op.Copies parent child regions owner) middle x to (inl e) more = absurd (subst (Exceeds s) (ap (λ (y : Message). y.body) e) more)
  excess (op.Copies parent child regions owner) middle x to (inr (inl e)) more = subst (λ (j : ℕ). IsTooMuch t.owners (effect (op.Copies parent child regions owner) t.plain) j s.frames) (sym here) (too_much t.owners (effect (op.Copies parent child regions owner) t.plain) owner.0 s.frames (copied_pages parent.0 child regions s.pages) (copied_fit parent.0 child regions s.pages (middle.forms k s at).pages) page (subst (Exceeds s) (ap (λ (y : Message). y.body) e) more))
    where
      here : k ≡ owner.0
      here = memory_same k owner.0 (sym to ∙ ap (λ (y : Message). y.to) e)

      page : (p v : ℕ) → page_in (copied_pages parent.0 child regions s.pages) p v ≡ cond (owns t.owners owner.0 p (v / 512)) ((effect (op.Copies parent child regions owner) t.plain).page p v) None
      page p v = pages_copied_in parent.0 child (eqb_sym child.0 parent.0 ∙ middle.current.0.fits.0.0) regions s.pages p v (middle.forms k s at).pages ∙ pages_new lost t one parent child regions owner middle.current.0.fits.0.0 middle.current.0.fits.1 middle.current.0.requests.1.0.there (page_in s.pages) (λ p v. (middle.memories owner.0 s (subst (IsUp lost) here up) (ap (slice_get t.mems) (sym here) ∙ at)).part.either (Page p v)) p v
  excess (op.Copies parent child regions owner) middle x to (inr (inr (inl e))) more = absurd (subst (Exceeds s) (ap (λ (y : Message). y.body) e) more)
  excess (op.Copies parent child regions owner) middle x to (inr (inr (inr nobody))) more = absurd nobody
  excess (op.Drops pid) middle x to among more = absurd (all_among (λ (y : Message). Exceeds s y.body → ⊥) (messages_of one.by one.number (asks_of (memory_count t.shape) (op.Drops pid))) x among (each_small s one.by one.number (memory_count t.shape) 0 (body.DropSpace pid) (body.ImageFree pid) (λ e. e) (λ e. e)) more)
  excess (op.ReadsFile file block off len) middle x to among more = absurd (all_among (λ (y : Message). Exceeds s y.body → ⊥) (messages_of one.by one.number (asks_of (memory_count t.shape) (op.ReadsFile file block off len))) x among ((λ e. e), tt) more)
  excess (op.WritesFile file block off bytes) middle x to among more = absurd (all_among (λ (y : Message). Exceeds s y.body → ⊥) (messages_of one.by one.number (asks_of (memory_count t.shape) (op.WritesFile file block off bytes))) x among ((λ e. e), tt) more)
  excess (op.CutsFile file size) middle x to among more = absurd (all_among (λ (y : Message). Exceeds s y.body → ⊥) (messages_of one.by one.number (asks_of (memory_count t.shape) (op.CutsFile file size))) x among ((λ e. e), tt) more)
  excess (op.AsksSize file) middle x to among more = absurd (all_among (λ (y : Message). Exceeds s y.body → ⊥) (messages_of one.by one.number (asks_of (memory_count t.shape) (op.AsksSize file))) x among ((λ e. e), tt) more)
  excess (op.GetsName name) middle x to among more = absurd (all_among (λ (y : Message). Exceeds s y.body → ⊥) (messages_of one.by one.number (asks_of (memory_count t.shape) (op.GetsName name))) x among ((λ e. e), tt) more)
  excess (op.MakesName name) middle x to among more = absurd (all_among (λ (y : Message). Exceeds s y.body → ⊥) (messages_of one.by one.number (asks_of (memory_count t.shape) (op.MakesName name))) x among ((λ e. e), tt) more)
  excess (op.CutsName name) middle x to among more = absurd (all_among (λ (y : Message). Exceeds s y.body → ⊥) (messages_of one.by one.number (asks_of (memory_count t.shape) (op.CutsName name))) x among ((λ e. e), tt) more)
  excess op.ListsNames middle x to among more = absurd (all_among (λ (y : Message). Exceeds s y.body → ⊥) (messages_of one.by one.number (asks_of (memory_count t.shape) op.ListsNames)) x among ((λ e. e), tt) more)
  excess (op.FreesFile file) middle x to among more = absurd (all_among (λ (y : Message). Exceeds s y.body → ⊥) (messages_of one.by one.number (asks_of (memory_count t.shape) (op.FreesFile file))) x among ((λ e. e), tt) more)
  excess (op.Heals to_ what_) middle x to among more = absurd middle.current.0.fits

-- nor does what is reacted with or handed on
pub reacted_small : (n : ℕ) (o : Operation) (to : Place) (told : Body) (s : Mem) → Reacts n o to told → Exceeds s told → ⊥
reacted_small n (op.Finds pid region) to told s how more = absurd how
reacted_small n (op.Reads pid line owner) to told s how more = absurd how
reacted_small n (op.Writes origin patch owner) to told s (where_, inl e) more = subst (Exceeds s) e more
reacted_small n (op.Writes origin patch owner) to told s (where_, inr (inl e)) more = subst (Exceeds s) e more
reacted_small n (op.Writes origin patch owner) to told s (where_, inr (inr nobody)) more = nobody
reacted_small n (op.SetsHome pid region owner) to told s how more = absurd how
reacted_small n (op.SetsAreas pid region areas owner) to told s how more = absurd how
reacted_small n (op.AsksAreas pid region owner) to told s how more = absurd how
reacted_small n (op.Drains mem) to told s how more = absurd how
reacted_small n (op.Unmaps pid region first pages areas owner) to told s how more = absurd how
reacted_small n (op.Copies parent child regions owner) to told s how more = absurd how
reacted_small n (op.Drops pid) to told s how more = absurd how
reacted_small n (op.ReadsFile file block off len) to told s how more = absurd how
reacted_small n (op.WritesFile file block off bytes) to told s how more = absurd how
reacted_small n (op.CutsFile file size) to told s how more = absurd how
reacted_small n (op.AsksSize file) to told s how more = absurd how
reacted_small n (op.GetsName name) to told s how more = absurd how
reacted_small n (op.MakesName name) to told s how more = absurd how
reacted_small n (op.CutsName name) to told s how more = absurd how
reacted_small n op.ListsNames to told s how more = absurd how
reacted_small n (op.FreesFile file) to told s how more = absurd how
reacted_small n (op.Heals to_ what_) to told s how more = absurd how

pub handed_small : (n : ℕ) (f : Plain) (by : Place) (o : Operation) (x : Message) (s : Mem) → HandsOn n f by o x → Exceeds s x.body → ⊥
handed_small n f by (op.Finds pid region) x s how more = absurd how
handed_small n f by (op.Reads pid line owner) x s how more = absurd how
handed_small n f by (op.Writes origin patch owner) x s how more = absurd how
handed_small n f by (op.SetsHome pid region owner) x s how more = absurd how
handed_small n f by (op.SetsAreas pid region areas owner) x s how more = absurd how
handed_small n f by (op.AsksAreas pid region owner) x s how more = absurd how
handed_small n f by (op.Drains mem) x s how more = absurd how
handed_small n f by (op.Unmaps pid region first pages areas owner) x s how more = absurd how
handed_small n f by (op.Copies parent child regions owner) x s how more = absurd how
handed_small n f by (op.Drops pid) x s how more = absurd how
handed_small n f by (op.ReadsFile file block off len) x s (inl how) more = subst (Exceeds s) how.2 more
handed_small n f by (op.ReadsFile file block off len) x s (inr how) more = subst (Exceeds s) how.2 more
handed_small n f by (op.WritesFile file block off bytes) x s how more = subst (Exceeds s) how.2 more
handed_small n f by (op.CutsFile file size) x s how more = subst (Exceeds s) how.2 more
handed_small n f by (op.AsksSize file) x s how more = absurd how
handed_small n f by (op.GetsName name) x s how more = absurd how
handed_small n f by (op.MakesName name) x s how more = absurd how
handed_small n f by (op.CutsName name) x s how more = absurd how
handed_small n f by op.ListsNames x s how more = absurd how
handed_small n f by (op.FreesFile file) x s how more = absurd how
handed_small n f by (op.Heals to_ what_) x s how more = absurd how
