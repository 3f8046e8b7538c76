-- Storage gets a message while an operation is open: what its row of the message table must give so that the relation is
-- kept.
use Rattle.std.proofs.Common.{◌≡◌, ◌⊎◌, ◌+◌, ◌/◌, ◌<◌, ◌&&◌, ◌++◌, ◌∙◌, ℕ, Bool, List, None, Option, Some, ap, append-nil, cond, false, inl, inr, refl, slice_get, subst, sym, true}
use Rattle.std.specs.List.{AllByRecursion, list_any}
use Rattle.lego_msg.specs.Deliveries.{MayDeliver, is_waiting, taken}
use Rattle.lego_msg.specs.Maps.{owner_of, page_in}
use Rattle.lego_msg.specs.Places.{memory, same_place, secondary_of}
use Rattle.lego_msg.specs.State.{Disk, Mem}
use Rattle.lego_msg.specs.Track.{Track, healing_move, memory_count}
use Rattle.lego_msg.specs.declared.message.Message.{Message}
use Rattle.lego_msg.specs.declared.operation.Open.{Open}
use Rattle.lego_msg.specs.declared.place.Place.{Place}
use Rattle.lego_rest.specs.Answers.{all_pending, gave_answer, is_answer_from, is_storage_true, is_writing, second_due}
use Rattle.lego_rest.specs.Fits.{BatchFits, BlockFits, PagesFit, background}
use Rattle.lego_rest.specs.Heals.{HealFits}
use Rattle.lego_rest.specs.Parts.{Areas, Cell, Home, IsEither, Page, Sides, new_share, owns, second_part, sides_of}
use Rattle.lego_rest.specs.Pending.{IsUp, MayPend}
use Rattle.lego_rest.specs.Rest.{CurrentFits, Middle}
use Rattle.rest_laws.proofs.Delivered.{answers_at, gave_other, gave_then, left_of, some_waits}
use Rattle.rest_laws.proofs.Opened.{all_both}
use Rattle.rest_laws.proofs.Stepping.{storing-keeps}
use Rattle.rest_laws.proofs.Taken.{all_sent, all_taken, whole}
use Rattle.rest_laws.specs.Steps.{Moment, Storing}
use Rattle.lego_msg.specs.declared.place.Place.TheVariants as place

-- whether what is sent answers the open operation for storage
abbrev pub answers_now : Open → List Message → Bool
answers_now o out = list_any (is_answer_from o place.Storage) out

-- the track once storage, which is d then, got the message
abbrev pub filed_track : Track → Disk → List Message → Track
filed_track t d out = record (taken t) { disk = d; owed = out }

-- WHAT A ROW GIVES: storage becomes d, and sends `out`
pub record FileRow (lost : Option ℕ) (t : Track) (d : Disk) (out : List Message) : Type 0 where
  pub sends : AllByRecursion (MayPend lost (memory_count t.shape) t.plain t.current (healing_move t.healing) t.next) out
  pub from : AllByRecursion (λ (r : Message). r.from ≡ place.Storage) out
  -- the pages that a secondary x of j has with the images stay or become the new ones
  pub pages : (j : ℕ) (x : Mem) → j < memory_count t.shape → IsUp lost (secondary_of (memory_count t.shape) j) → slice_get t.mems (secondary_of (memory_count t.shape) j) ≡ Some x → (pid vpn : ℕ) →
      (second_part t.owners d.images j x (Page pid vpn) ≡ second_part t.owners t.disk.images j x (Page pid vpn)) ⊎ (second_part t.owners d.images j x (Page pid vpn) ≡ new_share (sides_of t) j (Page pid vpn))
  pub pages_told : is_writing t.current ≡ false → (is_storage_true (left_of t) t.healing t.current && gave_answer place.Storage (left_of t ++ out) t.current) ≡ true →
      ((is_storage_true t.net t.healing t.current && gave_answer place.Storage (all_pending t) t.current) ≡ true)
      ⊎ ((j : ℕ) (x : Mem) → j < memory_count t.shape → IsUp lost (secondary_of (memory_count t.shape) j) → slice_get t.mems (secondary_of (memory_count t.shape) j) ≡ Some x → (pid vpn : ℕ) → second_part t.owners d.images j x (Page pid vpn) ≡ new_share (sides_of t) j (Page pid vpn))
  -- and images of pages whose log is lost stay old or new
  pub bare : (j : ℕ) → j < memory_count t.shape → lost ≡ Some (secondary_of (memory_count t.shape) j) → (pid vpn : ℕ) → owns t.owners j pid (vpn / 512) ≡ true →
      IsEither (sides_of t) j (Page pid vpn) (page_in t.disk.images pid vpn) → IsEither (sides_of t) j (Page pid vpn) (page_in d.images pid vpn)
  pub background : (j : ℕ) → lost ≡ Some j → background j (left_of t ++ out) ≡ background j (all_pending t)
  pub batches : (m : ℕ) (s : Mem) → IsUp lost m → slice_get t.mems m ≡ Some s → BatchFits (left_of t ++ out) d.images s
  pub blocks : (m : ℕ) (s : Mem) → IsUp lost m → slice_get t.mems m ≡ Some s → AllByRecursion (BlockFits (memory_count t.shape) m d.files (left_of t ++ out)) s.blocks
  pub files : (d.files ≡ t.disk.files) ⊎ (d.files ≡ (sides_of t).new.files)
  pub told : answers_at place.Storage t.current out ≡ true → d.files ≡ (sides_of t).new.files
  pub images : (pid vpn : ℕ) → owner_of t.owners pid (vpn / 512) ≡ None → page_in d.images pid vpn ≡ None
  pub form : PagesFit d.images

-- an image that stays or becomes the new one stays old or new
pub stays_either : (b : Sides) (j pid vpn : ℕ) (before after : Option (List ℕ)) → owns b.owners j pid (vpn / 512) ≡ true → (after ≡ before) ⊎ (after ≡ b.new.page pid vpn) → IsEither b j (Page pid vpn) before → IsEither b j (Page pid vpn) after
stays_either b j pid vpn before after mine (inl same) (inl e) = inl (same ∙ e)
stays_either b j pid vpn before after mine (inl same) (inr e) = inr (same ∙ e)
stays_either b j pid vpn before after mine (inr new) was = inr (new ∙ sym (ap (λ (x : Bool). cond x (b.new.page pid vpn) None) mine))

abbrev pub FileGives : Option ℕ → Track → Open → Disk → List Message → Type 0
FileGives lost t o d out = FileRow lost (record t { current = Some o }) d out

module _ (lost : Option ℕ) (t : Track) (d : Disk) (m : Message) (out : List Message) (may : MayDeliver t m) (middle : Middle lost t) (gives : FileRow lost t d out) where
  abbrev file_moment : Moment
  file_moment = record {
    net = left_of t;
    owed = out;
    delivered = t.delivered + 1;
    next = t.next;
    current = t.current;
    healing = t.healing;
    clock = record t.clock { since = t.clock.since + 1 };
    stopped = t.stopped;
    caches = t.caches;
    due = t.due;
  }

  left : left_of t ≡ all_pending (taken t)
  left = sym (ap (λ (ms : List Message). left_of t ++ ms) may.owed ∙ append-nil (left_of t))

  pub filed_gave : (p : Place) → gave_answer p (left_of t ++ out) t.current ≡ true → (gave_answer p (all_pending t) t.current ≡ true) ⊎ (answers_at p t.current out ≡ true)
  filed_gave p e = gave_then t m may out t.current p e

  pub filed_other : (p : Place) → same_place p place.Storage ≡ false → gave_answer p (left_of t ++ out) t.current ≡ true → gave_answer p (all_pending t) t.current ≡ true
  filed_other p apart e = gave_other t m may place.Storage out gives.from t.current p (turned p apart) e
    where
      turned : (p : Place) → same_place p place.Storage ≡ false → same_place place.Storage p ≡ false
      turned (place.Processor cpu) e = refl
      turned (place.Memory k) e = refl
      turned place.Storage e = e
      turned place.Manager e = refl

  second_then : (j : ℕ) (x : Mem) → j < memory_count t.shape → IsUp lost (secondary_of (memory_count t.shape) j) → slice_get t.mems (secondary_of (memory_count t.shape) j) ≡ Some x → (c : Cell) → second_due (filed_track t d out) (secondary_of (memory_count t.shape) j) c ≡ true → (second_due t (secondary_of (memory_count t.shape) j) c ≡ true) ⊎ (second_part t.owners d.images j x c ≡ new_share (sides_of t) j c)
  second_then j x below up at (Home pid region) due = inl (filed_other (memory (secondary_of (memory_count t.shape) j)) refl due)
  second_then j x below up at (Areas pid region) due = inl (filed_other (memory (secondary_of (memory_count t.shape) j)) refl due)
  second_then j x below up at (Page pid vpn) due = by (is_writing t.current) refl due
    where
      by : (b : Bool) → is_writing t.current ≡ b → cond b (gave_answer (memory (secondary_of (memory_count t.shape) j)) (left_of t ++ out) t.current) (is_storage_true (left_of t) t.healing t.current && gave_answer place.Storage (left_of t ++ out) t.current) ≡ true → (cond b (gave_answer (memory (secondary_of (memory_count t.shape) j)) (all_pending t) t.current) (is_storage_true t.net t.healing t.current && gave_answer place.Storage (all_pending t) t.current) ≡ true) ⊎ (second_part t.owners d.images j x (Page pid vpn) ≡ new_share (sides_of t) j (Page pid vpn))
      by true write e = inl (filed_other (memory (secondary_of (memory_count t.shape) j)) refl e)
      by false write e = elim (gives.pages_told write e) [
        | inl before ↦ inl before
        | inr new ↦ inr (new j x below up at pid vpn)
      ]

  pend : AllByRecursion (MayPend lost (memory_count t.shape) t.plain t.current (healing_move t.healing) t.next) (left_of t)
  pend = subst (AllByRecursion (MayPend lost (memory_count t.shape) t.plain t.current (healing_move t.healing) t.next)) (sym left)
      (all_taken (MayPend lost (memory_count t.shape) t.plain t.current (healing_move t.healing) t.next) (all_pending t) (all_pending (taken t)) m (whole t m may) middle.pending).1

  current_goes : (c : Option Open) → is_waiting t.healing c ≡ true → CurrentFits t c → CurrentFits (filed_track t d out) c
  current_goes None waits fits = tt
  current_goes (Some o) waits fits = (fits.0, fits.1, inl (all_sent t m may o waits fits.2))

  pub filed_keeps : HealFits lost (filed_track t d out) t.healing → Middle lost (filed_track t d out)
  filed_keeps heal = storing-keeps lost t d file_moment storing middle
    where
      second : (j : ℕ) (x : Mem) → j < memory_count t.shape → IsUp lost (secondary_of (memory_count t.shape) j) → slice_get t.mems (secondary_of (memory_count t.shape) j) ≡ Some x → (c : Cell) → (second_part t.owners d.images j x c ≡ second_part t.owners t.disk.images j x c) ⊎ (second_part t.owners d.images j x c ≡ new_share (sides_of t) j c)
      second j x below up at (Home pid region) = inl refl
      second j x below up at (Areas pid region) = inl refl
      second j x below up at (Page pid vpn) = gives.pages j x below up at pid vpn

      storing : Storing lost t d file_moment
      storing = record {
        goes = record {
          plain = refl;
          next = middle.next;
          current = current_goes t.current may.waiting middle.current;
          pending = all_both (MayPend lost (memory_count t.shape) t.plain t.current (healing_move t.healing) t.next) (left_of t) out pend gives.sends;
          waiting = middle.waiting;
          healing = heal;
          idle = λ closed quiet. absurd (some_waits t m may closed quiet);
        };
        second = second;
        second_told = second_then;
        batches = gives.batches;
        blocks = gives.blocks;
        files = gives.files;
        told = λ e. elim (filed_gave place.Storage e) [
          | inl before ↦ inl before
          | inr now ↦ inr (gives.told now)
        ];
        images = gives.images;
        form = gives.form;
        answered = filed_other;
      }
