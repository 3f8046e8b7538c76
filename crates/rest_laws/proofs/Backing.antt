-- Batches and their receipts, whatever operation is open.
use Rattle.std.proofs.Common.{◌≡◌, ◌⊎◌, ◌/◌, ◌<◌, ◌==◌, ◌&&◌, ◌||◌, [], ◌∷◌, ◌++◌, ◌∙◌, ℕ, Bool, List, None, Option, Some, ap, append-nil, arith, cond, drop, eqb, false, inl, inr, length, not, refl, slice_get, subst, sym, take, true}
use Rattle.std.proofs.lemmas.Bool.{eq-eqb, eqb-true}
use Rattle.std.proofs.lemmas.Bool.Decides.{eqb_tells}
use Rattle.std.proofs.lemmas.List.Elements.{filter-append}
use Rattle.std.proofs.lemmas.List.{take-append-drop}
use Rattle.std.specs.List.{AllByRecursion, list_any}
use Rattle.lego_base.specs.declared.ids.MemId.{MemId}
use Rattle.lego_base.specs.declared.records.PageImage.{PageImage}
use Rattle.lego_base.specs.declared.records.Patch.{Patch}
use Rattle.lego_msg.specs.Deliveries.{MayDeliver, taken}
use Rattle.lego_msg.specs.Granted.{PatchFits}
use Rattle.lego_msg.specs.Maps.{overlaid, page_in}
use Rattle.lego_msg.specs.Operations.{patch_of}
use Rattle.lego_msg.specs.Places.{memory, same_place, secondary_of}
use Rattle.lego_msg.specs.State.{Mem}
use Rattle.lego_msg.specs.Track.{Track, has_answered, healing_move, memory_count}
use Rattle.lego_msg.specs.declared.message.Message.{Message}
use Rattle.lego_msg.specs.declared.operation.Open.{Open}
use Rattle.lego_msg.specs.declared.place.Place.{Place}
use Rattle.lego_rest.specs.Answers.{all_pending, answers_to, asks_storage_by, gave_answer, heals_target, is_answer_from, is_storage_true}
use Rattle.lego_rest.specs.Fits.{BatchFits, HasBatch, LogFits, MemFits, background, batch_message, changes_block, is_background, over, receipt}
use Rattle.lego_rest.specs.Parts.{Page, is_owner, owns, second_part, sides_of}
use Rattle.lego_rest.specs.Pending.{IsPlace, IsUp, MayPend, OfBackground, Returns}
use Rattle.lego_rest.specs.Rest.{CurrentFits, MemHolds, Middle}
use Rattle.rest_laws.proofs.Delivered.{answers_at, left_of, of_first}
use Rattle.rest_laws.proofs.Ended.{get_within}
use Rattle.rest_laws.proofs.Filed.{FileRow, stays_either}
use Rattle.rest_laws.proofs.Lookup.{page-overlaid}
use Rattle.rest_laws.proofs.Net.{background-taken}
use Rattle.rest_laws.proofs.Opened.{every}
use Rattle.rest_laws.proofs.Pages.{over_append, over_twice, touch_cases, untouched}
use Rattle.rest_laws.proofs.Taken.{all_taken, any_same, changes_less, split, whole}
use Rattle.rest_laws.proofs.Truth.{both_true, some_none}
use Rattle.rest_laws.proofs.kinds.Cells.{found_whole, overlaid_fit}
use Rattle.rest_laws.proofs.kinds.Images.{all_front}
use Rattle.rest_laws.specs.Nets.{Split}
use Rattle.lego_msg.specs.declared.body.Body.TheVariants as body
use Rattle.lego_msg.specs.declared.place.Place.TheVariants as place

-- the only background message of a memory is the one that is delivered
pub only_one : (k : ℕ) (net net' : List Message) (m x : Message) → Split net net' m → is_background k m ≡ true → background k net ≡ x ∷ [] → m ≡ x
only_one k net net' m x split is one = by (background k split.front) (sym (ap (background k) split.whole ∙ filter-append (is_background k) split.front (m ∷ split.back) ∙ ap (λ (b : Bool). background k split.front ++ cond b (m ∷ background k split.back) (background k split.back)) is) ∙ one)
  where
    by : (front : List Message) → front ++ m ∷ background k split.back ≡ x ∷ [] → m ≡ x
    by [] e = cc e
    by (y ∷ []) e = cc e
    by (y ∷ z ∷ front) e = cc e

pub not_none : (k : ℕ) (net net' : List Message) (m : Message) → Split net net' m → is_background k m ≡ true → background k net ≡ [] → ⊥
not_none k net net' m split is none = by (background k split.front) (sym (ap (background k) split.whole ∙ filter-append (is_background k) split.front (m ∷ split.back) ∙ ap (λ (b : Bool). background k split.front ++ cond b (m ∷ background k split.back) (background k split.back)) is) ∙ none)
  where
    by : (front : List Message) → front ++ m ∷ background k split.back ≡ [] → ⊥
    by [] e = cc e
    by (y ∷ front) e = cc e

-- A BATCH REACHES STORAGE
module _ (lost : Option ℕ) (t : Track) (m : Message) (k : ℕ) (patches : List Patch) (may : MayDeliver t m) (middle : Middle lost t) (number : m.op.0 ≡ 0) (up : IsUp lost k) (from : m.from ≡ memory k) (to : m.to ≡ place.Storage) (what : m.body ≡ body.Backup patches) where
  pends : MayPend lost (memory_count t.shape) t.plain t.current (healing_move t.healing) t.next m
  pends = (all_taken (MayPend lost (memory_count t.shape) t.plain t.current (healing_move t.healing) t.next) (all_pending t) (all_pending (taken t)) m (whole t m may) middle.pending).0

  below : k < memory_count t.shape
  below = subst (IsPlace (memory_count t.shape)) from pends.from

  pub there : (x : Mem) × (slice_get t.mems k ≡ Some x)
  there = let count = middle.count in get_within t.mems k (omega (arith, below, count))

  abbrev x : Mem
  x = there.0

  holds : MemHolds t k there.0
  holds = middle.memories k there.0 up there.1

  fits : MemFits t.shape k there.0
  fits = middle.forms k there.0 there.1

  own : is_background there.0.id m ≡ true
  own = both (m.op.0 == 0) (same_place m.from (memory there.0.id)) (same_place m.to (memory there.0.id)) (eq-eqb m.op.0 0 number) (ap (λ (p : Place). same_place p (memory there.0.id)) from ∙ eq-eqb k there.0.id (sym fits.id))
    where
      both : (a b c : Bool) → a ≡ true → b ≡ true → (a && (b || c)) ≡ true
      both true true c e f = refl
      both true false c e f = cc f
      both false b c e f = cc e

  -- it is the memory's batch that is out
  is_batch : (m ≡ batch_message there.0) × (0 < there.0.out) × (background there.0.id (all_pending t) ≡ batch_message there.0 ∷ [])
  is_batch = elim (eqb_tells there.0.out 0) [
    | inl none ↦ absurd (not_none there.0.id (all_pending t) (all_pending (taken t)) m (whole t m may) own (holds.batch.none none.1))
    | inr some ↦ let differ = some.1 in let out : 0 < there.0.out = omega (arith, differ) in by out (holds.batch.once out)
  ]
    where
      by : 0 < there.0.out → (background there.0.id (all_pending t) ≡ batch_message there.0 ∷ []) ⊎ ((background there.0.id (all_pending t) ≡ receipt there.0 ∷ []) × HasBatch t.disk.images (take there.0.out there.0.log)) → (m ≡ batch_message there.0) × (0 < there.0.out) × (background there.0.id (all_pending t) ≡ batch_message there.0 ∷ [])
      by out (inl e) = (only_one there.0.id (all_pending t) (all_pending (taken t)) m (batch_message there.0) (whole t m may) own e, out, e)
      by out (inr e) = absurd (apart (sym what ∙ ap (λ (y : Message). y.body) (only_one there.0.id (all_pending t) (all_pending (taken t)) m (receipt there.0) (whole t m may) own e.0)))
        where
          apart : body.Backup patches ≡ body.BackedUp → ⊥
          apart e = cc e

  pub batch : patches ≡ take there.0.out there.0.log
  batch = same patches (take there.0.out there.0.log) (sym what ∙ ap (λ (y : Message). y.body) is_batch.0)
    where
      same : (a b : List Patch) → body.Backup a ≡ body.Backup b → a ≡ b
      same a b e = cc e

  pub patches_fit : AllByRecursion PatchFits patches
  patches_fit = subst (AllByRecursion PatchFits) (sym batch) (all_front PatchFits there.0.out there.0.log fits.log)

  pub patches_log : AllByRecursion (LogFits (memory_count t.shape) t.owners k) patches
  patches_log = subst (AllByRecursion (LogFits (memory_count t.shape) t.owners k)) (sym batch) (all_front (LogFits (memory_count t.shape) t.owners k) there.0.out there.0.log holds.log)

  image_whole : (pid vpn : ℕ) (bytes : List ℕ) → page_in t.disk.images pid vpn ≡ Some bytes → length bytes ≡ 4096
  image_whole pid vpn bytes is = found_whole t.disk.images pid vpn middle.disk.form.whole bytes is

  -- the receipt
  abbrev receipt_of : Message
  receipt_of = record { from = place.Storage; to = m.from; op = m.op; body = body.BackedUp }

  abbrev after : List PageImage
  after = overlaid patches t.disk.images

  left : left_of t ≡ all_pending (taken t)
  left = sym (ap (λ (ms : List Message). left_of t ++ ms) may.owed ∙ append-nil (left_of t))

  -- nothing of another memory changes
  other_memory : (j : ℕ) → (k ≡ j → ⊥) → (is_background j m ≡ false) × (is_background j receipt_of ≡ false)
  other_memory j differ = (
    two_ (m.op.0 == 0) (same_place m.from (memory j)) (same_place m.to (memory j)) apart (ap (λ (p : Place). same_place p (memory j)) to),
    two_ (m.op.0 == 0) false (same_place m.from (memory j)) refl apart,
  )
    where
      apart : same_place m.from (memory j) ≡ false
      apart = ap (λ (p : Place). same_place p (memory j)) from ∙ (elim (eqb_tells k j) [
        | inl same ↦ absurd (differ same.1)
        | inr other ↦ other.0
      ])

      two_ : (a b c : Bool) → b ≡ false → c ≡ false → (a && (b || c)) ≡ false
      two_ true true c e f = cc e
      two_ true false c e f = f
      two_ false b c e f = refl

  background_of : (j : ℕ) → (k ≡ j → ⊥) → background j (left_of t ++ receipt_of ∷ []) ≡ background j (all_pending t)
  background_of j differ =
      filter-append (is_background j) (left_of t) (receipt_of ∷ []) ∙ ap (λ (b : Bool). background j (left_of t) ++ cond b (receipt_of ∷ []) []) (other_memory j differ).1
      ∙ append-nil (background j (left_of t)) ∙ ap (background j) left ∙ (background-taken j (all_pending t) (all_pending (taken t)) m (whole t m may)).0 (other_memory j differ).0

  own_receipt : receipt_of ≡ receipt there.0
  own_receipt = λ i. record { from = place.Storage; to = (from ∙ ap memory (sym fits.id)) i; op = record { 0 = number i }; body = body.BackedUp }

  background_own : background there.0.id (left_of t ++ receipt_of ∷ []) ≡ receipt there.0 ∷ []
  background_own =
      filter-append (is_background there.0.id) (left_of t) (receipt_of ∷ [])
      ∙ ap (λ (b : Bool). background there.0.id (left_of t) ++ cond b (receipt_of ∷ []) []) mine
      ∙ ap (λ (l : List Message). l ++ receipt_of ∷ []) (ap (background there.0.id) left ∙ (background-taken there.0.id (all_pending t) (all_pending (taken t)) m (whole t m may)).1 own (ap length is_batch.2))
      ∙ ap (λ (r : Message). r ∷ []) own_receipt
    where
      mine : is_background there.0.id receipt_of ≡ true
      mine = both (m.op.0 == 0) (same_place m.from (memory there.0.id)) (eq-eqb m.op.0 0 number) (ap (λ (p : Place). same_place p (memory there.0.id)) from ∙ eq-eqb k there.0.id (sym fits.id))
        where
          both : (a c : Bool) → a ≡ true → c ≡ true → (a && (false || c)) ≡ true
          both true true e f = refl
          both true false e f = cc f
          both false c e f = cc e

  -- a page under another memory's log isn't touched by this batch
  other_log : (j : ℕ) (log : List Patch) (pid vpn : ℕ) → (k ≡ j → ⊥) → AllByRecursion (LogFits (memory_count t.shape) t.owners j) log → AllByRecursion (λ (p : Patch). (p.pid.0 == pid && p.vpn.0 == vpn) ≡ false) patches ⊎ AllByRecursion (λ (p : Patch). (p.pid.0 == pid && p.vpn.0 == vpn) ≡ false) log
  other_log j log pid vpn differ log_fits = elim (touch_cases (memory_count t.shape) k t.owners pid vpn patches patches_log) [
    | inl none ↦ inl none
    | inr mine ↦
        elim (touch_cases (memory_count t.shape) j t.owners pid vpn log log_fits) [
          | inl none ↦ inr none
          | inr its ↦
              let same : Some mine.0 ≡ Some its.0 = sym mine.1 ∙ its.1 in
              absurd (differ (sym mine.2 ∙ ap (λ (q : MemId). secondary_of (memory_count t.shape) q.0) (same_some mine.0 its.0 same) ∙ its.2))
        ]
  ]
    where
      same_some : (a b : MemId) → Some a ≡ Some b → a ≡ b
      same_some a b e = cc e

  pub page_after : (pid vpn : ℕ) → page_in after pid vpn ≡ over patches pid vpn (page_in t.disk.images pid vpn)
  page_after pid vpn = page-overlaid patches t.disk.images pid vpn

  batch_after : (j : ℕ) (s : Mem) → IsUp lost j → slice_get t.mems j ≡ Some s → BatchFits (left_of t ++ receipt_of ∷ []) after s
  batch_after j s up_j at = elim (eqb_tells k j) [
    | inl same ↦ subst (BatchFits (left_of t ++ receipt_of ∷ []) after) (one there.0 s (sym there.1 ∙ ap (slice_get t.mems) same.1 ∙ at)) (record {
      none = λ out. let some = is_batch.1 in absurd (omega (arith, out, some));
      once = λ some. inr (background_own, λ pid vpn. ap (over (take there.0.out there.0.log) pid vpn) (page_after pid vpn) ∙ ap (λ (ps : List Patch). over ps pid vpn (over patches pid vpn (page_in t.disk.images pid vpn))) (sym batch) ∙ over_twice patches pid vpn (page_in t.disk.images pid vpn) patches_fit (image_whole pid vpn) ∙ sym (page_after pid vpn));
      within = holds.batch.within;
      waits = holds.batch.waits;
    })
    | inr differ ↦
        let was = (middle.memories j s up_j at) in
        let id : s.id ≡ j = (middle.forms j s at).id in
        let same : background s.id (left_of t ++ receipt_of ∷ []) ≡ background s.id (all_pending t) = background_of s.id (λ e. differ.1 (e ∙ id)) in
        record {
          none = λ out. same ∙ was.batch.none out;
          once = λ some. still s j differ.1 was.log same (was.batch.once some);
          within = was.batch.within;
          waits = was.batch.waits;
        }
  ]
    where
      one : (a b : Mem) → Some a ≡ Some b → a ≡ b
      one a b e = cc e

      still : (s : Mem) (j : ℕ) → (k ≡ j → ⊥) → AllByRecursion (LogFits (memory_count t.shape) t.owners j) s.log → background s.id (left_of t ++ receipt_of ∷ []) ≡ background s.id (all_pending t) → (background s.id (all_pending t) ≡ batch_message s ∷ []) ⊎ ((background s.id (all_pending t) ≡ receipt s ∷ []) × HasBatch t.disk.images (take s.out s.log)) → (background s.id (left_of t ++ receipt_of ∷ []) ≡ batch_message s ∷ []) ⊎ ((background s.id (left_of t ++ receipt_of ∷ []) ≡ receipt s ∷ []) × HasBatch after (take s.out s.log))
      still s j differ log_fits same (inl e) = inl (same ∙ e)
      still s j differ log_fits same (inr e) = inr (same ∙ e.0, has)
        where
          has : HasBatch after (take s.out s.log)
          has pid vpn = elim (other_log j (take s.out s.log) pid vpn differ (all_front (LogFits (memory_count t.shape) t.owners j) s.out s.log log_fits)) [
            | inl none ↦
                let stays : page_in after pid vpn ≡ page_in t.disk.images pid vpn = page_after pid vpn ∙ untouched patches pid vpn (page_in t.disk.images pid vpn) none in
                ap (over (take s.out s.log) pid vpn) stays ∙ e.1 pid vpn ∙ sym stays
            | inr none ↦ untouched (take s.out s.log) pid vpn (page_in after pid vpn) none
          ]

  -- what a secondary has with the images stays
  pages_stay : (j : ℕ) (s : Mem) → j < memory_count t.shape → IsUp lost (secondary_of (memory_count t.shape) j) → slice_get t.mems (secondary_of (memory_count t.shape) j) ≡ Some s → (pid vpn : ℕ) → second_part t.owners after j s (Page pid vpn) ≡ second_part t.owners t.disk.images j s (Page pid vpn)
  pages_stay j s less up_j at pid vpn = by (owns t.owners j pid (vpn / 512)) refl
    where
      unfolded : (page_in (overlaid s.log after) pid vpn ≡ over s.log pid vpn (over patches pid vpn (page_in t.disk.images pid vpn))) × (page_in (overlaid s.log t.disk.images) pid vpn ≡ over s.log pid vpn (page_in t.disk.images pid vpn))
      unfolded = (page-overlaid s.log after pid vpn ∙ ap (over s.log pid vpn) (page_after pid vpn), page-overlaid s.log t.disk.images pid vpn)

      one : (a b : Mem) → Some a ≡ Some b → a ≡ b
      one a b e = cc e

      -- the log with its own first part already laid: laying that part once more changes nothing
      own_log : over there.0.log pid vpn (over patches pid vpn (page_in t.disk.images pid vpn)) ≡ over there.0.log pid vpn (page_in t.disk.images pid vpn)
      own_log =
          ap (λ (ps : List Patch). over ps pid vpn (over patches pid vpn (page_in t.disk.images pid vpn))) (sym parts)
          ∙ over_append patches (drop there.0.out there.0.log) pid vpn (over patches pid vpn (page_in t.disk.images pid vpn))
          ∙ ap (over (drop there.0.out there.0.log) pid vpn) (over_twice patches pid vpn (page_in t.disk.images pid vpn) patches_fit (image_whole pid vpn))
          ∙ sym (over_append patches (drop there.0.out there.0.log) pid vpn (page_in t.disk.images pid vpn)) ∙ ap (λ (ps : List Patch). over ps pid vpn (page_in t.disk.images pid vpn)) parts
        where
          parts : patches ++ drop there.0.out there.0.log ≡ there.0.log
          parts = ap (λ (ps : List Patch). ps ++ drop there.0.out there.0.log) batch ∙ take-append-drop there.0.out there.0.log

      by : (b : Bool) → owns t.owners j pid (vpn / 512) ≡ b → cond b (page_in (overlaid s.log after) pid vpn) None ≡ cond b (page_in (overlaid s.log t.disk.images) pid vpn) None
      by false e = refl
      by true e = unfolded.0 ∙ inside ∙ sym unfolded.1
        where
          inside : over s.log pid vpn (over patches pid vpn (page_in t.disk.images pid vpn)) ≡ over s.log pid vpn (page_in t.disk.images pid vpn)
          inside = elim (eqb_tells k (secondary_of (memory_count t.shape) j)) [
            | inl same ↦ subst (λ (y : Mem). over y.log pid vpn (over patches pid vpn (page_in t.disk.images pid vpn)) ≡ over y.log pid vpn (page_in t.disk.images pid vpn)) (one there.0 s (sym there.1 ∙ ap (slice_get t.mems) same.1 ∙ at)) own_log
            | inr differ ↦
                elim (touch_cases (memory_count t.shape) k t.owners pid vpn patches patches_log) [
                  | inl none ↦ ap (over s.log pid vpn) (untouched patches pid vpn (page_in t.disk.images pid vpn) none)
                  | inr mine ↦
                      let owner : eqb mine.0.0 j ≡ true = sym (ap (is_owner j) mine.1) ∙ e in
                      absurd (differ.1 (sym mine.2 ∙ ap (secondary_of (memory_count t.shape)) (eqb-true mine.0.0 j owner)))
                ]
          ]

  pub backup_gives : FileRow lost t (record { images = overlaid patches t.disk.images; files = t.disk.files }) (record { from = place.Storage; to = m.from; op = m.op; body = body.BackedUp } ∷ [])
  backup_gives = record {
    sends = (record { from = tt; to = pends.from; kind = OfBackground (record { number = number; of = k; up = up; batch = Returns refl from refl }) }, tt);
    from = (refl, tt);
    pages = λ j s less up_j at pid vpn. inl (pages_stay j s less up_j at pid vpn);
    pages_told = λ unwritten due. inl (told t.current middle.current due);
    bare = λ j less is pid vpn mine. stays_either (sides_of t) j pid vpn (page_in t.disk.images pid vpn) (page_in after pid vpn) mine (inl (page_after pid vpn ∙ (elim (touch_cases (memory_count t.shape) k t.owners pid vpn patches patches_log) [
      | inl quiet ↦ untouched patches pid vpn (page_in t.disk.images pid vpn) quiet
      | inr its ↦
          let owner : eqb its.0.0 j ≡ true = sym (ap (is_owner j) its.1) ∙ mine in
          absurd (lost_up lost up (is ∙ ap (λ (q : ℕ). Some (secondary_of (memory_count t.shape) q)) (sym (eqb-true its.0.0 j owner)) ∙ ap (λ (q : ℕ). Some q) its.2))
    ])));
    background = λ j is. background_of j (λ same. lost_up lost up (is ∙ ap (λ (q : ℕ). Some q) (sym same)));
    batches = batch_after;
    blocks = λ j s up_j at. every (λ b fit. record {
      place = fit.place;
      below = fit.below;
      same = fit.same;
      still = of_first (λ (y : Message). changes_block b y.body) (left_of t) (receipt_of ∷ []) refl
          ∙ ap (list_any (λ (y : Message). changes_block b y.body)) left
          ∙ changes_less t m may b fit.still;
    }) s.blocks (middle.memories j s up_j at).blocks;
    files = inl refl;
    told = λ now. absurd (no_answer now);
    images = λ pid vpn none. page_after pid vpn ∙ (elim (touch_cases (memory_count t.shape) k t.owners pid vpn patches patches_log) [
      | inl quiet ↦ untouched patches pid vpn (page_in t.disk.images pid vpn) quiet ∙ middle.disk.images pid vpn none
      | inr mine ↦ absurd (some_none mine.0 (sym mine.1 ∙ none))
    ]);
    form = overlaid_fit patches t.disk.images patches_fit middle.disk.form;
  }
    where
      lost_up : (lost : Option ℕ) → IsUp lost k → lost ≡ Some k → ⊥
      lost_up None up e = cc e
      lost_up (Some c) up e = up (one_number c k e)
        where
          one_number : (a b : ℕ) → Some a ≡ Some b → a ≡ b
          one_number a b e = cc e

      -- numbers of operations are positive
      no_number : (o : Open) → CurrentFits t (Some o) → (r : Message) → r.op.0 ≡ 0 → (r.op.0 == o.number.0) ≡ false
      no_number o fits r zero_ = elim (eqb_tells r.op.0 o.number.0) [
        | inl same ↦ let is = same.1 in let some = fits.0.some in absurd (omega (arith, is, zero_, some))
        | inr other ↦ other.0
      ]

      quiet : (c : Option Open) → CurrentFits t c → answers_at place.Storage c (receipt_of ∷ []) ≡ false
      quiet None fits = refl
      quiet (Some o) fits = ap (λ (b : Bool). (b && same_place place.Storage place.Storage && same_place m.from o.by && answers_to (patch_of o.operation) body.BackedUp) || false) (no_number o fits receipt_of number)

      no_answer : answers_at place.Storage t.current (receipt_of ∷ []) ≡ true → ⊥
      no_answer now = let both : false ≡ true = sym (quiet t.current middle.current) ∙ now in cc both

      -- whether storage was asked, and has answered, is as before
      told : (c : Option Open) → CurrentFits t c → (is_storage_true (left_of t) t.healing c && gave_answer place.Storage (left_of t ++ receipt_of ∷ []) c) ≡ true → (is_storage_true t.net t.healing c && gave_answer place.Storage (all_pending t) c) ≡ true
      told None fits due = due
      told (Some o) fits due =
          let both = both_true (is_storage_true (left_of t) t.healing (Some o)) (gave_answer place.Storage (left_of t ++ receipt_of ∷ []) (Some o)) due in
          (λ i. storage i && gave_answer place.Storage (all_pending t) (Some o)) ∙ ap (λ (b : Bool). b && gave_answer place.Storage (all_pending t) (Some o)) both.0 ∙ gave both.1
        where
          storage : is_storage_true t.net t.healing (Some o) ≡ is_storage_true (left_of t) t.healing (Some o)
          storage = ap (λ (b : Bool). not (heals_target t.healing (Some o)) && not (list_any (asks_storage_by o.number.0) o.unsent || b)) (any_same (asks_storage_by o.number.0) t.net (left_of t) m (split t m may) (ap (λ (b : Bool). b && same_place m.to place.Storage) (no_number o fits m number)))

          gave : gave_answer place.Storage (left_of t ++ receipt_of ∷ []) (Some o) ≡ true → gave_answer place.Storage (all_pending t) (Some o) ≡ true
          gave e = ap (λ (b : Bool). has_answered place.Storage o.answers || b) (any_same (is_answer_from o place.Storage) (all_pending t) (all_pending (taken t)) m (whole t m may) (ap (λ (b : Bool). b && same_place m.from place.Storage && same_place m.to o.by && answers_to (patch_of o.operation) m.body) (no_number o fits m number)) ∙ ap (list_any (is_answer_from o place.Storage)) (sym left) ∙ sym (of_first (is_answer_from o place.Storage) (left_of t) (receipt_of ∷ []) (ap (λ (b : Bool). (b && same_place place.Storage place.Storage && same_place m.from o.by && answers_to (patch_of o.operation) body.BackedUp) || false) (no_number o fits receipt_of number)))) ∙ e
