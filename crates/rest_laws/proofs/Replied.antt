-- Rows by which a memory answers at once, and neither its log nor its cached blocks change.
use Rattle.std.proofs.Common.{◌≡◌, ◌⊎◌, ◌<◌, ◌≤◌, ◌==◌, ◌&&◌, ◌||◌, [], ◌∷◌, ◌++◌, ◌∙◌, ℕ, Bool, List, None, Option, Some, ap, append-nil, false, inl, inr, length, refl, subst, sym, take, true}
use Rattle.std.specs.List.{AllByRecursion, list_any}
use Rattle.lego_base.specs.declared.records.PageImage.{PageImage}
use Rattle.lego_msg.specs.Operations.{is_write, patch_of}
use Rattle.lego_msg.specs.Places.{is_among, memory, same_place, secondary_of}
use Rattle.lego_msg.specs.State.{Block, Kept, Mem}
use Rattle.lego_msg.specs.Table.{reply}
use Rattle.lego_msg.specs.Track.{Track, healing_move, memory_count}
use Rattle.lego_msg.specs.declared.body.Body.{Body}
use Rattle.lego_msg.specs.declared.message.Message.{Message}
use Rattle.lego_msg.specs.declared.operation.Open.{Open}
use Rattle.lego_msg.specs.declared.place.Place.{Place}
use Rattle.lego_rest.specs.Answers.{all_pending, answers_to}
use Rattle.lego_rest.specs.Fits.{BatchFits, BlockFits, HasBatch, KeptFits, MemFits, PagesFit, background, batch_message, changes_block, receipt}
use Rattle.lego_rest.specs.Parts.{Areas, Cell, Home, Page, main_part, new_share, part_of, second_part, sides_of}
use Rattle.lego_rest.specs.Pending.{AnAnswer, IsAway, IsPlace, MayPend, OfOperation, Says}
use Rattle.rest_laws.proofs.Delivered.{RowGives, answers_for, left_of, of_first, speaks_of}
use Rattle.rest_laws.proofs.Meeting.{Met, met_background, met_below, met_fits, met_holds, met_id, met_pends, met_some}
use Rattle.rest_laws.proofs.Opened.{every}
use Rattle.rest_laws.proofs.Taken.{changes_less}
use Rattle.rest_laws.specs.Moves.{Moves}

-- the memory with what it keeps, and its pages
abbrev pub keeping : Mem → Kept → Kept → List PageImage → Mem
keeping s main spare pages = record s { main = main; spare = spare; pages = pages }

-- WHAT A ROW DOES TO THE CELLS of the memory, for its own sake and as a secondary
pub record Change (t : Track) (o : Open) (answers : Bool) (k : ℕ) (s s' : Mem) : Type 0 where
  pub main : Moves (main_part s) (main_part s') (new_share (sides_of (record t { current = Some o })) k)
  pub main_told : answers ≡ true → (c : Cell) → main_part s' c ≡ new_share (sides_of (record t { current = Some o })) k c
  pub second : (j : ℕ) → j < memory_count t.shape → secondary_of (memory_count t.shape) j ≡ k → Moves (second_part t.owners t.disk.images j s) (second_part t.owners t.disk.images j s') (new_share (sides_of (record t { current = Some o })) j)
  pub second_told : (j : ℕ) → j < memory_count t.shape → secondary_of (memory_count t.shape) j ≡ k → answers ≡ true → (c : Cell) → speaks_of (is_write o.operation) c ≡ true → second_part t.owners t.disk.images j s' c ≡ new_share (sides_of (record t { current = Some o })) j c

-- all cells are the new ones
pub all_new : (t : Track) (o : Open) (answers : Bool) (k : ℕ) (s : Mem) (main spare : Kept) (pages : List PageImage) →
    ((c : Cell) → part_of main pages c ≡ new_share (sides_of (record t { current = Some o })) k c) →
    ((j : ℕ) → j < memory_count t.shape → secondary_of (memory_count t.shape) j ≡ k → (c : Cell) → speaks_of (is_write o.operation) c ≡ true → second_part t.owners t.disk.images j (keeping s main spare pages) c ≡ new_share (sides_of (record t { current = Some o })) j c) →
    Change t o answers k s (keeping s main spare pages)
all_new t o answers k s main spare pages own seconds = record {
  main = λ c. inr (own c);
  main_told = λ now c. own c;
  second = second;
  second_told = λ j below is now c speaks. seconds j below is c speaks;
}
  where
    second : (j : ℕ) → j < memory_count t.shape → secondary_of (memory_count t.shape) j ≡ k → Moves (second_part t.owners t.disk.images j s) (second_part t.owners t.disk.images j (keeping s main spare pages)) (new_share (sides_of (record t { current = Some o })) j)
    second j below is (Home pid region) = inr (seconds j below is (Home pid region) refl)
    second j below is (Areas pid region) = inr (seconds j below is (Areas pid region) refl)
    second j below is (Page pid vpn) = inl refl

-- nothing changes, and what is sent is no answer
pub none_changes : (t : Track) (o : Open) (answers : Bool) (k : ℕ) (s : Mem) → answers ≡ false → Change t o answers k s s
none_changes t o answers k s none = record {
  main = λ c. inl refl;
  main_told = λ now. absurd (never now);
  second = λ j below is c. inl refl;
  second_told = λ j below is now. absurd (never now);
}
  where
    never : answers ≡ true → ⊥
    never now = let both : true ≡ false = sym now ∙ none in cc both

-- a batch is on its way as before, whatever else the memory keeps
pub batch_as_before : (before later : List Message) (images : List PageImage) (s : Mem) (main spare : Kept) (pages : List PageImage) → background s.id later ≡ background s.id before → BatchFits before images s → BatchFits later images (keeping s main spare pages)
batch_as_before before later images s main spare pages same fits = record { none = λ out. same ∙ fits.none out; once = λ some. by (fits.once some); within = fits.within; waits = fits.waits }
  where
    by : (background s.id before ≡ batch_message s ∷ []) ⊎ ((background s.id before ≡ receipt s ∷ []) × HasBatch images (take s.out s.log)) → (background s.id later ≡ batch_message s ∷ []) ⊎ ((background s.id later ≡ receipt s ∷ []) × HasBatch images (take s.out s.log))
    by (inl e) = inl (same ∙ e)
    by (inr e) = inr (same ∙ e.0, e.1)

module _ (lost : Option ℕ) (t : Track) (o : Open) (k : ℕ) (s : Mem) (m : Message) (met : Met lost t o k s m) where
  pub away_back : (r : Message) → r.from ≡ memory k → r.to ≡ m.from → IsAway lost r
  away_back r from to = by lost met.away
    where
      by : (lost : Option ℕ) → IsAway lost m → IsAway lost r
      by None away = tt
      by (Some c) away = (ap (λ (p : Place). same_place p (memory c)) (from ∙ sym met.to) ∙ away.1, ap (λ (p : Place). same_place p (memory c)) to ∙ away.0)

  -- the answer is one of the open operation's
  pub answer_pends : (told : Body) → m.from ≡ o.by → is_among (memory k) o.targets ≡ true → Says (memory_count t.shape) t.plain o.operation (memory k) told → MayPend lost (memory_count t.shape) t.plain (Some o) (healing_move t.healing) t.next (reply (memory s.id) m told)
  answer_pends told issued target says = record {
    from = subst (IsPlace (memory_count t.shape)) (sym (met_id lost t o k s m met)) (met_below lost t o k s m met);
    to = (met_pends lost t o k s m met).from;
    kind = OfOperation (
      met.number,
      away_back (reply (memory s.id) m told) (met_id lost t o k s m met) refl,
      AnAnswer issued (ap (λ (p : Place). is_among p o.targets) (met_id lost t o k s m met) ∙ target) (subst (λ (p : Place). Says (memory_count t.shape) t.plain o.operation p told) (sym (met_id lost t o k s m met)) says),
    );
  }

  -- cached blocks are the files' as before, where what is sent changes none
  pub blocks_as_before : (out : List Message) → ((b : Block) → list_any (λ (r : Message). changes_block b r.body) out ≡ false) → AllByRecursion (BlockFits (memory_count t.shape) k t.disk.files (left_of t ++ out)) s.blocks
  blocks_as_before out none = every (λ b fit. record {
    place = fit.place;
    below = fit.below;
    same = fit.same;
    still = of_first (λ (r : Message). changes_block b r.body) (left_of t) out (none b)
        ∙ ap (list_any (λ (r : Message). changes_block b r.body)) (sym (ap (λ (ms : List Message). left_of t ++ ms) met.may.owed ∙ append-nil (left_of t)))
        ∙ changes_less (record t { current = Some o }) m met.may b fit.still;
  }) s.blocks (met_holds lost t o k s m met).blocks

  pub replied : (main spare : Kept) (pages : List PageImage) (told : Body) → m.from ≡ o.by → is_among (memory k) o.targets ≡ true → Says (memory_count t.shape) t.plain o.operation (memory k) told → ((b : Block) → changes_block b told ≡ false) →
      KeptFits main → KeptFits spare → PagesFit pages → length pages ≤ s.frames → Change t o (answers_to (patch_of o.operation) told) k s (keeping s main spare pages) →
      RowGives lost t o k s (keeping s main spare pages) (reply (memory s.id) m told ∷ [])
  replied main spare pages told issued target says still main_fits spare_fits pages_fit frames change = record {
    fits = record {
      id = was.id;
      log_room = was.log_room;
      cache_room = was.cache_room;
      machine = was.machine;
      main = main_fits;
      spare = spare_fits;
      pages = pages_fit;
      frames = frames;
      log = was.log;
      room = was.room;
    };
    waiting = met.middle.waiting k s met.at;
    clear = met.middle.current.1 k s met.at;
    sends = (answer_pends told issued target says, tt);
    from = (met_id lost t o k s m met, tt);
    given = λ up. record {
      main = change.main;
      main_told = λ now. change.main_told (it_answers now);
      second = change.second;
      second_told = λ j below is now. change.second_told j below is (it_answers now);
      batch = batch_as_before (all_pending t) (left_of t ++ reply (memory s.id) m told ∷ []) t.disk.images s main spare pages (met_background lost t o k s m met (reply (memory s.id) m told) (met_some lost t o k s m met) s.id) (met_holds lost t o k s m met).batch;
      blocks = blocks_as_before (reply (memory s.id) m told ∷ []) (λ b. ap (λ (x : Bool). x || false) (still b));
      log = (met_holds lost t o k s m met).log;
    };
    others = λ j other. met_background lost t o k s m met (reply (memory s.id) m told) (met_some lost t o k s m met) j;
    changes = λ b other. ap (λ (x : Bool). x || false) (still b);
  }
    where
      was : MemFits t.shape k s
      was = met_fits lost t o k s m met

      it_answers : answers_for o k (reply (memory s.id) m told ∷ []) ≡ true → answers_to (patch_of o.operation) told ≡ true
      it_answers e = by (m.op.0 == o.number.0) (same_place (memory s.id) (memory k)) (same_place m.from o.by) (answers_to (patch_of o.operation) told) e
        where
          by : (a b c d : Bool) → ((a && b && c && d) || false) ≡ true → d ≡ true
          by a b c true e = refl
          by true true true false e = cc e
          by true true false false e = cc e
          by true false c false e = cc e
          by false b c false e = cc e
