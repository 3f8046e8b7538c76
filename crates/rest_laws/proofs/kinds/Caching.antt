-- Rows by which a memory's cached blocks change and one message is sent.
use Rattle.std.proofs.Common.{◌≡◌, ◌⊎◌, ◌<◌, ◌==◌, ◌||◌, [], ◌∷◌, ◌++◌, ◌∙◌, ℕ, Bool, List, Option, Some, ap, append-nil, cond, false, inl, refl, subst, suc, sym, take, true, zero}
use Rattle.std.proofs.lemmas.Bool.{eqb-true}
use Rattle.std.specs.List.{AllByRecursion, list_any}
use Rattle.lego_base.specs.declared.ids.OpNo.{OpNo}
use Rattle.lego_msg.specs.Operations.{is_write}
use Rattle.lego_msg.specs.Places.{cache_of, memory, secondary_of}
use Rattle.lego_msg.specs.State.{Block, Mem}
use Rattle.lego_msg.specs.Table.{block_in, is_block, without_block, without_blocks}
use Rattle.lego_msg.specs.Track.{Track, healing_move, memory_count}
use Rattle.lego_msg.specs.declared.message.Message.{Message}
use Rattle.lego_msg.specs.declared.operation.Open.{Open}
use Rattle.lego_rest.specs.Answers.{all_pending}
use Rattle.lego_rest.specs.Fits.{BatchFits, BlockFits, MemFits, changes_block}
use Rattle.lego_rest.specs.Parts.{Areas, Cell, Home, Page, new_share, second_part, sides_of}
use Rattle.lego_rest.specs.Pending.{MayPend}
use Rattle.rest_laws.proofs.Delivered.{RowGives, answers_for, left_of, of_first, speaks_of}
use Rattle.rest_laws.proofs.Meeting.{Met, met_background, met_fits, met_holds, met_some}
use Rattle.rest_laws.proofs.Replied.{Change, batch_as_before}
use Rattle.rest_laws.proofs.Taken.{changes_less}
use Rattle.rest_laws.proofs.Truth.{both_true}

-- the memory with other blocks
abbrev pub caching : Mem → List Block → Mem
caching s blocks = record s { blocks = blocks }

-- LISTS OF BLOCKS
pub all_first : {X : Type 0} (P : X → Type 0) (n : ℕ) (xs : List X) → AllByRecursion P xs → AllByRecursion P (take n xs)
all_first P zero [] all = tt
all_first P (suc n) [] all = tt
all_first P zero (x ∷ xs) all = tt
all_first P (suc n) (x ∷ xs) all = (all.0, all_first P n xs all.1)

-- the blocks that stay, with what is known of them: each is another block
pub all_without : (P : Block → Type 0) (file block : ℕ) (blocks : List Block) → AllByRecursion P blocks → AllByRecursion (λ (b : Block). P b × (is_block file block b ≡ false)) (without_block file block blocks)
all_without P file block [] all = tt
all_without P file block (b ∷ blocks) all = by (is_block file block b) refl (all_without P file block blocks all.1)
  where
    by : (x : Bool) → is_block file block b ≡ x → AllByRecursion (λ (b : Block). P b × (is_block file block b ≡ false)) (without_block file block blocks) → AllByRecursion (λ (b : Block). P b × (is_block file block b ≡ false)) (cond x (without_block file block blocks) (b ∷ without_block file block blocks))
    by true is rest = rest
    by false is rest = ((all.0, is), rest)

pub all_without_file : (P : Block → Type 0) (file : ℕ) (blocks : List Block) → AllByRecursion P blocks → AllByRecursion (λ (b : Block). P b × ((b.file == file) ≡ false)) (without_blocks file blocks)
all_without_file P file [] all = tt
all_without_file P file (b ∷ blocks) all = by (b.file == file) refl (all_without_file P file blocks all.1)
  where
    by : (x : Bool) → (b.file == file) ≡ x → AllByRecursion (λ (b : Block). P b × ((b.file == file) ≡ false)) (without_blocks file blocks) → AllByRecursion (λ (b : Block). P b × ((b.file == file) ≡ false)) (cond x (without_blocks file blocks) (b ∷ without_blocks file blocks))
    by true is rest = rest
    by false is rest = ((all.0, is), rest)

-- a block that is found is one of them
pub found_block : (P : Block → Type 0) (file block : ℕ) (blocks : List Block) (bytes : List ℕ) → block_in file block blocks ≡ Some bytes → AllByRecursion P blocks → P (record { file = file; block = block; bytes = bytes })
found_block P file block [] bytes is all = cc is
found_block P file block (b ∷ blocks) bytes is all = by (is_block file block b) refl is (λ e. found_block P file block blocks bytes e all.1)
  where
    same_some : (x y : List ℕ) → Some x ≡ Some y → x ≡ y
    same_some x y e = cc e

    by : (x : Bool) → is_block file block b ≡ x → cond x (Some b.bytes) (block_in file block blocks) ≡ Some bytes → (block_in file block blocks ≡ Some bytes → P (record { file = file; block = block; bytes = bytes })) → P (record { file = file; block = block; bytes = bytes })
    by true this is rest =
        let same = both_true (b.file == file) (b.block == block) this in
        subst P (λ i. record { file = eqb-true b.file file same.0 i; block = eqb-true b.block block same.1 i; bytes = same_some b.bytes bytes is i }) all.0
    by false other is rest = rest is

module _ (lost : Option ℕ) (t : Track) (o : Open) (k : ℕ) (s : Mem) (m : Message) (met : Met lost t o k s m) where
  -- a block is the file's as before, where the message that is sent doesn't change it
  pub block_goes : (r : Message) (b : Block) → changes_block b r.body ≡ false → BlockFits (memory_count t.shape) k t.disk.files (all_pending t) b → BlockFits (memory_count t.shape) k t.disk.files (left_of t ++ r ∷ []) b
  block_goes r b unchanged fit = record {
    place = fit.place;
    below = fit.below;
    same = fit.same;
    still = of_first (λ (x : Message). changes_block b x.body) (left_of t) (r ∷ []) (ap (λ (x : Bool). x || false) unchanged)
        ∙ ap (list_any (λ (x : Message). changes_block b x.body)) (sym (ap (λ (ms : List Message). left_of t ++ ms) met.may.owed ∙ append-nil (left_of t)))
        ∙ changes_less (record t { current = Some o }) m met.may b fit.still;
  }

  pub cached : (blocks : List Block) (r : Message) → MayPend lost (memory_count t.shape) t.plain (Some o) (healing_move t.healing) t.next r → r.from ≡ memory k → r.op ≡ m.op → ((b : Block) → (k ≡ cache_of (memory_count t.shape) b.file → ⊥) → changes_block b r.body ≡ false) →
      AllByRecursion (BlockFits (memory_count t.shape) k t.disk.files (left_of t ++ r ∷ [])) blocks → Change t o (answers_for o k (r ∷ [])) k s s →
      RowGives lost t o k s (caching s blocks) (r ∷ [])
  cached blocks r pends from number quiet fits change = record {
    fits = record {
      id = was.id;
      log_room = was.log_room;
      cache_room = was.cache_room;
      machine = was.machine;
      main = was.main;
      spare = was.spare;
      pages = was.pages;
      frames = was.frames;
      log = was.log;
      room = was.room;
    };
    waiting = met.middle.waiting k s met.at;
    clear = met.middle.current.1 k s met.at;
    sends = (pends, tt);
    from = (from, tt);
    given = λ up. record {
      main = λ c. inl refl;
      main_told = λ now c. change.main_told now c;
      second = seconds;
      second_told = told;
      batch = record { none = batch.none; once = batch.once; within = batch.within; waits = batch.waits };
      blocks = fits;
      log = (met_holds lost t o k s m met).log;
    };
    others = λ j other. met_background lost t o k s m met r some j;
    changes = λ b other. ap (λ (x : Bool). x || false) (quiet b other);
  }
    where
      was : MemFits t.shape k s
      was = met_fits lost t o k s m met

      some : 0 < r.op.0
      some = subst (λ (n : OpNo). 0 < n.0) (sym number) (met_some lost t o k s m met)

      batch : BatchFits (left_of t ++ r ∷ []) t.disk.images s
      batch = batch_as_before (all_pending t) (left_of t ++ r ∷ []) t.disk.images s s.main s.spare s.pages (met_background lost t o k s m met r some s.id) (met_holds lost t o k s m met).batch

      seconds : (j : ℕ) → j < memory_count t.shape → secondary_of (memory_count t.shape) j ≡ k → (c : Cell) → (second_part t.owners t.disk.images j (caching s blocks) c ≡ second_part t.owners t.disk.images j s c) ⊎ (second_part t.owners t.disk.images j (caching s blocks) c ≡ new_share (sides_of (record t { current = Some o })) j c)
      seconds j below is (Home p r) = inl refl
      seconds j below is (Areas p r) = inl refl
      seconds j below is (Page p v) = inl refl

      told : (j : ℕ) → j < memory_count t.shape → secondary_of (memory_count t.shape) j ≡ k → answers_for o k (r ∷ []) ≡ true → (c : Cell) → speaks_of (is_write o.operation) c ≡ true → second_part t.owners t.disk.images j (caching s blocks) c ≡ new_share (sides_of (record t { current = Some o })) j c
      told j below is now (Home p q) speaks = change.second_told j below is now (Home p q) speaks
      told j below is now (Areas p q) speaks = change.second_told j below is now (Areas p q) speaks
      told j below is now (Page p v) speaks = change.second_told j below is now (Page p v) speaks
