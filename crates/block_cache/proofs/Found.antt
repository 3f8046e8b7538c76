-- Blocks that are held are the files'.
use Rattle.std.proofs.Common.{◌≡◌, ◌&&◌, [], ◌∷◌, ◌∙◌, ℕ, Bool, List, None, Option, Some, cond, eqb, false, refl, suc, sym, take, true, zero}
use Rattle.std.specs.List.{AllByRecursion}
use Rattle.std.proofs.lemmas.Bool.{eqb-true}
use Rattle.lego_base.specs.Files.{File, file_bytes}
use Rattle.lego_msg.specs.Files.{block_of}
use Rattle.lego_msg.specs.State.{Block}
use Rattle.lego_msg.specs.Table.{block_in, is_block, without_block, without_blocks}
use Rattle.block_cache.specs.Cache.{first_where, with_first}
use Rattle.block_cache.specs.Laws.{ReadsAreTheFiles}

both : (a b : Bool) → (a && b) ≡ true → (a ≡ true) × (b ≡ true)
both true b e = (refl, e)
both false b e = cc e

module _ (files : List File) where
  abbrev Are : List Block → Type 0
  Are blocks = AllByRecursion (λ (b : Block). b.bytes ≡ block_of (file_bytes files b.file) b.block) blocks

  held : (file block : ℕ) (bytes : List ℕ) (blocks : List Block) → Are blocks → block_in file block blocks ≡ Some bytes → bytes ≡ block_of (file_bytes files file) block
  held file block bytes [] are found = cc found
  held file block bytes (b ∷ blocks) are found = by (is_block file block b) refl found (held file block bytes blocks are.1)
    where
      by : (x : Bool) → is_block file block b ≡ x → cond x (Some b.bytes) (block_in file block blocks) ≡ Some bytes → (block_in file block blocks ≡ Some bytes → bytes ≡ block_of (file_bytes files file) block) → bytes ≡ block_of (file_bytes files file) block
      by true is here rest =
          let two_ = both (eqb b.file file) (eqb b.block block) is in
          let same : b.bytes ≡ bytes = cc here in
          sym same ∙ (are.0 ∙ λ i. block_of (file_bytes files (eqb-true b.file file two_.0 i)) (eqb-true b.block block two_.1 i))
      by false other there rest = rest there

  without_one : (file block : ℕ) (blocks : List Block) → Are blocks → Are (without_block file block blocks)
  without_one file block [] are = tt
  without_one file block (b ∷ blocks) are = by (is_block file block b) (without_one file block blocks are.1)
    where
      by : (x : Bool) → Are (without_block file block blocks) → Are (cond x (without_block file block blocks) (b ∷ without_block file block blocks))
      by true rest = rest
      by false rest = (are.0, rest)

  without_all : (file : ℕ) (blocks : List Block) → Are blocks → Are (without_blocks file blocks)
  without_all file [] are = tt
  without_all file (b ∷ blocks) are = by (eqb b.file file) (without_all file blocks are.1)
    where
      by : (x : Bool) → Are (without_blocks file blocks) → Are (cond x (without_blocks file blocks) (b ∷ without_blocks file blocks))
      by true rest = rest
      by false rest = (are.0, rest)

  first_ones : (n : ℕ) (blocks : List Block) → Are blocks → Are (take n blocks)
  first_ones zero blocks are = tt
  first_ones (suc n) [] are = tt
  first_ones (suc n) (b ∷ blocks) are = (are.0, first_ones n blocks are.1)

  put_first : (room file block : ℕ) (bytes : List ℕ) (blocks : List Block) → bytes ≡ block_of (file_bytes files file) block → Are blocks → Are (with_first room file block bytes blocks)
  put_first room file block bytes blocks is are = first_ones room (record { file = file; block = block; bytes = bytes } ∷ without_block file block blocks) (is, without_one file block blocks are)

  touched_are : (room file block : ℕ) (blocks : List Block) → Are blocks → Are (first_where (block_in file block blocks) room file block blocks)
  touched_are room file block blocks are = by (block_in file block blocks) refl
    where
      by : (o : Option (List ℕ)) → block_in file block blocks ≡ o → Are (first_where o room file block blocks)
      by None absent = are
      by (Some bytes) found = put_first room file block bytes blocks (held file block bytes blocks are found) are

pub reads-are : ReadsAreTheFiles
reads-are = record {
  held = λ files c file block bytes are found. held files file block bytes c.blocks are found;
  used = λ files c file block are. touched_are files c.room file block c.blocks are;
  filled = λ files c file block are. put_first files c.room file block (block_of (file_bytes files file) block) c.blocks refl are;
  dropped = λ files c file block are. without_one files file block c.blocks are;
  dropped_file = λ files c file are. without_all files file c.blocks are;
}
