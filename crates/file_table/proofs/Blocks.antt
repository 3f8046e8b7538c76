-- The blocks that the files need once one of them changed or is gone.
use Rattle.std.proofs.Common.{◌≡◌, ◌+◌, ◌-◌, ◌<◌, ◌≤◌, [], ◌∷◌, ◌++◌, ◌∙◌, ℕ, List, arith, false, length, refl, subst, sym, true}
use Rattle.std.proofs.lemmas.Bool.{le-leb, lt-leb}
use Rattle.lego_base.specs.Files.{File, blocks_needed, file_bytes, is_file, with_file_bytes, without_file}
use Rattle.lego_msg.specs.Files.{Files, is_room}
use Rattle.file_table.specs.Holds.{Holds}
use Rattle.file_table.specs.Numbers.{NumbersBelow, NumbersRise, blocks_for}
use Rattle.file_table.proofs.Numbered.{below_push, below_with, below_without, blocks_push, blocks_with, blocks_without}

-- a file needs no more than all of them
pub file_fits : (n : ℕ) (fs : List File) → NumbersRise fs → blocks_for (length (file_bytes fs n)) ≤ blocks_needed fs
file_fits n fs r = omega (arith, blocks_without n fs r)

-- the blocks once a file has other bytes
pub after_is : (n : ℕ) (b : List ℕ) (fs : List File) → NumbersRise fs → is_file fs n ≡ true →
    blocks_needed (with_file_bytes fs n b) ≡ blocks_needed fs - blocks_for (length (file_bytes fs n)) + blocks_for (length b)
after_is n b fs r there = omega (arith, blocks_with n b fs r there, file_fits n fs r)

-- one number for them
module _ (f : Files) (n : ℕ) (b : List ℕ) (needed size : ℕ) (r : NumbersRise f.files) (there : is_file f.files n ≡ true) (counted : needed ≡ blocks_needed f.files) (long : length b ≡ size) where
  now : blocks_needed (with_file_bytes f.files n b) ≡ needed - blocks_for (length (file_bytes f.files n)) + blocks_for size
  now = after_is n b f.files r there ∙ (λ i. sym counted i - blocks_for (length (file_bytes f.files n)) + blocks_for (long i))

  pub has_room : (after : ℕ) → after ≡ needed - blocks_for (length (file_bytes f.files n)) + blocks_for size → after ≤ f.blocks → is_room f (with_file_bytes f.files n b) ≡ true
  has_room after is few = le-leb (blocks_needed (with_file_bytes f.files n b)) f.blocks (subst (λ k. k ≤ f.blocks) (is ∙ sym now) few)

  pub has_none : f.blocks < needed - blocks_for (length (file_bytes f.files n)) + blocks_for size → is_room f (with_file_bytes f.files n b) ≡ false
  has_none many = lt-leb (blocks_needed (with_file_bytes f.files n b)) f.blocks (subst (λ k. f.blocks < k) (sym now) many)

  pub holds_after : (after : ℕ) → after ≡ needed - blocks_for (length (file_bytes f.files n)) + blocks_for size → after ≤ f.blocks → NumbersBelow f.next f.files →
      Holds f.blocks after f.next (with_file_bytes f.files n b)
  holds_after after is few new = record { counted = is ∙ sym now; within = few; new = below_with f.next n b f.files new }

-- a file that is gone
pub holds_without : (blocks needed next n : ℕ) (fs : List File) → NumbersRise fs → Holds blocks needed next fs → Holds blocks (needed - blocks_for (length (file_bytes fs n))) next (without_file n fs)
holds_without blocks needed next n fs r h =
    let c = h.counted in
    let w = h.within in
    record { counted = omega (arith, c, blocks_without n fs r); within = omega (arith, w); new = below_without next n fs h.new }

-- an empty file more
pub holds_more : (blocks needed next : ℕ) (fs : List File) → Holds blocks needed next fs → Holds blocks needed (next + 1) (fs ++ record { file = next; bytes = [] } ∷ [])
holds_more blocks needed next fs h = record {
  counted = h.counted ∙ sym (blocks_push fs next);
  within = h.within;
  new = below_push next fs (record { file = next; bytes = [] }) refl h.new;
}
