-- What a place in a list that rises has to do with a key: the item with the key is there, or it would go there.
use Rattle.std.specs.Prelude.{◌≡◌, ◌+◌, ◌++◌, ◌<◌, ◌≤◌, ℕ, List, None, Some, drop, length, slice_index_or, slice_set, take}
use Rattle.std.specs.List.{insert, remove}
use Rattle.lego_base.specs.Keys.{Key, find, put, same_key, those, without}
use Rattle.keyed_list.specs.Below.{count_below, is_within}

pub record IsAt {X : Type 0} (key : X → Key) (k : Key) (xs : List X) (place : ℕ) : Type 0 where
  pub is : place ≡ count_below key k xs
  pub within : place < length xs
  pub found : (d : X) → find key k xs ≡ Some (slice_index_or xs place d)
  pub replaced : (x : X) → key x ≡ k → put key x xs ≡ slice_set xs place x
  pub removed : without key (λ (q : Key). same_key q k) xs ≡ remove xs place

pub record Belongs {X : Type 0} (key : X → Key) (k : Key) (xs : List X) (place : ℕ) : Type 0 where
  pub is : place ≡ count_below key k xs
  pub within : place ≤ length xs
  pub absent : find key k xs ≡ None
  pub inserted : (x : X) → key x ≡ k → put key x xs ≡ insert xs place x
  pub same : without key (λ (q : Key). same_key q k) xs ≡ xs

-- the items of a process with numbers from one to another stand together
pub record IsSpan {X : Type 0} (key : X → Key) (pid first last : ℕ) (xs : List X) (start end : ℕ) : Type 0 where
  pub count : end ≡ start + length (those key (is_within pid first last) xs)
  pub within : end ≤ length xs
  pub those_are : those key (is_within pid first last) xs ≡ take (length (those key (is_within pid first last) xs)) (drop start xs)
  pub others : without key (is_within pid first last) xs ≡ take start xs ++ drop end xs
