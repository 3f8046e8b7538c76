-- Where a key belongs in a list that rises by its keys.
use Rattle.std.specs.Prelude.{◌==◌, ◌&&◌, ◌||◌, if◌then◌else◌, [], ◌∷◌, ℕ, Bool, List, nat_le, suc}
use Rattle.lego_base.specs.Keys.{Key, is_below, same_key}

-- how many items come before the place of a key
abbrev pub count_below : {X : Type 0} → (X → Key) → Key → List X → ℕ
count_below key k [] = 0
count_below key k (x ∷ xs) = if is_below (key x) k then suc (count_below key k xs) else 0

-- how many items come before the place after a key
abbrev pub count_upto : {X : Type 0} → (X → Key) → Key → List X → ℕ
count_upto key k [] = 0
count_upto key k (x ∷ xs) = if is_below (key x) k || same_key (key x) k then suc (count_upto key k xs) else 0

-- a number of a process, from one to another, which counts too
abbrev pub is_within : ℕ → ℕ → ℕ → Key → Bool
is_within pid first last k = k.pid == pid && nat_le first k.number && nat_le k.number last
