-- Finite maps that are listed: a map is the list of its entries in rising order of their keys, and a key is a process
-- with a page number or a region number.
use Rattle.std.specs.Prelude.{◌≡◌, ◌+◌, ◌/◌, ◌==◌, ◌&&◌, if◌then◌else◌, [], ◌∷◌, ℕ, Bool, List, None, Option, Some, nat_le, nat_lt, not, true}

pub record Key : Type 0 where
  pub pid : ℕ
  pub number : ℕ

abbrev pub key_at : ℕ → ℕ → Key
key_at pid number = record { pid = pid; number = number }

abbrev pub same_key : Key → Key → Bool
same_key a b = a.pid == b.pid && a.number == b.number

-- the order of keys: by process, then by number
abbrev pub is_below : Key → Key → Bool
is_below a b = if a.pid == b.pid then nat_lt a.number b.number else nat_lt a.pid b.pid

-- the entry with a key
abbrev pub find : {X : Type 0} → (X → Key) → Key → List X → Option X
find key k [] = None
find key k (x ∷ xs) = if same_key (key x) k then Some x else find key k xs

-- the map with an entry, in place of the one with its key
abbrev pub put : {X : Type 0} → (X → Key) → X → List X → List X
put key x [] = x ∷ []
put key x (y ∷ ys) =
    if is_below (key x) (key y) then x ∷ y ∷ ys else (
    if same_key (key x) (key y) then x ∷ ys else
    y ∷ put key x ys)

-- the map with several entries, put one after the other
abbrev pub put_all : {X : Type 0} → (X → Key) → List X → List X → List X
put_all key [] ys = ys
put_all key (x ∷ xs) ys = put_all key xs (put key x ys)

-- the entries whose keys a test picks
abbrev pub those : {X : Type 0} → (X → Key) → (Key → Bool) → List X → List X
those key test [] = []
those key test (x ∷ xs) = if test (key x) then x ∷ those key test xs else those key test xs

-- the map without them
abbrev pub without : {X : Type 0} → (X → Key) → (Key → Bool) → List X → List X
without key test xs = those key (λ k. not (test k)) xs

-- the tests: an exact key, all of a process, the pages of a region, a range of pages
abbrev pub is_at : ℕ → ℕ → Key → Bool
is_at pid number k = same_key k (key_at pid number)

abbrev pub is_of : ℕ → Key → Bool
is_of pid k = k.pid == pid

abbrev pub is_page_of : ℕ → ℕ → Key → Bool
is_page_of pid region k = k.pid == pid && k.number / 512 == region

abbrev pub is_page_from : ℕ → ℕ → ℕ → Key → Bool
is_page_from pid first pages k = k.pid == pid && nat_le first k.number && nat_lt k.number (first + pages)

-- ORDER: the keys of a list rise, each above the one before it

abbrev pub IsAbove : {X : Type 0} → (X → Key) → X → List X → Type 0
IsAbove key x [] = Unit {0}
IsAbove key x (y ∷ ys) = is_below (key x) (key y) ≡ true

abbrev pub Rises : {X : Type 0} → (X → Key) → List X → Type 0
Rises key [] = Unit {0}
Rises key (x ∷ xs) = IsAbove key x xs × Rises key xs
