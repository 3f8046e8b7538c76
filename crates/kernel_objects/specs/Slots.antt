-- Slots: a table of things by number, from 0. A number that was freed is the lowest free one again.
use Rattle.std.specs.Prelude.{ℕ, ◌+◌, Bool, false, ◌||◌, if◌then◌else◌, List, [], ◌∷◌, Option, Some, None, length, slice_get, slice_set, nat_lt, unwrap_or}

-- what a slot holds; nothing past the end of the table
abbrev pub slot : {X : Type 0} → List (Option X) → ℕ → Option X
slot slots n = unwrap_or (slice_get slots n) None

-- the things that the slots hold, in the order of their numbers
abbrev pub held : {X : Type 0} → List (Option X) → List X
held [] = []
held (None ∷ slots) = held slots
held (Some x ∷ slots) = x ∷ held slots

-- whether a test picks what is there
abbrev pub picks : {X : Type 0} → (X → Bool) → Option X → Bool
picks test None = false
picks test (Some x) = test x

-- whether a slot holds a thing that a test picks
abbrev pub holds_some : {X : Type 0} → (X → Bool) → List (Option X) → Bool
holds_some test [] = false
holds_some test (x ∷ slots) = picks test x || holds_some test slots

-- the lowest free slot at or above `from`, where `slots` begins at number `n`
abbrev pub free_from : {X : Type 0} → ℕ → ℕ → List (Option X) → Option ℕ
free_from from n [] = None
free_from from n (Some x ∷ slots) = free_from from (n + 1) slots
free_from from n (None ∷ slots) = if nat_lt n from then free_from from (n + 1) slots else Some n

-- the lowest free slot of a table of fixed length, at or above `from`
abbrev pub lowest_free : {X : Type 0} → List (Option X) → ℕ → Option ℕ
lowest_free slots from = free_from from 0 slots

-- the slot that the next thing gets in a table that grows: the lowest free one, else a new one at the end
abbrev pub next_slot : {X : Type 0} → List (Option X) → ℕ
next_slot slots = unwrap_or (lowest_free slots 0) (length slots)

-- the table with a thing in its next slot
abbrev pub with_next : {X : Type 0} → X → List (Option X) → List (Option X)
with_next x [] = Some x ∷ []
with_next x (None ∷ slots) = Some x ∷ slots
with_next x (Some y ∷ slots) = Some y ∷ with_next x slots

-- the table with a slot freed
abbrev pub freed : {X : Type 0} → List (Option X) → ℕ → List (Option X)
freed slots n = slice_set slots n None
