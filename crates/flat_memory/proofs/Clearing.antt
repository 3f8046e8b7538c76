-- Pages whose bytes become 0, and slots in which no page is any more.
use Rattle.std.proofs.Common.{◌≡◌, ℕ, ◌+◌, ◌-◌, ◌*◌, ◌/◌, ◌%◌, ◌≤◌, ◌<◌, List, [], ◌++◌, length, get_or, set, map, take, drop, cond, leb, ltb, ◌&&◌, inl, inr, refl, sym, ◌∙◌, ap, arith, subst}
use Rattle.std.proofs.lemmas.Bool.{cases_lt, le-leb, lt-leb, lt-ltb, le-ltb, cond-true, cond-false, and_from, and_left, and_right}
use Rattle.std.specs.Vec.{with_items}
use Rattle.std.specs.declared.vec.Vec.{Vec}
use Rattle.std.proofs.lemmas.List.{get_or_default, get_or-map, length-map, length-replicate, with_items_is}
use Rattle.std.proofs.lemmas.List.Edits.{map_over_more}
use Rattle.lego_base.specs.declared.records.Area.{Area}
use Rattle.lego_base.specs.Pieces.{zeros}
use Rattle.lego_base.specs.Space.{Space, with_bytes}
use Rattle.flat_memory.specs.declared.slot.Slot.{Slot}
use Rattle.flat_memory.specs.Pieces.{place_in, byte_in, cleared, IsPieces, Written}
use Rattle.flat_memory.specs.FastPath.{no_slot, IsFast}
use Rattle.flat_memory.proofs.Zeros.{get_or-zeros}
use Rattle.flat_memory.proofs.Pieces.{written-is}
use Rattle.flat_memory.proofs.FastPath.{none-fast}

-- ---- slots
-- one more slot is that of no page
pub one_more : (xs ys : List Slot) (i : ℕ) (d : Slot) → i < length xs → length ys ≡ length xs → ys ≡ map (λ s. no_slot) (take i xs) ++ drop i xs → set ys i no_slot ≡ map (λ s. no_slot) (take (i + 1) xs) ++ drop (i + 1) xs
one_more xs ys i d inside long so =
    let within : i < length ys = omega (arith, inside, long) in
    ap (set ys i) refl ∙ map_over_more (λ s. no_slot) xs ys i (get_or ys i d) inside so (get_or_default ys i d (get_or ys i d) within)

-- slots in which no page is serve any areas
pub forgotten : (areas areas' : List Area) (start start' : ℕ → ℕ) (slots : List Slot) → IsFast areas start slots → IsFast areas' start' (map (λ s. no_slot) slots)
forgotten areas areas' start start' slots fast =
    none-fast areas' start' (map (λ s. no_slot) slots) no_slot refl refl refl (length-map slots (λ s. no_slot) ∙ fast.full)
    (λ i d h. get_or-map (λ (s : Slot). no_slot) slots i d d (let n : length slots ≡ 1024 = fast.full in omega arith))

-- the same of what a vector holds then
pub forgotten-in : {Z : Type 0} → (areas areas' : List Area) (start start' : ℕ → ℕ) (slots : Vec Slot Z) (shown new : List Slot) → slots.len ≡ length slots.items → shown ≡ slots.items → new ≡ map (λ s. no_slot) shown → IsFast areas start slots.items → IsFast areas' start' (with_items slots new).items
forgotten-in areas areas' start start' slots shown new long is made fast =
    let all : new ≡ map (λ s. no_slot) slots.items = made ∙ ap (map (λ s. no_slot)) is in
    let size : length new ≡ slots.len = ap length all ∙ length-map slots.items (λ s. no_slot) ∙ sym long in
    subst (IsFast areas' start') (sym (with_items_is slots new size ∙ all)) (forgotten areas areas' start start' slots.items fast)

-- what a vector of bytes holds that were written in place
pub stays-in : {Z : Type 0} → (bytes : Vec ℕ Z) (shown new : List ℕ) → bytes.len ≡ length bytes.items → shown ≡ bytes.items → length new ≡ length shown → (with_items bytes new).items ≡ new
stays-in bytes shown new long is size = with_items_is bytes new (size ∙ ap length is ∙ sym long)

-- ---- pages
-- an address in some pages, and one that isn't
inside : (first pages : ℕ) (byte : ℕ → ℕ) (a : ℕ) → first * 4096 ≤ a → a < (first + pages) * 4096 → cleared first pages byte a ≡ 0
inside first pages byte a low high = cond-true (leb (first * 4096) a && ltb a ((first + pages) * 4096)) 0 (byte a) (and_from (leb (first * 4096) a) _ (le-leb (first * 4096) a low) (lt-ltb a ((first + pages) * 4096) high))

below : (first pages : ℕ) (byte : ℕ → ℕ) (a : ℕ) → a < first * 4096 → cleared first pages byte a ≡ byte a
below first pages byte a low = cond-false (leb (first * 4096) a && ltb a ((first + pages) * 4096)) 0 (byte a) (and_left (leb (first * 4096) a) _ (lt-leb (first * 4096) a low))

above : (first pages : ℕ) (byte : ℕ → ℕ) (a : ℕ) → (first + pages) * 4096 ≤ a → cleared first pages byte a ≡ byte a
above first pages byte a high = cond-false (leb (first * 4096) a && ltb a ((first + pages) * 4096)) 0 (byte a) (and_right (leb (first * 4096) a) _ (le-ltb a ((first + pages) * 4096) high))

-- no page is cleared
none_at : (first : ℕ) (byte : ℕ → ℕ) (a : ℕ) → cleared first 0 byte a ≡ byte a
none_at first byte a = elim (cases_lt a (first * 4096)) [
  | inl low ↦ below first 0 byte a low
  | inr high ↦ above first 0 byte a (omega arith)
]

pub cleared-none : (first : ℕ) (byte : ℕ → ℕ) → cleared first 0 byte ≡ byte
cleared-none first byte = λ i a. none_at first byte a i

-- one page more is
more_at : (first pages : ℕ) (byte : ℕ → ℕ) (a : ℕ) → cleared (first + pages) 1 (cleared first pages byte) a ≡ cleared first (pages + 1) byte a
more_at first pages byte a = elim (cases_lt a ((first + pages) * 4096)) [
  | inl low ↦ below (first + pages) 1 (cleared first pages byte) a low ∙ (elim (cases_lt a (first * 4096)) [
    | inl lower ↦ below first pages byte a lower ∙ sym (below first (pages + 1) byte a lower)
    | inr higher ↦ inside first pages byte a higher low ∙ sym (inside first (pages + 1) byte a higher (omega arith))
  ])
  | inr high ↦ elim (cases_lt a ((first + pages + 1) * 4096)) [
    | inl here ↦ inside (first + pages) 1 (cleared first pages byte) a high here ∙ sym (inside first (pages + 1) byte a (omega arith) (omega arith))
    | inr past ↦ above (first + pages) 1 (cleared first pages byte) a past ∙ above first pages byte a high ∙ sym (above first (pages + 1) byte a (omega arith))
  ]
]

pub cleared-more : (first pages : ℕ) (byte : ℕ → ℕ) → cleared (first + pages) 1 (cleared first pages byte) ≡ cleared first (pages + 1) byte
cleared-more first pages byte = λ i a. more_at first pages byte a i

-- a page that has no bytes of its own reads 0
shared_at : (start : ℕ → ℕ) (bytes : List ℕ) (page : ℕ) → IsPieces start bytes → start page ≡ 0 → (a : ℕ) → get_or bytes (place_in start a) 0 ≡ cleared page 1 (λ a. get_or bytes (place_in start a) 0) a
shared_at start bytes page s none a = elim (cases_lt a (page * 4096)) [
  | inl low ↦ sym (below page 1 (λ a. get_or bytes (place_in start a) 0) a low)
  | inr high ↦ elim (cases_lt a ((page + 1) * 4096)) [
    | inl here ↦
        let own : a / 4096 ≡ page = omega arith in
        let zero_of : start (a / 4096) ≡ 0 = ap start own ∙ none in
        let place : place_in start a ≡ a % 4096 = omega arith in
        ap (λ k. get_or bytes k 0) place ∙ s.zeros (a % 4096) (omega arith) ∙ sym (inside page 1 (λ a. get_or bytes (place_in start a) 0) a high here)
    | inr past ↦ sym (above page 1 (λ a. get_or bytes (place_in start a) 0) a past)
  ]
]

pub shared-page : (start : ℕ → ℕ) (bytes : List ℕ) (page : ℕ) → IsPieces start bytes → start page ≡ 0 → byte_in start bytes ≡ cleared page 1 (byte_in start bytes)
unfolding byte_in
shared-page start bytes page s none = λ i a. shared_at start bytes page s none a i

-- zeros at a page clear it
laid_at : (page : ℕ) (space : Space) (a : ℕ) → (with_bytes space (page * 4096) (zeros 4096)).byte a ≡ cleared page 1 space.byte a
laid_at page space a =
    let n : length (zeros 4096) ≡ 4096 = length-replicate {A = ℕ} 4096 0 in
    let end : page * 4096 + length (zeros 4096) ≡ (page + 1) * 4096 = omega arith in
    ap (λ e. cond (leb (page * 4096) a && ltb a e) (get_or (zeros 4096) (a - page * 4096) 0) (space.byte a)) end
    ∙ ap (λ z. cond (leb (page * 4096) a && ltb a ((page + 1) * 4096)) z (space.byte a)) (get_or-zeros 4096 (a - page * 4096))

pub own-page : (start : ℕ → ℕ) (bytes new : List ℕ) (page at : ℕ) → IsPieces start bytes → 0 < start page → at ≡ start page → Written bytes at (zeros 4096) new → byte_in start new ≡ cleared page 1 (byte_in start bytes)
own-page start bytes new page at s own is w =
    let n : length (zeros 4096) ≡ 4096 = length-replicate {A = ℕ} 4096 0 in
    let here : page * 4096 / 4096 ≡ page = omega arith in
    let first : page * 4096 % 4096 ≡ 0 = omega arith in
    let same : start (page * 4096 / 4096) ≡ start page = ap start here in
    let place : at ≡ place_in start (page * 4096) = omega arith in
    let some : 0 < start (page * 4096 / 4096) = omega arith in
    let laid : ◌≡◌ {A = Space} (record { areas = []; byte = byte_in start new }) (with_bytes (record { areas = []; byte = byte_in start bytes }) (page * 4096) (zeros 4096)) = written-is start [] bytes (page * 4096) (zeros 4096) new s some (omega arith) (subst (λ k. Written bytes k (zeros 4096) new) place w) in
    ap (λ (x : Space). x.byte) laid ∙ (λ i a. laid_at page (record { areas = []; byte = byte_in start bytes }) a i)
