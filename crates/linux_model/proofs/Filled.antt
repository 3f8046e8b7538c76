-- The loads' bytes, written page by page.
use Rattle.std.proofs.Common.{◌≡◌, ℕ, zero, suc, ◌+◌, ◌-◌, ◌/◌, ◌≤◌, ◌<◌, ◌⊎◌, inl, inr, Bool, true, false, cond, eqb, leb, ltb, ◌&&◌, ◌||◌, refl, sym, ◌∙◌, ap, subst, List, [], ◌∷◌, length, get_or, arith}
use Rattle.std.proofs.lemmas.Bool.{cases_lt, cases_eq, eq-eqb, ne_eqb, cond-true, le-leb, lt-ltb, le-ltb, and_from}
use Rattle.lego_base.specs.Space.{Space, bytes_at, with_bytes}
use Rattle.elf_image.specs.declared.image.Segment.{Segment}
use Rattle.rv64_step.proofs.Writes.{in-bytes, below-bytes, above-bytes}
use Rattle.space_rules.specs.Pages.{file_end, loaded, part_start, part_end, has_part, first_byte, last_end, with_number, with_numbers, pages_in, filled_pages}
use Rattle.linux_model.specs.Loading.{page_bytes}
use Rattle.linux_model.proofs.Spaces.{if_true, if_false}

-- ---- bytes of a space

length-bytes_at : (space : Space) (a n : ℕ) → length (bytes_at space a n) ≡ n
length-bytes_at space a zero = refl
length-bytes_at space a (suc n) = ap suc (length-bytes_at space (a + 1) n)

get-bytes_at : (space : Space) (a n i : ℕ) → i < n → get_or (bytes_at space a n) i 0 ≡ space.byte (a + i)
get-bytes_at space a zero i h = absurd (omega arith)
get-bytes_at space a (suc n) zero h = let e : a ≡ a + 0 = omega arith in ap space.byte e
get-bytes_at space a (suc n) (suc i) h = let e : a + 1 + i ≡ a + suc i = omega arith in get-bytes_at space (a + 1) n i (omega arith) ∙ ap space.byte e

-- a byte where bytes of another space were written
choice : (space : Space) (from n a old : ℕ) → cond (leb from a && ltb a (from + length (bytes_at space from n))) (get_or (bytes_at space from n) (a - from) 0) old ≡ cond (leb from a && ltb a (from + n)) (space.byte a) old
choice space from n a old =
    let all : length (bytes_at space from n) ≡ n = length-bytes_at space from n in
    elim (cases_lt a from) [
      | inl low ↦ below-bytes from a (length (bytes_at space from n)) _ old low ∙ sym (below-bytes from a n _ old low)
      | inr low ↦ elim (cases_lt a (from + n)) [
        | inl high ↦
            let back : from + (a - from) ≡ a = omega arith in
            in-bytes from a (length (bytes_at space from n)) _ old low (omega arith)
            ∙ get-bytes_at space from n (a - from) (omega arith) ∙ ap space.byte back
            ∙ sym (in-bytes from a n _ old low high)
        | inr high ↦ above-bytes from a (length (bytes_at space from n)) _ old (omega arith) ∙ sym (above-bytes from a n _ old high)
      ]
    ]

-- ---- the fills of some pages

-- a space once the fills of some pages were written
abbrev pub with_pages : List Segment → List ℕ → Space → Space
with_pages segments [] space = space
with_pages segments (page ∷ pages) space = with_pages segments pages (with_bytes space (first_byte segments page) (page_bytes segments page))

-- the space with other bytes
abbrev pub set_byte : (ℕ → ℕ) → Space → Space
set_byte byte space = record space { byte = byte }

-- whether the fill of a page writes at an address
abbrev in_fill : List Segment → ℕ → ℕ → Bool
in_fill segments page a = leb (first_byte segments page) a && ltb a (first_byte segments page + (last_end segments page - first_byte segments page))

abbrev in_fills : List Segment → List ℕ → ℕ → Bool
in_fills segments [] a = false
in_fills segments (page ∷ pages) a = in_fill segments page a || in_fills segments pages a

one_page : (segments : List Segment) (page : ℕ) (space : Space) → with_bytes space (first_byte segments page) (page_bytes segments page) ≡ set_byte (λ a. cond (in_fill segments page a) (loaded segments a) (space.byte a)) space
one_page segments page space = λ i. set_byte (λ a. choice (record { areas = []; byte = loaded segments }) (first_byte segments page) (last_end segments page - first_byte segments page) a (space.byte a) i) space

twice : (b c : Bool) (x y : ℕ) → cond c x (cond b x y) ≡ cond (b || c) x y
twice true true x y = refl
twice true false x y = refl
twice false c x y = refl

some_pages : (segments : List Segment) (pages : List ℕ) (space : Space) → with_pages segments pages space ≡ set_byte (λ a. cond (in_fills segments pages a) (loaded segments a) (space.byte a)) space
some_pages segments [] space = refl
some_pages segments (page ∷ pages) space =
    ap (with_pages segments pages) (one_page segments page space)
    ∙ some_pages segments pages (set_byte (λ a. cond (in_fill segments page a) (loaded segments a) (space.byte a)) space)
    ∙ (λ i. set_byte (λ a. twice (in_fill segments page a) (in_fills segments pages a) (loaded segments a) (space.byte a) i) space)

-- ---- the pages of all loads

-- a number is among these
abbrev Has : ℕ → List ℕ → Type 0
Has n [] = ⊥
Has n (m ∷ numbers) = (n ≡ m) ⊎ Has n numbers

has_new : (n : ℕ) (numbers : List ℕ) → Has n (with_number n numbers)
has_new n [] = inl refl
has_new n (m ∷ numbers) = elim (cases_lt n m) [
  | inl h ↦ if_true (Has n) (ltb n m) _ _ (lt-ltb n m h) (inl refl)
  | inr h ↦ if_false (Has n) (ltb n m) _ _ (le-ltb n m h) (elim (cases_eq n m) [
    | inl e ↦ if_true (Has n) (eqb n m) _ _ (eq-eqb n m e) (inl e)
    | inr ne ↦ if_false (Has n) (eqb n m) _ _ (ne_eqb n m ne) (inr (has_new n numbers))
  ])
]

has_old : (q n : ℕ) (numbers : List ℕ) → Has q numbers → Has q (with_number n numbers)
has_old q n [] has = absurd has
has_old q n (m ∷ numbers) has = elim (cases_lt n m) [
  | inl h ↦ if_true (Has q) (ltb n m) _ _ (lt-ltb n m h) (inr has)
  | inr h ↦ if_false (Has q) (ltb n m) _ _ (le-ltb n m h) (elim (cases_eq n m) [
    | inl e ↦ if_true (Has q) (eqb n m) _ _ (eq-eqb n m e) has
    | inr ne ↦ if_false (Has q) (eqb n m) _ _ (ne_eqb n m ne) (elim has [
      | inl e ↦ inl e
      | inr rest ↦ inr (has_old q n numbers rest)
    ])
  ])
]

has_kept : (q first count : ℕ) (numbers : List ℕ) → Has q numbers → Has q (with_numbers first count numbers)
has_kept q first zero numbers has = has
has_kept q first (suc count) numbers has = has_old q first (with_numbers (first + 1) count numbers) (has_kept q (first + 1) count numbers has)

has_range : (q first count : ℕ) (numbers : List ℕ) → first ≤ q → q < first + count → Has q (with_numbers first count numbers)
has_range q first zero numbers low high = absurd (omega arith)
has_range q first (suc count) numbers low high = elim (cases_eq q first) [
  | inl e ↦ subst (λ (q : ℕ). Has q (with_numbers first (suc count) numbers)) (sym e) (has_new first (with_numbers (first + 1) count numbers))
  | inr ne ↦ has_old q first (with_numbers (first + 1) count numbers) (has_range q (first + 1) count numbers (omega arith) (omega arith))
]

-- a load has a byte at an address
abbrev HasByte : List Segment → ℕ → Type 0
HasByte [] a = ⊥
HasByte (s ∷ segments) a = ((s.vaddr ≤ a) × (a < file_end s)) ⊎ HasByte segments a

has_or_not : (segments : List Segment) (a : ℕ) → HasByte segments a ⊎ (loaded segments a ≡ 0)
has_or_not [] a = inr refl
has_or_not (s ∷ segments) a = elim (cases_lt a s.vaddr) [
  | inl low ↦ elim (has_or_not segments a) [
    | inl has ↦ inl (inr has)
    | inr none ↦ inr (below-bytes s.vaddr a (length s.bytes) _ _ low ∙ none)
  ]
  | inr low ↦ elim (cases_lt a (file_end s)) [
    | inl high ↦ inl (inl (low, high))
    | inr high ↦ elim (has_or_not segments a) [
      | inl has ↦ inl (inr has)
      | inr none ↦ inr (above-bytes s.vaddr a (length s.bytes) _ _ high ∙ none)
    ]
  ]
]

-- its page is filled
page_of : (segments : List Segment) (a : ℕ) → HasByte segments a → Has (a / 4096) (filled_pages segments)
page_of [] a has = absurd has
page_of (s ∷ segments) a (inl (low, high)) =
    let some : length s.bytes ≡ 0 → ⊥ = λ none. omega arith in
    let count : pages_in s ≡ (file_end s - 1) / 4096 + 1 - s.vaddr / 4096 = if_false (λ (n : ℕ). n ≡ (file_end s - 1) / 4096 + 1 - s.vaddr / 4096) (eqb (length s.bytes) 0) _ _ (ne_eqb (length s.bytes) 0 some) refl in
    has_range (a / 4096) (s.vaddr / 4096) (pages_in s) (filled_pages segments) (omega arith) (omega arith)
page_of (s ∷ segments) a (inr has) = has_kept (a / 4096) (s.vaddr / 4096) (pages_in s) (filled_pages segments) (page_of segments a has)

either : (P : ℕ → Type 0) (b : Bool) (x y : ℕ) → P x → P y → P (cond b x y)
either P true x y p q = p
either P false x y p q = q

-- and the fill has it
fill_has : (segments : List Segment) (a : ℕ) → HasByte segments a → (first_byte segments (a / 4096) ≤ a) × (a < last_end segments (a / 4096))
fill_has [] a has = absurd has
fill_has (s ∷ segments) a (inl (low, high)) =
    let part : part_start s (a / 4096) < part_end s (a / 4096) = omega arith in
    let yes : has_part s (a / 4096) ≡ true = lt-ltb (part_start s (a / 4096)) (part_end s (a / 4096)) part in (
      if_true (λ (n : ℕ). n ≤ a) (has_part s (a / 4096)) _ _ yes (omega arith),
      if_true (λ (n : ℕ). a < n) (has_part s (a / 4096)) _ _ yes (omega arith),
    )
fill_has (s ∷ segments) a (inr has) =
    let rest = fill_has segments a has in
    let low : first_byte segments (a / 4096) ≤ a = rest.0 in
    let high : a < last_end segments (a / 4096) = rest.1 in (
      either (λ (n : ℕ). n ≤ a) (has_part s (a / 4096)) _ _ (omega arith) low,
      either (λ (n : ℕ). a < n) (has_part s (a / 4096)) _ _ (omega arith) high,
    )

or_left : (b c : Bool) → b ≡ true → (b || c) ≡ true
or_left b c e = ap (λ (b : Bool). b || c) e

or_right : (b c : Bool) → c ≡ true → (b || c) ≡ true
or_right true c e = refl
or_right false c e = e

some_fill : (segments : List Segment) (pages : List ℕ) (page a : ℕ) → Has page pages → in_fill segments page a ≡ true → in_fills segments pages a ≡ true
some_fill segments [] page a has is = absurd has
some_fill segments (first ∷ pages) page a (inl e) is = or_left (in_fill segments first a) (in_fills segments pages a) (subst (λ (page : ℕ). in_fill segments page a ≡ true) e is)
some_fill segments (first ∷ pages) page a (inr has) is = or_right (in_fill segments first a) (in_fills segments pages a) (some_fill segments pages page a has is)

same_choice : (b : Bool) (x : ℕ) → x ≡ 0 → cond b x 0 ≡ x
same_choice true x e = refl
same_choice false x e = sym e

all_bytes : (segments : List Segment) (a : ℕ) → cond (in_fills segments (filled_pages segments) a) (loaded segments a) 0 ≡ loaded segments a
all_bytes segments a = elim (has_or_not segments a) [
  | inl has ↦
      let within = fill_has segments a has in
      let low : first_byte segments (a / 4096) ≤ a = within.0 in
      let high : a < last_end segments (a / 4096) = within.1 in
      let is : in_fill segments (a / 4096) a ≡ true = and_from (leb (first_byte segments (a / 4096)) a) _ (le-leb (first_byte segments (a / 4096)) a low) (lt-ltb a (first_byte segments (a / 4096) + (last_end segments (a / 4096) - first_byte segments (a / 4096))) (omega arith)) in
      cond-true (in_fills segments (filled_pages segments) a) (loaded segments a) 0 (some_fill segments (filled_pages segments) (a / 4096) a (page_of segments a has) is)
  | inr none ↦ same_choice (in_fills segments (filled_pages segments) a) (loaded segments a) none
]

-- In a space of zeros the fills of the loads leave their bytes.
pub loads_fill : (segments : List Segment) (space : Space) → space.byte ≡ (λ (a : ℕ). 0) → with_pages segments (filled_pages segments) space ≡ set_byte (loaded segments) space
loads_fill segments space zeros =
    some_pages segments (filled_pages segments) space
    ∙ (λ i. set_byte (λ a. cond (in_fills segments (filled_pages segments) a) (loaded segments a) (zeros i a)) space)
    ∙ (λ i. set_byte (λ a. all_bytes segments a i) space)
