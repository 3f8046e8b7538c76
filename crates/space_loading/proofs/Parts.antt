-- What the loads have in a page that is filled.
use Rattle.std.proofs.Common.{◌≡◌, ℕ, suc, ◌+◌, ◌-◌, ◌*◌, ◌/◌, ◌^◌, ◌≤◌, ◌<◌, ◌⊎◌, inl, inr, Bool, true, false, cond, ◌&&◌, eqb, leb, ltb, min, max, refl, sym, ◌∙◌, ap, subst, List, [], ◌∷◌, length, Option, Some, None, IsSome, All, arith}
use Rattle.std.specs.List.{AllByRecursion}
use Rattle.std.proofs.lemmas.Bool.{cases_lt, cases_eq, eq-eqb, ne_eqb, lt-ltb, le-ltb, le-leb, and_from}
use Rattle.lego_base.specs.declared.perms.Perms.{Perms}
use Rattle.lego_base.specs.Space.{perms_of}
use Rattle.elf_image.specs.declared.image.Segment.{Segment}
use Rattle.elf_image.specs.Image.{IsBoundedSegment}
use Rattle.space_rules.specs.Mapped.{union, meets, perms_of_loads, image_areas_of, stack_page, stack_pages, read_write}
use Rattle.space_rules.proofs.Adding.{each}
use Rattle.space_rules.proofs.Mapping.{image_maps}
use Rattle.space_rules.specs.Pages.{file_end, part_start, part_end, has_part, first_byte, last_end, with_numbers, pages_in, filled_pages}
use Rattle.linux_model.proofs.Spaces.{if_true, if_false}
use Rattle.space_loading.specs.Pages.{next_page, earlier, HasPart}
use Rattle.space_loading.proofs.Rising.{pages_rise, next_all, row_below, row_next}

earlier_is : (a b : Option ℕ) (page : ℕ) → earlier a b ≡ Some page → (a ≡ Some page) ⊎ (b ≡ Some page)
earlier_is None b page e = inr e
earlier_is (Some a) None page e = inl e
earlier_is (Some a) (Some b) page e =
    let is : min a b ≡ page = cc e in
    elim (cases_lt a b) [
      | inl less ↦ let same : a ≡ page = omega (arith, is, less) in inl (ap Some same)
      | inr more ↦ let same : b ≡ page = omega (arith, is, more) in inr (ap Some same)
    ]

-- the pages of one load that has bytes: none from a page on, or the later of that page and the first one
pub load_below : (s : Segment) (from len : ℕ) → false ≡ eqb (length s.bytes) 0 → len ≡ length s.bytes → (s.vaddr + len - 1) / 4096 < from → None ≡ next_page from (with_numbers (s.vaddr / 4096) (pages_in s) [])
load_below s from len some is low =
    if_false (λ (n : ℕ). None ≡ next_page from (with_numbers (s.vaddr / 4096) n [])) (eqb (length s.bytes) 0) _ _ (sym some)
    (sym (row_below from (s.vaddr / 4096) ((file_end s - 1) / 4096 + 1 - s.vaddr / 4096) (omega (arith, low, is))))

has_some : (n : ℕ) → false ≡ eqb n 0 → n ≡ 0 → ⊥
has_some n some none =
    let no : false ≡ true = some ∙ eq-eqb n 0 none in
    cc no

pub load_next : (s : Segment) (from len page : ℕ) → false ≡ eqb (length s.bytes) 0 → len ≡ length s.bytes → from ≤ (s.vaddr + len - 1) / 4096 → page ≡ max from (s.vaddr / 4096) → Some page ≡ next_page from (with_numbers (s.vaddr / 4096) (pages_in s) [])
load_next s from len page test is high at =
    let some : length s.bytes ≡ 0 → ⊥ = has_some (length s.bytes) test in
    let count : (file_end s - 1) / 4096 + 1 - s.vaddr / 4096 ≡ suc ((file_end s - 1) / 4096 - s.vaddr / 4096) = omega (arith, some) in
    if_false (λ (n : ℕ). Some page ≡ next_page from (with_numbers (s.vaddr / 4096) n [])) (eqb (length s.bytes) 0) _ _ (ne_eqb (length s.bytes) 0 some)
    (ap (λ (n : ℕ). Some n) at
    ∙ sym (row_next from (s.vaddr / 4096) ((file_end s - 1) / 4096 - s.vaddr / 4096) (omega (arith, high, is, some)))
    ∙ ap (λ (n : ℕ). next_page from (with_numbers (s.vaddr / 4096) n [])) (sym count))

-- the pages of one load
row_part : (s : Segment) (from page : ℕ) → next_page from (with_numbers (s.vaddr / 4096) (pages_in s) []) ≡ Some page → has_part s page ≡ true
row_part s from page e = elim (cases_eq (length s.bytes) 0) [
  | inl none ↦
      let zero_pages : pages_in s ≡ 0 = if_true (λ (n : ℕ). n ≡ 0) (eqb (length s.bytes) 0) _ _ (eq-eqb (length s.bytes) 0 none) refl in
      let no : None ≡ Some page = sym (ap (λ (n : ℕ). next_page from (with_numbers (s.vaddr / 4096) n [])) zero_pages) ∙ e in
      cc no
  | inr some ↦
      let count : pages_in s ≡ suc ((file_end s - 1) / 4096 - s.vaddr / 4096) = if_false (λ (n : ℕ). n ≡ suc ((file_end s - 1) / 4096 - s.vaddr / 4096)) (eqb (length s.bytes) 0) _ _ (ne_eqb (length s.bytes) 0 some) (omega (arith, some)) in
      let e' : next_page from (with_numbers (s.vaddr / 4096) (suc ((file_end s - 1) / 4096 - s.vaddr / 4096)) []) ≡ Some page = sym (ap (λ (n : ℕ). next_page from (with_numbers (s.vaddr / 4096) n [])) count) ∙ e in
      elim (cases_lt from (s.vaddr / 4096 + suc ((file_end s - 1) / 4096 - s.vaddr / 4096))) [
        | inl within ↦
            let same : Some (max from (s.vaddr / 4096)) ≡ Some page = sym (row_next from (s.vaddr / 4096) ((file_end s - 1) / 4096 - s.vaddr / 4096) within) ∙ e' in
            let is : max from (s.vaddr / 4096) ≡ page = cc same in
            lt-ltb (part_start s page) (part_end s page) (omega (arith, is, within, some))
        | inr past ↦
            let no : None ≡ Some page = sym (row_below from (s.vaddr / 4096) (suc ((file_end s - 1) / 4096 - s.vaddr / 4096)) past) ∙ e' in
            cc no
      ]
]

-- a page that comes next has a byte
pub next_part : (segments : List Segment) (from page : ℕ) → next_page from (filled_pages segments) ≡ Some page → HasPart segments page
next_part [] from page e = cc e
next_part (s ∷ segments) from page e =
    elim (earlier_is (next_page from (with_numbers (s.vaddr / 4096) (pages_in s) [])) (next_page from (filled_pages segments)) page (sym (next_all from (s.vaddr / 4096) (pages_in s) (filled_pages segments) (pages_rise segments)) ∙ e)) [
      | inl first ↦ inl (row_part s from page first)
      | inr rest ↦ inr (next_part segments from page rest)
    ]

-- ---- the first byte and the last

either : (P : ℕ → Type 0) (b : Bool) (x y : ℕ) → P x → P y → P (cond b x y)
either P true x y p q = p
either P false x y p q = q

pub first_above : (segments : List Segment) (page : ℕ) → page * 4096 ≤ first_byte segments page
first_above [] page = omega arith
first_above (s ∷ segments) page =
    let rest : page * 4096 ≤ first_byte segments page = first_above segments page in
    either (λ (n : ℕ). page * 4096 ≤ n) (has_part s page) _ _ (omega (arith, rest)) rest

pub last_below : (segments : List Segment) (page : ℕ) → last_end segments page ≤ (page + 1) * 4096
last_below [] page = omega arith
last_below (s ∷ segments) page =
    let rest : last_end segments page ≤ (page + 1) * 4096 = last_below segments page in
    either (λ (n : ℕ). n ≤ (page + 1) * 4096) (has_part s page) _ _ (omega (arith, rest)) rest

true_lt : (m n : ℕ) → ltb m n ≡ true → m < n
true_lt m n e = elim (cases_lt m n) [
  | inl less ↦ less
  | inr more ↦
      let no : true ≡ false = sym e ∙ le-ltb m n more in
      cc no
]

pub has_bytes : (segments : List Segment) (page : ℕ) → HasPart segments page → first_byte segments page < last_end segments page
has_bytes [] page none = absurd none
has_bytes (s ∷ segments) page (inl here) =
    let part : part_start s page < part_end s page = true_lt (part_start s page) (part_end s page) here in
    if_true (λ (n : ℕ). n < last_end (s ∷ segments) page) (has_part s page) _ _ here
    (if_true (λ (n : ℕ). min (part_start s page) (first_byte segments page) < n) (has_part s page) _ _ here (omega (arith, part)))
has_bytes (s ∷ segments) page (inr there) =
    let rest : first_byte segments page < last_end segments page = has_bytes segments page there in
    either (λ (n : ℕ). n < last_end (s ∷ segments) page) (has_part s page) _ _
    (either (λ (n : ℕ). min (part_start s page) (first_byte segments page) < n) (has_part s page) _ _ (omega (arith, rest)) (omega (arith, rest)))
    (either (λ (n : ℕ). first_byte segments page < n) (has_part s page) _ _ (omega (arith, rest)) rest)

-- a load that has no byte there, before those that were looked at
pub first_same : (s : Segment) (segments : List Segment) (page start end : ℕ) → start ≡ part_start s page → end ≡ part_end s page → end ≤ start → first_byte segments page ≡ first_byte (s ∷ segments) page
first_same s segments page start end first last none =
    if_false (λ (n : ℕ). first_byte segments page ≡ n) (has_part s page) _ _ (le-ltb (part_start s page) (part_end s page) (omega (arith, first, last, none))) refl

pub last_same : (s : Segment) (segments : List Segment) (page start end : ℕ) → start ≡ part_start s page → end ≡ part_end s page → end ≤ start → last_end segments page ≡ last_end (s ∷ segments) page
last_same s segments page start end first last none =
    if_false (λ (n : ℕ). last_end segments page ≡ n) (has_part s page) _ _ (le-ltb (part_start s page) (part_end s page) (omega (arith, first, last, none))) refl

-- ---- its page is mapped

some_or : (b : Bool) (perms : Perms) (old : Option Perms) → IsSome old → IsSome (cond b (Some perms) old)
some_or true perms old some = refl
some_or false perms old some = some

some_if : (b : Bool) (perms : Perms) (old : Option Perms) → b ≡ true → IsSome (cond b (Some perms) old)
some_if true perms old e = refl
some_if false perms old e = cc e

loads_keep : (segments : List Segment) (perms : Option Perms) (page : ℕ) → IsSome perms → IsSome (perms_of_loads segments perms page)
loads_keep [] perms page some = some
loads_keep (s ∷ segments) perms page some = loads_keep segments (cond (meets s page) (Some (union perms s.perms)) perms) page (some_or (meets s page) (union perms s.perms) perms some)

part_meets : (s : Segment) (page : ℕ) → IsBoundedSegment s → has_part s page ≡ true → meets s page ≡ true
part_meets s page bound part =
    let is : part_start s page < part_end s page = true_lt (part_start s page) (part_end s page) part in
    and_from (ltb s.vaddr ((page + 1) * 4096)) (ltb (page * 4096) (s.vaddr + s.memsz))
    (lt-ltb s.vaddr ((page + 1) * 4096) (omega (arith, is)))
    (lt-ltb (page * 4096) (s.vaddr + s.memsz) (omega (arith, is, bound.filled)))

loads_have : (segments : List Segment) (perms : Option Perms) (page : ℕ) → AllByRecursion IsBoundedSegment segments → HasPart segments page → IsSome (perms_of_loads segments perms page)
loads_have [] perms page all none = absurd none
loads_have (s ∷ segments) perms page all (inl here) =
    loads_keep segments (cond (meets s page) (Some (union perms s.perms)) perms) page (some_if (meets s page) (union perms s.perms) perms (part_meets s page all.0 here))
loads_have (s ∷ segments) perms page all (inr there) = loads_have segments (cond (meets s page) (Some (union perms s.perms)) perms) page all.1 there

pub part_mapped : (segments : List Segment) (page : ℕ) → All IsBoundedSegment segments → HasPart segments page → IsSome (perms_of (image_areas_of segments) page)
part_mapped segments page all part =
    subst IsSome (sym ((image_maps segments (each segments all)).1 page))
    (some_or (leb stack_page page && ltb page (stack_page + stack_pages)) read_write (perms_of_loads segments None page) (loads_have segments None page (each segments all) part))

-- and so is a page of the stack
pub stack_mapped : (segments : List Segment) (page : ℕ) → All IsBoundedSegment segments → stack_page ≤ page → page < stack_page + stack_pages → IsSome (perms_of (image_areas_of segments) page)
stack_mapped segments page all low high =
    subst IsSome (sym ((image_maps segments (each segments all)).1 page))
    (some_if (leb stack_page page && ltb page (stack_page + stack_pages)) read_write (perms_of_loads segments None page) (and_from (leb stack_page page) _ (le-leb stack_page page low) (lt-ltb page (stack_page + stack_pages) high)))

-- pages of loads are low
pub part_low : (segments : List Segment) (page : ℕ) → AllByRecursion IsBoundedSegment segments → HasPart segments page → page < 2 ^ 26
part_low [] page all none = absurd none
part_low (s ∷ segments) page all (inl here) =
    let is : part_start s page < part_end s page = true_lt (part_start s page) (part_end s page) here in
    let ends : s.vaddr + s.memsz ≤ 2 ^ 37 = all.0.ends in
    omega (arith, is, all.0.filled, ends)
part_low (s ∷ segments) page all (inr there) = part_low segments page all.1 there
