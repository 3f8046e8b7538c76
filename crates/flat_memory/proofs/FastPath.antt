-- Slots say what is so.
use Rattle.std.proofs.Common.{◌≡◌, ℕ, ◌+◌, ◌-◌, ◌*◌, ◌/◌, ◌%◌, ◌^◌, ◌≤◌, ◌<◌, List, length, get_or, set, Bool, true, false, ◌&&◌, ltb, Option, Some, None, IfSome, inl, inr, refl, sym, ◌∙◌, ap, arith, subst}
use Rattle.std.proofs.lemmas.Bool.{cases_eq, and_parts}
use Rattle.std.proofs.lemmas.List.{get_or-set_same, get_or-set_other, length-set}
use Rattle.lego_base.specs.declared.records.Area.{Area}
use Rattle.lego_base.specs.Space.{perms_of, allows}
use Rattle.rv64_step.specs.declared.width.Width.{Width}
use Rattle.rv64_step.specs.declared.width.Width.TheVariants.{Byte, Half, Word, Double}
use Rattle.rv64_step.specs.Access.{bytes_in}
use Rattle.flat_memory.specs.declared.slot.Use.{Use}
use Rattle.flat_memory.specs.declared.slot.Use.TheVariants.{Load, Store, Fetch}
use Rattle.flat_memory.specs.declared.slot.Slot.{Slot}
use Rattle.std.specs.HashMap.{HashMap}
use Rattle.flat_memory.specs.Pieces.{start_in}
use Rattle.flat_memory.specs.FastPath.{needed, tag_of, tag_if, slot_of, has_bytes, IsUse, IsSlot, IsFast, IsPlace}

-- a slot of no page
pub none-slot : (areas : List Area) (start : ℕ → ℕ) (slot : Slot) → slot.load ≡ 2 ^ 64 - 1 → slot.store ≡ 2 ^ 64 - 1 → slot.fetch ≡ 2 ^ 64 - 1 → IsSlot areas start slot
none-slot areas start slot l s f Load page rest r e = absurd (omega arith)
none-slot areas start slot l s f Store page rest r e = absurd (omega arith)
none-slot areas start slot l s f Fetch page rest r e = absurd (omega arith)

none-there : (slot : Slot) → slot.load ≡ 2 ^ 64 - 1 → slot.store ≡ 2 ^ 64 - 1 → slot.fetch ≡ 2 ^ 64 - 1 → (access : Use) (page rest : ℕ) → rest < 8 → tag_of access slot ≡ page * 4096 + rest → ⊥
none-there slot l s f Load page rest r e = omega arith
none-there slot l s f Store page rest r e = omega arith
none-there slot l s f Fetch page rest r e = omega arith

-- slots in which no page is
pub none-fast : (areas : List Area) (start : ℕ → ℕ) (slots : List Slot) (none : Slot) → none.load ≡ 2 ^ 64 - 1 → none.store ≡ 2 ^ 64 - 1 → none.fetch ≡ 2 ^ 64 - 1 → length slots ≡ 1024 → ((i : ℕ) (d : Slot) → i < 1024 → get_or slots i d ≡ none) → IsFast areas start slots
none-fast areas start slots none l s f n all = record {
  full = n;
  holds = λ i d h. subst (IsSlot areas start) (sym (all i d h)) (none-slot areas start none l s f);
  there = λ i d access page rest h r e. absurd (none-there none l s f access page rest r (ap (tag_of access) (sym (all i d h)) ∙ e));
}

-- the same where areas and pages are the same
pub same-slot : (areas : List Area) (start start' : ℕ → ℕ) (slot : Slot) → ((page : ℕ) → start' page ≡ start page) → IsSlot areas start slot → IsSlot areas start' slot
same-slot areas start start' slot same is access page rest r e =
    let u : IsUse areas start slot access page rest = is access page rest r e in
    record {
      exact = u.exact;
      permits = u.permits;
      own = ap (has_bytes access) (same page) ∙ u.own;
      shift = u.shift ∙ sym (same page);
    }

pub kept-slot : {S : Type 0} → (areas areas' : List Area) (starts starts' : HashMap ℕ ℕ S) (slot : Slot) → areas' ≡ areas → starts' ≡ starts → IsSlot areas (start_in starts) slot → IsSlot areas' (start_in starts') slot
kept-slot areas areas' starts starts' slot a s is = subst (λ m. IsSlot areas' (start_in m) slot) (sym s) (subst (λ runs. IsSlot runs (start_in starts) slot) (sym a) is)

pub same-fast : (areas : List Area) (start start' : ℕ → ℕ) (slots : List Slot) → ((page : ℕ) → start' page ≡ start page) → IsFast areas start slots → IsFast areas start' slots
same-fast areas start start' slots same fast = record {
  full = fast.full;
  holds = λ i d h. same-slot areas start start' (get_or slots i d) same (fast.holds i d h);
  there = fast.there;
}

-- ---- the slot of a page
-- a tag with which a page begins
tag-page : (allowed : Bool) (own page rest : ℕ) → rest < 8 → tag_if allowed own ≡ page * 4096 + rest → (allowed ≡ true) × (rest ≡ 0) × (page ≡ own)
tag-page true own page rest r e = (refl, omega arith, omega arith)
tag-page false own page rest r e = absurd (omega arith)

module _ (areas : List Area) (start : ℕ → ℕ) (own : ℕ) (below : own < 2 ^ 52) (fits : start own < 2 ^ 64) where
  abbrev pub its_slot : Slot
  its_slot = slot_of own (perms_of areas own) (start own)

  slot-shift : (its_slot.shift + own * 4096) % 2 ^ 64 ≡ start own
  slot-shift = omega arith

  use-of : (access : Use) (page rest : ℕ) → page ≡ own → rest ≡ 0 → allows (perms_of areas own) (needed access) ≡ true → has_bytes access (start own) ≡ true → IsUse areas start its_slot access page rest
  use-of access page rest same exact permits own_bytes = record {
    exact = exact;
    permits = ap (λ p. allows (perms_of areas p) (needed access)) same ∙ permits;
    own = ap (λ p. has_bytes access (start p)) same ∙ own_bytes;
    shift = ap (λ p. (its_slot.shift + p * 4096) % 2 ^ 64) same ∙ slot-shift ∙ ap start (sym same);
  }

  pub own-slot : IsSlot areas start its_slot
  own-slot Load page rest r e = let t = tag-page (allows (perms_of areas own) 1) own page rest r e in use-of Load page rest t.2 t.1 t.0 refl
  own-slot Store page rest r e =
      let t = tag-page (ltb 0 (start own) && allows (perms_of areas own) 2) own page rest r e in
      let both = and_parts (ltb 0 (start own)) (allows (perms_of areas own) 2) t.0 in
      use-of Store page rest t.2 t.1 both.1 both.0
  own-slot Fetch page rest r e = let t = tag-page (allows (perms_of areas own) 4) own page rest r e in use-of Fetch page rest t.2 t.1 t.0 refl

  pub own-there : (access : Use) (page rest : ℕ) → rest < 8 → tag_of access its_slot ≡ page * 4096 + rest → page ≡ own
  own-there Load page rest r e = (tag-page (allows (perms_of areas own) 1) own page rest r e).2
  own-there Store page rest r e = (tag-page (ltb 0 (start own) && allows (perms_of areas own) 2) own page rest r e).2
  own-there Fetch page rest r e = (tag-page (allows (perms_of areas own) 4) own page rest r e).2

-- the slot of a page is set, whose bytes may have moved
module _ (areas : List Area) (start start' : ℕ → ℕ) (slots : List Slot) (own : ℕ) (fast : IsFast areas start slots) (below : own < 2 ^ 52) (fits : start' own < 2 ^ 64) (there : (p : ℕ) → (p ≡ own → ⊥) → start' p ≡ start p) where
  abbrev new : List Slot
  new = set slots (own % 1024) (slot_of own (perms_of areas own) (start' own))

  new-here : (d : Slot) → get_or new (own % 1024) d ≡ slot_of own (perms_of areas own) (start' own)
  new-here d = get_or-set_same slots (own % 1024) (slot_of own (perms_of areas own) (start' own)) d (let n : length slots ≡ 1024 = fast.full in omega arith)

  new-other : (i : ℕ) (d : Slot) → (i ≡ own % 1024 → ⊥) → get_or new i d ≡ get_or slots i d
  new-other i d ne = get_or-set_other slots (own % 1024) i (slot_of own (perms_of areas own) (start' own)) d ne

  other-slot : (i : ℕ) (d : Slot) → i < 1024 → (i ≡ own % 1024 → ⊥) → IsSlot areas start' (get_or slots i d)
  other-slot i d h ne access page rest r e =
      let u : IsUse areas start (get_or slots i d) access page rest = fast.holds i d h access page rest r e in
      let apart : page ≡ own → ⊥ = λ k. ne (sym (fast.there i d access page rest h r e) ∙ ap (λ n. n % 1024) k) in
      record {
        exact = u.exact;
        permits = u.permits;
        own = ap (has_bytes access) (there page apart) ∙ u.own;
        shift = u.shift ∙ sym (there page apart);
      }

  new-slots : (i : ℕ) (d : Slot) → i < 1024 → IsSlot areas start' (get_or new i d)
  new-slots i d h = elim (cases_eq i (own % 1024)) [
    | inl e ↦ subst (IsSlot areas start') (sym (ap (λ k. get_or new k d) e ∙ new-here d)) (own-slot areas start' own below fits)
    | inr ne ↦ subst (IsSlot areas start') (sym (new-other i d ne)) (other-slot i d h ne)
  ]

  new-there : (i : ℕ) (d : Slot) (access : Use) (page rest : ℕ) → i < 1024 → rest < 8 → tag_of access (get_or new i d) ≡ page * 4096 + rest → page % 1024 ≡ i
  new-there i d access page rest h r t = elim (cases_eq i (own % 1024)) [
    | inl e ↦
        ap (λ p. p % 1024) (own-there areas start' own below fits access page rest r (ap (tag_of access) (sym (ap (λ k. get_or new k d) e ∙ new-here d)) ∙ t)) ∙ sym e
    | inr ne ↦ fast.there i d access page rest h r (ap (tag_of access) (sym (new-other i d ne)) ∙ t)
  ]

  pub set-fast : IsFast areas start' (set slots (own % 1024) (slot_of own (perms_of areas own) (start' own)))
  set-fast = record {
    full = length-set slots (own % 1024) (slot_of own (perms_of areas own) (start' own)) ∙ fast.full;
    holds = new-slots;
    there = new-there;
  }

-- ---- a slot is used
-- bytes at a multiple of their number lie in one page
aligned : (address : ℕ) (width : Width) → address % bytes_in width ≡ 0 → address % 4096 + bytes_in width ≤ 4096
aligned address Byte e = omega arith
aligned address Half e = omega arith
aligned address Word e = omega arith
aligned address Double e = omega arith

rest-small : (address : ℕ) (width : Width) → address % bytes_in width < 8
rest-small address Byte = omega arith
rest-small address Half = omega arith
rest-small address Word = omega arith
rest-small address Double = omega arith

pub found-place : (areas : List Area) (start : ℕ → ℕ) (slot : Slot) (access : Use) (address at : ℕ) (width : Width) → address < 2 ^ 64 → start (address / 4096) + 4096 < 2 ^ 64 → IsSlot areas start slot → tag_of access slot ≡ address - address % 4096 + address % bytes_in width → at ≡ (address + slot.shift) % 2 ^ 64 → IsPlace areas start access address (bytes_in width) at
found-place areas start slot access address at width small ends is t a =
    let page : address - address % 4096 ≡ address / 4096 * 4096 = omega arith in
    let u : IsUse areas start slot access (address / 4096) (address % bytes_in width) = is access (address / 4096) (address % bytes_in width) (rest-small address width) (t ∙ ap (λ m. m + address % bytes_in width) page) in
    let moved : (slot.shift + address / 4096 * 4096) % 2 ^ 64 ≡ start (address / 4096) = u.shift in
    record {
      permits = u.permits;
      own = u.own;
      within = aligned address width u.exact;
      place = a ∙ (omega arith);
    }

-- the same of what was found, if something was
pub found-places : (areas : List Area) (start : ℕ → ℕ) (slot : Slot) (access : Use) (address : ℕ) (width : Width) (found : Option ℕ) → address < 2 ^ 64 → start (address / 4096) + 4096 < 2 ^ 64 → IsSlot areas start slot → IfSome found (λ at. (tag_of access slot ≡ address - address % 4096 + address % bytes_in width) × (at ≡ (address + slot.shift) % 2 ^ 64)) → IfSome found (λ at. IsPlace areas start access address (bytes_in width) at)
found-places areas start slot access address width None small ends is found = tt
found-places areas start slot access address width (Some at) small ends is found = found-place areas start slot access address at width small ends is found.0 found.1
