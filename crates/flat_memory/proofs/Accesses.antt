-- Reads of the bytes of a space.
use Rattle.std.proofs.Common.{◌≡◌, ℕ, zero, suc, ◌+◌, ◌-◌, ◌*◌, ◌/◌, ◌%◌, ◌^◌, ◌≤◌, ◌<◌, List, [], ◌∷◌, leb, ltb, cond, Some, subst, ◌++◌, length, get_or, take, drop, Bool, true, false, ◌&&◌, refl, sym, ◌∙◌, ap, arith, lit<}
use Rattle.std.proofs.lemmas.Bool.{true≢false, false≢true, and_parts, ltb-true}
use Rattle.std.proofs.lemmas.List.{drop_more}
use Rattle.std.proofs.Math.Nat.{pow-suc, pow-le-pow_right}
use Rattle.lego_base.specs.declared.records.Area.{Area}
use Rattle.lego_base.specs.Space.{Space, has_page, perms_of, allows, permits, bytes_at, number_of}
use Rattle.rv64_step.specs.declared.width.Width.{Width}
use Rattle.rv64_step.specs.declared.width.Width.TheVariants.{Byte, Half, Word, Double}
use Rattle.rv64_step.specs.Access.{bytes_in}
use Rattle.area_list.specs.Runs.{IsCanonical}
use Rattle.flat_memory.specs.declared.slot.Use.{Use}
use Rattle.flat_memory.specs.Pieces.{place_in, byte_in, window, IsPieces}
use Rattle.flat_memory.specs.FastPath.{needed, IsPlace}

-- ---- permissions
and-self : (x y : Bool) → (x && (x && y)) ≡ (x && y)
and-self true y = refl
and-self false y = refl

and-yes : (x : Bool) → (x && true) ≡ x
and-yes true = refl
and-yes false = refl

and-no : (x y : Bool) → x ≡ false → (x && y) ≡ false
and-no true y e = absurd (true≢false e)
and-no false y e = refl

-- the first bytes of some are permitted where their page permits them, if they lie in one page
pub permits-page : (space : Space) (need address m n k : ℕ) → suc m + n ≡ k → address % 4096 + suc m ≤ 4096 → permits space need address k ≡ (allows (perms_of space.areas (address / 4096)) need && permits space need (address + suc m) n)
permits-page space need address zero n k e h =
    let one : k ≡ suc n = omega arith in
    ap (permits space need address) one
permits-page space need address (suc m) n zero e h = absurd (omega arith)
permits-page space need address (suc m) n (suc k) e h =
    let page : (address + 1) / 4096 ≡ address / 4096 = omega arith in
    let next : address + 1 + suc m ≡ address + suc (suc m) = omega arith in
    ap (λ b. allows (perms_of space.areas (address / 4096)) need && b)
    (permits-page space need (address + 1) m n k (omega arith) (omega arith)
    ∙ ap (λ p. allows (perms_of space.areas p) need && permits space need (address + 1 + suc m) n) page
    ∙ ap (λ a. allows (perms_of space.areas (address / 4096)) need && permits space need a n) next)
    ∙ and-self (allows (perms_of space.areas (address / 4096)) need) (permits space need (address + suc (suc m)) n)

-- bytes of one page are permitted where the page permits them
pub permits-within : (space : Space) (need address n : ℕ) → 0 < n → address % 4096 + n ≤ 4096 → permits space need address n ≡ allows (perms_of space.areas (address / 4096)) need
permits-within space need address zero p h = absurd (omega arith)
permits-within space need address (suc n) p h = permits-page space need address n 0 (suc n) (omega arith) h ∙ and-yes (allows (perms_of space.areas (address / 4096)) need)

-- some bytes are permitted where those after the first ones are, if these are
pub permits-room : (space : Space) (need address room left : ℕ) → 0 < room → room ≤ left → address % 4096 + room ≤ 4096 → allows (perms_of space.areas (address / 4096)) need ≡ true → permits space need (address + room) (left - room) ≡ permits space need address left
permits-room space need address zero left p f h ok = absurd (omega arith)
permits-room space need address (suc m) left p f h ok = sym (permits-page space need address m (left - suc m) left (omega arith) h ∙ ap (λ b. b && permits space need (address + suc m) (left - suc m)) ok)

-- bytes are refused where the page of the first is
pub permits-first : (space : Space) (need address n : ℕ) → 0 < n → allows (perms_of space.areas (address / 4096)) need ≡ false → permits space need address n ≡ false
permits-first space need address zero p refused = absurd (omega arith)
permits-first space need address (suc n) p refused = and-no (allows (perms_of space.areas (address / 4096)) need) (permits space need (address + 1) n) refused

-- canonical runs permit nothing past the end of the addresses
pub permits-end : (runs : List Area) (page need : ℕ) → IsCanonical runs → allows (perms_of runs page) need ≡ true → page < 2 ^ 26
permits-end [] page need c h = absurd (false≢true h)
permits-end (area ∷ runs) page need c h = by_area (has_page area page) refl (permits-end runs page need c.3)
  where
    by_area : (b : Bool) → has_page area page ≡ b → (allows (perms_of runs page) need ≡ true → page < 2 ^ 26) → page < 2 ^ 26
    by_area true e rest =
        let below : page < area.first.0 + area.pages = ltb-true page (area.first.0 + area.pages) (and_parts (leb area.first.0 page) (ltb page (area.first.0 + area.pages)) e).1 in
        let end : area.first.0 + area.pages ≤ 2 ^ 26 = c.1 in
        omega arith
    by_area false e rest = rest (subst (λ b. allows (cond b (Some area.perms) (perms_of runs page)) need ≡ true) e h)

-- ---- bytes
-- bytes of one page are next to each other
pub bytes-within : (start : ℕ → ℕ) (areas : List Area) (bytes : List ℕ) (address n : ℕ) → address % 4096 + n ≤ 4096 → bytes_at (record { areas = areas; byte = byte_in start bytes }) address n ≡ window bytes (place_in start address) n
unfolding byte_in
bytes-within start areas bytes address zero h = refl
bytes-within start areas bytes address (suc zero) h = refl
bytes-within start areas bytes address (suc (suc n)) h =
    let page : (address + 1) / 4096 ≡ address / 4096 = omega arith in
    let same : start ((address + 1) / 4096) ≡ start (address / 4096) = ap start page in
    let place : place_in start (address + 1) ≡ place_in start address + 1 = omega arith in
    ap (λ xs. get_or bytes (place_in start address) 0 ∷ xs) (bytes-within start areas bytes (address + 1) (suc n) (omega arith) ∙ ap (λ k. window bytes k (suc n)) place)

-- a window as a part of the list
pub window-part : (bytes : List ℕ) (at n : ℕ) → at + n ≤ length bytes → window bytes at n ≡ take n (drop at bytes)
window-part bytes at zero h = refl
window-part bytes at (suc n) h =
    ap (λ xs. get_or bytes at 0 ∷ xs) (window-part bytes (at + 1) n (omega arith))
    ∙ sym (ap (take (suc n)) (drop_more bytes at 0 (omega arith)))

pub bytes_at-append : (space : Space) (address m n : ℕ) → bytes_at space address (m + n) ≡ bytes_at space address m ++ bytes_at space (address + m) n
bytes_at-append space address zero n = let a : zero + n ≡ n = omega arith in let b : address + zero ≡ address = omega arith in ap (bytes_at space address) a ∙ sym (ap (λ k. bytes_at space k n) b)
bytes_at-append space address (suc m) n =
    let a : suc m + n ≡ suc (m + n) = omega arith in
    let b : address + 1 + m ≡ address + suc m = omega arith in
    ap (bytes_at space address) a
    ∙ ap (λ xs. space.byte address ∷ xs) (bytes_at-append space (address + 1) m n ∙ ap (λ k. bytes_at space (address + 1) m ++ bytes_at space k n) b)

-- ---- numbers
pub width-some : (width : Width) → (0 < bytes_in width) × (bytes_in width ≤ 8)
width-some Byte = (omega arith, omega arith)
width-some Half = (omega arith, omega arith)
width-some Word = (omega arith, omega arith)
width-some Double = (omega arith, omega arith)

-- one byte more in front
pub number-more : (space : Space) (a b m r value byte : ℕ) → m ≡ suc r → a + 1 ≡ b → value ≡ number_of (bytes_at space b r) → byte ≡ space.byte a → value * 256 + byte ≡ number_of (bytes_at space a m)
number-more space a b m r value byte n next v h =
    let rest : number_of (bytes_at space (a + 1) r) ≡ value = ap (λ k. number_of (bytes_at space k r)) next ∙ sym v in
    let all : number_of (bytes_at space a m) ≡ space.byte a + 256 * number_of (bytes_at space (a + 1) r) = ap (λ k. number_of (bytes_at space a k)) n in
    omega arith

-- one byte more in front fits
pub number-fits : (value byte n : ℕ) → value < 256 ^ n → byte < 256 → value * 256 + byte < 256 ^ suc n
number-fits value byte n h b = let p : 256 ^ suc n ≡ 256 ^ n * 256 = pow-suc 256 n in omega arith

-- and stays a word
pub word-fits : (value byte n : ℕ) → value < 256 ^ n → byte < 256 → n < 8 → value * 256 + byte < 2 ^ 64
word-fits value byte n h b small =
    let one : value * 256 + byte < 256 ^ suc n = number-fits value byte n h b in
    let some : 0 < 256 = lit< tt in
    let few : suc n ≤ 8 = omega arith in
    let most : 256 ^ suc n ≤ 256 ^ 8 = pow-le-pow_right some few in
    omega arith

-- ---- a place where bytes of one page are
module _ (areas : List Area) (start : ℕ → ℕ) (bytes : List ℕ) (access : Use) (address at : ℕ) (width : Width) (p : IsPlace areas start access address (bytes_in width) at) where
  pub place-ends : IsPieces start bytes → at + bytes_in width ≤ length bytes
  place-ends s = let e : start (address / 4096) + 4096 ≤ length bytes = s.ends (address / 4096) in let a : at ≡ start (address / 4096) + address % 4096 = p.place in let i : address % 4096 + bytes_in width ≤ 4096 = p.within in omega arith

  pub place-permits : permits (record { areas = areas; byte = byte_in start bytes }) (needed access) address (bytes_in width) ≡ true
  place-permits = permits-within (record { areas = areas; byte = byte_in start bytes }) (needed access) address (bytes_in width) (width-some width).0 p.within ∙ p.permits

  pub place-number : number_of (window bytes at (bytes_in width)) ≡ number_of (bytes_at (record { areas = areas; byte = byte_in start bytes }) address (bytes_in width))
  place-number =
      ap (λ n. number_of (window bytes n (bytes_in width))) p.place
      ∙ ap number_of (sym (bytes-within start areas bytes address (bytes_in width) p.within))
