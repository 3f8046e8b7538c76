-- Bytes that are written page by page.
use Rattle.std.proofs.Common.{◌≡◌, ℕ, zero, suc, ◌+◌, ◌-◌, ◌*◌, ◌%◌, ◌≤◌, inl, inr, refl, sym, ◌∙◌, ap, List, [], ◌∷◌, ◌++◌, length, take, drop, arith}
use Rattle.std.proofs.lemmas.Bool.{cases_lt}
use Rattle.std.proofs.lemmas.List.{length-take-le, take-append-drop, length-drop}
use Rattle.lego_base.specs.Space.{Space, with_bytes}
use Rattle.rv64_step.proofs.Writes.{with_bytes-append, with_bytes-none}
use Rattle.space_rules.specs.Pages.{pages_met}

-- a space once bytes in n pages were written page by page
abbrev pub with_cut : ℕ → ℕ → List ℕ → Space → Space
with_cut zero address bytes space = space
with_cut (suc pages) address bytes space = with_cut pages (address + (4096 - address % 4096)) (drop (4096 - address % 4096) bytes) (with_bytes space address (take (4096 - address % 4096) bytes))

take_all : (n : ℕ) (xs : List ℕ) → length xs ≤ n → take n xs ≡ xs
take_all zero [] h = refl
take_all zero (x ∷ xs) h = absurd (omega arith)
take_all (suc n) [] h = refl
take_all (suc n) (x ∷ xs) h = ap (λ (xs : List ℕ). x ∷ xs) (take_all n xs (omega arith))

drop_all : (n : ℕ) (xs : List ℕ) → length xs ≤ n → drop n xs ≡ []
drop_all zero [] h = refl
drop_all zero (x ∷ xs) h = absurd (omega arith)
drop_all (suc n) [] h = refl
drop_all (suc n) (x ∷ xs) h = drop_all n xs (omega arith)

-- the first bytes, then the others where there are any
parts : (n address : ℕ) (bytes : List ℕ) (space : Space) → with_bytes (with_bytes space address (take n bytes)) (address + n) (drop n bytes) ≡ with_bytes space address bytes
parts n address bytes space = elim (cases_lt n (length bytes)) [
  | inl more ↦
      let size : length (take n bytes) ≡ n = length-take-le n bytes (omega arith) in
      ap (λ (m : ℕ). with_bytes (with_bytes space address (take n bytes)) (address + m) (drop n bytes)) (sym size)
      ∙ with_bytes-append space address (take n bytes) (drop n bytes)
      ∙ ap (with_bytes space address) (take-append-drop n bytes)
  | inr all ↦
      (λ i. with_bytes (with_bytes space address (take_all n bytes all i)) (address + n) (drop_all n bytes all i))
      ∙ with_bytes-none (with_bytes space address bytes) (address + n)
]

no_more : (bytes : List ℕ) → length bytes ≤ 0 → bytes ≡ []
no_more [] h = refl
no_more (byte ∷ bytes) h = absurd (omega arith)

-- bytes in pages that suffice are written whole
pub cut_is : (pages address : ℕ) (bytes : List ℕ) (space : Space) → address % 4096 + length bytes ≤ pages * 4096 → with_cut pages address bytes space ≡ with_bytes space address bytes
cut_is zero address bytes space h = sym (ap (with_bytes space address) (no_more bytes (omega arith)) ∙ with_bytes-none space address)
cut_is (suc pages) address bytes space h =
    let room : ℕ = 4096 - address % 4096 in
    let left : length (drop (4096 - address % 4096) bytes) ≡ length bytes - (4096 - address % 4096) = length-drop (4096 - address % 4096) bytes in
    cut_is pages (address + (4096 - address % 4096)) (drop (4096 - address % 4096) bytes) (with_bytes space address (take (4096 - address % 4096) bytes)) (omega arith)
    ∙ parts (4096 - address % 4096) address bytes space

pub pages_suffice : (address n : ℕ) → address % 4096 + n ≤ pages_met address n * 4096
pages_suffice address n = omega arith
