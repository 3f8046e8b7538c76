-- The table of headers, while it is read.
use Rattle.std.proofs.Common.{◌≡◌, ℕ, suc, ◌+◌, ◌-◌, List, [], ◌∷◌, ◌++◌, sym, ap, ◌∙◌, append_assoc, append-nil, arith}
use Rattle.elf_image.specs.declared.header.Header.{Header}
use Rattle.elf_image.specs.File.{header_at, headers_from, headers, table_offset, header_count}

-- before the first header was read
pub none_read : (bytes : List ℕ) (table : List Header) (at count : ℕ) → table ≡ [] → at ≡ table_offset bytes → count ≡ header_count bytes → table ++ headers_from bytes at (count - 0) ≡ headers bytes
unfolding headers
none_read bytes table at count empty begins counts =
    let same : count - 0 ≡ header_count bytes = omega arith in
    ap (λ (t : List Header). t ++ headers_from bytes at (count - 0)) empty ∙ (ap (λ (a : ℕ). headers_from bytes a (count - 0)) begins ∙ ap (λ (n : ℕ). headers_from bytes (table_offset bytes) n) same)

-- after one more
pub one_read : (bytes : List ℕ) (table more : List Header) (header : Header) (at left n : ℕ) → more ≡ table ++ header ∷ [] → header ≡ header_at bytes at → n ≡ suc left → table ++ headers_from bytes at n ≡ headers bytes → more ++ headers_from bytes (at + 56) left ≡ headers bytes
one_read bytes table more header at left n grown read step before =
    ap (λ (t : List Header). t ++ headers_from bytes (at + 56) left) grown
    ∙ (append_assoc table (header ∷ []) (headers_from bytes (at + 56) left)
    ∙ (ap (λ (h : Header). table ++ h ∷ headers_from bytes (at + 56) left) read
    ∙ (ap (λ (k : ℕ). table ++ headers_from bytes at k) (sym step) ∙ before)))

-- after the last
pub all_read : (bytes : List ℕ) (table : List Header) (at n : ℕ) → n ≡ 0 → table ++ headers_from bytes at n ≡ headers bytes → table ≡ headers bytes
all_read bytes table at n last before =
    sym (append-nil table) ∙ (ap (λ (k : ℕ). table ++ headers_from bytes at k) (sym last) ∙ before)
