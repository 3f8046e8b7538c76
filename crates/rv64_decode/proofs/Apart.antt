-- No two rows of the table share a word, so each row decodes its own.
use Rattle.std.proofs.Common.{ℕ, ◌≡◌, arith, ◌==◌, ◌&&◌, Bool, true, false, List, [], ◌∷◌, Some, None, refl, ap, sym, ◌∙◌}
use Rattle.std.specs.Prelude.{All, AllPairs, bit_and, not}
use Rattle.std.specs.List.{find, list_all}
use Rattle.std.specs.Option.{option_map}
use Rattle.std.proofs.lemmas.Bool.{and_parts, eqb-false, not-true, cond-true, cond-false, false_from_ne_true}
use Rattle.std.proofs.lemmas.Nat.{and_assoc, and_comm}
use Rattle.std.proofs.lemmas.List.Kept.{AllPairs-cons}
use Rattle.std.proofs.lemmas.List.Elements.{All-cons, All-nil, All-head, All-tail}
use Rattle.rv64_decode.specs.Encoding.{immediate}
use Rattle.rv64_decode.specs.Table.{Row, table, row_of, decoded, with_registers, fits, mask_of, match_of}
use Rattle.rv64_decode.specs.Laws.{NoTwoShare, RowsDecode, OthersAreNone}
use Rattle.rv64_decode.proofs.Masks.{is_narrow, all_from, fits_by_mask}

-- a word of both rows would have, under both masks, both matches
abbrev pub are_apart : Row → Row → Bool
are_apart r s = not (bit_and (match_of r) (mask_of s) == bit_and (match_of s) (mask_of r))

abbrev pub all_apart : List Row → Bool
all_apart [] = true
all_apart (r ∷ rows) = list_all (λ s. is_narrow s && are_apart r s) rows && all_apart rows

no_common_word : (w : ℕ) (r s : Row) → is_narrow r ≡ true → (is_narrow s && are_apart r s) ≡ true → fits w r ≡ true → fits w s ≡ true → ⊥
no_common_word w r s narrow_r e in_r in_s =
    let parts = and_parts (is_narrow s) (are_apart r s) e in
    let has_r : bit_and w (mask_of r) ≡ match_of r = (fits_by_mask w r narrow_r).0 in_r in
    let has_s : bit_and w (mask_of s) ≡ match_of s = (fits_by_mask w s parts.0).0 in_s in
    let same : bit_and (match_of r) (mask_of s) ≡ bit_and (match_of s) (mask_of r) =
    ap (λ v. bit_and v (mask_of s)) (sym has_r)
    ∙ and_assoc (mask_of s) w (mask_of r)
    ∙ ap (bit_and w) (and_comm (mask_of r) (mask_of s))
    ∙ sym (and_assoc (mask_of r) w (mask_of s))
    ∙ ap (λ v. bit_and v (mask_of r)) has_s in
    eqb-false (bit_and (match_of r) (mask_of s)) (bit_and (match_of s) (mask_of r)) (not-true _ parts.1) same

pairs_apart : (w : ℕ) (rows : List Row) → list_all is_narrow rows ≡ true → all_apart rows ≡ true
    → AllPairs (λ r s. fits w r ≡ true → fits w s ≡ true → ⊥) rows
pairs_apart w [] narrow apart = λ i j d below inside. absurd (omega arith)
pairs_apart w (r ∷ rows) narrow apart =
    let narrow_parts = and_parts (is_narrow r) (list_all is_narrow rows) narrow in
    let apart_parts = and_parts (list_all (λ s. is_narrow s && are_apart r s) rows) (all_apart rows) apart in
    AllPairs-cons (λ r s. fits w r ≡ true → fits w s ≡ true → ⊥) r rows
    (all_from (λ s. fits w r ≡ true → fits w s ≡ true → ⊥) (λ s. is_narrow s && are_apart r s) (λ s e. no_common_word w r s narrow_parts.0 e) rows apart_parts.0)
    (pairs_apart w rows narrow_parts.1 apart_parts.1)

pub table_is_apart : NoTwoShare
unfolding table
table_is_apart w = pairs_apart w table refl refl

found : (w : ℕ) (rows : List Row) → list_all is_narrow rows ≡ true → all_apart rows ≡ true → All (λ s. fits w s ≡ true → find (fits w) rows ≡ Some s) rows
found w [] narrow apart = All-nil (λ s. fits w s ≡ true → find (fits w) [] ≡ Some s)
found w (r ∷ rows) narrow apart =
    let narrow_parts = and_parts (is_narrow r) (list_all is_narrow rows) narrow in
    let apart_parts = and_parts (list_all (λ s. is_narrow s && are_apart r s) rows) (all_apart rows) apart in
    let later : All (λ s. fits w s ≡ true → fits w r ≡ true → ⊥) rows =
    all_from (λ s. fits w s ≡ true → fits w r ≡ true → ⊥) (λ s. is_narrow s && are_apart r s)
    (λ s e in_s in_r. no_common_word w r s narrow_parts.0 e in_r in_s) rows apart_parts.0 in
    All-cons (λ s. fits w s ≡ true → find (fits w) (r ∷ rows) ≡ Some s) r rows
    (cond-true (fits w r) (Some r) (find (fits w) rows))
    (λ k d below in_s.
    let misses : fits w r ≡ false = false_from_ne_true (fits w r) (later k d below in_s) in
    cond-false (fits w r) (Some r) (find (fits w) rows) misses ∙ found w rows narrow_parts.1 apart_parts.1 k d below in_s)

not_found : (w : ℕ) (rows : List Row) → All (λ r. fits w r ≡ false) rows → find (fits w) rows ≡ None
not_found w [] misses = refl
not_found w (r ∷ rows) misses =
    cond-false (fits w r) (Some r) (find (fits w) rows) (All-head (λ s. fits w s ≡ false) r rows misses)
    ∙ not_found w rows (All-tail (λ s. fits w s ≡ false) r rows misses)

pub table_decodes : RowsDecode
unfolding decoded row_of table
table_decodes w k d below in_row = ap (option_map (λ r. with_registers w r.op (immediate r.format w))) (found w table refl refl k d below in_row)

pub table_leaves_others : OthersAreNone
unfolding decoded row_of
table_leaves_others w misses = ap (option_map (λ r. with_registers w r.op (immediate r.format w))) (not_found w table misses)
