-- Which loads share an address.
use Rattle.std.proofs.Common.{◌≡◌, ℕ, suc, zero, ◌+◌, ◌-◌, ◌<◌, ◌≤◌, max, min, Bool, false, ◌||◌, List, [], ◌∷◌, length, get_or, take, drop, refl, sym, ap, ◌∙◌, arith}
use Rattle.std.specs.List.{AllPairs, list_any}
use Rattle.std.proofs.lemmas.Bool.{ltb-true, lt-ltb, or_parts, or_from}
use Rattle.std.proofs.lemmas.List.{at_drop_more, at_drop_all, take_rest}
use Rattle.std.proofs.lemmas.List.Folds.{list_any_none}
use Rattle.elf_image.specs.declared.header.Header.{Header}
use Rattle.elf_image.specs.File.{load_end}
use Rattle.elf_image.specs.Image.{share, some_share}
use Rattle.elf_image.specs.Laws.{Holds, ShareIsCommonAddress, ApartIsEachPair}
use Rattle.elf_image.proofs.Lists.{no_header, each_fails}

-- whether one of the remaining loads shares: the first with a later one, or one of those
pub shares_here : (loads : List Header) (i : ℕ) (answer : Bool) → i < length loads → answer ≡ list_any (share (get_or loads i no_header)) (take (length loads - (i + 1)) (drop (i + 1) loads)) → some_share (drop i loads) ≡ (answer || some_share (drop (i + 1) loads))
unfolding some_share
shares_here loads i answer inside asked =
    at_drop_more some_share loads i no_header inside
    ∙ ap (λ (b : Bool). b || some_share (drop (i + 1) loads)) (sym (asked ∙ ap (list_any (share (get_or loads i no_header))) (take_rest loads (i + 1))))

-- after the last load nothing shares
pub shares_nowhere : (loads : List Header) (i : ℕ) → length loads ≤ i → some_share (drop i loads) ≡ false
unfolding some_share
shares_nowhere loads i past = at_drop_all some_share loads i past

-- two loads share exactly where both hold some address
pub common_address : ShareIsCommonAddress
common_address load other = (
  λ shared.
      let below : max load.vaddr other.vaddr < min (load_end load) (load_end other) = ltb-true _ _ shared in
      let in_load : Holds load (max load.vaddr other.vaddr) = (omega arith, omega arith) in
      let in_other : Holds other (max load.vaddr other.vaddr) = (omega arith, omega arith) in
      (max load.vaddr other.vaddr, in_load, in_other),
  λ (address, in_load, in_other). lt-ltb _ _ (omega (arith, in_load.0, in_load.1, in_other.0, in_other.1)),
)

-- a load that shares with none of others that don't share
pair : (load : Header) (loads : List Header) → ((k : ℕ) (d : Header) → k < length loads → share load (get_or loads k d) ≡ false) → AllPairs (λ load other. share load other ≡ false) loads → (i j : ℕ) (d : Header) → i < j → j < suc (length loads) → share (get_or (load ∷ loads) i d) (get_or (load ∷ loads) j d) ≡ false
pair load loads first rest i zero d before inside = absurd (omega arith)
pair load loads first rest zero (suc j) d before inside = first j d (omega arith)
pair load loads first rest (suc i) (suc j) d before inside = rest i j d (omega arith) (omega arith)

pairs : (loads : List Header) → some_share loads ≡ false → AllPairs (λ load other. share load other ≡ false) loads
unfolding some_share
pairs [] apart = λ i j d before inside. absurd (omega arith)
pairs (load ∷ loads) apart =
    let parts = or_parts (list_any (share load) loads) (some_share loads) apart in
    λ i j d before inside. pair load loads (each_fails (share load) loads parts.0) (pairs loads parts.1) i j d before inside

apart_from : (loads : List Header) → AllPairs (λ load other. share load other ≡ false) loads → some_share loads ≡ false
unfolding some_share
apart_from [] each = refl
apart_from (load ∷ loads) each =
    or_from (list_any (share load) loads) (some_share loads) (list_any_none (share load) loads (λ k d inside. each 0 (suc k) d (omega arith) (omega arith))) (apart_from loads (λ i j d before inside. each (suc i) (suc j) d (omega arith) (omega arith)))

pub each_pair : ApartIsEachPair
each_pair loads = (pairs loads, apart_from loads)
