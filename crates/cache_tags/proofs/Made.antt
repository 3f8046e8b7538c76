-- Sets that are made one after another.
use Rattle.std.proofs.Common.{◌≡◌, ◌+◌, ◌-◌, ◌*◌, ◌%◌, ◌<◌, ◌≤◌, ◌++◌, [], ◌∷◌, ◌∙◌, ℕ, List, add-one, ap, arith, length, map, refl, suc, sym, zero}
use Rattle.std.proofs.lemmas.Nat.{and_mask}
use Rattle.std.specs.Int.{IsPowerOfTwo}
use Rattle.std.specs.Prelude.{bit_and}
use Rattle.std.proofs.Math.Nat.{mul-le-mul_left}
use Rattle.std.proofs.lemmas.List.{map_push}
use Rattle.std.specs.List.{range_with_len}
use Rattle.cache_tags.specs.Lists.{empty_set, free_entry}
use Rattle.cache_tags.specs.Sets.{SetLines, slot_of}
use Rattle.cache_tags.specs.Tags.{empty_sets}

range_more : (a n : ℕ) → range_with_len a (suc n) ≡ range_with_len a n ++ (a + n) ∷ []
range_more a zero = let e : a ≡ a + 0 = omega arith in ap (λ (k : ℕ). k ∷ []) e
range_more a (suc n) =
    let e : a + 1 + n ≡ a + suc n = omega arith in
    ap (λ (ks : List ℕ). a ∷ ks) (range_more (a + 1) n ∙ ap (λ (k : ℕ). range_with_len (a + 1) n ++ k ∷ []) e)

pub entries_more : (first way : ℕ) → map free_entry (range_with_len first (way + 1)) ≡ map free_entry (range_with_len first way) ++ free_entry (first + way) ∷ []
entries_more first way =
    ap (λ (n : ℕ). map free_entry (range_with_len first n)) (add-one way)
    ∙ ap (map free_entry) (range_more first way)
    ∙ map_push free_entry (range_with_len first way) (first + way)

more_sets : (n ways first : ℕ) → empty_sets (suc n) ways first ≡ empty_sets n ways first ++ empty_set (first + n * ways) ways ∷ []
more_sets zero ways first = let e : first ≡ first + 0 * ways = omega arith in ap (λ (k : ℕ). empty_set k ways ∷ []) e
more_sets (suc n) ways first =
    let e : first + ways + n * ways ≡ first + suc n * ways = omega arith in
    ap (λ (ss : List SetLines). empty_set first ways ∷ ss) (more_sets n ways (first + ways) ∙ ap (λ (k : ℕ). empty_sets n ways (first + ways) ++ empty_set k ways ∷ []) e)

pub sets_more : (n ways : ℕ) → empty_sets (n + 1) ways 0 ≡ empty_sets n ways 0 ++ empty_set (n * ways) ways ∷ []
sets_more n ways =
    let e : 0 + n * ways ≡ n * ways = omega arith in
    ap (λ (k : ℕ). empty_sets k ways 0) (add-one n) ∙ more_sets n ways 0 ∙ ap (λ (k : ℕ). empty_sets n ways 0 ++ empty_set k ways ∷ []) e

pub slots_fit : (number sets ways : ℕ) → number < sets → number * ways + ways ≤ sets * ways
slots_fit number sets ways less = let e = mul-le-mul_left ways (let le : number + 1 ≤ sets = omega (arith, less) in le) in omega (arith, e)

pub free_slots : (slots : List ℕ) → map slot_of (map free_entry slots) ≡ slots
free_slots [] = refl
free_slots (slot ∷ slots) = ap (λ (ks : List ℕ). slot ∷ ks) (free_slots slots)

pub length-empty_sets : (n ways first : ℕ) → length (empty_sets n ways first) ≡ n
length-empty_sets zero ways first = refl
length-empty_sets (suc n) ways first = ap suc (length-empty_sets n ways (first + ways))

-- a mask is a remainder, where the count of sets is a power of two
pub masked : (sets : ℕ) → IsPowerOfTwo sets → (line : ℕ) → bit_and line (sets - 1) ≡ line % sets
masked sets power line =
    ap (λ (n : ℕ). bit_and line (n - 1)) power.1 ∙ and_mask line power.0 ∙ ap (λ (n : ℕ). line % n) (sym power.1)
