-- How many strings and words there are, where they stand, and what bytes they make.
use Rattle.std.proofs.Common.{◌≡◌, ℕ, suc, ◌+◌, ◌-◌, ◌*◌, ◌/◌, ◌%◌, ◌≤◌, false, refl, sym, ◌∙◌, ap, List, [], ◌∷◌, ◌++◌, length, replicate, arith}
use Rattle.std.specs.Prelude.{flat_map}
use Rattle.std.proofs.lemmas.List.{length-append, length-replicate, append_assoc}
use Rattle.std.proofs.lemmas.List.Concat.{flat_map-append}
use Rattle.lego_base.specs.Space.{bytes_of}
use Rattle.space_rules.specs.Start.{closed, closed_all, strings_of, is_too_big, strings_start, env_start, addresses, auxiliary_vector, words_of, word_count, sp_of, gap_of, stack_bytes}
use Rattle.space_rules.specs.Standing.{IsWithinStack, IsLayout}

-- the bytes of all strings
pub strings_size : (args env : List (List ℕ)) → length (strings_of args env) ≡ length (closed_all args) + length (closed_all env)
strings_size args env = ap (λ (b : List ℕ). length b) (flat_map-append closed args env) ∙ length-append (closed_all args) (closed_all env)

pub length_addresses : (from : ℕ) (strings : List (List ℕ)) → length (addresses from strings) ≡ length strings
length_addresses from [] = refl
length_addresses from (string ∷ strings) = ap suc (length_addresses (from + length (closed string)) strings)

-- argc, a word for each string, two zeros and the auxiliary vector
pub words_are : (args env : List (List ℕ)) (entry : ℕ) → length (words_of args env entry) ≡ length args + length env + 9
words_are args env entry =
    let first = length args ∷ addresses (strings_start args env) args in
    let second = 0 ∷ addresses (env_start args env) env in
    let a : length (addresses (strings_start args env) args) ≡ length args = length_addresses (strings_start args env) args in
    let e : length (addresses (env_start args env) env) ≡ length env = length_addresses (env_start args env) env in
    let one : length (first ++ second) ≡ length first + length second = length-append first second in
    let two : length (words_of args env entry) ≡ length (first ++ second) + 7 = length-append (first ++ second) (0 ∷ auxiliary_vector entry) in
    omega arith

pub words_size : (words : List ℕ) → length (flat_map (bytes_of 8) words) ≡ 8 * length words
words_size [] = refl
words_size (word ∷ words) = let rest : length (flat_map (bytes_of 8) words) ≡ 8 * length words = words_size words in omega arith

-- what isn't too big
pub few_strings : (args env : List (List ℕ)) → is_too_big args env ≡ false → (length args + length env ≤ 512) × (length (strings_of args env) ≤ 65536)
few_strings args env h = grind arith

-- the numbers of bytes of strings and of words
within_numbers : (size count start sp gap length_all : ℕ) → size ≤ 65536 → count ≤ 521 → start ≡ 274877841408 - size → sp ≡ (start - 8 * count) / 16 * 16 → gap ≡ start - (sp + 8 * count) → length_all ≡ 8 * count + gap + size → (274876792832 ≤ sp) × (sp + length_all ≡ 274877841408) × (sp % 16 ≡ 0)
within_numbers size count start sp gap length_all few some is_start is_sp is_gap is_all = (omega arith, omega arith, omega arith)

stack_size : (args env : List (List ℕ)) (entry : ℕ) → length (stack_bytes args env entry) ≡ 8 * word_count args env + gap_of args env + length (strings_of args env)
stack_size args env entry =
    let words : List ℕ = flat_map (bytes_of 8) (words_of args env entry) in
    let zeros : List ℕ = replicate (gap_of args env) 0 in
    length-append (words ++ zeros) (strings_of args env)
    ∙ ap (λ (n : ℕ). n + length (strings_of args env)) (length-append words zeros ∙ (λ i. (words_size (words_of args env entry) ∙ ap (λ (n : ℕ). 8 * n) (words_are args env entry ∙ sym (words_are args env 0))) i + length-replicate {A = ℕ} (gap_of args env) 0 i))

pub stack_within : (args env : List (List ℕ)) (entry : ℕ) → is_too_big args env ≡ false → IsWithinStack (sp_of args env) (stack_bytes args env entry)
stack_within args env entry h =
    let few = few_strings args env h in
    let strings : length args + length env ≤ 512 = few.0 in
    let count : word_count args env ≡ length args + length env + 9 = words_are args env 0 in
    let all = within_numbers (length (strings_of args env)) (word_count args env) (strings_start args env) (sp_of args env) (gap_of args env) (length (stack_bytes args env entry)) few.1 (omega arith) refl refl refl (stack_size args env entry) in
    record {
      start = all.0;
      ends = all.1;
      aligned = all.2;
    }

-- where the parts stand
pub laid_out : (args env : List (List ℕ)) (a e : ℕ) → a ≡ length (closed_all args) → e ≡ length (closed_all env) → IsLayout args env (record { strings = 274877841408 - (a + e); env = 274877841408 - (a + e) + a; sp = (274877841408 - (a + e) - 8 * (length args + length env + 9)) / 16 * 16; gap = 274877841408 - (a + e) - ((274877841408 - (a + e) - 8 * (length args + length env + 9)) / 16 * 16 + 8 * (length args + length env + 9)) })
laid_out args env a e is_a is_e =
    let size : a + e ≡ length (strings_of args env) = (λ i. is_a i + is_e i) ∙ sym (strings_size args env) in
    let count : length args + length env + 9 ≡ word_count args env = sym (words_are args env 0) in
    record {
      strings = λ i. 274877841408 - size i;
      env_strings = λ i. 274877841408 - size i + is_a i;
      sp = λ i. (274877841408 - size i - 8 * count i) / 16 * 16;
      gap = λ i. 274877841408 - size i - ((274877841408 - size i - 8 * count i) / 16 * 16 + 8 * count i);
    }

-- the words one after the other
words_bytes : (args env : List (List ℕ)) (entry : ℕ) → flat_map (bytes_of 8) (words_of args env entry) ≡ ((bytes_of 8 (length args) ++ flat_map (bytes_of 8) (addresses (strings_start args env) args)) ++ (bytes_of 8 0 ++ flat_map (bytes_of 8) (addresses (env_start args env) env))) ++ (bytes_of 8 0 ++ flat_map (bytes_of 8) (auxiliary_vector entry))
words_bytes args env entry =
    let first = length args ∷ addresses (strings_start args env) args in
    let second = 0 ∷ addresses (env_start args env) env in
    flat_map-append (bytes_of 8) (first ++ second) (0 ∷ auxiliary_vector entry)
    ∙ ap (λ (b : List ℕ). b ++ flat_map (bytes_of 8) (0 ∷ auxiliary_vector entry)) (flat_map-append (bytes_of 8) first second)

pieces : (w a v b u x z s t : List ℕ) → w ++ a ++ v ++ b ++ u ++ x ++ z ++ s ++ t ≡ ((w ++ a) ++ (v ++ b)) ++ (u ++ x) ++ z ++ (s ++ t)
pieces w a v b u x z s t =
    append_assoc (w ++ a ++ v ++ b ++ u ++ x ++ z) s t
    ∙ ap (λ (l : List ℕ). l ++ z ++ (s ++ t)) (append_assoc (w ++ a ++ v ++ b) u x ∙ ap (λ (l : List ℕ). l ++ (u ++ x)) (append_assoc (w ++ a) v b))

-- the bytes in the order in which they are written
pub stack_is : (args env : List (List ℕ)) (entry strings env_strings gap : ℕ) → strings ≡ strings_start args env → env_strings ≡ env_start args env → gap ≡ gap_of args env → bytes_of 8 (length args) ++ flat_map (bytes_of 8) (addresses strings args) ++ bytes_of 8 0 ++ flat_map (bytes_of 8) (addresses env_strings env) ++ bytes_of 8 0 ++ flat_map (bytes_of 8) (auxiliary_vector entry) ++ replicate gap 0 ++ closed_all args ++ closed_all env ≡ stack_bytes args env entry
stack_is args env entry strings env_strings gap s e g =
    (λ i. bytes_of 8 (length args) ++ flat_map (bytes_of 8) (addresses (s i) args) ++ bytes_of 8 0 ++ flat_map (bytes_of 8) (addresses (e i) env) ++ bytes_of 8 0 ++ flat_map (bytes_of 8) (auxiliary_vector entry) ++ replicate (g i) 0 ++ closed_all args ++ closed_all env)
    ∙ pieces (bytes_of 8 (length args)) (flat_map (bytes_of 8) (addresses (strings_start args env) args)) (bytes_of 8 0) (flat_map (bytes_of 8) (addresses (env_start args env) env)) (bytes_of 8 0) (flat_map (bytes_of 8) (auxiliary_vector entry)) (replicate (gap_of args env) 0) (closed_all args) (closed_all env)
    ∙ (λ i. sym (words_bytes args env entry) i ++ replicate (gap_of args env) 0 ++ sym (flat_map-append closed args env) i)

-- bytes that were written one piece after the other
pub written : (b c d e f g h k l m n p q r s t u v w : List ℕ) → b ≡ [] → c ≡ b ++ m → d ≡ c ++ n → e ≡ d ++ p → f ≡ e ++ q → g ≡ f ++ r → h ≡ g ++ s → k ≡ h ++ t → l ≡ k ++ u → w ≡ l ++ v → w ≡ m ++ n ++ p ++ q ++ r ++ s ++ t ++ u ++ v
written b c d e f g h k l m n p q r s t u v w e0 e1 e2 e3 e4 e5 e6 e7 e8 e9 =
    e9 ∙ ap (λ (x : List ℕ). x ++ v) (e8 ∙ ap (λ (x : List ℕ). x ++ u) (e7 ∙ ap (λ (x : List ℕ). x ++ t) (e6 ∙ ap (λ (x : List ℕ). x ++ s) (e5 ∙ ap (λ (x : List ℕ). x ++ r) (e4 ∙ ap (λ (x : List ℕ). x ++ q) (e3 ∙ ap (λ (x : List ℕ). x ++ p) (e2 ∙ ap (λ (x : List ℕ). x ++ n) (e1 ∙ ap (λ (x : List ℕ). x ++ m) e0))))))))
