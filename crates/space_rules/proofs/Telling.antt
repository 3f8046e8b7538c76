-- A program that reads its stack finds the strings.
use Rattle.std.proofs.Common.{◌≡◌, ℕ, zero, suc, ◌+◌, ◌-◌, ◌*◌, ◌/◌, ◌^◌, ◌<◌, ◌≤◌, false, refl, sym, ◌∙◌, ap, List, [], ◌∷◌, ◌++◌, length, take, drop, get_or, replicate, arith}
use Rattle.std.specs.Prelude.{flat_map}
use Rattle.std.proofs.lemmas.List.{length-append, length-replicate, append_assoc, take-append-drop, take_at, take-append-le, drop_at, drop-drop, drop_more, get_or_append_left, get_or-append-add}
use Rattle.std.proofs.lemmas.List.Concat.{flat_map-append}
use Rattle.lego_base.specs.Space.{bytes_of, number_of}
use Rattle.space_rules.specs.Start.{closed, closed_all, strings_of, is_too_big, strings_start, env_start, addresses, auxiliary_vector, words_of, word_count, sp_of, gap_of, stack_bytes}
use Rattle.space_rules.specs.Told.{word_at, StandsAt, TellsAll}
use Rattle.space_rules.proofs.Strings.{strings_size, length_addresses, words_are, words_size, few_strings}

-- a word is the number of its bytes
word_back : (word : ℕ) → word < 2 ^ 64 → number_of (bytes_of 8 word) ≡ word
word_back word h = omega arith

-- the eight bytes of a word
eight : (words rest : List ℕ) (k : ℕ) → k < length words → take 8 (drop (8 * k) (flat_map (bytes_of 8) words ++ rest)) ≡ bytes_of 8 (get_or words k 0)
eight [] rest k h = absurd (omega arith)
eight (word ∷ words) rest zero h = refl
eight (word ∷ words) rest (suc k) h =
    let e : 8 * suc k ≡ suc (suc (suc (suc (suc (suc (suc (suc (8 * k)))))))) = omega arith in
    ap (λ (n : ℕ). take 8 (drop n (flat_map (bytes_of 8) (word ∷ words) ++ rest))) e ∙ eight words rest k (omega arith)

-- the word at a place, where it is known
found : (words rest bytes : List ℕ) (k place word : ℕ) → bytes ≡ flat_map (bytes_of 8) words ++ rest → place ≡ k → k < length words → get_or words k 0 ≡ word → word < 2 ^ 64 → word_at bytes place ≡ word
found words rest bytes k place word is at h there small =
    (λ i. word_at (is i) (at i)) ∙ ap number_of (eight words rest k h) ∙ ap (λ (w : ℕ). number_of (bytes_of 8 w)) there ∙ word_back word small

-- the address of a string, after those before it
address_of : (from : ℕ) (strings : List (List ℕ)) (i : ℕ) → i < length strings → get_or (addresses from strings) i 0 ≡ from + length (closed_all (take i strings))
address_of from [] i h = absurd (omega arith)
address_of from (string ∷ strings) zero h = omega arith
address_of from (string ∷ strings) (suc i) h =
    let rest : get_or (addresses (from + length (closed string)) strings) i 0 ≡ from + length (closed string) + length (closed_all (take i strings)) = address_of (from + length (closed string)) strings i (omega arith) in
    let both : length (closed string ++ closed_all (take i strings)) ≡ length (closed string) + length (closed_all (take i strings)) = length-append (closed string) (closed_all (take i strings)) in
    omega arith

drop_behind : (front rest : List ℕ) (n : ℕ) → drop (length front + n) (front ++ rest) ≡ drop n rest
drop_behind front rest n = sym (drop-drop n (length front) (front ++ rest)) ∙ ap (λ (l : List ℕ). drop n l) (drop_at front rest (length front) refl)

-- a string among strings, after other bytes
string_at : (front : List ℕ) (strings : List (List ℕ)) (i : ℕ) → i < length strings → take (length (closed (get_or strings i []))) (drop (length front + length (closed_all (take i strings))) (front ++ closed_all strings)) ≡ closed (get_or strings i [])
string_at front strings i h =
    let string = get_or strings i [] in
    let before = closed_all (take i strings) in
    let behind = closed_all (drop (i + 1) strings) in
    let all : closed_all strings ≡ before ++ (closed string ++ behind) = ap closed_all (sym (take-append-drop i strings)) ∙ flat_map-append closed (take i strings) (drop i strings) ∙ ap (λ (l : List (List ℕ)). before ++ closed_all l) (drop_more strings i [] h) in
    ap (λ (l : List ℕ). take (length (closed string)) l) (
    drop_behind front (closed_all strings) (length before)
    ∙ ap (λ (l : List ℕ). drop (length before) l) all
    ∙ drop_at before (closed string ++ behind) (length before) refl)
    ∙ take_at (closed string) behind (length (closed string)) refl

-- the words in their order
words_first : (args env : List (List ℕ)) (entry i : ℕ) → i < length args → get_or (words_of args env entry) (suc i) 0 ≡ get_or (addresses (strings_start args env) args) i 0
words_first args env entry i h =
    let first = addresses (strings_start args env) args in
    let second = 0 ∷ addresses (env_start args env) env in
    let size : length first ≡ length args = length_addresses (strings_start args env) args in
    let both : length (first ++ second) ≡ length first + length second = length-append first second in
    get_or_append_left (first ++ second) (0 ∷ auxiliary_vector entry) 0 i (omega arith) ∙ get_or_append_left first second 0 i (omega arith)

words_second : (args env : List (List ℕ)) (entry i : ℕ) → i ≤ length env → get_or (words_of args env entry) (suc (length args + i)) 0 ≡ get_or (0 ∷ addresses (env_start args env) env) i 0
words_second args env entry i h =
    let first = addresses (strings_start args env) args in
    let second = 0 ∷ addresses (env_start args env) env in
    let size : length first ≡ length args = length_addresses (strings_start args env) args in
    let size' : length (addresses (env_start args env) env) ≡ length env = length_addresses (env_start args env) env in
    let both : length (first ++ second) ≡ length first + length second = length-append first second in
    get_or_append_left (first ++ second) (0 ∷ auxiliary_vector entry) 0 (length args + i) (omega arith)
    ∙ ap (λ (n : ℕ). get_or (first ++ second) (n + i) 0) (sym size)
    ∙ get_or-append-add first second i 0

words_third : (args env : List (List ℕ)) (entry i : ℕ) → get_or (words_of args env entry) (suc (length args + suc (length env) + i)) 0 ≡ get_or (0 ∷ auxiliary_vector entry) i 0
words_third args env entry i =
    let first = addresses (strings_start args env) args in
    let second = 0 ∷ addresses (env_start args env) env in
    let size : length first ≡ length args = length_addresses (strings_start args env) args in
    let size' : length (addresses (env_start args env) env) ≡ length env = length_addresses (env_start args env) env in
    let both : length (first ++ second) ≡ length first + length second = length-append first second in
    let e : length args + suc (length env) + i ≡ length (first ++ second) + i = omega arith in
    ap (λ (n : ℕ). get_or ((first ++ second) ++ (0 ∷ auxiliary_vector entry)) n 0) e
    ∙ get_or-append-add (first ++ second) (0 ∷ auxiliary_vector entry) i 0

auxiliary_small : (entry i : ℕ) → entry < 2 ^ 64 → get_or (0 ∷ auxiliary_vector entry) i 0 < 2 ^ 64
auxiliary_small entry zero h = omega arith
auxiliary_small entry (suc zero) h = omega arith
auxiliary_small entry (suc (suc zero)) h = omega arith
auxiliary_small entry (suc (suc (suc zero))) h = omega arith
auxiliary_small entry (suc (suc (suc (suc zero)))) h = h
auxiliary_small entry (suc (suc (suc (suc (suc zero))))) h = omega arith
auxiliary_small entry (suc (suc (suc (suc (suc (suc zero)))))) h = omega arith
auxiliary_small entry (suc (suc (suc (suc (suc (suc (suc i))))))) h = omega arith

front_numbers : (size count start sp gap : ℕ) → size ≤ 65536 → count ≤ 521 → start ≡ 274877841408 - size → sp ≡ (start - 8 * count) / 16 * 16 → gap ≡ start - (sp + 8 * count) → sp + (8 * count + gap) ≡ start
front_numbers size count start sp gap few some is_start is_sp is_gap = omega arith

behind_numbers : (sp front start before address : ℕ) → sp + front ≡ start → address ≡ start + before → address - sp ≡ front + before
behind_numbers sp front start before address e f = omega arith

above_numbers : (sp front start before address : ℕ) → sp + front ≡ start → address ≡ start + before → sp ≤ address
above_numbers sp front start before address e f = omega arith

-- the strings begin after the words and the zeros
front_size : (args env : List (List ℕ)) (entry : ℕ) → is_too_big args env ≡ false → sp_of args env + length (flat_map (bytes_of 8) (words_of args env entry) ++ replicate (gap_of args env) 0) ≡ strings_start args env
front_size args env entry h =
    let few = few_strings args env h in
    let strings : length args + length env ≤ 512 = few.0 in
    let count : word_count args env ≡ length args + length env + 9 = words_are args env 0 in
    let zeros : List ℕ = replicate (gap_of args env) 0 in
    let size : length (flat_map (bytes_of 8) (words_of args env entry)) ≡ 8 * word_count args env = words_size (words_of args env entry) ∙ ap (λ (n : ℕ). 8 * n) (words_are args env entry ∙ sym (words_are args env 0)) in
    ap (λ (n : ℕ). sp_of args env + n) (length-append (flat_map (bytes_of 8) (words_of args env entry)) zeros ∙ (λ i. size i + length-replicate {A = ℕ} (gap_of args env) 0 i))
    ∙ front_numbers (length (strings_of args env)) (word_count args env) (strings_start args env) (sp_of args env) (gap_of args env) few.1 (omega arith) refl refl refl

take_behind : (xs ys : List (List ℕ)) (i : ℕ) → take (length xs + i) (xs ++ ys) ≡ xs ++ take i ys
take_behind [] ys i = let e : 0 + i ≡ i = omega arith in ap (λ (n : ℕ). take n ys) e
take_behind (x ∷ xs) ys i = let e : suc (length xs) + i ≡ suc (length xs + i) = omega arith in ap (λ (n : ℕ). take n (x ∷ xs ++ ys)) e ∙ ap (λ (l : List (List ℕ)). x ∷ l) (take_behind xs ys i)

front_less : (strings : List (List ℕ)) (i : ℕ) → length (closed_all (take i strings)) ≤ length (closed_all strings)
front_less strings i =
    let all : length (closed_all strings) ≡ length (closed_all (take i strings)) + length (closed_all (drop i strings)) = ap (λ (l : List (List ℕ)). length (closed_all l)) (sym (take-append-drop i strings)) ∙ strings_size (take i strings) (drop i strings) in
    omega arith

-- each string is at its address
stands : (args env : List (List ℕ)) (entry number address : ℕ) (string : List ℕ) → is_too_big args env ≡ false → number < length (args ++ env) → address ≡ strings_start args env + length (closed_all (take number (args ++ env))) → get_or (args ++ env) number [] ≡ string → StandsAt (sp_of args env) (stack_bytes args env entry) address string
stands args env entry number address string h there at is =
    let front : List ℕ = flat_map (bytes_of 8) (words_of args env entry) ++ replicate (gap_of args env) 0 in
    let size : sp_of args env + length front ≡ strings_start args env = front_size args env entry h in
    let behind : address - sp_of args env ≡ length front + length (closed_all (take number (args ++ env))) = behind_numbers (sp_of args env) (length front) (strings_start args env) (length (closed_all (take number (args ++ env)))) address size at in
    record {
      above = above_numbers (sp_of args env) (length front) (strings_start args env) (length (closed_all (take number (args ++ env)))) address size at;
      there = (λ i. take (length (closed (sym is i))) (drop (behind i) (stack_bytes args env entry))) ∙ string_at front (args ++ env) number there ∙ ap closed is;
    }

pub stack_tells : (args env : List (List ℕ)) (entry : ℕ) → is_too_big args env ≡ false → entry < 2 ^ 64 → TellsAll args env entry (sp_of args env) (stack_bytes args env entry)
stack_tells args env entry h small =
    let few = few_strings args env h in
    let strings : length args + length env ≤ 512 = few.0 in
    let bytes : length (strings_of args env) ≤ 65536 = few.1 in
    let sizes : length (strings_of args env) ≡ length (closed_all args) + length (closed_all env) = strings_size args env in
    let start : strings_start args env ≤ 274877841408 = omega arith in
    let all : length (args ++ env) ≡ length args + length env = length-append args env in
    let count : length (words_of args env entry) ≡ length args + length env + 9 = words_are args env entry in
    let rest : List ℕ = replicate (gap_of args env) 0 ++ strings_of args env in
    let is : stack_bytes args env entry ≡ flat_map (bytes_of 8) (words_of args env entry) ++ rest = append_assoc (flat_map (bytes_of 8) (words_of args env entry)) (replicate (gap_of args env) 0) (strings_of args env) in
    let word : (k place value : ℕ) → place ≡ k → k < length (words_of args env entry) → get_or (words_of args env entry) k 0 ≡ value → value < 2 ^ 64 → word_at (stack_bytes args env entry) place ≡ value =
    λ k place value at h there small. found (words_of args env entry) rest (stack_bytes args env entry) k place value is at h there small
    in
    record {
      count = word 0 0 (length args) refl (omega arith) refl (omega arith);
      arg = λ i less.
          let before : length (closed_all (take i args)) ≤ length (closed_all args) = front_less args i in
          let at : word_at (stack_bytes args env entry) (1 + i) ≡ strings_start args env + length (closed_all (take i args)) = word (suc i) (1 + i) (strings_start args env + length (closed_all (take i args))) (omega arith) (omega arith) (words_first args env entry i less ∙ address_of (strings_start args env) args i less) (omega arith) in
          stands args env entry i (word_at (stack_bytes args env entry) (1 + i)) (get_or args i []) h (omega arith) (at ∙ ap (λ (l : List (List ℕ)). strings_start args env + length (closed_all l)) (sym (take-append-le i args env (omega arith)))) (get_or_append_left args env [] i less);
      args_end = word (suc (length args + 0)) (1 + length args) 0 (omega arith) (omega arith) (words_second args env entry 0 (omega arith)) (omega arith);
      env_string = λ i less.
          let before : length (closed_all (take i env)) ≤ length (closed_all env) = front_less env i in
          let both : length (closed_all (args ++ take i env)) ≡ length (closed_all args) + length (closed_all (take i env)) = strings_size args (take i env) in
          let there : env_start args env + length (closed_all (take i env)) ≡ strings_start args env + length (closed_all (args ++ take i env)) = omega arith in
          let at : word_at (stack_bytes args env entry) (2 + length args + i) ≡ env_start args env + length (closed_all (take i env)) = word (suc (length args + suc i)) (2 + length args + i) (env_start args env + length (closed_all (take i env))) (omega arith) (omega arith) (words_second args env entry (suc i) (omega arith) ∙ address_of (env_start args env) env i less) (omega arith) in
          stands args env entry (length args + i) (word_at (stack_bytes args env entry) (2 + length args + i)) (get_or env i []) h (omega arith) (at ∙ there ∙ ap (λ (l : List (List ℕ)). strings_start args env + length (closed_all l)) (sym (take_behind args env i))) (get_or-append-add args env i []);
      env_end = word (suc (length args + suc (length env) + 0)) (2 + length args + length env) 0 (omega arith) (omega arith) (words_third args env entry 0) (omega arith);
      auxiliary = λ i less. word (suc (length args + suc (length env) + suc i)) (3 + length args + length env + i) (get_or (auxiliary_vector entry) i 0) (omega arith) (omega arith) (words_third args env entry (suc i)) (auxiliary_small entry (suc i) small);
    }
