-- The entries of the map, as blocks.
use Rattle.std.proofs.Common.{◌≡◌, ◌-◌, ◌<◌, ◌≤◌, ◌&&◌, [], ◌∷◌, ◌∙◌, ℕ, Bool, List, None, Option, Some, ap, arith, cond, eqb, false, is_some, length, max, refl, subst, suc, sym, take, true, zero}
use Rattle.std.specs.List.{AllByRecursion, IsDistinct}
use Rattle.std.specs.Map.{keys_of, lookup, lookup_entry, remove_entry}
use Rattle.std.specs.Option.{option_map_or}
use Rattle.std.proofs.lemmas.Bool.Decides.{nat_tests}
use Rattle.std.proofs.lemmas.Bool.{eq-eqb}
use Rattle.std.proofs.lemmas.List.{take-map, take_all}
use Rattle.lru.specs.LruCache.{LruCache, promoted, put_entries}
use Rattle.lego_msg.specs.State.{Block}
use Rattle.lego_msg.specs.Table.{block_in, without_block, without_blocks}
use Rattle.block_cache.specs.Cache.{block_of, blocks_of, touched, with_first}

abbrev pub same : (ℕ × ℕ) → (ℕ × ℕ) → Bool
same a b = eqb a.0 b.0 && eqb a.1 b.1

abbrev pub Entry : Type 0
Entry = (ℕ × ℕ) × List ℕ

turned : (a b c d : ℕ) → (eqb a c && eqb b d) ≡ (eqb c a && eqb d b)
turned a b c d = grind (arith, nat_tests)

same_is : (a b : ℕ × ℕ) → same a b ≡ true → a ≡ b
same_is a b e = λ i. (first i, second i)
  where
    first : a.0 ≡ b.0
    first = grind (arith, nat_tests)

    second : a.1 ≡ b.1
    second = grind (arith, nat_tests)

same_self : (a : ℕ × ℕ) → same a a ≡ true
same_self a = λ i. eq-eqb a.0 a.0 refl i && eq-eqb a.1 a.1 refl i

pub lookup_is : (k : ℕ × ℕ) (es : List Entry) → lookup (same k) es ≡ block_in k.0 k.1 (blocks_of es)
lookup_is k [] = refl
lookup_is k (e ∷ es) = λ i. cond (turned k.0 k.1 e.0.0 e.0.1 i) (Some e.1) (lookup_is k es i)

-- a key that differs from all isn't there
all_stay : (k : ℕ × ℕ) (es : List Entry) → AllByRecursion (λ y. same k y ≡ false) (keys_of es) → without_block k.0 k.1 (blocks_of es) ≡ blocks_of es
all_stay k [] differ = refl
all_stay k (e ∷ es) differ = rw (sym (turned k.0 k.1 e.0.0 e.0.1) ∙ differ.0) (ap (λ (l : List Block). block_of e ∷ l) (all_stay k es differ.1))

pub remove_is : (k : ℕ × ℕ) (es : List Entry) → IsDistinct same (keys_of es) → blocks_of (remove_entry (same k) es) ≡ without_block k.0 k.1 (blocks_of es)
unfolding IsDistinct
remove_is k [] once = refl
remove_is k (e ∷ es) once = by (same k e.0) refl (remove_is k es once.1)
  where
    by : (b : Bool) → same k e.0 ≡ b → blocks_of (remove_entry (same k) es) ≡ without_block k.0 k.1 (blocks_of es) → blocks_of (cond b es (e ∷ remove_entry (same k) es)) ≡ cond (eqb e.0.0 k.0 && eqb e.0.1 k.1) (without_block k.0 k.1 (blocks_of es)) (block_of e ∷ without_block k.0 k.1 (blocks_of es))
    by true here rest =
        let is : k ≡ e.0 = same_is k e.0 here in
        rw (sym (turned k.0 k.1 e.0.0 e.0.1) ∙ here) (sym (all_stay k es (once_ is)))
      where
        once_ : k ≡ e.0 → AllByRecursion (λ y. same k y ≡ false) (keys_of es)
        once_ is = subst (λ (q : ℕ × ℕ). AllByRecursion (λ y. same q y ≡ false) (keys_of es)) (sym is) once.0
    by false other rest = rw (sym (turned k.0 k.1 e.0.0 e.0.1) ∙ other) (ap (λ (l : List Block). block_of e ∷ l) rest)

-- a key that isn't there
pub none_is : (k : ℕ × ℕ) (es : List Entry) → lookup_entry (same k) es ≡ None → (block_in k.0 k.1 (blocks_of es) ≡ None) × (without_block k.0 k.1 (blocks_of es) ≡ blocks_of es)
none_is k [] none = (refl, refl)
none_is k (e ∷ es) none = by (same k e.0) refl none (none_is k es)
  where
    by : (b : Bool) → same k e.0 ≡ b → cond b (Some e) (lookup_entry (same k) es) ≡ None → (lookup_entry (same k) es ≡ None → (block_in k.0 k.1 (blocks_of es) ≡ None) × (without_block k.0 k.1 (blocks_of es) ≡ blocks_of es)) → (block_in k.0 k.1 (block_of e ∷ blocks_of es) ≡ None) × (without_block k.0 k.1 (block_of e ∷ blocks_of es) ≡ block_of e ∷ blocks_of es)
    by true here wrong rest = cc wrong
    by false other none_ rest =
        let test : (eqb e.0.0 k.0 && eqb e.0.1 k.1) ≡ false = sym (turned k.0 k.1 e.0.0 e.0.1) ∙ other in
        (rw test (rest none_).0, rw test (ap (λ (l : List Block). block_of e ∷ l) (rest none_).1))

-- one that is there, and how many others there are
pub some_is : (k : ℕ × ℕ) (es : List Entry) (e : Entry) → lookup_entry (same k) es ≡ Some e → (k ≡ e.0) × (block_in k.0 k.1 (blocks_of es) ≡ Some e.1) × (suc (length (remove_entry (same k) es)) ≡ length es)
some_is k [] e some = cc some
some_is k (d ∷ es) e some = by (same k d.0) refl some (some_is k es e)
  where
    by : (b : Bool) → same k d.0 ≡ b → cond b (Some d) (lookup_entry (same k) es) ≡ Some e → (lookup_entry (same k) es ≡ Some e → (k ≡ e.0) × (block_in k.0 k.1 (blocks_of es) ≡ Some e.1) × (suc (length (remove_entry (same k) es)) ≡ length es)) → (k ≡ e.0) × (block_in k.0 k.1 (block_of d ∷ blocks_of es) ≡ Some e.1) × (suc (length (cond b es (d ∷ remove_entry (same k) es))) ≡ suc (length es))
    by true here is rest =
        let it : d ≡ e = cc is in
        (same_is k d.0 here ∙ ap (λ (x : Entry). x.0) it, rw (sym (turned k.0 k.1 d.0.0 d.0.1) ∙ here) (ap (λ (x : Entry). Some x.1) it), refl)
    by false other some_ rest =
        let r = rest some_ in
        (r.0, rw (sym (turned k.0 k.1 d.0.0 d.0.1) ∙ other) r.1, ap suc r.2)

pub length-blocks : (es : List Entry) → length (blocks_of es) ≡ length es
length-blocks [] = refl
length-blocks (e ∷ es) = ap suc (length-blocks es)

-- the block stands first, and no other one goes
first_fits : (room : ℕ) (k : ℕ × ℕ) (v : List ℕ) (es : List Entry) (e : Entry) → IsDistinct same (keys_of es) → length es ≤ room → lookup_entry (same k) es ≡ Some e → blocks_of ((e.0, v) ∷ remove_entry (same k) es) ≡ with_first room k.0 k.1 v (blocks_of es)
first_fits room k v es e once few some =
    let is = some_is k es e some in
    let long = is.2 in
    let all : take room (blocks_of ((k, v) ∷ remove_entry (same k) es)) ≡ blocks_of ((k, v) ∷ remove_entry (same k) es) =
    take_all room (blocks_of ((k, v) ∷ remove_entry (same k) es)) (let m = length-blocks (remove_entry (same k) es) in omega (arith, m, long, few)) in
    ap (λ (q : ℕ × ℕ). blocks_of ((q, v) ∷ remove_entry (same k) es)) (sym is.0)
    ∙ (sym all ∙ ap (λ (l : List Block). take room (block_of (k, v) ∷ l)) (remove_is k es once))

pub put_is : (c : LruCache (ℕ × ℕ) (List ℕ)) (k : ℕ × ℕ) (v : List ℕ) → IsDistinct same (keys_of c.entries) → length c.entries ≤ c.cap → 0 < c.cap → blocks_of (put_entries same c k v) ≡ with_first c.cap k.0 k.1 v (blocks_of c.entries)
put_is c k v once few room = by (lookup_entry (same k) c.entries) refl
  where
    take_first : (n : ℕ) (b : Block) (bs : List Block) → 0 < n → take n (b ∷ bs) ≡ b ∷ take (n - 1) bs
    take_first zero b bs some = absurd (omega (arith, some))
    take_first (suc n) b bs some = let e : suc n - 1 ≡ n = omega arith in rw e refl

    by : (o : Option Entry) → lookup_entry (same k) c.entries ≡ o → blocks_of (option_map_or (λ (e : Entry). (e.0, v) ∷ remove_entry (same k) c.entries) o ((k, v) ∷ take (c.cap - 1) c.entries)) ≡ with_first c.cap k.0 k.1 v (blocks_of c.entries)
    by None none =
        rw (none_is k c.entries none).1 (ap (λ (l : List Block). block_of (k, v) ∷ l) (sym (take-map block_of (c.cap - 1) c.entries)) ∙ sym (take_first c.cap (block_of (k, v)) (blocks_of c.entries) room))
    by (Some e) some = first_fits c.cap k v c.entries e once few some

pub touch_is : (c : LruCache (ℕ × ℕ) (List ℕ)) (k : ℕ × ℕ) → IsDistinct same (keys_of c.entries) → length c.entries ≤ c.cap → blocks_of (promoted (same k) c.entries) ≡ touched c.cap k.0 k.1 (blocks_of c.entries)
touch_is c k once few = by (lookup_entry (same k) c.entries) refl
  where
    by : (o : Option Entry) → lookup_entry (same k) c.entries ≡ o → blocks_of (option_map_or (λ (e : Entry). e ∷ remove_entry (same k) c.entries) o c.entries) ≡ touched c.cap k.0 k.1 (blocks_of c.entries)
    by None none = rw (none_is k c.entries none).0 refl
    by (Some e) some = rw (some_is k c.entries e some).1 (first_fits c.cap k e.1 c.entries e once few some)

-- a cache without room holds nothing, so its list may have room for one
pub room_is : (room cap file block : ℕ) (bs : List Block) → cap ≡ max room 1 → (room ≡ 0 → bs ≡ []) → touched cap file block bs ≡ touched room file block bs
room_is zero cap file block bs is empty = λ i. touched_nil cap zero (empty refl) i
  where
    touched_nil : (m n : ℕ) → bs ≡ [] → touched m file block bs ≡ touched n file block bs
    touched_nil m n e = ap (touched m file block) e ∙ sym (ap (touched n file block) e)
room_is (suc room) cap file block bs is empty = let e : cap ≡ suc room = omega (arith, is) in ap (λ (n : ℕ). touched n file block bs) e

pub room_put : (room cap file block : ℕ) (bytes : List ℕ) (bs : List Block) → cap ≡ max room 1 → (room ≡ 0 → ⊥) → with_first cap file block bytes bs ≡ with_first room file block bytes bs
room_put zero cap file block bytes bs is some = absurd (some refl)
room_put (suc room) cap file block bytes bs is some = let e : cap ≡ suc room = omega (arith, is) in ap (λ (n : ℕ). with_first n file block bytes bs) e

-- FILES
pub without_both : (file block : ℕ) (bs : List Block) → without_blocks file (without_block file block bs) ≡ without_blocks file bs
without_both file block [] = refl
without_both file block (b ∷ bs) = by (eqb b.file file) (eqb b.block block) refl (without_both file block bs)
  where
    by : (c d : Bool) → eqb b.file file ≡ c → without_blocks file (without_block file block bs) ≡ without_blocks file bs → without_blocks file (cond (c && d) (without_block file block bs) (b ∷ without_block file block bs)) ≡ cond c (without_blocks file bs) (b ∷ without_blocks file bs)
    by true true e rest = rest
    by true false e rest = rw e rest
    by false d e rest = rw e (ap (λ (l : List Block). b ∷ l) rest)

pub fewer : (file block : ℕ) (bs : List Block) → is_some (block_in file block bs) ≡ true → length (without_block file block bs) < length bs
fewer file block [] held = cc held
fewer file block (b ∷ bs) held = by (eqb b.file file && eqb b.block block) held (fewer file block bs)
  where
    at_most : (cs : List Block) → length (without_block file block cs) ≤ length cs
    at_most [] = omega arith
    at_most (d ∷ cs) = pick (eqb d.file file && eqb d.block block) (at_most cs)
      where
        pick : (c : Bool) → length (without_block file block cs) ≤ length cs → length (cond c (without_block file block cs) (d ∷ without_block file block cs)) ≤ suc (length cs)
        pick true le = omega arith
        pick false le = omega arith

    by : (c : Bool) → is_some (cond c (Some b.bytes) (block_in file block bs)) ≡ true → (is_some (block_in file block bs) ≡ true → length (without_block file block bs) < length bs) → length (cond c (without_block file block bs) (b ∷ without_block file block bs)) < suc (length bs)
    by true e rest = let le = at_most bs in omega (arith, le)
    by false e rest = let lt = rest e in omega (arith, lt)
