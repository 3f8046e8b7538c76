-- Lists in rising order of a key that are the same things in another order are equal, where keys differ.
use Rattle.std.proofs.Common.{◌≡◌, ◌≢◌, ℕ, zero, suc, ◌+◌, ◌<◌, ◌≤◌, ◌⊎◌, inl, inr, false, refl, sym, ◌∙◌, ap, subst, List, [], ◌∷◌, length, get_or, map, arith}
use Rattle.std.specs.Prelude.{AllPairs, Contains, IsPermutation, IsSortedBy}
use Rattle.std.specs.List as lists
use Rattle.std.specs.declared.cmp.Ordering.{Ordering}
use Rattle.std.specs.declared.cmp.Ordering.TheVariants.{Less, Equal, Greater}
use Rattle.std.specs.Cmp.Lexicographic.{slice_cmp}
use Rattle.std.specs.Ordering.{nat_cmp, is_lt, is_gt, ordering_reverse, ordering_then}
use Rattle.std.proofs.lemmas.Bool.{cases_lt, cases_eq, false≢true}
use Rattle.std.proofs.lemmas.Cmp.{nat_list_cmp_total, ranked}
use Rattle.std.proofs.lemmas.List.Edits.{length-swap, swapped_from_swap}
use Rattle.std.proofs.lemmas.List.Sorted.{IsPermutation-keeps, IsPermutation-sym, Contains-permutation, ranks_by, sorted_far}

abbrev pub order : List ℕ → List ℕ → Ordering
order = slice_cmp nat_cmp

-- names that tie are equal
tied_numbers : (x y : ℕ) (o : Ordering) → o ≡ nat_cmp x y → o ≡ Equal → x ≡ y
tied_numbers x y Less e f = absurd (cc)
tied_numbers x y Equal e f = ranked x y Equal e
tied_numbers x y Greater e f = absurd (cc)

pub tied : (xs ys : List ℕ) → order xs ys ≡ Equal → xs ≡ ys
tied [] [] h = refl
tied [] (y ∷ ys) h = absurd (cc)
tied (x ∷ xs) [] h = absurd (cc)
tied (x ∷ xs) (y ∷ ys) h = by (nat_cmp x y) refl h (tied xs ys)
  where
    by : (o : Ordering) → o ≡ nat_cmp x y → ordering_then o (order xs ys) ≡ Equal → (order xs ys ≡ Equal → xs ≡ ys) → (x ∷ xs) ≡ (y ∷ ys)
    by Less e f rest = absurd (cc)
    by Equal e f rest = let first : x ≡ y = tied_numbers x y Equal e refl in let more : xs ≡ ys = rest f in (λ i. first i ∷ more i)
    by Greater e f rest = absurd (cc)

reverse_less : (o p : Ordering) → o ≡ ordering_reverse p → is_lt p ≡ false → (o ≡ Equal → ⊥) → o ≡ Less
reverse_less o Less e h f = absurd (false≢true (sym h))
reverse_less o Equal e h f = absurd (f e)
reverse_less o Greater e h f = e

-- not above, and other, is below
pub below : (xs ys : List ℕ) → is_lt (order ys xs) ≡ false → xs ≢ ys → order xs ys ≡ Less
below xs ys h apart = reverse_less (order xs ys) (order ys xs) (nat_list_cmp_total.antisymm xs ys) h (λ e. apart (tied xs ys e))

lt_of_reverse : (o p : Ordering) → o ≡ ordering_reverse p → is_lt o ≡ is_gt p
lt_of_reverse o Less e = ap is_lt e
lt_of_reverse o Equal e = ap is_lt e
lt_of_reverse o Greater e = ap is_lt e

pub lt_is_gt : (xs ys : List ℕ) → is_lt (order xs ys) ≡ is_gt (order ys xs)
lt_is_gt xs ys = lt_of_reverse (order xs ys) (order ys xs) (nat_list_cmp_total.antisymm xs ys)

module _ {X : Type 0} (key : X → List ℕ) where
  -- nothing has a key above those after it
  abbrev pub NotAbove : X → List X → Type 0
  NotAbove x [] = Unit {0}
  NotAbove x (y ∷ ys) = (is_gt (order (key x) (key y)) ≡ false) × NotAbove x ys

  abbrev pub Ordered : List X → Type 0
  Ordered [] = Unit {0}
  Ordered (x ∷ xs) = NotAbove x xs × Ordered xs

  -- each has a key below those after it
  abbrev pub Below : X → List X → Type 0
  Below x [] = Unit {0}
  Below x (y ∷ ys) = (order (key x) (key y) ≡ Less) × Below x ys

  abbrev pub Rising : List X → Type 0
  Rising [] = Unit {0}
  Rising (x ∷ xs) = Below x xs × Rising xs

  abbrev pub Apart : List X → Type 0
  Apart xs = AllPairs (λ x y. key x ≢ key y) xs

abbrev Member : {X : Type 0} → X → List X → Type 0
Member x [] = ⊥
Member x (y ∷ ys) = (x ≡ y) ⊎ Member x ys

module _ {X : Type 0} where
  member_of : (xs : List X) (x : X) (k : ℕ) → k < length xs → lists.slice_index_or xs k x ≡ x → Member x xs
  member_of [] x k h is = absurd (omega arith)
  member_of (y ∷ ys) x zero h is = inl (sym is)
  member_of (y ∷ ys) x (suc k) h is = inr (member_of ys x k (omega arith) is)

  contains_of : (xs : List X) (x : X) → Member x xs → Contains xs x
  contains_of [] x h = absurd h
  contains_of (y ∷ ys) x (inl is) = (0, omega arith, sym is)
  contains_of (y ∷ ys) x (inr there) = let rest = contains_of ys x there in (suc rest.0, (let k : rest.0 < length ys = rest.1 in omega arith), rest.2)

  pub same_members : (xs ys : List X) → IsPermutation xs ys → (x : X) → Member x xs → Member x ys
  same_members xs ys moved x there = let found = Contains-permutation xs ys x moved (contains_of xs x there) in member_of ys x found.0 found.1 found.2

module _ {X : Type 0} (key : X → List ℕ) where
  below_member : (x y : X) (ys : List X) → Below key x ys → Member y ys → order (key x) (key y) ≡ Less
  below_member x y [] b m = absurd m
  below_member x y (z ∷ ys) b (inl is) = ap (λ (w : X). order (key x) (key w)) is ∙ b.0
  below_member x y (z ∷ ys) b (inr m) = below_member x y ys b.1 m

  not_both : (x y : X) → order (key x) (key y) ≡ Less → order (key y) (key x) ≡ Less → ⊥
  not_both x y a b = let e : order (key x) (key y) ≡ ordering_reverse (order (key y) (key x)) = nat_list_cmp_total.antisymm (key x) (key y) in let f : Less ≡ Greater = sym a ∙ e ∙ ap ordering_reverse b in cc

  -- rising lists with the same members are equal
  rising_unique : (xs ys : List X) → Rising key xs → Rising key ys → ((x : X) → Member x xs → Member x ys) → ((x : X) → Member x ys → Member x xs) → xs ≡ ys
  rising_unique [] [] r s there back = refl
  rising_unique [] (y ∷ ys) r s there back = absurd (back y (inl refl))
  rising_unique (x ∷ xs) [] r s there back = absurd (there x (inl refl))
  rising_unique (x ∷ xs) (y ∷ ys) r s there back =
      let same : x ≡ y = heads (there x (inl refl)) (back y (inl refl)) in
      let rest : xs ≡ ys = rising_unique xs ys r.1 s.1 (λ z m. later x y xs ys same r.0 z m (there z (inr m))) (λ z m. later y x ys xs (sym same) s.0 z m (back z (inr m))) in
      λ i. same i ∷ rest i
    where
      heads : ((x ≡ y) ⊎ Member x ys) → ((y ≡ x) ⊎ Member y xs) → x ≡ y
      heads (inl e) q = e
      heads (inr m) (inl e) = sym e
      heads (inr m) (inr n) = absurd (not_both x y (below_member x y xs r.0 n) (below_member y x ys s.0 m))

      later : (x y : X) (xs ys : List X) → x ≡ y → Below key x xs → (z : X) → Member z xs → ((z ≡ y) ⊎ Member z ys) → Member z ys
      later x y xs ys same b z m (inl e) = let less : order (key x) (key x) ≡ Less = ap (λ (w : X). order (key x) (key w)) (same ∙ sym e) ∙ below_member x z xs b m in absurd (not_both x x less less)
      later x y xs ys same b z m (inr n) = n

  -- in order with keys apart is rising
  below_of : (x : X) (xs : List X) → NotAbove key x xs → ((k : ℕ) (d : X) → k < length xs → key x ≢ key (lists.slice_index_or xs k d)) → Below key x xs
  below_of x [] n apart = tt
  below_of x (y ∷ ys) n apart = (below (key x) (key y) (lt_is_gt (key y) (key x) ∙ n.0) (apart 0 y (omega arith)), below_of x ys n.1 (λ k d h. apart (suc k) d (omega arith)))

  rising_of : (xs : List X) → Ordered key xs → Apart key xs → Rising key xs
  rising_of [] o apart = tt
  rising_of (x ∷ xs) o apart = (below_of x xs o.0 (λ k d h. apart 0 (suc k) d (omega arith) (omega arith)), rising_of xs o.1 (λ i j d h k. apart (suc i) (suc j) d (omega arith) (omega arith)))

  -- what a sort says
  not_above_of : (x : X) (xs : List X) → ((k : ℕ) (d : X) → k < length xs → is_lt (order (key (lists.slice_index_or xs k d)) (key x)) ≡ false) → NotAbove key x xs
  not_above_of x [] h = tt
  not_above_of x (y ∷ ys) h = (sym (lt_is_gt (key y) (key x)) ∙ h 0 y (omega arith), not_above_of x ys (λ k d l. h (suc k) d (omega arith)))

  pub ordered_of : (xs : List X) → IsSortedBy (λ x y. is_lt (order (key x) (key y))) xs → Ordered key xs
  ordered_of [] up = tt
  ordered_of (x ∷ xs) up = (
    not_above_of x xs (λ k d h. sorted_far (λ x y. is_lt (order (key x) (key y))) (ranks_by nat_list_cmp_total key) (x ∷ xs) up 0 (suc k) d (omega arith) (omega arith)),
    ordered_of xs (λ k d low h. let e : suc k + 1 ≡ suc (k + 1) = omega arith in subst (λ (n : ℕ). is_lt (order (key (get_or (x ∷ xs) n d)) (key (get_or xs k d))) ≡ false) e (up (suc k) d (omega arith) (omega arith))),
  )

  not_above_at : (x : X) (xs : List X) (k : ℕ) (d : X) → NotAbove key x xs → k < length xs → is_gt (order (key x) (key (get_or xs k d))) ≡ false
  not_above_at x [] k d n h = absurd (omega arith)
  not_above_at x (y ∷ ys) zero d n h = n.0
  not_above_at x (y ∷ ys) (suc k) d n h = not_above_at x ys k d n.1 (omega arith)

  pub sorted_of : (xs : List X) → Ordered key xs → (k : ℕ) (d : X) → k + 1 < length xs → is_lt (order (key (get_or xs (k + 1) d)) (key (get_or xs k d))) ≡ false
  sorted_of [] o k d h = absurd (omega arith)
  sorted_of (x ∷ xs) o zero d h = lt_is_gt (key (get_or xs 0 d)) (key x) ∙ not_above_at x xs 0 d o.0 (omega arith)
  sorted_of (x ∷ xs) o (suc k) d h = let e : suc (k + 1) ≡ suc k + 1 = omega arith in subst (λ (n : ℕ). is_lt (order (key (get_or (x ∷ xs) n d)) (key (get_or xs k d))) ≡ false) e (sorted_of xs o.1 k d (omega arith))

-- two places with their things exchanged
abbrev Spot : ℕ → ℕ → ℕ → ℕ → Type 0
Spot i j m s = ((m ≡ i) × (s ≡ j)) ⊎ (((m ≡ j) × (s ≡ i)) ⊎ ((m ≢ i) × (m ≢ j) × (s ≡ m)))

spots_apart : (i j a b s t : ℕ) → a ≢ b → Spot i j a s → Spot i j b t → s ≢ t
spots_apart i j a b s t apart p q same = grind arith

module _ {X : Type 0} (key : X → List ℕ) where
  spot : (xs : List X) (i j m : ℕ) (d : X) → i < length xs → j < length xs → m < length xs → (s : ℕ) × (s < length xs) × (get_or (lists.swap xs i j) m d ≡ get_or xs s d) × Spot i j m s
  spot xs i j m d h k l = by (cases_eq m i) (cases_eq m j)
    where
      by : ((m ≡ i) ⊎ (m ≢ i)) → ((m ≡ j) ⊎ (m ≢ j)) → (s : ℕ) × (s < length xs) × (get_or (lists.swap xs i j) m d ≡ get_or xs s d) × Spot i j m s
      by (inl e) q = (j, k, ap (λ (n : ℕ). get_or (lists.swap xs i j) n d) e ∙ (swapped_from_swap xs (lists.swap xs i j) i j d h k refl).0, inl (e, refl))
      by (inr n) (inl e) = (i, h, ap (λ (n : ℕ). get_or (lists.swap xs i j) n d) e ∙ (swapped_from_swap xs (lists.swap xs i j) i j d h k refl).1, inr (inl (e, refl)))
      by (inr n) (inr o) = (m, l, (swapped_from_swap xs (lists.swap xs i j) i j d h k refl).2 m n o, inr (inr (n, o, refl)))

  apart_swap : (xs : List X) (i j : ℕ) → i < length xs → j < length xs → Apart key xs → Apart key (lists.swap xs i j)
  apart_swap xs i j h k apart = λ a b d less high same.
      let len : length (lists.swap xs i j) ≡ length xs = length-swap xs i j in
      let one = spot xs i j a d h k (omega arith) in
      let two = spot xs i j b d h k (omega arith) in
      by d one.0 two.0 one.1 two.1 (spots_apart i j a b one.0 two.0 (λ e. omega arith) one.3 two.3) (ap key (sym one.2) ∙ same ∙ ap key two.2) (cases_lt one.0 two.0) (cases_lt two.0 one.0)
    where
      by : (d : X) (s t : ℕ) → s < length xs → t < length xs → s ≢ t → key (get_or xs s d) ≡ key (get_or xs t d) → ((s < t) ⊎ (t ≤ s)) → ((t < s) ⊎ (s ≤ t)) → ⊥
      by d s t l m ne same (inl less) q = apart s t d less m same
      by d s t l m ne same (inr le) (inl less) = apart t s d less l (sym same)
      by d s t l m ne same (inr le) (inr ge) = ne (omega arith)

  pub apart_permuted : (xs ys : List X) → IsPermutation xs ys → Apart key xs → Apart key ys
  apart_permuted xs ys moved apart = IsPermutation-keeps xs (Apart key) apart (λ l i j h k a. apart_swap l i j h k a) ys moved

  -- two orders of the same things, each rising, are one
  pub sorted_unique : (files xs ys : List X) → Apart key files → IsPermutation files xs → IsPermutation files ys → Ordered key xs → Ordered key ys → xs ≡ ys
  sorted_unique files xs ys apart p q o r =
      rising_unique key xs ys (rising_of key xs o (apart_permuted files xs p apart)) (rising_of key ys r (apart_permuted files ys q apart))
      (λ x m. same_members files ys q x (same_members xs files (IsPermutation-sym files xs p) x m))
      (λ x m. same_members files xs p x (same_members ys files (IsPermutation-sym files ys q) x m))

module _ {X Y : Type 0} (key : X → List ℕ) (f : Y → X) where
  not_above_map : (y : Y) (ys : List Y) → NotAbove (λ z. key (f z)) y ys → NotAbove key (f y) (map f ys)
  not_above_map y [] n = tt
  not_above_map y (z ∷ ys) n = (n.0, not_above_map y ys n.1)

  pub ordered_map : (ys : List Y) → Ordered (λ z. key (f z)) ys → Ordered key (map f ys)
  ordered_map [] o = tt
  ordered_map (y ∷ ys) o = (not_above_map y ys o.0, ordered_map ys o.1)
