-- Files by their numbers: what is found, changed and removed, and the blocks that they need.
use Rattle.std.proofs.Common.{◌≡◌, ◌+◌, ◌<◌, ◌||◌, [], ◌∷◌, ◌++◌, ◌∙◌, ℕ, Bool, List, None, Option, Some, ap, arith, cond, eqb, false, is_some, length, map, refl, sym, true}
use Rattle.std.proofs.lemmas.Bool.{eq-eqb, eqb-true, false≢true, ne_eqb}
use Rattle.std.specs.List.{AllByRecursion}
use Rattle.std.specs.Map.{lookup, remove_entry, set_value}
use Rattle.std.specs.declared.vec.Vec.{Vec}
use Rattle.lego_base.specs.Files.{File, blocks_needed, file_bytes, is_file, with_file_bytes, without_file}
use Rattle.lego_base.specs.declared.ids.FileNo.{FileNo}
use Rattle.file_table.specs.Entries.{file_of}
use Rattle.file_table.specs.Numbers.{NumbersBelow, NumbersRise, blocks_for}

-- all numbers are above one, or below it: the files don't have it
abbrev NumbersAbove : ℕ → List File → Type 0
NumbersAbove n files = AllByRecursion (λ (f : File). n < f.file) files

absent_above : (n : ℕ) (fs : List File) → NumbersAbove n fs → is_file fs n ≡ false
absent_above n [] h = refl
absent_above n (f ∷ fs) h = let l = h.0 in ap (λ b. b || is_file fs n) (ne_eqb f.file n (λ e. omega (arith, e, l))) ∙ absent_above n fs h.1

pub absent_below : (n : ℕ) (fs : List File) → NumbersBelow n fs → is_file fs n ≡ false
absent_below n [] h = refl
absent_below n (f ∷ fs) h = let l = h.0 in ap (λ b. b || is_file fs n) (ne_eqb f.file n (λ e. omega (arith, e, l))) ∙ absent_below n fs h.1

-- where a file isn't there, changing and removing it does nothing
pub with_absent : (n : ℕ) (b : List ℕ) (fs : List File) → is_file fs n ≡ false → with_file_bytes fs n b ≡ fs
with_absent n b [] h = refl
with_absent n b (f ∷ fs) h = by (eqb f.file n) h (with_absent n b fs)
  where
    by : (x : Bool) → (x || is_file fs n) ≡ false → (is_file fs n ≡ false → with_file_bytes fs n b ≡ fs) → cond x (record f { bytes = b }) f ∷ with_file_bytes fs n b ≡ f ∷ fs
    by true h rest = absurd (false≢true (sym h))
    by false h rest = ap (λ t. f ∷ t) (rest h)

pub without_absent : (n : ℕ) (fs : List File) → is_file fs n ≡ false → without_file n fs ≡ fs
without_absent n [] h = refl
without_absent n (f ∷ fs) h = by (eqb f.file n) h (without_absent n fs)
  where
    by : (x : Bool) → (x || is_file fs n) ≡ false → (is_file fs n ≡ false → without_file n fs ≡ fs) → cond x (without_file n fs) (f ∷ without_file n fs) ≡ f ∷ fs
    by true h rest = absurd (false≢true (sym h))
    by false h rest = ap (λ t. f ∷ t) (rest h)

-- a new file that is removed at once
without_last : (f : File) (fs : List File) → is_file fs f.file ≡ false → without_file f.file (fs ++ f ∷ []) ≡ fs
without_last f [] h = ap (λ b. cond b [] (f ∷ [])) (eq-eqb f.file f.file refl)
without_last f (g ∷ gs) h = by (eqb g.file f.file) h (without_last f gs)
  where
    by : (x : Bool) → (x || is_file gs f.file) ≡ false → (is_file gs f.file ≡ false → without_file f.file (gs ++ f ∷ []) ≡ gs) →
        cond x (without_file f.file (gs ++ f ∷ [])) (g ∷ without_file f.file (gs ++ f ∷ [])) ≡ g ∷ gs
    by true h rest = absurd (false≢true (sym h))
    by false h rest = ap (λ t. g ∷ t) (rest h)

pub without_new : (f : File) (fs : List File) → NumbersBelow f.file fs → without_file f.file (fs ++ f ∷ []) ≡ fs
without_new f fs h = without_last f fs (absent_below f.file fs h)

-- THE ORDER of numbers stays
above_with : (m n : ℕ) (b : List ℕ) (fs : List File) → NumbersAbove m fs → NumbersAbove m (with_file_bytes fs n b)
above_with m n b [] h = tt
above_with m n b (f ∷ fs) h = by (eqb f.file n) (above_with m n b fs h.1)
  where
    by : (x : Bool) → NumbersAbove m (with_file_bytes fs n b) → NumbersAbove m (cond x (record f { bytes = b }) f ∷ with_file_bytes fs n b)
    by true r = (h.0, r)
    by false r = (h.0, r)

pub below_with : (m n : ℕ) (b : List ℕ) (fs : List File) → NumbersBelow m fs → NumbersBelow m (with_file_bytes fs n b)
below_with m n b [] h = tt
below_with m n b (f ∷ fs) h = by (eqb f.file n) (below_with m n b fs h.1)
  where
    by : (x : Bool) → NumbersBelow m (with_file_bytes fs n b) → NumbersBelow m (cond x (record f { bytes = b }) f ∷ with_file_bytes fs n b)
    by true r = (h.0, r)
    by false r = (h.0, r)

pub rise_with : (n : ℕ) (b : List ℕ) (fs : List File) → NumbersRise fs → NumbersRise (with_file_bytes fs n b)
rise_with n b [] h = tt
rise_with n b (f ∷ fs) h = by (eqb f.file n) (above_with f.file n b fs h.0) (rise_with n b fs h.1)
  where
    by : (x : Bool) → NumbersAbove f.file (with_file_bytes fs n b) → NumbersRise (with_file_bytes fs n b) → NumbersRise (cond x (record f { bytes = b }) f ∷ with_file_bytes fs n b)
    by true a r = (a, r)
    by false a r = (a, r)

above_without : (m n : ℕ) (fs : List File) → NumbersAbove m fs → NumbersAbove m (without_file n fs)
above_without m n [] h = tt
above_without m n (f ∷ fs) h = by (eqb f.file n) (above_without m n fs h.1)
  where
    by : (x : Bool) → NumbersAbove m (without_file n fs) → NumbersAbove m (cond x (without_file n fs) (f ∷ without_file n fs))
    by true r = r
    by false r = (h.0, r)

pub below_without : (m n : ℕ) (fs : List File) → NumbersBelow m fs → NumbersBelow m (without_file n fs)
below_without m n [] h = tt
below_without m n (f ∷ fs) h = by (eqb f.file n) (below_without m n fs h.1)
  where
    by : (x : Bool) → NumbersBelow m (without_file n fs) → NumbersBelow m (cond x (without_file n fs) (f ∷ without_file n fs))
    by true r = r
    by false r = (h.0, r)

pub rise_without : (n : ℕ) (fs : List File) → NumbersRise fs → NumbersRise (without_file n fs)
rise_without n [] h = tt
rise_without n (f ∷ fs) h = by (eqb f.file n) (above_without f.file n fs h.0) (rise_without n fs h.1)
  where
    by : (x : Bool) → NumbersAbove f.file (without_file n fs) → NumbersRise (without_file n fs) → NumbersRise (cond x (without_file n fs) (f ∷ without_file n fs))
    by true a r = r
    by false a r = (a, r)

above_push : (m : ℕ) (fs : List File) (f : File) → NumbersAbove m fs → m < f.file → NumbersAbove m (fs ++ f ∷ [])
above_push m [] f h l = (l, tt)
above_push m (g ∷ gs) f h l = (h.0, above_push m gs f h.1 l)

pub rise_push : (fs : List File) (f : File) → NumbersRise fs → NumbersBelow f.file fs → NumbersRise (fs ++ f ∷ [])
rise_push [] f r b = (tt, tt)
rise_push (g ∷ gs) f r b = (above_push g.file gs f r.0 b.0, rise_push gs f r.1 b.1)

pub below_push : (n : ℕ) (fs : List File) (f : File) → f.file ≡ n → NumbersBelow n fs → NumbersBelow (n + 1) (fs ++ f ∷ [])
below_push n [] f e h = (omega (arith, e), tt)
below_push n (g ∷ gs) f e h = let l = h.0 in (omega (arith, l), below_push n gs f e h.1)

-- BLOCKS
pub blocks_with : (n : ℕ) (b : List ℕ) (fs : List File) → NumbersRise fs → is_file fs n ≡ true → blocks_needed (with_file_bytes fs n b) + blocks_for (length (file_bytes fs n)) ≡ blocks_needed fs + blocks_for (length b)
blocks_with n b [] r h = absurd (false≢true h)
blocks_with n b (f ∷ fs) r h = by (eqb f.file n) refl h (blocks_with n b fs r.1)
  where
    by : (x : Bool) → eqb f.file n ≡ x → (x || is_file fs n) ≡ true →
        (is_file fs n ≡ true → blocks_needed (with_file_bytes fs n b) + blocks_for (length (file_bytes fs n)) ≡ blocks_needed fs + blocks_for (length b)) →
        blocks_needed (cond x (record f { bytes = b }) f ∷ with_file_bytes fs n b) + blocks_for (length (cond x f.bytes (file_bytes fs n))) ≡ blocks_for (length f.bytes) + blocks_needed fs + blocks_for (length b)
    by true e h rest =
        let gone : is_file fs n ≡ false = ap (is_file fs) (sym (eqb-true f.file n e)) ∙ absent_above f.file fs r.0 in
        let same : blocks_needed (with_file_bytes fs n b) ≡ blocks_needed fs = ap blocks_needed (with_absent n b fs gone) in
        omega (arith, same)
    by false e h rest = omega (arith, rest h)

pub blocks_without : (n : ℕ) (fs : List File) → NumbersRise fs → blocks_needed (without_file n fs) + blocks_for (length (file_bytes fs n)) ≡ blocks_needed fs
blocks_without n [] r = refl
blocks_without n (f ∷ fs) r = by (eqb f.file n) refl (blocks_without n fs r.1)
  where
    by : (x : Bool) → eqb f.file n ≡ x →
        blocks_needed (without_file n fs) + blocks_for (length (file_bytes fs n)) ≡ blocks_needed fs →
        blocks_needed (cond x (without_file n fs) (f ∷ without_file n fs)) + blocks_for (length (cond x f.bytes (file_bytes fs n))) ≡ blocks_for (length f.bytes) + blocks_needed fs
    by true e rest =
        let gone : is_file fs n ≡ false = ap (is_file fs) (sym (eqb-true f.file n e)) ∙ absent_above f.file fs r.0 in
        let same : blocks_needed (without_file n fs) ≡ blocks_needed fs = ap blocks_needed (without_absent n fs gone) in
        omega (arith, same)
    by false e rest = omega (arith, rest)

pub blocks_push : (fs : List File) (n : ℕ) → blocks_needed (fs ++ record { file = n; bytes = [] } ∷ []) ≡ blocks_needed fs
blocks_push [] n = refl
blocks_push (f ∷ fs) n = ap (λ k. blocks_for (length f.bytes) + k) (blocks_push fs n)

-- ENTRIES of the map: `test` is that of a number
module _ {Z : Type 0} (test : FileNo → Bool) (n : ℕ) (says : (k : FileNo) → test k ≡ eqb k.0 n) where
  pub found : (es : List (FileNo × Vec ℕ Z)) → is_some (lookup test es) ≡ is_file (map file_of es) n
  found [] = refl
  found (e ∷ es) = ap (λ b. is_some (cond b (Some e.1) (lookup test es))) (says e.0) ∙ by (eqb e.0.0 n) (found es)
    where
      by : (x : Bool) → is_some (lookup test es) ≡ is_file (map file_of es) n → is_some (cond x (Some e.1) (lookup test es)) ≡ (x || is_file (map file_of es) n)
      by true rest = refl
      by false rest = rest

  pub bytes_found : (es : List (FileNo × Vec ℕ Z)) (v : Vec ℕ Z) → lookup test es ≡ Some v → file_bytes (map file_of es) n ≡ v.items
  bytes_found [] v h = absurd (false≢true (ap is_some h))
  bytes_found (e ∷ es) v h = by (eqb e.0.0 n) (sym (ap (λ b. cond b (Some e.1) (lookup test es)) (says e.0)) ∙ h) (bytes_found es v)
    where
      by : (x : Bool) → cond x (Some e.1) (lookup test es) ≡ Some v → (lookup test es ≡ Some v → file_bytes (map file_of es) n ≡ v.items) → cond x e.1.items (file_bytes (map file_of es) n) ≡ v.items
      by true h rest = let is : e.1 ≡ v = cc in ap (λ (w : Vec ℕ Z). w.items) is
      by false h rest = rest h

  pub changed : (es : List (FileNo × Vec ℕ Z)) (v : Vec ℕ Z) → NumbersRise (map file_of es) → map file_of (set_value test es v) ≡ with_file_bytes (map file_of es) n v.items
  changed [] v r = refl
  changed (e ∷ es) v r = ap (λ b. map file_of (cond b ((e.0, v) ∷ es) (e ∷ set_value test es v))) (says e.0) ∙ by (eqb e.0.0 n) refl (changed es v r.1)
    where
      by : (x : Bool) → eqb e.0.0 n ≡ x → map file_of (set_value test es v) ≡ with_file_bytes (map file_of es) n v.items → map file_of (cond x ((e.0, v) ∷ es) (e ∷ set_value test es v)) ≡ cond x (record { file = e.0.0; bytes = v.items }) (file_of e) ∷ with_file_bytes (map file_of es) n v.items
      by true h rest =
          let gone : is_file (map file_of es) n ≡ false = ap (is_file (map file_of es)) (sym (eqb-true e.0.0 n h)) ∙ absent_above e.0.0 (map file_of es) r.0 in
          ap (λ t. record { file = e.0.0; bytes = v.items } ∷ t) (sym (with_absent n v.items (map file_of es) gone))
      by false h rest = ap (λ t. file_of e ∷ t) rest

  pub removed : (es : List (FileNo × Vec ℕ Z)) → NumbersRise (map file_of es) → map file_of (remove_entry test es) ≡ without_file n (map file_of es)
  removed [] r = refl
  removed (e ∷ es) r = ap (λ b. map file_of (cond b es (e ∷ remove_entry test es))) (says e.0) ∙ by (eqb e.0.0 n) refl (removed es r.1)
    where
      by : (x : Bool) → eqb e.0.0 n ≡ x → map file_of (remove_entry test es) ≡ without_file n (map file_of es) → map file_of (cond x es (e ∷ remove_entry test es)) ≡ cond x (without_file n (map file_of es)) (file_of e ∷ without_file n (map file_of es))
      by true h rest =
          let gone : is_file (map file_of es) n ≡ false = ap (is_file (map file_of es)) (sym (eqb-true e.0.0 n h)) ∙ absent_above e.0.0 (map file_of es) r.0 in
          sym (without_absent n (map file_of es) gone)
      by false h rest = ap (λ t. file_of e ∷ t) rest

  pub not_found : (es : List (FileNo × Vec ℕ Z)) → NumbersBelow n (map file_of es) → lookup test es ≡ None
  not_found es h = by (lookup test es) (found es ∙ absent_below n (map file_of es) h)
    where
      by : (o : Option (Vec ℕ Z)) → is_some o ≡ false → o ≡ None
      by None h = refl
      by (Some v) h = absurd (false≢true (sym h))

-- bytes that are what they were
pub kept : (n : ℕ) (fs : List File) → NumbersRise fs → with_file_bytes fs n (file_bytes fs n) ≡ fs
kept n [] r = refl
kept n (f ∷ fs) r = by (eqb f.file n) refl (kept n fs r.1)
  where
    by : (x : Bool) → eqb f.file n ≡ x → with_file_bytes fs n (file_bytes fs n) ≡ fs → cond x (record f { bytes = cond x f.bytes (file_bytes fs n) }) f ∷ with_file_bytes fs n (cond x f.bytes (file_bytes fs n)) ≡ f ∷ fs
    by true e rest =
        let gone : is_file fs n ≡ false = ap (is_file fs) (sym (eqb-true f.file n e)) ∙ absent_above f.file fs r.0 in
        ap (λ t. f ∷ t) (with_absent n f.bytes fs gone)
    by false e rest = ap (λ t. f ∷ t) rest
