-- Names in the order of their bytes: what is found, put in and removed.
use Rattle.std.proofs.Common.{◌≡◌, ◌+◌, ◌≤◌, ◌||◌, [], ◌∷◌, ◌∙◌, ℕ, Bool, List, None, Some, ap, arith, cond, eqb, false, insert, length, ltb, map, not, position, refl, suc, sym, true, unwrap_or}
use Rattle.std.proofs.lemmas.Bool.{ltb-false}
use Rattle.std.proofs.lemmas.List.Sums.{prefix_len-le-length}
use Rattle.std.proofs.lemmas.Slice.Eq.{bytes_eq-Decides}
use Rattle.std.specs.Cmp.Lexicographic.{nat_list_eq_equiv}
use Rattle.std.specs.List.{AllByRecursion, IsDistinct, list_any, position_or_len}
use Rattle.std.specs.Map.{keys_of, lookup, remove_entry, values_of}
use Rattle.std.specs.Str.{bytes_eq}
use Rattle.std.specs.declared.vec.Vec.{Vec}
use Rattle.lego_base.specs.Files.{has_name, is_before, named, with_name, without_name}
use Rattle.lego_base.specs.declared.ids.FileNo.{FileNo}
use Rattle.file_table.specs.Entries.{name_of}

module _ {Z : Type 0} where
  -- a name is looked up
  pub name_found : (name : List ℕ) (es : List (Vec ℕ Z × FileNo)) → lookup (λ k. bytes_eq name k.items) es ≡ named (map name_of es) name
  name_found name [] = refl
  name_found name (e ∷ es) = ap (λ b. cond b (Some e.1) (lookup (λ k. bytes_eq name k.items) es)) (nat_list_eq_equiv.symm name e.0.items) ∙ ap (λ t. cond (bytes_eq e.0.items name) (Some e.1) t) (name_found name es)

  -- a name that no entry has
  gone : (name : List ℕ) (k : Vec ℕ Z) (es : List (Vec ℕ Z × FileNo)) → k.items ≡ name → AllByRecursion (λ (y : Vec ℕ Z). bytes_eq k.items y.items ≡ false) (keys_of es) → without_name name (map name_of es) ≡ map name_of es
  gone name k [] is h = refl
  gone name k (e ∷ es) is h =
      let other : bytes_eq e.0.items name ≡ false = nat_list_eq_equiv.symm e.0.items name ∙ ap (λ t. bytes_eq t e.0.items) (sym is) ∙ h.0 in
      ap (λ b. cond b (without_name name (map name_of es)) (name_of e ∷ without_name name (map name_of es))) other ∙ ap (λ t. name_of e ∷ t) (gone name k es is h.1)

  -- each name stands once, so the first one is all
  pub name_removed : (name : List ℕ) (es : List (Vec ℕ Z × FileNo)) → IsDistinct (λ (a b : Vec ℕ Z). bytes_eq a.items b.items) (keys_of es) →
      map name_of (remove_entry (λ k. bytes_eq name k.items) es) ≡ without_name name (map name_of es)
  unfolding IsDistinct
  name_removed name [] d = refl
  name_removed name (e ∷ es) d =
      ap (λ b. map name_of (cond b es (e ∷ remove_entry (λ k. bytes_eq name k.items) es))) (nat_list_eq_equiv.symm name e.0.items) ∙ by (bytes_eq e.0.items name) refl (name_removed name es d.1)
    where
      by : (x : Bool) → bytes_eq e.0.items name ≡ x → map name_of (remove_entry (λ k. bytes_eq name k.items) es) ≡ without_name name (map name_of es) → map name_of (cond x es (e ∷ remove_entry (λ k. bytes_eq name k.items) es)) ≡ cond x (without_name name (map name_of es)) (name_of e ∷ without_name name (map name_of es))
      by true h rest = sym (gone name e.0 es ((bytes_eq-Decides e.0.items name).0 h) d.0)
      by false h rest = ap (λ t. name_of e ∷ t) rest

  -- a file's name
  pub file_named : (file : FileNo) (es : List (Vec ℕ Z × FileNo)) → list_any (λ (f : FileNo). eqb f.0 file.0) (values_of es) ≡ has_name (map name_of es) file.0
  file_named file [] = refl
  file_named file (e ∷ es) = ap (λ b. eqb e.1.0 file.0 || b) (file_named file es)

  -- an entry is put in before the first whose name comes after it
  pub name_put : (x : Vec ℕ Z × FileNo) (es : List (Vec ℕ Z × FileNo)) →
      map name_of (insert es (position_or_len (λ (k : Vec ℕ Z). is_before x.0.items k.items) (keys_of es)) x) ≡ with_name (name_of x) (map name_of es)
  name_put x [] = refl
  name_put x (e ∷ es) = by (is_before x.0.items e.0.items) (name_put x es)
    where
      place : ℕ
      place = position_or_len (λ (k : Vec ℕ Z). is_before x.0.items k.items) (keys_of es)

      by : (b : Bool) → map name_of (insert es place x) ≡ with_name (name_of x) (map name_of es) → map name_of (insert (e ∷ es) (cond (not b) (1 + place) 0) x) ≡ cond b (name_of x ∷ name_of e ∷ map name_of es) (name_of e ∷ with_name (name_of x) (map name_of es))
      by true rest = refl
      by false rest =
          let next : 1 + place ≡ suc place = omega arith in
          ap (λ k. map name_of (insert (e ∷ es) k x)) next ∙ ap (λ t. name_of e ∷ t) rest

-- where the first name stands that comes after another one, or else the end
pub place_is : {X : Type 0} (p : X → Bool) (xs : List X) → unwrap_or (position p xs) (length xs) ≡ position_or_len p xs
place_is p xs = by (ltb (position_or_len p xs) (length xs)) refl
  where
    by : (b : Bool) → ltb (position_or_len p xs) (length xs) ≡ b → unwrap_or (cond b (Some (position_or_len p xs)) None) (length xs) ≡ position_or_len p xs
    by true e = refl
    by false e =
        let most : position_or_len p xs ≤ length xs = prefix_len-le-length (λ x. not (p x)) xs in
        let least : length xs ≤ position_or_len p xs = ltb-false (position_or_len p xs) (length xs) e in
        omega arith
