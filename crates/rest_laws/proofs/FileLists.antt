-- What is found in a list of files after it changed.
use Rattle.std.proofs.Common.{◌≡◌, ◌+◌, ◌<◌, ◌==◌, ◌||◌, [], ◌∷◌, ◌++◌, ◌∙◌, ℕ, Bool, List, None, Option, Some, ap, arith, cond, false, inl, inr, refl, sym, true}
use Rattle.std.proofs.lemmas.Bool.{cases_lt, eqb-true}
use Rattle.std.proofs.lemmas.Bool.Decides.{eqb_tells}
use Rattle.lego_base.specs.Files.{File, file_bytes, has_name, is_file, named, with_file_bytes, without_file}
use Rattle.lego_base.specs.declared.ids.FileNo.{FileNo}
use Rattle.lego_msg.specs.Files.{Files, freed, is_file_room, made, made_where, with_file}

pub gone_file : (file : ℕ) (files : List File) → is_file (without_file file files) file ≡ false
gone_file file [] = refl
gone_file file (f ∷ files) = by (f.file == file) refl (gone_file file files)
  where
    by : (b : Bool) → (f.file == file) ≡ b → is_file (without_file file files) file ≡ false → is_file (cond b (without_file file files) (f ∷ without_file file files)) file ≡ false
    by true is rest = rest
    by false is rest = ap (λ (b : Bool). b || is_file (without_file file files) file) is ∙ rest

-- every other file is as before
pub other_file : (file n : ℕ) → (n ≡ file → ⊥) → (files : List File) → (is_file (without_file file files) n ≡ is_file files n) × (file_bytes (without_file file files) n ≡ file_bytes files n)
other_file file n differ [] = (refl, refl)
other_file file n differ (f ∷ files) = by (f.file == file) refl (other_file file n differ files)
  where
    by : (b : Bool) → (f.file == file) ≡ b → (is_file (without_file file files) n ≡ is_file files n) × (file_bytes (without_file file files) n ≡ file_bytes files n) → (is_file (cond b (without_file file files) (f ∷ without_file file files)) n ≡ (f.file == n || is_file files n)) × (file_bytes (cond b (without_file file files) (f ∷ without_file file files)) n ≡ cond (f.file == n) f.bytes (file_bytes files n))
    by true is rest = elim (eqb_tells f.file n) [
      | inl same ↦ absurd (differ (sym same.1 ∙ eqb-true f.file file is))
      | inr apart ↦ (rest.0 ∙ sym (ap (λ (b : Bool). b || is_file files n) apart.0), rest.1 ∙ sym (ap (λ (b : Bool). cond b f.bytes (file_bytes files n)) apart.0))
    ]
    by false is rest = (ap (λ (b : Bool). f.file == n || b) rest.0, ap (λ (l : List ℕ). cond (f.file == n) f.bytes l) rest.1)

-- a file that is made is a later one than any that is cached
pub added_file : (x : File) (n : ℕ) → n < x.file → (files : List File) → (is_file (files ++ x ∷ []) n ≡ is_file files n) × (file_bytes (files ++ x ∷ []) n ≡ file_bytes files n)
added_file x n less [] = elim (eqb_tells x.file n) [
  | inl same ↦ let is = same.1 in absurd (omega (arith, less, is))
  | inr apart ↦ (ap (λ (b : Bool). b || false) apart.0, ap (λ (b : Bool). cond b x.bytes []) apart.0)
]
added_file x n less (f ∷ files) = let rest = added_file x n less files in (ap (λ (b : Bool). f.file == n || b) rest.0, ap (λ (l : List ℕ). cond (f.file == n) f.bytes l) rest.1)

-- BYTES of a file that is there become others
pub with_there : (n : ℕ) (bytes : List ℕ) (files : List File) (k : ℕ) → is_file (with_file_bytes files n bytes) k ≡ is_file files k
with_there n bytes [] k = refl
with_there n bytes (f ∷ files) k = by (f.file == n) (with_there n bytes files k)
  where
    by : (b : Bool) → is_file (with_file_bytes files n bytes) k ≡ is_file files k → is_file (cond b (record f { bytes = bytes }) f ∷ with_file_bytes files n bytes) k ≡ is_file (f ∷ files) k
    by true rest = ap (λ (b : Bool). f.file == k || b) rest
    by false rest = ap (λ (b : Bool). f.file == k || b) rest

pub with_same : (n : ℕ) (bytes : List ℕ) (files : List File) → is_file files n ≡ true → file_bytes (with_file_bytes files n bytes) n ≡ bytes
with_same n bytes [] is = cc is
with_same n bytes (f ∷ files) is = by (f.file == n) refl is (with_same n bytes files)
  where
    by : (b : Bool) → (f.file == n) ≡ b → (b || is_file files n) ≡ true → (is_file files n ≡ true → file_bytes (with_file_bytes files n bytes) n ≡ bytes) → file_bytes (cond b (record f { bytes = bytes }) f ∷ with_file_bytes files n bytes) n ≡ bytes
    by true e is rest = ap (λ (b : Bool). cond b bytes (file_bytes (with_file_bytes files n bytes) n)) e
    by false e is rest = ap (λ (b : Bool). cond b f.bytes (file_bytes (with_file_bytes files n bytes) n)) e ∙ rest is

pub with_other : (n : ℕ) (bytes : List ℕ) (files : List File) (k : ℕ) → (n ≡ k → ⊥) → file_bytes (with_file_bytes files n bytes) k ≡ file_bytes files k
with_other n bytes [] k differ = refl
with_other n bytes (f ∷ files) k differ = by (f.file == n) refl (with_other n bytes files k differ)
  where
    by : (b : Bool) → (f.file == n) ≡ b → file_bytes (with_file_bytes files n bytes) k ≡ file_bytes files k → file_bytes (cond b (record f { bytes = bytes }) f ∷ with_file_bytes files n bytes) k ≡ file_bytes (f ∷ files) k
    by true e rest = elim (eqb_tells f.file k) [
      | inl same ↦ absurd (differ (sym (eqb-true f.file n e) ∙ same.1))
      | inr apart ↦ ap (λ (b : Bool). cond b bytes (file_bytes (with_file_bytes files n bytes) k)) apart.0 ∙ rest ∙ sym (ap (λ (b : Bool). cond b f.bytes (file_bytes files k)) apart.0)
    ]
    by false e rest = ap (λ (l : List ℕ). cond (f.file == k) f.bytes l) rest

pub with_twice : (n : ℕ) (a b : List ℕ) (files : List File) → with_file_bytes (with_file_bytes files n a) n b ≡ with_file_bytes files n b
with_twice n a b [] = refl
with_twice n a b (f ∷ files) = by (f.file == n) refl (with_twice n a b files)
  where
    by : (c : Bool) → (f.file == n) ≡ c → with_file_bytes (with_file_bytes files n a) n b ≡ with_file_bytes files n b → with_file_bytes (cond c (record f { bytes = a }) f ∷ with_file_bytes files n a) n b ≡ cond c (record f { bytes = b }) f ∷ with_file_bytes files n b
    by true e rest = (λ i. cond (e i) (record f { bytes = b }) (record f { bytes = a }) ∷ rest i)
    by false e rest = (λ i. cond (e i) (record f { bytes = b }) f ∷ rest i)

-- NUMBERS stay below that of the next file

pub freed_numbers : (file : ℕ) (f : Files) → ((n : ℕ) → is_file f.files n ≡ true → n < f.next) → (n : ℕ) → is_file (freed f file).files n ≡ true → n < (freed f file).next
freed_numbers file f below n = by (has_name f.names file)
  where
    by : (x : Bool) → is_file (cond x f (record f { files = without_file file f.files })).files n ≡ true → n < (cond x f (record f { files = without_file file f.files })).next
    by true is = below n is
    by false is = elim (eqb_tells n file) [
      | inl same ↦ let both : true ≡ false = sym is ∙ ap (is_file (without_file file f.files)) same.1 ∙ gone_file file f.files in cc both
      | inr apart ↦ below n (sym (other_file file n apart.1 f.files).0 ∙ is)
    ]

pub made_numbers : (name : List ℕ) (f : Files) → ((n : ℕ) → is_file f.files n ≡ true → n < f.next) → (n : ℕ) → is_file (made f name).files n ≡ true → n < (made f name).next
made_numbers name f below n = by (named f.names name)
  where
    more : is_file (f.files ++ record { file = f.next; bytes = [] } ∷ []) n ≡ true → n < f.next + 1
    more is = elim (cases_lt n f.next) [
      | inl less ↦ omega (arith, less)
      | inr most ↦
          elim (eqb_tells n f.next) [
            | inl same ↦ let e = same.1 in omega (arith, e)
            | inr apart ↦ let rest = below n (sym (last n (λ e. apart.1 (sym e)) f.files) ∙ is) in omega (arith, rest)
          ]
    ]
      where
        last : (n : ℕ) → (f.next ≡ n → ⊥) → (files : List File) → is_file (files ++ record { file = f.next; bytes = [] } ∷ []) n ≡ is_file files n
        last n differ [] = elim (eqb_tells f.next n) [
          | inl same ↦ absurd (differ same.1)
          | inr apart ↦ ap (λ (b : Bool). b || false) apart.0
        ]
        last n differ (x ∷ files) = ap (λ (b : Bool). x.file == n || b) (last n differ files)

    under : (room : Bool) → is_file (cond room (with_file f name) f).files n ≡ true → n < (cond room (with_file f name) f).next
    under true is = more is
    under false is = below n is

    by : (c : Option FileNo) → is_file (made_where c f name).files n ≡ true → n < (made_where c f name).next
    by (Some file) is = below n is
    by None is = under (is_file_room f) is
