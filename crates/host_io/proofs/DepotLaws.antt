-- Laws of the map that a depot tells.
use Rattle.std.proofs.Common.{◌≡◌, ◌≢◌, ℕ, List, Option, Some, None, Bool, true, false, cond, refl, sym, ap, subst, ◌∙◌}
use Rattle.std.proofs.lemmas.Bool.{false≢true}
use Rattle.std.specs.Str.{bytes_eq}
use Rattle.std.proofs.lemmas.Slice.Eq.{bytes_eq-Decides}
use Rattle.host_io.specs.Depots.{Files, with_entry, Has, Set, OthersStay}

-- an entry that was set is there
pub with_entry-same : (name : List ℕ) (entry : Option (List ℕ)) (files : Files) → with_entry name entry files name ≡ entry
with_entry-same name entry files = rw ((bytes_eq-Decides name name).1 refl)

-- and every other entry stays
pub with_entry-other : (name asked : List ℕ) (entry : Option (List ℕ)) (files : Files) → asked ≢ name → with_entry name entry files asked ≡ files asked
with_entry-other name asked entry files other = by (bytes_eq asked name) (bytes_eq-Decides asked name).0 where
  by : (b : Bool) → (b ≡ true → asked ≡ name) → cond b entry (files asked) ≡ files asked
  by true same = absurd (other (same refl))
  by false same = refl

-- the later of two entries of a name counts
pub with_entry-twice : (name : List ℕ) (first second : Option (List ℕ)) (files : Files) → with_entry name second (with_entry name first files) ≡ with_entry name second files
with_entry-twice name first second files = λ i asked. by asked (bytes_eq asked name) i where
  by : (asked : List ℕ) (b : Bool) → cond b second (cond b first (files asked)) ≡ cond b second (files asked)
  by asked true = refl
  by asked false = refl

-- an entry that is what it was
pub with_entry-again : (name : List ℕ) (files : Files) → with_entry name (files name) files ≡ files
with_entry-again name files = λ i asked. by asked (bytes_eq asked name) (bytes_eq-Decides asked name).0 i where
  by : (asked : List ℕ) (b : Bool) → (b ≡ true → asked ≡ name) → cond b (files name) (files asked) ≡ files asked
  by asked true same = ap files (sym (same refl))
  by asked false same = refl

-- what was put is there
pub Has-set : (old new : Option Files) (name bytes : List ℕ) → Set old new name bytes → Has new name (Some bytes)
Has-set None new name bytes set = subst (λ (t : Option Files). Has t name (Some bytes)) (sym set) tt
Has-set (Some files) new name bytes set =
    subst (λ (t : Option Files). Has t name (Some bytes)) (sym set) (with_entry-same name (Some bytes) files)

-- and all else is as it was
pub OthersStay-set : (old new : Option Files) (name bytes : List ℕ) → Set old new name bytes → OthersStay old new name
OthersStay-set None new name bytes set = set
OthersStay-set (Some files) new name bytes set =
    subst (λ (t : Option Files). OthersStay (Some files) t name) (sym set) (λ asked other. with_entry-other name asked (Some bytes) files other)

pub OthersStay-same : (old new : Option Files) (name : List ℕ) → new ≡ old → OthersStay old new name
OthersStay-same None new name same = same
OthersStay-same (Some files) new name same =
    subst (λ (t : Option Files). OthersStay (Some files) t name) (sym same) (λ asked other. refl)

-- a look-up of another name
pub Has-other : (old new : Option Files) (name asked : List ℕ) (entry : Option (List ℕ)) → OthersStay old new name → asked ≢ name → Has old asked entry → Has new asked entry
Has-other None new name asked entry stay other has = subst (λ (t : Option Files). Has t asked entry) (sym stay) tt
Has-other (Some files) None name asked entry stay other has = absurd stay
Has-other (Some files) (Some now) name asked entry stay other has = stay asked other ∙ has

-- where all others stay, the new map is the old one with some entry under the name
pub OthersStay-entry : (files : Files) (new : Option Files) (name : List ℕ) → OthersStay (Some files) new name → (entry : Option (List ℕ)) × (new ≡ Some (with_entry name entry files))
OthersStay-entry files None name stay = absurd stay
OthersStay-entry files (Some now) name stay = (now name, λ i. Some (λ asked. at asked (bytes_eq asked name) (bytes_eq-Decides asked name) i)) where
  at : (asked : List ℕ) (b : Bool) → (b ≡ true → asked ≡ name) × (asked ≡ name → b ≡ true) → now asked ≡ cond b (now name) (files asked)
  at asked true same = ap now (same.0 refl)
  at asked false same = stay asked (λ e. false≢true (same.1 e))

-- two puts, one after the other
pub Set-append : (files : Files) (b c : Option Files) (first second xs ys : List ℕ) → Set (Some files) b first xs → Set b c second ys → c ≡ Some (with_entry second (Some ys) (with_entry first (Some xs) files))
Set-append files b c first second xs ys once again =
    subst (λ (t : Option Files). Set t c second ys) once again
