-- How the map of a list of entries moves with the list.
use Rattle.std.proofs.Common.{◌≡◌, ℕ, zero, suc, List, [], ◌∷◌, ◌++◌, length, get_or, set, Option, Some, None, Bool, true, false, cond, refl, sym, ap, subst, ◌∙◌, arith}
use Rattle.std.specs.Str.{bytes_eq}
use Rattle.std.proofs.lemmas.Slice.Eq.{bytes_eq-Decides}
use Rattle.std.proofs.lemmas.Bool.{false≢true}
use Rattle.lego_base.specs.declared.report.FileOut.{FileOut}
use Rattle.host_io.specs.Depots.{with_entry}
use Rattle.host_io.specs.Objects.{looked_up}
use Rattle.host_io.specs.Places.{NoneBefore, IsPlace}

-- the premise on the entries after the first
rest_none : (file : FileOut) (files : List FileOut) (name : List ℕ) (n : ℕ) → NoneBefore (file ∷ files) name (suc n) → NoneBefore files name n
rest_none file files name n none k d below = none (suc k) d (omega arith)

-- no entry has the name
pub looked_up-none : (files : List FileOut) (name : List ℕ) → NoneBefore files name (length files) → looked_up files name ≡ None
looked_up-none [] name none = refl
looked_up-none (file ∷ files) name none =
    rw (none 0 file (omega arith)) (looked_up-none files name (rest_none file files name (length files) none))

-- the first entry with the name
pub looked_up-at : (files : List FileOut) (name : List ℕ) (i : ℕ) (d : FileOut) → IsPlace files name i → looked_up files name ≡ Some (get_or files i d).bytes
looked_up-at [] name i d place = absurd (omega (arith, place.within))
looked_up-at (file ∷ files) name zero d place = rw (place.named file)
looked_up-at (file ∷ files) name (suc i) d place =
    rw (place.first 0 file (omega arith)) (looked_up-at files name i d (record { within = omega (arith, place.within); named = λ e. place.named e; first = rest_none file files name i place.first }))

apart : (asked name own : List ℕ) → bytes_eq asked own ≡ true → bytes_eq name own ≡ false → bytes_eq asked name ≡ true → ⊥
apart asked name own same other again =
    false≢true (sym other ∙ (bytes_eq-Decides name own).1 (sym ((bytes_eq-Decides asked name).0 again) ∙ (bytes_eq-Decides asked own).0 same))

-- two tests on the way down the list, which can't both hold
passed : (x y : Option (List ℕ)) (rest now : Option (List ℕ)) (own named : Bool) → (own ≡ true → named ≡ true → ⊥) → now ≡ cond named x rest → cond own y now ≡ cond named x (cond own y rest)
passed x y rest now true true never is = absurd (never refl refl)
passed x y rest now true false never is = refl
passed x y rest now false true never is = is
passed x y rest now false false never is = is

replaced : (x y z : Option (List ℕ)) (named : Bool) → cond named x z ≡ cond named x (cond named y z)
replaced x y z true = refl
replaced x y z false = refl

-- an entry with the name is replaced
pub looked_up-set : (files : List FileOut) (name : List ℕ) (i : ℕ) (d : FileOut) (bytes : List ℕ) (asked : List ℕ) → IsPlace files name i → looked_up (set files i (record (get_or files i d) { bytes = bytes })) asked ≡ with_entry name (Some bytes) (looked_up files) asked
looked_up-set [] name i d bytes asked place = absurd (omega (arith, place.within))
looked_up-set (file ∷ files) name zero d bytes asked place =
    let same : name ≡ file.name = (bytes_eq-Decides name file.name).0 (place.named file) in
    rw same (replaced (Some bytes) (Some file.bytes) (looked_up files asked) (bytes_eq asked file.name))
looked_up-set (file ∷ files) name (suc i) d bytes asked place =
    passed (Some bytes) (Some file.bytes) (looked_up files asked) (looked_up (set files i (record (get_or files i d) { bytes = bytes })) asked) (bytes_eq asked file.name) (bytes_eq asked name) (λ own named. apart asked name file.name own (place.first 0 file (omega arith)) named) (looked_up-set files name i d bytes asked (record { within = omega (arith, place.within); named = λ e. place.named e; first = rest_none file files name i place.first }))

-- an entry is added at the end
pub looked_up-push : (files : List FileOut) (name bytes asked : List ℕ) → NoneBefore files name (length files) → looked_up (files ++ record { name = name; bytes = bytes } ∷ []) asked ≡ with_entry name (Some bytes) (looked_up files) asked
looked_up-push [] name bytes asked none = refl
looked_up-push (file ∷ files) name bytes asked none =
    passed (Some bytes) (Some file.bytes) (looked_up files asked) (looked_up (files ++ record { name = name; bytes = bytes } ∷ []) asked) (bytes_eq asked file.name) (bytes_eq asked name) (λ own named. apart asked name file.name own (none 0 file (omega arith)) named) (looked_up-push files name bytes asked (rest_none file files name (length files) none))

-- what a look-up finds, where `file` is the entry that was read
pub looked_up-found : (files : List FileOut) (name : List ℕ) (i : ℕ) (file : FileOut) (bytes : List ℕ) → IsPlace files name i → file ≡ get_or files i file → bytes ≡ file.bytes → looked_up files name ≡ Some bytes
looked_up-found files name i file bytes place is same =
    looked_up-at files name i file place ∙ (ap (λ (f : FileOut). Some f.bytes) (sym is) ∙ ap (λ (l : List ℕ). Some l) (sym same))

-- the whole map, where `file` is the entry that was read
pub map_of-set : (files : List FileOut) (name : List ℕ) (i : ℕ) (file : FileOut) (bytes : List ℕ) → IsPlace files name i → file ≡ get_or files i file → looked_up (set files i (record { name = file.name; bytes = bytes })) ≡ with_entry name (Some bytes) (looked_up files)
map_of-set files name i file bytes place is =
    ap (λ (f : FileOut). looked_up (set files i (record f { bytes = bytes }))) is ∙ (λ j asked. looked_up-set files name i file bytes asked place j)

pub map_of-push : (files : List FileOut) (name bytes : List ℕ) → NoneBefore files name (length files) → looked_up (files ++ record { name = name; bytes = bytes } ∷ []) ≡ with_entry name (Some bytes) (looked_up files)
map_of-push files name bytes none = λ j asked. looked_up-push files name bytes asked none j

-- the place in equal lists
pub IsPlace-equal : (files files' : List FileOut) (name name' : List ℕ) (i : ℕ) → files ≡ files' → name ≡ name' → IsPlace files name i → IsPlace files' name' i
IsPlace-equal files files' name name' i is same place =
    subst (λ (l : List FileOut). IsPlace l name' i) is (subst (λ (l : List ℕ). IsPlace files l i) same place)

pub NoneBefore-equal : (files files' : List FileOut) (name name' : List ℕ) → files ≡ files' → name ≡ name' → NoneBefore files name (length files) → NoneBefore files' name' (length files')
NoneBefore-equal files files' name name' is same none =
    subst (λ (l : List FileOut). NoneBefore l name' (length l)) is (subst (λ (l : List ℕ). NoneBefore files l (length files)) same none)
