-- A field that is there and one that isn't, steps one after another, and what a fault says.
use Rattle.std.proofs.Common.{◌≡◌, ℕ, ◌≤◌, Bool, true, false, not, ◌&&◌, leb, List, [], ◌∷◌, map, length, Option, Some, None, Result, Ok, Err, refl, sym, ap, subst, arith}
use Rattle.std.specs.Prelude.{if◌then◌else◌, IsErrAnd}
use Rattle.std.specs.List.{list_any}
use Rattle.std.proofs.lemmas.Bool.{leb-true}
use Rattle.std.proofs.lemmas.List.{length-map}
use Rattle.serde_json.specs.Data.{Data, Items}
use Rattle.serde_json.specs.Find.{get, as_array}
use Rattle.desc_read.specs.declared.fault.Flaw.{Flaw}
use Rattle.desc_read.specs.declared.fault.Flaw.TheVariants.{WrongKind, OutOfRange}
use Rattle.desc_read.specs.declared.fault.DescKind.{DescKind}
use Rattle.desc_read.specs.declared.fault.DescFault.{DescFault}
use Rattle.desc_read.specs.declared.fault.DescFault.TheVariants.{Bad, NoMemory}
use Rattle.desc_read.specs.declared.place.Entry.{Entry}
use Rattle.desc_read.specs.Faults.{Refusal, refused, field_place, Fails, Gives, IsFault}
use Rattle.desc_read.specs.Checks.{is_within, of_kind, data_of, is_wrong_kind, is_out_of_range, values, all_of, list_of}
use Rattle.desc_read.specs.Objects.{field, field_of, placed, default, ◌>>=◌}

-- a fault is the refusal of its kind and place
pub fails_at : {A : Type 0} (kind : DescKind) (place : List ℕ) (fault : DescFault) (want : Result A Refusal) → IsFault kind place fault → want ≡ refused kind place → Fails fault want
fails_at want_kind place (Bad k p) want is e = rw (is.0, is.1) e
fails_at want_kind place NoMemory want is e = tt

module _ {A : Type 0} (entry : Option Entry) (d : Data) (name : List ℕ) (check : Data → Result A Flaw) (other : Option A) where
  pub field_there : (v : Data) → Some v ≡ get name d → field entry d name check other ≡ placed (field_place entry name) (check v)
  unfolding field
  field_there v e = rw (← e) refl

  pub field_absent : None ≡ get name d → field entry d name check other ≡ default (field_place entry name) other
  unfolding field
  field_absent e = rw (← e) refl

-- a call that gives what another definition gives
pub gives_is : {A : Type 0} (r : Result A DescFault) (x y : Result A Refusal) → Gives r x → y ≡ x → Gives r y
gives_is r x y h e = subst (λ w. Gives r w) (sym e) h

-- steps one after another
pub goes : {A B : Type 0} (want : Result A Refusal) (next : A → Result B Refusal) (a : A) (r : Result B DescFault) → want ≡ Ok a → Gives r (next a) → Gives r (want >>= next)
goes want next a r e h = rw e h

pub stops : {A B : Type 0} (want : Result A Refusal) (next : A → Result B Refusal) (fault : DescFault) → Fails fault want → Fails fault (want >>= next)
stops want next (Bad k place) h = rw h refl
stops want next NoMemory h = tt

-- a step that fails, where `?` hands its fault out
pub hands_out : {B : Type 0} (r : Result B DescFault) (fault : DescFault) (want : Result B Refusal) → IsErrAnd r (λ y. y ≡ fault) → Fails fault want → Gives r want
hands_out (Ok b) fault want is h = absurd is
hands_out (Err y) fault want is h = rw is h

pub leaves : {A B : Type 0} (r : Result B DescFault) (fault : DescFault) (first : Result A Refusal) (next : A → Result B Refusal) → IsErrAnd r (λ y. y ≡ fault) → Fails fault first → Gives r (first >>= next)
leaves r fault first next is h = hands_out r fault (first >>= next) is (stops first next fault h)

-- ---- how long a list is

values_few : {A : Type 0} (rs : List (Result A Flaw)) → length (values rs) ≤ length rs
values_few [] = omega arith
values_few (Ok a ∷ rs) = omega (arith, values_few rs)
values_few (Err flaw ∷ rs) = omega (arith, values_few rs)

let_pass : {A : Type 0} (wrong fits out : Bool) (ys xs : List A) → (if wrong then Err WrongKind else (if fits && not out then Ok ys else Err OutOfRange)) ≡ Ok xs → (fits ≡ true) × (ys ≡ xs)
let_pass true fits out ys xs e = absurd cc
let_pass false false out ys xs e = absurd cc
let_pass false true true ys xs e = absurd cc
let_pass false true false ys xs e = (refl, cc)

second : (a b : Bool) → (a && b) ≡ true → b ≡ true
second true b e = e
second false b e = absurd cc

listed_few : {A : Type 0} (least most : ℕ) (check : Data → Result A Flaw) (o : Option Items) (xs : List A) → of_kind (λ items. all_of (is_within least most (length (data_of items))) (map check (data_of items))) o ≡ Ok xs → length xs ≤ most
listed_few least most check None xs e = absurd cc
listed_few least most check (Some items) xs e =
    let ds = data_of items in
    let p = let_pass (list_any is_wrong_kind (map check ds)) (is_within least most (length ds)) (list_any is_out_of_range (map check ds)) (values (map check ds)) xs e in
    let few : length ds ≤ most = leb-true _ _ (second (leb least (length ds)) (leb (length ds) most) p.0) in
    let same : length xs ≡ length (values (map check ds)) = ap length (sym p.1) in
    let all : length (map check ds) ≡ length ds = length-map ds check in
    omega (arith, values_few (map check ds))

placed_few : {A : Type 0} (place : List ℕ) (r : Result (List A) Flaw) (xs : List A) → placed place r ≡ Ok xs → r ≡ Ok xs
placed_few place (Ok ys) xs e = cc
placed_few place (Err flaw) xs e = absurd cc

field_few_of : {A : Type 0} (place : List ℕ) (least most : ℕ) (check : Data → Result A Flaw) (other : List A) (o : Option Data) (xs : List A) → length other ≤ most → field_of place (list_of least most check) (Some other) o ≡ Ok xs → length xs ≤ most
unfolding list_of
field_few_of place least most check other None xs few e = let same : other ≡ xs = cc in rw (← same) few
field_few_of place least most check other (Some d) xs few e = listed_few least most check (as_array d) xs (placed_few place (list_of least most check d) xs e)

pub field_few : {A : Type 0} (entry : Option Entry) (d : Data) (name : List ℕ) (least most : ℕ) (check : Data → Result A Flaw) (other xs : List A) → length other ≤ most → field entry d name (list_of least most check) (Some other) ≡ Ok xs → length xs ≤ most
unfolding field
field_few entry d name least most check other xs few e = field_few_of (field_place entry name) least most check other (get name d) xs few e
