-- A list that is read item by item is the list of the definition.
use Rattle.std.proofs.Common.{◌≡◌, ℕ, suc, ◌+◌, ◌<◌, ◌≤◌, Bool, true, false, not, ◌&&◌, List, [], ◌∷◌, ◌++◌, map, length, get_or, drop, Some, None, Result, Ok, Err, refl, sym, ap, ◌∙◌, append_assoc, add-one, drop-cons}
use Rattle.std.specs.Prelude.{if◌then◌else◌}
use Rattle.std.specs.List.{list_any}
use Rattle.std.proofs.lemmas.Bool.{le-leb, lt-leb}
use Rattle.std.proofs.lemmas.List.{append-nil}
use Rattle.std.proofs.Math.ListN.{drop_of_length-le}
use Rattle.serde_json.specs.Data.{Data}
use Rattle.serde_json.specs.Find.{as_array}
use Rattle.serde_json.specs.View.{view, items_view}
use Rattle.serde_json.specs.declared.value.Value.{Value}
use Rattle.desc_read.specs.declared.fault.Flaw.{Flaw}
use Rattle.desc_read.specs.declared.fault.Flaw.TheVariants.{WrongKind, OutOfRange}
use Rattle.desc_read.specs.Checks.{is_within, data_of, is_wrong_kind, is_out_of_range, values, list_of, list_up_to}

pub data_is : (vs : List Value) → data_of (items_view vs) ≡ map view vs
data_is [] = refl
data_is (v ∷ vs) = ap (λ ds. view v ∷ ds) (data_is vs)

module _ {A : Type 0} where
  -- what is answered after some items, with the rest still to be read
  abbrev pub finish : Bool → List A → List (Result A Flaw) → Result (List A) Flaw
  finish fits found [] = if fits then Ok found else Err OutOfRange
  finish fits found (Ok a ∷ rest) = finish fits (found ++ a ∷ []) rest
  finish fits found (Err WrongKind ∷ rest) = Err WrongKind
  finish fits found (Err OutOfRange ∷ rest) = finish false found rest

  ended : Bool → Bool → List A → Result (List A) Flaw
  ended wrong fits found = if wrong then Err WrongKind else (if fits then Ok found else Err OutOfRange)

pub finish_is : {A : Type 0} (fits : Bool) (found : List A) (items : List (Result A Flaw)) → finish fits found items ≡ (if list_any is_wrong_kind items then Err WrongKind else (if fits && not (list_any is_out_of_range items) then Ok (found ++ values items) else Err OutOfRange))
finish_is true found [] = ap Ok (sym (append-nil found))
finish_is false found [] = refl
finish_is fits found (Ok a ∷ rest) = finish_is fits (found ++ a ∷ []) rest ∙ rw (append_assoc found (a ∷ []) (values rest)) refl
finish_is fits found (Err WrongKind ∷ rest) = refl
finish_is true found (Err OutOfRange ∷ rest) = finish_is false found rest
finish_is false found (Err OutOfRange ∷ rest) = finish_is false found rest

abbrev pub seen : {A : Type 0} → (Data → Result A Flaw) → Value → Result A Flaw
seen check v = check (view v)

views : {A : Type 0} (check : Data → Result A Flaw) (vs : List Value) → map check (map view vs) ≡ map (seen check) vs
views check [] = refl
views check (v ∷ vs) = ap (λ rs. check (view v) ∷ rs) (views check vs)

views_len : (vs : List Value) → length (map view vs) ≡ length vs
views_len [] = refl
views_len (v ∷ vs) = ap suc (views_len vs)

-- the list of the definition, read item by item
pub list_is : {A : Type 0} (least most : ℕ) (check : Data → Result A Flaw) (d : Data) (vs : List Value) → as_array d ≡ Some (items_view vs)
    → list_of least most check d ≡ finish (is_within least most (length vs)) [] (map (seen check) vs)
unfolding list_of
list_is least most check d vs e = rw (e, data_is vs, views_len vs, views check vs) (sym (finish_is (is_within least most (length vs)) [] (map (seen check) vs)))

module _ {A : Type 0} (f : Value → Result A Flaw) (vs : List Value) (i : ℕ) (whole : Result (List A) Flaw) (fits : Bool) (found : List A) (so_far : whole ≡ finish fits found (map f (drop i vs))) where
  pub more_ok : (v : Value) (a : A) → i < length vs → v ≡ get_or vs i v → f v ≡ Ok a → whole ≡ finish fits (found ++ a ∷ []) (map f (drop (i + 1) vs))
  more_ok v a lt at is = so_far ∙ rw (drop-cons vs i v, ← at, is, add-one) refl

  pub more_out : (v : Value) → i < length vs → v ≡ get_or vs i v → f v ≡ Err OutOfRange → whole ≡ finish false found (map f (drop (i + 1) vs))
  more_out v lt at is = so_far ∙ rw (drop-cons vs i v, ← at, is, add-one) refl

  pub more_wrong : (v : Value) → i < length vs → v ≡ get_or vs i v → f v ≡ Err WrongKind → whole ≡ Err WrongKind
  more_wrong v lt at is = so_far ∙ rw (drop-cons vs i v, ← at, is) refl

  pub no_more : length vs ≤ i → whole ≡ (if fits then Ok found else Err OutOfRange)
  no_more le = so_far ∙ rw (drop_of_length-le vs le) refl

-- what the list of the value gives is what its items give
pub of_list : {A : Type 0} (least most : ℕ) (check : Data → Result A Flaw) (d : Data) (vs ws : List Value) (r : Result (List A) Flaw) → Some (items_view ws) ≡ as_array d → vs ≡ ws
    → finish (is_within least most (length vs)) [] (map (seen check) vs) ≡ r → r ≡ list_of least most check d
of_list least most check d vs ws r e same ends = sym (list_is least most check d vs (sym e ∙ ap (λ xs. Some (items_view xs)) (sym same)) ∙ ends)

pub no_list : {A : Type 0} (least most : ℕ) (check : Data → Result A Flaw) (d : Data) → None ≡ as_array d → Err WrongKind ≡ list_of least most check d
unfolding list_of
no_list least most check d e = rw (← e) refl

-- ---- a list of entries

pub up_none : (most : ℕ) (d : Data) → None ≡ as_array d → list_up_to most d ≡ Err WrongKind
unfolding list_up_to
up_none most d e = rw (← e) refl

pub up_some : (most : ℕ) (d : Data) (vs : List Value) → Some (items_view vs) ≡ as_array d → length vs ≤ most → list_up_to most d ≡ Ok (map view vs)
unfolding list_up_to
up_some most d vs e few = rw (← e, data_is vs, views_len vs, le-leb (length vs) most few) refl

pub up_long : (most : ℕ) (d : Data) (vs : List Value) → Some (items_view vs) ≡ as_array d → most < length vs → list_up_to most d ≡ Err OutOfRange
unfolding list_up_to
up_long most d vs e many = rw (← e, data_is vs, views_len vs, lt-leb (length vs) most many) refl
