-- The names of an object in their order, as a loop goes over them.
use Rattle.std.proofs.Common.{◌≡◌, ℕ, Bool, true, false, cond, List, [], ◌∷◌, Option, Some, None, String, Global, string_bytes, bytes_eq, Bor, map, ◌||◌, refl, sym, ap, ◌∙◌}
use Rattle.std.specs.Prelude.{if◌then◌else◌}
use Rattle.std.specs.List.{list_any}
use Rattle.std.specs.Map.{keys_of}
use Rattle.serde_json.specs.View.{members_view}
use Rattle.serde_json.specs.declared.value.Value.{Value}
use Rattle.desc_read.specs.Objects.{first_unknown}

abbrev pub unknown_in : List (List ℕ) → List (String Global) → Option (List ℕ)
unknown_in known [] = None
unknown_in known (name ∷ rest) = if list_any (λ k. bytes_eq k (string_bytes name)) known then unknown_in known rest else Some (string_bytes name)

same_branch : {A : Type 0} (b : Bool) (x y z : A) → x ≡ y → cond b x z ≡ cond b y z
same_branch true x y z e = e
same_branch false x y z e = refl

pub unknown_is : (known : List (List ℕ)) (es : List (String Global × Value)) → unknown_in known (keys_of es) ≡ first_unknown known (members_view es)
unknown_is known [] = refl
unknown_is known (e ∷ es) = same_branch (list_any (λ k. bytes_eq k (string_bytes e.0)) known) _ _ _ (unknown_is known es)

-- the test of the code, over references
pub any_map : (known : List (Bor (List ℕ))) (name : List ℕ) → list_any (λ y. bytes_eq y.now name) known ≡ list_any (λ k. bytes_eq k name) (map (λ k. k.now) known)
any_map [] name = refl
any_map (k ∷ known) name = ap (λ b. bytes_eq k.now name || b) (any_map known name)

module _ (known : List (List ℕ)) (key : String Global) (it rest : List (String Global)) (whole : Option (List ℕ)) (name : List ℕ) (here : it ≡ key ∷ rest) (so_far : whole ≡ unknown_in known it) (named : name ≡ string_bytes key) where
  pub unknown_found : list_any (λ k. bytes_eq k name) known ≡ false → Some name ≡ whole
  unknown_found out = sym (so_far ∙ rw (here, ← named, out) refl)

  pub unknown_later : list_any (λ k. bytes_eq k name) known ≡ true → whole ≡ unknown_in known rest
  unknown_later among = so_far ∙ rw (here, ← named, among) refl
