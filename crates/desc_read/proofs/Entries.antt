-- Entries that are read one after another are those of the definition.
use Rattle.std.proofs.Common.{◌≡◌, ℕ, suc, ◌+◌, ◌<◌, ◌≤◌, List, [], ◌∷◌, ◌++◌, map, length, get_or, drop, Result, Ok, refl, ◌∙◌, add-one, drop-cons}
use Rattle.std.specs.Prelude.{IsErrAnd}
use Rattle.std.proofs.Math.ListN.{drop_of_length-le}
use Rattle.lego_base.specs.declared.shape.CrashAt.{CrashAt}
use Rattle.serde_json.specs.Data.{Data}
use Rattle.serde_json.specs.View.{view}
use Rattle.serde_json.specs.declared.value.Value.{Value}
use Rattle.desc_read.specs.declared.fault.DescFault.{DescFault}
use Rattle.desc_read.specs.Faults.{Refusal, Fails, Gives}
use Rattle.desc_read.specs.Objects.{◌>>=◌, entries}
use Rattle.desc_read.specs.Plans.{turn_after}
use Rattle.desc_read.proofs.Fields.{stops, hands_out}

module _ {A : Type 0} (check : List A → Data → Result A Refusal) (vs : List Value) (i : ℕ) (found : List A) (whole : Result (List A) Refusal) (so_far : whole ≡ entries check found (map view (drop i vs))) where
  pub entry_more : (v : Value) (a : A) → i < length vs → v ≡ get_or vs i v → check found (view v) ≡ Ok a → whole ≡ entries check (found ++ a ∷ []) (map view (drop (i + 1) vs))
  entry_more v a lt at is = so_far ∙ rw (drop-cons vs i v, ← at, is, add-one) refl

  pub entry_fails : (r : Result (List A) DescFault) (fault : DescFault) (v : Value) → i < length vs → v ≡ get_or vs i v → IsErrAnd r (λ y. y ≡ fault) → Fails fault (check found (view v)) → Gives r whole
  entry_fails r fault v lt at is h =
      let next = λ (a : A). entries check (found ++ a ∷ []) (map view (drop (suc i) vs)) in
      let one : whole ≡ (check found (view v) >>= next) = so_far ∙ rw (drop-cons vs i v, ← at) refl in
      hands_out r fault whole is (rw one (stops (check found (view v)) next fault h))

  pub no_entry : length vs ≤ i → whole ≡ Ok found
  no_entry le = so_far ∙ rw (drop_of_length-le vs le) refl

pub turn_after-push : (crashes : List CrashAt) (crash : CrashAt) → turn_after (crashes ++ crash ∷ []) ≡ crash.turn + 1
turn_after-push [] crash = refl
turn_after-push (c ∷ []) crash = refl
turn_after-push (c ∷ d ∷ rest) crash = turn_after-push (d ∷ rest) crash
