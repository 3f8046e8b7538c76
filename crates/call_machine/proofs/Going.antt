-- Effects that happen one piece after another: what a loop over a machine keeps.
use Rattle.std.proofs.Common.{◌≡◌, sym, ◌∙◌, ap, subst, refl, List, [], ◌++◌, append_assoc, append-nil}
use Rattle.linux_model.specs.Effects.{Effect}
use Rattle.linux_model.specs.Held.{Held}
use Rattle.call_machine.specs.Lawful.{Lawful}

-- of all effects these are left, and the others happened
pub record Going {X : Type 0} (does : X → X → List Effect → Type 0) (old now : X) (all left : List Effect) : Type 0 where
  pub done : List Effect
  pub did : does old now done
  pub whole : done ++ left ≡ all

module _ {X : Type 0} (held : X → Held) (does stops : X → X → List Effect → Type 0) (laws : Lawful held does stops) where
  pub begins : (old : X) (all : List Effect) → Going does old old all all
  begins old all = record { done = []; did = laws.none old; whole = refl }

  pub goes_on : (old now new : X) (all left es rest : List Effect) → Going does old now all left → left ≡ es ++ rest → does now new es → Going does old new all rest
  goes_on old now new all left es rest going is did = record {
    done = going.done ++ es;
    did = laws.both old now new going.done es going.did did;
    whole = append_assoc going.done es rest ∙ ap (λ (fs : List Effect). going.done ++ fs) (sym is) ∙ going.whole;
  }

  pub ends : (old now : X) (all left : List Effect) → Going does old now all left → left ≡ [] → does old now all
  ends old now all left going is =
      let whole : going.done ≡ all = sym (append-nil going.done) ∙ ap (λ (fs : List Effect). going.done ++ fs) (sym is) ∙ going.whole in
      subst (does old now) whole going.did

  pub stopped : (old now new : X) (all left es rest : List Effect) → Going does old now all left → left ≡ es ++ rest → stops now new es → stops old new all
  stopped old now new all left es rest going is stop =
      subst (stops old new) (ap (λ (fs : List Effect). going.done ++ fs) (sym is) ∙ going.whole)
      (laws.stops_then old now new going.done (es ++ rest) going.did (laws.stops_front now new es rest stop))
