-- What a machine's relations obey: `held` is what it holds, `does` says that effects happened between two of its states, and
-- `stops` that some first ones of them did, and the machine stopped.
use Rattle.std.proofs.Common.{sym, ◌∙◌, ap}
use Rattle.std.specs.Prelude.{◌≡◌, refl, true, List, [], ◌∷◌, ◌++◌}
use Rattle.linux_model.specs.Effects.{Effect}
use Rattle.linux_model.specs.Held.{Held, held_after_all, is_apart}
use Rattle.linux_model.proofs.Holding.{apart_stays, after-append}

pub record Lawful {X : Type 0} (held : X → Held) (does stops : X → X → List Effect → Type 0) : Type 0 where
  -- nothing happened; effects, then others; an effect that is the manager's alone
  pub none : (a : X) → does a a []
  pub both : (a b c : X) (es fs : List Effect) → does a b es → does b c fs → does a c (es ++ fs)
  pub apart : (a : X) (e : Effect) → is_apart e ≡ true → does a a (e ∷ [])
  -- what is held goes with the plain kernel
  pub holds : (a b : X) (es : List Effect) → does a b es → held b ≡ held_after_all es (held a)
  -- it may stop before it begins; after effects that happened; and before effects that would have followed
  pub not_begun : (a : X) → stops a a []
  pub stops_then : (a b c : X) (es fs : List Effect) → does a b es → stops b c fs → stops a c (es ++ fs)
  pub stops_front : (a b : X) (es fs : List Effect) → stops a b es → stops a b (es ++ fs)

-- A machine that only holds: effects happened where what is held is what they make of it, and nothing is said of a stop.
abbrev pub Led : Held → Held → List Effect → Type 0
Led old new es = new ≡ held_after_all es old

-- It is lawful.
pub holding : {X : Type 0} (held : X → Held) → Lawful held (λ a b es. Led (held a) (held b) es) (λ a b es. Unit {0})
holding held = record {
  none = λ a. refl;
  both = λ a b c es fs d e. e ∙ ap (held_after_all fs) d ∙ sym (after-append es fs (held a));
  apart = λ a e is. sym (apart_stays e (held a) is);
  holds = λ a b es d. d;
  not_begun = λ a. tt;
  stops_then = λ a b c es fs d s. tt;
  stops_front = λ a b es fs s. tt;
}
