-- The plain machine is lawful: effects that happened one after the other happened, and so for stops.
use Rattle.std.proofs.Common.{◌≡◌, true, refl, sym, ◌∙◌, ap, List, [], ◌∷◌, ◌++◌, append_assoc}
use Rattle.std.proofs.lemmas.Bool.{false≢true}
use Rattle.linux_model.specs.State.{Written}
use Rattle.linux_model.specs.Effects.{Effect, Puts}
use Rattle.linux_model.specs.Held.{is_apart}
use Rattle.call_machine.specs.Lawful.{Lawful, holding}
use Rattle.plain_machine.specs.Shown.{Shown, Shows, after_put, after_puts}
use Rattle.plain_machine.specs.Plain.{held_of, Did, Stopped}

after-more : (es fs : List Effect) (w : Written) → after_puts (es ++ fs) w ≡ after_puts fs (after_puts es w)
after-more [] fs w = refl
after-more (e ∷ es) fs w = after-more es fs (after_put e w)

pub shows-both : (a b c : Shown) (es fs : List Effect) → Shows es a b → Shows fs b c → Shows (es ++ fs) a c
shows-both a b c es fs s t = λ h. ((s (t h).0).0, (t h).1 ∙ ap (after_puts fs) (s (t h).0).1 ∙ sym (after-more es fs a.written))

pub shows-apart : (a : Shown) (e : Effect) → is_apart e ≡ true → Shows (e ∷ []) a a
shows-apart a (Puts stream bytes) is = absurd (false≢true is)
shows-apart a e is = λ h. (h, refl)

-- It is lawful.
pub lawful : Lawful held_of Did Stopped
lawful = record {
  none = λ a. record { led = refl; shows = λ h. (h, refl) };
  both = λ a b c es fs d e. record { led = (holding held_of).both a b c es fs d.led e.led; shows = shows-both a.output b.output c.output es fs d.shows e.shows };
  apart = λ a e is. record { led = (holding held_of).apart a e is; shows = shows-apart a.output e is };
  holds = λ a b es d. d.led;
  not_begun = λ a. record { first = []; rest = []; whole = refl; shows = λ h. (h, refl) };
  stops_then = λ a b c es fs d s. record {
    first = es ++ s.first;
    rest = s.rest;
    whole = append_assoc es s.first s.rest ∙ ap (λ xs. es ++ xs) s.whole;
    shows = shows-both a.output b.output c.output es s.first d.shows s.shows;
  };
  stops_front = λ a b es fs s. record {
    first = s.first;
    rest = s.rest ++ fs;
    whole = sym (append_assoc s.first s.rest fs) ∙ ap (λ xs. xs ++ fs) s.whole;
    shows = s.shows;
  };
}
