-- Every event that may come while something is owed, open, healing or due lowers the load.
use Rattle.std.proofs.Common.{◌≡◌, [], ◌∷◌, ◌∙◌, List, None, Option, Some, ap, arith, false, refl, sym}
use Rattle.std.proofs.lemmas.List.{places}
use Rattle.lego_msg.specs.Crashes.{crashed}
use Rattle.lego_msg.specs.Legal.{May}
use Rattle.lego_msg.specs.Run.{after}
use Rattle.lego_msg.specs.Sends.{MaySend, sent}
use Rattle.lego_msg.specs.Track.{Track}
use Rattle.lego_msg.specs.declared.event.Event.{Event}
use Rattle.lego_msg.specs.declared.event.Event.TheVariants.{Access, Complete, Crash, Deliver, Drop, Fill, Out, Send, Turn}
use Rattle.lego_msg.specs.declared.healing.Healing.{Healing}
use Rattle.lego_msg.specs.declared.message.Message.{Message}
use Rattle.lego_msg.specs.declared.operation.Open.{Open}
use Rattle.lego_waits.proofs.Arrivals.{deliver_lowers}
use Rattle.lego_waits.proofs.Falls.{Lowers, complete_lowers, first_sent, lowers, move_sent, not_both, owed_sent, quiet_still, still}
use Rattle.lego_waits.proofs.InPlace.{after_in_place}
use Rattle.lego_waits.proofs.Losses.{crash_lowers}
use Rattle.lego_waits.specs.Laws.{AreInPlace, CrashesLower, EachEventLowers, NoWaitIsForEver, is_still}

send_lowers : (t : Track) (m : Message) (owed : List Message) (h : Option Healing) (c : Option Open) → t.owed ≡ owed → t.healing ≡ h → t.current ≡ c → is_still t ≡ false → MaySend t m owed h c → Lowers t (sent t m owed h c)
send_lowers t m (x ∷ more) h c owed e is busy may = owed_sent t m more (owed ∙ ap (λ (x : Message). x ∷ more) (sym may))
send_lowers t m [] (Some h) c owed e is busy may = move_sent t m h h.current h.moves e refl refl may.1
send_lowers t m [] None (Some o) owed e is busy may = first_sent t m o is may.1
send_lowers t m [] None None owed e is busy may = absurd (not_both (is_still t) (still t owed is e may.0) busy)

event_lowers : (t : Track) (e : Event) → AreInPlace 0 t.mems → is_still t ≡ false → May t e → Lowers t (after t e)
event_lowers t (Turn number pid) places busy may = absurd (quiet_still t may.0.0 busy)
event_lowers t (Access cpu pid address kind bytes) places busy may = absurd (quiet_still t may.0.0 busy)
event_lowers t (Fill pid address bytes) places busy may = absurd (quiet_still t may.0 busy)
event_lowers t (Drop cpu pid line) places busy may = absurd (quiet_still t may.0.0 busy)
event_lowers t (Send m) places busy may = send_lowers t m t.owed t.healing t.current refl refl refl busy may
event_lowers t (Deliver m) places busy may = deliver_lowers t m places may
event_lowers t (Crash c inc) places busy may = crash_lowers t c inc may
event_lowers t (Complete op) places busy may = complete_lowers t op may
event_lowers t (Out stream bytes) places busy may = absurd (quiet_still t may.0 busy)

pub each-event-lowers : EachEventLowers
each-event-lowers t e places busy may = lowers t (after t e) (event_lowers t e places busy may)

pub crashes-lower : CrashesLower
crashes-lower t c inc may = lowers t (crashed t c.0) (crash_lowers t c inc may)

pub no-wait-is-for-ever : NoWaitIsForEver
no-wait-is-for-ever t [] places legal busy = omega arith
no-wait-is-for-ever t (e ∷ es) places legal busy =
    let less = each-event-lowers t e places busy.0 legal.0 in
    let rest = no-wait-is-for-ever (after t e) es (after_in_place t e legal.0 places) legal.1 busy.1 in
    omega (arith, less, rest)
