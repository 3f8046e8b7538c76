-- A worked list: from the beginning a look-up of a name leads back to rest, by the laws.
use Rattle.std.proofs.Common.{◌≡◌, [], ◌∷◌, ◌++◌, List, None, arith, refl}
use Rattle.lego_base.specs.declared.records.Patch.{Patch}
use Rattle.lego_base.specs.declared.shape.Shape.{Shape}
use Rattle.lego_msg.proofs.Rows.{two}
use Rattle.lego_msg.proofs.Coming.{played-is-legal}
use Rattle.lego_msg.specs.Granted.{IsClear}
use Rattle.lego_msg.specs.Marks.{Call, Order, order}
use Rattle.lego_msg.specs.Next.{played}
use Rattle.lego_msg.specs.Run.{run}
use Rattle.lego_msg.specs.Track.{Track, start}
use Rattle.lego_msg.specs.declared.event.Event.{Event}
use Rattle.lego_msg.specs.declared.event.Event.TheVariants.{Complete, Deliver, Send}
use Rattle.lego_msg.specs.declared.message.Message.{Message}
use Rattle.lego_msg.specs.declared.operation.Operation.TheVariants.{GetsName}
use Rattle.lego_msg.specs.declared.place.Place.TheVariants.{Manager, Storage}
use Rattle.lego_rest.proofs.Resting.{start-rests}
use Rattle.lego_rest.specs.Fits.{MachineFits}
use Rattle.rest_laws.proofs.Leads.{leads-back}
use Rattle.rest_laws.specs.GoingOn.{IsDue, LedBack}
use Rattle.lego_msg.specs.declared.body.Body.TheVariants as body

abbrev machine : Shape
machine = two (0 ∷ []) []

abbrev look_up : Order
look_up = order Manager (GetsName [])

abbrev begun : Track
begun = start machine (Call look_up ∷ [])

abbrev asked : Message
asked = record { from = Manager; to = Storage; op = record { 0 = 1 }; body = body.NameGet [] }

abbrev told : Message
told = record { from = Storage; to = Manager; op = record { 0 = 1 }; body = body.NameIs None }

abbrev messages : List Event
messages = Send asked ∷ Deliver asked ∷ Send told ∷ Deliver told ∷ []

-- the events are those that come
comes_so : played 5 begun ≡ messages ++ Complete (record { 0 = 1 }) ∷ []
comes_so = refl

machine_fits : MachineFits machine
machine_fits = record { two = omega arith; log = omega arith; deliveries = omega arith; there = tt; rise = tt }

clear : (log : List Patch) → IsClear (GetsName []) log
clear [] = tt
clear (p ∷ log) = (refl, clear log)

look_up_is_due : IsDue begun look_up []
look_up_is_due = record {
  rests = start-rests machine (Call look_up ∷ []) machine_fits;
  due = refl;
  granted = record { issuer = refl; grow = λ pid region o e. e; within = λ pid region o e. cc e; rise = tt; there = tt; fits = tt; clear = λ m s at. clear s.log };
}

leads_back : LedBack begun look_up [] (run begun (messages ++ Complete (record { 0 = 1 }) ∷ []))
leads_back = leads-back begun look_up [] messages (record { 0 = 1 }) look_up_is_due (played-is-legal 5 begun refl) (tt, (tt, (tt, (tt, tt))))
