-- The first message of an operation that is called for keeps the relation, where the operation is granted.
use Rattle.std.specs.List.{AllByRecursion}
use Rattle.std.specs.Prelude.{◌≡◌, ◌+◌, [], ◌∷◌, ◌++◌, List, None, Some, false}
use Rattle.lego_base.specs.declared.records.HomeEntry.{HomeEntry}
use Rattle.lego_msg.specs.Granted.{Granted}
use Rattle.lego_msg.specs.Marks.{Mark}
use Rattle.lego_msg.specs.Track.{Caches, Track, is_crash_due, memory_count, opened}
use Rattle.lego_msg.specs.declared.message.Message.{Message}
use Rattle.lego_msg.specs.declared.operation.Operation.{Operation}
use Rattle.lego_msg.specs.declared.place.Place.{Place}
use Rattle.lego_rest.specs.Fits.{IsRequest}
use Rattle.lego_rest.specs.Rest.{Middle}

-- With it the operation is open, and regions that had no owner may get one.
abbrev pub OperationBegins : Type 0
OperationBegins = (t : Track) (by : Place) (operation : Operation) (owners : List HomeEntry) (m : Message) (more : List Message) (caches : Caches) (due : List Mark) →
    t.owed ≡ [] → t.current ≡ None → t.healing ≡ None → is_crash_due t ≡ false →
    (opened t.shape t.next by operation).unsent ≡ m ∷ more → AllByRecursion (IsRequest (memory_count t.shape)) (m ∷ more) → Granted t by operation owners →
    Middle None t → Middle None (record t {
      net = t.net ++ m ∷ [];
      next = t.next + 1;
      current = Some (record (opened t.shape t.next by operation) { unsent = more });
      owners = owners;
      caches = caches;
      due = due;
    })
