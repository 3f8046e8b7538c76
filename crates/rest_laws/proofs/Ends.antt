-- Every kind of operation at its completion.
use Rattle.lego_msg.specs.declared.operation.Operation.TheVariants.{AsksAreas, AsksSize, Copies, CutsFile, CutsName, Drains, Drops, Finds, FreesFile, GetsName, Heals, ListsNames, MakesName, Reads, ReadsFile, SetsAreas, SetsHome, Unmaps, Writes, WritesFile}
use Rattle.rest_laws.proofs.Changed.{region-changes-end}
use Rattle.rest_laws.proofs.Copying.{copies-end}
use Rattle.rest_laws.proofs.Dropping.{spaces-end}
use Rattle.rest_laws.proofs.Unchanged.{file-changes-end, questions-end}
use Rattle.rest_laws.specs.KindsEnding.{EveryKindEnds}

pub every-kind-ends : EveryKindEnds
every-kind-ends n owners f (Finds pid region) some fits owes called = questions-end n owners f (Finds pid region) fits tt
every-kind-ends n owners f (Reads pid line owner) some fits owes called = questions-end n owners f (Reads pid line owner) fits tt
every-kind-ends n owners f (Writes origin patch owner) some fits owes called = region-changes-end n owners f (Writes origin patch owner) fits owes tt
every-kind-ends n owners f (SetsHome pid region owner) some fits owes called = region-changes-end n owners f (SetsHome pid region owner) fits owes tt
every-kind-ends n owners f (SetsAreas pid region areas owner) some fits owes called = region-changes-end n owners f (SetsAreas pid region areas owner) fits owes tt
every-kind-ends n owners f (AsksAreas pid region owner) some fits owes called = questions-end n owners f (AsksAreas pid region owner) fits tt
every-kind-ends n owners f (Drains memory_) some fits owes called = questions-end n owners f (Drains memory_) fits tt
every-kind-ends n owners f (Unmaps pid region first pages areas owner) some fits owes called = region-changes-end n owners f (Unmaps pid region first pages areas owner) fits owes tt
every-kind-ends n owners f (Copies parent child regions owner) some fits owes called = copies-end n owners f parent child regions owner fits owes.1
every-kind-ends n owners f (Drops pid) some fits owes called = spaces-end n owners f pid some fits
every-kind-ends n owners f (ReadsFile file block off len) some fits owes called = questions-end n owners f (ReadsFile file block off len) fits tt
every-kind-ends n owners f (WritesFile file block off bytes) some fits owes called = file-changes-end n owners f (WritesFile file block off bytes) fits tt
every-kind-ends n owners f (CutsFile file size) some fits owes called = file-changes-end n owners f (CutsFile file size) fits tt
every-kind-ends n owners f (AsksSize file) some fits owes called = questions-end n owners f (AsksSize file) fits tt
every-kind-ends n owners f (GetsName name) some fits owes called = questions-end n owners f (GetsName name) fits tt
every-kind-ends n owners f (MakesName name) some fits owes called = file-changes-end n owners f (MakesName name) fits tt
every-kind-ends n owners f (CutsName name) some fits owes called = file-changes-end n owners f (CutsName name) fits tt
every-kind-ends n owners f ListsNames some fits owes called = questions-end n owners f ListsNames fits tt
every-kind-ends n owners f (FreesFile file) some fits owes called = file-changes-end n owners f (FreesFile file) fits tt
every-kind-ends n owners f (Heals to_ what_) some fits owes called = absurd called
