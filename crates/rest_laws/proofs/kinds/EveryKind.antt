-- The rows of every kind of operation.
use Rattle.std.proofs.Common.{ℕ, Option, Some, arith}
use Rattle.lego_msg.specs.Track.{Track}
use Rattle.lego_msg.specs.declared.operation.Open.{Open}
use Rattle.lego_msg.specs.declared.operation.Operation.{Operation}
use Rattle.lego_msg.specs.declared.operation.Operation.TheVariants.{AsksAreas, AsksSize, Copies, CutsFile, CutsName, Drains, Drops, Finds, FreesFile, GetsName, Heals, ListsNames, MakesName, Reads, ReadsFile, SetsAreas, SetsHome, Unmaps, Writes, WritesFile}
use Rattle.lego_rest.specs.Rest.{Middle}
use Rattle.rest_laws.proofs.kinds.Asking.{asks_rows, finds_rows, reads_rows}
use Rattle.rest_laws.proofs.kinds.Copies.{copies_rows}
use Rattle.rest_laws.proofs.kinds.Draining.{drains_rows}
use Rattle.rest_laws.proofs.kinds.FilesChanged.{cuts_file_rows, writes_file_rows}
use Rattle.rest_laws.proofs.kinds.FilesRead.{reads_file_rows}
use Rattle.rest_laws.proofs.kinds.Kind.{KindRows}
use Rattle.rest_laws.proofs.kinds.Names.{gets_rows, lists_rows, sizes_rows}
use Rattle.rest_laws.proofs.kinds.Naming.{cuts_rows, frees_rows, makes_rows}
use Rattle.rest_laws.proofs.kinds.Setting.{areas_rows, homes_rows}
use Rattle.rest_laws.proofs.kinds.Spaces.{drops_rows}
use Rattle.rest_laws.proofs.kinds.Unmapping.{unmaps_rows}
use Rattle.rest_laws.proofs.kinds.Writing.{writes_rows}

pub every_kind_rows : (lost : Option ℕ) (t : Track) (o : Open) → Middle lost (record t { current = Some o }) → KindRows lost t o
every_kind_rows lost t o middle = by o.operation middle
  where
    by : (op : Operation) → Middle lost (record t { current = Some (record o { operation = op }) }) → KindRows lost t (record o { operation = op })
    by (Finds pid region) middle = finds_rows lost t o pid region
    by (Reads pid line owner) middle = reads_rows lost t o pid line owner
    by (Writes origin patch owner) middle = writes_rows lost t o origin patch owner middle.current.0.fits middle.current.0.requests.1.0.there
    by (SetsHome pid region owner) middle = let two_ = middle.machine.two in homes_rows lost t o (omega (arith, two_)) pid region owner
    by (SetsAreas pid region areas owner) middle = let two_ = middle.machine.two in areas_rows lost t o (omega (arith, two_)) pid region areas owner middle.current.0.fits middle.current.0.requests.1.0.there
    by (AsksAreas pid region owner) middle = asks_rows lost t o pid region owner
    by (Drains m) middle = drains_rows lost t o m
    by (Unmaps pid region first pages areas owner) middle = unmaps_rows lost t o pid region first pages areas owner middle.current.0.fits middle.current.0.requests.1.0.there
    by (Copies parent child regions owner) middle = copies_rows lost t o parent child regions owner middle.current.0.fits.0.0 middle.current.0.fits.1 middle.current.0.requests.1.0.there
    by (Drops pid) middle = drops_rows lost t o pid
    by (ReadsFile file block off len) middle = reads_file_rows lost t o file block off len
    by (WritesFile file block off bytes) middle = writes_file_rows lost t o file block off bytes
    by (CutsFile file size) middle = cuts_file_rows lost t o file size
    by (AsksSize file) middle = sizes_rows lost t o file
    by (GetsName name) middle = gets_rows lost t o name
    by (MakesName name) middle = makes_rows lost t o name
    by (CutsName name) middle = cuts_rows lost t o name
    by ListsNames middle = lists_rows lost t o
    by (FreesFile file) middle = frees_rows lost t o file
    by (Heals to what) middle = absurd middle.current.0.fits
