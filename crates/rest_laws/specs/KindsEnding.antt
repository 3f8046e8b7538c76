-- The law of each kind of operation at its completion: questions and drains change nothing, what changes files or names
-- changes nothing that memories keep, and what changes homes, areas or pages changes those of its targets alone.
use Rattle.std.specs.Prelude.{◌<◌, ℕ, List}
use Rattle.lego_base.specs.declared.ids.MemId.{MemId}
use Rattle.lego_base.specs.declared.ids.Pid.{Pid}
use Rattle.lego_base.specs.declared.ids.RegionNo.{RegionNo}
use Rattle.lego_base.specs.declared.records.HomeEntry.{HomeEntry}
use Rattle.lego_msg.specs.Granted.{CopyFits, OpFits}
use Rattle.lego_msg.specs.Plain.{Plain}
use Rattle.lego_msg.specs.declared.operation.Operation.{Operation}
use Rattle.lego_msg.specs.declared.operation.Operation.TheVariants.{AsksAreas, AsksSize, Copies, CutsFile, CutsName, Drains, Drops, Finds, FreesFile, GetsName, Heals, ListsNames, MakesName, Reads, ReadsFile, SetsAreas, SetsHome, Unmaps, Writes, WritesFile}
use Rattle.lego_rest.specs.Fits.{PlainFits}
use Rattle.rest_laws.specs.Completing.{KindEnds}

-- operations that only ask, or wait for a log to be drained
abbrev pub OnlyAsks : Operation → Type 0
OnlyAsks (Finds pid region) = Unit {0}
OnlyAsks (Reads pid line owner) = Unit {0}
OnlyAsks (AsksAreas pid region owner) = Unit {0}
OnlyAsks (Drains m) = Unit {0}
OnlyAsks (ReadsFile file block off len) = Unit {0}
OnlyAsks (AsksSize file) = Unit {0}
OnlyAsks (GetsName name) = Unit {0}
OnlyAsks ListsNames = Unit {0}
OnlyAsks other = ⊥

-- operations on files and their names
abbrev pub ChangesFiles : Operation → Type 0
ChangesFiles (WritesFile file block off bytes) = Unit {0}
ChangesFiles (CutsFile file size) = Unit {0}
ChangesFiles (MakesName name) = Unit {0}
ChangesFiles (CutsName name) = Unit {0}
ChangesFiles (FreesFile file) = Unit {0}
ChangesFiles other = ⊥

abbrev pub QuestionsEnd : Type 0
QuestionsEnd = (n : ℕ) (owners : List HomeEntry) (f : Plain) (o : Operation) → PlainFits n owners f → OnlyAsks o → KindEnds n owners f o

abbrev pub FileChangesEnd : Type 0
FileChangesEnd = (n : ℕ) (owners : List HomeEntry) (f : Plain) (o : Operation) → PlainFits n owners f → ChangesFiles o → KindEnds n owners f o

-- operations on the home of a region, its areas, or pages of it
abbrev pub ChangesRegion : Operation → Type 0
ChangesRegion (SetsHome pid region owner) = Unit {0}
ChangesRegion (SetsAreas pid region areas owner) = Unit {0}
ChangesRegion (Writes origin patch owner) = Unit {0}
ChangesRegion (Unmaps pid region first pages areas owner) = Unit {0}
ChangesRegion other = ⊥

abbrev pub RegionChangesEnd : Type 0
RegionChangesEnd = (n : ℕ) (owners : List HomeEntry) (f : Plain) (o : Operation) → PlainFits n owners f → OpFits owners f o → ChangesRegion o → KindEnds n owners f o

-- a space that ends: each memory and storage is a target, and its owners end with it
abbrev pub SpacesEnd : Type 0
SpacesEnd = (n : ℕ) (owners : List HomeEntry) (f : Plain) (pid : Pid) → 0 < n → PlainFits n owners f → KindEnds n owners f (Drops pid)

-- regions that are copied for a child
abbrev pub CopiesEnd : Type 0
CopiesEnd = (n : ℕ) (owners : List HomeEntry) (f : Plain) (parent child : Pid) (regions : List RegionNo) (owner : MemId) →
    PlainFits n owners f → CopyFits owners parent.0 child.0 owner regions → KindEnds n owners f (Copies parent child regions owner)

-- EVERY KIND that is called for, where its caller owes nothing; the messages of a healing are of no such kind
abbrev pub IsCalled : Operation → Type 0
IsCalled (Heals to what) = ⊥
IsCalled other = Unit {0}

abbrev pub EveryKindEnds : Type 0
EveryKindEnds = (n : ℕ) (owners : List HomeEntry) (f : Plain) (o : Operation) → 0 < n → PlainFits n owners f → OpFits owners f o → IsCalled o → KindEnds n owners f o
