-- Areas that are asked for, region by region.
use Rattle.std.proofs.Common.{◌≡◌, ◌∙◌, ◌+◌, ◌*◌, ◌<◌, ◌≤◌, [], ◌∷◌, ◌++◌, ℕ, Bool, Err, List, None, Ok, Option, Result, Some, ap, arith, false, length, refl, subst, sym, true}
use Rattle.lego_base.specs.Keys.{is_of, those}
use Rattle.lego_base.specs.declared.ids.Pid.{Pid}
use Rattle.lego_base.specs.declared.records.Area.{Area}
use Rattle.lego_base.specs.declared.records.HomeEntry.{HomeEntry}
use Rattle.lego_base.specs.declared.sizes.TheConstants.{PAGES_END}
use Rattle.lego_base.specs.declared.stops.Halt.{Halt}
use Rattle.lego_base.specs.declared.stops.Halt.TheVariants as halt
use Rattle.area_list.proofs.Canonical.{IsWithin}
use Rattle.area_list.specs.Runs.{joined}
use Rattle.area_list.specs.declared.TheConstants.{MOST_RUNS}
use Rattle.lego_msg.specs.Files.{Files}
use Rattle.lego_msg.specs.Maps.{home_key}
use Rattle.lego_msg.specs.Marks.{Call, Mark, order}
use Rattle.lego_msg.specs.Places.{is_issuer}
use Rattle.lego_msg.specs.Plain.{Plain}
use Rattle.lego_msg.specs.Track.{memory_count}
use Rattle.lego_msg.specs.declared.event.Event.{Event}
use Rattle.lego_msg.specs.declared.operation.Operation.{Operation}
use Rattle.lego_msg.specs.declared.operation.Operation.TheVariants.{AsksAreas}
use Rattle.lego_msg.specs.declared.place.Place.{Place}
use Rattle.linux_model.specs.Effects.{AsksSpace, AsksSpan}
use Rattle.placement.specs.Owners.{Owned}
use Rattle.cluster.proofs.Regionwise.{asks_fit, owned_those}
use Rattle.cluster.specs.Askings.{AreOwned, areas_among, asks_of}
use Rattle.cluster.specs.Mapping.{entries_in}
use Rattle.cluster.specs.Standing.{StandsFor}
use Rattle.cluster.specs.Whole.{Whole, or_out_of_memory}
use Rattle.cluster.specs.Sequences.{AllGranted, CallsAll, all_free, all_served, called_for, effects_of, owners_after_all}
use Rattle.split_script.specs.Now.{Now, owned_of}
use Rattle.split_script.specs.Regions.{asks}
use Rattle.ex_memory.proofs.Asked.{AllApart}
use Rattle.ex_memory.proofs.Ending.{Filed, IsOfFiles, files_end, then_lacks}
use Rattle.ex_memory.proofs.Rising.{rising}
use Rattle.ex_memory.specs.Did.{Does, Is}
use Rattle.ex_memory.specs.Seen.{held_of}
use Rattle.ex_memory.specs.Sound.{InOrder, Sound}
use Rattle.ex_memory.specs.Split.{Split, plain_of}

asks_apart : (entries : List HomeEntry) → AllApart (all_free (asks_of entries))
asks_apart [] = tt
asks_apart (e ∷ entries) = (refl, asks_apart entries)

asks_plain : (entries : List HomeEntry) (f : Plain) → effects_of (all_free (asks_of entries)) f ≡ f
asks_plain [] f = refl
asks_plain (e ∷ entries) f = asks_plain entries f

asks_owners : (entries : List HomeEntry) (owners : List HomeEntry) → owners_after_all (all_free (asks_of entries)) owners ≡ owners
asks_owners [] owners = refl
asks_owners (e ∷ entries) owners = asks_owners entries owners

asks_are : (n : Now) (entries : List HomeEntry) (rest : List Mark) → asks n entries rest ≡ called_for n.by false (all_free (asks_of entries)) rest
asks_are n [] rest = refl
asks_are n (e ∷ entries) rest = ap (λ (due : List Mark). Call (order n.by (AsksAreas e.pid e.region e.owner)) ∷ due) (asks_are n entries rest)

module _ (m : Split) where
  pub asks_marks : (n : Now) (mine its : List HomeEntry) (rest : List Mark) → Is n m → mine ≡ its → asks n mine rest ≡ called_for m.by false (all_free (asks_of its)) rest
  asks_marks n mine its rest is same =
      ap (λ (es : List HomeEntry). asks n es rest) same ∙ asks_are n its rest ∙ ap (λ (b : Place). called_for b false (all_free (asks_of its)) rest) is.by

  pub spaces : (pid : ℕ) → IsOfFiles m (all_free (asks_of (entries_in (record { 0 = pid }) m.whole.table))) (AsksSpace pid) m.whole.disk.files
  spaces pid = let entries : List HomeEntry = entries_in (record { 0 = pid }) m.whole.table in record {
    apart = asks_apart entries;
    plain = asks_plain entries (plain_of m.whole);
    owners = asks_owners entries m.whole.table.owners;
    beside = λ n. refl;
    marks_are = λ n is rest. asks_marks n (owned_of n pid) entries rest is (ap (λ (t : Owned). those home_key (is_of pid) t.owners) is.owned);
    held = refl;
    form = λ s. s;
  }

  pub asks_granted : is_issuer m.by ≡ true → (sound : Sound m) (entries : List HomeEntry) → AreOwned m.whole.table.owners entries → AllGranted m.whole (plain_of m.whole) m.by (all_free (asks_of entries))
  asks_granted issuer sound entries owned = record {
    stands = sound.rests;
    issuer = issuer;
    drained = [];
    empty = tt;
    fit = asks_fit (memory_count m.whole.shape) m.whole.table.owners (plain_of m.whole) entries owned;
  }

  pub all_owned : (sound : Sound m) (pid : ℕ) → AreOwned m.whole.table.owners (entries_in (record { 0 = pid }) m.whole.table)
  all_owned sound pid = owned_those (is_of pid) m.whole.table.owners sound.rests.plain.rise

-- THE AREAS OF A PROCESS
module _ {W : Type 0} (told : W → Option (List Event)) (faults : W → ℕ) (w w' : W) (m : Split) (d : Whole) (order : InOrder m) (pid : Pid) where
  abbrev operations : List Operation
  operations = asks_of (entries_in pid m.whole.table)

  granted : m.whole.halt ≡ None → AllGranted m.whole (plain_of m.whole) m.by (all_free operations)
  granted goes = asks_granted m order.issuer (order.sound goes) (entries_in pid m.whole.table) (all_owned m (order.sound goes) pid.0)

  pub areas_filed : {X : Type 0} (result : Result X Halt) → CallsAll told faults w w' m.whole d m.by operations (λ (x : X). all_served m.by operations) result → Filed told faults w w' m d (AsksSpace pid.0) result
  areas_filed result calls = files_end told faults w w' m d (all_free operations) (AsksSpace pid.0) m.whole.disk.files (λ goes. spaces m pid.0) order.sound granted result calls

  pub areas_lack : {X Y : Type 0} (x : X) (end : Whole) → CallsAll told faults w w' m.whole d m.by operations (λ (x : X). all_served m.by operations) (Ok x) → end ≡ record d { halt = or_out_of_memory d.halt } → Does {X = Y} told faults w w' m (record m { whole = end }) (AsksSpace pid.0 ∷ []) (Err halt.NoMemory)
  areas_lack x end calls is = then_lacks told faults w w' m d (all_free operations) (AsksSpace pid.0) m.whole.disk.files (λ goes. spaces m pid.0) order.sound granted x (record m { whole = end }) calls (ap (λ (e : Whole). record m { whole = e }) is)

-- what is told of them
pub areas_told : (m : Split) (pid : Pid) (runs : List Area) → InOrder m → m.whole.halt ≡ None → ((f : Plain) → StandsFor m.whole f → runs ≡ areas_among f (entries_in pid m.whole.table)) → runs ≡ areas_among (plain_of m.whole) (entries_in pid m.whole.table)
areas_told m pid runs order goes told = told (plain_of m.whole) (order.sound goes).rests

pub areas_rise : (m : Split) (pid : Pid) (runs : List Area) → InOrder m → m.whole.halt ≡ None → ((f : Plain) → StandsFor m.whole f → runs ≡ areas_among f (entries_in pid m.whole.table)) → IsWithin 0 PAGES_END runs
areas_rise m pid runs order goes told = subst (IsWithin 0 PAGES_END) (sym (areas_told m pid runs order goes told)) (rising m (order.sound goes) pid.0)

pub areas_few : (m : Split) (pid : Pid) (runs : List Area) → InOrder m → m.whole.halt ≡ None → ((f : Plain) → StandsFor m.whole f → runs ≡ areas_among f (entries_in pid m.whole.table)) → length (joined [] runs) ≤ MOST_RUNS
areas_few m pid runs order goes told = subst (λ (rs : List Area). length (joined [] rs) ≤ MOST_RUNS) (sym (areas_told m pid runs order goes told)) ((order.sound goes).runs pid.0)

pub areas_answer : (m k : Split) (pid : Pid) (runs areas : List Area) → InOrder m → m.whole.halt ≡ None → ((f : Plain) → StandsFor m.whole f → runs ≡ areas_among f (entries_in pid m.whole.table)) → areas ≡ joined [] runs → m ≡ k → areas ≡ ((held_of k).space pid.0).areas
areas_answer m k pid runs areas order goes told is same = is ∙ ap (joined []) (areas_told m pid runs order goes told) ∙ ap (λ (x : Split). ((held_of x).space pid.0).areas) same
