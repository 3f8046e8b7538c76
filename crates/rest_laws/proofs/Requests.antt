-- The first messages of every kind of operation that is granted go to memories that are there and to storage.
use Rattle.std.proofs.Common.{◌≡◌, ◌+◌, ◌<◌, ℕ, List, Some, arith, false, refl, suc, zero}
use Rattle.std.proofs.Math.Nat.{mod-lt}
use Rattle.std.specs.List.{AllByRecursion}
use Rattle.lego_base.specs.declared.ids.MemId.{MemId}
use Rattle.lego_base.specs.declared.ids.OpNo.{OpNo}
use Rattle.lego_base.specs.declared.records.HomeEntry.{HomeEntry}
use Rattle.lego_msg.specs.Granted.{IsThere, OpFits}
use Rattle.lego_msg.specs.Maps.{owner_of}
use Rattle.lego_msg.specs.Operations.{asks_of, each_from, messages_of}
use Rattle.lego_msg.specs.Places.{cache_of, home_of, memory, secondary_of}
use Rattle.lego_msg.specs.Plain.{Plain}
use Rattle.lego_msg.specs.State.{Block}
use Rattle.lego_msg.specs.declared.body.Body.{Body}
use Rattle.lego_msg.specs.declared.operation.Operation.{Operation}
use Rattle.lego_msg.specs.declared.operation.Operation.TheVariants.{AsksAreas, AsksSize, Copies, CutsFile, CutsName, Drains, Drops, Finds, FreesFile, GetsName, Heals, ListsNames, MakesName, Reads, ReadsFile, SetsAreas, SetsHome, Unmaps, Writes, WritesFile}
use Rattle.lego_msg.specs.declared.place.Place.{Place}
use Rattle.lego_rest.specs.Fits.{IsRequest, changes_block}
use Rattle.lego_msg.specs.declared.body.Body.TheVariants as body
use Rattle.lego_msg.specs.declared.place.Place.TheVariants as place

module _ (n : ℕ) (some : 0 < n) (by : Place) (number : OpNo) where
  to_memory : (k : ℕ) (what : Body) → k < n → ((b : Block) → changes_block b what ≡ false) → IsRequest n (record { from = by; to = memory k; op = number; body = what })
  to_memory k what below quiet = record { there = below; component = refl; changes = quiet }

  to_storage : (what : Body) → ((b : Block) → changes_block b what ≡ false) → IsRequest n (record { from = by; to = place.Storage; op = number; body = what })
  to_storage what quiet = record { there = tt; component = refl; changes = quiet }

  second : (k : ℕ) → secondary_of n k < n
  second k = mod-lt (k + 1) some

  each : (count k : ℕ) (what last : Body) → k + count ≡ n → ((b : Block) → changes_block b what ≡ false) → ((b : Block) → changes_block b last ≡ false) → AllByRecursion (IsRequest n) (messages_of by number (each_from count k what last))
  each zero k what last is quiet quiet' = (to_storage last quiet', tt)
  each (suc count) k what last is quiet quiet' = (to_memory k what (omega (arith, is)) quiet, each count (k + 1) what last (omega (arith, is)) quiet quiet')

  pub requests : (owners : List HomeEntry) (f : Plain) → ((pid region : ℕ) (o : MemId) → owner_of owners pid region ≡ Some o → o.0 < n) → (o : Operation) → OpFits owners f o → IsThere n o → AllByRecursion (IsRequest n) (messages_of by number (asks_of n o))
  requests owners f within (Finds pid region) fits there = (to_memory (home_of n pid.0) (body.Find pid region) (mod-lt pid.0 some) (λ b. refl), tt)
  requests owners f within (Reads pid line owner) fits there = (to_memory owner.0 (body.Read pid line) (within _ _ owner fits) (λ b. refl), tt)
  requests owners f within (Writes origin patch owner) fits there = (to_memory (secondary_of n owner.0) _ (second owner.0) (λ b. refl), (to_memory owner.0 _ (within _ _ owner fits.owned) (λ b. refl), tt))
  requests owners f within (SetsHome pid region owner) fits there = (to_memory (secondary_of n (home_of n pid.0)) _ (second (home_of n pid.0)) (λ b. refl), (to_memory (home_of n pid.0) _ (mod-lt pid.0 some) (λ b. refl), tt))
  requests owners f within (SetsAreas pid region areas owner) fits there = (to_memory (secondary_of n owner.0) _ (second owner.0) (λ b. refl), (to_memory owner.0 _ (within _ _ owner fits.owned) (λ b. refl), tt))
  requests owners f within (AsksAreas pid region owner) fits there = (to_memory owner.0 (body.GetAreas pid region) (within _ _ owner fits) (λ b. refl), tt)
  requests owners f within (Drains m) fits there = (to_memory m.0 body.Drain there (λ b. refl), tt)
  requests owners f within (Unmaps pid region first pages areas owner) fits there = (to_memory (secondary_of n owner.0) _ (second owner.0) (λ b. refl), (to_memory owner.0 _ (within _ _ owner fits.owned) (λ b. refl), (to_storage _ (λ b. refl), tt)))
  requests owners f within (Copies parent child regions owner) fits there = (to_memory (secondary_of n owner.0) _ (second owner.0) (λ b. refl), (to_memory owner.0 _ there (λ b. refl), (to_storage _ (λ b. refl), tt)))
  requests owners f within (Drops pid) fits there = each n 0 (body.DropSpace pid) (body.ImageFree pid) (omega arith) (λ b. refl) (λ b. refl)
  requests owners f within (ReadsFile file block off len) fits there = (to_memory (cache_of n file.0) _ (mod-lt file.0 some) (λ b. refl), tt)
  requests owners f within (WritesFile file block off bytes) fits there = (to_memory (cache_of n file.0) _ (mod-lt file.0 some) (λ b. refl), tt)
  requests owners f within (CutsFile file size) fits there = (to_memory (cache_of n file.0) _ (mod-lt file.0 some) (λ b. refl), tt)
  requests owners f within (AsksSize file) fits there = (to_storage _ (λ b. refl), tt)
  requests owners f within (GetsName name) fits there = (to_storage _ (λ b. refl), tt)
  requests owners f within (MakesName name) fits there = (to_storage _ (λ b. refl), tt)
  requests owners f within (CutsName name) fits there = (to_storage _ (λ b. refl), tt)
  requests owners f within ListsNames fits there = (to_storage _ (λ b. refl), tt)
  requests owners f within (FreesFile file) fits there = (to_storage _ (λ b. refl), tt)
  requests owners f within (Heals to what) fits there = absurd fits
