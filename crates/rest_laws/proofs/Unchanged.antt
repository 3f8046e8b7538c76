-- Operations that only ask, and those on files: what memories keep is the same before and after.
use Rattle.std.proofs.Common.{◌≡◌, ◌<◌, ◌∙◌, ℕ, List, inl, inr, refl, sym, true}
use Rattle.lego_base.specs.declared.records.HomeEntry.{HomeEntry}
use Rattle.lego_msg.specs.Plain.{Plain, effect, with_files}
use Rattle.lego_msg.specs.Files.{Files}
use Rattle.lego_msg.specs.declared.operation.Operation.{Operation}
use Rattle.lego_msg.specs.declared.operation.Operation.TheVariants.{AsksAreas, AsksSize, Copies, CutsFile, CutsName, Drains, Drops, Finds, FreesFile, GetsName, Heals, ListsNames, MakesName, Reads, ReadsFile, SetsAreas, SetsHome, Unmaps, Writes, WritesFile}
use Rattle.lego_rest.specs.Fits.{PlainFits}
use Rattle.lego_rest.specs.Parts.{Areas, Cell, Home, Page, share}
use Rattle.lego_base.specs.Files.{is_file}
use Rattle.rest_laws.proofs.FileLists.{freed_numbers, made_numbers, with_there}
use Rattle.rest_laws.specs.Completing.{OwnersEnd}
use Rattle.rest_laws.specs.KindsEnding.{FileChangesEnd, QuestionsEnd}

-- the table of owners stays
pub owners_stay : (n : ℕ) (owners : List HomeEntry) (g : Plain) (o : Operation) → PlainFits n owners g → OwnersEnd n owners owners g o
owners_stay n owners g o fits = record { shares = λ j c. refl; shrink = λ pid region x e. e; logs = λ p x none e. e; plain = fits }

files_fit : (n : ℕ) (owners : List HomeEntry) (f : Plain) (files : Files) → ((file : ℕ) → is_file files.files file ≡ true → file < files.next) → PlainFits n owners f → PlainFits n owners (with_files files f)
files_fit n owners f files numbers fits = record { rise = fits.rise; within = fits.within; areas = fits.areas; pages = fits.pages; homes = fits.homes; mapped = fits.mapped; whole = fits.whole; lists = fits.lists; numbers = numbers }

-- what memories keep doesn't depend on files
pub same_kept : (n : ℕ) (owners : List HomeEntry) (f : Plain) (files : Files) (j : ℕ) (c : Cell) → share n owners f j c ≡ share n owners (with_files files f) j c
same_kept n owners f files j (Home pid region) = refl
same_kept n owners f files j (Areas pid region) = refl
same_kept n owners f files j (Page pid vpn) = refl

pub questions-end : QuestionsEnd
questions-end n owners f (Finds pid region) fits asks = record { main = λ j. inr (λ c. refl); second = λ j. inr (λ pid region. refl, λ pid region. refl); pages = λ j. inr (λ pid vpn. refl); files = inr refl; owners_end = owners_stay n owners f (Finds pid region) fits }
questions-end n owners f (Reads pid line owner) fits asks = record { main = λ j. inr (λ c. refl); second = λ j. inr (λ pid region. refl, λ pid region. refl); pages = λ j. inr (λ pid vpn. refl); files = inr refl; owners_end = owners_stay n owners f (Reads pid line owner) fits }
questions-end n owners f (Writes origin patch owner) fits asks = absurd asks
questions-end n owners f (SetsHome pid region owner) fits asks = absurd asks
questions-end n owners f (SetsAreas pid region areas owner) fits asks = absurd asks
questions-end n owners f (AsksAreas pid region owner) fits asks = record { main = λ j. inr (λ c. refl); second = λ j. inr (λ pid region. refl, λ pid region. refl); pages = λ j. inr (λ pid vpn. refl); files = inr refl; owners_end = owners_stay n owners f (AsksAreas pid region owner) fits }
questions-end n owners f (Drains memory_) fits asks = record { main = λ j. inr (λ c. refl); second = λ j. inr (λ pid region. refl, λ pid region. refl); pages = λ j. inr (λ pid vpn. refl); files = inr refl; owners_end = owners_stay n owners f (Drains memory_) fits }
questions-end n owners f (Unmaps pid region first pages areas owner) fits asks = absurd asks
questions-end n owners f (Copies parent child regions owner) fits asks = absurd asks
questions-end n owners f (Drops pid) fits asks = absurd asks
questions-end n owners f (ReadsFile file block off len) fits asks = record { main = λ j. inr (λ c. refl); second = λ j. inr (λ pid region. refl, λ pid region. refl); pages = λ j. inr (λ pid vpn. refl); files = inr refl; owners_end = owners_stay n owners f (ReadsFile file block off len) fits }
questions-end n owners f (WritesFile file block off bytes) fits asks = absurd asks
questions-end n owners f (CutsFile file size) fits asks = absurd asks
questions-end n owners f (AsksSize file) fits asks = record { main = λ j. inr (λ c. refl); second = λ j. inr (λ pid region. refl, λ pid region. refl); pages = λ j. inr (λ pid vpn. refl); files = inr refl; owners_end = owners_stay n owners f (AsksSize file) fits }
questions-end n owners f (GetsName name) fits asks = record { main = λ j. inr (λ c. refl); second = λ j. inr (λ pid region. refl, λ pid region. refl); pages = λ j. inr (λ pid vpn. refl); files = inr refl; owners_end = owners_stay n owners f (GetsName name) fits }
questions-end n owners f (MakesName name) fits asks = absurd asks
questions-end n owners f (CutsName name) fits asks = absurd asks
questions-end n owners f ListsNames fits asks = record { main = λ j. inr (λ c. refl); second = λ j. inr (λ pid region. refl, λ pid region. refl); pages = λ j. inr (λ pid vpn. refl); files = inr refl; owners_end = owners_stay n owners f ListsNames fits }
questions-end n owners f (FreesFile file) fits asks = absurd asks
questions-end n owners f (Heals to_ what_) fits asks = absurd asks

pub file-changes-end : FileChangesEnd
file-changes-end n owners f (Finds pid region) fits changes = absurd changes
file-changes-end n owners f (Reads pid line owner) fits changes = absurd changes
file-changes-end n owners f (Writes origin patch owner) fits changes = absurd changes
file-changes-end n owners f (SetsHome pid region owner) fits changes = absurd changes
file-changes-end n owners f (SetsAreas pid region areas owner) fits changes = absurd changes
file-changes-end n owners f (AsksAreas pid region owner) fits changes = absurd changes
file-changes-end n owners f (Drains memory_) fits changes = absurd changes
file-changes-end n owners f (Unmaps pid region first pages areas owner) fits changes = absurd changes
file-changes-end n owners f (Copies parent child regions owner) fits changes = absurd changes
file-changes-end n owners f (Drops pid) fits changes = absurd changes
file-changes-end n owners f (ReadsFile file block off len) fits changes = absurd changes
file-changes-end n owners f (WritesFile file block off bytes) fits changes = record { main = λ j. inr (same_kept n owners f (effect (WritesFile file block off bytes) f).files j); second = λ j. inr (λ pid region. refl, λ pid region. refl); pages = λ j. inr (λ pid vpn. refl); files = inl refl; owners_end = owners_stay n owners (effect (WritesFile file block off bytes) f) (WritesFile file block off bytes) (files_fit n owners f (effect (WritesFile file block off bytes) f).files (λ n is. fits.numbers n (sym (with_there file.0 _ f.files.files n) ∙ is)) fits) }
file-changes-end n owners f (CutsFile file size) fits changes = record { main = λ j. inr (same_kept n owners f (effect (CutsFile file size) f).files j); second = λ j. inr (λ pid region. refl, λ pid region. refl); pages = λ j. inr (λ pid vpn. refl); files = inl refl; owners_end = owners_stay n owners (effect (CutsFile file size) f) (CutsFile file size) (files_fit n owners f (effect (CutsFile file size) f).files (λ n is. fits.numbers n (sym (with_there file.0 _ f.files.files n) ∙ is)) fits) }
file-changes-end n owners f (AsksSize file) fits changes = absurd changes
file-changes-end n owners f (GetsName name) fits changes = absurd changes
file-changes-end n owners f (MakesName name) fits changes = record { main = λ j. inr (same_kept n owners f (effect (MakesName name) f).files j); second = λ j. inr (λ pid region. refl, λ pid region. refl); pages = λ j. inr (λ pid vpn. refl); files = inl refl; owners_end = owners_stay n owners (effect (MakesName name) f) (MakesName name) (files_fit n owners f (effect (MakesName name) f).files (made_numbers name f.files fits.numbers) fits) }
file-changes-end n owners f (CutsName name) fits changes = record { main = λ j. inr (same_kept n owners f (effect (CutsName name) f).files j); second = λ j. inr (λ pid region. refl, λ pid region. refl); pages = λ j. inr (λ pid vpn. refl); files = inl refl; owners_end = owners_stay n owners (effect (CutsName name) f) (CutsName name) (files_fit n owners f (effect (CutsName name) f).files (fits.numbers) fits) }
file-changes-end n owners f ListsNames fits changes = absurd changes
file-changes-end n owners f (FreesFile file) fits changes = record { main = λ j. inr (same_kept n owners f (effect (FreesFile file) f).files j); second = λ j. inr (λ pid region. refl, λ pid region. refl); pages = λ j. inr (λ pid vpn. refl); files = inl refl; owners_end = owners_stay n owners (effect (FreesFile file) f) (FreesFile file) (files_fit n owners f (effect (FreesFile file) f).files (freed_numbers file.0 f.files fits.numbers) fits) }
file-changes-end n owners f (Heals to_ what_) fits changes = absurd changes
