-- From the causes of endings to when each comes.
use Rattle.std.proofs.Common.{◌≡◌, ℕ, ◌<◌, ◌≤◌, ◌⊎◌, ◌↔◌, inl, inr, Bool, cond, List, [], ◌∷◌, ◌++◌, length, Option, Some, None, Result, Ok, Err, refl, sym, ◌∙◌, ap, subst, append-nil, arith}
use Rattle.std.specs.Option.{option_map}
use Rattle.std.proofs.lemmas.Bool.{cases_lt, lt-ltb, le-ltb}
use Rattle.lego_base.specs.declared.report.EndWord.{EndWord}
use Rattle.lego_base.specs.declared.report.EndWord.TheVariants as words
use Rattle.lego_base.specs.declared.report.FileOut.{FileOut}
use Rattle.lego_base.specs.Counts.{Rose, Calm}
use Rattle.host_io.specs.Depots.{Files, Has}
use Rattle.host_io.specs.Sources.{Gave, IsDry, IsLonger}
use Rattle.host_io.proofs.CountLaws.{Calm-not_rose}
use Rattle.desc_read.specs.declared.plan.Plan.{Plan}
use Rattle.desc_read.specs.declared.plan.FileFrom.{FileFrom}
use Rattle.desc_read.specs.Plans.{described}
use Rattle.elf_image.specs.declared.fault.ImageFault.{ImageFault}
use Rattle.elf_image.specs.Image.{first_fault}
use Rattle.linux_model.specs.State.{Kernel}
use Rattle.linux_model.specs.Turns.{Schedule, flat, ended}
use Rattle.plain_kernel.specs.Runs.{EndsAfter}
use Rattle.plain_kernel.specs.Turns.{schedule_of}
use Rattle.lego_top.specs.declared.ending.Ending.{Ending}
use Rattle.lego_top.specs.declared.ending.Ending.TheVariants.{Done, Spent, Stuck, Usage, Missing, FileLong, BadDesc, BadImage, InputFault, InputLong, DepotFault, OutFault, ErrFault, NoMemory}
use Rattle.lego_base.specs.declared.sizes.TheConstants.{LONGEST_FILE}
use Rattle.lego_top.specs.Outside.{Outside, outlets}
use Rattle.lego_top.specs.Inputs.{Found, Planned, Names, Loaded, ComesNext, AreThere, Filed, Fed, Ran, booted}
use Rattle.lego_top.specs.Causes.{Ended, Caused}
use Rattle.lego_top.specs.Refusals.{image_refusal, file_refusal, files_refusal, plan_refusal, read_refusal, refusal}
use Rattle.lego_top.specs.Endings.{ending_of}
use Rattle.lego_top.specs.Theorem.{Refused, IsFine, Complete}

-- ---- two words for one thing

none_some : {A : Type 0} {C : Type 0} (o : Option A) (x : A) → o ≡ None → o ≡ Some x → C
none_some o x e f = let differ : None ≡ Some x = sym e ∙ f in absurd (cc differ)

same_some : {A : Type 0} (o : Option A) (x y : A) → o ≡ Some x → o ≡ Some y → x ≡ y
same_some o x y e f = let same : Some x ≡ Some y = sym e ∙ f in cc same

same_ok : {A E : Type 0} (r : Result A E) (x y : A) → r ≡ Ok x → r ≡ Ok y → x ≡ y
same_ok r x y e f = let same : Ok x ≡ Ok y = sym e ∙ f in cc same

ok_err : {A E : Type 0} {C : Type 0} (r : Result A E) (x : A) (y : E) → r ≡ Ok x → r ≡ Err y → C
ok_err r x y e f = let differ : Ok x ≡ Err y = sym e ∙ f in absurd (cc differ)

-- what a depot that tells has under a name
has : (told : Option Files) (files : Files) (name : List ℕ) (entry : Option (List ℕ)) → told ≡ Some files → Has told name entry → files name ≡ entry
has told files name entry e h = subst (λ (told : Option Files). Has told name entry) e h

-- what an input that tells had, which was read whole
fed_is : (told now : Option (List ℕ)) (left bytes : List ℕ) → told ≡ Some left → Gave told now bytes → IsDry now → left ≡ bytes
fed_is told now left bytes e gave dry = by now (subst (λ (told : Option (List ℕ)). Gave told now bytes) e gave) dry
  where
    by : (now : Option (List ℕ)) → Gave (Some left) now bytes → IsDry now → left ≡ bytes
    by None gave dry = absurd gave
    by (Some rest) gave dry = gave ∙ ap (λ (rest : List ℕ). bytes ++ rest) dry ∙ append-nil bytes

-- ---- a plan's files

-- what a depot has of them is one list
files_once : (files : Files) (sources : List FileFrom) (listed other : List FileOut) → AreThere (Some files) sources listed → AreThere (Some files) sources other → listed ≡ other
files_once files [] [] [] a b = refl
files_once files [] [] (file ∷ other) a b = absurd b
files_once files [] (file ∷ listed) other a b = absurd a
files_once files (source ∷ sources) [] other a b = absurd a
files_once files (source ∷ sources) (file ∷ listed) [] a b = absurd b
files_once files (source ∷ sources) (file ∷ listed) (file' ∷ other) a b =
    let names : file.name ≡ file'.name = a.0 ∙ sym b.0 in
    let bytes : file.bytes ≡ file'.bytes = same_some (files source.from) file.bytes file'.bytes a.1 b.1 in
    let rest : listed ≡ other = files_once files sources listed other a.3 b.3 in
    λ i. record { name = names i; bytes = bytes i } ∷ rest i

-- one of them that comes from a name is there
next_fine : (files : Files) (sources : List FileFrom) (listed : List FileOut) (name : List ℕ) → AreThere (Some files) sources listed → ComesNext (Some files) name sources → (bytes : List ℕ) × (files name ≡ Some bytes) × (length bytes ≤ LONGEST_FILE)
next_fine files [] listed name there comes = absurd comes
next_fine files (source ∷ sources) [] name there comes = absurd there
next_fine files (source ∷ sources) (file ∷ listed) name there (inl is) = (file.bytes, ap files (sym is) ∙ there.1, there.2)
next_fine files (source ∷ sources) (file ∷ listed) name there (inr more) = next_fine files sources listed name there.3 more.1

-- ---- the flat run ends once

module _ (schedule : Schedule) (boot : Kernel) where
  ends_once : (t t' : ℕ) (word word' : EndWord) → EndsAfter schedule boot t word → EndsAfter schedule boot t' word' → word ≡ word'
  ends_once t t' word word' e e' = by (cases_lt t t') (cases_lt t' t)
    where
      by : ((t < t') ⊎ (t' ≤ t)) → ((t' < t) ⊎ (t ≤ t')) → word ≡ word'
      by (inl less) more = none_some (ended schedule t (flat schedule boot t)) word (e'.through.before t less) e.ends
      by (inr le) (inl less) = none_some (ended schedule t' (flat schedule boot t')) word' (e.through.before t' less) e'.ends
      by (inr le) (inr le') = let same : t ≡ t' = omega arith in same_some (ended schedule t (flat schedule boot t)) word word' e.ends (ap (λ (n : ℕ). ended schedule n (flat schedule boot n)) same ∙ e'.ends)

-- ---- what is fine isn't refused, and runs as the flat run does

module _ (asked : Option (List ℕ)) (before after world : Outside) (fine : IsFine asked before world) where
  found_is : (found : Found asked before) → found.bytes ≡ fine.desc
  found_is found =
      let name : found.name ≡ fine.name = same_some asked found.name fine.name found.is_asked fine.is_asked in
      let entry : fine.files found.name ≡ Some found.bytes = has before.depot.files fine.files found.name (Some found.bytes) fine.tells found.there in
      same_some (fine.files fine.name) found.bytes fine.desc (ap fine.files (sym name) ∙ entry) fine.desc_there

  planned_is : (planned : Planned asked before) → planned.plan ≡ fine.plan
  planned_is planned = same_ok (described fine.desc) planned.plan fine.plan (ap described (sym (found_is planned.found)) ∙ planned.reads) fine.reads

  loaded_is : (loaded : Loaded asked before) → loaded.image ≡ fine.image
  loaded_is loaded =
      let entry : fine.files loaded.planned.plan.init ≡ Some loaded.image = has before.depot.files fine.files loaded.planned.plan.init (Some loaded.image) fine.tells loaded.there in
      same_some (fine.files fine.plan.init) loaded.image fine.image (ap (λ (plan : Plan). fine.files plan.init) (sym (planned_is loaded.planned)) ∙ entry) fine.image_there

  filed_is : (filed : Filed asked before) → filed.files ≡ fine.plan_files
  filed_is filed =
      files_once fine.files fine.plan.files filed.files fine.plan_files
      (subst (λ (plan : Plan). AreThere (Some fine.files) plan.files filed.files) (planned_is filed.loaded.planned)
      (subst (λ (told : Option Files). AreThere told filed.loaded.planned.plan.files filed.files) fine.tells filed.are_there))
      fine.files_there

  fed_fine : (fed : Fed asked before after) → fed.input ≡ fine.input
  fed_fine fed = sym (fed_is before.input.left after.input.left fine.input fed.input fine.tells_input fed.whole.gave fed.whole.dry)

  abbrev schedule : Schedule
  schedule = schedule_of fine.plan

  abbrev boot : Kernel
  boot = booted fine.plan fine.image fine.plan_files fine.input

  -- what was done with the plan that was read was done with the fine one
  moved : (Did : Plan → Kernel → Type 0) (ran : Ran asked before after Did) → Did fine.plan boot
  moved Did ran =
      subst (λ (plan : Plan). Did plan (booted plan fine.image fine.plan_files fine.input)) (planned_is ran.fed.filed.loaded.planned)
      (subst (λ (image : List ℕ). Did ran.fed.filed.loaded.planned.plan (booted ran.fed.filed.loaded.planned.plan image fine.plan_files fine.input)) (loaded_is ran.fed.filed.loaded)
      (subst (λ (files : List FileOut). Did ran.fed.filed.loaded.planned.plan (booted ran.fed.filed.loaded.planned.plan ran.fed.filed.loaded.image files fine.input)) (filed_is ran.fed.filed)
      (subst (λ (input : List ℕ). Did ran.fed.filed.loaded.planned.plan (booted ran.fed.filed.loaded.planned.plan ran.fed.filed.loaded.image ran.fed.filed.files input)) (fed_fine ran.fed) ran.did)))

  -- a file that the command line or the plan names is there, and isn't too long
  names_fine : (name : List ℕ) → Names asked before name → (bytes : List ℕ) × (fine.files name ≡ Some bytes) × (length bytes ≤ LONGEST_FILE)
  names_fine name (inl is) =
      let same : name ≡ fine.name = same_some asked name fine.name is fine.is_asked in
      (fine.desc, ap fine.files same ∙ fine.desc_there, fine.desc_fits)
  names_fine name (inr (inl planned)) =
      let same : name ≡ fine.plan.init = sym planned.1 ∙ ap (λ (plan : Plan). plan.init) (planned_is planned.0) in
      (fine.image, ap fine.files same ∙ fine.image_there, fine.image_fits)
  names_fine name (inr (inr next)) =
      next_fine fine.files fine.plan.files fine.plan_files name fine.files_there
      (subst (λ (plan : Plan). ComesNext (Some fine.files) name plan.files) (planned_is next.0.planned)
      (subst (λ (told : Option Files). ComesNext told name next.0.planned.plan.files) fine.tells next.1))

  no_missing : {C : Type 0} (name : List ℕ) → Caused asked before after (Missing name) → C
  no_missing name c = let there = names_fine name c.0 in none_some (fine.files name) there.0 (has before.depot.files fine.files name None fine.tells c.1) there.1

  no_long : {C : Type 0} (name : List ℕ) → Caused asked before after (FileLong name) → C
  no_long name c =
      let there = names_fine name c.1 in
      let held : c.0 ≡ there.0 = same_some (fine.files name) c.0 there.0 (has before.depot.files fine.files name (Some c.0) fine.tells c.2) there.1 in
      let size : length c.0 ≡ length there.0 = ap (λ (l : List ℕ). length l) held in
      let fits : length there.0 ≤ 16777216 = there.2 in
      let long : 16777216 < length c.0 = c.3 in
      let no : ⊥ = omega (arith, size, fits, long) in absurd no

  no_bad_desc : {C : Type 0} (flaw : _) (place : List ℕ) → Caused asked before after (BadDesc flaw place) → C
  no_bad_desc flaw place c = ok_err (described fine.desc) fine.plan _ fine.reads (ap described (sym (found_is c.0)) ∙ c.1)

  no_bad_image : {C : Type 0} (fault : ImageFault) → Caused asked before after (BadImage fault) → C
  no_bad_image fault c = none_some (first_fault fine.image) fault fine.good (ap first_fault (sym (loaded_is c.0.filed.loaded)) ∙ c.1)

  no_long_input : {C : Type 0} → Caused asked before after InputLong → C
  no_long_input c =
      let long : LONGEST_FILE < length fine.input = subst (λ (told : Option (List ℕ)). IsLonger LONGEST_FILE told) fine.tells_input c.1 in
      let fits : length fine.input ≤ 16777216 = fine.input_fits in
      let no : ⊥ = omega (arith, long, fits) in absurd no

  -- a run that ended, by the flat run's end
  word_is : (t : ℕ) (word word' : EndWord) → EndsAfter schedule boot t word → Ran asked before after (Ended (outlets before) (outlets after) word') → ending_of word' ≡ ending_of word
  word_is t word word' ends ran =
      let did : Ended (outlets before) (outlets after) word' fine.plan boot = moved (Ended (outlets before) (outlets after) word') ran in
      ap ending_of (sym (ends_once schedule boot t did.turns word word' ends did.ends))

  module _ (depot : Calm before.depot.faults after.depot.faults) (input : Calm before.input.faults after.input.faults) (out : Calm before.out.faults after.out.faults) (err : Calm before.err.faults after.err.faults) where
    no_rise : {C : Type 0} (b n : ℕ) → Calm b n → Rose b n → C
    no_rise b n calm rose = absurd (Calm-not_rose b n calm rose)

    end_is : (t : ℕ) (word : EndWord) → EndsAfter schedule boot t word → (result : Ending) → Caused asked before after result → (result ≡ ending_of word) ⊎ (result ≡ NoMemory)
    end_is t word ends Done c = inl (word_is t word words.Done ends c)
    end_is t word ends Spent c = inl (word_is t word words.Spent ends c)
    end_is t word ends Stuck c = inl (word_is t word words.Stuck ends c)
    end_is t word ends Usage c = none_some asked fine.name c.0 fine.is_asked
    end_is t word ends (Missing name) c = no_missing name c
    end_is t word ends (FileLong name) c = no_long name c
    end_is t word ends (BadDesc flaw place) c = no_bad_desc flaw place c
    end_is t word ends (BadImage fault) c = no_bad_image fault c
    end_is t word ends InputFault c = no_rise before.input.faults after.input.faults input c.1
    end_is t word ends InputLong c = no_long_input c
    end_is t word ends DepotFault c = no_rise before.depot.faults after.depot.faults depot c.0
    end_is t word ends OutFault c = no_rise before.out.faults after.out.faults out c.0
    end_is t word ends ErrFault c = no_rise before.err.faults after.err.faults err c.0
    end_is t word ends NoMemory c = inr refl

-- a count that stays calm stayed so up to each moment
calm_before : (b m n : ℕ) → m ≤ n → Calm b n → Calm b m
calm_before b m n low calm = omega (arith, low, calm)

-- The answer by what was fine, where `after` is the world at the ending and `world` the one after its line.
pub complete : (asked : Option (List ℕ)) (before after world : Outside) (result : Ending) → after.depot.faults ≡ world.depot.faults → after.input.faults ≡ world.input.faults → after.out.faults ≡ world.out.faults → after.err.faults ≤ world.err.faults → Caused asked before after result → Complete asked before world result
complete asked before after world result depot input out err c = λ fine t word ends.
    end_is asked before after world fine
    (subst (Calm before.depot.faults) (sym depot) fine.depot_calm) (subst (Calm before.input.faults) (sym input) fine.input_calm) (subst (Calm before.out.faults) (sym out) fine.out_calm) (calm_before before.err.faults after.err.faults world.err.faults err fine.err_calm)
    t word ends result c

-- ---- refusals

-- a file that is there isn't refused
goes_past : (name bytes : List ℕ) (entry : Option (List ℕ)) (next : List ℕ → Option Ending) → entry ≡ Some bytes → length bytes ≤ LONGEST_FILE → file_refusal name entry next ≡ next bytes
goes_past name bytes entry next is fits = ap (λ (entry : Option (List ℕ)). file_refusal name entry next) is ∙ ap (λ (b : Bool). cond b (Some (FileLong name)) (next bytes)) (le-ltb LONGEST_FILE (length bytes) fits)

is_missing : (name : List ℕ) (entry : Option (List ℕ)) (next : List ℕ → Option Ending) → entry ≡ None → file_refusal name entry next ≡ Some (Missing name)
is_missing name entry next is = ap (λ (entry : Option (List ℕ)). file_refusal name entry next) is

is_long : (name bytes : List ℕ) (entry : Option (List ℕ)) (next : List ℕ → Option Ending) → entry ≡ Some bytes → LONGEST_FILE < length bytes → file_refusal name entry next ≡ Some (FileLong name)
is_long name bytes entry next is long = ap (λ (entry : Option (List ℕ)). file_refusal name entry next) is ∙ ap (λ (b : Bool). cond b (Some (FileLong name)) (next bytes)) (lt-ltb LONGEST_FILE (length bytes) long)

-- nor are a plan's files, where all are there
all_past : (files : Files) (sources : List FileFrom) (listed : List FileOut) (next : Option Ending) → AreThere (Some files) sources listed → files_refusal files sources next ≡ next
all_past files [] [] next there = refl
all_past files [] (file ∷ listed) next there = absurd there
all_past files (source ∷ sources) [] next there = absurd there
all_past files (source ∷ sources) (file ∷ listed) next there =
    goes_past source.from file.bytes (files source.from) (λ bytes. files_refusal files sources next) there.1 there.2 ∙ all_past files sources listed next there.3

-- the first of them that isn't good is refused
next_refused : (files : Files) (sources : List FileFrom) (name : List ℕ) (next : Option Ending) (why : Ending) → ((more : List ℕ → Option Ending) → file_refusal name (files name) more ≡ Some why) → ComesNext (Some files) name sources → files_refusal files sources next ≡ Some why
next_refused files [] name next why bad comes = absurd comes
next_refused files (source ∷ sources) name next why bad (inl is) =
    ap (λ (n : List ℕ). file_refusal n (files n) (λ bytes. files_refusal files sources next)) is ∙ bad (λ bytes. files_refusal files sources next)
next_refused files (source ∷ sources) name next why bad (inr (there, more)) =
    goes_past source.from there.0 (files source.from) (λ bytes. files_refusal files sources next) there.1 there.2 ∙ next_refused files sources name next why bad more

module _ (asked : Option (List ℕ)) (before after : Outside) (files : Files) (input : List ℕ) (tells : before.depot.files ≡ Some files) (tells_input : before.input.left ≡ Some input) where
  -- each step, where it goes on
  found_refusal : (found : Found asked before) → refusal asked files input ≡ read_refusal files input (described found.bytes)
  found_refusal found =
      ap (λ (asked : Option (List ℕ)). refusal asked files input) found.is_asked
      ∙ goes_past found.name found.bytes (files found.name) (λ desc. read_refusal files input (described desc)) (has before.depot.files files found.name (Some found.bytes) tells found.there) found.fits

  planned_refusal : (planned : Planned asked before) → refusal asked files input ≡ plan_refusal files input planned.plan
  planned_refusal planned = found_refusal planned.found ∙ ap (read_refusal files input) planned.reads

  loaded_refusal : (loaded : Loaded asked before) → refusal asked files input ≡ files_refusal files loaded.planned.plan.files (image_refusal loaded.image input)
  loaded_refusal loaded =
      planned_refusal loaded.planned
      ∙ goes_past loaded.planned.plan.init loaded.image (files loaded.planned.plan.init) (λ image. files_refusal files loaded.planned.plan.files (image_refusal image input)) (has before.depot.files files loaded.planned.plan.init (Some loaded.image) tells loaded.there) loaded.fits

  filed_refusal : (filed : Filed asked before) → refusal asked files input ≡ image_refusal filed.loaded.image input
  filed_refusal filed =
      loaded_refusal filed.loaded
      ∙ all_past files filed.loaded.planned.plan.files filed.files (image_refusal filed.loaded.image input) (subst (λ (told : Option Files). AreThere told filed.loaded.planned.plan.files filed.files) tells filed.are_there)

  fed_refusal : (fed : Fed asked before after) → refusal asked files input ≡ option_map BadImage (first_fault fed.filed.loaded.image)
  fed_refusal fed =
      let same : input ≡ fed.input = fed_is before.input.left after.input.left input fed.input tells_input fed.whole.gave fed.whole.dry in
      let size : length input ≡ length fed.input = ap (λ (l : List ℕ). length l) same in
      let within : length fed.input ≤ 16777216 = fed.whole.within in
      let fits : length input ≤ 16777216 = omega (arith, size, within) in
      filed_refusal fed.filed ∙ ap (λ (b : Bool). cond b (Some InputLong) (option_map BadImage (first_fault fed.filed.loaded.image))) (le-ltb LONGEST_FILE (length input) fits)

  -- a run isn't refused
  ran_not_refused : {C : Type 0} (Did : Plan → Kernel → Type 0) (ran : Ran asked before after Did) (first : Ending) → refusal asked files input ≡ Some first → C
  ran_not_refused Did ran first e = none_some (refusal asked files input) first (fed_refusal ran.fed ∙ ap (option_map BadImage) ran.good) e

  -- a file that is named and isn't good is the first refusal
  bad_refusal : (name : List ℕ) (why : Ending) → ((more : List ℕ → Option Ending) → file_refusal name (files name) more ≡ Some why) → Names asked before name → refusal asked files input ≡ Some why
  bad_refusal name why bad (inl is) =
      ap (λ (asked : Option (List ℕ)). refusal asked files input) is ∙ bad (λ desc. read_refusal files input (described desc))
  bad_refusal name why bad (inr (inl planned)) =
      planned_refusal planned.0
      ∙ ap (λ (n : List ℕ). file_refusal n (files n) (λ image. files_refusal files planned.0.plan.files (image_refusal image input))) planned.1
      ∙ bad (λ image. files_refusal files planned.0.plan.files (image_refusal image input))
  bad_refusal name why bad (inr (inr next)) =
      loaded_refusal next.0
      ∙ next_refused files next.0.planned.plan.files name (image_refusal next.0.image input) why bad (subst (λ (told : Option Files). ComesNext told name next.0.planned.plan.files) tells next.1)

  missing_refusal : (name : List ℕ) → Names asked before name → Has before.depot.files name None → refusal asked files input ≡ Some (Missing name)
  missing_refusal name names there = bad_refusal name (Missing name) (λ more. is_missing name (files name) more (has before.depot.files files name None tells there)) names

  long_refusal : (name bytes : List ℕ) → Names asked before name → Has before.depot.files name (Some bytes) → LONGEST_FILE < length bytes → refusal asked files input ≡ Some (FileLong name)
  long_refusal name bytes names there long = bad_refusal name (FileLong name) (λ more. is_long name bytes (files name) more (has before.depot.files files name (Some bytes) tells there) long) names

  first_is : (result first : Ending) → refusal asked files input ≡ Some result → refusal asked files input ≡ Some first → (result ≡ first) ⊎ ((result ≡ DepotFault) ⊎ ((result ≡ InputFault) ⊎ (result ≡ NoMemory)))
  first_is result first e f = inl (same_some (refusal asked files input) result first e f)

  refused_with : (first : Ending) → refusal asked files input ≡ Some first → (result : Ending) → Caused asked before after result → (result ≡ first) ⊎ ((result ≡ DepotFault) ⊎ ((result ≡ InputFault) ⊎ (result ≡ NoMemory)))
  refused_with first e Done c = ran_not_refused _ c first e
  refused_with first e Spent c = ran_not_refused _ c first e
  refused_with first e Stuck c = ran_not_refused _ c first e
  refused_with first e Usage c = first_is Usage first (ap (λ (asked : Option (List ℕ)). refusal asked files input) c.0) e
  refused_with first e (Missing name) c = first_is (Missing name) first (missing_refusal name c.0 c.1) e
  refused_with first e (FileLong name) c = first_is (FileLong name) first (long_refusal name c.0 c.1 c.2 c.3) e
  refused_with first e (BadDesc flaw place) c = first_is (BadDesc flaw place) first (found_refusal c.0 ∙ ap (read_refusal files input) c.1) e
  refused_with first e (BadImage fault) c = first_is (BadImage fault) first (fed_refusal c.0 ∙ ap (option_map BadImage) c.1) e
  refused_with first e InputFault c = inr (inr (inl refl))
  refused_with first e InputLong c =
      let long : LONGEST_FILE < length input = subst (λ (told : Option (List ℕ)). IsLonger LONGEST_FILE told) tells_input c.1 in
      first_is InputLong first (filed_refusal c.0 ∙ ap (λ (b : Bool). cond b (Some InputLong) (option_map BadImage (first_fault c.0.loaded.image))) (lt-ltb LONGEST_FILE (length input) long)) e
  refused_with first e DepotFault c = inr (inl refl)
  refused_with first e OutFault c = ran_not_refused _ c.1 first e
  refused_with first e ErrFault c = ran_not_refused _ c.1 first e
  refused_with first e NoMemory c = inr (inr (inr refl))

pub refused : (asked : Option (List ℕ)) (before after : Outside) (result : Ending) → Caused asked before after result → Refused asked before result
refused asked before after result c files tells input tells_input first e = refused_with asked before after files input tells tells_input first e result c

-- ---- a command line that names no description, and no other, is a usage error

module _ (asked : Option (List ℕ)) (before after : Outside) where
  found_some : {C : Type 0} → asked ≡ None → Found asked before → C
  found_some e found = none_some asked found.name e found.is_asked

  named_some : {C : Type 0} (name : List ℕ) → asked ≡ None → Names asked before name → C
  named_some name e (inl is) = none_some asked name e is
  named_some name e (inr (inl planned)) = found_some e planned.0.found
  named_some name e (inr (inr next)) = found_some e next.0.planned.found

  usage_only : (result : Ending) → Caused asked before after result → asked ≡ None → result ≡ Usage
  usage_only Done c e = found_some e c.fed.filed.loaded.planned.found
  usage_only Spent c e = found_some e c.fed.filed.loaded.planned.found
  usage_only Stuck c e = found_some e c.fed.filed.loaded.planned.found
  usage_only Usage c e = refl
  usage_only (Missing name) c e = named_some name e c.0
  usage_only (FileLong name) c e = named_some name e c.1
  usage_only (BadDesc flaw place) c e = found_some e c.0
  usage_only (BadImage fault) c e = found_some e c.0.filed.loaded.planned.found
  usage_only InputFault c e = found_some e c.0.loaded.planned.found
  usage_only InputLong c e = found_some e c.0.loaded.planned.found
  usage_only DepotFault (rose, inl c) e = none_some asked c.0 e c.1
  usage_only DepotFault (rose, inr c) e = found_some e c.fed.filed.loaded.planned.found
  usage_only OutFault c e = found_some e c.1.fed.filed.loaded.planned.found
  usage_only ErrFault c e = found_some e c.1.fed.filed.loaded.planned.found
  usage_only NoMemory (inl c) e = none_some asked c.0 e c.1
  usage_only NoMemory (inr c) e = found_some e c.fed.filed.loaded.planned.found

  pub usage_exactly : (result : Ending) → Caused asked before after result → (result ≡ Usage) ↔ (asked ≡ None)
  usage_exactly result c = ((λ e. let cause : Caused asked before after Usage = subst (λ (result : Ending). Caused asked before after result) e c in cause.0), usage_only result c)
