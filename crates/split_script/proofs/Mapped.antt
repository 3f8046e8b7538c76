-- The region of each mapped page has an owner.
use Rattle.std.proofs.Common.{◌≡◌, ℕ, zero, suc, ◌+◌, ◌-◌, ◌/◌, ◌≤◌, ◌<◌, inl, inr, Bool, true, false, cond, eqb, leb, ltb, ◌||◌, refl, sym, ◌∙◌, ap, subst, List, [], ◌∷◌, ◌++◌, map, length, Option, Some, None, is_some, arith}
use Rattle.std.proofs.lemmas.Bool.{cases_lt, cases_eq, eqb-true, eq-eqb, and_parts, leb-true, ltb-true}
use Rattle.lego_base.specs.declared.perms.Perms.{Perms}
use Rattle.lego_base.specs.declared.records.Area.{Area}
use Rattle.lego_base.specs.declared.records.HomeEntry.{HomeEntry}
use Rattle.lego_base.specs.Files.{named, has_name}
use Rattle.lego_base.specs.Space.{Space, has_page, no_space, perms_of, with_bytes, with_space}
use Rattle.area_list.specs.Runs.{above, below, cut_runs, end_of}
use Rattle.area_list.proofs.Pages.{either, perms-append, perms-joined, above-in, above-out, below-in, below-out}
use Rattle.space_rules.specs.Pages.{with_number, with_numbers}
use Rattle.placement.specs.Owners.{Owned, placed_all}
use Rattle.linux_model.specs.Limits.{FILES}
use Rattle.linux_model.specs.State.{Kernel, unbooted}
use Rattle.linux_model.specs.Effects.{Effect, Writes, Maps, Protects, Unmaps, Fills, Copies, Drops, MakesFile, FreesFile, Closes, Forks, unmapped}
use Rattle.linux_model.specs.Held.{Held, held_in, with_held, held_after}
use Rattle.linux_model.proofs.Holding.{apart_stays}
use Rattle.split_script.specs.Now.{Now, at_start, pid_no, owners}
use Rattle.split_script.specs.Regions.{regions_of}
use Rattle.split_script.specs.Script.{passed, all_passed}
use Rattle.split_script.specs.Laws.{has_number, placings_of, MappedIsOwned}
use Rattle.split_script.proofs.Owners.{has, mapped_gives, mapped_keeps, child_gives, child_keeps, others_keep}
use Rattle.split_script.proofs.Owning.{effect_owns}

-- ---- the regions that areas meet

or_true : (b c : Bool) → c ≡ true → (b || c) ≡ true
or_true true c e = refl
or_true false c e = e

either_has : (q : ℕ) (b : Bool) (xs ys : List ℕ) → has_number q xs ≡ true → has_number q ys ≡ true → has_number q (cond b xs ys) ≡ true
either_has q true xs ys p r = p
either_has q false xs ys p r = r

or_more : (c old new : Bool) → (c || old) ≡ true → (old ≡ true → new ≡ true) → (c || new) ≡ true
or_more true old new is more = refl
or_more false old new is more = more is

number_old : (q n : ℕ) (numbers : List ℕ) → has_number q numbers ≡ true → has_number q (with_number n numbers) ≡ true
number_old q n [] is = cc is
number_old q n (m ∷ numbers) is =
    either_has q (ltb n m) (n ∷ m ∷ numbers) _ (or_true (eqb n q) (has_number q (m ∷ numbers)) is)
    (either_has q (eqb n m) (m ∷ numbers) (m ∷ with_number n numbers) is
    (or_more (eqb m q) (has_number q numbers) (has_number q (with_number n numbers)) is (number_old q n numbers)))

same_or_not : (n m : ℕ) (numbers : List ℕ) (b : Bool) → eqb n m ≡ b → has_number n (with_number n numbers) ≡ true → has_number n (cond b (m ∷ numbers) (m ∷ with_number n numbers)) ≡ true
same_or_not n m numbers true e more = ap (λ (b : Bool). b || has_number n numbers) (eq-eqb m n (sym (eqb-true n m e)))
same_or_not n m numbers false e more = or_true (eqb m n) (has_number n (with_number n numbers)) more

here : (n : ℕ) (numbers : List ℕ) → has_number n (n ∷ numbers) ≡ true
here n numbers = ap (λ (b : Bool). b || has_number n numbers) (eq-eqb n n refl)

number_new : (n : ℕ) (numbers : List ℕ) → has_number n (with_number n numbers) ≡ true
number_new n [] = here n []
number_new n (m ∷ numbers) =
    either_has n (ltb n m) (n ∷ m ∷ numbers) _ (here n (m ∷ numbers)) (same_or_not n m numbers (eqb n m) refl (number_new n numbers))

numbers_kept : (q first count : ℕ) (numbers : List ℕ) → has_number q numbers ≡ true → has_number q (with_numbers first count numbers) ≡ true
numbers_kept q first zero numbers is = is
numbers_kept q first (suc count) numbers is = number_old q first (with_numbers (first + 1) count numbers) (numbers_kept q (first + 1) count numbers is)

numbers_in : (q first count : ℕ) (numbers : List ℕ) → first ≤ q → q < first + count → has_number q (with_numbers first count numbers) ≡ true
numbers_in q first zero numbers low high = absurd (omega arith)
numbers_in q first (suc count) numbers low high = elim (cases_eq q first) [
  | inl e ↦ subst (λ (q : ℕ). has_number q (with_numbers first (suc count) numbers) ≡ true) (sym e) (number_new first (with_numbers (first + 1) count numbers))
  | inr ne ↦ number_old q first (with_numbers (first + 1) count numbers) (numbers_in q (first + 1) count numbers (omega arith) (omega arith))
]

region_met : (areas : List Area) (page : ℕ) → is_some (perms_of areas page) ≡ true → has_number (page / 512) (regions_of areas) ≡ true
region_met [] page is = cc is
region_met (a ∷ areas) page is = by (has_page a page) refl (region_met areas page) is
  where
    by : (b : Bool) → has_page a page ≡ b → (is_some (perms_of areas page) ≡ true → has_number (page / 512) (regions_of areas) ≡ true) → is_some (cond b (Some a.perms) (perms_of areas page)) ≡ true → has_number (page / 512) (regions_of (a ∷ areas)) ≡ true
    by true e more is =
        let parts = and_parts (leb a.first.0 page) (ltb page (a.first.0 + a.pages)) e in
        let low : a.first.0 ≤ page = leb-true a.first.0 page parts.0 in
        let high : page < a.first.0 + a.pages = ltb-true page (a.first.0 + a.pages) parts.1 in
        numbers_in (page / 512) (a.first.0 / 512) ((end_of a - 1) / 512 + 1 - a.first.0 / 512) (regions_of areas) (omega arith) (omega arith)
    by false e more is = numbers_kept (page / 512) (a.first.0 / 512) ((end_of a - 1) / 512 + 1 - a.first.0 / 512) (regions_of areas) (more is)

-- ---- what is mapped after pages were unmapped was mapped before

mapped_either : (x y z : Option Perms) → (is_some x ≡ true → is_some z ≡ true) → (is_some y ≡ true → is_some z ≡ true) → is_some (either x y) ≡ true → is_some z ≡ true
mapped_either None y z p q is = q is
mapped_either (Some x) y z p q is = p refl

none_mapped : (x z : Option Perms) → x ≡ None → is_some x ≡ true → is_some z ≡ true
none_mapped None z e is = cc is
none_mapped (Some x) z e is = cc e

as_before : (x z : Option Perms) → x ≡ z → is_some x ≡ true → is_some z ≡ true
as_before x z e is = ap (λ (o : Option Perms). is_some o) (sym e) ∙ is

below_mapped : (end : ℕ) (areas : List Area) (page : ℕ) → is_some (perms_of (below end areas) page) ≡ true → is_some (perms_of areas page) ≡ true
below_mapped end areas page = elim (cases_lt page end) [
  | inl h ↦ as_before (perms_of (below end areas) page) (perms_of areas page) (below-in end areas page h)
  | inr h ↦ none_mapped (perms_of (below end areas) page) (perms_of areas page) (below-out end areas page h)
]

above_mapped : (start : ℕ) (areas : List Area) (page : ℕ) → is_some (perms_of (above start areas) page) ≡ true → is_some (perms_of areas page) ≡ true
above_mapped start areas page = elim (cases_lt page start) [
  | inl h ↦ none_mapped (perms_of (above start areas) page) (perms_of areas page) (above-out start areas page h)
  | inr h ↦ as_before (perms_of (above start areas) page) (perms_of areas page) (above-in start areas page h)
]

cut_mapped : (first pages : ℕ) (areas : List Area) (page : ℕ) → is_some (perms_of (cut_runs first pages areas) page) ≡ true → is_some (perms_of areas page) ≡ true
unfolding cut_runs
cut_mapped first pages areas page is =
    mapped_either (perms_of (below first areas) page) (perms_of (above (first + pages) areas) page) (perms_of areas page) (below_mapped first areas page) (above_mapped (first + pages) areas page)
    (ap (λ (o : Option Perms). is_some o) (sym (perms-joined [] (below first areas ++ above (first + pages) areas) page ∙ perms-append (below first areas) (above (first + pages) areas) page)) ∙ is)

-- ---- what every effect keeps

abbrev AllOwned : (ℕ → Space) → List HomeEntry → Type 0
AllOwned spaces entries = (pid page : ℕ) → is_some (perms_of (spaces pid).areas page) ≡ true → has entries pid (page / 512) ≡ true

-- one space becomes another, and owners change
one_space : (spaces : ℕ → Space) (new : Space) (gone : ℕ) (old entries : List HomeEntry)
    → AllOwned spaces old
    → ((page : ℕ) → is_some (perms_of new.areas page) ≡ true → has entries gone (page / 512) ≡ true)
    → ((pid region : ℕ) → eqb pid gone ≡ false → has old pid region ≡ true → has entries pid region ≡ true)
    → AllOwned (with_space spaces gone new) entries
one_space spaces new gone old entries all mine there pid page is = by (eqb pid gone) refl is
  where
    by : (b : Bool) → eqb pid gone ≡ b → is_some (perms_of (cond b new (spaces pid)).areas page) ≡ true → has entries pid (page / 512) ≡ true
    by true e is = subst (λ (q : ℕ). has entries q (page / 512) ≡ true) (sym (eqb-true pid gone e)) (mine page is)
    by false e is = there pid (page / 512) e (all pid page is)

same_areas : (spaces : ℕ → Space) (new : Space) (pid : ℕ) (entries : List HomeEntry) → AllOwned spaces entries → new.areas ≡ (spaces pid).areas → AllOwned (with_space spaces pid new) entries
same_areas spaces new pid entries all e = one_space spaces new pid entries entries all (λ page is. all pid page (ap (λ (areas : List Area). is_some (perms_of areas page)) (sym e) ∙ is)) (λ q region other is. is)

either_space : (b : Bool) (k l : Kernel) → k.space ≡ l.space → (held_in (cond b k l)).space ≡ k.space
either_space true k l e = refl
either_space false k l e = sym e

effect_keeps : (n : Now) (e : Effect) → AllOwned n.held.space (owners n) → AllOwned (held_after e n.held).space (placed_all (placings_of n e) n.owned).owners
effect_keeps n (Writes kind pid address bytes) all = same_areas n.held.space (with_bytes (n.held.space pid) address bytes) pid (owners n) all refl
effect_keeps n (Fills pid address bytes) all = same_areas n.held.space (with_bytes (n.held.space pid) address bytes) pid (owners n) all refl
effect_keeps n (Maps pid areas) all =
    one_space n.held.space (record (n.held.space pid) { areas = areas }) pid (owners n) (placed_all (placings_of n (Maps pid areas)) n.owned).owners all
    (λ page is. mapped_gives (pid_no pid) (regions_of areas) (owners n) n.owned (page / 512) (λ r is. is) (region_met areas page is))
    (λ q region other is. mapped_keeps (pid_no pid) (map (λ r. record { 0 = r }) (regions_of areas)) (owners n) n.owned q region is)
effect_keeps n (Protects pid first pages areas) all =
    one_space n.held.space (record (n.held.space pid) { areas = areas }) pid (owners n) (placed_all (placings_of n (Protects pid first pages areas)) n.owned).owners all
    (λ page is. mapped_gives (pid_no pid) (regions_of areas) (owners n) n.owned (page / 512) (λ r is. is) (region_met areas page is))
    (λ q region other is. mapped_keeps (pid_no pid) (map (λ r. record { 0 = r }) (regions_of areas)) (owners n) n.owned q region is)
effect_keeps n (Unmaps pid first pages) all =
    one_space n.held.space (unmapped first pages (n.held.space pid)) pid (owners n) (owners n) all
    (λ page is. all pid page (cut_mapped first pages (n.held.space pid).areas page is))
    (λ q region other is. is)
effect_keeps n (Copies parent child) all =
    one_space n.held.space (n.held.space parent) child (owners n) (placed_all (placings_of n (Copies parent child)) n.owned).owners all
    (λ page is. child_gives (pid_no parent) (pid_no child) n.owned (page / 512) (all parent page is))
    (λ q region other is. child_keeps (pid_no parent) (pid_no child) n.owned q region is)
effect_keeps n (Drops pid) all =
    one_space n.held.space no_space pid (owners n) (placed_all (placings_of n (Drops pid)) n.owned).owners all
    (λ page is. cc is)
    (λ q region other is. others_keep (pid_no pid) n.owned q region other is)
effect_keeps n (MakesFile name) all = subst (λ (spaces : ℕ → Space). AllOwned spaces (owners n)) (sym (either_space (is_some (named n.held.names name) || leb FILES (length n.held.files)) (with_held n.held (unbooted [])) _ refl)) all
effect_keeps n (FreesFile file) all = subst (λ (spaces : ℕ → Space). AllOwned spaces (owners n)) (sym (either_space (has_name n.held.names file) (with_held n.held (unbooted [])) _ refl)) all
effect_keeps n (Closes pid fd) all = subst (λ (h : Held). AllOwned h.space (owners n)) (sym (apart_stays (Closes pid fd) n.held refl)) all
effect_keeps n (Forks parent child cpu) all = subst (λ (h : Held). AllOwned h.space (owners n)) (sym (apart_stays (Forks parent child cpu) n.held refl)) all
effect_keeps n e all = all

all_keep : (n : Now) (es : List Effect) → AllOwned n.held.space (owners n) → AllOwned (all_passed n es).held.space (owners (all_passed n es))
all_keep n [] all = all
all_keep n (e ∷ es) all =
    all_keep (passed n e) es
    (subst (λ (o : Owned). AllOwned (held_after e n.held).space o.owners) (sym (effect_owns n e)) (effect_keeps n e all))

pub mapped_is_owned : MappedIsOwned
mapped_is_owned shape es = all_keep (at_start shape) es (λ pid page is. cc is)
