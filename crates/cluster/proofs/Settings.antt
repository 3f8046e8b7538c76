-- What the operations of a mapping owe, and what they make of the plain map.
use Rattle.std.proofs.Common.{◌≡◌, ◌⊎◌, ◌<◌, ◌≤◌, ◌+◌, ◌*◌, ◌/◌, ◌&&◌, ◌∙◌, [], ◌∷◌, ◌++◌, ℕ, Bool, IsSome, List, None, Option, Some, ap, append-nil, arith, cond, eqb, false, inl, inr, is_some, refl, subst, sym, true}
use Rattle.std.proofs.lemmas.Bool.{cases_eq, eq-eqb, eqb-true}
use Rattle.std.specs.List.{AllByRecursion}
use Rattle.area_list.specs.Runs.{IsCanonical}
use Rattle.keyed_list.proofs.Listed.{above_rest}
use Rattle.keyed_list.proofs.Order.{below_is}
use Rattle.lego_base.specs.Keys.{IsAbove, Key, Rises, is_below, is_of, put_all, those}
use Rattle.lego_base.specs.Space.{perms_of}
use Rattle.lego_base.specs.declared.ids.MemId.{MemId}
use Rattle.lego_base.specs.declared.ids.Pid.{Pid}
use Rattle.lego_base.specs.declared.perms.Perms.{Perms}
use Rattle.lego_base.specs.declared.records.Area.{Area}
use Rattle.lego_base.specs.declared.records.HomeEntry.{HomeEntry}
use Rattle.lego_msg.specs.Form.{IsRegionList}
use Rattle.lego_msg.specs.Maps.{home_key, owner_of}
use Rattle.lego_msg.specs.Plain.{Plain, touched, with_home_of, with_region}
use Rattle.lego_msg.specs.declared.operation.Operation.{Operation}
use Rattle.lego_msg.specs.declared.operation.Operation.TheVariants.{SetsAreas}
use Rattle.lego_rest.specs.Fits.{PlainFits}
use Rattle.placement.proofs.Mapping.{mapped-put}
use Rattle.placement.specs.Owners.{Owned}
use Rattle.rest_laws.proofs.Truth.{both_true}
use Rattle.cluster.proofs.Granting.{adds_grow}
use Rattle.cluster.proofs.Newcomers.{Listed, added_owned, met_owned, region_met, those_listed, those_of}
use Rattle.cluster.proofs.Parts.{part_listed, part_none, part_perms}
use Rattle.cluster.proofs.Regionwise.{owned_those}
use Rattle.cluster.specs.Askings.{AreOwned, areas_among}
use Rattle.cluster.specs.Mapping.{Covers, entries_in, homes_of, listed_in, new_of, part_in, regions_from, same_area, same_areas, sets_areas, table_with, tells_of, with_all_areas_of, with_homes}
use Rattle.cluster.specs.Sequences.{Adds, AllFit, Asking, all_free, effects, effects_of, with_new}

-- ---- areas that are listed region by region

of_region : (region first pages : ℕ) → 0 < pages → region * 512 ≤ first → first + pages ≤ region * 512 + 512 → first / 512 ≡ region
of_region region first pages some low high = omega (arith, some, low, high)

listed_same : (region : ℕ) (areas : List Area) → IsRegionList region areas → listed_in region areas ≡ areas
listed_same region [] listed = refl
listed_same region (a ∷ areas) listed =
    ap (λ (b : Bool). cond b (a ∷ listed_in region areas) (listed_in region areas)) (eq-eqb (a.first.0 / 512) region (of_region region a.first.0 a.pages listed.0 listed.1 listed.2))
    ∙ ap (λ (l : List Area). a ∷ l) (listed_same region areas listed.4)

not_same : (a b : ℕ) → (a ≡ b → ⊥) → eqb a b ≡ false
not_same a b differ = by (eqb a b) refl
  where
    by : (c : Bool) → eqb a b ≡ c → c ≡ false
    by true e = absurd (differ (eqb-true a b e))
    by false e = refl

listed_other : (region other : ℕ) (areas : List Area) → (region ≡ other → ⊥) → IsRegionList region areas → listed_in other areas ≡ []
listed_other region other [] differ listed = refl
listed_other region other (a ∷ areas) differ listed =
    ap (λ (b : Bool). cond b (a ∷ listed_in other areas) (listed_in other areas)) (not_same (a.first.0 / 512) other (λ e. differ (sym (of_region region a.first.0 a.pages listed.0 listed.1 listed.2) ∙ e)))
    ∙ listed_other region other areas differ listed.4

listed-append : (region : ℕ) (xs ys : List Area) → listed_in region (xs ++ ys) ≡ listed_in region xs ++ listed_in region ys
listed-append region [] ys = refl
listed-append region (a ∷ xs) ys = by (eqb (a.first.0 / 512) region) (listed-append region xs ys)
  where
    by : (b : Bool) → listed_in region (xs ++ ys) ≡ listed_in region xs ++ listed_in region ys → cond b (a ∷ listed_in region (xs ++ ys)) (listed_in region (xs ++ ys)) ≡ cond b (a ∷ listed_in region xs) (listed_in region xs) ++ listed_in region ys
    by true e = ap (λ (l : List Area). a ∷ l) e
    by false e = e

abbrev pub Elsewhere : ℕ → List HomeEntry → Type 0
Elsewhere region entries = AllByRecursion (λ (e : HomeEntry). e.region.0 ≡ region → ⊥) entries

-- of one process, an entry above another has a greater region
pub below_number : (pid : ℕ) (e x : HomeEntry) → e.pid.0 ≡ pid → x.pid.0 ≡ pid → is_below (home_key e) (home_key x) ≡ true → e.region.0 < x.region.0
below_number pid e x mine same above = elim (below_is (home_key e) (home_key x) above) [
  | inl less ↦ absurd (omega (arith, less, same, mine))
  | inr more ↦ more.1
]

-- the regions after a first one are others
pub apart : (pid : ℕ) (e : HomeEntry) (zs : List HomeEntry) → e.pid.0 ≡ pid → AllByRecursion (λ (x : HomeEntry). x.pid.0 ≡ pid) zs → IsAbove home_key e zs → Rises home_key zs → Elsewhere e.region.0 zs
apart pid e [] mine same above rise = tt
apart pid e (x ∷ zs) mine same above rise =
    (λ is. let less = below_number pid e x mine same.0 above in absurd (omega (arith, less, is)), apart pid e zs mine same.1 (above_rest home_key e x zs above rise.0) rise.1)

pub never_listed : (pid region : ℕ) (zs : List HomeEntry) → Listed pid region zs → Elsewhere region zs → ⊥
never_listed pid region [] listed elsewhere = listed
never_listed pid region (x ∷ zs) (inl is) elsewhere = elsewhere.0 is.1
never_listed pid region (x ∷ zs) (inr more) elsewhere = never_listed pid region zs more elsewhere.1

module _ (f : Plain) (lists : (pid region : ℕ) → IsRegionList region (f.areas pid region)) where
  among_none : (region : ℕ) (entries : List HomeEntry) → Elsewhere region entries → listed_in region (areas_among f entries) ≡ []
  among_none region [] elsewhere = refl
  among_none region (e ∷ entries) elsewhere =
      listed-append region (f.areas e.pid.0 e.region.0) (areas_among f entries)
      ∙ ap (λ (l : List Area). l ++ listed_in region (areas_among f entries)) (listed_other e.region.0 region (f.areas e.pid.0 e.region.0) elsewhere.0 (lists e.pid.0 e.region.0))
      ∙ among_none region entries elsewhere.1

  pub among_one : (pid region : ℕ) (entries : List HomeEntry) → AllByRecursion (λ (e : HomeEntry). e.pid.0 ≡ pid) entries → Rises home_key entries → Listed pid region entries → listed_in region (areas_among f entries) ≡ f.areas pid region
  among_one pid region [] mine rise listed = absurd listed
  among_one pid region (e ∷ entries) mine rise (inl is) =
      listed-append region (f.areas e.pid.0 e.region.0) (areas_among f entries)
      ∙ (λ i. listed_in region (f.areas (is.0 i) (is.1 i)) ++ listed_in region (areas_among f entries))
      ∙ (λ i. listed_same region (f.areas pid region) (lists pid region) i ++ among_none region entries (subst (λ (r : ℕ). Elsewhere r entries) is.1 (apart pid e entries mine.0 mine.1 rise.0 rise.1)) i)
      ∙ append-nil (f.areas pid region)
  among_one pid region (e ∷ entries) mine rise (inr more) = elim (cases_eq e.region.0 region) [
    | inl same ↦ absurd (never_listed pid region entries more (subst (λ (r : ℕ). Elsewhere r entries) same (apart pid e entries mine.0 mine.1 rise.0 rise.1)))
    | inr differ ↦
        listed-append region (f.areas e.pid.0 e.region.0) (areas_among f entries)
        ∙ ap (λ (l : List Area). l ++ listed_in region (areas_among f entries)) (listed_other e.region.0 region (f.areas e.pid.0 e.region.0) differ (lists e.pid.0 e.region.0))
        ∙ among_one pid region entries mine.1 rise.1 more
  ]

-- ---- the entries of a process rise

those_above : (test : Key → Bool) (z : HomeEntry) (ys : List HomeEntry) → IsAbove home_key z ys → Rises home_key ys → IsAbove home_key z (those home_key test ys)
those_above test z [] more rise = tt
those_above test z (y ∷ ys) more rise = by (test (home_key y)) (those_above test z ys (above_rest home_key z y ys more rise.0) rise.1)
  where
    by : (b : Bool) → IsAbove home_key z (those home_key test ys) → IsAbove home_key z (cond b (y ∷ those home_key test ys) (those home_key test ys))
    by true rest = more
    by false rest = rest

pub those_rise : (test : Key → Bool) (ys : List HomeEntry) → Rises home_key ys → Rises home_key (those home_key test ys)
those_rise test [] rise = tt
those_rise test (y ∷ ys) rise = by (test (home_key y)) (those_rise test ys rise.1)
  where
    by : (b : Bool) → Rises home_key (those home_key test ys) → Rises home_key (cond b (y ∷ those home_key test ys) (those home_key test ys))
    by true rest = (those_above test y ys rise.0 rise.1, rest)
    by false rest = rest

pub elsewhere : (owners entries : List HomeEntry) (pid region : ℕ) → AllByRecursion (λ (e : HomeEntry). e.pid.0 ≡ pid) entries → AreOwned owners entries → owner_of owners pid region ≡ None → Elsewhere region entries
elsewhere owners [] pid region mine owned none = tt
elsewhere owners (e ∷ entries) pid region mine owned none =
    (λ same. let both : Some e.owner ≡ None = sym owned.0 ∙ (λ i. owner_of owners (mine.0 i) (same i)) ∙ none in cc both, elsewhere owners entries pid region mine.1 owned.1 none)

-- what the owners of a process's regions answer has each region's areas
pub old_is : (n : ℕ) (t : Owned) (f : Plain) (pid : Pid) (region : ℕ) → PlainFits n t.owners f → listed_in region (areas_among f (entries_in pid t)) ≡ f.areas pid.0 region
old_is n t f pid region fits = by (owner_of t.owners pid.0 region) refl
  where
    by : (x : Option MemId) → owner_of t.owners pid.0 region ≡ x → listed_in region (areas_among f (entries_in pid t)) ≡ f.areas pid.0 region
    by (Some o) is = among_one f fits.lists pid.0 region (entries_in pid t) (those_of pid.0 t.owners) (those_rise (is_of pid.0) t.owners fits.rise) (those_listed t.owners pid.0 region o is)
    by None is = among_none f fits.lists region (entries_in pid t) (elsewhere t.owners (entries_in pid t) pid.0 region (those_of pid.0 t.owners) (owned_those (is_of pid.0) t.owners fits.rise) is) ∙ sym (fits.areas pid.0 region is)

-- ---- what is owed

sets_next : (n : ℕ) (owners : List HomeEntry) (g : Plain) (e : HomeEntry) (areas : List Area) (more : List Operation) (b : Bool) → AllFit n owners g [] (all_free more) → AllFit n owners g [] (all_free (SetsAreas e.pid e.region areas e.owner ∷ more)) → AllFit n owners g [] (all_free (cond b [] (SetsAreas e.pid e.region areas e.owner ∷ []) ++ more))
sets_next n owners g e areas more true skip set = skip
sets_next n owners g e areas more false skip set = set

sets_fit : (n : ℕ) (owners : List HomeEntry) (pid : ℕ) (old want : List Area) (entries : List HomeEntry) → IsCanonical want → AreOwned owners entries → AllByRecursion (λ (e : HomeEntry). e.pid.0 ≡ pid) entries → (g : Plain) → ((vpn : ℕ) → touched g pid vpn ≡ true → IsSome (perms_of want vpn)) → AllFit n owners g [] (all_free (sets_areas old want entries))
sets_fit n owners pid old want [] canonical owned mine g stay = tt
sets_fit n owners pid old want (e ∷ entries) canonical owned mine g stay =
    sets_next n owners g e (part_in e.region.0 want) (sets_areas old want entries) (same_areas (listed_in e.region.0 old) (part_in e.region.0 want))
    (sets_fit n owners pid old want entries canonical owned.1 mine.1 g stay) (
      tt,
      tt,
      record {
        owned = owned.0;
        form = part_listed e.region.0 want canonical;
        stay = λ vpn here there. subst IsSome (sym (part_perms e.region.0 want vpn here)) (stay vpn (subst (λ (p : ℕ). touched g p vpn ≡ true) mine.0 there));
      },
      tt,
      sets_fit n owners pid old want entries canonical owned.1 mine.1 (with_region e.pid.0 e.region.0 (part_in e.region.0 want) g) stay,
    )

later_fit : (n : ℕ) (owners entries : List HomeEntry) (rest : List Asking) (f : Plain) → AreOwned owners entries → ((g : Plain) → g.page ≡ f.page → AllFit n owners g [] rest) → AllFit n owners f [] (all_free (homes_of entries) ++ rest)
later_fit n owners [] rest f owned fits = fits f refl
later_fit n owners (e ∷ entries) rest f owned fits = (tt, tt, owned.0, tt, later_fit n owners entries rest (with_home_of e.pid.0 e.region.0 e.owner f) owned.1 fits)

homes_fit : (n : ℕ) (owners new : List HomeEntry) (rest : List Asking) (f : Plain) → Adds n owners new → ((g : Plain) → g.page ≡ f.page → AllFit n (put_all home_key new owners) g [] rest) → AllFit n owners f [] (with_new new (homes_of new) ++ rest)
homes_fit n owners [] rest f adds fits = fits f refl
homes_fit n owners (e ∷ new) rest f adds fits =
    let owned = added_owned n owners (e ∷ new) adds in
    (adds, tt, owned.0, tt, later_fit n (put_all home_key (e ∷ new) owners) new rest (with_home_of e.pid.0 e.region.0 e.owner f) owned.1 fits)

-- the table's owners are with the new ones
pub owners_with : (t : Owned) (pid : Pid) (want : List Area) → (table_with t pid want).owners ≡ put_all home_key (new_of t pid want) t.owners
owners_with t pid want = ap (λ (o : Owned). o.owners) (mapped-put pid (regions_from 0 want) t.owners t)

pub tells_fit : (n : ℕ) (t : Owned) (f : Plain) (pid : Pid) (old want : List Area) → IsCanonical want → PlainFits n t.owners f → Adds n t.owners (new_of t pid want) → Rises home_key (table_with t pid want).owners → Covers pid want f → AllFit n t.owners f [] (tells_of t old pid want)
tells_fit n t f pid old want canonical fits adds rise covers =
    homes_fit n t.owners (new_of t pid want) (all_free (sets_areas old want (entries_in pid (table_with t pid want)))) f adds
    (λ g same. subst (λ (owners : List HomeEntry). AllFit n owners g [] (all_free (sets_areas old want (entries_in pid (table_with t pid want))))) (owners_with t pid want)
    (sets_fit n (table_with t pid want).owners pid.0 old want (entries_in pid (table_with t pid want)) canonical (owned_those (is_of pid.0) (table_with t pid want).owners rise) (those_of pid.0 (table_with t pid want).owners) g
    (λ vpn there. covers vpn (fits.mapped pid.0 vpn (subst (λ (page : ℕ → ℕ → Option (List ℕ)). is_some (page pid.0 vpn) ≡ true) same there)))))

-- ---- what they make of the plain map

-- lists of areas that a test finds the same are
same_area_is : (a b : Area) → same_area a b ≡ true → a ≡ b
same_area_is a b is =
    let outer = both_true (eqb a.first.0 b.first.0 && eqb a.pages b.pages) (eqb a.perms.0 b.perms.0) is in
    let inner = both_true (eqb a.first.0 b.first.0) (eqb a.pages b.pages) outer.0 in
    let first = eqb-true a.first.0 b.first.0 inner.0 in
    let pages = eqb-true a.pages b.pages inner.1 in
    let perms = eqb-true a.perms.0 b.perms.0 outer.1 in
    λ i. record { first = record { 0 = first i }; pages = pages i; perms = record { 0 = perms i } }

same_areas_are : (xs ys : List Area) → same_areas xs ys ≡ true → xs ≡ ys
same_areas_are [] [] is = refl
same_areas_are [] (y ∷ ys) is = cc is
same_areas_are (x ∷ xs) [] is = cc is
same_areas_are (x ∷ xs) (y ∷ ys) is =
    let both = both_true (same_area x y) (same_areas xs ys) is in
    λ i. same_area_is x y both.0 i ∷ same_areas_are xs ys both.1 i

-- but for areas all is as before
record Beside (g h : Plain) : Type 0 where
  homes : h.homes ≡ g.homes
  page : h.page ≡ g.page
  files : h.files ≡ g.files

module _ (old want : List Area) where
  either_way : (Q : List Operation → Type 0) (e : HomeEntry) (more : List Operation) (b : Bool) → (b ≡ true → Q more) → (b ≡ false → Q (SetsAreas e.pid e.region (part_in e.region.0 want) e.owner ∷ more)) → Q (cond b [] (SetsAreas e.pid e.region (part_in e.region.0 want) e.owner ∷ []) ++ more)
  either_way Q e more true skip set = skip refl
  either_way Q e more false skip set = set refl

  abbrev is_kept : HomeEntry → Bool
  is_kept e = same_areas (listed_in e.region.0 old) (part_in e.region.0 want)

  abbrev with_part : HomeEntry → Plain → Plain
  with_part e g = with_region e.pid.0 e.region.0 (part_in e.region.0 want) g

  sets_beside : (entries : List HomeEntry) (g : Plain) → Beside g (effects (sets_areas old want entries) g)
  sets_beside [] g = record { homes = refl; page = refl; files = refl }
  sets_beside (e ∷ entries) g = either_way (λ (l : List Operation). Beside g (effects l g)) e (sets_areas old want entries) (is_kept e)
      (λ is. sets_beside entries g)
      (λ is. let rest = sets_beside entries (with_part e g) in record { homes = rest.homes; page = rest.page; files = rest.files })

  sets_keep : (entries : List HomeEntry) (g : Plain) (p r : ℕ) → g.areas p r ≡ part_in r want → (effects (sets_areas old want entries) g).areas p r ≡ part_in r want
  sets_keep [] g p r is = is
  sets_keep (e ∷ entries) g p r is = either_way (λ (l : List Operation). (effects l g).areas p r ≡ part_in r want) e (sets_areas old want entries) (is_kept e)
      (λ kept. sets_keep entries g p r is)
      (λ set. sets_keep entries (with_part e g) p r (by (eqb e.pid.0 p && eqb e.region.0 r) refl))
    where
      by : (b : Bool) → (eqb e.pid.0 p && eqb e.region.0 r) ≡ b → cond b (part_in e.region.0 want) (g.areas p r) ≡ part_in r want
      by true same = ap (λ (q : ℕ). part_in q want) (eqb-true e.region.0 r (both_true (eqb e.pid.0 p) (eqb e.region.0 r) same).1)
      by false other = is

  sets_other : (entries : List HomeEntry) (g : Plain) (p r : ℕ) → AllByRecursion (λ (e : HomeEntry). (eqb e.pid.0 p && eqb e.region.0 r) ≡ false) entries → (effects (sets_areas old want entries) g).areas p r ≡ g.areas p r
  sets_other [] g p r others = refl
  sets_other (e ∷ entries) g p r others = either_way (λ (l : List Operation). (effects l g).areas p r ≡ g.areas p r) e (sets_areas old want entries) (is_kept e)
      (λ kept. sets_other entries g p r others.1)
      (λ set. sets_other entries (with_part e g) p r others.1 ∙ ap (λ (b : Bool). cond b (part_in e.region.0 want) (g.areas p r)) others.0)

  sets_give : (entries : List HomeEntry) (g : Plain) (p r : ℕ) → Listed p r entries → (g.areas p r ≡ listed_in r old) ⊎ (g.areas p r ≡ part_in r want) → (effects (sets_areas old want entries) g).areas p r ≡ part_in r want
  sets_give [] g p r listed was = absurd listed
  sets_give (e ∷ entries) g p r (inl is) was = either_way (λ (l : List Operation). (effects l g).areas p r ≡ part_in r want) e (sets_areas old want entries) (is_kept e)
      (λ kept. sets_keep entries g p r (already was (same_areas_are (listed_in e.region.0 old) (part_in e.region.0 want) kept)))
      (λ set. sets_keep entries (with_part e g) p r ((λ i. cond (eq-eqb e.pid.0 p is.0 i && eq-eqb e.region.0 r is.1 i) (part_in e.region.0 want) (g.areas p r)) ∙ ap (λ (q : ℕ). part_in q want) is.1))
    where
      already : (g.areas p r ≡ listed_in r old) ⊎ (g.areas p r ≡ part_in r want) → listed_in e.region.0 old ≡ part_in e.region.0 want → g.areas p r ≡ part_in r want
      already (inl before) same = before ∙ subst (λ (q : ℕ). listed_in q old ≡ part_in q want) is.1 same
      already (inr after) same = after
  sets_give (e ∷ entries) g p r (inr more) was = either_way (λ (l : List Operation). (effects l g).areas p r ≡ part_in r want) e (sets_areas old want entries) (is_kept e)
      (λ kept. sets_give entries g p r more was)
      (λ set. sets_give entries (with_part e g) p r more (by (eqb e.pid.0 p && eqb e.region.0 r) refl was))
    where
      by : (b : Bool) → (eqb e.pid.0 p && eqb e.region.0 r) ≡ b → (g.areas p r ≡ listed_in r old) ⊎ (g.areas p r ≡ part_in r want) → (cond b (part_in e.region.0 want) (g.areas p r) ≡ listed_in r old) ⊎ (cond b (part_in e.region.0 want) (g.areas p r) ≡ part_in r want)
      by true same either = inr (ap (λ (q : ℕ). part_in q want) (eqb-true e.region.0 r (both_true (eqb e.pid.0 p) (eqb e.region.0 r) same).1))
      by false other either = either

pub homes_areas : (entries : List HomeEntry) (f : Plain) → (with_homes entries f).areas ≡ f.areas
homes_areas [] f = refl
homes_areas (e ∷ entries) f = homes_areas entries (with_home_of e.pid.0 e.region.0 e.owner f)

later_effect : (entries : List HomeEntry) (rest : List Asking) (f : Plain) → effects_of (all_free (homes_of entries) ++ rest) f ≡ effects_of rest (with_homes entries f)
later_effect [] rest f = refl
later_effect (e ∷ entries) rest f = later_effect entries rest (with_home_of e.pid.0 e.region.0 e.owner f)

homes_effect : (new : List HomeEntry) (rest : List Asking) (f : Plain) → effects_of (with_new new (homes_of new) ++ rest) f ≡ effects_of rest (with_homes new f)
homes_effect [] rest f = refl
homes_effect (e ∷ new) rest f = later_effect new rest (with_home_of e.pid.0 e.region.0 e.owner f)

others : (pid p r : ℕ) (entries : List HomeEntry) → (pid ≡ p → ⊥) → AllByRecursion (λ (e : HomeEntry). e.pid.0 ≡ pid) entries → AllByRecursion (λ (e : HomeEntry). (eqb e.pid.0 p && eqb e.region.0 r) ≡ false) entries
others pid p r [] differ mine = tt
others pid p r (e ∷ entries) differ mine = (ap (λ (b : Bool). b && eqb e.region.0 r) (not_same e.pid.0 p (λ is. differ (sym mine.0 ∙ is))), others pid p r entries differ mine.1)

elsewhere_others : (pid r : ℕ) (entries : List HomeEntry) → Elsewhere r entries → AllByRecursion (λ (e : HomeEntry). (eqb e.pid.0 pid && eqb e.region.0 r) ≡ false) entries
elsewhere_others pid r [] elsewhere_ = tt
elsewhere_others pid r (e ∷ entries) elsewhere_ = (by (eqb e.pid.0 pid) (not_same e.region.0 r elsewhere_.0), elsewhere_others pid r entries elsewhere_.1)
  where
    by : (b : Bool) → eqb e.region.0 r ≡ false → (b && eqb e.region.0 r) ≡ false
    by true is = is
    by false is = refl

module _ (n : ℕ) (t : Owned) (f : Plain) (pid : Pid) (want : List Area) (canonical : IsCanonical want) (fits : PlainFits n t.owners f) (adds : Adds n t.owners (new_of t pid want)) (rise : Rises home_key (table_with t pid want).owners) where
  abbrev entries : List HomeEntry
  entries = entries_in pid (table_with t pid want)

  abbrev before : List Area
  before = areas_among f (entries_in pid t)

  abbrev now : Plain
  now = with_homes (new_of t pid want) f

  was : (r : ℕ) → now.areas pid.0 r ≡ listed_in r before
  was r = ap (λ (areas : ℕ → ℕ → List Area). areas pid.0 r) (homes_areas (new_of t pid want) f) ∙ sym (old_is n t f pid r fits)

  -- a region without an owner has no page
  bare : (r : ℕ) → owner_of (table_with t pid want).owners pid.0 r ≡ None → part_in r want ≡ []
  bare r none = part_none r want canonical (λ vpn here. by vpn here (perms_of want vpn) refl)
    where
      by : (vpn : ℕ) → vpn / 512 ≡ r → (x : Option Perms) → perms_of want vpn ≡ x → x ≡ None
      by vpn here None is = refl
      by vpn here (Some perms) is =
          let owned = met_owned n t pid want (vpn / 512) adds (region_met 0 want vpn perms canonical (omega arith) is) in
          let both : Some owned.0 ≡ None = sym owned.1 ∙ (λ i. owner_of (sym (owners_with t pid want) i) pid.0 (here i)) ∙ none in
          cc both

  unowned : (r : ℕ) → owner_of (table_with t pid want).owners pid.0 r ≡ None → (x : Option MemId) → owner_of t.owners pid.0 r ≡ x → f.areas pid.0 r ≡ []
  unowned r none None is = fits.areas pid.0 r is
  unowned r none (Some o) is =
      let both : Some o ≡ None = sym (adds_grow n t.owners (new_of t pid want) adds pid.0 r o is) ∙ ap (λ (es : List HomeEntry). owner_of es pid.0 r) (sym (owners_with t pid want)) ∙ none in
      cc both

  mine : (r : ℕ) (x : Option MemId) → owner_of (table_with t pid want).owners pid.0 r ≡ x → (effects (sets_areas before want entries) now).areas pid.0 r ≡ part_in r want
  mine r (Some o) is = sets_give before want entries now pid.0 r (those_listed (table_with t pid want).owners pid.0 r o is) (inl (was r))
  mine r None is =
      sets_other before want entries now pid.0 r (elsewhere_others pid.0 r entries (elsewhere (table_with t pid want).owners entries pid.0 r (those_of pid.0 (table_with t pid want).owners) (owned_those (is_of pid.0) (table_with t pid want).owners rise) is))
      ∙ ap (λ (areas : ℕ → ℕ → List Area). areas pid.0 r) (homes_areas (new_of t pid want) f) ∙ unowned r is (owner_of t.owners pid.0 r) refl ∙ sym (bare r is)

  each : (p r : ℕ) → (effects (sets_areas before want entries) now).areas p r ≡ cond (eqb pid.0 p) (part_in r want) (now.areas p r)
  each p r = elim (cases_eq pid.0 p) [
    | inl same ↦ subst (λ (q : ℕ). (effects (sets_areas before want entries) now).areas q r ≡ part_in r want) same (mine r (owner_of (table_with t pid want).owners pid.0 r) refl)
        ∙ ap (λ (b : Bool). cond b (part_in r want) (now.areas p r)) (sym (eq-eqb pid.0 p same))
    | inr differ ↦ sets_other before want entries now p r (others pid.0 p r entries differ (those_of pid.0 (table_with t pid want).owners))
        ∙ ap (λ (b : Bool). cond b (part_in r want) (now.areas p r)) (sym (not_same pid.0 p differ))
  ]

  pub tells_make : effects_of (tells_of t before pid want) f ≡ with_all_areas_of pid want now
  tells_make =
      let beside = sets_beside before want entries now in
      homes_effect (new_of t pid want) (all_free (sets_areas before want entries)) f
      ∙ (λ i. record { homes = beside.homes i; areas = λ p r. each p r i; page = beside.page i; files = beside.files i })
