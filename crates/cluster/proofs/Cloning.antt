-- What the operations of a copied space owe, and what they make of the plain map.
use Rattle.std.proofs.Common.{◌≡◌, ◌<◌, ◌≤◌, ◌+◌, ◌/◌, ◌&&◌, ◌||◌, ◌∙◌, [], ◌∷◌, ◌++◌, ℕ, Bool, List, None, Option, Some, ap, arith, cond, eqb, false, inl, inr, map, refl, subst, suc, sym, true, zero}
use Rattle.std.proofs.lemmas.Bool.{cases_eq, cases_lt, eq-eqb, eqb-true}
use Rattle.std.proofs.lemmas.Nat.{mod_below}
use Rattle.std.specs.List.{AllByRecursion}
use Rattle.keyed_list.proofs.Listed.{above_rest}
use Rattle.lego_base.specs.Keys.{IsAbove, Rises, is_of, put, put_all}
use Rattle.lego_base.specs.declared.ids.MemId.{MemId}
use Rattle.lego_base.specs.declared.ids.Pid.{Pid}
use Rattle.lego_base.specs.declared.ids.RegionNo.{RegionNo}
use Rattle.lego_base.specs.declared.records.Area.{Area}
use Rattle.lego_base.specs.declared.records.HomeEntry.{HomeEntry}
use Rattle.lego_msg.proofs.Senders.{same_some}
use Rattle.lego_msg.specs.Form.{RegionsRise}
use Rattle.lego_msg.specs.Granted.{CopyFits, is_region_in}
use Rattle.lego_msg.specs.Maps.{home_key, owned_by, owner_of}
use Rattle.lego_msg.specs.Places.{secondary_of}
use Rattle.lego_msg.specs.Plain.{Plain, with_home_of, with_region_of, with_regions_of}
use Rattle.lego_msg.specs.declared.operation.Operation.{Operation}
use Rattle.lego_rest.specs.Fits.{PlainFits}
use Rattle.placement.specs.Owners.{Owned, for_child, handed_on}
use Rattle.rest_laws.proofs.Truth.{both_true}
use Rattle.rest_laws.proofs.kinds.Copied.{plain_areas_in, plain_pages_in}
use Rattle.cluster.proofs.Granting.{adds_grow}
use Rattle.cluster.proofs.Newcomers.{Listed, added_owned, put_other, those_listed, those_of}
use Rattle.cluster.proofs.Regionwise.{owned_those}
use Rattle.cluster.proofs.Settings.{Elsewhere, apart, below_number, homes_areas, those_rise}
use Rattle.cluster.specs.Askings.{AreOwned}
use Rattle.cluster.specs.Copying.{copies_for, copies_of, drains_for, owners_from, owns_some, regions_in, with_space_of}
use Rattle.cluster.specs.Logs.{is_in}
use Rattle.cluster.specs.Mapping.{entries_in, homes_of, with_homes}
use Rattle.cluster.specs.Sequences.{Adds, AllFit, Asking, all_free, effects, effects_of, with_new}

-- ---- the child's owners

child_adds : (n : ℕ) (pid : ℕ) (child : Pid) (entries now : List HomeEntry) → AllByRecursion (λ (e : HomeEntry). e.pid.0 ≡ pid) entries → Rises home_key entries → AllByRecursion (λ (e : HomeEntry). (owner_of now child.0 e.region.0 ≡ None) × (e.owner.0 < n)) entries → Adds n now (map (for_child child) entries)
child_adds n pid child [] now mine rise each = tt
child_adds n pid child (e ∷ entries) now mine rise each =
    (each.0.0, each.0.1, child_adds n pid child entries (put home_key (for_child child e) now) mine.1 rise.1 (still entries (apart pid e entries mine.0 mine.1 rise.0 rise.1) each.1))
  where
    still : (zs : List HomeEntry) → Elsewhere e.region.0 zs → AllByRecursion (λ (x : HomeEntry). (owner_of now child.0 x.region.0 ≡ None) × (x.owner.0 < n)) zs → AllByRecursion (λ (x : HomeEntry). (owner_of (put home_key (for_child child e) now) child.0 x.region.0 ≡ None) × (x.owner.0 < n)) zs
    still [] elsewhere each = tt
    still (x ∷ zs) elsewhere each = ((put_other (for_child child e) now child.0 x.region.0 (λ same. elsewhere.0 (sym same)) ∙ each.0.0, each.0.1), still zs elsewhere.1 each.1)

each_below : (n : ℕ) (owners entries : List HomeEntry) (child : Pid) → AreOwned owners entries → ((pid region : ℕ) (o : MemId) → owner_of owners pid region ≡ Some o → o.0 < n) → ((region : ℕ) → owner_of owners child.0 region ≡ None) → AllByRecursion (λ (e : HomeEntry). (owner_of owners child.0 e.region.0 ≡ None) × (e.owner.0 < n)) entries
each_below n owners [] child owned within none = tt
each_below n owners (e ∷ entries) child owned within none = ((none e.region.0, within e.pid.0 e.region.0 e.owner owned.0), each_below n owners entries child owned.1 within none)

pub inherits_add : (n : ℕ) (t : Owned) (f : Plain) (parent child : Pid) → PlainFits n t.owners f → ((region : ℕ) → owner_of t.owners child.0 region ≡ None) → Adds n t.owners (handed_on parent child t.owners)
inherits_add n t f parent child fits none =
    child_adds n parent.0 child (entries_in parent t) t.owners (those_of parent.0 t.owners) (those_rise (is_of parent.0) t.owners fits.rise)
    (each_below n t.owners (entries_in parent t) child (owned_those (is_of parent.0) t.owners fits.rise) fits.within none)

-- ---- the regions of an owner

in_owned : (owners entries : List HomeEntry) (pid k r : ℕ) → AreOwned owners entries → AllByRecursion (λ (e : HomeEntry). e.pid.0 ≡ pid) entries → is_region_in r (regions_in (owned_by k entries)) ≡ true → owner_of owners pid r ≡ Some (record { 0 = k })
in_owned owners [] pid k r owned mine is = cc is
in_owned owners (e ∷ entries) pid k r owned mine is = by (eqb e.owner.0 k) refl is (in_owned owners entries pid k r owned.1 mine.1)
  where
    here : (b : Bool) → eqb e.region.0 r ≡ b → eqb e.owner.0 k ≡ true → (b || is_region_in r (regions_in (owned_by k entries))) ≡ true → (is_region_in r (regions_in (owned_by k entries)) ≡ true → owner_of owners pid r ≡ Some (record { 0 = k })) → owner_of owners pid r ≡ Some (record { 0 = k })
    here true same is_k in_ rest = (λ i. owner_of owners (sym mine.0 i) (sym (eqb-true e.region.0 r same) i)) ∙ owned.0 ∙ ap (λ (m : ℕ). Some (record { 0 = m })) (eqb-true e.owner.0 k is_k)
    here false same is_k in_ rest = rest in_

    by : (b : Bool) → eqb e.owner.0 k ≡ b → is_region_in r (regions_in (cond b (e ∷ owned_by k entries) (owned_by k entries))) ≡ true → (is_region_in r (regions_in (owned_by k entries)) ≡ true → owner_of owners pid r ≡ Some (record { 0 = k })) → owner_of owners pid r ≡ Some (record { 0 = k })
    by true is_k in_ rest = here (eqb e.region.0 r) refl is_k in_ rest
    by false not_k in_ rest = rest in_

or_true : (b c : Bool) → c ≡ true → (b || c) ≡ true
or_true true c e = refl
or_true false c e = e

of_owned : (entries : List HomeEntry) (pid k r : ℕ) (owners : List HomeEntry) → AreOwned owners entries → Listed pid r entries → owner_of owners pid r ≡ Some (record { 0 = k }) → is_region_in r (regions_in (owned_by k entries)) ≡ true
of_owned [] pid k r owners owned listed is = absurd listed
of_owned (e ∷ entries) pid k r owners owned (inl at) is =
    let same : e.owner ≡ record { 0 = k } = same_some e.owner (record { 0 = k }) (sym owned.0 ∙ (λ i. owner_of owners (at.0 i) (at.1 i)) ∙ is) in
    ap (λ (b : Bool). is_region_in r (regions_in (cond b (e ∷ owned_by k entries) (owned_by k entries)))) (eq-eqb e.owner.0 k (ap (λ (m : MemId). m.0) same))
    ∙ ap (λ (b : Bool). b || is_region_in r (regions_in (owned_by k entries))) (eq-eqb e.region.0 r at.1)
of_owned (e ∷ entries) pid k r owners owned (inr more) is = by (eqb e.owner.0 k) (of_owned entries pid k r owners owned.1 more is)
  where
    by : (b : Bool) → is_region_in r (regions_in (owned_by k entries)) ≡ true → is_region_in r (regions_in (cond b (e ∷ owned_by k entries) (owned_by k entries))) ≡ true
    by true rest = or_true (eqb e.region.0 r) (is_region_in r (regions_in (owned_by k entries))) rest
    by false rest = rest

-- they rise
regions_above : (pid k : ℕ) (e : HomeEntry) (entries : List HomeEntry) → e.pid.0 ≡ pid → AllByRecursion (λ (x : HomeEntry). x.pid.0 ≡ pid) entries → IsAbove home_key e entries → Rises home_key entries → AllByRecursion (λ (r : RegionNo). e.region.0 < r.0) (regions_in (owned_by k entries))
regions_above pid k e [] mine same above rise = tt
regions_above pid k e (x ∷ entries) mine same above rise = by (eqb x.owner.0 k) (regions_above pid k e entries mine same.1 (above_rest home_key e x entries above rise.0) rise.1)
  where
    by : (b : Bool) → AllByRecursion (λ (r : RegionNo). e.region.0 < r.0) (regions_in (owned_by k entries)) → AllByRecursion (λ (r : RegionNo). e.region.0 < r.0) (regions_in (cond b (x ∷ owned_by k entries) (owned_by k entries)))
    by true rest = (below_number pid e x mine same.0 above, rest)
    by false rest = rest

owned_regions_rise : (pid k : ℕ) (entries : List HomeEntry) → AllByRecursion (λ (x : HomeEntry). x.pid.0 ≡ pid) entries → Rises home_key entries → RegionsRise (regions_in (owned_by k entries))
owned_regions_rise pid k [] mine rise = tt
owned_regions_rise pid k (e ∷ entries) mine rise = by (eqb e.owner.0 k) (owned_regions_rise pid k entries mine.1 rise.1)
  where
    by : (b : Bool) → RegionsRise (regions_in (owned_by k entries)) → RegionsRise (regions_in (cond b (e ∷ owned_by k entries) (owned_by k entries)))
    by true rest = (regions_above pid k e entries mine.0 mine.1 rise.0 rise.1, rest)
    by false rest = rest

-- each is owned by it, for the parent and for the child
copy_fits : (owners : List HomeEntry) (parent child k : ℕ) (regions : List RegionNo) → ((r : ℕ) → is_region_in r regions ≡ true → (owner_of owners parent r ≡ Some (record { 0 = k })) × (owner_of owners child r ≡ Some (record { 0 = k }))) → CopyFits owners parent child (record { 0 = k }) regions
copy_fits owners parent child k [] each = tt
copy_fits owners parent child k (r ∷ regions) each =
    let first = each r.0 (ap (λ (b : Bool). b || is_region_in r.0 regions) (eq-eqb r.0 r.0 refl)) in
    (first.0, first.1, copy_fits owners parent child k regions (λ q is. each q (or_true (eqb r.0 q) (is_region_in q regions) is)))

child_regions : (child : Pid) (k : ℕ) (entries : List HomeEntry) → regions_in (owned_by k (map (for_child child) entries)) ≡ regions_in (owned_by k entries)
child_regions child k [] = refl
child_regions child k (e ∷ entries) = by (eqb e.owner.0 k) (child_regions child k entries)
  where
    by : (b : Bool) → regions_in (owned_by k (map (for_child child) entries)) ≡ regions_in (owned_by k entries) → regions_in (cond b (for_child child e ∷ owned_by k (map (for_child child) entries)) (owned_by k (map (for_child child) entries))) ≡ regions_in (cond b (e ∷ owned_by k entries) (owned_by k entries))
    by true rest = ap (λ (rs : List RegionNo). e.region ∷ rs) rest
    by false rest = rest

child_pids : (child : Pid) (entries : List HomeEntry) → AllByRecursion (λ (e : HomeEntry). e.pid.0 ≡ child.0) (map (for_child child) entries)
child_pids child [] = tt
child_pids child (e ∷ entries) = (refl, child_pids child entries)

-- ---- the memories that own some

abbrev Least : ℕ → List ℕ → Type 0
Least k whose = AllByRecursion (λ (j : ℕ). k ≤ j) whose

abbrev RiseUp : List ℕ → Type 0
RiseUp [] = Unit {0}
RiseUp (k ∷ whose) = Least (k + 1) whose × RiseUp whose

whose_least : (n k low : ℕ) (entries : List HomeEntry) → low ≤ k → Least low (owners_from n k entries)
whose_least zero k low entries least = tt
whose_least (suc n) k low entries least = by (owns_some k entries) (whose_least n (k + 1) low entries (omega (arith, least)))
  where
    by : (b : Bool) → Least low (owners_from n (k + 1) entries) → Least low (cond b (k ∷ owners_from n (k + 1) entries) (owners_from n (k + 1) entries))
    by true rest = (least, rest)
    by false rest = rest

whose_rise : (n k : ℕ) (entries : List HomeEntry) → RiseUp (owners_from n k entries)
whose_rise zero k entries = tt
whose_rise (suc n) k entries = by (owns_some k entries) (whose_rise n (k + 1) entries)
  where
    by : (b : Bool) → RiseUp (owners_from n (k + 1) entries) → RiseUp (cond b (k ∷ owners_from n (k + 1) entries) (owners_from n (k + 1) entries))
    by true rest = (whose_least n (k + 1) (k + 1) entries (omega arith), rest)
    by false rest = rest

whose_below : (n k m : ℕ) (entries : List HomeEntry) → n + k ≤ m → AllByRecursion (λ (j : ℕ). j < m) (owners_from n k entries)
whose_below zero k m entries most = tt
whose_below (suc n) k m entries most = by (owns_some k entries) (whose_below n (k + 1) m entries (omega (arith, most)))
  where
    by : (b : Bool) → AllByRecursion (λ (j : ℕ). j < m) (owners_from n (k + 1) entries) → AllByRecursion (λ (j : ℕ). j < m) (cond b (k ∷ owners_from n (k + 1) entries) (owners_from n (k + 1) entries))
    by true rest = (omega (arith, most), rest)
    by false rest = rest

whose_has : (n k j : ℕ) (entries : List HomeEntry) → owns_some j entries ≡ true → k ≤ j → j < n + k → is_in j (owners_from n k entries) ≡ true
whose_has zero k j entries owns low high = absurd (omega (arith, low, high))
whose_has (suc n) k j entries owns low high = elim (cases_eq k j) [
  | inl same ↦
      ap (λ (b : Bool). is_in j (cond b (k ∷ owners_from n (k + 1) entries) (owners_from n (k + 1) entries))) (subst (λ (i : ℕ). owns_some i entries ≡ true) (sym same) owns)
      ∙ ap (λ (b : Bool). b || is_in j (owners_from n (k + 1) entries)) (eq-eqb k j same)
  | inr differ ↦ by (owns_some k entries) (whose_has n (k + 1) j entries owns (above differ) (omega (arith, high)))
]
  where
    above : (k ≡ j → ⊥) → k + 1 ≤ j
    above differ = elim (cases_lt k j) [
      | inl less ↦ omega (arith, less)
      | inr more ↦ absurd (differ (omega (arith, low, more)))
    ]

    by : (b : Bool) → is_in j (owners_from n (k + 1) entries) ≡ true → is_in j (cond b (k ∷ owners_from n (k + 1) entries) (owners_from n (k + 1) entries)) ≡ true
    by true rest = or_true (eqb k j) (is_in j (owners_from n (k + 1) entries)) rest
    by false rest = rest

listed_owns : (owners entries : List HomeEntry) (pid r : ℕ) (o : MemId) → AreOwned owners entries → Listed pid r entries → owner_of owners pid r ≡ Some o → owns_some o.0 entries ≡ true
listed_owns owners [] pid r o owned listed is = absurd listed
listed_owns owners (e ∷ entries) pid r o owned (inl at) is =
    let same : e.owner ≡ o = same_some e.owner o (sym owned.0 ∙ (λ i. owner_of owners (at.0 i) (at.1 i)) ∙ is) in
    ap (λ (b : Bool). b || owns_some o.0 entries) (eq-eqb e.owner.0 o.0 (ap (λ (m : MemId). m.0) same))
listed_owns owners (e ∷ entries) pid r o owned (inr more) is = or_true (eqb e.owner.0 o.0) (owns_some o.0 entries) (listed_owns owners entries pid r o owned.1 more is)

-- ---- what is owed

abbrev drained_by : ℕ → List ℕ → List ℕ → List ℕ
drained_by n [] drained = drained
drained_by n (k ∷ whose) drained = drained_by n whose (secondary_of n k ∷ drained)

still_drained : (n j : ℕ) (whose drained : List ℕ) → is_in j drained ≡ true → is_in j (drained_by n whose drained) ≡ true
still_drained n j [] drained is = is
still_drained n j (k ∷ whose) drained is = still_drained n j whose (secondary_of n k ∷ drained) (or_true (eqb (secondary_of n k) j) (is_in j drained) is)

-- of each of them the secondary is drained, and it is there
each_drained : (n m : ℕ) (whose drained : List ℕ) → AllByRecursion (λ (k : ℕ). k < m) whose → AllByRecursion (λ (k : ℕ). (k < m) × (is_in (secondary_of n k) (drained_by n whose drained) ≡ true)) whose
each_drained n m [] drained below = tt
each_drained n m (k ∷ whose) drained below = (
  (below.0, still_drained n (secondary_of n k) whose (secondary_of n k ∷ drained) (ap (λ (b : Bool). b || is_in (secondary_of n k) drained) (eq-eqb (secondary_of n k) (secondary_of n k) refl))),
  each_drained n m whose (secondary_of n k ∷ drained) below.1,
)

later_drains : (n : ℕ) (owners : List HomeEntry) (f : Plain) (whose drained : List ℕ) (rest : List Asking) → 0 < n → AllFit n owners f (drained_by n whose drained) rest → AllFit n owners f drained (all_free (drains_for n whose) ++ rest)
later_drains n owners f [] drained rest some fits = fits
later_drains n owners f (k ∷ whose) drained rest some fits = (tt, mod_below (k + 1) n some, tt, tt, later_drains n owners f whose (secondary_of n k ∷ drained) rest some fits)

told_fit : (n : ℕ) (owners entries : List HomeEntry) (drained : List ℕ) (rest : List Operation) (f : Plain) → AreOwned owners entries → ((g : Plain) → g.page ≡ f.page → AllFit n owners g drained (all_free rest)) → AllFit n owners f drained (all_free (homes_of entries ++ rest))
told_fit n owners [] drained rest f owned fits = fits f refl
told_fit n owners (e ∷ entries) drained rest f owned fits = (tt, tt, owned.0, tt, told_fit n owners entries drained rest (with_home_of e.pid.0 e.region.0 e.owner f) owned.1 fits)

module _ (n : ℕ) (owners owners' : List HomeEntry) (parent child : Pid) (differ : (eqb parent.0 child.0) ≡ false) (differ' : (eqb child.0 parent.0) ≡ false) (entries : List HomeEntry) (owned : AreOwned owners entries) (mine : AllByRecursion (λ (e : HomeEntry). e.pid.0 ≡ parent.0) entries) (rise : Rises home_key entries)
    (grow : (pid region : ℕ) (m : MemId) → owner_of owners pid region ≡ Some m → owner_of owners' pid region ≡ Some m) (child_owned : AreOwned owners' (map (for_child child) entries)) where
  abbrev Bare : Plain → ℕ → Type 0
  Bare g k = (vpn : ℕ) → is_region_in (vpn / 512) (regions_in (owned_by k entries)) ≡ true → g.page child.0 vpn ≡ None

  bare_on : (g : Plain) (k : ℕ) (whose : List ℕ) → Least (k + 1) whose → AllByRecursion (Bare g) whose → AllByRecursion (Bare (with_regions_of parent.0 child.0 (regions_in (owned_by k entries)) g)) whose
  bare_on g k [] least bare = tt
  bare_on g k (j ∷ whose) least bare = (λ vpn is. plain_pages_in parent.0 child.0 differ' (regions_in (owned_by k entries)) g child.0 vpn ∙ by vpn is (eqb child.0 child.0 && is_region_in (vpn / 512) (regions_in (owned_by k entries))) refl, bare_on g k whose least.1 bare.1)
    where
      by : (vpn : ℕ) → is_region_in (vpn / 512) (regions_in (owned_by j entries)) ≡ true → (b : Bool) → (eqb child.0 child.0 && is_region_in (vpn / 512) (regions_in (owned_by k entries))) ≡ b → cond b (g.page parent.0 vpn) (g.page child.0 vpn) ≡ None
      by vpn is false other = bare.0 vpn is
      by vpn is true this =
          let here = both_true (eqb child.0 child.0) (is_region_in (vpn / 512) (regions_in (owned_by k entries))) this in
          let same : ◌≡◌ {A = MemId} (record { 0 = k }) (record { 0 = j }) = same_some _ _ (sym (in_owned owners entries parent.0 k (vpn / 512) owned mine here.1) ∙ in_owned owners entries parent.0 j (vpn / 512) owned mine is) in
          let number : k ≡ j = ap (λ (m : MemId). m.0) same in
          let less = least.0 in
          absurd (omega (arith, less, number))

  copies_fit : (whose drained : List ℕ) (g : Plain) → AllByRecursion (λ (k : ℕ). (k < n) × (is_in (secondary_of n k) drained ≡ true)) whose → RiseUp whose → AllByRecursion (Bare g) whose → AllFit n owners' g drained (all_free (copies_for parent child entries whose))
  copies_fit [] drained g each up bare = tt
  copies_fit (k ∷ whose) drained g each up bare = (
    tt,
    each.0.0,
    ((differ, owned_regions_rise parent.0 k entries mine rise), copy_fits owners' parent.0 child.0 k (regions_in (owned_by k entries)) both_owned, bare.0),
    each.0.1,
    copies_fit whose drained (with_regions_of parent.0 child.0 (regions_in (owned_by k entries)) g) each.1 up.1 (bare_on g k whose up.0 bare.1),
  )
    where
      both_owned : (r : ℕ) → is_region_in r (regions_in (owned_by k entries)) ≡ true → (owner_of owners' parent.0 r ≡ Some (record { 0 = k })) × (owner_of owners' child.0 r ≡ Some (record { 0 = k }))
      both_owned r is = (
        grow parent.0 r (record { 0 = k }) (in_owned owners entries parent.0 k r owned mine is),
        in_owned owners' (map (for_child child) entries) child.0 k r child_owned (child_pids child entries) (ap (λ (rs : List RegionNo). is_region_in r rs) (child_regions child k entries) ∙ is),
      )

-- ---- what they make of the plain map

copied_beside : (parent child : ℕ) (regions : List RegionNo) (f : Plain) → ((with_regions_of parent child regions f).homes ≡ f.homes) × ((with_regions_of parent child regions f).files ≡ f.files)
copied_beside parent child [] f = (refl, refl)
copied_beside parent child (r ∷ regions) f = copied_beside parent child regions (with_region_of parent child r.0 f)

copies_beside : (parent child : Pid) (entries : List HomeEntry) (whose : List ℕ) (g : Plain) → ((effects (copies_for parent child entries whose) g).homes ≡ g.homes) × ((effects (copies_for parent child entries whose) g).files ≡ g.files)
copies_beside parent child entries [] g = (refl, refl)
copies_beside parent child entries (k ∷ whose) g =
    let one = copied_beside parent.0 child.0 (regions_in (owned_by k entries)) g in
    let rest = copies_beside parent child entries whose (with_regions_of parent.0 child.0 (regions_in (owned_by k entries)) g) in
    (rest.0 ∙ one.0, rest.1 ∙ one.1)

-- of areas by region, and of pages by their region
module _ {X : Type 0} (get : Plain → ℕ → ℕ → X) (region_at : ℕ → ℕ) (parent child : Pid) (differ' : (eqb child.0 parent.0) ≡ false) (entries : List HomeEntry)
    (law : (regions : List RegionNo) (f : Plain) (p q : ℕ) → get (with_regions_of parent.0 child.0 regions f) p q ≡ cond (eqb child.0 p && is_region_in (region_at q) regions) (get f parent.0 q) (get f p q)) where
  abbrev next : ℕ → Plain → Plain
  next k g = with_regions_of parent.0 child.0 (regions_in (owned_by k entries)) g

  other_stays : (k : ℕ) (g : Plain) (p q : ℕ) → (eqb child.0 p) ≡ false → get (next k g) p q ≡ get g p q
  other_stays k g p q other = law (regions_in (owned_by k entries)) g p q ∙ ap (λ (b : Bool). cond (b && is_region_in (region_at q) (regions_in (owned_by k entries))) (get g parent.0 q) (get g p q)) other

  others_stay : (whose : List ℕ) (g : Plain) (p q : ℕ) → (eqb child.0 p) ≡ false → get (effects (copies_for parent child entries whose) g) p q ≡ get g p q
  others_stay [] g p q other = refl
  others_stay (k ∷ whose) g p q other = others_stay whose (next k g) p q other ∙ other_stays k g p q other

  copied_keep : (whose : List ℕ) (g : Plain) (q : ℕ) (x : X) → get g parent.0 q ≡ x → get g child.0 q ≡ x → get (effects (copies_for parent child entries whose) g) child.0 q ≡ x
  copied_keep [] g q x from_ is = is
  copied_keep (k ∷ whose) g q x from_ is = copied_keep whose (next k g) q x (other_stays k g parent.0 q differ' ∙ from_)
      (law (regions_in (owned_by k entries)) g child.0 q ∙ by (eqb child.0 child.0 && is_region_in (region_at q) (regions_in (owned_by k entries))))
    where
      by : (b : Bool) → cond b (get g parent.0 q) (get g child.0 q) ≡ x
      by true = from_
      by false = is

  copied_give : (whose : List ℕ) (g : Plain) (j q : ℕ) (x : X) → get g parent.0 q ≡ x → is_in j whose ≡ true → is_region_in (region_at q) (regions_in (owned_by j entries)) ≡ true → get (effects (copies_for parent child entries whose) g) child.0 q ≡ x
  copied_give [] g j q x from_ in_ region = cc in_
  copied_give (k ∷ whose) g j q x from_ in_ region = by (eqb k j) refl in_ (λ more. copied_give whose (next k g) j q x (other_stays k g parent.0 q differ' ∙ from_) more region)
    where
      by : (b : Bool) → eqb k j ≡ b → (b || is_in j whose) ≡ true → (is_in j whose ≡ true → get (effects (copies_for parent child entries whose) (next k g)) child.0 q ≡ x) → get (effects (copies_for parent child entries whose) (next k g)) child.0 q ≡ x
      by false other in_ rest = rest in_
      by true same in_ rest =
          copied_keep whose (next k g) q x (other_stays k g parent.0 q differ' ∙ from_)
          (law (regions_in (owned_by k entries)) g child.0 q
          ∙ (λ i. cond (eq-eqb child.0 child.0 refl i && is_region_in (region_at q) (regions_in (owned_by (eqb-true k j same i) entries))) (get g parent.0 q) (get g child.0 q))
          ∙ ap (λ (b : Bool). cond b (get g parent.0 q) (get g child.0 q)) region
          ∙ from_)

drains_effect : (n : ℕ) (whose : List ℕ) (rest : List Asking) (f : Plain) → effects_of (all_free (drains_for n whose) ++ rest) f ≡ effects_of rest f
drains_effect n [] rest f = refl
drains_effect n (k ∷ whose) rest f = drains_effect n whose rest f

told_effect : (entries : List HomeEntry) (rest : List Operation) (f : Plain) → effects (homes_of entries ++ rest) f ≡ effects rest (with_homes entries f)
told_effect [] rest f = refl
told_effect (e ∷ entries) rest f = told_effect entries rest (with_home_of e.pid.0 e.region.0 e.owner f)

homes_page : (entries : List HomeEntry) (f : Plain) → (with_homes entries f).page ≡ f.page
homes_page [] f = refl
homes_page (e ∷ entries) f = homes_page entries (with_home_of e.pid.0 e.region.0 e.owner f)

not_it : (a b : ℕ) → (a ≡ b → ⊥) → eqb a b ≡ false
not_it a b differ = by (eqb a b) refl
  where
    by : (c : Bool) → eqb a b ≡ c → c ≡ false
    by true e = absurd (differ (eqb-true a b e))
    by false e = refl

-- where no memory owns a region of the parent none is handed on
pub none_come : (n : ℕ) (t : Owned) (f : Plain) (parent child : Pid) → PlainFits n t.owners f → owners_from n 0 (entries_in parent t) ≡ [] → handed_on parent child t.owners ≡ []
none_come n t f parent child fits none = by (entries_in parent t) refl
  where
    by : (es : List HomeEntry) → entries_in parent t ≡ es → handed_on parent child t.owners ≡ []
    by [] e = ap (map (for_child child)) e
    by (x ∷ es) e =
        let at : AreOwned t.owners (x ∷ es) = subst (AreOwned t.owners) e (owned_those (is_of parent.0) t.owners fits.rise) in
        let below : x.owner.0 < n = fits.within x.pid.0 x.region.0 x.owner at.0 in
        let has : is_in x.owner.0 (owners_from n 0 (x ∷ es)) ≡ true = whose_has n 0 x.owner.0 (x ∷ es) (ap (λ (b : Bool). b || owns_some x.owner.0 es) (eq-eqb x.owner.0 x.owner.0 refl)) (omega arith) (omega (arith, below)) in
        let both : false ≡ true = ap (λ (l : List ℕ). is_in x.owner.0 l) (sym none ∙ ap (owners_from n 0) e) ∙ has in
        cc both

module _ (n : ℕ) (t : Owned) (f : Plain) (parent child : Pid) (differ : (eqb parent.0 child.0) ≡ false) (some : 0 < n) (fits : PlainFits n t.owners f) (bare : (region : ℕ) → owner_of t.owners child.0 region ≡ None) where
  abbrev those_entries : List HomeEntry
  those_entries = entries_in parent t

  abbrev new : List HomeEntry
  new = handed_on parent child t.owners

  abbrev whose : List ℕ
  whose = owners_from n 0 (entries_in parent t)

  differ' : (eqb child.0 parent.0) ≡ false
  differ' = not_it child.0 parent.0 (λ same. let both : true ≡ false = sym (eq-eqb parent.0 child.0 (sym same)) ∙ differ in cc both)

  owned : AreOwned t.owners those_entries
  owned = owned_those (is_of parent.0) t.owners fits.rise

  mine : AllByRecursion (λ (e : HomeEntry). e.pid.0 ≡ parent.0) those_entries
  mine = those_of parent.0 t.owners

  rise : Rises home_key those_entries
  rise = those_rise (is_of parent.0) t.owners fits.rise

  adds : Adds n t.owners new
  adds = inherits_add n t f parent child fits bare

  all_bare : (ks : List ℕ) (g : Plain) → g.page ≡ f.page → AllByRecursion (λ (k : ℕ). (vpn : ℕ) → is_region_in (vpn / 512) (regions_in (owned_by k those_entries)) ≡ true → g.page child.0 vpn ≡ None) ks
  all_bare [] g same = tt
  all_bare (k ∷ ks) g same = (λ vpn is. ap (λ (page : ℕ → ℕ → Option (List ℕ)). page child.0 vpn) same ∙ fits.pages child.0 vpn (bare (vpn / 512)), all_bare ks g same)

  rest_fit : (owners' : List HomeEntry) → owners' ≡ put_all home_key new t.owners → AllFit n owners' f (drained_by n whose []) (all_free (homes_of new ++ copies_for parent child those_entries whose))
  rest_fit owners' is = subst (λ (es : List HomeEntry). AllFit n es f (drained_by n whose []) (all_free (homes_of new ++ copies_for parent child those_entries whose))) (sym is)
      (told_fit n (put_all home_key new t.owners) new (drained_by n whose []) (copies_for parent child those_entries whose) f (added_owned n t.owners new adds)
      (λ g same. copies_fit n t.owners (put_all home_key new t.owners) parent child differ differ' those_entries owned mine rise (adds_grow n t.owners new adds) (added_owned n t.owners new adds)
      whose (drained_by n whose []) g (each_drained n n whose [] (whose_below n 0 n those_entries (omega arith))) (whose_rise n 0 those_entries) (all_bare whose g same)))

  first_fit : (ks : List ℕ) → whose ≡ ks → AllFit n t.owners f [] (with_new new (drains_for n ks) ++ all_free (homes_of new ++ copies_for parent child those_entries whose))
  first_fit [] is =
      let none : new ≡ [] = none_come n t f parent child fits is in
      let all = rest_fit t.owners (ap (λ (es : List HomeEntry). put_all home_key es t.owners) (sym none)) in
      subst (λ (ks : List ℕ). AllFit n t.owners f (drained_by n ks []) (all_free (homes_of new ++ copies_for parent child those_entries whose))) is all
  first_fit (k ∷ ks) is = (
    adds,
    mod_below (k + 1) n some,
    tt,
    tt,
    later_drains n (put_all home_key new t.owners) f ks (secondary_of n k ∷ []) (all_free (homes_of new ++ copies_for parent child those_entries whose)) some
        (subst (λ (l : List ℕ). AllFit n (put_all home_key new t.owners) f (drained_by n l []) (all_free (homes_of new ++ copies_for parent child those_entries whose))) is (rest_fit (put_all home_key new t.owners) refl)),
  )

  pub clones_fit : AllFit n t.owners f [] (copies_of n t parent child)
  clones_fit = first_fit whose refl

  abbrev now : Plain
  now = with_homes new f

  first_effect : (ks : List ℕ) (rest : List Asking) → effects_of (with_new new (drains_for n ks) ++ rest) f ≡ effects_of rest f
  first_effect [] rest = refl
  first_effect (k ∷ ks) rest = drains_effect n ks rest f

  module _ {X : Type 0} (get : Plain → ℕ → ℕ → X) (region_at : ℕ → ℕ) (law : (regions : List RegionNo) (g : Plain) (p q : ℕ) → get (with_regions_of parent.0 child.0 regions g) p q ≡ cond (eqb child.0 p && is_region_in (region_at q) regions) (get g parent.0 q) (get g p q))
      (nothing : X) (empty : (pid q : ℕ) → owner_of t.owners pid (region_at q) ≡ None → get now pid q ≡ nothing) where
    child_gets : (q : ℕ) (x : Option MemId) → owner_of t.owners parent.0 (region_at q) ≡ x → get (effects (copies_for parent child those_entries whose) now) child.0 q ≡ get now parent.0 q
    child_gets q None is = copied_keep get region_at parent child differ' those_entries law whose now q (get now parent.0 q) refl (empty child.0 q (bare (region_at q)) ∙ sym (empty parent.0 q is))
    child_gets q (Some o) is =
        let listed : Listed parent.0 (region_at q) those_entries = those_listed t.owners parent.0 (region_at q) o is in
        let below : o.0 < n = fits.within parent.0 (region_at q) o is in
        copied_give get region_at parent child differ' those_entries law whose now o.0 q (get now parent.0 q) refl
        (whose_has n 0 o.0 those_entries (listed_owns t.owners those_entries parent.0 (region_at q) o owned listed is) (omega arith) (omega (arith, below)))
        (of_owned those_entries parent.0 o.0 (region_at q) t.owners owned listed is)

    each_gets : (p q : ℕ) → get (effects (copies_for parent child those_entries whose) now) p q ≡ cond (eqb child.0 p) (get now parent.0 q) (get now p q)
    each_gets p q = elim (cases_eq child.0 p) [
      | inl same ↦ subst (λ (m : ℕ). get (effects (copies_for parent child those_entries whose) now) m q ≡ get now parent.0 q) same (child_gets q (owner_of t.owners parent.0 (region_at q)) refl)
          ∙ ap (λ (b : Bool). cond b (get now parent.0 q) (get now p q)) (sym (eq-eqb child.0 p same))
      | inr other ↦ others_stay get region_at parent child differ' those_entries law whose now p q (not_it child.0 p other)
          ∙ ap (λ (b : Bool). cond b (get now parent.0 q) (get now p q)) (sym (not_it child.0 p other))
    ]

  pub clones_make : effects_of (copies_of n t parent child) f ≡ with_space_of parent child now
  clones_make =
      let beside = copies_beside parent child those_entries whose now in
      let areas : (p q : ℕ) → (effects (copies_for parent child those_entries whose) now).areas p q ≡ cond (eqb child.0 p) (now.areas parent.0 q) (now.areas p q)
      = each_gets (λ g p q. g.areas p q) (λ q. q) (plain_areas_in parent.0 child.0 differ') [] (λ pid q none. ap (λ (a : ℕ → ℕ → List Area). a pid q) (homes_areas new f) ∙ fits.areas pid q none) in
      let pages : (p q : ℕ) → (effects (copies_for parent child those_entries whose) now).page p q ≡ cond (eqb child.0 p) (now.page parent.0 q) (now.page p q)
      = each_gets (λ g p q. g.page p q) (λ q. q / 512) (plain_pages_in parent.0 child.0 differ') None (λ pid q none. ap (λ (a : ℕ → ℕ → Option (List ℕ)). a pid q) (homes_page new f) ∙ fits.pages pid q none) in
      first_effect whose (all_free (homes_of new ++ copies_for parent child those_entries whose))
      ∙ told_effect new (copies_for parent child those_entries whose) f
      ∙ (λ i. record { homes = beside.0 i; areas = λ p q. areas p q i; page = λ p q. pages p q i; files = beside.1 i })
