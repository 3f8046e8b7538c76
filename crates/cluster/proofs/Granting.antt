-- What a caller owes of an operation, and that an operation has somebody to answer it.
use Rattle.std.proofs.Common.{◌≡◌, ◌<◌, ◌/◌, ◌&&◌, ◌||◌, ◌∙◌, [], ◌∷◌, ℕ, Bool, List, None, Some, ap, arith, cond, eqb, false, length, refl, subst, suc, sym, true, zero}
use Rattle.std.proofs.lemmas.Bool.{eqb-true}
use Rattle.std.specs.List.{AllByRecursion}
use Rattle.keyed_list.proofs.Listed.{find-put}
use Rattle.lego_base.specs.Keys.{find, key_at, put, put_all, same_key}
use Rattle.lego_base.specs.declared.ids.MemId.{MemId}
use Rattle.lego_base.specs.declared.ids.RegionNo.{RegionNo}
use Rattle.lego_base.specs.declared.records.HomeEntry.{HomeEntry}
use Rattle.lego_base.specs.declared.records.Patch.{Patch}
use Rattle.lego_msg.proofs.Senders.{same_some}
use Rattle.lego_msg.specs.Granted.{CopyFits, IsClear, IsThere, OpFits, asks_clear, is_region_in}
use Rattle.lego_msg.specs.Maps.{home_key, owner_in, owner_of}
use Rattle.lego_msg.specs.Operations.{each_from, receivers, targets_of}
use Rattle.lego_msg.specs.Places.{is_issuer, secondary_of}
use Rattle.lego_msg.specs.Plain.{Plain}
use Rattle.lego_msg.specs.State.{Mem}
use Rattle.lego_msg.specs.Track.{memory_count}
use Rattle.lego_msg.specs.declared.body.Body.{Body}
use Rattle.lego_msg.specs.declared.operation.Operation.{Operation}
use Rattle.lego_msg.specs.declared.operation.Operation.TheVariants.{AsksAreas, AsksSize, Copies, CutsFile, CutsName, Drains, Drops, Finds, FreesFile, GetsName, Heals, ListsNames, MakesName, Reads, ReadsFile, SetsAreas, SetsHome, Unmaps, Writes, WritesFile}
use Rattle.lego_msg.specs.declared.place.Place.{Place}
use Rattle.lego_rest.specs.Fits.{LogFits}
use Rattle.placement.proofs.Placed.{put_all_rises}
use Rattle.rest_laws.proofs.Bare.{get_below}
use Rattle.rest_laws.proofs.Changed.{in_region}
use Rattle.rest_laws.proofs.Truth.{both_true}
use Rattle.cluster.specs.Logs.{AreDrained, AreEmpty, IsEmptyIn, is_in}
use Rattle.cluster.specs.Sequences.{Adds}
use Rattle.cluster.specs.Standing.{IsGrantedAt, IsGrantedWith, StandsFor}
use Rattle.cluster.specs.Whole.{Whole}

none_clear : (o : Operation) → ((pid vpn : ℕ) → asks_clear o pid vpn ≡ false) → (log : List Patch) → IsClear o log
none_clear o none [] = tt
none_clear o none (p ∷ log) = (none p.pid.0 p.vpn.0, none_clear o none log)

-- an operation that brings no owners, and asks of no log that it is clear
pub granted_plain : (w : Whole) (f : Plain) (by : Place) (o : Operation) → StandsFor w f → is_issuer by ≡ true → IsThere (memory_count w.shape) o → OpFits w.table.owners f o → ((pid vpn : ℕ) → asks_clear o pid vpn ≡ false) → IsGrantedAt w f by o
granted_plain w f by o stands issuer there fits none = record {
  stands = stands;
  granted = record {
    issuer = issuer;
    grow = λ pid region m is. is;
    within = stands.plain.within;
    rise = stands.plain.rise;
    there = there;
    fits = fits;
    clear = λ m s at. none_clear o none s.log;
  };
}

-- ---- an operation that asks logs to be empty, after the drains before it

empty_of : (mems : List Mem) (drained : List ℕ) (k : ℕ) → AreEmpty mems drained → is_in k drained ≡ true → IsEmptyIn mems k
empty_of mems [] k empty is = cc is
empty_of mems (d ∷ drained) k empty is = by (eqb d k) refl is (empty_of mems drained k empty.1)
  where
    by : (b : Bool) → eqb d k ≡ b → (b || is_in k drained) ≡ true → (is_in k drained ≡ true → IsEmptyIn mems k) → IsEmptyIn mems k
    by true same is rest = subst (IsEmptyIn mems) (eqb-true d k same) empty.0
    by false other is rest = rest is

each_clear : (o : Operation) (P : Patch → Type 0) (log : List Patch) → AllByRecursion P log → ((p : Patch) → P p → asks_clear o p.pid.0 p.vpn.0 ≡ true → ⊥) → IsClear o log
each_clear o P [] all never = tt
each_clear o P (p ∷ log) all never = (by (asks_clear o p.pid.0 p.vpn.0) (never p all.0), each_clear o P log all.1 never)
  where
    by : (b : Bool) → (b ≡ true → ⊥) → b ≡ false
    by true not_so = absurd (not_so refl)
    by false not_so = refl

-- new owners leave those that are there
abbrev Grows : List HomeEntry → List HomeEntry → Type 0
Grows before owners = (pid region : ℕ) (m : MemId) → owner_of before pid region ≡ Some m → owner_of owners pid region ≡ Some m

-- patches of what an owner has are in the log of its secondary
module _ (n : ℕ) (before owners : List HomeEntry) (grow : Grows before owners) (o : Operation) (owner : MemId) (asks : (p : Patch) → asks_clear o p.pid.0 p.vpn.0 ≡ true → owner_of owners p.pid.0 (p.vpn.0 / 512) ≡ Some owner) where
  clear_at : (drained : List ℕ) (m : ℕ) (log : List Patch) → is_in (secondary_of n owner.0) drained ≡ true → (is_in m drained ≡ true → log ≡ []) → AllByRecursion (LogFits n before m) log → IsClear o log
  clear_at drained m log known empty fits = by (is_in m drained) refl
    where
      by : (b : Bool) → is_in m drained ≡ b → IsClear o log
      by true is = subst (IsClear o) (sym (empty is)) tt
      by false is = each_clear o (LogFits n before m) log fits (λ p fit asked.
          let same : owner ≡ fit.0 = same_some owner fit.0 (sym (asks p asked) ∙ grow p.pid.0 (p.vpn.0 / 512) fit.0 fit.1) in
          let both : true ≡ false = sym known ∙ ap (λ (x : MemId). is_in (secondary_of n x.0) drained) same ∙ ap (λ (k : ℕ). is_in k drained) fit.2 ∙ is in
          cc both)

copy_owned : (owners : List HomeEntry) (parent child : ℕ) (owner : MemId) (regions : List RegionNo) (q : ℕ) → CopyFits owners parent child owner regions → is_region_in q regions ≡ true → (owner_of owners parent q ≡ Some owner) × (owner_of owners child q ≡ Some owner)
copy_owned owners parent child owner [] q fits is = cc is
copy_owned owners parent child owner (r ∷ regions) q fits is = by (eqb r.0 q) refl is (copy_owned owners parent child owner regions q fits.2)
  where
    by : (b : Bool) → eqb r.0 q ≡ b → (b || is_region_in q regions) ≡ true → (is_region_in q regions ≡ true → (owner_of owners parent q ≡ Some owner) × (owner_of owners child q ≡ Some owner)) → (owner_of owners parent q ≡ Some owner) × (owner_of owners child q ≡ Some owner)
    by true e is rest = (subst (λ (k : ℕ). owner_of owners parent k ≡ Some owner) (eqb-true r.0 q e) fits.0, subst (λ (k : ℕ). owner_of owners child k ≡ Some owner) (eqb-true r.0 q e) fits.1)
    by false e is rest = rest is

copied_owner : (owners : List HomeEntry) (parent child pid q : ℕ) (owner : MemId) (regions : List RegionNo) → CopyFits owners parent child owner regions → ((eqb parent pid || eqb child pid) && is_region_in q regions) ≡ true → owner_of owners pid q ≡ Some owner
copied_owner owners parent child pid q owner regions fits is = by (eqb parent pid) refl (both_true (eqb parent pid || eqb child pid) (is_region_in q regions) is)
  where
    by : (b : Bool) → eqb parent pid ≡ b → ((b || eqb child pid) ≡ true) × (is_region_in q regions ≡ true) → owner_of owners pid q ≡ Some owner
    by true e both = subst (λ (p : ℕ). owner_of owners p q ≡ Some owner) (eqb-true parent pid e) (copy_owned owners parent child owner regions q fits both.1).0
    by false e both = subst (λ (p : ℕ). owner_of owners p q ≡ Some owner) (eqb-true child pid both.0) (copy_owned owners parent child owner regions q fits both.1).1

clear_drained : (n : ℕ) (before owners : List HomeEntry) (grow : Grows before owners) (f : Plain) (o : Operation) (drained : List ℕ) (m : ℕ) (log : List Patch) → OpFits owners f o → AreDrained n drained o → m < n → (is_in m drained ≡ true → log ≡ []) → AllByRecursion (LogFits n before m) log → IsClear o log
clear_drained n before owners grow f (Unmaps pid region first pages areas owner) drained m log fits known below empty all =
    clear_at n before owners grow (Unmaps pid region first pages areas owner) owner
    (λ p asked. let is = in_region pid.0 region.0 first.0 pages p.pid.0 p.vpn.0 fits.within.0 fits.within.1 asked in
    subst (λ (k : ℕ × ℕ). owner_of owners k.0 k.1 ≡ Some owner) (λ i. (sym is.0 i, sym is.1 i)) fits.owned)
    drained m log known empty all
clear_drained n before owners grow f (Copies parent child regions owner) drained m log fits known below empty all =
    clear_at n before owners grow (Copies parent child regions owner) owner
    (λ p asked. copied_owner owners parent.0 child.0 p.pid.0 (p.vpn.0 / 512) owner regions fits.1 asked)
    drained m log known empty all
clear_drained n before owners grow f (Drops pid) drained m log fits known below empty all = subst (IsClear (Drops pid)) (sym (empty (known m below))) tt
clear_drained n before owners grow f (Finds pid region) drained m log fits known below empty all = none_clear (Finds pid region) (λ p vpn. refl) log
clear_drained n before owners grow f (Reads pid line owner) drained m log fits known below empty all = none_clear (Reads pid line owner) (λ p vpn. refl) log
clear_drained n before owners grow f (Writes origin patch owner) drained m log fits known below empty all = none_clear (Writes origin patch owner) (λ p vpn. refl) log
clear_drained n before owners grow f (SetsHome pid region owner) drained m log fits known below empty all = none_clear (SetsHome pid region owner) (λ p vpn. refl) log
clear_drained n before owners grow f (SetsAreas pid region areas owner) drained m log fits known below empty all = none_clear (SetsAreas pid region areas owner) (λ p vpn. refl) log
clear_drained n before owners grow f (AsksAreas pid region owner) drained m log fits known below empty all = none_clear (AsksAreas pid region owner) (λ p vpn. refl) log
clear_drained n before owners grow f (Drains k) drained m log fits known below empty all = none_clear (Drains k) (λ p vpn. refl) log
clear_drained n before owners grow f (ReadsFile file block off len) drained m log fits known below empty all = none_clear (ReadsFile file block off len) (λ p vpn. refl) log
clear_drained n before owners grow f (WritesFile file block off bytes) drained m log fits known below empty all = none_clear (WritesFile file block off bytes) (λ p vpn. refl) log
clear_drained n before owners grow f (CutsFile file size) drained m log fits known below empty all = none_clear (CutsFile file size) (λ p vpn. refl) log
clear_drained n before owners grow f (AsksSize file) drained m log fits known below empty all = none_clear (AsksSize file) (λ p vpn. refl) log
clear_drained n before owners grow f (GetsName name) drained m log fits known below empty all = none_clear (GetsName name) (λ p vpn. refl) log
clear_drained n before owners grow f (MakesName name) drained m log fits known below empty all = none_clear (MakesName name) (λ p vpn. refl) log
clear_drained n before owners grow f (CutsName name) drained m log fits known below empty all = none_clear (CutsName name) (λ p vpn. refl) log
clear_drained n before owners grow f ListsNames drained m log fits known below empty all = none_clear ListsNames (λ p vpn. refl) log
clear_drained n before owners grow f (FreesFile file) drained m log fits known below empty all = none_clear (FreesFile file) (λ p vpn. refl) log
clear_drained n before owners grow f (Heals to what) drained m log fits known below empty all = absurd fits

-- ---- owners that come are of regions that have none

same_at : (e : HomeEntry) (pid region : ℕ) → same_key (home_key e) (key_at pid region) ≡ true → (e.pid.0 ≡ pid) × (e.region.0 ≡ region)
same_at e pid region is = let both = both_true (eqb e.pid.0 pid) (eqb e.region.0 region) is in (eqb-true e.pid.0 pid both.0, eqb-true e.region.0 region both.1)

put_grows : (n : ℕ) (owners : List HomeEntry) (e : HomeEntry) → owner_of owners e.pid.0 e.region.0 ≡ None → Grows owners (put home_key e owners)
put_grows n owners e none pid region m is = by (same_key (home_key e) (key_at pid region)) refl (find-put home_key e owners (key_at pid region))
  where
    by : (b : Bool) → same_key (home_key e) (key_at pid region) ≡ b → find home_key (key_at pid region) (put home_key e owners) ≡ cond b (Some e) (find home_key (key_at pid region) owners) → owner_of (put home_key e owners) pid region ≡ Some m
    by false other found = ap owner_in found ∙ is
    by true same found =
        let at = same_at e pid region same in
        let both : None ≡ Some m = sym none ∙ (λ i. owner_of owners (at.0 i) (at.1 i)) ∙ is in
        cc both

put_within : (n : ℕ) (owners : List HomeEntry) (e : HomeEntry) → e.owner.0 < n → ((pid region : ℕ) (m : MemId) → owner_of owners pid region ≡ Some m → m.0 < n) → (pid region : ℕ) (m : MemId) → owner_of (put home_key e owners) pid region ≡ Some m → m.0 < n
put_within n owners e below within pid region m is = by (same_key (home_key e) (key_at pid region)) (find-put home_key e owners (key_at pid region))
  where
    by : (b : Bool) → find home_key (key_at pid region) (put home_key e owners) ≡ cond b (Some e) (find home_key (key_at pid region) owners) → m.0 < n
    by false found = within pid region m (sym (ap owner_in found) ∙ is)
    by true found = subst (λ (x : MemId). x.0 < n) (same_some e.owner m (sym (ap owner_in found) ∙ is)) below

pub adds_grow : (n : ℕ) (owners new : List HomeEntry) → Adds n owners new → Grows owners (put_all home_key new owners)
adds_grow n owners [] adds pid region m is = is
adds_grow n owners (e ∷ new) adds pid region m is = adds_grow n (put home_key e owners) new adds.2 pid region m (put_grows n owners e adds.0 pid region m is)

pub adds_within : (n : ℕ) (owners new : List HomeEntry) → Adds n owners new → ((pid region : ℕ) (m : MemId) → owner_of owners pid region ≡ Some m → m.0 < n) → (pid region : ℕ) (m : MemId) → owner_of (put_all home_key new owners) pid region ≡ Some m → m.0 < n
adds_within n owners [] adds within = within
adds_within n owners (e ∷ new) adds within = adds_within n (put home_key e owners) new adds.2 (put_within n owners e adds.1 within)

pub granted_new : (new : List HomeEntry) (w : Whole) (f : Plain) (by : Place) (o : Operation) → StandsFor w f → is_issuer by ≡ true → Adds (memory_count w.shape) w.table.owners new → IsThere (memory_count w.shape) o → OpFits (put_all home_key new w.table.owners) f o →
    (drained : List ℕ) → AreEmpty w.mems drained → AreDrained (memory_count w.shape) drained o → IsGrantedWith new w f by o
granted_new new w f by o stands issuer adds there fits drained empty known = record {
  stands = stands;
  granted = record {
    issuer = issuer;
    grow = adds_grow (memory_count w.shape) w.table.owners new adds;
    within = adds_within (memory_count w.shape) w.table.owners new adds stands.plain.within;
    rise = put_all_rises new w.table.owners stands.plain.rise;
    there = there;
    fits = fits;
    clear = λ m s at.
        let inside = get_below w.mems m s at in
        let count = stands.count in
        let below : m < memory_count w.shape = omega (arith, inside, count) in
        clear_drained (memory_count w.shape) w.table.owners (put_all home_key new w.table.owners) (adds_grow (memory_count w.shape) w.table.owners new adds) f o drained m s.log fits known below
        (λ is. empty_of w.mems drained m empty is s at) (stands.memories m s at).log;
  };
}

some_each : (n number : ℕ) (body last : Body) → 0 < length (receivers (each_from n number body last))
some_each zero number body last = omega arith
some_each (suc n) number body last = omega arith

-- it asks somebody
pub some_targets : (n : ℕ) (o : Operation) → 0 < length (targets_of n o)
some_targets n (Finds pid region) = omega arith
some_targets n (Reads pid line owner) = omega arith
some_targets n (Writes origin patch owner) = omega arith
some_targets n (SetsHome pid region owner) = omega arith
some_targets n (SetsAreas pid region areas owner) = omega arith
some_targets n (AsksAreas pid region owner) = omega arith
some_targets n (Drains m) = omega arith
some_targets n (Unmaps pid region first pages areas owner) = omega arith
some_targets n (Copies parent child regions owner) = omega arith
some_targets n (Drops pid) = some_each n 0 _ _
some_targets n (ReadsFile file block off len) = omega arith
some_targets n (WritesFile file block off bytes) = omega arith
some_targets n (CutsFile file size) = omega arith
some_targets n (AsksSize file) = omega arith
some_targets n (GetsName name) = omega arith
some_targets n (MakesName name) = omega arith
some_targets n (CutsName name) = omega arith
some_targets n ListsNames = omega arith
some_targets n (FreesFile file) = omega arith
some_targets n (Heals to what) = omega arith
