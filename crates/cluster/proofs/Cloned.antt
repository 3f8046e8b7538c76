-- The copy of a space, from the owners of the child to the last copy.
use Rattle.std.proofs.Common.{◌≡◌, ◌<◌, ◌+◌, ◌-◌, ◌∙◌, [], ◌∷◌, ◌++◌, ℕ, Bool, List, None, ap, append_assoc, arith, cond, drop, eqb, false, get_or, length, map, refl, subst, suc, sym, true}
use Rattle.lego_base.specs.Keys.{put_all}
use Rattle.lego_base.specs.declared.ids.Pid.{Pid}
use Rattle.lego_base.specs.declared.records.HomeEntry.{HomeEntry}
use Rattle.lego_msg.specs.Maps.{home_key, owner_of}
use Rattle.lego_msg.specs.Places.{is_issuer, secondary_of}
use Rattle.lego_msg.specs.Plain.{Plain}
use Rattle.lego_msg.specs.Track.{Caches, memory_count}
use Rattle.lego_msg.specs.declared.operation.Operation.{Operation}
use Rattle.lego_msg.specs.declared.operation.Operation.TheVariants.{Drains}
use Rattle.lego_msg.specs.declared.place.Place.{Place}
use Rattle.lego_rest.specs.Fits.{PlainFits}
use Rattle.placement.specs.Owners.{Owned, for_child, handed_on, inherited}
use Rattle.protocol_engine.specs.Beyond.{nothing_cached}
use Rattle.cluster.proofs.Cloning.{clones_fit, clones_make, none_come}
use Rattle.cluster.proofs.Following.{all_free-append}
use Rattle.cluster.specs.Copying.{HasInherited, MayDrainFirst, copies_at, copies_for, copies_of, drains_for, first_drained, owners_from, owns_some, with_space_of}
use Rattle.cluster.specs.Mapping.{entries_in, homes_of, with_homes}
use Rattle.cluster.specs.Sequences.{AllGranted, Asking, CachesFit, MayAskEach, ReadNoLine, all_free, brought, effects_of, owners_after_all, with_new}
use Rattle.cluster.specs.Standing.{Brings, StandsFor}
use Rattle.cluster.specs.Whole.{Whole}

-- ---- the memories that own some, made from the front

owner_next : (all done : ℕ) → done < all → all - done ≡ suc (all - (done + 1))
owner_next all done less = omega (arith, less)

pub owner_pushed : (entries : List HomeEntry) (all done : ℕ) (sent now whole : List ℕ) → done < all → owns_some done entries ≡ true → sent ++ owners_from (all - done) done entries ≡ whole → now ≡ sent ++ done ∷ [] → now ++ owners_from (all - (done + 1)) (done + 1) entries ≡ whole
owner_pushed entries all done sent now whole less owns so is =
    let rest : List ℕ = owners_from (all - (done + 1)) (done + 1) entries in
    ap (λ (l : List ℕ). l ++ rest) is ∙ append_assoc sent (done ∷ []) rest
    ∙ ap (λ (b : Bool). sent ++ cond b (done ∷ rest) rest) (sym owns)
    ∙ ap (λ (n : ℕ). sent ++ owners_from n done entries) (sym (owner_next all done less)) ∙ so

pub owner_passed : (entries : List HomeEntry) (all done : ℕ) (sent now whole : List ℕ) → done < all → owns_some done entries ≡ false → sent ++ owners_from (all - done) done entries ≡ whole → now ≡ sent → now ++ owners_from (all - (done + 1)) (done + 1) entries ≡ whole
owner_passed entries all done sent now whole less owns so is =
    let rest : List ℕ = owners_from (all - (done + 1)) (done + 1) entries in
    ap (λ (l : List ℕ). l ++ rest) is
    ∙ ap (λ (b : Bool). sent ++ cond b (done ∷ rest) rest) (sym owns)
    ∙ ap (λ (n : ℕ). sent ++ owners_from n done entries) (sym (owner_next all done less)) ∙ so

-- ---- the list that is played is the one that is called for

pub first_is : (n : ℕ) (new : List HomeEntry) (whose : List ℕ) (rest : List Operation) → first_drained new n whose (drains_for n (drop 1 whose) ++ rest) ≡ with_new new (drains_for n whose) ++ all_free rest
first_is n new [] rest = refl
first_is n new (x ∷ whose) rest = ap (λ (l : List Asking). record { operation = Drains (record { 0 = secondary_of n x }); owners = new } ∷ l) (all_free-append (drains_for n whose) rest)

pub first_some : (n : ℕ) (new : List HomeEntry) (whose : List ℕ) (rest : List Operation) (first : Operation) (else_ : ℕ) → 0 < length whose → first ≡ Drains (record { 0 = secondary_of n (get_or whose 0 else_) }) → brought new first rest ≡ first_drained new n whose rest
first_some n new [] rest first else_ some is = absurd (omega (arith, some))
first_some n new (x ∷ whose) rest first else_ some is = ap (λ (o : Operation). brought new o rest) is

pub first_none : (n : ℕ) (new : List HomeEntry) (whose : List ℕ) (rest : List Operation) → whose ≡ [] → all_free rest ≡ first_drained new n whose rest
first_none n new whose rest none = ap (λ (l : List ℕ). first_drained new n l rest) (sym none)

drains_lines : (n : ℕ) (whose : List ℕ) (rest : List Operation) → ReadNoLine rest → ReadNoLine (drains_for n whose ++ rest)
drains_lines n [] rest lines = lines
drains_lines n (k ∷ whose) rest lines = (tt, drains_lines n whose rest lines)

homes_lines : (entries : List HomeEntry) (rest : List Operation) → ReadNoLine rest → ReadNoLine (homes_of entries ++ rest)
homes_lines [] rest lines = lines
homes_lines (e ∷ entries) rest lines = (tt, homes_lines entries rest lines)

copies_lines : (parent child : Pid) (entries : List HomeEntry) (whose : List ℕ) → ReadNoLine (copies_for parent child entries whose)
copies_lines parent child entries [] = tt
copies_lines parent child entries (k ∷ whose) = (tt, copies_lines parent child entries whose)

pub after_lines : (n : ℕ) (whose : List ℕ) (new : List HomeEntry) (parent child : Pid) (entries : List HomeEntry) (owners : List ℕ) → ReadNoLine (drains_for n whose ++ (homes_of new ++ copies_for parent child entries owners))
after_lines n whose new parent child entries owners = drains_lines n whose (homes_of new ++ copies_for parent child entries owners) (homes_lines new (copies_for parent child entries owners) (copies_lines parent child entries owners))

-- ---- the table with the child's owners

pub inherited_brings : (c w : Whole) (parent child : Pid) (entries : List HomeEntry) → HasInherited c w parent child entries → Brings (handed_on parent child c.table.owners) c w
inherited_brings c w parent child entries inherits = record {
  same = inherits.same ∙ (λ i. record c { table = ap (λ (x : Whole). x.table) (sym inherits.same) i });
  owned = ap (λ (x : Whole). x.table.owners) (sym inherits.same);
}

pub inherited_none : (c w : Whole) (parent child : Pid) (entries : List HomeEntry) → HasInherited c w parent child entries → handed_on parent child c.table.owners ≡ [] → w ≡ c
inherited_none c w parent child entries inherits none = inherits.same ∙ (λ i. record c { table = record c.table { owners = put_all home_key (none i) c.table.owners } })

-- ---- what is owed of them, and the owners after them

drains_cached : (n : ℕ) (whose : List ℕ) (rest : List Asking) (by : Place) (caches : Caches) → ((k : Caches) → CachesFit k by rest) → CachesFit caches by (all_free (drains_for n whose) ++ rest)
drains_cached n [] rest by caches fits = fits caches
drains_cached n (k ∷ whose) rest by caches fits = (tt, drains_cached n whose rest by (record caches { filled = None }) fits)

first_cached : (n : ℕ) (new : List HomeEntry) (whose : List ℕ) (rest : List Asking) (by : Place) (caches : Caches) → ((k : Caches) → CachesFit k by rest) → CachesFit caches by (with_new new (drains_for n whose) ++ rest)
first_cached n new [] rest by caches fits = fits caches
first_cached n new (k ∷ whose) rest by caches fits = (tt, drains_cached n whose rest by (record caches { filled = None }) fits)

copies_cached : (parent child : Pid) (entries : List HomeEntry) (whose : List ℕ) (by : Place) (caches : Caches) → CachesFit caches by (all_free (copies_for parent child entries whose))
copies_cached parent child entries [] by caches = tt
copies_cached parent child entries (k ∷ whose) by caches = (tt, copies_cached parent child entries whose by (record caches { filled = None }))

homes_cached : (homes : List HomeEntry) (rest : List Operation) (by : Place) (caches : Caches) → ((k : Caches) → CachesFit k by (all_free rest)) → CachesFit caches by (all_free (homes_of homes ++ rest))
homes_cached [] rest by caches fits = fits caches
homes_cached (e ∷ homes) rest by caches fits = (tt, homes_cached homes rest by (record caches { filled = None }) fits)

drains_owned : (n : ℕ) (whose : List ℕ) (rest : List Asking) (owners : List HomeEntry) → owners_after_all (all_free (drains_for n whose) ++ rest) owners ≡ owners_after_all rest owners
drains_owned n [] rest owners = refl
drains_owned n (k ∷ whose) rest owners = drains_owned n whose rest owners

homes_owned : (homes : List HomeEntry) (rest : List Operation) (owners : List HomeEntry) → owners_after_all (all_free (homes_of homes ++ rest)) owners ≡ owners_after_all (all_free rest) owners
homes_owned [] rest owners = refl
homes_owned (e ∷ homes) rest owners = homes_owned homes rest owners

copies_owned : (parent child : Pid) (entries : List HomeEntry) (whose : List ℕ) (owners : List HomeEntry) → owners_after_all (all_free (copies_for parent child entries whose)) owners ≡ owners
copies_owned parent child entries [] owners = refl
copies_owned parent child entries (k ∷ whose) owners = copies_owned parent child entries whose owners

first_owned : (n : ℕ) (new : List HomeEntry) (whose : List ℕ) (rest : List Asking) (owners : List HomeEntry) → (whose ≡ [] → new ≡ []) → owners_after_all (with_new new (drains_for n whose) ++ rest) owners ≡ owners_after_all rest (put_all home_key new owners)
first_owned n new [] rest owners none = ap (λ (es : List HomeEntry). owners_after_all rest (put_all home_key es owners)) (sym (none refl))
first_owned n new (k ∷ whose) rest owners none = drains_owned n whose rest (put_all home_key new owners)

pub clones_owned : (n : ℕ) (t : Owned) (f : Plain) (parent child : Pid) → PlainFits n t.owners f → owners_after_all (copies_of n t parent child) t.owners ≡ (inherited parent child t).owners
clones_owned n t f parent child fits =
    let new = handed_on parent child t.owners in
    let whose = owners_from n 0 (entries_in parent t) in
    let copies = copies_for parent child (entries_in parent t) whose in
    first_owned n new whose (all_free (homes_of new ++ copies)) t.owners (none_come n t f parent child fits)
    ∙ homes_owned new copies (put_all home_key new t.owners)
    ∙ copies_owned parent child (entries_in parent t) whose (put_all home_key new t.owners)

pub clones_granted : (c : Whole) (f : Plain) (by : Place) (parent child : Pid) → is_issuer by ≡ true → eqb parent.0 child.0 ≡ false → ((region : ℕ) → owner_of c.table.owners child.0 region ≡ None) → StandsFor c f → AllGranted c f by (copies_at c parent child)
clones_granted c f by parent child issuer differ bare stands =
    let two = stands.machine.two in record {
      stands = stands;
      issuer = issuer;
      drained = [];
      empty = tt;
      fit = clones_fit (memory_count c.shape) c.table f parent child differ (omega (arith, two)) stands.plain bare;
    }

pub may_clone : (c : Whole) (f : Plain) (by : Place) (parent child : Pid) → AllGranted c f by (copies_at c parent child) → MayAskEach c by (copies_at c parent child)
may_clone c f by parent child granted =
    let n = memory_count c.shape in
    let new = handed_on parent child c.table.owners in
    let whose = owners_from n 0 (entries_in parent c.table) in
    let copies = copies_for parent child (entries_in parent c.table) whose in record {
      plain = f;
      caches = nothing_cached;
      granted = granted;
      fits = first_cached n new whose (all_free (homes_of new ++ copies)) by nothing_cached (λ k. homes_cached new copies by k (λ k'. copies_cached parent child (entries_in parent c.table) whose by k'));
    }

-- what is played is what is called for
module _ (c w : Whole) (parent child : Pid) (entries : List HomeEntry) (inherits : HasInherited c w parent child entries) (whose : List ℕ) (from_ : whose ≡ owners_from (memory_count c.shape) 0 entries) (rest : List Operation)
    (is : rest ≡ drains_for (memory_count c.shape) (drop 1 whose) ++ (homes_of (map (for_child child) entries) ++ copies_for parent child entries whose)) where
  pub as_called : first_drained (handed_on parent child c.table.owners) (memory_count c.shape) whose rest ≡ copies_at c parent child
  as_called =
      let n : ℕ = memory_count c.shape in
      let list : whose ≡ owners_from n 0 (entries_in parent c.table) = from_ ∙ ap (owners_from n 0) inherits.entries in
      ap (first_drained (handed_on parent child c.table.owners) n whose) is
      ∙ first_is n (handed_on parent child c.table.owners) whose (homes_of (map (for_child child) entries) ++ copies_for parent child entries whose)
      ∙ (λ i. with_new (handed_on parent child c.table.owners) (drains_for n (list i)) ++ all_free (homes_of (map (for_child child) (inherits.entries i)) ++ copies_for parent child (inherits.entries i) (list i)))

  pub none_same : (f : Plain) → StandsFor c f → whose ≡ [] → w ≡ c
  none_same f stands none = inherited_none c w parent child entries inherits
      (none_come (memory_count c.shape) c.table f parent child stands.plain (sym (from_ ∙ ap (owners_from (memory_count c.shape) 0) inherits.entries) ∙ none))

-- what they make of the plain map
pub cloning_makes : (c : Whole) (f : Plain) (parent child : Pid) → eqb parent.0 child.0 ≡ false → ((region : ℕ) → owner_of c.table.owners child.0 region ≡ None) → StandsFor c f → effects_of (copies_at c parent child) f ≡ with_space_of parent child (with_homes (handed_on parent child c.table.owners) f)
cloning_makes c f parent child differ bare stands =
    let two = stands.machine.two in
    clones_make (memory_count c.shape) c.table f parent child differ (omega (arith, two)) stands.plain bare

-- the same, of a number of memories that is the machine's
module _ (c w : Whole) (by : Place) (parent child : Pid) (entries : List HomeEntry) (inherits : HasInherited c w parent child entries) (memories : ℕ) (whose : List ℕ) (rest : List Operation) (count : memories ≡ memory_count w.shape) (from_ : whose ≡ owners_from memories 0 entries)
    (is : rest ≡ drains_for memories (drop 1 whose) ++ (homes_of (map (for_child child) entries) ++ copies_for parent child entries whose)) where
  n_is : memories ≡ memory_count c.shape
  n_is = count ∙ ap (λ (x : Whole). memory_count x.shape) inherits.same

  whose_is : whose ≡ owners_from (memory_count c.shape) 0 entries
  whose_is = from_ ∙ ap (λ (n : ℕ). owners_from n 0 entries) n_is

  rest_is : rest ≡ drains_for (memory_count c.shape) (drop 1 whose) ++ (homes_of (map (for_child child) entries) ++ copies_for parent child entries whose)
  rest_is = is ∙ ap (λ (n : ℕ). drains_for n (drop 1 whose) ++ (homes_of (map (for_child child) entries) ++ copies_for parent child entries whose)) n_is

  pub played : first_drained (handed_on parent child c.table.owners) memories whose rest ≡ copies_at c parent child
  played = ap (λ (n : ℕ). first_drained (handed_on parent child c.table.owners) n whose rest) n_is ∙ as_called c w parent child entries inherits whose whose_is rest rest_is

  pub same_where_none : MayAskEach c by (copies_at c parent child) → whose ≡ [] → w ≡ c
  same_where_none may none = none_same c w parent child entries inherits whose whose_is rest rest_is may.plain may.granted.stands none

  pub may_drain : MayAskEach c by (copies_at c parent child) → MayDrainFirst w by memories whose rest
  may_drain may = record {
    new = handed_on parent child c.table.owners;
    before = c;
    brings = inherited_brings c w parent child entries inherits;
    same = same_where_none may;
    may = subst (MayAskEach c by) (sym played) may;
  }

pub some_memories : (c w : Whole) (by : Place) (parent child : Pid) (entries : List HomeEntry) → HasInherited c w parent child entries → MayAskEach c by (copies_at c parent child) → 0 < memory_count w.shape
some_memories c w by parent child entries inherits may =
    let two = may.granted.stands.machine.two in
    subst (λ (n : ℕ). 0 < n) (ap (λ (x : Whole). memory_count x.shape) (sym inherits.same)) (omega (arith, two))
