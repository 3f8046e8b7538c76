-- A mapping, from its askings to the last list that is set.
use Rattle.std.proofs.Common.{◌≡◌, ◌<◌, ◌∙◌, [], ◌∷◌, ◌++◌, ℕ, Bool, List, None, Option, ap, arith, cond, drop, eqb, get_or, length, refl, subst, sym, false, true}
use Rattle.std.proofs.lemmas.Bool.{eqb-true}
use Rattle.std.specs.List.{AllByRecursion}
use Rattle.area_list.specs.Runs.{IsCanonical}
use Rattle.lego_base.specs.Keys.{Rises, is_of, put_all}
use Rattle.lego_base.specs.declared.ids.MemId.{MemId}
use Rattle.lego_base.specs.declared.ids.Pid.{Pid}
use Rattle.lego_base.specs.declared.records.Area.{Area}
use Rattle.lego_base.specs.declared.records.HomeEntry.{HomeEntry}
use Rattle.lego_base.specs.declared.shape.Shape.{Shape}
use Rattle.lego_msg.specs.Maps.{home_key}
use Rattle.lego_msg.specs.Places.{is_issuer}
use Rattle.lego_msg.specs.Plain.{Plain}
use Rattle.lego_msg.specs.Track.{Caches, memory_count}
use Rattle.lego_msg.specs.declared.event.Event.{Event}
use Rattle.lego_msg.specs.declared.operation.Operation.{Operation}
use Rattle.lego_msg.specs.declared.operation.Operation.TheVariants.{SetsAreas}
use Rattle.lego_msg.specs.declared.place.Place.{Place}
use Rattle.placement.proofs.Mapping.{mapped-none}
use Rattle.placement.proofs.Placed.{put_all_rises}
use Rattle.placement.specs.Owners.{Assigns, Drops, Inherits, Owned, Placing, placed, placed_all}
use Rattle.protocol_engine.specs.Beyond.{Beyond, nothing_cached}
use Rattle.cluster.proofs.Following.{all_free-append}
use Rattle.cluster.proofs.Newcomers.{adds_met}
use Rattle.cluster.proofs.Regionwise.{asks_fit, owned_those}
use Rattle.cluster.proofs.Settings.{owners_with, tells_fit, tells_make}
use Rattle.cluster.specs.Askings.{areas_among, asks_of}
use Rattle.cluster.specs.Mapping.{Covers, IsPlaced, entries_in, homes_of, new_of, part_in, regions_from, same_areas, listed_in, sets_areas, sets_home, table_with, tells_of, with_all_areas_of, with_homes}
use Rattle.cluster.specs.Sequences.{AllGranted, Asking, CachesFit, MayAskEach, ReadNoLine, ServesEach, all_free, brought, effects, effects_of, owners_after_all, with_new}
use Rattle.cluster.specs.Standing.{Brings, StandsFor}
use Rattle.cluster.specs.Whole.{SameTurns, Whole}

-- ---- the list that is played is the one that is called for

pub none_new : (new : List HomeEntry) (sets : List Operation) → new ≡ [] → all_free (homes_of (drop 1 new) ++ sets) ≡ with_new new (homes_of new) ++ all_free sets
none_new [] sets is = refl
none_new (e ∷ new) sets is = cc is

pub some_new : (new : List HomeEntry) (sets : List Operation) (e else_ : HomeEntry) → 0 < length new → get_or new 0 else_ ≡ e → brought new (sets_home e) (homes_of (drop 1 new) ++ sets) ≡ with_new new (homes_of new) ++ all_free sets
some_new [] sets e else_ some is = absurd (omega (arith, some))
some_new (x ∷ new) sets e else_ some is =
    (λ i. record { operation = sets_home (sym is i); owners = x ∷ new } ∷ all_free (homes_of new ++ sets))
    ∙ ap (λ (l : List Asking). record { operation = sets_home x; owners = x ∷ new } ∷ l) (all_free-append (homes_of new) sets)

pub empty_is : {X : Type 0} (xs : List X) → true ≡ eqb (length xs) 0 → xs ≡ []
empty_is [] is = refl
empty_is (x ∷ xs) is = let zero_ = eqb-true (length (x ∷ xs)) 0 (sym is) in absurd (omega (arith, zero_))

pub some_is : {X : Type 0} (xs : List X) → false ≡ eqb (length xs) 0 → 0 < length xs
some_is [] is = cc is
some_is (x ∷ xs) is = omega arith

module _ (c w : Whole) (pid : Pid) (want : List Area) (new : List HomeEntry) (old : List Area) (placed : IsPlaced c w pid want new) (rest : List Operation) (is : rest ≡ homes_of (drop 1 new) ++ sets_areas old want (entries_in pid w.table)) where
  as_called : with_new new (homes_of new) ++ all_free (sets_areas old want (entries_in pid w.table)) ≡ tells_of c.table old pid want
  as_called = λ i. with_new (placed.entries i) (homes_of (placed.entries i)) ++ all_free (sets_areas old want (entries_in pid (placed.same i).table))

  pub none_tells : new ≡ [] → all_free rest ≡ tells_of c.table old pid want
  none_tells none = ap all_free is ∙ none_new new (sets_areas old want (entries_in pid w.table)) none ∙ as_called

  pub some_tells : (first : Operation) (else_ : HomeEntry) → 0 < length new → first ≡ sets_home (get_or new 0 else_) → brought new first rest ≡ tells_of c.table old pid want
  some_tells first else_ some at = (λ i. brought new (at i) (is i)) ∙ some_new new (sets_areas old want (entries_in pid w.table)) (get_or new 0 else_) else_ some refl ∙ as_called

homes_lines : (entries : List HomeEntry) (sets : List Operation) → ReadNoLine sets → ReadNoLine (homes_of entries ++ sets)
homes_lines [] sets lines = lines
homes_lines (e ∷ entries) sets lines = (tt, homes_lines entries sets lines)

sets_lines : (old want : List Area) (entries : List HomeEntry) → ReadNoLine (sets_areas old want entries)
sets_lines old want [] = tt
sets_lines old want (e ∷ entries) = by (same_areas (listed_in e.region.0 old) (part_in e.region.0 want)) (sets_lines old want entries)
  where
    by : (b : Bool) → ReadNoLine (sets_areas old want entries) → ReadNoLine (cond b [] (SetsAreas e.pid e.region (part_in e.region.0 want) e.owner ∷ []) ++ sets_areas old want entries)
    by true rest = rest
    by false rest = (tt, rest)

pub changes_lines : (new : List HomeEntry) (old want : List Area) (entries : List HomeEntry) → ReadNoLine (homes_of (drop 1 new) ++ sets_areas old want entries)
changes_lines new old want entries = homes_lines (drop 1 new) (sets_areas old want entries) (sets_lines old want entries)

-- ---- the table with the new owners

pub placed_brings : (c w : Whole) (pid : Pid) (want : List Area) (new : List HomeEntry) → IsPlaced c w pid want new → Brings new c w
placed_brings c w pid want new placed = record {
  same = placed.same ∙ (λ i. record c { table = ap (λ (x : Whole). x.table) (sym placed.same) i });
  owned = ap (λ (es : List HomeEntry). put_all home_key es c.table.owners) placed.entries ∙ sym (owners_with c.table pid want) ∙ ap (λ (x : Whole). x.table.owners) (sym placed.same);
}

pub placed_none : (c w : Whole) (pid : Pid) (want : List Area) (new : List HomeEntry) → IsPlaced c w pid want new → new ≡ [] → w ≡ c
placed_none c w pid want new placed none =
    let same : table_with c.table pid want ≡ c.table = sym (mapped-none pid (regions_from 0 want) c.table.owners new c.table placed.entries (ap (λ (es : List HomeEntry). length es) none)) in
    placed.same ∙ (λ i. record c { table = same i })

pub same_table : (a b : Owned) → SameTurns a b → b.owners ≡ a.owners → b ≡ a
same_table a b turns owners = λ i. record { memories = turns.memories i; placement = turns.placement i; given = turns.given i; owners = owners i }

pub same_memories : (placings : List Placing) (t : Owned) → (placed_all placings t).memories ≡ t.memories
same_memories [] t = refl
same_memories (Assigns pid region ∷ placings) t = same_memories placings (placed (Assigns pid region) t)
same_memories (Inherits parent child ∷ placings) t = same_memories placings (placed (Inherits parent child) t)
same_memories (Drops pid ∷ placings) t = same_memories placings (placed (Drops pid) t)

-- ---- what the askings before them leave

pub asks_leave : (entries : List HomeEntry) (f : Plain) → effects (asks_of entries) f ≡ f
asks_leave [] f = refl
asks_leave (e ∷ entries) f = asks_leave entries f

pub asks_keep : (entries owners : List HomeEntry) → owners_after_all (all_free (asks_of entries)) owners ≡ owners
asks_keep [] owners = refl
asks_keep (e ∷ entries) owners = asks_keep entries owners

-- ---- what is owed of them, and the owners after them

homes_cached : (entries : List HomeEntry) (rest : List Asking) (by : Place) (caches : Caches) → ((k : Caches) → CachesFit k by rest) → CachesFit caches by (all_free (homes_of entries) ++ rest)
homes_cached [] rest by caches fits = fits caches
homes_cached (e ∷ entries) rest by caches fits = (tt, homes_cached entries rest by (record caches { filled = None }) fits)

new_cached : (new : List HomeEntry) (rest : List Asking) (by : Place) (caches : Caches) → ((k : Caches) → CachesFit k by rest) → CachesFit caches by (with_new new (homes_of new) ++ rest)
new_cached [] rest by caches fits = fits caches
new_cached (e ∷ new) rest by caches fits = (tt, homes_cached new rest by (record caches { filled = None }) fits)

sets_cached : (old want : List Area) (entries : List HomeEntry) (by : Place) (caches : Caches) → CachesFit caches by (all_free (sets_areas old want entries))
sets_cached old want [] by caches = tt
sets_cached old want (e ∷ entries) by caches = choose (same_areas (listed_in e.region.0 old) (part_in e.region.0 want)) (sets_cached old want entries by caches) (sets_cached old want entries by (record caches { filled = None }))
  where
    choose : (b : Bool) → CachesFit caches by (all_free (sets_areas old want entries)) → CachesFit (record caches { filled = None }) by (all_free (sets_areas old want entries)) → CachesFit caches by (all_free (cond b [] (SetsAreas e.pid e.region (part_in e.region.0 want) e.owner ∷ []) ++ sets_areas old want entries))
    choose true skip set = skip
    choose false skip set = (tt, set)

homes_owned : (entries : List HomeEntry) (rest : List Asking) (owners : List HomeEntry) → owners_after_all (all_free (homes_of entries) ++ rest) owners ≡ owners_after_all rest owners
homes_owned [] rest owners = refl
homes_owned (e ∷ entries) rest owners = homes_owned entries rest owners

new_owned : (new : List HomeEntry) (rest : List Asking) (owners : List HomeEntry) → owners_after_all (with_new new (homes_of new) ++ rest) owners ≡ owners_after_all rest (put_all home_key new owners)
new_owned [] rest owners = refl
new_owned (e ∷ new) rest owners = homes_owned new rest (put_all home_key (e ∷ new) owners)

sets_owned : (old want : List Area) (entries owners : List HomeEntry) → owners_after_all (all_free (sets_areas old want entries)) owners ≡ owners
sets_owned old want [] owners = refl
sets_owned old want (e ∷ entries) owners = by (same_areas (listed_in e.region.0 old) (part_in e.region.0 want)) (sets_owned old want entries owners)
  where
    by : (b : Bool) → owners_after_all (all_free (sets_areas old want entries)) owners ≡ owners → owners_after_all (all_free (cond b [] (SetsAreas e.pid e.region (part_in e.region.0 want) e.owner ∷ []) ++ sets_areas old want entries)) owners ≡ owners
    by true rest = rest
    by false rest = rest

pub tells_owned : (t : Owned) (old : List Area) (pid : Pid) (want : List Area) → owners_after_all (tells_of t old pid want) t.owners ≡ (table_with t pid want).owners
tells_owned t old pid want =
    new_owned (new_of t pid want) (all_free (sets_areas old want (entries_in pid (table_with t pid want)))) t.owners
    ∙ sets_owned old want (entries_in pid (table_with t pid want)) (put_all home_key (new_of t pid want) t.owners)
    ∙ sym (owners_with t pid want)

pub placed_rises : (t : Owned) (pid : Pid) (want : List Area) → Rises home_key t.owners → Rises home_key (table_with t pid want).owners
placed_rises t pid want rise = subst (Rises home_key) (sym (owners_with t pid want)) (put_all_rises (new_of t pid want) t.owners rise)

-- they are granted where the areas cover what is mapped
pub tells_granted : (d : Whole) (f : Plain) (by : Place) (pid : Pid) (old want : List Area) → IsCanonical want → is_issuer by ≡ true → AllByRecursion (λ (m : MemId). m.0 < memory_count d.shape) d.table.placement → StandsFor d f → Covers pid want f → AllGranted d f by (tells_of d.table old pid want)
tells_granted d f by pid old want canonical issuer placed stands covers =
    let two = stands.machine.two in record {
      stands = stands;
      issuer = issuer;
      drained = [];
      empty = tt;
      fit = tells_fit (memory_count d.shape) d.table f pid old want canonical stands.plain (adds_met (memory_count d.shape) d.table pid want (omega (arith, two)) placed) (placed_rises d.table pid want stands.plain.rise) covers;
    }

pub may_tell : (d : Whole) (f : Plain) (by : Place) (pid : Pid) (old want : List Area) → AllGranted d f by (tells_of d.table old pid want) → MayAskEach d by (tells_of d.table old pid want)
may_tell d f by pid old want granted = record {
  plain = f;
  caches = nothing_cached;
  granted = granted;
  fits = new_cached (new_of d.table pid want) (all_free (sets_areas old want (entries_in pid (table_with d.table pid want)))) by nothing_cached (λ k. sets_cached old want (entries_in pid (table_with d.table pid want)) by k);
}

-- ---- once the areas were asked for
module _ {W : Type 0} (told : W → Option (List Event)) (faults : W → ℕ) (w w' : W) (c d : Whole) (by : Place) (pid : Pid) (beyond : Beyond → Beyond) (serves : ServesEach told faults w w' c d by (all_free (asks_of (entries_in pid c.table))) beyond) where
  pub asked_table : SameTurns c.table d.table → d.table ≡ c.table
  asked_table turns = same_table c.table d.table turns (serves.owners ∙ asks_keep (entries_in pid c.table) c.table.owners)

  pub asked_stands : is_issuer by ≡ true → (f : Plain) → StandsFor c f → StandsFor d f
  asked_stands issuer f stands = subst (StandsFor d) (asks_leave (entries_in pid c.table) f) (serves.stands f (record {
    stands = stands;
    issuer = issuer;
    drained = [];
    empty = tt;
    fit = asks_fit (memory_count c.shape) c.table.owners f (entries_in pid c.table) (owned_those (is_of pid.0) c.table.owners stands.plain.rise);
  }))

  pub asked_granted : SameTurns c.table d.table → is_issuer by ≡ true → AllByRecursion (λ (m : MemId). m.0 < memory_count c.shape) c.table.placement → (old want : List Area) → IsCanonical want → (f : Plain) → StandsFor c f → Covers pid want f → AllGranted d f by (tells_of d.table old pid want)
  asked_granted turns issuer placed old want canonical f stands covers =
      tells_granted d f by pid old want canonical issuer
      (subst (λ (p : Shape × Owned). AllByRecursion (λ (m : MemId). m.0 < memory_count p.0) p.1.placement) (λ i. (sym serves.shape i, sym (asked_table turns) i)) placed)
      (asked_stands issuer f stands) covers

-- what they make of the plain map, where the areas were those of the owners
pub mapping_makes : (c : Whole) (f : Plain) (pid : Pid) (want : List Area) → IsCanonical want → AllByRecursion (λ (m : MemId). m.0 < memory_count c.shape) c.table.placement → StandsFor c f →
    effects_of (tells_of c.table (areas_among f (entries_in pid c.table)) pid want) f ≡ with_all_areas_of pid want (with_homes (new_of c.table pid want) f)
mapping_makes c f pid want canonical placed stands =
    let two = stands.machine.two in
    tells_make (memory_count c.shape) c.table f pid want canonical stands.plain (adds_met (memory_count c.shape) c.table pid want (omega (arith, two)) placed) (placed_rises c.table pid want stands.plain.rise)
