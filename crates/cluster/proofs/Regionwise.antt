-- Regions of a process, asked one by one.
use Rattle.std.proofs.Common.{◌≡◌, ◌∙◌, ◌+◌, ◌*◌, ◌/◌, ◌&&◌, ◌≤◌, ◌<◌, ◌++◌, [], ◌∷◌, ℕ, Bool, List, None, Some, ap, arith, cond, false, ltb, refl, true}
use Rattle.std.specs.List.{AllByRecursion}
use Rattle.std.proofs.lemmas.Bool.{le-ltb, lt-ltb}
use Rattle.healing_laws.proofs.Rising.{each_found}
use Rattle.lego_base.specs.Keys.{Key, Rises, find, those}
use Rattle.lego_base.specs.declared.records.Area.{Area}
use Rattle.lego_base.specs.declared.records.HomeEntry.{HomeEntry}
use Rattle.lego_msg.specs.Maps.{home_key, owner_in, owner_of}
use Rattle.lego_msg.specs.Plain.{Plain}
use Rattle.lego_msg.specs.Track.{Caches}
use Rattle.lego_msg.specs.declared.body.Body.{Body}
use Rattle.lego_msg.specs.declared.place.Place.{Place}
use Rattle.cluster.specs.Askings.{AreOwned, all_runs, areas_among, asks_of, meets, met_by, runs_told}
use Rattle.cluster.specs.Sequences.{AreReplies, FitAll, FitEach, ReadNoLine}

-- ---- each entry of the table is that of its region

each_owned : (owners entries : List HomeEntry) → AllByRecursion (λ (e : HomeEntry). find home_key (home_key e) owners ≡ Some e) entries → AreOwned owners entries
each_owned owners [] all = tt
each_owned owners (e ∷ entries) all = (ap owner_in all.0, each_owned owners entries all.1)

picked_owned : (b : Bool) (owners : List HomeEntry) (e : HomeEntry) (entries : List HomeEntry) → owner_of owners e.pid.0 e.region.0 ≡ Some e.owner → AreOwned owners entries → AreOwned owners (cond b (e ∷ entries) entries)
picked_owned true owners e entries one all = (one, all)
picked_owned false owners e entries one all = all

those_owned : (test : Key → Bool) (owners entries : List HomeEntry) → AreOwned owners entries → AreOwned owners (those home_key test entries)
those_owned test owners [] all = tt
those_owned test owners (e ∷ entries) all = picked_owned (test (home_key e)) owners e (those home_key test entries) all.0 (those_owned test owners entries all.1)

pub owned_those : (test : Key → Bool) (owners : List HomeEntry) → Rises home_key owners → AreOwned owners (those home_key test owners)
owned_those test owners rise = those_owned test owners owners (each_owned owners owners (each_found home_key owners rise))

pub owned_met : (address n : ℕ) (owners entries : List HomeEntry) → AreOwned owners entries → AreOwned owners (met_by address n entries)
owned_met address n owners [] all = tt
owned_met address n owners (e ∷ entries) all = picked_owned (meets address n e) owners e (met_by address n entries) all.0 (owned_met address n owners entries all.1)

-- ---- what is owed of the askings, and what they say

pub asks_fit : (m : ℕ) (owners : List HomeEntry) (f : Plain) (entries : List HomeEntry) → AreOwned owners entries → FitAll m owners f [] (asks_of entries)
asks_fit m owners f [] all = tt
asks_fit m owners f (e ∷ entries) all = (tt, tt, all.0, tt, asks_fit m owners f entries all.1)

pub asks_lines : (entries : List HomeEntry) → ReadNoLine (asks_of entries)
asks_lines [] = tt
asks_lines (e ∷ entries) = (tt, asks_lines entries)

pub asks_caches : (entries : List HomeEntry) (by : Place) (caches : Caches) → FitEach caches by (asks_of entries)
asks_caches [] by caches = tt
asks_caches (e ∷ entries) by caches = (tt, asks_caches entries by (record caches { filled = None }))

pub asks_say : (f : Plain) (entries : List HomeEntry) (answers : List Body) → AreReplies f (asks_of entries) answers → all_runs answers ≡ areas_among f entries
asks_say f [] [] replies = refl
asks_say f [] (body ∷ answers) replies = absurd replies
asks_say f (e ∷ entries) [] replies = absurd replies
asks_say f (e ∷ entries) (body ∷ answers) replies =
    ap (λ (b : Body). runs_told b ++ all_runs answers) replies.0
    ∙ ap (λ (more : List Area). f.areas e.pid.0 e.region.0 ++ more) (asks_say f entries answers replies.1)

-- ---- whether bytes meet a region

second_false : (a b c : Bool) → b ≡ false → (a && b && c) ≡ false
second_false true b c e = ap (λ (x : Bool). x && c) e
second_false false b c e = refl

third_false : (a b c : Bool) → c ≡ false → (a && b && c) ≡ false
third_false true true c e = e
third_false true false c e = refl
third_false false b c e = refl

pub meets_none : (address n : ℕ) (e : HomeEntry) → n ≡ 0 → meets address n e ≡ false
meets_none address n e none = ap (λ (x : Bool). x && ltb address ((e.region.0 + 1) * 2097152) && ltb (e.region.0 * 2097152) (address + n)) (le-ltb 0 n (omega (arith, none)))

pub meets_below : (address n : ℕ) (e : HomeEntry) → e.region.0 < address / 2097152 → meets address n e ≡ false
meets_below address n e low = second_false (ltb 0 n) (ltb address ((e.region.0 + 1) * 2097152)) (ltb (e.region.0 * 2097152) (address + n)) (le-ltb address ((e.region.0 + 1) * 2097152) (omega (arith, low)))

pub meets_above : (address n end : ℕ) (e : HomeEntry) → 0 < n → end + 1 ≡ address + n → end / 2097152 < e.region.0 → meets address n e ≡ false
meets_above address n end e some is high = third_false (ltb 0 n) (ltb address ((e.region.0 + 1) * 2097152)) (ltb (e.region.0 * 2097152) (address + n)) (le-ltb (e.region.0 * 2097152) (address + n) (omega (arith, is, high)))

pub meets_some : (address n end : ℕ) (e : HomeEntry) → 0 < n → end + 1 ≡ address + n → address / 2097152 ≤ e.region.0 → e.region.0 ≤ end / 2097152 → meets address n e ≡ true
meets_some address n end e some is low high =
    let one = lt-ltb 0 n some in
    let two = lt-ltb address ((e.region.0 + 1) * 2097152) (omega (arith, low)) in
    let three = lt-ltb (e.region.0 * 2097152) (address + n) (omega (arith, is, high)) in
    λ i. one i && two i && three i
