-- Who has an owner after owners changed.
use Rattle.std.proofs.Common.{◌≡◌, ℕ, Bool, true, false, cond, eqb, ◌&&◌, ◌||◌, refl, ◌∙◌, ap, subst, List, [], ◌∷◌, map, Option, Some, None, is_some}
use Rattle.std.proofs.lemmas.Bool.{eqb-true, eq-eqb}
use Rattle.lego_base.specs.declared.ids.MemId.{MemId}
use Rattle.lego_base.specs.declared.ids.Pid.{Pid}
use Rattle.lego_base.specs.declared.ids.RegionNo.{RegionNo}
use Rattle.lego_base.specs.declared.records.HomeEntry.{HomeEntry}
use Rattle.lego_base.specs.Keys.{Key, find, is_of, key_at, put, put_all, same_key, those}
use Rattle.keyed_list.proofs.Listed.{find-put, find-without}
use Rattle.lego_msg.specs.Maps.{home_key, owner_in, owner_of}
use Rattle.placement.specs.Owners.{Assigns, Owned, entry, for_child, handed_on, inherited, dropped, kept_none, mapped, next_owner, placed, placed_all}
use Rattle.split_script.specs.Laws.{has_number}

abbrev pub has : List HomeEntry → ℕ → ℕ → Bool
has owners pid region = is_some (owner_of owners pid region)

either_some : (b : Bool) (e : HomeEntry) (o : Option HomeEntry) → is_some (owner_in o) ≡ true → is_some (owner_in (cond b (Some e) o)) ≡ true
either_some true e o is = refl
either_some false e o is = is

-- an entry that is put has its owner, and all others keep theirs
put_keeps : (e : HomeEntry) (owners : List HomeEntry) (pid region : ℕ) → has owners pid region ≡ true → has (put home_key e owners) pid region ≡ true
put_keeps e owners pid region is =
    ap (λ (o : Option HomeEntry). is_some (owner_in o)) (find-put home_key e owners (key_at pid region))
    ∙ either_some (same_key (home_key e) (key_at pid region)) e (find home_key (key_at pid region) owners) is

put_gives : (e : HomeEntry) (owners : List HomeEntry) (k : Key) → same_key (home_key e) k ≡ true → is_some (owner_in (find home_key k (put home_key e owners))) ≡ true
put_gives e owners k same =
    ap (λ (o : Option HomeEntry). is_some (owner_in o)) (find-put home_key e owners k)
    ∙ ap (λ (b : Bool). is_some (owner_in (cond b (Some e) (find home_key k owners)))) same

pub put_all_keeps : (new owners : List HomeEntry) (pid region : ℕ) → has owners pid region ≡ true → has (put_all home_key new owners) pid region ≡ true
put_all_keeps [] owners pid region is = is
put_all_keeps (e ∷ new) owners pid region is = put_all_keeps new (put home_key e owners) pid region (put_keeps e owners pid region is)

-- whether an entry has a key
abbrev listed : Key → List HomeEntry → Bool
listed k [] = false
listed k (e ∷ entries) = cond (same_key (home_key e) k) true (listed k entries)

put_all_gives : (new owners : List HomeEntry) (pid region : ℕ) → listed (key_at pid region) new ≡ true → has (put_all home_key new owners) pid region ≡ true
put_all_gives [] owners pid region is = cc is
put_all_gives (e ∷ new) owners pid region is = by (same_key (home_key e) (key_at pid region)) refl (put_all_gives new (put home_key e owners) pid region) is
  where
    by : (b : Bool) → same_key (home_key e) (key_at pid region) ≡ b → (listed (key_at pid region) new ≡ true → has (put_all home_key (e ∷ new) owners) pid region ≡ true) → cond b true (listed (key_at pid region) new) ≡ true → has (put_all home_key (e ∷ new) owners) pid region ≡ true
    by true same more is = put_all_keeps new (put home_key e owners) pid region (put_gives e owners (key_at pid region) same)
    by false same more is = more is

-- ---- mappings

pub mapped_keeps : (pid : Pid) (regions : List RegionNo) (before : List HomeEntry) (o : Owned) (q region : ℕ) → has o.owners q region ≡ true → has (placed_all (mapped pid regions before) o).owners q region ≡ true
mapped_keeps pid [] before o q region is = is
mapped_keeps pid (r ∷ regions) before o q region is =
    by (owner_of before pid.0 r.0)
    (mapped_keeps pid regions before (placed (Assigns pid r) o) q region (put_keeps (entry pid r (next_owner o)) o.owners q region is))
    (mapped_keeps pid regions before o q region is)
  where
    by : (x : Option MemId) → has (placed_all (mapped pid regions before) (placed (Assigns pid r) o)).owners q region ≡ true → has (placed_all (mapped pid regions before) o).owners q region ≡ true → has (placed_all (kept_none pid r x (mapped pid regions before)) o).owners q region ≡ true
    by None new old = new
    by (Some owner) new old = old

same_numbers : (pid a b : ℕ) → eqb a b ≡ true → same_key (key_at pid a) (key_at pid b) ≡ true
same_numbers pid a b e = ap (λ (c : Bool). c && eqb a b) (eq-eqb pid pid refl) ∙ e

abbrev numbered : List ℕ → List RegionNo
numbered regions = map (λ (r : ℕ). record { 0 = r }) regions

later : (b c : Bool) → b ≡ false → (b || c) ≡ true → c ≡ true
later true c e is = cc e
later false c e is = is

-- a region that is mapped has an owner, its own or a new one
pub mapped_gives : (pid : Pid) (regions : List ℕ) (before : List HomeEntry) (o : Owned) (region : ℕ) → ((r : ℕ) → has before pid.0 r ≡ true → has o.owners pid.0 r ≡ true) → has_number region regions ≡ true → has (placed_all (mapped pid (numbered regions) before) o).owners pid.0 region ≡ true
mapped_gives pid [] before o region kept is = cc is
mapped_gives pid (r ∷ regions) before o region kept is =
    by (owner_of before pid.0 r) refl (eqb r region) refl
    (λ other. mapped_gives pid regions before (placed (Assigns pid (record { 0 = r })) o) region (λ q there. put_keeps (entry pid (record { 0 = r }) (next_owner o)) o.owners pid.0 q (kept q there)) (later (eqb r region) (has_number region regions) other is))
    (λ other. mapped_gives pid regions before o region kept (later (eqb r region) (has_number region regions) other is))
  where
    by : (x : Option MemId) → owner_of before pid.0 r ≡ x → (b : Bool) → eqb r region ≡ b
        → (eqb r region ≡ false → has (placed_all (mapped pid (numbered regions) before) (placed (Assigns pid (record { 0 = r })) o)).owners pid.0 region ≡ true)
        → (eqb r region ≡ false → has (placed_all (mapped pid (numbered regions) before) o).owners pid.0 region ≡ true)
        → has (placed_all (kept_none pid (record { 0 = r }) x (mapped pid (numbered regions) before)) o).owners pid.0 region ≡ true
    by None e true f new old =
        mapped_keeps pid (numbered regions) before (placed (Assigns pid (record { 0 = r })) o) pid.0 region
        (put_gives (entry pid (record { 0 = r }) (next_owner o)) o.owners (key_at pid.0 region) (same_numbers pid.0 r region f))
    by (Some owner) e true f new old =
        mapped_keeps pid (numbered regions) before o pid.0 region
        (subst (λ (n : ℕ). has o.owners pid.0 n ≡ true) (eqb-true r region f) (kept r (ap (λ (x : Option MemId). is_some x) e)))
    by None e false f new old = new f
    by (Some owner) e false f new old = old f

-- ---- a child

find_lists : (entries : List HomeEntry) (k : Key) → is_some (owner_in (find home_key k entries)) ≡ true → listed k entries ≡ true
find_lists [] k is = cc is
find_lists (e ∷ entries) k is = by (same_key (home_key e) k) (find_lists entries k) is
  where
    by : (b : Bool) → (is_some (owner_in (find home_key k entries)) ≡ true → listed k entries ≡ true) → is_some (owner_in (cond b (Some e) (find home_key k entries))) ≡ true → cond b true (listed k entries) ≡ true
    by true more is = refl
    by false more is = more is

one_entry : (c r old new : Bool) → c ≡ true → cond r true old ≡ true → (old ≡ true → new ≡ true) → cond (c && r) true new ≡ true
one_entry true true old new e is more = refl
one_entry true false old new e is more = more is
one_entry false r old new e is more = cc e

child_lists : (parent child : Pid) (region : ℕ) (entries : List HomeEntry) → listed (key_at parent.0 region) entries ≡ true → listed (key_at child.0 region) (map (for_child child) (those home_key (is_of parent.0) entries)) ≡ true
child_lists parent child region [] is = cc is
child_lists parent child region (e ∷ entries) is = by (eqb e.pid.0 parent.0) (child_lists parent child region entries) is
  where
    by : (p : Bool) → (listed (key_at parent.0 region) entries ≡ true → listed (key_at child.0 region) (map (for_child child) (those home_key (is_of parent.0) entries)) ≡ true) → cond (p && eqb e.region.0 region) true (listed (key_at parent.0 region) entries) ≡ true → listed (key_at child.0 region) (map (for_child child) (cond p (e ∷ those home_key (is_of parent.0) entries) (those home_key (is_of parent.0) entries))) ≡ true
    by false more is = more is
    by true more is = one_entry (eqb child.0 child.0) (eqb e.region.0 region) (listed (key_at parent.0 region) entries) (listed (key_at child.0 region) (map (for_child child) (those home_key (is_of parent.0) entries))) (eq-eqb child.0 child.0 refl) is more

-- a child's regions have the owners of its parent's, and all others keep theirs
pub child_gives : (parent child : Pid) (o : Owned) (region : ℕ) → has o.owners parent.0 region ≡ true → has (inherited parent child o).owners child.0 region ≡ true
child_gives parent child o region is =
    put_all_gives (handed_on parent child o.owners) o.owners child.0 region
    (child_lists parent child region o.owners (find_lists o.owners (key_at parent.0 region) is))

pub child_keeps : (parent child : Pid) (o : Owned) (pid region : ℕ) → has o.owners pid region ≡ true → has (inherited parent child o).owners pid region ≡ true
child_keeps parent child o pid region is = put_all_keeps (handed_on parent child o.owners) o.owners pid region is

-- ---- the end of a space: other processes keep theirs
pub others_keep : (gone : Pid) (o : Owned) (pid region : ℕ) → eqb pid gone.0 ≡ false → has o.owners pid region ≡ true → has (dropped gone o).owners pid region ≡ true
others_keep gone o pid region other is =
    ap (λ (x : Option HomeEntry). is_some (owner_in x)) (find-without home_key (is_of gone.0) o.owners (key_at pid region))
    ∙ ap (λ (b : Bool). is_some (owner_in (cond b None (find home_key (key_at pid region) o.owners)))) other
    ∙ is
