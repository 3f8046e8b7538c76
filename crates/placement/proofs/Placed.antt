-- Laws of the rule of owners.
use Rattle.std.proofs.Common.{◌≡◌, ◌+◌, ◌&&◌, [], ◌∷◌, ◌∙◌, ℕ, Bool, List, Option, Some, ap, arith, cond, eqb, false, refl, true}
use Rattle.lego_base.specs.Keys.{IsAbove, Rises, find, is_of, key_at, put, put_all}
use Rattle.lego_base.specs.declared.records.HomeEntry.{HomeEntry}
use Rattle.lego_msg.specs.Maps.{home_key, owned_by, owner_in}
use Rattle.keyed_list.proofs.Listed.{Rises-put, Rises-without, above_rest, find-put}
use Rattle.placement.specs.Laws.{AssignedIsFound, OwnersRise, TurnsGoByTheCount}
use Rattle.placement.specs.Owners.{Assigns, Drops, Inherits, Owned, Placing, assignments, entry, handed_on, in_turn, next_owner, no_owners, placed, placed_all}

-- TURNS

same_placement : (past : List Placing) (o : Owned) → (placed_all past o).placement ≡ o.placement
same_placement [] o = refl
same_placement (Assigns pid region ∷ past) o = same_placement past (placed (Assigns pid region) o)
same_placement (Inherits parent child ∷ past) o = same_placement past (placed (Inherits parent child) o)
same_placement (Drops pid ∷ past) o = same_placement past (placed (Drops pid) o)

given_count : (past : List Placing) (o : Owned) → (placed_all past o).given ≡ o.given + assignments past
given_count [] o = omega arith
given_count (Assigns pid region ∷ past) o = let rest = given_count past (placed (Assigns pid region) o) in omega (arith, rest)
given_count (Inherits parent child ∷ past) o = given_count past (placed (Inherits parent child) o)
given_count (Drops pid ∷ past) o = given_count past (placed (Drops pid) o)

pub turns-go-by-the-count : TurnsGoByTheCount
turns-go-by-the-count memories placement past =
    let n : (placed_all past (no_owners memories placement)).given ≡ assignments past = (let e = given_count past (no_owners memories placement) in omega (arith, e)) in
    λ i. in_turn (same_placement past (no_owners memories placement) i) (n i)

-- WHAT IS FOUND after an entry is put

owner_either : (b : Bool) (x : HomeEntry) (o : Option HomeEntry) → owner_in (cond b (Some x) o) ≡ cond b (Some x.owner) (owner_in o)
owner_either true x o = refl
owner_either false x o = refl

pub assigned-is-found : AssignedIsFound
assigned-is-found o p r pid region =
    ap owner_in (find-put home_key (entry p r (next_owner o)) o.owners (key_at pid region))
    ∙ owner_either (eqb p.0 pid && eqb r.0 region) (entry p r (next_owner o)) (find home_key (key_at pid region) o.owners)

-- ORDER

pub put_all_rises : (xs ys : List HomeEntry) → Rises home_key ys → Rises home_key (put_all home_key xs ys)
put_all_rises [] ys rise = rise
put_all_rises (x ∷ xs) ys rise = put_all_rises xs (put home_key x ys) (Rises-put home_key x ys rise)

placed_rises : (p : Placing) (o : Owned) → Rises home_key o.owners → Rises home_key (placed p o).owners
placed_rises (Assigns pid region) o rise = Rises-put home_key (entry pid region (next_owner o)) o.owners rise
placed_rises (Inherits parent child) o rise = put_all_rises (handed_on parent child o.owners) o.owners rise
placed_rises (Drops pid) o rise = Rises-without home_key (is_of pid.0) o.owners rise

all_rises : (past : List Placing) (o : Owned) → Rises home_key o.owners → Rises home_key (placed_all past o).owners
all_rises [] o rise = rise
all_rises (p ∷ past) o rise = all_rises past (placed p o) (placed_rises p o rise)

owned_above : (memory : ℕ) (z : HomeEntry) (ys : List HomeEntry) → IsAbove home_key z ys → Rises home_key ys → IsAbove home_key z (owned_by memory ys)
owned_above memory z [] more rise = tt
owned_above memory z (y ∷ ys) more rise = by (eqb y.owner.0 memory) (owned_above memory z ys (above_rest home_key z y ys more rise.0) rise.1)
  where
    by : (b : Bool) → IsAbove home_key z (owned_by memory ys) → IsAbove home_key z (cond b (y ∷ owned_by memory ys) (owned_by memory ys))
    by true rest = more
    by false rest = rest

owned_rises : (memory : ℕ) (ys : List HomeEntry) → Rises home_key ys → Rises home_key (owned_by memory ys)
owned_rises memory [] rise = tt
owned_rises memory (y ∷ ys) rise = by (eqb y.owner.0 memory) (owned_rises memory ys rise.1)
  where
    by : (b : Bool) → Rises home_key (owned_by memory ys) → Rises home_key (cond b (y ∷ owned_by memory ys) (owned_by memory ys))
    by true rest = (owned_above memory y ys rise.0 rise.1, rest)
    by false rest = rest

pub owners-rise : OwnersRise
owners-rise memories placement past memory =
    let rise = all_rises past (no_owners memories placement) tt in
    record { all = rise; of_one = owned_rises memory _ rise }
