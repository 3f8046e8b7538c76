-- What a mapping assigns, as entries.
use Rattle.std.proofs.Common.{◌≡◌, ◌+◌, [], ◌∷◌, ◌∙◌, ℕ, List, None, Option, Some, arith, length, suc, sym}
use Rattle.lego_base.specs.Keys.{put_all}
use Rattle.lego_base.specs.declared.ids.MemId.{MemId}
use Rattle.lego_base.specs.declared.ids.Pid.{Pid}
use Rattle.lego_base.specs.declared.ids.RegionNo.{RegionNo}
use Rattle.lego_base.specs.declared.records.HomeEntry.{HomeEntry}
use Rattle.lego_msg.specs.Maps.{home_key, owner_of}
use Rattle.placement.specs.Owners.{Owned, Placing, assigned, entries_of, kept_none, mapped, placed_all}

-- what is there once these are assigned
abbrev pub all_put : List Placing → Owned → Owned
all_put placings o = record o {
  given = o.given + length (entries_of o.placement o.given placings);
  owners = put_all home_key (entries_of o.placement o.given placings) o.owners;
}

pub mapped-put : (pid : Pid) (regions : List RegionNo) (owners : List HomeEntry) (o : Owned) → placed_all (mapped pid regions owners) o ≡ all_put (mapped pid regions owners) o
mapped-put pid [] owners o = let e : o.given ≡ o.given + 0 = omega arith in λ i. record o { given = e i }
mapped-put pid (region ∷ regions) owners o = by (owner_of owners pid.0 region.0) (mapped-put pid regions owners o) (mapped-put pid regions owners (assigned pid region o))
  where
    by : (owner : Option MemId) → placed_all (mapped pid regions owners) o ≡ all_put (mapped pid regions owners) o
        → placed_all (mapped pid regions owners) (assigned pid region o) ≡ all_put (mapped pid regions owners) (assigned pid region o)
        → placed_all (kept_none pid region owner (mapped pid regions owners)) o ≡ all_put (kept_none pid region owner (mapped pid regions owners)) o
    by (Some owner) same more = same
    by None same more =
        let n : ℕ = length (entries_of o.placement (o.given + 1) (mapped pid regions owners)) in
        let e : o.given + 1 + n ≡ o.given + suc n = omega arith in
        more ∙ (λ i. record (all_put (mapped pid regions owners) (assigned pid region o)) { given = e i })

pub mapped-none : (pid : Pid) (regions : List RegionNo) (owners es : List HomeEntry) (o : Owned) → es ≡ entries_of o.placement o.given (mapped pid regions owners) → length es ≡ 0
    → o ≡ placed_all (mapped pid regions owners) o
mapped-none pid regions owners [] o e none =
    let g : o.given ≡ o.given + 0 = omega arith in
    (λ i. record o { given = g i }) ∙ (λ i. record o { given = o.given + length (e i); owners = put_all home_key (e i) o.owners }) ∙ sym (mapped-put pid regions owners o)
mapped-none pid regions owners (x ∷ es) o e none = absurd (omega (arith, none))

pub mapped-some : (pid : Pid) (regions : List RegionNo) (owners es : List HomeEntry) (o : Owned) → es ≡ entries_of o.placement o.given (mapped pid regions owners)
    → (given : ℕ) → given ≡ o.given + length es → (all : List HomeEntry) → all ≡ put_all home_key es o.owners
    → ◌≡◌ {A = Owned} (record o { given = given; owners = all }) (placed_all (mapped pid regions owners) o)
mapped-some pid regions owners es o e given g all a =
    (λ i. record o { given = g i; owners = a i }) ∙ (λ i. record o { given = o.given + length (e i); owners = put_all home_key (e i) o.owners }) ∙ sym (mapped-put pid regions owners o)
