-- The moves of a healing: whom each goes to, which region it is of, and which move comes before it.
use Rattle.std.proofs.Common.{◌≡◌, ◌==◌, [], ◌∷◌, ◌++◌, ◌∙◌, ℕ, Bool, List, None, Option, Some, ap, cond, false, refl, true}
use Rattle.std.specs.List.{AllByRecursion}
use Rattle.lego_base.specs.Keys.{find}
use Rattle.lego_base.specs.declared.ids.MemId.{MemId}
use Rattle.lego_base.specs.declared.ids.Pid.{Pid}
use Rattle.lego_base.specs.declared.ids.RegionNo.{RegionNo}
use Rattle.lego_base.specs.declared.records.HomeEntry.{HomeEntry}
use Rattle.lego_msg.specs.Healing.{images_anew, images_back, moves_of}
use Rattle.lego_msg.specs.Maps.{home_key, owned_by, owner_in}
use Rattle.lego_msg.specs.Places.{guarded_by, memory, secondary_of}
use Rattle.lego_msg.specs.declared.body.Body.{Body}
use Rattle.lego_msg.specs.declared.healing.Move.{Move}
use Rattle.lego_msg.specs.declared.healing.Move.TheVariants.{Asks, HandsImages, HandsMeta, HandsPages}
use Rattle.lego_msg.specs.declared.place.Place.{Place}
use Rattle.lego_msg.specs.declared.place.Role.{Role}
use Rattle.lego_msg.specs.declared.place.Role.TheVariants.{Main, Spare}
use Rattle.lego_rest.specs.Parts.{is_owner, owns}
use Rattle.rest_laws.proofs.Opened.{all_both}
use Rattle.lego_msg.specs.declared.body.Body.TheVariants as body
use Rattle.lego_msg.specs.declared.place.Place.TheVariants as place

-- EACH BY ITSELF: its place, and its region's owner

pub data AskIs (n c : ℕ) (owners : List HomeEntry) (to : Place) (what : Body) : Type 0 where
  OfLog : what ≡ body.Drain → to ≡ memory (secondary_of n c) → AskIs n c owners to what
  OfSpare : (who : MemId) → what ≡ body.PullMeta who Spare → to ≡ memory (secondary_of n c) → AskIs n c owners to what
  OfMain : (who : MemId) → what ≡ body.PullMeta who Main → to ≡ memory (guarded_by n c) → AskIs n c owners to what
  OfImages : (pid : Pid) (region : RegionNo) → what ≡ body.PullImages pid region → to ≡ place.Storage → owns owners c pid.0 region.0 ≡ true → AskIs n c owners to what
  OfPages : (pid : Pid) (region : RegionNo) → what ≡ body.PullPages pid region → to ≡ memory (guarded_by n c) → owns owners (guarded_by n c) pid.0 region.0 ≡ true → AskIs n c owners to what

abbrev pub MoveIs : ℕ → ℕ → List HomeEntry → Move → Type 0
MoveIs n c owners (Asks to what) = AskIs n c owners to what
MoveIs n c owners (HandsMeta to role) = to ≡ memory c
MoveIs n c owners (HandsImages to pid region) = (to ≡ memory c) × (owns owners c pid.0 region.0 ≡ true)
MoveIs n c owners (HandsPages pid region) = owns owners (guarded_by n c) pid.0 region.0 ≡ true

-- an entry of a rising table is found by its key, and so each entry of a memory says what it owns
abbrev Found : List HomeEntry → HomeEntry → Type 0
Found owners e = find home_key (home_key e) owners ≡ Some e

abbrev IsOwned : List HomeEntry → ℕ → HomeEntry → Type 0
IsOwned owners c e = owns owners c e.pid.0 e.region.0 ≡ true

owned_entries : (owners : List HomeEntry) (c : ℕ) (es : List HomeEntry) → AllByRecursion (Found owners) es → AllByRecursion (IsOwned owners c) (owned_by c es)
owned_entries owners c [] all = tt
owned_entries owners c (e ∷ es) all = by (e.owner.0 == c) refl (owned_entries owners c es all.1)
  where
    by : (b : Bool) → (e.owner.0 == c) ≡ b → AllByRecursion (IsOwned owners c) (owned_by c es) → AllByRecursion (IsOwned owners c) (cond b (e ∷ owned_by c es) (owned_by c es))
    by true is rest = (ap (λ (x : Option HomeEntry). is_owner c (owner_in x)) all.0 ∙ is, rest)
    by false is rest = rest

back_are : (n c : ℕ) (owners es : List HomeEntry) → AllByRecursion (IsOwned owners c) es → AllByRecursion (MoveIs n c owners) (images_back c es)
back_are n c owners [] all = tt
back_are n c owners (e ∷ es) all = (OfImages e.pid e.region refl refl all.0, ((refl, all.0), back_are n c owners es all.1))

anew_are : (n c : ℕ) (owners es : List HomeEntry) → AllByRecursion (IsOwned owners (guarded_by n c)) es → AllByRecursion (MoveIs n c owners) (images_anew (guarded_by n c) es)
anew_are n c owners [] all = tt
anew_are n c owners (e ∷ es) all = (OfPages e.pid e.region refl refl all.0, (all.0, anew_are n c owners es all.1))

pub moves_are : (n c : ℕ) (owners : List HomeEntry) → AllByRecursion (Found owners) owners → AllByRecursion (MoveIs n c owners) (moves_of n c owners)
moves_are n c owners found = (
  OfLog refl refl,
  (
    OfSpare (record { 0 = c }) refl refl,
    (
      refl,
      all_both (MoveIs n c owners) (images_back c (owned_by c owners)) _ (back_are n c owners (owned_by c owners) (owned_entries owners c owners found))
          (OfMain (record { 0 = guarded_by n c }) refl refl, (refl, anew_are n c owners (owned_by (guarded_by n c) owners) (owned_entries owners (guarded_by n c) owners found))),
    ),
  ),
)

-- WHICH COMES BEFORE IT: what hands on follows what asked for it

abbrev pub FollowsRole : ℕ → ℕ → Option Move → Role → Type 0
FollowsRole n c prev Main = prev ≡ Some (Asks (memory (secondary_of n c)) (body.PullMeta (record { 0 = c }) Spare))
FollowsRole n c prev Spare = prev ≡ Some (Asks (memory (guarded_by n c)) (body.PullMeta (record { 0 = guarded_by n c }) Main))

abbrev pub Follows : ℕ → ℕ → Option Move → Move → Type 0
Follows n c prev (Asks to what) = Unit {0}
Follows n c prev (HandsMeta to role) = FollowsRole n c prev role
Follows n c prev (HandsImages to pid region) = prev ≡ Some (Asks place.Storage (body.PullImages pid region))
Follows n c prev (HandsPages pid region) = prev ≡ Some (Asks (memory (guarded_by n c)) (body.PullPages pid region))

abbrev pub Linked : ℕ → ℕ → Option Move → List Move → Type 0
Linked n c prev [] = Unit {0}
Linked n c prev (move ∷ moves) = Follows n c prev move × Linked n c (Some move) moves

abbrev pub last_of : Option Move → List Move → Option Move
last_of prev [] = prev
last_of prev (move ∷ moves) = last_of (Some move) moves

linked_both : (n c : ℕ) (prev : Option Move) (xs ys : List Move) → Linked n c prev xs → Linked n c (last_of prev xs) ys → Linked n c prev (xs ++ ys)
linked_both n c prev [] ys first rest = rest
linked_both n c prev (x ∷ xs) ys first rest = (first.0, linked_both n c (Some x) xs ys first.1 rest)

linked_back : (n c : ℕ) (prev : Option Move) (es : List HomeEntry) → Linked n c prev (images_back c es)
linked_back n c prev [] = tt
linked_back n c prev (e ∷ es) = (tt, (refl, linked_back n c (Some (HandsImages (memory c) e.pid e.region)) es))

linked_anew : (n c : ℕ) (prev : Option Move) (es : List HomeEntry) → Linked n c prev (images_anew (guarded_by n c) es)
linked_anew n c prev [] = tt
linked_anew n c prev (e ∷ es) = (tt, (refl, linked_anew n c (Some (HandsPages e.pid e.region)) es))

pub moves_linked : (n c : ℕ) (owners : List HomeEntry) → Linked n c None (moves_of n c owners)
moves_linked n c owners = (
  tt,
  (
    tt,
    (
      refl,
      linked_both n c (Some (HandsMeta (memory c) Main)) (images_back c (owned_by c owners)) _ (linked_back n c (Some (HandsMeta (memory c) Main)) (owned_by c owners))
          (tt, (refl, linked_anew n c (Some (HandsMeta (memory c) Spare)) (owned_by (guarded_by n c) owners))),
    ),
  ),
)

pub linked_at : (n c : ℕ) (prev : Option Move) (done : List Move) (move : Move) (ahead : List Move) → Linked n c prev (done ++ move ∷ ahead) → Follows n c (last_of prev done) move
linked_at n c prev [] move ahead linked = linked.0
linked_at n c prev (x ∷ done) move ahead linked = linked_at n c (Some x) done move ahead linked.1
