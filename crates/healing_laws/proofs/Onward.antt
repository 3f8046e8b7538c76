-- A healing goes on: what its moves did, got and hand over is so in a later scene, where only logs, images and the lost
-- memory changed.
use Rattle.std.proofs.Common.{◌≡◌, ◌+◌, ◌/◌, [], ◌∷◌, ◌++◌, ◌∙◌, ℕ, List, None, Option, Some, ap, false, length, refl, true}
use Rattle.std.specs.List.{AllByRecursion}
use Rattle.lego_base.specs.declared.records.PageImage.{PageImage}
use Rattle.lego_msg.specs.Maps.{page_in}
use Rattle.lego_msg.specs.Places.{guarded_by}
use Rattle.lego_msg.specs.State.{Mem}
use Rattle.lego_msg.specs.declared.body.Body.{Body}
use Rattle.lego_msg.specs.declared.healing.Move.{Move}
use Rattle.lego_msg.specs.declared.healing.Move.TheVariants.{Asks, HandsImages, HandsMeta, HandsPages}
use Rattle.lego_msg.specs.declared.message.Message.{Message}
use Rattle.lego_msg.specs.declared.operation.Open.{Open}
use Rattle.lego_msg.specs.declared.place.Place.{Place}
use Rattle.lego_msg.specs.declared.place.Role.TheVariants.{Main, Spare}
use Rattle.lego_rest.specs.Heals.{AskDone, Asking, Between, ForImages, ForLog, ForMeta, ForNothing, ForPages, GotAsked, GotLast, HasDone, IsDrained, MoveFits, MoveGot, Scene, asking, count_drains, count_number, is_undone}
use Rattle.lego_rest.specs.Parts.{IsEither, Page, owns}
use Rattle.rest_laws.proofs.Opened.{every}
use Rattle.healing_laws.proofs.MovesAre.{MoveIs}
use Rattle.lego_msg.specs.declared.place.Place.TheVariants as place

-- the scene with other memories and images
abbrev pub in_scene : Scene → List Mem → List PageImage → Scene
in_scene w mems images = record { sides = w.sides; patch = w.patch; mems = mems; images = images }

-- what stays: the images that a drained log leaves alone, and those of pages of the memory that c guards
pub record ScenesAgree (w : Scene) (mems : List Mem) (images : List PageImage) (c : ℕ) : Type 0 where
  pub drained : IsDrained w.sides w.patch w.mems w.images c → IsDrained w.sides w.patch mems images c
  pub anew : (pid vpn : ℕ) → owns w.sides.owners (guarded_by w.sides.n c) pid (vpn / 512) ≡ true → IsEither w.sides (guarded_by w.sides.n c) (Page pid vpn) (page_in w.images pid vpn) → IsEither w.sides (guarded_by w.sides.n c) (Page pid vpn) (page_in images pid vpn)

module _ (w : Scene) (mems : List Mem) (images : List PageImage) (c : ℕ) (agree : ScenesAgree w mems images c) where
  abbrev then_scene : Scene
  then_scene = record { sides = w.sides; patch = w.patch; mems = mems; images = images }

  got_asked : (k : Asking) (got : Body) → GotAsked w c k got → GotAsked then_scene c k got
  got_asked ForLog got is = (is.0, agree.drained is.1)
  got_asked (ForMeta Main) got is = is
  got_asked (ForMeta Spare) got is = is
  got_asked (ForImages pid region) got is = is
  got_asked (ForPages pid region) got is = is
  got_asked ForNothing got is = is

  pub got_kept : (move : Move) (got : Body) → MoveGot w c move got → MoveGot then_scene c move got
  got_kept (Asks to what) got is = got_asked (asking what) got is
  got_kept (HandsMeta to role) got is = is
  got_kept (HandsImages to pid region) got is = is
  got_kept (HandsPages pid region) got is = is

  pub last_kept : (done : List Move) (got : Option Body) → GotLast w c done got → GotLast then_scene c done got
  last_kept [] got is = tt
  last_kept (move ∷ []) None is = is
  last_kept (move ∷ []) (Some got) is = got_kept move got is
  last_kept (move ∷ next ∷ moves) got is = last_kept (next ∷ moves) got is

  ask_done : (k : Asking) → AskDone w c k → AskDone then_scene c k
  ask_done ForLog is = agree.drained is
  ask_done (ForMeta role) is = tt
  ask_done (ForImages pid region) is = tt
  ask_done (ForPages pid region) is = tt
  ask_done ForNothing is = tt

  -- with the lost memory as it was
  pub done_kept : (x : Mem) (move : Move) → MoveIs w.sides.n c w.sides.owners move → HasDone w c x move → HasDone then_scene c x move
  done_kept x (Asks to what) is did = ask_done (asking what) did
  done_kept x (HandsMeta to role) is did = did
  done_kept x (HandsImages to pid region) is did = did
  done_kept x (HandsPages pid region) is did = λ vpn of. agree.anew pid.0 vpn (ap (owns w.sides.owners (guarded_by w.sides.n c) pid.0) of ∙ is) (did vpn of)

  -- THE MOVE ON ITS WAY
  abbrev Heard : List Message → Open → Place → Move → Type 0
  Heard pending o to move = AllByRecursion (λ (m : Message). m.op.0 ≡ o.number.0 → m.to ≡ place.Manager → (m.from ≡ to) × MoveGot then_scene c move m.body) pending

  pub fits_kept : (pending pending' : List Message) (next : ℕ) (o : Open) (move : Move) (fits : MoveFits w c pending next o move) → count_number o.number.0 pending' + length o.answers + count_drains o.number.0 mems ≡ 1 → Heard pending' o fits.to move → MoveFits then_scene c pending' next o move
  fits_kept pending pending' next o move fits once heard = record {
    to = fits.to;
    told = fits.told;
    is = fits.is;
    receiver = fits.receiver;
    hands = fits.hands;
    by = fits.by;
    targets = fits.targets;
    sent = fits.sent;
    some = fits.some;
    below = fits.below;
    once = once;
    answers = every (λ a is. (is.0, got_kept move a.body is.1)) o.answers fits.answers;
    answering = heard;
  }

  -- BETWEEN, where the lost memory was x and is x'
  abbrev Goes : List Message → List Message → ℕ → Mem → Mem → Option Open → Type 0
  Goes pending pending' next x x' current = (o : Open) (move : Move) → current ≡ Some o → MoveIs w.sides.n c w.sides.owners move → MoveFits w c pending next o move → (is_undone o.number.0 pending w.mems ≡ false → HasDone w c x move) →
      MoveFits then_scene c pending' next o move × (is_undone o.number.0 pending' mems ≡ false → HasDone then_scene c x' move)

  all_did : (x x' : Mem) → ((move : Move) → MoveIs w.sides.n c w.sides.owners move → HasDone w c x move → HasDone then_scene c x' move) → (done : List Move) → AllByRecursion (MoveIs w.sides.n c w.sides.owners) done → AllByRecursion (HasDone w c x) done → AllByRecursion (HasDone then_scene c x') done
  all_did x x' did [] are all = tt
  all_did x x' did (move ∷ done) are all = (did move are.0 all.0, all_did x x' did done are.1 all.1)

  pub between_kept : (pending pending' : List Message) (next : ℕ) (x x' : Mem) (done : List Move) (current : Option Open) (got : Option Body) (ahead : List Move) →
      ((move : Move) → MoveIs w.sides.n c w.sides.owners move → HasDone w c x move → HasDone then_scene c x' move) → Goes pending pending' next x x' current →
      AllByRecursion (MoveIs w.sides.n c w.sides.owners) (done ++ ahead) → Between w c pending next x done current got ahead → Between then_scene c pending' next x' done current got ahead
  between_kept pending pending' next x x' done None got ahead did goes are all = (all_did x x' did done (are_front done are) all.0, last_kept done got all.1, all.2)
    where
      are_front : (done : List Move) → AllByRecursion (MoveIs w.sides.n c w.sides.owners) (done ++ ahead) → AllByRecursion (MoveIs w.sides.n c w.sides.owners) done
      are_front [] are = tt
      are_front (move ∷ done) are = (are.0, are_front done are.1)
  between_kept pending pending' next x x' done (Some o) got [] did goes are all = all
  between_kept pending pending' next x x' done (Some o) got (move ∷ ahead) did goes are all =
      let parts = are_parts done are in
      let now = goes o move refl parts.1 all.1 all.2 in
      (all_did x x' did done parts.0 all.0, now.0, now.1)
    where
      are_parts : (done : List Move) → AllByRecursion (MoveIs w.sides.n c w.sides.owners) (done ++ move ∷ ahead) → AllByRecursion (MoveIs w.sides.n c w.sides.owners) done × MoveIs w.sides.n c w.sides.owners move
      are_parts [] are = (tt, are.0)
      are_parts (x ∷ done) are = let rest = are_parts done are.1 in ((are.0, rest.0), rest.1)
