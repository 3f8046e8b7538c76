-- The open operation is complete while a memory is healed: what the moves did and handed over was old or new, and so is new
-- now, since neither the lost memory nor what it guards changes.
use Rattle.std.proofs.Common.{◌≡◌, [], ◌∷◌, ◌∙◌, ℕ, List, None, Option, Some, inl, inr}
use Rattle.lego_base.specs.declared.records.PageImage.{PageImage}
use Rattle.lego_base.specs.declared.records.Patch.{Patch}
use Rattle.lego_msg.specs.Places.{guarded_by}
use Rattle.lego_msg.specs.State.{Kept, Mem}
use Rattle.lego_msg.specs.declared.body.Body.{Body}
use Rattle.lego_msg.specs.declared.healing.Move.{Move}
use Rattle.lego_msg.specs.declared.healing.Move.TheVariants.{Asks, HandsImages, HandsMeta, HandsPages}
use Rattle.lego_msg.specs.declared.message.Message.{Message}
use Rattle.lego_msg.specs.declared.operation.Open.{Open}
use Rattle.lego_msg.specs.declared.place.Role.TheVariants.{Main, Spare}
use Rattle.lego_rest.specs.Heals.{AskDone, Asking, Between, ForImages, ForLog, ForMeta, ForNothing, ForPages, GotAsked, GotLast, HandsOver, HasDone, IsDrained, MetaFits, MoveFits, MoveGot, PagesHanded, RegionFits, Scene, asking}
use Rattle.lego_rest.specs.Parts.{Areas, Cell, Held, Home, IsEither, Page, Sides, share}
use Rattle.rest_laws.proofs.Opened.{every}

-- both sides are the new one
abbrev pub settled : Sides → Sides
settled b = record { n = b.n; owners = b.owners; old = b.new; new = b.new }

module _ (b : Sides) (c : ℕ) (patch : Option Patch) (mems : List Mem) (images : List PageImage)
    (same_c : (cell : Cell) → share b.n b.owners b.old c cell ≡ share b.n b.owners b.new c cell)
    (same_q : (cell : Cell) → share b.n b.owners b.old (guarded_by b.n c) cell ≡ share b.n b.owners b.new (guarded_by b.n c) cell)
    (drained : IsDrained b patch mems images c → IsDrained (settled b) None mems images c) where
  abbrev before : Scene
  before = record { sides = b; patch = patch; mems = mems; images = images }

  abbrev after : Scene
  after = record { sides = record { n = b.n; owners = b.owners; old = b.new; new = b.new }; patch = None; mems = mems; images = images }

  either_then : (m : ℕ) → ((cell : Cell) → share b.n b.owners b.old m cell ≡ share b.n b.owners b.new m cell) → (cell : Cell) (held : Held cell) → IsEither b m cell held → IsEither (settled b) m cell held
  either_then m same cell held (inl e) = inl (e ∙ same cell)
  either_then m same cell held (inr e) = inr e

  meta_then : (m : ℕ) → ((cell : Cell) → share b.n b.owners b.old m cell ≡ share b.n b.owners b.new m cell) → (k : Kept) → MetaFits b m k → MetaFits (settled b) m k
  meta_then m same k fits = record { form = fits.form; homes = λ pid region. either_then m same (Home pid region) _ (fits.homes pid region); areas = λ pid region. either_then m same (Areas pid region) _ (fits.areas pid region) }

  region_then : (m : ℕ) → ((cell : Cell) → share b.n b.owners b.old m cell ≡ share b.n b.owners b.new m cell) → (pid region : ℕ) (pages : List PageImage) → RegionFits b m pid region pages → RegionFits (settled b) m pid region pages
  region_then m same pid region pages fits vpn of = either_then m same (Page pid vpn) _ (fits vpn of)

  pages_then : (m : ℕ) → ((cell : Cell) → share b.n b.owners b.old m cell ≡ share b.n b.owners b.new m cell) → (pid region : ℕ) (pages : List PageImage) → PagesHanded b m pid region pages → PagesHanded (settled b) m pid region pages
  pages_then m same pid region pages handed = (handed.0, handed.1, region_then m same pid region pages handed.2)

  asked_then : (k : Asking) (got : Body) → GotAsked before c k got → GotAsked after c k got
  asked_then ForLog got is = (is.0, drained is.1)
  asked_then (ForMeta Spare) got is = (is.0, is.1, meta_then c same_c is.0 is.2)
  asked_then (ForMeta Main) got is = (is.0, is.1, meta_then (guarded_by b.n c) same_q is.0 is.2)
  asked_then (ForImages pid region) got is = (is.0, is.1, pages_then c same_c pid.0 region.0 is.0 is.2)
  asked_then (ForPages pid region) got is = (is.0, is.1, pages_then (guarded_by b.n c) same_q pid.0 region.0 is.0 is.2)
  asked_then ForNothing got is = is

  got_then : (move : Move) (got : Body) → MoveGot before c move got → MoveGot after c move got
  got_then (Asks to what) got is = asked_then (asking what) got is
  got_then (HandsMeta to role) got is = is
  got_then (HandsImages to pid region) got is = is
  got_then (HandsPages pid region) got is = is

  last_then : (done : List Move) (got : Option Body) → GotLast before c done got → GotLast after c done got
  last_then [] got is = tt
  last_then (move ∷ []) None is = is
  last_then (move ∷ []) (Some got) is = got_then move got is
  last_then (move ∷ next ∷ moves) got is = last_then (next ∷ moves) got is

  hands_then : (move : Move) (told : Body) → HandsOver b c move told → HandsOver (settled b) c move told
  hands_then (Asks to what) told is = is
  hands_then (HandsMeta to Main) told is = (is.0, is.1, meta_then c same_c is.0 is.2)
  hands_then (HandsMeta to Spare) told is = (is.0, is.1, meta_then (guarded_by b.n c) same_q is.0 is.2)
  hands_then (HandsImages to pid region) told is = (is.0, is.1, pages_then c same_c pid.0 region.0 is.0 is.2)
  hands_then (HandsPages pid region) told is = (is.0, is.1, pages_then (guarded_by b.n c) same_q pid.0 region.0 is.0 is.2)

  ask_then : (k : Asking) → AskDone before c k → AskDone after c k
  ask_then ForLog is = drained is
  ask_then (ForMeta role) is = tt
  ask_then (ForImages pid region) is = tt
  ask_then (ForPages pid region) is = tt
  ask_then ForNothing is = tt

  done_then : (x : Mem) (move : Move) → HasDone before c x move → HasDone after c x move
  done_then x (Asks to what) is = ask_then (asking what) is
  done_then x (HandsMeta to Main) is = meta_then c same_c x.main is
  done_then x (HandsMeta to Spare) is = meta_then (guarded_by b.n c) same_q x.spare is
  done_then x (HandsImages to pid region) is = region_then c same_c pid.0 region.0 x.pages is
  done_then x (HandsPages pid region) is = region_then (guarded_by b.n c) same_q pid.0 region.0 images is

  fits_then : (pending : List Message) (next : ℕ) (o : Open) (move : Move) → MoveFits before c pending next o move → MoveFits after c pending next o move
  fits_then pending next o move fits = record {
    to = fits.to;
    told = fits.told;
    is = fits.is;
    receiver = fits.receiver;
    hands = hands_then move fits.told fits.hands;
    by = fits.by;
    targets = fits.targets;
    sent = fits.sent;
    some = fits.some;
    below = fits.below;
    once = fits.once;
    answers = every (λ a is. (is.0, got_then move a.body is.1)) o.answers fits.answers;
    answering = every (λ m heard number to. let it = heard number to in (it.0, got_then move m.body it.1)) pending fits.answering;
  }

  pub between_then : (pending : List Message) (next : ℕ) (x : Mem) (done : List Move) (current : Option Open) (got : Option Body) (ahead : List Move) → Between before c pending next x done current got ahead → Between after c pending next x done current got ahead
  between_then pending next x done None got ahead all = (every (done_then x) done all.0, last_then done got all.1, all.2)
  between_then pending next x done (Some o) got [] all = all
  between_then pending next x done (Some o) got (move ∷ ahead) all = (every (done_then x) done all.0, fits_then pending next o move all.1, λ e. done_then x move (all.2 e))
