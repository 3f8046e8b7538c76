-- Messages on their way are in form, those of a move among them.
use Rattle.std.proofs.Common.{◌≡◌, ◌⊎◌, [], ◌∷◌, ◌∙◌, ℕ, List, None, Option, Some, ap, false, inl, inr, refl, subst, sym, true}
use Rattle.std.specs.List.{AllByRecursion}
use Rattle.lego_base.specs.declared.records.HomeEntry.{HomeEntry}
use Rattle.lego_base.specs.declared.records.SpaceAreas.{SpaceAreas}
use Rattle.lego_msg.specs.Form.{HasFile, InForm, IsRegionList}
use Rattle.lego_msg.specs.Maps.{areas_key, home_key}
use Rattle.lego_msg.specs.Operations.{asks_of, messages_of}
use Rattle.lego_msg.specs.Places.{is_among, is_issuer}
use Rattle.lego_msg.specs.Run.{run}
use Rattle.lego_msg.specs.State.{Disk}
use Rattle.lego_msg.specs.Track.{Track, healing_move, memory_count}
use Rattle.lego_msg.specs.declared.body.Body.{Body}
use Rattle.lego_msg.specs.declared.healing.Healing.{Healing}
use Rattle.lego_msg.specs.declared.healing.Move.{Move}
use Rattle.lego_msg.specs.declared.healing.Move.TheVariants.{Asks, HandsImages, HandsMeta, HandsPages}
use Rattle.lego_msg.specs.declared.message.Message.{Message}
use Rattle.lego_msg.specs.declared.operation.Open.{Open}
use Rattle.lego_msg.specs.declared.operation.Operation.{Operation}
use Rattle.lego_msg.specs.declared.place.Place.{Place}
use Rattle.lego_rest.specs.Answers.{all_pending}
use Rattle.lego_rest.specs.Fits.{ListFits}
use Rattle.lego_rest.specs.Heals.{HandsOver, HealFits, MoveFits, scene_of}
use Rattle.lego_rest.specs.Parts.{Sides}
use Rattle.lego_rest.specs.Pending.{Among, IsOfMove}
use Rattle.lego_rest.specs.Rest.{Middle}
use Rattle.rest_laws.proofs.Formed.{all_formed}
use Rattle.rest_laws.proofs.Opened.{every}
use Rattle.rest_laws.specs.Forms.{IsFormed}
use Rattle.healing_laws.proofs.Events.{every-list-keeps}
use Rattle.healing_laws.proofs.Handed.{each_once}
use Rattle.healing_laws.proofs.MovesAre.{AskIs, MoveIs, OfImages, OfLog, OfMain, OfPages, OfSpare}
use Rattle.healing_laws.proofs.OnItsWay.{on_its_way}
use Rattle.healing_laws.specs.Forms.{ListsKeepMessagesInForm, MessagesStayInForm}
use Rattle.healing_laws.specs.Running.{lost_in}
use Rattle.lego_msg.specs.declared.place.Place.TheVariants as place

abbrev Formed : Disk → Body → Type 0
Formed d told = InForm told × HasFile d told

asked_formed : (d : Disk) (n c : ℕ) (owners : List HomeEntry) (to : Place) (what : Body) → AskIs n c owners to what → Formed d what
asked_formed d n c owners to what (OfLog e there) = subst (Formed d) (sym e) (tt, tt)
asked_formed d n c owners to what (OfSpare who e there) = subst (Formed d) (sym e) (tt, tt)
asked_formed d n c owners to what (OfMain who e there) = subst (Formed d) (sym e) (tt, tt)
asked_formed d n c owners to what (OfImages pid region e there mine) = subst (Formed d) (sym e) (tt, tt)
asked_formed d n c owners to what (OfPages pid region e there mine) = subst (Formed d) (sym e) (tt, tt)

-- what a move hands over is in form
move_formed : (d : Disk) (b : Sides) (n c : ℕ) (owners : List HomeEntry) (move : Move) (told : Body) → MoveIs n c owners move → HandsOver b c move told → Formed d told
move_formed d b n c owners (Asks to what) told is hands = subst (Formed d) (sym hands) (asked_formed d n c owners to what is)
move_formed d b n c owners (HandsMeta to role) told is hands = subst (Formed d) (sym hands.1) ((each_once home_key hands.0.homes hands.2.form.homes, each_once areas_key hands.0.areas hands.2.form.areas, lists hands.0.areas hands.2.form.lists), tt)
  where
    lists : (areas : List SpaceAreas) → AllByRecursion ListFits areas → AllByRecursion (λ (a : SpaceAreas). IsRegionList a.region.0 a.areas) areas
    lists areas all = every (λ a fits. fits.0) areas all
move_formed d b n c owners (HandsImages to pid region) told is hands = subst (Formed d) (sym hands.1) (hands.2.0, tt)
move_formed d b n c owners (HandsPages pid region) told is hands = subst (Formed d) (sym hands.1) (hands.2.0, tt)

of_move_formed : (lost : Option ℕ) (t : Track) → t.stopped ≡ false → Middle lost t → (x : Message) → IsOfMove x (healing_move t.healing) → IsFormed t.disk x
of_move_formed lost t goes_on middle x = by t.healing middle.healing
  where
    by : (h : Option Healing) → HealFits lost t h → IsOfMove x (healing_move h) → IsFormed t.disk x
    by None fits of component = absurd of
    by (Some h) fits of component = under h.current refl of
      where
        under : (current : Option Open) → h.current ≡ current → IsOfMove x current → Formed t.disk x.body
        under None now of = absurd of
        under (Some o) now of =
            let way = on_its_way lost t h.memory.0 h (fits.1 goes_on) o middle now in
            each way.move way.of way.fits of.1
          where
            each : (move : Move) → MoveIs (memory_count t.shape) h.memory.0 t.owners move → MoveFits (scene_of t) h.memory.0 (all_pending t) t.next o move → Among x (messages_of o.by o.number (asks_of 0 o.operation)) ⊎ ((x.to ≡ place.Manager) × (is_among x.from o.targets ≡ true)) → Formed t.disk x.body
            each move is fit (inl first) = first_formed (subst (λ (p : Operation). Among x (messages_of o.by o.number (asks_of 0 p))) fit.is first)
              where
                first_formed : Among x (record { from = o.by; to = fit.to; op = o.number; body = fit.told } ∷ []) → Formed t.disk x.body
                first_formed (inl e) = subst (Formed t.disk) (sym (ap (λ (y : Message). y.body) e)) (move_formed t.disk (scene_of t).sides (memory_count t.shape) h.memory.0 t.owners move fit.told is fit.hands)
                first_formed (inr e) = absurd e
            each move is fit (inr answer) = let both : false ≡ true = sym component ∙ ap is_issuer answer.0 in cc both

pub messages-stay-in-form : MessagesStayInForm
messages-stay-in-form t goes_on middle = all_formed (lost_in t.healing) t middle (of_move_formed (lost_in t.healing) t goes_on middle)

pub lists-keep-messages-in-form : ListsKeepMessagesInForm
lists-keep-messages-in-form t events rest legal granted goes_on = messages-stay-in-form (run t events) goes_on (every-list-keeps t events rest legal granted)
