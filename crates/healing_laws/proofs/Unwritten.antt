-- Nothing is written to a log while no write is open, whatever crashes and is healed.
use Rattle.std.proofs.Common.{◌≡◌, ◌⊎◌, [], ◌∷◌, ◌∙◌, ℕ, List, None, Option, Some, ap, false, inl, inr, refl, subst, sym, true}
use Rattle.lego_base.specs.declared.records.HomeEntry.{HomeEntry}
use Rattle.lego_msg.specs.Deliveries.{MayDeliver, taken}
use Rattle.lego_msg.specs.Operations.{asks_of, messages_of}
use Rattle.lego_msg.specs.Places.{is_among, is_issuer, memory}
use Rattle.lego_msg.specs.State.{Mem, lost}
use Rattle.lego_msg.specs.Table.{handled}
use Rattle.lego_msg.specs.Track.{Track, healing_move, memory_count}
use Rattle.lego_msg.specs.declared.body.Body.{Body}
use Rattle.lego_msg.specs.declared.healing.Healing.{Healing}
use Rattle.lego_msg.specs.declared.healing.Move.{Move}
use Rattle.lego_msg.specs.declared.healing.Move.TheVariants.{Asks, HandsImages, HandsMeta, HandsPages}
use Rattle.lego_msg.specs.declared.message.Message.{Message}
use Rattle.lego_msg.specs.declared.operation.Open.{Open}
use Rattle.lego_msg.specs.declared.operation.Operation.{Operation}
use Rattle.lego_msg.specs.declared.place.Place.{Place}
use Rattle.lego_msg.specs.declared.place.Place.TheVariants.{Manager, Memory, Processor, Storage}
use Rattle.lego_rest.specs.Answers.{all_pending, is_writing}
use Rattle.lego_rest.specs.Heals.{HandsOver, HealFits, MoveFits, scene_of}
use Rattle.lego_rest.specs.Parts.{Sides}
use Rattle.lego_rest.specs.Pending.{Among, AnAnswer, First, HandedOn, IsOf, OfOpen, Reaction, Goes, IsBatch, IsOfMove, Left, MayPend, OfBackground, OfMove, OfOperation, Pends, Returns}
use Rattle.lego_rest.specs.Rest.{CurrentFits, Middle}
use Rattle.rest_laws.proofs.Bare.{calm_on}
use Rattle.rest_laws.proofs.Emptied.{first_quiet, hands_quiet, is_log_write, logs-grow-by-writes, no_reaction}
use Rattle.rest_laws.proofs.Taken.{all_taken, whole}
use Rattle.rest_laws.specs.Logs.{IsEndOf}
use Rattle.healing_laws.proofs.MovesAre.{AskIs, MoveIs, OfImages, OfLog, OfMain, OfPages, OfSpare}
use Rattle.healing_laws.proofs.OnItsWay.{on_its_way}
use Rattle.healing_laws.specs.Running.{InRelation, lost_in}
use Rattle.lego_msg.specs.declared.place.Place.TheVariants as place
use Rattle.rest_laws.proofs.Opened.{all_among}
use Rattle.rest_laws.proofs.Goes.{called_of}

-- NO MESSAGE OF A MOVE is for a log
asked_quiet : (n c : ℕ) (owners : List HomeEntry) (to : Place) (what : Body) → AskIs n c owners to what → is_log_write what ≡ false
asked_quiet n c owners to what (OfLog e at) = ap is_log_write e
asked_quiet n c owners to what (OfSpare who e at) = ap is_log_write e
asked_quiet n c owners to what (OfMain who e at) = ap is_log_write e
asked_quiet n c owners to what (OfImages pid region e at mine) = ap is_log_write e
asked_quiet n c owners to what (OfPages pid region e at mine) = ap is_log_write e

told_quiet : (w : Sides) (n c : ℕ) (owners : List HomeEntry) (move : Move) (told : Body) → MoveIs n c owners move → HandsOver w c move told → is_log_write told ≡ false
told_quiet w n c owners (Asks to what) told is hands = ap is_log_write hands ∙ asked_quiet n c owners to what is
told_quiet w n c owners (HandsMeta to role) told is hands = ap is_log_write hands.1
told_quiet w n c owners (HandsImages to pid region) told is hands = ap is_log_write hands.1
told_quiet w n c owners (HandsPages pid region) told is hands = ap is_log_write hands.1

move_quiet : (lost : Option ℕ) (t : Track) → t.stopped ≡ false → Middle lost t → (x : Message) → IsOfMove x (healing_move t.healing) → is_issuer x.to ≡ false → is_log_write x.body ≡ false
move_quiet lost t goes_on middle x = by t.healing middle.healing
  where
    by : (h : Option Healing) → HealFits lost t h → IsOfMove x (healing_move h) → is_issuer x.to ≡ false → is_log_write x.body ≡ false
    by None fits of component = absurd of
    by (Some h) fits of component = under h.current refl of
      where
        under : (current : Option Open) → h.current ≡ current → IsOfMove x current → is_log_write x.body ≡ false
        under None now of = absurd of
        under (Some o) now of =
            let way = on_its_way lost t h.memory.0 h (fits.1 goes_on) o middle now in
            each way.move way.of way.fits of.1
          where
            each : (move : Move) → MoveIs (memory_count t.shape) h.memory.0 t.owners move → MoveFits (scene_of t) h.memory.0 (all_pending t) t.next o move → Among x (messages_of o.by o.number (asks_of 0 o.operation)) ⊎ ((x.to ≡ place.Manager) × (is_among x.from o.targets ≡ true)) → is_log_write x.body ≡ false
            each move is fit (inl first) = first_quiet (subst (λ (p : Operation). Among x (messages_of o.by o.number (asks_of 0 p))) fit.is first)
              where
                first_quiet : Among x (record { from = o.by; to = fit.to; op = o.number; body = fit.told } ∷ []) → is_log_write x.body ≡ false
                first_quiet (inl e) = ap (λ (y : Message). is_log_write y.body) e ∙ told_quiet (scene_of t).sides (memory_count t.shape) h.memory.0 t.owners move fit.told is fit.hands
                first_quiet (inr e) = absurd e
            each move is fit (inr answer) = let both : false ≡ true = sym component ∙ ap is_issuer answer.0 in cc both

module _ (t : Track) (m : Message) (may : MayDeliver t m) (middle : InRelation t) (unwritten : is_writing t.current ≡ false) (k : ℕ) (to : m.to ≡ memory k) where
  of_open_quiet : (c : Option Open) → CurrentFits t c → is_writing c ≡ false → IsOf (lost_in t.healing) (memory_count t.shape) t.plain m c → is_log_write m.body ≡ false
  of_open_quiet None fits none of = absurd of
  of_open_quiet (Some one) fits none of = by of.2
    where
      by : OfOpen (memory_count t.shape) t.plain m one → is_log_write m.body ≡ false
      by (First among) = all_among (λ (x : Message). is_log_write x.body ≡ false) (messages_of one.by one.number (asks_of (memory_count t.shape) one.operation)) m among (first_quiet (memory_count t.shape) one.by one.number one.operation none (called_of t.owners t.plain one.operation fits.0.fits))
      by (Reaction from how) = absurd (no_reaction (memory_count t.shape) one.operation m.to m.body none how)
      by (HandedOn how) = hands_quiet (memory_count t.shape) t.plain one.by one.operation m how
      by (AnAnswer back target says) = let both : false ≡ true = ap is_issuer (sym to ∙ back) ∙ fits.0.by in cc both

  quiet : is_log_write m.body ≡ false
  quiet = by pend.kind
    where
      pend : MayPend (lost_in t.healing) (memory_count t.shape) t.plain t.current (healing_move t.healing) t.next m
      pend = (all_taken (MayPend (lost_in t.healing) (memory_count t.shape) t.plain t.current (healing_move t.healing) t.next) (all_pending t) (all_pending (taken t)) m (whole t m may) middle.pending).0

      batch : (j : ℕ) → IsBatch m j → is_log_write m.body ≡ false
      batch j (Goes from to_ patches is) = ap is_log_write is
      batch j (Returns from to_ is) = ap is_log_write is

      by : Pends (lost_in t.healing) (memory_count t.shape) t.plain t.current (healing_move t.healing) t.next m → is_log_write m.body ≡ false
      by (OfOperation of) = of_open_quiet t.current middle.current unwritten of
      by (OfMove of) = move_quiet (lost_in t.healing) t (calm_on t may.calm) middle m of (ap is_issuer to)
      by (OfBackground of) = batch of.of of.batch
      by (Left old) = ap is_log_write old.drained

  pub log_ends : (s : Mem) → IsEndOf (handled s m).0.log s.log
  log_ends s = logs-grow-by-writes s m (λ patch is. let both : false ≡ true = sym quiet ∙ ap is_log_write is in cc both)
