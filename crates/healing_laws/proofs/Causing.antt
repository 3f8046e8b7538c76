-- The plain map fits the memories' frames, and refusals have causes, at every moment of a legal list.
use Rattle.std.proofs.Common.{◌≡◌, ◌⊎◌, ◌/◌, ◌<◌, [], ◌∷◌, ◌∙◌, ℕ, Bool, List, None, Option, Some, ap, arith, cond, false, inl, inr, is_some, length, refl, slice_get, subst, sym, true}
use Rattle.std.proofs.lemmas.Bool.Decides.{eqb_tells}
use Rattle.lego_base.specs.declared.ids.MemId.{MemId}
use Rattle.lego_base.specs.declared.records.HomeEntry.{HomeEntry}
use Rattle.lego_base.specs.declared.records.PageImage.{PageImage}
use Rattle.lego_msg.specs.Completions.{completed, finished, owners_after}
use Rattle.lego_msg.specs.Legal.{Legal, May}
use Rattle.lego_msg.specs.Maps.{owner_of, page_in}
use Rattle.lego_msg.specs.Marks.{Call, Mark, Show}
use Rattle.lego_msg.specs.Plain.{Plain, effect, touched}
use Rattle.lego_msg.specs.Run.{after, run}
use Rattle.lego_msg.specs.Sends.{MayBegin, MaySend, begins, move_begins, sent}
use Rattle.lego_msg.specs.State.{Mem}
use Rattle.lego_msg.specs.Track.{Track, is_complete, memory_count}
use Rattle.lego_msg.specs.declared.event.Event.{Event}
use Rattle.lego_msg.specs.declared.event.Event.TheVariants.{Access, Complete, Crash, Deliver, Drop, Fill, Out, Send, Turn}
use Rattle.lego_msg.specs.declared.healing.Healing.{Healing}
use Rattle.lego_msg.specs.declared.healing.Move.{Move}
use Rattle.lego_msg.specs.declared.message.Message.{Message}
use Rattle.lego_msg.specs.declared.operation.Open.{Open}
use Rattle.lego_rest.proofs.Resting.{rest-is-middle}
use Rattle.lego_rest.specs.Fits.{PlainFits}
use Rattle.lego_rest.specs.Parts.{Page, is_owner, owns, plain_with, share}
use Rattle.lego_rest.specs.Pending.{IsUp}
use Rattle.lego_rest.specs.Rest.{AtRest, Middle}
use Rattle.rest_laws.proofs.Opened.{every}
use Rattle.rest_laws.specs.Causes.{IsTooMuch}
use Rattle.rest_laws.specs.GoingOn.{BeginsGranted, owners_with}
use Rattle.healing_laws.proofs.EndsBeside.{same_lost, same_owners}
use Rattle.healing_laws.proofs.Events.{every-event-keeps, every-list-keeps, in_relation}
use Rattle.healing_laws.proofs.Frames.{was_there}
use Rattle.healing_laws.proofs.LeadsBack.{Ends, Same, Shrinks, Stays, Steps, comes_same, completed_due, completed_steps, crashed_same}
use Rattle.healing_laws.proofs.TooMuch.{share_fits}
use Rattle.healing_laws.specs.Refusals.{FramesAreTheMachines, PlainMapsFit}
use Rattle.healing_laws.specs.Running.{GrantedAll, GrantedBeside, InRelation, IsGrantedThere, lost_in}

-- THE PLAIN MAP FITS: no memory has fewer frames than pages of it
abbrev pub Roomy : Track → Type 0
Roomy t = (k : ℕ) (s : Mem) → slice_get t.mems k ≡ Some s → IsTooMuch t.owners t.plain k s.frames → ⊥

-- where nothing is open a memory that is up holds its share
up_fits : (lost : Option ℕ) (t : Track) → Middle lost t → t.current ≡ None → (k : ℕ) (s : Mem) → IsUp lost k → slice_get t.mems k ≡ Some s → IsTooMuch t.owners t.plain k s.frames → ⊥
up_fits lost t middle closed k s up at = share_fits (memory_count t.shape) t.owners t.plain k s.frames s.pages (middle.forms k s at).pages (λ p v. by p v ((middle.memories k s up at).part.either (Page p v))) (middle.forms k s at).frames
  where
    by : (p v : ℕ) → (page_in s.pages p v ≡ share (memory_count t.shape) t.owners t.plain k (Page p v)) ⊎ (page_in s.pages p v ≡ share (memory_count t.shape) t.owners (plain_with t.current t.plain) k (Page p v)) → page_in s.pages p v ≡ share (memory_count t.shape) t.owners t.plain k (Page p v)
    by p v (inl e) = e
    by p v (inr e) = e ∙ ap (λ (c : Option Open). share (memory_count t.shape) t.owners (plain_with c t.plain) k (Page p v)) closed

pub rest_roomy : (t : Track) → AtRest t → Roomy t
rest_roomy t rest k s at = up_fits None t (rest-is-middle t rest) rest.closed k s tt at

same_roomy : (t u : Track) → Same t u → Roomy t → Roomy u
same_roomy t u same roomy k s at too =
    let was = was_there t.mems u.mems k s (same.frames k) at in
    roomy k was.before was.at (subst (λ (p : List HomeEntry × Plain × ℕ). IsTooMuch p.0 p.1 k p.2) (λ i. (same.owners i, same.plain i, was.frames i)) too)

-- an operation begins: regions that get an owner have no pages
grown_roomy : (t : Track) (owners : List HomeEntry) → PlainFits (memory_count t.shape) t.owners t.plain → ((pid region : ℕ) (o : MemId) → owner_of t.owners pid region ≡ Some o → owner_of owners pid region ≡ Some o) → Roomy t → (k : ℕ) (s : Mem) → slice_get t.mems k ≡ Some s → IsTooMuch owners t.plain k s.frames → ⊥
grown_roomy t owners fits grow roomy k s at too = roomy k s at (record { pages = too.pages; rise = too.rise; more = too.more; there = every each too.pages too.there })
  where
    each : (p : PageImage) → (owns owners k p.pid.0 (p.vpn.0 / 512) ≡ true) × (touched t.plain p.pid.0 p.vpn.0 ≡ true) → (owns t.owners k p.pid.0 (p.vpn.0 / 512) ≡ true) × (touched t.plain p.pid.0 p.vpn.0 ≡ true)
    each p it = (by (owner_of t.owners p.pid.0 (p.vpn.0 / 512)) refl, it.1)
      where
        by : (c : Option MemId) → owner_of t.owners p.pid.0 (p.vpn.0 / 512) ≡ c → is_owner k (owner_of t.owners p.pid.0 (p.vpn.0 / 512)) ≡ true
        by None e = let both : false ≡ true = sym (ap is_some (fits.pages p.pid.0 p.vpn.0 e)) ∙ it.1 in cc both
        by (Some o) e = ap (is_owner k) (e ∙ sym (grow p.pid.0 (p.vpn.0 / 512) o e)) ∙ it.0

-- an operation ends, beside a healing or with nothing lost
ends_roomy : (t : Track) (o : Open) → t.current ≡ Some o → t.stopped ≡ false → t.owed ≡ [] → is_complete t.net o ≡ true → InRelation t → InRelation (finished t (Some o)) → Roomy t → Roomy (finished t (Some o))
ends_roomy t o is goes_on settled complete middle ended roomy k s at = by t.healing refl
  where
    up_one : (h : Option Healing) → t.healing ≡ h → IsUp (lost_in h) k → IsTooMuch (owners_after o.operation t.owners) (effect o.operation t.plain) k s.frames → ⊥
    up_one h heals up = up_fits (lost_in h) (finished t (Some o)) (subst (λ (g : Option Healing). Middle (lost_in g) (finished t (Some o))) heals ended) refl k s up at

    by : (h : Option Healing) → t.healing ≡ h → IsTooMuch (owners_after o.operation t.owners) (effect o.operation t.plain) k s.frames → ⊥
    by None heals too = up_one None heals tt too
    by (Some h) heals too = elim (eqb_tells h.memory.0 k) [
      | inr differ ↦ up_one (Some h) heals differ.1 too
      | inl same ↦ roomy k s at (kept same.1)
    ]
      where
        busy : Middle (Some h.memory.0) (record t { current = Some o; healing = Some h; owed = [] })
        busy = subst (λ (p : List Message × Option Open × Option Healing). Middle (lost_in p.2) (record t { owed = p.0; current = p.1; healing = p.2 })) (λ i. (settled i, is i, heals i)) middle

        kept : h.memory.0 ≡ k → IsTooMuch t.owners t.plain k s.frames
        kept same = record {
          pages = too.pages;
          rise = too.rise;
          more = too.more;
          there = every each too.pages too.there;
        }
          where
            each : (p : PageImage) → (owns (owners_after o.operation t.owners) k p.pid.0 (p.vpn.0 / 512) ≡ true) × (touched (effect o.operation t.plain) p.pid.0 p.vpn.0 ≡ true) → (owns t.owners k p.pid.0 (p.vpn.0 / 512) ≡ true) × (touched t.plain p.pid.0 p.vpn.0 ≡ true)
            each p it =
                let mine : owns t.owners k p.pid.0 (p.vpn.0 / 512) ≡ true = ap (λ (owners : List HomeEntry). owns owners k p.pid.0 (p.vpn.0 / 512)) (sym (same_owners (Some h.memory.0) t o h goes_on complete busy)) ∙ it.0 in
                let lost_owns : owns t.owners h.memory.0 p.pid.0 (p.vpn.0 / 512) ≡ true = ap (λ (j : ℕ). owns t.owners j p.pid.0 (p.vpn.0 / 512)) same ∙ mine in
                let shares = same_lost (Some h.memory.0) t o h goes_on complete busy (Page p.pid.0 p.vpn.0) in
                let pages_same : t.plain.page p.pid.0 p.vpn.0 ≡ (effect o.operation t.plain).page p.pid.0 p.vpn.0 =
                sym (ap (λ (b : Bool). cond b (t.plain.page p.pid.0 p.vpn.0) None) lost_owns) ∙ shares ∙ ap (λ (b : Bool). cond b ((effect o.operation t.plain).page p.pid.0 p.vpn.0) None) lost_owns in
                (mine, ap is_some pages_same ∙ it.1)

-- EVERY EVENT keeps it
roomy_sent : (t : Track) (m : Message) → MaySend t m t.owed t.healing t.current → GrantedBeside t t.healing → InRelation t → Roomy t → Roomy (sent t m t.owed t.healing t.current)
roomy_sent t m may granted middle roomy = by t.owed t.healing t.current refl refl refl may
  where
    moves : (h : Healing) (ms : List Move) → Roomy (move_begins t m h ms)
    moves h [] = roomy
    moves h (move ∷ ms) = roomy

    begin : (due : List Mark) → t.due ≡ due → MayBegin t m due → BeginsGranted t [] None due → Roomy (begins t m due)
    begin [] is may grants = absurd may
    begin (Show e ∷ due) is may grants = absurd may
    begin (Call o ∷ due) is may grants = grown_roomy t (owners_with o t.owners) middle.plain grants.grow roomy

    by : (owed : List Message) (h : Option Healing) (c : Option Open) → t.owed ≡ owed → t.healing ≡ h → t.current ≡ c → MaySend t m owed h c → Roomy (sent t m owed h c)
    by (x ∷ more) h c owing heals is may = roomy
    by [] (Some h) c owing heals is may = moves h h.moves
    by [] None (Some o) owing heals is may = roomy
    by [] None None owing heals is may = begin t.due refl may.1 (subst (λ (p : List Message × Option Open). BeginsGranted t p.0 p.1 t.due) (λ i. (owing i, is i)) (subst (GrantedBeside t) heals granted))

pub roomy_after : (t : Track) (e : Event) → May t e → IsGrantedThere t e → InRelation t → Roomy t → Roomy (after t e)
roomy_after t (Turn number pid) may granted middle roomy = roomy
roomy_after t (Access cpu pid address kind bytes) may granted middle roomy = roomy
roomy_after t (Fill pid address bytes) may granted middle roomy = roomy
roomy_after t (Drop cpu pid line) may granted middle roomy = roomy
roomy_after t (Out stream bytes) may granted middle roomy = roomy
roomy_after t (Send m) may granted middle roomy = roomy_sent t m may granted middle roomy
roomy_after t (Deliver m) may granted middle roomy = same_roomy t (after t (Deliver m)) (comes_same t m m.to) roomy
roomy_after t (Crash number inc) may granted middle roomy = same_roomy t (after t (Crash number inc)) (crashed_same t number) roomy
roomy_after t (Complete op) may granted middle roomy = by (completed_steps t op may)
  where
    by : Steps t (completed t op.0 t.healing) → Roomy (completed t op.0 t.healing)
    by (Stays same) = same_roomy t (completed t op.0 t.healing) same roomy
    by (Ends o is complete ended) = subst Roomy (sym ended) (ends_roomy t o is may.goes_on may.owed complete middle (subst InRelation ended (every-event-keeps t (Complete op) may tt middle)) roomy)
    by (Shrinks less) = absurd (same_due less)
      where
        same_due : length (completed t op.0 t.healing).due < length t.due → ⊥
        same_due less = let same : length (completed t op.0 t.healing).due ≡ length t.due = ap length (completed_due t op.0 t.healing) in omega (arith, less, same)

pub roomy_list : (t : Track) (events : List Event) → InRelation t → Roomy t → Legal t events → GrantedAll t events → Roomy (run t events)
roomy_list t [] middle roomy legal granted = roomy
roomy_list t (e ∷ events) middle roomy legal granted = roomy_list (after t e) events (every-event-keeps t e legal.0 granted.0 middle) (roomy_after t e legal.0 granted.0 middle roomy) legal.1 granted.1

pub frames-are-the-machines : FramesAreTheMachines
frames-are-the-machines t events rest legal granted k s at = ((every-list-keeps t events rest legal granted).forms k s at).machine

pub plain-maps-fit : PlainMapsFit
plain-maps-fit t events rest legal granted = roomy_list t events (in_relation None t (rest-is-middle t rest)) (rest_roomy t rest) legal granted
