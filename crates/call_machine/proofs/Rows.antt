-- What a call over a machine says by its row: where it stopped, and for the process that calls.
use Rattle.std.proofs.Common.{◌≡◌, ℕ, true, refl, sym, ◌∙◌, ap, subst, List, [], ◌∷◌, ◌++◌, Option, Some, None, IfSome, IfOk, Result, Ok, Err, OnOk, append_assoc, append-nil}
use Rattle.std.proofs.lemmas.Bool.{eqb-true}
use Rattle.lego_base.specs.declared.stops.Halt.{Halt}
use Rattle.linux_model.specs.State.{Kernel, Process, unbooted}
use Rattle.linux_model.specs.Processes.{process}
use Rattle.linux_model.specs.Effects.{Effect}
use Rattle.linux_model.specs.Called.{Called, Gives, Becomes, Waits, Death, following}
use Rattle.linux_model.specs.Held.{Held, held_in, with_held, held_after_all}
use Rattle.linux_model.specs.Laws.{Still}
use Rattle.linux_model.specs.Managed.{Managed, managed_in, with_managed, managed_after_all}
use Rattle.linux_model.proofs.Holding.{held_goes_alone}
use Rattle.linux_model.proofs.Managing.{managed-append, managed_goes_alone}
use Rattle.linux_model.proofs.fits.Found.{found_pid}
use Rattle.call_machine.specs.declared.end.CallEnd.{CallEnd}
use Rattle.call_machine.specs.declared.end.CallEnd.TheVariants.{Value, Goes, Waits as Waiting, Dies}
use Rattle.call_machine.specs.Lent.{AllApart, Manages, Ran, ended, kernel_of}
use Rattle.call_machine.specs.Lawful.{Lawful}
use Rattle.call_machine.specs.Laws.{effects_of}
use Rattle.call_machine.proofs.Stops.{stops_follow}

-- what holds of the process that is there holds if one is there
pub for_process : (o : Option Process) (Q : Process → Type 0) → ((p : Process) → o ≡ Some p → Q p) → IfSome o Q
for_process (Some p) Q f = f p refl
for_process None Q f = tt

-- the same with its pid
pub each_process : (man : Managed) (pid : ℕ) (Q : Process → Type 0) → ((p : Process) → p.pid ≡ pid → process man.procs pid ≡ Some p → Q p) → IfSome (process man.procs pid) Q
each_process man pid Q f = for_process (process man.procs pid) Q (λ p there. f p (eqb-true p.pid pid (found_pid man.procs pid p there)) there)

-- and what holds of a process that is there
pub of_process : (man : Managed) (pid : ℕ) (Q : Process → Type 0) (p : Process) → process man.procs pid ≡ Some p → IfSome (process man.procs pid) Q → Q p
of_process man pid Q p there h = subst (λ (o : Option Process). IfSome o Q) there h

-- what follows from what a success says
pub on_ok : {A E : Type 0} (P Q : Type 0) (r : Result A E) → (P → Q) → OnOk r P → OnOk r Q
on_ok P Q (Ok value) f h = f h
on_ok P Q (Err error) f h = h

-- ---- questions

-- what changes nothing changes nothing of what is held and of what is managed
pub still_holds : (es : List Effect) → Still es → (h : Held) → held_after_all es h ≡ h
still_holds es still h = sym (held_goes_alone es (with_held h (unbooted []))) ∙ ap held_in (still (with_held h (unbooted [])))

pub still_manages : (es : List Effect) → Still es → (m : Managed) → managed_after_all es m ≡ m
still_manages es still m = sym (managed_goes_alone es (with_managed m (unbooted []))) ∙ ap managed_in (still (with_managed m (unbooted [])))

-- effects after others that change nothing that is managed
pub managed_over : (es fs : List Effect) (man man' : Managed) → managed_after_all es man ≡ man → managed_after_all fs man ≡ man' → managed_after_all (es ++ fs) man ≡ man'
managed_over es fs man man' still is = managed-append es fs man ∙ ap (managed_after_all fs) still ∙ is

-- a row that is another one
pub ran_as : {X : Type 0} (does : X → X → List Effect → Type 0) (old new : X) (man man' : Managed) (row row' : Called) (end : List Effect → Called) → row ≡ row' → Ran does old new man man' row' end → Ran does old new man man' row end
ran_as does old new man man' row row' end is r = record { effects = r.effects; row_is = is ∙ r.row_is; did = r.did; managed = r.managed }

-- ---- effects before what comes

pub following_both : (es fs : List Effect) (row : Called) → following es (following fs row) ≡ following (es ++ fs) row
following_both es fs (Gives effects value) = ap (λ (gs : List Effect). Gives gs value) (sym (append_assoc es fs effects))
following_both es fs (Becomes effects cpu) = ap (λ (gs : List Effect). Becomes gs cpu) (sym (append_assoc es fs effects))
following_both es fs (Waits effects moved len) = ap (λ (gs : List Effect). Waits gs moved len) (sym (append_assoc es fs effects))
following_both es fs (Death effects status) = ap (λ (gs : List Effect). Death gs status) (sym (append_assoc es fs effects))

pub following_none : (row : Called) → following [] row ≡ row
following_none (Gives effects value) = refl
following_none (Becomes effects cpu) = refl
following_none (Waits effects moved len) = refl
following_none (Death effects status) = refl

following_ended : (end : CallEnd) (es fs : List Effect) → following es (ended end fs) ≡ ended end (es ++ fs)
following_ended (Value value) es fs = refl
following_ended (Goes cpu) es fs = refl
following_ended (Waiting w) es fs = refl
following_ended (Dies status) es fs = refl

pub following_has : (es : List Effect) (row : Called) → effects_of (following es row) ≡ es ++ effects_of row
following_has es (Gives effects value) = refl
following_has es (Becomes effects cpu) = refl
following_has es (Waits effects moved len) = refl
following_has es (Death effects status) = refl

module _ {X : Type 0} (held : X → Held) (does stops : X → X → List Effect → Type 0) (laws : Lawful held does stops) where
  -- a stop in the first effects of the row
  pub stops_in : (old new : X) (es : List Effect) (row rest : Called) → row ≡ following es rest → stops old new es → stops old new (effects_of row)
  stops_in = (stops_follow held does stops laws).following_row

  -- a stop after effects that happened, in others
  pub stops_after : (old mid new : X) (es fs more : List Effect) (row : Called) → effects_of row ≡ es ++ (fs ++ more) → does old mid es → stops mid new fs → stops old new (effects_of row)
  stops_after old mid new es fs more row is did stop =
      subst (stops old new) (sym is) (laws.stops_then old mid new es (fs ++ more) did (laws.stops_front mid new fs more stop))

  -- effects that happened, whatever would follow
  pub stops_done : (old new : X) (es more : List Effect) (row : Called) → effects_of row ≡ es ++ more → does old new es → stops old new (effects_of row)
  stops_done old new es more row is did =
      subst (stops old new) (sym is) (laws.stops_front old new es more ((stops_follow held does stops laws).did old new es did))

  -- the same for effects that are written out
  pub stops_mid : (old mid new : X) (es fs more : List Effect) → does old mid es → stops mid new fs → stops old new (es ++ (fs ++ more))
  stops_mid old mid new es fs more did stop = laws.stops_then old mid new es (fs ++ more) did (laws.stops_front mid new fs more stop)

  pub stops_end : (old new : X) (es more : List Effect) → does old new es → stops old new (es ++ more)
  stops_end old new es more did = laws.stops_front old new es more ((stops_follow held does stops laws).did old new es did)

  -- a stop after the first effects of a row, in the second ones
  pub stops_second : (old mid new : X) (es fs : List Effect) (row rest : Called) → row ≡ following es (following fs rest) → does old mid es → stops mid new fs → stops old new (effects_of row)
  stops_second old mid new es fs row rest is did stop =
      let all : effects_of row ≡ es ++ (fs ++ effects_of rest) = ap effects_of is ∙ following_has es (following fs rest) ∙ ap (λ (gs : List Effect). es ++ gs) (following_has fs rest) in
      subst (stops old new) (sym all) (stops_mid old mid new es fs (effects_of rest) did stop)

  -- a call that hands on
  pub stops_as : (old new : X) (row row' : Called) → row ≡ row' → stops old new (effects_of row') → stops old new (effects_of row)
  stops_as old new row row' is stop = subst (λ (r : Called). stops old new (effects_of r)) (sym is) stop

  -- a stop in what follows effects that happened
  pub stops_following : (old mid new : X) (es : List Effect) (row rest : Called) → row ≡ following es rest → does old mid es → stops mid new (effects_of rest) → stops old new (effects_of row)
  stops_following old mid new es row rest is did stop = subst (stops old new) (sym (ap effects_of is ∙ following_has es rest)) (laws.stops_then old mid new es (effects_of rest) did stop)

  -- for the process that calls: where the machine stopped, and how the call ended
  pub stops_each : (old new : X) (man : Managed) (pid : ℕ) (row : Process → Kernel → Called) (k : Kernel) → ((p : Process) → p.pid ≡ pid → stops old new (effects_of (row p (kernel_of man (held old) k)))) → IfSome (process man.procs pid) (λ p. stops old new (effects_of (row p (kernel_of man (held old) k))))
  stops_each old new man pid row k f = each_process man pid (λ p. stops old new (effects_of (row p (kernel_of man (held old) k)))) (λ p is there. f p is)

  pub ends_each : (old new : X) (man man' : Managed) (pid : ℕ) (row : Process → Kernel → Called) (end : CallEnd) (k : Kernel) → ((p : Process) → p.pid ≡ pid → process man.procs pid ≡ Some p → Ran does old new man man' (row p (kernel_of man (held old) k)) (ended end)) → IfSome (process man.procs pid) (λ p. Ran does old new man man' (row p (kernel_of man (held old) k)) (ended end))
  ends_each old new man man' pid row end k f = each_process man pid (λ p. Ran does old new man man' (row p (kernel_of man (held old) k)) (ended end)) f

  -- a call that hands on: its row is that of the other
  pub ends_handed : (old new : X) (man man' : Managed) (pid : ℕ) (row row' : Process → Kernel → Called) (result : Result CallEnd Halt) (k : Kernel) → ((p : Process) → p.pid ≡ pid → process man.procs pid ≡ Some p → row p (kernel_of man (held old) k) ≡ row' p (kernel_of man (held old) k))
      → IfSome (process man.procs pid) (λ p. IfOk result (λ end. Ran does old new man man' (row' p (kernel_of man (held old) k)) (ended end)))
      → IfSome (process man.procs pid) (λ p. IfOk result (λ end. Ran does old new man man' (row p (kernel_of man (held old) k)) (ended end)))
  ends_handed old new man man' pid row row' result k same h =
      each_process man pid (λ p. IfOk result (λ end. Ran does old new man man' (row p (kernel_of man (held old) k)) (ended end)))
      (λ p is there. subst (λ (r : Called). IfOk result (λ end. Ran does old new man man' r (ended end))) (sym (same p is there))
      (of_process man pid (λ p. IfOk result (λ end. Ran does old new man man' (row' p (kernel_of man (held old) k)) (ended end))) p there h))

  pub stops_handed : (old new : X) (man : Managed) (pid : ℕ) (row row' : Process → Kernel → Called) (k : Kernel) → ((p : Process) → p.pid ≡ pid → process man.procs pid ≡ Some p → row p (kernel_of man (held old) k) ≡ row' p (kernel_of man (held old) k))
      → IfSome (process man.procs pid) (λ p. stops old new (effects_of (row' p (kernel_of man (held old) k))))
      → IfSome (process man.procs pid) (λ p. stops old new (effects_of (row p (kernel_of man (held old) k))))
  stops_handed old new man pid row row' k same h =
      each_process man pid (λ p. stops old new (effects_of (row p (kernel_of man (held old) k))))
      (λ p is there. stops_as old new (row p (kernel_of man (held old) k)) (row' p (kernel_of man (held old) k)) (same p is there)
      (of_process man pid (λ p. stops old new (effects_of (row' p (kernel_of man (held old) k)))) p there h))

  -- what is held after questions
  pub held_still : (old new : X) (es : List Effect) → does old new es → ((h : Held) → held_after_all es h ≡ h) → held new ≡ held old
  held_still = (stops_follow held does stops laws).still

  pub held_asked : (old new : X) (es : List Effect) → Still es → does old new es → held new ≡ held old
  held_asked old new es still did = laws.holds old new es did ∙ still_holds es still (held old)

  -- a call that hands on after questions
  pub ran_following : (old mid new : X) (man man' : Managed) (es : List Effect) (row rest : Called) (result : Result CallEnd Halt) → Still es → does old mid es → row ≡ following es rest → IfOk result (λ end. Ran does mid new man man' rest (ended end)) → IfOk result (λ end. Ran does old new man man' row (ended end))
  ran_following old mid new man man' es row rest (Ok end) still asked is r = record {
    effects = es ++ r.effects;
    row_is = is ∙ ap (following es) r.row_is ∙ following_ended end es r.effects;
    did = laws.both old mid new es r.effects asked r.did;
    managed = managed-append es r.effects man ∙ ap (managed_after_all r.effects) (still_manages es still man) ∙ r.managed;
  }
  ran_following old mid new man man' es row rest (Err halt) still asked is r = r

  pub ends_after : (old mid new : X) (man man' : Managed) (pid : ℕ) (es : List Effect) (row row' : Process → Kernel → Called) (result : Result CallEnd Halt) (k : Kernel) → Still es → does old mid es → ((p : Process) → p.pid ≡ pid → row p (kernel_of man (held old) k) ≡ following es (row' p (kernel_of man (held old) k)))
      → IfSome (process man.procs pid) (λ p. IfOk result (λ end. Ran does mid new man man' (row' p (kernel_of man (held mid) k)) (ended end)))
      → IfSome (process man.procs pid) (λ p. IfOk result (λ end. Ran does old new man man' (row p (kernel_of man (held old) k)) (ended end)))
  ends_after old mid new man man' pid es row row' result k still asked same h =
      each_process man pid (λ p. IfOk result (λ end. Ran does old new man man' (row p (kernel_of man (held old) k)) (ended end)))
      (λ p is there. ran_following old mid new man man' es (row p (kernel_of man (held old) k)) (row' p (kernel_of man (held old) k)) result still asked (same p is)
      (subst (λ (g : Held). IfOk result (λ end. Ran does mid new man man' (row' p (kernel_of man g k)) (ended end))) (held_asked old mid es still asked)
      (of_process man pid (λ p. IfOk result (λ end. Ran does mid new man man' (row' p (kernel_of man (held mid) k)) (ended end))) p there h)))

  pub stops_after_asking : (old mid new : X) (man : Managed) (pid : ℕ) (es : List Effect) (row row' : Process → Kernel → Called) (k : Kernel) → Still es → does old mid es → ((p : Process) → p.pid ≡ pid → row p (kernel_of man (held old) k) ≡ following es (row' p (kernel_of man (held old) k)))
      → IfSome (process man.procs pid) (λ p. stops mid new (effects_of (row' p (kernel_of man (held mid) k))))
      → IfSome (process man.procs pid) (λ p. stops old new (effects_of (row p (kernel_of man (held old) k))))
  stops_after_asking old mid new man pid es row row' k still asked same h =
      each_process man pid (λ p. stops old new (effects_of (row p (kernel_of man (held old) k))))
      (λ p is there. stops_following old mid new es (row p (kernel_of man (held old) k)) (row' p (kernel_of man (held old) k)) (same p is) asked
      (subst (λ (g : Held). stops mid new (effects_of (row' p (kernel_of man g k)))) (held_asked old mid es still asked)
      (of_process man pid (λ p. stops mid new (effects_of (row' p (kernel_of man (held mid) k)))) p there h)))

  -- an answer after questions
  pub ran_asked : (old new : X) (man : Managed) (es : List Effect) (row : Called) (value : ℕ) → Still es → does old new es → row ≡ following es (Gives [] value) → Ran does old new man man row (ended (Value value))
  ran_asked old new man es row value still asked is = record {
    effects = es;
    row_is = is ∙ ap (λ (gs : List Effect). Gives gs value) (append-nil es);
    did = asked;
    managed = still_manages es still man;
  }

  -- nothing happened
  pub stops_at_once : (old : X) (row : Called) → stops old old (effects_of row)
  stops_at_once old row = laws.stops_front old old [] (effects_of row) (laws.not_begun old)

  -- effects that are the manager's alone
  pub apart_all : (a : X) (es : List Effect) → AllApart es → does a a es
  apart_all a [] all = laws.none a
  apart_all a (e ∷ es) all = laws.both a a a (e ∷ []) es (laws.apart a e all.0) (apart_all a es all.1)

  -- a part of a call that is the manager's alone, after questions
  pub ran_after : (old new : X) (man man' : Managed) (asks : List Effect) (row rest : Called) (value : ℕ) → row ≡ following asks rest → does old new asks → managed_after_all asks man ≡ man → Manages man man' rest value → Ran does old new man man' row (λ es. Gives es value)
  ran_after old new man man' asks row rest value is did still part = record {
    effects = asks ++ part.effects;
    row_is = is ∙ ap (following asks) part.row_is;
    did = laws.both old new new asks part.effects did (apart_all new part.effects part.apart);
    managed = managed_over asks part.effects man man' still part.managed;
  }

  pub ran_alone : (old : X) (man man' : Managed) (row : Called) (value : ℕ) → Manages man man' row value → Ran does old old man man' row (λ es. Gives es value)
  ran_alone old man man' row value part = record {
    effects = part.effects;
    row_is = part.row_is;
    did = apart_all old part.effects part.apart;
    managed = part.managed;
  }

  -- and it stopped nowhere
  pub stops_asked : (old new : X) (asks : List Effect) (row rest : Called) → row ≡ following asks rest → does old new asks → stops old new (effects_of row)
  stops_asked old new asks row rest is did = stops_in old new asks row rest is ((stops_follow held does stops laws).did old new asks did)

  -- where a call ended it stopped nowhere
  ended_stops : (old new : X) (man man' : Managed) (row : Called) (end : List Effect → Called) → ((es : List Effect) → effects_of (end es) ≡ es) → Ran does old new man man' row end → stops old new (effects_of row)
  ended_stops old new man man' row end its r = subst (stops old new) (sym (ap effects_of r.row_is ∙ its r.effects)) ((stops_follow held does stops laws).did old new r.effects r.did)

  pub ran_stops : (old new : X) (man man' : Managed) (o : Option Process) (row : Process → Called) (end : List Effect → Called) → ((es : List Effect) → effects_of (end es) ≡ es) → IfSome o (λ p. Ran does old new man man' (row p) end) → IfSome o (λ p. stops old new (effects_of (row p)))
  ran_stops old new man man' None row end its r = r
  ran_stops old new man man' (Some p) row end its r = ended_stops old new man man' (row p) end its r
