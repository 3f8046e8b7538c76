-- An operation that its caller may ask for: it is sound, its answers are true, and it leads back to rest.
use Rattle.std.proofs.Common.{◌≡◌, ◌<◌, ◌∙◌, ◌/◌, [], ◌∷◌, ℕ, Bool, List, None, Option, Some, ap, arith, false, length, refl, subst, sym, true}
use Rattle.std.specs.List.{AllByRecursion}
use Rattle.healing_laws.proofs.Answering.{answers-are-true-there}
use Rattle.healing_laws.proofs.Calling.{calls-are-playable, calls-drain-logs, calls-keep-empty-logs, calls_are_granted, calls_lead_back}
use Rattle.healing_laws.proofs.Events.{every-list-keeps}
use Rattle.healing_laws.specs.Running.{IsOver}
use Rattle.lego_base.specs.Keys.{put_all}
use Rattle.lego_base.specs.Space.{perms_of}
use Rattle.lego_base.specs.declared.ids.MemId.{MemId}
use Rattle.lego_base.specs.declared.perms.Perms.{Perms}
use Rattle.lego_base.specs.declared.records.HomeEntry.{HomeEntry}
use Rattle.lego_base.specs.declared.stops.Halt.{Halt}
use Rattle.lego_msg.proofs.Flow.{shape_along}
use Rattle.lego_msg.proofs.Going.{ends_at}
use Rattle.lego_msg.proofs.Senders.{same_some}
use Rattle.lego_msg.specs.Completions.{brought, brought_to, first_answer, owners_after}
use Rattle.lego_msg.specs.Maps.{bytes_or_zeros, home_key}
use Rattle.lego_msg.specs.Marks.{Call, Order}
use Rattle.lego_msg.specs.Operations.{is_write}
use Rattle.lego_msg.specs.Places.{is_issuer}
use Rattle.lego_msg.specs.Plain.{Plain, effect}
use Rattle.lego_msg.specs.Replies.{IsReply}
use Rattle.lego_msg.specs.Run.{run}
use Rattle.lego_msg.specs.Table.{line_answer}
use Rattle.lego_msg.specs.Track.{Caches, Track, all_answered, last_line, line_in, memory_count}
use Rattle.lego_msg.specs.Went.{Went}
use Rattle.lego_msg.specs.declared.body.Body.{Body}
use Rattle.lego_msg.specs.declared.event.Event.{Event}
use Rattle.lego_msg.specs.declared.operation.Answer.{Answer}
use Rattle.lego_msg.specs.declared.operation.Open.{Open}
use Rattle.lego_msg.specs.declared.operation.Operation.{Operation}
use Rattle.lego_msg.specs.declared.operation.Operation.TheVariants.{AsksAreas, AsksSize, Copies, CutsFile, CutsName, Drains, Drops, Finds, FreesFile, GetsName, Heals, ListsNames, MakesName, Reads, ReadsFile, SetsAreas, SetsHome, Unmaps, Writes, WritesFile}
use Rattle.lego_msg.specs.declared.place.Place.{Place}
use Rattle.lego_rest.proofs.Resting.{rest-is-of-components}
use Rattle.lego_rest.specs.Rest.{AtRest, CurrentFits}
use Rattle.placement.specs.Owners.{Owned}
use Rattle.protocol_engine.proofs.Coming.{and_left, some_answer}
use Rattle.protocol_engine.specs.Beyond.{Beyond, nothing_cached}
use Rattle.protocol_engine.specs.Called.{begun_beyond}
use Rattle.protocol_engine.specs.Sound.{WasOpen}
use Rattle.protocol_engine.specs.Tracks.{finished_beyond}
use Rattle.rest_laws.specs.GoingOn.{IsDue, LedBack}
use Rattle.rest_laws.specs.Logs.{IsEmptyAt}
use Rattle.cluster.proofs.Granting.{some_targets}
use Rattle.protocol_engine.specs.Later.{Called, called_by}
use Rattle.cluster.specs.Calls.{HaltsWith, MayCome, ServesWith, asked_with, caches_after, served}
use Rattle.cluster.specs.Logs.{AreEmpty, IsEmptyIn, drained_after}
use Rattle.cluster.specs.Performing.{PerformHalts, Performs, WasPerformed}
use Rattle.cluster.specs.Standing.{IsGrantedWith, MayAskWith, StandsFor, alone}
use Rattle.cluster.specs.Whole.{MayCallAt, SoundCall, Whole, track_at}

-- a plain map with these caches
abbrev pub with_caches : Plain → Caches → Beyond
with_caches f caches = record { plain = f; caches = caches; due = [] }

abbrev pub order_of : List HomeEntry → Place → Operation → Bool → Order
order_of new by operation late = record { by = by; operation = operation; owners = new; late = late }

-- `c` is the cluster without the owners that come, and `table` the table with them
module _ (new : List HomeEntry) (c : Whole) (table : Owned) (owned : put_all home_key new c.table.owners ≡ table.owners) (by : Place) (operation : Operation) where
  abbrev asked : Plain → Caches → Track
  asked f caches = asked_with new c by operation (with_caches f caches) false

  due_at : (f : Plain) (caches : Caches) → IsGrantedWith new c f by operation → IsDue (asked f caches) (order_of new by operation false) []
  due_at f caches at = record {
    rests = rest-is-of-components (track_at c (alone f)) (Call (order_of new by operation false) ∷ []) caches at.stands;
    due = refl;
    granted = record {
      issuer = at.granted.issuer;
      grow = at.granted.grow;
      within = at.granted.within;
      rise = at.granted.rise;
      there = at.granted.there;
      fits = at.granted.fits;
      clear = at.granted.clear;
    };
  }

  pub may_at : (g : Beyond) (late : Bool) → MayAskWith new c by operation → MayCome c by operation g late → MayCallAt (record c { table = table }) by operation g c.table.owners new late
  may_at g late ask may = record { owned = owned; caches = may.caches; late_enough = may.late_enough; issuer = ask.granted.granted.issuer }

  module _ (ask : MayAskWith new c by operation) where
    pub sound : SoundCall (record c { table = table }) by operation
    sound = record {
      beyond = with_caches ask.plain ask.caches;
      before = c.table.owners;
      owners = new;
      late = false;
      may = may_at (with_caches ask.plain ask.caches) false ask (record { caches = ask.fits; late_enough = refl });
      sound = λ es legal. calls-are-playable (asked ask.plain ask.caches) (order_of new by operation false) [] es (due_at ask.plain ask.caches ask.granted) tt legal;
    }

    module _ (o : Open) (was : WasPerformed (record c { table = table }) by operation o) where
      was_at : (f : Plain) → WasOpen (asked f ask.caches) o
      was_at f = was (with_caches f ask.caches) c.table.owners new false (may_at (with_caches f ask.caches) false ask (record { caches = ask.fits; late_enough = refl }))

      -- EVERY ANSWER IS TRUE
      pub replies : o.operation ≡ operation → (f : Plain) → IsGrantedWith new c f by operation → AllByRecursion (λ (a : Answer). IsReply f operation a.body) o.answers
      replies same f at =
          let open_ = was_at f in
          let due = due_at f ask.caches at in
          subst (λ (p : Plain × Operation). AllByRecursion (λ (a : Answer). IsReply p.0 p.1 a.body) o.answers) (λ i. (open_.plain i, same i))
          (answers-are-true-there (asked f ask.caches) open_.events o due.rests open_.legal (calls_are_granted (asked f ask.caches) (order_of new by operation false) [] open_.events due tt open_.legal) open_.open_)

      -- and there is one
      pub some_answers : 0 < length o.answers
      some_answers =
          let open_ = was_at ask.plain in
          let due = due_at ask.plain ask.caches ask.granted in
          let now : Track = run (asked ask.plain ask.caches) open_.events in
          let middle = every-list-keeps (asked ask.plain ask.caches) open_.events due.rests open_.legal (calls_are_granted (asked ask.plain ask.caches) (order_of new by operation false) [] open_.events due tt open_.legal) in
          let fits = subst (CurrentFits now) open_.open_ middle.current in
          some_answer o.targets o.answers (and_left (all_answered o.targets o.answers) _ open_.complete)
          (subst (λ (places : List Place). 0 < length places) (sym fits.0.targets) (some_targets (memory_count now.shape) o.operation))

  -- IT LEADS BACK to rest
  module _ {W : Type 0} (told : W → Option (List Event)) (faults : W → ℕ) (w w' : W) (d : Whole) (o : Open) (performs : Performs told faults w w' (record c { table = table }) d by operation o) (ask : MayAskWith new c by operation) where
    way : (f : Plain) → Went told faults w w' (asked f ask.caches) (track_at d (finished_beyond o (begun_beyond (with_caches f ask.caches))))
    way f = performs (with_caches f ask.caches) c.table.owners new false (may_at (with_caches f ask.caches) false ask (record { caches = ask.fits; late_enough = refl }))

    last : (f : Plain) → (run (asked f ask.caches) (way f).events).due ≡ []
    last f = ap (λ (t : Track). t.due) (way f).ends

    over : (f : Plain) → IsOver (run (asked f ask.caches) (way f).events)
    over f = subst IsOver (sym (way f).ends) (record { closed = refl; healed = refl; goes_on = refl })

    led : (f : Plain) → IsGrantedWith new c f by operation → LedBack (asked f ask.caches) (order_of new by operation false) [] (run (asked f ask.caches) (way f).events)
    led f at = calls_lead_back (asked f ask.caches) (order_of new by operation false) [] (way f).events (due_at f ask.caches at) tt (way f).legal (last f) (over f)

    pub stands_again : o.operation ≡ operation → (f : Plain) → IsGrantedWith new c f by operation → StandsFor d (effect operation f)
    stands_again same f at = subst (λ (x : Operation). StandsFor d (effect x f)) same
        (rest-is-of-components (track_at d (finished_beyond o (begun_beyond (with_caches f ask.caches)))) [] nothing_cached (subst AtRest (way f).ends (led f at).rests))

    pub same_owners : d.table.owners ≡ owners_after operation (put_all home_key new c.table.owners)
    same_owners = ap (λ (t : Track). t.owners) (sym (way ask.plain).ends) ∙ (led ask.plain ask.granted).owners

    pub same_shape : d.shape ≡ c.shape
    same_shape = ap (λ (t : Track). t.shape) (sym (way ask.plain).ends) ∙ shape_along (asked ask.plain ask.caches) (way ask.plain).events (way ask.plain).legal

    -- LOGS that are empty stay so where it doesn't write, and a drain empties its own
    stays_dry : (k : ℕ) → is_write operation ≡ false → IsEmptyIn c.mems k → IsEmptyIn d.mems k
    stays_dry k none empty = subst (λ (t : Track). IsEmptyAt t k) (way ask.plain).ends
        (calls-keep-empty-logs (asked ask.plain ask.caches) (order_of new by operation false) [] (way ask.plain).events k (due_at ask.plain ask.caches ask.granted) tt (way ask.plain).legal (last ask.plain) (over ask.plain) none empty)

    all_dry : is_write operation ≡ false → (drained : List ℕ) → AreEmpty c.mems drained → AreEmpty d.mems drained
    all_dry none [] empty = tt
    all_dry none (k ∷ drained) empty = (stays_dry k none empty.0, all_dry none drained empty.1)

    dried : (m : MemId) → operation ≡ Drains m → IsEmptyIn d.mems m.0
    dried m is = subst (λ (t : Track). IsEmptyAt t m.0) (way ask.plain).ends
        (calls-drain-logs (asked ask.plain ask.caches) (order_of new by operation false) [] (way ask.plain).events m (due_at ask.plain ask.caches ask.granted) tt (way ask.plain).legal (last ask.plain) (over ask.plain) is)

    pub logs_after : (drained : List ℕ) → AreEmpty c.mems drained → AreEmpty d.mems (drained_after operation drained)
    logs_after drained empty = by_kind operation refl
      where
        by_kind : (x : Operation) → operation ≡ x → AreEmpty d.mems (drained_after x drained)
        by_kind (Drains m) is = (dried m is, all_dry (ap is_write is) drained empty)
        by_kind (Writes origin patch owner) is = tt
        by_kind (Finds pid region) is = all_dry (ap is_write is) drained empty
        by_kind (Reads pid line owner) is = all_dry (ap is_write is) drained empty
        by_kind (SetsHome pid region owner) is = all_dry (ap is_write is) drained empty
        by_kind (SetsAreas pid region areas owner) is = all_dry (ap is_write is) drained empty
        by_kind (AsksAreas pid region owner) is = all_dry (ap is_write is) drained empty
        by_kind (Unmaps pid region first pages areas owner) is = all_dry (ap is_write is) drained empty
        by_kind (Copies parent child regions owner) is = all_dry (ap is_write is) drained empty
        by_kind (Drops pid) is = all_dry (ap is_write is) drained empty
        by_kind (ReadsFile file block off len) is = all_dry (ap is_write is) drained empty
        by_kind (WritesFile file block off bytes) is = all_dry (ap is_write is) drained empty
        by_kind (CutsFile file size) is = all_dry (ap is_write is) drained empty
        by_kind (AsksSize file) is = all_dry (ap is_write is) drained empty
        by_kind (GetsName name) is = all_dry (ap is_write is) drained empty
        by_kind (MakesName name) is = all_dry (ap is_write is) drained empty
        by_kind (CutsName name) is = all_dry (ap is_write is) drained empty
        by_kind (FreesFile file) is = all_dry (ap is_write is) drained empty
        by_kind (Heals to what) is = all_dry (ap is_write is) drained empty
        by_kind ListsNames is = all_dry (ap is_write is) drained empty

-- A LINE THAT WAS READ is that of the newest answer
line_of_one : (p : Option Perms) (page : List ℕ) (line : ℕ) (answers : List Answer) → AllByRecursion (λ (a : Answer). a.body ≡ line_answer p page line) answers → 0 < length answers → last_line answers ≡ line_in (line_answer p page line) None
line_of_one p page line [] all some = absurd (omega (arith, some))
line_of_one p page line (a ∷ answers) all some = ap (λ (b : Body). line_in b (last_line answers)) all.0 ∙ by p answers all.1
  where
    by : (q : Option Perms) (xs : List Answer) → AllByRecursion (λ (x : Answer). x.body ≡ line_answer q page line) xs → line_in (line_answer q page line) (last_line xs) ≡ line_in (line_answer q page line) None
    by (Some perms) xs all = refl
    by None [] all = refl
    by None (x ∷ xs) all = ap (λ (b : Body). line_in b (last_line xs)) all.0 ∙ by None xs all.1

newest_is : (p : Option Perms) (page : List ℕ) (line : ℕ) (body : Body) (answers : List Answer) → AllByRecursion (λ (a : Answer). a.body ≡ line_answer p page line) answers → Some body ≡ first_answer answers → last_line answers ≡ line_in body None
newest_is p page line body [] all newest = cc newest
newest_is p page line body (a ∷ answers) all newest = line_of_one p page line (a ∷ answers) all (omega arith) ∙ ap (λ (b : Body). line_in b None) (sym all.0 ∙ sym (same_some body a.body newest))

pub no_answer : (answers : List Answer) → None ≡ first_answer answers → 0 < length answers → ⊥
no_answer [] none some = omega (arith, some)
no_answer (a ∷ answers) none some = cc none

of_newest : (P : Body → Type 0) (body : Body) (answers : List Answer) → AllByRecursion (λ (a : Answer). P a.body) answers → Some body ≡ first_answer answers → P body
of_newest P body [] all newest = cc newest
of_newest P body (a ∷ answers) all newest = subst P (sym (same_some body a.body newest)) all.0

module _ (by : Place) (o : Open) (operation : Operation) (body : Body) where
  brings : (f : Plain) → AllByRecursion (λ (a : Answer). IsReply f operation a.body) o.answers → Some body ≡ first_answer o.answers → o.by ≡ by → (caches : Caches) → brought o operation caches ≡ caches_after by operation body caches
  brings f all newest issuer caches = reads operation all
    where
      reads : (x : Operation) → AllByRecursion (λ (a : Answer). IsReply f x a.body) o.answers → brought o x caches ≡ caches_after by x body caches
      reads (Reads pid line owner) all = λ i. brought_to (issuer i) pid.0 line.0 (newest_is (perms_of (f.areas pid.0 (line.0 / 32768)) (line.0 / 64)) (bytes_or_zeros (f.page pid.0 (line.0 / 64))) line.0 body o.answers all newest i) caches
      reads (Finds pid region) all = refl
      reads (Writes origin patch owner) all = refl
      reads (SetsHome pid region owner) all = refl
      reads (SetsAreas pid region areas owner) all = refl
      reads (AsksAreas pid region owner) all = refl
      reads (Drains m) all = refl
      reads (Unmaps pid region first pages areas owner) all = refl
      reads (Copies parent child regions owner) all = refl
      reads (Drops pid) all = refl
      reads (ReadsFile file block off len) all = refl
      reads (WritesFile file block off bytes) all = refl
      reads (CutsFile file size) all = refl
      reads (AsksSize file) all = refl
      reads (GetsName name) all = refl
      reads (MakesName name) all = refl
      reads (CutsName name) all = refl
      reads ListsNames all = refl
      reads (FreesFile file) all = refl
      reads (Heals to what) all = refl

-- SO IT IS SERVED
module _ (new : List HomeEntry) (c : Whole) (table : Owned) (owned : put_all home_key new c.table.owners ≡ table.owners) (by : Place) (operation : Operation) {W : Type 0} (told : W → Option (List Event)) (faults : W → ℕ) (w w' : W) where
  pub serves : (d : Whole) (o : Open) (body : Body) → Performs told faults w w' (record c { table = table }) d by operation o → WasPerformed (record c { table = table }) by operation o →
      called_by (Some o) ≡ Some (record { number = record { 0 = c.next }; by = by; operation = operation }) → Some body ≡ first_answer o.answers → MayAskWith new c by operation → ServesWith new told faults w w' c d by operation body
  serves d o body performs was called newest ask = record {
    went = λ g late may. ends_at told faults w w' (asked_with new c by operation g late) (track_at d (finished_beyond o (begun_beyond g))) (track_at d (served by operation body g)) (ended g)
        (performs g c.table.owners new late (may_at new c table owned by operation g late ask may));
    stands = stands_again new c table owned by operation told faults w w' d o performs ask operation_is;
    reply = λ f at. of_newest (IsReply f operation) body o.answers (true_of f at) newest;
    logs = logs_after new c table owned by operation told faults w w' d o performs ask;
    shape = same_shape new c table owned by operation told faults w w' d o performs ask;
    owners = same_owners new c table owned by operation told faults w w' d o performs ask;
  }
    where
      called_is : ◌≡◌ {A = Called} (record { number = o.number; by = o.by; operation = o.operation }) (record { number = record { 0 = c.next }; by = by; operation = operation })
      called_is = same_some _ _ called

      operation_is : o.operation ≡ operation
      operation_is = ap (λ (x : Called). x.operation) called_is

      true_of : (f : Plain) → IsGrantedWith new c f by operation → AllByRecursion (λ (a : Answer). IsReply f operation a.body) o.answers
      true_of f at = replies new c table owned by operation ask o was operation_is f at

      ended : (g : Beyond) → track_at d (finished_beyond o (begun_beyond g)) ≡ track_at d (served by operation body g)
      ended g =
          let caches : brought o o.operation (record g.caches { filled = None }) ≡ caches_after by operation body (record g.caches { filled = None })
          = ap (λ (x : Operation). brought o x (record g.caches { filled = None })) operation_is
          ∙ brings by o operation body ask.plain (true_of ask.plain ask.granted) newest (ap (λ (x : Called). x.by) called_is) (record g.caches { filled = None }) in
          λ i. track_at d (record g { plain = effect (operation_is i) g.plain; caches = caches i })

  -- OR IT HALTS
  pub halts : (h : Halt) → (c.halt ≡ None → is_issuer by ≡ true) → PerformHalts told faults w w' (record c { table = table }) by operation h → HaltsWith new told faults w w' c by operation h
  halts h issuer performs none g late may = performs none g c.table.owners new late (record { owned = owned; caches = may.caches; late_enough = may.late_enough; issuer = issuer none })
