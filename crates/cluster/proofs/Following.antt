-- Operations, and then others, are all of them one after the other.
use Rattle.std.proofs.Common.{◌≡◌, ◌∙◌, ◌&&◌, [], ◌∷◌, ◌++◌, ℕ, Bool, List, None, Option, ap, false, refl, subst, sym, true}
use Rattle.lego_base.specs.Keys.{put_all}
use Rattle.lego_base.specs.declared.records.HomeEntry.{HomeEntry}
use Rattle.lego_base.specs.declared.shape.Shape.{Shape}
use Rattle.lego_base.specs.declared.stops.Halt.{Halt}
use Rattle.lego_msg.proofs.Going.{ends_at, starts_at, stays, stopped_halted, went-then, went_halted, went_happened}
use Rattle.lego_msg.specs.Completions.{owners_after}
use Rattle.lego_msg.specs.Maps.{home_key}
use Rattle.lego_msg.specs.Marks.{Call, Mark}
use Rattle.lego_msg.specs.Plain.{Plain, effect}
use Rattle.lego_msg.specs.Replies.{IsReply}
use Rattle.lego_msg.specs.Track.{is_crash_left, memory_count}
use Rattle.lego_msg.specs.Went.{Halted, Went}
use Rattle.lego_msg.specs.declared.body.Body.{Body}
use Rattle.lego_msg.specs.declared.body.Body.TheVariants.{Done}
use Rattle.lego_msg.specs.declared.event.Event.{Event}
use Rattle.lego_msg.specs.declared.operation.Operation.{Operation}
use Rattle.lego_msg.specs.declared.operation.Operation.TheVariants.{AsksAreas, AsksSize, Copies, CutsFile, CutsName, Drains, Drops, Finds, FreesFile, GetsName, Heals, ListsNames, MakesName, Reads, ReadsFile, SetsAreas, SetsHome, Unmaps, Writes, WritesFile}
use Rattle.lego_msg.specs.declared.place.Place.{Place}
use Rattle.protocol_engine.specs.Beyond.{Beyond}
use Rattle.placement.specs.Owners.{Owned}
use Rattle.cluster.specs.Calls.{HaltsWith, ServesWith, asked_with, served}
use Rattle.cluster.specs.Sequences.{AllFit, AllGranted, AreReplies, Asking, CachesFit, EachHalts, MayComeAll, ReadNoLine, ReadsNoLine, ServesEach, all_asked_at, all_free, called_for, drained_after_all, effects, effects_of, free, owners_after_all, served_each}
use Rattle.cluster.specs.Logs.{AreEmpty, drained_after}
use Rattle.cluster.specs.Standing.{IsGrantedWith, StandsFor}
use Rattle.cluster.specs.Whole.{SameTurns, Whole, is_left_at, track_at}
use Rattle.cluster.proofs.Crashless.{ShowsNone, none_left}
use Rattle.cluster.proofs.Granting.{granted_new}
use Rattle.lego_base.specs.declared.stops.Halt.TheVariants as halt

-- LISTS PUT TOGETHER

pub all_free-append : (xs ys : List Operation) → all_free (xs ++ ys) ≡ all_free xs ++ all_free ys
all_free-append [] ys = refl
all_free-append (o ∷ xs) ys = ap (λ (asks : List Asking). free o ∷ asks) (all_free-append xs ys)

called_for-append : (by : Place) (late : Bool) (xs ys : List Asking) (rest : List Mark) → called_for by late (xs ++ ys) rest ≡ called_for by late xs (called_for by late ys rest)
called_for-append by late [] ys rest = refl
called_for-append by late (a ∷ xs) ys rest = ap (λ (due : List Mark). Call (record { by = by; operation = a.operation; owners = a.owners; late = late }) ∷ due) (called_for-append by late xs ys rest)

pub served-append : (by : Place) (xs ys : List Asking) (g : Beyond) → served_each by (xs ++ ys) g ≡ served_each by ys (served_each by xs g)
served-append by [] ys g = refl
served-append by (a ∷ xs) ys g = served-append by xs ys (served by a.operation Done g)

all_served_due : (by : Place) (xs : List Asking) (g : Beyond) (due : List Mark) → served_each by xs (record g { due = due }) ≡ record (served_each by xs g) { due = due }
all_served_due by [] g due = refl
all_served_due by (a ∷ xs) g due = all_served_due by xs (served by a.operation Done g) due

served_due : (by : Place) (xs : List Asking) (g : Beyond) → (served_each by xs g).due ≡ g.due
served_due by [] g = refl
served_due by (a ∷ xs) g = served_due by xs (served by a.operation Done g)

effects-append : (xs ys : List Asking) (f : Plain) → effects_of (xs ++ ys) f ≡ effects_of ys (effects_of xs f)
effects-append [] ys f = refl
effects-append (a ∷ xs) ys f = effects-append xs ys (effect a.operation f)

owners-append : (xs ys : List Asking) (owners : List HomeEntry) → owners_after_all (xs ++ ys) owners ≡ owners_after_all ys (owners_after_all xs owners)
owners-append [] ys owners = refl
owners-append (a ∷ xs) ys owners = owners-append xs ys (owners_after a.operation (put_all home_key a.owners owners))

drained-append : (xs ys : List Asking) (drained : List ℕ) → drained_after_all (xs ++ ys) drained ≡ drained_after_all ys (drained_after_all xs drained)
drained-append [] ys drained = refl
drained-append (a ∷ xs) ys drained = drained-append xs ys (drained_after a.operation drained)

caches_front : (by : Place) (xs ys : List Asking) (g : Beyond) → CachesFit g.caches by (xs ++ ys) → CachesFit g.caches by xs
caches_front by [] ys g fit = tt
caches_front by (a ∷ xs) ys g fit = (fit.0, caches_front by xs ys (served by a.operation Done g) fit.1)

pub caches_back : (by : Place) (xs ys : List Asking) (g : Beyond) → CachesFit g.caches by (xs ++ ys) → CachesFit (served_each by xs g).caches by ys
caches_back by [] ys g fit = fit
caches_back by (a ∷ xs) ys g fit = caches_back by xs ys (served by a.operation Done g) fit.1

fit_front : (n : ℕ) (owners : List HomeEntry) (f : Plain) (drained : List ℕ) (xs ys : List Asking) → AllFit n owners f drained (xs ++ ys) → AllFit n owners f drained xs
fit_front n owners f drained [] ys fit = tt
fit_front n owners f drained (a ∷ xs) ys fit = (fit.0, fit.1, fit.2, fit.3, fit_front n (owners_after a.operation (put_all home_key a.owners owners)) (effect a.operation f) (drained_after a.operation drained) xs ys fit.4)

fit_back : (n : ℕ) (owners : List HomeEntry) (f : Plain) (drained : List ℕ) (xs ys : List Asking) → AllFit n owners f drained (xs ++ ys) → AllFit n (owners_after_all xs owners) (effects_of xs f) (drained_after_all xs drained) ys
fit_back n owners f drained [] ys fit = fit
fit_back n owners f drained (a ∷ xs) ys fit = fit_back n (owners_after a.operation (put_all home_key a.owners owners)) (effect a.operation f) (drained_after a.operation drained) xs ys fit.4

pub replies_then : (f : Plain) (xs : List Operation) (o : Operation) (bodies : List Body) (body : Body) → AreReplies f xs bodies → IsReply (effects xs f) o body → AreReplies f (xs ++ o ∷ []) (bodies ++ body ∷ [])
replies_then f [] o [] body all one = (one, tt)
replies_then f [] o (b ∷ bodies) body all one = absurd all
replies_then f (x ∷ xs) o [] body all one = absurd all
replies_then f (x ∷ xs) o (b ∷ bodies) body all one = (all.0, replies_then (effect x f) xs o bodies body all.1 one)

pub line_at : (xs : List Operation) (o : Operation) (ys : List Operation) → ReadNoLine (xs ++ o ∷ ys) → ReadsNoLine o
line_at [] o ys none = none.0
line_at (x ∷ xs) o ys none = line_at xs o ys none.1

-- an operation that reads no line brings nothing in, whatever its answer
pub brings_none : (by : Place) (o : Operation) (body : Body) → ReadsNoLine o → (g : Beyond) → served by o body g ≡ served by o Done g
brings_none by (Reads pid line owner) body none g = absurd none
brings_none by (Finds pid region) body none g = refl
brings_none by (Writes origin patch owner) body none g = refl
brings_none by (SetsHome pid region owner) body none g = refl
brings_none by (SetsAreas pid region areas owner) body none g = refl
brings_none by (AsksAreas pid region owner) body none g = refl
brings_none by (Drains m) body none g = refl
brings_none by (Unmaps pid region first pages areas owner) body none g = refl
brings_none by (Copies parent child regions owner) body none g = refl
brings_none by (Drops pid) body none g = refl
brings_none by (ReadsFile file block off len) body none g = refl
brings_none by (WritesFile file block off bytes) body none g = refl
brings_none by (CutsFile file size) body none g = refl
brings_none by (AsksSize file) body none g = refl
brings_none by (GetsName name) body none g = refl
brings_none by (MakesName name) body none g = refl
brings_none by (CutsName name) body none g = refl
brings_none by ListsNames body none g = refl
brings_none by (FreesFile file) body none g = refl
brings_none by (Heals to what) body none g = refl

shows_none : (by : Place) (late : Bool) (xs : List Asking) → ShowsNone (called_for by late xs [])
shows_none by late [] = tt
shows_none by late (a ∷ xs) = shows_none by late xs

pub turns_on : (a b c : Owned) → SameTurns a b → SameTurns b c → SameTurns a c
turns_on a b c first second = record {
  memories = second.memories ∙ first.memories;
  placement = second.placement ∙ first.placement;
  given = second.given ∙ first.given;
}

module _ {W : Type 0} (told : W → Option (List Event)) (faults : W → ℕ) where
  -- NONE, AND ONE
  pub none_serves : (w : W) (c : Whole) (by : Place) → ServesEach told faults w w c c by [] (served_each by [])
  none_serves w c by = record {
    went = λ g late may. stays told faults w (track_at c g);
    stands = λ f at. at.stands;
    logs = λ drained empty. empty;
    shape = refl;
    owners = refl;
  }

  pub one_granted : (c : Whole) (f : Plain) (by : Place) (a : Asking) (ys : List Asking) → AllGranted c f by (a ∷ ys) → IsGrantedWith a.owners c f by a.operation
  one_granted c f by a ys at = granted_new a.owners c f by a.operation at.stands at.issuer at.fit.0 at.fit.1 at.fit.2 at.drained at.empty at.fit.3

  pub one_serves : (w w' : W) (c d : Whole) (by : Place) (a : Asking) (body : Body) (beyond : Beyond → Beyond) → ((g : Beyond) → served by a.operation body g ≡ beyond g) → ServesWith a.owners told faults w w' c d by a.operation body → ServesEach told faults w w' c d by (a ∷ []) beyond
  one_serves w w' c d by a body beyond same serves = record {
    went = λ g late may. subst (λ (b : Beyond). Went told faults w w' (asked_with a.owners c by a.operation g late) (track_at d b)) (same g) (serves.went g late (record { caches = may.caches.0; late_enough = may.late_enough }));
    stands = λ f at. serves.stands f (one_granted c f by a [] at);
    logs = serves.logs;
    shape = serves.shape;
    owners = serves.owners;
  }

  pub one_halts : (w w' : W) (c : Whole) (by : Place) (a : Asking) (ys : List Asking) (h : Halt) → HaltsWith a.owners told faults w w' c by a.operation h → EachHalts told faults w w' c by (a ∷ ys) h
  one_halts w w' c by a ys h halts = λ none g late may. halts none (record g { due = called_for by late ys g.due }) late (record { caches = may.caches.0; late_enough = may.late_enough })

  -- SOME, AND THEN OTHERS
  module _ (w w' : W) (c d : Whole) (by : Place) (xs ys : List Asking) (first : ServesEach told faults w w' c d by xs (served_each by xs)) where
    late_then : (g : Beyond) (late : Bool) → CachesFit g.caches by xs → (late && is_left_at c) ≡ false → (late && is_left_at d) ≡ false
    late_then g false fit enough = refl
    late_then g true fit enough =
        let went = first.went (record g { due = [] }) true (record { caches = fit; late_enough = enough }) in
        ap is_crash_left (sym went.ends) ∙ none_left (all_asked_at c by xs (record g { due = [] }) true) went.events went.legal (shows_none by true xs) enough

    may_front : (g : Beyond) (late : Bool) → MayComeAll c by (xs ++ ys) g late → MayComeAll c by xs (record g { due = called_for by late ys g.due }) late
    may_front g late may = record { caches = caches_front by xs ys g may.caches; late_enough = may.late_enough }

    may_back : (g : Beyond) (late : Bool) → MayComeAll c by (xs ++ ys) g late → MayComeAll d by ys (served_each by xs g) late
    may_back g late may = record { caches = caches_back by xs ys g may.caches; late_enough = late_then g late (caches_front by xs ys g may.caches) may.late_enough }

    goes_first : (g : Beyond) (late : Bool) → MayComeAll c by (xs ++ ys) g late → Went told faults w w' (all_asked_at c by (xs ++ ys) g late) (all_asked_at d by ys (served_each by xs g) late)
    goes_first g late may =
        let more : List Mark = called_for by late ys g.due in
        let start : all_asked_at c by xs (record g { due = more }) late ≡ all_asked_at c by (xs ++ ys) g late = λ i. record (track_at c g) { due = sym (called_for-append by late xs ys g.due) i } in
        let end : track_at d (served_each by xs (record g { due = more })) ≡ all_asked_at d by ys (served_each by xs g) late
        = ap (track_at d) (all_served_due by xs g more) ∙ (λ i. record (track_at d (served_each by xs g)) { due = called_for by late ys (sym (served_due by xs g) i) }) in
        starts_at told faults w w' _ _ _ start (ends_at told faults w w' _ _ _ end (first.went (record g { due = more }) late (may_front g late may)))

    pub granted_front : (f : Plain) → AllGranted c f by (xs ++ ys) → AllGranted c f by xs
    granted_front f at = record { stands = at.stands; issuer = at.issuer; drained = at.drained; empty = at.empty; fit = fit_front (memory_count c.shape) c.table.owners f at.drained xs ys at.fit }

    pub granted_back : (f : Plain) → AllGranted c f by (xs ++ ys) → AllGranted d (effects_of xs f) by ys
    granted_back f at = record {
      stands = first.stands f (granted_front f at);
      issuer = at.issuer;
      drained = drained_after_all xs at.drained;
      empty = first.logs at.drained at.empty;
      fit = subst (λ (p : Shape × List HomeEntry). AllFit (memory_count p.0) p.1 (effects_of xs f) (drained_after_all xs at.drained) ys) (λ i. (sym first.shape i, sym first.owners i)) (fit_back (memory_count c.shape) c.table.owners f at.drained xs ys at.fit);
    }

    pub serves_then : (w'' : W) (e : Whole) (beyond : Beyond → Beyond) → ServesEach told faults w' w'' d e by ys beyond → ServesEach told faults w w'' c e by (xs ++ ys) (λ g. beyond (served_each by xs g))
    serves_then w'' e beyond second = record {
      went = λ g late may. went-then told faults w w' w'' _ _ _ (goes_first g late may) (second.went (served_each by xs g) late (may_back g late may));
      stands = λ f at. subst (StandsFor e) (sym (effects-append xs ys f)) (second.stands (effects_of xs f) (granted_back f at));
      logs = λ drained empty. subst (AreEmpty e.mems) (sym (drained-append xs ys drained)) (second.logs (drained_after_all xs drained) (first.logs drained empty));
      shape = second.shape ∙ first.shape;
      owners = second.owners ∙ ap (owners_after_all ys) first.owners ∙ sym (owners-append xs ys c.table.owners);
    }

    pub halts_then : (w'' : W) (h : Halt) → d.halt ≡ None → EachHalts told faults w' w'' d by ys h → EachHalts told faults w w'' c by (xs ++ ys) h
    halts_then w'' h goes second = λ none g late may. went_halted told faults w w' w'' h _ _ (goes_first g late may) (second goes (served_each by xs g) late (may_back g late may))

    -- memory runs out after some of them
    pub lacks_then : EachHalts told faults w w' c by (xs ++ ys) halt.NoMemory
    lacks_then = λ none g late may. stopped_halted told faults w w' _ (went_happened told faults w w' _ _ (goes_first g late may))

  -- a longer list halts where a front of it does
  pub longer_halts : (w w' : W) (c : Whole) (by : Place) (ys more : List Asking) (h : Halt) → EachHalts told faults w w' c by ys h → EachHalts told faults w w' c by (ys ++ more) h
  longer_halts w w' c by ys more h halts none g late may =
      subst (λ (due : List Mark). Halted told faults w w' h (record (track_at c g) { due = due })) (sym (called_for-append by late ys more g.due))
      (halts none (record g { due = called_for by late more g.due }) late (record { caches = caches_front by ys more g may.caches; late_enough = may.late_enough }))
