-- The newest line of a set, and the line at hand.
use Rattle.std.proofs.Common.{◌≡◌, ◌+◌, ◌/◌, ◌%◌, ◌^◌, ◌<◌, [], ◌∷◌, ◌∙◌, ℕ, Bool, List, None, Some, ap, arith, cond, false, get_or, length, ltb, refl, set, subst, suc, sym, true, zero}
use Rattle.std.proofs.lemmas.List.{get_or_default}
use Rattle.std.proofs.lemmas.Bool.{cond-true, lt-ltb}
use Rattle.std.proofs.lemmas.List.Sums.{position_or_len_is}
use Rattle.std.specs.List.{position, position_or_len, remove}
use Rattle.cache_tags.specs.CacheRule.{Tally}
use Rattle.cache_tags.specs.Lists.{brought, empty_set, is_line, line_at as line_in_place, newest_slot}
use Rattle.cache_tags.specs.Sets.{SetLines, Tagged}
use Rattle.cache_tags.specs.Tags.{after_look_up, looked_up, set_of, set_place, slot_at, slot_of_line}
use Rattle.cache_tags.specs.declared.set.Held.{Held}
use Rattle.lego_base.specs.Pieces.{piece}
use Rattle.lego_base.specs.Space.{allows, number_of}
use Rattle.lego_base.specs.declared.ids.LineNo.{LineNo}
use Rattle.lego_base.specs.declared.ids.Pid.{Pid}
use Rattle.line_cache.specs.Cached.{counted_if, no_line}
use Rattle.line_cache.specs.Counting.{with_hit}
use Rattle.line_cache.specs.Fits.{SetsFit}
use Rattle.line_cache.specs.Hand.{Holds, IsFetch, IsHandAt, IsReady, IsWordAt, line_at}
use Rattle.line_cache.specs.declared.hand.Hand.{Hand}
use Rattle.line_cache.specs.declared.line.Line.{Line}

-- THE NEWEST of a set is found first, and moving it to the front changes nothing

record IsFirst (pid : Pid) (line : LineNo) (lines : List Held) (slot : ℕ) : Type 0 where
  place : position (is_line pid line) lines ≡ Some 0
  slot_is : Some (line_in_place lines 0).slot ≡ Some slot
  stays : line_in_place lines 0 ∷ remove lines 0 ≡ lines

is_first : (pid : Pid) (line : LineNo) (lines : List Held) (slot : ℕ) → newest_slot pid line lines ≡ Some slot → IsFirst pid line lines slot
is_first pid line [] slot e = cc e
is_first pid line (h ∷ lines) slot e = by (is_line pid line h) refl e
  where
    by : (b : Bool) → is_line pid line h ≡ b → cond b (Some h.slot) None ≡ Some slot → IsFirst pid line (h ∷ lines) slot
    by true is e =
        let none : position_or_len (is_line pid line) (h ∷ lines) ≡ 0 = position_or_len_is (is_line pid line) (h ∷ lines) 0 h (omega arith) (λ k less. absurd (omega (arith, less))) (λ some. is) in
        let some : ltb 0 (length (h ∷ lines)) ≡ true = lt-ltb 0 (length (h ∷ lines)) (omega arith) in
        record {
          place = ap (λ (n : ℕ). cond (ltb n (length (h ∷ lines))) (Some n) None) none ∙ cond-true (ltb 0 (length (h ∷ lines))) (Some 0) None some;
          slot_is = e;
          stays = refl;
        }
    by false is e = cc e

set-itself : (sets : List SetLines) (i : ℕ) (d : SetLines) → set sets i (get_or sets i d) ≡ sets
set-itself [] i d = refl
set-itself (s ∷ sets) zero d = refl
set-itself (s ∷ sets) (suc i) d = ap (λ (all : List SetLines). s ∷ all) (set-itself sets i d)

newest-there : (pid : Pid) (line : LineNo) (t : Tagged) (slot : ℕ) → newest_slot pid line (set_of line t).lines ≡ Some slot → slot_of_line pid line t ≡ Some slot
newest-there pid line t slot e =
    let first = is_first pid line (set_of line t).lines slot e in
    ap (slot_at (set_of line t).lines) first.place ∙ first.slot_is

newest-stays : (pid : Pid) (line : LineNo) (t : Tagged) (slot : ℕ) → newest_slot pid line (set_of line t).lines ≡ Some slot → looked_up pid line t ≡ t
newest-stays pid line t slot e =
    let first = is_first pid line (set_of line t).lines slot e in
    let same : brought 0 (set_of line t) ≡ set_of line t = ap (λ (lines : List Held). record (set_of line t) { lines = lines }) first.stays in
    ap (after_look_up line t) first.place
    ∙ ap (λ (s : SetLines). record t { sets = set t.sets (set_place line t) s }) same
    ∙ ap (λ (sets : List SetLines). record t { sets = sets }) (set-itself t.sets (set_place line t) (empty_set 0 0))

-- AT HAND

abbrev pub is_newest : Tagged → Pid → ℕ → ℕ → Type 0
is_newest t pid number slot = newest_slot pid (record { 0 = number }) (get_or t.sets (number % length t.sets) (empty_set 0 0)).lines ≡ Some slot

pub takes-hand : (h : Hand) (t : Tagged) (lines : List Line) (pid : Pid) (address slot : ℕ) → IsHandAt pid address slot h → address < 2 ^ 64 → is_newest t pid (address / 64) slot → allows (Some (get_or lines slot no_line).perms) 4 ≡ true → slot < length lines → SetsFit (length lines) t.sets → Holds h t.sets lines
takes-hand h t lines pid address slot at end newest may within fits = record {
  fits = fits;
  hand = λ some. record {
    room = (let r = at.room in omega (arith, r));
    start = (let s = at.start in omega (arith, s));
    end = (let s = at.start in omega (arith, s, end));
    within = subst (λ (k : ℕ). k < length lines) (sym at.slot_is) within;
    newest =
        let number : address / 64 ≡ h.start / 64 = (let s = at.start in omega (arith, s)) in
        subst (λ (q : ℕ). is_newest t h.pid q h.slot) number
        (subst (λ (p : Pid). is_newest t p (address / 64) h.slot) (sym at.pid_is)
        (subst (λ (k : ℕ). is_newest t pid (address / 64) k) (sym at.slot_is) newest));
    may = subst (λ (k : ℕ). allows (Some (get_or lines k no_line).perms) 4 ≡ true) (sym at.slot_is) may;
  };
}

pub fetches : (h : Hand) (t : Tagged) (lines : List Line) (counts : Tally) (pid : Pid) (address off word : ℕ) (line : Line) → Holds h t.sets lines → IsWordAt pid address off h → line ≡ get_or lines h.slot line → word ≡ number_of (piece line.bytes off 4) → IsFetch pid address word (record { tags = t; lines = lines; counts = counts }) (record { tags = t; lines = lines; counts = with_hit counts })
fetches h t lines counts pid address off word line holds at line_is is =
    let some : 0 < h.room = (let r = at.room in omega (arith, r)) in
    let ready : IsReady h t.sets lines = holds.hand some in
    let room = ready.room in let begins = ready.start in let end = ready.end in let inside = at.room in let place = at.place in
    let plain : address ≡ h.start + off = omega (arith, room, begins, end, inside, place) in
    let number : h.start / 64 ≡ address / 64 = omega (arith, room, begins, inside, plain) in
    let rest : off ≡ address % 64 = omega (arith, room, begins, inside, plain) in
    let own : h.pid ≡ pid = λ i. record { 0 = at.pid_is i } in
    let newest : is_newest t pid (address / 64) h.slot =
    subst (λ (p : Pid). is_newest t p (address / 64) h.slot) own
    (subst (λ (q : ℕ). is_newest t h.pid q h.slot) number ready.newest) in
    let there : slot_of_line pid (line_at address) t ≡ Some h.slot = newest-there pid (line_at address) t h.slot newest in
    let stays : looked_up pid (line_at address) t ≡ t = newest-stays pid (line_at address) t h.slot newest in
    let kept : line ≡ get_or lines h.slot no_line = line_is ∙ get_or_default lines h.slot line no_line ready.within in
    record {
      slot = h.slot;
      there = there;
      may = ready.may;
      within = omega (arith, room, inside, rest);
      word_is = is ∙ λ i. number_of (piece (kept i).bytes (rest i) 4);
      after = λ i. record { tags = sym stays i; lines = lines; counts = counted_if (sym there i) counts };
    }
