-- What each call of a cache makes of the lines that it keeps.
use Rattle.std.proofs.Common.{◌≡◌, ◌*◌, ◌%◌, ◌^◌, ◌<◌, ◌≤◌, ◌++◌, [], ◌∷◌, ◌∙◌, ℕ, Bool, List, None, Option, Some, ap, arith, cond, false, get_or, length, refl, set, subst, sym, true}
use Rattle.std.proofs.lemmas.Bool.{cond-false, cond-true}
use Rattle.std.proofs.lemmas.List.{get_or-set_other, get_or-set_same, length-replicate, length-set}
use Rattle.lego_base.specs.Keys.{Key, key_at, same_key}
use Rattle.cache_tags.proofs.Follows.{empty_lines, set_for}
use Rattle.cache_tags.proofs.Lines.{same_is, same_self, same_turned}
use Rattle.cache_tags.proofs.Slots.{slot_in}
use Rattle.cache_tags.proofs.Victims.{along-last}
use Rattle.cache_tags.specs.CacheRule.{Cleaned, Past, Removed, Size, Stored, Tally, Touched}
use Rattle.cache_tags.specs.Following.{after_past, counted, held_key, line_of, marked_where, pid_of, slot_for, touch_for, victim_in}
use Rattle.cache_tags.specs.Lists.{coming}
use Rattle.cache_tags.specs.Sets.{Tagged}
use Rattle.cache_tags.specs.Tags.{after_look_up, after_touch, answer_to_touch, empty_sets, no_lines, place_of, slot_at, victim_of}
use Rattle.cache_tags.specs.declared.set.Held.{Held}
use Rattle.cache_tags.specs.declared.tags.Touch.{Touch}
use Rattle.cache_tags.specs.declared.tags.Touch.TheVariants.{Miss}
use Rattle.cache_tags.specs.declared.tags.Victim.{Victim}
use Rattle.line_cache.proofs.Following.{calls-follow}
use Rattle.line_cache.specs.Cached.{Cached, came_in, cleaned, empty_cache, line_in, looked_up, no_line, removed, slot_of_touch, with_bytes, written}
use Rattle.line_cache.specs.Counting.{in_64_bits, with_touch}
use Rattle.line_cache.specs.Laws.{IsAfter}
use Rattle.line_cache.specs.declared.line.Line.{Line}
use Rattle.split_script.specs.Now.{Cache, cache_after, is_dirty_at}
use Rattle.ex_memory.proofs.Slots.{Lists, hit_slots, leaving, lists, miss_slots, place_none, removal_slots, removed-dirty, slot_below, slot_is_in, slots_apart}
use Rattle.ex_memory.specs.Did.{CacheIs}
use Rattle.ex_memory.specs.Kept.{Becomes, ComesIn, SameLines, Tidy, if_same, is_dirty_for, is_victim, kept_at, kept_for}

-- WHAT EVERY CALL KEEPS: the lists are those after a past, with one more thing that happened; the counts are what 64 bits
-- keep; and the cache is what the script makes of it
pub record Keeps (e : Past) (old new : Cached) : Type 0 where
  pub tidy : Tidy new
  pub counts : old.counts ≡ in_64_bits old.counts → new.counts ≡ in_64_bits new.counts
  pub is_then : (k : Cache) → CacheIs k old → CacheIs (cache_after e k) new

tidy_then : (e : Past) (old new : Cached) → Tidy old → new.tags ≡ after_past e old.tags → length new.lines ≡ length old.lines → Tidy new
tidy_then e old new tidy is same = record {
  size = tidy.size;
  sets = tidy.sets;
  ways = tidy.ways;
  past = tidy.past ++ e ∷ [];
  lists = is ∙ ap (after_past e) tidy.lists ∙ sym (along-last tidy.past e (no_lines tidy.size.sets tidy.size.ways));
  room = subst (λ (n : ℕ). tidy.size.sets * tidy.size.ways ≤ n) (sym same) tidy.room;
}

again : (n : ℕ) → n % 2 ^ 64 % 2 ^ 64 ≡ n % 2 ^ 64
again n = omega arith

in_64_again : (n : Tally) → in_64_bits (in_64_bits n) ≡ in_64_bits n
in_64_again n = λ i. record { hits = again n.hits i; misses = again n.misses i; evictions = again n.evictions i; writebacks = again n.writebacks i }

keeps : (e : Past) (old new : Cached) → Tidy old → new.tags ≡ after_past e old.tags → length new.lines ≡ length old.lines → ((n : Tally) → old.counts ≡ in_64_bits n → IsAfter e n old new) → Keeps e old new
keeps e old new tidy tags same after = record {
  tidy = tidy_then e old new tidy tags same;
  counts = λ fit. let a = after old.counts fit in a.counts ∙ sym (in_64_again (counted e old.tags old.counts)) ∙ ap in_64_bits (sym a.counts);
  is_then = λ k is. let a = after k.counts is.counts in record {
    lines = ap (after_past e) is.lines ∙ sym a.tags;
    counts = a.counts ∙ ap (λ (t : Tagged). in_64_bits (counted e t k.counts)) (sym is.lines);
  };
}

pub tidy_lists : (c : Cached) (tidy : Tidy c) → Lists tidy.size c.tags
tidy_lists c tidy = subst (Lists tidy.size) (sym tidy.lists) (lists tidy.size tidy.past tidy.sets tidy.ways)

pub lists_then : (e : Past) (c : Cached) (tidy : Tidy c) → Lists tidy.size (after_past e c.tags)
lists_then e c tidy =
    subst (Lists tidy.size) (sym (ap (after_past e) tidy.lists ∙ sym (along-last tidy.past e (no_lines tidy.size.sets tidy.size.ways))))
    (lists tidy.size (tidy.past ++ e ∷ []) tidy.sets tidy.ways)

-- a slot of a line is one in which a line is kept
pub slot_within : (c : Cached) (x : Key) (slot : ℕ) → Tidy c → slot_for x c.tags ≡ Some slot → slot < length c.lines
slot_within c x slot tidy at =
    let all = tidy_lists c tidy in
    let less = slot_below tidy.size c.tags x slot all at in let size = all.room in let room = tidy.room in
    omega (arith, less, size, room)

-- PARTS: what is kept in slots, where nothing or one slot changed

pushed : {A B : Type 0} (f : A → B) (b : Bool) (x y : A) → f (cond b x y) ≡ cond b (f x) (f y)
pushed f true x y = refl
pushed f false x y = refl

kept_same : (c c' : Cached) (o : Option ℕ) → c'.lines ≡ c.lines → kept_at c' o ≡ kept_at c o
kept_same c c' None e = refl
kept_same c c' (Some slot) e = ap (λ (lines : List Line). Some (get_or lines slot no_line)) e

dirt_same : (t t' : Tagged) (o : Option ℕ) → t'.dirty ≡ t.dirty → is_dirty_at o t' ≡ is_dirty_at o t
dirt_same t t' None e = refl
dirt_same t t' (Some slot) e = ap (λ (dirty : List Bool). get_or dirty slot false) e

module _ (size : Size) (t' : Tagged) (x : Key) (slot : ℕ) (all : Lists size t') (there : slot_for x t' ≡ Some slot) where
  apart_from : (y : Key) (k : ℕ) → same_key x y ≡ false → slot_for y t' ≡ Some k → k ≡ slot → ⊥
  apart_from y k other at = slots_apart size t' y x k slot all (same_turned y x ∙ other) at there

  kept_set : (c c' : Cached) (line : Line) (y : Key) → same_key x y ≡ false → c'.lines ≡ set c.lines slot line → kept_at c' (slot_for y t') ≡ kept_at c (slot_for y t')
  kept_set c c' line y other is = by (slot_for y t') refl
    where
      by : (o : Option ℕ) → slot_for y t' ≡ o → kept_at c' o ≡ kept_at c o
      by None at = refl
      by (Some k) at = ap Some (ap (λ (lines : List Line). get_or lines k no_line) is ∙ get_or-set_other c.lines slot k line no_line (apart_from y k other at))

  dirt_set : (t : Tagged) (b : Bool) (y : Key) → same_key x y ≡ false → t'.dirty ≡ set t.dirty slot b → is_dirty_at (slot_for y t') t' ≡ is_dirty_at (slot_for y t') t
  dirt_set t b y other is = by (slot_for y t') refl
    where
      by : (o : Option ℕ) → slot_for y t' ≡ o → is_dirty_at o t' ≡ is_dirty_at o t
      by None at = refl
      by (Some k) at = ap (λ (dirty : List Bool). get_or dirty k false) is ∙ get_or-set_other t.dirty slot k b false (apart_from y k other at)

  kept_here : (c c' : Cached) (line : Line) → slot < length c.lines → c'.lines ≡ set c.lines slot line → kept_at c' (slot_for x t') ≡ Some line
  kept_here c c' line less is = ap (kept_at c') there ∙ ap Some (ap (λ (lines : List Line). get_or lines slot no_line) is ∙ get_or-set_same c.lines slot line no_line less)

  dirt_here : (t : Tagged) (b : Bool) → slot < length t.dirty → t'.dirty ≡ set t.dirty slot b → is_dirty_at (slot_for x t') t' ≡ b
  dirt_here t b less is = ap (λ (o : Option ℕ). is_dirty_at o t') there ∙ ap (λ (dirty : List Bool). get_or dirty slot false) is ∙ get_or-set_same t.dirty slot b false less

-- AN EMPTY CACHE

pub empty_tidy : (sets ways : ℕ) → 0 < sets → 0 < ways → Tidy (empty_cache sets ways)
empty_tidy sets ways some more = record {
  size = record { sets = sets; ways = ways };
  sets = some;
  ways = more;
  past = [];
  lists = refl;
  room = (let n = length-replicate (sets * ways) no_line in omega (arith, n));
}

empty_slot : (sets ways : ℕ) (x : Key) → slot_for x (no_lines sets ways) ≡ None
empty_slot sets ways x = slot_is_in x (no_lines sets ways) ∙ ap (slot_in x) (empty_lines ways sets 0 (x.number % length (empty_sets sets ways 0)))

pub empty_keeps : (sets ways : ℕ) (x : Key) → kept_for x (empty_cache sets ways) ≡ None
empty_keeps sets ways x = ap (kept_at (empty_cache sets ways)) (empty_slot sets ways x)

pub empty_clean : (sets ways : ℕ) (x : Key) → is_dirty_for x (empty_cache sets ways) ≡ false
empty_clean sets ways x = ap (λ (o : Option ℕ). is_dirty_at o (no_lines sets ways)) (empty_slot sets ways x)

-- A LOOK-UP of a line that is there

module _ (x : Key) (c : Cached) (slot : ℕ) (tidy : Tidy c) (there : slot_for x c.tags ≡ Some slot) where
  look_up_tags : (looked_up (pid_of x) (line_of x) c).tags ≡ after_past (Touched x) c.tags
  look_up_tags = ((calls-follow x (record c { counts = in_64_bits c.counts }) c.counts refl).a_hit slot there).tags

  pub look_up_keeps : Keeps (Touched x) c (looked_up (pid_of x) (line_of x) c)
  look_up_keeps = keeps (Touched x) c (looked_up (pid_of x) (line_of x) c) tidy look_up_tags refl (λ n fit. (calls-follow x c n fit).a_hit slot there)

  look_up_slots : (y : Key) → slot_for y (looked_up (pid_of x) (line_of x) c).tags ≡ slot_for y c.tags
  look_up_slots y = by (place_of (pid_of x) (line_of x) c.tags) refl there
    where
      by : (o : Option ℕ) → place_of (pid_of x) (line_of x) c.tags ≡ o → slot_at (set_for x c.tags).lines o ≡ Some slot → slot_for y (after_look_up (line_of x) c.tags o) ≡ slot_for y c.tags
      by None at e = refl
      by (Some p) at e = hit_slots tidy.size c.tags (after_look_up (line_of x) c.tags (Some p)) x p (tidy_lists c tidy) at refl y

  look_up_dirty : (looked_up (pid_of x) (line_of x) c).tags.dirty ≡ c.tags.dirty
  look_up_dirty = by (place_of (pid_of x) (line_of x) c.tags)
    where
      by : (o : Option ℕ) → (after_look_up (line_of x) c.tags o).dirty ≡ c.tags.dirty
      by None = refl
      by (Some p) = refl

  pub look_up_same : SameLines c (looked_up (pid_of x) (line_of x) c)
  look_up_same =
      let new : Cached = looked_up (pid_of x) (line_of x) c in
      record {
        lines = λ y. kept_same c new (slot_for y new.tags) refl ∙ ap (kept_at c) (look_up_slots y);
        dirt = λ y. dirt_same c.tags new.tags (slot_for y new.tags) look_up_dirty ∙ ap (λ (o : Option ℕ). is_dirty_at o c.tags) (look_up_slots y);
      }

  pub look_up_there : slot_for x (looked_up (pid_of x) (line_of x) c).tags ≡ Some slot
  look_up_there = look_up_slots x ∙ there

-- A WRITE into a line, and its WRITE-BACK

module _ (x : Key) (c : Cached) (slot : ℕ) (tidy : Tidy c) (there : slot_for x c.tags ≡ Some slot) where
  abbrev marked_at : Bool → Tagged
  marked_at b = record c.tags { dirty = set c.tags.dirty slot b }

  mark_is : (b : Bool) → marked_at b ≡ marked_where b (slot_for x c.tags) c.tags
  mark_is b = ap (λ (o : Option ℕ). marked_where b o c.tags) (sym there)

  marked_dirt : (b : Bool) → Lists tidy.size (marked_at b) → (y : Key) → is_dirty_at (slot_for y c.tags) (marked_at b) ≡ if_same x y b (is_dirty_for y c)
  marked_dirt b all y = by (same_key x y) refl
    where
      by : (d : Bool) → same_key x y ≡ d → is_dirty_at (slot_for y c.tags) (marked_at b) ≡ cond d b (is_dirty_for y c)
      by true at = subst (λ (z : Key). is_dirty_at (slot_for z c.tags) (marked_at b) ≡ b) (same_is x y at) (dirt_here tidy.size (marked_at b) x slot all there c.tags b (slot_below tidy.size c.tags x slot (tidy_lists c tidy) there) refl)
      by false other = dirt_set tidy.size (marked_at b) x slot all there c.tags b y other refl

  module _ (off : ℕ) (bytes : List ℕ) where
    pub write_keeps : Keeps (Stored x) c (written slot off bytes c)
    write_keeps = keeps (Stored x) c (written slot off bytes c) tidy (mark_is true) (length-set c.lines slot (with_bytes off bytes (line_in slot c))) (λ n fit. (calls-follow x c n fit).a_store slot off bytes there)

    pub write_becomes : Becomes x (Some (with_bytes off bytes (line_in slot c))) true c (written slot off bytes c)
    write_becomes = record {
      lines = λ y. by y (same_key x y) refl;
      dirt = marked_dirt true (subst (Lists tidy.size) (sym (mark_is true)) (lists_then (Stored x) c tidy));
    }
      where
        line : Line
        line = with_bytes off bytes (line_in slot c)

        by : (y : Key) (d : Bool) → same_key x y ≡ d → kept_for y (written slot off bytes c) ≡ cond d (Some (with_bytes off bytes (line_in slot c))) (kept_for y c)
        by y true at = subst (λ (z : Key). kept_for z (written slot off bytes c) ≡ Some (with_bytes off bytes (line_in slot c))) (same_is x y at)
            (kept_here tidy.size c.tags x slot (tidy_lists c tidy) there c (written slot off bytes c) (with_bytes off bytes (line_in slot c)) (slot_within c x slot tidy there) refl)
        by y false other = kept_set tidy.size c.tags x slot (tidy_lists c tidy) there c (written slot off bytes c) (with_bytes off bytes (line_in slot c)) y other refl

  pub clean_keeps : Keeps (Cleaned x) c (cleaned slot c)
  clean_keeps = keeps (Cleaned x) c (cleaned slot c) tidy (mark_is false) refl (λ n fit. (calls-follow x c n fit).a_write_back slot there)

  pub clean_becomes : Becomes x (kept_for x c) false c (cleaned slot c)
  clean_becomes = record {
    lines = λ y. kept_same c (cleaned slot c) (slot_for y c.tags) refl ∙ sym (if_itself y);
    dirt = marked_dirt false (subst (Lists tidy.size) (sym (mark_is false)) (lists_then (Cleaned x) c tidy));
  }
    where
      if_itself : (y : Key) → if_same x y (kept_for x c) (kept_for y c) ≡ kept_for y c
      if_itself y = by (same_key x y) refl
        where
          by : (d : Bool) → same_key x y ≡ d → cond d (kept_for x c) (kept_for y c) ≡ kept_for y c
          by true at = ap (λ (z : Key). kept_for z c) (same_is x y at)
          by false other = refl

-- A REMOVAL

module _ (x : Key) (c : Cached) (tidy : Tidy c) where
  pub remove_keeps : Keeps (Removed x) c (removed (pid_of x) (line_of x) c)
  remove_keeps = keeps (Removed x) c (removed (pid_of x) (line_of x) c) tidy refl refl (λ n fit. (calls-follow x c n fit).a_removal)

  pub remove_becomes : Becomes x None false c (removed (pid_of x) (line_of x) c)
  remove_becomes =
      let new : Cached = removed (pid_of x) (line_of x) c in
      let slots = removal_slots tidy.size c.tags x (tidy_lists c tidy) in
      record {
        lines = λ y. kept_same c new (slot_for y new.tags) refl ∙ ap (kept_at c) (slots y) ∙ pushed (kept_at c) (same_key x y) None (slot_for y c.tags);
        dirt = λ y.
            dirt_same c.tags new.tags (slot_for y new.tags) (removed-dirty x c.tags (place_of (pid_of x) (line_of x) c.tags))
            ∙ ap (λ (o : Option ℕ). is_dirty_at o c.tags) (slots y)
            ∙ pushed (λ (o : Option ℕ). is_dirty_at o c.tags) (same_key x y) None (slot_for y c.tags);
      }

-- A LINE COMES IN

module _ (x : Key) (line : Line) (c : Cached) (tidy : Tidy c) where
  pub come_keeps : Keeps (Touched x) c (came_in (pid_of x) (line_of x) line c)
  come_keeps = keeps (Touched x) c (came_in (pid_of x) (line_of x) line c) tidy refl (length-set c.lines (slot_of_touch (touch_for x c.tags)) line) (λ n fit. (calls-follow x c n fit).a_touch line)

  -- the cache by where the line is in its set
  abbrev come_at : Option ℕ → Cached
  come_at o = record {
    tags = after_touch (pid_of x) (line_of x) c.tags o;
    lines = set c.lines (slot_of_touch (answer_to_touch (pid_of x) (line_of x) c.tags o)) line;
    counts = with_touch (answer_to_touch (pid_of x) (line_of x) c.tags o) c.counts;
  }

  module _ (away : slot_for x c.tags ≡ None) where
    all : Lists tidy.size (come_at None).tags
    all = subst (λ (o : Option ℕ). Lists tidy.size (after_touch (pid_of x) (line_of x) c.tags o)) (place_none x c.tags away) (lists_then (Touched x) c tidy)

    abbrev new_slot : ℕ
    new_slot = (coming (pid_of x) (line_of x) (set_for x c.tags)).slot

    abbrev left : Option Key
    left = victim_in (answer_to_touch (pid_of x) (line_of x) c.tags None)

    slots : (y : Key) → slot_for y (come_at None).tags ≡ if_same x y (Some new_slot) (cond (is_victim left y) None (slot_for y c.tags))
    slots y = miss_slots tidy.size c.tags x (tidy_lists c tidy) away y

    here : slot_for x (come_at None).tags ≡ Some new_slot
    here = slots x ∙ cond-true (same_key x x) (Some new_slot) (cond (is_victim left x) None (slot_for x c.tags)) (same_self x)

    others : (y : Key) → same_key x y ≡ false → slot_for y (come_at None).tags ≡ cond (is_victim left y) None (slot_for y c.tags)
    others y other = slots y ∙ cond-false (same_key x y) (Some new_slot) (cond (is_victim left y) None (slot_for y c.tags)) other

    below : new_slot < tidy.size.sets * tidy.size.ways
    below = subst (λ (n : ℕ). new_slot < n) all.room (slot_below tidy.size (come_at None).tags x new_slot all here)

    lines : (y : Key) (d : Bool) → same_key x y ≡ d → kept_for y (come_at None) ≡ cond d (Some line) (cond (is_victim left y) None (kept_for y c))
    lines y true at = subst (λ (z : Key). kept_for z (come_at None) ≡ Some line) (same_is x y at) (kept_here tidy.size (come_at None).tags x new_slot all here c (come_at None) line (let less = below in let room = tidy.room in omega (arith, less, room)) refl)
    lines y false other =
        kept_set tidy.size (come_at None).tags x new_slot all here c (come_at None) line y other refl
        ∙ ap (kept_at c) (others y other)
        ∙ pushed (kept_at c) (is_victim left y) None (slot_for y c.tags)

    dirt : (y : Key) (d : Bool) → same_key x y ≡ d → is_dirty_for y (come_at None) ≡ cond d false (cond (is_victim left y) false (is_dirty_for y c))
    dirt y true at = subst (λ (z : Key). is_dirty_for z (come_at None) ≡ false) (same_is x y at) (dirt_here tidy.size (come_at None).tags x new_slot all here c.tags false (subst (λ (n : ℕ). new_slot < n) (sym (tidy_lists c tidy).room) below) refl)
    dirt y false other =
        dirt_set tidy.size (come_at None).tags x new_slot all here c.tags false y other refl
        ∙ ap (λ (o : Option ℕ). is_dirty_at o c.tags) (others y other)
        ∙ pushed (λ (o : Option ℕ). is_dirty_at o c.tags) (is_victim left y) None (slot_for y c.tags)

    pub come_comes : ComesIn x line (victim_in (touch_for x c.tags)) c (came_in (pid_of x) (line_of x) line c)
    come_comes = subst (λ (o : Option ℕ). ComesIn x line (victim_in (answer_to_touch (pid_of x) (line_of x) c.tags o)) c (come_at o)) (sym (place_none x c.tags away)) (record {
      lines = λ y. lines y (same_key x y) refl;
      dirt = λ y. dirt y (same_key x y) refl;
    })

    -- its slot
    pub come_there : slot_for x (came_in (pid_of x) (line_of x) line c).tags ≡ Some (slot_of_touch (touch_for x c.tags))
    come_there = subst (λ (o : Option ℕ). slot_for x (come_at o).tags ≡ Some (slot_of_touch (answer_to_touch (pid_of x) (line_of x) c.tags o))) (sym (place_none x c.tags away)) here

-- THE VICTIM of a line that comes in is a line of its set that is there
pub record IsVictim (size : Size) (x : Key) (v : Victim) (c : Cached) : Type 0 where
  pub slot : ℕ
  pub there : slot_for (key_at v.pid.0 v.line.0) c.tags ≡ Some slot
  pub dirty : v.dirty ≡ is_dirty_for (key_at v.pid.0 v.line.0) c
  pub differs : same_key x (key_at v.pid.0 v.line.0) ≡ false
  pub near : v.line.0 % size.sets ≡ x.number % size.sets

pub victim_is : (x : Key) (c : Cached) (tidy : Tidy c) (slot : ℕ) (v : Victim) → slot_for x c.tags ≡ None → touch_for x c.tags ≡ Miss slot (Some v) → IsVictim tidy.size x v c
victim_is x c tidy slot v away e =
    by (coming (pid_of x) (line_of x) (set_for x c.tags)).leaves refl (sym (ap (answer_to_touch (pid_of x) (line_of x) c.tags) (place_none x c.tags away)) ∙ e)
  where
    by : (o : Option Held) → (coming (pid_of x) (line_of x) (set_for x c.tags)).leaves ≡ o → ◌≡◌ {A = Touch} (Miss (coming (pid_of x) (line_of x) (set_for x c.tags)).slot (victim_of c.tags o)) (Miss slot (Some v)) → IsVictim tidy.size x v c
    by None left e = cc e
    by (Some h) left e =
        let is : ◌≡◌ {A = Victim} (record { pid = h.pid; line = h.line; dirty = get_or c.tags.dirty h.slot false }) v = cc e in
        let gone = leaving tidy.size c.tags x h (tidy_lists c tidy) away left in
        subst (λ (w : Victim). IsVictim tidy.size x w c) is (record {
          slot = h.slot;
          there = gone.there;
          dirty = sym (ap (λ (o : Option ℕ). is_dirty_at o c.tags) gone.there);
          differs = gone.differs;
          near = gone.near;
        })
