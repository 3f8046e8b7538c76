-- The entries of a set: those of its lines first, then those that are free.
use Rattle.std.proofs.Common.{◌≡◌, ◌+◌, ◌-◌, ◌<◌, ◌≤◌, ◌++◌, [], ◌∷◌, ◌∙◌, ℕ, List, Some, ap, append-nil, arith, drop, get_or, length, map, refl, subst, sym, take}
use Rattle.std.proofs.lemmas.List.{drop_at, get_or_append_left, get_or_default, take-append-drop, take_at}
use Rattle.std.proofs.lemmas.List.Edits.{length-remove, remove-append_left}
use Rattle.std.proofs.lemmas.List.{drop_more, drop_all, take_all, length-take-le}
use Rattle.std.specs.List.{insert, remove}
use Rattle.lego_base.specs.declared.ids.LineNo.{LineNo}
use Rattle.lego_base.specs.declared.ids.Pid.{Pid}
use Rattle.cache_tags.specs.Lists.{brought, coming, free_entry, held, line_at, oldest, released, younger}
use Rattle.cache_tags.specs.Sets.{SetLines, slot_of}
use Rattle.cache_tags.specs.declared.set.Held.{Held}

-- the set of some entries, of which this many are of lines
abbrev pub set_in : ℕ → List Held → SetLines
set_in live entries = record { lines = take live entries; free = map slot_of (drop live entries) }

-- and of those of lines and those that are free
abbrev parted : List Held → List Held → SetLines
parted lines free = record { lines = lines; free = map slot_of free }

set_parted : (lines free : List Held) (live : ℕ) → length lines ≡ live → set_in live (lines ++ free) ≡ parted lines free
set_parted lines free live e = λ i. parted (take_at lines free live e i) (drop_at lines free live e i)

-- BRING

bring_parted : (lines free : List Held) (live p : ℕ) (h : Held) → length lines ≡ live → p < live → set_in live (h ∷ remove (lines ++ free) p) ≡ parted (h ∷ remove lines p) free
bring_parted lines free live p h e less =
    let inside : p < length lines = omega (arith, e, less) in
    ap (set_in live) (ap (λ (es : List Held). h ∷ es) (remove-append_left lines free p inside))
    ∙ set_parted (h ∷ remove lines p) free live (let n = length-remove lines p inside in omega (arith, n, e))

read_line : (entries : List Held) (live p : ℕ) (h : Held) → live ≤ length entries → p < live → h ≡ get_or entries p h → h ≡ line_at (take live entries) p
read_line entries live p h le less e =
    let n : length (take live entries) ≡ live = length-take-le live entries le in
    let inside : p < length entries = omega (arith, le, less) in
    let within : p < length (take live entries) = omega (arith, n, less) in
    e ∙ get_or_default entries p h (free_entry 0) inside
    ∙ ap (λ (es : List Held). get_or es p (free_entry 0)) (sym (take-append-drop live entries))
    ∙ get_or_append_left (take live entries) (drop live entries) (free_entry 0) p within

pub bring-set : (entries new : List Held) (live p : ℕ) (h : Held) → live ≤ length entries → p < live → h ≡ get_or entries p h → new ≡ h ∷ remove entries p → set_in live new ≡ brought p (set_in live entries)
bring-set entries new live p h le less read e =
    ap (set_in live) (e ∙ ap (λ (es : List Held). h ∷ remove es p) (sym (take-append-drop live entries)))
    ∙ bring_parted (take live entries) (drop live entries) live p h (length-take-le live entries le) less
    ∙ ap (λ (x : Held). parted (x ∷ remove (take live entries) p) (drop live entries)) (read_line entries live p h le less read)

-- RELEASE

release_parted : (lines free : List Held) (rest p : ℕ) (h : Held) → length lines ≡ rest + 1 → p < rest + 1 → set_in rest (insert (remove (lines ++ free) p) rest h) ≡ parted (remove lines p) (h ∷ free)
release_parted lines free rest p h e less =
    let inside : p < length lines = omega (arith, e, less) in
    let n : length (remove lines p) ≡ rest = (let m = length-remove lines p inside in omega (arith, m, e)) in
    ap (set_in rest)
    (ap (λ (es : List Held). insert es rest h) (remove-append_left lines free p inside)
    ∙ (λ i. take_at (remove lines p) free rest n i ++ h ∷ drop_at (remove lines p) free rest n i))
    ∙ set_parted (remove lines p) (h ∷ free) rest n

pub release-set : (entries new : List Held) (live rest p : ℕ) (h : Held) → live ≤ length entries → live ≡ rest + 1 → p < live → h ≡ get_or entries p h → new ≡ insert (remove entries p) rest h → set_in rest new ≡ released p (set_in live entries)
release-set entries new live rest p h le is less read e =
    ap (set_in rest) (e ∙ ap (λ (es : List Held). insert (remove es p) rest h) (sym (take-append-drop live entries)))
    ∙ release_parted (take live entries) (drop live entries) rest p h (length-take-le live entries le ∙ is) (omega (arith, is, less))
    ∙ ap (λ (x : Held). parted (remove (take live entries) p) (x ∷ drop live entries)) (read_line entries live p h le less read)

-- TAKE IN, where a slot is free

take_out_free : (lines : List Held) (f : Held) (free : List Held) → remove (lines ++ f ∷ free) (length lines) ≡ lines ++ free
take_out_free [] f free = refl
take_out_free (h ∷ lines) f free = ap (λ (es : List Held). h ∷ es) (take_out_free lines f free)

pub record TakesIn (pid : Pid) (line : LineNo) (s : SetLines) (slot : ℕ) (new : SetLines) : Type 0 where
  pub slot_is : slot ≡ (coming pid line s).slot
  pub set_is : new ≡ (coming pid line s).set

free_parted : (pid : Pid) (line : LineNo) (lines : List Held) (f : Held) (free : List Held) (live : ℕ) → length lines ≡ live → set_in (live + 1) (held pid line f.slot ∷ remove (lines ++ f ∷ free) live) ≡ parted (held pid line f.slot ∷ lines) free
free_parted pid line lines f free live e =
    ap (set_in (live + 1)) (ap (λ (es : List Held). held pid line f.slot ∷ es) (ap (remove (lines ++ f ∷ free)) (sym e) ∙ take_out_free lines f free))
    ∙ set_parted (held pid line f.slot ∷ lines) free (live + 1) (omega (arith, e))

pub take-free : (pid : Pid) (line : LineNo) (entries new : List Held) (live : ℕ) (f : Held) → live < length entries → f ≡ get_or entries live f → new ≡ held pid line f.slot ∷ remove entries live → TakesIn pid line (set_in live entries) f.slot (set_in (live + 1) new)
take-free pid line entries new live f less read e =
    let rest : drop live entries ≡ f ∷ drop (live + 1) entries = drop_more entries live f less ∙ ap (λ (x : Held). x ∷ drop (live + 1) entries) (sym read) in
    let whole : entries ≡ take live entries ++ f ∷ drop (live + 1) entries = sym (take-append-drop live entries) ∙ ap (λ (es : List Held). take live entries ++ es) rest in
    let n : length (take live entries) ≡ live = length-take-le live entries (omega (arith, less)) in
    record {
      slot_is = ap (λ (es : List Held). (coming pid line (parted (take live entries) es)).slot) (sym rest);
      set_is =
          ap (set_in (live + 1)) (e ∙ ap (λ (es : List Held). held pid line f.slot ∷ remove es live) whole)
          ∙ free_parted pid line (take live entries) f (drop (live + 1) entries) live n
          ∙ ap (λ (es : List Held). (coming pid line (parted (take live entries) es)).set) (sym rest);
    }

-- and where none is

oldest_at : (h d : Held) (lines : List Held) → get_or (h ∷ lines) (length lines) d ≡ oldest h lines
oldest_at h d [] = refl
oldest_at h d (x ∷ lines) = oldest_at x d lines

younger_is : (h : Held) (lines : List Held) → remove (h ∷ lines) (length lines) ≡ younger h lines
younger_is h [] = refl
younger_is h (x ∷ lines) = ap (λ (es : List Held). h ∷ es) (younger_is x lines)

pub record TakesOldest (pid : Pid) (line : LineNo) (s : SetLines) (h : Held) (new : SetLines) : Type 0 where
  pub slot_is : h.slot ≡ (coming pid line s).slot
  pub leaves_is : Some h ≡ (coming pid line s).leaves
  pub set_is : new ≡ (coming pid line s).set

full_set : (pid : Pid) (line : LineNo) (lines new : List Held) (live : ℕ) (h : Held) → live ≡ length lines → 0 < live → h ≡ get_or lines (live - 1) h → new ≡ held pid line h.slot ∷ remove lines (live - 1) → TakesOldest pid line (parted lines []) h (set_in live new)
full_set pid line [] new live h e some read is = absurd (omega (arith, e, some))
full_set pid line (x ∷ lines) new live h e some read is =
    let last : live - 1 ≡ length lines = omega (arith, e) in
    let h_is : h ≡ oldest x lines = read ∙ ap (λ (n : ℕ). get_or (x ∷ lines) n h) last ∙ oldest_at x h lines in
    let left : remove (x ∷ lines) (live - 1) ≡ younger x lines = ap (remove (x ∷ lines)) last ∙ younger_is x lines in
    let whole : new ≡ (held pid line (oldest x lines).slot ∷ younger x lines) ++ [] = is ∙ (λ i. held pid line (h_is i).slot ∷ left i) ∙ sym (append-nil (held pid line (oldest x lines).slot ∷ younger x lines)) in
    record {
      slot_is = ap slot_of h_is;
      leaves_is = ap Some h_is;
      set_is = ap (set_in live) whole ∙ set_parted (held pid line (oldest x lines).slot ∷ younger x lines) [] live (let n = ap length (younger_is x lines) in let m = length-remove (x ∷ lines) (length lines) (omega arith) in omega (arith, n, m, e));
    }

pub take-oldest : (pid : Pid) (line : LineNo) (entries new : List Held) (live : ℕ) (h : Held) → length entries ≤ live → live ≤ length entries → 0 < length entries → h ≡ get_or entries (live - 1) h → new ≡ held pid line h.slot ∷ remove entries (live - 1) → TakesOldest pid line (set_in live entries) h (set_in live new)
take-oldest pid line entries new live h all le some read is =
    subst (λ (s : SetLines). TakesOldest pid line s h (set_in live new))
    (λ i. parted (sym (take_all live entries all) i) (sym (drop_all live entries all) i))
    (full_set pid line entries new live h (omega (arith, all, le)) (omega (arith, all, le, some)) read is)
