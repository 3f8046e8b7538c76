-- Processors with empty caches over a cluster that was booted.
use Rattle.std.proofs.Common.{◌≡◌, ◌∙◌, ◌*◌, ◌+◌, ◌/◌, ◌%◌, ◌-◌, ◌<◌, ◌≤◌, [], ◌∷◌, ◌++◌, ℕ, zero, suc, List, None, Option, Some, ap, append_assoc, arith, length, refl, replicate, subst, sym}
use Rattle.std.specs.List.{AllByRecursion}
use Rattle.std.proofs.Math.Pow.{pow-sub-lt}
use Rattle.std.specs.Int.{IsPowerOfTwo}
use Rattle.std.proofs.lemmas.Bool.{false≢true}
use Rattle.std.proofs.lemmas.List.{length-replicate}
use Rattle.std.specs.Prelude.{slice_get, slice_index}
use Rattle.lego_base.specs.Keys.{key_at}
use Rattle.lego_base.specs.Pieces.{zeros}
use Rattle.lego_base.specs.declared.ids.MemId.{MemId}
use Rattle.lego_base.specs.declared.shape.Shape.{Shape}
use Rattle.area_list.specs.Runs.{joined}
use Rattle.area_list.specs.declared.TheConstants.{MOST_RUNS}
use Rattle.lego_msg.specs.Files.{no_files}
use Rattle.lego_msg.specs.Maps.{owner_of}
use Rattle.lego_msg.specs.Marks.{Mark}
use Rattle.lego_msg.specs.Plain.{IsMapped, Plain, no_plain}
use Rattle.lego_msg.specs.Track.{Track, memory_count, start}
use Rattle.lego_msg.specs.declared.place.Place.TheVariants.{Manager}
use Rattle.line_cache.specs.Cached.{Cached, empty_cache}
use Rattle.linux_model.specs.Held.{Held}
use Rattle.placement.specs.Owners.{Owned, no_owners}
use Rattle.placement.specs.Processors.{processor_with}
use Rattle.protocol_engine.specs.Beyond.{Beyond, beginning, nothing_cached}
use Rattle.cluster.specs.Askings.{areas_among}
use Rattle.cluster.specs.Mapping.{entries_in}
use Rattle.cluster.specs.Standing.{StandsFor}
use Rattle.cluster.specs.Whole.{Whole, track_at}
use Rattle.split_script.specs.Now.{Now, at_start}
use Rattle.ex_memory.proofs.Keeping.{empty_keeps, empty_tidy}
use Rattle.ex_memory.proofs.Standing.{one_plain}
use Rattle.ex_memory.specs.Did.{CacheIs, Is}
use Rattle.ex_memory.specs.Kept.{bytes_kept}
use Rattle.ex_memory.specs.Seen.{byte_in, caches_of, held_of, line_held, line_in_cache, world}
use Rattle.ex_memory.specs.Sound.{CacheFits, FilesFit, Sound}
use Rattle.ex_memory.specs.Split.{Split, plain_of}

in_copies : {X : Type 0} (n : ℕ) (x y : X) (i : ℕ) → slice_get (replicate n x) i ≡ Some y → y ≡ x
in_copies zero x y i e = cc e
in_copies (suc n) x y zero e = cc e
in_copies (suc n) x y (suc i) e = in_copies n x y i e

no_line : (n : ℕ) (c : Cached) (cpu : ℕ) → ((pid line : ℕ) → line_in_cache (Some c) pid line ≡ None) → (o : Option Cached) → slice_get (replicate n c) cpu ≡ o → (pid line : ℕ) → line_in_cache o pid line ≡ None
no_line n c cpu none None e pid line = refl
no_line n c cpu none (Some d) e pid line = ap (λ (x : Cached). line_in_cache (Some x) pid line) (in_copies n c d cpu e) ∙ none pid line

none_in_copies : (n : ℕ) (c : Cached) → ((pid line : ℕ) → line_in_cache (Some c) pid line ≡ None) → caches_of (replicate n c) ≡ nothing_cached
none_in_copies n c none = λ i. record { line = λ cpu pid line. no_line n c cpu none (slice_get (replicate n c) cpu) refl pid line i; filled = None }

pub power_some : (n : ℕ) → IsPowerOfTwo n → 0 < n
power_some n power =
    let less = pow-sub-lt power.0 {a = 1} (omega arith) in
    subst (λ (x : ℕ). 0 < x) (sym power.1) (omega (arith, less))

-- one more of them
one_less : (n k : ℕ) → k < n → n - k ≡ suc (n - (k + 1))
one_less n k below = omega (arith, below)

pub one_more : {X : Type 0} (n k : ℕ) (x : X) (old new all : List X) → k < n → old ++ replicate (n - k) x ≡ all → new ≡ old ++ x ∷ [] → new ++ replicate (n - (k + 1)) x ≡ all
one_more {X = X} n k x old new all below before is =
    ap (λ (xs : List X). xs ++ replicate (n - (k + 1)) x) is ∙ append_assoc old (x ∷ []) (replicate (n - (k + 1)) x)
    ∙ ap (λ (j : ℕ). old ++ replicate j x) (sym (one_less n k below)) ∙ before

module _ (shape : Shape) (c : Whole) (caches : List Cached) (copies : caches ≡ replicate shape.processors (empty_cache shape.sets shape.ways))
    (starts : (due : List Mark) → track_at c (beginning shape.blocks due) ≡ start shape due) (stands : StandsFor c (no_plain (no_files shape.blocks)))
    (table : c.table ≡ no_owners (memory_count shape) shape.placement) (goes : c.halt ≡ None)
    (placed : AllByRecursion (λ (o : MemId). o.0 < memory_count shape) shape.placement) (some : 0 < shape.processors) (sets : 0 < shape.sets) (ways : 0 < shape.ways) where
  abbrev booted : Split
  booted = record { whole = c; caches = caches; by = Manager }

  plain : plain_of c ≡ no_plain (no_files shape.blocks)
  plain = sym (one_plain c (no_plain (no_files shape.blocks)) stands)

  shape_is : c.shape ≡ shape
  shape_is = ap (λ (t : Track). t.shape) (starts [])

  no_lines : caches_of caches ≡ nothing_cached
  no_lines = ap caches_of copies ∙ none_in_copies shape.processors (empty_cache shape.sets shape.ways) (λ pid line. ap bytes_kept (empty_keeps shape.sets shape.ways (key_at pid line)))

  pub booted_start : (due : List Mark) → world booted due ≡ start shape due
  booted_start due = (λ i. track_at c (record { plain = plain i; caches = no_lines i; due = due })) ∙ starts due

  in_zeros : (n i : ℕ) → slice_index (zeros n) i ≡ 0
  in_zeros zero i = refl
  in_zeros (suc n) zero = refl
  in_zeros (suc n) (suc i) = in_zeros n i

  -- a byte that nobody wrote
  zero_byte : (address : ℕ) → slice_index (zeros 4096) (address % 4096) ≡ 0
  zero_byte address = in_zeros 4096 (address % 4096)

  -- what is held, with nothing mapped and no line in a cache
  abbrev blank : Held
  blank = record { space = λ pid. record { areas = []; byte = λ address. slice_index (zeros 4096) (address % 4096) }; files = []; names = []; next = 0 }

  to_blank : held_of booted ≡ blank
  to_blank = λ i. record {
    space = λ pid. record {
      areas = joined [] (areas_among (plain i) (entries_in (record { 0 = pid }) (table i)));
      byte = λ address. byte_in ((no_lines i).line (processor_with (shape_is i).processors pid) pid (address / 64)) (plain i) pid address;
    };
    files = (plain i).files.files;
    names = (plain i).files.names;
    next = (plain i).files.next;
  }

  held : held_of booted ≡ (at_start shape).held
  held = to_blank ∙ (λ i. record { space = λ pid. record { areas = []; byte = λ address. zero_byte address i }; files = []; names = []; next = 0 })

  pub booted_is : Is (at_start shape) booted
  booted_is = record {
    goes = goes;
    shape = sym shape_is;
    held = sym held;
    by = refl;
    owned = sym table;
    caches = λ cpu k at. let same = in_copies shape.processors (empty_cache shape.sets shape.ways) k cpu (ap (λ (cs : List Cached). slice_get cs cpu) (sym copies) ∙ at) in
        record { lines = sym (ap (λ (x : Cached). x.tags) same); counts = ap (λ (x : Cached). x.counts) same };
  }

  pub booted_sound : Sound booted
  booted_sound = record {
    rests = subst (StandsFor c) (sym plain) stands;
    homes = λ pid region. (λ i. (plain i).homes pid region) ∙ sym (ap (λ (t : Owned). owner_of t.owners pid region) table);
    placed = subst (λ (t : Owned). AllByRecursion (λ (o : MemId). o.0 < memory_count c.shape) t.placement) (sym table)
        (subst (λ (s : Shape). AllByRecursion (λ (o : MemId). o.0 < memory_count s) shape.placement) (sym shape_is) placed);
    user = λ pid vpn is. absurd (false≢true (subst (λ (p : Plain). IsMapped p pid vpn) plain is));
    runs = λ pid. subst (λ (h : Held). length (h.space pid).areas ≤ MOST_RUNS) (sym held) (omega arith);
    files = subst (λ (p : Plain). FilesFit p.files.files) (sym plain) tt;
    some = subst (λ (s : Shape). 0 < s.processors) (sym shape_is) some;
    count = ap length copies ∙ length-replicate shape.processors (empty_cache shape.sets shape.ways) ∙ sym (ap (λ (s : Shape). s.processors) shape_is);
    caches = λ cpu k at.
        let same = in_copies shape.processors (empty_cache shape.sets shape.ways) k cpu (ap (λ (cs : List Cached). slice_get cs cpu) (sym copies) ∙ at) in
        subst (CacheFits booted cpu) (sym same) (record {
          tidy = empty_tidy shape.sets shape.ways sets ways;
          counts = refl;
          lines = λ x line there. cc (sym (empty_keeps shape.sets shape.ways x) ∙ there);
        });
  }
