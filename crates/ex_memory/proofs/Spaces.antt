-- Where owners, areas and pages of the cluster stay, and so do caches, spaces are the same, and what holds between calls still
-- does.
use Rattle.std.proofs.Common.{◌≡◌, ◌∙◌, ◌/◌, ◌%◌, ◌*◌, ◌<◌, ◌≤◌, [], ◌∷◌, ◌++◌, ℕ, List, None, Option, Some, ap, false, length, refl, subst, sym, true}
use Rattle.std.specs.List.{AllByRecursion}
use Rattle.std.specs.Prelude.{IsSome, slice_get, slice_index}
use Rattle.lego_base.specs.Keys.{Key}
use Rattle.lego_base.specs.Pieces.{piece}
use Rattle.lego_base.specs.Space.{Space, perms_of}
use Rattle.lego_base.specs.declared.ids.MemId.{MemId}
use Rattle.lego_base.specs.declared.perms.Perms.{Perms}
use Rattle.lego_base.specs.declared.records.Area.{Area}
use Rattle.lego_base.specs.declared.records.HomeEntry.{HomeEntry}
use Rattle.lego_base.specs.declared.shape.Shape.{Shape}
use Rattle.area_list.specs.Runs.{joined}
use Rattle.area_list.specs.declared.TheConstants.{MOST_RUNS}
use Rattle.lego_msg.specs.Maps.{bytes_or_zeros, owner_of}
use Rattle.lego_msg.specs.Plain.{Plain, byte_at}
use Rattle.lego_msg.specs.Track.{memory_count}
use Rattle.lego_msg.specs.declared.place.Place.{Place}
use Rattle.line_cache.specs.Cached.{Cached}
use Rattle.line_cache.specs.declared.line.Line.{Line}
use Rattle.placement.specs.Owners.{Owned}
use Rattle.placement.specs.Processors.{processor_with}
use Rattle.cluster.specs.Askings.{areas_among}
use Rattle.cluster.specs.Mapping.{entries_in}
use Rattle.cluster.specs.Standing.{StandsFor}
use Rattle.cluster.specs.Whole.{Whole}
use Rattle.ex_memory.specs.Kept.{is_dirty_for, kept_for}
use Rattle.ex_memory.specs.Seen.{byte_in, line_in_cache, space_of}
use Rattle.ex_memory.specs.Sound.{FilesFit, CacheFits, LineFits, Sound}
use Rattle.ex_memory.specs.Split.{Split, plain_of}

among_same : (f g : Plain) (entries : List HomeEntry) → f.areas ≡ g.areas → areas_among f entries ≡ areas_among g entries
among_same f g [] e = refl
among_same f g (x ∷ entries) e = λ i. e i x.pid.0 x.region.0 ++ among_same f g entries e i

byte_same : (line : Option (List ℕ)) (f g : Plain) (pid address : ℕ) → f.page ≡ g.page → byte_in line f pid address ≡ byte_in line g pid address
byte_same None f g pid address e = λ i. slice_index (bytes_or_zeros (e i pid (address / 4096))) (address % 4096)
byte_same (Some line) f g pid address e = refl

-- the space of a process by what it depends on
abbrev space_by : Plain → Owned → ℕ → List Cached → ℕ → Space
space_by f t processors caches pid = record {
  areas = joined [] (areas_among f (entries_in (record { 0 = pid }) t));
  byte = λ address. byte_in (line_in_cache (slice_get caches (processor_with processors pid)) pid (address / 64)) f pid address;
}

space_by_same : (f g : Plain) (t : Owned) (processors : ℕ) (caches : List Cached) (pid : ℕ) → f.areas ≡ g.areas → f.page ≡ g.page → space_by f t processors caches pid ≡ space_by g t processors caches pid
space_by_same f g t processors caches pid areas page = λ i. record {
  areas = joined [] (among_same f g (entries_in (record { 0 = pid }) t) areas i);
  byte = λ address. byte_same (line_in_cache (slice_get caches (processor_with processors pid)) pid (address / 64)) f g pid address page i;
}

pub record SameSpaces (m m' : Split) : Type 0 where
  pub caches : m'.caches ≡ m.caches
  pub table : m'.whole.table ≡ m.whole.table
  pub shape : m'.whole.shape ≡ m.whole.shape
  pub homes : (plain_of m'.whole).homes ≡ (plain_of m.whole).homes
  pub areas : (plain_of m'.whole).areas ≡ (plain_of m.whole).areas
  pub page : (plain_of m'.whole).page ≡ (plain_of m.whole).page

module _ (m m' : Split) (same : SameSpaces m m') where
  pub space_same : space_of m' ≡ space_of m
  space_same = λ i pid. (
      (λ j. space_by (plain_of m'.whole) (same.table j) (same.shape j).processors (same.caches j) pid)
      ∙ space_by_same (plain_of m'.whole) (plain_of m.whole) m.whole.table m.whole.shape.processors m.caches pid same.areas same.page) i

  line_same : (cpu : ℕ) (c : Cached) (x : Key) (line : Line) → LineFits m cpu c x line → LineFits m' cpu c x line
  line_same cpu c x line fits = record {
    here = ap (λ (s : Shape). processor_with s.processors x.pid) same.shape ∙ fits.here;
    user = fits.user;
    owned = ap (λ (t : Owned). owner_of t.owners x.pid (x.number / 32768)) same.table ∙ fits.owned;
    mapped = (λ i. perms_of (same.areas i x.pid (x.number / 32768)) (x.number / 64)) ∙ fits.mapped;
    whole = fits.whole;
    clean = λ is. fits.clean is ∙ (λ i. piece (bytes_or_zeros (sym same.page i x.pid (x.number / 64))) (x.number % 64 * 64) 64);
  }

  cache_same : (cpu : ℕ) (c : Cached) → CacheFits m cpu c → CacheFits m' cpu c
  cache_same cpu c fits = record { tidy = fits.tidy; counts = fits.counts; lines = λ x line is. line_same cpu c x line (fits.lines x line is) }

  pub sound_same : FilesFit m'.whole.disk.files.files → StandsFor m'.whole (plain_of m'.whole) → Sound m → Sound m'
  sound_same short stands sound = record {
    rests = stands;
    homes = λ pid region. (λ i. same.homes i pid region) ∙ sound.homes pid region ∙ sym (ap (λ (t : Owned). owner_of t.owners pid region) same.table);
    placed = subst (λ (t : Owned). AllByRecursion (λ (o : MemId). o.0 < memory_count m'.whole.shape) t.placement) (sym same.table)
        (subst (λ (s : Shape). AllByRecursion (λ (o : MemId). o.0 < memory_count s) m.whole.table.placement) (sym same.shape) sound.placed);
    user = λ pid vpn is. sound.user pid vpn (subst (λ (areas : ℕ → ℕ → List Area). IsSome (perms_of (areas pid (vpn / 512)) vpn)) same.areas is);
    runs = λ pid. subst (λ (s : ℕ → Space). length (s pid).areas ≤ MOST_RUNS) (sym space_same) (sound.runs pid);
    files = short;
    some = subst (λ (s : Shape). 0 < s.processors) (sym same.shape) sound.some;
    count = ap length same.caches ∙ sound.count ∙ sym (ap (λ (s : Shape). s.processors) same.shape);
    caches = λ cpu c at. cache_same cpu c (sound.caches cpu c (ap (λ (cs : List Cached). slice_get cs cpu) (sym same.caches) ∙ at));
  }
