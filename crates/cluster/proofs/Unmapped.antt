-- An unmapping, from its askings to the last region that loses pages.
use Rattle.std.proofs.Common.{◌≡◌, ◌≤◌, ◌+◌, ◌*◌, ◌∙◌, [], ℕ, List, Option, arith, subst, sym, true}
use Rattle.lego_base.specs.Keys.{is_of}
use Rattle.lego_base.specs.declared.ids.Pid.{Pid}
use Rattle.lego_base.specs.declared.records.Area.{Area}
use Rattle.lego_base.specs.declared.sizes.TheConstants.{PAGES_END}
use Rattle.lego_base.specs.declared.shape.Shape.{Shape}
use Rattle.lego_msg.specs.Places.{is_issuer}
use Rattle.lego_msg.specs.Plain.{Plain}
use Rattle.lego_msg.specs.Track.{memory_count}
use Rattle.lego_msg.specs.declared.event.Event.{Event}
use Rattle.lego_msg.specs.declared.operation.Operation.{Operation}
use Rattle.lego_msg.specs.declared.place.Place.{Place}
use Rattle.placement.specs.Owners.{Owned}
use Rattle.protocol_engine.specs.Beyond.{Beyond, nothing_cached}
use Rattle.cluster.proofs.Regionwise.{asks_fit, owned_met, owned_those}
use Rattle.cluster.proofs.Telling.{asks_keep, asks_leave, same_table}
use Rattle.cluster.proofs.Unmapping.{all_fit, are_parts, parts_cached, parts_make, parts_owned, same_parts}
use Rattle.cluster.specs.Askings.{areas_among, asks_of}
use Rattle.cluster.specs.Mapping.{entries_in}
use Rattle.cluster.specs.Sequences.{AreGrantedAt, FitAll, MayAskAll, ServesEach, all_free, effects, owners_after_all}
use Rattle.cluster.specs.Standing.{StandsFor}
use Rattle.cluster.specs.Unmapping.{AreParts, areas_at, listed_for, regions_met, unmaps_parts, without_range}
use Rattle.cluster.specs.Whole.{SameTurns, Whole}

abbrev pub parts_at : Whole → Plain → Pid → ℕ → ℕ → List Operation
parts_at w f pid first pages = unmaps_parts (memory_count w.shape) (areas_at f) first pages (regions_met w.table pid first pages)

-- with the areas that were answered
abbrev pub parts_told : Whole → List Area → Pid → ℕ → ℕ → List Operation
parts_told w old pid first pages = unmaps_parts (memory_count w.shape) (listed_for old) first pages (regions_met w.table pid first pages)

-- what they make of the plain map
pub unmapping_makes : (c : Whole) (f : Plain) (pid : Pid) (first pages : ℕ) → first + pages ≤ PAGES_END → StandsFor c f → effects (parts_at c f pid first pages) f ≡ without_range pid first pages f
unmapping_makes c f pid first pages most stands =
    let two = stands.machine.two in
    parts_make (memory_count c.shape) c.table.owners f pid first pages stands.plain most (omega (arith, two))

-- and they leave the owners
pub told_owned : (d : Whole) (old : List Area) (pid : Pid) (first pages : ℕ) → owners_after_all (all_free (parts_told d old pid first pages)) d.table.owners ≡ d.table.owners
told_owned d old pid first pages = parts_owned (memory_count d.shape) (listed_for old) first pages (regions_met d.table pid first pages) d.table.owners

pub may_part : (d : Whole) (f : Plain) (by : Place) (old : List Area) (pid : Pid) (first pages : ℕ) → AreGrantedAt d f by (parts_told d old pid first pages) → MayAskAll d by (parts_told d old pid first pages)
may_part d f by old pid first pages granted = record {
  plain = f;
  caches = nothing_cached;
  granted = granted;
  fits = parts_cached (memory_count d.shape) (listed_for old) first pages (regions_met d.table pid first pages) by nothing_cached;
}

-- ---- once the regions were asked for their areas
module _ {W : Type 0} (told : W → Option (List Event)) (faults : W → ℕ) (w w' : W) (c d : Whole) (by : Place) (pid : Pid) (first pages : ℕ) (most : first + pages ≤ PAGES_END) (beyond : Beyond → Beyond) (serves : ServesEach told faults w w' c d by (all_free (asks_of (regions_met c.table pid first pages))) beyond) (turns : SameTurns c.table d.table) where
  pub met_table : d.table ≡ c.table
  met_table = same_table c.table d.table turns (serves.owners ∙ asks_keep (regions_met c.table pid first pages) c.table.owners)

  met_stands : is_issuer by ≡ true → (f : Plain) → StandsFor c f → StandsFor d f
  met_stands issuer f stands = subst (StandsFor d) (asks_leave (regions_met c.table pid first pages) f) (serves.stands f (record {
    stands = stands;
    issuer = issuer;
    drained = [];
    empty = tt;
    fit = asks_fit (memory_count c.shape) c.table.owners f (regions_met c.table pid first pages) (owned_met (first * 4096) (pages * 4096) c.table.owners (entries_in pid c.table) (owned_those (is_of pid.0) c.table.owners stands.plain.rise));
  }))

  module _ (f : Plain) (stands : StandsFor c f) (old : List Area) (is : old ≡ areas_among f (regions_met c.table pid first pages)) where
    -- what is played is what is called for
    pub met_played : parts_told d old pid first pages ≡ parts_at c f pid first pages
    met_played =
        let two = stands.machine.two in
        (λ i. unmaps_parts (memory_count (serves.shape i)) (listed_for (is i)) first pages (regions_met (met_table i) pid first pages))
        ∙ same_parts (memory_count c.shape) c.table.owners f pid first pages stands.plain most (omega (arith, two))

    pub met_parts : AreParts old first pages (regions_met d.table pid first pages)
    met_parts =
        let two = stands.machine.two in
        subst (λ (p : List Area × Owned). AreParts p.0 first pages (regions_met p.1 pid first pages)) (λ i. (sym is i, sym met_table i))
        (are_parts (memory_count c.shape) c.table.owners f pid first pages stands.plain most (omega (arith, two)))

    pub met_granted : is_issuer by ≡ true → AreGrantedAt d f by (parts_told d old pid first pages)
    met_granted issuer =
        let two = stands.machine.two in
        record {
          stands = met_stands issuer f stands;
          issuer = issuer;
          drained = [];
          empty = tt;
          fit = subst (λ (p : Shape × (Owned × List Operation)). FitAll (memory_count p.0) p.1.0.owners f [] p.1.1) (λ i. (sym serves.shape i, (sym met_table i, sym met_played i)))
              (all_fit (memory_count c.shape) c.table.owners f pid first pages stands.plain most (omega (arith, two)));
        }
