-- A fill is shown, and then written to the owner of its page's region.
use Rattle.std.proofs.Common.{◌≡◌, ◌+◌, ◌*◌, ◌/◌, ◌%◌, [], ◌∷◌, ℕ, List, None, Option, Some, arith, false, refl, subst, true}
use Rattle.std.proofs.lemmas.Bool.{false≢true}
use Rattle.std.specs.Prelude.{IsSome}
use Rattle.lego_base.specs.Space.{perms_of}
use Rattle.lego_base.specs.declared.ids.MemId.{MemId}
use Rattle.lego_base.specs.declared.ids.Pid.{Pid}
use Rattle.lego_base.specs.declared.records.Area.{Area}
use Rattle.lego_base.specs.declared.stops.Halt.{Halt}
use Rattle.lego_msg.proofs.Going.{ends_at, one_event, stays, stopped_halted, went-then, went_halted, went_happened}
use Rattle.lego_msg.specs.Granted.{WriteFits}
use Rattle.lego_msg.specs.Places.{is_issuer}
use Rattle.lego_msg.specs.Plain.{Plain, with_patch}
use Rattle.lego_msg.specs.Run.{after}
use Rattle.lego_msg.specs.Sends.{WritesFill}
use Rattle.lego_msg.specs.ShownEvents.{filled_with}
use Rattle.lego_msg.specs.Track.{Caches, Quiet, is_calm}
use Rattle.lego_msg.specs.Watching.{ShownTo}
use Rattle.lego_msg.specs.Went.{Went}
use Rattle.lego_msg.specs.declared.body.Body.TheVariants.{Done}
use Rattle.lego_msg.specs.declared.event.Event.{Event}
use Rattle.lego_msg.specs.declared.event.Event.TheVariants.{Fill}
use Rattle.lego_msg.specs.declared.operation.Operation.{Operation}
use Rattle.lego_msg.specs.declared.operation.Operation.TheVariants.{Writes}
use Rattle.lego_msg.specs.declared.place.Place.{Place}
use Rattle.protocol_engine.specs.Beyond.{Beyond}
use Rattle.cluster.proofs.Granting.{granted_plain}
use Rattle.cluster.specs.Calls.{MayCome, ServeHalts, Serves, asked_at}
use Rattle.cluster.specs.Filling.{FillEnds, FillFits, FillHalts, fill_at, fill_patch, owner_at, patch_written}
use Rattle.cluster.specs.Standing.{StandsFor}
use Rattle.cluster.specs.Whole.{SameTurns, Whole, track_at}
use Rattle.lego_base.specs.declared.stops.Halt.TheVariants as halt
use Rattle.lego_msg.specs.declared.operation.Origin.TheVariants as origin

abbrev pub fill_of : Pid → ℕ → List ℕ → MemId → Operation
fill_of pid address bytes owner = Writes origin.Fill (fill_patch pid address bytes) owner

-- caches with a fill that was shown and not written yet
pub shown_caches : (caches : Caches) (pid : Pid) (address : ℕ) (bytes : List ℕ) → WritesFill (filled_with caches pid.0 address bytes) (fill_patch pid address bytes)
shown_caches caches pid address bytes =
    let whole : address ≡ address / 4096 * 4096 + address % 4096 = omega arith in
    λ i. Some (record { pid = pid.0; address = whole i; bytes = bytes })

module _ (c : Whole) (f : Plain) (pid : Pid) (address : ℕ) (bytes : List ℕ) (stands : StandsFor c f) (fits : FillFits pid.0 address bytes f) where
  -- the region of a page that is mapped has an owner
  pub owner_known : owner_at c pid address ≡ None → ⊥
  owner_known none = false≢true (subst (λ (l : List Area). IsSome (perms_of l (address / 4096))) (stands.plain.areas pid.0 (address / 4096 / 512) none) fits.mapped)

  pub write_fits : (owner : MemId) → owner_at c pid address ≡ Some owner → WriteFits c.table.owners f (fill_patch pid address bytes) owner
  write_fits owner is = record { owned = is; mapped = fits.mapped; patch = (fits.some, fits.within) }

module _ {W : Type 0} (told : W → Option (List Event)) (faults : W → ℕ) where
  -- memory runs out before it is shown
  pub fill_lacks : (w : W) (c : Whole) (by : Place) (pid : Pid) (address : ℕ) (bytes : List ℕ) → FillHalts told faults w w c by pid address bytes halt.NoMemory
  fill_lacks w c by pid address bytes none g = stopped_halted told faults w w _ (went_happened told faults w w _ _ (stays told faults w (fill_at c by pid address bytes g)))

  module _ (w w' w'' : W) (c d : Whole) (by : Place) (pid : Pid) (address : ℕ) (bytes : List ℕ) (owner : MemId) (is : owner_at c pid address ≡ Some owner) where
    abbrev with_fill : Beyond → Beyond
    with_fill g = record g { caches = filled_with g.caches pid.0 address bytes }

    module _ (calm : (g : Beyond) → is_calm (track_at c g) ≡ true) (shown : ShownTo told faults w w' (Fill pid address bytes ∷ [])) where
      quiet : (g : Beyond) → Quiet (fill_at c by pid address bytes g)
      quiet g = record { owed = refl; closed = refl; healed = refl; calm = calm g }

      is_shown : (g : Beyond) → Went told faults w w' (fill_at c by pid address bytes g) (asked_at c by (fill_of pid address bytes owner) (with_fill g) false)
      is_shown g =
          ends_at told faults w w' (fill_at c by pid address bytes g) (after (fill_at c by pid address bytes g) (Fill pid address bytes)) (asked_at c by (fill_of pid address bytes owner) (with_fill g) false)
          (λ i. record (track_at c (with_fill g)) { due = patch_written by (fill_patch pid address bytes) (is i) g.due })
          (one_event told faults w w' (fill_at c by pid address bytes g) (Fill pid address bytes) shown (quiet g, refl))

      may_come : (g : Beyond) → MayCome c by (fill_of pid address bytes owner) (with_fill g) false
      may_come g = record { caches = shown_caches g.caches pid address bytes; late_enough = refl }

      pub fill_ends : Serves told faults w' w'' c d by (fill_of pid address bytes owner) Done → FillEnds told faults w w'' c d by pid address bytes
      fill_ends serves g = went-then told faults w w' w'' _ _ _ (is_shown g) (serves.went (with_fill g) false (may_come g))

      pub fill_halts : (h : Halt) → ServeHalts told faults w' w'' c by (fill_of pid address bytes owner) h → FillHalts told faults w w'' c by pid address bytes h
      fill_halts h halts none g = went_halted told faults w w' w'' h _ _ (is_shown g) (halts none (with_fill g) false (may_come g))

    pub fill_stands : is_issuer by ≡ true → Serves told faults w' w'' c d by (fill_of pid address bytes owner) Done → (f : Plain) → StandsFor c f → FillFits pid.0 address bytes f → StandsFor d (with_patch (fill_patch pid address bytes) f)
    fill_stands issuer serves f stands fits = serves.stands f (granted_plain c f by (fill_of pid address bytes owner) stands issuer tt (write_fits c f pid address bytes stands fits owner is) (λ p vpn. refl))

    pub fill_table : SameTurns c.table d.table → Serves told faults w' w'' c d by (fill_of pid address bytes owner) Done → d.table ≡ c.table
    fill_table turns serves = λ i. record { owners = serves.owners i; memories = turns.memories i; placement = turns.placement i; given = turns.given i }
