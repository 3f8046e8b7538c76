-- What effects put out on the two streams.
use Rattle.std.specs.Prelude.{◌≡◌, Bool, false, List, [], ◌∷◌}
use Rattle.linux_model.specs.State.{Kernel, Written, nothing, on, joined}
use Rattle.linux_model.specs.Effects.{Effect, Puts, applies}

pub record Shown : Type 0 where
  -- what was put out and isn't written yet, on each stream
  pub written : Written
  -- whether the host's memory ran out for what was to be put out
  pub lost : Bool

abbrev pub blank : Shown
blank = record { written = nothing; lost = false }

-- what is put out after an effect, and after some
abbrev pub after_put : Effect → Written → Written
after_put (Puts stream bytes) written = joined written (on stream bytes)
after_put other written = written

abbrev pub after_puts : List Effect → Written → Written
after_puts [] written = written
after_puts (e ∷ es) written = after_puts es (after_put e written)

-- Effects were shown: where nothing is lost, nothing was, and what they put out comes after what was put out before.
abbrev pub Shows : List Effect → Shown → Shown → Type 0
Shows es old new = new.lost ≡ false → (old.lost ≡ false) × (new.written ≡ after_puts es old.written)

-- what effects put out is what they write to the kernel's streams
abbrev pub PutsAreWritten : Type 0
PutsAreWritten = (es : List Effect) (k : Kernel) → (applies es k).written ≡ after_puts es k.written
