-- The check of a buffer of one piece.
use Rattle.std.proofs.Common.{◌≡◌, ℕ, Bool, true, false, cond, not, ◌&&◌, refl, [], ◌∷◌}
use Rattle.lego_base.specs.Space.{permits}
use Rattle.linux_model.specs.State.{Kernel, Process}
use Rattle.linux_model.specs.Limits.{EFAULT}
use Rattle.linux_model.specs.Effects.{AsksSpan}
use Rattle.linux_model.specs.Called.{Called, following, first}
use Rattle.linux_model.specs.Buffers.{one_piece, where_good}

pub one_good : (p : Process) (k : Kernel) (need at n : ℕ) (last : Called)
    → where_good p k need (one_piece at n) last ≡ following (AsksSpan p.pid at n ∷ []) (first ((not (permits (k.space p.pid) need at n), EFAULT) ∷ []) last)
one_good p k need at n last = by (permits (k.space p.pid) need at n)
  where
    by : (b : Bool) → following (AsksSpan p.pid at n ∷ (cond b [] [])) (first ((not (b && true), EFAULT) ∷ []) last) ≡ following (AsksSpan p.pid at n ∷ []) (first ((not b, EFAULT) ∷ []) last)
    by true = refl
    by false = refl
