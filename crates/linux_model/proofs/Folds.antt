-- Lists of effects, one after the other.
use Rattle.std.proofs.Common.{◌≡◌, Bool, true, false, cond, refl, ◌∙◌, ap, List, [], ◌∷◌, ◌++◌}
use Rattle.linux_model.specs.State.{Kernel}
use Rattle.linux_model.specs.Effects.{Effect, apply, applies}
use Rattle.linux_model.specs.Laws.{Still}

pub applies-append : (es fs : List Effect) (k : Kernel) → applies (es ++ fs) k ≡ applies fs (applies es k)
applies-append [] fs k = refl
applies-append (e ∷ es) fs k = applies-append es fs (apply e k)

pub still-append : (es fs : List Effect) → Still es → Still fs → Still (es ++ fs)
still-append es fs s t k = applies-append es fs k ∙ ap (applies fs) (s k) ∙ t k

pub still-choice : (b : Bool) (es fs : List Effect) → Still es → Still fs → Still (cond b es fs)
still-choice true es fs s t = s
still-choice false es fs s t = t
