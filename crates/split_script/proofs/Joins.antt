-- Scripts one after the other, and what they depend on.
use Rattle.std.proofs.Common.{◌≡◌, refl, ◌∙◌, ap, List, [], ◌∷◌, ◌++◌}
use Rattle.lego_msg.specs.Marks.{Mark}
use Rattle.linux_model.specs.Effects.{Effect, apply}
use Rattle.linux_model.specs.Held.{held_after}
use Rattle.linux_model.proofs.Holding.{goes_alone}
use Rattle.split_script.specs.Now.{Now}
use Rattle.split_script.specs.Script.{marks, passed, all_passed, script}
use Rattle.split_script.specs.Laws.{ScriptsJoin, ScriptGoesWithTheKernel}

pub script-append : (n : Now) (es fs : List Effect) (rest : List Mark) → script n (es ++ fs) rest ≡ script n es (script (all_passed n es) fs rest)
script-append n [] fs rest = refl
script-append n (e ∷ es) fs rest = ap (marks n e) (script-append (passed n e) es fs rest)

pub passed-append : (n : Now) (es fs : List Effect) → all_passed n (es ++ fs) ≡ all_passed (all_passed n es) fs
passed-append n [] fs = refl
passed-append n (e ∷ es) fs = passed-append (passed n e) es fs

pub join : ScriptsJoin
join = record { marks = script-append; left = passed-append }

pub goes_with : ScriptGoesWithTheKernel
goes_with n [] k e = e
goes_with n (f ∷ es) k e = goes_with (passed n f) es (apply f k) (goes_alone f k ∙ ap (held_after f) e)
