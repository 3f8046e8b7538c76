-- The arguments and the environment of a description fit a start stack.
use Rattle.std.proofs.Common.{◌≡◌, ℕ, ◌+◌, ◌≤◌, Bool, true, false, ltb, ◌||◌, sym, ◌∙◌, ap, List, [], ◌∷◌, length, Ok, arith}
use Rattle.std.specs.List.{fold}
use Rattle.std.proofs.lemmas.Bool.{le-ltb}
use Rattle.std.proofs.lemmas.List.{length-append}
use Rattle.std.proofs.lemmas.List.Concat.{flat_map-append}
use Rattle.desc_read.specs.declared.plan.Plan.{Plan}
use Rattle.desc_read.specs.Checks.{bytes_of}
use Rattle.desc_read.specs.Plans.{described}
use Rattle.desc_read.specs.Laws.{Strings}
use Rattle.desc_read.proofs.Limits.{described_fits}
use Rattle.space_rules.specs.Start.{closed, closed_all, strings_of, is_too_big}

-- strings with their closing zeros, counted one after the other
counted_from : (start : ℕ) (strings : List (List ℕ)) → fold (λ (n : ℕ) (s : List ℕ). n + (length s + 1)) start strings ≡ start + length (closed_all strings)
counted_from start [] = let e : start ≡ start + 0 = omega arith in e
counted_from start (string ∷ strings) =
    let one : length (closed string) ≡ length string + 1 = length-append string (0 ∷ []) in
    let all : length (closed_all (string ∷ strings)) ≡ length (closed string) + length (closed_all strings) = length-append (closed string) (closed_all strings) in
    let sum : start + (length string + 1) + length (closed_all strings) ≡ start + length (closed_all (string ∷ strings)) = omega (arith, one, all) in
    counted_from (start + (length string + 1)) strings ∙ sum

closed_size : (strings : List (List ℕ)) → length (closed_all strings) ≡ bytes_of strings
closed_size strings = let e : 0 + length (closed_all strings) ≡ length (closed_all strings) = omega arith in sym (counted_from 0 strings ∙ e)

none_too_big : (a b : Bool) → a ≡ false → b ≡ false → (a || b) ≡ false
none_too_big true b e f = cc e
none_too_big false b e f = f

-- The strings of a description are few enough for a start stack.
pub stack_fits : (bytes : List ℕ) (plan : Plan) → described bytes ≡ Ok plan → is_too_big plan.args plan.env ≡ false
stack_fits bytes plan e =
    let fits : Strings plan.args plan.env = described_fits bytes plan e in
    let few : length plan.args + length plan.env ≤ 512 = fits.few in
    let small : bytes_of plan.args + bytes_of plan.env ≤ 65536 = fits.short in
    let all : length (strings_of plan.args plan.env) ≡ length (closed_all plan.args) + length (closed_all plan.env) = ap (λ (b : List ℕ). length b) (flat_map-append closed plan.args plan.env) ∙ length-append (closed_all plan.args) (closed_all plan.env) in
    let args : length (closed_all plan.args) ≡ bytes_of plan.args = closed_size plan.args in
    let env : length (closed_all plan.env) ≡ bytes_of plan.env = closed_size plan.env in
    let size : length (strings_of plan.args plan.env) ≤ 65536 = omega (arith, all, args, env, small) in
    none_too_big (ltb 512 (length plan.args + length plan.env)) (ltb 65536 (length (strings_of plan.args plan.env))) (le-ltb 512 (length plan.args + length plan.env) few) (le-ltb 65536 (length (strings_of plan.args plan.env)) size)
