-- What is written of a plan has no floats and nests two deep.
use Rattle.std.proofs.Common.{◌≡◌, ℕ, suc, ◌≤◌, List, [], ◌∷◌, false, ◌||◌, max, map, refl, ap, sym, subst, ◌∙◌, arith, Result, Ok, Err, IfOk}
use Rattle.serde_json.specs.Data.{Data, number, unsigned, depth, items_depth}
use Rattle.serde_json.specs.Read.{max_depth}
use Rattle.serde_json.specs.View.{items_of}
use Rattle.serde_json.specs.Written.{compact_text, has_float, items_have_float}
use Rattle.desc_read.specs.declared.plan.Plan.{Plan}
use Rattle.guest_gen.specs.Text.{data_of, text_of}

numbers_have_none : (list : List ℕ) → items_have_float (items_of (map (λ n. number (unsigned n)) list)) ≡ false
numbers_have_none [] = refl
numbers_have_none (n ∷ list) = numbers_have_none list

numbers_are_flat : (list : List ℕ) → items_depth (items_of (map (λ n. number (unsigned n)) list)) ≡ 0
numbers_are_flat [] = refl
numbers_are_flat (n ∷ list) = ap (λ (d : ℕ). max 0 d) (numbers_are_flat list)

pub has_none : (plan : Plan) → has_float (data_of plan) ≡ false
has_none plan = λ i. numbers_have_none plan.shape.deliveries i || (numbers_have_none plan.shape.frames i || (numbers_have_none (map (λ m. m.0) plan.shape.placement) i || (numbers_have_none plan.turns i || false)))

pub nests_two : (plan : Plan) → depth (data_of plan) ≡ 2
nests_two plan = λ i. suc (max 0 (max (suc (numbers_are_flat plan.shape.deliveries i)) (max (suc (numbers_are_flat plan.shape.frames i)) (max 0 (max (suc (numbers_are_flat (map (λ m. m.0) plan.shape.placement) i)) (max 0 (max (suc (numbers_are_flat plan.turns i)) (max 0 0))))))))

-- its text, and what that is read as
pub text_is : (d : Data) (plan : Plan) → d ≡ data_of plan → compact_text d ≡ text_of plan
unfolding text_of
text_is d plan is = ap compact_text is

pub none_in : (d : Data) (plan : Plan) → d ≡ data_of plan → has_float d ≡ false
none_in d plan is = ap has_float is ∙ has_none plan

pub few_in : (d : Data) (plan : Plan) → d ≡ data_of plan → depth d ≤ max_depth
few_in d plan is = subst (λ (n : ℕ). n ≤ max_depth) (sym (ap depth is ∙ nests_two plan)) (omega arith)

-- what follows of what is made follows of the result
pub if_made : {V E : Type 0} (r : Result V E) (P Q : V → Type 0) → ((v : V) → P v → Q v) → IfOk r P → IfOk r Q
if_made (Ok v) P Q f h = f v h
if_made (Err e) P Q f h = tt
