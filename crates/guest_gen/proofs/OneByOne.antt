-- What is drawn or written one by one.
use Rattle.std.proofs.Common.{◌≡◌, List, [], ◌∷◌, ◌++◌, ap, ◌∙◌, sym, append_assoc}

-- one more item, and the rest
pub one_more : {X : Type 0} (whole items items' rest rest' : List X) (x : X) → items' ≡ items ++ x ∷ [] → rest ≡ x ∷ rest' → items ++ rest ≡ whole → items' ++ rest' ≡ whole
one_more whole items items' rest rest' x more first all = ap (λ xs. xs ++ rest') more ∙ append_assoc items (x ∷ []) rest' ∙ ap (λ xs. items ++ xs) (sym first) ∙ all

-- some more items, and the rest
pub some_more : {X : Type 0} (whole items items' some rest rest' : List X) → items' ≡ items ++ some → rest ≡ some ++ rest' → items ++ rest ≡ whole → items' ++ rest' ≡ whole
some_more whole items items' some rest rest' more first all = ap (λ xs. xs ++ rest') more ∙ append_assoc items some rest' ∙ ap (λ xs. items ++ xs) (sym first) ∙ all
