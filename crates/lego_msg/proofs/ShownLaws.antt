-- Laws of what was shown: nothing, and one run of events after another.
use Rattle.std.proofs.Common.{◌≡◌, ◌≤◌, [], ◌∷◌, ◌++◌, ◌∙◌, ℕ, List, None, Option, Some, ap, append-nil, append_assoc, arith, inl, inr, refl, subst, sym}
use Rattle.std.proofs.lemmas.Bool.{cases_lt}
use Rattle.lego_base.specs.Counts.{Calm, risen}
use Rattle.lego_msg.specs.Laws.{counted}
use Rattle.lego_msg.specs.Watching.{FrontOf, Grew, Shown}
use Rattle.lego_msg.specs.declared.event.Event.{Event}

grew_none : (told : Option (List Event)) → Grew told [] told
grew_none None = refl
grew_none (Some held) = ap Some (sym (append-nil held))

pub shown-none : (told : Option (List Event)) (n : ℕ) → Shown told n told n []
shown-none told n = record {
  later = omega arith;
  all = λ calm. grew_none told;
  some = (record { front = []; rest = []; whole = refl }, grew_none told);
  none = λ some. refl;
}

grew_then : (a b c : Option (List Event)) (xs ys : List Event) → Grew a xs b → Grew b ys c → Grew a (xs ++ ys) c
grew_then None b c xs ys first second = subst (λ (b : Option (List Event)). Grew b ys c) first second
grew_then (Some held) b c xs ys first second =
    let there : Grew (Some (held ++ xs)) ys c = subst (λ (b : Option (List Event)). Grew b ys c) first second in
    there ∙ ap Some (append_assoc held xs ys)

-- the front of the first list, where nothing was added after it
front_stays : (a b c : Option (List Event)) (xs ys : List Event) → (f : FrontOf xs) × Grew a f.front b → c ≡ b → (f : FrontOf (xs ++ ys)) × Grew a f.front c
front_stays a b c xs ys (f, grew) same = (
  record { front = f.front; rest = f.rest ++ ys; whole = sym (append_assoc f.front f.rest ys) ∙ ap (λ (zs : List Event). zs ++ ys) f.whole },
  subst (λ (c : Option (List Event)). Grew a f.front c) (sym same) grew,
)

-- the whole first list and a front of the second
front_grows : (a b c : Option (List Event)) (xs ys : List Event) → Grew a xs b → (f : FrontOf ys) × Grew b f.front c → (f : FrontOf (xs ++ ys)) × Grew a f.front c
front_grows a b c xs ys first (f, grew) = (
  record { front = xs ++ f.front; rest = f.rest; whole = append_assoc xs f.front f.rest ∙ ap (λ (zs : List Event). xs ++ zs) f.whole },
  grew_then a b c xs f.front first grew,
)

-- one run of events was shown, then another: the whole was shown
pub shown-then : (a b c : Option (List Event)) (n k l : ℕ) (xs ys : List Event) → Shown a n b k xs → Shown b k c l ys → Shown a n c l (xs ++ ys)
shown-then a b c n k l xs ys first second = record {
  later = omega (arith, first.later, second.later);
  all = λ calm.
      let calm1 : Calm n k = omega (arith, first.later, second.later, calm) in
      let calm2 : Calm k l = omega (arith, first.later, second.later, calm) in
      grew_then a b c xs ys (first.all calm1) (second.all calm2);
  some = elim (cases_lt k (risen n)) [
    | inl calm ↦ front_grows a b c xs ys (first.all calm) second.some
    | inr rose ↦ front_stays a b c xs ys first.some (second.none (omega (arith, rose)))
  ];
  none = λ some. second.none (omega (arith, some, first.later)) ∙ first.none some;
}
