-- How what one write did is joined with what the next one did. The told values are given in full, so that
-- no caller asks whether a sink tells.
use Rattle.std.proofs.Common.{◌≡◌, ℕ, ◌<◌, ◌≤◌, List, [], ◌++◌, length, take, drop, Option, Some, None, Result, Ok, Err, OnOk, OnErr, refl, sym, ap, subst, ◌∙◌, append_assoc, length-append, arith}
use Rattle.std.proofs.lemmas.List.{append-nil, take-append-drop}
use Rattle.host_io.specs.Sinks.{SinkState, TookAll, TookSome, TookFront}

-- nothing taken is all of the empty piece
pub TookAll-none : (a b : Option (List ℕ)) → b ≡ a → TookAll a b []
TookAll-none None b same = same
TookAll-none (Some held) b same = same ∙ ap (λ (l : List ℕ). Some l) (sym (append-nil held))

-- one piece, then another
pub TookAll-append : (a b c : Option (List ℕ)) (xs ys : List ℕ) → TookAll a b xs → TookAll b c ys → TookAll a c (xs ++ ys)
TookAll-append None b c xs ys first second = subst (λ (t : Option (List ℕ)). TookAll t c ys) first second
TookAll-append (Some held) b c xs ys first second =
    let now : c ≡ Some (held ++ xs ++ ys) = subst (λ (t : Option (List ℕ)). TookAll t c ys) first second in
    now ∙ ap (λ (l : List ℕ). Some l) (append_assoc held xs ys)

-- the same piece under another name
pub TookAll-equal : (a b : Option (List ℕ)) (xs ys : List ℕ) → xs ≡ ys → TookAll a b xs → TookAll a b ys
TookAll-equal a b xs ys same took = rw (← same) took

-- a piece, then a proper prefix of another
pub TookFront-append : (a b c : Option (List ℕ)) (xs ys : List ℕ) → TookAll a b xs → TookFront b c ys → TookFront a c (xs ++ ys)
TookFront-append a b c xs ys first second = record {
  front = xs ++ second.front;
  rest = second.rest;
  more = second.more;
  whole = append_assoc xs second.front second.rest ∙ ap (λ (l : List ℕ). xs ++ l) second.whole;
  took = TookAll-append a b c xs second.front first second.took;
}

-- a piece, then some of another
pub TookSome-append : (a b c : Option (List ℕ)) (xs ys : List ℕ) → TookAll a b xs → TookSome b c ys → TookSome a c (xs ++ ys)
TookSome-append a b c xs ys first second = record {
  front = xs ++ second.front;
  rest = second.rest;
  whole = append_assoc xs second.front second.rest ∙ ap (λ (l : List ℕ). xs ++ l) second.whole;
  took = TookAll-append a b c xs second.front first second.took;
}

-- all of a piece is some of it
pub TookSome-from_all : (a b : Option (List ℕ)) (xs : List ℕ) → TookAll a b xs → TookSome a b xs
TookSome-from_all a b xs took = record { front = xs; rest = []; whole = append-nil xs; took = took }

-- a proper prefix of a piece is some of it
pub TookSome-from_front : (a b : Option (List ℕ)) (xs : List ℕ) → TookFront a b xs → TookSome a b xs
TookSome-from_front a b xs front = record {
  front = front.front;
  rest = front.rest;
  whole = front.whole;
  took = front.took;
}

-- some of a piece is some of a longer one
pub TookSome-longer : (a b : Option (List ℕ)) (xs ys : List ℕ) → TookSome a b xs → TookSome a b (xs ++ ys)
TookSome-longer a b xs ys some = record {
  front = some.front;
  rest = some.rest ++ ys;
  whole = sym (append_assoc some.front some.rest ys) ∙ ap (λ (l : List ℕ). l ++ ys) some.whole;
  took = some.took;
}

-- a proper prefix of a piece is one of a longer piece
pub TookFront-longer : (a b : Option (List ℕ)) (xs ys : List ℕ) → TookFront a b xs → TookFront a b (xs ++ ys)
TookFront-longer a b xs ys front = record {
  front = front.front;
  rest = front.rest ++ ys;
  more = let more : 0 < length front.rest = front.more in omega (arith, length-append front.rest ys);
  whole = sym (append_assoc front.front front.rest ys) ∙ ap (λ (l : List ℕ). l ++ ys) front.whole;
  took = front.took;
}

-- all of a piece is a proper prefix of one that goes on
pub TookFront-from_all : (a b : Option (List ℕ)) (xs ys : List ℕ) → 0 < length ys → TookAll a b xs → TookFront a b (xs ++ ys)
TookFront-from_all a b xs ys more took = record { front = xs; rest = ys; more = more; whole = refl; took = took }

-- nothing of a piece that isn't empty
pub TookFront-none : (a b : Option (List ℕ)) (xs : List ℕ) → 0 < length xs → b ≡ a → TookFront a b xs
TookFront-none a b xs more same = record { front = []; rest = xs; more = more; whole = refl; took = TookAll-none a b same }

-- A loop of writes has come so far: what is left of the piece, and what was appended.
pub record WroteSoFar (before after : SinkState) (bytes rest : List ℕ) : Type 0 where
  pub later : before.faults ≤ after.faults
  pub front : List ℕ
  pub parts : front ++ rest ≡ bytes
  pub took : TookAll before.held after.held front

-- it begins
pub wrote_nothing : (state : SinkState) (bytes : List ℕ) → WroteSoFar state state bytes bytes
wrote_nothing state bytes = record { later = omega arith; front = []; parts = refl; took = TookAll-none state.held state.held refl }

-- one write more
pub wrote_more : (a b c : SinkState) (bytes rest : List ℕ) (n : ℕ) → WroteSoFar a b bytes rest → b.faults ≤ c.faults → TookAll b.held c.held (take n rest) → WroteSoFar a c bytes (drop n rest)
wrote_more a b c bytes rest n so later now = record {
  later = omega (arith, so.later);
  front = so.front ++ take n rest;
  parts = append_assoc so.front (take n rest) (drop n rest) ∙ (ap (λ (l : List ℕ). so.front ++ l) (take-append-drop n rest) ∙ so.parts);
  took = TookAll-append a.held b.held c.held so.front (take n rest) so.took now;
}

-- what `write_all` says in one: some of the piece was taken in any case
pub TookSome-from_result : {X E : Type 0} (a b : Option (List ℕ)) (bytes : List ℕ) (result : Result X E) → OnOk result (TookAll a b bytes) → OnErr result (TookFront a b bytes) → TookSome a b bytes
TookSome-from_result a b bytes (Ok x) all front = TookSome-from_all a b bytes all
TookSome-from_result a b bytes (Err e) all front = TookSome-from_front a b bytes front
