-- A line that is written piece by piece.
use Rattle.std.proofs.Common.{◌≡◌, ℕ, ◌+◌, ◌<◌, ◌≤◌, ◌∷◌, ◌++◌, List, [], length, map, drop, get_or, Bor, Option, Result, Ok, Err, OnOk, OnErr, inl, inr, refl, sym, ◌∙◌, ap, subst, append_assoc, arith}
use Rattle.std.specs.List.{concat}
use Rattle.std.proofs.lemmas.List.{append-nil, at_drop_more}
use Rattle.lego_base.specs.Counts.{HasCause}
use Rattle.host_io.specs.Sinks.{SinkState, TookAll, TookFront}
use Rattle.host_io.proofs.SinkLaws.{TookAll-none, TookAll-append, TookAll-equal, TookFront-append, TookFront-longer}
use Rattle.lego_top.specs.Line.{line, Says}

front_as : (a b : Option (List ℕ)) (xs ys : List ℕ) → xs ≡ ys → TookFront a b xs → TookFront a b ys
front_as a b xs ys same front = subst (λ (l : List ℕ). TookFront a b l) same front

abbrev newline : List ℕ
newline = 10 ∷ []

-- the text of pieces
abbrev text : List (Bor (List ℕ)) → List ℕ
text pieces = concat (map (λ (piece : Bor (List ℕ)). piece.now) pieces)

-- n pieces were written
pub record PiecesSoFar (before after : SinkState) (pieces : List (Bor (List ℕ))) (n : ℕ) : Type 0 where
  pub later : before.faults ≤ after.faults
  pub front : List ℕ
  pub parts : front ++ text (drop n pieces) ≡ text pieces
  pub took : TookAll before.held after.held front

pub no_piece : (state : SinkState) (pieces : List (Bor (List ℕ))) → PiecesSoFar state state pieces 0
no_piece state pieces = record { later = omega arith; front = []; parts = refl; took = TookAll-none state.held state.held refl }

module _ (a b c : SinkState) (pieces : List (Bor (List ℕ))) (n : ℕ) (so : PiecesSoFar a b pieces n) where
  module _ (d : Bor (List ℕ)) (some : n < length pieces) (later : b.faults ≤ c.faults) where
    abbrev piece : List ℕ
    piece = (get_or pieces n d).now

    parts_more : so.front ++ piece ++ text (drop (n + 1) pieces) ≡ text pieces
    parts_more =
        append_assoc so.front piece (text (drop (n + 1) pieces))
        ∙ ap (λ (l : List ℕ). so.front ++ l) (sym (at_drop_more text pieces n d some))
        ∙ so.parts

    pub one_piece_more : TookAll b.held c.held piece → PiecesSoFar a c pieces (n + 1)
    one_piece_more took = record {
      later = omega (arith, so.later, later);
      front = so.front ++ piece;
      parts = parts_more;
      took = TookAll-append a.held b.held c.held so.front piece so.took took;
    }

    pub cut_in_piece : TookFront b.held c.held piece → TookFront a.held c.held (text pieces ++ newline)
    cut_in_piece front =
        front_as a.held c.held (so.front ++ piece ++ (text (drop (n + 1) pieces) ++ newline)) (text pieces ++ newline)
        (sym (append_assoc (so.front ++ piece) (text (drop (n + 1) pieces)) newline) ∙ ap (λ (l : List ℕ). l ++ newline) parts_more)
        (TookFront-longer a.held c.held (so.front ++ piece) (text (drop (n + 1) pieces) ++ newline) (TookFront-append a.held b.held c.held so.front piece so.took front))

  module _ (all : drop n pieces ≡ []) where
    whole : so.front ≡ text pieces
    whole = sym (append-nil so.front) ∙ ap (λ (l : List (Bor (List ℕ))). so.front ++ text l) (sym all) ∙ so.parts

    pub all_taken : TookAll b.held c.held newline → TookAll a.held c.held (text pieces ++ newline)
    all_taken took = TookAll-equal a.held c.held (so.front ++ newline) (text pieces ++ newline) (ap (λ (l : List ℕ). l ++ newline) whole) (TookAll-append a.held b.held c.held so.front newline so.took took)

    pub cut_at_end : TookFront b.held c.held newline → TookFront a.held c.held (text pieces ++ newline)
    cut_at_end front = front_as a.held c.held (so.front ++ newline) (text pieces ++ newline) (ap (λ (l : List ℕ). l ++ newline) whole) (TookFront-append a.held b.held c.held so.front newline so.took front)

-- what was said, by how saying it ended
pub said_by : {X E : Type 0} (before after : SinkState) (line : List ℕ) (result : Result X E) → HasCause before.faults after.faults result → OnOk result (TookAll before.held after.held line) → OnErr result (TookFront before.held after.held line) → Says before after line
said_by before after line (Ok x) cause all front = record { later = cause.later; took = inl all }
said_by before after line (Err e) cause all front = record { later = cause.later; took = inr (cause.failed, front) }
