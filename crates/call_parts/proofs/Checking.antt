-- The check of a buffer's pieces, one after another.
use Rattle.std.proofs.Common.{◌≡◌, ℕ, Bool, true, false, cond, ◌&&◌, refl, sym, ◌∙◌, ap, List, [], ◌∷◌, ◌++◌}
use Rattle.lego_base.specs.Space.{Space, permits}
use Rattle.kernel_objects.specs.declared.piece.Piece.{Piece}
use Rattle.linux_model.specs.Effects.{Effect, AsksSpan}
use Rattle.linux_model.specs.Buffers.{are_good, asks_pieces}
use Rattle.linux_model.specs.Held.{Held}
use Rattle.call_machine.specs.Lawful.{Lawful}
use Rattle.call_machine.proofs.Going.{Going, begins as going_begins, goes_on as going_on, ends as going_ends, stopped as going_stopped}
use Rattle.call_parts.specs.Pieces.{Each, Within}

-- what was checked is good, and the rest is to be checked
pub record Checking {X : Type 0} (held : X → Held) (does : X → X → List Effect → Type 0) (old now : X) (pid need : ℕ) (all rest : List Piece) : Type 0 where
  pub going : Going does old now (asks_pieces pid ((held old).space pid) need all) (asks_pieces pid ((held old).space pid) need rest)
  pub still : held now ≡ held old
  pub good : are_good ((held old).space pid) need all ≡ are_good ((held old).space pid) need rest
  pub within : Each Within rest → Each Within all

-- of a first piece
asks_first : (pid need : ℕ) (space : Space) (x : Piece) (pieces : List Piece) (b : Bool) → permits space need x.at x.size ≡ b → asks_pieces pid space need (x ∷ pieces) ≡ (AsksSpan pid x.at x.size ∷ []) ++ cond b (asks_pieces pid space need pieces) []
asks_first pid need space x pieces b is = ap (λ (b : Bool). AsksSpan pid x.at x.size ∷ cond b (asks_pieces pid space need pieces) []) is

good_first : (need : ℕ) (space : Space) (x : Piece) (pieces : List Piece) (b : Bool) → permits space need x.at x.size ≡ b → are_good space need (x ∷ pieces) ≡ (b && are_good space need pieces)
good_first need space x pieces b is = ap (λ (b : Bool). b && are_good space need pieces) is

module _ {X : Type 0} (held : X → Held) (does stops : X → X → List Effect → Type 0) (laws : Lawful held does stops) (pid need : ℕ) (all : List Piece) where
  pub begins : (old : X) → Checking held does old old pid need all all
  begins old = record { going = going_begins held does stops laws old _; still = refl; good = refl; within = λ w. w }

  -- a piece that is good
  pub goes_on : (old now new : X) (x : Piece) (rest : List Piece) → Checking held does old now pid need all (x ∷ rest) → permits ((held now).space pid) need x.at x.size ≡ true → Within x → does now new (AsksSpan pid x.at x.size ∷ []) → Checking held does old new pid need all rest
  goes_on old now new x rest c good within did =
      let is : permits ((held old).space pid) need x.at x.size ≡ true = ap (λ (h : Held). permits (h.space pid) need x.at x.size) (sym c.still) ∙ good in
      record {
        going = going_on held does stops laws old now new _ _ (AsksSpan pid x.at x.size ∷ []) (asks_pieces pid ((held old).space pid) need rest) c.going (asks_first pid need ((held old).space pid) x rest true is) did;
        still = laws.holds now new (AsksSpan pid x.at x.size ∷ []) did ∙ c.still;
        good = c.good ∙ good_first need ((held old).space pid) x rest true is;
        within = λ w. c.within (within, w);
      }

  -- a piece that isn't, with which the check ends
  pub denied : (old now new : X) (x : Piece) (rest : List Piece) → Checking held does old now pid need all (x ∷ rest) → permits ((held now).space pid) need x.at x.size ≡ false → does now new (AsksSpan pid x.at x.size ∷ [])
      → does old new (asks_pieces pid ((held old).space pid) need all) × (are_good ((held old).space pid) need all ≡ false) × (held new ≡ held old)
  denied old now new x rest c bad did =
      let is : permits ((held old).space pid) need x.at x.size ≡ false = ap (λ (h : Held). permits (h.space pid) need x.at x.size) (sym c.still) ∙ bad in
      let on = going_on held does stops laws old now new _ _ (AsksSpan pid x.at x.size ∷ []) [] c.going (asks_first pid need ((held old).space pid) x rest false is) did in
      (going_ends held does stops laws old new _ _ on refl, c.good ∙ good_first need ((held old).space pid) x rest false is, laws.holds now new (AsksSpan pid x.at x.size ∷ []) did ∙ c.still)

  pub stopped : (old now new : X) (x : Piece) (rest : List Piece) → Checking held does old now pid need all (x ∷ rest) → stops now new (AsksSpan pid x.at x.size ∷ []) → stops old new (asks_pieces pid ((held old).space pid) need all)
  stopped old now new x rest c stop =
      going_stopped held does stops laws old now new _ _ (AsksSpan pid x.at x.size ∷ []) _ c.going (asks_first pid need ((held old).space pid) x rest (permits ((held old).space pid) need x.at x.size) refl) stop

  pub ends : (old now : X) → Checking held does old now pid need all [] → does old now (asks_pieces pid ((held old).space pid) need all) × (are_good ((held old).space pid) need all ≡ true) × Each Within all
  ends old now c = (going_ends held does stops laws old now _ _ c.going refl, c.good, c.within tt)
