-- Bytes are read out of pieces, one after another.
use Rattle.std.proofs.Common.{◌≡◌, ℕ, Bool, true, false, cond, ◌&&◌, refl, ◌∙◌, ap, subst, List, [], ◌∷◌, ◌++◌, append_assoc, append-nil, Option, Some, None}
use Rattle.lego_base.specs.Space.{Space, bytes_at, permits}
use Rattle.kernel_objects.specs.declared.piece.Piece.{Piece}
use Rattle.linux_model.specs.Effects.{Effect, Reads, Refused, CopyIn}
use Rattle.linux_model.specs.Buffers.{are_good, bytes_in, copies_in}
use Rattle.linux_model.specs.Held.{Held}
use Rattle.call_machine.specs.Effects.{copied, copied_in}
use Rattle.call_machine.specs.Lawful.{Lawful}
use Rattle.call_machine.proofs.Going.{Going, begins as going_begins, goes_on as going_on, stopped as going_stopped}

pub both_true : (b c : Bool) → (b && c) ≡ true → (b ≡ true) × (c ≡ true)
both_true true c is = (refl, is)
both_true false c is = cc is

-- of pieces that may be read these are left, and the bytes of the others were read
pub record Reading {X : Type 0} (held : X → Held) (does : X → X → List Effect → Type 0) (old now : X) (pid : ℕ) (all rest : List Piece) (bytes : List ℕ) : Type 0 where
  pub going : Going does old now (copies_in pid ((held old).space pid) all) (copies_in pid ((held old).space pid) rest)
  pub still : held now ≡ held old
  pub good : are_good ((held old).space pid) 1 rest ≡ true
  pub read : bytes ++ bytes_in ((held old).space pid) rest ≡ bytes_in ((held old).space pid) all

pub copied_some : (space : Space) (pid at n : ℕ) (b : Bool) → permits space 1 at n ≡ b → b ≡ true → (copied_in space pid at n ≡ Reads CopyIn pid at (bytes_at space at n) ∷ []) × (copied space at n ≡ Some (bytes_at space at n))
copied_some space pid at n b is good =
    let yes : permits space 1 at n ≡ true = is ∙ good in
    (ap (λ (b : Bool). cond b (Reads CopyIn pid at (bytes_at space at n) ∷ []) (Refused CopyIn pid at n ∷ [])) yes, ap (λ (b : Bool). cond b (Some (bytes_at space at n)) None) yes)

abbrev inside : List ℕ → Option (List ℕ) → List ℕ
inside l None = l
inside l (Some m) = m

module _ {X : Type 0} (held : X → Held) (does stops : X → X → List Effect → Type 0) (laws : Lawful held does stops) (pid : ℕ) (all : List Piece) where
  pub begins : (old : X) → are_good ((held old).space pid) 1 all ≡ true → Reading held does old old pid all all []
  begins old good = record { going = going_begins held does stops laws old _; still = refl; good = good; read = refl }

  -- the next piece may be read
  pub next_good : (old now : X) (x : Piece) (rest : List Piece) (bytes : List ℕ) → Reading held does old now pid all (x ∷ rest) bytes → permits ((held now).space pid) 1 x.at x.size ≡ true
  next_good old now x rest bytes r = ap (λ (h : Held). permits (h.space pid) 1 x.at x.size) r.still ∙ (both_true (permits ((held old).space pid) 1 x.at x.size) _ r.good).0

  next_copied : (old now : X) (x : Piece) (rest : List Piece) (bytes : List ℕ) → Reading held does old now pid all (x ∷ rest) bytes
      → (copied_in ((held now).space pid) pid x.at x.size ≡ Reads CopyIn pid x.at (bytes_at ((held old).space pid) x.at x.size) ∷ []) × (copied ((held now).space pid) x.at x.size ≡ Some (bytes_at ((held old).space pid) x.at x.size))
  next_copied old now x rest bytes r =
      let is = copied_some ((held now).space pid) pid x.at x.size _ refl (next_good old now x rest bytes r) in
      let same = ap (λ (h : Held). bytes_at (h.space pid) x.at x.size) r.still in
      (is.0 ∙ ap (λ (l : List ℕ). Reads CopyIn pid x.at l ∷ []) same, is.1 ∙ ap (λ (l : List ℕ). Some l) same)

  -- so it is read
  pub is_read : (old now : X) (x : Piece) (rest : List Piece) (bytes : List ℕ) → Reading held does old now pid all (x ∷ rest) bytes → None ≡ copied ((held now).space pid) x.at x.size → ⊥
  is_read old now x rest bytes r none =
      let some : None ≡ Some (bytes_at ((held old).space pid) x.at x.size) = none ∙ (next_copied old now x rest bytes r).1 in
      cc some

  pub goes_on : (old now new : X) (x : Piece) (rest : List Piece) (bytes got : List ℕ) → Reading held does old now pid all (x ∷ rest) bytes → does now new (copied_in ((held now).space pid) pid x.at x.size) → Some got ≡ copied ((held now).space pid) x.at x.size → Reading held does old new pid all rest (bytes ++ got)
  goes_on old now new x rest bytes got r did answer =
      let is = next_copied old now x rest bytes r in
      let reads = Reads CopyIn pid x.at (bytes_at ((held old).space pid) x.at x.size) ∷ [] in
      let done = subst (does now new) is.0 did in
      let got_is : got ≡ bytes_at ((held old).space pid) x.at x.size = ap (inside got) (answer ∙ is.1) in
      record {
        going = going_on held does stops laws old now new _ _ reads (copies_in pid ((held old).space pid) rest) r.going refl done;
        still = laws.holds now new reads done ∙ r.still;
        good = (both_true (permits ((held old).space pid) 1 x.at x.size) _ r.good).1;
        read = append_assoc bytes got _ ∙ ap (λ (l : List ℕ). bytes ++ (l ++ bytes_in ((held old).space pid) rest)) got_is ∙ r.read;
      }

  pub stopped : (old now new : X) (x : Piece) (rest : List Piece) (bytes : List ℕ) → Reading held does old now pid all (x ∷ rest) bytes → stops now new (copied_in ((held now).space pid) pid x.at x.size) → stops old new (copies_in pid ((held old).space pid) all)
  stopped old now new x rest bytes r stop =
      going_stopped held does stops laws old now new _ _ (Reads CopyIn pid x.at (bytes_at ((held old).space pid) x.at x.size) ∷ []) (copies_in pid ((held old).space pid) rest) r.going refl (subst (stops now new) (next_copied old now x rest bytes r).0 stop)

  -- memory ran out after a piece was read
  pub stopped_after : (old now new : X) (x : Piece) (rest : List Piece) (bytes : List ℕ) → Reading held does old now pid all (x ∷ rest) bytes → does now new (copied_in ((held now).space pid) pid x.at x.size) → stops old new (copies_in pid ((held old).space pid) all)
  stopped_after old now new x rest bytes r did =
      stopped old now new x rest bytes r (subst (stops now new) (append-nil _) (laws.stops_then now new new _ [] did (laws.not_begun new)))
