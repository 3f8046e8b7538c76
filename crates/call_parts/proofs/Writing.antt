-- Bytes are written into pieces, one after another.
use Rattle.std.proofs.Common.{◌≡◌, ℕ, zero, suc, ◌+◌, ◌/◌, ◌≤◌, Bool, true, eqb, min, ◌&&◌, refl, sym, ◌∙◌, ap, List, [], ◌∷◌, ◌++◌, length, take, drop, arith}
use Rattle.std.proofs.lemmas.Bool.{eq-eqb, cond-true}
use Rattle.std.proofs.lemmas.List.{take_min, length-take}
use Rattle.lego_base.specs.declared.records.Area.{Area}
use Rattle.lego_base.specs.Space.{Space, allows, perms_of, permits, with_bytes}
use Rattle.kernel_objects.specs.declared.piece.Piece.{Piece}
use Rattle.linux_model.specs.Effects.{Effect, Writes, CopyOut}
use Rattle.linux_model.specs.Buffers.{are_good, copies_out}
use Rattle.linux_model.specs.Held.{Held, held_after}
use Rattle.call_machine.specs.Lawful.{Lawful}
use Rattle.call_machine.proofs.Going.{Going, begins as going_begins, goes_on as going_on, stopped as going_stopped}
use Rattle.call_parts.proofs.Reading.{both_true}

-- what a space permits goes by its areas
pub permits_by : (s t : Space) (need at n : ℕ) → s.areas ≡ t.areas → permits s need at n ≡ permits t need at n
permits_by s t need at zero same = refl
permits_by s t need at (suc n) same =
    ap (λ (areas : List Area). allows (perms_of areas (at / 4096)) need && permits s need (at + 1) n) same
    ∙ ap (λ (b : Bool). allows (perms_of t.areas (at / 4096)) need && b) (permits_by s t need (at + 1) n same)

-- fewer bytes of them
pub permits_fewer : (s : Space) (need at n m : ℕ) → m ≤ n → permits s need at n ≡ true → permits s need at m ≡ true
permits_fewer s need at n zero h good = refl
permits_fewer s need at zero (suc m) h good = absurd (omega (arith, h))
permits_fewer s need at (suc n) (suc m) h good =
    let parts = both_true (allows (perms_of s.areas (at / 4096)) need) (permits s need (at + 1) n) good in
    ap (λ (b : Bool). b && permits s need (at + 1) m) parts.0 ∙ permits_fewer s need (at + 1) n m (omega (arith, h)) parts.1

-- a write maps nothing
write_maps_nothing : (pid at : ℕ) (bytes : List ℕ) (h : Held) → ((held_after (Writes CopyOut pid at bytes) h).space pid).areas ≡ (h.space pid).areas
write_maps_nothing pid at bytes h = ap (λ (s : Space). s.areas) (cond-true (eqb pid pid) (with_bytes (h.space pid) at bytes) (h.space pid) (eq-eqb pid pid refl))

-- as many bytes of a list as a piece takes
none_left : (k : ℕ) → drop k [] ≡ drop {A = ℕ} 1 []
none_left zero = refl
none_left (suc k) = refl

drop_min : (n : ℕ) (xs : List ℕ) → drop (min (length xs) n) xs ≡ drop n xs
drop_min zero xs = let on : min (length xs) zero ≡ zero = omega arith in ap (λ k. drop k xs) on
drop_min (suc n) [] = none_left (min 0 (suc n))
drop_min (suc n) (x ∷ xs) = let on : min (length (x ∷ xs)) (suc n) ≡ suc (min (length xs) n) = omega arith in ap (λ k. drop k (x ∷ xs)) on ∙ drop_min n xs

-- of pieces that may be written these are left, with these bytes, and the others were written
pub record Writing {X : Type 0} (held : X → Held) (does : X → X → List Effect → Type 0) (old now : X) (pid : ℕ) (all : List Piece) (bytes : List ℕ) (rest : List Piece) (left : List ℕ) : Type 0 where
  pub going : Going does old now (copies_out pid all bytes) (copies_out pid rest left)
  pub mapped : ((held now).space pid).areas ≡ ((held old).space pid).areas
  pub good : are_good ((held old).space pid) 2 rest ≡ true

module _ {X : Type 0} (held : X → Held) (does stops : X → X → List Effect → Type 0) (laws : Lawful held does stops) (pid : ℕ) (all : List Piece) (bytes : List ℕ) where
  pub begins : (old : X) → are_good ((held old).space pid) 2 all ≡ true → Writing held does old old pid all bytes all bytes
  begins old good = record { going = going_begins held does stops laws old _; mapped = refl; good = good }

  abbrev count : Piece → List ℕ → ℕ
  count x left = min (length left) x.size

  -- the next bytes may be written
  pub next_good : (old now : X) (x : Piece) (rest : List Piece) (left : List ℕ) → Writing held does old now pid all bytes (x ∷ rest) left → permits ((held now).space pid) 2 x.at (length (take (min (length left) x.size) left)) ≡ true
  next_good old now x rest left w =
      let n = length (take (count x left) left) in
      let size = length-take (count x left) left in
      let good : permits ((held now).space pid) 2 x.at x.size ≡ true = permits_by ((held now).space pid) ((held old).space pid) 2 x.at x.size w.mapped ∙ (both_true (permits ((held old).space pid) 2 x.at x.size) _ w.good).0 in
      permits_fewer ((held now).space pid) 2 x.at x.size n (omega (arith, size)) good

  first_is : (x : Piece) (rest : List Piece) (left : List ℕ) → copies_out pid (x ∷ rest) left ≡ (Writes CopyOut pid x.at (take (count x left) left) ∷ []) ++ copies_out pid rest (drop (count x left) left)
  first_is x rest left =
      let swap : min x.size (length left) ≡ count x left = omega arith in
      let same : take x.size left ≡ take (count x left) left = sym (take_min x.size left) ∙ ap (λ n. take n left) swap in
      λ i. Writes CopyOut pid x.at (same i) ∷ copies_out pid rest (sym (drop_min x.size left) i)

  pub goes_on : (old now new : X) (x : Piece) (rest : List Piece) (left : List ℕ) → Writing held does old now pid all bytes (x ∷ rest) left → does now new (Writes CopyOut pid x.at (take (min (length left) x.size) left) ∷ []) → Writing held does old new pid all bytes rest (drop (min (length left) x.size) left)
  goes_on old now new x rest left w did = record {
    going = going_on held does stops laws old now new _ _ (Writes CopyOut pid x.at (take (count x left) left) ∷ []) (copies_out pid rest (drop (count x left) left)) w.going (first_is x rest left) did;
    mapped = ap (λ (h : Held). (h.space pid).areas) (laws.holds now new _ did) ∙ write_maps_nothing pid x.at (take (count x left) left) (held now) ∙ w.mapped;
    good = (both_true (permits ((held old).space pid) 2 x.at x.size) _ w.good).1;
  }

  pub stopped : (old now new : X) (x : Piece) (rest : List Piece) (left : List ℕ) → Writing held does old now pid all bytes (x ∷ rest) left → stops now new (Writes CopyOut pid x.at (take (min (length left) x.size) left) ∷ []) → stops old new (copies_out pid all bytes)
  stopped old now new x rest left w stop =
      going_stopped held does stops laws old now new _ _ (Writes CopyOut pid x.at (take (count x left) left) ∷ []) (copies_out pid rest (drop (count x left) left)) w.going (first_is x rest left) stop
