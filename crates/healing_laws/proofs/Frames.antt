-- How many frames a memory has never changes.
use Rattle.std.proofs.Common.{◌≡◌, ◌∙◌, ℕ, List, None, Option, Some, ap, inl, inr, refl, slice_get, sym}
use Rattle.std.proofs.lemmas.Bool.Decides.{eqb_tells}
use Rattle.std.specs.Prelude.{slice_set}
use Rattle.lego_msg.proofs.Senders.{get_set, get_set_other}
use Rattle.lego_msg.specs.State.{Mem}

abbrev pub frames_in : Option Mem → Option ℕ
frames_in None = None
frames_in (Some s) = Some s.frames

abbrev pub frames_at : List Mem → ℕ → Option ℕ
frames_at mems k = frames_in (slice_get mems k)

pub set_frames : (mems : List Mem) (k : ℕ) (s s' : Mem) → slice_get mems k ≡ Some s → s'.frames ≡ s.frames → (j : ℕ) → frames_at (slice_set mems k s') j ≡ frames_at mems j
set_frames mems k s s' at same j = elim (eqb_tells k j) [
  | inl e ↦ ap (frames_at (slice_set mems k s')) (sym e.1) ∙ ap frames_in (get_set mems k s s' at) ∙ ap (λ (n : ℕ). Some n) same ∙ sym (ap frames_in at) ∙ ap (frames_at mems) e.1
  | inr e ↦ ap frames_in (get_set_other mems k j s' e.1)
]

-- a memory that is there later was there before, with as many frames
pub record WasThere (mems : List Mem) (k : ℕ) (s : Mem) : Type 0 where
  pub before : Mem
  pub at : slice_get mems k ≡ Some before
  pub frames : s.frames ≡ before.frames

pub was_there : (mems later : List Mem) (k : ℕ) (s : Mem) → frames_at later k ≡ frames_at mems k → slice_get later k ≡ Some s → WasThere mems k s
was_there mems later k s same at = by (slice_get mems k) refl
  where
    one : (a b : ℕ) → Some a ≡ Some b → a ≡ b
    one a b e = cc e

    by : (c : Option Mem) → slice_get mems k ≡ c → WasThere mems k s
    by None e = let both : Some s.frames ≡ None = sym (ap frames_in at) ∙ same ∙ ap frames_in e in cc both
    by (Some x) e = record { before = x; at = e; frames = one s.frames x.frames (sym (ap frames_in at) ∙ same ∙ ap frames_in e) }
