-- The spaces of a memory by pid.
use Rattle.std.proofs.Common.{◌≡◌, ℕ, zero, suc, ◌≤◌, ◌<◌, List, [], ◌∷◌, ◌++◌, length, get_or, set, Option, Some, None, MatchOption, Result, Ok, Err, IfOk, false, cond, eqb, inl, inr, refl, sym, ◌∙◌, ap, arith}
use Rattle.std.specs.Borrow.{Bor}
use Rattle.std.specs.Option.{option_copied}
use Rattle.std.proofs.lemmas.Bool.{cases_eq, eq-eqb, ne_eqb, cond-true, cond-false}
use Rattle.std.proofs.lemmas.List.{set-get_or}
use Rattle.lego_base.specs.declared.records.Area.{Area}
use Rattle.lego_base.specs.declared.stops.NoMemory.{NoMemory}
use Rattle.lego_base.specs.declared.stops.MemStop.{MemStop}
use Rattle.lego_base.specs.declared.stops.MemStop.TheVariants.{Segv, Halt}
use Rattle.lego_base.specs.Space.{Space, no_space, with_space, with_bytes, permits}
use Rattle.rv64_step.specs.Access.{Keeps}
use Rattle.rv64_step.proofs.Writes.{with_space-same}
use Rattle.flat_memory.specs.Access.{CopiedTo, CopiedOut}
use Rattle.flat_memory.specs.declared.space.FlatSpace.{FlatSpace}
use Rattle.flat_memory.specs.Spaces.{space_of, space_at}

-- the space in a place
abbrev pub in_place : Option FlatSpace → Space
in_place None = no_space
in_place (Some space) = space_of space

pub at-none : space_at [] ≡ (λ pid. no_space)
unfolding space_at
at-none = refl

pub at-past : (spaces : List (Option FlatSpace)) (pid : ℕ) → length spaces ≤ pid → space_at spaces pid ≡ no_space
unfolding space_at
at-past [] pid h = refl
at-past (None ∷ spaces) zero h = absurd (omega arith)
at-past (Some space ∷ spaces) zero h = absurd (omega arith)
at-past (None ∷ spaces) (suc pid) h = at-past spaces pid (omega arith)
at-past (Some space ∷ spaces) (suc pid) h = at-past spaces pid (omega arith)

pub at-within : (spaces : List (Option FlatSpace)) (pid : ℕ) (d : Option FlatSpace) → pid < length spaces → space_at spaces pid ≡ in_place (get_or spaces pid d)
unfolding space_at
at-within [] pid d h = absurd (omega arith)
at-within (None ∷ spaces) zero d h = refl
at-within (Some space ∷ spaces) zero d h = refl
at-within (None ∷ spaces) (suc pid) d h = at-within spaces pid d (omega arith)
at-within (Some space ∷ spaces) (suc pid) d h = at-within spaces pid d (omega arith)

-- one of them is set
pub set-here : (spaces : List (Option FlatSpace)) (pid : ℕ) (place : Option FlatSpace) → pid < length spaces → space_at (set spaces pid place) pid ≡ in_place place
unfolding space_at
set-here [] pid place h = absurd (omega arith)
set-here (first ∷ spaces) zero None h = refl
set-here (first ∷ spaces) zero (Some space) h = refl
set-here (None ∷ spaces) (suc pid) place h = set-here spaces pid place (omega arith)
set-here (Some space ∷ spaces) (suc pid) place h = set-here spaces pid place (omega arith)

pub set-there : (spaces : List (Option FlatSpace)) (pid : ℕ) (place : Option FlatSpace) (q : ℕ) → (q ≡ pid → ⊥) → space_at (set spaces pid place) q ≡ space_at spaces q
unfolding space_at
set-there [] pid place q ne = refl
set-there (first ∷ spaces) zero place zero ne = absurd (ne refl)
set-there (None ∷ spaces) zero None (suc q) ne = refl
set-there (None ∷ spaces) zero (Some space) (suc q) ne = refl
set-there (Some first ∷ spaces) zero None (suc q) ne = refl
set-there (Some first ∷ spaces) zero (Some space) (suc q) ne = refl
set-there (None ∷ spaces) (suc pid) place zero ne = refl
set-there (Some first ∷ spaces) (suc pid) place zero ne = refl
set-there (None ∷ spaces) (suc pid) place (suc q) ne = set-there spaces pid place q (λ e. ne (ap suc e))
set-there (Some first ∷ spaces) (suc pid) place (suc q) ne = set-there spaces pid place q (λ e. ne (ap suc e))

set-at : (spaces : List (Option FlatSpace)) (pid : ℕ) (space : FlatSpace) → pid < length spaces → (q : ℕ) → space_at (set spaces pid (Some space)) q ≡ cond (eqb q pid) (space_of space) (space_at spaces q)
set-at spaces pid space h q = elim (cases_eq q pid) [
  | inl e ↦ ap (space_at (set spaces pid (Some space))) e ∙ set-here spaces pid (Some space) h ∙ sym (cond-true (eqb q pid) (space_of space) (space_at spaces q) (eq-eqb q pid e))
  | inr ne ↦ set-there spaces pid (Some space) q ne ∙ sym (cond-false (eqb q pid) (space_of space) (space_at spaces q) (ne_eqb q pid ne))
]

pub at-set : (spaces : List (Option FlatSpace)) (pid : ℕ) (space : FlatSpace) → pid < length spaces → space_at (set spaces pid (Some space)) ≡ with_space (space_at spaces) pid (space_of space)
at-set spaces pid space h = λ i q. set-at spaces pid space h q i

-- one of them is dropped
dropped-at : (spaces : List (Option FlatSpace)) (pid : ℕ) → pid < length spaces → (q : ℕ) → space_at (set spaces pid None) q ≡ cond (eqb q pid) no_space (space_at spaces q)
dropped-at spaces pid h q = elim (cases_eq q pid) [
  | inl e ↦ ap (space_at (set spaces pid None)) e ∙ set-here spaces pid None h ∙ sym (cond-true (eqb q pid) no_space (space_at spaces q) (eq-eqb q pid e))
  | inr ne ↦ set-there spaces pid None q ne ∙ sym (cond-false (eqb q pid) no_space (space_at spaces q) (ne_eqb q pid ne))
]

pub at-drop : (spaces : List (Option FlatSpace)) (pid : ℕ) → pid < length spaces → space_at (set spaces pid None) ≡ with_space (space_at spaces) pid no_space
at-drop spaces pid h = λ i q. dropped-at spaces pid h q i

-- one that isn't there is
past-at : (spaces : List (Option FlatSpace)) (pid : ℕ) → length spaces ≤ pid → (q : ℕ) → space_at spaces q ≡ cond (eqb q pid) no_space (space_at spaces q)
past-at spaces pid h q = elim (cases_eq q pid) [
  | inl e ↦ ap (space_at spaces) e ∙ at-past spaces pid h ∙ sym (cond-true (eqb q pid) no_space (space_at spaces q) (eq-eqb q pid e))
  | inr ne ↦ sym (cond-false (eqb q pid) no_space (space_at spaces q) (ne_eqb q pid ne))
]

pub none-drop : (spaces : List (Option FlatSpace)) (pid : ℕ) → length spaces ≤ pid → space_at spaces ≡ with_space (space_at spaces) pid no_space
none-drop spaces pid h = λ i q. past-at spaces pid h q i

-- nothing is permitted where nothing is mapped
pub none-permitted : (need address n : ℕ) → 0 < n → permits no_space need address n ≡ false
none-permitted need address zero h = absurd (omega arith)
none-permitted need address (suc n) h = refl

-- a copy to one of them
pub copied-to : (spaces : List (Option FlatSpace)) (pid : ℕ) (old new : FlatSpace) (address : ℕ) (bytes : List ℕ) (result : Result (Unit {0}) MemStop) → pid < length spaces → space_at spaces pid ≡ space_of old → CopiedOut (space_of old) (space_of new) address bytes result → CopiedTo (space_at spaces) (space_at (set spaces pid (Some new))) pid address bytes result
copied-to spaces pid old new address bytes (Ok done) h e copied = (
  ap (λ (space : Space). permits space 2 address (length bytes)) e ∙ copied.0,
  at-set spaces pid new h ∙ ap (with_space (space_at spaces) pid) (copied.1 ∙ ap (λ (space : Space). with_bytes space address bytes) (sym e)),
)
copied-to spaces pid old new address bytes (Err Segv) h e copied = (
  ap (λ (space : Space). permits space 2 address (length bytes)) e ∙ copied.0,
  at-set spaces pid new h ∙ ap (with_space (space_at spaces) pid) (copied.1 ∙ sym e) ∙ with_space-same (space_at spaces) pid,
)
copied-to spaces pid old new address bytes (Err (Halt halt)) h e copied = copied

-- a copy where there is none
pub copied-none : (spaces : List (Option FlatSpace)) (pid : ℕ) (place : Option FlatSpace) (address : ℕ) (bytes : List ℕ) → pid < length spaces → 0 < length bytes → place ≡ get_or spaces pid place → place ≡ None → (permits (space_at spaces pid) 2 address (length bytes) ≡ false) × (space_at (set spaces pid place) ≡ space_at spaces)
copied-none spaces pid place address bytes h some at none = (
  ap (λ (space : Space). permits space 2 address (length bytes)) (at-within spaces pid place h ∙ ap in_place (sym at ∙ none)) ∙ none-permitted 2 address (length bytes) some,
  ap (λ p. space_at (set spaces pid p)) at ∙ ap space_at (set-get_or spaces pid place),
)

-- no space after them
push-at : (spaces : List (Option FlatSpace)) (q : ℕ) → space_at (spaces ++ None ∷ []) q ≡ space_at spaces q
unfolding space_at
push-at [] zero = refl
push-at [] (suc q) = refl
push-at (None ∷ spaces) zero = refl
push-at (Some first ∷ spaces) zero = refl
push-at (None ∷ spaces) (suc q) = push-at spaces q
push-at (Some first ∷ spaces) (suc q) = push-at spaces q

pub at-push : (spaces : List (Option FlatSpace)) → space_at (spaces ++ None ∷ []) ≡ space_at spaces
at-push spaces = λ i q. push-at spaces q i

-- what a look-up by pid finds
pub looked-up : (place : Option FlatSpace) (found : Option (Bor FlatSpace)) → option_copied found ≡ place → MatchOption found (in_place place ≡ no_space) (λ space. in_place place ≡ space_of space.now)
looked-up place None e = ap in_place (sym e)
looked-up place (Some space) e = ap in_place (sym e)

-- a space of no area is that where nothing is mapped
pub empty_is : (areas : List Area) (space : Space) (result : Result FlatSpace NoMemory) → areas ≡ [] → space ≡ no_space → IfOk result (λ s. space_of s ≡ record { areas = areas; byte = λ a. 0 }) → IfOk result (λ s. space_of s ≡ space)
empty_is areas space (Ok s) empty none is = is ∙ ap (λ xs. record { areas = xs; byte = λ a. 0 }) empty ∙ sym none
empty_is areas space (Err e) empty none is = tt

-- ---- spaces that stay
pub keeps : {A : Type 0} → (answer : Result A MemStop) (old new : Space) → new ≡ old → Keeps answer old new
keeps (Ok value) old new e = e
keeps (Err Segv) old new e = e
keeps (Err (Halt halt)) old new e = tt
