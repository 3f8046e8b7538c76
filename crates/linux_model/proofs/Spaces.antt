-- Choices by a test, and spaces by pid.
use Rattle.std.proofs.Common.{◌≡◌, ℕ, Bool, true, false, cond, refl, eqb, sym, ◌∙◌, ap, subst}
use Rattle.std.proofs.lemmas.Bool.{eqb-true, eq-eqb}
use Rattle.lego_base.specs.Space.{Space, with_space}

-- what holds of the first holds of the choice where the test is true
pub if_true : {A : Type 0} (P : A → Type 0) (b : Bool) (x y : A) → b ≡ true → P x → P (cond b x y)
if_true P b x y e p = subst (λ (b : Bool). P (cond b x y)) (sym e) p

-- what holds of the second holds of the choice where the test is false
pub if_false : {A : Type 0} (P : A → Type 0) (b : Bool) (x y : A) → b ≡ false → P y → P (cond b x y)
if_false P b x y e p = subst (λ (b : Bool). P (cond b x y)) (sym e) p

at_pid_is : (new old : ℕ → Space) (pid q : ℕ) (space : Space) (b : Bool) → eqb q pid ≡ b → new pid ≡ space → ((r : ℕ) → (r ≡ pid → ⊥) → new r ≡ old r) → new q ≡ cond b space (old q)
at_pid_is new old pid q space true e here there = ap new (eqb-true q pid e) ∙ here
at_pid_is new old pid q space false e here there = there q (λ same. let differ : true ≡ false = sym (eq-eqb q pid same) ∙ e in cc differ)

-- spaces that are this one at a pid, and the old ones elsewhere
pub with_is : (new old : ℕ → Space) (pid : ℕ) (space : Space) → new pid ≡ space → ((q : ℕ) → (q ≡ pid → ⊥) → new q ≡ old q) → new ≡ with_space old pid space
with_is new old pid space here there = λ i q. at_pid_is new old pid q space (eqb q pid) refl here there i

twice_at : (b : Bool) (s t old : Space) → cond b t (cond b s old) ≡ cond b t old
twice_at true s t old = refl
twice_at false s t old = refl

-- a space set twice is the later one
pub space_twice : (spaces : ℕ → Space) (pid : ℕ) (s t : Space) → with_space (with_space spaces pid s) pid t ≡ with_space spaces pid t
space_twice spaces pid s t = λ i q. twice_at (eqb q pid) s t (spaces q) i
