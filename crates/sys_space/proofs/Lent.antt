-- The break of a process that is there, set to what it is.
use Rattle.std.proofs.Common.{◌≡◌, ℕ, ◌≤◌, inl, inr, Bool, true, false, cond, eqb, refl, sym, ◌∙◌, ap, List, [], ◌∷◌, Some, arith}
use Rattle.std.proofs.lemmas.Bool.{cases_eq, ne_eqb}
use Rattle.linux_model.specs.State.{Process}
use Rattle.linux_model.specs.Processes.{at_pid, process}
use Rattle.linux_model.specs.Fits.{PidsRise}
use Rattle.sys_space.specs.Calls.{with_break}
use Rattle.sys_space.specs.Laws.{LentIsThere}

not_there : (b : Bool) (x y : Process) → b ≡ false → cond b x y ≡ y
not_there true x y e = cc e
not_there false x y e = refl

-- pids above a number aren't it
above_stay : (pid low last : ℕ) (f : Process → Process) (procs : List Process) → pid ≤ low → PidsRise low last procs → at_pid pid f procs ≡ procs
above_stay pid low last f [] h rise = refl
above_stay pid low last f (q ∷ procs) h rise =
    let other : eqb q.pid pid ≡ false = ne_eqb q.pid pid (λ e. omega (arith, e, h, rise.0)) in
    λ i. not_there (eqb q.pid pid) (f q) q other i ∷ above_stay pid q.pid last f procs (omega (arith, h, rise.0)) rise.2 i

true_is : (m n : ℕ) → eqb m n ≡ true → m ≡ n
true_is m n e = elim (cases_eq m n) [
  | inl same ↦ same
  | inr differ ↦
      let no : true ≡ false = sym e ∙ ne_eqb m n differ in
      cc no
]

own_head : (pid last : ℕ) (p q : Process) (procs : List Process) → PidsRise q.pid last procs → (b : Bool) → eqb q.pid pid ≡ b → (process procs pid ≡ Some p → at_pid pid (with_break p.brk) procs ≡ procs) → cond b (Some q) (process procs pid) ≡ Some p → cond b (with_break p.brk q) q ∷ at_pid pid (with_break p.brk) procs ≡ q ∷ procs
own_head pid last p q procs rise true here rest is =
    let same : q ≡ p = cc is in
    let own : with_break p.brk q ≡ q = ap (λ (r : Process). with_break r.brk q) (sym same) in
    λ i. own i ∷ above_stay pid q.pid last (with_break p.brk) procs (omega (arith, true_is q.pid pid here)) rise i
own_head pid last p q procs rise false here rest is = ap (λ (ps : List Process). q ∷ ps) (rest is)

own_stays : (pid low last : ℕ) (p : Process) (procs : List Process) → PidsRise low last procs → process procs pid ≡ Some p → at_pid pid (with_break p.brk) procs ≡ procs
own_stays pid low last p [] rise there = refl
own_stays pid low last p (q ∷ procs) rise there = own_head pid last p q procs rise.2 (eqb q.pid pid) refl (own_stays pid q.pid last p procs rise.2) there

pub lent_is_there : LentIsThere
lent_is_there k p rise there = record {
  caller = refl;
  held = refl;
  lent = λ i. record k { procs = own_stays p.pid 0 k.last p k.procs rise there i };
}
