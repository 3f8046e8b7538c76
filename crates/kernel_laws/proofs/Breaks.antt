-- Breaks in user space, through changes of processes.
use Rattle.std.proofs.Common.{◌≡◌, ℕ, ◌≤◌, Bool, true, false, cond, eqb, subst, List, [], ◌∷◌, ◌++◌, map, filter, Option, Some, None, arith}
use Rattle.std.proofs.lemmas.List.Elements.{All-nil, All-cons, All-head, All-tail, All-weaker, All-map, All-filter, All-push}
use Rattle.elf_image.proofs.Bounds.{bounded}
use Rattle.lego_base.specs.declared.sizes.TheConstants.{USER_END}
use Rattle.linux_model.specs.State.{Process, Zombie}
use Rattle.linux_model.specs.Processes.{at_pid, process, orphaned, heir, stays, after_death}
use Rattle.linux_model.proofs.fits.Found.{inside}
use Rattle.kernel_laws.specs.Laws.{BreaksInUserSpace, GoodImagesBreakInUserSpace}

abbrev pub Within : Process → Type 0
Within p = p.brk.now ≤ USER_END

either : (b : Bool) (p q : Process) → Within p → Within q → Within (cond b p q)
either true p q h m = h
either false p q h m = m

pub breaks_at : (f : Process → Process) → ((p : Process) → Within p → Within (f p)) → (pid : ℕ) (procs : List Process) → BreaksInUserSpace procs → BreaksInUserSpace (at_pid pid f procs)
breaks_at f keeps pid [] b = All-nil Within
breaks_at f keeps pid (p ∷ procs) b =
    let here : Within p = All-head Within p procs b in
    All-cons Within (cond (eqb p.pid pid) (f p) p) (at_pid pid f procs) (either (eqb p.pid pid) (f p) p (keeps p here) here)
    (breaks_at f keeps pid procs (All-tail Within p procs b))

pub breaks_filter : (test : Process → Bool) (procs : List Process) → BreaksInUserSpace procs → BreaksInUserSpace (filter test procs)
breaks_filter test procs b = All-filter test Within procs b

pub breaks_death : (dead status : ℕ) (procs : List Process) → BreaksInUserSpace procs → BreaksInUserSpace (after_death dead status procs)
breaks_death dead status procs b =
    let gone : List Process = at_pid dead (λ p. record p { state = Zombie status; waiting = None }) procs in
    let orphan : Process → Process = orphaned dead (heir dead procs) in
    breaks_filter stays (map orphan gone)
    (All-map Within orphan gone
    (All-weaker Within (λ p. Within (orphan p)) (λ p h. either (eqb p.parent dead) (record p { parent = heir dead procs }) p h h) gone
    (breaks_at (λ p. record p { state = Zombie status; waiting = None }) (λ p h. h) dead procs b)))

pub breaks_more : (procs : List Process) (p : Process) → Within p → BreaksInUserSpace procs → BreaksInUserSpace (procs ++ p ∷ [])
breaks_more procs p h b = All-push Within procs p b h

found_at : (b : Bool) (q p : Process) (rest : Option Process) → Within q → (rest ≡ Some p → Within p) → cond b (Some q) rest ≡ Some p → Within p
found_at true q p rest h more is = subst Within (inside q p is) h
found_at false q p rest h more is = more is

pub break_found : (procs : List Process) (pid : ℕ) (p : Process) → BreaksInUserSpace procs → process procs pid ≡ Some p → Within p
break_found [] pid p b is = cc is
break_found (q ∷ procs) pid p b is = found_at (eqb q.pid pid) q p (process procs pid) (All-head Within q procs b) (break_found procs pid p (All-tail Within q procs b)) is

-- loads end where mappings start, which is in user space
pub good_images : GoodImagesBreakInUserSpace
good_images image none = let low = (bounded image none).within in omega (arith, low)
