-- Entries and the processes that contracts see.
use Rattle.std.proofs.Common.{◌≡◌, ℕ, ◌+◌, ◌<◌, Bool, true, false, cond, eqb, refl, sym, ◌∙◌, ap, List, [], ◌∷◌, ◌++◌, map, filter, length, take, drop, set, get_or, None, arith}
use Rattle.std.proofs.lemmas.List.{get_or_default, map-set, get_or-map, length-map}
use Rattle.std.proofs.lemmas.List.Edits.{map_over_more}
use Rattle.linux_model.specs.State.{Process, Zombie}
use Rattle.linux_model.specs.Processes.{at_pid, orphaned}
use Rattle.proc_table.specs.declared.entry.Entry.{Entry}
use Rattle.proc_table.specs.Entries.{process_of}
use Rattle.proc_table.specs.Changes.{after_one}

-- one more entry is changed
pub one_more : (g : Process → Process) (xs : List Process) (es : List Entry) (i : ℕ) (d e : Entry) → i < length es → length xs ≡ length es → map process_of es ≡ map g (take i xs) ++ drop i xs → process_of e ≡ g (process_of (get_or es i d))
    → map process_of (set es i e) ≡ map g (take (i + 1) xs) ++ drop (i + 1) xs
one_more g xs es i d e inside long so is =
    let ys : List Process = map process_of es in
    let size : length ys ≡ length es = length-map es process_of in
    let within : i < length ys = omega (arith, inside, size) in
    let within' : i < length xs = omega (arith, inside, long) in
    map-set process_of es i e
    ∙ ap (set ys i) (is ∙ ap g (sym (get_or-map process_of es i d (process_of d) inside)))
    ∙ map_over_more g xs ys i (get_or ys i (process_of d)) within' so (get_or_default ys i (process_of d) (get_or ys i (process_of d)) within)

choice : (b : Bool) (e : Entry) (es : List Entry) → map process_of (cond b (e ∷ es) es) ≡ cond b (process_of e ∷ map process_of es) (map process_of es)
choice true e es = refl
choice false e es = refl

-- entries that a test of their processes keeps
pub kept : (t : Process → Bool) (es : List Entry) → map process_of (filter (λ e. t (process_of e)) es) ≡ filter t (map process_of es)
kept t [] = refl
kept t (e ∷ es) =
    choice (t (process_of e)) e (filter (λ e. t (process_of e)) es)
    ∙ ap (λ (ps : List Process). cond (t (process_of e)) (process_of e ∷ ps) ps) (kept t es)

-- a death, process by process
pub deaths : (dead status heir : ℕ) (procs : List Process) → map (after_one dead status heir) procs ≡ map (orphaned dead heir) (at_pid dead (λ p. record p { state = Zombie status; waiting = None }) procs)
deaths dead status heir [] = refl
deaths dead status heir (p ∷ procs) = ap (λ (ps : List Process). after_one dead status heir p ∷ ps) (deaths dead status heir procs)

-- a change of those with a pid, process by process
pub changed : (pid : ℕ) (f : Process → Process) (procs : List Process) → map (λ p. cond (eqb p.pid pid) (f p) p) procs ≡ at_pid pid f procs
changed pid f [] = refl
changed pid f (p ∷ procs) = ap (λ (ps : List Process). cond (eqb p.pid pid) (f p) p ∷ ps) (changed pid f procs)
