-- Output and exits only grow, and after the end nothing changes.
use Rattle.std.proofs.Common.{◌≡◌, ℕ, zero, suc, ◌+◌, Bool, true, false, cond, not, ◌&&◌, ◌||◌, leb, refl, sym, ◌∙◌, ap, subst, List, [], ◌∷◌, ◌++◌, length, append_assoc, append-nil, add-zero, add-suc, Option, Some, None, is_some}
use Rattle.lego_base.specs.Files.{named, has_name}
use Rattle.rv64_step.specs.declared.cpu.Cpu.{Cpu}
use Rattle.kernel_objects.specs.declared.descriptor.Description.{Description}
use Rattle.kernel_objects.specs.declared.descriptor.Object.{Object}
use Rattle.kernel_objects.specs.declared.descriptor.Object.TheVariants.{PipeRead, PipeWrite}
use Rattle.kernel_objects.specs.Slots.{slot, freed}
use Rattle.linux_model.specs.Limits.{FILES}
use Rattle.linux_model.specs.State.{Kernel, Process, Written, nothing, on, joined}
use Rattle.linux_model.specs.Processes.{process, is_live, is_referred, has_reader, has_writer, fds_of}
use Rattle.linux_model.specs.Effects.{Effect, MakesFile, FreesFile, Closes, Puts, Forks, Dies, apply, applies, desc_at, pipe_ends, object_ends, description_ends, let_go, forked}
use Rattle.linux_model.specs.Turns.{Schedule, turn, flat, ready, ready_in, whose, turn_of, is_over}
use Rattle.linux_model.specs.Calls.{still_waits}
use Rattle.linux_model.specs.Laws.{Grows}

-- nothing more, and more than once
none_more : (w : Written) → w ≡ joined w nothing
none_more w = λ i. record { out = sym (append-nil w.out) i; err = sym (append-nil w.err) i }

written_only : (old new : Kernel) (more : Written) → new.written ≡ joined old.written more → new.exits ≡ old.exits → Grows old new
written_only old new more e f = record { written = (more, e); exits = ([], f ∙ sym (append-nil old.exits)) }

-- an effect that writes nothing and ends no process
silent : (old new : Kernel) → new.written ≡ old.written → new.exits ≡ old.exits → Grows old new
silent old new e f = written_only old new nothing (e ∙ none_more old.written) f

same : (k : Kernel) → Grows k k
same k = silent k k refl refl

either_grows : (b : Bool) (k l m : Kernel) → Grows k l → Grows k m → Grows k (cond b l m)
either_grows true k l m g h = g
either_grows false k l m g h = h

more_exits : {A : Type 0} (a b c more rest : List A) → b ≡ a ++ more → c ≡ b ++ rest → c ≡ a ++ (more ++ rest)
more_exits a b c more rest e f = f ∙ ap (λ (l : List _). l ++ rest) e ∙ append_assoc a more rest

more_written : (a b c more rest : Written) → b ≡ joined a more → c ≡ joined b rest → c ≡ joined a (joined more rest)
more_written a b c more rest e f =
    f ∙ ap (λ (w : Written). joined w rest) e
    ∙ (λ i. record { out = append_assoc a.out more.out rest.out i; err = append_assoc a.err more.err rest.err i })

then_grows : (k l m : Kernel) → Grows k l → Grows l m → Grows k m
then_grows k l m g h = record {
  written = (joined g.written.0 h.written.0, more_written k.written l.written m.written g.written.0 h.written.0 g.written.1 h.written.1);
  exits = (g.exits.0 ++ h.exits.0, more_exits k.exits l.exits m.exits g.exits.0 h.exits.0 g.exits.1 h.exits.1);
}

-- a descriptor that is closed, and what ends with it
pipe_grows : (pipe : ℕ) (k l : Kernel) → Grows k l → Grows k (pipe_ends pipe l)
pipe_grows pipe k l g = either_grows (has_reader pipe l.descs || has_writer pipe l.descs) k l (record l { pipes = freed l.pipes pipe }) g (then_grows k l (record l { pipes = freed l.pipes pipe }) g (silent l (record l { pipes = freed l.pipes pipe }) refl refl))

object_grows : (object : Object) (k l : Kernel) → Grows k l → Grows k (object_ends object l)
object_grows (PipeRead pipe) k l g = pipe_grows pipe k l g
object_grows (PipeWrite pipe) k l g = pipe_grows pipe k l g
object_grows other k l g = g

description_grows : (d : Option Description) (k l : Kernel) → Grows k l → Grows k (description_ends d l)
description_grows None k l g = g
description_grows (Some d) k l g = object_grows d.object k l g

let_go_grows : (desc : Option ℕ) (k l : Kernel) → Grows k l → Grows k (let_go desc l)
let_go_grows None k l g = g
let_go_grows (Some desc) k l g =
    either_grows (is_referred desc l.procs) k l _ g
    (description_grows (slot l.descs desc) k (record l { descs = freed l.descs desc }) (then_grows k l (record l { descs = freed l.descs desc }) g (silent l (record l { descs = freed l.descs desc }) refl refl)))

forked_grows : (p : Option Process) (child : ℕ) (cpu : Cpu) (k : Kernel) → Grows k (forked p child cpu k)
forked_grows None child cpu k = same k
forked_grows (Some p) child cpu k = silent k _ refl refl

one_grows : (e : Effect) (k : Kernel) → Grows k (apply e k)
one_grows (MakesFile name) k = either_grows (is_some (named k.names name) || leb FILES (length k.files)) k k _ (same k) (silent k _ refl refl)
one_grows (FreesFile file) k = either_grows (has_name k.names file) k k _ (same k) (silent k _ refl refl)
one_grows (Closes pid fd) k = let_go_grows (desc_at (slot (fds_of (process k.procs pid)) fd)) k _ (silent k _ refl refl)
one_grows (Forks parent child cpu) k = forked_grows (process k.procs parent) child cpu k
one_grows (Puts stream bytes) k = written_only k _ (on stream bytes) refl refl
one_grows (Dies pid status) k = record { written = (nothing, none_more k.written); exits = (_, refl) }
one_grows e k = silent k _ refl refl

all_grow : (es : List Effect) (k : Kernel) → Grows k (applies es k)
all_grow [] k = same k
all_grow (e ∷ es) k = then_grows k (apply e k) (applies es (apply e k)) (one_grows e k) (all_grow es (apply e k))

pub output_grows : (schedule : Schedule) (boot : Kernel) (m n : ℕ) → Grows (flat schedule boot m) (flat schedule boot (m + n))
unfolding flat
output_grows schedule boot m zero = subst (λ (n : ℕ). Grows (flat schedule boot m) (flat schedule boot n)) (sym (add-zero m)) (same (flat schedule boot m))
output_grows schedule boot m (suc n) =
    subst (λ (n : ℕ). Grows (flat schedule boot m) (flat schedule boot n)) (sym (add-suc m n))
    (then_grows (flat schedule boot m) (flat schedule boot (m + n)) (flat schedule boot (suc (m + n))) (output_grows schedule boot m n) (all_grow (turn schedule (suc (m + n)) (flat schedule boot (m + n))) (flat schedule boot (m + n))))

-- where no process lives, none is ready, and none is found
over_first : (live rest : Bool) → (not live && rest) ≡ true → (live ≡ false) × (rest ≡ true)
over_first true rest e = cc e
over_first false rest e = (refl, e)

over_not_ready : (k : Kernel) (procs : List Process) → is_over procs ≡ true → ready_in k procs ≡ []
over_not_ready k [] e = refl
over_not_ready k (p ∷ procs) e =
    let parts = over_first (is_live p.state) (is_over procs) e in
    ap (λ (b : Bool). cond (b && not (still_waits p.waiting p k)) (p.pid ∷ ready_in k procs) (ready_in k procs)) parts.0 ∙ over_not_ready k procs parts.1

-- a turn of a kernel in which no process lives has no effects
no_turn : (schedule : Schedule) (n : ℕ) (k : Kernel) (pids : List ℕ) → pids ≡ [] → turn_of schedule n (whose schedule n k.procs pids) k ≡ []
no_turn schedule n k [] e = refl
no_turn schedule n k (pid ∷ pids) e = cc e

pub end_stays : (schedule : Schedule) (boot : Kernel) (m n : ℕ) → is_over (flat schedule boot m).procs ≡ true → flat schedule boot (m + n) ≡ flat schedule boot m
unfolding flat
end_stays schedule boot m zero over = ap (flat schedule boot) (add-zero m)
end_stays schedule boot m (suc n) over =
    let before : flat schedule boot (m + n) ≡ flat schedule boot m = end_stays schedule boot m n over in
    let over_before : is_over (flat schedule boot (m + n)).procs ≡ true = ap (λ (k : Kernel). is_over k.procs) before ∙ over in
    let none : turn schedule (suc (m + n)) (flat schedule boot (m + n)) ≡ [] = no_turn schedule (suc (m + n)) (flat schedule boot (m + n)) (ready (flat schedule boot (m + n))) (over_not_ready (flat schedule boot (m + n)) (flat schedule boot (m + n)).procs over_before) in
    ap (flat schedule boot) (add-suc m n) ∙ ap (λ (es : List Effect). applies es (flat schedule boot (m + n))) none ∙ before
