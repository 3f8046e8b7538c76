-- What a turn put out, and what the streams took of it.
use Rattle.std.proofs.Common.{◌≡◌, ℕ, ◌<◌, false, refl, sym, ◌∙◌, ap, subst, List, [], ◌∷◌, ◌++◌, Option, Some, None, Result, Ok, Err, append_assoc, append-nil}
use Rattle.host_io.specs.Sinks.{TookAll}
use Rattle.host_io.proofs.SinkLaws.{TookAll-none, TookAll-append}
use Rattle.kernel_objects.specs.declared.descriptor.Stream.TheVariants as streams
use Rattle.linux_model.specs.State.{Kernel, Written, nothing, joined, unbooted, on}
use Rattle.linux_model.specs.Effects.{Effect, Puts, applies}
use Rattle.call_machine.specs.Lent.{kernel_of}
use Rattle.plain_machine.specs.Plain.{held_of}
use Rattle.plain_machine.specs.Shown.{after_put, after_puts}
use Rattle.plain_machine.proofs.Writing.{puts_are_written}
use Rattle.plain_kernel.specs.declared.kernel.PlainKernel.{PlainKernel}
use Rattle.plain_kernel.specs.declared.kernel.RunStop.{RunStop}
use Rattle.plain_kernel.specs.declared.kernel.RunStop.TheVariants.{OutFault, ErrFault, NoMemory}
use Rattle.plain_kernel.specs.Outcomes.{Told, Took, CutShort, front_of}
use Rattle.plain_kernel.specs.Standing.{kernel_in, over}
use Rattle.plain_kernel.specs.Turns.{Turned}
use Rattle.plain_kernel.specs.Written.{Emptied, IsEmpty, WroteOut, Wrote, Cut, Went}
use Rattle.plain_kernel.proofs.Turning.{turned_over}

-- ---- pieces

pub joined-nothing : (w : Written) → joined w nothing ≡ w
joined-nothing w = λ i. record { out = append-nil w.out i; err = append-nil w.err i }

pub joined_assoc : (a b c : Written) → joined (joined a b) c ≡ joined a (joined b c)
joined_assoc a b c = λ i. record { out = append_assoc a.out b.out c.out i; err = append_assoc a.err b.err c.err i }

pub took-nothing : (t : Told) → Took t t nothing
took-nothing t = record { out = TookAll-none t.out t.out refl; err = TookAll-none t.err t.err refl }

pub took-more : (old mid new : Told) (first second : Written) → Took old mid first → Took mid new second → Took old new (joined first second)
took-more old mid new first second a b = record {
  out = TookAll-append old.out mid.out new.out first.out second.out a.out b.out;
  err = TookAll-append old.err mid.err new.err first.err second.err a.err b.err;
}

-- what effects put out comes after what was put out before
one_after : (e : Effect) (a b : Written) → after_put e (joined a b) ≡ joined a (after_put e b)
one_after (Puts stream bytes) a b = joined_assoc a b (on stream bytes)
one_after e a b = refl

all_after : (es : List Effect) (a b : Written) → after_puts es (joined a b) ≡ joined a (after_puts es b)
all_after [] a b = refl
all_after (e ∷ es) a b = ap (after_puts es) (one_after e a b) ∙ all_after es a (after_put e b)

pub piece_after : (es : List Effect) (w : Written) → after_puts es w ≡ joined w (after_puts es nothing)
piece_after es w = ap (after_puts es) (sym (joined-nothing w)) ∙ all_after es w nothing

-- ---- a turn

-- the kernel after effects, with what they put out
pub stands : (old new : PlainKernel) (es : List Effect) (w : Written) → Turned old new es → applies es (kernel_in old w) ≡ kernel_in new (joined w (after_puts es nothing))
stands old new es w t =
    let k : Kernel = record (unbooted []) { written = w } in
    let after : Kernel = applies es (over old k) in
    let writes : after.written ≡ joined w (after_puts es nothing) = puts_are_written es (over old k) ∙ piece_after es w in
    sym (turned_over old new es k t) ∙ ap (λ (w' : Written). kernel_in new w') writes

-- what was put out, where nothing had been before
pub put_out : (old new : PlainKernel) (es : List Effect) → IsEmpty old.machine.output → Turned old new es → new.machine.output.lost ≡ false → new.machine.output.written ≡ after_puts es nothing
put_out old new es empty t kept = (t.did.shows kept).1 ∙ ap (after_puts es) (empty (t.did.shows kept).0)

-- it was written
pub wrote : (old_told new_told : Told) (old mid new : PlainKernel) (es : List Effect) (w : Written) → IsEmpty old.machine.output → Turned old mid es → Emptied old_told new_told mid.machine.output new.machine.output → new.manager ≡ mid.manager → held_of new.machine ≡ held_of mid.machine → Wrote old_told new_told old new w es
wrote old_told new_told old mid new es w empty t emptied manager held =
    let put : mid.machine.output.written ≡ after_puts es nothing = put_out old mid es empty t emptied.kept in
    record {
      piece = after_puts es nothing;
      took = subst (Took old_told new_told) put emptied.took;
      does = stands old mid es w t ∙ (λ i. kernel_of (sym manager i) (sym held i) (record (unbooted []) { written = joined w (after_puts es nothing) }));
      empty = emptied.empty;
    }

-- or a stream failed
pub cut : (old_told new_told : Told) (old mid : PlainKernel) (es : List Effect) (w : Written) (stream : _) → IsEmpty old.machine.output → Turned old mid es → mid.machine.output.lost ≡ false → CutShort old_told new_told stream mid.machine.output.written → Cut old_told new_told old w es stream
cut old_told new_told old mid es w stream empty t kept short = record {
  piece = after_puts es nothing;
  writes = ap (λ (k : Kernel). k.written) (stands old mid es w t);
  cut = subst (CutShort old_told new_told stream) (put_out old mid es empty t kept) short;
}

-- how a turn went, by how its writing went
pub went : (old_told new_told : Told) (old mid new : PlainKernel) (es : List Effect) (w : Written) (result : Result (Unit {0}) RunStop) → IsEmpty old.machine.output → Turned old mid es → WroteOut old_told new_told mid.machine.output new.machine.output result → new.manager ≡ mid.manager → held_of new.machine ≡ held_of mid.machine → Went old_told new_told old new w es result
went old_told new_told old mid new es w (Ok done) empty t emptied manager held = wrote old_told new_told old mid new es w empty t emptied manager held
went old_told new_told old mid new es w (Err NoMemory) empty t same manager held = same
went old_told new_told old mid new es w (Err OutFault) empty t short manager held = cut old_told new_told old mid es w streams.Out empty t short.0 short.1
went old_told new_told old mid new es w (Err ErrFault) empty t short manager held = cut old_told new_told old mid es w streams.Err empty t short.0 short.1
