use Rattle.std.proofs.Common.{◌≡◌, ℕ, List, ◌∙◌, ap, sym, length, arith}
use Rattle.std.proofs.lemmas.List.{length-take}
use Rattle.kernel_objects.specs.Slots.{slot}
use Rattle.linux_model.specs.Effects.{bytes_in_pipe, TakesPipe}
use Rattle.linux_model.specs.Managed.{managed_after}
use Rattle.sys_io.proofs.Filled.{filled, written_back}
use Rattle.sys_io.proofs.sources.take_from_pipe.Goals as goal

pub returns-clause-bytes : goal.returns-clause-bytes
returns-clause-bytes c =
    let source = (bytes_in_pipe (slot c.args.man.now.pipes c.args.pipe)) in
    let size = ap (λ (l : List ℕ). length l) c.as_mut_slice.ensures.value ∙ c.in_ok-bytes.ensures.length in
    let fill = filled c.as_mut_slice.result.now source c.pipe_take.result c.args.count size c.requires.enough c.pipe_take.ensures.count in
    let new_is = c.pipe_take.ensures.buf ∙ fill.1 in
    let taken = length-take c.args.count source in
    let new_size = ap (λ (l : List ℕ). length l) new_is in
    let new_len : length c.pipe_take.new.buf ≡ c.args.count = omega (arith, new_size, taken, c.requires.enough) in
    written_back c.in_ok-bytes.bytes.items c.pipe_take.new.buf c.in_ok-bytes.bytes.len (c.in_ok-bytes.ensures.length ∙ sym c.in_ok-bytes.ensures.len) (new_len ∙ sym c.in_ok-bytes.ensures.len) ∙ new_is

pub returns-clause-taken : goal.returns-clause-taken
returns-clause-taken c =
    let source = (bytes_in_pipe (slot c.args.man.now.pipes c.args.pipe)) in
    let size = ap (λ (l : List ℕ). length l) c.as_mut_slice.ensures.value ∙ c.in_ok-bytes.ensures.length in
    let fill = filled c.as_mut_slice.result.now source c.pipe_take.result c.args.count size c.requires.enough c.pipe_take.ensures.count in
    c.pipe_take.ensures.taken ∙ ap (λ (n : ℕ). managed_after (TakesPipe c.args.pipe n) c.args.man.now) fill.0
