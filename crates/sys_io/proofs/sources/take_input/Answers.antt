use Rattle.std.proofs.Common.{◌≡◌, ℕ, List, ◌∙◌, ap, sym, length, arith}
use Rattle.std.proofs.lemmas.List.{length-take}
use Rattle.linux_model.specs.Effects.{Takes}
use Rattle.linux_model.specs.Managed.{managed_after}
use Rattle.sys_io.proofs.Filled.{filled, written_back}
use Rattle.sys_io.proofs.sources.take_input.Goals as goal

pub returns-clause-bytes : goal.returns-clause-bytes
returns-clause-bytes c =
    let source = c.args.man.now.input in
    let size = ap (λ (l : List ℕ). length l) c.as_mut_slice.ensures.value ∙ c.in_ok-bytes.ensures.length in
    let fill = filled c.as_mut_slice.result.now source c.take_input.result c.args.count size c.requires c.take_input.ensures.count in
    let new_is = c.take_input.ensures.buf ∙ fill.1 in
    let taken = length-take c.args.count source in
    let new_size = ap (λ (l : List ℕ). length l) new_is in
    let new_len : length c.take_input.new.buf ≡ c.args.count = omega (arith, new_size, taken, c.requires) in
    written_back c.in_ok-bytes.bytes.items c.take_input.new.buf c.in_ok-bytes.bytes.len (c.in_ok-bytes.ensures.length ∙ sym c.in_ok-bytes.ensures.len) (new_len ∙ sym c.in_ok-bytes.ensures.len) ∙ new_is

pub returns-clause-taken : goal.returns-clause-taken
returns-clause-taken c =
    let source = c.args.man.now.input in
    let size = ap (λ (l : List ℕ). length l) c.as_mut_slice.ensures.value ∙ c.in_ok-bytes.ensures.length in
    let fill = filled c.as_mut_slice.result.now source c.take_input.result c.args.count size c.requires c.take_input.ensures.count in
    c.take_input.ensures.taken ∙ ap (λ (n : ℕ). managed_after (Takes n) c.args.man.now) fill.0
