use Rattle.std.proofs.Common.{◌≡◌, ◌*◌, ◌%◌, ◌<◌, ◌∙◌, List, Option, ap, arith, drop, mod-lt, subst, sym, take, ℕ}
use Rattle.std.specs.Prelude.{IfOk}
use Rattle.lego_msg.specs.Maps.{bytes_or_zeros}
use Rattle.page_store.proofs.Laid.{zeros_piece}
use Rattle.mem_monitor.proofs.page_rows.line_of.Goals as goal

pub returns-in-None : goal.returns-in-None
returns-in-None c =
    let off = c.args.line.0 % 64 * 64 in
    let less : c.args.line.0 % 64 < 64 = mod-lt c.args.line.0 (omega arith) in
    let zeros_ = zeros_piece off 64 (omega (arith, less)) in
    let same = zeros_ ∙ ap (λ (o : Option (List ℕ)). take 64 (drop off (bytes_or_zeros o))) (sym c.in-None.ensures.bytes) in
    subst (λ (l : List ℕ). IfOk c.from_slice-in-None.result (λ bytes. bytes ≡ l)) same c.from_slice-in-None.ensures
