use Rattle.std.proofs.Common.{◌≤◌, sym, arith, codes}
use Rattle.std.proofs.lemmas.List.{get_or_past}
use Rattle.rv64_decode.specs.Text.{names}
use Rattle.rv64_decode.proofs.text.register_name.Goals as goal

pub returns-in_default : goal.returns-in_default
returns-in_default c =
    let past : 32 ≤ c.args.number = omega arith in
    sym (get_or_past names c.args.number (codes "?") past)
