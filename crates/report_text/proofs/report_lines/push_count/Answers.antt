use Rattle.std.proofs.Common.{◌∙◌, ℕ, List, [], ◌∷◌, ◌++◌, ap, string_bytes}
use Rattle.std.specs.Prelude.{codes, decimal}
use Rattle.report_text.proofs.Appended.{six, in_line}
use Rattle.report_text.proofs.report_lines.push_count.Goals as goal

pub returns : goal.returns
returns c =
    let counts = c.args.counts.now in
    six (string_bytes c.args.text.now) (codes "cpu " ++ decimal c.args.number) (codes " hits " ++ decimal counts.hits) (codes " misses " ++ decimal counts.misses) (codes " evictions " ++ decimal counts.evictions) (codes " writebacks " ++ decimal counts.writebacks) (10 ∷ []) _ _ _ _ _ _
    c.in_ok-push_number.ensures c.in_ok-push_number-2.ensures c.in_ok-push_number-3.ensures c.in_ok-push_number-4.ensures c.in_ok-push_number-5.ensures c.in_ok-push_str.ensures.bytes
    ∙ ap (λ (b : List ℕ). string_bytes c.args.text.now ++ b) (in_line (codes "cpu ") (decimal c.args.number) (codes " hits ") (decimal counts.hits) (codes " misses ") (decimal counts.misses) (codes " evictions ") (decimal counts.evictions) (codes " writebacks ") (decimal counts.writebacks) (10 ∷ []))
