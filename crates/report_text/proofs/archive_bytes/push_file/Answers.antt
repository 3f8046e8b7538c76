use Rattle.std.proofs.Common.{◌≡◌, ◌∙◌, ℕ, List, ◌++◌, length, ap}
use Rattle.std.specs.Int.{w16, w64, to_le_bytes}
use Rattle.lego_base.specs.Space.{bytes_of}
use Rattle.report_text.proofs.Appended.{four, two_bytes, eight_bytes}
use Rattle.report_text.proofs.archive_bytes.push_file.Goals as goal

pub returns : goal.returns
returns c =
    let name : c.as_slice.result.now ≡ bytes_of 2 (length c.args.file.now.name) = c.as_slice.ensures ∙ c.to_le_bytes.ensures ∙ ap (λ (n : ℕ). to_le_bytes w16 n) c.len.ensures ∙ two_bytes (length c.args.file.now.name) in
    let size : c.as_slice-3.result.now ≡ bytes_of 8 (length c.args.file.now.bytes) = c.as_slice-3.ensures ∙ c.to_le_bytes-2.ensures ∙ ap (λ (n : ℕ). to_le_bytes w64 n) c.len-2.ensures ∙ eight_bytes (length c.args.file.now.bytes) in
    four c.args.bytes.now.items (bytes_of 2 (length c.args.file.now.name)) c.args.file.now.name (bytes_of 8 (length c.args.file.now.bytes)) c.args.file.now.bytes _ _ _ _
    (c.in_ok-push.ensures ∙ ap (λ (b : List ℕ). c.args.bytes.now.items ++ b) name)
    (c.in_ok-push-2.ensures ∙ ap (λ (b : List ℕ). c.push.new.bytes.items ++ b) c.as_slice-2.ensures)
    (c.in_ok-push-3.ensures ∙ ap (λ (b : List ℕ). c.push-2.new.bytes.items ++ b) size)
    (c.in_ok-push-4.ensures ∙ ap (λ (b : List ℕ). c.push-3.new.bytes.items ++ b) c.as_slice-4.ensures)
