use Rattle.std.proofs.Common.{◌≡◌, ◌+◌, ◌-◌, ◌++◌, ◌∙◌, ap, arith, drop, length, min, replicate, take}
use Rattle.std.proofs.lemmas.Result.{IfOk-weaker}
use Rattle.lego_base.specs.Pieces.{of_size}
use Rattle.lego_msg.specs.Files.{block_of}
use Rattle.file_table.proofs.Pieces.{block_is}
use Rattle.file_table.proofs.bytes.block_of.Goals as goal

pub returns : goal.returns
returns c =
    let bytes = c.args.bytes.now in
    let start = c.min-start.result in
    let copied = c.extend_from_slice.new.self in
    let part : copied.items ≡ take (min (length bytes) (start + 4096) - start) (drop start bytes) =
    c.in_ok-extend_from_slice.ensures.items ∙ ap (λ t. t ++ take (c.min-end.result - start) (drop start bytes)) c.in_ok-copy.ensures.items ∙ ap (λ n. take (n - start) (drop start bytes)) c.min-end.ensures in
    let filled : c.resize.new.self.items ≡ of_size 4096 copied.items = c.in_ok-resize.ensures.items ∙ ap (λ n. take 4096 copied.items ++ replicate (4096 - n) 0) copied.ok.0 in
    let whole : c.resize.new.self.items ≡ block_of bytes c.args.block =
    filled ∙ ap (of_size 4096) part ∙ block_is bytes c.args.block c.saturating_mul.result start c.saturating_mul.ensures (omega arith) c.min-start.ensures in
    IfOk-weaker c.from_vec.result (λ b. b ≡ c.resize.new.self.items) (λ b. b ≡ block_of bytes c.args.block) (λ b e. e ∙ whole) c.from_vec.ensures
