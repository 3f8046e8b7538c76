use Rattle.std.proofs.Common.{◌≡◌, ◌++◌, ℕ, length, replicate, vec_len, ap, ◌∙◌, rules, arith}
use Rattle.flat_memory.specs.Pieces.{start_in, byte_in}
use Rattle.flat_memory.proofs.Zeros.{grown}
use Rattle.flat_memory.proofs.Pieces.{same-byte, more-byte, own-byte}
use Rattle.flat_memory.proofs.space.own_piece.Goals as goal

pub returns-in_err-insert-clause-same : goal.returns-in_err-insert-clause-same
returns-in_err-insert-clause-same c =
    let bytes = c.args.bytes.now in
    let more : c.resize.new.self.items ≡ bytes.items ++ replicate 4096 0 = grown bytes.items c.resize.new.self.items (vec_len bytes) c.len-start.result 4096 bytes.ok.0 (search rules) c.in_ok-resize.ensures.items in
    let same : (p : ℕ) → start_in c.insert.new.self p ≡ start_in c.args.starts.now p = λ p. search rules in
    same-byte (start_in c.args.starts.now) (start_in c.insert.new.self) c.resize.new.self.items same
    ∙ ap (byte_in (start_in c.args.starts.now)) more
    ∙ more-byte (start_in c.args.starts.now) bytes.items

pub returns-clause-same : goal.returns-clause-same
returns-clause-same c =
    let bytes = c.args.bytes.now in
    let start : c.len-start.result ≡ length bytes.items = search rules in
    let more : c.resize.new.self.items ≡ bytes.items ++ replicate 4096 0 = grown bytes.items c.resize.new.self.items (vec_len bytes) c.len-start.result 4096 bytes.ok.0 start c.in_ok-resize.ensures.items in
    let none : start_in c.args.starts.now c.args.page ≡ 0 = omega (arith, c.start_of-own.ensures) in
    let here : start_in c.insert.new.self c.args.page ≡ length bytes.items = search (rules, start) in
    let there : (p : ℕ) → (p ≡ c.args.page → ⊥) → start_in c.insert.new.self p ≡ start_in c.args.starts.now p = λ p ne. search rules in
    ap (byte_in (start_in c.insert.new.self)) more
    ∙ own-byte (start_in c.args.starts.now) (start_in c.insert.new.self) bytes.items c.args.page c.requires none here there
