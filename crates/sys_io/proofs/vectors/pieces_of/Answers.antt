use Rattle.std.proofs.Common.{rules, ◌≡◌, ℕ, ◌≤◌, sym, subst, List, [], ◌∷◌, ◌++◌, length, take, drop}
use Rattle.lego_base.specs.Space.{number_of}
use Rattle.sys_io.proofs.Entries.{Left, entries_end, entry_on}
use Rattle.sys_io.proofs.vectors.pieces_of.Goals as goal

pub loop-rest-preserved : goal.loop-rest-preserved
loop-rest-preserved c =
    let rest = c.loop-rest.rest.now in
    let some : 16 ≤ length rest = search rules in
    let at : c.word_of.result ≡ number_of (take 8 (take 16 rest)) = search rules in
    let size : c.word_of-in-loop-rest.result ≡ number_of (drop 8 (take 16 rest)) = search rules in
    let items : c.push.new.self.items ≡ c.loop-rest.pieces.items ++ record { at = c.word_of.result; size = c.word_of-in-loop-rest.result } ∷ [] = search rules in
    let later : c.split_at.result.1.now ≡ drop 16 rest = search rules in
    subst (λ (l : List ℕ). Left c.args.bytes.now c.push.new.self.items l) (sym later) (entry_on c.args.bytes.now rest c.loop-rest.pieces.items _ _ _ some at size items c.loop-rest.invariant)

pub returns : goal.returns
returns c n is =
    let few : length c.loop-rest.rest.now ≤ 15 = search rules in
    entries_end c.args.bytes.now c.loop-rest.rest.now c.loop-rest.pieces.items n few is c.loop-rest.invariant
