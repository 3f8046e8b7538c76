use Rattle.std.proofs.Common.{◌≡◌, ◌++◌, drop}
use Rattle.std.specs.Prelude.{flat_map}
use Rattle.lego_base.specs.Space.{bytes_of}
use Rattle.space_rules.proofs.stack.push_words.Given as goal

-- the bytes so far with those of the words that are left make all bytes
abbrev pub invariant-loop-word : goal.invariant-loop-word
invariant-loop-word l = l.bytes.items ++ flat_map (bytes_of 8) (drop l.word-index l.words) ≡ l.fn.bytes.items ++ flat_map (bytes_of 8) l.words
