use Rattle.std.proofs.Common.{◌≡◌, ◌++◌, drop, map}
use Rattle.serde_json.specs.Data.{number, unsigned}
use Rattle.serde_json.specs.View.{view}
use Rattle.guest_gen.proofs.text.memories.Given as goal

abbrev pub invariant-loop-memory : goal.invariant-loop-memory
invariant-loop-memory l =
    map view l.values.items ++ map (λ n. number (unsigned n)) (map (λ m. m.0) (drop l.memory-index l.list)) ≡ map (λ n. number (unsigned n)) (map (λ m. m.0) l.list)
