use Rattle.std.proofs.Common.{◌≡◌, ◌++◌, drop, length}
use Rattle.lego_msg.specs.Track.{empty_mems}
use Rattle.protocol_engine.proofs.beginning.empty_memories.Given as goal

abbrev pub invariant-loop-frames : goal.invariant-loop-frames
invariant-loop-frames l = record {
  count : length l.memories.items ≡ l.frames-index;
  left : l.memories.items ++ empty_mems l.shape l.frames-index (drop l.frames-index l.sizes) ≡ empty_mems l.shape 0 l.sizes;
}
