-- What calls say: effects of the plain kernel happened, or some first ones of what they call for and show. `told` and `faults`
-- are a watch's; w and w' are the watch before and after, m and m' the processors with their cluster.
use Rattle.std.specs.Prelude.{◌≡◌, [], ℕ, Err, IfErr, List, None, OnOk, Option, Result, Some, slice_get}
use Rattle.lego_base.specs.declared.stops.Halt.{Halt}
use Rattle.lego_msg.specs.Marks.{Mark}
use Rattle.lego_msg.specs.Went.{Halted, Went}
use Rattle.lego_msg.specs.declared.event.Event.{Event}
use Rattle.line_cache.specs.Cached.{Cached}
use Rattle.line_cache.specs.Counting.{in_64_bits}
use Rattle.linux_model.specs.Effects.{Effect}
use Rattle.linux_model.specs.Held.{held_after_all}
use Rattle.split_script.specs.Now.{Cache, Now}
use Rattle.split_script.specs.Script.{all_passed, script}
use Rattle.ex_memory.specs.Seen.{held_of, world}
use Rattle.ex_memory.specs.Split.{Split}

-- THEY ARE what the script takes them to be, and no halt is kept. A cache has what 64 bits keep of its counts.
pub record CacheIs (k : Cache) (c : Cached) : Type 0 where
  pub lines : k.lines ≡ c.tags
  pub counts : c.counts ≡ in_64_bits k.counts

pub record Is (n : Now) (m : Split) : Type 0 where
  pub goes : m.whole.halt ≡ None
  pub shape : n.shape ≡ m.whole.shape
  pub held : n.held ≡ held_of m
  pub by : n.by ≡ m.by
  pub owned : n.owned ≡ m.whole.table
  pub caches : (cpu : ℕ) (c : Cached) → slice_get m.caches cpu ≡ Some c → CacheIs (n.caches cpu) c

-- THE EVENTS THAT WERE SHOWN lead over marks, and what the script depends on becomes what they make of it
pub record Goes {W : Type 0} (told : W → Option (List Event)) (faults : W → ℕ) (w w' : W) (m m' : Split) (marks : Now → List Mark → List Mark) (passes : Now → Now) : Type 0 where
  pub went : (n : Now) → Is n m → (rest : List Mark) → Went told faults w w' (world m (marks n rest)) (world m' rest)
  pub is_then : (n : Now) → Is n m → Is (passes n) m'

-- a halt comes within them, with its cause
abbrev pub Halts : {W : Type 0} → (W → Option (List Event)) → (W → ℕ) → W → W → Split → (Now → List Mark → List Mark) → Halt → Type 0
Halts told faults w w' m marks halt = (n : Now) → Is n m → (rest : List Mark) → Halted told faults w w' halt (world m (marks n rest))

-- HOW A CALL ENDS that goes over marks. A halt that is kept is given again, with nothing done; one that comes is kept.
pub record Ends {W X : Type 0} (told : W → Option (List Event)) (faults : W → ℕ) (w w' : W) (m m' : Split) (marks : Now → List Mark → List Mark) (passes : Now → Now) (result : Result X Halt) : Type 0 where
  pub goes : OnOk result (Goes told faults w w' m m' marks passes)
  pub halts : IfErr result (Halts told faults w w' m marks)
  pub keeps : IfErr result (λ halt. m'.whole.halt ≡ Some halt)
  pub kept : (halt : Halt) → m.whole.halt ≡ Some halt → (result ≡ Err halt) × (m'.whole.halt ≡ Some halt) × (w' ≡ w)
  pub on : OnOk result (m.whole.halt ≡ None)

-- EFFECTS OF THE PLAIN KERNEL: what is held besides is what they make of it
abbrev pub Did : {W : Type 0} → (W → Option (List Event)) → (W → ℕ) → W → W → Split → Split → List Effect → Type 0
Did told faults w w' m m' es = Goes told faults w w' m m' (λ n. script n es) (λ n. all_passed n es) × (held_of m' ≡ held_after_all es (held_of m))

pub record Does {W X : Type 0} (told : W → Option (List Event)) (faults : W → ℕ) (w w' : W) (m m' : Split) (es : List Effect) (result : Result X Halt) : Type 0 where
  pub ends : Ends told faults w w' m m' (λ n. script n es) (λ n. all_passed n es) result
  pub led : OnOk result (held_of m' ≡ held_after_all es (held_of m))
