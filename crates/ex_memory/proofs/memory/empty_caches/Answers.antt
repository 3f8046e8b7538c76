use Rattle.line_cache.specs.Cached.{empty_cache}
use Rattle.std.proofs.Common.{◌∙◌, ap, [], ◌∷◌, ◌++◌, List}
use Rattle.line_cache.specs.Cached.{Cached}
use Rattle.ex_memory.proofs.Booting.{one_more}
use Rattle.ex_memory.proofs.memory.empty_caches.Goals as goal

pub loop-preserved : goal.loop-preserved
loop-preserved c =
    one_more c.args.processors c.loop.counter (empty_cache c.args.sets c.args.ways) c.loop.caches.items c.push.new.self.items _ c.loop-test.true c.loop.invariant
    (c.in_ok-push.ensures.items ∙ ap (λ (x : Cached). c.loop.caches.items ++ x ∷ []) c.in_ok-new.ensures)
