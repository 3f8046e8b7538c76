use Rattle.ex_memory.proofs.Booting.{booted_is, booted_sound, booted_start, power_some}
use Rattle.std.proofs.Common.{refl}
use Rattle.ex_memory.proofs.memory.ExMemory.boot.Goals as goal

pub invariant_of-result : goal.invariant_of-result
invariant_of-result c = record {
  issuer = refl;
  sound = λ none. booted_sound c.args.shape.now c.in_ok-cluster.cluster c.in_ok-caches.caches.items c.in_ok-caches.ensures c.in_ok-cluster.ensures.start (c.in_ok-cluster.ensures.stands c.requires.machine) c.in_ok-cluster.ensures.table c.in_ok-cluster.ensures.goes
      c.requires.placed c.requires.processors (power_some c.args.shape.now.sets c.requires.power) c.requires.ways;
}

pub returns-clause-start : goal.returns-clause-start
returns-clause-start c = booted_start c.args.shape.now c.in_ok-cluster.cluster c.in_ok-caches.caches.items c.in_ok-caches.ensures c.in_ok-cluster.ensures.start (c.in_ok-cluster.ensures.stands c.requires.machine) c.in_ok-cluster.ensures.table c.in_ok-cluster.ensures.goes
    c.requires.placed c.requires.processors (power_some c.args.shape.now.sets c.requires.power) c.requires.ways

pub returns-clause-is : goal.returns-clause-is
returns-clause-is c = booted_is c.args.shape.now c.in_ok-cluster.cluster c.in_ok-caches.caches.items c.in_ok-caches.ensures c.in_ok-cluster.ensures.start (c.in_ok-cluster.ensures.stands c.requires.machine) c.in_ok-cluster.ensures.table c.in_ok-cluster.ensures.goes
    c.requires.placed c.requires.processors (power_some c.args.shape.now.sets c.requires.power) c.requires.ways
