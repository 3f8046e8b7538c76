use Rattle.std.proofs.Common.{◌≡◌, ◌+◌, sum_by, drop}
use Rattle.elf_image.specs.declared.header.Header.{Header}
use Rattle.elf_image.proofs.checks.is_total_above.Given as goal

-- what is left and what the loads before this one have is all that may be
abbrev pub invariant-loop-load : goal.invariant-loop-load
invariant-loop-load l = l.left + sum_by (λ (load : Header). load.memsz) l.loads ≡ l.most + sum_by (λ (load : Header). load.memsz) (drop l.load-index l.loads)
