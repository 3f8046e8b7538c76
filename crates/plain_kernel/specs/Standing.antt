-- Which kernel of the definitions a plain kernel stands for.
use Rattle.std.specs.Prelude.{[]}
use Rattle.linux_model.specs.State.{Kernel, Written, unbooted}
use Rattle.call_machine.specs.Lent.{kernel_of}
use Rattle.plain_machine.specs.Plain.{held_of}
use Rattle.plain_kernel.specs.declared.kernel.PlainKernel.{PlainKernel}

-- another kernel with what it manages and holds
abbrev pub over : PlainKernel → Kernel → Kernel
over p k = kernel_of p.manager (held_of p.machine) k

-- the kernel that it stands for, where this was written since the start
abbrev pub kernel_in : PlainKernel → Written → Kernel
kernel_in p written = over p (record (unbooted []) { written = written })
