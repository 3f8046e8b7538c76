use Rattle.std.proofs.Common.{◌≡◌, ◌-◌, ◌++◌}
use Rattle.lego_msg.specs.Operations.{each_from, messages_of}
use Rattle.lego_msg.specs.declared.body.Body.TheVariants.{DropSpace, ImageFree}
use Rattle.cluster_ops.proofs.issuer.Issuer.drop_everywhere.Given as goal

-- what is there with the messages to the memories that are left is the whole
abbrev pub invariant-loop-number : goal.invariant-loop-number
invariant-loop-number l =
    l.messages ++ messages_of l.self.by l.self.number (each_from (l.self.memories - l.number) l.number (DropSpace l.pid) (ImageFree l.pid))
    ≡ messages_of l.self.by l.self.number (each_from l.self.memories 0 (DropSpace l.pid) (ImageFree l.pid))
