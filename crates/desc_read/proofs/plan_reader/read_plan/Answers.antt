use Rattle.std.proofs.Common.{IsUtf8, codes}
use Rattle.std.proofs.lemmas.Str.{is_utf8-from_IsUtf8}
use Rattle.desc_read.specs.declared.fault.DescKind.TheVariants.{Syntax}
use Rattle.desc_read.specs.Plans.{described}
use Rattle.desc_read.proofs.Fields.{fails_at}
use Rattle.desc_read.proofs.Whole.{no_reading}
use Rattle.desc_read.proofs.plan_reader.read_plan.Goals as goal

pub returns-in-Ok : goal.returns-in-Ok
unfolding described
returns-in-Ok c = rw (is_utf8-from_IsUtf8 c.args.bytes.now c.in-Ok.ensures.ok.0, c.in-Ok.ensures.ok.1) c.plan_of_value.ensures

pub returns-in_default : goal.returns-in_default
returns-in_default c =
    fails_at Syntax (codes ".") c.no_text.result _ c.no_text.ensures
    (no_reading c.args.bytes.now (λ (text : IsUtf8 c.args.bytes.now). c.in-Err.ensures.err (λ memory. c.in_default.not-Memory (c.classify.ensures.memory.1 memory)) text))
