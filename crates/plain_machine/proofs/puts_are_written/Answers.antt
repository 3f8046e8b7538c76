use Rattle.plain_machine.proofs.Writing as lemmas
use Rattle.plain_machine.proofs.puts_are_written.Goals as goal

pub returns : goal.returns
returns c = lemmas.puts_are_written
