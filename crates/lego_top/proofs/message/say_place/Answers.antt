use Rattle.lego_top.proofs.message.say_place.Goals as goal

pub returns-clause-all : goal.returns-clause-all
returns-clause-all g c = rw c.as_bytes.ensures.value at c.write_line.ensures.all
