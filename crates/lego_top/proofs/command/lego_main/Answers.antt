-- When each ending comes follows from its cause.
use Rattle.std.proofs.Common.{refl}
use Rattle.std.specs.Prelude.{map, string_bytes}
use Rattle.lego_top.specs.CommandLine.{named}
use Rattle.lego_top.specs.Line.{line_of}
use Rattle.lego_top.specs.Outside.{outside}
use Rattle.lego_top.proofs.Exact.{complete, refused, usage_exactly}
use Rattle.lego_top.proofs.Lines.{said_by}
use Rattle.lego_top.proofs.command.lego_main.Goals as goal

pub returns : goal.returns
returns g c = record {
  answered = record {
    caused = record {
      err = (g.E.Sink.state c.command-ending.new.err);
      caused = c.command-ending.ensures.caused;
      said = said_by (g.E.Sink.state c.command-ending.new.err) (g.E.Sink.state c.say.new.err) (line_of c.command-ending.result) c.say.result c.say.ensures.cause c.say.ensures.all c.say.ensures.front;
    };
    usage = usage_exactly (named (map string_bytes c.args.words.now)) (outside (g.S.Source.state c.args.input.now) (g.O.Sink.state c.args.out.now) (g.E.Sink.state c.args.err.now) (g.D.Depot.state c.args.depot.now)) (outside (g.S.Source.state c.command-ending.new.input) (g.O.Sink.state c.command-ending.new.out) (g.E.Sink.state c.command-ending.new.err) (g.D.Depot.state c.command-ending.new.depot)) c.command-ending.result c.command-ending.ensures.caused;
    refused = refused (named (map string_bytes c.args.words.now)) (outside (g.S.Source.state c.args.input.now) (g.O.Sink.state c.args.out.now) (g.E.Sink.state c.args.err.now) (g.D.Depot.state c.args.depot.now)) (outside (g.S.Source.state c.command-ending.new.input) (g.O.Sink.state c.command-ending.new.out) (g.E.Sink.state c.command-ending.new.err) (g.D.Depot.state c.command-ending.new.depot)) c.command-ending.result c.command-ending.ensures.caused;
    complete = complete (named (map string_bytes c.args.words.now)) (outside (g.S.Source.state c.args.input.now) (g.O.Sink.state c.args.out.now) (g.E.Sink.state c.args.err.now) (g.D.Depot.state c.args.depot.now)) (outside (g.S.Source.state c.command-ending.new.input) (g.O.Sink.state c.command-ending.new.out) (g.E.Sink.state c.command-ending.new.err) (g.D.Depot.state c.command-ending.new.depot)) (outside (g.S.Source.state c.command-ending.new.input) (g.O.Sink.state c.command-ending.new.out) (g.E.Sink.state c.say.new.err) (g.D.Depot.state c.command-ending.new.depot)) c.command-ending.result refl refl refl c.say.ensures.cause.later c.command-ending.ensures.caused;
  };
}
