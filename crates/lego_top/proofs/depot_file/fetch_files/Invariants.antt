use Rattle.lego_top.proofs.Fetching.{FetchedSoFar}
use Rattle.lego_top.proofs.depot_file.fetch_files.Given as goal

abbrev pub invariant-loop-source : goal.invariant-loop-source
invariant-loop-source g l = FetchedSoFar (g.D.Depot.state l.fn.depot) (g.D.Depot.state l.depot) l.sources l.source-index l.files
