use Rattle.std.proofs.Common.{◌≡◌, sym, ap, ◌∙◌}
use Rattle.host_io.specs.Objects.{Shelf, looked_up}
use Rattle.host_io.proofs.EntryLaws.{looked_up-none, looked_up-found, IsPlace-equal, NoneBefore-equal}
use Rattle.host_io.proofs.mem_depot.MemDepotDepot.get.Goals as goal
use Rattle.host_io.proofs.mem_depot.MemDepotDepot.get.Goals.{in-Some+in-Ok, in-Some+in-Err, in-None}

pub returns-clause-looked : goal.returns-clause-looked
returns-clause-looked c =
    let entries : looked_up c.args.self.now.entries c.args.name.now ≡ looked_up c.self.inside.files.items c.args.name.now =
    ap (λ (s : Shelf). looked_up s.entries c.args.name.now) (sym c.self.view_is) in
    elim c.match-place_of.branch [
      | in-Some+in-Ok w ↦ rw w.result-is (entries ∙ looked_up-found _ _ w.in-Some.at w.index.result.now w.in-Ok.bytes (IsPlace-equal _ _ _ _ _ c.as_slice.ensures.value c.as_bytes.ensures.value w.in-Some.ensures) w.index.ensures w.in-Ok.ensures.cases)
      | in-Some+in-Err w ↦ rw w.result-is tt
      | in-None w ↦ rw w.result-is (entries ∙ looked_up-none _ _ (NoneBefore-equal _ _ _ _ c.as_slice.ensures.value c.as_bytes.ensures.value w.in-None.ensures))
    ]
