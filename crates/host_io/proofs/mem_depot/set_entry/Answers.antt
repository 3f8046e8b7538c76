use Rattle.std.proofs.Common.{List, ℕ, Some, refl, ap, ◌∙◌}
use Rattle.lego_base.specs.declared.report.FileOut.{FileOut}
use Rattle.host_io.specs.Objects.{looked_up}
use Rattle.host_io.specs.Depots.{with_entry}
use Rattle.host_io.proofs.EntryLaws.{map_of-set, map_of-push, IsPlace-equal, NoneBefore-equal}
use Rattle.host_io.proofs.mem_depot.set_entry.Goals as goal

pub returns-in-Some-clause-ok : goal.returns-in-Some-clause-ok
returns-in-Some-clause-ok c =
    map_of-set c.args.files.now.items c.args.name.now c.in-Some.at c.index_mut-file.result.now c.in_ok-bytes.bytes (IsPlace-equal _ _ _ _ _ c.as_slice.ensures.value refl c.in-Some.ensures) c.index_mut-file.ensures.value
    ∙ ap (λ (l : List ℕ). with_entry c.args.name.now (Some l) (looked_up c.args.files.now.items)) c.in_ok-bytes.ensures

pub returns-in_ok-add_entry-in-None-clause-ok : goal.returns-in_ok-add_entry-in-None-clause-ok
returns-in_ok-add_entry-in-None-clause-ok c =
    ap (λ (l : List FileOut). looked_up l) c.in_ok-add_entry-in-None.ensures.ok
    ∙ (map_of-push c.args.files.now.items c.args.name.now c.in_ok-bytes.bytes (NoneBefore-equal _ _ _ _ c.as_slice.ensures.value refl c.in-None.ensures)
    ∙ ap (λ (l : List ℕ). with_entry c.args.name.now (Some l) (looked_up c.args.files.now.items)) c.in_ok-bytes.ensures)
