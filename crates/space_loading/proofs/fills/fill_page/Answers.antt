use Rattle.std.proofs.Common.{◌∙◌, [], ◌∷◌, arith}
use Rattle.space_rules.specs.Pages.{loaded}
use Rattle.linux_model.specs.Loading.{page_fill}
use Rattle.space_loading.proofs.Bytes.{fills_page}
use Rattle.space_loading.proofs.Parts.{has_bytes, last_below}
use Rattle.space_loading.proofs.fills.fill_page.Goals as goal

pub loaded_between-requires-clause-ordered : goal.loaded_between-requires-clause-ordered
loaded_between-requires-clause-ordered g c =
    omega (arith, has_bytes c.args.segments.now c.args.page c.requires.part, c.first_byte-first.ensures, c.last_end.ensures)

pub loaded_between-requires-clause-low : goal.loaded_between-requires-clause-low
loaded_between-requires-clause-low g c =
    omega (arith, last_below c.args.segments.now c.args.page, c.last_end.ensures, c.requires.low)

pub returns-in_err-bytes-clause-stops : goal.returns-in_err-bytes-clause-stops
returns-in_err-bytes-clause-stops g c =
    g.met.M.Machine.lawful.stops_front _ _ [] (page_fill c.args.pid.0 c.args.segments.now c.args.page ∷ []) (g.met.M.Machine.lawful.not_begun _)

pub fill-requires : goal.fill-requires
fill-requires g c = record {
  page = fills_page ((g.M.Machine.held c.args.machine.now).space c.args.pid.0) (record { areas = []; byte = loaded c.args.segments.now }) c.args.segments.now c.args.page c.first_byte-first.result c.last_end.result c.as_slice.result.now c.requires.bounded c.requires.part c.requires.mapped c.first_byte-first.ensures c.last_end.ensures (c.as_slice.ensures ∙ c.in_ok-bytes.ensures);
}
