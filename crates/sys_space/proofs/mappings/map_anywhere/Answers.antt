use Rattle.std.proofs.Common.{rules, ◌≡◌, ◌∙◌, ◌/◌, ℕ, List, ap, refl, subst, sym, true, [], ◌∷◌}
use Rattle.lego_base.specs.declared.records.Area.{Area}
use Rattle.call_machine.specs.Effects.{KeepsPages}
use Rattle.space_rules.specs.Place.{pages_for, place_of}
use Rattle.linux_model.specs.Limits.{ENOMEM}
use Rattle.linux_model.specs.Effects.{AsksSpace, Maps}
use Rattle.linux_model.specs.Called.{Gives, given}
use Rattle.linux_model.specs.Held.{Held, with_held}
use Rattle.linux_model.specs.SpaceCalls.{areas_of, is_free, maps_at}
use Rattle.sys_space.specs.Calls.{anywhere_row, with_pid}
use Rattle.sys_space.proofs.Row.{answered, asked, done, stopped}
use Rattle.sys_space.proofs.Free.{place_frees, put_keeps}
use Rattle.sys_space.proofs.mappings.map_anywhere.Goals as goal

pub map-requires : goal.map-requires
map-requires g c =
    let same = c.in_ok-areas.ensures.answer ∙ sym (ap (λ (h : Held). (h.space c.args.pid.0).areas) (g.met.M.Machine.lawful.holds _ _ (AsksSpace c.args.pid.0 ∷ []) c.in_ok-areas.ensures.does)) in
    let free = place_frees c.in_ok-areas.areas c.args.len c.in-Some.at c.in-Some.ensures.lowest.place in
    let pages = c.pages_for.ensures in
    record { keeps = subst (λ (areas : List Area). KeepsPages areas c.put_within.new.areas) same (put_keeps _ _ _ c.in_ok-areas.areas c.put_within.new.areas (c.if-not-put_within.ensures.sets refl) (subst (λ (n : ℕ). is_free c.in_ok-areas.areas (c.in-Some.at / 4096) n ≡ true) (sym pages) free)) }

pub returns-in_err-areas-clause-stops : goal.returns-in_err-areas-clause-stops
returns-in_err-areas-clause-stops g c p k =
    let P = with_pid c.args.pid.0 p in
    let K = with_held (g.M.Machine.held c.args.machine.now) k in
    asked g.M.Machine.held g.M.Machine.does g.M.Machine.stops g.met.M.Machine.lawful _ _ (AsksSpace c.args.pid.0 ∷ []) (anywhere_row c.args.len c.args.perms P K) (given (place_of (areas_of P K) c.args.len) ENOMEM (maps_at P K (pages_for c.args.len) c.args.perms)) refl c.areas.ensures.stops

pub returns-in_err-map-clause-stops : goal.returns-in_err-map-clause-stops
returns-in_err-map-clause-stops g c p k =
    let P = with_pid c.args.pid.0 p in
    let K = with_held (g.M.Machine.held c.args.machine.now) k in
    let maps = Maps c.args.pid.0 c.put_within.new.areas in
    let row : anywhere_row c.args.len c.args.perms P K ≡ Gives (AsksSpace c.args.pid.0 ∷ maps ∷ []) c.in-Some.at = search rules in
    stopped g.M.Machine.held g.M.Machine.does g.M.Machine.stops g.met.M.Machine.lawful _ _ _ (AsksSpace c.args.pid.0 ∷ []) (maps ∷ []) [] _ _ row c.in_ok-areas.ensures.does c.map.ensures.stops

pub returns-clause-answers : goal.returns-clause-answers
returns-clause-answers g c p k =
    let P = with_pid c.args.pid.0 p in
    let K = with_held (g.M.Machine.held c.args.machine.now) k in
    let maps = Maps c.args.pid.0 c.put_within.new.areas in
    let row : anywhere_row c.args.len c.args.perms P K ≡ Gives (AsksSpace c.args.pid.0 ∷ maps ∷ []) c.in-Some.at = search rules in
    let did = g.met.M.Machine.lawful.both _ _ _ (AsksSpace c.args.pid.0 ∷ []) (maps ∷ []) c.in_ok-areas.ensures.does c.in_ok-map.ensures.does in
    answered g.M.Machine.held g.M.Machine.does g.M.Machine.stops g.met.M.Machine.lawful _ _ (AsksSpace c.args.pid.0 ∷ maps ∷ []) _ k _ row did refl

pub returns-clause-stops : goal.returns-clause-stops
returns-clause-stops g c p k =
    let P = with_pid c.args.pid.0 p in
    let K = with_held (g.M.Machine.held c.args.machine.now) k in
    let maps = Maps c.args.pid.0 c.put_within.new.areas in
    let row : anywhere_row c.args.len c.args.perms P K ≡ Gives (AsksSpace c.args.pid.0 ∷ maps ∷ []) c.in-Some.at = search rules in
    let did = g.met.M.Machine.lawful.both _ _ _ (AsksSpace c.args.pid.0 ∷ []) (maps ∷ []) c.in_ok-areas.ensures.does c.in_ok-map.ensures.does in
    done g.M.Machine.held g.M.Machine.does g.M.Machine.stops g.met.M.Machine.lawful _ _ (AsksSpace c.args.pid.0 ∷ maps ∷ []) [] _ _ row did
