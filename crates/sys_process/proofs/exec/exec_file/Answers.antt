use Rattle.std.proofs.Common.{◌≡◌, sym, ◌∙◌, ap, refl, subst}
use Rattle.lego_base.specs.Files.{file_bytes}
use Rattle.elf_image.specs.Image.{first_fault, program_of}
use Rattle.linux_model.specs.Held.{Held}
use Rattle.linux_model.specs.ProcessCalls.{executes}
use Rattle.call_machine.specs.Lent.{kernel_of, FitTogether}
use Rattle.call_machine.proofs.Rows.{ends_after, held_asked, stops_after_asking, stops_each, stops_in}
use Rattle.sys_process.specs.Exec.{file_reads, file_row}
use Rattle.sys_process.proofs.Executing.{program_row, reads_still}
use Rattle.sys_process.proofs.exec.exec_file.Goals as goal

pub returns-in_err-bytes-clause-stops : goal.returns-in_err-bytes-clause-stops
returns-in_err-bytes-clause-stops g c k =
    stops_each g.M.Machine.held g.M.Machine.does g.M.Machine.stops g.met.M.Machine.lawful c.args.machine.now c.read_file.new.machine c.args.manager.now c.args.pid.0 (file_row c.args.args.now c.args.env.now c.args.file.0) k
    (λ p is. stops_in g.M.Machine.held g.M.Machine.does g.M.Machine.stops g.met.M.Machine.lawful _ _ (file_reads c.args.file.0 (g.M.Machine.held c.args.machine.now)) (file_row c.args.args.now c.args.env.now c.args.file.0 p (kernel_of c.args.manager.now (g.M.Machine.held c.args.machine.now) k)) _ refl c.read_file.ensures.stops)

pub exec_image-requires-clause-fit : goal.exec_image-requires-clause-fit
exec_image-requires-clause-fit g c =
    subst (λ (h : Held). FitTogether c.args.manager.now h) (sym (held_asked g.M.Machine.held g.M.Machine.does g.M.Machine.stops g.met.M.Machine.lawful c.args.machine.now c.read_file.new.machine (file_reads c.args.file.0 (g.M.Machine.held c.args.machine.now)) (reads_still c.args.file.0 (g.M.Machine.held c.args.machine.now)) c.in_ok-bytes.ensures.does)) c.requires.fit

pub returns-in-Ok-clause-ends : goal.returns-in-Ok-clause-ends
returns-in-Ok-clause-ends g c k =
    let bytes : c.as_slice.result.now ≡ file_bytes (g.M.Machine.held c.args.machine.now).files c.args.file.0 = c.as_slice.ensures ∙ c.in_ok-bytes.ensures.bytes in
    let fair = ap first_fault (sym bytes) ∙ c.in-Ok.ensures.image.0 in
    let image = c.in-Ok.ensures.image.1 ∙ ap program_of bytes in
    ends_after g.M.Machine.held g.M.Machine.does g.M.Machine.stops g.met.M.Machine.lawful c.args.machine.now c.read_file.new.machine c.exec_image.new.machine c.args.manager.now c.exec_image.new.manager c.args.pid.0 (file_reads c.args.file.0 (g.M.Machine.held c.args.machine.now)) (file_row c.args.args.now c.args.env.now c.args.file.0) (λ p k. executes p k c.in-Ok.image c.args.args.now c.args.env.now) c.exec_image.result k (reads_still c.args.file.0 (g.M.Machine.held c.args.machine.now)) c.in_ok-bytes.ensures.does
    (λ p is. program_row p (kernel_of c.args.manager.now (g.M.Machine.held c.args.machine.now) k) c.args.args.now c.args.env.now c.args.file.0 c.in-Ok.image fair image) (c.exec_image.ensures.ends k)

pub returns-in-Ok-clause-stops : goal.returns-in-Ok-clause-stops
returns-in-Ok-clause-stops g c k =
    let bytes : c.as_slice.result.now ≡ file_bytes (g.M.Machine.held c.args.machine.now).files c.args.file.0 = c.as_slice.ensures ∙ c.in_ok-bytes.ensures.bytes in
    let fair = ap first_fault (sym bytes) ∙ c.in-Ok.ensures.image.0 in
    let image = c.in-Ok.ensures.image.1 ∙ ap program_of bytes in
    stops_after_asking g.M.Machine.held g.M.Machine.does g.M.Machine.stops g.met.M.Machine.lawful c.args.machine.now c.read_file.new.machine c.exec_image.new.machine c.args.manager.now c.args.pid.0 (file_reads c.args.file.0 (g.M.Machine.held c.args.machine.now)) (file_row c.args.args.now c.args.env.now c.args.file.0) (λ p k. executes p k c.in-Ok.image c.args.args.now c.args.env.now) k (reads_still c.args.file.0 (g.M.Machine.held c.args.machine.now)) c.in_ok-bytes.ensures.does
    (λ p is. program_row p (kernel_of c.args.manager.now (g.M.Machine.held c.args.machine.now) k) c.args.args.now c.args.env.now c.args.file.0 c.in-Ok.image fair image) (c.exec_image.ensures.stops k)

pub returns-in-Err-NoMemory-clause-stops : goal.returns-in-Err-NoMemory-clause-stops
returns-in-Err-NoMemory-clause-stops g c k =
    stops_each g.M.Machine.held g.M.Machine.does g.M.Machine.stops g.met.M.Machine.lawful c.args.machine.now c.read_file.new.machine c.args.manager.now c.args.pid.0 (file_row c.args.args.now c.args.env.now c.args.file.0) k
    (λ p is. stops_in g.M.Machine.held g.M.Machine.does g.M.Machine.stops g.met.M.Machine.lawful _ _ (file_reads c.args.file.0 (g.M.Machine.held c.args.machine.now)) (file_row c.args.args.now c.args.env.now c.args.file.0 p (kernel_of c.args.manager.now (g.M.Machine.held c.args.machine.now) k)) _ refl c.read_file.ensures.stops)
