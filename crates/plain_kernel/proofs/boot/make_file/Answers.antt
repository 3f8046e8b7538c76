use Rattle.std.proofs.Common.{◌≡◌, true, None, ◌∙◌, ap}
use Rattle.lego_base.specs.Files.{is_file, named}
use Rattle.linux_model.specs.Effects.{MakesFile}
use Rattle.linux_model.specs.Held.{Held, held_after}
use Rattle.plain_machine.specs.Plain.{held_of}
use Rattle.sys_files.proofs.Naming.{new_file_there}
use Rattle.plain_kernel.proofs.Making.{number_is}
use Rattle.plain_kernel.proofs.boot.make_file.Goals as goal

pub write-requires-clause-there : goal.write-requires-clause-there
write-requires-clause-there c =
    let h : Held = held_of c.args.machine.now in
    let absent : named h.names c.as_slice.result.now ≡ None = ap (named h.names) c.as_slice.ensures ∙ c.requires.can.absent in
    let there : is_file (held_after (MakesFile c.as_slice.result.now) h).files c.args.number.0 ≡ true =
    new_file_there h c.as_slice.result.now c.args.number absent (number_is h c.args.number c.requires.next c.requires.can.room)
    in
    ap (λ (h : Held). is_file h.files c.args.number.0) c.in-Ok.ensures.does.led ∙ there
