-- What booting comes to.
use Rattle.std.proofs.Common.{◌≡◌, ℕ, zero, suc, ◌+◌, ◌-◌, ◌%◌, true, false, refl, sym, ◌∙◌, ap, subst, List, [], ◌∷◌, ◌++◌, map, drop, length}
use Rattle.lego_base.specs.Space.{no_space}
use Rattle.lego_base.specs.declared.report.FileOut.{FileOut}
use Rattle.elf_image.specs.declared.image.Segment.{Segment}
use Rattle.elf_image.specs.Image.{Program}
use Rattle.space_rules.specs.Pages.{filled_pages, pages_met}
use Rattle.space_rules.specs.Start.{sp_of, stack_bytes}
use Rattle.linux_model.specs.State.{Kernel, Written, nothing, unbooted}
use Rattle.linux_model.specs.Effects.{Effect, Begins, Starts, applies}
use Rattle.linux_model.specs.Held.{Held, held_in, is_apart, held_after_all}
use Rattle.linux_model.specs.Managed.{Managed, managed_in, managed_after_all}
use Rattle.linux_model.specs.Loading.{start_of, loads_program, load_fills, page_fill, stack_fills, cut, break_of}
use Rattle.linux_model.specs.Boot.{boot_of, file_effects, standard_streams}
use Rattle.linux_model.proofs.Booting.{files_bare}
use Rattle.linux_model.proofs.Holding.{held_goes_alone}
use Rattle.linux_model.proofs.Managing.{others_stay}
use Rattle.call_machine.specs.Lent.{AllApart, kernel_of}
use Rattle.call_machine.specs.Tried.{bare}
use Rattle.plain_machine.specs.Plain.{held_of, Did}
use Rattle.plain_machine.specs.Shown.{Shown, blank, after_put, after_puts}
use Rattle.plain_machine.specs.Lawful.{lawful}
use Rattle.plain_machine.specs.declared.machine.PlainMachine.{PlainMachine}
use Rattle.plain_kernel.specs.declared.kernel.PlainKernel.{PlainKernel}
use Rattle.plain_kernel.specs.Standing.{kernel_in}
use Rattle.plain_kernel.specs.Turns.{Turned}
use Rattle.plain_kernel.specs.Written.{IsEmpty}
use Rattle.plain_kernel.proofs.Turning.{turned_both}
use Rattle.plain_kernel.proofs.Writing.{stands}

-- ---- effects that concern the machine alone, and put nothing out

abbrev Quiet : Effect → Type 0
Quiet e = (is_apart e ≡ false) × ((w : Written) → after_put e w ≡ w)

abbrev AllQuiet : List Effect → Type 0
AllQuiet [] = Unit {0}
AllQuiet (e ∷ es) = Quiet e × AllQuiet es

quiet-append : (es fs : List Effect) → AllQuiet es → AllQuiet fs → AllQuiet (es ++ fs)
quiet-append [] fs a b = b
quiet-append (e ∷ es) fs a b = (a.0, quiet-append es fs a.1 b)

unmanaged : (es : List Effect) (m : Managed) → AllQuiet es → managed_after_all es m ≡ m
unmanaged [] m quiet = refl
unmanaged (e ∷ es) m quiet = ap (managed_after_all es) (others_stay e m quiet.0.0) ∙ unmanaged es m quiet.1

silent : (es fs : List Effect) (w : Written) → AllQuiet es → after_puts (es ++ fs) w ≡ after_puts fs w
silent [] fs w quiet = refl
silent (e ∷ es) fs w quiet = ap (after_puts (es ++ fs)) (quiet.0.1 w) ∙ silent es fs w quiet.1

all_silent : (es : List Effect) (w : Written) → AllQuiet es → after_puts es w ≡ w
all_silent [] w quiet = refl
all_silent (e ∷ es) w quiet = ap (after_puts es) (quiet.0.1 w) ∙ all_silent es w quiet.1

files_quiet : (n : ℕ) (files : List FileOut) → AllQuiet (file_effects n files)
files_quiet n [] = tt
files_quiet n (f ∷ files) = ((refl, λ w. refl), ((refl, λ w. refl), files_quiet (n + 1) files))

fills_quiet : (pid : ℕ) (segments : List Segment) (pages : List ℕ) → AllQuiet (map (page_fill pid segments) pages)
fills_quiet pid segments [] = tt
fills_quiet pid segments (page ∷ pages) = ((refl, λ w. refl), fills_quiet pid segments pages)

cut_quiet : (pid pages address : ℕ) (bytes : List ℕ) → AllQuiet (cut pid pages address bytes)
cut_quiet pid zero address bytes = tt
cut_quiet pid (suc pages) address bytes = ((refl, λ w. refl), cut_quiet pid pages (address + (4096 - address % 4096)) (drop (4096 - address % 4096) bytes))

loads_quiet : (pid : ℕ) (program : Program) (args env : List (List ℕ)) → AllQuiet (loads_program pid program args env)
loads_quiet pid program args env = (
  (refl, λ w. refl),
  quiet-append (load_fills pid program.segments) (stack_fills pid args env program.entry) (fills_quiet pid program.segments (filled_pages program.segments))
      (cut_quiet pid (pages_met (sp_of args env) (length (stack_bytes args env program.entry))) (sp_of args env) (stack_bytes args env program.entry)),
)

-- effects that are the manager's alone
pub did_apart : (a : PlainMachine) (es : List Effect) → AllApart es → Did a a es
did_apart a [] all = lawful.none a
did_apart a (e ∷ es) all = lawful.both a a a (e ∷ []) es (lawful.apart a e all.0) (did_apart a es all.1)

-- ---- booting

-- no process has a space once files were made
pub none_has_space : (files : List FileOut) (start made : PlainMachine) (pid : ℕ) → held_of start ≡ bare → Did start made (file_effects 0 files) → (held_of made).space pid ≡ no_space
none_has_space files start made pid empty did =
    ap (λ (h : Held). h.space pid) (did.led ∙ ap (held_after_all (file_effects 0 files)) empty ∙ sym (held_goes_alone (file_effects 0 files) (unbooted [])))
    ∙ ap (λ (spaces : ℕ → _). spaces pid) (files_bare 0 files (unbooted []) (record { procs = refl; space = refl; descs = refl; last = refl })).space

module _ (program : Program) (args env : List (List ℕ)) (files : List FileOut) (input : List ℕ) (start made loaded : PlainMachine) (man : Managed) where
  abbrev fronts : List Effect
  fronts = (Begins 0 0 ∷ file_effects 0 files) ++ loads_program 1 program args env

  abbrev ends : List Effect
  ends = Starts 1 (start_of program args env) (break_of program) ∷ standard_streams

  abbrev first : PlainKernel
  first = record { manager = managed_in (unbooted input); machine = start }

  abbrev last : PlainKernel
  last = record { manager = man; machine = loaded }

  fronts_quiet : AllQuiet fronts
  fronts_quiet = quiet-append (Begins 0 0 ∷ file_effects 0 files) (loads_program 1 program args env) ((refl, λ w. refl), files_quiet 0 files) (loads_quiet 1 program args env)

  -- nothing was put out
  pub nothing_out : start.output ≡ blank → Did start made (file_effects 0 files) → Did made loaded (loads_program 1 program args env) → IsEmpty loaded.output
  nothing_out empty did_files did_loads kept =
      let es : List Effect = file_effects 0 files ++ loads_program 1 program args env in
      let did : Did start loaded es = lawful.both start made loaded (file_effects 0 files) (loads_program 1 program args env) did_files did_loads in
      let quiet : AllQuiet es = quiet-append (file_effects 0 files) (loads_program 1 program args env) (files_quiet 0 files) (loads_quiet 1 program args env) in
      (did.shows kept).1 ∙ ap (λ (o : Shown). after_puts es o.written) empty ∙ all_silent es nothing quiet

  pub booted : held_of start ≡ bare → Did start made (file_effects 0 files) → Did made loaded (loads_program 1 program args env) → man ≡ managed_after_all ends (managed_in (unbooted input)) → kernel_in last nothing ≡ boot_of program args env files input
  booted empty did_files did_loads manages =
      let mid : PlainKernel = record { manager = managed_in (unbooted input); machine = loaded } in
      let begun : Did start made (Begins 0 0 ∷ file_effects 0 files) = record { led = did_files.led; shows = did_files.shows } in
      let loads : Turned first mid fronts = record {
        did = lawful.both start made loaded (Begins 0 0 ∷ file_effects 0 files) (loads_program 1 program args env) begun did_loads;
        managed = unmanaged fronts (managed_in (unbooted input)) fronts_quiet;
      } in
      let starts : Turned mid last ends = record { did = did_apart loaded ends (refl, (refl, (refl, (refl, tt)))); managed = sym manages } in
      let whole : Turned first last (fronts ++ ends) = turned_both first mid last fronts ends loads starts in
      let written : after_puts (fronts ++ ends) nothing ≡ nothing = silent fronts ends nothing fronts_quiet in
      ap (λ (w : Written). kernel_in last w) (sym written)
      ∙ sym (stands first last (fronts ++ ends) nothing whole)
      ∙ ap (λ (h : Held). applies (fronts ++ ends) (kernel_of (managed_in (unbooted input)) h (record (unbooted []) { written = nothing }))) empty
