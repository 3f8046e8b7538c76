-- execve, from the path to the program.
use Rattle.std.proofs.Common.{◌≡◌, ℕ, zero, suc, ◌+◌, ◌-◌, ◌%◌, true, false, cond, refl, sym, ◌∙◌, ap, subst, List, [], ◌∷◌, ◌++◌, map, drop, length, Option, Some, None, is_some, Ok, Err}
use Rattle.lego_base.specs.declared.ids.FileNo.{FileNo}
use Rattle.lego_base.specs.Files.{file_bytes, is_file}
use Rattle.rv64_step.specs.declared.cpu.Cpu.{Cpu}
use Rattle.elf_image.specs.declared.image.Segment.{Segment}
use Rattle.elf_image.specs.Image.{Program, first_fault, program_of}
use Rattle.space_rules.specs.Start.{sp_of, stack_bytes}
use Rattle.space_rules.specs.Pages.{filled_pages, pages_met}
use Rattle.linux_model.specs.Limits.{ENOEXEC}
use Rattle.linux_model.specs.State.{Kernel, Process}
use Rattle.linux_model.specs.Processes.{fds_of, process}
use Rattle.linux_model.specs.Effects.{Effect, AsksSize, ReadsFile, Breaks, Drops}
use Rattle.linux_model.specs.Called.{Called, Becomes, following, says}
use Rattle.linux_model.specs.Descriptors.{closings}
use Rattle.linux_model.specs.Fits.{NamesFit}
use Rattle.linux_model.specs.Held.{Held, with_held}
use Rattle.linux_model.specs.Laws.{Still}
use Rattle.linux_model.specs.Loading.{start_of, cut, load_fills, loads_program, page_fill, stack_fills}
use Rattle.linux_model.specs.Managed.{Managed, managed_after, managed_after_all}
use Rattle.linux_model.specs.Paths.{Found}
use Rattle.linux_model.specs.ProcessCalls.{Strings, executes, executes_found, if_no_fault, list_at, with_strings}
use Rattle.linux_model.proofs.Managing.{managed-append}
use Rattle.linux_model.proofs.fits.Files.{named_fits}
use Rattle.call_machine.specs.declared.end.CallEnd.TheVariants.{Goes}
use Rattle.call_machine.specs.Lawful.{Lawful}
use Rattle.call_machine.specs.Laws.{effects_of}
use Rattle.call_machine.specs.Lent.{Ran, ended, kernel_of}
use Rattle.sys_paths.specs.declared.walk.Found.{Found as Place}
use Rattle.sys_paths.specs.declared.walk.Found.TheVariants.{Named as ToName}
use Rattle.sys_paths.specs.Reached.{IsNamed}
use Rattle.sys_process.specs.Exec.{env_row, file_reads, file_row, lists_row}
use Rattle.sys_process.specs.Strings.{told, told_by}
use Rattle.sys_process.specs.Words.{closings_of}
use Rattle.sys_process.specs.declared.strings.StringList.{StringList}

-- ---- loading is nothing to the manager

fills_manage : (pid : ℕ) (segments : List Segment) (pages : List ℕ) (m : Managed) → managed_after_all (map (page_fill pid segments) pages) m ≡ m
fills_manage pid segments [] m = refl
fills_manage pid segments (page ∷ pages) m = fills_manage pid segments pages m

cut_manages : (pid pages address : ℕ) (bytes : List ℕ) (m : Managed) → managed_after_all (cut pid pages address bytes) m ≡ m
cut_manages pid zero address bytes m = refl
cut_manages pid (suc pages) address bytes m = cut_manages pid pages (address + (4096 - address % 4096)) (drop (4096 - address % 4096) bytes) m

loads_manage : (pid : ℕ) (program : Program) (args env : List (List ℕ)) (m : Managed) → managed_after_all (loads_program pid program args env) m ≡ m
loads_manage pid program args env m =
    managed-append (load_fills pid program.segments) (stack_fills pid args env program.entry) m
    ∙ ap (managed_after_all (stack_fills pid args env program.entry)) (fills_manage pid program.segments (filled_pages program.segments) m)
    ∙ cut_manages pid (pages_met (sp_of args env) (length (stack_bytes args env program.entry))) (sp_of args env) (stack_bytes args env program.entry) m

-- ---- a program

module _ {X : Type 0} (held : X → Held) (does stops : X → X → List Effect → Type 0) (laws : Lawful held does stops) (pid : ℕ) (p : Process) (is : p.pid ≡ pid) (man : Managed) (there : process man.procs pid ≡ Some p) (k : Kernel) (program : Program) (args env : List (List ℕ)) (a : X) where
  abbrev row : Called
  row = executes p (kernel_of man (held a) k) program args env

  abbrev closes : List Effect
  closes = closings_of false pid man (with_held (held a) k)

  abbrev loads : List Effect
  loads = loads_program pid program args env

  abbrev breaks : List Effect
  breaks = Breaks pid program.brk program.brk ∷ []

  row_is : row ≡ Becomes ((closes ++ (Drops pid ∷ loads)) ++ breaks) (start_of program args env)
  row_is = λ i. Becomes ((closings (λ e. e.cloexec) (is i) 0 (fds_of (sym there i)) (kernel_of man (held a) k) ++ (Drops (is i) ∷ loads_program (is i) program args env)) ++ (Breaks (is i) program.brk program.brk ∷ [])) (start_of program args env)

  by_row : (b : X) → stops a b (closes ++ (Drops pid ∷ loads)) → stops a b (effects_of row)
  by_row b s = subst (stops a b) (sym (ap effects_of row_is)) (laws.stops_front a b (closes ++ (Drops pid ∷ loads)) breaks s)

  pub close_stops : (b : X) → stops a b closes → stops a b (effects_of row)
  close_stops b s = by_row b (laws.stops_front a b closes (Drops pid ∷ loads) s)

  module _ (b : X) (closed_ : does a b closes) where
    pub drop_stops : (c : X) → stops b c (Drops pid ∷ []) → stops a c (effects_of row)
    drop_stops c s = by_row c (laws.stops_then a b c closes (Drops pid ∷ loads) closed_ (laws.stops_front b c (Drops pid ∷ []) loads s))

    module _ (c : X) (dropped : does b c (Drops pid ∷ [])) where
      pub load_stops : (d : X) → stops c d loads → stops a d (effects_of row)
      load_stops d s = by_row d (laws.stops_then a b d closes (Drops pid ∷ loads) closed_ (laws.stops_then b c d (Drops pid ∷ []) loads dropped s))

      pub executes_ends : (d : X) (man' man'' : Managed) (base now : ℕ) (cpu : Cpu) → does c d loads → managed_after_all closes man ≡ man' → man'' ≡ managed_after (Breaks pid base now) man' → base ≡ program.brk → now ≡ program.brk → cpu ≡ start_of program args env → Ran does a d man man'' row (ended (Goes cpu))
      executes_ends d man' man'' base now cpu loaded m e low high start = record {
        effects = (closes ++ (Drops pid ∷ loads)) ++ breaks;
        row_is = row_is ∙ ap (λ (x : Cpu). Becomes ((closes ++ (Drops pid ∷ loads)) ++ breaks) x) (sym start);
        did = laws.both a d d (closes ++ (Drops pid ∷ loads)) breaks (laws.both a b d closes (Drops pid ∷ loads) closed_ (laws.both b c d (Drops pid ∷ []) loads dropped loaded)) (laws.apart d (Breaks pid program.brk program.brk) refl);
        managed =
            managed-append (closes ++ (Drops pid ∷ loads)) breaks man
            ∙ ap (managed_after_all breaks) (managed-append closes (Drops pid ∷ loads) man ∙ ap (managed_after_all (Drops pid ∷ loads)) m ∙ loads_manage pid program args env man')
            ∙ sym (e ∙ λ i. managed_after (Breaks pid (low i) (high i)) man');
      }

-- ---- a file

pub reads_still : (file : ℕ) (h : Held) → Still (file_reads file h)
reads_still file h k = refl

module _ {X : Type 0} (held : X → Held) (does stops : X → X → List Effect → Type 0) (laws : Lawful held does stops) (file size : ℕ) (a b : X) (is : size ≡ length (file_bytes (held a).files file)) where
  pub size_stops : stops a b (AsksSize file ∷ []) → stops a b (file_reads file (held a))
  size_stops s = laws.stops_front a b (AsksSize file ∷ []) (ReadsFile file 0 (length (file_bytes (held a).files file)) ∷ []) s

  module _ (sized : does a b (AsksSize file ∷ [])) (c : X) where
    pub file_did : does b c (ReadsFile file 0 size ∷ []) → does a c (file_reads file (held a))
    file_did d = laws.both a b c (AsksSize file ∷ []) (ReadsFile file 0 (length (file_bytes (held a).files file)) ∷ []) sized (subst (λ (n : ℕ). does b c (ReadsFile file 0 n ∷ [])) is d)

    pub file_stops : stops b c (ReadsFile file 0 size ∷ []) → stops a c (file_reads file (held a))
    file_stops s = laws.stops_then a b c (AsksSize file ∷ []) (ReadsFile file 0 (length (file_bytes (held a).files file)) ∷ []) sized (subst (λ (n : ℕ). stops b c (ReadsFile file 0 n ∷ [])) is s)

-- a file that is a program
pub program_row : (p : Process) (k : Kernel) (args env : List (List ℕ)) (file : ℕ) (image : Program) → first_fault (file_bytes k.files file) ≡ None → image ≡ program_of (file_bytes k.files file) → file_row args env file p k ≡ following (AsksSize file ∷ ReadsFile file 0 (length (file_bytes k.files file)) ∷ []) (executes p k image args env)
program_row p k args env file image fair e =
    let whole : List Effect = AsksSize file ∷ ReadsFile file 0 (length (file_bytes k.files file)) ∷ [] in
    ap (λ (o : Option _). following whole (cond (is_some o) (says ENOEXEC) (executes p k (program_of (file_bytes k.files file)) args env))) fair
    ∙ ap (λ (program : Program). following whole (executes p k program args env)) (sym e)

-- a name's file is there
pub name_there : (h : Held) (found : Place) (name : List ℕ) (file : FileNo) → found ≡ ToName name (Some file) → IsNamed h.names found → NamesFit h.files h.names → is_file h.files file.0 ≡ true
name_there h found name file is named_ fit = named_fits h.files h.names name file fit (sym (subst (IsNamed h.names) is named_))

-- ---- the lists

fault_in : (fault : Option ℕ) (s : Strings) (errno : ℕ) → Err errno ≡ told_by fault s → fault ≡ Some errno
fault_in None s errno e = cc e
fault_in (Some other) s errno e =
    let same : errno ≡ other = cc e in
    ap Some (sym same)

record Parts (fault : Option ℕ) (s : Strings) (list : StringList) : Type 0 where
  pub none : fault ≡ None
  pub list_is : record { strings = s.strings; left = s.left; room = s.room } ≡ list

list_in : (fault : Option ℕ) (s : Strings) (list : StringList) → Ok list ≡ told_by fault s → Parts fault s list
list_in None s list e =
    let same : list ≡ record { strings = s.strings; left = s.left; room = s.room } = cc e in
    record { none = refl; list_is = sym same }
list_in (Some errno) s list e = cc e

-- a list with a fault, and one without
pub fault_row : (s : Strings) (f : Strings → Called) (errno : ℕ) → Err errno ≡ told s → with_strings s f ≡ following s.reads (says errno)
fault_row s f errno e = ap (λ (o : Option ℕ). following s.reads (if_no_fault o (f s))) (fault_in s.fault s errno e)

pub list_row : (s : Strings) (f : StringList → Called) (list : StringList) → Ok list ≡ told s → with_strings s (λ t. f (record { strings = t.strings; left = t.left; room = t.room })) ≡ following s.reads (f list)
list_row s f list e =
    let parts = list_in s.fault s list e in
    λ i. following s.reads (if_no_fault (parts.none i) (f (parts.list_is i)))

-- the list of a process by its pid
abbrev pub args_row : ℕ → ℕ → Found → ℕ → Process → Kernel → Called
args_row args env found q p k = with_strings (list_at q (k.space q) 512 args 65536) (λ a. env_row (record { strings = a.strings; left = a.left; room = a.room }) env found p k)

pub lists_by_pid : (args env : ℕ) (found : Found) (pid : ℕ) (p : Process) (k : Kernel) → p.pid ≡ pid → lists_row args env found p k ≡ args_row args env found pid p k
lists_by_pid args env found pid p k is = ap (λ (q : ℕ). args_row args env found q p k) is

abbrev pub rest_row : StringList → ℕ → Found → ℕ → Process → Kernel → Called
rest_row args env found q p k = with_strings (list_at q (k.space q) args.left env args.room) (λ e. executes_found p k args.strings e.strings found)

pub env_by_pid : (args : StringList) (env : ℕ) (found : Found) (pid : ℕ) (p : Process) (k : Kernel) → p.pid ≡ pid → env_row args env found p k ≡ rest_row args env found pid p k
env_by_pid args env found pid p k is = ap (λ (q : ℕ). rest_row args env found q p k) is
