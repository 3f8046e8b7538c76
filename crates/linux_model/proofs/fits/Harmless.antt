-- Effects that ask nothing of the kernel: accesses, questions, and changes of spaces and registers.
use Rattle.std.proofs.Common.{◌≡◌, ℕ, zero, suc, ◌+◌, ◌-◌, ◌%◌, Bool, true, false, cond, eqb, refl, List, [], ◌∷◌, ◌++◌, map, length, drop, Option, Some, None}
use Rattle.lego_base.specs.Space.{Space, permits, bytes_at, number_of}
use Rattle.elf_image.specs.declared.image.Segment.{Segment}
use Rattle.elf_image.specs.Image.{Program}
use Rattle.rv64_decode.specs.declared.Instr.{Instr}
use Rattle.rv64_decode.specs.Table.{decoded}
use Rattle.rv64_step.specs.declared.cpu.Cpu.{Cpu}
use Rattle.rv64_step.specs.declared.cpu.StepEnd.{StepEnd}
use Rattle.rv64_step.specs.declared.cpu.StepEnd.TheVariants.{Next, Call, Dead}
use Rattle.rv64_step.specs.Meaning.{Asks, Ends, Loads, Stores, asks}
use Rattle.space_rules.specs.Pages.{filled_pages, pages_met}
use Rattle.space_rules.specs.Start.{sp_of, stack_bytes}
use Rattle.kernel_objects.specs.declared.piece.Piece.{Piece}
use Rattle.linux_model.specs.Limits.{E2BIG}
use Rattle.linux_model.specs.State.{Kernel, Process}
use Rattle.linux_model.specs.Processes.{at_pid, is_live}
use Rattle.linux_model.specs.Effects.{Effect, Reads, Writes, Refused, FreesFile, Opens, Shares, Goes, Starts, Forks, Dies, apply, applies}
use Rattle.linux_model.specs.Instructions.{Ran, asked, obeyed, one, many, goes_on}
use Rattle.linux_model.specs.Buffers.{asks_pieces, copies_in, copies_out, to_read}
use Rattle.linux_model.specs.Paths.{Text, TextEnd, AtZero, Denied, Long, text_on, text_at}
use Rattle.linux_model.specs.ProcessCalls.{Strings, no_strings, string_on, with_string, address_on, strings_at, list_at}
use Rattle.linux_model.specs.Loading.{page_fill, load_fills, cut, stack_fills, loads_program}
use Rattle.linux_model.specs.Fits.{Allowed, AllAllowed, LivesAt}
use Rattle.linux_model.proofs.fits.Found.{allowed-append}

abbrev pub Harmless : List Effect → Type 0
Harmless es = (k : Kernel) → AllAllowed es k

pub none_harmless : Harmless []
none_harmless k = tt

pub harmless-append : (es fs : List Effect) → Harmless es → Harmless fs → Harmless (es ++ fs)
harmless-append es fs a b k = allowed-append es fs k (a k) (b (applies es k))

choice : (b : Bool) (es fs : List Effect) → Harmless es → Harmless fs → Harmless (cond b es fs)
choice true es fs a b = a
choice false es fs a b = b

-- ---- buffers, paths, strings

pub checks : (pid : ℕ) (space : Space) (need : ℕ) (pieces : List Piece) → Harmless (asks_pieces pid space need pieces)
checks pid space need [] k = tt
checks pid space need (x ∷ pieces) k = (tt, choice (permits space need x.at x.size) (asks_pieces pid space need pieces) [] (checks pid space need pieces) none_harmless k)

pub copies : (pid : ℕ) (space : Space) (pieces : List Piece) → Harmless (copies_in pid space pieces)
copies pid space [] k = tt
copies pid space (x ∷ pieces) k = (tt, copies pid space pieces k)

pub out_copies : (pid : ℕ) (pieces : List Piece) (bytes : List ℕ) → Harmless (copies_out pid pieces bytes)
out_copies pid [] bytes k = tt
out_copies pid (x ∷ pieces) bytes k = (tt, out_copies pid pieces (drop x.size bytes) _)

text_by : (may is_end : Bool) (pid address byte : ℕ) (more : ℕ → Text) → Harmless (more (address + 1)).reads → Harmless (text_on may is_end pid address byte more).reads
text_by false is_end pid address byte more h k = (tt, tt)
text_by true true pid address byte more h k = (tt, tt)
text_by true false pid address byte more h k = (tt, h k)

pub text : (pid : ℕ) (space : Space) (most address : ℕ) → Harmless (text_at pid space most address).reads
text pid space zero address = none_harmless
text pid space (suc most) address = text_by (permits space to_read address 1) (eqb (space.byte address) 0) pid address (space.byte address) (λ next. text_at pid space most next) (text pid space most (address + 1))

string_by : (end : TextEnd) (t : Text) (left room : ℕ) (more : ℕ → Strings) → Harmless t.reads → ((n : ℕ) → Harmless (more n).reads) → Harmless (string_on end t left room more).reads
string_by AtZero t left room more h m = harmless-append t.reads (more (room - (length t.bytes + 1))).reads h (m (room - (length t.bytes + 1)))
string_by Denied t left room more h m = h
string_by Long t left room more h m = h

address_by : (may is_end : Bool) (pid : ℕ) (space : Space) (address left room : ℕ) (more : ℕ → Strings) → ((n : ℕ) → Harmless (more n).reads) → Harmless (address_on may is_end pid space address left room more).reads
address_by false is_end pid space address left room more h k = (tt, tt)
address_by true true pid space address left room more h k = (tt, tt)
address_by true false pid space address left room more h k = (tt, h (number_of (bytes_at space address 8)) k)

strings : (pid : ℕ) (space : Space) (left address room : ℕ) → Harmless (strings_at pid space left address room).reads
strings pid space zero address room =
    address_by (permits space to_read address 8) (eqb (number_of (bytes_at space address 8)) 0) pid space address 0 room (λ string. no_strings [] 0 room (Some E2BIG)) (λ n. none_harmless)
strings pid space (suc left) address room =
    address_by (permits space to_read address 8) (eqb (number_of (bytes_at space address 8)) 0) pid space address (suc left) room
    (λ string. with_string (text_at pid space room string) left room (λ room'. strings_at pid space left (address + 8) room'))
    (λ string. string_by (text_at pid space room string).end (text_at pid space room string) left room (λ room'. strings_at pid space left (address + 8) room') (text pid space room string) (λ room'. strings pid space left (address + 8) room'))

strings_choice : (b : Bool) (s t : Strings) → Harmless s.reads → Harmless t.reads → Harmless (cond b s t).reads
strings_choice true s t h m = h
strings_choice false s t h m = m

pub list : (pid : ℕ) (space : Space) (left address room : ℕ) → Harmless (list_at pid space left address room).reads
list pid space left address room = strings_choice (eqb address 0) (no_strings [] left room None) (strings_at pid space left address room) none_harmless (strings pid space left address room)

-- ---- loading

fills : (pid : ℕ) (segments : List Segment) (pages : List ℕ) → Harmless (map (page_fill pid segments) pages)
fills pid segments [] k = tt
fills pid segments (page ∷ pages) k = (tt, fills pid segments pages _)

stack : (pid pages address : ℕ) (bytes : List ℕ) → Harmless (cut pid pages address bytes)
stack pid zero address bytes k = tt
stack pid (suc pages) address bytes k = (tt, stack pid pages (address + (4096 - address % 4096)) (drop (4096 - address % 4096) bytes) _)

pub loads : (pid : ℕ) (program : Program) (args env : List (List ℕ)) → Harmless (loads_program pid program args env)
loads pid program args env k = (
  tt,
  harmless-append (load_fills pid program.segments) (stack_fills pid args env program.entry) (fills pid program.segments (filled_pages program.segments))
      (stack pid (pages_met (sp_of args env) (length (stack_bytes args env program.entry))) (sp_of args env) (stack_bytes args env program.entry)) _,
)

-- ---- instructions: accesses, and the registers after each

abbrev is_step : Effect → Bool
is_step (Reads kind pid address bytes) = true
is_step (Writes kind pid address bytes) = true
is_step (Refused kind pid address n) = true
is_step (Goes pid cpu) = true
is_step other = false

abbrev pub Steps : List Effect → Type 0
Steps [] = Unit {0}
Steps (e ∷ es) = (is_step e ≡ true) × Steps es

steps-append : (es fs : List Effect) → Steps es → Steps fs → Steps (es ++ fs)
steps-append [] fs s t = t
steps-append (e ∷ es) fs s t = (s.0, steps-append es fs s.1 t)

step_harmless : (e : Effect) (k : Kernel) → is_step e ≡ true → Allowed e k
step_harmless (Reads kind pid address bytes) k is = tt
step_harmless (Writes kind pid address bytes) k is = tt
step_harmless (Refused kind pid address n) k is = tt
step_harmless (Goes pid cpu) k is = tt
step_harmless (Opens pid fd object flags cloexec) k is = cc is
step_harmless (Shares pid fd desc cloexec) k is = cc is
step_harmless (FreesFile file) k is = cc is
step_harmless (Starts pid cpu brk) k is = cc is
step_harmless (Forks parent child cpu) k is = cc is
step_harmless (Dies pid status) k is = cc is
step_harmless e k is = tt

pub steps_harmless : (es : List Effect) → Steps es → Harmless es
steps_harmless [] s k = tt
steps_harmless (e ∷ es) s k = (step_harmless e k s.0, steps_harmless es s.1 (apply e k))

-- who lives goes on to live
went_on : (b : Bool) (pid : ℕ) (cpu : Cpu) (p : Process) → (eqb p.pid pid ≡ true → is_live p.state ≡ true) → eqb (cond b (record p { cpu = cpu }) p).pid pid ≡ true → is_live (cond b (record p { cpu = cpu }) p).state ≡ true
went_on true pid cpu p lives is = lives is
went_on false pid cpu p lives is = lives is

goes_on_living : (pid q : ℕ) (cpu : Cpu) (procs : List Process) → LivesAt pid procs → LivesAt pid (at_pid q (λ p. record p { cpu = cpu }) procs)
goes_on_living pid q cpu [] l = tt
goes_on_living pid q cpu (p ∷ procs) l = (went_on (eqb p.pid q) pid cpu p l.0, goes_on_living pid q cpu procs l.1)

step_lives : (e : Effect) (pid : ℕ) (k : Kernel) → is_step e ≡ true → LivesAt pid k.procs → LivesAt pid (apply e k).procs
step_lives (Reads kind q address bytes) pid k is l = l
step_lives (Writes kind q address bytes) pid k is l = l
step_lives (Refused kind q address n) pid k is l = l
step_lives (Goes q cpu) pid k is l = goes_on_living pid q cpu k.procs l
step_lives e pid k is l = cc is

pub steps_live : (es : List Effect) (pid : ℕ) (k : Kernel) → Steps es → LivesAt pid k.procs → LivesAt pid (applies es k).procs
steps_live [] pid k s l = l
steps_live (e ∷ es) pid k s l = steps_live es pid (apply e k) s.1 (step_lives e pid k s.0 l)

ran_choice : (b : Bool) (r s : Ran) → Steps r.effects → Steps s.effects → Steps (cond b r s).effects
ran_choice true r s h m = h
ran_choice false r s h m = m

asked_by : (pid : ℕ) (cpu : Cpu) (space : Space) (want : Asks) → Steps (asked pid cpu space want).effects
asked_by pid cpu space (Ends stop after) = (refl, tt)
asked_by pid cpu space (Loads address n after) = ran_choice (permits space 1 address n) _ _ (refl, (refl, tt)) (refl, tt)
asked_by pid cpu space (Stores address n value after) = ran_choice (permits space 2 address n) _ _ (refl, (refl, tt)) (refl, tt)

obeyed_by : (pid : ℕ) (cpu : Cpu) (space : Space) (i : Option Instr) → Steps (obeyed pid cpu space i).effects
obeyed_by pid cpu space None = tt
obeyed_by pid cpu space (Some i) = asked_by pid cpu space (asks i cpu i.op)

one_by : (pid : ℕ) (cpu : Cpu) (space : Space) → Steps (one pid cpu space).effects
one_by pid cpu space =
    ran_choice (permits space 4 cpu.pc 4) _ _
    (refl, obeyed_by pid cpu space (decoded (number_of (bytes_at space cpu.pc 4))))
    (refl, tt)

goes_by : (stop : StepEnd) (r rest : Ran) → Steps r.effects → Steps rest.effects → Steps (goes_on stop r rest).effects
goes_by Next r rest h m = steps-append r.effects rest.effects h m
goes_by Call r rest h m = h
goes_by (Dead signal) r rest h m = h

pub instructions : (n pid : ℕ) (cpu : Cpu) (space : Space) → Steps (many n pid cpu space).effects
instructions zero pid cpu space = tt
instructions (suc n) pid cpu space =
    goes_by (one pid cpu space).stop (one pid cpu space) (many n pid (one pid cpu space).cpu (one pid cpu space).space)
    (one_by pid cpu space) (instructions n pid (one pid cpu space).cpu (one pid cpu space).space)
