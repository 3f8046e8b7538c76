-- The jobs of a generated program: how they are drawn, and the instructions and calls of each.
use Rattle.std.specs.Prelude.{ℕ, zero, suc, ◌+◌, ◌*◌, ◌==◌, nat_lt, if◌then◌else◌, List, [], ◌∷◌, ◌++◌, flat_map}
use Rattle.guest_gen.specs.declared.assembly.Register.TheVariants.{T0, T1, S0, S1, A0, A1, A2, A3, A4, A5}
use Rattle.guest_gen.specs.declared.assembly.Step.{Step}
use Rattle.guest_gen.specs.declared.assembly.Step.TheVariants.{Li, Minus, Move, Add, StoreByte, LoadWord, Call}
use Rattle.guest_gen.specs.declared.job.Job.{Job}
use Rattle.guest_gen.specs.declared.job.Job.TheVariants.{Touch, Save, Fork, Pipe}
use Rattle.guest_gen.specs.Draws.{next, drawn, after}
use Rattle.guest_gen.specs.Assembly.{forks}

-- ---- drawing

-- a kind, of four, and what that kind needs, in order
abbrev pub job_of : ℕ → ℕ → Job
job_of kind state =
    if kind == 0 then Touch (1 + drawn 8 state) (drawn 256 (next state)) else (
    if kind == 1 then Save (drawn 10 state) (1 + drawn 2048 (next state)) else (
    if kind == 2 then Fork (drawn 256 state) else
    Pipe (1 + drawn 2048 state)))

-- the draws of a kind beside that of the kind itself
abbrev pub draws_of : ℕ → ℕ
draws_of kind = if nat_lt kind 2 then 2 else 1

abbrev pub drawn_job : ℕ → Job
drawn_job state = job_of (drawn 4 state) (next state)

abbrev pub after_job : ℕ → ℕ
after_job state = after (draws_of (drawn 4 state)) (next state)

abbrev pub drawn_jobs : ℕ → ℕ → List Job
drawn_jobs zero state = []
drawn_jobs (suc n) state = drawn_job state ∷ drawn_jobs n (after_job state)

abbrev pub after_jobs : ℕ → ℕ → ℕ
after_jobs zero state = state
after_jobs (suc n) state = after_jobs n (after_job state)

-- ---- where the data is

-- the names `f0` to `f9`, of three bytes each with the zero that ends one; two words for a pipe's descriptors; the pattern;
-- the text "gen" with a line's end; and a buffer of 1024 bytes
abbrev pub names_at : ℕ
names_at = 0x40000

abbrev pub pipe_at : ℕ
pipe_at = 0x40040

abbrev pub pattern_at : ℕ
pattern_at = 0x40100

abbrev pub greeting_at : ℕ
greeting_at = 0x40900

abbrev pub buffer_at : ℕ
buffer_at = 0x40A00

-- ---- what a job runs: the numbers of calls are Linux's for RISC-V

-- the byte is written to the pages from the i-th on, whose first address is in a0
abbrev pub touches : ℕ → ℕ → ℕ → List Step
touches i zero value = []
touches i (suc pages) value = Li T0 (4096 * i) ∷ Add T0 T0 A0 ∷ Li T1 value ∷ StoreByte T1 T0 ∷ touches (i + 1) pages value

-- wait4(-1, 0, 0, 0)
abbrev pub waits : List Step
waits = Minus A0 1 ∷ Li A1 0 ∷ Li A2 0 ∷ Li A3 0 ∷ Call 260 ∷ []

abbrev pub exits : ℕ → List Step
exits status = Li A0 status ∷ Call 93 ∷ []

-- what the child of a pipe's job runs: it writes to the pipe
abbrev pub feeds : ℕ → List Step
feeds len = Li S1 pipe_at ∷ LoadWord A0 S1 4 ∷ Li A1 pattern_at ∷ Li A2 len ∷ Call 64 ∷ exits 0

-- and its parent: it reads from the pipe, writes to standard output, waits, and closes both ends
abbrev pub drains : List Step
drains =
    Li S1 pipe_at ∷ LoadWord A0 S1 0 ∷ Li A1 buffer_at ∷ Li A2 1024 ∷ Call 63
    ∷ Move A2 A0 ∷ Li A0 1 ∷ Li A1 buffer_at ∷ Call 64
    ∷ (waits ++ LoadWord A0 S1 0 ∷ Call 57 ∷ LoadWord A0 S1 4 ∷ Call 57 ∷ [])

abbrev pub steps_of : Job → List Step
-- mmap(0, 4096 * pages, PROT_READ | PROT_WRITE, MAP_PRIVATE | MAP_ANONYMOUS, 0, 0)
steps_of (Touch pages value) =
    Li A0 0 ∷ Li A1 (4096 * pages) ∷ Li A2 3 ∷ Li A3 34 ∷ Li A4 0 ∷ Li A5 0 ∷ Call 222 ∷ touches 0 pages value
-- openat(AT_FDCWD, name, O_WRONLY | O_CREAT | O_TRUNC, 0), write(fd, pattern, len), close(fd)
steps_of (Save file len) =
    Minus A0 100 ∷ Li A1 (names_at + 3 * file) ∷ Li A2 577 ∷ Li A3 0 ∷ Call 56
    ∷ Move S0 A0 ∷ Li A1 pattern_at ∷ Li A2 len ∷ Call 64 ∷ Move A0 S0 ∷ Call 57 ∷ []
steps_of (Fork status) = forks (exits status) waits
-- pipe2(descriptors, 0)
steps_of (Pipe len) = Li A0 pipe_at ∷ Li A1 0 ∷ Call 59 ∷ forks (feeds len) drains

-- write(1, greeting, 4), exit(0)
abbrev pub ends : List Step
ends = Li A0 1 ∷ Li A1 greeting_at ∷ Li A2 4 ∷ Call 64 ∷ exits 0

abbrev pub program : List Job → List Step
program jobs = flat_map steps_of jobs ++ ends
