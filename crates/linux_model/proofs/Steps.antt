-- A step over any memory is the one instruction of the definitions.
use Rattle.std.proofs.Common.{◌≡◌, ℕ, Bool, refl, sym, ◌∙◌, ap, subst, Option, Some, None, Result, Ok, Err, IfOk, IsTrue, List}
use Rattle.lego_base.specs.declared.stops.Halt.{Halt}
use Rattle.lego_base.specs.declared.stops.MemStop.{MemStop}
use Rattle.lego_base.specs.declared.stops.MemStop.TheVariants as mem_stop
use Rattle.lego_base.specs.Space.{Space, permits, bytes_at, number_of}
use Rattle.rv64_decode.specs.declared.Instr.{Instr}
use Rattle.rv64_decode.specs.Table.{decoded}
use Rattle.rv64_step.specs.declared.cpu.Cpu.{Cpu}
use Rattle.rv64_step.specs.declared.cpu.StepEnd.{StepEnd}
use Rattle.rv64_step.specs.declared.cpu.StepEnd.TheVariants.{Next, Dead}
use Rattle.rv64_step.specs.Access.{Reads, Writes, Keeps, Changes, Fetched, Loaded, Stored}
use Rattle.rv64_step.specs.Meaning.{Asks, Ends, Loads, Stores, asks, Does, Obeys, AfterFetch, AfterLoad, AfterStore, IsStep}
use Rattle.linux_model.specs.Agrees.{Agrees}
use Rattle.linux_model.specs.Instructions.{Ran, asked, obeyed, one}
use Rattle.linux_model.proofs.Spaces.{if_true, if_false}

-- what is said of an end that came
came : (r : Ran) (cpu' : Cpu) (new : Space) (result : Result StepEnd Halt) (stop : StepEnd) → result ≡ Ok stop → Agrees r stop cpu' new → IfOk result (λ stop. Agrees r stop cpu' new)
came r cpu' new result stop e agrees = subst (λ (result : Result StepEnd Halt). IfOk result (λ stop. Agrees r stop cpu' new)) (sym e) agrees

halted : (r : Ran) (cpu' : Cpu) (new : Space) (result : Result StepEnd Halt) (halt : Halt) → result ≡ Err halt → IfOk result (λ stop. Agrees r stop cpu' new)
halted r cpu' new result halt e = subst (λ (result : Result StepEnd Halt). IfOk result (λ stop. Agrees r stop cpu' new)) (sym e) tt

loaded_is : (pid address n : ℕ) (cpu : Cpu) (after : ℕ → Cpu) (old new : Space) (answer : Result ℕ MemStop) (result : Result StepEnd Halt) (cpu' : Cpu) → Reads old 1 address n answer → Keeps answer old new → AfterLoad cpu after answer result cpu' → IfOk result (λ stop. Agrees (asked pid cpu old (Loads address n after)) stop cpu' new)
loaded_is pid address n cpu after old new (Ok value) result cpu' reads keeps ends =
    came (asked pid cpu old (Loads address n after)) cpu' new result Next ends.0
    (if_true (λ (r : Ran). Agrees r Next cpu' new) (permits old 1 address n) _ _ reads.0
    (record { stops = refl; left = sym (ap after reads.1) ∙ sym ends.1; sees = sym keeps }))
loaded_is pid address n cpu after old new (Err mem_stop.Segv) result cpu' reads keeps ends =
    came (asked pid cpu old (Loads address n after)) cpu' new result (Dead 11) ends.0
    (if_false (λ (r : Ran). Agrees r (Dead 11) cpu' new) (permits old 1 address n) _ _ reads
    (record { stops = refl; left = sym ends.1; sees = sym keeps }))
loaded_is pid address n cpu after old new (Err (mem_stop.Halt halt)) result cpu' reads keeps ends = halted _ cpu' new result halt ends.0

stored_is : (pid address n value : ℕ) (cpu after : Cpu) (old new : Space) (answer : Result (Unit {0}) MemStop) (result : Result StepEnd Halt) (cpu' : Cpu) → Writes old address n answer → Changes answer address n value old new → AfterStore cpu after answer result cpu' → IfOk result (λ stop. Agrees (asked pid cpu old (Stores address n value after)) stop cpu' new)
stored_is pid address n value cpu after old new (Ok done) result cpu' writes changes ends =
    came (asked pid cpu old (Stores address n value after)) cpu' new result Next ends.0
    (if_true (λ (r : Ran). Agrees r Next cpu' new) (permits old 2 address n) _ _ writes
    (record { stops = refl; left = sym ends.1; sees = sym changes }))
stored_is pid address n value cpu after old new (Err mem_stop.Segv) result cpu' writes changes ends =
    came (asked pid cpu old (Stores address n value after)) cpu' new result (Dead 11) ends.0
    (if_false (λ (r : Ran). Agrees r (Dead 11) cpu' new) (permits old 2 address n) _ _ writes
    (record { stops = refl; left = sym ends.1; sees = sym changes }))
stored_is pid address n value cpu after old new (Err (mem_stop.Halt halt)) result cpu' writes changes ends = halted _ cpu' new result halt ends.0

-- A memory that serves the process.
module _ {X : Type 0} (serves : X → ℕ → Bool) (space : X → ℕ → Space) (fetches : X → ℕ → ℕ → Result ℕ MemStop → X → Type 0) (loads : X → ℕ → ℕ → ℕ → Result ℕ MemStop → X → Type 0) (stores : X → ℕ → ℕ → ℕ → ℕ → Result (Unit {0}) MemStop → X → Type 0) (pid : ℕ) where
  asked_is : (cpu : Cpu) (want : Asks) (mid new : X) (result : Result StepEnd Halt) (cpu' : Cpu) → IsTrue (serves mid pid) → Does (Loaded serves space loads pid) (Stored serves space stores pid) cpu want mid result cpu' new → IfOk result (λ stop. Agrees (asked pid cpu (space mid pid) want) stop cpu' (space new pid))
  asked_is cpu (Ends stop after) mid new result cpu' here does =
      came (asked pid cpu (space mid pid) (Ends stop after)) cpu' (space new pid) result stop does.0
      (record { stops = refl; left = sym does.1; sees = ap (λ x. space x pid) (sym does.2) })
  asked_is cpu (Loads address n after) mid new result cpu' here (answer, loaded, ends) =
      loaded_is pid address n cpu after (space mid pid) (space new pid) answer result cpu' loaded.reads (loaded.keeps pid here) ends
  asked_is cpu (Stores address n value after) mid new result cpu' here (answer, stored, ends) =
      stored_is pid address n value cpu after (space mid pid) (space new pid) answer result cpu' stored.writes stored.changes ends

  obeyed_is : (cpu : Cpu) (word : Option Instr) (mid new : X) (result : Result StepEnd Halt) (cpu' : Cpu) → IsTrue (serves mid pid) → Obeys (Loaded serves space loads pid) (Stored serves space stores pid) cpu word mid result cpu' new → IfOk result (λ stop. Agrees (obeyed pid cpu (space mid pid) word) stop cpu' (space new pid))
  obeyed_is cpu None mid new result cpu' here obeys =
      came (obeyed pid cpu (space mid pid) None) cpu' (space new pid) result (Dead 4) obeys.0
      (record { stops = refl; left = sym obeys.1; sees = ap (λ x. space x pid) (sym obeys.2) })
  obeyed_is cpu (Some i) mid new result cpu' here obeys = asked_is cpu (asks i cpu i.op) mid new result cpu' here obeys

  behind_is : (r : Ran) (es : List _) (result : Result StepEnd Halt) (cpu' : Cpu) (new : Space) → IfOk result (λ stop. Agrees r stop cpu' new) → IfOk result (λ stop. Agrees (record r { effects = es }) stop cpu' new)
  behind_is r es (Ok stop) cpu' new agrees = record { stops = agrees.stops; left = agrees.left; sees = agrees.sees }
  behind_is r es (Err halt) cpu' new agrees = tt

  fetched_is : (cpu : Cpu) (old mid new : X) (word : Result ℕ MemStop) (result : Result StepEnd Halt) (cpu' : Cpu) → IsTrue (serves old pid) → Fetched serves space fetches pid old cpu.pc word mid → AfterFetch (Loaded serves space loads pid) (Stored serves space stores pid) cpu word mid result cpu' new → IfOk result (λ stop. Agrees (one pid cpu (space old pid)) stop cpu' (space new pid))
  fetched_is cpu old mid new (Ok word) result cpu' here fetched rest =
      let same : space mid pid ≡ space old pid = fetched.keeps pid here in
      let obeyed_mid = obeyed_is cpu (decoded word) mid new result cpu' (subst IsTrue (sym (fetched.served pid)) here) rest in
      let there : IfOk result (λ stop. Agrees (obeyed pid cpu (space old pid) (decoded (number_of (bytes_at (space old pid) cpu.pc 4)))) stop cpu' (space new pid)) = subst (λ (p : Space × ℕ). IfOk result (λ stop. Agrees (obeyed pid cpu p.0 (decoded p.1)) stop cpu' (space new pid))) (λ i. (same i, fetched.reads.1 i)) obeyed_mid in
      if_true (λ (r : Ran). IfOk result (λ stop. Agrees r stop cpu' (space new pid))) (permits (space old pid) 4 cpu.pc 4) _ _ fetched.reads.0
      (behind_is (obeyed pid cpu (space old pid) (decoded (number_of (bytes_at (space old pid) cpu.pc 4)))) _ result cpu' (space new pid) there)
  fetched_is cpu old mid new (Err mem_stop.Segv) result cpu' here fetched rest =
      came (one pid cpu (space old pid)) cpu' (space new pid) result (Dead 11) rest.0
      (if_false (λ (r : Ran). Agrees r (Dead 11) cpu' (space new pid)) (permits (space old pid) 4 cpu.pc 4) _ _ fetched.reads
      (record { stops = refl; left = sym rest.1; sees = sym (fetched.keeps pid here) ∙ ap (λ x. space x pid) (sym rest.2) }))
  fetched_is cpu old mid new (Err (mem_stop.Halt halt)) result cpu' here fetched rest = halted _ cpu' (space new pid) result halt rest.0

  -- a step that ended is the one instruction, on the space before it and the space after it
  pub step_is : (cpu : Cpu) (old : X) (result : Result StepEnd Halt) (cpu' : Cpu) (new : X) → IsTrue (serves old pid) → IsStep (Fetched serves space fetches pid) (Loaded serves space loads pid) (Stored serves space stores pid) cpu old result cpu' new → IfOk result (λ stop. Agrees (one pid cpu (space old pid)) stop cpu' (space new pid))
  step_is cpu old result cpu' new here step = fetched_is cpu old step.mid new step.word result cpu' here step.fetch step.rest
