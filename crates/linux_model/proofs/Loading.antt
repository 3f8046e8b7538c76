-- Loading, page by page, builds the space in which a program starts.
use Rattle.std.proofs.Common.{◌≡◌, ℕ, zero, suc, ◌+◌, ◌-◌, ◌%◌, eqb, refl, sym, ◌∙◌, ap, List, [], ◌∷◌, map, length, take, drop}
use Rattle.std.proofs.lemmas.Bool.{eq-eqb, cond-true}
use Rattle.lego_base.specs.Space.{Space, no_space, with_bytes, with_space}
use Rattle.elf_image.specs.declared.image.Segment.{Segment}
use Rattle.elf_image.specs.Image.{Program}
use Rattle.space_rules.specs.Mapped.{image_areas_of}
use Rattle.space_rules.specs.Pages.{first_byte, filled_pages, loaded, pages_met}
use Rattle.space_rules.specs.Start.{sp_of, stack_bytes}
use Rattle.rv64_step.proofs.Writes.{with_space-same}
use Rattle.linux_model.specs.State.{Kernel}
use Rattle.linux_model.specs.Effects.{applies, with_areas}
use Rattle.linux_model.specs.Loading.{cut, load_fills, loads_program, page_bytes, page_fill, stack_fills, start_space}
use Rattle.linux_model.proofs.Cut.{cut_is, pages_suffice, with_cut}
use Rattle.linux_model.proofs.Filled.{loads_fill, with_pages}
use Rattle.linux_model.proofs.Folds.{applies-append}
use Rattle.linux_model.proofs.Spaces.{space_twice}

-- ---- fills of one process

-- the kernel with this space of a process
abbrev set : ℕ → Space → Kernel → Kernel
set pid space k = record k { space = with_space k.space pid space }

set_twice : (pid : ℕ) (s t : Space) (k : Kernel) → set pid t (set pid s k) ≡ set pid t k
set_twice pid s t k = λ i. record k { space = space_twice k.space pid s t i }

here_is : (pid : ℕ) (space : Space) (k : Kernel) → (set pid space k).space pid ≡ space
here_is pid space k = cond-true (eqb pid pid) space (k.space pid) (eq-eqb pid pid refl)

stays : (pid : ℕ) (k : Kernel) → k ≡ set pid (k.space pid) k
stays pid k = λ i. record k { space = sym (with_space-same k.space pid) i }

-- what was written before more was
written_then : (pid : ℕ) (s : Space) (f : Space → Space) (k : Kernel) → set pid (f ((set pid s k).space pid)) (set pid s k) ≡ set pid (f s) k
written_then pid s f k = ap (λ (t : Space). set pid (f t) (set pid s k)) (here_is pid s k) ∙ set_twice pid s (f s) k

pages_are : (pid : ℕ) (segments : List Segment) (pages : List ℕ) (k : Kernel) → applies (map (page_fill pid segments) pages) k ≡ set pid (with_pages segments pages (k.space pid)) k
pages_are pid segments [] k = stays pid k
pages_are pid segments (page ∷ pages) k =
    let s : Space = with_bytes (k.space pid) (first_byte segments page) (page_bytes segments page) in
    pages_are pid segments pages (set pid s k) ∙ written_then pid s (with_pages segments pages) k

cut_are : (pid pages address : ℕ) (bytes : List ℕ) (k : Kernel) → applies (cut pid pages address bytes) k ≡ set pid (with_cut pages address bytes (k.space pid)) k
cut_are pid zero address bytes k = stays pid k
cut_are pid (suc pages) address bytes k =
    let more : ℕ = 4096 - address % 4096 in
    let s : Space = with_bytes (k.space pid) address (take (4096 - address % 4096) bytes) in
    cut_are pid pages (address + (4096 - address % 4096)) (drop (4096 - address % 4096) bytes) (set pid s k)
    ∙ written_then pid s (with_cut pages (address + (4096 - address % 4096)) (drop (4096 - address % 4096) bytes)) k

-- ---- a program

module _ (pid : ℕ) (program : Program) (args env : List (List ℕ)) where
  -- its pages, then the bytes of its loads
  abbrev bare : Space
  bare = record no_space { areas = image_areas_of program.segments }

  abbrev filled : Space
  filled = record bare { byte = loaded program.segments }

  mapped_is : (k : Kernel) → k.space pid ≡ no_space → with_areas pid (image_areas_of program.segments) k ≡ set pid bare k
  mapped_is k none = ap (λ (s : Space). set pid (record s { areas = image_areas_of program.segments }) k) none

  filled_is : (k : Kernel) → applies (load_fills pid program.segments) (set pid bare k) ≡ set pid filled k
  filled_is k =
      pages_are pid program.segments (filled_pages program.segments) (set pid bare k)
      ∙ written_then pid bare (with_pages program.segments (filled_pages program.segments)) k
      ∙ ap (λ (s : Space). set pid s k) (loads_fill program.segments bare refl)

  abbrev bytes : List ℕ
  bytes = stack_bytes args env program.entry

  stack_is : (k : Kernel) → applies (stack_fills pid args env program.entry) (set pid filled k) ≡ set pid (start_space program args env) k
  stack_is k =
      cut_are pid (pages_met (sp_of args env) (length bytes)) (sp_of args env) bytes (set pid filled k)
      ∙ written_then pid filled (with_cut (pages_met (sp_of args env) (length bytes)) (sp_of args env) bytes) k
      ∙ ap (λ (s : Space). set pid s k) (cut_is (pages_met (sp_of args env) (length bytes)) (sp_of args env) bytes filled (pages_suffice (sp_of args env) (length bytes)))

  pub loading : (k : Kernel) → k.space pid ≡ no_space → applies (loads_program pid program args env) k ≡ set pid (start_space program args env) k
  loading k none =
      applies-append (load_fills pid program.segments) (stack_fills pid args env program.entry) (with_areas pid (image_areas_of program.segments) k)
      ∙ ap (λ (j : Kernel). applies (stack_fills pid args env program.entry) (applies (load_fills pid program.segments) j)) (mapped_is k none)
      ∙ ap (applies (stack_fills pid args env program.entry)) (filled_is k)
      ∙ stack_is k
