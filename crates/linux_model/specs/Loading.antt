-- Loading: the pages and the bytes of an image and of its start stack become the space of a process. Which bytes the
-- loads have, page by page, is said in space_rules.
use Rattle.std.specs.Prelude.{ℕ, zero, suc, ◌+◌, ◌-◌, ◌%◌, List, [], ◌∷◌, ◌++◌, map, length, take, drop, replicate}
use Rattle.lego_base.specs.Space.{Space, bytes_at, with_bytes}
use Rattle.elf_image.specs.declared.image.Segment.{Segment}
use Rattle.elf_image.specs.Image.{Program}
use Rattle.space_rules.specs.Mapped.{image_areas_of}
use Rattle.space_rules.specs.Start.{sp_of, stack_bytes}
use Rattle.rv64_step.specs.declared.cpu.Cpu.{Cpu}
use Rattle.kernel_objects.specs.declared.process.Brk.{Brk}
use Rattle.space_rules.specs.Pages.{loaded, first_byte, last_end, filled_pages, pages_met}
use Rattle.linux_model.specs.Effects.{Effect, Maps, Fills}

-- what the loads write in a page: from their first byte there to their last, with 0 between them
abbrev pub page_bytes : List Segment → ℕ → List ℕ
page_bytes segments page = bytes_at (record { areas = []; byte = loaded segments }) (first_byte segments page) (last_end segments page - first_byte segments page)

abbrev pub page_fill : ℕ → List Segment → ℕ → Effect
page_fill pid segments page = Fills pid (first_byte segments page) (page_bytes segments page)

-- page by page, in rising order
abbrev pub load_fills : ℕ → List Segment → List Effect
load_fills pid segments = map (page_fill pid segments) (filled_pages segments)

-- bytes starting at an address that lie in n pages, page by page
abbrev pub cut : ℕ → ℕ → ℕ → List ℕ → List Effect
cut pid zero address bytes = []
cut pid (suc pages) address bytes = Fills pid address (take (4096 - address % 4096) bytes) ∷ cut pid pages (address + (4096 - address % 4096)) (drop (4096 - address % 4096) bytes)

abbrev pub stack_fills : ℕ → List (List ℕ) → List (List ℕ) → ℕ → List Effect
stack_fills pid args env entry = cut pid (pages_met (sp_of args env) (length (stack_bytes args env entry))) (sp_of args env) (stack_bytes args env entry)

-- an image is loaded for a process with its arguments and its environment
abbrev pub loads_program : ℕ → Program → List (List ℕ) → List (List ℕ) → List Effect
loads_program pid program args env = Maps pid (image_areas_of program.segments) ∷ load_fills pid program.segments ++ stack_fills pid args env program.entry

-- register 2 (sp) has the start stack, all others are 0, and the first instruction is at the entry
abbrev pub start_of : Program → List (List ℕ) → List (List ℕ) → Cpu
start_of program args env = record { pc = program.entry; x = 0 ∷ 0 ∷ sp_of args env ∷ replicate 29 0 }

-- the break with which it begins
abbrev pub break_of : Program → Brk
break_of program = record { base = program.brk; now = program.brk }

-- what loading comes to: the bytes of the loads, each at its address, 0 at all others, and over them the start stack
abbrev pub start_space : Program → List (List ℕ) → List (List ℕ) → Space
start_space program args env = with_bytes (record { areas = image_areas_of program.segments; byte = loaded program.segments }) (sp_of args env) (stack_bytes args env program.entry)
