-- Looking into a space, writing buffers, loading and closing are a process's own.
use Rattle.std.proofs.Common.{ℕ, zero, suc, ◌+◌, ◌-◌, ◌%◌, Bool, true, false, cond, eqb, refl, List, [], ◌∷◌, map, length, drop, Option, Some, None}
use Rattle.lego_base.specs.Space.{Space, permits, bytes_at, number_of}
use Rattle.elf_image.specs.declared.image.Segment.{Segment}
use Rattle.elf_image.specs.Image.{Program}
use Rattle.kernel_objects.specs.declared.descriptor.FdEntry.{FdEntry}
use Rattle.kernel_objects.specs.declared.piece.Piece.{Piece}
use Rattle.kernel_objects.specs.Slots.{picks}
use Rattle.space_rules.specs.Pages.{filled_pages, pages_met}
use Rattle.space_rules.specs.Start.{sp_of, stack_bytes}
use Rattle.linux_model.specs.Limits.{E2BIG}
use Rattle.linux_model.specs.State.{Kernel}
use Rattle.linux_model.specs.Processes.{has_file, process}
use Rattle.linux_model.specs.Effects.{Effect, Closes, FreesFile, apply, applies}
use Rattle.linux_model.specs.Buffers.{asks_pieces, copies_in, copies_out, to_read}
use Rattle.linux_model.specs.Descriptors.{freeing, file_behind, closing, closing_if, closings}
use Rattle.linux_model.specs.Paths.{Text, TextEnd, AtZero, Denied, Long, text_on, text_at}
use Rattle.linux_model.specs.ProcessCalls.{Strings, no_strings, string_on, with_string, address_on, strings_at, list_at}
use Rattle.linux_model.specs.Loading.{page_fill, load_fills, cut, stack_fills, loads_program}
use Rattle.kernel_laws.proofs.Own.{AllOwn, own-append}

pick : (pid : ℕ) (b : Bool) (es fs : List Effect) → AllOwn pid es → AllOwn pid fs → AllOwn pid (cond b es fs)
pick pid true es fs a b = a
pick pid false es fs a b = b

pub checks : (pid : ℕ) (space : Space) (need : ℕ) (pieces : List Piece) → AllOwn pid (asks_pieces pid space need pieces)
checks pid space need [] = tt
checks pid space need (x ∷ pieces) = (tt, pick pid (permits space need x.at x.size) (asks_pieces pid space need pieces) [] (checks pid space need pieces) tt)

pub copies : (pid : ℕ) (space : Space) (pieces : List Piece) → AllOwn pid (copies_in pid space pieces)
copies pid space [] = tt
copies pid space (x ∷ pieces) = (tt, copies pid space pieces)

pub out_copies : (pid : ℕ) (pieces : List Piece) (bytes : List ℕ) → AllOwn pid (copies_out pid pieces bytes)
out_copies pid [] bytes = tt
out_copies pid (x ∷ pieces) bytes = (refl, out_copies pid pieces (drop x.size bytes))

text_by : (may is_end : Bool) (pid address byte : ℕ) (more : ℕ → Text) → AllOwn pid (more (address + 1)).reads → AllOwn pid (text_on may is_end pid address byte more).reads
text_by false is_end pid address byte more h = (tt, tt)
text_by true true pid address byte more h = (tt, tt)
text_by true false pid address byte more h = (tt, h)

pub text : (pid : ℕ) (space : Space) (most address : ℕ) → AllOwn pid (text_at pid space most address).reads
text pid space zero address = tt
text pid space (suc most) address = text_by (permits space to_read address 1) (eqb (space.byte address) 0) pid address (space.byte address) (λ next. text_at pid space most next) (text pid space most (address + 1))

string_by : (pid : ℕ) (end : TextEnd) (t : Text) (left room : ℕ) (more : ℕ → Strings) → AllOwn pid t.reads → ((n : ℕ) → AllOwn pid (more n).reads) → AllOwn pid (string_on end t left room more).reads
string_by pid AtZero t left room more h m = own-append pid t.reads (more (room - (length t.bytes + 1))).reads h (m (room - (length t.bytes + 1)))
string_by pid Denied t left room more h m = h
string_by pid Long t left room more h m = h

address_by : (may is_end : Bool) (pid : ℕ) (space : Space) (address left room : ℕ) (more : ℕ → Strings) → ((n : ℕ) → AllOwn pid (more n).reads) → AllOwn pid (address_on may is_end pid space address left room more).reads
address_by false is_end pid space address left room more h = (tt, tt)
address_by true true pid space address left room more h = (tt, tt)
address_by true false pid space address left room more h = (tt, h (number_of (bytes_at space address 8)))

strings : (pid : ℕ) (space : Space) (left address room : ℕ) → AllOwn pid (strings_at pid space left address room).reads
strings pid space zero address room =
    address_by (permits space to_read address 8) (eqb (number_of (bytes_at space address 8)) 0) pid space address 0 room (λ string. no_strings [] 0 room (Some E2BIG)) (λ n. tt)
strings pid space (suc left) address room =
    address_by (permits space to_read address 8) (eqb (number_of (bytes_at space address 8)) 0) pid space address (suc left) room
    (λ string. with_string (text_at pid space room string) left room (λ room'. strings_at pid space left (address + 8) room'))
    (λ string. string_by pid (text_at pid space room string).end (text_at pid space room string) left room (λ room'. strings_at pid space left (address + 8) room') (text pid space room string) (λ room'. strings pid space left (address + 8) room'))

strings_pick : (pid : ℕ) (b : Bool) (s t : Strings) → AllOwn pid s.reads → AllOwn pid t.reads → AllOwn pid (cond b s t).reads
strings_pick pid true s t h m = h
strings_pick pid false s t h m = m

pub list : (pid : ℕ) (space : Space) (left address room : ℕ) → AllOwn pid (list_at pid space left address room).reads
list pid space left address room = strings_pick pid (eqb address 0) (no_strings [] left room None) (strings_at pid space left address room) tt (strings pid space left address room)

fills : (pid : ℕ) (segments : List Segment) (pages : List ℕ) → AllOwn pid (map (page_fill pid segments) pages)
fills pid segments [] = tt
fills pid segments (page ∷ pages) = (refl, fills pid segments pages)

stack : (pid pages address : ℕ) (bytes : List ℕ) → AllOwn pid (cut pid pages address bytes)
stack pid zero address bytes = tt
stack pid (suc pages) address bytes = (refl, stack pid pages (address + (4096 - address % 4096)) (drop (4096 - address % 4096) bytes))

pub loads : (pid : ℕ) (program : Program) (args env : List (List ℕ)) → AllOwn pid (loads_program pid program args env)
loads pid program args env = (
  refl,
  own-append pid (load_fills pid program.segments) (stack_fills pid args env program.entry) (fills pid program.segments (filled_pages program.segments))
      (stack pid (pages_met (sp_of args env) (length (stack_bytes args env program.entry))) (sp_of args env) (stack_bytes args env program.entry)),
)

-- ---- closing

pub freeing_own : (pid : ℕ) (file : Option ℕ) (k : Kernel) → AllOwn pid (freeing file k)
freeing_own pid None k = tt
freeing_own pid (Some file) k = pick pid (has_file file k.descs) [] (FreesFile file ∷ []) tt (tt, tt)

pub closing_own : (pid q fd : ℕ) (k : Kernel) → AllOwn pid (closing q fd k)
closing_own pid q fd k = (tt, freeing_own pid (file_behind (process k.procs q) fd k) (apply (Closes q fd) k))

closing_if_own : (b : Bool) (pid q fd : ℕ) (k : Kernel) → AllOwn pid (closing_if b q fd k)
closing_if_own false pid q fd k = tt
closing_if_own true pid q fd k = closing_own pid q fd k

pub closings_own : (test : FdEntry → Bool) (pid q fd : ℕ) (fds : List (Option FdEntry)) (k : Kernel) → AllOwn pid (closings test q fd fds k)
closings_own test pid q fd [] k = tt
closings_own test pid q fd (x ∷ fds) k =
    own-append pid (closing_if (picks test x) q fd k) _ (closing_if_own (picks test x) pid q fd k)
    (closings_own test pid q (fd + 1) fds (applies (closing_if (picks test x) q fd k) k))
