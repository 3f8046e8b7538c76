-- Questions and reads change nothing.
use Rattle.std.proofs.Common.{ℕ, zero, suc, ◌+◌, ◌-◌, Bool, true, false, cond, eqb, refl, List, [], ◌∷◌, length, Some, None}
use Rattle.lego_base.specs.Space.{Space, permits, bytes_at, number_of}
use Rattle.kernel_objects.specs.declared.piece.Piece.{Piece}
use Rattle.linux_model.specs.Limits.{E2BIG}
use Rattle.linux_model.specs.Buffers.{asks_pieces, copies_in, to_read}
use Rattle.linux_model.specs.Paths.{Text, TextEnd, AtZero, Denied, Long, text_on, text_at}
use Rattle.linux_model.specs.ProcessCalls.{Strings, no_strings, string_on, with_string, address_on, strings_at, list_at}
use Rattle.linux_model.specs.Laws.{Still, LookingIsStill}
use Rattle.linux_model.proofs.Folds.{still-append, still-choice}

none_still : Still []
none_still k = refl

checks_still : (pid : ℕ) (space : Space) (need : ℕ) (pieces : List Piece) → Still (asks_pieces pid space need pieces)
checks_still pid space need [] k = refl
checks_still pid space need (x ∷ pieces) k = still-choice (permits space need x.at x.size) (asks_pieces pid space need pieces) [] (checks_still pid space need pieces) none_still k

copies_still : (pid : ℕ) (space : Space) (pieces : List Piece) → Still (copies_in pid space pieces)
copies_still pid space [] k = refl
copies_still pid space (x ∷ pieces) k = copies_still pid space pieces k

text_on_still : (may is_end : Bool) (pid address byte : ℕ) (more : ℕ → Text) → Still (more (address + 1)).reads → Still (text_on may is_end pid address byte more).reads
text_on_still false is_end pid address byte more s k = refl
text_on_still true true pid address byte more s k = refl
text_on_still true false pid address byte more s k = s k

text_still : (pid : ℕ) (space : Space) (most address : ℕ) → Still (text_at pid space most address).reads
text_still pid space zero address = none_still
text_still pid space (suc most) address = text_on_still (permits space to_read address 1) (eqb (space.byte address) 0) pid address (space.byte address) (λ next. text_at pid space most next) (text_still pid space most (address + 1))

string_still : (end : TextEnd) (text : Text) (left room : ℕ) (more : ℕ → Strings) → Still text.reads → ((n : ℕ) → Still (more n).reads) → Still (string_on end text left room more).reads
string_still AtZero text left room more s t = still-append text.reads (more (room - (length text.bytes + 1))).reads s (t (room - (length text.bytes + 1)))
string_still Denied text left room more s t = s
string_still Long text left room more s t = s

address_still : (may is_end : Bool) (pid : ℕ) (space : Space) (address left room : ℕ) (more : ℕ → Strings) → ((n : ℕ) → Still (more n).reads) → Still (address_on may is_end pid space address left room more).reads
address_still false is_end pid space address left room more s k = refl
address_still true true pid space address left room more s k = refl
address_still true false pid space address left room more s k = s (number_of (bytes_at space address 8)) k

strings_still : (pid : ℕ) (space : Space) (left address room : ℕ) → Still (strings_at pid space left address room).reads
strings_still pid space zero address room =
    address_still (permits space to_read address 8) (eqb (number_of (bytes_at space address 8)) 0) pid space address 0 room (λ string. no_strings [] 0 room (Some E2BIG)) (λ n. none_still)
strings_still pid space (suc left) address room =
    address_still (permits space to_read address 8) (eqb (number_of (bytes_at space address 8)) 0) pid space address (suc left) room
    (λ string. with_string (text_at pid space room string) left room (λ room'. strings_at pid space left (address + 8) room'))
    (λ string. string_still (text_at pid space room string).end (text_at pid space room string) left room (λ room'. strings_at pid space left (address + 8) room') (text_still pid space room string) (λ room'. strings_still pid space left (address + 8) room'))

strings_choice : (b : Bool) (s t : Strings) → Still s.reads → Still t.reads → Still (cond b s t).reads
strings_choice true s t p q = p
strings_choice false s t p q = q

list_still : (pid : ℕ) (space : Space) (left address room : ℕ) → Still (list_at pid space left address room).reads
list_still pid space left address room = strings_choice (eqb address 0) (no_strings [] left room None) (strings_at pid space left address room) none_still (strings_still pid space left address room)

pub looking_is_still : LookingIsStill
looking_is_still = record { checks = checks_still; copies = copies_still; text = text_still; strings = list_still }
