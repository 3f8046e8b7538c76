-- Bytes that come from the pieces of a buffer.
use Rattle.std.proofs.Common.{◌≡◌, ℕ, zero, suc, ◌+◌, ◌-◌, ◌≤◌, true, false, cond, not, ltb, min, refl, sym, ◌∙◌, ap, List, [], ◌∷◌, ◌++◌, append_assoc, length, fold, Result, Ok, Err, IfOk, arith}
use Rattle.std.proofs.lemmas.Bool.{ne_eqb}
use Rattle.std.proofs.lemmas.List.{length-append}
use Rattle.lego_base.specs.declared.sizes.TheConstants.{LONGEST_FILE}
use Rattle.lego_base.specs.declared.stops.Halt.{Halt}
use Rattle.lego_base.specs.Files.{file_bytes}
use Rattle.lego_base.specs.Space.{Space, bytes_at}
use Rattle.kernel_objects.specs.declared.piece.Piece.{Piece}
use Rattle.linux_model.specs.Limits.{EFAULT, EFBIG, O_APPEND, has}
use Rattle.linux_model.specs.State.{Kernel, Process}
use Rattle.linux_model.specs.Effects.{Effect, AsksSize, PutsPipe, WritesFile}
use Rattle.linux_model.specs.Called.{Called, Gives, Waits, following, first}
use Rattle.linux_model.specs.Buffers.{are_good, asks_pieces, bytes_in, copies_in, part, total, where_good}
use Rattle.linux_model.specs.FileCalls.{room_of, writes_at, writes_file, writes_long, writes_object, writes_pieces}
use Rattle.linux_model.specs.Managed.{Managed, managed_after, managed_after_all}
use Rattle.linux_model.specs.Descriptors.{Open}
use Rattle.kernel_objects.specs.declared.descriptor.Object.{Object}
use Rattle.linux_model.proofs.Managing.{managed-append}
use Rattle.call_machine.specs.Lawful.{Lawful}
use Rattle.linux_model.specs.Held.{Held}
use Rattle.sys_io.specs.Moving.{Apart, WroteOr, puts_part}
use Rattle.sys_io.proofs.Moving.{both_still, copies_in_still}

-- ---- how many bytes there are in pieces

pub length_at : (space : Space) (at n : ℕ) → length (bytes_at space at n) ≡ n
length_at space at zero = refl
length_at space at (suc n) = ap suc (length_at space (at + 1) n)

total_from : (a : ℕ) (pieces : List Piece) → fold (λ (a : ℕ) (x : Piece). a + x.size) a pieces ≡ a + total pieces
total_from a [] = omega arith
total_from a (x ∷ pieces) =
    let here = total_from (a + x.size) pieces in
    let there = total_from (0 + x.size) pieces in
    omega (arith, here, there)

pub total_first : (x : Piece) (pieces : List Piece) → total (x ∷ pieces) ≡ x.size + total pieces
total_first x pieces = let none : 0 + x.size + total pieces ≡ x.size + total pieces = omega arith in total_from (0 + x.size) pieces ∙ none

pub length_in : (space : Space) (pieces : List Piece) → length (bytes_in space pieces) ≡ total pieces
length_in space [] = refl
length_in space (x ∷ pieces) =
    let both = length-append (bytes_at space x.at x.size) (bytes_in space pieces) in
    let one = length_at space x.at x.size in
    let more = length_in space pieces in
    let whole = total_first x pieces in
    let all : length (bytes_at space x.at x.size ++ bytes_in space pieces) ≡ total (x ∷ pieces) = omega (arith, both, one, more, whole) in
    all

pub part_size : (s n : ℕ) (pieces : List Piece) → total (part s n pieces) ≤ n
part_size s n [] = omega arith
part_size s n (x ∷ pieces) =
    let rest = part_size (s - x.size) (n - min n (x.size - s)) pieces in
    let whole = total_first (record { at = x.at + min s x.size; size = min n (x.size - s) }) (part (s - x.size) (n - min n (x.size - s)) pieces) in
    omega (arith, rest, whole)

-- ---- the check of a buffer that is read

pub where_good_asks : (p : Process) (k : Kernel) (pid need : ℕ) (pieces : List Piece) (rest : Called) → p.pid ≡ pid
    → where_good p k need pieces rest ≡ following (asks_pieces pid (k.space pid) need pieces) (first ((not (are_good (k.space pid) need pieces), EFAULT) ∷ []) rest)
where_good_asks p k pid need pieces rest own = λ i. following (asks_pieces (own i) (k.space (own i)) need pieces) (first ((not (are_good (k.space (own i)) need pieces), EFAULT) ∷ []) rest)

pub good_then : (p : Process) (k : Kernel) (pid need : ℕ) (pieces : List Piece) (rest : Called) → p.pid ≡ pid → are_good (k.space pid) need pieces ≡ true
    → where_good p k need pieces rest ≡ following (asks_pieces pid (k.space pid) need pieces) rest
good_then p k pid need pieces rest own good = where_good_asks p k pid need pieces rest own ∙ ap (λ b. following (asks_pieces pid (k.space pid) need pieces) (first ((not b, EFAULT) ∷ []) rest)) good

pub bad_then : (p : Process) (k : Kernel) (pid need : ℕ) (pieces : List Piece) (rest : Called) → p.pid ≡ pid → are_good (k.space pid) need pieces ≡ false
    → where_good p k need pieces rest ≡ following (asks_pieces pid (k.space pid) need pieces) (Gives [] EFAULT)
bad_then p k pid need pieces rest own bad = where_good_asks p k pid need pieces rest own ∙ ap (λ b. following (asks_pieces pid (k.space pid) need pieces) (first ((not b, EFAULT) ∷ []) rest)) bad

-- ---- a pipe

-- what goes in where there is room for all
pub put_all : (count size n room left : ℕ) → size ≡ n → n ≤ room → count ≡ min size left → left ≡ room → count ≡ size
put_all count size n room left is enough count_is left_is = omega (arith, is, enough, count_is, left_is)

pub puts_managed : (pid : ℕ) (space : Space) (pipe : ℕ) (parts : List Piece) (man : Managed) → managed_after_all (puts_part pid space pipe parts) man ≡ managed_after (PutsPipe pipe (bytes_in space parts)) man
puts_managed pid space pipe parts man =
    managed-append (copies_in pid space parts) (PutsPipe pipe (bytes_in space parts) ∷ []) man
    ∙ ap (managed_after (PutsPipe pipe (bytes_in space parts))) (copies_in_still pid space parts man)

-- what is open is written by what it is
pub object_written : (p : Process) (k : Kernel) (o : Open) (pieces : List Piece) (n : ℕ) (object : Object) → o.is.object ≡ object → (n ≡ 0 → ⊥) → writes_pieces p k o pieces n ≡ writes_object p k o object pieces n
object_written p k o pieces n object is some =
    ap (λ b. first ((b, 0) ∷ []) (writes_object p k o o.is.object pieces n)) (ne_eqb n 0 some) ∙ ap (λ x. writes_object p k o x pieces n) is

-- a long write that waits for room, and one that ends
pub long_waits : (p : Process) (k : Kernel) (pid pipe : ℕ) (pieces : List Piece) (n before moved room : ℕ) → p.pid ≡ pid → room_of pipe k ≡ room → before ≡ moved → ltb (moved + room) n ≡ true
    → writes_long p k pipe pieces n before ≡ Waits (puts_part pid (k.space pid) pipe (part moved room pieces)) (moved + room) n
long_waits p k pid pipe pieces n before moved room own room_is moved_is more =
    (λ i. cond (ltb (moved_is i + room_is i) n)
    (Waits (puts_part (own i) (k.space (own i)) pipe (part (moved_is i) (room_is i) pieces)) (moved_is i + room_is i) n)
    (Gives (puts_part (own i) (k.space (own i)) pipe (part (moved_is i) (n - moved_is i) pieces)) n))
    ∙ ap (λ b. cond b (Waits (puts_part pid (k.space pid) pipe (part moved room pieces)) (moved + room) n) (Gives (puts_part pid (k.space pid) pipe (part moved (n - moved) pieces)) n)) more

pub long_ends : (p : Process) (k : Kernel) (pid pipe : ℕ) (pieces : List Piece) (n before moved room : ℕ) → p.pid ≡ pid → room_of pipe k ≡ room → before ≡ moved → ltb (moved + room) n ≡ false
    → writes_long p k pipe pieces n before ≡ Gives (puts_part pid (k.space pid) pipe (part moved (n - moved) pieces)) n
long_ends p k pid pipe pieces n before moved room own room_is moved_is more =
    (λ i. cond (ltb (moved_is i + room_is i) n)
    (Waits (puts_part (own i) (k.space (own i)) pipe (part (moved_is i) (room_is i) pieces)) (moved_is i + room_is i) n)
    (Gives (puts_part (own i) (k.space (own i)) pipe (part (moved_is i) (n - moved_is i) pieces)) n))
    ∙ ap (λ b. cond b (Waits (puts_part pid (k.space pid) pipe (part moved room pieces)) (moved + room) n) (Gives (puts_part pid (k.space pid) pipe (part moved (n - moved) pieces)) n)) more

-- ---- a place of a file

pub writes_at_is : (p : Process) (k : Kernel) (pid file at : ℕ) (pieces : List Piece) (n : ℕ) (after : ℕ → List Effect) → p.pid ≡ pid → ltb LONGEST_FILE (at + n) ≡ false
    → writes_at p k file at pieces n after ≡ Gives ((copies_in pid (k.space pid) pieces ++ WritesFile file at (bytes_in (k.space pid) pieces) ∷ []) ++ after (at + n)) n
writes_at_is p k pid file at pieces n after own small =
    (λ i. first ((small i, EFBIG) ∷ []) (Gives (copies_in (own i) (k.space (own i)) pieces ++ WritesFile file at (bytes_in (k.space (own i)) pieces) ∷ after (at + n)) n))
    ∙ ap (λ es. Gives es n) (sym (append_assoc (copies_in pid (k.space pid) pieces) (WritesFile file at (bytes_in (k.space pid) pieces) ∷ []) (after (at + n))))

pub writes_past : (p : Process) (k : Kernel) (file at : ℕ) (pieces : List Piece) (n : ℕ) (after : ℕ → List Effect) → ltb LONGEST_FILE (at + n) ≡ true → writes_at p k file at pieces n after ≡ Gives [] EFBIG
writes_past p k file at pieces n after large = ap (λ b. first ((b, EFBIG) ∷ []) (Gives (copies_in p.pid (k.space p.pid) pieces ++ WritesFile file at (bytes_in (k.space p.pid) pieces) ∷ after (at + n)) n)) large

pub appends : (p : Process) (k : Kernel) (file flags off : ℕ) (pieces : List Piece) (n : ℕ) (after : ℕ → List Effect) → has flags O_APPEND ≡ true
    → writes_file p k file flags off pieces n after ≡ following (AsksSize file ∷ []) (writes_at p k file (length (file_bytes k.files file)) pieces n after)
appends p k file flags off pieces n after is = ap (λ b. cond b (following (AsksSize file ∷ []) (writes_at p k file (length (file_bytes k.files file)) pieces n after)) (writes_at p k file off pieces n after)) is

pub at_offset : (p : Process) (k : Kernel) (file flags off : ℕ) (pieces : List Piece) (n : ℕ) (after : ℕ → List Effect) → has flags O_APPEND ≡ false
    → writes_file p k file flags off pieces n after ≡ writes_at p k file off pieces n after
at_offset p k file flags off pieces n after is = ap (λ b. cond b (following (AsksSize file ∷ []) (writes_at p k file (length (file_bytes k.files file)) pieces n after)) (writes_at p k file off pieces n after)) is

-- ---- what comes after questions

module _ {X : Type 0} (held : X → Held) (does stops : X → X → List Effect → Type 0) (laws : Lawful held does stops) where
  apart_past : (old mid new : X) (es fs : List Effect) → does old mid es → ((man : Managed) → managed_after_all es man ≡ man) → Apart does mid new fs → Apart does old new (es ++ fs)
  apart_past old mid new es fs did still apart = record {
    did = laws.both old mid new es fs did apart.did;
    still = λ man. both_still es fs man (still man) (apart.still man);
  }

  pub wrote_past : (old mid new : X) (es : List Effect) (row rest : (ℕ → List Effect) → Called) (n : ℕ) (result : Result (Result ℕ ℕ) Halt) → ((after : ℕ → List Effect) → row after ≡ following es (rest after)) → does old mid es → ((man : Managed) → managed_after_all es man ≡ man)
      → IfOk result (WroteOr does mid new rest n) → IfOk result (WroteOr does old new row n)
  wrote_past old mid new es row rest n (Ok (Ok end)) is did still w = record {
    effects = es ++ w.effects;
    row_is = λ after. is after ∙ ap (following es) (w.row_is after) ∙ ap (λ fs. Gives fs n) (sym (append_assoc es w.effects (after end)));
    apart = apart_past old mid new es w.effects did still w.apart;
  }
  wrote_past old mid new es row rest n (Ok (Err errno)) is did still w = record {
    effects = es ++ w.effects;
    row_is = λ after. is after ∙ ap (following es) (w.row_is after);
    apart = apart_past old mid new es w.effects did still w.apart;
  }
  wrote_past old mid new es row rest n (Err halt) is did still w = w
