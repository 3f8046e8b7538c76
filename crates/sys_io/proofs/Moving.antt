-- Bytes that go to the pieces of a buffer.
use Rattle.std.proofs.Common.{◌≡◌, ℕ, ◌-◌, ◌<◌, Bool, true, false, cond, not, min, refl, sym, ◌∙◌, ap, List, [], ◌∷◌, ◌++◌, append_assoc, length, take, drop, Option, Some, None, option_map, option_and_then, arith}
use Rattle.std.proofs.lemmas.Bool.{ne_eqb}
use Rattle.std.proofs.lemmas.List.{take_min, length-take, length-drop}
use Rattle.lego_base.specs.Files.{file_bytes}
use Rattle.lego_base.specs.Pieces.{piece}
use Rattle.lego_base.specs.Space.{Space, permits}
use Rattle.kernel_objects.specs.declared.piece.Piece.{Piece}
use Rattle.kernel_objects.specs.declared.descriptor.Object.{Object}
use Rattle.kernel_objects.specs.declared.descriptor.Object.TheVariants.{Input, Output, Regular, PipeRead, PipeWrite}
use Rattle.lego_base.specs.declared.ids.FileNo.{FileNo}
use Rattle.linux_model.specs.Descriptors.{Open, file_of, opened, that}
use Rattle.linux_model.specs.Limits.{EFAULT}
use Rattle.linux_model.specs.State.{Kernel, Process}
use Rattle.linux_model.specs.Processes.{has_writer, process}
use Rattle.linux_model.specs.Effects.{Effect, AsksSize, ReadsFile, TakesPipe}
use Rattle.linux_model.specs.Called.{Called, Gives, Waits, says, following, first}
use Rattle.linux_model.specs.Buffers.{are_good, asks_pieces, copies_in, copies_out, part}
use Rattle.linux_model.specs.FileCalls.{moves_out, reads_file, reads_object, reads_pieces, reads_pipe}
use Rattle.linux_model.specs.Managed.{Managed, managed_after_all, with_managed}
use Rattle.linux_model.specs.Held.{Held, with_held}
use Rattle.linux_model.proofs.Managing.{managed-append}
use Rattle.call_machine.specs.Laws.{effects_of}
use Rattle.call_machine.specs.Lawful.{Lawful}
use Rattle.call_machine.specs.Lent.{AllApart, Ran, kernel_of}
use Rattle.manager.specs.declared.manager.Opened.{Opened}
use Rattle.manager.specs.Words.{open_of}
use Rattle.sys_io.specs.Moving.{Refused, Wrote}
use Rattle.call_machine.proofs.Rows.{stops_end, apart_all, stops_as, stops_in}
use Rattle.call_machine.proofs.Stops.{stops_follow}

-- ---- pieces of a file

pub counted_piece : (bytes : List ℕ) (off n count : ℕ) → count ≡ min n (length bytes - off) → (length (piece bytes off n) ≡ count) × (piece bytes off count ≡ piece bytes off n)
counted_piece bytes off n count is =
    let left = length-drop off bytes in
    let size = length-take n (drop off bytes) in
    let same : count ≡ min n (length (drop off bytes)) = omega (arith, is, left) in
    (omega (arith, same, size), ap (λ m. take m (drop off bytes)) same ∙ take_min n (drop off bytes))

pub take_size : (n : ℕ) (bytes : List ℕ) (count : ℕ) → count ≡ min n (length bytes) → length (take n bytes) ≡ count
take_size n bytes count is = let taken = length-take n bytes in omega (arith, taken, is)

-- ---- what copies leave as it is

pub copies_out_still : (pid : ℕ) (pieces : List Piece) (bytes : List ℕ) (man : Managed) → managed_after_all (copies_out pid pieces bytes) man ≡ man
copies_out_still pid [] bytes man = refl
copies_out_still pid (x ∷ pieces) bytes man = copies_out_still pid pieces (drop x.size bytes) man

pub copies_in_still : (pid : ℕ) (space : Space) (pieces : List Piece) (man : Managed) → managed_after_all (copies_in pid space pieces) man ≡ man
copies_in_still pid space [] man = refl
copies_in_still pid space (x ∷ pieces) man = copies_in_still pid space pieces man

pub asks_still : (pid : ℕ) (space : Space) (need : ℕ) (pieces : List Piece) (man : Managed) → managed_after_all (asks_pieces pid space need pieces) man ≡ man
asks_still pid space need [] man = refl
asks_still pid space need (x ∷ pieces) man = by (permits space need x.at x.size) (asks_still pid space need pieces man)
  where
    by : (b : Bool) → managed_after_all (asks_pieces pid space need pieces) man ≡ man → managed_after_all (cond b (asks_pieces pid space need pieces) []) man ≡ man
    by true rest = rest
    by false rest = refl

pub both_still : (es fs : List Effect) (man : Managed) → managed_after_all es man ≡ man → managed_after_all fs man ≡ man → managed_after_all (es ++ fs) man ≡ man
both_still es fs man first second = managed-append es fs man ∙ ap (managed_after_all fs) first ∙ second

-- ---- rows that move bytes to pieces

-- what comes of the check of the part that is written
abbrev pub checked : ℕ → Space → List Piece → Called → Called
checked pid space parts rest = following (asks_pieces pid space 2 parts) (first ((not (are_good space 2 parts), EFAULT) ∷ []) rest)

pub checked_bad : (pid : ℕ) (space : Space) (parts : List Piece) (rest : Called) → are_good space 2 parts ≡ false → checked pid space parts rest ≡ Gives (asks_pieces pid space 2 parts ++ []) EFAULT
checked_bad pid space parts rest bad = ap (λ b. following (asks_pieces pid space 2 parts) (first ((not b, EFAULT) ∷ []) rest)) bad

pub checked_good : (pid : ℕ) (space : Space) (parts : List Piece) (rest : Called) → are_good space 2 parts ≡ true → checked pid space parts rest ≡ following (asks_pieces pid space 2 parts) rest
checked_good pid space parts rest good = ap (λ b. following (asks_pieces pid space 2 parts) (first ((not b, EFAULT) ∷ []) rest)) good

-- so many bytes, after effects that take them
pub moves_out_is : (p : Process) (k : Kernel) (pid count : ℕ) (pieces : List Piece) (bytes : List ℕ) (before after : List Effect) → p.pid ≡ pid → length bytes ≡ count
    → moves_out p k pieces bytes before after ≡ checked pid (k.space pid) (part 0 count pieces) (Gives (before ++ copies_out pid (part 0 count pieces) bytes ++ after) count)
moves_out_is p k pid count pieces bytes before after own size =
    λ i. checked (own i) (k.space (own i)) (part 0 (size i) pieces) (Gives (before ++ copies_out (own i) (part 0 (size i) pieces) bytes ++ after) (size i))

-- what is open is read by what it is
pub object_read : (p : Process) (k : Kernel) (o : Open) (pieces : List Piece) (n : ℕ) (object : Object) → o.is.object ≡ object → (n ≡ 0 → ⊥) → reads_pieces p k o pieces n ≡ reads_object p k o object pieces n
object_read p k o pieces n object is some =
    ap (λ b. first ((b, 0) ∷ []) (reads_object p k o o.is.object pieces n)) (ne_eqb n 0 some) ∙ ap (λ x. reads_object p k o x pieces n) is

-- what the manager finds that a test picks is what the process has open that it picks
pub found_by : (man : Managed) (held : Held) (k : Kernel) (pid : ℕ) (p : Process) (test : Open → Bool) (fd : ℕ) (found : Option Opened) → process man.procs pid ≡ Some p
    → ((k : Kernel) → option_map open_of found ≡ option_and_then (λ p. that test (opened p fd (with_managed man k))) (process man.procs pid))
    → that test (opened p fd (kernel_of man held k)) ≡ option_map open_of found
found_by man held k pid p test fd found there is = sym (is (with_held held k) ∙ ap (option_and_then (λ p. that test (opened p fd (kernel_of man held k)))) there)

-- what isn't a file
pub not_regular : (o : Object) → ((file : FileNo) → o ≡ Regular file → ⊥) → file_of o ≡ None
not_regular (Regular file) isnt = absurd (isnt file refl)
not_regular Input isnt = refl
not_regular (Output stream) isnt = refl
not_regular (PipeRead pipe) isnt = refl
not_regular (PipeWrite pipe) isnt = refl

-- a pipe that isn't empty
pub some_in_pipe : (p : Process) (k : Kernel) (pipe : ℕ) (pieces : List Piece) (n : ℕ) (bytes : List ℕ) → 0 < length bytes → reads_pipe p k pipe pieces n bytes ≡ moves_out p k pieces (take n bytes) (TakesPipe pipe (length (take n bytes)) ∷ []) []
some_in_pipe p k pipe pieces n [] some = absurd (omega (arith, some))
some_in_pipe p k pipe pieces n (byte ∷ bytes) some = refl

-- an empty one
pub none_in_pipe : (p : Process) (k : Kernel) (pipe : ℕ) (pieces : List Piece) (n : ℕ) (bytes : List ℕ) → length bytes ≡ 0 → reads_pipe p k pipe pieces n bytes ≡ cond (has_writer pipe k.descs) (Waits [] 0 0) (says 0)
none_in_pipe p k pipe pieces n [] none = refl
none_in_pipe p k pipe pieces n (byte ∷ bytes) none = cc none

-- a file
pub reads_file_is : (p : Process) (k : Kernel) (pid file off count : ℕ) (pieces : List Piece) (n : ℕ) (after : ℕ → List Effect) → p.pid ≡ pid → length (piece (file_bytes k.files file) off n) ≡ count
    → reads_file p k file off pieces n after
    ≡ following (AsksSize file ∷ []) (checked pid (k.space pid) (part 0 count pieces) (Gives ((ReadsFile file off count ∷ []) ++ copies_out pid (part 0 count pieces) (piece (file_bytes k.files file) off n) ++ after count) count))
reads_file_is p k pid file off count pieces n after own size =
    λ i. following (AsksSize file ∷ []) (checked (own i) (k.space (own i)) (part 0 (size i) pieces) (Gives ((ReadsFile file off (size i) ∷ []) ++ copies_out (own i) (part 0 (size i) pieces) (piece (file_bytes k.files file) off n) ++ after (size i)) (size i)))

pub regroup : (a b c d e : List Effect) → a ++ (b ++ (c ++ (d ++ e))) ≡ (a ++ (b ++ (c ++ d))) ++ e
regroup a b c d e =
    ap (λ l. a ++ (b ++ l)) (sym (append_assoc c d e))
    ∙ ap (λ l. a ++ l) (sym (append_assoc b (c ++ d) e))
    ∙ sym (append_assoc a (b ++ (c ++ d)) e)

-- ---- bytes that the manager gives, to the pieces of a buffer

module _ {X : Type 0} (held : X → Held) (does stops : X → X → List Effect → Type 0) (laws : Lawful held does stops) (pid : ℕ) (space : Space) (parts : List Piece) (before : List Effect) (bytes : List ℕ) (count : ℕ) where
  abbrev asks : List Effect
  asks = asks_pieces pid space 2 parts

  abbrev copies : List Effect
  copies = copies_out pid parts bytes

  abbrev row : Called
  row = checked pid space parts (Gives (before ++ copies ++ []) count)

  pub faulted : (old new : X) (man : Managed) → does old new asks → are_good space 2 parts ≡ false → Ran does old new man man row (λ es. Gives es EFAULT)
  faulted old new man did bad = record {
    effects = asks ++ [];
    row_is = checked_bad pid space parts (Gives (before ++ copies ++ []) count) bad;
    did = laws.both old new new asks [] did (laws.none new);
    managed = both_still asks [] man (asks_still pid space 2 parts man) refl;
  }

  abbrev after_asks : List Effect
  after_asks = (before ++ copies) ++ []

  good_row : are_good space 2 parts ≡ true → row ≡ Gives (asks ++ after_asks) count
  good_row good = checked_good pid space parts (Gives after_asks count) good

  rest_did : (mid new : X) → AllApart before → does mid new copies → does mid new after_asks
  rest_did mid new apart wrote =
      laws.both mid new new (before ++ copies) [] (laws.both mid mid new before copies (apart_all held does stops laws mid before apart) wrote) (laws.none new)

  rest_managed : (man man' : Managed) → managed_after_all before man ≡ man' → managed_after_all after_asks man ≡ man'
  rest_managed man man' managed =
      managed-append (before ++ copies) [] man ∙ managed-append before copies man ∙ ap (managed_after_all copies) managed ∙ copies_out_still pid parts bytes man'

  pub moved : (old mid new : X) (man man' : Managed) → are_good space 2 parts ≡ true → does old mid asks → AllApart before → managed_after_all before man ≡ man' → does mid new copies → Ran does old new man man' row (λ es. Gives es count)
  moved old mid new man man' good asked apart managed wrote = record {
    effects = asks ++ after_asks;
    row_is = good_row good;
    did = laws.both old mid new asks after_asks asked (rest_did mid new apart wrote);
    managed = managed-append asks after_asks man ∙ ap (managed_after_all after_asks) (asks_still pid space 2 parts man) ∙ rest_managed man man' managed;
  }

  pub stops_asking : (old new : X) → stops old new asks → stops old new (effects_of row)
  stops_asking old new stop = stops_in held does stops laws old new asks row (first ((not (are_good space 2 parts), EFAULT) ∷ []) (Gives (before ++ copies ++ []) count)) refl stop

  pub stops_writing : (old mid new : X) → are_good space 2 parts ≡ true → does old mid asks → AllApart before → stops mid new copies → stops old new (effects_of row)
  stops_writing old mid new good asked apart stop =
      stops_as held does stops laws old new row (Gives (asks ++ after_asks) count) (good_row good)
      (laws.stops_then old mid new asks after_asks asked (laws.stops_front mid new (before ++ copies) [] (laws.stops_then mid mid new before copies (apart_all held does stops laws mid before apart) stop)))

  pub stops_moved : (old mid new : X) → are_good space 2 parts ≡ true → does old mid asks → AllApart before → does mid new copies → stops old new (effects_of row)
  stops_moved old mid new good asked apart wrote = stops_writing old mid new good asked apart ((stops_follow held does stops laws).did mid new copies wrote)

-- ---- where a part of a call ended it stopped nowhere

module _ {X : Type 0} (held : X → Held) (does stops : X → X → List Effect → Type 0) (laws : Lawful held does stops) where
  pub wrote_stops : (old new : X) (row : (ℕ → List Effect) → Called) (n end : ℕ) → Wrote does old new row n end → (after : ℕ → List Effect) → stops old new (effects_of (row after))
  wrote_stops old new row n end w after = stops_as held does stops laws old new (row after) (Gives (w.effects ++ after end) n) (w.row_is after) (stops_end held does stops laws old new w.effects (after end) w.apart.did)

  pub refused_stops : (old new : X) (row : (ℕ → List Effect) → Called) (errno : ℕ) → Refused does old new row errno → (after : ℕ → List Effect) → stops old new (effects_of (row after))
  refused_stops old new row errno w after = stops_as held does stops laws old new (row after) (Gives w.effects errno) (w.row_is after) ((stops_follow held does stops laws).did old new w.effects w.apart.did)
