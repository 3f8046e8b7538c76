-- What each call on files did, from what the cluster's call did.
use Rattle.std.proofs.Common.{◌≡◌, ◌∙◌, ◌+◌, ◌<◌, ◌≤◌, [], ◌∷◌, ℕ, zero, suc, Bool, List, None, Option, Result, Some, ap, arith, cond, eqb, false, leb, length, ne_eqb, not, refl, subst, true}
use Rattle.lego_base.specs.Files.{file_bytes, is_file, named}
use Rattle.lego_base.specs.Pieces.{piece}
use Rattle.lego_base.specs.declared.ids.FileNo.{FileNo}
use Rattle.lego_base.specs.declared.sizes.TheConstants.{LONGEST_FILE}
use Rattle.lego_base.specs.declared.stops.Halt.{Halt}
use Rattle.lego_msg.specs.Granted.{FileFits, OpFits, IsThere}
use Rattle.lego_msg.specs.Replies.{made_reply}
use Rattle.lego_msg.specs.Track.{memory_count}
use Rattle.lego_msg.specs.declared.body.Body.{Body}
use Rattle.lego_msg.specs.declared.body.Body.TheVariants.{Done, NameIs, Refused, SizeIs}
use Rattle.lego_msg.specs.declared.place.Why.TheVariants as why
use Rattle.lego_msg.specs.declared.event.Event.{Event}
use Rattle.lego_msg.specs.declared.operation.Operation.{Operation}
use Rattle.lego_msg.specs.declared.operation.Operation.TheVariants as op
use Rattle.call_machine.specs.Effects.{made_file}
use Rattle.linux_model.specs.Limits.{FILES}
use Rattle.linux_model.specs.Effects.{AsksSize, CutsFile, Effect, FreesFile, LooksUp, MakesFile, ReadsFile, Unlinks, WritesFile}
use Rattle.cluster.proofs.Blockwise.{reads_fit, writes_fit}
use Rattle.cluster.specs.Answers.{made_body}
use Rattle.cluster.specs.Blocks.{reads_of, writes_of}
use Rattle.cluster.specs.Calls.{Calls}
use Rattle.cluster.specs.Logs.{AreDrained}
use Rattle.cluster.specs.Sequences.{AllGranted, CallsAll, all_free, all_served, free}
use Rattle.cluster.specs.Whole.{Whole}
use Rattle.ex_memory.proofs.Asked.{apart-reads-none, is_apart, one_call}
use Rattle.ex_memory.proofs.Ending.{Filed, IsOfFiles, files_end}
use Rattle.ex_memory.proofs.OfFiles.{bytes_short, cuts, finds, frees, lt_is_not_le, makes, reads, sizes, unlinks, writes}
use Rattle.ex_memory.specs.Seen.{held_of}
use Rattle.ex_memory.specs.Sound.{InOrder}
use Rattle.ex_memory.specs.Split.{Split, plain_of}

-- bytes that are some start where they should
some_start : (n off start : ℕ) → start ≡ cond (eqb (suc n) 0) 0 off → start ≡ off
some_start n off start from = from ∙ ap (λ (b : Bool). cond b 0 off) (ne_eqb (suc n) 0 (λ e. cc e))

-- no byte is that of any place
pub read_piece : (bytes : List ℕ) (off n start : ℕ) → start ≡ cond (eqb n 0) 0 off → piece bytes start n ≡ piece bytes off n
read_piece bytes off zero start from = refl
read_piece bytes off (suc n) start from = ap (λ (at : ℕ). piece bytes at (suc n)) (some_start n off start from)

-- the file of a name that was made
told_file : (file : Option FileNo) (full : Bool) (k : FileNo) → made_body file ≡ cond (not full) (NameIs (Some k)) (Refused why.NoRoom) → file ≡ cond full None (Some k)
told_file None true k told = refl
told_file None false k told = cc told
told_file (Some file) true k told = cc told
told_file (Some file) false k told = cc told

pub made_answer : (m : Split) (name : List ℕ) (file : Option FileNo) → named m.whole.disk.files.names name ≡ None → made_body file ≡ made_reply (named m.whole.disk.files.names name) m.whole.disk.files → file ≡ made_file (held_of m)
made_answer m name file none told =
    let f = m.whole.disk.files in
    told_file file (leb FILES (length f.files)) (record { 0 = f.next })
    (told ∙ ap (λ (o : Option FileNo). made_reply o f) none ∙ ap (λ (b : Bool). cond b (NameIs (Some (record { 0 = f.next }))) (Refused why.NoRoom)) (lt_is_not_le (length f.files) FILES))

module _ (m : Split) (order : InOrder m) where
  pub read_within : (file : FileNo) (off n start : ℕ) → m.whole.halt ≡ None → (0 < n → off + n ≤ length (file_bytes m.whole.disk.files.files file.0)) → start ≡ cond (eqb n 0) 0 off → start + n ≤ length (file_bytes m.whole.disk.files.files file.0)
  read_within file off zero start goes within from = omega (arith, from)
  read_within file off (suc n) start goes within from = let short = within (omega arith) in let same = some_start n off start from in omega (arith, same, short)

  pub read_most : (file : FileNo) (off n start : ℕ) → m.whole.halt ≡ None → (0 < n → off + n ≤ length (file_bytes m.whole.disk.files.files file.0)) → start ≡ cond (eqb n 0) 0 off → start + n ≤ 16777216
  read_most file off n start goes within from =
      let short = read_within file off n start goes within from in
      let most = bytes_short file.0 m.whole.disk.files.files (order.sound goes).files in
      omega (arith, short, most)

module _ {W : Type 0} (told : W → Option (List Event)) (faults : W → ℕ) (w w' : W) (m : Split) (d : Whole) (order : InOrder m) where
  -- AN OPERATION that is granted at rest
  one_granted : (o : Operation) → (m.whole.halt ≡ None → IsThere (memory_count m.whole.shape) o × OpFits m.whole.table.owners (plain_of m.whole) o × AreDrained (memory_count m.whole.shape) [] o) → m.whole.halt ≡ None → AllGranted m.whole (plain_of m.whole) m.by (free o ∷ [])
  one_granted o fits goes = let (there, fit, drained) = fits goes in
      record { stands = (order.sound goes).rests; issuer = order.issuer; drained = []; empty = tt; fit = (tt, there, fit, drained, tt) }

  pub find_filed : (name : List ℕ) (result : Result (Option FileNo) Halt) → Calls told faults w w' m.whole d m.by (op.GetsName name) NameIs result → Filed told faults w w' m d (LooksUp name) result
  find_filed name result calls =
      files_end told faults w w' m d (free (op.GetsName name) ∷ []) (LooksUp name) m.whole.disk.files (λ goes. finds m name) order.sound (one_granted (op.GetsName name) (λ goes. (tt, tt, tt))) result
      (one_call told faults w w' m.whole d m.by (op.GetsName name) NameIs result tt calls)

  pub make_filed : (name : List ℕ) (result : Result (Option FileNo) Halt) → named m.whole.disk.files.names name ≡ None → Calls told faults w w' m.whole d m.by (op.MakesName name) made_body result → Filed told faults w w' m d (MakesFile name) result
  make_filed name result none calls =
      files_end told faults w w' m d (free (op.MakesName name) ∷ []) (MakesFile name) _ (λ goes. makes m name (order.sound goes).rests.plain.numbers none) order.sound (one_granted (op.MakesName name) (λ goes. (tt, tt, tt))) result
      (one_call told faults w w' m.whole d m.by (op.MakesName name) made_body result tt calls)

  pub unlink_filed : {X : Type 0} (name : List ℕ) (result : Result X Halt) → Calls told faults w w' m.whole d m.by (op.CutsName name) (λ (x : X). Done) result → Filed told faults w w' m d (Unlinks name) result
  unlink_filed {X = X} name result calls =
      files_end told faults w w' m d (free (op.CutsName name) ∷ []) (Unlinks name) _ (λ goes. unlinks m name) order.sound (one_granted (op.CutsName name) (λ goes. (tt, tt, tt))) result
      (one_call told faults w w' m.whole d m.by (op.CutsName name) (λ (x : X). Done) result tt calls)

  pub free_filed : {X : Type 0} (file : FileNo) (result : Result X Halt) → Calls told faults w w' m.whole d m.by (op.FreesFile file) (λ (x : X). Done) result → Filed told faults w w' m d (FreesFile file.0) result
  free_filed {X = X} file result calls =
      files_end told faults w w' m d (free (op.FreesFile file) ∷ []) (FreesFile file.0) _ (λ goes. frees m file.0) order.sound (one_granted (op.FreesFile file) (λ goes. (tt, tt, tt))) result
      (one_call told faults w w' m.whole d m.by (op.FreesFile file) (λ (x : X). Done) result tt calls)

  pub size_filed : (file : FileNo) (result : Result ℕ Halt) → is_file m.whole.disk.files.files file.0 ≡ true → Calls told faults w w' m.whole d m.by (op.AsksSize file) SizeIs result → Filed told faults w w' m d (AsksSize file.0) result
  size_filed file result there calls =
      files_end told faults w w' m d (free (op.AsksSize file) ∷ []) (AsksSize file.0) _ (λ goes. sizes m file.0) order.sound (one_granted (op.AsksSize file) (λ goes. (tt, there, tt))) result
      (one_call told faults w w' m.whole d m.by (op.AsksSize file) SizeIs result tt calls)

  pub cut_filed : {X : Type 0} (file : FileNo) (size : ℕ) (result : Result X Halt) → is_file m.whole.disk.files.files file.0 ≡ true → size ≤ LONGEST_FILE → Calls told faults w w' m.whole d m.by (op.CutsFile file size) (λ (x : X). Done) result → Filed told faults w w' m d (CutsFile file.0 size) result
  cut_filed {X = X} file size result there most calls =
      files_end told faults w w' m d (free (op.CutsFile file size) ∷ []) (CutsFile file.0 size) _ (λ goes. cuts m file.0 size most) order.sound (one_granted (op.CutsFile file size) (λ goes. (tt, (there, most), tt))) result
      (one_call told faults w w' m.whole d m.by (op.CutsFile file size) (λ (x : X). Done) result tt calls)

  -- BLOCK BY BLOCK
  pub read_filed : (file : FileNo) (off n start : ℕ) (result : Result (List ℕ) Halt) → is_file m.whole.disk.files.files file.0 ≡ true → (0 < n → off + n ≤ length (file_bytes m.whole.disk.files.files file.0)) → start ≡ cond (eqb n 0) 0 off →
      CallsAll told faults w w' m.whole d m.by (reads_of file start n) (λ (x : List ℕ). all_served m.by (reads_of file start n)) result → Filed told faults w w' m d (ReadsFile file.0 off n) result
  read_filed file off zero start result there within from calls =
      files_end told faults w w' m d [] (ReadsFile file.0 off zero) m.whole.disk.files (λ goes. reads m file.0 off zero) order.sound
      (λ goes. record { stands = (order.sound goes).rests; issuer = order.issuer; drained = []; empty = tt; fit = tt })
      result calls
  read_filed file off (suc n) start result there within from calls =
      files_end told faults w w' m d (all_free (reads_of file off (suc n))) (ReadsFile file.0 off (suc n)) m.whole.disk.files (λ goes. reads m file.0 off (suc n)) order.sound
      (λ goes.
      let most = bytes_short file.0 m.whole.disk.files.files (order.sound goes).files in
      let short = within (omega arith) in
      record { stands = (order.sound goes).rests; issuer = order.issuer; drained = []; empty = tt; fit = reads_fit file off (suc n) (memory_count m.whole.shape) m.whole.table.owners (plain_of m.whole) (omega (arith, most, short)) there })
      result (subst (λ (at : ℕ). CallsAll told faults w w' m.whole d m.by (reads_of file at (suc n)) (λ (x : List ℕ). all_served m.by (reads_of file at (suc n))) result) (some_start n off start from) calls)

  pub write_filed : {X : Type 0} (file : FileNo) (off : ℕ) (bytes : List ℕ) (result : Result X Halt) → is_file m.whole.disk.files.files file.0 ≡ true → off + length bytes ≤ LONGEST_FILE →
      CallsAll told faults w w' m.whole d m.by (writes_of file off bytes) (λ (x : X). all_served m.by (writes_of file off bytes)) result → Filed told faults w w' m d (WritesFile file.0 off bytes) result
  write_filed file off bytes result there most calls =
      files_end told faults w w' m d (all_free (writes_of file off bytes)) (WritesFile file.0 off bytes) _ (λ goes. writes m file.0 off bytes (order.sound goes).files there most) order.sound
      (λ goes. record { stands = (order.sound goes).rests; issuer = order.issuer; drained = []; empty = tt; fit = writes_fit file off bytes (memory_count m.whole.shape) m.whole.table.owners (plain_of m.whole) most there })
      result calls
