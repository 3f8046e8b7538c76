-- What a memory does with a message, as the measure sees it: one lemma a row of the message table.
use Rattle.std.proofs.Common.{◌≡◌, ◌+◌, ◌-◌, ◌*◌, ◌/◌, ◌<◌, ◌≤◌, ◌&&◌, ◌||◌, [], ◌∷◌, ◌++◌, ◌∙◌, ℕ, Bool, List, None, Option, Some, ap, arith, cond, drop, eqb, false, length, length-append, ltb, map, nat_le, refl, slice_get, subst, suc, sym, true, zero}
use Rattle.std.proofs.lemmas.Bool.{eq-eqb, eqb-true, le-leb, lt-leb, ltb-false}
use Rattle.std.proofs.lemmas.List.{length-drop}
use Rattle.std.specs.Prelude.{slice_set}
use Rattle.lego_base.specs.Files.{named}
use Rattle.lego_base.specs.Space.{perms_of}
use Rattle.lego_base.specs.declared.ids.FileNo.{FileNo}
use Rattle.lego_base.specs.declared.ids.Pid.{Pid}
use Rattle.lego_base.specs.declared.ids.RegionNo.{RegionNo}
use Rattle.lego_base.specs.declared.perms.Perms.{Perms}
use Rattle.lego_base.specs.declared.records.Area.{Area}
use Rattle.lego_base.specs.declared.records.Patch.{Patch}
use Rattle.lego_msg.proofs.Rows.{region}
use Rattle.lego_msg.specs.Files.{file_cut, file_written, is_file_room, is_room}
use Rattle.lego_msg.specs.Maps.{areas_at, page_at, patched}
use Rattle.lego_msg.specs.Places.{memory}
use Rattle.lego_msg.specs.Run.{after}
use Rattle.lego_msg.specs.State.{Disk, Kept, Mem, kept, with_kept}
use Rattle.lego_msg.specs.Table.{answers, backed_up_row, backup, batch_gone, batched, block_in, copy_row, drain_row, drained, handled_body, is_batch_due, line_answer, log_row, made_name, read_block, reply, stored_body, unmap_row}
use Rattle.lego_msg.specs.declared.body.Body.{Body}
use Rattle.lego_msg.specs.declared.body.Body.TheVariants.{BackedUp, Backup, BlockCut, BlockGet, BlockIs, BlockPut, CopySpace, Done, Drain, Drained, DropSpace, FileCut, FileFree, FileRead, FileSize, FileWrite, Find, GetAreas, ImageCopy, ImageDrop, ImageFree, LogFull, LogWrite, NameAll, NameCut, NameGet, NameMake, PullImages, PullMeta, PullPages, PushImages, PushMeta, Read, Refused, ResetImages, SetAreas, SetHome, Unmap, Write, Wrote}
use Rattle.lego_msg.specs.declared.message.Message.{Message}
use Rattle.lego_msg.specs.declared.place.Role.{Role}
use Rattle.lego_msg.specs.declared.place.Role.TheVariants.{Main, Spare}
use Rattle.lego_waits.proofs.Totals.{total-each, total-map}
use Rattle.lego_waits.proofs.Weights.{weighs}
use Rattle.lego_waits.specs.Measure.{is_full, log_full, may_start, mem_weight, pick, total, unsent_weight, way, way_of, weight_of}
use Rattle.lego_msg.specs.declared.place.Why.TheVariants as why

-- WHAT A MEMORY DOES: the weights fall; or its log gets shorter; or a patch stays in it. `a` is the weight of the message that
-- it got, `k` whether a patch goes round with it.
pub data Handles (mems : List Mem) (i : ℕ) (s : Mem) (a k : ℕ) (s' : Mem) (out : List Message) : Type 0 where
  Lighter : log_full (Some s') ≡ log_full (Some s) → length s'.log ≤ length s.log → total way out + length s'.drains ≤ k + length s.drains → total (unsent_weight mems) out + mem_weight s' < 2 * a + mem_weight s → Handles mems i s a k s' out
  Shorter : length s'.log < length s.log → total way out + length s'.drains ≤ k + length s.drains → total (unsent_weight (slice_set mems i s')) out + mem_weight s' ≤ 19 * length s.drains + 10 → Handles mems i s a k s' out
  Stays : length s'.log ≤ length s.log + 1 → total way out + length s'.drains < k + length s.drains → total (unsent_weight (slice_set mems i s')) out + mem_weight s' ≤ 8 * length s.drains + 13 → Handles mems i s a k s' out

abbrev pub HandlesTo : List Mem → ℕ → Mem → ℕ → ℕ → Mem × List Message → Type 0
HandlesTo mems i s a k r = Handles mems i s a k r.0 r.1

-- nothing happens
none_happens : (mems : List Mem) (i : ℕ) (s : Mem) (a k : ℕ) → 1 ≤ a → HandlesTo mems i s a k (s, [])
none_happens mems i s a k some = Lighter refl (omega arith) (omega arith) (omega (arith, some))

-- one message, which no patch goes round with; log, drains and batch stay
one_sent : (mems : List Mem) (i : ℕ) (s s' : Mem) (a k : ℕ) (x : Message) → log_full (Some s') ≡ log_full (Some s) → length s'.log ≤ length s.log → length s'.drains ≤ length s.drains → mem_weight s' ≡ mem_weight s → way x ≡ 0 → unsent_weight mems x < 2 * a → HandlesTo mems i s a k (s', x ∷ [])
one_sent mems i s s' a k x full log drains weight none less = Lighter full log (omega (arith, none, drains)) (omega (arith, weight, less))

handled_either : (mems : List Mem) (i : ℕ) (s : Mem) (a k : ℕ) (x : Bool) (y z : Mem × List Message) → HandlesTo mems i s a k y → HandlesTo mems i s a k z → HandlesTo mems i s a k (cond x y z)
handled_either mems i s a k true y z p q = p
handled_either mems i s a k false y z p q = q

-- an answer at once, over what changes neither log nor drains nor batch
module _ (mems : List Mem) (i : ℕ) (s : Mem) (m : Message) where
  at_once : (k : ℕ) (b : Body) → weight_of mems (reply (memory s.id) m b) b ≡ 1 → way_of b ≡ 0 → HandlesTo mems i s 2 k (answers s m b)
  at_once k b light none = one_sent mems i s s 2 k (reply (memory s.id) m b) refl (omega arith) (omega arith) refl none (omega (arith, light))

  -- a role's lists change
  role_done : (k : ℕ) (role : Role) (kept : Kept) → HandlesTo mems i s 2 k (answers (with_kept s role kept) m Done)
  role_done k Main kept = one_sent mems i s (record s { main = kept }) 2 k (reply (memory s.id) m Done) refl (omega arith) (omega arith) refl refl (omega arith)
  role_done k Spare kept = one_sent mems i s (record s { spare = kept }) 2 k (reply (memory s.id) m Done) refl (omega arith) (omega arith) refl refl (omega arith)

  -- a role's lists change, and for its own sake the pages
  unmapped : (k : ℕ) (role : Role) (pid : Pid) (region : RegionNo) (first pages : ℕ) (areas : List Area) → HandlesTo mems i s 2 k (unmap_row s m pid region first pages areas role)
  unmapped k Main pid region first pages areas = one_sent mems i s _ 2 k _ refl (omega arith) (omega arith) refl refl (omega arith)
  unmapped k Spare pid region first pages areas = one_sent mems i s _ 2 k _ refl (omega arith) (omega arith) refl refl (omega arith)

  copied : (k : ℕ) (role : Role) (parent child : Pid) (regions : List RegionNo) → HandlesTo mems i s 2 k (copy_row s m parent child regions role)
  copied k Main parent child regions = handled_either mems i s 2 k _ _ _ (one_sent mems i s _ 2 k _ refl (omega arith) (omega arith) refl refl (omega arith)) (at_once k (Refused why.Full) refl refl)
  copied k Spare parent child regions = one_sent mems i s _ 2 k _ refl (omega arith) (omega arith) refl refl (omega arith)

  file_read : (k : ℕ) (cached : Option (List ℕ)) (file : FileNo) (block off len : ℕ) → HandlesTo mems i s 4 k (read_block cached s m file block off len)
  file_read k (Some bytes) file block off len = one_sent mems i s _ 4 k _ refl (omega arith) (omega arith) refl refl (omega arith)
  file_read k None file block off len = one_sent mems i s _ 4 k _ refl (omega arith) (omega arith) refl refl (omega arith)

-- LOGS

mem_most : (s : Mem) → mem_weight s ≤ 8 * length s.drains + 5
mem_most s = by (log_full (Some s)) (eqb s.out 0 || eqb (length s.log) 0)
  where
    by : (f g : Bool) → length s.drains * pick f 1 8 + pick g 5 0 ≤ 8 * length s.drains + 5
    by true true = omega arith
    by true false = omega arith
    by false true = omega arith
    by false false = omega arith

-- a drain that waits weighs less than the drain that came
waits_less : (f : Bool) (d c g : ℕ) → c ≡ d + 1 → c * pick f 1 8 + g < 2 * pick f 2 5 + (d * pick f 1 8 + g)
waits_less true d c g e = omega (arith, e)
waits_less false d c g e = omega (arith, e)

starts_so : (x y : Bool) → x ≡ true → pick (x || y) 5 0 ≡ 5
starts_so true y e = refl
starts_so false y e = cc e

starts_not : (x : Bool) → x ≡ false → pick (x || x) 5 0 ≡ 0
starts_not true e = cc e
starts_not false e = refl

first_is : (a b : Bool) → (a && b) ≡ true → a ≡ true
first_is true b e = refl
first_is false b e = cc e

differs : (a b : ℕ) → eqb a b ≡ false → a ≡ b → ⊥
differs a b e same = let both : true ≡ false = sym (eq-eqb a b same) ∙ e in cc both

one_more : {X : Type 0} (xs : List X) (x : X) → length (xs ++ x ∷ []) ≡ length xs + 1
one_more xs x = length-append xs (x ∷ [])

-- a batch goes out or not
batched_either : (mems : List Mem) (i : ℕ) (s : Mem) (a k : ℕ) (s1 : Mem) (after : List Message) →
    HandlesTo mems i s a k (s1, after) →
    (is_batch_due s1 ≡ true → HandlesTo mems i s a k (record s1 { out = length s1.log }, backup s1 ∷ after)) →
    HandlesTo mems i s a k (batched s1 after)
batched_either mems i s a k s1 after idle due = by (is_batch_due s1) refl
  where
    by : (x : Bool) → is_batch_due s1 ≡ x → HandlesTo mems i s a k (cond x (record s1 { out = length s1.log }, backup s1 ∷ after) (s1, after))
    by true e = due e
    by false e = idle

module _ (mems : List Mem) (i : ℕ) (s : Mem) (m : Message) (at : slice_get mems i ≡ Some s) (id : s.id ≡ i) (some : 0 < s.log_room) (to : m.to ≡ memory i) where
  full_here : is_full mems (memory s.id) ≡ log_full (Some s)
  full_here = ap (λ (k : ℕ). log_full (slice_get mems k)) id ∙ ap log_full at

  full_to : is_full mems m.to ≡ log_full (Some s)
  full_to = ap (is_full mems) to ∙ ap log_full at

  -- a drain that waits
  waiting_mem : Mem
  waiting_mem = record s { drains = s.drains ++ record { place = m.from; op = m.op.0 } ∷ [] }

  waits : (e : eqb (length s.log) 0 ≡ false) → HandlesTo mems i s (pick (log_full (Some s)) 2 5) 1 (batched (record s { drains = s.drains ++ record { place = m.from; op = m.op.0 } ∷ [] }) [])
  waits e = batched_either mems i s (pick (log_full (Some s)) 2 5) 1 (record s { drains = s.drains ++ record { place = m.from; op = m.op.0 } ∷ [] }) []
      (Lighter refl (omega arith) (omega (arith, more)) (let less = waits_less (log_full (Some s)) (length s.drains) _ (may_start s) more in omega (arith, less)))
      (λ due.
      let begins : may_start s ≡ 5 = starts_so (eqb s.out 0) (eqb (length s.log) 0) (first_is (eqb s.out 0) _ (first_is (eqb s.out 0 && ltb 0 (length s.log)) _ due)) in
      let ends : pick (eqb (length s.log) 0 || eqb (length s.log) 0) 5 0 ≡ 0 = starts_not (eqb (length s.log) 0) e in
      let less = waits_less (log_full (Some s)) (length s.drains) _ (may_start s) more in
      Lighter refl (omega arith) (omega (arith, more)) (omega (arith, begins, ends, less)))
    where
      more : length (s.drains ++ record { place = m.from; op = m.op.0 } ∷ []) ≡ length s.drains + 1
      more = one_more s.drains (record { place = m.from; op = m.op.0 })

  -- an empty log is drained
  drained_now : (e : eqb (length s.log) 0 ≡ true) → HandlesTo mems i s (pick (log_full (Some s)) 2 5) 1 (answers s m Drained)
  drained_now e =
      let empty : length s.log ≡ 0 = eqb-true (length s.log) 0 e in
      let room : log_full (Some s) ≡ false = lt-leb s.log_room (length s.log) (omega (arith, empty, some)) in
      let mine : pick (log_full (Some s)) 2 5 ≡ 5 = ap (λ (x : Bool). pick x 2 5) room in
      let its : pick (is_full mems (memory s.id)) 5 3 ≡ 3 = ap (λ (x : Bool). pick x 5 3) (full_here ∙ room) in
      Lighter refl (omega arith) (omega arith) (omega (arith, mine, its))

  drains : HandlesTo mems i s (weight_of mems m Drain) 1 (drain_row s m)
  drains = subst (λ (a : ℕ). HandlesTo mems i s a 1 (drain_row s m)) (ap (λ (x : Bool). pick x 2 5) (sym full_to)) (by (eqb (length s.log) 0) refl)
    where
      by : (x : Bool) → eqb (length s.log) 0 ≡ x → HandlesTo mems i s (pick (log_full (Some s)) 2 5) 1 (cond x (answers s m Drained) (batched (record s { drains = s.drains ++ record { place = m.from; op = m.op.0 } ∷ [] }) []))
      by true e = drained_now e
      by false e = waits e

  -- a patch stays in the log, or finds it full
  stays_in : (patch : Patch) → HandlesTo mems i s (pick (log_full (Some s)) 4 2) 1 (batched (record s { log = s.log ++ patch ∷ [] }) (reply (memory s.id) m Wrote ∷ []))
  stays_in patch =
      let more : length (s.log ++ patch ∷ []) ≡ length s.log + 1 = one_more s.log patch in
      let most : mem_weight (record s { log = s.log ++ patch ∷ [] }) ≤ 8 * length s.drains + 5 = mem_most (record s { log = s.log ++ patch ∷ [] }) in
      let most' : mem_weight (record s { log = s.log ++ patch ∷ []; out = length (s.log ++ patch ∷ []) }) ≤ 8 * length s.drains + 5 = mem_most (record s { log = s.log ++ patch ∷ []; out = length (s.log ++ patch ∷ []) }) in
      batched_either mems i s (pick (log_full (Some s)) 4 2) 1 (record s { log = s.log ++ patch ∷ [] }) (reply (memory s.id) m Wrote ∷ [])
      (Stays (omega (arith, more)) (omega arith) (omega (arith, most)))
      (λ due. Stays (omega (arith, more)) (omega arith) (omega (arith, most')))

  finds_full : ltb (length s.log) s.log_room ≡ false → HandlesTo mems i s (pick (log_full (Some s)) 4 2) 1 (answers s m LogFull)
  finds_full e =
      let full : log_full (Some s) ≡ true = le-leb s.log_room (length s.log) (ltb-false (length s.log) s.log_room e) in
      let mine : pick (log_full (Some s)) 4 2 ≡ 4 = ap (λ (x : Bool). pick x 4 2) full in
      let its : pick (is_full mems (memory s.id)) 3 6 ≡ 3 = ap (λ (x : Bool). pick x 3 6) (full_here ∙ full) in
      Lighter refl (omega arith) (omega arith) (omega (arith, mine, its))

  logs : (patch : Patch) → HandlesTo mems i s (weight_of mems m (LogWrite patch)) 1 (log_row s m patch)
  logs patch = subst (λ (a : ℕ). HandlesTo mems i s a 1 (log_row s m patch)) (ap (λ (x : Bool). pick x 4 2) (sym full_to)) (by (ltb (length s.log) s.log_room) refl)
    where
      by : (x : Bool) → ltb (length s.log) s.log_room ≡ x → HandlesTo mems i s (pick (log_full (Some s)) 4 2) 1 (cond x (batched (record s { log = s.log ++ patch ∷ [] }) (reply (memory s.id) m Wrote ∷ [])) (answers s m LogFull))
      by true e = stays_in patch
      by false e = finds_full e

  -- THE BATCH THAT WAS OUT IS REMOVED

  gone : Mem
  gone = record s { log = drop s.out s.log; out = 0 }

  -- all waiting drains are answered
  answered_all : total way (map (drained s.id) s.drains) ≡ length s.drains
  answered_all = total-map way (drained s.id) s.drains ∙ total-each 1 s.drains ∙ omega arith

  -- with a log that was empty already
  empty_gone : (e : eqb (length s.log) 0 ≡ true) → HandlesTo mems i s 1 0 (record s { log = drop s.out s.log; out = 0; drains = [] }, map (drained s.id) s.drains)
  empty_gone e =
      let empty : length s.log ≡ 0 = eqb-true (length s.log) 0 e in
      let none : length (drop s.out s.log) ≡ 0 = length-drop s.out s.log ∙ omega (arith, empty) in
      let room : log_full (Some s) ≡ false = lt-leb s.log_room (length s.log) (omega (arith, empty, some)) in
      let room' : log_full (Some (record s { log = drop s.out s.log; out = 0; drains = [] })) ≡ false = lt-leb s.log_room (length (drop s.out s.log)) (omega (arith, none, some)) in
      let eight : pick (log_full (Some s)) 1 8 ≡ 8 = ap (λ (x : Bool). pick x 1 8) room in
      let begins : may_start s ≡ 5 = starts_or (eqb s.out 0) (eqb (length s.log) 0) e in
      let three : 2 * pick (is_full mems (memory s.id)) 5 3 + 1 ≡ 7 = ap (λ (x : Bool). 2 * pick x 5 3 + 1) (full_here ∙ room) in
      let sum : total (unsent_weight mems) (map (drained s.id) s.drains) ≡ length s.drains * 7 =
      total-map (unsent_weight mems) (drained s.id) s.drains ∙ total-each (2 * pick (is_full mems (memory s.id)) 5 3 + 1) s.drains ∙ ap (λ (n : ℕ). length s.drains * n) three in
      let weight : mem_weight s ≡ length s.drains * 8 + 5 = λ j. length s.drains * eight j + begins j in
      Lighter (room' ∙ sym room) (omega (arith, none)) (omega (arith, answered_all)) (omega (arith, sum, weight))
    where
      starts_or : (x y : Bool) → y ≡ true → pick (x || y) 5 0 ≡ 5
      starts_or true y e = refl
      starts_or false true e = refl
      starts_or false false e = cc e

  -- with a log that gets shorter
  shorter : eqb s.out 0 ≡ false → eqb (length s.log) 0 ≡ false → length (drop s.out s.log) < length s.log
  shorter out log =
      let o : s.out ≡ 0 → ⊥ = differs s.out 0 out in
      let l : length s.log ≡ 0 → ⊥ = differs (length s.log) 0 log in
      let cut : length (drop s.out s.log) ≡ length s.log - s.out = length-drop s.out s.log in
      less s.out (length s.log) (length (drop s.out s.log)) o l cut
    where
      less : (o l c : ℕ) → (o ≡ 0 → ⊥) → (l ≡ 0 → ⊥) → c ≡ l - o → c < l
      less zero l c x y e = absurd (x refl)
      less (suc o) zero c x y e = absurd (y refl)
      less (suc o) (suc l) c x y e = omega (arith, e)

  all_drained : (mems' : List Mem) → total (unsent_weight mems') (map (drained s.id) s.drains) ≤ 11 * length s.drains
  all_drained mems' =
      let sum : total (unsent_weight mems') (map (drained s.id) s.drains) ≡ length s.drains * (2 * pick (is_full mems' (memory s.id)) 5 3 + 1) =
      total-map (unsent_weight mems') (drained s.id) s.drains ∙ total-each (2 * pick (is_full mems' (memory s.id)) 5 3 + 1) s.drains in
      by (is_full mems' (memory s.id)) (total (unsent_weight mems') (map (drained s.id) s.drains)) sum
    where
      by : (x : Bool) (t : ℕ) → t ≡ length s.drains * (2 * pick x 5 3 + 1) → t ≤ 11 * length s.drains
      by true t e = omega (arith, e)
      by false t e = omega (arith, e)

  shorter_gone : eqb s.out 0 ≡ false → eqb (length s.log) 0 ≡ false → HandlesTo mems i s 1 0 (batch_gone (record s { log = drop s.out s.log; out = 0 }))
  shorter_gone out log = by (eqb (length (drop s.out s.log)) 0)
    where
      less : length (drop s.out s.log) < length s.log
      less = shorter out log

      by : (x : Bool) → HandlesTo mems i s 1 0 (cond x (record s { log = drop s.out s.log; out = 0; drains = [] }, map (drained s.id) s.drains) (batched (record s { log = drop s.out s.log; out = 0 }) []))
      by true =
          let most : total (unsent_weight (slice_set mems i (record s { log = drop s.out s.log; out = 0; drains = [] }))) (map (drained s.id) s.drains) ≤ 11 * length s.drains = all_drained (slice_set mems i (record s { log = drop s.out s.log; out = 0; drains = [] })) in
          Shorter less (omega (arith, answered_all)) (omega (arith, most))
      by false =
          let most : mem_weight (record s { log = drop s.out s.log; out = 0 }) ≤ 8 * length s.drains + 5 = mem_most (record s { log = drop s.out s.log; out = 0 }) in
          let most' : mem_weight (record s { log = drop s.out s.log; out = length (drop s.out s.log) }) ≤ 8 * length s.drains + 5 = mem_most (record s { log = drop s.out s.log; out = length (drop s.out s.log) }) in
          batched_either mems i s 1 0 (record s { log = drop s.out s.log; out = 0 }) []
          (Shorter less (omega arith) (omega (arith, most)))
          (λ due. Shorter less (omega arith) (omega (arith, most')))

  backed_up : HandlesTo mems i s 1 0 (backed_up_row s)
  backed_up = by (eqb s.out 0) (eqb (length s.log) 0) refl refl
    where
      inner : (y : Bool) → eqb s.out 0 ≡ false → eqb (length s.log) 0 ≡ y → HandlesTo mems i s 1 0 (batch_gone (record s { log = drop s.out s.log; out = 0 }))
      inner true out log =
          let empty : length s.log ≡ 0 = eqb-true (length s.log) 0 log in
          let none : eqb (length (drop s.out s.log)) 0 ≡ true = eq-eqb (length (drop s.out s.log)) 0 (length-drop s.out s.log ∙ omega (arith, empty)) in
          subst (λ (x : Bool). HandlesTo mems i s 1 0 (cond x (record s { log = drop s.out s.log; out = 0; drains = [] }, map (drained s.id) s.drains) (batched (record s { log = drop s.out s.log; out = 0 }) []))) (sym none) (empty_gone log)
      inner false out log = shorter_gone out log

      by : (x y : Bool) → eqb s.out 0 ≡ x → eqb (length s.log) 0 ≡ y → HandlesTo mems i s 1 0 (cond x (s, []) (batch_gone (record s { log = drop s.out s.log; out = 0 })))
      by true y out log = none_happens mems i s 1 0 (omega arith)
      by false y out log = inner y out log

  -- EVERY MESSAGE
  pub handles : (b : Body) → HandlesTo mems i s (weight_of mems m b) (way_of b) (handled_body s m b)
  handles (Find pid region) = at_once mems i s m 0 _ refl refl
  handles (Read pid line) = reads (perms_of (areas_at s.main.areas pid.0 (line.0 / 32768)) (line.0 / 64))
    where
      reads : (perms : Option Perms) → HandlesTo mems i s 2 0 (answers s m (line_answer perms (page_at s.pages pid.0 (line.0 / 64)) line.0))
      reads None = at_once mems i s m 0 _ refl refl
      reads (Some perms) = at_once mems i s m 0 _ refl refl
  handles (Write patch) = handled_either mems i s 2 0 (nat_le (length (patched patch s.pages)) s.frames) _ _ (one_sent mems i s _ 2 0 _ refl (omega arith) (omega arith) refl refl (omega arith)) (at_once mems i s m 0 (Refused why.Full) refl refl)
  handles (LogWrite patch) = logs patch
  handles Drain = drains
  handles BackedUp = backed_up
  handles (SetHome pid region owner role) = role_done mems i s m 0 role _
  handles (SetAreas pid region areas role) = role_done mems i s m 0 role _
  handles (GetAreas pid region) = at_once mems i s m 0 _ refl refl
  handles (Unmap pid region first pages areas role) = unmapped mems i s m 0 role pid region first.0 pages areas
  handles (CopySpace parent child regions role) = copied mems i s m 0 role parent child regions
  handles (DropSpace pid) = one_sent mems i s _ 2 0 _ refl (omega arith) (omega arith) refl refl (omega arith)
  handles (FileRead file block off len) = file_read mems i s m 0 (block_in file.0 block s.blocks) file block off len
  handles (BlockIs file block off len asker bytes) = one_sent mems i s _ 2 0 _ refl (omega arith) (omega arith) refl refl (omega arith)
  handles (FileWrite file block off bytes) = one_sent mems i s _ 3 0 _ refl (omega arith) (omega arith) refl refl (omega arith)
  handles (FileCut file size) = one_sent mems i s _ 3 0 _ refl (omega arith) (omega arith) refl refl (omega arith)
  handles (PullMeta of role) = at_once mems i s m 0 _ refl refl
  handles (PushMeta role homes areas) = role_done mems i s m 0 role _
  handles (PullPages pid region) = at_once mems i s m 0 _ refl refl
  handles (PushImages pid region pages) = handled_either mems i s 2 0 _ _ _ (one_sent mems i s _ 2 0 _ refl (omega arith) (omega arith) refl refl (omega arith)) (at_once mems i s m 0 (Refused why.Full) refl refl)
  handles other = none_happens mems i s (weight_of mems m other) (way_of other) (weighs mems m other)

-- WHAT STORAGE DOES: what it sends weighs less, and no patch goes round with it
pub record Stores (mems : List Mem) (a : ℕ) (out : List Message) : Type 0 where
  pub none : total way out ≡ 0
  pub less : total (unsent_weight mems) out < 2 * a

module _ (mems : List Mem) (d : Disk) (m : Message) where
  stores_either : (a : ℕ) (x : Bool) (y z : Disk × List Message) → Stores mems a y.1 → Stores mems a z.1 → Stores mems a (cond x y z).1
  stores_either a true y z p q = p
  stores_either a false y z p q = q

  nothing_stored : (b : Body) → Stores mems (weight_of mems m b) []
  nothing_stored b = let some : 1 ≤ weight_of mems m b = weighs mems m b in record { none = refl; less = omega (arith, some) }

  named_so : (name : List ℕ) (file : Option FileNo) → Stores mems 2 (made_name file d m name).1
  named_so name (Some file) = record { none = refl; less = omega arith }
  named_so name None = stores_either 2 (is_file_room d.files) _ _ (record { none = refl; less = omega arith }) (record { none = refl; less = omega arith })

  pub stores : (b : Body) → Stores mems (weight_of mems m b) (stored_body d m b).1
  stores (Backup patches) = record { none = refl; less = omega arith }
  stores (ImageDrop pid first pages) = record { none = refl; less = omega arith }
  stores (ImageCopy parent child regions) = record { none = refl; less = omega arith }
  stores (ImageFree pid) = record { none = refl; less = omega arith }
  stores (PullImages pid region) = record { none = refl; less = omega arith }
  stores (ResetImages pid region pages) = record { none = refl; less = omega arith }
  stores (BlockGet file block off len asker) = record { none = refl; less = omega arith }
  stores (BlockPut file block off bytes asker) = stores_either 2 (is_room d.files (file_written d.files file.0 block off bytes)) _ _ (record { none = refl; less = omega arith }) (record { none = refl; less = omega arith })
  stores (BlockCut file size asker) = stores_either 2 (is_room d.files (file_cut d.files file.0 size)) _ _ (record { none = refl; less = omega arith }) (record { none = refl; less = omega arith })
  stores (FileSize file) = record { none = refl; less = omega arith }
  stores (NameGet name) = record { none = refl; less = omega arith }
  stores (NameMake name) = named_so name (named d.files.names name)
  stores (NameCut name) = record { none = refl; less = omega arith }
  stores NameAll = record { none = refl; less = omega arith }
  stores (FileFree file) = record { none = refl; less = omega arith }
  stores other = nothing_stored other
