-- wait4: the buffer of the status, and who is found.
use Rattle.std.proofs.Common.{◌≡◌, ℕ, ◌<◌, ◌^◌, Bool, true, false, cond, ◌&&◌, ◌||◌, not, eqb, ltb, refl, sym, ◌∙◌, ap, subst, List, [], ◌∷◌, ◌++◌, append-nil, Option, Some, None, ℤ}
use Rattle.std.specs.Int.{cast_unsigned, cast_signed, w64}
use Rattle.std.proofs.lemmas.Int.{of_z-to_z}
use Rattle.lego_base.specs.Space.{bytes_of}
use Rattle.linux_model.specs.Limits.{ANY, ECHILD, EFAULT, EINVAL, is_negative}
use Rattle.linux_model.specs.State.{Kernel, Process}
use Rattle.linux_model.specs.Processes.{Dead, dead_child, dead_of, has_child, is_wanted, or_else}
use Rattle.linux_model.specs.Effects.{Effect, Reaps, Writes, CopyOut}
use Rattle.linux_model.specs.Called.{Called, Gives, Waits, following, says}
use Rattle.linux_model.specs.Buffers.{are_good, asks_pieces, where_good}
use Rattle.linux_model.specs.Held.{Held}
use Rattle.linux_model.specs.Managed.{Managed, managed_after, managed_after_all}
use Rattle.linux_model.specs.ProcessCalls.{reaps, status_buffer, wait4_row}
use Rattle.linux_model.proofs.Looking.{looking_is_still}
use Rattle.linux_model.proofs.Managing.{managed-append}
use Rattle.proc_table.specs.Entries.{reaped_of}
use Rattle.proc_table.specs.declared.table.Reaped.{Reaped}
use Rattle.proc_table.specs.declared.table.Reaped.TheVariants.{Child, NoChild, NotYet}
use Rattle.manager.specs.Words.{after_reaped}
use Rattle.call_machine.specs.declared.end.CallEnd.TheVariants.{Value, Waits as Waiting}
use Rattle.call_machine.specs.Lawful.{Lawful}
use Rattle.call_machine.specs.Laws.{effects_of}
use Rattle.call_machine.specs.Lent.{Ran, ended, kernel_of}
use Rattle.call_machine.proofs.Rows.{still_manages, stops_in}
use Rattle.sys_process.specs.Words.{status_copies}

-- ---- who is found

dead_wanted : (b : Bool) (rest : Bool) (s : Option Dead) (others : Option Dead) (d : Dead) → (others ≡ Some d → rest ≡ true) → or_else (cond b s None) others ≡ Some d → (b || rest) ≡ true
dead_wanted true rest s others d more e = refl
dead_wanted false rest s others d more e = more e

-- a dead child is a child
dead_has : (parent want : ℕ) (procs : List Process) (d : Dead) → dead_child parent want procs ≡ Some d → has_child parent want procs ≡ true
dead_has parent want [] d e = cc e
dead_has parent want (p ∷ procs) d e = dead_wanted (is_wanted parent want p) (has_child parent want procs) (dead_of p.pid p.state) (dead_child parent want procs) d (dead_has parent want procs d) e

none_found : (has : Bool) (dead : Option Dead) → reaped_of has dead ≡ NoChild → has ≡ false
none_found has (Some d) e = cc e
none_found true None e = cc e
none_found false None e = refl

yet_found : (has : Bool) (dead : Option Dead) → reaped_of has dead ≡ NotYet → (has ≡ true) × (dead ≡ None)
yet_found has (Some d) e = cc e
yet_found true None e = (refl, refl)
yet_found false None e = cc e

child_found : (has : Bool) (dead : Option Dead) (child status : ℕ) → reaped_of has dead ≡ Child (record { 0 = child }) status → dead ≡ Some (record { pid = child; status = status })
child_found has (Some d) child status e =
    let same : d.pid ≡ child = ap (λ (r : Reaped). pid_in d.pid r) e in
    let also : d.status ≡ status = ap (λ (r : Reaped). status_in d.status r) e in
    λ i. Some (record { pid = same i; status = also i })
  where
    pid_in : ℕ → Reaped → ℕ
    pid_in n (Child pid status) = pid.0
    pid_in n NoChild = n
    pid_in n NotYet = n

    status_in : ℕ → Reaped → ℕ
    status_in n (Child pid status) = status
    status_in n NoChild = n
    status_in n NotYet = n
child_found true None child status e = cc e
child_found false None child status e = cc e

-- ---- the row

abbrev faulty : ℕ → ℕ → ℕ → Bool
faulty want options usage = ltb 1 options || not (eqb usage 0) || eqb want 0 || is_negative want && not (eqb want ANY)

module _ (p : Process) (k : Kernel) (want address options usage pid : ℕ) (is : p.pid ≡ pid) (fair : faulty want options usage ≡ false) where
  abbrev found : Reaped
  found = reaped_of (has_child pid want k.procs) (dead_child pid want k.procs)

  abbrev rest : Option Dead → Called
  rest dead = where_good p k 2 (status_buffer address) (reaps p address options dead)

  -- by who is there
  by_has : wait4_row p k want address options usage ≡ cond (not (has_child pid want k.procs)) (says ECHILD) (rest (dead_child pid want k.procs))
  by_has =
      ap (λ (b : Bool). cond b (says EINVAL) (cond (not (has_child p.pid want k.procs)) (says ECHILD) (rest (dead_child p.pid want k.procs)))) fair
      ∙ λ i. cond (not (has_child (is i) want k.procs)) (says ECHILD) (rest (dead_child (is i) want k.procs))

  pub no_child : found ≡ NoChild → wait4_row p k want address options usage ≡ says ECHILD
  no_child e = by_has ∙ ap (λ (b : Bool). cond (not b) (says ECHILD) (rest (dead_child pid want k.procs))) (none_found _ (dead_child pid want k.procs) e)

  pub not_yet : found ≡ NotYet → wait4_row p k want address options usage ≡ rest None
  not_yet e =
      let both = yet_found (has_child pid want k.procs) (dead_child pid want k.procs) e in
      by_has ∙ λ i. cond (not (both.0 i)) (says ECHILD) (rest (both.1 i))

  pub a_child : (child status : ℕ) → found ≡ Child (record { 0 = child }) status → wait4_row p k want address options usage ≡ where_good p k 2 (status_buffer address) (reaps p address 0 (Some (record { pid = child; status = status })))
  a_child child status e =
      let dead = child_found (has_child pid want k.procs) (dead_child pid want k.procs) child status e in
      let has = dead_has pid want k.procs (record { pid = child; status = status }) dead in
      by_has ∙ λ i. cond (not (has i)) (says ECHILD) (rest (dead i))

-- the word of a number, and back, twice
pub back_is : (want : ℕ) (signed : ℤ) → want < 2 ^ 64 → signed ≡ cast_signed w64 want → cast_unsigned w64 (cast_signed w64 (cast_unsigned w64 signed)) ≡ want
back_is want signed h e =
    ap (λ (z : ℤ). cast_unsigned w64 (cast_signed w64 (cast_unsigned w64 z))) e
    ∙ ap (λ (n : ℕ). cast_unsigned w64 (cast_signed w64 n)) (of_z-to_z w64 want h)
    ∙ of_z-to_z w64 want h

-- ---- the buffer

module _ {X : Type 0} (held : X → Held) (does stops : X → X → List Effect → Type 0) (laws : Lawful held does stops) (pid : ℕ) (p : Process) (is : p.pid ≡ pid) (man : Managed) (k : Kernel) (address : ℕ) (a : X) (R : Called) where
  abbrev asks : List Effect
  asks = asks_pieces pid ((held a).space pid) 2 (status_buffer address)

  abbrev good : Bool
  good = are_good ((held a).space pid) 2 (status_buffer address)

  abbrev row : Called
  row = where_good p (kernel_of man (held a) k) 2 (status_buffer address) R

  row_is : row ≡ following asks (cond (not good) (says EFAULT) R)
  row_is = ap (λ (q : ℕ). following (asks_pieces q ((held a).space q) 2 (status_buffer address)) (cond (not (are_good ((held a).space q) 2 (status_buffer address))) (says EFAULT) R)) is

  good_row : true ≡ good → row ≡ following asks R
  good_row e = row_is ∙ ap (λ (b : Bool). following asks (cond (not b) (says EFAULT) R)) (sym e)

  pub asked_stops : (b : X) → stops a b asks → stops a b (effects_of row)
  asked_stops b s = stops_in held does stops laws a b asks row _ row_is s

  module _ (b : X) (asked : does a b asks) where
    still : managed_after_all asks man ≡ man
    still = still_manages asks (looking_is_still.checks pid ((held a).space pid) 2 (status_buffer address)) man

    pub bad_ends : false ≡ good → Ran does a b man man row (ended (Value EFAULT))
    bad_ends e = record {
      effects = asks;
      row_is = row_is ∙ ap (λ (b : Bool). following asks (cond (not b) (says EFAULT) R)) (sym e) ∙ ap (λ (es : List Effect). Gives es EFAULT) (append-nil asks);
      did = asked;
      managed = still;
    }

    pub says_ends : (value : ℕ) → true ≡ good → R ≡ says value → Ran does a b man man row (ended (Value value))
    says_ends value e r = record {
      effects = asks;
      row_is = good_row e ∙ ap (following asks) r ∙ ap (λ (es : List Effect). Gives es value) (append-nil asks);
      did = asked;
      managed = still;
    }

    pub waits_ends : true ≡ good → R ≡ Waits [] 0 0 → Ran does a b man man row (ended (Waiting (record { moved = 0; len = 0 })))
    waits_ends e r = record {
      effects = asks;
      row_is = good_row e ∙ ap (following asks) r ∙ ap (λ (es : List Effect). Waits es 0 0) (append-nil asks);
      did = asked;
      managed = still;
    }

    module _ (child status : ℕ) (fine : true ≡ good) (r : R ≡ reaps p address 0 (Some (record { pid = child; status = status }))) where
      abbrev copies : List Effect
      copies = status_copies pid address status

      takes : row ≡ Gives (asks ++ (Reaps child ∷ copies)) child
      takes = good_row fine ∙ ap (following asks) r ∙ ap (λ (q : ℕ). Gives (asks ++ (Reaps child ∷ status_copies q address status)) child) is

      copies_still : (b : Bool) (m : Managed) → managed_after_all (cond b [] (Writes CopyOut pid address (bytes_of 4 status) ∷ [])) m ≡ m
      copies_still true m = refl
      copies_still false m = refl

      pub takes_ends : (c : X) (man' : Managed) (reaped : Reaped) (value : ℕ) → value ≡ child → does b c copies → reaped ≡ Child (record { 0 = child }) status → man' ≡ after_reaped reaped man → Ran does a c man man' row (ended (Value value))
      takes_ends c man' reaped value same wrote e gone = record {
        effects = asks ++ (Reaps child ∷ copies);
        row_is = takes ∙ ap (λ (n : ℕ). Gives (asks ++ (Reaps child ∷ copies)) n) (sym same);
        did = laws.both a b c asks (Reaps child ∷ copies) asked (laws.both b b c (Reaps child ∷ []) copies (laws.apart b (Reaps child) refl) wrote);
        managed =
            managed-append asks (Reaps child ∷ copies) man
            ∙ ap (managed_after_all (Reaps child ∷ copies)) still
            ∙ copies_still (eqb address 0) (managed_after (Reaps child) man)
            ∙ sym (gone ∙ ap (λ (f : Reaped). after_reaped f man) e);
      }

      pub takes_stops : (c : X) → stops b c copies → stops a c (effects_of row)
      takes_stops c s = subst (stops a c) (sym (ap effects_of takes)) (laws.stops_then a b c asks (Reaps child ∷ copies) asked (laws.stops_then b b c (Reaps child ∷ []) copies (laws.apart b (Reaps child) refl) s))
