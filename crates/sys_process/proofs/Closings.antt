-- Descriptors that are closed in rising order.
use Rattle.std.proofs.Common.{◌≡◌, ℕ, zero, suc, ◌+◌, ◌≤◌, ◌<◌, Bool, true, false, ◌||◌, refl, sym, ◌∙◌, ap, subst, List, [], ◌∷◌, ◌++◌, append_assoc, append-nil, length, drop, slice_set, Option, Some, None, Result, Ok, Err, OnOk, arith}
use Rattle.kernel_objects.specs.declared.descriptor.Description.{Description}
use Rattle.kernel_objects.specs.declared.descriptor.FdEntry.{FdEntry}
use Rattle.kernel_objects.specs.Slots.{holds_some, picks, slot}
use Rattle.linux_model.specs.State.{Kernel, Process, unbooted}
use Rattle.linux_model.specs.Processes.{fds_of, process}
use Rattle.linux_model.specs.Effects.{Effect, Closes, Dies, Drops, apply, applies, at_fd}
use Rattle.linux_model.specs.Descriptors.{closing, closing_if, closings, file_behind, freeing}
use Rattle.linux_model.specs.Held.{Held}
use Rattle.linux_model.specs.Managed.{Managed, managed_after, managed_after_all, managed_in, with_managed}
use Rattle.linux_model.specs.ProcessCalls.{dying}
use Rattle.linux_model.proofs.Managing.{closed_alone, managed-append, managed_goes_alone}
use Rattle.linux_model.proofs.fits.Found.{closing_procs, none_after, process_at}
use Rattle.call_machine.specs.Lawful.{Lawful}
use Rattle.sys_process.specs.Words.{closing_of, closings_of}

-- ---- the table of descriptors

abbrev first_of : List (Option FdEntry) → Option FdEntry
first_of [] = None
first_of (x ∷ fds) = x

slot_first : (n : ℕ) (fds : List (Option FdEntry)) → slot fds n ≡ first_of (drop n fds)
slot_first zero [] = refl
slot_first zero (x ∷ fds) = refl
slot_first (suc n) [] = refl
slot_first (suc n) (x ∷ fds) = slot_first n fds

first_drops : (n : ℕ) (fds : List (Option FdEntry)) → n < length fds → drop n fds ≡ first_of (drop n fds) ∷ drop (suc n) fds
first_drops n [] h = absurd (omega (arith, h))
first_drops zero (x ∷ fds) h = refl
first_drops (suc n) (x ∷ fds) h = first_drops n fds (omega (arith, h))

drop_same : (n : ℕ) (fds gds : List (Option FdEntry)) → drop n fds ≡ drop n gds → drop (suc n) fds ≡ drop (suc n) gds
drop_same n fds gds e = one_more n fds ∙ ap (drop 1) e ∙ sym (one_more n gds)
  where
    one_more : (n : ℕ) (fds : List (Option FdEntry)) → drop (suc n) fds ≡ drop 1 (drop n fds)
    one_more zero [] = refl
    one_more zero (x ∷ fds) = refl
    one_more (suc n) [] = refl
    one_more (suc n) (x ∷ fds) = one_more n fds

drop_set : (n : ℕ) (fds : List (Option FdEntry)) → drop (suc n) (slice_set fds n None) ≡ drop (suc n) fds
drop_set zero [] = refl
drop_set zero (x ∷ fds) = refl
drop_set (suc n) [] = refl
drop_set (suc n) (x ∷ fds) = drop_set n fds

all_dropped : (n : ℕ) (fds : List (Option FdEntry)) → length fds ≤ n → drop n fds ≡ []
all_dropped zero [] h = refl
all_dropped (suc n) [] h = refl
all_dropped zero (x ∷ fds) h = absurd (omega (arith, h))
all_dropped (suc n) (x ∷ fds) h = all_dropped n fds (omega (arith, h))

-- ---- one descriptor

-- what closing comes to depends on what is managed alone
freeing_same : (file : Option ℕ) (k l : Kernel) → k.descs ≡ l.descs → freeing file k ≡ freeing file l
freeing_same None k l e = refl
freeing_same (Some file) k l e = ap (λ (descs : List (Option Description)). freeing (Some file) (record l { descs = descs })) e

behind_same : (o : Option Process) (fd : ℕ) (m : Managed) (k l : Kernel) → file_behind o fd (with_managed m k) ≡ file_behind o fd (with_managed m l)
behind_same None fd m k l = refl
behind_same (Some p) fd m k l = refl

closing_same : (pid fd : ℕ) (m : Managed) (k l : Kernel) → closing pid fd (with_managed m k) ≡ closing pid fd (with_managed m l)
closing_same pid fd m k l =
    let after : Kernel = apply (Closes pid fd) (with_managed m k) in
    let other : Kernel = apply (Closes pid fd) (with_managed m l) in
    let descs : after.descs ≡ other.descs = ap (λ (m : Managed). m.descs) (closed_alone pid fd (with_managed m k) ∙ sym (closed_alone pid fd (with_managed m l))) in
    ap (λ (es : List Effect). Closes pid fd ∷ es)
    (ap (λ (file : Option ℕ). freeing file after) (behind_same (process m.procs pid) fd m k l)
    ∙ freeing_same (file_behind (process m.procs pid) fd (with_managed m l)) after other descs)

closing_if_same : (b : Bool) (pid fd : ℕ) (m : Managed) (k l : Kernel) → closing_if b pid fd (with_managed m k) ≡ closing_if b pid fd (with_managed m l)
closing_if_same true pid fd m k l = closing_same pid fd m k l
closing_if_same false pid fd m k l = refl

-- a descriptor that isn't to be closed
pub stays_open : (all : Bool) (x : Option FdEntry) (pid fd : ℕ) (m : Managed) (k : Kernel) → slot (fds_of (process m.procs pid)) fd ≡ x → picks (λ e. all || e.cloexec) x ≡ false → [] ≡ closing_of all pid fd m k
stays_open all x pid fd m k is none = ap (λ (b : Bool). closing_if b pid fd (with_managed m k)) (sym (ap (picks (λ e. all || e.cloexec)) is ∙ none))

-- and one that is
pub is_closed : (all : Bool) (x : Option FdEntry) (pid fd : ℕ) (m : Managed) (k : Kernel) → slot (fds_of (process m.procs pid)) fd ≡ x → picks (λ e. all || e.cloexec) x ≡ true → closing_of all pid fd m k ≡ closing pid fd (with_managed m k)
is_closed all x pid fd m k is picked = ap (λ (b : Bool). closing_if b pid fd (with_managed m k)) (ap (picks (λ e. all || e.cloexec)) is ∙ picked)

-- what holds whatever the result is
pub always : {A E : Type 0} (P : Type 0) (r : Result A E) → P → OnOk r P
always P (Ok value) h = h
always P (Err error) h = tt

-- ---- all of them, one after the other

pub record Closing {X : Type 0} (does : X → X → List Effect → Type 0) (a b : X) (man man' : Managed) (all : Bool) (pid fd : ℕ) : Type 0 where
  pub p : Process
  pub there : process man.procs pid ≡ Some p
  pub slots : length p.fds ≡ 64
  pub done : List Effect
  pub did : does a b done
  pub managed : managed_after_all done man ≡ man'
  pub rest : (k : Kernel) → (k' : Kernel) × (closings (λ e. all || e.cloexec) pid 0 p.fds (with_managed man k) ≡ done ++ closings (λ e. all || e.cloexec) pid fd (drop fd p.fds) (with_managed man' k'))
  pub fds : List (Option FdEntry)
  pub now : process man'.procs pid ≡ Some (record p { fds = fds })
  pub left : drop fd fds ≡ drop fd p.fds

-- the process once a descriptor was closed, or wasn't
pub record Next (man' : Managed) (pid fd : ℕ) (p : Process) : Type 0 where
  pub fds : List (Option FdEntry)
  pub now : process man'.procs pid ≡ Some (record p { fds = fds })
  pub left : drop (suc fd) fds ≡ drop (suc fd) p.fds

next_of : (b : Bool) (man man' : Managed) (pid fd : ℕ) (p : Process) (fds : List (Option FdEntry)) → process man.procs pid ≡ Some (record p { fds = fds }) → drop fd fds ≡ drop fd p.fds → managed_after_all (closing_if b pid fd (with_managed man (unbooted []))) man ≡ man' → Next man' pid fd p
next_of false man man' pid fd p fds is left same = record {
  fds = fds;
  now = ap (λ (m : Managed). process m.procs pid) (sym same) ∙ is;
  left = drop_same fd fds p.fds left;
}
next_of true man man' pid fd p fds is left same =
    let k : Kernel = with_managed man (unbooted []) in
    record {
      fds = slice_set fds fd None;
      now =
          ap (λ (m : Managed). process m.procs pid) (sym same ∙ sym (managed_goes_alone (closing pid fd k) k))
          ∙ ap (λ (procs : List Process). process procs pid) (closing_procs pid fd k)
          ∙ process_at (at_fd fd None) (λ p. refl) man.procs pid (record p { fds = fds }) is;
      left = drop_set fd fds ∙ drop_same fd fds p.fds left;
    }

module _ {X : Type 0} (held : X → Held) (does stops : X → X → List Effect → Type 0) (laws : Lawful held does stops) (all : Bool) (pid : ℕ) (man : Managed) (a : X) where
  abbrev test : FdEntry → Bool
  test e = all || e.cloexec

  pub begins : (p : Process) → process man.procs pid ≡ Some p → length p.fds ≡ 64 → Closing does a a man man all pid 0
  begins p there slots = record {
    p = p;
    there = there;
    slots = slots;
    done = [];
    did = laws.none a;
    managed = refl;
    rest = λ k. (k, refl);
    fds = p.fds;
    now = there;
    left = refl;
  }

  -- the closings of the process
  abbrev whole : Kernel → List Effect
  whole k = closings_of all pid man k

  module _ (b : X) (man' : Managed) (fd : ℕ) (r : Closing does a b man man' all pid fd) where
    whole_is : (k : Kernel) → whole k ≡ r.done ++ closings test pid fd (drop fd r.p.fds) (with_managed man' (r.rest k).0)
    whole_is k = ap (λ (o : Option Process). closings test pid 0 (fds_of o) (with_managed man k)) r.there ∙ (r.rest k).1

    -- this descriptor
    x_is : slot (fds_of (process man'.procs pid)) fd ≡ first_of (drop fd r.p.fds)
    x_is = ap (λ (o : Option Process). slot (fds_of o) fd) r.now ∙ slot_first fd r.fds ∙ ap first_of r.left

    here : (k : Kernel) → closing_if (picks test (first_of (drop fd r.p.fds))) pid fd (with_managed man' k) ≡ closing_of all pid fd man' k
    here k = ap (λ (x : Option FdEntry). closing_if (picks test x) pid fd (with_managed man' k)) (sym x_is)

    module _ (low : fd < 64) where
      splits : drop fd r.p.fds ≡ first_of (drop fd r.p.fds) ∷ drop (suc fd) r.p.fds
      splits = first_drops fd r.p.fds (omega (arith, low, r.slots))

      next_is : (k : Kernel) → closings test pid fd (drop fd r.p.fds) (with_managed man' k) ≡ closing_of all pid fd man' k ++ closings test pid (fd + 1) (drop (suc fd) r.p.fds) (applies (closing_of all pid fd man' k) (with_managed man' k))
      next_is k =
          ap (λ (fds : List (Option FdEntry)). closings test pid fd fds (with_managed man' k)) splits
          ∙ ap (λ (es : List Effect). es ++ closings test pid (fd + 1) (drop (suc fd) r.p.fds) (applies es (with_managed man' k))) (here k)

      pub stopped : (c : X) (k : Kernel) → ((k : Kernel) → stops b c (closing_of all pid fd man' k)) → stops a c (whole k)
      stopped c k s =
          let k' : Kernel = (r.rest k).0 in
          subst (stops a c) (sym (whole_is k ∙ ap (λ (es : List Effect). r.done ++ es) (next_is k')))
          (laws.stops_then a b c r.done _ r.did (laws.stops_front b c (closing_of all pid fd man' k') _ (s k')))

      pub goes_on : (c : X) (man'' : Managed) → ((k : Kernel) → does b c (closing_of all pid fd man' k)) → ((k : Kernel) → managed_after_all (closing_of all pid fd man' k) man' ≡ man'') → Closing does a c man man'' all pid (fd + 1)
      goes_on c man'' d m =
          let bare : Kernel = unbooted [] in
          let es : List Effect = closing_of all pid fd man' bare in
          let one : suc fd ≡ fd + 1 = omega arith in
          let next : Next man'' pid fd r.p = next_of (picks test (first_of (drop fd r.p.fds))) man' man'' pid fd r.p r.fds r.now r.left (ap (λ (es : List Effect). managed_after_all es man') (here bare) ∙ m bare) in
          record {
            p = r.p;
            there = r.there;
            slots = r.slots;
            done = r.done ++ es;
            did = laws.both a b c r.done es r.did (d bare);
            managed = managed-append r.done es man ∙ ap (managed_after_all es) r.managed ∙ m bare;
            rest = λ k.
                let k' : Kernel = (r.rest k).0 in
                let fs : List Effect = closing_of all pid fd man' k' in
                let after : Kernel = applies fs (with_managed man' k') in
                let same : with_managed (managed_in after) after ≡ with_managed man'' after = ap (λ (m : Managed). with_managed m after) (managed_goes_alone fs (with_managed man' k') ∙ m k') in
                let alike : fs ≡ es = closing_if_same (picks test (slot (fds_of (process man'.procs pid)) fd)) pid fd man' k' bare in (
                  after,
                  (r.rest k).1 ∙ ap (λ (gs : List Effect). r.done ++ gs) (next_is k')
                      ∙ (λ i. r.done ++ (alike i ++ closings test pid (fd + 1) (drop (one i) r.p.fds) (same i)))
                      ∙ sym (append_assoc r.done es (closings test pid (fd + 1) (drop (fd + 1) r.p.fds) (with_managed man'' after))),
                );
            fds = next.fds;
            now = next.now;
            left = subst (λ (n : ℕ). drop n next.fds ≡ drop n r.p.fds) one next.left;
          }

    ended : 64 ≤ fd → (k : Kernel) → whole k ≡ r.done
    ended high k =
        whole_is k
        ∙ ap (λ (fds : List (Option FdEntry)). r.done ++ closings test pid fd fds (with_managed man' (r.rest k).0)) (all_dropped fd r.p.fds (omega (arith, high, r.slots)))
        ∙ append-nil r.done

    pub all_did : 64 ≤ fd → (k : Kernel) → does a b (whole k)
    all_did high k = subst (does a b) (sym (ended high k)) r.did

    pub all_managed : 64 ≤ fd → (k : Kernel) → managed_after_all (whole k) man ≡ man'
    all_managed high k = ap (λ (es : List Effect). managed_after_all es man) (ended high k) ∙ r.managed

-- ---- death

-- nothing is open once all was closed
pub none_open : (pid : ℕ) (man man' : Managed) (p : Process) → process man.procs pid ≡ Some p → managed_after_all (closings_of true pid man (unbooted [])) man ≡ man' → holds_some (λ e. true) (fds_of (process man'.procs pid)) ≡ false
none_open pid man man' p is after =
    let k : Kernel = with_managed man (unbooted []) in
    let es : List Effect = closings (λ e. true) pid 0 p.fds k in
    let all = none_after pid p k is in
    let same : es ≡ closings_of true pid man (unbooted []) = ap (λ (o : Option Process). closings (λ e. true) pid 0 (fds_of o) k) (sym is) in
    let there : process man'.procs pid ≡ Some all.0 = ap (λ (m : Managed). process m.procs pid) (sym after ∙ ap (λ (es : List Effect). managed_after_all es man) (sym same) ∙ sym (managed_goes_alone es k)) ∙ all.1.0 in
    ap (λ (o : Option Process). holds_some (λ e. true) (fds_of o)) there ∙ all.1.1

module _ {X : Type 0} (held : X → Held) (does stops : X → X → List Effect → Type 0) (laws : Lawful held does stops) (pid status : ℕ) (man : Managed) (k : Kernel) (a b : X) where
  abbrev closes : List Effect
  closes = closings_of true pid man k

  abbrev ends : List Effect
  ends = Dies pid status ∷ Drops pid ∷ []

  pub closing_stops : stops a b closes → stops a b (dying pid status (with_managed man k))
  closing_stops s = laws.stops_front a b closes ends s

  module _ (closed : does a b closes) where
    pub closed_all_stops : stops a b (dying pid status (with_managed man k))
    closed_all_stops = laws.stops_then a b b closes ends closed (laws.stops_front b b [] ends (laws.not_begun b))

    pub drops_stops : (c : X) → stops b c (Drops pid ∷ []) → stops a c (dying pid status (with_managed man k))
    drops_stops c s = laws.stops_then a b c closes ends closed (laws.stops_then b b c (Dies pid status ∷ []) (Drops pid ∷ []) (laws.apart b (Dies pid status) refl) s)

    pub dies_does : (c : X) → does b c (Drops pid ∷ []) → does a c (dying pid status (with_managed man k))
    dies_does c d = laws.both a b c closes ends closed (laws.both b b c (Dies pid status ∷ []) (Drops pid ∷ []) (laws.apart b (Dies pid status) refl) d)

  pub dies_managed : (man' man'' : Managed) → managed_after_all closes man ≡ man' → man'' ≡ managed_after (Dies pid status) man' → managed_after_all (dying pid status (with_managed man k)) man ≡ man''
  dies_managed man' man'' m e = managed-append closes ends man ∙ ap (managed_after_all ends) m ∙ sym e
