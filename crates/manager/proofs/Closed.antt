-- What `close` makes of the tables, as it finds them: whether its description ended, and which file may go.
use Rattle.std.proofs.Common.{◌≡◌, ℕ, ◌+◌, ◌≤◌, Bool, true, false, cond, ◌==◌, refl, sym, ◌∙◌, ap, subst, List, [], ◌∷◌, slice_index, Option, Some, None, is_some, arith}
use Rattle.std.specs.Prelude.{option_and_then}
use Rattle.std.proofs.lemmas.Bool.{eq-eqb}
use Rattle.lego_base.specs.declared.ids.FileNo.{FileNo}
use Rattle.lego_base.specs.declared.report.Exit.{Exit}
use Rattle.kernel_objects.specs.declared.descriptor.Description.{Description}
use Rattle.kernel_objects.specs.declared.descriptor.FdEntry.{FdEntry}
use Rattle.kernel_objects.specs.declared.descriptor.Object.{Object}
use Rattle.kernel_objects.specs.declared.descriptor.Object.TheVariants.{PipeRead, PipeWrite, Input, Output, Regular}
use Rattle.kernel_objects.specs.Slots.{slot, freed}
use Rattle.linux_model.specs.State.{Kernel, Process}
use Rattle.linux_model.specs.Processes.{process, fds_of, has_file, is_file_object, is_reading_end, is_writing_end}
use Rattle.linux_model.specs.Effects.{Effect, Closes, FreesFile, apply}
use Rattle.linux_model.specs.Descriptors.{Open, closing, freeing, file_behind, file_of, file_open_on, open_on}
use Rattle.linux_model.specs.Managed.{Managed, managed_in, managed_after, with_managed}
use Rattle.linux_model.proofs.Managing.{managed_alone}
use Rattle.linux_model.proofs.fits.Slots.{none_held}
use Rattle.proc_table.specs.Entries.{Table}
use Rattle.manager.specs.Counting.{one_if, OneFewer, readers, writers}
use Rattle.manager.specs.Sound.{Counted, Sound, managed_of}
use Rattle.manager.specs.Tables.{DescTable, PipeTable, PipeThere, pipes_left}
use Rattle.manager.specs.Words.{file_left, frees}
use Rattle.manager.proofs.Closing.{closed_shared, closed_last, still_managed, last_managed, closed_table}

-- ---- whether it ended

pub not_last : {X : Type 0} (b : Bool) (x : Option X) → is_some x ≡ true → cond b x None ≡ None → b ≡ false
not_last true x some none = let gone = ap (λ (o : Option _). is_some o) none in absurd (cc (some, gone))
not_last false x some none = refl

pub record IsLast {X : Type 0} (b : Bool) (x : Option X) (y : X) : Type 0 where
  pub last : b ≡ true
  pub is : x ≡ Some y

pub was_last : {X : Type 0} (b : Bool) (x : Option X) (y : X) → cond b x None ≡ Some y → IsLast b x y
was_last true x y e = record { last = refl; is = e }
was_last false x y e = cc e

pub still_sound : (t : Table) (d : DescTable) (p : PipeTable) (t' : Table) (d' : DescTable) (pid fd : ℕ) (e : FdEntry) → slot (fds_of (process t.procs pid)) fd ≡ Some e
    → (b : Bool) → b ≡ false → t' ≡ closed_table t pid fd → d'.descs ≡ cond b (freed d.descs e.desc) d.descs → OneFewer e.desc d.refs d'.refs → Sound t d p → Sound t' d' p
still_sound t d p t' d' pid fd e is b isnt table descs less s =
    let same : d'.descs ≡ d.descs = descs ∙ ap (λ (c : Bool). cond c (freed d.descs e.desc) d.descs) isnt in
    let is_d : d' ≡ record { descs = d.descs; refs = d'.refs } = λ i. record { descs = same i; refs = d'.refs } in
    subst (λ (t'' : Table). Sound t'' d' p) (sym table)
    (subst (λ (d'' : DescTable). Sound (closed_table t pid fd) d'' p) (sym is_d) (closed_shared t d p d'.refs pid fd e is less s))

pub last_sound : (t : Table) (d : DescTable) (p : PipeTable) (t' : Table) (d' : DescTable) (p' : PipeTable) (pid fd : ℕ) (e : FdEntry) (x : Description) → slot (fds_of (process t.procs pid)) fd ≡ Some e
    → IsLast (slice_index d.refs e.desc == 1) (slot d.descs e.desc) x
    → t' ≡ closed_table t pid fd → d'.descs ≡ cond (slice_index d.refs e.desc == 1) (freed d.descs e.desc) d.descs → OneFewer e.desc d.refs d'.refs
    → p'.pipes ≡ pipes_left x.object p'.readers p'.writers p.pipes
    → ((n : ℕ) → slice_index p'.readers n + one_if (is_reading_end n x.object) ≡ slice_index p.readers n)
    → ((n : ℕ) → slice_index p'.writers n + one_if (is_writing_end n x.object) ≡ slice_index p.writers n)
    → Sound t d p → Sound t' d' p'
last_sound t d p t' d' p' pid fd e x is l table descs less pipes reading writing s =
    let gone : d'.descs ≡ freed d.descs e.desc = descs ∙ ap (λ (c : Bool). cond c (freed d.descs e.desc) d.descs) l.last in
    let is_d : d' ≡ record { descs = freed d.descs e.desc; refs = d'.refs } = λ i. record { descs = gone i; refs = d'.refs } in
    let is_p : p' ≡ record { pipes = pipes_left x.object p'.readers p'.writers p.pipes; readers = p'.readers; writers = p'.writers } = λ i. record { pipes = pipes i; readers = p'.readers; writers = p'.writers } in
    subst (λ (t'' : Table). Sound t'' d' p') (sym table)
    (subst (λ (d'' : DescTable). Sound (closed_table t pid fd) d'' p') (sym is_d)
    (subst (λ (p'' : PipeTable). Sound (closed_table t pid fd) (record { descs = freed d.descs e.desc; refs = d'.refs }) p'') (sym is_p)
    (closed_last t d p d'.refs p'.readers p'.writers pid fd e x is l.is l.last less reading writing s)))

pub still_effect : (t : Table) (d : DescTable) (p : PipeTable) (t' : Table) (d' : DescTable) (input : List ℕ) (exits : List Exit) (pid fd : ℕ) (e : FdEntry) → slot (fds_of (process t.procs pid)) fd ≡ Some e
    → (slice_index d.refs e.desc == 1) ≡ false → t' ≡ closed_table t pid fd → d'.descs ≡ cond (slice_index d.refs e.desc == 1) (freed d.descs e.desc) d.descs → Counted t d p
    → managed_after (Closes pid fd) (managed_of t d p input exits) ≡ managed_of t' d' p input exits
still_effect t d p t' d' input exits pid fd e is isnt table descs c =
    let same : d'.descs ≡ d.descs = descs ∙ ap (λ (c : Bool). cond c (freed d.descs e.desc) d.descs) isnt in
    still_managed t d p input exits pid fd e is isnt c
    ∙ (λ i. record { procs = (sym table i).procs; last = (sym table i).last; descs = sym same i; pipes = p.pipes; input = input; exits = exits })

pub last_effect : (t : Table) (d : DescTable) (p : PipeTable) (t' : Table) (d' : DescTable) (p' : PipeTable) (input : List ℕ) (exits : List Exit) (pid fd : ℕ) (e : FdEntry) (x : Description) → slot (fds_of (process t.procs pid)) fd ≡ Some e
    → IsLast (slice_index d.refs e.desc == 1) (slot d.descs e.desc) x
    → t' ≡ closed_table t pid fd → d'.descs ≡ cond (slice_index d.refs e.desc == 1) (freed d.descs e.desc) d.descs
    → p'.pipes ≡ pipes_left x.object p'.readers p'.writers p.pipes
    → ((n : ℕ) → slice_index p'.readers n + one_if (is_reading_end n x.object) ≡ slice_index p.readers n)
    → ((n : ℕ) → slice_index p'.writers n + one_if (is_writing_end n x.object) ≡ slice_index p.writers n)
    → Counted t d p → managed_after (Closes pid fd) (managed_of t d p input exits) ≡ managed_of t' d' p' input exits
last_effect t d p t' d' p' input exits pid fd e x is l table descs pipes reading writing c =
    let gone : d'.descs ≡ freed d.descs e.desc = descs ∙ ap (λ (c : Bool). cond c (freed d.descs e.desc) d.descs) l.last in
    last_managed t d p p'.readers p'.writers input exits pid fd e x is l.is l.last reading writing c
    ∙ (λ i. record { procs = (sym table i).procs; last = (sym table i).last; descs = sym gone i; pipes = sym pipes i; input = input; exits = exits })

-- ---- what `Pipes.end` asks

ends_counted : (r : ℕ) (n : ℕ) (old new : ℕ → ℕ) → new n + r ≡ old n → r ≤ old n
ends_counted r n old new e = omega (arith, e)

pub pipe_there : (t : Table) (d : DescTable) (p : PipeTable) (x : Object) → Counted t d p
    → ((n : ℕ) → one_if (is_reading_end n x) ≤ readers n d.descs) → ((n : ℕ) → one_if (is_writing_end n x) ≤ writers n d.descs) → PipeThere p.pipes x
pipe_there t d p (PipeRead m) c r w = c.there m (let a = r m in let one = ap one_if (eq-eqb m m refl) in omega (arith, a, one))
pipe_there t d p (PipeWrite m) c r w = c.there m (let a = w m in let one = ap one_if (eq-eqb m m refl) in omega (arith, a, one))
pipe_there t d p Input c r w = tt
pipe_there t d p (Output stream) c r w = tt
pipe_there t d p (Regular file) c r w = tt

-- ---- which file may go

abbrev may_go : Option ℕ → List (Option Description) → List Effect
may_go None descs = []
may_go (Some file) descs = cond (has_file file descs) [] (FreesFile file ∷ [])

freeing_is : (file : Option ℕ) (k : Kernel) → freeing file k ≡ may_go file k.descs
freeing_is None k = refl
freeing_is (Some file) k = refl

-- closing, by the descriptions that are left
closing_is : (m m' : Managed) (pid fd : ℕ) (k : Kernel) → managed_after (Closes pid fd) m ≡ m' → closing pid fd (with_managed m k) ≡ Closes pid fd ∷ may_go (file_behind (process m.procs pid) fd (with_managed m k)) m'.descs
closing_is m m' pid fd k e =
    let after : managed_in (apply (Closes pid fd) (with_managed m k)) ≡ m' = managed_alone (Closes pid fd) (with_managed m k) ∙ e in
    ap (λ (es : List Effect). Closes pid fd ∷ es) (freeing_is (file_behind (process m.procs pid) fd (with_managed m k)) (apply (Closes pid fd) (with_managed m k))
    ∙ ap (λ (n : Managed). may_go (file_behind (process m.procs pid) fd (with_managed m k)) n.descs) after)

abbrev opened_by : Option FdEntry → Kernel → Option Open
opened_by x k = option_and_then (λ e. open_on e.desc (slot k.descs e.desc)) x

behind_none : (o : Option Process) (fd : ℕ) (k : Kernel) → slot (fds_of o) fd ≡ None → file_behind o fd k ≡ None
behind_none None fd k e = refl
behind_none (Some p) fd k e = ap (λ (x : Option FdEntry). file_open_on (opened_by x k)) e

behind_some : (o : Option Process) (fd : ℕ) (k : Kernel) (e : FdEntry) (x : Description) → slot (fds_of o) fd ≡ Some e → slot k.descs e.desc ≡ Some x → file_behind o fd k ≡ file_of x.object
behind_some None fd k e x is there = cc is
behind_some (Some p) fd k e x is there =
    ap (λ (y : Option FdEntry). file_open_on (opened_by y k)) is ∙ ap (λ (y : Option Description). file_open_on (open_on e.desc y)) there

pub closing_none : (m : Managed) (pid fd : ℕ) (k : Kernel) → managed_after (Closes pid fd) m ≡ m → slot (fds_of (process m.procs pid)) fd ≡ None → closing pid fd (with_managed m k) ≡ Closes pid fd ∷ []
closing_none m pid fd k same e = closing_is m m pid fd k same ∙ ap (λ (f : Option ℕ). Closes pid fd ∷ may_go f m.descs) (behind_none (process m.procs pid) fd (with_managed m k) e)

-- a description that is there has its file
held_file : (b : Bool) (n : ℕ) (f : FileNo) (x : Description) (descs : List (Option Description)) → slot descs n ≡ Some x → x.object ≡ Regular f → has_file f.0 descs ≡ b → b ≡ true
held_file true n f x descs is on has = refl
held_file false n f x descs is on has =
    let none = none_held (λ d. is_file_object f.0 d.object) descs n x has is in
    let some : is_file_object f.0 x.object ≡ true = ap (is_file_object f.0) on ∙ eq-eqb f.0 f.0 refl in
    absurd (cc (none, some))

stays_with : (object : Object) (n : ℕ) (x : Description) (descs : List (Option Description)) → slot descs n ≡ Some x → x.object ≡ object → may_go (file_of object) descs ≡ []
stays_with (Regular f) n x descs is on = ap (λ (b : Bool). cond b [] (FreesFile f.0 ∷ [])) (held_file (has_file f.0 descs) n f x descs is on refl)
stays_with Input n x descs is on = refl
stays_with (Output stream) n x descs is on = refl
stays_with (PipeRead m) n x descs is on = refl
stays_with (PipeWrite m) n x descs is on = refl

pub closing_still : (m m' : Managed) (pid fd : ℕ) (k : Kernel) (e : FdEntry) (x : Description) → managed_after (Closes pid fd) m ≡ m' → slot (fds_of (process m.procs pid)) fd ≡ Some e → slot m.descs e.desc ≡ Some x → m'.descs ≡ m.descs
    → closing pid fd (with_managed m k) ≡ Closes pid fd ∷ []
closing_still m m' pid fd k e x after is there same =
    closing_is m m' pid fd k after
    ∙ ap (λ (f : Option ℕ). Closes pid fd ∷ may_go f m'.descs) (behind_some (process m.procs pid) fd (with_managed m k) e x is there)
    ∙ ap (λ (es : List Effect). Closes pid fd ∷ es) (ap (may_go (file_of x.object)) same ∙ stays_with x.object e.desc x m.descs there refl)

freed_by : (b : Bool) (f : FileNo) → cond b [] (FreesFile f.0 ∷ []) ≡ frees (cond b None (Some f))
freed_by true f = refl
freed_by false f = refl

goes_with : (object : Object) (descs : List (Option Description)) → may_go (file_of object) descs ≡ frees (file_left object descs)
goes_with (Regular f) descs = freed_by (has_file f.0 descs) f
goes_with Input descs = refl
goes_with (Output stream) descs = refl
goes_with (PipeRead m) descs = refl
goes_with (PipeWrite m) descs = refl

pub closing_last : (m m' : Managed) (pid fd : ℕ) (k : Kernel) (e : FdEntry) (x : Description) → managed_after (Closes pid fd) m ≡ m' → slot (fds_of (process m.procs pid)) fd ≡ Some e → slot m.descs e.desc ≡ Some x
    → closing pid fd (with_managed m k) ≡ Closes pid fd ∷ frees (file_left x.object m'.descs)
closing_last m m' pid fd k e x after is there =
    closing_is m m' pid fd k after
    ∙ ap (λ (f : Option ℕ). Closes pid fd ∷ may_go f m'.descs) (behind_some (process m.procs pid) fd (with_managed m k) e x is there)
    ∙ ap (λ (es : List Effect). Closes pid fd ∷ es) (goes_with x.object m'.descs)

-- the description of a slot that holds one
pub record Holds (descs : List (Option Description)) (n : ℕ) : Type 0 where
  pub x : Description
  pub is : slot descs n ≡ Some x

pub holds : (descs : List (Option Description)) (n : ℕ) → is_some (slot descs n) ≡ true → Holds descs n
holds descs n there = at (slot descs n) refl there
  where
    at : (o : Option Description) → slot descs n ≡ o → is_some o ≡ true → Holds descs n
    at None e is = cc is
    at (Some x) e is = record { x = x; is = e }
