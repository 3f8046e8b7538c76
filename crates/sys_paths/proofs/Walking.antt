-- Where a path leads.
use Rattle.std.proofs.Common.{◌≡◌, ℕ, Bool, true, false, cond, ◌&&◌, not, eqb, ltb, refl, sym, ◌∙◌, ap, subst, List, [], ◌∷◌, ◌++◌, length, is_some, Result, Ok, Err, IfOk}
use Rattle.lego_base.specs.Files.{named}
use Rattle.lego_base.specs.declared.stops.Halt.{Halt}
use Rattle.kernel_objects.specs.Slots.{slot}
use Rattle.linux_model.specs.Limits.{EBADF, EFAULT, ENAMETOOLONG, ENOENT, ENOTDIR, AT_FDCWD, NAME_BYTES}
use Rattle.linux_model.specs.State.{Kernel, Process}
use Rattle.linux_model.specs.Effects.{Effect, LooksUp}
use Rattle.linux_model.specs.Called.{Called, following, says}
use Rattle.linux_model.specs.Paths.{Found, Named, Text, TextEnd, AtZero, Denied, Long, at_path, is_relative, of_text, parts_of, resolved, text_at, walked, without_root_parts}
use Rattle.linux_model.specs.Held.{Held}
use Rattle.linux_model.specs.Managed.{Managed}
use Rattle.linux_model.specs.Laws.{Still}
use Rattle.linux_model.proofs.Folds.{still-append}
use Rattle.linux_model.proofs.Looking.{looking_is_still}
use Rattle.call_machine.specs.Lawful.{Lawful}
use Rattle.call_machine.specs.Laws.{effects_of}
use Rattle.call_machine.specs.Lent.{kernel_of}
use Rattle.call_machine.proofs.Rows.{following_both, held_asked, stops_following, stops_in}
use Rattle.sys_paths.specs.Parts.{ToName, Below, way_of}
use Rattle.sys_paths.specs.Reached.{Reached, then_of}
use Rattle.sys_paths.specs.Texts.{told, told_by}
use Rattle.sys_paths.specs.declared.text.Text.TheVariants.{Whole, Denied as NotReadable, Long as TooLong}
use Rattle.sys_paths.specs.declared.walk.Found.{Found as Place}

-- ---- a name is looked up

looks_last : (parts : List (List ℕ)) (name : List ℕ) (k : Kernel) (f : Found → Called) → ToName name ≡ way_of parts → ltb NAME_BYTES (length name) ≡ false → (rest : Called) × (walked parts k f ≡ following (LooksUp name ∷ []) rest)
looks_last [] name k f e low = cc e
looks_last (m ∷ []) name k f e low =
    let same : name ≡ m = cc e in
    let short : ltb NAME_BYTES (length m) ≡ false = subst (λ (n : List ℕ). ltb NAME_BYTES (length n) ≡ false) same low in
    (f (Named m (named k.names m)), ap (λ (b : Bool). cond b (says ENAMETOOLONG) (following (LooksUp m ∷ []) (f (Named m (named k.names m))))) short ∙ ap (λ (n : List ℕ). following (LooksUp n ∷ []) (f (Named m (named k.names m)))) (sym same))
looks_last (m ∷ part ∷ parts) name k f e low = cc e

looks_below : (parts : List (List ℕ)) (name : List ℕ) (k : Kernel) (f : Found → Called) → Below name ≡ way_of parts → ltb NAME_BYTES (length name) ≡ false → (rest : Called) × (walked parts k f ≡ following (LooksUp name ∷ []) rest)
looks_below [] name k f e low = cc e
looks_below (m ∷ []) name k f e low = cc e
looks_below (m ∷ part ∷ parts) name k f e low =
    let same : name ≡ m = cc e in
    let short : ltb NAME_BYTES (length m) ≡ false = subst (λ (n : List ℕ). ltb NAME_BYTES (length n) ≡ false) same low in
    let rest : Called = says (cond (is_some (named k.names m)) ENOTDIR ENOENT) in
    (rest, ap (λ (b : Bool). cond b (says ENOENT) (following (LooksUp m ∷ []) rest)) short ∙ ap (λ (n : List ℕ). following (LooksUp n ∷ []) rest) (sym same))

pub looks_up : (last : Bool) (parts : List (List ℕ)) (name : List ℕ) (k : Kernel) (f : Found → Called) → cond last (ToName name) (Below name) ≡ way_of parts → ltb NAME_BYTES (length name) ≡ false → (rest : Called) × (walked parts k f ≡ following (LooksUp name ∷ []) rest)
looks_up true parts name k f e low = looks_last parts name k f e low
looks_up false parts name k f e low = looks_below parts name k f e low

-- ---- a path that is resolved

pub resolved_walks : (p : Process) (k : Kernel) (dir : ℕ) (path : List ℕ) (f : Found → Called) → eqb (length path) 0 ≡ false → (is_relative path && not (eqb dir AT_FDCWD)) ≡ false → resolved p k dir path f ≡ walked (without_root_parts (parts_of path)) k f
resolved_walks p k dir path f some here = λ i. cond (some i) (says ENOENT) (cond (here i) (says (cond (is_some (slot p.fds dir)) ENOTDIR EBADF)) (walked (without_root_parts (parts_of path)) k f))

-- ---- a path that was read

-- the text that a path is, by the pid
pub at_path_reads : (pid : ℕ) (p : Process) (k : Kernel) (dir address : ℕ) (f : Found → Called) → p.pid ≡ pid → at_path p k dir address f ≡ following (text_at pid (k.space pid) 4096 address).reads (of_text p k dir (text_at pid (k.space pid) 4096 address).bytes (text_at pid (k.space pid) 4096 address).end f)
at_path_reads pid p k dir address f is = ap (λ (q : ℕ). following (text_at q (k.space q) 4096 address).reads (of_text p k dir (text_at q (k.space q) 4096 address).bytes (text_at q (k.space q) 4096 address).end f)) is

module _ (p : Process) (k : Kernel) (dir : ℕ) (f : Found → Called) where
  pub whole_resolved : (end : TextEnd) (bytes path : List ℕ) → Whole path ≡ told_by end bytes → of_text p k dir bytes end f ≡ resolved p k dir path f
  whole_resolved AtZero bytes path e =
      let same : path ≡ bytes = cc e in
      ap (λ (b : List ℕ). resolved p k dir b f) (sym same)
  whole_resolved Denied bytes path e = cc e
  whole_resolved Long bytes path e = cc e

  pub denied_says : (end : TextEnd) (bytes : List ℕ) → NotReadable ≡ told_by end bytes → of_text p k dir bytes end f ≡ says EFAULT
  denied_says AtZero bytes e = cc e
  denied_says Denied bytes e = refl
  denied_says Long bytes e = cc e

  pub long_says : (end : TextEnd) (bytes : List ℕ) → TooLong ≡ told_by end bytes → of_text p k dir bytes end f ≡ says ENAMETOOLONG
  long_says AtZero bytes e = cc e
  long_says Denied bytes e = cc e
  long_says Long bytes e = refl

-- ---- what was reached

pub reached_as : {X : Type 0} (does : X → X → List Effect → Type 0) (a b : X) (row row' : (Found → Called) → Called) (result : Result (Result Place ℕ) Halt) → ((f : Found → Called) → row f ≡ row' f) → IfOk result (Reached does a b row') → IfOk result (Reached does a b row)
reached_as does a b row row' (Ok end) same r = record { effects = r.effects; row_is = λ f. same f ∙ r.row_is f; did = r.did; still = r.still }
reached_as does a b row row' (Err halt) same r = r

pub reached_after : {X : Type 0} (does : X → X → List Effect → Type 0) (both : (a b c : X) (es fs : List Effect) → does a b es → does b c fs → does a c (es ++ fs)) (a b c : X) (es : List Effect) (row row' : (Found → Called) → Called) (result : Result (Result Place ℕ) Halt) → ((f : Found → Called) → row f ≡ following es (row' f)) → Still es → does a b es → IfOk result (Reached does b c row') → IfOk result (Reached does a c row)
reached_after does both a b c es row row' (Ok end) same quiet d r = record {
  effects = es ++ r.effects;
  row_is = λ f. same f ∙ ap (following es) (r.row_is f) ∙ following_both es r.effects (then_of end f);
  did = both a b c es r.effects d r.did;
  still = still-append es r.effects quiet r.still;
}
reached_after does both a b c es row row' (Err halt) same quiet d r = r

-- ---- a path of a process, once its text was read

-- reading changed nothing
pub text_still : {X : Type 0} (held : X → Held) (does stops : X → X → List Effect → Type 0) → Lawful held does stops → (pid address : ℕ) (a b : X) → does a b (text_at pid ((held a).space pid) 4096 address).reads → held b ≡ held a
text_still held does stops laws pid address a b read = held_asked held does stops laws a b (text_at pid ((held a).space pid) 4096 address).reads (looking_is_still.text pid ((held a).space pid) 4096 address) read

module _ {X : Type 0} (held : X → Held) (does stops : X → X → List Effect → Type 0) (laws : Lawful held does stops) (pid : ℕ) (p : Process) (is : p.pid ≡ pid) (man : Managed) (k : Kernel) (dir address : ℕ) (a b : X) where
  abbrev text : Text
  text = text_at pid ((held a).space pid) 4096 address

  abbrev kernel : Kernel
  kernel = kernel_of man (held a) k

  module _ (read : does a b text.reads) where
    read_still : held b ≡ held a
    read_still = text_still held does stops laws pid address a b read

    pub whole_leads : (path : List ℕ) (c : X) (result : Result (Result Place ℕ) Halt) → Whole path ≡ told text → IfOk result (Reached does b c (resolved p (kernel_of man (held b) k) dir path)) → IfOk result (Reached does a c (at_path p kernel dir address))
    whole_leads path c result e r =
        reached_after does laws.both a b c text.reads (at_path p kernel dir address) (resolved p kernel dir path) result
        (λ f. at_path_reads pid p kernel dir address f is ∙ ap (following text.reads) (whole_resolved p kernel dir f text.end text.bytes path e)) (looking_is_still.text pid ((held a).space pid) 4096 address) read
        (subst (λ (h : Held). IfOk result (Reached does b c (resolved p (kernel_of man h k) dir path))) read_still r)

    pub whole_stops : (path : List ℕ) (c : X) (f : Found → Called) → Whole path ≡ told text → stops b c (effects_of (resolved p (kernel_of man (held b) k) dir path f)) → stops a c (effects_of (at_path p kernel dir address f))
    whole_stops path c f e s =
        stops_following held does stops laws a b c text.reads (at_path p kernel dir address f) (resolved p kernel dir path f)
        (at_path_reads pid p kernel dir address f is ∙ ap (following text.reads) (whole_resolved p kernel dir f text.end text.bytes path e)) read
        (subst (λ (h : Held). stops b c (effects_of (resolved p (kernel_of man h k) dir path f))) read_still s)

    pub denied_leads : NotReadable ≡ told text → Reached does a b (at_path p kernel dir address) (Err EFAULT)
    denied_leads e = record {
      effects = text.reads;
      row_is = λ f. at_path_reads pid p kernel dir address f is ∙ ap (following text.reads) (denied_says p kernel dir f text.end text.bytes e);
      did = read;
      still = looking_is_still.text pid ((held a).space pid) 4096 address;
    }

    pub long_leads : TooLong ≡ told text → Reached does a b (at_path p kernel dir address) (Err ENAMETOOLONG)
    long_leads e = record {
      effects = text.reads;
      row_is = λ f. at_path_reads pid p kernel dir address f is ∙ ap (following text.reads) (long_says p kernel dir f text.end text.bytes e);
      did = read;
      still = looking_is_still.text pid ((held a).space pid) 4096 address;
    }

  pub text_stops : (f : Found → Called) → stops a b text.reads → stops a b (effects_of (at_path p kernel dir address f))
  text_stops f s = stops_in held does stops laws a b text.reads (at_path p kernel dir address f) _ (at_path_reads pid p kernel dir address f is) s
