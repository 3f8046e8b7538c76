-- Effects that touch the space of one process alone, bear none, set no break past user space, and give no file a long name.
use Rattle.std.proofs.Common.{◌≡◌, ℕ, ◌<◌, ◌≤◌, Bool, true, false, cond, ◌||◌, leb, refl, sym, ◌∙◌, ap, subst, List, [], ◌∷◌, ◌++◌, length, Option, Some, None, is_some, arith}
use Rattle.std.proofs.lemmas.Bool.{ne_eqb, cond-false}
use Rattle.lego_base.specs.Files.{has_name, named}
use Rattle.lego_base.specs.declared.sizes.TheConstants.{USER_END}
use Rattle.lego_base.specs.Space.{Space, with_space}
use Rattle.kernel_objects.specs.declared.descriptor.Description.{Description}
use Rattle.kernel_objects.specs.declared.descriptor.Object.{Object}
use Rattle.kernel_objects.specs.declared.descriptor.Object.TheVariants.{PipeRead, PipeWrite}
use Rattle.kernel_objects.specs.Slots.{slot, freed, next_slot}
use Rattle.linux_model.specs.Limits.{FILES, NAME_BYTES}
use Rattle.linux_model.specs.State.{Kernel, Process}
use Rattle.linux_model.specs.Processes.{process, fds_of, at_pid, is_referred, has_reader, has_writer}
use Rattle.linux_model.specs.Effects.{Effect, Writes, Maps, Protects, Unmaps, Fills, Copies, Drops, Starts, Forks, MakesFile, FreesFile, Opens, Shares, Closes, Goes, Returns, Keeps, Breaks, Dies, Reaps, apply, applies, desc_at, at_fd, object_ends, description_ends, let_go, closed}
use Rattle.linux_model.specs.Called.{Called, Gives, Becomes, Waits, Death, says, following, first, given}
use Rattle.linux_model.proofs.fits.Found.{closed_procs}
use Rattle.kernel_laws.specs.Laws.{NoneAbove, BreaksInUserSpace}
use Rattle.kernel_laws.proofs.Breaks.{Within, breaks_at, breaks_filter, breaks_death}

abbrev pub Own : ℕ → Effect → Type 0
Own pid (Writes kind q address bytes) = q ≡ pid
Own pid (Maps q areas) = q ≡ pid
Own pid (Protects q first pages areas) = q ≡ pid
Own pid (Unmaps q first pages) = q ≡ pid
Own pid (Fills q address bytes) = q ≡ pid
Own pid (Drops q) = q ≡ pid
Own pid (Copies parent child) = ⊥
Own pid (Starts q cpu brk) = ⊥
Own pid (Forks parent child cpu) = ⊥
Own pid (Breaks q base now) = now ≤ USER_END
Own pid (MakesFile name) = length name ≤ NAME_BYTES
Own pid other = Unit {0}

abbrev pub AllOwn : ℕ → List Effect → Type 0
AllOwn pid [] = Unit {0}
AllOwn pid (e ∷ es) = Own pid e × AllOwn pid es

pub own-append : (pid : ℕ) (es fs : List Effect) → AllOwn pid es → AllOwn pid fs → AllOwn pid (es ++ fs)
own-append pid [] fs a b = b
own-append pid (e ∷ es) fs a b = (a.0, own-append pid es fs a.1 b)

-- ---- what they leave

-- a space that is set is that of another process
apart_space : (last pid q : ℕ) (spaces : ℕ → Space) (space : Space) → pid ≤ last → last < q → with_space spaces pid space q ≡ spaces q
apart_space last pid q spaces space low high = cond-false _ space (spaces q) (ne_eqb q pid (λ same. omega (arith, low, high, same)))

set_above : (last pid p : ℕ) (spaces : ℕ → Space) (space : Space) → p ≡ pid → pid ≤ last → NoneAbove last spaces → NoneAbove last (with_space spaces p space)
set_above last pid p spaces space own low none q high = let below : p ≤ last = omega (arith, own, low) in apart_space last p q spaces space below high ∙ none q high

-- what is the same in a choice of kernels
either_last : (b : Bool) (k l : Kernel) → l.last ≡ k.last → (cond b k l).last ≡ k.last
either_last true k l e = refl
either_last false k l e = e

either_space : (b : Bool) (k l : Kernel) → l.space ≡ k.space → (cond b k l).space ≡ k.space
either_space true k l e = refl
either_space false k l e = e

object_last : (object : Object) (k : Kernel) → ((object_ends object k).last ≡ k.last) × ((object_ends object k).space ≡ k.space)
object_last (PipeRead pipe) k = (either_last (has_reader pipe k.descs || has_writer pipe k.descs) k _ refl, either_space (has_reader pipe k.descs || has_writer pipe k.descs) k _ refl)
object_last (PipeWrite pipe) k = (either_last (has_reader pipe k.descs || has_writer pipe k.descs) k _ refl, either_space (has_reader pipe k.descs || has_writer pipe k.descs) k _ refl)
object_last other k = (refl, refl)

description_last : (d : Option Description) (k : Kernel) → ((description_ends d k).last ≡ k.last) × ((description_ends d k).space ≡ k.space)
description_last None k = (refl, refl)
description_last (Some d) k = object_last d.object k

let_go_last : (desc : Option ℕ) (k : Kernel) → ((let_go desc k).last ≡ k.last) × ((let_go desc k).space ≡ k.space)
let_go_last None k = (refl, refl)
let_go_last (Some desc) k =
    let l : Kernel = record k { descs = freed k.descs desc } in
    let ends = description_last (slot k.descs desc) l in
    (either_last (is_referred desc k.procs) k (description_ends (slot k.descs desc) l) ends.0, either_space (is_referred desc k.procs) k (description_ends (slot k.descs desc) l) ends.1)

closed_last : (pid fd : ℕ) (k : Kernel) → ((closed pid fd k).last ≡ k.last) × ((closed pid fd k).space ≡ k.space)
closed_last pid fd k = let_go_last (desc_at (slot (fds_of (process k.procs pid)) fd)) (record k { procs = at_pid pid (at_fd fd None) k.procs })

pub record Kept (k l : Kernel) : Type 0 where
  pub last : l.last ≡ k.last
  pub above : NoneAbove k.last k.space → NoneAbove l.last l.space
  pub breaks : BreaksInUserSpace k.procs → BreaksInUserSpace l.procs

still : (k l : Kernel) → l.last ≡ k.last → l.space ≡ k.space → (BreaksInUserSpace k.procs → BreaksInUserSpace l.procs) → Kept k l
still k l e f breaks = record {
  last = e;
  above = λ none q high. let higher : k.last < q = omega (arith, e, high) in ap (λ (s : ℕ → Space). s q) f ∙ none q higher;
  breaks = breaks;
}

either_kept : (b : Bool) (k l : Kernel) → l.last ≡ k.last → l.space ≡ k.space → l.procs ≡ k.procs → Kept k (cond b k l)
either_kept true k l e f g = record { last = refl; above = λ none. none; breaks = λ b. b }
either_kept false k l e f g = still k l e f (λ b. subst BreaksInUserSpace (sym g) b)

sets : (k : Kernel) (pid q : ℕ) (space : Space) → q ≡ pid → pid ≤ k.last → Kept k (record k { space = with_space k.space q space })
sets k pid q space own low = record { last = refl; above = set_above k.last pid q k.space space own low; breaks = λ b. b }

-- a change of a process that leaves its break in user space
changes : (k : Kernel) (f : Process → Process) (pid : ℕ) → ((p : Process) → Within p → Within (f p)) → Kept k (record k { procs = at_pid pid f k.procs })
changes k f pid keeps = record { last = refl; above = λ none. none; breaks = breaks_at f keeps pid k.procs }

-- one effect of a process that was born
pub own_keeps : (e : Effect) (pid : ℕ) (k : Kernel) → Own pid e → pid ≤ k.last → Kept k (apply e k)
own_keeps (Writes kind q address bytes) pid k own low = sets k pid q _ own low
own_keeps (Maps q areas) pid k own low = sets k pid q _ own low
own_keeps (Protects q first_page pages areas) pid k own low = sets k pid q _ own low
own_keeps (Unmaps q first_page pages) pid k own low = sets k pid q _ own low
own_keeps (Fills q address bytes) pid k own low = sets k pid q _ own low
own_keeps (Drops q) pid k own low = sets k pid q _ own low
own_keeps (Copies parent child) pid k own low = absurd own
own_keeps (Starts q cpu brk) pid k own low = absurd own
own_keeps (Forks parent child cpu) pid k own low = absurd own
own_keeps (Closes q fd) pid k own low =
    let ends = closed_last q fd k in
    still k (closed q fd k) ends.0 ends.1 (λ b. subst BreaksInUserSpace (sym (closed_procs q fd k)) (breaks_at (at_fd fd None) (λ p h. h) q k.procs b))
own_keeps (MakesFile name) pid k own low = either_kept (is_some (named k.names name) || leb FILES (length k.files)) k _ refl refl refl
own_keeps (FreesFile file) pid k own low = either_kept (has_name k.names file) k _ refl refl refl
own_keeps (Opens q fd object flags cloexec) pid k own low = record { last = refl; above = λ none. none; breaks = breaks_at (at_fd fd (Some (record { desc = next_slot k.descs; cloexec = cloexec }))) (λ p h. h) q k.procs }
own_keeps (Shares q fd desc cloexec) pid k own low = changes k (at_fd fd (Some (record { desc = desc; cloexec = cloexec }))) q (λ p h. h)
own_keeps (Goes q cpu) pid k own low = changes k (λ p. record p { cpu = cpu }) q (λ p h. h)
own_keeps (Returns q cpu) pid k own low = changes k (λ p. record p { cpu = cpu; waiting = None }) q (λ p h. h)
own_keeps (Keeps q moved len) pid k own low = changes k (λ p. record p { waiting = Some (record { moved = moved; len = len }) }) q (λ p h. h)
own_keeps (Breaks q base now) pid k own low = changes k (λ p. record p { brk = record { base = base; now = now } }) q (λ p h. own)
own_keeps (Dies q status) pid k own low = record { last = refl; above = λ none. none; breaks = breaks_death q status k.procs }
own_keeps (Reaps q) pid k own low = record { last = refl; above = λ none. none; breaks = breaks_filter _ k.procs }
own_keeps e pid k own low = record { last = refl; above = λ none. none; breaks = λ b. b }

pub all_own_keep : (es : List Effect) (pid : ℕ) (k : Kernel) → AllOwn pid es → pid ≤ k.last → Kept k (applies es k)
all_own_keep [] pid k own low = record { last = refl; above = λ none. none; breaks = λ b. b }
all_own_keep (e ∷ es) pid k own low =
    let one = own_keeps e pid k own.0 low in
    let below : pid ≤ (apply e k).last = let e = one.last in omega (arith, e, low) in
    let more = all_own_keep es pid (apply e k) own.1 below in
    record { last = more.last ∙ one.last; above = λ none. more.above (one.above none); breaks = λ b. more.breaks (one.breaks b) }

-- ---- rows

abbrev pub Good : ℕ → Called → Type 0
Good pid (Gives effects value) = AllOwn pid effects
Good pid (Becomes effects cpu) = AllOwn pid effects
Good pid (Waits effects moved len) = AllOwn pid effects
Good pid (Death effects status) = AllOwn pid effects

pub following_good : (pid : ℕ) (es : List Effect) (c : Called) → AllOwn pid es → Good pid c → Good pid (following es c)
following_good pid es (Gives effects value) a b = own-append pid es effects a b
following_good pid es (Becomes effects cpu) a b = own-append pid es effects a b
following_good pid es (Waits effects moved len) a b = own-append pid es effects a b
following_good pid es (Death effects status) a b = own-append pid es effects a b

pub choice : (pid : ℕ) (b : Bool) (c d : Called) → Good pid c → Good pid d → Good pid (cond b c d)
choice pid true c d g h = g
choice pid false c d g h = h

pub first_good : (pid : ℕ) (answers : List (Bool × ℕ)) (last : Called) → Good pid last → Good pid (first answers last)
first_good pid [] last g = g
first_good pid (a ∷ answers) last g = choice pid a.0 (says a.1) (first answers last) tt (first_good pid answers last g)

-- where it is known that the one condition doesn't hold
pub unless_good : (pid : ℕ) (b : Bool) (answer : ℕ) (last : Called) → (b ≡ false → Good pid last) → Good pid (first ((b, answer) ∷ []) last)
unless_good pid true answer last g = tt
unless_good pid false answer last g = g refl

pub given_good : (pid : ℕ) {X : Type 0} (o : Option X) (answer : ℕ) (f : X → Called) → ((x : X) → Good pid (f x)) → Good pid (given o answer f)
given_good pid None answer f g = tt
given_good pid (Some x) answer f g = g x
