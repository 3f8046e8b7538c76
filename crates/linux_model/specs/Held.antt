-- The part of the kernel that the machine under it holds: spaces and files.
use Rattle.std.specs.Prelude.{ℕ, Bool, true, false, List, [], ◌∷◌}
use Rattle.lego_base.specs.declared.records.NameEntry.{NameEntry}
use Rattle.lego_base.specs.Files.{File}
use Rattle.lego_base.specs.Space.{Space}
use Rattle.linux_model.specs.State.{Kernel, unbooted}
use Rattle.linux_model.specs.Effects.{Effect, Opens, Shares, Closes, Seeks, MakesPipe, PutsPipe, TakesPipe, Takes, Goes, Returns, Keeps, Breaks, Starts, Forks, Dies, Reaps, apply}

pub record Held : Type 0 where
  pub space : ℕ → Space
  pub files : List File
  pub names : List NameEntry
  pub next : ℕ

abbrev pub held_in : Kernel → Held
held_in k = record { space = k.space; files = k.files; names = k.names; next = k.next }

-- a kernel with this in place of what it holds
abbrev pub with_held : Held → Kernel → Kernel
with_held h k = record k { space = h.space; files = h.files; names = h.names; next = h.next }

-- what an effect makes of this part
abbrev pub held_after : Effect → Held → Held
held_after e h = held_in (apply e (with_held h (unbooted [])))

abbrev pub held_after_all : List Effect → Held → Held
held_after_all [] h = h
held_after_all (e ∷ es) h = held_after_all es (held_after e h)

-- whether an effect concerns neither spaces nor files, and shows nothing: it is the manager's alone
abbrev pub is_apart : Effect → Bool
is_apart (Opens pid fd object flags cloexec) = true
is_apart (Shares pid fd desc cloexec) = true
is_apart (Closes pid fd) = true
is_apart (Seeks desc offset) = true
is_apart MakesPipe = true
is_apart (PutsPipe pipe bytes) = true
is_apart (TakesPipe pipe n) = true
is_apart (Takes n) = true
is_apart (Goes pid cpu) = true
is_apart (Returns pid cpu) = true
is_apart (Keeps pid moved len) = true
is_apart (Breaks pid base now) = true
is_apart (Starts pid cpu brk) = true
is_apart (Forks parent child cpu) = true
is_apart (Dies pid status) = true
is_apart (Reaps pid) = true
is_apart other = false
