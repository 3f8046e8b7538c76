-- The parts of a track that no component holds.
use Rattle.std.specs.Prelude.{ℕ, List, None}
use Rattle.lego_msg.specs.Marks.{Mark}
use Rattle.lego_msg.specs.Files.{no_files}
use Rattle.lego_msg.specs.Plain.{Plain, no_plain}
use Rattle.lego_msg.specs.Track.{Caches}

pub record Beyond : Type 0 where
  pub plain : Plain
  pub caches : Caches
  pub due : List Mark

-- no processor has cached a line, and nothing was filled
abbrev pub nothing_cached : Caches
nothing_cached = record { line = λ cpu pid line. None; filled = None }

-- before the first event
abbrev pub beginning : ℕ → List Mark → Beyond
beginning blocks due = record { plain = no_plain (no_files blocks); caches = nothing_cached; due = due }
