-- The tables of descriptions and of pipes, with the counts of what refers to each.
use Rattle.std.specs.Prelude.{◌≡◌, ℕ, ◌-◌, ◌==◌, ◌&&◌, true, if◌then◌else◌, List, length, Option, is_some, slice_index}
use Rattle.kernel_objects.specs.declared.descriptor.Description.{Description}
use Rattle.kernel_objects.specs.declared.descriptor.Object.{Object}
use Rattle.kernel_objects.specs.declared.descriptor.Object.TheVariants.{PipeRead, PipeWrite}
use Rattle.kernel_objects.specs.Slots.{slot, freed}
use Rattle.linux_model.specs.Effects.{bytes_in_pipe}
use Rattle.linux_model.specs.Limits.{PIPE_BYTES}
use Rattle.manager.specs.declared.pipes.PipeState.{PipeState}

pub record DescTable : Type 0 where
  pub descs : List (Option Description)
  -- descriptors that refer to each, by slot
  pub refs : List ℕ

pub record PipeTable : Type 0 where
  pub pipes : List (Option (List ℕ))
  -- descriptions that are open on the end of each that is read, and on the one that is written
  pub readers : List ℕ
  pub writers : List ℕ

-- the pipe of an end is there
abbrev pub PipeThere : List (Option (List ℕ)) → Object → Type 0
PipeThere pipes (PipeRead pipe) = is_some (slot pipes pipe) ≡ true
PipeThere pipes (PipeWrite pipe) = is_some (slot pipes pipe) ≡ true
PipeThere pipes other = Unit {0}

-- the pipes without one where it has no end any more
abbrev pub swept : ℕ → List ℕ → List ℕ → List (Option (List ℕ)) → List (Option (List ℕ))
swept pipe readers writers pipes = if slice_index readers pipe == 0 && slice_index writers pipe == 0 then freed pipes pipe else pipes

-- the pipes once a description of an object has ended, by the counts after it
abbrev pub pipes_left : Object → List ℕ → List ℕ → List (Option (List ℕ)) → List (Option (List ℕ))
pipes_left (PipeRead pipe) readers writers pipes = swept pipe readers writers pipes
pipes_left (PipeWrite pipe) readers writers pipes = swept pipe readers writers pipes
pipes_left other readers writers pipes = pipes

abbrev pub state_of : ℕ → PipeTable → PipeState
state_of pipe p = record {
  len = length (bytes_in_pipe (slot p.pipes pipe));
  room = PIPE_BYTES - length (bytes_in_pipe (slot p.pipes pipe));
  readers = slice_index p.readers pipe;
  writers = slice_index p.writers pipe;
}
