-- How often a description is referred to, and how many ends of a pipe are open.
use Rattle.std.specs.Prelude.{◌≡◌, ℕ, ◌+◌, ◌==◌, Bool, true, false, List, [], ◌∷◌, Option, slice_index}
use Rattle.kernel_objects.specs.declared.descriptor.Description.{Description}
use Rattle.kernel_objects.specs.declared.descriptor.FdEntry.{FdEntry}
use Rattle.kernel_objects.specs.Slots.{picks}
use Rattle.linux_model.specs.State.{Process}
use Rattle.linux_model.specs.Processes.{is_reading_end, is_writing_end}

abbrev pub one_if : Bool → ℕ
one_if true = 1
one_if false = 0

-- how many slots hold a thing that a test picks
abbrev pub slots_with : {X : Type 0} → (X → Bool) → List (Option X) → ℕ
slots_with test [] = 0
slots_with test (x ∷ slots) = one_if (picks test x) + slots_with test slots

-- whether a descriptor refers to a description
abbrev pub refers : ℕ → FdEntry → Bool
refers desc e = e.desc == desc

-- how many descriptors of all processes refer to a description
abbrev pub references : ℕ → List Process → ℕ
references desc [] = 0
references desc (p ∷ procs) = slots_with (refers desc) p.fds + references desc procs

-- how many descriptions are open on an end of a pipe
abbrev pub reads_from : ℕ → Description → Bool
reads_from pipe d = is_reading_end pipe d.object

abbrev pub writes_to : ℕ → Description → Bool
writes_to pipe d = is_writing_end pipe d.object

abbrev pub readers : ℕ → List (Option Description) → ℕ
readers pipe descs = slots_with (reads_from pipe) descs

abbrev pub writers : ℕ → List (Option Description) → ℕ
writers pipe descs = slots_with (writes_to pipe) descs

-- of the counts of all numbers, that of n goes up, or down, by one
abbrev pub OneMore : ℕ → List ℕ → List ℕ → Type 0
OneMore n old new = (m : ℕ) → slice_index new m ≡ slice_index old m + one_if (n == m)

abbrev pub OneFewer : ℕ → List ℕ → List ℕ → Type 0
OneFewer n old new = (m : ℕ) → slice_index new m + one_if (n == m) ≡ slice_index old m
