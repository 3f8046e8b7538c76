-- Whether a process may reach bytes: which regions are asked for their areas, and what the answer is about.
use Rattle.std.specs.Prelude.{◌+◌, ◌<◌, ◌==◌, ◌||◌, if◌then◌else◌, [], ℕ, List, nat_lt}
use Rattle.lego_base.specs.Keys.{is_of, those}
use Rattle.lego_base.specs.Space.{Space}
use Rattle.lego_base.specs.declared.records.Area.{Area}
use Rattle.lego_base.specs.declared.records.HomeEntry.{HomeEntry}
use Rattle.lego_base.specs.declared.sizes.TheConstants.{PAGES_END, USER_END}
use Rattle.lego_msg.specs.Maps.{home_key}
use Rattle.lego_msg.specs.Plain.{IsMapped, Plain, byte_at}
use Rattle.cluster.specs.Askings.{areas_among, met_by}

-- the regions that bytes meet: none where there is no byte, or where the bytes end past the end of user addresses
abbrev pub asked_for : ℕ → ℕ → List HomeEntry → List HomeEntry
asked_for start len entries = if len == 0 || nat_lt USER_END (start + len) then [] else met_by start len entries

-- the space of a process: the areas of its regions, one after the other
abbrev pub space_at : Plain → ℕ → List HomeEntry → Space
space_at f pid owners = record { areas = areas_among f (those home_key (is_of pid) owners); byte = byte_at f pid }

-- what is mapped of it is of user addresses
abbrev pub IsUser : Plain → ℕ → Type 0
IsUser f pid = (vpn : ℕ) → IsMapped f pid vpn → vpn < PAGES_END

-- areas without a byte that was written
abbrev pub bare : List Area → Space
bare areas = record { areas = areas; byte = λ address. 0 }
