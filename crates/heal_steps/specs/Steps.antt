-- The moves of a healing, and what comes next.
use Rattle.std.specs.Prelude.{◌&&◌, if◌then◌else◌, [], ◌∷◌, ◌++◌, ℕ, Bool, List, None, Option, false, is_none, map, true}
use Rattle.lego_base.specs.declared.ids.MemId.{MemId}
use Rattle.lego_base.specs.declared.ids.Pid.{Pid}
use Rattle.lego_base.specs.declared.ids.RegionNo.{RegionNo}
use Rattle.lego_base.specs.declared.records.HomeEntry.{HomeEntry}
use Rattle.lego_base.specs.declared.records.SpaceAreas.{SpaceAreas}
use Rattle.lego_msg.specs.Healing.{ask_of, homes_in, images_anew, images_back, lists_in}
use Rattle.lego_msg.specs.Operations.{Ask}
use Rattle.lego_msg.specs.Places.{guarded_by, memory, secondary_of}
use Rattle.lego_msg.specs.declared.body.Body.{Body}
use Rattle.lego_msg.specs.declared.body.Body.TheVariants.{Drain, PullMeta}
use Rattle.lego_msg.specs.declared.healing.Move.{Move}
use Rattle.lego_msg.specs.declared.healing.Move.TheVariants.{Asks, HandsMeta}
use Rattle.lego_msg.specs.declared.place.Role.{Role}
use Rattle.lego_msg.specs.declared.place.Role.TheVariants.{Main, Spare}
use Rattle.heal_steps.specs.Healing.{Healing}
use Rattle.heal_steps.specs.declared.heal.HealMove.{HealMove}
use Rattle.heal_steps.specs.declared.heal.HealMove.TheVariants.{Finished, Send, Wait}

-- THE MOVES

-- regions as the entries of their owner
abbrev pub entry_of : MemId → Pid × RegionNo → HomeEntry
entry_of owner s = record { pid = s.0; region = s.1; owner = owner }

abbrev pub entries_of : MemId → List (Pid × RegionNo) → List HomeEntry
entries_of owner spaces = map (entry_of owner) spaces

-- the log of a memory is drained
abbrev pub drained_first : ℕ → List Move
drained_first secondary = Asks (memory secondary) Drain ∷ []

-- homes and areas go from one memory to another
abbrev pub meta_moved : ℕ → MemId → Role → ℕ → Role → List Move
meta_moved from of kept_as to role = Asks (memory from) (PullMeta of kept_as) ∷ HandsMeta (memory to) role ∷ []

-- all moves of the healing of c, with n memories: of c's regions, and of those of the memory whose secondary c is
abbrev pub moves_for : ℕ → ℕ → List (Pid × RegionNo) → List (Pid × RegionNo) → List Move
moves_for n c of_c of_q =
    drained_first (secondary_of n c)
    ++ meta_moved (secondary_of n c) (record { 0 = c }) Spare c Main
    ++ images_back c (entries_of (record { 0 = c }) of_c)
    ++ meta_moved (guarded_by n c) (record { 0 = guarded_by n c }) Main c Spare
    ++ images_anew (guarded_by n c) (entries_of (record { 0 = guarded_by n c }) of_q)

-- THE STEPS

abbrev pub begun : ℕ → ℕ → List (Pid × RegionNo) → List (Pid × RegionNo) → Healing
begun n c of_c of_q = record { waits = false; moves = moves_for n c of_c of_q }

abbrev pub sends : Ask → HealMove
sends a = Send a.to a.body

-- the message of a move, with the answer that the move before it got
abbrev pub message_of : Move → Option Body → HealMove
message_of move got = sends (ask_of move got)

-- whether the message that went out last has no answer
abbrev pub is_waiting : Healing → Option Body → Bool
is_waiting h got = h.waits && is_none got

abbrev pub first_of : List Move → Option Body → HealMove
first_of [] got = Finished
first_of (move ∷ moves) got = message_of move got

-- what comes next
abbrev pub step_of : Healing → Option Body → HealMove
step_of h got = if is_waiting h got then Wait else first_of h.moves got

abbrev pub without_first : List Move → Healing
without_first [] = record { waits = false; moves = [] }
without_first (move ∷ moves) = record { waits = true; moves = moves }

-- the healing after that
abbrev pub goes : Healing → Option Body → Healing
goes h got = if is_waiting h got then h else without_first h.moves

abbrev pub homes_and_lists : Option Body → List HomeEntry × List SpaceAreas
homes_and_lists got = (homes_in got, lists_in got)
