-- Worked examples, by evaluation.
use Rattle.std.proofs.Common.{◌≡◌, ◌-◌, ◌^◌, [], ◌∷◌, Some, None, true, false, refl, lit≤, lit<}
use Rattle.lego_base.specs.Counts.{risen, Rose, Calm}
use Rattle.host_io.specs.Sinks.{TookAll, TookFront}
use Rattle.host_io.specs.Sources.{Gave}
use Rattle.host_io.specs.Depots.{no_files, with_entry}
use Rattle.host_io.specs.Calls.{untried, is_due, counted}
use Rattle.host_io.specs.Objects.{looked_up}

-- a count of 3 becomes 4, and a full count stays
one_more : risen 3 ≡ 4
one_more = refl

full : risen (2 ^ 64 - 1) ≡ 2 ^ 64 - 1
full = refl

-- at 3 faults no count of 3 has risen, and at the type's end every count has
calm : Calm 3 3
calm = lit< tt

rises : Rose (2 ^ 64 - 1) (2 ^ 64 - 1)
rises = lit≤ tt

-- a sink that holds 1 takes 2 and 3
took : TookAll (Some (1 ∷ [])) (Some (1 ∷ 2 ∷ 3 ∷ [])) (2 ∷ 3 ∷ [])
took = refl

-- of these it takes the 2 alone, and the 3 is left
front : TookFront (Some (1 ∷ [])) (Some (1 ∷ 2 ∷ [])) (2 ∷ 3 ∷ [])
front = record { front = 2 ∷ []; rest = 3 ∷ []; more = lit< tt; whole = refl; took = refl }

-- a source with 1, 2 and 3 left gives the 1
gave : Gave (Some (1 ∷ 2 ∷ 3 ∷ [])) (Some (2 ∷ 3 ∷ [])) (1 ∷ [])
gave = refl

-- a name that was put twice has the later bytes, and another name has none
later : with_entry (97 ∷ []) (Some (2 ∷ [])) (with_entry (97 ∷ []) (Some (1 ∷ [])) no_files) (97 ∷ []) ≡ Some (2 ∷ [])
later = refl

other : with_entry (97 ∷ []) (Some (2 ∷ [])) no_files (98 ∷ []) ≡ None
other = refl

-- of three calls the second is to fail
first_call : is_due (untried (2 ∷ [])) ≡ false
first_call = refl

second_call : is_due (counted true (untried (2 ∷ []))) ≡ true
second_call = refl

third_call : is_due (counted false (counted true (untried (2 ∷ [])))) ≡ false
third_call = refl

-- the first entry of a name counts
found : looked_up (record { name = 97 ∷ []; bytes = 1 ∷ [] } ∷ record { name = 97 ∷ []; bytes = 2 ∷ [] } ∷ []) (97 ∷ []) ≡ Some (1 ∷ [])
found = refl
