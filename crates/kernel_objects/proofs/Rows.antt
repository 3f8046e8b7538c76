-- Worked rows of slots, by computation.
use Rattle.std.specs.Prelude.{◌≡◌, ℕ, ◌==◌, ◌-◌, ◌^◌, true, false, List, [], ◌∷◌, Option, Some, None, refl}
use Rattle.kernel_objects.specs.Slots.{slot, held, holds_some, lowest_free, next_slot, with_next, freed}

abbrev table : List (Option ℕ)
table = Some 5 ∷ None ∷ Some 7 ∷ None ∷ []

a_slot_past_the_end_is_free : (slot table 2 ≡ Some 7) × ((slot table 1 ≡ None) × (slot table (2 ^ 64 - 1) ≡ None))
a_slot_past_the_end_is_free = (refl, (refl, refl))

what_is_held_is_in_order : held table ≡ 5 ∷ 7 ∷ []
what_is_held_is_in_order = refl

a_test_looks_at_what_is_held : (holds_some (λ n. n == 7) table ≡ true) × (holds_some (λ n. n == 6) table ≡ false)
a_test_looks_at_what_is_held = (refl, refl)

the_lowest_free_slot_at_or_above : (lowest_free table 0 ≡ Some 1) × ((lowest_free table 1 ≡ Some 1) × ((lowest_free table 2 ≡ Some 3) × (lowest_free table 4 ≡ None)))
the_lowest_free_slot_at_or_above = (refl, (refl, (refl, refl)))

a_freed_number_is_used_again : (next_slot (freed table 0) ≡ 0) × (with_next 9 (freed table 0) ≡ Some 9 ∷ None ∷ Some 7 ∷ None ∷ [])
a_freed_number_is_used_again = (refl, refl)

abbrev full : List (Option ℕ)
full = Some 5 ∷ []

a_full_table_grows : (next_slot full ≡ 1) × (with_next 9 full ≡ Some 5 ∷ Some 9 ∷ [])
a_full_table_grows = (refl, refl)
