-- Worked rows of the calls on descriptors, by computation.
use Rattle.std.specs.Prelude.{◌≡◌, ◌-◌, ◌^◌, true, false, [], ◌∷◌, Some, None, refl}
use Rattle.kernel_objects.specs.declared.descriptor.Object.TheVariants.{Regular, PipeRead, PipeWrite}
use Rattle.linux_model.specs.Limits.{EBADF, EINVAL, EMFILE, ENFILE, EFAULT, O_CLOEXEC}
use Rattle.linux_model.specs.Effects.{Writes, Unlinks, FreesFile, AsksSpan, Opens, Shares, Closes, MakesPipe, CopyOut, applies}
use Rattle.linux_model.specs.Called.{Gives, says}
use Rattle.linux_model.specs.Descriptors.{close_row, dup_row, dup3_row, pipe2_row}
use Rattle.linux_model.proofs.rows.World.{world, tried, with_open, with_fds, entry_of, with_descriptions, with_file}

dup_takes_the_lowest_and_keeps_it_over_exec : tried world (λ p k. dup_row p k 1) ≡ Gives (Shares 1 3 1 false ∷ []) 3
dup_takes_the_lowest_and_keeps_it_over_exec = refl

dup_fills_a_gap : tried (with_fds (entry_of 0 ∷ None ∷ entry_of 2 ∷ []) world) (λ p k. dup_row p k 2) ≡ Gives (Shares 1 1 2 false ∷ []) 1
dup_fills_a_gap = refl

sixty_four_descriptors_and_no_more : (tried (with_open 63 1) (λ p k. dup_row p k 0) ≡ Gives (Shares 1 63 0 false ∷ []) 63) × (tried (with_open 64 0) (λ p k. dup_row p k 0) ≡ says EMFILE)
sixty_four_descriptors_and_no_more = (refl, refl)

what_is_not_open_comes_before_what_is_full : (tried (with_open 64 0) (λ p k. dup_row p k 64) ≡ says EBADF) × (tried world (λ p k. dup_row p k (2 ^ 64 - 1)) ≡ says EBADF)
what_is_not_open_comes_before_what_is_full = (refl, refl)

equal_numbers_are_invalid_even_past_the_last : tried world (λ p k. dup3_row p k 70 70 0) ≡ says EINVAL
equal_numbers_are_invalid_even_past_the_last = refl

dup3_checks_flags_then_from_then_to : (tried world (λ p k. dup3_row p k 9 9 1) ≡ says EINVAL) × ((tried world (λ p k. dup3_row p k 9 64 0) ≡ says EBADF) × (tried world (λ p k. dup3_row p k 0 64 0) ≡ says EBADF))
dup3_checks_flags_then_from_then_to = (refl, (refl, refl))

dup3_closes_what_was_open : tried world (λ p k. dup3_row p k 0 1 O_CLOEXEC) ≡ Gives (Closes 1 1 ∷ Shares 1 1 0 true ∷ []) 1
dup3_closes_what_was_open = refl

dup3_to_a_free_one_closes_nothing : tried world (λ p k. dup3_row p k 0 9 0) ≡ Gives (Shares 1 9 0 false ∷ []) 9
dup3_to_a_free_one_closes_nothing = refl

-- ---- close

-- a file's last description sends the request, whether the file has a name or not
last_description_ends_the_file : tried (with_file 0) (λ p k. close_row p k 3) ≡ Gives (Closes 1 3 ∷ FreesFile 0 ∷ []) 0
last_description_ends_the_file = refl

a_named_file_stays : (applies (Closes 1 3 ∷ FreesFile 0 ∷ []) (with_file 0)).files ≡ record { file = 0; bytes = 1 ∷ 2 ∷ 3 ∷ 4 ∷ 5 ∷ [] } ∷ []
a_named_file_stays = refl

an_unlinked_file_goes_with_its_description : (applies (Unlinks (102 ∷ []) ∷ Closes 1 3 ∷ FreesFile 0 ∷ []) (with_file 0)).files ≡ []
an_unlinked_file_goes_with_its_description = refl

the_first_of_two_descriptors_ends_nothing : tried (applies (Shares 1 4 3 false ∷ []) (with_file 0)) (λ p k. close_row p k 3) ≡ Gives (Closes 1 3 ∷ []) 0
the_first_of_two_descriptors_ends_nothing = refl

the_first_of_two_descriptions_ends_no_file : tried (applies (Opens 1 4 (Regular (record { 0 = 0 })) 0 false ∷ []) (with_file 0)) (λ p k. close_row p k 3) ≡ Gives (Closes 1 3 ∷ []) 0
the_first_of_two_descriptions_ends_no_file = refl

a_closed_descriptor_is_not_open : tried world (λ p k. close_row p k 3) ≡ says EBADF
a_closed_descriptor_is_not_open = refl

-- ---- pipes

the_reading_end_comes_first : tried world (λ p k. pipe2_row p k 0x20100 O_CLOEXEC) ≡ Gives (AsksSpan 1 0x20100 8 ∷ MakesPipe ∷ Opens 1 3 (PipeRead 0) 0 true ∷ Opens 1 4 (PipeWrite 0) 1 true ∷ Writes CopyOut 1 0x20100 (3 ∷ 0 ∷ 0 ∷ 0 ∷ 4 ∷ 0 ∷ 0 ∷ 0 ∷ []) ∷ []) 0
the_reading_end_comes_first = refl

pipe2_checks_the_buffer_before_descriptors : tried (with_open 64 0) (λ p k. pipe2_row p k 0x30000 0) ≡ Gives (AsksSpan 1 0x30000 8 ∷ []) EFAULT
pipe2_checks_the_buffer_before_descriptors = refl

pipe2_needs_two_descriptors : tried (with_open 63 1) (λ p k. pipe2_row p k 0x20100 0) ≡ Gives (AsksSpan 1 0x20100 8 ∷ []) EMFILE
pipe2_needs_two_descriptors = refl

pipe2_needs_two_descriptions : tried (with_descriptions 1023) (λ p k. pipe2_row p k 0x20100 0) ≡ Gives (AsksSpan 1 0x20100 8 ∷ []) ENFILE
pipe2_needs_two_descriptions = refl

-- a pipe goes with its last end, and its slot is used again
a_pipe_goes_with_its_last_end : (applies (Closes 1 3 ∷ Closes 1 4 ∷ []) (applies (MakesPipe ∷ Opens 1 3 (PipeRead 0) 0 false ∷ Opens 1 4 (PipeWrite 0) 1 false ∷ []) world)).pipes ≡ None ∷ []
a_pipe_goes_with_its_last_end = refl

a_pipe_stays_with_one_end : (applies (Closes 1 3 ∷ []) (applies (MakesPipe ∷ Opens 1 3 (PipeRead 0) 0 false ∷ Opens 1 4 (PipeWrite 0) 1 false ∷ []) world)).pipes ≡ Some [] ∷ []
a_pipe_stays_with_one_end = refl
