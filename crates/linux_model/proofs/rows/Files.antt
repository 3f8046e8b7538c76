-- Worked rows of the calls on files, pipes and streams, by computation.
use Rattle.std.specs.Prelude.{◌≡◌, ◌+◌, ◌-◌, ◌^◌, false, [], ◌∷◌, ◌++◌, replicate, refl}
use Rattle.kernel_objects.specs.declared.descriptor.Object.TheVariants.{Regular, PipeRead, PipeWrite}
use Rattle.kernel_objects.specs.declared.descriptor.Stream.TheVariants.{Out}
use Rattle.linux_model.specs.Limits.{ENOENT, EBADF, EEXIST, EISDIR, ENOTDIR, EINVAL, ENFILE, EMFILE, EFAULT, EFBIG, ENOSPC, ESPIPE, ENAMETOOLONG, AT_FDCWD, O_CREAT, O_EXCL, O_TRUNC, O_APPEND}
use Rattle.linux_model.specs.State.{Kernel}
use Rattle.linux_model.specs.Effects.{Reads, Writes, Refused, AsksSpan, LooksUp, MakesFile, Unlinks, FreesFile, AsksSize, ReadsFile, WritesFile, CutsFile, Opens, Seeks, MakesPipe, PutsPipe, TakesPipe, Takes, Puts, Closes, Fills, CopyIn, CopyOut, applies}
use Rattle.linux_model.specs.Called.{Gives, Waits, Death, says}
use Rattle.linux_model.specs.Paths.{resolved, walked}
use Rattle.linux_model.specs.FileCalls.{unlinkat_row, openat_row, ftruncate_row, lseek_row, read_row, write_row, readv_row, writev_row, pread64_row, pwrite64_row}
use Rattle.linux_model.proofs.rows.World.{world, tried, one, with_open, with_descriptions, with_file, spelt}

-- ---- paths

flags_come_before_the_path : (tried world (λ p k. openat_row p k AT_FDCWD 0 3) ≡ says EINVAL) × (tried world (λ p k. openat_row p k AT_FDCWD 0 0x10000) ≡ says EINVAL)
flags_come_before_the_path = (refl, refl)

a_path_that_leaves_the_pages : tried world (λ p k. openat_row p k AT_FDCWD 0x21fff 0) ≡ Gives (Reads CopyIn 1 0x21fff (102 ∷ []) ∷ Refused CopyIn 1 0x22000 1 ∷ []) EFAULT
a_path_that_leaves_the_pages = refl

an_empty_path_names_nothing : tried world (λ p k. openat_row p k 9 0x20050 0) ≡ Gives (spelt 0x20050 (0 ∷ [])) ENOENT
an_empty_path_names_nothing = refl

-- only the one word of 64 bits is the working directory
a_relative_path_needs_the_working_directory : (tried world (λ p k. openat_row p k 9 0x20000 0) ≡ Gives (spelt 0x20000 (102 ∷ 0 ∷ [])) EBADF) × ((tried world (λ p k. openat_row p k 0 0x20000 0) ≡ Gives (spelt 0x20000 (102 ∷ 0 ∷ [])) ENOTDIR) × (tried world (λ p k. openat_row p k (2 ^ 32 - 100) 0x20000 0) ≡ Gives (spelt 0x20000 (102 ∷ 0 ∷ [])) EBADF))
a_relative_path_needs_the_working_directory = (refl, (refl, refl))

a_dot_is_refused_for_its_descriptor_too : resolved (one world) world 9 (46 ∷ []) (λ found. says 0) ≡ says EBADF
a_dot_is_refused_for_its_descriptor_too = refl

dots_in_the_root_are_the_root : resolved (one world) world 9 (47 ∷ 46 ∷ 46 ∷ 47 ∷ 46 ∷ 47 ∷ []) (λ found. says 5) ≡ says 5
dots_in_the_root_are_the_root = refl

a_file_is_no_directory : tried world (λ p k. openat_row p k AT_FDCWD 0x20020 0) ≡ Gives (spelt 0x20020 (102 ∷ 47 ∷ 0 ∷ []) ++ LooksUp (102 ∷ []) ∷ []) ENOTDIR
a_file_is_no_directory = refl

nothing_is_below_an_absent_name : tried world (λ p k. openat_row p k AT_FDCWD 0x20040 O_CREAT) ≡ Gives (spelt 0x20040 (103 ∷ 47 ∷ 0 ∷ []) ++ LooksUp (103 ∷ []) ∷ []) ENOENT
nothing_is_below_an_absent_name = refl

a_long_name_isn_t_looked_up : (walked (replicate 256 102 ∷ []) world (λ found. says 0) ≡ says ENAMETOOLONG) × (walked (replicate 256 102 ∷ [] ∷ []) world (λ found. says 0) ≡ says ENOENT)
a_long_name_isn_t_looked_up = (refl, refl)

-- ---- openat

the_root_is_a_directory : tried world (λ p k. openat_row p k 0 0x20010 O_CREAT) ≡ Gives (spelt 0x20010 (47 ∷ 0 ∷ [])) EISDIR
the_root_is_a_directory = refl

a_file_that_is_there_isn_t_made : tried (with_open 64 0) (λ p k. openat_row p k AT_FDCWD 0x20000 (O_CREAT + O_EXCL)) ≡ Gives (spelt 0x20000 (102 ∷ 0 ∷ []) ++ LooksUp (102 ∷ []) ∷ []) EEXIST
a_file_that_is_there_isn_t_made = refl

an_absent_file_comes_before_a_full_table : tried (with_open 64 0) (λ p k. openat_row p k AT_FDCWD 0x20030 0) ≡ Gives (spelt 0x20030 (103 ∷ 0 ∷ []) ++ LooksUp (103 ∷ []) ∷ []) ENOENT
an_absent_file_comes_before_a_full_table = refl

descriptors_come_before_descriptions : (tried (with_open 64 0) (λ p k. openat_row p k AT_FDCWD 0x20000 0) ≡ Gives (spelt 0x20000 (102 ∷ 0 ∷ []) ++ LooksUp (102 ∷ []) ∷ []) EMFILE) × (tried (with_descriptions 1024) (λ p k. openat_row p k AT_FDCWD 0x20000 0) ≡ Gives (spelt 0x20000 (102 ∷ 0 ∷ []) ++ LooksUp (102 ∷ []) ∷ []) ENFILE)
descriptors_come_before_descriptions = (refl, refl)

-- the file is asked for before storage says that there are too many
a_file_past_the_last_is_asked_for : tried (record world { files = replicate 1024 (record { file = 0; bytes = [] }) }) (λ p k. openat_row p k AT_FDCWD 0x20030 O_CREAT) ≡ Gives (spelt 0x20030 (103 ∷ 0 ∷ []) ++ LooksUp (103 ∷ []) ∷ MakesFile (103 ∷ []) ∷ []) ENOSPC
a_file_past_the_last_is_asked_for = refl

a_file_that_is_read_only_isn_t_cut : tried world (λ p k. openat_row p k AT_FDCWD 0x20000 O_TRUNC) ≡ Gives (spelt 0x20000 (102 ∷ 0 ∷ []) ++ LooksUp (102 ∷ []) ∷ Opens 1 3 (Regular (record { 0 = 0 })) O_TRUNC false ∷ []) 3
a_file_that_is_read_only_isn_t_cut = refl

a_file_that_this_call_made_is_cut_too : tried world (λ p k. openat_row p k AT_FDCWD 0x20030 (O_CREAT + O_TRUNC + 2)) ≡ Gives (spelt 0x20030 (103 ∷ 0 ∷ []) ++ LooksUp (103 ∷ []) ∷ MakesFile (103 ∷ []) ∷ CutsFile 1 0 ∷ Opens 1 3 (Regular (record { 0 = 1 })) (O_CREAT + O_TRUNC + 2) false ∷ []) 3
a_file_that_this_call_made_is_cut_too = refl

-- ---- unlinkat, ftruncate, lseek

unlinkat_frees_what_nobody_has : (tried world (λ p k. unlinkat_row p k AT_FDCWD 0x20000 0) ≡ Gives (spelt 0x20000 (102 ∷ 0 ∷ []) ++ LooksUp (102 ∷ []) ∷ Unlinks (102 ∷ []) ∷ FreesFile 0 ∷ []) 0) × (tried (with_file 0) (λ p k. unlinkat_row p k AT_FDCWD 0x20000 0) ≡ Gives (spelt 0x20000 (102 ∷ 0 ∷ []) ++ LooksUp (102 ∷ []) ∷ Unlinks (102 ∷ []) ∷ []) 0)
unlinkat_frees_what_nobody_has = (refl, refl)

unlinkat_checks_flags_first : (tried world (λ p k. unlinkat_row p k AT_FDCWD 0 0x200) ≡ says EINVAL) × (tried world (λ p k. unlinkat_row p k AT_FDCWD 0x20010 0) ≡ Gives (spelt 0x20010 (47 ∷ 0 ∷ [])) EISDIR)
unlinkat_checks_flags_first = (refl, refl)

only_a_file_that_is_written_is_cut : (tried world (λ p k. ftruncate_row p k 9 0) ≡ says EBADF) × ((tried world (λ p k. ftruncate_row p k 1 0) ≡ says EINVAL) × ((tried (with_file 0) (λ p k. ftruncate_row p k 3 0) ≡ says EINVAL) × ((tried (with_file 1) (λ p k. ftruncate_row p k 3 (2 ^ 63)) ≡ says EINVAL) × ((tried (with_file 1) (λ p k. ftruncate_row p k 3 16777217) ≡ says EFBIG) × (tried (with_file 2) (λ p k. ftruncate_row p k 3 16777216) ≡ Gives (CutsFile 0 16777216 ∷ []) 0)))))
only_a_file_that_is_written_is_cut = (refl, (refl, (refl, (refl, (refl, refl)))))

offsets_are_signed : (tried (with_file 0) (λ p k. lseek_row p k 3 (2 ^ 64 - 2) 2) ≡ Gives (AsksSize 0 ∷ Seeks 3 3 ∷ []) 3) × ((tried (with_file 0) (λ p k. lseek_row p k 3 (2 ^ 64 - 6) 2) ≡ Gives (AsksSize 0 ∷ []) EINVAL) × ((tried (with_file 0) (λ p k. lseek_row p k 3 (2 ^ 63 - 1) 0) ≡ Gives (Seeks 3 (2 ^ 63 - 1) ∷ []) (2 ^ 63 - 1)) × (tried (with_file 0) (λ p k. lseek_row p k 3 (2 ^ 64 - 1) 1) ≡ says EINVAL)))
offsets_are_signed = (refl, (refl, (refl, refl)))

no_stream_has_an_offset : (tried world (λ p k. lseek_row p k 0 0 9) ≡ says ESPIPE) × (tried (with_file 0) (λ p k. lseek_row p k 3 0 3) ≡ says EINVAL)
no_stream_has_an_offset = (refl, refl)

-- ---- read

a_read_moves_the_offset : tried (with_file 0) (λ p k. read_row p k 3 0x20100 4) ≡ Gives (AsksSize 0 ∷ AsksSpan 1 0x20100 4 ∷ ReadsFile 0 0 4 ∷ Writes CopyOut 1 0x20100 (1 ∷ 2 ∷ 3 ∷ 4 ∷ []) ∷ Seeks 3 4 ∷ []) 4
a_read_moves_the_offset = refl

only_what_is_moved_has_to_be_good : (tried world (λ p k. read_row p k 0 0x21ffd 8) ≡ Gives (AsksSpan 1 0x21ffd 3 ∷ Takes 3 ∷ Writes CopyOut 1 0x21ffd (7 ∷ 8 ∷ 9 ∷ []) ∷ []) 3) × (tried world (λ p k. read_row p k 0 0x21ffe 8) ≡ Gives (AsksSpan 1 0x21ffe 3 ∷ []) EFAULT)
only_what_is_moved_has_to_be_good = (refl, refl)

no_byte_needs_no_buffer : (tried world (λ p k. read_row p k 0 0 0) ≡ says 0) × ((tried world (λ p k. write_row p k 1 0 0) ≡ says 0) × (tried world (λ p k. read_row p k 1 0 0) ≡ says EBADF))
no_byte_needs_no_buffer = (refl, (refl, refl))

-- process 1 has the reading end of a pipe as 3, and the writing end as 4
abbrev piped : Kernel
piped = applies (MakesPipe ∷ Opens 1 3 (PipeRead 0) 0 false ∷ Opens 1 4 (PipeWrite 0) 1 false ∷ []) world

an_empty_pipe_waits_for_a_writer : (tried piped (λ p k. read_row p k 3 0 8) ≡ Waits [] 0 0) × (tried (applies (Closes 1 4 ∷ []) piped) (λ p k. read_row p k 3 0 8) ≡ says 0)
an_empty_pipe_waits_for_a_writer = (refl, refl)

a_pipe_gives_what_it_has : tried (applies (PutsPipe 0 (5 ∷ 6 ∷ []) ∷ []) piped) (λ p k. read_row p k 3 0x20100 8) ≡ Gives (AsksSpan 1 0x20100 2 ∷ TakesPipe 0 2 ∷ Writes CopyOut 1 0x20100 (5 ∷ 6 ∷ []) ∷ []) 2
a_pipe_gives_what_it_has = refl

-- ---- write

a_stream_gets_all_bytes : tried world (λ p k. write_row p k 1 0x20000 2) ≡ Gives (AsksSpan 1 0x20000 2 ∷ Reads CopyIn 1 0x20000 (102 ∷ 0 ∷ []) ∷ Puts Out (102 ∷ 0 ∷ []) ∷ []) 2
a_stream_gets_all_bytes = refl

all_of_a_written_buffer_has_to_be_good : tried world (λ p k. write_row p k 1 0x21fff 2) ≡ Gives (AsksSpan 1 0x21fff 2 ∷ []) EFAULT
all_of_a_written_buffer_has_to_be_good = refl

appended_at_the_size : tried (with_file (O_APPEND + 1)) (λ p k. write_row p k 3 0x20000 1) ≡ Gives (AsksSpan 1 0x20000 1 ∷ AsksSize 0 ∷ Reads CopyIn 1 0x20000 (102 ∷ []) ∷ WritesFile 0 5 (102 ∷ []) ∷ Seeks 3 6 ∷ []) 1
appended_at_the_size = refl

a_file_ends_at_16_MiB : tried (applies (Seeks 3 16777216 ∷ []) (with_file 1)) (λ p k. write_row p k 3 0x20000 1) ≡ Gives (AsksSpan 1 0x20000 1 ∷ []) EFBIG
a_file_ends_at_16_MiB = refl

a_pipe_without_readers_kills : (tried (applies (Closes 1 3 ∷ []) piped) (λ p k. write_row p k 4 0 1) ≡ Death [] 13) × (tried (applies (Closes 1 3 ∷ []) piped) (λ p k. write_row p k 4 0 0) ≡ says 0)
a_pipe_without_readers_kills = (refl, refl)

abbrev full : Kernel
full = applies (PutsPipe 0 (replicate 65535 1) ∷ []) piped

a_short_write_waits_for_all_its_room : (tried full (λ p k. write_row p k 4 0x20000 2) ≡ Gives (AsksSpan 1 0x20000 2 ∷ []) 0 → ⊥) × (tried full (λ p k. write_row p k 4 0x20000 2) ≡ Waits (AsksSpan 1 0x20000 2 ∷ []) 0 2)
a_short_write_waits_for_all_its_room = (λ e. cc e, refl)

a_bad_buffer_comes_before_waiting : tried full (λ p k. write_row p k 4 0x30000 2) ≡ Gives (AsksSpan 1 0x30000 2 ∷ []) EFAULT
a_bad_buffer_comes_before_waiting = refl

-- ---- lists of pieces

-- two pieces of 1 byte, and one of none at an address where nothing is
abbrev listed : Kernel
listed = applies (Fills 1 0x20200 (0 ∷ 0 ∷ 2 ∷ 0 ∷ 0 ∷ 0 ∷ 0 ∷ 0 ∷ 1 ∷ 0 ∷ 0 ∷ 0 ∷ 0 ∷ 0 ∷ 0 ∷ 0 ∷ 0 ∷ 0 ∷ 9 ∷ []) ∷ Fills 1 0x20220 (48 ∷ 0 ∷ 2 ∷ 0 ∷ 0 ∷ 0 ∷ 0 ∷ 0 ∷ 1 ∷ []) ∷ []) world

pieces_are_copies_of_their_own : tried listed (λ p k. writev_row p k 1 0x20200 3) ≡ Gives (AsksSpan 1 0x20200 48 ∷ Reads CopyIn 1 0x20200 (0 ∷ 0 ∷ 2 ∷ 0 ∷ 0 ∷ 0 ∷ 0 ∷ 0 ∷ 1 ∷ 0 ∷ 0 ∷ 0 ∷ 0 ∷ 0 ∷ 0 ∷ 0 ∷ 0 ∷ 0 ∷ 9 ∷ 0 ∷ 0 ∷ 0 ∷ 0 ∷ 0 ∷ 0 ∷ 0 ∷ 0 ∷ 0 ∷ 0 ∷ 0 ∷ 0 ∷ 0 ∷ 48 ∷ 0 ∷ 2 ∷ 0 ∷ 0 ∷ 0 ∷ 0 ∷ 0 ∷ 1 ∷ 0 ∷ 0 ∷ 0 ∷ 0 ∷ 0 ∷ 0 ∷ 0 ∷ []) ∷ AsksSpan 1 0x20000 1 ∷ AsksSpan 1 0x90000 0 ∷ AsksSpan 1 0x20030 1 ∷ Reads CopyIn 1 0x20000 (102 ∷ []) ∷ Reads CopyIn 1 0x90000 [] ∷ Reads CopyIn 1 0x20030 (103 ∷ []) ∷ Puts Out (102 ∷ 103 ∷ []) ∷ []) 2
pieces_are_copies_of_their_own = refl

a_list_is_checked_after_its_count : (tried world (λ p k. readv_row p k 0 0 1025) ≡ says EINVAL) × ((tried world (λ p k. readv_row p k 0 0x30000 1) ≡ Gives (AsksSpan 1 0x30000 16 ∷ []) EFAULT) × (tried world (λ p k. readv_row p k 1 0 1025) ≡ says EBADF))
a_list_is_checked_after_its_count = (refl, (refl, refl))

-- no piece at all moves nothing, even into a pipe without readers
no_pieces_move_nothing : tried (applies (Closes 1 3 ∷ []) piped) (λ p k. writev_row p k 4 0x20000 0) ≡ Gives (AsksSpan 1 0x20000 0 ∷ Reads CopyIn 1 0x20000 [] ∷ []) 0
no_pieces_move_nothing = refl

-- ---- pread64, pwrite64

the_offset_is_checked_first : (tried world (λ p k. pread64_row p k 9 0 1 (2 ^ 63)) ≡ says EINVAL) × ((tried world (λ p k. pread64_row p k 1 0 1 0) ≡ says EBADF) × (tried world (λ p k. pread64_row p k 0 0 1 0) ≡ says ESPIPE))
the_offset_is_checked_first = (refl, (refl, refl))

a_read_of_no_byte_asks_for_the_size : tried (with_file 0) (λ p k. pread64_row p k 3 0x20100 0 2) ≡ Gives (AsksSize 0 ∷ AsksSpan 1 0x20100 0 ∷ ReadsFile 0 2 0 ∷ Writes CopyOut 1 0x20100 [] ∷ []) 0
a_read_of_no_byte_asks_for_the_size = refl

a_read_at_a_place_leaves_the_offset : tried (with_file 0) (λ p k. pread64_row p k 3 0x20100 9 3) ≡ Gives (AsksSize 0 ∷ AsksSpan 1 0x20100 2 ∷ ReadsFile 0 3 2 ∷ Writes CopyOut 1 0x20100 (4 ∷ 5 ∷ []) ∷ []) 2
a_read_at_a_place_leaves_the_offset = refl

a_write_of_no_byte_asks_nothing : (tried (with_file 1) (λ p k. pwrite64_row p k 3 0 0 2) ≡ says 0) × (tried world (λ p k. pwrite64_row p k 1 0 0 2) ≡ says ESPIPE)
a_write_of_no_byte_asks_nothing = (refl, refl)

appended_whatever_the_place : tried (with_file (O_APPEND + 1)) (λ p k. pwrite64_row p k 3 0x20000 1 0) ≡ Gives (AsksSpan 1 0x20000 1 ∷ AsksSize 0 ∷ Reads CopyIn 1 0x20000 (102 ∷ []) ∷ WritesFile 0 5 (102 ∷ []) ∷ []) 1
appended_whatever_the_place = refl
