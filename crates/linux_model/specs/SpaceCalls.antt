-- The calls on a process's space: brk, munmap, mmap and mprotect, one row a call.
use Rattle.std.specs.Prelude.{ℕ, zero, suc, ◌+◌, ◌-◌, ◌*◌, ◌/◌, ◌%◌, ◌==◌, ◌&&◌, ◌||◌, not, Bool, true, if◌then◌else◌, nat_lt, List, [], ◌∷◌, length, is_none}
use Rattle.lego_base.specs.declared.perms.Perms.{Perms}
use Rattle.lego_base.specs.declared.records.Area.{Area}
use Rattle.lego_base.specs.declared.sizes.TheConstants.{USER_END}
use Rattle.lego_base.specs.Space.{perms_of}
use Rattle.area_list.specs.Runs.{page_count, put_runs, cut_runs}
use Rattle.area_list.specs.Cover.{covered}
use Rattle.space_rules.specs.declared.TheConstants.{MAPPINGS_START}
use Rattle.space_rules.specs.Mapped.{read_write}
use Rattle.space_rules.specs.Place.{pages_for, place_of}
use Rattle.linux_model.specs.Limits.{EINVAL, ENOMEM, RUNS, PAGES, MAPPING_BYTES}
use Rattle.linux_model.specs.State.{Kernel, Process}
use Rattle.linux_model.specs.Effects.{Effect, AsksSpace, Maps, Protects, Unmaps, Breaks}
use Rattle.linux_model.specs.Called.{Called, Gives, says, following, first, given}

abbrev pub areas_of : Process → Kernel → List Area
areas_of p k = (k.space p.pid).areas

-- more runs of mapped pages than a process may have, and more runs or pages
abbrev pub has_many_runs : List Area → Bool
has_many_runs areas = nat_lt RUNS (length areas)

abbrev pub is_past_limits : List Area → Bool
is_past_limits areas = has_many_runs areas || nat_lt PAGES (page_count areas)

-- whether none of `pages` pages, starting at `first`, is mapped
abbrev pub is_free : List Area → ℕ → ℕ → Bool
is_free areas first zero = true
is_free areas first (suc pages) = is_none (perms_of areas first) && is_free areas (first + 1) pages

abbrev pub is_page_address : ℕ → Bool
is_page_address address = address % 4096 == 0

-- the permissions of mmap(2): READ 1, WRITE 2, EXEC 4
abbrev pub perms : ℕ → Perms
perms prot = record { 0 = prot }

-- ---- brk

abbrev pub moves_break : Process → ℕ → Effect
moves_break p address = Breaks p.pid p.brk.base address

abbrev pub grows : Process → Kernel → ℕ → ℕ → ℕ → Called
grows p k address first_page pages =
    if not (is_free (areas_of p k) first_page pages) || is_past_limits (put_runs first_page pages read_write (areas_of p k))
    then says p.brk.now
    else Gives (Maps p.pid (put_runs first_page pages read_write (areas_of p k)) ∷ moves_break p address ∷ []) address

abbrev pub shrinks : Process → Kernel → ℕ → ℕ → ℕ → Called
shrinks p k address first_page pages =
    if has_many_runs (cut_runs first_page pages (areas_of p k))
    then says p.brk.now
    else Gives (Unmaps p.pid first_page pages ∷ moves_break p address ∷ []) address

-- the break moves from a page to another: the pages between them are mapped or unmapped
abbrev pub brk_between : Process → Kernel → ℕ → ℕ → ℕ → Called
brk_between p k address was to =
    if nat_lt was to then following (AsksSpace p.pid ∷ []) (grows p k address was (to - was)) else (
    if nat_lt to was then following (AsksSpace p.pid ∷ []) (shrinks p k address to (was - to)) else
    Gives (moves_break p address ∷ []) address)

-- brk(2), as the system call: the new break, or the old one where it can't move
abbrev pub brk_row : Process → Kernel → ℕ → Called
brk_row p k address =
    first ((nat_lt address p.brk.base || nat_lt MAPPINGS_START address, p.brk.now) ∷ [])
    (brk_between p k address (pages_for p.brk.now) (pages_for address))

-- ---- mappings

-- munmap(2)
abbrev pub munmap_row : Process → Kernel → ℕ → ℕ → Called
munmap_row p k address len =
    first ((not (is_page_address address) || len == 0 || nat_lt USER_END (address + len), EINVAL) ∷ [])
    (following (AsksSpace p.pid ∷ [])
    (first ((has_many_runs (cut_runs (address / 4096) (pages_for len) (areas_of p k)), ENOMEM) ∷ [])
    (Gives (Unmaps p.pid (address / 4096) (pages_for len) ∷ []) 0)))

-- MAP_PRIVATE (2) and MAP_ANONYMOUS (0x20) without MAP_FIXED (0x10), and with it
abbrev pub is_anywhere : ℕ → Bool
is_anywhere flags = flags == 0x22

abbrev pub is_fixed : ℕ → Bool
is_fixed flags = flags == 0x32

-- at the lowest place, which is free
abbrev pub maps_at : Process → Kernel → ℕ → Perms → ℕ → Called
maps_at p k pages perms at =
    first ((is_past_limits (put_runs (at / 4096) pages perms (areas_of p k)), ENOMEM) ∷ [])
    (Gives (Maps p.pid (put_runs (at / 4096) pages perms (areas_of p k)) ∷ []) at)

-- at an address, where the range is unmapped first
abbrev pub maps_fixed : Process → Kernel → ℕ → ℕ → Perms → List Area → Called
maps_fixed p k first_page pages perms cut =
    following (AsksSpace p.pid ∷ [])
    (first ((is_past_limits cut || is_past_limits (put_runs first_page pages perms cut), ENOMEM) ∷ [])
    (Gives (Unmaps p.pid first_page pages ∷ Maps p.pid (put_runs first_page pages perms cut) ∷ []) (first_page * 4096)))

-- mmap(2); descriptor and offset are ignored
abbrev pub mmap_row : Process → Kernel → ℕ → ℕ → ℕ → ℕ → Called
mmap_row p k address len prot flags =
    first ((len == 0 || nat_lt 7 prot || not (is_anywhere flags || is_fixed flags), EINVAL)
    ∷ (nat_lt MAPPING_BYTES len, ENOMEM) ∷ [])
    (if is_fixed flags
    then first ((not (is_page_address address) || nat_lt address 4096, EINVAL)
    ∷ (nat_lt USER_END (address + len), ENOMEM) ∷ [])
    (maps_fixed p k (address / 4096) (pages_for len) (perms prot) (cut_runs (address / 4096) (pages_for len) (areas_of p k)))
    else following (AsksSpace p.pid ∷ []) (given (place_of (areas_of p k) len) ENOMEM (maps_at p k (pages_for len) (perms prot))))

-- mprotect(2)
abbrev pub mprotect_row : Process → Kernel → ℕ → ℕ → ℕ → Called
mprotect_row p k address len prot =
    first ((not (is_page_address address) || nat_lt 7 prot, EINVAL)
    ∷ (len == 0, 0)
    ∷ (nat_lt USER_END (address + len), ENOMEM) ∷ [])
    (following (AsksSpace p.pid ∷ [])
    (first ((not (covered (areas_of p k) (address / 4096) (pages_for len) (perms 0)), ENOMEM)
    ∷ (has_many_runs (put_runs (address / 4096) (pages_for len) (perms prot) (areas_of p k)), ENOMEM) ∷ [])
    (Gives (Protects p.pid (address / 4096) (pages_for len) (put_runs (address / 4096) (pages_for len) (perms prot) (areas_of p k)) ∷ []) 0)))
