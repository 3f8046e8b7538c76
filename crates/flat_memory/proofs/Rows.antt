-- Worked rows.
use Rattle.std.proofs.Common.{◌≡◌, [], ◌∷◌, Some, None, refl}
use Rattle.lego_base.specs.declared.perms.Perms.{Perms}
use Rattle.flat_memory.specs.Pieces.{place_in, window}
use Rattle.flat_memory.specs.FastPath.{slot_of}

-- permissions to read and to write
abbrev readable : Perms
readable = record { 0 = 3 }

-- an address of page 16, whose bytes begin at 0x2000
place : place_in (λ page. 0x2000) 0x10ff8 ≡ 0x2ff8
place = refl

-- its slot: the begin of the page to load and to store, no page to fetch, and what leads from there to its bytes
slot : slot_of 16 (Some readable) 0x2000 ≡ record { load = 0x10000; store = 0x10000; fetch = 18446744073709551615; shift = 18446744073709494272 }
slot = refl

-- a page that shares the zeros isn't stored to
shared : slot_of 16 (Some readable) 0 ≡ record { load = 0x10000; store = 18446744073709551615; fetch = 18446744073709551615; shift = 18446744073709486080 }
shared = refl

-- a page that isn't mapped is found for no use
unmapped : slot_of 16 None 0 ≡ record { load = 18446744073709551615; store = 18446744073709551615; fetch = 18446744073709551615; shift = 18446744073709486080 }
unmapped = refl

three_bytes : window (1 ∷ 2 ∷ 3 ∷ 4 ∷ []) 1 4 ≡ 2 ∷ 3 ∷ 4 ∷ 0 ∷ []
three_bytes = refl
