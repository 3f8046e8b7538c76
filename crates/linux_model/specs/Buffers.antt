-- Buffers of a process: lists of pieces, of which read(2) and write(2) have one. The check of a buffer comes before any
-- byte is copied, and each piece is a copy of its own.
use Rattle.std.specs.Prelude.{ℕ, zero, suc, ◌+◌, ◌-◌, ◌&&◌, Bool, true, not, if◌then◌else◌, min, List, [], ◌∷◌, ◌++◌, take, drop, sum_by}
use Rattle.lego_base.specs.declared.sizes.TheConstants.{LONGEST_FILE}
use Rattle.lego_base.specs.Space.{Space, permits, bytes_at, number_of}
use Rattle.kernel_objects.specs.declared.piece.Piece.{Piece}
use Rattle.linux_model.specs.Limits.{EFAULT}
use Rattle.linux_model.specs.State.{Kernel, Process}
use Rattle.linux_model.specs.Effects.{Effect, Reads, Writes, AsksSpan, CopyIn, CopyOut}
use Rattle.linux_model.specs.Called.{Called, following, first}

-- the permissions that a copy needs
abbrev pub to_read : ℕ
to_read = 1

abbrev pub to_write : ℕ
to_write = 2

-- a buffer of one piece
abbrev pub one_piece : ℕ → ℕ → List Piece
one_piece address n = record { at = address; size = n } ∷ []

-- a length above the longest counts as the longest
abbrev pub counted : ℕ → ℕ
counted len = min len LONGEST_FILE

abbrev pub total : List Piece → ℕ
total pieces = sum_by (λ x. x.size) pieces

-- the part of the joined pieces that has n bytes and stands after `skip` bytes
abbrev pub part : ℕ → ℕ → List Piece → List Piece
part skip n [] = []
part skip n (x ∷ pieces) =
    record { at = x.at + min skip x.size; size = min n (x.size - skip) } ∷ part (skip - x.size) (n - min n (x.size - skip)) pieces

-- whether each byte of each piece is in a page with this permission
abbrev pub are_good : Space → ℕ → List Piece → Bool
are_good space need [] = true
are_good space need (x ∷ pieces) = permits space need x.at x.size && are_good space need pieces

-- the areas of the pieces are asked for, up to the first piece that isn't good
abbrev pub asks_pieces : ℕ → Space → ℕ → List Piece → List Effect
asks_pieces pid space need [] = []
asks_pieces pid space need (x ∷ pieces) = AsksSpan pid x.at x.size ∷ (if permits space need x.at x.size then asks_pieces pid space need pieces else [])

-- what comes where a buffer is good, else EFAULT
abbrev pub where_good : Process → Kernel → ℕ → List Piece → Called → Called
where_good p k need pieces last =
    following (asks_pieces p.pid (k.space p.pid) need pieces)
    (first ((not (are_good (k.space p.pid) need pieces), EFAULT) ∷ []) last)

-- the bytes in pieces, and the copies that read them
abbrev pub bytes_in : Space → List Piece → List ℕ
bytes_in space [] = []
bytes_in space (x ∷ pieces) = bytes_at space x.at x.size ++ bytes_in space pieces

abbrev pub copies_in : ℕ → Space → List Piece → List Effect
copies_in pid space [] = []
copies_in pid space (x ∷ pieces) = Reads CopyIn pid x.at (bytes_at space x.at x.size) ∷ copies_in pid space pieces

-- the copies that write bytes into pieces
abbrev pub copies_out : ℕ → List Piece → List ℕ → List Effect
copies_out pid [] bytes = []
copies_out pid (x ∷ pieces) bytes = Writes CopyOut pid x.at (take x.size bytes) ∷ copies_out pid pieces (drop x.size bytes)

-- the pieces that readv(2) and writev(2) are given: for each an address and a length, in 16 bytes
abbrev pub pieces_of : ℕ → List ℕ → List Piece
pieces_of zero bytes = []
pieces_of (suc n) bytes = record { at = number_of (take 8 bytes); size = number_of (take 8 (drop 8 bytes)) } ∷ pieces_of n (drop 16 bytes)
