-- Numbers stay below the next one where a file gets other bytes, or doesn't.
use Rattle.std.proofs.Common.{◌≡◌, ℕ, List, Result, Ok, Err, OnOk, OnErr, sym, subst}
use Rattle.lego_base.specs.declared.stops.NoMemory.{NoMemory}
use Rattle.lego_base.specs.Files.{File, with_file_bytes}
use Rattle.file_table.specs.Numbers.{NumbersBelow}
use Rattle.file_table.proofs.Numbered.{below_with}

pub below_either : (next file : ℕ) (bytes : List ℕ) (old new : List File) (result : Result (Unit {0}) NoMemory) → OnOk result (new ≡ with_file_bytes old file bytes) → OnErr result (new ≡ old) → NumbersBelow next old → NumbersBelow next new
below_either next file bytes old new (Ok done) ok err below = subst (NumbersBelow next) (sym ok) (below_with next file bytes old below)
below_either next file bytes old new (Err stop) ok err below = subst (NumbersBelow next) (sym err) below
