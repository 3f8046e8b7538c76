-- Bytes that give no value.
use Rattle.std.proofs.Common.{◌≡◌, ℕ, Bool, true, false, List, None, IsUtf8, codes, refl}
use Rattle.std.specs.Str.{is_utf8}
use Rattle.std.proofs.lemmas.Str.{IsUtf8-from_is_utf8}
use Rattle.serde_json.specs.Read.{read}
use Rattle.desc_read.specs.declared.fault.DescKind.TheVariants.{Syntax}
use Rattle.desc_read.specs.Faults.{refused}
use Rattle.desc_read.specs.Plans.{described}

by_utf8 : (bytes : List ℕ) (b : Bool) → is_utf8 bytes ≡ b → (IsUtf8 bytes → read bytes ≡ None) → described bytes ≡ refused Syntax (codes ".")
unfolding described
by_utf8 bytes true e h = rw (e, h (IsUtf8-from_is_utf8 bytes e)) refl
by_utf8 bytes false e h = rw e refl

pub no_reading : (bytes : List ℕ) → (IsUtf8 bytes → read bytes ≡ None) → described bytes ≡ refused Syntax (codes ".")
no_reading bytes h = by_utf8 bytes (is_utf8 bytes) refl h
