-- Pages that are filled one after the other.
use Rattle.std.specs.Prelude.{◌≡◌, ◌⊎◌, ℕ, nat_lt, min, true, if◌then◌else◌, List, [], ◌∷◌, Option, Some, None}
use Rattle.elf_image.specs.declared.image.Segment.{Segment}
use Rattle.space_rules.specs.Pages.{has_part}

-- the first of some pages that isn't below a page
abbrev pub next_page : ℕ → List ℕ → Option ℕ
next_page from [] = None
next_page from (page ∷ pages) = if nat_lt page from then next_page from pages else Some page

-- the lower of two pages, where there are two
abbrev pub earlier : Option ℕ → Option ℕ → Option ℕ
earlier None b = b
earlier (Some a) None = Some a
earlier (Some a) (Some b) = Some (min a b)

-- a load has a byte in a page
abbrev pub HasPart : List Segment → ℕ → Type 0
HasPart [] page = ⊥
HasPart (s ∷ segments) page = (has_part s page ≡ true) ⊎ HasPart segments page
