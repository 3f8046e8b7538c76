-- Files whose names are written out.
use Rattle.std.proofs.Common.{◌≡◌, ◌≢◌, ℕ, zero, suc, ◌<◌, ◌≤◌, sym, ◌∙◌, ap, subst, List, [], ◌∷◌, length, get_or, lit<, arith}
use Rattle.std.specs.Prelude.{All, codes}
use Rattle.std.proofs.lemmas.List.Elements.{All-from_recursion}
use Rattle.std.specs.List.{AllByRecursion}
use Rattle.lego_base.specs.declared.report.FileOut.{FileOut}
use Rattle.report_text.specs.Archive.{NamesDiffer}

abbrev IsShort : FileOut → Type 0
IsShort file = length file.name ≤ 65535

pub short_names : (files list : List FileOut) → files ≡ list → AllByRecursion IsShort list → All IsShort files
short_names files list is all = subst (λ (l : List FileOut). All IsShort l) (sym is) (All-from_recursion IsShort list all)

-- a name that none of these has, and names that differ
abbrev IsOther : FileOut → List FileOut → Type 0
IsOther file files = AllByRecursion (λ other. file.name ≡ other.name → ⊥) files

abbrev pub Differ : List FileOut → Type 0
Differ [] = Unit {0}
Differ (file ∷ files) = IsOther file files × Differ files

other_at : (file : FileOut) (files : List FileOut) (j : ℕ) (d : FileOut) → IsOther file files → j < length files → file.name ≡ (get_or files j d).name → ⊥
other_at file [] j d o h = absurd (omega arith)
other_at file (other ∷ files) zero d o h = o.0
other_at file (other ∷ files) (suc j) d o h = other_at file files j d o.1 (omega arith)

pairs : (files : List FileOut) → Differ files → NamesDiffer files
pairs [] o i j d less h = absurd (omega arith)
pairs (file ∷ files) o zero zero d less h = absurd (omega arith)
pairs (file ∷ files) o zero (suc j) d less h = other_at file files j d o.0 (omega arith)
pairs (file ∷ files) o (suc i) zero d less h = absurd (omega arith)
pairs (file ∷ files) o (suc i) (suc j) d less h = pairs files o.1 i j d (omega arith) (omega arith)

pub names_differ : (files list : List FileOut) → files ≡ list → Differ list → NamesDiffer files
names_differ files list is o = subst NamesDiffer (sym is) (pairs list o)

pub apart : (file other : FileOut) (name name' : List ℕ) → file.name ≡ name → other.name ≡ name' → name ≢ name' → file.name ≡ other.name → ⊥
apart file other name name' e f ne same = ne (sym e ∙ same ∙ f)

less_apart : (m n : ℕ) → m < n → n ≡ m → ⊥
less_apart m n less same = absurd (omega arith)

-- the names of one test
pub b_not_ab : codes "b" ≢ codes "ab"
b_not_ab same = less_apart 97 98 (lit< tt) (ap (λ (l : List ℕ). get_or l 0 0) same)

pub b_not_a : codes "b" ≢ codes "a"
b_not_a same = less_apart 97 98 (lit< tt) (ap (λ (l : List ℕ). get_or l 0 0) same)

pub ab_not_a : codes "ab" ≢ codes "a"
ab_not_a same = less_apart 1 2 (lit< tt) (ap (λ (l : List ℕ). length l) same)
