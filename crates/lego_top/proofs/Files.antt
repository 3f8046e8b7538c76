-- The files that a depot has of a plan's can be made.
use Rattle.std.proofs.Common.{◌≡◌, ◌≢◌, ℕ, zero, suc, ◌<◌, ◌≤◌, List, [], ◌∷◌, length, get_or, Option, refl, sym, ◌∙◌, subst, arith}
use Rattle.std.specs.Prelude.{All, AllPairs}
use Rattle.lego_base.specs.declared.report.FileOut.{FileOut}
use Rattle.lego_base.specs.declared.sizes.TheConstants.{LONGEST_FILE}
use Rattle.host_io.specs.Depots.{Files}
use Rattle.desc_read.specs.declared.plan.FileFrom.{FileFrom}
use Rattle.desc_read.specs.declared.plan.Plan.{Plan}
use Rattle.desc_read.specs.Laws.{Bounded}
use Rattle.linux_model.specs.Limits.{NAME_BYTES}
use Rattle.plain_kernel.specs.Making.{CanMake}
use Rattle.lego_top.specs.Inputs.{AreThere}

as_many : (told : Option Files) (sources : List FileFrom) (files : List FileOut) → AreThere told sources files → length files ≡ length sources
as_many told [] [] there = refl
as_many told [] (file ∷ files) there = absurd there
as_many told (source ∷ sources) [] there = absurd there
as_many told (source ∷ sources) (file ∷ files) there = let rest = as_many told sources files there.3 in omega (arith, rest)

-- the place of a file where there is none
abbrev placed : FileOut → FileFrom
placed file = record { path = file.name; from = [] }

name_at : (told : Option Files) (sources : List FileFrom) (files : List FileOut) (k : ℕ) (d : FileOut) → AreThere told sources files → k < length files → (get_or files k d).name ≡ (get_or sources k (placed d)).path
name_at told [] [] k d there low = absurd (omega (arith, low))
name_at told [] (file ∷ files) k d there low = absurd there
name_at told (source ∷ sources) [] k d there low = absurd there
name_at told (source ∷ sources) (file ∷ files) zero d there low = there.0
name_at told (source ∷ sources) (file ∷ files) (suc k) d there low = name_at told sources files k d there.3 (omega (arith, low))

size_at : (told : Option Files) (sources : List FileFrom) (files : List FileOut) (k : ℕ) (d : FileOut) → AreThere told sources files → k < length files → length (get_or files k d).bytes ≤ LONGEST_FILE
size_at told [] [] k d there low = absurd (omega (arith, low))
size_at told [] (file ∷ files) k d there low = absurd there
size_at told (source ∷ sources) [] k d there low = absurd there
size_at told (source ∷ sources) (file ∷ files) zero d there low = there.2
size_at told (source ∷ sources) (file ∷ files) (suc k) d there low = size_at told sources files k d there.3 (omega (arith, low))

module _ (told : Option Files) (plan : Plan) (bounded : Bounded plan) (sources : List FileFrom) (of_plan : sources ≡ plan.files) (files : List FileOut) (fetched : AreThere told sources files) where
  there : AreThere told plan.files files
  there = subst (λ (sources : List FileFrom). AreThere told sources files) of_plan fetched

  count : length files ≡ length plan.files
  count = as_many told plan.files files there

  abbrev path : ℕ → FileOut → List ℕ
  path k d = (get_or plan.files k (placed d)).path

  names_differ : AllPairs (λ (file other : FileOut). file.name ≢ other.name) files
  names_differ i j d less low = λ same.
      let first : (get_or files i d).name ≡ path i d = name_at told plan.files files i d there (omega (arith, less, low)) in
      let second : (get_or files j d).name ≡ path j d = name_at told plan.files files j d there low in
      bounded.apart i j (placed d) less (omega (arith, low, count)) (sym first ∙ same ∙ second)

  -- there are few enough, with names of their own, and none is too long
  pub can_make : CanMake files
  can_make = record {
    differ = names_differ;
    few = let few = bounded.files in omega (arith, few, count);
    short = λ k d low. size_at told plan.files files k d there low;
  }

  pub names_short : All (λ (file : FileOut). length file.name ≤ NAME_BYTES) files
  names_short k d low =
      subst (λ (name : List ℕ). length name ≤ NAME_BYTES) (sym (name_at told plan.files files k d there low))
      (bounded.short k (placed d) (omega (arith, low, count)))
