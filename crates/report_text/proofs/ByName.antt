-- Files by name.
use Rattle.std.proofs.Common.{◌≡◌, ℕ, Bool, true, false, cond, refl, sym, ◌∙◌, List, [], ◌∷◌, ◌++◌, arith}
use Rattle.std.specs.Prelude.{IsPermutation, IsSortedByKey, flat_map, codes}
use Rattle.std.specs.declared.cmp.Ordering.{Ordering}
use Rattle.std.specs.declared.cmp.Ordering.TheVariants.{Less, Equal, Greater}
use Rattle.std.specs.Ordering.{is_lt, is_gt}
use Rattle.std.proofs.lemmas.Cmp.{nat_list_cmp_total, upto}
use Rattle.std.proofs.lemmas.List.Sorted.{IsPermutation-refl, IsPermutation-cons, IsPermutation-swap, IsPermutation-trans, length_permutation}
use Rattle.lego_base.specs.declared.report.FileOut.{FileOut}
use Rattle.lego_base.specs.Space.{bytes_of}
use Rattle.report_text.specs.Archive.{name_order, inserted, by_name, file_record, archive_of, NamesDiffer}
use Rattle.report_text.proofs.Sorting.{order, NotAbove, Ordered, lt_is_gt, sorted_of, sorted_unique}

abbrev pub name : FileOut → List ℕ
name file = file.name

inserted_permutes : (file : FileOut) (files : List FileOut) → IsPermutation (file ∷ files) (inserted file files)
inserted_permutes file [] = IsPermutation-refl (file ∷ [])
inserted_permutes file (other ∷ files) = by (is_gt (name_order file.name other.name)) (inserted_permutes file files)
  where
    by : (b : Bool) → IsPermutation (file ∷ files) (inserted file files) → IsPermutation (file ∷ other ∷ files) (cond b (other ∷ inserted file files) (file ∷ other ∷ files))
    by true rest = IsPermutation-trans (file ∷ other ∷ files) (other ∷ file ∷ files) (other ∷ inserted file files) (IsPermutation-swap (file ∷ other ∷ files) (other ∷ file ∷ files) 0 1 (omega arith) (omega arith) refl) (IsPermutation-cons other (file ∷ files) (inserted file files) rest)
    by false rest = IsPermutation-refl (file ∷ other ∷ files)

pub by_name_permutes : (files : List FileOut) → IsPermutation files (by_name files)
by_name_permutes [] = IsPermutation-refl []
by_name_permutes (file ∷ files) = IsPermutation-trans (file ∷ files) (file ∷ by_name files) (inserted file (by_name files)) (IsPermutation-cons file files (by_name files) (by_name_permutes files)) (inserted_permutes file (by_name files))

not_above_inserted : (x file : FileOut) (files : List FileOut) → is_gt (order x.name file.name) ≡ false → NotAbove name x files → NotAbove name x (inserted file files)
not_above_inserted x file [] h n = (h, tt)
not_above_inserted x file (other ∷ files) h n = by (is_gt (name_order file.name other.name)) (not_above_inserted x file files h n.1)
  where
    by : (b : Bool) → NotAbove name x (inserted file files) → NotAbove name x (cond b (other ∷ inserted file files) (file ∷ other ∷ files))
    by true rest = (n.0, rest)
    by false rest = (h, n)

not_above_behind : (x y : FileOut) (files : List FileOut) → is_gt (order x.name y.name) ≡ false → NotAbove name y files → NotAbove name x files
not_above_behind x y [] h n = tt
not_above_behind x y (z ∷ files) h n = (upto nat_list_cmp_total x.name y.name z.name h n.0, not_above_behind x y files h n.1)

gt_not_lt : (o : Ordering) → is_gt o ≡ true → is_lt o ≡ false
gt_not_lt Less h = absurd (cc)
gt_not_lt Equal h = refl
gt_not_lt Greater h = refl

inserted_ordered : (file : FileOut) (files : List FileOut) → Ordered name files → Ordered name (inserted file files)
inserted_ordered file [] o = (tt, tt)
inserted_ordered file (other ∷ files) o = by (is_gt (order file.name other.name)) refl (inserted_ordered file files o.1)
  where
    by : (b : Bool) → is_gt (order file.name other.name) ≡ b → Ordered name (inserted file files) → Ordered name (cond b (other ∷ inserted file files) (file ∷ other ∷ files))
    by true e rest = (not_above_inserted other file files (sym (lt_is_gt file.name other.name) ∙ gt_not_lt (order file.name other.name) e) o.0, rest)
    by false e rest = ((e, not_above_behind file other files e o.0), o)

pub by_name_ordered : (files : List FileOut) → Ordered name (by_name files)
by_name_ordered [] = tt
by_name_ordered (file ∷ files) = inserted_ordered file (by_name files) (by_name_ordered files)

pub by_name_is_sorted : (files : List FileOut) → IsPermutation files (by_name files) × IsSortedByKey (λ file. file.name) name_order (by_name files)
by_name_is_sorted files = (by_name_permutes files, λ k d low h. sorted_of name (by_name files) (by_name_ordered files) k d h)

-- files that are given in another order
pub by_name_free : (files others : List FileOut) → NamesDiffer files → IsPermutation files others → by_name others ≡ by_name files
by_name_free files others apart moved = sorted_unique name files (by_name others) (by_name files) apart (IsPermutation-trans files others (by_name others) moved (by_name_permutes others)) (by_name_permutes files) (by_name_ordered others) (by_name_ordered files)

pub archive_free : (files others : List FileOut) → NamesDiffer files → IsPermutation files others → archive_of others ≡ archive_of files
unfolding archive_of
archive_free files others apart moved = λ i. codes "LEGOARC1" ++ bytes_of 4 (length_permutation files others moved i) ++ flat_map file_record (by_name_free files others apart moved i)
