-- Descriptions, pipes and files still fit after an effect on them.
use Rattle.std.proofs.Common.{◌≡◌, ℕ, zero, suc, ◌+◌, ◌<◌, Bool, true, false, cond, eqb, ◌||◌, refl, sym, ◌∙◌, ap, subst, List, [], ◌∷◌, ◌++◌, slice_set, Option, Some, None, is_some, arith}
use Rattle.std.proofs.lemmas.Bool.{eq-eqb, eqb-true}
use Rattle.lego_base.specs.declared.ids.FileNo.{FileNo}
use Rattle.lego_base.specs.declared.records.NameEntry.{NameEntry}
use Rattle.lego_base.specs.Files.{File, is_file, with_file_bytes, without_file, named, has_name, with_name, without_name, is_before}
use Rattle.kernel_objects.specs.declared.descriptor.Description.{Description}
use Rattle.kernel_objects.specs.declared.descriptor.Object.{Object}
use Rattle.kernel_objects.specs.declared.descriptor.Object.TheVariants.{Regular, PipeRead, PipeWrite}
use Rattle.kernel_objects.specs.Slots.{slot, freed, with_next}
use Rattle.linux_model.specs.Processes.{is_file_object, has_file, is_reading_end, is_writing_end, has_reader, has_writer}
use Rattle.linux_model.specs.Effects.{sought}
use Rattle.linux_model.specs.Fits.{ObjectFits, DescsFit, NamesFit, NumbersBelow}
use Rattle.linux_model.proofs.fits.Slots.{slot_other, parts_false}

apart : (a b : ℕ) → eqb a b ≡ false → b ≡ a → ⊥
apart a b e same = let is : eqb a b ≡ true = eq-eqb a b (sym same) in cc (is, e)

-- ---- descriptions

abbrev FilesGrow : List File → List File → Type 0
FilesGrow files files' = (n : ℕ) → is_file files n ≡ true → is_file files' n ≡ true

abbrev PipesGrow : List (Option (List ℕ)) → List (Option (List ℕ)) → Type 0
PipesGrow pipes pipes' = (n : ℕ) → is_some (slot pipes n) ≡ true → is_some (slot pipes' n) ≡ true

object_grows : (files files' : List File) (pipes pipes' : List (Option (List ℕ))) → FilesGrow files files' → PipesGrow pipes pipes' → (object : Object) → ObjectFits files pipes object → ObjectFits files' pipes' object
object_grows files files' pipes pipes' more more' (Regular file) f = more file.0 f
object_grows files files' pipes pipes' more more' (PipeRead pipe) f = more' pipe f
object_grows files files' pipes pipes' more more' (PipeWrite pipe) f = more' pipe f
object_grows files files' pipes pipes' more more' other f = tt

pub descs_grow : (files files' : List File) (pipes pipes' : List (Option (List ℕ))) → FilesGrow files files' → PipesGrow pipes pipes' → (descs : List (Option Description)) → DescsFit files pipes descs → DescsFit files' pipes' descs
descs_grow files files' pipes pipes' more more' [] f = tt
descs_grow files files' pipes pipes' more more' (None ∷ descs) f = descs_grow files files' pipes pipes' more more' descs f
descs_grow files files' pipes pipes' more more' (Some d ∷ descs) f = (object_grows files files' pipes pipes' more more' d.object f.0, descs_grow files files' pipes pipes' more more' descs f.1)

module _ (files : List File) (pipes : List (Option (List ℕ))) where
  pub descs_next : (d : Description) (descs : List (Option Description)) → ObjectFits files pipes d.object → DescsFit files pipes descs → DescsFit files pipes (with_next d descs)
  descs_next d [] there f = (there, tt)
  descs_next d (None ∷ descs) there f = (there, f)
  descs_next d (Some x ∷ descs) there f = (f.0, descs_next d descs there f.1)

  pub descs_free : (descs : List (Option Description)) (n : ℕ) → DescsFit files pipes descs → DescsFit files pipes (freed descs n)
  descs_free [] n f = tt
  descs_free (None ∷ descs) zero f = f
  descs_free (Some d ∷ descs) zero f = f.1
  descs_free (None ∷ descs) (suc n) f = descs_free descs n f
  descs_free (Some d ∷ descs) (suc n) f = (f.0, descs_free descs n f.1)

  pub descs_sought : (descs : List (Option Description)) (n offset : ℕ) → DescsFit files pipes descs → DescsFit files pipes (slice_set descs n (sought offset (slot descs n)))
  descs_sought [] n offset f = tt
  descs_sought (None ∷ descs) zero offset f = f
  descs_sought (Some d ∷ descs) zero offset f = (f.0, f.1)
  descs_sought (None ∷ descs) (suc n) offset f = descs_sought descs n offset f
  descs_sought (Some d ∷ descs) (suc n) offset f = (f.0, descs_sought descs n offset f.1)

  -- a pipe without ends goes
  object_without : (pipe : ℕ) (object : Object) → is_reading_end pipe object ≡ false → is_writing_end pipe object ≡ false → ObjectFits files pipes object → ObjectFits files (freed pipes pipe) object
  object_without pipe (PipeRead slot_) r w f = ap (λ (o : Option (List ℕ)). is_some o) (slot_other pipes pipe slot_ None (apart slot_ pipe r)) ∙ f
  object_without pipe (PipeWrite slot_) r w f = ap (λ (o : Option (List ℕ)). is_some o) (slot_other pipes pipe slot_ None (apart slot_ pipe w)) ∙ f
  object_without pipe (Regular file) r w f = f
  object_without pipe other r w f = tt

  pub descs_without : (pipe : ℕ) (descs : List (Option Description)) → has_reader pipe descs ≡ false → has_writer pipe descs ≡ false → DescsFit files pipes descs → DescsFit files (freed pipes pipe) descs
  descs_without pipe [] r w f = tt
  descs_without pipe (None ∷ descs) r w f = descs_without pipe descs r w f
  descs_without pipe (Some d ∷ descs) r w f =
      let reading = parts_false (is_reading_end pipe d.object) (has_reader pipe descs) r in
      let writing = parts_false (is_writing_end pipe d.object) (has_writer pipe descs) w in
      (object_without pipe d.object reading.0 writing.0 f.0, descs_without pipe descs reading.1 writing.1 f.1)

pub sought_keeps : (descs : List (Option Description)) (n offset m : ℕ) → is_some (slot descs m) ≡ true → is_some (slot (slice_set descs n (sought offset (slot descs n))) m) ≡ true
sought_keeps [] n offset m is = is
sought_keeps (None ∷ descs) zero offset zero is = is
sought_keeps (Some d ∷ descs) zero offset zero is = refl
sought_keeps (x ∷ descs) zero offset (suc m) is = is
sought_keeps (x ∷ descs) (suc n) offset zero is = is
sought_keeps (x ∷ descs) (suc n) offset (suc m) is = sought_keeps descs n offset m is

-- ---- files

or_right : (b c : Bool) → c ≡ true → (b || c) ≡ true
or_right true c e = refl
or_right false c e = e

or_map : (b c d : Bool) → (c ≡ true → d ≡ true) → (b || c) ≡ true → (b || d) ≡ true
or_map true c d f e = refl
or_map false c d f e = f e

pub more_files : (files : List File) (f : File) → FilesGrow files (files ++ f ∷ [])
more_files [] f n is = cc is
more_files (g ∷ files) f n is = or_map (eqb g.file n) (is_file files n) (is_file (files ++ f ∷ []) n) (more_files files f n) is

pub last_file : (files : List File) (f : File) → is_file (files ++ f ∷ []) f.file ≡ true
last_file [] f = ap (λ (b : Bool). b || false) (eq-eqb f.file f.file refl)
last_file (g ∷ files) f = or_right (eqb g.file f.file) (is_file (files ++ f ∷ []) f.file) (last_file files f)

number_kept : (b : Bool) (f : File) (bytes : List ℕ) → (cond b (record f { bytes = bytes }) f).file ≡ f.file
number_kept true f bytes = refl
number_kept false f bytes = refl

pub same_files : (files : List File) (file : ℕ) (bytes : List ℕ) → FilesGrow files (with_file_bytes files file bytes)
same_files [] file bytes n is = is
same_files (f ∷ files) file bytes n is =
    ap (λ (m : ℕ). eqb m n || is_file (with_file_bytes files file bytes) n) (number_kept (eqb f.file file) f bytes)
    ∙ or_map (eqb f.file n) (is_file files n) (is_file (with_file_bytes files file bytes) n) (same_files files file bytes n) is

-- another file goes
cut_choice : (b : Bool) (f : File) (rest : List File) (n : ℕ) → (b ≡ true → eqb f.file n ≡ false) → (eqb f.file n || is_file rest n) ≡ true → is_file (cond b rest (f ∷ rest)) n ≡ true
cut_choice true f rest n other is = sym (ap (λ (c : Bool). c || is_file rest n) (other refl)) ∙ is
cut_choice false f rest n other is = is

pub other_file : (files : List File) (file n : ℕ) → eqb n file ≡ false → is_file files n ≡ true → is_file (without_file file files) n ≡ true
other_file [] file n other is = is
other_file (f ∷ files) file n other is =
    cut_choice (eqb f.file file) f (without_file file files) n
    (λ same. ap (λ (m : ℕ). eqb m n) (eqb-true f.file file same) ∙ turned file n other)
    (or_map (eqb f.file n) (is_file files n) (is_file (without_file file files) n) (other_file files file n other) is)
  where
    turned : (a b : ℕ) → eqb b a ≡ false → eqb a b ≡ false
    turned a b e = by (eqb a b) refl
      where
        by : (c : Bool) → eqb a b ≡ c → c ≡ false
        by true f = let is : eqb b a ≡ true = eq-eqb b a (sym (eqb-true a b f)) in cc (is, e)
        by false f = refl

object_kept : (files : List File) (pipes : List (Option (List ℕ))) (file : ℕ) (object : Object) → is_file_object file object ≡ false → ObjectFits files pipes object → ObjectFits (without_file file files) pipes object
object_kept files pipes file (Regular number) other f = other_file files file number.0 other f
object_kept files pipes file (PipeRead pipe) other f = f
object_kept files pipes file (PipeWrite pipe) other f = f
object_kept files pipes file object other f = tt

pub descs_freed : (files : List File) (pipes : List (Option (List ℕ))) (file : ℕ) (descs : List (Option Description)) → has_file file descs ≡ false → DescsFit files pipes descs → DescsFit (without_file file files) pipes descs
descs_freed files pipes file [] none f = tt
descs_freed files pipes file (None ∷ descs) none f = descs_freed files pipes file descs none f
descs_freed files pipes file (Some d ∷ descs) none f =
    let parts = parts_false (is_file_object file d.object) (has_file file descs) none in
    (object_kept files pipes file d.object parts.0 f.0, descs_freed files pipes file descs parts.1 f.1)

-- ---- names

pub names_grow : (files files' : List File) → FilesGrow files files' → (names : List NameEntry) → NamesFit files names → NamesFit files' names
names_grow files files' more [] f = tt
names_grow files files' more (e ∷ names) f = (more e.file.0 f.0, names_grow files files' more names f.1)

pub names_freed : (files : List File) (file : ℕ) (names : List NameEntry) → has_name names file ≡ false → NamesFit files names → NamesFit (without_file file files) names
names_freed files file [] none f = tt
names_freed files file (e ∷ names) none f =
    let parts = parts_false (eqb e.file.0 file) (has_name names file) none in
    (other_file files file e.file.0 parts.0 f.0, names_freed files file names parts.1 f.1)

names_choice : (b : Bool) (files : List File) (xs ys : List NameEntry) → NamesFit files xs → NamesFit files ys → NamesFit files (cond b xs ys)
names_choice true files xs ys f g = f
names_choice false files xs ys f g = g

pub names_with : (files : List File) (e : NameEntry) (names : List NameEntry) → is_file files e.file.0 ≡ true → NamesFit files names → NamesFit files (with_name e names)
names_with files e [] is f = (is, tt)
names_with files e (d ∷ names) is f =
    names_choice (is_before e.name d.name) files (e ∷ d ∷ names) (d ∷ with_name e names) (is, f) (f.0, names_with files e names is f.1)

pub names_without : (files : List File) (name : List ℕ) (names : List NameEntry) → NamesFit files names → NamesFit files (without_name name names)
names_without files name [] f = tt
names_without files name (e ∷ names) f = names_choice _ files (without_name name names) (e ∷ without_name name names) (names_without files name names f.1) (f.0, names_without files name names f.1)

-- the file that a name has is there
pub named_fits : (files : List File) (names : List NameEntry) (name : List ℕ) (file : FileNo) → NamesFit files names → named names name ≡ Some file → is_file files file.0 ≡ true
named_fits files [] name file f e = cc e
named_fits files (d ∷ names) name file f e = found _ (named_fits files names name file f.1) e
  where
    found : (b : Bool) → (named names name ≡ Some file → is_file files file.0 ≡ true) → cond b (Some d.file) (named names name) ≡ Some file → is_file files file.0 ≡ true
    found true more e = subst (λ (x : FileNo). is_file files x.0 ≡ true) (inside e) f.0
      where
        inside : Some d.file ≡ Some file → d.file ≡ file
        inside e = ap (λ (o : Option FileNo). unwrap o) e
          where
            unwrap : Option FileNo → FileNo
            unwrap None = d.file
            unwrap (Some x) = x
    found false more e = more e

-- ---- numbers

pub numbers_more : (next : ℕ) (files : List File) (f : File) → NumbersBelow next files → f.file < next + 1 → NumbersBelow (next + 1) (files ++ f ∷ [])
numbers_more next [] f g h = (h, tt)
numbers_more next (x ∷ files) f g h = let a : x.file < next = g.0 in ((omega arith), numbers_more next files f g.1 h)

pub numbers_same : (next : ℕ) (files : List File) (file : ℕ) (bytes : List ℕ) → NumbersBelow next files → NumbersBelow next (with_file_bytes files file bytes)
numbers_same next [] file bytes g = tt
numbers_same next (f ∷ files) file bytes g = (subst (λ (m : ℕ). m < next) (sym (number_kept (eqb f.file file) f bytes)) g.0, numbers_same next files file bytes g.1)

numbers_choice : (b : Bool) (next : ℕ) (xs ys : List File) → NumbersBelow next xs → NumbersBelow next ys → NumbersBelow next (cond b xs ys)
numbers_choice true next xs ys f g = f
numbers_choice false next xs ys f g = g

pub numbers_without : (next file : ℕ) (files : List File) → NumbersBelow next files → NumbersBelow next (without_file file files)
numbers_without next file [] g = tt
numbers_without next file (f ∷ files) g = numbers_choice (eqb f.file file) next (without_file file files) (f ∷ without_file file files) (numbers_without next file files g.1) (g.0, numbers_without next file files g.1)
