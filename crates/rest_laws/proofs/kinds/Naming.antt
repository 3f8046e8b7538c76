-- Operations that make or remove a name, or free a file: one message to storage.
use Rattle.std.proofs.Common.{◌≡◌, ◌⊎◌, ◌<◌, ◌≤◌, ◌==◌, [], ◌∷◌, ◌∙◌, ℕ, Bool, List, None, Option, Some, ap, arith, cond, false, if◌then◌else◌, inl, inr, refl, subst, sym, true}
use Rattle.std.proofs.lemmas.Bool.Decides.{eqb_tells}
use Rattle.std.proofs.lemmas.Slice.Eq.{bytes_eq-Decides}
use Rattle.std.specs.Str.{bytes_eq}
use Rattle.lego_base.specs.Files.{File, has_name, is_before, is_file, named, with_name, without_file, without_name}
use Rattle.lego_base.specs.declared.ids.FileNo.{FileNo}
use Rattle.lego_base.specs.declared.records.NameEntry.{NameEntry}
use Rattle.lego_msg.specs.Files.{Files, block_of, freed, is_file_room, made, made_where, unnamed, with_file}
use Rattle.lego_msg.specs.Places.{is_among}
use Rattle.lego_msg.specs.Replies.{made_reply}
use Rattle.lego_msg.specs.State.{Block}
use Rattle.lego_msg.specs.Table.{made_name, says}
use Rattle.lego_msg.specs.Track.{Track}
use Rattle.lego_msg.specs.declared.body.Body.{Body}
use Rattle.lego_msg.specs.declared.message.Message.{Message}
use Rattle.lego_msg.specs.declared.operation.Open.{Open}
use Rattle.lego_msg.specs.declared.operation.Operation.TheVariants.{CutsName, FreesFile, MakesName}
use Rattle.lego_rest.specs.Fits.{changes_block}
use Rattle.rest_laws.proofs.Filed.{FileGives}
use Rattle.rest_laws.proofs.FileLists.{added_file, gone_file, other_file}
use Rattle.rest_laws.proofs.kinds.Filing.{BlockStays, filed_one, issuer_answer}
use Rattle.rest_laws.proofs.kinds.Kind.{KindRows, StorageGives, rows_of, there}
use Rattle.lego_msg.specs.declared.body.Body.TheVariants as body
use Rattle.lego_msg.specs.declared.place.Place.TheVariants as place
use Rattle.lego_msg.specs.declared.place.Why.TheVariants as why

-- A NAME IS REMOVED, once or twice
unnamed_twice : (name : List ℕ) (names : List NameEntry) → without_name name (without_name name names) ≡ without_name name names
unnamed_twice name [] = refl
unnamed_twice name (e ∷ names) = by (bytes_eq e.name name) refl (unnamed_twice name names)
  where
    by : (b : Bool) → bytes_eq e.name name ≡ b → without_name name (without_name name names) ≡ without_name name names → without_name name (cond b (without_name name names) (e ∷ without_name name names)) ≡ cond b (without_name name names) (e ∷ without_name name names)
    by true is rest = rest
    by false is rest = ap (λ (b : Bool). cond b (without_name name (without_name name names)) (e ∷ without_name name (without_name name names))) is ∙ ap (λ (l : List NameEntry). e ∷ l) rest

-- A FILE IS FREED, once or twice
freed_twice : (file : ℕ) (files : List File) → without_file file (without_file file files) ≡ without_file file files
freed_twice file [] = refl
freed_twice file (f ∷ files) = by (f.file == file) refl (freed_twice file files)
  where
    by : (b : Bool) → (f.file == file) ≡ b → without_file file (without_file file files) ≡ without_file file files → without_file file (cond b (without_file file files) (f ∷ without_file file files)) ≡ cond b (without_file file files) (f ∷ without_file file files)
    by true is rest = rest
    by false is rest = ap (λ (b : Bool). cond b (without_file file (without_file file files)) (f ∷ without_file file (without_file file files))) is ∙ ap (λ (l : List File). f ∷ l) rest

freed_stays : (file : ℕ) (f : Files) (b : Block) → is_file (freed f file).files b.file ≡ true → BlockStays f (freed f file) b
freed_stays file f b = by (has_name f.names file)
  where
    by : (x : Bool) → is_file (cond x f (record f { files = without_file file f.files })).files b.file ≡ true → BlockStays f (cond x f (record f { files = without_file file f.files })) b
    by true is = record { there = is; same = refl }
    by false is = elim (eqb_tells b.file file) [
      | inl same ↦ let both : true ≡ false = sym is ∙ ap (is_file (without_file file f.files)) same.1 ∙ gone_file file f.files in cc both
      | inr apart ↦ let alike = other_file file b.file apart.1 f.files in record { there = sym alike.0 ∙ is; same = ap (λ (bytes : List ℕ). block_of bytes b.block) alike.1 }
    ]

freed_again : (file : ℕ) (f : Files) → freed (freed f file) file ≡ freed f file
freed_again file f = by (has_name f.names file) refl
  where
    by : (x : Bool) → has_name f.names file ≡ x → freed (cond x f (record f { files = without_file file f.files })) file ≡ cond x f (record f { files = without_file file f.files })
    by true is = ap (λ (b : Bool). cond b f (record f { files = without_file file f.files })) is
    by false is = ap (λ (b : Bool). cond b (record f { files = without_file file f.files }) (record f { files = without_file file (without_file file f.files) })) is ∙ ap (λ (l : List File). record f { files = l }) (freed_twice file f.files)

freed_next : (file : ℕ) (f : Files) → (freed f file).next ≡ f.next
freed_next file f = by (has_name f.names file)
  where
    by : (x : Bool) → (cond x f (record f { files = without_file file f.files })).next ≡ f.next
    by true = refl
    by false = refl

-- A NAME IS MADE, once or twice
same_bytes : (bytes : List ℕ) → bytes_eq bytes bytes ≡ true
same_bytes bytes = (bytes_eq-Decides bytes bytes).1 refl

found_named : (e : NameEntry) (names : List NameEntry) → named names e.name ≡ None → named (with_name e names) e.name ≡ Some e.file
found_named e [] none = ap (λ (b : Bool). cond b (Some e.file) None) (same_bytes e.name)
found_named e (d ∷ names) none = by (is_before e.name d.name) (bytes_eq d.name e.name) refl none (found_named e names)
  where
    by : (a b : Bool) → bytes_eq d.name e.name ≡ b → cond b (Some d.file) (named names e.name) ≡ None → (named names e.name ≡ None → named (with_name e names) e.name ≡ Some e.file) → named (cond a (e ∷ d ∷ names) (d ∷ with_name e names)) e.name ≡ Some e.file
    by true b is none rest = ap (λ (x : Bool). cond x (Some e.file) (cond (bytes_eq d.name e.name) (Some d.file) (named names e.name))) (same_bytes e.name)
    by false true is none rest = cc none
    by false false is none rest = ap (λ (x : Bool). cond x (Some d.file) (named (with_name e names) e.name)) is ∙ rest none

-- making it again changes nothing, and the answer is the same
made_again : (name : List ℕ) (f : Files) → (made (made f name) name ≡ made f name) × (made_reply (named (made f name).names name) (made f name) ≡ made_reply (named f.names name) f)
made_again name f = by (named f.names name) refl (is_file_room f) refl
  where
    again : (g : Files) (c : Option FileNo) → named g.names name ≡ c → made g name ≡ made_where c g name
    again g c is = ap (λ (x : Option FileNo). made_where x g name) is

    by : (c : Option FileNo) → named f.names name ≡ c → (b : Bool) → is_file_room f ≡ b → (made (made_where c f name) name ≡ made_where c f name) × (made_reply (named (made_where c f name).names name) (made_where c f name) ≡ made_reply c f)
    by (Some file) is b room = (again f (Some file) is, ap (λ (x : Option FileNo). made_reply x f) is)
    by None is true room =
        let new : Files = with_file f name in
        let grown : made_where None f name ≡ with_file f name = ap (λ (b : Bool). cond b (with_file f name) f) room in
        let found : named (with_file f name).names name ≡ Some (record { 0 = f.next }) = found_named (record { name = name; file = record { 0 = f.next } }) f.names is in (
          ap (λ (g : Files). made g name) grown ∙ again (with_file f name) (Some (record { 0 = f.next })) found ∙ sym grown,
          ap (λ (g : Files). made_reply (named g.names name) g) grown ∙ ap (λ (x : Option FileNo). made_reply x (with_file f name)) found ∙ sym (ap (λ (b : Bool). cond b (body.NameIs (Some (record { 0 = f.next }))) (body.Refused why.NoRoom)) room),
        )
    by None is false room =
        let same : made_where None f name ≡ f = ap (λ (b : Bool). cond b (with_file f name) f) room in (
          ap (λ (g : Files). made g name) same ∙ again f None is,
          ap (λ (g : Files). made_reply (named g.names name) g) same ∙ ap (λ (x : Option FileNo). made_reply x f) is,
        )

abbrev made_case : Option FileNo → Bool → Files → List ℕ → Files
made_case (Some file) room f name = f
made_case None room f name = if room then with_file f name else f

made_stays : (name : List ℕ) (f : Files) (b : Block) → b.file < f.next → is_file (made f name).files b.file ≡ true → BlockStays f (made f name) b
made_stays name f b less = subst (λ (g : Files). is_file g.files b.file ≡ true → BlockStays f g b) (sym (as_case (named f.names name))) (by (named f.names name) (is_file_room f))
  where
    as_case : (c : Option FileNo) → made_where c f name ≡ made_case c (is_file_room f) f name
    as_case (Some file) = refl
    as_case None = refl

    by : (c : Option FileNo) → (room : Bool) → is_file (made_case c room f name).files b.file ≡ true → BlockStays f (made_case c room f name) b
    by (Some file) room is = record { there = is; same = refl }
    by None true is = let alike = added_file (record { file = f.next; bytes = [] }) b.file less f.files in record { there = sym alike.0 ∙ is; same = ap (λ (bytes : List ℕ). block_of bytes b.block) alike.1 }
    by None false is = record { there = is; same = refl }

made_next : (name : List ℕ) (f : Files) → f.next ≤ (made f name).next
made_next name f = by (named f.names name) refl (is_file_room f) refl
  where
    by : (c : Option FileNo) → named f.names name ≡ c → (room : Bool) → is_file_room f ≡ room → f.next ≤ (made_where c f name).next
    by (Some file) is room e = omega arith
    by None is true e = subst (λ (b : Bool). f.next ≤ (cond b (with_file f name) f).next) (sym e) (omega arith)
    by None is false e = subst (λ (b : Bool). f.next ≤ (cond b (with_file f name) f).next) (sym e) (omega arith)

module _ (lost : Option ℕ) (t : Track) (o : Open) where
  abbrev to_it : Body → Message
  to_it what = record { from = o.by; to = place.Storage; op = o.number; body = what }

  -- a name is removed
  module _ (name : List ℕ) where
    abbrev cutting : Open
    cutting = record o { operation = CutsName name }

    cut : StorageGives lost t cutting (to_it (body.NameCut name))
    cut reaches = filed_one lost t cutting (to_it (body.NameCut name)) reaches (unnamed t.disk.files name) _ (λ j pid vpn. refl)
        (issuer_answer lost t cutting (to_it (body.NameCut name)) reaches body.Done (ap (is_among place.Storage) reaches.middle.current.0.targets) refl)
        refl refl (λ b. refl) (inr (new reaches.middle.disk.files)) (λ now. new reaches.middle.disk.files) (omega arith) (λ b below still is. record { there = is; same = refl })
      where
        new : (t.disk.files ≡ t.plain.files) ⊎ (t.disk.files ≡ unnamed t.plain.files name) → unnamed t.disk.files name ≡ unnamed t.plain.files name
        new (inl e) = ap (λ (f : Files). unnamed f name) e
        new (inr e) = ap (λ (f : Files). unnamed f name) e ∙ ap (λ (l : List NameEntry). record t.plain.files { names = l }) (unnamed_twice name t.plain.files.names)

    pub cuts_rows : KindRows lost t cutting
    cuts_rows = rows_of lost t cutting (λ to what how. how) (λ m how. how) (there lost t cutting (to_it (body.NameCut name)) refl cut, tt)

  -- a file is freed
  module _ (file : FileNo) where
    abbrev freeing : Open
    freeing = record o { operation = FreesFile file }

    free : StorageGives lost t freeing (to_it (body.FileFree file))
    free reaches = filed_one lost t freeing (to_it (body.FileFree file)) reaches (freed t.disk.files file.0) _ (λ j pid vpn. refl)
        (issuer_answer lost t freeing (to_it (body.FileFree file)) reaches body.Done (ap (is_among place.Storage) reaches.middle.current.0.targets) refl)
        refl refl (λ b. refl) (inr (new reaches.middle.disk.files)) (λ now. new reaches.middle.disk.files) (let next = freed_next file.0 t.disk.files in omega (arith, next)) (λ b below still is. freed_stays file.0 t.disk.files b is)
      where
        new : (t.disk.files ≡ t.plain.files) ⊎ (t.disk.files ≡ freed t.plain.files file.0) → freed t.disk.files file.0 ≡ freed t.plain.files file.0
        new (inl e) = ap (λ (f : Files). freed f file.0) e
        new (inr e) = ap (λ (f : Files). freed f file.0) e ∙ freed_again file.0 t.plain.files

    pub frees_rows : KindRows lost t freeing
    frees_rows = rows_of lost t freeing (λ to what how. how) (λ m how. how) (there lost t freeing (to_it (body.FileFree file)) refl free, tt)

  -- a name is made
  module _ (name : List ℕ) where
    abbrev making : Open
    making = record o { operation = MakesName name }

    make : StorageGives lost t making (to_it (body.NameMake name))
    make reaches = by (named t.disk.files.names name) refl (is_file_room t.disk.files) refl
      where
        either : (t.disk.files ≡ t.plain.files) ⊎ (t.disk.files ≡ made t.plain.files name) → (made t.disk.files name ≡ made t.plain.files name) × (made_reply (named t.disk.files.names name) t.disk.files ≡ made_reply (named t.plain.files.names name) t.plain.files)
        either (inl e) = (ap (λ (f : Files). made f name) e, ap (λ (f : Files). made_reply (named f.names name) f) e)
        either (inr e) = (ap (λ (f : Files). made f name) e ∙ (made_again name t.plain.files).0, ap (λ (f : Files). made_reply (named f.names name) f) e ∙ (made_again name t.plain.files).1)

        new : (made t.disk.files name ≡ made t.plain.files name) × (made_reply (named t.disk.files.names name) t.disk.files ≡ made_reply (named t.plain.files.names name) t.plain.files)
        new = either reaches.middle.disk.files

        unchanging : (b : Block) (c : Option FileNo) → changes_block b (made_reply c t.disk.files) ≡ false
        unchanging b (Some file) = refl
        unchanging b None = by (is_file_room t.disk.files)
          where
            by : (room : Bool) → changes_block b (cond room (body.NameIs (Some (record { 0 = t.disk.files.next }))) (body.Refused why.NoRoom)) ≡ false
            by true = refl
            by false = refl

        -- the row as one: the files with the name made, and the answer
        as_one : FileGives lost t making (record { images = t.disk.images; files = made t.disk.files name }) (record { from = place.Storage; to = o.by; op = o.number; body = made_reply (named t.disk.files.names name) t.disk.files } ∷ [])
        as_one = filed_one lost t making (to_it (body.NameMake name)) reaches (made t.disk.files name) (record { from = place.Storage; to = o.by; op = o.number; body = made_reply (named t.disk.files.names name) t.disk.files }) (λ j pid vpn. refl)
            (issuer_answer lost t making (to_it (body.NameMake name)) reaches (made_reply (named t.disk.files.names name) t.disk.files) (ap (is_among place.Storage) reaches.middle.current.0.targets) new.1)
            refl refl (λ b. unchanging b (named t.disk.files.names name)) (inr new.0) (λ now. new.0) (made_next name t.disk.files) (λ b below still is. made_stays name t.disk.files b below is)

        by : (c : Option FileNo) → named t.disk.files.names name ≡ c → (room : Bool) → is_file_room t.disk.files ≡ room → FileGives lost t making (made_name c t.disk (to_it (body.NameMake name)) name).0 (made_name c t.disk (to_it (body.NameMake name)) name).1
        by (Some file) is room e = subst (λ (p : Files × Body). FileGives lost t making (record { images = t.disk.images; files = p.0 }) (record { from = place.Storage; to = o.by; op = o.number; body = p.1 } ∷ [])) (λ i. (made_where (is i) t.disk.files name, made_reply (is i) t.disk.files)) as_one
        by None is room e = under (is_file_room t.disk.files) refl
          where
            under : (room : Bool) → is_file_room t.disk.files ≡ room → FileGives lost t making (cond room (says (record t.disk { files = made t.disk.files name }) (to_it (body.NameMake name)) (body.NameIs (Some (record { 0 = t.disk.files.next })))) (says t.disk (to_it (body.NameMake name)) (body.Refused why.NoRoom))).0 (cond room (says (record t.disk { files = made t.disk.files name }) (to_it (body.NameMake name)) (body.NameIs (Some (record { 0 = t.disk.files.next })))) (says t.disk (to_it (body.NameMake name)) (body.Refused why.NoRoom))).1
            under true e = subst (λ (told : Body). FileGives lost t making (record { images = t.disk.images; files = made t.disk.files name }) (record { from = place.Storage; to = o.by; op = o.number; body = told } ∷ [])) (ap (λ (x : Option FileNo). made_reply x t.disk.files) is ∙ ap (λ (b : Bool). cond b (body.NameIs (Some (record { 0 = t.disk.files.next }))) (body.Refused why.NoRoom)) e) as_one
            under false e = subst (λ (p : Files × Body). FileGives lost t making (record { images = t.disk.images; files = p.0 }) (record { from = place.Storage; to = o.by; op = o.number; body = p.1 } ∷ []))
                (λ i. ((ap (λ (x : Option FileNo). made_where x t.disk.files name) is ∙ ap (λ (b : Bool). cond b (with_file t.disk.files name) t.disk.files) e) i, (ap (λ (x : Option FileNo). made_reply x t.disk.files) is ∙ ap (λ (b : Bool). cond b (body.NameIs (Some (record { 0 = t.disk.files.next }))) (body.Refused why.NoRoom)) e) i)) as_one

    pub makes_rows : KindRows lost t making
    makes_rows = rows_of lost t making (λ to what how. how) (λ m how. how) (there lost t making (to_it (body.NameMake name)) refl make, tt)
