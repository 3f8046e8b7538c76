-- Operations on names: one message to storage, which answers.
use Rattle.std.proofs.Common.{ℕ, List, Option, ap, length, refl}
use Rattle.lego_base.specs.Files.{file_bytes, named}
use Rattle.lego_base.specs.declared.ids.FileNo.{FileNo}
use Rattle.lego_msg.specs.Files.{Files}
use Rattle.lego_msg.specs.Places.{is_among}
use Rattle.lego_msg.specs.Track.{Track}
use Rattle.lego_msg.specs.declared.body.Body.{Body}
use Rattle.lego_msg.specs.declared.message.Message.{Message}
use Rattle.lego_msg.specs.declared.operation.Open.{Open}
use Rattle.lego_msg.specs.declared.operation.Operation.TheVariants.{AsksSize, GetsName, ListsNames}
use Rattle.rest_laws.proofs.kinds.Filing.{filed_none, issuer_answer, old_files}
use Rattle.rest_laws.proofs.kinds.Kind.{KindRows, StorageGives, rows_of, there}
use Rattle.lego_msg.specs.declared.body.Body.TheVariants as body
use Rattle.lego_msg.specs.declared.place.Place.TheVariants as place

module _ (lost : Option ℕ) (t : Track) (o : Open) where
  abbrev to_it : Body → Message
  to_it what = record { from = o.by; to = place.Storage; op = o.number; body = what }

  -- the length of a file
  module _ (file : FileNo) where
    abbrev sizing : Open
    sizing = record o { operation = AsksSize file }

    size_told : StorageGives lost t sizing (to_it (body.FileSize file))
    size_told reaches = filed_none lost t sizing (to_it (body.FileSize file)) reaches _ (λ j pid vpn. refl)
        (issuer_answer lost t sizing (to_it (body.FileSize file)) reaches (body.SizeIs (length (file_bytes t.disk.files.files file.0))) (ap (is_among place.Storage) reaches.middle.current.0.targets) (ap (λ (f : Files). body.SizeIs (length (file_bytes f.files file.0))) (old_files lost t sizing (to_it (body.FileSize file)) reaches refl)))
        refl refl (λ b. refl) (λ now. old_files lost t sizing (to_it (body.FileSize file)) reaches refl)

    pub sizes_rows : KindRows lost t sizing
    sizes_rows = rows_of lost t sizing (λ to what how. how) (λ m how. how) (there lost t sizing (to_it (body.FileSize file)) refl size_told, tt)

  -- the file with a name
  module _ (name : List ℕ) where
    abbrev naming : Open
    naming = record o { operation = GetsName name }

    name_told : StorageGives lost t naming (to_it (body.NameGet name))
    name_told reaches = filed_none lost t naming (to_it (body.NameGet name)) reaches _ (λ j pid vpn. refl)
        (issuer_answer lost t naming (to_it (body.NameGet name)) reaches (body.NameIs (named t.disk.files.names name)) (ap (is_among place.Storage) reaches.middle.current.0.targets) (ap (λ (f : Files). body.NameIs (named f.names name)) (old_files lost t naming (to_it (body.NameGet name)) reaches refl)))
        refl refl (λ b. refl) (λ now. old_files lost t naming (to_it (body.NameGet name)) reaches refl)

    pub gets_rows : KindRows lost t naming
    gets_rows = rows_of lost t naming (λ to what how. how) (λ m how. how) (there lost t naming (to_it (body.NameGet name)) refl name_told, tt)

  -- all names
  abbrev listing : Open
  listing = record o { operation = ListsNames }

  names_told : StorageGives lost t listing (to_it body.NameAll)
  names_told reaches = filed_none lost t listing (to_it body.NameAll) reaches _ (λ j pid vpn. refl)
      (issuer_answer lost t listing (to_it body.NameAll) reaches (body.Names t.disk.files.names) (ap (is_among place.Storage) reaches.middle.current.0.targets) (ap (λ (f : Files). body.Names f.names) (old_files lost t listing (to_it body.NameAll) reaches refl)))
      refl refl (λ b. refl) (λ now. old_files lost t listing (to_it body.NameAll) reaches refl)

  pub lists_rows : KindRows lost t listing
  lists_rows = rows_of lost t listing (λ to what how. how) (λ m how. how) (there lost t listing (to_it body.NameAll) refl names_told, tt)
