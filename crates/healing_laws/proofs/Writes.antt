-- An operation that writes, its messages, and what it changes.
use Rattle.std.proofs.Common.{◌≡◌, ◌∙◌, ℕ, Bool, List, None, Option, Some, ap, false, inl, inr, refl, subst, sym, true}
use Rattle.lego_base.specs.declared.ids.MemId.{MemId}
use Rattle.lego_base.specs.declared.records.HomeEntry.{HomeEntry}
use Rattle.lego_base.specs.declared.records.Patch.{Patch}
use Rattle.lego_msg.specs.Granted.{OpFits}
use Rattle.lego_msg.specs.Maps.{laid_on}
use Rattle.lego_msg.specs.Operations.{asks_of, has_patch, is_write, messages_of, patch_of}
use Rattle.lego_msg.specs.Places.{is_issuer, memory, secondary_of}
use Rattle.lego_msg.specs.Plain.{Plain, effect}
use Rattle.lego_msg.specs.declared.body.Body.{Body}
use Rattle.lego_msg.specs.declared.message.Message.{Message}
use Rattle.lego_msg.specs.declared.operation.Open.{Open}
use Rattle.lego_msg.specs.declared.operation.Operation.{Operation}
use Rattle.lego_msg.specs.declared.operation.Operation.TheVariants as op
use Rattle.lego_msg.specs.declared.operation.Origin.{Origin}
use Rattle.lego_msg.specs.declared.place.Place.{Place}
use Rattle.lego_rest.specs.Pending.{AnAnswer, First, HandedOn, OfOpen, Reaction}
use Rattle.rest_laws.proofs.Emptied.{first_quiet, hands_quiet, is_log_write, no_reaction}
use Rattle.rest_laws.proofs.Goes.{called_of}
use Rattle.rest_laws.proofs.Opened.{all_among}
use Rattle.lego_msg.specs.declared.body.Body.TheVariants as body
use Rattle.lego_msg.specs.declared.place.Place.TheVariants as place

pub record IsWrite (o : Operation) : Type 0 where
  pub origin : Origin
  pub patch : Patch
  pub owner : MemId
  pub same : o ≡ op.Writes origin patch owner

pub write_is : (o : Operation) → is_write o ≡ true → IsWrite o
write_is (op.Finds pid region) is = cc is
write_is (op.Reads pid line owner) is = cc is
write_is (op.Writes origin patch owner) is = record { origin = origin; patch = patch; owner = owner; same = refl }
write_is (op.SetsHome pid region owner) is = cc is
write_is (op.SetsAreas pid region areas owner) is = cc is
write_is (op.AsksAreas pid region owner) is = cc is
write_is (op.Drains m) is = cc is
write_is (op.Unmaps pid region first pages areas owner) is = cc is
write_is (op.Copies parent child regions owner) is = cc is
write_is (op.Drops pid) is = cc is
write_is (op.ReadsFile file block off len) is = cc is
write_is (op.WritesFile file block off bytes) is = cc is
write_is (op.CutsFile file size) is = cc is
write_is (op.AsksSize file) is = cc is
write_is (op.GetsName name) is = cc is
write_is (op.MakesName name) is = cc is
write_is (op.CutsName name) is = cc is
write_is op.ListsNames is = cc is
write_is (op.FreesFile file) is = cc is
write_is (op.Heals to what) is = cc is

component_apart : (m : Message) (by : Place) → is_issuer m.to ≡ false → is_issuer by ≡ true → m.to ≡ by → ⊥
component_apart m by component issuer same = let both : false ≡ true = sym component ∙ ap is_issuer same ∙ issuer in cc both

-- OF A WRITE: its patch alone goes to a log
module _ (n : ℕ) (f : Plain) (o : Open) (m : Message) (origin : Origin) (patch : Patch) (owner : MemId) (issuer : is_issuer o.by ≡ true) (component : is_issuer m.to ≡ false) where
  abbrev writing : Open
  writing = record o { operation = op.Writes origin patch owner }

  one_patch : (p q : Patch) (told : Body) → told ≡ body.LogWrite p → told ≡ body.LogWrite q → p ≡ q
  one_patch p q told e f = let both : body.LogWrite p ≡ body.LogWrite q = sym e ∙ f in cc both

  no_write : (p q : Patch) → body.Write p ≡ body.LogWrite q → ⊥
  no_write p q e = cc e

  no_drain : (q : Patch) → body.Drain ≡ body.LogWrite q → ⊥
  no_drain q e = cc e

  patch_logged : OfOpen n f m (record o { operation = op.Writes origin patch owner }) → (p : Patch) → m.body ≡ body.LogWrite p → patch ≡ p
  patch_logged (First (inl e)) p is = one_patch patch p m.body (ap (λ (x : Message). x.body) e) is
  patch_logged (First (inr (inl e))) p is = absurd (no_write patch p (sym (ap (λ (x : Message). x.body) e) ∙ is))
  patch_logged (First (inr (inr none))) p is = absurd none
  patch_logged (Reaction from (to, inl e)) p is = absurd (no_drain p (sym e ∙ is))
  patch_logged (Reaction from (to, inr (inl e))) p is = one_patch patch p m.body e is
  patch_logged (Reaction from (to, inr (inr none))) p is = absurd none
  patch_logged (HandedOn how) p is = absurd how
  patch_logged (AnAnswer to target says) p is = absurd (component_apart m o.by component issuer to)

  storage_unwritten : OfOpen n f m (record o { operation = op.Writes origin patch owner }) → m.to ≡ place.Storage → ⊥
  storage_unwritten (First (inl e)) to = let both : place.Storage ≡ memory (secondary_of n owner.0) = sym to ∙ ap (λ (x : Message). x.to) e in cc both
  storage_unwritten (First (inr (inl e))) to = let both : place.Storage ≡ memory owner.0 = sym to ∙ ap (λ (x : Message). x.to) e in cc both
  storage_unwritten (First (inr (inr none))) to = none
  storage_unwritten (Reaction from how) to = let both : place.Storage ≡ memory (secondary_of n owner.0) = sym to ∙ how.0 in cc both
  storage_unwritten (HandedOn how) to = how
  storage_unwritten (AnAnswer back target says) to = component_apart m o.by component issuer back

module _ (n : ℕ) (owners : List HomeEntry) (f : Plain) (o : Open) (m : Message) (fits : OpFits owners f o.operation) (issuer : is_issuer o.by ≡ true) (component : is_issuer m.to ≡ false) (of : OfOpen n f m o) where
  -- no message of an operation that doesn't write goes to a log
  quiet : is_write o.operation ≡ false → is_log_write m.body ≡ false
  quiet none = by of
    where
      by : OfOpen n f m o → is_log_write m.body ≡ false
      by (First among) = all_among (λ (x : Message). is_log_write x.body ≡ false) (messages_of o.by o.number (asks_of n o.operation)) m among (first_quiet n o.by o.number o.operation none (called_of owners f o.operation fits))
      by (Reaction from how) = absurd (no_reaction n o.operation m.to m.body none how)
      by (HandedOn how) = hands_quiet n f o.by o.operation m how
      by (AnAnswer back target says) = absurd (component_apart m o.by component issuer back)

  -- what is written to a log is the open write's patch
  pub logged : (p : Patch) → m.body ≡ body.LogWrite p → patch_of o.operation ≡ Some p
  logged p is = by (is_write o.operation) refl
    where
      by : (b : Bool) → is_write o.operation ≡ b → patch_of o.operation ≡ Some p
      by false none = let both : false ≡ true = sym (quiet none) ∙ ap is_log_write is in cc both
      by true write =
          let it = write_is o.operation write in
          ap patch_of it.same ∙ ap (λ (q : Patch). Some q) (patch_logged n f o m it.origin it.patch it.owner issuer component (subst (λ (x : Operation). OfOpen n f m (record o { operation = x })) it.same of) p is)

  -- storage gets no message of a write
  pub unwritten : m.to ≡ place.Storage → is_write o.operation ≡ false
  unwritten to = by (is_write o.operation) refl
    where
      by : (b : Bool) → is_write o.operation ≡ b → b ≡ false
      by false none = refl
      by true write =
          let it = write_is o.operation write in
          absurd (storage_unwritten n f o m it.origin it.patch it.owner issuer component (subst (λ (x : Operation). OfOpen n f m (record o { operation = x })) it.same of) to)

pub patch_none : (o : Operation) → is_write o ≡ false → patch_of o ≡ None
patch_none o none = by (patch_of o) none
  where
    by : (p : Option Patch) → has_patch p ≡ false → p ≡ None
    by None e = refl
    by (Some p) e = cc e

-- what it changes is the page of its patch
pub page_written : (o : Operation) (f : Plain) (p : Patch) → patch_of o ≡ Some p → (pid vpn : ℕ) → (effect o f).page pid vpn ≡ laid_on p pid vpn (f.page pid vpn)
page_written o f p is pid vpn =
    let it = write_is o (ap has_patch is) in
    let same : it.patch ≡ p = one it.patch p (sym (ap patch_of it.same) ∙ is) in
    ap (λ (x : Operation). (effect x f).page pid vpn) it.same ∙ ap (λ (q : Patch). laid_on q pid vpn (f.page pid vpn)) same
  where
    one : (a b : Patch) → Some a ≡ Some b → a ≡ b
    one a b e = cc e
