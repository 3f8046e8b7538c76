-- Questions to memories: for an owner, a line, or the areas of a region.
use Rattle.std.proofs.Common.{◌≡◌, ◌⊎◌, ◌/◌, ◌||◌, [], ◌∷◌, ◌∙◌, ℕ, Bool, List, None, Option, Some, ap, arith, cond, false, inl, inr, refl, sym, true}
use Rattle.std.proofs.lemmas.Bool.{eq-eqb}
use Rattle.lego_base.specs.Space.{perms_of}
use Rattle.lego_base.specs.declared.ids.LineNo.{LineNo}
use Rattle.lego_base.specs.declared.ids.MemId.{MemId}
use Rattle.lego_base.specs.declared.ids.Pid.{Pid}
use Rattle.lego_base.specs.declared.ids.RegionNo.{RegionNo}
use Rattle.lego_base.specs.declared.perms.Perms.{Perms}
use Rattle.lego_base.specs.declared.records.HomeEntry.{HomeEntry}
use Rattle.lego_msg.specs.Maps.{areas_at, bytes_or_zeros, owner_of, page_at, page_in}
use Rattle.lego_msg.specs.Operations.{patch_of}
use Rattle.lego_msg.specs.Places.{home_of, is_among, memory}
use Rattle.lego_msg.specs.Plain.{effect}
use Rattle.lego_msg.specs.State.{Block, Mem}
use Rattle.lego_msg.specs.Table.{line_answer, reply}
use Rattle.lego_msg.specs.Track.{Track, memory_count}
use Rattle.lego_msg.specs.declared.body.Body.{Body}
use Rattle.lego_msg.specs.declared.message.Message.{Message}
use Rattle.lego_msg.specs.declared.operation.Open.{Open}
use Rattle.lego_msg.specs.declared.operation.Operation.TheVariants.{AsksAreas, Finds, Reads}
use Rattle.lego_rest.specs.Answers.{answers_to}
use Rattle.lego_rest.specs.Fits.{OpenFits, changes_block}
use Rattle.lego_rest.specs.Parts.{Areas, Cell, Home, Page, is_owner, main_part, new_share, old_share, owns, second_part, share, sides_of}
use Rattle.lego_rest.specs.Pending.{Says}
use Rattle.rest_laws.proofs.Delivered.{RowGives}
use Rattle.rest_laws.proofs.Meeting.{Met, met_fits, met_main, met_open, met_second}
use Rattle.rest_laws.proofs.Replied.{all_new, replied}
use Rattle.rest_laws.proofs.kinds.Kind.{KindRows, MemoryGives, here, rows_of}
use Rattle.lego_msg.specs.declared.body.Body.TheVariants as body

pub alone : (h : ℕ) → is_among (memory h) (memory h ∷ []) ≡ true
alone h = ap (λ (b : Bool). b || false) (eq-eqb h h refl)

pub owner_owns : (owners : List HomeEntry) (pid region : ℕ) (owner : MemId) → owner_of owners pid region ≡ Some owner → owns owners owner.0 pid region ≡ true
owner_owns owners pid region owner is = ap (is_owner owner.0) is ∙ eq-eqb owner.0 owner.0 refl

-- A QUESTION: both sides are one, and a memory has just its share
module _ (lost : Option ℕ) (t : Track) (o : Open) (still : effect o.operation t.plain ≡ t.plain) (k : ℕ) (s : Mem) (m : Message) (met : Met lost t o k s m) where
  new_is_old : (j : ℕ) (c : Cell) → new_share (sides_of (record t { current = Some o })) j c ≡ old_share (sides_of (record t { current = Some o })) j c
  new_is_old j c = ap (λ (f : _). share (memory_count t.shape) t.owners f j c) still

  pub own_share : (c : Cell) → main_part s c ≡ old_share (sides_of (record t { current = Some o })) k c
  own_share c = by (met_main lost t o k s m met c)
    where
      by : (main_part s c ≡ old_share (sides_of (record t { current = Some o })) k c) ⊎ (main_part s c ≡ new_share (sides_of (record t { current = Some o })) k c) → main_part s c ≡ old_share (sides_of (record t { current = Some o })) k c
      by (inl e) = e
      by (inr e) = e ∙ new_is_old k c

  second_share : (j : ℕ) (c : Cell) → (second_part t.owners t.disk.images j s c ≡ old_share (sides_of (record t { current = Some o })) j c) ⊎ (second_part t.owners t.disk.images j s c ≡ new_share (sides_of (record t { current = Some o })) j c) → second_part t.owners t.disk.images j s c ≡ new_share (sides_of (record t { current = Some o })) j c
  second_share j c (inl e) = e ∙ sym (new_is_old j c)
  second_share j c (inr e) = e

  pub asked : (told : Body) → m.from ≡ o.by → is_among (memory k) o.targets ≡ true → Says (memory_count t.shape) t.plain o.operation (memory k) told → ((b : Block) → changes_block b told ≡ false) → RowGives lost t o k s s (reply (memory s.id) m told ∷ [])
  asked told issued target says quiet =
      let was = met_fits lost t o k s m met in
      replied lost t o k s m met s.main s.spare s.pages told issued target says quiet was.main was.spare was.pages was.frames
      (all_new t o (answers_to (patch_of o.operation) told) k s s.main s.spare s.pages (λ c. own_share c ∙ sym (new_is_old k c)) (λ j below is c speaks. second_share j c (met_second lost t o k s m met j below is c)))

module _ (lost : Option ℕ) (t : Track) (o : Open) where
  -- an owner
  module _ (pid : Pid) (region : RegionNo) where
    abbrev finding : Open
    finding = record o { operation = Finds pid region }

    abbrev home : ℕ
    home = home_of (memory_count t.shape) pid.0

    abbrev find_message : Message
    find_message = record { from = o.by; to = memory home; op = o.number; body = body.Find pid region }

    found : (s : Mem) → MemoryGives lost t finding home s find_message
    found s met = asked lost t finding refl home s find_message met (body.OwnerIs (owner_of s.main.homes pid.0 region.0)) refl
        (ap (is_among (memory home)) (met_open lost t finding home s find_message met).targets ∙ alone home)
        (ap body.OwnerIs (own_share lost t finding refl home s find_message met (Home pid.0 region.0) ∙ ap (λ (b : Bool). cond b (t.plain.homes pid.0 region.0) None) (eq-eqb home home refl)))
        (λ b. refl)

    pub finds_rows : KindRows lost t finding
    finds_rows = rows_of lost t finding (λ to what how. how) (λ m how. how) (here lost t finding find_message home refl found, tt)

  -- a line, of a region that its owner keeps
  module _ (pid : Pid) (line : LineNo) (owner : MemId) where
    abbrev reading : Open
    reading = record o { operation = Reads pid line owner }

    abbrev read_message : Message
    read_message = record { from = o.by; to = memory owner.0; op = o.number; body = body.Read pid line }

    abbrev answer_of : Mem → Body
    answer_of s = line_answer (perms_of (areas_at s.main.areas pid.0 (line.0 / 32768)) (line.0 / 64)) (page_at s.pages pid.0 (line.0 / 64)) line.0

    no_change : (perms : Option Perms) (page : List ℕ) (b : Block) → changes_block b (line_answer perms page line.0) ≡ false
    no_change None page b = refl
    no_change (Some perms) page b = refl

    read : (s : Mem) → MemoryGives lost t reading owner.0 s read_message
    read s met = asked lost t reading refl owner.0 s read_message met (answer_of s) refl
        (ap (is_among (memory owner.0)) fits.targets ∙ alone owner.0)
        (λ i. line_answer (perms_of (areas i) (line.0 / 64)) (bytes_or_zeros (page i)) line.0)
        (no_change (perms_of (areas_at s.main.areas pid.0 (line.0 / 32768)) (line.0 / 64)) (page_at s.pages pid.0 (line.0 / 64)))
      where
        fits : OpenFits (memory_count t.shape) t.owners t.plain t.next reading
        fits = met_open lost t reading owner.0 s read_message met

        owned : owns t.owners owner.0 pid.0 (line.0 / 32768) ≡ true
        owned = owner_owns t.owners pid.0 (line.0 / 32768) owner fits.fits

        region_of : (line : ℕ) → line / 64 / 512 ≡ line / 32768
        region_of line = omega arith

        areas : areas_at s.main.areas pid.0 (line.0 / 32768) ≡ t.plain.areas pid.0 (line.0 / 32768)
        areas = own_share lost t reading refl owner.0 s read_message met (Areas pid.0 (line.0 / 32768)) ∙ ap (λ (b : Bool). cond b (t.plain.areas pid.0 (line.0 / 32768)) []) owned

        page : page_in s.pages pid.0 (line.0 / 64) ≡ t.plain.page pid.0 (line.0 / 64)
        page = own_share lost t reading refl owner.0 s read_message met (Page pid.0 (line.0 / 64)) ∙ ap (λ (b : Bool). cond b (t.plain.page pid.0 (line.0 / 64)) None) (ap (owns t.owners owner.0 pid.0) (region_of line.0) ∙ owned)

    pub reads_rows : KindRows lost t reading
    reads_rows = rows_of lost t reading (λ to what how. how) (λ m how. how) (here lost t reading read_message owner.0 refl read, tt)

  -- the areas of a region
  module _ (pid : Pid) (region : RegionNo) (owner : MemId) where
    abbrev asking : Open
    asking = record o { operation = AsksAreas pid region owner }

    abbrev ask_message : Message
    ask_message = record { from = o.by; to = memory owner.0; op = o.number; body = body.GetAreas pid region }

    given : (s : Mem) → MemoryGives lost t asking owner.0 s ask_message
    given s met = asked lost t asking refl owner.0 s ask_message met (body.AreasAre (areas_at s.main.areas pid.0 region.0)) refl
        (ap (is_among (memory owner.0)) fits.targets ∙ alone owner.0)
        (ap body.AreasAre (own_share lost t asking refl owner.0 s ask_message met (Areas pid.0 region.0) ∙ ap (λ (b : Bool). cond b (t.plain.areas pid.0 region.0) []) (owner_owns t.owners pid.0 region.0 owner fits.fits)))
        (λ b. refl)
      where
        fits : OpenFits (memory_count t.shape) t.owners t.plain t.next asking
        fits = met_open lost t asking owner.0 s ask_message met

    pub asks_rows : KindRows lost t asking
    asks_rows = rows_of lost t asking (λ to what how. how) (λ m how. how) (here lost t asking ask_message owner.0 refl given, tt)
