-- A page with patches laid over it: byte by byte, so that laying them over it twice is laying them over it once.
use Rattle.std.proofs.Common.{◌≡◌, ◌⊎◌, ◌+◌, ◌-◌, ◌/◌, ◌<◌, ◌≤◌, ◌==◌, ◌&&◌, [], ◌∷◌, ◌++◌, ◌∙◌, ℕ, Bool, List, None, Option, Some, ap, arith, cond, drop, false, get_or, inl, inr, leb, length, length-append, ltb, refl, sym, take, true}
use Rattle.std.proofs.Math.ListN.{get_or-append}
use Rattle.std.proofs.lemmas.Bool.{eqb-true, leb-false, leb-true, ltb-false, ltb-true}
use Rattle.std.proofs.lemmas.List.{ext_get_or, get_or-append_right, get_or-drop, get_or-take, length-replicate, length-take-le}
use Rattle.std.specs.List.{AllByRecursion}
use Rattle.lego_base.specs.Pieces.{laid_over, zeros}
use Rattle.lego_base.specs.declared.ids.MemId.{MemId}
use Rattle.lego_base.specs.declared.records.HomeEntry.{HomeEntry}
use Rattle.lego_base.specs.declared.records.Patch.{Patch}
use Rattle.lego_msg.specs.Granted.{PatchFits}
use Rattle.lego_msg.specs.Maps.{bytes_or_zeros, laid_on, owner_of}
use Rattle.lego_msg.specs.Places.{secondary_of}
use Rattle.lego_rest.specs.Fits.{LogFits, over}
use Rattle.rest_laws.proofs.Changed.{laid_length}
use Rattle.rest_laws.proofs.Truth.{both_true}

-- ONE PATCH, byte by byte
abbrev covers : ℕ → ℕ → ℕ → Bool
covers off size i = leb off i && ltb i (off + size)

abbrev byte_of : ℕ → List ℕ → ℕ → ℕ → ℕ
byte_of off bytes i before = cond (covers off (length bytes) i) (get_or bytes (i - off) 0) before

covers_at : (off size i : ℕ) → ((covers off size i ≡ false) × (i < off)) ⊎ (((covers off size i ≡ true) × (off ≤ i) × (i < off + size)) ⊎ ((covers off size i ≡ false) × (off + size ≤ i)))
covers_at off size i = by (leb off i) (ltb i (off + size)) refl refl
  where
    by : (a b : Bool) → leb off i ≡ a → ltb i (off + size) ≡ b → (((a && b) ≡ false) × (i < off)) ⊎ ((((a && b) ≡ true) × (off ≤ i) × (i < off + size)) ⊎ (((a && b) ≡ false) × (off + size ≤ i)))
    by false b e f = inl (refl, leb-false off i e)
    by true true e f = inr (inl (refl, leb-true off i e, ltb-true i (off + size) f))
    by true false e f = inr (inr (refl, ltb-false i (off + size) f))

laid_at : (old : List ℕ) (off : ℕ) (bytes : List ℕ) (i : ℕ) → off + length bytes ≤ length old → get_or (laid_over old off bytes) i 0 ≡ byte_of off bytes i (get_or old i 0)
laid_at old off bytes i within = elim (covers_at off (length bytes) i) [
  | inl before ↦
      let less = before.1 in
      get_or-append (take off old ++ bytes) (drop (off + length bytes) old) 0 i (omega (arith, less, front, both))
      ∙ get_or-append (take off old) bytes 0 i (omega (arith, less, front)) ∙ get_or-take off old i 0 less
      ∙ sym (ap (λ (b : Bool). cond b (get_or bytes (i - off) 0) (get_or old i 0)) before.0)
  | inr (inl inside) ↦
      let least = inside.1 in
      let most = inside.2 in
      get_or-append (take off old ++ bytes) (drop (off + length bytes) old) 0 i (omega (arith, most, front, both))
      ∙ get_or-append_right (take off old) bytes off i 0 front least
      ∙ sym (ap (λ (b : Bool). cond b (get_or bytes (i - off) 0) (get_or old i 0)) inside.0)
  | inr (inr past) ↦
      let least = past.1 in
      let again : (off + length bytes) + (i - (off + length bytes)) ≡ i = omega (arith, least) in
      get_or-append_right (take off old ++ bytes) (drop (off + length bytes) old) (off + length bytes) i 0 (omega (arith, front, both)) least
      ∙ get_or-drop (off + length bytes) old (i - (off + length bytes)) 0 ∙ ap (λ (j : ℕ). get_or old j 0) again
      ∙ sym (ap (λ (b : Bool). cond b (get_or bytes (i - off) 0) (get_or old i 0)) past.0)
]
  where
    front : length (take off old) ≡ off
    front = length-take-le off old (omega (arith, within))

    both : length (take off old ++ bytes) ≡ length (take off old) + length bytes
    both = length-append (take off old) bytes

-- SEVERAL PATCHES over the bytes of a page
abbrev is_of_page : Patch → ℕ → ℕ → Bool
is_of_page p pid vpn = p.pid.0 == pid && p.vpn.0 == vpn

abbrev over_bytes : List Patch → ℕ → ℕ → List ℕ → List ℕ
over_bytes [] pid vpn bytes = bytes
over_bytes (p ∷ patches) pid vpn bytes = over_bytes patches pid vpn (cond (is_of_page p pid vpn) (laid_over bytes p.off p.bytes) bytes)

abbrev byte_over : List Patch → ℕ → ℕ → ℕ → ℕ → ℕ
byte_over [] pid vpn i before = before
byte_over (p ∷ patches) pid vpn i before = byte_over patches pid vpn i (cond (is_of_page p pid vpn) (byte_of p.off p.bytes i before) before)

byte_twice : (ps : List Patch) (pid vpn i v : ℕ) → byte_over ps pid vpn i (byte_over ps pid vpn i v) ≡ byte_over ps pid vpn i v
byte_twice [] pid vpn i v = refl
byte_twice (p ∷ ps) pid vpn i v = by (is_of_page p pid vpn) (covers p.off (length p.bytes) i) (byte_twice ps pid vpn i)
  where
    by : (a b : Bool) → ((v : ℕ) → byte_over ps pid vpn i (byte_over ps pid vpn i v) ≡ byte_over ps pid vpn i v) →
        byte_over ps pid vpn i (cond a (cond b (get_or p.bytes (i - p.off) 0) (byte_over ps pid vpn i (cond a (cond b (get_or p.bytes (i - p.off) 0) v) v))) (byte_over ps pid vpn i (cond a (cond b (get_or p.bytes (i - p.off) 0) v) v)))
        ≡ byte_over ps pid vpn i (cond a (cond b (get_or p.bytes (i - p.off) 0) v) v)
    by true true rest = refl
    by true false rest = rest v
    by false b rest = rest v

over_length : (ps : List Patch) (pid vpn : ℕ) (bytes : List ℕ) → AllByRecursion PatchFits ps → length bytes ≡ 4096 → length (over_bytes ps pid vpn bytes) ≡ 4096
over_length [] pid vpn bytes fits whole = whole
over_length (p ∷ ps) pid vpn bytes fits whole = over_length ps pid vpn (cond (is_of_page p pid vpn) (laid_over bytes p.off p.bytes) bytes) fits.1 (by (is_of_page p pid vpn))
  where
    by : (b : Bool) → length (cond b (laid_over bytes p.off p.bytes) bytes) ≡ 4096
    by true = let most = fits.0.1 in laid_length bytes p.off p.bytes (omega (arith, most, whole)) ∙ whole
    by false = whole

over_at : (ps : List Patch) (pid vpn : ℕ) (bytes : List ℕ) (i : ℕ) → AllByRecursion PatchFits ps → length bytes ≡ 4096 → get_or (over_bytes ps pid vpn bytes) i 0 ≡ byte_over ps pid vpn i (get_or bytes i 0)
over_at [] pid vpn bytes i fits whole = refl
over_at (p ∷ ps) pid vpn bytes i fits whole = over_at ps pid vpn (cond (is_of_page p pid vpn) (laid_over bytes p.off p.bytes) bytes) i fits.1 (is_whole (is_of_page p pid vpn)) ∙ ap (byte_over ps pid vpn i) (by (is_of_page p pid vpn))
  where
    within : p.off + length p.bytes ≤ length bytes
    within = let most = fits.0.1 in omega (arith, most, whole)

    is_whole : (b : Bool) → length (cond b (laid_over bytes p.off p.bytes) bytes) ≡ 4096
    is_whole true = laid_length bytes p.off p.bytes within ∙ whole
    is_whole false = whole

    by : (b : Bool) → get_or (cond b (laid_over bytes p.off p.bytes) bytes) i 0 ≡ cond b (byte_of p.off p.bytes i (get_or bytes i 0)) (get_or bytes i 0)
    by true = laid_at bytes p.off p.bytes i within
    by false = refl

bytes_twice : (ps : List Patch) (pid vpn : ℕ) (bytes : List ℕ) → AllByRecursion PatchFits ps → length bytes ≡ 4096 → over_bytes ps pid vpn (over_bytes ps pid vpn bytes) ≡ over_bytes ps pid vpn bytes
bytes_twice ps pid vpn bytes fits whole =
    let once : length (over_bytes ps pid vpn bytes) ≡ 4096 = over_length ps pid vpn bytes fits whole in
    ext_get_or 0 (over_bytes ps pid vpn (over_bytes ps pid vpn bytes)) (over_bytes ps pid vpn bytes) (over_length ps pid vpn (over_bytes ps pid vpn bytes) fits once ∙ sym once) (λ i less. over_at ps pid vpn (over_bytes ps pid vpn bytes) i fits once ∙ ap (byte_over ps pid vpn i) (over_at ps pid vpn bytes i fits whole) ∙ byte_twice ps pid vpn i (get_or bytes i 0) ∙ sym (over_at ps pid vpn bytes i fits whole))

-- PAGES that are there or not

over_some : (ps : List Patch) (pid vpn : ℕ) (bytes : List ℕ) → over ps pid vpn (Some bytes) ≡ Some (over_bytes ps pid vpn bytes)
over_some [] pid vpn bytes = refl
over_some (p ∷ ps) pid vpn bytes = by (is_of_page p pid vpn) (over_some ps pid vpn)
  where
    by : (b : Bool) → ((bytes : List ℕ) → over ps pid vpn (Some bytes) ≡ Some (over_bytes ps pid vpn bytes)) → over ps pid vpn (cond b (Some (laid_over bytes p.off p.bytes)) (Some bytes)) ≡ Some (over_bytes ps pid vpn (cond b (laid_over bytes p.off p.bytes) bytes))
    by true rest = rest (laid_over bytes p.off p.bytes)
    by false rest = rest bytes

over_none : (ps : List Patch) (pid vpn : ℕ) → (over ps pid vpn None ≡ None) ⊎ (over ps pid vpn None ≡ Some (over_bytes ps pid vpn (zeros 4096)))
over_none [] pid vpn = inl refl
over_none (p ∷ ps) pid vpn = by (is_of_page p pid vpn) (over_none ps pid vpn)
  where
    by : (b : Bool) → (over ps pid vpn None ≡ None) ⊎ (over ps pid vpn None ≡ Some (over_bytes ps pid vpn (zeros 4096))) → (over ps pid vpn (cond b (Some (laid_over (zeros 4096) p.off p.bytes)) None) ≡ None) ⊎ (over ps pid vpn (cond b (Some (laid_over (zeros 4096) p.off p.bytes)) None) ≡ Some (over_bytes ps pid vpn (cond b (laid_over (zeros 4096) p.off p.bytes) (zeros 4096))))
    by true rest = inr (over_some ps pid vpn (laid_over (zeros 4096) p.off p.bytes))
    by false rest = rest

pub over_twice : (ps : List Patch) (pid vpn : ℕ) (page : Option (List ℕ)) → AllByRecursion PatchFits ps → ((bytes : List ℕ) → page ≡ Some bytes → length bytes ≡ 4096) → over ps pid vpn (over ps pid vpn page) ≡ over ps pid vpn page
over_twice ps pid vpn (Some bytes) fits whole = ap (over ps pid vpn) (over_some ps pid vpn bytes) ∙ over_some ps pid vpn (over_bytes ps pid vpn bytes) ∙ ap Some (bytes_twice ps pid vpn bytes fits (whole bytes refl)) ∙ sym (over_some ps pid vpn bytes)
over_twice ps pid vpn None fits whole = elim (over_none ps pid vpn) [
  | inl e ↦ ap (over ps pid vpn) e
  | inr e ↦ ap (over ps pid vpn) e ∙ over_some ps pid vpn (over_bytes ps pid vpn (zeros 4096)) ∙ ap Some (bytes_twice ps pid vpn (zeros 4096) fits (length-replicate {A = ℕ} 4096 0)) ∙ sym e
]

pub over_append : (first then_ : List Patch) (pid vpn : ℕ) (page : Option (List ℕ)) → over (first ++ then_) pid vpn page ≡ over then_ pid vpn (over first pid vpn page)
over_append [] then_ pid vpn page = refl
over_append (p ∷ first) then_ pid vpn page = over_append first then_ pid vpn (laid_on p pid vpn page)

-- a page that no patch is of stays
pub untouched : (ps : List Patch) (pid vpn : ℕ) (page : Option (List ℕ)) → AllByRecursion (λ (p : Patch). (p.pid.0 == pid && p.vpn.0 == vpn) ≡ false) ps → over ps pid vpn page ≡ page
untouched [] pid vpn page none = refl
untouched (p ∷ ps) pid vpn page none = ap (λ (b : Bool). over ps pid vpn (cond b (Some (laid_over (bytes_or_zeros page) p.off p.bytes)) page)) none.0 ∙ untouched ps pid vpn page none.1

-- a log has patches of this page, and so its region's owner has k as its secondary, or none
pub touch_cases : (n k : ℕ) (owners : List HomeEntry) (pid vpn : ℕ) (ps : List Patch) → AllByRecursion (LogFits n owners k) ps → AllByRecursion (λ (p : Patch). (p.pid.0 == pid && p.vpn.0 == vpn) ≡ false) ps ⊎ ((o : MemId) × (owner_of owners pid (vpn / 512) ≡ Some o) × (secondary_of n o.0 ≡ k))
touch_cases n k owners pid vpn [] fits = inl tt
touch_cases n k owners pid vpn (p ∷ ps) fits = by (p.pid.0 == pid && p.vpn.0 == vpn) refl (touch_cases n k owners pid vpn ps fits.1)
  where
    by : (b : Bool) → (p.pid.0 == pid && p.vpn.0 == vpn) ≡ b → AllByRecursion (λ (p : Patch). (p.pid.0 == pid && p.vpn.0 == vpn) ≡ false) ps ⊎ ((o : MemId) × (owner_of owners pid (vpn / 512) ≡ Some o) × (secondary_of n o.0 ≡ k)) → (((p.pid.0 == pid && p.vpn.0 == vpn) ≡ false) × AllByRecursion (λ (p : Patch). (p.pid.0 == pid && p.vpn.0 == vpn) ≡ false) ps) ⊎ ((o : MemId) × (owner_of owners pid (vpn / 512) ≡ Some o) × (secondary_of n o.0 ≡ k))
    by true e rest =
        let same = both_true (p.pid.0 == pid) (p.vpn.0 == vpn) e in
        inr (fits.0.0, sym (λ i. owner_of owners (eqb-true p.pid.0 pid same.0 i) (eqb-true p.vpn.0 vpn same.1 i / 512)) ∙ fits.0.1, fits.0.2)
    by false e (inl none) = inl (e, none)
    by false e (inr owner) = inr owner
