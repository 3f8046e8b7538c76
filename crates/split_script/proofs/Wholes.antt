-- Parts of an access, one after the other, are the access.
use Rattle.std.proofs.Common.{◌≡◌, ℕ, zero, suc, ◌+◌, ◌-◌, ◌*◌, ◌%◌, ◌≤◌, ◌<◌, inl, inr, Bool, true, false, cond, ltb, eqb, refl, sym, ◌∙◌, ap, List, [], ◌∷◌, ◌++◌, map, length, take, drop, arith}
use Rattle.std.proofs.lemmas.Bool.{cases_lt, eq-eqb, cond-true}
use Rattle.std.proofs.lemmas.List.{length-take-le, take-append-drop, length-drop}
use Rattle.lego_base.specs.Space.{Space, permits, with_bytes, with_space}
use Rattle.lego_msg.specs.declared.event.Kind.TheVariants as shown
use Rattle.rv64_step.proofs.Writes.{with_bytes-append, with_bytes-none, with_space-same}
use Rattle.linux_model.proofs.Spaces.{space_twice}
use Rattle.linux_model.specs.Effects.{Kind, Fetch, Load, Store, CopyIn, CopyOut}
use Rattle.linux_model.specs.Held.{Held}
use Rattle.split_script.specs.Cuts.{LINE, Span, Chunk, spans, chunks, chunks_in, units_met}
use Rattle.split_script.specs.Now.{Now}
use Rattle.split_script.specs.Touches.{Part, part_of, probe_of, probe_at, passed_part, refused_in, refused_parts, store_parts, part_held, part_passed, walked, need_of}
use Rattle.split_script.specs.Laws.{PartsMakeTheWhole}
use Rattle.split_script.proofs.Pieces.{reading_parts}

-- ---- what parts make of spaces

abbrev all_held : List Part → Held → Held
all_held [] h = h
all_held (a ∷ parts) h = all_held parts (part_held a h)

walk_holds : (n : Now) (parts : List Part) → (walked n parts).held ≡ all_held parts n.held
walk_holds n [] = refl
walk_holds n (a ∷ parts) = walk_holds (part_passed n a) parts

-- spaces with these bytes in one of them
abbrev written : ℕ → ℕ → List ℕ → Held → Held
written pid at bytes h = record h { space = with_space h.space pid (with_bytes (h.space pid) at bytes) }

abbrev laid : ℕ → List Chunk → Held → Held
laid pid [] h = h
laid pid (c ∷ cut) h = laid pid cut (written pid c.at c.bytes h)

stores_lay : (pid : ℕ) (cut : List Chunk) (h : Held) → all_held (map (part_of pid shown.Store) cut) h ≡ laid pid cut h
stores_lay pid [] h = refl
stores_lay pid (c ∷ cut) h = stores_lay pid cut (written pid c.at c.bytes h)

copies_lay : (pid : ℕ) (cut : List Chunk) (h : Held) → all_held (map (part_of pid shown.CopyOut) cut) h ≡ laid pid cut h
copies_lay pid [] h = refl
copies_lay pid (c ∷ cut) h = copies_lay pid cut (written pid c.at c.bytes h)

probes_pass : (pid : ℕ) (cut : List Chunk) (parts : List Part) (h : Held) → all_held (map (probe_of pid) cut ++ parts) h ≡ all_held parts h
probes_pass pid [] parts h = refl
probes_pass pid (c ∷ cut) parts h = probes_pass pid cut parts h

-- ---- pieces of bytes

here_is : (spaces : ℕ → Space) (pid : ℕ) (space : Space) → with_space spaces pid space pid ≡ space
here_is spaces pid space = cond-true (eqb pid pid) space (spaces pid) (eq-eqb pid pid refl)

written_none : (pid at : ℕ) (h : Held) → written pid at [] h ≡ h
written_none pid at h =
    (λ i. record h { space = with_space h.space pid (with_bytes-none (h.space pid) at i) })
    ∙ (λ i. record h { space = with_space-same h.space pid i })

written_more : (pid at : ℕ) (xs ys : List ℕ) (h : Held) → written pid (at + length xs) ys (written pid at xs h) ≡ written pid at (xs ++ ys) h
written_more pid at xs ys h =
    let first : Space = with_bytes (h.space pid) at xs in
    (λ i. record h { space = with_space (with_space h.space pid first) pid (with_bytes (here_is h.space pid first i) (at + length xs) ys) })
    ∙ (λ i. record h { space = space_twice h.space pid first (with_bytes first (at + length xs) ys) i })
    ∙ (λ i. record h { space = with_space h.space pid (with_bytes-append (h.space pid) at xs ys i) })

pub take_all : (n : ℕ) (xs : List ℕ) → length xs ≤ n → take n xs ≡ xs
take_all zero [] h = refl
take_all zero (x ∷ xs) h = absurd (omega arith)
take_all (suc n) [] h = refl
take_all (suc n) (x ∷ xs) h = ap (λ (xs : List ℕ). x ∷ xs) (take_all n xs (omega arith))

pub drop_all : (n : ℕ) (xs : List ℕ) → length xs ≤ n → drop n xs ≡ []
drop_all zero [] h = refl
drop_all zero (x ∷ xs) h = absurd (omega arith)
drop_all (suc n) [] h = refl
drop_all (suc n) (x ∷ xs) h = drop_all n xs (omega arith)

-- the first bytes, then the others where there are any
split : (pid n at : ℕ) (bytes : List ℕ) (h : Held) → written pid (at + n) (drop n bytes) (written pid at (take n bytes) h) ≡ written pid at bytes h
split pid n at bytes h = elim (cases_lt n (length bytes)) [
  | inl more ↦
      let size : length (take n bytes) ≡ n = length-take-le n bytes (omega arith) in
      ap (λ (m : ℕ). written pid (at + m) (drop n bytes) (written pid at (take n bytes) h)) (sym size)
      ∙ written_more pid at (take n bytes) (drop n bytes) h
      ∙ ap (λ (bytes : List ℕ). written pid at bytes h) (take-append-drop n bytes)
  | inr all ↦
      (λ i. written pid (at + n) (drop_all n bytes all i) (written pid at (take_all n bytes all i) h))
      ∙ written_none pid (at + n) (written pid at bytes h)
]

lines_lay : (pid units at : ℕ) (bytes : List ℕ) (h : Held) → (0 < length bytes → at % 64 + length bytes ≤ units * 64) → laid pid (chunks_in 64 units at bytes) h ≡ written pid at bytes h
lines_lay pid zero at [] h enough = sym (written_none pid at h)
lines_lay pid zero at (byte ∷ bytes) h enough = let some : at % 64 + length (byte ∷ bytes) ≤ 0 = enough (omega arith) in absurd (omega arith)
lines_lay pid (suc units) at bytes h enough =
    let room : ℕ = 64 - at % 64 in
    let left : length (drop (64 - at % 64) bytes) ≡ length bytes - (64 - at % 64) = length-drop (64 - at % 64) bytes in
    lines_lay pid units (at + (64 - at % 64)) (drop (64 - at % 64) bytes) (written pid at (take (64 - at % 64) bytes) h)
    (λ some. let all : at % 64 + length bytes ≤ suc units * 64 = enough (omega arith) in omega arith)
    ∙ split pid (64 - at % 64) at bytes h

pub suffice : (at n : ℕ) → 0 < n → at % 64 + n ≤ units_met 64 at n * 64
suffice at zero some = absurd (omega arith)
suffice at (suc n) some = omega arith

whole : (pid at : ℕ) (bytes : List ℕ) (h : Held) → laid pid (chunks 64 at bytes) h ≡ written pid at bytes h
whole pid at bytes h = lines_lay pid (units_met 64 at (length bytes)) at bytes h (suffice at (length bytes))

store_holds : (b : Bool) (pid : ℕ) (cut : List Chunk) (h : Held) → all_held (cond b (map (probe_of pid) cut ++ map (part_of pid shown.Store) cut) (map (part_of pid shown.Store) cut)) h ≡ laid pid cut h
store_holds true pid cut h = probes_pass pid cut (map (part_of pid shown.Store) cut) h ∙ stores_lay pid cut h
store_holds false pid cut h = stores_lay pid cut h

-- ---- refusals

abbrev Passes : List Part → Type 0
Passes parts = (h : Held) → all_held parts h ≡ h

either_passes : (b : Bool) (ps qs : List Part) → Passes ps → Passes qs → Passes (cond b ps qs)
either_passes true ps qs p q = p
either_passes false ps qs p q = q

part_passes : (kind : Kind) (pid : ℕ) (space : Space) (x : Span) (h : Held) → part_held (passed_part kind pid space x) h ≡ h
part_passes Fetch pid space x h = refl
part_passes Load pid space x h = refl
part_passes Store pid space x h = refl
part_passes CopyIn pid space x h = refl
part_passes CopyOut pid space x h = refl

refused_passes : (kind : Kind) (pid : ℕ) (space : Space) (cut : List Span) → Passes (refused_in kind pid space cut)
refused_passes kind pid space [] = λ h. refl
refused_passes kind pid space (x ∷ cut) =
    either_passes (permits space (need_of kind) x.at x.size) (passed_part kind pid space x ∷ refused_in kind pid space cut) (probe_at pid x.at ∷ [])
    (λ h. ap (all_held (refused_in kind pid space cut)) (part_passes kind pid space x h) ∙ refused_passes kind pid space cut h)
    (λ h. refl)

pub wholes : PartsMakeTheWhole
wholes = record {
  reads = reading_parts;
  stores = λ n pid at bytes. walk_holds n (store_parts pid (chunks LINE at bytes)) ∙ store_holds (ltb 1 (length (chunks LINE at bytes))) pid (chunks LINE at bytes) n.held ∙ whole pid at bytes n.held;
  copies = λ n pid at bytes. walk_holds n (map (part_of pid shown.CopyOut) (chunks LINE at bytes)) ∙ copies_lay pid (chunks LINE at bytes) n.held ∙ whole pid at bytes n.held;
  refusals = λ n kind pid at size space. walk_holds n (refused_parts kind pid at size space) ∙ refused_passes kind pid space (spans LINE at size) n.held;
}
