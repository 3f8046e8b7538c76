-- A path and its parts.
use Rattle.std.proofs.Common.{◌≡◌, ℕ, zero, suc, ◌+◌, ◌≤◌, ◌<◌, Bool, true, false, cond, eqb, leb, refl, sym, ◌∙◌, ap, subst, List, [], ◌∷◌, length, take, drop, get_or, arith}
use Rattle.std.proofs.lemmas.Bool.{eq-eqb, ne_eqb, eqb-true, eqb-false, le-leb, lt-leb, leb-true, leb-false}
use Rattle.std.proofs.lemmas.List.{at_drop_more}
use Rattle.linux_model.specs.Paths.{is_root_part, parts_of, with_byte, without_root_parts}
use Rattle.sys_paths.specs.Parts.{ToRoot, ToName, Below, first_part, parts_from, way_of}

-- ---- the bytes before the first slash

pub no_slash : (path : List ℕ) (i d : ℕ) → i < length path → (get_or path i d ≡ 47 → ⊥) → first_part (drop i path) ≡ suc (first_part (drop (i + 1) path))
no_slash path i d h differ = at_drop_more first_part path i d h ∙ ap (λ (b : Bool). cond b 0 (suc (first_part (drop (i + 1) path)))) (ne_eqb (get_or path i d) 47 differ)

pub at_slash : (path : List ℕ) (i d : ℕ) → i < length path → get_or path i d ≡ 47 → first_part (drop i path) ≡ 0
at_slash path i d h same = at_drop_more first_part path i d h ∙ ap (λ (b : Bool). cond b 0 (suc (first_part (drop (i + 1) path)))) (eq-eqb (get_or path i d) 47 same)

pub at_end : (path : List ℕ) (i : ℕ) → length path ≤ i → first_part (drop i path) ≡ 0
at_end [] zero h = refl
at_end [] (suc i) h = refl
at_end (byte ∷ path) zero h = absurd (omega (arith, h))
at_end (byte ∷ path) (suc i) h = at_end path i (omega (arith, h))

-- ---- the first part, and those after it

-- the parts after n bytes and a slash, none where the path ends there
abbrev parts_after : ℕ → List ℕ → List (List ℕ)
parts_after zero [] = []
parts_after zero (slash ∷ path) = parts_of path
parts_after (suc n) [] = []
parts_after (suc n) (byte ∷ path) = parts_after n path

byte_splits : (b : Bool) (byte : ℕ) (path : List ℕ) → parts_of path ≡ take (first_part path) path ∷ parts_after (first_part path) path → with_byte b byte (parts_of path) ≡ take (cond b 0 (suc (first_part path))) (byte ∷ path) ∷ parts_after (cond b 0 (suc (first_part path))) (byte ∷ path)
byte_splits true byte path e = refl
byte_splits false byte path e = ap (with_byte false byte) e

pub splits : (path : List ℕ) → parts_of path ≡ take (first_part path) path ∷ parts_after (first_part path) path
splits [] = refl
splits (byte ∷ path) = byte_splits (eqb byte 47) byte path (splits path)

from_next : (n byte : ℕ) (path : List ℕ) → parts_from n path ≡ parts_from (suc n) (byte ∷ path)
from_next n byte path = ap (λ (b : Bool). cond b (parts_of (drop n path)) []) (next (leb n (length path)) refl)
  where
    next : (b : Bool) → leb n (length path) ≡ b → leb n (length path) ≡ leb (suc n) (suc (length path))
    next true e = e ∙ sym (le-leb (suc n) (suc (length path)) (omega (arith, leb-true n (length path) e)))
    next false e = e ∙ sym (lt-leb (suc n) (suc (length path)) (omega (arith, leb-false n (length path) e)))

after_is : (n : ℕ) (path : List ℕ) → parts_after n path ≡ parts_from (suc n) path
after_is zero [] = refl
after_is zero (byte ∷ path) = sym (ap (λ (b : Bool). cond b (parts_of path) []) (le-leb 1 (suc (length path)) (omega arith)))
after_is (suc n) [] = sym (ap (λ (b : Bool). cond b ([] ∷ []) []) (lt-leb (suc (suc n)) 0 (omega arith)))
after_is (suc n) (byte ∷ path) = after_is n path ∙ from_next (suc n) byte path

same_from : (m n : ℕ) (path : List ℕ) → m ≡ n → parts_from m path ≡ parts_from n path
same_from m n path e = ap (λ (n : ℕ). parts_from n path) e

after_from : (start len : ℕ) (path : List ℕ) → start ≤ length path → parts_after len (drop start path) ≡ parts_from (start + suc len) path
after_from zero len path h = after_is len path ∙ same_from (suc len) (0 + suc len) path (omega arith)
after_from (suc start) len [] h = absurd (omega (arith, h))
after_from (suc start) len (byte ∷ path) h = after_from start len path (omega (arith, h)) ∙ from_next (start + suc len) byte path ∙ same_from (suc (start + suc len)) (suc start + suc len) (byte ∷ path) (omega arith)

from_splits : (start len : ℕ) (path : List ℕ) → start ≤ length path → len ≡ first_part (drop start path) → parts_from start path ≡ take len (drop start path) ∷ parts_from (start + suc len) path
from_splits start len path h is =
    ap (λ (b : Bool). cond b (parts_of (drop start path)) []) (le-leb start (length path) h)
    ∙ splits (drop start path)
    ∙ ap (λ (n : ℕ). take n (drop start path) ∷ parts_after n (drop start path)) (sym is)
    ∙ ap (λ (parts : List (List ℕ)). take len (drop start path) ∷ parts) (after_from start len path h)

from_end : (start : ℕ) (path : List ℕ) → length path < start → parts_from start path ≡ []
from_end start path h = ap (λ (b : Bool). cond b (parts_of (drop start path)) []) (lt-leb start (length path) h)

-- a part ends within the path
pub ends_within : (start len : ℕ) (path rest : List ℕ) → start ≤ length path → rest ≡ drop start path → len ≤ length rest → start + len ≤ length path
ends_within start len path rest h is within = fits start path h (subst (λ (bytes : List ℕ). len ≤ length bytes) is within)
  where
    fits : (start : ℕ) (path : List ℕ) → start ≤ length path → len ≤ length (drop start path) → start + len ≤ length path
    fits zero path h within = omega (arith, within)
    fits (suc start) [] h within = absurd (omega (arith, h))
    fits (suc start) (byte ∷ path) h within =
        let more : start + len ≤ length path = fits start path (omega (arith, h)) within in
        omega (arith, more)

-- ---- one part

-- where the parts lead that stand there
abbrev pub Leads : ℕ → List ℕ → Type 0
Leads start path = way_of (without_root_parts (parts_of path)) ≡ way_of (without_root_parts (parts_from start path))

pub begins : (path : List ℕ) → Leads 0 path
begins path = sym (ap (λ (b : Bool). way_of (without_root_parts (cond b (parts_of path) []))) (le-leb 0 (length path) (omega arith)))

pub goes_on : (start len : ℕ) (path : List ℕ) → start ≤ length path → len ≡ first_part (drop start path) → is_root_part (take len (drop start path)) ≡ true → Leads start path → Leads (start + suc len) path
goes_on start len path h is root leads =
    leads
    ∙ ap (λ (parts : List (List ℕ)). way_of (without_root_parts parts)) (from_splits start len path h is)
    ∙ ap (λ (b : Bool). way_of (cond b (without_root_parts (parts_from (start + suc len) path)) (take len (drop start path) ∷ parts_from (start + suc len) path))) root

way_here : (start len : ℕ) (path : List ℕ) → start ≤ length path → len ≡ first_part (drop start path) → is_root_part (take len (drop start path)) ≡ false → Leads start path → way_of (without_root_parts (parts_of path)) ≡ way_of (take len (drop start path) ∷ parts_from (start + suc len) path)
way_here start len path h is root leads =
    leads
    ∙ ap (λ (parts : List (List ℕ)). way_of (without_root_parts parts)) (from_splits start len path h is)
    ∙ ap (λ (b : Bool). way_of (cond b (without_root_parts (parts_from (start + suc len) path)) (take len (drop start path) ∷ parts_from (start + suc len) path))) root

pub last_name : (start len : ℕ) (path : List ℕ) → start ≤ length path → len ≡ first_part (drop start path) → is_root_part (take len (drop start path)) ≡ false → Leads start path → start + len ≡ length path → way_of (without_root_parts (parts_of path)) ≡ ToName (take len (drop start path))
last_name start len path h is root leads ends = way_here start len path h is root leads ∙ ap (λ (parts : List (List ℕ)). way_of (take len (drop start path) ∷ parts)) (from_end (start + suc len) path (omega (arith, ends)))

below_name : (start len : ℕ) (path : List ℕ) → start ≤ length path → len ≡ first_part (drop start path) → is_root_part (take len (drop start path)) ≡ false → Leads start path → start + len < length path → way_of (without_root_parts (parts_of path)) ≡ Below (take len (drop start path))
below_name start len path h is root leads more =
    way_here start len path h is root leads
    ∙ ap (λ (parts : List (List ℕ)). way_of (take len (drop start path) ∷ parts)) (ap (λ (b : Bool). cond b (parts_of (drop (start + suc len) path)) []) (le-leb (start + suc len) (length path) (omega (arith, more))) ∙ splits (drop (start + suc len) path))

pub name_here : (start len : ℕ) (path : List ℕ) (last : Bool) → start ≤ length path → len ≡ first_part (drop start path) → start + len ≤ length path → is_root_part (take len (drop start path)) ≡ false → Leads start path → last ≡ eqb (start + len) (length path) → cond last (ToName (take len (drop start path))) (Below (take len (drop start path))) ≡ way_of (without_root_parts (parts_of path))
name_here start len path last h is within root leads e = by last e
  where
    by : (b : Bool) → b ≡ eqb (start + len) (length path) → cond b (ToName (take len (drop start path))) (Below (take len (drop start path))) ≡ way_of (without_root_parts (parts_of path))
    by true f = sym (last_name start len path h is root leads (eqb-true (start + len) (length path) (sym f)))
    by false f =
        let differ : start + len ≡ length path → ⊥ = eqb-false (start + len) (length path) (sym f) in
        sym (below_name start len path h is root leads (omega (arith, within, differ)))

pub all_root : (start : ℕ) (path : List ℕ) → length path < start → Leads start path → ToRoot ≡ way_of (without_root_parts (parts_of path))
all_root start path h leads = sym (leads ∙ ap (λ (parts : List (List ℕ)). way_of (without_root_parts parts)) (from_end start path h))
