-- A set's lines as keys, and what a touch and a removal make of them.
use Rattle.std.proofs.Common.{◌≡◌, ◌<◌, ◌≤◌, ◌||◌, ◌++◌, [], ◌∷◌, ◌∙◌, ℕ, Bool, List, None, Option, Some, ap, arith, cond, false, get_or, length, ltb, map, refl, suc, sym, true, zero}
use Rattle.std.proofs.lemmas.Bool.{cond-false, cond-true, ltb-false}
use Rattle.std.proofs.lemmas.List.{map-append}
use Rattle.std.proofs.lemmas.List.Quantifiers.{position-Some}
use Rattle.std.proofs.lemmas.List.Sums.{fails_before_first}
use Rattle.std.specs.List.{position, position_or_len, remove}
use Rattle.lego_base.specs.Keys.{Key, same_key}
use Rattle.cache_tags.proofs.Lines.{Distinct, clash, same_is, without-absent}
use Rattle.cache_tags.specs.CacheRule.{has_line, without_line}
use Rattle.cache_tags.specs.Following.{held_key, line_of, pid_of}
use Rattle.cache_tags.specs.Lists.{free_entry, is_line, line_at, oldest, younger}
use Rattle.cache_tags.specs.declared.set.Held.{Held}

abbrev pub keys : List Held → List Key
keys lines = map held_key lines

abbrev pub is_of : Key → Held → Bool
is_of x h = is_line (pid_of x) (line_of x) h

-- WHERE A LINE IS FOUND

has_at : (x : Key) (lines : List Held) (p : ℕ) (d : Held) → p < length lines → is_of x (get_or lines p d) ≡ true → has_line x (keys lines) ≡ true
has_at x [] p d less is = absurd (omega (arith, less))
has_at x (h ∷ lines) zero d less is = ap (λ (b : Bool). b || has_line x (keys lines)) is
has_at x (h ∷ lines) (suc p) d less is = any (same_key (held_key h) x) (has_line x (keys lines)) (has_at x lines p d (omega (arith, less)) is)
  where
    any : (a b : Bool) → b ≡ true → (a || b) ≡ true
    any true b e = refl
    any false b e = e

has_none : (x : Key) (lines : List Held) → ((k : ℕ) (d : Held) → k < length lines → is_of x (get_or lines k d) ≡ false) → has_line x (keys lines) ≡ false
has_none x [] all = refl
has_none x (h ∷ lines) all = λ i. both (all 0 h (omega arith)) (has_none x lines (λ k d less. all (suc k) d (omega (arith, less)))) i
  where
    both : {a b : Bool} → a ≡ false → b ≡ false → (a || b) ≡ false
    both {a} {b} e f = λ i. e i || f i

pub record IsFound (x : Key) (lines : List Held) (p : ℕ) : Type 0 where
  pub within : p < length lines
  pub is : is_of x (line_at lines p) ≡ true
  pub has : has_line x (keys lines) ≡ true

pub found : (x : Key) (lines : List Held) (p : ℕ) → position (is_of x) lines ≡ Some p → IsFound x lines p
found x lines p e =
    let f = position-Some (is_of x) lines p (free_entry 0) e in
    record { within = f.0; is = f.1; has = has_at x lines p (free_entry 0) f.0 f.1 }

pub missed : (x : Key) (lines : List Held) → position (is_of x) lines ≡ None → has_line x (keys lines) ≡ false
missed x lines e =
    let past : length lines ≤ position_or_len (is_of x) lines = ltb-false (position_or_len (is_of x) lines) (length lines) (no_place (ltb (position_or_len (is_of x) lines) (length lines)) (position_or_len (is_of x) lines) e) in
    has_none x lines (λ k d less. fails_before_first (is_of x) lines k d (omega (arith, less, past)))
  where
    no_place : (b : Bool) (n : ℕ) → ◌≡◌ {A = Option ℕ} (cond b (Some n) None) None → b ≡ false
    no_place true n e = cc e
    no_place false n e = refl

-- THE LINE AT A PLACE TAKEN OUT

pub keys-remove : (x : Key) (lines : List Held) (p : ℕ) (d : Held) → Distinct (keys lines) → p < length lines → is_of x (get_or lines p d) ≡ true → keys (remove lines p) ≡ without_line x (keys lines)
keys-remove x [] p d dist less is = absurd (omega (arith, less))
keys-remove x (h ∷ lines) zero d dist less is =
    sym (cond-true (same_key (held_key h) x) (without_line x (keys lines)) (held_key h ∷ without_line x (keys lines)) is
    ∙ without-absent x (keys lines) (ap (λ (k : Key). has_line k (keys lines)) (sym (same_is (held_key h) x is)) ∙ dist.0))
keys-remove x (h ∷ lines) (suc p) d dist less is =
    ap (λ (ks : List Key). held_key h ∷ ks) (keys-remove x lines p d dist.1 (omega (arith, less)) is)
    ∙ sym (cond-false (same_key (held_key h) x) (without_line x (keys lines)) (held_key h ∷ without_line x (keys lines)) (differ (same_key (held_key h) x) refl))
  where
    differ : (b : Bool) → same_key (held_key h) x ≡ b → b ≡ false
    differ true e = absurd (clash (has_line x (keys lines)) (has_at x lines p d (omega (arith, less)) is) (ap (λ (k : Key). has_line k (keys lines)) (sym (same_is (held_key h) x e)) ∙ dist.0))
    differ false e = refl

pub key_there : (x : Key) (lines : List Held) (p : ℕ) → is_of x (line_at lines p) ≡ true → held_key (line_at lines p) ≡ x
key_there x lines p is = same_is (held_key (line_at lines p)) x is

-- THE OLDEST

pub split-oldest : (h : Held) (lines : List Held) → h ∷ lines ≡ younger h lines ++ oldest h lines ∷ []
split-oldest h [] = refl
split-oldest h (x ∷ lines) = ap (λ (ls : List Held). h ∷ ls) (split-oldest x lines)

pub keys-split : (h : Held) (lines : List Held) → keys (h ∷ lines) ≡ keys (younger h lines) ++ held_key (oldest h lines) ∷ []
keys-split h lines = ap keys (split-oldest h lines) ∙ map-append held_key (younger h lines) (oldest h lines ∷ [])
