-- How what one read took is joined with what the next one took.
use Rattle.std.proofs.Common.{◌≡◌, ℕ, ◌+◌, ◌<◌, ◌≤◌, List, [], ◌++◌, length, take, drop, min, Option, Some, None, Ok, sym, ap, subst, ◌∙◌, append_assoc, length-append, arith}
use Rattle.std.proofs.lemmas.List.{append-nil, take-append-drop, drop-drop, nil_from_length}
use Rattle.host_io.specs.Sources.{Gave, GaveSome, IsDry, IsLonger, Moved, ReadWhole}

-- nothing was taken
pub Gave-none : (a b : Option (List ℕ)) → b ≡ a → Gave a b []
Gave-none None b same = same
Gave-none (Some left) None same = let no : ⊥ = cc in no
Gave-none (Some left) (Some rest) same = let is : left ≡ rest = cc in is

-- some bytes, then others
pub Gave-append : (a b c : Option (List ℕ)) (xs ys : List ℕ) → Gave a b xs → Gave b c ys → Gave a c (xs ++ ys)
Gave-append None b c xs ys first second = subst (λ (t : Option (List ℕ)). Gave t c ys) first second
Gave-append (Some left) None c xs ys first second = absurd first
Gave-append (Some left) (Some mid) None xs ys first second = absurd second
Gave-append (Some left) (Some mid) (Some rest) xs ys first second =
    first ∙ (ap (λ (l : List ℕ). xs ++ l) second ∙ sym (append_assoc xs ys rest))

pub GaveSome-append : (a b c : Option (List ℕ)) (xs : List ℕ) → Gave a b xs → GaveSome b c → GaveSome a c
GaveSome-append a b c xs first second = (xs ++ second.0, Gave-append a b c xs second.0 first second.1)

-- what was left is just what was taken, once nothing is left
pub Gave-whole : (left bytes : List ℕ) (b : Option (List ℕ)) → Gave (Some left) b bytes → IsDry b → left ≡ bytes
Gave-whole left bytes None gave dry = absurd gave
Gave-whole left bytes (Some rest) gave dry = gave ∙ (ap (λ (l : List ℕ). bytes ++ l) dry ∙ append-nil bytes)

-- more was left than was taken, or as much
pub IsLonger-from_gave : (most : ℕ) (a b : Option (List ℕ)) (bytes : List ℕ) → Gave a b bytes → most < length bytes → IsLonger most a
IsLonger-from_gave most None b bytes gave more = tt
IsLonger-from_gave most (Some left) None bytes gave more = absurd gave
IsLonger-from_gave most (Some left) (Some rest) bytes gave more = omega (arith, ap length gave, length-append bytes rest)

-- A read from a list, of which `at` bytes were taken: what there is or what fits is moved.
pub moved_front : {E : Type 0} (left bytes buf : List ℕ) (at n : ℕ) → left ≡ drop at bytes → n ≡ min (length left) (length buf) → take n buf ≡ take n left → Moved {E = E} (Some left) (Some (drop (at + n) bytes)) buf (Ok n)
moved_front left bytes buf at n is count same = record {
  within = omega arith;
  gave = sym (take-append-drop n left) ∙ (ap (λ (l : List ℕ). l ++ drop n left) (sym same) ∙ ap (λ (l : List ℕ). take n buf ++ l) (ap (λ (l : List ℕ). drop n l) is ∙ drop-drop n at bytes));
  end = λ room. (λ zero. nil_from_length left (omega arith), λ empty. omega (arith, ap length empty));
  none = tt;
}

-- what is longer now was longer before
pub IsLonger-before : (most : ℕ) (a b : Option (List ℕ)) (bytes : List ℕ) → Gave a b bytes → IsLonger most b → IsLonger most a
IsLonger-before most None b bytes gave longer = tt
IsLonger-before most (Some left) None bytes gave longer = absurd gave
IsLonger-before most (Some left) (Some rest) bytes gave longer = omega (arith, ap length gave, length-append bytes rest)

-- a source that is dry stays so
pub IsDry-after : (a b : Option (List ℕ)) (bytes : List ℕ) → length bytes ≡ 0 → Gave a b bytes → IsDry a → IsDry b
IsDry-after a None bytes none gave dry = tt
IsDry-after None (Some rest) bytes none gave dry = absurd (let no_way : ⊥ = cc in no_way)
IsDry-after (Some left) (Some rest) bytes none gave dry =
    nil_from_length rest (omega (arith, ap length gave, length-append bytes rest, ap length dry))

-- A source that told what it had: `read_all` gave just that, and there was no more than `most` of it.
pub ReadWhole-told : (most : ℕ) (left bytes : List ℕ) (b : Option (List ℕ)) → ReadWhole most (Some left) b bytes → (left ≡ bytes) × (length left ≤ most)
ReadWhole-told most left bytes b read =
    let all : left ≡ bytes = Gave-whole left bytes b read.gave read.dry in
    (all, omega (arith, ap length all, read.within))
