-- Writes of bytes.
use Rattle.std.proofs.Common.{◌≡◌, ℕ, zero, suc, ◌+◌, ◌/◌, ◌≤◌, List, ◌++◌, length, take, drop, refl, sym, ◌∙◌, ap, arith, subst}
use Rattle.std.specs.Int.{w64, to_le_bytes}
use Rattle.std.proofs.lemmas.List.{places, length-take-le, take-take, take-append-drop, drop-take}
use borrow.Rule.Slice.PartMut.{put_mid}
use Rattle.lego_base.specs.Space.{Space, with_bytes, bytes_of}
use Rattle.rv64_step.proofs.Writes.{with_bytes-append}
use Rattle.flat_memory.specs.Pieces.{Written}

-- what a write to a part leaves
pub written-mid : (xs : List ℕ) (at k : ℕ) (ys : List ℕ) → at + k ≤ length xs → length ys ≡ k → Written xs at ys (put_mid at k xs ys)
written-mid xs at k ys h n = record {
  length_stays = grind (arith, places);
  inside = λ j b. grind (arith, places);
  below = λ j b. grind (arith, places);
  above = λ j b. grind (arith, places);
}

-- the lowest bytes of a word
pub bytes-2 : (value : ℕ) → take 2 (to_le_bytes w64 value) ≡ bytes_of 2 value
bytes-2 value = grind arith

pub bytes-4 : (value : ℕ) → take 4 (to_le_bytes w64 value) ≡ bytes_of 4 value
bytes-4 value = grind arith

pub bytes-8 : (value : ℕ) → to_le_bytes w64 value ≡ bytes_of 8 value
bytes-8 value = grind arith

-- the same at a list, a place and a piece that are known by equations
pub written-slice : (xs ys : List ℕ) (at place k : ℕ) (piece part : List ℕ) → ys ≡ xs → part ≡ piece → k ≡ length piece → at ≡ place → place + length piece ≤ length xs → Written xs place piece (put_mid at k ys part)
written-slice xs ys at place k piece part a b n e h =
    subst (λ q. Written xs place piece (put_mid q k ys part)) (sym e)
    (subst (λ zs. Written xs place piece (put_mid place k zs part)) (sym a)
    (subst (λ zs. Written xs place piece (put_mid place k xs zs)) (sym b) (written-mid xs place k piece (omega arith) (sym n))))

pub length-bytes_of : (n value : ℕ) → length (bytes_of n value) ≡ n
length-bytes_of zero value = refl
length-bytes_of (suc n) value = ap suc (length-bytes_of n (value / 256))

-- what a write of the lowest bytes of a value to a part leaves
pub written-part : (xs : List ℕ) (at len m k value : ℕ) (ys : List ℕ) → at + len ≤ length xs → len ≡ m → k ≡ m → ys ≡ bytes_of m value → Written xs at (bytes_of len value) (put_mid at k xs ys)
written-part xs at len m k value ys h l j y =
    let n : length (bytes_of len value) ≡ k = length-bytes_of len value ∙ l ∙ sym j in
    let e : ys ≡ bytes_of len value = y ∙ ap (λ q. bytes_of q value) (sym l) in
    subst (λ zs. Written xs at (bytes_of len value) (put_mid at k xs zs)) (sym e) (written-mid xs at k (bytes_of len value) (omega arith) n)

-- the next bytes of a list after its first ones
pub fill-more : (space : Space) (address done more : ℕ) (bytes : List ℕ) → done ≤ length bytes → with_bytes (with_bytes space address (take done bytes)) (address + done) (take more (drop done bytes)) ≡ with_bytes space address (take (done + more) bytes)
fill-more space address done more bytes h =
    let n : length (take done bytes) ≡ done = length-take-le done bytes h in
    let all : take done bytes ++ take more (drop done bytes) ≡ take (done + more) bytes =
    ap (λ xs. take done bytes ++ xs) (sym (drop-take done more bytes))
    ∙ ap (λ xs. xs ++ drop done (take (done + more) bytes)) (sym (take-take done (done + more) bytes (omega arith)))
    ∙ take-append-drop done (take (done + more) bytes)
    in
    ap (λ k. with_bytes (with_bytes space address (take done bytes)) (address + k) (take more (drop done bytes))) (sym n)
    ∙ with_bytes-append space address (take done bytes) (take more (drop done bytes))
    ∙ ap (with_bytes space address) all
