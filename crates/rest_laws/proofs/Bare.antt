-- Images whose log is lost: of pages of which no log may have a patch they are old or new all the same.
use Rattle.std.proofs.Common.{◌≡◌, ◌/◌, ◌<◌, ◌≤◌, ◌&&◌, ◌∙◌, [], ◌∷◌, ℕ, Bool, List, None, Option, Some, arith, false, length, not, refl, slice_get, suc, subst, sym, true, zero}
use Rattle.lego_msg.specs.Maps.{page_in}
use Rattle.lego_msg.specs.Places.{guarded_by, secondary_of}
use Rattle.lego_msg.specs.Track.{Track, is_any_done, is_calm, is_crash_due, memory_count}
use Rattle.lego_msg.specs.declared.healing.Healing.{Healing}
use Rattle.lego_rest.specs.Heals.{HealFits, open_clear}
use Rattle.lego_rest.specs.Parts.{IsEither, Page, owns, sides_of}
use Rattle.lego_rest.specs.Rest.{Middle}
use Rattle.rest_laws.proofs.Around.{guards-its-own, secondaries-differ}

-- the memory that guards j guards no other one
pub guarded_is : (n j c : ℕ) → 2 ≤ n → j < n → secondary_of n j ≡ c → guarded_by n c ≡ j
guarded_is n j c two_ below is =
    let there : c < n = subst (λ (k : ℕ). k < n) is (secondaries-differ n j j two_ below below).1 in
    let own = guards-its-own n c two_ there in
    (secondaries-differ n (guarded_by n c) j two_ own.0 below).2 (own.1 ∙ sym is)

pub calm_on : (t : Track) → is_calm t ≡ true → t.stopped ≡ false
calm_on t calm = by t.stopped (is_any_done t) (is_crash_due t) calm
  where
    by : (a b c : Bool) → (not a && not b && not c) ≡ true → a ≡ false
    by true b c e = cc e
    by false b c e = refl

pub clear_images : (lost : Option ℕ) (t : Track) (j : ℕ) → t.stopped ≡ false → j < memory_count t.shape → lost ≡ Some (secondary_of (memory_count t.shape) j) → Middle lost t → (pid vpn : ℕ) → open_clear t.current pid vpn ≡ true → owns t.owners j pid (vpn / 512) ≡ true → IsEither (sides_of t) j (Page pid vpn) (page_in t.disk.images pid vpn)
clear_images lost t j goes_on below is middle pid vpn clear mine = by t.healing middle.healing
  where
    no_lost : (k : ℕ) → None ≡ Some k → ⊥
    no_lost k e = cc e

    same : (a b : ℕ) → Some a ≡ Some b → a ≡ b
    same a b e = cc e

    by : (h : Option Healing) → HealFits lost t h → IsEither (sides_of t) j (Page pid vpn) (page_in t.disk.images pid vpn)
    by None fits = absurd (no_lost (secondary_of (memory_count t.shape) j) (sym fits ∙ is))
    by (Some h) fits =
        let q : guarded_by (memory_count t.shape) h.memory.0 ≡ j = guarded_is (memory_count t.shape) j h.memory.0 middle.machine.two below (same (secondary_of (memory_count t.shape) j) h.memory.0 (sym is ∙ fits.0)) in
        subst (λ (k : ℕ). IsEither (sides_of t) k (Page pid vpn) (page_in t.disk.images pid vpn)) q ((fits.1 goes_on).clear pid vpn clear (subst (λ (k : ℕ). owns t.owners k pid (vpn / 512) ≡ true) (sym q) mine))

-- there is something at a place of a list only below its length
pub get_below : {X : Type 0} (xs : List X) (i : ℕ) (x : X) → slice_get xs i ≡ Some x → i < length xs
get_below [] i x at = cc at
get_below (y ∷ xs) zero x at = omega arith
get_below (y ∷ xs) (suc i) x at = let rest = get_below xs i x at in omega (arith, rest)
