-- The end of a space: every memory and storage is a target, and its owners end with it.
use Rattle.std.proofs.Common.{◌≡◌, ◌+◌, ◌/◌, ◌%◌, ◌<◌, ◌≤◌, ◌==◌, ◌||◌, [], ◌∙◌, ℕ, Bool, List, None, Option, Some, ap, arith, cond, eqb, false, inl, inr, is_some, refl, subst, suc, sym, true, zero}
use Rattle.std.proofs.Math.Nat.{mod-lt}
use Rattle.std.proofs.lemmas.Bool.{cases_lt}
use Rattle.std.proofs.lemmas.Bool.Decides.{eqb_tells}
use Rattle.keyed_list.proofs.Listed.{Rises-without, find-without}
use Rattle.lego_base.specs.Keys.{find, is_of, key_at, without}
use Rattle.lego_base.specs.Space.{perms_of}
use Rattle.lego_base.specs.declared.ids.MemId.{MemId}
use Rattle.lego_base.specs.declared.records.HomeEntry.{HomeEntry}
use Rattle.lego_msg.specs.Form.{IsRegionList}
use Rattle.std.specs.Option.{IsSome}
use Rattle.lego_msg.specs.Maps.{home_key, owner_in, owner_of}
use Rattle.lego_msg.specs.Operations.{each_from, receivers}
use Rattle.lego_msg.specs.Places.{home_of, is_among, memory, secondary_of}
use Rattle.lego_msg.specs.Plain.{IsMapped, Plain, without_space}
use Rattle.lego_msg.specs.declared.body.Body.{Body}
use Rattle.lego_rest.specs.Fits.{PlainFits}
use Rattle.lego_rest.specs.Parts.{Areas, Cell, Home, Page, is_owner, owns, share}
use Rattle.rest_laws.specs.KindsEnding.{SpacesEnd}
use Rattle.lego_msg.specs.declared.place.Place.TheVariants as place

-- WHO IS A TARGET: each memory that is there, and storage
pub each_among : (count number : ℕ) (what last : Body) (j : ℕ) → number ≤ j → j < number + count → is_among (memory j) (receivers (each_from count number what last)) ≡ true
each_among zero number what last j from below = absurd (omega (arith, from, below))
each_among (suc count) number what last j from below = elim (eqb_tells j number) [
  | inl e ↦ ap (λ (b : Bool). b || is_among (memory j) (receivers (each_from count (number + 1) what last))) e.0
  | inr e ↦
      let differ = e.1 in
      let rest = each_among count (number + 1) what last j (above number j from differ) (omega (arith, below)) in
      later (eqb j number) rest
]
  where
    above : (number j : ℕ) → number ≤ j → (j ≡ number → ⊥) → number + 1 ≤ j
    above number j from differ = elim (cases_lt number j) [
      | inl less ↦ omega (arith, less)
      | inr most ↦ absurd (differ (omega (arith, most, from)))
    ]

    later : (b : Bool) → is_among (memory j) (receivers (each_from count (number + 1) what last)) ≡ true → (b || is_among (memory j) (receivers (each_from count (number + 1) what last))) ≡ true
    later true e = refl
    later false e = e

pub storage_among : (count number : ℕ) (what last : Body) → is_among place.Storage (receivers (each_from count number what last)) ≡ true
storage_among zero number what last = refl
storage_among (suc count) number what last = storage_among count (number + 1) what last

-- A MEMORY THAT ISN'T THERE keeps nothing
none_kept_past : {X : Type 0} (keep : Bool) (x y nothing : X) → keep ≡ false → cond keep x nothing ≡ cond keep y nothing
none_kept_past true x y nothing e = cc e
none_kept_past false x y nothing e = refl

not_home : (n j p : ℕ) → 0 < n → n ≤ j → (home_of n p == j) ≡ false
not_home n j p some past = elim (eqb_tells (home_of n p) j) [
  | inl e ↦ let less : p % n < n = mod-lt p some in let is : p % n ≡ j = e.1 in absurd (omega (arith, less, is, past))
  | inr e ↦ e.0
]

not_owned : (n : ℕ) (owners : List HomeEntry) (f : Plain) (j p r : ℕ) → PlainFits n owners f → n ≤ j → owns owners j p r ≡ false
not_owned n owners f j p r fits past = by (owner_of owners p r) refl
  where
    by : (c : Option MemId) → owner_of owners p r ≡ c → is_owner j c ≡ false
    by None e = refl
    by (Some o) e = elim (eqb_tells o.0 j) [
      | inl same ↦ let below : o.0 < n = fits.within p r o e in let is : o.0 ≡ j = same.1 in absurd (omega (arith, below, is, past))
      | inr differ ↦ differ.0
    ]

same_past : (n : ℕ) (owners : List HomeEntry) (f : Plain) (pid : ℕ) (j : ℕ) → 0 < n → PlainFits n owners f → n ≤ j → (c : Cell) → share n owners f j c ≡ share n owners (without_space pid f) j c
same_past n owners f pid j some fits past (Home p r) = none_kept_past (home_of n p == j) (f.homes p r) _ None (not_home n j p some past)
same_past n owners f pid j some fits past (Areas p r) = none_kept_past (owns owners j p r) (f.areas p r) _ [] (not_owned n owners f j p r fits past)
same_past n owners f pid j some fits past (Page p vpn) = none_kept_past (owns owners j p (vpn / 512)) (f.page p vpn) _ None (not_owned n owners f j p (vpn / 512) fits past)

-- OWNERS THAT END
owner_left : (owners : List HomeEntry) (pid p r : ℕ) → owner_of (without home_key (is_of pid) owners) p r ≡ cond (is_of pid (key_at p r)) None (owner_of owners p r)
owner_left owners pid p r = ap owner_in (find-without home_key (is_of pid) owners (key_at p r)) ∙ either (is_of pid (key_at p r)) (find home_key (key_at p r) owners)
  where
    either : (b : Bool) (o : Option HomeEntry) → owner_in (cond b None o) ≡ cond b None (owner_in o)
    either true o = refl
    either false o = refl

-- what is nothing where the process is the one that ends
gone_alike : {X : Type 0} (owners : List HomeEntry) (pid j p r : ℕ) (held nothing : X) → cond (owns owners j p r) (cond (is_of pid (key_at p r)) nothing held) nothing ≡ cond (owns (without home_key (is_of pid) owners) j p r) (cond (is_of pid (key_at p r)) nothing held) nothing
gone_alike owners pid j p r held nothing = by (is_of pid (key_at p r)) (owner_of (without home_key (is_of pid) owners) p r) (owner_left owners pid p r)
  where
    both_nothing : (a b : Bool) → cond a nothing nothing ≡ cond b nothing nothing
    both_nothing true true = refl
    both_nothing true false = refl
    both_nothing false true = refl
    both_nothing false false = refl

    by : (b : Bool) (c : Option MemId) → c ≡ cond b None (owner_of owners p r) → cond (owns owners j p r) (cond b nothing held) nothing ≡ cond (is_owner j c) (cond b nothing held) nothing
    by true c e = both_nothing (owns owners j p r) (is_owner j c)
    by false c e = ap (λ (o : Option MemId). cond (is_owner j o) held nothing) (sym e)

still_owned : (owners : List HomeEntry) (pid p r : ℕ) (x : MemId) → owner_of (without home_key (is_of pid) owners) p r ≡ Some x → owner_of owners p r ≡ Some x
still_owned owners pid p r x e = by (is_of pid (key_at p r)) (sym (owner_left owners pid p r) ∙ e)
  where
    by : (b : Bool) → cond b None (owner_of owners p r) ≡ Some x → owner_of owners p r ≡ Some x
    by true f = cc f
    by false f = f

owned_after : (owners : List HomeEntry) (pid p r : ℕ) (x : MemId) → is_of pid (key_at p r) ≡ false → owner_of owners p r ≡ Some x → owner_of (without home_key (is_of pid) owners) p r ≡ Some x
owned_after owners pid p r x other e = owner_left owners pid p r ∙ ap (λ (b : Bool). cond b None (owner_of owners p r)) other ∙ e

-- THE PLAIN MAP without a space fits the table without its owners
fits_after : (n : ℕ) (owners : List HomeEntry) (f : Plain) (pid : ℕ) → PlainFits n owners f → PlainFits n (without home_key (is_of pid) owners) (without_space pid f)
fits_after n owners f pid fits = record {
  rise = Rises-without home_key (is_of pid) owners fits.rise;
  within = λ p r x e. fits.within p r x (still_owned owners pid p r x e);
  areas = λ p r none. nothing_left (is_of pid (key_at p r)) (owner_of owners p r) (f.areas p r) [] (sym (owner_left owners pid p r) ∙ none) (fits.areas p r);
  pages = λ p vpn none. nothing_left (is_of pid (key_at p vpn)) (owner_of owners p (vpn / 512)) (f.page p vpn) None (sym (owner_left owners pid p (vpn / 512)) ∙ none) (fits.pages p vpn);
  homes = homes;
  mapped = mapped;
  whole = λ p vpn bytes e. fits.whole p vpn bytes (there (is_of pid (key_at p vpn)) (f.page p vpn) bytes e);
  lists = λ p r. form (is_of pid (key_at p r)) p r;
  numbers = fits.numbers;
}
  where
    nothing_left : {X : Type 0} (b : Bool) (c : Option MemId) (held nothing : X) → cond b None c ≡ None → (c ≡ None → held ≡ nothing) → cond b nothing held ≡ nothing
    nothing_left true c held nothing e empty = refl
    nothing_left false c held nothing e empty = empty e

    there : (b : Bool) (page : Option (List ℕ)) (bytes : List ℕ) → cond b None page ≡ Some bytes → page ≡ Some bytes
    there true page bytes e = cc e
    there false page bytes e = e

    homes : (p r : ℕ) (o : MemId) → cond (is_of pid (key_at p r)) None (f.homes p r) ≡ Some o → owner_of (without home_key (is_of pid) owners) p r ≡ Some o
    homes p r o e = by (is_of pid (key_at p r)) refl e
      where
        by : (b : Bool) → is_of pid (key_at p r) ≡ b → cond b None (f.homes p r) ≡ Some o → owner_of (without home_key (is_of pid) owners) p r ≡ Some o
        by true is e = cc e
        by false is e = owned_after owners pid p r o is (fits.homes p r o e)

    mapped : (p vpn : ℕ) → is_some (cond (is_of pid (key_at p vpn)) None (f.page p vpn)) ≡ true → IsMapped (without_space pid f) p vpn
    mapped p vpn e = by (is_of pid (key_at p vpn)) refl e
      where
        by : (b : Bool) → is_of pid (key_at p vpn) ≡ b → is_some (cond b None (f.page p vpn)) ≡ true → IsMapped (without_space pid f) p vpn
        by true is e = cc e
        by false is e = subst (λ (b : Bool). IsSome (perms_of (cond b [] (f.areas p (vpn / 512))) vpn)) (sym is) (fits.mapped p vpn e)

    form : (b : Bool) (p r : ℕ) → IsRegionList r (cond b [] (f.areas p r))
    form true p r = tt
    form false p r = fits.lists p r

pub spaces-end : SpacesEnd
spaces-end n owners f pid some fits = record {
  main = λ j. elim (cases_lt j n) [
    | inl below ↦ inl (each_among n 0 _ _ j (omega arith) (omega (arith, below)))
    | inr past ↦ inr (same_past n owners f pid.0 j some fits (omega (arith, past)))
  ];
  second = λ j. inl (each_among n 0 _ _ (secondary_of n j) (omega arith) (second_below j));
  pages = λ j. inl (storage_among n 0 _ _);
  files = inr refl;
  owners_end = record {
    shares = shares;
    shrink = λ p r x e. still_owned owners pid.0 p r x e;
    logs = λ p x none e. owned_after owners pid.0 p.pid.0 (p.vpn.0 / 512) x none e;
    plain = fits_after n owners f pid.0 fits;
  };
}
  where
    second_below : (j : ℕ) → secondary_of n j < 0 + n
    second_below j = let less : (j + 1) % n < n = mod-lt (j + 1) some in omega (arith, less)

    shares : (j : ℕ) (c : Cell) → share n owners (without_space pid.0 f) j c ≡ share n (without home_key (is_of pid.0) owners) (without_space pid.0 f) j c
    shares j (Home p r) = refl
    shares j (Areas p r) = gone_alike owners pid.0 j p r (f.areas p r) []
    shares j (Page p vpn) = gone_alike owners pid.0 j p (vpn / 512) (f.page p vpn) None
