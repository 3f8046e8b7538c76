-- What areas permit: page by page, and of the regions that bytes meet as of all.
use Rattle.std.proofs.Common.{◌≡◌, ◌∙◌, ◌⊎◌, ◌+◌, ◌-◌, ◌*◌, ◌/◌, ◌%◌, ◌<◌, ◌≤◌, ◌&&◌, ◌||◌, [], ◌∷◌, ℕ, zero, suc, Bool, List, None, Ok, Option, Some, ap, arith, cond, eqb, false, inl, inr, ltb, refl, subst, sym, true}
use Rattle.std.proofs.lemmas.Bool.{and_right, cases_eq, cases_lt, eq-eqb, false≢true, lt-ltb, true≢false}
use Rattle.std.specs.List.{AllByRecursion}
use Rattle.std.specs.Prelude.{IsSome}
use Rattle.area_list.proofs.Pages.{either, perms-append, perms-miss}
use Rattle.lego_base.specs.Keys.{is_of, those}
use Rattle.lego_base.specs.Space.{Space, allows, perms_of, permits}
use Rattle.lego_base.specs.declared.perms.Perms.{Perms}
use Rattle.lego_base.specs.declared.records.Area.{Area}
use Rattle.lego_base.specs.declared.records.HomeEntry.{HomeEntry}
use Rattle.lego_base.specs.declared.sizes.TheConstants.{PAGES_END, USER_END}
use Rattle.lego_msg.specs.Form.{IsRegionList}
use Rattle.lego_msg.specs.Maps.{home_key}
use Rattle.lego_msg.specs.Plain.{Plain}
use Rattle.lego_msg.specs.declared.event.Event.{Event}
use Rattle.lego_msg.specs.declared.place.Place.{Place}
use Rattle.cluster.proofs.Newcomers.{those_of}
use Rattle.cluster.proofs.Progress.{ends_here, starts}
use Rattle.cluster.proofs.Regionwise.{meets_some}
use Rattle.cluster.specs.Askings.{areas_among, asks_of, meets, met_by}
use Rattle.cluster.specs.Permitted.{IsUser, asked_for, bare, space_at}
use Rattle.cluster.specs.Sequences.{CallsAll, CallsEach, all_free, all_served, served_each}
use Rattle.cluster.specs.Standing.{StandsFor}
use Rattle.cluster.specs.Whole.{Whole}

-- ---- bytes by their pages

and-self : (x y : Bool) → (x && (x && y)) ≡ (x && y)
and-self true y = refl
and-self false y = refl

and-yes : (x : Bool) → (x && true) ≡ x
and-yes true = refl
and-yes false = refl

and-no : (x y : Bool) → x ≡ false → (x && y) ≡ false
and-no true y e = absurd (true≢false e)
and-no false y e = refl

-- the first bytes of some are permitted where their page permits them, if they lie in one page
permits-page : (space : Space) (need address m n k : ℕ) → suc m + n ≡ k → address % 4096 + suc m ≤ 4096 → permits space need address k ≡ (allows (perms_of space.areas (address / 4096)) need && permits space need (address + suc m) n)
permits-page space need address zero n k e h =
    let one : k ≡ suc n = omega (arith, e) in
    ap (permits space need address) one
permits-page space need address (suc m) n zero e h = absurd (omega (arith, e))
permits-page space need address (suc m) n (suc k) e h =
    let page : (address + 1) / 4096 ≡ address / 4096 = omega (arith, h) in
    let next : address + 1 + suc m ≡ address + suc (suc m) = omega arith in
    ap (λ (b : Bool). allows (perms_of space.areas (address / 4096)) need && b)
    (permits-page space need (address + 1) m n k (omega (arith, e)) (omega (arith, h))
    ∙ ap (λ (p : ℕ). allows (perms_of space.areas p) need && permits space need (address + 1 + suc m) n) page
    ∙ ap (λ (a : ℕ). allows (perms_of space.areas (address / 4096)) need && permits space need a n) next)
    ∙ and-self (allows (perms_of space.areas (address / 4096)) need) (permits space need (address + suc (suc m)) n)

-- bytes of one page are permitted where the page permits them
pub permits-within : (space : Space) (need address n : ℕ) → 0 < n → address % 4096 + n ≤ 4096 → permits space need address n ≡ allows (perms_of space.areas (address / 4096)) need
permits-within space need address zero p h = absurd (omega (arith, p))
permits-within space need address (suc n) p h = permits-page space need address n 0 (suc n) (omega arith) h ∙ and-yes (allows (perms_of space.areas (address / 4096)) need)

-- some bytes are permitted where those after the first ones are, if these are
pub permits-room : (space : Space) (need address room left : ℕ) → 0 < room → room ≤ left → address % 4096 + room ≤ 4096 → allows (perms_of space.areas (address / 4096)) need ≡ true → permits space need (address + room) (left - room) ≡ permits space need address left
permits-room space need address zero left p f h ok = absurd (omega (arith, p))
permits-room space need address (suc m) left p f h ok = sym (permits-page space need address m (left - suc m) left (omega (arith, f)) h ∙ ap (λ (b : Bool). b && permits space need (address + suc m) (left - suc m)) ok)

-- bytes are refused where the page of the first is
pub permits-first : (space : Space) (need address n : ℕ) → 0 < n → allows (perms_of space.areas (address / 4096)) need ≡ false → permits space need address n ≡ false
permits-first space need address zero p refused = absurd (omega (arith, p))
permits-first space need address (suc n) p refused = and-no (allows (perms_of space.areas (address / 4096)) need) (permits space need (address + 1) n) refused

-- areas that say the same of the pages of bytes permit the same of them
pub permits-same : (s r : Space) (need at n : ℕ) → ((k : ℕ) → k < n → perms_of s.areas ((at + k) / 4096) ≡ perms_of r.areas ((at + k) / 4096)) → permits s need at n ≡ permits r need at n
permits-same s r need at zero same = refl
permits-same s r need at (suc n) same =
    let none : at + 0 ≡ at = omega arith in
    let here : perms_of s.areas (at / 4096) ≡ perms_of r.areas (at / 4096) = subst (λ (a : ℕ). perms_of s.areas (a / 4096) ≡ perms_of r.areas (a / 4096)) none (same 0 (omega arith)) in
    let rest : permits s need (at + 1) n ≡ permits r need (at + 1) n = permits-same s r need (at + 1) n (later s r at n same) in
    λ i. allows (here i) need && rest i
  where
    later : (s r : Space) (at n : ℕ) → ((k : ℕ) → k < suc n → perms_of s.areas ((at + k) / 4096) ≡ perms_of r.areas ((at + k) / 4096)) → (k : ℕ) → k < n → perms_of s.areas ((at + 1 + k) / 4096) ≡ perms_of r.areas ((at + 1 + k) / 4096)
    later s r at n same k less =
        let next : at + suc k ≡ at + 1 + k = omega arith in
        subst (λ (a : ℕ). perms_of s.areas (a / 4096) ≡ perms_of r.areas (a / 4096)) next (same (suc k) (omega (arith, less)))

-- bytes are refused where one of them lies in no area
refused : (s : Space) (need at n k : ℕ) → k < n → perms_of s.areas ((at + k) / 4096) ≡ None → permits s need at n ≡ false
refused s need at zero k less none = absurd (omega (arith, less))
refused s need at (suc n) zero less none =
    let here : at + 0 ≡ at = omega arith in
    let first : perms_of s.areas (at / 4096) ≡ None = subst (λ (a : ℕ). perms_of s.areas (a / 4096) ≡ None) here none in
    ap (λ (o : Option Perms). allows o need && permits s need (at + 1) n) first
refused s need at (suc n) (suc k) less none =
    let next : at + suc k ≡ at + 1 + k = omega arith in
    and_right (allows (perms_of s.areas (at / 4096)) need) (permits s need (at + 1) n)
    (refused s need (at + 1) n k (omega (arith, less)) (subst (λ (a : ℕ). perms_of s.areas (a / 4096) ≡ None) next none))

-- ---- a page and the regions

-- of a page of another region a list says nothing
outside : (region page : ℕ) → (page / 512 ≡ region → ⊥) → (page < region * 512) ⊎ (region * 512 + 512 ≤ page)
outside region page differ = elim (cases_lt page (region * 512)) [
  | inl less ↦ inl less
  | inr more ↦ elim (cases_lt page (region * 512 + 512)) [
    | inl less ↦ absurd (differ (omega (arith, more, less)))
    | inr past ↦ inr past
  ]
]

pub other_region : (region : ℕ) (areas : List Area) (page : ℕ) → IsRegionList region areas → (page / 512 ≡ region → ⊥) → perms_of areas page ≡ None
other_region region [] page listed differ = refl
other_region region (a ∷ areas) page listed differ =
    perms-miss a areas page (by (outside region page differ)) ∙ other_region region areas page listed.4 differ
  where
    by : (page < region * 512) ⊎ (region * 512 + 512 ≤ page) → (page < a.first.0) ⊎ (a.first.0 + a.pages ≤ page)
    by (inl less) = let low = listed.1 in inl (omega (arith, low, less))
    by (inr past) = let high = listed.2 in inr (omega (arith, high, past))

-- the region of a byte is met
meets_page : (start n k : ℕ) (e : HomeEntry) → k < n → (start + k) / 4096 / 512 ≡ e.region.0 → meets start n e ≡ true
meets_page start n k e less is =
    let region : (start + k) / 2097152 ≡ e.region.0 = omega (arith, is) in
    meets_some start n (start + n - 1) e (omega (arith, less)) (omega (arith, less)) (omega (arith, less, region)) (omega (arith, less, region))

not_some : (o : Option Perms) → (IsSome o → ⊥) → o ≡ None
not_some None never = refl
not_some (Some perms) never = absurd (never refl)

module _ (f : Plain) (lists : (pid region : ℕ) → IsRegionList region (f.areas pid region)) where
  -- of the page of a byte the regions that are met say what all say
  met_perms : (start n k : ℕ) → k < n → (entries : List HomeEntry) → perms_of (areas_among f (met_by start n entries)) ((start + k) / 4096) ≡ perms_of (areas_among f entries) ((start + k) / 4096)
  met_perms start n k less [] = refl
  met_perms start n k less (e ∷ entries) = by (meets start n e) refl (met_perms start n k less entries)
    where
      by : (b : Bool) → meets start n e ≡ b → perms_of (areas_among f (met_by start n entries)) ((start + k) / 4096) ≡ perms_of (areas_among f entries) ((start + k) / 4096)
          → perms_of (areas_among f (cond b (e ∷ met_by start n entries) (met_by start n entries))) ((start + k) / 4096) ≡ perms_of (areas_among f (e ∷ entries)) ((start + k) / 4096)
      by true is rest =
          perms-append (f.areas e.pid.0 e.region.0) (areas_among f (met_by start n entries)) ((start + k) / 4096)
          ∙ ap (either (perms_of (f.areas e.pid.0 e.region.0) ((start + k) / 4096))) rest
          ∙ sym (perms-append (f.areas e.pid.0 e.region.0) (areas_among f entries) ((start + k) / 4096))
      by false is rest =
          let none : perms_of (f.areas e.pid.0 e.region.0) ((start + k) / 4096) ≡ None =
          other_region e.region.0 (f.areas e.pid.0 e.region.0) ((start + k) / 4096) (lists e.pid.0 e.region.0) (λ same. absurd (false≢true (sym is ∙ meets_page start n k e less same))) in
          rest
          ∙ sym (perms-append (f.areas e.pid.0 e.region.0) (areas_among f entries) ((start + k) / 4096)
          ∙ ap (λ (o : Option Perms). either o (perms_of (areas_among f entries) ((start + k) / 4096))) none)

  -- a page that isn't mapped is in no region
  away_perms : (pid page : ℕ) → perms_of (f.areas pid (page / 512)) page ≡ None → (entries : List HomeEntry) → AllByRecursion (λ (e : HomeEntry). e.pid.0 ≡ pid) entries → perms_of (areas_among f entries) page ≡ None
  away_perms pid page none [] mine = refl
  away_perms pid page none (e ∷ entries) mine =
      perms-append (f.areas e.pid.0 e.region.0) (areas_among f entries) page
      ∙ ap (λ (o : Option Perms). either o (perms_of (areas_among f entries) page)) (by (cases_eq (page / 512) e.region.0))
      ∙ away_perms pid page none entries mine.1
    where
      by : (page / 512 ≡ e.region.0) ⊎ (page / 512 ≡ e.region.0 → ⊥) → perms_of (f.areas e.pid.0 e.region.0) page ≡ None
      by (inl same) = (λ i. perms_of (f.areas (mine.0 i) (sym same i)) page) ∙ none
      by (inr differ) = other_region e.region.0 (f.areas e.pid.0 e.region.0) page (lists e.pid.0 e.region.0) differ

-- ---- WHAT IS ANSWERED

module _ (c : Whole) (f : Plain) (stands : StandsFor c f) (pid need start len : ℕ) where
  pub met_permits : permits (bare (areas_among f (met_by start len (those home_key (is_of pid) c.table.owners)))) need start len ≡ permits (space_at f pid c.table.owners) need start len
  met_permits = permits-same (bare (areas_among f (met_by start len (those home_key (is_of pid) c.table.owners)))) (space_at f pid c.table.owners) need start len
      (λ k less. met_perms f stands.plain.lists start len k less (those home_key (is_of pid) c.table.owners))

  -- no page past the end of user addresses is mapped
  pub past_refused : IsUser f pid → 0 < len → USER_END < start + len → permits (space_at f pid c.table.owners) need start len ≡ false
  past_refused user some past =
      let page : ℕ = (start + (len - 1)) / 4096 in
      let high : PAGES_END ≤ page = omega (arith, some, past) in
      refused (space_at f pid c.table.owners) need start len (len - 1) (omega (arith, some))
      (away_perms f stands.plain.lists pid page (not_some (perms_of (f.areas pid (page / 512)) page) (λ is. let low = user page is in absurd (omega (arith, high, low))))
      (those home_key (is_of pid) c.table.owners) (those_of pid c.table.owners))

-- ---- WHAT IS ASKED

first_or : (a b : Bool) (xs : List HomeEntry) → a ≡ true → cond (a || b) [] xs ≡ []
first_or true b xs e = refl
first_or false b xs e = absurd (false≢true e)

second_or : (a b : Bool) (xs : List HomeEntry) → b ≡ true → cond (a || b) [] xs ≡ []
second_or true b xs e = refl
second_or false true xs e = refl
second_or false false xs e = absurd (false≢true e)

pub asked_none : (start len : ℕ) (entries : List HomeEntry) → len ≡ 0 → asked_for start len entries ≡ []
asked_none start len entries none = first_or (eqb len 0) (ltb USER_END (start + len)) (met_by start len entries) (eq-eqb len 0 none)

pub asked_past : (start len : ℕ) (entries : List HomeEntry) → USER_END < start + len → asked_for start len entries ≡ []
asked_past start len entries past = second_or (eqb len 0) (ltb USER_END (start + len)) (met_by start len entries) (lt-ltb USER_END (start + len) past)

module _ {W : Type 0} (told : W → Option (List Event)) (faults : W → ℕ) (w : W) (c : Whole) (by : Place) where
  -- no region is asked
  pub nothing_asked : {Y : Type 0} (entries : List HomeEntry) (y : Y) → entries ≡ [] → c.halt ≡ None → CallsAll told faults w w c c by (asks_of entries) (λ (x : Y). all_served by (asks_of entries)) (Ok y)
  nothing_asked {Y} entries y is none =
      subst (λ (l : List HomeEntry). CallsEach c.table {X = Y} told faults w w c c by (all_free (asks_of l)) (λ (x : Y). served_each by (all_free (asks_of l))) (Ok y)) (sym is)
      (ends_here told faults c.table w w c c by [] (starts told faults w c by none) (λ (x : Y). served_each by []) y (λ g. refl))
