-- The areas of a process as the plain kernel has them say of each page what the list of its region says.
use Rattle.std.proofs.Common.{◌≡◌, ◌∙◌, ◌⊎◌, ◌+◌, ◌*◌, ◌/◌, ◌<◌, ◌≤◌, [], ◌∷◌, ◌++◌, ℕ, List, None, Option, Some, ap, arith, inl, inr, refl, subst, sym}
use Rattle.std.proofs.lemmas.Bool.{cases_eq, cases_lt}
use Rattle.std.specs.List.{AllByRecursion}
use Rattle.lego_base.specs.Keys.{Rises, is_of}
use Rattle.lego_base.specs.Space.{perms_of}
use Rattle.lego_base.specs.declared.ids.MemId.{MemId}
use Rattle.lego_base.specs.declared.perms.Perms.{Perms}
use Rattle.lego_base.specs.declared.records.Area.{Area}
use Rattle.lego_base.specs.declared.records.HomeEntry.{HomeEntry}
use Rattle.area_list.proofs.Pages.{either, either-none, perms-append, perms-joined, perms-miss}
use Rattle.lego_msg.specs.Form.{IsRegionList}
use Rattle.lego_msg.specs.Maps.{home_key, owner_of}
use Rattle.lego_msg.specs.Plain.{Plain}
use Rattle.cluster.proofs.Newcomers.{Listed, those_listed, those_of}
use Rattle.cluster.proofs.Regionwise.{owned_those}
use Rattle.cluster.proofs.Settings.{Elsewhere, apart, elsewhere, never_listed, those_rise}
use Rattle.cluster.specs.Askings.{areas_among}
use Rattle.cluster.specs.Mapping.{entries_in}
use Rattle.ex_memory.specs.Seen.{space_of}
use Rattle.ex_memory.specs.Sound.{Sound}
use Rattle.ex_memory.specs.Split.{Split, plain_of}

-- of a page of another region a list says nothing
outside : (region page : ℕ) → (page / 512 ≡ region → ⊥) → (page < region * 512) ⊎ (region * 512 + 512 ≤ page)
outside region page differ = elim (cases_lt page (region * 512)) [
  | inl less ↦ inl less
  | inr more ↦ elim (cases_lt page (region * 512 + 512)) [
    | inl less ↦ absurd (differ (omega (arith, more, less)))
    | inr past ↦ inr past
  ]
]

pub other_region : (region : ℕ) (areas : List Area) (page : ℕ) → IsRegionList region areas → (page / 512 ≡ region → ⊥) → perms_of areas page ≡ None
other_region region [] page listed differ = refl
other_region region (a ∷ areas) page listed differ =
    perms-miss a areas page (by (outside region page differ)) ∙ other_region region areas page listed.4 differ
  where
    by : (page < region * 512) ⊎ (region * 512 + 512 ≤ page) → (page < a.first.0) ⊎ (a.first.0 + a.pages ≤ page)
    by (inl less) = let low = listed.1 in inl (omega (arith, low, less))
    by (inr past) = let high = listed.2 in inr (omega (arith, high, past))

module _ (f : Plain) (lists : (pid region : ℕ) → IsRegionList region (f.areas pid region)) where
  among_elsewhere : (page : ℕ) (entries : List HomeEntry) → Elsewhere (page / 512) entries → perms_of (areas_among f entries) page ≡ None
  among_elsewhere page [] away = refl
  among_elsewhere page (e ∷ entries) away =
      perms-append (f.areas e.pid.0 e.region.0) (areas_among f entries) page
      ∙ ap (λ (o : Option Perms). either o (perms_of (areas_among f entries) page)) (other_region e.region.0 (f.areas e.pid.0 e.region.0) page (lists e.pid.0 e.region.0) (λ is. away.0 (sym is)))
      ∙ among_elsewhere page entries away.1

  among_here : (pid page : ℕ) (entries : List HomeEntry) → AllByRecursion (λ (e : HomeEntry). e.pid.0 ≡ pid) entries → Rises home_key entries → Listed pid (page / 512) entries → perms_of (areas_among f entries) page ≡ perms_of (f.areas pid (page / 512)) page
  among_here pid page [] mine rise listed = absurd listed
  among_here pid page (e ∷ entries) mine rise (inl is) =
      perms-append (f.areas e.pid.0 e.region.0) (areas_among f entries) page
      ∙ (λ i. either (perms_of (f.areas (is.0 i) (is.1 i)) page) (perms_of (areas_among f entries) page))
      ∙ ap (either (perms_of (f.areas pid (page / 512)) page)) (among_elsewhere page entries (subst (λ (r : ℕ). Elsewhere r entries) is.1 (apart pid e entries mine.0 mine.1 rise.0 rise.1)))
      ∙ either-none (perms_of (f.areas pid (page / 512)) page)
  among_here pid page (e ∷ entries) mine rise (inr more) = elim (cases_eq e.region.0 (page / 512)) [
    | inl same ↦ absurd (never_listed pid (page / 512) entries more (subst (λ (r : ℕ). Elsewhere r entries) same (apart pid e entries mine.0 mine.1 rise.0 rise.1)))
    | inr differ ↦
        perms-append (f.areas e.pid.0 e.region.0) (areas_among f entries) page
        ∙ ap (λ (o : Option Perms). either o (perms_of (areas_among f entries) page)) (other_region e.region.0 (f.areas e.pid.0 e.region.0) page (lists e.pid.0 e.region.0) (λ is. differ (sym is)))
        ∙ among_here pid page entries mine.1 rise.1 more
  ]

pub space_perms : (m : Split) → Sound m → (pid page : ℕ) → perms_of (space_of m pid).areas page ≡ perms_of ((plain_of m.whole).areas pid (page / 512)) page
space_perms m sound pid page =
    perms-joined [] (areas_among (plain_of m.whole) (entries_in (record { 0 = pid }) m.whole.table)) page
    ∙ by (owner_of m.whole.table.owners pid (page / 512)) refl
  where
    f : Plain
    f = plain_of m.whole

    entries : List HomeEntry
    entries = entries_in (record { 0 = pid }) m.whole.table

    by : (o : Option MemId) → owner_of m.whole.table.owners pid (page / 512) ≡ o → perms_of (areas_among f entries) page ≡ perms_of (f.areas pid (page / 512)) page
    by None none =
        among_elsewhere f sound.rests.plain.lists page entries (elsewhere m.whole.table.owners entries pid (page / 512) (those_of pid m.whole.table.owners) (owned_those (is_of pid) m.whole.table.owners sound.rests.plain.rise) none)
        ∙ sym (ap (λ (l : List Area). perms_of l page) (sound.rests.plain.areas pid (page / 512) none))
    by (Some o) is = among_here f sound.rests.plain.lists pid page entries (those_of pid m.whole.table.owners) (those_rise (is_of pid) m.whole.table.owners sound.rests.plain.rise)
        (those_listed m.whole.table.owners pid (page / 512) o is)
