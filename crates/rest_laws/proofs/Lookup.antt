-- What is found in a list after it changed, of which no law asks that the list is in order; and that it stays in order.
use Rattle.std.proofs.Common.{◌≡◌, ◌&&◌, [], ◌∷◌, ◌∙◌, ℕ, Bool, List, None, Option, Some, ap, cond, eqb, false, refl, sym, true}
use Rattle.std.proofs.lemmas.Bool.{eq-eqb, eqb-true}
use Rattle.lego_base.specs.Keys.{find, is_at, key_at}
use Rattle.lego_base.specs.Pieces.{laid_over}
use Rattle.lego_base.specs.declared.records.PageImage.{PageImage}
use Rattle.lego_base.specs.declared.records.Patch.{Patch}
use Rattle.lego_base.specs.declared.records.SpaceAreas.{SpaceAreas}
use Rattle.lego_msg.proofs.Rows.{region}
use Rattle.lego_msg.specs.Maps.{areas_at, areas_in, areas_key, bytes_or_zeros, home_key, image_bytes, page_at, page_in, page_key, patched}
use Rattle.lego_rest.specs.Fits.{over}
use Rattle.keyed_list.proofs.Listed.{Rises-put, Rises-without, find-put, find-without}
use Rattle.rest_laws.proofs.Truth.{both_true}
use Rattle.rest_laws.specs.Lists.{AreasWith, FindPut, FindWithout, PageOverlaid, PagePatched}
use Rattle.rest_laws.specs.Order.{PutRises, WithoutRises}

pub finds-put : FindPut
finds-put x homes k = find-put home_key x homes k

pub finds-without : FindWithout
finds-without test homes k = find-without home_key test homes k

-- ORDER

pub put-rises : PutRises
put-rises x pages rise = Rises-put page_key x pages rise

pub without-rises : WithoutRises
without-rises test pages rise = Rises-without page_key test pages rise

-- AREAS

turned_key : (pid region p r : ℕ) → (eqb pid p && eqb region r) ≡ (eqb p pid && eqb r region)
turned_key pid region p r = λ i. eqb_turned pid p i && eqb_turned region r i
  where
    eqb_turned : (a b : ℕ) → eqb a b ≡ eqb b a
    eqb_turned a b = by (eqb a b) (eqb b a) refl refl
      where
        by : (x y : Bool) → eqb a b ≡ x → eqb b a ≡ y → x ≡ y
        by true true e f = refl
        by false false e f = refl
        by true false e f = cc (sym (eq-eqb b a (sym (eqb-true a b e))) ∙ f)
        by false true e f = cc (sym (eq-eqb a b (sym (eqb-true b a f))) ∙ e)

areas_either : (b : Bool) (x : SpaceAreas) (o : Option SpaceAreas) → areas_in (cond b (Some x) o) ≡ cond b x.areas (areas_in o)
areas_either true x o = refl
areas_either false x o = refl

areas_gone : (b : Bool) (o : Option SpaceAreas) → areas_in (cond b None o) ≡ cond b [] (areas_in o)
areas_gone true o = refl
areas_gone false o = refl

pub areas-with : AreasWith
areas-with p r [] lists pid region =
    ap areas_in (find-without areas_key (is_at p.0 r.0) lists (key_at pid region))
    ∙ areas_gone (is_at p.0 r.0 (key_at pid region)) (find areas_key (key_at pid region) lists)
    ∙ ap (λ (b : Bool). cond b [] (areas_at lists pid region)) (turned_key pid region p.0 r.0)
areas-with p r (area ∷ areas) lists pid region =
    ap areas_in (find-put areas_key (record { pid = p; region = r; areas = area ∷ areas }) lists (key_at pid region))
    ∙ areas_either (eqb p.0 pid && eqb r.0 region) (record { pid = p; region = r; areas = area ∷ areas }) (find areas_key (key_at pid region) lists)

-- PAGES

bytes_either : (b : Bool) (x : PageImage) (o : Option PageImage) → image_bytes (cond b (Some x) o) ≡ cond b (Some x.bytes) (image_bytes o)
bytes_either true x o = refl
bytes_either false x o = refl

-- the page that a patch is of: its bytes are those of this page
this_page : (p : Patch) (pages : List PageImage) (pid vpn : ℕ) (b : Bool) → (eqb p.pid.0 pid && eqb p.vpn.0 vpn) ≡ b →
    cond b (Some (laid_over (page_at pages p.pid.0 p.vpn.0) p.off p.bytes)) (page_in pages pid vpn) ≡ cond b (Some (laid_over (bytes_or_zeros (page_in pages pid vpn)) p.off p.bytes)) (page_in pages pid vpn)
this_page p pages pid vpn true e =
    let two_ = both_true (eqb p.pid.0 pid) (eqb p.vpn.0 vpn) e in
    let is : p.pid.0 ≡ pid = eqb-true p.pid.0 pid two_.0 in
    let at : p.vpn.0 ≡ vpn = eqb-true p.vpn.0 vpn two_.1 in
    λ i. Some (laid_over (page_at pages (is i) (at i)) p.off p.bytes)
this_page p pages pid vpn false e = refl

pub page-patched : PagePatched
page-patched p pages pid vpn =
    ap image_bytes (find-put page_key (record { pid = p.pid; vpn = p.vpn; bytes = laid_over (page_at pages p.pid.0 p.vpn.0) p.off p.bytes }) pages (key_at pid vpn))
    ∙ bytes_either (eqb p.pid.0 pid && eqb p.vpn.0 vpn) (record { pid = p.pid; vpn = p.vpn; bytes = laid_over (page_at pages p.pid.0 p.vpn.0) p.off p.bytes }) (find page_key (key_at pid vpn) pages)
    ∙ this_page p pages pid vpn (eqb p.pid.0 pid && eqb p.vpn.0 vpn) refl

pub page-overlaid : PageOverlaid
page-overlaid [] pages pid vpn = refl
page-overlaid (p ∷ patches) pages pid vpn = page-overlaid patches (patched p pages) pid vpn ∙ ap (over patches pid vpn) (page-patched p pages pid vpn)
