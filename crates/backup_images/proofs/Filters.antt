-- What a test keeps of a list of images.
use Rattle.std.proofs.Common.{◌≡◌, ◌/◌, [], ◌∷◌, ℕ, Bool, List, cond, eqb, false, map, refl, sym, true}
use Rattle.std.proofs.lemmas.Bool.{and_parts, eqb-true}
use Rattle.lego_base.specs.Keys.{is_page_of}
use Rattle.lego_base.specs.declared.ids.Pid.{Pid}
use Rattle.lego_base.specs.declared.records.PageImage.{PageImage}
use Rattle.lego_msg.specs.Maps.{for_child, page_key, pages_of}

-- images of a process, as its own
pub own_images : (pid : Pid) (region : ℕ) (pages : List PageImage) → map (for_child pid) (pages_of pid.0 region pages) ≡ pages_of pid.0 region pages
own_images pid region [] = refl
own_images pid region (p ∷ pages) = by (is_page_of pid.0 region (page_key p)) refl (own_images pid region pages)
  where
    by : (b : Bool) → is_page_of pid.0 region (page_key p) ≡ b → map (for_child pid) (pages_of pid.0 region pages) ≡ pages_of pid.0 region pages →
        map (for_child pid) (cond b (p ∷ pages_of pid.0 region pages) (pages_of pid.0 region pages)) ≡ cond b (p ∷ pages_of pid.0 region pages) (pages_of pid.0 region pages)
    by true e rest =
        let same : p.pid.0 ≡ pid.0 = eqb-true p.pid.0 pid.0 (and_parts (eqb p.pid.0 pid.0) (eqb (p.vpn.0 / 512) region) e).0 in
        (λ i. record { pid = record { 0 = sym same i }; vpn = p.vpn; bytes = p.bytes } ∷ rest i)
    by false e rest = rest
