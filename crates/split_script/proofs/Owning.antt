-- The owners of the script are those of the rule.
use Rattle.std.proofs.Common.{◌≡◌, ℕ, refl, sym, ◌∙◌, ap, List, [], ◌∷◌, ◌++◌}
use Rattle.cache_tags.specs.CacheRule.{Past}
use Rattle.placement.specs.Owners.{Owned, Placing, placed, placed_all}
use Rattle.linux_model.specs.Effects.{Effect, Reads, Writes, Refused, Protects, Unmaps}
use Rattle.split_script.specs.Now.{Now, with_past, with_pasts}
use Rattle.split_script.specs.Touches.{Part, part_past, part_passed, walked, shown_kind, line_parts, write_parts, refused_parts}
use Rattle.split_script.specs.Regions.{lines_in_pages, past_cleaned, past_removed, placings}
use Rattle.split_script.specs.Script.{beside, passed}
use Rattle.split_script.specs.Laws.{placings_of, all_placings, OwnersGoByTurns}

placed-append : (ps qs : List Placing) (o : Owned) → placed_all (ps ++ qs) o ≡ placed_all qs (placed_all ps o)
placed-append [] qs o = refl
placed-append (p ∷ ps) qs o = placed-append ps qs (placed p o)

pasts_own : (pid : ℕ) (es : List Past) (n : Now) → (with_pasts pid es n).owned ≡ n.owned
pasts_own pid [] n = refl
pasts_own pid (e ∷ es) n = pasts_own pid es (with_past pid e n)

walk_owns : (n : Now) (parts : List Part) → (walked n parts).owned ≡ n.owned
walk_owns n [] = refl
walk_owns n (a ∷ parts) = walk_owns (part_passed n a) parts ∙ pasts_own a.pid (part_past n a) n

pub effect_owns : (n : Now) (e : Effect) → (beside n e).owned ≡ placed_all (placings_of n e) n.owned
effect_owns n (Reads kind pid address bytes) = walk_owns n (line_parts (shown_kind kind) pid address bytes)
effect_owns n (Writes kind pid address bytes) = walk_owns n (write_parts kind pid address bytes)
effect_owns n (Refused kind pid address size) = walk_owns n (refused_parts kind pid address size (n.held.space pid))
effect_owns n (Protects pid first pages areas) =
    ap (λ (o : Owned). placed_all (placings (record n { owned = o }) pid areas) o) (pasts_own pid (past_cleaned n (lines_in_pages n pid first pages) ++ past_removed (lines_in_pages n pid first pages)) n)
effect_owns n (Unmaps pid first pages) = pasts_own pid (past_removed (lines_in_pages n pid first pages)) n
effect_owns n e = refl

pub own : OwnersGoByTurns
own n [] = refl
own n (e ∷ es) =
    own (passed n e) es
    ∙ ap (placed_all (all_placings (passed n e) es)) (effect_owns n e)
    ∙ sym (placed-append (placings_of n e) (all_placings (passed n e) es) n.owned)
