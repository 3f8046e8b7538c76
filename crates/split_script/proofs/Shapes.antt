-- What the script depends on keeps its machine's shape.
use Rattle.std.proofs.Common.{◌≡◌, ℕ, refl, ◌∙◌, List, [], ◌∷◌, ◌++◌}
use Rattle.cache_tags.specs.CacheRule.{Past}
use Rattle.linux_model.specs.Effects.{Effect, Reads, Writes, Refused, Protects, Unmaps, Copies, Drops}
use Rattle.split_script.specs.Now.{Now, with_past, with_pasts}
use Rattle.split_script.specs.Touches.{Part, part_past, part_passed, walked, shown_kind, line_parts, write_parts, refused_parts}
use Rattle.split_script.specs.Regions.{lines_in_pages, all_lines, past_cleaned, past_removed}
use Rattle.split_script.specs.Script.{beside}

pub pasts_keep : (pid : ℕ) (es : List Past) (n : Now) → (with_pasts pid es n).shape ≡ n.shape
pasts_keep pid [] n = refl
pasts_keep pid (e ∷ es) n = pasts_keep pid es (with_past pid e n)

pub part_keeps : (n : Now) (a : Part) → (part_passed n a).shape ≡ n.shape
part_keeps n a = pasts_keep a.pid (part_past n a) n

pub walk_keeps : (n : Now) (parts : List Part) → (walked n parts).shape ≡ n.shape
walk_keeps n [] = refl
walk_keeps n (a ∷ parts) = walk_keeps (part_passed n a) parts ∙ part_keeps n a

pub effect_keeps : (n : Now) (e : Effect) → (beside n e).shape ≡ n.shape
effect_keeps n (Reads kind pid address bytes) = walk_keeps n (line_parts (shown_kind kind) pid address bytes)
effect_keeps n (Writes kind pid address bytes) = walk_keeps n (write_parts kind pid address bytes)
effect_keeps n (Refused kind pid address size) = walk_keeps n (refused_parts kind pid address size (n.held.space pid))
effect_keeps n (Protects pid first pages areas) = pasts_keep pid (past_cleaned n (lines_in_pages n pid first pages) ++ past_removed (lines_in_pages n pid first pages)) n
effect_keeps n (Unmaps pid first pages) = pasts_keep pid (past_removed (lines_in_pages n pid first pages)) n
effect_keeps n (Copies parent child) = pasts_keep parent (past_cleaned n (all_lines n parent)) n
effect_keeps n (Drops pid) = pasts_keep pid (past_removed (all_lines n pid)) n
effect_keeps n e = refl
