-- The least line among those that are left, and the least so far.
use Rattle.std.proofs.Common.{◌≡◌, ◌+◌, ◌<◌, ◌∙◌, ℕ, List, None, Option, Some, ap, arith, drop, get_or, length, min, refl, sym}
use Rattle.std.proofs.lemmas.List.{drop_all, drop_more}
use Rattle.std.proofs.Common.{◌≤◌}
use Rattle.lego_base.specs.declared.ids.LineNo.{LineNo}
use Rattle.lego_base.specs.declared.ids.Pid.{Pid}
use Rattle.cache_tags.specs.Sets.{SetLines}
use Rattle.cache_tags.specs.Tags.{least_in, least_of, line_in, lower}
use Rattle.cache_tags.specs.declared.set.Held.{Held}

lower_assoc : (a b c : Option LineNo) → lower (lower a b) c ≡ lower a (lower b c)
lower_assoc None b c = refl
lower_assoc (Some a) None c = refl
lower_assoc (Some a) (Some b) None = refl
lower_assoc (Some a) (Some b) (Some c) = let e : min (min a.0 b.0) c.0 ≡ min a.0 (min b.0 c.0) = omega arith in λ i. Some (record { 0 = e i })

lower_none : (a : Option LineNo) → lower a None ≡ a
lower_none None = refl
lower_none (Some a) = refl

pub line_step : (pid : Pid) (from to : LineNo) (least now total : Option LineNo) (lines : List Held) (i : ℕ) (d : Held) → i < length lines → now ≡ lower least (line_in pid from to (get_or lines i d)) → lower least (least_in pid from to (drop i lines)) ≡ total → lower now (least_in pid from to (drop (i + 1) lines)) ≡ total
line_step pid from to least now total lines i d less e so =
    ap (λ (o : Option LineNo). lower o (least_in pid from to (drop (i + 1) lines))) e
    ∙ lower_assoc least (line_in pid from to (get_or lines i d)) (least_in pid from to (drop (i + 1) lines))
    ∙ ap (λ (ls : List Held). lower least (least_in pid from to ls)) (sym (drop_more lines i d less))
    ∙ so

pub lines_end : (pid : Pid) (from to : LineNo) (least total : Option LineNo) (lines : List Held) (i : ℕ) → length lines ≤ i → lower least (least_in pid from to (drop i lines)) ≡ total → least ≡ total
lines_end pid from to least total lines i all so = sym (ap (λ (ls : List Held). lower least (least_in pid from to ls)) (drop_all i lines all) ∙ lower_none least) ∙ so

pub set_step : (pid : Pid) (from to : LineNo) (least now total : Option LineNo) (sets : List SetLines) (i : ℕ) (s : SetLines) → i < length sets → s ≡ get_or sets i s → now ≡ lower least (least_in pid from to s.lines) → lower least (least_of pid from to (drop i sets)) ≡ total → lower now (least_of pid from to (drop (i + 1) sets)) ≡ total
set_step pid from to least now total sets i s less is e so =
    ap (λ (o : Option LineNo). lower o (least_of pid from to (drop (i + 1) sets))) e
    ∙ lower_assoc least (least_in pid from to s.lines) (least_of pid from to (drop (i + 1) sets))
    ∙ ap (λ (x : SetLines). lower least (lower (least_in pid from to x.lines) (least_of pid from to (drop (i + 1) sets)))) is
    ∙ ap (λ (ss : List SetLines). lower least (least_of pid from to ss)) (sym (drop_more sets i s less))
    ∙ so

pub sets_end : (pid : Pid) (from to : LineNo) (least total : Option LineNo) (sets : List SetLines) (i : ℕ) → length sets ≤ i → lower least (least_of pid from to (drop i sets)) ≡ total → least ≡ total
sets_end pid from to least total sets i all so = sym (ap (λ (ss : List SetLines). lower least (least_of pid from to ss)) (drop_all i sets all) ∙ lower_none least) ∙ so
