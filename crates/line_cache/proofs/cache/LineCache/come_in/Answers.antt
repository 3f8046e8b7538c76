use Rattle.std.proofs.Common.{◌≡◌, ◌<◌, ◌∙◌, ap, arith, length, set, subst, sym, ℕ}
use Rattle.std.proofs.lemmas.List.{length-set}
use Rattle.cache_tags.specs.Sets.{Tagged}
use Rattle.cache_tags.specs.Tags.{touch_of, touched}
use Rattle.line_cache.proofs.Fitting.{touch-fits, touched-fits}
use Rattle.line_cache.specs.Cached.{slot_of_touch}
use Rattle.line_cache.specs.Fits.{SetsFit}
use Rattle.line_cache.proofs.cache.LineCache.come_in.Goals as goal

pub index_mut-requires : goal.index_mut-requires
index_mut-requires c =
    let is : c.slot_of-slot.result ≡ slot_of_touch (touch_of c.args.pid c.args.line c.self.inside.tags) = c.slot_of-slot.ensures ∙ ap slot_of_touch c.touch-touch.ensures.answer in
    let fits = touch-fits (length c.self.inside.lines.items) c.args.pid c.args.line c.self.inside.tags c.self.invariant.fits in
    omega (arith, fits, is)

pub invariant_of-self : goal.invariant_of-self
invariant_of-self c = record {
  fits =
      subst (λ (t : Tagged). SetsFit (length (set c.self.inside.lines.items c.slot_of-slot.result c.args.kept.now)) t.sets) (sym c.touch-touch.ensures.after)
      (subst (λ (n : ℕ). SetsFit n (touched c.args.pid c.args.line c.self.inside.tags).sets) (sym (length-set c.self.inside.lines.items c.slot_of-slot.result c.args.kept.now))
      (touched-fits (length c.self.inside.lines.items) c.args.pid c.args.line c.self.inside.tags c.self.invariant.fits));
  hand = λ some. absurd (omega (arith, some));
}

pub returns-clause-within : goal.returns-clause-within
returns-clause-within c =
    let is : c.slot_of-slot.result ≡ slot_of_touch (touch_of c.args.pid c.args.line c.self.inside.tags) = c.slot_of-slot.ensures ∙ ap slot_of_touch c.touch-touch.ensures.answer in
    subst (λ (n : ℕ). c.slot_of-slot.result < n) (sym (length-set c.self.inside.lines.items c.slot_of-slot.result c.args.kept.now))
    (subst (λ (slot : ℕ). slot < length c.self.inside.lines.items) (sym is)
    (touch-fits (length c.self.inside.lines.items) c.args.pid c.args.line c.self.inside.tags c.self.invariant.fits))
