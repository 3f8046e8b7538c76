use Rattle.space_rules.proofs.Strings.{stack_is, stack_within, written}
use Rattle.std.proofs.Common.{◌≡◌, ◌++◌, ◌∙◌, sym, ap, subst, List, ℕ}
use Rattle.std.specs.Prelude.{flat_map}
use Rattle.lego_base.specs.Space.{bytes_of}
use Rattle.space_rules.specs.Start.{sp_of, stack_bytes}
use Rattle.space_rules.specs.Standing.{IsWithinStack}
use Rattle.space_rules.proofs.stack.build.Goals as goal

pub returns : goal.returns
returns c =
    let layout = c.lay_out-layout.result in
    let is = c.lay_out-layout.ensures in
    let bytes : c.in_ok-bytes-2.bytes ≡ stack_bytes c.args.args.now c.args.env.now c.args.entry =
    c.in_ok-bytes-2.ensures ∙ written _ _ _ _ _ _ _ _ _ _ _ _ _ _ _ _ _ _ _ c.in_ok-bytes.ensures.items c.in_ok-push_word.ensures c.in_ok-push_addresses.ensures c.in_ok-push_word-2.ensures c.in_ok-push_addresses-2.ensures c.in_ok-push_word-3.ensures (c.in_ok-push_words.ensures ∙ ap (λ (w : List ℕ). c.push_word-3.new.bytes.items ++ flat_map (bytes_of 8) w) c.as_slice.ensures) c.in_ok-push_zeros.ensures c.in_ok-push_strings.ensures c.in_ok-push_strings-2.ensures ∙ stack_is c.args.args.now c.args.env.now c.args.entry layout.strings layout.env layout.gap is.strings is.env_strings is.gap in
    record {
      sp = is.sp;
      bytes = bytes;
      within = let both : IsWithinStack (sp_of c.args.args.now c.args.env.now) (stack_bytes c.args.args.now c.args.env.now c.args.entry) = stack_within c.args.args.now c.args.env.now c.args.entry c.requires in
          subst (λ (sp : ℕ). IsWithinStack sp c.in_ok-bytes-2.bytes) (sym is.sp) (subst (λ (b : List ℕ). IsWithinStack (sp_of c.args.args.now c.args.env.now) b) (sym bytes) both);
    }
