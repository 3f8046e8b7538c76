use Rattle.std.proofs.Common.{◌≡◌, ◌-◌, ◌∙◌, List, ap, arith, cond, false, length, subst, sym}
use Rattle.lego_base.specs.Files.{File, file_bytes, has_name, is_file, without_file}
use Rattle.lego_msg.specs.Files.{Files, freed}
use Rattle.file_table.specs.Holds.{Holds}
use Rattle.file_table.specs.Numbers.{blocks_for}
use Rattle.file_table.proofs.Blocks.{file_fits, holds_without}
use Rattle.file_table.proofs.Numbered.{without_absent}
use Rattle.file_table.proofs.files.Files.free.Goals as goal
use Rattle.file_table.proofs.files.Files.free.Goals.{After-blocks_for}

-- a file that isn't there
pub returns-then-not-has : goal.returns-then-not-has
returns-then-not-has c =
    let f : Files = record { blocks = c.self.inside.blocks; files = c.self.inside.contents; names = c.self.inside.names; next = c.self.inside.next } in
    let nameless : has_name f.names c.args.file.0 ≡ false = sym c.if-has.ensures in
    let absent : is_file f.files c.args.file.0 ≡ false = sym c.if-not-has.ensures in
    let P : Files → Type 0 = λ g. g ≡ freed g c.args.file.0 in
    subst P c.self.view_is (sym (ap (λ b. cond b f (record f { files = without_file c.args.file.0 f.files })) nameless ∙ (λ i. record f { files = without_absent c.args.file.0 f.files absent i })))

blocks : (c : After-blocks_for) → c.blocks_for.result ≡ blocks_for (length (file_bytes c.self.inside.contents c.args.file.0))
blocks c = c.blocks_for.ensures ∙ ap (λ b. blocks_for (length b)) c.get.ensures.bytes

pub overflow_sub-self : goal.overflow_sub-self
overflow_sub-self c =
    let fits = file_fits c.args.file.0 c.self.inside.contents c.get.ensures.rise in
    let same = blocks c in
    let counted = c.self.invariant.counted in
    omega (arith, fits, same, counted)

pub invariant_of-self : goal.invariant_of-self
invariant_of-self c =
    let same : c.blocks_for.result ≡ blocks_for (length (file_bytes c.self.inside.contents c.args.file.0)) = c.blocks_for.ensures ∙ ap (λ b. blocks_for (length b)) c.get.ensures.bytes in
    let held = holds_without c.self.inside.blocks c.self.inside.needed c.self.inside.next c.args.file.0 c.self.inside.contents c.get.ensures.rise c.self.invariant in
    let P : List File → Type 0 = Holds c.self.inside.blocks (c.self.inside.needed - c.blocks_for.result) c.self.inside.next in
    subst P (sym c.remove.ensures) (subst (λ k. Holds c.self.inside.blocks (c.self.inside.needed - k) c.self.inside.next (without_file c.args.file.0 c.self.inside.contents)) (sym same) held)
