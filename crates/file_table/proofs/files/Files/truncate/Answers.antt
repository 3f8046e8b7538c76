use Rattle.std.proofs.Common.{◌≡◌, ◌+◌, ◌-◌, ◌<◌, ◌∙◌, List, ap, arith, false, length, refl, subst, sym, true}
use Rattle.lego_base.specs.Files.{File, file_bytes, is_file, with_file_bytes}
use Rattle.lego_base.specs.Pieces.{of_size}
use Rattle.lego_msg.specs.Files.{Files, is_room}
use Rattle.file_table.specs.Holds.{Holds}
use Rattle.file_table.specs.Numbers.{blocks_for}
use Rattle.file_table.proofs.Blocks.{file_fits, has_none, has_room, holds_after}
use Rattle.file_table.proofs.Pieces.{length-of_size}
use Rattle.file_table.proofs.files.Files.truncate.Goals as goal
use Rattle.file_table.proofs.files.Files.truncate.Goals.{After-self-1}

pub needed_after-requires-clause-counted : goal.needed_after-requires-clause-counted
needed_after-requires-clause-counted c =
    let fits = file_fits c.args.file.0 c.self.inside.contents c.get-before.ensures.rise in
    let same : blocks_for (length c.get-before.result.now) ≡ blocks_for (length (file_bytes c.self.inside.contents c.args.file.0)) = ap (λ b. blocks_for (length b)) c.get-before.ensures.bytes in
    let counted = c.self.invariant.counted in
    omega (arith, fits, same, counted)

-- the new bytes of the file have the size
size : (c : After-self-1) → length (of_size c.args.size (file_bytes c.self.inside.contents c.args.file.0)) ≡ c.args.size
size c = length-of_size c.args.size (file_bytes c.self.inside.contents c.args.file.0)

there : (c : After-self-1) → is_file c.self.inside.contents c.args.file.0 ≡ true
there c = ap (λ (f : Files). is_file f.files c.args.file.0) c.self.view_is ∙ c.requires.there

-- the blocks that were found
after : (c : After-self-1) → c.in-Some.needed ≡ c.self.inside.needed - blocks_for (length (file_bytes c.self.inside.contents c.args.file.0)) + blocks_for c.args.size
after c = c.in-Some.ensures.0 ∙ ap (λ b. c.self.inside.needed - blocks_for (length b) + blocks_for c.args.size) c.get-before.ensures.bytes

pub returns-in_default : goal.returns-in_default
returns-in_default c =
    let f : Files = record { blocks = c.self.inside.blocks; files = c.self.inside.contents; names = c.self.inside.names; next = c.self.inside.next } in
    let there : is_file f.files c.args.file.0 ≡ true = ap (λ (g : Files). is_file g.files c.args.file.0) c.self.view_is ∙ c.requires.there in
    let size : length (of_size c.args.size (file_bytes c.self.inside.contents c.args.file.0)) ≡ c.args.size = length-of_size c.args.size (file_bytes c.self.inside.contents c.args.file.0) in
    let many : f.blocks < c.self.inside.needed - blocks_for (length (file_bytes c.self.inside.contents c.args.file.0)) + blocks_for c.args.size = subst (λ b. f.blocks < c.self.inside.needed - blocks_for (length b) + blocks_for c.args.size) c.get-before.ensures.bytes c.in_default.ensures in
    let Q : Files → Type 0 = λ g. is_room g (with_file_bytes g.files c.args.file.0 (of_size c.args.size (file_bytes g.files c.args.file.0))) ≡ false in
    (subst Q c.self.view_is (has_none f c.args.file.0 (of_size c.args.size (file_bytes c.self.inside.contents c.args.file.0)) c.self.inside.needed c.args.size c.get-before.ensures.rise there c.self.invariant.counted size many), refl)

pub invariant_of-self-2 : goal.invariant_of-self-2
invariant_of-self-2 c =
    let f : Files = record { blocks = c.self.inside.blocks; files = c.self.inside.contents; names = c.self.inside.names; next = c.self.inside.next } in
    let P : List File → Type 0 = Holds c.self.inside.blocks c.in-Some.needed c.self.inside.next in
    subst P (sym c.in_ok-set_size.ensures.ok)
    (holds_after f c.args.file.0 (of_size c.args.size (file_bytes c.self.inside.contents c.args.file.0)) c.self.inside.needed c.args.size c.get-before.ensures.rise (there c) c.self.invariant.counted (size c) c.in-Some.needed (after c) c.in-Some.ensures.1 c.self.invariant.new)

pub returns : goal.returns
returns c =
    let f : Files = record { blocks = c.self.inside.blocks; files = c.self.inside.contents; names = c.self.inside.names; next = c.self.inside.next } in
    let b = of_size c.args.size (file_bytes c.self.inside.contents c.args.file.0) in
    let room = has_room f c.args.file.0 b c.self.inside.needed c.args.size c.get-before.ensures.rise (there c) c.self.invariant.counted (size c) c.in-Some.needed (after c) c.in-Some.ensures.1 in
    let Q : Files → Type 0 = λ g. (is_room g (with_file_bytes g.files c.args.file.0 (of_size c.args.size (file_bytes g.files c.args.file.0))) ≡ true)
    × (record f { files = c.set_size.new.self } ≡ record g { files = with_file_bytes g.files c.args.file.0 (of_size c.args.size (file_bytes g.files c.args.file.0)) }) in
    subst Q c.self.view_is (room, λ i. record f { files = c.in_ok-set_size.ensures.ok i })
