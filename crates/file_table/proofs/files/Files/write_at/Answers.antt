use Rattle.std.proofs.Common.{◌≡◌, ◌+◌, ◌-◌, ◌<◌, ◌∙◌, List, ap, arith, false, length, refl, subst, sym, true}
use Rattle.lego_base.specs.Files.{File, file_bytes, is_file, with_file_bytes}
use Rattle.lego_base.specs.Pieces.{written_at}
use Rattle.lego_msg.specs.Files.{Files, is_room}
use Rattle.file_table.specs.Holds.{Holds}
use Rattle.file_table.specs.Numbers.{blocks_for, size_after}
use Rattle.file_table.proofs.Blocks.{file_fits, has_none, has_room, holds_after}
use Rattle.file_table.proofs.Pieces.{length-written}
use Rattle.file_table.proofs.files.Files.write_at.Goals as goal
use Rattle.file_table.proofs.files.Files.write_at.Goals.{After-self-1}

pub needed_after-requires-clause-counted : goal.needed_after-requires-clause-counted
needed_after-requires-clause-counted c =
    let fits = file_fits c.args.file.0 c.self.inside.contents c.get-size.ensures.rise in
    let same : blocks_for (length c.get-size.result.now) ≡ blocks_for (length (file_bytes c.self.inside.contents c.args.file.0)) = ap (λ b. blocks_for (length b)) c.get-size.ensures.bytes in
    let counted = c.self.invariant.counted in
    omega (arith, fits, same, counted)

-- the new bytes of the file have the size
size : (c : After-self-1) → length (written_at (file_bytes c.self.inside.contents c.args.file.0) c.args.off c.args.bytes.now) ≡ c.size_after-after.result
size c = length-written (file_bytes c.self.inside.contents c.args.file.0) c.args.off c.args.bytes.now ∙ ap (λ b. size_after (length b) c.args.off (length c.args.bytes.now)) (sym c.get-size.ensures.bytes) ∙ sym c.size_after-after.ensures

there : (c : After-self-1) → is_file c.self.inside.contents c.args.file.0 ≡ true
there c = ap (λ (f : Files). is_file f.files c.args.file.0) c.self.view_is ∙ c.requires.there

-- the blocks that were found
after : (c : After-self-1) → c.in-Some.needed ≡ c.self.inside.needed - blocks_for (length (file_bytes c.self.inside.contents c.args.file.0)) + blocks_for c.size_after-after.result
after c = c.in-Some.ensures.0 ∙ ap (λ b. c.self.inside.needed - blocks_for (length b) + blocks_for c.size_after-after.result) c.get-size.ensures.bytes

pub returns-in_default : goal.returns-in_default
returns-in_default c =
    let f : Files = record { blocks = c.self.inside.blocks; files = c.self.inside.contents; names = c.self.inside.names; next = c.self.inside.next } in
    let there : is_file f.files c.args.file.0 ≡ true = ap (λ (g : Files). is_file g.files c.args.file.0) c.self.view_is ∙ c.requires.there in
    let size : length (written_at (file_bytes c.self.inside.contents c.args.file.0) c.args.off c.args.bytes.now) ≡ c.size_after-after.result = length-written (file_bytes c.self.inside.contents c.args.file.0) c.args.off c.args.bytes.now ∙ ap (λ b. size_after (length b) c.args.off (length c.args.bytes.now)) (sym c.get-size.ensures.bytes) ∙ sym c.size_after-after.ensures in
    let many : f.blocks < c.self.inside.needed - blocks_for (length (file_bytes c.self.inside.contents c.args.file.0)) + blocks_for c.size_after-after.result = subst (λ b. f.blocks < c.self.inside.needed - blocks_for (length b) + blocks_for c.size_after-after.result) c.get-size.ensures.bytes c.in_default.ensures in
    let Q : Files → Type 0 = λ g. is_room g (with_file_bytes g.files c.args.file.0 (written_at (file_bytes g.files c.args.file.0) c.args.off c.args.bytes.now)) ≡ false in
    (subst Q c.self.view_is (has_none f c.args.file.0 (written_at (file_bytes c.self.inside.contents c.args.file.0) c.args.off c.args.bytes.now) c.self.inside.needed c.size_after-after.result c.get-size.ensures.rise there c.self.invariant.counted size many), refl)

pub invariant_of-self-2 : goal.invariant_of-self-2
invariant_of-self-2 c =
    let f : Files = record { blocks = c.self.inside.blocks; files = c.self.inside.contents; names = c.self.inside.names; next = c.self.inside.next } in
    let P : List File → Type 0 = Holds c.self.inside.blocks c.in-Some.needed c.self.inside.next in
    subst P (sym c.in_ok-write_at.ensures.ok)
    (holds_after f c.args.file.0 (written_at (file_bytes c.self.inside.contents c.args.file.0) c.args.off c.args.bytes.now) c.self.inside.needed c.size_after-after.result c.get-size.ensures.rise (there c) c.self.invariant.counted (size c) c.in-Some.needed (after c) c.in-Some.ensures.1 c.self.invariant.new)

pub returns : goal.returns
returns c =
    let f : Files = record { blocks = c.self.inside.blocks; files = c.self.inside.contents; names = c.self.inside.names; next = c.self.inside.next } in
    let b = written_at (file_bytes c.self.inside.contents c.args.file.0) c.args.off c.args.bytes.now in
    let room = has_room f c.args.file.0 b c.self.inside.needed c.size_after-after.result c.get-size.ensures.rise (there c) c.self.invariant.counted (size c) c.in-Some.needed (after c) c.in-Some.ensures.1 in
    let Q : Files → Type 0 = λ g. (is_room g (with_file_bytes g.files c.args.file.0 (written_at (file_bytes g.files c.args.file.0) c.args.off c.args.bytes.now)) ≡ true)
    × (record f { files = c.write_at.new.self } ≡ record g { files = with_file_bytes g.files c.args.file.0 (written_at (file_bytes g.files c.args.file.0) c.args.off c.args.bytes.now) }) in
    subst Q c.self.view_is (room, λ i. record f { files = c.in_ok-write_at.ensures.ok i })
