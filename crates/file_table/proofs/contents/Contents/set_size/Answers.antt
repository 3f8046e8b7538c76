use Rattle.std.proofs.Common.{◌≡◌, ◌∙◌, ℕ, List, ap, is_some, map, subst, sym}
use Rattle.std.proofs.lemmas.Bool.{false≢true}
use Rattle.std.proofs.lemmas.Result.{on_err_weaker, on_ok_weaker}
use Rattle.std.specs.Cmp.{nat_eq_equiv}
use Rattle.lego_base.specs.Files.{File, file_bytes, is_file, with_file_bytes}
use Rattle.lego_base.specs.Pieces.{of_size}
use Rattle.file_table.specs.Entries.{file_of}
use Rattle.file_table.specs.Numbers.{NumbersRise}
use Rattle.file_table.proofs.Numbered.{bytes_found, changed, found, kept, rise_with}
use Rattle.file_table.proofs.contents.Contents.set_size.Goals as goal
use Rattle.file_table.proofs.contents.Contents.set_size.Goals.{After-self-in-Some-1}

pub unreachable-requires : goal.unreachable-requires
unreachable-requires c =
    absurd (false≢true (ap is_some c.in-None.ensures.value ∙ found _ c.args.file.0 (λ k. nat_eq_equiv.symm c.args.file.0 k.0) c.self.inside.files.entries
    ∙ ap (λ files. is_file files c.args.file.0) c.self.view_is ∙ c.requires))

-- the bytes that were there, and the files once they are others
was : (c : After-self-in-Some-1) → file_bytes (map file_of c.self.inside.files.entries) c.args.file.0 ≡ c.in-Some.bytes.now.items
was c = bytes_found _ c.args.file.0 (λ k. nat_eq_equiv.symm c.args.file.0 k.0) c.self.inside.files.entries c.in-Some.bytes.now (sym c.in-Some.ensures.value)

become : (c : After-self-in-Some-1) → map file_of (c.get_mut.follows.lender c.set_size.new.bytes).entries ≡ with_file_bytes (map file_of c.self.inside.files.entries) c.args.file.0 c.set_size.new.bytes.items
become c =
    ap (map file_of) (c.get_mut.follows.holds c.set_size.new.bytes).0
    ∙ changed _ c.args.file.0 (λ k. nat_eq_equiv.symm c.args.file.0 k.0) c.self.inside.files.entries c.set_size.new.bytes c.self.invariant

pub invariant_of-self : goal.invariant_of-self
invariant_of-self c =
    let P : List File → Type 0 = NumbersRise in
    subst P (sym (become c)) (rise_with c.args.file.0 c.set_size.new.bytes.items (map file_of c.self.inside.files.entries) c.self.invariant)

done : (c : After-self-in-Some-1) → c.set_size.new.bytes.items ≡ of_size c.args.size c.in-Some.bytes.now.items →
    map file_of (c.get_mut.follows.lender c.set_size.new.bytes).entries ≡ with_file_bytes c.args.self.now c.args.file.0 (of_size c.args.size (file_bytes c.args.self.now c.args.file.0))
done c e =
    let n = c.args.file.0 in
    let P : List ℕ → List ℕ = λ b. of_size c.args.size b in
    let Q : List File → List File = λ files. with_file_bytes files n (P (file_bytes files n)) in
    become c ∙ ap (with_file_bytes (map file_of c.self.inside.files.entries) n) (e ∙ ap P (sym (was c))) ∙ ap Q c.self.view_is

same : (c : After-self-in-Some-1) → c.set_size.new.bytes.items ≡ c.in-Some.bytes.now.items → map file_of (c.get_mut.follows.lender c.set_size.new.bytes).entries ≡ c.args.self.now
same c e =
    let files = map file_of c.self.inside.files.entries in
    become c ∙ ap (with_file_bytes files c.args.file.0) (e ∙ sym (was c)) ∙ kept c.args.file.0 files c.self.invariant ∙ c.self.view_is

pub returns-clause-ok : goal.returns-clause-ok
returns-clause-ok c = on_ok_weaker c.set_size.result (done c) c.set_size.ensures.ok

pub returns-clause-err : goal.returns-clause-err
returns-clause-err c = on_err_weaker c.set_size.result (same c) c.set_size.ensures.err
