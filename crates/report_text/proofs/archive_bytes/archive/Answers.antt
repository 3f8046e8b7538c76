use Rattle.std.proofs.Common.{◌≡◌, ◌∙◌, ℕ, List, ◌++◌, length, map, ap, rules}
use Rattle.std.specs.Prelude.{codes}
use Rattle.lego_base.specs.Space.{bytes_of}
use Rattle.report_text.specs.Archive.{by_name}
use Rattle.report_text.proofs.Appended.{names_fit, archive_is, four_bytes}
use Rattle.report_text.proofs.archive_bytes.archive.Goals as goal

pub push_files-requires : goal.push_files-requires
push_files-requires c =
    let is : map (λ file. file.now) c.as_slice-3.result.now ≡ by_name c.args.files.now = ap (λ files. map (λ file. file.now) files) c.as_slice-3.ensures.value ∙ c.in_ok-sorted.ensures in
    names_fit (λ file. file.now) c.args.files.now c.as_slice-3.result.now is c.requires.names

pub returns : goal.returns
returns c =
    let is : map (λ file. file.now) c.as_slice-3.result.now ≡ by_name c.args.files.now = ap (λ files. map (λ file. file.now) files) c.as_slice-3.ensures.value ∙ c.in_ok-sorted.ensures in
    let mark : c.as_slice.result.now ≡ codes "LEGOARC1" = search rules in
    let count : c.as_slice-2.result.now ≡ bytes_of 4 (length c.args.files.now) = c.as_slice-2.ensures ∙ c.to_le_bytes.ensures ∙ four_bytes (length c.args.files.now) in
    let first : c.push.new.bytes.items ≡ c.as_slice.result.now = c.in_ok-push.ensures ∙ ap (λ (b : List ℕ). b ++ c.as_slice.result.now) c.new-bytes.ensures.items in
    c.in_ok-archive.ensures ∙ archive_is c.args.files.now (map (λ file. file.now) c.as_slice-3.result.now) c.as_slice.result.now c.as_slice-2.result.now _ _ _ mark count is first c.in_ok-push-2.ensures c.in_ok-push_files.ensures
