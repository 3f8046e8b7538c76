use Rattle.std.proofs.Common.{◌≡◌, ◌≤◌, [], ◌∷◌, ◌++◌, ◌∙◌, ℕ, Bool, Global, List, None, Option, ap, arith, insert, is_some, length, map, not, position, sym, unwrap_or}
use Rattle.std.proofs.lemmas.Bool.{false≢true}
use Rattle.std.proofs.lemmas.List.{length-map}
use Rattle.std.proofs.lemmas.List.Sums.{prefix_len-le-length}
use Rattle.std.specs.List.{position_or_len}
use Rattle.std.specs.Map.{keys_of, lookup}
use Rattle.std.specs.Str.{bytes_eq}
use Rattle.std.specs.declared.vec.Vec.{Vec}
use Rattle.indexmap.specs.IndexMap.{move_index}
use Rattle.indexmap.proofs.CallerLemmas.{insert_entry-new}
use Rattle.indexmap.proofs.MapLemmas.{absent_from_lookup, or_len-absent}
use Rattle.indexmap.proofs.MoveLemmas.{push_moved}
use Rattle.lego_base.specs.Files.{is_before, named, with_name}
use Rattle.lego_base.specs.declared.ids.FileNo.{FileNo}
use Rattle.lego_base.specs.declared.records.NameEntry.{NameEntry}
use Rattle.file_table.specs.Entries.{name_of}
use Rattle.file_table.proofs.Named.{name_found, name_put, place_is}
use Rattle.file_table.proofs.names.Names.add.Goals as goal

-- no entry has the name
absent : (key name : List ℕ) (es : List (Vec ℕ Global × FileNo)) (names : List NameEntry) → key ≡ name → map name_of es ≡ names → named names name ≡ None → lookup (λ k. bytes_eq key k.items) es ≡ None
absent key name es names is view none = name_found key es ∙ ap (named (map name_of es)) is ∙ ap (λ n. named n name) view ∙ none

-- where the name is put
place : (name : List ℕ) (keys : List (Vec ℕ Global)) (es : List (Vec ℕ Global × FileNo)) (found : Option ℕ) (at : ℕ) → keys ≡ keys_of es → found ≡ position (λ (k : Vec ℕ Global). is_before name k.items) keys →
    at ≡ unwrap_or found (length es) → at ≡ position_or_len (λ (k : Vec ℕ Global). is_before name k.items) (keys_of es)
place name keys es found at of is at_is =
    let p : Vec ℕ Global → Bool = λ k. is_before name k.items in
    let size : length (keys_of es) ≡ length es = length-map es (λ (e : Vec ℕ Global × FileNo). e.0) in
    at_is ∙ ap (λ o. unwrap_or o (length es)) (is ∙ ap (position p) of) ∙ ap (unwrap_or (position p (keys_of es))) (sym size) ∙ place_is p (keys_of es)

pub shift_insert-requires-clause-below_len : goal.shift_insert-requires-clause-below_len
shift_insert-requires-clause-below_len c =
    let none = absent c.in_ok-key.key.items c.args.name.now c.self.inside.entries.entries c.args.self.now c.in_ok-key.ensures.items c.self.view_is c.requires in
    λ there. absurd (false≢true (sym (ap is_some none) ∙ there))

pub returns-clause-ok : goal.returns-clause-ok
returns-clause-ok c =
    let m = c.self.inside.entries in
    let es = m.entries in
    let key = c.in_ok-key.key in
    let eq : Vec ℕ Global → Vec ℕ Global → Bool = λ a b. bytes_eq a.items b.items in
    let p : List ℕ → Vec ℕ Global → Bool = λ name k. is_before name k.items in
    let none = absent key.items c.args.name.now es c.args.self.now c.in_ok-key.ensures.items c.self.view_is c.requires in
    let at = place c.args.name.now c.as_slice.result.now es c.first_after.result c.unwrap_or-place.result (c.as_slice.ensures ∙ c.keys.ensures.rest) c.first_after.ensures (c.unwrap_or-place.ensures ∙ ap (unwrap_or c.first_after.result) c.len.ensures.len) in
    let within : c.unwrap_or-place.result ≤ length es = omega (arith, at, prefix_len-le-length (λ k. not (p c.args.name.now k)) (keys_of es), length-map es (λ (e : Vec ℕ Global × FileNo). e.0)) in
    ap (map name_of) (c.in_ok-shift_insert.ensures.entries
    ∙ ap (λ l. move_index l (position_or_len (eq key) (keys_of es)) c.unwrap_or-place.result) (insert_entry-new eq m key c.args.file none)
    ∙ ap (λ n. move_index (es ++ (key, c.args.file) ∷ []) n c.unwrap_or-place.result) (or_len-absent (eq key) es (absent_from_lookup (eq key) es none))
    ∙ push_moved es (key, c.args.file) c.unwrap_or-place.result within
    ∙ ap (λ n. insert es n (key, c.args.file)) (at ∙ ap (λ name. position_or_len (p name) (keys_of es)) (sym c.in_ok-key.ensures.items)))
    ∙ name_put (key, c.args.file) es
    ∙ ap (λ name. with_name (record { name = name; file = c.args.file }) (map name_of es)) c.in_ok-key.ensures.items
    ∙ ap (with_name (record { name = c.args.name.now; file = c.args.file })) c.self.view_is
