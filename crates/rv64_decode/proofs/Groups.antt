-- What the table holds for each opcode, in the words of the functions for one opcode.
use Rattle.std.proofs.Common.{ℕ, ◌≡◌, ◌≢◌, ◌==◌, ◌&&◌, Bool, true, false, cond, List, [], ◌∷◌, Option, Some, None, map, refl, ap, sym, ◌∙◌, ◌⊎◌, inl, inr}
use Rattle.std.specs.List.{find, list_all, list_any}
use Rattle.std.specs.Option.{option_map}
use Rattle.std.proofs.lemmas.Bool.{ne_eqb, and_parts, and_left, cond-false, false≢true}
use Rattle.rv64_decode.specs.declared.Instr.{Instr}
use Rattle.rv64_decode.specs.declared.Op.{Op}
use Rattle.rv64_decode.specs.declared.Op.TheVariants.{Lui, Auipc, Jal}
use Rattle.rv64_decode.specs.Encoding.{field, immediate}
use Rattle.rv64_decode.specs.Table.{Fixed, nothing, funct3, funct6, funct7, others, Row, table, row_of, decoded, with_registers, indirect_jumps, branches, loads, stores, constants, shifts, registers, word_constants, word_shifts, word_registers, fences, systems}
use Rattle.rv64_decode.specs.Leaves.{funct3_of, upper_of, op_by_funct3, op_by_both, op_by_others, format_of, of_word}

-- `fits`, in the numbers that it takes from a word
abbrev pub has_at : ℕ → ℕ → ℕ → ℕ → Fixed → Bool
has_at f3 f6 f7 rest nothing = true
has_at f3 f6 f7 rest (funct3 a) = f3 == a
has_at f3 f6 f7 rest (funct6 a b) = f3 == a && f6 == b
has_at f3 f6 f7 rest (funct7 a b) = f3 == a && f7 == b
has_at f3 f6 f7 rest (others a) = rest == a

abbrev pub fits_at : ℕ → ℕ → ℕ → Row → Bool
fits_at word opcode f3 row = opcode == row.opcode && has_at f3 (field 26 6 word) (field 25 7 word) (field 7 25 word) row.fixed

abbrev pub instr_of : ℕ → Row → Instr
instr_of word row = with_registers word row.op (immediate row.format word)

-- the instruction that a table gives at these numbers
abbrev pub given : ℕ → ℕ → ℕ → Option Instr
given word opcode f3 = option_map (instr_of word) (find (fits_at word opcode f3) table)

pub decoded-given : (w o f3 : ℕ) → o ≡ field 0 7 w → f3 ≡ field 12 3 w → decoded w ≡ given w o f3
unfolding decoded row_of table
decoded-given w o f3 at_o at_f3 = sym (ap (λ n. given w n f3) at_o ∙ ap (given w (field 0 7 w)) at_f3)

-- an operation as the instruction of a word
abbrev pub named : ℕ → Option Op → Option Instr
named word op = option_map (of_word word) op

-- a group by its operations, each of which has its row's format
by_op : (w : ℕ) (p : Row → Bool) (rows : List Row) → map (λ r. r.format) rows ≡ map (λ r. format_of r.op) rows
    → option_map (instr_of w) (find p rows) ≡ named w (option_map (λ r. r.op) (find p rows))
by_op w p [] same = refl
by_op w p (r ∷ rows) same =
    let here : r.format ≡ format_of r.op = cc in
    let later : map (λ s. s.format) rows ≡ map (λ s. format_of s.op) rows = cc in
    elim (p r) as (λ b. option_map (instr_of w) (cond b (Some r) (find p rows)) ≡ named w (option_map (λ s. s.op) (cond b (Some r) (find p rows))))
    [ true ↦ ap (λ f. Some (with_registers w r.op (immediate f w))) here | false ↦ by_op w p rows later ]

-- an opcode with one row
pub upper_case : (w o f3 : ℕ) → o ≡ 0x37 → given w o f3 ≡ named w (Some Lui)
unfolding table
upper_case w o f3 e = ap (λ n. given w n f3) e

pub pc_upper_case : (w o f3 : ℕ) → o ≡ 0x17 → given w o f3 ≡ named w (Some Auipc)
unfolding table
pc_upper_case w o f3 e = ap (λ n. given w n f3) e

pub jump_case : (w o f3 : ℕ) → o ≡ 0x6f → given w o f3 ≡ named w (Some Jal)
unfolding table
jump_case w o f3 e = ap (λ n. given w n f3) e

-- an opcode told apart by funct3
pub indirect_jump_case : (w o f3 : ℕ) → o ≡ 0x67 → given w o f3 ≡ named w (op_by_funct3 indirect_jumps f3)
unfolding table
indirect_jump_case w o f3 e = ap (λ n. given w n f3) e ∙ by_op w (λ r. f3 == funct3_of r.fixed) indirect_jumps refl

pub branch_case : (w o f3 : ℕ) → o ≡ 0x63 → given w o f3 ≡ named w (op_by_funct3 branches f3)
unfolding table
branch_case w o f3 e = ap (λ n. given w n f3) e ∙ by_op w (λ r. f3 == funct3_of r.fixed) branches refl

pub load_case : (w o f3 : ℕ) → o ≡ 0x03 → given w o f3 ≡ named w (op_by_funct3 loads f3)
unfolding table
load_case w o f3 e = ap (λ n. given w n f3) e ∙ by_op w (λ r. f3 == funct3_of r.fixed) loads refl

pub store_case : (w o f3 : ℕ) → o ≡ 0x23 → given w o f3 ≡ named w (op_by_funct3 stores f3)
unfolding table
store_case w o f3 e = ap (λ n. given w n f3) e ∙ by_op w (λ r. f3 == funct3_of r.fixed) stores refl

pub fence_case : (w o f3 : ℕ) → o ≡ 0x0f → given w o f3 ≡ named w (op_by_funct3 fences f3)
unfolding table
fence_case w o f3 e = ap (λ n. given w n f3) e ∙ by_op w (λ r. f3 == funct3_of r.fixed) fences refl

-- an opcode told apart by funct3 and funct7, or by all bits above it
pub register_case : (w o f3 f7 : ℕ) → o ≡ 0x33 → f7 ≡ field 25 7 w → given w o f3 ≡ named w (op_by_both registers f3 f7)
unfolding table
register_case w o f3 f7 e upper =
    ap (λ n. given w n f3) e ∙ by_op w (λ r. f3 == funct3_of r.fixed && field 25 7 w == upper_of r.fixed) registers refl
    ∙ ap (λ n. named w (op_by_both registers f3 n)) (sym upper)

pub word_register_case : (w o f3 f7 : ℕ) → o ≡ 0x3b → f7 ≡ field 25 7 w → given w o f3 ≡ named w (op_by_both word_registers f3 f7)
unfolding table
word_register_case w o f3 f7 e upper =
    ap (λ n. given w n f3) e ∙ by_op w (λ r. f3 == funct3_of r.fixed && field 25 7 w == upper_of r.fixed) word_registers refl
    ∙ ap (λ n. named w (op_by_both word_registers f3 n)) (sym upper)

pub system_case : (w o f3 rest : ℕ) → o ≡ 0x73 → rest ≡ field 7 25 w → given w o f3 ≡ named w (op_by_others systems rest)
unfolding table
system_case w o f3 rest e above =
    ap (λ n. given w n f3) e ∙ by_op w (λ r. field 7 25 w == upper_of r.fixed) systems refl
    ∙ ap (λ n. named w (op_by_others systems n)) (sym above)

-- an opcode with shifts at funct3 1 and 5, and constants at the others
shift_at : (w : ℕ) → given w 0x13 1 ≡ named w (op_by_both shifts 1 (field 26 6 w))
unfolding table
shift_at w = by_op w (λ r. 1 == funct3_of r.fixed && field 26 6 w == upper_of r.fixed) shifts refl

shift_right_at : (w : ℕ) → given w 0x13 5 ≡ named w (op_by_both shifts 5 (field 26 6 w))
unfolding table
shift_right_at w = by_op w (λ r. 5 == funct3_of r.fixed && field 26 6 w == upper_of r.fixed) shifts refl

pub shift_case : (w o f3 f6 : ℕ) → o ≡ 0x13 → (f3 ≡ 1) ⊎ (f3 ≡ 5) → f6 ≡ field 26 6 w → given w o f3 ≡ named w (op_by_both shifts f3 f6)
shift_case w o f3 f6 e (inl one) upper = rw (e, one, upper) (shift_at w)
shift_case w o f3 f6 e (inr five) upper = rw (e, five, upper) (shift_right_at w)

constant_at : (w f3 : ℕ) → (f3 == 1) ≡ false → (f3 == 5) ≡ false → given w 0x13 f3 ≡ named w (op_by_funct3 constants f3)
unfolding table
constant_at w f3 not1 not5 = simp (not1, not5) (by_op w (λ r. f3 == funct3_of r.fixed) constants refl)

pub constant_case : (w o f3 : ℕ) → o ≡ 0x13 → f3 ≢ 1 → f3 ≢ 5 → given w o f3 ≡ named w (op_by_funct3 constants f3)
constant_case w o f3 e not1 not5 = ap (λ n. given w n f3) e ∙ constant_at w f3 (ne_eqb f3 1 not1) (ne_eqb f3 5 not5)

word_shift_at : (w : ℕ) → given w 0x1b 1 ≡ named w (op_by_both word_shifts 1 (field 25 7 w))
unfolding table
word_shift_at w = by_op w (λ r. 1 == funct3_of r.fixed && field 25 7 w == upper_of r.fixed) word_shifts refl

word_shift_right_at : (w : ℕ) → given w 0x1b 5 ≡ named w (op_by_both word_shifts 5 (field 25 7 w))
unfolding table
word_shift_right_at w = by_op w (λ r. 5 == funct3_of r.fixed && field 25 7 w == upper_of r.fixed) word_shifts refl

pub word_shift_case : (w o f3 f7 : ℕ) → o ≡ 0x1b → (f3 ≡ 1) ⊎ (f3 ≡ 5) → f7 ≡ field 25 7 w → given w o f3 ≡ named w (op_by_both word_shifts f3 f7)
word_shift_case w o f3 f7 e (inl one) upper = rw (e, one, upper) (word_shift_at w)
word_shift_case w o f3 f7 e (inr five) upper = rw (e, five, upper) (word_shift_right_at w)

word_constant_at : (w f3 : ℕ) → (f3 == 1) ≡ false → (f3 == 5) ≡ false → given w 0x1b f3 ≡ named w (op_by_funct3 word_constants f3)
unfolding table
word_constant_at w f3 not1 not5 = simp (not1, not5) (by_op w (λ r. f3 == funct3_of r.fixed) word_constants refl)

pub word_constant_case : (w o f3 : ℕ) → o ≡ 0x1b → f3 ≢ 1 → f3 ≢ 5 → given w o f3 ≡ named w (op_by_funct3 word_constants f3)
word_constant_case w o f3 e not1 not5 = ap (λ n. given w n f3) e ∙ word_constant_at w f3 (ne_eqb f3 1 not1) (ne_eqb f3 5 not5)

-- an opcode with no row
abbrev pub opcodes : List ℕ
opcodes = 0x37 ∷ 0x17 ∷ 0x6f ∷ 0x67 ∷ 0x63 ∷ 0x03 ∷ 0x23 ∷ 0x13 ∷ 0x33 ∷ 0x1b ∷ 0x3b ∷ 0x0f ∷ 0x73 ∷ []

no_row : (w o f3 : ℕ) (rows : List Row) → list_all (λ r. list_any (λ n. r.opcode == n) opcodes) rows ≡ true → list_any (λ n. o == n) opcodes ≡ false
    → find (fits_at w o f3) rows ≡ None
no_row w o f3 [] known other = refl
no_row w o f3 (r ∷ rows) known other =
    let parts = and_parts (list_any (λ n. r.opcode == n) opcodes) (list_all (λ s. list_any (λ n. s.opcode == n) opcodes) rows) known in
    let apart : o ≢ r.opcode = λ same. false≢true (sym other ∙ ap (λ m. list_any (λ n. m == n) opcodes) same ∙ parts.0) in
    let misses : fits_at w o f3 r ≡ false = and_left (o == r.opcode) (has_at f3 (field 26 6 w) (field 25 7 w) (field 7 25 w) r.fixed) (ne_eqb o r.opcode apart) in
    cond-false (fits_at w o f3 r) (Some r) (find (fits_at w o f3) rows) misses ∙ no_row w o f3 rows parts.1 other

pub none_case : (w o f3 : ℕ) → list_any (λ n. o == n) opcodes ≡ false → given w o f3 ≡ None
unfolding table
none_case w o f3 other = ap (option_map (instr_of w)) (no_row w o f3 table refl other)

-- what the function of an opcode answers is the table's
pub joined : (w o f3 : ℕ) (expected op : Option Op) → o ≡ field 0 7 w → f3 ≡ field 12 3 w → given w o f3 ≡ named w expected → op ≡ expected → named w op ≡ decoded w
joined w o f3 expected op at_o at_f3 row name = ap (named w) name ∙ sym (decoded-given w o f3 at_o at_f3 ∙ row)
