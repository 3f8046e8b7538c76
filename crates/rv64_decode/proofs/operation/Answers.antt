use Rattle.std.proofs.Common.{◌≡◌, ◌≢◌, ◌==◌, false, Some, refl, sym, ◌∙◌, arith}
use Rattle.std.specs.List.{list_any}
use Rattle.std.proofs.lemmas.Bool.Decides.{nat_tests}
use Rattle.rv64_decode.specs.declared.Op.TheVariants.{Lui, Auipc, Jal}
use Rattle.rv64_decode.proofs.Groups.{opcodes, decoded-given, joined, upper_case, pc_upper_case, jump_case, indirect_jump_case, branch_case, load_case, store_case, constant_case, shift_case, register_case, word_constant_case, word_shift_case, word_register_case, fence_case, system_case, none_case}
use Rattle.rv64_decode.proofs.operation.Goals as goal

pub returns-in-55 : goal.returns-in-55
returns-in-55 c =
    joined _ _ _ _ (Some Lui) c.bits.ensures.value c.bits-funct3.ensures.value (upper_case _ _ _ c.in-55.is) refl

pub returns-in-23 : goal.returns-in-23
returns-in-23 c =
    joined _ _ _ _ (Some Auipc) c.bits.ensures.value c.bits-funct3.ensures.value (pc_upper_case _ _ _ c.in-23.is) refl

pub returns-in-111 : goal.returns-in-111
returns-in-111 c =
    joined _ _ _ _ (Some Jal) c.bits.ensures.value c.bits-funct3.ensures.value (jump_case _ _ _ c.in-111.is) refl

pub returns-in-103 : goal.returns-in-103
returns-in-103 c =
    joined _ _ _ _ _ c.bits.ensures.value c.bits-funct3.ensures.value (indirect_jump_case _ _ _ c.in-103.is) c.indirect_jump.ensures

pub returns-in-99 : goal.returns-in-99
returns-in-99 c =
    joined _ _ _ _ _ c.bits.ensures.value c.bits-funct3.ensures.value (branch_case _ _ _ c.in-99.is) c.branch-funct3.ensures

pub returns-in-3 : goal.returns-in-3
returns-in-3 c =
    joined _ _ _ _ _ c.bits.ensures.value c.bits-funct3.ensures.value (load_case _ _ _ c.in-3.is) c.load.ensures

pub returns-in-35 : goal.returns-in-35
returns-in-35 c =
    joined _ _ _ _ _ c.bits.ensures.value c.bits-funct3.ensures.value (store_case _ _ _ c.in-35.is) c.store.ensures

pub returns-in-51 : goal.returns-in-51
returns-in-51 c =
    joined _ _ _ _ _ c.bits.ensures.value c.bits-funct3.ensures.value (register_case _ _ _ _ c.in-51.is c.bits-in-51.ensures.value) c.register.ensures

pub returns-in-59 : goal.returns-in-59
returns-in-59 c =
    joined _ _ _ _ _ c.bits.ensures.value c.bits-funct3.ensures.value (word_register_case _ _ _ _ c.in-59.is c.bits-in-59.ensures.value) c.word_register.ensures

pub returns-in-15 : goal.returns-in-15
returns-in-15 c =
    joined _ _ _ _ _ c.bits.ensures.value c.bits-funct3.ensures.value (fence_case _ _ _ c.in-15.is) c.fence.ensures

pub returns-in-115 : goal.returns-in-115
returns-in-115 c =
    joined _ _ _ _ _ c.bits.ensures.value c.bits-funct3.ensures.value (system_case _ _ _ _ c.in-115.is c.bits-in-115.ensures.value) c.system.ensures

pub returns-in-1 : goal.returns-in-1
returns-in-1 c =
    joined _ _ _ _ _ c.bits.ensures.value c.bits-funct3.ensures.value (shift_case _ _ _ _ c.in-19.is c.in-1.is c.bits-in-1.ensures.value) c.shift.ensures

pub returns-in_default-funct3 : goal.returns-in_default-funct3
returns-in_default-funct3 c =
    let not1 : c.bits-funct3.result ≢ 1 = grind arith in
    let not5 : c.bits-funct3.result ≢ 5 = grind arith in
    joined _ _ _ _ _ c.bits.ensures.value c.bits-funct3.ensures.value (constant_case _ _ _ c.in-19.is not1 not5) c.constant.ensures

pub returns-in-1-funct3 : goal.returns-in-1-funct3
returns-in-1-funct3 c =
    joined _ _ _ _ _ c.bits.ensures.value c.bits-funct3.ensures.value (word_shift_case _ _ _ _ c.in-27.is c.in-1-funct3.is c.bits-in-1-funct3.ensures.value) c.word_shift.ensures

pub returns-in_default-funct3-2 : goal.returns-in_default-funct3-2
returns-in_default-funct3-2 c =
    let not1 : c.bits-funct3.result ≢ 1 = grind arith in
    let not5 : c.bits-funct3.result ≢ 5 = grind arith in
    joined _ _ _ _ _ c.bits.ensures.value c.bits-funct3.ensures.value (word_constant_case _ _ _ c.in-27.is not1 not5) c.word_constant.ensures

pub returns-in_default : goal.returns-in_default
returns-in_default c =
    let other : list_any (λ n. c.bits.result == n) opcodes ≡ false = grind (arith, nat_tests) in
    sym (decoded-given _ _ _ c.bits.ensures.value c.bits-funct3.ensures.value ∙ none_case _ _ _ other)
