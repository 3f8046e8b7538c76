-- Worked words, by computing.
use Rattle.std.proofs.Common.{◌≡◌, Some, None, pos, negsuc, refl}
use Rattle.rv64_decode.specs.declared.Op.TheVariants.{Lui, Auipc, Jal, Beq, Bne, Ld, Addi, Sd, Srai, Sraiw, Add, Mul, Fence, Ecall, Ebreak}
use Rattle.rv64_decode.specs.Table.{table, row_of, decoded}

-- li a0, 1
li_a0_1 : decoded 0x00100513 ≡ Some (record { op = Addi; rd = 10; rs1 = 0; rs2 = 1; imm = pos 1 })
unfolding decoded row_of table
li_a0_1 = refl

-- auipc a1, 0
auipc_a1_0 : decoded 0x00000597 ≡ Some (record { op = Auipc; rd = 11; rs1 = 0; rs2 = 0; imm = pos 0 })
unfolding decoded row_of table
auipc_a1_0 = refl

-- addi a1, a1, 32
addi_a1_32 : decoded 0x02058593 ≡ Some (record { op = Addi; rd = 11; rs1 = 11; rs2 = 0; imm = pos 32 })
unfolding decoded row_of table
addi_a1_32 = refl

-- li a2, 2
li_a2_2 : decoded 0x00200613 ≡ Some (record { op = Addi; rd = 12; rs1 = 0; rs2 = 2; imm = pos 2 })
unfolding decoded row_of table
li_a2_2 = refl

-- li a7, 64
li_a7_64 : decoded 0x04000893 ≡ Some (record { op = Addi; rd = 17; rs1 = 0; rs2 = 0; imm = pos 64 })
unfolding decoded row_of table
li_a7_64 = refl

ecall : decoded 0x00000073 ≡ Some (record { op = Ecall; rd = 0; rs1 = 0; rs2 = 0; imm = pos 0 })
unfolding decoded row_of table
ecall = refl

ebreak : decoded 0x00100073 ≡ Some (record { op = Ebreak; rd = 0; rs1 = 0; rs2 = 1; imm = pos 0 })
unfolding decoded row_of table
ebreak = refl

-- ld a0, -64(sp)
ld_below_sp : decoded 0xfc013503 ≡ Some (record { op = Ld; rd = 10; rs1 = 2; rs2 = 0; imm = negsuc 63 })
unfolding decoded row_of table
ld_below_sp = refl

-- sd ra, 8(sp)
sd_ra : decoded 0x00113423 ≡ Some (record { op = Sd; rd = 8; rs1 = 2; rs2 = 1; imm = pos 8 })
unfolding decoded row_of table
sd_ra = refl

-- beq a0, a1, 16
beq_forward : decoded 0x00b50863 ≡ Some (record { op = Beq; rd = 16; rs1 = 10; rs2 = 11; imm = pos 16 })
unfolding decoded row_of table
beq_forward = refl

-- bne a5, zero, -4
bne_back : decoded 0xfe079ee3 ≡ Some (record { op = Bne; rd = 29; rs1 = 15; rs2 = 0; imm = negsuc 3 })
unfolding decoded row_of table
bne_back = refl

-- lui a0, 0x80000
lui_least : decoded 0x80000537 ≡ Some (record { op = Lui; rd = 10; rs1 = 0; rs2 = 0; imm = negsuc 2147483647 })
unfolding decoded row_of table
lui_least = refl

-- jal ra, -4
jal_back : decoded 0xffdff0ef ≡ Some (record { op = Jal; rd = 1; rs1 = 31; rs2 = 29; imm = negsuc 3 })
unfolding decoded row_of table
jal_back = refl

-- srai a0, a0, 63
srai_63 : decoded 0x43f55513 ≡ Some (record { op = Srai; rd = 10; rs1 = 10; rs2 = 31; imm = pos 63 })
unfolding decoded row_of table
srai_63 = refl

-- sraiw a0, a0, 31
sraiw_31 : decoded 0x41f5551b ≡ Some (record { op = Sraiw; rd = 10; rs1 = 10; rs2 = 31; imm = pos 31 })
unfolding decoded row_of table
sraiw_31 = refl

-- add a0, a1, a2
add_three : decoded 0x00c58533 ≡ Some (record { op = Add; rd = 10; rs1 = 11; rs2 = 12; imm = pos 0 })
unfolding decoded row_of table
add_three = refl

-- mul a0, a0, a1
mul_two : decoded 0x02b50533 ≡ Some (record { op = Mul; rd = 10; rs1 = 10; rs2 = 11; imm = pos 0 })
unfolding decoded row_of table
mul_two = refl

-- a fence with every free bit set
fence_full : decoded 0xffff8f8f ≡ Some (record { op = Fence; rd = 31; rs1 = 31; rs2 = 31; imm = pos 0 })
unfolding decoded row_of table
fence_full = refl

-- no instruction: all zeros, all ones, a shift of 32 in a W form
zeros_are_none : decoded 0 ≡ None
unfolding decoded row_of table
zeros_are_none = refl

ones_are_none : decoded 0xffffffff ≡ None
unfolding decoded row_of table
ones_are_none = refl

slliw_32_is_none : decoded 0x0205151b ≡ None
unfolding decoded row_of table
slliw_32_is_none = refl
