-- The count of error bits is the number of faults that hold.
use Rattle.std.proofs.Common.{◌≡◌, ℕ, ◌+◌, ◌^◌, ◌<◌, ◌≤◌, Bool, true, false, refl, ap₂, arith}
use lib.Bits.{bit_and, and_le_l}
use lib.Count.{ones_in, ones, ones-le}
use Rattle.dlpc200.specs.Status.{bit, data0, data1, fault_bits, faults_held}
use Rattle.dlpc200.specs.declared.status.Faults.{Faults}

-- two bytes have at most sixteen ones, the first through any mask
pub count_fits : (a m b : ℕ) → a < 256 → b < 256 → ones (bit_and a m) + ones b < 2 ^ 32
count_fits a m b h l =
    let k : bit_and a m ≤ a = and_le_l a m in
    let n : bit_and a m < 2 ^ 8 = omega arith in
    omega (arith, ones-le 8 (bit_and a m) n, ones-le 8 b l)

-- the ones of each byte, case by case

ones0 : (checksum cmd1 cmd2 cmd4 : Bool)
    → ones (bit_and (bit checksum 0x01 + bit cmd1 0x02 + bit cmd2 0x04 + bit cmd4 0x10 + 0x40) 0xBF) ≡ bit checksum 1 + bit cmd1 1 + bit cmd2 1 + bit cmd4 1
unfolding ones ones_in
ones0 true true true true = refl
ones0 true true true false = refl
ones0 true true false true = refl
ones0 true true false false = refl
ones0 true false true true = refl
ones0 true false true false = refl
ones0 true false false true = refl
ones0 true false false false = refl
ones0 false true true true = refl
ones0 false true true false = refl
ones0 false true false true = refl
ones0 false true false false = refl
ones0 false false true true = refl
ones0 false false true false = refl
ones0 false false false true = refl
ones0 false false false false = refl

ones1 : (size : Bool) → ones (bit size 0x08) ≡ bit size 1
unfolding ones ones_in
ones1 true = refl
ones1 false = refl

pub faults_counted : (f : Faults) → fault_bits (data0 f) (data1 f) ≡ faults_held f
unfolding fault_bits faults_held
faults_counted f = ap₂ ◌+◌ (ones0 f.checksum f.cmd1 f.cmd2 f.cmd4) (ones1 f.size)
