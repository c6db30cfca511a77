-- The error codes as the bits of one number, and back.
use Rattle.std.specs.Prelude.{None}
use Prim.Native.Nat.{ℕ, ◌+◌, ◌*◌, ◌/◌, ◌%◌, ◌≤◌}
use mathlib.Core.Path.{◌≡◌, ap, ◌∙◌}
use mathlib.Core.Bool.{Bool, true, false, cond}
use native.Mathlib.Omega.{arith}
use lib.Dec.{eqb}
use Rattle.command.specs.Ruling.{has_bit, mask_of, codes_told}
use Rattle.command.specs.declared.faults.Codes.{Codes}

-- a code as a number, 1 where it holds
one : Bool → ℕ
one b = cond b 1 0

one_most : (b : Bool) → one b ≤ 1
unfolding one
one_most true = omega arith
one_most false = omega arith

one_test : (b : Bool) (n : ℕ) → n ≡ one b → eqb n 1 ≡ b
unfolding one
one_test true n e = rw e
one_test false n e = rw e

bit_is : (b : Bool) (n : ℕ) → cond b n 0 ≡ n * one b
unfolding one
bit_is true n = omega arith
bit_is false n = omega arith

-- The bits of a sum of powers of two.
module _ (x1 x2 x3 x4 x5 x6 x7 x8 x9 x10 x11 : ℕ) (h1 : x1 ≤ 1) (h2 : x2 ≤ 1) (h3 : x3 ≤ 1) (h4 : x4 ≤ 1) (h5 : x5 ≤ 1) (h6 : x6 ≤ 1) (h7 : x7 ≤ 1) (h8 : x8 ≤ 1) (h9 : x9 ≤ 1) (h10 : x10 ≤ 1) (h11 : x11 ≤ 1) where
  abbrev total : ℕ
  total = 2 * x1 + 4 * x2 + 8 * x3 + 16 * x4 + 32 * x5 + 64 * x6 + 128 * x7 + 256 * x8 + 512 * x9 + 1024 * x10 + 2048 * x11

  bit_1 : total / 2 % 2 ≡ x1
  bit_1 = omega (arith, h1, h2, h3, h4, h5, h6, h7, h8, h9, h10, h11)

  bit_2 : total / 4 % 2 ≡ x2
  bit_2 = omega (arith, h1, h2, h3, h4, h5, h6, h7, h8, h9, h10, h11)

  bit_3 : total / 8 % 2 ≡ x3
  bit_3 = omega (arith, h1, h2, h3, h4, h5, h6, h7, h8, h9, h10, h11)

  bit_4 : total / 16 % 2 ≡ x4
  bit_4 = omega (arith, h1, h2, h3, h4, h5, h6, h7, h8, h9, h10, h11)

  bit_5 : total / 32 % 2 ≡ x5
  bit_5 = omega (arith, h1, h2, h3, h4, h5, h6, h7, h8, h9, h10, h11)

  bit_6 : total / 64 % 2 ≡ x6
  bit_6 = omega (arith, h1, h2, h3, h4, h5, h6, h7, h8, h9, h10, h11)

  bit_7 : total / 128 % 2 ≡ x7
  bit_7 = omega (arith, h1, h2, h3, h4, h5, h6, h7, h8, h9, h10, h11)

  bit_8 : total / 256 % 2 ≡ x8
  bit_8 = omega (arith, h1, h2, h3, h4, h5, h6, h7, h8, h9, h10, h11)

  bit_9 : total / 512 % 2 ≡ x9
  bit_9 = omega (arith, h1, h2, h3, h4, h5, h6, h7, h8, h9, h10, h11)

  bit_10 : total / 1024 % 2 ≡ x10
  bit_10 = omega (arith, h1, h2, h3, h4, h5, h6, h7, h8, h9, h10, h11)

  bit_11 : total / 2048 % 2 ≡ x11
  bit_11 = omega (arith, h1, h2, h3, h4, h5, h6, h7, h8, h9, h10, h11)

-- the codes without the byte that is wrong
abbrev pub codes_alone : Codes → Codes
codes_alone k =
    record {
      failure = k.failure;
      command = k.command;
      parameter = k.parameter;
      memory = k.memory;
      device = k.device;
      busy = k.busy;
      precondition = k.precondition;
      object = k.object;
      checksum = k.checksum;
      format = k.format;
      continuation = k.continuation;
      wrong = None;
    }

module _ (k : Codes) where
  -- their number is the sum of the powers of two
  mask_is : mask_of k ≡ total (one k.failure) (one k.command) (one k.parameter) (one k.memory) (one k.device) (one k.busy) (one k.precondition) (one k.object) (one k.checksum) (one k.format) (one k.continuation) (one_most k.failure) (one_most k.command) (one_most k.parameter) (one_most k.memory) (one_most k.device) (one_most k.busy) (one_most k.precondition) (one_most k.object) (one_most k.checksum) (one_most k.format) (one_most k.continuation)
  unfolding mask_of
  mask_is = rw (bit_is k.failure 2, bit_is k.command 4, bit_is k.parameter 8, bit_is k.memory 16, bit_is k.device 32, bit_is k.busy 64, bit_is k.precondition 128, bit_is k.object 256, bit_is k.checksum 512, bit_is k.format 1024, bit_is k.continuation 2048)

  has_1 : has_bit (mask_of k) 1 ≡ k.failure
  has_1 = one_test k.failure (mask_of k / 2 % 2) (ap (λ (m : ℕ). m / 2 % 2) mask_is ∙ bit_1 (one k.failure) (one k.command) (one k.parameter) (one k.memory) (one k.device) (one k.busy) (one k.precondition) (one k.object) (one k.checksum) (one k.format) (one k.continuation) (one_most k.failure) (one_most k.command) (one_most k.parameter) (one_most k.memory) (one_most k.device) (one_most k.busy) (one_most k.precondition) (one_most k.object) (one_most k.checksum) (one_most k.format) (one_most k.continuation))

  has_2 : has_bit (mask_of k) 2 ≡ k.command
  has_2 = one_test k.command (mask_of k / 4 % 2) (ap (λ (m : ℕ). m / 4 % 2) mask_is ∙ bit_2 (one k.failure) (one k.command) (one k.parameter) (one k.memory) (one k.device) (one k.busy) (one k.precondition) (one k.object) (one k.checksum) (one k.format) (one k.continuation) (one_most k.failure) (one_most k.command) (one_most k.parameter) (one_most k.memory) (one_most k.device) (one_most k.busy) (one_most k.precondition) (one_most k.object) (one_most k.checksum) (one_most k.format) (one_most k.continuation))

  has_3 : has_bit (mask_of k) 3 ≡ k.parameter
  has_3 = one_test k.parameter (mask_of k / 8 % 2) (ap (λ (m : ℕ). m / 8 % 2) mask_is ∙ bit_3 (one k.failure) (one k.command) (one k.parameter) (one k.memory) (one k.device) (one k.busy) (one k.precondition) (one k.object) (one k.checksum) (one k.format) (one k.continuation) (one_most k.failure) (one_most k.command) (one_most k.parameter) (one_most k.memory) (one_most k.device) (one_most k.busy) (one_most k.precondition) (one_most k.object) (one_most k.checksum) (one_most k.format) (one_most k.continuation))

  has_4 : has_bit (mask_of k) 4 ≡ k.memory
  has_4 = one_test k.memory (mask_of k / 16 % 2) (ap (λ (m : ℕ). m / 16 % 2) mask_is ∙ bit_4 (one k.failure) (one k.command) (one k.parameter) (one k.memory) (one k.device) (one k.busy) (one k.precondition) (one k.object) (one k.checksum) (one k.format) (one k.continuation) (one_most k.failure) (one_most k.command) (one_most k.parameter) (one_most k.memory) (one_most k.device) (one_most k.busy) (one_most k.precondition) (one_most k.object) (one_most k.checksum) (one_most k.format) (one_most k.continuation))

  has_5 : has_bit (mask_of k) 5 ≡ k.device
  has_5 = one_test k.device (mask_of k / 32 % 2) (ap (λ (m : ℕ). m / 32 % 2) mask_is ∙ bit_5 (one k.failure) (one k.command) (one k.parameter) (one k.memory) (one k.device) (one k.busy) (one k.precondition) (one k.object) (one k.checksum) (one k.format) (one k.continuation) (one_most k.failure) (one_most k.command) (one_most k.parameter) (one_most k.memory) (one_most k.device) (one_most k.busy) (one_most k.precondition) (one_most k.object) (one_most k.checksum) (one_most k.format) (one_most k.continuation))

  has_6 : has_bit (mask_of k) 6 ≡ k.busy
  has_6 = one_test k.busy (mask_of k / 64 % 2) (ap (λ (m : ℕ). m / 64 % 2) mask_is ∙ bit_6 (one k.failure) (one k.command) (one k.parameter) (one k.memory) (one k.device) (one k.busy) (one k.precondition) (one k.object) (one k.checksum) (one k.format) (one k.continuation) (one_most k.failure) (one_most k.command) (one_most k.parameter) (one_most k.memory) (one_most k.device) (one_most k.busy) (one_most k.precondition) (one_most k.object) (one_most k.checksum) (one_most k.format) (one_most k.continuation))

  has_7 : has_bit (mask_of k) 7 ≡ k.precondition
  has_7 = one_test k.precondition (mask_of k / 128 % 2) (ap (λ (m : ℕ). m / 128 % 2) mask_is ∙ bit_7 (one k.failure) (one k.command) (one k.parameter) (one k.memory) (one k.device) (one k.busy) (one k.precondition) (one k.object) (one k.checksum) (one k.format) (one k.continuation) (one_most k.failure) (one_most k.command) (one_most k.parameter) (one_most k.memory) (one_most k.device) (one_most k.busy) (one_most k.precondition) (one_most k.object) (one_most k.checksum) (one_most k.format) (one_most k.continuation))

  has_8 : has_bit (mask_of k) 8 ≡ k.object
  has_8 = one_test k.object (mask_of k / 256 % 2) (ap (λ (m : ℕ). m / 256 % 2) mask_is ∙ bit_8 (one k.failure) (one k.command) (one k.parameter) (one k.memory) (one k.device) (one k.busy) (one k.precondition) (one k.object) (one k.checksum) (one k.format) (one k.continuation) (one_most k.failure) (one_most k.command) (one_most k.parameter) (one_most k.memory) (one_most k.device) (one_most k.busy) (one_most k.precondition) (one_most k.object) (one_most k.checksum) (one_most k.format) (one_most k.continuation))

  has_9 : has_bit (mask_of k) 9 ≡ k.checksum
  has_9 = one_test k.checksum (mask_of k / 512 % 2) (ap (λ (m : ℕ). m / 512 % 2) mask_is ∙ bit_9 (one k.failure) (one k.command) (one k.parameter) (one k.memory) (one k.device) (one k.busy) (one k.precondition) (one k.object) (one k.checksum) (one k.format) (one k.continuation) (one_most k.failure) (one_most k.command) (one_most k.parameter) (one_most k.memory) (one_most k.device) (one_most k.busy) (one_most k.precondition) (one_most k.object) (one_most k.checksum) (one_most k.format) (one_most k.continuation))

  has_10 : has_bit (mask_of k) 10 ≡ k.format
  has_10 = one_test k.format (mask_of k / 1024 % 2) (ap (λ (m : ℕ). m / 1024 % 2) mask_is ∙ bit_10 (one k.failure) (one k.command) (one k.parameter) (one k.memory) (one k.device) (one k.busy) (one k.precondition) (one k.object) (one k.checksum) (one k.format) (one k.continuation) (one_most k.failure) (one_most k.command) (one_most k.parameter) (one_most k.memory) (one_most k.device) (one_most k.busy) (one_most k.precondition) (one_most k.object) (one_most k.checksum) (one_most k.format) (one_most k.continuation))

  has_11 : has_bit (mask_of k) 11 ≡ k.continuation
  has_11 = one_test k.continuation (mask_of k / 2048 % 2) (ap (λ (m : ℕ). m / 2048 % 2) mask_is ∙ bit_11 (one k.failure) (one k.command) (one k.parameter) (one k.memory) (one k.device) (one k.busy) (one k.precondition) (one k.object) (one k.checksum) (one k.format) (one k.continuation) (one_most k.failure) (one_most k.command) (one_most k.parameter) (one_most k.memory) (one_most k.device) (one_most k.busy) (one_most k.precondition) (one_most k.object) (one_most k.checksum) (one_most k.format) (one_most k.continuation))

  -- the number says the codes that it was made of
  pub mask_told : codes_told (mask_of k) ≡ codes_alone k
  unfolding codes_told
  mask_told = rw (has_1, has_2, has_3, has_4, has_5, has_6, has_7, has_8, has_9, has_10, has_11)
