-- Examples: the worked packets of the source document's sections, each fault alone and some together, and the sizes at their limits.
use Rattle.std.specs.Prelude.{◌≡◌, ℕ, ◌+◌, ◌%◌, List, [], ◌∷◌, ◌++◌, map, replicate}
use Rattle.packet.specs.Stream.{packets}
use Rattle.packet.specs.Calls.{joined}
use Rattle.dlpc200.specs.Packet.{write, packet_of}
use Rattle.dlpc200.specs.Status.{fault_bits}
use Rattle.dlpc200.specs.declared.states.States.{States}
use Rattle.dlpc200.specs.Playing.{responses, after}

pub data Example : Type 0 where
  -- bytes, and all that the device answers
  Answers : List ℕ → List ℕ → Example
  -- the same of a device with other states
  AnswersWith : States → List ℕ → List ℕ → Example
  -- bytes, and the park state after them
  Leaves : List ℕ → ℕ → Example
  -- the data of a write, and the two status bytes that it draws
  Draws : List ℕ → ℕ → ℕ → Example
  -- two status bytes, and how many faults they carry
  Counts : ℕ → ℕ → ℕ → Example

-- a device that runs a sequence, after flash initialization failed in the requested solution, with its LEDs lit
abbrev pub states : States
states = record { park = 0; sequence = 1; eeprom = 0; flash = 7; lit = 1 }

-- two more sets of states: over the three each state is told from every other, and from one that never changes
abbrev pub parked : States
parked = record { park = 1; sequence = 0; eeprom = 0; flash = 5; lit = 1 }

abbrev pub faulty : States
faulty = record { park = 1; sequence = 1; eeprom = 1; flash = 3; lit = 0 }

-- a write response and a read response of two status bytes, and their checksum
abbrev pub status_written : ℕ → ℕ → ℕ → List ℕ
status_written d0 d1 check = 0x03 ∷ 0xAA ∷ 0x00 ∷ 0x00 ∷ 0x02 ∷ 0x00 ∷ d0 ∷ d1 ∷ check ∷ []

abbrev pub status_read : ℕ → ℕ → ℕ → List ℕ
status_read d0 d1 check = 0x05 ∷ 0xAA ∷ 0x00 ∷ 0x00 ∷ 0x02 ∷ 0x00 ∷ d0 ∷ d1 ∷ check ∷ []

-- a read response that tells a state
abbrev pub told : ℕ → ℕ → List ℕ
told v check = 0x05 ∷ 0xAA ∷ 0x00 ∷ 0x00 ∷ 0x03 ∷ 0x00 ∷ 0x00 ∷ 0x00 ∷ v ∷ check ∷ []

-- all that a device with these states answers to some bytes
unfoldable pub answers : States → List ℕ → List ℕ
answers s b = joined (responses s (packets b))

-- what the rules give for an example, and what it expects of them: bytes, a park state or a count

unfoldable pub given : Example → List ℕ
given (Answers b r) = answers states b
given (AnswersWith s b r) = answers s b
given (Leaves b v) = (after states (packets b)).park ∷ []
given (Draws d d0 d1) = answers states (packet_of write d)
given (Counts d0 d1 n) = fault_bits d0 d1 ∷ []

unfoldable pub expected : Example → List ℕ
expected (Answers b r) = r
expected (AnswersWith s b r) = r
expected (Leaves b v) = v ∷ []
expected (Draws d d0 d1) = status_written d0 d1 ((2 + d0 + d1) % 256)
expected (Counts d0 d1 n) = n ∷ []

-- The requests of the sections, with the printed checksums.

abbrev pub park : List ℕ
park = 0x02 ∷ 0xAA ∷ 0x00 ∷ 0x00 ∷ 0x02 ∷ 0x00 ∷ 0x05 ∷ 0x00 ∷ 0x07 ∷ []

abbrev pub unpark : List ℕ
unpark = 0x02 ∷ 0xAA ∷ 0x00 ∷ 0x00 ∷ 0x02 ∷ 0x00 ∷ 0x06 ∷ 0x00 ∷ 0x08 ∷ []

abbrev pub get_park : List ℕ
get_park = 0x04 ∷ 0xAA ∷ 0x00 ∷ 0x00 ∷ 0x02 ∷ 0x00 ∷ 0x15 ∷ 0x00 ∷ 0x17 ∷ []

abbrev pub get_sequence : List ℕ
get_sequence = 0x04 ∷ 0xAA ∷ 0x00 ∷ 0x00 ∷ 0x02 ∷ 0x00 ∷ 0x16 ∷ 0x00 ∷ 0x18 ∷ []

abbrev pub get_eeprom : List ℕ
get_eeprom = 0x04 ∷ 0xAA ∷ 0x00 ∷ 0x00 ∷ 0x02 ∷ 0x00 ∷ 0x17 ∷ 0x00 ∷ 0x19 ∷ []

abbrev pub get_flash : List ℕ
get_flash = 0x04 ∷ 0xAA ∷ 0x00 ∷ 0x00 ∷ 0x02 ∷ 0x00 ∷ 0x29 ∷ 0x00 ∷ 0x2B ∷ []

abbrev pub get_lit : List ℕ
get_lit = 0x04 ∷ 0xAA ∷ 0x00 ∷ 0x00 ∷ 0x02 ∷ 0x00 ∷ 0x2A ∷ 0x00 ∷ 0x2C ∷ []

-- The table.
unfoldable pub examples : List Example
examples =
    -- section 6: the write response
    Answers park (0x03 ∷ 0xAA ∷ 0x00 ∷ 0x00 ∷ 0x02 ∷ 0x00 ∷ 0x00 ∷ 0x00 ∷ 0x02 ∷ [])
    ∷ Answers unpark (status_written 0x00 0x00 0x02)
    -- sections 6.22, 6.23, 6.24, 6.42, 6.43
    ∷ Answers get_park (told 0x00 0x03)
    ∷ Answers get_sequence (told 0x01 0x04)
    ∷ Answers get_eeprom (told 0x00 0x03)
    ∷ Answers get_flash (told 0x07 0x0A)
    ∷ Answers get_lit (told 0x01 0x04)
    ∷ AnswersWith parked get_park (told 0x01 0x04)
    ∷ AnswersWith parked get_sequence (told 0x00 0x03)
    ∷ AnswersWith parked get_eeprom (told 0x00 0x03)
    ∷ AnswersWith parked get_flash (told 0x05 0x08)
    ∷ AnswersWith parked get_lit (told 0x01 0x04)
    ∷ AnswersWith faulty get_park (told 0x01 0x04)
    ∷ AnswersWith faulty get_sequence (told 0x01 0x04)
    ∷ AnswersWith faulty get_eeprom (told 0x01 0x04)
    ∷ AnswersWith faulty get_flash (told 0x03 0x06)
    ∷ AnswersWith faulty get_lit (told 0x00 0x03)
    -- sections 6.6, 6.7: park sets what 0015 reads, and unpark clears it
    ∷ Answers (park ++ get_park) (status_written 0x00 0x00 0x02 ++ told 0x01 0x04)
    ∷ Answers (park ++ unpark ++ get_park) (status_written 0x00 0x00 0x02 ++ status_written 0x00 0x00 0x02 ++ told 0x00 0x03)
    -- the other states stay, set or not
    ∷ Answers (park ++ get_eeprom) (status_written 0x00 0x00 0x02 ++ told 0x00 0x03)
    ∷ AnswersWith faulty (park ++ get_eeprom) (status_written 0x00 0x00 0x02 ++ told 0x01 0x04)
    ∷ AnswersWith faulty (unpark ++ get_sequence) (status_written 0x00 0x00 0x02 ++ told 0x01 0x04)
    ∷ AnswersWith parked (unpark ++ get_flash) (status_written 0x00 0x00 0x02 ++ told 0x05 0x08)
    ∷ Answers (park ++ get_lit) (status_written 0x00 0x00 0x02 ++ told 0x01 0x04)
    ∷ AnswersWith faulty (park ++ get_lit) (status_written 0x00 0x00 0x02 ++ told 0x00 0x03)
    ∷ Leaves park 1
    ∷ Leaves (park ++ unpark) 0
    ∷ Leaves (park ++ get_park) 1
    -- each fault alone: checksum, CMD1 wrong for its command (both ways), CMD1 neither, CMD2, CMD4 (each value that it has), size
    ∷ Answers (0x02 ∷ 0xAA ∷ 0x00 ∷ 0x00 ∷ 0x02 ∷ 0x00 ∷ 0x05 ∷ 0x00 ∷ 0x06 ∷ []) (status_written 0x41 0x00 0x43)
    -- the sum of every earlier byte, as document 01 has it, is a wrong checksum here
    ∷ Answers (0x02 ∷ 0xAA ∷ 0x00 ∷ 0x00 ∷ 0x02 ∷ 0x00 ∷ 0x05 ∷ 0x00 ∷ 0xB3 ∷ []) (status_written 0x41 0x00 0x43)
    ∷ Answers (0x04 ∷ 0xAA ∷ 0x00 ∷ 0x00 ∷ 0x02 ∷ 0x00 ∷ 0x05 ∷ 0x00 ∷ 0x07 ∷ []) (status_read 0x42 0x00 0x44)
    ∷ Answers (0x02 ∷ 0xAA ∷ 0x00 ∷ 0x00 ∷ 0x02 ∷ 0x00 ∷ 0x15 ∷ 0x00 ∷ 0x17 ∷ []) (status_written 0x42 0x00 0x44)
    ∷ Answers (0x03 ∷ 0xAA ∷ 0x00 ∷ 0x00 ∷ 0x02 ∷ 0x00 ∷ 0x05 ∷ 0x00 ∷ 0x07 ∷ []) (status_written 0x42 0x00 0x44)
    ∷ Answers (0x02 ∷ 0xAB ∷ 0x00 ∷ 0x00 ∷ 0x02 ∷ 0x00 ∷ 0x05 ∷ 0x00 ∷ 0x07 ∷ []) (status_written 0x44 0x00 0x46)
    ∷ Answers (0x02 ∷ 0xAA ∷ 0x00 ∷ 0x01 ∷ 0x02 ∷ 0x00 ∷ 0x05 ∷ 0x00 ∷ 0x07 ∷ []) (status_written 0x50 0x00 0x52)
    ∷ Answers (0x04 ∷ 0xAA ∷ 0x00 ∷ 0x04 ∷ 0x02 ∷ 0x00 ∷ 0x15 ∷ 0x00 ∷ 0x17 ∷ []) (status_read 0x50 0x00 0x52)
    ∷ Answers (0x02 ∷ 0xAA ∷ 0x00 ∷ 0x00 ∷ 0x03 ∷ 0x00 ∷ 0x05 ∷ 0x00 ∷ 0x00 ∷ 0x08 ∷ []) (status_written 0x40 0x08 0x4A)
    ∷ Answers (0x04 ∷ 0xAA ∷ 0x00 ∷ 0x00 ∷ 0x03 ∷ 0x00 ∷ 0x15 ∷ 0x00 ∷ 0x00 ∷ 0x18 ∷ []) (status_read 0x40 0x08 0x4A)
    -- CMD3 is not judged
    ∷ Answers (0x02 ∷ 0xAA ∷ 0xFF ∷ 0x00 ∷ 0x02 ∷ 0x00 ∷ 0x05 ∷ 0x00 ∷ 0x07 ∷ []) (status_written 0x00 0x00 0x02)
    -- all five together, and a failed packet leaves the park state
    ∷ Answers (0x07 ∷ 0xAB ∷ 0x01 ∷ 0x02 ∷ 0x03 ∷ 0x00 ∷ 0x05 ∷ 0x00 ∷ 0x00 ∷ 0x09 ∷ []) (status_written 0x57 0x08 0x61)
    ∷ Leaves (0x02 ∷ 0xAA ∷ 0x00 ∷ 0x00 ∷ 0x02 ∷ 0x00 ∷ 0x05 ∷ 0x00 ∷ 0x06 ∷ []) 0
    ∷ Leaves (park ++ (0x02 ∷ 0xAB ∷ 0x00 ∷ 0x00 ∷ 0x02 ∷ 0x00 ∷ 0x06 ∷ 0x00 ∷ 0x08 ∷ [])) 1
    -- an unknown command by itself sets bit 6 alone, as a write and as a read; with other faults it has those
    ∷ Answers (0x02 ∷ 0xAA ∷ 0x00 ∷ 0x00 ∷ 0x02 ∷ 0x00 ∷ 0x07 ∷ 0x00 ∷ 0x09 ∷ []) (status_written 0x40 0x00 0x42)
    ∷ Answers (0x04 ∷ 0xAA ∷ 0x00 ∷ 0x00 ∷ 0x02 ∷ 0x00 ∷ 0x05 ∷ 0x01 ∷ 0x08 ∷ []) (status_read 0x40 0x00 0x42)
    ∷ Answers (0x05 ∷ 0xAA ∷ 0x00 ∷ 0x00 ∷ 0x02 ∷ 0x00 ∷ 0x07 ∷ 0x00 ∷ 0x08 ∷ []) (status_written 0x43 0x00 0x45)
    -- no data, and one byte: no command
    ∷ Draws [] 0x40 0x08
    ∷ Draws (0x05 ∷ []) 0x40 0x08
    ∷ Answers (0x04 ∷ 0xAA ∷ 0x00 ∷ 0x00 ∷ 0x01 ∷ 0x00 ∷ 0x05 ∷ 0x06 ∷ []) (status_read 0x40 0x08 0x4A)
    -- an unknown command with 2, 3, 504 and 505 bytes; a known one with 504
    ∷ Draws (0x07 ∷ 0x00 ∷ []) 0x40 0x00
    ∷ Draws (0x07 ∷ 0x00 ∷ 0x01 ∷ []) 0x40 0x00
    ∷ Draws (0x07 ∷ replicate 503 0x00) 0x40 0x00
    ∷ Draws (0x07 ∷ replicate 504 0x00) 0x40 0x08
    ∷ Draws (0x05 ∷ replicate 503 0x00) 0x40 0x08
    -- how many faults beside bit 6
    ∷ Counts 0x00 0x00 0
    ∷ Counts 0x40 0x00 0
    ∷ Counts 0x41 0x00 1
    ∷ Counts 0x57 0x08 5
    ∷ Counts 0xFF 0xFF 15
    ∷ []

-- every example gives what it expects
abbrev pub ExamplesHold : Type 0
ExamplesHold = map given examples ≡ map expected examples
