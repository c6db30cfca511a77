-- What a receive call answers, in the numbers of document 01: a refusal's number; "waiting" and the bytes taken; "answered", the bytes taken and the response's length.
use Rattle.std.specs.Prelude.{◌≡◌, ℕ, ◌<◌, ◌≤◌, cond, ◌⊎◌, ◌↔◌, List, length, take, ◌==◌, Option, None, Some, Result, Ok, Err}
use Rattle.packet.specs.declared.answer.Progress.{Progress}
use Rattle.packet.specs.declared.answer.Progress.TheVariants.{Waiting, Answered}
use Rattle.packet.specs.declared.answer.Refusal.{Refusal}
use Rattle.packet.specs.declared.answer.Refusal.TheVariants.{ShortOutput, OutOfRule}

pub data Outcome : Type 0 where
  Refuses : ℕ → Outcome
  Waits : ℕ → Outcome
  Answers : ℕ → ℕ → Outcome

abbrev pub outcome_of : Result Progress Refusal → Outcome
outcome_of (Err ShortOutput) = Refuses 1
outcome_of (Err OutOfRule) = Refuses 3
outcome_of (Ok (Waiting n)) = Waits n
outcome_of (Ok (Answered n m)) = Answers n m

-- What an answer shows of a call: how many bytes it took, and the response at the output's start, where there is one.

abbrev pub taken_of : Outcome → ℕ
taken_of (Refuses n) = 0
taken_of (Waits n) = n
taken_of (Answers n m) = n

abbrev pub response_of : Outcome → List ℕ → Option (List ℕ)
response_of (Refuses n) out = None
response_of (Waits n) out = None
response_of (Answers n m) out = Some (take m out)

-- An answer as three numbers, for callers that know no enum: the refusal's number, the bytes taken, the response's length.

-- the refusal's number, 0 where there is none
abbrev pub refusal_of : Outcome → ℕ
refusal_of (Refuses n) = n
refusal_of (Waits n) = 0
refusal_of (Answers n m) = 0

-- the response's length, 0 where there is none
abbrev pub length_of : Outcome → ℕ
length_of (Refuses n) = 0
length_of (Waits n) = 0
length_of (Answers n m) = m

-- what three such numbers say: a refusal; "waiting" where there is no response; "answered"
abbrev pub outcome_told : ℕ → ℕ → ℕ → Outcome
outcome_told refusal taken size = cond (refusal == 0) (cond (size == 0) (Waits taken) (Answers taken size)) (Refuses refusal)

-- three numbers that tell an answer
pub record Told (o : Outcome) (refusal taken size : ℕ) : Type 0 where
  pub refused : refusal ≡ refusal_of o
  pub count : taken ≡ taken_of o
  pub response : size ≡ length_of o

-- A receive call told by numbers that answers so and leaves this head and this output: the refusal, the bytes taken, the response's length (0: "waiting"), the head and the output afterwards.
pub record Performed {S : Type 0} (answer : Outcome) (left : S) (written : List ℕ) (refusal taken size : ℕ) (head : S) (output : List ℕ) : Type 0 where
  pub told : Told answer refusal taken size
  -- the three numbers say the answer
  pub says : outcome_told refusal taken size ≡ answer
  pub leaves : head ≡ left
  pub writes : output ≡ written

-- How a call answers that is lent the output `out`; `Refused n` says that it answers refusal n. In the order of the table:
pub record Answering (Refused : ℕ → Type 0) (out : List ℕ) (shortest second : ℕ) (Holds Untouched Fine : Type 0) : Type 0 where
  -- 1 exactly when the output is shorter than this
  pub short : Refused 1 ↔ (length out < shortest)
  -- its second number exactly when it is not shorter and `Holds`
  pub other : Refused second ↔ ((shortest ≤ length out) × Holds)
  -- no other number
  pub only : (n : ℕ) → Refused n → (n ≡ 1) ⊎ (n ≡ second)
  -- a refusal touches nothing lent
  pub untouched : (n : ℕ) → Refused n → Untouched
  -- and where nothing is refused the call is answered
  pub answers : shortest ≤ length out → (Holds → ⊥) → Fine
