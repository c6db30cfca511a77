-- The line of the checking program: verdict, then either trial number and score, or refusal number and place, in decimal.
use Rattle.std.specs.Prelude.{ℕ, zero, suc, ◌+◌, ◌/◌, ◌%◌, cond, List, [], ◌∷◌, ◌++◌, ltb}
use Prim.Native.Char.{code}
use Prim.Native.String.{String, [] as none, ◌∷◌ as more}
use Rattle.report.specs.Report.{Verdict, Accepted, Refused}

-- a text, a byte for each character of it
unfoldable pub text_of : String → List ℕ
text_of none = []
text_of (more c s) = code c ∷ text_of s

-- the digit of a number below 10
abbrev pub digit : ℕ → ℕ
digit n = 48 + n

-- the digits of a number, of which there are at most so many: most significant first, no zero in front
unfoldable pub digits : ℕ → ℕ → List ℕ
digits zero n = []
digits (suc m) n = let front = digits m (n / 10) in cond (ltb n 10) (digit n ∷ []) (front ++ (digit (n % 10) ∷ []))

-- a number in decimal: for n, suc n digits are enough
unfoldable pub decimal : ℕ → List ℕ
decimal n = digits (suc n) n

-- two numbers, each after its name, and the end of the line
unfoldable pub sentence : List ℕ → ℕ → List ℕ → ℕ → List ℕ
sentence first m second n = first ++ (decimal m ++ (second ++ (decimal n ++ text_of "\n")))

-- verdict, then either trial number and score, or refusal number and place
unfoldable pub line_of : Verdict → List ℕ
line_of (Accepted k n s) = sentence (text_of "accepted trial ") k (text_of " score ") n
line_of (Refused n p) = sentence (text_of "refused ") n (text_of " at ") p
