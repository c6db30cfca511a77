-- An answer whose refusal is turned into its number says the same.
use Rattle.std.specs.Prelude.{◌≡◌, ℕ, Result, Ok, Err}
use Rattle.std.specs.Result.{MatchResult, IsErrAnd}
use Rattle.command.specs.Encoder.{Outcome, Refuses, Writes}
use Rattle.imjarlet.specs.Exports.{outcome_in}

pub numbered : {E : Type 0} {IsNumber : E → ℕ → Type 0} (outcome : Result ℕ E → Outcome)
    → ((n : ℕ) → Writes n ≡ outcome (Ok n)) → ((e : E) (n : ℕ) → IsNumber e n → Refuses n ≡ outcome (Err e))
    → (answer : Result ℕ E) (told : Result ℕ ℕ) → MatchResult answer (λ n. told ≡ Ok n) (λ e. IsErrAnd told (IsNumber e)) → outcome_in told ≡ outcome answer
numbered outcome writes refuses (Ok n) told e = rw e (writes n)
numbered outcome writes refuses (Err e) (Err n) is = refuses e n is
numbered outcome writes refuses (Err e) (Ok _) is = elim is [ ]
