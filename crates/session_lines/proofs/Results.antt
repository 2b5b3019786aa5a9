-- What is known of a result by the option that `ok` makes of it.
use Rattle.std.proofs.Common.{◌≡◌, Some, None, Result, Ok, Err}
use Rattle.std.specs.Prelude.{MatchResult}
use Rattle.std.specs.Result.{result_ok}

pub at_ok : {T E : Type 0} (r : Result T E) (P : T → Type 0) (Q : E → Type 0) (x : T) → MatchResult r P Q → result_ok r ≡ Some x → P x
at_ok (Ok y) P Q x h is = let same : y ≡ x = cc in rw same at h
at_ok (Err e) P Q x h is = let clash : None ≡ Some x = is in absurd cc

pub at_err : {T E : Type 0} (r : Result T E) (P : T → Type 0) (Q : E → Type 0) → MatchResult r P Q → result_ok r ≡ None → (e : E) × Q e
at_err (Ok y) P Q h is = let clash : Some y ≡ None = is in absurd cc
at_err (Err e) P Q h is = (e, h)
