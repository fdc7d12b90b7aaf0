-- The error of a result that is passed on.
use Rattle.std.proofs.Common.{◌≡◌, sym, subst, Result, Ok, Err, IfErr}
use Rattle.std.specs.Result.{IsErrAnd}

-- an error that is passed on keeps its cause
pub passed_on : {A E : Type 0} (r : Result A E) (error : E) (P : E → Type 0) → IsErrAnd r (λ e. e ≡ error) → P error → IfErr r P
passed_on (Ok x) error P same cause = tt
passed_on (Err e) error P same cause = subst P (sym same) cause
