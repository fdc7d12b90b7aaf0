-- What is known of a result that is passed on.
use Rattle.std.proofs.Common.{◌≡◌, sym, subst, ℕ, List, ◌++◌, length}
use Rattle.std.specs.Prelude.{Result, Ok, Err, IfErr, OnOk}
use Rattle.std.specs.Result.{IsErrAnd}
use Rattle.rlc_base.specs.declared.faults.Stop.{Stop}
use Rattle.rlc_base.specs.declared.faults.Stop.TheVariants as stops
use Rattle.rlc_base.specs.declared.place.Pos.{Pos}
use Rattle.breadth_first.specs.Searches.{Stands}
use Rattle.fact_pool.specs.declared.handle.Handle.{Handle}
use Rattle.reached_pairs.specs.declared.visit.Visit.{Visit}
use Rattle.reached_pairs.specs.Additions.{IsPairCause, IsPutCause}
use Rattle.reached_pairs.specs.Visited.{pair_of}

pub on_ok : {A E : Type 0} (r : Result A E) (P Q : Type 0) → (P → Q) → OnOk r P → OnOk r Q
on_ok (Ok x) P Q f h = f h
on_ok (Err e) P Q f h = tt

pub on_ok_both : {A E : Type 0} (r : Result A E) (P Q R : Type 0) → (P → Q → R) → OnOk r P → OnOk r Q → OnOk r R
on_ok_both (Ok x) P Q R f h k = f h k
on_ok_both (Err e) P Q R f h k = tt

pub if_err : {A E : Type 0} (r : Result A E) (P Q : E → Type 0) → ((e : E) → P e → Q e) → IfErr r P → IfErr r Q
if_err (Ok x) P Q f h = tt
if_err (Err e) P Q f h = f e h

-- a fault that is passed on keeps its cause
pub passed_on : {A : Type 0} (r : Result A Stop) (stop : Stop) (P : Stop → Type 0) → IsErrAnd r (λ x. x ≡ stop) → P stop → IfErr r P
passed_on (Ok x) stop P same cause = tt
passed_on (Err e) stop P same cause = subst P (sym same) cause

-- why a visit that is new is not put in
pub put_cause : (visits : List Visit) (pairs : List (ℕ × Handle)) (v : Visit) (pos : Pos) → (Stands visits v → ⊥) → (stop : Stop) → IsPairCause pos (length (pairs ++ pair_of v)) stop → IsPutCause visits pairs v pos stop
put_cause visits pairs v pos new (stops.Refused x) cause = cause
put_cause visits pairs v pos new (stops.TooMuch x) cause = (cause.0, (new, cause.1))
put_cause visits pairs v pos new stops.NoMemory cause = tt
