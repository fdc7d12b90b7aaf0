-- What is true of an object by a fact, where the fact is read as while its frame waits for a call that creates the object's obligation anew.
use Rattle.std.proofs.Common.{◌≡◌, Bool, true, false, sym, subst}
use Rattle.std.specs.FinSet as set
use Rattle.rlc_base.proofs.SetLaws.{empty_within, within_trans}
use Rattle.program_model.specs.declared.program.Program.{Program}
use Rattle.ledger_obligations.specs.MustCallSets.{Names, must_of}
use Rattle.control_actions.specs.declared.fact.Fact.{Fact}
use Rattle.control_actions.specs.declared.fact.Origin.{Origin}
use Rattle.ledger_state.specs.declared.object.Object.{Object}
use Rattle.value_laws.specs.PlaceFacts.{IsTrueOf}
use Rattle.value_laws.specs.Renewing.{fact_as}

-- so read it is true where it is true as it stands, for a fact's origin asks for all that its class does
pub true_as : (p : Program) (anew : Bool) (x : Object) (o : Origin) (f : Fact) → o.full ≡ must_of p o.class → IsTrueOf p x o f → IsTrueOf p x o (fact_as anew f)
true_as p false x o f all truth = truth
true_as p true x o f all truth = record {
  finished = truth.finished;
  class = truth.class;
  bounded = truth.bounded;
  need = within_trans x.must (must_of p x.class) o.full truth.bounded (subst (λ (s : Names). set.is_subset (must_of p x.class) s ≡ true) (sym all) truth.class);
  called = empty_within x.called;
}

-- read anew, two facts of an origin say the same
pub true_alike : (p : Program) (x : Object) (o : Origin) (f g : Fact) → IsTrueOf p x o (fact_as true f) → IsTrueOf p x o (fact_as true g)
true_alike p x o f g truth = record {
  finished = truth.finished;
  class = truth.class;
  bounded = truth.bounded;
  need = truth.need;
  called = truth.called;
}
