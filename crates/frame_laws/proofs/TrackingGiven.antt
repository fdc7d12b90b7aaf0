-- A fact that moves at a call: the ledger gives its object to the owning parameter.
use Rattle.std.proofs.Common.{◌≡◌, ℕ, ◌+◌, true, not, Some, refl, subst, arith}
use Rattle.std.specs.FinSet as set
use Rattle.std.proofs.lemmas.Bool.{and_parts}
use Rattle.rlc_base.proofs.SetLaws.{within_trans}
use Rattle.program_model.specs.declared.kinds.MethodId.{MethodId}
use Rattle.program_model.specs.declared.program.Program.{Program}
use Rattle.ledger_steps.specs.MustCallSets.{must_of, must_of_type}
use Rattle.control_actions.specs.declared.action.Action.{Action}
use Rattle.control_actions.specs.declared.action.Edge.{Edge}
use Rattle.control_actions.specs.declared.fact.Fact.{Fact}
use Rattle.control_actions.specs.declared.fact.Origin.{Origin}
use Rattle.ownership_rules.specs.Callees.{callee}
use Rattle.ownership_rules.specs.SmallActions.{IsSmallAction}
use Rattle.ownership_rules.specs.MovesAtCalls.{moved_at_call}
use Rattle.ownership_rules.specs.declared.moved.Moved.TheVariants as moves
use Rattle.ledger_state.specs.Contents.{HeapContents}
use Rattle.ledger_state.specs.Heaps.{root_of}
use Rattle.ledger_state.specs.declared.entry.Owner.TheVariants as owners
use Rattle.ledger_state.specs.declared.locals.Locals.{Locals}
use Rattle.ledger_state.specs.declared.object.Object.{Object}
use Rattle.ledger_steps.specs.Obligations.{is_unmet}
use Rattle.ledger_steps.specs.LedgerCallsCalls.{operand_of, params_in}
use Rattle.agreement.specs.Heaps.{IsGiven}
use Rattle.agreement.specs.Agreement.{Follows}
use Rattle.frame_laws.proofs.CallNames.{operand_is_near, operand_of_fact}
use Rattle.frame_laws.proofs.Moving.{moved_is_given}

pub given_argument : (p : Program) (h : HeapContents) (m : MethodId) (l : Locals) (a : Action) (e : Edge) (o j : ℕ) (x : Object) (origin : Origin) (f : Fact) → IsSmallAction p a
    → Follows p h m l o x origin f → is_unmet x ≡ true → x.owner ≡ owners.Frame j → moved_at_call p origin a e f ≡ moves.Moves → IsGiven p (operand_of l a) 1 (params_in (callee p a)) h o x
given_argument p h m l a e o j x origin f small follows unmet mine moved =
    let given = moved_is_given p origin a e f moved in
    let near = operand_is_near p a f.places given.index small given.operand in
    let root = operand_of_fact p h m l a o (given.index + 1) f.places small (omega (arith, near)) follows.places given.operand in
    let finished : x.finished ≡ true = (and_parts x.finished (not (set.is_subset x.must x.called)) unmet).0 in
    let fits' = within_trans (must_of p x.class) (must_of p origin.class) (must_of_type p given.param.vtype) follows.class given.fits in
    record {
      index = given.index;
      param = given.param;
      at = given.at;
      owning = given.owning;
      root = subst (λ (n : ℕ). root_of h (operand_of l a n) ≡ Some o) (omega arith) root;
      may = rw (finished, mine, fits') refl;
    }
