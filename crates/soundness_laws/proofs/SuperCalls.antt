-- Behind a store into an owning field of `this`, or a call that may have made one, no step calls a super constructor.
use Rattle.std.proofs.Common.{◌≡◌, ℕ, false, Some, List, slice_get, refl, true≢false}
use Rattle.program_model.specs.declared.kinds.BodyId.{BodyId}
use Rattle.program_model.specs.declared.program.Program.{Program}
use Rattle.program_model.specs.declared.tree.Body.{Body}
use Rattle.program_model.specs.Lookups.{body_at}
use Rattle.program_model.specs.Validity.{IsTypedProgram}
use Rattle.java_control.specs.Remaining.{Todo}
use Rattle.control_actions.specs.declared.action.Action.{Action}
use Rattle.control_actions.specs.declared.action.Action.TheVariants as actions
use Rattle.content_laws.specs.Paths.{Move, relation_of}
use Rattle.content_laws.specs.StepStarts.{is_super}
use Rattle.content_laws.specs.SuperArguments.{SuperCallsPassNoThis}
use Rattle.content_laws.proofs.Orders.{IsBehind}
use Rattle.content_laws.proofs.StartReached.{body_there, moves_behind, reset_is_behind, store_is_behind}
use Rattle.content_laws.specs.PlainForms.{calls_constructor}
use Rattle.content_laws.specs.Storing.{HasStored, onward, opened, stored}

no_constructor : (p : Program) (a : Action) → is_super a ≡ false → calls_constructor p a ≡ false
no_constructor p (actions.Super m d n) is = absurd (true≢false is)
no_constructor p a is = refl

module _ (p : Program) (typed : IsTypedProgram p) (passes : SuperCallsPassNoThis p) where
  behind : (b : BodyId) (k : List Todo) → HasStored p b k → (x : Body) × (body_at p b ≡ Some x) × IsBehind x k
  behind b k (stored {k = j} i t f d comes there is) =
      let x = body_there p b j i t there in
      (x.0, x.1, store_is_behind p typed b x.0 x.1 passes j i t f d comes there is)
  behind b k (opened {k = j} i t comes there lends) =
      let x = body_there p b j i t there in
      (x.0, x.1, reset_is_behind p typed b x.0 x.1 passes j i t comes there lends)
  behind b k (onward {k = j} i t before there) =
      let x = behind b j before in
      (x.0, x.1, (moves_behind p typed b x.0 x.1 j i t x.2 there).1)

  pub supers_come_first : (b : BodyId) {k : List Todo} (i : ℕ) (t : Move (List Todo)) → HasStored p b k → slice_get ((relation_of p b).next k) i ≡ Some t → calls_constructor p t.action ≡ false
  supers_come_first b {k = k} i t before there =
      let x = behind b k before in
      no_constructor p t.action (moves_behind p typed b x.0 x.1 k i t x.2 there).0
