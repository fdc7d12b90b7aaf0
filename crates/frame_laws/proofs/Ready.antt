-- The steps of a frame that stands at a reached control are such as the laws on places ask for.
use Rattle.std.proofs.Common.{◌≡◌, ℕ, ◌<◌, false, Option, Some, None, length, slice_get, option_map, refl, sym, ap, ◌∙◌, subst}
use Rattle.std.proofs.lemmas.Option.{slice_get-map}
use Rattle.program_model.specs.declared.kinds.BodyId.{BodyId}
use Rattle.program_model.specs.declared.kinds.MethodId.{MethodId}
use Rattle.program_model.specs.declared.program.Program.{Program}
use Rattle.program_model.specs.declared.tree.Body.{Body}
use Rattle.ledger_steps.specs.Bodies.{alias_in}
use Rattle.java_control.specs.Calls.{called_method}
use Rattle.java_control.specs.Control.{Step, next_of}
use Rattle.control_actions.specs.declared.action.Action.{Action}
use Rattle.control_actions.specs.declared.action.Action.TheVariants as actions
use Rattle.control_actions.specs.declared.action.Edge.{Edge}
use Rattle.control_actions.specs.declared.action.Edge.TheVariants as edges
use Rattle.control_actions.specs.declared.place.Place.{Place}
use Rattle.control_actions.specs.declared.place.Place.TheVariants as places
use Rattle.ownership_rules.specs.Callees.{callee}
use Rattle.ownership_rules.specs.Facts.{PlaceSet, has_temp}
use Rattle.fact_laws.specs.Aliases.{alias_operand, gives_alias, operand_of}
use Rattle.fact_laws.specs.Accept.{Accept}
use Rattle.fact_laws.specs.Paths.{move_of, relation_of}
use Rattle.ledger_state.specs.declared.locals.Locals.{Locals}
use Rattle.ledger_moves.specs.Configuration.{Frame}
use Rattle.ledger_moves.specs.Choosing.{body_by, frame_steps, steps_by}
use Rattle.agreement.specs.PlacePlaces.{HasTarget, HasVariable, IsWay, SetsLocals}
use Rattle.agreement.specs.Agreement.{Stands}
use Rattle.agreement.specs.PlainForms.{HasPlainForms, IsPlainAction, IsPlainCall}
use Rattle.fact_laws.specs.Outcomes.{IsCallRow, IsPlainRow}
use Rattle.fact_laws.specs.Naming.{HasTargetIn, IsInBody}
use Rattle.fact_laws.proofs.NamedReached.{names_what_is_there}
use Rattle.frame_laws.proofs.Carried.{Ready}

-- the step is one of the control relation
pub step_here : (p : Program) (fr : Frame) (st : Stands p fr) (i : ℕ) (t : Step) → slice_get (frame_steps p fr) i ≡ Some t → slice_get (next_of p st.number fr.control) i ≡ Some t
step_here p fr st i t here = ap (λ (b : Option BodyId). slice_get (steps_by p b fr.control) i) (sym st.id) ∙ here

pub step_there : (p : Program) (fr : Frame) (st : Stands p fr) (i : ℕ) (t : Step) → slice_get (frame_steps p fr) i ≡ Some t
    → slice_get ((relation_of p st.number).next fr.control) i ≡ Some (move_of t)
step_there p fr st i t here =
    slice_get-map move_of (next_of p st.number fr.control) i
    ∙ ap (option_map move_of) (ap (λ (b : Option BodyId). slice_get (steps_by p b fr.control) i) (sym st.id) ∙ here)

-- what calls nothing and stores into no owning field sets variables and temps alone, and so does a call
pub row_sets : (p : Program) (a : Action) → IsPlainAction p a → IsPlainRow a → SetsLocals a
row_sets p actions.Skip plain row = tt
row_sets p (actions.Copy x y) plain row = plain
row_sets p (actions.Move x y) plain row = plain
row_sets p (actions.PutOwn f d) plain row = absurd row
row_sets p a plain row = tt

pub call_sets : (a : Action) → IsCallRow a → SetsLocals a
call_sets actions.Skip row = tt
call_sets (actions.Copy x y) row = absurd row
call_sets (actions.Move x y) row = absurd row
call_sets (actions.PutOwn f d) row = absurd row
call_sets a row = tt

has_variable : (l : Locals) (body : Body) (x : Place) → length l.variables ≡ length body.vars.items → IsInBody body x → HasVariable l x
has_variable l body (places.Var i) same in_body = subst (λ n. i < n) (sym same) in_body
has_variable l body x same in_body = tt

has_target : (l : Locals) (body : Body) (a : Action) → length l.variables ≡ length body.vars.items → HasTargetIn body a → HasTarget l a
has_target l body actions.Skip same in_body = tt
has_target l body (actions.Copy x y) same in_body = has_variable l body x same in_body
has_target l body (actions.Move x y) same in_body = has_variable l body x same in_body
has_target l body (actions.Plain x v) same in_body = has_variable l body x same in_body
has_target l body (actions.Enter clause x d k) same in_body = subst (λ n. x < n) (sym same) in_body
has_target l body a same in_body = tt

-- what has no aliased operand gives no alias
none_given : (p : Program) (a : Action) (e : Edge) (held : PlaceSet) → alias_operand p a ≡ None → gives_alias p a e held ≡ false
none_given p a edges.Go held none = ap (has_temp held) none
none_given p a edges.Null held none = refl
none_given p a edges.NonNull held none = refl
none_given p a edges.True held none = refl
none_given p a edges.False held none = refl
none_given p a (edges.Throws c) held none = refl

-- so what calls nothing gives none, nor does what names a method with no aliased argument
pub row_gives_none : (p : Program) (a : Action) (e : Edge) (held : PlaceSet) → IsPlainRow a → gives_alias p a e held ≡ false
row_gives_none p actions.Skip e held row = none_given p actions.Skip e held refl
row_gives_none p (actions.Call m d n form) e held row = absurd row
row_gives_none p (actions.New m d n) e held row = absurd row
row_gives_none p (actions.Super m d n) e held row = absurd row
row_gives_none p a e held row = none_given p a e held refl

pub named_gives_none : (p : Program) (a : Action) (e : Edge) (held : PlaceSet) → alias_in (callee p a) ≡ None → gives_alias p a e held ≡ false
named_gives_none p a e held none = none_given p a e held (ap (operand_of a) none)

-- the method that a call names
pub plain_call : (p : Program) (a : Action) (named : MethodId) → IsPlainAction p a → IsCallRow a → called_method a ≡ Some named → IsPlainCall p named
plain_call p actions.Skip named plain row is = absurd row
plain_call p (actions.New m d n) named plain row is = subst (IsPlainCall p) (let some : Some m ≡ Some named = is in cc) plain
plain_call p (actions.Call m d n f) named plain row is = subst (IsPlainCall p) (let some : Some m ≡ Some named = is in cc) plain
plain_call p (actions.Super m d n) named plain row is = subst (IsPlainCall p) (let some : Some m ≡ Some named = is in cc) plain.0
plain_call p a named plain row is = absurd row

module _ (p : Program) (ac : Accept p) (forms : HasPlainForms p) (fr : Frame) (st : Stands p fr) (i : ℕ) (t : Step)
    (here : slice_get (frame_steps p fr) i ≡ Some t) where
  pub plain_step : IsPlainAction p t.action
  plain_step = forms.steps st.number i (move_of t) st.control (step_there p fr st i t here)

  pub ready : IsWay t.action t.edge → Ready p fr.method fr.locals st.number st.body t.action t.edge
  ready way = record {
    at = st.at;
    method = ap (body_by p) st.id ∙ st.at;
    small = (ac.fits st.number).steps i (move_of t) st.control (step_there p fr st i t here);
    target = has_target fr.locals st.body t.action st.variables (names_what_is_there p ac.well_formed.valid.typed st.number st.body fr.control i (move_of t) st.at st.control (step_there p fr st i t here)).0;
    way = way;
  }
