-- Where objects can stand while a body runs: an expression whose type is no class type gives no object but that of a `new String(..)`, and
-- neither a variable, a field, an element nor a result of such a type takes one (JLS 5.2, 10.10, 14.17, 15.12.2, 15.26).
use Rattle.std.specs.Prelude.{◌≡◌, ◌⊎◌, ℕ, ◌+◌, ◌<◌, true, false, Option, Some, None, IsSomeAnd, List, [], ◌∷◌}
use Rattle.program_model.specs.declared.kinds.ExprId.{ExprId}
use Rattle.program_model.specs.declared.kinds.FieldId.{FieldId}
use Rattle.program_model.specs.declared.kinds.MethodId.{MethodId}
use Rattle.program_model.specs.declared.kinds.MethodKind.TheVariants as methods
use Rattle.program_model.specs.declared.kinds.VType.{VType}
use Rattle.program_model.specs.declared.program.Field.{Field}
use Rattle.program_model.specs.declared.program.Method.{Method}
use Rattle.program_model.specs.declared.program.ParamSig.{ParamSig}
use Rattle.program_model.specs.declared.program.Program.{Program}
use Rattle.program_model.specs.declared.tree.Body.{Body}
use Rattle.program_model.specs.Lookups.{field_at, method_at, type_at, variable_type}
use Rattle.program_model.specs.Typing.{IsPrimitive}
use Rattle.program_model.specs.Validity.{is_class_type}
use Rattle.control_actions.specs.declared.action.Action.{Action}
use Rattle.control_actions.specs.declared.action.Action.TheVariants as actions
use Rattle.control_actions.specs.declared.action.Completion.{Completion}
use Rattle.control_actions.specs.declared.action.Completion.TheVariants as completions
use Rattle.control_actions.specs.declared.action.Edge.{Edge}
use Rattle.control_actions.specs.declared.action.Edge.TheVariants as edges
use Rattle.control_actions.specs.declared.action.Operator.{Operator}
use Rattle.control_actions.specs.declared.action.Operator.TheVariants as operators
use Rattle.control_actions.specs.declared.action.PlainValue.{PlainValue}
use Rattle.control_actions.specs.declared.action.PlainValue.TheVariants as plain
use Rattle.control_actions.specs.declared.action.Scope.{Scope}
use Rattle.control_actions.specs.declared.action.Scope.TheVariants as scopes
use Rattle.control_actions.specs.declared.action.TargetForm.{TargetForm}
use Rattle.control_actions.specs.declared.action.TargetForm.TheVariants as forms
use Rattle.control_actions.specs.declared.item.Closing.{Closing}
use Rattle.control_actions.specs.declared.place.Place.{Place}
use Rattle.control_actions.specs.declared.place.Place.TheVariants as places
use Rattle.java_control.specs.Owned.{declares_field, is_owning, place_of_field}
use Rattle.java_control.specs.Remaining.{Todo, Todos, nil, cons, Do, Ev, Act, Cond, NullFork, BoolFork, LoopEnd, For, Leave, Catch, Fin, Close, Finish, Supp, Out, Ended}

-- ---- types

-- what has the type is no object of a class: it is a number, a truth value, a text, an array or null. (A text may be an object of class `String`.)
abbrev pub NoObject : Option VType → Type 0
NoObject None = ⊥
NoObject (Some t) = is_class_type t ≡ false

abbrev pub type_of_field : Option Field → Option VType
type_of_field None = None
type_of_field (Some x) = Some x.vtype

abbrev pub field_type : Program → FieldId → Option VType
field_type p f = type_of_field (field_at p f)

abbrev pub result_of : Option Method → Option VType
result_of None = None
result_of (Some m) = m.sig.result

abbrev pub params_of : Option Method → List ParamSig
params_of None = []
params_of (Some m) = m.sig.params.items

-- the owning field of `this` that the body's class declares with this number has such a type
pub record HasNoObjectAt (p : Program) (b : Body) (k : ℕ) : Type 0 where
  pub field : FieldId
  pub place : place_of_field p field ≡ places.Field k
  pub owning : is_owning p field ≡ true
  pub declared : declares_field p b field ≡ true
  pub kind : NoObject (field_type p field)

-- ---- what an action asks of the temps, of which those of the depths `held` hold no object

-- a place of this type takes the value of the temp
abbrev pub Takes : Option VType → ℕ → (ℕ → Type 0) → Type 0
Takes t d held = NoObject t → held d

-- the parameters take the values of the temps from depth `d` on
abbrev pub TakesAll : List ParamSig → ℕ → (ℕ → Type 0) → Type 0
TakesAll [] d held = Unit {0}
TakesAll (x ∷ xs) d held = Takes (Some x.vtype) d held × TakesAll xs (d + 1) held

abbrev pub first_argument : TargetForm → ℕ → ℕ
first_argument forms.Static d = d
first_argument forms.This d = d + 1
first_argument forms.Super d = d + 1
first_argument forms.Other d = d + 1

-- a variable takes the value of a temp; all other copies are to temps
abbrev pub CopyFits : Body → Place → Place → (ℕ → Type 0) → Type 0
CopyFits b (places.Temp d) y held = Unit {0}
CopyFits b (places.Var x) (places.Temp d) held = Takes (variable_type b x) d held
CopyFits b x y held = ⊥

-- the constant of a library is an object
abbrev pub PlainFits : Place → PlainValue → Type 0
PlainFits (places.Temp d) v = Unit {0}
PlainFits x (plain.LibraryConstant m) = ⊥
PlainFits x v = Unit {0}

-- no object is stored into a static field or an array, and none is cast to a primitive type
abbrev pub OperandsFit : Operator → ℕ → (ℕ → Type 0) → Type 0
OperandsFit (operators.StoreStatic f) d held = held d
OperandsFit operators.StoreElement d held = held (d + 2)
OperandsFit (operators.Convert t) d held = held d × IsPrimitive t
OperandsFit o d held = Unit {0}

-- the value that is returned is no object where the result has such a type
abbrev pub Returns : Program → Body → Completion → (ℕ → Type 0) → Type 0
Returns p b (completions.ReturnValue d pos) held = Takes (result_of (method_at p b.method)) d held
Returns p b c held = Unit {0}

abbrev pub Fits : Program → Body → Action → (ℕ → Type 0) → Type 0
Fits p b (actions.Copy x y) held = CopyFits b x y held
Fits p b (actions.Move x y) held = CopyFits b x y held
Fits p b (actions.Plain x v) held = PlainFits x v
Fits p b (actions.Enter clause x d k) held = NoObject (variable_type b x) → ⊥
Fits p b (actions.Op o d n) held = OperandsFit o d held
Fits p b (actions.Put f d through_this) held = Takes (field_type p f) (d + 1) held
Fits p b (actions.PutOwn f d) held = Takes (field_type p f) d held
Fits p b (actions.Call m d n form) held = TakesAll (params_of (method_at p m)) (first_argument form d) held
Fits p b (actions.New m d n) held = TakesAll (params_of (method_at p m)) (d + 1) held
Fits p b (actions.Super m d n) held = TakesAll (params_of (method_at p m)) (d + 1) held
Fits p b (actions.End c) held = Returns p b c held
Fits p b a held = Unit {0}

-- ---- which temps hold no object, as far as it is known

abbrev pub nowhere_held : ℕ → Type 0
nowhere_held x = ⊥

-- those of less than this depth that held none
abbrev pub below : ℕ → (ℕ → Type 0) → ℕ → Type 0
below d held x = (x < d) × held x

-- and the one of this depth, where so
abbrev pub below_and_at : ℕ → Type 0 → (ℕ → Type 0) → ℕ → Type 0
below_and_at d there held x = below d held x ⊎ ((x ≡ d) × there)

-- and the one of this depth, where so, with all others
abbrev pub put_at : ℕ → Type 0 → (ℕ → Type 0) → ℕ → Type 0
put_at d there held x = ((x ≡ d → ⊥) × held x) ⊎ ((x ≡ d) × there)

-- when the expression is evaluated at this depth
abbrev pub evaluated : Body → ExprId → ℕ → (ℕ → Type 0) → ℕ → Type 0
evaluated b e d held = below_and_at d (NoObject (type_at b e)) held

-- what a place gives
abbrev pub GivesNone : Program → Body → Place → (ℕ → Type 0) → Type 0
GivesNone p b (places.Var x) held = NoObject (variable_type b x)
GivesNone p b (places.Field k) held = HasNoObjectAt p b k
GivesNone p b (places.Temp d) held = held d
GivesNone p b y held = ⊥

abbrev pub copied : Program → Body → Place → Place → (ℕ → Type 0) → ℕ → Type 0
copied p b (places.Temp d) y held = put_at d (GivesNone p b y held) held
copied p b x y held = held

abbrev pub moved : Place → Place → (ℕ → Type 0) → ℕ → Type 0
moved (places.Var x) (places.Temp d) held = below d held
moved x y held = nowhere_held

abbrev pub IsNone : PlainValue → Type 0
IsNone (plain.LibraryConstant m) = ⊥
IsNone v = Unit {0}

abbrev pub made_at : Place → PlainValue → (ℕ → Type 0) → ℕ → Type 0
made_at (places.Temp d) v held = below_and_at d (IsNone v) held
made_at x v held = held

abbrev pub dropped : Scope → (ℕ → Type 0) → ℕ → Type 0
dropped (scopes.Temp d) held = below d held
dropped (scopes.TempsAbove d) held = below d held
dropped x held = held

-- a constructor of class `String`: its objects stand where the static type is no class type
abbrev pub MakesText : Program → MethodId → Type 0
MakesText p m = IsSomeAnd (method_at p m) (λ x. (x.kind ≡ methods.Ctor) × (x.class ≡ p.core.string))

-- the completion's value
abbrev pub GivesNoneAt : Completion → (ℕ → Type 0) → Type 0
GivesNoneAt (completions.ReturnValue d pos) held = held d
GivesNoneAt c held = ⊥

-- after an action that throws nothing
abbrev pub after : Program → Body → Action → (ℕ → Type 0) → ℕ → Type 0
after p b actions.Skip held = held
after p b (actions.Copy x y) held = copied p b x y held
after p b (actions.Move x y) held = moved x y held
after p b (actions.Plain x v) held = made_at x v held
after p b (actions.Drop x) held = dropped x held
after p b (actions.Settle d c) held = below_and_at d (GivesNoneAt c held) held
after p b (actions.Enter clause x d k) held = below d held
after p b (actions.Test d) held = below d held
after p b (actions.Op k d n) held = below_and_at d (Unit {0}) held
after p b (actions.Get f d through_this) held = below_and_at d (NoObject (field_type p f)) held
after p b (actions.Put f d through_this) held = below_and_at d (held (d + 1)) held
after p b (actions.Cast t d) held = below_and_at d (NoObject (Some t)) held
after p b (actions.PutOwn f d) held = held
after p b (actions.Call m d n form) held = below_and_at d (NoObject (result_of (method_at p m))) held
after p b (actions.New m d n) held = below_and_at d (MakesText p m) held
after p b (actions.Super m d n) held = below d held
after p b (actions.Raise d c) held = below d held
after p b (actions.End c) held = held

-- after an action that throws: it leaves the exception where its result would stand
abbrev pub thrown_after : Action → (ℕ → Type 0) → ℕ → Type 0
thrown_after (actions.Op k d n) held = below d held
thrown_after (actions.Get f d through_this) held = below d held
thrown_after (actions.Put f d through_this) held = below d held
thrown_after (actions.Cast t d) held = below d held
thrown_after (actions.Call m d n form) held = below d held
thrown_after (actions.New m d n) held = below d held
thrown_after (actions.Super m d n) held = below d held
thrown_after (actions.Raise d c) held = below d held
thrown_after a held = nowhere_held

-- by the way that it goes
abbrev pub left_held : Program → Body → Action → Edge → (ℕ → Type 0) → ℕ → Type 0
left_held p b a (edges.Throws c) held = thrown_after a held
left_held p b a e held = after p b a held

-- ---- what is left of a body to run

-- an action that may throw leaves what is asked where its exception goes past
abbrev pub throws_past : Action → ((ℕ → Type 0) → Type 0) → (ℕ → Type 0) → Type 0
throws_past (actions.Op k d n) aside held = aside (below d held)
throws_past (actions.Get f d through_this) aside held = aside (below d held)
throws_past (actions.Put f d through_this) aside held = aside (below d held)
throws_past (actions.Cast t d) aside held = aside (below d held)
throws_past (actions.Call m d n form) aside held = aside (below d held)
throws_past (actions.New m d n) aside held = aside (below d held)
throws_past (actions.Super m d n) aside held = aside (below d held)
throws_past (actions.Raise d c) aside held = aside (below d held)
throws_past a aside held = Unit {0}

-- only variables are left by their scopes
abbrev pub leaves_names : Scope → Type 0 → Type 0
leaves_names (scopes.Declared s) rest = rest
leaves_names (scopes.Variable x) rest = rest
leaves_names (scopes.Temp d) rest = ⊥
leaves_names (scopes.TempsAbove d) rest = ⊥

-- a resource's `close` has no parameters (JLS 14.20.3)
abbrev pub ClosesPlainly : Program → Closing → Type 0
ClosesPlainly p r = params_of (method_at p r.close) ≡ []

-- a statement of depth `d` leaves the temps below as they are, whichever way it ends
abbrev pub rests : ((ℕ → Type 0) → Type 0) → ((ℕ → Type 0) → Type 0) → ℕ → (ℕ → Type 0) → Type 0
rests follows aside d held = follows (below d held) × aside (below d held)

-- what is asked of an item where a completion comes past it: `stops` is asked of what follows where it stops there, and `goes`
-- where it passes on
abbrev pub passes : Program → Todo → ((ℕ → Type 0) → Type 0) → ((ℕ → Type 0) → Type 0) → (ℕ → Type 0) → Type 0
passes p (LoopEnd w d) stops goes held = rests stops goes d held
passes p (Catch s d) stops goes held = rests stops goes d held
passes p (Fin f d) stops goes held = rests stops goes d held
passes p (Close r d) stops goes held = ClosesPlainly p r × rests stops goes d held
passes p (Finish c d f) stops goes held = goes (below d held)
passes p (Supp c d s) stops goes held = goes (below d held)
passes p (Leave x pos) stops goes held = leaves_names x (goes held)
passes p x stops goes held = goes held

-- Each action of the item finds the values that it asks, and what follows the item does, as `follows` tells; where a completion
-- leaves the item, `aside` tells it.
abbrev mutual
  pub ItemFits : Program → Body → Todo → ((ℕ → Type 0) → Type 0) → ((ℕ → Type 0) → Type 0) → (ℕ → Type 0) → Type 0
  ItemFits p b (Do s d) follows aside held = rests follows aside d held
  ItemFits p b (Ev e d) follows aside held = follows (evaluated b e d held) × aside (below d held)
  ItemFits p b (Act a pos) follows aside held = Fits p b a held × follows (after p b a held) × throws_past a aside held
  ItemFits p b (Cond c d x y) follows aside held = ItemsFit p b x follows aside (below d held) × ItemsFit p b y follows aside (below d held) × aside (below d held)
  ItemFits p b (NullFork pos d x y) follows aside held = ItemsFit p b x follows aside (below d held) × ItemsFit p b y follows aside (below d held)
  ItemFits p b (BoolFork pos d x y) follows aside held = ItemsFit p b x follows aside (below d held) × ItemsFit p b y follows aside (below d held)
  ItemFits p b (LoopEnd w d) follows aside held = rests follows aside d held
  ItemFits p b (For w d) follows aside held = rests follows aside d held
  ItemFits p b (Leave x pos) follows aside held = leaves_names x (follows held)
  ItemFits p b (Catch s d) follows aside held = rests follows aside d held
  ItemFits p b (Fin f d) follows aside held = rests follows aside d held
  ItemFits p b (Close r d) follows aside held = ClosesPlainly p r × rests follows aside d held
  ItemFits p b (Finish c d f) follows aside held = Returns p b c held × aside (below d held)
  ItemFits p b (Supp c d s) follows aside held = Returns p b c held × aside (below d held)
  ItemFits p b (Out c) follows aside held = Returns p b c held × aside held
  ItemFits p b Ended follows aside held = Unit {0}

  pub ItemsFit : Program → Body → Todos → ((ℕ → Type 0) → Type 0) → ((ℕ → Type 0) → Type 0) → (ℕ → Type 0) → Type 0
  ItemsFit p b nil follows aside held = follows held
  ItemsFit p b (cons x xs) follows aside held = ItemFits p b x (ItemsFit p b xs follows aside) (ItemsAside p b xs follows aside) held

  pub ItemsAside : Program → Body → Todos → ((ℕ → Type 0) → Type 0) → ((ℕ → Type 0) → Type 0) → (ℕ → Type 0) → Type 0
  ItemsAside p b nil follows aside held = aside held
  ItemsAside p b (cons x xs) follows aside held = passes p x (ItemsFit p b xs follows aside) (ItemsAside p b xs follows aside) held

abbrev mutual
  -- where the temps of the depths `held` hold no object, each action that is left to run finds the values that it asks
  pub FindsTypes : Program → Body → List Todo → (ℕ → Type 0) → Type 0
  FindsTypes p b [] held = Unit {0}
  FindsTypes p b (x ∷ k) held = ItemFits p b x (FindsTypes p b k) (FindsAside p b k) held

  -- so does each that is left when a completion goes past what is left, up to the first item at which it may stop
  pub FindsAside : Program → Body → List Todo → (ℕ → Type 0) → Type 0
  FindsAside p b [] held = Unit {0}
  FindsAside p b (x ∷ k) held = passes p x (FindsTypes p b k) (FindsAside p b k) held
