-- Where objects of a class `bound` stand while a body runs: an expression whose static type is under the class gives an object of the class or null,
-- and a variable, a field and a result of such a type take nothing else (JLS 4.10.2, 5.2, 14.17, 14.18, 14.20, 15.8.3, 15.9.4, 15.12.2, 15.26).
pub use Rattle.step_laws.specs.Operands.{below_and_at, dropped, field_type, moved, params_of, result_of, thrown_after, type_of_field}
use Rattle.std.specs.Prelude.{◌≡◌, ℕ, ◌+◌, Bool, true, false, Option, Some, None, List, [], ◌∷◌, slice_get}
use Rattle.program_model.specs.declared.kinds.ClassId.{ClassId}
use Rattle.program_model.specs.declared.kinds.ExprId.{ExprId}
use Rattle.program_model.specs.declared.kinds.FieldId.{FieldId}
use Rattle.program_model.specs.declared.kinds.Literal.{Literal}
use Rattle.program_model.specs.declared.kinds.Literal.TheVariants as literals
use Rattle.program_model.specs.declared.kinds.OperandType.TheVariants as operand_types
use Rattle.program_model.specs.declared.kinds.VType.{VType}
use Rattle.program_model.specs.declared.kinds.VType.TheVariants as types
use Rattle.program_model.specs.declared.program.Method.{Method}
use Rattle.program_model.specs.declared.program.ParamSig.{ParamSig}
use Rattle.program_model.specs.declared.program.Program.{Program}
use Rattle.program_model.specs.declared.tree.Body.{Body}
use Rattle.program_model.specs.declared.tree.CatchClause.{CatchClause}
use Rattle.program_model.specs.Lookups.{method_at, statement_at, type_at, variable_type}
use Rattle.program_model.specs.SuperTests.{is_under}
use Rattle.java_control.specs.Exceptions.{clauses_in}
use Rattle.control_actions.specs.declared.action.Action.{Action}
use Rattle.control_actions.specs.declared.action.Action.TheVariants as actions
use Rattle.control_actions.specs.declared.action.ClauseId.{ClauseId}
use Rattle.control_actions.specs.declared.action.Completion.{Completion}
use Rattle.control_actions.specs.declared.action.Completion.TheVariants as completions
use Rattle.control_actions.specs.declared.action.Edge.{Edge}
use Rattle.control_actions.specs.declared.action.Edge.TheVariants as edges
use Rattle.control_actions.specs.declared.action.Operator.{Operator}
use Rattle.control_actions.specs.declared.action.Operator.TheVariants as operators
use Rattle.control_actions.specs.declared.action.PlainValue.{PlainValue}
use Rattle.control_actions.specs.declared.action.PlainValue.TheVariants as plain
use Rattle.control_actions.specs.declared.action.TargetForm.{TargetForm}
use Rattle.control_actions.specs.declared.action.TargetForm.TheVariants as forms
use Rattle.control_actions.specs.declared.place.Place.{Place}
use Rattle.control_actions.specs.declared.place.Place.TheVariants as places
use Rattle.java_control.specs.Owned.{declares_field, is_owning, place_of_field}
use Rattle.java_control.specs.Remaining.{Todo, Todos, nil, cons, Do, Ev, Act, Cond, NullFork, BoolFork, LoopEnd, For, Leave, Catch, Fin, Close, Finish, Supp, Out, Ended}
use Rattle.step_laws.specs.Operands.{ClosesPlainly, below, first_argument, leaves_names, passes, put_at, rests, throws_past}

-- ---- types

-- `String` is not under the class, so no text is stored where objects of it are kept (JLS 4.3.3, 4.10.2)
abbrev pub IsNotAboveString : Program → ClassId → Type 0
IsNotAboveString p bound = is_under p p.core.string bound ≡ false

-- the type is a class under `bound`, or that of null, whose value stands for an object of any class (JLS 4.1)
abbrev pub IsOfClass : Program → ClassId → VType → Type 0
IsOfClass p bound (types.Obj c) = is_under p c bound ≡ true
IsOfClass p bound types.NullType = Unit {0}
IsOfClass p bound t = ⊥

abbrev pub OfClass : Program → ClassId → Option VType → Type 0
OfClass p bound None = ⊥
OfClass p bound (Some t) = IsOfClass p bound t

-- the type of the class that declares the method: that of its `this`, and of the objects that a constructor makes (JLS 15.8.3, 15.9.4)
abbrev pub own_type : Option Method → Option VType
own_type None = None
own_type (Some m) = Some (types.Obj m.class)

-- the owning field of `this` that the body's class declares with this number has such a type
pub record HasFieldOfClass (p : Program) (bound : ClassId) (b : Body) (k : ℕ) : Type 0 where
  pub field : FieldId
  pub place : place_of_field p field ≡ places.Field k
  pub owning : is_owning p field ≡ true
  pub declared : declares_field p b field ≡ true
  pub kind : OfClass p bound (field_type p field)

-- ---- what an action asks of the temps, of which those of the depths `held` hold an object of the class or null

-- a place of this type takes the value of the temp
abbrev pub Takes : Program → ClassId → Option VType → ℕ → (ℕ → Type 0) → Type 0
Takes p bound t d held = OfClass p bound t → held d

-- the parameters take the values of the temps from depth `d` on
abbrev pub TakesAll : Program → ClassId → List ParamSig → ℕ → (ℕ → Type 0) → Type 0
TakesAll p bound [] d held = Unit {0}
TakesAll p bound (x ∷ xs) d held = Takes p bound (Some x.vtype) d held × TakesAll p bound xs (d + 1) held

-- the target of `super.m()` is `this` (JLS 15.12.1): its class is under that of the method. (Any other target is tested when the call begins.)
abbrev pub TakesTarget : Program → ClassId → TargetForm → Option VType → ℕ → (ℕ → Type 0) → Type 0
TakesTarget p bound forms.Super t d held = Takes p bound t d held
TakesTarget p bound form t d held = Unit {0}

-- a variable takes the value of a temp; all other copies are to temps
abbrev pub CopyFits : Program → ClassId → Body → Place → Place → (ℕ → Type 0) → Type 0
CopyFits p bound b (places.Temp d) y held = Unit {0}
CopyFits p bound b (places.Var x) (places.Temp d) held = Takes p bound (variable_type b x) d held
CopyFits p bound b x y held = ⊥

abbrev pub IsNull : Literal → Type 0
IsNull literals.Null = Unit {0}
IsNull l = ⊥

-- what stands there without being computed is an object of the class or null: null itself, the default value of such a type (JLS 4.12.5), or the constant of a library
abbrev pub GivesOwnType : Program → ClassId → PlainValue → Type 0
GivesOwnType p bound (plain.Literal l) = IsNull l
GivesOwnType p bound (plain.Default t) = IsOfClass p bound t
GivesOwnType p bound (plain.StaticField f) = ⊥
GivesOwnType p bound (plain.LibraryConstant m) = OfClass p bound (result_of (method_at p m))

-- the constant of a library is read into a temp
abbrev pub PlainFits : Program → ClassId → Body → Place → PlainValue → Type 0
PlainFits p bound b (places.Var x) (plain.LibraryConstant m) = ⊥
PlainFits p bound b (places.Var x) v = OfClass p bound (variable_type b x) → GivesOwnType p bound v
PlainFits p bound b x v = Unit {0}

-- the value that is returned is an object of the class or null where the result has such a type
abbrev pub Returns : Program → ClassId → Body → Completion → (ℕ → Type 0) → Type 0
Returns p bound b (completions.ReturnValue d pos) held = Takes p bound (result_of (method_at p b.method)) d held
Returns p bound b c held = Unit {0}

-- the variable is the parameter of the clause (JLS 14.20)
abbrev pub EntersClause : Body → ClauseId → ℕ → Type 0
EntersClause b clause x = (z : CatchClause) → slice_get (clauses_in (statement_at b clause.statement)) clause.index ≡ Some z → z.variable ≡ x

-- The operator is that of texts (JLS 15.18.1), so its result is a text.
abbrev pub GivesText : Operator → Type 0
GivesText (operators.Binary o operand_types.Text types.Str) = Unit {0}
GivesText o = ⊥

-- An owning field of `this` that the body's class declares is stored so by another operator than `=` alone: where it is of type `String`, it takes a text
-- that the operator has made (JLS 15.26.2), which may stand for null as well as for an object of the class.
abbrev pub UpdateFits : Program → Body → FieldId → Bool → ℕ → (ℕ → Type 0) → Type 0
UpdateFits p b f true d held = is_owning p f ≡ true → declares_field p b f ≡ true → field_type p f ≡ Some types.Str → held (d + 1)
UpdateFits p b f false d held = Unit {0}

-- What is thrown is of a class under `Throwable`, or null (JLS 14.18): so it is an object of the class or null where `Throwable` is under that.
abbrev pub Fits : Program → ClassId → Body → Action → (ℕ → Type 0) → Type 0
Fits p bound b (actions.Copy x y) held = CopyFits p bound b x y held
Fits p bound b (actions.Move x y) held = CopyFits p bound b x y held
Fits p bound b (actions.Plain x v) held = PlainFits p bound b x v
Fits p bound b (actions.Enter clause x d k) held = EntersClause b clause x
Fits p bound b (actions.Put f d through_this) held = Takes p bound (field_type p f) (d + 1) held × UpdateFits p b f through_this d held
Fits p bound b (actions.PutOwn f d) held = Takes p bound (field_type p f) d held
Fits p bound b (actions.Call m d n form) held = TakesAll p bound (params_of (method_at p m)) (first_argument form d) held × TakesTarget p bound form (own_type (method_at p m)) d held
Fits p bound b (actions.New m d n) held = TakesAll p bound (params_of (method_at p m)) (d + 1) held
Fits p bound b (actions.Super m d n) held = TakesAll p bound (params_of (method_at p m)) (d + 1) held × Takes p bound (own_type (method_at p m)) d held
Fits p bound b (actions.Raise d c) held = Takes p bound (Some (types.Obj p.core.throwable)) d held
Fits p bound b (actions.End c) held = Returns p bound b c held
Fits p bound b a held = Unit {0}

-- ---- which temps hold an object of the class or null, as far as it is known

-- when the expression is evaluated at this depth
abbrev pub evaluated : Program → ClassId → Body → ExprId → ℕ → (ℕ → Type 0) → ℕ → Type 0
evaluated p bound b e d held = below_and_at d (OfClass p bound (type_at b e)) held

-- what a place gives
abbrev pub GivesClass : Program → ClassId → Body → Place → (ℕ → Type 0) → Type 0
GivesClass p bound b (places.Var x) held = OfClass p bound (variable_type b x)
GivesClass p bound b (places.Field k) held = HasFieldOfClass p bound b k
GivesClass p bound b (places.Temp d) held = held d
GivesClass p bound b places.This held = OfClass p bound (own_type (method_at p b.method))
GivesClass p bound b places.Super held = ⊥

abbrev pub copied : Program → ClassId → Body → Place → Place → (ℕ → Type 0) → ℕ → Type 0
copied p bound b (places.Temp d) y held = put_at d (GivesClass p bound b y held) held
copied p bound b x y held = held

abbrev pub made_at : Program → ClassId → Place → PlainValue → (ℕ → Type 0) → ℕ → Type 0
made_at p bound (places.Temp d) v held = below_and_at d (GivesOwnType p bound v) held
made_at p bound x v held = held

-- the completion's value
abbrev pub GivesHeld : Completion → (ℕ → Type 0) → Type 0
GivesHeld (completions.ReturnValue d pos) held = held d
GivesHeld c held = ⊥

-- after an action that throws nothing
abbrev pub after : Program → ClassId → Body → Action → (ℕ → Type 0) → ℕ → Type 0
after p bound b actions.Skip held = held
after p bound b (actions.Copy x y) held = copied p bound b x y held
after p bound b (actions.Move x y) held = moved x y held
after p bound b (actions.Plain x v) held = made_at p bound x v held
after p bound b (actions.Drop x) held = dropped x held
after p bound b (actions.Settle d c) held = below_and_at d (GivesHeld c held) held
after p bound b (actions.Enter clause x d k) held = below d held
after p bound b (actions.Test d) held = below d held
after p bound b (actions.Op k d n) held = below_and_at d (GivesText k) held
after p bound b (actions.Get f d through_this) held = below_and_at d (OfClass p bound (field_type p f)) held
after p bound b (actions.Put f d through_this) held = below_and_at d (held (d + 1)) held
after p bound b (actions.Cast t d) held = below_and_at d (IsOfClass p bound t) held
after p bound b (actions.PutOwn f d) held = held
after p bound b (actions.Call m d n form) held = below_and_at d (OfClass p bound (result_of (method_at p m))) held
after p bound b (actions.New m d n) held = below_and_at d (OfClass p bound (own_type (method_at p m))) held
after p bound b (actions.Super m d n) held = below d held
after p bound b (actions.Raise d c) held = below d held
after p bound b (actions.End c) held = held

-- by the way that it goes
abbrev pub left_held : Program → ClassId → Body → Action → Edge → (ℕ → Type 0) → ℕ → Type 0
left_held p bound b a (edges.Throws c) held = thrown_after a held
left_held p bound b a e held = after p bound b a held

-- ---- what is left of a body to run

-- Each action of the item finds the values that it asks, and what follows the item does, as `follows` tells; where a completion
-- leaves the item, `aside` tells it.
abbrev mutual
  pub ItemFits : Program → ClassId → Body → Todo → ((ℕ → Type 0) → Type 0) → ((ℕ → Type 0) → Type 0) → (ℕ → Type 0) → Type 0
  ItemFits p bound b (Do s d) follows aside held = rests follows aside d held
  ItemFits p bound b (Ev e d) follows aside held = follows (evaluated p bound b e d held) × aside (below d held)
  ItemFits p bound b (Act a pos) follows aside held = Fits p bound b a held × follows (after p bound b a held) × throws_past a aside held
  ItemFits p bound b (Cond c d x y) follows aside held = ItemsFit p bound b x follows aside (below d held) × ItemsFit p bound b y follows aside (below d held) × aside (below d held)
  ItemFits p bound b (NullFork pos d x y) follows aside held = ItemsFit p bound b x follows aside (below d held) × ItemsFit p bound b y follows aside (below d held)
  ItemFits p bound b (BoolFork pos d x y) follows aside held = ItemsFit p bound b x follows aside (below d held) × ItemsFit p bound b y follows aside (below d held)
  ItemFits p bound b (LoopEnd w d) follows aside held = rests follows aside d held
  ItemFits p bound b (For w d) follows aside held = rests follows aside d held
  ItemFits p bound b (Leave x pos) follows aside held = leaves_names x (follows held)
  ItemFits p bound b (Catch s d) follows aside held = rests follows aside d held
  ItemFits p bound b (Fin f d) follows aside held = rests follows aside d held
  ItemFits p bound b (Close r d) follows aside held = ClosesPlainly p r × rests follows aside d held
  ItemFits p bound b (Finish c d f) follows aside held = Returns p bound b c held × aside (below d held)
  ItemFits p bound b (Supp c d s) follows aside held = Returns p bound b c held × aside (below d held)
  ItemFits p bound b (Out c) follows aside held = Returns p bound b c held × aside held
  ItemFits p bound b Ended follows aside held = Unit {0}

  pub ItemsFit : Program → ClassId → Body → Todos → ((ℕ → Type 0) → Type 0) → ((ℕ → Type 0) → Type 0) → (ℕ → Type 0) → Type 0
  ItemsFit p bound b nil follows aside held = follows held
  ItemsFit p bound b (cons x xs) follows aside held = ItemFits p bound b x (ItemsFit p bound b xs follows aside) (ItemsAside p bound b xs follows aside) held

  pub ItemsAside : Program → ClassId → Body → Todos → ((ℕ → Type 0) → Type 0) → ((ℕ → Type 0) → Type 0) → (ℕ → Type 0) → Type 0
  ItemsAside p bound b nil follows aside held = aside held
  ItemsAside p bound b (cons x xs) follows aside held = passes p x (ItemsFit p bound b xs follows aside) (ItemsAside p bound b xs follows aside) held

abbrev mutual
  -- where the temps of the depths `held` hold an object of the class or null, each action that is left to run finds the values that it asks
  pub FindsClass : Program → ClassId → Body → List Todo → (ℕ → Type 0) → Type 0
  FindsClass p bound b [] held = Unit {0}
  FindsClass p bound b (x ∷ k) held = ItemFits p bound b x (FindsClass p bound b k) (FindsAside p bound b k) held

  -- so does each that is left when a completion goes past what is left, up to the first item at which it may stop
  pub FindsAside : Program → ClassId → Body → List Todo → (ℕ → Type 0) → Type 0
  FindsAside p bound b [] held = Unit {0}
  FindsAside p bound b (x ∷ k) held = passes p x (FindsClass p bound b k) (FindsAside p bound b k) held
