-- Steps that have their place: calls on objects and of super constructors, objects that are made, and stores into fields.
use Rattle.std.specs.Prelude.{◌≡◌, Bool, true, false, Option, Some, IsSomeAnd, Contains}
use Rattle.program_model.specs.declared.kinds.ExprId.{ExprId}
use Rattle.program_model.specs.declared.kinds.FieldId.{FieldId}
use Rattle.program_model.specs.declared.kinds.MethodId.{MethodId}
use Rattle.program_model.specs.declared.kinds.MethodKind.TheVariants as methods
use Rattle.program_model.specs.declared.kinds.StmtId.{StmtId}
use Rattle.program_model.specs.declared.program.Program.{Program}
use Rattle.program_model.specs.declared.tree.AssignmentTarget.{AssignmentTarget}
use Rattle.program_model.specs.declared.tree.AssignmentTarget.TheVariants as targets
use Rattle.program_model.specs.declared.tree.Body.{Body}
use Rattle.program_model.specs.declared.tree.ExpressionKind.{ExpressionKind}
use Rattle.program_model.specs.declared.tree.ExpressionKind.TheVariants as expressions
use Rattle.program_model.specs.declared.tree.StatementKind.{StatementKind}
use Rattle.program_model.specs.declared.tree.StatementKind.TheVariants as statements
use Rattle.program_model.specs.Lookups.{class_at, expression_at, method_at, statement_at}
use Rattle.program_model.specs.Overrides.{is_abstract}
use Rattle.program_model.specs.Typing.{kind_at}
use Rattle.java_control.specs.Owned.{declares_field, has_place, is_owning}
use Rattle.control_actions.specs.declared.action.Action.{Action}
use Rattle.control_actions.specs.declared.action.Action.TheVariants as actions
use Rattle.control_actions.specs.declared.action.TargetForm.TheVariants as forms
use Rattle.step_laws.specs.Targets.{RunsOnThis}

-- the body is that of a constructor, and the method is a constructor of the class that the body's class extends
abbrev pub IsOfSuperClass : Program → Body → MethodId → Type 0
IsOfSuperClass p b m =
    IsSomeAnd (method_at p b.method) (λ x. (x.kind ≡ methods.Ctor)
    × IsSomeAnd (class_at p x.class) (λ k. IsSomeAnd k.sup (λ c. IsSomeAnd (method_at p m) (λ y. (y.kind ≡ methods.Ctor) × (y.class ≡ c)))))

-- a super constructor is called by a constructor, and is one of the super class (JLS 8.8.7.1)
abbrev pub CallsSuperClass : Program → Body → Action → Type 0
CallsSuperClass p b (actions.Super m d n) = IsOfSuperClass p b m
CallsSuperClass p b a = Unit {0}

-- a call that has a target names an instance method (JLS 15.12.3)
abbrev pub NamesInstance : Program → Action → Type 0
NamesInstance p (actions.Call m d n forms.Static) = Unit {0}
NamesInstance p (actions.Call m d n form) = IsSomeAnd (method_at p m) (λ x. x.kind ≡ methods.Instance)
NamesInstance p a = Unit {0}

-- the statement is the call of this super constructor
abbrev pub IsCallOf : MethodId → StatementKind → Type 0
IsCallOf m (statements.SuperCall c) = c.constructor ≡ m
IsCallOf m k = ⊥

-- a call of a super constructor is that of a super call among the body's own statements (JLS 8.8.7)
abbrev pub StandsInBody : Body → Action → Type 0
StandsInBody b (actions.Super m d n) = (s : StmtId) × Contains b.stmts.items s × IsSomeAnd (statement_at b s) (λ x. IsCallOf m x.kind)
StandsInBody b a = Unit {0}

-- the object of a `new` is of a class that is not abstract (JLS 15.9.1)
abbrev pub MakesConcrete : Program → Action → Type 0
MakesConcrete p (actions.New m d n) = IsSomeAnd (method_at p m) (λ x. is_abstract p x.class ≡ false)
MakesConcrete p a = Unit {0}

-- an owning field of `this` that is stored is one that the body's class declares, in a body that has a `this`
abbrev pub StoresOwnField : Program → Body → Action → Type 0
StoresOwnField p b (actions.PutOwn f d) = (is_owning p f ≡ true) × (declares_field p b f ≡ true) × RunsOnThis p b
StoresOwnField p b a = Unit {0}

-- the expression reads the field of some object
abbrev pub IsOfField : FieldId → Option ExpressionKind → Type 0
IsOfField f (Some (expressions.Field e g)) = g ≡ f
IsOfField f k = ⊥

-- the target is the field, which is no owning field of `this` that the body's class declares
abbrev pub IsOtherField : Program → Body → FieldId → AssignmentTarget → Type 0
IsOtherField p b f (targets.Field e g) = (g ≡ f) × (has_place p b e g ≡ false)
IsOtherField p b f x = ⊥

-- The expression assigns the field, of `this` or of another object: by `=`, where it is no owning field of `this` that the body's class declares, or, of `this`
-- alone, by another operator (JLS 15.26, 15.14.2, 15.15.1).
abbrev pub AssignsField : Program → Body → FieldId → Bool → ExpressionKind → Type 0
AssignsField p b f through_this (expressions.Assignment x value) = IsOtherField p b f x
AssignsField p b f through_this (expressions.OperatorAssignment a) = IsOfField f (kind_at b a.target) × (through_this ≡ true)
AssignsField p b f through_this (expressions.PostfixStep a) = IsOfField f (kind_at b a.target) × (through_this ≡ true)
AssignsField p b f through_this k = ⊥

-- an expression of the body assigns the field
abbrev pub IsFieldAssigned : Program → Body → FieldId → Bool → Type 0
IsFieldAssigned p b f through_this = (e : ExprId) × IsSomeAnd (expression_at b e) (λ x. AssignsField p b f through_this x.kind)

-- a field that is stored, other than by `=` as an owning field of `this` in its class, is one that an expression of the body assigns
abbrev pub StoresAssignedField : Program → Body → Action → Type 0
StoresAssignedField p b (actions.Put f d through_this) = IsFieldAssigned p b f through_this
StoresAssignedField p b a = Unit {0}
