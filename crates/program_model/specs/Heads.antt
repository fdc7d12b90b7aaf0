-- With what the body of a constructor begins: the call of the super class's constructor (JLS 8.8.7.1) and the initialisers of
-- the class's instance fields (JLS 8.3.2, 12.5).
use Rattle.std.specs.Prelude.{◌≡◌, ◌&&◌, not, Bool, true, false, Option, Some, None, List, [], ◌∷◌, map, flat_map, All, MatchBool}
use Rattle.std.specs.List.Sorted.{IsStrictlyIncreasing}
use Rattle.program_model.specs.declared.kinds.ClassId.{ClassId}
use Rattle.program_model.specs.declared.kinds.FieldId.{FieldId}
use Rattle.program_model.specs.declared.kinds.StmtId.{StmtId}
use Rattle.program_model.specs.declared.kinds.MethodKind.{MethodKind}
use Rattle.program_model.specs.declared.kinds.MethodKind.TheVariants as methods
use Rattle.program_model.specs.declared.program.Program.{Program}
use Rattle.program_model.specs.declared.program.Class.{Class}
use Rattle.program_model.specs.declared.program.Method.{Method}
use Rattle.program_model.specs.declared.tree.Body.{Body}
use Rattle.program_model.specs.declared.tree.TStmt.{TStmt}
use Rattle.program_model.specs.declared.tree.StatementKind.{StatementKind}
use Rattle.program_model.specs.declared.tree.StatementKind.TheVariants as statements
use Rattle.program_model.specs.Lookups.{class_at, method_at, optional, statement_at}
use Rattle.program_model.specs.SuperTests.{is_class}
use Rattle.program_model.specs.Typing.{assigned_field, kind_at, when_true}

-- the super call and the field initialisers
abbrev pub is_head_kind : StatementKind → Bool
is_head_kind (statements.SuperCall c) = true
is_head_kind (statements.FieldInitializer e) = true
is_head_kind k = false

abbrev pub is_super_call_kind : StatementKind → Bool
is_super_call_kind (statements.SuperCall c) = true
is_super_call_kind k = false

abbrev pub is_in : (StatementKind → Bool) → Option TStmt → Bool
is_in test None = false
is_in test (Some x) = test x.kind

abbrev pub is_head : Body → StmtId → Bool
is_head b s = is_in is_head_kind (statement_at b s)

abbrev pub is_super_call : Body → StmtId → Bool
is_super_call b s = is_in is_super_call_kind (statement_at b s)

-- where a statement is no such head, none behind it is
abbrev pub HeadsFirst : Body → List StmtId → Type 0
HeadsFirst b [] = Unit {0}
HeadsFirst b (s ∷ ss) = MatchBool (is_head b s) (HeadsFirst b ss) (All (λ t. is_head b t ≡ false) ss)

-- of the body's own statements the first alone may be a super call
abbrev pub OneSuperCall : Body → List StmtId → Type 0
OneSuperCall b [] = Unit {0}
OneSuperCall b (s ∷ ss) = All (λ t. is_super_call b t ≡ false) ss

abbrev pub begins_with_super_call : Body → List StmtId → Bool
begins_with_super_call b [] = false
begins_with_super_call b (s ∷ ss) = is_super_call b s

abbrev pub is_constructor : MethodKind → Bool
is_constructor methods.Ctor = true
is_constructor k = false

abbrev pub is_other_class : Program → Option ClassId → Bool
is_other_class p None = false
is_other_class p (Some d) = not (is_class d p.core.object)

-- the class extends another class than `Object`
abbrev pub extends_other : Program → Option Class → Bool
extends_other p None = false
extends_other p (Some k) = is_other_class p k.sup

abbrev pub asks_super_call : Program → Option Method → Bool
asks_super_call p None = false
asks_super_call p (Some m) = is_constructor m.kind && extends_other p (class_at p m.class)

-- the body begins with a super call exactly where it is a constructor's, of a class that extends another than `Object`
abbrev pub HasDueSuperCall : Program → Body → Type 0
HasDueSuperCall p b = begins_with_super_call b b.stmts.items ≡ asks_super_call p (method_at p b.method)

abbrev pub fields_initialized_in : Body → StatementKind → List FieldId
fields_initialized_in b (statements.FieldInitializer e) = optional (assigned_field b (kind_at b e))
fields_initialized_in b k = []

abbrev pub fields_initialized_at : Body → Option TStmt → List FieldId
fields_initialized_at b None = []
fields_initialized_at b (Some x) = fields_initialized_in b x.kind

-- the fields whose initialisers the body runs, in its order
abbrev pub initialized_fields : Body → List FieldId
initialized_fields b = flat_map (λ s. fields_initialized_at b (statement_at b s)) b.stmts.items

-- the initialisers run in the textual order of their fields, each once
abbrev pub HasInitializersInOrder : Body → Type 0
HasInitializersInOrder b = IsStrictlyIncreasing (map (λ f. f.0) (initialized_fields b))

abbrev pub class_of_constructor : Option Method → Option ClassId
class_of_constructor None = None
class_of_constructor (Some m) = when_true (is_constructor m.kind) m.class

-- the class whose objects the body constructs
abbrev pub constructed_class : Program → Body → Option ClassId
constructed_class p b = class_of_constructor (method_at p b.method)

-- two constructors of one class run the initialisers of the same fields
abbrev pub AgreeOnInitializers : Program → Body → Body → Type 0
AgreeOnInitializers p x y = (c : ClassId) → constructed_class p x ≡ Some c → constructed_class p y ≡ Some c → initialized_fields x ≡ initialized_fields y
