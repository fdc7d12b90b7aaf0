-- What the flow rules ask of a body beside its steps.
use Rattle.std.specs.Prelude.{ℕ, Bool, true, false, ◌&&◌, Option, Some, None, List, []}
use Rattle.std.specs.List.{list_any}
use Rattle.program_model.specs.declared.kinds.ClassId.{ClassId}
use Rattle.program_model.specs.declared.kinds.BodyId.{BodyId}
use Rattle.program_model.specs.declared.kinds.FieldId.{FieldId}
use Rattle.program_model.specs.declared.kinds.MethodKind.{MethodKind}
use Rattle.program_model.specs.declared.kinds.MethodKind.TheVariants as methods
use Rattle.program_model.specs.declared.program.Program.{Program}
use Rattle.program_model.specs.declared.program.Class.{Class}
use Rattle.program_model.specs.declared.program.Method.{Method}
use Rattle.program_model.specs.declared.program.Field.{Field}
use Rattle.program_model.specs.declared.program.Promise.{Promise}
use Rattle.program_model.specs.declared.tree.Body.{Body}
use Rattle.program_model.specs.Lookups.{body_at, method_at, class_at, field_at}
use Rattle.program_model.specs.SuperTests.{is_class}
use Rattle.must_call_sets.specs.Signatures.{is_position, is_present, is_must_call_method}

abbrev pub method_in : Program → Option Body → Option Method
method_in p None = None
method_in p (Some x) = method_at p x.method

-- the method or constructor whose body it is
abbrev pub method_of : Program → BodyId → Option Method
method_of p b = method_in p (body_at p b)

abbrev pub is_constructor_kind : MethodKind → Bool
is_constructor_kind methods.Ctor = true
is_constructor_kind _ = false

abbrev pub is_instance_kind : MethodKind → Bool
is_instance_kind methods.Instance = true
is_instance_kind _ = false

abbrev pub constructs : Option Method → Bool
constructs None = false
constructs (Some m) = is_constructor_kind m.kind

-- the body is that of a constructor
abbrev pub is_constructor : Program → BodyId → Bool
is_constructor p b = constructs (method_of p b)

abbrev pub alias_in : Option Method → Option ℕ
alias_in None = None
alias_in (Some m) = m.sig.alias

-- the position whose resource the body's result, or the constructed object, is an alias of
abbrev pub alias_position : Program → BodyId → Option ℕ
alias_position p b = alias_in (method_of p b)

-- a constructor whose object is an alias of an argument's resource
abbrev pub is_alias_constructor : Program → BodyId → Bool
is_alias_constructor p b = is_constructor p b && is_present (alias_position p b)

abbrev pub reset_in : Option Method → Option ℕ
reset_in None = None
reset_in (Some m) = m.sig.reset

-- the body's method creates the obligation of `this` anew
abbrev pub resets_this : Program → BodyId → Bool
resets_this p b = is_position (reset_in (method_of p b)) 0

abbrev pub is_super : ClassId → Option ClassId → Bool
is_super c None = false
is_super c (Some d) = is_class c d

-- a class extends it
abbrev pub is_extended : Program → ClassId → Bool
is_extended p c = list_any (λ (k : Class). is_super c k.sup) p.classes.items

abbrev pub is_extended_in : Program → Option Method → Bool
is_extended_in p None = false
is_extended_in p (Some m) = is_extended p m.class

-- a constructor of a class that another class extends
abbrev pub is_extended_constructor : Program → BodyId → Bool
is_extended_constructor p b = is_constructor p b && is_extended_in p (method_of p b)

abbrev pub is_finalizer_in : Program → Option Method → Bool
is_finalizer_in p None = false
is_finalizer_in p (Some m) = is_must_call_method p m.class m

-- the body is that of a must-call method of its class
abbrev pub is_finalizer : Program → BodyId → Bool
is_finalizer p b = is_finalizer_in p (method_of p b)

abbrev pub is_class_of : ClassId → Option Method → Bool
is_class_of c None = false
is_class_of c (Some m) = is_class c m.class

abbrev pub is_field_in : Program → BodyId → Option Field → Bool
is_field_in p b None = false
is_field_in p b (Some x) = x.owning && is_class_of x.class (method_of p b)

-- an owning field has a place of its own only in the bodies of the class that declares it
abbrev pub has_field_place : Program → BodyId → FieldId → Bool
has_field_place p b f = is_field_in p b (field_at p f)

abbrev pub promises_in : Option Method → List Promise
promises_in None = []
promises_in (Some m) = m.sig.promises.items

abbrev pub throwing_promises_in : Option Method → List Promise
throwing_promises_in None = []
throwing_promises_in (Some m) = m.sig.on_throw.items

abbrev pub fields_in : Option Class → List FieldId
fields_in None = []
fields_in (Some k) = k.fields.items

abbrev pub fields_of_method : Program → Option Method → List FieldId
fields_of_method p None = []
fields_of_method p (Some m) = fields_in (class_at p m.class)

-- the fields of the class of the body's method, in textual order
abbrev pub fields_of : Program → BodyId → List FieldId
fields_of p b = fields_of_method p (method_of p b)
