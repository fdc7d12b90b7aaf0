-- Which annotations, and which names of must-call sets, are refused. The sets and signatures of the program are read.
use Rattle.std.specs.Prelude.{ℕ, Bool, true, false, ◌&&◌, ◌||◌, not, Option, Some, None, is_none, List, [], ◌++◌, drop, length, codes, if◌then◌else◌}
use Rattle.std.specs.List.{flat_map, list_any}
use Rattle.std.specs.FinSet as set
use Rattle.std.specs.Str.{bytes_eq}
use Rattle.rlc_base.specs.declared.code.Code.TheVariants as refused
use Rattle.rlc_base.specs.declared.faults.Refusal.{Refusal}
use Rattle.rlc_base.specs.declared.name_id.NameId.{NameId}
use Rattle.program_model.specs.declared.kinds.ClassId.{ClassId}
use Rattle.program_model.specs.declared.kinds.MethodKind.{MethodKind}
use Rattle.program_model.specs.declared.kinds.MethodKind.TheVariants as methods
use Rattle.program_model.specs.declared.kinds.VType.{VType}
use Rattle.program_model.specs.declared.kinds.VType.TheVariants as types
use Rattle.program_model.specs.declared.program.Program.{Program}
use Rattle.program_model.specs.declared.program.Class.{Class}
use Rattle.program_model.specs.declared.program.Field.{Field}
use Rattle.program_model.specs.declared.program.Method.{Method}
use Rattle.program_model.specs.declared.program.ParamSig.{ParamSig}
use Rattle.program_model.specs.declared.program.RawAnno.{RawAnno}
use Rattle.program_model.specs.declared.kinds.MethodId.{MethodId}
use Rattle.program_model.specs.declared.tree.Body.{Body}
use Rattle.program_model.specs.declared.tree.TExpr.{TExpr}
use Rattle.program_model.specs.declared.tree.Var.{Var}
use Rattle.program_model.specs.Lookups.{class_at, method_at, variable_at}
use Rattle.program_model.specs.SuperTests.{has_class}
use Rattle.refusal_order.specs.Refusals.{where_true}
use Rattle.program_model.specs.NameSets.{Names, is_empty}
use Rattle.must_call_sets.specs.MustCallSets.{must_of, must_of_optional}
use Rattle.annotation_kinds.specs.declared.annotation.AnnotationKind.{AnnotationKind}
use Rattle.annotation_kinds.specs.declared.annotation.AnnotationKind.TheVariants as annotations
use Rattle.annotation_rules.specs.declared.declaration.Declaration.{Declaration}
use Rattle.annotation_rules.specs.declared.declaration.Declaration.TheVariants as declarations
use Rattle.annotation_kinds.specs.Annotations.{first_of, is_of, texts_at}
use Rattle.annotation_rules.specs.Declarations.{bad_annotation, declaration_cases}
use Rattle.effective_signatures.specs.Targets.{has_object, keeps_object, own_fields, target_of}
use Rattle.effective_signatures.specs.Effective.{is_plain, reset_by}
use Rattle.must_call_sets.specs.Assigned.{assigned_variable, is_spoken_variable}

-- ---- at a class

-- a class of exceptions has a set that is not empty
abbrev pub is_heavy_throwable : Program → Class → Bool
is_heavy_throwable p k = has_class k.above.items p.core.throwable && not (is_empty k.must)

abbrev pub is_plain_named : List ℕ → Option Method → Bool
is_plain_named name None = false
is_plain_named name (Some m) = is_plain m && bytes_eq m.name name

abbrev pub is_inheritable_named : List ℕ → Option Method → Bool
is_inheritable_named name None = false
is_inheritable_named name (Some m) = not m.is_private && is_plain_named name (Some m)

abbrev pub methods_in : Option Class → List MethodId
methods_in None = []
methods_in (Some k) = k.methods.items

-- a class or interface declares an instance method of the name without parameters that those under it inherit (JLS 8.4.8)
abbrev pub bequeaths : Program → List ℕ → ClassId → Bool
bequeaths p name d = list_any (λ m. is_inheritable_named name (method_at p m)) (methods_in (class_at p d))

-- the class declares or inherits an instance method of the name without parameters
abbrev pub has_plain_method : Program → Class → List ℕ → Bool
has_plain_method p k name = list_any (λ m. is_plain_named name (method_at p m)) k.methods.items || list_any (bequeaths p name) k.above.items

abbrev pub lacks_method : Program → Class → RawAnno → Bool
lacks_method p k a = list_any (λ name. not (has_plain_method p k name)) (texts_at a (codes "value"))

abbrev pub own_set_cases : Program → Class → Option RawAnno → List Refusal
own_set_cases p k None = []
own_set_cases p k (Some a) = where_true (lacks_method p k a) refused.NoSuchMustCall a.pos

abbrev pub class_cases : Program → Class → List Refusal
class_cases p k =
    declaration_cases declarations.Class k.annos.items
    ++ where_true (is_heavy_throwable p k) refused.BadAnno k.pos
    ++ own_set_cases p k (first_of annotations.InheritableMustCall k.annos.items)

-- ---- at a field

abbrev pub declaration_of_field : Field → Declaration
declaration_of_field x = if x.is_static then declarations.StaticField else declarations.InstanceField

abbrev pub field_cases : Field → List Refusal
field_cases x = declaration_cases (declaration_of_field x) x.annos.items

-- ---- at a method or constructor

abbrev pub is_library_in : Option Class → Bool
is_library_in None = false
is_library_in (Some k) = k.library

-- a class or interface, `String` among them
abbrev pub is_class_result : Option VType → Bool
is_class_result None = false
is_class_result (Some (types.Obj c)) = true
is_class_result (Some types.Str) = true
is_class_result (Some _) = false

abbrev pub declaration_of : Bool → Bool → MethodKind → Declaration
declaration_of library gives_class methods.Constant = declarations.StaticField
declaration_of library gives_class methods.Ctor = if library then declarations.LibraryConstructor else declarations.Constructor
declaration_of library gives_class methods.Instance = if library && gives_class then declarations.LibraryFactory else declarations.Method
declaration_of library gives_class methods.Static = if library && gives_class then declarations.LibraryFactory else declarations.Method

abbrev pub declaration_of_method : Program → Method → Declaration
declaration_of_method p m = declaration_of (is_library_in (class_at p m.class)) (is_class_result m.sig.result) m.kind

-- a text of the promise names no parameter and no owning field, or `this` or a field where there is no object
abbrev pub promises_nothing : Program → Method → AnnotationKind → Bool → RawAnno → Bool
promises_nothing p m kind with_object a =
    is_of kind a && list_any (λ text. is_none (target_of with_object (length m.sig.params.items) p.fields.items (own_fields p.classes.items m.class) text)) (texts_at a (codes "value"))

-- the reset has no target
abbrev pub resets_nothing : Method → RawAnno → Bool
resets_nothing m a = is_of annotations.CreatesMustCallFor a && is_none (reset_by m a)

-- what must be called on the result, or on the object that a constructor makes
abbrev pub full_set : Program → Method → MethodKind → Names
full_set p m methods.Ctor = must_of p m.class
full_set p m _ = must_of_optional p m.sig.result

abbrev pub is_beyond : Names → Option Names → Bool
is_beyond full None = false
is_beyond full (Some first) = not (set.is_subset first full)

-- the set that a fresh result starts with is not within that of its type
abbrev pub exceeds_type : Program → Method → RawAnno → Bool
exceeds_type p m a = is_of annotations.MustCall a && is_beyond (full_set p m m.kind) m.sig.first

abbrev pub has_bad_value : Program → Method → RawAnno → Bool
has_bad_value p m a =
    promises_nothing p m annotations.EnsuresCalledMethods (has_object m.kind) a
    || promises_nothing p m annotations.EnsuresCalledMethodsOnException (keeps_object m.kind) a
    || resets_nothing m a || exceeds_type p m a

-- the name must be called on objects of the class or of one under it
abbrev pub is_needed : Program → ClassId → Option NameId → Bool
is_needed p c None = false
is_needed p c (Some n) = list_any (λ (k : Class). has_class k.above.items c && set.contains k.must n.0) p.classes.items

-- annotations in wrong places, on the method, its receiver and its parameters
abbrev pub place_cases : Program → Method → List Refusal
place_cases p m =
    declaration_cases (declaration_of_method p m) m.annos.items
    ++ declaration_cases declarations.Receiver m.sig.receiver.annos.items
    ++ flat_map (λ (x : ParamSig). declaration_cases declarations.Parameter x.annos.items) m.sig.params.items

abbrev pub value_cases : Program → Method → List Refusal
value_cases p m = flat_map (λ a. bad_annotation (has_bad_value p m a) a) m.annos.items

-- a private method has a name that must be called, where it can't be
abbrev pub private_cases : Program → Method → List Refusal
private_cases p m = where_true (m.is_private && is_needed p m.class m.sig.interest) refused.NoSuchMustCall m.pos

abbrev pub method_cases : Program → Method → List Refusal
method_cases p m = place_cases p m ++ value_cases p m ++ private_cases p m

-- ---- in a body

abbrev pub parameter_count : Option Method → ℕ
parameter_count None = 0
parameter_count (Some m) = length m.sig.params.items

-- the variable is a parameter that the signature of the body's method speaks of
abbrev pub is_spoken_in : Option Method → ℕ → Bool
is_spoken_in None x = false
is_spoken_in (Some m) x = is_spoken_variable m x

abbrev pub assigned_at : Bool → Option Var → List Refusal
assigned_at holds None = []
assigned_at holds (Some v) = where_true holds refused.BadAnno v.pos

abbrev pub assigned_cases : Option Method → Body → Option ℕ → List Refusal
assigned_cases m b None = []
assigned_cases m b (Some x) = assigned_at (is_spoken_in m x) (variable_at b x)

-- none of the annotations may mark a variable that is no parameter; the others stand behind the parameters
abbrev pub variable_cases : Option Method → Body → List Refusal
variable_cases m b = flat_map (λ (v : Var). declaration_cases declarations.Variable v.annos.items) (drop (parameter_count m) b.vars.items)

-- a parameter that its signature speaks of is never assigned
abbrev pub assignment_cases : Option Method → Body → List Refusal
assignment_cases m b = flat_map (λ (e : TExpr). assigned_cases m b (assigned_variable b e.kind)) b.expressions.items

abbrev pub cases_in_body : Option Method → Body → List Refusal
cases_in_body m b = variable_cases m b ++ assignment_cases m b

abbrev pub body_cases : Program → Body → List Refusal
body_cases p b = cases_in_body (method_at p b.method) b

-- ---- the pass

-- all cases of both codes
abbrev pub annotation_cases : Program → List Refusal
annotation_cases p =
    flat_map (class_cases p) p.classes.items
    ++ flat_map field_cases p.fields.items
    ++ flat_map (method_cases p) p.methods.items
    ++ flat_map (body_cases p) p.bodies.items
