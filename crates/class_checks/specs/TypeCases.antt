-- Types outside of bodies and field initialisers that are none: the name means no class, or two (JLS 6.4.1, 6.5.5), or the subset
-- has not the type.
use Rattle.std.specs.Prelude.{◌≡◌, ◌⊎◌, Bool, true, false, ◌&&◌, not, is_none, Option, Some, None, List, [], ◌++◌, flat_map, Contains, if◌then◌else◌}
use Rattle.rlc_base.specs.declared.code.Code.TheVariants as refused
use Rattle.rlc_base.specs.declared.faults.Refusal.{Refusal}
use Rattle.java_syntax.specs.declared.names.Typ.{Typ}
use Rattle.java_syntax.specs.declared.names.TypeName.{TypeName}
use Rattle.java_syntax.specs.declared.names.TypeName.TheVariants as names
use Rattle.java_syntax.specs.declared.declaration_trees.FieldDecl.{FieldDecl}
use Rattle.java_syntax.specs.declared.declaration_trees.Member.{Member}
use Rattle.java_syntax.specs.declared.declaration_trees.Member.TheVariants as members
use Rattle.java_syntax.specs.declared.declaration_trees.Param.{Param}
use Rattle.program_model.specs.declared.program.CoreClasses.{CoreClasses}
use Rattle.refusal_order.specs.Refusals.{where_true}
use Rattle.class_names.specs.declared.class_name.ClassName.{ClassName}
use Rattle.class_names.specs.Meanings.{CompilationUnit}
use Rattle.class_names.specs.WrittenTypes.{written_type}
use Rattle.class_order.specs.Core.{AreCore, core_missing}
use Rattle.class_order.specs.Declarations.{Declaration, class_names}
use Rattle.class_order.specs.UnknownNames.{unknown_names, unknown_supers}
use Rattle.class_order.specs.Modifiers.{has_final, has_static}
use Rattle.class_declarations.specs.Members.{Written, MethodOf, ConstructorOf, is_class_type, parameters_of, receiver_of, result_of, throws_of}

-- the refusal of a written type, at its first token: its name means no class or two, or it is an array over another class than
-- `String`
abbrev pub unknown_type : List ClassName → CompilationUnit → Typ → List Refusal
unknown_type classes u t = where_true (is_none (written_type classes u t)) refused.UnknownType t.pos

abbrev pub unknown_if_some : List ClassName → CompilationUnit → Option Typ → List Refusal
unknown_if_some classes u None = []
unknown_if_some classes u (Some t) = unknown_type classes u t

abbrev pub unknown_receiver : List ClassName → CompilationUnit → Option Param → List Refusal
unknown_receiver classes u None = []
unknown_receiver classes u (Some x) = unknown_type classes u x.typ

abbrev pub unknown_parameters : List ClassName → CompilationUnit → List Param → List Refusal
unknown_parameters classes u xs = flat_map (λ (x : Param). unknown_type classes u x.typ) xs

-- the types of a method's or constructor's head, its receiver parameter's too
abbrev pub unknown_in_head : List ClassName → CompilationUnit → Written → List Refusal
unknown_in_head classes u w =
    unknown_if_some classes u (result_of w) ++ unknown_receiver classes u (receiver_of w)
    ++ unknown_parameters classes u (parameters_of w) ++ unknown_names classes u (throws_of w)

-- the subset has no static fields of a class type other than `String`
abbrev pub bad_static : List ClassName → CompilationUnit → FieldDecl → List Refusal
bad_static classes u f = where_true (has_static f.modifiers.items && is_class_type (written_type classes u f.typ)) refused.UnknownType f.typ.pos

abbrev pub is_class_written : TypeName → Bool
is_class_written (names.Primitive p) = false
is_class_written (names.Named name) = true

-- a field of a stub that is looked at: a static final one whose type is the name of a class, and no array
abbrev pub is_read_in_stub : FieldDecl → Bool
is_read_in_stub f = has_static f.modifiers.items && has_final f.modifiers.items && not f.typ.is_array && is_class_written f.typ.name

abbrev pub unknown_in_field : List ClassName → CompilationUnit → FieldDecl → List Refusal
unknown_in_field classes u f =
    if u.library then (if is_read_in_stub f then unknown_type classes u f.typ else [])
    else unknown_type classes u f.typ ++ bad_static classes u f

abbrev pub unknown_in_member : List ClassName → CompilationUnit → Member → List Refusal
unknown_in_member classes u (members.Field f) = unknown_in_field classes u f
unknown_in_member classes u (members.Method m) = unknown_in_head classes u (MethodOf m)
unknown_in_member classes u (members.Constructor k) = unknown_in_head classes u (ConstructorOf k)

abbrev pub unknown_in_members : List ClassName → CompilationUnit → List Member → List Refusal
unknown_in_members classes u all = flat_map (unknown_in_member classes u) all

-- the refusals of the types of a class: of its super types and of its members
abbrev pub type_cases : List ClassName → Declaration → List Refusal
type_cases classes d = unknown_supers classes d ++ unknown_in_members classes d.unit d.class_tree.members.items

abbrev pub all_type_cases : List ClassName → List Declaration → List Refusal
all_type_cases classes order = flat_map (type_cases classes) order

abbrev pub LacksCore : List ClassName → Type 0
LacksCore classes = (k : CoreClasses) → AreCore classes k → ⊥

-- a refusal of the pass over types: that of a core library without a class that the language names, or that of a type
abbrev pub IsTypeCase : List Declaration → Refusal → Type 0
IsTypeCase order r = (LacksCore (class_names order) × (r ≡ core_missing)) ⊎ Contains (all_type_cases (class_names order) order) r
