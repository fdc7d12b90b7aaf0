-- The methods, constructors and constants of the table by their declarations, without their bodies (JLS 8.4, 8.8). Effective
-- signatures come later.
use Rattle.std.specs.Prelude.{◌≡◌, ◌<◌, ◌-◌, ◌^◌, false, Option, Some, None, IsSome, List, [], length, map, All}
use Rattle.std.specs.List.{AllZip}
use Rattle.java_syntax.specs.declared.names.Name.{Name}
use Rattle.java_syntax.specs.declared.names.Typ.{Typ}
use Rattle.java_syntax.specs.declared.declaration_trees.Param.{Param}
use Rattle.program_model.specs.declared.kinds.ClassId.{ClassId}
use Rattle.program_model.specs.declared.kinds.VType.{VType}
use Rattle.program_model.specs.declared.program.Method.{Method}
use Rattle.program_model.specs.declared.program.ParamSig.{ParamSig}
use Rattle.program_model.specs.declared.program.Sig.{Sig}
use Rattle.program_model.specs.NameSets.{no_names}
use Rattle.class_names.specs.declared.class_name.ClassName.{ClassName}
use Rattle.class_names.specs.Meanings.{CompilationUnit}
use Rattle.class_names.specs.WrittenTypes.{type_of_class, written_type}
use Rattle.class_headers.specs.SuperTypes.{class_named}
use Rattle.class_order.specs.Modifiers.{has_final, has_private}
use Rattle.class_declarations.specs.Members.{Written, WrittenMethod, is_abstract_in, kind_of, modifiers_of, name_of, parameters_of, pos_of, receiver_of, result_of, throws_of}
use Rattle.java_annotations.specs.Annotations.{Annotation, annotation_in, annotations_of}

-- ---- types that are known

abbrev pub IsKnown : List ClassName → CompilationUnit → Typ → Type 0
IsKnown classes u t = IsSome (written_type classes u t)

abbrev pub IsKnownResult : List ClassName → CompilationUnit → Option Typ → Type 0
IsKnownResult classes u None = Unit {0}
IsKnownResult classes u (Some t) = IsKnown classes u t

-- the types of a method's or constructor's head mean what they should: its parameters', its result's and its throws clause's
pub record IsKnownHead (classes : List ClassName) (u : CompilationUnit) (w : Written) : Type 0 where
  pub params : All (λ (x : Param). IsKnown classes u x.typ) (parameters_of w)
  pub result : IsKnownResult classes u (result_of w)
  pub throws : All (λ (n : Name). IsSome (class_named classes u n)) (throws_of w)

-- ---- types and signatures

-- no type where none is written, and else the one that is written
abbrev pub IsWrittenAs : List ClassName → CompilationUnit → Option Typ → Option VType → Type 0
IsWrittenAs classes u None None = Unit {0}
IsWrittenAs classes u None (Some t) = ⊥
IsWrittenAs classes u (Some w) None = ⊥
IsWrittenAs classes u (Some w) (Some t) = written_type classes u w ≡ Some t

abbrev pub IsNamedClass : List ClassName → CompilationUnit → Name → ClassId → Type 0
IsNamedClass classes u n c = class_named classes u n ≡ Some c

-- a parameter whose marks are not read yet
pub record IsUnread (x : ParamSig) : Type 0 where
  pub owning : x.owning ≡ false
  pub before : x.before ≡ no_names

-- a declared parameter (JLS 8.4.1)
pub record IsParameter (classes : List ClassName) (u : CompilationUnit) (w : Param) (x : ParamSig) : Type 0 where
  pub typ : written_type classes u w.typ ≡ Some x.vtype
  pub annotations : map annotation_in x.annos.items ≡ annotations_of w.modifiers.items
  pub unread : IsUnread x

abbrev pub receiver_annotations : Option Param → List Annotation
receiver_annotations None = []
receiver_annotations (Some w) = annotations_of w.modifiers.items

-- `this`: of the class that declares the method, whatever type a receiver parameter names
pub record IsReceiver (classes : List ClassName) (c : ClassId) (w : Option Param) (x : ParamSig) : Type 0 where
  pub typ : type_of_class classes c false ≡ Some x.vtype
  pub annotations : map annotation_in x.annos.items ≡ receiver_annotations w
  pub unread : IsUnread x

-- a signature of which nothing but types and the throws clause is read yet
pub record IsUnsigned (s : Sig) : Type 0 where
  pub owning_result : s.owning_result ≡ false
  pub alias : s.alias ≡ None
  pub first : s.first ≡ None
  pub reset : s.reset ≡ None
  pub promises : s.promises.items ≡ []
  pub on_throw : s.on_throw.items ≡ []
  pub interest : s.interest ≡ None

pub record IsSignature (classes : List ClassName) (c : ClassId) (u : CompilationUnit) (w : Written) (s : Sig) : Type 0 where
  pub params : AllZip (IsParameter classes u) (parameters_of w) s.params.items
  pub receiver : IsReceiver classes c (receiver_of w) s.receiver
  pub result : IsWrittenAs classes u (result_of w) s.result
  pub throws : AllZip (IsNamedClass classes u) (throws_of w) s.throws.items
  pub unsigned : IsUnsigned s

-- ---- members

-- a method's parameters and their count have numbers of 32 bits
abbrev pub HasFewParameters : Method → Type 0
HasFewParameters m = length m.sig.params.items < 2 ^ 32 - 1

-- a method, constructor or constant by what is written
pub record IsMethod (classes : List ClassName) (w : WrittenMethod) (m : Method) : Type 0 where
  pub class' : m.class ≡ w.class'
  pub name : m.name ≡ name_of w.written
  pub signature : IsSignature classes w.class' w.declaration.unit w.written m.sig
  pub kind : m.kind ≡ kind_of w.written
  pub private : m.is_private ≡ has_private (modifiers_of w.written)
  pub final : m.is_final ≡ has_final (modifiers_of w.written)
  pub abstract : m.is_abstract ≡ is_abstract_in w.declaration w.written
  pub body : m.body ≡ None
  pub annotations : map annotation_in m.annos.items ≡ annotations_of (modifiers_of w.written)
  pub place : m.pos ≡ pos_of w.written
