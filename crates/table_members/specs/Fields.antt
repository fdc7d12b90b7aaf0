-- The fields of the table by their declarations (JLS 8.3).
use Rattle.std.specs.Prelude.{◌≡◌, Bool, true, false, Option, Some, None, List, map}
use Rattle.program_model.specs.declared.kinds.Literal.{Literal}
use Rattle.program_model.specs.declared.kinds.VType.{VType}
use Rattle.program_model.specs.declared.program.Field.{Field}
use Rattle.annotation_kinds.specs.declared.annotation.AnnotationKind.TheVariants as annotations
use Rattle.class_names.specs.declared.class_name.ClassName.{ClassName}
use Rattle.class_names.specs.WrittenTypes.{written_type}
use Rattle.class_order.specs.Modifiers.{has_final, has_private, has_static}
use Rattle.class_declarations.specs.Members.{WrittenField}
use Rattle.java_annotations.specs.Annotations.{annotation_in, annotations_of, is_annotated}
use Rattle.java_annotations.specs.InitialValues.{IsInitial, written_value}

-- a field begins with this value, by what is written behind its `=`: the table keeps none of an instance field
abbrev pub IsFirstValue : Bool → VType → Option Literal → Option Literal → Type 0
IsFirstValue true t written value = IsInitial t written value
IsFirstValue false t written value = value ≡ None

-- a field by what is written
pub record IsField (classes : List ClassName) (w : WrittenField) (x : Field) : Type 0 where
  pub class' : x.class ≡ w.class'
  pub name : x.name ≡ w.variable.name.text
  pub typ : written_type classes w.declaration.unit w.field.typ ≡ Some x.vtype
  pub static : x.is_static ≡ has_static w.field.modifiers.items
  pub final : x.is_final ≡ has_final w.field.modifiers.items
  pub private : x.is_private ≡ has_private w.field.modifiers.items
  pub owning : x.owning ≡ is_annotated annotations.Owning (annotations_of w.field.modifiers.items)
  pub annotations : map annotation_in x.annos.items ≡ annotations_of w.field.modifiers.items
  pub place : x.pos ≡ w.variable.name.pos
  pub initial : IsFirstValue x.is_static x.vtype (written_value w.variable.initializer) x.initial
