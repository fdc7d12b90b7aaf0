-- The table of a program without its bodies: what each of its parts is by the declarations (JLS 8, 9). Must-call sets, effective
-- signatures and the table of names come later.
use Rattle.std.specs.Prelude.{◌≡◌, ℕ, Some, None, List, [], map, slice_get}
use Rattle.std.specs.List.{AllZip}
use Rattle.java_syntax.specs.declared.settings.Settings.{Settings}
use Rattle.program_model.specs.declared.kinds.ClassId.{ClassId}
use Rattle.program_model.specs.declared.kinds.FieldId.{FieldId}
use Rattle.program_model.specs.declared.kinds.MethodId.{MethodId}
use Rattle.program_model.specs.declared.program.Class.{Class}
use Rattle.program_model.specs.declared.program.Program.{Program}
use Rattle.program_model.specs.NameSets.{no_names}
use Rattle.class_order.specs.Core.{AreCore}
use Rattle.class_order.specs.Declarations.{Declaration, class_names}
use Rattle.class_headers.specs.Headers.{AllList, Header, classes_of_names, declared_headers, header_of}
use Rattle.class_declarations.specs.Members.{WrittenField, WrittenMethod, fields_from, methods_from}
use Rattle.super_obligations.specs.SuperCases.{direct_in, supers_in}
use Rattle.java_annotations.specs.Annotations.{annotation_in, annotations_of}
use Rattle.table_members.specs.Fields.{IsField}
use Rattle.table_members.specs.Methods.{IsMethod}
use Rattle.class_table.specs.Numbers.{numbers_owned}

-- ---- members

-- all fields of the program, and all methods, constructors and constants, in class order and then as the text has them
abbrev pub all_fields : List Declaration → List WrittenField
all_fields order = fields_from 0 order

abbrev pub all_methods : List Declaration → List WrittenMethod
all_methods order = methods_from 0 (class_names order) order

-- the classes of these members
abbrev pub field_owners : List WrittenField → List ClassId
field_owners all = map (λ (w : WrittenField). w.class') all

abbrev pub method_owners : List WrittenMethod → List ClassId
method_owners all = map (λ (w : WrittenMethod). w.class') all

-- the numbers of the members of the class with this number
abbrev pub field_numbers : List Declaration → ℕ → List ℕ
field_numbers order n = numbers_owned n (field_owners (all_fields order))

abbrev pub method_numbers : List Declaration → ℕ → List ℕ
method_numbers order n = numbers_owned n (method_owners (all_methods order))

-- ---- classes

-- a class lists the members with these numbers, and its must-call set is not read yet. What it is, extends and implements its
-- header says
pub record HasMembers (own_fields own_methods : List ℕ) (d : Declaration) (k : Class) : Type 0 where
  pub fields : map (λ (f : FieldId). f.0) k.fields.items ≡ own_fields
  pub methods : map (λ (m : MethodId). m.0) k.methods.items ≡ own_methods
  pub annotations : map annotation_in k.annos.items ≡ annotations_of d.class_tree.modifiers.items
  pub own_must : k.own_must ≡ None
  pub must : k.must ≡ no_names

-- each class lists those that `fields` and `methods` say for its number
abbrev pub AllHave : (ℕ → List ℕ) → (ℕ → List ℕ) → List Declaration → List Class → Type 0
AllHave fields methods order classes =
    (n : ℕ) (d : Declaration) (k : Class) → slice_get order n ≡ Some d → slice_get classes n ≡ Some k → HasMembers (fields n) (methods n) d k

-- each class lists its own members
abbrev pub AllHaveOwn : List Declaration → List Class → Type 0
AllHaveOwn order classes = AllHave (field_numbers order) (method_numbers order) order classes

-- a class by what is known of it before its members
pub record Bare : Type 0 where
  pub header : Header
  pub above : List ClassId

abbrev pub bare_of : Class → Bare
bare_of k = record { header = header_of k; above = k.above.items }

-- ---- the table

-- the table of these classes, in this order, under these settings
pub record IsTable (order : List Declaration) (settings : Settings) (p : Program) : Type 0 where
  pub core : AreCore (class_names order) p.core
  pub headers : map header_of p.classes.items ≡ declared_headers order (supers_in order p.core)
  pub above : AllList (direct_in order p.core) p.classes.items
  pub members : AllHaveOwn order p.classes.items
  pub fields : AllZip (IsField (class_names order)) (all_fields order) p.fields.items
  pub methods : AllZip (IsMethod (class_names order)) (all_methods order) p.methods.items
  pub bodies : p.bodies.items ≡ []
  pub ignored : p.ignored.items ≡ classes_of_names (class_names order) settings.ignored.items
  pub exact : p.exact.items ≡ classes_of_names (class_names order) settings.exact.items
  pub names : p.names ≡ []
