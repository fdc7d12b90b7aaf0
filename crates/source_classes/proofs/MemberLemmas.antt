-- Members beside their numbers.
use Rattle.std.proofs.Common.{◌≡◌, ◌∙◌, ap, refl, List, [], ◌∷◌, ◌++◌, map}
use Rattle.std.specs.Prelude.{Bool, true, false, cond, zip}
use Rattle.std.proofs.lemmas.List.{append-nil, map-append}
use Rattle.program_model.specs.declared.kinds.ClassId.{ClassId}
use Rattle.program_model.specs.declared.kinds.FieldId.{FieldId}
use Rattle.program_model.specs.declared.kinds.MethodId.{MethodId}
use Rattle.java_syntax.specs.declared.declaration_trees.FieldDecl.{FieldDecl}
use Rattle.java_syntax.specs.declared.declaration_trees.Member.{Member}
use Rattle.java_syntax.specs.declared.declaration_trees.Member.TheVariants as members
use Rattle.java_syntax.specs.declared.statement_trees.Variable.{Variable}
use Rattle.class_names.specs.ClassNames.{class_number}
use Rattle.class_order.specs.Declarations.{Declaration}
use Rattle.class_declarations.specs.declared.fields.DeclaredField.{DeclaredField}
use Rattle.class_declarations.specs.declared.method_tree.MethodTree.{MethodTree}
use Rattle.class_declarations.specs.Members.{WrittenField, fields_from, fields_of, fields_of_declaration, fields_of_member, fields_of_members, written_field_of, written_of}
use Rattle.source_classes.specs.Members.{fields_beside, methods_beside, numbered_field_of, numbered_method_of}

-- as a field of the class with this number
abbrev pub in_class : ClassId → WrittenField → WrittenField
in_class c w = record w { class' = c }

fields_zipped : (c : ClassId) (ns : List FieldId) (fs : List DeclaredField) → map numbered_field_of (fields_beside c ns fs) ≡ zip ns (map (in_class c) (map written_field_of fs))
fields_zipped c [] fs = refl
fields_zipped c (n ∷ ns) [] = refl
fields_zipped c (n ∷ ns) (f ∷ fs) = ap (λ rest. (n, in_class c (written_field_of f)) ∷ rest) (fields_zipped c ns fs)

pub methods_zipped : (ns : List MethodId) (ts : List MethodTree) → map numbered_method_of (methods_beside ns ts) ≡ zip ns (map written_of ts)
methods_zipped [] ts = refl
methods_zipped (n ∷ ns) [] = refl
methods_zipped (n ∷ ns) (t ∷ ts) = ap (λ rest. (n, written_of t) ∷ rest) (methods_zipped ns ts)

declaration_in : (b c : ClassId) (d : Declaration) (f : FieldDecl) (vs : List Variable) → map (in_class c) (fields_of_declaration b d f vs) ≡ fields_of_declaration c d f vs
declaration_in b c d f [] = refl
declaration_in b c d f (v ∷ vs) = ap (λ rest. record { class' = c; declaration = d; field = f; variable = v } ∷ rest) (declaration_in b c d f vs)

member_in : (b c : ClassId) (d : Declaration) (m : Member) → map (in_class c) (fields_of_member b d m) ≡ fields_of_member c d m
member_in b c d (members.Field f) = declaration_in b c d f f.variables.items
member_in b c d (members.Method m) = refl
member_in b c d (members.Constructor k) = refl

members_in : (b c : ClassId) (d : Declaration) (ms : List Member) → map (in_class c) (fields_of_members b d ms) ≡ fields_of_members c d ms
members_in b c d [] = refl
members_in b c d (m ∷ ms) =
    map-append (in_class c) (fields_of_member b d m) (fields_of_members b d ms)
    ∙ ap (λ fs. fs ++ map (in_class c) (fields_of_members b d ms)) (member_in b c d m)
    ∙ ap (λ fs. fields_of_member c d m ++ fs) (members_in b c d ms)

unless_library : (b c : ClassId) (library : Bool) (d : Declaration) (ms : List Member) → map (in_class c) (cond library [] (fields_of_members b d ms)) ≡ cond library [] (fields_of_members c d ms)
unless_library b c true d ms = refl
unless_library b c false d ms = members_in b c d ms

fields_in_class : (b c : ClassId) (d : Declaration) → map (in_class c) (fields_of b d) ≡ fields_of c d
fields_in_class b c d = unless_library b c d.unit.library d d.class_tree.members.items

-- the fields of a class beside their numbers, where they are read as those of class 0
pub fields_numbered : (c : ClassId) (d : Declaration) (ns : List FieldId) (fs : List DeclaredField) → map written_field_of fs ≡ fields_from 0 (d ∷ []) → map numbered_field_of (fields_beside c ns fs) ≡ zip ns (fields_of c d)
fields_numbered c d ns fs is =
    fields_zipped c ns fs
    ∙ ap (λ ws. zip ns (map (in_class c) ws)) (is ∙ append-nil (fields_of (class_number 0) d))
    ∙ ap (zip ns) (fields_in_class (class_number 0) c d)
