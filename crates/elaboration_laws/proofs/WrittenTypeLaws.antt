-- What is written as a type in a compilation unit may be declared in the table whose classes have these names.
use Rattle.std.proofs.Common.{◌≡◌, ◌∙◌, ◌<◌, ℕ, Bool, true, false, cond, Option, Some, None, List, [], IsSomeAnd, codes, length, map, option_map, slice_get, refl, sym, subst, ap, arith, true≢false}
use Rattle.std.specs.Str.{bytes_eq}
use Rattle.std.proofs.lemmas.List.{length-map}
use Rattle.std.proofs.lemmas.Option.{slice_get-map}
use Rattle.std.proofs.lemmas.Slice.Eq.{bytes_eq-Decides}
use Rattle.java_syntax.specs.declared.names.Typ.{Typ}
use Rattle.java_syntax.specs.declared.names.TypeName.{TypeName}
use Rattle.java_syntax.specs.declared.names.TypeName.TheVariants as written_names
use Rattle.program_model.specs.declared.kinds.ClassId.{ClassId}
use Rattle.program_model.specs.declared.kinds.VType.{VType}
use Rattle.program_model.specs.declared.kinds.VType.TheVariants as types
use Rattle.program_model.specs.declared.program.Class.{Class}
use Rattle.program_model.specs.declared.program.Program.{Program}
use Rattle.program_model.specs.Hierarchy.{HasClass}
use Rattle.program_model.specs.Lookups as lookups
use Rattle.program_model.specs.Typing.{IsDeclarable}
use Rattle.program_model.specs.Validity.{IsTypedProgram}
use Rattle.class_names.specs.declared.class_name.ClassName.{ClassName}
use Rattle.class_names.specs.declared.meaning.Meaning.{Meaning}
use Rattle.class_names.specs.declared.meaning.Meaning.TheVariants.{Named, NoClass, TwoClasses}
use Rattle.class_names.specs.ClassNames.{class_at, name_of_class, names_of}
use Rattle.class_names.specs.Meanings.{CompilationUnit, has, meaning_of}
use Rattle.class_names.specs.WrittenTypes.{class_type, is_string, primitive_of, primitive_type, string_type, type_of_meaning, type_of_name, written_type}
use Rattle.class_table.proofs.ClassHeadersKnownLemmas.{IsWithin, meaning_within}
use Rattle.java_call_rules.specs.WrittenTypes.{class_in}
use Rattle.java_typing_laws.proofs.LeastClasses.{valid_has_catch_types}
use Rattle.java_typing_laws.proofs.Conversions.{none_is_some, same_in}
use Rattle.java_typing_laws.specs.Scopes.{HasDeclarableTypes}
use Rattle.java_typing_laws.specs.Tables.{HasFinalString}
use Rattle.java_typing_laws.proofs.TableLaws.{typed_members}
use Rattle.elaboration_laws.specs.NamedTables.{AreNamesOf}

-- a class with the name of String
string_named : (o : Option ClassName) (k : Option Class) → option_map name_of_class o ≡ option_map (λ c. c.name) k → IsSomeAnd k (λ c. c.name ≡ codes "java.lang.String") → has is_string o ≡ true
string_named o None e h = absurd h
string_named None (Some k) e h = absurd (none_is_some k.name e)
string_named (Some d) (Some k) e h = (bytes_eq-Decides (name_of_class d) (codes "java.lang.String")).1 (same_in (name_of_class d) k.name e ∙ h)

within : (n : ℕ) (m : Meaning) → IsWithin n m → (c : ClassId) → class_in m ≡ Some c → c.0 < n
within n (Named d) h c e = subst (λ (x : ClassId). x.0 < n) (same_in d c e) h
within n NoClass h c e = absurd (none_is_some c e)
within n TwoClasses h c e = absurd (none_is_some c e)

module _ (p : Program) (typed : IsTypedProgram p) (classes : List ClassName) (are : AreNamesOf p classes) where
  counted : length classes ≡ length p.classes.items
  counted = sym (length-map classes name_of_class) ∙ ap length are ∙ length-map p.classes.items (λ (k : Class). k.name)

  named : (u : CompilationUnit) (name : List ℕ) (c : ClassId) → class_in (meaning_of classes u name) ≡ Some c → HasClass p c
  named u name c e = subst (λ n. c.0 < n) counted (within (length classes) (meaning_of classes u name) (meaning_within classes u name) c e)

  string_is : has is_string (class_at classes p.core.string) ≡ true
  string_is =
      string_named (slice_get classes p.core.string.0) (lookups.class_at p p.core.string)
      (sym (slice_get-map name_of_class classes p.core.string.0) ∙ ap (λ (xs : List (List ℕ)). slice_get xs p.core.string.0) are ∙ slice_get-map (λ (k : Class). k.name) p.classes.items p.core.string.0)
      typed.core.string

  not_string : (c : ClassId) → has is_string (class_at classes c) ≡ false → c ≡ p.core.string → ⊥
  not_string c e same =
      let there : has is_string (class_at classes p.core.string) ≡ false = subst (λ (x : ClassId). has is_string (class_at classes x) ≡ false) same e in
      true≢false (sym string_is ∙ there)

  class_declarable : (c : ClassId) (is_array b : Bool) (v : VType) → HasClass p c → has is_string (class_at classes c) ≡ b → cond b (Some (string_type is_array)) (class_type c is_array) ≡ Some v → IsDeclarable p v
  class_declarable c true true v known is e = subst (IsDeclarable p) (same_in (string_type true) v e) tt
  class_declarable c false true v known is e = subst (IsDeclarable p) (same_in (string_type false) v e) tt
  class_declarable c true false v known is e = absurd (none_is_some v e)
  class_declarable c false false v known is e = subst (IsDeclarable p) (same_in (types.Obj c) v e) (known, not_string c is)

  meaning_declarable : (m : Meaning) → ((c : ClassId) → class_in m ≡ Some c → HasClass p c) → (is_array : Bool) (v : VType) → type_of_meaning classes m is_array ≡ Some v → IsDeclarable p v
  meaning_declarable (Named c) known is_array v e = class_declarable c is_array (has is_string (class_at classes c)) v (known c refl) refl e
  meaning_declarable NoClass known is_array v e = absurd (none_is_some v e)
  meaning_declarable TwoClasses known is_array v e = absurd (none_is_some v e)

  name_declarable : (u : CompilationUnit) (n : TypeName) (is_array : Bool) (v : VType) → type_of_name classes u n is_array ≡ Some v → IsDeclarable p v
  name_declarable u (written_names.Primitive w) true v e = subst (IsDeclarable p) (same_in (primitive_type (primitive_of w) true) v e) tt
  name_declarable u (written_names.Primitive w) false v e = subst (IsDeclarable p) (same_in (primitive_type (primitive_of w) false) v e) tt
  name_declarable u (written_names.Named name) is_array v e = meaning_declarable (meaning_of classes u name) (named u name) is_array v e

  pub declarable_types : HasFinalString p → (u : CompilationUnit) → HasDeclarableTypes p classes u
  declarable_types final u = record {
    members = typed_members p typed final;
    written = λ t v e. name_declarable u t.name t.is_array v e;
    named = named u;
    exceptions = valid_has_catch_types p typed;
    string = final.no_exception;
  }
