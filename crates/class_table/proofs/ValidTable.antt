-- The table of classes that no pass refuses is valid.
use Rattle.std.proofs.Common.{◌≡◌, sym, ap, refl, subst, arith, ℕ, Option, Some, None, List, [], ◌∷◌, length}
use Rattle.std.specs.Prelude.{slice_get}
use Rattle.std.specs.List.{All}
use Rattle.std.specs.List.Sorted.{IsStrictlyIncreasing}
use Rattle.std.proofs.lemmas.List.Elements.{All-append, All-cons, All-nil}
use Rattle.java_syntax.specs.declared.settings.Settings.{Settings}
use Rattle.program_model.specs.declared.kinds.ClassId.{ClassId}
use Rattle.program_model.specs.declared.program.Class.{Class}
use Rattle.program_model.specs.declared.program.Program.{Program}
use Rattle.program_model.specs.declared.tree.Body.{Body}
use Rattle.program_model.specs.Hierarchy.{HasClass}
use Rattle.program_model.specs.Lookups.{class_at, optional}
use Rattle.program_model.specs.Validity.{HasMembers, IsNumbered, IsValid}
use Rattle.class_names.specs.ClassNames.{class_of_name}
use Rattle.class_order.specs.Cases.{too_many_cases}
use Rattle.class_order.specs.Declarations.{Declaration, class_names}
use Rattle.class_headers.specs.Headers.{classes_of_names}
use Rattle.class_table.specs.Passes.{IsMade, IsRight}
use Rattle.class_table.specs.Table.{IsTable, all_fields, all_methods, field_owners, method_owners}
use Rattle.class_table.proofs.NameFacts.{core_exceptions, core_named, core_within}
use Rattle.class_table.proofs.NoCases.{few_classes, no_double_cases}
use Rattle.class_table.proofs.ObjectLemmas.{valid_class}
use Rattle.class_table.proofs.Rising.{numbers_rise}
use Rattle.class_table.proofs.TableFacts.{table_hierarchy, table_long}
use Rattle.class_table.proofs.ValidFields.{fields_belong, own_fields, valid_field}
use Rattle.class_table.proofs.ValidMethods.{methods_belong, own_methods, valid_method}

numbered : (order : List Declaration) (settings : Settings) (p : Program) → IsMade order settings p → too_many_cases order ≡ [] → IsNumbered p
numbered order settings p made few =
    let long = table_long order settings p made.table in
    let count = few_classes order few in
    let none = ap length made.table.bodies in
    record {
      classes = omega arith;
      methods = made.methods;
      fields = made.fields;
      bodies = omega arith;
    }

valid_members : (order : List Declaration) (settings : Settings) (p : Program) → IsTable order settings p → (c : ClassId) (k : Class) → class_at p c ≡ Some k → HasMembers p c k.fields.items k.methods.items
valid_members order settings p t c k at = record {
  field_order = subst IsStrictlyIncreasing (sym (own_fields order settings p t c k at)) (numbers_rise _ (field_owners (all_fields order)));
  fields = fields_belong order settings p t c k at;
  method_order = subst IsStrictlyIncreasing (sym (own_methods order settings p t c k at)) (numbers_rise _ (method_owners (all_methods order)));
  methods = methods_belong order settings p t c k at;
}

no_body : {A : Type 0} (bs : List Body) (n : ℕ) (x : Body) → bs ≡ [] → slice_get bs n ≡ Some x → A
no_body [] n x none at = let never : None ≡ Some x = at in cc
no_body (b ∷ bs) n x none at = cc

found_classes : (order : List Declaration) (settings : Settings) (p : Program) → IsTable order settings p → (name : List ℕ) (o : Option ClassId) → class_of_name (class_names order) name ≡ o → All (HasClass p) (optional o)
found_classes order settings p t name None is = All-nil (HasClass p)
found_classes order settings p t name (Some c) is =
    let long = table_long order settings p t in
    let below = core_within order name c is in
    All-cons (HasClass p) c [] (omega arith) (All-nil (HasClass p))

all_found : (order : List Declaration) (settings : Settings) (p : Program) → IsTable order settings p → (names : List (List ℕ)) → All (HasClass p) (classes_of_names (class_names order) names)
all_found order settings p t [] = All-nil (HasClass p)
all_found order settings p t (n ∷ ns) =
    All-append (HasClass p) (optional (class_of_name (class_names order) n)) (classes_of_names (class_names order) ns) (found_classes order settings p t n (class_of_name (class_names order) n) refl) (all_found order settings p t ns)

-- the table is valid
pub valid_table : (order : List Declaration) (settings : Settings) (p : Program) → IsMade order settings p → IsRight order p.core → too_many_cases order ≡ [] → IsValid p
valid_table order settings p made right few =
    let t = made.table in
    let hierarchy = table_hierarchy order settings p t right.fit.cycles in
    let single = no_double_cases order right.doubles in
    let A : List ClassId → Type 0 = All (HasClass p) in
    record {
      typed = record {
        numbered = numbered order settings p made few;
        core = core_named order settings p t;
        hierarchy = hierarchy;
        exceptions = core_exceptions order settings p t hierarchy right.fit.supers;
        classes = valid_class order settings p t hierarchy right.types right.fit.supers;
        members = valid_members order settings p t;
        fields = valid_field order settings p t single right.types;
        methods = valid_method order settings p t hierarchy single right.fit.supers;
        bodies = λ b x at. no_body p.bodies.items b.0 x t.bodies at;
        ignored = subst A (sym t.ignored) (all_found order settings p t settings.ignored.items);
        exact = subst A (sym t.exact) (all_found order settings p t settings.exact.items);
      };
      ordered = λ b x at. no_body p.bodies.items b.0 x t.bodies at;
      same_initializers = λ b x at c y at_c. no_body p.bodies.items b.0 x t.bodies at;
    }
