-- The fields of the table are valid.
use Rattle.std.proofs.Common.{◌≡◌, ◌∙◌, sym, ap, refl, subst, arith, ◌<◌, ◌&&◌, Bool, true, false, cond, Option, Some, None, List, [], ◌++◌, length, map}
use Rattle.std.specs.Prelude.{slice_get, Contains}
use Rattle.std.specs.List.{All}
use Rattle.std.specs.Option.{IsSomeAnd}
use Rattle.std.proofs.lemmas.Option.{slice_get_within}
use Rattle.rlc_base.specs.declared.code.Code.TheVariants as refused
use Rattle.java_syntax.specs.declared.declaration_trees.Member.TheVariants as members
use Rattle.java_syntax.specs.declared.settings.Settings.{Settings}
use Rattle.program_model.specs.declared.kinds.ClassId.{ClassId}
use Rattle.program_model.specs.declared.kinds.FieldId.{FieldId}
use Rattle.program_model.specs.declared.kinds.Literal.{Literal}
use Rattle.program_model.specs.declared.kinds.VType.{VType}
use Rattle.program_model.specs.declared.kinds.VType.TheVariants as types
use Rattle.program_model.specs.declared.program.Class.{Class}
use Rattle.program_model.specs.declared.program.Field.{Field}
use Rattle.program_model.specs.declared.program.Program.{Program}
use Rattle.program_model.specs.InitialValues.{IsInitialValue}
use Rattle.program_model.specs.Lookups.{class_at, field_at}
use Rattle.program_model.specs.Validity as validity
use Rattle.class_names.specs.WrittenTypes.{written_type}
use Rattle.class_order.specs.Cases.{IsLeast, double_cases}
use Rattle.class_order.specs.Declarations.{Declaration, class_names}
use Rattle.class_order.specs.Modifiers.{has_static}
use Rattle.class_order.specs.UnknownNames.{unknown_supers}
use Rattle.class_declarations.specs.Members.{WrittenField, is_class_type}
use Rattle.class_checks.specs.TypeCases.{IsTypeCase, bad_static, is_read_in_stub, unknown_in_member, unknown_in_members, unknown_type}
use Rattle.java_annotations.specs.InitialValues.{IsInitial, written_value}
use Rattle.table_members.specs.Fields.{IsField, IsFirstValue}
use Rattle.class_table.specs.Table.{IsTable, all_fields, field_numbers, field_owners}
use Rattle.class_table.proofs.KnownLemmas.{none_right, where_none}
use Rattle.class_table.proofs.NoCases.{no_type_case, none_in}
use Rattle.class_table.proofs.Owners.{IsTied, all_unmapped, contains_unmapped, number_listed, numbers_belong, tied_at, zip_owners}
use Rattle.class_table.proofs.StringFacts.{declarable}
use Rattle.class_table.proofs.TableFacts.{declared_class, some_at, table_long}
use Rattle.class_table.proofs.WrittenFacts.{IsFieldIn, fields_in}

abbrev pub IsTiedField : List Declaration → Field → Type 0
IsTiedField order x = IsTied (IsFieldIn order) (IsField (class_names order)) x

pub tied_field : (order : List Declaration) (settings : Settings) (p : Program) → IsTable order settings p → (f : FieldId) (x : Field) → field_at p f ≡ Some x → IsTiedField order x
tied_field order settings p t f x at = tied_at (IsFieldIn order) (IsField (class_names order)) (all_fields order) p.fields.items f.0 x (fields_in order) t.fields at

pub fields_owned : (order : List Declaration) (settings : Settings) (p : Program) → IsTable order settings p → map (λ (x : Field). x.class) p.fields.items ≡ field_owners (all_fields order)
fields_owned order settings p t = zip_owners (IsField (class_names order)) (λ (w : WrittenField). w.class') (λ (x : Field). x.class) (all_fields order) p.fields.items (λ w x h. h.class') t.fields

-- ---- a class lists its fields

field_same : (f g : FieldId) → f.0 ≡ g.0 → f ≡ g
field_same f g is = λ i. record { 0 = is i }

pub own_fields : (order : List Declaration) (settings : Settings) (p : Program) → IsTable order settings p → (c : ClassId) (k : Class) → class_at p c ≡ Some k → map (λ (f : FieldId). f.0) k.fields.items ≡ field_numbers order c.0
own_fields order settings p t c k at =
    let d = declared_class order settings p t c k at in
    (t.members c.0 d.declaration k d.at at).fields

pub fields_belong : (order : List Declaration) (settings : Settings) (p : Program) → IsTable order settings p → (c : ClassId) (k : Class) → class_at p c ≡ Some k → All (validity.IsFieldOf p c) k.fields.items
fields_belong order settings p t c k at =
    all_unmapped (λ (f : FieldId). f.0) (λ n. IsSomeAnd (slice_get p.fields.items n) (λ (x : Field). x.class ≡ c)) k.fields.items (field_numbers order c.0) (own_fields order settings p t c k at)
    (numbers_belong (λ (x : Field). x.class) p.fields.items (field_owners (all_fields order)) c (fields_owned order settings p t))

field_listed : (order : List Declaration) (settings : Settings) (p : Program) → IsTable order settings p → (f : FieldId) (x : Field) → field_at p f ≡ Some x → validity.IsListedField p f x
field_listed order settings p t f x at =
    let tied = tied_field order settings p t f x at in
    let long = table_long order settings p t in
    let number : x.class.0 ≡ tied.part.class'.0 = ap (λ (c : ClassId). c.0) tied.tied.class' in
    let below = slice_get_within order tied.part.class'.0 tied.part.declaration tied.holds.declared in
    let within : x.class.0 < length p.classes.items = omega arith in
    let k = some_at p.classes.items x.class.0 within in
    let L : Option Class → Type 0 = λ o. IsSomeAnd o (λ (j : Class). Contains j.fields.items f) in
    subst L (sym k.1)
    (contains_unmapped (λ (g : FieldId). g.0) k.0.fields.items (field_numbers order x.class.0) f field_same (own_fields order settings p t x.class k.0 k.1)
    (number_listed (λ (y : Field). y.class) p.fields.items (field_owners (all_fields order)) f.0 x (fields_owned order settings p t) at))

-- ---- static fields

at_program : {X : Type 0} (b : Bool) (xs ys zs : List X) → b ≡ false → cond b xs (ys ++ zs) ≡ [] → zs ≡ []
at_program true xs ys zs is none = cc
at_program false xs ys zs is none = none_right ys zs none

no_bad_static : (order : List Declaration) (w : WrittenField) → IsLeast (IsTypeCase order) None → IsFieldIn order w → bad_static (class_names order) w.declaration.unit w.field ≡ []
no_bad_static order w none has =
    let classes = class_names order in
    let d = w.declaration in
    let all = none_right (unknown_supers classes d) (unknown_in_members classes d.unit d.class_tree.members.items) (no_type_case order w.class'.0 d none has.declared) in
    let own = none_in (unknown_in_member classes d.unit) d.class_tree.members.items (members.Field w.field) all has.member in
    at_program d.unit.library (cond (is_read_in_stub w.field) (unknown_type classes d.unit w.field.typ) []) (unknown_type classes d.unit w.field.typ) (bad_static classes d.unit w.field) has.program own

both_false : (a b : Bool) → a ≡ true → (a && b) ≡ false → b ≡ false
both_false true b is none = none
both_false false b is none = cc

no_class_type : (v : VType) → is_class_type (Some v) ≡ false → validity.is_class_type v ≡ false
no_class_type (types.Obj c) is = is
no_class_type (types.Primitive t) is = refl
no_class_type types.Str is = refl
no_class_type (types.Arr t) is = refl
no_class_type types.NullType is = refl

first_fits : (v : VType) (written value : Option Literal) → IsInitial v written value → IsInitialValue v value
first_fits v written (Some l) is = is.1
first_fits v written None is = tt

field_kind : (order : List Declaration) (x : Field) → IsLeast (IsTypeCase order) None → (w : WrittenField) → IsFieldIn order w → IsField (class_names order) w x → (b : Bool) → x.is_static ≡ b → validity.IsStaticOrNot b x
field_kind order x none w has is true static =
    let classes = class_names order in
    let test = where_none (has_static w.field.modifiers.items && is_class_type (written_type classes w.declaration.unit w.field.typ)) refused.UnknownType w.field.typ.pos (no_bad_static order w none has) in
    let other = both_false (has_static w.field.modifiers.items) (is_class_type (written_type classes w.declaration.unit w.field.typ)) (sym is.static ∙ static) test in
    let F : Bool → Type 0 = λ b. IsFirstValue b x.vtype (written_value w.variable.initializer) x.initial in
    (no_class_type x.vtype (ap is_class_type (sym is.typ) ∙ other), first_fits x.vtype (written_value w.variable.initializer) x.initial (subst F static is.initial))
field_kind order x none w has is false static =
    let F : Bool → Type 0 = λ b. IsFirstValue b x.vtype (written_value w.variable.initializer) x.initial in
    subst F static is.initial

pub valid_field : (order : List Declaration) (settings : Settings) (p : Program) → IsTable order settings p → double_cases order ≡ [] → IsLeast (IsTypeCase order) None → (f : FieldId) (x : Field) → field_at p f ≡ Some x → validity.IsValidField p f x
valid_field order settings p t single none f x at =
    let tied = tied_field order settings p t f x at in
    record {
      listed = field_listed order settings p t f x at;
      declarable = declarable order settings p t single tied.part.declaration.unit tied.part.field.typ x.vtype tied.tied.typ;
      kind = field_kind order x none tied.part tied.holds tied.tied x.is_static refl;
    }
