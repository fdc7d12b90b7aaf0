-- The table from its parts, and what making it answers.
use Rattle.std.proofs.Common.{◌≡◌, ◌∙◌, sym, ap, subst, arith, inl, inr, ℕ, ◌<◌, ◌≤◌, ◌^◌, Some, None, List, [], length, map}
use Rattle.std.specs.Prelude.{Contains, Result, Ok, Err, IfOk}
use Rattle.std.specs.List.{AllZip}
use Rattle.std.proofs.lemmas.List.{length-map}
use Rattle.rlc_base.specs.declared.faults.Refusal.{Refusal}
use Rattle.rlc_base.specs.declared.faults.Stop.{Stop}
use Rattle.rlc_base.specs.declared.faults.Stop.TheVariants as stops
use Rattle.java_syntax.specs.declared.settings.Settings.{Settings}
use Rattle.program_model.specs.declared.kinds.ClassId.{ClassId}
use Rattle.program_model.specs.declared.program.Class.{Class}
use Rattle.program_model.specs.declared.program.CoreClasses.{CoreClasses}
use Rattle.program_model.specs.declared.program.Program.{Program}
use Rattle.class_names.specs.declared.class_name.ClassName.{ClassName}
use Rattle.class_names.specs.ClassNames.{rows_in}
use Rattle.class_order.specs.declared.declared.Declared.{Declared}
use Rattle.class_order.specs.Cases.{IsCause, IsLeast, double_cases, too_many_cases}
use Rattle.class_order.specs.Core.{AreCore}
use Rattle.class_order.specs.Declarations.{Declaration, class_names, declaration_of}
use Rattle.class_order.proofs.LeastLemmas.{least_of_list}
use Rattle.class_headers.specs.declared.super_table.SuperTable.{SuperTable}
use Rattle.class_headers.specs.Headers.{AllList, classes_of_names, declared_headers, header_of}
use Rattle.class_headers.specs.SuperTypes.{AreKnown, SuperTypes, all_direct, all_supers, supers_of}
use Rattle.class_headers.proofs.KnownLemmas.{length-supers_from}
use Rattle.class_checks.specs.TypeCases.{IsTypeCase}
use Rattle.super_obligations.specs.SuperCases.{direct_in, supers_in}
use Rattle.super_obligations.proofs.SuperPassLemmas.{table_direct, table_supers}
use Rattle.table_members.specs.Fields.{IsField}
use Rattle.table_members.specs.Methods.{IsMethod}
use Rattle.class_table.specs.Numbers.{AreNumbers, row_at}
use Rattle.class_table.specs.Passes.{AreFit, IsBehindStop, IsBuilt, IsMade, IsRight, IsTableStop}
use Rattle.class_table.specs.SuperTables.{AreSupers}
use Rattle.class_table.specs.Table.{AllHave, all_fields, all_methods, bare_of, field_owners, method_owners}
use Rattle.class_table.proofs.MemberLemmas.{have_own, headers_kept, length-headers, lists_kept}
use Rattle.class_table.proofs.NoCases.{none_in_nil}
use Rattle.class_table.proofs.ValidTable.{valid_table}

-- ---- super types

pub supers_here : (order : List Declared) (classes : List ClassName) (core : CoreClasses) (t : SuperTable) → classes ≡ class_names (map declaration_of order) → map supers_of t.supers.items ≡ all_supers classes core.object (map declaration_of order)
    → rows_in t.direct.items ≡ all_direct core.object (map supers_of t.supers.items) → AreKnown (rows_in t.direct.items) → length order ≡ length t.direct.items → length t.direct.items ≤ 2 ^ 32 → AreSupers (map declaration_of order) core t
supers_here order classes core t names supers direct known long few =
    let D = map declaration_of order in
    let same = table_supers classes D core (map supers_of t.supers.items) names supers in
    let rows = table_direct D core (map supers_of t.supers.items) (rows_in t.direct.items) same direct in
    let K : List (List ClassId) → Type 0 = AreKnown in
    let wide = length-map order declaration_of in
    record {
      supers = same;
      direct = rows;
      known = subst K rows known;
      long = wide ∙ long;
      few = omega (arith, wide, long, few);
    }

pub headers_long : (order : List Declared) (core : CoreClasses) (supers : List SuperTypes) (classes : List Class) → supers ≡ supers_in (map declaration_of order) core → map header_of classes ≡ declared_headers (map declaration_of order) supers → length classes ≡ length order
headers_long order core supers classes same headers =
    let D = map declaration_of order in
    let wide = ap length same ∙ length-supers_from (class_names D) core.object 0 D in
    sym (length-map classes header_of) ∙ ap length headers ∙ length-headers D supers (sym wide) ∙ length-map order declaration_of

-- ---- the table

-- the table of the headers before its members are put into it
pub record IsBegun (order : List Declaration) (settings : Settings) (names : List ClassName) (core : CoreClasses) (p : Program) : Type 0 where
  pub core' : p.core ≡ core
  pub headers : map header_of p.classes.items ≡ declared_headers order (supers_in order core)
  pub above : AllList (direct_in order core) p.classes.items
  pub ignored : p.ignored.items ≡ classes_of_names names settings.ignored.items
  pub exact : p.exact.items ≡ classes_of_names names settings.exact.items

-- what is put into it
pub record IsFilled (order : List Declaration) (names : List ClassName) (old : List Class) (p : Program) : Type 0 where
  pub bare : map bare_of p.classes.items ≡ map bare_of old
  pub fields : AllZip (IsField names) (all_fields order) p.fields.items
  pub methods : AllZip (IsMethod names) (all_methods order) p.methods.items
  pub few_fields : length p.fields.items < 2 ^ 32
  pub few_methods : length p.methods.items < 2 ^ 32
  pub bodies : p.bodies.items ≡ []
  pub no_names : p.names ≡ []

-- the numbers that its classes have
pub record IsNumbering (order : List Declaration) (fields methods : List (List ℕ)) (p : Program) : Type 0 where
  pub own_fields : AreNumbers (length order) (field_owners (all_fields order)) fields
  pub own_methods : AreNumbers (length order) (method_owners (all_methods order)) methods
  pub members : AllHave (row_at fields) (row_at methods) order p.classes.items

pub made : (order : List Declaration) (settings : Settings) (names : List ClassName) (core : CoreClasses) (old p : Program) (fields methods : List (List ℕ)) → names ≡ class_names order → AreCore names core → p.core ≡ old.core → p.ignored ≡ old.ignored → p.exact ≡ old.exact
    → IsBegun order settings names core old → IsFilled order names old.classes.items p → IsNumbering order fields methods p → IsMade order settings p
made order settings names core old p fields methods named are_core same_core same_ignored same_exact begun filled numbering =
    let C : CoreClasses → Type 0 = λ k. AreCore (class_names order) k in
    let N : List ClassName → Type 0 = λ ns. AreCore ns core in
    let of_core : core ≡ p.core = sym (same_core ∙ begun.core') in
    let A : CoreClasses → Type 0 = λ k. AllList (direct_in order k) p.classes.items in
    let F : List ClassName → Type 0 = λ ns. AllZip (IsField ns) (all_fields order) p.fields.items in
    let M : List ClassName → Type 0 = λ ns. AllZip (IsMethod ns) (all_methods order) p.methods.items in
    record {
      table = record {
        core = subst C of_core (subst N named are_core);
        headers = headers_kept old.classes.items p.classes.items filled.bare ∙ begun.headers ∙ ap (λ k. declared_headers order (supers_in order k)) of_core;
        above = subst A of_core (lists_kept (direct_in order core) old.classes.items p.classes.items filled.bare begun.above);
        members = have_own order p.classes.items fields methods numbering.own_fields numbering.own_methods numbering.members;
        fields = subst F named filled.fields;
        methods = subst M named filled.methods;
        bodies = filled.bodies;
        ignored = ap (λ v. v.items) same_ignored ∙ begun.ignored ∙ ap (λ ns. classes_of_names ns settings.ignored.items) named;
        exact = ap (λ v. v.items) same_exact ∙ begun.exact ∙ ap (λ ns. classes_of_names ns settings.exact.items) named;
        names = filled.no_names;
      };
      fields = filled.few_fields;
      methods = filled.few_methods;
    }

-- ---- what making it answers

pub no_double : (order : List Declaration) → double_cases order ≡ [] → IsLeast (Contains (double_cases order)) None
no_double order none = none_in_nil (double_cases order) none

pub right : (order : List Declaration) (names : List ClassName) (core : CoreClasses) → names ≡ class_names order → AreCore names core → double_cases order ≡ [] → IsLeast (IsTypeCase order) None → AreFit order core → IsRight order core
right order names core named are_core single types fit =
    let N : List ClassName → Type 0 = λ ns. AreCore ns core in
    record {
      named = subst N named are_core;
      doubles = no_double order single;
      types = types;
      fit = fit;
    }

pub built : (order : List Declaration) (settings : Settings) (names : List ClassName) (core : CoreClasses) (p : Program) → names ≡ class_names order → AreCore names core → double_cases order ≡ [] → IsLeast (IsTypeCase order) None
    → p.core ≡ core → AreFit order core → too_many_cases order ≡ [] → IsMade order settings p → IsBuilt order settings p
built order settings names core p named are_core single types same fit few is =
    let R : CoreClasses → Type 0 = IsRight order in
    let here = subst R (sym same) (right order names core named are_core single types fit) in
    record {
      right = here;
      few = few;
      table = is.table;
      valid = valid_table order settings p is here few;
    }

pub built_if : (order : List Declaration) (settings : Settings) (names : List ClassName) (core : CoreClasses) (made' : Result Program Stop) → names ≡ class_names order → AreCore names core → double_cases order ≡ [] → IsLeast (IsTypeCase order) None
    → IfOk made' (λ (p : Program). p.core ≡ core) → IfOk made' (λ (p : Program). AreFit order core) → IfOk made' (λ (p : Program). too_many_cases order ≡ []) → IfOk made' (IsMade order settings) → IfOk made' (λ (p : Program). IsBuilt order settings p)
built_if order settings names core (Ok p) named are_core single types same fit few is = built order settings names core p named are_core single types same fit few is
built_if order settings names core (Err stop) named are_core single types same fit few is = tt

-- the pass over names refuses
pub names_stop : (order : List Declaration) (stop : Stop) → IsCause (double_cases order) stop → IsTableStop order stop
names_stop order (stops.Refused r) cause = inl (least_of_list (double_cases order) (sym cause))
names_stop order (stops.TooMuch r) cause = absurd cause
names_stop order stops.NoMemory cause = tt

-- the pass over types refuses
pub types_stop : (order : List Declaration) (r : Refusal) → double_cases order ≡ [] → IsLeast (IsTypeCase order) (Some r) → IsTableStop order (stops.Refused r)
types_stop order r single h = inr (no_double order single, inl h)

-- a later pass refuses
pub later_stop : (order : List Declaration) (names : List ClassName) (core : CoreClasses) (stop : Stop) → names ≡ class_names order → AreCore names core → double_cases order ≡ [] → IsLeast (IsTypeCase order) None → IsBehindStop order core stop → IsTableStop order stop
later_stop order names core (stops.Refused r) named are_core single types h =
    let N : List ClassName → Type 0 = λ ns. AreCore ns core in
    inr (no_double order single, inr (types, record { core = core; named = subst N named are_core; refused = h }))
later_stop order names core (stops.TooMuch r) named are_core single types h = record { core = core; right = right order names core named are_core single types h.0; least = h.1 }
later_stop order names core stops.NoMemory named are_core single types h = tt
