-- The table of the headers with its members is the table.
use Rattle.std.proofs.Common.{◌≡◌, ◌∙◌, ◌<◌, ◌^◌, sym, ap, subst, map, length, List, None, ℕ, All}
use Rattle.std.specs.List.{AllZip}
use Rattle.std.proofs.lemmas.List.{length-map, with_items_is}
use Rattle.rlc_base.specs.Names.{texts}
use Rattle.program_model.specs.declared.kinds.ClassId.{ClassId}
use Rattle.program_model.specs.declared.program.Class.{Class}
use Rattle.program_model.specs.declared.program.Field.{Field}
use Rattle.program_model.specs.declared.program.Method.{Method}
use Rattle.class_order.specs.Cases.{IsLeast}
use Rattle.class_order.specs.Declarations.{declaration_of}
use Rattle.class_headers.specs.Cases.{IsCycleCase}
use Rattle.class_headers.specs.Headers.{AllList, declared_headers}
use Rattle.class_headers.specs.SuperTypes.{AreKnown, supers_of}
use Rattle.table_members.specs.Fields.{IsField}
use Rattle.table_members.specs.Methods.{HasFewParameters, IsMethod}
use Rattle.class_table.specs.Numbers.{AreNumbers, row_at}
use Rattle.class_table.specs.Table.{AllHave, all_fields, all_methods, bare_of, field_owners, method_owners}
use Rattle.class_table.proofs.BuiltLemmas.{headers_long, made}
use Rattle.class_table.proofs.table.make_table.Goals as goal

pub header_table-requires-clause-known : goal.header_table-requires-clause-known
header_table-requires-clause-known c =
    let K : List (List ClassId) → Type 0 = AreKnown in
    subst K (sym c.requires.supers.direct) c.requires.supers.known

pub header_table-requires-clause-acyclic : goal.header_table-requires-clause-acyclic
header_table-requires-clause-acyclic c =
    let L : List (List ClassId) → Type 0 = λ rows. IsLeast (IsCycleCase (map declaration_of c.args.order.now) rows) None in
    subst L (sym c.requires.supers.direct) c.requires.acyclic

pub put_all_members-requires-clause-long : goal.put_all_members-requires-clause-long
put_all_members-requires-clause-long c =
    ap length c.deref_mut.ensures.value ∙ headers_long c.args.order.now c.args.core (map supers_of c.args.supers.now.supers.items) c.in_ok-program.program.classes.items c.requires.supers.supers c.in_ok-program.ensures.headers

pub returns-clause-parameters : goal.returns-clause-parameters
returns-clause-parameters c =
    let P : List Method → Type 0 = All HasFewParameters in
    subst P (sym c.put_tables.ensures.methods) c.in_ok-methods.ensures.parameters

pub returns-clause-made : goal.returns-clause-made
returns-clause-made c =
    let order = map declaration_of c.args.order.now in
    let names = c.args.names.now in
    let old = c.in_ok-program.program in
    let new = c.put_tables.new.program in
    let classes = c.put_all_members.new.classes in
    let fields = texts c.in_ok-fields.field-0.rows.items in
    let methods = texts c.in_ok-methods.field-0.rows.items in
    let count = sym (length-map classes bare_of) ∙ ap length c.in_ok-put_all_members.ensures.bare ∙ length-map c.deref_mut.result.now bare_of ∙ c.deref_mut.ensures.len in
    let put : new.classes.items ≡ classes = ap (λ v. v.items) c.put_tables.ensures.classes ∙ with_items_is old.classes classes count in
    let of_fields : new.fields.items ≡ c.in_ok-fields.field-0.fields.items = c.put_tables.ensures.fields in
    let of_methods : new.methods.items ≡ c.in_ok-methods.field-0.methods.items = c.put_tables.ensures.methods in
    let L : List (List ClassId) → Type 0 = λ rows. AllList rows old.classes.items in
    let F : List Field → Type 0 = AllZip (IsField names) (all_fields order) in
    let M : List Method → Type 0 = AllZip (IsMethod names) (all_methods order) in
    let G : List Field → Type 0 = λ xs. length xs < 2 ^ 32 in
    let N : List Method → Type 0 = λ xs. length xs < 2 ^ 32 in
    let O : ℕ → Type 0 = λ n. AreNumbers n (field_owners (all_fields order)) fields in
    let P : ℕ → Type 0 = λ n. AreNumbers n (method_owners (all_methods order)) methods in
    let A : List (List ℕ) → Type 0 = λ rows. AllHave (row_at rows) (row_at (texts c.deref-2.result.now)) order classes in
    let B : List (List ℕ) → Type 0 = λ rows. AllHave (row_at fields) (row_at rows) order classes in
    let C : List Class → Type 0 = AllHave (row_at fields) (row_at methods) order in
    let wide = length-map c.args.order.now declaration_of in
    made order c.args.settings.now names c.args.core old new fields methods c.requires.names c.requires.core c.put_tables.ensures.core c.put_tables.ensures.ignored c.put_tables.ensures.exact
    (record {
      core' = c.in_ok-program.ensures.core;
      headers = c.in_ok-program.ensures.headers ∙ ap (declared_headers order) c.requires.supers.supers;
      above = subst L c.requires.supers.direct c.in_ok-program.ensures.above;
      ignored = c.in_ok-program.ensures.ignored;
      exact = c.in_ok-program.ensures.exact;
    })
    (record {
      bare = ap (map bare_of) put ∙ c.in_ok-put_all_members.ensures.bare ∙ ap (map bare_of) c.deref_mut.ensures.value;
      fields = subst F (sym of_fields) c.in_ok-fields.ensures.fields;
      methods = subst M (sym of_methods) c.in_ok-methods.ensures.methods;
      few_fields = subst G (sym of_fields) c.in_ok-fields.ensures.numbered;
      few_methods = subst N (sym of_methods) c.in_ok-methods.ensures.numbered;
      bodies = c.put_tables.ensures.bodies;
      no_names = c.put_tables.ensures.names;
    })
    (record {
      own_fields = subst O (sym wide) c.in_ok-fields.ensures.rows;
      own_methods = subst P (sym wide) c.in_ok-methods.ensures.rows;
      members = subst C (sym put) (subst B (ap texts c.deref-2.ensures.value) (subst A (ap texts c.deref.ensures.value) c.in_ok-put_all_members.ensures.members));
    })
