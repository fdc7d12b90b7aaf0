-- The table of the headers is a hierarchy.
use Rattle.std.proofs.Common.{◌∙◌, sym, ap, refl, subst, map, length, List, None}
use Rattle.std.proofs.lemmas.List.{length-map}
use Rattle.program_model.specs.declared.kinds.ClassId.{ClassId}
use Rattle.class_headers.specs.Cases.{IsCycleCase}
use Rattle.class_order.specs.Cases.{IsLeast}
use Rattle.class_order.specs.Declarations.{declaration_of}
use Rattle.class_headers.specs.Headers.{AllList, declared_headers}
use Rattle.class_headers.specs.SuperTypes.{AreKnown, all_direct, direct_of, supers_of}
use Rattle.class_headers.proofs.AboveLemmas.{headers_hierarchy}
use Rattle.class_headers.proofs.KnownLemmas.{length-supers_from}
use Rattle.class_headers.proofs.headers.header_table.Goals as goal

pub classes_of-requires-clause-wide : goal.classes_of-requires-clause-wide
classes_of-requires-clause-wide c =
    let order = map declaration_of c.args.order.now in
    sym (length-map c.args.order.now declaration_of) ∙ sym (length-supers_from c.args.names.now c.args.core.object 0 order) ∙ sym (ap length c.requires.supers) ∙ length-map c.args.table.now.supers.items supers_of

pub classes_of-requires-clause-long : goal.classes_of-requires-clause-long
classes_of-requires-clause-long c =
    classes_of-requires-clause-wide c ∙ sym (length-map c.args.table.now.supers.items supers_of) ∙ sym (length-map (map supers_of c.args.table.now.supers.items) (direct_of c.args.core.object))
    ∙ sym (ap length c.requires.direct) ∙ length-map c.args.table.now.direct.items (λ r. r.items)

pub returns-clause-hierarchy : goal.returns-clause-hierarchy
returns-clause-hierarchy c =
    let order = map declaration_of c.args.order.now in
    let classes = c.args.names.now in
    let object = c.args.core.object in
    let rows = c.requires.direct ∙ ap (all_direct object) c.requires.supers in
    let K : List (List ClassId) → Type 0 = AreKnown in
    let L : List (List ClassId) → Type 0 = λ direct. IsLeast (IsCycleCase order direct) None in
    let A : List (List ClassId) → Type 0 = λ direct. AllList direct c.in_ok-classes.classes.items in
    headers_hierarchy _ object classes order refl (c.in_ok-classes.ensures.headers ∙ ap (declared_headers order) c.requires.supers) (subst K rows c.requires.known) (subst L rows c.requires.acyclic) (subst A rows c.in_ok-classes.ensures.above)
