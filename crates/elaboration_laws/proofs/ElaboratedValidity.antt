-- An elaborated program is valid, where its table has the class of strings that the typing of bodies asks for.
use Rattle.std.proofs.Common.{◌≡◌, sym, subst, ℕ, zero, suc, Option, Some, None, List, [], ◌∷◌}
use Rattle.std.specs.Prelude.{slice_get}
use Rattle.std.specs.List.{AllZip}
use Rattle.java_syntax.specs.declared.declaration_trees.Unit as tree
use Rattle.java_syntax.specs.declared.settings.Settings.{Settings}
use Rattle.program_model.specs.declared.kinds.BodyId.{BodyId}
use Rattle.program_model.specs.declared.program.Program.{Program}
use Rattle.program_model.specs.declared.tree.Body.{Body}
use Rattle.program_model.specs.Lookups.{body_at}
use Rattle.program_model.specs.Trees.{IsForest}
use Rattle.program_model.specs.Validity.{IsValid}
use Rattle.method_bodies.specs.MethodBodies.{body_cases}
use Rattle.class_table.specs.Passes.{IsBuilt, classes_of}
use Rattle.java_elaboration.specs.SourceClassesMembers.{Environment}
use Rattle.java_elaboration.specs.SourceClasses.{source_classes}
use Rattle.java_elaboration.specs.Bodies.{SourceBody, all_bodies}
use Rattle.java_elaboration.specs.ProgramCases.{environment_of, program_cases, typed_program}
use Rattle.java_elaboration.specs.TypedBodies.{TypedBody}
use Rattle.java_elaboration.specs.Elaborations.{IsBodyOf, IsProgramOf}
use Rattle.elaboration_laws.specs.LaidBodies.{HasHeadsInTrees}
use Rattle.elaboration_laws.specs.MethodNumbers.{AreDistinct}
use Rattle.elaboration_laws.proofs.DistinctBodies.{bodies_distinct}
use Rattle.elaboration_laws.specs.ElaboratedOrders.{AreOrderedBodies, HasOrderedStatements}
use Rattle.elaboration_laws.proofs.ElaboratedBodies.{bodies_ordered}
use Rattle.elaboration_laws.proofs.ElaboratedVariables.{bodies_in_order}
use Rattle.elaboration_laws.specs.ElaboratedBodies.{HasSingleTrees}
use Rattle.elaboration_laws.proofs.ElaboratedLaws.{elaborated_typed}
use Rattle.elaboration_laws.specs.StringTables.{IsStringTable}
use Rattle.elaboration_laws.proofs.BodyTables.{bodies_in_table}
use Rattle.elaboration_laws.proofs.SingleBodies.{body_methods, methods_are, single_body}

none_is_some : {X : Type 0} (x : X) → ◌≡◌ {A = Option X} None (Some x) → ⊥
none_is_some x h = cc

same_some : {X : Type 0} (x y : X) → ◌≡◌ {A = Option X} (Some x) (Some y) → x ≡ y
same_some x y h = cc

forest_at : (ts : List TypedBody) (xs : List Body) (n : ℕ) (x : Body) → AllZip IsBodyOf ts xs → slice_get xs n ≡ Some x → IsForest x
forest_at ts [] n x laid at = absurd (none_is_some x at)
forest_at [] (y ∷ ys) n x laid at = absurd laid
forest_at (t ∷ ts) (y ∷ ys) zero x laid at = subst IsForest (same_some y x at) laid.0.forest
forest_at (t ∷ ts) (y ∷ ys) (suc n) x laid at = forest_at ts ys n x laid.1 at

single_trees : (units : List tree.Unit) (p q : Program) → IsProgramOf p (typed_program p units) q → AreDistinct (body_methods q.bodies.items) → AreOrderedBodies q → HasSingleTrees q
single_trees units p q made distinct ordered =
    let trees : (n : BodyId) (x : Body) → body_at q n ≡ Some x → HasHeadsInTrees x = λ n x at.
    let order : HasOrderedStatements q x = ordered.each n x at in
    record { forest = forest_at (typed_program p units) q.bodies.items n.0 x made.laid at; heads = order.heads; super_call = order.super_call; headless = order.headless } in
    record { few = made.table.few; single = λ n x at. single_body q.bodies.items n x distinct at; trees = trees }

pub valid_where_strings : (units stubs : List tree.Unit) (settings : Settings) (p q : Program) → IsBuilt (classes_of units stubs settings) settings p → IsStringTable p units → body_cases units ≡ [] → program_cases p units ≡ [] → IsProgramOf p (typed_program p units) q → IsValid q
valid_where_strings units stubs settings p q built strings due none made =
    let e : Environment = environment_of p units in
    let bs : List SourceBody = all_bodies e (source_classes p units) in
    let distinct : AreDistinct (body_methods q.bodies.items) = subst AreDistinct (sym (methods_are e bs q.bodies.items made.laid)) (bodies_distinct e units built.valid.typed) in
    let ordered : AreOrderedBodies q = bodies_ordered units stubs settings p q built none made in
    record {
      typed = elaborated_typed p units q built.valid.typed (bodies_in_table units stubs settings p built strings due) none made (single_trees units p q made distinct ordered);
      ordered = bodies_in_order units stubs settings p q built none made;
      same_initializers = ordered.same_initializers;
    }
