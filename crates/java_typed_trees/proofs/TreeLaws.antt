-- An expression that is not refused, and whose parts are not, has a type and a well-formed tree.
use Rattle.std.proofs.Common.{◌≡◌, Option, Some, None, List, [], ◌∷◌}
use Rattle.rlc_base.specs.declared.place.Pos.{Pos}
use Rattle.program_model.specs.declared.kinds.ClassId.{ClassId}
use Rattle.program_model.specs.declared.kinds.VType.{VType}
use Rattle.program_model.specs.declared.program.Program.{Program}
use Rattle.java_typed_trees.specs.declared.facts.StaticType.{StaticType}
use Rattle.java_typed_trees.specs.declared.facts.StaticType.TheVariants as static_types
use Rattle.java_typed_trees.specs.declared.facts.Answer.{Answer}
use Rattle.java_typed_trees.specs.declared.facts.Answer.TheVariants as answers
use Rattle.java_typed_trees.specs.Answers.{facts_in, type_in, type_of, void_cases, void_cases_of}
use Rattle.java_typed_trees.specs.AnswerParts.{AnswerTakes, IsDecided, IsSettled}
use Rattle.java_typed_trees.specs.ExpressionTrees.{ExprTrees}
use Rattle.java_typed_trees.specs.Settling.{own_cases, tree_in}
use Rattle.java_typed_trees.specs.WellFormed.{AreWellFormed, IsWellFormed, count}

cons_is_nil : {X : Type 0} (x : X) (xs : List X) → ◌≡◌ {A = List X} (x ∷ xs) [] → ⊥
cons_is_nil x xs h = cc

-- the tree of an expression that is not refused is well-formed where its parts are
pub tree_well_formed : (p : Program) (covered : List ClassId) (a : Answer) (parts : ExprTrees) → AnswerTakes (count parts) a → IsDecided a → own_cases p covered a ≡ [] → AreWellFormed parts → IsWellFormed (tree_in a parts)
tree_well_formed p covered (answers.Is shape facts) parts takes decided none well = (takes, well)
tree_well_formed p covered (answers.Wrong code place) parts takes decided none well = absurd (cons_is_nil _ _ none)
tree_well_formed p covered (answers.Silent place) parts takes decided none well = absurd decided

settled_value : (t : StaticType) (place : Pos) → IsSettled t → void_cases_of t place ≡ [] → type_in t ≡ None → ⊥
settled_value (static_types.Value t) place settled none untyped = some_is_none t untyped
  where
    some_is_none : (t : VType) → ◌≡◌ {A = Option VType} (Some t) None → ⊥
    some_is_none t h = cc
settled_value static_types.Void place settled none untyped = cons_is_nil _ _ none
settled_value static_types.Erroneous place settled none untyped = settled

-- where a value is needed, an expression without a type is refused, there or as a call without a result
pub value_or_refused : (p : Program) (covered : List ClassId) (a : Answer) → IsDecided a → own_cases p covered a ≡ [] → void_cases (facts_in a) ≡ [] → type_of (facts_in a) ≡ None → ⊥
value_or_refused p covered (answers.Is shape facts) decided none no_void untyped = settled_value facts.static_type facts.pos decided no_void untyped
value_or_refused p covered (answers.Wrong code place) decided none no_void untyped = cons_is_nil _ _ none
value_or_refused p covered (answers.Silent place) decided none no_void untyped = decided
