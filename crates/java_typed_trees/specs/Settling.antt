-- What a rule's answer makes of an expression: the refusals that it counts, and the typed tree.
use Rattle.std.specs.Prelude.{None, List, []}
use Rattle.rlc_base.specs.declared.faults.Refusal.{Refusal}
use Rattle.program_model.specs.declared.kinds.ClassId.{ClassId}
use Rattle.program_model.specs.declared.program.Program.{Program}
use Rattle.java_typed_trees.specs.declared.facts.Answer.{Answer}
use Rattle.java_typed_trees.specs.declared.facts.Answer.TheVariants as answers
use Rattle.java_typed_trees.specs.declared.shapes.Shape.TheVariants as shapes
use Rattle.java_typed_trees.specs.Answers.{refused, type_of}
use Rattle.java_typed_trees.specs.Exceptions.{classes_thrown, undeclared_cases}
use Rattle.java_typed_trees.specs.ExpressionTrees.{ExprTree, ExprTrees, Node}

-- the refusals of an expression itself, without those of its parts: that it has no type, or throws what is not declared
abbrev pub own_cases : Program → List ClassId → Answer → List Refusal
own_cases p covered (answers.Is shape facts) = undeclared_cases p covered (classes_thrown p shape) facts.pos
own_cases p covered (answers.Wrong code place) = refused code place
own_cases p covered (answers.Silent place) = []

-- the typed tree over those of the parts
abbrev pub tree_in : Answer → ExprTrees → ExprTree
tree_in (answers.Is shape facts) parts = Node shape (type_of facts) facts.pos parts
tree_in (answers.Wrong code place) parts = Node shapes.Erroneous None place parts
tree_in (answers.Silent place) parts = Node shapes.Erroneous None place parts
