-- What holds of each body whose tables are laid statements holds of this one.
use Rattle.std.proofs.Common.{rules, map}
use Rattle.java_typed_trees.specs.StatementTrees.{statement_of, statements}
use Rattle.java_laying.proofs.BodyLaws.{has_statements, laid_is_forest}
use Rattle.java_laying.proofs.bodies.lay_body.Goals as goal

pub returns-clause-trees : goal.returns-clause-trees
returns-clause-trees c = search (rules, has_statements)

pub returns-clause-forest : goal.returns-clause-forest
returns-clause-forest c = laid_is_forest _ (statements (map statement_of c.args.trees.now)) (search rules) c.requires.room c.requires.room_of_expressions
