use Rattle.std.proofs.Common.{subst, false, List, []}
use Rattle.java_syntax.specs.declared.symbols.Symbol.TheVariants as symbols
use Rattle.java_syntax.specs.DeclarationTrees.{unit_of}
use Rattle.java_grammar.specs.Reached.{lexemes_of}
use Rattle.java_values.specs.Values.{ValueTree, values_of}
use Rattle.java_values.specs.Values as kinds
use Rattle.java_exprs.proofs.Sense.{top_of}
use Rattle.java_parser.specs.FileTrees.{IsFileValues}
use Rattle.java_parser.proofs.FileLaws.{unit_meant, unit_kinds, shown_unit, only_unit}
use Rattle.java_parser.proofs.file_trees.unit_tree.Goals as goal

pub file_values-requires : goal.file_values-requires
file_values-requires c = unit_meant (lexemes_of c.args.bytes.now c.args.tokens.now)

pub pop_unit-requires : goal.pop_unit-requires
pop_unit-requires c = top_of kinds.unit [] _ (unit_kinds (lexemes_of c.args.bytes.now c.args.tokens.now) _ c.in-Ok.ensures.tree)

pub returns-in-Ok-clause-tree : goal.returns-in-Ok-clause-tree
returns-in-Ok-clause-tree c =
    let ts = lexemes_of c.args.bytes.now c.args.tokens.now in
    subst (λ (vs : List ValueTree). IsFileValues false symbols.CompilationUnit ts vs) (shown_unit ts (values_of c.in-Ok.values.items) _ (unit_of c.pop_unit.result) c.in-Ok.ensures.tree c.pop_unit.ensures) c.in-Ok.ensures.tree

pub returns-in-Ok-clause-only : goal.returns-in-Ok-clause-only
returns-in-Ok-clause-only c =
    let ts = lexemes_of c.args.bytes.now c.args.tokens.now in
    only_unit ts (values_of c.in-Ok.values.items) (unit_of c.pop_unit.result) (shown_unit ts (values_of c.in-Ok.values.items) _ (unit_of c.pop_unit.result) c.in-Ok.ensures.tree c.pop_unit.ensures) c.in-Ok.ensures.only
