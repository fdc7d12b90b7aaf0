use Rattle.std.proofs.Common.{subst, map, true, List, []}
use Rattle.java_syntax.specs.declared.symbols.Symbol.TheVariants as symbols
use Rattle.java_syntax.specs.DeclarationTrees.{unit_of}
use Rattle.java_grammar.specs.Reached.{lexemes_of}
use Rattle.java_values.specs.Values.{ValueTree, values_of}
use Rattle.java_values.specs.Values as kinds
use Rattle.java_exprs.proofs.Sense.{top_of}
use Rattle.java_parser.specs.FileTrees.{IsFileValues}
use Rattle.java_parser.proofs.FileLaws.{stub_meant, stub_kinds, shown_units, only_units}
use Rattle.java_parser.proofs.file_trees.stub_trees.Goals as goal

pub file_values-requires : goal.file_values-requires
file_values-requires c = stub_meant (lexemes_of c.args.bytes.now c.args.tokens.now)

pub pop_units-requires : goal.pop_units-requires
pop_units-requires c = top_of kinds.units [] _ (stub_kinds (lexemes_of c.args.bytes.now c.args.tokens.now) _ c.in-Ok.ensures.tree)

pub returns-in-Ok-clause-trees : goal.returns-in-Ok-clause-trees
returns-in-Ok-clause-trees c =
    let ts = lexemes_of c.args.bytes.now c.args.tokens.now in
    subst (λ (vs : List ValueTree). IsFileValues true symbols.StubFile ts vs) (shown_units ts (values_of c.in-Ok.values.items) _ (map unit_of c.pop_units.result.items) c.in-Ok.ensures.tree c.pop_units.ensures) c.in-Ok.ensures.tree

pub returns-in-Ok-clause-only : goal.returns-in-Ok-clause-only
returns-in-Ok-clause-only c =
    let ts = lexemes_of c.args.bytes.now c.args.tokens.now in
    only_units ts (values_of c.in-Ok.values.items) (map unit_of c.pop_units.result.items) (shown_units ts (values_of c.in-Ok.values.items) _ (map unit_of c.pop_units.result.items) c.in-Ok.ensures.tree c.pop_units.ensures) c.in-Ok.ensures.only
