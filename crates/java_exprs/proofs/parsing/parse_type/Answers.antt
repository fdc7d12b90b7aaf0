use Rattle.std.proofs.Common.{◌≡◌, ap, drop, []}
use Rattle.java_syntax.specs.declared.symbols.Symbol.TheVariants as symbols
use Rattle.java_grammar.specs.Reached.{lexemes_of}
use Rattle.java_exprs.specs.FrontTrees.{shows_type}
use Rattle.java_exprs.proofs.ParsingLaws.{front_moved}
use Rattle.java_exprs.proofs.parsing.parse_type.Goals as goal

pub returns-in-Ok-clause-only : goal.returns-in-Ok-clause-only
returns-in-Ok-clause-only c =
    let b = c.args.source.now.bytes.now in
    let same : lexemes_of b c.tokens_from-tokens.result.now ≡ lexemes_of b (drop c.args.at c.args.source.now.tokens.now) = ap (lexemes_of b) c.tokens_from-tokens.ensures in
    front_moved shows_type symbols.Type 128 [] _ _ c.in-Ok.count c.args.at c.in-Ok.typ same c.in-Ok.ensures.only
