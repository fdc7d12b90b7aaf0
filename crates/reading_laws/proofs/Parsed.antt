-- What is parsed is derived, and so written with its tokens.
use Rattle.std.specs.Prelude.{◌≡◌, ℕ, true, false, List, ◌++◌, take, map}
use Rattle.std.specs.List.{All}
use Rattle.std.proofs.Common.{sym, ◌∙◌, ap, subst}
use Rattle.std.proofs.Math.Seq.{take-append_seam}
use Rattle.java_syntax.specs.declared.symbols.Symbol.{Symbol}
use Rattle.java_syntax.specs.declared.names.Typ.{Typ}
use Rattle.java_syntax.specs.declared.tokens.Token.{Token}
use Rattle.java_syntax.specs.Derives.{Lexeme, Step, lexeme_of}
use Rattle.java_lexer.specs.Cut.{IsTokenOf}
use Rattle.java_syntax.specs.ExpressionTrees.{ExprTree}
use Rattle.java_syntax.specs.AnnotationTrees.{AnnoTree}
use Rattle.java_syntax.specs.DeclarationTrees.{UnitTree}
use Rattle.java_values.specs.Outcomes.{Made}
use Rattle.java_grammar.specs.Fronts.{IsClosedFront}
use Rattle.java_exprs.specs.FrontTrees.{IsExpressionFront, IsTypeFront, IsAnnotationsFront}
use Rattle.program_front.specs.FileTrees.{IsUnitTree, IsStubTree}
use Rattle.reading_laws.specs.Names.{IsType}
use Rattle.reading_laws.specs.Expressions.{IsExpression, HasLooseOperator}
use Rattle.reading_laws.specs.Annotations.{AreAnnotations}
use Rattle.reading_laws.specs.Declarations.{IsUnit, AreUnits}
use Rattle.reading_laws.proofs.Classes.{tokens_fit, front_fits}
use Rattle.reading_laws.proofs.Files.{unit_written, units_written, expression_written, type_written, annotations_written}

pub parsed_unit : (bytes : List ℕ) (tokens : List Token) (tree : UnitTree) → All (IsTokenOf bytes) tokens → IsUnitTree (map (lexeme_of bytes) tokens) tree → IsUnit tree (map (lexeme_of bytes) tokens)
parsed_unit bytes tokens tree c f = unit_written 128 false (map (lexeme_of bytes) tokens) f.steps tree (tokens_fit bytes tokens c) f.derivation f.evaluated

pub parsed_stub : (bytes : List ℕ) (tokens : List Token) (trees : List UnitTree) → All (IsTokenOf bytes) tokens → IsStubTree (map (lexeme_of bytes) tokens) trees → AreUnits trees (map (lexeme_of bytes) tokens)
parsed_stub bytes tokens trees c f = units_written 128 true (map (lexeme_of bytes) tokens) f.steps trees (tokens_fit bytes tokens c) f.derivation f.evaluated

-- the tokens of the front
used_is : {symbol : Symbol} {tokens : List Lexeme} {count : ℕ} {steps : List Step} (f : IsClosedFront false symbol tokens count steps) → f.used ≡ take count tokens
used_is {count = count} f = sym (take-append_seam f.used f.rest) ∙ (ap (λ n. take n (f.used ++ f.rest)) f.place ∙ ap (λ ts. take count ts) (sym f.parts))

used_fits : {symbol : Symbol} {count : ℕ} {steps : List Step} (bytes : List ℕ) (tokens : List Token) → All (IsTokenOf bytes) tokens → (f : IsClosedFront false symbol (map (lexeme_of bytes) tokens) count steps) → All HasLooseOperator f.used
used_fits bytes tokens c f = front_fits (map (lexeme_of bytes) tokens) f.used f.rest f.parts (tokens_fit bytes tokens c)

pub parsed_expression : (bytes : List ℕ) (tokens : List Token) (limit count : ℕ) (tree : ExprTree) → All (IsTokenOf bytes) tokens → IsExpressionFront limit (map (lexeme_of bytes) tokens) count tree → IsExpression tree (take count (map (lexeme_of bytes) tokens))
parsed_expression bytes tokens limit count tree c f = subst (λ ts. IsExpression tree ts) (used_is f.front.front)
    (expression_written limit false f.front.front.used f.front.steps (record { tree = tree; depth = f.seen.0 }) (used_fits bytes tokens c f.front.front) f.front.front.derived (f.front.evaluated ∙ ap (λ vs. Made vs) f.seen.1))

pub parsed_type : (bytes : List ℕ) (tokens : List Token) (count : ℕ) (typ : Typ) → All (IsTokenOf bytes) tokens → IsTypeFront (map (lexeme_of bytes) tokens) count typ → IsType typ (take count (map (lexeme_of bytes) tokens))
parsed_type bytes tokens count typ c f = subst (λ ts. IsType typ ts) (used_is f.front.front)
    (type_written 128 false f.front.front.used f.front.steps typ (used_fits bytes tokens c f.front.front) f.front.front.derived (f.front.evaluated ∙ ap (λ vs. Made vs) f.seen))

pub parsed_annotations : (bytes : List ℕ) (tokens : List Token) (limit count : ℕ) (all : List AnnoTree) → All (IsTokenOf bytes) tokens → IsAnnotationsFront limit (map (lexeme_of bytes) tokens) count all → AreAnnotations all (take count (map (lexeme_of bytes) tokens))
parsed_annotations bytes tokens limit count all c f = subst (λ ts. AreAnnotations all ts) (used_is f.front.front)
    (annotations_written limit false f.front.front.used f.front.steps (record { tree = all; depth = f.seen.0 }) (used_fits bytes tokens c f.front.front) f.front.front.derived (f.front.evaluated ∙ ap (λ vs. Made vs) f.seen.1))
