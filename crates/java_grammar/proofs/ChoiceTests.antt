-- The tests of the choices: each production is chosen by each word that can lead it, and the one that derives nothing is its symbol's default.
use Rattle.std.specs.Prelude.{◌≡◌, Bool, true, not, ◌||◌, Some}
use Rattle.std.proofs.Common.{refl}
use Rattle.java_syntax.specs.declared.words.Word.{Word}
use Rattle.java_syntax.specs.declared.productions.Production.{Production}
use Rattle.java_syntax.specs.declared.productions.Production.TheVariants.{Declare, State, Compute}
use Rattle.java_syntax.specs.declared.productions.DeclarationProduction.{DeclarationProduction}
use Rattle.java_syntax.specs.declared.productions.DeclarationProduction.TheVariants as declaration
use Rattle.java_syntax.specs.declared.productions.StatementProduction.{StatementProduction}
use Rattle.java_syntax.specs.declared.productions.StatementProduction.TheVariants as statement
use Rattle.java_syntax.specs.declared.productions.ExpressionProduction.{ExpressionProduction}
use Rattle.java_syntax.specs.declared.productions.ExpressionProduction.TheVariants as expression
use Rattle.java_syntax.specs.Table.{body_of, head_of}
use Rattle.java_grammar.specs.Choices.{default_production}
use Rattle.java_grammar.specs.Lookahead.{found}
use Rattle.java_grammar.specs.Reached.{leads, empty, no_word}
use Rattle.java_grammar.proofs.Bools.{implied}
use Rattle.java_grammar.proofs.Words.{all, words, each_word}
use Rattle.java_grammar.proofs.Numbers.{number, is_just, just}

abbrev chooses : Production → Word → Bool
chooses a w = not (leads (body_of a) no_word w) || is_just a (found (head_of a) w)

chosen_declaration : (p : DeclarationProduction) → all (chooses (Declare p)) words ≡ true
unfolding all words is_just number found
chosen_declaration declaration.UnitOf = refl
chosen_declaration _ = refl

chosen_statement : (p : StatementProduction) → all (chooses (State p)) words ≡ true
unfolding all words is_just number found
chosen_statement statement.BlockOf = refl
chosen_statement _ = refl

chosen_expression : (p : ExpressionProduction) → all (chooses (Compute p)) words ≡ true
unfolding all words is_just number found
chosen_expression expression.NameExpression = refl
chosen_expression _ = refl

chosen_well : (a : Production) → all (chooses a) words ≡ true
chosen_well (Declare p) = chosen_declaration p
chosen_well (State p) = chosen_statement p
chosen_well (Compute p) = chosen_expression p

pub chooses_at : (a : Production) (w : Word) → leads (body_of a) no_word w ≡ true → found (head_of a) w ≡ Some a
chooses_at a w h = just a (found (head_of a) w) (implied (leads (body_of a) no_word w) (is_just a (found (head_of a) w)) (each_word (chooses a) (chosen_well a) w) h)

abbrev defaults : Production → Bool
defaults a = not (empty (body_of a)) || is_just a (default_production (head_of a))

default_declaration : (p : DeclarationProduction) → defaults (Declare p) ≡ true
unfolding is_just number
default_declaration declaration.UnitOf = refl
default_declaration _ = refl

default_statement : (p : StatementProduction) → defaults (State p) ≡ true
unfolding is_just number
default_statement statement.BlockOf = refl
default_statement _ = refl

default_expression : (p : ExpressionProduction) → defaults (Compute p) ≡ true
unfolding is_just number
default_expression expression.NameExpression = refl
default_expression _ = refl

default_well : (a : Production) → defaults a ≡ true
default_well (Declare p) = default_declaration p
default_well (State p) = default_statement p
default_well (Compute p) = default_expression p

pub default_at : (a : Production) → empty (body_of a) ≡ true → default_production (head_of a) ≡ Some a
default_at a h = just a (default_production (head_of a)) (implied (empty (body_of a)) (is_just a (default_production (head_of a))) (default_well a) h)
