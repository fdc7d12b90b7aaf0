-- The tests of what follows: a word that would go on with a symbol never stands behind it.
use Rattle.std.specs.Prelude.{◌≡◌, Bool, true, false, not, ◌&&◌, ◌||◌, List, [], ◌∷◌, Some, None, is_some}
use Rattle.std.proofs.Common.{refl}
use Rattle.java_syntax.specs.declared.words.Word.{Word}
use Rattle.java_syntax.specs.declared.symbols.Symbol.{Symbol}
use Rattle.java_syntax.specs.declared.symbols.Item.{Item}
use Rattle.java_syntax.specs.declared.symbols.Item.TheVariants.{Take, Read, Do}
use Rattle.java_syntax.specs.declared.productions.Production.{Production}
use Rattle.java_syntax.specs.declared.productions.Production.TheVariants.{Declare, State, Compute}
use Rattle.java_syntax.specs.declared.productions.DeclarationProduction.{DeclarationProduction}
use Rattle.java_syntax.specs.declared.productions.DeclarationProduction.TheVariants as declaration
use Rattle.java_syntax.specs.declared.productions.StatementProduction.{StatementProduction}
use Rattle.java_syntax.specs.declared.productions.StatementProduction.TheVariants as statement
use Rattle.java_syntax.specs.declared.productions.ExpressionProduction.{ExpressionProduction}
use Rattle.java_syntax.specs.declared.productions.ExpressionProduction.TheVariants as expression
use Rattle.java_syntax.specs.Table.{body_of, head_of}
use Rattle.java_syntax.specs.Derives.{leaves_no_else}
use Rattle.java_grammar.specs.Lookahead.{found}
use Rattle.java_grammar.specs.Reached.{leads, empty, goes_on}
use Rattle.java_grammar.proofs.Bools.{implied, not_so, is_none_of}
use Rattle.java_grammar.proofs.Words.{all, words, each_word}

abbrev is_alone : Production → Word → Bool
is_alone a w = not (empty (body_of a)) || (not (is_some (found (head_of a) w)) || (goes_on (head_of a) w || not (leaves_no_else a (Some w))))

alone_declaration : (p : DeclarationProduction) → all (is_alone (Declare p)) words ≡ true
unfolding all words found
alone_declaration declaration.UnitOf = refl
alone_declaration _ = refl

alone_statement : (p : StatementProduction) → all (is_alone (State p)) words ≡ true
unfolding all words found
alone_statement statement.BlockOf = refl
alone_statement _ = refl

alone_expression : (p : ExpressionProduction) → all (is_alone (Compute p)) words ≡ true
unfolding all words found
alone_expression expression.NameExpression = refl
alone_expression _ = refl

alone_well : (a : Production) → all (is_alone a) words ≡ true
alone_well (Declare p) = alone_declaration p
alone_well (State p) = alone_statement p
alone_well (Compute p) = alone_expression p

false_by : (a b : Bool) → a ≡ false → b ≡ true → (a || not b) ≡ false
false_by a b h k = rw (h, k) refl

-- Where nothing is derived, and the next word doesn't go on, that word chooses no other production.
pub alone_at : (a : Production) (w : Word) → empty (body_of a) ≡ true → goes_on (head_of a) w ≡ false → leaves_no_else a (Some w) ≡ true → found (head_of a) w ≡ None
alone_at a w h e g =
    let p = implied (empty (body_of a)) _ (each_word (is_alone a) (alone_well a) w) h in
    is_none_of (found (head_of a) w) (not_so (is_some (found (head_of a) w)) (goes_on (head_of a) w || not (leaves_no_else a (Some w))) p (false_by _ _ e g))

abbrev pub parts : Symbol → Symbol → List Item → Word → Bool
parts s x is w = not (leads is (λ v. not (goes_on s v)) w) || not (goes_on x w)

abbrev pub parts_well : Symbol → List Item → Bool
parts_well s [] = true
parts_well s (Take v e ∷ is) = parts_well s is
parts_well s (Do a ∷ is) = parts_well s is
parts_well s (Read x ∷ is) = all (parts s x is) words && parts_well s is

parted_declaration : (p : DeclarationProduction) → parts_well (head_of (Declare p)) (body_of (Declare p)) ≡ true
unfolding all words found
parted_declaration declaration.UnitOf = refl
parted_declaration _ = refl

parted_statement : (p : StatementProduction) → parts_well (head_of (State p)) (body_of (State p)) ≡ true
unfolding all words found
parted_statement statement.BlockOf = refl
parted_statement _ = refl

parted_expression : (p : ExpressionProduction) → parts_well (head_of (Compute p)) (body_of (Compute p)) ≡ true
unfolding all words found
parted_expression expression.NameExpression = refl
parted_expression _ = refl

parted_well : (a : Production) → parts_well (head_of a) (body_of a) ≡ true
parted_well (Declare p) = parted_declaration p
parted_well (State p) = parted_statement p
parted_well (Compute p) = parted_expression p

pub parts_at : (a : Production) → parts_well (head_of a) (body_of a) ≡ true
parts_at a = parted_well a
