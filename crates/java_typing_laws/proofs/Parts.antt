-- Lists of typed trees, and what each law of a statement needs of them.
use Rattle.std.proofs.Common.{◌≡◌, ℕ, ◌+◌, ◌≤◌, Bool, true, false, Option, List, [], ◌∷◌, ◌++◌, refl, sym, subst, ap, ◌∙◌, arith}
use Rattle.std.proofs.lemmas.List.Elements.{All-push}
use Rattle.rlc_base.specs.declared.place.Pos.{Pos}
use Rattle.program_model.specs.declared.kinds.VType.{VType}
use Rattle.java_syntax.specs.ExpressionTrees as syntax
use Rattle.java_typed_trees.specs.declared.scope.Local.{Local}
use Rattle.java_typed_trees.specs.ExpressionTrees.{ExprTree, expressions}
use Rattle.java_typed_trees.specs.StatementTrees.{StmtTree, statements}
use Rattle.java_typed_trees.specs.WellFormed.{AreWellFormed, IsWellFormed, count}
use Rattle.java_typed_trees.specs.WellFormedStatements.{AreWellFormedStatements, count_statements}
use Rattle.java_call_rules.specs.Surroundings.{Surroundings}
use Rattle.java_variable_rules.proofs.VariableLaws.{AreTyped, IsTyped}
use Rattle.java_statement_parts.specs.Cases.{value_cases}
use Rattle.java_statement_parts.specs.Typings.{tree, typing}
use Rattle.java_statement_parts.proofs.Goodness.{IsKnown, cons_is_nil, well_formed}
use Rattle.java_statement_parts.proofs.WellTyped.{has_type}
use Rattle.java_statement_rules.specs.DeclaredVariables.{declared_type}
use Rattle.java_statement_rules.specs.StatementCases.{unless}

-- ---- lists of trees

pub count_append : (xs ys : List ExprTree) → count (expressions (xs ++ ys)) ≡ count (expressions xs) + count (expressions ys)
count_append [] ys = omega arith
count_append (x ∷ xs) ys = ap (λ n. 1 + n) (count_append xs ys) ∙ omega arith

pub append_well : (xs ys : List ExprTree) → AreWellFormed (expressions xs) → AreWellFormed (expressions ys) → AreWellFormed (expressions (xs ++ ys))
append_well [] ys h g = g
append_well (x ∷ xs) ys h g = (h.0, append_well xs ys h.1 g)

pub count_statements_append : (xs ys : List StmtTree) → count_statements (statements (xs ++ ys)) ≡ count_statements (statements xs) + count_statements (statements ys)
count_statements_append [] ys = omega arith
count_statements_append (x ∷ xs) ys = ap (λ n. 1 + n) (count_statements_append xs ys) ∙ omega arith

pub append_statements_well : (xs ys : List StmtTree) → AreWellFormedStatements (statements xs) → AreWellFormedStatements (statements ys) → AreWellFormedStatements (statements (xs ++ ys))
append_statements_well [] ys h g = g
append_statements_well (x ∷ xs) ys h g = (h.0, append_statements_well xs ys h.1 g)

-- ---- numbers of parts

pub at_least : (total a b c i o : ℕ) → total ≡ a + b + c → a ≡ i → b ≡ o → i + o ≤ total
at_least total a b c i o is ha hb = omega arith

pub one_more : (total a b i o : ℕ) → total ≡ a + b → a ≡ i → b ≡ o → 1 + total ≡ 1 + i + o
one_more total a b i o is ha hb = omega arith

-- ---- what is not refused

pub holds : (b : Bool) (place : Pos) → unless b place ≡ [] → b ≡ true
holds true place none = refl
holds false place none = absurd (cons_is_nil _ _ none)

pub value_well : (s : Surroundings) → AreTyped s.context.locals → (wanted : Option VType) (e : syntax.ExprTree) → value_cases s wanted e ≡ [] → IsWellFormed (tree s wanted e)
value_well s typed wanted e none = well_formed (typing s wanted e) (has_type s typed wanted e none).good

-- ---- variables that are in scope

pub known_is_typed : (t : Option VType) → IsKnown t → IsTyped (declared_type t)
known_is_typed t k = subst (λ u. IsTyped (declared_type u)) (sym k.is) tt

pub with_one_typed : (xs : List Local) (x : Local) → AreTyped xs → IsTyped x.variable.static_type → AreTyped (xs ++ x ∷ [])
with_one_typed xs x typed h = All-push (λ y. IsTyped y.variable.static_type) xs x typed h
