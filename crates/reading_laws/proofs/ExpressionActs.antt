-- The actions of expressions, names and types.
use Rattle.std.specs.Prelude.{◌≡◌, List, [], ◌∷◌, ◌++◌, None}
use Rattle.std.proofs.Common.{arith, sym, ◌∙◌, ap, append_assoc}
use Rattle.java_syntax.specs.declared.words.Word.{Word}
use Rattle.java_syntax.specs.declared.words.Word.TheVariants as word
use Rattle.java_syntax.specs.declared.actions.Action.{Action}
use Rattle.java_syntax.specs.declared.actions.Action.TheVariants as action
use Rattle.java_syntax.specs.declared.actions.ExpressionAction.{ExpressionAction}
use Rattle.java_syntax.specs.declared.actions.ExpressionAction.TheVariants as computes
use Rattle.java_syntax.specs.Derives.{Lexeme}
use Rattle.java_syntax.specs.ExpressionTrees as tree
use Rattle.java_nodes.specs.Parts.{name_expression, named_call, loosest, comparison, closed}
use Rattle.java_expression_actions.specs.ExpressionActions.{perform_expression}
use Rattle.reading_laws.specs.Names as names
use Rattle.reading_laws.specs.Expressions as expressions
use Rattle.reading_laws.specs.Expressions.{IsOperand, no_array_level, primary_level, unsigned_level, unary_level, infix_level, conditional_level, assignment_level}
use Rattle.reading_laws.proofs.Cells as cell
use Rattle.reading_laws.proofs.Cells.{Grade, pending, compared, a_pending, a_compared, Cell, word', start, kept, value, never, plain, none, next, some, Holds, a_word, a_start, a_kept, a_value, by_plain, is_none, is_first, is_next, is_some, graded, is_graded}
use Rattle.reading_laws.proofs.Outcomes.{made, misfit, then_twice, node_twice}
use Rattle.reading_laws.proofs.Moves.{moved, Acts, at_place, join3}
use Rattle.reading_laws.proofs.Tables.{a, expression_takes, expression_leaves, prefix_takes, prefix_leaves, other_expression_takes, other_expression_leaves}
use Rattle.reading_laws.proofs.ExpressionLaws.{all_closed, name_of, are_name, are_type, are_expression, are_call}

abbrev pub the : ExpressionAction → Action
the x = action.Compute x

no_expressions : Acts [] (the computes.NoExpressions) (value (none cell.expressions) ∷ [])
unfolding perform_expression
no_expressions file ns vs l to limit h = made _ (a_value _ (is_none (cell.expressions_empty 0)) h)

and_expression : Acts (value (graded cell.full) ∷ value (next cell.expressions word.Comma) ∷ []) (the computes.AndExpression) (value (some cell.expressions word.Comma) ∷ [])
unfolding perform_expression
and_expression file ns vs l to limit (a_value x (is_graded e q) (a_value y (is_first (cell.expressions_empty d)) h)) =
    made _ (a_value _ (is_some (cell.expressions_listed _ (expressions.first_expression e.tree q))) h)
and_expression file ns vs l to limit (a_value x (is_graded e {ts = us} q) (a_value y (is_next t (cell.expressions_listed all {ts = ts} r) c) h)) =
    made _ (a_value _ (is_some (cell.expressions_listed _ (expressions.further_expression t e.tree r c q))) (moved h (append_assoc ts (t ∷ []) (us ++ to) ∙ sym (append_assoc ts (t ∷ us) to))))

some_call : Acts (a cell.call_arguments ∷ []) (the computes.SomeCall) (a cell.call ∷ [])
unfolding perform_expression
some_call file ns vs l to limit (a_value x (by_plain (cell.is_call_arguments e q)) h) = made _ (a_value _ (by_plain (cell.is_call e q)) h)

no_call : Acts [] (the computes.NoCall) (a cell.call ∷ [])
unfolding perform_expression
no_call file ns vs l to limit h = made _ (a_value _ (by_plain cell.is_no_call) h)

head : Acts (a cell.call ∷ a cell.identifier ∷ []) (the computes.Head) (value (graded cell.access) ∷ [])
unfolding perform_expression
head file ns vs l to limit (a_value x (by_plain cell.is_no_call) (a_value y (by_plain (cell.is_identifier t q)) h)) = node_twice limit _ _ _ _ (λ d. made _ (a_value _ (is_graded _ (expressions.identifier t q)) h))
head file ns vs l to limit (a_value x (by_plain (cell.is_call e r)) (a_value y (by_plain (cell.is_identifier t q)) h)) = node_twice limit _ _ _ _ (λ d. made _ (a_value _ (is_graded _ (expressions.call t q r)) h))

selector : Acts (a cell.call ∷ a cell.identifier ∷ word' word.Dot ∷ value (graded cell.primary) ∷ []) (the computes.Selector) (value (graded cell.access) ∷ [])
unfolding perform_expression
selector file ns vs l to limit (a_value x (by_plain cell.is_no_call) (a_value y (by_plain (cell.is_identifier t q)) (a_word dot r (a_value z (is_graded e {ts = ts} g) h)))) =
    node_twice limit _ _ _ _ (λ d. made _ (a_value _ (is_graded _ (expressions.field_access dot t g r q)) (moved h (sym (append_assoc ts (dot ∷ t ∷ []) to)))))
selector file ns vs l to limit (a_value x (by_plain (cell.is_call all {ts = us} k)) (a_value y (by_plain (cell.is_identifier t q)) (a_word dot r (a_value z (is_graded e {ts = ts} g) h)))) =
    node_twice limit _ _ _ _ (λ d. made _ (a_value _ (is_graded _ (expressions.method_call dot t g r q k)) (moved h (sym (append_assoc ts (dot ∷ t ∷ us) to)))))

super_method_call : Acts (a cell.call_arguments ∷ a cell.identifier ∷ word' word.Dot ∷ word' word.Super ∷ []) (the computes.SuperMethodCall) (value (graded cell.access) ∷ [])
unfolding perform_expression
super_method_call file ns vs l to limit (a_value x (by_plain (cell.is_call_arguments all k)) (a_value y (by_plain (cell.is_identifier t q)) (a_word dot r (a_word s p h)))) =
    node_twice limit _ _ _ _ (λ d. made _ (a_value _ (is_graded _ (expressions.super_call s dot t p r q k)) h))

named_call' : Acts (a cell.call_arguments ∷ a cell.identifiers ∷ []) (the computes.NamedCall) (value (graded cell.access) ∷ [])
unfolding perform_expression
named_call' file ns vs l to limit (a_value x (by_plain (cell.is_call_arguments all {ts = us} k)) (a_value y (by_plain (cell.is_identifiers all_names {ts = ts} g)) h)) =
    then_twice (named_call limit all_names all) _ _ (are_call limit all_names all g k) (λ e q. made _ (a_value _ (is_graded e q) (moved h (sym (append_assoc ts us to)))))

name_expression' : Acts (a cell.identifiers ∷ []) (the computes.NameExpression) (value (graded cell.access) ∷ [])
unfolding perform_expression
name_expression' file ns vs l to limit (a_value y (by_plain (cell.is_identifiers all g)) h) = then_twice (name_expression limit all) _ _ (are_expression limit all g) (λ e q. made _ (a_value _ (is_graded e q) h))

-- `a [ i ]`
indexed : (ts us to : List Lexeme) (o c : Lexeme) → ts ++ (o ∷ (us ++ (c ∷ to))) ≡ (ts ++ o ∷ us ++ c ∷ []) ++ to
indexed ts us to o c = join3 ts (o ∷ us) (c ∷ []) to

index : Acts (word' word.CloseBracket ∷ value (graded cell.full) ∷ word' word.OpenBracket ∷ start ∷ value (graded cell.access) ∷ []) (the computes.Index) (value (graded cell.access) ∷ [])
unfolding perform_expression
index file ns vs l to limit (a_word c q (a_value x (is_graded i {ts = us} k) (a_word o r (a_start p b (a_value y (is_graded e {ts = ts} g) h))))) =
    node_twice limit _ _ _ _ (λ d. made _ (a_value _ (is_graded _ (at_place o p b (λ p. IsOperand no_array_level (tree.Index e.tree i.tree p) (ts ++ o ∷ us ++ c ∷ [])) (expressions.index o c g r k q))) (moved h (indexed ts us to o c))))

named_index : Acts (word' word.CloseBracket ∷ value (graded cell.full) ∷ word' word.OpenBracket ∷ start ∷ a cell.identifiers ∷ []) (the computes.NamedIndex) (value (graded cell.access) ∷ [])
unfolding perform_expression
named_index file ns vs l to limit (a_word c q (a_value x (is_graded i {ts = us} k) (a_word o r (a_start p b (a_value y (by_plain (cell.is_identifiers all {ts = ts} g)) h))))) =
    then_twice (name_expression limit all) _ _ (are_expression limit all g)
    (λ e f. node_twice limit _ _ _ _ (λ d. made _ (a_value _ (is_graded _ (at_place o p b (λ p. IsOperand no_array_level (tree.Index e.tree i.tree p) (ts ++ o ∷ us ++ c ∷ [])) (expressions.index o c f r k q))) (moved h (indexed ts us to o c)))))

new_object : Acts (a cell.call_arguments ∷ a cell.name ∷ word' word.New ∷ start ∷ []) (the computes.NewObject) (value (graded cell.access) ∷ [])
unfolding perform_expression
new_object file ns vs l to limit (a_value x (by_plain (cell.is_call_arguments all {ts = us} k)) (a_value y (by_plain (cell.is_name n {ts = ts} g)) (a_word t q (a_start p b h)))) =
    node_twice limit _ _ _ _ (λ d. made _ (a_value _ (is_graded _ (at_place t p b (λ p. IsOperand no_array_level (tree.NewObject n (tree.expressions all.tree) p) (t ∷ ts ++ us)) (expressions.new_object t q g k))) (moved h (ap (λ xs. t ∷ xs) (sym (append_assoc ts us to))))))

new_array : Acts (word' word.CloseBracket ∷ value (graded cell.full) ∷ word' word.OpenBracket ∷ a cell.element ∷ word' word.New ∷ start ∷ []) (the computes.NewArray) (value (graded cell.primary) ∷ [])
unfolding perform_expression
new_array file ns vs l to limit (a_word c q (a_value x (is_graded i {ts = us} k) (a_word o r (a_value y (by_plain (cell.is_element e {ts = ts} g)) (a_word t z (a_start p b h)))))) =
    node_twice limit _ _ _ _ (λ d. made _ (a_value _ (is_graded _ (at_place t p b (λ p. IsOperand primary_level (tree.NewArray e i.tree p) (t ∷ ts ++ o ∷ us ++ c ∷ [])) (expressions.new_array t o c z g r k q))) (moved h (ap (λ xs. t ∷ xs) (indexed ts us to o c)))))

named_type : Acts (a cell.name ∷ []) (the computes.NamedType) (a cell.element ∷ [])
unfolding perform_expression
named_type file ns vs l to limit (a_value y (by_plain (cell.is_name n g)) h) = made _ (a_value _ (by_plain (cell.is_element _ (names.named n g))) h)

identifiers_type : Acts (a cell.identifiers ∷ []) (the computes.IdentifiersType) (a cell.element ∷ [])
unfolding perform_expression
identifiers_type file ns vs l to limit (a_value y (by_plain (cell.is_identifiers all g)) h) = made _ (a_value _ (by_plain (cell.is_element _ (are_type all g))) h)

array_type' : Acts (word' word.CloseBracket ∷ word' word.OpenBracket ∷ start ∷ a cell.identifiers ∷ []) (the computes.ArrayType) (a cell.array_type ∷ [])
unfolding perform_expression
array_type' file ns vs l to limit (a_word c q (a_word o r (a_start p b (a_value y (by_plain (cell.is_identifiers all {ts = ts} g)) h)))) =
    made _ (a_value _ (by_plain (cell.is_array_type _ o c (are_type all g) r q)) (moved h (sym (append_assoc ts (o ∷ c ∷ []) to))))

array_of : Acts (word' word.CloseBracket ∷ word' word.OpenBracket ∷ a cell.element ∷ []) (the computes.ArrayOf) (a cell.array_type ∷ [])
unfolding perform_expression
array_of file ns vs l to limit (a_word c q (a_word o r (a_value y (by_plain (cell.is_element e {ts = ts} g)) h))) =
    made _ (a_value _ (by_plain (cell.is_array_type e o c g r q)) (moved h (sym (append_assoc ts (o ∷ c ∷ []) to))))

prefix_sign : Acts (value (graded cell.unary) ∷ kept word.Sign ∷ []) (the computes.Prefix) (value (graded cell.unary) ∷ [])
unfolding perform_expression
prefix_sign file ns vs l to limit (a_value y (is_graded e g) (a_kept t q h)) = node_twice limit _ _ _ _ (λ d. made _ (a_value _ (is_graded _ (expressions.prefix_sign t q g)) h))

prefix_not : Acts (value (graded cell.unary) ∷ kept word.Not ∷ []) (the computes.Prefix) (value (graded cell.unsigned) ∷ [])
unfolding perform_expression
prefix_not file ns vs l to limit (a_value y (is_graded e g) (a_kept t q h)) = node_twice limit _ _ _ _ (λ d. made _ (a_value _ (is_graded _ (expressions.prefix_not t q g)) h))

prefix_increment : Acts (value (graded cell.unary) ∷ kept word.Step ∷ []) (the computes.PrefixIncrement) (value (graded cell.unary) ∷ [])
unfolding perform_expression
prefix_increment file ns vs l to limit (a_value y (is_graded e g) (a_kept t q h)) =
    node_twice limit _ _ _ _ (λ d. made _ (a_value _ (is_graded _ (expressions.prefix_step t q g)) h))

cast : Acts (value (graded cell.unsigned) ∷ a cell.closed_type ∷ word' word.OpenParen ∷ start ∷ []) (the computes.Cast) (value (graded cell.unsigned) ∷ [])
unfolding perform_expression
cast file ns vs l to limit (a_value y (is_graded e {ts = us} g) (a_value z (by_plain (cell.is_closed_type typ {ts = ts} c k q)) (a_word o r (a_start p b h)))) =
    node_twice limit _ _ _ _ (λ d. made _ (a_value _ (is_graded _ (at_place o p b (λ p. IsOperand unsigned_level (tree.Cast typ e.tree p) (o ∷ ts ++ c ∷ us)) (expressions.cast o c r k q g)))
    (moved h (ap (λ xs. o ∷ xs) (append_assoc ts (c ∷ []) (us ++ to) ∙ sym (append_assoc ts (c ∷ us) to))))))

primitive_cast : Acts (value (graded cell.unary) ∷ a cell.closed_primitive ∷ word' word.OpenParen ∷ start ∷ []) (the computes.Cast) (value (graded cell.unary) ∷ [])
unfolding perform_expression
primitive_cast file ns vs l to limit (a_value y (is_graded e {ts = us} g) (a_value z (by_plain (cell.is_closed_primitive typ {ts = ts} c k q)) (a_word o r (a_start p b h)))) =
    node_twice limit _ _ _ _ (λ d. made _ (a_value _ (is_graded _ (at_place o p b (λ p. IsOperand unary_level (tree.Cast typ e.tree p) (o ∷ ts ++ c ∷ us)) (expressions.primitive_cast o c r k q g)))
    (moved h (ap (λ xs. o ∷ xs) (append_assoc ts (c ∷ []) (us ++ to) ∙ sym (append_assoc ts (c ∷ us) to))))))

-- `( e )`
enclosed : (ts to : List Lexeme) (o c : Lexeme) → o ∷ (ts ++ (c ∷ to)) ≡ (o ∷ ts ++ c ∷ []) ++ to
enclosed ts to o c = ap (λ xs. o ∷ xs) (sym (append_assoc ts (c ∷ []) to))

parentheses : Acts (word' word.CloseParen ∷ value (graded cell.full) ∷ word' word.OpenParen ∷ []) (the computes.Parentheses) (value (graded cell.access) ∷ [])
unfolding perform_expression
parentheses file ns vs l to limit (a_word c q (a_value y (is_graded e {ts = ts} g) (a_word o r h))) =
    node_twice limit _ _ _ _ (λ d. made _ (a_value _ (is_graded _ (expressions.parentheses o c r g q)) (moved h (enclosed ts to o c))))

-- what parentheses hold, with the `)`
closing : (ts to : List Lexeme) (c : Lexeme) → ts ++ (c ∷ to) ≡ (ts ++ c ∷ []) ++ to
closing ts to c = sym (append_assoc ts (c ∷ []) to)

names_inside : Acts (word' word.CloseParen ∷ a cell.identifiers ∷ []) (the computes.NamesInside) (a cell.parenthesized ∷ [])
unfolding perform_expression
names_inside file ns vs l to limit (a_word c q (a_value y (by_plain (cell.is_identifiers all {ts = ts} g)) h)) = made _ (a_value _ (by_plain (cell.is_parenthesized _ c (cell.names_inside all g) q)) (moved h (closing ts to c)))

array_inside : Acts (word' word.CloseParen ∷ a cell.array_type ∷ []) (the computes.ArrayInside) (a cell.parenthesized ∷ [])
unfolding perform_expression
array_inside file ns vs l to limit (a_word c q (a_value y (by_plain (cell.is_array_type typ {ts = ts} o d g r k)) h)) = made _ (a_value _ (by_plain (cell.is_parenthesized _ c (cell.array_inside _ (names.array_type typ o d g r k)) q)) (moved h (closing (ts ++ o ∷ d ∷ []) to c)))

expression_inside' : Acts (word' word.CloseParen ∷ value (graded cell.full) ∷ []) (the computes.ExpressionInside) (a cell.parenthesized ∷ [])
unfolding perform_expression
expression_inside' file ns vs l to limit (a_word c q (a_value y (is_graded e {ts = ts} g) h)) = made _ (a_value _ (by_plain (cell.is_parenthesized _ c (cell.expression_inside e g) q)) (moved h (closing ts to c)))

cast_type : Acts (a cell.parenthesized ∷ []) (the computes.CastType) (a cell.closed_type ∷ [])
unfolding perform_expression
cast_type file ns vs l to limit (a_value y (by_plain (cell.is_parenthesized _ c (cell.names_inside all g) q)) h) = made _ (a_value _ (by_plain (cell.is_closed_type _ c (names.class_type (name_of all) (are_name all g)) q)) h)
cast_type file ns vs l to limit (a_value y (by_plain (cell.is_parenthesized _ c (cell.array_inside typ g) q)) h) = made _ (a_value _ (by_plain (cell.is_closed_type _ c g q)) h)
cast_type file ns vs l to limit (a_value y (by_plain (cell.is_parenthesized _ c (cell.expression_inside e g) q)) h) = misfit

parenthesized_expression : Acts (a cell.parenthesized ∷ word' word.OpenParen ∷ start ∷ []) (the computes.ParenthesizedExpression) (value (graded cell.access) ∷ [])
unfolding perform_expression
parenthesized_expression file ns vs l to limit (a_value y (by_plain (cell.is_parenthesized _ c (cell.names_inside all g) q)) (a_word o r (a_start p b h))) =
    then_twice (name_expression limit all) _ _ (are_expression limit all g) (λ e f. node_twice limit _ _ _ _ (λ d. made _ (a_value _ (is_graded _ (expressions.parentheses o c r (expressions.looser (omega arith) f) q)) h)))
parenthesized_expression file ns vs l to limit (a_value y (by_plain (cell.is_parenthesized _ c (cell.array_inside typ g) q)) (a_word o r (a_start p b h))) = misfit
parenthesized_expression file ns vs l to limit (a_value y (by_plain (cell.is_parenthesized _ c (cell.expression_inside e {ts = ts} g) q)) (a_word o r (a_start p b h))) =
    node_twice limit _ _ _ _ (λ d. made _ (a_value _ (is_graded _ (expressions.parentheses o c r g q)) h))

begin_operations : Acts (value (graded cell.unary) ∷ []) (the computes.BeginOperations) (value (graded cell.unary) ∷ a cell.operations ∷ [])
unfolding perform_expression
begin_operations file ns vs l to limit (a_value y (is_graded e g) h) = made _ (a_value {l = None} _ (is_graded e g) (a_value _ (by_plain (cell.are_operations [] cell.no_operation)) h))

end_operations : Acts (pending ∷ []) (the computes.EndOperations) (value (graded cell.binary) ∷ [])
unfolding perform_expression
end_operations file ns vs l to limit (a_pending e os n {ts = ts} {us = us} o g k r h) =
    then_twice (closed limit loosest e os) _ _ (all_closed limit os o e n g k (omega (arith, r))) (λ c q. made _ (a_value _ (is_graded c.operand q) (moved h (sym (append_assoc ts us to)))))

instance_of : Acts (a cell.typ ∷ word' word.Instanceof ∷ start ∷ compared ∷ []) (the computes.InstanceOf) (compared ∷ [])
unfolding perform_expression
instance_of file ns vs l to limit (a_value x (by_plain (cell.is_type typ {ts = us} k)) (a_word t q (a_start p b (a_compared e os {ts = xs} {us = ts} o g s h)))) =
    node_twice limit _ _ _ _ (λ d. made _ (a_compared _ os o (at_place t p b (λ p. IsOperand (infix_level comparison) (tree.InstanceOf e.tree typ p) (ts ++ t ∷ us)) (expressions.instance_of t g q k)) s
    (moved h (ap (λ ys. xs ++ ys) (sym (append_assoc ts (t ∷ us) to))))))

conditional : Acts (value (graded cell.conditional) ∷ word' word.Colon ∷ value (graded cell.full) ∷ word' word.Question ∷ start ∷ value (graded cell.binary) ∷ []) (the computes.Conditional) (value (graded cell.conditional) ∷ [])
unfolding perform_expression
conditional file ns vs l to limit (a_value x (is_graded b {ts = ws} g) (a_word colon q (a_value y (is_graded t {ts = us} k) (a_word question r (a_start p z (a_value u (is_graded c {ts = ts} m) h)))))) =
    node_twice limit _ _ _ _ (λ d. made _ (a_value _ (is_graded _ (at_place question p z (λ p. IsOperand conditional_level (tree.Conditional c.tree t.tree b.tree p) (ts ++ question ∷ us ++ colon ∷ ws)) (expressions.conditional question colon m r k q g)))
    (moved h (join3 ts (question ∷ us) (colon ∷ ws) to))))

assignment : Acts (value (graded cell.full) ∷ word' word.Assign ∷ start ∷ value (graded cell.primary) ∷ []) (the computes.Assignment) (value (graded cell.full) ∷ [])
unfolding perform_expression
assignment file ns vs l to limit (a_value x (is_graded b {ts = us} k) (a_word t q (a_start p z (a_value y (is_graded e {ts = ts} g) h)))) =
    node_twice limit _ _ _ _ (λ d. made _ (a_value _ (is_graded _ (at_place t p z (λ p. IsOperand assignment_level (tree.Assignment e.tree b.tree p) (ts ++ t ∷ us)) (expressions.assignment t g q k))) (moved h (sym (append_assoc ts (t ∷ us) to)))))

compound_assignment : Acts (value (graded cell.full) ∷ kept word.Compound ∷ value (graded cell.primary) ∷ []) (the computes.CompoundAssignment) (value (graded cell.full) ∷ [])
unfolding perform_expression
compound_assignment file ns vs l to limit (a_value x (is_graded b {ts = us} k) (a_kept t q (a_value y (is_graded e {ts = ts} g) h))) =
    node_twice limit _ _ _ _ (λ d. made _ (a_value _ (is_graded _ (expressions.compound_assignment t g q k)) (moved h (sym (append_assoc ts (t ∷ us) to)))))

leave_place : (g : Grade) → Acts (value (graded g) ∷ start ∷ []) (the computes.LeavePlace) (value (graded g) ∷ [])
unfolding perform_expression
leave_place k file ns vs l to limit (a_value x (is_graded e g) (a_start p b h)) = made _ (a_value _ (is_graded e g) h)

never_acts : (x : Action) (ds : List Cell) → Acts (never ∷ []) x ds
never_acts x ds file ns vs l to limit h = elim h [ ]

prefixes : (w : Word) → Acts (prefix_takes w) (the computes.Prefix) (prefix_leaves w)
prefixes word.Sign = prefix_sign
prefixes word.Not = prefix_not
prefixes _ = never_acts (the computes.Prefix) (value (graded cell.unary) ∷ [])

pub expression_acts : (x : ExpressionAction) (w : Word) → Acts (expression_takes x w) (action.Compute x) (expression_leaves x w)
expression_acts computes.NoExpressions w = no_expressions
expression_acts computes.AndExpression w = and_expression
expression_acts computes.SomeCall w = some_call
expression_acts computes.NoCall w = no_call
expression_acts computes.Head w = head
expression_acts computes.Selector w = selector
expression_acts computes.SuperMethodCall w = super_method_call
expression_acts computes.NamedCall w = named_call'
expression_acts computes.NameExpression w = name_expression'
expression_acts computes.Index w = index
expression_acts computes.NamedIndex w = named_index
expression_acts computes.NewObject w = new_object
expression_acts computes.NewArray w = new_array
expression_acts computes.NamedType w = named_type
expression_acts computes.IdentifiersType w = identifiers_type
expression_acts computes.ArrayType w = array_type'
expression_acts computes.ArrayOf w = array_of
expression_acts computes.Prefix w = prefixes w
expression_acts computes.PrefixIncrement w = prefix_increment
expression_acts computes.Cast w = cast
expression_acts computes.Parentheses w = parentheses
expression_acts computes.NamesInside w = names_inside
expression_acts computes.ArrayInside w = array_inside
expression_acts computes.ExpressionInside w = expression_inside'
expression_acts computes.CastType w = cast_type
expression_acts computes.ParenthesizedExpression w = parenthesized_expression
expression_acts computes.BeginOperations w = begin_operations
expression_acts computes.EndOperations w = end_operations
expression_acts computes.InstanceOf w = instance_of
expression_acts computes.Conditional w = conditional
expression_acts computes.Assignment w = assignment
expression_acts computes.CompoundAssignment w = compound_assignment
expression_acts computes.LeavePlace w = leave_place cell.primary

pub other_expression_acts : (x : ExpressionAction) → Acts (other_expression_takes x) (action.Compute x) (other_expression_leaves x)
other_expression_acts computes.Cast = primitive_cast
other_expression_acts computes.LeavePlace = leave_place cell.full
other_expression_acts x = never_acts (the x) (other_expression_leaves x)
