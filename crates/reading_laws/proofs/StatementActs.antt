-- The actions of statements.
use Rattle.std.specs.Prelude.{[], ◌∷◌, ◌++◌, None, Some}
use Rattle.std.proofs.Common.{refl, ◌∙◌, ap}
use Rattle.java_syntax.specs.declared.words.Word.{Word}
use Rattle.java_syntax.specs.declared.words.Word.TheVariants as word
use Rattle.java_syntax.specs.declared.actions.Action.{Action}
use Rattle.java_syntax.specs.declared.actions.Action.TheVariants as action
use Rattle.java_syntax.specs.declared.actions.StatementAction.{StatementAction}
use Rattle.java_syntax.specs.declared.actions.StatementAction.TheVariants as states
use Rattle.java_syntax.specs.StatementTrees as tree
use Rattle.java_statement_actions.specs.StatementActions.{perform_statement}
use Rattle.reading_laws.specs.Names as names
use Rattle.reading_laws.specs.Names.{Is, BeginAt}
use Rattle.reading_laws.specs.Expressions as expressions
use Rattle.reading_laws.specs.Statements as statements
use Rattle.reading_laws.specs.Statements.{IsStatement}
use Rattle.reading_laws.proofs.Cells as cell
use Rattle.reading_laws.proofs.Cells.{Cell, word', start, value, try_head, plain, none, next, some, any, Holds, a_word, a_start, a_value, a_try, by_plain, is_none, is_first, is_next, is_some, is_empty, is_any, graded, is_graded, statement', no_else, a_statement, a_no_else}
use Rattle.reading_laws.proofs.Outcomes.{made, node_twice, deeper_thrice}
use Rattle.reading_laws.proofs.Moves.{moved, Acts, at_place, join2, join3, join4, join_next}
use Rattle.reading_laws.proofs.Begins.{begin_same, expression_first, local_first}
use Rattle.reading_laws.proofs.Tables.{a, statement_takes, statement_leaves, more_name_takes, more_name_leaves}

abbrev pub the : StatementAction → Action
the x = action.State x

first_variable : Acts (a cell.identifier ∷ []) (the states.FirstVariable) (a cell.identifier ∷ value (none cell.variables) ∷ [])
unfolding perform_statement
first_variable file ns vs l to limit (a_value x (by_plain (cell.is_identifier t q)) h) = made _ (a_value {l = None} _ (by_plain (cell.is_identifier t q)) (a_value _ (is_none (cell.variables_empty 0)) h))

variable : Acts (value (graded cell.full) ∷ word' word.Assign ∷ a cell.identifier ∷ value (next cell.variables word.Comma) ∷ []) (the states.Variable) (value (some cell.variables word.Comma) ∷ [])
unfolding perform_statement
variable file ns vs l to limit (a_value x (is_graded e g) (a_word s q (a_value y (by_plain (cell.is_identifier n r)) (a_value z (is_first (cell.variables_empty d)) h)))) =
    made _ (a_value _ (is_some (cell.variables_listed _ (names.single _ (statements.with_initializer n s r q g)))) h)
variable file ns vs l to limit (a_value x (is_graded e {ts = us} g) (a_word s q (a_value y (by_plain (cell.is_identifier n r)) (a_value z (is_next c (cell.variables_listed all {ts = ts} k) m) h)))) =
    made _ (a_value _ (is_some (cell.variables_listed _ (names.another c _ k m (statements.with_initializer n s r q g)))) (moved h (join_next ts c (n ∷ s ∷ us) to)))

plain_variable : Acts (a cell.identifier ∷ value (next cell.variables word.Comma) ∷ []) (the states.PlainVariable) (value (some cell.variables word.Comma) ∷ [])
unfolding perform_statement
plain_variable file ns vs l to limit (a_value y (by_plain (cell.is_identifier n r)) (a_value z (is_first (cell.variables_empty d)) h)) =
    made _ (a_value _ (is_some (cell.variables_listed _ (names.single _ (statements.without_initializer n r)))) h)
plain_variable file ns vs l to limit (a_value y (by_plain (cell.is_identifier n r)) (a_value z (is_next c (cell.variables_listed all {ts = ts} k) m) h)) =
    made _ (a_value _ (is_some (cell.variables_listed _ (names.another c _ k m (statements.without_initializer n r)))) (moved h (join_next ts c (n ∷ []) to)))

plain_local : Acts (value (some cell.variables word.Comma) ∷ a cell.typ ∷ []) (the states.PlainLocal) (a cell.local ∷ [])
unfolding perform_statement
plain_local file ns vs l to limit (a_value x (is_some (cell.variables_listed all {ts = us} k)) (a_value y (by_plain (cell.is_type t {ts = ts} g)) h)) =
    made _ (a_value _ (by_plain (cell.is_local _ (statements.local names.nothing g k))) (moved h (join2 ts us to)))

modified_local : Acts (value (some cell.variables word.Comma) ∷ a cell.typ ∷ a cell.modifiers ∷ []) (the states.ModifiedLocal) (a cell.local ∷ [])
unfolding perform_statement
modified_local file ns vs l to limit (a_value x (is_some (cell.variables_listed all {ts = ws} k)) (a_value y (by_plain (cell.is_type t {ts = us} g)) (a_value z (by_plain (cell.are_modifiers m {ts = ts} f)) h))) =
    made _ (a_value _ (by_plain (cell.is_local _ (statements.local f g k))) (moved h (join3 ts us ws to)))

local_statement : Acts (a cell.local ∷ start ∷ []) (the states.LocalStatement) (a cell.open_statement ∷ [])
unfolding perform_statement
local_statement file ns vs l to limit (a_value x (by_plain (cell.is_local d {ts = ts} g)) (a_start p b h)) =
    node_twice limit _ _ _ _ (λ k. made _ (a_value _ {ts = ts} (by_plain (cell.is_open_statement _ (λ t q. statements.local_declaration p t g q (begin_same p ts to (t ∷ []) (local_first d.tree ts g) b)) refl)) h))

expression_statement : Acts (value (graded cell.full) ∷ start ∷ []) (the states.ExpressionStatement) (a cell.open_statement ∷ [])
unfolding perform_statement
expression_statement file ns vs l to limit (a_value x (is_graded e {ts = ts} g) (a_start p b h)) =
    node_twice limit _ _ _ _ (λ k. made _ (a_value _ {ts = ts} (by_plain (cell.is_open_statement _ (λ t q. statements.expression p t g q (begin_same p ts to (t ∷ []) (expression_first e.tree ts g) b)) refl)) h))

no_statements : Acts [] (the states.NoStatements) (a cell.statements ∷ [])
unfolding perform_statement
no_statements file ns vs l to limit h = made _ (a_value _ (by_plain (cell.are_statements _ statements.no_statement)) h)

and_statement : Acts (statement' ∷ a cell.statements ∷ []) (the states.AndStatement) (a cell.statements ∷ [])
unfolding perform_statement
and_statement file ns vs l to limit (a_statement s {ts = us} g g' (a_value y (by_plain (cell.are_statements all {ts = ts} k)) h)) =
    made _ (a_value _ (by_plain (cell.are_statements _ (statements.further_statement s.tree k g))) (moved h (join2 ts us to)))

block_statement : Acts (a cell.block ∷ []) (the states.BlockStatement) (statement' ∷ [])
unfolding perform_statement
block_statement file ns vs l to limit (a_value x (by_plain (cell.is_block b g)) h) = node_twice limit _ _ _ _ (λ d. made _ (a_statement _ (statements.block g) (λ _. refl) h))

if_then : Acts (no_else ∷ statement' ∷ word' word.CloseParen ∷ value (graded cell.full) ∷ word' word.OpenParen ∷ word' word.If ∷ start ∷ []) (the states.If) (statement' ∷ [])
unfolding perform_statement
if_then file ns vs l to limit (a_no_else n (a_statement s {ts = us} g g' (a_word c q (a_value y (is_graded e {ts = ts} k) (a_word o r (a_word t m (a_start p b h))))))) =
    node_twice limit _ _ _ _ (λ d. made _ (a_statement _ (at_place t p b (λ p. IsStatement (tree.If e.tree s.tree tree.no_else p) (t ∷ o ∷ ts ++ c ∷ us)) (statements.if_then t o c m r k q g)) (λ e. absurd (n e)) (moved h (join2 (t ∷ o ∷ ts) (c ∷ us) to))))

if_else : Acts (statement' ∷ word' word.Else ∷ statement' ∷ word' word.CloseParen ∷ value (graded cell.full) ∷ word' word.OpenParen ∷ word' word.If ∷ start ∷ []) (the states.IfElse) (statement' ∷ [])
unfolding perform_statement
if_else file ns vs l to limit (a_statement other {ts = ws} f f' (a_word w n (a_statement s {ts = us} g g' (a_word c q (a_value y (is_graded e {ts = ts} k) (a_word o r (a_word t m (a_start p b h)))))))) =
    node_twice limit _ _ _ _ (λ d. made _ (a_statement _ (at_place t p b (λ p. IsStatement (tree.If e.tree s.tree (tree.some_else other.tree) p) (t ∷ o ∷ ts ++ c ∷ us ++ w ∷ ws)) (statements.if_else t o c w m r k q g (g' (ap (λ x. Some x) n)) n f)) f'
    (moved h (join3 (t ∷ o ∷ ts) (c ∷ us) (w ∷ ws) to))))

while : Acts (statement' ∷ word' word.CloseParen ∷ value (graded cell.full) ∷ word' word.OpenParen ∷ word' word.While ∷ start ∷ []) (the states.While) (statement' ∷ [])
unfolding perform_statement
while file ns vs l to limit (a_statement s {ts = us} g g' (a_word c q (a_value y (is_graded e {ts = ts} k) (a_word o r (a_word t m (a_start p b h)))))) =
    node_twice limit _ _ _ _ (λ d. made _ (a_statement _ (at_place t p b (λ p. IsStatement (tree.While e.tree s.tree p) (t ∷ o ∷ ts ++ c ∷ us)) (statements.while t o c m r k q g)) g' (moved h (join2 (t ∷ o ∷ ts) (c ∷ us) to))))

do_while : Acts (word' word.Semicolon ∷ word' word.CloseParen ∷ value (graded cell.full) ∷ word' word.OpenParen ∷ word' word.While ∷ statement' ∷ word' word.Do ∷ start ∷ []) (the states.Do) (statement' ∷ [])
unfolding perform_statement
do_while file ns vs l to limit (a_word i n (a_word c q (a_value y (is_graded e {ts = us} k) (a_word o r (a_word w f (a_statement s {ts = ts} g g' (a_word t m (a_start p b h)))))))) =
    node_twice limit _ _ _ _ (λ d. made _ (a_statement _ (at_place t p b (λ p. IsStatement (tree.DoWhile s.tree e.tree p) (t ∷ ts ++ w ∷ o ∷ us ++ c ∷ i ∷ [])) (statements.do_while t w o c i m g f r k q n)) (λ _. refl)
    (moved h (join3 (t ∷ ts) (w ∷ o ∷ us) (c ∷ i ∷ []) to))))

for : Acts (statement' ∷ word' word.CloseParen ∷ value (any cell.expressions word.Comma) ∷ word' word.Semicolon ∷ a cell.optional_expression ∷ word' word.Semicolon ∷ a cell.for_start ∷ word' word.OpenParen ∷ word' word.For ∷ start ∷ []) (the states.For) (statement' ∷ [])
unfolding perform_statement
for file ns vs l to limit (a_statement s {ts = xs} g g' (a_word c q (a_value y (is_empty (cell.expressions_empty depth)) (a_word i n (a_value z (by_plain (cell.is_optional_expression e {ts = us} k)) (a_word j u (a_value w (by_plain (cell.is_for_start f {ts = ts} v)) (a_word o r (a_word t m (a_start p b h)))))))))) =
    node_twice limit _ _ _ _ (λ d. made _ (a_statement _ (at_place t p b (λ p. IsStatement (tree.For f.tree e.tree [] s.tree p) (t ∷ o ∷ ts ++ j ∷ us ++ i ∷ [] ++ c ∷ xs)) (statements.for t o j i c m r v u k n statements.no_expressions q g)) g'
    (moved h (join4 (t ∷ o ∷ ts) (j ∷ us) (i ∷ []) (c ∷ xs) to))))
for file ns vs l to limit (a_statement s {ts = xs} g g' (a_word c q (a_value y (is_any (cell.expressions_listed all {ts = ws} a')) (a_word i n (a_value z (by_plain (cell.is_optional_expression e {ts = us} k)) (a_word j u (a_value w (by_plain (cell.is_for_start f {ts = ts} v)) (a_word o r (a_word t m (a_start p b h)))))))))) =
    node_twice limit _ _ _ _ (λ d. made _ (a_statement _ (at_place t p b (λ p. IsStatement (tree.For f.tree e.tree all.tree s.tree p) (t ∷ o ∷ ts ++ j ∷ us ++ i ∷ ws ++ c ∷ xs)) (statements.for t o j i c m r v u k n (statements.some_expressions a') q g)) g'
    (moved h (join4 (t ∷ o ∷ ts) (j ∷ us) (i ∷ ws) (c ∷ xs) to))))

for_local : Acts (a cell.local ∷ start ∷ []) (the states.ForLocal) (a cell.for_start ∷ [])
unfolding perform_statement
for_local file ns vs l to limit (a_value x (by_plain (cell.is_local d g)) (a_start p b h)) = made _ (a_value _ (by_plain (cell.is_for_start _ (statements.declaration g))) h)

for_expressions : Acts (value (any cell.expressions word.Comma) ∷ []) (the states.ForExpressions) (a cell.for_start ∷ [])
unfolding perform_statement
for_expressions file ns vs l to limit (a_value x (is_empty (cell.expressions_empty d)) h) = made _ (a_value _ (by_plain (cell.is_for_start _ (statements.expressions statements.no_expressions))) h)
for_expressions file ns vs l to limit (a_value x (is_any (cell.expressions_listed all k)) h) = made _ (a_value _ (by_plain (cell.is_for_start _ (statements.expressions (statements.some_expressions k)))) h)

first_expression : Acts (value (graded cell.full) ∷ start ∷ []) (the states.FirstExpression) (value (some cell.expressions word.Comma) ∷ [])
unfolding perform_statement
first_expression file ns vs l to limit (a_value x (is_graded e g) (a_start p b h)) = made _ (a_value _ (is_some (cell.expressions_listed _ (expressions.first_expression e.tree g))) h)

some_expression : Acts (value (graded cell.full) ∷ []) (the states.SomeExpression) (a cell.optional_expression ∷ [])
unfolding perform_statement
some_expression file ns vs l to limit (a_value x (is_graded e g) h) = made _ (a_value _ (by_plain (cell.is_optional_expression _ (statements.present g))) h)

no_expression : Acts [] (the states.NoExpression) (a cell.optional_expression ∷ [])
unfolding perform_statement
no_expression file ns vs l to limit h = made _ (a_value _ (by_plain (cell.is_optional_expression _ statements.absent)) h)

no_resources : Acts [] (the states.NoResources) (value (none cell.resources) ∷ [])
unfolding perform_statement
no_resources file ns vs l to limit h = made _ (a_value _ (is_none (cell.resources_empty 0)) h)

resource : Acts (value (graded cell.full) ∷ word' word.Assign ∷ a cell.identifier ∷ a cell.name ∷ a cell.modifiers ∷ value (next cell.resources word.Semicolon) ∷ []) (the states.Resource) (value (some cell.resources word.Semicolon) ∷ [])
unfolding perform_statement
resource file ns vs l to limit (a_value x (is_graded e {ts = ws} g) (a_word s q (a_value y (by_plain (cell.is_identifier n r)) (a_value z (by_plain (cell.is_name c {ts = us} k)) (a_value w (by_plain (cell.are_modifiers m {ts = ts} f)) (a_value v (is_first (cell.resources_empty d)) h)))))) =
    made _ (a_value _ (is_some (cell.resources_listed _ (names.single _ (statements.resource n s f k r q g)))) (moved h (join3 ts us (n ∷ s ∷ ws) to)))
resource file ns vs l to limit (a_value x (is_graded e {ts = ws} g) (a_word s q (a_value y (by_plain (cell.is_identifier n r)) (a_value z (by_plain (cell.is_name c {ts = us} k)) (a_value w (by_plain (cell.are_modifiers m {ts = ts} f)) (a_value v (is_next t (cell.resources_listed all {ts = xs} i) j) h)))))) =
    made _ (a_value _ (is_some (cell.resources_listed _ (names.another t _ i j (statements.resource n s f k r q g))))
    (moved h (ap (λ ys. xs ++ t ∷ [] ++ ys) (join3 ts us (n ∷ s ∷ ws) to) ∙ join_next xs t (ts ++ us ++ n ∷ s ∷ ws) to)))

no_catches : Acts [] (the states.NoCatches) (a cell.catches ∷ [])
unfolding perform_statement
no_catches file ns vs l to limit h = made _ (a_value _ (by_plain (cell.are_catches _ statements.no_catch)) h)

catch : Acts (a cell.block ∷ word' word.CloseParen ∷ a cell.identifier ∷ value (some cell.names word.Bar) ∷ a cell.modifiers ∷ word' word.OpenParen ∷ word' word.Catch ∷ a cell.catches ∷ []) (the states.Catch) (a cell.catches ∷ [])
unfolding perform_statement
catch file ns vs l to limit (a_value x (by_plain (cell.is_block b {ts = xs} g)) (a_word c q (a_value y (by_plain (cell.is_identifier n r)) (a_value z (is_some (cell.names_listed all {ts = ws} k)) (a_value w (by_plain (cell.are_modifiers m {ts = us} f)) (a_word o s (a_word t i (a_value v (by_plain (cell.are_catches cs {ts = ts} j)) h)))))))) =
    deeper_thrice limit _ _ _ _ (λ d. made _ (a_value _ (by_plain (cell.are_catches _ (statements.further_catch t o n c j i s f k r q g))) (moved h (join4 ts (t ∷ o ∷ us) ws (n ∷ c ∷ xs) to))))

try : Acts (a cell.catches ∷ a cell.block ∷ try_head ∷ []) (the states.Try) (statement' ∷ [])
unfolding perform_statement
try file ns vs l to limit (a_value x (by_plain (cell.are_catches cs {ts = ws} j)) (a_value y (by_plain (cell.is_block b {ts = us} g)) (a_try r t p {ts = ts} e q k h))) =
    deeper_thrice limit _ _ _ _ (λ d. node_twice limit _ _ _ _ (λ f. made _ (a_statement _ (at_place t p e (λ p. IsStatement (tree.Try r.tree b.tree (tree.catches cs.tree) tree.no_finally p) (t ∷ ts ++ us ++ ws ++ [])) (statements.try t q k g j statements.no_finally)) (λ _. refl)
    (moved h (join4 (t ∷ ts) us ws [] to)))))

try_finally : Acts (a cell.block ∷ word' word.Finally ∷ a cell.catches ∷ a cell.block ∷ try_head ∷ []) (the states.TryFinally) (statement' ∷ [])
unfolding perform_statement
try_finally file ns vs l to limit (a_value z (by_plain (cell.is_block last {ts = xs} i)) (a_word w m (a_value x (by_plain (cell.are_catches cs {ts = ws} j)) (a_value y (by_plain (cell.is_block b {ts = us} g)) (a_try r t p {ts = ts} e q k h))))) =
    deeper_thrice limit _ _ _ _ (λ d. deeper_thrice limit _ _ _ _ (λ d. node_twice limit _ _ _ _ (λ f. made _ (a_statement _
    (at_place t p e (λ p. IsStatement (tree.Try r.tree b.tree (tree.catches cs.tree) (tree.some_finally last.tree) p) (t ∷ ts ++ us ++ ws ++ w ∷ xs)) (statements.try t q k g j (statements.some_finally w m i))) (λ _. refl)
    (moved h (join4 (t ∷ ts) us ws (w ∷ xs) to))))))

return : Acts (word' word.Semicolon ∷ a cell.optional_expression ∷ word' word.Return ∷ start ∷ []) (the states.Return) (statement' ∷ [])
unfolding perform_statement
return file ns vs l to limit (a_word i n (a_value x (by_plain (cell.is_optional_expression e {ts = ts} k)) (a_word t m (a_start p b h)))) =
    node_twice limit _ _ _ _ (λ d. made _ (a_statement _ (at_place t p b (λ p. IsStatement (tree.Return e.tree p) (t ∷ ts ++ i ∷ [])) (statements.return t i m k n)) (λ _. refl) (moved h (join2 (t ∷ ts) (i ∷ []) to))))

throw : Acts (word' word.Semicolon ∷ value (graded cell.full) ∷ word' word.Throw ∷ start ∷ []) (the states.Throw) (statement' ∷ [])
unfolding perform_statement
throw file ns vs l to limit (a_word i n (a_value x (is_graded e {ts = ts} k) (a_word t m (a_start p b h)))) =
    node_twice limit _ _ _ _ (λ d. made _ (a_statement _ (at_place t p b (λ p. IsStatement (tree.Throw e.tree p) (t ∷ ts ++ i ∷ [])) (statements.throw t i m k n)) (λ _. refl) (moved h (join2 (t ∷ ts) (i ∷ []) to))))

no_names : Acts [] (the states.NoNames) (value (none cell.names) ∷ [])
unfolding perform_statement
no_names file ns vs l to limit h = made _ (a_value _ (is_none cell.names_empty) h)

first_name : Acts (a cell.name ∷ value (none cell.names) ∷ []) (the states.AndName) (a cell.one_name ∷ [])
unfolding perform_statement
first_name file ns vs l to limit (a_value x (by_plain (cell.is_name n g)) (a_value y (is_none cell.names_empty) h)) = made _ (a_value _ (by_plain (cell.is_one_name n g)) h)

further_name : (w : Word) → Acts (a cell.name ∷ value (next cell.names w) ∷ []) (the states.AndName) (value (some cell.names w) ∷ [])
unfolding perform_statement
further_name w file ns vs l to limit (a_value x (by_plain (cell.is_name n g)) (a_value y (is_first cell.names_empty) h)) = made _ (a_value _ (is_some (cell.names_listed _ (names.single n g))) h)
further_name w file ns vs l to limit (a_value x (by_plain (cell.is_name n {ts = us} g)) (a_value y (is_next t (cell.names_listed all {ts = ts} k) s) h)) =
    made _ (a_value _ (is_some (cell.names_listed _ (names.another t n k s g))) (moved h (join_next ts t us to)))

name_acts : (w : Word) → Acts (more_name_takes w) (the states.AndName) (more_name_leaves w)
name_acts word.Comma = further_name word.Comma
name_acts word.Bar = further_name word.Bar
name_acts _ = first_name

pub statement_acts : (x : StatementAction) (w : Word) → Acts (statement_takes x w) (action.State x) (statement_leaves x w)
statement_acts states.FirstVariable w = first_variable
statement_acts states.Variable w = variable
statement_acts states.PlainVariable w = plain_variable
statement_acts states.PlainLocal w = plain_local
statement_acts states.ModifiedLocal w = modified_local
statement_acts states.LocalStatement w = local_statement
statement_acts states.ExpressionStatement w = expression_statement
statement_acts states.NoStatements w = no_statements
statement_acts states.AndStatement w = and_statement
statement_acts states.BlockStatement w = block_statement
statement_acts states.If w = if_then
statement_acts states.IfElse w = if_else
statement_acts states.While w = while
statement_acts states.Do w = do_while
statement_acts states.For w = for
statement_acts states.ForLocal w = for_local
statement_acts states.ForExpressions w = for_expressions
statement_acts states.FirstExpression w = first_expression
statement_acts states.SomeExpression w = some_expression
statement_acts states.NoExpression w = no_expression
statement_acts states.NoResources w = no_resources
statement_acts states.Resource w = resource
statement_acts states.NoCatches w = no_catches
statement_acts states.Catch w = catch
statement_acts states.Try w = try
statement_acts states.TryFinally w = try_finally
statement_acts states.Return w = return
statement_acts states.Throw w = throw
statement_acts states.NoNames w = no_names
statement_acts states.AndName w = name_acts w
