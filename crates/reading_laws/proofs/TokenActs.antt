-- The actions at a token.
use Rattle.std.specs.Prelude.{◌≤◌, ℕ, ◌≡◌, true, List, [], ◌∷◌, ◌++◌, Option, Some, None}
use Rattle.std.proofs.Common.{arith, refl, sym, ◌∙◌, ap, append_assoc}
use Rattle.java_syntax.specs.declared.words.Word.{Word}
use Rattle.java_syntax.specs.declared.words.Word.TheVariants as word
use Rattle.java_syntax.specs.declared.actions.Action.{Action}
use Rattle.java_syntax.specs.declared.actions.Action.TheVariants as action
use Rattle.java_syntax.specs.declared.actions.TokenAction.{TokenAction}
use Rattle.java_syntax.specs.declared.actions.TokenAction.TheVariants as tokens
use Rattle.java_syntax.specs.Derives.{Lexeme}
use Rattle.java_syntax.specs.StatementTrees as tree
use Rattle.java_syntax.specs.StatementTrees.{StmtTree, BlockTree}
use Rattle.java_values.specs.Values.{ValueTree, APlace, AExpression, AOperations}
use Rattle.java_nodes.specs.Operators.{infix_operator}
use Rattle.java_nodes.specs.Parts.{level_of, comparison, closed, ClosedTree}
use Rattle.java_expression_actions.specs.TokenActions.{perform_token}
use Rattle.reading_laws.specs.Names as names
use Rattle.reading_laws.specs.Names.{Is, BeginAt}
use Rattle.reading_laws.specs.Expressions as expressions
use Rattle.reading_laws.specs.Expressions.{is_infix, is_loose, unary_level, infix_level}
use Rattle.reading_laws.specs.Statements as statements
use Rattle.reading_laws.specs.Declarations as declarations
use Rattle.reading_laws.proofs.Cells as cell
use Rattle.reading_laws.proofs.Cells.{File, pending, compared, a_pending, a_compared, Cell, word', start, kept, value, never, plain, Holds, a_word, a_start, a_kept, a_value, by_plain, graded, is_graded, statement', a_statement}
use Rattle.reading_laws.proofs.Outcomes.{made, then_twice, node_twice}
use Rattle.reading_laws.proofs.Moves.{moved, Acts, at_place, join3}
use Rattle.reading_laws.proofs.Tables.{a, token_takes, token_leaves, operator_takes}
use Rattle.reading_laws.proofs.ExpressionLaws.{IsClosed, is_closed, are_closed, suits_above, suits_any}
use Rattle.reading_laws.proofs.Suffixes.{reached, behind_cells, loose_behind}

place : (w : Word) → Acts (word' w ∷ []) (action.Token tokens.Place) (word' w ∷ start ∷ [])
unfolding perform_token
place w file ns vs l to limit (a_word t q h) = made _ (a_word {l = None} t q (a_start t.pos refl h))

keep : (w : Word) → Acts (word' w ∷ []) (action.Token tokens.Keep) (kept w ∷ [])
unfolding perform_token
keep w file ns vs l to limit (a_word t q h) = made _ (a_kept t q h)

name : Acts (word' word.Ident ∷ []) (action.Token tokens.Name) (a cell.identifier ∷ [])
unfolding perform_token
name file ns vs l to limit (a_word t q h) = made _ (a_value _ (by_plain (cell.is_identifier t q)) h)

receiver_name : Acts (word' word.This ∷ []) (action.Token tokens.Name) (a cell.receiver ∷ [])
unfolding perform_token
receiver_name file ns vs l to limit (a_word t q h) = made _ (a_value _ (by_plain (cell.is_receiver t q)) h)

extend_name : Acts (word' word.Ident ∷ word' word.Dot ∷ a cell.name ∷ []) (action.Token tokens.ExtendName) (a cell.name ∷ [])
unfolding perform_token
extend_name file ns vs l to limit (a_word t q (a_word dot d (a_value v (by_plain (cell.is_name n {ts = ts} g)) h))) =
    made _ (a_value _ (by_plain (cell.is_name _ (names.qualified n dot t g d q))) (moved h (sym (append_assoc ts (dot ∷ t ∷ []) to))))

first_identifier : Acts (word' word.Ident ∷ []) (action.Token tokens.FirstIdentifier) (a cell.identifiers ∷ [])
unfolding perform_token
first_identifier file ns vs l to limit (a_word t q h) = made _ (a_value _ (by_plain (cell.is_identifiers _ (cell.first_identifier t q))) h)

next_identifier : Acts (word' word.Ident ∷ word' word.Dot ∷ a cell.identifiers ∷ []) (action.Token tokens.NextIdentifier) (a cell.identifiers ∷ [])
unfolding perform_token
next_identifier file ns vs l to limit (a_word t q (a_word dot d (a_value v (by_plain (cell.is_identifiers all {ts = ts} g)) h))) =
    made _ (a_value _ (by_plain (cell.is_identifiers _ (cell.next_identifier all dot t g d q))) (moved h (sym (append_assoc ts (dot ∷ t ∷ []) to))))

primitive_type : Acts (word' word.Primitive ∷ []) (action.Token tokens.PrimitiveType) (a cell.primitive ∷ [])
unfolding perform_token
primitive_type file ns vs l to limit (a_word t q h) = made _ (a_value _ (by_plain (cell.is_primitive _ (names.primitive t q))) h)

literal : Acts (word' word.Literal ∷ []) (action.Token tokens.Literal) (value (graded cell.access) ∷ [])
unfolding perform_token
literal file ns vs l to limit (a_word t q h) = node_twice limit _ _ _ _ (λ d. made _ (a_value _ (is_graded _ (expressions.literal t q)) h))

this : Acts (word' word.This ∷ []) (action.Token tokens.This) (value (graded cell.access) ∷ [])
unfolding perform_token
this file ns vs l to limit (a_word t q h) = node_twice limit _ _ _ _ (λ d. made _ (a_value _ (is_graded _ (expressions.this t q)) h))

increment : Acts (word' word.Step ∷ value (graded cell.postfix) ∷ []) (action.Token tokens.Increment) (value (graded cell.postfix) ∷ [])
unfolding perform_token
increment file ns vs l to limit (a_word t q (a_value v (is_graded e {ts = ts} g) h)) =
    node_twice limit _ _ _ _ (λ d. made _ (a_value _ (is_graded _ (expressions.postfix_step t g q)) (moved h (sym (append_assoc ts (t ∷ []) to)))))

-- operators with the tokens behind them
close : (ts us vs ws to : List Lexeme) → ts ++ us ≡ vs ++ ws → ts ++ (us ++ to) ≡ vs ++ (ws ++ to)
close ts us vs ws to e = sym (append_assoc ts us to) ∙ ap (λ xs. xs ++ to) e ∙ append_assoc vs ws to

-- what the operator leaves
left_of : (file : File) (ns : List Cell) (rest : List ValueTree) (to ts us : List Lexeme) (t : Lexeme) (l : Option Lexeme) → is_infix t.word ≡ true → Holds file ns rest l (ts ++ (us ++ t ∷ to)) → (c : ClosedTree) → IsClosed (level_of (infix_operator t.text)) c (ts ++ us)
    → Holds file (a cell.operations ∷ ns) (AOperations (record { left = c.operand; operator = infix_operator t.text; pos = t.pos } ∷ c.waiting) ∷ rest) (Some t) to
left_of file ns rest to ts us t l i h c (is_closed xs ys p r b s) = a_value _ (by_plain (cell.are_operations _ (cell.further_operation c.operand t p r i b))) (moved h (close ts us xs ys (t ∷ to) s ∙ join3 xs ys (t ∷ []) to))

loose_suits : (n m : ℕ) → n ≤ infix_level comparison → comparison ≤ m → n ≤ infix_level m
loose_suits n m h k = omega (arith, h, k)

tight_operator : (w : Word) → is_infix w ≡ true → Acts (word' w ∷ value (graded cell.unary) ∷ a cell.operations ∷ []) (action.Token tokens.Operator) (a cell.operations ∷ [])
unfolding perform_token
tight_operator w i file ns vs l to limit (a_word t q (a_value v (is_graded e {ts = us} g) (a_value {vs = rest} {l = m} u (by_plain (cell.are_operations os {ts = ts} o)) h))) =
    then_twice (closed limit (level_of (infix_operator t.text)) e os) _ _ (are_closed limit (level_of (infix_operator t.text)) os o e unary_level g (suits_any os) (omega arith)) (λ c k. made _ (left_of file ns rest to ts us t m (ap is_infix q ∙ i) h c k))

-- an operator of a loose class
loose_operator : (w : Word) → is_infix w ≡ true → is_loose w ≡ true → Acts (word' w ∷ pending ∷ []) (action.Token tokens.Operator) (a cell.operations ∷ [])
unfolding perform_token
loose_operator w i d file ns vs l to limit (a_word t q (a_pending {vs = rest} {l = m} e os n {ts = ts} {us = us} o g s r h)) =
    then_twice (closed limit (level_of (infix_operator t.text)) e os) _ _ (are_closed limit (level_of (infix_operator t.text)) os o e n g s (loose_suits n (level_of (infix_operator t.text)) r (loose_at h (ap is_loose q ∙ d)))) (λ c k. made _ (left_of file ns rest to ts us t m (ap is_infix q ∙ i) h c k))
  where
    loose_at : Holds file ns rest m (ts ++ (us ++ t ∷ to)) → is_loose t.word ≡ true → comparison ≤ level_of (infix_operator t.text)
    loose_at h k = loose_behind file t to (reached us (reached ts (behind_cells h))) k

instance_operator : Acts (word' word.Instanceof ∷ pending ∷ []) (action.Token tokens.InstanceOperator) (word' word.Instanceof ∷ start ∷ compared ∷ [])
unfolding perform_token
instance_operator file ns vs l to limit (a_word t q (a_pending {vs = rest} {l = m} e os n {ts = ts} {us = us} o g s r h)) =
    then_twice (closed limit comparison e os) _ _ (are_closed limit comparison os o e n g s r) (λ c k. made _ (go c k))
  where
    go : (c : ClosedTree) → IsClosed comparison c (ts ++ us) → Holds file (word' word.Instanceof ∷ start ∷ compared ∷ ns) (APlace t.pos ∷ AExpression c.operand ∷ AOperations c.waiting ∷ rest) (Some t) to
    go c (is_closed xs ys p k b s) = a_word {l = None} t q (a_start {l = None} t.pos refl (a_compared c.operand c.waiting p k (suits_above comparison c.waiting b) (moved h (close ts us xs ys (t ∷ to) s))))

empty_statement : Acts (word' word.Semicolon ∷ []) (action.Token tokens.EmptyStatement) (statement' ∷ [])
unfolding perform_token
empty_statement file ns vs l to limit (a_word t q h) = node_twice limit _ _ _ _ (λ d. made _ (a_statement _ (statements.empty t q) (λ _. refl) h))

break' : Acts (word' word.Break ∷ []) (action.Token tokens.Break) (a cell.open_statement ∷ [])
unfolding perform_token
break' file ns vs l to limit (a_word t q h) = node_twice limit _ _ _ _ (λ d. made _ (a_value _ {ts = t ∷ []} (by_plain (cell.is_open_statement _ (λ s r. statements.break t s q r) refl)) h))

continue' : Acts (word' word.Continue ∷ []) (action.Token tokens.Continue) (a cell.open_statement ∷ [])
unfolding perform_token
continue' file ns vs l to limit (a_word t q h) = node_twice limit _ _ _ _ (λ d. made _ (a_value _ {ts = t ∷ []} (by_plain (cell.is_open_statement _ (λ s r. statements.continue t s q r) refl)) h))

block : Acts (word' word.CloseBrace ∷ a cell.statements ∷ word' word.OpenBrace ∷ start ∷ []) (action.Token tokens.Block) (a cell.block ∷ [])
unfolding perform_token
block file ns vs l to limit (a_word c q (a_value v (by_plain (cell.are_statements all {ts = ts} g)) (a_word o r (a_start p b h)))) =
    made _ (a_value _ (by_plain (cell.is_block _ (at_place o p b (λ p. statements.IsBlock (tree.Braces (tree.statements all.tree) p c.pos) (o ∷ ts ++ c ∷ [])) (statements.braces o c r g q))))
    (moved h (ap (λ xs. o ∷ xs) (sym (append_assoc ts (c ∷ []) to)))))

constructor_body : Acts (word' word.CloseBrace ∷ a cell.statements ∷ a cell.super_call ∷ word' word.OpenBrace ∷ start ∷ []) (action.Token tokens.ConstructorBody) (a cell.constructor_body ∷ [])
unfolding perform_token
constructor_body file ns vs l to limit (a_word c q (a_value v (by_plain (cell.are_statements all {ts = us} g)) (a_value u (by_plain (cell.is_super_call s {ts = ts} k)) (a_word o r (a_start p b h))))) =
    made _ (a_value _ (by_plain (cell.is_constructor_body _ (at_place o p b (λ p. declarations.IsConstructorBody (Some (record { super_call = s; block = tree.Braces (tree.statements all.tree) p c.pos })) (o ∷ ts ++ us ++ c ∷ [])) (declarations.constructor_body o c r k g q))))
    (moved h (join3 (o ∷ ts) us (c ∷ []) to)))

no_operator : (x : Action) (ds : List Cell) → Acts (never ∷ []) x ds
no_operator x ds file ns vs l to limit h = elim h [ ]

operators : (w : Word) → Acts (operator_takes w) (action.Token tokens.Operator) (a cell.operations ∷ [])
operators word.Sign = tight_operator word.Sign refl
operators word.Star = tight_operator word.Star refl
operators word.Tight = tight_operator word.Tight refl
operators word.Loose = loose_operator word.Loose refl refl
operators word.Bar = loose_operator word.Bar refl refl
operators _ = no_operator (action.Token tokens.Operator) (a cell.operations ∷ [])

name_acts : (w : Word) → Acts (token_takes tokens.Name w) (action.Token tokens.Name) (token_leaves tokens.Name w)
name_acts word.Ident = name
name_acts word.This = receiver_name
name_acts _ = no_operator (action.Token tokens.Name) (a cell.identifier ∷ [])

pub token_acts : (x : TokenAction) (w : Word) → Acts (token_takes x w) (action.Token x) (token_leaves x w)
token_acts tokens.Place w = place w
token_acts tokens.Keep w = keep w
token_acts tokens.Name w = name_acts w
token_acts tokens.ExtendName w = extend_name
token_acts tokens.FirstIdentifier w = first_identifier
token_acts tokens.NextIdentifier w = next_identifier
token_acts tokens.PrimitiveType w = primitive_type
token_acts tokens.Literal w = literal
token_acts tokens.This w = this
token_acts tokens.Increment w = increment
token_acts tokens.Operator w = operators w
token_acts tokens.InstanceOperator w = instance_operator
token_acts tokens.EmptyStatement w = empty_statement
token_acts tokens.Break w = break'
token_acts tokens.Continue w = continue'
token_acts tokens.Block w = block
token_acts tokens.ConstructorBody w = constructor_body
