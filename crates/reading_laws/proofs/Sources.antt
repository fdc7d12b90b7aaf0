-- What each cell may be made of.
use Rattle.std.specs.Prelude.{◌≤◌, List, [], ◌∷◌, ◌++◌, None}
use Rattle.std.proofs.Common.{arith, sym, ◌∙◌, ap, append_assoc}
use Rattle.java_syntax.specs.declared.words.Word.{Word}
use Rattle.java_syntax.specs.declared.words.Word.TheVariants as word
use Rattle.reading_laws.specs.Names as names
use Rattle.java_nodes.specs.Parts.{comparison}
use Rattle.reading_laws.specs.Expressions as expressions
use Rattle.reading_laws.specs.Expressions.{looser, unary_level, infix_level}
use Rattle.reading_laws.specs.Annotations as annotations
use Rattle.reading_laws.specs.Statements as statements
use Rattle.reading_laws.specs.Declarations as declarations
use Rattle.reading_laws.proofs.Cells as cell
use Rattle.reading_laws.proofs.Cells.{Cell, word', start, kept, value, try_head, never, Part, plain, none, behind, next, some, any, clause, Plain, Listing, Holds, a_word, a_start, a_kept, a_value, a_try, by_plain, is_none, is_behind, is_first, is_next, is_some, is_empty, is_any, is_clause, pending, compared, graded, Grade, level, Suits, is_graded, a_pending, a_compared, statement', a_statement}
use Rattle.reading_laws.proofs.Moves.{move, Turns}
use Rattle.reading_laws.proofs.ExpressionLaws.{suits_any}
use Rattle.reading_laws.proofs.Tables.{a}

pub name_turns : (cs : List Cell) → Turns (a cell.identifier ∷ cs) (a cell.name ∷ cs)
name_turns cs file ns vs m to (a_value v (by_plain (cell.is_identifier t q)) h) = a_value v (by_plain (cell.is_name _ (names.simple t q))) h

pub type_turns : (cs : List Cell) → Turns (a cell.element ∷ cs) (a cell.typ ∷ cs)
type_turns cs file ns vs m to (a_value v (by_plain (cell.is_element t q)) h) = a_value v (by_plain (cell.is_type t (names.element q))) h

pub element_turns : (cs : List Cell) → Turns (a cell.primitive ∷ cs) (a cell.element ∷ cs)
element_turns cs file ns vs m to (a_value v (by_plain (cell.is_primitive t q)) h) = a_value v (by_plain (cell.is_element t (names.simple_type q))) h

pub array_turns : (cs : List Cell) → Turns (a cell.array_type ∷ cs) (a cell.typ ∷ cs)
array_turns cs file ns vs m to (a_value v (by_plain (cell.is_array_type t o c q r s)) h) = a_value v (by_plain (cell.is_type _ (names.array t o c q r s))) h

pub closed_type_turns : (cs : List Cell) → Turns (word' word.CloseParen ∷ a cell.array_type ∷ cs) (a cell.closed_type ∷ cs)
closed_type_turns cs file ns vs m to (a_word x y (a_value v (by_plain (cell.is_array_type t {ts = ts} o c q r s)) h)) = a_value v (by_plain (cell.is_closed_type _ x (names.array_type t o c q r s) y)) (move (sym (append_assoc (ts ++ o ∷ c ∷ []) (x ∷ []) to)) h)

pub closed_primitive_turns : (cs : List Cell) → Turns (word' word.CloseParen ∷ a cell.primitive ∷ cs) (a cell.closed_primitive ∷ cs)
closed_primitive_turns cs file ns vs m to (a_word x y (a_value v (by_plain (cell.is_primitive t {ts = ts} q)) h)) = a_value v (by_plain (cell.is_closed_primitive t x q y)) (move (sym (append_assoc ts (x ∷ []) to)) h)

-- what binds tighter binds as tight
pub graded_turns : (g h : Grade) → level h ≤ level g → (cs : List Cell) → Turns (value (graded h) ∷ cs) (value (graded g) ∷ cs)
graded_turns g h k cs file ns vs m to (a_value v (is_graded e q) r) = a_value v (is_graded e (looser k q)) r

pub pending_turns : (cs : List Cell) → Turns (value (graded cell.unary) ∷ a cell.operations ∷ cs) (pending ∷ cs)
pending_turns cs file ns vs m to (a_value v (is_graded e q) (a_value u (by_plain (cell.are_operations os k)) h)) = a_pending e os unary_level k q (suits_any os) (omega arith) h

pub compared_turns : (cs : List Cell) → Turns (compared ∷ cs) (pending ∷ cs)
compared_turns cs file ns vs m to (a_compared e os k q s h) = a_pending e os (infix_level comparison) k q s (omega arith) h

-- an empty list is written with no token
pub none_turns : (l : Listing) (cs : List Cell) → Turns (word' word.OpenParen ∷ value (none l) ∷ cs) (value (none l) ∷ word' word.OpenParen ∷ cs)
none_turns l cs file ns vs m to (a_word t q (a_value v (is_none e) h)) = a_value v (is_none e) (a_word t q h)

pub first_turns : (l : Listing) (w : Word) (cs : List Cell) → Turns (value (none l) ∷ cs) (value (next l w) ∷ cs)
first_turns l w cs file ns vs m to (a_value v (is_none e) h) = a_value v (is_first e) h

pub opened_turns : (l : Listing) (w : Word) (cs : List Cell) → Turns (word' word.OpenParen ∷ value (none l) ∷ cs) (value (next l w) ∷ word' word.OpenParen ∷ cs)
opened_turns l w cs file ns vs m to (a_word t q (a_value v (is_none e) h)) = a_value v (is_first e) (a_word t q h)

pub next_turns : (l : Listing) (w : Word) (cs : List Cell) → Turns (value (behind l w) ∷ cs) (value (next l w) ∷ cs)
next_turns l w cs file ns vs m to (a_value v (is_behind t e q) h) = a_value v (is_next t e q) h

pub behind_turns : (l : Listing) (w : Word) (cs : List Cell) → Turns (word' w ∷ value (some l w) ∷ cs) (value (behind l w) ∷ cs)
behind_turns l w cs file ns vs m to (a_word t q (a_value v (is_some {ts = ts} e) h)) = a_value v (is_behind t e q) (move (sym (append_assoc ts (t ∷ []) to)) h)

pub separated_turns : (l : Listing) (w : Word) (cs : List Cell) → Turns (word' w ∷ value (some l w) ∷ cs) (value (next l w) ∷ cs)
separated_turns l w cs file ns vs m to (a_word t q (a_value v (is_some {ts = ts} e) h)) = a_value v (is_next t e q) (move (sym (append_assoc ts (t ∷ []) to)) h)

pub one_name_turns : (w : Word) (cs : List Cell) → Turns (a cell.one_name ∷ cs) (value (some cell.names w) ∷ cs)
one_name_turns w cs file ns vs m to (a_value v (by_plain (cell.is_one_name n q)) h) = a_value v (is_some (cell.names_listed _ (names.single n q))) h

pub empty_turns : (l : Listing) (w : Word) (cs : List Cell) → Turns (value (none l) ∷ cs) (value (any l w) ∷ cs)
empty_turns l w cs file ns vs m to (a_value v (is_none e) h) = a_value v (is_empty e) h

pub any_turns : (l : Listing) (w : Word) (cs : List Cell) → Turns (value (some l w) ∷ cs) (value (any l w) ∷ cs)
any_turns l w cs file ns vs m to (a_value v (is_some e) h) = a_value v (is_any e) h

pub no_clause_turns : (w : Word) (cs : List Cell) → Turns (value (none cell.names) ∷ cs) (value (clause w) ∷ cs)
no_clause_turns w cs file ns vs m to (a_value v (is_none cell.names_empty) h) = a_value v (is_clause [] declarations.no_clause) h

pub clause_turns : (w : Word) (cs : List Cell) → Turns (value (some cell.names word.Comma) ∷ word' w ∷ cs) (value (clause w) ∷ cs)
clause_turns w cs file ns vs m to (a_value v (is_some (cell.names_listed all e)) (a_word t q h)) = a_value v (is_clause all (declarations.some_clause t q e)) h

pub members_turns : (cs : List Cell) → Turns (word' word.Semicolon ∷ a cell.members ∷ cs) (a cell.members ∷ cs)
members_turns cs file ns vs m to (a_word t q (a_value v (by_plain (cell.are_members all {ts = ts} e)) h)) = a_value v (by_plain (cell.are_members all (declarations.semicolon t e q))) (move (sym (append_assoc ts (t ∷ []) to)) h)

pub types_turns : (cs : List Cell) → Turns (word' word.Semicolon ∷ a cell.types ∷ cs) (a cell.types ∷ cs)
types_turns cs file ns vs m to (a_word t q (a_value v (by_plain (cell.are_types all {ts = ts} e)) h)) = a_value v (by_plain (cell.are_types all (declarations.semicolon t e q))) (move (sym (append_assoc ts (t ∷ []) to)) h)

pub imports_turns : (cs : List Cell) → Turns (word' word.Semicolon ∷ a cell.open_imports ∷ cs) (a cell.imports ∷ cs)
imports_turns cs file ns vs m to (a_word t q (a_value v (by_plain (cell.are_open_imports all {ts = ts} e)) h)) = a_value v (by_plain (cell.are_imports all (e t q))) (move (sym (append_assoc ts (t ∷ []) to)) h)

pub statement_turns : (cs : List Cell) → Turns (word' word.Semicolon ∷ a cell.open_statement ∷ cs) (statement' ∷ cs)
statement_turns cs file ns vs m to (a_word t q (a_value v (by_plain (cell.is_open_statement s {ts = ts} e k)) h)) = a_statement s (e t q) (λ _. k) (move (sym (append_assoc ts (t ∷ []) to)) h)

pub super_call_turns : (cs : List Cell) → Turns (word' word.Semicolon ∷ a cell.open_super_call ∷ cs) (a cell.super_call ∷ cs)
super_call_turns cs file ns vs m to (a_word t q (a_value v (by_plain (cell.is_open_super_call s {ts = ts} e)) h)) = a_value v (by_plain (cell.is_super_call s (e t q))) (move (sym (append_assoc ts (t ∷ []) to)) h)

pub package_turns : (cs : List Cell) → Turns (a cell.no_name ∷ cs) (a cell.package' ∷ cs)
package_turns cs file ns vs m to (a_value v (by_plain cell.is_no_name) h) = a_value v (by_plain (cell.is_package None declarations.no_package)) h

pub superclass_turns : (cs : List Cell) → Turns (a cell.no_name ∷ cs) (a cell.superclass ∷ cs)
superclass_turns cs file ns vs m to (a_value v (by_plain cell.is_no_name) h) = a_value v (by_plain (cell.is_superclass None declarations.no_superclass)) h

pub arguments_turns : (cs : List Cell) → Turns (word' word.CloseParen ∷ value (any cell.expressions word.Comma) ∷ word' word.OpenParen ∷ cs) (a cell.call_arguments ∷ cs)
arguments_turns cs file ns vs m to (a_word c q (a_value v (is_empty (cell.expressions_empty d)) (a_word o p h))) = a_value v (by_plain (cell.is_call_arguments _ (expressions.no_arguments o c p q))) h
arguments_turns cs file ns vs m to (a_word c q (a_value v (is_any (cell.expressions_listed all {ts = ts} e)) (a_word o p h))) =
    a_value v (by_plain (cell.is_call_arguments all (expressions.some_arguments o c p e q))) (move (ap (λ ts. o ∷ ts) (sym (append_assoc ts (c ∷ []) to))) h)

pub parameters_turns : (cs : List Cell) → Turns (word' word.CloseParen ∷ value (any cell.parameters word.Comma) ∷ word' word.OpenParen ∷ cs) (a cell.formal_parameters ∷ cs)
parameters_turns cs file ns vs m to (a_word c q (a_value v (is_empty cell.parameters_empty) (a_word o p h))) = a_value v (by_plain (cell.are_formal_parameters _ (declarations.no_parameters o c p q))) h
parameters_turns cs file ns vs m to (a_word c q (a_value v (is_any (cell.parameters_listed all {ts = ts} e)) (a_word o p h))) =
    a_value v (by_plain (cell.are_formal_parameters all (declarations.some_parameters o c p e q))) (move (ap (λ ts. o ∷ ts) (sym (append_assoc ts (c ∷ []) to))) h)

pub no_inner_turns : (cs : List Cell) → Turns (value (none cell.pairs) ∷ cs) (a cell.inner_arguments ∷ cs)
no_inner_turns cs file ns vs m to (a_value v (is_none (cell.pairs_empty d)) h) = a_value v (by_plain (cell.are_inner_arguments _ cell.no_inner)) h

pub pairs_inner_turns : (cs : List Cell) → Turns (value (some cell.pairs word.Comma) ∷ cs) (a cell.inner_arguments ∷ cs)
pairs_inner_turns cs file ns vs m to (a_value v (is_some (cell.pairs_listed all e)) h) = a_value v (by_plain (cell.are_inner_arguments all (cell.pairs_inner e))) h

pub one_inner_turns : (cs : List Cell) → Turns (a cell.one_value ∷ cs) (a cell.inner_arguments ∷ cs)
one_inner_turns cs file ns vs m to (a_value v (by_plain (cell.is_one_value x d e)) h) = a_value v (by_plain (cell.are_inner_arguments _ (cell.one_inner e))) h

pub marker_turns : (cs : List Cell) → Turns (value (none cell.pairs) ∷ cs) (a cell.annotation_arguments ∷ cs)
marker_turns cs file ns vs m to (a_value v (is_none (cell.pairs_empty d)) h) = a_value v (by_plain (cell.are_annotation_arguments _ annotations.no_parentheses)) h

pub annotation_turns : (cs : List Cell) → Turns (word' word.CloseParen ∷ a cell.inner_arguments ∷ word' word.OpenParen ∷ cs) (a cell.annotation_arguments ∷ cs)
annotation_turns cs file ns vs m to (a_word c q (a_value v (by_plain (cell.are_inner_arguments all {ts = ts} e)) (a_word o p h))) =
    a_value v (by_plain (cell.are_annotation_arguments all (go e))) (move (ap (λ ts. o ∷ ts) (sym (append_assoc ts (c ∷ []) to))) h)
  where
    go : {all : List _} {ts : List _} → cell.AreInnerArguments all ts → annotations.AreAnnotationArguments all (o ∷ ts ++ c ∷ [])
    go cell.no_inner = annotations.no_arguments o c p q
    go (cell.one_inner e) = annotations.one_value o c p e q
    go (cell.pairs_inner e) = annotations.pairs o c p e q

pub no_value_turns : (cs : List Cell) → Turns (value (none cell.values) ∷ cs) (a cell.values_in_braces ∷ cs)
no_value_turns cs file ns vs m to (a_value v (is_none (cell.values_empty d)) h) = a_value v (by_plain (cell.are_values_in_braces _ annotations.no_value)) h

pub only_comma_turns : (cs : List Cell) → Turns (word' word.Comma ∷ value (none cell.values) ∷ cs) (a cell.values_in_braces ∷ cs)
only_comma_turns cs file ns vs m to (a_word t q (a_value v (is_none (cell.values_empty d)) h)) = a_value v (by_plain (cell.are_values_in_braces _ (annotations.only_comma t q))) h

pub values_turns : (cs : List Cell) → Turns (value (some cell.values word.Comma) ∷ cs) (a cell.values_in_braces ∷ cs)
values_turns cs file ns vs m to (a_value v (is_some (cell.values_listed all e)) h) = a_value v (by_plain (cell.are_values_in_braces all (annotations.some_values e))) h

pub comma_behind_turns : (cs : List Cell) → Turns (value (behind cell.values word.Comma) ∷ cs) (a cell.values_in_braces ∷ cs)
comma_behind_turns cs file ns vs m to (a_value v (is_behind t (cell.values_listed all e) q) h) = a_value v (by_plain (cell.are_values_in_braces all (annotations.comma_behind t e q))) h

pub resources_turns : (cs : List Cell) → Turns (value (some cell.resources word.Semicolon) ∷ cs) (a cell.resources_inside ∷ cs)
resources_turns cs file ns vs m to (a_value v (is_some (cell.resources_listed all e)) h) = a_value v (by_plain (cell.are_resources_inside all (cell.last_resource e))) h

pub semicolon_behind_turns : (cs : List Cell) → Turns (value (behind cell.resources word.Semicolon) ∷ cs) (a cell.resources_inside ∷ cs)
semicolon_behind_turns cs file ns vs m to (a_value v (is_behind t (cell.resources_listed all e) q) h) = a_value v (by_plain (cell.are_resources_inside all (cell.semicolon_last t e q))) h

pub plain_try_turns : (cs : List Cell) → Turns (value (none cell.resources) ∷ word' word.Try ∷ start ∷ cs) (try_head ∷ cs)
plain_try_turns cs file ns vs m to (a_value v (is_none (cell.resources_empty d)) (a_word t q (a_start p b h))) = a_try _ t p b q statements.no_resource h

pub sourced_try_turns : (cs : List Cell) → Turns (word' word.CloseParen ∷ a cell.resources_inside ∷ word' word.OpenParen ∷ word' word.Try ∷ start ∷ cs) (try_head ∷ cs)
sourced_try_turns cs file ns vs m to (a_word c x (a_value v (by_plain (cell.are_resources_inside all (cell.last_resource {ts = ts} e))) (a_word o y (a_word t z (a_start p b h))))) =
    a_try all t p b z (statements.some_resources o c y e x) (move (ap (λ ts. t ∷ o ∷ ts) (sym (append_assoc ts (c ∷ []) to))) h)
sourced_try_turns cs file ns vs m to (a_word c x (a_value v (by_plain (cell.are_resources_inside all (cell.semicolon_last {ts = ts} s e w))) (a_word o y (a_word t z (a_start p b h))))) =
    a_try all t p b z (statements.semicolon_behind o s c y e w x) (move (ap (λ ts. t ∷ o ∷ ts) (append_assoc ts (s ∷ []) (c ∷ to) ∙ sym (append_assoc ts (s ∷ c ∷ []) to))) h)

-- cells that stand for another, and those of them that are left below it
pub record Source (c : Cell) : Type 0 where
  pub from : List Cell
  pub left : List Cell
  pub turns : (rest : List Cell) → Turns (from ++ rest) (c ∷ left ++ rest)

abbrev pub source : (c : Cell) (from : List Cell) → ((rest : List Cell) → Turns (from ++ rest) (c ∷ rest)) → Source c
source c from turns = record { from = from; left = []; turns = turns }

abbrev pub plain_sources : (p : Plain) → List (Source (a p))
plain_sources cell.name = source (a cell.name) (a cell.identifier ∷ []) name_turns ∷ []
plain_sources cell.typ = source (a cell.typ) (a cell.element ∷ []) type_turns ∷ source (a cell.typ) (a cell.array_type ∷ []) array_turns ∷ []
plain_sources cell.element = source (a cell.element) (a cell.primitive ∷ []) element_turns ∷ []
plain_sources cell.closed_type = source (a cell.closed_type) (word' word.CloseParen ∷ a cell.array_type ∷ []) closed_type_turns ∷ []
plain_sources cell.closed_primitive = source (a cell.closed_primitive) (word' word.CloseParen ∷ a cell.primitive ∷ []) closed_primitive_turns ∷ []
plain_sources cell.members = source (a cell.members) (word' word.Semicolon ∷ a cell.members ∷ []) members_turns ∷ []
plain_sources cell.types = source (a cell.types) (word' word.Semicolon ∷ a cell.types ∷ []) types_turns ∷ []
plain_sources cell.imports = source (a cell.imports) (word' word.Semicolon ∷ a cell.open_imports ∷ []) imports_turns ∷ []
plain_sources cell.super_call = source (a cell.super_call) (word' word.Semicolon ∷ a cell.open_super_call ∷ []) super_call_turns ∷ []
plain_sources cell.package' = source (a cell.package') (a cell.no_name ∷ []) package_turns ∷ []
plain_sources cell.superclass = source (a cell.superclass) (a cell.no_name ∷ []) superclass_turns ∷ []
plain_sources cell.call_arguments = source (a cell.call_arguments) (word' word.CloseParen ∷ value (any cell.expressions word.Comma) ∷ word' word.OpenParen ∷ []) arguments_turns ∷ []
plain_sources cell.formal_parameters = source (a cell.formal_parameters) (word' word.CloseParen ∷ value (any cell.parameters word.Comma) ∷ word' word.OpenParen ∷ []) parameters_turns ∷ []
plain_sources cell.inner_arguments = source (a cell.inner_arguments) (value (none cell.pairs) ∷ []) no_inner_turns ∷ source (a cell.inner_arguments) (value (some cell.pairs word.Comma) ∷ []) pairs_inner_turns ∷ source (a cell.inner_arguments) (a cell.one_value ∷ []) one_inner_turns ∷ []
plain_sources cell.annotation_arguments = source (a cell.annotation_arguments) (value (none cell.pairs) ∷ []) marker_turns ∷ source (a cell.annotation_arguments) (word' word.CloseParen ∷ a cell.inner_arguments ∷ word' word.OpenParen ∷ []) annotation_turns ∷ []
plain_sources cell.values_in_braces = source (a cell.values_in_braces) (value (none cell.values) ∷ []) no_value_turns ∷ source (a cell.values_in_braces) (word' word.Comma ∷ value (none cell.values) ∷ []) only_comma_turns
    ∷ source (a cell.values_in_braces) (value (some cell.values word.Comma) ∷ []) values_turns ∷ source (a cell.values_in_braces) (value (behind cell.values word.Comma) ∷ []) comma_behind_turns ∷ []
plain_sources cell.resources_inside = source (a cell.resources_inside) (value (some cell.resources word.Semicolon) ∷ []) resources_turns ∷ source (a cell.resources_inside) (value (behind cell.resources word.Semicolon) ∷ []) semicolon_behind_turns ∷ []
plain_sources _ = []

abbrev pub some_sources : (l : Listing) (w : Word) → List (Source (value (some l w)))
some_sources cell.names w = source (value (some cell.names w)) (a cell.one_name ∷ []) (one_name_turns w) ∷ []
some_sources _ w = []

abbrev pub graded_sources : (g : Grade) → List (Source (value (graded g)))
graded_sources cell.access = []
graded_sources cell.primary = source (value (graded cell.primary)) (value (graded cell.access) ∷ []) (graded_turns cell.primary cell.access (omega arith)) ∷ []
graded_sources cell.postfix = source (value (graded cell.postfix)) (value (graded cell.access) ∷ []) (graded_turns cell.postfix cell.access (omega arith)) ∷ source (value (graded cell.postfix)) (value (graded cell.primary) ∷ []) (graded_turns cell.postfix cell.primary (omega arith)) ∷ []
graded_sources cell.unsigned = source (value (graded cell.unsigned)) (value (graded cell.access) ∷ []) (graded_turns cell.unsigned cell.access (omega arith)) ∷ source (value (graded cell.unsigned)) (value (graded cell.primary) ∷ []) (graded_turns cell.unsigned cell.primary (omega arith)) ∷ source (value (graded cell.unsigned)) (value (graded cell.postfix) ∷ []) (graded_turns cell.unsigned cell.postfix (omega arith)) ∷ []
graded_sources cell.unary = source (value (graded cell.unary)) (value (graded cell.access) ∷ []) (graded_turns cell.unary cell.access (omega arith)) ∷ source (value (graded cell.unary)) (value (graded cell.primary) ∷ []) (graded_turns cell.unary cell.primary (omega arith)) ∷ source (value (graded cell.unary)) (value (graded cell.postfix) ∷ []) (graded_turns cell.unary cell.postfix (omega arith)) ∷ source (value (graded cell.unary)) (value (graded cell.unsigned) ∷ []) (graded_turns cell.unary cell.unsigned (omega arith)) ∷ []
graded_sources cell.binary = source (value (graded cell.binary)) (value (graded cell.access) ∷ []) (graded_turns cell.binary cell.access (omega arith)) ∷ source (value (graded cell.binary)) (value (graded cell.primary) ∷ []) (graded_turns cell.binary cell.primary (omega arith)) ∷ source (value (graded cell.binary)) (value (graded cell.postfix) ∷ []) (graded_turns cell.binary cell.postfix (omega arith)) ∷ source (value (graded cell.binary)) (value (graded cell.unsigned) ∷ []) (graded_turns cell.binary cell.unsigned (omega arith)) ∷ source (value (graded cell.binary)) (value (graded cell.unary) ∷ []) (graded_turns cell.binary cell.unary (omega arith)) ∷ []
graded_sources cell.conditional = source (value (graded cell.conditional)) (value (graded cell.access) ∷ []) (graded_turns cell.conditional cell.access (omega arith)) ∷ source (value (graded cell.conditional)) (value (graded cell.primary) ∷ []) (graded_turns cell.conditional cell.primary (omega arith)) ∷ source (value (graded cell.conditional)) (value (graded cell.postfix) ∷ []) (graded_turns cell.conditional cell.postfix (omega arith)) ∷ source (value (graded cell.conditional)) (value (graded cell.unsigned) ∷ []) (graded_turns cell.conditional cell.unsigned (omega arith)) ∷ source (value (graded cell.conditional)) (value (graded cell.unary) ∷ []) (graded_turns cell.conditional cell.unary (omega arith)) ∷ source (value (graded cell.conditional)) (value (graded cell.binary) ∷ []) (graded_turns cell.conditional cell.binary (omega arith)) ∷ []
graded_sources cell.full = source (value (graded cell.full)) (value (graded cell.access) ∷ []) (graded_turns cell.full cell.access (omega arith)) ∷ source (value (graded cell.full)) (value (graded cell.primary) ∷ []) (graded_turns cell.full cell.primary (omega arith)) ∷ source (value (graded cell.full)) (value (graded cell.postfix) ∷ []) (graded_turns cell.full cell.postfix (omega arith)) ∷ source (value (graded cell.full)) (value (graded cell.unsigned) ∷ []) (graded_turns cell.full cell.unsigned (omega arith)) ∷ source (value (graded cell.full)) (value (graded cell.unary) ∷ []) (graded_turns cell.full cell.unary (omega arith)) ∷ source (value (graded cell.full)) (value (graded cell.binary) ∷ []) (graded_turns cell.full cell.binary (omega arith)) ∷ source (value (graded cell.full)) (value (graded cell.conditional) ∷ []) (graded_turns cell.full cell.conditional (omega arith)) ∷ []

abbrev pub part_sources : (p : Part) → List (Source (value p))
part_sources (plain p) = plain_sources p
part_sources (graded g) = graded_sources g
part_sources (none l) = record { from = word' word.OpenParen ∷ value (none l) ∷ []; left = word' word.OpenParen ∷ []; turns = none_turns l } ∷ []
part_sources (behind l w) = source (value (behind l w)) (word' w ∷ value (some l w) ∷ []) (behind_turns l w) ∷ []
part_sources (next l w) = source (value (next l w)) (value (none l) ∷ []) (first_turns l w) ∷ source (value (next l w)) (value (behind l w) ∷ []) (next_turns l w) ∷ source (value (next l w)) (word' w ∷ value (some l w) ∷ []) (separated_turns l w)
    ∷ record { from = word' word.OpenParen ∷ value (none l) ∷ []; left = word' word.OpenParen ∷ []; turns = opened_turns l w } ∷ []
part_sources (some l w) = some_sources l w
part_sources (any l w) = source (value (any l w)) (value (none l) ∷ []) (empty_turns l w) ∷ source (value (any l w)) (value (some l w) ∷ []) (any_turns l w) ∷ []
part_sources (clause w) = source (value (clause w)) (value (none cell.names) ∷ []) (no_clause_turns w) ∷ source (value (clause w)) (value (some cell.names word.Comma) ∷ word' w ∷ []) (clause_turns w) ∷ []

abbrev pub sources : (c : Cell) → List (Source c)
sources (value p) = part_sources p
sources pending = source pending (value (graded cell.unary) ∷ a cell.operations ∷ []) pending_turns ∷ source pending (compared ∷ []) compared_turns ∷ []
sources statement' = source statement' (word' word.Semicolon ∷ a cell.open_statement ∷ []) statement_turns ∷ []
sources try_head = source try_head (value (none cell.resources) ∷ word' word.Try ∷ start ∷ []) plain_try_turns ∷ source try_head (word' word.CloseParen ∷ a cell.resources_inside ∷ word' word.OpenParen ∷ word' word.Try ∷ start ∷ []) sourced_try_turns ∷ []
sources _ = []
