-- The actions of declarations.
use Rattle.std.specs.Prelude.{[], ◌∷◌, ◌++◌, Some, None, true, false}
use Rattle.std.proofs.Common.{◌∙◌, ap, subst}
use Rattle.java_syntax.specs.declared.words.Word.{Word}
use Rattle.java_syntax.specs.declared.words.Word.TheVariants as word
use Rattle.java_syntax.specs.declared.declaration_trees.Import.{Import}
use Rattle.java_syntax.specs.declared.actions.Action.{Action}
use Rattle.java_syntax.specs.declared.actions.Action.TheVariants as action
use Rattle.java_syntax.specs.declared.actions.DeclarationAction.{DeclarationAction}
use Rattle.java_syntax.specs.declared.actions.DeclarationAction.TheVariants as declares
use Rattle.java_statement_actions.specs.DeclarationActions.{perform_declaration}
use Rattle.reading_laws.specs.Names as names
use Rattle.reading_laws.specs.Names.{Is, AreInOrder}
use Rattle.reading_laws.specs.Statements as statements
use Rattle.reading_laws.specs.Declarations as declarations
use Rattle.reading_laws.specs.Declarations.{IsImport, IsSuperCall}
use Rattle.reading_laws.proofs.Cells as cell
use Rattle.reading_laws.proofs.Cells.{Cell, word', start, value, never, plain, none, next, some, clause, Holds, a_word, a_start, a_value, by_plain, is_none, is_first, is_next, is_some, is_clause, statement', a_statement}
use Rattle.reading_laws.proofs.Outcomes.{made}
use Rattle.reading_laws.proofs.Moves.{moved, Acts, at_place, join2, join3, join4, join5, join_next}
use Rattle.reading_laws.proofs.Tables.{a, declaration_takes, declaration_leaves, some_name_takes, some_name_leaves}

abbrev pub the : DeclarationAction → Action
the x = action.Declare x

no_name : Acts [] (the declares.NoName) (a cell.no_name ∷ [])
unfolding perform_declaration
no_name file ns vs l to limit h = made _ (a_value _ (by_plain cell.is_no_name) h)

package_name : Acts (word' word.Semicolon ∷ a cell.name ∷ word' word.Package ∷ []) (the declares.SomeName) (a cell.package' ∷ [])
unfolding perform_declaration
package_name file ns vs l to limit (a_word i n (a_value x (by_plain (cell.is_name m {ts = ts} g)) (a_word t q h))) = made _ (a_value _ (by_plain (cell.is_package (Some m) (declarations.package' t i q g n))) (moved h (join2 (t ∷ ts) (i ∷ []) to)))

superclass_name : Acts (a cell.name ∷ word' word.Extends ∷ []) (the declares.SomeName) (a cell.superclass ∷ [])
unfolding perform_declaration
superclass_name file ns vs l to limit (a_value x (by_plain (cell.is_name m g)) (a_word t q h)) = made _ (a_value _ (by_plain (cell.is_superclass (Some m) (declarations.superclass t q g))) h)

no_imports : Acts [] (the declares.NoImports) (a cell.imports ∷ [])
unfolding perform_declaration
no_imports file ns vs l to limit h = made _ (a_value _ (by_plain (cell.are_imports [] names.nothing)) h)

import : Acts (a cell.name ∷ word' word.Import ∷ start ∷ a cell.imports ∷ []) (the declares.Import) (a cell.open_imports ∷ [])
unfolding perform_declaration
import file ns vs l to limit (a_value x (by_plain (cell.is_name n {ts = us} g)) (a_word t q (a_start p b (a_value y (by_plain (cell.are_imports all {ts = ts} k)) h)))) =
    made _ (a_value _ {ts = ts ++ t ∷ us} (by_plain (cell.are_open_imports _ (λ s r. subst (λ xs. AreInOrder Import IsImport (all ++ record { name = n.text; star = false; pos = p } ∷ []) xs) (join2 ts (t ∷ us) (s ∷ []))
    (names.further _ k (at_place t p b (λ p. IsImport (record { name = n.text; star = false; pos = p }) (t ∷ us ++ s ∷ [])) (declarations.one_type t s q g r))))))
    (moved h (join2 ts (t ∷ us) to)))

import_all : Acts (word' word.Star ∷ word' word.Dot ∷ a cell.name ∷ word' word.Import ∷ start ∷ a cell.imports ∷ []) (the declares.ImportAll) (a cell.open_imports ∷ [])
unfolding perform_declaration
import_all file ns vs l to limit (a_word star m (a_word dot d (a_value x (by_plain (cell.is_name n {ts = us} g)) (a_word t q (a_start p b (a_value y (by_plain (cell.are_imports all {ts = ts} k)) h)))))) =
    made _ (a_value _ {ts = ts ++ (t ∷ us ++ dot ∷ star ∷ [])} (by_plain (cell.are_open_imports _ (λ s r. subst (λ xs. AreInOrder Import IsImport (all ++ record { name = n.text; star = true; pos = p } ∷ []) xs)
    (ap (λ xs. ts ++ xs) (join2 (t ∷ us) (dot ∷ star ∷ []) (s ∷ [])) ∙ join2 ts (t ∷ us ++ dot ∷ star ∷ []) (s ∷ []))
    (names.further _ k (at_place t p b (λ p. IsImport (record { name = n.text; star = true; pos = p }) (t ∷ us ++ dot ∷ star ∷ s ∷ [])) (declarations.all_types t dot star s q g d m r))))))
    (moved h (ap (λ xs. ts ++ xs) (join2 (t ∷ us) (dot ∷ star ∷ []) to) ∙ join2 ts (t ∷ us ++ dot ∷ star ∷ []) to)))

no_types : Acts [] (the declares.NoTypes) (a cell.types ∷ [])
unfolding perform_declaration
no_types file ns vs l to limit h = made _ (a_value _ (by_plain (cell.are_types [] declarations.nothing)) h)

unit : Acts (a cell.types ∷ a cell.imports ∷ a cell.package' ∷ []) (the declares.Unit) (a cell.unit ∷ [])
unfolding perform_declaration
unit file ns vs l to limit (a_value x (by_plain (cell.are_types c {ts = ws} g)) (a_value y (by_plain (cell.are_imports i {ts = us} k)) (a_value z (by_plain (cell.is_package o {ts = ts} f)) h))) =
    made _ (a_value _ (by_plain (cell.is_unit _ (declarations.unit f k g))) (moved h (join3 ts us ws to)))

no_units : Acts [] (the declares.NoUnits) (a cell.units ∷ [])
unfolding perform_declaration
no_units file ns vs l to limit h = made _ (a_value _ (by_plain (cell.are_units [] names.nothing)) h)

and_unit : Acts (a cell.unit ∷ a cell.units ∷ []) (the declares.AndUnit) (a cell.units ∷ [])
unfolding perform_declaration
and_unit file ns vs l to limit (a_value x (by_plain (cell.is_unit u {ts = us} g)) (a_value y (by_plain (cell.are_units all {ts = ts} k)) h)) = made _ (a_value _ (by_plain (cell.are_units _ (names.further u k g))) (moved h (join2 ts us to)))

no_members : Acts [] (the declares.NoMembers) (a cell.members ∷ [])
unfolding perform_declaration
no_members file ns vs l to limit h = made _ (a_value _ (by_plain (cell.are_members [] declarations.nothing)) h)

class' : Acts (word' word.CloseBrace ∷ a cell.members ∷ word' word.OpenBrace ∷ value (clause word.Implements) ∷ a cell.superclass ∷ a cell.identifier ∷ word' word.Class ∷ a cell.modifiers ∷ a cell.types ∷ []) (the declares.Class) (a cell.types ∷ [])
unfolding perform_declaration
class' file ns vs l to limit (a_word e q (a_value x (by_plain (cell.are_members ms {ts = xs} g)) (a_word o r (a_value y (is_clause is {ts = ws} k) (a_value z (by_plain (cell.is_superclass s {ts = us} f)) (a_value w (by_plain (cell.is_identifier n i)) (a_word t j (a_value u (by_plain (cell.are_modifiers m {ts = ts} d)) (a_value v (by_plain (cell.are_types all {ts = ys} c)) h))))))))) =
    made _ (a_value _ (by_plain (cell.are_types _ (declarations.further _ c (declarations.«class» t n o e d j i f k r g q))))
    (moved h (ap (λ zs. ys ++ zs) (join5 ts (t ∷ n ∷ us) ws (o ∷ xs) (e ∷ []) to) ∙ join2 ys (ts ++ t ∷ n ∷ us ++ ws ++ o ∷ xs ++ e ∷ []) to)))

interface : Acts (word' word.CloseBrace ∷ a cell.members ∷ word' word.OpenBrace ∷ value (clause word.Extends) ∷ a cell.identifier ∷ word' word.Interface ∷ a cell.modifiers ∷ a cell.types ∷ []) (the declares.Interface) (a cell.types ∷ [])
unfolding perform_declaration
interface file ns vs l to limit (a_word e q (a_value x (by_plain (cell.are_members ms {ts = xs} g)) (a_word o r (a_value y (is_clause is {ts = us} k) (a_value w (by_plain (cell.is_identifier n i)) (a_word t j (a_value u (by_plain (cell.are_modifiers m {ts = ts} d)) (a_value v (by_plain (cell.are_types all {ts = ys} c)) h)))))))) =
    made _ (a_value _ (by_plain (cell.are_types _ (declarations.further _ c (declarations.interface t n o e d j i k r g q))))
    (moved h (ap (λ zs. ys ++ zs) (join4 ts (t ∷ n ∷ us) (o ∷ xs) (e ∷ []) to) ∙ join2 ys (ts ++ t ∷ n ∷ us ++ o ∷ xs ++ e ∷ []) to)))

no_result : Acts (word' word.Void ∷ []) (the declares.NoResult) (a cell.result ∷ [])
unfolding perform_declaration
no_result file ns vs l to limit (a_word t q h) = made _ (a_value _ (by_plain (cell.is_result None (declarations.void t q))) h)

some_result : Acts (a cell.typ ∷ []) (the declares.SomeResult) (a cell.result ∷ [])
unfolding perform_declaration
some_result file ns vs l to limit (a_value x (by_plain (cell.is_type t g)) h) = made _ (a_value _ (by_plain (cell.is_result (Some t) (declarations.result g))) h)

method : Acts (a cell.identifier ∷ a cell.typ ∷ []) (the declares.Method) (a cell.identifier ∷ a cell.result ∷ [])
unfolding perform_declaration
method file ns vs l to limit (a_value x (by_plain (cell.is_identifier n r)) (a_value y (by_plain (cell.is_type t g)) h)) = made _ (a_value {l = None} _ (by_plain (cell.is_identifier n r)) (a_value _ (by_plain (cell.is_result (Some t) (declarations.result g))) h))

field : Acts (word' word.Semicolon ∷ value (some cell.variables word.Comma) ∷ a cell.typ ∷ a cell.modifiers ∷ a cell.members ∷ []) (the declares.Field) (a cell.members ∷ [])
unfolding perform_declaration
field file ns vs l to limit (a_word i q (a_value x (is_some (cell.variables_listed all {ts = ws} k)) (a_value y (by_plain (cell.is_type t {ts = us} g)) (a_value z (by_plain (cell.are_modifiers m {ts = ts} d)) (a_value v (by_plain (cell.are_members ms {ts = ys} c)) h))))) =
    made _ (a_value _ (by_plain (cell.are_members _ (declarations.further _ c (declarations.field i d g k q)))) (moved h (ap (λ zs. ys ++ zs) (join4 ts us ws (i ∷ []) to) ∙ join2 ys (ts ++ us ++ ws ++ i ∷ []) to)))

no_parameters : Acts [] (the declares.NoParameters) (value (none cell.parameters) ∷ [])
unfolding perform_declaration
no_parameters file ns vs l to limit h = made _ (a_value _ (is_none cell.parameters_empty) h)

parameter : Acts (a cell.identifier ∷ a cell.typ ∷ a cell.modifiers ∷ value (next cell.parameters word.Comma) ∷ []) (the declares.Parameter) (value (some cell.parameters word.Comma) ∷ [])
unfolding perform_declaration
parameter file ns vs l to limit (a_value x (by_plain (cell.is_identifier n r)) (a_value y (by_plain (cell.is_type t {ts = us} g)) (a_value z (by_plain (cell.are_modifiers m {ts = ts} d)) (a_value v (is_first cell.parameters_empty) h)))) =
    made _ (a_value _ (is_some (cell.parameters_listed _ (declarations.first_parameter _ (declarations.parameter n d g r)))) (moved h (join3 ts us (n ∷ []) to)))
parameter file ns vs l to limit (a_value x (by_plain (cell.is_identifier n r)) (a_value y (by_plain (cell.is_type t {ts = us} g)) (a_value z (by_plain (cell.are_modifiers m {ts = ts} d)) (a_value v (is_next c (cell.parameters_listed all {ts = ys} k) s) h)))) =
    made _ (a_value _ (is_some (cell.parameters_listed _ (declarations.further_parameter c _ k s (declarations.parameter n d g r))))
    (moved h (ap (λ zs. ys ++ c ∷ [] ++ zs) (join3 ts us (n ∷ []) to) ∙ join_next ys c (ts ++ us ++ n ∷ []) to)))

receiver : Acts (a cell.receiver ∷ a cell.typ ∷ a cell.modifiers ∷ value (none cell.parameters) ∷ []) (the declares.Receiver) (value (some cell.parameters word.Comma) ∷ [])
unfolding perform_declaration
receiver file ns vs l to limit (a_value x (by_plain (cell.is_receiver n r)) (a_value y (by_plain (cell.is_type t {ts = us} g)) (a_value z (by_plain (cell.are_modifiers m {ts = ts} d)) (a_value v (is_none cell.parameters_empty) h)))) =
    made _ (a_value _ (is_some (cell.parameters_listed _ (declarations.receiver _ (declarations.parameter n d g r)))) (moved h (join3 ts us (n ∷ []) to)))

method_body : Acts (a cell.block ∷ value (clause word.Throws) ∷ a cell.formal_parameters ∷ a cell.identifier ∷ a cell.result ∷ a cell.modifiers ∷ a cell.members ∷ []) (the declares.MethodBody) (a cell.members ∷ [])
unfolding perform_declaration
method_body file ns vs l to limit (a_value v (by_plain (cell.is_block b {ts = zs} q)) (a_value w (is_clause is {ts = xs} k) (a_value x (by_plain (cell.are_formal_parameters ps {ts = ws} f)) (a_value y (by_plain (cell.is_identifier n i)) (a_value z (by_plain (cell.is_result o {ts = us} g)) (a_value u (by_plain (cell.are_modifiers m {ts = ts} d)) (a_value r (by_plain (cell.are_members ms {ts = ys} c)) h))))))) =
    made _ (a_value _ (by_plain (cell.are_members _ (declarations.further _ c (declarations.method n d g i f k (declarations.body q)))))
    (moved h (ap (λ all. ys ++ all) (join5 ts us (n ∷ ws) xs zs to) ∙ join2 ys (ts ++ us ++ n ∷ ws ++ xs ++ zs) to)))

method_head : Acts (word' word.Semicolon ∷ value (clause word.Throws) ∷ a cell.formal_parameters ∷ a cell.identifier ∷ a cell.result ∷ a cell.modifiers ∷ a cell.members ∷ []) (the declares.MethodHead) (a cell.members ∷ [])
unfolding perform_declaration
method_head file ns vs l to limit (a_word e q (a_value w (is_clause is {ts = xs} k) (a_value x (by_plain (cell.are_formal_parameters ps {ts = ws} f)) (a_value y (by_plain (cell.is_identifier n i)) (a_value z (by_plain (cell.is_result o {ts = us} g)) (a_value u (by_plain (cell.are_modifiers m {ts = ts} d)) (a_value r (by_plain (cell.are_members ms {ts = ys} c)) h))))))) =
    made _ (a_value _ (by_plain (cell.are_members _ (declarations.further _ c (declarations.method n d g i f k (declarations.no_body e q)))))
    (moved h (ap (λ all. ys ++ all) (join5 ts us (n ∷ ws) xs (e ∷ []) to) ∙ join2 ys (ts ++ us ++ n ∷ ws ++ xs ++ e ∷ []) to)))

constructor : Acts (a cell.constructor_body ∷ value (clause word.Throws) ∷ a cell.formal_parameters ∷ a cell.identifier ∷ a cell.modifiers ∷ a cell.members ∷ []) (the declares.Constructor) (a cell.members ∷ [])
unfolding perform_declaration
constructor file ns vs l to limit (a_value v (by_plain (cell.is_constructor_body b {ts = zs} q)) (a_value w (is_clause is {ts = xs} k) (a_value x (by_plain (cell.are_formal_parameters ps {ts = ws} f)) (a_value y (by_plain (cell.is_identifier n i)) (a_value u (by_plain (cell.are_modifiers m {ts = ts} d)) (a_value r (by_plain (cell.are_members ms {ts = ys} c)) h)))))) =
    made _ (a_value _ (by_plain (cell.are_members _ (declarations.further _ c (declarations.constructor n d i f k q))))
    (moved h (ap (λ all. ys ++ all) (join4 ts (n ∷ ws) xs zs to) ∙ join2 ys (ts ++ n ∷ ws ++ xs ++ zs) to)))

constructor_head : Acts (word' word.Semicolon ∷ value (clause word.Throws) ∷ a cell.formal_parameters ∷ a cell.identifier ∷ a cell.modifiers ∷ a cell.members ∷ []) (the declares.ConstructorHead) (a cell.members ∷ [])
unfolding perform_declaration
constructor_head file ns vs l to limit (a_word e q (a_value w (is_clause is {ts = xs} k) (a_value x (by_plain (cell.are_formal_parameters ps {ts = ws} f)) (a_value y (by_plain (cell.is_identifier n i)) (a_value u (by_plain (cell.are_modifiers m {ts = ts} d)) (a_value r (by_plain (cell.are_members ms {ts = ys} c)) h)))))) =
    made _ (a_value _ (by_plain (cell.are_members _ (declarations.further _ c (declarations.constructor n d i f k (declarations.no_constructor_body e q)))))
    (moved h (ap (λ all. ys ++ all) (join4 ts (n ∷ ws) xs (e ∷ []) to) ∙ join2 ys (ts ++ n ∷ ws ++ xs ++ e ∷ []) to)))

no_super_call : Acts [] (the declares.NoSuperCall) (a cell.super_call ∷ [])
unfolding perform_declaration
no_super_call file ns vs l to limit h = made _ (a_value _ (by_plain (cell.is_super_call None declarations.no_super_call)) h)

super_call : Acts (a cell.call_arguments ∷ word' word.Super ∷ start ∷ []) (the declares.SuperCall) (a cell.open_super_call ∷ [])
unfolding perform_declaration
super_call file ns vs l to limit (a_value x (by_plain (cell.is_call_arguments all {ts = ts} g)) (a_word t q (a_start p b h))) =
    made _ (a_value _ {ts = t ∷ ts} (by_plain (cell.is_open_super_call _ (λ s r. at_place t p b (λ p. IsSuperCall (Some (record { arguments = all.tree; pos = p })) (t ∷ ts ++ s ∷ [])) (declarations.super_call t s q g r)))) h)

first_statement : Acts (statement' ∷ []) (the declares.FirstStatement) (a cell.statements ∷ a cell.super_call ∷ [])
unfolding perform_declaration
first_statement file ns vs l to limit (a_statement s g g' h) =
    made _ (a_value {l = None} _ (by_plain (cell.are_statements _ (statements.further_statement s.tree statements.no_statement g))) (a_value _ (by_plain (cell.is_super_call None declarations.no_super_call)) h))

no_package_name : Acts (never ∷ []) (the declares.SomeName) (a cell.superclass ∷ [])
no_package_name file ns vs l to limit h = elim h [ ]

some_names : (w : Word) → Acts (some_name_takes w) (the declares.SomeName) (some_name_leaves w)
some_names word.Semicolon = package_name
some_names word.Extends = superclass_name
some_names _ = no_package_name

pub declaration_acts : (x : DeclarationAction) (w : Word) → Acts (declaration_takes x w) (action.Declare x) (declaration_leaves x w)
declaration_acts declares.NoName w = no_name
declaration_acts declares.SomeName w = some_names w
declaration_acts declares.NoImports w = no_imports
declaration_acts declares.Import w = import
declaration_acts declares.ImportAll w = import_all
declaration_acts declares.NoTypes w = no_types
declaration_acts declares.Unit w = unit
declaration_acts declares.NoUnits w = no_units
declaration_acts declares.AndUnit w = and_unit
declaration_acts declares.NoMembers w = no_members
declaration_acts declares.Class w = class'
declaration_acts declares.Interface w = interface
declaration_acts declares.NoResult w = no_result
declaration_acts declares.SomeResult w = some_result
declaration_acts declares.Method w = method
declaration_acts declares.Field w = field
declaration_acts declares.NoParameters w = no_parameters
declaration_acts declares.Parameter w = parameter
declaration_acts declares.Receiver w = receiver
declaration_acts declares.MethodBody w = method_body
declaration_acts declares.MethodHead w = method_head
declaration_acts declares.Constructor w = constructor
declaration_acts declares.ConstructorHead w = constructor_head
declaration_acts declares.NoSuperCall w = no_super_call
declaration_acts declares.SuperCall w = super_call
declaration_acts declares.FirstStatement w = first_statement
