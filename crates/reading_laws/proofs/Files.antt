-- What a symbol's derivation leaves is written with its tokens.
use Rattle.std.specs.Prelude.{◌≡◌, ℕ, Bool, List, [], ◌∷◌, ◌++◌, None}
use Rattle.std.proofs.Common.{refl, sym, ◌∙◌, subst, append-nil}
use Rattle.std.specs.List.{All}
use Rattle.std.proofs.lemmas.List.Elements.{recursion_from_All}
use Rattle.java_syntax.specs.declared.symbols.Symbol.{Symbol}
use Rattle.java_syntax.specs.declared.symbols.Symbol.TheVariants as symbols
use Rattle.java_syntax.specs.declared.symbols.Item.TheVariants.{Read}
use Rattle.java_syntax.specs.Derives.{Lexeme, Step, Derives, at_start}
use Rattle.java_syntax.specs.declared.names.Typ.{Typ}
use Rattle.java_syntax.specs.ExpressionTrees.{ExprTree}
use Rattle.java_syntax.specs.AnnotationTrees.{AnnoTree}
use Rattle.java_syntax.specs.DeclarationTrees.{UnitTree}
use Rattle.java_values.specs.NestedTrees.{Nested}
use Rattle.java_values.specs.Values.{ValueTree, AUnit, AUnits, AExpression, AType, AAnnotations}
use Rattle.java_values.specs.Outcomes.{Made}
use Rattle.java_values.specs.Lists.{none_of}
use Rattle.java_exprs.specs.Evaluation.{evaluate}
use Rattle.reading_laws.specs.Names.{IsType, nothing}
use Rattle.reading_laws.specs.Expressions.{IsExpression, HasLooseOperator}
use Rattle.reading_laws.specs.Annotations.{AreAnnotations}
use Rattle.reading_laws.specs.Declarations.{IsUnit, AreUnits}
use Rattle.reading_laws.proofs.Cells as cell
use Rattle.reading_laws.proofs.Cells.{File, Part, plain, graded, value, IsWritten, by_plain, is_graded, Holds, empty, a_value}
use Rattle.reading_laws.proofs.Outcomes.{taken_made}
use Rattle.reading_laws.proofs.Moves.{same_turns}
use Rattle.reading_laws.proofs.Tables.{takes, leaves}
use Rattle.reading_laws.proofs.Plans.{Plan, ends, reads}
use Rattle.reading_laws.proofs.TokenReading.{follow, Ends, ends_with}

-- a symbol alone
alone : (x : Symbol) → Plan (takes x) (Read x ∷ []) (leaves x)
alone x = subst (λ cs. Plan cs (Read x ∷ []) (leaves x)) (append-nil (takes x))
    (reads [] (same_turns (takes x ++ [])) (subst (λ cs. Plan (leaves x ++ []) [] cs) (append-nil (leaves x)) (ends (same_turns (leaves x ++ [])))))

-- the one value, with all tokens
one_written : (p : Part) (file : File) (v : ValueTree) → Ends file (value p ∷ []) (v ∷ []) → IsWritten p v file.tokens
one_written p file v (ends_with l (a_value u {ts = ts} h (empty from e))) = subst (λ ts. IsWritten p v ts) (sym (append-nil ts) ∙ e) h

-- What a symbol leaves on a stack of the cells that it takes, which no token was read for, is written with all tokens.
written : (limit : ℕ) (stub : Bool) (x : Symbol) (p : Part) (file : File) (steps : List Step) (start : List ValueTree) (v : ValueTree) → leaves x ≡ value p ∷ [] → Holds file (takes x) start None file.tokens
    → Derives (at_start stub) (Read x ∷ []) file.tokens steps → evaluate limit steps None start ≡ Made (v ∷ []) → IsWritten p v file.tokens
written limit stub x p file steps start v k h d e = one_written p file v
    (taken_made (evaluate limit steps None start) (v ∷ []) (follow limit file d (takes x) (value p ∷ []) start None (subst (λ cs. Plan (takes x) (Read x ∷ []) cs) k (alone x)) h) e)

abbrev pub file_of : (tokens : List Lexeme) → All HasLooseOperator tokens → File
file_of tokens h = record { tokens = tokens; graded = recursion_from_All HasLooseOperator tokens h }

pub unit_written : (limit : ℕ) (stub : Bool) (tokens : List Lexeme) (steps : List Step) (tree : UnitTree) → All HasLooseOperator tokens → Derives (at_start stub) (Read symbols.CompilationUnit ∷ []) tokens steps → evaluate limit steps None [] ≡ Made (AUnit tree ∷ []) → IsUnit tree tokens
unit_written limit stub tokens steps tree c d e = is (written limit stub symbols.CompilationUnit (plain cell.unit) (file_of tokens c) steps [] (AUnit tree) refl (empty tokens refl) d e)
  where
    is : {tree : UnitTree} {ts : List Lexeme} → IsWritten (plain cell.unit) (AUnit tree) ts → IsUnit tree ts
    is (by_plain (cell.is_unit u h)) = h

pub units_written : (limit : ℕ) (stub : Bool) (tokens : List Lexeme) (steps : List Step) (trees : List UnitTree) → All HasLooseOperator tokens → Derives (at_start stub) (Read symbols.StubFile ∷ []) tokens steps → evaluate limit steps None [] ≡ Made (AUnits trees ∷ []) → AreUnits trees tokens
units_written limit stub tokens steps trees c d e = is (written limit stub symbols.StubFile (plain cell.units) (file_of tokens c) steps [] (AUnits trees) refl (empty tokens refl) d e)
  where
    is : {trees : List UnitTree} {ts : List Lexeme} → IsWritten (plain cell.units) (AUnits trees) ts → AreUnits trees ts
    is (by_plain (cell.are_units u h)) = h

pub expression_written : (limit : ℕ) (stub : Bool) (tokens : List Lexeme) (steps : List Step) (e : Nested ExprTree) → All HasLooseOperator tokens → Derives (at_start stub) (Read symbols.Expression ∷ []) tokens steps → evaluate limit steps None [] ≡ Made (AExpression e ∷ []) → IsExpression e.tree tokens
expression_written limit stub tokens steps e c d q = is (written limit stub symbols.Expression (graded cell.full) (file_of tokens c) steps [] (AExpression e) refl (empty tokens refl) d q)
  where
    is : {e : Nested ExprTree} {ts : List Lexeme} → IsWritten (graded cell.full) (AExpression e) ts → IsExpression e.tree ts
    is (is_graded u h) = h

pub type_written : (limit : ℕ) (stub : Bool) (tokens : List Lexeme) (steps : List Step) (typ : Typ) → All HasLooseOperator tokens → Derives (at_start stub) (Read symbols.Type ∷ []) tokens steps → evaluate limit steps None [] ≡ Made (AType typ ∷ []) → IsType typ tokens
type_written limit stub tokens steps typ c d q = is (written limit stub symbols.Type (plain cell.typ) (file_of tokens c) steps [] (AType typ) refl (empty tokens refl) d q)
  where
    is : {typ : Typ} {ts : List Lexeme} → IsWritten (plain cell.typ) (AType typ) ts → IsType typ ts
    is (by_plain (cell.is_type u h)) = h

pub annotations_written : (limit : ℕ) (stub : Bool) (tokens : List Lexeme) (steps : List Step) (all : Nested (List AnnoTree)) → All HasLooseOperator tokens → Derives (at_start stub) (Read symbols.Annotations ∷ []) tokens steps
    → evaluate limit steps None (AAnnotations (none_of AnnoTree) ∷ []) ≡ Made (AAnnotations all ∷ []) → AreAnnotations all.tree tokens
annotations_written limit stub tokens steps all c d q = is (written limit stub symbols.Annotations (plain cell.annotations) (file_of tokens c) steps (AAnnotations (none_of AnnoTree) ∷ []) (AAnnotations all) refl (a_value _ (by_plain (cell.are_annotations (none_of AnnoTree) nothing)) (empty tokens refl)) d q)
  where
    is : {all : Nested (List AnnoTree)} {ts : List Lexeme} → IsWritten (plain cell.annotations) (AAnnotations all) ts → AreAnnotations all.tree ts
    is (by_plain (cell.are_annotations u h)) = h
