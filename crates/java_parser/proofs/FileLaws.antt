-- A list of tokens has at most one tree, and its derivation leaves it.
use Rattle.std.specs.Prelude.{◌≡◌, Bool, List, [], ◌∷◌, map, None, true, false, Result, Ok, Err, IfErr}
use Rattle.rlc_base.specs.declared.place.Pos.{Pos}
use Rattle.rlc_base.specs.declared.faults.Stop.{Stop}
use Rattle.rlc_base.specs.declared.faults.Stop.TheVariants as stops
use Rattle.java_syntax.specs.declared.symbols.Symbol.TheVariants as symbols
use Rattle.std.proofs.Common.{refl, sym, ◌∙◌, ap, subst}
use Rattle.java_syntax.specs.declared.symbols.Symbol.{Symbol}
use Rattle.java_syntax.specs.Derives.{Lexeme, Step}
use Rattle.java_syntax.specs.DeclarationTrees.{UnitTree}
use Rattle.java_grammar.specs.Refusal.{IsDerivation}
use Rattle.java_values.specs.Values.{ValueTree, AUnit, AUnits}
use Rattle.java_values.specs.Values as kinds
use Rattle.java_values.specs.Kinds.{kind_of}
use Rattle.java_values.specs.Outcomes.{Outcome, Made, TooDeep, IsNoMisfit}
use Rattle.java_exprs.specs.Evaluation.{evaluate}
use Rattle.java_exprs.proofs.Sense.{whole, fine_meant, fine_kinds, alone}
use Rattle.java_parser.specs.FileTrees.{IsFileValues, IsFileStop, HasNoUnit, HasNoStub}

same_values : (s t : List ValueTree) → Made s ≡ Made t → s ≡ t
same_values s t h = cc

pub only_values : (stub : Bool) (symbol : Symbol) (tokens : List Lexeme) (steps : List Step) (values : List ValueTree)
    → ((es : List Step) → IsDerivation stub symbol tokens es → es ≡ steps) → evaluate 128 steps None [] ≡ Made values
    → (s : List ValueTree) → IsFileValues stub symbol tokens s → s ≡ values
only_values stub symbol tokens steps values one e s f =
    same_values s values (sym f.evaluated ∙ (ap (λ es. evaluate 128 es None []) (one f.steps f.derivation) ∙ e))

-- the same steps on an empty stack
pub on_none : (steps done : List Step) (start : List ValueTree) (o : Outcome (List ValueTree)) → steps ≡ done → start ≡ [] → evaluate 128 done None start ≡ o → evaluate 128 steps None [] ≡ o
on_none steps done start o p q e = ap (λ es. evaluate 128 es None []) p ∙ (ap (λ s. evaluate 128 done None s) (sym q) ∙ e)

unit_head : (a b : UnitTree) → AUnit a ∷ [] ≡ AUnit b ∷ [] → a ≡ b
unit_head a b h = cc

units_head : (a b : List UnitTree) → AUnits a ∷ [] ≡ AUnits b ∷ [] → a ≡ b
units_head a b h = cc

pub only_unit : (tokens : List Lexeme) (values : List ValueTree) (tree : UnitTree) → values ≡ AUnit tree ∷ [] → ((s : List ValueTree) → IsFileValues false symbols.CompilationUnit tokens s → s ≡ values)
    → (t : UnitTree) → IsFileValues false symbols.CompilationUnit tokens (AUnit t ∷ []) → t ≡ tree
only_unit tokens values tree seen one t f = unit_head t tree (one (AUnit t ∷ []) f ∙ seen)

pub only_units : (tokens : List Lexeme) (values : List ValueTree) (trees : List UnitTree) → values ≡ AUnits trees ∷ [] → ((s : List ValueTree) → IsFileValues true symbols.StubFile tokens s → s ≡ values)
    → (t : List UnitTree) → IsFileValues true symbols.StubFile tokens (AUnits t ∷ []) → t ≡ trees
only_units tokens values trees seen one t f = units_head t trees (one (AUnits t ∷ []) f ∙ seen)

-- the derivation of a file finds values of the right kinds
pub unit_meant : (tokens : List Lexeme) (steps : List Step) → IsDerivation false symbols.CompilationUnit tokens steps → IsNoMisfit (evaluate 128 steps None [])
unit_meant tokens steps d = fine_meant _ _ (whole 128 false symbols.CompilationUnit tokens steps [] d refl refl)

pub stub_meant : (tokens : List Lexeme) (steps : List Step) → IsDerivation true symbols.StubFile tokens steps → IsNoMisfit (evaluate 128 steps None [])
stub_meant tokens steps d = fine_meant _ _ (whole 128 true symbols.StubFile tokens steps [] d refl refl)

pub unit_kinds : (tokens : List Lexeme) (values : List ValueTree) → IsFileValues false symbols.CompilationUnit tokens values → map kind_of values ≡ kinds.unit ∷ []
unit_kinds tokens values f = fine_kinds _ _ values (whole 128 false symbols.CompilationUnit tokens f.steps [] f.derivation refl refl) f.evaluated

pub stub_kinds : (tokens : List Lexeme) (values : List ValueTree) → IsFileValues true symbols.StubFile tokens values → map kind_of values ≡ kinds.units ∷ []
stub_kinds tokens values f = fine_kinds _ _ values (whole 128 true symbols.StubFile tokens f.steps [] f.derivation refl refl) f.evaluated

-- the value that was taken off is the only one
shown : (k : kinds.Kind) (v : ValueTree) (s r : List ValueTree) → map kind_of s ≡ k ∷ [] → s ≡ v ∷ r → s ≡ v ∷ []
shown k v s r h e = e ∙ ap (λ y. v ∷ y) (alone k v s r h e)

pub shown_unit : (tokens : List Lexeme) (values rest : List ValueTree) (tree : UnitTree) → IsFileValues false symbols.CompilationUnit tokens values → values ≡ AUnit tree ∷ rest → values ≡ AUnit tree ∷ []
shown_unit tokens values rest tree f e = shown kinds.unit (AUnit tree) values rest (unit_kinds tokens values f) e

pub shown_units : (tokens : List Lexeme) (values rest : List ValueTree) (trees : List UnitTree) → IsFileValues true symbols.StubFile tokens values → values ≡ AUnits trees ∷ rest → values ≡ AUnits trees ∷ []
shown_units tokens values rest trees f e = shown kinds.units (AUnits trees) values rest (stub_kinds tokens values f) e

pub all_deep : (stub : Bool) (symbol : Symbol) (tokens : List Lexeme) (steps : List Step)
    → ((es : List Step) → IsDerivation stub symbol tokens es → es ≡ steps) → evaluate 128 steps None [] ≡ TooDeep
    → (es : List Step) → IsDerivation stub symbol tokens es → evaluate 128 es None [] ≡ TooDeep
all_deep stub symbol tokens steps one deep es d = ap (λ s. evaluate 128 s None []) (one es d) ∙ deep

deep_made : {A : Type 0} (o : Outcome A) (x : A) → o ≡ TooDeep → o ≡ Made x → ⊥
deep_made o x n s = cc

-- after a refusal no source file has the tokens
pub no_unit : (tokens : List Lexeme) (end : Pos) (stop : Stop) → IsFileStop false symbols.CompilationUnit tokens end stop → HasNoUnit tokens stop
no_unit tokens end (stops.Refused r) h = λ tree t.
    let w = h.wrong in
    w.wrong w.rest t.steps refl (subst (λ (ts : List Lexeme). IsDerivation false symbols.CompilationUnit ts t.steps) w.parts t.derivation)
no_unit tokens end (stops.TooMuch r) h = λ tree t.
    deep_made (evaluate 128 t.steps None []) _ (h.deep t.steps t.derivation) t.evaluated
no_unit tokens end stops.NoMemory h = h

pub no_unit_after : {A : Type 0} (r : Result A Stop) (read tokens : List Lexeme) (end : Pos) → read ≡ tokens
    → IfErr r (λ stop. IsFileStop false symbols.CompilationUnit read end stop) → IfErr r (λ stop. HasNoUnit tokens stop)
no_unit_after (Ok a) read tokens end e h = h
no_unit_after (Err stop) read tokens end e h = no_unit tokens end stop (subst (λ (ts : List Lexeme). IsFileStop false symbols.CompilationUnit ts end stop) e h)

-- after a refusal no stub file has the tokens
pub no_stub : (tokens : List Lexeme) (end : Pos) (stop : Stop) → IsFileStop true symbols.StubFile tokens end stop → HasNoStub tokens stop
no_stub tokens end (stops.Refused r) h = λ trees t.
    let w = h.wrong in
    w.wrong w.rest t.steps refl (subst (λ (ts : List Lexeme). IsDerivation true symbols.StubFile ts t.steps) w.parts t.derivation)
no_stub tokens end (stops.TooMuch r) h = λ trees t.
    deep_made (evaluate 128 t.steps None []) _ (h.deep t.steps t.derivation) t.evaluated
no_stub tokens end stops.NoMemory h = h

pub no_stub_after : {A : Type 0} (r : Result A Stop) (read tokens : List Lexeme) (end : Pos) → read ≡ tokens
    → IfErr r (λ stop. IsFileStop true symbols.StubFile read end stop) → IfErr r (λ stop. HasNoStub tokens stop)
no_stub_after (Ok a) read tokens end e h = h
no_stub_after (Err stop) read tokens end e h = no_stub tokens end stop (subst (λ (ts : List Lexeme). IsFileStop true symbols.StubFile ts end stop) e h)
