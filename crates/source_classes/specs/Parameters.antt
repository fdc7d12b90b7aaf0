-- The parameters of a method or constructor (JLS 8.4.1), which are the first variables of its body.
use Rattle.std.specs.Prelude.{ℕ, ◌+◌, Some, None, List, [], ◌∷◌, ◌++◌, length, map, zip}
use Rattle.rlc_base.specs.declared.faults.Refusal.{Refusal}
use Rattle.program_model.specs.declared.program.ParamSig.{ParamSig}
use Rattle.java_syntax.specs.declared.declaration_trees.Param.{Param}
use Rattle.java_syntax.specs.AnnotationTrees.{modifier_of}
use Rattle.java_typed_trees.specs.declared.scope.Local.{Local}
use Rattle.java_statement_rules.specs.DeclaredVariables.{double_cases, has_final, local_variable}

-- a parameter of this type, as the variable of the body with this number
abbrev pub parameter : ℕ → Param → ParamSig → Local
parameter n w x = local_variable n w.name.text (Some x.vtype) (has_final (map modifier_of w.modifiers.items)) None

-- parameters with their types, as variables that are in scope, where the first has the number `first`
abbrev pub parameters_from : ℕ → List (Param × ParamSig) → List Local
parameters_from first [] = []
parameters_from first (p ∷ ps) = parameter first p.0 p.1 ∷ parameters_from (first + 1) ps

abbrev pub parameters : List Param → List ParamSig → List Local
parameters ws xs = parameters_from 0 (zip ws xs)

-- a parameter of a name that one before it has, at its name (JLS 6.4)
abbrev pub cases_behind : List Local → List (Param × ParamSig) → List Refusal
cases_behind before [] = []
cases_behind before (p ∷ ps) = double_cases p.0.name.pos before p.0.name.text ++ cases_behind (before ++ parameter (length before) p.0 p.1 ∷ []) ps

abbrev pub parameters_cases : List Param → List ParamSig → List Refusal
parameters_cases ws xs = cases_behind [] (zip ws xs)
