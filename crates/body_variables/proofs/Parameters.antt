-- The end of the parameters.
use Rattle.std.proofs.Common.{◌≡◌, ◌∙◌, sym, ap, refl, arith, ℕ, min, List, [], ◌∷◌, ◌++◌, length, drop, append-nil, zero, suc}
use Rattle.std.proofs.lemmas.List.{drop_all}
use Rattle.program_model.specs.declared.program.ParamSig.{ParamSig}
use Rattle.java_syntax.specs.declared.declaration_trees.Param.{Param}
use Rattle.body_variables.specs.BodyVariables.{parameter_variables}
use Rattle.body_variables.specs.Declarations.{BodyVariable}

none_behind : (ws : List Param) (xs : List ParamSig) (n : ℕ) → n ≡ min (length ws) (length xs) → parameter_variables (drop n ws) (drop n xs) ≡ []
none_behind [] xs n is = ap (λ rest. parameter_variables rest (drop n xs)) (drop_all n [] (omega arith))
none_behind (w ∷ ws) [] n is = ap (parameter_variables (drop n (w ∷ ws))) (drop_all n [] (omega arith)) ∙ none_of_none (drop n (w ∷ ws))
  where
    none_of_none : (left : List Param) → parameter_variables left [] ≡ []
    none_of_none [] = refl
    none_of_none (v ∷ vs) = refl
none_behind (w ∷ ws) (x ∷ xs) zero is = absurd (omega (arith, is))
none_behind (w ∷ ws) (x ∷ xs) (suc n) is = none_behind ws xs n (omega (arith, is))

pub parameters_end : (ws : List Param) (xs : List ParamSig) (n : ℕ) (made all : List BodyVariable) → made ++ parameter_variables (drop n ws) (drop n xs) ≡ all → n ≡ min (length ws) (length xs) → made ≡ all
parameters_end ws xs n made all is end = sym (append-nil made) ∙ ap (λ rest. made ++ rest) (sym (none_behind ws xs n end)) ∙ is
