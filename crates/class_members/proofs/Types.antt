-- Two lists of parameters have the same types exactly where they are as long, and those at each place have one type.
use Rattle.std.proofs.Common.{◌≡◌, List, [], ◌∷◌, ◌&&◌, nat_eq, length, zip, refl, arith}
use Rattle.std.specs.List.{list_all}
use Rattle.std.proofs.lemmas.Grind.{common_steps}
use Rattle.program_model.specs.declared.program.ParamSig.{ParamSig}
use Rattle.program_model.specs.Overrides.{are_types, is_type}

pub types_by_pairs : (xs ys : List ParamSig) → are_types xs ys ≡ (nat_eq (length xs) (length ys) && list_all (λ x. is_type x.0.vtype x.1.vtype) (zip xs ys))
types_by_pairs [] [] = refl
types_by_pairs [] (y ∷ ys) = grind (arith, common_steps)
types_by_pairs (x ∷ xs) [] = grind (arith, common_steps)
types_by_pairs (x ∷ xs) (y ∷ ys) = grind (arith, common_steps, types_by_pairs xs ys)
