-- Trees that stand in the table of a body are its expressions as parts.
use Rattle.std.proofs.Common.{◌≡◌, ◌∙◌, List, Option, Some, None, [], ◌∷◌, map, option_map, refl, sym, ap}
use Rattle.std.proofs.lemmas.Option.{slice_get-map}
use Rattle.program_model.specs.declared.kinds.ExprId.{ExprId}
use Rattle.program_model.specs.declared.tree.Body.{Body}
use Rattle.program_model.specs.declared.tree.TExpr.{TExpr}
use Rattle.program_model.specs.Lookups.{expression_at}
use Rattle.java_typed_trees.specs.ExpressionTrees.{ExprTree, ExprTrees, Node, and_expression, no_expression}
use Rattle.java_laying.specs.Cells.{Cell, cell_of, cells_of}
use Rattle.java_laying.specs.Forest.{StandAt, StandsAt}
use Rattle.java_typing_laws.specs.TypedTrees.{Part, first_is_this, first_type, part_of, parts_in}
use Rattle.java_typing_laws.proofs.Conversions.{none_is_some, same_in}
use Rattle.java_typing_laws.proofs.TypedKinds.{first_this_at, first_type_at, part_at, part_from}

-- a cell of the table as a part
abbrev of_cell : Body → Cell → Part
of_cell b k = record { shape = k.shape; vtype = k.vtype; of_this = first_this_at b k.parts; of_type = first_type_at b k.parts }

abbrev over : Cell → List Part → Part
over k xs = record { shape = k.shape; vtype = k.vtype; of_this = first_is_this xs; of_type = first_type xs }

over_numbers : (b : Body) (k : Cell) (ids : List ExprId) → k.parts ≡ ids → over k (map (part_at b) ids) ≡ of_cell b k
over_numbers b k ids is = by ids ∙ ap (λ (js : List ExprId). let z : Part = record { shape = k.shape; vtype = k.vtype; of_this = first_this_at b js; of_type = first_type_at b js } in z) (sym is)
  where
    by : (js : List ExprId) → ◌≡◌ {A = Part} (over k (map (part_at b) js)) (record { shape = k.shape; vtype = k.vtype; of_this = first_this_at b js; of_type = first_type_at b js })
    by [] = refl
    by (j ∷ js) = refl

known_part : (b : Body) (k : Cell) (o : Option TExpr) → option_map cell_of o ≡ Some k → of_cell b k ≡ part_from b o
known_part b k None e = absurd (none_is_some k e)
known_part b k (Some x) e = ap (of_cell b) (sym (same_in (cell_of x) k e))

mutual
  part_stands : (b : Body) (e : ExprId) (t : ExprTree) → StandsAt (cells_of b.expressions.items) e t → part_of t ≡ part_at b e
  part_stands b e (Node s v p ts) (ids, here, stand) =
      let k : Cell = record { shape = s; vtype = v; pos = p; parts = ids } in
      let found : option_map cell_of (expression_at b e) ≡ Some k = sym (slice_get-map cell_of b.expressions.items e.0) ∙ here in
      ap (over k) (parts_stand b ids ts stand) ∙ over_numbers b k ids refl ∙ known_part b k (expression_at b e) found

  pub parts_stand : (b : Body) (ids : List ExprId) (ts : ExprTrees) → StandAt (cells_of b.expressions.items) ids ts → parts_in ts ≡ map (part_at b) ids
  parts_stand b ids no_expression e = ap (λ (js : List ExprId). map (part_at b) js) (sym e)
  parts_stand b ids (and_expression t ts) (first, more, e, one, rest) =
      ap (λ (x : Part). x ∷ parts_in ts) (part_stands b first t one)
      ∙ ap (λ (xs : List Part). part_at b first ∷ xs) (parts_stand b more ts rest)
      ∙ ap (λ (js : List ExprId). map (part_at b) js) (sym e)
