-- Each cell of laid typed trees has parts of which its type is that of its shape.
use Rattle.std.proofs.Common.{◌≡◌, ◌∙◌, ◌+◌, ◌++◌, ◌∷◌, [], ℕ, zero, suc, List, Option, Some, None, All, map, length, slice_get, option_map, refl, sym, subst, ap}
use Rattle.std.proofs.lemmas.List.{append-nil, length-append}
use Rattle.std.proofs.lemmas.List.Elements.{All-append, All-cons, All-head, All-nil, All-tail}
use Rattle.std.proofs.lemmas.Option.{slice_get-map}
use Rattle.program_model.specs.declared.kinds.ExprId.{ExprId}
use Rattle.program_model.specs.declared.program.ParamSig.{ParamSig}
use Rattle.program_model.specs.declared.program.Program.{Program}
use Rattle.program_model.specs.declared.tree.Body.{Body}
use Rattle.program_model.specs.declared.tree.TExpr.{TExpr}
use Rattle.program_model.specs.Lookups.{expression_at, type_at}
use Rattle.program_model.specs.Trees.{operands}
use Rattle.program_model.specs.Typing.{IsTypedExpression}
use Rattle.java_typed_trees.specs.ExpressionTrees.{ExprTree, ExprTrees, Node, and_expression, no_expression}
use Rattle.java_typed_trees.specs.StatementTrees.{StmtTree, StmtTrees, Statement, no_statement, and_statement}
use Rattle.java_laying.specs.Bodies.{IsLaid}
use Rattle.java_laying.specs.Cells.{Cell, cell_of, cells_of, shape_of}
use Rattle.java_laying.specs.Flat.{flat, flats, roots, size, sizes}
use Rattle.java_laying.specs.Forest.{StandAt, StandsAt}
use Rattle.java_laying.specs.StatementFlat.{expression_count, flat_expressions, flats_expressions}
use Rattle.java_laying.proofs.Forests.{laid_stand, length_flat, length_flats}
use Rattle.java_laying.proofs.Joins.{first_inside, inside, more_inside}
use Rattle.java_laying.proofs.StatementForests.{length_flat_expressions}
use Rattle.java_typing_laws.specs.LaidParts.{AreTypedArguments}
use Rattle.java_typing_laws.specs.StatementExpressions.{HasTypedTrees, HaveTypedTrees}
use Rattle.java_typing_laws.specs.TypedTrees.{AreArguments, AreTypedTrees, IsTypedNode, IsTypedTree, Part, first_is_this, first_type, part_of, parts_in}
use Rattle.java_typing_laws.specs.TypingContexts.{IsBodyIn, TypingContext}
use Rattle.java_typing_laws.proofs.Conversions.{none_is_some, same_in}
use Rattle.java_typing_laws.proofs.TypedKinds.{arguments_law, first_this_at, first_type_at, node_law, part_at, part_from}

-- ---- laid cells

-- parts stand at the numbers of the cell, and its type is that of its shape over them
pub record IsTypedCell (c : TypingContext) (cells : List Cell) (x : Cell) : Type 0 where
  pub parts : ExprTrees
  pub stand : StandAt cells x.parts parts
  pub typed : IsTypedNode c x.shape x.vtype (parts_in parts)

longer : {X : Type 0} (before xs : List X) (n m : ℕ) → length before ≡ n → length xs ≡ m → length (before ++ xs) ≡ n + m
longer before xs n m e d = length-append before xs ∙ ap (λ k. k + length xs) e ∙ ap (λ k. n + k) d

along : (c : TypingContext) (xs ys : List Cell) (those : List Cell) → xs ≡ ys → All (IsTypedCell c xs) those → All (IsTypedCell c ys) those
along c xs ys those e h = subst (λ (cells : List Cell). All (IsTypedCell c cells) those) e h

mutual
  flat_typed : (c : TypingContext) (n : ℕ) (before after : List Cell) (t : ExprTree) → length before ≡ n → IsTypedTree c t → All (IsTypedCell c (before ++ flat n t ++ after)) (flat n t)
  flat_typed c n before after (Node s v p ts) e h =
      let x : Cell = record { shape = s; vtype = v; pos = p; parts = roots n ts } in
      let whole : List Cell = before ++ (flats n ts ++ x ∷ []) ++ after in
      let same : before ++ flats n ts ++ (x ∷ after) ≡ whole = inside before (flats n ts) after x in
      let stand : StandAt whole (roots n ts) ts = subst (λ (cells : List Cell). StandAt cells (roots n ts) ts) same (laid_stand n before (x ∷ after) ts e) in
      All-append (IsTypedCell c whole) (flats n ts) (x ∷ [])
      (along c _ whole (flats n ts) same (flats_typed c n before (x ∷ after) ts e h.1))
      (All-cons (IsTypedCell c whole) x [] (record { parts = ts; stand = stand; typed = h.0 }) (All-nil (IsTypedCell c whole)))

  flats_typed : (c : TypingContext) (n : ℕ) (before after : List Cell) (ts : ExprTrees) → length before ≡ n → AreTypedTrees c ts → All (IsTypedCell c (before ++ flats n ts ++ after)) (flats n ts)
  flats_typed c n before after no_expression e h = All-nil (IsTypedCell c (before ++ [] ++ after))
  flats_typed c n before after (and_expression t ts) e h =
      let rest : List Cell = flats (n + size t) ts in
      let whole : List Cell = before ++ (flat n t ++ rest) ++ after in
      All-append (IsTypedCell c whole) (flat n t) rest
      (along c _ whole (flat n t) (first_inside before (flat n t) rest after) (flat_typed c n before (rest ++ after) t e h.0))
      (along c _ whole rest (more_inside before (flat n t) rest after) (flats_typed c (n + size t) (before ++ flat n t) after ts (longer before (flat n t) n (size t) e (length_flat n t)) h.1))

mutual
  statement_typed : (c : TypingContext) (n : ℕ) (before after : List Cell) (t : StmtTree) → length before ≡ n → HasTypedTrees c t → All (IsTypedCell c (before ++ flat_expressions n t ++ after)) (flat_expressions n t)
  statement_typed c n before after (Statement f p es ss) e h =
      let rest : List Cell = flats_expressions (n + sizes es) ss in
      let whole : List Cell = before ++ (flats n es ++ rest) ++ after in
      All-append (IsTypedCell c whole) (flats n es) rest
      (along c _ whole (flats n es) (first_inside before (flats n es) rest after) (flats_typed c n before (rest ++ after) es e h.0))
      (along c _ whole rest (more_inside before (flats n es) rest after) (statements_typed c (n + sizes es) (before ++ flats n es) after ss (longer before (flats n es) n (sizes es) e (length_flats n es)) h.1))

  statements_typed : (c : TypingContext) (n : ℕ) (before after : List Cell) (ts : StmtTrees) → length before ≡ n → HaveTypedTrees c ts → All (IsTypedCell c (before ++ flats_expressions n ts ++ after)) (flats_expressions n ts)
  statements_typed c n before after no_statement e h = All-nil (IsTypedCell c (before ++ [] ++ after))
  statements_typed c n before after (and_statement t ts) e h =
      let rest : List Cell = flats_expressions (n + expression_count t) ts in
      let whole : List Cell = before ++ (flat_expressions n t ++ rest) ++ after in
      All-append (IsTypedCell c whole) (flat_expressions n t) rest
      (along c _ whole (flat_expressions n t) (first_inside before (flat_expressions n t) rest after) (statement_typed c n before (rest ++ after) t e h.0))
      (along c _ whole rest (more_inside before (flat_expressions n t) rest after) (statements_typed c (n + expression_count t) (before ++ flat_expressions n t) after ts (longer before (flat_expressions n t) n (expression_count t) e (length_flat_expressions n t)) h.1))

-- ---- parts that stand in the table of a body

abbrev of_cell : Body → Cell → Part
of_cell b k = record { shape = k.shape; vtype = k.vtype; of_this = first_this_at b k.parts; of_type = first_type_at b k.parts }

first_law : (b : Body) (k : Cell) (ids : List ExprId) → k.parts ≡ ids → (xs : List Part) → xs ≡ map (part_at b) ids → ◌≡◌ {A = Part} (record { shape = k.shape; vtype = k.vtype; of_this = first_is_this xs; of_type = first_type xs }) (of_cell b k)
first_law b k ids is xs e =
    ap (λ (ys : List Part). let z : Part = record { shape = k.shape; vtype = k.vtype; of_this = first_is_this ys; of_type = first_type ys } in z) e
    ∙ by ids
    ∙ ap (λ (js : List ExprId). let z : Part = record { shape = k.shape; vtype = k.vtype; of_this = first_this_at b js; of_type = first_type_at b js } in z) (sym is)
  where
    by : (js : List ExprId) → ◌≡◌ {A = Part} (record { shape = k.shape; vtype = k.vtype; of_this = first_is_this (map (part_at b) js); of_type = first_type (map (part_at b) js) }) (record { shape = k.shape; vtype = k.vtype; of_this = first_this_at b js; of_type = first_type_at b js })
    by [] = refl
    by (j ∷ js) = refl

known_part : (b : Body) (k : Cell) (o : Option TExpr) → option_map cell_of o ≡ Some k → of_cell b k ≡ part_from b o
known_part b k None e = absurd (none_is_some k e)
known_part b k (Some x) e = ap (of_cell b) (sym (same_in (cell_of x) k e))

mutual
  part_stands : (b : Body) (e : ExprId) (t : ExprTree) → StandsAt (cells_of b.expressions.items) e t → part_of t ≡ part_at b e
  part_stands b e (Node s v p ts) (ids, here, stand) =
      let k : Cell = record { shape = s; vtype = v; pos = p; parts = ids } in
      let found : option_map cell_of (expression_at b e) ≡ Some k = sym (slice_get-map cell_of b.expressions.items e.0) ∙ here in
      first_law b k ids refl (parts_in ts) (parts_stand b ids ts stand) ∙ known_part b k (expression_at b e) found

  parts_stand : (b : Body) (ids : List ExprId) (ts : ExprTrees) → StandAt (cells_of b.expressions.items) ids ts → parts_in ts ≡ map (part_at b) ids
  parts_stand b ids no_expression e = ap (λ (js : List ExprId). map (part_at b) js) (sym e)
  parts_stand b ids (and_expression t ts) (first, more, e, one, rest) =
      ap (λ (x : Part). x ∷ parts_in ts) (part_stands b first t one)
      ∙ ap (λ (xs : List Part). part_at b first ∷ xs) (parts_stand b more ts rest)
      ∙ ap (λ (js : List ExprId). map (part_at b) js) (sym e)

-- ---- the expressions of the body

all_at : {X : Type 0} (P : X → Type 0) (xs : List X) (k : ℕ) (x : X) → All P xs → slice_get xs k ≡ Some x → P x
all_at P [] k x all e = absurd (none_is_some x e)
all_at P (y ∷ ys) zero x all e = subst P (same_in y x e) (All-head P y ys all)
all_at P (y ∷ ys) (suc k) x all e = all_at P ys k x (All-tail P y ys all) e

cell_typed : (c : TypingContext) (b : Body) (x : TExpr) → IsBodyIn c b → IsTypedCell c (cells_of b.expressions.items) (cell_of x) → IsTypedExpression c.program b x
cell_typed c b x is h = node_law c b is x.kind x.vtype (subst (λ (parts : List Part). IsTypedNode c (shape_of x.kind) x.vtype parts) (parts_stand b (operands x.kind) h.parts h.stand) h.typed)

pub laid_is_typed : (c : TypingContext) (b : Body) (ts : StmtTrees) → IsBodyIn c b → IsLaid b ts → HaveTypedTrees c ts → (e : ExprId) (x : TExpr) → expression_at b e ≡ Some x → IsTypedExpression c.program b x
laid_is_typed c b ts is laid typed e x found =
    let table : List Cell = cells_of b.expressions.items in
    let all : All (IsTypedCell c (flats_expressions 0 ts)) (flats_expressions 0 ts) = along c ([] ++ flats_expressions 0 ts ++ []) (flats_expressions 0 ts) (flats_expressions 0 ts) (append-nil (flats_expressions 0 ts)) (statements_typed c 0 [] [] ts refl typed) in
    let cells : All (IsTypedCell c table) table = subst (λ (cs : List Cell). All (IsTypedCell c cs) cs) (sym laid.expressions) all in
    let there : slice_get table e.0 ≡ Some (cell_of x) = slice_get-map cell_of b.expressions.items e.0 ∙ ap (λ (o : Option TExpr). option_map cell_of o) found in
    cell_typed c b x is (all_at (IsTypedCell c table) table e.0 (cell_of x) cells there)

pub type_is_kept : (b : Body) (e : ExprId) (t : ExprTree) → StandsAt (cells_of b.expressions.items) e t → type_at b e ≡ (part_of t).vtype
type_is_kept b e t stand = ap (λ (x : Part). x.vtype) (sym (part_stands b e t stand))

pub arguments_fit : (p : Program) (b : Body) (es : List ExprId) (ts : ExprTrees) (params : List ParamSig) → StandAt (cells_of b.expressions.items) es ts → AreArguments p (parts_in ts) params → AreTypedArguments p b es params
arguments_fit p b es ts params stand fit = arguments_law p b es params (subst (λ (parts : List Part). AreArguments p parts params) (parts_stand b es ts stand) fit)
