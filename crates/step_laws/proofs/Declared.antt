-- What the statements of a valid body declare is no parameter of its method.
use Rattle.std.proofs.Common.{◌≡◌, ℕ, zero, suc, ◌+◌, ◌<◌, ◌≤◌, Bool, true, false, cond, nat_eq, Option, Some, None, List, [], ◌∷◌, ◌++◌, All, IsSomeAnd, count_by, flat_map, length, map, slice_get, refl, sym, ◌∙◌, subst, arith}
use Rattle.std.proofs.lemmas.Bool.{eqb-true}
use Rattle.std.proofs.lemmas.List.Elements.{All-head, All-tail}
use Rattle.std.proofs.lemmas.List.Sums.{sum_by-cons}
use Rattle.std.proofs.lemmas.Option.{slice_get_within}
use Rattle.program_model.specs.declared.kinds.BodyId.{BodyId}
use Rattle.program_model.specs.declared.kinds.StmtId.{StmtId}
use Rattle.program_model.specs.declared.program.Method.{Method}
use Rattle.program_model.specs.declared.program.Program.{Program}
use Rattle.program_model.specs.declared.tree.Body.{Body}
use Rattle.program_model.specs.declared.tree.CatchClause.{CatchClause}
use Rattle.program_model.specs.declared.tree.Resource.{Resource}
use Rattle.program_model.specs.declared.tree.StatementKind.{StatementKind}
use Rattle.program_model.specs.declared.tree.StatementKind.TheVariants as statements
use Rattle.program_model.specs.declared.tree.TStmt.{TStmt}
use Rattle.program_model.specs.declared.tree.TextPart.{TextPart}
use Rattle.program_model.specs.declared.tree.TextPart.TheVariants.{Statement, Variable}
use Rattle.program_model.specs.declared.tree.TryStatement.{TryStatement}
use Rattle.program_model.specs.Lookups.{method_at, optional, statement_at}
use Rattle.program_model.specs.TextOrder.{HasVariablesInOrder, IsCount, clause_parts, declared_variables, initial_parts, parts_at, text_parts, variables_of}
use Rattle.program_model.specs.Trees.{statements_in}
use Rattle.program_model.specs.Validity.{IsValidBody}

-- ---- numbers that are all another one

abbrev pub AreOther : ℕ → List ℕ → Type 0
AreOther v [] = Unit {0}
AreOther v (x ∷ xs) = (nat_eq x v ≡ false) × AreOther v xs

other_first : (v : ℕ) (xs ys : List ℕ) → AreOther v (xs ++ ys) → AreOther v xs
other_first v [] ys all = tt
other_first v (x ∷ xs) ys all = (all.0, other_first v xs ys all.1)

other_second : (v : ℕ) (xs ys : List ℕ) → AreOther v (xs ++ ys) → AreOther v ys
other_second v [] ys all = all
other_second v (x ∷ xs) ys all = other_second v xs ys all.1

differ : (v x : ℕ) → v < x → nat_eq x v ≡ false
differ v x less = by (nat_eq x v) refl
  where
    by : (b : Bool) → nat_eq x v ≡ b → b ≡ false
    by true is = absurd (let same = eqb-true x v is in omega (arith, less, same))
    by false is = refl

pub less_differs : (x v : ℕ) → x < v → nat_eq x v ≡ false
less_differs x v less = by (nat_eq x v) refl
  where
    by : (b : Bool) → nat_eq x v ≡ b → b ≡ false
    by true is = absurd (let same = eqb-true x v is in omega (arith, less, same))
    by false is = refl

-- a count that begins behind a number does not come to it
other_count : (v first end : ℕ) (xs : List ℕ) → v < first → IsCount first end xs → AreOther v xs
other_count v first end [] less count = tt
other_count v first end (x ∷ xs) less count =
    let later : v < first + 1 = omega (arith, less) in
    (subst (λ n. nat_eq n v ≡ false) (sym count.0) (differ v first less), other_count v (first + 1) end xs later count.1)

-- nor to its end
behind_count : (first end : ℕ) (xs : List ℕ) → IsCount first end xs → (first ≤ end) × AreOther end xs
behind_count first end [] count = (omega (arith, count), tt)
behind_count first end (x ∷ xs) count =
    let rest = behind_count (first + 1) end xs count.1 in
    let more : first + 1 ≤ end = rest.0 in
    let before : first < end = omega (arith, more) in
    (omega (arith, more), (subst (λ n. nat_eq n end ≡ false) (sym count.0) (less_differs first end before), rest.1))

-- ---- what holds of each statement of a list holds of one that stands in it

abbrev AllIds : (ℕ → Type 0) → List StmtId → Type 0
AllIds P [] = Unit {0}
AllIds P (s ∷ ss) = P s.0 × AllIds P ss

ids_both : (P : ℕ → Type 0) (xs ys : List StmtId) → AllIds P xs → AllIds P ys → AllIds P (xs ++ ys)
ids_both P [] ys first second = second
ids_both P (x ∷ xs) ys first second = (first.0, ids_both P xs ys first.1 second)

ids_of_table : (P : ℕ → Type 0) (xs : List TStmt) → ((i : ℕ) (y : TStmt) → slice_get xs i ≡ Some y → AllIds P (statements_in y.kind)) → AllIds P (flat_map (λ (s : TStmt). statements_in s.kind) xs)
ids_of_table P [] each = tt
ids_of_table P (y ∷ ys) each =
    ids_both P (statements_in y.kind) (flat_map (λ (s : TStmt). statements_in s.kind) ys) (each zero y refl) (ids_of_table P ys (λ i z at. each (suc i) z at))

once_there : (P : ℕ → Type 0) (k x n : ℕ) → P x → (n ≡ 1 → P k) → (b : Bool) → nat_eq x k ≡ b → cond b 1 0 + n ≡ 1 → P k
once_there P k x n here there true same once = subst P (eqb-true x k same) here
once_there P k x n here there false other once = there (let sum : 0 + n ≡ 1 = once in omega (arith, sum))

counted : (P : ℕ → Type 0) (k : ℕ) (xs : List StmtId) → AllIds P xs → count_by (λ j. nat_eq j k) (map (λ (s : StmtId). s.0) xs) ≡ 1 → P k
counted P k [] all once = absurd (let never : 0 ≡ 1 = once in omega (arith, never))
counted P k (x ∷ xs) all once =
    let rest : List ℕ = map (λ (s : StmtId). s.0) xs in
    once_there P k x.0 (count_by (λ j. nat_eq j k) rest) all.0 (counted P k xs all.1) (nat_eq x.0 k) refl (sym (sum_by-cons (λ j. cond (nat_eq j k) 1 0) x.0 rest) ∙ once)

-- ---- the parts of a statement that are variables are all another one

abbrev pub IsOtherPart : ℕ → TextPart → Type 0
IsOtherPart v (Variable x) = nat_eq x v ≡ false
IsOtherPart v (Statement s) = Unit {0}

abbrev pub AreOtherParts : ℕ → List TextPart → Type 0
AreOtherParts v [] = Unit {0}
AreOtherParts v (x ∷ xs) = IsOtherPart v x × AreOtherParts v xs

pub parts_first : (v : ℕ) (xs ys : List TextPart) → AreOtherParts v (xs ++ ys) → AreOtherParts v xs
parts_first v [] ys all = tt
parts_first v (x ∷ xs) ys all = (all.0, parts_first v xs ys all.1)

pub parts_second : (v : ℕ) (xs ys : List TextPart) → AreOtherParts v (xs ++ ys) → AreOtherParts v ys
parts_second v [] ys all = all
parts_second v (x ∷ xs) ys all = parts_second v xs ys all.1

-- the parts of a `try` that are resources, and those before its `finally`
abbrev pub resource_parts : TryStatement → List TextPart
resource_parts t = map (λ (r : Resource). Variable r.variable) t.resources.items

abbrev pub clause_parts_in : TryStatement → List TextPart
clause_parts_in t = Statement t.block ∷ flat_map clause_parts t.catches.items

abbrev pub final_parts : TryStatement → List TextPart
final_parts t = map Statement (optional t.finally)

abbrev numbered : ℕ → StmtId
numbered k = record { 0 = k }

module _ (b : Body) (v : ℕ) where
  -- the variables that each part and all within it declare, down to this depth, are other ones
  abbrev AreOtherWithin : ℕ → List TextPart → Type 0
  AreOtherWithin d [] = Unit {0}
  AreOtherWithin d (x ∷ xs) = AreOther v (variables_of d b x) × AreOtherWithin d xs

  abbrev AreOtherBlocks : ℕ → List StmtId → Type 0
  AreOtherBlocks d [] = Unit {0}
  AreOtherBlocks d (s ∷ ss) = AreOther v (variables_of d b (Statement s)) × AreOtherBlocks d ss

  -- the statement of this number is looked at so deep that all of it is seen
  abbrev IsSeen : ℕ → Type 0
  IsSeen k = (d : ℕ) × (k < d) × AreOther v (variables_of d b (Statement (numbered k)))

  each_part : (d : ℕ) (xs : List TextPart) → AreOther v (flat_map (variables_of d b) xs) → AreOtherWithin d xs
  each_part d [] all = tt
  each_part d (x ∷ xs) all =
      (other_first v (variables_of d b x) (flat_map (variables_of d b) xs) all, each_part d xs (other_second v (variables_of d b x) (flat_map (variables_of d b) xs) all))

  within_first : (d : ℕ) (xs ys : List TextPart) → AreOtherWithin d (xs ++ ys) → AreOtherWithin d xs
  within_first d [] ys all = tt
  within_first d (x ∷ xs) ys all = (all.0, within_first d xs ys all.1)

  within_second : (d : ℕ) (xs ys : List TextPart) → AreOtherWithin d (xs ++ ys) → AreOtherWithin d ys
  within_second d [] ys all = all
  within_second d (x ∷ xs) ys all = within_second d xs ys all.1

  own_variable : (d x : ℕ) → AreOther v (variables_of d b (Variable x)) → nat_eq x v ≡ false
  own_variable zero x all = all.0
  own_variable (suc d) x all = all.0

  own_parts : (d : ℕ) (xs : List TextPart) → AreOtherWithin d xs → AreOtherParts v xs
  own_parts d [] all = tt
  own_parts d (Variable x ∷ xs) all = (own_variable d x all.0, own_parts d xs all.1)
  own_parts d (Statement s ∷ xs) all = (tt, own_parts d xs all.1)

  -- ---- the statements in a statement

  plain_blocks : (d : ℕ) (ss : List StmtId) → AreOtherWithin d (map Statement ss) → AreOtherBlocks d ss
  plain_blocks d [] all = tt
  plain_blocks d (s ∷ ss) all = (all.0, plain_blocks d ss all.1)

  clause_blocks : (d : ℕ) (cs : List CatchClause) → AreOtherWithin d (flat_map clause_parts cs) → AreOtherBlocks d (map (λ (c : CatchClause). c.block) cs)
  clause_blocks d [] all = tt
  clause_blocks d (c ∷ cs) all = (all.1.0, clause_blocks d cs all.1.1)

  blocks_both : (d : ℕ) (xs ys : List StmtId) → AreOtherBlocks d xs → AreOtherBlocks d ys → AreOtherBlocks d (xs ++ ys)
  blocks_both d [] ys first second = second
  blocks_both d (x ∷ xs) ys first second = (first.0, blocks_both d xs ys first.1 second)

  blocks : (d : ℕ) (k : StatementKind) → AreOtherWithin d (text_parts k) → AreOtherBlocks d (statements_in k)
  blocks d (statements.Block ss end) all = plain_blocks d ss.items all
  blocks d (statements.LocalDeclaration names) all = tt
  blocks d (statements.For l) all = within_second d (initial_parts l.initial) (Statement l.body ∷ []) all
  blocks d (statements.Try t) all =
      let clauses = within_second d (resource_parts t) (clause_parts_in t) (within_first d (resource_parts t ++ clause_parts_in t) (final_parts t) all) in (
        clauses.0,
        blocks_both d (map (λ (c : CatchClause). c.block) t.catches.items) (optional t.finally)
            (clause_blocks d t.catches.items clauses.1) (plain_blocks d (optional t.finally) (within_second d (resource_parts t ++ clause_parts_in t) (final_parts t) all)),
      )
  blocks d k all = plain_blocks d (statements_in k) all

  -- ---- each statement stands in the body

  roots : (k : ℕ) (ss : List StmtId) → k < length b.statements.items → AreOtherWithin (length b.statements.items) (map Statement ss) → AllIds (λ j. j ≡ k → IsSeen k) ss
  roots k [] below all = tt
  roots k (s ∷ ss) below all = (
    (λ (same : s.0 ≡ k). (length b.statements.items, below, subst (λ j. AreOther v (variables_of (length b.statements.items) b (Statement (numbered j)))) same all.0)),
    roots k ss below all.1,
  )

  children : (k t : ℕ) (ss : List StmtId) → All (λ c. c.0 < t) ss → (k < t → (d : ℕ) × (k < d) × AreOtherBlocks d ss) → AllIds (λ j. j ≡ k → IsSeen k) ss
  children k t [] lower given = tt
  children k t (s ∷ ss) lower given =
      ((λ (same : s.0 ≡ k). here same (given (subst (λ j. j < t) same (All-head (λ c. c.0 < t) s ss lower)))), children k t ss (All-tail (λ c. c.0 < t) s ss lower) (λ less. further (given less)))
    where
      here : s.0 ≡ k → (d : ℕ) × (k < d) × AreOtherBlocks d (s ∷ ss) → IsSeen k
      here same all = (all.0, all.1, subst (λ j. AreOther v (variables_of all.0 b (Statement (numbered j)))) same all.2.0)

      further : (d : ℕ) × (k < d) × AreOtherBlocks d (s ∷ ss) → (d : ℕ) × (k < d) × AreOtherBlocks d ss
      further all = (all.0, all.1, all.2.1)

  -- one depth further down
  below_parent : (k t d : ℕ) (y : TStmt) → statement_at b (numbered t) ≡ Some y → k < t → t < d → AreOther v (variables_of d b (Statement (numbered t)))
      → (e : ℕ) × (k < e) × AreOtherWithin e (text_parts y.kind)
  below_parent k t zero y at less deep all = absurd (omega (arith, deep))
  below_parent k t (suc d) y at less deep all =
      (d, omega (arith, less, deep), each_part d (text_parts y.kind) (subst (λ (o : Option TStmt). AreOther v (flat_map (variables_of d b) (parts_at o))) at all))

  module _ (p : Program) (n : BodyId) (valid : IsValidBody p n b) (roots_are : AreOtherWithin (length b.statements.items) (map Statement b.stmts.items)) where
    seen : (fuel k : ℕ) → length b.statements.items ≤ k + fuel → k < length b.statements.items → IsSeen k
    seen zero k past below = absurd (omega (arith, past, below))
    seen (suc fuel) k past below =
        counted (λ j. j ≡ k → IsSeen k) k (b.stmts.items ++ flat_map (λ (s : TStmt). statements_in s.kind) b.statements.items)
        (ids_both (λ j. j ≡ k → IsSeen k) b.stmts.items (flat_map (λ (s : TStmt). statements_in s.kind) b.statements.items)
        (roots k b.stmts.items below roots_are)
        (ids_of_table (λ j. j ≡ k → IsSeen k) b.statements.items
        (λ t y at. children k t (statements_in y.kind) (valid.statements (numbered t) y at).parts.0 (λ less. of_parent t y at less
        (seen fuel t (omega (arith, past, less)) (slice_get_within b.statements.items t y at))))))
        (valid.forest.one_block k below) refl
      where
        of_parent : (t : ℕ) (y : TStmt) → statement_at b (numbered t) ≡ Some y → k < t → IsSeen t → (d : ℕ) × (k < d) × AreOtherBlocks d (statements_in y.kind)
        of_parent t y at less above =
            let inside = below_parent k t above.0 y at less above.1 above.2 in
            (inside.0, inside.1, blocks inside.0 y.kind inside.2)

    declares_others : (s : StmtId) (y : TStmt) → statement_at b s ≡ Some y → AreOtherParts v (text_parts y.kind)
    declares_others s y at =
        let within : s.0 < length b.statements.items = slice_get_within b.statements.items s.0 y at in
        let above = seen (length b.statements.items) s.0 (omega (arith, within)) within in
        parts_of above.0 above.1 above.2
      where
        parts_of : (d : ℕ) → s.0 < d → AreOther v (variables_of d b (Statement s)) → AreOtherParts v (text_parts y.kind)
        parts_of zero deep all = absurd (omega (arith, deep))
        parts_of (suc d) deep all = own_parts d (text_parts y.kind) (each_part d (text_parts y.kind) (subst (λ (o : Option TStmt). AreOther v (flat_map (variables_of d b) (parts_at o))) at all))

-- no statement of a valid body declares a parameter of its method
pub declared_elsewhere : (p : Program) (n : BodyId) (b : Body) (m : Method) (v : ℕ) → IsValidBody p n b → HasVariablesInOrder p b → method_at p b.method ≡ Some m → v < length m.sig.params.items
    → (s : StmtId) (y : TStmt) → statement_at b s ≡ Some y → AreOtherParts v (text_parts y.kind)
declared_elsewhere p n b m v valid ordered of parameter s y at =
    let count = subst (λ (o : Option Method). IsSomeAnd o (λ x. IsCount (length x.sig.params.items) (length b.vars.items) (declared_variables b))) of ordered in
    let all = other_count v (length m.sig.params.items) (length b.vars.items) (declared_variables b) parameter count in
    declares_others b v p n valid (each_part b v (length b.statements.items) (map Statement b.stmts.items) all) s y at

-- the statements of a valid body declare variables of that body
pub declared_in_body : (p : Program) (n : BodyId) (b : Body) → IsValidBody p n b → HasVariablesInOrder p b → (s : StmtId) (y : TStmt) → statement_at b s ≡ Some y
    → AreOtherParts (length b.vars.items) (text_parts y.kind)
declared_in_body p n b valid ordered = go (method_at p b.method) ordered
  where
    go : (o : Option Method) → IsSomeAnd o (λ x. IsCount (length x.sig.params.items) (length b.vars.items) (declared_variables b)) → (s : StmtId) (y : TStmt) → statement_at b s ≡ Some y
        → AreOtherParts (length b.vars.items) (text_parts y.kind)
    go None has s y at = absurd has
    go (Some m) has s y at =
        let count = behind_count (length m.sig.params.items) (length b.vars.items) (declared_variables b) has in
        declares_others b (length b.vars.items) p n valid (each_part b (length b.vars.items) (length b.statements.items) (map Statement b.stmts.items) count.1) s y at
