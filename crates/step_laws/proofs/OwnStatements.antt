-- A super call is one of the body's own statements: it is a child of no other.
use Rattle.std.specs.List.{count_by, filter, flat_map}
use Rattle.std.proofs.Common.{◌≡◌, ◌∙◌, ℕ, zero, suc, ◌<◌, arith, eqb-true, true≢false, true, false, Some, IsSomeAnd, List, [], ◌∷◌, ◌++◌, Contains, length, map, slice_get, refl, sym, ap, subst, inl, inr}
use Rattle.std.specs.Prelude.{nat_eq}
use Rattle.std.proofs.lemmas.List.Elements.{All-contains, Contains-append_cases}
use Rattle.std.proofs.lemmas.List.Sums.{length-filter}
use Rattle.std.proofs.lemmas.Option.{slice_get_within}
use Rattle.program_model.specs.declared.kinds.BodyId.{BodyId}
use Rattle.program_model.specs.declared.kinds.MethodId.{MethodId}
use Rattle.program_model.specs.declared.kinds.StmtId.{StmtId}
use Rattle.program_model.specs.declared.program.Program.{Program}
use Rattle.program_model.specs.declared.tree.Body.{Body}
use Rattle.program_model.specs.declared.tree.StatementKind.{StatementKind}
use Rattle.program_model.specs.declared.tree.StatementKind.TheVariants as statements
use Rattle.program_model.specs.declared.tree.TStmt.{TStmt}
use Rattle.program_model.specs.Heads.{is_head, is_head_kind, is_in}
use Rattle.program_model.specs.Lookups.{statement_at}
use Rattle.program_model.specs.Trees.{statements_in}
use Rattle.program_model.specs.Validity.{IsValidBody}
use Rattle.accepted_programs.proofs.Elements.{contains-cases, contains-first, contains-later, contains-none, filter-among, gathered-among}
use Rattle.step_laws.specs.Constructors.{IsCallOf}

-- ---- lists

numbers_from : (xs : List StmtId) (k : ℕ) → Contains (map (λ (s : StmtId). s.0) xs) k → (t : StmtId) × Contains xs t × (t.0 ≡ k)
numbers_from [] k has = absurd (contains-none k has)
numbers_from (x ∷ xs) k has = elim (contains-cases x.0 (map (λ (s : StmtId). s.0) xs) k has) [
  | inl same ↦ (x, contains-first x xs, same)
  | inr later ↦ (let found = numbers_from xs k later in (found.0, contains-later x xs found.0 found.1, found.2))
]

some_element : (xs : List ℕ) → 0 < length xs → (x : ℕ) × Contains xs x
some_element [] some = absurd (omega (arith, some))
some_element (x ∷ xs) some = (x, contains-first x xs)

-- a number that is counted stands in the list
counted : (xs : List StmtId) (k : ℕ) → count_by (λ j. nat_eq j k) (map (λ (s : StmtId). s.0) xs) ≡ 1 → (t : StmtId) × Contains xs t × (t.0 ≡ k)
counted xs k once =
    let numbers : List ℕ = map (λ (s : StmtId). s.0) xs in
    let long : length (filter (λ j. nat_eq j k) numbers) ≡ 1 = length-filter (λ j. nat_eq j k) numbers ∙ once in
    let first = some_element (filter (λ j. nat_eq j k) numbers) (omega (arith, long)) in
    let kept = filter-among (λ j. nat_eq j k) numbers first.0 first.1 in
    let found = numbers_from xs first.0 kept.0 in
    (found.0, found.1, found.2 ∙ eqb-true first.0 k kept.1)

numbered : (xs : List TStmt) (x : TStmt) → Contains xs x → (n : ℕ) × (slice_get xs n ≡ Some x)
numbered [] x has = absurd (contains-none x has)
numbered (y ∷ ys) x has = elim (contains-cases y ys x has) [
  | inl same ↦ (zero, ap Some same)
  | inr later ↦ (let found = numbered ys x later in (suc found.0, found.1))
]

one_statement : (s t : StmtId) → t.0 ≡ s.0 → t ≡ s
one_statement s t same = λ i. record { 0 = same i }

head_of_call : (m : MethodId) (k : StatementKind) → IsCallOf m k → is_head_kind k ≡ true
head_of_call m (statements.SuperCall c) is = refl
head_of_call m (statements.Block ss end) is = absurd is
head_of_call m k is = absurd is

module _ (p : Program) (n : BodyId) (b : Body) (valid : IsValidBody p n b) (s : StmtId) (x : TStmt) (at : statement_at b s ≡ Some x) where
  -- a head stands in no other statement
  not_nested : (t : StmtId) → t ≡ s → is_head_kind x.kind ≡ true → Contains (flat_map (λ (y : TStmt). statements_in y.kind) b.statements.items) t → ⊥
  not_nested t same head inside =
      let from = gathered-among (λ (y : TStmt). statements_in y.kind) b.statements.items t inside in
      let place = numbered b.statements.items from.0 from.1 in
      let parent : StmtId = record { 0 = place.0 } in
      let none : is_head b t ≡ false = All-contains (λ (u : StmtId). is_head b u ≡ false) (statements_in from.0.kind) t (valid.statements parent from.0 place.1).headless from.2 in
      let is : is_head b t ≡ true = ap (is_head b) same ∙ ap (is_in is_head_kind) at ∙ head in
      true≢false (sym is ∙ none)

  pub super_is_own : (m : MethodId) → IsCallOf m x.kind → (t : StmtId) × Contains b.stmts.items t × IsSomeAnd (statement_at b t) (λ y. IsCallOf m y.kind)
  super_is_own m calls =
      let small : s.0 < length b.statements.items = slice_get_within b.statements.items s.0 x at in
      let once = valid.forest.one_block s.0 small in
      let found = counted (b.stmts.items ++ flat_map (λ (y : TStmt). statements_in y.kind) b.statements.items) s.0 once in
      let same : found.0 ≡ s = one_statement s found.0 found.2 in
      elim (Contains-append_cases b.stmts.items (flat_map (λ (y : TStmt). statements_in y.kind) b.statements.items) found.0 found.1) [
        | inl own ↦ (
            let there : IsSomeAnd (statement_at b s) (λ y. IsCallOf m y.kind) = subst (λ o. IsSomeAnd o (λ y. IsCallOf m y.kind)) (sym at) calls in
            (s, subst (Contains b.stmts.items) same own, there)
            )
        | inr nested ↦ absurd (not_nested found.0 same (head_of_call m x.kind calls) nested)
      ]
