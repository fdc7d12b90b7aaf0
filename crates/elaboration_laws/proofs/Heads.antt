-- The heads of a body come first and stand in no other statement where they do among its typed statements.
use Rattle.std.proofs.Common.{◌≡◌, ◌∙◌, sym, ap, refl, subst, ℕ, zero, suc, ◌+◌, Bool, true, false, Option, Some, None, List, [], ◌∷◌, ◌++◌, All, length, slice_get, option_map}
use Rattle.std.specs.Prelude.{MatchBool}
use Rattle.std.proofs.lemmas.List.{append-nil, length-append}
use Rattle.std.proofs.lemmas.List.Elements.{All-append, All-cons, All-head, All-nil, All-tail, All-weaker}
use Rattle.std.proofs.lemmas.Option.{slice_get-map}
use Rattle.program_model.specs.declared.kinds.StmtId.{StmtId}
use Rattle.program_model.specs.declared.tree.Body.{Body}
use Rattle.program_model.specs.declared.tree.TStmt.{TStmt}
use Rattle.program_model.specs.declared.tree.StatementKind.{StatementKind}
use Rattle.program_model.specs.declared.tree.StatementKind.TheVariants as kinds
use Rattle.program_model.specs.Heads.{HeadsFirst, OneSuperCall, begins_with_super_call, is_head, is_head_kind, is_in, is_super_call, is_super_call_kind}
use Rattle.program_model.specs.Lookups.{statement_at}
use Rattle.program_model.specs.Trees.{statements_in}
use Rattle.java_typed_trees.specs.StatementTrees.{StatementForm, StmtTree, StmtTrees, Statement, no_statement, and_statement}
use Rattle.java_typing_laws.specs.Bodies.{IsLaid}
use Rattle.java_typing_laws.specs.Flat.{roots, sizes}
use Rattle.java_typing_laws.specs.StatementCells.{StatementCell, form_in, statement_cell, statement_cells}
use Rattle.java_typing_laws.specs.StatementFlat.{expression_count, flat_statement, flat_statements, statement_root, statement_roots, statement_size, statement_sizes}
use Rattle.java_elaboration.proofs.BodyLaws.{has_statements}
use Rattle.java_typing_laws.proofs.Joins.{first_inside, get_node, inside, more_inside}
use Rattle.java_typing_laws.proofs.StatementForests.{length_flat_statement, length_flat_statements}
use Rattle.elaboration_laws.specs.OrderedTrees.{HasNoHeadInside, HaveHeadsFirst, HaveNoHeads, HaveNoSuperCall, HaveOneSuperCall, begin_with_super_call, form_at, is_head_form, is_super_call_form}
use Rattle.elaboration_laws.proofs.Stands.{StandIn, StandsIn, none_is_some, same_in, statement_cell_with, statement_stands}

head_of_kind : (k : StatementKind) → is_head_kind k ≡ is_head_form (form_in k)
head_of_kind kinds.Break = refl
head_of_kind k = refl

super_call_of_kind : (k : StatementKind) → is_super_call_kind k ≡ is_super_call_form (form_in k)
super_call_of_kind kinds.Break = refl
super_call_of_kind k = refl

test_stands : (test : StatementKind → Bool) (of_form : StatementForm → Bool) → ((k : StatementKind) → test k ≡ of_form (form_in k)) → (b : Body) (s : StmtId) (t : StmtTree) → StandsIn b s t → is_in test (statement_at b s) ≡ of_form (form_at t)
test_stands test of_form law b s (Statement f p es ss) (ids, inner, here, values, parts) =
    let x = statement_stands b s f p ids inner here in
    ap (is_in test) x.at ∙ law x.statement.kind ∙ ap of_form x.form

head_stands : (b : Body) (s : StmtId) (t : StmtTree) → StandsIn b s t → is_head b s ≡ is_head_form (form_at t)
head_stands b s t stand = test_stands is_head_kind is_head_form head_of_kind b s t stand

super_call_stands : (b : Body) (s : StmtId) (t : StmtTree) → StandsIn b s t → is_super_call b s ≡ is_super_call_form (form_at t)
super_call_stands b s t stand = test_stands is_super_call_kind is_super_call_form super_call_of_kind b s t stand

-- ---- the body's own statements

abbrev IsNoHead : Body → StmtId → Type 0
IsNoHead b s = is_head b s ≡ false

abbrev IsNoSuperCall : Body → StmtId → Type 0
IsNoSuperCall b s = is_super_call b s ≡ false

no_heads_stand : (b : Body) (ids : List StmtId) (ts : StmtTrees) → StandIn b ids ts → HaveNoHeads ts → All (IsNoHead b) ids
no_heads_stand b ids no_statement is none = subst (All (IsNoHead b)) (sym is) (All-nil (IsNoHead b))
no_heads_stand b ids (and_statement t ts) (first, more, is, one, rest) none =
    subst (All (IsNoHead b)) (sym is) (All-cons (IsNoHead b) first more (head_stands b first t one ∙ none.0) (no_heads_stand b more ts rest none.2))

by_test : (P Q P' Q' : Type 0) (x y : Bool) → x ≡ y → (P → P') → (Q → Q') → MatchBool y P Q → MatchBool x P' Q'
by_test P Q P' Q' x y same first second h = subst (λ z. MatchBool z P' Q') (sym same) (go y h)
  where
    go : (z : Bool) → MatchBool z P Q → MatchBool z P' Q'
    go true p = first p
    go false q = second q

heads_stand : (b : Body) (ids : List StmtId) (ts : StmtTrees) → StandIn b ids ts → HaveHeadsFirst ts → HeadsFirst b ids
heads_stand b ids no_statement is h = subst (HeadsFirst b) (sym is) tt
heads_stand b ids (and_statement t ts) (first, more, is, one, rest) h =
    subst (HeadsFirst b) (sym is) (by_test (HaveHeadsFirst ts) (HaveNoHeads ts) (HeadsFirst b more) (All (IsNoHead b) more) (is_head b first) (is_head_form (form_at t)) (head_stands b first t one) (heads_stand b more ts rest) (no_heads_stand b more ts rest) h.1)

pub heads_first : (b : Body) (ts : StmtTrees) → IsLaid b ts → HaveHeadsFirst ts → HeadsFirst b b.stmts.items
heads_first b ts laid h = heads_stand b b.stmts.items ts (has_statements b ts laid) h

no_super_calls_stand : (b : Body) (ids : List StmtId) (ts : StmtTrees) → StandIn b ids ts → HaveNoSuperCall ts → All (IsNoSuperCall b) ids
no_super_calls_stand b ids no_statement is none = subst (All (IsNoSuperCall b)) (sym is) (All-nil (IsNoSuperCall b))
no_super_calls_stand b ids (and_statement t ts) (first, more, is, one, rest) none =
    subst (All (IsNoSuperCall b)) (sym is) (All-cons (IsNoSuperCall b) first more (super_call_stands b first t one ∙ none.0) (no_super_calls_stand b more ts rest none.1))

super_calls_stand : (b : Body) (ids : List StmtId) (ts : StmtTrees) → StandIn b ids ts → HaveOneSuperCall ts → OneSuperCall b ids
super_calls_stand b ids no_statement is h = subst (OneSuperCall b) (sym is) tt
super_calls_stand b ids (and_statement t ts) (first, more, is, one, rest) h = subst (OneSuperCall b) (sym is) (no_super_calls_stand b more ts rest h)

pub one_super_call : (b : Body) (ts : StmtTrees) → IsLaid b ts → HaveOneSuperCall ts → OneSuperCall b b.stmts.items
one_super_call b ts laid h = super_calls_stand b b.stmts.items ts (has_statements b ts laid) h

begins_stand : (b : Body) (ids : List StmtId) (ts : StmtTrees) → StandIn b ids ts → begins_with_super_call b ids ≡ begin_with_super_call ts
begins_stand b ids no_statement is = ap (begins_with_super_call b) is
begins_stand b ids (and_statement t ts) (first, more, is, one, rest) = ap (begins_with_super_call b) is ∙ super_call_stands b first t one

pub begins_so : (b : Body) (ts : StmtTrees) → IsLaid b ts → begins_with_super_call b b.stmts.items ≡ begin_with_super_call ts
begins_so b ts laid = begins_stand b b.stmts.items ts (has_statements b ts laid)

-- ---- the statements in others, by the cells of a table

abbrev is_head_in : Option StatementCell → Bool
is_head_in None = false
is_head_in (Some c) = is_head_form c.form

abbrev is_head_cell : List StatementCell → StmtId → Bool
is_head_cell cells s = is_head_in (slice_get cells s.0)

head_of_cell : (o : Option TStmt) → is_in is_head_kind o ≡ is_head_in (option_map statement_cell o)
head_of_cell None = refl
head_of_cell (Some x) = head_of_kind x.kind

head_by_cell : (b : Body) (s : StmtId) → is_head b s ≡ is_head_cell (statement_cells b.statements.items) s
head_by_cell b s = head_of_cell (statement_at b s) ∙ ap is_head_in (sym (slice_get-map statement_cell b.statements.items s.0))

abbrev IsNoHeadCell : List StatementCell → StmtId → Type 0
IsNoHeadCell cells s = is_head_cell cells s ≡ false

abbrev HasNoHeadParts : List StatementCell → StatementCell → Type 0
HasNoHeadParts cells c = All (IsNoHeadCell cells) c.statements

root_is : (m n : ℕ) (own own' : List StatementCell) (t : StmtTree) → length own ≡ m → is_head_cell (own ++ flat_statement m n t ++ own') (statement_root m t) ≡ is_head_form (form_at t)
root_is m n own own' (Statement f p es ss) long =
    let k : ℕ = n + sizes es in
    ap is_head_in (get_node own (flat_statements m k ss) own' (statement_cell_with f p (roots n es) (statement_roots m ss)) m (statement_sizes ss) long (length_flat_statements m k ss))

longer : (own xs : List StatementCell) (n m : ℕ) → length own ≡ n → length xs ≡ m → length (own ++ xs) ≡ n + m
longer own xs n m e d = length-append own xs ∙ ap (λ k. k + length xs) e ∙ ap (λ k. n + k) d

no_root_is : (m n : ℕ) (own own' : List StatementCell) (ts : StmtTrees) → length own ≡ m → HaveNoHeads ts → All (IsNoHeadCell (own ++ flat_statements m n ts ++ own')) (statement_roots m ts)
no_root_is m n own own' no_statement long none = All-nil (IsNoHeadCell (own ++ [] ++ own'))
no_root_is m n own own' (and_statement t ts) long none =
    let k : ℕ = m + statement_size t in
    let j : ℕ = n + expression_count t in
    let behind : List StatementCell = flat_statements k j ts in
    let whole : List StatementCell = own ++ (flat_statement m n t ++ behind) ++ own' in
    All-cons (IsNoHeadCell whole) (statement_root m t) (statement_roots k ts)
    (subst (λ (cells : List StatementCell). IsNoHeadCell cells (statement_root m t)) (first_inside own (flat_statement m n t) behind own') (root_is m n own (behind ++ own') t long ∙ none.0))
    (subst (λ (cells : List StatementCell). All (IsNoHeadCell cells) (statement_roots k ts)) (more_inside own (flat_statement m n t) behind own') (no_root_is k j (own ++ flat_statement m n t) own' ts (longer own (flat_statement m n t) m (statement_size t) long (length_flat_statement m n t)) none.2))

-- none of the statements in these is a head
abbrev HaveNoneInside : StmtTrees → Type 0
HaveNoneInside no_statement = Unit {0}
HaveNoneInside (and_statement t ts) = HasNoHeadInside t × HaveNoneInside ts

none_inside : (ts : StmtTrees) → HaveNoHeads ts → HaveNoneInside ts
none_inside no_statement none = tt
none_inside (and_statement t ts) none = (none.1, none_inside ts none.2)

none_behind : (x : Bool) (ts : StmtTrees) → (HaveHeadsFirst ts → HaveNoneInside ts) → MatchBool x (HaveHeadsFirst ts) (HaveNoHeads ts) → HaveNoneInside ts
none_behind true ts first h = first h
none_behind false ts first h = none_inside ts h

none_in_ordered : (ts : StmtTrees) → HaveHeadsFirst ts → HaveNoneInside ts
none_in_ordered no_statement h = tt
none_in_ordered (and_statement t ts) h = (h.0, none_behind (is_head_form (form_at t)) ts (none_in_ordered ts) h.1)

along : (xs ys those : List StatementCell) → xs ≡ ys → All (HasNoHeadParts xs) those → All (HasNoHeadParts ys) those
along xs ys those same all = subst (λ (cells : List StatementCell). All (HasNoHeadParts cells) those) same all

mutual
  statement_headless : (m n : ℕ) (own own' : List StatementCell) (t : StmtTree) → length own ≡ m → HasNoHeadInside t → All (HasNoHeadParts (own ++ flat_statement m n t ++ own')) (flat_statement m n t)
  statement_headless m n own own' (Statement f p es ss) long none =
      let k : ℕ = n + sizes es in
      let c : StatementCell = statement_cell_with f p (roots n es) (statement_roots m ss) in
      let inner : List StatementCell = flat_statements m k ss in
      let whole : List StatementCell = own ++ (inner ++ c ∷ []) ++ own' in
      let same : own ++ inner ++ (c ∷ own') ≡ whole = inside own inner own' c in
      All-append (HasNoHeadParts whole) inner (c ∷ [])
      (along _ whole inner same (statements_headless m k own (c ∷ own') ss long (none_inside ss none)))
      (All-cons (HasNoHeadParts whole) c [] (subst (λ (cells : List StatementCell). All (IsNoHeadCell cells) (statement_roots m ss)) same (no_root_is m k own (c ∷ own') ss long none)) (All-nil (HasNoHeadParts whole)))

  statements_headless : (m n : ℕ) (own own' : List StatementCell) (ts : StmtTrees) → length own ≡ m → HaveNoneInside ts → All (HasNoHeadParts (own ++ flat_statements m n ts ++ own')) (flat_statements m n ts)
  statements_headless m n own own' no_statement long none = All-nil (HasNoHeadParts (own ++ [] ++ own'))
  statements_headless m n own own' (and_statement t ts) long none =
      let k : ℕ = m + statement_size t in
      let j : ℕ = n + expression_count t in
      let behind : List StatementCell = flat_statements k j ts in
      let whole : List StatementCell = own ++ (flat_statement m n t ++ behind) ++ own' in
      All-append (HasNoHeadParts whole) (flat_statement m n t) behind
      (along _ whole (flat_statement m n t) (first_inside own (flat_statement m n t) behind own') (statement_headless m n own (behind ++ own') t long none.0))
      (along _ whole behind (more_inside own (flat_statement m n t) behind own') (statements_headless k j (own ++ flat_statement m n t) own' ts (longer own (flat_statement m n t) m (statement_size t) long (length_flat_statement m n t)) none.1))

all_at : {X : Type 0} (P : X → Type 0) (xs : List X) (k : ℕ) (x : X) → All P xs → slice_get xs k ≡ Some x → P x
all_at P [] k x all e = absurd (none_is_some x e)
all_at P (y ∷ ys) zero x all e = subst P (same_in y x e) (All-head P y ys all)
all_at P (y ∷ ys) (suc k) x all e = all_at P ys k x (All-tail P y ys all) e

pub headless_parts : (b : Body) (ts : StmtTrees) → IsLaid b ts → HaveHeadsFirst ts → (s : StmtId) (x : TStmt) → statement_at b s ≡ Some x → All (λ t. is_head b t ≡ false) (statements_in x.kind)
headless_parts b ts laid h s x found =
    let table : List StatementCell = statement_cells b.statements.items in
    let flat : List StatementCell = flat_statements 0 0 ts in
    let all : All (HasNoHeadParts flat) flat = along _ flat flat (append-nil flat) (statements_headless 0 0 [] [] ts refl (none_in_ordered ts h)) in
    let cells : All (HasNoHeadParts table) table = subst (λ (cs : List StatementCell). All (HasNoHeadParts cs) cs) (sym laid.statements) all in
    let there : slice_get table s.0 ≡ Some (statement_cell x) = slice_get-map statement_cell b.statements.items s.0 ∙ ap (λ (o : Option TStmt). option_map statement_cell o) found in
    All-weaker (IsNoHeadCell table) (IsNoHead b) (λ t none. head_by_cell b t ∙ none) (statements_in x.kind) (all_at (HasNoHeadParts table) table s.0 (statement_cell x) cells there)
