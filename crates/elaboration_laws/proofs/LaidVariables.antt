-- A laid body declares the variables of the typed statements that it is laid from.
use Rattle.std.proofs.Common.{◌≡◌, ◌∙◌, sym, ap, ap₂, refl, arith, ℕ, zero, suc, ◌+◌, ◌≤◌, List, [], ◌∷◌, ◌++◌, length, map}
use Rattle.std.specs.List.{flat_map}
use Rattle.std.proofs.lemmas.Grind.{flat_map-append}
use Rattle.std.proofs.lemmas.List.{append_assoc}
use Rattle.program_model.specs.declared.kinds.StmtId.{StmtId}
use Rattle.program_model.specs.declared.tree.Body.{Body}
use Rattle.program_model.specs.declared.tree.CatchClause.{CatchClause}
use Rattle.program_model.specs.declared.tree.Declarator.{Declarator}
use Rattle.program_model.specs.declared.tree.ForInitial.{ForInitial}
use Rattle.program_model.specs.declared.tree.ForInitial.TheVariants as initials
use Rattle.program_model.specs.declared.tree.Resource.{Resource}
use Rattle.program_model.specs.declared.tree.StatementKind.{StatementKind}
use Rattle.program_model.specs.declared.tree.StatementKind.TheVariants as kinds
use Rattle.program_model.specs.declared.tree.TextPart.{TextPart}
use Rattle.program_model.specs.declared.tree.TextPart.TheVariants as parts_of
use Rattle.program_model.specs.declared.tree.TryStatement.{TryStatement}
use Rattle.program_model.specs.Lookups.{optional}
use Rattle.program_model.specs.TextOrder.{clause_parts, declarator_parts, declared_variables, initial_parts, parts_at, text_parts, variables_of}
use Rattle.program_model.specs.Trees.{statements_in}
use Rattle.java_typed_trees.specs.StatementTrees.{StatementForm, StmtTree, StmtTrees, Statement, no_statement, and_statement}
use Rattle.java_typing_laws.specs.Bodies.{IsLaid}
use Rattle.java_typing_laws.specs.StatementCells.{clause_form, declarator_shape, first_part, form_in, resource_shape}
use Rattle.java_typing_laws.specs.StatementFlat.{statement_size, statement_sizes}
use Rattle.java_elaboration.proofs.BodyLaws.{count_of_statements, has_statements}
use Rattle.elaboration_laws.proofs.Stands.{StandIn, StandsIn, statement_stands}
use Rattle.elaboration_laws.specs.DeclaredVariables.{declared_by, in_clauses, joined, names_in, names_of, resource_names, variables_declared, variables_of_each, variables_within}

-- ---- the parts of one statement

abbrev of_part : (StmtId → List ℕ) → TextPart → List ℕ
of_part within (parts_of.Variable x) = x ∷ []
of_part within (parts_of.Statement s) = within s

statements_declare : (within : StmtId → List ℕ) (ids : List StmtId) → flat_map (of_part within) (map parts_of.Statement ids) ≡ joined (map within ids)
statements_declare within [] = refl
statements_declare within (s ∷ ids) = ap (λ (xs : List ℕ). within s ++ xs) (statements_declare within ids)

declarators_declare : (within : StmtId → List ℕ) (names : List Declarator) → flat_map (of_part within) (declarator_parts names) ≡ names_of (map declarator_shape names)
declarators_declare within [] = refl
declarators_declare within (x ∷ names) = ap (λ (xs : List ℕ). x.variable ∷ xs) (declarators_declare within names)

initial_declares : (within : StmtId → List ℕ) (first : ForInitial) → flat_map (of_part within) (initial_parts first) ≡ names_in (first_part first)
initial_declares within (initials.Declaration names) = declarators_declare within names.items
initial_declares within (initials.Expressions es) = refl

resources_declare : (within : StmtId → List ℕ) (rs : List Resource) → flat_map (of_part within) (map (λ (r : Resource). parts_of.Variable r.variable) rs) ≡ resource_names (map resource_shape rs)
resources_declare within [] = refl
resources_declare within (r ∷ rs) = ap (λ (xs : List ℕ). r.variable ∷ xs) (resources_declare within rs)

clauses_declare : (within : StmtId → List ℕ) (cs : List CatchClause) (last : List StmtId) → flat_map (of_part within) (flat_map clause_parts cs) ++ flat_map (of_part within) (map parts_of.Statement last) ≡ in_clauses (map clause_form cs) (map within (map (λ (c : CatchClause). c.block) cs ++ last))
clauses_declare within [] last = statements_declare within last
clauses_declare within (c ∷ cs) last =
    let behind : List ℕ = flat_map (of_part within) (flat_map clause_parts cs) in
    let final : List ℕ = flat_map (of_part within) (map parts_of.Statement last) in
    ap (λ (xs : List ℕ). c.variable ∷ xs) (append_assoc (within c.block) behind final ∙ ap (λ (xs : List ℕ). within c.block ++ xs) (clauses_declare within cs last))

try_declares : (within : StmtId → List ℕ) (t : TryStatement) → flat_map (of_part within) (text_parts (kinds.Try t)) ≡ declared_by (form_in (kinds.Try t)) (map within (statements_in (kinds.Try t)))
try_declares within t =
    let f : TextPart → List ℕ = of_part within in
    let resources : List TextPart = map (λ (r : Resource). parts_of.Variable r.variable) t.resources.items in
    let clauses : List TextPart = flat_map clause_parts t.catches.items in
    let last : List TextPart = map parts_of.Statement (optional t.finally) in
    let block : List ℕ = within t.block in
    flat_map-append f (resources ++ parts_of.Statement t.block ∷ clauses) last
    ∙ ap (λ (xs : List ℕ). xs ++ flat_map f last) (flat_map-append f resources (parts_of.Statement t.block ∷ clauses))
    ∙ ap (λ (xs : List ℕ). xs ++ (block ++ flat_map f clauses) ++ flat_map f last) (resources_declare within t.resources.items)
    ∙ regroup (resource_names (map resource_shape t.resources.items)) block (flat_map f clauses) (flat_map f last)
    ∙ ap (λ (xs : List ℕ). resource_names (map resource_shape t.resources.items) ++ block ++ xs) (clauses_declare within t.catches.items (optional t.finally))
  where
    regroup : (a b c d : List ℕ) → a ++ (b ++ c) ++ d ≡ a ++ b ++ (c ++ d)
    regroup a b c d = ap (λ (xs : List ℕ). xs ++ d) (sym (append_assoc a b c)) ∙ append_assoc (a ++ b) c d

kind_declares : (within : StmtId → List ℕ) (k : StatementKind) → flat_map (of_part within) (text_parts k) ≡ declared_by (form_in k) (map within (statements_in k))
kind_declares within (kinds.LocalDeclaration names) = declarators_declare within names.items
kind_declares within (kinds.For l) =
    flat_map-append (of_part within) (initial_parts l.initial) (parts_of.Statement l.body ∷ [])
    ∙ ap (λ (xs : List ℕ). xs ++ joined (within l.body ∷ [])) (initial_declares within l.initial)
kind_declares within (kinds.Try t) = try_declares within t
kind_declares within k = statements_declare within (statements_in k)

-- ---- all statements of a body

abbrev within_to : ℕ → Body → StmtId → List ℕ
within_to depth b s = variables_of depth b (parts_of.Statement s)

same_part : (depth : ℕ) (b : Body) (x : TextPart) → variables_of depth b x ≡ of_part (within_to depth b) x
same_part zero b (parts_of.Variable x) = refl
same_part (suc depth) b (parts_of.Variable x) = refl
same_part depth b (parts_of.Statement s) = refl

same_parts : (depth : ℕ) (b : Body) (xs : List TextPart) → flat_map (variables_of depth b) xs ≡ flat_map (of_part (within_to depth b)) xs
same_parts depth b [] = refl
same_parts depth b (x ∷ xs) = ap₂ (λ (a c : List ℕ). a ++ c) (same_part depth b x) (same_parts depth b xs)

mutual
  statement_stands_so : (depth : ℕ) (b : Body) (s : StmtId) (t : StmtTree) → StandsIn b s t → statement_size t ≤ depth → within_to depth b s ≡ variables_within t
  statement_stands_so zero b s (Statement f p es ss) stand deep = absurd (omega (arith, deep))
  statement_stands_so (suc depth) b s (Statement f p es ss) (ids, inner, here, values, parts) deep =
      let x = statement_stands b s f p ids inner here in
      let k : StatementKind = x.statement.kind in
      ap (λ o. flat_map (variables_of depth b) (parts_at o)) x.at
      ∙ same_parts depth b (text_parts k)
      ∙ kind_declares (within_to depth b) k
      ∙ ap (λ (g : StatementForm). declared_by g (map (within_to depth b) (statements_in k))) x.form
      ∙ ap (λ (ss : List StmtId). declared_by f (map (within_to depth b) ss)) x.statements
      ∙ ap (declared_by f) (statements_stand_so depth b inner ss parts (omega (arith, deep)))

  statements_stand_so : (depth : ℕ) (b : Body) (ids : List StmtId) (ts : StmtTrees) → StandIn b ids ts → statement_sizes ts ≤ depth → map (within_to depth b) ids ≡ variables_of_each ts
  statements_stand_so depth b ids no_statement is deep = ap (map (within_to depth b)) is
  statements_stand_so depth b ids (and_statement t ts) (first, more, is, one, rest) deep =
      ap (map (within_to depth b)) is
      ∙ ap₂ (λ (xs : List ℕ) (rows : List (List ℕ)). xs ∷ rows) (statement_stands_so depth b first t one (omega (arith, deep))) (statements_stand_so depth b more ts rest (omega (arith, deep)))

pub laid_declare : (b : Body) (ts : StmtTrees) → IsLaid b ts → declared_variables b ≡ variables_declared ts
laid_declare b ts laid =
    let depth : ℕ = length b.statements.items in
    let counted = count_of_statements b ts laid in
    same_parts depth b (map parts_of.Statement b.stmts.items)
    ∙ statements_declare (within_to depth b) b.stmts.items
    ∙ ap joined (statements_stand_so depth b b.stmts.items ts (has_statements b ts laid) (omega (arith, counted)))
