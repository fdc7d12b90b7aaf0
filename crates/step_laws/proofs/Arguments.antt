-- A program whose super calls have no arguments at all passes no `this`: a test that computes over a program in hand.
use Rattle.std.proofs.Common.{◌≡◌, ℕ, zero, suc, Bool, true, false, Some, None, List, [], ◌∷◌, slice_get, All, sym, ap, ◌∙◌, true≢false}
use Rattle.std.specs.List.{list_all}
use Rattle.std.proofs.lemmas.Bool.{and_parts}
use Rattle.std.proofs.lemmas.List.Elements.{All-nil}
use Rattle.program_model.specs.declared.kinds.ExprId.{ExprId}
use Rattle.program_model.specs.declared.program.Program.{Program}
use Rattle.program_model.specs.declared.tree.Body.{Body}
use Rattle.program_model.specs.declared.tree.StatementKind.{StatementKind}
use Rattle.program_model.specs.declared.tree.StatementKind.TheVariants as statements
use Rattle.program_model.specs.declared.tree.TStmt.{TStmt}
use Rattle.step_laws.specs.SuperArguments.{LacksThis, PassesNoThis, SuperCallsPassNoThis}

abbrev is_none : List ExprId → Bool
is_none [] = true
is_none (e ∷ es) = false

abbrev pub passes_nothing : StatementKind → Bool
passes_nothing (statements.SuperCall c) = is_none c.arguments.items
passes_nothing k = true

abbrev pub statements_pass_nothing : Body → Bool
statements_pass_nothing b = list_all (λ (s : TStmt). passes_nothing s.kind) b.statements.items

-- no super call of the program has an argument
abbrev pub calls_pass_nothing : Program → Bool
calls_pass_nothing p = list_all statements_pass_nothing p.bodies.items

passing_none : (b : Body) (es : List ExprId) → is_none es ≡ true → All (LacksThis b) es
passing_none b [] none = All-nil (LacksThis b)
passing_none b (e ∷ es) none = absurd (true≢false (sym none))

no_this : (b : Body) (k : StatementKind) → passes_nothing k ≡ true → PassesNoThis b k
no_this b (statements.Block ss end) passes = tt
no_this b (statements.SuperCall c) passes = passing_none b c.arguments.items passes
no_this b k passes = tt

one_passes : {X : Type 0} (test : X → Bool) (xs : List X) (i : ℕ) (x : X) → list_all test xs ≡ true → slice_get xs i ≡ Some x → test x ≡ true
one_passes test [] i x all at = absurd (none i at)
  where
    none : (i : ℕ) → slice_get [] i ≡ Some x → ⊥
    none zero is = let never : None ≡ Some x = is in cc
    none (suc i) is = let never : None ≡ Some x = is in cc
one_passes test (y ∷ ys) zero x all at = let same : y ≡ x = (let both : Some y ≡ Some x = at in cc) in ap test (sym same) ∙ (and_parts (test y) (list_all test ys) all).0
one_passes test (y ∷ ys) (suc i) x all at = one_passes test ys i x (and_parts (test y) (list_all test ys) all).1 at

pub passing_nothing : (p : Program) → calls_pass_nothing p ≡ true → SuperCallsPassNoThis p
passing_nothing p all n b s x at_b at_s =
    no_this b x.kind (one_passes (λ (y : TStmt). passes_nothing y.kind) b.statements.items s.0 x (one_passes statements_pass_nothing p.bodies.items n.0 b all at_b) at_s)
