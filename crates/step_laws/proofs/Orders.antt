-- The controls before the call of the super constructor, and those behind it. A body begins before it, or has none.
use Rattle.std.proofs.Common.{◌≡◌, ◌⊎◌, inl, inr, ◌+◌, true, false, Option, Some, None, List, [], ◌∷◌, ◌++◌, length, map, refl, sym, true≢false}
use Rattle.std.specs.List.{AllByRecursion}
use Rattle.std.proofs.lemmas.List.Elements.{recursion_from_All}
use Rattle.program_model.specs.declared.kinds.BodyId.{BodyId}
use Rattle.program_model.specs.declared.kinds.ClassId.{ClassId}
use Rattle.program_model.specs.declared.kinds.StmtId.{StmtId}
use Rattle.program_model.specs.declared.program.Program.{Program}
use Rattle.program_model.specs.declared.tree.Body.{Body}
use Rattle.program_model.specs.declared.tree.StatementKind.{StatementKind}
use Rattle.program_model.specs.declared.tree.StatementKind.TheVariants as statements
use Rattle.program_model.specs.declared.tree.SuperCall.{SuperCall}
use Rattle.program_model.specs.declared.tree.TStmt.{TStmt}
use Rattle.program_model.specs.Heads.{OneSuperCall, is_in, is_super_call, is_super_call_kind}
use Rattle.program_model.specs.Lookups.{statement_at}
use Rattle.program_model.specs.Validity.{IsValidBody}
use Rattle.rlc_base.specs.declared.place.Pos.{Pos}
use Rattle.java_control.specs.Completions.{ends, out}
use Rattle.java_control.specs.Control.{ways}
use Rattle.java_control.specs.Exceptions.{exceptions_of, goes_on, throws}
use Rattle.java_control.specs.Expressions.{evaluations}
use Rattle.java_control.specs.Remaining.{Todo, Do, Act}
use Rattle.java_control.specs.Statements.{first_items, first_items_at, listed_front, super_front}
use Rattle.control_actions.specs.declared.action.Action.{Action}
use Rattle.control_actions.specs.declared.action.Action.TheVariants as actions
use Rattle.control_actions.specs.declared.action.Completion.{Completion}
use Rattle.control_actions.specs.declared.action.Completion.TheVariants as completions
use Rattle.control_actions.specs.declared.action.Scope.TheVariants as scopes
use Rattle.control_actions.specs.declared.place.Place.TheVariants as places
use Rattle.step_laws.specs.Starts.{is_super}
use Rattle.step_laws.specs.SuperArguments.{LacksThis, PassesNoThis}
use Rattle.step_laws.proofs.StartFronts.{AreFree, good_evaluations}
use Rattle.step_laws.proofs.StartItems.{AllGood, IsDue, IsGood, good_both}
use Rattle.step_laws.proofs.StartWays.{AllLeaveGood, first_ways, going_out, ways_both}

-- no super call is left
abbrev pub IsBehind : Body → List Todo → Type 0
IsBehind b k = AllGood false b k

abbrev pub CallsSuper : Todo → Type 0
CallsSuper (Act a pos) = is_super a ≡ true
CallsSuper x = ⊥

-- items before the call, the call, and what is behind it
abbrev pub IsBefore : Body → List Todo → Type 0
IsBefore b [] = ⊥
IsBefore b (x ∷ k) = (CallsSuper x × IsBehind b k) ⊎ (IsGood true b x × IsBefore b k)

abbrev pub IsSorted : Body → List Todo → Type 0
IsSorted b k = IsBefore b k ⊎ IsBehind b k

module _ (p : Program) (b : Body) (n : BodyId) (valid : IsValidBody p n b) where
  -- ---- behind the call

  ending : (c : Completion) → AllLeaveGood false (IsBehind b) (ends c)
  ending (completions.Break pos) = tt
  ending (completions.Continue pos) = tt
  ending c = ((tt, (tt, tt)), tt)

  more : (x : Todo) (k : List Todo) → IsGood false b x → IsBehind b k → IsBehind b (x ∷ k)
  more x k good rest = (good, rest)

  outs_behind : (k : List Todo) → IsBehind b k → (c : Completion) → AllLeaveGood false (IsBehind b) (out p b c k)
  outs_behind [] rest c = ending c
  outs_behind (x ∷ k) rest c = going_out p b n valid false (IsBehind b) (IsBehind b) more (λ l has. has) c x k rest.0 rest.1

  pub ways_behind : (k : List Todo) → IsBehind b k → AllLeaveGood false (IsBehind b) (ways p b k)
  ways_behind [] rest = ((tt, (tt, tt)), tt)
  ways_behind (x ∷ k) rest = first_ways p b n valid false (IsBehind b) (IsBehind b) more (λ l has. has) x k rest.0 rest.1 (outs_behind k rest.1)

  -- ---- before it, and at the call

  before_more : (x : Todo) (k : List Todo) → IsGood true b x → IsBefore b k → IsBefore b (x ∷ k)
  before_more x k good rest = inr (good, rest)

  sorted : (k : List Todo) → IsBefore b k → IsSorted b k
  sorted k before = inl before

  calling : (a : Action) (k : List Todo) → is_super a ≡ true → IsBehind b k → AllLeaveGood true (IsSorted b) (goes_on a k)
  calling (actions.Super m d c) k is rest = ((refl, inr rest), tt)
  calling a k is rest = absurd (true≢false (sym is))

  due_at_call : (a : Action) → is_super a ≡ true → IsDue true a
  due_at_call (actions.Super m d c) is = refl
  due_at_call a is = absurd (true≢false (sym is))

  throwing_call : (a : Action) (pos : Pos) (k : List Todo) (cs : List ClassId) → is_super a ≡ true → IsBehind b k → AllLeaveGood true (IsSorted b) (map (throws a pos k) cs)
  throwing_call a pos k [] is rest = tt
  throwing_call a pos k (c ∷ cs) is rest = ((due_at_call a is, inr (tt, rest)), throwing_call a pos k cs is rest)

  call_ways : (x : Todo) (k : List Todo) → CallsSuper x → IsBehind b k → AllLeaveGood true (IsSorted b) (ways p b (x ∷ k))
  call_ways (Act a pos) k is rest =
      ways_both true (IsSorted b) (goes_on a k) (map (throws a pos k) (exceptions_of p a)) (calling a k is rest) (throwing_call a pos k (exceptions_of p a) is rest)
  call_ways (Do s d) k is rest = absurd is
  call_ways x k is rest = absurd is

  past_call : (c : Completion) (x : Todo) (k : List Todo) → CallsSuper x → IsBehind b k → AllLeaveGood true (IsSorted b) (out p b c (x ∷ k))
  past_call c (Act a pos) k is rest = ((tt, inr (tt, rest)), tt)
  past_call c (Do s d) k is rest = absurd is
  past_call c x k is rest = absurd is

  outs_before : (k : List Todo) → IsBefore b k → (c : Completion) → AllLeaveGood true (IsSorted b) (out p b c k)
  outs_before [] before c = absurd before
  outs_before (x ∷ k) (inl at) c = past_call c x k at.0 at.1
  outs_before (x ∷ k) (inr first) c = going_out p b n valid true (IsBefore b) (IsSorted b) before_more sorted c x k first.0 first.1

  pub ways_before : (k : List Todo) → IsBefore b k → AllLeaveGood true (IsSorted b) (ways p b k)
  ways_before [] before = absurd before
  ways_before (x ∷ k) (inl at) = call_ways x k at.0 at.1
  ways_before (x ∷ k) (inr first) = first_ways p b n valid true (IsBefore b) (IsSorted b) before_more sorted x k first.0 first.1 (outs_before k first.1)

  -- ---- the start of a body

  before_call : (xs ys : List Todo) (x : Todo) → AllGood true b xs → CallsSuper x → IsBehind b ys → IsBefore b (xs ++ x ∷ ys)
  before_call [] ys x good is rest = inl (is, rest)
  before_call (y ∷ xs) ys x good is rest = inr (good.0, before_call xs ys x good.1 is rest)

  before_both : (xs ys : List Todo) → IsBefore b xs → IsBehind b ys → IsBefore b (xs ++ ys)
  before_both [] ys before rest = absurd before
  before_both (x ∷ xs) ys (inl at) rest = inl (at.0, good_both false b xs ys at.1 rest)
  before_both (x ∷ xs) ys (inr first) rest = inr (first.0, before_both xs ys first.1 rest)

  freely : (xs : List _) → AllByRecursion (LacksThis b) xs → AreFree true b xs
  freely [] all = tt
  freely (e ∷ es) all = ((λ is. all.0), freely es all.1)

  before_super : (c : SuperCall) (pos : Pos) → PassesNoThis b (statements.SuperCall c) → IsBefore b (super_front c 0 pos)
  before_super c pos passes =
      before_call (Act (actions.Copy (places.Temp 0) places.This) pos ∷ evaluations c.arguments.items (0 + 1)) (Act (actions.Drop (scopes.Temp 0)) pos ∷ [])
      (Act (actions.Super c.constructor 0 (length c.arguments.items + 1)) pos)
      (tt, good_evaluations p b true c.arguments.items (0 + 1) (freely c.arguments.items (recursion_from_All (LacksThis b) c.arguments.items passes))) refl (tt, tt)

  later_items : (k : StatementKind) (s : StmtId) (pos : Pos) → is_super_call b s ≡ false → is_super_call_kind k ≡ false → IsBehind b (first_items k s pos)
  later_items (statements.Block ss end) s pos not_call other = ((refl, not_call), tt)
  later_items (statements.SuperCall c) s pos not_call other = absurd (true≢false other)
  later_items (statements.FieldInitializer e) s pos not_call other = ((λ is. absurd (true≢false (sym is))), (tt, tt))
  later_items k s pos not_call other = ((refl, not_call), tt)

  later_at : (s : StmtId) (x : Option TStmt) → is_super_call b s ≡ false → is_in is_super_call_kind x ≡ false → IsBehind b (first_items_at s x)
  later_at s None not_call other = ((refl, not_call), tt)
  later_at s (Some x) not_call other = later_items x.kind s x.pos not_call other

  later_front : (ss : List StmtId) → AllByRecursion (λ s. is_super_call b s ≡ false) ss → IsBehind b (listed_front b ss)
  later_front [] none = tt
  later_front (s ∷ ss) none = good_both false b (first_items_at s (statement_at b s)) (listed_front b ss) (later_at s (statement_at b s) none.0 none.0) (later_front ss none.1)

  module _ (passes : (s : StmtId) (x : TStmt) → statement_at b s ≡ Some x → PassesNoThis b x.kind) where
    first_front : (k : StatementKind) (s : StmtId) (pos : Pos) (ys : List Todo) → is_super_call b s ≡ is_super_call_kind k → PassesNoThis b k → IsBehind b ys → IsSorted b (first_items k s pos ++ ys)
    first_front (statements.Block ss end) s pos ys same free rest = inr ((refl, same), rest)
    first_front (statements.SuperCall c) s pos ys same free rest = inl (before_both (super_front c 0 pos) ys (before_super c pos free) rest)
    first_front (statements.FieldInitializer e) s pos ys same free rest = inr ((λ is. absurd (true≢false (sym is))), (tt, rest))
    first_front k s pos ys same free rest = inr ((refl, same), rest)

    first_at : (s : StmtId) (x : Option TStmt) (ys : List Todo) → statement_at b s ≡ x → is_super_call b s ≡ is_in is_super_call_kind x → IsBehind b ys → IsSorted b (first_items_at s x ++ ys)
    first_at s None ys at same rest = inr ((refl, same), rest)
    first_at s (Some x) ys at same rest = first_front x.kind s x.pos ys same (passes s x at) rest

    pub sorted_start : (ss : List StmtId) → OneSuperCall b ss → IsSorted b (listed_front b ss)
    sorted_start [] one = inr tt
    sorted_start (s ∷ ss) one = first_at s (statement_at b s) (listed_front b ss) refl refl (later_front ss (recursion_from_All (λ t. is_super_call b t ≡ false) ss one))
