-- How what is left to run may come to its end, as far as a `finally` block and what stands in it decide it: whether the end is reached
-- normally, where something arrives in a given way at its front.
use Rattle.std.proofs.Common.{◌≡◌, ◌⊎◌, ◌++◌, ◌∷◌, [], List, Bool, true, false, Option, Some, None, inl, inr, refl, ap}
use Rattle.std.specs.Prelude.{not}
use Rattle.std.specs.List.{list_all}
use Rattle.program_model.specs.declared.tree.Body.{Body}
use Rattle.program_model.specs.declared.tree.CatchClause.{CatchClause}
use Rattle.program_model.specs.declared.tree.StatementKind.{StatementKind}
use Rattle.program_model.specs.declared.tree.StatementKind.TheVariants as statements
use Rattle.program_model.specs.declared.tree.TStmt.{TStmt}
use Rattle.program_model.specs.Lookups.{statement_at}
use Rattle.control_actions.specs.declared.action.Action.{Action}
use Rattle.control_actions.specs.declared.action.Action.TheVariants as actions
use Rattle.control_actions.specs.declared.action.Completion.TheVariants as completions
use Rattle.control_actions.specs.declared.action.Completion as control
use Rattle.control_actions.specs.declared.item.Condition.{Condition}
use Rattle.control_actions.specs.declared.item.Condition.TheVariants as conditions
use Rattle.java_control.specs.Exceptions.{clauses_in}
use Rattle.java_control.specs.Remaining.{Todo, Todos, Do, Ev, Act, Cond, NullFork, BoolFork, LoopEnd, For, Leave, Catch, Fin, Close, Finish, Supp, Out, Ended, nil, cons, todos}
use Rattle.accepted_programs.specs.Completions.{Completion, completion, is_true_literal}
use Rattle.exception_laws.proofs.Handlers.{fit, fits, is_plain}
use Rattle.accepted_programs.proofs.Lists.{and_one, and_two}

-- what arrives: the run itself, a `break`, a `continue`, or a `return` or an exception
pub data Arrival : Type 0 where
  normally : Arrival
  breaking : Arrival
  continuing : Arrival
  abruptly : Arrival

-- the end is reached from behind a statement that completes so: `X` is that it is reached where the statement completes normally
pub data Through (c : Completion) (q : Arrival → Type 0) (X : Type 0) : Type 0 where
  goes : c.completes ≡ true → X → Through c q X
  breaks : c.breaks ≡ true → q breaking → Through c q X
  continues : c.continues ≡ true → q continuing → Through c q X
  throws : q abruptly → Through c q X

abbrev pub Via : Completion → (Arrival → Type 0) → Type 0
Via c q = Through c q (q normally)

-- from the completion that is on its way out
abbrev pub Resumes : control.Completion → (Arrival → Type 0) → Type 0
Resumes (completions.Break pos) q = q breaking
Resumes (completions.Continue pos) q = q continuing
Resumes (completions.Return pos) q = q abruptly
Resumes (completions.ReturnValue d pos) q = q abruptly
Resumes (completions.Throw d t pos) q = q abruptly

-- a `throw` never goes on
abbrev pub Acts : Action → (Arrival → Type 0) → Type 0 → Type 0
Acts (actions.Raise d c) q X = q abruptly
Acts a q X = X ⊎ q abruptly

abbrev pub may_fail : Body → Condition → Bool
may_fail b (conditions.Of e) = not (is_true_literal b e)
may_fail b (conditions.Absent pos) = false

-- the end of a loop's turn, where `X` is that the end is reached from behind the loop as a whole, and `Y` that it is reached from
-- behind its condition
abbrev pub TurnOf : Body → StatementKind → Type 0 → Type 0 → Type 0
TurnOf b (statements.While c x) X Y = X
TurnOf b (statements.Do x c) X Y = (not (is_true_literal b c) ≡ true × Y) ⊎ X
TurnOf b (statements.For l) X Y = X
TurnOf b kind X Y = Y ⊎ X

abbrev pub TurnEnds : Body → Option TStmt → Type 0 → Type 0 → Type 0
TurnEnds b None X Y = X
TurnEnds b (Some x) X Y = TurnOf b x.kind X Y

-- before a turn of a `for`
abbrev pub ForOf : StatementKind → Type 0 → Type 0 → Type 0
ForOf (statements.For l) X Y = X
ForOf kind X Y = Y ⊎ X

abbrev pub ForEnds : Option TStmt → Type 0 → Type 0 → Type 0
ForEnds None X Y = X
ForEnds (Some x) X Y = ForOf x.kind X Y

-- from one of the catch clauses
abbrev pub OneClause : Body → List CatchClause → (Arrival → Type 0) → Type 0
OneClause b [] q = ⊥
OneClause b (c ∷ cs) q = Via (completion b c.block) q ⊎ OneClause b cs q

abbrev mutual
  -- the end is reached from the item, where `q` says from which arrivals behind it the end is reached
  pub after : Body → Todo → (Arrival → Type 0) → Arrival → Type 0
  after b (Do s d) q normally = Via (completion b s) q
  after b (Do s d) q a = q a
  after b (Ev e d) q a = q a ⊎ q abruptly
  after b (Act x pos) q normally = Acts x q (q normally)
  after b (Act x pos) q a = q a ⊎ q abruptly
  after b (Cond c d x y) q normally = after_in b x q normally ⊎ ((may_fail b c ≡ true × after_in b y q normally) ⊎ q abruptly)
  after b (Cond c d x y) q a = q a
  after b (NullFork pos d x y) q normally = after_in b x q normally ⊎ after_in b y q normally
  after b (NullFork pos d x y) q a = q a
  after b (BoolFork pos d x y) q normally = after_in b x q normally ⊎ after_in b y q normally
  after b (BoolFork pos d x y) q a = q a
  after b (LoopEnd w d) q normally = TurnEnds b (statement_at b w) (Via (completion b w) q) (q normally)
  after b (LoopEnd w d) q breaking = q normally
  after b (LoopEnd w d) q continuing = TurnEnds b (statement_at b w) (Via (completion b w) q) (q normally)
  after b (LoopEnd w d) q abruptly = q abruptly
  after b (For w d) q normally = ForEnds (statement_at b w) (Via (completion b w) q) (q normally)
  after b (For w d) q a = q a
  after b (Leave x pos) q a = q a
  after b (Catch s d) q abruptly = OneClause b (clauses_in (statement_at b s)) q ⊎ q abruptly
  after b (Catch s d) q a = q a
  after b (Fin f d) q a = Through (completion b f) q (q a)
  after b (Close r d) q a = q a ⊎ q abruptly
  after b (Finish c d f) q normally = Resumes c q
  after b (Finish c d f) q a = q a
  after b (Supp c d s) q normally = Resumes c q
  after b (Supp c d s) q a = q a ⊎ q abruptly
  after b (Out c) q normally = Resumes c q
  after b (Out c) q a = q a
  after b Ended q a = q a

  pub after_in : Body → Todos → (Arrival → Type 0) → Arrival → Type 0
  after_in b nil q a = q a
  after_in b (cons x xs) q a = after b x (after_in b xs q) a

abbrev pub after_all : Body → List Todo → (Arrival → Type 0) → Arrival → Type 0
after_all b [] q a = q a
after_all b (x ∷ xs) q a = after b x (after_all b xs q) a

pub after_listed : (b : Body) (xs : Todos) (q : Arrival → Type 0) → after_all b (todos xs) q ≡ after_in b xs q
after_listed b nil q = refl
after_listed b (cons x xs) q = ap (after b x) (after_listed b xs q)

pub after_joined : (b : Body) (xs ys : List Todo) (q : Arrival → Type 0) → after_all b (xs ++ ys) q ≡ after_all b xs (after_all b ys q)
after_joined b [] ys q = refl
after_joined b (x ∷ xs) ys q = ap (after b x) (after_joined b xs ys q)

-- ---- parts of expressions: the end is reached from behind them, or by an exception

abbrev pub Plainly : (Arrival → Type 0) → Type 0
Plainly q = q normally ⊎ q abruptly

pub plain_act : (x : Action) (q : Arrival → Type 0) (X : Type 0) → is_plain true x ≡ true → Acts x q X → X ⊎ q abruptly
plain_act (actions.Raise d c) q X h e = absurd (let no : false ≡ true = h in cc)
plain_act actions.Skip q X h e = e
plain_act (actions.Copy x y) q X h e = e
plain_act (actions.Move x y) q X h e = e
plain_act (actions.Plain x v) q X h e = e
plain_act (actions.Drop x) q X h e = e
plain_act (actions.Settle d c) q X h e = e
plain_act (actions.Enter i x d f) q X h e = e
plain_act (actions.Test d) q X h e = e
plain_act (actions.Op k d n) q X h e = e
plain_act (actions.Get f d t) q X h e = e
plain_act (actions.Put f d t) q X h e = e
plain_act (actions.PutOwn f d) q X h e = e
plain_act (actions.Cast t d) q X h e = e
plain_act (actions.Call m d n form) q X h e = e
plain_act (actions.New m d n) q X h e = e
plain_act (actions.Super m d n) q X h e = e
plain_act (actions.End c) q X h e = e

false_is_true : {X : Type 0} → false ≡ true → X
false_is_true h = absurd (let no : false ≡ true = h in cc)

pub once : {Y : Type 0} → Y ⊎ Y → Y
once (inl y) = y
once (inr y) = y

-- an exception gets past them
passed : (b : Body) (x : Todo) (q : Arrival → Type 0) → fits true x ≡ true → after b x q abruptly → q abruptly
passed b (Ev e d) q h r = once r
passed b (Act x pos) q h r = once r
passed b (Cond c d x y) q h r = r
passed b (NullFork pos d x y) q h r = r
passed b (BoolFork pos d x y) q h r = r
passed b (Do s d) q h r = false_is_true h
passed b (LoopEnd w d) q h r = false_is_true h
passed b (For w d) q h r = false_is_true h
passed b (Leave x pos) q h r = false_is_true h
passed b (Catch s d) q h r = false_is_true h
passed b (Fin f d) q h r = false_is_true h
passed b (Close c d) q h r = false_is_true h
passed b (Finish c d f) q h r = false_is_true h
passed b (Supp c d s) q h r = false_is_true h
passed b (Out c) q h r = false_is_true h
passed b Ended q h r = false_is_true h

passed_in : (b : Body) (xs : Todos) (q : Arrival → Type 0) → fit true xs ≡ true → after_in b xs q abruptly → q abruptly
passed_in b nil q h r = r
passed_in b (cons x xs) q h r = passed_in b xs q (and_two (fits true x) (fit true xs) h) (passed b x (after_in b xs q) (and_one (fits true x) (fit true xs) h) r)

mutual
  plain_item : (b : Body) (x : Todo) (q : Arrival → Type 0) → fits true x ≡ true → after b x q normally → Plainly q
  plain_item b (Ev e d) q h r = r
  plain_item b (Act x pos) q h r = plain_act x q (q normally) h r
  plain_item b (Cond c d x y) q h (inl r) = plain_items b x q (and_one (fit true x) (fit true y) h) r
  plain_item b (Cond c d x y) q h (inr (inl r)) = plain_items b y q (and_two (fit true x) (fit true y) h) r.1
  plain_item b (Cond c d x y) q h (inr (inr r)) = inr r
  plain_item b (NullFork pos d x y) q h (inl r) = plain_items b x q (and_one (fit true x) (fit true y) h) r
  plain_item b (NullFork pos d x y) q h (inr r) = plain_items b y q (and_two (fit true x) (fit true y) h) r
  plain_item b (BoolFork pos d x y) q h (inl r) = plain_items b x q (and_one (fit true x) (fit true y) h) r
  plain_item b (BoolFork pos d x y) q h (inr r) = plain_items b y q (and_two (fit true x) (fit true y) h) r
  plain_item b (Do s d) q h r = false_is_true h
  plain_item b (LoopEnd w d) q h r = false_is_true h
  plain_item b (For w d) q h r = false_is_true h
  plain_item b (Leave x pos) q h r = false_is_true h
  plain_item b (Catch s d) q h r = false_is_true h
  plain_item b (Fin f d) q h r = false_is_true h
  plain_item b (Close c d) q h r = false_is_true h
  plain_item b (Finish c d f) q h r = false_is_true h
  plain_item b (Supp c d s) q h r = false_is_true h
  plain_item b (Out c) q h r = false_is_true h
  plain_item b Ended q h r = false_is_true h

  plain_items : (b : Body) (xs : Todos) (q : Arrival → Type 0) → fit true xs ≡ true → after_in b xs q normally → Plainly q
  plain_items b nil q h r = inl r
  plain_items b (cons x xs) q h r = elim (plain_item b x (after_in b xs q) (and_one (fits true x) (fit true xs) h) r) [
    | inl z ↦ plain_items b xs q (and_two (fits true x) (fit true xs) h) z
    | inr z ↦ inr (passed_in b xs q (and_two (fits true x) (fit true xs) h) z)
  ]

pub passed_all : (b : Body) (xs : List Todo) (q : Arrival → Type 0) → list_all (fits true) xs ≡ true → after_all b xs q abruptly → q abruptly
passed_all b [] q h r = r
passed_all b (x ∷ xs) q h r = passed_all b xs q (and_two (fits true x) (list_all (fits true) xs) h) (passed b x (after_all b xs q) (and_one (fits true x) (list_all (fits true) xs) h) r)

pub plainly : (b : Body) (xs : List Todo) (q : Arrival → Type 0) → list_all (fits true) xs ≡ true → after_all b xs q normally → Plainly q
plainly b [] q h r = inl r
plainly b (x ∷ xs) q h r = step (plain_item b x (after_all b xs q) (and_one (fits true x) (list_all (fits true) xs) h) r) (plainly b xs q rest)
  where
    rest : list_all (fits true) xs ≡ true
    rest = and_two (fits true x) (list_all (fits true) xs) h

    step : Plainly (after_all b xs q) → (after_all b xs q normally → Plainly q) → Plainly q
    step (inl r) later = later r
    step (inr r) later = inr (passed_all b xs q rest r)
