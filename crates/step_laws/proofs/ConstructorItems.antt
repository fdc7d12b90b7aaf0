-- Items whose actions have their place, also in the lists that they hold.
use Rattle.std.specs.List.{All}
use Rattle.std.proofs.Common.{◌≡◌, ◌<◌, ◌-◌, sym, ap, subst, arith, ℕ, IsSomeAnd, Option, List, [], ◌∷◌, ◌++◌, Contains, flat_map, length, reverse}
use Rattle.std.proofs.lemmas.List.{get_or-reverse, length-reverse}
use Rattle.std.proofs.lemmas.List.Elements.{All-head, All-tail}
use Rattle.program_model.specs.declared.kinds.MethodId.{MethodId}
use Rattle.program_model.specs.declared.kinds.MethodKind.TheVariants as methods
use Rattle.program_model.specs.declared.kinds.StmtId.{StmtId}
use Rattle.program_model.specs.declared.program.Program.{Program}
use Rattle.program_model.specs.declared.program.Method.{Method}
use Rattle.program_model.specs.declared.tree.Body.{Body}
use Rattle.program_model.specs.declared.tree.CallTarget.{CallTarget}
use Rattle.program_model.specs.declared.tree.CallTarget.TheVariants as calls
use Rattle.program_model.specs.declared.tree.StatementKind.{StatementKind}
use Rattle.program_model.specs.Lookups.{method_at, statement_at}
use Rattle.java_control.specs.Remaining.{Todo, Todos, nil, cons, todos, Do, Ev, Act, Cond, NullFork, BoolFork, LoopEnd, For, Leave, Catch, Fin, Close, Finish, Supp, Out, Ended}
use Rattle.control_actions.specs.declared.action.Action.{Action}
use Rattle.control_actions.specs.declared.action.Action.TheVariants as actions
use Rattle.step_laws.specs.Constructors.{CallsSuperClass, IsCallOf, MakesConcrete, NamesInstance, StandsInBody, StoresAssignedField, StoresOwnField}

-- what the action stores, makes or calls may be stored, made or called there
abbrev pub IsAllowed : Program → Body → Action → Type 0
IsAllowed p b (actions.PutOwn f d) = StoresOwnField p b (actions.PutOwn f d)
IsAllowed p b (actions.Put f d this) = StoresAssignedField p b (actions.Put f d this)
IsAllowed p b (actions.New m d n) = MakesConcrete p (actions.New m d n)
IsAllowed p b (actions.Call m d n form) = NamesInstance p (actions.Call m d n form)
IsAllowed p b (actions.Super m d n) = StandsInBody b (actions.Super m d n)
IsAllowed p b a = Unit {0}

abbrev pub HasPlace : Program → Body → Action → Type 0
HasPlace p b a = CallsSuperClass p b a × IsAllowed p b a

pub allowed_store : (p : Program) (b : Body) (a : Action) → IsAllowed p b a → StoresOwnField p b a
allowed_store p b actions.Skip allowed = tt
allowed_store p b (actions.PutOwn f d) allowed = allowed
allowed_store p b a allowed = tt

pub allowed_field : (p : Program) (b : Body) (a : Action) → IsAllowed p b a → StoresAssignedField p b a
allowed_field p b actions.Skip allowed = tt
allowed_field p b (actions.Put f d this) allowed = allowed
allowed_field p b a allowed = tt

pub allowed_making : (p : Program) (b : Body) (a : Action) → IsAllowed p b a → MakesConcrete p a
allowed_making p b actions.Skip allowed = tt
allowed_making p b (actions.New m d n) allowed = allowed
allowed_making p b a allowed = tt

pub allowed_call : (p : Program) (b : Body) (a : Action) → IsAllowed p b a → NamesInstance p a
allowed_call p b actions.Skip allowed = tt
allowed_call p b (actions.Call m d n form) allowed = allowed
allowed_call p b a allowed = tt

pub allowed_super : (p : Program) (b : Body) (a : Action) → IsAllowed p b a → StandsInBody b a
allowed_super p b actions.Skip allowed = tt
allowed_super p b (actions.Super m d n) allowed = allowed
allowed_super p b a allowed = tt

abbrev pub IsInstanceMethod : Option Method → Type 0
IsInstanceMethod m = IsSomeAnd m (λ x. x.kind ≡ methods.Instance)

-- where the target of a call is an object, the method is an instance method
abbrev pub SuitsTarget : CallTarget → Option Method → Type 0
SuitsTarget calls.Static m = Unit {0}
SuitsTarget c m = IsInstanceMethod m

-- where it is a super call, it is one of the body's own statements
abbrev pub IsOwn : Body → StatementKind → Type 0
IsOwn b k = (m : MethodId) → IsCallOf m k → (s : StmtId) × Contains b.stmts.items s × IsSomeAnd (statement_at b s) (λ x. IsCallOf m x.kind)

abbrev mutual
  pub IsGood : Program → Body → Todo → Type 0
  IsGood p b (Act a pos) = HasPlace p b a
  IsGood p b (Cond c d x y) = AreGood p b x × AreGood p b y
  IsGood p b (NullFork pos d x y) = AreGood p b x × AreGood p b y
  IsGood p b (BoolFork pos d x y) = AreGood p b x × AreGood p b y
  IsGood p b (Close r d) = IsInstanceMethod (method_at p r.close)
  IsGood p b (Do s d) = Unit {0}
  IsGood p b (Ev e d) = Unit {0}
  IsGood p b (LoopEnd w d) = Unit {0}
  IsGood p b (For w d) = Unit {0}
  IsGood p b (Leave x pos) = Unit {0}
  IsGood p b (Catch s d) = Unit {0}
  IsGood p b (Fin f d) = Unit {0}
  IsGood p b (Finish c d f) = Unit {0}
  IsGood p b (Supp c d s) = Unit {0}
  IsGood p b (Out c) = Unit {0}
  IsGood p b Ended = Unit {0}

  pub AreGood : Program → Body → Todos → Type 0
  AreGood p b nil = Unit {0}
  AreGood p b (cons x xs) = IsGood p b x × AreGood p b xs

abbrev pub AllGood : Program → Body → List Todo → Type 0
AllGood p b [] = Unit {0}
AllGood p b (x ∷ xs) = IsGood p b x × AllGood p b xs

pub good_todos : (p : Program) (b : Body) (xs : Todos) → AreGood p b xs → AllGood p b (todos xs)
good_todos p b nil good = tt
good_todos p b (cons x xs) good = (good.0, good_todos p b xs good.1)

pub good_both : (p : Program) (b : Body) (xs ys : List Todo) → AllGood p b xs → AllGood p b ys → AllGood p b (xs ++ ys)
good_both p b [] ys first second = second
good_both p b (x ∷ xs) ys first second = (first.0, good_both p b xs ys first.1 second)

pub good_flat : {X : Type 0} (p : Program) (b : Body) (f : X → List Todo) → ((x : X) → AllGood p b (f x)) → (xs : List X) → AllGood p b (flat_map f xs)
good_flat p b f each [] = tt
good_flat p b f each (x ∷ xs) = good_both p b (f x) (flat_map f xs) (each x) (good_flat p b f each xs)

pub good_each : {X : Type 0} (p : Program) (b : Body) (f : X → List Todo) (P : X → Type 0) → ((x : X) → P x → AllGood p b (f x)) → (xs : List X) → All P xs → AllGood p b (flat_map f xs)
good_each p b f P each [] all = tt
good_each p b f P each (x ∷ xs) all = good_both p b (f x) (flat_map f xs) (each x (All-head P x xs all)) (good_each p b f P each xs (All-tail P x xs all))

pub all_reversed : {X : Type 0} (P : X → Type 0) (xs : List X) → All P xs → All P (reverse xs)
all_reversed P xs all k d below =
    let within : k < length xs = omega (arith, below, ap (λ (n : ℕ). n) (length-reverse xs)) in
    subst P (sym (get_or-reverse xs k d within)) (all (length xs - 1 - k) d (omega (arith, within)))
