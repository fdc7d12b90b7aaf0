-- Where an exception stands that is on its way out of a frame, or waits while a `finally` runs or a resource is closed (JLS 14.20.2, 14.20.3.1).
use Rattle.std.specs.Prelude.{◌≡◌, ℕ, ◌+◌, ◌<◌, ◌≤◌, List, [], ◌∷◌}
use Rattle.program_model.specs.declared.program.Program.{Program}
use Rattle.java_control.specs.Remaining.{Todo, Todos, nil, cons, Do, Ev, Act, Cond, NullFork, BoolFork, LoopEnd, For, Leave, Catch, Fin, Close, Finish, Supp, Out, Ended}
use Rattle.control_actions.specs.declared.action.Action.{Action}
use Rattle.control_actions.specs.declared.action.Action.TheVariants as actions
use Rattle.control_actions.specs.declared.action.Completion.{Completion}
use Rattle.control_actions.specs.declared.action.Completion.TheVariants as completions
use Rattle.control_actions.specs.declared.action.Scope.{Scope}
use Rattle.control_actions.specs.declared.action.Scope.TheVariants as scopes
use Rattle.control_actions.specs.declared.place.Place.{Place}
use Rattle.control_actions.specs.declared.place.Place.TheVariants as places
use Rattle.ledger_state.specs.Locals.{temp_value}
use Rattle.ledger_state.specs.declared.locals.Locals.{Locals}
use Rattle.ledger_state.specs.declared.value.Value.{Value}
use Rattle.ledger_state.specs.declared.value.Value.TheVariants as values
use Rattle.ledger_moves.specs.Configuration.{Frame}

-- ---- values

-- the value has a class: it is neither null nor a number
abbrev pub HasClass : Value → Type 0
HasClass values.Nothing = ⊥
HasClass values.Null = ⊥
HasClass values.Text = Unit {0}
HasClass (values.Number z) = ⊥
HasClass (values.Object k) = Unit {0}
HasClass (values.Array a) = Unit {0}

-- the temp of the depth holds a value with a class. (No accepted body has temps as deep as 64.)
abbrev pub holds_class : Locals → ℕ → Type 0
holds_class l d = d < 64 → HasClass (temp_value l d)

-- ---- what works in temps of this depth or more alone

abbrev pub PlaceFrom : ℕ → Place → Type 0
PlaceFrom n (places.Var i) = Unit {0}
PlaceFrom n places.This = Unit {0}
PlaceFrom n (places.Field k) = Unit {0}
PlaceFrom n (places.Temp d) = n ≤ d
PlaceFrom n places.Super = Unit {0}

abbrev pub ScopeFrom : ℕ → Scope → Type 0
ScopeFrom n (scopes.Declared s) = Unit {0}
ScopeFrom n (scopes.Variable x) = Unit {0}
ScopeFrom n (scopes.Temp d) = n ≤ d
ScopeFrom n (scopes.TempsAbove d) = n ≤ d + 1

-- an action that stands among what is left to run; none of them ends the frame
abbrev pub ActsFrom : ℕ → Action → Type 0
ActsFrom n actions.Skip = Unit {0}
ActsFrom n (actions.Copy x y) = PlaceFrom n x
ActsFrom n (actions.Move x y) = PlaceFrom n x × PlaceFrom n y
ActsFrom n (actions.Plain x v) = PlaceFrom n x
ActsFrom n (actions.Drop s) = ScopeFrom n s
ActsFrom n (actions.Settle d c) = n ≤ d
ActsFrom n (actions.Enter clause x b d) = n ≤ b
ActsFrom n (actions.Test d) = n ≤ d
ActsFrom n (actions.Op k d m) = n ≤ d
ActsFrom n (actions.Get f d through_this) = n ≤ d
ActsFrom n (actions.Put f d through_this) = n ≤ d
ActsFrom n (actions.Cast t d) = n ≤ d
ActsFrom n (actions.PutOwn f d) = Unit {0}
ActsFrom n (actions.Call m d k form) = n ≤ d
ActsFrom n (actions.New m d k) = n ≤ d
ActsFrom n (actions.Super m d k) = n ≤ d
ActsFrom n (actions.Raise d c) = n ≤ d
ActsFrom n (actions.End c) = ⊥

-- the scope has variables alone
abbrev pub HasVariables : Scope → Type 0
HasVariables (scopes.Declared s) = Unit {0}
HasVariables (scopes.Variable x) = Unit {0}
HasVariables (scopes.Temp d) = ⊥
HasVariables (scopes.TempsAbove d) = ⊥

abbrev pub IsNoException : Completion → Type 0
IsNoException (completions.Break pos) = Unit {0}
IsNoException (completions.Continue pos) = Unit {0}
IsNoException (completions.Return pos) = Unit {0}
IsNoException (completions.ReturnValue d pos) = Unit {0}
IsNoException (completions.Throw d t pos) = ⊥

-- an item that nothing waits in, and that is no exception on its way out
abbrev mutual
  pub IsFrom : ℕ → Todo → Type 0
  IsFrom n (Do s d) = n ≤ d
  IsFrom n (Ev e d) = n ≤ d
  IsFrom n (Act a pos) = ActsFrom n a
  IsFrom n (Cond c d x y) = (n ≤ d) × AreFrom n x × AreFrom n y
  IsFrom n (NullFork pos d x y) = (n ≤ d) × AreFrom n x × AreFrom n y
  IsFrom n (BoolFork pos d x y) = (n ≤ d) × AreFrom n x × AreFrom n y
  IsFrom n (LoopEnd w d) = n ≤ d
  IsFrom n (For w d) = n ≤ d
  IsFrom n (Leave x pos) = HasVariables x
  IsFrom n (Catch s d) = n ≤ d
  IsFrom n (Fin f d) = n ≤ d
  IsFrom n (Close r d) = n ≤ d
  IsFrom n (Finish c d f) = ⊥
  IsFrom n (Supp c d s) = ⊥
  IsFrom n (Out c) = IsNoException c
  IsFrom n Ended = Unit {0}

  pub AreFrom : ℕ → Todos → Type 0
  AreFrom n nil = Unit {0}
  AreFrom n (cons x xs) = IsFrom n x × AreFrom n xs

abbrev pub AllFrom : ℕ → List Todo → Type 0
AllFrom n [] = Unit {0}
AllFrom n (x ∷ xs) = IsFrom n x × AllFrom n xs

-- ---- what is left of a body to run

-- the depth from which on the temps are free for what comes before: a completion that waits has its value in the temp below
abbrev pub floor : List Todo → ℕ
floor [] = 0
floor (Finish c d f ∷ k) = d + 1
floor (Supp c d s ∷ k) = d + 1
floor (x ∷ k) = floor k

-- the completion that waits stands in the temp of this depth, which is held where it is an exception
abbrev pub HeldAt : (ℕ → Type 0) → Completion → ℕ → Type 0
HeldAt held (completions.Break pos) d = Unit {0}
HeldAt held (completions.Continue pos) d = Unit {0}
HeldAt held (completions.Return pos) d = Unit {0}
HeldAt held (completions.ReturnValue e pos) d = Unit {0}
HeldAt held (completions.Throw e t pos) d = (e ≡ d) × held d

-- the temp of the exception that is on its way out is held
abbrev pub HeldOut : (ℕ → Type 0) → Completion → Type 0
HeldOut held (completions.Break pos) = Unit {0}
HeldOut held (completions.Continue pos) = Unit {0}
HeldOut held (completions.Return pos) = Unit {0}
HeldOut held (completions.ReturnValue d pos) = Unit {0}
HeldOut held (completions.Throw d t pos) = held d

-- each exception that waits is held, and what comes before it works in deeper temps
abbrev pub Waits : (ℕ → Type 0) → List Todo → Type 0
Waits held [] = Unit {0}
Waits held (Finish c d f ∷ k) = (floor k ≤ d) × HeldAt held c d × Waits held k
Waits held (Supp c d s ∷ k) = (floor k ≤ d) × HeldAt held c d × Waits held k
Waits held (x ∷ k) = IsFrom (floor k) x × Waits held k

-- and so is the exception that comes first, on its way out
abbrev pub KeepsThrown : (ℕ → Type 0) → List Todo → Type 0
KeepsThrown held [] = Unit {0}
KeepsThrown held (Out c ∷ k) = HeldOut held c × Waits held k
KeepsThrown held (x ∷ k) = Waits held (x ∷ k)

-- ---- frames

-- what the frame leaves to run finds exceptions in their temps
abbrev pub HoldsThrown : Program → Frame → Type 0
HoldsThrown p fr = KeepsThrown (holds_class fr.locals) fr.control

abbrev pub HaveThrown : Program → List Frame → Type 0
HaveThrown p [] = Unit {0}
HaveThrown p (fr ∷ frs) = HoldsThrown p fr × HaveThrown p frs
