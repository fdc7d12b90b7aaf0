-- By which class an exception leaves an action (JLS 11.2), and the law that the steps have that edge.
use Rattle.std.specs.Prelude.{◌≡◌, ◌<◌, List, [], Contains}
use Rattle.program_model.specs.declared.kinds.ClassId.{ClassId}
use Rattle.program_model.specs.declared.program.Program.{Program}
use Rattle.program_model.specs.Hierarchy.{IsIgnored, IsUnder}
use Rattle.control_actions.specs.declared.action.Action.{Action}
use Rattle.control_actions.specs.declared.action.Action.TheVariants as actions
use Rattle.control_actions.specs.Exceptions.{class_count, declared_exceptions, exceptions_of, own_exceptions, unchecked}

-- the unchecked exceptions of a call, a `new` or a super call
abbrev pub unchecked_exceptions : Program → Action → List ClassId
unchecked_exceptions p (actions.Call m d n form) = unchecked p
unchecked_exceptions p (actions.New m d n) = unchecked p
unchecked_exceptions p (actions.Super m d n) = unchecked p
unchecked_exceptions p _ = []

-- an exception whose own class is `c` may leave the action by the class `t`
pub data LeavesBy (p : Program) (a : Action) (c t : ClassId) : Type 0 where
  -- under a class of the throws clause of a call, or under the static class of a `throw`, ignored or not
  by_declared : Contains (declared_exceptions p a) t → IsUnder p c t → LeavesBy p a c t
  -- under RuntimeException or Error, from a call
  by_call : (IsIgnored p c → ⊥) → Contains (unchecked_exceptions p a) t → IsUnder p c t → LeavesBy p a c t
  -- an exception that the action makes itself is of just that class
  made : (IsIgnored p c → ⊥) → Contains (own_exceptions p a) t → c ≡ t → LeavesBy p a c t

-- an exception leaves an action by an edge that the steps of the action have
abbrev pub HasEdges : Program → Action → Type 0
HasEdges p a = (c t : ClassId) → c.0 < class_count p → LeavesBy p a c t → Contains (exceptions_of p a) t
