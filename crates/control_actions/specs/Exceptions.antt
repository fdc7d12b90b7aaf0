-- The exceptions that an action throws (JLS 11.1.1, 15.6).
use Rattle.std.specs.Prelude.{ℕ, zero, suc, ◌+◌, min, Bool, true, false, ◌||◌, ◌&&◌, not, Option, Some, None, List, [], ◌∷◌, ◌++◌, length, if◌then◌else◌}
use Rattle.std.specs.List.{list_any}
use Rattle.program_model.specs.declared.kinds.ClassId.{ClassId}
use Rattle.program_model.specs.declared.kinds.MethodId.{MethodId}
use Rattle.program_model.specs.declared.kinds.BinaryOperator.{BinaryOperator}
use Rattle.program_model.specs.declared.kinds.BinaryOperator.TheVariants as binary
use Rattle.program_model.specs.declared.program.Program.{Program}
use Rattle.program_model.specs.declared.program.Method.{Method}
use Rattle.program_model.specs.Lookups.{optional, method_at}
use Rattle.program_model.specs.SuperTests.{has_class, is_under, is_ignored}
use Rattle.control_actions.specs.declared.action.Action.{Action}
use Rattle.control_actions.specs.declared.action.Action.TheVariants as actions
use Rattle.control_actions.specs.declared.action.Operator.{Operator}
use Rattle.control_actions.specs.declared.action.Operator.TheVariants as operators

-- classes with one more, each once and at its first place
abbrev pub with_class : List ClassId → ClassId → List ClassId
with_class cs c = if has_class cs c then cs else (cs ++ c ∷ [])

abbrev pub with_classes : List ClassId → List ClassId → List ClassId
with_classes cs [] = cs
with_classes cs (x ∷ xs) = with_classes (with_class cs x) xs

-- the class is under a class that is ignored with its subclasses, so that all classes under it are ignored too
abbrev pub is_wholly_ignored : Program → ClassId → Bool
is_wholly_ignored p t = list_any (λ d. is_under p t d) p.ignored.items

-- how many numbers name classes of the program; a number has 32 bits
abbrev pub class_count : Program → ℕ
class_count p = min (length p.classes.items) 4294967296

abbrev pub class_with : ℕ → ClassId
class_with k = record { 0 = k }

-- the class is under `t` and not ignored
abbrev pub is_heeded_under : Program → ClassId → ClassId → Bool
is_heeded_under p t c = is_under p c t && not (is_ignored p c)

-- one of the first `n` classes is under `t` and not ignored
unfoldable pub some_heeded : Program → ClassId → ℕ → Bool
some_heeded p t zero = false
some_heeded p t (suc n) = some_heeded p t n || is_heeded_under p t (class_with n)

-- a class of the program that is under `t` is not ignored: `t` itself, or one under it where `t` is ignored alone
abbrev pub throws_some_heeded : Program → ClassId → Bool
throws_some_heeded p t = if is_ignored p t then (if is_wholly_ignored p t then false else some_heeded p t (class_count p)) else true

-- the classes of exceptions that a call gives beside those of the throws clause. An exception of a class under one of them
-- leaves the call by it, so it stays where a class under it is not ignored
abbrev pub heeded_by_call : Program → List ClassId → List ClassId
heeded_by_call p [] = []
heeded_by_call p (c ∷ cs) = if throws_some_heeded p c then (c ∷ heeded_by_call p cs) else heeded_by_call p cs

-- those of the classes that are not ignored
abbrev pub heeded : Program → List ClassId → List ClassId
heeded p [] = []
heeded p (c ∷ cs) = if is_ignored p c then heeded p cs else (c ∷ heeded p cs)

-- the unchecked exceptions of a call (JLS 11.1.1)
abbrev pub unchecked : Program → List ClassId
unchecked p = p.core.runtime_exception ∷ p.core.error ∷ []

abbrev pub binary_exceptions : Program → BinaryOperator → List ClassId
binary_exceptions p binary.Divide = p.core.arithmetic_exception ∷ []
binary_exceptions p binary.Remainder = p.core.arithmetic_exception ∷ []
binary_exceptions p _ = []

abbrev pub operator_exceptions : Program → Operator → List ClassId
operator_exceptions p (operators.Binary o operands t) = binary_exceptions p o
operator_exceptions p operators.Element = p.core.null_pointer_exception ∷ p.core.array_index_exception ∷ []
operator_exceptions p operators.StoreElement = p.core.null_pointer_exception ∷ p.core.array_index_exception ∷ []
operator_exceptions p operators.Length = p.core.null_pointer_exception ∷ []
operator_exceptions p (operators.NewArray t) = p.core.negative_array_size_exception ∷ []
operator_exceptions p _ = []

abbrev pub throws_in : Option Method → List ClassId
throws_in None = []
throws_in (Some m) = m.sig.throws.items

-- the throws clause of a method
abbrev pub throws_clause : Program → MethodId → List ClassId
throws_clause p m = throws_in (method_at p m)

abbrev pub receiver_exceptions : Program → Bool → List ClassId
receiver_exceptions p true = []
receiver_exceptions p false = p.core.null_pointer_exception ∷ []

-- the classes that an action throws also where they are ignored
abbrev pub declared_exceptions : Program → Action → List ClassId
declared_exceptions p (actions.Call m d n form) = throws_clause p m
declared_exceptions p (actions.New m d n) = throws_clause p m
declared_exceptions p (actions.Super m d n) = throws_clause p m
declared_exceptions p (actions.Raise d c) = optional c
declared_exceptions p _ = []

-- the classes of the exceptions that it makes itself
abbrev pub own_exceptions : Program → Action → List ClassId
own_exceptions p (actions.Op k d n) = operator_exceptions p k
own_exceptions p (actions.Get f d through_this) = receiver_exceptions p through_this
own_exceptions p (actions.Put f d through_this) = receiver_exceptions p through_this
own_exceptions p (actions.Cast t d) = p.core.class_cast_exception ∷ []
own_exceptions p (actions.Raise d c) = p.core.null_pointer_exception ∷ []
own_exceptions p _ = []

-- the classes that it throws where they are not ignored
abbrev pub other_exceptions : Program → Action → List ClassId
other_exceptions p (actions.Call m d n form) = heeded_by_call p (unchecked p)
other_exceptions p (actions.New m d n) = heeded_by_call p (unchecked p)
other_exceptions p (actions.Super m d n) = heeded_by_call p (unchecked p)
other_exceptions p a = heeded p (own_exceptions p a)

-- the classes that an action throws, each once
abbrev pub exceptions_of : Program → Action → List ClassId
exceptions_of p a = with_classes (with_classes [] (declared_exceptions p a)) (other_exceptions p a)

-- where an action leaves the exception that it throws
abbrev pub exception_depth : Action → ℕ
exception_depth (actions.Op k d n) = d
exception_depth (actions.Get f d through_this) = d
exception_depth (actions.Put f d through_this) = d
exception_depth (actions.Cast t d) = d
exception_depth (actions.Call m d n form) = d
exception_depth (actions.New m d n) = d
exception_depth (actions.Super m d n) = d
exception_depth (actions.Raise d c) = d
exception_depth _ = 0
