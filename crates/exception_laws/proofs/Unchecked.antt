-- The unchecked exceptions that actions throw beside those that are declared are never found.
use Rattle.std.proofs.Common.{◌≡◌, ◌++◌, ◌∷◌, [], List, Bool, true, false, refl}
use Rattle.std.specs.Prelude.{if◌then◌else◌}
use Rattle.std.specs.List.{list_any}
use Rattle.program_model.specs.declared.kinds.BinaryOperator.{BinaryOperator}
use Rattle.program_model.specs.declared.kinds.BinaryOperator.TheVariants as binary
use Rattle.program_model.specs.declared.kinds.ClassId.{ClassId}
use Rattle.program_model.specs.declared.program.Program.{Program}
use Rattle.program_model.specs.SuperTests.{has_class, is_ignored}
use Rattle.control_actions.specs.declared.action.Action.{Action}
use Rattle.control_actions.specs.declared.action.Action.TheVariants as actions
use Rattle.control_actions.specs.declared.action.Operator.{Operator}
use Rattle.control_actions.specs.declared.action.Operator.TheVariants as operators
use Rattle.java_control.specs.Exceptions.{binary_exceptions, declared_exceptions, exceptions_of, heeded, heeded_by_call, operator_exceptions, other_exceptions, own_exceptions, receiver_exceptions, throws_some_heeded, unchecked, with_class, with_classes}
use Rattle.accepted_programs.proofs.Lists.{None', join, or_first, or_neither, or_second}

-- the test finds none of the classes that the language throws by itself (JLS 11.1.1, 15.6)
pub record FindsNoUnchecked (p : Program) (v : ClassId → Bool) : Type 0 where
  pub runtime_exception : v p.core.runtime_exception ≡ false
  pub error : v p.core.error ≡ false
  pub arithmetic_exception : v p.core.arithmetic_exception ≡ false
  pub array_index_exception : v p.core.array_index_exception ≡ false
  pub class_cast_exception : v p.core.class_cast_exception ≡ false
  pub negative_array_size_exception : v p.core.negative_array_size_exception ≡ false
  pub null_pointer_exception : v p.core.null_pointer_exception ≡ false

single : (v : ClassId → Bool) (c : ClassId) → v c ≡ false → None' v (c ∷ [])
single v c h = or_neither (v c) false h refl

pair : (v : ClassId → Bool) (c d : ClassId) → v c ≡ false → v d ≡ false → None' v (c ∷ d ∷ [])
pair v c d h h' = or_neither (v c) (list_any v (d ∷ [])) h (single v d h')

binary_none : (p : Program) (v : ClassId → Bool) → FindsNoUnchecked p v → (o : BinaryOperator) → None' v (binary_exceptions p o)
binary_none p v u binary.Divide = single v p.core.arithmetic_exception u.arithmetic_exception
binary_none p v u binary.Remainder = single v p.core.arithmetic_exception u.arithmetic_exception
binary_none p v u o = refl

operator_none : (p : Program) (v : ClassId → Bool) → FindsNoUnchecked p v → (k : Operator) → None' v (operator_exceptions p k)
operator_none p v u (operators.Binary o operands t) = binary_none p v u o
operator_none p v u operators.Element = pair v p.core.null_pointer_exception p.core.array_index_exception u.null_pointer_exception u.array_index_exception
operator_none p v u operators.StoreElement = pair v p.core.null_pointer_exception p.core.array_index_exception u.null_pointer_exception u.array_index_exception
operator_none p v u operators.Length = single v p.core.null_pointer_exception u.null_pointer_exception
operator_none p v u (operators.NewArray t) = single v p.core.negative_array_size_exception u.negative_array_size_exception
operator_none p v u k = refl

receiver_none : (p : Program) (v : ClassId → Bool) → FindsNoUnchecked p v → (w : Bool) → None' v (receiver_exceptions p w)
receiver_none p v u true = refl
receiver_none p v u false = single v p.core.null_pointer_exception u.null_pointer_exception

own_none : (p : Program) (v : ClassId → Bool) → FindsNoUnchecked p v → (a : Action) → None' v (own_exceptions p a)
own_none p v u (actions.Op k d n) = operator_none p v u k
own_none p v u (actions.Get f d w) = receiver_none p v u w
own_none p v u (actions.Put f d w) = receiver_none p v u w
own_none p v u (actions.Cast t d) = single v p.core.class_cast_exception u.class_cast_exception
own_none p v u (actions.Raise d c) = single v p.core.null_pointer_exception u.null_pointer_exception
own_none p v u a = refl

heeded_none : (p : Program) (v : ClassId → Bool) (xs : List ClassId) → None' v xs → None' v (heeded p xs)
heeded_none p v [] h = refl
heeded_none p v (x ∷ xs) h = step (is_ignored p x) (heeded_none p v xs (or_second (v x) (list_any v xs) h))
  where
    step : (i : Bool) → None' v (heeded p xs) → None' v (if i then heeded p xs else (x ∷ heeded p xs))
    step true later = later
    step false later = or_neither (v x) (list_any v (heeded p xs)) (or_first (v x) (list_any v xs) h) later

call_none : (p : Program) (v : ClassId → Bool) (xs : List ClassId) → None' v xs → None' v (heeded_by_call p xs)
call_none p v [] h = refl
call_none p v (x ∷ xs) h = step (throws_some_heeded p x) (call_none p v xs (or_second (v x) (list_any v xs) h))
  where
    step : (i : Bool) → None' v (heeded_by_call p xs) → None' v (if i then (x ∷ heeded_by_call p xs) else heeded_by_call p xs)
    step true later = or_neither (v x) (list_any v (heeded_by_call p xs)) (or_first (v x) (list_any v xs) h) later
    step false later = later

unchecked_none : (p : Program) (v : ClassId → Bool) → FindsNoUnchecked p v → None' v (heeded_by_call p (unchecked p))
unchecked_none p v u = call_none p v (unchecked p) (pair v p.core.runtime_exception p.core.error u.runtime_exception u.error)

other_none : (p : Program) (v : ClassId → Bool) → FindsNoUnchecked p v → (a : Action) → None' v (other_exceptions p a)
other_none p v u (actions.Call m d n form) = unchecked_none p v u
other_none p v u (actions.New m d n) = unchecked_none p v u
other_none p v u (actions.Super m d n) = unchecked_none p v u
other_none p v u (actions.Op k d n) = heeded_none p v (own_exceptions p (actions.Op k d n)) (own_none p v u (actions.Op k d n))
other_none p v u (actions.Get f d w) = heeded_none p v (own_exceptions p (actions.Get f d w)) (own_none p v u (actions.Get f d w))
other_none p v u (actions.Put f d w) = heeded_none p v (own_exceptions p (actions.Put f d w)) (own_none p v u (actions.Put f d w))
other_none p v u (actions.Cast t d) = heeded_none p v (own_exceptions p (actions.Cast t d)) (own_none p v u (actions.Cast t d))
other_none p v u (actions.Raise d c) = heeded_none p v (own_exceptions p (actions.Raise d c)) (own_none p v u (actions.Raise d c))
other_none p v u a = refl

one_more : (v : ClassId → Bool) (cs : List ClassId) (c : ClassId) → None' v cs → v c ≡ false → None' v (with_class cs c)
one_more v cs c h h' = step (has_class cs c)
  where
    step : (i : Bool) → None' v (if i then cs else (cs ++ c ∷ []))
    step true = h
    step false = join v cs (c ∷ []) h (single v c h')

all_more : (v : ClassId → Bool) (cs xs : List ClassId) → None' v cs → None' v xs → None' v (with_classes cs xs)
all_more v cs [] h h' = h
all_more v cs (x ∷ xs) h h' = all_more v (with_class cs x) xs (one_more v cs x h (or_first (v x) (list_any v xs) h')) (or_second (v x) (list_any v xs) h')

-- of the classes that an action throws, the test finds none but those that are declared
pub action_none : (p : Program) (v : ClassId → Bool) → FindsNoUnchecked p v → (a : Action) → None' v (declared_exceptions p a) → None' v (exceptions_of p a)
action_none p v u a h = all_more v (with_classes [] (declared_exceptions p a)) (other_exceptions p a) (all_more v [] (declared_exceptions p a) refl h) (other_none p v u a)
