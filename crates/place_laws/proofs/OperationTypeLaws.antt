-- Operations whose operands are as their static types say give and store no objects.
use Rattle.std.proofs.Common.{◌≡◌, refl, subst, arith, ℕ, zero, suc, ◌+◌, Bool, true, false, Option, Some, None, List, [], ◌∷◌, All, slice_get, unwrap_or, if◌then◌else◌, cond}
use Rattle.std.specs.Prelude.{slice_set, ℤ, pos}
use Rattle.std.specs.List.{find, position_from}
use Rattle.std.specs.Ordering.{int_eq}
use Rattle.std.proofs.lemmas.List.Elements.{All-append, All-cons, All-head, All-nil, All-push, All-replicate, All-set, All-tail}
use Rattle.program_model.specs.declared.kinds.BinaryOperator.{BinaryOperator}
use Rattle.program_model.specs.declared.kinds.BinaryOperator.TheVariants as binary
use Rattle.program_model.specs.declared.kinds.ElementType.{ElementType}
use Rattle.program_model.specs.declared.kinds.ElementType.TheVariants as elements
use Rattle.program_model.specs.declared.kinds.FieldId.{FieldId}
use Rattle.program_model.specs.declared.kinds.Literal.{Literal}
use Rattle.program_model.specs.declared.kinds.Literal.TheVariants as literals
use Rattle.program_model.specs.declared.kinds.OperandType.{OperandType}
use Rattle.program_model.specs.declared.kinds.OperandType.TheVariants as operand_types
use Rattle.program_model.specs.declared.kinds.VType.{VType}
use Rattle.program_model.specs.declared.kinds.VType.TheVariants as types
use Rattle.program_model.specs.declared.program.Field.{Field}
use Rattle.program_model.specs.declared.program.Program.{Program}
use Rattle.program_model.specs.declared.tree.Body.{Body}
use Rattle.program_model.specs.Lookups.{field_at, optional}
use Rattle.ledger_frames.specs.Folding.{folded}
use Rattle.control_actions.specs.declared.action.Action.{Action}
use Rattle.control_actions.specs.declared.action.Action.TheVariants as actions
use Rattle.control_actions.specs.declared.action.Operator.{Operator}
use Rattle.control_actions.specs.declared.action.Operator.TheVariants as operators
use Rattle.control_actions.specs.declared.action.PlainValue.{PlainValue}
use Rattle.control_actions.specs.declared.action.PlainValue.TheVariants as plain
use Rattle.stub_conduct.specs.declared.choice.Choice.{Choice}
use Rattle.ledger_state.specs.declared.array.ArrayObject.{ArrayObject}
use Rattle.ledger_state.specs.declared.locals.Locals.{Locals}
use Rattle.ledger_state.specs.declared.object.StoredStatic.{StoredStatic}
use Rattle.ledger_state.specs.declared.value.Value.{Value}
use Rattle.ledger_state.specs.declared.value.Value.TheVariants as values
use Rattle.ledger_state.specs.Classes.{array_of, index_of, is_instance, new_array}
use Rattle.ledger_state.specs.Contents.{HeapContents}
use Rattle.ledger_state.specs.Fields.{initial_in, initial_of, is_static, static, value_put}
use Rattle.ledger_state.specs.Heaps.{put_at}
use Rattle.ledger_state.specs.Values.{default_element, default_of, literal_value, number_in, truth_value, value_or_nothing}
use Rattle.ledger_frames.specs.Operations.{array_by_operator, array_by_type, arrays_after, by_operand_type, by_reference, chosen_element, converted_to, element_in, elements_by_operator, number_or_nothing, operand, operator_value, plain_value, same_reference, static_by_operator, statics_after, statics_with, store_element, with_array, with_element}
use Rattle.step_laws.specs.Operands.{Fits, OperandsFit}
use Rattle.place_laws.specs.Values.{ArraysHoldNone, ElementsHoldNone, IsNoObjectBut, StaticsHoldNone, temp_holds_none}

-- ---- lists

all_at : {X : Type 0} (P : X → Type 0) (xs : List X) (i : ℕ) (x : X) → All P xs → slice_get xs i ≡ Some x → P x
all_at P [] zero x all at = absurd (let never : None ≡ Some x = at in cc)
all_at P [] (suc i) x all at = absurd (let never : None ≡ Some x = at in cc)
all_at P (y ∷ ys) zero x all at = subst P (let both : Some y ≡ Some x = at in (let same : y ≡ x = cc in same)) (All-head P y ys all)
all_at P (y ∷ ys) (suc i) x all at = all_at P ys i x (All-tail P y ys all) at

-- the objects of class `String` are these
module _ (texts : ℕ → Bool) where
  no_value : (xs : List Value) (i : ℕ) → All (IsNoObjectBut texts) xs → IsNoObjectBut texts (value_or_nothing (slice_get xs i))
  no_value [] zero all = refl
  no_value [] (suc i) all = refl
  no_value (x ∷ xs) zero all = All-head (IsNoObjectBut texts) x xs all
  no_value (x ∷ xs) (suc i) all = no_value xs i (All-tail (IsNoObjectBut texts) x xs all)

  -- ---- values

  truth_none : (t : Bool) → IsNoObjectBut texts (truth_value t)
  truth_none true = refl
  truth_none false = refl

  converted_none : (t : VType) (v : Value) → IsNoObjectBut texts v → IsNoObjectBut texts (converted_to t v)
  converted_none (types.Primitive k) v none = refl
  converted_none types.Str v none = none
  converted_none t v none = none

  number_none : (z : Option ℤ) → IsNoObjectBut texts (number_or_nothing z)
  number_none None = refl
  number_none (Some z) = refl

  reference_none : (o : BinaryOperator) (v w : Value) → IsNoObjectBut texts (by_reference o v w)
  reference_none binary.Equal v w = truth_none (same_reference v w)
  reference_none binary.NotEqual v w = truth_none _
  reference_none binary.Add v w = refl
  reference_none o v w = refl

  binary_none : (o : BinaryOperator) (t : OperandType) (v w : Value) → IsNoObjectBut texts (by_operand_type o t v w)
  binary_none o operand_types.Text v w = refl
  binary_none o operand_types.Reference v w = reference_none o v w
  binary_none o operand_types.Boolean v w = number_none (folded o operand_types.Boolean (number_in v) (number_in w))
  binary_none o operand_types.Int v w = number_none (folded o operand_types.Int (number_in v) (number_in w))
  binary_none o operand_types.Long v w = number_none (folded o operand_types.Long (number_in v) (number_in w))

  chosen_none : (e : ElementType) (z : ℤ) → IsNoObjectBut texts (chosen_element e z)
  chosen_none (elements.Primitive t) z = refl
  chosen_none elements.Str z = go (int_eq z (pos 0))
    where
      go : (t : Bool) → IsNoObjectBut texts (if t then values.Text else values.Null)
      go true = refl
      go false = refl

  element_none : (c : Choice) (a : Option ArrayObject) (i : ℤ) → ((x : ArrayObject) → a ≡ Some x → ElementsHoldNone texts x) → IsNoObjectBut texts (element_in c a i)
  element_none c None i all = refl
  element_none c (Some a) i all = go a.shared
    where
      go : (t : Bool) → IsNoObjectBut texts (if t then chosen_element a.element c.value else value_or_nothing (slice_get a.elements (index_of i)))
      go true = chosen_none a.element c.value
      go false = no_value a.elements (index_of i) (all a refl)

  array_none : (arrays : List ArrayObject) (v : Value) → ArraysHoldNone texts arrays → (x : ArrayObject) → array_of arrays v ≡ Some x → ElementsHoldNone texts x
  array_none arrays (values.Array n) all x at = all_at (ElementsHoldNone texts) arrays n x all at
  array_none arrays values.Nothing all x at = absurd (let never : None ≡ Some x = at in cc)
  array_none arrays v all x at = absurd (let never : None ≡ Some x = at in cc)

  first_operand : (l : Locals) (d : ℕ) → temp_holds_none texts l d → IsNoObjectBut texts (operand l d 0)
  first_operand l d none = subst (λ (n : ℕ). temp_holds_none texts l n) (let same : d ≡ d + 0 = omega arith in same) none

  pub operations_give_none : (p : Program) (h : HeapContents) (arrays : List ArrayObject) (c : Choice) (l : Locals) (o : Operator) (d : ℕ) → ArraysHoldNone texts arrays → OperandsFit o d (temp_holds_none texts l)
      → IsNoObjectBut texts (operator_value p h arrays c l o d)
  operations_give_none p h arrays c l (operators.Unary o t) d all fits = converted_none t _ refl
  operations_give_none p h arrays c l (operators.Binary o t r) d all fits = converted_none r _ (binary_none o t (operand l d 0) (operand l d 1))
  operations_give_none p h arrays c l (operators.InstanceOf t) d all fits = truth_none (is_instance p h arrays t (operand l d 0))
  operations_give_none p h arrays c l (operators.Convert t) d all fits = converted_none t (operand l d 0) (first_operand l d fits.0)
  operations_give_none p h arrays c l operators.Length d all fits = refl
  operations_give_none p h arrays c l operators.Element d all fits = element_none c (array_of arrays (operand l d 0)) (number_in (operand l d 1)) (array_none arrays (operand l d 0) all)
  operations_give_none p h arrays c l operators.StoreElement d all fits = fits
  operations_give_none p h arrays c l (operators.StoreStatic f) d all fits = first_operand l d fits
  operations_give_none p h arrays c l (operators.NewArray t) d all fits = refl

  -- ---- static fields

  put_none : (i : Option ℕ) (s : StoredStatic) (statics : List StoredStatic) → IsNoObjectBut texts s.value → StaticsHoldNone texts statics → StaticsHoldNone texts (put_at i s statics)
  put_none None s statics none all = All-push (λ s. IsNoObjectBut texts s.value) statics s all none
  put_none (Some i) s statics none all = All-set (λ s. IsNoObjectBut texts s.value) statics i s none all

  static_kept : (statics : List StoredStatic) (l : Locals) (o : Operator) (d : ℕ) → StaticsHoldNone texts statics → OperandsFit o d (temp_holds_none texts l) → StaticsHoldNone texts (statics_with statics (static_by_operator l o d))
  static_kept statics l (operators.StoreStatic f) d all fits = put_none (position_from (is_static f) 0 statics) (static f (operand l d 0)) statics (first_operand l d fits) all
  static_kept statics l operators.Length d all fits = all
  static_kept statics l o d all fits = all

  pub statics_keep_none : (p : Program) (b : Body) (statics : List StoredStatic) (l : Locals) (a : Action) → StaticsHoldNone texts statics → Fits p b a (temp_holds_none texts l) → StaticsHoldNone texts (statics_after statics l a)
  statics_keep_none p b statics l (actions.Op o d n) all fits = static_kept statics l o d all fits
  statics_keep_none p b statics l actions.Skip all fits = all
  statics_keep_none p b statics l a all fits = all

  -- ---- arrays

  default_none : (e : ElementType) → IsNoObjectBut texts (default_element e)
  default_none (elements.Primitive t) = refl
  default_none elements.Str = refl

  with_none : (a : ArrayObject) (i : ℕ) (v : Value) → ElementsHoldNone texts a → IsNoObjectBut texts v → ElementsHoldNone texts (with_element a i v)
  with_none a i v all none = go a.shared
    where
      go : (t : Bool) → ElementsHoldNone texts (if t then a else record a { elements = slice_set a.elements i v })
      go true = all
      go false = All-set (IsNoObjectBut texts) a.elements i v none all

  stored_none : (arrays : List ArrayObject) (n : ℕ) (x : Option ArrayObject) (i : ℕ) (v : Value) → slice_get arrays n ≡ x → ArraysHoldNone texts arrays → IsNoObjectBut texts v → ArraysHoldNone texts (with_array arrays n x i v)
  stored_none arrays n None i v at all none = all
  stored_none arrays n (Some a) i v at all none = All-set (ElementsHoldNone texts) arrays n (with_element a i v) (with_none a i v (all_at (ElementsHoldNone texts) arrays n a all at) none) all

  store_none : (arrays : List ArrayObject) (a : Value) (i : ℤ) (v : Value) → ArraysHoldNone texts arrays → IsNoObjectBut texts v → ArraysHoldNone texts (store_element arrays a i v)
  store_none arrays (values.Array n) i v all none = stored_none arrays n (slice_get arrays n) (index_of i) v refl all none
  store_none arrays values.Nothing i v all none = all
  store_none arrays a i v all none = all

  elements_kept : (arrays : List ArrayObject) (l : Locals) (o : Operator) (d : ℕ) → ArraysHoldNone texts arrays → OperandsFit o d (temp_holds_none texts l) → ArraysHoldNone texts (elements_by_operator arrays l o d)
  elements_kept arrays l operators.StoreElement d all fits = store_none arrays (operand l d 0) (number_in (operand l d 1)) (operand l d 2) all fits
  elements_kept arrays l operators.Length d all fits = all
  elements_kept arrays l o d all fits = all

  made_none : (t : VType) (n : ℤ) → ArraysHoldNone texts (optional (array_by_type t n))
  made_none (types.Arr e) n = All-cons (ElementsHoldNone texts) (new_array e n) [] (All-replicate (IsNoObjectBut texts) (index_of n) (default_element e) (default_none e)) (All-nil (ElementsHoldNone texts))
  made_none types.Str n = All-nil (ElementsHoldNone texts)
  made_none t n = All-nil (ElementsHoldNone texts)

  new_none : (l : Locals) (o : Operator) (d : ℕ) → ArraysHoldNone texts (optional (array_by_operator l o d))
  new_none l (operators.NewArray t) d = made_none t (number_in (operand l d 0))
  new_none l operators.Length d = All-nil (ElementsHoldNone texts)
  new_none l o d = All-nil (ElementsHoldNone texts)

  pub arrays_keep_none : (p : Program) (b : Body) (arrays : List ArrayObject) (l : Locals) (a : Action) → ArraysHoldNone texts arrays → Fits p b a (temp_holds_none texts l) → ArraysHoldNone texts (arrays_after arrays l a)
  arrays_keep_none p b arrays l (actions.Op o d n) all fits = All-append (ElementsHoldNone texts) (elements_by_operator arrays l o d) (optional (array_by_operator l o d)) (elements_kept arrays l o d all fits) (new_none l o d)
  arrays_keep_none p b arrays l actions.Skip all fits = All-append (ElementsHoldNone texts) arrays [] all (All-nil (ElementsHoldNone texts))
  arrays_keep_none p b arrays l a all fits = All-append (ElementsHoldNone texts) arrays [] all (All-nil (ElementsHoldNone texts))

  -- ---- values that no step makes

  literal_none : (x : Literal) → IsNoObjectBut texts (literal_value x)
  literal_none (literals.Number z) = refl
  literal_none (literals.Character n) = refl
  literal_none (literals.Boolean b) = truth_none b
  literal_none literals.Text = refl
  literal_none literals.Null = refl

  default_value_none : (t : VType) → IsNoObjectBut texts (default_of t)
  default_value_none (types.Primitive k) = refl
  default_value_none types.Str = refl
  default_value_none (types.Arr e) = refl
  default_value_none (types.Obj c) = refl
  default_value_none types.NullType = refl

  initial_none : (f : Option Field) → IsNoObjectBut texts (initial_in f)
  initial_none None = refl
  initial_none (Some x) = go x.initial
    where
      go : (l : Option Literal) → IsNoObjectBut texts (initial_of x.vtype l)
      go None = default_value_none x.vtype
      go (Some l) = literal_none l

  found_none : (f : FieldId) (statics : List StoredStatic) (v : Value) → StaticsHoldNone texts statics → IsNoObjectBut texts v → IsNoObjectBut texts (unwrap_or (value_put (find (is_static f) statics)) v)
  found_none f [] v all none = none
  found_none f (s ∷ statics) v all none = go (is_static f s) (found_none f statics v (All-tail (λ s. IsNoObjectBut texts s.value) s statics all) none)
    where
      go : (t : Bool) → IsNoObjectBut texts (unwrap_or (value_put (find (is_static f) statics)) v) → IsNoObjectBut texts (unwrap_or (value_put (cond t (Some s) (find (is_static f) statics))) v)
      go true further = All-head (λ s. IsNoObjectBut texts s.value) s statics all
      go false further = further

  pub plain_gives_none : (p : Program) (statics : List StoredStatic) (v : PlainValue) → StaticsHoldNone texts statics → IsNoObjectBut texts (plain_value p statics v)
  plain_gives_none p statics (plain.Literal x) all = literal_none x
  plain_gives_none p statics (plain.Default t) all = default_value_none t
  plain_gives_none p statics (plain.StaticField f) all = found_none f statics (initial_in (field_at p f)) all (initial_none (field_at p f))
  plain_gives_none p statics (plain.LibraryConstant m) all = refl
