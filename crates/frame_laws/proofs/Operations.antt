-- Operations give and store what is in range, where their operands, the static fields and the arrays are.
use Rattle.std.proofs.Common.{◌≡◌, refl, subst, ℕ, zero, suc, ◌+◌, Bool, true, false, Option, Some, None, List, [], ◌∷◌, All, slice_get, unwrap_or, if◌then◌else◌, cond}
use Rattle.std.specs.Prelude.{slice_set, ℤ, pos, not}
use Rattle.std.specs.List.{find, position_from}
use Rattle.std.specs.Ordering.{int_eq}
use Rattle.std.proofs.lemmas.List.Elements.{All-append, All-cons, All-head, All-nil, All-push, All-replicate, All-set, All-tail}
use Rattle.program_model.specs.declared.kinds.BinaryOperator.{BinaryOperator}
use Rattle.program_model.specs.declared.kinds.BinaryOperator.TheVariants as binary
use Rattle.program_model.specs.declared.kinds.ElementType.{ElementType}
use Rattle.program_model.specs.declared.kinds.ElementType.TheVariants as elements
use Rattle.program_model.specs.declared.kinds.FieldId.{FieldId}
use Rattle.program_model.specs.declared.kinds.Literal.{Literal}
use Rattle.program_model.specs.declared.kinds.Literal.TheVariants as literals
use Rattle.program_model.specs.declared.kinds.OperandType.{OperandType}
use Rattle.program_model.specs.declared.kinds.OperandType.TheVariants as operand_types
use Rattle.program_model.specs.declared.kinds.VType.{VType}
use Rattle.program_model.specs.declared.kinds.VType.TheVariants as types
use Rattle.program_model.specs.declared.program.Field.{Field}
use Rattle.program_model.specs.declared.program.Program.{Program}
use Rattle.program_model.specs.Lookups.{field_at, optional}
use Rattle.java_constants.specs.Folding.{folded}
use Rattle.control_actions.specs.declared.action.Action.{Action}
use Rattle.control_actions.specs.declared.action.Action.TheVariants as actions
use Rattle.control_actions.specs.declared.action.Operator.{Operator}
use Rattle.control_actions.specs.declared.action.Operator.TheVariants as operators
use Rattle.control_actions.specs.declared.action.PlainValue.{PlainValue}
use Rattle.control_actions.specs.declared.action.PlainValue.TheVariants as plain
use Rattle.stub_conduct.specs.declared.choice.Choice.{Choice}
use Rattle.ledger_state.specs.declared.array.ArrayObject.{ArrayObject}
use Rattle.ledger_state.specs.declared.locals.Locals.{Locals}
use Rattle.ledger_state.specs.declared.object.StoredStatic.{StoredStatic}
use Rattle.ledger_state.specs.declared.value.Value.{Value}
use Rattle.ledger_state.specs.declared.value.Value.TheVariants as values
use Rattle.ledger_state.specs.Classes.{array_of, index_of, is_instance, new_array}
use Rattle.ledger_state.specs.Contents.{HeapContents}
use Rattle.ledger_state.specs.Fields.{initial_in, initial_of, is_static, static, value_put}
use Rattle.ledger_state.specs.Heaps.{put_at}
use Rattle.ledger_state.specs.Values.{default_element, default_of, literal_value, number_in, truth_value, value_or_nothing}
use Rattle.ledger_moves.specs.Operations.{array_by_operator, array_by_type, arrays_after, by_operand_type, by_reference, chosen_element, converted_to, element_in, elements_by_operator, number_or_nothing, operand, operator_value, plain_value, same_reference, static_by_operator, statics_after, statics_with, store_element, with_array, with_element}
use Rattle.agreement.specs.Ranges.{IsInRange, LocalsInRange}
use Rattle.frame_laws.proofs.RangeValues.{nothing_in_range}

pub all_at : {X : Type 0} (P : X → Type 0) (xs : List X) (i : ℕ) (x : X) → All P xs → slice_get xs i ≡ Some x → P x
all_at P [] zero x all at = absurd (let never : None ≡ Some x = at in cc)
all_at P [] (suc i) x all at = absurd (let never : None ≡ Some x = at in cc)
all_at P (y ∷ ys) zero x all at = subst P (let both : Some y ≡ Some x = at in (let same : y ≡ x = cc in same)) (All-head P y ys all)
all_at P (y ∷ ys) (suc i) x all at = all_at P ys i x (All-tail P y ys all) at

module _ (h : HeapContents) where
  abbrev pub InRange : Value → Type 0
  InRange v = IsInRange h v

  abbrev pub StaticsIn : List StoredStatic → Type 0
  StaticsIn statics = All (λ s. InRange s.value) statics

  abbrev pub ElementsIn : ArrayObject → Type 0
  ElementsIn a = All InRange a.elements

  abbrev pub ArraysIn : List ArrayObject → Type 0
  ArraysIn arrays = All ElementsIn arrays

  number : (z : ℤ) → InRange (values.Number z)
  number z k is = absurd (let never : None ≡ Some k = is in cc)

  text : InRange values.Text
  text k is = absurd (let never : None ≡ Some k = is in cc)

  null : InRange values.Null
  null k is = absurd (let never : None ≡ Some k = is in cc)

  array : (n : ℕ) → InRange (values.Array n)
  array n k is = absurd (let never : None ≡ Some k = is in cc)

  value_at_in : (xs : List Value) (i : ℕ) → All InRange xs → InRange (value_or_nothing (slice_get xs i))
  value_at_in [] zero all = nothing_in_range h
  value_at_in [] (suc i) all = nothing_in_range h
  value_at_in (x ∷ xs) zero all = All-head InRange x xs all
  value_at_in (x ∷ xs) (suc i) all = value_at_in xs i (All-tail InRange x xs all)

  -- ---- values

  truth_in : (t : Bool) → InRange (truth_value t)
  truth_in true = number (pos 1)
  truth_in false = number (pos 0)

  converted_in : (t : VType) (v : Value) → InRange v → InRange (converted_to t v)
  converted_in (types.Primitive k) v none = number (pos 0)
  converted_in types.Str v none = none
  converted_in t v none = none

  number_in_range : (z : Option ℤ) → InRange (number_or_nothing z)
  number_in_range None = nothing_in_range h
  number_in_range (Some z) = number z

  reference_in : (o : BinaryOperator) (v w : Value) → InRange (by_reference o v w)
  reference_in binary.Equal v w = truth_in (same_reference v w)
  reference_in binary.NotEqual v w = truth_in (not (same_reference v w))
  reference_in binary.Add v w = nothing_in_range h
  reference_in o v w = nothing_in_range h

  binary_in : (o : BinaryOperator) (t : OperandType) (v w : Value) → InRange (by_operand_type o t v w)
  binary_in o operand_types.Text v w = text
  binary_in o operand_types.Reference v w = reference_in o v w
  binary_in o operand_types.Boolean v w = number_in_range (folded o operand_types.Boolean (number_in v) (number_in w))
  binary_in o operand_types.Int v w = number_in_range (folded o operand_types.Int (number_in v) (number_in w))
  binary_in o operand_types.Long v w = number_in_range (folded o operand_types.Long (number_in v) (number_in w))

  chosen_in : (e : ElementType) (z : ℤ) → InRange (chosen_element e z)
  chosen_in (elements.Primitive t) z = number (pos 0)
  chosen_in elements.Str z = go (int_eq z (pos 0))
    where
      go : (t : Bool) → InRange (if t then values.Text else values.Null)
      go true = text
      go false = null

  element_in_range : (c : Choice) (a : Option ArrayObject) (i : ℤ) → ((x : ArrayObject) → a ≡ Some x → ElementsIn x) → InRange (element_in c a i)
  element_in_range c None i all = nothing_in_range h
  element_in_range c (Some a) i all = go a.shared
    where
      go : (t : Bool) → InRange (if t then chosen_element a.element c.value else value_or_nothing (slice_get a.elements (index_of i)))
      go true = chosen_in a.element c.value
      go false = value_at_in a.elements (index_of i) (all a refl)

  array_in : (arrays : List ArrayObject) (v : Value) → ArraysIn arrays → (x : ArrayObject) → array_of arrays v ≡ Some x → ElementsIn x
  array_in arrays (values.Array n) all x at = all_at ElementsIn arrays n x all at
  array_in arrays values.Nothing all x at = absurd (let never : None ≡ Some x = at in cc)
  array_in arrays v all x at = absurd (let never : None ≡ Some x = at in cc)

  first_operand : (l : Locals) (d : ℕ) → LocalsInRange h l → InRange (operand l d 0)
  first_operand l d fits = fits.temps (d + 0)

  pub operations_in : (p : Program) (g : HeapContents) (arrays : List ArrayObject) (c : Choice) (l : Locals) (o : Operator) (d : ℕ) → ArraysIn arrays → LocalsInRange h l
      → InRange (operator_value p g arrays c l o d)
  operations_in p g arrays c l (operators.Unary o t) d all fits = converted_in t _ (number (pos 0))
  operations_in p g arrays c l (operators.Binary o t r) d all fits = converted_in r _ (binary_in o t (operand l d 0) (operand l d 1))
  operations_in p g arrays c l (operators.InstanceOf t) d all fits = truth_in (is_instance p g arrays t (operand l d 0))
  operations_in p g arrays c l (operators.Convert t) d all fits = converted_in t (operand l d 0) (first_operand l d fits)
  operations_in p g arrays c l operators.Length d all fits = number (pos 0)
  operations_in p g arrays c l operators.Element d all fits = element_in_range c (array_of arrays (operand l d 0)) (number_in (operand l d 1)) (array_in arrays (operand l d 0) all)
  operations_in p g arrays c l operators.StoreElement d all fits = fits.temps (d + 2)
  operations_in p g arrays c l (operators.StoreStatic f) d all fits = first_operand l d fits
  operations_in p g arrays c l (operators.NewArray t) d all fits = array 0

  -- ---- static fields

  put_in : (i : Option ℕ) (s : StoredStatic) (statics : List StoredStatic) → InRange s.value → StaticsIn statics → StaticsIn (put_at i s statics)
  put_in None s statics none all = All-push (λ s. InRange s.value) statics s all none
  put_in (Some i) s statics none all = All-set (λ s. InRange s.value) statics i s none all

  static_stays : (statics : List StoredStatic) (l : Locals) (o : Operator) (d : ℕ) → StaticsIn statics → LocalsInRange h l → StaticsIn (statics_with statics (static_by_operator l o d))
  static_stays statics l (operators.StoreStatic f) d all fits = put_in (position_from (is_static f) 0 statics) (static f (operand l d 0)) statics (first_operand l d fits) all
  static_stays statics l operators.Length d all fits = all
  static_stays statics l o d all fits = all

  pub statics_stay : (statics : List StoredStatic) (l : Locals) (a : Action) → StaticsIn statics → LocalsInRange h l → StaticsIn (statics_after statics l a)
  statics_stay statics l (actions.Op o d n) all fits = static_stays statics l o d all fits
  statics_stay statics l actions.Skip all fits = all
  statics_stay statics l a all fits = all

  -- ---- arrays

  default_element_in : (e : ElementType) → InRange (default_element e)
  default_element_in (elements.Primitive t) = number (pos 0)
  default_element_in elements.Str = null

  with_in : (a : ArrayObject) (i : ℕ) (v : Value) → ElementsIn a → InRange v → ElementsIn (with_element a i v)
  with_in a i v all none = go a.shared
    where
      go : (t : Bool) → ElementsIn (if t then a else record a { elements = slice_set a.elements i v })
      go true = all
      go false = All-set InRange a.elements i v none all

  stored_in : (arrays : List ArrayObject) (n : ℕ) (x : Option ArrayObject) (i : ℕ) (v : Value) → slice_get arrays n ≡ x → ArraysIn arrays → InRange v → ArraysIn (with_array arrays n x i v)
  stored_in arrays n None i v at all none = all
  stored_in arrays n (Some a) i v at all none = All-set ElementsIn arrays n (with_element a i v) (with_in a i v (all_at ElementsIn arrays n a all at) none) all

  store_in : (arrays : List ArrayObject) (a : Value) (i : ℤ) (v : Value) → ArraysIn arrays → InRange v → ArraysIn (store_element arrays a i v)
  store_in arrays (values.Array n) i v all none = stored_in arrays n (slice_get arrays n) (index_of i) v refl all none
  store_in arrays values.Nothing i v all none = all
  store_in arrays a i v all none = all

  elements_stay : (arrays : List ArrayObject) (l : Locals) (o : Operator) (d : ℕ) → ArraysIn arrays → LocalsInRange h l → ArraysIn (elements_by_operator arrays l o d)
  elements_stay arrays l operators.StoreElement d all fits = store_in arrays (operand l d 0) (number_in (operand l d 1)) (operand l d 2) all (fits.temps (d + 2))
  elements_stay arrays l operators.Length d all fits = all
  elements_stay arrays l o d all fits = all

  made_in : (t : VType) (n : ℤ) → ArraysIn (optional (array_by_type t n))
  made_in (types.Arr e) n = All-cons ElementsIn (new_array e n) [] (All-replicate InRange (index_of n) (default_element e) (default_element_in e)) (All-nil ElementsIn)
  made_in types.Str n = All-nil ElementsIn
  made_in t n = All-nil ElementsIn

  new_in : (l : Locals) (o : Operator) (d : ℕ) → ArraysIn (optional (array_by_operator l o d))
  new_in l (operators.NewArray t) d = made_in t (number_in (operand l d 0))
  new_in l operators.Length d = All-nil ElementsIn
  new_in l o d = All-nil ElementsIn

  pub arrays_stay : (arrays : List ArrayObject) (l : Locals) (a : Action) → ArraysIn arrays → LocalsInRange h l → ArraysIn (arrays_after arrays l a)
  arrays_stay arrays l (actions.Op o d n) all fits = All-append ElementsIn (elements_by_operator arrays l o d) (optional (array_by_operator l o d)) (elements_stay arrays l o d all fits) (new_in l o d)
  arrays_stay arrays l actions.Skip all fits = All-append ElementsIn arrays [] all (All-nil ElementsIn)
  arrays_stay arrays l a all fits = All-append ElementsIn arrays [] all (All-nil ElementsIn)

  -- ---- values that no step makes

  literal_in : (x : Literal) → InRange (literal_value x)
  literal_in (literals.Number z) = number z
  literal_in (literals.Character n) = number (pos n)
  literal_in (literals.Boolean b) = truth_in b
  literal_in literals.Text = text
  literal_in literals.Null = null

  default_value_in : (t : VType) → InRange (default_of t)
  default_value_in (types.Primitive k) = number (pos 0)
  default_value_in types.Str = null
  default_value_in (types.Arr e) = null
  default_value_in (types.Obj c) = null
  default_value_in types.NullType = null

  initial_in_range : (f : Option Field) → InRange (initial_in f)
  initial_in_range None = nothing_in_range h
  initial_in_range (Some x) = go x.initial
    where
      go : (l : Option Literal) → InRange (initial_of x.vtype l)
      go None = default_value_in x.vtype
      go (Some l) = literal_in l

  found_in : (f : FieldId) (statics : List StoredStatic) (v : Value) → StaticsIn statics → InRange v → InRange (unwrap_or (value_put (find (is_static f) statics)) v)
  found_in f [] v all none = none
  found_in f (s ∷ statics) v all none = go (is_static f s) (found_in f statics v (All-tail (λ s. InRange s.value) s statics all) none)
    where
      go : (t : Bool) → InRange (unwrap_or (value_put (find (is_static f) statics)) v) → InRange (unwrap_or (value_put (cond t (Some s) (find (is_static f) statics))) v)
      go true further = All-head (λ s. InRange s.value) s statics all
      go false further = further

  pub plain_in : (p : Program) (statics : List StoredStatic) (v : PlainValue) → StaticsIn statics → InRange (plain_value p statics v)
  plain_in p statics (plain.Literal x) all = literal_in x
  plain_in p statics (plain.Default t) all = default_value_in t
  plain_in p statics (plain.StaticField f) all = found_in f statics (initial_in (field_at p f)) all (initial_in_range (field_at p f))
  plain_in p statics (plain.LibraryConstant m) all = nothing_in_range h
