-- Values that are in range.
use Rattle.std.specs.Prelude.{◌-◌, max}
use Rattle.std.specs.List.{range_with_len}
use Rattle.std.proofs.Common.{◌≡◌, ℕ, zero, suc, ◌≤◌, Bool, true, false, Option, Some, None, List, [], ◌∷◌, All, length, map, slice_get, find, unwrap_or, cond, refl, sym, ◌∙◌, subst, if◌then◌else◌, arith}
use Rattle.std.proofs.lemmas.List.Elements.{All-append, All-cons, All-head, All-map, All-nil, All-replicate, All-tail}
use Rattle.program_model.specs.declared.kinds.BodyId.{BodyId}
use Rattle.program_model.specs.declared.kinds.FieldId.{FieldId}
use Rattle.program_model.specs.declared.kinds.MethodId.{MethodId}
use Rattle.program_model.specs.declared.kinds.VType.{VType}
use Rattle.program_model.specs.declared.kinds.VType.TheVariants as types
use Rattle.program_model.specs.declared.program.Field.{Field}
use Rattle.program_model.specs.declared.program.Method.{Method}
use Rattle.program_model.specs.declared.program.Program.{Program}
use Rattle.program_model.specs.Lookups.{field_at, method_at}
use Rattle.control_actions.specs.declared.action.Action.{Action}
use Rattle.control_actions.specs.declared.action.Edge.{Edge}
use Rattle.control_actions.specs.declared.place.Place.{Place}
use Rattle.control_actions.specs.declared.place.Place.TheVariants as places
use Rattle.ledger_state.specs.Contents.{HeapContents}
use Rattle.ledger_state.specs.Fields.{default_in, field_of}
use Rattle.ledger_state.specs.Heaps.{is_field_of, next_number, value_stored}
use Rattle.ledger_state.specs.Locals.{temp_in, temp_value, variable_value}
use Rattle.ledger_state.specs.Values.{default_of, number_of, value_or_nothing}
use Rattle.ledger_state.specs.declared.locals.Locals.{Locals}
use Rattle.ledger_state.specs.declared.object.StoredField.{StoredField}
use Rattle.ledger_state.specs.declared.value.Value.{Value}
use Rattle.ledger_state.specs.declared.value.Value.TheVariants as values
use Rattle.agreement.specs.Places.{field_place_value, owning_field_beside, place_value}
use Rattle.ledger_steps.specs.LedgerCallsCalls.{argument_values, begun, body_of, control_in, depth_at, operand_of, params_in, variable_count}
use Rattle.ledger_moves.specs.Configuration.{Frame}
use Rattle.ledger_moves.specs.Choosing.{method_body}
use Rattle.ledger_moves.specs.LedgerFramesFrames.{depth_of, is_made, locals_after, made_place, numbers_below, source_by, sourced, value_after}
use Rattle.agreement.specs.Ranges.{FieldsInRange, IsInRange, IsStoredInRange, LocalsInRange}
use Rattle.frame_laws.proofs.Growth.{Grows}

-- ---- lists

pub all_more : {X : Type 0} (P Q : X → Type 0) (more : (x : X) → P x → Q x) (xs : List X) → All P xs → All Q xs
all_more P Q more [] all = All-nil Q
all_more P Q more (x ∷ xs) all = All-cons Q x xs (more x (All-head P x xs all)) (all_more P Q more xs (All-tail P x xs all))

all_any : {X : Type 0} (P : X → Type 0) (any : (x : X) → P x) (xs : List X) → All P xs
all_any P any [] = All-nil P
all_any P any (x ∷ xs) = All-cons P x xs (any x) (all_any P any xs)

-- ---- values that are no objects

pub nothing_in_range : (h : HeapContents) → IsInRange h values.Nothing
nothing_in_range h k is = absurd (let never : None ≡ Some k = is in cc)

pub none_in_range : (h : HeapContents) (v : Value) → number_of v ≡ None → IsInRange h v
none_in_range h v none k is = absurd (let never : None ≡ Some k = sym none ∙ is in cc)

no_default : (t : VType) → number_of (default_of t) ≡ None
no_default (types.Primitive t) = refl
no_default t = refl

default_in_range : (h : HeapContents) (f : Option Field) → IsInRange h (default_in f)
default_in_range h None = nothing_in_range h
default_in_range h (Some f) = none_in_range h (default_of f.vtype) (no_default f.vtype)

-- ---- growth

pub value_stays : (h k : HeapContents) → next_number h ≤ next_number k → (v : Value) → IsInRange h v → IsInRange k v
value_stays h k grows v in' j is = let number = in' j is in (number.0, (let below = number.1 in omega (arith, below, grows)))

pub locals_stay : (h k : HeapContents) → next_number h ≤ next_number k → (l : Locals) → LocalsInRange h l → LocalsInRange k l
locals_stay h k grows l in' = record {
  variables = λ i. value_stays h k grows (variable_value l i) (in'.variables i);
  this = value_stays h k grows l.this in'.this;
  temps = λ d. value_stays h k grows (temp_value l d) (in'.temps d);
}

stored_stays : (h k : HeapContents) → Grows h k → (s : StoredField) → IsStoredInRange h s → IsStoredInRange k s
stored_stays h k grows s in' = ((in'.0.0, (let below = in'.0.1 in let more = grows.count in omega (arith, below, more))), value_stays h k grows.count s.value in'.1)

pub fields_stay : (h k : HeapContents) → Grows h k → FieldsInRange h → FieldsInRange k
fields_stay h k grows in' =
    subst (λ (fs : List StoredField). All (IsStoredInRange k) fs) (sym grows.fields) (all_more (IsStoredInRange h) (IsStoredInRange k) (stored_stays h k grows) h.fields in')

-- ---- what is held

pub held_in_range : (h : HeapContents) (vs : List Value) (i : ℕ) → All (IsInRange h) vs → IsInRange h (value_or_nothing (slice_get vs i))
held_in_range h [] zero all = nothing_in_range h
held_in_range h [] (suc i) all = nothing_in_range h
held_in_range h (v ∷ vs) zero all = All-head (IsInRange h) v vs all
held_in_range h (v ∷ vs) (suc i) all = held_in_range h vs i (All-tail (IsInRange h) v vs all)

found_in_range : (h : HeapContents) (w : ℕ) (f : FieldId) (v : Value) (fs : List StoredField) → All (IsStoredInRange h) fs → IsInRange h v
    → IsInRange h (unwrap_or (value_stored (find (is_field_of w f) fs)) v)
found_in_range h w f v [] all other = other
found_in_range h w f v (s ∷ fs) all other = go (is_field_of w f s) (found_in_range h w f v fs (All-tail (IsStoredInRange h) s fs all) other)
  where
    go : (b : Bool) → IsInRange h (unwrap_or (value_stored (find (is_field_of w f) fs)) v) → IsInRange h (unwrap_or (value_stored (cond b (Some s) (find (is_field_of w f) fs))) v)
    go true further = (All-head (IsStoredInRange h) s fs all).1
    go false further = further

pub field_in_range : (p : Program) (h : HeapContents) → FieldsInRange h → (v : Value) (f : FieldId) → IsInRange h (field_of p h v f)
field_in_range p h in' values.Nothing f = nothing_in_range h
field_in_range p h in' (values.Object w) f = found_in_range h w f (default_in (field_at p f)) h.fields in' (default_in_range h (field_at p f))
field_in_range p h in' v f = nothing_in_range h

field_place_in_range : (p : Program) (h : HeapContents) → FieldsInRange h → (v : Value) (f : Option FieldId) → IsInRange h (field_place_value p h v f)
field_place_in_range p h in' v None = nothing_in_range h
field_place_in_range p h in' v (Some f) = field_in_range p h in' v f

pub place_in_range : (p : Program) (h : HeapContents) → FieldsInRange h → (m : MethodId) (l : Locals) → LocalsInRange h l → (q : Place) → IsInRange h (place_value p h m l q)
place_in_range p h fields m l in' (places.Var i) = in'.variables i
place_in_range p h fields m l in' places.This = in'.this
place_in_range p h fields m l in' (places.Field k) = field_place_in_range p h fields l.this (owning_field_beside p m k)
place_in_range p h fields m l in' (places.Temp d) = in'.temps d
place_in_range p h fields m l in' places.Super = nothing_in_range h

temp_in_range : (h : HeapContents) (l : Locals) → LocalsInRange h l → (d : Option ℕ) → IsInRange h (temp_in l d)
temp_in_range h l in' None = nothing_in_range h
temp_in_range h l in' (Some d) = in'.temps d

pub operand_in_range : (h : HeapContents) (l : Locals) → LocalsInRange h l → (a : Action) (k : ℕ) → IsInRange h (operand_of l a k)
operand_in_range h l in' a k = temp_in_range h l in' (depth_at a k)

-- ---- a frame after a step

module _ (p : Program) (h k : HeapContents) (grows : next_number h ≤ next_number k) (fields : FieldsInRange h) (m : MethodId) (l : Locals) (in' : LocalsInRange h l) (a : Action) (e : Edge) (v : Value)
    (made : IsInRange k v) where
  sourced_in_range : (q : Place) (x : Option Place) → IsInRange k (sourced p h m l a v q x)
  sourced_in_range q None = go (is_made (made_place a) q)
    where
      go : (b : Bool) → IsInRange k (if b then v else values.Nothing)
      go true = made
      go false = nothing_in_range k
  sourced_in_range q (Some x) = value_stays h k grows (place_value p h m l x) (place_in_range p h fields m l in' x)

  after_in_range : (q : Place) → IsInRange k (value_after p h m l a e v q)
  after_in_range q = sourced_in_range q (source_by p (method_body p m) a e q)

  mapped_in_range : (place : ℕ → Place) (n i : ℕ) → IsInRange k (value_or_nothing (slice_get (map (λ j. value_after p h m l a e v (place j)) (numbers_below n)) i))
  mapped_in_range place n i =
      held_in_range k (map (λ j. value_after p h m l a e v (place j)) (numbers_below n)) i
      (All-map (IsInRange k) (λ j. value_after p h m l a e v (place j)) (numbers_below n) (all_any (λ j. IsInRange k (value_after p h m l a e v (place j))) (λ j. after_in_range (place j)) (numbers_below n)))

  pub locals_in_range : LocalsInRange k (locals_after p h m l a e v)
  locals_in_range = record {
    variables = λ i. mapped_in_range (λ j. places.Var j) (length l.variables) i;
    this = value_stays h k grows l.this in'.this;
    temps = λ d. mapped_in_range (λ j. places.Temp j) (max (length l.temps) (depth_of a)) d;
  }

-- ---- a frame that begins

pub arguments_in_range : (h : HeapContents) (l : Locals) → LocalsInRange h l → (a : Action) (m : Option Method) → All (IsInRange h) (argument_values l a m)
arguments_in_range h l in' a m =
    All-map (IsInRange h) (operand_of l a) (range_with_len 1 (length (params_in m)))
    (all_any (λ k. IsInRange h (operand_of l a k)) (λ k. operand_in_range h l in' a k) (range_with_len 1 (length (params_in m))))

control_keeps : (p : Program) (b : Option BodyId) (fr : Frame) → (control_in p b fr).locals ≡ fr.locals
control_keeps p None fr = refl
control_keeps p (Some b) fr = refl

pub begun_in_range : (p : Program) (h : HeapContents) (m : MethodId) (self : Value) (arguments : List Value) → IsInRange h self → All (IsInRange h) arguments → LocalsInRange h (begun p m self arguments).locals
begun_in_range p h m self arguments this all = subst (LocalsInRange h) (sym (control_keeps p (body_of (method_at p m)) _)) (record {
  variables = λ i. held_in_range h _ i (All-append (IsInRange h) arguments _ all (All-replicate (IsInRange h) (variable_count p (body_of (method_at p m)) - length arguments) values.Nothing (nothing_in_range h)));
  this = this;
  temps = λ d. nothing_temps d;
})
  where
    nothing_temps : (d : ℕ) → IsInRange h (value_or_nothing (slice_get [] d))
    nothing_temps zero = nothing_in_range h
    nothing_temps (suc d) = nothing_in_range h
