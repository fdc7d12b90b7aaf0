-- What a call is noted on: the receiver and the other operands of the object of a fact whose places are variables and temps.
use Rattle.std.proofs.Common.{◌≡◌, ℕ, zero, suc, ◌+◌, ◌<◌, Bool, true, false, ◌&&◌, Option, Some, None, [], ◌∷◌, refl, sym, ap, ◌∙◌, subst, true≢false, if◌then◌else◌, nat_lt, lt-ltb, ltb-true, ltb-false, eq-eqb, arith}
use Rattle.rlc_base.specs.declared.name_id.NameId.{NameId}
use Rattle.program_model.specs.declared.kinds.BodyId.{BodyId}
use Rattle.program_model.specs.declared.kinds.FieldId.{FieldId}
use Rattle.program_model.specs.declared.kinds.MethodId.{MethodId}
use Rattle.program_model.specs.declared.kinds.MethodKind.{MethodKind}
use Rattle.program_model.specs.declared.kinds.MethodKind.TheVariants as methods
use Rattle.program_model.specs.declared.program.Method.{Method}
use Rattle.program_model.specs.declared.program.Program.{Program}
use Rattle.program_model.specs.declared.kinds.Target.{Target}
use Rattle.program_model.specs.declared.kinds.Target.TheVariants as promised
use Rattle.program_model.specs.Lookups.{method_at}
use Rattle.ledger_steps.specs.Bodies.{constructs, has_field_place, is_constructor_kind, is_instance_kind}
use Rattle.ownership_rules.specs.WellFormed.{HasSmallInterests, interest_of}
use Rattle.java_control.specs.Calls.{operand_at}
use Rattle.control_actions.specs.declared.action.Action.{Action}
use Rattle.control_actions.specs.declared.action.Action.TheVariants as actions
use Rattle.control_actions.specs.declared.action.TargetForm.TheVariants as forms
use Rattle.java_control.specs.Owned.{place_of_field}
use Rattle.java_control.specs.PlaceNumbers.{IsSmall}
use Rattle.control_actions.specs.declared.place.Place.{Place}
use Rattle.control_actions.specs.declared.place.Place.TheVariants as places
use Rattle.ownership_rules.specs.Callees.{callee, holds_operand, is_super_target, is_this_target}
use Rattle.ownership_rules.specs.Facts.{PlaceSet, has, has_temp}
use Rattle.ownership_rules.specs.SmallActions.{IsSmallAction, IsSmallTemp}
use Rattle.ownership_rules.proofs.SmallOperands.{no_operand, operand_has_room}
use Rattle.fact_laws.specs.CalledRows.{holds_field, holds_receiver, holds_target, interest_in}
use Rattle.fact_laws.proofs.CallNames.{callee_small}
use Rattle.fact_laws.specs.Accept.{Accept}
use Rattle.ledger_state.specs.Contents.{HeapContents}
use Rattle.ledger_state.specs.Heaps.{root, root_of}
use Rattle.ledger_state.specs.Locals.{temp_in}
use Rattle.ledger_state.specs.Values.{number_of}
use Rattle.ledger_state.specs.declared.locals.Locals.{Locals}
use Rattle.ledger_state.specs.declared.value.Value.{Value}
use Rattle.ledger_state.specs.declared.value.Value.TheVariants as values
use Rattle.ledger_steps.specs.Obligations.{has_note, note}
use Rattle.ledger_steps.specs.LedgerCallsCalls.{depth_at, operand_of, receiver_note}
use Rattle.ledger_steps.specs.LedgerCallsCalls as calls
use Rattle.agreement.specs.PlacePlaces.{is_local}
use Rattle.agreement.specs.PlainForms.{IsOnField, IsPlainAction}
use Rattle.frame_laws.proofs.Carried.{HoldIt}

-- ---- operands

-- the temp of an operand that is among the places
pub holds_at : (held : PlaceSet) (d : Option ℕ) → has_temp held d ≡ true → (n : ℕ) × (d ≡ Some n) × (has held (places.Temp n) ≡ true)
holds_at held None is = absurd (true≢false (sym is))
holds_at held (Some n) is = (n, refl, is)

-- the temp at a position of 32 bits
pub depth_is : (a : Action) (k n : ℕ) → k < 4294967296 → operand_at a k ≡ Some n → depth_at a k ≡ Some n
depth_is a k n below is = rw (lt-ltb k 4294967296 below) is

pub operand_of_fact : (p : Program) (h : HeapContents) (m : MethodId) (l : Locals) (a : Action) (o k : ℕ) (held : PlaceSet) → IsSmallAction p a → k < 4294967296
    → HoldIt p h m l o held → holds_operand a held k ≡ true → root_of h (operand_of l a k) ≡ Some o
operand_of_fact p h m l a o k held small below hold is =
    let d = holds_at held (operand_at a k) is in
    let room : d.0 < 64 = subst IsSmallTemp d.1 (operand_has_room p a k small) in
    ap (λ (x : Option ℕ). root_of h (temp_in l x)) (depth_is a k d.0 below d.1) ∙ (hold (places.Temp d.0) room d.2).1

-- no position beyond the temps has an operand
pub operand_is_near : (p : Program) (a : Action) (held : PlaceSet) (j : ℕ) → IsSmallAction p a → holds_operand a held (j + 1) ≡ true → j < 64
operand_is_near p a held j small is = go (nat_lt j 64) refl
  where
    go : (b : Bool) → nat_lt j 64 ≡ b → j < 64
    go true one = ltb-true j 64 one
    go false one = absurd (true≢false (sym is ∙ ap (has_temp held) (no_operand p a j small (ltb-false j 64 one))))

-- so an operand of a fact stands at a position of 32 bits
pub operand_has_position : (p : Program) (a : Action) (held : PlaceSet) (k : ℕ) → IsSmallAction p a → holds_operand a held k ≡ true → k < 4294967296
operand_has_position p a held zero small is = omega arith
operand_has_position p a held (suc j) small is =
    let next : j + 1 ≡ suc j = omega arith in
    let near = operand_is_near p a held j small (ap (holds_operand a held) next ∙ is) in
    omega (arith, near)

-- ---- places

-- the places are variables and temps
abbrev pub HasLocals : PlaceSet → Type 0
HasLocals held = (q : Place) → IsSmall q → has held q ≡ true → is_local q ≡ true

pub not_among : (held : PlaceSet) (q : Place) → HasLocals held → IsSmall q → is_local q ≡ false → has held q ≡ false
not_among held q locals small out = go (has held q) refl
  where
    go : (x : Bool) → has held q ≡ x → has held q ≡ false
    go true is = absurd (true≢false (sym (locals q small is) ∙ out))
    go false is = is

-- so none is that of a field of `this`
no_field : (p : Program) (ac : Accept p) (b : BodyId) (held : PlaceSet) (f : FieldId) → HasLocals held → holds_field p b held f ≡ false
no_field p ac b held f locals = go (has_field_place p b f) refl
  where
    go : (x : Bool) → has_field_place p b f ≡ x → (x && has held (place_of_field p f)) ≡ false
    go true is = not_among held (place_of_field p f) locals ((ac.fits b).room.fields f is) refl
    go false is = refl

-- and no promise on a field is one on them
pub no_target : (p : Program) (ac : Accept p) (b : BodyId) (a : Action) (held : PlaceSet) (t : Target) → HasLocals held → IsOnField t → holds_target p b a held t ≡ false
no_target p ac b a held (promised.OfField f) locals on = ap (λ (x : Bool). is_this_target a && x) (no_field p ac b held f locals) ∙ none (is_this_target a)
  where
    none : (x : Bool) → (x && false) ≡ false
    none true = refl
    none false = refl
no_target p ac b a held (promised.At k) locals on = absurd on

-- ---- the receiver

-- the super class's part of `this` is none of the places that hold an object
no_super : (p : Program) (h : HeapContents) (m : MethodId) (l : Locals) (o : ℕ) (held : PlaceSet) → HoldIt p h m l o held → has held places.Super ≡ false
no_super p h m l o held hold = go (has held places.Super) refl
  where
    go : (b : Bool) → has held places.Super ≡ b → has held places.Super ≡ false
    go true is = absurd (true≢false (sym (hold places.Super tt is).0))
    go false is = is

-- so the receiver is the operand of position 0, and the call is not `super.m()`
pub receiver_operand : (p : Program) (h : HeapContents) (m : MethodId) (l : Locals) (o : ℕ) (a : Action) (held : PlaceSet) → HoldIt p h m l o held → holds_receiver a held ≡ true
    → (is_super_target a ≡ false) × (holds_operand a held 0 ≡ true)
receiver_operand p h m l o a held hold is = go (is_super_target a) refl is
  where
    go : (b : Bool) → is_super_target a ≡ b → (if b then has held places.Super else holds_operand a held 0) ≡ true → (is_super_target a ≡ false) × (holds_operand a held 0 ≡ true)
    go true super one = absurd (true≢false (sym one ∙ no_super p h m l o held hold))
    go false other one = (other, one)

-- what has a root is an object
pub object_with_root : (h : HeapContents) (v : Value) (o : ℕ) → root_of h v ≡ Some o → (k : ℕ) × (v ≡ values.Object k) × (root h k ≡ o)
object_with_root h (values.Object k) o is = (k, refl, (let both : Some (root h k) ≡ Some o = is in (let one : root h k ≡ o = cc in one)))
object_with_root h values.Nothing o is = absurd (let never : None ≡ Some o = is in cc)
object_with_root h v o is = absurd (let never : None ≡ Some o = is in cc)

-- a note is among itself
same_here : (k : ℕ) (n : NameId) → has_note (note false k n ∷ []) (note false k n) ≡ true
same_here k n = rw (eq-eqb k k refl, eq-eqb n.0 n.0 refl) refl

pub same_interest : (m : Option Method) → calls.interest_in m ≡ interest_in m
same_interest None = refl
same_interest (Some m) = refl

-- a constructor counts for no name
ctor_is_none : (k : MethodKind) → is_constructor_kind k ≡ true → is_instance_kind k ≡ false
ctor_is_none methods.Ctor is = refl
ctor_is_none methods.Instance is = absurd (true≢false (sym is))
ctor_is_none methods.Static is = absurd (true≢false (sym is))
ctor_is_none methods.Constant is = absurd (true≢false (sym is))

no_name : (p : Program) (x : Method) → is_constructor_kind x.kind ≡ true → interest_of p x ≡ None
no_name p x is = rw (ctor_is_none x.kind is) refl

constructor_name : (p : Program) (ac : Accept p) (m : MethodId) (x : Option Method) → method_at p m ≡ x → constructs x ≡ true → calls.interest_in x ≡ None
constructor_name p ac m None at is = refl
constructor_name p ac m (Some x) at is = ac.well_formed.interests m x at ∙ no_name p x is

abbrev HasName : Action → Option Method → Type 0
HasName (actions.Super m d n) x = calls.interest_in x ≡ None
HasName a x = Unit {0}

has_name : (p : Program) (ac : Accept p) (a : Action) → IsPlainAction p a → HasName a (callee p a)
has_name p ac actions.Skip plain = tt
has_name p ac (actions.Super m d n) plain = constructor_name p ac m (method_at p m) refl plain.1
has_name p ac a plain = tt

noted_by : (l : Locals) (a : Action) (held : PlaceSet) (k : ℕ) (n : NameId) (m : Option Method) → HasName a m → is_super_target a ≡ false → holds_operand a held 0 ≡ true
    → number_of (operand_of l a 0) ≡ Some k → calls.interest_in m ≡ Some n → has_note (receiver_note l a m) (note false k n) ≡ true
noted_by l actions.Skip held k n m name other is number interest = absurd (true≢false (sym is))
noted_by l (actions.Call c d e forms.Static) held k n m name other is number interest = absurd (true≢false (sym is))
noted_by l (actions.Call c d e forms.Other) held k n m name other is number interest = rw (number, interest) (same_here k n)
noted_by l (actions.Call c d e forms.This) held k n m name other is number interest = rw (number, interest) (same_here k n)
noted_by l (actions.Call c d e forms.Super) held k n m name other is number interest = absurd (true≢false other)
noted_by l (actions.New c d e) held k n m name other is number interest = absurd (true≢false (sym is))
noted_by l (actions.Super c d e) held k n m name other is number interest = absurd (let never : None ≡ Some n = sym name ∙ interest in cc)
noted_by l a held k n m name other is number interest = absurd (true≢false (sym is))

-- The call is noted on the receiver, whose root is the object.
pub record IsReceiver (h : HeapContents) (l : Locals) (a : Action) (m : Option Method) (o : ℕ) (n : NameId) : Type 0 where
  pub object : ℕ
  pub value : operand_of l a 0 ≡ values.Object object
  pub root : root h object ≡ o
  pub noted : has_note (receiver_note l a m) (note false object n) ≡ true

-- so it is for the object of a fact that has the receiver
pub noted_receiver : (p : Program) (ac : Accept p) (h : HeapContents) (m : MethodId) (l : Locals) (a : Action) (o : ℕ) (held : PlaceSet) (n : NameId) → IsPlainAction p a
    → IsSmallAction p a → HoldIt p h m l o held → holds_receiver a held ≡ true → interest_in (callee p a) ≡ Some n → IsReceiver h l a (callee p a) o n
noted_receiver p ac h m l a o held n plain small hold receives interest =
    let operand = receiver_operand p h m l o a held hold receives in
    let is = object_with_root h (operand_of l a 0) o (operand_of_fact p h m l a o 0 held small (omega arith) hold operand.1) in
    record {
      object = is.0;
      value = is.1;
      root = is.2;
      noted = noted_by l a held is.0 n (callee p a) (has_name p ac a plain) operand.0 operand.1 (ap number_of is.1) (same_interest (callee p a) ∙ interest);
    }

pub small_name : (p : Program) (a : Action) (n : NameId) → HasSmallInterests p → interest_in (callee p a) ≡ Some n → n.0 < 128
small_name p a n small is = go (callee p a) refl is
  where
    go : (x : Option Method) → callee p a ≡ x → interest_in x ≡ Some n → n.0 < 128
    go None at named = absurd (let never : None ≡ Some n = named in cc)
    go (Some x) at named = callee_small p a x n small at named
