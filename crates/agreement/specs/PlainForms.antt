-- The forms that steps and calls of accepted programs have.
use Rattle.std.specs.Prelude.{◌≡◌, ℕ, Bool, true, false, not, ◌&&◌, ◌||◌, ◌⊎◌, Option, Some, None, List, slice_get}
use Rattle.std.specs.List.{All, list_all, list_any}
use Rattle.std.specs.FinSet as set
use Rattle.rlc_base.specs.declared.name_id.NameId.{NameId}
use Rattle.program_model.specs.declared.kinds.BodyId.{BodyId}
use Rattle.program_model.specs.declared.kinds.ClassId.{ClassId}
use Rattle.program_model.specs.declared.kinds.FieldId.{FieldId}
use Rattle.program_model.specs.declared.kinds.MethodId.{MethodId}
use Rattle.program_model.specs.declared.kinds.MethodKind.TheVariants as methods
use Rattle.program_model.specs.declared.kinds.VType.{VType}
use Rattle.program_model.specs.declared.kinds.VType.TheVariants as types
use Rattle.program_model.specs.declared.program.Class.{Class}
use Rattle.program_model.specs.declared.program.Field.{Field}
use Rattle.program_model.specs.declared.program.Method.{Method}
use Rattle.program_model.specs.declared.program.ParamSig.{ParamSig}
use Rattle.program_model.specs.declared.program.Program.{Program}
use Rattle.program_model.specs.declared.program.Promise.{Promise}
use Rattle.program_model.specs.declared.tree.Body.{Body}
use Rattle.program_model.specs.declared.kinds.Target.{Target}
use Rattle.program_model.specs.declared.kinds.Target.TheVariants as promised
use Rattle.program_model.specs.Lookups.{body_at, field_at, method_at}
use Rattle.program_model.specs.Overrides.{are_types, is_abstract, is_library}
use Rattle.program_model.specs.SuperTests.{has_class, is_under}
use Rattle.program_model.specs.Validity.{is_class_type}
use Rattle.ownership_rules.specs.Bodies.{alias_in, constructs, has_field_place, is_class_of, is_constructor, is_constructor_kind, reset_in}
use Rattle.ownership_rules.specs.MustCallSets.{Names, is_empty, must_of, must_of_optional, must_of_type}
use Rattle.must_call_sets.specs.OwningCases.{gives_as_alias}
use Rattle.ownership_rules.specs.OverrideCases.{has_other_owning, has_other_result, has_wider_result}
use Rattle.ownership_rules.specs.Signatures.{is_at, promised_names}
use Rattle.java_control.specs.Calls.{called_method}
use Rattle.java_control.specs.Owned.{declares_field, is_owning}
use Rattle.java_control.specs.Remaining.{Todo}
use Rattle.control_actions.specs.declared.action.Action.{Action}
use Rattle.control_actions.specs.declared.action.Action.TheVariants as actions
use Rattle.control_actions.specs.declared.action.PlainValue.{PlainValue}
use Rattle.control_actions.specs.declared.action.PlainValue.TheVariants as plain
use Rattle.place_laws.specs.Paths.{Comes, Move, relation_of}
use Rattle.heap_laws.specs.LedgerCallsCalls.{overriding_in}
use Rattle.heap_laws.specs.Results.{is_result_under}
use Rattle.place_laws.specs.Obligations.{is_library_method}
use Rattle.place_laws.specs.ClassOperands.{field_type}
use Rattle.place_laws.specs.Places.{SetsLocals}
use Rattle.fact_laws.specs.Storing.{HasStored}
use Rattle.agreement.specs.Renewing.{is_of_heavy_class, reopens}

-- ---- calls

-- the promise is on a field of `this`
abbrev pub IsOnField : Target → Type 0
IsOnField (promised.OfField f) = Unit {0}
IsOnField (promised.At k) = ⊥

-- the parameter is lent, so that the method takes no obligation by it: it is not owning, or its type has none
abbrev pub is_lent_parameter : Program → Option ParamSig → Bool
is_lent_parameter p None = false
is_lent_parameter p (Some x) = not (x.owning && not (is_empty (must_of_type p x.vtype)))

-- the method that an object of the class runs at a call that names this method
unfoldable pub run_by : Program → MethodId → ClassId → MethodId
run_by p m c = overriding_in p m (method_at p m) c

-- there may be objects of the class: it is one of the library, or one of the program that is not abstract (JLS 15.9.1)
abbrev pub may_be_made : Program → ClassId → Bool
may_be_made p c = is_library p c || not (is_abstract p c)

-- the other method may run at a call that names this one: it is that method, or an object of a class of which there may be objects would run it
pub data MayRun (p : Program) (m : MethodId) : MethodId → Type 0 where
  by_name : MayRun p m m
  by_class : (c : ClassId) → may_be_made p c ≡ true → MayRun p m (run_by p m c)

-- What callers are told of ownership by the signature that a call names holds of the method of the program that runs, it asks for no more calls on its
-- arguments before, and a result of no class type is of the named type (JLS 8.4.5). (The rules on overriding ask this of each method for those that it overrides.)
pub record RunsFor (p : Program) (named runs : Method) : Type 0 where
  pub types : are_types runs.sig.params.items named.sig.params.items ≡ true
  pub owning : has_other_owning runs.sig.params.items named.sig.params.items ≡ false
  pub asks : (k : ℕ) (x y : ParamSig) → slice_get runs.sig.params.items k ≡ Some x → slice_get named.sig.params.items k ≡ Some y → set.is_subset x.before y.before ≡ true
  pub result : has_other_result runs.sig named.sig ≡ false
  pub wider : has_wider_result p runs.sig named.sig ≡ false
  pub kind : (t : VType) → named.sig.result ≡ Some t → is_class_type t ≡ false → runs.sig.result ≡ Some t
  pub makes : is_constructor_kind runs.kind ≡ is_constructor_kind named.kind
  pub first : named.sig.first ≡ None
  pub alias : runs.sig.alias ≡ named.sig.alias
  pub reset : (k : ℕ) → runs.sig.reset ≡ Some k → named.sig.reset ≡ Some k

-- These promises have the names of the position. (A promise of the named method on an owning field is none that another method keeps.)
abbrev pub IsKeptBy : List Promise → Target → Names → Type 0
IsKeptBy promises (promised.At k) names = set.is_subset names (promised_names (λ t. is_at t k) promises) ≡ true
IsKeptBy promises (promised.OfField f) names = ⊥

-- what the named method promises, the method that runs promises as well, however they end
pub record KeepsPromises (named runs : Method) : Type 0 where
  pub returning : All (λ (q : Promise). IsKeptBy runs.sig.promises.items q.target q.names) named.sig.promises.items
  pub throwing : All (λ (q : Promise). IsKeptBy runs.sig.on_throw.items q.target q.names) named.sig.on_throw.items

-- A method of the library runs for one of the program, which its object's class implements by it (JLS 8.4.8.1): it is as the named signature says, its
-- result may stand for the named one's (JLS 8.4.5), and it promises what that one does.
pub record LibraryRunsFor (p : Program) (named runs : MethodId) : Type 0 where
  pub method : Method
  pub named_at : method_at p named ≡ Some method
  pub running : Method
  pub running_at : method_at p runs ≡ Some running
  pub kind : method.kind ≡ methods.Instance
  pub fit : RunsFor p method running
  pub result : is_result_under p running.sig.result method.sig.result ≡ true
  pub keeps : KeepsPromises method running

-- by the signature of this method the library answers a call that names the other: it is the named one, or runs for it
abbrev pub IsAnsweredBy : Program → MethodId → MethodId → Type 0
IsAnsweredBy p named m = (m ≡ named) ⊎ LibraryRunsFor p named m

-- A call that names this method is plain: a method of the library runs where the named one is the library's, or is as that says;
-- a method of the program is as the named signature says, and it promises what the named one does, or it is that method
-- itself.
pub record IsPlainCall (p : Program) (m : MethodId) : Type 0 where
  pub library : (r : MethodId) → MayRun p m r → is_library_method p (method_at p r) ≡ true → (is_library_method p (method_at p m) ≡ true) ⊎ LibraryRunsFor p m r
  pub program : (r : MethodId) (n x : Method) → MayRun p m r → method_at p m ≡ Some n → method_at p r ≡ Some x → is_library p x.class ≡ false → RunsFor p n x
  pub keeps : (r : MethodId) (n x : Method) → MayRun p m r → method_at p m ≡ Some n → method_at p r ≡ Some x → is_library p x.class ≡ false → KeepsPromises n x ⊎ (r ≡ m)

-- ---- actions

abbrev pub IsPlainRead : Program → PlainValue → Type 0
IsPlainRead p (plain.LibraryConstant m) = (is_library_method p (method_at p m) ≡ true) × (reset_in (method_at p m) ≡ None)
IsPlainRead p v = Unit {0}

abbrev pub IsPlainAction : Program → Action → Type 0
IsPlainAction p (actions.Copy x y) = SetsLocals (actions.Copy x y)
IsPlainAction p (actions.Move x y) = SetsLocals (actions.Move x y)
IsPlainAction p (actions.Plain x v) = IsPlainRead p v
IsPlainAction p (actions.Call m d n form) = IsPlainCall p m
IsPlainAction p (actions.New m d n) = IsPlainCall p m
IsPlainAction p (actions.Super m d n) = IsPlainCall p m × (constructs (method_at p m) ≡ true) × (alias_in (method_at p m) ≡ None)
IsPlainAction p a = Unit {0}

-- a super constructor is called
abbrev pub calls_constructor : Program → Action → Bool
calls_constructor p (actions.Super m d n) = constructs (method_at p m)
calls_constructor p a = false

-- the must-call method that a class with owning fields declares is the one that its objects run, where there may be some, whichever method of
-- this name a call names
abbrev pub RunsOwnMethods : Program → Type 0
RunsOwnMethods p = (named m : MethodId) (n d : Method) (f : FieldId) (x : Field) (i : NameId) → method_at p named ≡ Some n → method_at p m ≡ Some d
    → may_be_made p d.class ≡ true → field_at p f ≡ Some x → x.owning ≡ true → x.class ≡ d.class → n.sig.interest ≡ Some i → d.sig.interest ≡ Some i
    → set.contains (must_of p d.class) i.0 ≡ true → is_under p d.class n.class ≡ true → run_by p named d.class ≡ m

-- nothing must be called on objects of the class, and no method or constructor gives them as aliases
abbrev pub owes_nothing : Program → Class → Bool
owes_nothing p k = is_empty k.must && not (list_any (gives_as_alias k) p.methods.items)

-- The type is a class that `String` is not under, and so it is with objects of this class, and of each class under it.
abbrev pub all_owe_nothing : Program → Option VType → Bool
all_owe_nothing p (Some (types.Obj c)) = not (is_under p p.core.string c) && list_all (λ (k : Class). not (has_class k.above.items c) || owes_nothing p k) p.classes.items
all_owe_nothing p t = false

-- The owning field is one of `this`, which the body's class declares, and of type `String`: so it is where another operator than `=` stores it (JLS 15.26.2).
abbrev pub IsTextUpdate : Program → Body → FieldId → Bool → Type 0
IsTextUpdate p b f through_this = (through_this ≡ true) × (declares_field p b f ≡ true) × (field_type p f ≡ Some types.Str)

-- The method is a constructor, or one, of a class with an obligation, that creates the obligation of `this` anew, and the field's type has an obligation, too.
abbrev pub StoresPlainly : Program → Option Method → FieldId → Type 0
StoresPlainly p m f = (constructs m ≡ true) ⊎ ((reopens m ≡ true) × (is_of_heavy_class p m ≡ true) × (not (is_empty (must_of_optional p (field_type p f))) ≡ true))

-- Each step that a control of a body can reach has one of the plain forms; owning fields are stored by `=` in bodies of the class that
-- declares them, and otherwise by `+=` on texts alone; no super constructor is called behind such a store, nor behind a call that creates the obligation of `this` anew; no class with owning fields is the one whose constructor is called so, nor has it another one under it; and
-- objects with owning fields run their own must-call methods. All classes above one of the library are the library's, and so is the class of what a method of it gives.
pub record HasPlainForms (p : Program) : Type 0 where
  pub steps : (b : BodyId) {k : List Todo} (i : ℕ) (t : Move (List Todo)) → Comes (relation_of p b) k
      → slice_get ((relation_of p b).next k) i ≡ Some t → IsPlainAction p t.action
  pub supers : (b : BodyId) {k : List Todo} (i : ℕ) (t : Move (List Todo)) → HasStored p b k
      → slice_get ((relation_of p b).next k) i ≡ Some t → calls_constructor p t.action ≡ false
  pub super_calls : (b : BodyId) {k : List Todo} (i : ℕ) (t : Move (List Todo)) → Comes (relation_of p b) k
      → slice_get ((relation_of p b).next k) i ≡ Some t → calls_constructor p t.action ≡ true → is_constructor p b ≡ true
  pub stores : (b : BodyId) {k : List Todo} (i : ℕ) (t : Move (List Todo)) (f : FieldId) (d : ℕ) → Comes (relation_of p b) k
      → slice_get ((relation_of p b).next k) i ≡ Some t → t.action ≡ actions.PutOwn f d → has_field_place p b f ≡ true
  pub updates : (b : BodyId) (x : Body) {k : List Todo} (i : ℕ) (t : Move (List Todo)) (f : FieldId) (d : ℕ) (through_this : Bool) → body_at p b ≡ Some x → Comes (relation_of p b) k
      → slice_get ((relation_of p b).next k) i ≡ Some t → t.action ≡ actions.Put f d through_this → is_owning p f ≡ true → IsTextUpdate p x f through_this
  pub parents : (b : BodyId) {k : List Todo} (i : ℕ) (t : Move (List Todo)) (m : MethodId) (f : FieldId) (x : Field) → Comes (relation_of p b) k
      → slice_get ((relation_of p b).next k) i ≡ Some t → calls_constructor p t.action ≡ true → called_method t.action ≡ Some m → field_at p f ≡ Some x → x.owning ≡ true
      → is_class_of x.class (method_at p m) ≡ false
  pub own : RunsOwnMethods p
  pub library : (c d : ClassId) → is_under p c d ≡ true → is_library p c ≡ true → is_library p d ≡ true
  pub given : (m : MethodId) (x : Method) (c : ClassId) → method_at p m ≡ Some x → is_library p x.class ≡ true → x.sig.result ≡ Some (types.Obj c) → is_library p c ≡ true
  pub alone : (c : ClassId) (f : FieldId) (x : Field) → field_at p f ≡ Some x → x.owning ≡ true → is_under p c x.class ≡ true → c ≡ x.class
