-- What owning fields hold and own.
use Rattle.std.specs.Prelude.{◌≡◌, ◌⊎◌, ℕ, Bool, true, false, not, ◌&&◌, ◌||◌, Some, None, List, [], ◌∷◌, slice_get}
use Rattle.std.specs.List.{list_any}
use Rattle.std.specs.FinSet as set
use Rattle.rlc_base.specs.declared.name_id.NameId.{NameId}
use Rattle.program_model.specs.NameSets.{Names}
use Rattle.program_model.specs.declared.kinds.ClassId.{ClassId}
use Rattle.program_model.specs.declared.kinds.FieldId.{FieldId}
use Rattle.program_model.specs.declared.kinds.MethodId.{MethodId}
use Rattle.program_model.specs.declared.program.Field.{Field}
use Rattle.program_model.specs.declared.program.Method.{Method}
use Rattle.program_model.specs.declared.program.Program.{Program}
use Rattle.program_model.specs.Lookups.{field_at, method_at}
use Rattle.program_model.specs.Overrides.{is_library}
use Rattle.program_model.specs.SuperTests.{is_under}
use Rattle.ownership_rules.specs.Bodies.{constructs, is_class_of}
use Rattle.ownership_rules.specs.MustCallSets.{is_heavy_class, must_of, must_of_type}
use Rattle.ownership_rules.specs.Signatures.{is_of_field, promised_names}
use Rattle.ledger_state.specs.Contents.{HeapContents}
use Rattle.ledger_state.specs.Fields.{field_value}
use Rattle.ledger_state.specs.Heaps.{object_at, root, root_of}
use Rattle.ledger_state.specs.declared.entry.Owner.TheVariants as owners
use Rattle.ledger_state.specs.declared.object.Object.{Object}
use Rattle.ledger_state.specs.declared.value.Value.TheVariants as values
use Rattle.place_laws.specs.Obligations.{is_library_owner, is_unmet}
use Rattle.java_control.specs.Calls.{called_method}
use Rattle.java_control.specs.Control.{Step}
use Rattle.java_control.specs.Owned.{is_owning}
use Rattle.control_actions.specs.declared.action.Action.{Action}
use Rattle.control_actions.specs.declared.action.Action.TheVariants as actions
use Rattle.control_actions.specs.declared.action.TargetForm.{TargetForm}
use Rattle.control_actions.specs.declared.action.TargetForm.TheVariants as forms
use Rattle.heap_laws.specs.LedgerCallsCalls.{form_of, is_alias, operand_of}
use Rattle.ledger_runs.specs.Configuration.{Frame}
use Rattle.ledger_runs.specs.Choosing.{frame_steps}
use Rattle.heap_laws.specs.Leading.{Leads}
use Rattle.agreement.specs.PlainForms.{run_by}
use Rattle.agreement.specs.Renewable.{IsFollowed}
use Rattle.agreement.specs.PlaceFacts.{OwesOrHolds, is_heavy_in}
use Rattle.agreement.specs.Renewing.{IsMadeBy}
use Rattle.agreement.specs.Safety.{constructs_object}

-- the names that the method promises to call on what the field of `this` holds
abbrev pub promised_on : FieldId → Method → Names
promised_on f m = promised_names (λ t. is_of_field t f) m.sig.promises.items

-- What was called on the object `y` was done to `x`, which its field holds: of each must-call method that its class declares and that
-- was called, all that it promises on the field was called.
abbrev pub IsKept : Program → Object → FieldId → Object → Type 0
IsKept p y f x = (m : MethodId) (d : Method) (n : NameId) → method_at p m ≡ Some d → d.class ≡ y.class → d.sig.interest ≡ Some n
    → set.contains (must_of p y.class) n.0 ≡ true → set.contains y.called n.0 ≡ true → set.is_subset (promised_on f d) x.called ≡ true

-- the frame runs a constructor of the class on object `w`
abbrev pub makes_object : Program → ℕ → ClassId → Frame → Bool
makes_object p w c fr = constructs_object p w fr && is_class_of c (method_at p fr.method)

-- it is one that makes no alias
abbrev pub makes_holder : Program → ℕ → ClassId → Frame → Bool
makes_holder p w c fr = makes_object p w c fr && not (is_alias (method_at p fr.method))

-- such a frame is among these
abbrev pub is_made_in : Program → ℕ → ClassId → List Frame → Bool
is_made_in p w c frs = list_any (makes_holder p w c) frs

-- Field `f` of object `w` owns object `o`, which is `x`: the class of the holder, one of the program, declares the field, which holds the object and whose
-- type bounds the obligation of its class, and this its own; the holder is linked to none; where it is finished, and the object is unmet, all that its class asks for must be called on it, and what was called on it was done to
-- the object, and where it is not, its constructor runs, which makes no alias.
pub record IsContent (p : Program) (frs : List Frame) (h : HeapContents) (o : ℕ) (x : Object) (w : ℕ) (f : FieldId) : Type 0 where
  pub holder : Object
  pub at : object_at h w ≡ Some holder
  pub field : Field
  pub declared : field_at p f ≡ Some field
  pub class : holder.class ≡ field.class
  pub program : is_library p field.class ≡ false
  pub owning : field.owning ≡ true
  pub held : root_of h (field_value p h w f) ≡ Some o
  pub bounded : set.is_subset (must_of p x.class) (must_of_type p field.vtype) ≡ true
  pub own : set.is_subset x.must (must_of p x.class) ≡ true
  pub whole : holder.finished ≡ true → is_unmet x ≡ true → holder.must ≡ must_of p holder.class
  pub unlinked : holder.link ≡ None
  pub kept : holder.finished ≡ true → is_unmet x ≡ true → IsKept p holder f x
  pub made : holder.finished ≡ false → is_made_in p w field.class frs ≡ true

-- something must be called on the object, or its class asks for it
abbrev pub has_obligation : Program → Object → Bool
has_obligation p x = is_unmet x || is_heavy_class p x.class

-- each such object that a field owns is such a content
abbrev pub HaveContents : Program → List Frame → HeapContents → Type 0
HaveContents p frs h = (o : ℕ) (x : Object) (w : ℕ) (f : FieldId) → object_at h o ≡ Some x → has_obligation p x ≡ true → x.owner ≡ owners.Field w f → IsContent p frs h o x w f

-- the class declares the field
abbrev pub IsFieldOfClass : Program → FieldId → ClassId → Type 0
IsFieldOfClass p f c = (field : Field) × (field_at p f ≡ Some field) × (field.class ≡ c)

-- Where an owning field whose type has an obligation holds an object whose class has one, the class of the field's object declares the field; and where this is finished, and the object may owe a call,
-- or a field of it owns something, the field owns it, or the field's object is linked to it, or is an alias of null that the library owns, and it is that object.
abbrev pub FieldsOwn : Program → HeapContents → Type 0
FieldsOwn p h = (w : ℕ) (y : Object) (f : FieldId) (o : ℕ) (x : Object) → object_at h w ≡ Some y → is_owning p f ≡ true → is_heavy_in p (Some f) ≡ true → root_of h (field_value p h w f) ≡ Some o
    → object_at h o ≡ Some x → is_heavy_class p x.class ≡ true → IsFieldOfClass p f y.class × (y.finished ≡ true → OwesOrHolds p h o x → (x.owner ≡ owners.Field w f) ⊎ ((root h w ≡ o) × (y.link ≡ None → is_library_owner y.owner ≡ true)))

-- What the frame makes, by a constructor without an aliased argument of a class with owning fields: what these fields hold they own, where their types have an obligation, and the object may owe a call, or
-- a field of it owns something. (Where a constructor has ended by an exception, its object's fields own nothing any more.)
abbrev pub MakerOwns : Program → HeapContents → Frame → Type 0
MakerOwns p h fr = (w : ℕ) (f : FieldId) (o : ℕ) (x : Object) → IsMadeBy p fr w → is_owning p f ≡ true → is_heavy_in p (Some f) ≡ true → root_of h (field_value p h w f) ≡ Some o
    → object_at h o ≡ Some x → is_heavy_class p x.class ≡ true → OwesOrHolds p h o x → x.owner ≡ owners.Field w f

-- so do all of these frames
abbrev pub MakersOwn : Program → HeapContents → List Frame → Type 0
MakersOwn p h [] = Unit {0}
MakersOwn p h (fr ∷ frs) = MakerOwns p h fr × MakersOwn p h frs

-- what fields own owning fields own, and it is followed
abbrev pub OwningFieldsOwn : Program → HeapContents → Type 0
OwningFieldsOwn p h = (o : ℕ) (x : Object) (w : ℕ) (f : FieldId) → object_at h o ≡ Some x → x.owner ≡ owners.Field w f → (is_owning p f ≡ true) × IsFollowed p x.class

-- calls on each object reach its root, where that is one whose class has an obligation, and that may owe a call, or of which a field owns something
abbrev pub LinksLead : Program → HeapContents → Type 0
LinksLead p h = (k o : ℕ) (x y : Object) → object_at h k ≡ Some x → root h k ≡ o → object_at h o ≡ Some y → is_heavy_class p y.class ≡ true → OwesOrHolds p h o y → Leads p h k o

-- ---- a constructor's object is new

-- none of these frames runs on the object
abbrev pub RunOnOthers : ℕ → List Frame → Type 0
RunOnOthers w [] = Unit {0}
RunOnOthers w (fr ∷ frs) = (fr.locals.this ≡ values.Object w → ⊥) × RunOnOthers w frs

-- Where the top one of these frames runs a constructor on an object of which a field owns an object with an obligation, no other runs on it. (The constructors of
-- super classes run before anything is stored into owning fields.)
abbrev pub TopRunsAlone : Program → HeapContents → List Frame → Type 0
TopRunsAlone p h [] = Unit {0}
TopRunsAlone p h (fr ∷ frs) = (o : ℕ) (x : Object) (w : ℕ) (f : FieldId) → constructs (method_at p fr.method) ≡ true → fr.locals.this ≡ values.Object w → object_at h o ≡ Some x
    → is_heavy_class p x.class ≡ true → x.owner ≡ owners.Field w f → RunOnOthers w frs

-- the class of the method declares an owning field
abbrev pub DeclaresOwning : Program → MethodId → Type 0
DeclaresOwning p m = (f : FieldId) × (field : Field) × (field_at p f ≡ Some field) × (field.owning ≡ true) × (is_class_of field.class (method_at p m) ≡ true)

-- no frame below a constructor of a class with owning fields runs on the object that it makes
abbrev pub AreNew : Program → List Frame → Type 0
AreNew p [] = Unit {0}
AreNew p (fr ∷ frs) = ((w : ℕ) → DeclaresOwning p fr.method → constructs (method_at p fr.method) ≡ true → fr.locals.this ≡ values.Object w → RunOnOthers w frs) × AreNew p frs

-- a constructor of a class with owning fields runs on an object that is not finished
abbrev pub AreUnfinished : Program → HeapContents → List Frame → Type 0
AreUnfinished p h [] = Unit {0}
AreUnfinished p h (fr ∷ frs) =
    ((w : ℕ) (y : Object) → DeclaresOwning p fr.method → constructs (method_at p fr.method) ≡ true → fr.locals.this ≡ values.Object w → object_at h w ≡ Some y → y.finished ≡ false)
    × AreUnfinished p h frs

-- ---- frames that wait

abbrev pub is_new : Action → Bool
is_new (actions.New m d n) = true
is_new a = false

-- no frame below the one that a `new` began runs on the object that the `new` makes
abbrev pub AreFresh : Program → List Frame → Type 0
AreFresh p [] = Unit {0}
AreFresh p (fr ∷ []) = Unit {0}
AreFresh p (fr ∷ caller ∷ frs) =
    ((i : ℕ) (s : Step) (w : ℕ) → slice_get (frame_steps p caller) i ≡ Some s → is_new s.action ≡ true → fr.locals.this ≡ values.Object w → RunOnOthers w (caller ∷ frs))
    × AreFresh p (caller ∷ frs)

-- the frame that waits stands at no `new`, or the object on which the frame above runs is not finished
abbrev pub IsBeingMade : Program → HeapContents → Frame → Frame → Type 0
IsBeingMade p h fr caller = (i : ℕ) (s : Step) (w : ℕ) (y : Object) → slice_get (frame_steps p caller) i ≡ Some s → is_new s.action ≡ true → fr.locals.this ≡ values.Object w → object_at h w ≡ Some y
    → y.finished ≡ false

-- the method that runs is chosen by the class of the target
abbrev pub is_chosen_by_class : TargetForm → Bool
is_chosen_by_class forms.Static = false
is_chosen_by_class forms.Super = false
is_chosen_by_class forms.This = true
is_chosen_by_class forms.Other = true

-- a frame that waits at a call of which the class of the target does not choose the method: the frame above runs the named one
abbrev pub RunsNamed : Program → Frame → Frame → Type 0
RunsNamed p fr caller = (i : ℕ) (s : Step) (named : MethodId) → slice_get (frame_steps p caller) i ≡ Some s → called_method s.action ≡ Some named
    → is_chosen_by_class (form_of s.action) ≡ false → fr.method ≡ named

-- a frame that waits at a call with a target: the frame above runs on the target, which is of a class under that of the named method,
-- the method that objects of this class run
abbrev pub IsDispatched : Program → HeapContents → Frame → Frame → Type 0
IsDispatched p h fr caller = (i : ℕ) (s : Step) (named : MethodId) (n : Method) (w : ℕ) (x : Object) → slice_get (frame_steps p caller) i ≡ Some s → called_method s.action ≡ Some named
    → method_at p named ≡ Some n → is_chosen_by_class (form_of s.action) ≡ true → operand_of caller.locals s.action 0 ≡ values.Object w → object_at h w ≡ Some x
    → (fr.method ≡ run_by p named x.class) × (is_under p x.class n.class ≡ true) × (fr.locals.this ≡ values.Object w)

abbrev pub AreDispatched : Program → HeapContents → List Frame → Type 0
AreDispatched p h [] = Unit {0}
AreDispatched p h (fr ∷ []) = Unit {0}
AreDispatched p h (fr ∷ caller ∷ frs) = IsDispatched p h fr caller × RunsNamed p fr caller × AreDispatched p h (caller ∷ frs)

-- ---- all of it

-- what owning fields hold and own in a run, where links lead, and the frames that this rests on
pub record FieldsHold (p : Program) (frs : List Frame) (h : HeapContents) : Type 0 where
  pub contents : HaveContents p frs h
  pub owning : OwningFieldsOwn p h
  pub leads : LinksLead p h
  pub new : AreNew p frs
  pub fresh : AreFresh p frs
  pub unfinished : AreUnfinished p h frs
  pub dispatched : AreDispatched p h frs
