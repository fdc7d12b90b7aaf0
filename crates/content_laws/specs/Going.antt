-- How the heap goes on over a step, for what owning fields hold and own.
use Rattle.std.specs.Prelude.{◌≡◌, ◌⊎◌, ℕ, ◌<◌, true, false, Option, Some}
use Rattle.std.specs.FinSet as set
use Rattle.rlc_base.specs.declared.name_id.NameId.{NameId}
use Rattle.program_model.specs.declared.kinds.FieldId.{FieldId}
use Rattle.program_model.specs.declared.kinds.MethodId.{MethodId}
use Rattle.program_model.specs.declared.program.Field.{Field}
use Rattle.program_model.specs.declared.program.Method.{Method}
use Rattle.program_model.specs.declared.program.Program.{Program}
use Rattle.program_model.specs.Lookups.{field_at, method_at}
use Rattle.program_model.specs.Overrides.{is_library}
use Rattle.must_call_sets.specs.MustCallSets.{must_of}
use Rattle.must_call_sets.specs.Signatures.{is_of_field, promised_names}
use Rattle.java_control.specs.Owned.{is_owning}
use Rattle.control_actions.specs.declared.action.Action.{Action}
use Rattle.ledger_state.specs.Contents.{HeapContents}
use Rattle.ledger_state.specs.Fields.{field_value}
use Rattle.ledger_state.specs.Heaps.{object_at, root}
use Rattle.ledger_state.specs.Values.{number_of}
use Rattle.ledger_state.specs.declared.entry.Owner.TheVariants as owners
use Rattle.ledger_state.specs.declared.locals.Locals.{Locals}
use Rattle.ledger_state.specs.declared.object.Link.{Link}
use Rattle.ledger_state.specs.declared.object.Object.{Object}
use Rattle.ledger_state.specs.declared.value.Value.TheVariants as values
use Rattle.ledger_obligations.specs.Obligations.{alias_born, is_library_owner, name_of, own_promises}
use Rattle.ledger_steps.specs.LedgerCallsCalls.{form_of, interest_in, operand_of}
use Rattle.covering_laws.specs.Heaps.{GoesOn}
use Rattle.covering_laws.specs.Leading.{CallsOnField, Leads}
use Rattle.covering_laws.specs.FieldContents.{is_chosen_by_class, promised_on}

-- the call is noted on object `k`, its receiver, by the name with this number
pub record IsNotedBy (l : Locals) (a : Action) (named : Option Method) (k n : ℕ) : Type 0 where
  pub chosen : is_chosen_by_class (form_of a) ≡ true
  pub receiver : number_of (operand_of l a 0) ≡ Some k
  pub name : NameId
  pub interest : interest_in named ≡ Some name
  pub number : name.0 ≡ n

-- no name is noted on an object
abbrev pub NoName : ℕ → ℕ → Type 0
NoName n i = ⊥

-- All that the own method of object `w` of this name promises on its owning fields was called where calls on what they held lead, as the heap
-- `h` went on as `k`.
abbrev pub IsDone : Program → HeapContents → HeapContents → ℕ → ℕ → Type 0
IsDone p h k w n = (x z y : Object) (f : FieldId) (c o i : ℕ) → object_at h w ≡ Some x → is_owning p f ≡ true → field_value p h w f ≡ values.Object c → Leads p h c o → object_at h o ≡ Some z → object_at k o ≡ Some y
    → set.contains (promised_names (λ t. is_of_field t f) (own_promises p x.class (name_of n))) i ≡ true → i < 128 → set.contains y.called i ≡ true

-- the objects of the heap `h` have the same roots in the heap `k`
abbrev pub KeepsRoots : HeapContents → HeapContents → Type 0
KeepsRoots h k = (n : ℕ) (x : Object) → object_at h n ≡ Some x → root k n ≡ root h n

-- what the library owns it goes on owning
abbrev pub KeepsLibrary : HeapContents → HeapContents → Type 0
KeepsLibrary h k = (n : ℕ) (x y : Object) → object_at h n ≡ Some x → object_at k n ≡ Some y → is_library_owner x.owner ≡ true → is_library_owner y.owner ≡ true

-- an object that a step has made is linked by the library, if at all
abbrev pub IsBorn : Object → Type 0
IsBorn y = (l : Link) → y.link ≡ Some l → l.by_library ≡ true

-- The heap `h` goes on as `k`: each object goes on, with the names that were called on it before, those that are noted on it now, and those
-- that were done on what its fields hold. An object that a field owns it owned before, and owning fields hold what they held. What the library owns it
-- goes on owning. Other objects are linked by the library alone.
pub record Goes (p : Program) (h k : HeapContents) (noted : ℕ → ℕ → Type 0) : Type 0 where
  pub forth : (n : ℕ) (x : Object) → object_at h n ≡ Some x
      → (y : Object) × (object_at k n ≡ Some y) × GoesOn x y × ((i : ℕ) → set.contains y.called i ≡ true → (set.contains x.called i ≡ true) ⊎ (noted n i ⊎ IsDone p h k n i))
  pub back : (n : ℕ) (y : Object) (w : ℕ) (f : FieldId) → object_at k n ≡ Some y → y.owner ≡ owners.Field w f
      → (x : Object) × (object_at h n ≡ Some x) × GoesOn x y × (x.owner ≡ owners.Field w f)
  pub fields : (w : ℕ) (f : FieldId) → is_owning p f ≡ true → field_value p k w f ≡ field_value p h w f
  pub roots : KeepsRoots h k
  pub library : KeepsLibrary h k
  pub born : (n : ℕ) (y : Object) → object_at k n ≡ Some y → ((x : Object) × (object_at h n ≡ Some x)) ⊎ IsBorn y

-- What a must-call method of a class of the program promises on a field is what the class's own method of its name promises, and a set of names
-- has room for it.
abbrev pub PromisesItsOwn : Program → Type 0
PromisesItsOwn p = (m : MethodId) (d : Method) (n : NameId) (f : FieldId) (i : ℕ) → method_at p m ≡ Some d → d.sig.interest ≡ Some n → set.contains (must_of p d.class) n.0 ≡ true
    → is_library p d.class ≡ false → set.contains (promised_on f d) i ≡ true
    → (set.contains (promised_names (λ t. is_of_field t f) (own_promises p d.class n)) i ≡ true) × (i < 128)

-- the object of a `new` that makes an alias, as it is left: linked to the argument, or to none, where that is null
abbrev pub linked : Program → Option ℕ → Object → Object
linked p alias x = alias_born p false alias (record x { called = set.empty })

-- The constructor of object `w`, here `x`, has kept what leads to object `o` in an owning field: the one name of the class's set is called on this
-- by the object's own method.
pub record KeepsArgument (p : Program) (h : HeapContents) (w : ℕ) (x : Object) (o : ℕ) : Type 0 where
  pub field : FieldId
  pub declared : Field
  pub at : field_at p field ≡ Some declared
  pub owning : declared.owning ≡ true
  pub calls : CallsOnField p x.class field
  pub content : ℕ
  pub held : field_value p h w field ≡ values.Object content
  pub leads : Leads p h content o
