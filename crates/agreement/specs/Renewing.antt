-- Calls that create an obligation anew, while they go on: whose obligation they create anew, how the facts of a frame that waits for such a call
-- are read, and where the owner of an object is that a frame has in such a call's hands.
use Rattle.std.specs.Prelude.{◌≡◌, ◌⊎◌, ℕ, ◌+◌, Bool, true, false, not, ◌&&◌, ◌||◌, Option, Some, None, List, [], ◌∷◌, length}
use Rattle.std.specs.List.{list_any}
use Rattle.program_model.specs.declared.kinds.ClassId.{ClassId}
use Rattle.program_model.specs.declared.kinds.FieldId.{FieldId}
use Rattle.program_model.specs.declared.kinds.MethodId.{MethodId}
use Rattle.program_model.specs.declared.program.Field.{Field}
use Rattle.program_model.specs.declared.program.Method.{Method}
use Rattle.program_model.specs.declared.program.Program.{Program}
use Rattle.program_model.specs.Lookups.{field_at, method_at}
use Rattle.ownership_rules.specs.Bodies.{alias_in, constructs, is_class_of, reset_in}
use Rattle.ownership_rules.specs.Signatures.{is_position, is_present}
use Rattle.ownership_rules.specs.Callees.{callee}
use Rattle.ownership_rules.specs.MustCallSets.{is_heavy_class, no_names}
use Rattle.java_control.specs.Calls.{is_reset_of_this}
use Rattle.control_actions.specs.declared.action.Action.{Action}
use Rattle.control_actions.specs.declared.fact.Fact.{Fact}
use Rattle.ledger_state.specs.Contents.{HeapContents}
use Rattle.ledger_state.specs.Heaps.{object_at, root_of, same_root}
use Rattle.ledger_state.specs.declared.entry.Owner.{Owner}
use Rattle.ledger_state.specs.declared.entry.Owner.TheVariants as owners
use Rattle.ledger_state.specs.declared.locals.Locals.{Locals}
use Rattle.ledger_state.specs.declared.object.Object.{Object}
use Rattle.ledger_state.specs.declared.value.Value.TheVariants as values
use Rattle.heap_laws.specs.LedgerCallsCalls.{operand_of}
use Rattle.ledger_runs.specs.Configuration.{Frame}
use Rattle.ledger_runs.specs.Choosing.{frame_steps}

-- ---- whose obligation a call creates anew

-- the operand of this position is object `o`
abbrev pub renews_at : HeapContents → Locals → Action → ℕ → Option ℕ → Bool
renews_at h l a o None = false
renews_at h l a o (Some k) = same_root (root_of h (operand_of l a k)) (Some o)

-- the call creates the obligation of object `o` anew
abbrev pub renews : Program → HeapContents → Locals → Action → ℕ → Bool
renews p h l a o = renews_at h l a o (reset_in (callee p a))

-- the call at which the frame waits does so
abbrev pub is_renewed : Program → HeapContents → Frame → ℕ → Bool
is_renewed p h fr o = list_any (λ s. renews p h fr.locals s.action o) (frame_steps p fr)

-- What the frame knows of object `o` is read anew: the call at which it waits creates the object's obligation anew. (What a field of `this` owns, where the call creates that of `this` anew,
-- needs no such reading: nothing is known of it.)
abbrev pub is_reread : Program → HeapContents → Frame → ℕ → Owner → Bool
is_reread p h fr o owner = is_renewed p h fr o

-- ---- the facts of a frame that waits for such a call

-- The fact as it is read while the frame waits: where the call creates the obligation of its object anew, which it may do at any time until it ends, all
-- that the class asks for is needed, and nothing was called.
abbrev pub fact_as : Bool → Fact → Fact
fact_as true f = record f { called = no_names; full = true }
fact_as false f = f

-- ---- where the owner is

-- the method is a constructor without an aliased argument
abbrev pub makes_alone : Option Method → Bool
makes_alone m = constructs m && not (is_present (alias_in m))

-- it is a method that creates the obligation of `this` anew
abbrev pub reopens : Option Method → Bool
reopens m = not (constructs m) && is_position (reset_in m) 0

-- the method's class has an obligation
abbrev pub is_of_heavy_class : Program → Option Method → Bool
is_of_heavy_class p None = false
is_of_heavy_class p (Some m) = is_heavy_class p m.class

-- Its frames answer for what the owning fields of `this` own: a constructor without an aliased argument, or a method that creates the obligation of `this` anew
abbrev pub answers_for_fields : Option Method → Bool
answers_for_fields m = makes_alone m || reopens m

-- The frame stands at a call that creates the obligation of `this` anew, and names it so: until the call ends, others may store into the fields of `this`.
abbrev pub lends_this : Program → Frame → Bool
lends_this p fr = list_any (λ s. is_reset_of_this p s.action) (frame_steps p fr)

-- it is an owning field of the method's class
abbrev pub is_declared_beside : Program → MethodId → Option Field → Bool
is_declared_beside p m None = false
is_declared_beside p m (Some x) = x.owning && is_class_of x.class (method_at p m)

-- an owning field of `this`, of the class of the frame's method, owns the object
pub record IsOwnedByThis (p : Program) (fr : Frame) (owner : Owner) : Type 0 where
  pub field : FieldId
  pub declared : is_declared_beside p fr.method (field_at p field) ≡ true
  pub holder : ℕ
  pub runs : fr.locals.this ≡ values.Object holder
  pub owns : owner ≡ owners.Field holder field

-- the frame runs a constructor without an aliased argument, and an owning field of `this` owns the object
abbrev pub IsHeldBy : Program → Frame → Owner → Type 0
IsHeldBy p fr owner = (makes_alone (method_at p fr.method) ≡ true) × IsOwnedByThis p fr owner

-- the class declares an owning field
abbrev pub HasOwningField : Program → ClassId → Type 0
HasOwningField p c = (f : FieldId) × (field : Field) × (field_at p f ≡ Some field) × (field.owning ≡ true) × (field.class ≡ c)

-- the object is finished, or its class has owning fields
abbrev pub IsWhole : Program → Object → Type 0
IsWhole p x = (x.finished ≡ true) ⊎ HasOwningField p x.class

-- such an object whose class has an obligation
abbrev pub IsWholeObject : Program → Object → Type 0
IsWholeObject p x = IsWhole p x × (is_heavy_class p x.class ≡ true)

-- A field of `this` of the frame, which runs no constructor, owns the object; and `this`, which is linked to none, if it is finished, and whose class has an obligation, is lent to the frame, as
-- `lent` says of its number and its owner.
pub record IsHeldByLent (p : Program) (h : HeapContents) (lent : ℕ → Owner → Type 0) (fr : Frame) (owner : Owner) : Type 0 where
  pub holder : ℕ
  pub field : FieldId
  pub owns : owner ≡ owners.Field holder field
  pub runs : fr.locals.this ≡ values.Object holder
  pub method : constructs (method_at p fr.method) ≡ false
  pub object : Object
  pub at : object_at h holder ≡ Some object
  pub whole : IsWhole p object
  pub unlinked : object.finished ≡ true → object.link ≡ None
  pub heavy : is_heavy_class p object.class ≡ true
  pub lends : lent holder object.owner

-- the frame runs a constructor without an aliased argument, of a class with owning fields, on the object
pub record IsMadeBy (p : Program) (fr : Frame) (o : ℕ) : Type 0 where
  pub alone : makes_alone (method_at p fr.method) ≡ true
  pub field : FieldId
  pub declared : is_declared_beside p fr.method (field_at p field) ≡ true
  pub runs : fr.locals.this ≡ values.Object o

-- The frame, at position `n`, may have the obligation of an object with this number and this owner created anew: it owns it, or has it lent; or a field of `this` owns it, in a
-- constructor, or where `this` is lent to the frame; or the frame makes it, and nobody owns it.
abbrev pub HasInHand : Program → HeapContents → (ℕ → Owner → Type 0) → ℕ → Frame → ℕ → Owner → Type 0
HasInHand p h lent n fr o owner = (owner ≡ owners.Frame n) ⊎ (lent o owner ⊎ (IsHeldBy p fr owner ⊎ (IsHeldByLent p h lent fr owner ⊎ (IsMadeBy p fr o × (owner ≡ owners.Unowned)))))

-- A frame, where `frs` are the frames below it, began with a call that creates the obligation of object `o` anew: the frame that waits for this call has the object in hand.
-- So the way leads down the stack, and up to the object whose field owns it, until a frame owns the object, or makes it, or has it in a field of the object that its constructor makes.
abbrev pub IsLentFrom : Program → HeapContents → List Frame → ℕ → Owner → Type 0
IsLentFrom p h [] o owner = ⊥
IsLentFrom p h (fr ∷ frs) o owner = (is_renewed p h fr o ≡ true) × HasInHand p h (IsLentFrom p h frs) (length frs + 1) fr o owner
