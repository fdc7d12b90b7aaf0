-- Which calls on a linked object reach the end of its links.
use Rattle.std.specs.Prelude.{◌≡◌, ℕ, ◌<◌, Bool, true, false, ◌||◌, Option, None, Some}
use Rattle.std.specs.FinSet as set
use Rattle.rlc_base.specs.declared.name_id.NameId.{NameId}
use Rattle.program_model.specs.declared.kinds.ClassId.{ClassId}
use Rattle.program_model.specs.declared.kinds.FieldId.{FieldId}
use Rattle.program_model.specs.declared.program.Field.{Field}
use Rattle.program_model.specs.declared.program.Program.{Program}
use Rattle.program_model.specs.Lookups.{field_at}
use Rattle.ledger_obligations.specs.MustCallSets.{is_empty, must_of, must_of_type}
use Rattle.ledger_obligations.specs.Signatures.{is_of_field, promised_names}
use Rattle.ledger_state.specs.Contents.{HeapContents}
use Rattle.ledger_state.specs.Fields.{field_value}
use Rattle.ledger_state.specs.Heaps.{next_number, object_at}
use Rattle.ledger_state.specs.declared.object.Link.{Link}
use Rattle.ledger_state.specs.declared.object.Object.{Object}
use Rattle.ledger_state.specs.declared.value.Value.TheVariants as values
use Rattle.ledger_obligations.specs.Obligations.{goes_on, is_the_one, own_promises}
use Rattle.ledger_obligations.specs.declared.note.Note.{Note}

-- The class declares the field, whose type has an obligation. Where the class's set has one name alone, the class's own method of this name promises to
-- call it on what the field holds.
abbrev pub CallsOnField : Program → ClassId → FieldId → Type 0
CallsOnField p c f = ((field : Field) → field_at p f ≡ Some field → (field.class ≡ c) × (is_empty (must_of_type p field.vtype) ≡ false))
    × ((n : NameId) → is_the_one (must_of p c) n ≡ true → set.contains (promised_names (λ t. is_of_field t f) (own_promises p c n)) n.0 ≡ true)

-- Calls on object `k`, the first number, reach object `r`, the second, at which the links of `k` end. The library passes each call on. A constructor
-- of the program has stored in an owning field of its object what leads there too: the one name that the link does not pass on is called on this by
-- the object's own method.
pub data Leads (p : Program) (h : HeapContents) : ℕ → ℕ → Type 0 where
  here : (k : ℕ) (x : Object) → object_at h k ≡ Some x → x.link ≡ None → Leads p h k k
  by_library : (k r : ℕ) (x : Object) (l : Link) → object_at h k ≡ Some x → x.link ≡ Some l → l.by_library ≡ true → Leads p h l.to r → Leads p h k r
  by_program : (k c r : ℕ) (x : Object) (l : Link) (f : FieldId) (field : Field) → object_at h k ≡ Some x → x.link ≡ Some l → field_at p f ≡ Some field → field.owning ≡ true
      → CallsOnField p x.class f → field_value p h k f ≡ values.Object c → Leads p h l.to r → Leads p h c r → Leads p h k r

-- what the owning fields of finished objects hold stays
abbrev pub KeepsContents : Program → HeapContents → HeapContents → Type 0
KeepsContents p h k = (w : ℕ) (x : Object) (f : FieldId) (field : Field) → object_at h w ≡ Some x → x.finished ≡ true → field_at p f ≡ Some field → field.owning ≡ true
    → field_value p k w f ≡ field_value p h w f

-- each object but this one stays linked as it was, and is of the class that it was of
abbrev pub KeepsOthers : ℕ → HeapContents → HeapContents → Type 0
KeepsOthers w h j = (n : ℕ) (x : Object) → (n ≡ w → ⊥) → object_at h n ≡ Some x → (y : Object) × (object_at j n ≡ Some y) × (y.class ≡ x.class) × (y.link ≡ x.link)

-- the heap `j` is the heap `h` where object `w`, which was linked to none, is linked by `l` to one that was made before it
pub record LinksOne (w : ℕ) (l : Link) (h j : HeapContents) : Type 0 where
  pub count : next_number j ≡ next_number h
  pub others : KeepsOthers w h j
  pub old : Object
  pub at : object_at h w ≡ Some old
  pub free : old.link ≡ None
  pub new : Object
  pub now : object_at j w ≡ Some new
  pub linked : new.link ≡ Some l
  pub there : 0 < l.to
  pub before : l.to < w

-- no link of the object stops the name
abbrev pub goes_on_from : Program → NameId → Object → Option Link → Bool
goes_on_from p n x None = true
goes_on_from p n x (Some l) = goes_on p n x l

-- the note goes on from its object, here `x`: it is kept, or no link stops its name
abbrev pub is_passed_on : Program → Note → Object → Bool
is_passed_on p a x = a.kept || goes_on_from p a.name x x.link
