-- What the texts of promises and resets name: `this`, `#k` for the k-th declared parameter, and `this.f`, also written `f`, for an
-- owning field f of the class itself.
use Rattle.std.specs.Prelude.{ℕ, ◌+◌, ◌-◌, ◌*◌, Bool, true, false, ◌&&◌, ◌||◌, not, nat_eq, nat_le, Option, Some, None, List, [], drop, fold, codes, slice_get, if◌then◌else◌}
use Rattle.std.specs.List.{find, starts_with}
use Rattle.std.specs.Option.{option_map}
use Rattle.std.specs.Str.{bytes_eq}
use Rattle.annotation_kinds.specs.Positions.{is_decimal}
use Rattle.program_model.specs.declared.kinds.ClassId.{ClassId}
use Rattle.program_model.specs.declared.kinds.FieldId.{FieldId}
use Rattle.program_model.specs.declared.kinds.MethodKind.{MethodKind}
use Rattle.program_model.specs.declared.kinds.MethodKind.TheVariants as methods
use Rattle.program_model.specs.declared.kinds.Target.{Target}
use Rattle.program_model.specs.declared.kinds.Target.TheVariants as promised
use Rattle.program_model.specs.declared.program.Class.{Class}
use Rattle.program_model.specs.declared.program.Field.{Field}

-- ---- `#k`

abbrev pub next_digit : ℕ → ℕ → ℕ
next_digit n digit = 10 * n + (digit - 48)

abbrev pub decimal_value : List ℕ → ℕ
decimal_value digits = fold next_digit 0 digits

-- the number, where it is one of so many parameters
abbrev pub number_up_to : ℕ → List ℕ → Option ℕ
number_up_to count digits = if is_decimal digits && nat_le (decimal_value digits) count then Some (decimal_value digits) else None

-- ---- fields

abbrev pub is_owning_named : List ℕ → Option Field → Bool
is_owning_named name None = false
is_owning_named name (Some x) = x.owning && (not x.is_static && bytes_eq x.name name)

-- the owning instance field of the name, among those that a class declares
abbrev pub owning_field : List Field → List FieldId → List ℕ → Option FieldId
owning_field fields own name = find (λ f. is_owning_named name (slice_get fields f.0)) own

abbrev pub fields_in : Option Class → List FieldId
fields_in None = []
fields_in (Some k) = k.fields.items

-- the fields that a class declares
abbrev pub own_fields : List Class → ClassId → List FieldId
own_fields classes c = fields_in (slice_get classes c.0)

-- ---- positions and targets

-- the text names a position of the signature, and no field
abbrev pub is_position_text : List ℕ → Bool
is_position_text text = bytes_eq text (codes "this") || starts_with nat_eq text (codes "#")

-- the receiver at 0, where there is an object, and the k-th of so many declared parameters at k
abbrev pub position_of : Bool → ℕ → List ℕ → Option ℕ
position_of with_object count text =
    if starts_with nat_eq text (codes "#") then number_up_to count (drop 1 text)
    else (if with_object && bytes_eq text (codes "this") then Some 0 else None)

abbrev pub field_name : List ℕ → List ℕ
field_name text = if starts_with nat_eq text (codes "this.") then drop 5 text else text

-- what a text names, where there is an object, or none
abbrev pub target_of : Bool → ℕ → List Field → List FieldId → List ℕ → Option Target
target_of with_object count fields own text =
    if is_position_text text then option_map promised.At (position_of with_object count text)
    else (if with_object then option_map promised.OfField (owning_field fields own (field_name text)) else None)

-- whether a method has an object that a promise or reset may name: when it ends normally
abbrev pub has_object : MethodKind → Bool
has_object methods.Instance = true
has_object methods.Static = false
has_object methods.Ctor = true
has_object methods.Constant = false

-- and when it ends by an exception
abbrev pub keeps_object : MethodKind → Bool
keeps_object methods.Instance = true
keeps_object methods.Static = false
keeps_object methods.Ctor = false
keeps_object methods.Constant = false
