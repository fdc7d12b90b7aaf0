-- How classes, fields, names and places are written in reports and ledgers: a number in decimal digits, a class by its qualified
-- name, and a place as the name of its file, its line and its column.
use Rattle.std.specs.Prelude.{ℕ, Option, Some, None, List, [], ◌++◌, codes, decimal, slice_get, unwrap_or}
use Rattle.program_model.specs.declared.kinds.ClassId.{ClassId}
use Rattle.program_model.specs.declared.kinds.FieldId.{FieldId}
use Rattle.program_model.specs.declared.program.Program.{Program}
use Rattle.program_model.specs.declared.program.Class.{Class}
use Rattle.program_model.specs.declared.program.Field.{Field}
use Rattle.program_model.specs.Lookups.{class_at, field_at}
use Rattle.rlc_base.specs.declared.name_id.NameId.{NameId}
use Rattle.rlc_base.specs.declared.place.Pos.{Pos}

-- the name of the file with this number; a number of no file has none
abbrev pub file_name : List (List ℕ) → ℕ → List ℕ
file_name files n = unwrap_or (slice_get files n) []

-- the line and the column of a place
abbrev pub line_text : Pos → List ℕ
line_text pos = decimal pos.line ++ (codes ":" ++ decimal pos.col)

abbrev pub place_text : List (List ℕ) → Pos → List ℕ
place_text files pos = file_name files pos.file ++ (codes ":" ++ line_text pos)

abbrev pub name_of_class : Option Class → List ℕ
name_of_class None = []
name_of_class (Some k) = k.name

-- the qualified name of the class
abbrev pub class_text : Program → ClassId → List ℕ
class_text p c = name_of_class (class_at p c)

abbrev pub name_of_field : Option Field → List ℕ
name_of_field None = []
name_of_field (Some f) = f.name

abbrev pub field_text : Program → FieldId → List ℕ
field_text p f = name_of_field (field_at p f)

-- a name of the table of names
abbrev pub name_text : Program → NameId → List ℕ
name_text p n = unwrap_or (slice_get p.names n.0) []
