-- The values that static fields begin with (JLS 4.2.1, 5.2).
use Rattle.std.specs.Prelude.{◌≡◌, ◌≤ℤ◌, ℤ, pos, negsuc, Option, Some, None}
use Rattle.program_model.specs.declared.kinds.Literal.{Literal}
use Rattle.program_model.specs.declared.kinds.Literal.TheVariants as literals
use Rattle.program_model.specs.declared.kinds.Primitive.{Primitive}
use Rattle.program_model.specs.declared.kinds.Primitive.TheVariants as primitives
use Rattle.program_model.specs.declared.kinds.VType.{VType}
use Rattle.program_model.specs.declared.kinds.VType.TheVariants as types

-- the number is a value of the type (JLS 4.2.1). Every number of a literal is a `long`
abbrev pub IsInRange : ℤ → Primitive → Type 0
IsInRange n primitives.Boolean = ⊥
IsInRange n primitives.Byte = (negsuc 127 ≤ℤ n) × (n ≤ℤ pos 127)
IsInRange n primitives.Char = (pos 0 ≤ℤ n) × (n ≤ℤ pos 65535)
IsInRange n primitives.Int = (negsuc 2147483647 ≤ℤ n) × (n ≤ℤ pos 2147483647)
IsInRange n primitives.Long = Unit {0}

abbrev pub IsBoolean : VType → Type 0
IsBoolean (types.Primitive primitives.Boolean) = Unit {0}
IsBoolean t = ⊥

abbrev pub IsNumberOf : ℤ → VType → Type 0
IsNumberOf n (types.Primitive k) = IsInRange n k
IsNumberOf n t = ⊥

abbrev pub IsNullable : VType → Type 0
IsNullable (types.Primitive k) = ⊥
IsNullable t = Unit {0}

-- a field of the type may begin with the literal: with a number or character that its type has, also without a cast where
-- the type is narrower than the literal's, and with `null` where its type is no primitive one (JLS 5.2)
abbrev pub FitsField : VType → Literal → Type 0
FitsField t (literals.Number n) = IsNumberOf n t
FitsField t (literals.Character c) = IsNumberOf (pos c) t
FitsField t (literals.Boolean v) = IsBoolean t
FitsField t literals.Text = t ≡ types.Str
FitsField t literals.Null = IsNullable t

-- a field without an initialiser begins with its type's default value (JLS 4.12.5)
abbrev pub IsInitialValue : VType → Option Literal → Type 0
IsInitialValue t None = Unit {0}
IsInitialValue t (Some l) = FitsField t l
