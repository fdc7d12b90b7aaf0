-- What an honest library does at a call of one of its methods or constructors, and at a read of one of its constants: the
-- table of ways and that of results. The way and the value are those of the choice that the call takes.
use Rattle.std.specs.Prelude.{ℕ, zero, suc, ◌-◌, ◌%◌, ◌^◌, ◌==◌, min, ℤ, pos, negsuc, Bool, true, false, not, ◌&&◌, Option, Some, None, List, [], ◌∷◌, ◌++◌, map, filter, length, slice_get}
use Rattle.std.specs.Int.{w8, w32, w64, cast_signed, cast_unsigned}
use Rattle.std.specs.List.{range_with_len}
use Rattle.std.specs.Ordering.{nat_cmp}
use Rattle.std.specs.FinSet as set
use Rattle.program_model.specs.declared.kinds.ClassId.{ClassId}
use Rattle.program_model.specs.declared.kinds.MethodId.{MethodId}
use Rattle.program_model.specs.declared.kinds.MethodKind.{MethodKind}
use Rattle.program_model.specs.declared.kinds.MethodKind.TheVariants as kinds
use Rattle.program_model.specs.declared.kinds.Primitive.{Primitive}
use Rattle.program_model.specs.declared.kinds.Primitive.TheVariants as primitives
use Rattle.program_model.specs.declared.kinds.VType.{VType}
use Rattle.program_model.specs.declared.kinds.VType.TheVariants as types
use Rattle.program_model.specs.declared.program.Program.{Program}
use Rattle.program_model.specs.declared.program.Class.{Class}
use Rattle.program_model.specs.declared.program.Method.{Method}
use Rattle.program_model.specs.declared.program.Sig.{Sig}
use Rattle.program_model.specs.Lookups.{class_at, method_at}
use Rattle.program_model.specs.SuperTests.{is_under}
use Rattle.stub_conduct.specs.declared.choice.Choice.{Choice}
use Rattle.stub_conduct.specs.declared.choice.Conduct.{Conduct}
use Rattle.stub_conduct.specs.declared.choice.Conduct.TheVariants.{Throws, Fresh, Null, Existing, Argument, Value, Nothing}

-- a value cut to a primitive type: of a truth value the lowest bit, of a number the lowest bits that the type has (JLS 4.2, 5.1.3)
abbrev pub cut : Primitive → ℤ → ℤ
cut primitives.Boolean v = pos (cast_unsigned w64 v % 2)
cut primitives.Byte v = cast_signed w8 (cast_unsigned w64 v % 2 ^ 8)
cut primitives.Char v = pos (cast_unsigned w64 v % 2 ^ 16)
cut primitives.Int v = cast_signed w32 (cast_unsigned w64 v % 2 ^ 32)
cut primitives.Long v = v

-- the length of an array that the library makes: the low 31 bits
abbrev pub array_length : ℤ → ℤ
array_length v = pos (cast_unsigned w64 v % 2 ^ 31)

abbrev pub must_in : Option Class → set.FinSet nat_cmp
must_in None = set.empty
must_in (Some k) = k.must

-- the must-call set of the one class lies within that of the other
abbrev pub fits : Program → ClassId → ClassId → Bool
fits p from to = set.is_subset (must_in (class_at p from)) (must_in (class_at p to))

abbrev pub library_in : Option Class → Bool
library_in None = false
library_in (Some k) = k.library

abbrev pub class_of_number : ℕ → ClassId
class_of_number n = record { 0 = n }

-- the class with number `n` is another library class under `c`, and fits the must-call set of `c`
abbrev pub is_stand_in : Program → ClassId → ℕ → Bool
is_stand_in p c n = not (n == c.0) && library_in (class_at p (class_of_number n)) && is_under p (class_of_number n) c && fits p (class_of_number n) c

-- how many classes have numbers
abbrev pub class_count : Program → ℕ
class_count p = min (length p.classes.items) 4294967296

-- the numbers of these classes, in class order
abbrev pub stand_ins : Program → ClassId → List ℕ
stand_ins p c = filter (is_stand_in p c) (range_with_len 0 (class_count p))

-- the classes that an object may have where `c` is declared
abbrev pub candidates : Program → ClassId → List ClassId
candidates p c = c ∷ map class_of_number (stand_ins p c)

abbrev pub class_or : ClassId → Option ClassId → ClassId
class_or c None = c
class_or c (Some d) = d

-- a value that is a place of the list picks the class there, and any other value the first
abbrev pub picked : Program → ClassId → ℤ → ClassId
picked p c (pos n) = class_or c (slice_get (candidates p c) n)
picked p c (negsuc n) = c

-- what a call that throws nothing of itself gives
abbrev pub given : Program → VType → ℤ → Conduct
given p (types.Primitive t) v = Value (cut t v)
given p types.Str v = Value (pos 0)
given p (types.Arr e) v = Value (array_length v)
given p (types.Obj c) v = Fresh (picked p c v)
given p types.NullType v = Null

abbrev pub given_result : Program → Option VType → ℤ → Conduct
given_result p None v = Nothing
given_result p (Some t) v = given p t v

-- a plain return. A constructor makes exactly its own class
abbrev pub plain : Program → MethodKind → Method → ℤ → Conduct
plain p kinds.Ctor m v = Fresh m.class
plain p kinds.Instance m v = given_result p m.sig.result v
plain p kinds.Static m v = given_result p m.sig.result v
plain p kinds.Constant m v = given_result p m.sig.result v

abbrev pub argument_or_null : Option ℕ → Conduct
argument_or_null None = Null
argument_or_null (Some position) = Argument

-- an alias result is the argument itself, and every other class, text or array result is null
abbrev pub instead : Program → Option ℕ → VType → ℤ → Conduct
instead p alias (types.Primitive t) v = given p (types.Primitive t) v
instead p alias types.Str v = Null
instead p alias (types.Arr e) v = Null
instead p alias (types.Obj c) v = argument_or_null alias
instead p alias types.NullType v = Null

abbrev pub instead_result : Program → Sig → Option VType → ℤ → Conduct
instead_result p s None v = Nothing
instead_result p s (Some t) v = instead p s.alias t v

abbrev pub null_way : Program → MethodKind → Method → ℤ → Conduct
null_way p kinds.Ctor m v = Fresh m.class
null_way p kinds.Instance m v = instead_result p m.sig m.sig.result v
null_way p kinds.Static m v = instead_result p m.sig m.sig.result v
null_way p kinds.Constant m v = instead_result p m.sig m.sig.result v

-- a class result that is neither owning nor an alias is the object with this number; a number below 0 is that of none
abbrev pub existing_class : Program → Bool → Option ℕ → ClassId → ℤ → Conduct
existing_class p false None c (pos n) = Existing n
existing_class p false None c (negsuc n) = Fresh (picked p c (negsuc n))
existing_class p false (Some position) c v = Fresh (picked p c v)
existing_class p true alias c v = Fresh (picked p c v)

abbrev pub existing : Program → Sig → VType → ℤ → Conduct
existing p s (types.Obj c) v = existing_class p s.owning_result s.alias c v
existing p s (types.Primitive t) v = given p (types.Primitive t) v
existing p s types.Str v = given p types.Str v
existing p s (types.Arr e) v = given p (types.Arr e) v
existing p s types.NullType v = given p types.NullType v

abbrev pub existing_result : Program → Sig → Option VType → ℤ → Conduct
existing_result p s None v = Nothing
existing_result p s (Some t) v = existing p s t v

abbrev pub existing_way : Program → MethodKind → Method → ℤ → Conduct
existing_way p kinds.Ctor m v = Fresh m.class
existing_way p kinds.Instance m v = existing_result p m.sig m.sig.result v
existing_way p kinds.Static m v = existing_result p m.sig m.sig.result v
existing_way p kinds.Constant m v = existing_result p m.sig m.sig.result v

-- what a call may throw: its throws clause in order, then the roots of the unchecked exceptions (JLS 11.1.1); a read of a
-- constant throws nothing
abbrev pub thrown : Program → MethodKind → Method → List ClassId
thrown p kinds.Constant m = []
thrown p kinds.Instance m = m.sig.throws.items ++ p.core.runtime_exception ∷ p.core.error ∷ []
thrown p kinds.Static m = m.sig.throws.items ++ p.core.runtime_exception ∷ p.core.error ∷ []
thrown p kinds.Ctor m = m.sig.throws.items ++ p.core.runtime_exception ∷ p.core.error ∷ []

-- the ways behind those that throw, counted from 0
abbrev pub beyond : Program → Method → ℕ → ℤ → Conduct
beyond p m zero v = null_way p m.kind m v
beyond p m (suc zero) v = existing_way p m.kind m v
beyond p m (suc (suc k)) v = plain p m.kind m v

abbrev pub throw_or : Program → Method → Option ClassId → ℕ → ℤ → Conduct
throw_or p m (Some c) k v = Throws (picked p c v)
throw_or p m None k v = beyond p m (k - length (thrown p m.kind m)) v

-- way 0 is a plain return, and way k + 1 throws by the k-th of the classes
abbrev pub by_way : Program → Method → ℕ → ℤ → Conduct
by_way p m zero v = plain p m.kind m v
by_way p m (suc k) v = throw_or p m (slice_get (thrown p m.kind m) k) k v

abbrev pub conduct_in : Program → Option Method → Choice → Conduct
conduct_in p None c = Nothing
conduct_in p (Some m) c = by_way p m c.way c.value

-- what the library does at a call of the method; a number of no method stands for none, and gives nothing
abbrev pub conduct : Program → MethodId → Choice → Conduct
conduct p m c = conduct_in p (method_at p m) c
