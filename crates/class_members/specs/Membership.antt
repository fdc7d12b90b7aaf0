-- Members of a class, as facts of the methods that it and the classes above it declare (JLS 8.2, 8.4.8, 9.4.1).
use Rattle.std.specs.Prelude.{◌≡◌, ℕ, Bool, true, false, Option, Some, None, List, Contains}
use Rattle.program_model.specs.declared.kinds.ClassId.{ClassId}
use Rattle.program_model.specs.declared.kinds.MethodId.{MethodId}
use Rattle.program_model.specs.declared.program.Method.{Method}
use Rattle.program_model.specs.declared.program.Program.{Program}
use Rattle.program_model.specs.Lookups.{class_at, method_at}
use Rattle.program_model.specs.SuperTests.{classes_above}
use Rattle.program_model.specs.Overrides.{methods_of}
use Rattle.class_members.specs.Members.{implements, is_named, is_so, replaces}

-- a method of the name that `c` or a class above it declares, and to which the bodies of `from` have access
pub record IsFound (p : Program) (from c : ClassId) (name : List ℕ) (m : MethodId) : Type 0 where
  pub declared : (d : ClassId) × Contains (classes_above c (class_at p c)) d × Contains (methods_of p d) m
  pub named : is_named p from c name m ≡ true

abbrev pub relates_to : (Method → Method → Bool) → Option Method → Option Method → Bool
relates_to test None n = false
relates_to test (Some m) n = is_so (test m) n

-- `n` overrides or hides `m` in `c`
abbrev pub is_replaced_by : Program → ClassId → MethodId → MethodId → Bool
is_replaced_by p c m n = relates_to (replaces p c) (method_at p m) (method_at p n)

-- `n` is in `c` the body for `m`
abbrev pub is_implemented_by : Program → ClassId → MethodId → MethodId → Bool
is_implemented_by p c m n = relates_to (implements p c) (method_at p m) (method_at p n)

-- it is found, and none that is found overrides or hides it
pub record IsKept (p : Program) (from c : ClassId) (name : List ℕ) (m : MethodId) : Type 0 where
  pub is_found : IsFound p from c name m
  pub not_replaced : (n : MethodId) → IsFound p from c name n → is_replaced_by p c m n ≡ false

-- a member: it is kept, and none that is kept is the body for it
pub record IsMember (p : Program) (from c : ClassId) (name : List ℕ) (m : MethodId) : Type 0 where
  pub is_kept : IsKept p from c name m
  pub not_implemented : (n : MethodId) → IsKept p from c name n → is_implemented_by p c m n ≡ false
