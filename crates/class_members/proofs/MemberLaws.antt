-- The methods found by name are the members of the name.
use Rattle.std.proofs.Common.{◌≡◌, ◌↔◌, ap, sym, subst, refl, ℕ, Bool, false, not, Option, Some, None, List, Contains}
use Rattle.program_model.specs.declared.kinds.ClassId.{ClassId}
use Rattle.program_model.specs.declared.kinds.MethodId.{MethodId}
use Rattle.program_model.specs.declared.program.Method.{Method}
use Rattle.program_model.specs.declared.program.Program.{Program}
use Rattle.program_model.specs.Lookups.{class_at, method_at}
use Rattle.program_model.specs.SuperTests.{classes_above}
use Rattle.program_model.specs.Overrides.{methods_of}
use Rattle.class_members.specs.Members.{declared_methods, has_one, implements, is_named, is_so, methods_above, methods_named, not_replaced, replaces}
use Rattle.class_members.specs.Membership.{IsFound, IsKept, IsMember, relates_to}
use Rattle.class_members.proofs.Elements.{false-of-not, filter-among, filter-has, gathered-among, gathered-has, none-has, none-of}

found-has : (p : Program) (from c : ClassId) (name : List ℕ) (m : MethodId) → IsFound p from c name m → Contains (methods_above p from c name) m
found-has p from c name m h =
    gathered-has (declared_methods p from c name) (classes_above c (class_at p c)) h.declared.0 m h.declared.1
    (filter-has (is_named p from c name) (methods_of p h.declared.0) m h.declared.2 h.named)

found-among : (p : Program) (from c : ClassId) (name : List ℕ) (m : MethodId) → Contains (methods_above p from c name) m → IsFound p from c name m
found-among p from c name m h =
    let of_class = gathered-among (declared_methods p from c name) (classes_above c (class_at p c)) m h in
    let both = filter-among (is_named p from c name) (methods_of p of_class.0) m of_class.2 in
    record { declared = (of_class.0, of_class.1, both.0); named = both.1 }

-- none of the methods stands in the relation
one-none : (p : Program) (test : Method → Method → Bool) (all : List MethodId) (o : Option Method) → has_one p test all o ≡ false → (n : MethodId) → Contains all n → relates_to test o (method_at p n) ≡ false
one-none p test all None h n c = refl
one-none p test all (Some m) h n c = none-has (λ n. is_so (test m) (method_at p n)) all h n c

one-of : (p : Program) (test : Method → Method → Bool) (all : List MethodId) (o : Option Method) → ((n : MethodId) → Contains all n → relates_to test o (method_at p n) ≡ false) → has_one p test all o ≡ false
one-of p test all None h = refl
one-of p test all (Some m) h = none-of (λ n. is_so (test m) (method_at p n)) all h

kept-has : (p : Program) (from c : ClassId) (name : List ℕ) (m : MethodId) → IsKept p from c name m → Contains (not_replaced p c (methods_above p from c name)) m
kept-has p from c name m h =
    let none : has_one p (replaces p c) (methods_above p from c name) (method_at p m) ≡ false = one-of p (replaces p c) (methods_above p from c name) (method_at p m) (λ n a. h.not_replaced n (found-among p from c name n a)) in
    filter-has (λ m. not (has_one p (replaces p c) (methods_above p from c name) (method_at p m))) (methods_above p from c name) m (found-has p from c name m h.is_found) (ap not none)

kept-among : (p : Program) (from c : ClassId) (name : List ℕ) (m : MethodId) → Contains (not_replaced p c (methods_above p from c name)) m → IsKept p from c name m
kept-among p from c name m h =
    let both = filter-among (λ m. not (has_one p (replaces p c) (methods_above p from c name) (method_at p m))) (methods_above p from c name) m h in
    record {
      is_found = found-among p from c name m both.0;
      not_replaced = λ n a. one-none p (replaces p c) (methods_above p from c name) (method_at p m) (false-of-not _ both.1) n (found-has p from c name n a);
    }

member-has : (p : Program) (from c : ClassId) (name : List ℕ) (m : MethodId) → IsMember p from c name m → Contains (methods_named p from c name) m
member-has p from c name m h =
    let kept : List MethodId = not_replaced p c (methods_above p from c name) in
    let none : has_one p (implements p c) kept (method_at p m) ≡ false = one-of p (implements p c) kept (method_at p m) (λ n a. h.not_implemented n (kept-among p from c name n a)) in
    filter-has (λ m. not (has_one p (implements p c) kept (method_at p m))) kept m (kept-has p from c name m h.is_kept) (ap not none)

member-among : (p : Program) (from c : ClassId) (name : List ℕ) (m : MethodId) → Contains (methods_named p from c name) m → IsMember p from c name m
member-among p from c name m h =
    let kept : List MethodId = not_replaced p c (methods_above p from c name) in
    let both = filter-among (λ m. not (has_one p (implements p c) kept (method_at p m))) kept m h in
    record {
      is_kept = kept-among p from c name m both.0;
      not_implemented = λ n a. one-none p (implements p c) kept (method_at p m) (false-of-not _ both.1) n (kept-has p from c name n a);
    }

pub members_are_members : (p : Program) (from c : ClassId) (name : List ℕ) (m : MethodId) → Contains (methods_named p from c name) m ↔ IsMember p from c name m
members_are_members p from c name m = (member-among p from c name m, member-has p from c name m)

pub listed_are_members : (p : Program) (from c : ClassId) (name : List ℕ) (ms : List MethodId) → ms ≡ methods_named p from c name → (m : MethodId) → Contains ms m ↔ IsMember p from c name m
listed_are_members p from c name ms same m = subst (λ (l : List MethodId). Contains l m ↔ IsMember p from c name m) (sym same) (members_are_members p from c name m)
