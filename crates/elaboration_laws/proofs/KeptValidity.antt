-- A valid table with typed bodies of its methods is a typed program.
use Rattle.std.proofs.Common.{◌≡◌, ◌∙◌, ◌+◌, ◌<◌, ◌^◌, ℕ, zero, suc, Option, Some, None, List, [], ◌∷◌, IsSomeAnd, get_or, length, nat_eq, option_map, slice_get, eqb-true, ap, sym, refl, subst, arith}
use Rattle.std.specs.List.{position}
use Rattle.std.proofs.lemmas.List.Elements.{All-weaker}
use Rattle.std.proofs.lemmas.List.Quantifiers.{position-Some}
use Rattle.std.proofs.lemmas.Option.{slice_get-get_or}
use Rattle.program_model.specs.declared.kinds.BodyId.{BodyId}
use Rattle.program_model.specs.declared.kinds.ClassId.{ClassId}
use Rattle.program_model.specs.declared.kinds.ExprId.{ExprId}
use Rattle.program_model.specs.declared.kinds.FieldId.{FieldId}
use Rattle.program_model.specs.declared.kinds.MethodId.{MethodId}
use Rattle.program_model.specs.declared.kinds.StmtId.{StmtId}
use Rattle.program_model.specs.declared.program.Class.{Class}
use Rattle.program_model.specs.declared.program.Field.{Field}
use Rattle.program_model.specs.declared.program.Method.{Method}
use Rattle.program_model.specs.declared.program.Program.{Program}
use Rattle.program_model.specs.declared.program.Sig.{Sig}
use Rattle.program_model.specs.declared.tree.Body.{Body}
use Rattle.program_model.specs.declared.tree.TExpr.{TExpr}
use Rattle.program_model.specs.declared.tree.TStmt.{TStmt}
use Rattle.program_model.specs.Hierarchy.{HasClass, HasSupers, IsAbove, IsHierarchy, IsUnder}
use Rattle.program_model.specs.Lookups.{body_at, expression_at, method_at, statement_at}
use Rattle.program_model.specs.Validity.{HasCoreClasses, HasExceptionClasses, HasMembers, HasParameters, IsBodyOf, IsMethodOf, IsNumbered, IsTypedProgram, IsValidBody, IsValidClass, IsValidExpression, IsValidField, IsValidMethod, IsValidSig, IsValidStatement, MayHaveBody, OwnsBody, RunsBody}
use Rattle.java_elaboration.specs.ProgramBodies.{HasBodies, body_id, body_number, methods_from, with_body}
use Rattle.java_typing_laws.proofs.Conversions.{none_is_some, same_in}
use Rattle.elaboration_laws.specs.BodiesOfPrograms.{AreTypedBodies, IsTypedBody}
use Rattle.elaboration_laws.proofs.KeptTypes.{SameTables, at_method, direct_before, over, over_is, some_so, typed_expression, typed_statement, under, under_before}

-- ---- methods with their bodies

methods_length : (bodies : List Body) (first : ℕ) (ms : List Method) → length (methods_from bodies first ms) ≡ length ms
methods_length bodies first [] = refl
methods_length bodies first (m ∷ ms) = ap (λ n. suc n) (methods_length bodies (first + 1) ms)

-- the method that stood at the number, which has the number of its body now
record WasMethod (bodies : List Body) (number : ℕ) (old : Option Method) (y : Method) : Type 0 where
  method : Method
  at : old ≡ Some method
  is : with_body (body_number bodies number) method ≡ y

was_method : (bodies : List Body) (first i : ℕ) (ms : List Method) (y : Method) → slice_get (methods_from bodies first ms) i ≡ Some y → WasMethod bodies (first + i) (slice_get ms i) y
was_method bodies first i [] y found = absurd (none_is_some y found)
was_method bodies first zero (m ∷ ms) y found =
    let same : first ≡ first + 0 = omega arith in
    record { method = m; at = refl; is = ap (λ k. with_body (body_number bodies k) m) (sym same) ∙ same_in (with_body (body_number bodies first) m) y found }
was_method bodies first (suc i) (m ∷ ms) y found =
    let same : first + 1 + i ≡ first + suc i = omega arith in
    subst (λ k. WasMethod bodies k (slice_get ms i) y) same (was_method bodies (first + 1) i ms y found)

at_numbered : (bodies : List Body) (first i : ℕ) (ms : List Method) (P Q : Method → Type 0) → ((x : Method) → P x → Q (with_body (body_number bodies (first + i)) x)) → IsSomeAnd (slice_get ms i) P → IsSomeAnd (slice_get (methods_from bodies first ms) i) Q
at_numbered bodies first i [] P Q step found = found
at_numbered bodies first zero (m ∷ ms) P Q step found =
    let same : first + 0 ≡ first = omega arith in
    subst (λ k. Q (with_body (body_number bodies k) m)) same (step m found)
at_numbered bodies first (suc i) (m ∷ ms) P Q step found =
    let same : first + suc i ≡ first + 1 + i = omega arith in
    at_numbered bodies (first + 1) i ms P Q (λ x h. subst (λ k. Q (with_body (body_number bodies k) x)) same (step x h)) found

-- ---- the body with a method's number

record IsFound (bodies : List Body) (m : ℕ) (n : ℕ) : Type 0 where
  body : Body
  at : slice_get bodies n ≡ Some body
  own : body.method.0 ≡ m

found_at : (bodies : List Body) (m n : ℕ) → position (λ b. nat_eq b.method.0 m) bodies ≡ Some n → IsFound bodies m n
found_at [] m n h = absurd (none_is_some n h)
found_at (b ∷ bs) m n h =
    let f = position-Some (λ x. nat_eq x.method.0 m) (b ∷ bs) n b h in
    let body : Body = get_or (b ∷ bs) n b in
    record { body = body; at = slice_get-get_or (b ∷ bs) n b f.0; own = eqb-true body.method.0 m f.1 }

number_found : (bodies : List Body) (m : ℕ) (o : Option ℕ) → position (λ b. nat_eq b.method.0 m) bodies ≡ o → (n : BodyId) → option_map body_id o ≡ Some n → IsFound bodies m n.0
number_found bodies m None is n h = absurd (none_is_some n h)
number_found bodies m (Some k) is n h = subst (λ (i : BodyId). IsFound bodies m i.0) (same_in (body_id k) n h) (found_at bodies m k is)

same_method : (a b : MethodId) → a.0 ≡ b.0 → a ≡ b
same_method a b same = λ i. record { 0 = same i }

module _ (p s : Program) (same : SameTables p s) where
  abbrev q : Program
  q = over p s same

  -- ---- classes

  core : HasCoreClasses p → HasCoreClasses q
  core is = record {
    object = is.object;
    string = is.string;
    throwable = is.throwable;
    error = is.error;
    runtime_exception = is.runtime_exception;
    arithmetic_exception = is.arithmetic_exception;
    array_index_exception = is.array_index_exception;
    class_cast_exception = is.class_cast_exception;
    negative_array_size_exception = is.negative_array_size_exception;
    null_pointer_exception = is.null_pointer_exception;
  }

  exceptions : HasExceptionClasses p → HasExceptionClasses q
  exceptions is = record {
    error = under p s same _ _ is.error;
    runtime_exception = under p s same _ _ is.runtime_exception;
    arithmetic_exception = under p s same _ _ is.arithmetic_exception;
    array_index_exception = under p s same _ _ is.array_index_exception;
    class_cast_exception = under p s same _ _ is.class_cast_exception;
    negative_array_size_exception = under p s same _ _ is.negative_array_size_exception;
    null_pointer_exception = under p s same _ _ is.null_pointer_exception;
  }

  numbered : length s.bodies.items < 2 ^ 32 → IsNumbered p → IsNumbered q
  numbered few is = record {
    classes = is.classes;
    methods = subst (λ n. n < 2 ^ 32) (sym (methods_length s.bodies.items 0 p.methods.items)) is.methods;
    fields = is.fields;
    bodies = few;
  }

  above_of : (c : ClassId) (classes : List ClassId) → IsAbove p c classes → IsAbove q c classes
  above_of c classes is = record {
    ordered = is.ordered;
    exact = λ d. ((λ here. under p s same c d ((is.exact d).0 here)), (λ up. (is.exact d).1 (under_before p s same c d up)));
  }

  supers : (c : ClassId) (k : Class) → HasSupers p c k → HasSupers q c k
  supers c k is = record {
    known = λ d direct. is.known d (direct_before p s same c d direct);
    acyclic = λ d direct up. is.acyclic d (direct_before p s same c d direct) (under_before p s same d c up);
    above = above_of c k.above.items is.above;
  }

  hierarchy : IsHierarchy p → IsHierarchy q
  hierarchy is = record { supers = λ c k found. supers c k (is.supers c k found) }

  valid_class : (c : ClassId) (k : Class) → IsValidClass p c k → IsValidClass q c k
  valid_class c k is = record { super_class = is.super_class; abstract = is.abstract }

  method_of : (c : ClassId) (m : MethodId) → IsMethodOf p c m → IsMethodOf q c m
  method_of c m is =
      let of : Method → Type 0 = λ x. x.class ≡ c in
      at_method p s same m of of (λ x n w. w) is

  members : (c : ClassId) (fields : List FieldId) (own : List MethodId) → HasMembers p c fields own → HasMembers q c fields own
  members c fields own is = record {
    field_order = is.field_order;
    fields = is.fields;
    method_order = is.method_order;
    methods = All-weaker (IsMethodOf p c) (IsMethodOf q c) (method_of c) own is.methods;
  }

  -- ---- fields and methods

  valid_field : (f : FieldId) (x : Field) → IsValidField p f x → IsValidField q f x
  valid_field f x is = record { listed = is.listed; declarable = is.declarable; kind = is.kind }

  throws_of : (c : ClassId) → HasClass p c × IsUnder p c p.core.throwable → HasClass q c × IsUnder q c p.core.throwable
  throws_of c is = (is.0, under p s same c p.core.throwable is.1)

  valid_signature : (x : Sig) → IsValidSig p x → IsValidSig q x
  valid_signature x is = record {
    params = is.params;
    result = is.result;
    throws = All-weaker (λ c. HasClass p c × IsUnder p c p.core.throwable) (λ c. HasClass q c × IsUnder q c p.core.throwable) throws_of x.throws.items is.throws;
    alias = is.alias;
    reset = is.reset;
    promises = is.promises;
    on_throw = is.on_throw;
  }

  module _ (typed : AreTypedBodies p s.bodies.items) where
    -- the method's number among the bodies
    owns : (m : MethodId) (o : Option BodyId) → body_number s.bodies.items m.0 ≡ o → OwnsBody q m o
    owns m None is = tt
    owns m (Some n) is =
        let f = number_found s.bodies.items m.0 (position (λ b. nat_eq b.method.0 m.0) s.bodies.items) refl n is in
        let P : Option Body → Type 0 = λ o. IsSomeAnd o (λ x. x.method ≡ m) in
        subst P (sym f.at) (same_method f.body.method m f.own)

    runs_at : (m k : MethodId) (x : Method) → m ≡ k → method_at p k ≡ Some x → IsSomeAnd (method_at p m) (λ y. RunsBody p y) → RunsBody p x
    runs_at m k x one at has =
        let P : MethodId → Type 0 = λ n. IsSomeAnd (method_at p n) (λ y. RunsBody p y) in
        let Q : Option Method → Type 0 = λ o. IsSomeAnd o (λ y. RunsBody p y) in
        subst Q at (subst P one has)

    may_have : (m : MethodId) (x : Method) → method_at p m ≡ Some x → (o : Option BodyId) → body_number s.bodies.items m.0 ≡ o → MayHaveBody q (with_body o x) o
    may_have m x at None is = tt
    may_have m x at (Some n) is =
        let f = number_found s.bodies.items m.0 (position (λ b. nat_eq b.method.0 m.0) s.bodies.items) refl n is in
        let has = (typed.each n.0 f.body f.at).method in
        let runs = some_so (method_at p f.body.method) (λ y. RunsBody p y × HasParameters f.body.vars.items y.sig.params.items) (λ y. RunsBody p y) (λ y w. w.0) has in
        runs_at f.body.method m x (same_method f.body.method m f.own) at runs

    valid_method : (m : MethodId) (x : Method) → method_at p m ≡ Some x → IsValidMethod p m x → IsValidMethod q m (with_body (body_number s.bodies.items m.0) x)
    valid_method m x at is = record {
      listed = is.listed;
      signature = valid_signature x.sig is.signature;
      receiver = is.receiver;
      kind = is.kind;
      body = owns m (body_number s.bodies.items m.0) refl;
      bodiless = may_have m x at (body_number s.bodies.items m.0) refl;
    }

    methods_valid : IsTypedProgram p → (m : MethodId) (y : Method) → method_at q m ≡ Some y → IsValidMethod q m y
    methods_valid is m y found =
        let was = was_method s.bodies.items 0 m.0 p.methods.items y found in
        let start : 0 + m.0 ≡ m.0 = omega arith in
        let now : with_body (body_number s.bodies.items m.0) was.method ≡ y = ap (λ k. with_body (body_number s.bodies.items k) was.method) (sym start) ∙ was.is in
        subst (λ (z : Method). IsValidMethod q m z) now (valid_method m was.method was.at (is.methods m was.method was.at))

    -- ---- bodies

    valid_statement : (b : Body) → IsTypedBody p b → (i : StmtId) (x : TStmt) → statement_at b i ≡ Some x → IsValidStatement q b i x
    valid_statement b is i x found = record { parts = is.tables.parts i x found; headless = is.headless i x found; typed = typed_statement p s same b x.kind (is.tables.statements i x found) }

    valid_expression : (b : Body) → IsTypedBody p b → (e : ExprId) (x : TExpr) → expression_at b e ≡ Some x → IsValidExpression q b e x
    valid_expression b is e x found = record { operands = is.tables.operands e x found; typed = typed_expression p s same b x (is.tables.expressions e x found) }

    body_of : (n : BodyId) (b : Body) → body_number s.bodies.items b.method.0 ≡ Some n → IsTypedBody p b → IsSomeAnd (method_at q b.method) (IsBodyOf n b)
    body_of n b number is =
        let start : 0 + b.method.0 ≡ b.method.0 = omega arith in
        at_numbered s.bodies.items 0 b.method.0 p.methods.items (λ m. RunsBody p m × HasParameters b.vars.items m.sig.params.items) (IsBodyOf n b)
        (λ x w. (ap (λ k. body_number s.bodies.items k) start ∙ number, w.1)) is.method

    valid_body : (n : BodyId) (b : Body) → body_at q n ≡ Some b → IsValidBody q n b
    valid_body n b found =
        let is = typed.each n.0 b found in
        record {
          method = body_of n b (typed.single n b found) is;
          variables = is.variables;
          forest = is.forest;
          heads = is.heads;
          super_call = is.super_call;
          statements = valid_statement b is;
          expressions = valid_expression b is;
        }

    typed_over : IsTypedProgram p → IsTypedProgram q
    typed_over is = record {
      numbered = numbered typed.few is.numbered;
      core = core is.core;
      hierarchy = hierarchy is.hierarchy;
      exceptions = exceptions is.exceptions;
      classes = λ c k found. valid_class c k (is.classes c k found);
      members = λ c k found. members c k.fields.items k.methods.items (is.members c k found);
      fields = λ f x found. valid_field f x (is.fields f x found);
      methods = methods_valid is;
      bodies = valid_body;
      ignored = is.ignored;
      exact = is.exact;
    }

-- ---- the program itself

same_tables : (p : Program) (bodies : List Body) (s : Program) → HasBodies p bodies s → SameTables p s
same_tables p bodies s is = record {
  classes = is.classes;
  methods = is.methods ∙ ap (λ (bs : List Body). methods_from bs 0 p.methods.items) (sym is.bodies_are);
  fields = is.fields;
  ignored = is.ignored;
  exact = is.exact;
  core = is.core;
}

pub with_bodies_typed : (p : Program) (bodies : List Body) (s : Program) → IsTypedProgram p → AreTypedBodies p bodies → HasBodies p bodies s → IsTypedProgram s
with_bodies_typed p bodies s valid typed is =
    let same = same_tables p bodies s is in
    subst IsTypedProgram (over_is p s same) (typed_over p s same (subst (AreTypedBodies p) (sym is.bodies_are) typed) valid)
