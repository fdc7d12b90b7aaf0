-- Bodies and annotations change nothing that is declared of classes and methods.
use Rattle.std.proofs.Common.{◌≡◌, ◌∙◌, ap, sym, refl, subst, arith, ℕ, zero, suc, ◌+◌, Option, Some, None, List, [], ◌∷◌, ◌++◌, map}
use Rattle.std.specs.Prelude.{not, slice_get, cond}
use Rattle.std.specs.List.{AllZip, filter, flat_map}
use Rattle.std.proofs.lemmas.Bool.{eq-eqb}
use Rattle.rlc_base.specs.declared.faults.Refusal.{Refusal}
use Rattle.program_model.specs.declared.kinds.ClassId.{ClassId}
use Rattle.program_model.specs.declared.program.Class.{Class}
use Rattle.program_model.specs.declared.program.Field.{Field}
use Rattle.program_model.specs.declared.program.Method.{Method}
use Rattle.program_model.specs.declared.program.ParamSig.{ParamSig}
use Rattle.program_model.specs.declared.program.Program.{Program}
use Rattle.program_model.specs.declared.tree.Body.{Body}
use Rattle.program_model.specs.Lookups.{class_at, method_at}
use Rattle.program_model.specs.Overrides.{methods_of, overrides_of}
use Rattle.program_model.specs.SuperTests.{classes_above, is_class}
use Rattle.class_names.specs.ClassNames.{class_number}
use Rattle.accepted_programs.specs.Cases.{body_case, class_cases, override_case}
use Rattle.program_bodies.specs.ProgramBodies.{HasBodies, body_number, methods_from, with_body}
use Rattle.accepted_programs.specs.Effective.{signed_parameter}
use Rattle.accepted_programs.specs.SignedMethods.{IsSignedMethod}
use Rattle.accepted_programs.specs.Signed.{IsSigned}
use Rattle.accepted_programs.proofs.SignedTables.{SameClass, same_classes, zip_so}
use Rattle.program_reading.specs.ProgramCases.{member_cases, member_cases_from}
use Rattle.acceptance_laws.specs.SameTables.{HasSameHead, HaveSameTables, IsSameClass}

-- ---- bodies

head_itself : (b : List Body) (n : ℕ) (m : Method) → HasSameHead m (with_body (body_number b n) m)
head_itself b n m = record { class' = refl; name = refl; kind = refl; private = refl; final = refl; abstract = refl; place = refl; params = refl; result = refl; throws = refl }

heads_with_bodies : (bodies : List Body) (first : ℕ) (ms : List Method) → AllZip HasSameHead ms (methods_from bodies first ms)
heads_with_bodies bodies first [] = tt
heads_with_bodies bodies first (m ∷ ms) = (head_itself bodies first m, heads_with_bodies bodies (first + 1) ms)

-- ---- annotations

kept_type : (table : List (List ℕ)) (xs : List ParamSig) → map (λ (x : ParamSig). x.vtype) (map (signed_parameter table) xs) ≡ map (λ (x : ParamSig). x.vtype) xs
kept_type table [] = refl
kept_type table (x ∷ xs) = ap (λ rest. x.vtype ∷ rest) (kept_type table xs)

signed_head : (table : List (List ℕ)) (fields : List Field) (classes : List Class) (m s : Method) → IsSignedMethod table fields classes m s → HasSameHead m s
signed_head table fields classes m s is =
    let kept = is.kept in
    record {
      class' = ap (λ (x : Method). x.class) (sym kept);
      name = ap (λ (x : Method). x.name) (sym kept);
      kind = ap (λ (x : Method). x.kind) (sym kept);
      private = ap (λ (x : Method). x.is_private) (sym kept);
      final = ap (λ (x : Method). x.is_final) (sym kept);
      abstract = ap (λ (x : Method). x.is_abstract) (sym kept);
      place = ap (λ (x : Method). x.pos) (sym kept);
      params = sym (ap (map (λ (x : ParamSig). x.vtype)) is.signature.params ∙ kept_type table m.sig.params.items);
      result = sym is.signature.result;
      throws = ap (λ cs. cs.items) (sym is.signature.throws);
    }

signed_class : (k j : Class) → SameClass k j → IsSameClass k j
signed_class k j same = record {
  place = ap (λ (x : Class). x.pos) same;
  library = ap (λ (x : Class). x.library) same;
  interface = ap (λ (x : Class). x.interface) same;
  abstract = ap (λ (x : Class). x.is_abstract) same;
  super_class = ap (λ (x : Class). x.sup) same;
  above = ap (λ (x : Class). x.above.items) same;
  methods = ap (λ (x : Class). x.methods.items) same;
}

-- ---- both, one after the other

then_head : (l m n : Method) → HasSameHead l m → HasSameHead m n → HasSameHead l n
then_head l m n a b = record {
  class' = a.class' ∙ b.class';
  name = a.name ∙ b.name;
  kind = a.kind ∙ b.kind;
  private = a.private ∙ b.private;
  final = a.final ∙ b.final;
  abstract = a.abstract ∙ b.abstract;
  place = a.place ∙ b.place;
  params = a.params ∙ b.params;
  result = a.result ∙ b.result;
  throws = a.throws ∙ b.throws;
}

then_heads : (ls ms ns : List Method) → AllZip HasSameHead ls ms → AllZip HasSameHead ms ns → AllZip HasSameHead ls ns
then_heads [] [] ns first second = second
then_heads [] (m ∷ ms) ns first second = absurd first
then_heads (l ∷ ls) [] ns first second = absurd first
then_heads (l ∷ ls) (m ∷ ms) [] first second = absurd second
then_heads (l ∷ ls) (m ∷ ms) (n ∷ ns) first second = (then_head l m n first.0 second.0, then_heads ls ms ns first.1 second.1)

pub signed_tables : (table typed p : Program) (bodies : List Body) → HasBodies table bodies typed → IsSigned typed p → HaveSameTables table p
signed_tables table typed p bodies has signed =
    let with_bodies : AllZip HasSameHead table.methods.items typed.methods.items = subst (AllZip HasSameHead table.methods.items) (sym has.methods) (heads_with_bodies bodies 0 table.methods.items) in
    let with_signatures : AllZip HasSameHead typed.methods.items p.methods.items =
    zip_so (IsSignedMethod p.names typed.fields.items typed.classes.items) HasSameHead typed.methods.items p.methods.items (signed_head p.names typed.fields.items typed.classes.items) signed.methods in
    let classes : AllZip IsSameClass typed.classes.items p.classes.items =
    zip_so SameClass IsSameClass typed.classes.items p.classes.items signed_class (same_classes p.names typed.classes.items p.classes.items signed.classes) in
    record {
      classes = subst (λ (ks : List Class). AllZip IsSameClass ks p.classes.items) has.classes classes;
      methods = then_heads table.methods.items typed.methods.items p.methods.items with_bodies with_signatures;
      core = sym has.core ∙ sym signed.core;
    }

-- ---- the refusals of all classes

cons_is_nil : {X : Type 0} (x : X) (xs : List X) → ◌≡◌ {A = List X} (x ∷ xs) [] → ⊥
cons_is_nil x xs h = cc

nil_left : {X : Type 0} (xs ys : List X) → xs ++ ys ≡ [] → xs ≡ []
nil_left [] ys h = refl
nil_left (x ∷ xs) ys h = absurd (cons_is_nil x (xs ++ ys) h)

nil_right : {X : Type 0} (xs ys : List X) → xs ++ ys ≡ [] → ys ≡ []
nil_right [] ys h = h
nil_right (x ∷ xs) ys h = absurd (cons_is_nil x (xs ++ ys) h)

none_is_some : {X : Type 0} (x : X) → ◌≡◌ {A = Option X} None (Some x) → ⊥
none_is_some x h = cc

none_at : (p : Program) (first : ℕ) (ks : List Class) → member_cases_from p first ks ≡ [] → (n : ℕ) (k : Class) → slice_get ks n ≡ Some k → class_cases p (class_number (first + n)) ≡ []
none_at p first [] none n k at = absurd (none_is_some k at)
none_at p first (j ∷ ks) none zero k at =
    let start : first ≡ first + 0 = omega arith in
    let P : ℕ → Type 0 = λ m. class_cases p (class_number m) ≡ [] in
    subst P start (nil_left (class_cases p (class_number first)) (member_cases_from p (first + 1) ks) none)
none_at p first (j ∷ ks) none (suc n) k at =
    let next : first + 1 + n ≡ first + suc n = omega arith in
    let P : ℕ → Type 0 = λ m. class_cases p (class_number m) ≡ [] in
    subst P next (none_at p (first + 1) ks (nil_right (class_cases p (class_number first)) (member_cases_from p (first + 1) ks) none) n k at)

-- a number of no class has nothing above it but itself
abbrev overriding_of : Program → ClassId → Option Class → List Refusal
overriding_of p c o = flat_map (override_case p) (flat_map (λ n. overrides_of p c (method_at p n)) (flat_map (methods_of p) (filter (λ d. not (is_class d c)) (classes_above c o)))) ++ body_case p c o

no_class : (p : Program) (c : ClassId) → overriding_of p c None ≡ []
no_class p c = ap (λ b. flat_map (override_case p) (flat_map (λ n. overrides_of p c (method_at p n)) (flat_map (methods_of p) (cond (not b) (c ∷ []) []))) ++ []) (eq-eqb c.0 c.0 refl)

pub no_cases : (p : Program) → member_cases p ≡ [] → (c : ClassId) → class_cases p c ≡ []
no_cases p none c = by (class_at p c) refl
  where
    by : (o : Option Class) → class_at p c ≡ o → class_cases p c ≡ []
    by None at = ap (overriding_of p c) at ∙ no_class p c
    by (Some k) at =
        let from : 0 + c.0 ≡ c.0 = omega arith in
        let P : ℕ → Type 0 = λ m. class_cases p (class_number m) ≡ [] in
        subst P from (none_at p 0 p.classes.items none c.0 k at)
