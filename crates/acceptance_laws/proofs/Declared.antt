-- No class of a program that is read declares two methods of one signature.
use Rattle.std.proofs.Common.{◌≡◌, ◌∙◌, inl, inr, ap, refl, sym, subst, true≢false, ℕ, ◌<◌, true, Option, Some, List, [], ◌∷◌, Contains}
use Rattle.std.specs.List.{AllZip}
use Rattle.std.specs.Str.{bytes_eq}
use Rattle.std.proofs.lemmas.Bool.{and_from, and_parts, cases_order}
use Rattle.java_syntax.specs.declared.declaration_trees.Param.{Param}
use Rattle.java_syntax.specs.declared.settings.Settings.{Settings}
use Rattle.program_model.specs.declared.kinds.MethodId.{MethodId}
use Rattle.program_model.specs.declared.kinds.VType.{VType}
use Rattle.program_model.specs.declared.program.Method.{Method}
use Rattle.program_model.specs.declared.program.ParamSig.{ParamSig}
use Rattle.program_model.specs.declared.program.Program.{Program}
use Rattle.program_model.specs.Lookups.{method_at}
use Rattle.program_model.specs.Overrides.{are_alike, are_types, is_method_kind, is_type}
use Rattle.class_names.specs.declared.class_name.ClassName.{ClassName}
use Rattle.class_names.specs.Meanings.{CompilationUnit}
use Rattle.class_names.specs.WrittenTypes.{written_type}
use Rattle.program_reading.specs.ClassOrderDeclarations.{Declaration, class_names}
use Rattle.program_reading.specs.ClassDeclarationsMembers.{ConstantOf, ConstructorOf, ImpliedConstructor, MethodOf, Written, WrittenMethod, kind_of, name_of, parameters_of}
use Rattle.program_reading.specs.DoubleMembers.{double_member_cases, is_invocable, is_one_type}
use Rattle.accepted_programs.proofs.Elements.{contains-first}
use Rattle.program_reading.specs.DoubleMembers as members
use Rattle.program_reading.specs.Methods.{IsMethod, IsParameter}
use Rattle.program_reading.specs.Table.{IsTable, all_methods}
use Rattle.acceptance_laws.specs.SameTables.{HasSameHead, HaveSameTables}
use Rattle.acceptance_laws.proofs.Alike.{alike_same}
use Rattle.acceptance_laws.proofs.SignedTables.{signed_tables}
use Rattle.program_reading.specs.Programs.{Input, IsProgram}
use Rattle.program_reading.specs.TypedPrograms.{IsTyped}
use Rattle.accepted_programs.specs.Conditions.{DeclaresOnce}
use Rattle.accepted_programs.proofs.Alike.{alike_back, alike_parts}
use Rattle.acceptance_laws.proofs.Apart.{apart_at, zip_before}
use Rattle.acceptance_laws.proofs.Written.{AreDistinct, DiffersFrom, all_apart}

-- ---- what is written of one parameter list

one_type : (o q : Option VType) (t u : VType) → o ≡ Some t → q ≡ Some u → is_type t u ≡ true → is_one_type o q ≡ true
one_type o q t u is_t is_u h =
    let P : Option VType → Type 0 = λ z. is_one_type z q ≡ true in
    let Q : Option VType → Type 0 = λ z. is_one_type (Some t) z ≡ true in
    subst P (sym is_t) (subst Q (sym is_u) h)

one_list : (classes : List ClassName) (u : CompilationUnit) (ps qs : List Param) (xs ys : List ParamSig) → AllZip (IsParameter classes u) ps xs → AllZip (IsParameter classes u) qs ys → are_types xs ys ≡ true → members.are_alike classes u ps qs ≡ true
one_list classes u [] [] xs ys first second h = refl
one_list classes u [] (q ∷ qs) [] [] first second h = absurd second
one_list classes u [] (q ∷ qs) [] (y ∷ ys) first second h = absurd (true≢false (sym h))
one_list classes u [] (q ∷ qs) (x ∷ xs) ys first second h = absurd first
one_list classes u (p ∷ ps) qs [] ys first second h = absurd first
one_list classes u (p ∷ ps) [] (x ∷ xs) [] first second h = absurd (true≢false (sym h))
one_list classes u (p ∷ ps) [] (x ∷ xs) (y ∷ ys) first second h = absurd second
one_list classes u (p ∷ ps) (q ∷ qs) (x ∷ xs) [] first second h = absurd second
one_list classes u (p ∷ ps) (q ∷ qs) (x ∷ xs) (y ∷ ys) first second h =
    let parts = and_parts (is_type x.vtype y.vtype) (are_types xs ys) h in
    and_from (is_one_type (written_type classes u p.typ) (written_type classes u q.typ)) (members.are_alike classes u ps qs)
    (one_type (written_type classes u p.typ) (written_type classes u q.typ) x.vtype y.vtype first.0.typ second.0.typ parts.0)
    (one_list classes u ps qs xs ys first.1 second.1 parts.1)

invoked : (w : Written) → is_method_kind (kind_of w) ≡ true → is_invocable w ≡ true
invoked (MethodOf m) h = refl
invoked (ConstructorOf k) h = refl
invoked (ImpliedConstructor pos) h = refl
invoked (ConstantOf f v) h = absurd (true≢false (sym h))

-- two methods of a class, the one declared before the other
two_apart : (classes : List ClassName) (w v : WrittenMethod) (x y : Method) → DiffersFrom classes w v → IsMethod classes w x → IsMethod classes v y → x.class ≡ y.class → are_alike y x ≡ true → ⊥
two_apart classes w v x y differ first second same alike =
    let parts = alike_parts y x alike in
    let distinct : AreDistinct classes w v = differ (sym first.class' ∙ same ∙ second.class') in
    let earlier : is_invocable w.written ≡ true = invoked w.written (ap is_method_kind (sym first.kind) ∙ parts.named_kind) in
    let later : is_invocable v.written ≡ true = invoked v.written (ap is_method_kind (sym second.kind) ∙ parts.kind) in
    let u : CompilationUnit = w.declaration.unit in
    let P : Declaration → Type 0 = λ d. AllZip (IsParameter classes d.unit) (parameters_of v.written) y.sig.params.items in
    let params : AllZip (IsParameter classes u) (parameters_of v.written) y.sig.params.items = subst P distinct.declaration second.signature.params in
    let types : members.are_alike classes u (parameters_of v.written) (parameters_of w.written) ≡ true =
    one_list classes u (parameters_of v.written) (parameters_of w.written) y.sig.params.items x.sig.params.items params first.signature.params parts.types in
    let N : List ℕ → Type 0 = λ n. bytes_eq n x.name ≡ true in
    let M : List ℕ → Type 0 = λ n. bytes_eq (name_of v.written) n ≡ true in
    let name : bytes_eq (name_of v.written) (name_of w.written) ≡ true = subst M first.name (subst N second.name parts.name) in
    distinct.signature earlier later (and_from (members.are_alike classes u (parameters_of v.written) (parameters_of w.written)) (bytes_eq (name_of v.written) (name_of w.written)) types name)

one_before : (order : List Declaration) (settings : Settings) (p : Program) → IsTable order settings p → double_member_cases (class_names order) order ≡ [] → (a b : MethodId) (x y : Method) → method_at p a ≡ Some x → method_at p b ≡ Some y → x.class ≡ y.class → are_alike y x ≡ true → a.0 < b.0 → ⊥
one_before order settings p table none a b x y at_x at_y same alike before =
    let classes : List ClassName = class_names order in
    let first = zip_before (IsMethod classes) (all_methods order) p.methods.items a.0 x table.methods at_x in
    let second = zip_before (IsMethod classes) (all_methods order) p.methods.items b.0 y table.methods at_y in
    two_apart classes first.0 second.0 x y (apart_at (DiffersFrom classes) (all_methods order) a.0 b.0 first.0 second.0 (all_apart classes 0 order none) first.1 second.1 before) first.2 second.2 same alike

pub declares_once : (order : List Declaration) (settings : Settings) (p : Program) → IsTable order settings p → double_member_cases (class_names order) order ≡ [] → DeclaresOnce p
declares_once order settings p table none a b x y at_x at_y same alike =
    elim (cases_order a.0 b.0) [
      | inl one ↦ (λ i. record { 0 = one i })
      | inr other ↦ elim other [
        | inl before ↦ absurd (one_before order settings p table none a b x y at_x at_y same (alike_back x y alike) before)
        | inr behind ↦ absurd (one_before order settings p table none b a y x at_y at_x (sym same) alike behind)
      ]
    ]

-- ---- the program of the files

same_once : (p q : Program) → HaveSameTables p q → DeclaresOnce p → DeclaresOnce q
same_once p q h once a b x y at_x at_y same alike =
    let first = zip_before HasSameHead p.methods.items q.methods.items a.0 x h.methods at_x in
    let second = zip_before HasSameHead p.methods.items q.methods.items b.0 y h.methods at_y in
    once a b first.0 second.0 first.1 second.1 (first.2.class' ∙ same ∙ sym second.2.class') (alike_same first.0 x second.0 y first.2 second.2 ∙ alike)

nothing_there : {X : Type 0} (xs : List X) → ((x : X) → Contains xs x → ⊥) → xs ≡ []
nothing_there [] none = refl
nothing_there (x ∷ xs) none = absurd (none x (contains-first x xs))

pub read_once : (input : Input) (p : Program) → IsProgram input p → DeclaresOnce p
read_once input p is =
    let typed : IsTyped input.settings is.sections is.sources is.typed = is.is_typed in
    let table : Program = typed.table in
    let none = typed.built.right.fit.members in
    same_once table p (signed_tables table is.typed p is.typed.bodies.items typed.elaborated.table is.annotated.signed)
    (declares_once _ input.settings table typed.built.table (nothing_there _ none))
