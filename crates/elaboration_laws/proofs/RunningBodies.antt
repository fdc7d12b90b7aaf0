-- The bodies of the source files are those of the methods that run one: each body is, and each such method has one.
use Rattle.std.proofs.Common.{◌≡◌, ◌∙◌, sym, ap, subst, refl, arith, ℕ, zero, suc, ◌<◌, Bool, true, false, Option, Some, None, List, [], ◌∷◌, All, length, zip}
use Rattle.std.specs.Prelude.{not, slice_get, slice_index_or}
use Rattle.std.specs.List.{Contains, flat_map}
use Rattle.std.specs.Option.{IsSomeAnd, is_some}
use Rattle.std.proofs.lemmas.List.{map-append}
use Rattle.std.proofs.lemmas.List.Elements.{All-cons, All-contains, All-head, All-nil, All-tail, Contains-append_left, Contains-append_right}
use Rattle.java_syntax.specs.declared.declaration_trees.Unit as tree
use Rattle.java_syntax.specs.declared.settings.Settings.{Settings}
use Rattle.program_model.specs.declared.kinds.ClassId.{ClassId}
use Rattle.program_model.specs.declared.kinds.MethodId.{MethodId}
use Rattle.program_model.specs.declared.program.Class.{Class}
use Rattle.program_model.specs.declared.program.Method.{Method}
use Rattle.program_model.specs.declared.program.Program.{Program}
use Rattle.program_model.specs.Lookups.{class_at, method_at}
use Rattle.program_model.specs.Overrides.{methods_in, methods_of}
use Rattle.program_model.specs.Validity.{IsTypedProgram, RunsBody, is_constant}
use Rattle.class_table.specs.ClassDeclarationsMembers.{Written, written_in}
use Rattle.method_bodies.specs.MethodBodies.{body_cases}
use Rattle.class_table.specs.Passes.{classes_of}
use Rattle.class_table.specs.Table.{IsTable}
use Rattle.java_elaboration.specs.SourceClassesMembers.{Environment, numbered_methods}
use Rattle.java_elaboration.specs.SourceClasses.{SourceClass, source_classes}
use Rattle.java_elaboration.specs.Bodies.{SourceBody, WrittenBody, all_bodies, bodies_in, body_of, source_body}
use Rattle.elaboration_laws.specs.MethodNumbers.{method_numbers}
use Rattle.elaboration_laws.specs.SourceBodies.{source_declaration, table_declaration}
use Rattle.elaboration_laws.proofs.DueBodies.{IsDueClass, IsDueMethod, due_classes, due_methods}
use Rattle.elaboration_laws.proofs.OwnClasses.{HasSourceClass, contains_later, has_source_class, own_class}
use Rattle.elaboration_laws.proofs.SourceBodies.{all_flat}
use Rattle.elaboration_laws.proofs.SourceMethods.{IsLinked, linked_classes, own_count}

-- ---- each body is one of a method that runs it

abbrev IsRun : Program → SourceBody → Type 0
IsRun p b = RunsBody p b.signature

-- what is known of a method by what is written
abbrev IsDueFor : SourceClass → Written → Method → Type 0
IsDueFor c w m = (m.class ≡ c.class') × (is_some (body_of w) ≡ not m.is_abstract) × (is_constant m.kind ≡ false)

not_so : (b : Bool) → true ≡ not b → b ≡ false
not_so true h = absurd (let wrong : ◌≡◌ {A = Bool} true false = h in cc)
not_so false h = refl

body_is_run : (p : Program) (c : SourceClass) (m : MethodId) (w : Written) → IsSomeAnd (class_at p c.class') (λ k. k.library ≡ false) → (o : Option Method) → IsSomeAnd o (IsDueFor c w) → (b : Option WrittenBody) → body_of w ≡ b → All (IsRun p) (source_body c m o b)
body_is_run p c m w own None due b is = absurd due
body_is_run p c m w own (Some x) due None is = All-nil (IsRun p)
body_is_run p c m w own (Some x) due (Some y) is =
    let O : ClassId → Type 0 = λ d. IsSomeAnd (class_at p d) (λ k. k.library ≡ false) in
    All-cons (IsRun p) (record { class' = c; method = m; signature = x; body = y }) []
    (not_so x.is_abstract (ap is_some (sym is) ∙ due.1), due.2, subst O (sym due.0) own)
    (All-nil (IsRun p))

all_both : {X : Type 0} (P Q : X → Type 0) (xs : List X) → All P xs → All Q xs → All (λ x. P x × Q x) xs
all_both P Q [] first second = All-nil (λ x. P x × Q x)
all_both P Q (x ∷ xs) first second =
    All-cons (λ y. P y × Q y) x xs (All-head P x xs first, All-head Q x xs second) (all_both P Q xs (All-tail P x xs first) (All-tail Q x xs second))

-- what is known of a class of the source files
abbrev IsKnownClass : List tree.Unit → List tree.Unit → Settings → Program → SourceClass → Type 0
IsKnownClass units stubs settings p c = IsLinked (table_declaration units stubs settings) (source_declaration p units) c × IsDueClass c

known_classes : (units stubs : List tree.Unit) (settings : Settings) (p : Program) → IsTable (classes_of units stubs settings) settings p → body_cases units ≡ [] → All (IsKnownClass units stubs settings p) (source_classes p units)
known_classes units stubs settings p t none =
    all_both (IsLinked (table_declaration units stubs settings) (source_declaration p units)) IsDueClass (source_classes p units) (linked_classes units stubs settings p t) (due_classes p units none)

pub source_bodies_run : (units stubs : List tree.Unit) (settings : Settings) (e : Environment) → IsTable (classes_of units stubs settings) settings e.program → body_cases units ≡ [] → All (λ b. RunsBody e.program b.signature) (all_bodies e (source_classes e.program units))
source_bodies_run units stubs settings e t none =
    let p : Program = e.program in
    all_flat (IsKnownClass units stubs settings p) (IsRun p) (bodies_in e)
    (λ c known. all_flat (IsDueMethod p c) (IsRun p) (λ (w : MethodId × Written). source_body c w.0 (method_at p w.0) (body_of w.1))
    (λ w due. body_is_run p c w.0 w.1 (own_class units stubs settings p t c known.0) (method_at p w.0) due (body_of w.1) refl)
    (numbered_methods e c) (due_methods units stubs settings p t e.classes c known.0 known.1))
    (source_classes p units) (known_classes units stubs settings p t none)

-- ---- each method that runs a body has one

contains_flat : {X : Type 0} (f : X → List SourceBody) (xs : List X) (x : X) (n k : ℕ) → k < length xs → Contains (method_numbers (f x)) n → (slice_get xs k ≡ Some x) → Contains (method_numbers (flat_map f xs)) n
contains_flat f [] x n k below has at = absurd (omega (arith, below))
contains_flat {X} f (z ∷ xs) x n zero below has at =
    let same : z ≡ x = (let h : ◌≡◌ {A = Option X} (Some z) (Some x) = at in cc) in
    let P : List ℕ → Type 0 = λ ns. Contains ns n in
    subst P (sym (map-append (λ (b : SourceBody). b.method.0) (f z) (flat_map f xs)))
    (Contains-append_left (method_numbers (f z)) (method_numbers (flat_map f xs)) n (subst (λ y. Contains (method_numbers (f y)) n) (sym same) has))
contains_flat f (z ∷ xs) x n (suc k) below has at =
    let P : List ℕ → Type 0 = λ ns. Contains ns n in
    subst P (sym (map-append (λ (b : SourceBody). b.method.0) (f z) (flat_map f xs)))
    (Contains-append_right (method_numbers (f z)) (method_numbers (flat_map f xs)) n (contains_flat f xs x n k (omega (arith, below)) has at))

-- where an element stands
found_at : {X : Type 0} (xs : List X) (x : X) (k : ℕ) → k < length xs → slice_index_or xs k x ≡ x → slice_get xs k ≡ Some x
found_at [] x k below is = absurd (omega (arith, below))
found_at (z ∷ xs) x zero below is = ap Some is
found_at (z ∷ xs) x (suc k) below is = found_at xs x k (omega (arith, below)) is

contains_in : {X : Type 0} (f : X → List SourceBody) (xs : List X) (x : X) (n : ℕ) → Contains xs x → Contains (method_numbers (f x)) n → Contains (method_numbers (flat_map f xs)) n
contains_in f xs x n h has = contains_flat f xs x n h.0 h.1 has (found_at xs x h.0 h.1 h.2)

-- the method of a class beside what is written
record IsBeside (ids : List MethodId) (ws : List Written) (m : MethodId) : Type 0 where
  written : Written
  listed : Contains (zip ids ws) (m, written)

beside : (ids : List MethodId) (ws : List Written) (m : MethodId) (k : ℕ) → length ids ≡ length ws → slice_get ids k ≡ Some m → IsBeside ids ws m
beside [] ws m k long at = absurd (let h : ◌≡◌ {A = Option MethodId} None (Some m) = at in cc)
beside (i ∷ ids) [] m k long at = absurd (omega (arith, long))
beside (i ∷ ids) (w ∷ ws) m zero long at =
    let same : i ≡ m = (let h : ◌≡◌ {A = Option MethodId} (Some i) (Some m) = at in cc) in
    record { written = w; listed = (0, omega arith, ap (λ (x : MethodId). (x, w)) same) }
beside (i ∷ ids) (w ∷ ws) m (suc k) long at =
    let b = beside ids ws m k (omega (arith, long)) at in
    record { written = b.written; listed = contains_later (i, w) (zip ids ws) (m, b.written) b.listed }

body_there : (c : SourceClass) (m : MethodId) (x : Method) (b : Option WrittenBody) → is_some b ≡ true → Contains (method_numbers (source_body c m (Some x) b)) m.0
body_there c m x None is = absurd (let h : ◌≡◌ {A = Bool} false true = is in cc)
body_there c m x (Some y) is = (0, omega arith, refl)

has_due : (w : Written) (a : Bool) → is_some (body_of w) ≡ not a → a ≡ false → is_some (body_of w) ≡ true
has_due w a is none = is ∙ ap not none

-- the method is listed among those of its class
listed_in : (o : Option Class) (k : Class) (m : MethodId) → o ≡ Some k → IsSomeAnd o (λ j. Contains j.methods.items m) → Contains k.methods.items m
listed_in o k m at listed = let P : Option Class → Type 0 = λ x. IsSomeAnd x (λ j. Contains j.methods.items m) in subst P at listed

class_body : (units stubs : List tree.Unit) (settings : Settings) (e : Environment) → IsTable (classes_of units stubs settings) settings e.program → (c : SourceClass) → IsKnownClass units stubs settings e.program c → (m : MethodId) (x : Method) → method_at e.program m ≡ Some x → x.is_abstract ≡ false → (k : Class) → class_at e.program c.class' ≡ Some k → Contains k.methods.items m → Contains (method_numbers (bodies_in e c)) m.0
class_body units stubs settings e t c known m x at none k of_class listed =
    let p : Program = e.program in
    let ws : List Written = written_in e.classes c.declaration in
    let same : methods_of p c.class' ≡ k.methods.items = ap methods_in of_class in
    let b = beside k.methods.items ws m listed.0 (own_count units stubs settings p t e.classes c known.0 k of_class) (found_at k.methods.items m listed.0 listed.1 listed.2) in
    let w : MethodId × Written = (m, b.written) in
    let there : Contains (numbered_methods e c) w = subst (λ (ids : List MethodId). Contains (zip ids ws) w) (sym same) b.listed in
    let due : IsDueMethod p c w = All-contains (IsDueMethod p c) (numbered_methods e c) w (due_methods units stubs settings p t e.classes c known.0 known.1) there in
    let D : Option Method → Type 0 = λ o. IsSomeAnd o (IsDueFor c b.written) in
    let due_x : IsDueFor c b.written x = subst D at due in
    let B : Option Method → Type 0 = λ o. Contains (method_numbers (source_body c m o (body_of b.written))) m.0 in
    contains_in (λ (v : MethodId × Written). source_body c v.0 (method_at p v.0) (body_of v.1)) (numbered_methods e c) w m.0 there
    (subst B (sym at) (body_there c m x (body_of b.written) (has_due b.written x.is_abstract due_x.1 none)))

pub methods_have_bodies : (units stubs : List tree.Unit) (settings : Settings) (e : Environment) → IsTable (classes_of units stubs settings) settings e.program → IsTypedProgram e.program → body_cases units ≡ [] → (m : MethodId) (x : Method) → method_at e.program m ≡ Some x → RunsBody e.program x → Contains (method_numbers (all_bodies e (source_classes e.program units))) m.0
methods_have_bodies units stubs settings e t valid none m x at runs = by (class_at e.program x.class) refl runs.2
  where
    p : Program
    p = e.program

    by : (o : Option Class) → class_at p x.class ≡ o → IsSomeAnd o (λ k. k.library ≡ false) → Contains (method_numbers (all_bodies e (source_classes p units))) m.0
    by None of_class own = absurd own
    by (Some k) of_class own =
        let s : HasSourceClass p units x.class = has_source_class units stubs settings p t x.class k of_class own in
        let known : IsKnownClass units stubs settings p s.class' = All-contains (IsKnownClass units stubs settings p) (source_classes p units) s.class' (known_classes units stubs settings p t none) s.listed in
        let there : class_at p s.class'.class' ≡ Some k = ap (class_at p) s.number ∙ of_class in
        contains_in (bodies_in e) (source_classes p units) s.class' m.0 s.listed
        (class_body units stubs settings e t s.class' known m x at runs.0 k there (listed_in (class_at p x.class) k m of_class (valid.methods m x at).listed))
