-- Where the members of the table are written.
use Rattle.std.proofs.Common.{◌≡◌, refl, subst, arith, ℕ, suc, ◌+◌, Bool, true, false, cond, Some, List, [], ◌∷◌}
use Rattle.std.specs.Prelude.{slice_get, flat_map, Contains}
use Rattle.std.specs.List.{All}
use Rattle.std.proofs.lemmas.List.Elements.{All-append, All-contains_itself, All-map, All-nil, All-weaker}
use Rattle.java_syntax.specs.declared.declaration_trees.Member.{Member}
use Rattle.java_syntax.specs.declared.declaration_trees.Member.TheVariants as members
use Rattle.java_syntax.specs.declared.statement_trees.Variable.{Variable}
use Rattle.class_names.specs.declared.class_name.ClassName.{ClassName}
use Rattle.class_names.specs.ClassNames.{class_number}
use Rattle.class_order.specs.Declarations.{Declaration, class_names}
use Rattle.class_declarations.specs.Members.{Written, WrittenField, WrittenMethod, fields_from, fields_of, fields_of_member, fields_of_members, methods_from, methods_of, written_in}
use Rattle.class_table.specs.Table.{all_fields, all_methods}

pub all_within : {X : Type 0} (P : X → Type 0) (xs : List X) → ((x : X) → Contains xs x → P x) → All P xs
all_within P xs h = All-weaker (Contains xs) P h xs (All-contains_itself xs)

all_flat : {X Y : Type 0} (P : Y → Type 0) (f : X → List Y) (xs : List X) → ((x : X) → Contains xs x → All P (f x)) → All P (flat_map f xs)
all_flat P f [] h = All-nil P
all_flat P f (x ∷ xs) h = All-append P (f x) (flat_map f xs) (h x (0, (omega arith), refl)) (all_flat P f xs (λ y has. h y (suc has.0, (let within = has.1 in omega arith), has.2)))

unless : {X : Type 0} (P : X → Type 0) (b : Bool) (xs : List X) → (b ≡ false → All P xs) → All P (cond b [] xs)
unless P true xs h = All-nil P
unless P false xs h = h refl

-- the list goes on as the whole does from there on
abbrev IsRest : List Declaration → ℕ → List Declaration → Type 0
IsRest order first ds = (i : ℕ) (d : Declaration) → slice_get ds i ≡ Some d → slice_get order (first + i) ≡ Some d

rest_first : (order : List Declaration) (first : ℕ) (d : Declaration) (ds : List Declaration) → IsRest order first (d ∷ ds) → slice_get order first ≡ Some d
rest_first order first d ds rest =
    let same : first + 0 ≡ first = omega arith in
    let P : ℕ → Type 0 = λ n. slice_get order n ≡ Some d in
    subst P same (rest 0 d refl)

rest_next : (order : List Declaration) (first : ℕ) (d : Declaration) (ds : List Declaration) → IsRest order first (d ∷ ds) → IsRest order (first + 1) ds
rest_next order first d ds rest i e at =
    let same : first + suc i ≡ first + 1 + i = omega arith in
    let P : ℕ → Type 0 = λ n. slice_get order n ≡ Some e in
    subst P same (rest (suc i) e at)

rest_all : (order : List Declaration) → IsRest order 0 order
rest_all order i d at =
    let same : i ≡ 0 + i = omega arith in
    let P : ℕ → Type 0 = λ n. slice_get order n ≡ Some d in
    subst P same at

-- ---- fields

-- a field of a class of the program
pub record IsFieldIn (order : List Declaration) (w : WrittenField) : Type 0 where
  pub declared : slice_get order w.class'.0 ≡ Some w.declaration
  pub program : w.declaration.unit.library ≡ false
  pub member : Contains w.declaration.class_tree.members.items (members.Field w.field)

field_in : (order : List Declaration) (n : ℕ) (d : Declaration) → slice_get order n ≡ Some d → d.unit.library ≡ false → (m : Member) → Contains d.class_tree.members.items m → All (IsFieldIn order) (fields_of_member (class_number n) d m)
field_in order n d at program (members.Method m) has = All-nil (IsFieldIn order)
field_in order n d at program (members.Constructor k) has = All-nil (IsFieldIn order)
field_in order n d at program (members.Field f) has =
    All-map (IsFieldIn order) (λ (v : Variable). record { class' = class_number n; declaration = d; field = f; variable = v }) f.variables.items
    (λ k v within. record { declared = at; program = program; member = has })

fields_rest : (order : List Declaration) (first : ℕ) (ds : List Declaration) → IsRest order first ds → All (IsFieldIn order) (fields_from first ds)
fields_rest order first [] rest = All-nil (IsFieldIn order)
fields_rest order first (d ∷ ds) rest =
    All-append (IsFieldIn order) (fields_of (class_number first) d) (fields_from (first + 1) ds)
    (unless (IsFieldIn order) d.unit.library (fields_of_members (class_number first) d d.class_tree.members.items)
    (λ program. all_flat (IsFieldIn order) (fields_of_member (class_number first) d) d.class_tree.members.items (field_in order first d (rest_first order first d ds rest) program)))
    (fields_rest order (first + 1) ds (rest_next order first d ds rest))

pub fields_in : (order : List Declaration) → All (IsFieldIn order) (all_fields order)
fields_in order = fields_rest order 0 order (rest_all order)

-- ---- methods

-- a method, constructor or constant of a class of the program or of a stub
pub record IsMethodIn (order : List Declaration) (classes : List ClassName) (w : WrittenMethod) : Type 0 where
  pub declared : slice_get order w.class'.0 ≡ Some w.declaration
  pub member : Contains (written_in classes w.declaration) w.written

methods_rest : (order : List Declaration) (classes : List ClassName) (first : ℕ) (ds : List Declaration) → IsRest order first ds → All (IsMethodIn order classes) (methods_from first classes ds)
methods_rest order classes first [] rest = All-nil (IsMethodIn order classes)
methods_rest order classes first (d ∷ ds) rest =
    let P = IsMethodIn order classes in
    let make : Written → WrittenMethod = λ w. record { class' = class_number first; declaration = d; written = w } in
    All-append P (methods_of classes (class_number first) d) (methods_from (first + 1) classes ds)
    (All-map P make (written_in classes d) (all_within (λ (w : Written). P (make w)) (written_in classes d) (λ w has. record { declared = rest_first order first d ds rest; member = has })))
    (methods_rest order classes (first + 1) ds (rest_next order first d ds rest))

pub methods_in : (order : List Declaration) → All (IsMethodIn order (class_names order)) (all_methods order)
methods_in order = methods_rest order (class_names order) 0 order (rest_all order)
