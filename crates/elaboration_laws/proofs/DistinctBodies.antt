-- No two bodies of the source files are of one method.
use Rattle.std.proofs.Common.{◌≡◌, ◌∙◌, sym, ap, subst, refl, arith, ℕ, suc, ◌+◌, ◌<◌, ◌≤◌, Option, Some, None, List, [], ◌∷◌, ◌++◌, All, length, map, slice_index, zip}
use Rattle.std.specs.Prelude.{slice_get}
use Rattle.std.specs.List.{flat_map}
use Rattle.std.specs.List.Sorted.{IsStrictlyIncreasing}
use Rattle.std.specs.Option.{IsSomeAnd}
use Rattle.std.proofs.lemmas.List.{map-append}
use Rattle.std.proofs.lemmas.List.Elements.{All-append, All-cons, All-head, All-nil, All-tail, All-weaker}
use Rattle.java_syntax.specs.declared.declaration_trees.Unit as tree
use Rattle.program_model.specs.declared.kinds.ClassId.{ClassId}
use Rattle.program_model.specs.declared.kinds.MethodId.{MethodId}
use Rattle.program_model.specs.declared.program.Class.{Class}
use Rattle.program_model.specs.declared.program.Method.{Method}
use Rattle.program_model.specs.declared.program.Program.{Program}
use Rattle.program_model.specs.Lookups.{class_at, method_at}
use Rattle.program_model.specs.Overrides.{methods_in, methods_of}
use Rattle.program_model.specs.Validity.{IsMethodOf, IsTypedProgram}
use Rattle.class_names.specs.ClassNames.{class_number}
use Rattle.class_table.specs.ClassOrderDeclarations.{Declaration}
use Rattle.class_table.specs.ClassDeclarationsMembers.{Written, written_in}
use Rattle.java_elaboration.specs.SourceClassesMembers.{Environment}
use Rattle.java_elaboration.specs.SourceClasses.{SourceClass, declarations, library_classes, numbered_from, source_classes}
use Rattle.java_elaboration.specs.Bodies.{SourceBody, WrittenBody, all_bodies, bodies_in, body_of, source_body}
use Rattle.elaboration_laws.specs.MethodNumbers.{AreDistinct, method_numbers}

-- ---- rising numbers are distinct

-- each is above the one before it, and the first not below the bound
abbrev Rising : ℕ → List ℕ → Type 0
Rising b [] = Unit {0}
Rising b (x ∷ xs) = (b ≤ x) × Rising (x + 1) xs

rising_from : (b : ℕ) (xs : List ℕ) → (0 < length xs → b ≤ slice_index xs 0) → IsStrictlyIncreasing xs → Rising b xs
rising_from b [] low increasing = tt
rising_from b (x ∷ xs) low increasing = (
  low (omega arith),
  rising_from (x + 1) xs (λ h. let next = increasing 0 (omega (arith, h)) in omega (arith, next)) (λ k h.
      let same : suc k + 1 ≡ suc (k + 1) = omega arith in
      let next = increasing (suc k) (omega (arith, h)) in
      let P : ℕ → Type 0 = λ n. slice_index xs k < slice_index (x ∷ xs) n in
      subst P same next),
)

lower : (b c : ℕ) (xs : List ℕ) → b ≤ c → Rising c xs → Rising b xs
lower b c [] below rising = tt
lower b c (x ∷ xs) below rising = ((let first = rising.0 in omega arith), rising.1)

all_above : (b : ℕ) (xs : List ℕ) → Rising b xs → All (λ x. b ≤ x) xs
all_above b [] rising = All-nil (λ x. b ≤ x)
all_above b (x ∷ xs) rising =
    let low = rising.0 in
    All-cons (λ y. b ≤ y) x xs low (all_above b xs (lower b (x + 1) xs (omega (arith, low)) rising.1))

rising_distinct : (b : ℕ) (xs : List ℕ) → Rising b xs → AreDistinct xs
rising_distinct b [] rising = tt
rising_distinct b (x ∷ xs) rising =
    (All-weaker (λ y. x + 1 ≤ y) (λ y. x ≡ y → ⊥) (λ y above same. absurd (omega (arith, above, same))) xs (all_above (x + 1) xs rising.1), rising_distinct (x + 1) xs rising.1)

-- ---- the bodies of one class

abbrev numbers : List MethodId → List ℕ
numbers ms = map (λ (m : MethodId). m.0) ms

one_before : (b : ℕ) (c : SourceClass) (m : MethodId) (o : Option Method) (w : Option WrittenBody) (rest : List SourceBody) → b ≤ m.0 → Rising (m.0 + 1) (method_numbers rest) → Rising b (method_numbers (source_body c m o w ++ rest))
one_before b c m None w rest low rising = lower b (m.0 + 1) (method_numbers rest) (omega (arith, low)) rising
one_before b c m (Some x) None rest low rising = lower b (m.0 + 1) (method_numbers rest) (omega (arith, low)) rising
one_before b c m (Some x) (Some y) rest low rising = (low, rising)

abbrev bodies_by : Program → SourceClass → List MethodId → List Written → List SourceBody
bodies_by p c ms ws = flat_map (λ (w : MethodId × Written). source_body c w.0 (method_at p w.0) (body_of w.1)) (zip ms ws)

class_rises : (p : Program) (c : SourceClass) (b : ℕ) (ms : List MethodId) (ws : List Written) → Rising b (numbers ms) → Rising b (method_numbers (bodies_by p c ms ws))
class_rises p c b [] ws rising = tt
class_rises p c b (m ∷ ms) [] rising = tt
class_rises p c b (m ∷ ms) (w ∷ ws) rising =
    one_before b c m (method_at p m) (body_of w) (bodies_by p c ms ws) rising.0 (class_rises p c (m.0 + 1) ms ws rising.1)

-- the class that a method with this number is of, by its number
abbrev owner : Option Method → Option ℕ
owner None = None
owner (Some m) = Some m.class.0

abbrev IsOwned : Program → ℕ → ℕ → Type 0
IsOwned p c n = owner (slice_get p.methods.items n) ≡ Some c

owned_by : (c : ClassId) (o : Option Method) → IsSomeAnd o (λ x. x.class ≡ c) → owner o ≡ Some c.0
owned_by c None h = absurd h
owned_by c (Some x) h = ap (λ (d : ClassId). Some d.0) h

one_owned : (p : Program) (c : SourceClass) (m : MethodId) (o : Option Method) (w : Option WrittenBody) → IsOwned p c.class'.0 m.0 → All (IsOwned p c.class'.0) (method_numbers (source_body c m o w))
one_owned p c m None w own = All-nil (IsOwned p c.class'.0)
one_owned p c m (Some x) None own = All-nil (IsOwned p c.class'.0)
one_owned p c m (Some x) (Some y) own = All-cons (IsOwned p c.class'.0) m.0 [] own (All-nil (IsOwned p c.class'.0))

class_owned : (p : Program) (c : SourceClass) (ms : List MethodId) (ws : List Written) → All (IsMethodOf p c.class') ms → All (IsOwned p c.class'.0) (method_numbers (bodies_by p c ms ws))
class_owned p c [] ws all = All-nil (IsOwned p c.class'.0)
class_owned p c (m ∷ ms) [] all = All-nil (IsOwned p c.class'.0)
class_owned p c (m ∷ ms) (w ∷ ws) all =
    let P : ℕ → Type 0 = IsOwned p c.class'.0 in
    let one : List SourceBody = source_body c m (method_at p m) (body_of w) in
    subst (All P) (sym (map-append (λ (b : SourceBody). b.method.0) one (bodies_by p c ms ws)))
    (All-append P (method_numbers one) (method_numbers (bodies_by p c ms ws))
    (one_owned p c m (method_at p m) (body_of w) (owned_by c.class' (method_at p m) (All-head (IsMethodOf p c.class') m ms all)))
    (class_owned p c ms ws (All-tail (IsMethodOf p c.class') m ms all)))

-- the bodies of a class are of methods of its own, no two of one
record HasOwnBodies (e : Environment) (c : SourceClass) : Type 0 where
  distinct : AreDistinct (method_numbers (bodies_in e c))
  owned : All (IsOwned e.program c.class'.0) (method_numbers (bodies_in e c))

own_bodies : (e : Environment) → IsTypedProgram e.program → (c : SourceClass) → HasOwnBodies e c
own_bodies e valid c = by (class_at e.program c.class') refl
  where
    p : Program
    p = e.program

    ws : List Written
    ws = written_in e.classes c.declaration

    moved : (ms : List MethodId) → methods_of p c.class' ≡ ms → AreDistinct (method_numbers (bodies_by p c ms ws)) → All (IsOwned p c.class'.0) (method_numbers (bodies_by p c ms ws)) → HasOwnBodies e c
    moved ms same distinct owned = record {
      distinct = subst (λ (ids : List MethodId). AreDistinct (method_numbers (bodies_by p c ids ws))) (sym same) distinct;
      owned = subst (λ (ids : List MethodId). All (IsOwned p c.class'.0) (method_numbers (bodies_by p c ids ws))) (sym same) owned;
    }

    by : (o : Option Class) → class_at p c.class' ≡ o → HasOwnBodies e c
    by None at = moved [] (ap methods_in at) tt (All-nil (IsOwned p c.class'.0))
    by (Some k) at =
        let members = valid.members c.class' k at in
        let rising : Rising 0 (numbers k.methods.items) = rising_from 0 (numbers k.methods.items) (λ h. omega arith) members.method_order in
        moved k.methods.items (ap methods_in at) (rising_distinct 0 (method_numbers (bodies_by p c k.methods.items ws)) (class_rises p c 0 k.methods.items ws rising)) (class_owned p c k.methods.items ws members.methods)

-- ---- all classes

-- the method is of a class with this number or one behind it
record IsOwnedFrom (p : Program) (first n : ℕ) : Type 0 where
  class' : ℕ
  owned : IsOwned p class' n
  behind : first ≤ class'

same_class : (c d : ℕ) → ◌≡◌ {A = Option ℕ} (Some c) (Some d) → c ≡ d
same_class c d h = cc

differ : (p : Program) (first x y : ℕ) → IsOwned p first x → IsOwnedFrom p (first + 1) y → x ≡ y → ⊥
differ p first x y one other same =
    let d : ℕ = other.class' in
    let equal : first ≡ d = same_class first d (sym one ∙ ap (λ (n : ℕ). owner (slice_get p.methods.items n)) same ∙ other.owned) in
    let behind = other.behind in
    absurd (omega (arith, equal, behind))

joined : (p : Program) (first : ℕ) (xs ys : List ℕ) → AreDistinct xs → AreDistinct ys → All (IsOwned p first) xs → All (IsOwnedFrom p (first + 1)) ys → AreDistinct (xs ++ ys)
joined p first [] ys one other owned behind = other
joined p first (x ∷ xs) ys one other owned behind =
    let P : ℕ → Type 0 = λ m. x ≡ m → ⊥ in
    (All-append P xs ys one.0 (All-weaker (IsOwnedFrom p (first + 1)) P (λ y from. differ p first x y (All-head (IsOwned p first) x xs owned) from) ys behind), joined p first xs ys one.1 other (All-tail (IsOwned p first) x xs owned) behind)

record AreDistinctFrom (p : Program) (first : ℕ) (ns : List ℕ) : Type 0 where
  distinct : AreDistinct ns
  owned : All (IsOwnedFrom p first) ns

from_first : (p : Program) (first n : ℕ) → IsOwned p first n → IsOwnedFrom p first n
from_first p first n own = record { class' = first; owned = own; behind = omega arith }

from_next : (p : Program) (first n : ℕ) → IsOwnedFrom p (first + 1) n → IsOwnedFrom p first n
from_next p first n from = (let behind = from.behind in record { class' = from.class'; owned = from.owned; behind = omega (arith, behind) })

all_distinct : (e : Environment) → IsTypedProgram e.program → (first : ℕ) (ds : List Declaration) → AreDistinctFrom e.program first (method_numbers (all_bodies e (numbered_from first ds)))
all_distinct e valid first [] = record { distinct = tt; owned = All-nil (IsOwnedFrom e.program first) }
all_distinct e valid first (d ∷ ds) =
    let p : Program = e.program in
    let c : SourceClass = record { class' = class_number first; declaration = d } in
    let xs : List ℕ = method_numbers (bodies_in e c) in
    let ys : List ℕ = method_numbers (all_bodies e (numbered_from (first + 1) ds)) in
    let own : HasOwnBodies e c = own_bodies e valid c in
    let rest : AreDistinctFrom p (first + 1) ys = all_distinct e valid (first + 1) ds in
    let same = map-append (λ (b : SourceBody). b.method.0) (bodies_in e c) (all_bodies e (numbered_from (first + 1) ds)) in
    record {
      distinct = subst AreDistinct (sym same) (joined p first xs ys own.distinct rest.distinct own.owned rest.owned);
      owned = subst (All (IsOwnedFrom p first)) (sym same)
          (All-append (IsOwnedFrom p first) xs ys (All-weaker (IsOwned p first) (IsOwnedFrom p first) (from_first p first) xs own.owned) (All-weaker (IsOwnedFrom p (first + 1)) (IsOwnedFrom p first) (from_next p first) ys rest.owned));
    }

pub bodies_distinct : (e : Environment) (units : List tree.Unit) → IsTypedProgram e.program → AreDistinct (method_numbers (all_bodies e (source_classes e.program units)))
bodies_distinct e units valid = (all_distinct e valid (length (library_classes e.program)) (declarations units)).distinct
