-- No two methods that are written in one class have one signature.
use Rattle.std.proofs.Common.{◌≡◌, ap, refl, arith, ℕ, ◌+◌, ◌≤◌, true, List, [], ◌∷◌, map}
use Rattle.std.specs.List.{flat_map}
use Rattle.rlc_base.specs.declared.code.Code.TheVariants as refused
use Rattle.refusal_order.specs.Refusals.{refused_at}
use Rattle.program_model.specs.declared.kinds.ClassId.{ClassId}
use Rattle.class_names.specs.declared.class_name.ClassName.{ClassName}
use Rattle.class_names.specs.ClassNames.{class_number}
use Rattle.program_reading.specs.ClassOrderDeclarations.{Declaration}
use Rattle.program_reading.specs.ClassDeclarationsMembers.{Written, WrittenMethod, methods_from, methods_of, pos_of, written_in}
use Rattle.program_reading.specs.DoubleMembers.{double_fields, double_members, double_methods, have_one_signature, invocable, is_invocable, repeats}
use Rattle.program_reading.proofs.KnownLemmas.{none_left, none_right}
use Rattle.acceptance_laws.proofs.Apart.{Apart, Each, apart_both, apart_mapped, each_both, each_from, each_mapped, each_so, none_repeated}

-- two that are written in one class are of one declaration, and the later has not the signature of the earlier
pub record AreDistinct (classes : List ClassName) (w v : WrittenMethod) : Type 0 where
  pub declaration : v.declaration ≡ w.declaration
  pub signature : is_invocable w.written ≡ true → is_invocable v.written ≡ true → have_one_signature classes w.declaration.unit v.written w.written ≡ true → ⊥

abbrev pub DiffersFrom : List ClassName → WrittenMethod → WrittenMethod → Type 0
DiffersFrom classes w v = w.class' ≡ v.class' → AreDistinct classes w v

cons_is_nil : {X : Type 0} (x : X) (xs : List X) → ◌≡◌ {A = List X} (x ∷ xs) [] → ⊥
cons_is_nil x xs h = cc

none_mapped : {X Y : Type 0} (f : X → Y) (xs : List X) → map f xs ≡ [] → xs ≡ []
none_mapped f [] h = refl
none_mapped f (x ∷ xs) h = absurd (cons_is_nil (f x) (map f xs) h)

in_class : (classes : List ClassName) (c : ClassId) (d : Declaration) → double_members classes d ≡ [] → Apart (DiffersFrom classes) (methods_of classes c d)
in_class classes c d none =
    let methods : double_methods classes d ≡ [] = none_right (double_fields classes d) (double_methods classes d) none in
    let once : repeats (have_one_signature classes d.unit) [] (invocable (written_in classes d)) ≡ [] =
    none_mapped (λ w. refused_at refused.DoubleMember (pos_of w)) (repeats (have_one_signature classes d.unit) [] (invocable (written_in classes d))) methods in
    let all : List Written = written_in classes d in
    let S : Written → Written → Type 0 = λ w v. is_invocable w ≡ true → is_invocable v ≡ true → have_one_signature classes d.unit v w ≡ true → ⊥ in
    let f : Written → WrittenMethod = λ w. record { class' = c; declaration = d; written = w } in
    apart_mapped S (DiffersFrom classes) f all (λ w v apart same. record { declaration = refl; signature = apart }) (none_repeated (have_one_signature classes d.unit) is_invocable [] all once)

-- the classes are numbered in their order
numbered : (classes : List ClassName) (first : ℕ) (ds : List Declaration) → Each (λ (w : WrittenMethod). first ≤ w.class'.0) (methods_from first classes ds)
numbered classes first [] = tt
numbered classes first (d ∷ ds) =
    let P : WrittenMethod → Type 0 = λ w. first ≤ w.class'.0 in
    let f : Written → WrittenMethod = λ w. record { class' = class_number first; declaration = d; written = w } in
    let here : Each P (methods_of classes (class_number first) d) = each_mapped P f (written_in classes d) (each_from (λ w. P (f w)) (written_in classes d) (λ w c. omega arith)) in
    let rest : Each P (methods_from (first + 1) classes ds) = each_so (λ (w : WrittenMethod). first + 1 ≤ w.class'.0) P (methods_from (first + 1) classes ds) (λ w h. omega (arith, h)) (numbered classes (first + 1) ds) in
    each_both P (methods_of classes (class_number first) d) (methods_from (first + 1) classes ds) here rest

other_class : (classes : List ClassName) (first : ℕ) (w v : WrittenMethod) → w.class' ≡ class_number first → first + 1 ≤ v.class'.0 → DiffersFrom classes w v
other_class classes first w v is above same =
    let number : w.class'.0 ≡ first = ap (λ (c : ClassId). c.0) is in
    let one : w.class'.0 ≡ v.class'.0 = ap (λ (c : ClassId). c.0) same in
    absurd (omega (arith, number, one, above))

pub all_apart : (classes : List ClassName) (first : ℕ) (ds : List Declaration) → flat_map (double_members classes) ds ≡ [] → Apart (DiffersFrom classes) (methods_from first classes ds)
all_apart classes first [] none = tt
all_apart classes first (d ∷ ds) none =
    let here : List WrittenMethod = methods_of classes (class_number first) d in
    let rest : List WrittenMethod = methods_from (first + 1) classes ds in
    let f : Written → WrittenMethod = λ w. record { class' = class_number first; declaration = d; written = w } in
    let cross : Each (λ w. Each (DiffersFrom classes w) rest) here =
    each_mapped (λ w. Each (DiffersFrom classes w) rest) f (written_in classes d) (each_from (λ w. Each (DiffersFrom classes (f w)) rest) (written_in classes d)
    (λ w c. each_so (λ (v : WrittenMethod). first + 1 ≤ v.class'.0) (DiffersFrom classes (f w)) rest (λ v h. other_class classes first (f w) v refl h) (numbered classes (first + 1) ds))) in
    apart_both (DiffersFrom classes) here rest
    (in_class classes (class_number first) d (none_left (double_members classes d) (flat_map (double_members classes) ds) none))
    (all_apart classes (first + 1) ds (none_right (double_members classes d) (flat_map (double_members classes) ds) none))
    cross
