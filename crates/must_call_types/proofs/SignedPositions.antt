-- What the annotations of a method make of its signature names positions that it has, and fields of the program.
use Rattle.std.proofs.Common.{◌≡◌, ℕ, ◌+◌, ◌<◌, ◌≤◌, Bool, true, false, cond, ◌&&◌, nat_le, Option, Some, None, List, [], ◌∷◌, length, drop, find, filter_map, position, count_by, nat_eq, codes, slice_get, option_map, All, IfSome, sym, refl, arith, true≢false}
use Rattle.std.specs.List.{cons_option, starts_with}
use Rattle.std.specs.Str.{bytes_eq}
use Rattle.std.proofs.lemmas.Bool.{cond_both, leb-true}
use Rattle.std.proofs.lemmas.List.Elements.{All-cons, All-nil}
use Rattle.std.proofs.lemmas.List.Quantifiers.{position-Some}
use Rattle.std.proofs.lemmas.Option.{slice_get_within}
use Rattle.annotation_kinds.specs.declared.annotation.AnnotationKind.TheVariants as annotations
use Rattle.annotation_kinds.specs.Annotations.{first_of, is_marked, texts_at}
use Rattle.annotation_kinds.specs.Positions.{is_decimal}
use Rattle.program_model.specs.declared.kinds.FieldId.{FieldId}
use Rattle.program_model.specs.declared.kinds.Target.{Target}
use Rattle.program_model.specs.declared.kinds.Target.TheVariants as promised
use Rattle.program_model.specs.declared.program.Field.{Field}
use Rattle.program_model.specs.declared.program.Method.{Method}
use Rattle.program_model.specs.declared.program.ParamSig.{ParamSig}
use Rattle.program_model.specs.declared.program.RawAnno.{RawAnno}
use Rattle.program_model.specs.declared.program.Sig.{Sig}
use Rattle.program_model.specs.NameSets.{Names}
use Rattle.effective_signatures.specs.Effective.{alias_position, first_aliased, is_aliased, normal_promises, promise, promises_by, reset_in, reset_position, reset_text, throwing_promises}
use Rattle.effective_signatures.specs.Sets.{numbers_of}
use Rattle.effective_signatures.specs.Targets.{decimal_value, field_name, has_object, is_owning_named, is_position_text, keeps_object, number_up_to, owning_field, position_of, target_of}

-- a position of a signature with so many parameters, or none
abbrev pub IsWithin : ℕ → Option ℕ → Type 0
IsWithin count o = IfSome o (λ k. k ≤ count)

-- ---- resource aliases

next_within : (count : ℕ) (test : ParamSig → Bool) (xs : List ParamSig) (d : ParamSig) (o : Option ℕ) → length xs ≡ count → position test xs ≡ o → IsWithin count (option_map (λ k. k + 1) o)
next_within count test xs d None long found = tt
next_within count test xs d (Some k) long found = let inside = (position-Some test xs k d found).0 in omega (arith, inside, long)

first_within : (s : Sig) → IsWithin (length s.params.items) (first_aliased s)
first_within s =
    let count = length s.params.items in
    cond_both (is_aliased s.receiver) (Some 0) (option_map (λ k. k + 1) (position is_aliased s.params.items)) (IsWithin count)
    (λ yes. omega arith) (λ no. next_within count is_aliased s.params.items s.receiver (position is_aliased s.params.items) refl refl)

pub alias_within : (m : Method) → IsWithin (length m.sig.params.items) (alias_position m)
alias_within m =
    cond_both (is_marked annotations.MustCallAlias m.annos.items && nat_eq (count_by is_aliased (m.sig.receiver ∷ m.sig.params.items)) 1)
    (first_aliased m.sig) None (IsWithin (length m.sig.params.items)) (λ yes. first_within m.sig) (λ no. tt)

-- ---- resets

second_holds : (a b : Bool) → (a && b) ≡ true → b ≡ true
second_holds true b both = both
second_holds false b both = absurd (true≢false (sym both))

number_within : (count : ℕ) (digits : List ℕ) → IsWithin count (number_up_to count digits)
number_within count digits =
    cond_both (is_decimal digits && nat_le (decimal_value digits) count) (Some (decimal_value digits)) None (IsWithin count)
    (λ yes. leb-true (decimal_value digits) count (second_holds (is_decimal digits) (nat_le (decimal_value digits) count) yes)) (λ no. tt)

pub position_within : (with_object : Bool) (count : ℕ) (text : List ℕ) → IsWithin count (position_of with_object count text)
position_within with_object count text =
    let this : Option ℕ = cond (with_object && bytes_eq text (codes "this")) (Some 0) None in
    cond_both (starts_with nat_eq text (codes "#")) (number_up_to count (drop 1 text)) this (IsWithin count)
    (λ yes. number_within count (drop 1 text))
    (λ no. cond_both (with_object && bytes_eq text (codes "this")) (Some 0) None (IsWithin count) (λ yes. omega arith) (λ no. tt))

reset_within_by : (m : Method) (o : Option RawAnno) → IsWithin (length m.sig.params.items) (reset_in m o)
reset_within_by m None = tt
reset_within_by m (Some a) = position_within (has_object m.kind) (length m.sig.params.items) (reset_text (texts_at a (codes "value")))

pub reset_within : (m : Method) → IsWithin (length m.sig.params.items) (reset_position m)
reset_within m = reset_within_by m (first_of annotations.CreatesMustCallFor m.annos.items)

-- ---- promises

-- a position of a signature with so many parameters, or one of the fields
abbrev pub IsTargetWithin : ℕ → ℕ → Target → Type 0
IsTargetWithin count fields (promised.At k) = k ≤ count
IsTargetWithin count fields (promised.OfField f) = f.0 < fields

owning_is_there : (fields : List Field) (name : List ℕ) (f : FieldId) (o : Option Field) → slice_get fields f.0 ≡ o → is_owning_named name o ≡ true → f.0 < length fields
owning_is_there fields name f None found owning = absurd (true≢false (sym owning))
owning_is_there fields name f (Some x) found owning = slice_get_within fields f.0 x found

found_passes : (test : FieldId → Bool) (P : FieldId → Type 0) → ((f : FieldId) → test f ≡ true → P f) → (own : List FieldId) → IfSome (find test own) P
found_passes test P step [] = tt
found_passes test P step (f ∷ own) = cond_both (test f) (Some f) (find test own) (λ o. IfSome o P) (λ yes. step f yes) (λ no. found_passes test P step own)

field_within : (fields : List Field) (own : List FieldId) (name : List ℕ) → IfSome (owning_field fields own name) (λ f. f.0 < length fields)
field_within fields own name =
    found_passes (λ f. is_owning_named name (slice_get fields f.0)) (λ f. f.0 < length fields)
    (λ f passes. owning_is_there fields name f (slice_get fields f.0) refl passes) own

at_within : (count fields : ℕ) (o : Option ℕ) → IsWithin count o → IfSome (option_map promised.At o) (IsTargetWithin count fields)
at_within count fields None within = tt
at_within count fields (Some k) within = within

of_field_within : (count fields : ℕ) (o : Option FieldId) → IfSome o (λ f. f.0 < fields) → IfSome (option_map promised.OfField o) (IsTargetWithin count fields)
of_field_within count fields None within = tt
of_field_within count fields (Some f) within = within

target_within : (with_object : Bool) (count : ℕ) (fields : List Field) (own : List FieldId) (text : List ℕ) → IfSome (target_of with_object count fields own text) (IsTargetWithin count (length fields))
target_within with_object count fields own text =
    let P : Option Target → Type 0 = λ o. IfSome o (IsTargetWithin count (length fields)) in
    let field = option_map promised.OfField (owning_field fields own (field_name text)) in
    cond_both (is_position_text text) (option_map promised.At (position_of with_object count text)) (cond with_object field None) P
    (λ yes. at_within count (length fields) (position_of with_object count text) (position_within with_object count text))
    (λ no.
    cond_both with_object field None P
    (λ yes. of_field_within count (length fields) (owning_field fields own (field_name text)) (field_within fields own (field_name text))) (λ no. tt))

promise_within : (count fields : ℕ) (names : Names) (o : Option Target) → IfSome o (IsTargetWithin count fields) → IfSome (promise names o) (λ x. IsTargetWithin count fields x.target)
promise_within count fields names None within = tt
promise_within count fields names (Some target) within = within

cons_within : {Y : Type 0} (P : Y → Type 0) (o : Option Y) (ys : List Y) → IfSome o P → All P ys → All P (cons_option o ys)
cons_within P None ys first all = all
cons_within P (Some y) ys first all = All-cons P y ys first all

all_within : {X Y : Type 0} (h : X → Option Y) (P : Y → Type 0) → ((x : X) → IfSome (h x) P) → (xs : List X) → All P (filter_map h xs)
all_within h P step [] = All-nil P
all_within h P step (x ∷ xs) = cons_within P (h x) (filter_map h xs) (step x) (all_within h P step xs)

promises_within : (table : List (List ℕ)) (fields : List Field) (own : List FieldId) (count : ℕ) (with_object : Bool) (o : Option RawAnno) → All (λ x. IsTargetWithin count (length fields) x.target) (promises_by table fields own count with_object o)
promises_within table fields own count with_object None = All-nil (λ x. IsTargetWithin count (length fields) x.target)
promises_within table fields own count with_object (Some a) =
    let names = numbers_of table (texts_at a (codes "methods")) in
    all_within (λ text. promise names (target_of with_object count fields own text)) (λ x. IsTargetWithin count (length fields) x.target)
    (λ text. promise_within count (length fields) names (target_of with_object count fields own text) (target_within with_object count fields own text)) (texts_at a (codes "value"))

pub normal_within : (table : List (List ℕ)) (fields : List Field) (own : List FieldId) (m : Method) → All (λ x. IsTargetWithin (length m.sig.params.items) (length fields) x.target) (normal_promises table fields own m)
normal_within table fields own m = promises_within table fields own (length m.sig.params.items) (has_object m.kind) (first_of annotations.EnsuresCalledMethods m.annos.items)

pub throwing_within : (table : List (List ℕ)) (fields : List Field) (own : List FieldId) (m : Method) → All (λ x. IsTargetWithin (length m.sig.params.items) (length fields) x.target) (throwing_promises table fields own m)
throwing_within table fields own m = promises_within table fields own (length m.sig.params.items) (keeps_object m.kind) (first_of annotations.EnsuresCalledMethodsOnException m.annos.items)
