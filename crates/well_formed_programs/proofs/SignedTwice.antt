-- Reading the annotations of a program once more gives the same program.
use Rattle.std.proofs.Common.{◌≡◌, ◌∙◌, ap, ap₂, sym, subst, refl, not, ℕ, zero, suc, ◌+◌, Bool, ◌&&◌, cond, nat_eq, nat_lt, if◌then◌else◌, Option, Some, None, List, [], ◌∷◌, ◌++◌, flat_map, length, map, codes}
use Rattle.std.specs.Prelude.{count_by, position, option_map}
use Rattle.std.specs.List.{AllZip, fold, position_or_len}
use Rattle.std.proofs.lemmas.List.{length-map}
use Rattle.program_model.specs.declared.kinds.ClassId.{ClassId}
use Rattle.program_model.specs.declared.program.Class.{Class}
use Rattle.program_model.specs.declared.program.Field.{Field}
use Rattle.program_model.specs.declared.program.Method.{Method}
use Rattle.program_model.specs.declared.program.ParamSig.{ParamSig}
use Rattle.program_model.specs.declared.program.Program.{Program}
use Rattle.program_model.specs.declared.program.RawAnno.{RawAnno}
use Rattle.program_model.specs.declared.program.Sig.{Sig}
use Rattle.annotation_kinds.specs.declared.annotation.AnnotationKind.TheVariants as kinds
use Rattle.annotation_kinds.specs.Annotations.{first_of, is_marked, texts_at}
use Rattle.must_call_types.specs.Effective.{alias_position, first_set, has_owning_result, interest, is_aliased, is_instance_kind, normal_promises, number_in, promises_by, reset_in, reset_position, reset_text, signed_parameter, signed_receiver, throwing_promises}
use Rattle.must_call_types.specs.Sets.{own_set}
use Rattle.must_call_types.specs.SignedMethods.{IsSignedMethod}
use Rattle.must_call_types.specs.EffectiveSignaturesTargets.{has_object, keeps_object, own_fields, position_of}
use Rattle.must_call_types.specs.MustSets.{but_set, with_own_set}
use Rattle.must_call_types.specs.NameTable.{IsInTextOrder, annotations, annotations_of}
use Rattle.must_call_types.specs.Signed.{IsSigned}

-- ---- lists

abbrev head_or : {X : Type 0} → X → List X → X
head_or d [] = d
head_or d (x ∷ xs) = x

abbrev tail_of : {X : Type 0} → List X → List X
tail_of [] = []
tail_of (x ∷ xs) = xs

zip_self : {X : Type 0} (R S : X → X → Type 0) (xs ys : List X) → ((x y : X) → R x y → S y y) → AllZip R xs ys → AllZip S ys ys
zip_self R S [] [] step all = tt
zip_self R S [] (y ∷ ys) step all = absurd all
zip_self R S (x ∷ xs) [] step all = absurd all
zip_self R S (x ∷ xs) (y ∷ ys) step all = (step x y all.0, zip_self R S xs ys step all.1)

zip_flat : {X Y : Type 0} (R : X → X → Type 0) (f : X → List Y) (xs ys : List X) → ((x y : X) → R x y → f y ≡ f x) → AllZip R xs ys → flat_map f ys ≡ flat_map f xs
zip_flat R f [] [] step all = refl
zip_flat R f [] (y ∷ ys) step all = absurd all
zip_flat R f (x ∷ xs) [] step all = absurd all
zip_flat R f (x ∷ xs) (y ∷ ys) step all = ap₂ (λ a b. a ++ b) (step x y all.0) (zip_flat R f xs ys step all.1)

-- ---- parameters

abbrev Params : Type 0
Params = List ParamSig

params_twice : (table : List (List ℕ)) (xs : Params) → map (signed_parameter table) (map (signed_parameter table) xs) ≡ map (signed_parameter table) xs
params_twice table [] = refl
params_twice table (x ∷ xs) = ap (λ rest. signed_parameter table x ∷ rest) (params_twice table xs)

aliased_from : (table : List (List ℕ)) (start : ℕ) (xs : Params) → fold (λ n x. n + cond (is_aliased x) 1 0) start (map (signed_parameter table) xs) ≡ fold (λ n x. n + cond (is_aliased x) 1 0) start xs
aliased_from table start [] = refl
aliased_from table start (x ∷ xs) = aliased_from table (start + cond (is_aliased x) 1 0) xs

aliased_count : (table : List (List ℕ)) (r : ParamSig) (xs : Params) → count_by is_aliased (signed_receiver r ∷ map (signed_parameter table) xs) ≡ count_by is_aliased (r ∷ xs)
aliased_count table r xs = aliased_from table (0 + cond (is_aliased r) 1 0) xs

aliased_place : (table : List (List ℕ)) (xs : Params) → position_or_len is_aliased (map (signed_parameter table) xs) ≡ position_or_len is_aliased xs
aliased_place table [] = refl
aliased_place table (x ∷ xs) = ap (λ n. cond (not (is_aliased x)) (1 + n) 0) (aliased_place table xs)

abbrev place_by : ℕ → ℕ → Option ℕ
place_by n count = cond (nat_lt n count) (Some n) None

aliased_first : (table : List (List ℕ)) (xs : Params) → position is_aliased (map (signed_parameter table) xs) ≡ position is_aliased xs
aliased_first table xs = ap₂ place_by (aliased_place table xs) (length-map xs (signed_parameter table))

annotations_kept : (table : List (List ℕ)) (xs : Params) → flat_map (λ (x : ParamSig). x.annos.items) (map (signed_parameter table) xs) ≡ flat_map (λ (x : ParamSig). x.annos.items) xs
annotations_kept table [] = refl
annotations_kept table (x ∷ xs) = ap (λ rest. x.annos.items ++ rest) (annotations_kept table xs)

-- ---- methods

abbrev alias_by : Bool → Bool → ℕ → Option ℕ → Option ℕ
alias_by marked receiver count first = if marked && nat_eq count 1 then (if receiver then Some 0 else option_map (λ k. k + 1) first) else None

reset_same : (m : Method) (s : Sig) (o : Option RawAnno) → length s.params.items ≡ length m.sig.params.items → reset_in (record m { sig = s }) o ≡ reset_in m o
reset_same m s None long = refl
reset_same m s (Some a) long = ap (λ n. position_of (has_object m.kind) n (reset_text (texts_at a (codes "value")))) long

-- a signed method is that of its own signature
record Signing (table : List (List ℕ)) (fields fields' : List Field) (classes classes' : List Class) : Type 0 where
  same_fields : fields' ≡ fields
  own : (c : ClassId) → own_fields classes' c ≡ own_fields classes c

method_twice : (table : List (List ℕ)) (fields fields' : List Field) (classes classes' : List Class) → Signing table fields fields' classes classes' → (m x : Method) → IsSignedMethod table fields classes m x
    → IsSignedMethod table fields' classes' x x
method_twice table fields fields' classes classes' same m x signed =
    let s = signed.signature in
    let long : length x.sig.params.items ≡ length m.sig.params.items = ap length s.params ∙ length-map m.sig.params.items (signed_parameter table) in
    let marked : Bool = is_marked kinds.MustCallAlias m.annos.items in
    let of_alias : alias_position x ≡ alias_position m =
    ap alias_position signed.kept
    ∙ ap₂ (λ r ps. alias_by marked (is_aliased r) (count_by is_aliased (r ∷ ps)) (position is_aliased ps)) s.receiver s.params
    ∙ ap₂ (alias_by marked (is_aliased m.sig.receiver)) (aliased_count table m.sig.receiver m.sig.params.items) (aliased_first table m.sig.params.items) in
    let normal : Method → List _ = λ y. normal_promises table fields' (own_fields classes' y.class) y in
    let throwing : Method → List _ = λ y. throwing_promises table fields' (own_fields classes' y.class) y in
    let of_normal : normal x ≡ normal_promises table fields (own_fields classes m.class) m =
    ap normal signed.kept
    ∙ ap (λ n. promises_by table fields' (own_fields classes' m.class) n (has_object m.kind) (first_of kinds.EnsuresCalledMethods m.annos.items)) long
    ∙ ap₂ (λ fs own. normal_promises table fs own m) same.same_fields (same.own m.class) in
    let of_throwing : throwing x ≡ throwing_promises table fields (own_fields classes m.class) m =
    ap throwing signed.kept
    ∙ ap (λ n. promises_by table fields' (own_fields classes' m.class) n (keeps_object m.kind) (first_of kinds.EnsuresCalledMethodsOnException m.annos.items)) long
    ∙ ap₂ (λ fs own. throwing_promises table fs own m) same.same_fields (same.own m.class) in
    let of_interest : interest table x ≡ interest table m =
    ap (interest table) signed.kept ∙ ap (λ n. if is_instance_kind m.kind && nat_eq n 0 then number_in table m.name else None) long in
    record {
      kept = refl;
      signature = record {
        params = s.params ∙ sym (ap (map (signed_parameter table)) s.params ∙ params_twice table m.sig.params.items);
        receiver = s.receiver ∙ sym (ap signed_receiver s.receiver);
        result = refl;
        throws = refl;
        owning_result = s.owning_result ∙ sym (ap has_owning_result signed.kept);
        alias = s.alias ∙ sym of_alias;
        first = s.first ∙ sym (ap (first_set table) signed.kept);
        reset = s.reset ∙ sym (ap reset_position signed.kept ∙ reset_same m x.sig (first_of kinds.CreatesMustCallFor m.annos.items) long);
        promises = s.promises ∙ sym of_normal;
        on_throw = s.on_throw ∙ sym of_throwing;
        interest = s.interest ∙ sym of_interest;
      };
    }

method_annotations : (table : List (List ℕ)) (fields : List Field) (classes : List Class) (m x : Method) → IsSignedMethod table fields classes m x → annotations_of x ≡ annotations_of m
method_annotations table fields classes m x signed =
    let s = signed.signature in
    ap annotations_of signed.kept
    ∙ ap₂ (λ (r : ParamSig) ps. m.annos.items ++ (r.annos.items ++ flat_map (λ (y : ParamSig). y.annos.items) ps)) s.receiver s.params
    ∙ ap (λ rest. m.annos.items ++ (m.sig.receiver.annos.items ++ rest)) (annotations_kept table m.sig.params.items)

-- ---- classes

abbrev Resets : List (List ℕ) → List Class → List Class → Type 0
Resets table old signed = map but_set signed ≡ map (λ k. but_set (with_own_set table k)) old

abbrev SameSet : List (List ℕ) → Class → Class → Type 0
SameSet table x y = but_set y ≡ but_set (with_own_set table x)

zip_of : (table : List (List ℕ)) (old signed : List Class) → Resets table old signed → AllZip (SameSet table) old signed
zip_of table [] [] same = tt
zip_of table [] (y ∷ ys) same = absurd (let no = same in cc)
zip_of table (x ∷ xs) [] same = absurd (let no = same in cc)
zip_of table (x ∷ xs) (y ∷ ys) same = (ap (head_or (but_set y)) same, zip_of table xs ys (ap tail_of same))

own_set_kept : (table : List (List ℕ)) (x y : Class) → SameSet table x y → SameSet table y y
own_set_kept table x y same =
    let set : y.own_must ≡ own_set table x.annos.items = ap (λ k. k.own_must) same in
    let annos : y.annos ≡ x.annos = ap (λ k. k.annos) same in
    ap (λ o. but_set (record y { own_must = o })) (set ∙ sym (ap (λ v. own_set table v.items) annos))

of_zip : (table : List (List ℕ)) (ys : List Class) → AllZip (SameSet table) ys ys → Resets table ys ys
of_zip table [] all = refl
of_zip table (y ∷ ys) all = ap₂ (λ k ks. k ∷ ks) all.0 (of_zip table ys all.1)

own_at : (table : List (List ℕ)) (old signed : List Class) (n : ℕ) → AllZip (SameSet table) old signed → own_fields signed (record { 0 = n }) ≡ own_fields old (record { 0 = n })
own_at table [] [] n all = refl
own_at table [] (y ∷ ys) n all = absurd all
own_at table (x ∷ xs) [] n all = absurd all
own_at table (x ∷ xs) (y ∷ ys) zero all = ap (λ k. k.fields.items) all.0
own_at table (x ∷ xs) (y ∷ ys) (suc n) all = own_at table xs ys n all.1

-- ---- the program

pub signed_twice : (typed p : Program) → IsSigned typed p → IsSigned p p
signed_twice typed p signed =
    let table = p.names in
    let zipped = zip_of table typed.classes.items p.classes.items signed.classes in
    let of_fields : p.fields.items ≡ typed.fields.items = ap (λ v. v.items) signed.fields in
    let R = IsSignedMethod table typed.fields.items typed.classes.items in
    let same : Signing table typed.fields.items p.fields.items typed.classes.items p.classes.items = record { same_fields = of_fields; own = λ c. own_at table typed.classes.items p.classes.items c.0 zipped } in
    let of_classes : flat_map (λ (k : Class). k.annos.items) p.classes.items ≡ flat_map (λ (k : Class). k.annos.items) typed.classes.items =
    zip_flat (SameSet table) (λ (k : Class). k.annos.items) typed.classes.items p.classes.items (λ x y is. ap (λ k. k.annos.items) is) zipped in
    let of_methods : flat_map annotations_of p.methods.items ≡ flat_map annotations_of typed.methods.items =
    zip_flat R annotations_of typed.methods.items p.methods.items (method_annotations table typed.fields.items typed.classes.items) signed.methods in
    let all : annotations p ≡ annotations typed =
    ap₂ (λ a b. a ++ flat_map (λ (x : Field). x.annos.items) p.fields.items ++ b) of_classes of_methods
    ∙ ap (λ (fs : List Field). flat_map (λ (k : Class). k.annos.items) typed.classes.items ++ flat_map (λ (x : Field). x.annos.items) fs ++ flat_map annotations_of typed.methods.items) of_fields in
    record {
      names = record {
        ordered = signed.names.ordered;
        order = subst (λ annos. IsInTextOrder annos signed.names.ordered) (sym all) signed.names.order;
        few = signed.names.few;
        listed = signed.names.listed;
      };
      classes = of_zip table p.classes.items (zip_self (SameSet table) (SameSet table) typed.classes.items p.classes.items (own_set_kept table) zipped);
      sets = signed.sets;
      methods = zip_self R (IsSignedMethod table p.fields.items p.classes.items) typed.methods.items p.methods.items (method_twice table typed.fields.items p.fields.items typed.classes.items p.classes.items same) signed.methods;
      fields = refl;
      bodies = refl;
      ignored = refl;
      exact = refl;
      core = refl;
    }
