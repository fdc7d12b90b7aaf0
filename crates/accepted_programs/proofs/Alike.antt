-- Methods of one name and one parameter list.
use Rattle.std.proofs.Common.{◌≡◌, ◌∙◌, ap, refl, sym, eqb, eqb-true, eq-eqb, true≢false, ℕ, Bool, true, false, ◌&&◌, not, Option, Some, None, List, [], ◌∷◌}
use Rattle.std.specs.Str.{bytes_eq}
use Rattle.std.proofs.lemmas.Bool.{and_from, and_parts, not-true, not_from_false}
use Rattle.std.proofs.lemmas.Slice.Eq.{bytes_eq-Decides}
use Rattle.program_model.specs.declared.kinds.MethodId.{MethodId}
use Rattle.program_model.specs.declared.kinds.MethodKind.{MethodKind}
use Rattle.program_model.specs.declared.kinds.MethodKind.TheVariants as methods
use Rattle.program_model.specs.declared.kinds.VType.{VType}
use Rattle.program_model.specs.declared.kinds.VType.TheVariants as types
use Rattle.program_model.specs.declared.program.Method.{Method}
use Rattle.program_model.specs.declared.program.ParamSig.{ParamSig}
use Rattle.program_model.specs.declared.program.Program.{Program}
use Rattle.program_model.specs.Lookups.{method_at}
use Rattle.program_model.specs.Overrides.{are_alike, are_types, element_number, is_alike, is_alike_in, is_method_kind, is_static_kind, is_type, primitive_number}

-- ---- numbers and texts

same_number : (a b : ℕ) → eqb a b ≡ true → eqb b a ≡ true
same_number a b h = eq-eqb b a (sym (eqb-true a b h))

pub text_itself : (xs : List ℕ) → bytes_eq xs xs ≡ true
text_itself xs = (bytes_eq-Decides xs xs).1 refl

text_back : (xs ys : List ℕ) → bytes_eq xs ys ≡ true → bytes_eq ys xs ≡ true
text_back xs ys h = (bytes_eq-Decides ys xs).1 (sym ((bytes_eq-Decides xs ys).0 h))

-- ---- types

pub type_itself : (t : VType) → is_type t t ≡ true
type_itself (types.Primitive t) = eq-eqb (primitive_number t) (primitive_number t) refl
type_itself types.Str = refl
type_itself (types.Arr t) = eq-eqb (element_number t) (element_number t) refl
type_itself (types.Obj c) = eq-eqb c.0 c.0 refl
type_itself types.NullType = refl

type_back : (t u : VType) → is_type t u ≡ true → is_type u t ≡ true
type_back (types.Primitive t) (types.Primitive u) h = same_number (primitive_number t) (primitive_number u) h
type_back (types.Primitive t) types.Str h = h
type_back (types.Primitive t) (types.Arr u) h = h
type_back (types.Primitive t) (types.Obj c) h = h
type_back (types.Primitive t) types.NullType h = h
type_back types.Str (types.Primitive u) h = h
type_back types.Str types.Str h = h
type_back types.Str (types.Arr u) h = h
type_back types.Str (types.Obj c) h = h
type_back types.Str types.NullType h = h
type_back (types.Arr t) (types.Primitive u) h = h
type_back (types.Arr t) types.Str h = h
type_back (types.Arr t) (types.Arr u) h = same_number (element_number t) (element_number u) h
type_back (types.Arr t) (types.Obj c) h = h
type_back (types.Arr t) types.NullType h = h
type_back (types.Obj c) (types.Primitive u) h = h
type_back (types.Obj c) types.Str h = h
type_back (types.Obj c) (types.Arr u) h = h
type_back (types.Obj c) (types.Obj d) h = same_number c.0 d.0 h
type_back (types.Obj c) types.NullType h = h
type_back types.NullType (types.Primitive u) h = h
type_back types.NullType types.Str h = h
type_back types.NullType (types.Arr u) h = h
type_back types.NullType (types.Obj c) h = h
type_back types.NullType types.NullType h = h

pub types_themselves : (xs : List ParamSig) → are_types xs xs ≡ true
types_themselves [] = refl
types_themselves (x ∷ xs) = and_from (is_type x.vtype x.vtype) (are_types xs xs) (type_itself x.vtype) (types_themselves xs)

types_back : (xs ys : List ParamSig) → are_types xs ys ≡ true → are_types ys xs ≡ true
types_back [] [] h = h
types_back [] (y ∷ ys) h = h
types_back (x ∷ xs) [] h = h
types_back (x ∷ xs) (y ∷ ys) h =
    let parts = and_parts (is_type x.vtype y.vtype) (are_types xs ys) h in
    and_from (is_type y.vtype x.vtype) (are_types ys xs) (type_back x.vtype y.vtype parts.0) (types_back xs ys parts.1)

-- ---- methods

pub record Alike (m n : Method) : Type 0 where
  pub kind : is_method_kind m.kind ≡ true
  pub named_kind : is_method_kind n.kind ≡ true
  pub statics : (is_static_kind m.kind && is_static_kind n.kind) ≡ false
  pub private : m.is_private ≡ false
  pub named_private : n.is_private ≡ false
  pub name : bytes_eq m.name n.name ≡ true
  pub types : are_types m.sig.params.items n.sig.params.items ≡ true

seven_parts : (a b c d e f g : Bool) → (a && b && c && d && e && f && g) ≡ true → (a ≡ true) × (b ≡ true) × (c ≡ true) × (d ≡ true) × (e ≡ true) × (f ≡ true) × (g ≡ true)
seven_parts a b c d e f g h =
    let p6 = and_parts (a && b && c && d && e && f) g h in
    let p5 = and_parts (a && b && c && d && e) f p6.0 in
    let p4 = and_parts (a && b && c && d) e p5.0 in
    let p3 = and_parts (a && b && c) d p4.0 in
    let p2 = and_parts (a && b) c p3.0 in
    let p1 = and_parts a b p2.0 in
    (p1.0, p1.1, p2.1, p3.1, p4.1, p5.1, p6.1)

pub alike_parts : (m n : Method) → are_alike m n ≡ true → Alike m n
alike_parts m n h =
    let parts = seven_parts (is_method_kind m.kind) (is_method_kind n.kind) (not (is_static_kind m.kind && is_static_kind n.kind)) (not m.is_private) (not n.is_private) (bytes_eq m.name n.name) (are_types m.sig.params.items n.sig.params.items) h in
    record {
      kind = parts.0;
      named_kind = parts.1;
      statics = not-true (is_static_kind m.kind && is_static_kind n.kind) parts.2;
      private = not-true m.is_private parts.3;
      named_private = not-true n.is_private parts.4;
      name = parts.5;
      types = parts.6;
    }

pub alike_from : (m n : Method) → Alike m n → are_alike m n ≡ true
alike_from m n h =
    and_from _ _ (and_from _ _ (and_from _ _ (and_from _ _ (and_from _ _ (and_from _ _ h.kind h.named_kind)
    (not_from_false (is_static_kind m.kind && is_static_kind n.kind) h.statics)) (not_from_false m.is_private h.private)) (not_from_false n.is_private h.named_private)) h.name) h.types

both_static : (s t : Bool) → (s && t) ≡ false → (t && s) ≡ false
both_static true true h = h
both_static true false h = refl
both_static false true h = refl
both_static false false h = refl

pub alike_back : (m n : Method) → are_alike m n ≡ true → are_alike n m ≡ true
alike_back m n h =
    let parts = alike_parts m n h in
    alike_from n m (record {
      kind = parts.named_kind;
      named_kind = parts.kind;
      statics = both_static (is_static_kind m.kind) (is_static_kind n.kind) parts.statics;
      private = parts.named_private;
      named_private = parts.private;
      name = text_back m.name n.name parts.name;
      types = types_back m.sig.params.items n.sig.params.items parts.types;
    })

self_static : (s : Bool) → s ≡ false → (s && s) ≡ false
self_static true h = h
self_static false h = refl

-- what is alike to another method is alike to itself, if it is not static
pub alike_itself : (m n : Method) → are_alike m n ≡ true → is_static_kind n.kind ≡ false → are_alike n n ≡ true
alike_itself m n h instance =
    let parts = alike_parts m n h in
    alike_from n n (record {
      kind = parts.named_kind;
      named_kind = parts.named_kind;
      statics = self_static (is_static_kind n.kind) instance;
      private = parts.named_private;
      named_private = parts.named_private;
      name = text_itself n.name;
      types = types_themselves n.sig.params.items;
    })

-- a method, and no static one
pub is_instance : (k : MethodKind) → is_method_kind k ≡ true → is_static_kind k ≡ false → k ≡ methods.Instance
is_instance methods.Instance h s = refl
is_instance methods.Static h s = absurd (true≢false s)
is_instance methods.Ctor h s = absurd (true≢false (sym h))
is_instance methods.Constant h s = absurd (true≢false (sym h))

-- ---- by numbers

no_option : (n : Method) (o : Option Method) → is_alike_in n o ≡ true → (x : Method) × (o ≡ Some x) × (are_alike x n ≡ true)
no_option n None h = absurd (true≢false (sym h))
no_option n (Some x) h = (x, refl, h)

pub alike_there : (p : Program) (n : Method) (r : MethodId) → is_alike p n r ≡ true → (x : Method) × (method_at p r ≡ Some x) × (are_alike x n ≡ true)
alike_there p n r h = no_option n (method_at p r) h

pub alike_known : (p : Program) (n x : Method) (r : MethodId) → is_alike p n r ≡ true → method_at p r ≡ Some x → are_alike x n ≡ true
alike_known p n x r h at = sym (ap (is_alike_in n) at) ∙ h

pub alike_at : (p : Program) (n x : Method) (r : MethodId) → method_at p r ≡ Some x → are_alike x n ≡ true → is_alike p n r ≡ true
alike_at p n x r at h = ap (is_alike_in n) at ∙ h
