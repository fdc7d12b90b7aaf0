-- What annotations never say of a method of the program: no `@MustCall` stands on it.
use Rattle.std.proofs.Common.{◌≡◌, ◌∙◌, ap, refl, sym, subst, true≢false, ℕ, Bool, true, false, ◌&&◌, not, Option, Some, None, List, [], ◌++◌, Contains, codes}
use Rattle.std.specs.List.{flat_map, list_any}
use Rattle.std.specs.Str.{bytes_eq}
use Rattle.std.proofs.lemmas.Slice.Eq.{bytes_eq-Decides}
use Rattle.rlc_base.specs.declared.code.Code.TheVariants as refused
use Rattle.program_model.specs.declared.kinds.MethodId.{MethodId}
use Rattle.program_model.specs.declared.kinds.MethodKind.{MethodKind}
use Rattle.program_model.specs.declared.kinds.MethodKind.TheVariants as methods
use Rattle.program_model.specs.declared.program.Class.{Class}
use Rattle.program_model.specs.declared.program.Method.{Method}
use Rattle.program_model.specs.declared.program.ParamSig.{ParamSig}
use Rattle.program_model.specs.declared.program.Program.{Program}
use Rattle.program_model.specs.declared.program.RawAnno.{RawAnno}
use Rattle.program_model.specs.Lookups.{class_at, method_at}
use Rattle.program_model.specs.Overrides.{is_library, is_library_in}
use Rattle.annotation_kinds.specs.declared.annotation.AnnotationKind.{AnnotationKind}
use Rattle.annotation_kinds.specs.declared.annotation.AnnotationKind.TheVariants as annotations
use Rattle.annotation_kinds.specs.Annotations.{first_of, is_of, kinds, name_of}
use Rattle.annotation_rules.specs.AnnotationCases.{body_cases, class_cases, declaration_of, field_cases, is_class_result, method_cases, place_cases, private_cases, value_cases}
use Rattle.annotation_rules.specs.AnnotationCases as rules
use Rattle.annotation_rules.specs.Declarations.{allowed, bad_annotation, declaration_cases, is_wrong, repeats, speaks_of_owning}
use Rattle.annotation_rules.specs.declared.declaration.Declaration.{Declaration}
use Rattle.annotation_rules.specs.declared.declaration.Declaration.TheVariants as declarations
use Rattle.annotation_rules.specs.Sets.{value_set}
use Rattle.annotation_rules.specs.SignedMethods.{IsSignedMethod}
use Rattle.agreement.proofs.SignedTables.{before}
use Rattle.agreement.specs.Accept.{Accept}
use Rattle.agreement.proofs.Elements.{find-among}
use Rattle.dispatch_laws.proofs.Lists.{contains_at, nil_left, nil_right, none_gathered, not_refused, some_is}

-- ---- `@MustCall` may stand on nothing that a class of the program declares

abbrev wanted : List ℕ
wanted = codes "MustCall"

not_allowed : (gives : Bool) (kind : MethodKind) → list_any (λ (k : AnnotationKind). bytes_eq wanted (name_of k)) (allowed (declaration_of false gives kind)) ≡ false
not_allowed gives methods.Instance = refl
not_allowed gives methods.Static = refl
not_allowed gives methods.Ctor = refl
not_allowed gives methods.Constant = refl

named : (a : RawAnno) → is_of annotations.MustCall a ≡ true → wanted ≡ a.name
named a is = sym ((bytes_eq-Decides a.name wanted).0 is)

-- an annotation of this name is a wrong one there
wrong : (d : Declaration) (a : RawAnno) → list_any (λ (k : AnnotationKind). bytes_eq wanted (name_of k)) (allowed d) ≡ false → is_of annotations.MustCall a ≡ true → is_wrong d a ≡ true
wrong d a none is =
    let Read : List ℕ → Type 0 = λ name. list_any (λ (k : AnnotationKind). bytes_eq name (name_of k)) kinds ≡ true in
    let read : Read a.name = subst Read (named a is) refl in
    let Allowed : List ℕ → Type 0 = λ name. list_any (λ (k : AnnotationKind). bytes_eq name (name_of k)) (allowed d) ≡ false in
    let never : Allowed a.name = subst Allowed (named a is) none in
    ap (λ b. b && not (list_any (λ (k : AnnotationKind). is_of k a) (allowed d) && a.shaped)) read ∙ ap (λ b. not (b && a.shaped)) never

same_library : (o : Option Class) → rules.is_library_in o ≡ is_library_in o
same_library None = refl
same_library (Some k) = refl

-- the first of a list in which none is of the kind
pub first_none : (kind : AnnotationKind) (annos : List RawAnno) → ((a : RawAnno) → Contains annos a → is_of kind a ≡ true → ⊥) → first_of kind annos ≡ None
first_none kind annos never = go (first_of kind annos) refl
  where
    go : (o : Option RawAnno) → first_of kind annos ≡ o → first_of kind annos ≡ None
    go None is = is
    go (Some a) is = let found = find-among (is_of kind) annos a is in absurd (never a found.0 found.1)

module _ (p : Program) (ac : Accept p) (m : MethodId) (x : Method) (at : method_at p m ≡ Some x) where
  placed : declaration_cases (rules.declaration_of_method p x) x.annos.items ≡ []
  placed =
      let every = nil_left _ (flat_map (body_cases p) p.bodies.items) ac.annotations in
      let of_methods : flat_map (method_cases p) p.methods.items ≡ [] = nil_right (flat_map (class_cases p) p.classes.items ++ flat_map field_cases p.fields.items) (flat_map (method_cases p) p.methods.items) every in
      let here : method_cases p x ≡ [] = none_gathered (method_cases p) p.methods.items x of_methods (contains_at p.methods.items m.0 x at) in
      let places : place_cases p x ≡ [] = nil_left (place_cases p x) (value_cases p x) (nil_left (place_cases p x ++ value_cases p x) (private_cases p x) here) in
      nil_left (declaration_cases (rules.declaration_of_method p x) x.annos.items) (declaration_cases declarations.Receiver x.sig.receiver.annos.items)
      (nil_left (declaration_cases (rules.declaration_of_method p x) x.annos.items ++ declaration_cases declarations.Receiver x.sig.receiver.annos.items)
      (flat_map (λ (z : ParamSig). declaration_cases declarations.Parameter z.annos.items) x.sig.params.items) places)

  -- none of its annotations stands where it may not
  pub right : (a : RawAnno) → Contains x.annos.items a → is_wrong (rules.declaration_of_method p x) a ≡ false
  right a has =
      let d : Declaration = rules.declaration_of_method p x in
      let all : flat_map (λ (b : RawAnno). bad_annotation (is_wrong d b) b) x.annos.items ≡ [] =
      nil_left (flat_map (λ (b : RawAnno). bad_annotation (is_wrong d b) b) x.annos.items) (flat_map (λ kind. repeats (is_of kind) x.annos.items) kinds)
      (nil_left (flat_map (λ (b : RawAnno). bad_annotation (is_wrong d b) b) x.annos.items ++ flat_map (λ kind. repeats (is_of kind) x.annos.items) kinds) (repeats speaks_of_owning x.annos.items) placed) in
      not_refused (is_wrong d a) refused.BadAnno a.pos (none_gathered (λ (b : RawAnno). bad_annotation (is_wrong d b) b) x.annos.items a all has)

  -- the method is signed as its annotations say
  pub as_signed : IsSignedMethod p.names p.fields.items p.classes.items x x
  as_signed =
      let was = before (IsSignedMethod p.names p.fields.items p.classes.items) p.methods.items p.methods.items m.0 x ac.signatures.methods at in
      let same : was.0 ≡ x = some_is was.0 x (sym was.1 ∙ at) in
      subst (λ (y : Method). IsSignedMethod p.names p.fields.items p.classes.items y x) same was.2

  module _ (own : is_library p x.class ≡ false) where
    is_program : rules.is_library_in (class_at p x.class) ≡ false
    is_program = same_library (class_at p x.class) ∙ own

    never_there : (a : RawAnno) → Contains x.annos.items a → is_of annotations.MustCall a ≡ true → ⊥
    never_there a has is =
        let Never : Bool → Type 0 = λ b. list_any (λ (k : AnnotationKind). bytes_eq wanted (name_of k)) (allowed (declaration_of b (is_class_result x.sig.result) x.kind)) ≡ false in
        let none : Never (rules.is_library_in (class_at p x.class)) = subst Never (sym is_program) (not_allowed (is_class_result x.sig.result) x.kind) in
        true≢false (sym (wrong (rules.declaration_of_method p x) a none is) ∙ right a has)

    -- no method or constructor of the program has a set of its own for what it makes
    pub no_first_set : x.sig.first ≡ None
    no_first_set = as_signed.signature.first ∙ ap (value_set p.names) (first_none annotations.MustCall x.annos.items never_there)
