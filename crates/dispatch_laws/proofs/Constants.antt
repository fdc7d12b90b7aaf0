-- What annotations never say of a constant of a stub: no `@CreatesMustCallFor` stands on it.
use Rattle.std.proofs.Common.{◌≡◌, ◌∙◌, ap, refl, sym, subst, true≢false, ℕ, true, ◌&&◌, Some, None, List, Contains, codes}
use Rattle.std.specs.List.{list_any}
use Rattle.std.specs.Str.{bytes_eq}
use Rattle.std.proofs.lemmas.Slice.Eq.{bytes_eq-Decides}
use Rattle.program_model.specs.declared.kinds.MethodId.{MethodId}
use Rattle.program_model.specs.declared.kinds.MethodKind.{MethodKind}
use Rattle.program_model.specs.declared.kinds.MethodKind.TheVariants as methods
use Rattle.program_model.specs.declared.program.Method.{Method}
use Rattle.program_model.specs.declared.program.Program.{Program}
use Rattle.program_model.specs.declared.program.RawAnno.{RawAnno}
use Rattle.program_model.specs.Lookups.{class_at, method_at}
use Rattle.annotation_kinds.specs.declared.annotation.AnnotationKind.{AnnotationKind}
use Rattle.annotation_kinds.specs.declared.annotation.AnnotationKind.TheVariants as annotations
use Rattle.annotation_kinds.specs.Annotations.{is_of, kinds, name_of}
use Rattle.annotation_rules.specs.AnnotationCases.{declaration_of, is_class_result}
use Rattle.annotation_rules.specs.AnnotationCases as rules
use Rattle.annotation_rules.specs.Declarations.{is_wrong}
use Rattle.annotation_rules.specs.declared.declaration.Declaration.TheVariants as declarations
use Rattle.annotation_rules.specs.Effective.{reset_in}
use Rattle.agreement.specs.Accept.{Accept}
use Rattle.dispatch_laws.proofs.Annotated.{as_signed, first_none, right}

abbrev wanted : List ℕ
wanted = codes "CreatesMustCallFor"

named : (a : RawAnno) → is_of annotations.CreatesMustCallFor a ≡ true → wanted ≡ a.name
named a is = sym ((bytes_eq-Decides a.name wanted).0 is)

-- no annotation may stand on a static field, and so none on a constant
wrong : (a : RawAnno) → is_of annotations.CreatesMustCallFor a ≡ true → is_wrong declarations.StaticField a ≡ true
wrong a is =
    let Read : List ℕ → Type 0 = λ name. list_any (λ (k : AnnotationKind). bytes_eq name (name_of k)) kinds ≡ true in
    let read : Read a.name = subst Read (named a is) refl in
    ap (λ b. b && true) read

module _ (p : Program) (ac : Accept p) (m : MethodId) (x : Method) (at : method_at p m ≡ Some x) (constant : x.kind ≡ methods.Constant) where
  never_there : (a : RawAnno) → Contains x.annos.items a → is_of annotations.CreatesMustCallFor a ≡ true → ⊥
  never_there a has is =
      let Wrong : MethodKind → Type 0 = λ k. is_wrong (declaration_of (rules.is_library_in (class_at p x.class)) (is_class_result x.sig.result) k) a ≡ true in
      let there : Wrong x.kind = subst Wrong (sym constant) (wrong a is) in
      true≢false (sym there ∙ right p ac m x at a has)

  -- a constant creates no obligation anew
  pub constant_resets_nothing : x.sig.reset ≡ None
  constant_resets_nothing = (as_signed p ac m x at).signature.reset ∙ ap (reset_in x) (first_none annotations.CreatesMustCallFor x.annos.items never_there)
