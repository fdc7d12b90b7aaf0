-- A valid table has typed members, where String is final.
use Rattle.std.proofs.Common.{◌≡◌, ◌∙◌, Option, Some, None, List, ℕ, codes, sym, subst}
use Rattle.std.specs.Option.{IsSomeAnd}
use Rattle.std.proofs.lemmas.Slice.Eq.{bytes_eq-Decides}
use Rattle.program_model.specs.declared.kinds.ClassId.{ClassId}
use Rattle.program_model.specs.declared.program.Class.{Class}
use Rattle.program_model.specs.declared.program.Program.{Program}
use Rattle.program_model.specs.Lookups.{class_at}
use Rattle.program_model.specs.Validity.{IsNamed, IsTypedProgram}
use Rattle.java_typing_laws.specs.TypingContexts.{HasTypedMembers}
use Rattle.java_typing_laws.proofs.Conversions.{no_test}
use Rattle.java_typing_laws.specs.Tables.{HasFinalString}

one_name : (o : Option Class) (a b : List ℕ) → IsSomeAnd o (λ k. k.name ≡ a) → IsSomeAnd o (λ k. k.name ≡ b) → a ≡ b
one_name None a b h g = absurd h
one_name (Some k) a b h g = sym h ∙ g

-- two classes of two names
other_class : (p : Program) → IsNamed p p.core.object (codes "java.lang.Object") → IsNamed p p.core.string (codes "java.lang.String") → p.core.object ≡ p.core.string → ⊥
other_class p object string same =
    let P : ClassId → Type 0 = λ c. IsNamed p c (codes "java.lang.Object") in
    let one : codes "java.lang.Object" ≡ codes "java.lang.String" = one_name (class_at p p.core.string) (codes "java.lang.Object") (codes "java.lang.String") (subst P same object) string in
    no_test ((bytes_eq-Decides (codes "java.lang.Object") (codes "java.lang.String")).1 one)

pub typed_members : (p : Program) → IsTypedProgram p → HasFinalString p → HasTypedMembers p
typed_members p h final = record {
  hierarchy = h.hierarchy;
  fields = λ c k at. (h.members c k at).fields;
  methods = λ c k at. (h.members c k at).methods;
  field_types = λ f x at. (h.fields f x at).declarable;
  results = λ m x at. (h.methods m x at).signature.result;
  final_string = final.final;
  object_is_not_string = other_class p h.core.object h.core.string;
}
