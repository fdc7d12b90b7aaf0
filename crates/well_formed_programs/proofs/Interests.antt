-- The name of interest of a signed method is the one that its program's table of names gives.
use Rattle.std.proofs.Common.{◌≡◌, ◌∙◌, ap, ap₂, sym, refl, ℕ, Bool, true, false, ◌&&◌, nat_eq, nat_lt, if◌then◌else◌, Option, Some, None, List, length}
use Rattle.std.proofs.lemmas.List.{length-map}
use Rattle.rlc_base.specs.declared.name_id.NameId.{NameId}
use Rattle.rlc_base.specs.Names.{place_of}
use Rattle.program_model.specs.declared.kinds.MethodKind.{MethodKind}
use Rattle.program_model.specs.declared.kinds.MethodKind.TheVariants as methods
use Rattle.program_model.specs.declared.program.Class.{Class}
use Rattle.program_model.specs.declared.program.Field.{Field}
use Rattle.program_model.specs.declared.program.Method.{Method}
use Rattle.program_model.specs.declared.program.Program.{Program}
use Rattle.must_call_types.specs.Effective as effective
use Rattle.must_call_types.specs.Effective.{interest, number_in, signed_parameter}
use Rattle.must_call_types.specs.SignedMethods.{IsSignedMethod}
use Rattle.must_call_types.specs.Bodies.{is_instance_kind}
use Rattle.must_call_types.specs.WellFormed.{interest_of, is_plain}

same_kinds : (k : MethodKind) → effective.is_instance_kind k ≡ is_instance_kind k
same_kinds methods.Instance = refl
same_kinds methods.Static = refl
same_kinds methods.Ctor = refl
same_kinds methods.Constant = refl

both : (plain held : Bool) (n : NameId) → (if plain then (if held then Some n else None) else None) ≡ (if plain && held then Some n else None)
both true held n = refl
both false held n = refl

abbrev interest_by : Bool → List (List ℕ) → List ℕ → Option NameId
interest_by plain table name = if plain then number_in table name else None

plain_kept : (table : List (List ℕ)) (fields : List Field) (classes : List Class) (old x : Method) → IsSignedMethod table fields classes old x → effective.is_plain old ≡ is_plain x
plain_kept table fields classes old x signed =
    let kind : x.kind ≡ old.kind = ap (λ m. m.kind) signed.kept in
    let long : length x.sig.params.items ≡ length old.sig.params.items = ap length signed.signature.params ∙ length-map old.sig.params.items (signed_parameter table) in
    same_kind old x kind long
  where
    same_kind : (old x : Method) → x.kind ≡ old.kind → length x.sig.params.items ≡ length old.sig.params.items → effective.is_plain old ≡ is_plain x
    same_kind old x kind long = ap₂ (λ k n. effective.is_instance_kind k && nat_eq n 0) (sym kind) (sym long) ∙ ap (λ b. b && nat_eq (length x.sig.params.items) 0) (same_kinds x.kind)

pub signed_interest : (p : Program) (fields : List Field) (classes : List Class) (old x : Method) → IsSignedMethod p.names fields classes old x → x.sig.interest ≡ interest_of p x
signed_interest p fields classes old x signed =
    let name : x.name ≡ old.name = ap (λ m. m.name) signed.kept in
    signed.signature.interest
    ∙ ap₂ (λ b n. interest_by b p.names n) (plain_kept p.names fields classes old x signed) (sym name)
    ∙ both (is_plain x) (nat_lt (place_of p.names x.name) (length p.names)) (record { 0 = place_of p.names x.name })
