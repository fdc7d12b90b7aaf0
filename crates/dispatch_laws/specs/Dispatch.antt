-- What the rules on overriding give of the method that runs at a call, beside the one that the call names.
use Rattle.std.specs.Prelude.{◌≡◌, true, false, ◌&&◌, not, Contains}
use Rattle.program_model.specs.declared.kinds.MethodKind.TheVariants as methods
use Rattle.program_model.specs.declared.program.Method.{Method}
use Rattle.program_model.specs.declared.program.Program.{Program}
use Rattle.program_model.specs.Overrides.{Overriding, are_alike, are_types}
use Rattle.agreement.specs.Results.{is_result_under, throws_no_more}
use Rattle.annotation_rules.specs.AliasCases.{is_same_position}
use Rattle.agreement.specs.OverrideCases.{asks_for_more, has_other_owning, has_other_result, has_wider_result, overrides_first_set, promises_beside_set, promises_less, promises_on_field}
use Rattle.annotation_rules.specs.Overridings.{overridings}
use Rattle.annotation_rules.specs.Signatures.{is_present}

-- `x` overrides `n`: the two stand among the overridings of the program
abbrev pub IsOverriding : Program → Method → Method → Type 0
IsOverriding p x n = (o : Overriding) × Contains (overridings p) o × (o.by ≡ x) × (o.overridden ≡ n)

-- What a caller is told by the signature of `n` holds of `x`: the types of the parameters, which arguments move to the callee, what
-- is called on them before, whether the result moves to the caller and what is to be called on it, what the method promises, which
-- argument the result is an alias of, whose obligation is created anew, what is thrown.
pub record KeepsSignature (p : Program) (x n : Method) : Type 0 where
  pub types : are_types x.sig.params.items n.sig.params.items ≡ true
  pub owning : has_other_owning x.sig.params.items n.sig.params.items ≡ false
  pub before : asks_for_more x.sig.params.items n.sig.params.items ≡ false
  pub result : has_other_result x.sig n.sig ≡ false
  pub wider : has_wider_result p x.sig n.sig ≡ false
  pub promises : promises_less x.sig.promises.items n.sig.promises.items ≡ false
  pub on_throw : promises_less x.sig.on_throw.items n.sig.on_throw.items ≡ false
  pub alias : is_same_position x.sig.alias n.sig.alias ≡ true
  pub reset : (is_present x.sig.reset && not (is_same_position x.sig.reset n.sig.reset)) ≡ false
  pub result_type : is_result_under p x.sig.result n.sig.result ≡ true
  pub throws : throws_no_more p x n ≡ true

-- `x` may override `n` (JLS 8.4.8): both are instance methods of one name and neither is private, `n` is not final; the signature is
-- kept, and nothing is overridden that speaks of an owning field beside the must-call set, or of a fresh result with a set of its own.
pub record IsRightOverriding (p : Program) (x n : Method) : Type 0 where
  pub alike : are_alike x n ≡ true
  pub kind : x.kind ≡ methods.Instance
  pub named_kind : n.kind ≡ methods.Instance
  pub private : x.is_private ≡ false
  pub named_private : n.is_private ≡ false
  pub final : n.is_final ≡ false
  pub beside_set : promises_beside_set p n ≡ false
  pub on_field : promises_on_field n.sig.on_throw.items ≡ false
  pub first_set : overrides_first_set p x n ≡ false
  pub signature : KeepsSignature p x n
