-- What calls of the library give that is no object, and how their signatures are.
use Rattle.std.specs.Prelude.{ℤ}
use Rattle.std.proofs.Common.{None, Option, Some, ap, false, sym, true, true≢false, ℕ, ◌≡◌, ◌<◌, ◌∙◌}
use Rattle.rlc_base.specs.declared.name_id.NameId.{NameId}
use Rattle.program_model.specs.declared.kinds.MethodId.{MethodId}
use Rattle.program_model.specs.declared.kinds.MethodKind.{MethodKind}
use Rattle.program_model.specs.declared.kinds.MethodKind.TheVariants as methods
use Rattle.program_model.specs.declared.kinds.VType.{VType}
use Rattle.program_model.specs.declared.kinds.VType.TheVariants as types
use Rattle.program_model.specs.declared.program.Method.{Method}
use Rattle.program_model.specs.declared.program.Program.{Program}
use Rattle.program_model.specs.Lookups.{method_at}
use Rattle.program_model.specs.Validity.{IsOfKind}
use Rattle.ledger_obligations.specs.Bodies.{is_constructor_kind}
use Rattle.ledger_obligations.specs.WellFormed.{HasSmallInterests}
use Rattle.ledger_state.specs.Contents.{HeapContents}
use Rattle.ledger_state.specs.Heaps.{root_of}
use Rattle.ledger_state.specs.declared.value.Value.{Value}
use Rattle.ledger_steps.specs.LedgerCallsCalls as ledger_calls
use Rattle.ledger_steps.specs.LedgerCallsCalls.{alias_position}
use Rattle.ledger_steps.specs.Conducts.{argument_of, given_value, value_at}

-- ---- signatures

-- a constructor has no result
pub no_result : (x : Method) → is_constructor_kind x.kind ≡ true → IsOfKind x.kind x.sig → x.sig.result ≡ None
no_result x new kind = go x.kind new kind
  where
    go : (k : MethodKind) → is_constructor_kind k ≡ true → IsOfKind k x.sig → x.sig.result ≡ None
    go methods.Ctor is kind' = kind'
    go methods.Instance is kind' = absurd (true≢false (sym is))
    go methods.Static is kind' = absurd (true≢false (sym is))
    go methods.Constant is kind' = absurd (true≢false (sym is))

-- ---- values

pub given_no_object : (h : HeapContents) (count : ℕ) (t : Option VType) (z : ℤ) (o : ℕ) → root_of h (given_value count t z) ≡ Some o → ⊥
given_no_object h count (Some (types.Arr e)) z o is = cc
given_no_object h count (Some types.Str) z o is = cc
given_no_object h count None z o is = cc
given_no_object h count t z o is = cc

pub argument_no_object : (h : HeapContents) (m : Option Method) (at : ℕ → Value) (o : ℕ) → alias_position m ≡ None → root_of h (argument_of m at) ≡ Some o → ⊥
argument_no_object h m at o none is = let never : None ≡ Some o = sym (ap (λ (k : Option ℕ). root_of h (value_at at k)) none) ∙ is in cc

pub small_interest : (p : Program) → HasSmallInterests p → (named : MethodId) (n : NameId) (x : Option Method) → method_at p named ≡ x → ledger_calls.interest_in x ≡ Some n → n.0 < 128
small_interest p small named n None at is = absurd (let never : None ≡ Some n = is in cc)
small_interest p small named n (Some x) at is = small named x n at is
