-- A method once its annotations are read.
use Rattle.std.specs.Prelude.{◌≡◌, ℕ, List, map}
use Rattle.program_model.specs.declared.program.Class.{Class}
use Rattle.program_model.specs.declared.program.Field.{Field}
use Rattle.program_model.specs.declared.program.Method.{Method}
use Rattle.program_model.specs.declared.program.Sig.{Sig}
use Rattle.effective_signatures.specs.Targets.{own_fields}
use Rattle.effective_signatures.specs.Effective.{alias_position, first_set, has_owning_result, interest, normal_promises, reset_position, signed_parameter, signed_receiver, throwing_promises}

-- the effective signature of a method of the class that declares these fields
pub record IsEffective (table : List (List ℕ)) (fields : List Field) (classes : List Class) (m : Method) (s : Sig) : Type 0 where
  pub params : s.params.items ≡ map (signed_parameter table) m.sig.params.items
  pub receiver : s.receiver ≡ signed_receiver m.sig.receiver
  pub result : s.result ≡ m.sig.result
  pub throws : s.throws ≡ m.sig.throws
  pub owning_result : s.owning_result ≡ has_owning_result m
  pub alias : s.alias ≡ alias_position m
  pub first : s.first ≡ first_set table m
  pub reset : s.reset ≡ reset_position m
  pub promises : s.promises.items ≡ normal_promises table fields (own_fields classes m.class) m
  pub on_throw : s.on_throw.items ≡ throwing_promises table fields (own_fields classes m.class) m
  pub interest : s.interest ≡ interest table m

-- the method with its effective signature
pub record IsSignedMethod (table : List (List ℕ)) (fields : List Field) (classes : List Class) (m signed : Method) : Type 0 where
  pub kept : signed ≡ record m { sig = signed.sig }
  pub signature : IsEffective table fields classes m signed.sig
