-- What an accepted program reads as a constant of the library, it reads plainly.
use Rattle.std.proofs.Common.{◌≡◌, true, ap, ◌∙◌}
use Rattle.program_model.specs.declared.kinds.MethodId.{MethodId}
use Rattle.program_model.specs.declared.program.Program.{Program}
use Rattle.program_model.specs.declared.tree.Body.{Body}
use Rattle.program_model.specs.Overrides.{is_library}
use Rattle.ledger_obligations.specs.Bodies.{reset_in}
use Rattle.control_actions.specs.declared.action.Action.TheVariants as actions
use Rattle.control_actions.specs.declared.action.PlainValue.{PlainValue}
use Rattle.control_actions.specs.declared.action.PlainValue.TheVariants as plain
use Rattle.control_actions.specs.declared.place.Place.{Place}
use Rattle.content_laws.specs.Accept.{Accept}
use Rattle.content_laws.specs.AgreementConditions.{MeetsFileConditions}
use Rattle.content_laws.specs.PlainForms.{IsPlainRead}
use Rattle.dispatch_laws.specs.Typed.{IsLibraryConstant, NamesMembers}
use Rattle.dispatch_laws.proofs.Constants.{constant_resets_nothing}
use Rattle.ledger_obligations.specs.Obligations.{is_library_method}

module _ (p : Program) (ac : Accept p) (files : MeetsFileConditions p) where
  constant_read : (m : MethodId) → IsLibraryConstant p m → IsPlainRead p (plain.LibraryConstant m)
  constant_read m (x, at, constant) =
      let library : is_library p x.class ≡ true = files.given.constants m x at constant in
      (ap (is_library_method p) at ∙ library, ap reset_in at ∙ constant_resets_nothing p ac m x at constant)

  pub plain_read : (b : Body) (u : Place) (v : PlainValue) → NamesMembers p b (actions.Plain u v) → IsPlainRead p v
  plain_read b u (plain.LibraryConstant m) names = constant_read m names
  plain_read b u (plain.StaticField f) names = tt
  plain_read b u v names = tt
