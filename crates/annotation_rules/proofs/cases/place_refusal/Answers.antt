use Rattle.std.proofs.Common.{◌∙◌, ◌++◌, ap, ap₂, List}
use Rattle.std.specs.List.{flat_map}
use Rattle.program_model.specs.declared.program.ParamSig.{ParamSig}
use Rattle.program_model.specs.declared.program.RawAnno.{RawAnno}
use Rattle.refusal_order.specs.Refusals.{least}
use Rattle.annotation_rules.specs.declared.declaration.Declaration.{Declaration}
use Rattle.annotation_rules.specs.declared.declaration.Declaration.TheVariants as declarations
use Rattle.annotation_rules.specs.AnnotationCases.{declaration_of_method}
use Rattle.annotation_rules.specs.Declarations.{declaration_cases}
use Rattle.annotation_rules.proofs.Folds.{joined}
use Rattle.annotation_rules.proofs.cases.place_refusal.Goals as goal

pub returns : goal.returns
returns c =
    let m = c.args.method.now in
    let on = λ (d : Declaration) (annos : List RawAnno). least (declaration_cases d annos) in
    let declared = declaration_cases (declaration_of_method c.args.p.now m) m.annos.items in
    let receiver = declaration_cases declarations.Receiver m.sig.receiver.annos.items in
    let one = λ (x : ParamSig). declaration_cases declarations.Parameter x.annos.items in
    joined (declared ++ receiver) (flat_map one m.sig.params.items) _ _ _ c.lesser_of-2.ensures
    (joined declared receiver _ _ _ c.lesser_of.ensures
    (c.declaration_refusal-declared.ensures ∙ ap₂ on c.declaration_of_method.ensures c.deref.ensures.value)
    (c.declaration_refusal-receiver.ensures ∙ ap (on declarations.Receiver) c.deref-2.ensures.value))
    (c.parameter_refusal.ensures ∙ ap (λ xs. least (flat_map one xs)) c.deref-3.ensures.value)
