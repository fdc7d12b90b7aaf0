use Rattle.std.proofs.Common.{◌≡◌, ◌++◌, ◌∷◌, [], ◌∙◌, ap, ap₂, arith, refl, ℕ, List, length}
use Rattle.acceptance_laws.proofs.AcceptedFiles.{faultless_accepted}
use Rattle.certificates.proofs.Faultless.{certified_none, certified_small}
use Rattle.command_inputs.specs.Inputs.{text_of, texts_of}
use Rattle.command_programs.specs.Programs.{input_of}
use Rattle.check_command.specs.Certificates.{certificate_number, names_beside, verified}
use Rattle.check_command.proofs.StopLaws.{stopped_by_certificate}
use Rattle.check_command.proofs.verifying.verified.Goals as goal

pub returns-in-Ok-check_cert : goal.returns-in-Ok-check_cert
returns-in-Ok-check_cert c =
    let program = c.requires.program in
    let is = c.in-Ok-check_cert.ensures.certificate in
    let p = c.args.program.now in
    verified p program is (faultless_accepted (input_of program.settings (texts_of c.args.files)) p program.program (certified_small p _ is) (certified_none p _ is)) refl c.new.ensures

pub returns : goal.returns
returns c =
    let files = texts_of c.args.files in
    let long = ap length c.requires.names in
    let counted : c.in-Ok.number ≡ certificate_number files = omega (arith, c.in-Ok.ensures, c.len.ensures, long) in
    let word : c.push_bytes.new.self ≡ c.args.certificate.name.now =
    c.in_ok-push_bytes.ensures.ok ∙ ap (λ (xs : List ℕ). xs ++ c.as_bytes.result.now) c.new-name.ensures ∙ c.as_bytes.ensures.value in
    let same : c.deref.result.now ≡ names_beside files c.args.certificate.name.now =
    c.deref.ensures.value ∙ c.in-Ok-push.ensures.items ∙ ap₂ (λ (xs : List (List ℕ)) (x : List ℕ). xs ++ x ∷ []) c.requires.names word in
    stopped_by_certificate files (text_of c.args.certificate) c.args.program.now c.in-Ok.number c.deref.result.now c.in-Err.stop c.halt_of.result counted same c.requires.program c.in-Err.ensures.cause c.halt_of.ensures
