use Rattle.std.proofs.Common.{◌∙◌, map, sym, subst, List, ℕ}
use Rattle.java_syntax.specs.declared.tokens.Token.{Token}
use Rattle.java_syntax.specs.DeclarationTrees.{unit_of}
use Rattle.java_lexer.specs.Cut.{IsCut}
use Rattle.stub_files.proofs.Sections.{only_if_ok, stops_too}
use Rattle.stub_files.proofs.stub.read_stub.Goals as goal

pub returns-clause-only : goal.returns-clause-only
returns-clause-only c =
    only_if_ok (λ units. map unit_of units.items) c.args.file c.args.bytes.now c.as_slice.result.now c.parse_stub.result
    (λ others cut. c.in_ok-tokens.ensures.only others cut ∙ sym c.as_slice.ensures.value) c.parse_stub.ensures.only

pub returns-clause-stopped : goal.returns-clause-stopped
returns-clause-stopped c =
    let cut : IsCut c.args.file c.args.bytes.now c.as_slice.result.now =
    subst (λ (ts : List Token). IsCut c.args.file c.args.bytes.now ts) (sym c.as_slice.ensures.value) c.in_ok-tokens.ensures.cut in
    stops_too c.args.file c.args.bytes.now c.as_slice.result.now c.parse_stub.result cut c.parse_stub.ensures.stopped c.parse_stub.ensures.no_stub
