-- The steps go to the fault exactly where they tell a path of controls to it.
use Rattle.std.proofs.Common.{◌∙◌, sym}
use Rattle.java_cfg.specs.Contents.{arcs_of, nodes_of}
use Rattle.fault_paths.proofs.ControlLaws.{shortest_is, told_over, told_under}
use Rattle.fault_paths.proofs.StepLaws.{goes_tells, told_goes}
use Rattle.fault_paths.proofs.TestLaws.{goes_is, goes_true}
use Rattle.fault_paths.proofs.path.is_fault_path.Goals as goal

pub returns-clause-path : goal.returns-clause-path
returns-clause-path c =
    let p = c.args.p.now in
    let b = c.args.b in
    let nodes = nodes_of c.args.graph.now in
    let rows = arcs_of c.args.graph.now in
    let x = c.args.fault.now in
    let steps = c.args.steps.now in (
      λ h. told_over p b nodes rows c.requires.graph x steps (goes_tells p b rows x steps (goes_true p b rows x steps (sym c.goes_to.ensures ∙ h))),
      λ h. c.goes_to.ensures ∙ goes_is p b rows x steps (told_goes p b rows x steps (told_under p b nodes rows c.requires.graph x steps h)),
    )

pub returns-clause-shortest : goal.returns-clause-shortest
returns-clause-shortest c h =
    let p = c.args.p.now in
    let b = c.args.b in
    let nodes = nodes_of c.args.graph.now in
    let rows = arcs_of c.args.graph.now in
    let x = c.args.fault.now in
    let steps = c.args.steps.now in
    c.goes_to.ensures ∙ goes_is p b rows x steps (told_goes p b rows x steps (told_under p b nodes rows c.requires.graph x steps (shortest_is p b nodes x steps h)))
