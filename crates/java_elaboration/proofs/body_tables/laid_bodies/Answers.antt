use Rattle.std.proofs.Common.{rules, subst, sym, List, [], ◌∷◌, ◌++◌, map}
use Rattle.std.specs.List.{AllZip}
use Rattle.std.proofs.lemmas.Iterator.Adapters.{YieldsList-from_vec}
use Rattle.std.proofs.lemmas.Iterator.Consumers.{YieldsList-turn}
use Rattle.program_model.specs.declared.tree.Body.{Body}
use Rattle.java_types.specs.TypedBodies.{typed_body_of}
use Rattle.java_elaboration.specs.Elaborations.{HasWellFormedStatements, IsBodyOf}
use Rattle.java_elaboration.proofs.BodySteps.{all_zip_one_more, holds_at}
use Rattle.java_elaboration.proofs.body_tables.laid_bodies.Goals as goal

pub laid_body-requires : goal.laid_body-requires
laid_body-requires c =
    let next = YieldsList-turn (YieldsList-from_vec {s = c.into_iter-typing-iterator.result} c.args.typings.items (search rules) (search rules)) c.loop-typing.yielded c.loop-typing.typing-iterator c.loop-typing.yielded_by c.next.result c.next.new.self c.in-Some.typing c.in-Some.is c.next.ensures.steps in
    holds_at HasWellFormedStatements typed_body_of c.args.typings.items _ c.in-Some.typing next.0 next.1 c.requires

pub loop-typing-preserved : goal.loop-typing-preserved
loop-typing-preserved c =
    let P : List Body → Type 0 = AllZip IsBodyOf (map typed_body_of (c.loop-typing.yielded ++ c.in-Some.typing ∷ [])) in
    subst P (sym {A = List Body} c.in_ok-push.ensures.items) (all_zip_one_more IsBodyOf typed_body_of c.loop-typing.yielded c.loop-typing.bodies.items c.in-Some.typing _ c.loop-typing.invariant c.in_ok-laid_body.ensures)
