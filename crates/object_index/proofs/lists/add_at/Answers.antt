use Rattle.std.proofs.Common.{arith, refl}
use Rattle.std.proofs.lemmas.List.{length-map}
use Rattle.frame_owners.proofs.ListLaws.{all_put, last_put, lists_put, lists_stay}
use Rattle.frame_owners.specs.FrameOwners.{lists_in}
use Rattle.object_index.proofs.lists.add_at.Goals as goal

pub returns-in_err-push-clause-all : goal.returns-in_err-push-clause-all
returns-in_err-push-clause-all c =
    lists_stay c.args.lists.now.items _ c.index_mut.result.now c.push.new.self c.args.place (omega arith) c.index_mut.ensures.value c.in_err-push.ensures.items refl

pub returns-clause-all : goal.returns-clause-all
returns-clause-all c =
    all_put (lists_in c.args.lists.now.items) _ c.args.place c.args.number
    (lists_put c.args.lists.now.items _ c.index_mut.result.now c.push.new.self c.args.place c.args.number (omega arith) c.index_mut.ensures.value c.in_ok-push.ensures.items refl)

pub returns-clause-there : goal.returns-clause-there
returns-clause-there c =
    last_put (lists_in c.args.lists.now.items) _ c.args.place c.args.number (omega (arith, length-map c.args.lists.now.items (λ v. v.items)))
    (lists_put c.args.lists.now.items _ c.index_mut.result.now c.push.new.self c.args.place c.args.number (omega arith) c.index_mut.ensures.value c.in_ok-push.ensures.items refl)
