-- A key that was seen is refused.
use Rattle.std.proofs.Common.{◌∙◌, ap}
use Rattle.rlc_base.specs.declared.code.Code.TheVariants as refused
use Rattle.refusal_order.specs.Refusals.{least, where_true}
use Rattle.class_checks.proofs.DoubleLemmas.{key_held, key_put}
use Rattle.class_checks.proofs.keys.double_key.Goals as goal

pub returns-clause-case : goal.returns-clause-case
returns-clause-case c =
    c.where_true.ensures
    ∙ ap (λ b. least (where_true b refused.DoubleMember c.args.member.now.pos)) (key_held c.args.seen.now.keys c.in_ok-key.key c.args.member.now.key.items c.in_ok-is_new.is_new (c.in_ok-key.ensures.items_if_clones_equal (λ x y same. same) ∙ c.as_slice.ensures.value) c.in_ok-is_new.ensures.added)

pub returns-clause-seen : goal.returns-clause-seen
returns-clause-seen c = key_put c.args.seen.now.keys c.insert.new.self.keys c.in_ok-key.key c.args.member.now.key.items (c.in_ok-key.ensures.items_if_clones_equal (λ x y same. same) ∙ c.as_slice.ensures.value) c.in_ok-is_new.ensures.keys
