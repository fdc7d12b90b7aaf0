use Rattle.std.proofs.Common.{◌-◌, refl, ap, map, []}
use Rattle.java_syntax.specs.declared.symbols.Symbol.TheVariants as symbols
use Rattle.java_syntax.specs.AnnotationTrees.{anno_of}
use Rattle.java_grammar.specs.Reached.{lexemes_of}
use Rattle.java_values.specs.Values.{values_of}
use Rattle.java_values.specs.Values as kinds
use Rattle.java_values.specs.Kinds.{kind_of}
use Rattle.java_exprs.proofs.Sense.{top_of}
use Rattle.java_exprs.specs.FrontTrees.{shows_annotations, no_annotation}
use Rattle.java_exprs.proofs.FrontTreeLaws.{only_tree, same_annotations, moved_only, moved_stop, front_meant, front_kinds, shown_annotations, shown_front}
use Rattle.java_exprs.proofs.front_trees.annotations_front.Goals as goal

pub front_values-requires : goal.front_values-requires
front_values-requires c = front_meant symbols.Annotations c.saturating_sub-limit.result (values_of c.in_ok-start.start.items) (lexemes_of c.args.bytes.now c.args.tokens.now) (ap (λ vs. map kind_of vs) c.in_ok-start.ensures) refl

pub pop_annotations-all-requires : goal.pop_annotations-all-requires
pop_annotations-all-requires c =
    top_of kinds.annotations [] _ (front_kinds symbols.Annotations c.saturating_sub-limit.result (values_of c.in_ok-start.start.items) (lexemes_of c.args.bytes.now c.args.tokens.now) c.in-Ok.count _ (ap (λ vs. map kind_of vs) c.in_ok-start.ensures) refl c.in-Ok.ensures.front)

pub returns-in-Ok-clause-front : goal.returns-in-Ok-clause-front
returns-in-Ok-clause-front c =
    let seen = shown_annotations c.saturating_sub-limit.result (values_of c.in_ok-start.start.items) (lexemes_of c.args.bytes.now c.args.tokens.now) c.in-Ok.count _ _ (map anno_of c.pop_annotations-all.result.tree.items) c.pop_annotations-all.result.depth (ap (λ vs. map kind_of vs) c.in_ok-start.ensures) c.in-Ok.ensures.front c.pop_annotations-all.ensures in
    shown_front shows_annotations symbols.Annotations c.saturating_sub-limit.result (128 - c.args.level) (values_of c.in_ok-start.start.items) no_annotation (lexemes_of c.args.bytes.now c.args.tokens.now) c.in-Ok.count _ (map anno_of c.pop_annotations-all.result.tree.items) c.saturating_sub-limit.ensures (c.in_ok-start.ensures) c.in-Ok.ensures.front seen

pub returns-in-Ok-clause-only : goal.returns-in-Ok-clause-only
returns-in-Ok-clause-only c =
    let seen = shown_annotations c.saturating_sub-limit.result (values_of c.in_ok-start.start.items) (lexemes_of c.args.bytes.now c.args.tokens.now) c.in-Ok.count _ _ (map anno_of c.pop_annotations-all.result.tree.items) c.pop_annotations-all.result.depth (ap (λ vs. map kind_of vs) c.in_ok-start.ensures) c.in-Ok.ensures.front c.pop_annotations-all.ensures in
    only_tree shows_annotations symbols.Annotations (128 - c.args.level) no_annotation (lexemes_of c.args.bytes.now c.args.tokens.now) c.in-Ok.count (values_of c.in-Ok.values.items) (map anno_of c.pop_annotations-all.result.tree.items) same_annotations seen
    (moved_only symbols.Annotations c.saturating_sub-limit.result (128 - c.args.level) (values_of c.in_ok-start.start.items) no_annotation (lexemes_of c.args.bytes.now c.args.tokens.now) c.in-Ok.count (values_of c.in-Ok.values.items) c.saturating_sub-limit.ensures (c.in_ok-start.ensures) c.in-Ok.ensures.only)

pub returns-in-Err-clause-stopped : goal.returns-in-Err-clause-stopped
returns-in-Err-clause-stopped c = moved_stop symbols.Annotations c.saturating_sub-limit.result (128 - c.args.level) (values_of c.in_ok-start.start.items) no_annotation (lexemes_of c.args.bytes.now c.args.tokens.now) c.args.end c.in-Err.stop c.saturating_sub-limit.ensures (c.in_ok-start.ensures) c.in-Err.ensures.stopped
