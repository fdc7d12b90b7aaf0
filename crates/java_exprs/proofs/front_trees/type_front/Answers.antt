use Rattle.std.proofs.Common.{refl, ap, map, []}
use Rattle.java_syntax.specs.declared.symbols.Symbol.TheVariants as symbols
use Rattle.java_grammar.specs.Reached.{lexemes_of}
use Rattle.java_values.specs.Values.{values_of}
use Rattle.java_values.specs.Values as kinds
use Rattle.java_values.specs.Kinds.{kind_of}
use Rattle.java_exprs.proofs.Sense.{top_of}
use Rattle.java_exprs.specs.FrontTrees.{shows_type}
use Rattle.java_exprs.proofs.FrontTreeLaws.{only_tree, same_type, moved_only, moved_stop, front_meant, front_kinds, shown_type, shown_front}
use Rattle.java_exprs.proofs.front_trees.type_front.Goals as goal

pub front_values-requires : goal.front_values-requires
front_values-requires c = front_meant symbols.Type 128 (values_of c.new.result.items) (lexemes_of c.args.bytes.now c.args.tokens.now) (ap (λ vs. map kind_of vs) (ap values_of c.new.ensures.items)) refl

pub pop_typ-typ-requires : goal.pop_typ-typ-requires
pop_typ-typ-requires c =
    top_of kinds.typ [] _ (front_kinds symbols.Type 128 (values_of c.new.result.items) (lexemes_of c.args.bytes.now c.args.tokens.now) c.in-Ok.count _ (ap (λ vs. map kind_of vs) (ap values_of c.new.ensures.items)) refl c.in-Ok.ensures.front)

pub returns-in-Ok-clause-front : goal.returns-in-Ok-clause-front
returns-in-Ok-clause-front c =
    let seen = shown_type 128 (values_of c.new.result.items) (lexemes_of c.args.bytes.now c.args.tokens.now) c.in-Ok.count _ _ c.pop_typ-typ.result (ap (λ vs. map kind_of vs) (ap values_of c.new.ensures.items)) c.in-Ok.ensures.front c.pop_typ-typ.ensures in
    shown_front shows_type symbols.Type 128 128 (values_of c.new.result.items) [] (lexemes_of c.args.bytes.now c.args.tokens.now) c.in-Ok.count _ c.pop_typ-typ.result refl (ap values_of c.new.ensures.items) c.in-Ok.ensures.front seen

pub returns-in-Ok-clause-only : goal.returns-in-Ok-clause-only
returns-in-Ok-clause-only c =
    let seen = shown_type 128 (values_of c.new.result.items) (lexemes_of c.args.bytes.now c.args.tokens.now) c.in-Ok.count _ _ c.pop_typ-typ.result (ap (λ vs. map kind_of vs) (ap values_of c.new.ensures.items)) c.in-Ok.ensures.front c.pop_typ-typ.ensures in
    only_tree shows_type symbols.Type 128 [] (lexemes_of c.args.bytes.now c.args.tokens.now) c.in-Ok.count (values_of c.in-Ok.values.items) c.pop_typ-typ.result same_type seen
    (moved_only symbols.Type 128 128 (values_of c.new.result.items) [] (lexemes_of c.args.bytes.now c.args.tokens.now) c.in-Ok.count (values_of c.in-Ok.values.items) refl (ap values_of c.new.ensures.items) c.in-Ok.ensures.only)

pub returns-in-Err-clause-stopped : goal.returns-in-Err-clause-stopped
returns-in-Err-clause-stopped c = moved_stop symbols.Type 128 128 (values_of c.new.result.items) [] (lexemes_of c.args.bytes.now c.args.tokens.now) c.args.end c.in-Err.stop refl (ap values_of c.new.ensures.items) c.in-Err.ensures.stopped
