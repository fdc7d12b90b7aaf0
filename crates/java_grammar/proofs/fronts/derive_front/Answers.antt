use Rattle.std.proofs.Common.{◌∙◌, map, length, take, drop}
use Rattle.std.proofs.lemmas.List.{length-map}
use Rattle.java_syntax.specs.Derives.{lexeme_of, step_of}
use Rattle.java_grammar.specs.Reached.{lexemes_of}
use Rattle.java_grammar.specs.Fronts.{IsClosedFront}
use Rattle.java_grammar.proofs.FrontLaws.{refusal_at, one_front, all_front, wrong_front, no_front, wrong_is_none, at_most, cut_at, cut_length}
use Rattle.java_grammar.proofs.fronts.derive_front.Goals as goal

pub returns-in-Ok-clause-one_front : goal.returns-in-Ok-clause-one_front
returns-in-Ok-clause-one_front c = λ count steps f.
    let ts = lexemes_of c.args.bytes.now c.args.tokens.now in
    let es = map (step_of c.args.bytes.now) c.in-Ok.events.items in
    let r = one_front c.args.is_stub c.args.start ts count (length ts) steps es f (all_front c.args.is_stub c.args.start ts es c.in-Ok.ensures.derived) in
    (r.0 ∙ length-map c.args.tokens.now (lexeme_of c.args.bytes.now), r.1)

the_front : (c : goal.In-Ok-derive) → IsClosedFront c.args.is_stub c.args.start (lexemes_of c.args.bytes.now c.args.tokens.now) c.in-Err-WrongAt.at (map (step_of c.args.bytes.now) c.in-Ok-derive.events.items)
the_front c =
    let b = c.args.bytes.now in
    let at = c.in-Err-WrongAt.at in
    let w = refusal_at c.args.is_stub c.args.start (lexemes_of b c.args.tokens.now) c.in-Err-WrongAt.field-0 at c.in-Err-WrongAt.field-0-is c.in-Err-WrongAt.ensures.refused in
    wrong_front c.args.is_stub c.args.start (lexemes_of b c.args.tokens.now) at (map (step_of b) c.in-Ok-derive.events.items) (lexemes_of b (take at c.args.tokens.now)) (lexemes_of b (drop at c.args.tokens.now)) w
    (cut_at b c.args.tokens.now at) (cut_length b c.args.tokens.now at (at_most c.args.is_stub c.args.start b c.args.tokens.now at w)) c.in-Ok-derive.ensures.derived

pub returns-in-Ok-derive-clause-front : goal.returns-in-Ok-derive-clause-front
returns-in-Ok-derive-clause-front c = the_front c

pub returns-in-Ok-derive-clause-one_front : goal.returns-in-Ok-derive-clause-one_front
returns-in-Ok-derive-clause-one_front c = λ count steps f.
    one_front c.args.is_stub c.args.start (lexemes_of c.args.bytes.now c.args.tokens.now) count c.in-Err-WrongAt.at steps (map (step_of c.args.bytes.now) c.in-Ok-derive.events.items) f (the_front c)

pub returns-in-Err-WrongAt-derive-clause-refused : goal.returns-in-Err-WrongAt-derive-clause-refused
returns-in-Err-WrongAt-derive-clause-refused c =
    let b = c.args.bytes.now in
    let at = c.in-Err-WrongAt.at in
    let w = refusal_at c.args.is_stub c.args.start (lexemes_of b c.args.tokens.now) c.in-Err-WrongAt.field-0 at c.in-Err-WrongAt.field-0-is c.in-Err-WrongAt.ensures.refused in
    let us = lexemes_of b (take at c.args.tokens.now) in (
      w,
      no_front c.args.is_stub c.args.start (lexemes_of b c.args.tokens.now) at us (lexemes_of b (drop at c.args.tokens.now)) w
          (cut_at b c.args.tokens.now at) (cut_length b c.args.tokens.now at (at_most c.args.is_stub c.args.start b c.args.tokens.now at w))
          (wrong_is_none c.args.is_stub c.args.start us c.in-Err-WrongAt-derive.field-0-0
          (refusal_at c.args.is_stub c.args.start us c.in-Err-WrongAt-derive.field-0 c.in-Err-WrongAt-derive.field-0-0 c.in-Err-WrongAt-derive.field-0-is c.in-Err-WrongAt-derive.ensures.refused)),
    )
