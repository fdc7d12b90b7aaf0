use Rattle.std.proofs.Common.{subst}
use Rattle.std.proofs.lemmas.List.Elements.{All-from_recursion}
use Rattle.rlc_base.specs.declared.code.Code.TheVariants.{BadByte}
use Rattle.java_lexer.specs.Cut.{IsTokenOf}
use Rattle.java_lexer.proofs.CutLaws.{cut_unique, cut_tokens, cut_refusal, stuck_refusal, late_refusal, stop_at, stop_no_cut}
use Rattle.java_lexer.specs.Reading.{IsHalt}
use Rattle.java_lexer.proofs.lexer.lex.Goals as goal

pub returns-then-valid-bytes-clause-only : goal.returns-then-valid-bytes-clause-only
returns-then-valid-bytes-clause-only c others other = cut_unique c.args.file c.args.bytes.now other.cut c.in-Ok.ensures.cut

pub returns-then-valid-bytes-clause-tokens : goal.returns-then-valid-bytes-clause-tokens
returns-then-valid-bytes-clause-tokens c = All-from_recursion (IsTokenOf c.args.bytes.now) c.in-Ok.tokens.items (cut_tokens c.args.file c.args.bytes.now c.in-Ok.ensures.cut)

pub returns-else-valid-bytes-clause-refused : goal.returns-else-valid-bytes-clause-refused
returns-else-valid-bytes-clause-refused c =
    stop_at c.args.file c.args.bytes.now c.utf8_len-valid.result BadByte c.refused.result c.refused.ensures
    (cut_refusal c.args.file c.args.bytes.now c.utf8_len-valid.result c.in-Ok.tokens.items (record { within = c.utf8_len-valid.ensures.within; whole = c.utf8_len-valid.ensures.whole; part = c.utf8_len-valid.ensures.part }) c.if-valid-bytes.false c.in-Ok.ensures.cut)

pub returns-else-valid-bytes-clause-no_cut : goal.returns-else-valid-bytes-clause-no_cut
returns-else-valid-bytes-clause-no_cut c =
    stop_no_cut c.args.file c.args.bytes.now c.utf8_len-valid.result BadByte c.refused.result c.refused.ensures
    (cut_refusal c.args.file c.args.bytes.now c.utf8_len-valid.result c.in-Ok.tokens.items (record { within = c.utf8_len-valid.ensures.within; whole = c.utf8_len-valid.ensures.whole; part = c.utf8_len-valid.ensures.part }) c.if-valid-bytes.false c.in-Ok.ensures.cut)

pub returns-then-place-valid-clause-refused : goal.returns-then-place-valid-clause-refused
returns-then-place-valid-clause-refused c =
    stop_at c.args.file c.args.bytes.now c.in-Err-Stuck.place c.in-Err-Stuck.code c.refused-then-place-valid.result c.refused-then-place-valid.ensures
    (stuck_refusal c.args.bytes.now c.utf8_len-valid.result c.in-Err-Stuck.place c.in-Err-Stuck.code (record { within = c.utf8_len-valid.ensures.within; whole = c.utf8_len-valid.ensures.whole; part = c.utf8_len-valid.ensures.part }) c.if-place-valid.true (subst (λ halt. IsHalt c.args.bytes.now halt) c.in-Err-Stuck.field-0-is c.in-Err-Stuck.ensures.stuck))

pub returns-then-place-valid-clause-no_cut : goal.returns-then-place-valid-clause-no_cut
returns-then-place-valid-clause-no_cut c =
    stop_no_cut c.args.file c.args.bytes.now c.in-Err-Stuck.place c.in-Err-Stuck.code c.refused-then-place-valid.result c.refused-then-place-valid.ensures
    (stuck_refusal c.args.bytes.now c.utf8_len-valid.result c.in-Err-Stuck.place c.in-Err-Stuck.code (record { within = c.utf8_len-valid.ensures.within; whole = c.utf8_len-valid.ensures.whole; part = c.utf8_len-valid.ensures.part }) c.if-place-valid.true (subst (λ halt. IsHalt c.args.bytes.now halt) c.in-Err-Stuck.field-0-is c.in-Err-Stuck.ensures.stuck))

pub returns-else-place-valid-clause-refused : goal.returns-else-place-valid-clause-refused
returns-else-place-valid-clause-refused c =
    stop_at c.args.file c.args.bytes.now c.utf8_len-valid.result BadByte c.refused-else-place-valid.result c.refused-else-place-valid.ensures
    (late_refusal c.args.bytes.now c.utf8_len-valid.result c.in-Err-Stuck.place c.in-Err-Stuck.code (record { within = c.utf8_len-valid.ensures.within; whole = c.utf8_len-valid.ensures.whole; part = c.utf8_len-valid.ensures.part }) c.if-place-valid.false (subst (λ halt. IsHalt c.args.bytes.now halt) c.in-Err-Stuck.field-0-is c.in-Err-Stuck.ensures.stuck))

pub returns-else-place-valid-clause-no_cut : goal.returns-else-place-valid-clause-no_cut
returns-else-place-valid-clause-no_cut c =
    stop_no_cut c.args.file c.args.bytes.now c.utf8_len-valid.result BadByte c.refused-else-place-valid.result c.refused-else-place-valid.ensures
    (late_refusal c.args.bytes.now c.utf8_len-valid.result c.in-Err-Stuck.place c.in-Err-Stuck.code (record { within = c.utf8_len-valid.ensures.within; whole = c.utf8_len-valid.ensures.whole; part = c.utf8_len-valid.ensures.part }) c.if-place-valid.false (subst (λ halt. IsHalt c.args.bytes.now halt) c.in-Err-Stuck.field-0-is c.in-Err-Stuck.ensures.stuck))
