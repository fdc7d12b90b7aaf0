use Rattle.std.proofs.Common.{◌∙◌, sym, map, string_bytes, Global}
use Rattle.clap.specs.Words.{app_of, found_of, rows_of}
use Rattle.clap.specs.declared.parser.matches.ArgMatches.{ArgMatches}
use Rattle.command_words.specs.Modes.{is_void}
use Rattle.command_words.proofs.WordLemmas.{any_text, parse_failed, parse_taken, void_none}
use Rattle.command_words.proofs.parsing.parse.Goals as goal

pub returns-then-has_void : goal.returns-then-has_void
returns-then-has_void c =
    void_none (app_of c.args.mode) (map (string_bytes {Z = Global}) c.args.words.now)
    (any_text is_void (string_bytes {Z = Global}) c.args.words.now ∙ sym c.has_void.ensures ∙ c.if-has_void.true)

pub returns-in-Ok : goal.returns-in-Ok
returns-in-Ok c =
    parse_taken (app_of c.args.mode) (map (string_bytes {Z = Global}) c.args.words.now) c.in-Ok.matches c.requires
    (any_text is_void (string_bytes {Z = Global}) c.args.words.now ∙ sym c.has_void.ensures ∙ c.if-has_void.false)
    (c.in-Ok.ensures.kinds c.requires) c.in-Ok.ensures.matches

pub returns-in-Err : goal.returns-in-Err
returns-in-Err c =
    parse_failed (λ (m : ArgMatches). rows_of (found_of m)) (app_of c.args.mode) (map (string_bytes {Z = Global}) c.args.words.now)
    c.in-Err.error c.cause_of.result (c.in-Err.ensures.kinds c.requires) c.cause_of.ensures
