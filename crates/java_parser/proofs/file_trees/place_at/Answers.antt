use Rattle.std.proofs.Common.{sym, ◌∙◌, ap, map, length, ◌<◌}
use Rattle.std.proofs.lemmas.List.{get_or-map, length-map}
use Rattle.rlc_base.specs.declared.place.Pos.{Pos}
use Rattle.java_syntax.specs.Derives.{Lexeme, lexeme_of}
use Rattle.java_parser.proofs.file_trees.place_at.Goals as goal

pub returns-in-Some : goal.returns-in-Some
returns-in-Some c = λ bytes.
    let h = c.in-Some.ensures.lookup in
    let t = c.in-Some.token.now in
    let ts = c.args.tokens.now in
    let place : Lexeme → Pos = λ x. x.pos in
    let below : c.args.at < length (map (lexeme_of bytes) ts) = rw (length-map ts (lexeme_of bytes)) h.3.0 in
    ap (λ x. x.pos) h.1
    ∙ sym (get_or-map place (map (lexeme_of bytes) ts) c.args.at (lexeme_of bytes t) c.args.end below ∙ ap place (get_or-map (lexeme_of bytes) ts c.args.at t (lexeme_of bytes t) h.3.0))
