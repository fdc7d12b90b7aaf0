use Rattle.std.proofs.Common.{◌≡◌, ◌+◌, ◌≤◌, ◌<◌, ◌++◌, ℕ, List, [], length, take, drop, refl, sym, ap, ◌∙◌, subst, arith}
use Rattle.std.specs.Prelude.{Option}
use Rattle.std.specs.Option.{option_map}
use Rattle.std.proofs.lemmas.List.{length-take-le, append_assoc, append-nil}
use Rattle.std.proofs.Math.Seq.{take-add}
use Rattle.java_syntax.specs.declared.words.Word.{Word}
use Rattle.java_lexer.specs.TokenClasses.{class_of}
use Rattle.java_lexer.specs.declared.fronts.Front.TheVariants.{Piece, Refused}
use Rattle.java_lexer.specs.Cut.{Cut, IsFront, ended, here, behind, place_behind}
use Rattle.java_lexer.specs.Reading.{IsFrontOf, tokens_of}
use Rattle.java_lexer.proofs.PlaceLaws.{IsBehind, behind_past, behind_fits, place_is}
use Rattle.java_lexer.proofs.CutLaws.{front_more, front_within, cut_more}
use Rattle.java_lexer.proofs.lexer.cut.Goals as goal

pub returns-in-Refused-clause-stuck : goal.returns-in-Refused-clause-stuck
returns-in-Refused-clause-stuck c =
    c.loop-at.invariant.stuck c.loop-at.at c.in-Refused.code (here refl (subst (λ xs. IsFrontOf xs (Refused c.in-Refused.code)) c.behind-rest.ensures c.in-Refused.ensures))

pub moved_past-cursor-requires : goal.moved_past-cursor-requires
moved_past-cursor-requires c =
    let front : IsFront c.in-Piece.len (drop c.loop-at.at c.args.bytes.now) = (subst (λ xs. IsFrontOf xs (Piece c.in-Piece.kind c.in-Piece.len)) c.behind-rest.ensures c.in-Piece.ensures).0 in
    let within : c.loop-at.at + c.in-Piece.len ≤ length c.args.bytes.now = front_within c.args.bytes.now c.loop-at.at c.in-Piece.len front in
    let fits = behind_fits (take c.loop-at.at c.args.bytes.now) c.loop-at.cursor c.loop-at.invariant.behind in
    let before : length (take c.loop-at.at c.args.bytes.now) ≡ c.loop-at.at = length-take-le c.loop-at.at c.args.bytes.now c.loop-at.invariant.within in
    let size : length (take c.in-Piece.len c.behind-rest.result.now) ≡ c.in-Piece.len =
    ap (λ xs. length (take c.in-Piece.len xs)) c.behind-rest.ensures ∙ length-take-le c.in-Piece.len (drop c.loop-at.at c.args.bytes.now) front.fits in
    (omega (arith, fits.line), omega (arith, fits.col))

pub loop-at-smaller : goal.loop-at-smaller
loop-at-smaller c =
    let front : IsFront c.in-Piece.len (drop c.loop-at.at c.args.bytes.now) = (subst (λ xs. IsFrontOf xs (Piece c.in-Piece.kind c.in-Piece.len)) c.behind-rest.ensures c.in-Piece.ensures).0 in
    let within : c.loop-at.at + c.in-Piece.len ≤ length c.args.bytes.now = front_within c.args.bytes.now c.loop-at.at c.in-Piece.len front in
    let more : 0 < c.in-Piece.len = front_more (drop c.loop-at.at c.args.bytes.now) c.in-Piece.len front in
    omega arith

pub loop-at-preserved : goal.loop-at-preserved
loop-at-preserved c =
    let bytes : List ℕ = c.args.bytes.now in
    let at : ℕ = c.loop-at.at in
    let n : ℕ = c.in-Piece.len in
    let is : IsFrontOf (drop at bytes) (Piece c.in-Piece.kind n) = subst (λ xs. IsFrontOf xs (Piece c.in-Piece.kind n)) c.behind-rest.ensures c.in-Piece.ensures in
    let moved : IsBehind (take at bytes ++ take n c.behind-rest.result.now) c.moved_past-cursor.result =
    subst (λ cursor. IsBehind (take at bytes ++ take n c.behind-rest.result.now) cursor) (sym c.moved_past-cursor.ensures)
    (behind_past (take n c.behind-rest.result.now) (take at bytes) c.loop-at.cursor c.loop-at.invariant.behind) in
    let front : take at bytes ++ take n c.behind-rest.result.now ≡ take (at + n) bytes = ap (λ xs. take at bytes ++ take n xs) c.behind-rest.ensures ∙ sym (take-add at n bytes) in
    let place = place_is c.args.file (take at bytes) c.loop-at.cursor c.loop-at.invariant.behind in
    let class : Option Word = option_map (λ k. class_of k (take n (drop at bytes))) c.in-Piece.kind in
    let items : c.put.new.tokens.items ≡ c.loop-at.tokens.items ++ tokens_of class at n (place_behind c.args.file (take at bytes)) =
    c.in-Ok.ensures ∙ ap (λ pos. c.loop-at.tokens.items ++ tokens_of c.piece_class-word.result at n pos) place
    ∙ ap (λ word. c.loop-at.tokens.items ++ tokens_of word at n (place_behind c.args.file (take at bytes))) (c.piece_class-word.ensures ∙ ap (λ xs. option_map (λ k. class_of k (take n xs)) c.in-Piece.kind) c.behind-rest.ensures) in
    record {
      within = front_within bytes at n is.0;
      behind = subst (λ xs. IsBehind xs c.moved_past-cursor.result) front moved;
      cuts = λ tokens rest. subst (λ ts. Cut c.args.file bytes 0 ts)
          (sym (ap (λ ts. ts ++ tokens) items ∙ append_assoc c.loop-at.tokens.items (tokens_of class at n (place_behind c.args.file (take at bytes))) tokens))
          (c.loop-at.invariant.cuts (tokens_of class at n (place_behind c.args.file (take at bytes)) ++ tokens) (cut_more c.args.file bytes at n c.in-Piece.kind tokens is rest));
      stuck = λ place code rest. c.loop-at.invariant.stuck place code (behind n is.0 rest);
    }

pub returns-clause-cut : goal.returns-clause-cut
returns-clause-cut c =
    let end : c.loop-at.at ≡ length c.args.bytes.now = omega (arith, c.loop-at.invariant.within) in
    subst (λ ts. Cut c.args.file c.args.bytes.now 0 ts) (append-nil c.loop-at.tokens.items) (c.loop-at.invariant.cuts [] (ended end))
