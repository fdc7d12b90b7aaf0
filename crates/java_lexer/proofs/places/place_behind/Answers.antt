use Rattle.std.proofs.Common.{[], false, sym, subst}
use Rattle.java_lexer.proofs.PlaceLaws.{place_is, behind_past, behind_nothing, IsBehind}
use Rattle.java_lexer.proofs.places.place_behind.Goals as goal

pub returns : goal.returns
returns c =
    let behind : IsBehind c.args.text.now c.moved_past-cursor.result =
    subst (λ cursor. IsBehind c.args.text.now cursor) (sym c.moved_past-cursor.ensures) (behind_past c.args.text.now [] (record { line = 1; col = 1; after_return = false }) behind_nothing) in
    place_is c.args.file c.args.text.now c.moved_past-cursor.result behind
