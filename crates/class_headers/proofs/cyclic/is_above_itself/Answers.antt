-- A class stands above itself where a class that it stands under has it right above.
use Rattle.std.proofs.Common.{◌↔◌, sym, subst, Bool, IsTrue}
use Rattle.class_names.specs.ClassNames.{rows_in}
use Rattle.class_headers.specs.SuperTypes.{IsAboveItself}
use Rattle.class_headers.proofs.CycleLemmas.{closes_law}
use Rattle.class_headers.proofs.cyclic.is_above_itself.Goals as goal

pub returns : goal.returns
returns c =
    let P : Bool → Type 0 = λ b. IsTrue b ↔ IsAboveItself (rows_in c.args.direct.now) c.args.class in
    subst P (sym c.closes.ensures) (closes_law (rows_in c.args.direct.now) c.args.found.now c.args.class c.requires)
