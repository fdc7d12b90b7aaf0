-- Steps that are found among the triples of a table.
use Rattle.std.proofs.Common.{◌≡◌, refl, Bool, true, false, List, [], ◌∷◌, map}
use Rattle.std.specs.List.{find}
use Rattle.std.specs.Option.{option_map}
use Rattle.java_control.specs.Changes.{step_in}
use Rattle.java_control.specs.Control.{Step}
use Rattle.control_actions.specs.declared.cell.Cell.{Cell}
use Rattle.control_actions.specs.declared.triple.Triple.{Triple}

-- the first triple whose step passes the test means the first step that does
pub find_meant : (test : Step → Bool) (cells : List Cell) (steps : List Triple) → option_map (step_in cells) (find (λ s. test (step_in cells s)) steps) ≡ find test (map (step_in cells) steps)
find_meant test cells [] = refl
find_meant test cells (s ∷ ss) = go (test (step_in cells s)) refl (find_meant test cells ss)
  where
    go : (b : Bool) → test (step_in cells s) ≡ b → option_map (step_in cells) (find (λ x. test (step_in cells x)) ss) ≡ find test (map (step_in cells) ss)
        → option_map (step_in cells) (find (λ x. test (step_in cells x)) (s ∷ ss)) ≡ find test (map (step_in cells) (s ∷ ss))
    go true e rest = rw e refl
    go false e rest = rw e rest
