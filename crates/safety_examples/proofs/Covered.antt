-- A program covers its checked exceptions, where each of its bodies is found to.
use Rattle.std.proofs.Common.{◌≡◌, ◌∙◌, ℕ, zero, suc, Bool, false, Some, None, List, [], ◌∷◌, slice_get, sym, ap}
use Rattle.std.specs.List.{list_any}
use Rattle.program_model.specs.declared.program.Program.{Program}
use Rattle.program_model.specs.declared.tree.Body.{Body}
use Rattle.accepted_programs.specs.Coverage.{CoversItsExceptions, throws_undeclared}
use Rattle.accepted_programs.proofs.Lists.{None', or_first, or_second}

none_at : (v : Body → Bool) (bs : List Body) → None' v bs → (n : ℕ) (b : Body) → slice_get bs n ≡ Some b → v b ≡ false
none_at v [] h n b at = absurd (let no : None ≡ Some b = at in cc)
none_at v (x ∷ xs) h zero b at = let same : x ≡ b = cc in ap v (sym same) ∙ or_first (v x) (list_any v xs) h
none_at v (x ∷ xs) h (suc n) b at = none_at v xs (or_second (v x) (list_any v xs) h) n b at

pub covers_by : (p : Program) → list_any (throws_undeclared p) p.bodies.items ≡ false → CoversItsExceptions p
covers_by p none n b at = none_at (throws_undeclared p) p.bodies.items none n.0 b at
