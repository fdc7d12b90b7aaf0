-- The names of interest of a well formed program are names that a set of names has room for.
use Rattle.std.proofs.Common.{◌≡◌, ℕ, ◌<◌, ◌≤◌, Bool, true, false, ◌&&◌, Option, Some, None, length, refl, sym, ap, ◌∙◌, arith}
use Rattle.std.specs.Prelude.{nat_lt, if◌then◌else◌}
use Rattle.std.proofs.lemmas.Bool.{and_parts}
use Rattle.std.proofs.lemmas.Bool.Decides.{Decides-ltb}
use Rattle.rlc_base.specs.declared.name_id.NameId.{NameId}
use Rattle.rlc_base.specs.Names.{place_of}
use Rattle.program_model.specs.declared.program.Program.{Program}
use Rattle.must_call_sets.specs.WellFormed.{HasSmallInterests, IsWellFormed, is_plain}

name_number : Option NameId → ℕ
name_number None = 0
name_number (Some n) = n.0

chosen : (b : Bool) (k : ℕ) (n : NameId) → (b ≡ true → k < 128) → (if b then Some (record { 0 = k }) else None) ≡ Some n → n.0 < 128
unfolding name_number
chosen true k n small same = let number : k ≡ n.0 = ap name_number same in let below : k < 128 = small refl in omega arith
chosen false k n small same = cc

-- the table of a program's names holds 128 names at most
pub small_interests : (p : Program) → length p.names ≤ 128 → IsWellFormed p → HasSmallInterests p
small_interests p few good m x n found named =
    chosen (is_plain x && nat_lt (place_of p.names x.name) (length p.names)) (place_of p.names x.name) n
    (λ both. let held : place_of p.names x.name < length p.names = (Decides-ltb (place_of p.names x.name) (length p.names)).0 (and_parts _ _ both).1 in omega arith)
    (sym (good.interests m x found) ∙ named)
