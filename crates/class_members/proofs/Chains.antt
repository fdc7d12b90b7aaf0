-- A loop that goes from a class to its super class.
use Rattle.std.proofs.Common.{◌≡◌, ℕ, suc, ◌+◌, ◌-◌, ◌<◌, ◌≤◌, [], ◌∷◌, Option, Some, None, refl, arith}
use Rattle.program_model.specs.declared.kinds.ClassId.{ClassId}
use Rattle.program_model.specs.declared.program.Program.{Program}
use Rattle.program_model.specs.Lookups.{class_at}
use Rattle.program_model.specs.Overrides.{chain_behind, chain_of, super_in}

pub chain_more : (p : Program) (c : ClassId) (n i : ℕ) → i < n → chain_of p (n - i) c ≡ c ∷ chain_behind (super_in (class_at p c)) (chain_of p (n - (i + 1)))
chain_more p c n i h = let e : n - i ≡ suc (n - (i + 1)) = omega arith in rw e refl

pub chain_done : (p : Program) (x : Option ClassId) (n i : ℕ) → n ≤ i → chain_behind x (chain_of p (n - i)) ≡ []
chain_done p None n i h = refl
chain_done p (Some c) n i h = let e : n - i ≡ 0 = omega arith in rw e refl
