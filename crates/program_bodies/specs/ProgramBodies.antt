-- A program's table with bodies of its methods.
use Rattle.std.specs.Prelude.{◌≡◌, ℕ, ◌+◌, ◌<◌, ◌^◌, nat_eq, nat_lt, Option, Some, List, [], ◌∷◌, if◌then◌else◌, length, option_map, slice_index_or, slice_set}
use Rattle.std.specs.List.{position}
use Rattle.program_model.specs.declared.kinds.BodyId.{BodyId}
use Rattle.program_model.specs.declared.program.Method.{Method}
use Rattle.program_model.specs.declared.program.Program.{Program}
use Rattle.program_model.specs.declared.tree.Body.{Body}

abbrev pub body_id : ℕ → BodyId
body_id n = record { 0 = n }

-- the number of the method's body, if it has one
abbrev pub body_number : List Body → ℕ → Option BodyId
body_number bodies m = option_map body_id (position (λ b. nat_eq b.method.0 m) bodies)

-- so much is known when a method's body has been noted
abbrev pub noted : List (Option BodyId) → ℕ → BodyId → List (Option BodyId)
noted numbers m b = if nat_lt m (length numbers) then slice_set numbers m (Some b) else numbers

-- for each of the first `methods` methods the number of its body, if it has one
pub record AreBodyNumbers (bodies : List Body) (methods : ℕ) (numbers : List (Option BodyId)) : Type 0 where
  pub long : length numbers ≡ methods
  pub each : (m : ℕ) (d : Option BodyId) → m < methods → slice_index_or numbers m d ≡ body_number bodies m

abbrev pub with_body : Option BodyId → Method → Method
with_body b m = record m { body = b }

-- methods, of which the first has the number `first`, each with the number of its body
abbrev pub methods_from : List Body → ℕ → List Method → List Method
methods_from bodies first [] = []
methods_from bodies first (m ∷ ms) = with_body (body_number bodies first) m ∷ methods_from bodies (first + 1) ms

-- the table with these bodies, in this order, and no other, of which there are no more than numbers reach. Nothing else of it has
-- changed
pub record HasBodies (p : Program) (bodies : List Body) (q : Program) : Type 0 where
  pub classes : q.classes.items ≡ p.classes.items
  pub methods : q.methods.items ≡ methods_from bodies 0 p.methods.items
  pub fields : q.fields.items ≡ p.fields.items
  pub bodies_are : q.bodies.items ≡ bodies
  pub ignored : q.ignored.items ≡ p.ignored.items
  pub exact : q.exact.items ≡ p.exact.items
  pub names : q.names ≡ p.names
  pub core : q.core ≡ p.core
  pub few : length bodies < 2 ^ 32
