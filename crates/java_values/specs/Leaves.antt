-- The last step of an action that makes one value.
use Rattle.std.specs.Prelude.{List, [], ◌∷◌}
use Rattle.java_values.specs.Values.{Kind, Value_of, ValueTree}
use Rattle.java_values.specs.Kinds.{◌▷◌, bottom, put}
use Rattle.java_values.specs.Outcomes.{Outcome, Made, ◌>>=◌}

-- what was made, a value of this kind, on the stack
abbrev pub left : (k : Kind) → Outcome (Value_of k) → List ValueTree → Outcome (List ValueTree)
left k o s = (o >>= (λ e. Made (e ▷ bottom))) >>= (λ xs. Made (put (k ∷ []) xs s))
