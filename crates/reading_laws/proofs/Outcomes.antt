-- What holds of what an action makes, where it makes something.
use Rattle.std.specs.Prelude.{◌≡◌, ℕ, ◌+◌, nat_lt, Bool, true, false, if◌then◌else◌}
use Rattle.std.proofs.Common.{subst, arith}
use Rattle.java_values.specs.NestedTrees.{Nested}
use Rattle.java_values.specs.Outcomes.{Outcome, Made, TooDeep, Misfit, ◌>>=◌, deeper, node}

pub data IfMade (A : Type 0) (P : A → Type 0) : Outcome A → Type 0 where
  made : (a : A) → P a → IfMade A P (Made a)
  deep : IfMade A P TooDeep
  misfit : IfMade A P Misfit

pub then_made : {A B : Type 0} {P : A → Type 0} {Q : B → Type 0} (o : Outcome A) (g : A → Outcome B) → IfMade A P o → ((a : A) → P a → IfMade B Q (g a)) → IfMade B Q (o >>= g)
then_made (Made a) g (made b h) k = k a h
then_made TooDeep g h k = deep
then_made Misfit g h k = misfit

pub weaker : {A : Type 0} {P Q : A → Type 0} (o : Outcome A) → ((a : A) → P a → Q a) → IfMade A P o → IfMade A Q o
weaker (Made a) k (made b h) = made a (k a h)
weaker TooDeep k h = deep
weaker Misfit k h = misfit

-- if it makes something, then this
pub taken_made : {A : Type 0} {P : A → Type 0} (o : Outcome A) (a : A) → IfMade A P o → o ≡ Made a → P a
taken_made {P = P} o a h e = go o a h e
  where
    same : {A : Type 0} (x y : A) → Made x ≡ Made y → x ≡ y
    same x y e = cc

    go : (o : Outcome _) (a : _) → IfMade _ P o → o ≡ Made a → P a
    go o a (made b h) e = subst P (same b a e) h
    go o a deep e = let n : ⊥ = grind arith in absurd n
    go o a misfit e = let n : ⊥ = grind arith in absurd n

-- a node is its tree, if it is not too deep
pub if_node : {A : Type 0} {P : Nested A → Type 0} (limit depth : ℕ) (tree : A) → ((d : ℕ) → P (record { tree = tree; depth = d })) → IfMade (Nested A) P (node limit depth tree)
if_node {A = A} {P = P} limit depth tree k = go (nat_lt depth limit) (depth + 1)
  where
    go : (b : Bool) (d : ℕ) → IfMade (Nested A) P ((if b then Made d else TooDeep) >>= (λ d. Made (record { tree = tree; depth = d })))
    go true d = made _ (k d)
    go false d = deep

pub then_node : {A B : Type 0} {Q : B → Type 0} (limit depth : ℕ) (tree : A) (g : Nested A → Outcome B) → ((d : ℕ) → IfMade B Q (g (record { tree = tree; depth = d }))) → IfMade B Q (node limit depth tree >>= g)
then_node {A = A} {B = B} {Q = Q} limit depth tree g k = go (nat_lt depth limit) (depth + 1)
  where
    go : (b : Bool) (d : ℕ) → IfMade B Q (((if b then Made d else TooDeep) >>= (λ d. Made (record { tree = tree; depth = d }))) >>= g)
    go true d = k d
    go false d = deep

pub then_deeper : {B : Type 0} {Q : B → Type 0} (limit depth : ℕ) (g : ℕ → Outcome B) → ((d : ℕ) → IfMade B Q (g d)) → IfMade B Q (deeper limit depth >>= g)
then_deeper {B = B} {Q = Q} limit depth g k = go (nat_lt depth limit) (depth + 1)
  where
    go : (b : Bool) (d : ℕ) → IfMade B Q ((if b then Made d else TooDeep) >>= g)
    go true d = k d
    go false d = deep

pub then_twice : {A B C : Type 0} {P : A → Type 0} {Q : C → Type 0} (o : Outcome A) (g : A → Outcome B) (f : B → Outcome C) → IfMade A P o → ((a : A) → P a → IfMade C Q (g a >>= f)) → IfMade C Q ((o >>= g) >>= f)
then_twice (Made a) g f (made b h) k = k a h
then_twice TooDeep g f h k = deep
then_twice Misfit g f h k = misfit

pub node_twice : {A B C : Type 0} {Q : C → Type 0} (limit depth : ℕ) (tree : A) (g : Nested A → Outcome B) (f : B → Outcome C) → ((d : ℕ) → IfMade C Q (g (record { tree = tree; depth = d }) >>= f)) → IfMade C Q ((node limit depth tree >>= g) >>= f)
node_twice {A = A} {C = C} {Q = Q} limit depth tree g f k = go (nat_lt depth limit) (depth + 1)
  where
    go : (b : Bool) (d : ℕ) → IfMade C Q ((((if b then Made d else TooDeep) >>= (λ d. Made (record { tree = tree; depth = d }))) >>= g) >>= f)
    go true d = k d
    go false d = deep

pub deeper_thrice : {A B C : Type 0} {Q : C → Type 0} (limit depth : ℕ) (e : ℕ → Outcome A) (g : A → Outcome B) (f : B → Outcome C) → ((d : ℕ) → IfMade C Q ((e d >>= g) >>= f)) → IfMade C Q (((deeper limit depth >>= e) >>= g) >>= f)
deeper_thrice {C = C} {Q = Q} limit depth e g f k = go (nat_lt depth limit) (depth + 1)
  where
    go : (b : Bool) (d : ℕ) → IfMade C Q ((((if b then Made d else TooDeep) >>= e) >>= g) >>= f)
    go true d = k d
    go false d = deep
