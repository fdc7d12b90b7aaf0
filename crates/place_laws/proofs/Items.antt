-- Items whose actions are well typed, also in the lists that they hold.
use Rattle.std.proofs.Common.{ℕ, ◌-◌, ◌<◌, List, [], ◌∷◌, ◌++◌, All, length, reverse, flat_map, sym, ap, subst, arith}
use Rattle.std.proofs.lemmas.List.{get_or-reverse, length-reverse}
use Rattle.std.proofs.lemmas.List.Elements.{All-head, All-tail}
use Rattle.program_model.specs.declared.program.Program.{Program}
use Rattle.program_model.specs.declared.tree.Body.{Body}
use Rattle.java_control.specs.Remaining.{Todo, Todos, nil, cons, todos, Do, Ev, Act, Cond, NullFork, BoolFork, LoopEnd, For, Leave, Catch, Fin, Close, Finish, Supp, Out, Ended}
use Rattle.control_actions.specs.declared.action.Action.{Action}
use Rattle.place_laws.specs.Typed.{GivesResult, MovesLocals, NamesMembers}

abbrev pub IsWellTyped : Program → Body → Action → Type 0
IsWellTyped p b a = MovesLocals a × NamesMembers p b a

abbrev mutual
  pub IsGood : Program → Body → Todo → Type 0
  IsGood p b (Act a pos) = IsWellTyped p b a
  IsGood p b (Cond c d x y) = AreGood p b x × AreGood p b y
  IsGood p b (NullFork pos d x y) = AreGood p b x × AreGood p b y
  IsGood p b (BoolFork pos d x y) = AreGood p b x × AreGood p b y
  IsGood p b (Close r d) = Unit {0}
  IsGood p b (Do s d) = Unit {0}
  IsGood p b (Ev e d) = Unit {0}
  IsGood p b (LoopEnd w d) = Unit {0}
  IsGood p b (For w d) = Unit {0}
  IsGood p b (Leave x pos) = Unit {0}
  IsGood p b (Catch s d) = Unit {0}
  IsGood p b (Fin f d) = Unit {0}
  IsGood p b (Finish c d f) = GivesResult p b c
  IsGood p b (Supp c d s) = GivesResult p b c
  IsGood p b (Out c) = GivesResult p b c
  IsGood p b Ended = Unit {0}

  pub AreGood : Program → Body → Todos → Type 0
  AreGood p b nil = Unit {0}
  AreGood p b (cons x xs) = IsGood p b x × AreGood p b xs

abbrev pub AllGood : Program → Body → List Todo → Type 0
AllGood p b [] = Unit {0}
AllGood p b (x ∷ xs) = IsGood p b x × AllGood p b xs

pub good_todos : (p : Program) (b : Body) (xs : Todos) → AreGood p b xs → AllGood p b (todos xs)
good_todos p b nil good = tt
good_todos p b (cons x xs) good = (good.0, good_todos p b xs good.1)

pub good_both : (p : Program) (b : Body) (xs ys : List Todo) → AllGood p b xs → AllGood p b ys → AllGood p b (xs ++ ys)
good_both p b [] ys first second = second
good_both p b (x ∷ xs) ys first second = (first.0, good_both p b xs ys first.1 second)

pub good_flat : {X : Type 0} (p : Program) (b : Body) (f : X → List Todo) (P : X → Type 0) → ((x : X) → P x → AllGood p b (f x)) → (xs : List X) → All P xs → AllGood p b (flat_map f xs)
good_flat p b f P each [] all = tt
good_flat p b f P each (x ∷ xs) all = good_both p b (f x) (flat_map f xs) (each x (All-head P x xs all)) (good_flat p b f P each xs (All-tail P x xs all))

pub all_reversed : {X : Type 0} (P : X → Type 0) (xs : List X) → All P xs → All P (reverse xs)
all_reversed P xs all k d below =
    let within : k < length xs = omega (arith, below, ap (λ (n : ℕ). n) (length-reverse xs)) in
    subst P (sym (get_or-reverse xs k d within)) (all (length xs - 1 - k) d (omega (arith, within)))
