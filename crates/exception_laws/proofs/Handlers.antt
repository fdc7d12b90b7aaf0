-- What becomes of an exception that is on its way out, by what is left to run behind it; and which classes of exceptions what is left
-- to run may throw.
use Rattle.std.proofs.Common.{◌≡◌, ◌∙◌, ◌++◌, ◌∷◌, [], List, Bool, true, false, refl, ap}
use Rattle.std.specs.Prelude.{◌&&◌, not, flat_map, cond}
use Rattle.std.specs.List.{list_all, list_any}
use Rattle.program_model.specs.declared.kinds.ClassId.{ClassId}
use Rattle.program_model.specs.declared.program.Program.{Program}
use Rattle.program_model.specs.declared.tree.Body.{Body}
use Rattle.program_model.specs.Lookups.{statement_at}
use Rattle.control_actions.specs.declared.action.Action.{Action}
use Rattle.control_actions.specs.declared.action.Action.TheVariants as actions
use Rattle.control_actions.specs.declared.action.Completion.{Completion}
use Rattle.control_actions.specs.declared.action.Completion.TheVariants as completions
use Rattle.control_actions.specs.declared.item.Condition.{Condition}
use Rattle.control_actions.specs.declared.item.Condition.TheVariants as conditions
use Rattle.java_control.specs.Exceptions.{clauses_in, declared_exceptions}
use Rattle.java_control.specs.Remaining.{Todo, Todos, Do, Ev, Act, Cond, NullFork, BoolFork, LoopEnd, For, Leave, Catch, Fin, Close, Finish, Supp, Out, Ended, nil, cons, todos}
use Rattle.accepted_programs.specs.Completions.{completion}
use Rattle.accepted_programs.specs.Exceptions.{expression_exceptions, is_caught, statement_exceptions, throws_clause}
use Rattle.accepted_programs.proofs.Lists.{None', and_both, and_one, and_second_false, and_two, left, right, weaker}

-- ---- exceptions on their way out

-- an exception that is known by the class may get past the item
abbrev pub lets_pass : Program → Body → Todo → ClassId → Bool
lets_pass p b (Catch s d) c = not (is_caught p (clauses_in (statement_at b s)) c)
lets_pass p b (Fin f d) c = (completion b f).completes
lets_pass p b (Do s d) c = true
lets_pass p b (Ev e d) c = true
lets_pass p b (Act a pos) c = true
lets_pass p b (Cond x d y z) c = true
lets_pass p b (NullFork pos d y z) c = true
lets_pass p b (BoolFork pos d y z) c = true
lets_pass p b (LoopEnd w d) c = true
lets_pass p b (For w d) c = true
lets_pass p b (Leave x pos) c = true
lets_pass p b (Close r d) c = true
lets_pass p b (Finish q d f) c = true
lets_pass p b (Supp q d s) c = true
lets_pass p b (Out q) c = true
lets_pass p b Ended c = true

-- it may get out of all of these, and is one that the test finds
abbrev pub gets_out : Program → Body → (ClassId → Bool) → List Todo → ClassId → Bool
gets_out p b u [] c = u c
gets_out p b u (x ∷ k) c = lets_pass p b x c && gets_out p b u k c

pub out_of_more : (p : Program) (b : Body) (u : ClassId → Bool) (xs k : List Todo) (c : ClassId) → gets_out p b u k c ≡ false → gets_out p b u (xs ++ k) c ≡ false
out_of_more p b u [] k c h = h
out_of_more p b u (x ∷ xs) k c h = and_second_false (lets_pass p b x c) (gets_out p b u (xs ++ k) c) (out_of_more p b u xs k c h)

pub not_found : (p : Program) (b : Body) (u : ClassId → Bool) (k : List Todo) (c : ClassId) → u c ≡ false → gets_out p b u k c ≡ false
not_found p b u [] c h = h
not_found p b u (x ∷ k) c h = and_second_false (lets_pass p b x c) (gets_out p b u k c) (not_found p b u k c h)

-- ---- what items throw

-- the class of the exception that is on its way out
abbrev pub class_out : Completion → List ClassId
class_out (completions.Throw d t pos) = t ∷ []
class_out (completions.Break pos) = []
class_out (completions.Continue pos) = []
class_out (completions.Return pos) = []
class_out (completions.ReturnValue d pos) = []

abbrev pub condition_exceptions : Program → Body → Condition → List ClassId
condition_exceptions p b (conditions.Of e) = expression_exceptions p b e
condition_exceptions p b (conditions.Absent pos) = []

abbrev mutual
  pub thrown : Program → Body → Todo → List ClassId
  thrown p b (Do s d) = statement_exceptions p b s
  thrown p b (Ev e d) = expression_exceptions p b e
  thrown p b (Act a pos) = declared_exceptions p a
  thrown p b (Cond c d x y) = condition_exceptions p b c ++ (thrown_in p b x ++ thrown_in p b y)
  thrown p b (NullFork pos d x y) = thrown_in p b x ++ thrown_in p b y
  thrown p b (BoolFork pos d x y) = thrown_in p b x ++ thrown_in p b y
  thrown p b (LoopEnd w d) = statement_exceptions p b w
  thrown p b (For w d) = statement_exceptions p b w
  thrown p b (Leave x pos) = []
  thrown p b (Catch s d) = flat_map (λ c. statement_exceptions p b c.block) (clauses_in (statement_at b s))
  thrown p b (Fin f d) = statement_exceptions p b f
  thrown p b (Close r d) = throws_clause p r.close
  thrown p b (Finish q d f) = cond (completion b f).completes (class_out q) []
  thrown p b (Supp q d s) = class_out q
  thrown p b (Out q) = class_out q
  thrown p b Ended = []

  pub thrown_in : Program → Body → Todos → List ClassId
  thrown_in p b nil = []
  thrown_in p b (cons x xs) = thrown p b x ++ thrown_in p b xs

abbrev pub all_thrown : Program → Body → List Todo → List ClassId
all_thrown p b xs = flat_map (thrown p b) xs

pub listed : (p : Program) (b : Body) (xs : Todos) → all_thrown p b (todos xs) ≡ thrown_in p b xs
listed p b nil = refl
listed p b (cons x xs) = ap (λ ys. thrown p b x ++ ys) (listed p b xs)

-- ---- forms of items

-- the action is no end of the frame, and, where this is asked for, no `throw`
abbrev pub is_plain : Bool → Action → Bool
is_plain z (actions.End q) = false
is_plain z (actions.Raise d c) = not z
is_plain z actions.Skip = true
is_plain z (actions.Copy x y) = true
is_plain z (actions.Move x y) = true
is_plain z (actions.Plain x v) = true
is_plain z (actions.Drop x) = true
is_plain z (actions.Settle d q) = true
is_plain z (actions.Enter i x d e) = true
is_plain z (actions.Test d) = true
is_plain z (actions.Op k d n) = true
is_plain z (actions.Get f d t) = true
is_plain z (actions.Put f d t) = true
is_plain z (actions.PutOwn f d) = true
is_plain z (actions.Cast t d) = true
is_plain z (actions.Call m d n form) = true
is_plain z (actions.New m d n) = true
is_plain z (actions.Super m d n) = true

abbrev mutual
  -- the item is no `finally` that has begun, and does not end the frame; where `z` is asked for, it is a part of an expression
  pub fits : Bool → Todo → Bool
  fits z (Act a pos) = is_plain z a
  fits z (Cond c d x y) = fit z x && fit z y
  fits z (NullFork pos d x y) = fit z x && fit z y
  fits z (BoolFork pos d x y) = fit z x && fit z y
  fits z (Do s d) = not z
  fits z (Ev e d) = true
  fits z (LoopEnd w d) = not z
  fits z (For w d) = not z
  fits z (Leave x pos) = not z
  fits z (Catch s d) = not z
  fits z (Fin f d) = not z
  fits z (Close r d) = not z
  fits z (Finish q d f) = false
  fits z (Supp q d s) = not z
  fits z (Out q) = not z
  fits z Ended = not z

  pub fit : Bool → Todos → Bool
  fit z nil = true
  fit z (cons x xs) = fits z x && fit z xs

pub all_fit : (z : Bool) (xs : Todos) → fit z xs ≡ true → list_all (fits z) (todos xs) ≡ true
all_fit z nil h = refl
all_fit z (cons x xs) h = and_both (fits z x) (list_all (fits z) (todos xs)) (and_one (fits z x) (fit z xs) h) (all_fit z xs (and_two (fits z x) (fit z xs) h))

-- the item does not end the frame
abbrev pub goes_on : Todo → Bool
goes_on (Finish q d f) = true
goes_on (Act a pos) = fits false (Act a pos)
goes_on (Cond c d x y) = fits false (Cond c d x y)
goes_on (NullFork pos d x y) = fits false (NullFork pos d x y)
goes_on (BoolFork pos d x y) = fits false (BoolFork pos d x y)
goes_on (Do s d) = true
goes_on (Ev e d) = true
goes_on (LoopEnd w d) = true
goes_on (For w d) = true
goes_on (Leave x pos) = true
goes_on (Catch s d) = true
goes_on (Fin f d) = true
goes_on (Close r d) = true
goes_on (Supp q d s) = true
goes_on (Out q) = true
goes_on Ended = true

fitting_goes_on : (x : Todo) → fits false x ≡ true → goes_on x ≡ true
fitting_goes_on (Finish q d f) h = refl
fitting_goes_on (Act a pos) h = h
fitting_goes_on (Cond c d x y) h = h
fitting_goes_on (NullFork pos d x y) h = h
fitting_goes_on (BoolFork pos d x y) h = h
fitting_goes_on (Do s d) h = refl
fitting_goes_on (Ev e d) h = refl
fitting_goes_on (LoopEnd w d) h = refl
fitting_goes_on (For w d) h = refl
fitting_goes_on (Leave x pos) h = refl
fitting_goes_on (Catch s d) h = refl
fitting_goes_on (Fin f d) h = refl
fitting_goes_on (Close r d) h = refl
fitting_goes_on (Supp q d s) h = refl
fitting_goes_on (Out q) h = refl
fitting_goes_on Ended h = refl

-- ---- what is left to run throws nothing that the test finds

-- no exception that the item throws gets out and is found
abbrev pub IsSafeItem : Program → Body → (ClassId → Bool) → Todo → List Todo → Type 0
IsSafeItem p b u x k = None' (gets_out p b u k) (thrown p b x) × (goes_on x ≡ true)

abbrev pub IsSafe : Program → Body → (ClassId → Bool) → List Todo → Type 0
IsSafe p b u [] = Unit {0}
IsSafe p b u (x ∷ k) = IsSafeItem p b u x k × IsSafe p b u k

-- these items may come first
abbrev pub IsSafeFront : Program → Body → (ClassId → Bool) → List Todo → List Todo → Type 0
IsSafeFront p b u xs k = None' (gets_out p b u k) (all_thrown p b xs) × (list_all (fits false) xs ≡ true)

pub in_front : (p : Program) (b : Body) (u : ClassId → Bool) (xs k : List Todo) → IsSafeFront p b u xs k → IsSafe p b u k → IsSafe p b u (xs ++ k)
in_front p b u [] k h safe = safe
in_front p b u (x ∷ xs) k h safe =
    let v : ClassId → Bool = gets_out p b u k in
    let here : None' v (thrown p b x) = left v (thrown p b x) (all_thrown p b xs) h.0 in
    let rest : IsSafeFront p b u xs k = (right v (thrown p b x) (all_thrown p b xs) h.0, and_two (fits false x) (list_all (fits false) xs) h.1) in
    ((weaker v (gets_out p b u (xs ++ k)) (λ c. out_of_more p b u xs k c) (thrown p b x) here, fitting_goes_on x (and_one (fits false x) (list_all (fits false) xs) h.1)), in_front p b u xs k rest safe)

pub in_front_of : (p : Program) (b : Body) (u : ClassId → Bool) (xs : Todos) (k : List Todo) → None' (gets_out p b u k) (thrown_in p b xs) → fit false xs ≡ true → IsSafe p b u k → IsSafe p b u (todos xs ++ k)
in_front_of p b u xs k h on safe = in_front p b u (todos xs) k (ap (list_any (gets_out p b u k)) (listed p b xs) ∙ h, all_fit false xs on) safe
