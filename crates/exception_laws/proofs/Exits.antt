-- Steps of actions, and of what is on its way out.
use Rattle.std.proofs.Common.{◌≡◌, ◌∙◌, ◌⊎◌, ◌+◌, ◌++◌, ◌∷◌, [], ℕ, List, Bool, true, false, map, inl, inr, refl, sym, ap, subst}
use Rattle.std.specs.Prelude.{◌&&◌, cond, flat_map, not, if◌then◌else◌}
use Rattle.std.specs.List.{list_any}
use Rattle.program_model.specs.declared.kinds.ClassId.{ClassId}
use Rattle.program_model.specs.declared.kinds.StmtId.{StmtId}
use Rattle.program_model.specs.declared.program.Program.{Program}
use Rattle.program_model.specs.declared.tree.Body.{Body}
use Rattle.program_model.specs.declared.tree.CatchClause.{CatchClause}
use Rattle.program_model.specs.Lookups.{expression_at, statement_at}
use Rattle.rlc_base.specs.declared.place.Pos.{Pos}
use Rattle.control_actions.specs.declared.action.Action.{Action}
use Rattle.control_actions.specs.declared.action.Action.TheVariants as actions
use Rattle.control_actions.specs.declared.action.Completion.{Completion}
use Rattle.control_actions.specs.declared.action.Completion.TheVariants as completions
use Rattle.control_actions.specs.declared.action.Edge.TheVariants as edges
use Rattle.control_actions.specs.declared.item.Closing.{Closing}
use Rattle.java_control.specs.Control.{ways}
use Rattle.java_control.specs.Completions.{at_catch, at_depth, at_loop, at_supp, ends, out}
use Rattle.java_control.specs.Exceptions.{action_ways, caught, clauses_in, enters, exceptions_of, may_take, takes_wholly, throws}
use Rattle.java_control.specs.Exceptions as control
use Rattle.java_control.specs.Statements.{close_front}
use Rattle.java_control.specs.Remaining.{Todo, Do, Ev, Act, Cond, NullFork, BoolFork, LoopEnd, For, Leave, Catch, Fin, Close, Finish, Supp, Out, Ended, skip, way}
use Rattle.accepted_programs.specs.Completions.{completion}
use Rattle.accepted_programs.specs.Exceptions.{is_caught, statement_exceptions, throws_clause}
use Rattle.accepted_programs.specs.TreeOrder.{PartsComeFirst}
use Rattle.exception_laws.proofs.Finishes.{AtEnd, Finishes, finishes_front, finishes_weaker}
use Rattle.exception_laws.proofs.Handlers.{IsSafe, class_out, gets_out, in_front, is_plain}
use Rattle.accepted_programs.proofs.Lists.{None', alone, left, or_first, or_neither, or_second, right}
use Rattle.exception_laws.proofs.Outcomes.{Acts, Arrival, OneClause, Resumes, Via, abruptly, after, after_all, breaking, breaks, continues, continuing, goes, normally, once, plainly, throws as thrown_away}
use Rattle.exception_laws.proofs.Steps.{EachWay, EndsWell, Keeps, KeepsWay, condition_step, done, each_joined, expression_step, for_step, fork_step, loop_step, skipped, statement_step}
use Rattle.exception_laws.proofs.Unchecked.{FindsNoUnchecked, action_none}

-- ---- actions

no_end_is_plain : {X : Type 0} → false ≡ true → X
no_end_is_plain h = absurd (let no : false ≡ true = h in cc)

never_ends : (u : ClassId → Bool) (a : Action) → is_plain false a ≡ true → EndsWell u a
never_ends u (actions.End q) h = no_end_is_plain h
never_ends u (actions.Raise d c) h = tt
never_ends u actions.Skip h = tt
never_ends u (actions.Copy x y) h = tt
never_ends u (actions.Move x y) h = tt
never_ends u (actions.Plain x v) h = tt
never_ends u (actions.Drop x) h = tt
never_ends u (actions.Settle d q) h = tt
never_ends u (actions.Enter i x d e) h = tt
never_ends u (actions.Test d) h = tt
never_ends u (actions.Op k d n) h = tt
never_ends u (actions.Get f d t) h = tt
never_ends u (actions.Put f d t) h = tt
never_ends u (actions.PutOwn f d) h = tt
never_ends u (actions.Cast t d) h = tt
never_ends u (actions.Call m d n form) h = tt
never_ends u (actions.New m d n) h = tt
never_ends u (actions.Super m d n) h = tt

acts_away : (a : Action) (q : Arrival → Type 0) → q abruptly → Acts a q (q normally)
acts_away (actions.Raise d c) q r = r
acts_away (actions.End e) q r = inr r
acts_away actions.Skip q r = inr r
acts_away (actions.Copy x y) q r = inr r
acts_away (actions.Move x y) q r = inr r
acts_away (actions.Plain x v) q r = inr r
acts_away (actions.Drop x) q r = inr r
acts_away (actions.Settle d e) q r = inr r
acts_away (actions.Enter i x d e) q r = inr r
acts_away (actions.Test d) q r = inr r
acts_away (actions.Op k d n) q r = inr r
acts_away (actions.Get f d t) q r = inr r
acts_away (actions.Put f d t) q r = inr r
acts_away (actions.PutOwn f d) q r = inr r
acts_away (actions.Cast t d) q r = inr r
acts_away (actions.Call m d n form) q r = inr r
acts_away (actions.New m d n) q r = inr r
acts_away (actions.Super m d n) q r = inr r

-- an action that is no `throw` goes on
goes_behind : (p : Program) (b : Body) (u : ClassId → Bool) (a : Action) (pos : Pos) (k : List Todo) → ((q : Arrival → Type 0) → q normally → Acts a q (q normally)) → is_plain false a ≡ true → Keeps p b u (Act a pos ∷ k) → EachWay (KeepsWay p b u) (way a edges.Go k ∷ [])
goes_behind p b u a pos k less on h = (record { to = done p b u (Act a pos) k less h; ends = never_ends u a on }, tt)

action_goes : (p : Program) (b : Body) (u : ClassId → Bool) (a : Action) (pos : Pos) (k : List Todo) → is_plain false a ≡ true → Keeps p b u (Act a pos ∷ k) → EachWay (KeepsWay p b u) (control.goes_on a k)
action_goes p b u (actions.Raise d c) pos k on h = tt
action_goes p b u (actions.End e) pos k on h = no_end_is_plain on
action_goes p b u actions.Skip pos k on h = goes_behind p b u actions.Skip pos k (λ q r. inl r) on h
action_goes p b u (actions.Copy x y) pos k on h = goes_behind p b u (actions.Copy x y) pos k (λ q r. inl r) on h
action_goes p b u (actions.Move x y) pos k on h = goes_behind p b u (actions.Move x y) pos k (λ q r. inl r) on h
action_goes p b u (actions.Plain x v) pos k on h = goes_behind p b u (actions.Plain x v) pos k (λ q r. inl r) on h
action_goes p b u (actions.Drop x) pos k on h = goes_behind p b u (actions.Drop x) pos k (λ q r. inl r) on h
action_goes p b u (actions.Settle d e) pos k on h = goes_behind p b u (actions.Settle d e) pos k (λ q r. inl r) on h
action_goes p b u (actions.Enter i x d e) pos k on h = goes_behind p b u (actions.Enter i x d e) pos k (λ q r. inl r) on h
action_goes p b u (actions.Test d) pos k on h = goes_behind p b u (actions.Test d) pos k (λ q r. inl r) on h
action_goes p b u (actions.Op o d n) pos k on h = goes_behind p b u (actions.Op o d n) pos k (λ q r. inl r) on h
action_goes p b u (actions.Get f d t) pos k on h = goes_behind p b u (actions.Get f d t) pos k (λ q r. inl r) on h
action_goes p b u (actions.Put f d t) pos k on h = goes_behind p b u (actions.Put f d t) pos k (λ q r. inl r) on h
action_goes p b u (actions.PutOwn f d) pos k on h = goes_behind p b u (actions.PutOwn f d) pos k (λ q r. inl r) on h
action_goes p b u (actions.Cast t d) pos k on h = goes_behind p b u (actions.Cast t d) pos k (λ q r. inl r) on h
action_goes p b u (actions.Call m d n form) pos k on h = goes_behind p b u (actions.Call m d n form) pos k (λ q r. inl r) on h
action_goes p b u (actions.New m d n) pos k on h = goes_behind p b u (actions.New m d n) pos k (λ q r. inl r) on h
action_goes p b u (actions.Super m d n) pos k on h = goes_behind p b u (actions.Super m d n) pos k (λ q r. inl r) on h

-- exceptions of these classes are on their way out
action_throws : (p : Program) (b : Body) (u : ClassId → Bool) (a : Action) (pos : Pos) (k : List Todo) (cs : List ClassId) → None' (gets_out p b u k) cs → is_plain false a ≡ true → Keeps p b u (Act a pos ∷ k) → EachWay (KeepsWay p b u) (map (throws a pos k) cs)
action_throws p b u a pos k [] none on h = tt
action_throws p b u a pos k (c ∷ cs) none on h =
    let v : ClassId → Bool = gets_out p b u k in
    let safe : IsSafe p b u (Out (completions.Throw (control.exception_depth a) c pos) ∷ k) = ((or_neither (v c) false (or_first (v c) (list_any v cs) none) refl, refl), h.safe.1) in
    let finishes : Finishes b (λ q. q normally) (Out (completions.Throw (control.exception_depth a) c pos) ∷ k) = (tt, finishes_weaker b (λ q. Acts a q (q normally)) (λ q. q abruptly) (λ q r. acts_away a q r) k h.finishes.1) in
    (record { to = record { safe = safe; finishes = finishes }; ends = never_ends u a on }, action_throws p b u a pos k cs (or_second (v c) (list_any v cs) none) on h)

action_step : (p : Program) (b : Body) (u : ClassId → Bool) → ((k : List Todo) → FindsNoUnchecked p (gets_out p b u k)) → (a : Action) (pos : Pos) (k : List Todo) → Keeps p b u (Act a pos ∷ k) → EachWay (KeepsWay p b u) (action_ways p a pos k)
action_step p b u unchecked a pos k h =
    each_joined (KeepsWay p b u) (control.goes_on a k) (map (throws a pos k) (exceptions_of p a))
    (action_goes p b u a pos k h.safe.0.1 h)
    (action_throws p b u a pos k (exceptions_of p a) (action_none p (gets_out p b u k) (unchecked k) a h.safe.0.0) h.safe.0.1 h)

-- ---- what is on its way out

resumes_map : (c : Completion) (q r : Arrival → Type 0) → (q breaking → r breaking) → (q continuing → r continuing) → (q abruptly → r abruptly) → Resumes c q → Resumes c r
resumes_map (completions.Break pos) q r f g h z = f z
resumes_map (completions.Continue pos) q r f g h z = g z
resumes_map (completions.Return pos) q r f g h z = h z
resumes_map (completions.ReturnValue d pos) q r f g h z = h z
resumes_map (completions.Throw d t pos) q r f g h z = h z

-- in each way
resumes_all : (c : Completion) (r : Arrival → Type 0) → r breaking → r continuing → r abruptly → Resumes c r
resumes_all (completions.Break pos) r f g h = f
resumes_all (completions.Continue pos) r f g h = g
resumes_all (completions.Return pos) r f g h = h
resumes_all (completions.ReturnValue d pos) r f g h = h
resumes_all (completions.Throw d t pos) r f g h = h

-- the value at another depth changes nothing of this
depth_class : (c : Completion) (d : ℕ) → class_out (at_depth c d) ≡ class_out c
depth_class (completions.Break pos) d = refl
depth_class (completions.Continue pos) d = refl
depth_class (completions.Return pos) d = refl
depth_class (completions.ReturnValue e pos) d = refl
depth_class (completions.Throw e t pos) d = refl

depth_resumes : (c : Completion) (d : ℕ) (q : Arrival → Type 0) → Resumes (at_depth c d) q → Resumes c q
depth_resumes (completions.Break pos) d q r = r
depth_resumes (completions.Continue pos) d q r = r
depth_resumes (completions.Return pos) d q r = r
depth_resumes (completions.ReturnValue e pos) d q r = r
depth_resumes (completions.Throw e t pos) d q r = r

-- it gets past the next item, as the completion `e`
past : (p : Program) (b : Body) (u : ClassId → Bool) (c e : Completion) (y : Todo) (k : List Todo) → ((q : Arrival → Type 0) → Resumes e q → Resumes c (after b y q)) → None' (gets_out p b u k) (class_out e) → Keeps p b u (Out c ∷ y ∷ k) → Keeps p b u (Out e ∷ k)
past p b u c e y k less none h = record {
  safe = ((none, refl), h.safe.1.1);
  finishes = (tt, finishes_weaker b (λ q. Resumes c (after b y q)) (λ q. Resumes e q) less k h.finishes.1.1);
}

-- an item that lets everything pass
skips : (p : Program) (b : Body) (u : ClassId → Bool) (c : Completion) (y : Todo) (k : List Todo) → ((q : Arrival → Type 0) → Resumes c q → Resumes c (after b y q)) → None' (gets_out p b u k) (class_out c) → Keeps p b u (Out c ∷ y ∷ k) → EachWay (KeepsWay p b u) (skip (Out c ∷ k))
skips p b u c y k less none h = skipped p b u (Out c ∷ k) (past p b u c c y k less none h)

-- its value goes to another depth
settled : (p : Program) (b : Body) (u : ClassId → Bool) (c : Completion) (d : ℕ) (y : Todo) (k : List Todo) → ((q : Arrival → Type 0) → Resumes c q → Resumes c (after b y q)) → None' (gets_out p b u k) (class_out c) → Keeps p b u (Out c ∷ y ∷ k) → EachWay (KeepsWay p b u) (way (actions.Settle d c) edges.Go (Out (at_depth c d) ∷ k) ∷ [])
settled p b u c d y k less none h = (
  record {
    to = past p b u c (at_depth c d) y k (λ q r. less q (depth_resumes c d q r)) (subst (λ (cs : List ClassId). None' (gets_out p b u k) cs) (sym (depth_class c d)) none) h;
    ends = tt;
  },
  tt,
)

-- a frame ends
end_step : (p : Program) (b : Body) (u : ClassId → Bool) (c : Completion) → Keeps p b u (Out c ∷ []) → EachWay (KeepsWay p b u) (ends c)
end_step p b u (completions.Break pos) h = tt
end_step p b u (completions.Continue pos) h = tt
end_step p b u (completions.Return pos) h = (record { to = record { safe = ((refl, refl), tt); finishes = (tt, tt) }; ends = refl }, tt)
end_step p b u (completions.ReturnValue d pos) h = (record { to = record { safe = ((refl, refl), tt); finishes = (tt, tt) }; ends = refl }, tt)
end_step p b u (completions.Throw d t pos) h = (record { to = record { safe = ((refl, refl), tt); finishes = (tt, tt) }; ends = h.safe.0.0 }, tt)

loop_exit : (p : Program) (b : Body) (u : ClassId → Bool) (c : Completion) (w : StmtId) (d : ℕ) (k : List Todo) → Keeps p b u (Out c ∷ LoopEnd w d ∷ k) → EachWay (KeepsWay p b u) (at_loop c w d k)
loop_exit p b u (completions.Break pos) w d k h = skipped p b u k (record { safe = h.safe.1.1; finishes = h.finishes.1.1 })
loop_exit p b u (completions.Continue pos) w d k h = skipped p b u (LoopEnd w d ∷ k) (record { safe = h.safe.1; finishes = (tt, h.finishes.1.1) })
loop_exit p b u (completions.Return pos) w d k h = skips p b u (completions.Return pos) (LoopEnd w d) k (λ q r. r) refl h
loop_exit p b u (completions.ReturnValue e pos) w d k h = skips p b u (completions.ReturnValue e pos) (LoopEnd w d) k (λ q r. r) refl h
loop_exit p b u (completions.Throw e t pos) w d k h = skips p b u (completions.Throw e t pos) (LoopEnd w d) k (λ q r. r) h.safe.0.0 h

-- the clauses from number `i` on
clauses_step : (p : Program) (b : Body) (u : ClassId → Bool) (s : StmtId) (i : ℕ) (cs : List CatchClause) (e d : ℕ) (t : ClassId) (pos : Pos) (k : List Todo) → (is_caught p cs t ≡ false → gets_out p b u k t ≡ false) → None' (gets_out p b u k) (flat_map (λ c. statement_exceptions p b c.block) cs) → Finishes b (λ q. OneClause b cs q ⊎ q abruptly) k → IsSafe p b u k → EachWay (KeepsWay p b u) (caught p b s i cs e d t pos k)
clauses_step p b u s i [] e d t pos k past' blocks finishes safe =
    skipped p b u (Out (completions.Throw d t pos) ∷ k) (record { safe = ((or_neither (gets_out p b u k t) false (past' refl) refl, refl), safe); finishes = (tt, finishes_weaker b (λ q. ⊥ ⊎ q abruptly) (λ q. q abruptly) (λ q r. inr r) k finishes) })
clauses_step p b u s i (c ∷ cs) e d t pos k past' blocks finishes safe = step (takes_wholly p t c) refl (may_take p t c) (λ none. clauses_step p b u s (i + 1) cs e d t pos k none (right v own (flat_map (λ c. statement_exceptions p b c.block) cs) blocks) (finishes_weaker b (λ q. OneClause b (c ∷ cs) q ⊎ q abruptly) (λ q. OneClause b cs q ⊎ q abruptly) (λ q r. fewer q r) k finishes) safe)
  where
    v : ClassId → Bool
    v = gets_out p b u k

    own : List ClassId
    own = statement_exceptions p b c.block

    fewer : (q : Arrival → Type 0) → OneClause b cs q ⊎ q abruptly → OneClause b (c ∷ cs) q ⊎ q abruptly
    fewer q (inl r) = inl (inr r)
    fewer q (inr r) = inr r

    entered : KeepsWay p b u (enters b s i e d c k)
    entered = record {
      to = record {
        safe = ((left v own (flat_map (λ c. statement_exceptions p b c.block) cs) blocks, refl), ((refl, refl), safe));
        finishes = (tt, (tt, finishes_weaker b (λ q. OneClause b (c ∷ cs) q ⊎ q abruptly) (λ q. Via (completion b c.block) q) (λ q r. inl (inl r)) k finishes));
      };
      ends = tt;
    }

    others : takes_wholly p t c ≡ false → is_caught p cs t ≡ false → gets_out p b u k t ≡ false
    others is none = past' (or_neither (takes_wholly p t c) (is_caught p cs t) is none)

    step : (wholly : Bool) → takes_wholly p t c ≡ wholly → (may : Bool) → ((is_caught p cs t ≡ false → gets_out p b u k t ≡ false) → EachWay (KeepsWay p b u) (caught p b s (i + 1) cs e d t pos k)) → EachWay (KeepsWay p b u) (if wholly then enters b s i e d c k ∷ [] else (if may then enters b s i e d c k ∷ caught p b s (i + 1) cs e d t pos k else caught p b s (i + 1) cs e d t pos k))
    step true is may later = (entered, tt)
    step false is true later = (entered, later (others is))
    step false is false later = later (others is)

catch_exit : (p : Program) (b : Body) (u : ClassId → Bool) (c : Completion) (s : StmtId) (e : ℕ) (k : List Todo) → Keeps p b u (Out c ∷ Catch s e ∷ k) → EachWay (KeepsWay p b u) (at_catch c p b s e k)
catch_exit p b u (completions.Break pos) s e k h = skips p b u (completions.Break pos) (Catch s e) k (λ q r. r) refl h
catch_exit p b u (completions.Continue pos) s e k h = skips p b u (completions.Continue pos) (Catch s e) k (λ q r. r) refl h
catch_exit p b u (completions.Return pos) s e k h = skips p b u (completions.Return pos) (Catch s e) k (λ q r. inr r) refl h
catch_exit p b u (completions.ReturnValue d pos) s e k h = skips p b u (completions.ReturnValue d pos) (Catch s e) k (λ q r. inr r) refl h
catch_exit p b u (completions.Throw d t pos) s e k h = clauses_step p b u s 0 all e d t pos k past' h.safe.1.0.0 h.finishes.1.1 h.safe.1.1
  where
    all : List CatchClause
    all = clauses_in (statement_at b s)

    unless : (a x : Bool) → a ≡ false → (not a && x) ≡ false → x ≡ false
    unless a x is h = ap (λ z. not z && x) (sym is) ∙ h

    past' : is_caught p all t ≡ false → gets_out p b u k t ≡ false
    past' is = unless (is_caught p all t) (gets_out p b u k t) is (or_first (not (is_caught p all t) && gets_out p b u k t) false h.safe.0.0)

-- a `finally` begins, and `c` waits behind it
finally_exit : (p : Program) (b : Body) (u : ClassId → Bool) (c : Completion) (f : StmtId) (d : ℕ) (k : List Todo) → Keeps p b u (Out c ∷ Fin f d ∷ k) → EachWay (KeepsWay p b u) (way (actions.Settle d c) edges.Go (Do f (d + 1) ∷ Finish (at_depth c d) d f ∷ k) ∷ [])
finally_exit p b u c f d k h = (
  record {
    to = record {
      safe = ((h.safe.1.0.0, refl), ((waiting, refl), h.safe.1.1));
      finishes = (tt, (own, finishes_weaker b (λ q. Resumes c (after b (Fin f d) q)) (λ q. after b (Do f (d + 1)) (after b (Finish (at_depth c d) d f) q) normally) less k h.finishes.1.1));
    };
    ends = tt;
  },
  tt,
)
  where
    own : Via (completion b f) AtEnd → (completion b f).completes ≡ true
    own (goes is r) = is
    own (breaks is r) = absurd r
    own (continues is r) = absurd r
    own (thrown_away r) = absurd r

    done_so : (q : Arrival → Type 0) → (completion b f).completes ≡ true → (e : Completion) → Resumes e q → Resumes e (after b (Fin f d) q)
    done_so q is (completions.Break pos) r = goes is r
    done_so q is (completions.Continue pos) r = goes is r
    done_so q is (completions.Return pos) r = goes is r
    done_so q is (completions.ReturnValue e pos) r = goes is r
    done_so q is (completions.Throw e t pos) r = goes is r

    less : (q : Arrival → Type 0) → after b (Do f (d + 1)) (after b (Finish (at_depth c d) d f) q) normally → Resumes c (after b (Fin f d) q)
    less q (goes is r) = done_so q is c (depth_resumes c d q r)
    less q (breaks is r) = resumes_all c (after b (Fin f d) q) (breaks is r) (breaks is r) (breaks is r)
    less q (continues is r) = resumes_all c (after b (Fin f d) q) (continues is r) (continues is r) (continues is r)
    less q (thrown_away r) = resumes_all c (after b (Fin f d) q) (thrown_away r) (thrown_away r) (thrown_away r)

    let_pass : (a : Bool) (e : Completion) → None' (λ t. a && gets_out p b u k t) (class_out e) → None' (gets_out p b u k) (cond a (class_out (at_depth e d)) [])
    let_pass false e none = refl
    let_pass true e none = subst (λ (cs : List ClassId). None' (gets_out p b u k) cs) (sym (depth_class e d)) none

    waiting : None' (gets_out p b u k) (cond (completion b f).completes (class_out (at_depth c d)) [])
    waiting = let_pass (completion b f).completes c h.safe.0.0

-- a resource is closed, and `c` waits behind that
close_exit : (p : Program) (b : Body) (u : ClassId → Bool) (c : Completion) (r : Closing) (d : ℕ) (k : List Todo) → Keeps p b u (Out c ∷ Close r d ∷ k) → EachWay (KeepsWay p b u) (way (actions.Settle d c) edges.Go (close_front r (d + 1) ++ Supp (at_depth c d) d r.statement ∷ k) ∷ [])
close_exit p b u c r d k h = (
  record {
    to = record {
      safe = in_front p b u (close_front r (d + 1)) (wait ∷ k) (alone v (own ++ []) (alone v own h.safe.1.0.0), refl) ((subst (λ (cs : List ClassId). None' v cs) (sym (depth_class c d)) h.safe.0.0, refl), h.safe.1.1);
      finishes = finishes_front b (λ q. q normally) (close_front r (d + 1)) (wait ∷ k) refl (tt, finishes_weaker b (λ q. Resumes c (after b (Close r d) q)) (λ q. after_all b (close_front r (d + 1)) (after b wait q) normally) less k h.finishes.1.1);
    };
    ends = tt;
  },
  tt,
)
  where
    v : ClassId → Bool
    v = gets_out p b u k

    own : List ClassId
    own = throws_clause p r.close

    wait : Todo
    wait = Supp (at_depth c d) d r.statement

    found : (q : Arrival → Type 0) → Resumes (at_depth c d) q ⊎ (q abruptly ⊎ q abruptly) → Resumes c (after b (Close r d) q)
    found q (inl z) = resumes_map c q (after b (Close r d) q) (λ y. inl y) (λ y. inl y) (λ y. inl y) (depth_resumes c d q z)
    found q (inr z) = resumes_all c (after b (Close r d) q) (inr (once z)) (inr (once z)) (inr (once z))

    less : (q : Arrival → Type 0) → after_all b (close_front r (d + 1)) (after b wait q) normally → Resumes c (after b (Close r d) q)
    less q z = found q (plainly b (close_front r (d + 1)) (after b wait q) refl z)

supp_exit : (p : Program) (b : Body) (u : ClassId → Bool) (waiting c : Completion) (d : ℕ) (s : StmtId) (k : List Todo) → Keeps p b u (Out c ∷ Supp waiting d s ∷ k) → EachWay (KeepsWay p b u) (at_supp waiting c d k)
supp_exit p b u (completions.Throw e t pos) c d s k h = (record { to = past p b u c (completions.Throw e t pos) (Supp (completions.Throw e t pos) d s) k (λ q r. resumes_all c (after b (Supp (completions.Throw e t pos) d s) q) (inr r) (inr r) (inr r)) h.safe.1.0.0 h; ends = tt }, tt)
supp_exit p b u (completions.Break pos) c d s k h = settled p b u c d (Supp (completions.Break pos) d s) k (λ q r. resumes_map c q (after b (Supp (completions.Break pos) d s) q) (λ y. inl y) (λ y. inl y) (λ y. inl y) r) h.safe.0.0 h
supp_exit p b u (completions.Continue pos) c d s k h = settled p b u c d (Supp (completions.Continue pos) d s) k (λ q r. resumes_map c q (after b (Supp (completions.Continue pos) d s) q) (λ y. inl y) (λ y. inl y) (λ y. inl y) r) h.safe.0.0 h
supp_exit p b u (completions.Return pos) c d s k h = settled p b u c d (Supp (completions.Return pos) d s) k (λ q r. resumes_map c q (after b (Supp (completions.Return pos) d s) q) (λ y. inl y) (λ y. inl y) (λ y. inl y) r) h.safe.0.0 h
supp_exit p b u (completions.ReturnValue e pos) c d s k h = settled p b u c d (Supp (completions.ReturnValue e pos) d s) k (λ q r. resumes_map c q (after b (Supp (completions.ReturnValue e pos) d s) q) (λ y. inl y) (λ y. inl y) (λ y. inl y) r) h.safe.0.0 h

out_step : (p : Program) (b : Body) (u : ClassId → Bool) (c : Completion) (k : List Todo) → Keeps p b u (Out c ∷ k) → EachWay (KeepsWay p b u) (out p b c k)
out_step p b u c [] h = end_step p b u c h
out_step p b u c (LoopEnd w d ∷ k) h = loop_exit p b u c w d k h
out_step p b u c (Leave x pos ∷ k) h = (record { to = past p b u c c (Leave x pos) k (λ q r. r) h.safe.0.0 h; ends = tt }, tt)
out_step p b u c (Catch s d ∷ k) h = catch_exit p b u c s d k h
out_step p b u c (Fin f d ∷ k) h = finally_exit p b u c f d k h
out_step p b u c (Close r d ∷ k) h = close_exit p b u c r d k h
out_step p b u c (Finish waiting d f ∷ k) h = settled p b u c d (Finish waiting d f) k (λ q r. resumes_map c q (after b (Finish waiting d f) q) (λ y. y) (λ y. y) (λ y. y) r) h.safe.0.0 h
out_step p b u c (Supp waiting d s ∷ k) h = supp_exit p b u waiting c d s k h
out_step p b u c (Do s d ∷ k) h = skips p b u c (Do s d) k (λ q r. resumes_map c q (after b (Do s d) q) (λ y. y) (λ y. y) (λ y. y) r) h.safe.0.0 h
out_step p b u c (Ev e d ∷ k) h = skips p b u c (Ev e d) k (λ q r. resumes_map c q (after b (Ev e d) q) (λ y. inl y) (λ y. inl y) (λ y. inl y) r) h.safe.0.0 h
out_step p b u c (Act a pos ∷ k) h = skips p b u c (Act a pos) k (λ q r. resumes_map c q (after b (Act a pos) q) (λ y. inl y) (λ y. inl y) (λ y. inl y) r) h.safe.0.0 h
out_step p b u c (Cond t d x y ∷ k) h = skips p b u c (Cond t d x y) k (λ q r. resumes_map c q (after b (Cond t d x y) q) (λ z. z) (λ z. z) (λ z. z) r) h.safe.0.0 h
out_step p b u c (NullFork pos d x y ∷ k) h = skips p b u c (NullFork pos d x y) k (λ q r. resumes_map c q (after b (NullFork pos d x y) q) (λ z. z) (λ z. z) (λ z. z) r) h.safe.0.0 h
out_step p b u c (BoolFork pos d x y ∷ k) h = skips p b u c (BoolFork pos d x y) k (λ q r. resumes_map c q (after b (BoolFork pos d x y) q) (λ z. z) (λ z. z) (λ z. z) r) h.safe.0.0 h
out_step p b u c (For w d ∷ k) h = skips p b u c (For w d) k (λ q r. resumes_map c q (after b (For w d) q) (λ y. y) (λ y. y) (λ y. y) r) h.safe.0.0 h
out_step p b u c (Out e ∷ k) h = skips p b u c (Out e) k (λ q r. resumes_map c q (after b (Out e) q) (λ y. y) (λ y. y) (λ y. y) r) h.safe.0.0 h
out_step p b u c (Ended ∷ k) h = skips p b u c Ended k (λ q r. r) h.safe.0.0 h

-- ---- all steps

-- the completion waits no longer
resumed : (p : Program) (b : Body) (u : ClassId → Bool) (c : Completion) (x : Todo) (k : List Todo) → ((q : Arrival → Type 0) → Resumes c q → after b x q normally) → None' (gets_out p b u k) (class_out c) → Keeps p b u (x ∷ k) → EachWay (KeepsWay p b u) (skip (Out c ∷ k))
resumed p b u c x k less none h = skipped p b u (Out c ∷ k) (record { safe = ((none, refl), h.safe.1); finishes = (tt, finishes_weaker b (λ q. after b x q normally) (λ q. Resumes c q) less k h.finishes.1) })

finish_step : (p : Program) (b : Body) (u : ClassId → Bool) (c : Completion) (d : ℕ) (f : StmtId) (k : List Todo) → Keeps p b u (Finish c d f ∷ k) → EachWay (KeepsWay p b u) (skip (Out c ∷ k))
finish_step p b u c d f k h = resumed p b u c (Finish c d f) k (λ q r. r) (subst (λ (a : Bool). None' (gets_out p b u k) (cond a (class_out c) [])) (h.finishes.0 tt) h.safe.0.0) h

close_step : (p : Program) (b : Body) (u : ClassId → Bool) (r : Closing) (d : ℕ) (k : List Todo) → Keeps p b u (Close r d ∷ k) → EachWay (KeepsWay p b u) (skip (close_front r d ++ k))
close_step p b u r d k h =
    let v : ClassId → Bool = gets_out p b u k in
    let own : List ClassId = throws_clause p r.close in
    skipped p b u (close_front r d ++ k) (record {
      safe = in_front p b u (close_front r d) k (alone v (own ++ []) (alone v own h.safe.0.0), refl) h.safe.1;
      finishes = finishes_front b (λ q. q normally) (close_front r d) k refl (finishes_weaker b (λ q. after b (Close r d) q normally) (λ q. after_all b (close_front r d) q normally) (λ q z. plainly b (close_front r d) q refl z) k h.finishes.1);
    })

-- each way from here keeps it
pub ways_keep : (p : Program) (b : Body) → PartsComeFirst b → (u : ClassId → Bool) → ((k : List Todo) → FindsNoUnchecked p (gets_out p b u k)) → (k : List Todo) → Keeps p b u k → EachWay (KeepsWay p b u) (ways p b k)
ways_keep p b first u unchecked [] h = (record { to = record { safe = ((refl, refl), tt); finishes = (tt, tt) }; ends = refl }, tt)
ways_keep p b first u unchecked (Do s d ∷ k) h = statement_step p b first u s d (statement_at b s) refl k h
ways_keep p b first u unchecked (Ev e d ∷ k) h = expression_step p b first u e d (expression_at b e) refl k h
ways_keep p b first u unchecked (Act a pos ∷ k) h = action_step p b u unchecked a pos k h
ways_keep p b first u unchecked (Cond c d x y ∷ k) h = condition_step p b first u c d x y k h
ways_keep p b first u unchecked (NullFork pos d x y ∷ k) h = fork_step p b u (NullFork pos d x y) x y k _ _ refl refl tt tt h.safe.0.0 h.safe.0.1 (λ q r. r) h
ways_keep p b first u unchecked (BoolFork pos d x y ∷ k) h = fork_step p b u (BoolFork pos d x y) x y k _ _ refl refl tt tt h.safe.0.0 h.safe.0.1 (λ q r. r) h
ways_keep p b first u unchecked (LoopEnd w d ∷ k) h = loop_step p b first u w d (statement_at b w) refl k h
ways_keep p b first u unchecked (For w d ∷ k) h = for_step p b first u w d (statement_at b w) refl k h
ways_keep p b first u unchecked (Leave x pos ∷ k) h = (record { to = done p b u (Leave x pos) k (λ q r. r) h; ends = tt }, tt)
ways_keep p b first u unchecked (Catch s d ∷ k) h = skipped p b u k (done p b u (Catch s d) k (λ q r. r) h)
ways_keep p b first u unchecked (Fin f d ∷ k) h = skipped p b u (Do f d ∷ k) (record { safe = ((h.safe.0.0, refl), h.safe.1); finishes = (tt, h.finishes.1) })
ways_keep p b first u unchecked (Close r d ∷ k) h = close_step p b u r d k h
ways_keep p b first u unchecked (Finish c d f ∷ k) h = finish_step p b u c d f k h
ways_keep p b first u unchecked (Supp c d s ∷ k) h = resumed p b u c (Supp c d s) k (λ q r. r) h.safe.0.0 h
ways_keep p b first u unchecked (Out c ∷ k) h = out_step p b u c k h
ways_keep p b first u unchecked (Ended ∷ k) h = tt
