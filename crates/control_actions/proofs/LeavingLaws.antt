-- An exception finds its edge.
use Rattle.std.proofs.Common.{◌≡◌, ◌∙◌, add-one, ◌<◌, ◌+◌, ℕ, zero, suc, inl, inr, sym, ap, refl, subst, arith, Bool, true, false, true≢false, IsTrue, List, [], ◌∷◌, ◌++◌, Contains}
use Rattle.std.specs.Prelude.{◌||◌, not, if◌then◌else◌}
use Rattle.std.specs.List.{list_any}
use Rattle.std.proofs.lemmas.Bool.{eq-eqb, eqb-true, or_left, or_right, or_cases, and_from, not_from_false, cases_lt, false_from_ne_true}
use Rattle.std.proofs.lemmas.List.Folds.{Any-from_list_any, list_any-from_Any}
use Rattle.program_model.specs.declared.kinds.ClassId.{ClassId}
use Rattle.program_model.specs.declared.program.Program.{Program}
use Rattle.program_model.specs.Hierarchy.{IsHierarchy, IsIgnored, IsUnder, itself, above}
use Rattle.program_model.specs.SuperTests.{has_class, is_class, is_ignored, is_under}
use Rattle.control_actions.specs.declared.action.Action.{Action}
use Rattle.control_actions.specs.declared.action.Action.TheVariants as actions
use Rattle.control_actions.specs.Exceptions.{class_count, class_with, declared_exceptions, exceptions_of, heeded, heeded_by_call, is_heeded_under, is_wholly_ignored, other_exceptions, own_exceptions, some_heeded, throws_clause, throws_some_heeded, unchecked, with_class, with_classes}
use Rattle.control_actions.specs.Leaving.{HasEdges, by_declared, by_call, made, unchecked_exceptions}
use Rattle.program_model.proofs.HierarchyLaws.{is_under_law, is_ignored_law}

same_class : (c d : ClassId) → c.0 ≡ d.0 → c ≡ d
same_class c d same = λ i. record { 0 = same i }

listed : (cs : List ClassId) (d : ClassId) → Contains cs d → IsTrue (has_class cs d)
listed cs d here = list_any-from_Any (λ x. is_class x d) cs (here.0, d, here.1, here.2, eq-eqb d.0 d.0 refl)

contained : (cs : List ClassId) (d : ClassId) → IsTrue (has_class cs d) → Contains cs d
contained cs d holds =
    let found = Any-from_list_any (λ x. is_class x d) cs holds in
    let P : ClassId → Type 0 = λ x. Contains cs x in
    subst P (same_class found.1 d (eqb-true found.1.0 d.0 found.4)) (found.0, found.2, found.3)

has_append : (cs ds : List ClassId) (t : ClassId) → has_class (cs ++ ds) t ≡ (has_class cs t || has_class ds t)
has_append [] ds t = refl
has_append (c ∷ cs) ds t = step (is_class c t) (has_append cs ds t)
  where
    step : (b : Bool) → has_class (cs ++ ds) t ≡ (has_class cs t || has_class ds t) → (b || has_class (cs ++ ds) t) ≡ ((b || has_class cs t) || has_class ds t)
    step true rest = refl
    step false rest = rest

-- adding a class keeps those that were there
with_kept : (cs : List ClassId) (c t : ClassId) → IsTrue (has_class cs t) → IsTrue (has_class (with_class cs c) t)
with_kept cs c t here = step (has_class cs c)
  where
    step : (b : Bool) → IsTrue (has_class (if b then cs else (cs ++ c ∷ [])) t)
    step true = here
    step false = has_append cs (c ∷ []) t ∙ or_left (has_class cs t) (has_class (c ∷ []) t) here

with_itself : (cs : List ClassId) (t : ClassId) → IsTrue (has_class (with_class cs t) t)
with_itself cs t = step (has_class cs t) refl
  where
    step : (b : Bool) → has_class cs t ≡ b → IsTrue (has_class (if b then cs else (cs ++ t ∷ [])) t)
    step true here = here
    step false none = has_append cs (t ∷ []) t ∙ or_right (has_class cs t) (has_class (t ∷ []) t) (or_left (is_class t t) false (eq-eqb t.0 t.0 refl))

all_kept : (cs xs : List ClassId) (t : ClassId) → IsTrue (has_class cs t) → IsTrue (has_class (with_classes cs xs) t)
all_kept cs [] t here = here
all_kept cs (x ∷ xs) t here = all_kept (with_class cs x) xs t (with_kept cs x t here)

all_added : (cs xs : List ClassId) (t : ClassId) → IsTrue (has_class xs t) → IsTrue (has_class (with_classes cs xs) t)
all_added cs [] t here = absurd (true≢false (sym here))
all_added cs (x ∷ xs) t here = elim (or_cases (is_class x t) (has_class xs t) here) [
  | inl first ↦
      let P : ClassId → Type 0 = λ y. IsTrue (has_class (with_class cs y) t) in
      all_kept (with_class cs x) xs t (subst P (sym (same_class x t (eqb-true x.0 t.0 first))) (with_itself cs t))
  | inr rest ↦ all_added (with_class cs x) xs t rest
]

-- a class that is heeded stays
call_kept : (p : Program) (cs : List ClassId) (t : ClassId) → throws_some_heeded p t ≡ true → IsTrue (has_class cs t) → IsTrue (has_class (heeded_by_call p cs) t)
call_kept p [] t heeds here = here
call_kept p (x ∷ xs) t heeds here = step (call_kept p xs t heeds) (throws_some_heeded p x) refl
  where
    step : (IsTrue (has_class xs t) → IsTrue (has_class (heeded_by_call p xs) t)) → (b : Bool) → throws_some_heeded p x ≡ b → IsTrue (has_class (if b then (x ∷ heeded_by_call p xs) else heeded_by_call p xs) t)
    step later true is = elim (or_cases (is_class x t) (has_class xs t) here) [
      | inl first ↦ or_left (is_class x t) (has_class (heeded_by_call p xs) t) first
      | inr rest ↦ or_right (is_class x t) (has_class (heeded_by_call p xs) t) (later rest)
    ]
    step later false is = elim (or_cases (is_class x t) (has_class xs t) here) [
      | inl first ↦
          let P : ClassId → Type 0 = λ y. throws_some_heeded p y ≡ true in
          absurd (true≢false (sym (subst P (sym (same_class x t (eqb-true x.0 t.0 first))) heeds) ∙ is))
      | inr rest ↦ later rest
    ]

own_kept : (p : Program) (cs : List ClassId) (t : ClassId) → is_ignored p t ≡ false → IsTrue (has_class cs t) → IsTrue (has_class (heeded p cs) t)
own_kept p [] t heeds here = here
own_kept p (x ∷ xs) t heeds here = step (own_kept p xs t heeds) (is_ignored p x) refl
  where
    step : (IsTrue (has_class xs t) → IsTrue (has_class (heeded p xs) t)) → (b : Bool) → is_ignored p x ≡ b → IsTrue (has_class (if b then heeded p xs else (x ∷ heeded p xs)) t)
    step later false is = elim (or_cases (is_class x t) (has_class xs t) here) [
      | inl first ↦ or_left (is_class x t) (has_class (heeded p xs) t) first
      | inr rest ↦ or_right (is_class x t) (has_class (heeded p xs) t) (later rest)
    ]
    step later true is = elim (or_cases (is_class x t) (has_class xs t) here) [
      | inl first ↦
          let P : ClassId → Type 0 = λ y. is_ignored p y ≡ false in
          absurd (true≢false (sym is ∙ subst P (sym (same_class x t (eqb-true x.0 t.0 first))) heeds))
      | inr rest ↦ later rest
    ]

-- one class that is heeded is found among the classes
pub found_among : (p : Program) (t : ClassId) (n k : ℕ) → k < n → is_heeded_under p t (class_with k) ≡ true → some_heeded p t n ≡ true
unfolding some_heeded
found_among p t zero k below holds = absurd (omega arith)
found_among p t (suc n) k below holds = elim (cases_lt k n) [
  | inl lower ↦ or_left (some_heeded p t n) (is_heeded_under p t (class_with n)) (found_among p t n k lower holds)
  | inr upper ↦
      let same : k ≡ n = omega arith in
      or_right (some_heeded p t n) (is_heeded_under p t (class_with n)) (ap (λ j. is_heeded_under p t (class_with j)) (sym same) ∙ holds)
]

under_trans : (p : Program) (c d e : ClassId) → IsUnder p c d → IsUnder p d e → IsUnder p c e
under_trans p c d e (itself x) rest = rest
under_trans p c d e (above x y z direct more) rest = above x y e direct (under_trans p y z e more rest)

-- what is under a class that is wholly ignored is ignored
wholly_law : (p : Program) → IsHierarchy p → (c t : ClassId) → IsUnder p c t → IsTrue (is_wholly_ignored p t) → IsTrue (is_ignored p c)
wholly_law p hierarchy c t below holds =
    let found = Any-from_list_any (λ d. is_under p t d) p.ignored.items holds in
    let over = (is_under_law p hierarchy t found.1).0 found.4 in
    let next = (is_under_law p hierarchy c found.1).1 (under_trans p c t found.1 below over) in
    or_left (list_any (λ d. is_under p c d) p.ignored.items) (has_class p.exact.items c)
    (list_any-from_Any (λ d. is_under p c d) p.ignored.items (found.0, found.1, found.2, found.3, next))

-- a class with a class under it that is not ignored keeps its edge
pub throws_law : (p : Program) → IsHierarchy p → (c t : ClassId) → c.0 < class_count p → is_ignored p c ≡ false → IsUnder p c t → throws_some_heeded p t ≡ true
throws_law p hierarchy c t named heeds below = by_ignored (is_ignored p t)
  where
    seen : is_heeded_under p t (class_with c.0) ≡ true
    seen = and_from (is_under p c t) (not (is_ignored p c)) ((is_under_law p hierarchy c t).1 below) (not_from_false (is_ignored p c) heeds)

    by_whole : (b : Bool) → is_wholly_ignored p t ≡ b → (if b then false else some_heeded p t (class_count p)) ≡ true
    by_whole true whole = absurd (true≢false (sym (wholly_law p hierarchy c t below whole) ∙ heeds))
    by_whole false whole = found_among p t (class_count p) c.0 named seen

    by_ignored : (b : Bool) → (if b then (if is_wholly_ignored p t then false else some_heeded p t (class_count p)) else true) ≡ true
    by_ignored true = by_whole (is_wholly_ignored p t) refl
    by_ignored false = refl

-- a class that is declared has its edge, and one of the others too
declared_edge : (declared other : List ClassId) (t : ClassId) → Contains declared t → Contains (with_classes (with_classes [] declared) other) t
declared_edge declared other t here =
    contained (with_classes (with_classes [] declared) other) t
    (all_kept (with_classes [] declared) other t (all_added [] declared t (listed declared t here)))

other_edge : (declared other : List ClassId) (t : ClassId) → IsTrue (has_class other t) → Contains (with_classes (with_classes [] declared) other) t
other_edge declared other t here = contained (with_classes (with_classes [] declared) other) t (all_added (with_classes [] declared) other t here)

-- an exception that is not ignored has its edge, where it leaves a call by an unchecked class
call_edge : (p : Program) → IsHierarchy p → (clause : List ClassId) (c t : ClassId) → c.0 < class_count p → is_ignored p c ≡ false → IsUnder p c t → Contains (unchecked p) t → Contains (with_classes (with_classes [] clause) (heeded_by_call p (unchecked p))) t
call_edge p hierarchy clause c t named heeds below here =
    other_edge clause (heeded_by_call p (unchecked p)) t
    (call_kept p (unchecked p) t (throws_law p hierarchy c t named heeds below) (listed (unchecked p) t here))

-- an exception that the action makes itself
own_edge : (p : Program) (declared own : List ClassId) (c t : ClassId) → is_ignored p c ≡ false → c ≡ t → Contains own t → Contains (with_classes (with_classes [] declared) (heeded p own)) t
own_edge p declared own c t heeds same here =
    let P : ClassId → Type 0 = λ x. is_ignored p x ≡ false in
    other_edge declared (heeded p own) t (own_kept p own t (subst P same heeds) (listed own t here))

none : (t : ClassId) {X : Type 0} → Contains [] t → X
none t here = absurd (true≢false (sym (listed [] t here)))

unchecked_edge : (p : Program) → IsHierarchy p → (a : Action) (c t : ClassId) → c.0 < class_count p → is_ignored p c ≡ false → Contains (unchecked_exceptions p a) t → IsUnder p c t → Contains (exceptions_of p a) t
unchecked_edge p h (actions.Call m d n form) c t named heeds here below = call_edge p h (throws_clause p m) c t named heeds below here
unchecked_edge p h (actions.New m d n) c t named heeds here below = call_edge p h (throws_clause p m) c t named heeds below here
unchecked_edge p h (actions.Super m d n) c t named heeds here below = call_edge p h (throws_clause p m) c t named heeds below here
unchecked_edge p h actions.Skip c t named heeds here below = none t here
unchecked_edge p h (actions.Copy x y) c t named heeds here below = none t here
unchecked_edge p h (actions.Move x y) c t named heeds here below = none t here
unchecked_edge p h (actions.Plain x v) c t named heeds here below = none t here
unchecked_edge p h (actions.Drop x) c t named heeds here below = none t here
unchecked_edge p h (actions.Settle b k) c t named heeds here below = none t here
unchecked_edge p h (actions.Enter k x b d) c t named heeds here below = none t here
unchecked_edge p h (actions.Test d) c t named heeds here below = none t here
unchecked_edge p h (actions.Op k d n) c t named heeds here below = none t here
unchecked_edge p h (actions.Get f d w) c t named heeds here below = none t here
unchecked_edge p h (actions.Put f d w) c t named heeds here below = none t here
unchecked_edge p h (actions.Cast x d) c t named heeds here below = none t here
unchecked_edge p h (actions.PutOwn f d) c t named heeds here below = none t here
unchecked_edge p h (actions.Raise d k) c t named heeds here below = none t here
unchecked_edge p h (actions.End k) c t named heeds here below = none t here

made_edge : (p : Program) (a : Action) (c t : ClassId) → is_ignored p c ≡ false → Contains (own_exceptions p a) t → c ≡ t → Contains (exceptions_of p a) t
made_edge p (actions.Call m d n form) c t heeds here same = none t here
made_edge p (actions.New m d n) c t heeds here same = none t here
made_edge p (actions.Super m d n) c t heeds here same = none t here
made_edge p actions.Skip c t heeds here same = none t here
made_edge p (actions.Copy x y) c t heeds here same = none t here
made_edge p (actions.Move x y) c t heeds here same = none t here
made_edge p (actions.Plain x v) c t heeds here same = none t here
made_edge p (actions.Drop x) c t heeds here same = none t here
made_edge p (actions.Settle b k) c t heeds here same = none t here
made_edge p (actions.Enter k x b d) c t heeds here same = none t here
made_edge p (actions.Test d) c t heeds here same = none t here
made_edge p (actions.Op k d n) c t heeds here same = own_edge p (declared_exceptions p (actions.Op k d n)) (own_exceptions p (actions.Op k d n)) c t heeds same here
made_edge p (actions.Get f d w) c t heeds here same = own_edge p (declared_exceptions p (actions.Get f d w)) (own_exceptions p (actions.Get f d w)) c t heeds same here
made_edge p (actions.Put f d w) c t heeds here same = own_edge p (declared_exceptions p (actions.Put f d w)) (own_exceptions p (actions.Put f d w)) c t heeds same here
made_edge p (actions.Cast x d) c t heeds here same = own_edge p (declared_exceptions p (actions.Cast x d)) (own_exceptions p (actions.Cast x d)) c t heeds same here
made_edge p (actions.PutOwn f d) c t heeds here same = none t here
made_edge p (actions.Raise d k) c t heeds here same = own_edge p (declared_exceptions p (actions.Raise d k)) (own_exceptions p (actions.Raise d k)) c t heeds same here
made_edge p (actions.End k) c t heeds here same = none t here

pub has_edges : (p : Program) → IsHierarchy p → (a : Action) → HasEdges p a
has_edges p hierarchy a c t named leaves = elim leaves [
  | by_declared here below ↦ declared_edge (declared_exceptions p a) (other_exceptions p a) t here
  | by_call heeds here below ↦ unchecked_edge p hierarchy a c t named (heeded_law heeds) here below
  | made heeds here same ↦ made_edge p a c t (heeded_law heeds) here same
]
  where
    heeded_law : (IsIgnored p c → ⊥) → is_ignored p c ≡ false
    heeded_law heeds = false_from_ne_true (is_ignored p c) (λ holds. heeds ((is_ignored_law p hierarchy c).0 holds))

pub some_heeded_none : (p : Program) (t : ClassId) → false ≡ some_heeded p t 0
unfolding some_heeded
some_heeded_none p t = refl

pub some_heeded_step : (p : Program) (t : ClassId) (n : ℕ) → some_heeded p t (n + 1) ≡ (some_heeded p t n || is_heeded_under p t (class_with n))
unfolding some_heeded
some_heeded_step p t n = rw add-one refl
