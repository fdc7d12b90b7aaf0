-- An argument that moves to an owning parameter, where the class of its fact or the parameter's type has an obligation: the fact says
-- that the frame owns it, and it fits the type. Else the call breaks a rule.
use Rattle.std.proofs.Common.{◌≡◌, ◌⊎◌, inl, inr, ℕ, zero, suc, ◌+◌, ◌<◌, Bool, true, false, ◌&&◌, ◌||◌, Option, Some, None, List, [], ◌∷◌, length, slice_get, nat_lt, lt-ltb, refl, sym, ap, ◌∙◌, subst, true≢false, if◌then◌else◌, arith, not}
use Rattle.std.specs.FinSet as set
use Rattle.std.specs.List.{list_any}
use Rattle.std.proofs.lemmas.Bool.{and_from, and_parts, or_left, or_right}
use Rattle.rlc_base.proofs.SetLaws.{within_empty, within_from_minus, within_trans, within_union_left, within_union_right}
use Rattle.program_model.specs.declared.kinds.BodyId.{BodyId}
use Rattle.program_model.specs.declared.kinds.VType.{VType}
use Rattle.program_model.specs.declared.program.Method.{Method}
use Rattle.program_model.specs.declared.program.ParamSig.{ParamSig}
use Rattle.program_model.specs.declared.program.Program.{Program}
use Rattle.ledger_obligations.specs.MustCallSets.{Names, fits_type, is_empty, is_heavy_as, is_heavy_class}
use Rattle.ownership_rules.specs.Signatures.{is_present, when}
use Rattle.control_actions.specs.declared.action.Action.{Action}
use Rattle.control_actions.specs.declared.action.Action.TheVariants as actions
use Rattle.control_actions.specs.declared.action.Edge.{Edge}
use Rattle.control_actions.specs.declared.fact.Fact.{Fact}
use Rattle.control_actions.specs.declared.fact.Mode.{Mode}
use Rattle.control_actions.specs.declared.fact.Mode.TheVariants as modes
use Rattle.control_actions.specs.declared.fact.Origin.{Origin}
use Rattle.control_actions.specs.declared.fact.Rule.{Rule}
use Rattle.control_actions.specs.declared.fact.Rule.TheVariants as rules
use Rattle.ownership_rules.specs.Callees.{callee, holds_operand, may_be_null_target}
use Rattle.ownership_rules.specs.Facts.{PlaceSet, is_own, is_met}
use Rattle.value_laws.specs.PlaceRows.{places_after}
use Rattle.value_laws.specs.Preconditions.{asked_from, missing_before, parameters_in, precondition_missing}
use Rattle.ownership_rules.specs.Heavy.{is_owned}
use Rattle.ownership_rules.specs.MovesAtCalls.{are_two, first_of, has_two_owners, is_heavy_owner, is_heavy_target, moved_at_call, moved_to, moved_to_first, owners, owners_from, takes, target}
use Rattle.ownership_rules.specs.declared.moved.Moved.TheVariants as moves
use Rattle.value_laws.specs.Calls.{at_precondition, called}
use Rattle.value_laws.specs.Flow.{flow, placed, turned}
use Rattle.value_laws.specs.Outcomes.{IsCallRow, IsFault}

-- the type is one of these, and the first one where there is but one
pub record IsAmong (ts : List VType) (t : VType) : Type 0 where
  pub any : (P : VType → Bool) → P t ≡ true → list_any P ts ≡ true
  pub one : (first_of ts ≡ Some t) ⊎ (nat_lt 1 (length ts) ≡ true)

first_among : (t : VType) (ts : List VType) → IsAmong (t ∷ ts) t
first_among t ts = record { any = λ P is. or_left (P t) (list_any P ts) is; one = inl refl }

further_among : (u t : VType) (ts : List VType) → IsAmong ts t → IsAmong (u ∷ ts) t
further_among u t [] among = absurd (true≢false (sym (among.any (λ z. true) refl)))
further_among u t (w ∷ ts) among = record {
  any = λ P is. or_right (P u) (list_any P (w ∷ ts)) (among.any P is);
  one = inr (lt-ltb 1 (length (u ∷ w ∷ ts)) (omega arith));
}

owner_among : (a : Action) (held : PlaceSet) (k i n : ℕ) (params : List ParamSig) (q : ParamSig) → n ≡ k + i → slice_get params i ≡ Some q → takes a held n q ≡ true → IsAmong (owners_from a held k params) q.vtype
owner_among a held k i n [] q same at is = absurd (let never : None ≡ Some q = at in cc)
owner_among a held k zero n (x ∷ xs) q same at is =
    let param : x ≡ q = (let both : Some x ≡ Some q = at in cc) in
    let number : n ≡ k = omega (arith, same) in
    let takes' : takes a held k x ≡ true = ap (takes a held k) param ∙ (ap (λ (j : ℕ). takes a held j q) (sym number) ∙ is) in
    rw takes' (subst (λ (t : VType). IsAmong (x.vtype ∷ owners_from a held (k + 1) xs) t) (ap (λ (u : ParamSig). u.vtype) param) (first_among x.vtype (owners_from a held (k + 1) xs)))
owner_among a held k (suc i) n (x ∷ xs) q same at is = go (takes a held k x) refl (owner_among a held (k + 1) i n xs q (omega (arith, same)) at is)
  where
    go : (b : Bool) → takes a held k x ≡ b → IsAmong (owners_from a held (k + 1) xs) q.vtype
        → IsAmong (if b then x.vtype ∷ owners_from a held (k + 1) xs else owners_from a held (k + 1) xs) q.vtype
    go true e rest = further_among x.vtype q.vtype (owners_from a held (k + 1) xs) rest
    go false e rest = rest

-- a parameter that takes an argument counts
some_owner : (a : Action) (held : PlaceSet) (k i n : ℕ) (params : List ParamSig) (q : ParamSig) → n ≡ k + i → slice_get params i ≡ Some q → takes a held n q ≡ true → 0 < length (owners_from a held k params)
some_owner a held k i n [] q same at is = absurd (let never : None ≡ Some q = at in cc)
some_owner a held k zero n (x ∷ xs) q same at is =
    let param : x ≡ q = (let both : Some x ≡ Some q = at in cc) in
    let number : n ≡ k = omega (arith, same) in
    let takes' : takes a held k x ≡ true = ap (takes a held k) param ∙ (ap (λ (j : ℕ). takes a held j q) (sym number) ∙ is) in
    rw takes' (omega arith)
some_owner a held k (suc i) n (x ∷ xs) q same at is = go (takes a held k x) (some_owner a held (k + 1) i n xs q (omega (arith, same)) at is)
  where
    go : (b : Bool) → 0 < length (owners_from a held (k + 1) xs) → 0 < length (if b then x.vtype ∷ owners_from a held (k + 1) xs else owners_from a held (k + 1) xs)
    go true some = omega arith
    go false some = some

-- and two count for two
two_owners : (a : Action) (held : PlaceSet) (k i j m n : ℕ) (params : List ParamSig) (q r : ParamSig) → m ≡ k + i → n ≡ k + j → i < j → slice_get params i ≡ Some q → slice_get params j ≡ Some r → takes a held m q ≡ true
    → takes a held n r ≡ true → 1 < length (owners_from a held k params)
two_owners a held k i j m n [] q r same same' less at at' is is' = absurd (let never : None ≡ Some q = at in cc)
two_owners a held k zero zero m n (x ∷ xs) q r same same' less at at' is is' = absurd (omega (arith, less))
two_owners a held k (suc i) zero m n (x ∷ xs) q r same same' less at at' is is' = absurd (omega (arith, less))
two_owners a held k zero (suc j) m n (x ∷ xs) q r same same' less at at' is is' =
    let param : x ≡ q = (let both : Some x ≡ Some q = at in cc) in
    let number : m ≡ k = omega (arith, same) in
    let takes' : takes a held k x ≡ true = ap (takes a held k) param ∙ (ap (λ (d : ℕ). takes a held d q) (sym number) ∙ is) in
    let more = some_owner a held (k + 1) j n xs r (omega (arith, same')) at' is' in
    rw takes' (omega (arith, more))
two_owners a held k (suc i) (suc j) m n (x ∷ xs) q r same same' less at at' is is' =
    go (takes a held k x) (two_owners a held (k + 1) i j m n xs q r (omega (arith, same)) (omega (arith, same')) (omega (arith, less)) at at' is is')
  where
    go : (b : Bool) → 1 < length (owners_from a held (k + 1) xs) → 1 < length (if b then x.vtype ∷ owners_from a held (k + 1) xs else owners_from a held (k + 1) xs)
    go true some = omega (arith, some)
    go false some = some

-- what a parameter asks for before is asked of the fact that has its argument
asked_of_one : (a : Action) (held : PlaceSet) (k i n : ℕ) (params : List ParamSig) (q : ParamSig) → n ≡ k + i → slice_get params i ≡ Some q → holds_operand a held n ≡ true
    → set.is_subset q.before (asked_from a held k params) ≡ true
asked_of_one a held k i n [] q same at is = absurd (let never : None ≡ Some q = at in cc)
asked_of_one a held k zero n (x ∷ xs) q same at is =
    let param : x ≡ q = (let both : Some x ≡ Some q = at in cc) in
    let number : n ≡ k = omega (arith, same) in
    let here : holds_operand a held k ≡ true = ap (holds_operand a held) (sym number) ∙ is in
    let mine : when (holds_operand a held k) x.before ≡ q.before = ap (λ (b : Bool). when b x.before) here ∙ ap (λ (u : ParamSig). u.before) param in
    subst (λ (s : Names). set.is_subset s (asked_from a held k (x ∷ xs)) ≡ true) mine (within_union_left (when (holds_operand a held k) x.before) (asked_from a held (suc k) xs))
asked_of_one a held k (suc i) n (x ∷ xs) q same at is =
    within_trans q.before (asked_from a held (suc k) xs) (asked_from a held k (x ∷ xs)) (asked_of_one a held (suc k) i n xs q (omega (arith, same)) at is)
    (within_union_right (when (holds_operand a held k) x.before) (asked_from a held (suc k) xs))

-- ---- a call that breaks no rule

module _ (p : Program) (b : BodyId) (o : Origin) (e : Edge) (f : Fact) where
  -- an argument that may not move breaks a rule
  bad_breaks : (a : Action) (held : PlaceSet) (rule : Rule) → moved_at_call p o a e f ≡ moves.Bad rule → IsFault (placed o f held (turned (called p b o a e f)))
  bad_breaks a held rule bad = go (precondition_missing p a f)
    where
      go : (x : Option Names) → IsFault (placed o f held (turned (at_precondition p b o a e f x)))
      go None = rw bad tt
      go (Some names) = tt

  call_breaks : (a : Action) (rule : Rule) → IsCallRow a → moved_at_call p o a e f ≡ moves.Bad rule → IsFault (flow p b o a e f)
  call_breaks actions.Skip rule row bad = absurd row
  call_breaks (actions.Call m d n form) rule row bad = bad_breaks (actions.Call m d n form) (places_after p b (actions.Call m d n form) e f.places) rule bad
  call_breaks (actions.New m d n) rule row bad = bad_breaks (actions.New m d n) (places_after p b (actions.New m d n) e f.places) rule bad
  call_breaks (actions.Super m d n) rule row bad = bad_breaks (actions.Super m d n) (places_after p b (actions.Super m d n) e f.places) rule bad
  call_breaks a rule row bad = absurd row

  -- and so do calls that are asked for before and are missing
  names_break : (a : Action) (held : PlaceSet) (names : Names) → precondition_missing p a f ≡ Some names → IsFault (placed o f held (turned (called p b o a e f)))
  names_break a held names some = rw some tt

  missing_breaks : (a : Action) (names : Names) → IsCallRow a → precondition_missing p a f ≡ Some names → IsFault (flow p b o a e f)
  missing_breaks actions.Skip names row some = absurd row
  missing_breaks (actions.Call m d n form) names row some = names_break (actions.Call m d n form) (places_after p b (actions.Call m d n form) e f.places) names some
  missing_breaks (actions.New m d n) names row some = names_break (actions.New m d n) (places_after p b (actions.New m d n) e f.places) names some
  missing_breaks (actions.Super m d n) names row some = names_break (actions.Super m d n) (places_after p b (actions.Super m d n) e f.places) names some
  missing_breaks a names row some = absurd row

  own_mode : (m : Mode) → is_own m ≡ true → m ≡ modes.Own
  own_mode modes.Own is = refl
  own_mode modes.None is = absurd (true≢false (sym is))
  own_mode modes.Held is = absurd (true≢false (sym is))
  own_mode modes.Lent is = absurd (true≢false (sym is))
  own_mode modes.Alias is = absurd (true≢false (sym is))

  -- the fact says that the frame owns the object, and it fits the type
  abbrev pub IsOwnedAs : VType → Type 0
  IsOwnedAs t = (f.mode ≡ modes.Own) × (is_heavy_class p o.class ≡ true) × (fits_type p o.class (Some t) ≡ true)

  -- and it moves at the call
  abbrev pub IsGivenAs : Action → VType → Type 0
  IsGivenAs a t = IsOwnedAs t × (moved_at_call p o a e f ≡ moves.Moves)

  module _ (a : Action) (row : IsCallRow a) (fine : IsFault (flow p b o a e f) → ⊥) where
    moved_is : (rule : Rule) → moved_at_call p o a e f ≡ moves.Bad rule → ⊥
    moved_is rule bad = fine (call_breaks a rule row bad)

    -- what a parameter asks for was called, as the fact says
    pub asked_before : (m : Method) (i : ℕ) (q : ParamSig) → callee p a ≡ Some m → slice_get m.sig.params.items i ≡ Some q → holds_operand a f.places (i + 1) ≡ true → set.is_subset q.before f.called ≡ true
    asked_before m i q named at held =
        within_trans q.before (asked_from a f.places 1 (parameters_in (callee p a))) f.called
        (ap (λ (k : Option Method). set.is_subset q.before (asked_from a f.places 1 (parameters_in k))) named ∙ asked_of_one a f.places 1 i (i + 1) m.sig.params.items q (omega arith) at held)
        (within_from_minus (asked_from a f.places 1 (parameters_in (callee p a))) f.called (within_empty (missing_before p a f) (none (is_empty (missing_before p a f)) refl)))
      where
        none : (x : Bool) → is_empty (missing_before p a f) ≡ x → is_empty (missing_before p a f) ≡ true
        none true is = is
        none false is = absurd (fine (missing_breaks a (missing_before p a f) row (ap (λ (z : Bool). if z then None else Some (missing_before p a f)) is)))

    to_one : (t : VType) → is_heavy_as p o.class (Some t) ≡ true → moved_at_call p o a e f ≡ moved_to p o a e f t → IsGivenAs a t
    to_one t heavy same = by (is_owned p o f) refl (fits_type p o.class (Some t)) refl
      where
        by : (x : Bool) → is_owned p o f ≡ x → (y : Bool) → fits_type p o.class (Some t) ≡ y → IsGivenAs a t
        by false none y fit = absurd (moved_is rules.NotOwned (same ∙ rw (heavy, none) refl))
        by true owned false fit = absurd (moved_is rules.Narrow (same ∙ rw (heavy, owned, fit) refl))
        by true owned true fit =
            let parts = and_parts (is_heavy_class p o.class) (is_own f.mode) owned in
            ((own_mode f.mode parts.1, parts.0, fit), moved (may_be_null_target p a e && not (is_met o f)) refl)
          where
            moved : (z : Bool) → (may_be_null_target p a e && not (is_met o f)) ≡ z → moved_at_call p o a e f ≡ moves.Moves
            moved true unsafe = absurd (moved_is rules.Throw (same ∙ rw (heavy, owned, fit, unsafe) refl))
            moved false safe = same ∙ rw (heavy, owned, fit, safe) refl

    pub argument_is_given : (m : Method) (i : ℕ) (q : ParamSig) → callee p a ≡ Some m → slice_get m.sig.params.items i ≡ Some q → q.owning ≡ true → holds_operand a f.places (i + 1) ≡ true
        → is_heavy_as p o.class (Some q.vtype) ≡ true → IsGivenAs a q.vtype
    argument_is_given m i q named at owning held heavy = by (has_two_owners p o.class a f.places) refl
      where
        among : IsAmong (owners p a f.places) q.vtype
        among = rw named (owner_among a f.places 0 i i m.sig.params.items q (omega arith) at (and_from q.owning (holds_operand a f.places (i + 1)) owning held))

        two : nat_lt 1 (length (owners p a f.places)) ≡ true → has_two_owners p o.class a f.places ≡ true
        two more = and_from (are_two (length (owners p a f.places)) (target p a f.places)) (is_heavy_owner p o.class (owners p a f.places) || is_heavy_target p o.class (target p a f.places))
            (or_left (nat_lt 1 (length (owners p a f.places))) (nat_lt 0 (length (owners p a f.places)) && is_present (target p a f.places)) more)
            (or_left (is_heavy_owner p o.class (owners p a f.places)) (is_heavy_target p o.class (target p a f.places)) (among.any (λ t. is_heavy_as p o.class (Some t)) heavy))

        by : (x : Bool) → has_two_owners p o.class a f.places ≡ x → IsGivenAs a q.vtype
        by true is = absurd (moved_is rules.Twice (rw is refl))
        by false is = elim among.one [
          | inl first ↦ to_one q.vtype heavy (rw is (ap (moved_to_first p o a e f) first))
          | inr more ↦ absurd (true≢false (sym (two more) ∙ is))
        ]

    pub argument_is_owned : (m : Method) (i : ℕ) (q : ParamSig) → callee p a ≡ Some m → slice_get m.sig.params.items i ≡ Some q → q.owning ≡ true → holds_operand a f.places (i + 1) ≡ true
        → is_heavy_as p o.class (Some q.vtype) ≡ true → IsOwnedAs q.vtype
    argument_is_owned m i q named at owning held heavy = (argument_is_given m i q named at owning held heavy).0

    -- no object is the argument of two owning parameters
    pub no_two_arguments : (m : Method) (i j : ℕ) (q r : ParamSig) → i < j → callee p a ≡ Some m → slice_get m.sig.params.items i ≡ Some q → slice_get m.sig.params.items j ≡ Some r → q.owning ≡ true → r.owning ≡ true
        → holds_operand a f.places (i + 1) ≡ true → holds_operand a f.places (j + 1) ≡ true → is_heavy_as p o.class (Some q.vtype) ≡ true → ⊥
    no_two_arguments m i j q r less named at at' owning owning' held held' heavy = moved_is rules.Twice (rw two refl)
      where
        among : IsAmong (owners p a f.places) q.vtype
        among = rw named (owner_among a f.places 0 i i m.sig.params.items q (omega arith) at (and_from q.owning (holds_operand a f.places (i + 1)) owning held))

        more : 1 < length (owners p a f.places)
        more = rw named (two_owners a f.places 0 i j i j m.sig.params.items q r (omega arith) (omega arith) less at at' (and_from q.owning (holds_operand a f.places (i + 1)) owning held)
            (and_from r.owning (holds_operand a f.places (j + 1)) owning' held'))

        two : has_two_owners p o.class a f.places ≡ true
        two = and_from (are_two (length (owners p a f.places)) (target p a f.places)) (is_heavy_owner p o.class (owners p a f.places) || is_heavy_target p o.class (target p a f.places))
            (or_left (nat_lt 1 (length (owners p a f.places))) (nat_lt 0 (length (owners p a f.places)) && is_present (target p a f.places)) (lt-ltb 1 (length (owners p a f.places)) more))
            (or_left (is_heavy_owner p o.class (owners p a f.places)) (is_heavy_target p o.class (target p a f.places)) (among.any (λ t. is_heavy_as p o.class (Some t)) heavy))
