-- The names that a fact which covers a place knows after a call: its own, that of the method where it has the receiver, and what the
-- signature promises on the targets that it has.
use Rattle.std.proofs.Common.{◌≡◌, ℕ, suc, ◌<◌, Bool, true, false, Option, Some, None, List, [], ◌∷◌, slice_get, nat_lt, refl, sym, ap, ◌∙◌, subst, true≢false, if◌then◌else◌}
use Rattle.std.specs.FinSet as set
use Rattle.rlc_base.specs.declared.name_id.NameId.{NameId}
use Rattle.rlc_base.proofs.SetLaws.{empty_within, insert_within, union_within, within_trans}
use Rattle.program_model.specs.declared.kinds.BodyId.{BodyId}
use Rattle.program_model.specs.declared.kinds.MethodId.{MethodId}
use Rattle.program_model.specs.declared.program.Program.{Program}
use Rattle.program_model.specs.declared.program.Promise.{Promise}
use Rattle.ledger_obligations.specs.MustCallSets.{Names, no_names}
use Rattle.ownership_rules.specs.Signatures.{when}
use Rattle.java_control.specs.Calls.{operand_at}
use Rattle.control_actions.specs.declared.action.Action.{Action}
use Rattle.control_actions.specs.declared.action.Action.TheVariants as actions
use Rattle.control_actions.specs.declared.action.Edge.{Edge}
use Rattle.control_actions.specs.declared.fact.Fact.{Fact}
use Rattle.control_actions.specs.declared.place.Place.TheVariants as places
use Rattle.ownership_rules.specs.Callees.{callee, holds_operand, is_super_target}
use Rattle.ownership_rules.specs.Facts.{PlaceSet, has}
use Rattle.ownership_rules.specs.SmallActions.{IsSmallAction, IsSmallTemp}
use Rattle.ownership_rules.proofs.SmallOperands.{operand_has_room}
use Rattle.value_laws.specs.CalledRows.{called_after, called_at_call, called_by, holds_receiver, holds_target, interest_in, is_emptied, promised_at, promises_at, with_name}
use Rattle.ledger_state.specs.Contents.{HeapContents}
use Rattle.ledger_state.specs.Heaps.{root_of}
use Rattle.ledger_state.specs.Locals.{temp_in, temp_value}
use Rattle.ledger_state.specs.declared.locals.Locals.{Locals}
use Rattle.ledger_steps.specs.LedgerCallsCalls.{depth_at, operand_of}
use Rattle.value_laws.specs.Outcomes.{IsCallRow}
use Rattle.value_laws.proofs.CallNames.{depth_is, holds_at}
use Rattle.covering_laws.proofs.SaidFacts.{HoldsApart}

-- ---- operands

-- the operand of a fact's place is its object
pub operand_holds : (p : Program) (h : HeapContents) (m : MethodId) (l : Locals) (a : Action) (o k : ℕ) (held : PlaceSet) → IsSmallAction p a → k < 4294967296
    → HoldsApart p h m l o held → holds_operand a held k ≡ true → root_of h (operand_of l a k) ≡ Some o
operand_holds p h m l a o k held small below hold is =
    let d = holds_at held (operand_at a k) is in
    let room : d.0 < 64 = subst IsSmallTemp d.1 (operand_has_room p a k small) in
    ap (λ (x : Option ℕ). root_of h (temp_in l x)) (depth_is a k d.0 below d.1) ∙ hold (places.Temp d.0) room refl d.2

-- the temp of an operand that is an object
pub operand_temp : (l : Locals) (a : Action) (k : ℕ) (h : HeapContents) (o : ℕ) → root_of h (operand_of l a k) ≡ Some o → (n : ℕ) × (operand_at a k ≡ Some n) × (operand_of l a k ≡ temp_value l n)
operand_temp l a k h o root = go (depth_at a k) refl
  where
    at_depth : (n : ℕ) (b : Bool) → (if b then operand_at a k else None) ≡ Some n → operand_at a k ≡ Some n
    at_depth n true is = is
    at_depth n false is = absurd (let never : None ≡ Some n = is in cc)

    go : (x : Option ℕ) → depth_at a k ≡ x → (n : ℕ) × (operand_at a k ≡ Some n) × (operand_of l a k ≡ temp_value l n)
    go None is = absurd (let never : None ≡ Some o = ap (λ (d : Option ℕ). root_of h (temp_in l d)) (sym is) ∙ root in cc)
    go (Some n) is = (n, at_depth n (nat_lt k 4294967296) is, ap (temp_in l) is)

-- the super class's part of `this` is none of the places that hold an object
no_super : (p : Program) (h : HeapContents) (m : MethodId) (l : Locals) (o : ℕ) (held : PlaceSet) → HoldsApart p h m l o held → has held places.Super ≡ false
no_super p h m l o held hold = go (has held places.Super) refl
  where
    go : (b : Bool) → has held places.Super ≡ b → has held places.Super ≡ false
    go true is = absurd (let never : ◌≡◌ {A = Option ℕ} None (Some o) = hold places.Super tt refl is in cc)
    go false is = is

-- so the receiver is the operand of position 0, and the call is not `super.m()`
pub receiver_is_operand : (p : Program) (h : HeapContents) (m : MethodId) (l : Locals) (o : ℕ) (a : Action) (held : PlaceSet) → HoldsApart p h m l o held → holds_receiver a held ≡ true
    → (is_super_target a ≡ false) × (holds_operand a held 0 ≡ true)
receiver_is_operand p h m l o a held hold is = go (is_super_target a) refl is
  where
    go : (b : Bool) → is_super_target a ≡ b → (if b then has held places.Super else holds_operand a held 0) ≡ true → (is_super_target a ≡ false) × (holds_operand a held 0 ≡ true)
    go true super one = absurd (true≢false (sym one ∙ no_super p h m l o held hold))
    go false other one = (other, one)

-- ---- names

-- what was called on the object has the name of the call
own_name : (p : Program) (a : Action) (held : PlaceSet) (called names : Names) → set.is_subset called names ≡ true
    → ((n : NameId) → holds_receiver a held ≡ true → interest_in (callee p a) ≡ Some n → set.contains names n.0 ≡ true)
    → set.is_subset (called_at_call p a held called) names ≡ true
own_name p a held called names known noted = go (holds_receiver a held) refl
  where
    named : (i : Option NameId) → interest_in (callee p a) ≡ i → holds_receiver a held ≡ true → set.is_subset (with_name called i) names ≡ true
    named None same is = known
    named (Some n) same is = insert_within called names n.0 known (noted n is same)

    go : (x : Bool) → holds_receiver a held ≡ x → set.is_subset (if x then with_name called (interest_in (callee p a)) else called) names ≡ true
    go true is = named (interest_in (callee p a)) refl is
    go false is = known

-- each of these promises whose target the fact has was kept
abbrev pub AreKept : Program → BodyId → Action → PlaceSet → Names → List Promise → Type 0
AreKept p b a held names [] = Unit {0}
AreKept p b a held names (x ∷ xs) = (holds_target p b a held x.target ≡ true → set.is_subset x.names names ≡ true) × AreKept p b a held names xs

-- all of these promises are kept where each is
pub all_kept : (p : Program) (b : BodyId) (a : Action) (held : PlaceSet) (names : Names) (xs : List Promise)
    → ((j : ℕ) (q : Promise) → slice_get xs j ≡ Some q → holds_target p b a held q.target ≡ true → set.is_subset q.names names ≡ true) → AreKept p b a held names xs
all_kept p b a held names [] each = tt
all_kept p b a held names (x ∷ xs) each = (each 0 x refl, all_kept p b a held names xs (λ j q is. each (suc j) q is))

-- they are kept among more names
pub kept_further : (p : Program) (b : BodyId) (a : Action) (held : PlaceSet) (names more : Names) (xs : List Promise) → set.is_subset names more ≡ true → AreKept p b a held names xs → AreKept p b a held more xs
kept_further p b a held names more [] less kept = tt
kept_further p b a held names more (x ∷ xs) less kept = ((λ holds. within_trans x.names names more (kept.0 holds) less), kept_further p b a held names more xs less kept.1)

promised_names_kept : (p : Program) (b : BodyId) (a : Action) (held : PlaceSet) (names : Names) (xs : List Promise) → AreKept p b a held names xs → set.is_subset (promised_at p b a held xs) names ≡ true
promised_names_kept p b a held names [] kept = empty_within names
promised_names_kept p b a held names (x ∷ xs) kept =
    union_within (when (holds_target p b a held x.target) x.names) (promised_at p b a held xs) names (go (holds_target p b a held x.target) refl) (promised_names_kept p b a held names xs kept.1)
  where
    go : (t : Bool) → holds_target p b a held x.target ≡ t → set.is_subset (when t x.names) names ≡ true
    go true is = kept.0 is
    go false is = empty_within names

both_known : (p : Program) (b : BodyId) (a : Action) (e : Edge) (f : Fact) (names : Names) → set.is_subset f.called names ≡ true
    → (is_emptied p a f.places ≡ false → (n : NameId) → holds_receiver a f.places ≡ true → interest_in (callee p a) ≡ Some n → set.contains names n.0 ≡ true)
    → (is_emptied p a f.places ≡ false → AreKept p b a f.places names (promises_at p a e)) → set.is_subset (called_by p b a e f) names ≡ true
both_known p b a e f names known noted kept = go (is_emptied p a f.places) refl
  where
    go : (x : Bool) → is_emptied p a f.places ≡ x → set.is_subset (if x then no_names else set.union (called_at_call p a f.places f.called) (promised_at p b a f.places (promises_at p a e))) names ≡ true
    go true emptied = empty_within names
    go false none =
        union_within (called_at_call p a f.places f.called) (promised_at p b a f.places (promises_at p a e)) names
        (own_name p a f.places f.called names known (noted none)) (promised_names_kept p b a f.places names (promises_at p a e) (kept none))

-- all names that the fact knows after the call, where it is not emptied
pub known_unless_emptied : (p : Program) (b : BodyId) (a : Action) (e : Edge) (f : Fact) (names : Names) → IsCallRow a → set.is_subset f.called names ≡ true
    → (is_emptied p a f.places ≡ false → (n : NameId) → holds_receiver a f.places ≡ true → interest_in (callee p a) ≡ Some n → set.contains names n.0 ≡ true)
    → (is_emptied p a f.places ≡ false → AreKept p b a f.places names (promises_at p a e)) → set.is_subset (called_after p b a e f) names ≡ true
known_unless_emptied p b actions.Skip e f names row known noted kept = absurd row
known_unless_emptied p b (actions.Call m d n form) e f names row known noted kept = both_known p b (actions.Call m d n form) e f names known noted kept
known_unless_emptied p b (actions.New m d n) e f names row known noted kept = both_known p b (actions.New m d n) e f names known noted kept
known_unless_emptied p b (actions.Super m d n) e f names row known noted kept = both_known p b (actions.Super m d n) e f names known noted kept
known_unless_emptied p b a e f names row known noted kept = absurd row

pub known_after_call : (p : Program) (b : BodyId) (a : Action) (e : Edge) (f : Fact) (names : Names) → IsCallRow a → set.is_subset f.called names ≡ true
    → ((n : NameId) → holds_receiver a f.places ≡ true → interest_in (callee p a) ≡ Some n → set.contains names n.0 ≡ true)
    → AreKept p b a f.places names (promises_at p a e) → set.is_subset (called_after p b a e f) names ≡ true
known_after_call p b a e f names row known noted kept = known_unless_emptied p b a e f names row known (λ none. noted) (λ none. kept)
