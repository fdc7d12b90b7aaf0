-- What a call of the library gives that has an aliased argument has the root of that argument.
use Rattle.std.proofs.Common.{◌≡◌, inl, inr, ℕ, zero, suc, ◌<◌, Bool, true, false, true≢false, Option, Some, None, List, eq-eqb, refl, sym, ap, ◌∙◌, subst, arith, if◌then◌else◌}
use Rattle.std.specs.Option.{option_map}
use Rattle.program_model.specs.declared.kinds.ClassId.{ClassId}
use Rattle.program_model.specs.declared.kinds.MethodId.{MethodId}
use Rattle.program_model.specs.declared.program.Method.{Method}
use Rattle.program_model.specs.declared.program.Program.{Program}
use Rattle.program_model.specs.Lookups.{method_at}
use Rattle.ledger_steps.specs.Bodies.{alias_in}
use Rattle.control_actions.specs.declared.action.Action.{Action}
use Rattle.control_actions.specs.declared.action.Action.TheVariants as actions
use Rattle.control_actions.specs.declared.action.Edge.{Edge}
use Rattle.control_actions.specs.declared.action.Edge.TheVariants as edges
use Rattle.ownership_rules.specs.Callees.{callee, holds_operand}
use Rattle.ownership_rules.specs.Facts.{PlaceSet, has_temp}
use Rattle.ownership_rules.specs.SmallActions.{IsSmallAction}
use Rattle.fact_laws.specs.Aliases.{gives_alias}
use Rattle.fact_laws.specs.Aliases as aliases
use Rattle.stub_conduct.specs.declared.choice.Choice.{Choice}
use Rattle.stub_conduct.specs.declared.choice.Conduct.{Conduct}
use Rattle.stub_conduct.specs.declared.choice.Conduct.TheVariants as conducts
use Rattle.fact_laws.specs.Accept.{Accept}
use Rattle.ledger_state.specs.Contents.{HeapContents}
use Rattle.ledger_state.specs.Heaps.{append, change_each, next_number, object_at, only_at, root, root_of, unfinished}
use Rattle.ledger_state.specs.Values.{number_of}
use Rattle.ledger_state.specs.declared.array.ArrayObject.{ArrayObject}
use Rattle.ledger_state.specs.declared.entry.Owner.TheVariants as owners
use Rattle.ledger_state.specs.declared.locals.Locals.{Locals}
use Rattle.ledger_state.specs.declared.object.Object.{Object}
use Rattle.ledger_state.specs.declared.value.Value.{Value}
use Rattle.ledger_state.specs.declared.value.Value.TheVariants as values
use Rattle.ledger_steps.specs.Obligations.{all_notes, noted_object, reset_in}
use Rattle.ledger_steps.specs.LedgerCallsCalls.{alias_position, arguments_moved, operand_of, params_in, position_of}
use Rattle.ledger_steps.specs.Conducts.{conduct_value, fresh_born, library_notes, made_by_new, on_this, positions, settled}
use Rattle.ledger_steps.specs.CallSteps.{library_called, library_heap, library_reset, library_roots}
use Rattle.agreement.specs.Heaps.{HasEarlierLinks}
use Rattle.agreement.proofs.LibraryCallLaws.{appended_object_at-object, changed_object_at-object, moves_make_nothing, numbers_are_in_range, roots_go_on-number, roots_of_links-linked}
use Rattle.agreement.specs.LibraryCalls.{IsAliasMadeAs, IsAliasOf}
use Rattle.agreement.specs.HeapAnew.{is_anew}
use Rattle.agreement.proofs.LibraryCallLaws.{any_library_aliases_are_older_or_made, any_library_links_stay, any_library_objects_go_on, aside_links}
use Rattle.agreement.specs.PlainForms.{IsAnsweredBy, IsPlainAction}
use Rattle.frame_laws.proofs.LibraryRuns.{one_alias}
use Rattle.frame_laws.specs.Steps.{is_super}
use Rattle.frame_laws.proofs.AliasConducts.{GivesAlias, gives_object, library_gives}
use Rattle.frame_laws.proofs.CallNames.{object_with_root, operand_is_near}
use Rattle.frame_laws.proofs.Chains.{object_there}
use Rattle.frame_laws.proofs.Ready.{named_gives_none}

-- the numbers of the operands are those of objects that are there
abbrev pub OperandsAreThere : HeapContents → Locals → Action → Type 0
OperandsAreThere h l a = (k w : ℕ) → number_of (operand_of l a k) ≡ Some w → (0 < w) × (w < next_number h)

module _ (p : Program) (l : Locals) (a : Action) (named m : Option Method) (d : Conduct) (at count : ℕ) (h : HeapContents) (links : HasEarlierLinks h)
    (there : OperandsAreThere h l a) (k : ℕ) (alias : alias_position m ≡ Some k) (o : ℕ) (root' : root_of h (operand_of l a k) ≡ Some o) where
  abbrev heap : HeapContents
  heap = library_heap p l a named m d at h

  abbrev value : Value
  value = conduct_value count m (positions l a (next_number h) d) (next_number h) d

  links_later : HasEarlierLinks heap
  links_later = any_library_links_stay p l a named m d at h links (λ j w same number. there j w number)

  -- the operand
  operand : (w : ℕ) × (operand_of l a k ≡ values.Object w) × (root h w ≡ o)
  operand = object_with_root h (operand_of l a k) o root'

  operand_there : (0 < operand.0) × (operand.0 < next_number h)
  operand_there = there k operand.0 (ap number_of operand.1)

  operand_root : root heap operand.0 ≡ o
  operand_root =
      let class : ClassId = record { 0 = 0 } in
      let x = object_there h operand.0 (unfinished class) operand_there.0 operand_there.1 in
      roots_go_on-number h heap operand.0 x.0 links (aside_links (is_anew p l a named m d h) h heap (any_library_objects_go_on p l a named m d at h)) x.1 ∙ operand.2

  position_is : (j : ℕ) → position_of None l a j ≡ operand_of l a j
  position_is zero = refl
  position_is (suc j) = refl

  -- the argument itself
  argument_is : (b : Action) (j : ℕ) → root_of h (operand_of l b j) ≡ Some o → position_of (made_by_new b (next_number h) conducts.Argument) l b j ≡ operand_of l b j
  argument_is actions.Skip zero is = refl
  argument_is actions.Skip (suc j) is = refl
  argument_is (actions.New c e n) zero is = absurd (let never : ◌≡◌ {A = Option ℕ} None (Some o) = is in cc)
  argument_is (actions.New c e n) (suc j) is = refl
  argument_is b zero is = refl
  argument_is b (suc j) is = refl

  -- the object that the call makes is there
  module _ (e : ClassId) where
    abbrev moved : HeapContents
    moved = arguments_moved p owners.Library l a named h

    abbrev made : HeapContents
    made = append moved e

    abbrev all : HeapContents → HeapContents
    all g = change_each (noted_object (all_notes p made (library_notes p made l a named m (next_number h) (conducts.Fresh e)))) g

    in_made : object_at made (next_number h) ≡ Some (unfinished e)
    in_made =
        appended_object_at-object moved e (next_number h)
        ∙ ap (λ (b : Bool). if b then Some (unfinished e) else object_at moved (next_number h)) (eq-eqb (next_number h) (next_number moved) (sym (moves_make_nothing p owners.Library (operand_of l a) 1 (params_in named) h)))

    -- a reset takes no object away
    abbrev reset : ℕ → Object → Object
    reset n x = reset_in p (library_called p l a named m (conducts.Fresh e) h) (library_roots p l a named m (conducts.Fresh e) h) n x

    in_called : (x : Object) × (object_at (library_reset p l a named m (conducts.Fresh e) h) (next_number h) ≡ Some x)
    in_called =
        let notes = all_notes p made (library_notes p made l a named m (next_number h) (conducts.Fresh e)) in (
          reset (next_number h) (noted_object notes (next_number h) (unfinished e)),
          changed_object_at-object reset (library_called p l a named m (conducts.Fresh e) h) (next_number h)
              ∙ ap (option_map (reset (next_number h))) (changed_object_at-object (noted_object notes) made (next_number h) ∙ ap (option_map (noted_object notes (next_number h))) in_made),
        )

    in_heap : (y : Object) × (object_at (library_heap p l a named m (conducts.Fresh e) at h) (next_number h) ≡ Some y)
    in_heap =
        let change = only_at (next_number h) (fresh_born p e m a at (position_of None l a)) in (
          change (next_number h) in_called.0,
          changed_object_at-object change (library_reset p l a named m (conducts.Fresh e) h) (next_number h) ∙ ap (option_map (change (next_number h))) in_called.1,
        )

  linked : (e : ClassId) → d ≡ conducts.Fresh e → (y : Object) → object_at heap (next_number h) ≡ Some y → IsAliasOf (Some operand.0) y
  linked e is y now = elim (any_library_aliases_are_older_or_made p l a named m d at h (next_number h) k y alias now) [
    | inl old ↦ absurd (let range = numbers_are_in_range h (next_number h) old.before old.at in let below = range.1 in omega (arith, below))
    | inr new ↦ subst (λ (w : Option ℕ). IsAliasOf w y) (ap number_of (position_is k ∙ operand.1)) (subst (λ (c : Conduct). IsAliasMadeAs l a k c y) is new.1).2
  ]

  pub fresh_root : (e : ClassId) → d ≡ conducts.Fresh e → root heap (next_number h) ≡ o
  fresh_root e is =
      let y = in_heap e in
      let now : object_at heap (next_number h) ≡ Some y.0 = ap (λ (c : Conduct). object_at (library_heap p l a named m c at h) (next_number h)) is ∙ y.1 in
      roots_of_links-linked heap (next_number h) y.0 (record { to = operand.0; by_library = true }) links_later now (linked e is y.0 now).1 ∙ operand_root

  pub alias_root : (n : Method) → GivesAlias p n d → ((e : ClassId) → d ≡ conducts.Throws e → ⊥) → root_of heap value ≡ Some o
  alias_root n gives normal = by d refl gives
    where
      by_conduct : (c : Conduct) → d ≡ c → root_of heap (conduct_value count m (positions l a (next_number h) c) (next_number h) c) ≡ Some o → root_of heap value ≡ Some o
      by_conduct c is root'' = ap (λ (x : Conduct). root_of heap (conduct_value count m (positions l a (next_number h) x) (next_number h) x)) is ∙ root''

      by : (c : Conduct) → d ≡ c → GivesAlias p n c → root_of heap value ≡ Some o
      by (conducts.Throws e) is good = absurd (normal e is)
      by (conducts.Fresh e) is good = by_conduct (conducts.Fresh e) is (ap Some (fresh_root e is))
      by conducts.Argument is good = by_conduct conducts.Argument is
          (ap (λ (x : Option ℕ). root_of heap (value_by x)) alias ∙ ap (root_of heap) (argument_is a k root' ∙ operand.1) ∙ ap Some operand_root)
        where
          value_by : Option ℕ → Value
          value_by None = values.Nothing
          value_by (Some j) = position_of (made_by_new a (next_number h) conducts.Argument) l a j
      by conducts.Null is good = absurd good
      by (conducts.Existing j) is good = absurd good
      by (conducts.Value z) is good = absurd good
      by conducts.Nothing is good = absurd good

-- ---- facts

pub same_alias : (m : Option Method) → alias_position m ≡ alias_in m
same_alias None = refl
same_alias (Some m) = refl

-- where a call gives an alias of the object that is at these places, its operand is at one of them
pub record GivesOperand (a : Action) (held : PlaceSet) (m : Option Method) : Type 0 where
  pub position : ℕ
  pub alias : alias_position m ≡ Some position
  pub small : position < 4294967296
  pub operand : holds_operand a held position ≡ true

pub gives_operand : (p : Program) (a : Action) (e : Edge) (held : PlaceSet) (m : Option Method) → IsSmallAction p a → callee p a ≡ m → gives_alias p a e held ≡ true → GivesOperand a held m × (e ≡ edges.Go)
gives_operand p a edges.Go held m small at gives = (by (alias_in m) refl, refl)
  where
    near : (j : ℕ) → holds_operand a held j ≡ true → j < 4294967296
    near zero is = omega arith
    near (suc j) is = let below = operand_is_near p a held j small (subst (λ (n : ℕ). holds_operand a held n ≡ true) (omega arith) is) in omega (arith, below)

    by : (x : Option ℕ) → alias_in m ≡ x → GivesOperand a held m
    by x is = go x is (ap (λ (y : Option Method). has_temp held (aliases.operand_of a (alias_in y))) (sym at) ∙ gives)
      where
        go : (y : Option ℕ) → alias_in m ≡ y → has_temp held (aliases.operand_of a (alias_in m)) ≡ true → GivesOperand a held m
        go None none one = absurd (true≢false (sym one ∙ ap (λ (z : Option ℕ). has_temp held (aliases.operand_of a z)) none))
        go (Some k) some one =
            let operand' : holds_operand a held k ≡ true = ap (λ (z : Option ℕ). has_temp held (aliases.operand_of a z)) (sym some) ∙ one in
            record { position = k; alias = same_alias m ∙ some; small = near k operand'; operand = operand' }
gives_operand p a edges.Null held m small at gives = absurd (true≢false (sym gives))
gives_operand p a edges.NonNull held m small at gives = absurd (true≢false (sym gives))
gives_operand p a edges.True held m small at gives = absurd (true≢false (sym gives))
gives_operand p a edges.False held m small at gives = absurd (true≢false (sym gives))
gives_operand p a (edges.Throws c) held m small at gives = absurd (true≢false (sym gives))

-- a super call of the plain forms gives no alias
pub plain_super : (p : Program) (a : Action) (e : Edge) (held : PlaceSet) → IsPlainAction p a → gives_alias p a e held ≡ true → is_super a ≡ false
plain_super p actions.Skip e held plain gives = refl
plain_super p (actions.Super m d n) e held plain gives = absurd (true≢false (sym gives ∙ named_gives_none p (actions.Super m d n) e held plain.2))
plain_super p a e held plain gives = refl

-- A call of the library gives an object whose root is the object of the fact, where it gives an alias of it. `operands`: the operands that are among
-- the places of the fact have it for their root. The library answers by the signature of the method `m`.
pub library_alias : (p : Program) (ac : Accept p) (h : HeapContents) (links : HasEarlierLinks h) (arrays : List ArrayObject) (l : Locals) (a : Action) (e : Edge) (held : PlaceSet) (named m : MethodId) (signed : Option Method) (d : Conduct) (at count o : ℕ)
    → IsSmallAction p a → IsPlainAction p a → callee p a ≡ method_at p named → IsAnsweredBy p named m → OperandsAreThere h l a
    → ((choice : Choice) × (d ≡ on_this a (settled p h arrays m choice (position_of None l a))))
    → ((x : ClassId) → d ≡ conducts.Throws x → (c : ClassId) × (e ≡ edges.Throws c))
    → ((k : ℕ) → k < 4294967296 → holds_operand a held k ≡ true → root_of h (operand_of l a k) ≡ Some o)
    → gives_alias p a e held ≡ true
    → root_of (library_heap p l a signed (method_at p m) d at h) (conduct_value count (method_at p m) (positions l a (next_number h) d) (next_number h) d) ≡ Some o
library_alias p ac h links arrays l a e held named m signed d at count o small plain same answers there by thrown operands gives = go (method_at p m) refl
  where
    given : GivesOperand a held (method_at p named) × (e ≡ edges.Go)
    given = gives_operand p a e held (method_at p named) small same gives

    alias : alias_position (method_at p m) ≡ Some given.0.position
    alias = one_alias p named m answers ∙ given.0.alias

    normal : (x : ClassId) → d ≡ conducts.Throws x → ⊥
    normal x is = let never : edges.Go ≡ edges.Throws (thrown x is).0 = sym given.1 ∙ (thrown x is).1 in cc

    of : (x : Method) → method_at p m ≡ Some x → GivesAlias p x d
    of x m_at =
        let its : x.sig.alias ≡ Some given.0.position = ap alias_position (sym m_at) ∙ alias in
        subst (GivesAlias p x) (sym by.1) (library_gives p x given.0.position its (gives_object p ac.well_formed m x m_at given.0.position its) h arrays m m_at by.0 (position_of None l a) a (plain_super p a e held plain gives))

    go : (x : Option Method) → method_at p m ≡ x
        → root_of (library_heap p l a signed (method_at p m) d at h) (conduct_value count (method_at p m) (positions l a (next_number h) d) (next_number h) d) ≡ Some o
    go None m_at = absurd (let never : None ≡ Some given.0.position = ap alias_position (sym m_at) ∙ alias in cc)
    go (Some x) m_at = alias_root p l a signed (method_at p m) d at count h links there given.0.position alias o (operands given.0.position given.0.small given.0.operand) x (of x m_at) normal
