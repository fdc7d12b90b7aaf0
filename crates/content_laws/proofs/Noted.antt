-- The notes of a call, on its receiver and of what it keeps: which names they add to what was called on an object.
use Rattle.std.specs.Prelude.{◌<◌, ◌||◌, ◌&&◌, ◌++◌}
use Rattle.std.specs.List.{All, range_with_len}
use Rattle.std.specs.FinSet as set
use Rattle.std.proofs.Common.{◌≡◌, ◌⊎◌, ℕ, zero, suc, ◌+◌, true, false, true≢false, Bool, Option, Some, None, List, [], ◌∷◌, slice_get, nat_eq, refl, sym, ap, subst, inl, inr, if◌then◌else◌, eqb-true, arith}
use Rattle.std.proofs.lemmas.Bool.{or_left, or_right}
use Rattle.std.proofs.lemmas.List.Elements.{All-cons, All-nil}
use Rattle.rlc_base.specs.declared.name_id.NameId.{NameId}
use Rattle.program_model.specs.NameSets.{Names}
use Rattle.program_model.specs.declared.kinds.Target.{Target}
use Rattle.program_model.specs.declared.kinds.Target.TheVariants as targets
use Rattle.program_model.specs.declared.program.Method.{Method}
use Rattle.program_model.specs.declared.program.Program.{Program}
use Rattle.program_model.specs.declared.program.Promise.{Promise}
use Rattle.control_actions.specs.declared.action.Action.{Action}
use Rattle.control_actions.specs.declared.action.TargetForm.{TargetForm}
use Rattle.control_actions.specs.declared.action.TargetForm.TheVariants as forms
use Rattle.ledger_state.specs.Contents.{HeapContents}
use Rattle.ledger_state.specs.Values.{number_of}
use Rattle.ledger_state.specs.declared.locals.Locals.{Locals}
use Rattle.ledger_state.specs.declared.object.Object.{Object}
use Rattle.ledger_state.specs.declared.value.Value.{Value}
use Rattle.ledger_obligations.specs.declared.note.Note.{Note}
use Rattle.ledger_obligations.specs.Obligations.{all_notes, has_note, keep_all, kept_name, name_of, note, noted, noted_object, same_note}
use Rattle.ledger_steps.specs.LedgerCallsCalls.{form_of, interest_in, keep_promise, kept_promise, kept_promises, note_by_form, note_of_object, operand_of, receiver_note}
use Rattle.covering_laws.specs.Heaps.{HasSmallName}
use Rattle.covering_laws.proofs.HeapLaws.{called_names_are_noted, kept_names_reach_contents}
use Rattle.covering_laws.proofs.NoteLists.{flat_from, has_either, has_one, same_note_self, small_names}
use Rattle.covering_laws.specs.FieldContents.{is_chosen_by_class}
use Rattle.content_laws.specs.Going.{IsDone, IsNotedBy}

-- ---- the note of the call

module _ (k n : ℕ) where
  abbrev IsIts : Option ℕ → Option NameId → Type 0
  IsIts receiver name = (receiver ≡ Some k) × ((i : NameId) × (name ≡ Some i) × (i.0 ≡ n))

  none_has : has_note [] (note false k (name_of n)) ≡ true → ⊥
  none_has is = true≢false (sym is)

  one_has : (j : ℕ) (i : NameId) → has_note (note false j i ∷ []) (note false k (name_of n)) ≡ true → IsIts (Some j) (Some i)
  one_has j i is = go (nat_eq k j) refl (nat_eq n i.0) refl is
    where
      go : (a : Bool) → nat_eq k j ≡ a → (b : Bool) → nat_eq n i.0 ≡ b → (((a && b) && true) || false) ≡ true → IsIts (Some j) (Some i)
      go true one true two has =
          let here : k ≡ j = eqb-true k j one in
          let name : n ≡ i.0 = eqb-true n i.0 two in
          (let some : Some j ≡ Some k = cc in some, (i, refl, sym name))
      go true one false two has = absurd (true≢false (sym has))
      go false one b two has = absurd (true≢false (sym has))

  of_object : (receiver : Option ℕ) (name : Option NameId) → has_note (note_of_object receiver name) (note false k (name_of n)) ≡ true → IsIts receiver name
  of_object None name is = absurd (none_has is)
  of_object (Some j) None is = absurd (none_has is)
  of_object (Some j) (Some i) is = one_has j i is

  of_form : (form : TargetForm) (receiver : Option ℕ) (name : Option NameId) → has_note (note_by_form form receiver name) (note false k (name_of n)) ≡ true → (is_chosen_by_class form ≡ true) × IsIts receiver name
  of_form forms.Static receiver name is = absurd (none_has is)
  of_form forms.Super receiver name is = absurd (none_has is)
  of_form forms.This receiver name is = (refl, of_object receiver name is)
  of_form forms.Other receiver name is = (refl, of_object receiver name is)

-- the name of the call has a small number, where there is one
small_object : (receiver : Option ℕ) (name : Option NameId) → ((i : NameId) → name ≡ Some i → i.0 < 128) → All HasSmallName (note_of_object receiver name)
small_object None name small = All-nil HasSmallName
small_object (Some j) None small = All-nil HasSmallName
small_object (Some j) (Some i) small = All-cons HasSmallName (note false j i) [] (small i refl) (All-nil HasSmallName)

small_form : (form : TargetForm) (receiver : Option ℕ) (name : Option NameId) → ((i : NameId) → name ≡ Some i → i.0 < 128) → All HasSmallName (note_by_form form receiver name)
small_form forms.Static receiver name small = All-nil HasSmallName
small_form forms.Super receiver name small = All-nil HasSmallName
small_form forms.This receiver name small = small_object receiver name small
small_form forms.Other receiver name small = small_object receiver name small

-- ---- what a call keeps

-- a kept note, of a name of the table
abbrev pub IsKeptNote : Note → Type 0
IsKeptNote b = (b.kept ≡ true) × (b.name.0 < 128)

in_table : (a n j i : ℕ) → slice_get (range_with_len a n) j ≡ Some i → i < a + n
in_table a zero j i at = absurd (let never : None ≡ Some i = at in cc)
in_table a (suc n) zero i at = let same : a ≡ i = (let both : Some a ≡ Some i = at in cc) in omega (arith, same)
in_table a (suc n) (suc j) i at = let below = in_table (a + 1) n j i at in omega (arith, below)

one_kept : (k : ℕ) (names : Names) (i : ℕ) (b : Note) → i < 128 → has_note (kept_name k names i) b ≡ true → IsKeptNote b
one_kept k names i b small has = go (set.contains names i) has
  where
    go : (x : Bool) → has_note (if x then note true k (name_of i) ∷ [] else []) b ≡ true → IsKeptNote b
    go true is =
        let one = has_one (note true k (name_of i)) b is in
        (ap (λ (c : Note). c.kept) one, subst (λ (c : Note). c.name.0 < 128) (sym one) small)
    go false is = absurd (true≢false (sym is))

all_kept : (k : Option ℕ) (names : Names) (b : Note) → has_note (keep_all k names) b ≡ true → IsKeptNote b
all_kept None names b has = absurd (true≢false (sym has))
all_kept (Some k) names b has =
    let from = flat_from (kept_name k names) (range_with_len 0 128) b has in
    one_kept k names from.0 b (in_table 0 128 from.1 from.0 from.2) from.3

target_kept : (p : Program) (h : HeapContents) (at : ℕ → Value) (q : Promise) (t : Target) (b : Note) → has_note (keep_promise p h at q t) b ≡ true → IsKeptNote b
target_kept p h at q (targets.At k) b has = all_kept _ q.names b has
target_kept p h at q (targets.OfField f) b has = all_kept _ q.names b has

promises_kept : (p : Program) (h : HeapContents) (at : ℕ → Value) (qs : List Promise) (b : Note) → has_note (kept_promises p h at qs) b ≡ true → IsKeptNote b
promises_kept p h at qs b has =
    let from = flat_from (kept_promise p h at) qs b has in
    target_kept p h at from.0 from.0.target b from.3

-- ---- the notes of a call

each_small : (ns : List Note) → ((a : Note) → has_note ns a ≡ true → a.name.0 < 128) → All HasSmallName ns
each_small [] each = All-nil HasSmallName
each_small (b ∷ bs) each =
    All-cons HasSmallName b bs (each b (or_left (same_note b b) (has_note bs b) (same_note_self b))) (each_small bs (λ a has. each a (or_right (same_note a b) (has_note bs a) has)))

-- the notes have names of the table, and those that are not kept are the call's on its receiver
pub record AreNotesOf (l : Locals) (a : Action) (named : Option Method) (notes : List Note) : Type 0 where
  pub small : All HasSmallName notes
  pub first : (k n : ℕ) → has_note notes (note false k (name_of n)) ≡ true → IsNotedBy l a named k n

pub receiver_notes : (l : Locals) (a : Action) (named : Option Method) → ((i : NameId) → interest_in named ≡ Some i → i.0 < 128) → AreNotesOf l a named (receiver_note l a named)
receiver_notes l a named small = record {
  small = small_form (form_of a) (number_of (operand_of l a 0)) (interest_in named) small;
  first = λ k n has. (let its = of_form k n (form_of a) (number_of (operand_of l a 0)) (interest_in named) has in record {
    chosen = its.0;
    receiver = its.1.0;
    name = its.1.1.0;
    interest = its.1.1.1;
    number = its.1.1.2;
  });
}

-- with what it keeps
pub kept_notes : (p : Program) (h : HeapContents) (at : ℕ → Value) (qs : List Promise) (l : Locals) (a : Action) (named : Option Method) → ((i : NameId) → interest_in named ≡ Some i → i.0 < 128)
    → AreNotesOf l a named (receiver_note l a named ++ kept_promises p h at qs)
kept_notes p h at qs l a named small = record {
  small = each_small (receiver_note l a named ++ kept_promises p h at qs) (λ b has. elim (has_either (receiver_note l a named) (kept_promises p h at qs) b has) [
    | inl call ↦ small_names (receiver_note l a named) its.small b call
    | inr kept ↦ (promises_kept p h at qs b kept).1
  ]);
  first = λ k n has. elim (has_either (receiver_note l a named) (kept_promises p h at qs) (note false k (name_of n)) has) [
    | inl call ↦ its.first k n call
    | inr kept ↦ absurd (true≢false (sym (promises_kept p h at qs (note false k (name_of n)) kept).0))
  ];
}
  where
    its : AreNotesOf l a named (receiver_note l a named)
    its = receiver_notes l a named small

-- ---- which names are added

-- A name that was called on an object after the notes was called before; or the object is the receiver and it is the name of the call; or all
-- was done that the object's own method of that name promises.
pub noted_called : (p : Program) (h : HeapContents) (l : Locals) (a : Action) (named : Option Method) (notes : List Note) → AreNotesOf l a named notes → (k n : ℕ) (x : Object)
    → set.contains (noted_object (all_notes p h notes) k x).called n ≡ true → (set.contains x.called n ≡ true) ⊎ (IsNotedBy l a named k n ⊎ IsDone p h (noted p notes h) k n)
noted_called p h l a named notes its k n x is = elim (called_names_are_noted p notes h k n x is) [
  | inl old ↦ inl old
  | inr new ↦ elim new [
    | inl first ↦ inr (inl (its.first k n first))
    | inr kept ↦ inr (inr (λ x' z y f c o i there owning held leads at now promised low. kept_names_reach_contents p notes h k c o i (name_of n) x' y f its.small kept there promised low held leads now))
  ]
]
