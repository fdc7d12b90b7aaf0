-- The names that a call of the library notes are those of the table, and no field is stored while arguments move and an object is made.
use Rattle.std.proofs.Common.{◌≡◌, ℕ, zero, suc, ◌+◌, ◌<◌, Bool, true, false, Option, Some, None, List, [], ◌∷◌, ◌++◌, slice_get, refl, sym, ap, ◌∙◌, subst, true≢false, if◌then◌else◌, arith, inl, inr}
use Rattle.std.proofs.lemmas.Bool.{or_left, or_right}
use Rattle.std.proofs.lemmas.List.Elements.{All-cons, All-nil}
use Rattle.std.specs.FinSet as set
use Rattle.std.specs.List.{All, range_with_len}
use Rattle.rlc_base.specs.declared.name_id.NameId.{NameId}
use Rattle.program_model.specs.declared.kinds.Target.{Target}
use Rattle.program_model.specs.declared.kinds.Target.TheVariants as targets
use Rattle.program_model.specs.declared.program.Method.{Method}
use Rattle.program_model.specs.declared.program.ParamSig.{ParamSig}
use Rattle.program_model.specs.declared.program.Program.{Program}
use Rattle.program_model.specs.declared.program.Promise.{Promise}
use Rattle.ledger_obligations.specs.MustCallSets.{Names}
use Rattle.control_actions.specs.declared.action.Action.{Action}
use Rattle.control_actions.specs.declared.action.TargetForm.{TargetForm}
use Rattle.control_actions.specs.declared.action.TargetForm.TheVariants as forms
use Rattle.stub_conduct.specs.declared.choice.Conduct.{Conduct}
use Rattle.stub_conduct.specs.declared.choice.Conduct.TheVariants as conducts
use Rattle.ledger_state.specs.Contents.{HeapContents}
use Rattle.ledger_state.specs.Heaps.{change_some, root_of}
use Rattle.ledger_state.specs.Values.{number_of}
use Rattle.ledger_state.specs.declared.entry.Owner.{Owner}
use Rattle.ledger_state.specs.declared.locals.Locals.{Locals}
use Rattle.ledger_state.specs.declared.object.Object.{Object}
use Rattle.ledger_state.specs.declared.value.Value.{Value}
use Rattle.ledger_obligations.specs.declared.note.Note.{Note}
use Rattle.ledger_obligations.specs.Obligations.{has_note, keep_all, kept_name, move, moved_to, name_of, note, same_note}
use Rattle.ledger_steps.specs.LedgerCallsCalls.{form_of, interest_in, keep_promise, kept_promise, kept_promises, move_param, move_params, note_by_form, note_of_object, operand_of, receiver_note}
use Rattle.ledger_steps.specs.Conducts.{object_made}
use Rattle.heap_laws.specs.Heaps.{HasSmallName}
use Rattle.heap_laws.proofs.NoteLists.{flat_from, has_either, has_one, same_note_self, small_names}
use Rattle.heap_laws.specs.LibraryCalls.{HasSmallInterest}

-- ---- the names

-- the name of the call has a small number, where there is one
small_object : (receiver : Option ℕ) (name : Option NameId) → ((i : NameId) → name ≡ Some i → i.0 < 128) → All HasSmallName (note_of_object receiver name)
small_object None name small = All-nil HasSmallName
small_object (Some j) None small = All-nil HasSmallName
small_object (Some j) (Some i) small = All-cons HasSmallName (note false j i) [] (small i refl) (All-nil HasSmallName)

small_form : (form : TargetForm) (receiver : Option ℕ) (name : Option NameId) → ((i : NameId) → name ≡ Some i → i.0 < 128) → All HasSmallName (note_by_form form receiver name)
small_form forms.Static receiver name small = All-nil HasSmallName
small_form forms.Super receiver name small = All-nil HasSmallName
small_form forms.This receiver name small = small_object receiver name small
small_form forms.Other receiver name small = small_object receiver name small

-- ---- what a call keeps

-- a kept note, of a name of the table
abbrev pub IsKeptNote : Note → Type 0
IsKeptNote b = (b.kept ≡ true) × (b.name.0 < 128)

in_table : (a n j i : ℕ) → slice_get (range_with_len a n) j ≡ Some i → i < a + n
in_table a zero j i at = absurd (let never : None ≡ Some i = at in cc)
in_table a (suc n) zero i at = let same : a ≡ i = (let both : Some a ≡ Some i = at in cc) in omega (arith, same)
in_table a (suc n) (suc j) i at = let below = in_table (a + 1) n j i at in omega (arith, below)

one_kept : (k : ℕ) (names : Names) (i : ℕ) (b : Note) → i < 128 → has_note (kept_name k names i) b ≡ true → IsKeptNote b
one_kept k names i b small has = go (set.contains names i) has
  where
    go : (x : Bool) → has_note (if x then note true k (name_of i) ∷ [] else []) b ≡ true → IsKeptNote b
    go true is =
        let one = has_one (note true k (name_of i)) b is in
        (ap (λ (c : Note). c.kept) one, subst (λ (c : Note). c.name.0 < 128) (sym one) small)
    go false is = absurd (true≢false (sym is))

all_kept : (k : Option ℕ) (names : Names) (b : Note) → has_note (keep_all k names) b ≡ true → IsKeptNote b
all_kept None names b has = absurd (true≢false (sym has))
all_kept (Some k) names b has =
    let from = flat_from (kept_name k names) (range_with_len 0 128) b has in
    one_kept k names from.0 b (in_table 0 128 from.1 from.0 from.2) from.3

target_kept : (p : Program) (h : HeapContents) (at : ℕ → Value) (q : Promise) (t : Target) (b : Note) → has_note (keep_promise p h at q t) b ≡ true → IsKeptNote b
target_kept p h at q (targets.At k) b has = all_kept _ q.names b has
target_kept p h at q (targets.OfField f) b has = all_kept _ q.names b has

promises_kept : (p : Program) (h : HeapContents) (at : ℕ → Value) (qs : List Promise) (b : Note) → has_note (kept_promises p h at qs) b ≡ true → IsKeptNote b
promises_kept p h at qs b has =
    let from = flat_from (kept_promise p h at) qs b has in
    target_kept p h at from.0 from.0.target b from.3

-- ---- the notes of a call

each_small : (ns : List Note) → ((a : Note) → has_note ns a ≡ true → a.name.0 < 128) → All HasSmallName ns
each_small [] each = All-nil HasSmallName
each_small (b ∷ bs) each =
    All-cons HasSmallName b bs (each b (or_left (same_note b b) (has_note bs b) (same_note_self b))) (each_small bs (λ a has. each a (or_right (same_note a b) (has_note bs a) has)))

pub call_names : (p : Program) (h : HeapContents) (at : ℕ → Value) (qs : List Promise) (l : Locals) (a : Action) (named : Option Method) → HasSmallInterest named
    → All HasSmallName (receiver_note l a named ++ kept_promises p h at qs)
call_names p h at qs l a named small = each_small (receiver_note l a named ++ kept_promises p h at qs) (λ b has. elim (has_either (receiver_note l a named) (kept_promises p h at qs) b has) [
  | inl call ↦ small_names (receiver_note l a named) (small_form (form_of a) (number_of (operand_of l a 0)) (interest_in named) small) b call
  | inr kept ↦ (promises_kept p h at qs b kept).1
])

-- ---- the fields

some_fields : (r : Option ℕ) (change : Object → Object) (h : HeapContents) → (change_some r change h).fields ≡ h.fields
some_fields None change h = refl
some_fields (Some k) change h = refl

param_fields : (p : Program) (o : Owner) (v : Value) (q : ParamSig) (h : HeapContents) → (move_param p o v q h).fields ≡ h.fields
param_fields p o v q h = go q.owning
  where
    go : (b : Bool) → (if b then move p q.vtype o v h else h).fields ≡ h.fields
    go true = some_fields (root_of h v) (moved_to p q.vtype o) h
    go false = refl

pub params_fields : (p : Program) (o : Owner) (at : ℕ → Value) (k : ℕ) (qs : List ParamSig) (h : HeapContents) → (move_params p o at k qs h).fields ≡ h.fields
params_fields p o at k [] h = refl
params_fields p o at k (q ∷ qs) h = params_fields p o at (k + 1) qs (move_param p o (at k) q h) ∙ param_fields p o (at k) q h

pub made_fields : (d : Conduct) (h : HeapContents) → (object_made d h).fields ≡ h.fields
made_fields conducts.Null h = refl
made_fields (conducts.Throws e) h = refl
made_fields (conducts.Fresh e) h = refl
made_fields d h = refl
