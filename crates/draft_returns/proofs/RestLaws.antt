-- What a return leaves settled, and how it is taken back.
use Rattle.std.proofs.Common.{◌≡◌, ◌∙◌, ap, sym, refl, ℕ, ◌+◌, Bool, true, false, not, ◌||◌, nat_eq, Option, Some, None, List, [], ◌∷◌, ◌++◌, length, arith}
use Rattle.std.proofs.lemmas.Grind.{common_steps}
use Rattle.std.specs.Prelude.{if◌then◌else◌}
use Rattle.ledger_state.specs.declared.entry.Owner.{Owner}
use Rattle.ledger_state.specs.declared.entry.Owner.TheVariants as owners
use Rattle.ledger_state.specs.declared.object.Link.{Link}
use Rattle.ledger_state.specs.declared.object.Object.{Object}
use Rattle.ledger_state.specs.declared.value.Value.{Value}
use Rattle.program_model.specs.declared.kinds.ClassId.{ClassId}
use Rattle.program_model.specs.declared.program.Method.{Method}
use Rattle.program_model.specs.declared.program.Program.{Program}
use Rattle.rlc_base.specs.declared.place.Pos.{Pos}
use Rattle.control_actions.specs.declared.action.Action.{Action}
use Rattle.ledger_state.specs.declared.entry.Entry.{Entry}
use Rattle.ledger_state.specs.declared.entry.LeakWord.TheVariants as words
use Rattle.ledger_state.specs.declared.locals.Locals.{Locals}
use Rattle.ledger_steps.specs.Entries.{by_number, leak_entries, owner_entries}
use Rattle.ledger_steps.specs.Ends.{call_end_entries, call_ended, frame_end_leaks, frame_gone, result_moved, returned, returned_heap}
use Rattle.ledger_state.specs.Contents.{HeapContents}
use Rattle.ledger_state.specs.Heaps.{has_number, object_at}
use Rattle.ledger_obligations.specs.Obligations.{held_at, holds, is_frame, is_unmet, lose}
use Rattle.draft_steps.specs.Settled.{Settled, is_kept, is_settled}
use Rattle.object_index.specs.FrameOwners.{Listed, is_listed, list_at}
use Rattle.heap_drafts.specs.declared.saved.SavedObject.{SavedObject}
use Rattle.heap_drafts.specs.Drafts.{Drafted, is_saved, roots_of}
use Rattle.heap_drafts.proofs.DraftLaws.{drafted_on}
use Rattle.heap_drafts.proofs.SettledLaws.{rest_settled}
use Rattle.draft_returns.specs.DraftReturns.{ListedRest, OwnedSaved}

-- At the start nothing is saved

owner_listed : (lists : List (List ℕ)) (o : Owner) (j k : ℕ) → is_listed lists o k ≡ true → is_frame o j ≡ true → has_number (list_at lists j) k ≡ true
owner_listed lists (owners.Frame i) j k listed own = let same : i ≡ j = grind (arith, common_steps, own) in ap (λ m. has_number (list_at lists m) k) (sym same) ∙ listed
owner_listed lists (owners.Field w f) j k listed own = absurd (cc)
owner_listed lists owners.Library j k listed own = absurd (cc)
owner_listed lists owners.Released j k listed own = absurd (cc)
owner_listed lists owners.Lost j k listed own = absurd (cc)
owner_listed lists owners.Unowned j k listed own = absurd (cc)

pub listed_first : (j : ℕ) (lists : List (List ℕ)) (ks : List ℕ) (h : HeapContents) → Listed lists h → ks ≡ list_at lists j → ListedRest j ks [] h
listed_first j lists ks h listed is k x found none own = ap (λ js. has_number js k) is ∙ owner_listed lists x.owner j k (listed k x found) own

-- The frame that ends holds nothing any more, and owns nothing

without_top : (h : HeapContents) (ended : List Value) (rest : List (List Value)) (o : Owner) (l : Option Link) (k : ℕ) → is_frame o (length rest + 1) ≡ false → is_kept h (ended ∷ rest) o l k ≡ true → is_kept h rest o l k ≡ true
without_top h ended rest (owners.Frame j) None k other kept =
    let apart : nat_eq (length rest + 1) j ≡ false = grind (arith, common_steps, other) in
    sym (ap (λ b. holds h (if b then ended else held_at rest j) k) apart) ∙ kept
without_top h ended rest (owners.Frame j) (Some l) k other kept = kept
without_top h ended rest (owners.Field w f) l k other kept = refl
without_top h ended rest owners.Library l k other kept = refl
without_top h ended rest owners.Released l k other kept = refl
without_top h ended rest owners.Lost l k other kept = refl
without_top h ended rest owners.Unowned l k other kept = refl

settled_below : (h : HeapContents) (ended : List Value) (rest : List (List Value)) (k : ℕ) (x : Object) → is_frame x.owner (length rest + 1) ≡ false → is_settled h (ended ∷ rest) k x ≡ true → is_settled h rest k x ≡ true
settled_below h ended rest k x other settled = go (is_unmet x) refl settled
  where
    go : (u : Bool) → is_unmet x ≡ u → (not u || is_kept h (ended ∷ rest) x.owner x.link k) ≡ true → (not (is_unmet x) || is_kept h rest x.owner x.link k) ≡ true
    go false e s = ap (λ b. not b || is_kept h rest x.owner x.link k) e
    go true e s = ap (λ b. not b || is_kept h rest x.owner x.link k) e ∙ without_top h ended rest x.owner x.link k other s

-- what the return does not save, and what the caller did not hold before, is settled
pub return_rest : (h f g : HeapContents) (ended old new : List Value) (rest : List (List Value)) (bs cs : List SavedObject) (j : ℕ) → j ≡ length rest + 1 + 1 → Settled h (ended ∷ old ∷ rest) → Drafted [] h bs f → OwnedSaved j bs h → Drafted bs f cs g → (k : ℕ) (x : Object) → object_at g k ≡ Some x → is_saved cs k ≡ false → has_number (roots_of h old) k ≡ false → is_settled g (new ∷ rest) k x ≡ true
return_rest h f g ended old new rest bs cs j at settled first owned second k x there unsaved none =
    rest_settled h g old new rest k x there whole.links whole.longer none
    (settled_below h ended (old ∷ rest) k x (ap (is_frame x.owner) (sym place) ∙ other (is_frame x.owner j) refl) (settled k x found))
  where
    whole : Drafted [] h cs g
    whole = drafted_on [] h bs f cs g first second

    found : object_at h k ≡ Some x
    found = sym (whole.others k unsaved) ∙ there

    place : j ≡ length (old ∷ rest) + 1
    place = omega (arith, at)

    other : (b : Bool) → is_frame x.owner j ≡ b → is_frame x.owner j ≡ false
    other false e = e
    other true e = let bad : true ≡ false = sym (second.more k (owned k x found e)) ∙ unsaved in absurd (cc)

-- The lines of a return

pub return_lines : (p : Program) (at pos : Pos) (i : ℕ) (self : Value) (l : Locals) (a : Action) (runs named : Option Method) (v : Value) (e : Option ClassId) (h f g : HeapContents) (held : List (List Value)) (ls ms os ks : List Entry) → f ≡ frame_gone p i self runs v e h → g ≡ call_ended p i self l a named e f → ms ≡ call_end_entries p at i self l a named e f → os ≡ owner_entries p at h (result_moved p i runs v e h) → ls ≡ ms ++ os → ks ≡ frame_end_leaks p pos i self runs v e h → (ls ++ by_number (lose held g) (ks ++ leak_entries p words.Lost at g (lose held g))) ≡ (returned p h i self l a runs named v e pos at held).lines
return_lines p at pos i self l a runs named v e h f g held ls ms os ks gone ended called moved joined left =
    λ n. lines n ++ by_number (lose held (whole n)) (left n ++ leak_entries p words.Lost at (whole n) (lose held (whole n)))
  where
    whole : g ≡ returned_heap p i self l a runs named v e h
    whole = ended ∙ ap (λ (z : HeapContents). call_ended p i self l a named e z) gone

    calls : ms ≡ call_end_entries p at i self l a named e (frame_gone p i self runs v e h)
    calls = called ∙ ap (λ (z : HeapContents). call_end_entries p at i self l a named e z) gone

    lines : ls ≡ call_end_entries p at i self l a named e (frame_gone p i self runs v e h) ++ owner_entries p at h (result_moved p i runs v e h)
    lines = joined ∙ (λ n. calls n ++ moved n)
