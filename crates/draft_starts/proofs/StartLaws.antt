-- What the start of a call leaves settled, and its lines.
use Rattle.std.proofs.Common.{◌≡◌, ◌∙◌, ap, sym, refl, subst, ℕ, ◌+◌, ◌<◌, Bool, true, false, not, ◌||◌, nat_eq, Option, Some, None, List, [], ◌∷◌, ◌++◌, length, arith}
use Rattle.std.proofs.lemmas.Grind.{common_steps}
use Rattle.std.proofs.lemmas.List.Elements.{All-nil}
use Rattle.std.specs.Prelude.{if◌then◌else◌}
use Rattle.program_model.specs.declared.program.Method.{Method}
use Rattle.program_model.specs.declared.program.Program.{Program}
use Rattle.rlc_base.specs.declared.place.Pos.{Pos}
use Rattle.control_actions.specs.declared.action.Action.{Action}
use Rattle.ledger_state.specs.declared.entry.Entry.{Entry}
use Rattle.ledger_state.specs.declared.entry.LeakWord.TheVariants as words
use Rattle.ledger_state.specs.declared.entry.Owner.{Owner}
use Rattle.ledger_state.specs.declared.entry.Owner.TheVariants as owners
use Rattle.ledger_state.specs.declared.locals.Locals.{Locals}
use Rattle.ledger_state.specs.declared.object.Link.{Link}
use Rattle.ledger_state.specs.declared.object.Object.{Object}
use Rattle.ledger_state.specs.declared.value.Value.{Value}
use Rattle.ledger_state.specs.Contents.{HeapContents}
use Rattle.ledger_state.specs.Heaps.{object_at}
use Rattle.draft_lines.specs.Entries.{by_number, leak_entries, owner_entries}
use Rattle.ledger_obligations.specs.Obligations.{held_at, holds, is_unmet, lose}
use Rattle.draft_stages.specs.LedgerCallsCalls.{arguments_moved}
use Rattle.draft_steps.specs.CallSteps.{began_entries, began_heap, object_of_new, started}
use Rattle.draft_steps.specs.Settled.{Settled, is_kept, is_settled}
use Rattle.draft_lines.specs.declared.leaks.Leak.{Leak}
use Rattle.draft_lines.specs.DraftLines.{AllOfHeap, IsOfHeap}
use Rattle.heap_drafts.specs.declared.saved.SavedObject.{SavedObject}
use Rattle.heap_drafts.specs.Drafts.{Drafted, is_saved}
use Rattle.heap_drafts.proofs.SettledLaws.{settled_more}

pub no_leaks : (h : HeapContents) (leaks : List Leak) → leaks ≡ [] → AllOfHeap h leaks
no_leaks h leaks none = subst (λ (ls : List Leak). AllOfHeap h ls) (sym none) (All-nil (IsOfHeap h))

-- One frame more

-- no frame is beyond the top one
held_beyond : (xs : List (List Value)) (j : ℕ) → length xs < j → held_at xs j ≡ []
held_beyond [] j less = refl
held_beyond (x ∷ xs) j less =
    let apart : nat_eq (length xs + 1) j ≡ false = grind (arith, common_steps, less) in
    ap (λ b. if b then x else held_at xs j) apart ∙ held_beyond xs j (omega (arith, less))

kept_below : (h : HeapContents) (new : List Value) (rest : List (List Value)) (o : Owner) (l : Option Link) (k : ℕ) → is_kept h rest o l k ≡ true → is_kept h (new ∷ rest) o l k ≡ true
kept_below h new rest (owners.Frame j) None k kept = go (nat_eq (length rest + 1) j) refl
  where
    go : (b : Bool) → nat_eq (length rest + 1) j ≡ b → is_kept h (new ∷ rest) (owners.Frame j) None k ≡ true
    go false e = ap (λ b. holds h (if b then new else held_at rest j) k) e ∙ kept
    go true e =
        let beyond : length rest < j = grind (arith, common_steps, e) in
        let none : false ≡ true = ap (λ vs. holds h vs k) (sym (held_beyond rest j beyond)) ∙ kept in
        absurd (cc)
kept_below h new rest (owners.Frame j) (Some l) k kept = kept
kept_below h new rest (owners.Field w f) l k kept = refl
kept_below h new rest owners.Library l k kept = refl
kept_below h new rest owners.Released l k kept = refl
kept_below h new rest owners.Lost l k kept = refl
kept_below h new rest owners.Unowned l k kept = refl

settled_below : (h : HeapContents) (new : List Value) (rest : List (List Value)) (k : ℕ) (x : Object) → is_settled h rest k x ≡ true → is_settled h (new ∷ rest) k x ≡ true
settled_below h new rest k x settled = go (is_unmet x) refl settled
  where
    go : (u : Bool) → is_unmet x ≡ u → (not u || is_kept h rest x.owner x.link k) ≡ true → (not (is_unmet x) || is_kept h (new ∷ rest) x.owner x.link k) ≡ true
    go false e s = ap (λ b. not b || is_kept h (new ∷ rest) x.owner x.link k) e
    go true e s = ap (λ b. not b || is_kept h (new ∷ rest) x.owner x.link k) e ∙ kept_below h new rest x.owner x.link k s

-- what the start does not save is settled
pub start_rest : (bs cs : List SavedObject) (h g : HeapContents) (new : List Value) (rest : List (List Value)) → Settled h rest → Drafted bs h cs g → (k : ℕ) (x : Object) → object_at g k ≡ Some x → is_saved cs k ≡ false → is_settled g (new ∷ rest) k x ≡ true
start_rest bs cs h g new rest settled drafted k x there unsaved =
    settled_below g new rest k x
    (settled_more h g rest k x x drafted.links drafted.longer there refl refl (λ e. e) (settled k x (sym (drafted.others k unsaved) ∙ there)))

-- The lines

pub start_heap : (p : Program) (l : Locals) (a : Action) (named : Option Method) (j : ℕ) (h b g : HeapContents) → b ≡ object_of_new a named h → g ≡ arguments_moved p (owners.Frame j) l a named b → g ≡ began_heap p l a named j h
start_heap p l a named j h b g begun moved = moved ∙ ap (λ (z : HeapContents). arguments_moved p (owners.Frame j) l a named z) begun

pub start_lines : (p : Program) (pos : Pos) (l : Locals) (a : Action) (named : Option Method) (j : ℕ) (h b g : HeapContents) (held : List (List Value)) (ls ks : List Entry) → b ≡ object_of_new a named h → g ≡ arguments_moved p (owners.Frame j) l a named b → ls ≡ owner_entries p pos b (arguments_moved p (owners.Frame j) l a named b) → ks ≡ [] → (ls ++ by_number (lose held g) (ks ++ leak_entries p words.Lost pos g (lose held g))) ≡ (started p h l a named j pos held).lines
start_lines p pos l a named j h b g held ls ks begun moved is none =
    λ n. lines n ++ by_number (lose held (whole n)) (none n ++ leak_entries p words.Lost pos (whole n) (lose held (whole n)))
  where
    whole : g ≡ began_heap p l a named j h
    whole = start_heap p l a named j h b g begun moved

    lines : ls ≡ began_entries p pos l a named j h
    lines = is ∙ ap (λ (z : HeapContents). owner_entries p pos z (arguments_moved p (owners.Frame j) l a named z)) begun
