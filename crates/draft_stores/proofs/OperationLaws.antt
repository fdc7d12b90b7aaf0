-- Steps within a frame that store into no owning field.
use Rattle.std.proofs.Common.{◌≡◌, ◌∙◌, ap, sym, refl, subst, ℕ, suc, ◌+◌, true, false, ◌||◌, nat_eq, Some, None, List, [], ◌∷◌, ◌++◌, length, map, reverse, arith}
use Rattle.std.proofs.lemmas.Grind.{common_steps}
use Rattle.std.proofs.lemmas.List.{length-map, length-reverse}
use Rattle.std.proofs.lemmas.List.Elements.{All-nil}
use Rattle.std.specs.List.{flat_map, range_with_len}
use Rattle.program_model.specs.declared.kinds.ClassId.{ClassId}
use Rattle.program_model.specs.declared.program.Program.{Program}
use Rattle.rlc_base.specs.declared.place.Pos.{Pos}
use Rattle.must_call_sets.specs.MustCallSets.{must_of}
use Rattle.ledger_state.specs.declared.entry.Entry.{Entry}
use Rattle.ledger_state.specs.declared.entry.LeakWord.TheVariants as words
use Rattle.ledger_state.specs.declared.entry.Owner.TheVariants as owners
use Rattle.ledger_state.specs.declared.locals.Locals.{Locals}
use Rattle.ledger_state.specs.declared.value.Value.{Value}
use Rattle.ledger_state.specs.Contents.{HeapContents}
use Rattle.ledger_state.specs.Locals.{held}
use Rattle.ledger_state.specs.Heaps.{append, change_one, has_number, link_of, next_number, object_at, unfinished}
use Rattle.ledger_steps.specs.Entries.{by_number, leak_entries, leaks_of}
use Rattle.ledger_obligations.specs.declared.active_frame.ActiveFrame.{ActiveFrame}
use Rattle.ledger_obligations.specs.Obligations.{finished, held_in, lose}
use Rattle.ledger_steps.specs.Effects.{left}
use Rattle.settled_heaps.specs.Settled.{Settled, drops_any}
use Rattle.settled_heaps.proofs.SettledLaws.{lose_settled, still_settled}
use Rattle.draft_steps.specs.SpreadNotes.{add_made, put_each}
use Rattle.draft_lines.specs.declared.leaks.Leak.{Leak}
use Rattle.draft_lines.specs.DraftLines.{AllOfHeap, IsOfHeap, leak_entries_of}
use Rattle.draft_lines.proofs.LeakLaws.{leak_between}
use Rattle.heap_drafts.specs.declared.saved.SavedObject.{SavedObject}
use Rattle.heap_drafts.specs.Drafts.{ChangesAmong, Drafted, snapshots}
use Rattle.heap_drafts.proofs.DraftLaws.{drafted_by, drafted_on}
use Rattle.heap_drafts.proofs.RootLaws.{free_among}
use Rattle.draft_steps.specs.declared.steps.DraftStep.{DraftStep}
use Rattle.draft_steps.specs.Steps.{IsDraft, put_stored}
use Rattle.draft_steps.proofs.StepLaws.{made_last, no_changes}

-- An exception that is made

one_has : (k : ℕ) → has_number (k ∷ []) k ≡ true
one_has k = let own : nat_eq k k ≡ true = grind (arith, common_steps) in ap (λ t. t || false) own

-- the object that was made last is no alias
made_free : (h i : HeapContents) (c : ClassId) (k : ℕ) → k ≡ next_number h → i ≡ append h c → link_of (object_at i k) ≡ None
made_free h i c k last made =
    let number : k ≡ suc (length h.objects) = omega (arith, last) in
    (λ n. link_of (object_at (made n) (number n))) ∙ ap link_of (made_last (Some (unfinished c)) h)

pub exception_drafted : (p : Program) (bs cs ds : List SavedObject) (h i g : HeapContents) (c : ClassId) (k : ℕ) → k ≡ next_number h → i ≡ append h c → Drafted bs h cs i → ds ≡ cs ++ snapshots i (k ∷ []) → g ≡ change_one k (finished (must_of p c) owners.Library) i → Drafted bs h ds g
exception_drafted p bs cs ds h i g c k last made drafted saved is =
    drafted_on bs h cs i ds g drafted (drafted_by cs ds i g (k ∷ []) saved among)
  where
    among : ChangesAmong (k ∷ []) i g
    among =
        subst (λ (f : HeapContents). ChangesAmong (k ∷ []) i f) (sym is)
        (free_among k (finished (must_of p c) owners.Library) i (k ∷ []) (λ up. one_has k) (made_free h i c k last made))

-- The lines of the step

pub no_leaks : (h : HeapContents) (leaks : List Leak) → leaks ≡ [] → AllOfHeap h leaks
no_leaks h leaks none = subst (λ (ls : List Leak). AllOfHeap h ls) (sym none) (All-nil (IsOfHeap h))

pub operation_lines : (p : Program) (pos : Pos) (h g : HeapContents) (held : List (List Value)) (es : List Entry) (ks : List Leak) → g ≡ h → es ≡ [] → ks ≡ [] → (es ++ by_number (lose held g) (leak_entries_of ks ++ leak_entries p words.Lost pos g (lose held g))) ≡ (left p pos held [] [] h).lines
operation_lines p pos h g held es ks is none fine =
    λ n. none n ++ by_number (lose held (is n)) (leak_entries_of (fine n) ++ leak_entries p words.Lost pos (is n) (lose held (is n)))

-- Steps that change nothing

-- a top frame that drops nothing leaves nothing to lose
pub still_top : (h : HeapContents) (before now : Locals) (below : List ActiveFrame) → Settled h (held before ∷ map held_in (reverse below)) → drops_any h (length below + 1) (held before) (held now) ≡ false → Settled h (held now ∷ map held_in (reverse below))
still_top h before now below settled keeps =
    still_settled h (held before) (held now) (map held_in (reverse below)) settled
    (ap (λ k. drops_any h (k + 1) (held before) (held now)) (length-map (reverse below) held_in ∙ length-reverse below) ∙ keeps)

flat_none : (ks : List ℕ) → flat_map (leaks_of []) ks ≡ []
flat_none [] = refl
flat_none (k ∷ ks) = flat_none ks

quiet_lines : (p : Program) (pos : Pos) (h : HeapContents) (held : List (List Value)) → Settled h held → (left p pos held [] [] h).lines ≡ []
quiet_lines p pos h held settled =
    (λ n. by_number (lose_settled h held settled n) (leak_entries p words.Lost pos h (lose_settled h held settled n)))
    ∙ ap (by_number h) (leak_between p words.Lost pos h h [] (no_changes h))
    ∙ flat_none (range_with_len 1 (length h.objects))

pub quiet_draft : (p : Program) (pos : Pos) (d : DraftStep) (h : HeapContents) (held : List (List Value)) → Settled h held → d.changes.items ≡ [] → d.made ≡ None → d.stored ≡ None → d.lines.items ≡ [] → IsDraft d h held (left p pos held [] [] h)
quiet_draft p pos d h held settled changes made stored lines = record {
  heap = (λ n. put_stored (stored n) (put_each (changes n) (add_made (made n) h))) ∙ sym (lose_settled h held settled);
  lines = lines ∙ sym (quiet_lines p pos h held settled);
  settled = subst (λ (g : HeapContents). Settled g held) (sym (lose_settled h held settled)) settled;
}
