-- Calls of the library, of which only the objects that they change are looked at.
use Rattle.std.proofs.Common.{◌≡◌, ◌∙◌, ap, sym, refl, subst, ℕ, ◌<◌, ◌≤◌, Bool, true, false, ◌||◌, nat_eq, Option, Some, None, List, [], ◌∷◌, ◌++◌, arith}
use Rattle.std.proofs.lemmas.Grind.{common_steps}
use Rattle.std.proofs.lemmas.List.Elements.{All-nil}
use Rattle.std.specs.Prelude.{IfSome, is_some, nat_lt}
use Rattle.program_model.specs.declared.program.Program.{Program}
use Rattle.program_model.specs.declared.program.Method.{Method}
use Rattle.control_actions.specs.declared.action.Action.{Action}
use Rattle.stub_conduct.specs.declared.choice.Conduct.{Conduct}
use Rattle.stub_conduct.specs.declared.choice.Conduct.TheVariants as conducts
use Rattle.ledger_state.specs.declared.entry.Owner.TheVariants as owners
use Rattle.ledger_state.specs.declared.locals.Locals.{Locals}
use Rattle.ledger_state.specs.declared.object.Object.{Object}
use Rattle.ledger_state.specs.declared.value.Value.{Value}
use Rattle.ledger_state.specs.Contents.{HeapContents}
use Rattle.ledger_state.specs.Heaps.{has_number, link_of, next_number, object_at}
use Rattle.rlc_base.specs.declared.place.Pos.{Pos}
use Rattle.ledger_state.specs.declared.entry.Entry.{Entry}
use Rattle.draft_lines.specs.Entries.{birth_entries, called_entries, owner_entries, reset_entries}
use Rattle.ledger_obligations.specs.Obligations.{finished, first_set, reached, reset_roots}
use Rattle.ledger_calls.specs.Calls.{arguments_moved, position_of, reset_target}
use Rattle.ledger_calls.specs.Conducts.{fresh_born, library_birth, positions}
use Rattle.draft_steps.specs.CallSteps.{library_called, library_entries, library_heap, library_made}
use Rattle.draft_lines.specs.declared.leaks.Leak.{Leak}
use Rattle.draft_lines.specs.DraftLines.{AllOfHeap, IsOfHeap}
use Rattle.draft_steps.specs.Settled.{Settled, is_settled}
use Rattle.object_index.specs.declared.index.ObjectIndex.{ObjectIndex}
use Rattle.object_index.specs.ObjectIndexes.{Indexed}
use Rattle.heap_drafts.specs.declared.saved.SavedObject.{SavedObject}
use Rattle.heap_drafts.specs.Drafts.{ChangesAmong, Drafted, is_saved, numbers_rise, roots_of}
use Rattle.heap_drafts.proofs.DraftLaws.{among_same, drafted_on}
use Rattle.heap_drafts.proofs.RootLaws.{free_among}
use Rattle.heap_drafts.proofs.SettledLaws.{rest_settled}
use Rattle.draft_stages.specs.Stages.{IndexedRest}

no_link : (o : Option ℕ) → is_some o ≡ false → o ≡ None
no_link None e = refl
no_link (Some k) e = absurd (cc)

has_one : (k : ℕ) → has_number (k ∷ []) k ≡ true
has_one k = let own : nat_eq k k ≡ true = grind (arith, common_steps) in ap (λ t. t || false) own

pub one_rises : (k : ℕ) → 0 < k → numbers_rise 0 (k ∷ []) ≡ true
one_rises k up = go (nat_lt 0 k) refl
  where
    go : (b : Bool) → nat_lt 0 k ≡ b → numbers_rise 0 (k ∷ []) ≡ true
    go true e = e_then e
      where
        e_then : nat_lt 0 k ≡ true → numbers_rise 0 (k ∷ []) ≡ true
        e_then f = let all : numbers_rise 0 (k ∷ []) ≡ true = rw f refl in all
    go false e = absurd (let low : k ≤ 0 = grind (arith, common_steps, e) in omega (arith, low, up))

pub birth_among : (p : Program) (l : Locals) (a : Action) (m : Option Method) (j k : ℕ) (d : Conduct) (h : HeapContents) → is_some (link_of (object_at h k)) ≡ false → ChangesAmong (k ∷ []) h (library_birth p l a m j k d h)
birth_among p l a m j k (conducts.Throws e) h free = free_among k (finished (first_set p e None) owners.Library) h (k ∷ []) (λ up. has_one k) (no_link (link_of (object_at h k)) free)
birth_among p l a m j k (conducts.Fresh e) h free = free_among k (fresh_born p e m a j (position_of None l a)) h (k ∷ []) (λ up. has_one k) (no_link (link_of (object_at h k)) free)
birth_among p l a m j k conducts.Null h free = among_same h (k ∷ [])
birth_among p l a m j k (conducts.Existing n) h free = among_same h (k ∷ [])
birth_among p l a m j k conducts.Argument h free = among_same h (k ∷ [])
birth_among p l a m j k (conducts.Value z) h free = among_same h (k ∷ [])
birth_among p l a m j k conducts.Nothing h free = among_same h (k ∷ [])

-- what the index knows of the first heap it knows of what was not saved since
pub indexed_rest : (index : ObjectIndex) (first bs : List SavedObject) (h g : HeapContents) → Indexed index h → Drafted first h bs g → IndexedRest index bs g
indexed_rest index first bs h g indexed drafted k x there none = indexed k x (sym (drafted.others k none) ∙ there)

-- what was not saved, and is no root of what the top frame held, is settled
pub library_rest : (first bs : List SavedObject) (h g : HeapContents) (old new : List Value) (rest : List (List Value)) (roots : List ℕ) → Settled h (old ∷ rest) → Drafted first h bs g → roots ≡ roots_of h old → (k : ℕ) (x : Object) → object_at g k ≡ Some x → is_saved bs k ≡ false → has_number roots k ≡ false → is_settled g (new ∷ rest) k x ≡ true
library_rest first bs h g old new rest roots settled drafted is k x there unsaved none =
    rest_settled h g old new rest k x there drafted.links drafted.longer (ap (λ ks. has_number ks k) (sym is) ∙ none) (settled k x (sym (drafted.others k unsaved) ∙ there))

-- Parts of a step, one after the other

pub drafted_three : (as' bs cs ds : List SavedObject) (h g i j : HeapContents) → Drafted as' h bs g → Drafted bs g cs i → Drafted cs i ds j → Drafted as' h ds j
drafted_three as' bs cs ds h g i j first second third = drafted_on as' h cs i ds j (drafted_on as' h bs g cs i first second) third

pub drafted_four : (as' bs cs ds es : List SavedObject) (h g i j k : HeapContents) → Drafted as' h bs g → Drafted bs g cs i → Drafted cs i ds j → Drafted ds j es k → Drafted as' h es k
drafted_four as' bs cs ds es h g i j k first second third fourth = drafted_on as' h ds j es k (drafted_three as' bs cs ds h g i j first second third) fourth

pub some_on : {X : Type 0} (o : Option X) (P Q : X → Type 0) → ((x : X) → P x → Q x) → IfSome o P → IfSome o Q
some_on None P Q f h = h
some_on (Some x) P Q f h = f x h

pub birth_drafted : (p : Program) (l : Locals) (a : Action) (m : Option Method) (j k : ℕ) (d : Conduct) (h g : HeapContents) → is_some (link_of (object_at h k)) ≡ false → g ≡ library_birth p l a m j k d h → ChangesAmong (k ∷ []) h g
birth_drafted p l a m j k d h g free born = subst (λ (i : HeapContents). ChangesAmong (k ∷ []) h i) (sym born) (birth_among p l a m j k d h free)

pub no_leaks : (h : HeapContents) (leaks : List Leak) → leaks ≡ [] → AllOfHeap h leaks
no_leaks h leaks none = subst (λ (ls : List Leak). AllOfHeap h ls) (sym none) (All-nil (IsOfHeap h))

-- the heap of the whole call
pub call_born : (p : Program) (l : Locals) (a : Action) (named m : Option Method) (d : Conduct) (j : ℕ) (h called reset born : HeapContents) (target : Option ℕ) (number : ℕ) → called ≡ library_called p l a named m d h → target ≡ reset_target (positions l a number d) named → number ≡ next_number h → reset ≡ reset_roots p (reached called target) called → born ≡ library_birth p l a m j number d reset → born ≡ library_heap p l a named m d j h
call_born p l a named m d j h called reset born target number first aim next second third =
    third ∙ (λ i. library_birth p l a m j (next i) d (second i))
    ∙ (λ i. library_birth p l a m j (next_number h) d (reset_roots p (reached (first i) (aimed i)) (first i)))
  where
    aimed : target ≡ reset_target (positions l a (next_number h) d) named
    aimed = aim ∙ ap (λ n. reset_target (positions l a n d) named) next

-- its lines
pub call_lines : (p : Program) (pos : Pos) (l : Locals) (a : Action) (named m : Option Method) (d : Conduct) (j : ℕ) (h called reset born : HeapContents) (target : Option ℕ) (number : ℕ) (first second third : List Entry) → called ≡ library_called p l a named m d h → target ≡ reset_target (positions l a number d) named → number ≡ next_number h → reset ≡ reset_roots p (reached called target) called → born ≡ library_birth p l a m j number d reset
    → first ≡ owner_entries p pos h (arguments_moved p owners.Library l a named h) ++ called_entries p pos (library_made p l a named d h) (library_called p l a named m d h)
    → second ≡ first ++ reset_entries p pos (reached called target) called
    → third ≡ second ++ birth_entries p pos reset (library_birth p l a m j number d reset)
    → third ≡ library_entries p pos l a named m d j h
call_lines p pos l a named m d j h called reset born target number first second third is aim next wiped last one two three =
    three ∙ (λ i. two i ++ birth_entries p pos (wiped i) (library_birth p l a m j (next i) d (wiped i)))
    ∙ (λ i. one i ++ reset_entries p pos (reached (is i) (aimed i)) (is i) ++ birth_entries p pos (reset_roots p (reached (is i) (aimed i)) (is i)) (library_birth p l a m j (next_number h) d (reset_roots p (reached (is i) (aimed i)) (is i))))
  where
    aimed : target ≡ reset_target (positions l a (next_number h) d) named
    aimed = aim ∙ ap (λ n. reset_target (positions l a n d) named) next
