-- What the two calls of the library leave of the heap, and the lines that they write. They are said of any program in which the classes
-- have the same sets.
use Rattle.std.proofs.Common.{◌≡◌, ℕ, Bool, true, false, not, ◌&&◌, cond, if◌then◌else◌, Some, List, [], ◌∷◌, ◌++◌, map, length, codes, ap, ◌∙◌}
use Rattle.std.specs.FinSet as set
use Rattle.std.specs.List.{range_with_len}
use Rattle.rlc_base.specs.declared.name_id.NameId.{NameId}
use Rattle.program_model.specs.declared.program.Program.{Program}
use Rattle.must_call_sets.specs.MustCallSets.{Names, is_empty, is_heavy_class, must_of}
use Rattle.control_actions.specs.declared.action.Action.TheVariants as actions
use Rattle.control_actions.specs.declared.action.TargetForm.TheVariants as forms
use Rattle.stub_conduct.specs.declared.choice.Conduct.TheVariants as conducts
use Rattle.ledger_entries.specs.Entries.{by_number, called_line, called_lines, in_order, leak_entries, names_in_order}
use Rattle.ledger_state.specs.Contents.{HeapContents}
use Rattle.ledger_state.specs.declared.entry.Entry.{Entry}
use Rattle.ledger_state.specs.declared.entry.Entry.TheVariants as lines
use Rattle.ledger_state.specs.declared.entry.LeakWord.TheVariants as words
use Rattle.ledger_state.specs.declared.entry.Owner.TheVariants as owners
use Rattle.ledger_state.specs.declared.locals.Locals.{Locals}
use Rattle.ledger_state.specs.declared.value.Value.{Value}
use Rattle.ledger_state.specs.declared.value.Value.TheVariants as values
use Rattle.soundness_laws.specs.CallSteps.{library_done}
use Rattle.soundness_laws.specs.Effects.{Effect, left}
use Rattle.safety_examples.specs.CarefulPrograms.{close_alone, close_declared, close_name, constructor_declared, in_source, io_exception, no_names, socket, socket_close, socket_constructor}
use Rattle.safety_examples.specs.Runs.{birth, close}
use Rattle.safety_examples.proofs.Moments.{the_exception, the_socket}
use Rattle.safety_examples.proofs.CarefulSets.{close_is_new, close_not_none, nothing_is_new, within_itself}

abbrev pub effect : HeapContents → List Entry → Effect
effect h found = record { heap = h; lines = found }

-- what `s` and the first temps hold
abbrev pub holding : Value → List Value → Locals
holding s temps = record { variables = values.Array 0 ∷ s ∷ []; this = values.Nothing; temps = temps }

abbrev pub held_with : Value → Value → List (List Value)
held_with s t = (values.Nothing ∷ values.Array 0 ∷ s ∷ t ∷ []) ∷ []

module _ (p : Program) (must : must_of p socket ≡ close_alone) (names : p.names ≡ codes "close" ∷ []) where
  heavy : is_heavy_class p socket ≡ true
  heavy = ap (λ (s : Names). not (is_empty s)) must ∙ ap not close_not_none

  ordered : names_in_order p ≡ close_name ∷ []
  ordered = ap (λ (ns : List (List ℕ)). in_order p (range_with_len 0 (length ns))) names

  -- ---- the socket is made, and `main` owns it

  abbrev new_heap : Names → HeapContents
  new_heap s = record { objects = record (the_socket no_names (owners.Frame 1)) { must = s } ∷ []; fields = [] }

  abbrev new_held : List (List Value)
  new_held = held_with values.Nothing (values.Object 1)

  abbrev new_lines : Bool → List Entry → List Entry
  new_lines h called = [] ++ ((if h then called else []) ++ []) ++ ((if h then [] else []) ++ []) ++ ((if h then birth ∷ [] else []) ++ [])

  abbrev new_called : List NameId → List Entry
  new_called ns = called_lines (in_source 3 20) ns (set.difference no_names no_names) 1

  abbrev new_left : Bool → HeapContents
  new_left within = record { objects = (if (true && not within) && not true then record (the_socket no_names (owners.Frame 1)) { owner = owners.Lost } else the_socket no_names (owners.Frame 1)) ∷ []; fields = [] }

  -- the socket is made, and `main` owns it
  pub new_effect : library_done p (record { objects = []; fields = [] }) (holding values.Nothing []) (actions.New socket_constructor 0 0) (Some constructor_declared) (Some constructor_declared) (conducts.Fresh socket) 1 (in_source 3 20) new_held
      ≡ record { heap = new_heap close_alone; lines = birth ∷ [] }
  new_effect =
      (λ i. left p (in_source 3 20) new_held (new_lines (heavy i) (new_called (ordered i))) [] (new_heap (must i)))
      ∙ ap (λ b. left p (in_source 3 20) new_held (new_lines true (map (called_line 1 (in_source 3 20)) (cond b (close_name ∷ []) []))) [] (new_heap close_alone)) nothing_is_new
      ∙ ap (λ b. effect (new_left b) (birth ∷ by_number (new_left b) ([] ++ leak_entries p words.Lost (in_source 3 20) (new_heap close_alone) (new_left b)))) close_not_none
      ∙ ap (λ h. effect (new_heap close_alone) (birth ∷ by_number (new_heap close_alone) ([] ++ ((if h then [] else []) ++ [])))) heavy

  -- ---- `close` is called, and throws

  module _ (exception : must_of p io_exception ≡ no_names) where
    light : is_heavy_class p io_exception ≡ false
    light = ap (λ (s : Names). not (is_empty s)) exception ∙ ap not (within_itself no_names)

    abbrev old_heap : HeapContents
    old_heap = record { objects = the_socket no_names (owners.Frame 1) ∷ []; fields = [] }

    abbrev thrown_heap : Names → HeapContents
    thrown_heap s = record { objects = the_socket close_alone (owners.Frame 1) ∷ record the_exception { must = s } ∷ []; fields = [] }

    abbrev close_held : List (List Value)
    close_held = held_with (values.Object 1) (values.Object 2)

    abbrev both : Bool → Bool → List Entry → List Entry → List Entry
    both h x first second = (if h then first else []) ++ ((if x then second else []) ++ [])

    abbrev close_lines : Bool → Bool → List NameId → List Entry
    close_lines h x ns =
        ((if h then [] else []) ++ [])
        ++ both h x (called_lines (in_source 4 3) ns (set.difference close_alone no_names) 1) (called_lines (in_source 4 3) ns (set.difference no_names no_names) 2)
        ++ both h x [] []
        ++ both h x [] (lines.Born 2 io_exception owners.Library (in_source 4 3) ∷ [])

    abbrev called_by : Bool → List Entry
    called_by b =
        ([] ++ []) ++ both true false (map (called_line 1 (in_source 4 3)) (cond b (close_name ∷ []) [])) [] ++ both true false [] [] ++ both true false [] []

    abbrev close_left : Bool → Bool → HeapContents
    close_left met light_met = record {
      objects =
          (if (true && not met) && not true then record (the_socket close_alone (owners.Frame 1)) { owner = owners.Lost } else the_socket close_alone (owners.Frame 1))
          ∷ (if (true && not light_met) && not true then record the_exception { owner = owners.Lost } else the_exception) ∷ [];
      fields = [];
    }

    pub close_effect : library_done p old_heap (holding (values.Object 1) (values.Object 1 ∷ [])) (actions.Call socket_close 0 1 forms.Other) (Some close_declared) (Some close_declared) (conducts.Throws io_exception) 1 (in_source 4 3) close_held
        ≡ record { heap = thrown_heap no_names; lines = close ∷ [] }
    close_effect =
        (λ i. left p (in_source 4 3) close_held (close_lines (heavy i) (light i) (ordered i)) [] (thrown_heap (exception i)))
        ∙ ap (λ b. left p (in_source 4 3) close_held (called_by b) [] (thrown_heap no_names)) close_is_new
        ∙ ap (λ b. effect (close_left b (set.is_subset no_names no_names)) (close ∷ by_number (close_left b (set.is_subset no_names no_names)) ([] ++ leak_entries p words.Lost (in_source 4 3) (thrown_heap no_names) (close_left b (set.is_subset no_names no_names))))) (within_itself close_alone)
        ∙ ap (λ b. effect (close_left true b) (close ∷ by_number (close_left true b) ([] ++ leak_entries p words.Lost (in_source 4 3) (thrown_heap no_names) (close_left true b)))) (within_itself no_names)
        ∙ (λ i. effect (thrown_heap no_names) (close ∷ by_number (thrown_heap no_names) ([] ++ both (heavy i) (light i) [] [])))
