-- The words and what their files hold have one list of trees, or one first stop.
use Rattle.std.proofs.Common.{◌≡◌, ◌∙◌, ap, refl, subst, sym, ℕ, List, [], ◌∷◌, ◌++◌, map, flat_map}
use Rattle.std.specs.Prelude.{Vec}
use Rattle.std.specs.declared.alloc.Global.{Global}
use Rattle.std.proofs.lemmas.List.{map-append}
use Rattle.std.proofs.lemmas.List.Concat.{flat_map-cons}
use Rattle.rlc_base.specs.declared.faults.Stop.{Stop}
use Rattle.rlc_base.specs.declared.faults.Stop.TheVariants as stops
use Rattle.java_syntax.specs.DeclarationTrees.{UnitTree, unit_of}
use Rattle.java_syntax.specs.declared.declaration_trees.Unit as tree
use Rattle.program_front.specs.declared.files.InputFile.{InputFile}
use Rattle.program_reading.specs.Numbering.{number_and_bytes}
use Rattle.program_reading.specs.Fronts.{IsFilesStop, IsFront, no_memory, refused}
use Rattle.program_reading.specs.Inputs.{AreFiles}
use Rattle.reading_laws.specs.SameTrees.{AreSameStops, AreSameTrees}
use Rattle.reading_laws.proofs.OneFront.{one_stop, one_trees, trees_stop}

-- what the sections of one stub file are
trees_in : Vec tree.Unit Global → List UnitTree
trees_in sections = map unit_of sections.items

-- the trees of all sections are those of each file one after another
joined : (all : List (Vec tree.Unit Global)) → map unit_of (flat_map (λ (s : Vec tree.Unit Global). s.items) all) ≡ flat_map (λ (ts : List UnitTree). ts) (map trees_in all)
unfolding trees_in
joined [] = refl
joined (s ∷ all) =
    ap (map unit_of) (flat_map-cons (λ (v : Vec tree.Unit Global). v.items) s all)
    ∙ map-append unit_of s.items (flat_map (λ (v : Vec tree.Unit Global). v.items) all)
    ∙ ap (λ (ts : List UnitTree). map unit_of s.items ++ ts) (joined all)
    ∙ sym (flat_map-cons (λ (ts : List UnitTree). ts) (map unit_of s.items) (map trees_in all))

module _ (words texts : List (List ℕ)) where
  same_stubs : (stubs sources others more : List InputFile) → AreFiles words texts stubs sources → AreFiles words texts others more → map number_and_bytes stubs ≡ map number_and_bytes others
  same_stubs stubs sources others more h g = h.numbered_stubs ∙ sym g.numbered_stubs

  same_sources : (stubs sources others more : List InputFile) → AreFiles words texts stubs sources → AreFiles words texts others more → map number_and_bytes sources ≡ map number_and_bytes more
  same_sources stubs sources others more h g = h.numbered_sources ∙ sym g.numbered_sources

  module _ (sections sources others more : List tree.Unit) (h : IsFront words texts sections sources) (g : IsFront words texts others more) where
    same_trees : AreSameTrees h.trees g.trees
    same_trees =
        one_trees h.has_trees.stubs h.has_trees.sources g.has_trees.stubs g.has_trees.sources h.trees g.trees
        (same_stubs h.has_trees.stubs h.has_trees.sources g.has_trees.stubs g.has_trees.sources h.has_trees.files g.has_trees.files)
        (same_sources h.has_trees.stubs h.has_trees.sources g.has_trees.stubs g.has_trees.sources h.has_trees.files g.has_trees.files)
        h.has_trees.are_trees g.has_trees.are_trees

    pub one_sections : map unit_of sections ≡ map unit_of others
    unfolding trees_in
    one_sections =
        ap (map unit_of) h.sections_are ∙ joined h.trees.stubs.items ∙ ap (flat_map (λ (ts : List UnitTree). ts)) same_trees.sections
        ∙ sym (joined g.trees.stubs.items) ∙ sym (ap (map unit_of) g.sections_are)

    pub one_sources : map unit_of sources ≡ map unit_of more
    one_sources = ap (map unit_of) h.sources_are ∙ same_trees.units ∙ sym (ap (map unit_of) g.sources_are)

pub no_files_stop : (words texts : List (List ℕ)) (sections sources : List tree.Unit) (stop : Stop) → IsFront words texts sections sources → IsFilesStop words texts stop → stop ≡ stops.NoMemory
no_files_stop words texts sections sources stop h (no_memory is) = is
no_files_stop words texts sections sources stop h (refused others more files s) =
    let t = h.has_trees in
    trees_stop t.stubs t.sources others more h.trees stop
    (same_stubs words texts t.stubs t.sources others more t.files files) (same_sources words texts t.stubs t.sources others more t.files files) t.are_trees s

none_after : (stop : Stop) → AreSameStops stop stops.NoMemory
none_after (stops.Refused r) = tt
none_after (stops.TooMuch r) = tt
none_after stops.NoMemory = tt

pub one_files_stop : (words texts : List (List ℕ)) (stop other : Stop) → IsFilesStop words texts stop → IsFilesStop words texts other → AreSameStops stop other
one_files_stop words texts stop other (no_memory is) t = subst (λ (s : Stop). AreSameStops s other) (sym is) tt
one_files_stop words texts stop other (refused stubs sources files s) (no_memory is) = subst (λ (t : Stop). AreSameStops stop t) (sym is) (none_after stop)
one_files_stop words texts stop other (refused stubs sources files s) (refused others more also t) =
    one_stop stubs sources others more stop other (same_stubs words texts stubs sources others more files also) (same_sources words texts stubs sources others more files also) s t
