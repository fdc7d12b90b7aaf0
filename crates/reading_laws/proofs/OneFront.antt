-- All files have one list of trees, or one first stop.
use Rattle.std.proofs.Common.{◌≡◌, refl, sym, List, [], ◌∷◌, map}
use Rattle.std.specs.Prelude.{Vec}
use Rattle.std.specs.declared.alloc.Global.{Global}
use Rattle.rlc_base.specs.declared.faults.Refusal.{Refusal}
use Rattle.rlc_base.specs.declared.faults.Stop.{Stop}
use Rattle.rlc_base.specs.declared.faults.Stop.TheVariants as stops
use Rattle.java_syntax.specs.DeclarationTrees.{unit_of}
use Rattle.java_syntax.specs.declared.declaration_trees.Unit as tree
use Rattle.program_front.specs.Files.{AreSectionsOf, IsCutOf, IsSectionless, IsUncut, IsUnitOf, IsUnitless}
use Rattle.program_front.specs.InTurn.{AreDone, IsFirstStop, IsStopInTurn}
use Rattle.program_front.specs.Trees.{AreTrees, IsTreesStop, no_stub, no_unit, uncut_source, uncut_stub}
use Rattle.program_front.specs.declared.files.CutFile.{CutFile}
use Rattle.program_front.specs.declared.files.InputFile.{InputFile}
use Rattle.program_front.specs.declared.trees.Trees.{Trees}
use Rattle.program_reading.specs.Numbering.{number_and_bytes}
use Rattle.reading_laws.specs.SameTrees.{AreSameStops, AreSameTrees}
use Rattle.reading_laws.proofs.InTurn.{no_stop, one_stop_in, same_done}
use Rattle.reading_laws.proofs.SameFiles.{AreSameCuts, AreSameFiles, AreSameSections, AreSameUnits, cut_goes_on, same_cuts, same_files, same_sectionless, same_sections, same_uncut, same_unit, same_unitless, sections_go_on, unit_goes_on}

-- ---- one list of trees

cuts_are_one : (fs gs : List InputFile) (cs ds : List CutFile) → map number_and_bytes fs ≡ map number_and_bytes gs → AreDone IsCutOf fs cs → AreDone IsCutOf gs ds → AreDone AreSameCuts cs ds
cuts_are_one fs gs cs ds e done did = same_done AreSameFiles IsCutOf IsCutOf AreSameCuts same_cuts fs gs cs ds (same_files fs gs e) done did

units_in : (us vs : List tree.Unit) → AreDone AreSameUnits us vs → map unit_of us ≡ map unit_of vs
units_in [] [] same = refl
units_in [] (v ∷ vs) same = absurd same
units_in (u ∷ us) [] same = absurd same
units_in (u ∷ us) (v ∷ vs) same = let rest = units_in us vs same.1 in λ i. same.0 i ∷ rest i

sections_in : (us vs : List (Vec tree.Unit Global)) → AreDone AreSameSections us vs → map (λ (s : Vec tree.Unit Global). map unit_of s.items) us ≡ map (λ (s : Vec tree.Unit Global). map unit_of s.items) vs
sections_in [] [] same = refl
sections_in [] (v ∷ vs) same = absurd same
sections_in (u ∷ us) [] same = absurd same
sections_in (u ∷ us) (v ∷ vs) same = let rest = sections_in us vs same.1 in λ i. same.0 i ∷ rest i

module _ (stubs sources others more : List InputFile) (e : map number_and_bytes stubs ≡ map number_and_bytes others) (f : map number_and_bytes sources ≡ map number_and_bytes more) where
  pub trees_same : (t u : Trees) → AreTrees stubs sources t → AreTrees others more u → AreSameTrees t u
  trees_same t u h g = record {
    sections = sections_in t.stubs.items u.stubs.items
        (same_done AreSameCuts AreSectionsOf AreSectionsOf AreSameSections same_sections h.cut_stubs g.cut_stubs t.stubs.items u.stubs.items (cuts_are_one stubs others h.cut_stubs g.cut_stubs e h.stubs_cut g.stubs_cut) h.sections g.sections);
    units = units_in t.sources.items u.sources.items
        (same_done AreSameCuts IsUnitOf IsUnitOf AreSameUnits same_unit h.cut_sources g.cut_sources t.sources.items u.sources.items (cuts_are_one sources more h.cut_sources g.cut_sources f h.sources_cut g.sources_cut) h.units g.units);
  }

pub one_trees : (stubs sources others more : List InputFile) (t u : Trees) → map number_and_bytes stubs ≡ map number_and_bytes others → map number_and_bytes sources ≡ map number_and_bytes more → AreTrees stubs sources t → AreTrees others more u → AreSameTrees t u
one_trees stubs sources others more t u e f = trees_same stubs sources others more e f t u

-- ---- trees or a stop

Told : Stop → Type 0
Told stop = stop ≡ stops.NoMemory → ⊥

refused_told : (r : Refusal) → Told (stops.Refused r)
unfolding Told
refused_told r = λ e. cc

limit_told : (r : Refusal) → Told (stops.TooMuch r)
unfolding Told
limit_told r = λ e. cc

first_stop : {A B : Type 0} (Done : A → B → Type 0) (Stops : A → Stop → Type 0) (items : List A) (stop : Stop) → Told stop → IsStopInTurn Done Stops items stop → IsFirstStop Done Stops items stop
unfolding Told
first_stop Done Stops items (stops.Refused r) told s = s
first_stop Done Stops items (stops.TooMuch r) told s = s
first_stop Done Stops items stops.NoMemory told s = absurd (told refl)

cut_on : (stop : Stop) → Told stop → (fs gs : List InputFile) (cs : List CutFile) → map number_and_bytes fs ≡ map number_and_bytes gs → AreDone IsCutOf fs cs → IsStopInTurn IsCutOf IsUncut gs stop → ⊥
unfolding Told
cut_on stop told fs gs cs e done s = no_stop AreSameFiles IsCutOf IsCutOf IsUncut stop (cut_goes_on stop told) fs gs cs (same_files fs gs e) done (first_stop IsCutOf IsUncut gs stop told s)

sections_on : (stop : Stop) → Told stop → (cs ds : List CutFile) (us : List (Vec tree.Unit Global)) → AreDone AreSameCuts cs ds → AreDone AreSectionsOf cs us → IsStopInTurn AreSectionsOf IsSectionless ds stop → ⊥
unfolding Told
sections_on stop told cs ds us same done s = no_stop AreSameCuts AreSectionsOf AreSectionsOf IsSectionless stop (sections_go_on stop told) cs ds us same done (first_stop AreSectionsOf IsSectionless ds stop told s)

units_on : (stop : Stop) → Told stop → (cs ds : List CutFile) (us : List tree.Unit) → AreDone AreSameCuts cs ds → AreDone IsUnitOf cs us → IsStopInTurn IsUnitOf IsUnitless ds stop → ⊥
unfolding Told
units_on stop told cs ds us same done s = no_stop AreSameCuts IsUnitOf IsUnitOf IsUnitless stop (unit_goes_on stop told) cs ds us same done (first_stop IsUnitOf IsUnitless ds stop told s)

not_stopped : (stubs sources others more : List InputFile) (t : Trees) (stop : Stop) → Told stop → map number_and_bytes stubs ≡ map number_and_bytes others → map number_and_bytes sources ≡ map number_and_bytes more
    → AreTrees stubs sources t → IsTreesStop others more stop → ⊥
not_stopped stubs sources others more t stop told e f h (uncut_stub s) = cut_on stop told stubs others h.cut_stubs e h.stubs_cut s
not_stopped stubs sources others more t stop told e f h (uncut_source cs done s) = cut_on stop told sources more h.cut_sources f h.sources_cut s
not_stopped stubs sources others more t stop told e f h (no_stub cs ds done did s) =
    sections_on stop told h.cut_stubs cs t.stubs.items (cuts_are_one stubs others h.cut_stubs cs e h.stubs_cut done) h.sections s
not_stopped stubs sources others more t stop told e f h (no_unit cs ds us done did are s) =
    units_on stop told h.cut_sources ds t.sources.items (cuts_are_one sources more h.cut_sources ds f h.sources_cut did) h.units s

pub trees_stop : (stubs sources others more : List InputFile) (t : Trees) (stop : Stop) → map number_and_bytes stubs ≡ map number_and_bytes others → map number_and_bytes sources ≡ map number_and_bytes more
    → AreTrees stubs sources t → IsTreesStop others more stop → stop ≡ stops.NoMemory
trees_stop stubs sources others more t (stops.Refused r) e f h s = absurd (not_stopped stubs sources others more t (stops.Refused r) (refused_told r) e f h s)
trees_stop stubs sources others more t (stops.TooMuch r) e f h s = absurd (not_stopped stubs sources others more t (stops.TooMuch r) (limit_told r) e f h s)
trees_stop stubs sources others more t stops.NoMemory e f h s = refl

-- ---- one stop

files_back : (f g : InputFile) → AreSameFiles f g → AreSameFiles g f
files_back f g same = record { numbers = sym same.numbers; bytes = sym same.bytes }

cuts_back : (c d : CutFile) → AreSameCuts c d → AreSameCuts d c
cuts_back c d same = record { numbers = sym same.numbers; bytes = sym same.bytes; tokens = sym same.tokens }

module _ (stop other : Stop) (told : Told stop) (also : Told other) where
  one_uncut : (fs gs : List InputFile) → map number_and_bytes fs ≡ map number_and_bytes gs → IsStopInTurn IsCutOf IsUncut fs stop → IsStopInTurn IsCutOf IsUncut gs other → AreSameStops stop other
  unfolding Told
  one_uncut fs gs e s t =
      one_stop_in AreSameFiles IsCutOf IsCutOf IsUncut IsUncut stop other (AreSameStops stop other) (cut_goes_on other also)
      (λ f g d same did stopped. cut_goes_on stop told g f d (files_back f g same) did stopped) (same_uncut stop other) fs gs (same_files fs gs e)
      (first_stop IsCutOf IsUncut fs stop told s) (first_stop IsCutOf IsUncut gs other also t)

  one_sectionless : (cs ds : List CutFile) → AreDone AreSameCuts cs ds → IsStopInTurn AreSectionsOf IsSectionless cs stop → IsStopInTurn AreSectionsOf IsSectionless ds other → AreSameStops stop other
  unfolding Told
  one_sectionless cs ds all s t =
      one_stop_in AreSameCuts AreSectionsOf AreSectionsOf IsSectionless IsSectionless stop other (AreSameStops stop other) (sections_go_on other also)
      (λ c d u same did stopped. sections_go_on stop told d c u (cuts_back c d same) did stopped) (same_sectionless stop other) cs ds all
      (first_stop AreSectionsOf IsSectionless cs stop told s) (first_stop AreSectionsOf IsSectionless ds other also t)

  one_unitless : (cs ds : List CutFile) → AreDone AreSameCuts cs ds → IsStopInTurn IsUnitOf IsUnitless cs stop → IsStopInTurn IsUnitOf IsUnitless ds other → AreSameStops stop other
  unfolding Told
  one_unitless cs ds all s t =
      one_stop_in AreSameCuts IsUnitOf IsUnitOf IsUnitless IsUnitless stop other (AreSameStops stop other) (unit_goes_on other also)
      (λ c d u same did stopped. unit_goes_on stop told d c u (cuts_back c d same) did stopped) (same_unitless stop other) cs ds all
      (first_stop IsUnitOf IsUnitless cs stop told s) (first_stop IsUnitOf IsUnitless ds other also t)

  module _ (stubs sources others more : List InputFile) (e : map number_and_bytes stubs ≡ map number_and_bytes others) (f : map number_and_bytes sources ≡ map number_and_bytes more) where
    both_stopped : IsTreesStop stubs sources stop → IsTreesStop others more other → AreSameStops stop other
    both_stopped (uncut_stub s) (uncut_stub t) = one_uncut stubs others e s t
    both_stopped (uncut_stub s) (uncut_source cs done t) = absurd (cut_on stop told others stubs cs (sym e) done s)
    both_stopped (uncut_stub s) (no_stub cs ds done did t) = absurd (cut_on stop told others stubs cs (sym e) done s)
    both_stopped (uncut_stub s) (no_unit cs ds us done did are t) = absurd (cut_on stop told others stubs cs (sym e) done s)
    both_stopped (uncut_source cs done s) (uncut_stub t) = absurd (cut_on other also stubs others cs e done t)
    both_stopped (uncut_source cs done s) (uncut_source ds did t) = one_uncut sources more f s t
    both_stopped (uncut_source cs done s) (no_stub bs ds first did t) = absurd (cut_on stop told more sources ds (sym f) did s)
    both_stopped (uncut_source cs done s) (no_unit bs ds us first did are t) = absurd (cut_on stop told more sources ds (sym f) did s)
    both_stopped (no_stub cs ds done did s) (uncut_stub t) = absurd (cut_on other also stubs others cs e done t)
    both_stopped (no_stub cs ds done did s) (uncut_source bs first t) = absurd (cut_on other also sources more ds f did t)
    both_stopped (no_stub cs ds done did s) (no_stub zs bs first second t) = one_sectionless cs zs (cuts_are_one stubs others cs zs e done first) s t
    both_stopped (no_stub cs ds done did s) (no_unit zs bs us first second are t) = absurd (sections_on stop told zs cs us (cuts_are_one others stubs zs cs (sym e) first done) are s)
    both_stopped (no_unit cs ds us done did are s) (uncut_stub t) = absurd (cut_on other also stubs others cs e done t)
    both_stopped (no_unit cs ds us done did are s) (uncut_source bs first t) = absurd (cut_on other also sources more ds f did t)
    both_stopped (no_unit cs ds us done did are s) (no_stub zs bs first second t) = absurd (sections_on other also cs zs us (cuts_are_one stubs others cs zs e done first) are t)
    both_stopped (no_unit cs ds us done did are s) (no_unit zs bs vs first second also_are t) = one_unitless ds bs (cuts_are_one sources more ds bs f did second) s t

pub one_stop : (stubs sources others more : List InputFile) (stop other : Stop) → map number_and_bytes stubs ≡ map number_and_bytes others → map number_and_bytes sources ≡ map number_and_bytes more
    → IsTreesStop stubs sources stop → IsTreesStop others more other → AreSameStops stop other
one_stop stubs sources others more stops.NoMemory other e f s t = tt
one_stop stubs sources others more (stops.Refused r) stops.NoMemory e f s t = tt
one_stop stubs sources others more (stops.TooMuch r) stops.NoMemory e f s t = tt
one_stop stubs sources others more (stops.Refused r) (stops.Refused q) e f s t = both_stopped (stops.Refused r) (stops.Refused q) (refused_told r) (refused_told q) stubs sources others more e f s t
one_stop stubs sources others more (stops.Refused r) (stops.TooMuch q) e f s t = both_stopped (stops.Refused r) (stops.TooMuch q) (refused_told r) (limit_told q) stubs sources others more e f s t
one_stop stubs sources others more (stops.TooMuch r) (stops.Refused q) e f s t = both_stopped (stops.TooMuch r) (stops.Refused q) (limit_told r) (refused_told q) stubs sources others more e f s t
one_stop stubs sources others more (stops.TooMuch r) (stops.TooMuch q) e f s t = both_stopped (stops.TooMuch r) (stops.TooMuch q) (limit_told r) (limit_told q) stubs sources others more e f s t
