-- What is known of a table of classes: how many there are, what their headers say, what stands above them, and their names.
use Rattle.std.proofs.Common.{◌≡◌, ◌∙◌, sym, ap, refl, arith, ℕ, zero, suc, ◌+◌, ◌<◌, ◌↔◌, IsTrue, Bool, true, false, true≢false, Some, None, List, [], ◌∷◌, length, codes}
use Rattle.std.specs.Prelude.{slice_get}
use Rattle.std.specs.Option.{option_map}
use Rattle.std.proofs.lemmas.List.{length-map}
use Rattle.std.proofs.lemmas.Option.{same_Some, slice_get-map}
use Rattle.java_syntax.specs.declared.settings.Settings.{Settings}
use Rattle.program_model.specs.declared.kinds.ClassId.{ClassId}
use Rattle.program_model.specs.declared.program.Class.{Class}
use Rattle.program_model.specs.declared.program.Program.{Program}
use Rattle.program_model.specs.Hierarchy as model
use Rattle.program_model.specs.Lookups.{class_at}
use Rattle.program_model.specs.SuperTests.{is_under}
use Rattle.program_model.proofs.HierarchyLaws.{is_under_law}
use Rattle.class_names.specs.ClassNames.{class_number}
use Rattle.class_order.specs.Cases.{IsLeast}
use Rattle.class_order.specs.Declarations.{Declaration, class_name_of, class_names}
use Rattle.class_headers.specs.Headers.{Header, declared_header, declared_headers, header_of}
use Rattle.class_headers.specs.SuperTypes.{AreKnown, IsUnder, SuperTypes, declared_supers, supers_from}
use Rattle.class_headers.proofs.AboveLemmas.{headers_hierarchy}
use Rattle.class_headers.proofs.KnownLemmas.{all_known, found_within, length-supers_from}
use Rattle.super_obligations.specs.SuperCases.{direct_in, supers_in}
use Rattle.class_table.specs.Passes.{IsCycle}
use Rattle.class_table.specs.Table.{IsTable}
use Rattle.class_table.proofs.MemberLemmas.{length-headers}

pub some_at : {X : Type 0} (xs : List X) (n : ℕ) → n < length xs → (x : X) × (slice_get xs n ≡ Some x)
some_at [] n below = absurd (omega arith)
some_at (x ∷ xs) zero below = (x, refl)
some_at (x ∷ xs) (suc n) below = some_at xs n (omega arith)

pub table_long : (order : List Declaration) (settings : Settings) (p : Program) → IsTable order settings p → length p.classes.items ≡ length order
table_long order settings p t =
    sym (length-map p.classes.items header_of) ∙ ap length t.headers ∙ length-headers order (supers_in order p.core) (sym (length-supers_from (class_names order) p.core.object 0 order))

pub supers_known : (order : List Declaration) (settings : Settings) (p : Program) → IsTable order settings p → AreKnown (direct_in order p.core)
supers_known order settings p t =
    all_known (class_names order) p.core.object order (found_within (class_names order) (codes "java.lang.Object") p.core.object t.core.roots.object) (length-map order class_name_of)

pub table_hierarchy : (order : List Declaration) (settings : Settings) (p : Program) → IsTable order settings p → IsLeast (IsCycle order p.core) None → model.IsHierarchy p
table_hierarchy order settings p t acyclic = headers_hierarchy p p.core.object (class_names order) order refl t.headers (supers_known order settings p t) acyclic t.above

-- ---- what a class is by its declaration

pub record IsDeclared (order : List Declaration) (p : Program) (c : ClassId) (k : Class) : Type 0 where
  pub declaration : Declaration
  pub at : slice_get order c.0 ≡ Some declaration
  pub header : header_of k ≡ declared_header declaration (declared_supers (class_names order) p.core.object c declaration)

record HasHeader (ds : List Declaration) (f : ℕ → Declaration → SuperTypes) (n first : ℕ) (h : Header) : Type 0 where
  declaration : Declaration
  at : slice_get ds n ≡ Some declaration
  header : h ≡ declared_header declaration (f (first + n) declaration)

header_at : (p : Program) (order ds : List Declaration) (first n : ℕ) (h : Header) → slice_get (declared_headers ds (supers_from first (class_names order) p.core.object ds)) n ≡ Some h
    → HasHeader ds (λ m d. declared_supers (class_names order) p.core.object (class_number m) d) n first h
header_at p order [] first n h at = let never : None ≡ Some h = at in cc
header_at p order (d ∷ ds) first zero h at =
    let number : first ≡ first + 0 = omega arith in
    let own = declared_header d (declared_supers (class_names order) p.core.object (class_number first) d) in
    record {
      declaration = d;
      at = refl;
      header = sym (same_Some own h at) ∙ ap (λ m. declared_header d (declared_supers (class_names order) p.core.object (class_number m) d)) number;
    }
header_at p order (d ∷ ds) first (suc n) h at =
    let rest = header_at p order ds (first + 1) n h at in
    let number : first + 1 + n ≡ first + suc n = omega arith in
    record {
      declaration = rest.declaration;
      at = rest.at;
      header = rest.header ∙ ap (λ m. declared_header rest.declaration (declared_supers (class_names order) p.core.object (class_number m) rest.declaration)) number;
    }

pub declared_class : (order : List Declaration) (settings : Settings) (p : Program) → IsTable order settings p → (c : ClassId) (k : Class) → class_at p c ≡ Some k → IsDeclared order p c k
declared_class order settings p t c k at =
    let row = ap (λ hs. slice_get hs c.0) (sym t.headers) ∙ slice_get-map header_of p.classes.items c.0 ∙ ap (option_map header_of) at in
    let found = header_at p order order 0 c.0 (header_of k) row in
    let number : 0 + c.0 ≡ c.0 = omega arith in
    record {
      declaration = found.declaration;
      at = found.at;
      header = found.header ∙ ap (λ m. declared_header found.declaration (declared_supers (class_names order) p.core.object (class_number m) found.declaration)) number;
    }

-- ---- what stands above a class

under_program : (order : List Declaration) (settings : Settings) (p : Program) → IsTable order settings p → model.IsHierarchy p → (c d : ClassId) → c.0 < length order → IsUnder (direct_in order p.core) c d → model.IsUnder p c d
under_program order settings p t hierarchy c d below under =
    let k = some_at p.classes.items c.0 (let long = table_long order settings p t in omega (arith, long)) in
    (((hierarchy.supers c k.0 k.1).above.exact d).0 (((t.above c k.0 k.1).exact d).1 under))

stable_by : (b : Bool) (U : Type 0) → IsTrue b ↔ U → ((U → ⊥) → ⊥) → U
stable_by true U law h = law.0 refl
stable_by false U law h = absurd (h (λ u. true≢false (sym (law.1 u))))

-- whether a class is under another can be told
pub stable_under : (order : List Declaration) (settings : Settings) (p : Program) → IsTable order settings p → model.IsHierarchy p → (c d : ClassId) → c.0 < length order → ((IsUnder (direct_in order p.core) c d → ⊥) → ⊥) → model.IsUnder p c d
stable_under order settings p t hierarchy c d below h =
    stable_by (is_under p c d) (model.IsUnder p c d) (is_under_law p hierarchy c d) (λ no. h (λ under. no (under_program order settings p t hierarchy c d below under)))
