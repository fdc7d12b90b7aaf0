-- Reports that are put behind a text, one after the other.
use Rattle.std.proofs.Common.{◌≡◌, ◌∙◌, sym, ap, refl, subst, rules, append_assoc, ℕ, ◌+◌, ◌≤◌, suc, List, [], ◌∷◌, ◌++◌, length, take}
use Rattle.std.specs.Global.{Vec}
use Rattle.std.specs.List.{AllZip, flat_map}
use Rattle.std.proofs.lemmas.Grind.{flat_map-append}
use Rattle.program_model.specs.declared.kinds.BodyId.{BodyId}
use Rattle.program_model.specs.declared.program.Program.{Program}
use Rattle.breadth_first.specs.Searches.{IsAt}
use Rattle.breadth_first.proofs.ListLaws.{append_none, at_same}
use Rattle.obligation_flow.proofs.OriginLaws.{take_next}
use Rattle.java_cfg.proofs.ListLemmas.{zip_weaker}
use Rattle.java_control.specs.Remaining.{Todo}
use Rattle.fault_order.specs.declared.fault.FaultAt.{FaultAt}
use Rattle.flow_rules.specs.declared.path_step.PathStep.{PathStep}
use Rattle.leak_report.specs.Reports.{report_text}
use Rattle.leak_report.specs.declared.report.Report.{Report}
use Rattle.obligation_flow.specs.Paths.{IsTold, IsToldPathTo}
use Rattle.program_faults.specs.BodyReports.{AppendsReports, HasFaults, IsReportOf, IsShownAs, PrintReports, ShowShortestPath, most_faults, reports_text}

pub zip_push : {A B : Type 0} (R : A → B → Type 0) (xs : List A) (ys : List B) (x : A) (y : B) → AllZip R xs ys → R x y → AllZip R (xs ++ x ∷ []) (ys ++ y ∷ [])
zip_push R [] [] x y h here = (here, tt)
zip_push R [] (z ∷ ys) x y h here = absurd h
zip_push R (z ∷ xs) [] x y h here = absurd h
zip_push R (w ∷ xs) (z ∷ ys) x y h here = (h.0, zip_push R xs ys x y h.1 here)

pub zip_long : {A B : Type 0} (R : A → B → Type 0) (xs : List A) (ys : List B) → AllZip R xs ys → length ys ≡ length xs
zip_long R [] [] h = refl
zip_long R [] (z ∷ ys) h = absurd h
zip_long R (z ∷ xs) [] h = absurd h
zip_long R (w ∷ xs) (z ∷ ys) h = ap suc (zip_long R xs ys h.1)

flat_one : {X A : Type 0} (f : X → List A) (x : X) → flat_map f (x ∷ []) ≡ f x
flat_one f x = search rules

pub flat_push : {X A : Type 0} (f : X → List A) (xs : List X) (x : X) → flat_map f (xs ++ x ∷ []) ≡ flat_map f xs ++ f x
flat_push f xs x = flat_map-append f xs (x ∷ []) ∙ ap (λ ys. flat_map f xs ++ ys) (flat_one f x)

-- a path that is told is shown
pub told_shown : (p : Program) (b : BodyId) (nodes : List (List Todo)) (x : FaultAt) (steps : List PathStep) → IsToldPathTo p b nodes x steps → ShowShortestPath p b x steps
told_shown p b nodes x steps h = record {
  path = h.path;
  shortest = h.is;
  steps = zip_weaker (IsTold nodes h.number) IsShownAs (λ s t one. record { pos = one.pos; action = one.action; edge = one.edge }) steps h.path h.told;
}

-- the report of a fault whose path is told
pub told_report : (p : Program) (b : BodyId) (nodes : List (List Todo)) (faults : List FaultAt) (k : ℕ) (x y : FaultAt) (steps : Vec PathStep) → IsAt faults k x → IsAt faults k y → IsToldPathTo p b nodes y steps.items
    → IsReportOf p b y (record { origin = x.origin; rule = x.rule; at = x.at; missing = x.missing; path = steps })
told_report p b nodes faults k x y steps here there told =
    let same : x ≡ y = at_same faults k x y here there in
    record {
      origin = ap (λ (f : FaultAt). f.origin) same;
      rule = ap (λ (f : FaultAt). f.rule) same;
      at = ap (λ (f : FaultAt). f.at) same;
      missing = ap (λ (f : FaultAt). f.missing) same;
      path = told_shown p b nodes y steps.items told;
    }

module _ (p : Program) (files : List (List ℕ)) (b : BodyId) where
  pub none_printed : (text : List ℕ) → PrintReports p files b [] text text
  none_printed text = record { reports = []; each = tt; printed = append_none text }

  printed_next : (faults more : List FaultAt) (x : FaultAt) (r : Report) (old now new : List ℕ) → PrintReports p files b faults old now → more ≡ faults ++ x ∷ [] → IsReportOf p b x r
      → new ≡ now ++ report_text p files r → PrintReports p files b more old new
  printed_next faults more x r old now new h is here printed = record {
    reports = h.reports ++ r ∷ [];
    each = subst (λ (xs : List FaultAt). AllZip (IsReportOf p b) xs (h.reports ++ r ∷ [])) (sym is) (zip_push (IsReportOf p b) faults h.reports x r h.each here);
    printed = printed ∙ ap (λ xs. xs ++ report_text p files r) h.printed ∙ append_assoc old (reports_text p files h.reports) (report_text p files r) ∙ ap (λ xs. old ++ xs) (sym (flat_push (report_text p files) h.reports r));
  }

  -- the report of one fault more
  pub printed_more : (faults : List FaultAt) (k : ℕ) (x : FaultAt) (r : Report) (old now new : List ℕ) → IsAt faults k x → PrintReports p files b (take k faults) old now → IsReportOf p b x r
      → new ≡ now ++ report_text p files r → PrintReports p files b (take (k + 1) faults) old new
  printed_more faults k x r old now new at h here printed = printed_next (take k faults) (take (k + 1) faults) x r old now new h (take_next faults k x at) here printed

  -- the reports of a body
  pub all_appended : (faults : List FaultAt) (before after : ℕ) (old new : List ℕ) → HasFaults p b faults → PrintReports p files b faults old new → after ≡ before + length faults → after ≤ most_faults
      → AppendsReports p files b before after old new
  all_appended faults before after old new has h counted few = record {
    reports = h.reports;
    has = record { faults = faults; has = has; each = h.each };
    counted = counted ∙ ap (λ n. before + n) (sym (zip_long (IsReportOf p b) faults h.reports h.each));
    few = few;
    appended = h.printed;
  }
