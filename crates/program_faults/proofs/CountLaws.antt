-- The reports of the bodies of a program, one body after the other, and what their number says.
use Rattle.std.proofs.Common.{◌≡◌, ◌∙◌, sym, ap, refl, subst, arith, length-append, ℕ, ◌+◌, ◌<◌, zero, suc, inl, inr, Option, Some, None, List, [], ◌∷◌, ◌++◌, map, length}
use Rattle.std.specs.Prelude.{Err, IfOk, Ok, Result, slice_get, sum_by}
use Rattle.std.proofs.lemmas.Bool.{cases_lt}
use Rattle.std.proofs.lemmas.List.Sums.{sum_by-append}
use Rattle.std.proofs.lemmas.Option.{slice_get_past}
use Rattle.rlc_base.specs.declared.faults.Stop.{Stop}
use Rattle.rlc_base.specs.declared.faults.Stop.TheVariants as stops
use Rattle.program_model.specs.declared.kinds.BodyId.{BodyId}
use Rattle.program_model.specs.declared.program.Program.{Program}
use Rattle.program_model.specs.declared.tree.Body.{Body}
use Rattle.program_model.specs.Lookups.{body_at}
use Rattle.breadth_first.specs.Searches.{IsAt}
use Rattle.breadth_first.proofs.ListLaws.{at_place, at_push, at_within}
use Rattle.java_control.specs.Control.{Step, next_of, steps_in}
use Rattle.java_control.specs.Remaining.{Todo}
use Rattle.fault_order.specs.declared.fault.FaultAt.{FaultAt}
use Rattle.flow_rules.specs.Paths.{move_of}
use Rattle.leak_report.specs.declared.report.Report.{Report}
use Rattle.program_faults.specs.BodyReports.{AppendsReports, HasFaults, HasReports, IsBodyStop, IsReportOf, reports_text}
use Rattle.program_faults.specs.ProgramReports.{HaveFaults, HaveReports, IsFaultCount, IsFaultStop, IsFaulty, IsReportText, IsReportTextOf, body_id, total_count}
use Rattle.program_faults.proofs.PrintLaws.{flat_push, zip_long}

total_one : {X : Type 0} (f : X → ℕ) (x : X) → sum_by f (x ∷ []) ≡ f x
total_one f x = omega arith

total_push : {X : Type 0} (xs : List (List X)) (x : List X) → total_count (xs ++ x ∷ []) ≡ total_count xs + length x
total_push xs x = sum_by-append length xs (x ∷ []) ∙ ap (λ n. total_count xs + n) (total_one length x)

total_next : {X : Type 0} (x : List X) (xs : List (List X)) → total_count (x ∷ xs) ≡ length x + total_count xs
total_next x xs = sum_by-append length (x ∷ []) xs ∙ ap (λ n. n + total_count xs) (total_one length x)

total_same : {X Y : Type 0} (x : List X) (y : List Y) (xs : List (List X)) (ys : List (List Y)) → length x ≡ length y → total_count xs ≡ total_count ys → total_count (x ∷ xs) ≡ total_count (y ∷ ys)
total_same x y xs ys first rest = total_next x xs ∙ (λ i. first i + rest i) ∙ sym (total_next y ys)

-- ---- reports and faults

module _ (p : Program) where
  -- the faults of the bodies from the number `first` on, whose reports these are
  record HaveFaultsFrom (first : ℕ) (reports : List (List Report)) : Type 0 where
    faults : List (List FaultAt)
    long : length faults ≡ length reports
    counted : total_count faults ≡ total_count reports
    each : (i : ℕ) (xs : List FaultAt) → IsAt faults i xs → HasFaults p (body_id (first + i)) xs

  shifted : (first : ℕ) → first + 0 ≡ first
  shifted first = omega arith

  next_number : (first i : ℕ) → first + suc i ≡ first + 1 + i
  next_number first i = omega arith

  faults_from : (first : ℕ) (reports : List (List Report)) → ((i : ℕ) (xs : List Report) → IsAt reports i xs → HasReports p (body_id (first + i)) xs) → HaveFaultsFrom first reports
  faults_from first [] each = record { faults = []; long = refl; counted = refl; each = λ i xs here. absurd (let never : None ≡ Some xs = here in cc) }
  faults_from first (r ∷ reports) each =
      further (subst (λ (n : ℕ). HasReports p (body_id n) r) (shifted first) (each 0 r refl))
      (faults_from (first + 1) reports (λ i xs here. subst (λ (n : ℕ). HasReports p (body_id n) xs) (next_number first i) (each (suc i) xs here)))
    where
      each_of : (one : HasReports p (body_id first) r) (rest : HaveFaultsFrom (first + 1) reports) (i : ℕ) (xs : List FaultAt) → IsAt (one.faults ∷ rest.faults) i xs → HasFaults p (body_id (first + i)) xs
      each_of one rest zero xs here =
          let same : one.faults ≡ xs = cc in
          subst (λ (n : ℕ). HasFaults p (body_id n) xs) (sym (shifted first)) (subst (HasFaults p (body_id first)) same one.has)
      each_of one rest (suc i) xs here = subst (λ (n : ℕ). HasFaults p (body_id n) xs) (sym (next_number first i)) (rest.each i xs here)

      further : HasReports p (body_id first) r → HaveFaultsFrom (first + 1) reports → HaveFaultsFrom first (r ∷ reports)
      further one rest = record {
        faults = one.faults ∷ rest.faults;
        long = ap suc rest.long;
        counted = total_same one.faults r rest.faults reports (sym (zip_long (IsReportOf p (body_id first)) one.faults r one.each)) rest.counted;
        each = each_of one rest;
      }

  unshifted : (i : ℕ) → 0 + i ≡ i
  unshifted i = omega arith

  faults_of : (n : ℕ) (reports : List (List Report)) → HaveReports p n reports → (faults : List (List FaultAt)) × (HaveFaults p n faults × (total_count faults ≡ total_count reports))
  faults_of n reports h =
      let all = faults_from 0 reports (λ i xs here. subst (λ (m : ℕ). HasReports p (body_id m) xs) (sym (unshifted i)) (h.each i xs here)) in
      (all.faults, (record { long = all.long ∙ h.long; each = λ i xs here. subst (λ (m : ℕ). HasFaults p (body_id m) xs) (unshifted i) (all.each i xs here) }, all.counted))

  -- the number of reports is that of faults
  pub report_count : (files : List (List ℕ)) (count : ℕ) (text : List ℕ) → IsReportText p files count text → IsFaultCount p count
  report_count files count text h =
      let all = faults_of (length p.bodies.items) h.reports h.has in
      record { faults = all.0; has = all.1.0; counted = h.counted ∙ sym all.1.1; few = h.few }

  -- ---- one body more

  module _ (files : List (List ℕ)) where
    pub no_reports : IsReportTextOf p files 0 0 []
    no_reports = record {
      reports = [];
      has = record { long = refl; each = λ i xs here. absurd (let never : None ≡ Some xs = here in cc) };
      counted = refl;
      few = omega arith;
      printed = refl;
    }

    pub one_body_more : (n count after : ℕ) (old new : List ℕ) → IsReportTextOf p files n count old → AppendsReports p files (body_id n) count after old new → IsReportTextOf p files (n + 1) after new
    one_body_more n count after old new h one = record {
      reports = h.reports ++ one.reports ∷ [];
      has = record { long = (let long = h.has.long in length_push h.reports one.reports ∙ ap (λ m. m + 1) long); each = each };
      counted = one.counted ∙ ap (λ m. m + length one.reports) h.counted ∙ sym (total_push h.reports one.reports);
      few = one.few;
      printed = one.appended ∙ ap (λ xs. xs ++ reports_text p files one.reports) h.printed ∙ sym (flat_push (reports_text p files) h.reports one.reports);
    }
      where
        length_push : (xs : List (List Report)) (x : List Report) → length (xs ++ x ∷ []) ≡ length xs + 1
        length_push xs x = let both = length-append xs (x ∷ []) in both

        each : (i : ℕ) (xs : List Report) → IsAt (h.reports ++ one.reports ∷ []) i xs → HasReports p (body_id i) xs
        each i xs here = elim (at_push h.reports one.reports i xs here) [
          | inl before ↦ h.has.each i xs before
          | inr last ↦ subst (λ (m : ℕ). HasReports p (body_id m) xs) (sym (last.0 ∙ h.has.long)) (subst (HasReports p (body_id n)) last.1 one.has)
        ]

    -- a body at which the check stops is the first one
    pub stops_first : (n count : ℕ) (old : List ℕ) (stop : Stop) → n < length p.bodies.items → IsReportTextOf p files n count old → IsBodyStop p (body_id n) count stop → IsFaultStop p stop
    stops_first n count old (stops.Refused r) within h here = here
    stops_first n count old (stops.TooMuch r) within h here =
        let all = faults_of n h.reports h.has in
        let counted : count ≡ total_count all.0 = h.counted ∙ sym all.1.1 in
        record {
          number = n;
          within = within;
          faults = all.0;
          before = all.1.0;
          few = (let few = h.few in omega (arith, few, counted));
          stops = subst (λ (m : ℕ). IsBodyStop p (body_id n) m (stops.TooMuch r)) counted here;
        }
    stops_first n count old stops.NoMemory within h here = tt

  -- ---- what the count says

  empty_by : {X : Type 0} (lists : List (List X)) (i : ℕ) (xs : List X) → total_count lists ≡ 0 → IsAt lists i xs → length xs ≡ 0
  empty_by [] i xs none here = absurd (let never : None ≡ Some xs = here in cc)
  empty_by (x ∷ lists) zero xs none here =
      let same : x ≡ xs = cc in
      let sum = total_next x lists in
      let empty : length x ≡ 0 = omega (arith, sum, none) in
      ap length (sym same) ∙ empty
  empty_by (x ∷ lists) (suc i) xs none here =
      let sum = total_next x lists in
      let rest : total_count lists ≡ 0 = omega (arith, sum, none) in
      empty_by lists i xs rest here

  -- a number that names no body has no steps
  no_steps : (b : BodyId) (k : List Todo) → body_at p b ≡ None → next_of p b k ≡ []
  unfolding next_of
  no_steps b k none = ap (λ (x : Option Body). steps_in p x k) none

  no_body : (h : IsFaulty p) → body_at p h.body ≡ None → ⊥
  no_body h none =
      let step : slice_get (map move_of []) h.faulty.index ≡ Some h.faulty.move = ap (λ (xs : List Step). slice_get (map move_of xs) h.faulty.index) (sym (no_steps h.body h.faulty.control none)) ∙ h.faulty.step in
      let inside = at_within [] h.faulty.index h.faulty.move step in
      absurd (omega (arith, inside))

  -- where no fault is counted the rules derive none
  pub accepted : (count : ℕ) → IsFaultCount p count → count ≡ 0 → IsFaulty p → ⊥
  accepted count h none bad = elim (cases_lt bad.body.0 (length p.bodies.items)) [
    | inl inside ↦ (
        let long = h.has.long in
        let one = at_place h.faults bad.body.0 (omega (arith, inside, long)) in
        let empty = empty_by h.faults bad.body.0 one.0 (sym h.counted ∙ none) one.1 in
        let found = (h.has.each bad.body.0 one.0 one.1).are.all bad.origin bad.rule bad.at bad.names bad.faulty in
        let within = at_within one.0 found.1.0.0 found.0 found.1.0.1 in
        absurd (omega (arith, within, empty)))
    | inr past ↦ no_body bad (slice_get_past p.bodies.items bad.body.0 past)
  ]

  some_by : (lists : List (List FaultAt)) → 0 < total_count lists → (i : ℕ) × ((xs : List FaultAt) × (IsAt lists i xs × ((x : FaultAt) × IsAt xs 0 x)))
  some_by [] some = absurd (omega (arith, some))
  some_by ([] ∷ lists) some =
      let sum = total_next [] lists in
      let more : 0 < total_count lists = omega (arith, sum, some) in
      let rest = some_by lists more in
      (suc rest.0, rest.1)
  some_by ((x ∷ xs) ∷ lists) some = (0, (x ∷ xs, (refl, (x, refl))))

  -- where some fault is counted the rules derive one
  pub leaks : (count : ℕ) → IsFaultCount p count → 0 < count → IsFaulty p
  leaks count h some =
      let counted = h.counted in
      let one = some_by h.faults (omega (arith, some, counted)) in
      let x = one.1.1.1.0 in
      let derived = (h.has.each one.0 one.1.0 one.1.1.0).are.derived 0 x one.1.1.1.1 in
      record { body = body_id one.0; origin = x.origin; rule = x.rule; at = x.at; names = derived.0; faulty = derived.1 }

pub if_ok : {A E : Type 0} (r : Result A E) (P Q : A → Type 0) → ((x : A) → P x → Q x) → IfOk r P → IfOk r Q
if_ok (Ok x) P Q f h = f x h
if_ok (Err e) P Q f h = tt
