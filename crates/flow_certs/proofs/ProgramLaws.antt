-- The parts of the bodies of a text of the form, one after the other.
use Rattle.std.proofs.Common.{◌≡◌, ◌∙◌, sym, ap, refl, subst, arith, ℕ, ◌+◌, ◌-◌, ◌<◌, ◌≤◌, ◌^◌, ◌==◌, suc, Bool, true, false, inl, inr, Some, None, List, [], ◌∷◌, length, drop}
use Rattle.std.specs.Prelude.{if◌then◌else◌, unwrap_or}
use Rattle.std.proofs.lemmas.Bool.{cases_lt}
use Rattle.std.proofs.lemmas.List.{length-drop}
use Rattle.std.proofs.lemmas.List.Splits.{length-slice_split}
use Rattle.std.proofs.lemmas.List.Sums.{count_by-le-length}
use Rattle.rlc_base.specs.declared.faults.Stop.{Stop}
use Rattle.rlc_base.specs.declared.faults.Stop.TheVariants as stops
use Rattle.program_model.specs.declared.program.Program.{Program}
use Rattle.breadth_first.specs.Searches.{IsAt}
use Rattle.flow_certs.specs.declared.form.Stage.TheVariants as stages
use Rattle.flow_certs.specs.Causes.{IsCertificateStop, IsPartStop}
use Rattle.flow_certs.specs.Certificates.{AreCertified, IsCertified}
use Rattle.flow_certs.specs.Forms.{ArePairLines, Section, behind_part, body_count, body_id, first_part, first_wrong, lines_of, pair_count, pairs_in, said_count, sections, sections_from, wrong_from}
use Rattle.flow_certs.specs.Lines.{is_head}
use Rattle.flow_certs.proofs.FormLaws.{body_line, none_wrong, pair_lines, some_none}
use Rattle.flow_certs.proofs.ListPlaces.{drop_at, drop_next}

module _ (p : Program) where
  -- a text of the form has more than one line
  pub more_lines : (lines : List (List ℕ)) → wrong_from p (Some stages.Head) 1 lines ≡ None → 1 < length lines
  more_lines [] h = absurd (some_none p 1 h)
  more_lines (line ∷ []) h = absurd (some_none p 1 h)
  more_lines (line ∷ other ∷ rest) h = omega arith

  -- behind the first line stand the parts of the bodies
  pub behind_head : (line : List ℕ) (rest : List (List ℕ)) → wrong_from p (Some stages.Head) 1 (line ∷ rest) ≡ None → wrong_from p (Some (stages.Within 0 0)) 2 rest ≡ None
  behind_head line [] h = absurd (some_none p 1 h)
  behind_head line (other ∷ rest) h = by_head (is_head line) refl
    where
      by_head : (test : Bool) → is_head line ≡ test → wrong_from p (Some (stages.Within 0 0)) 2 (other ∷ rest) ≡ None
      by_head true is = ap (λ t. wrong_from p (if t then Some (stages.Within 0 0) else None) 2 (other ∷ rest)) (sym is) ∙ h
      by_head false is = absurd (none_wrong p 2 (other ∷ rest) (ap (λ t. wrong_from p (if t then Some (stages.Within 0 0) else None) 2 (other ∷ rest)) (sym is) ∙ h))

  pub more_behind : (next number : ℕ) (lines : List (List ℕ)) → wrong_from p (Some (stages.Within next 0)) number lines ≡ None → 1 < length lines
  more_behind next number [] h = absurd (some_none p number h)
  more_behind next number (line ∷ []) h = absurd (some_none p number h)
  more_behind next number (line ∷ other ∷ rest) h = omega arith

  -- The text stands at the line of a body: the parts before it are certificates.
  pub record IsSoFar (all : List (List ℕ)) (parts : List Section) (body line : ℕ) (lines : List (List ℕ)) : Type 0 where
    pub form : wrong_from p (Some (stages.Within body 0)) line lines ≡ None
    pub rest : sections_from p (body_count p - body) body line lines ≡ drop body parts
    pub certified : AreCertified p parts body
    pub count : line + length lines ≡ length all + 1

  pub none_yet : (all : List (List ℕ)) (line : List ℕ) (lines : List (List ℕ)) → all ≡ line ∷ lines → wrong_from p (Some stages.Head) 1 all ≡ None
      → IsSoFar all (sections_from p (body_count p) 0 2 (drop 1 all)) 0 2 lines
  none_yet all line lines is h =
      let whole : body_count p - 0 ≡ body_count p = omega arith in
      let tail : lines ≡ drop 1 all = ap (drop 1) (sym is) in
      record {
        form = behind_head line lines (ap (wrong_from p (Some stages.Head) 1) (sym is) ∙ h);
        rest = (λ i. sections_from p (whole i) 0 2 (tail i));
        certified = λ i low. absurd (omega (arith, low));
        count = (let long = ap length is in omega (arith, long));
      }

  -- ---- the line of a body, and what stands behind it

  record HasPart (body line : ℕ) (first : List ℕ) (tail : List (List ℕ)) : Type 0 where
    enough : said_count body first < length tail
    pairs : ArePairLines p (body_id body) (said_count body first) tail
    form : wrong_from p (Some (stages.Within (body + 1) 0)) (line + 1 + said_count body first) (drop (said_count body first) tail) ≡ None

  has_part : (body line : ℕ) (first : List ℕ) (tail : List (List ℕ)) → body < body_count p → wrong_from p (Some (stages.Within body 0)) line (first ∷ tail) ≡ None → HasPart body line first tail
  has_part body line first tail inside h =
      let said = body_line p body line first tail inside h in
      let listed = pair_lines p (body + 1) said.count (line + 1) tail said.form in
      let says : said.count ≡ said_count body first = ap (λ o. unwrap_or o 0) (sym said.says) in
      let one : body + 1 - 1 ≡ body = omega arith in
      record {
        enough = (let enough = listed.enough in omega (arith, enough, says));
        pairs = subst (λ (n : ℕ). ArePairLines p (body_id body) n tail) says (subst (λ (n : ℕ). ArePairLines p (body_id n) said.count tail) one listed.pairs);
        form = subst (λ (n : ℕ). wrong_from p (Some (stages.Within (body + 1) 0)) (line + 1 + n) (drop n tail) ≡ None) says listed.rest;
      }

  module _ (body line count : ℕ) (lines : List (List ℕ)) (first : List ℕ) (tail : List (List ℕ)) (parts : lines ≡ first ∷ tail) (counted : count ≡ said_count body first) where
    at_first : body < body_count p → wrong_from p (Some (stages.Within body 0)) line lines ≡ None → HasPart body line first tail
    at_first inside h = has_part body line first tail inside (ap (wrong_from p (Some (stages.Within body 0)) line) (sym parts) ∙ h)

    pub enough_lines : body < body_count p → wrong_from p (Some (stages.Within body 0)) line lines ≡ None → count < length tail
    enough_lines inside h = let more = (at_first inside h).enough in omega (arith, more, counted)

    pub are_pair_lines : body < body_count p → wrong_from p (Some (stages.Within body 0)) line lines ≡ None → ArePairLines p (body_id body) count tail
    are_pair_lines inside h = subst (λ (n : ℕ). ArePairLines p (body_id body) n tail) (sym counted) (at_first inside h).pairs

    pub tail_room : line + length lines < 2 ^ 32 + 1 → line + length tail < 2 ^ 32
    tail_room room = let long = ap length parts in omega (arith, room, long)

    pub line_room : body < body_count p → wrong_from p (Some (stages.Within body 0)) line lines ≡ None → line + length lines < 2 ^ 32 + 1 → line + 1 + count < 2 ^ 32
    line_room inside h room =
        let long = ap length parts in
        let more = enough_lines inside h in
        omega (arith, room, long, more)

    pub part_pairs : pairs_in p (body_id body) count tail ≡ (first_part p body line lines).pairs
    part_pairs = ap (λ n. pairs_in p (body_id body) n tail) counted ∙ ap (λ ls. (first_part p body line ls).pairs) (sym parts)

    pub part_count : count ≡ pair_count body lines
    part_count = counted ∙ ap (pair_count body) (sym parts)

    pub part_behind : drop count tail ≡ behind_part body lines
    part_behind = ap (λ n. drop n tail) counted ∙ ap (behind_part body) (sym parts)

  -- ---- one body more

  pub here : (all : List (List ℕ)) (parts : List Section) (body line : ℕ) (lines : List (List ℕ)) → IsSoFar all parts body line lines → body < body_count p → IsAt parts body (first_part p body line lines)
  here all parts body line lines so_far inside =
      let next : body_count p - body ≡ suc (body_count p - (body + 1)) = omega (arith, inside) in
      drop_at body parts (first_part p body line lines) (sections_from p (body_count p - (body + 1)) (body + 1) (line + 1 + pair_count body lines) (behind_part body lines))
      (ap (λ n. sections_from p n body line lines) (sym next) ∙ so_far.rest)

  next_form : (body line : ℕ) (lines : List (List ℕ)) → body < body_count p → wrong_from p (Some (stages.Within body 0)) line lines ≡ None
      → wrong_from p (Some (stages.Within (body + 1) 0)) (line + 1 + pair_count body lines) (behind_part body lines) ≡ None
  next_form body line [] inside h = absurd (some_none p line h)
  next_form body line (first ∷ tail) inside h = (has_part body line first tail inside h).form

  next_count : (body line : ℕ) (lines : List (List ℕ)) → body < body_count p → wrong_from p (Some (stages.Within body 0)) line lines ≡ None
      → line + 1 + pair_count body lines + length (behind_part body lines) ≡ line + length lines
  next_count body line [] inside h = absurd (some_none p line h)
  next_count body line (first ∷ tail) inside h =
      let more = (has_part body line first tail inside h).enough in
      let long = length-drop (said_count body first) tail in
      omega (arith, more, long)

  pub one_more : (all : List (List ℕ)) (parts : List Section) (body line after : ℕ) (lines rest : List (List ℕ)) → IsSoFar all parts body line lines → body < body_count p
      → after ≡ line + 1 + pair_count body lines → rest ≡ behind_part body lines → IsCertified p (body_id body) (first_part p body line lines).pairs → IsSoFar all parts (body + 1) after rest
  one_more all parts body line after lines rest so_far inside number behind certified =
      let next : body_count p - body ≡ suc (body_count p - (body + 1)) = omega (arith, inside) in
      let tail =
      drop_next body parts (first_part p body line lines) (sections_from p (body_count p - (body + 1)) (body + 1) (line + 1 + pair_count body lines) (behind_part body lines))
      (ap (λ n. sections_from p n body line lines) (sym next) ∙ so_far.rest) in
      let one : suc body ≡ body + 1 = omega arith in
      let at = here all parts body line lines so_far inside in
      record {
        form = (λ i. wrong_from p (Some (stages.Within (body + 1) 0)) (number i) (behind i)) ∙ next_form body line lines inside so_far.form;
        rest = (λ i. sections_from p (body_count p - (body + 1)) (body + 1) (number i) (behind i)) ∙ tail ∙ ap (λ n. drop n parts) one;
        certified = λ i low. elim (cases_lt i body) [
          | inl below ↦ so_far.certified i below
          | inr past ↦ (
              let last : body ≡ i = omega (arith, low, past) in
              subst (λ (n : ℕ). (s : Section) × (IsAt parts n s × IsCertified p (body_id n) s.pairs)) last (first_part p body line lines, (at, certified)))
        ];
        count = (
            let total = so_far.count in
            let same = next_count body line lines inside so_far.form in
            let long = ap length behind in
            omega (arith, total, same, long, number));
      }

  -- a text has at most one line more than bytes
  pub lines_few : (bytes : List ℕ) → length (lines_of bytes) ≤ length bytes + 1
  lines_few bytes =
      let parts = length-slice_split (λ b. b == 10) bytes in
      let least = count_by-le-length (λ b. b == 10) bytes in
      omega (arith, parts, least)

  -- a body whose part is not taken is the first
  pub stopped : (file : ℕ) (bytes : List ℕ) (body line : ℕ) (lines : List (List ℕ)) (stop : Stop) → first_wrong p bytes ≡ None → body < body_count p → IsSoFar (lines_of bytes) (sections p bytes) body line lines
      → IsPartStop p file (body_id body) line (first_part p body line lines).pairs stop → IsCertificateStop p file bytes stop
  stopped file bytes body line lines (stops.Refused r) form inside so_far (open_at, (opens, is)) = inr (record {
    form = form;
    number = body;
    within = inside;
    section = record { line = line; pairs = (first_part p body line lines).pairs };
    at = (let at = here (lines_of bytes) (sections p bytes) body line lines so_far inside in at ∙ ap Some (whole lines));
    before = so_far.certified;
    line = open_at;
    opens = opens;
    is = is;
  })
    where
      whole : (ls : List (List ℕ)) → first_part p body line ls ≡ record { line = line; pairs = (first_part p body line ls).pairs }
      whole [] = refl
      whole (l ∷ ls) = refl
  stopped file bytes body line lines (stops.TooMuch r) form inside so_far limit = record { form = form; number = body; within = inside; before = so_far.certified; limit = limit }
  stopped file bytes body line lines stops.NoMemory form inside so_far cause = tt
