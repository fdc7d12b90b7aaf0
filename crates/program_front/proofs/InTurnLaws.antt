-- One item more that is done, and the item that stops.
use Rattle.std.proofs.Common.{◌≡◌, ◌<◌, ◌+◌, ◌++◌, ◌∷◌, [], ap, sym, subst, refl, arith, add-one, ℕ, zero, suc, List, length, take, drop, get_or}
use Rattle.std.specs.Prelude.{All}
use Rattle.rlc_base.specs.declared.faults.Stop.{Stop}
use Rattle.rlc_base.specs.declared.faults.Stop.TheVariants as stops
use Rattle.program_front.specs.Files.{IsCutOf, IsShort, IsShortCut}
use Rattle.program_front.specs.InTurn.{AreDone, IsStopInTurn}
use Rattle.program_front.specs.declared.files.CutFile.{CutFile}
use Rattle.program_front.specs.declared.files.InputFile.{InputFile}

module _ {A B : Type 0} (Done : A → B → Type 0) where
  done_next : (xs : List A) (i : ℕ) (x : A) (ys : List B) (y : B) → i < length xs → x ≡ get_or xs i x → AreDone Done (take i xs) ys → Done x y
      → AreDone Done (take (suc i) xs) (ys ++ y ∷ [])
  done_next [] i x ys y inside at done one = absurd (omega (arith, inside))
  done_next (x' ∷ xs) zero x [] y inside at done one = (subst (λ (z : A). Done z y) at one, tt)
  done_next (x' ∷ xs) zero x (y' ∷ ys) y inside at done one = absurd done
  done_next (x' ∷ xs) (suc i) x [] y inside at done one = absurd done
  done_next (x' ∷ xs) (suc i) x (y' ∷ ys) y inside at (first, rest) one =
      let within : i < length xs = omega (arith, inside) in
      (first, done_next xs i x ys y within at rest one)

  pub done_more : (xs : List A) (i : ℕ) (x : A) (ys : List B) (y : B) → i < length xs → x ≡ get_or xs i x → AreDone Done (take i xs) ys → Done x y
      → AreDone Done (take (i + 1) xs) (ys ++ y ∷ [])
  done_more xs i x ys y inside at done one = rw add-one (done_next xs i x ys y inside at done one)

split_here : {A : Type 0} (xs : List A) (i : ℕ) (x : A) → i < length xs → x ≡ get_or xs i x → xs ≡ take i xs ++ x ∷ drop (suc i) xs
split_here [] i x inside at = absurd (omega (arith, inside))
split_here (y ∷ ys) zero x inside at = ap (λ z. z ∷ ys) (sym at)
split_here (y ∷ ys) (suc i) x inside at =
    let within : i < length ys = omega (arith, inside) in
    ap (λ zs. y ∷ zs) (split_here ys i x within at)

-- the item at which it stops is the first
pub stopped_at : {A B : Type 0} (Done : A → B → Type 0) (Stops : A → Stop → Type 0) (xs : List A) (i : ℕ) (x : A) (ys : List B) (stop : Stop)
    → i < length xs → x ≡ get_or xs i x → AreDone Done (take i xs) ys → Stops x stop → IsStopInTurn Done Stops xs stop
stopped_at Done Stops xs i x ys (stops.Refused r) inside at done stopped =
    record { before = take i xs; done = ys; at = x; behind = drop (suc i) xs; split = split_here xs i x inside at; are_done = done; stops = stopped }
stopped_at Done Stops xs i x ys (stops.TooMuch r) inside at done stopped =
    record { before = take i xs; done = ys; at = x; behind = drop (suc i) xs; split = split_here xs i x inside at; are_done = done; stops = stopped }
stopped_at Done Stops xs i x ys stops.NoMemory inside at done stopped = tt

-- what holds of all items holds of this one
pub all_here : {A : Type 0} (P : A → Type 0) (xs : List A) (i : ℕ) (x : A) → i < length xs → x ≡ get_or xs i x → All P xs → P x
all_here P xs i x inside at all = subst P (sym at) (all i x inside)

-- the tokens are those of short files
pub shorts_of : (fs : List InputFile) (cs : List CutFile) → AreDone IsCutOf fs cs → All IsShort fs → All IsShortCut cs
shorts_of [] [] done all k d inside = absurd (omega (arith, inside))
shorts_of [] (c ∷ cs) done all k d inside = absurd done
shorts_of (f ∷ fs) [] done all k d inside = absurd done
shorts_of (f ∷ fs) (c ∷ cs) (first, rest) all zero d inside =
    let here : 0 < length (f ∷ fs) = omega arith in
    subst IsShort (sym first.0) (all zero f here)
shorts_of (f ∷ fs) (c ∷ cs) (first, rest) all (suc k) d inside =
    let within : k < length cs = omega (arith, inside) in
    shorts_of fs cs rest (λ j e below. let there : suc j < length (f ∷ fs) = omega (arith, below) in all (suc j) e there) k d within

-- an element does not depend on what stands for one that is not there
pub same_element : {A : Type 0} (xs : List A) (i : ℕ) (d e : A) → i < length xs → get_or xs i d ≡ get_or xs i e
same_element [] i d e inside = absurd (omega (arith, inside))
same_element (x ∷ xs) zero d e inside = refl
same_element (x ∷ xs) (suc i) d e inside =
    let within : i < length xs = omega (arith, inside) in
    same_element xs i d e within
