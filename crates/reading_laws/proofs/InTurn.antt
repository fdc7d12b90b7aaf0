-- Two lists of the same items are done to the same, or stop at the same item.
use Rattle.std.proofs.Common.{subst, List, [], ◌∷◌, ◌++◌}
use Rattle.rlc_base.specs.declared.faults.Stop.{Stop}
use Rattle.program_front.specs.InTurn.{AreDone, IsFirstStop}

-- what is done of the same is the same
pub same_done : {A B C D : Type 0} (Same : A → B → Type 0) (Done : A → C → Type 0) (Did : B → D → Type 0) (Alike : C → D → Type 0)
    → ((a : A) (b : B) (c : C) (d : D) → Same a b → Done a c → Did b d → Alike c d)
    → (xs : List A) (ys : List B) (cs : List C) (ds : List D) → AreDone Same xs ys → AreDone Done xs cs → AreDone Did ys ds → AreDone Alike cs ds
same_done Same Done Did Alike one [] [] [] [] same done did = tt
same_done Same Done Did Alike one [] [] [] (d ∷ ds) same done did = absurd did
same_done Same Done Did Alike one [] [] (c ∷ cs) ds same done did = absurd done
same_done Same Done Did Alike one [] (y ∷ ys) cs ds same done did = absurd same
same_done Same Done Did Alike one (x ∷ xs) [] cs ds same done did = absurd same
same_done Same Done Did Alike one (x ∷ xs) (y ∷ ys) [] ds same done did = absurd done
same_done Same Done Did Alike one (x ∷ xs) (y ∷ ys) (c ∷ cs) [] same done did = absurd did
same_done Same Done Did Alike one (x ∷ xs) (y ∷ ys) (c ∷ cs) (d ∷ ds) same done did =
    (one x y c d same.0 done.0 did.0, same_done Same Done Did Alike one xs ys cs ds same.1 done.1 did.1)

-- items that are all done do not stop
module _ {A B C D : Type 0} (Same : A → B → Type 0) (Done : A → C → Type 0) (Did : B → D → Type 0) (Stops : B → Stop → Type 0) (stop : Stop)
    (never : (a : A) (b : B) (c : C) → Same a b → Done a c → Stops b stop → ⊥) where
  no_stop_at : (before : List B) (at : B) (behind : List B) (xs : List A) (cs : List C) → AreDone Same xs (before ++ at ∷ behind) → AreDone Done xs cs → Stops at stop → ⊥
  no_stop_at [] at behind [] cs same done stopped = same
  no_stop_at [] at behind (x ∷ xs) [] same done stopped = done
  no_stop_at [] at behind (x ∷ xs) (c ∷ cs) same done stopped = never x at c same.0 done.0 stopped
  no_stop_at (y ∷ before) at behind [] cs same done stopped = same
  no_stop_at (y ∷ before) at behind (x ∷ xs) [] same done stopped = done
  no_stop_at (y ∷ before) at behind (x ∷ xs) (c ∷ cs) same done stopped = no_stop_at before at behind xs cs same.1 done.1 stopped

  pub no_stop : (xs : List A) (ys : List B) (cs : List C) → AreDone Same xs ys → AreDone Done xs cs → IsFirstStop Did Stops ys stop → ⊥
  no_stop xs ys cs same done s = no_stop_at s.before s.at s.behind xs cs (subst (λ (zs : List B). AreDone Same xs zs) s.split same) done s.stops

-- two first stops are at the same item
module _ {A B C D : Type 0} (Same : A → B → Type 0) (Done : A → C → Type 0) (Did : B → D → Type 0) (Stops : A → Stop → Type 0) (Stopped : B → Stop → Type 0)
    (stop other : Stop) (P : Type 0) (never : (a : A) (b : B) (c : C) → Same a b → Done a c → Stopped b other → ⊥)
    (nowhere : (a : A) (b : B) (d : D) → Same a b → Did b d → Stops a stop → ⊥)
    (alike : (a : A) (b : B) → Same a b → Stops a stop → Stopped b other → P) where
  both_at : (before : List A) (at : A) (behind : List A) (done : List C) (earlier : List B) (place : B) (later : List B) (did : List D)
      → AreDone Same (before ++ at ∷ behind) (earlier ++ place ∷ later) → AreDone Done before done → AreDone Did earlier did → Stops at stop → Stopped place other → P
  both_at [] at behind done [] place later did same first second stops stopped = alike at place same.0 stops stopped
  both_at [] at behind done (y ∷ earlier) place later [] same first second stops stopped = absurd second
  both_at [] at behind done (y ∷ earlier) place later (d ∷ did) same first second stops stopped = absurd (nowhere at y d same.0 second.0 stops)
  both_at (x ∷ before) at behind [] earlier place later did same first second stops stopped = absurd first
  both_at (x ∷ before) at behind (c ∷ done) [] place later did same first second stops stopped = absurd (never x place c same.0 first.0 stopped)
  both_at (x ∷ before) at behind (c ∷ done) (y ∷ earlier) place later [] same first second stops stopped = absurd second
  both_at (x ∷ before) at behind (c ∷ done) (y ∷ earlier) place later (d ∷ did) same first second stops stopped =
      both_at before at behind done earlier place later did same.1 first.1 second.1 stops stopped

  pub one_stop_in : (xs : List A) (ys : List B) → AreDone Same xs ys → IsFirstStop Done Stops xs stop → IsFirstStop Did Stopped ys other → P
  one_stop_in xs ys same s t =
      both_at s.before s.at s.behind s.done t.before t.at t.behind t.done
      (subst (λ (zs : List A). AreDone Same zs (t.before ++ t.at ∷ t.behind)) s.split (subst (λ (zs : List B). AreDone Same xs zs) t.split same)) s.are_done t.are_done s.stops t.stops
