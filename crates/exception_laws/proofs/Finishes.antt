-- A `finally` block whose end is reached can complete normally.
use Rattle.std.proofs.Common.{◌≡◌, ◌++◌, ◌∷◌, [], List, true, false}
use Rattle.std.specs.List.{list_all}
use Rattle.program_model.specs.declared.tree.Body.{Body}
use Rattle.java_control.specs.Remaining.{Todo, Do, Ev, Act, Cond, NullFork, BoolFork, LoopEnd, For, Leave, Catch, Fin, Close, Finish, Supp, Out, Ended}
use Rattle.accepted_programs.specs.Completions.{completion}
use Rattle.exception_laws.proofs.Handlers.{fits}
use Rattle.accepted_programs.proofs.Lists.{and_one, and_two}
use Rattle.exception_laws.proofs.Outcomes.{Arrival, abruptly, after, after_all, breaking, continuing, normally}

-- the end is reached normally, and no other way
abbrev pub AtEnd : Arrival → Type 0
AtEnd normally = Unit {0}
AtEnd breaking = ⊥
AtEnd continuing = ⊥
AtEnd abruptly = ⊥

-- where the item is the end of a `finally` block that is reached, the block can complete normally
abbrev pub IfFinish : Body → Todo → Type 0 → Type 0
IfFinish b (Finish c d f) X = X → (completion b f).completes ≡ true
IfFinish b (Do s d) X = Unit {0}
IfFinish b (Ev e d) X = Unit {0}
IfFinish b (Act a pos) X = Unit {0}
IfFinish b (Cond c d x y) X = Unit {0}
IfFinish b (NullFork pos d x y) X = Unit {0}
IfFinish b (BoolFork pos d x y) X = Unit {0}
IfFinish b (LoopEnd w d) X = Unit {0}
IfFinish b (For w d) X = Unit {0}
IfFinish b (Leave x pos) X = Unit {0}
IfFinish b (Catch s d) X = Unit {0}
IfFinish b (Fin f d) X = Unit {0}
IfFinish b (Close r d) X = Unit {0}
IfFinish b (Supp c d s) X = Unit {0}
IfFinish b (Out c) X = Unit {0}
IfFinish b Ended X = Unit {0}

-- so it is for each item, where `F` says from what behind them the end is reached of what stands before these items
abbrev pub Finishes : Body → ((Arrival → Type 0) → Type 0) → List Todo → Type 0
Finishes b F [] = Unit {0}
Finishes b F (x ∷ k) = IfFinish b x (F AtEnd) × Finishes b (λ q. F (after b x q)) k

if_weaker : (b : Body) (x : Todo) (X Y : Type 0) → (Y → X) → IfFinish b x X → IfFinish b x Y
if_weaker b (Finish c d f) X Y less h = λ y. h (less y)
if_weaker b (Do s d) X Y less h = tt
if_weaker b (Ev e d) X Y less h = tt
if_weaker b (Act a pos) X Y less h = tt
if_weaker b (Cond c d x y) X Y less h = tt
if_weaker b (NullFork pos d x y) X Y less h = tt
if_weaker b (BoolFork pos d x y) X Y less h = tt
if_weaker b (LoopEnd w d) X Y less h = tt
if_weaker b (For w d) X Y less h = tt
if_weaker b (Leave x pos) X Y less h = tt
if_weaker b (Catch s d) X Y less h = tt
if_weaker b (Fin f d) X Y less h = tt
if_weaker b (Close r d) X Y less h = tt
if_weaker b (Supp c d s) X Y less h = tt
if_weaker b (Out c) X Y less h = tt
if_weaker b Ended X Y less h = tt

pub finishes_weaker : (b : Body) (F G : (Arrival → Type 0) → Type 0) → ((q : Arrival → Type 0) → G q → F q) → (k : List Todo) → Finishes b F k → Finishes b G k
finishes_weaker b F G less [] h = tt
finishes_weaker b F G less (x ∷ k) h = (if_weaker b x (F AtEnd) (G AtEnd) (less AtEnd) h.0, finishes_weaker b (λ q. F (after b x q)) (λ q. G (after b x q)) (λ q. less (after b x q)) k h.1)

none_begun : (b : Body) (x : Todo) (X : Type 0) → fits false x ≡ true → IfFinish b x X
none_begun b (Finish c d f) X h = λ y. absurd (let no : false ≡ true = h in cc)
none_begun b (Do s d) X h = tt
none_begun b (Ev e d) X h = tt
none_begun b (Act a pos) X h = tt
none_begun b (Cond c d x y) X h = tt
none_begun b (NullFork pos d x y) X h = tt
none_begun b (BoolFork pos d x y) X h = tt
none_begun b (LoopEnd w d) X h = tt
none_begun b (For w d) X h = tt
none_begun b (Leave x pos) X h = tt
none_begun b (Catch s d) X h = tt
none_begun b (Fin f d) X h = tt
none_begun b (Close r d) X h = tt
none_begun b (Supp c d s) X h = tt
none_begun b (Out c) X h = tt
none_begun b Ended X h = tt

-- items of which none is a `finally` that has begun come first
pub finishes_front : (b : Body) (F : (Arrival → Type 0) → Type 0) (xs k : List Todo) → list_all (fits false) xs ≡ true → Finishes b (λ q. F (after_all b xs q)) k → Finishes b F (xs ++ k)
finishes_front b F [] k fit h = h
finishes_front b F (x ∷ xs) k fit h = (none_begun b x (F AtEnd) (and_one (fits false x) (list_all (fits false) xs) fit), finishes_front b (λ q. F (after b x q)) xs k (and_two (fits false x) (list_all (fits false) xs) fit) h)

-- they take the place of an item that comes to its end at least as they do
pub finishes_instead : (b : Body) (x : Todo) (xs k : List Todo) → list_all (fits false) xs ≡ true → ((q : Arrival → Type 0) → after_all b xs q normally → after b x q normally) → Finishes b (λ q. q normally) (x ∷ k) → Finishes b (λ q. q normally) (xs ++ k)
finishes_instead b x xs k fit less h = finishes_front b (λ q. q normally) xs k fit (finishes_weaker b (λ q. after b x q normally) (λ q. after_all b xs q normally) less k h.1)

-- the first item is done
pub finishes_done : (b : Body) (x : Todo) (k : List Todo) → ((q : Arrival → Type 0) → q normally → after b x q normally) → Finishes b (λ q. q normally) (x ∷ k) → Finishes b (λ q. q normally) k
finishes_done b x k less h = finishes_weaker b (λ q. after b x q normally) (λ q. q normally) less k h.1
