-- The least refusal of a list when its loop is done.
use Rattle.std.proofs.Common.{ap, subst, ℕ, ◌≤◌, Option, List, length, take, map}
use Rattle.std.proofs.lemmas.List.{take_all}
use Rattle.rlc_base.specs.declared.faults.Refusal.{Refusal}
use Rattle.class_order.specs.Cases.{IsAmong, IsLeast}

pub among_all : {X : Type 0} (P : X → Refusal → Type 0) (xs : List X) (i : ℕ) (a : Option Refusal) → length xs ≤ i → IsLeast (IsAmong P (take i xs)) a → IsLeast (IsAmong P xs) a
among_all {X} P xs i a past h = let L : List X → Type 0 = λ ys. IsLeast (IsAmong P ys) a in subst L (take_all i xs past) h

pub among_all_of : {X Y : Type 0} (g : X → Y) (P : Y → Refusal → Type 0) (xs : List X) (i : ℕ) (a : Option Refusal) → length xs ≤ i → IsLeast (IsAmong P (map g (take i xs))) a → IsLeast (IsAmong P (map g xs)) a
among_all_of {X} {Y} g P xs i a past h = let L : List Y → Type 0 = λ ys. IsLeast (IsAmong P ys) a in subst L (ap (map g) (take_all i xs past)) h
