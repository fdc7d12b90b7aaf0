-- What a call of the library makes.
use Rattle.std.specs.Prelude.{◌≡◌, ℕ, ◌<◌, true, Option, None, Some}
use Rattle.std.specs.FinSet as set
use Rattle.rlc_base.specs.declared.name_id.NameId.{NameId}
use Rattle.program_model.specs.declared.program.Method.{Method}
use Rattle.program_model.specs.declared.program.Program.{Program}
use Rattle.control_actions.specs.declared.action.Action.{Action}
use Rattle.stub_conduct.specs.declared.choice.Conduct.{Conduct}
use Rattle.stub_conduct.specs.declared.choice.Conduct.TheVariants as conducts
use Rattle.ledger_state.specs.declared.entry.Owner.TheVariants as owners
use Rattle.ledger_state.specs.declared.locals.Locals.{Locals}
use Rattle.ledger_state.specs.declared.object.Object.{Object}
use Rattle.ledger_obligations.specs.Obligations.{first_set}
use Rattle.ledger_steps.specs.LedgerCallsCalls.{interest_in, position_object, position_of}
use Rattle.ledger_steps.specs.Conducts.{first_in, result_owner}

-- the name of interest of the method, where it has one, is one of the table, which has 128 names at most
abbrev pub HasSmallInterest : Option Method → Type 0
HasSmallInterest named = (n : NameId) → interest_in named ≡ Some n → n.0 < 128

-- The call makes this object: an exception has its class and is the library's, and a result has the class, the set and the owner that the signature gives. `i` is
-- the position of the caller.
abbrev pub IsMadeAs : Program → Action → Option Method → ℕ → Conduct → Object → Type 0
IsMadeAs p a m i (conducts.Throws e) y = (y.owner ≡ owners.Library) × (y.link ≡ None) × (y.class ≡ e)
IsMadeAs p a m i (conducts.Fresh e) y = (y.class ≡ e) × (y.must ≡ first_set p e (first_in m)) × (y.owner ≡ result_owner a m i) × (y.link ≡ None)
IsMadeAs p a m i conducts.Null y = ⊥
IsMadeAs p a m i (conducts.Existing k) y = ⊥
IsMadeAs p a m i conducts.Argument y = ⊥
IsMadeAs p a m i (conducts.Value z) y = ⊥
IsMadeAs p a m i conducts.Nothing y = ⊥

-- It is an alias of this object: it is linked to it, and nobody owns it, since that object has the obligation. An alias of null is the library's, and
-- nothing must be called on it.
abbrev pub IsAliasOf : Option ℕ → Object → Type 0
IsAliasOf None y = (y.must ≡ set.empty) × (y.owner ≡ owners.Library) × (y.link ≡ None)
IsAliasOf (Some w) y = (y.owner ≡ owners.Unowned) × (y.link ≡ Some (record { to = w; by_library = true }))

-- The call makes this object, where the argument at position `k` is the aliased one: an exception has its class and is the library's, and a result is
-- an alias of the argument.
abbrev pub IsAliasMadeAs : Locals → Action → ℕ → Conduct → Object → Type 0
IsAliasMadeAs l a k (conducts.Throws e) y = (y.owner ≡ owners.Library) × (y.link ≡ None) × (y.class ≡ e)
IsAliasMadeAs l a k (conducts.Fresh e) y = (y.class ≡ e) × (y.finished ≡ true) × IsAliasOf (position_object (position_of None l a) k) y
IsAliasMadeAs l a k conducts.Null y = ⊥
IsAliasMadeAs l a k (conducts.Existing j) y = ⊥
IsAliasMadeAs l a k conducts.Argument y = ⊥
IsAliasMadeAs l a k (conducts.Value z) y = ⊥
IsAliasMadeAs l a k conducts.Nothing y = ⊥
