-- What contracts see of the machine.
use Rattle.ledger_moves.specs.Configuration.{Config}
use Rattle.ledger_machine.specs.declared.machine.Machine.{Machine}
use Rattle.machine_state.specs.RunStates.{config_of}

-- the configuration of the machine
abbrev pub configuration : Machine → Config
configuration m = config_of m.state
