-- What is left to run in `main`, in the order in which it is run, and the lines of the ledger.
use Rattle.control_actions.specs.declared.action.Action.TheVariants as actions
use Rattle.control_actions.specs.declared.action.Scope.TheVariants as scopes
use Rattle.control_actions.specs.declared.action.TargetForm.TheVariants as forms
use Rattle.control_actions.specs.declared.place.Place.TheVariants as places
use Rattle.java_control.specs.Remaining.{Todo, Do, Act}
use Rattle.ledger_state.specs.declared.entry.Entry.{Entry}
use Rattle.ledger_state.specs.declared.entry.Entry.TheVariants as lines
use Rattle.ledger_state.specs.declared.entry.LeakWord.TheVariants as words
use Rattle.safety_examples.specs.CarefulPrograms.{close_name, in_source, socket_close, socket_constructor, statement_number}
use Rattle.safety_examples.specs.ForgetfulPrograms.{renew}

abbrev pub makes_socket : Todo
makes_socket = Act (actions.New socket_constructor 0 0) (in_source 3 20)

abbrev pub keeps_socket : Todo
keeps_socket = Act (actions.Move (places.Var 1) (places.Temp 0)) (in_source 3 16)

-- `s.close();`
abbrev pub second : Todo
second = Do (statement_number 1) 0

abbrev pub reads_receiver : Todo
reads_receiver = Act (actions.Copy (places.Temp 0) (places.Var 1)) (in_source 4 9)

abbrev pub closes_socket : Todo
closes_socket = Act (actions.Call socket_close 0 1 forms.Other) (in_source 4 11)

abbrev pub drops_receiver : Todo
drops_receiver = Act (actions.Drop (scopes.Temp 0)) (in_source 4 9)

-- `renew(s);`
abbrev pub third : Todo
third = Do (statement_number 2) 0

abbrev pub reads_argument : Todo
reads_argument = Act (actions.Copy (places.Temp 0) (places.Var 1)) (in_source 5 15)

abbrev pub renews_socket : Todo
renews_socket = Act (actions.Call renew 0 1 forms.Static) (in_source 5 9)

abbrev pub drops_argument : Todo
drops_argument = Act (actions.Drop (scopes.Temp 0)) (in_source 5 9)

-- `close` was called on the socket
abbrev pub closed : Entry
closed = lines.Called 1 close_name (in_source 4 11)

-- its obligation was created anew
abbrev pub renewed : Entry
renewed = lines.Reset 1 (in_source 5 9)

-- `main` ended, and `close` was not called on it since
abbrev pub leaked : Entry
leaked = lines.Leak 1 words.Exit (in_source 6 5)
