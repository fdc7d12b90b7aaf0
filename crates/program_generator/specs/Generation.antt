-- The program of a seed and a count of methods: each method opens sockets and closes some of them, as a sequence of numbers says.
use Rattle.std.specs.Prelude.{ℕ, ◌+◌, ◌*◌, ◌/◌, ◌%◌, List, [], ◌++◌, zero, suc, codes}
use Rattle.std.specs.Fmt.{decimal}

-- the number behind a number of the sequence, a linear congruential one
abbrev pub following : ℕ → ℕ
following state = (state * 1103515245 + 12345) % 2147483648

-- which of the four statements a number of the sequence is
abbrev pub choice_of : ℕ → ℕ
choice_of state = state / 65536 % 4

abbrev pub statement_text : ℕ → List ℕ
statement_text zero = codes "a.close(); "
statement_text (suc zero) = codes "a = new Sock(); "
statement_text (suc (suc zero)) = codes "if (c) { a = new Sock(); } "
statement_text (suc (suc (suc more))) = codes "b = a; "

-- so many statements behind a number of the sequence
abbrev pub statements_text : ℕ → ℕ → List ℕ
statements_text zero state = []
statements_text (suc count) state = statement_text (choice_of (following state)) ++ statements_text count (following state)

-- what stands in front of a method's number, between it and its statements, and behind these
unfoldable pub opening_text : List ℕ
opening_text = codes "static void m"

unfoldable pub variables_text : List ℕ
variables_text = codes "(boolean c) { Sock a = null; Sock b = null; "

unfoldable pub closing_text : List ℕ
closing_text = codes "}\n"

-- the line of the method of this number, whose three statements come behind a number of the sequence
unfoldable pub method_text : ℕ → ℕ → List ℕ
method_text number state = opening_text ++ (decimal number ++ (variables_text ++ (statements_text 3 state ++ closing_text)))

-- the number of the sequence behind the three statements of a method
abbrev pub behind_method : ℕ → ℕ
behind_method state = following (following (following state))

-- the number of the sequence behind the first so many methods
abbrev pub behind_methods : ℕ → ℕ → ℕ
behind_methods zero seed = seed
behind_methods (suc count) seed = behind_method (behind_methods count seed)

-- the lines of the first so many methods
abbrev pub methods_text : ℕ → ℕ → List ℕ
methods_text zero seed = []
methods_text (suc count) seed = methods_text count seed ++ method_text count (behind_methods count seed)

-- the class of the sockets, and the line that begins the class of the methods
unfoldable pub classes_text : List ℕ
classes_text = codes "@InheritableMustCall(\"close\") class Sock { void close() { } }\nclass Main {\n"

-- the whole file
abbrev pub program_text : ℕ → ℕ → List ℕ
program_text seed methods = classes_text ++ (methods_text methods seed ++ closing_text)
