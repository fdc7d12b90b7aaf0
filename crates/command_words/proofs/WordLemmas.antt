-- What is found in the words.
use Rattle.std.proofs.Common.{◌≡◌, ◌∙◌, ap, sym, refl, inl, inr, true≢false, Bool, true, false, not, ◌&&◌, ◌||◌, if◌then◌else◌, Option, Some, None, option_and_then, option_map, Result, Err, List, [], ◌∷◌, map, length, arith, subst}
use Rattle.std.specs.List.{list_any}
use Rattle.std.proofs.lemmas.Bool.{ne_eqb}
use Rattle.clap.specs.Kinds.{HasKind, IsAmong, Kinds}
use Rattle.clap.specs.Simple.{HasMatchesOf}
use Rattle.clap.specs.Walk.{is_empty}
use Rattle.clap.specs.Words.{App, Row, Text, fault_of, found_of, is_simple, is_simple_and_free, kind_of, matches_of, rows_of}
use Rattle.clap.specs.declared.error.Error.{Error}
use Rattle.clap.specs.declared.error.kind.ErrorKind.{ErrorKind}
use Rattle.clap.specs.declared.parser.matches.ArgMatches.{ArgMatches}
use Rattle.command_words.specs.Modes.{arguments_in, is_void}
use Rattle.command_words.specs.Requests.{Finds, IsCauseOf, Request, request_of_mode, request_of}
use Rattle.command_words.specs.declared.commands.Command.{Command}
use Rattle.command_words.specs.declared.commands.WordsStop.{WordsStop}
use Rattle.command_words.specs.declared.commands.WordsStop.TheVariants as stops

-- a test of each text
pub any_text : {X Y : Type 0} (p : Y → Bool) (f : X → Y) (xs : List X) → list_any p (map f xs) ≡ list_any (λ x. p (f x)) xs
any_text p f [] = refl
any_text p f (x ∷ xs) = ap (λ rest. p (f x) || rest) (any_text p f xs)

-- where nothing is found, nothing is found behind it
pub stops_behind : {A B C D : Type 0} (view : A → B) (found : Option B) (next : B → Option D) (shown : C → D) (s : WordsStop)
    → Finds view found (Err s) → Finds shown (option_and_then next found) (Err s)
stops_behind view found next shown stops.Usage e = ap (option_and_then next) e
stops_behind view found next shown stops.NoMemory e = tt

pub stops_at : {A B C D : Type 0} (view : A → B) (found : Option B) (next : B → D) (shown : C → D) (s : WordsStop)
    → Finds view found (Err s) → Finds shown (option_map next found) (Err s)
stops_at view found next shown stops.Usage e = ap (option_map next) e
stops_at view found next shown stops.NoMemory e = tt

-- what is found behind what was found
pub goes_on : {B C D : Type 0} (found : Option B) (x : B) (next : B → Option D) (shown : C → D) (r : Result C WordsStop)
    → found ≡ Some x → Finds shown (next x) r → Finds shown (option_and_then next found) r
goes_on found x next shown r e h = rw e h

first_half : (a b : Bool) → (a && b) ≡ true → a ≡ true
first_half true b e = refl
first_half false b e = absurd (true≢false (sym e))

is_empty_more : (x : ErrorKind) (xs : Kinds) → is_empty (x ∷ xs) ≡ false
is_empty_more x xs = ne_eqb (length (x ∷ xs)) 0 (λ e. absurd (omega (arith, e)))

chosen_none : (b : Bool) (kinds : Kinds) (rows : List Row) (k : ErrorKind) → IsAmong k kinds → (if not b && is_empty kinds then Some rows else None) ≡ None
chosen_none true kinds rows k among = refl
chosen_none false [] rows k among = absurd among
chosen_none false (x ∷ xs) rows k among = ap (λ (b : Bool). if not false && b then Some rows else None) (is_empty_more x xs)

pub void_none : (app : App) (words : List Text) → list_any is_void words ≡ true → arguments_in app words ≡ None
unfolding arguments_in
void_none app words e = rw e refl

pub parse_failed : {A : Type 0} (view : A → List Row) (app : App) (words : List Text) (error : Error) (s : WordsStop)
    → HasKind (fault_of app words) error → IsCauseOf (kind_of error) s → Finds view (arguments_in app words) (Err s)
unfolding arguments_in
parse_failed view app words error stops.NoMemory fault cause = tt
parse_failed view app words error stops.Usage fault cause =
    elim fault [
      | inl memory ↦ absurd (cause memory)
      | inr among ↦ chosen_none (list_any is_void words) (fault_of app words) (matches_of app words) (kind_of error) among
    ]

pub parse_taken : (app : App) (words : List Text) (matches : ArgMatches)
    → is_simple_and_free app ≡ true → list_any is_void words ≡ false → fault_of app words ≡ [] → HasMatchesOf app words matches
    → arguments_in app words ≡ Some (rows_of (found_of matches))
unfolding arguments_in
parse_taken app words matches simple named no_fault given_rows =
    let is_rows : rows_of (found_of matches) ≡ matches_of app words = (given_rows (first_half (is_simple app) _ simple)).0 in
    rw (named, no_fault) (ap Some (sym is_rows))

-- what a mode's words ask for, behind what was parsed of them
pub asks_on : (mode app : App) → mode ≡ app → (words : List Text) (rows : List Row) (request : List Row → Option Request) (r : Result Command WordsStop)
    → arguments_in mode words ≡ Some rows → Finds request_of (request rows) r → Finds request_of (request_of_mode app request words) r
asks_on mode app same words rows request r taken found =
    goes_on (arguments_in app words) rows request request_of r (ap (λ (a : App). arguments_in a words) (sym same) ∙ taken) found

pub asks_none : (mode app : App) → mode ≡ app → (words : List Text) (request : List Row → Option Request) (s : WordsStop)
    → Finds (λ (m : ArgMatches). rows_of (found_of m)) (arguments_in mode words) (Err s) → Finds request_of (request_of_mode app request words) (Err s)
asks_none mode app same words request s stopped =
    stops_behind (λ (m : ArgMatches). rows_of (found_of m)) (arguments_in app words) request request_of s
    (subst (λ (a : App). Finds (λ (m : ArgMatches). rows_of (found_of m)) (arguments_in a words) (Err s)) same stopped)
