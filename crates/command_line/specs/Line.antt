-- What words ask for.
use Rattle.std.specs.Prelude.{ℕ, List, [], ◌∷◌, codes, true, false, Bool, not, ◌||◌, if◌then◌else◌, Option, Some, None, is_some}
use Rattle.std.specs.Option.{option_map}
use Rattle.std.specs.Str.{bytes_eq}
use Rattle.std.specs.Str.Parse.{digits_value, without_leading_plus}
use Rattle.clap.specs.Words.{Row, Text, first_of, Kinds}
use Rattle.clap.specs.ValueTests.{accepts}
use Rattle.clap.specs.declared.builder.value_parser.ValueParser.TheVariants.{Unsigned}
use Rattle.command_words.specs.Names.{PresolveNames, CheckNames, PostsolveNames, MigrateNames, VerifyNames, SolveNames, Request, Presolve, Check, Postsolve, Migrate, Verify, Solve, Gen}
use Rattle.command_words.specs.declared.words.GenNumbers.{GenNumbers}
use Rattle.command_words.specs.declared.words.InputFormat.{InputFormat}
use Rattle.command_words.specs.declared.words.InputFormat.TheVariants.{Free, Fixed, Opb}
use Rattle.command_words.specs.declared.words.PresolveOptions.{PresolveOptions}
use Rattle.command_words.specs.declared.words.TheConstants.{MOST_LINES, MOST_PIVOTS, MOST_RECORDS, MOST_SEED, MOST_THREADS, USUAL_PIVOTS}
use Rattle.command_app.specs.Line.{faults, found_in}

-- an option is given where clap's value is `true`
abbrev pub is_on : Option Text → Bool
is_on None = false
is_on (Some text) = bytes_eq text (codes "true")

-- the number that a text says, where clap's parser of numbers takes it as one from the least to the most
unfoldable pub number_in : ℕ → ℕ → Text → Option ℕ
number_in least most text = if accepts false (Unsigned least most) text then Some (digits_value 10 (without_leading_plus text)) else None

-- the number from 1 to the most that is given, or else another
abbrev pub number_of : ℕ → ℕ → Option Text → Option ℕ
number_of most other None = Some other
number_of most other (Some text) = number_in 1 most text

-- the number from the least to the most that is given
abbrev pub needed_of : ℕ → ℕ → Option Text → Option ℕ
needed_of least most None = None
needed_of least most (Some text) = number_in least most text

-- the limit that is given, or else the most
abbrev pub limit_of : List Row → Option ℕ
limit_of rows = number_of MOST_RECORDS MOST_RECORDS (first_of (codes "limit") rows)

-- the number of threads that is given, or else one
abbrev pub threads_of : List Row → Option ℕ
threads_of rows = number_of MOST_THREADS 1 (first_of (codes "threads") rows)

-- the format of which the option is given, or the free one; none, where both options are given
abbrev pub format_by : Bool → Bool → Option InputFormat
format_by false false = Some Free
format_by true false = Some Fixed
format_by false true = Some Opb
format_by true true = None

-- the format of IN
abbrev pub format_of : List Row → Option InputFormat
format_of rows = format_by (is_on (first_of (codes "fixed") rows)) (is_on (first_of (codes "opb") rows))

abbrev pub options_with : List Row → Option InputFormat → Option ℕ → Option ℕ → Option PresolveOptions
options_with rows (Some format) (Some limit) (Some threads) = Some (record {
  dual = is_on (first_of (codes "dual") rows);
  fractions = is_on (first_of (codes "fractions") rows);
  format = format;
  limit = limit;
  threads = threads;
  ordered = is_on (first_of (codes "ordered") rows) || is_some (first_of (codes "ray") rows);
})
options_with rows format limit threads = None

abbrev pub options_of : List Row → Option PresolveOptions
options_of rows = options_with rows (format_of rows) (limit_of rows) (threads_of rows)

-- RAY has no place: duals aren't asked for, or it is OUT or REC
abbrev pub has_no_place : PresolveOptions → Text → Text → Option Text → Bool
has_no_place options output records None = false
has_no_place options output records (Some ray) = not options.dual || (bytes_eq ray output || bytes_eq ray records)

-- three names, of which OUT and REC differ, RAY if it is asked for, and the options
abbrev pub presolve_names : Option Text → Option Text → Option Text → Option Text → Option PresolveOptions → Option PresolveNames
presolve_names (Some input) (Some output) (Some records) ray (Some options) =
    if bytes_eq output records || has_no_place options output records ray then None
    else Some (record { input = input; output = output; records = records; ray = ray; options = options })
presolve_names input output records ray options = None

abbrev pub presolve_of : List Row → Option PresolveNames
presolve_of rows = presolve_names (first_of (codes "in") rows) (first_of (codes "out") rows) (first_of (codes "rec") rows) (first_of (codes "ray") rows) (options_of rows)

-- two names, the format of IN, and an option
abbrev pub check_names : Option Text → Option Text → Option InputFormat → Bool → Option CheckNames
check_names (Some input) (Some solution) (Some format) wide = Some (record { input = input; solution = solution; format = format; wide = wide })
check_names input solution format wide = None

abbrev pub check_of : List Row → Option CheckNames
check_of rows = check_names (first_of (codes "in") rows) (first_of (codes "sol") rows) (format_of rows) (is_on (first_of (codes "wide") rows))

-- four names and an option
abbrev pub postsolve_names : Option Text → Option Text → Option Text → Option Text → Bool → Option PostsolveNames
postsolve_names (Some program) (Some records) (Some solution) (Some result) wide =
    Some (record { program = program; records = records; solution = solution; result = result; wide = wide })
postsolve_names program records solution result wide = None

abbrev pub postsolve_of : List Row → Option PostsolveNames
postsolve_of rows = postsolve_names (first_of (codes "out") rows) (first_of (codes "rec") rows) (first_of (codes "sol") rows) (first_of (codes "result") rows) (is_on (first_of (codes "wide") rows))

-- two names, which differ
abbrev pub migrate_names : Option Text → Option Text → Option MigrateNames
migrate_names (Some records) (Some written) = if bytes_eq records written then None else Some (record { records = records; written = written })
migrate_names records written = None

abbrev pub migrate_of : List Row → Option MigrateNames
migrate_of rows = migrate_names (first_of (codes "rec") rows) (first_of (codes "new") rows)

-- three names, and the format of IN
abbrev pub verify_names : Option Text → Option Text → Option Text → Option InputFormat → Option VerifyNames
verify_names (Some input) (Some output) (Some records) (Some format) = Some (record { input = input; output = output; records = records; format = format })
verify_names input output records format = None

abbrev pub verify_of : List Row → Option VerifyNames
verify_of rows = verify_names (first_of (codes "in") rows) (first_of (codes "out") rows) (first_of (codes "rec") rows) (format_of rows)

-- the number of pivots that is given, or else the usual one
abbrev pub pivots_of : List Row → Option ℕ
pivots_of rows = number_of MOST_PIVOTS USUAL_PIVOTS (first_of (codes "pivots") rows)

-- two names, which differ, a number and an option
abbrev pub solve_names : Option Text → Option Text → Option ℕ → Bool → Option SolveNames
solve_names (Some input) (Some solution) (Some pivots) fixed =
    if bytes_eq input solution then None else Some (record { input = input; solution = solution; pivots = pivots; fixed = fixed })
solve_names input solution pivots fixed = None

abbrev pub solve_of : List Row → Option SolveNames
solve_of rows = solve_names (first_of (codes "in") rows) (first_of (codes "sol") rows) (pivots_of rows) (is_on (first_of (codes "fixed") rows))

-- three numbers
abbrev pub gen_numbers : Option ℕ → Option ℕ → Option ℕ → Option GenNumbers
gen_numbers (Some seed) (Some rows) (Some columns) = Some (record { seed = seed; rows = rows; columns = columns })
gen_numbers seed rows columns = None

abbrev pub gen_of : List Row → Option GenNumbers
gen_of rows = gen_numbers (needed_of 0 MOST_SEED (first_of (codes "seed") rows)) (needed_of 1 MOST_LINES (first_of (codes "rows") rows)) (needed_of 1 MOST_LINES (first_of (codes "cols") rows))

-- by the name of the subcommand
abbrev pub request_of : Text → List Row → Option Request
request_of name rows =
    if bytes_eq name (codes "presolve") then option_map Presolve (presolve_of rows)
    else (if bytes_eq name (codes "check") then option_map Check (check_of rows)
    else (if bytes_eq name (codes "postsolve") then option_map Postsolve (postsolve_of rows)
    else (if bytes_eq name (codes "migrate") then option_map Migrate (migrate_of rows)
    else (if bytes_eq name (codes "verify") then option_map Verify (verify_of rows)
    else (if bytes_eq name (codes "solve") then option_map Solve (solve_of rows)
    else (if bytes_eq name (codes "gen") then option_map Gen (gen_of rows) else None))))))

abbrev pub selected_in : Option (Text × List Row) → Option Request
selected_in None = None
selected_in (Some (name, rows)) = request_of name rows

-- what clap finds in the words
abbrev pub selected : List Text → Option Request
selected words = selected_in (found_in words)

abbrev pub if_none : Kinds → Option Request → Option Request
if_none [] request = request
if_none (kind ∷ kinds) request = None

-- what the words ask for: what clap finds in them, where it names no fault
abbrev pub asked : List Text → Option Request
asked words = if_none (faults words) (selected words)
