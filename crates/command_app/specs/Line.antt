-- The command line, as clap's own definitions speak of it.
use Rattle.std.specs.Prelude.{ℕ, List, codes, true, Bool, Option, Some, String, map, string_bytes}
use Rattle.std.specs.declared.alloc.Global.{Global}
use Rattle.clap.specs.Words.{App, Row, Rule, Text, new_app, new_rule, subcommand_of, takes, fault_of, Kinds, with_rule, with_subcommand}
use Rattle.clap.specs.declared.builder.value_parser.ValueParser.TheVariants.{Unsigned}
use Rattle.clap.specs.declared.builder.ArgAction.TheVariants.{Set, SetTrue}
use Rattle.command_words.specs.declared.words.TheConstants.{MOST_LINES, MOST_PIVOTS, MOST_RECORDS, MOST_SEED, MOST_THREADS}

-- a required word
abbrev pub word_rule : Text → Rule
word_rule id = record (new_rule id) { action = Some Set; required = true }

-- a name, after `--id`
abbrev pub name_rule : Text → Rule
name_rule id = record (new_rule id) { long = Some id; action = Some Set }

-- a required number, from the least to the most
abbrev pub needed_rule : Text → ℕ → ℕ → Rule
needed_rule id least most = record (new_rule id) { action = Some Set; parser = Some (Unsigned least most); required = true }

-- a number from 1 up to this, after `--id`
abbrev pub number_rule : Text → ℕ → Rule
number_rule id most = record (new_rule id) { long = Some id; parser = Some (Unsigned 1 most) }

-- an option `--id`
abbrev pub flag_rule : Text → Rule
flag_rule id = record (new_rule id) { long = Some id; action = Some SetTrue }

-- presolve IN OUT REC
unfoldable pub presolve_words : App
presolve_words = with_rule (with_rule (with_rule (new_app (codes "presolve")) (word_rule (codes "in"))) (word_rule (codes "out"))) (word_rule (codes "rec"))

-- presolve IN OUT REC [--threads T]
unfoldable pub threaded_app : App
threaded_app = with_rule presolve_words (number_rule (codes "threads") MOST_THREADS)

-- presolve IN OUT REC [--threads T] [--limit N]
unfoldable pub limited_app : App
limited_app = with_rule threaded_app (number_rule (codes "limit") MOST_RECORDS)

-- presolve IN OUT REC [--threads T] [--limit N] [--dual]
unfoldable pub dual_app : App
dual_app = with_rule limited_app (flag_rule (codes "dual"))

-- presolve IN OUT REC [--threads T] [--limit N] [--dual] [--ordered]
unfoldable pub ordered_app : App
ordered_app = with_rule dual_app (flag_rule (codes "ordered"))

-- presolve IN OUT REC [--threads T] [--limit N] [--dual] [--ordered] [--ray RAY]
unfoldable pub ray_app : App
ray_app = with_rule ordered_app (name_rule (codes "ray"))

-- presolve IN OUT REC [--threads T] [--limit N] [--dual] [--ordered] [--ray RAY] [--fractions] [--fixed]
unfoldable pub formats_app : App
formats_app = with_rule (with_rule ray_app (flag_rule (codes "fractions"))) (flag_rule (codes "fixed"))

-- presolve IN OUT REC [--threads T] [--limit N] [--dual] [--ordered] [--ray RAY] [--fractions] [--fixed] [--opb]
unfoldable pub presolve_app : App
presolve_app = with_rule formats_app (flag_rule (codes "opb"))

-- check IN SOL [--fixed]
unfoldable pub check_words : App
check_words = with_rule (with_rule (with_rule (new_app (codes "check")) (word_rule (codes "in"))) (word_rule (codes "sol"))) (flag_rule (codes "fixed"))

-- check IN SOL [--fixed] [--opb] [--wide]
unfoldable pub check_app : App
check_app = with_rule (with_rule check_words (flag_rule (codes "opb"))) (flag_rule (codes "wide"))

-- postsolve OUT REC SOL
unfoldable pub postsolve_words : App
postsolve_words = with_rule (with_rule (with_rule (new_app (codes "postsolve")) (word_rule (codes "out"))) (word_rule (codes "rec"))) (word_rule (codes "sol"))

-- postsolve OUT REC SOL RESULT [--wide]
unfoldable pub postsolve_app : App
postsolve_app = with_rule (with_rule postsolve_words (word_rule (codes "result"))) (flag_rule (codes "wide"))

-- migrate REC NEW
unfoldable pub migrate_app : App
migrate_app = with_rule (with_rule (new_app (codes "migrate")) (word_rule (codes "rec"))) (word_rule (codes "new"))

-- gen SEED ROWS
unfoldable pub gen_words : App
gen_words = with_rule (with_rule (new_app (codes "gen")) (needed_rule (codes "seed") 0 MOST_SEED)) (needed_rule (codes "rows") 1 MOST_LINES)

-- gen SEED ROWS COLS
unfoldable pub gen_app : App
gen_app = with_rule gen_words (needed_rule (codes "cols") 1 MOST_LINES)

-- verify IN OUT REC
unfoldable pub verify_words : App
verify_words = with_rule (with_rule (with_rule (new_app (codes "verify")) (word_rule (codes "in"))) (word_rule (codes "out"))) (word_rule (codes "rec"))

-- verify IN OUT REC [--fixed] [--opb]
unfoldable pub verify_app : App
verify_app = with_rule (with_rule verify_words (flag_rule (codes "fixed"))) (flag_rule (codes "opb"))

-- solve IN SOL [--pivots N]
unfoldable pub solve_words : App
solve_words = with_rule (with_rule (with_rule (new_app (codes "solve")) (word_rule (codes "in"))) (word_rule (codes "sol"))) (number_rule (codes "pivots") MOST_PIVOTS)

-- solve IN SOL [--pivots N] [--fixed]
unfoldable pub solve_app : App
solve_app = with_rule solve_words (flag_rule (codes "fixed"))

-- presolve and check
unfoldable pub first_app : App
first_app = with_subcommand (with_subcommand (new_app (codes "papilo")) presolve_app.top) check_app.top

-- postsolve and migrate too
unfoldable pub second_app : App
second_app = with_subcommand (with_subcommand first_app postsolve_app.top) migrate_app.top

-- verify and solve too
unfoldable pub third_app : App
third_app = with_subcommand (with_subcommand second_app verify_app.top) solve_app.top

-- the whole: one subcommand for each command
unfoldable pub line_app : App
line_app = with_subcommand third_app gen_app.top

abbrev pub texts : List (String Global) → List Text
texts words = map (λ word. string_bytes word) words

-- clap takes the words
unfoldable pub is_taken : List Text → Bool
is_taken words = takes line_app words

-- the kinds of error that clap gives at the words, but for want of memory
unfoldable pub faults : List Text → Kinds
faults words = fault_of line_app words

-- the subcommand that clap finds, with the values of its arguments
unfoldable pub found_in : List Text → Option (Text × List Row)
found_in words = subcommand_of line_app words
