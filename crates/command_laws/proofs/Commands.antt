-- Each command of the line asks for something where its required names are given.
use Rattle.std.proofs.Common.{◌≡◌, ◌∙◌, ◌≢◌, ◌||◌, ◌⊎◌, Bool, true, false, cond, not, refl, sym, ap, ℕ, List, [], Option, Some, None, inl, inr, true≢false, bytes_eq, codes}
use Rattle.std.specs.List.{list_all}
use Rattle.std.specs.Str.Parse.{digits_value, without_leading_plus}
use Rattle.std.proofs.lemmas.Option.{none-some, same_Some}
use Rattle.std.proofs.lemmas.Slice.Eq.{bytes_eq-Decides}
use Rattle.clap.proofs.WalkLemmas.{both}
use Rattle.clap.specs.ValueTests.{accepts}
use Rattle.clap.specs.Simple.{Shape, built, built_leaf, help_shape, inherited, label_of}
use Rattle.clap.specs.Takes.{is_given, value_passes}
use Rattle.clap.specs.Walk.{Row, Rule, Text, answers_to, arg_by_id, first_of}
use Rattle.clap.specs.declared.builder.value_parser.ValueParser.TheVariants.{Unsigned}
use Rattle.command_app.specs.Line.{check_app, check_words, dual_app, first_app, formats_app, gen_app, gen_words, limited_app, line_app, migrate_app, ordered_app, postsolve_app, postsolve_words, presolve_app, presolve_words, ray_app, second_app, solve_app, solve_words, third_app, threaded_app, verify_app, verify_words}
use Rattle.command_line.specs.Line.{format_by, format_of, is_on, needed_of, number_in, number_of, request_of}
use Rattle.command_words.specs.declared.words.InputFormat.{InputFormat}
use Rattle.command_words.specs.declared.words.InputFormat.TheVariants.{Free, Fixed, Opb}
use Rattle.command_words.specs.declared.words.TheConstants.{MOST_LINES, MOST_PIVOTS, MOST_RECORDS, MOST_SEED, MOST_THREADS, USUAL_PIVOTS}
use Rattle.command_laws.proofs.Rows.{Each, HasFirst, either, first_passes, given_first}
use Rattle.command_laws.proofs.Uses.{IsKnown}
use Rattle.command_laws.specs.Asking.{HasNoPlaceForRay, HasOneName, HasTwoFormats}

-- the command of this name asks for something, but where two names are one that have to differ, or RAY has no place, or two formats are given
abbrev pub Asks : Text → List Row → Type 0
Asks name rows = (request_of name rows ≢ None) ⊎ HasOneName name rows ⊎ HasNoPlaceForRay name rows ⊎ HasTwoFormats name rows

-- the arguments of a command that is not the one for help are known, and their names, where they are given, ask for something
abbrev pub AsksWhereGiven : Shape → Type 0
AsksWhereGiven s = (word : Text) → answers_to word (label_of s) ≡ true → bytes_eq word (codes "help") ≡ false
    → Each (IsKnown s.rules) s.rules
    × ((rows : List Row) → Each (HasFirst s.rules) rows → list_all (λ a. not a.required || is_given a.id rows) s.rules ≡ true → Asks s.name rows)

-- the commands of the line, as clap builds them
presolve_command : Shape
presolve_command = built_leaf (inherited line_app.top presolve_app.top)

check_command : Shape
check_command = built_leaf (inherited line_app.top check_app.top)

postsolve_command : Shape
postsolve_command = built_leaf (inherited line_app.top postsolve_app.top)

migrate_command : Shape
migrate_command = built_leaf (inherited line_app.top migrate_app.top)

verify_command : Shape
verify_command = built_leaf (inherited line_app.top verify_app.top)

solve_command : Shape
solve_command = built_leaf (inherited line_app.top solve_app.top)

gen_command : Shape
gen_command = built_leaf (inherited line_app.top gen_app.top)

number_is : (least most : ℕ) (v : Text) → accepts false (Unsigned least most) v ≡ true → number_in least most v ≡ Some (digits_value 10 (without_leading_plus v))
unfolding number_in
number_is least most v e = ap (λ b. cond b (Some (digits_value 10 (without_leading_plus v))) None) e

-- one format is given, or both options
one_format : (rows : List Row) → ((format : InputFormat) × (format_of rows ≡ Some format)) ⊎ ((is_on (first_of (codes "fixed") rows) ≡ true) × (is_on (first_of (codes "opb") rows) ≡ true))
one_format rows = by (is_on (first_of (codes "fixed") rows)) (is_on (first_of (codes "opb") rows))
  where
    by : (fixed opb : Bool) → ((format : InputFormat) × (format_by fixed opb ≡ Some format)) ⊎ ((fixed ≡ true) × (opb ≡ true))
    by false false = inl (Free, refl)
    by true false = inl (Fixed, refl)
    by false true = inl (Opb, refl)
    by true true = inr (refl, refl)

-- a command that reads IN asks for something where it does so in each format
by_format : (name : Text) (rows : List Row) → ((name ≡ codes "presolve") ⊎ (name ≡ codes "check") ⊎ (name ≡ codes "verify"))
    → ((format : InputFormat) → format_of rows ≡ Some format → Asks name rows) → Asks name rows
by_format name rows reads asks = elim (one_format rows) [
  | inl one ↦ asks one.0 one.1
  | inr two ↦ inr (inr (inr (reads, two.0, two.1)))
]

module _ (rules : List Rule) (rows : List Row) (each : Each (HasFirst rules) rows) where
  number_given : (id : Text) (most other : ℕ)
      → ((a : Rule) (v : Text) → arg_by_id rules id ≡ Some a → value_passes a v ≡ true → accepts false (Unsigned 1 most) v ≡ true)
      → (n : ℕ) × (number_of most other (first_of id rows) ≡ Some n)
  number_given id most other takes = go (first_of id rows) refl
    where
      go : (o : Option Text) → first_of id rows ≡ o → (n : ℕ) × (number_of most other o ≡ Some n)
      go None is = (other, refl)
      go (Some v) is =
          let got = first_passes rules id rows v each is in
          (digits_value 10 (without_leading_plus v), number_is 1 most v (takes got.0 v got.1 got.2))

  needed_given : (id : Text) (least most : ℕ)
      → ((a : Rule) (v : Text) → arg_by_id rules id ≡ Some a → value_passes a v ≡ true → accepts false (Unsigned least most) v ≡ true)
      → is_given id rows ≡ true → (n : ℕ) × (needed_of least most (first_of id rows) ≡ Some n)
  needed_given id least most takes has =
      let given = given_first rules id rows each has in
      let got = first_passes rules id rows given.0 each given.1 in
      (digits_value 10 (without_leading_plus given.0), ap (needed_of least most) given.1 ∙ number_is least most given.0 (takes got.0 given.0 got.1 got.2))

  presolve_given : (n t : ℕ) (format : InputFormat) → format_of rows ≡ Some format → number_of MOST_RECORDS MOST_RECORDS (first_of (codes "limit") rows) ≡ Some n
      → number_of MOST_THREADS 1 (first_of (codes "threads") rows) ≡ Some t → is_given (codes "in") rows ≡ true → is_given (codes "out") rows ≡ true
      → is_given (codes "rec") rows ≡ true → Asks (codes "presolve") rows
  presolve_given n t format formatted limit threads has_input has_output has_records =
      let input = given_first rules (codes "in") rows each has_input in
      let output = given_first rules (codes "out") rows each has_output in
      let records = given_first rules (codes "rec") rows each has_records in
      by input output records (first_of (codes "ray") rows) (bytes_eq output.0 records.0) refl refl
    where
      placed : (input : (v : Text) × (first_of (codes "in") rows ≡ Some v)) (output : (v : Text) × (first_of (codes "out") rows ≡ Some v))
          (records : (v : Text) × (first_of (codes "rec") rows ≡ Some v)) (ray : Text) (d b c : Bool) → first_of (codes "ray") rows ≡ Some ray → bytes_eq output.0 records.0 ≡ false
          → is_on (first_of (codes "dual") rows) ≡ d → bytes_eq ray output.0 ≡ b → bytes_eq ray records.0 ≡ c → Asks (codes "presolve") rows
      placed input output records ray false b c is differ dual out rec = inr (inr (inl (refl, (ray, is, inl dual))))
      placed input output records ray true true c is differ dual out rec = inr (inr (inl (refl, (ray, is, inr (inl (output.1 ∙ ap Some (sym ((bytes_eq-Decides ray output.0).0 out))))))))
      placed input output records ray true false true is differ dual out rec = inr (inr (inl (refl, (ray, is, inr (inr (records.1 ∙ ap Some (sym ((bytes_eq-Decides ray records.0).0 rec))))))))
      placed input output records ray true false false is differ dual out rec = inl (λ none. none-some _ (sym (rw (input.1, output.1, records.1, is, formatted, limit, threads, differ, dual, out, rec) at none)))

      by : (input : (v : Text) × (first_of (codes "in") rows ≡ Some v)) (output : (v : Text) × (first_of (codes "out") rows ≡ Some v))
          (records : (v : Text) × (first_of (codes "rec") rows ≡ Some v)) (ray : Option Text) (b : Bool) → first_of (codes "ray") rows ≡ ray → bytes_eq output.0 records.0 ≡ b → Asks (codes "presolve") rows
      by input output records ray true is same = inr (inl (inl (refl, output.1 ∙ ap Some ((bytes_eq-Decides output.0 records.0).0 same) ∙ sym records.1)))
      by input output records None false is differ = inl (λ none. none-some _ (sym (rw (input.1, output.1, records.1, is, formatted, limit, threads, differ) at none)))
      by input output records (Some ray) false is differ =
          placed input output records ray (is_on (first_of (codes "dual") rows)) (bytes_eq ray output.0) (bytes_eq ray records.0) is differ refl refl refl

  check_given : (format : InputFormat) → format_of rows ≡ Some format → is_given (codes "in") rows ≡ true → is_given (codes "sol") rows ≡ true → Asks (codes "check") rows
  check_given format formatted has_input has_solution =
      let input = given_first rules (codes "in") rows each has_input in
      let solution = given_first rules (codes "sol") rows each has_solution in
      inl (λ none. none-some _ (sym (rw (input.1, solution.1, formatted) at none)))

  postsolve_given : is_given (codes "out") rows ≡ true → is_given (codes "rec") rows ≡ true → is_given (codes "sol") rows ≡ true
      → is_given (codes "result") rows ≡ true → Asks (codes "postsolve") rows
  postsolve_given has_program has_records has_solution has_result =
      let program = given_first rules (codes "out") rows each has_program in
      let records = given_first rules (codes "rec") rows each has_records in
      let solution = given_first rules (codes "sol") rows each has_solution in
      let result = given_first rules (codes "result") rows each has_result in
      inl (λ none. none-some _ (sym (rw (program.1, records.1, solution.1, result.1) at none)))

  migrate_given : is_given (codes "rec") rows ≡ true → is_given (codes "new") rows ≡ true → Asks (codes "migrate") rows
  migrate_given has_records has_written =
      let records = given_first rules (codes "rec") rows each has_records in
      let written = given_first rules (codes "new") rows each has_written in
      by records written (bytes_eq records.0 written.0) refl
    where
      by : (records : (v : Text) × (first_of (codes "rec") rows ≡ Some v)) (written : (v : Text) × (first_of (codes "new") rows ≡ Some v)) (b : Bool)
          → bytes_eq records.0 written.0 ≡ b → Asks (codes "migrate") rows
      by records written true same = inr (inl (inr (inl (refl, records.1 ∙ ap Some ((bytes_eq-Decides records.0 written.0).0 same) ∙ sym written.1))))
      by records written false differ = inl (λ none. none-some _ (sym (rw (records.1, written.1, differ) at none)))

  verify_given : (format : InputFormat) → format_of rows ≡ Some format → is_given (codes "in") rows ≡ true → is_given (codes "out") rows ≡ true → is_given (codes "rec") rows ≡ true → Asks (codes "verify") rows
  verify_given format formatted has_input has_output has_records =
      let input = given_first rules (codes "in") rows each has_input in
      let output = given_first rules (codes "out") rows each has_output in
      let records = given_first rules (codes "rec") rows each has_records in
      inl (λ none. none-some _ (sym (rw (input.1, output.1, records.1, formatted) at none)))

  solve_given : (n : ℕ) → number_of MOST_PIVOTS USUAL_PIVOTS (first_of (codes "pivots") rows) ≡ Some n → is_given (codes "in") rows ≡ true → is_given (codes "sol") rows ≡ true → Asks (codes "solve") rows
  solve_given n pivots has_input has_solution =
      let input = given_first rules (codes "in") rows each has_input in
      let solution = given_first rules (codes "sol") rows each has_solution in
      by input solution (bytes_eq input.0 solution.0) refl
    where
      by : (input : (v : Text) × (first_of (codes "in") rows ≡ Some v)) (solution : (v : Text) × (first_of (codes "sol") rows ≡ Some v)) (b : Bool)
          → bytes_eq input.0 solution.0 ≡ b → Asks (codes "solve") rows
      by input solution true same = inr (inl (inr (inr (refl, input.1 ∙ ap Some ((bytes_eq-Decides input.0 solution.0).0 same) ∙ sym solution.1))))
      by input solution false differ = inl (λ none. none-some _ (sym (rw (input.1, solution.1, pivots, differ) at none)))

  gen_given : (n r k : ℕ) → needed_of 0 MOST_SEED (first_of (codes "seed") rows) ≡ Some n → needed_of 1 MOST_LINES (first_of (codes "rows") rows) ≡ Some r
      → needed_of 1 MOST_LINES (first_of (codes "cols") rows) ≡ Some k → Asks (codes "gen") rows
  gen_given n r k seed lines columns = inl (λ none. none-some _ (sym (rw (seed, lines, columns) at none)))

presolve_known : Each (IsKnown presolve_command.rules) presolve_command.rules
unfolding presolve_command line_app third_app second_app first_app check_app check_words presolve_app formats_app ray_app ordered_app dual_app limited_app threaded_app presolve_words postsolve_app postsolve_words migrate_app verify_words verify_app solve_words solve_app gen_words gen_app
presolve_known = ((refl, refl), ((refl, refl), ((refl, refl), ((refl, refl), ((refl, refl), ((refl, refl), ((refl, refl), ((refl, refl), ((refl, refl), ((refl, refl), ((refl, refl), ((refl, refl), tt))))))))))))

presolve_asks : AsksWhereGiven presolve_command
unfolding presolve_command line_app third_app second_app first_app check_app check_words presolve_app formats_app ray_app ordered_app dual_app limited_app threaded_app presolve_words postsolve_app postsolve_words migrate_app verify_words verify_app solve_words solve_app gen_words gen_app
presolve_asks word answers differs = (
  presolve_known,
  λ rows each given.
      let input = both (is_given (codes "in") rows) _ given in
      let output = both (is_given (codes "out") rows) _ input.1 in
      let records = both (is_given (codes "rec") rows) _ output.1 in
      let limit = number_given presolve_command.rules rows each (codes "limit") MOST_RECORDS MOST_RECORDS
      (λ a v found passes. ap (λ (r : Rule). value_passes r v) (same_Some _ a found) ∙ passes) in
      let threads = number_given presolve_command.rules rows each (codes "threads") MOST_THREADS 1
      (λ a v found passes. ap (λ (r : Rule). value_passes r v) (same_Some _ a found) ∙ passes) in
      by_format (codes "presolve") rows (inl refl)
      (λ format formatted. presolve_given presolve_command.rules rows each limit.0 threads.0 format formatted limit.1 threads.1 input.0 output.0 records.0),
)

check_known : Each (IsKnown check_command.rules) check_command.rules
unfolding check_command line_app third_app second_app first_app check_app check_words presolve_app formats_app ray_app ordered_app dual_app limited_app threaded_app presolve_words postsolve_app postsolve_words migrate_app verify_words verify_app solve_words solve_app gen_words gen_app
check_known = ((refl, refl), ((refl, refl), ((refl, refl), ((refl, refl), ((refl, refl), ((refl, refl), tt))))))

check_asks : AsksWhereGiven check_command
unfolding check_command line_app third_app second_app first_app check_app check_words presolve_app formats_app ray_app ordered_app dual_app limited_app threaded_app presolve_words postsolve_app postsolve_words migrate_app verify_words verify_app solve_words solve_app gen_words gen_app
check_asks word answers differs = (
  check_known,
  λ rows each given.
      let input = both (is_given (codes "in") rows) _ given in
      let solution = both (is_given (codes "sol") rows) _ input.1 in
      by_format (codes "check") rows (inr (inl refl)) (λ format formatted. check_given check_command.rules rows each format formatted input.0 solution.0),
)

postsolve_known : Each (IsKnown postsolve_command.rules) postsolve_command.rules
unfolding postsolve_command line_app third_app second_app first_app check_app check_words presolve_app formats_app ray_app ordered_app dual_app limited_app threaded_app presolve_words postsolve_app postsolve_words migrate_app verify_words verify_app solve_words solve_app gen_words gen_app
postsolve_known = ((refl, refl), ((refl, refl), ((refl, refl), ((refl, refl), ((refl, refl), ((refl, refl), tt))))))

postsolve_asks : AsksWhereGiven postsolve_command
unfolding postsolve_command line_app third_app second_app first_app check_app check_words presolve_app formats_app ray_app ordered_app dual_app limited_app threaded_app presolve_words postsolve_app postsolve_words migrate_app verify_words verify_app solve_words solve_app gen_words gen_app
postsolve_asks word answers differs = (
  postsolve_known,
  λ rows each given.
      let program = both (is_given (codes "out") rows) _ given in
      let records = both (is_given (codes "rec") rows) _ program.1 in
      let solution = both (is_given (codes "sol") rows) _ records.1 in
      let result = both (is_given (codes "result") rows) _ solution.1 in
      postsolve_given postsolve_command.rules rows each program.0 records.0 solution.0 result.0,
)

migrate_known : Each (IsKnown migrate_command.rules) migrate_command.rules
unfolding migrate_command line_app third_app second_app first_app check_app check_words presolve_app formats_app ray_app ordered_app dual_app limited_app threaded_app presolve_words postsolve_app postsolve_words migrate_app verify_words verify_app solve_words solve_app gen_words gen_app
migrate_known = ((refl, refl), ((refl, refl), ((refl, refl), tt)))

migrate_asks : AsksWhereGiven migrate_command
unfolding migrate_command line_app third_app second_app first_app check_app check_words presolve_app formats_app ray_app ordered_app dual_app limited_app threaded_app presolve_words postsolve_app postsolve_words migrate_app verify_words verify_app solve_words solve_app gen_words gen_app
migrate_asks word answers differs = (
  migrate_known,
  λ rows each given.
      let records = both (is_given (codes "rec") rows) _ given in
      let written = both (is_given (codes "new") rows) _ records.1 in
      migrate_given migrate_command.rules rows each records.0 written.0,
)

verify_known : Each (IsKnown verify_command.rules) verify_command.rules
unfolding verify_command line_app third_app second_app first_app check_app check_words presolve_app formats_app ray_app ordered_app dual_app limited_app threaded_app presolve_words postsolve_app postsolve_words migrate_app verify_words verify_app solve_words solve_app gen_words gen_app
verify_known = ((refl, refl), ((refl, refl), ((refl, refl), ((refl, refl), ((refl, refl), ((refl, refl), tt))))))

verify_asks : AsksWhereGiven verify_command
unfolding verify_command line_app third_app second_app first_app check_app check_words presolve_app formats_app ray_app ordered_app dual_app limited_app threaded_app presolve_words postsolve_app postsolve_words migrate_app verify_words verify_app solve_words solve_app gen_words gen_app
verify_asks word answers differs = (
  verify_known,
  λ rows each given.
      let input = both (is_given (codes "in") rows) _ given in
      let output = both (is_given (codes "out") rows) _ input.1 in
      let records = both (is_given (codes "rec") rows) _ output.1 in
      by_format (codes "verify") rows (inr (inr refl)) (λ format formatted. verify_given verify_command.rules rows each format formatted input.0 output.0 records.0),
)

solve_known : Each (IsKnown solve_command.rules) solve_command.rules
unfolding solve_command line_app third_app second_app first_app check_app check_words presolve_app formats_app ray_app ordered_app dual_app limited_app threaded_app presolve_words postsolve_app postsolve_words migrate_app verify_words verify_app solve_words solve_app gen_words gen_app
solve_known = ((refl, refl), ((refl, refl), ((refl, refl), ((refl, refl), ((refl, refl), tt)))))

solve_asks : AsksWhereGiven solve_command
unfolding solve_command line_app third_app second_app first_app check_app check_words presolve_app formats_app ray_app ordered_app dual_app limited_app threaded_app presolve_words postsolve_app postsolve_words migrate_app verify_words verify_app solve_words solve_app gen_words gen_app
solve_asks word answers differs = (
  solve_known,
  λ rows each given.
      let input = both (is_given (codes "in") rows) _ given in
      let solution = both (is_given (codes "sol") rows) _ input.1 in
      let pivots = number_given solve_command.rules rows each (codes "pivots") MOST_PIVOTS USUAL_PIVOTS
      (λ a v found passes. ap (λ (r : Rule). value_passes r v) (same_Some _ a found) ∙ passes) in
      solve_given solve_command.rules rows each pivots.0 pivots.1 input.0 solution.0,
)

gen_known : Each (IsKnown gen_command.rules) gen_command.rules
unfolding gen_command line_app third_app second_app first_app check_app check_words presolve_app formats_app ray_app ordered_app dual_app limited_app threaded_app presolve_words postsolve_app postsolve_words migrate_app verify_words verify_app solve_words solve_app gen_words gen_app
gen_known = ((refl, refl), ((refl, refl), ((refl, refl), ((refl, refl), tt))))

gen_asks : AsksWhereGiven gen_command
unfolding gen_command line_app third_app second_app first_app check_app check_words presolve_app formats_app ray_app ordered_app dual_app limited_app threaded_app presolve_words postsolve_app postsolve_words migrate_app verify_words verify_app solve_words solve_app gen_words gen_app
gen_asks word answers differs = (
  gen_known,
  λ rows each given.
      let seed = both (is_given (codes "seed") rows) _ given in
      let lines = both (is_given (codes "rows") rows) _ seed.1 in
      let columns = both (is_given (codes "cols") rows) _ lines.1 in
      let n = needed_given gen_command.rules rows each (codes "seed") 0 MOST_SEED
      (λ a v found passes. ap (λ (r : Rule). value_passes r v) (same_Some _ a found) ∙ passes) seed.0 in
      let r = needed_given gen_command.rules rows each (codes "rows") 1 MOST_LINES
      (λ a v found passes. ap (λ (r : Rule). value_passes r v) (same_Some _ a found) ∙ passes) lines.0 in
      let k = needed_given gen_command.rules rows each (codes "cols") 1 MOST_LINES
      (λ a v found passes. ap (λ (r : Rule). value_passes r v) (same_Some _ a found) ∙ passes) columns.0 in
      gen_given gen_command.rules rows each n.0 r.0 k.0 n.1 r.1 k.1,
)

-- the word that answers to the command for help
help_asks : (s : Shape) → label_of s ≡ (codes "help", []) → AsksWhereGiven s
help_asks s label word answers differs =
    let named = either (bytes_eq (codes "help") word) false (ap (answers_to word) (sym label) ∙ answers) in
    elim named [
      | inl same ↦
          let is : codes "help" ≡ word = (bytes_eq-Decides (codes "help") word).0 same in
          absurd (true≢false (sym ((bytes_eq-Decides word (codes "help")).1 (sym is)) ∙ differs))
      | inr never ↦ absurd (true≢false (sym never))
    ]

-- each command of the line asks for something
pub commands_ask : Each AsksWhereGiven (built line_app).subs
unfolding presolve_command check_command postsolve_command migrate_command verify_command solve_command gen_command line_app third_app second_app first_app check_app check_words presolve_app formats_app ray_app ordered_app dual_app limited_app threaded_app presolve_words postsolve_app postsolve_words migrate_app verify_words verify_app solve_words solve_app gen_words gen_app
commands_ask = (presolve_asks, (check_asks, (postsolve_asks, (migrate_asks, (verify_asks, (solve_asks, (gen_asks, (help_asks (built_leaf help_shape) refl, tt))))))))

-- the line has the command for help
pub line_has_help : (built line_app).top.disable_help_subcommand ≡ false
unfolding line_app third_app second_app first_app check_app check_words presolve_app formats_app ray_app ordered_app dual_app limited_app threaded_app presolve_words postsolve_app postsolve_words migrate_app verify_words verify_app solve_words solve_app gen_words gen_app
line_has_help = refl
