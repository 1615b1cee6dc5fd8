-- A request as its names.
use Rattle.std.specs.Option.{option_map}
use Rattle.command_words.specs.Names.{PresolveNames, CheckNames, PostsolveNames, MigrateNames, VerifyNames, SolveNames, Request, Presolve, Check, Postsolve, Migrate, Verify, Solve, Gen}
use Rattle.command_words.specs.declared.words.PresolveWords.{PresolveWords}
use Rattle.command_words.specs.declared.words.CheckWords.{CheckWords}
use Rattle.command_words.specs.declared.words.PostsolveWords.{PostsolveWords}
use Rattle.command_words.specs.declared.words.MigrateWords.{MigrateWords}
use Rattle.command_words.specs.declared.words.VerifyWords.{VerifyWords}
use Rattle.command_words.specs.declared.words.SolveWords.{SolveWords}
use Rattle.command_words.specs.declared.words.Request.TheVariants as words
use Rattle.command_words.specs.declared.words.Request as declared

abbrev pub names_of : PresolveWords → PresolveNames
names_of words = record { input = words.input.now; output = words.output.now; records = words.records.now; ray = option_map (λ name. name.now) words.ray; options = words.options }

abbrev pub check_names_of : CheckWords → CheckNames
check_names_of words = record { input = words.input.now; solution = words.solution.now; format = words.format; wide = words.wide }

abbrev pub postsolve_names_of : PostsolveWords → PostsolveNames
postsolve_names_of words = record { program = words.program.now; records = words.records.now; solution = words.solution.now; result = words.result.now; wide = words.wide }

abbrev pub migrate_names_of : MigrateWords → MigrateNames
migrate_names_of words = record { records = words.records.now; written = words.written.now }

abbrev pub verify_names_of : VerifyWords → VerifyNames
verify_names_of words = record { input = words.input.now; output = words.output.now; records = words.records.now; format = words.format }

abbrev pub solve_names_of : SolveWords → SolveNames
solve_names_of words = record { input = words.input.now; solution = words.solution.now; pivots = words.pivots; fixed = words.fixed }

abbrev pub seen : declared.Request → Request
seen (words.Presolve p) = Presolve (names_of p)
seen (words.Check c) = Check (check_names_of c)
seen (words.Postsolve p) = Postsolve (postsolve_names_of p)
seen (words.Migrate m) = Migrate (migrate_names_of m)
seen (words.Verify v) = Verify (verify_names_of v)
seen (words.Solve s) = Solve (solve_names_of s)
seen (words.Gen g) = Gen g
