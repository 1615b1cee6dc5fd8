-- The command is one that clap's clauses are exact for.
use Rattle.std.proofs.Common.{◌≡◌, Bool, true, false, List, refl, sym, subst}
use Rattle.clap.specs.Words.{is_simple, is_simple_and_free, App, Text, takes}
use Rattle.command_app.specs.Line.{check_app, check_words, dual_app, first_app, formats_app, gen_app, gen_words, limited_app, line_app, migrate_app, ordered_app, postsolve_app, postsolve_words, presolve_app, presolve_words, ray_app, second_app, solve_app, solve_words, third_app, threaded_app, verify_app, verify_words, is_taken}

pub line_is_simple : is_simple line_app ≡ true
unfolding line_app third_app second_app first_app check_app check_words presolve_app formats_app ray_app ordered_app dual_app limited_app threaded_app presolve_words postsolve_app postsolve_words migrate_app verify_words verify_app solve_words solve_app gen_words gen_app
line_is_simple = refl

pub line_is_free : is_simple_and_free line_app ≡ true
unfolding line_app third_app second_app first_app check_app check_words presolve_app formats_app ray_app ordered_app dual_app limited_app threaded_app presolve_words postsolve_app postsolve_words migrate_app verify_words verify_app solve_words solve_app gen_words gen_app
line_is_free = refl

not_true : (b : Bool) → (b ≡ true → ⊥) → b ≡ false
not_true true never = absurd (never refl)
not_true false never = refl

-- where the words being taken would mean what is not so, they are not taken
pub refused_by : (app : App) (words : List Text) (P : Type 0) → app ≡ line_app → (takes app words ≡ true → P) → (P → ⊥) → is_taken words ≡ false
unfolding is_taken
refused_by app words P is passes never =
    not_true (takes line_app words) (λ t. never (passes (let Q : App → Type 0 = λ a. takes a words ≡ true in subst Q (sym is) t)))
