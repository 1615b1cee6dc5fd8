-- What is said where a program has no feasible point.
use Rattle.std.proofs.Common.{◌≡◌, ◌≤◌, ◌∙◌, ℕ, Bool, false, true≢false, List, length, inl, inr, Option, Some, None, is_some, Bor, Vec, Global, refl, sym, ap, subst}
use Rattle.std.specs.Option.{option_map}
use Rattle.file_ports.specs.Ports.{Moment, Gives, NeverFall}
use Rattle.command_words.specs.Names.{PresolveNames}
use Rattle.endings.specs.Ending.{infeasible_line, status_of, text_of}
use Rattle.endings.specs.declared.ending.Ending.{Ending}
use Rattle.endings.specs.declared.ending.Ending.TheVariants.{Done, Usage, Refused, ReadFault, WriteFault, NoMemory, NoRoom, RecordsRefused, SolutionRefused, Violated, Spent, Infeasible, RayPast, UnboundedOrInfeasible, Unbounded}
use Rattle.endings.specs.declared.reads.TheConstants.{INPUT_LIMIT}
use Rattle.presolve_model.specs.declared.instance.Reduction.{Reduction}
use Rattle.presolve_model.specs.declared.instance.Verdict.{Verdict}
use Rattle.presolve_command.specs.Presolved.{SaysPresolve}
use Rattle.presolve_command.specs.Proving.{EndsInfeasible}
use Rattle.presolve_command.specs.Texts.{TextHasRay, TextIsInfeasible, TextIsInfeasibleBy, TextLacksRay}
use Rattle.presolve_command.proofs.Before.{fails_at_earlier, only_earlier, written_earlier}
use Rattle.presolve_command.proofs.Made.{said_read}

-- no ray is asked for
pub unasked : (r : Option (Bor (List ℕ))) (asks : Bool) → asks ≡ is_some r → asks ≡ false → option_map (λ (n : Bor (List ℕ)). n.now) r ≡ None
unasked None asks is denied = refl
unasked (Some n) asks is denied = absurd (true≢false (sym is ∙ denied))

-- a text that was kept is shown as it was
pub shown_kept : (shown : List ℕ) (now held : Vec ℕ Global) → shown ≡ now.items → now ≡ held → shown ≡ held.items
shown_kept shown now held is same = is ∙ ap (λ (text : Vec ℕ Global). text.items) same

-- by its status
pub infeasible_ends : (names : PresolveNames) (before between now : Moment) (held text : List ℕ) (history : List Reduction) (verdict : Verdict) (ending : Ending) (ray : Option (List ℕ)) → names.ray ≡ ray
    → between.told ≡ before.told → NeverFall before.writes between.writes → Gives (before.told names.input) held → length held ≤ INPUT_LIMIT → text ≡ held
    → TextIsInfeasibleBy names.options text history verdict → EndsInfeasible names.options text ray ending between now → SaysPresolve names (status_of ending) (text_of ending) before now
infeasible_ends names before between now held text history verdict Infeasible None asked same stays gives most is found ends =
    subst (λ (r : Option (List ℕ)). SaysPresolve (record names { ray = r }) 20 infeasible_line before now) (sym asked) (
      said_read (λ t. TextIsInfeasible names.options t) INPUT_LIMIT (before.told names.input) held text gives most is (found.0, found.1.0),
      ends ∙ same,
      refl,
    )
infeasible_ends names before between now held text history verdict Infeasible (Some ray) asked same stays gives most is found ends =
    subst (λ (r : Option (List ℕ)). SaysPresolve (record names { ray = r }) 20 infeasible_line before now) (sym asked) (inl (
      (
        ends.0,
        said_read (λ t. TextHasRay names.options t ends.0) INPUT_LIMIT (before.told names.input) held text gives most is ends.1,
        written_earlier ray ends.0 before between now same ends.2,
        only_earlier ray before between now same ends.3,
      ),
      refl,
    ))
infeasible_ends names before between now held text history verdict (RayPast lines) (Some ray) asked same stays gives most is found ends =
    subst (λ (r : Option (List ℕ)). SaysPresolve (record names { ray = r }) 20 lines.items before now) (sym asked) (inr (
      ends.0,
      said_read (λ t. TextLacksRay names.options t ends.0) INPUT_LIMIT (before.told names.input) held text gives most is ends.1,
      ends.2 ∙ same,
      ends.3,
    ))
infeasible_ends names before between now held text history verdict WriteFault (Some ray) asked same stays gives most is found ends =
    subst (λ (r : Option (List ℕ)). SaysPresolve (record names { ray = r }) 4 (text_of WriteFault) before now) (sym asked) (
      inr (
        ends.0,
        said_read (λ t. TextHasRay names.options t ends.0) INPUT_LIMIT (before.told names.input) held text gives most is ends.1,
        only_earlier ray before between now same ends.2,
        fails_at_earlier ray before between now same stays ends.3,
      ),
      refl,
    )
infeasible_ends names before between now held text history verdict (RayPast lines) None asked same stays gives most is found ends = absurd ends
infeasible_ends names before between now held text history verdict WriteFault None asked same stays gives most is found ends = absurd ends
infeasible_ends names before between now held text history verdict (Done bytes) None asked same stays gives most is found ends = absurd ends
infeasible_ends names before between now held text history verdict (Done bytes) (Some ray) asked same stays gives most is found ends = absurd ends
infeasible_ends names before between now held text history verdict Usage None asked same stays gives most is found ends = absurd ends
infeasible_ends names before between now held text history verdict Usage (Some ray) asked same stays gives most is found ends = absurd ends
infeasible_ends names before between now held text history verdict (Refused line) None asked same stays gives most is found ends = absurd ends
infeasible_ends names before between now held text history verdict (Refused line) (Some ray) asked same stays gives most is found ends = absurd ends
infeasible_ends names before between now held text history verdict ReadFault None asked same stays gives most is found ends = absurd ends
infeasible_ends names before between now held text history verdict ReadFault (Some ray) asked same stays gives most is found ends = absurd ends
infeasible_ends names before between now held text history verdict NoMemory None asked same stays gives most is found ends = absurd ends
infeasible_ends names before between now held text history verdict NoMemory (Some ray) asked same stays gives most is found ends = absurd ends
infeasible_ends names before between now held text history verdict (NoRoom line) None asked same stays gives most is found ends = absurd ends
infeasible_ends names before between now held text history verdict (NoRoom line) (Some ray) asked same stays gives most is found ends = absurd ends
infeasible_ends names before between now held text history verdict (RecordsRefused line) None asked same stays gives most is found ends = absurd ends
infeasible_ends names before between now held text history verdict (RecordsRefused line) (Some ray) asked same stays gives most is found ends = absurd ends
infeasible_ends names before between now held text history verdict (SolutionRefused line) None asked same stays gives most is found ends = absurd ends
infeasible_ends names before between now held text history verdict (SolutionRefused line) (Some ray) asked same stays gives most is found ends = absurd ends
infeasible_ends names before between now held text history verdict (Violated line) None asked same stays gives most is found ends = absurd ends
infeasible_ends names before between now held text history verdict (Violated line) (Some ray) asked same stays gives most is found ends = absurd ends
infeasible_ends names before between now held text history verdict Spent None asked same stays gives most is found ends = absurd ends
infeasible_ends names before between now held text history verdict Spent (Some ray) asked same stays gives most is found ends = absurd ends
infeasible_ends names before between now held text history verdict UnboundedOrInfeasible None asked same stays gives most is found ends = absurd ends
infeasible_ends names before between now held text history verdict UnboundedOrInfeasible (Some ray) asked same stays gives most is found ends = absurd ends
infeasible_ends names before between now held text history verdict Unbounded None asked same stays gives most is found ends = absurd ends
infeasible_ends names before between now held text history verdict Unbounded (Some ray) asked same stays gives most is found ends = absurd ends
