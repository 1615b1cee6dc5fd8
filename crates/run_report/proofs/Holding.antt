-- What a run leaves enabled can't be applied.
use Rattle.std.proofs.Common.{◌≡◌, ◌≢◌, ℕ, ◌≤◌, true, false, List, [], ◌∷◌, ◌++◌, map, length, Option, Some, None, sym, refl, ap, ◌∙◌, subst, arith, append_assoc}
use Rattle.std.specs.List.{All, Contains, filter}
use Rattle.std.proofs.lemmas.List.{map-append}
use Rattle.std.proofs.lemmas.List.Elements.{All-push, All-tail, Contains-get_or}
use Rattle.problem_model.specs.Sparse.{Sparse}
use Rattle.presolve_model.specs.declared.conclusion.End.{End}
use Rattle.presolve_model.specs.declared.conclusion.End.TheVariants.{Fixpoint, LimitReached}
use Rattle.presolve_model.specs.declared.instance.Instance.{Instance}
use Rattle.presolve_model.specs.declared.instance.Instance.TheVariants as at
use Rattle.presolve_model.specs.declared.instance.Rule.{Rule}
use Rattle.presolve_model.specs.declared.outcome.Outcome.{Outcome}
use Rattle.presolve_model.specs.declared.outcome.Outcome.TheVariants.{Closed, Full, Stale, Past, NotDecimal, Applied, NoMemory}
use Rattle.presolve_model.specs.Commits.{Allows, left_by}
use Rattle.presolve_model.specs.Enabled.{enabled_on, reading_of}
use Rattle.presolve_model.specs.Instances.{instances_from, is_open}
use Rattle.presolve_model.specs.Ledger.{Ledger, Stands}
use Rattle.presolve_model.specs.Order.{reduction_order}
use Rattle.presolve_model.specs.Scans.{all_ids, all_of, instances_at, proposal_of}
use Rattle.presolve_model.specs.Stuck.{enabled_reductions}
use Rattle.presolve_model.specs.Tallies.{Open, open_on}
use Rattle.presolve_model.proofs.Readings.{reading_agrees}
use Rattle.place_laws.proofs.Places.{from_is}
use Rattle.place_laws.proofs.ShortLists.{comes_from, kept_is, kept_passes}
use Rattle.round_laws.proofs.Committing.{differs}
use Rattle.lp_model.specs.ProgramData.{ProgramData}
use Rattle.problem_model.specs.Programs.{IsProblemOf}
use Rattle.presolve_model.specs.declared.conclusion.Options.{Options}
use Rattle.fractions.specs.declared.Numbers.{Numbers}
use Rattle.presolve_model.specs.Ordered.{new_book, Ordered, RunsTo}
use Rattle.presolve_model.specs.Replay.{Replays}
use Rattle.round_laws.specs.Passing.{IsSameBook}
use Rattle.run_report.specs.declared.look.Held.{Held}
use Rattle.run_report.specs.Holding.{HoldsBack, IsHeld}
use Rattle.run_report.specs.Story.{IsReplayed}
use Rattle.presolve_rounds.proofs.Concluding.{runs_to, same_options}
use Rattle.presolve_rounds.specs.Running.{EndsWith}

-- ---- what the end of a run says of what is enabled
clash : (e : Instance) (b : Ledger) → enabled_on b.problem e ≡ true → enabled_on b.problem e ≡ false → ⊥
clash e b on off = let f : true ≡ false = sym on ∙ off in cc

ended_holds : (o : Option End) (b : Ledger) → EndsWith o b → (e : Instance) → enabled_on b.problem e ≡ true → is_open (open_on b.tally) e ≡ true → HoldsBack b e
ended_holds None b h e on free = record { enabled = on; never = λ none room fits writes. h none }
ended_holds (Some (Fixpoint n)) b h (at.Reduction r) on free = record { enabled = on; never = λ none room fits writes. h.1.reductions r free (record { enabled = on; fits = fits; written = writes }) }
ended_holds (Some (Fixpoint n)) b h (at.Verdict v) on free = absurd (clash (at.Verdict v) b on (h.1.undecided v))
ended_holds (Some LimitReached) b h (at.Reduction r) on free = record { enabled = on; never = λ none room fits writes. let same = h.0 in omega (arith, room, same) }
ended_holds (Some LimitReached) b h (at.Verdict v) on free = absurd (clash (at.Verdict v) b on (h.1 v))

-- what is listed is enabled, and open
listed_open : (opens : Open) (p : Sparse) (rules : List Rule) (e : Instance) → Contains (filter (enabled_on p) (all_of opens p rules)) e → (enabled_on p e ≡ true) × (is_open opens e ≡ true)
listed_open opens p rules e c =
    let r = comes_from (λ (rule : Rule). instances_at opens p rule (all_ids p rule)) rules e (kept_is (enabled_on p) (all_of opens p rules) e c) in
    let k = comes_from (instances_from opens p r.0) (all_ids p r.0) e r.2 in
    (kept_passes (enabled_on p) (all_of opens p rules) e c, (from_is opens p r.0 k.0 e k.2).2)

pub each_held : (o : Option End) (b : Ledger) (found : List Instance) → EndsWith o b → found ≡ enabled_reductions (open_on b.tally) b.problem → All (HoldsBack b) found
each_held o b found h is = subst (λ (es : List Instance). All (HoldsBack b) es) (sym is) (over (enabled_reductions (open_on b.tally) b.problem) (λ e c. c))
  where
    over : (es : List Instance) → ((e : Instance) → Contains es e → Contains (enabled_reductions (open_on b.tally) b.problem) e) → All (HoldsBack b) es
    over es within k d lt = let l = listed_open (open_on b.tally) b.problem reduction_order _ (within _ (Contains-get_or es k d lt)) in ended_holds o b h _ l.0 l.1

-- ---- the answer to one that is held back
pub stays : (b c : Ledger) (w : ℕ) (e : Instance) (o : Outcome) → HoldsBack b e → Allows b (proposal_of b.problem w e) o → c ≡ left_by b 0 (proposal_of b.problem w e) o → c ≡ b
stays b c w e (Closed v) h a l = l
stays b c w e Full h a l = l
stays b c w e (Stale k) h a l = l
stays b c w e Past h a l = l
stays b c w e NotDecimal h a l = l
stays b c w e (Applied k) h a l = absurd (h.never a.0.undecided a.0.room a.1 a.2)
stays b c w e NoMemory h a l = l

pub why_held : (b : Ledger) (w : ℕ) (e : Instance) (o : Outcome) → HoldsBack b e → o ≢ NoMemory → Allows b (proposal_of b.problem w e) o → IsHeld b e o
why_held b w e (Closed v) h n a = a
why_held b w e Full h n a = a
why_held b w e (Stale k) h n a = absurd (differs b.problem (reading_of b.problem e) k a.2 (reading_agrees b.problem e))
why_held b w e Past h n a = (a.0.undecided, a.0.room, a.1)
why_held b w e NotDecimal h n a = (a.0.undecided, a.0.room, a.1, a.2)
why_held b w e (Applied k) h n a = absurd (h.never a.0.undecided a.0.room a.1 a.2)
why_held b w e NoMemory h n a = absurd (n refl)

-- with one answer more
pub next_held : (b d : Ledger) (found : List Instance) (hs ks : List Held) (h : Held) (rest after : List Instance) → rest ≡ h.instance ∷ after → d ≡ b → ks ≡ hs ++ h ∷ [] → IsHeld d h.instance h.answer
    → map (λ h. h.instance) hs ++ rest ≡ found → All (λ h. IsHeld b h.instance h.answer) hs → All (HoldsBack b) rest
    → (map (λ h. h.instance) ks ++ after ≡ found) × All (λ h. IsHeld b h.instance h.answer) ks × All (HoldsBack b) after
next_held b d found hs ks h rest after split same is held all why left =
    let of : Held → Instance = λ x. x.instance in (
      subst (λ (xs : List Held). map of xs ++ after ≡ found) (sym is)
          (ap (λ (es : List Instance). es ++ after) (map-append of hs (h ∷ [])) ∙ append_assoc (map of hs) (h.instance ∷ []) after ∙ subst (λ (es : List Instance). map of hs ++ es ≡ found) split all),
      subst (λ (xs : List Held). All (λ h. IsHeld b h.instance h.answer) xs) (sym is) (All-push (λ (x : Held). IsHeld b x.instance x.answer) hs h why (subst (λ (x : Ledger). IsHeld x h.instance h.answer) same held)),
      All-tail (HoldsBack b) h.instance after (subst (λ (es : List Instance). All (HoldsBack b) es) split left),
    )

-- ---- the run of a program's problem
pub run_looked : (program : ProgramData) (options : Options) (b c d : Ledger) (o : Option End) → IsProblemOf program b.start → b ≡ new_book options b.start → IsSameBook b c → Ordered b o c → d ≡ c → IsProblemOf program d.start × RunsTo options program o d
run_looked program options b c d o h e same k is = subst (λ (x : Ledger). IsProblemOf program x.start × RunsTo options program o x) (sym is) (
  subst (IsProblemOf program) (sym same.start) h,
  subst (λ (x : Options). RunsTo x program o c) (same_options options b c e same) (runs_to program options b c o o h e same refl k),
)

-- the history with which it ends replays on that problem
pub run_replayed : (program : ProgramData) (options : Options) (b c d : Ledger) → IsProblemOf program b.start → b ≡ new_book options b.start → IsSameBook b c → d ≡ c → Stands d → IsReplayed options program d.history d.start
run_replayed program options b c d h e same is stands =
    let start : d.start ≡ b.start = ap (λ (x : Ledger). x.start) is ∙ same.start in
    let numbers : d.numbers ≡ options.numbers = ap (λ (x : Ledger). x.numbers) is ∙ same.numbers ∙ ap (λ (x : Ledger). x.numbers) e in
    let limit : d.limit ≡ options.limit = ap (λ (x : Ledger). x.limit) is ∙ same.limit ∙ ap (λ (x : Ledger). x.limit) e in
    record {
      opened = subst (IsProblemOf program) (sym start) h;
      replays = subst (λ (n : Numbers). Replays n d.start d.history) numbers stands.replays;
      within = subst (λ (n : ℕ). length d.history ≤ n) limit stands.within;
    }
