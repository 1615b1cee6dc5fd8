use Rattle.std.proofs.Common.{◌≡◌, ◌<◌, ◌+◌, ℕ, length, min, None, List, [], ◌∷◌, ◌++◌, ◌∙◌, ap, ap₂, sym, subst, true}
use Rattle.undo_records.specs.declared.undo.Undo.{Undo}
use Rattle.problem_model.specs.Noted.{AreNoted}
use Rattle.presolve_model.specs.After.{AfterAllows}
use Rattle.presolve_model.specs.declared.instance.Instance.TheVariants as at
use Rattle.presolve_model.specs.declared.instance.Reduction.{Reduction}
use Rattle.presolve_model.specs.Commits.{transaction_of}
use Rattle.presolve_model.specs.Enabled.{enabled_on}
use Rattle.presolve_model.specs.Ledger.{Ledger, Stands}
use Rattle.std.specs.Prelude.{Err, Ok}
use Rattle.txn_book.specs.Applying.{Applies}
use Rattle.txn_book.proofs.Growing.{grown, none_noted, refused, stands_grown, stays_by, taken_back}
use Rattle.txn_book.proofs.book.Book.apply_reduction.Goals as goal

-- as many reductions as had been applied
before : (h hs is : List Reduction) → is ≡ hs → hs ≡ h → length is ≡ length h
before h hs is e f = ap length (e ∙ f)

-- the reduction is enabled
enabled : (b l : Ledger) (r : Reduction) → b ≡ l → enabled_on l.problem (at.Reduction r) ≡ true → enabled_on b.problem (at.Reduction r) ≡ true
enabled b l r is on = subst (λ (x : Ledger). enabled_on x.problem (at.Reduction r) ≡ true) (sym is) on

pub invariant_of-self-2 : goal.invariant_of-self-2
invariant_of-self-2 c =
    let s = c.self.inside in
    let b : Ledger = record { start = s.start.value; problem = s.problem; history = s.history.items; verdict = s.verdict; records = s.records.items; transactions = s.transactions; tally = s.tally; numbers = s.numbers; limit = s.limit } in
    let answer = c.in-Ok.ensures.answer s.numbers c.args.reduction (enabled _ _ c.args.reduction c.self.view_is c.requires.enabled, c.in_ok-change.ensures) in
    stands_grown b c.args.by c.args.version c.args.reduction _ _ _ _ _ c.self.invariant
    (subst (λ (l : Ledger). l.verdict ≡ None) (sym c.self.view_is) c.requires.undecided)
    (subst (λ (l : Ledger). length l.history < l.limit) (sym c.self.view_is) c.requires.room)
    (enabled _ _ c.args.reduction c.self.view_is c.requires.enabled)
    answer.0 answer.1 answer.2
    (c.push_reserved-2.ensures.items ∙ ap (λ (rs : List Reduction). rs ++ c.args.reduction ∷ []) c.reserve.ensures.items)
    (c.push_reserved.ensures.items ∙ ap₂ (λ (us : List Undo) (u : Undo). us ++ u ∷ []) c.reserve-2.ensures.items (c.share.ensures ∙ answer.3))
    (c.in_ok-add_transaction.ensures.added ∙ ap (λ (v : ℕ). s.transactions ++ record (transaction_of b c.args.by c.args.version (at.Reduction c.args.reduction)) { version = v } ∷ []) (c.min-found.ensures ∙ ap (min c.args.version) (before s.history.items c.reserve.new.self.items c.as_slice-before.result.now c.as_slice-before.ensures.value c.reserve.ensures.items)))
    c.follow.ensures

pub prepared-requires : goal.prepared-requires
prepared-requires c = enabled _ _ c.args.reduction c.self.view_is c.requires.enabled

pub commit_prepared-requires : goal.commit_prepared-requires
commit_prepared-requires c = (c.self.inside.numbers, c.args.reduction, (enabled _ _ c.args.reduction c.self.view_is c.requires.enabled, c.in_ok-change.ensures))

-- what a refusal leaves
abbrev left : (c : goal.After-truncate) → Ledger
left c = let s = c.self.inside in record { start = s.start.value; problem = c.commit_prepared.new.problem; history = c.reserve.new.self.items; verdict = s.verdict; records = c.reserve-2.new.self.items; transactions = c.truncate.new.self; tally = s.tally; numbers = s.numbers; limit = s.limit }

abbrev inside : (c : goal.After-truncate) → Ledger
inside c = let s = c.self.inside in record { start = s.start.value; problem = s.problem; history = s.history.items; verdict = s.verdict; records = s.records.items; transactions = s.transactions; tally = s.tally; numbers = s.numbers; limit = s.limit }

same : (c : goal.After-truncate) → c.commit_prepared.new.problem ≡ c.self.inside.problem → left c ≡ inside c
same c e =
    let s = c.self.inside in
    let history = c.reserve.ensures.items in
    let records = c.reserve-2.ensures.items in
    let told = taken_back (inside c) (length c.as_slice-before.result.now) _ c.truncate.new.self _ c.self.invariant
    (before s.history.items c.reserve.new.self.items c.as_slice-before.result.now c.as_slice-before.ensures.value c.reserve.ensures.items) c.in_ok-add_transaction.ensures.added c.truncate.ensures in
    λ i. record { start = s.start.value; problem = e i; history = history i; verdict = s.verdict; records = records i; transactions = told i; tally = s.tally; numbers = s.numbers; limit = s.limit }

-- what the commit answered, and so the problem stays
answered : (c : goal.After-truncate) → AfterAllows c.self.inside.numbers c.args.reduction c.self.inside.problem (Err c.in-Err.refusal) c.commit_prepared.new.problem
answered c = c.in-Err.ensures.answer c.self.inside.numbers c.args.reduction (enabled _ _ c.args.reduction c.self.view_is c.requires.enabled, c.in_ok-change.ensures)

stays : (c : goal.After-truncate) → c.commit_prepared.new.problem ≡ c.self.inside.problem
stays c = stays_by _ _ _ _ c.in-Err.refusal (answered c)

pub invariant_of-self-in-Err : goal.invariant_of-self-in-Err
invariant_of-self-in-Err c = subst Stands (sym (same c (stays c))) c.self.invariant

pub returns-clause-applies : goal.returns-clause-applies
returns-clause-applies c =
    let s = c.self.inside in
    let b : Ledger = record { start = s.start.value; problem = s.problem; history = s.history.items; verdict = s.verdict; records = s.records.items; transactions = s.transactions; tally = s.tally; numbers = s.numbers; limit = s.limit } in
    let answer = c.in-Ok.ensures.answer s.numbers c.args.reduction (enabled _ _ c.args.reduction c.self.view_is c.requires.enabled, c.in_ok-change.ensures) in
    subst (λ (l : Ledger). Applies l c.args.by c.args.version c.args.reduction (Ok (length c.as_slice-before.result.now + 1)) (record { start = s.start.value; problem = c.commit_prepared.new.problem; history = c.push_reserved-2.new.self.items; verdict = s.verdict; records = c.push_reserved.new.self.items; transactions = c.add_transaction.new.transactions; tally = c.follow.new.self; numbers = s.numbers; limit = s.limit })) c.self.view_is (
      answer.0,
      answer.1,
      ap (λ (n : ℕ). n + 1) (before s.history.items c.reserve.new.self.items c.as_slice-before.result.now c.as_slice-before.ensures.value c.reserve.ensures.items),
      grown b c.args.by c.args.version c.args.reduction _ _ _ _ _
          answer.2
          (c.push_reserved-2.ensures.items ∙ ap (λ (rs : List Reduction). rs ++ c.args.reduction ∷ []) c.reserve.ensures.items)
          (c.push_reserved.ensures.items ∙ ap₂ (λ (us : List Undo) (u : Undo). us ++ u ∷ []) c.reserve-2.ensures.items (c.share.ensures ∙ answer.3))
          (c.in_ok-add_transaction.ensures.added ∙ ap (λ (v : ℕ). s.transactions ++ record (transaction_of b c.args.by c.args.version (at.Reduction c.args.reduction)) { version = v } ∷ []) (c.min-found.ensures ∙ ap (min c.args.version) (before s.history.items c.reserve.new.self.items c.as_slice-before.result.now c.as_slice-before.ensures.value c.reserve.ensures.items)))
          c.follow.ensures,
    )

pub returns-in-Err-clause-applies : goal.returns-in-Err-clause-applies
returns-in-Err-clause-applies c =
    subst (λ (l : Ledger). Applies l c.args.by c.args.version c.args.reduction (Err c.in-Err.refusal) (left c)) c.self.view_is
    (refused (inside c) (left c) c.args.by c.args.version c.args.reduction c.in-Err.refusal c.commit_prepared.new.problem (answered c) (same c))

pub returns-in-Err-clause-noted : goal.returns-in-Err-clause-noted
returns-in-Err-clause-noted c =
    subst (AreNoted c.args.self.now.problem c.commit_prepared.new.problem c.args.changed.now.items) (sym c.in-Err.ensures.untold)
    (none_noted c.args.self.now.problem c.commit_prepared.new.problem c.args.changed.now.items (stays c ∙ ap (λ (l : Ledger). l.problem) c.self.view_is))

pub returns-in_err-add_transaction-clause-noted : goal.returns-in_err-add_transaction-clause-noted
returns-in_err-add_transaction-clause-noted c = none_noted c.args.self.now.problem c.self.inside.problem c.args.changed.now.items (ap (λ (l : Ledger). l.problem) c.self.view_is)
