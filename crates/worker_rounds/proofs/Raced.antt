-- Rounds of workers on a shared book, and the book that is left when it is closed.
use Rattle.std.proofs.Common.{◌≡◌, ◌⊎◌, inl, inr, ℕ, ◌<◌, ◌≤◌, ◌^◌, Bool, true, List, [], ◌∷◌, refl, sym, ap, ap₂, ◌∙◌, subst, arith}
use Rattle.std.specs.List.{All, Contains}
use Rattle.std.proofs.lemmas.Bool.{eq-eqb}
use Rattle.std.specs.Prelude.{◌&&◌, Ok}
use Rattle.shared_book.specs.declared.call.Call.TheVariants.{Freeze}
use Rattle.shared_book.specs.History.{HasFrozen, IsAnswered, Known, Leaves, Shared, StartsWith}
use Rattle.problem_model.specs.declared.part.Part.{Part}
use Rattle.problem_model.specs.Parts.{changes_of}
use Rattle.problem_model.specs.Problems.{IsSparse}
use Rattle.problem_model.specs.Sparse.{Sparse}
use Rattle.edit_laws.specs.Sizes.{SameSize}
use Rattle.undo_records.specs.declared.side.Side.{Side}
use Rattle.place_laws.specs.Choosing.{all_around, Around, HasEach}
use Rattle.place_laws.specs.Standing.{IsLaterAt}
use Rattle.place_laws.proofs.Choosing.{all_each}
use Rattle.place_laws.proofs.ShortLists.{none_in}
use Rattle.presolve_model.specs.declared.instance.Instance.{Instance}
use Rattle.presolve_model.specs.Enabled.{enabled_on, reads}
use Rattle.presolve_model.specs.Instances.{is_open}
use Rattle.presolve_model.specs.Ledger.{Ledger, Stands}
use Rattle.presolve_model.specs.Tallies.{open_on, tightenings}
use Rattle.presolve_model.specs.Worlds.{Version, version_of}
use Rattle.round_laws.specs.Passing.{are_unchanged}
use Rattle.round_laws.proofs.Committing.{fresh_enables}
use Rattle.round_laws.proofs.Numbers.{unchanged_fresh}
use Rattle.txn_book.specs.Sharing.{after_call, allows_call, IsFrom}
use Rattle.book_turns.specs.Turns.{GoesOn, IsCalled, Turn}
use Rattle.book_turns.proofs.Few.{few_along}
use Rattle.book_turns.proofs.Going.{goes_along}
use Rattle.round_marks.specs.Forming.{AreFormsOf, Formed, forms_of}
use Rattle.round_marks.specs.Marking.{Watched}
use Rattle.round_marks.specs.Stamping.{stamp_at, Stamped, stamps_of}
use Rattle.round_marks.proofs.Reforming.{formed}
use Rattle.round_marks.proofs.Restamping.{stamped}
use Rattle.round_tasks.specs.Changes.{IsAsLong, NoticesAll}
use Rattle.worker_rounds.specs.Marking.{AreAllLeft, HasLeft, IsLater, LooksAt}
use Rattle.worker_rounds.proofs.Complete.{same_sizes}
use Rattle.worker_rounds.proofs.Later.{later_left, later_version}

-- ---- the numbers of a version's parts, and a later version
pub as_long : (p q : Sparse) (s : Stamped) → s ≡ stamps_of p → IsSparse p → SameSize p q → IsAsLong s q
as_long p q s e sparse size = subst (λ (x : Stamped). IsAsLong x q) (sym e) (
    let t = stamped p in
    record {
      rows = t.rows ∙ sym size.rows;
      sides = t.sides ∙ sparse.sides ∙ sym size.rows;
      columns = t.columns ∙ sym size.columns;
      bounds = t.bounds ∙ sparse.bounds ∙ sym size.columns;
    })

module _ (s : Shared Ledger) (p q : Known Ledger Turn) (v w : Version) (stands : Stands s.start) (short : s.start.limit < 2 ^ 64) (frozen : HasFrozen p v) (call : IsCalled s p (Freeze (Ok w)) q) (kept : Stamped) (same : kept ≡ stamps_of v.problem) where
  pub then_long : IsSparse v.problem → IsAsLong kept w.problem
  then_long sparse = as_long v.problem w.problem kept same sparse (same_sizes v w (later_version s p q v w stands short frozen call))

  pub then_left : (m : Watched) → AreFormsOf m.forms v.problem → AreAllLeft v m.marks → HasLeft v kept m w
  then_left m forms left = record { stamps = same; forms = forms; left = left; later = later_version s p q v w stands short frozen call }

-- ---- the first round looks at all
pub looks_first : (v : Version) (m : Watched) (n : Around) → m.forms ≡ forms_of v.problem → n ≡ all_around v.problem → LooksAt v m n
looks_first v m n forms ids = record {
  forms = subst (λ (f : Formed). AreFormsOf f v.problem) (sym forms) (formed v.problem);
  each = subst (HasEach (open_on v.tally) v.problem) (sym ids) (all_each (open_on v.tally) v.problem);
}

-- ---- the book that is left
module _ (b c : Ledger) (s : Shared Ledger) (ps : List (Known Ledger Turn)) (start : s.start ≡ b) (stands : Stands b) (leaves : Leaves (IsAnswered IsFrom allows_call) after_call s ps c) where
  pub then_goes : GoesOn b c
  then_goes = subst (λ (x : Ledger). GoesOn x c) start (subst (GoesOn s.start) (sym leaves.left) (goes_along s.start leaves.log (subst Stands (sym start) stands) leaves.legal))

  pub then_few : b.limit < 2 ^ 64 → ((j : ℕ) (side : Side) → tightenings b.records j side ≤ 10) → (j : ℕ) (side : Side) → tightenings c.records j side ≤ 10
  then_few short few =
      subst (λ (x : Ledger). (j : ℕ) (side : Side) → tightenings x.records j side ≤ 10) (sym leaves.left)
      (few_along s.start leaves.log (subst Stands (sym start) stands) (subst (λ (x : Ledger). x.limit < 2 ^ 64) (sym start) short) (subst (λ (x : Ledger). (j : ℕ) (side : Side) → tightenings x.records j side ≤ 10) (sym start) few) leaves.legal)

-- ---- where nothing has changed since a version all is enabled and open where it was
module _ (v : Version) (c : Ledger) (stamps : Stamped) (n : Around) (later : IsLater v (version_of c)) (same : stamps ≡ stamps_of v.problem) (notices : NoticesAll stamps c.problem []) where
  stands_at : (a : Part) → changes_of c.problem a ≡ changes_of v.problem a
  stands_at a = by (notices a)
    where
      by : (changes_of c.problem a ≡ stamp_at stamps a) ⊎ Contains [] a → changes_of c.problem a ≡ changes_of v.problem a
      by (inl e) = e ∙ ap (λ (s : Stamped). stamp_at s a) same ∙ (stamped v.problem).tell a
      by (inr k) = absurd (none_in a k)

  all_unchanged : (ps : List Part) → are_unchanged (changes_of v.problem) c.problem ps ≡ true
  all_unchanged [] = refl
  all_unchanged (a ∷ ps) = ap₂ (λ (x y : Bool). x && y) (eq-eqb (changes_of c.problem a) (changes_of v.problem a) (stands_at a)) (all_unchanged ps)

  after : (a : Part) → IsLaterAt v.problem c.problem a
  after a = subst (λ (x : Version). IsLaterAt x.problem c.problem a) (sym later.before) (subst (λ (x : Version). IsLaterAt later.earlier.problem x.problem a) (sym later.after) (later.follows.later a))

  was_enabled : (e : Instance) → enabled_on c.problem e ≡ true → enabled_on v.problem e ≡ true
  was_enabled e on = sym (fresh_enables v.problem c.problem e (unchanged_fresh (changes_of v.problem) v.problem c.problem after (λ x. refl) e (all_unchanged (reads c.problem e)))) ∙ on

  was_open : (e : Instance) → is_open (open_on c.tally) e ≡ true → is_open (open_on v.tally) e ≡ true
  was_open e o = subst (λ (x : Version). is_open (open_on x.tally) e ≡ true) (sym later.before) (later.opened e (subst (λ (x : Version). is_open (open_on x.tally) e ≡ true) later.after o))

  pub still_each : HasEach (open_on v.tally) v.problem n → HasEach (open_on c.tally) c.problem n
  still_each each e on o = each e (was_enabled e on) (was_open e o)

-- ---- the book that is left comes after a version that the only pass saw
pub closed_later : (s : Shared Ledger) (p : Known Ledger Turn) (ps : List (Known Ledger Turn)) (c : Ledger) (v : Version) → Stands s.start → s.start.limit < 2 ^ 64 → Leaves (IsAnswered IsFrom allows_call) after_call s ps c → ps ≡ p ∷ [] → HasFrozen p v → IsLater v (version_of c)
closed_later s p ps c v stands short leaves one frozen =
    let seen : StartsWith leaves.log p.seen = subst (λ (qs : List (Known Ledger Turn)). All (λ q. StartsWith leaves.log q.seen) qs) one leaves.seen 0 p (omega arith) in
    later_left s p c v leaves.log stands short leaves.legal leaves.left seen frozen
