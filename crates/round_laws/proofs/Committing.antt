-- Commits one after the other, and what a commit of a frozen proposal is on the present problem.
use Rattle.std.proofs.Common.{◌≡◌, ◌≢◌, ◌⊎◌, inl, inr, ℕ, zero, suc, ◌<◌, Bool, true, false, List, [], ◌∷◌, ◌++◌, length, map, Option, Some, None, sym, refl, ap, ap₂, ◌∙◌, subst, arith}
use Rattle.std.specs.Prelude.{slice_get, if◌then◌else◌}
use Rattle.std.specs.List.{filter}
use Rattle.std.proofs.lemmas.Bool.{cases_lt}
use Rattle.std.proofs.lemmas.List.{map-append}
use Rattle.std.proofs.lemmas.List.Elements.{filter-append}
use Rattle.std.proofs.lemmas.Option.{none-some}
use Rattle.std.proofs.lemmas.Simd.{map-map}
use Rattle.problem_model.specs.declared.part.Part.{Part}
use Rattle.problem_model.specs.declared.part.Read.{Read}
use Rattle.problem_model.specs.Reading.{Agrees, DiffersAt, read_of}
use Rattle.problem_model.specs.Sparse.{Sparse}
use Rattle.presolve_model.specs.declared.instance.Instance.{Instance}
use Rattle.presolve_model.specs.declared.instance.Instance.TheVariants as at
use Rattle.presolve_model.specs.declared.instance.Verdict.{Verdict}
use Rattle.presolve_model.specs.declared.outcome.Outcome.{Outcome}
use Rattle.presolve_model.specs.declared.outcome.Outcome.TheVariants.{Closed, Full, Stale, Past, NotDecimal, Applied, NoMemory}
use Rattle.presolve_model.specs.Commits.{Allows, left_by, with_instance, IsOpen, HasRoom, IsFull, Fits, CanWrite}
use Rattle.presolve_model.specs.Enabled.{enabled_on, reading_of, reads}
use Rattle.presolve_model.specs.Given.{Proposed}
use Rattle.presolve_model.specs.Ledger.{Ledger}
use Rattle.presolve_model.specs.Ordered.{Committed}
use Rattle.presolve_model.specs.Scans.{proposal_of}
use Rattle.presolve_model.proofs.Readings.{enabled_same, reading_same, reads_told}
use Rattle.place_laws.specs.Choosing.{proposals}
use Rattle.place_laws.specs.Standing.{IsFresh, IsLaterAt}

-- ---- one after the other
pub committed_append : (b c d : Ledger) (ps qs : List Proposed) → Committed b ps c → Committed c qs d → Committed b (ps ++ qs) d
committed_append b c d [] qs h k = subst (λ (x : Ledger). Committed x qs d) h k
committed_append b c d (p ∷ ps) qs (o, n, a, h) k = (o, n, a, committed_append (left_by b 0 p o) c d ps qs h k)

-- ---- two answers leave the same book
differs_from : (p : Sparse) (rs : List Read) (k : ℕ) → k < length rs → ((r : Read) → slice_get rs k ≡ Some r → read_of p r.part ≢ r) → Agrees p rs → ⊥
differs_from p [] k l h a = absurd (omega (arith, l))
differs_from p (r ∷ rs) zero l h a = h r refl (let e = a in cc)
differs_from p (r ∷ rs) (suc k) l h a = differs_from p rs k (omega (arith, l)) h (let e = a in cc)

pub differs : (p : Sparse) (rs : List Read) (k : ℕ) → DiffersAt p rs k → Agrees p rs → ⊥
differs p rs k d a = differs_from p rs k d.within d.here a

full_has_no_room : (b : Ledger) (e : Instance) → HasRoom b e → IsFull b e → ⊥
full_has_no_room b (at.Reduction r) h f = omega (arith, h, f)
full_has_no_room b (at.Verdict v) h f = f

-- what is open, has room and can be written is applied
pub left_open : (b : Ledger) (p : Proposed) (o : Outcome) → o ≢ NoMemory → Allows b p o → IsOpen b p → Fits p.instance b.problem → CanWrite b p.instance → left_by b 0 p o ≡ with_instance b 0 p.version p.instance
left_open b p (Closed v) n a i f w = absurd (none-some v (sym i.undecided ∙ a))
left_open b p Full n a i f w = absurd (full_has_no_room b p.instance i.room a.1)
left_open b p (Stale k) n a i f w = absurd (differs b.problem p.reading k a.2 i.agrees)
left_open b p Past n a i f w = absurd (a.1 f)
left_open b p NotDecimal n a i f w = absurd (a.2 w)
left_open b p (Applied k) n a i f w = refl
left_open b p NoMemory n a i f w = absurd (n refl)

-- an answer leaves the book as it is, or it is open and the change has room and can be written
pub left_how : (b : Ledger) (p : Proposed) (o : Outcome) → Allows b p o → (left_by b 0 p o ≡ b) ⊎ (IsOpen b p × Fits p.instance b.problem × CanWrite b p.instance)
left_how b p (Closed v) a = inl refl
left_how b p Full a = inl refl
left_how b p (Stale k) a = inl refl
left_how b p Past a = inl refl
left_how b p NotDecimal a = inl refl
left_how b p (Applied k) a = inr (a.0, a.1, a.2)
left_how b p NoMemory a = inl refl

pub left_same : (b : Ledger) (p : Proposed) (o u : Outcome) → o ≢ NoMemory → u ≢ NoMemory → Allows b p o → Allows b p u → left_by b 0 p o ≡ left_by b 0 p u
left_same b p o u n m a d = by (left_how b p o a) (left_how b p u d)
  where
    by : (left_by b 0 p o ≡ b) ⊎ (IsOpen b p × Fits p.instance b.problem × CanWrite b p.instance) → (left_by b 0 p u ≡ b) ⊎ (IsOpen b p × Fits p.instance b.problem × CanWrite b p.instance) → left_by b 0 p o ≡ left_by b 0 p u
    by (inr x) k = left_open b p o n a x.0 x.1 x.2 ∙ sym (left_open b p u m d x.0 x.1 x.2)
    by (inl e) (inr y) = left_open b p o n a y.0 y.1 y.2 ∙ sym (left_open b p u m d y.0 y.1 y.2)
    by (inl e) (inl f) = e ∙ sym f

pub committed_same : (b c d : Ledger) (ps : List Proposed) → Committed b ps c → Committed b ps d → c ≡ d
committed_same b c d [] h k = h ∙ sym k
committed_same b c d (p ∷ ps) (o, n, a, h) (u, m, x, k) =
    committed_same (left_by b 0 p o) c d ps h (subst (λ (y : Ledger). Committed y ps d) (sym (left_same b p o u n m a x)) k)

-- ---- stale and fresh
-- what is fresh reads the same, and is enabled where it was
pub fresh_parts : (f p : Sparse) (e : Instance) → IsFresh f p e → map (read_of p) (reads f e) ≡ map (read_of f) (reads f e)
fresh_parts f p e h = sym (map-map (λ (r : Read). read_of p r.part) (read_of f) (reads f e)) ∙ h

pub fresh_reads : (f p : Sparse) (e : Instance) → IsFresh f p e → reading_of p e ≡ reading_of f e
fresh_reads f p e h = reading_same f p e (fresh_parts f p e h)

pub fresh_enables : (f p : Sparse) (e : Instance) → IsFresh f p e → enabled_on p e ≡ enabled_on f e
fresh_enables f p e h = enabled_same f p e (fresh_parts f p e h)

pub same_reads : (f p : Sparse) (e : Instance) → reading_of p e ≡ reading_of f e → IsFresh f p e
same_reads f p e h = map-map (λ (r : Read). read_of p r.part) (read_of f) (reads f e) ∙ reads_told f p e h

-- a stale proposal changes nothing
pub stale_stays : (b : Ledger) (p : Proposed) (o : Outcome) → (Agrees b.problem p.reading → ⊥) → Allows b p o → left_by b 0 p o ≡ b
stale_stays b p o h a = by (left_how b p o a)
  where
    by : (left_by b 0 p o ≡ b) ⊎ (IsOpen b p × Fits p.instance b.problem × CanWrite b p.instance) → left_by b 0 p o ≡ b
    by (inl e) = e
    by (inr x) = absurd (h x.0.agrees)

-- a fresh one is answered as its instance's reading of the present problem is, whatever its version
allows_with : (b : Ledger) (e : Instance) (rs : List Read) (v w : ℕ) (o : Outcome) → Allows b (record { instance = e; reading = rs; version = v }) o → Allows b (record { instance = e; reading = rs; version = w }) o
allows_with b e rs v w (Closed x) a = a
allows_with b e rs v w Full a = a
allows_with b e rs v w (Stale k) a = a
allows_with b e rs v w Past a = (record { undecided = a.0.undecided; room = a.0.room; agrees = a.0.agrees }, a.1)
allows_with b e rs v w NotDecimal a = (record { undecided = a.0.undecided; room = a.0.room; agrees = a.0.agrees }, a.1, a.2)
allows_with b e rs v w (Applied k) a = (record { undecided = a.0.undecided; room = a.0.room; agrees = a.0.agrees }, a.1, a.2, a.3)
allows_with b e rs v w NoMemory a = a

pub fresh_commits : (f : Sparse) (b : Ledger) (e : Instance) (v w : ℕ) (o : Outcome) → IsFresh f b.problem e → Allows b (proposal_of b.problem w e) o → Allows b (proposal_of f v e) o
fresh_commits f b e v w o h a =
    subst (λ (rs : List Read). Allows b (record { instance = e; reading = rs; version = v }) o) (fresh_reads f b.problem e h) (allows_with b e (reading_of b.problem e) w v o a)

left_with : (b : Ledger) (p q : Proposed) (o : Outcome) → p.version ≡ q.version → p.instance ≡ q.instance → left_by b 0 p o ≡ left_by b 0 q o
left_with b p q (Closed x) k h = refl
left_with b p q Full k h = refl
left_with b p q (Stale n) k h = refl
left_with b p q Past k h = refl
left_with b p q NotDecimal k h = refl
left_with b p q (Applied n) k h = ap₂ (with_instance b 0) k h
left_with b p q NoMemory k h = refl

-- numbers of changes tell which of a frozen reading's parts is the first that stands otherwise, if any does
read_here : (f p : Sparse) (a : Part) → IsLaterAt f p a → (read_of p a ≡ read_of f a) ⊎ (read_of p a ≢ read_of f a)
read_here f p a (inl e) = inl e
read_here f p a (inr l) = inr (λ e. let n = ap (λ (r : Read). r.changes) e in omega (arith, l, n))

abbrev pub Stays : Sparse → List Read → Type 0
Stays p rs = Agrees p rs ⊎ ((k : ℕ) × DiffersAt p rs k)

one_more : (p : Sparse) (r : Read) (rs : List Read) → read_of p r.part ≡ r → Stays p rs → Stays p (r ∷ rs)
one_more p r rs e (inl a) = inl (ap₂ (λ (x : Read) (xs : List Read). x ∷ xs) e a)
one_more p r rs e (inr (k, d)) = inr (suc k, record { within = let l = d.within in omega (arith, l); before = ap₂ (λ (x : Read) (xs : List Read). x ∷ xs) e d.before; here = d.here })

here_first : (p : Sparse) (r : Read) (rs : List Read) → read_of p r.part ≢ r → Stays p (r ∷ rs)
here_first p r rs n = inr (0, record { within = omega arith; before = refl; here = λ x e. let f : r ≡ x = cc in subst (λ (y : Read). read_of p y.part ≢ y) f n })

pub stays_or_differs : (f p : Sparse) (ps : List Part) → ((a : Part) → IsLaterAt f p a) → Stays p (map (read_of f) ps)
stays_or_differs f p [] h = inl refl
stays_or_differs f p (a ∷ ps) h = by (read_here f p a (h a)) (stays_or_differs f p ps h)
  where
    by : (read_of p a ≡ read_of f a) ⊎ (read_of p a ≢ read_of f a) → Stays p (map (read_of f) ps) → Stays p (read_of f a ∷ map (read_of f) ps)
    by (inl e) ih = one_more p (read_of f a) (map (read_of f) ps) e ih
    by (inr n) ih = here_first p (read_of f a) (map (read_of f) ps) n

-- ---- an instance at its turn
-- what is stale, or not enabled where it stands, is passed over: whether it was enabled on f, and its commit refused, or not
pub refused_how : (b : Ledger) (p : Proposed) → ((k : ℕ) × DiffersAt b.problem p.reading k) → (o : Outcome) × (o ≢ NoMemory) × Allows b p o × (left_by b 0 p o ≡ b)
refused_how b p (k, d) = by b.verdict refl (room p.instance)
  where
    room : (e : Instance) → HasRoom b e ⊎ IsFull b e
    room (at.Verdict v) = inl tt
    room (at.Reduction r) = cases_lt (length b.history) b.limit

    by : (v : Option Verdict) → b.verdict ≡ v → HasRoom b p.instance ⊎ IsFull b p.instance → (o : Outcome) × (o ≢ NoMemory) × Allows b p o × (left_by b 0 p o ≡ b)
    by (Some v) e r = (Closed v, (λ x. cc), e, refl)
    by None e (inl l) = (Stale k, (λ x. cc), (e, l, d), refl)
    by None e (inr l) = (Full, (λ x. cc), (e, l), refl)

pub passed_over : (f : Sparse) (b : Ledger) (v : ℕ) (e : Instance) → ((a : Part) → IsLaterAt f b.problem a) → (enabled_on b.problem e ≡ true → IsFresh f b.problem e → ⊥) → Committed b (proposals f v (e ∷ [])) b
passed_over f b v e later h = by (enabled_on f e) refl (stays_or_differs f b.problem (reads f e) later)
  where
    by : (t : Bool) → enabled_on f e ≡ t → Stays b.problem (reading_of f e) → Committed b (map (proposal_of f v) (if t then e ∷ [] else [])) b
    by false x s = refl
    by true x (inl fresh) = absurd (h (fresh_enables f b.problem e fresh ∙ x) fresh)
    by true x (inr d) = let r = refused_how b (proposal_of f v e) d in (r.0, r.1, r.2, sym r.3)

-- what is fresh and enabled is committed as its reading of the present problem is
pub passed_at : (f : Sparse) (b : Ledger) (v : ℕ) (e : Instance) (o : Outcome) → IsFresh f b.problem e → enabled_on b.problem e ≡ true → o ≢ NoMemory → Allows b (proposal_of b.problem v e) o
    → Committed b (proposals f v (e ∷ [])) (left_by b 0 (proposal_of b.problem v e) o)
passed_at f b v e o fresh on n a = by (enabled_on f e) (sym (fresh_enables f b.problem e fresh) ∙ on)
  where
    by : (t : Bool) → t ≡ true → Committed b (map (proposal_of f v) (if t then e ∷ [] else [])) (left_by b 0 (proposal_of b.problem v e) o)
    by true x = (o, n, fresh_commits f b e v v o fresh a, left_with b (proposal_of b.problem v e) (proposal_of f v e) o refl refl)
    by false x = absurd (let y = x in cc)

pub proposals_append : (f : Sparse) (v : ℕ) (es fs : List Instance) → proposals f v (es ++ fs) ≡ proposals f v es ++ proposals f v fs
proposals_append f v es fs = ap (map (proposal_of f v)) (filter-append (enabled_on f) es fs) ∙ map-append (proposal_of f v) (filter (enabled_on f) es) (filter (enabled_on f) fs)
