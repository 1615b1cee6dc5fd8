-- What records name, and sums of nothing.
use Rattle.std.proofs.Common.{◌≡◌, ℕ, Bool, true, List, [], ◌∷◌, map, get_or, ◌∙◌, pos, refl}
use Rattle.std.specs.List.{All}
use Rattle.std.proofs.lemmas.List.Elements.{All-nil, All-cons, All-map}
use Rattle.std.proofs.Math.ListN.{get_or-map}
use Rattle.fractions.specs.Number.{rational, zero_ℚ, ◌+ℚ◌}
use Rattle.fractions.specs.Ring.{ring, num, ◌:+◌}
use Rattle.lp_model.specs.declared.terms.Term.{Term}
use Rattle.undo_pairs.specs.Ids.{is_on, ids_of}
use Rattle.problem_model.specs.declared.edit.Edit.{Edit}
use Rattle.problem_model.specs.NewNumbers.{EditIsSided}
use Rattle.problem_model.specs.declared.line.Line.{Line}
use Rattle.problem_model.specs.Matrices.{no_line, line_at, live_only}
use Rattle.problem_laws.proofs.Entries.{live_only-live}

abbrev pub lives : List Line → List Bool
lives lines = map (λ l. l.live) lines

live_on : (lines : List Line) (k : ℕ) → (line_at lines k).live ≡ true → is_on (lives lines) k ≡ true
live_on lines k h = get_or-map (λ (l : Line). l.live) lines k no_line ∙ h

pub one_on : (lines : List Line) (k : ℕ) → (line_at lines k).live ≡ true → All (λ i. is_on (lives lines) i ≡ true) (k ∷ [])
one_on lines k h = All-cons (λ i. is_on (lives lines) i ≡ true) k [] (live_on lines k h) (All-nil (λ i. is_on (lives lines) i ≡ true))

pub none_on : (lines : List Line) → All (λ i. is_on (lives lines) i ≡ true) []
none_on lines = All-nil (λ i. is_on (lives lines) i ≡ true)

pub ids_on : (lines : List Line) (ts : List Term) → All (λ i. is_on (lives lines) i ≡ true) (ids_of (live_only lines ts))
ids_on lines ts = All-map (λ i. is_on (lives lines) i ≡ true) (λ (t : Term). t.id) (live_only lines ts)
    (λ k d l. live_on lines (get_or (live_only lines ts) k d).id (live_only-live lines ts k d l))

-- one and two edits that add nothing
pub nothing : zero_ℚ ≡ zero_ℚ +ℚ zero_ℚ
nothing = ring rational [] (num (pos 0)) (num (pos 0) :+ num (pos 0)) refl

pub nothing_twice : zero_ℚ ≡ zero_ℚ +ℚ (zero_ℚ +ℚ zero_ℚ)
nothing_twice = ring rational [] (num (pos 0)) (num (pos 0) :+ (num (pos 0) :+ num (pos 0))) refl

-- edits that keep sides finite
pub one_sided : (e : Edit) → EditIsSided e → All EditIsSided (e ∷ [])
one_sided e h = All-cons EditIsSided e [] h (All-nil EditIsSided)

pub two_sided : (e f : Edit) → EditIsSided e → EditIsSided f → All EditIsSided (e ∷ f ∷ [])
two_sided e f h k = All-cons EditIsSided e (f ∷ []) h (one_sided f k)
