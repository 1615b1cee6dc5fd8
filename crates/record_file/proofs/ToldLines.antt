-- Records behind their transactions, one after another.
use Rattle.std.proofs.Common.{◌≡◌, ℕ, zero, suc, ◌+◌, ◌<◌, List, [], ◌∷◌, ◌++◌, length, drop, slice_get, slice_index_or, Option, Some, None, sym, ap, ◌∙◌, arith, append_assoc}
use Rattle.std.proofs.lemmas.List.{append-nil}
use Rattle.undo_records.specs.declared.undo.Undo.{Undo}
use Rattle.transactions.specs.Transactions.{Transaction}
use Rattle.record_file.specs.RecordText.{Line, line_text, lines_text, told_at, told_lines, transaction_lines, undo_line}
use Rattle.record_file.proofs.OntoLaws.{lines_text_append}

-- the record at a place, alone
alone : (place k : ℕ) (us : List Undo) (u : Undo) → slice_get us k ≡ Some u → told_lines place (drop k us) [] ≡ told_at place None u ++ told_lines (suc place) (drop (suc k) us) []
alone place zero [] u e = cc
alone place (suc k) [] u e = cc
alone place zero (v ∷ us) u e = ap (λ w. told_at place None w ++ told_lines (suc place) us []) (let h : Some v ≡ Some u = e in cc)
alone place (suc k) (v ∷ us) u e = alone place k us u e

-- the record at a place, behind its transaction
first : (place k : ℕ) (us : List Undo) (ts : List Transaction) (u : Undo) → slice_get us k ≡ Some u
    → told_lines place (drop k us) (drop k ts) ≡ told_at place (slice_get ts k) u ++ told_lines (suc place) (drop (suc k) us) (drop (suc k) ts)
first place zero us [] u e = alone place zero us u e
first place (suc k) us [] u e = alone place (suc k) us u e
first place zero [] (t ∷ ts) u e = cc
first place (suc k) [] (t ∷ ts) u e = cc
first place zero (v ∷ us) (t ∷ ts) u e =
    ap (λ w. transaction_lines place t ++ undo_line w ∷ told_lines (suc place) us ts) (let h : Some v ≡ Some u = e in cc)
    ∙ sym (append_assoc (transaction_lines place t) (undo_line u ∷ []) (told_lines (suc place) us ts))
first place (suc k) (v ∷ us) (t ∷ ts) u e = first place k us ts u e

pub found : (us : List Undo) (k : ℕ) (u : Undo) → k < length us → u ≡ slice_index_or us k u → slice_get us k ≡ Some u
found [] k u l e = absurd (omega (arith, l))
found (v ∷ us) zero u l e = ap Some (sym e)
found (v ∷ us) (suc k) u l e = found us k u (omega (arith, l)) e

-- a record behind its transaction, behind other bytes
pub told_some : (before middle after : List ℕ) (place : ℕ) (o : Option Transaction) (t : Transaction) (u : Undo) → o ≡ Some t → middle ≡ before ++ lines_text (transaction_lines place t) → after ≡ middle ++ line_text (undo_line u)
    → after ≡ before ++ lines_text (told_at place o u)
told_some before middle after place o t u e m a =
    a ∙ ap (λ bytes. bytes ++ line_text (undo_line u)) m
    ∙ append_assoc before (lines_text (transaction_lines place t)) (line_text (undo_line u))
    ∙ ap (λ bytes. before ++ bytes)
    (ap (λ bytes. lines_text (transaction_lines place t) ++ bytes) (sym (append-nil (line_text (undo_line u)))) ∙ sym (lines_text_append (transaction_lines place t) (undo_line u ∷ [])) ∙ ap (λ p. lines_text (told_at place p u)) (sym e))

-- a record more, behind other bytes
pub told_on : (before after out : List ℕ) (k : ℕ) (us : List Undo) (ts : List Transaction) (u : Undo) (o : Option Transaction) → slice_get us k ≡ Some u → o ≡ slice_get ts k
    → after ≡ before ++ lines_text (told_at (k + 1) o u) → before ++ lines_text (told_lines (k + 1) (drop k us) (drop k ts)) ≡ out
    → after ++ lines_text (told_lines (k + 1 + 1) (drop (k + 1) us) (drop (k + 1) ts)) ≡ out
told_on before after out k us ts u o e f a h =
    let next : suc k ≡ k + 1 = omega arith in
    let more : List Line = told_lines (k + 1 + 1) (drop (k + 1) us) (drop (k + 1) ts) in
    let whole : told_lines (k + 1) (drop k us) (drop k ts) ≡ told_at (k + 1) o u ++ more =
    first (k + 1) k us ts u e ∙ ap (λ p. told_at (k + 1) p u ++ told_lines (suc (k + 1)) (drop (suc k) us) (drop (suc k) ts)) (sym f)
    ∙ ap (λ n. told_at (k + 1) o u ++ told_lines (suc (k + 1)) (drop n us) (drop n ts)) next ∙ ap (λ n. told_at (k + 1) o u ++ told_lines n (drop (k + 1) us) (drop (k + 1) ts)) later in
    ap (λ bytes. bytes ++ lines_text more) a
    ∙ append_assoc before (lines_text (told_at (k + 1) o u)) (lines_text more)
    ∙ ap (λ bytes. before ++ bytes) (sym (ap lines_text whole ∙ lines_text_append (told_at (k + 1) o u) more))
    ∙ h
  where
    later : suc (k + 1) ≡ k + 1 + 1
    later = omega arith
