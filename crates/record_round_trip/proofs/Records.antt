-- The line of each record is read as the record.
use Rattle.std.proofs.Common.{◌≡◌, ◌≢◌, ℕ, true, false, not, eqb, List, ◌∷◌, [], ◌++◌, Some, None, refl, ap, ◌∙◌}
use Rattle.std.specs.Prelude.{All}
use Rattle.std.specs.Fmt.{decimal}
use Rattle.std.specs.List.{AllByRecursion}
use Rattle.std.proofs.lemmas.Bool.{and_from, eqb-true, false_from_ne_true}
use Rattle.std.proofs.lemmas.List.{append-nil}
use Rattle.std.proofs.lemmas.List.Elements.{All-head, All-tail, recursion_from_All}
use Rattle.lp_model.specs.declared.terms.Term.{Term}
use Rattle.lp_model.specs.Sparse.{has}
use Rattle.undo_records.specs.Sound.{IsSound}
use Rattle.lp_model.specs.Flags.{Flags}
use Rattle.undo_records.specs.Walk.{NamesLive}
use Rattle.undo_records.specs.declared.undo.Undo.{Undo}
use Rattle.undo_records.specs.declared.undo.Undo.TheVariants.{EmptyRow, SingletonRow, FixedColumn, RoundedBounds, RedundantRow, RedundantSide, ForcingRow, BoundTightening, CoefficientTightening, DualFixing, DominatedColumn, DoubletonEquation, FreeColumnSingleton, SlackColumnSingleton, ParallelRows, ParallelColumns, EmptyColumn}
use Rattle.undo_records.proofs.Walking as walking
use Rattle.record_values.specs.Values.{made, rule_undone, values}
use Rattle.record_values.specs.declared.rule.Rule.{Rule}
use Rattle.record_values.specs.declared.rule.Rule.TheVariants.{K1, K2, K3, K4, K5, K6, K7, K8, K9, K10, K11, K12, K13, K14, K15, K16, K17}
use Rattle.record_values.proofs.Laws.{made_again}
use Rattle.record_file.specs.Words.{list_words}
use Rattle.record_file.specs.Fields.{rule_word, field_words}
use Rattle.record_file.specs.RecordText.{undo_line}
use Rattle.record_fields.specs.Words.{words_of, same_id}
use Rattle.record_fields.specs.Lists.{is_listed}
use Rattle.record_fields.specs.Fields.{fields_fault}
use Rattle.record_words.specs.Rules.{rule_of, fields_of}
use Rattle.record_words.specs.Undos.{agree, form_fault, names_live, rule_fault, undo_fault, rule_undo, undo_of, undo_in}
use Rattle.record_fields.specs.declared.faults.LineFault.TheVariants.{BadLine, BadId}
use Rattle.record_round_trip.specs.Ranges.{IsId, ListFits, ValueFits, UndoFits}
use Rattle.record_round_trip.proofs.Words.{Whole, words_again, bytes_of, IsWhole}
use Rattle.record_round_trip.proofs.Lists.{both, holds, same_word, listed}
use Rattle.record_round_trip.proofs.Values.{AllSuit, are_read}

-- the name of a rule is read as the rule
pub record IsNamed (r : Rule) : Type 0 where
  pub again : rule_of (rule_word r) ≡ Some r
  pub whole : Whole (rule_word r)

is_named : (r : Rule) → IsNamed r
is_named K1 = record { again = refl; whole = refl }
is_named K2 = record { again = refl; whole = refl }
is_named K3 = record { again = refl; whole = refl }
is_named K4 = record { again = refl; whole = refl }
is_named K5 = record { again = refl; whole = refl }
is_named K6 = record { again = refl; whole = refl }
is_named K7 = record { again = refl; whole = refl }
is_named K8 = record { again = refl; whole = refl }
is_named K9 = record { again = refl; whole = refl }
is_named K10 = record { again = refl; whole = refl }
is_named K11 = record { again = refl; whole = refl }
is_named K12 = record { again = refl; whole = refl }
is_named K13 = record { again = refl; whole = refl }
is_named K14 = record { again = refl; whole = refl }
is_named K15 = record { again = refl; whole = refl }
is_named K16 = record { again = refl; whole = refl }
is_named K17 = record { again = refl; whole = refl }

-- a sound record's values suit the fields of its rule
suit : (m n : ℕ) (u : Undo) → IsSound m n u → AllSuit (fields_of (rule_undone u)) (values u)
suit m n (EmptyRow r) s = (tt, tt)
suit m n (SingletonRow r) s = (tt, (tt, (s.2, (tt, (tt, tt)))))
suit m n (FixedColumn r) s = (tt, (tt, (tt, ((m, s.1), tt))))
suit m n (RoundedBounds r) s = (tt, tt)
suit m n (RedundantRow r) s = (tt, tt)
suit m n (RedundantSide r) s = (tt, tt)
suit m n (ForcingRow r) s = (tt, (tt, ((n, s.1), tt)))
suit m n (BoundTightening r) s = (tt, (tt, (tt, ((n, s.2), tt))))
suit m n (CoefficientTightening r) s = (tt, (tt, tt))
suit m n (DualFixing r) s = (tt, tt)
suit m n (DominatedColumn r) s = (tt, (tt, (tt, tt)))
suit m n (DoubletonEquation r) s = (tt, (tt, (tt, (s.0.2, (s.2, (tt, (tt, (tt, (tt, ((m, s.3.0), tt))))))))))
suit m n (FreeColumnSingleton r) s = (tt, (tt, (s.0.2, (tt, (tt, ((n, s.1.0), tt))))))
suit m n (SlackColumnSingleton r) s = (tt, (tt, (s.0.2, (tt, (tt, (tt, (tt, (tt, (tt, ((n, s.1.0), tt))))))))))
suit m n (ParallelRows r) s = (tt, (tt, (s.1, (tt, (tt, ((n, s.2), tt))))))
suit m n (ParallelColumns r) s = (tt, (tt, (s.1, (tt, (tt, (tt, (tt, tt)))))))
suit m n (EmptyColumn r) s = (tt, tt)

-- two ids differ where their words do
apart : (j k : ℕ) → IsId j → IsId k → j ≢ k → not (same_id (decimal j) (decimal k)) ≡ true
apart j k h l n = ap not (same_word j k h l ∙ false_from_ne_true (eqb j k) (λ e. n (eqb-true j k e)))

listed_last : (j : ℕ) (ts : List Term) → IsId j → ListFits ts → is_listed (decimal j) (list_words ts ++ []) ≡ has j ts
listed_last j ts h f = ap (is_listed (decimal j)) (append-nil (list_words ts)) ∙ listed j ts h f

left_out : (j : ℕ) (ts : List Term) → IsId j → ListFits ts → has j ts ≡ false → not (is_listed (decimal j) (list_words ts ++ [])) ≡ true
left_out j ts h f e = ap not (listed_last j ts h f ∙ e)

-- its words agree
agrees : (m n : ℕ) (u : Undo) → IsSound m n u → AllByRecursion ValueFits (values u) → agree (rule_undone u) (field_words u) ≡ true
agrees m n (BoundTightening r) s f = listed_last r.column r.entries f.1.0 f.1.1.1.0 ∙ s.3
agrees m n (DominatedColumn r) s f = apart r.better r.column f.1.0 f.1.1.0 s.1.2
agrees m n (DoubletonEquation r) s f = and_from _ _ (apart r.column r.kept f.1.0 f.1.1.0 s.1.2) (left_out r.row r.entries f.0 f.1.1.1.1.1.1.1.1.1.0 s.3.1)
agrees m n (FreeColumnSingleton r) s f = left_out r.column r.entries f.0 f.1.1.1.1.1.0 s.1.1
agrees m n (SlackColumnSingleton r) s f = left_out r.column r.entries f.0 f.1.1.1.1.1.1.1.1.1.0 s.1.1
agrees m n (ParallelRows r) s f = apart r.row r.kept f.0 f.1.0 s.0.2
agrees m n (ParallelColumns r) s f = apart r.column r.kept f.0 f.1.0 s.0.2
agrees m n other s f = refl

-- so its words are those of its rule, and they are the record
pub record IsReadAgain (u : Undo) : Type 0 where
  pub named : rule_of (rule_word (rule_undone u)) ≡ Some (rule_undone u)
  pub sound : form_fault (rule_undone u) (field_words u) ≡ None
  pub same : undo_of (rule_undone u) (field_words u) ≡ u
  pub whole : IsWhole (undo_line u)

form : (r : Rule) (ws : List (List ℕ)) → fields_fault (fields_of r) ws ≡ None → agree r ws ≡ true → form_fault r ws ≡ None
unfolding form_fault
form r ws e h = both _ _ e (holds _ BadLine h)

pub record_again : (m n : ℕ) (u : Undo) → IsSound m n u → UndoFits u → IsReadAgain u
record_again m n u s f =
    let room = recursion_from_All ValueFits (values u) f in
    let read = are_read (fields_of (rule_undone u)) (values u) (suit m n u s) room in
    let named = is_named (rule_undone u) in
    record {
      named = named.again;
      sound = form (rule_undone u) (field_words u) read.passes (agrees m n u s room);
      same = ap (made (rule_undone u)) read.again ∙ made_again u;
      whole = (named.whole, read.whole);
    }

pub all_again : (m n : ℕ) (us : List Undo) → All (IsSound m n) us → All UndoFits us → AllByRecursion IsReadAgain us
all_again m n [] s r = tt
all_again m n (u ∷ us) s r =
    (record_again m n u (All-head (IsSound m n) u us s) (All-head UndoFits u us r), all_again m n us (All-tail (IsSound m n) u us s) (All-tail UndoFits u us r))

-- ---- the line
pub undo_words : (u : Undo) → IsReadAgain u → words_of (bytes_of (undo_line u)) ≡ rule_word (rule_undone u) ∷ field_words u
undo_words u h = words_again (rule_word (rule_undone u)) (field_words u) h.whole.0 h.whole.1

live : (f : Flags) (u : Undo) → NamesLive f u → names_live f u ≡ true
live f u h = (walking.names_live f u f.rows f.columns _ refl refl refl).1 h

pub undo_passes : (f : Flags) (u : Undo) → IsReadAgain u → NamesLive f u → undo_fault f (rule_word (rule_undone u) ∷ field_words u) ≡ None
undo_passes f u h l = ap (λ o. rule_fault f o (field_words u)) h.named ∙ both _ _ h.sound (holds _ BadId (ap (names_live f) h.same ∙ live f u l))

pub undo_again : (u : Undo) → IsReadAgain u → undo_in (rule_word (rule_undone u) ∷ field_words u) ≡ u
undo_again u h = ap (λ o. rule_undo o (field_words u)) h.named ∙ h.same
