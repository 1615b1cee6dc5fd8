-- Words and lines behind other bytes.
use Rattle.std.proofs.Common.{◌≡◌, ℕ, List, [], ◌∷◌, ◌++◌, refl, sym, ap, ◌∙◌, append_assoc}
use Rattle.std.proofs.lemmas.List.{append-nil}
use Rattle.std.specs.Prelude.{codes}
use Rattle.undo_records.specs.Postsolve.{Postsolve}
use Rattle.record_values.specs.declared.value.Value.{Value}
use Rattle.record_values.specs.declared.version.TextVersion.{TextVersion}
use Rattle.record_file.specs.Fields.{value_words, words_of_values}
use Rattle.record_file.specs.RecordText.{Line, spaced, line_text, lines_text, header_lines, label_lines, offset_line, undo_lines, end_line, record_text}
use Rattle.record_file.specs.Onto.{words_onto}

pub words_onto_is : (bytes : List ℕ) (ws : List (List ℕ)) → words_onto bytes ws ≡ bytes ++ spaced ws
words_onto_is bytes [] = sym (append-nil bytes)
words_onto_is bytes (w ∷ ws) = words_onto_is (bytes ++ 32 ∷ w) ws ∙ append_assoc bytes (32 ∷ w) (spaced ws)

-- words behind words
pub words_onto_both : (bytes : List ℕ) (vs ws : List (List ℕ)) → words_onto bytes (vs ++ ws) ≡ words_onto (words_onto bytes vs) ws
words_onto_both bytes [] ws = refl
words_onto_both bytes (v ∷ vs) ws = words_onto_both (bytes ++ 32 ∷ v) vs ws

-- values behind other bytes, one after another
abbrev pub values_onto : List ℕ → List Value → List ℕ
values_onto bytes [] = bytes
values_onto bytes (v ∷ vs) = values_onto (words_onto bytes (value_words v)) vs

pub values_onto_is : (bytes : List ℕ) (vs : List Value) → values_onto bytes vs ≡ words_onto bytes (words_of_values vs)
values_onto_is bytes [] = refl
values_onto_is bytes (v ∷ vs) = values_onto_is (words_onto bytes (value_words v)) vs ∙ sym (words_onto_both bytes (value_words v) (words_of_values vs))

-- a line behind other bytes
pub line_onto_is : (bytes first : List ℕ) (ws : List (List ℕ)) → words_onto (bytes ++ first) ws ++ 10 ∷ [] ≡ bytes ++ ((first ++ spaced ws) ++ 10 ∷ [])
line_onto_is bytes first ws =
    ap (λ x. x ++ 10 ∷ []) (words_onto_is (bytes ++ first) ws ∙ append_assoc bytes first (spaced ws))
    ∙ append_assoc bytes (first ++ spaced ws) (10 ∷ [])

pub lines_text_append : (ls ms : List Line) → lines_text (ls ++ ms) ≡ lines_text ls ++ lines_text ms
lines_text_append [] ms = λ i. lines_text ms
lines_text_append (l ∷ ls) ms =
    ap (λ x. line_text l ++ x) (lines_text_append ls ms) ∙ sym (append_assoc (line_text l) (lines_text ls) (lines_text ms))

-- the sections one after another are the record text
pub sections_are : (v : TextVersion) (p : Postsolve) → ((((lines_text (header_lines v p.sense p.duals) ++ lines_text (label_lines (codes "columns") p.columns)) ++ lines_text (label_lines (codes "rows") p.rows)) ++ line_text (offset_line p.offset)) ++ lines_text (undo_lines v p.undos p.transactions)) ++ codes "end\n" ≡ record_text v p
unfolding record_text
sections_are v p = joined
    (header_lines v p.sense p.duals) (label_lines (codes "columns") p.columns) (label_lines (codes "rows") p.rows) (offset_line p.offset) (undo_lines v p.undos p.transactions) end_line
  where
    joined : (hs bs cs : List Line) (d : Line) (es : List Line) (f : Line) → ((((lines_text hs ++ lines_text bs) ++ lines_text cs) ++ line_text d) ++ lines_text es) ++ line_text f ≡ lines_text (hs ++ (bs ++ (cs ++ d ∷ (es ++ f ∷ []))))
    joined hs bs cs d es f = simp (lines_text_append, append_assoc, append-nil)
