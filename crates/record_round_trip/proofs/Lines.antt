-- The lines of a text of lines.
use Rattle.std.proofs.Common.{◌≡◌, ◌==◌, List, [], ◌∷◌, map, refl, ap, ◌∙◌, append_assoc}
use Rattle.std.specs.List.{AllByRecursion}
use Rattle.text_lines.specs.Lines.{raw_lines_of}
use Rattle.text_lines.proofs.LineLaws.{line_first}
use Rattle.record_file.specs.RecordText.{Line, lines_text}
use Rattle.record_round_trip.proofs.Words.{IsWhole, bytes_of, none_weaker, line_unbroken}

pub lines_again : (ls : List Line) → AllByRecursion IsWhole ls → raw_lines_of (lines_text ls) ≡ map bytes_of ls
lines_again [] all = refl
lines_again (l ∷ ls) all =
    ap raw_lines_of (append_assoc (bytes_of l) (10 ∷ []) (lines_text ls))
    ∙ line_first (λ part. part) (bytes_of l) (lines_text ls) (none_weaker (λ b. b == 10) (λ b. b == 10) (λ b e. e) (bytes_of l) (line_unbroken l all.0))
    ∙ ap (λ bs. bytes_of l ∷ bs) (lines_again ls all.1)
