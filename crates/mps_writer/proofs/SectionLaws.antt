-- The sections one after another.
use Rattle.std.proofs.Common.{◌≡◌, ℕ, List, ◌++◌, append_assoc}
use Rattle.std.specs.Prelude.{codes, flat_map}
use Rattle.lp_model.specs.ProgramData.{ProgramData}
use Rattle.mps_writer.specs.Sections.{range_text, bounds_text}
use Rattle.mps_writer.specs.MpsText.{section, sense_text, rows_section, columns_section, right_sides, mps_text}

-- the sections, each behind those before it, are the program's text
pub sections_are : (p : ProgramData) → ((((((codes "NAME presolved\n" ++ sense_text p.sense) ++ rows_section p.objective p.rows) ++ columns_section p.objective p.rows p.columns) ++ section (codes "RHS") (right_sides p.objective p.constant p.rows)) ++ section (codes "RANGES") (flat_map range_text p.rows)) ++ section (codes "BOUNDS") (flat_map bounds_text p.columns)) ++ codes "ENDATA\n" ≡ mps_text p
unfolding mps_text
sections_are p = joined
    (codes "NAME presolved\n") (sense_text p.sense) (rows_section p.objective p.rows) (columns_section p.objective p.rows p.columns)
    (section (codes "RHS") (right_sides p.objective p.constant p.rows)) (section (codes "RANGES") (flat_map range_text p.rows)) (section (codes "BOUNDS") (flat_map bounds_text p.columns))
    (codes "ENDATA\n")
  where
    joined : (a b c d e f g h : List ℕ) → ((((((a ++ b) ++ c) ++ d) ++ e) ++ f) ++ g) ++ h ≡ a ++ (b ++ (c ++ (d ++ (e ++ (f ++ (g ++ h))))))
    joined a b c d e f g h = simp append_assoc
