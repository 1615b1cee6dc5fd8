-- The kinds of numbers that a command may be asked for: fractions of 127 bits, or numbers of any width.
use Rattle.std.specs.Prelude.{Bool, true, false}
use Rattle.fractions.specs.Room.{Room, in_frac, in_any_width}
use Rattle.wide_texts.specs.WideRead.{wide_read}
use Rattle.wide_texts.specs.WideWritten.{wide_written, IsShort}
use Rattle.exact_texts.specs.Texts.{Texts, frac_texts}

-- numbers of any width
abbrev pub wide_texts : Texts
wide_texts = record { reading = wide_read; writing = wide_written; IsShort = IsShort }

-- how numbers are read and written, where any width is asked for or not
abbrev pub texts_of : Bool → Texts
texts_of false = frac_texts
texts_of true = wide_texts

-- when they have room
abbrev pub room_of : Bool → Room
room_of false = in_frac
room_of true = in_any_width
