-- A text has no fault where the definitions of its form say so, and only there.
use Rattle.std.proofs.Common.{◌≡◌, List, ℕ, Option, Some, None, refl, ap}
use Rattle.std.specs.Prelude.{option_map}
use Rattle.fractions.specs.declared.Numbers.{Numbers}
use Rattle.mps_profile.specs.Reading as mps
use Rattle.mps_profile.specs.declared.dialect.Dialect.{Dialect}
use Rattle.opb_text.specs.Reading as opb
use Rattle.endings.specs.declared.forms.Form.TheVariants.{Mps, Opb}
use Rattle.endings.specs.ProgramTexts.{HasNoFault, mps_fault, opb_fault}

none_before : {A B : Type 0} (f : A → B) (o : Option A) → option_map f o ≡ None → o ≡ None
none_before f None is = refl
none_before f (Some a) is = cc

pub mps_sound : (dialect : Dialect) (text : List ℕ) → mps.first_fault dialect text ≡ None → HasNoFault (Mps dialect) text
mps_sound dialect text sound = ap (option_map mps_fault) sound

pub sound_mps : (dialect : Dialect) (text : List ℕ) → HasNoFault (Mps dialect) text → mps.first_fault dialect text ≡ None
sound_mps dialect text sound = none_before mps_fault (mps.first_fault dialect text) sound

pub opb_sound : (numbers : Numbers) (text : List ℕ) → opb.first_fault text ≡ None → HasNoFault (Opb numbers) text
opb_sound numbers text sound = ap (option_map opb_fault) sound

pub sound_opb : (numbers : Numbers) (text : List ℕ) → HasNoFault (Opb numbers) text → opb.first_fault text ≡ None
sound_opb numbers text sound = none_before opb_fault (opb.first_fault text) sound
