-- Tokens whose literals have names.
use Rattle.std.specs.Prelude.{List, [], ◌∷◌}
use Rattle.lp_model.specs.Name.{IsName}
use Rattle.opb_text.specs.Tokens.{Token, Plain, Negated}

abbrev pub NamedToken : Token → Type 0
NamedToken (Plain name) = IsName name
NamedToken (Negated name) = IsName name
NamedToken token = Unit {0}

abbrev pub AreNamed : List Token → Type 0
AreNamed [] = Unit {0}
AreNamed (token ∷ before) = NamedToken token × AreNamed before
