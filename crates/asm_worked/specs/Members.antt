-- Declarations that import members.
use Rattle.std.specs.Prelude.{List, [], ◌∷◌, codes, pos}
use Rattle.asm_lang.specs.Trees.{number, member}
use Rattle.asm_lang.specs.Modules.{Variable}

-- var a=o.f,b=1,c=o.g,d=o.f;
abbrev pub imports : List Variable
imports =
    record { name = codes "a"; init = member (codes "o") (codes "f") } ∷ record { name = codes "b"; init = number (pos 1) }
    ∷ record { name = codes "c"; init = member (codes "o") (codes "g") } ∷ record { name = codes "d"; init = member (codes "o") (codes "f") } ∷ []
