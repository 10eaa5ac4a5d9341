-- A table of call shapes by name.
use Rattle.std.specs.Prelude.{◌≡◌, ℕ, List, Option, option_map}
use Rattle.std.specs.Borrow.{Bor}
use Rattle.std.specs.HashMap.{HashMap, get_by}
use Rattle.std.specs.Str.{bytes_eq}
use Rattle.session_lang.specs.declared.script.CallShape.{CallShape}
use Rattle.session_lang.specs.CallingForms.{ShapePlain, shape_of_name}
use Rattle.session_lang.specs.Views.{shape_of}

-- the shape at a name in the table
abbrev pub shape_at : {S : Type 0} → HashMap (Bor (List ℕ)) (Bor CallShape) S → List ℕ → Option ShapePlain
shape_at table name = option_map (λ s. shape_of s.now) (get_by (λ key. bytes_eq name key.now) table)

-- the table has the shape of each name
abbrev pub HasShapes : {S : Type 0} → HashMap (Bor (List ℕ)) (Bor CallShape) S → List ShapePlain → Type 0
HasShapes table shapes = (name : List ℕ) → shape_at table name ≡ shape_of_name shapes name
