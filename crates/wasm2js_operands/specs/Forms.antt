-- By which numbers the tables of a module's types are named.
use Rattle.std.specs.Prelude.{ℕ, List, map}
use Rattle.wasm_lang.specs.Modules.{FunctionType}
use Rattle.wasm2js_translation.specs.Bodies.{form_number}

-- for each type the least number of a type of its form
abbrev pub form_numbers : List FunctionType → List ℕ
form_numbers types = map (form_number types) types
