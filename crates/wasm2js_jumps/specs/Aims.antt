-- What the branches of a body do, as plain data.
use Rattle.std.specs.Prelude.{Bool, true, false, Some, List, [], ◌∷◌, map, reverse}
use Rattle.wasm_lang.specs.declared.types.ValType.TheVariants.{I32}
use Rattle.wasm2js_translation.specs.Bodies as bodies
use Rattle.wasm2js_translation.specs.Bodies.{past, again, out}
use Rattle.wasm2js_jumps.specs.declared.aims.Aim.{Aim}
use Rattle.wasm2js_jumps.specs.declared.aims.Aim.TheVariants.{Past, Again, Out}

abbrev pub aim_view : Aim → bodies.Aim
aim_view (Past base r) = past base r
aim_view (Again base) = again base
aim_view (Out r) = out r

-- the innermost first, which stands last in the code
abbrev pub aims_view : List Aim → List bodies.Aim
aims_view aims = reverse (map aim_view aims)

-- the function's own code, which gives a word of 32 bits where it ends
abbrev pub gives_a_word : List bodies.Aim → Bool
gives_a_word (out (Some I32) ∷ []) = true
gives_a_word ls = false
