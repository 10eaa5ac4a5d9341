-- The code of instructions, and the statements of bodies, as asm.js.
use Rattle.std.specs.Prelude.{◌≡◌, ℕ, ◌^◌, ◌<◌, ◌≤◌, Bool, true, false, ◌||◌, ◌==◌, List, [], ◌++◌, Ok}
use Rattle.wasm_lang.specs.declared.types.ValType.{ValType}
use Rattle.wasm_lang.specs.Instructions.{Plain, const32, const64, load, store, bin64, sign_extend}
use Rattle.wasm_lang_valid.specs.Measures.{is_mul_div}
use Rattle.wasm_lang_valid.specs.Typing.{Context, Shape, Acts, plain_shape}
use Rattle.asm_lang_valid.specs.Typing.{Scope}
use Rattle.wasm2js_laws_terms.specs.Sound.{AreSoundActions, actions_depth}
use Rattle.wasm2js_laws_scopes.specs.Provided.{Called, AsksAmong, Provides, HasRoom}
use Rattle.wasm2js_translation.specs.Actions.{actions_amid}
use Rattle.wasm2js_translation.specs.Delays.{Delayed}
use Rattle.wasm2js_translation.specs.Rooms.{here, local_named}

-- the bytes of loads and stores, and the bits that are extended with their sign

abbrev pub is_loaded : (wide signed : Bool) → ℕ → Bool
is_loaded false false n = (n == 1) || ((n == 2) || (n == 4))
is_loaded false true n = (n == 1) || (n == 2)
is_loaded true false n = (n == 1) || ((n == 2) || ((n == 4) || (n == 8)))
is_loaded true true n = (n == 1) || ((n == 2) || (n == 4))

abbrev pub is_stored : (wide signed : Bool) → ℕ → Bool
is_stored wide false n = is_loaded wide false n
is_stored wide true n = false

abbrev pub is_extended : (wide : Bool) → ℕ → Bool
is_extended false n = (n == 8) || (n == 16)
is_extended true n = (n == 8) || ((n == 16) || (n == 32))

-- an instruction that can be spelled, whose constant is a word, and that is no product, quotient or remainder of words of 64 bits
abbrev pub IsFormed : Plain → Type 0
IsFormed (const32 n) = n < 2 ^ 32
IsFormed (const64 n) = n < 2 ^ 64
IsFormed (load op align offset) = is_loaded op.wide op.signed op.size ≡ true
IsFormed (store op align offset) = is_stored op.wide op.signed op.size ≡ true
IsFormed (bin64 op) = is_mul_div op ≡ false
IsFormed (sign_extend wide bits) = is_extended wide bits ≡ true
IsFormed p = Unit {0}

-- The actions of a plain instruction may stand in a function that has the helpers that it asks for, and room for the operands before and
-- after it, and for the local that it names; operands are those that its type takes, above others. This is so whatever words wait.
abbrev pub PlainIsSound : Type 0
PlainIsSound =
    (s : Scope) (c : Context) (is_called : Called) (bytes cells : ℕ) → Provides s c is_called bytes cells
    → (ds : List Delayed) (p : Plain) → IsFormed p → AsksAmong is_called.helpers p → (form : Shape) (takes gives below : List ValType) → plain_shape c p ≡ Ok form → Acts form takes gives
    → (b : ℕ) → HasRoom s c (here b (takes ++ below) (local_named p)) → HasRoom s c (here b (gives ++ below) [])
    → AreSoundActions s (actions_amid bytes c ds p b (takes ++ below))

-- .. and are no deeper than this
abbrev pub PlainIsShallow : Type 0
PlainIsShallow = (c : Context) (bytes : ℕ) (ds : List Delayed) (p : Plain) (b : ℕ) (ts : List ValType) → actions_depth (actions_amid bytes c ds p b ts) ≤ 8
