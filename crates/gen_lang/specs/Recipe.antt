-- A text of asm.js of so many functions, and what is said of its translation to WebAssembly and back.
use Rattle.std.specs.Prelude.{ℕ, zero, suc, ◌-◌, List, [], ◌∷◌, ◌++◌, codes, decimal}
use Rattle.std.specs.List.{concat}

-- ---- the text

-- the name of the function with this number
abbrev pub name_of : ℕ → List ℕ
name_of i = codes "f" ++ decimal i

-- the line of a function that calls another one, by their numbers
abbrev pub calling_line : (callee i : ℕ) → List ℕ
calling_line callee i =
    concat (codes "function " ∷ name_of i ∷ codes "(x){x=x|0;x=(" ∷ name_of callee ∷ codes "(x)|0)+" ∷ decimal i ∷ codes "|0;H[" ∷ decimal i ∷ codes "]=x;return x|0;}\n" ∷ [])

-- The line of a function. The first one calls none, and any other one the one before it.
abbrev pub line_of : ℕ → List ℕ
line_of zero = codes "function f0(x){x=x|0;return x|0;}\n"
line_of (suc i) = calling_line i (suc i)

-- the lines of so many functions, from that with this number on
abbrev pub lines_from : ℕ → ℕ → List ℕ
lines_from i zero = []
lines_from i (suc n) = line_of i ++ lines_from (suc i) n

abbrev pub heading : List ℕ
heading = codes "function gen(stdlib,foreign,heap){\"use asm\";var H=new stdlib.Int32Array(heap);\n"

-- the text of so many functions, at least one; the last one is exported
abbrev pub recipe : ℕ → List ℕ
recipe n = concat (heading ∷ lines_from 0 n ∷ codes "return " ∷ name_of (n - 1) ∷ codes ";}\n" ∷ [])

-- the heap's length in bytes
abbrev pub recipe_heap : ℕ
recipe_heap = 65536

-- ---- the summary

-- the functions, and the bytes of the text, of the module of WebAssembly, and of the text that that is translated to
abbrev pub summary : ℕ → ℕ → ℕ → ℕ → List ℕ
summary n text wasm back =
    concat (codes "functions " ∷ decimal n ∷ codes "\nasm " ∷ decimal text ∷ codes "\nwasm " ∷ decimal wasm ∷ codes "\njs " ∷ decimal back ∷ codes "\n" ∷ [])
