-- A sum of two words of 64 bits that forgets what the low words carry, in a module where it may stand.
use Rattle.std.specs.Prelude.{ℕ, false, List, [], ◌∷◌, None, Some, pos, codes}
use Rattle.sem_words.specs.declared.js_value.JsValue.TheVariants.{Whole}
use Rattle.sem_words.specs.declared.js_value.JsOp.TheVariants.{Or}
use Rattle.asm_lang.specs.Trees.{number, math}
use Rattle.asm_lang.specs.Modules.{Expr, lit, var, assign, binary, chain, no_links, links, Stmt, plain, Variable, Param, Function, one, Module}
use Rattle.asm_lang_exec.specs.Runs.{binding, Place}
use Rattle.wasm2js_lang.specs.SplitWords.{Halves, sequence, spare}

abbrev pub first : Halves
first = record { low = codes "a"; high = codes "b" }

abbrev pub second : Halves
second = record { low = codes "c"; high = codes "d" }

-- `n=n+k|0;`
abbrev pub adds : List ℕ → List ℕ → Stmt
adds n k = plain (assign n (binary Or (chain (var n) (links false (var k) no_links)) (lit (pos 0))))

abbrev pub sum_by_halves : List Stmt
sum_by_halves = adds first.low second.low ∷ adds first.high second.high ∷ []

abbrev pub int_param : List ℕ → Param
int_param n = record { name = n; double = false }

abbrev pub adding : Function
adding = record { name = codes "f"; params = int_param first.low ∷ int_param first.high ∷ int_param second.low ∷ int_param second.high ∷ []; locals = []; body = sequence sum_by_halves }

-- function m(stdlib){"use asm";var $clz32=stdlib.Math.clz32,$q=0;function f(a,b,c,d){..}return f;}
abbrev pub home : Module
home = record {
  name = Some (codes "m");
  params = codes "stdlib" ∷ [];
  globals = record { name = codes "$clz32"; init = math (codes "stdlib") (codes "clz32") } ∷ record { name = spare; init = number (pos 0) } ∷ [];
  functions = adding ∷ [];
  tables = [];
  exports = one (codes "f");
}

-- 2 ^ 32 - 1 and 2 ^ 32 - 1
abbrev pub before : Place
before = record {
  locals = binding first.low (Whole (pos 4294967295)) ∷ binding first.high (Whole (pos 0)) ∷ binding second.low (Whole (pos 4294967295)) ∷ binding second.high (Whole (pos 0)) ∷ [];
  globals = binding spare (Whole (pos 0)) ∷ [];
  heap = [];
  replies = record { left = []; last = 0 };
  events = [];
  units = 256;
}
