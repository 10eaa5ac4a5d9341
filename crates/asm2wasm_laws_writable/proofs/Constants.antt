-- In an accepted module that a text says, heaps, bases of tables and clauses are few.
use Rattle.std.proofs.Common.{◌≡◌, ℕ, ◌+◌, ◌*◌, ◌^◌, ◌<◌, ◌≤◌, Bool, true, false, List, [], ◌∷◌, length, arith}
use Rattle.std.specs.Prelude.{bytes_eq, if◌then◌else◌}
use Rattle.std.specs.List.{AllByRecursion}
use Rattle.wasm_lang_exec.specs.Store.{page}
use Rattle.wasm_laws_write.specs.Each.{EachIn}
use Rattle.asm_lang.specs.Modules.{Function, Table}
use Rattle.asm_lang_valid.specs.Typed.{scope_of}
use Rattle.asm2wasm_lang.specs.Heaps.{is_heap_length, pages_for}
use Rattle.asm2wasm_lang.specs.Tables.{bases_from}
use Rattle.asm2wasm_translation.specs.Numbers.{base_among, base_of}
use Rattle.asm2wasm_translation.specs.Bodies.{function_code}
use Rattle.asm2wasm_laws_within.specs.Within.{members}
use Rattle.asm2wasm_laws_within.proofs.Within.{accepted_are_within}
use Rattle.asm2wasm_laws_writable.specs.Parts.{ConstantFits, HaveFewClauses}
use Rattle.asm2wasm_laws_writable.specs.Laws.{ConstantsFit}
use Rattle.asm2wasm_laws_writable.proofs.Clauses.{clauses_are_few}
use Rattle.asm2wasm_laws_writable.proofs.ConstantsOfBodies.{function_fit}

-- what is known of the lengths of heaps
abbrev pub PagesAreFew : Type 0
PagesAreFew = (size : ℕ) → is_heap_length size ≡ true → pages_for size ≤ 4096

abbrev pub PagesHold : Type 0
PagesHold = (size : ℕ) → size ≤ pages_for size * page

heap_low : PagesAreFew → PagesHold → (size : ℕ) → is_heap_length size ≡ true → size < 2 ^ 32
heap_low few hold size h = let pages = few size h in let all = hold size in omega (arith, pages, all)

base_within : (at : ℕ) (ts : List Table) (n : List ℕ) → base_among (bases_from at ts) ts n ≤ at + members ts
base_within at [] n = omega arith
base_within at (t ∷ ts) n = by (bytes_eq t.name n) (base_within (at + length t.members) ts n)
  where
    by : (b : Bool) → base_among (bases_from (at + length t.members) ts) ts n ≤ at + length t.members + members ts
        → (if b then at else base_among (bases_from (at + length t.members) ts) ts n) ≤ at + (length t.members + members ts)
    by true h = omega arith
    by false h = omega (arith, h)

pub constants_fit : PagesAreFew → PagesHold → ConstantsFit
constants_fit few hold m heap ok formed h = each m.functions (clauses_are_few m ok formed)
  where
    bases : (n : List ℕ) → base_of m n < 2 ^ 32
    bases n = let within = base_within 0 m.tables n in let entries = (accepted_are_within m ok).entries in omega (arith, within, entries)

    each : (fs : List Function) → AllByRecursion (λ (f : Function). HaveFewClauses f.body) fs → AllByRecursion (λ (f : Function). EachIn ConstantFits (function_code heap (scope_of m f))) fs
    each [] l = tt
    each (f ∷ fs) l = (function_fit heap (scope_of m f) (heap_low few hold heap h) bases l.0, each fs l.1)
