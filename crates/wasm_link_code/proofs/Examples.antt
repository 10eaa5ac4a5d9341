-- Pairs and the modules that they are linked to show the same, as the checker computes it.
use Rattle.std.proofs.Common.{◌≡◌, [], ◌∷◌, refl}
use Rattle.std.specs.Prelude.{pos, codes}
use Rattle.sem_words.specs.declared.word.Word.TheVariants.{W32}
use Rattle.sem_words.specs.declared.word.TrapKind.TheVariants as kinds
use Rattle.session_lang.specs.Script.{give}
use Rattle.session_lang.specs.Observation.{import_called, call_gave, done, trapped, running, ended}
use Rattle.wasm_lang_exec.specs.Session.{wasm}
use Rattle.wasm_link_lang.specs.Session.{pair}
use Rattle.wasm_link_lang.proofs.Examples.{both, two_tables, two_starts, called_once}
use Rattle.wasm_link_code.specs.Numbers.{number, global_number}
use Rattle.wasm_link_code.specs.Linked.{linked}

-- ---- a call of the library's function

-- `two` is 1, and `inc` is 0: the bound import is gone
numbers : number both 1 ≡ 0
unfolding number
numbers = refl

numbers_of_own : number both 2 ≡ 1
unfolding number
numbers_of_own = refl

calls_it_twice : (wasm (linked both) (called_once (codes "two") (pos 5) []) 12) ≡ pair both (called_once (codes "two") (pos 5) []) 12
unfolding linked number
calls_it_twice = refl

goes_on : wasm (linked both) (called_once (codes "two") (pos 5) []) 11 ≡ running []
unfolding linked number
goes_on = refl

-- ---- each module's code sees its own table: an index past it costs five more

its_own_entry : wasm (linked two_tables) (called_once (codes "c") (pos 0) []) 20 ≡ ended (call_gave (W32 42) ∷ []) done []
unfolding linked number
its_own_entry = refl

the_firsts_entry : wasm (linked two_tables) (called_once (codes "b") (pos 0) []) 20 ≡ ended (call_gave (W32 41) ∷ []) done []
unfolding linked number
the_firsts_entry = refl

past_its_table : wasm (linked two_tables) (called_once (codes "c") (pos 1) []) 20 ≡ ended [] (trapped kinds.TableEntry) []
unfolding linked number
past_its_table = refl

past_the_firsts_table : wasm (linked two_tables) (called_once (codes "b") (pos 1) []) 20 ≡ ended [] (trapped kinds.TableEntry) []
unfolding linked number
past_the_firsts_table = refl

before_its_table : wasm (linked two_tables) (called_once (codes "c") (pos 4294967295) []) 20 ≡ ended [] (trapped kinds.TableEntry) []
unfolding linked number
before_its_table = refl

-- ---- both starts run, by one more function

starts_in_order :
    wasm (linked two_starts) (called_once (codes "b") (pos 0) (record { reply = give 6 []; line = 2 } ∷ record { reply = give 9 []; line = 3 } ∷ [])) 30
    ≡ ended (import_called (codes "x") (W32 1 ∷ []) ∷ import_called (codes "y") (W32 2 ∷ []) ∷ call_gave (W32 9) ∷ []) done []
unfolding linked number global_number
starts_in_order = refl
