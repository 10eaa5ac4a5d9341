-- The runs.
use Rattle.std.proofs.Common.{◌≡◌, ℕ, List, [], ◌∷◌, Ok, refl}
use Rattle.std.specs.Prelude.{ℤ, pos, negsuc, codes}
use Rattle.std.specs.Fmt.{digits}
use Rattle.sem_words.specs.declared.word.Bin.TheVariants.{Add, DivS}
use Rattle.session_lang.specs.Script.{CallPlain, ScriptPlain}
use Rattle.script_lang.specs.Reading.{said_script}
use Rattle.script_read.specs.declared.fault.ScriptFault.TheVariants as scripts
use Rattle.script_lang.specs.Texts.{observation_text}
use Rattle.wasm_lang_exec.specs.Session.{wasm}
use Rattle.bridge_lang.specs.WasmVerdicts.{IsCounted}
use Rattle.bridge_lang.specs.WasmRuns.{IsRunnable}
use Rattle.bridge_lang.specs.WasmRuns.{script_for}
use Rattle.wasm_worked.specs.Played.{IsPlayed, IsUnplayed}
use Rattle.wasm_worked.specs.Rows as rows
use Rattle.wasm_worked.proofs.Modules.{operating, sum_is_valid, quotient_is_valid}

sum_is_run : IsRunnable rows.sum_bytes (operating Add)
sum_is_run = record { taken = sum_is_valid; runs = refl }

quotient_is_run : IsRunnable rows.quotient_bytes (operating DivS)
quotient_is_run = record { taken = quotient_is_valid; runs = refl }

pub sum_counts : IsCounted rows.sum_bytes (codes "wasm functions 1 imports 0 exports 1\n")
unfolding digits
sum_counts = record { «module» = operating Add; taken = sum_is_valid; counted = refl }

-- ---- scripts

abbrev called : List ℤ → ℕ → CallPlain
called zs line = record { name = codes "f"; args = zs; line = line }

abbrev calls : List CallPlain → ScriptPlain
calls cs = record { globals = []; writes = []; calls = cs; replies = [] }

abbrev sums : ScriptPlain
sums = calls (called (pos 2147483647 ∷ pos 1 ∷ []) 2 ∷ called (negsuc 4 ∷ pos 3 ∷ []) 3 ∷ [])

sums_are_said : script_for (operating Add) rows.sum_script ≡ Ok sums
unfolding said_script
sums_are_said = refl

sums_are_seen : codes "result -2147483648\nresult -2\nend done\n" ≡ observation_text (wasm (operating Add) sums 1000000)
unfolding digits
sums_are_seen = refl

first_is_seen : codes "result -2147483648\nstill running\n" ≡ observation_text (wasm (operating Add) sums 6)
unfolding digits
first_is_seen = refl

pub sum_wraps : IsPlayed rows.sum_bytes rows.sum_script 1000000 (codes "result -2147483648\nresult -2\nend done\n")
sum_wraps = record { «module» = operating Add; taken = sum_is_run; prints = record { script = sums; said = sums_are_said; printed = sums_are_seen } }

pub sum_still_runs : IsPlayed rows.sum_bytes rows.sum_script 6 (codes "result -2147483648\nstill running\n")
sum_still_runs = record { «module» = operating Add; taken = sum_is_run; prints = record { script = sums; said = sums_are_said; printed = first_is_seen } }

abbrev quotients : ScriptPlain
quotients = calls (called (negsuc 6 ∷ pos 2 ∷ []) 1 ∷ called (pos 7 ∷ pos 0 ∷ []) 2 ∷ called (pos 7 ∷ pos 1 ∷ []) 3 ∷ [])

quotients_are_said : script_for (operating DivS) (codes "call f -7 2\ncall f 7 0\ncall f 7 1\n") ≡ Ok quotients
unfolding said_script
quotients_are_said = refl

quotients_are_seen : codes "result -3\nend trap 3\n" ≡ observation_text (wasm (operating DivS) quotients 1000000)
unfolding digits
quotients_are_seen = refl

pub quotient_traps : IsPlayed rows.quotient_bytes (codes "call f -7 2\ncall f 7 0\ncall f 7 1\n") 1000000 (codes "result -3\nend trap 3\n")
quotient_traps = record { «module» = operating DivS; taken = quotient_is_run; prints = record { script = quotients; said = quotients_are_said; printed = quotients_are_seen } }

abbrev least : ScriptPlain
least = calls (called (negsuc 2147483647 ∷ negsuc 0 ∷ []) 1 ∷ [])

least_is_said : script_for (operating DivS) (codes "call f -2147483648 -1\n") ≡ Ok least
unfolding said_script
least_is_said = refl

least_is_seen : codes "end trap 4\n" ≡ observation_text (wasm (operating DivS) least 1000000)
unfolding digits
least_is_seen = refl

pub quotient_overflows : IsPlayed rows.quotient_bytes (codes "call f -2147483648 -1\n") 1000000 (codes "end trap 4\n")
quotient_overflows = record { «module» = operating DivS; taken = quotient_is_run; prints = record { script = least; said = least_is_said; printed = least_is_seen } }

-- ---- refused scripts

pub too_few : IsUnplayed rows.sum_bytes (codes "call f 1 2\ncall f 1\n") (scripts.Refused 2)
unfolding said_script
too_few = record { «module» = operating Add; taken = sum_is_run; refusal = refl }

pub unknown : IsUnplayed rows.sum_bytes (codes "# g isn't there\ncall g 1 2\n") (scripts.Refused 2)
unfolding said_script
unknown = record { «module» = operating Add; taken = sum_is_run; refusal = refl }

pub no_number : IsUnplayed rows.sum_bytes (codes "call f 1\n\ncall f 01 2\n") (scripts.Refused 3)
unfolding said_script
no_number = record { «module» = operating Add; taken = sum_is_run; refusal = refl }
