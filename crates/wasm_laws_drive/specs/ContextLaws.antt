-- What surroundings make of an outcome.
use Rattle.std.specs.Prelude.{◌≡◌, ℕ, List, Option}
use Rattle.sem_words.specs.declared.word.Word.{Word}
use Rattle.session_lang.specs.Observation.{EndPlain}
use Rattle.wasm_lang.specs.Modules.{WasmModule}
use Rattle.wasm_lang_exec.specs.Store.{Store}
use Rattle.wasm_lang_exec.specs.Plain.{Effect}
use Rattle.wasm_lang_exec.specs.Reductions.{Config, choose}
use Rattle.wasm_laws_drive.specs.Drive.{State, Outcome, Ended, Stuck, Spent, drive}
use Rattle.wasm_laws_drive.specs.Equations.{pay, take_number, take_values, after}
use Rattle.wasm_laws_drive.specs.Contexts.{Surrounding, surrounded, closed}

-- a configuration in its surroundings comes to what they make of what comes of it
abbrev pub ThroughSurroundings : Type 0
ThroughSurroundings =
    (m : WasmModule) (around : List Surrounding) (n : ℕ) (c : Config) (locals : List Word) (s : Store)
    → let placed = surrounded around c locals in drive m n placed.0 placed.1 s ≡ closed m around (drive m n c locals s)

-- an end, want of a reduction and the last reduction stay what they are
abbrev pub EndsStay : Type 0
EndsStay = (m : WasmModule) (around : List Surrounding) (e : EndPlain) (s : Store) → closed m around (Ended e s) ≡ Ended e s

abbrev pub StuckStays : Type 0
StuckStays = (m : WasmModule) (around : List Surrounding) (s : Store) → closed m around (Stuck s) ≡ Stuck s

abbrev pub SpentStays : Type 0
SpentStays = (m : WasmModule) (around : List Surrounding) (s : Store) → closed m around (Spent s) ≡ Spent s

-- a reduction, an operand, values, an effect and a choice are taken inside
abbrev pub PaidInside : Type 0
PaidInside = (m : WasmModule) (around : List Surrounding) (t : State) (go : State → Outcome) → closed m around (pay t go) ≡ pay t (λ t. closed m around (go t))

abbrev pub NumberInside : Type 0
NumberInside =
    (m : WasmModule) (around : List Surrounding) (values : List Word) (t : State) (go : ℕ → State → Outcome)
    → closed m around (take_number values t go) ≡ take_number values t (λ n t. closed m around (go n t))

abbrev pub ValuesInside : Type 0
ValuesInside =
    (m : WasmModule) (around : List Surrounding) (values : Option (List Word)) (t : State) (go : List Word → Outcome)
    → closed m around (take_values values t go) ≡ take_values values t (λ values. closed m around (go values))

abbrev pub EffectInside : Type 0
EffectInside =
    (m : WasmModule) (around : List Surrounding) (e : Effect) (t : State) (go : State → Outcome)
    → closed m around (after e t go) ≡ after e t (λ t. closed m around (go t))

abbrev pub ChoiceInside : Type 0
ChoiceInside = (m : WasmModule) (around : List Surrounding) (n : ℕ) (r other : Outcome) → closed m around (choose n r other) ≡ choose n (closed m around r) (closed m around other)
