-- What steps of straight code say, as plain data.
use Rattle.std.specs.Prelude.{ℕ, Bool, not, Option, Some, None, List, [], ◌∷◌, map, ◌||◌}
use Rattle.wasm2js_translation.specs.Words as words
use Rattle.wasm2js_translation.specs.Names.{Name, same_name}
use Rattle.wasm2js_translation.specs.Delays.{Delayed, puts, changes, one_puts, one_changes, reads_one, differ, others}
use Rattle.wasm2js_translation.specs.Known.{Known, fact_of, lesser, noted, unchanged}
use Rattle.wasm2js_nodes.specs.Names.{name_view, fixed_view}
use Rattle.wasm2js_terms.specs.Views.{term_view, terms_view}
use Rattle.wasm2js_build.specs.declared.steps.Step.{Step}
use Rattle.wasm2js_build.specs.declared.steps.Step.TheVariants as steps
use Rattle.wasm2js_build.specs.declared.steps.Change.{Change}
use Rattle.wasm2js_build.specs.declared.steps.Change.TheVariants as change

abbrev pub step_view : Step → words.Simple
step_view (steps.Put n t) = words.put (name_view n) (term_view t.now)
step_view (steps.Ask n helper ts) = words.ask (name_view n) (fixed_view helper) (terms_view ts.now)
step_view (steps.Tell helper ts) = words.tell (fixed_view helper) (terms_view ts.now)
step_view (steps.Guard t most kind) = words.guard (term_view t.now) most kind
step_view (steps.Stop kind) = words.stop kind
step_view (steps.WriteByte at t) = words.write_byte (term_view at.now) (term_view t.now)
step_view (steps.WriteWhole at t) = words.write_whole (term_view at.now) (term_view t.now)

abbrev pub steps_view : List Step → List words.Simple
steps_view ss = map step_view ss

-- what waits is written before the change
abbrev pub is_spoiled : Change → Delayed → Bool
is_spoiled (change.One s) d = reads_one (changes (step_view s.now)) d.word
is_spoiled (change.Either first second) d =
    reads_one (λ m. one_changes (steps_view first.now) m || one_changes (steps_view second.now) m) d.word
    || differ (one_puts (steps_view first.now) d.name) (one_puts (steps_view second.now) d.name)

-- the change puts a word into this variable
abbrev pub is_put : Change → Name → Bool
is_put (change.One s) n = puts (step_view s.now) n
is_put (change.Either first second) n = one_puts (steps_view first.now) n

-- what waits is not written before the change
unfoldable pub is_left_in_arms : Change → Delayed → Bool
is_left_in_arms c d = not (is_spoiled c d)

abbrev pub left_in_arms : Change → List Delayed → List Delayed
left_in_arms c ds = others (is_spoiled c) ds

-- behind a test of a word, where that is a variable's
abbrev pub learned_bound : List Known → Option words.Term → (most : ℕ) → List Known
learned_bound ks (Some (words.read n)) most =
    let f = fact_of ks n in noted n (record { most = lesser f.most (Some most); by_four = f.by_four }) (unchanged (same_name n) ks)
learned_bound ks o most = ks

-- the name of a term that is a variable
abbrev pub name_in : words.Term → Option Name
name_in (words.read n) = Some n
name_in t = None
