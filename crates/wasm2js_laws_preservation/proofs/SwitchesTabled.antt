-- A branch by an index in its code.
use Rattle.std.proofs.Common.{◌≡◌, ℕ, zero, suc, ◌+◌, ◌-◌, ◌*◌, ◌/◌, ◌^◌, ◌≤◌, Bool, true, false, List, [], ◌∷◌, ◌++◌, length, take, Option, Some, None, Result, Ok, Err, refl, sym, ap, ◌∙◌, subst, arith}
use Rattle.std.specs.Prelude.{slice_get, map, option_map}
use Rattle.std.proofs.lemmas.List.{append_assoc}
use Rattle.std.proofs.lemmas.Option.{slice_get-map}
use Rattle.std.proofs.lemmas.Bool.{and_parts}
use Rattle.sem_words.specs.declared.word.Word.{Word}
use Rattle.session_lang.specs.Observation.{EventPlain}
use Rattle.wasm_lang.specs.declared.types.ValType.{ValType}
use Rattle.wasm_lang.specs.declared.types.ValType.TheVariants.{I32, I64}
use Rattle.wasm_lang_valid.specs.declared.rule.Rule.{Rule}
use Rattle.wasm_lang_valid.specs.declared.rule.Rule.TheVariants.{NoLabel, LabelsDiffer}
use Rattle.wasm_lang_valid.specs.Typing.{listed, Shape, Leaves, Acts, leaves as leaves_acts, found, onward as onward_rule, unless, all_labels, same_result, carries, alike}
use Rattle.wasm_lang_exec.specs.Code.{br_table, Trees, ◌▹◌}
use Rattle.wasm_lang_exec.specs.Reductions.{default_to}
use Rattle.wasm_laws_drive.specs.Drive.{Branch}
use Rattle.wasm_laws_drive.specs.Equations.{take_number}
use Rattle.wasm_laws_drive.specs.Contexts.{Surrounding, closed}
use Rattle.wasm_laws_drive.proofs.Stepping.{br_table_step}
use Rattle.asm_lang.specs.Modules.{Stmt}
use Rattle.asm_lang_exec.specs.Runs.{Place, Part}
use Rattle.asm_lang_exec.specs.Meaning.{Completion, switch_end}
use Rattle.asm_laws_continuation.specs.Following.{Before, exec_all_to, unless_left_to}
use Rattle.wasm2js_translation.specs.Names.{numbered, operand_low}
use Rattle.wasm2js_translation.specs.Words.{stmts_in}
use Rattle.wasm2js_translation.specs.Actions.{under}
use Rattle.wasm2js_translation.specs.Bodies as bodies
use Rattle.wasm2js_translation.specs.Bodies.{Aim, label_of, jump, most_cases}
use Rattle.wasm2js_laws_places.specs.Following.{Rest}
use Rattle.wasm2js_laws_places.specs.Straight.{Words}
use Rattle.wasm2js_laws_places.specs.Places.{word_at, operands, Stays}
use Rattle.wasm2js_laws_preservation.specs.ControlControl.{Function, IsFair, Inside, state_at, sight, code_sight, IsFollowed, statements_to, carried_by, AreNested, Exits, IsKept}
use Rattle.wasm2js_laws_preservation.proofs.ControlStepping.{free_step}
use Rattle.wasm2js_laws_preservation.proofs.InstructionsEnding.{are_words}
use Rattle.wasm2js_laws_preservation.proofs.BranchesJumps.{jump_followed}
use Rattle.wasm2js_laws_preservation.specs.SwitchesLaws.{IndexedBranchesAreKept}
use Rattle.wasm2js_laws_preservation.proofs.SwitchesIndexed.{get_taken, tables_followed}

-- ---- what types say

onward_ok : {A B : Type 0} (o : Result A Rule) (g : A → Result B Rule) (b : B) → onward_rule o g ≡ Ok b → (a : A) × (g a ≡ Ok b)
onward_ok (Ok a) g b h = (a, h)
onward_ok (Err r) g b h = absurd (cc h)

unless_true : (b : Bool) → ◌≡◌ {A = Result (Unit {0}) Rule} (unless b LabelsDiffer tt) (Ok tt) → b ≡ true
unless_true true h = refl
unless_true false h = absurd (cc h)

found_ok : (o : Option (Option ValType)) (g : Option ValType → Shape) (form : Shape) → found NoLabel o g ≡ Ok form → (label : Option ValType) × (o ≡ Some label) × (form ≡ g label)
found_ok None g form h = absurd (cc h)
found_ok (Some label) g form h = let e : g label ≡ form = cc h in (label, refl, sym e)

leaves_take : (ts takes gives : List ValType) → Acts (Leaves ts) takes gives → (more : List ValType) × (takes ≡ ts ++ more)
leaves_take ts takes gives (leaves_acts below after) = (below, refl)

result_is : (a b : Option ValType) → same_result a b ≡ true → a ≡ b
result_is None None h = refl
result_is None (Some t) h = absurd (cc h)
result_is (Some t) None h = absurd (cc h)
result_is (Some I32) (Some I32) h = refl
result_is (Some I32) (Some I64) h = absurd (cc h)
result_is (Some I64) (Some I32) h = absurd (cc h)
result_is (Some I64) (Some I64) h = refl

carries_is : (o : Option (Option ValType)) (label : Option ValType) → carries o (Some label) ≡ true → o ≡ Some label
carries_is None label h = absurd (cc h)
carries_is (Some a) label h = ap Some (result_is a label h)

-- each label of the list carries what the default does
alike_at : (labels : List (Option ValType)) (ks : List ℕ) (d j k : ℕ) (label : Option ValType) → slice_get labels d ≡ Some label → alike labels ks d ≡ true → slice_get ks j ≡ Some k
    → slice_get labels k ≡ Some label
alike_at labels [] d j k label is h there = absurd (cc there)
alike_at labels (k' ∷ ks) d zero k label is h there =
    let parts = and_parts (carries (slice_get labels k') (slice_get labels d)) (alike labels ks d) h in
    let e : k' ≡ k = cc there in
    ap (slice_get labels) (sym e) ∙ carries_is (slice_get labels k') label (subst (λ o. carries (slice_get labels k') o ≡ true) is parts.0)
alike_at labels (k' ∷ ks) d (suc j) k label is h there =
    let parts = and_parts (carries (slice_get labels k') (slice_get labels d)) (alike labels ks d) h in
    alike_at labels ks d j k label is parts.1 there

target_carries : (labels : List (Option ValType)) (ks : List ℕ) (d j : ℕ) (label : Option ValType) (o : Option ℕ) → slice_get labels d ≡ Some label → alike labels ks d ≡ true → slice_get ks j ≡ o
    → slice_get labels (default_to d o) ≡ Some label
target_carries labels ks d j label None is h there = is
target_carries labels ks d j label (Some k) is h there = alike_at labels ks d j k label is h there

record Aimed (o : Option Aim) (label : Option ValType) : Type 0 where
  aim : Aim
  there : o ≡ Some aim
  carried : carried_by aim ≡ label

aimed_in : (o : Option Aim) (label : Option ValType) → option_map carried_by o ≡ Some label → Aimed o label
aimed_in None label h = absurd (cc h)
aimed_in (Some aim) label h = record { aim = aim; there = refl; carried = cc h }

-- ---- in its code

module _ (f : Function) (fair : IsFair f) (ks : List ℕ) (d most : ℕ) (code : Trees) (ls : List Aim) (b : ℕ) (below after : List ValType) (label : Option ValType) (around : List Surrounding)
    (before : Words) (next : Completion → Part (Unit {0})) (nested : AreNested ls b) (ex : Exits f most ls b after false around before next)
    (carried : (j : ℕ) → slice_get (map carried_by ls) (default_to d (slice_get ks j)) ≡ Some label)
    (p : Place) (w : List EventPlain) (i : Inside f most w p) (stays : Stays b before (word_at p)) where
  abbrev us : List ValType
  us = listed label ++ below

  abbrev depth : ℕ
  depth = b + length us

  abbrev index : ℕ
  index = word_at p (numbered operand_low depth)

  abbrev target : ℕ
  target = default_to d (slice_get ks index)

  abbrev values : List Word
  values = operands b us (word_at p)

  abbrev to : ℕ → List Stmt
  to k = jump ls k b us

  target_aimed : Aimed (slice_get ls target) label
  target_aimed = aimed_in (slice_get ls target) label (sym (slice_get-map carried_by ls target) ∙ carried index)

  -- what comes after the clause of a label
  abbrev after_clause : Before (Unit {0}) Completion → Before (Unit {0}) Completion → Completion → Part (Unit {0})
  after_clause others more e = unless_left_to e others (λ e. unless_left_to (switch_end e) more next)

  not_here : false ≡ true → ⊥
  not_here h = cc h

  clause_exits : (others more : Before (Unit {0}) Completion) → Exits f most ls b after false around before (after_clause others more)
  clause_exits others more = record { on = λ h. absurd (not_here h); breaks = ex.breaks; turns = ex.turns; outs = ex.outs; leaves = ex.leaves; ends = λ e. record { types = (ex.ends e).types; gives = (ex.ends e).gives } }

  target_goes : (others more : Before (Unit {0}) Completion)
      → IsFollowed f p (sight f around (Branch target) values p w) (exec_all_to f.calls f.scope f.bound (stmts_in (to target)) (after_clause others more) p)
  target_goes others more =
      let a = target_aimed in
      subst (λ o. IsFollowed f p (sight f around (Branch target) values p w) (exec_all_to f.calls f.scope f.bound (stmts_in (bodies.branch o (label_of ls target) (under 1 b us))) (after_clause others more) p)) (sym a.there)
      (subst (λ l. IsFollowed f p (sight f around (Branch target) (operands b (listed l ++ below) (word_at p)) p w)
      (exec_all_to f.calls f.scope f.bound (stmts_in (bodies.branch (Some a.aim) (label_of ls target) (under 1 b (listed l ++ below)))) (after_clause others more) p)) a.carried
      (jump_followed f fair most around (after_clause others more) ls b after false before nested (clause_exits others more) p w i stays a.aim target below a.there))

  abbrev near : List ℕ
  near = take (2 ^ 32) ks

  near_same : default_to d (slice_get ks index) ≡ default_to d (slice_get near (index - 0))
  near_same =
      let less = are_words p (numbered operand_low depth) in
      let e : index ≡ index - 0 = omega arith in
      ap (default_to d) (sym (get_taken (2 ^ 32) ks index less) ∙ ap (slice_get near) e)

  abbrev start : Rest
  start = code_sight f around (br_table ks d ▹ code) b (I32 ∷ us) p w

  full_room : (n : ℕ) → most_cases * (n / most_cases) ≤ n
  full_room n = omega arith

  table_kept : IsFollowed f p start (statements_to f (br_table ks d ▹ code) ls b (I32 ∷ us) [] [] next p)
  table_kept =
      free_step f fair most w p (operands b (I32 ∷ us) (word_at p)) (λ t. take_number t.values t (λ i t. closed f.home around (Branch (default_to d (slice_get ks i)) t))) start
      (sight f around (Branch target) values p w) (statements_to f (br_table ks d ▹ code) ls b (I32 ∷ us) [] [] next p) i
      (λ n. ap f.watch (br_table_step f.home around ks d code (state_at f (operands b (I32 ∷ us) (word_at p)) p w n))) (λ n. refl)
      (tables_followed f (sight f around (Branch target) values p w) p w most i to depth d next (length near / most_cases) 0 near (omega arith) (full_room (length near))
      (subst (λ k. (others more : Before (Unit {0}) Completion) → IsFollowed f p (sight f around (Branch target) values p w) (exec_all_to f.calls f.scope f.bound (stmts_in (to k)) (after_clause others more) p)) near_same target_goes))

pub indexed_branches_are_kept : IndexedBranchesAreKept
indexed_branches_are_kept f fair ks d most code ls b ts after around before next small typed standing nested ex rest =
    let labels = map carried_by ls in
    let on = onward_ok (all_labels labels ks) (λ _. found NoLabel (slice_get labels d) (λ label. Leaves (I32 ∷ listed label))) typed.form typed.has_form in
    let label = found_ok (slice_get labels d) (λ label. Leaves (I32 ∷ listed label)) typed.form on.1 in
    let acts : Acts (Leaves (I32 ∷ listed label.0)) typed.takes typed.gives = subst (λ s. Acts s typed.takes typed.gives) label.2 typed.acts in
    let takes = leaves_take (I32 ∷ listed label.0) typed.takes typed.gives acts in
    let below : List ValType = takes.0 ++ typed.below in
    let is : ts ≡ (I32 ∷ listed label.0) ++ below = typed.operands ∙ ap (λ x. x ++ typed.below) takes.1 ∙ append_assoc (I32 ∷ listed label.0) takes.0 typed.below in
    let same = unless_true (alike labels ks d) typed.keeps_rules in
    subst (λ ts. IsKept f most (br_table ks d ▹ code) ls b ts around before next) (sym is)
    (λ p w i stays. table_kept f fair ks d most code ls b below after label.0 around before next nested ex (λ j. target_carries labels ks d j label.0 (slice_get ks j) label.1 same refl) p w i stays)
