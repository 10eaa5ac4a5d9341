-- Plain instructions, and forms of types.
use Rattle.std.proofs.Common.{◌≡◌, ℕ, zero, suc, ◌+◌, Bool, true, false, ◌||◌, List, [], ◌∷◌, ◌++◌, Some, refl, sym, ap, subst, ◌∙◌}
use Rattle.std.specs.Prelude.{slice_get}
use Rattle.wasm_lang.specs.declared.types.ValType.{ValType}
use Rattle.wasm_lang.specs.Instructions as flat
use Rattle.wasm_lang.specs.Instructions.{Instruction}
use Rattle.wasm_lang_valid.specs.Measures.{is_wide_mul_div, has_mul_div}
use Rattle.wasm_lang_valid.specs.Typing.{Context}
use Rattle.wasm_lang_exec.specs.Code.{plain}
use Rattle.asm_lang.specs.Modules.{Stmt}
use Rattle.wasm2js_translation.specs.Words.{Action, statements}
use Rattle.wasm2js_translation.specs.Actions.{actions_amid}
use Rattle.wasm2js_translation.specs.Delays.{Delayed, late, standing}
use Rattle.wasm2js_translation.specs.Known.{Known, lean}
use Rattle.wasm2js_build.specs.Growing.{State, Held, run, late_at, state_of, late_of}
use Rattle.wasm2js_build.specs.declared.straight.Straight.{Straight}
use Rattle.wasm2js_build.proofs.Growing.{run_late}
use Rattle.wasm2js_translation.specs.Bodies.{Aim, after_plain}
use Rattle.wasm2js_actions.specs.Scopes.{instruction_actions}
use Rattle.wasm2js_operands.specs.Scopes.{after}
use Rattle.wasm2js_bodies.specs.Kinds.{is_plain}
use Rattle.wasm2js_bodies.specs.Walks.{IsInside, GoesOn}
use Rattle.wasm2js_bodies.proofs.Steps.{single_step}

either_false : (a b : Bool) → (a || b) ≡ false → (a ≡ false) × (b ≡ false)
either_false true b h = absurd (cc h)
either_false false b h = (refl, h)

-- each instruction of a body that has no other ones is translated
pub is_translated : (body : List Instruction) (at : ℕ) (i : Instruction) → has_mul_div body ≡ false → slice_get body at ≡ Some i → is_wide_mul_div i ≡ false
is_translated [] at i h here = absurd (cc here)
is_translated (j ∷ js) zero i h here = let same : j ≡ i = cc here in subst (λ i. is_wide_mul_div i ≡ false) same (either_false (is_wide_mul_div j) (has_mul_div js) h).0
is_translated (j ∷ js) (suc at) i h here = is_translated js at i (either_false (is_wide_mul_div j) (has_mul_div js) h).1 here

-- where words may wait before straight code they may wait after it
pub late_after : (s : Straight) (told : List Stmt) (ds : List Delayed) (ks : List Known) (acts : List Action) → state_of s ≡ run (late_at told ds ks) acts → late_of s ≡ run (late_at told ds ks) acts
late_after s told ds ks acts e = ap (λ (q : State). late_at q.told q.waits q.known) (e ∙ run_late told ds ks acts) ∙ sym (run_late told ds ks acts)

pub plain_step : (bytes cells : ℕ) (c : Context) (body : List Instruction) (at place : ℕ) (ls : List Aim) (b : ℕ) (ts us : List ValType) (before made : List Stmt) (i : Instruction) (ds es : Held) (fs : List Delayed)
    → is_plain i ≡ true → IsInside body at → slice_get body at ≡ Some i → place ≡ at + 1
    → late_at made fs es.known ≡ run (late_at before ds.waits ds.known) (instruction_actions bytes c ds.waits i b ts) → us ≡ after c i ts → es.waits ≡ standing b us fs
    → GoesOn bytes cells c body at place ls b ts us ds es before made
plain_step bytes cells c body at place ls b ts us before made flat.unreachable ds es fs p s here next m g e = cc
plain_step bytes cells c body at place ls b ts us before made (flat.block r) ds es fs p s here next m g e = cc
plain_step bytes cells c body at place ls b ts us before made (flat.loop r) ds es fs p s here next m g e = cc
plain_step bytes cells c body at place ls b ts us before made (flat.if_block r) ds es fs p s here next m g e = cc
plain_step bytes cells c body at place ls b ts us before made flat.else_mark ds es fs p s here next m g e = cc
plain_step bytes cells c body at place ls b ts us before made flat.end_mark ds es fs p s here next m g e = cc
plain_step bytes cells c body at place ls b ts us before made (flat.br k) ds es fs p s here next m g e = cc
plain_step bytes cells c body at place ls b ts us before made (flat.br_if k) ds es fs p s here next m g e = cc
plain_step bytes cells c body at place ls b ts us before made (flat.br_table ks k) ds es fs p s here next m g e = cc
plain_step bytes cells c body at place ls b ts us before made flat.return ds es fs p s here next m g e = cc
plain_step bytes cells c body at place ls b ts us before made (flat.call f) ds es fs p s here next m g e = cc
plain_step bytes cells c body at place ls b ts us before made (flat.call_indirect t) ds es fs p s here next m g e = cc
plain_step bytes cells c body at place ls b ts us before made (flat.plain i) ds es fs p s here next m g e =
    let x = late ds.waits (actions_amid bytes c ds.waits i b ts) in
    let y = lean ds.known x.now in
    let all : late_at made fs es.known ≡ late_at (before ++ statements y.now) x.later y.known = m ∙ run_late before ds.waits ds.known (actions_amid bytes c ds.waits i b ts) in
    let waits : es.waits ≡ standing b (after_plain c i ts) x.later = e ∙ ap (λ (ws : List ValType). standing b ws fs) g ∙ ap (λ (q : State). standing b (after_plain c i ts) q.waits) all in
    let held : es ≡ record { waits = standing b (after_plain c i ts) x.later; known = y.known } =
    ap (λ (ws : List Delayed). record { waits = ws; known = es.known }) waits
    ∙ ap (λ (q : State). record { waits = standing b (after_plain c i ts) x.later; known = q.known }) all in
    single_step bytes cells c body at ls b ts ds before made (statements y.now) place us (after_plain c i ts) es (record { waits = standing b (after_plain c i ts) x.later; known = y.known }) (flat.plain i) (plain i) s here refl next
    (ap (λ (q : State). q.told) all) g held (λ is. refl) (λ is. refl)
